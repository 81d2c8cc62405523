-- Murmur's steps map words onto words, and pairs of words onto pairs of words, each exactly once. So do
-- the sixteen bytes of a block and its two words.
use Rattle.std.proofs.Common.{◌≡◌, ℕ, ◌^◌, ◌<◌, List, ◌++◌, length, take, drop, refl, sym, ap, ◌∙◌, arith, subst, ◌+◌, ◌-◌, replicate, length-append}
use Rattle.std.proofs.lemmas.List.{take-append-drop, append_cancel_right, length-replicate}
use Rattle.std.proofs.lemmas.List.Elements.{All-append, All-map, All-weaker, All-replicate}
use Rattle.sketch_base.specs.Bytes.{le, eight, AreBytes}
use Rattle.sketch_base.proofs.BytesLemmas.{le-lt, low_bytes-are, le-back, le-again, length-low_bytes, IsByte}
use Rattle.sketch_hash.specs.Words.{IsWord, plus, times, rotate, OneToOne}
use Rattle.sketch_hash.specs.Pieces.{pieces}
use Rattle.sketch_hash.specs.Murmur.{block_words, c1, c2, mix1, mix2, fmix, step1, step2, step, blocks, with_tail, cross, finalize}
use Rattle.sketch_hash.specs.Laws.{AreWords, IsBlock, MurmurStepLaws}
use Rattle.sketch_hash.proofs.OneToOne.{Undoes, one_to_one, ◌▸◌, on_first, on_second, on_both, along}
use Rattle.sketch_hash.proofs.WordLemmas.{times-once, plus-once, xor-once, xor_word-once, rotate-once, shifted-once}
use Rattle.sketch_hash.proofs.PiecesLemmas.{IsPiece, pieces-are}
use Rattle.std.specs.List.{All, fold}
use Rattle.sketch_hash.proofs.NumberLemmas.{first_half, halves, joined_words, second_half}

-- eight bytes and their number
pub word_of_bytes : Undoes (IsPiece 8) IsWord le eight
word_of_bytes = record {
  lands = λ bytes h. subst (λ n. le bytes < 256 ^ n) h.1 (le-lt bytes h.0);
  comes = λ n h. (low_bytes-are 8 n, length-low_bytes 8 n);
  back = λ bytes h. le-again 8 bytes h.0 h.1;
  forth = le-back 8;
}

-- a block and its two words
block_of_words : ℕ × ℕ → List ℕ
block_of_words k = eight k.0 ++ eight k.1

block_words-undone : Undoes IsBlock AreWords block_words block_of_words
unfolding block_of_words
block_words-undone = record {
  lands = λ bytes h.
      let low = word_of_bytes.lands (take 8 bytes) (first_half bytes h) in
      let high = word_of_bytes.lands (drop 8 bytes) (second_half bytes h) in
      subst AreWords (sym (halves bytes h)) (low, high);
  comes = λ k h.
      (All-append IsByte (eight k.0) (eight k.1) (low_bytes-are 8 k.0) (low_bytes-are 8 k.1), refl);
  back = λ bytes h.
      ap (λ k. eight k.0 ++ eight k.1) (halves bytes h)
      ∙ ap (λ t. t ++ eight (le (drop 8 bytes))) (word_of_bytes.back (take 8 bytes) (first_half bytes h))
      ∙ ap (λ t. take 8 bytes ++ t) (word_of_bytes.back (drop 8 bytes) (second_half bytes h))
      ∙ take-append-drop 8 bytes;
  forth = λ k h.
      joined_words (eight k.0) (eight k.1) refl refl
      ∙ ap (λ n. (n, le (eight k.1))) (word_of_bytes.forth k.0 h.0)
      ∙ ap (λ n. (k.0, n)) (word_of_bytes.forth k.1 h.1);
}

pub block_words-once : OneToOne IsBlock AreWords block_words
block_words-once = one_to_one block_words-undone

times_c1 : OneToOne IsWord IsWord (λ x. times x c1)
times_c1 = times-once c1 0xa98409e882ce4d7d refl

times_c2 : OneToOne IsWord IsWord (λ x. times x c2)
times_c2 = times-once c2 0xa81e14edd9de2c7f refl

mix1-once : OneToOne IsWord IsWord mix1
unfolding mix1
mix1-once = times_c1 ▸ rotate-once 31 33 refl ▸ times_c2

mix2-once : OneToOne IsWord IsWord mix2
unfolding mix2
mix2-once = times_c2 ▸ rotate-once 33 31 refl ▸ times_c1

fmix-once : OneToOne IsWord IsWord fmix
unfolding fmix
fmix-once =
    let shifted = shifted-once 33 (omega arith) in
    shifted ▸ times-once 0xff51afd7ed558ccd 0x4f74430c22a54005 refl
    ▸ shifted ▸ times-once 0xc4ceb9fe1a85ec53 0x9cb4b2f8129337db refl ▸ shifted

-- the rest of `step1` or `step2`, after a word of the block was mixed in
rest_of_step-once : (a b other c : ℕ) → a + b ≡ 64 → IsWord other → IsWord c →
    OneToOne IsWord IsWord (λ h. plus (times (plus (rotate h a) other) 5) c)
rest_of_step-once a b other c e p q =
    rotate-once a b e ▸ plus-once other p ▸ times-once 5 0xcccccccccccccccd refl ▸ plus-once c q

rest_of_step1-once : (h2 : ℕ) → IsWord h2 →
    OneToOne IsWord IsWord (λ h. plus (times (plus (rotate h 27) h2) 5) 0x52dce729)
rest_of_step1-once h2 p = rest_of_step-once 27 37 h2 0x52dce729 refl p (omega arith)

rest_of_step2-once : (h1 : ℕ) → IsWord h1 →
    OneToOne IsWord IsWord (λ h. plus (times (plus (rotate h 31) h1) 5) 0x38495ab5)
rest_of_step2-once h1 p = rest_of_step-once 31 33 h1 0x38495ab5 refl p (omega arith)

-- a step, for one block
pub step-on_state : (k : ℕ × ℕ) → AreWords k → OneToOne AreWords AreWords (λ h. step h k)
unfolding step step1 step2
step-on_state k p =
    let first = xor-once (mix1 k.0) (mix1-once.lands k.0 p.0) in
    let second = xor-once (mix2 k.1) (mix2-once.lands k.1 p.1) in
    on_first (λ h1 h2. step1 h1 h2 k.0) (λ h2 q. first ▸ rest_of_step1-once h2 q)
    ▸ on_second (λ h1 h2. step2 h1 h2 k.1) (λ h1 q. second ▸ rest_of_step2-once h1 q)

-- a step, as a function of its block
pub step-on_block : (h : ℕ × ℕ) → AreWords h → OneToOne AreWords AreWords (λ k. step h k)
unfolding step step1 step2
step-on_block h p =
    let first = mix1-once ▸ xor_word-once h.0 p.0 in
    let second = mix2-once ▸ xor_word-once h.1 p.1 in
    on_first (λ k1 k2. step1 h.0 h.1 k1) (λ k2 q. first ▸ rest_of_step1-once h.1 p.1)
    ▸ on_second (λ h1 k2. step2 h1 h.1 k2) (λ h1 q. second ▸ rest_of_step2-once h1 q)

-- the steps of a list of blocks, as a function of the pair before them
pub steps-on_state : (blocks : List (ℕ × ℕ)) → All AreWords blocks →
    OneToOne AreWords AreWords (λ h. fold step h blocks)
steps-on_state blocks p = along step step-on_state blocks p

cross-once : OneToOne AreWords AreWords cross
cross-once = on_first plus plus-once ▸ on_second (λ h1 h2. plus h2 h1) plus-once

-- the finalization for one length, as a function of the pair before it
pub finalize-once : (n : ℕ) → IsWord n → OneToOne AreWords AreWords (λ h. finalize h n)
unfolding finalize
finalize-once n p =
    let length_in = xor-once n p in
    on_both length_in length_in ▸ cross-once ▸ on_both fmix-once fmix-once ▸ cross-once

-- ---- blocks and tails of bytes

-- the blocks of bytes are pairs of words
pub blocks-are : (bytes : List ℕ) → AreBytes bytes → All AreWords (blocks bytes)
blocks-are bytes h =
    let read = All-weaker (IsPiece 16) (λ piece. AreWords (block_words piece)) block_words-once.lands in
    All-map AreWords block_words (pieces 16 bytes) (read (pieces 16 bytes) (pieces-are 16 bytes h))

zeros : ℕ → List ℕ
zeros n = replicate n 0

-- a tail, padded with zeros to a block
pad : List ℕ → List ℕ
unfolding zeros
pad waiting = waiting ++ zeros (16 - length waiting)

pad-is : (waiting : List ℕ) → AreBytes waiting → length waiting < 16 → IsBlock (pad waiting)
unfolding pad zeros
pad-is waiting h l =
    let n = 16 - length waiting in
    let size : length (zeros n) ≡ n = length-replicate n 0 in (
      All-append IsByte waiting (zeros n) h (All-replicate IsByte n 0 (omega arith)),
      length-append waiting (zeros n) ∙ omega arith,
    )

pad-once : (a b : List ℕ) → length a ≡ length b → pad a ≡ pad b → a ≡ b
unfolding pad
pad-once a b e q =
    append_cancel_right a b (zeros (16 - length b)) (ap (λ n. a ++ zeros (16 - n)) (sym e) ∙ q)

-- a tail, for one state
pub with_tail-on_state : (waiting : List ℕ) → AreBytes waiting → length waiting < 16 →
    OneToOne AreWords AreWords (λ h. with_tail h waiting)
unfolding with_tail pad zeros
with_tail-on_state waiting h l =
    let words = block_words-once.lands (pad waiting) (pad-is waiting h l) in
    on_both (xor-once _ (mix1-once.lands _ words.0)) (xor-once _ (mix2-once.lands _ words.1))

-- two tails of one length that leave one state are one
pub with_tail-on_bytes : (h : ℕ × ℕ) (a b : List ℕ) → AreWords h → AreBytes a → AreBytes b →
    length a ≡ length b → length a < 16 → with_tail h a ≡ with_tail h b → a ≡ b
unfolding with_tail pad zeros
with_tail-on_bytes h a b p q r e l t =
    let entered = on_both mix1-once mix2-once ▸ on_both (xor_word-once h.0 p.0) (xor_word-once h.1 p.1) in
    let read = block_words-once ▸ entered in
    pad-once a b e (read.once (pad a) (pad b) (pad-is a q l) (pad-is b r (omega arith)) t)

pub murmur_step_laws : MurmurStepLaws
murmur_step_laws = record {
  block_read = block_words-once;
  step_of_block = step-on_block;
  tail_of_pair = with_tail-on_state;
  blocks_read = blocks-are;
  steps_of_pair = steps-on_state;
  tail_of_bytes = with_tail-on_bytes;
  finalize_of_pair = finalize-once;
}
