-- Murmur's pairs do not collide if one block alone differs, or the seed alone.
use Rattle.std.proofs.Common.{◌≡◌, ℕ, ◌+◌, ◌<◌, ◌≤◌, inl, inr, List, ◌∷◌, ◌++◌, length, take, drop, sym, ap, ◌∙◌, arith, length-drop, ◌≢◌, ◌*◌, ◌/◌, ◌%◌, ◌^◌, [], map, refl, length-append}
use Rattle.std.proofs.lemmas.List.{take-append-drop, map-append, length-take-le}
use Rattle.datasketches.specs.Laws.{AgreeOutside, DifferInOneBlock, MurmurSeedLaw}
use Rattle.std.specs.List.{fold}
use Rattle.std.proofs.lemmas.Nat.{mod_below}
use Rattle.std.proofs.lemmas.Bool.{cases_lt}
use Rattle.std.proofs.lemmas.List.Sums.{fold-append}
use Rattle.std.proofs.lemmas.List.Elements.{All-take, All-drop}
use Rattle.datasketches.proofs.ListLemmas.{agree-suffix, agree-beyond, agree-prefix, three_parts}
use Rattle.sketch_base.specs.Bytes.{AreBytes}
use Rattle.sketch_base.proofs.BytesLemmas.{IsByte, bytes_known}
use Rattle.sketch_hash.specs.Words.{IsWord, OneToOne}
use Rattle.sketch_hash.specs.Pieces.{pieces}
use Rattle.sketch_hash.specs.Murmur.{step, block_words, blocks, tail, with_tail, finalize, murmur}
use Rattle.sketch_hash.specs.Laws.{AreWords, IsBlock, PieceLaws, MurmurStepLaws}
use Rattle.sketch_hash.proofs.OneToOne.{◌▸◌, alike}

length_word : (n : ℕ) → IsWord (n % 2 ^ 64)
length_word n = mod_below n (2 ^ 64) (omega arith)

-- ---- a hash in two parts: the pair of words after whole blocks, and what is made of it

-- the hash from the pair after full blocks, for the bytes after them and the length of all
onward : List ℕ → ℕ → ℕ × ℕ → ℕ × ℕ
onward bytes n h = finalize (with_tail (fold step h (blocks bytes)) (tail bytes)) (n % 2 ^ 64)

onward-once : PieceLaws → MurmurStepLaws →
    (bytes : List ℕ) (n : ℕ) → AreBytes bytes → OneToOne AreWords AreWords (onward bytes n)
unfolding onward
onward-once ps ms bytes n h =
    ms.steps_of_pair (blocks bytes) (ms.blocks_read bytes h)
    ▸ ms.tail_of_pair (tail bytes) (ps.rest_bytes 16 bytes h) (ps.rest_below 16 bytes (omega arith))
    ▸ ms.finalize_of_pair (n % 2 ^ 64) (length_word n)

-- the pair of words after whole blocks
pair_after : ℕ → List ℕ → ℕ × ℕ
pair_after seed before = fold step (seed, seed) (blocks before)

pair_after-lands : PieceLaws → MurmurStepLaws →
    (seed : ℕ) (before : List ℕ) → IsWord seed → AreBytes before → AreWords (pair_after seed before)
unfolding pair_after
pair_after-lands ps ms seed before p h =
    (ms.steps_of_pair (blocks before) (ms.blocks_read before h)).lands (seed, seed) (p, p)

blocks-aligned : PieceLaws → MurmurStepLaws →
    (i : ℕ) (before after : List ℕ) → length before ≡ 16 * i →
    blocks (before ++ after) ≡ blocks before ++ blocks after
blocks-aligned ps ms i before after e =
    let whole = ps.whole_rest 16 i before (omega arith) e in
    ap (map block_words) (ps.pieces_behind 16 before after (omega arith) whole)
    ∙ map-append block_words (pieces 16 before) (pieces 16 after)

-- the hash of full blocks and the bytes after them
murmur-aligned : PieceLaws → MurmurStepLaws →
    (seed i : ℕ) (before after : List ℕ) → length before ≡ 16 * i →
    murmur seed (before ++ after) ≡ onward after (length before + length after) (pair_after seed before)
unfolding murmur onward pair_after
murmur-aligned ps ms seed i before after e =
    let whole = ps.whole_rest 16 i before (omega arith) e in
    let last : tail (before ++ after) ≡ tail after = ps.rest_behind 16 before after (omega arith) whole in
    let start : ℕ × ℕ = (seed, seed) in
    let first = fold step start (blocks before) in
    let cut : fold step start (blocks (before ++ after)) ≡ fold step first (blocks after) =
    ap (fold step start) (blocks-aligned ps ms i before after e)
    ∙ fold-append step start (blocks before) (blocks after) in
    rw (last, cut, length-append before after) refl

-- the pair of words after one more block
pair_after-more : PieceLaws → MurmurStepLaws →
    (seed i : ℕ) (before block : List ℕ) → length before ≡ 16 * i → length block ≡ 16 →
    pair_after seed (before ++ block) ≡ step (pair_after seed before) (block_words block)
unfolding pair_after
pair_after-more ps ms seed i before block e f =
    let one = ap (map block_words) (ps.one_piece 16 block (omega arith) f) in
    ap (fold step (seed, seed))
    (blocks-aligned ps ms i before block e ∙ ap (λ list. blocks before ++ list) one)
    ∙ fold-append step (seed, seed) (blocks before) (block_words block ∷ [])

-- ---- a full block, and a partial one

-- The hash is a bijection of one full block, between full blocks and any bytes.
pub murmur_block_law : PieceLaws → MurmurStepLaws → (seed : ℕ) (before after : List ℕ) →
    IsWord seed → AreBytes before → AreBytes after → length before % 16 ≡ 0 →
    OneToOne IsBlock AreWords (λ block. murmur seed (before ++ block ++ after))
murmur_block_law ps ms seed before after p h k e =
    alike (λ block. murmur seed (before ++ block ++ after)) same_hash
    (ms.block_read ▸ ms.step_of_block start (pair_after-lands ps ms seed before p h)
    ▸ onward-once ps ms after n k)
  where
    i : ℕ
    i = length before / 16

    n : ℕ
    n = length before + 16 + length after

    start : ℕ × ℕ
    start = pair_after seed before

    same_hash : (block : List ℕ) → IsBlock block →
        murmur seed (before ++ block ++ after) ≡ onward after n (step start (block_words block))
    same_hash block b =
        let whole : length before ≡ 16 * i = omega arith in
        let size : length (before ++ block) ≡ length before + 16 =
        length-append before block ∙ ap (λ n. length before + n) b.1 in
        murmur-aligned ps ms seed (i + 1) (before ++ block) after (omega arith)
        ∙ ap (λ n. onward after (n + length after) (pair_after seed (before ++ block))) size
        ∙ ap (onward after n) (pair_after-more ps ms seed i before block whole b.1)

pub murmur_seed_law : MurmurStepLaws → MurmurSeedLaw
murmur_seed_law ms = ms.steps_of_pair

-- the hash of full blocks and a partial block
murmur-cut : PieceLaws → MurmurStepLaws →
    (seed i : ℕ) (before last : List ℕ) → length before ≡ 16 * i → length last < 16 →
    murmur seed (before ++ last)
    ≡ finalize (with_tail (pair_after seed before) last) ((length before + length last) % 2 ^ 64)
unfolding onward
murmur-cut ps ms seed i before last e l =
    murmur-aligned ps ms seed i before last e ∙ rw (ps.short_pieces 16 last l, ps.short_rest 16 last l) refl

-- Two partial blocks of one length, after the same full blocks, are equal if the hashes are.
pub cut_block-once : PieceLaws → MurmurStepLaws → (seed i : ℕ) (before a b : List ℕ) →
    IsWord seed → AreBytes before → AreBytes a → AreBytes b →
    length before ≡ 16 * i → length a ≡ length b → length a < 16 →
    murmur seed (before ++ a) ≡ murmur seed (before ++ b) → a ≡ b
cut_block-once ps ms seed i before a b p h j k e m l q =
    let start = pair_after seed before in
    let start_is = pair_after-lands ps ms seed before p h in
    let shorter : length b < 16 = omega arith in
    let n = (length before + length a) % 2 ^ 64 in
    let tail_a = with_tail start a in
    let tail_b = with_tail start b in
    let a_is = (ms.tail_of_pair a j l).lands start start_is in
    let b_is = (ms.tail_of_pair b k shorter).lands start start_is in
    let one_end : finalize tail_a n ≡ finalize tail_b n =
    sym (murmur-cut ps ms seed i before a e l) ∙ q ∙ murmur-cut ps ms seed i before b e shorter
    ∙ ap (λ x. finalize tail_b ((length before + x) % 2 ^ 64)) (sym m) in
    let once = (ms.finalize_of_pair n (length_word (length before + length a))).once in
    ms.tail_of_bytes start a b start_is j k m l (once tail_a tail_b a_is b_is one_end)

-- ---- one stream, or one seed

-- one stream has one hash under one seed only
pub murmur_two_seeds : PieceLaws → MurmurStepLaws →
    (seed_a seed_b : ℕ) (bytes : List ℕ) → IsWord seed_a → IsWord seed_b → AreBytes bytes →
    murmur seed_a bytes ≡ murmur seed_b bytes → seed_a ≡ seed_b
unfolding murmur onward
murmur_two_seeds ps ms seed_a seed_b bytes p q h e =
    let once = (onward-once ps ms bytes (length bytes) h).once in
    ap (λ (pair : ℕ × ℕ). pair.0) (once (seed_a, seed_a) (seed_b, seed_b) (p, p) (q, q) e)

-- two streams of bytes that agree outside one aligned block and have one hash
record SameOutsideBlock (seed i : ℕ) (a b : List ℕ) : Type 0 where
  seed_is : IsWord seed
  a_are : AreBytes a
  b_are : AreBytes b
  one_length : length a ≡ length b
  agree : AgreeOutside (16 * i) (16 * i + 16) a b
  one_hash : murmur seed a ≡ murmur seed b

same_full_block : PieceLaws → MurmurStepLaws →
    (seed i : ℕ) (a b : List ℕ) → SameOutsideBlock seed i a b → 16 * i + 16 ≤ length a → a ≡ b
same_full_block ps ms seed i a b s full =
    let low = 16 * i in
    let before = take low a in
    let block_a = take 16 (drop low a) in
    let block_b = take 16 (drop low b) in
    let after = drop (low + 16) a in
    let in_a = three_parts low 16 a in
    let in_b : before ++ block_b ++ after ≡ b =
    ap (λ t. t ++ block_b ++ after) (agree-prefix low (low + 16) a b s.one_length s.agree)
    ∙ ap (λ t. take low b ++ block_b ++ t) (agree-suffix low (low + 16) a b s.one_length s.agree)
    ∙ three_parts low 16 b in
    let begun : length before ≡ low = length-take-le low a (omega arith) in
    let law = murmur_block_law ps ms seed before after s.seed_is (All-take IsByte low a s.a_are)
    (All-drop IsByte (low + 16) a s.a_are) (omega arith) in
    let b_full : low + 16 ≤ length b = rw (sym s.one_length) full in
    let same = law.once block_a block_b (middle a s.a_are full) (middle b s.b_are b_full)
    (ap (murmur seed) in_a ∙ s.one_hash ∙ sym (ap (murmur seed) in_b)) in
    sym in_a ∙ ap (λ t. before ++ t ++ after) same ∙ in_b
  where
    middle : (bytes : List ℕ) → AreBytes bytes → 16 * i + 16 ≤ length bytes →
        IsBlock (take 16 (drop (16 * i) bytes))
    middle bytes h l = (
      All-take IsByte 16 (drop (16 * i) bytes) (All-drop IsByte (16 * i) bytes h),
      length-take-le 16 (drop (16 * i) bytes) (rw (length-drop (16 * i) bytes) (omega arith)),
    )

same_cut_block : PieceLaws → MurmurStepLaws →
    (seed i : ℕ) (a b : List ℕ) → SameOutsideBlock seed i a b →
    16 * i ≤ length a → length a < 16 * i + 16 → a ≡ b
same_cut_block ps ms seed i a b s begun cut =
    let low = 16 * i in
    let before = take low a in
    let in_a = take-append-drop low a in
    let in_b : before ++ drop low b ≡ b =
    ap (λ t. t ++ drop low b) (agree-prefix low (low + 16) a b s.one_length s.agree)
    ∙ take-append-drop low b in
    let size_a = length-drop low a in
    let size_b = length-drop low b in
    let one_length = s.one_length in
    let same = cut_block-once ps ms seed i before (drop low a) (drop low b) s.seed_is
    (All-take IsByte low a s.a_are) (All-drop IsByte low a s.a_are) (All-drop IsByte low b s.b_are)
    (length-take-le low a begun) (omega arith) (omega arith)
    (ap (murmur seed) in_a ∙ s.one_hash ∙ sym (ap (murmur seed) in_b)) in
    sym in_a ∙ ap (λ t. before ++ t) same ∙ in_b

-- under one seed two streams that differ in one block have two hashes
pub murmur_one_block : PieceLaws → MurmurStepLaws →
    (seed : ℕ) (a b : List ℕ) → IsWord seed → AreBytes a → AreBytes b →
    DifferInOneBlock a b → murmur seed a ≢ murmur seed b
murmur_one_block ps ms seed a b p h k d e =
    let i = d.one_block.0 in
    let s : SameOutsideBlock seed i a b = record {
      seed_is = p;
      a_are = h;
      b_are = k;
      one_length = d.one_length;
      agree = d.one_block.1;
      one_hash = e;
    } in
    d.differ (elim (cases_lt (length a) (16 * i)) [
      | inl beyond ↦ agree-beyond (16 * i) (16 * i + 16) a b d.one_length d.one_block.1 (omega arith)
      | inr begun ↦ elim (cases_lt (length a) (16 * i + 16)) [
        | inl cut ↦ same_cut_block ps ms seed i a b s begun cut
        | inr full ↦ same_full_block ps ms seed i a b s full
      ]
    ])

pub ruleset for_murmur_both = (murmur_one_block, murmur_two_seeds, bytes_known)
