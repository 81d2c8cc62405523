-- What a Murmur hasher returns: the definition of the bytes that were written to it.
use Rattle.std.proofs.Common.{◌≡◌, ℕ, ◌+◌, ◌-◌, ◌*◌, min, ◌%◌, ◌/◌, ◌^◌, ◌<◌, ◌≤◌, List, [], ◌∷◌, ◌++◌, sym, length, get_or, Fits, w8, refl, ap, ◌∙◌, arith, zero-add}
use Rattle.std.specs.Prelude.{bit_xor}
use Rattle.std.specs.Int.Bits.{xor_zero_r}
use Rattle.sketch_hash.specs.Words.{IsWord, plus, times, xor, xor_below, rotate}
use Rattle.sketch_hash.specs.PiecesWriteLemmas.{murmur_after-append}
use Rattle.std.proofs.Math.Nat.{div-eq_of_lt}
use Rattle.std.proofs.lemmas.List.{nil_from_length}
use Rattle.sketch_base.specs.Bytes.{le, low_bytes}
use Rattle.sketch_base.proofs.BytesLemmas.{bytes_known}
use Rattle.sketch_hash.proofs.WordLemmas.{xor-is, five_times, of_words, of_swapped_words}
use Rattle.sketch_hash.proofs.NumberLemmas.{le-word, tail_words, padded_words, number-lt, number-words}
use Rattle.sketch_hash.specs.Pieces.{State, absorb, pieces, rest}
use Rattle.sketch_hash.specs.Murmur.{cross, fmix, mix1, mix2, step, step1, step2, finalize, with_tail, murmur, murmur_start, murmur_after, murmur_answer, MurmurStands}

-- the definition of the whole bytes
pub murmur_answer-after : (seed : ℕ) (bytes : List ℕ) →
    murmur_answer (murmur_after (murmur_start seed) bytes) ≡ murmur seed bytes
unfolding murmur_answer murmur_after murmur absorb pieces rest
murmur_answer-after seed [] = refl
murmur_answer-after seed (b ∷ bytes) = rw zero-add refl

pub murmur_answer-stands : (seed : ℕ) (bytes : List ℕ) (state : State (ℕ × ℕ)) →
    MurmurStands state seed bytes → murmur_answer state ≡ murmur seed bytes
murmur_answer-stands seed bytes state stands = ap murmur_answer stands ∙ murmur_answer-after seed bytes

-- a write takes a hasher that stands for bytes to one that stands for them and the written ones
pub murmur_stands_after : (state next : State (ℕ × ℕ)) (bytes : List ℕ) →
    next ≡ murmur_after state bytes → (seed : ℕ) (before : List ℕ) →
    MurmurStands state seed before → MurmurStands next seed (before ++ bytes)
murmur_stands_after state next bytes written seed before stands =
    written ∙ ap (λ s. murmur_after s bytes) stands
    ∙ murmur_after-append (murmur_start seed) before bytes

-- a word of the tail that has no bytes leaves what it would enter
pub xor_mix1-zero : (h : ℕ) → IsWord h → xor h (mix1 0) ≡ h
unfolding mix1 rotate
xor_mix1-zero h w = xor-is h 0 w (omega arith) ∙ xor_zero_r h

pub xor_mix2-zero : (h : ℕ) → IsWord h → xor h (mix2 0) ≡ h
unfolding mix2 rotate
xor_mix2-zero h w = xor-is h 0 w (omega arith) ∙ xor_zero_r h

-- `fmix` leaves 0 as it is
pub fmix_zero : (x : ℕ) → x ≡ 0 → 0 ≡ fmix x
unfolding fmix xor xor_below
fmix_zero x e = rw e refl

pub finalize_is : (h1 h2 n : ℕ) →
    finalize (h1, h2) n
    ≡ cross (fmix (cross (xor h1 n, xor h2 n)).0, fmix (cross (xor h1 n, xor h2 n)).1)
unfolding finalize
finalize_is h1 h2 n = refl

pub ruleset for_finalize_unvectorized = (finalize_is, fmix_zero, of_words, of_swapped_words)

-- A tail of no word, of one and of two words enters the words of the hash.
pub no_tail : (h1 h2 : ℕ) (tail : List ℕ) → IsWord h1 → IsWord h2 → length tail ≡ 0 →
    ◌≡◌ {A = ℕ × ℕ} (h1, h2) (with_tail (h1, h2) tail)
unfolding with_tail
no_tail h1 h2 tail f1 f2 none = rw (nil_from_length tail none, xor_mix1-zero h1 f1, xor_mix2-zero h2 f2) refl

pub tail_mixed : (h1 h2 m1 m2 : ℕ) (k : ℕ × ℕ) (tail : List ℕ) →
    ((i : ℕ) → Fits w8 (get_or tail i 0)) → length tail < 16 →
    IsWord h1 → IsWord h2 → IsWord m1 → IsWord m2 →
    k ≡ (le tail % 2 ^ 64, le tail / 2 ^ 64) → m1 ≡ mix1 k.0 → m2 ≡ mix2 k.1 →
    ◌≡◌ {A = ℕ × ℕ} (bit_xor h1 m1, bit_xor h2 m2) (with_tail (h1, h2) tail)
unfolding with_tail
tail_mixed h1 h2 m1 m2 k tail known short f1 f2 g1 g2 words one two =
    let padded = tail_words tail (bytes_known tail known) short in
    rw (
      ← xor-is h1 m1 f1 g1,
      ← xor-is h2 m2 f2 g2,
      one,
      two,
      ap (λ p. p.0) words,
      ap (λ p. p.1) words,
      ap (λ p. p.0) padded,
      ap (λ p. p.1) padded,
    ) refl

pub short_tail_mixed : (h1 h2 m1 : ℕ) (k : ℕ × ℕ) (tail : List ℕ) →
    ((i : ℕ) → Fits w8 (get_or tail i 0)) → length tail ≤ 8 → IsWord h1 → IsWord h2 → IsWord m1 →
    k ≡ (le tail % 2 ^ 64, le tail / 2 ^ 64) → m1 ≡ mix1 k.0 →
    ◌≡◌ {A = ℕ × ℕ} (bit_xor h1 m1, h2) (with_tail (h1, h2) tail)
unfolding with_tail
short_tail_mixed h1 h2 m1 k tail known short f1 f2 g1 words one =
    let are = bytes_known tail known in
    let padded = tail_words tail are (omega (arith, short)) in
    let none : le tail / 2 ^ 64 ≡ 0 = div-eq_of_lt (le-word tail are short) in
    rw (
      ← xor-is h1 m1 f1 g1,
      one,
      ap (λ p. p.0) words,
      ap (λ p. p.0) padded,
      ap (λ p. p.1) padded,
      none,
      xor_mix2-zero h2 f2,
    ) refl

pub ruleset for_mix_tail = (no_tail, short_tail_mixed, tail_mixed)

-- the tail of the buffered bytes, from the two words that hold them
pub with_tail-low_bytes : (h1 h2 low high count : ℕ) → count < 16 →
    low < 256 ^ min count 8 → high < 256 ^ (count - 8) → low < 2 ^ 64 →
    with_tail (h1, h2) (low_bytes count (low + high * 2 ^ 64)) ≡ (xor h1 (mix1 low), xor h2 (mix2 high))
unfolding with_tail
with_tail-low_bytes h1 h2 low high count few p q word =
    let words = padded_words count (low + high * 2 ^ 64) few (number-lt count low high p q) in
    let parts = number-words low high word in
    rw (ap (λ k. k.0) words, ap (λ k. k.1) words, parts.0, parts.1) refl

pub answer_is : (state : State (ℕ × ℕ)) →
    murmur_answer state ≡ finalize (with_tail state.folded state.waiting) state.total
unfolding murmur_answer
answer_is state = refl

pub answer_stands : (state : State (ℕ × ℕ)) (answer : ℕ × ℕ) → answer ≡ murmur_answer state →
    (seed : ℕ) (bytes : List ℕ) → MurmurStands state seed bytes → answer ≡ murmur seed bytes
answer_stands state answer answered seed bytes stands =
    answered ∙ murmur_answer-stands seed bytes state stands

pub ruleset for_finish128 = (with_tail-low_bytes, answer_is, answer_stands, of_words, of_swapped_words)

-- One write of two parts equals two writes.
pub written_after : (state : State (ℕ × ℕ)) (before bytes : List ℕ) →
    murmur_after state (before ++ bytes) ≡ murmur_after (murmur_after state before) bytes
written_after state before bytes = sym (murmur_after-append state before bytes)

-- `step` of the definition, unfolded
pub step_is : (h1 h2 k1 k2 : ℕ) →
    let first = plus (times (plus (rotate (xor h1 (mix1 k1)) 27) h2) 5) 0x52dce729 in
    step (h1, h2) (k1, k2) ≡ (first, plus (times (plus (rotate (xor h2 (mix2 k2)) 31) first) 5) 0x38495ab5)
unfolding step step1 step2
step_is h1 h2 k1 k2 = refl

pub ruleset for_step = (step_is, of_words, of_swapped_words, five_times)

pub of_one_write : (seed : ℕ) (bytes : List ℕ) (start state : State (ℕ × ℕ)) (answer : ℕ) →
    MurmurStands start seed [] → state ≡ murmur_after start bytes → answer ≡ (murmur_answer state).0 →
    answer ≡ (murmur seed bytes).0
of_one_write seed bytes start state answer begun written answered =
    answered ∙ ap (λ h. h.0) (murmur_answer-stands seed bytes state
    (murmur_stands_after start state bytes written seed [] begun))
