-- Integers that are written as eight bytes. Two short ones collide exactly if they are equal: different
-- ones are different words modulo 2 ^ 64, and the eight bytes of different words have different hashes.
-- The two ways to extend an integer feed the same bytes for some integers.
use Rattle.std.proofs.Common.{◌≡◌, ◌↔◌, ℕ, ◌+◌, ◌-◌, ◌%◌, ◌^◌, ◌<◌, ◌≤◌, inl, inr, List, [], refl, sym, ap, ◌∙◌, arith, lt-ltb, le-ltb, mod-eq_of_lt, pow-suc}
use Rattle.std.specs.Prelude.{ℤ, pos, negsuc, ◌-ℤ◌}
use Rattle.std.proofs.lemmas.Int.{ints}
use Rattle.std.proofs.lemmas.List.Elements.{All-nil}
use Rattle.std.proofs.Math.Nat.{pow-le-pow_right}
use Rattle.std.proofs.lemmas.Nat.{pow_pos, pow_below}
use Rattle.std.proofs.lemmas.Bool.{cases_lt}
use Rattle.sketch_base.specs.Bytes.{le, eight, twos_complement, modulo, integer_bytes}
use Rattle.sketch_base.proofs.BytesLemmas.{IsByte, le-back, low_bytes-are}
use Rattle.sketch_hash.specs.Words.{IsWord}
use Rattle.sketch_hash.specs.Murmur.{murmur}
use Rattle.sketch_hash.specs.Xxh64.{xxh64}
use Rattle.sketch_hash.specs.Laws.{PieceLaws, MurmurStepLaws, Xxh64StepLaws}
use Rattle.datasketches.specs.Laws.{IsShort, IntegerLaw}
use Rattle.datasketches.specs.Strategies.{IsSigned, ExtendLawAt, ExtendLawAt64, ExtendLaw}
use Rattle.datasketches.proofs.MurmurLawLemmas.{cut_block-once}
use Rattle.datasketches.proofs.Xxh64LawLemmas.{hash_u64_law}

modulo-lt : (z : ℤ) → IsWord (modulo 64 z)
modulo-lt (pos n) = omega arith
modulo-lt (negsuc n) = omega arith

modulo-once : (x y : ℤ) → IsShort x → IsShort y → modulo 64 x ≡ modulo 64 y → x ≡ y
modulo-once (pos n) (pos m) h k e = ap pos (omega (arith, ints))
modulo-once (pos n) (negsuc m) h k e = absurd (omega (arith, ints))
modulo-once (negsuc n) (pos m) h k e = absurd (omega (arith, ints))
modulo-once (negsuc n) (negsuc m) h k e = ap negsuc (omega (arith, ints))

-- Different words, each hashed as its eight bytes with one seed, have different hashes.
abbrev SeparatesWords : {B : Type 0} → (ℕ → List ℕ → B) → Type 0
SeparatesWords hash =
    (seed u v : ℕ) → IsWord seed → IsWord u → IsWord v → hash seed (eight u) ≡ hash seed (eight v) → u ≡ v

integers : {B : Type 0} (hash : ℕ → List ℕ → B) → SeparatesWords hash → IntegerLaw hash
integers hash separates seed x y p h k = (
  λ e. modulo-once x y h k (separates seed (modulo 64 x) (modulo 64 y) p (modulo-lt x) (modulo-lt y) e),
  ap (λ z. hash seed (eight (modulo 64 z))),
)

-- eight bytes are a partial block, after no full one
murmur-separates : PieceLaws → MurmurStepLaws → SeparatesWords murmur
murmur-separates ps ms seed u v p h k e =
    let none = All-nil IsByte in
    let once = cut_block-once ps ms seed 0 [] (eight u) (eight v) p none (low_bytes-are 8 u)
    (low_bytes-are 8 v) refl refl (omega arith) in
    sym (le-back 8 u h) ∙ ap le (once e) ∙ le-back 8 v k

pub murmur_integers : PieceLaws → MurmurStepLaws → IntegerLaw murmur
murmur_integers ps ms = integers murmur (murmur-separates ps ms)

pub xxh64_integers : PieceLaws → Xxh64StepLaws → IntegerLaw xxh64
xxh64_integers ps ss = integers xxh64 (λ seed u v p. (hash_u64_law ps ss seed p).once u v)

-- eight bytes of integers, and the words that these are modulo 2 ^ 64
pub murmur_modulo : PieceLaws → MurmurStepLaws → (seed : ℕ) (x y : ℤ) → IsWord seed →
    murmur seed (integer_bytes x) ≡ murmur seed (integer_bytes y) → modulo 64 x ≡ modulo 64 y
murmur_modulo ps ms seed x y p =
    murmur-separates ps ms seed (modulo 64 x) (modulo 64 y) p (modulo-lt x) (modulo-lt y)

pub xxh64_modulo : PieceLaws → Xxh64StepLaws → (seed : ℕ) (x y : ℤ) → IsWord seed →
    xxh64 seed (integer_bytes x) ≡ xxh64 seed (integer_bytes y) → modulo 64 x ≡ modulo 64 y
xxh64_modulo ps ss seed x y p =
    (hash_u64_law ps ss seed p).once (modulo 64 x) (modulo 64 y) (modulo-lt x) (modulo-lt y)

pub ruleset for_integer_law = (murmur_integers, xxh64_integers, murmur_modulo, xxh64_modulo)

-- ---- the two ways to extend

-- integers feed equal bytes exactly if they agree modulo 2 ^ 64
integer_bytes-once : (x y : ℤ) → (integer_bytes x ≡ integer_bytes y) ↔ (modulo 64 x ≡ modulo 64 y)
integer_bytes-once x y =
    let x_is = le-back 8 (modulo 64 x) (modulo-lt x) in
    let y_is = le-back 8 (modulo 64 y) (modulo-lt y) in
    (λ e. sym x_is ∙ ap le e ∙ y_is, ap eight)

-- the numbers of w bits: half of them, and all
record IsHalf (w half whole : ℕ) : Type 0 where
  half_is : 2 ^ (w - 1) ≡ half
  whole_is : 2 ^ w ≡ whole
  two_halves : whole ≡ half + half
  some : 0 < half
  fits : whole ≤ 2 ^ 64

halves_of : (w : ℕ) → 0 < w → w ≤ 64 → IsHalf w (2 ^ (w - 1)) (2 ^ w)
halves_of w p m = record {
  half_is = refl;
  whole_is = refl;
  two_halves = ap (λ n. 2 ^ n) (omega arith) ∙ pow-suc 2 (w - 1) ∙ omega arith;
  some = pow_pos (w - 1);
  fits = pow-le-pow_right {n = 2} (omega arith) m;
}

-- the word that an unsigned number is extended to by its sign: itself, or lifted to the end of all words
lifted-low : (w half whole y : ℕ) → IsHalf w half whole → y < half → modulo 64 (twos_complement w y) ≡ y
lifted-low w half whole y s l =
    let test = lt-ltb y half l in
    rw (s.half_is, test) (omega (arith, s.two_halves, s.fits))

lifted-high : (w half whole y : ℕ) → IsHalf w half whole → half ≤ y → y < whole →
    modulo 64 (twos_complement w y) ≡ 2 ^ 64 - whole + y
lifted-high w half whole y s m l =
    let test = le-ltb y half m in
    rw (s.half_is, s.whole_is, test, below y whole l) (word y whole s.fits l)
  where
    below : (y whole : ℕ) → y < whole → pos y -ℤ pos whole ≡ negsuc (whole - 1 - y)
    below y whole l = omega (arith, ints)

    word : (y whole : ℕ) → whole ≤ 2 ^ 64 → y < whole →
        2 ^ 64 - 1 - (whole - 1 - y) % 2 ^ 64 ≡ 2 ^ 64 - whole + y
    word y whole f l = omega arith

-- the word that an unsigned number y of w bits is extended to by its sign
record IsLifted (half whole y word : ℕ) : Type 0 where
  two_halves : whole ≡ half + half
  fits : whole ≤ 2 ^ 64
  below : y < whole
  low : y < half → word ≡ y
  high : half ≤ y → word ≡ 2 ^ 64 - whole + y

is_lifted : (w y : ℕ) → 0 < w → w ≤ 64 → y < 2 ^ w →
    IsLifted (2 ^ (w - 1)) (2 ^ w) y (modulo 64 (twos_complement w y))
is_lifted w y p m l =
    let s = halves_of w p m in
    record {
      two_halves = s.two_halves;
      fits = s.fits;
      below = l;
      low = lifted-low w (2 ^ (w - 1)) (2 ^ w) y s;
      high = λ h. lifted-high w (2 ^ (w - 1)) (2 ^ w) y s h l;
    }

-- a signed number, n or -1 - n, extends to the same word exactly if it agrees modulo all numbers of w bits
agree : (half whole y word n : ℕ) → IsLifted half whole y word → n < half →
    ((n % 2 ^ 64 ≡ word) ↔ (n % whole ≡ y % whole))
    × ((2 ^ 64 - 1 - n % 2 ^ 64 ≡ word) ↔ (whole - 1 - n % whole ≡ y % whole))
agree half whole y word n s b =
    let two_halves = s.two_halves in
    let fits = s.fits in
    let below = s.below in
    let n_is : n % whole ≡ n = mod-eq_of_lt (omega arith) in
    let y_is : y % whole ≡ y = mod-eq_of_lt below in
    let word_is : n % 2 ^ 64 ≡ n = mod-eq_of_lt (omega arith) in
    rw (n_is, y_is, word_is) (elim (cases_lt y half) [
      | inl l ↦
          let e = s.low l in
          ((λ q. omega arith, λ q. omega arith), (λ q. omega arith, λ q. omega arith))
      | inr l ↦
          let e = s.high l in
          ((λ q. omega arith, λ q. omega arith), (λ q. omega arith, λ q. omega arith))
    ])

-- an unsigned number extends to the same word by its value exactly if its top bit is clear
top_bit : (half whole y word : ℕ) → IsLifted half whole y word → whole < 2 ^ 64 →
    (y % 2 ^ 64 ≡ word) ↔ (y < half)
top_bit half whole y word s f =
    let below = s.below in
    let word_is : y % 2 ^ 64 ≡ y = mod-eq_of_lt (omega arith) in
    rw word_is (elim (cases_lt y half) [
      | inl l ↦ let e = s.low l in (λ q. l, λ q. sym e)
      | inr l ↦ let e = s.high l in (λ q. absurd (omega arith), λ q. absurd (omega arith))
    ])

-- lists are equal exactly where words are
through : {A B C : Type 0} → A ↔ B → B ↔ C → A ↔ C
through p q = (λ a. q.0 (p.0 a), λ c. p.1 (q.1 c))

sign_extend : (w : ℕ) (x : ℤ) (y : ℕ) → 0 < w → w ≤ 64 → IsSigned w x → y < 2 ^ w →
    (integer_bytes x ≡ integer_bytes (twos_complement w y)) ↔ (modulo w x ≡ modulo w (pos y))
sign_extend w (pos n) y p m h l =
    through (integer_bytes-once (pos n) (twos_complement w y))
    (agree (2 ^ (w - 1)) (2 ^ w) y _ n (is_lifted w y p m l) (omega (arith, ints))).0
sign_extend w (negsuc n) y p m h l =
    through (integer_bytes-once (negsuc n) (twos_complement w y))
    (agree (2 ^ (w - 1)) (2 ^ w) y _ n (is_lifted w y p m l) (omega (arith, ints))).1

-- at any width below 64 bits
extend_law_at : (w : ℕ) → 0 < w → w < 64 →
    ExtendLawAt w integer_bytes (λ y. integer_bytes (pos y))
    integer_bytes (λ y. integer_bytes (twos_complement w y))
extend_law_at w p m = record {
  signed_alike = λ x. refl;
  unsigned_alike = λ y l.
      through (integer_bytes-once (pos y) (twos_complement w y))
      (top_bit (2 ^ (w - 1)) (2 ^ w) y _ (is_lifted w y p (omega arith) l) (pow_below w 64 m));
  across = λ x y h l. sign_extend w x y p (omega arith) h l;
}

-- at 64 bits a number is its own word, whichever way it is read
sign_word : (y : ℕ) → y < 2 ^ 64 → modulo 64 (pos y) ≡ modulo 64 (twos_complement 64 y)
sign_word y l =
    let s = is_lifted 64 y (omega arith) (omega arith) l in
    let word : y % 2 ^ 64 ≡ y = mod-eq_of_lt l in
    elim (cases_lt y (2 ^ 63)) [
      | inl low ↦ word ∙ sym (s.low low)
      | inr high ↦ word ∙ sym (s.high high ∙ omega arith)
    ]

extend_law_64 : ExtendLawAt64 integer_bytes (λ y. integer_bytes (pos y))
    integer_bytes (λ y. integer_bytes (twos_complement 64 y))
extend_law_64 = record {
  signed_alike = λ x. refl;
  unsigned_alike = λ y l. ap eight (sign_word y l);
  across = λ x y h l. sign_extend 64 x y (omega arith) (omega arith) h l;
}

pub extend_law : ExtendLaw
extend_law = record {
  bits_8 = extend_law_at 8 (omega arith) (omega arith);
  bits_16 = extend_law_at 16 (omega arith) (omega arith);
  bits_32 = extend_law_at 32 (omega arith) (omega arith);
  bits_64 = extend_law_64;
}
