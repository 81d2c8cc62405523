-- The counts of set bits, as the code computes them for a folded filter.
use Rattle.std.proofs.Common.{◌≡◌, ◌↔◌, ◌⊎◌, ℕ, zero, suc, ◌+◌, ◌*◌, ◌/◌, ◌%◌, ◌^◌, ◌<◌, ◌≤◌, List, length, get_or, bit_or, refl, sym, ◌∙◌, max, w32, arith}
use Rattle.std.specs.Int.{bit_at, from_le_bytes, to_le_bytes}
use Rattle.std.specs.Int.Count.{ones, ones_step}
use Rattle.std.proofs.lemmas.Bool.Decides.{nat_tests}
use Rattle.std.proofs.Math.Nat.{pow-le-pow_right, pow-suc}
use Rattle.std.proofs.lemmas.Nat.{le_bytes_4, mul-le, ones-le, or_lt}
use Rattle.std.proofs.lemmas.Nat.Bits.{bit_at-lt, bit_at-suc, bit_at_or}
use Rattle.sketch_bloom.proofs.BlockLemmas.{digit_of_byte}
use Rattle.sketch_bloom.specs.Filter.{Folds}
use Rattle.sketch_bloom.specs.FoldRate.{found_by_blocks, found_by_words, set_bits}

-- digit i of a filter
abbrev pub bit_of : List ℕ → ℕ → ℕ
bit_of filter i = bit_at (get_or filter (i / 8) 0) (i % 8)

-- A number of k digits has as many set digits as there are set bits, if its digits are these bits.
ones_are_set_bits : (k n : ℕ) (filter : List ℕ) (start : ℕ) → n < 2 ^ k →
    ((b : ℕ) → b < k → bit_at n b ≡ bit_of filter (start + b)) → ones n ≡ set_bits filter start k
unfolding set_bits
ones_are_set_bits zero n filter start small same = omega (arith, ones-le 0 n small)
ones_are_set_bits (suc k) n filter start small same =
    let rest = ones_are_set_bits k (n / 2) filter (suc start) (half_of_power n k small) (λ b low.
    let next : start + suc b ≡ suc start + b = omega arith in
    sym (bit_at-suc n b) ∙ rw next at (same (suc b) (omega arith))) in
    let lowest = same 0 (omega arith) in
    let here : start + 0 ≡ start = omega arith in
    ones_step n ∙ (rw (rest) (grind (arith, rw here at lowest)))
  where
    half_of_power : (n k : ℕ) → n < 2 ^ suc k → n / 2 < 2 ^ k
    half_of_power n k small = grind arith

-- ---- a word

byte_of_word : (n k : ℕ) → k < 4 → get_or (to_le_bytes w32 n) k 0 ≡ n / 256 ^ k % 256
byte_of_word n zero low = omega arith
byte_of_word n (suc zero) low = omega arith
byte_of_word n (suc (suc zero)) low = omega arith
byte_of_word n (suc (suc (suc zero))) low = omega arith
byte_of_word n (suc (suc (suc (suc k)))) low = absurd (omega arith)

-- A digit of a number that was read from four bytes is a digit of a byte.
pub digit_of_word : (bytes : List ℕ) (n : ℕ) → length bytes ≡ 4 →
    ((i : ℕ) → get_or bytes i 0 < 256) → n ≡ from_le_bytes w32 bytes →
    (b : ℕ) → b < 32 → bit_at n b ≡ bit_at (get_or bytes (b / 8) 0) (b % 8)
digit_of_word bytes n long fits is b low =
    let same = le_bytes_4 bytes n long fits is in
    let place : 8 * (b / 8) + b % 8 ≡ b = omega arith in
    let byte = byte_of_word n (b / 8) (omega arith) in
    rw (← same, byte, digit_of_byte n (b / 8) (b % 8) (omega arith), place) refl

pub few_ones : (left right : ℕ) → left < 2 ^ 32 → right < 2 ^ 32 → ones (bit_or left right) ≤ 32
few_ones left right small other = ones-le 32 (bit_or left right) (or_lt 32 left right small other)

-- Two words joined by or have as many set digits as the word of the folded filter.
pub word_of_union : (filter folded : List ℕ) (k w left right : ℕ) → Folds filter folded → w < 8 →
    left < 2 ^ 32 → right < 2 ^ 32 →
    ((b : ℕ) → b < 32 → bit_at left b ≡ bit_at (get_or filter (64 * k + 4 * w + b / 8) 0) (b % 8)) →
    ((b : ℕ) → b < 32 → bit_at right b ≡ bit_at (get_or filter (64 * k + 32 + 4 * w + b / 8) 0) (b % 8)) →
    ones (bit_or left right) ≡ set_bits folded (256 * k + 32 * w) 32
word_of_union filter folded k w left right folds few left_small right_small left_is right_is =
    ones_are_set_bits 32 (bit_or left right) folded (256 * k + 32 * w)
    (or_lt 32 left right left_small right_small) (λ b low.
    let place : 256 * k + 32 * w + b ≡ 256 * k + (32 * w + b) = omega arith in
    let one : (512 * k + (32 * w + b)) / 8 ≡ 64 * k + 4 * w + b / 8 = omega arith in
    let other : (512 * k + 256 + (32 * w + b)) / 8 ≡ 64 * k + 32 + 4 * w + b / 8 = omega arith in
    let digit_one : (512 * k + (32 * w + b)) % 8 ≡ b % 8 = omega arith in
    let digit_other : (512 * k + 256 + (32 * w + b)) % 8 ≡ b % 8 = omega arith in
    let joined = rw (one, other, digit_one, digit_other) at (folds.bits k (32 * w + b) (omega arith)) in
    rw place (same_digit (bit_of folded (256 * k + (32 * w + b))) (bit_at left b) (bit_at right b)
    (bit_at (bit_or left right) b)
    (bit_at-lt (get_or folded ((256 * k + (32 * w + b)) / 8) 0) ((256 * k + (32 * w + b)) % 8))
    (bit_at-lt left b) (bit_at-lt right b) (bit_at_or left right b)
    (rw (left_is b low, right_is b low) joined)))
  where
    same_digit : (folded left right both : ℕ) → folded < 2 → left < 2 → right < 2 →
        both ≡ max left right → (folded ≡ 1) ↔ ((left ≡ 1) ⊎ (right ≡ 1)) → both ≡ folded
    same_digit folded left right both f l r is iff = grind (arith, nat_tests, is)

-- ---- the product and the sum

power_le : (w : ℕ) → w < 8 → 32 ^ w ≤ 2 ^ 35
power_le w low = pow-le-pow_right {n = 32} (omega arith) {i = w} {j = 7} (omega arith)

-- one more word
pub product_fits : (found count w : ℕ) → w < 8 → found ≤ 32 ^ w → count ≤ 32 → found * count ≤ 2 ^ 40
product_fits found count w low first few =
    let all = power_le w low in
    let product = mul-le found count (2 ^ 35) 32 (omega arith) few in
    omega (arith, product)

pub product_le : (found count w : ℕ) → found ≤ 32 ^ w → count ≤ 32 → found * count ≤ 32 ^ (w + 1)
product_le found count w first few =
    let next : w + 1 ≡ suc w = omega arith in
    rw (next, pow-suc 32 w) (mul-le found count (32 ^ w) 32 first few)

pub product_is : (folded : List ℕ) (k w found count : ℕ) → found ≡ found_by_words folded k w →
    count ≡ set_bits folded (256 * k + 32 * w) 32 → found * count ≡ found_by_words folded k (w + 1)
unfolding found_by_words
product_is folded k w found count first is =
    let next : w + 1 ≡ suc w = omega arith in rw (next, first, is) refl

pub sum_is : (folded : List ℕ) (k found more : ℕ) → found ≡ found_by_blocks folded k →
    more ≡ found_by_words folded k 8 → found + more ≡ found_by_blocks folded (k + 1)
unfolding found_by_blocks
sum_is folded k found more first is =
    let next : k + 1 ≡ suc k = omega arith in rw (next, first, is) refl
