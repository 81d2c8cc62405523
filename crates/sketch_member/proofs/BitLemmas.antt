-- Bits packed into bytes.
use Rattle.std.proofs.Common.{◌≡◌, ◌≢◌, ◌↔◌, ◌⊎◌, ℕ, ◌*◌, ◌/◌, ◌%◌, ◌^◌, ◌<◌, List, length, bit_and, ◌+◌, ◌-◌, ◌≤◌, set, get_or, replicate, sym, ap, subst, ◌∙◌, inl, inr, arith, bit_or, Fits}
use Rattle.std.specs.Int.{w8, bit_at}
use Rattle.std.proofs.lemmas.List.{get_or-set_same, get_or-set_other, get_or-replicate, get_or_past, length-replicate}
use Rattle.std.proofs.lemmas.Nat.{or_of_8, and_mask, one_shl, pow-add}
use Rattle.std.proofs.lemmas.Nat.Bits.{bit_at_set_same, bit_at_set_other}
use Rattle.std.proofs.lemmas.Bool.{cases_eq, cases_lt}
use Rattle.sketch_member.specs.Table.{IsSet}

-- the byte of place i with its bit set
abbrev byte_with : List ℕ → ℕ → ℕ
byte_with xs i = bit_or (get_or xs (i / 8) 0) (1 * 2 ^ (i % 8) % 2 ^ 8)

-- the bit that is set
IsSet-set_same : (xs : List ℕ) (i : ℕ) → i / 8 < length xs → IsSet (set xs (i / 8) (byte_with xs i)) i
IsSet-set_same xs i within =
    ap (λ b. bit_at b (i % 8)) (get_or-set_same xs (i / 8) (byte_with xs i) 0 within)
    ∙ bit_at_set_same w8 (get_or xs (i / 8) 0) (i % 8) (omega arith)

-- a bit that is not the one that is set
IsSet-set_other : (xs : List ℕ) (i k : ℕ) → i / 8 < length xs → k ≢ i →
    bit_at (get_or (set xs (i / 8) (byte_with xs i)) (k / 8) 0) (k % 8)
    ≡ bit_at (get_or xs (k / 8) 0) (k % 8)
IsSet-set_other xs i k within differ = elim (cases_eq (k / 8) (i / 8)) [
  | inl same ↦
      let byte : get_or (set xs (i / 8) (byte_with xs i)) (k / 8) 0 ≡ byte_with xs i =
      ap (λ p. get_or (set xs (i / 8) (byte_with xs i)) p 0) same
      ∙ get_or-set_same xs (i / 8) (byte_with xs i) 0 within in
      let apart : k % 8 ≢ i % 8 = λ e. differ (omega (arith, e, same)) in
      ap (λ b. bit_at b (k % 8)) byte
      ∙ bit_at_set_other w8 (get_or xs (i / 8) 0) (i % 8) (omega arith) (k % 8) apart
      ∙ ap (λ p. bit_at (get_or xs p 0) (k % 8)) (sym same)
  | inr other ↦
      ap (λ b. bit_at b (k % 8)) (get_or-set_other xs (i / 8) (k / 8) (byte_with xs i) 0 other)
]

-- setting bit i sets it and leaves the others
set_bit : (xs : List ℕ) (i k place : ℕ) → place ≡ i % 8 → i / 8 < length xs →
    IsSet (set xs (i / 8) (bit_or (get_or xs (i / 8) 0) (1 * 2 ^ place % 2 ^ 8))) k
    ↔ (IsSet xs k ⊎ (k ≡ i))
set_bit xs i k place low within = rw low (elim (cases_eq k i) [
  | inl same ↦
      let P : ℕ → Type 0 = IsSet (set xs (i / 8) (byte_with xs i)) in
      ((λ _. inr same), (λ _. subst P (sym same) (IsSet-set_same xs i within)))
  | inr differ ↦
      let kept = IsSet-set_other xs i k within differ in (
        (λ is. inl (sym kept ∙ is)),
        (λ was. elim was [ inl is ↦ kept ∙ is | inr same ↦ absurd (differ same) ]),
      )
])

-- the place of bit i in its byte, by a mask
pub low_three : (i : ℕ) → bit_and i 7 ≡ i % 8
low_three i = and_mask i 3

-- the two directions of `set_bit`, as `grind` applies them
pub set_only : (xs : List ℕ) (i k place : ℕ) → place ≡ i % 8 → i < length xs * 8 →
    IsSet (set xs (i / 8) (bit_or (get_or xs (i / 8) 0) (1 * 2 ^ place % 2 ^ 8))) k →
    IsSet xs k ⊎ (k ≡ i)
set_only xs i k place low within = (set_bit xs i k place low (omega (arith, within))).0

pub set_too : (xs : List ℕ) (i k place : ℕ) → place ≡ i % 8 → i < length xs * 8 →
    IsSet xs k ⊎ (k ≡ i) →
    IsSet (set xs (i / 8) (bit_or (get_or xs (i / 8) 0) (1 * 2 ^ place % 2 ^ 8))) k
set_too xs i k place low within = (set_bit xs i k place low (omega (arith, within))).1

-- bytes stay bytes
pub set_bytes : (xs : List ℕ) (i k place : ℕ) → place ≡ i % 8 → i < length xs * 8 →
    ((k : ℕ) → Fits w8 (get_or xs k 0)) →
    get_or (set xs (i / 8) (bit_or (get_or xs (i / 8) 0) (1 * 2 ^ place % 2 ^ 8))) k 0 < 256
set_bytes xs i k place low within bytes = rw low (elim (cases_eq k (i / 8)) [
  | inl same ↦
      rw (same, get_or-set_same xs (i / 8) (byte_with xs i) 0 (omega (arith, within)))
      (or_of_8 (get_or xs (i / 8) 0) (1 * 2 ^ (i % 8) % 2 ^ 8) (bytes (i / 8)).fits (omega arith))
  | inr other ↦ rw (get_or-set_other xs (i / 8) k (byte_with xs i) 0 other) (bytes k).fits
])

pub ruleset for_set = (low_three, set_only, set_too, set_bytes)

-- the low bits of a word
pub and_low : (word n : ℕ) → n < 64 → bit_and word (1 * 2 ^ n % 2 ^ 64 - 1) ≡ word % 2 ^ n
and_low word n few = rw (one_shl n 64 few) (and_mask word n)

-- no bit is set in zeros
pub zeros-get : (n k : ℕ) → get_or (replicate {A = ℕ} n 0) k 0 ≡ 0
zeros-get n k =
    let zeros : List ℕ = replicate n 0 in
    let count : length zeros ≡ n = length-replicate n 0 in
    elim (cases_lt k n) [
      | inl within ↦ get_or-replicate n k 0 0 within
      | inr past ↦ get_or_past zeros k 0 (omega (arith, count))
    ]

-- eight bits or more leave no byte cut off
pub whole_bytes : (n : ℕ) → 3 ≤ n → 2 ^ n / 8 * 8 ≡ 2 ^ n
whole_bytes n h =
    let e : n ≡ n - 3 + 3 = omega arith in
    let split : 2 ^ n ≡ 2 ^ (n - 3) * 8 = ap (λ k. 2 ^ k) e ∙ pow-add 2 (n - 3) 3 in
    omega arith

-- a new vector of zeros, in the form of std's contract
pub zeros_long : (bits : List ℕ) (count : ℕ) →
    (((n : ℕ) → n ≡ 0 → n ≡ 0) → bits ≡ replicate count 0) → length bits ≡ count
zeros_long bits count zeros = ap length (zeros (λ n is. is)) ∙ length-replicate count 0

pub zeros_low : (bits : List ℕ) (count k : ℕ) →
    (((n : ℕ) → n ≡ 0 → n ≡ 0) → bits ≡ replicate count 0) → get_or bits k 0 < 256
zeros_low bits count k zeros = rw (zeros (λ n is. is), zeros-get count k) (omega arith)

pub ruleset for_new = (whole_bytes, zeros_long, zeros_low)
