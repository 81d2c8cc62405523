-- The exact rate with 128 keys a block or more: one in two or more.
use Rattle.std.proofs.Common.{◌≡◌, ℕ, zero, suc, ◌+◌, ◌-◌, ◌*◌, ◌^◌, ◌≤◌, arith}
use Rattle.std.proofs.Math.Nat.{mul-le-mul_right, pow-suc, pow-zero}
use Rattle.sketch_bloom.proofs.ExactShares.{half_chosen, most_chosen}
use Rattle.sketch_bloom.specs.ExactRate.{found_to, weights_to}

-- To the 78th, the weights more than grow by 128 / 78.
sum_is_small : (keys blocks k : ℕ) → 128 * blocks ≤ keys → k ≤ 78 →
    weights_to keys blocks k ≤ 3 * keys ^ k
unfolding weights_to
sum_is_small keys blocks zero many early = rw (pow-zero keys) (omega arith)
sum_is_small keys blocks (suc k) many early =
    let before = sum_is_small keys blocks k many (omega (arith, early)) in
    rw (pow-suc keys k) (omega (
      arith,
      mul-le-mul_right (3 * keys ^ k * blocks) early,
      mul-le-mul_right (keys ^ k) many,
      mul-le-mul_right (blocks * suc k) before,
    ))

-- A weight up to the 128th is at least the one before it.
grows : (keys blocks k : ℕ) → 128 * blocks ≤ keys → suc k ≤ 128 →
    keys ^ k * (blocks * suc k) ≤ keys ^ suc k
grows keys blocks k many early =
    let more : blocks * suc k ≤ keys = omega (arith, many, mul-le-mul_right blocks early) in
    rw (pow-suc keys k) (omega (arith, mul-le-mul_right (keys ^ k) more))

-- By the terms 0 to k, found keys lack m / 10 of weight k, at most, to be half of all.
abbrev Lacks : ℕ → ℕ → ℕ → ℕ → Type 0
Lacks keys blocks k m = 5 * (weights_to keys blocks k * (32 ^ 8) ^ k)
    ≤ 10 * found_to keys blocks k + m * (keys ^ k * (32 ^ 8) ^ k)

lacks_step : (sum found power next chosen t q b m more : ℕ) → power * t ≤ next →
    (5 + more) * (q * b) ≤ 10 * chosen →
    5 * (sum * q) ≤ 10 * found + (m + more) * (power * q) →
    5 * ((sum * t + next) * (q * b)) ≤ 10 * (found * (t * b) + next * chosen) + m * (next * (q * b))
lacks_step sum found power next chosen t q b m more grow share before =
    omega (
      arith,
      mul-le-mul_right (t * b) before,
      mul-le-mul_right next share,
      mul-le-mul_right ((m + more) * (q * b)) grow,
    )

module _ (keys blocks : ℕ) (many : 128 * blocks ≤ keys) where
  lacks_next : (k m more : ℕ) → suc k ≤ 128 →
      (5 + more) * (32 ^ 8) ^ suc k ≤ 10 * (32 ^ suc k - 31 ^ suc k) ^ 8 →
      Lacks keys blocks k (m + more) → Lacks keys blocks (suc k) m
  unfolding found_to weights_to
  lacks_next k m more early share before =
      rw (pow-suc (32 ^ 8) k) (lacks_step _ _ _ _ _ _ _ (32 ^ 8) m more
      (grows keys blocks k many early) (rw (pow-suc (32 ^ 8) k) at share) before)

  lacks_first : Lacks keys blocks 78 16
  lacks_first =
      omega (arith, mul-le-mul_right ((32 ^ 8) ^ 78) (sum_is_small keys blocks 78 many (omega arith)))

  lacks_same : (j : ℕ) → j ≤ 21 → Lacks keys blocks (j + 78) 16
  lacks_same zero early = lacks_first
  lacks_same (suc j) early =
      let next : suc j + 78 ≡ suc (j + 78) = omega arith in
      let here : j + 79 ≡ suc (j + 78) = omega arith in
      let share = rw here at (half_chosen j) in
      rw next (lacks_next (j + 78) 16 0 (omega (arith, early)) (omega (arith, share))
      (lacks_same j (omega (arith, early))))

  lacks_less : (j m : ℕ) → m + 2 * j ≡ 16 → Lacks keys blocks (j + 99) m
  lacks_less zero m left =
      let same : m ≡ 16 = omega (arith, left) in
      rw same (lacks_same 21 (omega arith))
  lacks_less (suc j) m left =
      let next : suc j + 99 ≡ suc (j + 99) = omega arith in
      let here : j + 100 ≡ suc (j + 99) = omega arith in
      let share = rw here at (most_chosen j) in
      rw next (lacks_next (j + 99) m 2 (omega (arith, left)) (omega (arith, share))
      (lacks_less j (m + 2) (omega (arith, left))))

  first_half : weights_to keys blocks 107 * (32 ^ 8) ^ 107 ≤ 2 * found_to keys blocks 107
  first_half = omega (arith, lacks_less 8 0 (omega arith))

  -- With 128 keys a block or more the rate is one in two or more.
  pub at_least_half : (j : ℕ) →
      weights_to keys blocks (j + 107) * (32 ^ 8) ^ (j + 107) ≤ 2 * found_to keys blocks (j + 107)
  unfolding found_to weights_to
  at_least_half zero = first_half
  at_least_half (suc j) =
      let next : suc j + 107 ≡ suc (j + 107) = omega arith in
      let here : j + 29 + 79 ≡ suc (j + 107) = omega arith in
      let share = rw here at (half_chosen (j + 29)) in
      rw (next, pow-suc (32 ^ 8) (j + 107)) (half_step _ _ _ _ _ _ (32 ^ 8)
      (rw (pow-suc (32 ^ 8) (j + 107)) at share) (at_least_half j))
    where
      half_step : (sum found next chosen t q b : ℕ) → q * b ≤ 2 * chosen → sum * q ≤ 2 * found →
          (sum * t + next) * (q * b) ≤ 2 * (found * (t * b) + next * chosen)
      half_step sum found next chosen t q b share before =
          omega (arith, mul-le-mul_right (t * b) before, mul-le-mul_right next share)
