-- The probabilities c(k) of `Size.antt` beside the exact ones.
use Rattle.std.proofs.Common.{◌≡◌, ℕ, zero, suc, ◌+◌, ◌-◌, ◌*◌, ◌/◌, ◌^◌, ◌≤◌, refl, ◌∙◌, arith}
use Rattle.std.proofs.Math.Nat.{div-mul-le_self, mul-le-mul_right, pow-le-pow_left, pow-suc, pow-zero, zero-add}
use Rattle.std.proofs.lemmas.Nat.{mul-le, mul-pow}
use Rattle.sketch_bloom.specs.Size.{clear, covered, eighth_power}

clear_below : (k : ℕ) → clear k * 32 ^ k ≤ 2 ^ 50 * 31 ^ k
unfolding clear
clear_below zero = omega arith
clear_below (suc k) = rw (pow-suc 32 k, pow-suc 31 k)
    (omega (arith, mul-le-mul_right (31 * 32 ^ k) (div-mul-le_self (clear k) 32), clear_below k))

clear_above : (k : ℕ) → 2 ^ 50 * 31 ^ k ≤ (clear k + 992) * 32 ^ k
unfolding clear
clear_above zero = omega arith
clear_above (suc k) =
    let next : 31 * (clear k + 992) ≤ (clear k / 32 * 31 + 992) * 32 = omega arith in
    rw (pow-suc 32 k, pow-suc 31 k) (omega (arith, mul-le-mul_right (32 ^ k) next, clear_above k))

clear_fits : (k : ℕ) → clear k ≤ 2 ^ 50
unfolding clear
clear_fits zero = omega arith
clear_fits (suc k) = omega (arith, clear_fits k)

-- what is left of 2 ^ 50, beside the exact share left / b
module _ (clear share b y left : ℕ) (all : share + clear ≡ 2 ^ 50) (both : left + y ≡ b) where
  left_over : 2 ^ 50 * y ≤ (clear + 992) * b → share * b ≤ 2 ^ 50 * left + 992 * b
  left_over above =
      let most : share + clear ≤ 2 ^ 50 = omega arith in
      omega (arith, mul-le-mul_right b most, above)

  left_under : clear * b ≤ 2 ^ 50 * y → 2 ^ 50 * left ≤ share * b
  left_under below =
      let least : 2 ^ 50 ≤ share + clear = omega arith in
      omega (arith, mul-le-mul_right b least, below)

-- A square, in parts of 2 ^ 50 / m, of a share that is too large by d / 2 ^ 50 at most, or too small.
module _ (m s b x d next : ℕ) (small : d * d ≤ 2 ^ 50) where
  square_over : s * b ≤ 2 ^ 50 * x + d * b → x ≤ b → next * 2 ^ 50 ≤ m * (s * s) →
      next * (b * b) ≤ m * (2 ^ 50 * (x * x) + (2 * d + 1) * (b * b))
  square_over over most is =
      omega (
        arith,
        mul-le-mul_right m (mul-le (s * b) (s * b) (2 ^ 50 * x + d * b) (2 ^ 50 * x + d * b) over over),
        mul-le-mul_right (m * d * b) most,
        mul-le-mul_right (m * b * b) small,
        mul-le-mul_right (b * b) is,
      )

  square_under : 2 ^ 50 * x ≤ (s + d) * b → s ≤ 2 ^ 50 → m * (s * s) ≤ (next + 1) * 2 ^ 50 →
      m * (2 ^ 50 * (x * x)) ≤ (next + 1 + m * (2 * d + 1)) * (b * b)
  square_under under most is =
      omega (
        arith,
        mul-le-mul_right m (mul-le (2 ^ 50 * x) (2 ^ 50 * x) ((s + d) * b) ((s + d) * b) under under),
        mul-le-mul_right (m * d * b * b) most,
        mul-le-mul_right (m * b * b) small,
        mul-le-mul_right (b * b) is,
      )

-- x ^ 8 as three squares
eighth : (x : ℕ) → x ^ 8 ≡ x * x * (x * x) * (x * x * (x * x))
eighth x = rw (
  pow-suc x 7,
  pow-suc x 6,
  pow-suc x 5,
  pow-suc x 4,
  pow-suc x 3,
  pow-suc x 2,
  pow-suc x 1,
  pow-suc x 0,
  pow-zero x,
) (omega arith)

share_fits : (s : ℕ) → s ≤ 2 ^ 50 → s * s / 2 ^ 50 ≤ 2 ^ 50
share_fits s most = omega (arith, mul-le s s (2 ^ 50) (2 ^ 50) most most)

eighth_power_fits : (s : ℕ) → s ≤ 2 ^ 50 → eighth_power s ≤ 2 ^ 60
unfolding eighth_power
eighth_power_fits s most =
    let square = s * s / 2 ^ 50 in
    let fourth = square * square / 2 ^ 50 in
    let fits = share_fits square (share_fits s most) in
    omega (arith, mul-le fourth fourth (2 ^ 50) (2 ^ 50) fits fits)

eighth_power_over : (s b x : ℕ) → s * b ≤ 2 ^ 50 * x + 992 * b → x ≤ b →
    eighth_power s * b ^ 8 ≤ 2 ^ 60 * x ^ 8 + 2 ^ 23 * b ^ 8
unfolding eighth_power
eighth_power_over s b x over most =
    let square = s * s / 2 ^ 50 in
    let fourth = square * square / 2 ^ 50 in
    let two = square_over 1 s b x 992 square (omega arith) over most (omega arith) in
    let most_two = mul-le x x b b most most in
    let four = square_over 1 square (b * b) (x * x) 1985 fourth (omega arith) (omega (arith, two)) most_two
    (omega arith) in
    let most_four = mul-le (x * x) (x * x) (b * b) (b * b) most_two most_two in
    let eight = square_over (2 ^ 10) fourth (b * b * (b * b)) (x * x * (x * x)) 3971
    (fourth * fourth / 2 ^ 40) (omega arith) (omega (arith, four)) most_four (omega arith) in
    rw (eighth x, eighth b) (omega (arith, eight))

eighth_power_under : (s b x : ℕ) → 2 ^ 50 * x ≤ s * b → s ≤ 2 ^ 50 →
    2 ^ 60 * x ^ 8 ≤ (eighth_power s + 2 ^ 14) * b ^ 8
unfolding eighth_power
eighth_power_under s b x under most =
    let square = s * s / 2 ^ 50 in
    let fourth = square * square / 2 ^ 50 in
    let two = square_under 1 s b x 0 square (omega arith) (omega (arith, under)) most (omega arith) in
    let most_two = share_fits s most in
    let four = square_under 1 square (b * b) (x * x) 2 fourth (omega arith) (omega (arith, two))
    most_two (omega arith) in
    let eight = square_under (2 ^ 10) fourth (b * b * (b * b)) (x * x * (x * x)) 6
    (fourth * fourth / 2 ^ 40) (omega arith) (omega (arith, four)) (share_fits square most_two)
    (omega arith) in
    rw (eighth x, eighth b) (omega (arith, eight))

same_scale : (k : ℕ) → (32 ^ k) ^ 8 ≡ (32 ^ 8) ^ k
same_scale k = eighth (32 ^ k) ∙ rw (
  ← mul-pow 32 32 k,
  ← mul-pow (32 * 32) (32 * 32) k,
  ← mul-pow (32 * 32 * (32 * 32)) (32 * 32 * (32 * 32)) k,
) refl

powers : (k : ℕ) → 31 ^ k ≤ 32 ^ k
powers k = pow-le-pow_left {n = 31} {m = 32} (omega arith) k

-- c(k), beside the exact one: left_over_8 / 32 ^ (8 k)
pub covered_over : (k : ℕ) →
    covered k * (32 ^ 8) ^ k ≤ 2 ^ 60 * (32 ^ k - 31 ^ k) ^ 8 + 2 ^ 23 * (32 ^ 8) ^ k
covered_over k =
    let left = left_over (clear k) (2 ^ 50 - clear k) (32 ^ k) (31 ^ k) (32 ^ k - 31 ^ k)
    (omega (arith, clear_fits k)) (omega (arith, powers k)) (clear_above k) in
    rw (← same_scale k) (eighth_power_over _ _ (32 ^ k - 31 ^ k) left (omega arith))

pub covered_under : (k : ℕ) → 2 ^ 60 * (32 ^ k - 31 ^ k) ^ 8 ≤ (covered k + 2 ^ 14) * (32 ^ 8) ^ k
covered_under k =
    let left = left_under (clear k) (2 ^ 50 - clear k) (32 ^ k) (31 ^ k) (32 ^ k - 31 ^ k)
    (omega (arith, clear_fits k)) (omega (arith, powers k)) (clear_below k) in
    rw (← same_scale k) (eighth_power_under _ _ (32 ^ k - 31 ^ k) left (omega arith))

pub covered_fits : (k : ℕ) → covered k ≤ 2 ^ 60
covered_fits k = eighth_power_fits (2 ^ 50 - clear k) (omega arith)

pub chosen_le : (k : ℕ) → (32 ^ suc k - 31 ^ suc k) ^ 8 ≤ (32 ^ 8) ^ k * 32 ^ 8
chosen_le k = rw (← pow-suc (32 ^ 8) k, ← same_scale (suc k))
    (pow-le-pow_left {n = 32 ^ suc k - 31 ^ suc k} {m = 32 ^ suc k} (omega arith) 8)

-- how small (31/32)^k is, in thousandths, and then c(k)
decays : (k r j : ℕ) → 31 ^ k * 1000 ≤ r * 32 ^ k → 31 ^ (j + k) * 1000 ≤ r * 32 ^ (j + k)
decays k r zero small = rw (zero-add k) small
decays k r (suc j) small =
    let next : suc j + k ≡ suc (j + k) = omega arith in
    rw (next, pow-suc 31 (j + k), pow-suc 32 (j + k)) (omega (arith, decays k r j small))

chosen_above : (k r : ℕ) → r ≤ 1000 → 31 ^ k * 1000 ≤ r * 32 ^ k →
    (1000 - r) ^ 8 * (32 ^ 8) ^ k ≤ 1000 ^ 8 * (32 ^ k - 31 ^ k) ^ 8
chosen_above k r most small =
    let one : (1000 - r) * 32 ^ k ≤ 1000 * (32 ^ k - 31 ^ k) = above (32 ^ k) (31 ^ k) (1000 - r) r
    (omega arith) small in
    rw (← same_scale k, ← mul-pow (1000 - r) (32 ^ k) 8, ← mul-pow 1000 (32 ^ k - 31 ^ k) 8)
    (pow-le-pow_left {n = (1000 - r) * 32 ^ k} {m = 1000 * (32 ^ k - 31 ^ k)} one 8)
  where
    above : (b y rest r : ℕ) → rest + r ≡ 1000 → y * 1000 ≤ r * b → rest * b ≤ 1000 * (b - y)
    above b y rest r both small =
        let most : rest + r ≤ 1000 = omega arith in
        omega (arith, mul-le-mul_right b most)

pub half_chosen : (j : ℕ) → (32 ^ 8) ^ (j + 79) ≤ 2 * (32 ^ (j + 79) - 31 ^ (j + 79)) ^ 8
half_chosen j = omega (arith, chosen_above (j + 79) 82 (omega arith) (decays 79 82 j (omega arith)))

pub most_chosen : (j : ℕ) → 7 * (32 ^ 8) ^ (j + 100) ≤ 10 * (32 ^ (j + 100) - 31 ^ (j + 100)) ^ 8
most_chosen j =
    omega (arith, chosen_above (j + 100) 42 (omega arith) (decays 100 42 j (omega arith)))
