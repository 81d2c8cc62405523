-- The weights of `Size.antt`, and their sum, beside the exact ones.
use Rattle.std.proofs.Common.{◌≡◌, ℕ, zero, suc, ◌+◌, ◌*◌, ◌/◌, ◌^◌, ◌<◌, ◌≤◌, ◌⊎◌, inl, inr, pow_pos, refl, arith}
use Rattle.std.proofs.Math.Nat.{div-div-eq-div-mul, div-mul-le_self, lt-div-mul-add, mul-div_cancel, mul-le-mul_right, pow-suc, pow-zero}
use Rattle.std.proofs.lemmas.Bool.Decides.{nat_tests}
use Rattle.sketch_bloom.specs.Size.{all_to, growth, next_units, weight}
use Rattle.sketch_bloom.specs.ExactRate.{weights_to}
use Rattle.sketch_bloom.proofs.SizeLemmas.{unit_is_positive}

pub next_multiple : (n m : ℕ) → 0 < m → n < n / m * m + m
next_multiple n m some = lt-div-mul-add some

-- n / z / s rounds down twice, by less than one together.
quotient_below : (n z s : ℕ) → n / z / s * (z * s) ≤ n
quotient_below n z s =
    omega (arith, mul-le-mul_right z (div-mul-le_self (n / z) s), div-mul-le_self n z)

quotient_above : (n z s : ℕ) → 0 < z → 0 < s → n < (n / z / s + 1) * (z * s)
quotient_above n z s some more =
    let one : n / z + 1 ≤ (n / z / s + 1) * s = omega (arith, next_multiple (n / z) s more) in
    omega (arith, mul-le-mul_right z one, next_multiple n z some)

-- z ^ k k!, by which exact sums are multiplied
unfoldable pub whole : ℕ → ℕ → ℕ
whole blocks zero = 1
whole blocks (suc k) = whole blocks k * (blocks * suc k)

-- A larger unit needs 2 ^ 48 of them.
abbrev IsGrowth : ℕ → ℕ → Type 0
IsGrowth next grow = (grow ≡ 1) ⊎ ((grow ≡ 2 ^ 8) × (2 ^ 48 ≤ next))

is_growth : (next : ℕ) → IsGrowth next (growth next)
is_growth next = grind (arith, nat_tests)

module _ (unit units next n z s scale power : ℕ) where
  below_step : (parts : ℕ) → units * unit ≤ parts → next * (z * s) ≤ units * n →
      parts * scale ≤ 2 ^ 40 * power → next * unit * (scale * (z * s)) ≤ 2 ^ 40 * (power * n)
  below_step parts fewer q before =
      omega (
        arith,
        mul-le-mul_right (unit * scale) q,
        mul-le-mul_right (n * scale) fewer,
        mul-le-mul_right n before,
      )

  unit_step : (grow all : ℕ) → IsGrowth next grow →
      next * unit * (scale * (z * s)) ≤ 2 ^ 40 * (power * n) → unit * scale ≤ all →
      unit * grow * (scale * (z * s)) ≤ all * (z * s) + power * n
  unit_step grow all (inl same) below before =
      rw same (omega (arith, mul-le-mul_right (z * s) before))
  unit_step grow all (inr (many, large)) below before =
      rw many (omega (arith, below, mul-le-mul_right (unit * (scale * (z * s))) large))

  above_step : (grow all all_next k : ℕ) → 0 < grow → units * n < (next + 1) * (z * s) →
      all * n ≤ all_next → unit * grow * (scale * (z * s)) ≤ all_next →
      2 ^ 40 * power ≤ units * unit * scale + 2 * k * all →
      2 ^ 40 * (power * n)
      ≤ next / grow * (unit * grow) * (scale * (z * s)) + 2 * suc k * all_next
  above_step grow all all_next k some q more unit_fits before =
      let last : next + 1 ≤ next / grow * grow + grow = omega (arith, next_multiple next grow some) in
      let rest = unit * (scale * (z * s)) in
      omega (
        arith,
        mul-le-mul_right n before,
        mul-le-mul_right (unit * scale) q,
        mul-le-mul_right (2 * k) more,
        mul-le-mul_right rest last,
        mul-le-mul_right rest some,
        unit_fits,
      )

-- The sum of the weights grows by n / (z (k + 1)) at least.
weights_grow : (keys blocks k : ℕ) →
    weights_to keys blocks k * keys ≤ weights_to keys blocks (suc k)
unfolding weights_to
weights_grow keys blocks zero = rw (pow-suc keys 0, pow-zero keys) (omega arith)
weights_grow keys blocks (suc k) =
    omega (
      arith,
      mul-le-mul_right (blocks * suc k) (weights_grow keys blocks k),
      weights_grow keys blocks k,
      pow-suc keys (suc k),
    )

-- Weight k in parts of 2 ^ 40, beside the exact one.
pub record NearWeight (keys log2_blocks k : ℕ) : Type 0 where
  pub below : (weight keys log2_blocks k).parts * whole (2 ^ log2_blocks) k ≤ 2 ^ 40 * keys ^ k
  pub unit : (weight keys log2_blocks k).unit * whole (2 ^ log2_blocks) k
      ≤ weights_to keys (2 ^ log2_blocks) k
  pub above : let w = weight keys log2_blocks k in
      2 ^ 40 * keys ^ k ≤ w.parts / w.unit * w.unit * whole (2 ^ log2_blocks) k
      + 2 * k * weights_to keys (2 ^ log2_blocks) k

growth_is_positive : (next : ℕ) → 0 < growth next
growth_is_positive next = grind (arith, nat_tests)

pub near_weight : (keys log2_blocks k : ℕ) → NearWeight keys log2_blocks k
unfolding weight weights_to whole
near_weight keys log2_blocks zero = record {
  below = rw (pow-zero keys) (omega arith);
  unit = omega arith;
  above = rw (pow-zero keys) (omega arith);
}
near_weight keys log2_blocks (suc k) =
    let before = near_weight keys log2_blocks k in
    let w = weight keys log2_blocks k in
    let blocks = 2 ^ log2_blocks in
    let units = w.parts / w.unit in
    let next = next_units keys log2_blocks k w in
    let below = below_step w.unit units next keys blocks (suc k) (whole blocks k) (keys ^ k) w.parts
    (div-mul-le_self w.parts w.unit) (quotient_below (units * keys) blocks (suc k)) before.below in
    let unit = unit_step _ units _ _ _ _ _ _ _ _ (is_growth next) below before.unit in
    let above = above_step _ _ _ _ _ _ _ _ _ _ _ k (growth_is_positive next)
    (quotient_above (units * keys) blocks (suc k) (pow_pos log2_blocks) (omega arith))
    (rw (pow-suc keys k) at (weights_grow keys blocks k)) unit before.above in
    let quotient : next * w.unit / (w.unit * growth next) ≡ next / growth next =
    rw (
      ← div-div-eq-div-mul (next * w.unit) w.unit (growth next),
      mul-div_cancel next (unit_is_positive keys log2_blocks k),
    ) refl in
    record {
      below = rw (pow-suc keys k) below;
      unit = rw (pow-suc keys k) unit;
      above = rw (pow-suc keys k, quotient) above;
    }

-- The sum of the weights beside the exact one.
pub record NearSum (keys log2_blocks k : ℕ) : Type 0 where
  pub below : all_to keys log2_blocks k * whole (2 ^ log2_blocks) k
      ≤ 2 ^ 40 * weights_to keys (2 ^ log2_blocks) k
  pub above : 2 ^ 40 * weights_to keys (2 ^ log2_blocks) k
      ≤ all_to keys log2_blocks k * whole (2 ^ log2_blocks) k
      + k * suc k * weights_to keys (2 ^ log2_blocks) k

module _ (all parts t scale exact power : ℕ) where
  sum_below_step : all * scale ≤ 2 ^ 40 * exact → parts * (scale * t) ≤ 2 ^ 40 * power →
      (all + parts) * (scale * t) ≤ 2 ^ 40 * (exact * t + power)
  sum_below_step before next = omega (arith, mul-le-mul_right t before, next)

  sum_above_step : (k : ℕ) → 2 ^ 40 * exact ≤ all * scale + k * suc k * exact →
      2 ^ 40 * power ≤ parts * (scale * t) + 2 * suc k * (exact * t + power) →
      2 ^ 40 * (exact * t + power)
      ≤ (all + parts) * (scale * t) + suc k * suc (suc k) * (exact * t + power)
  sum_above_step k before next = omega (arith, mul-le-mul_right t before, next)

pub parts_above : (keys log2_blocks k : ℕ) →
    2 ^ 40 * keys ^ k
    ≤ (weight keys log2_blocks k).parts * whole (2 ^ log2_blocks) k
    + 2 * k * weights_to keys (2 ^ log2_blocks) k
parts_above keys log2_blocks k =
    let w = weight keys log2_blocks k in
    omega (
      arith,
      (near_weight keys log2_blocks k).above,
      mul-le-mul_right (whole (2 ^ log2_blocks) k) (div-mul-le_self w.parts w.unit),
    )

pub near_sum : (keys log2_blocks k : ℕ) → NearSum keys log2_blocks k
unfolding all_to weight weights_to whole
near_sum keys log2_blocks zero = record { below = omega arith; above = omega arith }
near_sum keys log2_blocks (suc k) =
    let before = near_sum keys log2_blocks k in
    record {
      below = sum_below_step _ _ _ _ _ _ before.below (near_weight keys log2_blocks (suc k)).below;
      above = sum_above_step _ _ _ _ _ _ k before.above (parts_above keys log2_blocks (suc k));
    }
