-- The sum of the weights times c(k), of `Size.antt`, beside the exact one.
use Rattle.std.proofs.Common.{ℕ, zero, suc, ◌+◌, ◌*◌, ◌^◌, ◌≤◌, arith}
use Rattle.std.proofs.Math.Nat.{mul-le-mul_right, pow-suc}
use Rattle.sketch_bloom.proofs.ExactWeights.{whole, near_weight, parts_above}
use Rattle.sketch_bloom.proofs.ExactShares.{covered_over, covered_under, covered_fits}
use Rattle.sketch_bloom.specs.Size.{clear, covered_to, eighth_power, weight}
use Rattle.sketch_bloom.specs.ExactRate.{found_to, weights_to}

-- The sum of the weights times c, beside the exact one.
pub record NearFound (keys log2_blocks k : ℕ) : Type 0 where
  pub below : covered_to keys log2_blocks k * (whole (2 ^ log2_blocks) k * (32 ^ 8) ^ k)
      ≤ 2 ^ 100 * found_to keys (2 ^ log2_blocks) k
      + 2 ^ 63 * (weights_to keys (2 ^ log2_blocks) k * (32 ^ 8) ^ k)
  pub above : 2 ^ 100 * found_to keys (2 ^ log2_blocks) k
      ≤ covered_to keys log2_blocks k * (whole (2 ^ log2_blocks) k * (32 ^ 8) ^ k)
      + (2 ^ 60 * (k * suc k) + 2 ^ 54) * (weights_to keys (2 ^ log2_blocks) k * (32 ^ 8) ^ k)

module _ (found parts c chosen t scale exact exact_found power q : ℕ) where
  found_below_step : found * (scale * q) ≤ 2 ^ 100 * exact_found + 2 ^ 63 * (exact * q) →
      parts * (scale * t) ≤ 2 ^ 40 * power →
      c * (q * 32 ^ 8) ≤ 2 ^ 60 * chosen + 2 ^ 23 * (q * 32 ^ 8) →
      (found + parts * c) * (scale * t * (q * 32 ^ 8))
      ≤ 2 ^ 100 * (exact_found * (t * 32 ^ 8) + power * chosen)
      + 2 ^ 63 * ((exact * t + power) * (q * 32 ^ 8))
  found_below_step before part share =
      omega (
        arith,
        mul-le-mul_right (t * 32 ^ 8) before,
        mul-le-mul_right (parts * (scale * t)) share,
        mul-le-mul_right chosen part,
        mul-le-mul_right q part,
      )

  found_above_step : (k : ℕ) → c ≤ 2 ^ 60 →
      2 ^ 100 * exact_found ≤ found * (scale * q) + (2 ^ 60 * (k * suc k) + 2 ^ 54) * (exact * q) →
      2 ^ 40 * power ≤ parts * (scale * t) + 2 * suc k * (exact * t + power) →
      2 ^ 60 * chosen ≤ (c + 2 ^ 14) * (q * 32 ^ 8) →
      2 ^ 100 * (exact_found * (t * 32 ^ 8) + power * chosen)
      ≤ (found + parts * c) * (scale * t * (q * 32 ^ 8))
      + (2 ^ 60 * (suc k * suc (suc k)) + 2 ^ 54) * ((exact * t + power) * (q * 32 ^ 8))
  found_above_step k fits before part share =
      omega (
        arith,
        mul-le-mul_right (t * 32 ^ 8) before,
        mul-le-mul_right power share,
        mul-le-mul_right (c * q) part,
        mul-le-mul_right (suc k * (exact * t + power) * q) fits,
      )

pub near_found : (keys log2_blocks k : ℕ) → NearFound keys log2_blocks k
unfolding covered_to found_to weight weights_to whole clear eighth_power
near_found keys log2_blocks zero = record { below = omega arith; above = omega arith }
near_found keys log2_blocks (suc k) =
    let before = near_found keys log2_blocks k in
    record {
      below = rw (pow-suc (32 ^ 8) k) (found_below_step _ _ _ _ _ _ _ _ _ _ before.below
          (near_weight keys log2_blocks (suc k)).below
          (rw (pow-suc (32 ^ 8) k) at (covered_over (suc k))));
      above = rw (pow-suc (32 ^ 8) k) (found_above_step _ _ _ _ _ _ _ _ _ _ k
          (covered_fits (suc k)) before.above (parts_above keys log2_blocks (suc k))
          (rw (pow-suc (32 ^ 8) k) at (covered_under (suc k))));
    }
