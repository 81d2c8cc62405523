-- What the terms after the 384th add to the exact sums.
use Rattle.std.proofs.Common.{◌≡◌, ℕ, zero, suc, ◌+◌, ◌*◌, ◌^◌, ◌<◌, ◌≤◌, mul-pos, pow_pos, arith}
use Rattle.std.proofs.Math.Nat.{mul-le-mul_right, pow-suc, pow-zero, zero-add}
use Rattle.sketch_bloom.proofs.ExactWeights.{whole}
use Rattle.sketch_bloom.proofs.ExactShares.{chosen_le}
use Rattle.sketch_bloom.specs.ExactRate.{found_to, weights_to}

pub whole_is_positive : (keys log2_blocks k : ℕ) → 0 < whole (2 ^ log2_blocks) k
unfolding whole
whole_is_positive keys log2_blocks zero = omega arith
whole_is_positive keys log2_blocks (suc k) =
    mul-pos (whole_is_positive keys log2_blocks k) (mul-pos (pow_pos log2_blocks) (omega arith))

weight_le_sum : (keys blocks k : ℕ) → keys ^ k ≤ weights_to keys blocks k
unfolding weights_to
weight_le_sum keys blocks zero = rw (pow-zero keys) (omega arith)
weight_le_sum keys blocks (suc k) = omega arith

-- With at most 128 keys a block, a weight after the 256th is at most half of the one before it.
halves : (keys blocks k : ℕ) → keys ≤ 128 * blocks → 255 ≤ k →
    2 * keys ^ suc k ≤ keys ^ k * (blocks * suc k)
halves keys blocks k few late =
    let half : 2 * keys ≤ blocks * suc k = omega (arith, mul-le-mul_right blocks late) in
    rw (pow-suc keys k) (omega (arith, mul-le-mul_right (keys ^ k) half))

halved_step : (power next t twos exact : ℕ) → 2 * next ≤ power * t → power * twos ≤ exact →
    next * (twos * 2) ≤ exact * t + next
halved_step power next t twos exact half before =
    omega (arith, mul-le-mul_right twos half, mul-le-mul_right t before)

-- the weight after j halvings, beside the sum of all
pub halved : (keys blocks k j : ℕ) → keys ≤ 128 * blocks → 255 ≤ k →
    keys ^ (j + k) * 2 ^ j ≤ weights_to keys blocks (j + k)
unfolding weights_to
halved keys blocks k zero few late = omega (arith, weight_le_sum keys blocks (0 + k))
halved keys blocks k (suc j) few late =
    let next : suc j + k ≡ suc (j + k) = omega arith in
    let half = halves keys blocks (j + k) few (omega (arith, late)) in
    rw (next, pow-suc 2 j) (halved_step _ _ _ _ _ half (halved keys blocks k j few late))

-- What the terms from k to `last` add to the sums is at most weight k.
pub record MoreTerms (keys blocks k last : ℕ) : Type 0 where
  pub sum : (weights_to keys blocks last + keys ^ last) * whole blocks k
      ≤ (weights_to keys blocks k + keys ^ k) * whole blocks last
  pub sum_grows : weights_to keys blocks k * whole blocks last
      ≤ weights_to keys blocks last * whole blocks k
  pub found :
      (found_to keys blocks last + keys ^ last * (32 ^ 8) ^ last) * (whole blocks k * (32 ^ 8) ^ k)
      ≤ (found_to keys blocks k + keys ^ k * (32 ^ 8) ^ k) * (whole blocks last * (32 ^ 8) ^ last)
  pub found_grows : found_to keys blocks k * (whole blocks last * (32 ^ 8) ^ last)
      ≤ found_to keys blocks last * (whole blocks k * (32 ^ 8) ^ k)

module _ (next power t scale scale_now all : ℕ) (half : 2 * next ≤ power * t) where
  more_sum_step : (exact : ℕ) → (exact + power) * scale ≤ all * scale_now →
      (exact * t + next + next) * scale ≤ all * (scale_now * t)
  more_sum_step exact before =
      omega (arith, mul-le-mul_right scale half, mul-le-mul_right t before)

  more_found_step : (found chosen q : ℕ) → chosen ≤ q * 32 ^ 8 →
      (found + power * q) * scale ≤ all * (scale_now * q) →
      (found * (t * 32 ^ 8) + next * chosen + next * (q * 32 ^ 8)) * scale
      ≤ all * (scale_now * t * (q * 32 ^ 8))
  more_found_step found chosen q most before =
      omega (
        arith,
        mul-le-mul_right (q * 32 ^ 8 * scale) half,
        mul-le-mul_right (next * scale) most,
        mul-le-mul_right (t * 32 ^ 8) before,
      )

found_grows_step : (found_now found next chosen t scale scale_now q q_now : ℕ) →
    found * (scale_now * q_now) ≤ found_now * (scale * q) →
    found * (scale_now * t * (q_now * 32 ^ 8))
    ≤ (found_now * (t * 32 ^ 8) + next * chosen) * (scale * q)
found_grows_step found_now found next chosen t scale scale_now q q_now before =
    omega (arith, mul-le-mul_right (t * 32 ^ 8) before)

pub more_terms : (keys blocks k j : ℕ) → keys ≤ 128 * blocks → 255 ≤ k →
    MoreTerms keys blocks k (j + k)
unfolding found_to weights_to whole
more_terms keys blocks k zero few late = rw (zero-add k) (record {
  sum = omega arith;
  sum_grows = omega arith;
  found = omega arith;
  found_grows = omega arith;
})
more_terms keys blocks k (suc j) few late =
    let before = more_terms keys blocks k j few late in
    let next : suc j + k ≡ suc (j + k) = omega arith in
    let t = blocks * suc (j + k) in
    let half = halves keys blocks (j + k) few (omega (arith, late)) in
    rw next (record {
      sum = more_sum_step _ _ _ _ _ _ half _ before.sum;
      sum_grows = omega (arith, mul-le-mul_right t before.sum_grows);
      found = rw (pow-suc (32 ^ 8) (j + k))
          (more_found_step _ _ _ _ _ _ half _ _ _ (chosen_le (j + k)) before.found);
      found_grows = rw (pow-suc (32 ^ 8) (j + k))
          (found_grows_step _ _ _ _ _ _ _ _ _ before.found_grows);
    })
