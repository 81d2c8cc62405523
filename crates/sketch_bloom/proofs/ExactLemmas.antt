-- The law of sizes, from the bounds of the sums.
use Rattle.std.proofs.Common.{◌≡◌, ℕ, zero, suc, ◌+◌, ◌-◌, ◌*◌, ◌/◌, ◌^◌, ◌<◌, ◌≤◌, inl, inr, mul-pos, sym, arith}
use Rattle.std.proofs.Math.Nat.{div-mul-le_self, eq-or-lt_of_le, le_of_mul-le-mul_right, lt_of_not-le, mul-le-mul_right, one-le-pow, pow-suc}
use Rattle.std.proofs.lemmas.Bool.{cases_lt}
use Rattle.sketch_bloom.proofs.ExactWeights.{next_multiple, whole, near_weight, near_sum}
use Rattle.sketch_bloom.proofs.ExactShares.{chosen_le}
use Rattle.sketch_bloom.proofs.ExactFound.{near_found}
use Rattle.sketch_bloom.proofs.ExactTail.{MoreTerms, whole_is_positive, halved, more_terms}
use Rattle.sketch_bloom.proofs.ExactCrowd.{at_least_half}
use Rattle.sketch_bloom.specs.Size.{KeepsRate, all_to, covered_to, weight}
use Rattle.sketch_bloom.specs.ExactRate.{IsRateAbove, IsRateBelow, found_to, weights_to}
use Rattle.sketch_bloom.specs.Laws.{SizeLaw}
use Rattle.sketch_bloom.proofs.SizeLemmas.{unit_is_positive}

-- In calls below, `_` stands for a number that the facts determine.
--
-- Each term bounds an error in parts of 2 ^ 100: of the weights, of c(k), of the last division. That
-- of the weights' sum to the term 383, in parts of 2 ^ 40, is 383 * 384 = 147072.
abbrev most_above : ℕ
most_above = 2 ^ 60 * 147072 + 2 ^ 54 + 1

module _ (found all unit shares one_in scale exact exact_found q : ℕ) (some : 0 < unit)
    (most : shares * one_in ≤ 2 ^ 60) (unit_fits : unit * scale ≤ exact)
    (sum_below : all * scale ≤ 2 ^ 40 * exact) where
  kept_step : found / unit ≤ all / unit * shares →
      2 ^ 100 * exact_found ≤ found * (scale * q) + (2 ^ 60 * 147072 + 2 ^ 54) * (exact * q) →
      exact_found * one_in * 2 ^ 100 ≤ exact * q * (2 ^ 100 + most_above * one_in)
  kept_step rate above =
      let one : found ≤ all * shares + unit = omega (
        arith,
        next_multiple found unit some,
        mul-le-mul_right unit rate,
        mul-le-mul_right shares (div-mul-le_self all unit),
      ) in
      omega (
        arith,
        mul-le-mul_right one_in above,
        mul-le-mul_right (one_in * scale * q) one,
        mul-le-mul_right (all * scale * q) most,
        mul-le-mul_right q sum_below,
        mul-le-mul_right (q * one_in) unit_fits,
      )

  missed_step : all / unit * shares < found / unit → 2 ^ 60 ≤ (shares + 1) * one_in →
      found * (scale * q) ≤ 2 ^ 100 * exact_found + 2 ^ 63 * (exact * q) →
      2 ^ 40 * exact ≤ all * scale + 147072 * exact →
      exact * q * 2 ^ 100
      ≤ exact_found * one_in * 2 ^ 100
      + exact * q * (2 ^ 60 * 147073 + (2 ^ 63 + 2 ^ 40) * one_in)
  missed_step rate least below sum_above =
      let one : all * shares ≤ found + unit * shares = omega (
        arith,
        next_multiple all unit some,
        mul-le-mul_right unit rate,
        div-mul-le_self found unit,
        mul-le-mul_right shares (next_multiple all unit some),
      ) in
      omega (
        arith,
        mul-le-mul_right one_in below,
        mul-le-mul_right (one_in * scale * q) one,
        mul-le-mul_right (all * scale * q) least,
        mul-le-mul_right (unit * scale * q) most,
        mul-le-mul_right q sum_above,
        mul-le-mul_right (q * one_in) sum_below,
        mul-le-mul_right q unit_fits,
      )

module _ (found exact power scale q found_now exact_now power_now scale_now q_now one_in : ℕ)
    (some : 0 < scale * q) (small : power * 2 ^ 128 ≤ exact)
    (grows : exact * scale_now ≤ exact_now * scale) where
  kept_more : found * one_in * 2 ^ 100 ≤ exact * q * (2 ^ 100 + most_above * one_in) →
      (found_now + power_now * q_now) * (scale * q) ≤ (found + power * q) * (scale_now * q_now) →
      found_now * one_in * 2 ^ 22 ≤ exact_now * q_now * (2 ^ 22 + one_in)
  kept_more kept more =
      let whole : found_now * one_in * 2 ^ 100 * (scale * q)
      ≤ exact_now * q_now * (2 ^ 100 + (most_above + 1) * one_in) * (scale * q) =
      omega (
        arith,
        mul-le-mul_right one_in more,
        mul-le-mul_right (scale_now * q_now) kept,
        mul-le-mul_right (q * one_in * scale_now * q_now) small,
        mul-le-mul_right (q * q_now) grows,
        mul-le-mul_right (q * q_now * one_in) grows,
      ) in
      omega (arith, le_of_mul-le-mul_right {k = scale * q} whole some)

  missed_more :
      exact * q * 2 ^ 100
      ≤ found * one_in * 2 ^ 100 + exact * q * (2 ^ 60 * 147073 + (2 ^ 63 + 2 ^ 40) * one_in) →
      found * (scale_now * q_now) ≤ found_now * (scale * q) →
      (exact_now + power_now) * scale ≤ (exact + power) * scale_now →
      exact_now * q_now * 2 ^ 36
      ≤ found_now * one_in * 2 ^ 36 + exact_now * q_now * (2 ^ 14 + one_in)
  missed_more missed more sum =
      let whole : exact_now * q_now * 2 ^ 100 * (scale * q) ≤ (found_now * one_in * 2 ^ 100
      + exact_now * q_now * (2 ^ 60 * 147073 + 1 + (2 ^ 63 + 2 ^ 40) * one_in)) * (scale * q) =
      omega (
        arith,
        mul-le-mul_right one_in more,
        mul-le-mul_right (scale_now * q_now) missed,
        mul-le-mul_right (q * scale_now * q_now) small,
        mul-le-mul_right (q * q_now) sum,
        mul-le-mul_right (q * q_now) grows,
        mul-le-mul_right (q * q_now * one_in) grows,
      ) in
      omega (arith, le_of_mul-le-mul_right {k = scale * q} whole some)

found_le : (keys blocks k : ℕ) → found_to keys blocks k ≤ weights_to keys blocks k * (32 ^ 8) ^ k
unfolding found_to weights_to
found_le keys blocks zero = omega arith
found_le keys blocks (suc k) = rw (pow-suc (32 ^ 8) k) (omega (
  arith,
  mul-le-mul_right (blocks * suc k * 32 ^ 8) (found_le keys blocks k),
  mul-le-mul_right (keys ^ suc k) (chosen_le k),
))

-- What the sums to the terms 383 and k have to do with each other.
module _ (keys log2_blocks : ℕ) (few : keys ≤ 128 * 2 ^ log2_blocks) where
  some_parts : 0 < whole (2 ^ log2_blocks) 383 * (32 ^ 8) ^ 383
  some_parts = mul-pos (whole_is_positive keys log2_blocks 383) (one-le-pow 383 (32 ^ 8) (omega arith))

  small : keys ^ 383 * 2 ^ 128 ≤ weights_to keys (2 ^ log2_blocks) 383
  small = halved keys (2 ^ log2_blocks) 255 128 few (omega arith)

  more : (k : ℕ) → 383 ≤ k → MoreTerms keys (2 ^ log2_blocks) 383 k
  more k late =
      let last : k - 383 + 383 ≡ k = omega (arith, late) in
      rw last at (more_terms keys (2 ^ log2_blocks) 383 (k - 383) few (omega arith))

kept : (keys one_in log2_blocks k : ℕ) → 383 ≤ k → KeepsRate keys log2_blocks one_in →
    IsRateBelow keys (2 ^ log2_blocks) one_in k
kept keys one_in log2_blocks k late (inl same) =
    rw same (omega (arith, found_le keys (2 ^ log2_blocks) k))
kept keys one_in log2_blocks k late (inr (many, (few, rate))) =
    let first = kept_step _ _ _ _ _ _ _ _ _ (unit_is_positive keys log2_blocks 383)
    (div-mul-le_self (2 ^ 60) one_in)
    (near_weight keys log2_blocks 383).unit (near_sum keys log2_blocks 383).below rate
    (near_found keys log2_blocks 383).above in
    let last = more keys log2_blocks few k late in
    kept_more _ _ _ _ _ _ _ _ _ _ _ (some_parts keys log2_blocks few) (small keys log2_blocks few)
    last.sum_grows first last.found

missed_few : (keys one_in log2_blocks k : ℕ) → 383 ≤ k → 0 < one_in → keys ≤ 128 * 2 ^ log2_blocks →
    (let unit = (weight keys log2_blocks 383).unit in
    all_to keys log2_blocks 383 / unit * (2 ^ 60 / one_in)
    < covered_to keys log2_blocks 383 / unit) →
    IsRateAbove keys (2 ^ log2_blocks) one_in k
missed_few keys one_in log2_blocks k late some few rate =
    let least : 2 ^ 60 ≤ (2 ^ 60 / one_in + 1) * one_in =
    omega (arith, next_multiple (2 ^ 60) one_in some) in
    let sum = near_sum keys log2_blocks 383 in
    let first = missed_step _ _ _ _ _ _ _ _ _ (unit_is_positive keys log2_blocks 383)
    (div-mul-le_self (2 ^ 60) one_in)
    (near_weight keys log2_blocks 383).unit sum.below rate least
    (near_found keys log2_blocks 383).below sum.above in
    let last = more keys log2_blocks few k late in
    missed_more _ _ _ _ _ _ _ _ _ _ _ (some_parts keys log2_blocks few) (small keys log2_blocks few)
    last.sum_grows first last.found_grows last.sum

missed_many : (keys one_in blocks k : ℕ) → 383 ≤ k → 1 < one_in → 128 * blocks ≤ keys →
    IsRateAbove keys blocks one_in k
missed_many keys one_in blocks k late two many =
    let last : k - 107 + 107 ≡ k = omega (arith, late) in
    let half = rw last at (at_least_half keys blocks many (k - 107)) in
    omega (arith, half, mul-le-mul_right (found_to keys blocks k) two)

missed : (keys one_in log2_blocks k : ℕ) → 383 ≤ k → 0 < one_in →
    (KeepsRate keys log2_blocks one_in → ⊥) → IsRateAbove keys (2 ^ log2_blocks) one_in k
missed keys one_in log2_blocks k late some misses =
    elim (eq-or-lt_of_le {n = 1} {m = one_in} some) [
      | inl same ↦ absurd (misses (inl (sym same)))
      | inr two ↦ elim (cases_lt (128 * 2 ^ log2_blocks) keys) [
        | inl many ↦ missed_many keys one_in (2 ^ log2_blocks) k late two (omega (arith, many))
        | inr few ↦ missed_few keys one_in log2_blocks k late some few
            (lt_of_not-le (λ rate. misses (inr (two, (few, rate)))))
      ]
    ]

pub size_law : SizeLaw
size_law = record { kept = kept; missed = missed }
