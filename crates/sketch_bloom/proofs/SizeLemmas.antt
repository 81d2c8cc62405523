-- The sums for a rate, as the code computes them.
use Rattle.std.proofs.Common.{◌≡◌, ℕ, zero, suc, ◌+◌, ◌-◌, ◌*◌, ◌/◌, ◌^◌, ◌<◌, ◌≤◌, refl, sym, arith}
use Rattle.std.proofs.Math.Nat.{add-mul-div_right, div-div-eq-div-mul, div-one, mul-div_cancel}
use Rattle.std.proofs.lemmas.Bool.Decides.{nat_tests}
use Rattle.sketch_bloom.specs.Size.{all_to, clear, covered, covered_to, eighth_power, growth, weight}

-- The code's numbers after term k: the weight and the sums in units, and what is clear.
pub record Reached (keys log2_blocks k units all found clear_now : ℕ) : Type 0 where
  pub units_are : units ≡ (weight keys log2_blocks k).parts / (weight keys log2_blocks k).unit
  pub all_is : all ≡ all_to keys log2_blocks k / (weight keys log2_blocks k).unit
  pub found_is : found ≡ covered_to keys log2_blocks k / (weight keys log2_blocks k).unit
  pub clear_is : clear_now ≡ clear k

pub first_term : (keys log2_blocks : ℕ) → Reached keys log2_blocks 0 (2 ^ 40) (2 ^ 40) 0 (2 ^ 50)
unfolding weight all_to covered_to clear eighth_power
first_term keys log2_blocks = record {
  units_are = refl;
  all_is = refl;
  found_is = refl;
  clear_is = refl;
}

pub unit_is_positive : (keys log2_blocks k : ℕ) → 0 < (weight keys log2_blocks k).unit
unfolding weight
unit_is_positive keys log2_blocks zero = omega arith
unit_is_positive keys log2_blocks (suc k) =
    grind (arith, nat_tests, unit_is_positive keys log2_blocks k)

-- (sum + more * unit) / (unit * factor) = (sum / unit + more) / factor
add_units : (sum more unit factor : ℕ) → 0 < unit →
    (sum + more * unit) / (unit * factor) ≡ (sum / unit + more) / factor
add_units sum more unit factor positive =
    rw (← div-div-eq-div-mul (sum + more * unit) unit factor, add-mul-div_right sum more positive) refl

quotient : (more unit factor : ℕ) → 0 < unit → more * unit / (unit * factor) ≡ more / factor
quotient more unit factor positive =
    rw (← div-div-eq-div-mul (more * unit) unit factor, mul-div_cancel more positive) refl

module _ {keys log2_blocks k units all found clear_now : ℕ}
    (before : Reached keys log2_blocks k units all found clear_now) where
  abbrev pub next : ℕ
  next = units * keys / 2 ^ log2_blocks / suc k

  abbrev pub next_found : ℕ
  next_found = found + next * eighth_power (2 ^ 50 - clear_now / 32 * 31)

  abbrev unit : ℕ
  unit = (weight keys log2_blocks k).unit

  unit_is : (weight keys log2_blocks (suc k)).unit ≡ unit * growth next
  unfolding weight
  unit_is = rw before.units_are refl

  parts_are : (weight keys log2_blocks (suc k)).parts ≡ next * unit
  unfolding weight
  parts_are = rw before.units_are refl

  next_term : Reached keys log2_blocks (suc k) (next / growth next) ((all + next) / growth next)
      (next_found / growth next) (clear_now / 32 * 31)
  unfolding all_to covered_to clear
  next_term =
      let positive = unit_is_positive keys log2_blocks k in
      let share = covered (suc k) in
      let product : next * unit * share ≡ next * share * unit = grind arith in
      record {
        units_are = rw (unit_is, parts_are) (sym (quotient next unit (growth next) positive));
        all_is = rw (unit_is, parts_are, before.all_is)
            (sym (add_units (all_to keys log2_blocks k) next unit (growth next) positive));
        found_is = rw (unit_is, parts_are, before.found_is, before.clear_is, product)
            (sym (add_units (covered_to keys log2_blocks k) (next * share) unit (growth next) positive));
        clear_is = rw before.clear_is refl;
      }

  -- A weight below 2 ^ 48 units keeps the unit, and a larger one makes it 2 ^ 8 times as large.
  pub with_same_unit : next < 2 ^ 48 → Reached keys log2_blocks (suc k) next (all + next) next_found
      (clear_now / 32 * 31)
  with_same_unit small =
      let one : growth next ≡ 1 = grind (arith, nat_tests) in
      simp div-one at (rw one at next_term)

  pub with_larger_unit : 2 ^ 48 ≤ next → Reached keys log2_blocks (suc k) (next / 2 ^ 8)
      ((all + next) / 2 ^ 8) (next_found / 2 ^ 8) (clear_now / 32 * 31)
  with_larger_unit large =
      let many : growth next ≡ 2 ^ 8 = grind (arith, nat_tests) in
      rw many at next_term
