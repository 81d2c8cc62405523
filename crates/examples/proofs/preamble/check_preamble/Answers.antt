use Rattle.std.proofs.Common.{rules, arith, ◌≡◌, ℕ, sym, List}
use Rattle.datasketches.specs.ErrorValue.{ErrorValue}
use Rattle.examples.specs.{HasPreamble, RefusesFields, fields_of}
use Rattle.examples.proofs.preamble.check_preamble.Goals as goal

same_fields : (seed : ℕ) (a b : ℕ × ℕ × ℕ × ℕ) (error : ErrorValue) → a ≡ b →
    RefusesFields seed a error → RefusesFields seed b error
same_fields seed a b error h r = rw (sym h) r

wrong_fields : (seed : ℕ) (bytes : List ℕ) (error : ErrorValue) →
    RefusesFields seed (fields_of bytes) error → HasPreamble seed bytes → ⊥
unfolding RefusesFields
wrong_fields seed bytes error r h = grind arith

-- src/preamble.rt:60:18
pub returns-in_err-fields-clause-error : goal.returns-in_err-fields-clause-error
returns-in_err-fields-clause-error c = search rules

-- src/preamble.rt:53:1
pub returns-clause-checked : goal.returns-clause-checked
returns-clause-checked c = search (rules, same_fields, wrong_fields)

pub returns-clause-error : goal.returns-clause-error
returns-clause-error c = search (rules, same_fields)
