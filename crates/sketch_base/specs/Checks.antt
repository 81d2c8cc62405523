-- What a check returns: which numbers it accepts, and the error for the others.
use Rattle.std.specs.Prelude.{ℕ, List, [], ◌++◌, Bool, true, ◌&&◌, nat_lt, nat_le, codes, Result, MatchResult}
use Rattle.std.specs.Fmt.{decimal}
use Rattle.std.specs.declared.ops.Bound.{Bound}
use Rattle.std.specs.declared.ops.Bound.TheVariants.{Included, Excluded, Unbounded}
use Rattle.sketch_base.specs.declared.error.ErrorKind.TheVariants.{InvalidData}
use Rattle.sketch_base.specs.ErrorValue.{ErrorValue}
use Rattle.sketch_base.specs.Refusals.{Refuses}

-- Ok exactly if the condition holds, and otherwise an error with this text
abbrev pub AcceptsExactly : Type 0 → List ℕ → Result (Unit {0}) ErrorValue → Type 0
AcceptsExactly Condition text result = MatchResult result
    (λ _. Condition) (λ error. (Condition → ⊥) × Refuses InvalidData text error)

-- a range of numbers: how it prints, and which numbers it has
pub record Range : Type 0 where
  pub text : List ℕ
  pub has : ℕ → Bool

-- the start of a range lets the number in
abbrev pub is_above : Bound ℕ → ℕ → Bool
is_above (Included a) x = nat_le a x
is_above (Excluded a) x = nat_lt a x
is_above Unbounded x = true

-- the end of a range lets the number in
abbrev pub is_below : Bound ℕ → ℕ → Bool
is_below (Included b) x = nat_le x b
is_below (Excluded b) x = nat_lt x b
is_below Unbounded x = true

-- the text of the range between two ends; that of a range with two open ends is never printed
abbrev pub range_text : Bound ℕ → Bound ℕ → List ℕ
range_text (Included a) (Included b) =
    codes "[" ++ (decimal a ++ (codes ", " ++ (decimal b ++ codes "]")))
range_text (Included a) (Excluded b) =
    codes "[" ++ (decimal a ++ (codes ", " ++ (decimal b ++ codes ")")))
range_text (Excluded a) (Included b) =
    codes "(" ++ (decimal a ++ (codes ", " ++ (decimal b ++ codes "]")))
range_text (Excluded a) (Excluded b) =
    codes "(" ++ (decimal a ++ (codes ", " ++ (decimal b ++ codes ")")))
range_text Unbounded (Included b) = codes "at most " ++ decimal b
range_text Unbounded (Excluded b) = codes "less than " ++ decimal b
range_text (Included a) Unbounded = codes "at least " ++ decimal a
range_text (Excluded a) Unbounded = codes "greater than " ++ decimal a
range_text Unbounded Unbounded = []

-- the range between two ends
abbrev pub range : Bound ℕ → Bound ℕ → Range
range start end = record {
  text = range_text start end;
  has = λ x. is_above start x && is_below end x;
}
