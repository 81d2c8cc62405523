use Rattle.std.proofs.Common.{zero, suc, ℕ, ◌≤◌, List, [], ◌∷◌, take, arith}
use Rattle.datasketches.specs.Items.{widths}
use Rattle.datasketches.specs.declared.codec.Kind.{Kind}
use Rattle.examples.proofs.items.read_all.Goals as goal

widths-take-le : (n : ℕ) (kinds : List Kind) → widths (take n kinds) ≤ widths kinds
widths-take-le zero kinds = omega arith
widths-take-le (suc n) [] = omega arith
widths-take-le (suc n) (kind ∷ kinds) = omega (arith, widths-take-le n kinds)

pub returns-in_err-read_items-clause-short : goal.returns-in_err-read_items-clause-short
returns-in_err-read_items-clause-short c = grind (arith, widths-take-le)
