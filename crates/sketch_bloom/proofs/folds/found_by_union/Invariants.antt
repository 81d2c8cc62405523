use Rattle.std.proofs.Common.{◌≡◌, ℕ, ◌^◌, ◌≤◌, List}
use Rattle.sketch_bloom.specs.Filter.{Folds}
use Rattle.sketch_bloom.specs.FoldRate.{found_by_words}
use Rattle.sketch_bloom.proofs.folds.found_by_union.Given as goal

-- the product over the first words
abbrev pub invariant-loop-w : goal.invariant-loop-w
invariant-loop-w l = (l.found ≤ 32 ^ l.w)
    × ((folded : List ℕ) → Folds l.filter folded → l.found ≡ found_by_words folded l.k l.w)
