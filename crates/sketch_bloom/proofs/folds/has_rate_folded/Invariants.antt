use Rattle.std.proofs.Common.{◌≡◌, ℕ, ◌*◌, ◌^◌, ◌≤◌, List}
use Rattle.sketch_bloom.specs.Filter.{Folds}
use Rattle.sketch_bloom.specs.FoldRate.{found_by_blocks}
use Rattle.sketch_bloom.proofs.folds.has_rate_folded.Given as goal

-- the sum over the first blocks
abbrev pub invariant-loop-k : goal.invariant-loop-k
invariant-loop-k l = (l.found ≤ l.k * 2 ^ 40)
    × ((folded : List ℕ) → Folds l.filter folded → l.found ≡ found_by_blocks folded l.k)
