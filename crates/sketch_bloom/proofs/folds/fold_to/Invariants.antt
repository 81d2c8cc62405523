use Rattle.std.proofs.Common.{◌≤◌, length, take}
use Rattle.sketch_bloom.specs.Filter.{IsLength}
use Rattle.sketch_bloom.specs.FoldRate.{FoldsWithin}
use Rattle.sketch_bloom.proofs.folds.fold_to.Given as goal

-- the first bytes are the filter that was folded so far
abbrev pub invariant-loop-bytes : goal.invariant-loop-bytes
invariant-loop-bytes l = (l.bytes ≤ length l.filter) × IsLength l.bytes
    × FoldsWithin l.one_in l.fn.filter (take l.bytes l.filter)

abbrev pub decreases-loop-bytes : goal.decreases-loop-bytes
decreases-loop-bytes l = l.bytes
