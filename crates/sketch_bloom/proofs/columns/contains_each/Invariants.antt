use Rattle.std.proofs.Common.{◌<◌, ◌≤◌, ◌-◌, ℕ, get_or, map}
use Rattle.datasketches.specs.Columns.{key_at}
use Rattle.sketch_bloom.specs.Columns.{IsAnswer}
use Rattle.sketch_bloom.specs.Filter.{hash_of}
use Rattle.sketch_bloom.proofs.columns.contains_each.Given as goal

-- the first answers are written
abbrev pub invariant-loop-start : goal.invariant-loop-start
invariant-loop-start g l = (l.start ≤ l.count) × ((k : ℕ) → k < l.start →
    IsAnswer l.filter (hash_of (key_at l.keys (map g.O.Offset.place l.offsets) k)) (get_or l.found k 0))

abbrev pub decreases-loop-start : goal.decreases-loop-start
decreases-loop-start g l = l.count - l.start
