use Rattle.std.proofs.Common.{◌≤◌, ◌-◌, map}
use Rattle.sketch_bloom.specs.Columns.{key_hashes}
use Rattle.sketch_bloom.specs.Filter.{InsertsAll}
use Rattle.sketch_bloom.proofs.columns.insert_each.Given as goal

-- the first keys are inserted
abbrev pub invariant-loop-start : goal.invariant-loop-start
invariant-loop-start g l = (l.start ≤ l.count)
    × InsertsAll (key_hashes l.keys (map g.O.Offset.place l.offsets) l.start) l.fn.filter l.filter

abbrev pub decreases-loop-start : goal.decreases-loop-start
decreases-loop-start g l = l.count - l.start
