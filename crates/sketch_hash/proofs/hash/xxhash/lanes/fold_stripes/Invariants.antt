use Rattle.std.proofs.Common.{◌≡◌, take}
use Rattle.sketch_hash.specs.Xxh64.{each_lane}
use Rattle.sketch_hash.proofs.hash.xxhash.lanes.fold_stripes.Given as goal

abbrev pub invariant-loop-stripe : goal.invariant-loop-stripe
invariant-loop-stripe l =
    l.lanes
    ≡ each_lane l.initial.lanes (take l.stripe-index l.stripes)
