use Rattle.std.proofs.Common.{◌≡◌, take}
use Rattle.std.specs.List.{flat_map}
use Rattle.sketch_hash.proofs.hash.value.feed_all.Given as goal

abbrev pub invariant-loop-value : goal.invariant-loop-value
invariant-loop-value g l =
    l.state ≡ g.H.Hasher.after l.initial.state (flat_map g.T.Hash.fed (take l.value-index l.values))
