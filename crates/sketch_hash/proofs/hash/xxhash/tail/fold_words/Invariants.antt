use Rattle.std.proofs.Common.{◌≡◌, length}
use Rattle.std.specs.List.{fold}
use Rattle.sketch_hash.specs.Xxh64.{tail_step, steps}
use Rattle.sketch_hash.proofs.hash.xxhash.tail.fold_words.Given as goal

abbrev pub invariant-words : goal.invariant-words
invariant-words l =
    fold tail_step l.hash (steps l.tail) ≡ fold tail_step l.initial.hash (steps l.initial.tail)

abbrev pub decreases-words : goal.decreases-words
decreases-words l = length l.tail
