-- Rewriting rules for the calls.
use Rattle.std.proofs.lemmas.List.{map-id}
use Rattle.datasketches.specs.PiecesWriteLemmas.{murmur_after-empty, xxh64_after-empty}

-- the place of an offset is the offset itself
pub ruleset for_columns = (map-id)

-- a stream without bytes is the new stream
pub ruleset for_reset = (murmur_after-empty, xxh64_after-empty)
