use Rattle.std.proofs.Common.{◌≡◌, ◌+◌, ◌<◌, ℕ, get_or, map}
use Rattle.sketch_hash.specs.Columns.{key_at}
use Rattle.sketch_hash.specs.Xxh64.{xxh64}
use Rattle.sketch_hash.proofs.hash.xxhash.XxHash64.hash_run.Given as goal

abbrev pub invariant-loop-i : goal.invariant-loop-i
invariant-loop-i g l = (j d : ℕ) → j < l.i →
    get_or l.out j d ≡ xxh64 l.seed (key_at l.bytes (map g.O.Offset.place l.offsets) (l.start + j))
