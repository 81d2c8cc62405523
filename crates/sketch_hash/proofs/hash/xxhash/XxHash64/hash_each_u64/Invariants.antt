use Rattle.std.proofs.Common.{◌≡◌, ◌<◌, ℕ, get_or}
use Rattle.sketch_base.specs.Bytes.{eight}
use Rattle.sketch_hash.specs.Xxh64.{xxh64}
use Rattle.sketch_hash.proofs.hash.xxhash.XxHash64.hash_each_u64.Given as goal

abbrev pub invariant-loop-i : goal.invariant-loop-i
invariant-loop-i l = (j d : ℕ) → j < l.i →
    get_or l.out j d ≡ xxh64 l.seed (eight (get_or l.input j 0))
