use Rattle.std.proofs.Common.{◌≡◌, ◌<◌, ℕ, List, get_or, map}
use Rattle.sketch_hash.specs.Columns.{key_at, murmur_words}
use Rattle.sketch_hash.proofs.hash.murmurhash.MurmurHash3X64128.hash_each.Given as goal

abbrev pub invariant-loop-i : goal.invariant-loop-i
invariant-loop-i g l = (j : ℕ) (d : List ℕ) → j < l.i →
    get_or l.out j d ≡ murmur_words l.seed (key_at l.bytes (map g.O.Offset.place l.offsets) j)
