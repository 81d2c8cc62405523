-- A hasher's saved state, which is plain words and bytes. Of `waiting` only the first bytes count:
-- as many as the total has after its last full piece.
use Rattle.std.specs.Prelude.{ℕ, List, ◌%◌, take}
use Rattle.sketch_hash.specs.Pieces.{State}
use Rattle.sketch_hash.specs.Murmur.{MurmurStands}
use Rattle.sketch_hash.specs.Xxh64.{Lanes, Xxh64Stands}
use Rattle.sketch_hash.specs.declared.hash.murmurhash.state.MurmurState.{MurmurState}
use Rattle.sketch_hash.specs.declared.hash.xxhash.state.XxHash64State.{XxHash64State}

-- the hasher's state that is saved in these words and bytes
abbrev pub murmur_state_of : MurmurState → State (ℕ × ℕ)
murmur_state_of s = record {
  folded = (s.h1, s.h2);
  total = s.total;
  waiting = take (s.total % 16) s.waiting;
}

abbrev pub xxh64_state_of : XxHash64State → State (ℕ × Lanes)
xxh64_state_of s = record {
  folded = (s.seed, record { v1 = s.v1; v2 = s.v2; v3 = s.v3; v4 = s.v4 });
  total = s.total;
  waiting = take (s.total % 32) s.waiting;
}

-- The saved state stands for a seed and bytes: a hasher with this seed had it when the bytes were
-- written, in any pieces.
abbrev pub MurmurStateStands : MurmurState → ℕ → List ℕ → Type 0
MurmurStateStands state seed bytes = MurmurStands (murmur_state_of state) seed bytes

abbrev pub Xxh64StateStands : XxHash64State → ℕ → List ℕ → Type 0
Xxh64StateStands state seed bytes = Xxh64Stands (xxh64_state_of state) seed bytes
