-- A list cut into pieces of equal length, and the state of a hasher that takes a list in several
-- writes. Both hashes read their input so: Murmur in blocks of 16 bytes, XXH64 in stripes of 32.
use Rattle.std.specs.Prelude.{ℕ, zero, suc, ◌+◌, ◌*◌, ◌/◌, ◌%◌, ◌^◌, List, [], ◌∷◌, ◌++◌, length, take, drop, map}
use Rattle.std.specs.List.{fold}
use Rattle.sketch_base.specs.Bytes.{le}

-- the first n pieces of w bytes
abbrev pub first_pieces : ℕ → ℕ → List ℕ → List (List ℕ)
first_pieces zero w bytes = []
first_pieces (suc n) w bytes = take w bytes ∷ first_pieces n w (drop w bytes)

-- all full pieces of w bytes
unfoldable pub pieces : ℕ → List ℕ → List (List ℕ)
pieces w bytes = first_pieces (length bytes / w) w bytes

-- the bytes after the last full piece: the last (length % w) bytes
unfoldable pub rest : ℕ → List ℕ → List ℕ
rest w bytes = drop (length bytes / w * w) bytes

-- the word at place j of a piece, from 0: the number of its bytes 8 * j up to 8 * j + 8
abbrev pub word_at : ℕ → List ℕ → ℕ
word_at j piece = le (take 8 (drop (8 * j) piece))

-- A stream of bytes, as far as a hasher has come: what the full pieces were folded to, the number
-- of bytes modulo 2 ^ 64, and the bytes that wait for a piece to be full.
pub record State (P : Type 0) : Type 0 where
  pub folded : P
  pub total : ℕ
  pub waiting : List ℕ

-- the state of a stream to which bytes are added: the full pieces of the waiting bytes and the
-- added ones are read and folded, the others wait
unfoldable pub absorb : {P R : Type 0} → ℕ → (List ℕ → R) → (P → R → P) → State P → List ℕ → State P
absorb w read f state bytes = record {
  folded = fold f state.folded (map read (pieces w (state.waiting ++ bytes)));
  total = (state.total + length bytes) % 2 ^ 64;
  waiting = rest w (state.waiting ++ bytes);
}

-- the state after a write: that of `absorb`, where an empty write leaves every state as it is
abbrev pub state_after : {P R : Type 0} →
    ℕ → (List ℕ → R) → (P → R → P) → State P → List ℕ → State P
state_after w read f state [] = state
state_after w read f state (b ∷ bytes) = absorb w read f state (b ∷ bytes)
