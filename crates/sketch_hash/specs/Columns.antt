-- A column of keys: the bytes of all keys, and offsets into them. The key at place i is the bytes
-- from the offset at i up to the offset at i + 1.
use Rattle.std.specs.Prelude.{◌≡◌, ◌⊎◌, ℕ, ◌+◌, ◌-◌, ◌<◌, ◌≤◌, List, [], ◌∷◌, length, take, drop, slice_index, slice_index_or, Result, MatchResult}
use Rattle.sketch_base.specs.Bytes.{eight}
use Rattle.sketch_hash.specs.Murmur.{murmur}

-- the bytes of the key at a place
abbrev pub key_at : List ℕ → List ℕ → ℕ → List ℕ
key_at bytes offsets i =
    let start = slice_index offsets i in
    take (slice_index offsets (i + 1) - start) (drop start bytes)

-- The offset at place i is there, is at most the number of bytes, and is not below the offset
-- before it. The first may be any offset.
abbrev pub IsBound : List ℕ → List ℕ → ℕ → Type 0
IsBound bytes offsets i =
    (i < length offsets)
    × (slice_index offsets i ≤ length bytes)
    × (slice_index (0 ∷ offsets) i ≤ slice_index offsets i)

-- A column of no keys may have no offsets.
abbrev pub HasNoKeys : List ℕ → ℕ → Type 0
HasNoKeys offsets n = (n ≡ 0) × (length offsets ≡ 0)

-- the first n + 1 offsets, which bound n keys
abbrev pub AreBounds : List ℕ → List ℕ → ℕ → Type 0
AreBounds bytes offsets n = HasNoKeys offsets n ⊎ ((i : ℕ) → i ≤ n → IsBound bytes offsets i)

-- i is the first place, of 0 to n, whose offset is no bound
abbrev pub IsFirstWrongOffset : List ℕ → List ℕ → ℕ → ℕ → Type 0
IsFirstWrongOffset bytes offsets n i =
    (HasNoKeys offsets n → ⊥)
    × (i ≤ n)
    × (IsBound bytes offsets i → ⊥)
    × ((j : ℕ) → j < i → IsBound bytes offsets j)

-- each place has the hash of its key
abbrev pub AreHashes : {X : Type 0} → (List ℕ → X) → (ℕ → List ℕ) → List X → Type 0
AreHashes {X = X} hash key places =
    (i : ℕ) (d : X) → i < length places → slice_index_or places i d ≡ hash (key i)

-- The outcome of a call that hashes a column of as many keys as there are places: the hash of each
-- key at its place; or the first fault of the offsets, and all places as they were.
abbrev pub HashesEach : {X : Type 0} →
    (List ℕ → X) → List ℕ → List ℕ → List X → List X → Result Unit ℕ → Type 0
HashesEach hash bytes offsets before after result =
    let n = length before in
    MatchResult result
    (λ _. AreBounds bytes offsets n × (length after ≡ n)
    × AreHashes hash (key_at bytes offsets) after)
    (λ fault. IsFirstWrongOffset bytes offsets n fault × (after ≡ before))

-- The outcome of hashing numbers, each as its eight bytes. With fewer numbers than places the fault
-- is the first place without one, and nothing is written.
abbrev pub HashesEachNumber : {X : Type 0} →
    (List ℕ → X) → List ℕ → List X → List X → Result Unit ℕ → Type 0
HashesEachNumber hash numbers before after result =
    let n = length before in
    MatchResult result
    (λ _. (n ≤ length numbers) × (length after ≡ n)
    × AreHashes hash (λ i. eight (slice_index numbers i)) after)
    (λ fault. (fault < n) × (fault ≡ length numbers) × (after ≡ before))

-- MurmurHash3 of the bytes under a seed, as the two words of a place
abbrev pub murmur_words : ℕ → List ℕ → List ℕ
murmur_words seed bytes =
    let pair = murmur seed bytes in
    pair.0 ∷ pair.1 ∷ []
