-- The preamble of a serialized sketch.
use Rattle.std.specs.Prelude.{◌≡◌, ◌≢◌, ◌⊎◌, ℕ, ◌≤◌, ◌<◌, List, [], ◌∷◌, length, take, drop, codes}
use Rattle.datasketches.specs.Bytes.{le, low_bytes}
use Rattle.sketch_base.specs.declared.error.ErrorKind.TheVariants.{InvalidData, InvalidArgument}
use Rattle.datasketches.specs.ErrorValue.{ErrorValue}
use Rattle.datasketches.specs.Refusals.{Refuses, insufficient_data_of_text, invalid_preamble_longs_text, unsupported_serial_version_text, invalid_family_text}
use Rattle.datasketches.specs.SeedHash.{seed_hash, zero_seed_hash_text, incompatible_seed_hash_text}

-- the number in `count` bytes from a place on, the lowest byte first
abbrev pub number_at : ℕ → ℕ → List ℕ → ℕ
number_at place count bytes = le (take count (drop place bytes))

-- the bytes begin with one preamble long, serial version 3, the family HLL, and the hash of a seed
-- that can be used
pub record HasPreamble (seed : ℕ) (bytes : List ℕ) : Type 0 where
  pub whole : 5 ≤ length bytes
  pub preamble_longs : number_at 0 1 bytes ≡ 1
  pub version : number_at 1 1 bytes ≡ 3
  pub family : number_at 2 1 bytes ≡ 7
  pub seed_is : number_at 3 2 bytes ≡ seed_hash seed
  pub seed_is_usable : seed_hash seed ≢ 0

-- the five bytes of the preamble of a sketch with a seed
abbrev pub preamble : ℕ → List ℕ
preamble seed = 1 ∷ 3 ∷ 7 ∷ low_bytes 2 (seed_hash seed)

-- the error for the first field of a preamble that is wrong
unfoldable pub RefusesFields : ℕ → (ℕ × ℕ × ℕ × ℕ) → ErrorValue → Type 0
RefusesFields seed fields error =
    ((fields.0 ≢ 1) × Refuses InvalidData (invalid_preamble_longs_text (1 ∷ []) fields.0) error)
    ⊎ ((fields.0 ≡ 1) × (fields.1 ≢ 3)
    × Refuses InvalidData (unsupported_serial_version_text 3 fields.1) error)
    ⊎ ((fields.0 ≡ 1) × (fields.1 ≡ 3) × (fields.2 ≢ 7)
    × Refuses InvalidData (invalid_family_text 7 fields.2 (codes "HLL")) error)
    ⊎ ((fields.0 ≡ 1) × (fields.1 ≡ 3) × (fields.2 ≡ 7) × (seed_hash seed ≡ 0)
    × Refuses InvalidArgument (zero_seed_hash_text seed) error)
    ⊎ ((fields.0 ≡ 1) × (fields.1 ≡ 3) × (fields.2 ≡ 7) × (seed_hash seed ≢ 0)
    × (fields.3 ≢ seed_hash seed) × Refuses InvalidData
    (incompatible_seed_hash_text (codes "hll") (seed_hash seed) fields.3) error)

-- the fields of a preamble
abbrev pub fields_of : List ℕ → ℕ × ℕ × ℕ × ℕ
fields_of bytes =
    (number_at 0 1 bytes, number_at 1 1 bytes, number_at 2 1 bytes, number_at 3 2 bytes)

-- the errors for bytes that do not begin with the preamble of a seed
abbrev pub RefusesPreamble : ℕ → List ℕ → ErrorValue → Type 0
RefusesPreamble seed bytes error =
    ((length bytes < 5) × (fault : List ℕ)
    × Refuses InvalidData (insufficient_data_of_text (codes "hll sketch") fault) error)
    ⊎ RefusesFields seed (fields_of bytes) error
