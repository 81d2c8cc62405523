-- BloomFilterHeader, which precedes a filter in a file, in Thrift's compact protocol:
-- https://github.com/apache/thrift/blob/master/doc/specs/thrift-compact-protocol.md
use Rattle.std.specs.Prelude.{◌≡◌, ℕ, zero, suc, ◌*◌, ◌+◌, ◌-◌, ◌/◌, ◌%◌, ◌^◌, ◌<◌, ◌++◌, List, [], ◌∷◌, if◌then◌else◌, nat_lt}
use Rattle.sketch_bloom.specs.Filter.{IsLength}

-- A variable-length number: seven bits a byte, the lowest first, with 128 added to each byte but
-- the last. It has at most 1 + `more` bytes.
unfoldable pub varint : ℕ → ℕ → List ℕ
varint zero n = n ∷ []
varint (suc more) n = if nat_lt n 128 then n ∷ [] else (n % 128 + 128) ∷ varint more (n / 128)

-- Field 1, numBytes, is a signed number of 32 bits. In zigzag form it is doubled.
abbrev pub number_field : ℕ → List ℕ
number_field bytes = 0x15 ∷ varint 4 (bytes * 2)

-- Fields 2 to 4 are unions. Each holds its member 1, which is empty: algorithm BLOCK, hash XXHASH,
-- compression UNCOMPRESSED. A zero ends the header.
abbrev pub union_fields : List ℕ
union_fields =
    0x1c ∷ 0x1c ∷ 0 ∷ 0 ∷ 0x1c ∷ 0x1c ∷ 0 ∷ 0 ∷ 0x1c ∷ 0x1c ∷ 0 ∷ 0 ∷ 0 ∷ []

-- the header of a filter with this many bytes
abbrev pub header : ℕ → List ℕ
header bytes = number_field bytes ++ union_fields

-- the lengths of filters that have a header
abbrev pub IsHeaderLength : ℕ → Type 0
IsHeaderLength bytes = IsLength bytes × (bytes < 2 ^ 31)

-- A number is read from its first byte and the number in the bytes after it.
abbrev pub number_at : ℕ → ℕ → ℕ
number_at byte after = if nat_lt byte 128 then byte else byte - 128 + 128 * after

-- Bytes start with the header of at most one length, and it ends at one place.
pub record HeaderLaw : Type 0 where
  pub once : (bytes other : ℕ) (after others : List ℕ) →
      IsHeaderLength bytes → IsHeaderLength other →
      header bytes ++ after ≡ header other ++ others → (bytes ≡ other) × (after ≡ others)
