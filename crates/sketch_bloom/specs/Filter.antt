-- The split block Bloom filter of Apache Parquet, after
-- https://github.com/apache/parquet-format/blob/master/BloomFilter.md
use Rattle.std.specs.Prelude.{◌≡◌, ◌≢◌, ◌↔◌, ◌⊎◌, ℕ, ◌+◌, ◌*◌, ◌/◌, ◌%◌, ◌^◌, ◌<◌, List, [], ◌∷◌, ◌++◌, codes, length, slice_index, Contains}
use Rattle.std.specs.Fmt.{decimal}
use Rattle.datasketches.specs.Words.{digit}
use Rattle.datasketches.specs.Xxh64.{xxh64}
use Rattle.sketch_bloom.specs.declared.fault.Fault.{Fault}
use Rattle.sketch_bloom.specs.declared.fault.Fault.TheVariants.{Length, OtherLength, OddBlocks, Offset, Count, OutOfMemory}

-- ---- blocks

-- A filter is one or more blocks of 32 bytes, and fewer than 2 ^ 32 blocks.
abbrev pub IsLength : ℕ → Type 0
IsLength bytes = (0 < bytes) × (bytes % 32 ≡ 0) × (bytes / 32 < 2 ^ 32)

-- A block is eight words of 32 bits, each with the lowest byte first. So bit b of word w of block k
-- is bit 256 * k + 32 * w + b of the filter. Bit i of the filter is set if the binary digit of
-- weight 2 ^ (i % 8) of its byte i / 8 is 1.
abbrev pub IsSet : List ℕ → ℕ → Type 0
IsSet filter i = digit (slice_index filter (i / 8)) (i % 8) ≡ 1

-- ---- the bits of a value

-- The filter sees a value as XXH64, with seed 0, of the bytes that the value feeds.
abbrev pub hash_of : List ℕ → ℕ
hash_of fed = xxh64 0 fed

-- SALT: a constant for each word of a block
abbrev pub salt : List ℕ
salt =
    0x47b6137b ∷ 0x44974d91 ∷ 0x8824ad5b ∷ 0xa2b7289d ∷ 0x705495c7 ∷ 0x2df1424b ∷ 0x9efc4947
    ∷ 0x5c6bfb31 ∷ []

-- The upper 32 bits of a hash choose one of the blocks.
abbrev pub block_of : ℕ → ℕ → ℕ
block_of blocks hash = hash / 2 ^ 32 * blocks / 2 ^ 32

-- The lower 32 bits, times a word's salt modulo 2 ^ 32, choose one bit of the word: by the upper
-- five bits of the product.
abbrev pub mask_bit : ℕ → ℕ → ℕ
mask_bit hash w = hash % 2 ^ 32 * slice_index salt w % 2 ^ 32 / 2 ^ 27

-- i is one of the eight bits of a hash in its block
abbrev pub IsMaskBit : ℕ → ℕ → Type 0
IsMaskBit hash i = (w : ℕ) × (w < 8) × (i ≡ w * 32 + mask_bit hash w)

-- i is one of the eight bits of a hash in a filter with this many blocks
unfoldable pub IsBitOf : ℕ → ℕ → ℕ → Type 0
IsBitOf blocks hash i = (b : ℕ) × IsMaskBit hash b × (i ≡ block_of blocks hash * 256 + b)

-- i is a bit of one of these hashes
abbrev pub IsBitOfAny : ℕ → List ℕ → ℕ → Type 0
IsBitOfAny blocks hashes i = (hash : ℕ) × Contains hashes hash × IsBitOf blocks hash i

-- ---- insert, check and merge

-- These bits of a filter are set, and all others are unchanged.
pub record Sets (Bits : ℕ → Type 0) (before after : List ℕ) : Type 0 where
  pub size : length after ≡ length before
  pub bits : (i : ℕ) → IsSet after i ↔ (IsSet before i ⊎ Bits i)

-- A value is inserted: its eight bits are set.
abbrev pub Inserts : ℕ → List ℕ → List ℕ → Type 0
Inserts hash before after = Sets (IsBitOf (length before / 32) hash) before after

-- The values with these hashes are inserted, in whatever order: the eight bits of each are set.
abbrev pub InsertsAll : List ℕ → List ℕ → List ℕ → Type 0
InsertsAll hashes before after = Sets (IsBitOfAny (length before / 32) hashes) before after

-- A value is contained: its eight bits are set.
abbrev pub IsMember : List ℕ → ℕ → Type 0
IsMember filter hash = (i : ℕ) → IsBitOf (length filter / 32) hash i → IsSet filter i

-- Another filter is merged into one of the same length: its bits are set.
abbrev pub Merges : List ℕ → List ℕ → List ℕ → Type 0
Merges other before after = (length other ≡ length before) × Sets (IsSet other) before after

-- ---- fold

-- A filter of an even number of blocks can be folded.
abbrev pub IsFoldable : ℕ → Type 0
IsFoldable bytes = IsLength bytes × (bytes % 64 ≡ 0)

-- A filter is folded into half as many blocks: block k is the union of blocks 2 * k and 2 * k + 1.
-- A block has 256 bits.
pub record Folds (before after : List ℕ) : Type 0 where
  pub size : length before ≡ 2 * length after
  pub bits : (k b : ℕ) → b < 256 →
      IsSet after (256 * k + b) ↔ (IsSet before (512 * k + b) ⊎ IsSet before (512 * k + 256 + b))

-- ---- errors

-- No filter has this many bytes.
abbrev pub IsLengthFault : ℕ → Fault → Type 0
IsLengthFault bytes fault = (IsLength bytes → ⊥) × (fault ≡ Length bytes)

-- A filter of length `from` is not merged into one of length `into`.
abbrev pub IsMergeFault : ℕ → ℕ → Fault → Type 0
IsMergeFault into from fault =
    IsLengthFault into fault ⊎ (IsLength into × (from ≢ into) × (fault ≡ OtherLength from))

-- A filter of this many bytes is not folded.
abbrev pub IsFoldFault : ℕ → Fault → Type 0
IsFoldFault bytes fault =
    IsLengthFault bytes fault ⊎ (IsLength bytes × (bytes % 64 ≡ 32) × (fault ≡ OddBlocks bytes))

-- A filter of this many bytes is not created.
abbrev pub IsNewFault : ℕ → Fault → Type 0
IsNewFault bytes fault = IsLengthFault bytes fault ⊎ (IsLength bytes × (fault ≡ OutOfMemory))

-- what a fault prints
abbrev pub fault_text : Fault → List ℕ
fault_text (Length bytes) =
    codes "invalid filter length: expected a positive multiple of 32 below 2^37, got "
    ++ decimal bytes
fault_text (OtherLength bytes) =
    codes "filters of two lengths: the other has " ++ decimal bytes ++ codes " bytes"
fault_text (OddBlocks bytes) =
    codes "odd number of blocks: expected a multiple of 64 bytes, got " ++ decimal bytes
fault_text (Offset i) = codes "invalid offset at index " ++ decimal i
fault_text (Count values) = codes "more places than values: " ++ decimal values ++ codes " values"
fault_text OutOfMemory = codes "out of memory"
