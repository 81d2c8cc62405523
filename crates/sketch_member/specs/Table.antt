-- What a membership table is to its callers, and what it knows of a value.
use Rattle.std.specs.Prelude.{ℕ, ◌*◌, ◌-◌, ◌^◌, ◌≤◌, ◌≡◌, ◌+◌, ◌/◌, ◌%◌, ◌<◌, ◌↔◌, ◌⊎◌, min, List, length, replicate, slice_index, Option, Some, IfSome}
use Rattle.std.specs.Option.{option_map}
use Rattle.datasketches.specs.Words.{IsWord, plus, digit}
use Rattle.datasketches.specs.Xxh64.{xxh64}
use Rattle.sketch_member.specs.declared.filter.Filter.{Filter}

-- the limits of a table's sizes
abbrev pub IsLog2Bits : ℕ → Type 0
IsLog2Bits n = (6 ≤ n) × (n ≤ 20)

abbrev pub IsHashes : ℕ → Type 0
IsHashes n = (1 ≤ n) × (n ≤ 16)

-- a table: its seed, its sizes, how many inserts it counted where that is known, and its bits,
-- packed into bytes
pub record Table : Type 0 where
  pub seed : ℕ
  pub log2_bits : ℕ
  pub hashes : ℕ
  pub count : Option ℕ
  pub bits : List ℕ

-- the table of a filter and its bits
abbrev pub table_of : Filter → List ℕ → Table
table_of filter bits = record {
  seed = filter.seed;
  log2_bits = filter.log2_bits;
  hashes = filter.hashes;
  count = filter.count;
  bits = bits;
}

-- bit i is set: in byte i / 8 the binary digit that is worth 2 ^ (i % 8) is 1
abbrev pub IsSet : List ℕ → ℕ → Type 0
IsSet bits i = digit (slice_index bits (i / 8)) (i % 8) ≡ 1

-- how many bytes 2 ^ log2_bits bits fill
abbrev pub byte_count : ℕ → ℕ
byte_count log2_bits = 2 ^ log2_bits / 8

-- what holds of every table: its numbers are within their limits, and its bits fill their bytes
pub record IsTable (table : Table) : Type 0 where
  pub seed : IsWord table.seed
  pub log2_bits : IsLog2Bits table.log2_bits
  pub hashes : IsHashes table.hashes
  pub count : IfSome table.count IsWord
  pub bits : length table.bits * 8 ≡ 2 ^ table.log2_bits
  pub bytes : (k : ℕ) → slice_index table.bits k < 256

-- a table with no bit set, of no inserts
abbrev pub empty_table : ℕ → ℕ → ℕ → Table
empty_table seed log2_bits hashes = record {
  seed = seed;
  log2_bits = log2_bits;
  hashes = hashes;
  count = Some 0;
  bits = replicate (byte_count log2_bits) 0;
}

-- the index of number j, of a value that feeds these bytes
unfoldable pub index : ℕ → ℕ → List ℕ → ℕ → ℕ
index seed log2_bits fed j = xxh64 (plus seed j) fed % 2 ^ log2_bits

-- the place is one of the indexes of a value that feeds these bytes
abbrev pub IsIndex : Table → List ℕ → ℕ → Type 0
IsIndex table fed i =
    (j : ℕ) × (j < table.hashes) × (i ≡ index table.seed table.log2_bits fed j)

-- the count after one more insert: a known one grows by one and stays at the greatest word, and an
-- unknown one stays unknown
abbrev pub one_more : Option ℕ → Option ℕ
one_more count = option_map (λ n. min (n + 1) (2 ^ 64 - 1)) count

-- a table after the insert of a value that feeds these bytes: the insert is counted, the bits at
-- the value's indexes are set too, and all else is as it was
pub record Inserts (fed : List ℕ) (before after : Table) : Type 0 where
  pub seed : after.seed ≡ before.seed
  pub log2_bits : after.log2_bits ≡ before.log2_bits
  pub hashes : after.hashes ≡ before.hashes
  pub count : after.count ≡ one_more before.count
  pub bits : (i : ℕ) → IsSet after.bits i ↔ (IsSet before.bits i ⊎ IsIndex before fed i)

-- the bits at all indexes of a value that feeds these bytes are set
abbrev pub IsMember : Table → List ℕ → Type 0
IsMember table fed = (i : ℕ) → IsIndex table fed i → IsSet table.bits i
