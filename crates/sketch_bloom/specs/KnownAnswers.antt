-- What the definitions give for a filter, headers and rates that are published, and for other
-- numbers of blocks.
use Rattle.std.specs.Prelude.{◌≡◌, ℕ, ◌-◌, ◌*◌, ◌/◌, ◌^◌, List, [], ◌∷◌, ◌++◌, codes, map, replicate}
use Rattle.sketch_bloom.specs.ExactRate.{found_to, weights_to}
use Rattle.sketch_bloom.specs.Filter.{block_of, hash_of}
use Rattle.sketch_bloom.specs.Header.{header}
use Rattle.sketch_bloom.specs.Laws.{StandsFor}
use Rattle.sketch_bloom.specs.Size.{max_log2_blocks}

-- blocks without values
abbrev pub empty_blocks : ℕ → List ℕ
empty_blocks blocks = replicate (blocks * 32) 0

-- the 32 blocks that parquet-mr wrote for the texts hello (in block 4), filter (5), parquet (7) and
-- bloom (10)
abbrev pub of_parquet_mr : List ℕ
of_parquet_mr =
    empty_blocks 4
    ++ 0 ∷ 0 ∷ 16 ∷ 0 ∷ 0 ∷ 2 ∷ 0 ∷ 0 ∷ 0 ∷ 4 ∷ 0 ∷ 0 ∷ 128 ∷ 0 ∷ 0 ∷ 0
    ∷ 0 ∷ 2 ∷ 0 ∷ 0 ∷ 0 ∷ 0 ∷ 0 ∷ 128 ∷ 0 ∷ 0 ∷ 0 ∷ 16 ∷ 0 ∷ 0 ∷ 0 ∷ 8 ∷ []
    ++ 0 ∷ 0 ∷ 128 ∷ 0 ∷ 0 ∷ 0 ∷ 0 ∷ 16 ∷ 1 ∷ 0 ∷ 0 ∷ 0 ∷ 0 ∷ 0 ∷ 0 ∷ 16
    ∷ 32 ∷ 0 ∷ 0 ∷ 0 ∷ 0 ∷ 0 ∷ 32 ∷ 0 ∷ 0 ∷ 0 ∷ 0 ∷ 64 ∷ 0 ∷ 0 ∷ 8 ∷ 0 ∷ []
    ++ empty_blocks 1
    ++ 4 ∷ 0 ∷ 0 ∷ 0 ∷ 0 ∷ 0 ∷ 64 ∷ 0 ∷ 0 ∷ 0 ∷ 64 ∷ 0 ∷ 0 ∷ 0 ∷ 8 ∷ 0
    ∷ 0 ∷ 0 ∷ 0 ∷ 4 ∷ 0 ∷ 32 ∷ 0 ∷ 0 ∷ 16 ∷ 0 ∷ 0 ∷ 0 ∷ 2 ∷ 0 ∷ 0 ∷ 0 ∷ []
    ++ empty_blocks 2
    ++ 0 ∷ 0 ∷ 32 ∷ 0 ∷ 0 ∷ 8 ∷ 0 ∷ 0 ∷ 0 ∷ 1 ∷ 0 ∷ 0 ∷ 0 ∷ 0 ∷ 0 ∷ 32
    ∷ 0 ∷ 0 ∷ 128 ∷ 0 ∷ 0 ∷ 0 ∷ 0 ∷ 8 ∷ 0 ∷ 1 ∷ 0 ∷ 0 ∷ 0 ∷ 16 ∷ 0 ∷ 0 ∷ []
    ++ empty_blocks 21

abbrev pub FilterAnswer : Type 0
FilterAnswer = StandsFor of_parquet_mr
    (map hash_of (codes "hello" ∷ codes "filter" ∷ codes "parquet" ∷ codes "bloom" ∷ []))

-- The block of a hash, of one block, of three and of 2 ^ 16 + 1: at the ends, and on both sides of
-- a limit. A program in C and one in Python give them, since writers take powers of two of blocks.
pub record BlockAnswers : Type 0 where
  pub of_1 : block_of 1 (2 ^ 64 - 1) ≡ 0
  pub first_of_3 : block_of 3 0x55555555ffffffff ≡ 0
  pub second_of_3 : block_of 3 0x5555555600000000 ≡ 1
  pub third_of_3 : block_of 3 0xaaaaaaab00000000 ≡ 2
  pub hello_of_65537 : block_of 65537 (hash_of (codes "hello")) ≡ 9927
  pub last_of_65537 : block_of 65537 (2 ^ 64 - 1) ≡ 65536

-- the fields after the number, as parquet-mr, Arrow and DuckDB write them
abbrev pub last_fields : List ℕ
last_fields = 0x1c ∷ 0x1c ∷ 0 ∷ 0 ∷ 0x1c ∷ 0x1c ∷ 0 ∷ 0 ∷ 0x1c ∷ 0x1c ∷ 0 ∷ 0 ∷ 0 ∷ []

-- a header of each length, and the first and last of a length, as Apache Thrift's library and a
-- model in Python write them
pub record HeaderAnswers : Type 0 where
  pub of_15_bytes : header 32 ≡ 0x15 ∷ 0x40 ∷ last_fields
  pub first_of_16_bytes : header 64 ≡ 0x15 ∷ 0x80 ∷ 0x01 ∷ last_fields
  pub of_16_bytes : header 1024 ≡ 0x15 ∷ 0x80 ∷ 0x10 ∷ last_fields
  pub last_of_16_bytes : header 8160 ≡ 0x15 ∷ 0xc0 ∷ 0x7f ∷ last_fields
  pub first_of_17_bytes : header 8192 ≡ 0x15 ∷ 0x80 ∷ 0x80 ∷ 0x01 ∷ last_fields
  pub of_17_bytes : header (2 ^ 19) ≡ 0x15 ∷ 0x80 ∷ 0x80 ∷ 0x40 ∷ last_fields
  pub last_of_17_bytes : header (2 ^ 20 - 32) ≡ 0x15 ∷ 0xc0 ∷ 0xff ∷ 0x7f ∷ last_fields
  pub of_18_bytes : header (2 ^ 20) ≡ 0x15 ∷ 0x80 ∷ 0x80 ∷ 0x80 ∷ 0x01 ∷ last_fields
  pub last_of_18_bytes : header (2 ^ 27 - 32) ≡ 0x15 ∷ 0xc0 ∷ 0xff ∷ 0xff ∷ 0x7f ∷ last_fields
  pub first_of_19_bytes :
      header (2 ^ 27) ≡ 0x15 ∷ 0x80 ∷ 0x80 ∷ 0x80 ∷ 0x80 ∷ 0x01 ∷ last_fields
  pub of_19_bytes : header (2 ^ 31 - 32) ≡ 0x15 ∷ 0xc0 ∷ 0xff ∷ 0xff ∷ 0xff ∷ 0x0f ∷ last_fields

-- the exact rate by the terms 0 to 255, in parts of 10 ^ 10, rounded down
unfoldable pub rate : ℕ → ℕ → ℕ
rate keys blocks =
    found_to keys blocks 255 * 10 ^ 10 / (weights_to keys blocks 255 * (32 ^ 8) ^ 255)

-- The rates that Parquet's specification has for 6, 10.5, 16.9, 26.4 and 41 bits a value: 10 %,
-- 1 %, 0.1 %, 0.01 % and 0.001 %. `machine_code/test_checks.py` evaluates this definition too. The
-- largest filter that Arrow reads has 128 MiB.
pub record SizeAnswers : Type 0 where
  pub of_6_bits : rate 128 3 ≡ 993387417
  pub of_10_5_bits : rate 512 21 ≡ 101285016
  pub of_16_9_bits : rate 2560 169 ≡ 9969374
  pub of_26_4_bits : rate 320 33 ≡ 988476
  pub of_41_bits : rate 256 41 ≡ 99816
  pub largest : 32 * 2 ^ max_log2_blocks ≡ 128 * 2 ^ 20
