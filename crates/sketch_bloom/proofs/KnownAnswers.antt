-- Known answers, computed over the definitions.
use Rattle.std.proofs.Common.{◌≡◌, ℕ, ◌*◌, ◌/◌, ◌<◌, List, [], ◌∷◌, ◌++◌, codes, length, refl, arith}
use Rattle.datasketches.specs.Pieces.{pieces, rest}
use Rattle.datasketches.specs.Words.{xor_below, xor, rotate}
use Rattle.datasketches.specs.Xxh64 as the_xxh64
use Rattle.datasketches.specs.Xxh64.{round, steps, eight_step, four_step, byte_step, tail_step, avalanche, xxh64}
use Rattle.sketch_bloom.proofs.BlockLemmas.{bytes_of, inserted, joined_in, mask_bits}
use Rattle.sketch_bloom.proofs.LawLemmas.{insert_law}
use Rattle.sketch_bloom.specs.ExactRate.{found_to, weights_to}
use Rattle.sketch_bloom.specs.Filter.{block_of, hash_of}
use Rattle.sketch_bloom.specs.Header.{varint}
use Rattle.sketch_bloom.specs.KnownAnswers.{BlockAnswers, FilterAnswer, HeaderAnswers, SizeAnswers, rate}
use Rattle.sketch_bloom.specs.Laws.{StandsFor, empty_filter}

-- a filter of 32 blocks into which a value is inserted
abbrev with_value : ℕ → List ℕ → List ℕ
with_value hash filter = joined_in (block_of 32 hash * 32) (bytes_of hash) filter

one_more : (hash : ℕ) (filter hashes : List ℕ) → length filter ≡ 1024 → block_of 32 hash < 32 →
    StandsFor filter hashes → StandsFor (with_value hash filter) (hashes ++ hash ∷ [])
one_more hash filter hashes size inside =
    let blocks : length filter / 32 ≡ 32 = omega arith in
    let start = block_of 32 hash * 32 in
    let mask = bytes_of hash in
    insert_law.one_more filter (with_value hash filter) hash hashes
    (inserted hash start mask filter (rw blocks refl) (omega arith) refl (mask_bits hash))

pub filter_answer : FilterAnswer
unfolding xor_below xor rotate pieces rest round steps eight_step four_step byte_step tail_step avalanche
    the_xxh64.finalize xxh64
filter_answer =
    let hello = hash_of (codes "hello") in
    let filter = hash_of (codes "filter") in
    let parquet = hash_of (codes "parquet") in
    let bloom = hash_of (codes "bloom") in
    let none = empty_filter 1024 in
    let one = with_value hello none in
    let two = with_value filter one in
    let three = with_value parquet two in
    one_more bloom three (hello ∷ filter ∷ parquet ∷ []) refl (omega arith)
    (one_more parquet two (hello ∷ filter ∷ []) refl (omega arith)
    (one_more filter one (hello ∷ []) refl (omega arith)
    (one_more hello none [] refl (omega arith) (insert_law.none 1024))))

pub block_answers : BlockAnswers
unfolding xor_below xor rotate pieces rest round steps eight_step four_step byte_step tail_step avalanche
    the_xxh64.finalize xxh64
block_answers = record {
  of_1 = refl;
  first_of_3 = refl;
  second_of_3 = refl;
  third_of_3 = refl;
  hello_of_65537 = refl;
  last_of_65537 = refl;
}

pub header_answers : HeaderAnswers
unfolding varint
header_answers = record {
  of_15_bytes = refl;
  first_of_16_bytes = refl;
  of_16_bytes = refl;
  last_of_16_bytes = refl;
  first_of_17_bytes = refl;
  of_17_bytes = refl;
  last_of_17_bytes = refl;
  of_18_bytes = refl;
  last_of_18_bytes = refl;
  first_of_19_bytes = refl;
  of_19_bytes = refl;
}

pub size_answers : SizeAnswers
unfolding found_to weights_to rate
size_answers = record {
  of_6_bits = refl;
  of_10_5_bits = refl;
  of_16_9_bits = refl;
  of_26_4_bits = refl;
  of_41_bits = refl;
  largest = refl;
}
