-- Known answers, computed over the definitions.
use Rattle.std.proofs.Common.{refl}
use Rattle.sketch_hash.specs.Words.{xor_below, xor, rotate}
use Rattle.sketch_hash.specs.Pieces.{pieces, rest}
use Rattle.sketch_hash.specs.Murmur as the_murmur
use Rattle.sketch_hash.specs.Murmur.{mix1, mix2, fmix, step1, step2, step, with_tail, murmur}
use Rattle.sketch_hash.specs.Xxh64 as the_xxh64
use Rattle.sketch_hash.specs.Xxh64.{round, lanes_start, lanes, merge_round, merge, steps, eight_step, four_step, byte_step, tail_step, avalanche, xxh64}
use Rattle.datasketches.specs.KnownAnswers.{MurmurAnswers, SeedHashAnswers, Xxh64Answers, hashes_below, test_bytes_from}

pub murmur_answers : MurmurAnswers
unfolding xor_below xor rotate pieces rest mix1 mix2 fmix step1 step2 step with_tail the_murmur.finalize
    murmur hashes_below
murmur_answers = record {
  fox = refl;
  fox_9001 = refl;
  fox_32_bits = refl;
  fox_64_bits = refl;
  verification = refl;
}

pub seed_hash_answers : SeedHashAnswers
unfolding xor_below xor rotate pieces rest mix1 mix2 fmix with_tail the_murmur.finalize murmur
seed_hash_answers = record { of_9001 = refl; of_greatest = refl }

pub xxh64_answers : Xxh64Answers
unfolding xor_below xor rotate pieces rest round lanes_start lanes merge_round merge steps eight_step
    four_step byte_step tail_step avalanche the_xxh64.finalize xxh64 test_bytes_from hashes_below
xxh64_answers = record {
  no_bytes = refl;
  no_stripe = refl;
  no_stripe_seeded = refl;
  six_stripes = refl;
  six_stripes_seeded = refl;
  verification = refl;
  no_bytes_64_bits = refl;
  three_bytes_64_bits = refl;
  no_stripe_64_bits = refl;
  one_stripe_64_bits = refl;
  six_stripes_64_bits = refl;
}
