-- What the two definitions answer for inputs whose hashes are published. For seeds of more than 32
-- bits nobody has published any: those are what two independent programs answer.
use Rattle.std.specs.Prelude.{◌≡◌, ℕ, zero, suc, ◌-◌, ◌/◌, ◌^◌, List, [], ◌∷◌, ◌++◌, codes, take}
use Rattle.std.specs.List.{range_with_len}
use Rattle.sketch_base.specs.Bytes.{le, low_bytes}
use Rattle.sketch_hash.specs.Words.{times}
use Rattle.sketch_hash.specs.Murmur.{murmur}
use Rattle.sketch_hash.specs.SeedHash.{seed_hash}
use Rattle.sketch_hash.specs.Xxh64.{xxh64}

-- SMHasher's `VerificationTest` (https://github.com/aappleby/smhasher): the bytes 0 to n - 1, for
-- each n below 256, are hashed with the seed 256 - n. The hashes, one after the other, are hashed
-- with the seed 0. The first four bytes of that are the verification value of a hash function.
unfoldable pub hashes_below : (ℕ → List ℕ → List ℕ) → ℕ → List ℕ
hashes_below hash zero = []
hashes_below hash (suc n) = hashes_below hash n ++ hash (256 - n) (range_with_len 0 n)

abbrev pub verification_value : (ℕ → List ℕ → List ℕ) → ℕ
verification_value hash = le (take 4 (hash 0 (hashes_below hash 256)))

-- both hashes as bytes, each word with the lowest byte first
abbrev pub murmur_bytes : ℕ → List ℕ → List ℕ
murmur_bytes seed bytes = let h = murmur seed bytes in low_bytes 8 h.0 ++ low_bytes 8 h.1

abbrev pub xxh64_bytes : ℕ → List ℕ → List ℕ
xxh64_bytes seed bytes = low_bytes 8 (xxh64 seed bytes)

-- the sentence that hash functions are shown on
abbrev pub sentence : List ℕ
sentence = codes "The quick brown fox jumps over the lazy dog"

-- MurmurHash3: the sentence as in the tests of Apache DataSketches, and SMHasher's value for
-- `MurmurHash3_x64_128`. The other seeds are that of DataSketches' updates, one of 32 bits and one
-- of 64. Its Rust component and a model in Python answer so.
pub record MurmurAnswers : Type 0 where
  pub fox : murmur 0 sentence ≡ (0xe34bbc7bbc071b6c, 0x7a433ca9c49a9347)
  pub fox_9001 : murmur 9001 sentence ≡ (0x2f67dcdbc56dbf23, 0x8a0a2fafd6b2155c)
  pub fox_32_bits : murmur 0x9747b28c sentence ≡ (0x738a7f3bd2633121, 0xf94573727ec016e5)
  pub fox_64_bits : murmur 0x9E3779B185EBCA8D sentence ≡ (0x128d7a83bed49ca3, 0xded83b87c95b3171)
  pub verification : verification_value murmur_bytes ≡ 0x6384ba69

-- the seed hash that sketches of DataSketches store for its seed 9001, and the one that its Rust
-- component and a model in Python answer for the greatest seed
pub record SeedHashAnswers : Type 0 where
  pub of_9001 : seed_hash 9001 ≡ 0x93cc
  pub of_greatest : seed_hash (2 ^ 64 - 1) ≡ 0xed73

-- the first n bytes of the buffer of xxHash's sanity tests, from its generator's state
unfoldable pub test_bytes_from : ℕ → ℕ → List ℕ
test_bytes_from g zero = []
test_bytes_from g (suc n) = g / 2 ^ 56 ∷ test_bytes_from (times g 0x9E3779B185EBCA8D) n

abbrev pub test_bytes : ℕ → List ℕ
test_bytes n = test_bytes_from 0x9E3779B1 n

-- XXH64: xxHash's sanity tests, and SMHasher's value. The tail of 14 bytes has a step of each
-- width and two single bytes; that of 222 bytes has three words of eight bytes. The last answers
-- have a seed of 64 bits, which each lane takes from 32 bytes on: libxxhash 0.8 and a model in
-- Python give them.
pub record Xxh64Answers : Type 0 where
  pub no_bytes : xxh64 0 [] ≡ 0xef46db3751d8e999
  pub no_stripe : xxh64 0 (test_bytes 14) ≡ 0x8282dcc4994e35c8
  pub no_stripe_seeded : xxh64 0x9E3779B1 (test_bytes 14) ≡ 0xc3bd6bf63deb6df0
  pub six_stripes : xxh64 0 (test_bytes 222) ≡ 0xb641ae8cb691c174
  pub six_stripes_seeded : xxh64 0x9E3779B1 (test_bytes 222) ≡ 0x20cb8ab7ae10c14a
  pub verification : verification_value xxh64_bytes ≡ 0x024b7cf4
  pub no_bytes_64_bits : xxh64 0x85EBCA77C2B2AE63 [] ≡ 0x9fb0856a37adfc13
  pub three_bytes_64_bits : xxh64 0x85EBCA77C2B2AE63 (test_bytes 3) ≡ 0xe1232e58f6337337
  pub no_stripe_64_bits : xxh64 0x85EBCA77C2B2AE63 (test_bytes 14) ≡ 0xc68f1dcab094c3fe
  pub one_stripe_64_bits : xxh64 0x85EBCA77C2B2AE63 (test_bytes 32) ≡ 0xd784ef6c40614611
  pub six_stripes_64_bits : xxh64 0x85EBCA77C2B2AE63 (test_bytes 222) ≡ 0x0626e8dbc3e498aa
