-- How two streams of bytes differ, and what is promised of collisions: of Murmur's pairs of words,
-- of XXH64's words, and of short integers.
use Rattle.std.specs.Prelude.{◌≡◌, ◌≢◌, ◌↔◌, ◌⊎◌, ℕ, ◌+◌, ◌*◌, ◌^◌, ◌<◌, ◌≤◌, ℤ, pos, neg_ℤ, ◌≤ℤ◌, ◌<ℤ◌, List, ◌++◌, length, slice_index_or}
use Rattle.std.specs.List.{All, fold}
use Rattle.sketch_base.specs.Bytes.{AreBytes, eight, modulo, integer_bytes}
use Rattle.sketch_hash.specs.Words.{IsWord, OneToOne}
use Rattle.sketch_hash.specs.Murmur.{step, murmur}
use Rattle.sketch_hash.specs.Xxh64.{stripes, tail_steps, xxh64}
use Rattle.sketch_hash.specs.Laws.{AreWords, IsBlock}

-- two lists have the same at each position outside low..high
abbrev pub AgreeOutside : {X : Type 0} → ℕ → ℕ → List X → List X → Type 0
AgreeOutside {X} low high a b =
    (k : ℕ) (d : X) → k < low ⊎ high ≤ k → slice_index_or a k d ≡ slice_index_or b k d

-- two streams of one length differ, and that in one aligned block of sixteen bytes only
pub record DifferInOneBlock (a b : List ℕ) : Type 0 where
  pub differ : a ≢ b
  pub one_length : length a ≡ length b
  pub one_block : (i : ℕ) × AgreeOutside (16 * i) (16 * i + 16) a b

-- two streams of one length have the same full stripes of 32 bytes, and tails that differ in
-- exactly one step
pub record DifferInOneTailStep (a b : List ℕ) : Type 0 where
  pub one_length : length a ≡ length b
  pub same_stripes : stripes a ≡ stripes b
  pub differ : tail_steps a ≢ tail_steps b
  pub one_step : (i : ℕ) × AgreeOutside i (i + 1) (tail_steps a) (tail_steps b)

-- With the seed, the length and all other bytes fixed, a full aligned block of sixteen bytes maps
-- onto all pairs of words, each exactly once.
abbrev pub MurmurBlockLaw : Type 0
MurmurBlockLaw =
    (seed i : ℕ) (before after : List ℕ) → IsWord seed → AreBytes before → AreBytes after →
    length before ≡ 16 * i →
    OneToOne IsBlock AreWords (λ block. murmur seed (before ++ block ++ after))

-- For every list of blocks, their steps map the pairs of words onto all pairs of words, each
-- exactly once.
abbrev pub MurmurSeedLaw : Type 0
MurmurSeedLaw =
    (blocks : List (ℕ × ℕ)) → All AreWords blocks →
    OneToOne AreWords AreWords (λ h. fold step h blocks)

-- an integer in -2 ^ 31 .. 2 ^ 32: every value of the types of 8 to 32 bits
abbrev pub IsShort : ℤ → Type 0
IsShort z = (neg_ℤ (pos (2 ^ 31)) ≤ℤ z) × (z <ℤ pos (2 ^ 32))

-- Under a hash, two short integers, each extended to eight bytes and written alone after one seed,
-- collide exactly if they are equal.
abbrev pub IntegerLaw : {B : Type 0} → (ℕ → List ℕ → B) → Type 0
IntegerLaw hash =
    (seed : ℕ) (x y : ℤ) → IsWord seed → IsShort x → IsShort y →
    (hash seed (integer_bytes x) ≡ hash seed (integer_bytes y)) ↔ (x ≡ y)

-- Under a hash, any two integers, each extended to eight bytes and written alone after one seed,
-- collide exactly if they agree modulo 2 ^ 64.
abbrev pub ModuloLaw : {B : Type 0} → (ℕ → List ℕ → B) → Type 0
ModuloLaw hash =
    (seed : ℕ) (x y : ℤ) → IsWord seed →
    (hash seed (integer_bytes x) ≡ hash seed (integer_bytes y)) ↔ (modulo 64 x ≡ modulo 64 y)

-- For each seed, the hash of eight bytes takes every word exactly once.
abbrev pub HashU64Law : Type 0
HashU64Law = (seed : ℕ) → IsWord seed → OneToOne IsWord IsWord (λ x. xxh64 seed (eight x))

-- Under one seed, two streams that differ in exactly one step after the same stripes have
-- different hashes.
abbrev pub XxTailLaw : Type 0
XxTailLaw =
    (seed : ℕ) (a b : List ℕ) → IsWord seed → AreBytes a → AreBytes b → DifferInOneTailStep a b →
    xxh64 seed a ≢ xxh64 seed b

-- A stream of fewer than 32 bytes has different hashes under two seeds.
abbrev pub XxSeedLaw : Type 0
XxSeedLaw =
    (seed_a seed_b : ℕ) (bytes : List ℕ) → IsWord seed_a → IsWord seed_b → AreBytes bytes →
    length bytes < 32 → seed_a ≢ seed_b → xxh64 seed_a bytes ≢ xxh64 seed_b bytes
