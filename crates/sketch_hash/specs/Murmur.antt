-- MurmurHash3_x64_128 of Austin Appleby, as a function of a seed and a list of bytes. Each
-- definition names the function of his code, or the part of `MurmurHash3_x64_128`, that it is.
-- Sums and products are those of words, modulo 2 ^ 64.
--
-- Two departures: a seed has 64 bits, where his has 32 (a seed below 2 ^ 32 gives his hash), and a
-- length counts modulo 2 ^ 64, where his is an `int`.
use Rattle.std.specs.Prelude.{◌≡◌, ℕ, ◌+◌, ◌-◌, ◌*◌, ◌%◌, ◌^◌, ◌<◌, List, [], ◌++◌, length, map, min, replicate}
use Rattle.std.specs.List.{fold}
use Rattle.sketch_base.specs.Bytes.{low_bytes}
use Rattle.sketch_hash.specs.Words.{plus, times, xor, rotate, xor_shift}
use Rattle.sketch_hash.specs.Pieces.{pieces, rest, word_at, State, state_after}

-- `c1` and `c2`
abbrev pub c1 : ℕ
c1 = 0x87c37b91114253d5

abbrev pub c2 : ℕ
c2 = 0x4cf5ad432745937f

-- "body" and "tail": `k1` before it enters h1, and `k2` before it enters h2
unfoldable pub mix1 : ℕ → ℕ
mix1 k = times (rotate (times k c1) 31) c2

unfoldable pub mix2 : ℕ → ℕ
mix2 k = times (rotate (times k c2) 33) c1

-- `fmix64`
unfoldable pub fmix : ℕ → ℕ
fmix x =
    let once = times (xor_shift 33 x) 0xff51afd7ed558ccd in
    let twice = times (xor_shift 33 once) 0xc4ceb9fe1a85ec53 in
    xor_shift 33 twice

-- "body", one turn of the loop: h1 after `k1`, and then h2 after `k2`
unfoldable pub step1 : ℕ → ℕ → ℕ → ℕ
step1 h1 h2 k1 = plus (times (plus (rotate (xor h1 (mix1 k1)) 27) h2) 5) 0x52dce729

unfoldable pub step2 : ℕ → ℕ → ℕ → ℕ
step2 h1 h2 k2 = plus (times (plus (rotate (xor h2 (mix2 k2)) 31) h1) 5) 0x38495ab5

-- "body": the pair (h1, h2) after one block (k1, k2)
unfoldable pub step : ℕ × ℕ → ℕ × ℕ → ℕ × ℕ
step h k = let h1 = step1 h.0 h.1 k.0 in (h1, step2 h1 h.1 k.1)

-- `getblock64`, twice: the two words of a block of sixteen bytes
abbrev pub block_words : List ℕ → ℕ × ℕ
block_words piece = (word_at 0 piece, word_at 1 piece)

-- all full blocks of an input, and the bytes after them
abbrev pub blocks : List ℕ → List (ℕ × ℕ)
blocks bytes = map block_words (pieces 16 bytes)

abbrev pub tail : List ℕ → List ℕ
tail bytes = rest 16 bytes

-- "tail": its bytes, padded with zeros to a block, enter both words
unfoldable pub with_tail : ℕ × ℕ → List ℕ → ℕ × ℕ
with_tail h waiting =
    let k = block_words (waiting ++ replicate (16 - length waiting) 0) in
    (xor h.0 (mix1 k.0), xor h.1 (mix2 k.1))

-- "finalization": h1 takes the sum of both, and then h2 does
abbrev pub cross : ℕ × ℕ → ℕ × ℕ
cross h = (plus h.0 h.1, plus h.1 (plus h.0 h.1))

-- "finalization", for an input of n bytes modulo 2 ^ 64
unfoldable pub finalize : ℕ × ℕ → ℕ → ℕ × ℕ
finalize h n =
    let sums = cross (xor h.0 n, xor h.1 n) in
    cross (fmix sums.0, fmix sums.1)

-- the hash of the bytes under a seed
unfoldable pub murmur : ℕ → List ℕ → ℕ × ℕ
murmur seed bytes =
    let h = fold step (seed, seed) (blocks bytes) in
    finalize (with_tail h (tail bytes)) (length bytes % 2 ^ 64)

-- ---- a hasher that is written to piece by piece

-- the state of a hasher with a seed and no bytes
abbrev pub murmur_start : ℕ → State (ℕ × ℕ)
murmur_start seed = record { folded = (seed, seed); total = 0; waiting = [] }

-- the state that a write of bytes leaves
unfoldable pub murmur_after : State (ℕ × ℕ) → List ℕ → State (ℕ × ℕ)
murmur_after state bytes = state_after 16 block_words step state bytes

-- what a hasher in a state answers, both words
unfoldable pub murmur_answer : State (ℕ × ℕ) → ℕ × ℕ
murmur_answer state = finalize (with_tail state.folded state.waiting) state.total

-- the state is that of a hasher with the seed to which the bytes were written, in any pieces
abbrev pub MurmurStands : State (ℕ × ℕ) → ℕ → List ℕ → Type 0
MurmurStands state seed bytes = state ≡ murmur_after (murmur_start seed) bytes

-- ---- the hasher's fields

-- The waiting bytes as two words: the first eight of `count` bytes in `low`, those after them in
-- `high`. Absent bytes are zeros.
pub record Waits (count low high : ℕ) (bytes : List ℕ) : Type 0 where
  pub first : low < 256 ^ min count 8
  pub second : high < 256 ^ (count - 8)
  pub bytes_are : low_bytes count (low + high * 2 ^ 64) ≡ bytes
