-- XXH64 of Yann Collet's xxHash specification, as a function of a seed and a list of bytes. Each
-- definition names the step of the specification's "XXH64 Algorithm Description" that it is; an
-- accumulator of the specification is a lane here. Sums, differences and products are those of
-- words, modulo 2 ^ 64.
--
-- One departure: the length counts modulo 2 ^ 64, and what is counted chooses between the two forms
-- of step 1, so 2 ^ 64 to 2 ^ 64 + 31 bytes have the form of short inputs.
use Rattle.std.specs.Prelude.{◌≡◌, ℕ, ◌-◌, ◌%◌, ◌^◌, List, [], ◌∷◌, ◌++◌, length, map, nat_lt, slice_index, ◌==◌, if◌then◌else◌}
use Rattle.std.specs.List.{fold}
use Rattle.sketch_base.specs.Bytes.{le}
use Rattle.sketch_hash.specs.Words.{plus, minus, times, xor, rotate, xor_shift}
use Rattle.sketch_hash.specs.Pieces.{pieces, rest, word_at, State, state_after}

-- "Overview": the five primes
abbrev pub prime1 : ℕ
prime1 = 0x9E3779B185EBCA87

abbrev pub prime2 : ℕ
prime2 = 0xC2B2AE3D27D4EB4F

abbrev pub prime3 : ℕ
prime3 = 0x165667B19E3779F9

abbrev pub prime4 : ℕ
prime4 = 0x85EBCA77C2B2AE63

abbrev pub prime5 : ℕ
prime5 = 0x27D4EB2F165667C5

-- ---- the lanes

-- step 2, `round`: a lane after an input word
unfoldable pub round : ℕ → ℕ → ℕ
round lane word = times (rotate (plus lane (times word prime2)) 31) prime1

-- step 2: all full stripes of 32 bytes
abbrev pub stripes : List ℕ → List (List ℕ)
stripes bytes = pieces 32 bytes

pub record Lanes : Type 0 where
  pub v1 : ℕ
  pub v2 : ℕ
  pub v3 : ℕ
  pub v4 : ℕ

-- step 2, each lane by itself: from where it stands, the words at its place of all stripes, in
-- order
abbrev pub each_lane : Lanes → List (List ℕ) → Lanes
each_lane v stripes = record {
  v1 = fold round v.v1 (map (word_at 0) stripes);
  v2 = fold round v.v2 (map (word_at 1) stripes);
  v3 = fold round v.v3 (map (word_at 2) stripes);
  v4 = fold round v.v4 (map (word_at 3) stripes);
}

-- step 1: where the lanes start
unfoldable pub lanes_start : ℕ → Lanes
lanes_start seed = record {
  v1 = plus (plus seed prime1) prime2;
  v2 = plus seed prime2;
  v3 = seed;
  v4 = minus seed prime1;
}

-- step 2: the lanes after all full stripes of an input
unfoldable pub lanes : ℕ → List ℕ → Lanes
lanes seed bytes = each_lane (lanes_start seed) (stripes bytes)

-- step 3, `mergeAccumulator`: one lane enters the hash
unfoldable pub merge_round : ℕ → ℕ → ℕ
merge_round h v = plus (times (xor h (round 0 v)) prime1) prime4

-- step 3: the four lanes become one word
unfoldable pub merge : Lanes → ℕ
merge v =
    let first = plus (rotate v.v1 1) (rotate v.v2 7) in
    let sum = plus (plus first (rotate v.v3 12)) (rotate v.v4 18) in
    merge_round (merge_round (merge_round (merge_round sum v.v1) v.v2) v.v3) v.v4

-- ---- the tail

-- the full pieces of w bytes, each as a step: its width and its number
abbrev pub steps_of : ℕ → List ℕ → List (ℕ × ℕ)
steps_of w bytes = map (λ piece. (w, le piece)) (pieces w bytes)

-- Step 5: the bytes after the stripes, in order, as pairs (width, number): words of eight bytes
-- while eight are left, then one of four bytes where four are left, then single bytes.
unfoldable pub steps : List ℕ → List (ℕ × ℕ)
steps waiting =
    steps_of 8 waiting ++ steps_of 4 (rest 8 waiting) ++ steps_of 1 (rest 4 (rest 8 waiting))

abbrev pub tail_steps : List ℕ → List (ℕ × ℕ)
tail_steps bytes = steps (rest 32 bytes)

-- step 5: the hash after a word of eight bytes, a word of four bytes, and a single byte
unfoldable pub eight_step : ℕ → ℕ → ℕ
eight_step h word = plus (times (rotate (xor h (round 0 word)) 27) prime1) prime4

unfoldable pub four_step : ℕ → ℕ → ℕ
four_step h word = plus (times (rotate (xor h (times word prime1)) 23) prime2) prime3

unfoldable pub byte_step : ℕ → ℕ → ℕ
byte_step h byte = times (rotate (xor h (times byte prime5)) 11) prime1

-- step 5: the hash after a piece (width, number)
unfoldable pub tail_step : ℕ → ℕ × ℕ → ℕ
tail_step h s =
    if s.0 == 8 then eight_step h s.1
    else if s.0 == 4 then four_step h s.1
    else byte_step h s.1

-- ---- the end

-- step 6: the last mixing of the hash
unfoldable pub avalanche : ℕ → ℕ
avalanche h =
    let once = times (xor_shift 33 h) prime2 in
    let twice = times (xor_shift 29 once) prime3 in
    xor_shift 32 twice

-- Steps 3 to 6: the hash of n bytes, n modulo 2 ^ 64, from their seed, their lanes and the bytes
-- after the stripes. It takes the lanes where n is at least 32, and else the seed alone, as the
-- special case of step 1 does. Step 4 adds n.
unfoldable pub finalize : ℕ → Lanes → ℕ → List ℕ → ℕ
finalize seed v n waiting =
    let h = if nat_lt n 32 then plus seed prime5 else merge v in
    avalanche (fold tail_step (plus h n) (steps waiting))

-- the hash of the bytes under a seed
unfoldable pub xxh64 : ℕ → List ℕ → ℕ
xxh64 seed bytes = finalize seed (lanes seed bytes) (length bytes % 2 ^ 64) (rest 32 bytes)

-- ---- a hasher that is written to piece by piece

-- all four lanes after one stripe
unfoldable pub stripe_step : Lanes → List ℕ → Lanes
stripe_step v stripe = record {
  v1 = round v.v1 (word_at 0 stripe);
  v2 = round v.v2 (word_at 1 stripe);
  v3 = round v.v3 (word_at 2 stripe);
  v4 = round v.v4 (word_at 3 stripe);
}

-- the seed, which stays, and the lanes after one stripe
abbrev pub seeded_step : ℕ × Lanes → List ℕ → ℕ × Lanes
seeded_step s stripe = (s.0, stripe_step s.1 stripe)

-- the state of a hasher with a seed and no bytes
abbrev pub xxh64_start : ℕ → State (ℕ × Lanes)
xxh64_start seed = record { folded = (seed, lanes_start seed); total = 0; waiting = [] }

-- the state that a write of bytes leaves
unfoldable pub xxh64_after : State (ℕ × Lanes) → List ℕ → State (ℕ × Lanes)
xxh64_after state bytes = state_after 32 (λ stripe. stripe) seeded_step state bytes

-- what a hasher in a state answers
unfoldable pub xxh64_answer : State (ℕ × Lanes) → ℕ
xxh64_answer state = finalize state.folded.0 state.folded.1 state.total state.waiting

-- the state is that of a hasher with the seed to which the bytes were written, in any pieces
abbrev pub Xxh64Stands : State (ℕ × Lanes) → ℕ → List ℕ → Type 0
Xxh64Stands state seed bytes = state ≡ xxh64_after (xxh64_start seed) bytes

-- ---- the hasher's fields

-- a list of four lanes
abbrev pub lanes_of : List ℕ → Lanes
lanes_of v = record {
  v1 = slice_index v 0;
  v2 = slice_index v 1;
  v3 = slice_index v 2;
  v4 = slice_index v 3;
}

-- the four words of a stripe
abbrev pub stripe_words : List ℕ → List ℕ
stripe_words stripe = word_at 0 stripe ∷ word_at 1 stripe ∷ word_at 2 stripe ∷ word_at 3 stripe ∷ []

-- the state of a stream with a seed and these lanes
abbrev pub lanes_state : ℕ → Lanes → ℕ → List ℕ → State (ℕ × Lanes)
lanes_state seed v total waiting = record { folded = (seed, v); total = total; waiting = waiting }

-- how many bytes the partial stripe lacks, if `count` bytes wait; 0 if none do
abbrev pub missing : ℕ → ℕ
missing count = (32 - count) % 32
