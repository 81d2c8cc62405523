-- What a write leaves in a Murmur hasher, whose waiting bytes are two words, and in a saved state.
use Rattle.std.proofs.Common.{◌≡◌, ℕ, ◌+◌, ◌-◌, ◌*◌, min, ◌%◌, ◌/◌, ◌^◌, ◌<◌, ◌≤◌, List, ◌++◌, sym, length, get_or, Fits, w8, refl, ap, ◌∙◌, arith, take, drop, map, subst, length-append, length-drop}
use Rattle.std.proofs.Math.Nat.{add-mod-mod, mod-eq_of_lt}
use Rattle.std.proofs.lemmas.List.{take_all, take_rest, length-take-le, length-take}
use Rattle.sketch_base.specs.Bytes.{le, low_bytes, AreBytes}
use Rattle.sketch_base.proofs.BytesLemmas.{bytes_known, low_bytes-take, length-low_bytes, le-lt, le-again, low_bytes-le, IsByte, to_le_bytes-is}
use Rattle.sketch_hash.proofs.NumberLemmas.{number-lt, kept-lt, take-low_bytes, le-prefix, le_take-lt, pow_eight, joined-lt, low_bytes-joined, le-drop, block_words-filled, words-lt, words-number}
use Rattle.sketch_hash.specs.Pieces.{State, pieces, rest}
use Rattle.sketch_hash.specs.Murmur.{step, murmur_after, block_words, Waits}
use Rattle.std.proofs.lemmas.List.Elements.{All-drop}
use Rattle.std.specs.List.{fold}
use Rattle.sketch_hash.proofs.PiecesLemmas.{length_rest, pieces_short, rest_short, state_after-waits, state_after-through}
use Rattle.sketch_hash.proofs.MurmurAnswers.{murmur_stands_after, written_after}
use Rattle.sketch_hash.proofs.BufferLemmas.{Found, take-copy_waiting}
use Rattle.std.specs.Int.{w128, to_le_bytes}
use Rattle.sketch_hash.specs.declared.hash.murmurhash.state.MurmurState.{MurmurState}
use Rattle.sketch_hash.specs.States.{murmur_state_of, MurmurStateStands}

-- as many bytes wait as the hasher counts
pub waiting_size : (count v : ℕ) (w : List ℕ) → w ≡ low_bytes count v → length w ≡ count
waiting_size count v w is = ap length is ∙ length-low_bytes count v

-- ---- the words of buffered bytes with others after them

pub place_after-is : (number count sum v : ℕ) → count < 16 → sum ≡ v + number * 2 ^ (8 * count) % 2 ^ 128 →
    sum % 2 ^ 128 ≡ (v + number * 256 ^ count) % 2 ^ 128
place_after-is number count sum v few is =
    is' is ∙ add-mod-mod v (number * 256 ^ count) (2 ^ 128)
  where
    is' : sum ≡ v + number * 2 ^ (8 * count) % 2 ^ 128 →
        sum % 2 ^ 128 ≡ (v + number * 256 ^ count % 2 ^ 128) % 2 ^ 128
    is' e = ap (λ n. n % 2 ^ 128) e ∙ ap (λ p. (v + number * p % 2 ^ 128) % 2 ^ 128) (pow_eight count)

-- a number's words are those of its bytes
number_waits : (count n : ℕ) (bytes : List ℕ) → n < 256 ^ count → low_bytes count n ≡ bytes →
    Waits count (n % 2 ^ 64) (n / 2 ^ 64) bytes
number_waits count n bytes below are =
    let sizes = words-lt count n below in
    record { first = sizes.0; second = sizes.1; bytes_are = ap (low_bytes count) (words-number n) ∙ are }

pub waits-append : (count low high : ℕ) (bytes : List ℕ) →
    low < 256 ^ min count 8 → high < 256 ^ (count - 8) → ((i : ℕ) → Fits w8 (get_or bytes i 0)) →
    count + length bytes < 16 →
    Found ((low + high * 2 ^ 64 + le bytes * 256 ^ count) % 2 ^ 128)
    (Waits (count + length bytes)
    ((low + high * 2 ^ 64 + le bytes * 256 ^ count) % 2 ^ 128 % 2 ^ 64)
    ((low + high * 2 ^ 64 + le bytes * 256 ^ count) % 2 ^ 128 / 2 ^ 64)
    (low_bytes count (low + high * 2 ^ 64) ++ bytes))
waits-append count low high bytes p q known few =
    let v : ℕ = low + high * 2 ^ 64 in
    let are = bytes_known bytes known in
    let below = number-lt count low high p q in
    let small : (v + le bytes * 256 ^ count) % 2 ^ 128 ≡ v + le bytes * 256 ^ count =
    mod-eq_of_lt (kept-lt count v bytes are below few) in (
      refl,
      rw small (number_waits (count + length bytes) (v + le bytes * 256 ^ count)
          (low_bytes count v ++ bytes) (joined-lt count v bytes are below)
          (low_bytes-joined count v bytes are below)),
    )

pub block_words-is : (count low high number : ℕ) (k : ℕ × ℕ) (bytes : List ℕ) →
    low < 256 ^ min count 8 → high < 256 ^ (count - 8) → ((i : ℕ) → Fits w8 (get_or bytes i 0)) →
    count < 16 → 16 ≤ count + length bytes → number ≡ le (take 16 bytes) →
    k ≡ (
      (low + high * 2 ^ 64 + number * 256 ^ count) % 2 ^ 128 % 2 ^ 64,
      (low + high * 2 ^ 64 + number * 256 ^ count) % 2 ^ 128 / 2 ^ 64,
    ) →
    k ≡ block_words (low_bytes count (low + high * 2 ^ 64) ++ take (16 - count) bytes)
block_words-is count low high number k bytes p q known begun full number_is words =
    let below = number-lt count low high p q in
    rw (words, number_is)
    (sym (block_words-filled count (low + high * 2 ^ 64) bytes (bytes_known bytes known) below begun full))

pub waits-rest : (count : ℕ) (bytes : List ℕ) → ((i : ℕ) → Fits w8 (get_or bytes i 0)) →
    count < 16 → 16 ≤ count + length bytes →
    Found (le bytes / 2 ^ (8 * (16 - count)))
    (Waits (count + length bytes - 16) (le bytes / 2 ^ (8 * (16 - count)) % 2 ^ 64)
    (le bytes / 2 ^ (8 * (16 - count)) / 2 ^ 64) (drop (16 - count) bytes))
waits-rest count bytes known begun full =
    let are = bytes_known bytes known in
    let missing : ℕ = 16 - count in
    let suffix : List ℕ = drop missing bytes in
    let suffix_are : AreBytes suffix = All-drop IsByte missing bytes are in
    let within : missing ≤ length bytes = omega (arith, full) in
    let size : length suffix ≡ count + length bytes - 16 =
    length-drop missing bytes ∙ omega (arith, begun, full) in
    let quotient : le bytes / 2 ^ (8 * missing) ≡ le suffix =
    ap (λ p. le bytes / p) (pow_eight missing) ∙ sym (le-drop missing bytes are within) in
    let below : le suffix < 256 ^ (count + length bytes - 16) =
    subst (λ n. le suffix < 256 ^ n) size (le-lt suffix suffix_are) in (
      refl,
      rw quotient
          (number_waits (count + length bytes - 16) (le suffix) suffix below
          (le-again _ suffix suffix_are size)),
    )

pub waits-bytes : (bytes : List ℕ) → ((i : ℕ) → Fits w8 (get_or bytes i 0)) →
    Found (le bytes) (Waits (length bytes) (le bytes % 2 ^ 64) (le bytes / 2 ^ 64) bytes)
waits-bytes bytes known =
    let are = bytes_known bytes known in
    (refl, number_waits (length bytes) (le bytes) bytes (le-lt bytes are) (low_bytes-le bytes are))

-- a block's first bytes, from the remainder of its number
pub waits-prefix : (count : ℕ) (block : List ℕ) → ((i : ℕ) → Fits w8 (get_or block i 0)) →
    count < 16 → length block ≡ 16 →
    Found (le block % (1 * 2 ^ (8 * count) % 2 ^ 128))
    (Waits count (le block % (1 * 2 ^ (8 * count) % 2 ^ 128) % 2 ^ 64)
    (le block % (1 * 2 ^ (8 * count) % 2 ^ 128) / 2 ^ 64) (take count block))
waits-prefix count block known low size =
    let are = bytes_known block known in
    let within : count ≤ length block = omega (arith, size, low) in (
      refl,
      rw (le-prefix count block are low within)
          (number_waits count (le (take count block)) (take count block) (le_take-lt count block are within)
          (low_bytes-take count block are within)),
    )

-- ---- the state after a write

pub ruleset for_place_after = (place_after-is)

pub ruleset for_read_partial_words = (waits-bytes)

pub ruleset for_read_prefix = (waits-prefix)

pub after_waits : (state : State (ℕ × ℕ)) (bytes : List ℕ) → state.total < 2 ^ 64 →
    length state.waiting + length bytes < 16 →
    murmur_after state bytes ≡ record {
      folded = state.folded;
      total = (state.total + length bytes) % 2 ^ 64;
      waiting = state.waiting ++ bytes;
    }
unfolding murmur_after
after_waits state bytes fits few =
    state_after-waits 16 block_words step state bytes fits (rw (length-append state.waiting bytes) few)

pub ruleset for_write_within = (waiting_size, after_waits, waits-append)

pub after_blocks : (state : State (ℕ × ℕ)) (bytes : List ℕ) → state.total < 2 ^ 64 →
    length state.waiting < 16 → 16 ≤ length state.waiting + length bytes →
    murmur_after state bytes ≡ record {
      folded = fold step
          (step state.folded (block_words (state.waiting ++ take (16 - length state.waiting) bytes)))
          (map block_words (pieces 16 (drop (16 - length state.waiting) bytes)));
      total = (state.total + length bytes) % 2 ^ 64;
      waiting = rest 16 (drop (16 - length state.waiting) bytes);
    }
unfolding murmur_after
after_blocks state bytes fits low enough =
    let missing : ℕ = 16 - length state.waiting in
    let within : missing ≤ length bytes = omega (arith, enough) in
    let both = length-append state.waiting (take missing bytes) in
    let full : length (state.waiting ++ take missing bytes) ≡ 16 =
    omega (arith, both, length-take-le missing bytes within, low) in
    state_after-through 16 block_words step state bytes missing (omega arith) fits low within full

pub after_fills : (state : State (ℕ × ℕ)) (bytes : List ℕ) → state.total < 2 ^ 64 →
    length state.waiting < 16 → length bytes < 16 → 16 ≤ length state.waiting + length bytes →
    murmur_after state bytes ≡ record {
      folded = step state.folded (block_words (state.waiting ++ take (16 - length state.waiting) bytes));
      total = (state.total + length bytes) % 2 ^ 64;
      waiting = drop (16 - length state.waiting) bytes;
    }
after_fills state bytes fits low few enough =
    let missing : ℕ = 16 - length state.waiting in
    let less : length (drop missing bytes) < 16 = omega (arith, length-drop missing bytes, few, low) in
    let none = pieces_short 16 (drop missing bytes) less in
    let same = rest_short 16 (drop missing bytes) less in
    after_blocks state bytes fits low enough ∙ rw (none, same) refl

pub ruleset for_complete_block = (waiting_size, take_all, after_fills, block_words-is, waits-rest)

pub ruleset for_write = (waiting_size, written_after)

pub last_count : (count total : ℕ) (last suffix bytes : List ℕ) → count ≡ total % 16 →
    16 ≤ length bytes →
    last ≡ rest 16 suffix → suffix ≡ drop (16 - count) bytes →
    length last ≡ (total + length bytes) % 2 ^ 64 % 16
last_count count total last suffix bytes at enough is cut =
    let left : List ℕ = drop (16 - count) bytes in
    let size : length last ≡ length left - length left / 16 * 16 =
    ap length (is ∙ ap (rest 16) cut) ∙ length_rest 16 left in
    omega (arith, size, length-drop (16 - count) bytes, at, enough)

pub ruleset for_write_blocks = (waiting_size, take_rest, after_blocks, last_count, block_words-is)

-- ---- a saved state

-- what a write makes of a state that stands for bytes
pub murmur_state_stands_after : (state next : MurmurState) (bytes : List ℕ) →
    murmur_state_of next ≡ murmur_after (murmur_state_of state) bytes →
    (seed : ℕ) (before : List ℕ) → MurmurStateStands state seed before →
    MurmurStateStands next seed (before ++ bytes)
murmur_state_stands_after state next bytes written seed before stands =
    murmur_stands_after (murmur_state_of state) (murmur_state_of next) bytes written seed before stands

-- a write that fills no block
pub take-copy_waiting_16 : (total : ℕ) (buffer bytes : List ℕ) → total % 16 + length bytes < 16 →
    length buffer ≡ 16 →
    Found (take (total % 16) buffer ++ bytes ++ drop (total % 16 + length bytes) buffer)
    (take ((total + length bytes) % 2 ^ 64 % 16)
    (take (total % 16) buffer ++ bytes ++ drop (total % 16 + length bytes) buffer)
    ≡ take (total % 16) buffer ++ bytes)
take-copy_waiting_16 total buffer bytes few size =
    let within : total % 16 + length bytes ≤ length buffer = omega arith in
    (refl, take-copy_waiting 16 total buffer bytes (λ n. omega arith) few within)

pub ruleset for_state_write_within = (after_waits, take-copy_waiting_16, length-take)

-- a hasher's state: its buffer has the bytes of that number
take-low_bytes_16 : (n count : ℕ) → count < 16 → take count (low_bytes 16 n) ≡ low_bytes count n
take-low_bytes_16 n count few =
    let all : count + (16 - count) ≡ 16 = omega arith in
    ap (λ k. take count (low_bytes k n)) (sym all) ∙ take-low_bytes count (16 - count) n

pub take-to_le_bytes : (n total count : ℕ) (bytes : List ℕ) →
    bytes ≡ to_le_bytes w128 n → count ≡ total % 16 →
    take (total % 16) bytes ≡ low_bytes count n
take-to_le_bytes n total count bytes is at =
    let few : count < 16 = omega (arith, at) in
    ap (take (total % 16)) (is ∙ to_le_bytes-is w128 n) ∙ rw (← at) (take-low_bytes_16 n count few)

pub ruleset for_state = (take-to_le_bytes)

pub block_bytes : (n : ℕ) → to_le_bytes w128 n ≡ low_bytes 16 n
block_bytes n = to_le_bytes-is w128 n
