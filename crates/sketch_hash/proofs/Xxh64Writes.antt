-- What a write leaves in an XXH64 hasher and in a saved state: a partial stripe that stays partial, one
-- that becomes full, or one that becomes full with bytes after it.
use Rattle.std.proofs.Common.{◌≡◌, ℕ, ◌+◌, ◌-◌, ◌<◌, ◌≤◌, List, ◌++◌, length, take, drop, refl, ap, ◌∙◌, arith, length-append, length-drop, zero, ◌%◌, ◌^◌, [], map, inl, inr}
use Rattle.std.proofs.lemmas.List.{length-take, length-take-le, take_rest, map-id, nil_from_length}
use Rattle.sketch_hash.specs.declared.hash.xxhash.state.XxHash64State.{XxHash64State}
use Rattle.sketch_hash.specs.States.{xxh64_state_of, Xxh64StateStands}
use Rattle.sketch_hash.specs.Xxh64.{xxh64_after, Lanes, stripe_step, seeded_step, each_lane}
use Rattle.std.proofs.lemmas.Bool.{cases_lt}
use Rattle.std.specs.List.{fold}
use Rattle.sketch_hash.specs.Pieces.{pieces, rest, State}
use Rattle.sketch_hash.proofs.PiecesLemmas.{length_rest, pieces_short, joined_piece, no_piece, state_after-waits, state_after-fills, state_after-fresh, state_after-through}
use Rattle.sketch_hash.proofs.Xxh64Answers.{xxh64_stands_after, fold-seeded, one_stripe}
use Rattle.sketch_hash.proofs.BufferLemmas.{Found, copy_to_end, take-copy_found, take-append_found, take-copy_waiting}

-- the lanes after the stripes of bytes, beside the seed
folded : (start : ℕ × Lanes) (bytes : List ℕ) →
    fold seeded_step start (map (λ stripe. stripe) (pieces 32 bytes))
    ≡ (start.0, each_lane start.1 (pieces 32 bytes))
folded start bytes =
    ap (fold seeded_step start) (map-id (pieces 32 bytes))
    ∙ fold-seeded (pieces 32 bytes) start.0 start.1

-- If no byte waits, a write folds the stripes of its bytes.
pub write_aligned : (s : State (ℕ × Lanes)) (bytes : List ℕ) → s.total < 2 ^ 64 → length s.waiting ≡ 0 →
    xxh64_after s bytes ≡ record {
      folded = (s.folded.0, each_lane s.folded.1 (pieces 32 bytes));
      total = (s.total + length bytes) % 2 ^ 64;
      waiting = rest 32 bytes;
    }
unfolding xxh64_after
write_aligned s bytes t none =
    let empty = nil_from_length s.waiting none in
    state_after-fresh 32 (λ stripe. stripe) seeded_step s bytes (omega arith) t empty
    ∙ ap (λ v. record { folded = v; total = (s.total + length bytes) % 2 ^ 64; waiting = rest 32 bytes })
    (folded s.folded bytes)

-- If bytes wait, a write that fills their stripe folds it first.
after-partial : (s : State (ℕ × Lanes)) (bytes : List ℕ) (missing : ℕ) → s.total < 2 ^ 64 →
    0 < missing → length s.waiting + missing ≡ 32 → missing ≤ length bytes →
    xxh64_after s bytes ≡ record {
      folded = (
        s.folded.0,
        each_lane (stripe_step s.folded.1 (s.waiting ++ take missing bytes))
            (pieces 32 (drop missing bytes)),
      );
      total = (s.total + length bytes) % 2 ^ 64;
      waiting = rest 32 (drop missing bytes);
    }
unfolding xxh64_after
after-partial s bytes missing t p e h =
    let prefix : List ℕ = take missing bytes in
    let suffix : List ℕ = drop missing bytes in
    let full : length (s.waiting ++ prefix) ≡ 32 =
    length-append s.waiting prefix ∙ ap (λ n. length s.waiting + n) (length-take-le missing bytes h) ∙ e in
    let short : length s.waiting < 32 = omega (arith, e, p) in
    state_after-through 32 (λ stripe. stripe) seeded_step s bytes missing (omega arith) t short h full
    ∙ ap (λ v. record { folded = v; total = (s.total + length bytes) % 2 ^ 64; waiting = rest 32 suffix })
    (folded (seeded_step s.folded (s.waiting ++ prefix)) suffix)

-- If the buffered and the new bytes fill no stripe, all are buffered.
pub write_within : (s : State (ℕ × Lanes)) (bytes : List ℕ) → s.total < 2 ^ 64 →
    length s.waiting + length bytes < 32 →
    xxh64_after s bytes ≡ record {
      folded = s.folded;
      total = (s.total + length bytes) % 2 ^ 64;
      waiting = s.waiting ++ bytes;
    }
unfolding xxh64_after
write_within s bytes t h =
    let short : length (s.waiting ++ bytes) < 32 = rw (length-append s.waiting bytes) h in
    state_after-waits 32 (λ stripe. stripe) seeded_step s bytes t short

-- bytes that fill a stripe have it folded
pub write_to_the_end : (s : State (ℕ × Lanes)) (bytes : List ℕ) → s.total < 2 ^ 64 →
    length s.waiting < 32 → length s.waiting + length bytes ≡ 32 →
    xxh64_after s bytes ≡ record {
      folded = (s.folded.0, stripe_step s.folded.1 (s.waiting ++ bytes));
      total = (s.total + length bytes) % 2 ^ 64;
      waiting = [];
    }
unfolding xxh64_after
write_to_the_end s bytes t short h =
    let full : length (s.waiting ++ bytes) ≡ 32 = length-append s.waiting bytes ∙ h in
    state_after-fills 32 (λ stripe. stripe) seeded_step s bytes (omega arith) t short full

-- how many bytes follow the stripes
pub left_over : (bytes : List ℕ) → length (rest 32 bytes) ≡ length bytes % 32
left_over bytes = rw (length_rest 32 bytes) (omega arith)

-- the waiting bytes of a state whose total says how many they are
pub take-copy_waiting_32 : (total : ℕ) (buffer bytes : List ℕ) → total % 32 + length bytes < 32 →
    length buffer ≡ 32 →
    Found (take (total % 32) buffer ++ bytes ++ drop (total % 32 + length bytes) buffer)
    (take ((total + length bytes) % 2 ^ 64 % 32)
    (take (total % 32) buffer ++ bytes ++ drop (total % 32 + length bytes) buffer)
    ≡ take (total % 32) buffer ++ bytes)
take-copy_waiting_32 total buffer bytes few size =
    let within : total % 32 + length bytes ≤ length buffer = omega arith in
    (refl, take-copy_waiting 32 total buffer bytes (λ n. omega arith) few within)

-- a write that fills the buffered stripe: this stripe, if there is one, and then those after it
pub write_across : (seed total count : ℕ) (v : Lanes) (buffer bytes : List ℕ) → total < 2 ^ 64 →
    count < 32 → length buffer ≡ 32 → (32 - count) % 32 ≤ length bytes →
    xxh64_after (record { folded = (seed, v); total = total; waiting = take count buffer }) bytes ≡ record {
      folded = (
        seed,
        each_lane (each_lane v (pieces 32 (take count buffer ++ take ((32 - count) % 32) bytes)))
            (pieces 32 (drop ((32 - count) % 32) bytes)),
      );
      total = (total + length bytes) % 2 ^ 64;
      waiting = rest 32 (drop ((32 - count) % 32) bytes);
    }
unfolding stripe_step
write_across seed total count v buffer bytes below low size enough =
    let missing : ℕ = (32 - count) % 32 in
    let s : State (ℕ × Lanes) =
    record { folded = (seed, v); total = total; waiting = take count buffer } in
    let waits : length s.waiting ≡ count = length-take-le count buffer (omega (arith, low, size)) in
    let prefix_len : length (take missing bytes) ≡ missing = length-take-le missing bytes enough in
    elim (cases_lt 0 missing) [
      | inl begun ↦
          let full : length s.waiting + missing ≡ 32 = omega (arith, waits, begun) in
          let both : length s.waiting + length (take missing bytes) ≡ 32 = omega (arith, full, prefix_len) in
          rw (joined_piece 32 s.waiting (take missing bytes) (omega arith) both)
          (after-partial s bytes missing below begun full enough)
      | inr none ↦
          let zero : count ≡ 0 = omega (arith, none, low) in
          let nothing : missing ≡ 0 = omega (arith, none) in
          let empty : s.waiting ≡ [] = ap (λ n. take n buffer) zero in
          let alone : pieces 32 [] ≡ [] = pieces_short 32 [] (omega arith) in
          let bare : State (ℕ × Lanes) = record { folded = (seed, v); total = total; waiting = [] } in
          rw (empty, nothing, alone) (write_aligned bare bytes below refl)
    ]

-- how many bytes are buffered after a write that completes the buffered stripe
pub left_count : (count : ℕ) (bytes : List ℕ) → count < 32 → (32 - count) % 32 ≤ length bytes →
    length (rest 32 (drop ((32 - count) % 32) bytes)) ≡ (count + length bytes) % 32
left_count count bytes low h =
    rw (length_rest 32 (drop ((32 - count) % 32) bytes), length-drop ((32 - count) % 32) bytes)
    (omega arith)

-- One ruleset for each path of a write: into the buffer, to the end of the buffer, with an empty
-- buffer, into a state's buffer, the completion of the buffered stripe, and a write beyond it.
pub ruleset for_write_within = (write_within, take-copy_found)

pub ruleset for_write_to_the_end = (write_to_the_end, copy_to_end)

pub ruleset for_write_aligned = (write_aligned, take-append_found, left_over, length-take)

pub ruleset for_state_write_within = (write_within, take-copy_waiting_32, length-take)

pub ruleset for_complete = (one_stripe, joined_piece, no_piece, copy_to_end, length-take)

pub ruleset for_consume = (write_across, take-append_found, left_count, take_rest)

pub xxh64_state_stands_after : (state next : XxHash64State) (bytes : List ℕ) →
    xxh64_state_of next ≡ xxh64_after (xxh64_state_of state) bytes →
    (seed : ℕ) (before : List ℕ) → Xxh64StateStands state seed before →
    Xxh64StateStands next seed (before ++ bytes)
xxh64_state_stands_after state next bytes written seed before stands =
    xxh64_stands_after (xxh64_state_of state) (xxh64_state_of next) bytes written seed before stands
