-- Columns of values that are inserted or looked up in one call.
use Rattle.std.specs.Prelude.{◌≡◌, ◌⊎◌, ℕ, ◌-◌, ◌<◌, ◌≤◌, List, length, map, slice_index, Result, MatchResult}
use Rattle.std.specs.List.{range_with_len}
use Rattle.datasketches.specs.Columns.{AreBounds, IsFirstWrongOffset, key_at}
use Rattle.sketch_bloom.specs.declared.fault.Fault.{Fault}
use Rattle.sketch_bloom.specs.declared.fault.Fault.TheVariants.{Offset, Count}
use Rattle.sketch_bloom.specs.Filter.{InsertsAll, IsLength, IsLengthFault, IsMember, hash_of}

-- the hashes of the first n keys of a column
abbrev pub key_hashes : List ℕ → List ℕ → ℕ → List ℕ
key_hashes keys offsets n = map (λ k. hash_of (key_at keys offsets k)) (range_with_len 0 n)

-- The answer is 1 if the filter contains the value with this hash, and 0 if not.
abbrev pub IsAnswer : List ℕ → ℕ → ℕ → Type 0
IsAnswer filter hash answer =
    ((answer ≡ 1) × IsMember filter hash) ⊎ ((answer ≡ 0) × (IsMember filter hash → ⊥))

-- Each of n places has the answer for the hash there.
pub record AreAnswers (filter hashes : List ℕ) (n : ℕ) (found : List ℕ) : Type 0 where
  pub size : length found ≡ n
  pub each : (k : ℕ) → k < n → IsAnswer filter (slice_index hashes k) (slice_index found k)

-- Why a column of n keys is not read: the filter's length, or the first wrong offset.
abbrev pub IsKeysFault : ℕ → List ℕ → List ℕ → ℕ → Fault → Type 0
IsKeysFault bytes keys offsets n fault = IsLengthFault bytes fault
    ⊎ (IsLength bytes × (i : ℕ) × IsFirstWrongOffset keys offsets n i × (fault ≡ Offset i))

-- The outcome of inserting the keys of a column: all are inserted, or the filter is unchanged.
abbrev pub InsertsKeys : List ℕ → List ℕ → List ℕ → List ℕ → Result Unit Fault → Type 0
InsertsKeys keys offsets before after result =
    let n = length offsets - 1 in MatchResult result
    (λ _. IsLength (length before) × AreBounds keys offsets n
    × InsertsAll (key_hashes keys offsets n) before after)
    (λ fault. (after ≡ before) × IsKeysFault (length before) keys offsets n fault)

-- The outcome of inserting the values with these hashes.
abbrev pub InsertsEach : List ℕ → List ℕ → List ℕ → Result Unit Fault → Type 0
InsertsEach hashes before after result = MatchResult result
    (λ _. IsLength (length before) × InsertsAll hashes before after)
    (λ fault. (after ≡ before) × IsLengthFault (length before) fault)

-- The outcome of looking up keys of a column: each place has its answer, or none is changed.
abbrev pub FindsKeys : List ℕ → List ℕ → List ℕ → List ℕ → List ℕ → Result Unit Fault → Type 0
FindsKeys filter keys offsets before after result =
    let n = length before in MatchResult result
    (λ _. IsLength (length filter) × AreBounds keys offsets n
    × AreAnswers filter (key_hashes keys offsets n) n after)
    (λ fault. (after ≡ before) × IsKeysFault (length filter) keys offsets n fault)

-- The outcome of looking up values with these hashes. It is a fault if there are fewer than places.
abbrev pub FindsEach : List ℕ → List ℕ → List ℕ → List ℕ → Result Unit Fault → Type 0
FindsEach filter hashes before after result =
    let n = length before in MatchResult result
    (λ _. IsLength (length filter) × (n ≤ length hashes) × AreAnswers filter hashes n after)
    (λ fault. (after ≡ before) × (IsLengthFault (length filter) fault
    ⊎ (IsLength (length filter) × (length hashes < n) × (fault ≡ Count (length hashes)))))
