-- How calls for C report errors: 0 if all is done, or a negative number for each error.
use Rattle.std.specs.Prelude.{◌≡◌, ◌⊎◌, ℕ, ℤ, pos, ◌-ℤ◌, List, length, Result, MatchResult}
use Rattle.sketch_bloom.specs.declared.fault.Fault.{Fault}
use Rattle.sketch_bloom.specs.Filter.{IsLength, IsMember}
use Rattle.sketch_bloom.specs.declared.fault.Fault.TheVariants.{Length, OtherLength, OddBlocks, Offset, Count, OutOfMemory}

abbrev pub error : ℕ → ℤ
error n = pos 0 -ℤ pos n

-- The number of a fault. No call for C takes memory.
abbrev pub status : Fault → ℤ
status (Length bytes) = error 1
status (OtherLength bytes) = error 1
status (OddBlocks bytes) = error 1
status (Offset i) = error 2
status (Count values) = error 3
status OutOfMemory = error 4

-- The index of a wrong offset is written. Any other fault leaves the place as it was.
abbrev pub index_of : Fault → ℕ → ℕ
index_of (Offset i) before = i
index_of fault before = before

-- A call that changes a filter did so, or no filter has this length.
abbrev pub Changes : Type 0 → List ℕ → List ℕ → ℤ → Type 0
Changes Done before after result =
    ((result ≡ pos 0) × IsLength (length before) × Done)
    ⊎ ((result ≡ error 1) × (after ≡ before) × (IsLength (length before) → ⊥))

-- The answer is 0 if the filter does not contain a value, given by its hash, and 1 if it may. Bytes
-- of a length that no filter has rule nothing out.
abbrev pub MayContain : List ℕ → ℕ → ℤ → Type 0
MayContain bits hash result =
    ((result ≡ pos 1) × (IsLength (length bits) → IsMember bits hash))
    ⊎ ((result ≡ pos 0) × IsLength (length bits) × (IsMember bits hash → ⊥))

-- A call returns the number of its outcome.
abbrev pub IsNumber : Result Unit Fault → ℤ → Type 0
IsNumber outcome result = MatchResult outcome (λ _. result ≡ pos 0) (λ fault. result ≡ status fault)

-- A call on keys in a buffer returns the number of its outcome, and writes the index of a wrong
-- offset.
abbrev pub Reports : Result Unit Fault → ℕ → ℕ → ℤ → Type 0
Reports outcome before after result = MatchResult outcome
    (λ _. (result ≡ pos 0) × (after ≡ before))
    (λ fault. (result ≡ status fault) × (after ≡ index_of fault before))

-- A call that hashes keys in a buffer reports its outcome: 0, or the index of a wrong offset.
abbrev pub ReportsOffset : Result Unit ℕ → ℕ → ℕ → ℤ → Type 0
ReportsOffset outcome before after result = MatchResult outcome
    (λ _. (result ≡ pos 0) × (after ≡ before)) (λ i. (result ≡ error 2) × (after ≡ i))
