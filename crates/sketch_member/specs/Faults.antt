-- What is wrong with bytes that are to be read as a table: the first step that fails.
use Rattle.std.specs.Prelude.{◌≡◌, ◌⊎◌, ℕ, ◌-◌, ◌*◌, ◌<◌, ◌≤◌, List, [], ◌∷◌, ◌++◌, codes, length, take, drop, slice_index, Contains}
use Rattle.std.specs.Fmt.{decimal}
use Rattle.datasketches.specs.Bytes.{le}
use Rattle.datasketches.specs.declared.error.ErrorKind.{ErrorKind}
use Rattle.datasketches.specs.declared.error.ErrorKind.TheVariants.{InvalidArgument}
use Rattle.datasketches.specs.ErrorValue.{ErrorValue, memory_error}
use Rattle.datasketches.specs.Refusals.{Refuses, insufficient_data_of_text, invalid_family_text, unsupported_serial_version_text}
use Rattle.sketch_member.specs.declared.fault.Fault.{Fault}
use Rattle.sketch_member.specs.declared.fault.Fault.TheVariants.{HeaderEnds, PreambleLongs, SerialVersion, Family, Log2Bits, Hashes, Reserved, UnknownCount, MissingBits, TrailingBytes}
use Rattle.sketch_member.specs.Table.{IsHashes, IsLog2Bits, byte_count}

-- what a fault prints
abbrev pub fault_text : Fault → List ℕ
fault_text HeaderEnds =
    insufficient_data_of_text (codes "member table") (codes "unexpected end of file")
fault_text (PreambleLongs n) =
    codes "invalid preamble longs: expected one of [2, 3], got " ++ decimal n
fault_text (SerialVersion expected actual) = unsupported_serial_version_text expected actual
fault_text (Family n) = invalid_family_text 200 n (codes "MEMBER")
fault_text (Log2Bits n) = codes "invalid log2 bits: expected 6 to 20, got " ++ decimal n
fault_text (Hashes n) = codes "invalid hashes: expected 1 to 16, got " ++ decimal n
fault_text Reserved = codes "reserved bytes are not zero"
fault_text UnknownCount = codes "unknown count is not zero"
fault_text (MissingBits need have) = insufficient_data_of_text (codes "member bits")
    (codes "expected " ++ (decimal need ++ (codes ", got " ++ decimal have)))
fault_text (TrailingBytes n) = codes "trailing bytes: " ++ decimal n

-- A step: how many bytes it needs, its condition, and the fault if that does not hold.
pub record Step : Type 1 where
  pub needs : ℕ
  pub Condition : Type 0
  pub fault : Fault

-- with this number of bytes the step passes
abbrev pub Passes : ℕ → Step → Type 0
Passes count step = (step.needs ≤ count) × step.Condition

-- With this number of bytes the step fails by this fault: there are fewer bytes than it needs, or
-- its condition does not hold.
abbrev pub Fails : ℕ → Step → Fault → Type 0
Fails count step fault = ((count < step.needs) × (fault ≡ HeaderEnds))
    ⊎ ((step.needs ≤ count) × (step.Condition → ⊥) × (fault ≡ step.fault))

abbrev pub AllPass : ℕ → List Step → Type 0
AllPass count [] = Unit {0}
AllPass count (step ∷ steps) = Passes count step × AllPass count steps

-- the first step that fails does so by this fault
abbrev pub IsFirstFault : ℕ → List Step → Fault → Type 0
IsFirstFault count [] fault = ⊥
IsFirstFault count (step ∷ steps) fault =
    Fails count step fault ⊎ (Passes count step × IsFirstFault count steps fault)

-- the error has this kind, and the text of the first fault
abbrev pub FirstFault : ErrorKind → ℕ → List Step → ErrorValue → Type 0
FirstFault kind count steps error =
    (fault : Fault) × IsFirstFault count steps fault × Refuses kind (fault_text fault) error

-- the error of a call that takes these steps: that of the first fault, or of memory if all pass
abbrev pub IsStepsError : ErrorKind → ℕ → List Step → ErrorValue → Type 0
IsStepsError kind count steps error = FirstFault kind count steps error
    ⊎ (AllPass count steps × (error ≡ memory_error))

-- ---- the steps of the reading, in order

-- the header's length, of the preamble longs in byte 0
abbrev pub header_length : List ℕ → ℕ
header_length bytes = 8 * slice_index bytes 0

-- the number that stands for the count: the header's bytes after the seed, which are none in
-- version 1
abbrev pub count_number : List ℕ → ℕ
count_number bytes = le (take (header_length bytes - 16) (drop 16 bytes))

-- that the bytes are a table, of version 1 or 2
abbrev pub kind_steps : List ℕ → List Step
kind_steps bytes =
    record {
      needs = 1;
      Condition = Contains (2 ∷ 3 ∷ []) (slice_index bytes 0);
      fault = PreambleLongs (slice_index bytes 0);
    }
    ∷ record {
      needs = 2;
      Condition = slice_index bytes 1 ≡ slice_index bytes 0 - 1;
      fault = SerialVersion (slice_index bytes 0 - 1) (slice_index bytes 1);
    }
    ∷ record {
      needs = 3;
      Condition = slice_index bytes 2 ≡ 200;
      fault = Family (slice_index bytes 2);
    }
    ∷ []

-- that the sizes are within their limits
abbrev pub size_steps : List ℕ → List Step
size_steps bytes =
    record {
      needs = 4;
      Condition = IsLog2Bits (slice_index bytes 3);
      fault = Log2Bits (slice_index bytes 3);
    }
    ∷ record {
      needs = 5;
      Condition = IsHashes (slice_index bytes 4);
      fault = Hashes (slice_index bytes 4);
    }
    ∷ []

-- the flag is 1 if the count is known, else 0: version 1 has 0 alone
abbrev pub IsFlag : ℕ → ℕ → Type 0
IsFlag longs flag = (flag ≡ 0) ⊎ ((longs ≡ 3) × (flag ≡ 1))

-- that the flag is one, and the reserved bytes after it are zero
abbrev pub flag_step : List ℕ → Step
flag_step bytes = record {
  needs = 8;
  Condition = IsFlag (slice_index bytes 0) (slice_index bytes 5)
      × (slice_index bytes 6 ≡ 0) × (slice_index bytes 7 ≡ 0);
  fault = Reserved;
}

-- that the seed is there
abbrev pub seed_step : Step
seed_step = record { needs = 16; Condition = Unit {0}; fault = HeaderEnds }

-- that the header is there, and a count that is not known is zero
abbrev pub count_step : List ℕ → Step
count_step bytes = record {
  needs = header_length bytes;
  Condition = slice_index bytes 5 ≡ 0 → count_number bytes ≡ 0;
  fault = UnknownCount;
}

abbrev pub number_steps : List ℕ → List Step
number_steps bytes = flag_step bytes ∷ seed_step ∷ count_step bytes ∷ []

-- that as many bytes are left from `start` on as the bits need, and no more
abbrev pub bits_steps : List ℕ → ℕ → ℕ → List Step
bits_steps bytes start need =
    record {
      needs = start;
      Condition = need ≤ length bytes - start;
      fault = MissingBits need (length bytes - start);
    }
    ∷ record {
      needs = start;
      Condition = length bytes - start ≤ need;
      fault = TrailingBytes (length bytes - start - need);
    }
    ∷ []

abbrev pub steps : List ℕ → List Step
steps bytes = kind_steps bytes ++ (size_steps bytes ++ (number_steps bytes
    ++ bits_steps bytes (header_length bytes) (byte_count (slice_index bytes 3))))

-- ---- the steps of other calls

-- that the sizes of a new table are within their limits
abbrev pub new_steps : ℕ → ℕ → List Step
new_steps log2_bits hashes =
    record { needs = 0; Condition = IsLog2Bits log2_bits; fault = Log2Bits log2_bits }
    ∷ record { needs = 0; Condition = IsHashes hashes; fault = Hashes hashes } ∷ []

-- the error of a call that makes a table of these sizes
abbrev pub IsNewError : ℕ → ℕ → ErrorValue → Type 0
IsNewError log2_bits hashes = IsStepsError InvalidArgument 0 (new_steps log2_bits hashes)
