-- How a table is serialized, in both versions.
use Rattle.std.specs.Prelude.{◌≡◌, ◌⊎◌, ℕ, ◌+◌, List, [], ◌∷◌, ◌++◌, Option, None, Some}
use Rattle.datasketches.specs.Bytes.{eight}
use Rattle.sketch_member.specs.Table.{Table}

-- What the versions share. Byte 0: the preamble longs, one more than the version, of eight bytes
-- each, which are the header; 1: the serial version; 2: the family; 3 and 4: the two sizes; 5: the
-- flag; 6 and 7: zero; 8 to 15: the seed, the lowest byte first. After it come the bytes of the
-- count, and then the bits.
abbrev pub form : ℕ → ℕ → List ℕ → Table → List ℕ
form version flag count table =
    (version + 1) ∷ version ∷ 200 ∷ table.log2_bits ∷ table.hashes ∷ flag ∷ 0 ∷ 0
    ∷ eight table.seed ++ (count ++ table.bits)

-- whether a count is known, and the number that stands for it
abbrev pub flag_of : Option ℕ → ℕ
flag_of None = 0
flag_of (Some n) = 1

abbrev pub number_of : Option ℕ → ℕ
number_of None = 0
number_of (Some n) = n

-- The versions side by side: the first has no count.
abbrev pub form1 : Table → List ℕ
form1 table = form 1 0 [] table

abbrev pub form2 : Table → List ℕ
form2 table = form 2 (flag_of table.count) (eight (number_of table.count)) table

-- the bytes are those of the table, in one of the versions
abbrev pub IsForm : Table → List ℕ → Type 0
IsForm table bytes = ((table.count ≡ None) × (bytes ≡ form1 table)) ⊎ (bytes ≡ form2 table)
