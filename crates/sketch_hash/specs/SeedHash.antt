-- The seed hash, and the texts of its errors.
use Rattle.std.specs.Prelude.{ℕ, ◌%◌, List, ◌++◌, codes}
use Rattle.std.specs.Fmt.{decimal}
use Rattle.sketch_base.specs.Bytes.{eight}
use Rattle.sketch_hash.specs.Murmur.{murmur}

-- the low sixteen bits of the first word of Murmur's hash of the seed's eight bytes, under seed 0
abbrev pub seed_hash : ℕ → ℕ
seed_hash seed = (murmur 0 (eight seed)).0 % 65536

abbrev pub zero_seed_hash_text : ℕ → List ℕ
zero_seed_hash_text seed =
    codes "seed "
    ++ (decimal seed ++ codes " produces a seed hash of zero; choose a different seed")

abbrev pub incompatible_seed_hash_text : List ℕ → ℕ → ℕ → List ℕ
incompatible_seed_hash_text name expected actual =
    codes "incompatible seed hash of " ++ (name ++ (codes ": expected " ++ (decimal expected
    ++ (codes ", got " ++ decimal actual))))
