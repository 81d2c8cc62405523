-- The laws of tables, of their bytes and of what is inserted into them.
use Rattle.std.specs.Prelude.{◌≡◌, ◌↔◌, ℕ, ◌+◌, ◌-◌, ◌^◌, min, List, [], ◌∷◌, ◌++◌, length, Contains, Option, None, Some}
use Rattle.sketch_member.specs.Faults.{AllPass, steps}
use Rattle.sketch_member.specs.Form.{IsForm, form1, form2}
use Rattle.sketch_member.specs.Table.{Table, IsTable, IsSet, IsIndex, IsMember, Inserts, empty_table}

-- The bytes of a table pass all steps of the reading, in either version. Bytes are those of one
-- table at most. Version 1 keeps all of a table but its count.
pub record FormLaw : Type 0 where
  pub passes : (table : Table) (bytes : List ℕ) → IsTable table → IsForm table bytes →
      AllPass (length bytes) (steps bytes)
  pub once : (table other : Table) (bytes : List ℕ) → IsTable table → IsTable other →
      IsForm table bytes → IsForm other bytes → table ≡ other
  pub version1 : (table read : Table) → IsTable table → IsTable read →
      IsForm read (form1 table) → read ≡ record table { count = None }

-- a table stands for these values, each given by the bytes that it feeds: the bits that are set are
-- those at their indexes
unfoldable pub StandsFor : Table → List (List ℕ) → Type 0
StandsFor table values =
    (i : ℕ) → IsSet table.bits i ↔ ((fed : List ℕ) × Contains values fed × IsIndex table fed i)

-- the count after n inserts into an empty table: n, or the greatest word if that is less
abbrev pub count_after : ℕ → Option ℕ
count_after n = Some (min n (2 ^ 64 - 1))

-- a table after the inserts of these values, one after another
abbrev pub InsertsAll : List (List ℕ) → Table → Table → Type 0
InsertsAll [] before after = after ≡ before
InsertsAll (fed ∷ values) before after =
    (next : Table) × Inserts fed before next × InsertsAll values next after

-- the bytes are the table that these inserts make of the empty one of this seed and these sizes
unfoldable pub IsFormOfInserts : ℕ → ℕ → ℕ → List (List ℕ) → List ℕ → Type 0
IsFormOfInserts seed log2_bits hashes values bytes =
    (table : Table) × IsTable table × (bytes ≡ form2 table)
    × InsertsAll values (empty_table seed log2_bits hashes) table

-- A table with no bit set stands for no values, and each insert adds one. A table misses none of
-- its values. Its inserts are counted. Of one seed and sizes, tables that stand for the same values
-- have the same bits, in whatever order and however often these were inserted, and are the same
-- where their counts are. The same inserts into an empty table make the same bytes.
pub record InsertLaw : Type 0 where
  pub none : (table : Table) → ((i : ℕ) → IsSet table.bits i → ⊥) → StandsFor table []
  pub one_more : (before after : Table) (fed : List ℕ) (values : List (List ℕ)) →
      Inserts fed before after → StandsFor before values → StandsFor after (values ++ fed ∷ [])
  pub one_counted : (before after : Table) (fed : List ℕ) (n : ℕ) →
      Inserts fed before after → before.count ≡ count_after n → after.count ≡ count_after (n + 1)
  pub found : (table : Table) (fed : List ℕ) (values : List (List ℕ)) →
      StandsFor table values → Contains values fed → IsMember table fed
  pub once : (table other : Table) (values others : List (List ℕ)) →
      IsTable table → IsTable other → table.seed ≡ other.seed →
      table.log2_bits ≡ other.log2_bits → table.hashes ≡ other.hashes →
      StandsFor table values → StandsFor other others →
      ((fed : List ℕ) → Contains values fed ↔ Contains others fed) →
      (table.bits ≡ other.bits) × (table.count ≡ other.count → table ≡ other)
  pub one_form : (seed log2_bits hashes : ℕ) (values : List (List ℕ)) (bytes others : List ℕ) →
      IsFormOfInserts seed log2_bits hashes values bytes →
      IsFormOfInserts seed log2_bits hashes values others → bytes ≡ others
