-- The laws of tables and their bytes, and of inserts.
use Rattle.std.proofs.Common.{◌≡◌, ℕ, ◌+◌, ◌*◌, List, [], ◌∷◌, ◌++◌, length, length-append, get_or, replicate, suc, refl, sym, ap, subst, ◌∙◌, arith, inl, inr, ◌↔◌, ◌/◌, ◌%◌, ◌^◌, ◌<◌, add-zero, zero-add, not-suc-le-zero, suc-ne-zero}
use Rattle.std.specs.Prelude.{Contains, Option, None, Some, IfSome, ◌-◌, min}
use Rattle.std.specs.Int.{bit_at}
use Rattle.datasketches.specs.Bytes.{eight}
use Rattle.datasketches.specs.Words.{IsWord}
use Rattle.datasketches.proofs.BytesLemmas.{le-back}
use Rattle.sketch_member.proofs.BitLemmas.{zeros-get}
use Rattle.sketch_member.proofs.FormLemmas.{Places, all_pass-append, unknown_count}
use Rattle.sketch_member.specs.Faults.{AllPass, IsFlag, bits_steps, count_number, header_length, kind_steps, number_steps, size_steps, steps}
use Rattle.sketch_member.specs.Form.{IsForm, flag_of, form, form1, form2, number_of}
use Rattle.sketch_member.specs.Laws.{FormLaw, InsertLaw, InsertsAll, IsFormOfInserts, StandsFor, count_after}
use Rattle.sketch_member.specs.Table.{Table, IsTable, byte_count, IsSet, IsIndex, IsMember, Inserts, empty_table, index, one_more}
use Rattle.std.proofs.lemmas.List.{append-nil, append_assoc, ext_get_or}
use Rattle.std.proofs.lemmas.List.Elements.{Contains-append_left, Contains-push, Contains-push_cases}
use Rattle.std.proofs.lemmas.Nat.Bits.{bit_at-lt, bit_at-zero, same_from_bits_below}
use Rattle.std.proofs.lemmas.Bool.{cases_eq}

number_word : (count : Option ℕ) → IfSome count IsWord → IsWord (number_of count)
number_word None word = omega arith
number_word (Some n) word = word

-- the flag of a count
flag_is : (count : Option ℕ) → IsFlag 3 (flag_of count)
flag_is None = inl refl
flag_is (Some n) = inr (refl, refl)

-- bytes pass in a version of these numbers
form_passes : (version flag : ℕ) (number : List ℕ) (table : Table) → IsTable table →
    Contains (2 ∷ 3 ∷ []) (version + 1) → IsFlag (version + 1) flag →
    16 + length number ≡ 8 * (version + 1) →
    (flag ≡ 0 → count_number (form version flag number table) ≡ 0) →
    AllPass (length (form version flag number table)) (steps (form version flag number table))
form_passes version flag number table is known is_flag long zero =
    let bytes : List ℕ = form version flag number table in
    let full : byte_count table.log2_bits ≡ length table.bits = omega (arith, is.bits) in
    let back = length-append number table.bits in
    let kind : AllPass (length bytes) (kind_steps bytes) =
    ((omega arith, known), ((omega arith, omega arith), ((omega arith, refl), tt))) in
    let sizes : AllPass (length bytes) (size_steps bytes) =
    ((omega arith, is.log2_bits), ((omega arith, is.hashes), tt)) in
    let numbers : AllPass (length bytes) (number_steps bytes) =
    ((omega arith, (is_flag, refl, refl)), ((omega arith, tt), ((omega (arith, back, long), zero), tt))) in
    let last = bits_steps bytes (header_length bytes) (byte_count table.log2_bits) in
    let bits : AllPass (length bytes) last = (
      (omega (arith, back, long), omega (arith, back, long, full)),
      ((omega (arith, back, long), omega (arith, back, long, full)), tt),
    ) in
    let later = number_steps bytes ++ last in
    all_pass-append (length bytes) (kind_steps bytes) (size_steps bytes ++ later) kind
    (all_pass-append (length bytes) (size_steps bytes) later sizes
    (all_pass-append (length bytes) (number_steps bytes) last numbers bits))

-- the bytes of a table pass
passes : (table : Table) (bytes : List ℕ) → IsTable table → IsForm table bytes →
    AllPass (length bytes) (steps bytes)
passes table bytes is form =
    let P : List ℕ → Type 0 = λ b. AllPass (length b) (steps b) in
    elim form [
      | inl first ↦
          subst P (sym first.1)
          (form_passes 1 0 [] table is (0, omega arith, refl) (inl refl) refl (λ _. refl))
      | inr second ↦
          let back = le-back 8 (number_of table.count) (number_word table.count is.count) in
          subst P (sym second) (form_passes 2 (flag_of table.count) (eight (number_of table.count)) table is
          (1, omega arith, refl) (flag_is table.count) refl
          (λ unset. back ∙ ap number_of (unknown_count table.count unset)))
    ]

-- tables are the same whose parts are
pub same_table : (table other : Table) → table.seed ≡ other.seed → table.log2_bits ≡ other.log2_bits →
    table.hashes ≡ other.hashes → table.count ≡ other.count → table.bits ≡ other.bits → table ≡ other
same_table table other e f g k m i =
    record { seed = e i; log2_bits = f i; hashes = g i; count = k i; bits = m i }

places1 : (table : Table) → IsTable table → table.count ≡ None → Places table (form1 table)
places1 table is unknown = record {
  seed = sym (le-back 8 table.seed is.seed);
  log2_bits = refl;
  hashes = refl;
  flag = ap flag_of unknown;
  number = ap number_of unknown;
  bits = refl;
}

places2 : (table : Table) → IsTable table → Places table (form2 table)
places2 table is = record {
  seed = sym (le-back 8 table.seed is.seed);
  log2_bits = refl;
  hashes = refl;
  flag = refl;
  number = sym (le-back 8 (number_of table.count) (number_word table.count is.count));
  bits = refl;
}

places : (table : Table) (bytes : List ℕ) → IsTable table → IsForm table bytes → Places table bytes
places table bytes is form = elim form [
  | inl first ↦ subst (Places table) (sym first.1) (places1 table is first.0)
  | inr second ↦ subst (Places table) (sym second) (places2 table is)
]

-- a count is known by its flag and its number
same_count : (a b : Option ℕ) → flag_of a ≡ flag_of b → number_of a ≡ number_of b → a ≡ b
same_count None None e f = refl
same_count None (Some n) e f = cc
same_count (Some m) None e f = cc
same_count (Some m) (Some n) e f = ap (λ k. Some k) f

once : (table other : Table) (bytes : List ℕ) → IsTable table → IsTable other →
    IsForm table bytes → IsForm other bytes → table ≡ other
once table other bytes is others form other_form =
    let p = places table bytes is form in
    let q = places other bytes others other_form in
    let count = same_count table.count other.count (p.flag ∙ sym q.flag) (p.number ∙ sym q.number) in
    same_table table other (p.seed ∙ sym q.seed) (p.log2_bits ∙ sym q.log2_bits)
    (p.hashes ∙ sym q.hashes) count (p.bits ∙ sym q.bits)

version1 : (table read : Table) → IsTable table → IsTable read → IsForm read (form1 table) →
    read ≡ record table { count = None }
version1 table read is reads form =
    let kept : IsTable (record table { count = None }) = record {
      seed = is.seed;
      log2_bits = is.log2_bits;
      hashes = is.hashes;
      count = tt;
      bits = is.bits;
      bytes = is.bytes;
    } in
    once read (record table { count = None }) (form1 table) reads kept form (inl (refl, refl))

pub form_law : FormLaw
form_law = record { passes = passes; once = once; version1 = version1 }

none : (table : Table) → ((i : ℕ) → IsSet table.bits i → ⊥) → StandsFor table []
unfolding StandsFor
none table empty i = ((λ is. absurd (empty i is)), (λ of. absurd (not-suc-le-zero of.1.1)))

-- tables of one seed and sizes give a value the same indexes
pub same_index : (table other : Table) (fed : List ℕ) (i : ℕ) → table.seed ≡ other.seed →
    table.log2_bits ≡ other.log2_bits → table.hashes ≡ other.hashes →
    IsIndex table fed i → IsIndex other fed i
same_index table other fed i seed log2_bits hashes is =
    (is.0, rw (← hashes) is.1, rw (← seed, ← log2_bits) is.2)

one_more_value : (before after : Table) (fed : List ℕ) (values : List (List ℕ)) →
    Inserts fed before after → StandsFor before values → StandsFor after (values ++ fed ∷ [])
unfolding StandsFor
one_more_value before after fed values inserts stands i = (
  (λ is. elim ((inserts.bits i).0 is) [
    | inl was ↦
        let of = (stands i).0 was in (
          of.0,
          Contains-append_left values (fed ∷ []) of.0 of.1,
          same_index before after of.0 i (sym inserts.seed) (sym inserts.log2_bits)
              (sym inserts.hashes) of.2,
        )
    | inr new ↦ (
      fed,
      Contains-push values fed,
      same_index before after fed i (sym inserts.seed) (sym inserts.log2_bits)
          (sym inserts.hashes) new,
    )
  ]),
  (λ of.
      let back = same_index after before of.0 i inserts.seed inserts.log2_bits inserts.hashes of.2 in
      (inserts.bits i).1 (elim (Contains-push_cases values fed of.0 of.1) [
        | inl earlier ↦ inl ((stands i).1 (of.0, earlier, back))
        | inr last ↦
            let P : List ℕ → Type 0 = λ v. IsIndex before v i in
            inr (subst P (sym last) back)
      ])),
)

found : (table : Table) (fed : List ℕ) (values : List (List ℕ)) →
    StandsFor table values → Contains values fed → IsMember table fed
unfolding StandsFor
found table fed values stands is i index = (stands i).1 (fed, is, index)

-- two digits are the same if each is 1 exactly when the other is
same_digit : (a b : ℕ) → a < 2 → b < 2 → (a ≡ 1 → b ≡ 1) → (b ≡ 1 → a ≡ 1) → a ≡ b
same_digit a b ha hb f g = elim (cases_eq a 1) [
  | inl one ↦ one ∙ sym (f one)
  | inr not ↦ elim (cases_eq b 1) [
    | inl one ↦ absurd (not (g one))
    | inr not_either ↦ omega (arith, not, not_either)
  ]
]

-- packed bits are the same if the same places are set
same_bits : (bits others : List ℕ) → length bits ≡ length others →
    ((k : ℕ) → get_or bits k 0 < 256) → ((k : ℕ) → get_or others k 0 < 256) →
    ((i : ℕ) → IsSet bits i ↔ IsSet others i) → bits ≡ others
same_bits bits others count bytes other_bytes same =
    ext_get_or 0 bits others count (λ k within.
    same_from_bits_below 8 (get_or bits k 0) (get_or others k 0) (bytes k) (other_bytes k) (λ j low.
    let at : (k * 8 + j) / 8 ≡ k = omega arith in
    let place : (k * 8 + j) % 8 ≡ j = omega arith in
    let here = rw (at, place) at (same (k * 8 + j)) in
    same_digit _ _ (bit_at-lt (get_or bits k 0) j) (bit_at-lt (get_or others k 0) j) here.0 here.1))

-- tables of one size whose bits are set together have the same bits
pub same_table_bits : (table other : Table) → IsTable table → IsTable other →
    table.log2_bits ≡ other.log2_bits → ((i : ℕ) → IsSet table.bits i ↔ IsSet other.bits i) →
    table.bits ≡ other.bits
same_table_bits table other is is_other log2_bits same =
    let power : 2 ^ table.log2_bits ≡ 2 ^ other.log2_bits = ap (λ n. 2 ^ n) log2_bits in
    let count : length table.bits ≡ length other.bits =
    omega (arith, power, is.bits, is_other.bits) in
    same_bits table.bits other.bits count is.bytes is_other.bytes same

-- one insert more is counted
one_counted : (before after : Table) (fed : List ℕ) (n : ℕ) →
    Inserts fed before after → before.count ≡ count_after n → after.count ≡ count_after (n + 1)
one_counted before after fed n inserts count =
    inserts.count ∙ ap one_more count ∙ ap (λ k. Some k) (least n)
  where
    least : (n : ℕ) → min (min n (2 ^ 64 - 1) + 1) (2 ^ 64 - 1) ≡ min (n + 1) (2 ^ 64 - 1)
    least n = omega arith

same_once : (table other : Table) (values others : List (List ℕ)) →
    IsTable table → IsTable other → table.seed ≡ other.seed →
    table.log2_bits ≡ other.log2_bits → table.hashes ≡ other.hashes →
    StandsFor table values → StandsFor other others →
    ((fed : List ℕ) → Contains values fed ↔ Contains others fed) →
    (table.bits ≡ other.bits) × (table.count ≡ other.count → table ≡ other)
unfolding StandsFor
same_once table other values others is is_other seed log2_bits hashes stands stands_other same =
    let bits = same_table_bits table other is is_other log2_bits (λ i. (
      (λ set.
          let of = (stands i).0 set in
          (stands_other i).1 (
            of.0,
            (same of.0).0 of.1,
            same_index table other of.0 i seed log2_bits hashes of.2,
          )),
      (λ set.
          let of = (stands_other i).0 set in
          (stands i).1 (
            of.0,
            (same of.0).1 of.1,
            same_index other table of.0 i (sym seed) (sym log2_bits) (sym hashes) of.2,
          )),
    )) in (
      bits,
      (λ count. same_table table other seed log2_bits hashes count bits),
    )

-- ---- the table and the bytes of inserts into an empty table

-- the tables have one seed and the same sizes
record AreAlike (table other : Table) : Type 0 where
  seed : table.seed ≡ other.seed
  log2_bits : table.log2_bits ≡ other.log2_bits
  hashes : table.hashes ≡ other.hashes

-- the table is what these inserts make of an empty one
abbrev IsMadeOf : List (List ℕ) → Table → Type 0
IsMadeOf values table =
    InsertsAll values (empty_table table.seed table.log2_bits table.hashes) table

alike_if_same : {a b : Table} → a ≡ b → AreAlike a b
alike_if_same e = record {
  seed = ap (λ t. t.seed) e;
  log2_bits = ap (λ t. t.log2_bits) e;
  hashes = ap (λ t. t.hashes) e;
}

alike-sym : (a b : Table) → AreAlike a b → AreAlike b a
alike-sym a b alike = record {
  seed = sym alike.seed;
  log2_bits = sym alike.log2_bits;
  hashes = sym alike.hashes;
}

alike-trans : (a b c : Table) → AreAlike a b → AreAlike b c → AreAlike a c
alike-trans a b c first second = record {
  seed = first.seed ∙ second.seed;
  log2_bits = first.log2_bits ∙ second.log2_bits;
  hashes = first.hashes ∙ second.hashes;
}

-- inserts leave the seed and the sizes
all_alike : (values : List (List ℕ)) (before after : Table) → InsertsAll values before after →
    AreAlike before after
all_alike [] before after all = alike_if_same (sym all)
all_alike (fed ∷ values) before after (next, inserts, rest) =
    let first : AreAlike before next = record {
      seed = sym inserts.seed;
      log2_bits = sym inserts.log2_bits;
      hashes = sym inserts.hashes;
    } in
    alike-trans before next after first (all_alike values next after rest)

-- tables of inserts into one table are alike
both_alike : (values others : List (List ℕ)) (start table other : Table) →
    InsertsAll values start table → InsertsAll others start other → AreAlike table other
both_alike values others start table other all all_other =
    alike-trans table start other (alike-sym start table (all_alike values start table all))
    (all_alike others start other all_other)

-- inserts into an empty table make the table of their values
made_of : (seed log2_bits hashes : ℕ) (values : List (List ℕ)) (table : Table) →
    InsertsAll values (empty_table seed log2_bits hashes) table → IsMadeOf values table
made_of seed log2_bits hashes values table all =
    let alike = all_alike values (empty_table seed log2_bits hashes) table all in
    of_same seed log2_bits hashes _ _ _ alike.seed alike.log2_bits alike.hashes all
  where
    of_same : (s l h s' l' h' : ℕ) → s ≡ s' → l ≡ l' → h ≡ h' →
        InsertsAll values (empty_table s l h) table → InsertsAll values (empty_table s' l' h') table
    of_same s l h s' l' h' e f g stands-inserts = rw (← e, ← f, ← g) stands-inserts

-- inserts add to the values that a table stands for, and to its count
all_inserted : (values earlier : List (List ℕ)) (n : ℕ) (before after : Table) →
    InsertsAll values before after → StandsFor before earlier → before.count ≡ count_after n →
    StandsFor after (earlier ++ values) × (after.count ≡ count_after (n + length values))
all_inserted [] earlier n before after all stands count = (
  subst (λ t. StandsFor t (earlier ++ [])) (sym all)
      (subst (StandsFor before) (sym (append-nil earlier)) stands),
  ap (λ t. t.count) all ∙ count ∙ ap count_after (sym (add-zero n)),
)
all_inserted (fed ∷ values) earlier n before after (next, inserts, rest) stands count =
    let stands_next = one_more_value before next fed earlier inserts stands in
    let count_next = one_counted before next fed n inserts count in
    let done = all_inserted values (earlier ++ fed ∷ []) (n + 1) next after rest stands_next
    count_next in (
      subst (StandsFor after) (append_assoc earlier (fed ∷ []) values) done.0,
      done.1 ∙ ap count_after (one n (length values)),
    )
  where
    one : (n m : ℕ) → n + 1 + m ≡ n + suc m
    one n m = omega arith

-- an empty table has no bit set
no_bits : (seed log2_bits hashes i : ℕ) → IsSet (empty_table seed log2_bits hashes).bits i → ⊥
no_bits seed log2_bits hashes i is =
    let zero : bit_at (get_or (replicate {A = ℕ} (byte_count log2_bits) 0) (i / 8) 0) (i % 8) ≡ 0 =
    ap (λ b. bit_at b (i % 8)) (zeros-get (byte_count log2_bits) (i / 8)) ∙ bit_at-zero (i % 8) in
    suc-ne-zero 0 (sym is ∙ zero)

stands-inserts : (values : List (List ℕ)) (table : Table) → IsMadeOf values table →
    StandsFor table values × (table.count ≡ count_after (length values))
stands-inserts values table all =
    let empty = empty_table table.seed table.log2_bits table.hashes in
    let stands = none empty (no_bits table.seed table.log2_bits table.hashes) in
    let done = all_inserted values [] 0 empty table all stands refl in
    (done.0, done.1 ∙ ap count_after (zero-add (length values)))

-- the inserts of the same values into an empty table make one table
made_once : (seed log2_bits hashes : ℕ) (values : List (List ℕ)) (table other : Table) →
    InsertsAll values (empty_table seed log2_bits hashes) table →
    InsertsAll values (empty_table seed log2_bits hashes) other →
    IsTable table → IsTable other → table ≡ other
made_once seed log2_bits hashes values table other all all_other is is_other =
    let one = stands-inserts values table (made_of seed log2_bits hashes values table all) in
    let two = stands-inserts values other (made_of seed log2_bits hashes values other all_other) in
    let same = both_alike values values _ table other all all_other in
    (same_once table other values values is is_other same.seed same.log2_bits same.hashes
    one.0 two.0 (λ fed. ((λ is. is), (λ is. is)))).1 (one.1 ∙ sym two.1)

-- the same inserts into an empty table have one form in bytes
one_form : (seed log2_bits hashes : ℕ) (values : List (List ℕ)) (bytes others : List ℕ) →
    IsFormOfInserts seed log2_bits hashes values bytes →
    IsFormOfInserts seed log2_bits hashes values others → bytes ≡ others
unfolding IsFormOfInserts
one_form seed log2_bits hashes values bytes others (table, is, lies, all)
    (other, is_other, lies_other, all_other) =
    lies ∙ ap form2 (made_once seed log2_bits hashes values table other all all_other is is_other)
    ∙ sym lies_other

pub insert_law : InsertLaw
insert_law = record {
  none = none;
  one_more = one_more_value;
  one_counted = one_counted;
  found = found;
  once = same_once;
  one_form = one_form;
}
