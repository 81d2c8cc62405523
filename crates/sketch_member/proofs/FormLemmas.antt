-- The steps of the reading: bytes that pass them all are the form of a table.
use Rattle.std.proofs.Common.{◌≡◌, ◌⊎◌, ℕ, ◌+◌, ◌-◌, ◌*◌, ◌<◌, ◌≤◌, List, [], ◌∷◌, ◌++◌, length, get_or, take, drop, refl, sym, ap, ◌∙◌, inl, inr, arith, length-drop, Fits, w8, w64, zero, suc}
use Rattle.std.specs.Prelude.{Contains, IfSome, Option, None, Some}
use Rattle.std.specs.Int.{to_le_bytes}
use Rattle.std.proofs.lemmas.List.{take-append-drop, drop-drop, get_or-drop}
use Rattle.std.proofs.lemmas.List.Elements.{All-drop}
use Rattle.datasketches.specs.Bytes.{AreBytes, le, eight}
use Rattle.datasketches.specs.Words.{IsWord}
use Rattle.datasketches.proofs.BytesLemmas.{bytes_known, low_bytes-take, to_le_bytes-is}
use Rattle.sketch_member.specs.declared.fault.Fault.{Fault}
use Rattle.sketch_member.specs.Faults.{AllPass, IsFirstFault, Step, bits_steps, count_number, header_length, kind_steps, number_steps, size_steps, steps}
use Rattle.sketch_member.specs.Form.{IsForm, flag_of, number_of}
use Rattle.sketch_member.specs.Table.{Table, IsTable, byte_count}
use Rattle.sketch_member.proofs.BitLemmas.{whole_bytes}

-- The first fault of two lists of steps is that of the first list, or if all of these pass, of the second.
pub fault-prefix : (count : ℕ) (prefix others : List Step) (fault : Fault) →
    IsFirstFault count prefix fault → IsFirstFault count (prefix ++ others) fault
fault-prefix count [] others fault first = absurd first
fault-prefix count (step ∷ prefix) others fault first = elim first [
  | inl here ↦ inl here
  | inr later ↦ inr (later.0, fault-prefix count prefix others fault later.1)
]

pub fault-later : (count : ℕ) (prefix others : List Step) (fault : Fault) →
    AllPass count prefix → IsFirstFault count others fault → IsFirstFault count (prefix ++ others) fault
fault-later count [] others fault pass first = first
fault-later count (step ∷ prefix) others fault pass first =
    inr (pass.0, fault-later count prefix others fault pass.1 first)

pub all_pass-append : (count : ℕ) (prefix others : List Step) →
    AllPass count prefix → AllPass count others → AllPass count (prefix ++ others)
all_pass-append count [] others pass more = more
all_pass-append count (step ∷ prefix) others pass more =
    (pass.0, all_pass-append count prefix others pass.1 more)

-- one of the two numbers of a list
either : (m n x : ℕ) → Contains (m ∷ n ∷ []) x → (x ≡ m) ⊎ (x ≡ n)
either m n x (zero, within, is) = inl (sym is)
either m n x (suc zero, within, is) = inr (sym is)
either m n x (suc (suc k), within, is) = absurd (omega arith)

-- eight bytes or more are the first eight, and those after them
first_eight : (bytes : List ℕ) → 8 ≤ length bytes → bytes
    ≡ get_or bytes 0 0 ∷ get_or bytes 1 0 ∷ get_or bytes 2 0 ∷ get_or bytes 3 0
    ∷ get_or bytes 4 0 ∷ get_or bytes 5 0 ∷ get_or bytes 6 0 ∷ get_or bytes 7 0 ∷ drop 8 bytes
first_eight [] there = absurd (omega arith)
first_eight (a ∷ []) there = absurd (omega arith)
first_eight (a ∷ b ∷ []) there = absurd (omega arith)
first_eight (a ∷ b ∷ c ∷ []) there = absurd (omega arith)
first_eight (a ∷ b ∷ c ∷ d ∷ []) there = absurd (omega arith)
first_eight (a ∷ b ∷ c ∷ d ∷ e ∷ []) there = absurd (omega arith)
first_eight (a ∷ b ∷ c ∷ d ∷ e ∷ f ∷ []) there = absurd (omega arith)
first_eight (a ∷ b ∷ c ∷ d ∷ e ∷ f ∷ g ∷ []) there = absurd (omega arith)
first_eight (a ∷ b ∷ c ∷ d ∷ e ∷ f ∷ g ∷ h ∷ rest) there = refl

-- the bytes from a place on are the eight of their number, and those after them
next_eight : (bytes : List ℕ) (place : ℕ) → AreBytes bytes → place + 8 ≤ length bytes →
    drop place bytes ≡ eight (le (take 8 (drop place bytes))) ++ drop (place + 8) bytes
next_eight bytes place are there =
    let back : eight (le (take 8 (drop place bytes))) ≡ take 8 (drop place bytes) =
    low_bytes-take 8 (drop place bytes) (All-drop (λ b. b < 256) place bytes are)
    (omega (arith, length-drop place bytes)) in
    sym (take-append-drop 8 (drop place bytes))
    ∙ ap (λ prefix. prefix ++ drop 8 (drop place bytes)) (sym back)
    ∙ ap (λ rest. eight (le (take 8 (drop place bytes))) ++ rest) (drop-drop 8 place bytes)

-- a count of the flag 0
pub unknown_count : (count : Option ℕ) → flag_of count ≡ 0 → count ≡ None
unknown_count None e = refl
unknown_count (Some n) e = cc

-- a table by its bytes
pub record Places (table : Table) (bytes : List ℕ) : Type 0 where
  pub seed : table.seed ≡ le (take 8 (drop 8 bytes))
  pub log2_bits : table.log2_bits ≡ get_or bytes 3 0
  pub hashes : table.hashes ≡ get_or bytes 4 0
  pub flag : flag_of table.count ≡ get_or bytes 5 0
  pub number : number_of table.count ≡ count_number bytes
  pub bits : table.bits ≡ drop (header_length bytes) bytes

-- a table whose parts stand in bytes that pass the steps of the header has them for its form
form_read : (table : Table) (bytes : List ℕ) → AreBytes bytes → Places table bytes →
    AllPass (length bytes) (kind_steps bytes) → AllPass (length bytes) (number_steps bytes) →
    IsForm table bytes
form_read table bytes are p (kind, (version, (family, _))) (flag, (seed, (count, _))) =
    let start : bytes ≡ get_or bytes 0 0 ∷ get_or bytes 1 0 ∷ 200 ∷ table.log2_bits ∷ table.hashes
    ∷ get_or bytes 5 0 ∷ 0 ∷ 0 ∷ eight table.seed ++ drop 16 bytes =
    first_eight bytes flag.0 ∙ rw (
      family.1,
      ← p.log2_bits,
      ← p.hashes,
      flag.1.1,
      flag.1.2,
      next_eight bytes 8 are seed.0,
      ← p.seed,
    ) refl in
    elim (either 2 3 (get_or bytes 0 0) kind.1) [
      | inl two ↦
          let unset : get_or bytes 5 0 ≡ 0 = elim flag.1.0 [
            | inl unset ↦ unset
            | inr one ↦ absurd (omega (arith, two, one.0))
          ] in
          let one : get_or bytes 1 0 ≡ 1 = version.1 ∙ ap (λ n. n - 1) two in
          let bits : table.bits ≡ drop 16 bytes = p.bits ∙ ap (λ n. drop (8 * n) bytes) two in
          inl (unknown_count table.count (p.flag ∙ unset), start ∙ rw (two, one, unset, ← bits) refl)
      | inr three ↦
          let two : get_or bytes 1 0 ≡ 2 = version.1 ∙ ap (λ n. n - 1) three in
          let long : 16 + 8 ≤ length bytes = omega (arith, three, count.0) in
          let bits : table.bits ≡ drop 24 bytes = p.bits ∙ ap (λ n. drop (8 * n) bytes) three in
          let number = p.number ∙ ap (λ n. le (take (8 * n - 16) (drop 16 bytes))) three in
          let back = next_eight bytes 16 are long in
          inr (start ∙ rw (three, two, ← p.flag, back, ← number, ← bits) refl)
    ]

-- a table whose parts are in bytes that pass all steps is a table, and has these bytes for its form
pub table_read : (table : Table) (bytes : List ℕ) → ((k : ℕ) → Fits w8 (get_or bytes k 0)) →
    Places table bytes → IsWord table.seed → IfSome table.count IsWord →
    AllPass (length bytes) (kind_steps bytes) → AllPass (length bytes) (size_steps bytes) →
    AllPass (length bytes) (number_steps bytes) → length table.bits ≡ byte_count table.log2_bits →
    IsTable table × IsForm table bytes
table_read table bytes fit p seed count kind (log2_bits, (hashes, _)) numbers need = (
  record {
    seed = seed;
    log2_bits = rw p.log2_bits log2_bits.1;
    hashes = rw p.hashes hashes.1;
    count = count;
    bits = ap (λ n. n * 8) need ∙ whole_bytes table.log2_bits (omega (arith, p.log2_bits, log2_bits.1.0));
    bytes = λ k. let start = header_length bytes in
        rw (p.bits, get_or-drop start bytes k 0) (fit (start + k)).fits;
  },
  form_read table bytes (bytes_known bytes fit) p kind numbers,
)

-- the steps after the sizes, and after those of the kind
abbrev last_steps : List ℕ → List Step
last_steps bytes =
    number_steps bytes ++ bits_steps bytes (header_length bytes) (byte_count (get_or bytes 3 0))

abbrev later_steps : List ℕ → List Step
later_steps bytes = size_steps bytes ++ last_steps bytes

-- the first fault of a part of the header, where the parts before it pass, is that of all
pub first_fault-kind : (bytes : List ℕ) (fault : Fault) →
    IsFirstFault (length bytes) (kind_steps bytes) fault →
    IsFirstFault (length bytes) (steps bytes) fault
first_fault-kind bytes fault first =
    fault-prefix (length bytes) (kind_steps bytes) (later_steps bytes) fault first

pub first_fault-sizes : (bytes : List ℕ) (fault : Fault) → AllPass (length bytes) (kind_steps bytes) →
    IsFirstFault (length bytes) (size_steps bytes) fault →
    IsFirstFault (length bytes) (steps bytes) fault
first_fault-sizes bytes fault kind first =
    fault-later (length bytes) (kind_steps bytes) (later_steps bytes) fault kind
    (fault-prefix (length bytes) (size_steps bytes) (last_steps bytes) fault first)

-- the first fault of the steps after the sizes, if those before them pass, is that of all
after_sizes : (bytes : List ℕ) (fault : Fault) → AllPass (length bytes) (kind_steps bytes) →
    AllPass (length bytes) (size_steps bytes) →
    IsFirstFault (length bytes) (last_steps bytes) fault →
    IsFirstFault (length bytes) (steps bytes) fault
after_sizes bytes fault kind sizes first =
    fault-later (length bytes) (kind_steps bytes) (later_steps bytes) fault kind
    (fault-later (length bytes) (size_steps bytes) (last_steps bytes) fault sizes first)

pub first_fault-numbers : (bytes : List ℕ) (fault : Fault) → AllPass (length bytes) (kind_steps bytes) →
    AllPass (length bytes) (size_steps bytes) →
    IsFirstFault (length bytes) (number_steps bytes) fault →
    IsFirstFault (length bytes) (steps bytes) fault
first_fault-numbers bytes fault kind sizes first =
    after_sizes bytes fault kind sizes
    (fault-prefix (length bytes) (number_steps bytes) (bits_steps bytes (header_length bytes)
    (byte_count (get_or bytes 3 0))) fault first)

-- If the header passes, the first fault of the bits is the first of all.
pub first_fault-bits : (bytes : List ℕ) (start need : ℕ) (fault : Fault) →
    AllPass (length bytes) (kind_steps bytes) → AllPass (length bytes) (size_steps bytes) →
    AllPass (length bytes) (number_steps bytes) → start ≡ header_length bytes →
    need ≡ byte_count (get_or bytes 3 0) →
    IsFirstFault (length bytes) (bits_steps bytes start need) fault →
    IsFirstFault (length bytes) (steps bytes) fault
first_fault-bits bytes start need fault kind sizes numbers is_start is_need first =
    after_sizes bytes fault kind sizes
    (fault-later (length bytes) (number_steps bytes) (bits_steps bytes (header_length bytes)
    (byte_count (get_or bytes 3 0))) fault numbers (rw (is_start, is_need) at first))

pub ruleset for_read = (first_fault-kind, first_fault-sizes, first_fault-numbers, first_fault-bits)

-- the bytes of a word
pub word_bytes : (n : ℕ) → to_le_bytes w64 n ≡ eight n
word_bytes n = to_le_bytes-is w64 n

pub ruleset for_eight_bytes = (word_bytes)
