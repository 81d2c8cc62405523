-- Variable-length numbers, and headers.
use Rattle.std.proofs.Common.{◌≡◌, ℕ, zero, suc, ◌+◌, ◌*◌, ◌/◌, ◌^◌, ◌<◌, ◌≤◌, ◌-◌, List, ◌++◌, length, drop, take, get_or, refl, arith, append_assoc, length-append}
use Rattle.std.proofs.Math.Nat.{pow-suc}
use borrow.Rule.Slice.PartMut.{put_mid}
use Rattle.std.proofs.lemmas.Bool.Decides.{nat_tests}
use Rattle.std.proofs.lemmas.Grind.{common_steps, get_or_after_one}
use Rattle.std.proofs.lemmas.List.{append_cancel_left, length-take-le}
use Rattle.sketch_bloom.specs.Header.{HeaderLaw, IsHeaderLength, header, number_at, number_field, union_fields, varint}

length-varint : (more n : ℕ) → length (varint more n) ≤ suc more
unfolding varint
length-varint zero n = omega arith
length-varint (suc more) n = grind (arith, nat_tests, length-varint more (n / 128))

-- a header is at most 19 bytes
pub header_fits : (bytes : ℕ) → length (header bytes) ≤ 19
header_fits bytes =
    omega (arith, length-varint 4 (bytes * 2), length-append (varint 4 (bytes * 2)) union_fields)

-- the number at the start of bytes, of which at most `most` are read
abbrev number_of : ℕ → List ℕ → ℕ
number_of zero bytes = 0
number_of (suc most) bytes = number_at (get_or bytes 0 0) (number_of most (drop 1 bytes))

-- a number that was written is read back, whatever comes after it
number_of_varint : (more n : ℕ) (after : List ℕ) → n < 128 ^ suc more →
    number_of (suc more) (varint more n ++ after) ≡ n
unfolding varint
number_of_varint zero n after small = grind (arith, nat_tests, pow-suc 128 zero)
number_of_varint (suc more) n after small =
    grind (arith, nat_tests, number_of_varint more (n / 128) after, pow-suc 128 (suc more))

-- the number after the first byte of a header is twice the length
number_of_header : (bytes : ℕ) (input after : List ℕ) → IsHeaderLength bytes → input ≡ header bytes ++ after →
    number_of 5 (drop 1 input) ≡ bytes * 2
number_of_header bytes input after is e =
    rw (e, append_assoc (varint 4 (bytes * 2)) union_fields after)
    (number_of_varint 4 (bytes * 2) (union_fields ++ after) (omega (arith, is.1)))

pub header_law : HeaderLaw
header_law = record {
  once = λ bytes other after others is is_other e.
      let here = number_of_header bytes (header bytes ++ after) after is refl in
      let there = number_of_header other (header bytes ++ after) others is_other e in
      let same : bytes ≡ other = omega arith in
      (same, append_cancel_left (header bytes) after others (rw (← same) at e));
}

-- ---- what the code reads and writes

-- the first field and the others make the header
pub header_written : (bytes count : ℕ) (number fields out : List ℕ) → length number ≡ 6 →
    count ≤ 6 → take count number ≡ number_field bytes → fields ≡ union_fields →
    (count + 13 ≡ length (header bytes))
    × (put_mid count (count + 13 - count) (number ++ drop 6 out) fields
    ≡ header bytes ++ drop (count + 13) out)
header_written bytes count number fields out long few field others =
    grind (arith, common_steps, length-take-le count number)

-- the number of a header, byte by byte
pub header_number : (bytes : ℕ) (input after : List ℕ) → IsHeaderLength bytes →
    input ≡ header bytes ++ after →
    (6 ≤ length input)
    × (number_at (get_or input 1 0) (number_at (get_or input 2 0) (number_at (get_or input 3 0)
    (number_at (get_or input 4 0) (number_at (get_or input 5 0) 0)))) ≡ bytes * 2)
header_number bytes input after is e = (
  grind (arith, common_steps, e, length-append),
  simp get_or_after_one at (number_of_header bytes input after is e),
)
