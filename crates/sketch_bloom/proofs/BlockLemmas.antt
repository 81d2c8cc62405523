-- Bits of bytes, the mask of a hash, and masks in the blocks of a filter.
use Rattle.std.proofs.Common.{◌≡◌, ◌↔◌, ℕ, zero, suc, ◌+◌, ◌-◌, ◌*◌, ◌/◌, ◌%◌, ◌^◌, ◌<◌, ◌≤◌, List, [], ◌∷◌, cond, ltb, ◌++◌, length, take, drop, map, replicate, get_or, bit_and, bit_or, bit_xor, refl, sym, subst, ◌∙◌, inr, arith, w8, Fits}
use Rattle.std.specs.Int.{bit_at}
use Rattle.std.proofs.Math.Nat.{pow-suc}
use Rattle.std.specs.Int.Bits.{or_shifted_r, or_zero_r, xor_assoc, xor_self, xor_zero_l, xor_zero_r}
use Rattle.std.specs.Simd.Lanes.{zip2, chunk, put_chunk, fold_l, digits_l, number_l}
use Rattle.std.proofs.lemmas.Bool.{cases_lt}
use Rattle.std.proofs.lemmas.Bool.Decides.{nat_tests}
use Rattle.std.proofs.lemmas.List.{append_cancel_left, append_cancel_right, ext_get_or, get_or-map, get_or-replicate, get_or_past, length-replicate, take-append-drop}
use Rattle.std.proofs.lemmas.List.Elements.{All-get_or, All-from_get_or}
use Rattle.datasketches.specs.Bytes.{AreBytes}
use Rattle.std.proofs.lemmas.Nat.{and_mask, le_or_l, le_or_r, one_shl, or_of_8, pow-add, shr-shr, xor_comm}
use Rattle.std.proofs.lemmas.Nat.Bits.{bit_at-pow_same, bit_at-pow_other, bit_at-zero, bit_at_cat_low, bit_at_or, same_from_bits_below}
use Rattle.std.proofs.lemmas.Simd.{get_or-chunk, get_or-put_chunk_above, get_or-put_chunk_at, get_or-put_chunk_below, get_or-zip2, get_or_narrower, length-chunk, length-put_chunk, length-zip2, put_chunk_is}
use Rattle.sketch_bloom.specs.Filter.{Inserts, IsBitOf, IsMaskBit, IsMember, IsSet, Sets, block_of, mask_bit, salt}

-- A rotation by five digits puts the remainder by 32 above the quotient.
pub rotated : (n : ℕ) → n < 2 ^ 64 →
    bit_or (n / 2 ^ 5) (n * 2 ^ 59 % 2 ^ 64) ≡ n % 32 * 2 ^ 59 + n / 2 ^ 5
rotated n fits = rw (shifted n) (or_shifted_r (n % 32) 59 (n / 2 ^ 5) (omega (arith, fits)))
  where
    shifted : (n : ℕ) → n * 2 ^ 59 % 2 ^ 64 ≡ n % 32 * 2 ^ 59
    shifted n = omega arith

-- ---- bits of bytes

-- a bit that is set is a bit of a byte
bit_within : (xs : List ℕ) (i : ℕ) → IsSet xs i → i / 8 < length xs
bit_within xs i set =
    grind (arith, cases_lt (i / 8) (length xs), get_or_past xs (i / 8) 0, bit_at-zero (i % 8))

pub no_bit_of_zeros : (n i : ℕ) → IsSet (replicate n 0) i → ⊥
no_bit_of_zeros n i set =
    let within : i / 8 < n = omega (arith, bit_within (replicate n 0) i set, length-replicate {A = ℕ} n 0) in
    grind (arith, get_or-replicate {A = ℕ} n (i / 8) 0 0 within, bit_at-zero (i % 8))

-- two lists of as many bytes with the same bits are the same
pub same_from_bits : (xs ys : List ℕ) → length xs ≡ length ys → AreBytes xs → AreBytes ys →
    ((i : ℕ) → IsSet xs i ↔ IsSet ys i) → xs ≡ ys
same_from_bits xs ys count x_bytes y_bytes same = ext_get_or 0 xs ys count (λ k within.
    same_from_bits_below 8 (get_or xs k 0) (get_or ys k 0)
    (All-get_or (λ b. b < 256) xs k 0 within x_bytes)
    (All-get_or (λ b. b < 256) ys k 0 (omega arith) y_bytes) (λ j low.
    let byte : (k * 8 + j) / 8 ≡ k = omega arith in
    let digit : (k * 8 + j) % 8 ≡ j = omega arith in
    grind (arith, rw (byte, digit) at (same (k * 8 + j)))))

-- Joining each byte by or with another sets the bits of the others.
sets_by_or : (Bits : ℕ → Type 0) (other : ℕ → ℕ) (before after : List ℕ) →
    ((i : ℕ) → (bit_at (other (i / 8)) (i % 8) ≡ 1) ↔ Bits i) → length after ≡ length before →
    ((k : ℕ) → get_or after k 0 ≡ bit_or (get_or before k 0) (other k)) → Sets Bits before after
sets_by_or Bits other before after is size each = record {
  size = size;
  bits = λ i.
      rw (each (i / 8)) (grind (arith, bit_at_or (get_or before (i / 8) 0) (other (i / 8)) (i % 8), is i));
}

-- for `merge`: the bits of a byte that is joined with another, and of one past the end
pub ruleset for_merge = (bit_at_or, bit_at-zero, get_or_past)

-- ---- the mask of a hash

-- a word of the mask, as the code computes it, and the bytes of all
abbrev pub word_of : ℕ → ℕ → ℕ
word_of hash s = 1 * 2 ^ (bit_and hash 4294967295 * s % 4294967296 / 134217728) % 4294967296

abbrev pub bytes_of : ℕ → List ℕ
bytes_of hash = digits_l 256 32 (number_l (2 ^ 32) (map (word_of hash) salt))

pub byte_fits : (count n k : ℕ) → get_or (digits_l 256 count n) k 0 < 256
byte_fits zero n k = omega arith
byte_fits (suc count) n zero = omega arith
byte_fits (suc count) n (suc k) = byte_fits count (n / 256) k

-- the digits of a byte of a number are digits of the number
pub digit_of_byte : (n k j : ℕ) → j < 8 → bit_at (n / 256 ^ k % 256) j ≡ bit_at n (8 * k + j)
digit_of_byte n k j low =
    let m = n / 2 ^ (8 * k) in
    grind (arith, power k, bit_at_cat_low (m / 256) 8 (m % 256) j, shr-shr n (8 * k) j)
  where
    power : (k : ℕ) → 256 ^ k ≡ 2 ^ (8 * k)
    power zero = refl
    power (suc k) = grind (arith, pow-suc 256 k, power k, pow-add 2 (8 * k) 8)

-- A bit of the mask is set if it is the bit of its word.
mask_digit : (hash i : ℕ) → i < 256 → IsSet (bytes_of hash) i ↔ (i % 32 ≡ mask_bit hash (i / 32))
mask_digit hash i low =
    let bit = mask_bit hash (i / 32) in
    let byte : i / 8 ≡ 4 * (i / 32) + i / 8 % 4 = omega arith in
    let place : 8 * (i / 8 % 4) + i % 8 ≡ i % 32 = omega arith in
    rw (
      byte,
      get_or_narrower (2 ^ 32) 4 256 32 (map (word_of hash) salt) (i / 32) (i / 8 % 4) refl (omega arith)
          (omega arith) (omega arith),
      get_or-map (word_of hash) salt (i / 32) 0 0 (omega arith),
      and_mask hash 32,
      one_shl bit 32 (omega arith),
      digit_of_byte (2 ^ bit) (i / 8 % 4) (i % 8) (omega arith),
      place,
    )
    (grind (arith, bit_at-pow_same bit, bit_at-pow_other bit (i % 32)))

pub mask_bits : (hash i : ℕ) → IsSet (bytes_of hash) i ↔ IsMaskBit hash i
mask_bits hash i = (
  (λ set.
      let low : i < 256 = omega (arith, bit_within (bytes_of hash) i set) in
      (i / 32, omega arith, omega (arith, (mask_digit hash i low).0 set))),
  (λ (w, few, is).
      let same : w ≡ i / 32 = omega arith in
      (mask_digit hash i (omega arith)).1 (omega (arith, rw same at is))),
)

-- ---- what the code of a lookup tests

-- lists of one length are the same exactly if no byte of their xor has a digit
fold_is_zero : (xs ys : List ℕ) (n : ℕ) → length xs ≡ length ys →
    (fold_l bit_or n (zip2 bit_xor xs ys) ≡ 0) ↔ ((n ≡ 0) × (xs ≡ ys))
fold_is_zero [] [] n count = ((λ none. (none, refl)), (λ both. both.0))
fold_is_zero [] (y ∷ ys) n count = absurd (omega arith)
fold_is_zero (x ∷ xs) [] n count = absurd (omega arith)
fold_is_zero (x ∷ xs) (y ∷ ys) n count =
    let rest = fold_is_zero xs ys (bit_or n (bit_xor x y)) (omega arith) in
    grind (arith, rest, le_or_l, le_or_r, or_zero_r 0, xor_assoc x y y, xor_self, xor_zero_l, xor_zero_r)

zip2_xor_comm : (xs ys : List ℕ) → zip2 bit_xor xs ys ≡ zip2 bit_xor ys xs
zip2_xor_comm [] [] = refl
zip2_xor_comm [] (y ∷ ys) = refl
zip2_xor_comm (x ∷ xs) [] = refl
zip2_xor_comm (x ∷ xs) (y ∷ ys) = rw (xor_comm x y, zip2_xor_comm xs ys) refl

-- Writing a block changes nothing exactly if the same block was there.
put_same : (start n : ℕ) (xs ys : List ℕ) → length ys ≡ n → start + n ≤ length xs →
    (put_chunk start xs ys ≡ xs) ↔ (ys ≡ chunk start n xs)
put_same start n xs ys long inside =
    let rest = drop n (drop start xs) in
    grind (
      arith,
      put_chunk_is start xs ys,
      take-append-drop start xs,
      take-append-drop n (drop start xs),
      append_cancel_left (take start xs) (ys ++ rest) (chunk start n xs ++ rest),
      append_cancel_right ys (chunk start n xs) rest,
    )

-- ---- masks in a block

-- byte k of a mask that is placed at the start of a block: 0 outside of the block
abbrev placed : ℕ → List ℕ → ℕ → ℕ
placed start mask k = cond (ltb k start) 0 (get_or mask (k - start) 0)

-- a block that is joined with a mask, and the filter with that block
abbrev pub joined : ℕ → List ℕ → List ℕ → List ℕ
joined start mask filter = zip2 bit_or (chunk start 32 filter) mask

abbrev pub joined_in : ℕ → List ℕ → List ℕ → List ℕ
joined_in start mask filter = put_chunk start filter (joined start mask filter)

module _ (hash start : ℕ) (mask filter : List ℕ) (at : start ≡ block_of (length filter / 32) hash * 32)
    (inside : start + 32 ≤ length filter) (long : length mask ≡ 32)
    (is_mask : (i : ℕ) → IsSet mask i ↔ IsMaskBit hash i) where
  -- The bits of the placed mask are the bits of the hash.
  placed_bits : (i : ℕ) →
      (bit_at (placed start mask (i / 8)) (i % 8) ≡ 1) ↔ IsBitOf (length filter / 32) hash i
  unfolding IsBitOf
  placed_bits i = (
    (λ set.
        let late : start * 8 ≤ i = grind (arith, nat_tests, bit_at-zero (i % 8)) in
        let b = i - start * 8 in
        let byte : b / 8 ≡ i / 8 - start = omega arith in
        let digit : b % 8 ≡ i % 8 = omega arith in
        (b, (is_mask b).0 (rw (byte, digit) (grind (arith, nat_tests))), omega arith)),
    (λ (b, is, place).
        let byte : i / 8 - start ≡ b / 8 = omega arith in
        let digit : i % 8 ≡ b % 8 = omega arith in
        rw (byte, digit) (grind (arith, nat_tests, (is_mask b).1))),
  )

  -- Joining the block joins each byte of the filter with the placed mask.
  joined_byte : (k : ℕ) →
      get_or (joined_in start mask filter) k 0 ≡ bit_or (get_or filter k 0) (placed start mask k)
  joined_byte k =
      let block = chunk start 32 filter in
      grind (
        arith,
        nat_tests,
        length-chunk start 32 filter inside,
        length-zip2 bit_or block mask,
        get_or-zip2 bit_or block mask (k - start) 0 0 0,
        get_or-chunk start 32 filter (k - start) 0,
        get_or-put_chunk_below {X = ℕ},
        get_or-put_chunk_at start filter (joined start mask filter) (k - start) 0,
        get_or-put_chunk_above {X = ℕ},
        get_or_past mask (k - start) 0,
        or_zero_r (get_or filter k 0),
      )

  pub inserted : Inserts hash filter (joined_in start mask filter)
  inserted = sets_by_or (IsBitOf (length filter / 32) hash) (placed start mask) filter
      (joined_in start mask filter) placed_bits (length-put_chunk start filter (joined start mask filter))
      joined_byte

  -- A mask is in a block exactly if joining them changes nothing.
  pub is_member : ((k : ℕ) → Fits w8 (get_or filter k 0)) → ((k : ℕ) → get_or mask k 0 < 256) →
      (fold_l bit_or 0 (zip2 bit_xor (joined start mask filter) (chunk start 32 filter)) ≡ 0)
      ↔ IsMember filter hash
  is_member bytes mask_bytes =
      let part = length-chunk start 32 filter inside in
      let size = length-zip2 bit_or (chunk start 32 filter) mask (part ∙ sym long) in
      let none = fold_is_zero (joined start mask filter) (chunk start 32 filter) 0 size in
      let same = put_same start 32 filter (joined start mask filter) (size ∙ part) inside in (
        (λ zero i bit. subst (λ l. IsSet l i) (same.1 (none.0 zero).1) ((inserted.bits i).1 (inr bit))),
        (λ member. none.1 (
          refl,
          same.0 (same_from_bits (joined_in start mask filter) filter inserted.size
              (All-from_get_or (λ b. b < 256) (joined_in start mask filter) 0 (λ k _.
              rw (joined_byte k)
              (or_of_8 (get_or filter k 0) (placed start mask k) (bytes k).fits
              (grind (arith, nat_tests, mask_bytes (k - start))))))
              (All-from_get_or (λ b. b < 256) filter 0 (λ k _. (bytes k).fits))
              (λ i. grind (arith, inserted.bits i, member i))),
        )),
      )

  -- the same of the xor with its sides exchanged
  pub is_member_turned : ((k : ℕ) → Fits w8 (get_or filter k 0)) → ((k : ℕ) → get_or mask k 0 < 256) →
      (fold_l bit_or 0 (zip2 bit_xor (chunk start 32 filter) (joined start mask filter)) ≡ 0)
      ↔ IsMember filter hash
  is_member_turned bytes mask_bytes =
      rw (zip2_xor_comm (chunk start 32 filter) (joined start mask filter)) (is_member bytes mask_bytes)

-- for `is_in`: the test, with the sides of its xor in either order
pub ruleset for_is_in = (is_member, is_member_turned)
