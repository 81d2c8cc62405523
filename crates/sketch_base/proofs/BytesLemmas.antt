-- What the definitions of bytes and numbers give: the first byte apart, bounds, there and back, and the
-- library's `to_le_bytes`.
use Rattle.std.proofs.Common.{◌≡◌, ℕ, zero, suc, ◌+◌, ◌*◌, ◌/◌, ◌%◌, ◌^◌, ◌<◌, ◌≤◌, List, [], ◌∷◌, length, take, get_or, Fits, w8, refl, sym, ap, ◌∙◌, arith, add-one, length-take-le}
use Rattle.std.proofs.Math.Nat.{pow-suc, div-div-eq-div-mul, one-le-pow, mod-eq_of_lt}
use Rattle.std.proofs.Math.Arith.{mod-mul}
use Rattle.std.proofs.lemmas.List.Elements.{All-nil, All-cons, All-head, All-tail, All-take, All-from_get_or}
use Rattle.std.specs.Int.{byte_at, bytes_low_first, to_le_bytes, Width, byte_len}
use Rattle.sketch_base.specs.Bytes.{AreBytes, weighted_from, le, low_bytes}

-- the predicate of `AreBytes`
abbrev pub IsByte : ℕ → Type 0
IsByte b = b < 256

-- what is known of a slice of bytes that a function takes
pub bytes_known : (bytes : List ℕ) → ((i : ℕ) → Fits w8 (get_or bytes i 0)) → AreBytes bytes
bytes_known bytes h = All-from_get_or IsByte bytes 0 (λ i l. (h i).fits)

-- each byte is worth 256 times as much one place on
pub weighted_from-suc : (bytes : List ℕ) (i : ℕ) → weighted_from (i + 1) bytes ≡ 256 * weighted_from i bytes
weighted_from-suc [] i = refl
weighted_from-suc (b ∷ bytes) i =
    let power : 256 ^ (i + 1) ≡ 256 ^ i * 256 = rw add-one (pow-suc 256 i) in
    one_place b (256 ^ i) (256 ^ (i + 1)) _ _ power (weighted_from-suc bytes (i + 1))
  where
    one_place : (b p q v w : ℕ) → q ≡ p * 256 → w ≡ 256 * v → b * q + w ≡ 256 * (b * p + v)
    one_place b p q v w e f = rw (e, f) (omega arith)

-- the first byte counts as it is, the others 256 times
pub le-cons : (b : ℕ) (bytes : List ℕ) → le (b ∷ bytes) ≡ b + 256 * le bytes
le-cons b bytes = let e = weighted_from-suc bytes 0 in omega arith

-- n bytes stand for a number below 256 ^ n
pub le-lt : (bytes : List ℕ) → AreBytes bytes → le bytes < 256 ^ length bytes
le-lt [] h = omega arith
le-lt (b ∷ bytes) h =
    let first = All-head IsByte b bytes h in
    let others = le-lt bytes (All-tail IsByte b bytes h) in
    rw (le-cons b bytes, pow-suc) (below b (le bytes) (256 ^ length bytes) first others)
  where
    below : (b n p : ℕ) → b < 256 → n < p → b + 256 * n < p * 256
    below b n p h k = omega arith

-- a number's lowest bytes are bytes
pub low_bytes-are : (count n : ℕ) → AreBytes (low_bytes count n)
low_bytes-are zero n = All-nil IsByte
low_bytes-are (suc count) n =
    let others = low_bytes-are count (n / 256) in
    All-cons IsByte (n % 256) (low_bytes count (n / 256)) (omega arith) others

-- the number of a number's lowest bytes
le-low_bytes : (count n : ℕ) → le (low_bytes count n) ≡ n % 256 ^ count
le-low_bytes zero n = omega arith
le-low_bytes (suc count) n =
    let others = le-low_bytes count (n / 256) in
    let split = mod-mul n {m = 256 ^ count} {c = 256} (one-le-pow count 256 (omega arith)) (omega arith) in
    le-cons (n % 256) (low_bytes count (n / 256)) ∙ ap (λ v. n % 256 + 256 * v) others
    ∙ swap-sum (n % 256) (n / 256 % 256 ^ count) ∙ sym split ∙ ap (λ p. n % p) (sym (pow-suc 256 count))
  where
    swap-sum : (a b : ℕ) → a + 256 * b ≡ b * 256 + a
    swap-sum a b = omega arith

-- a number below 256 ^ n has n bytes that give it back
pub le-back : (count n : ℕ) → n < 256 ^ count → le (low_bytes count n) ≡ n
le-back count n small = le-low_bytes count n ∙ mod-eq_of_lt small

pub length-low_bytes : (count n : ℕ) → length (low_bytes count n) ≡ count
length-low_bytes zero n = refl
length-low_bytes (suc count) n = ap suc (length-low_bytes count (n / 256))

-- a list of bytes is the lowest bytes of its number
pub low_bytes-le : (bytes : List ℕ) → AreBytes bytes → low_bytes (length bytes) (le bytes) ≡ bytes
low_bytes-le [] h = refl
low_bytes-le (b ∷ bytes) h =
    let first = All-head IsByte b bytes h in
    let others = low_bytes-le bytes (All-tail IsByte b bytes h) in
    let low : (b + 256 * le bytes) % 256 ≡ b = omega arith in
    let high : (b + 256 * le bytes) / 256 ≡ le bytes = omega arith in
    rw (le-cons b bytes, low, high, others) refl

-- a list of `count` bytes is that many lowest bytes of its number
pub le-again : (count : ℕ) (bytes : List ℕ) → AreBytes bytes → length bytes ≡ count →
    low_bytes count (le bytes) ≡ bytes
le-again count bytes h is = ap (λ n. low_bytes n (le bytes)) (sym is) ∙ low_bytes-le bytes h

-- the first bytes, as the lowest of their number
pub low_bytes-take : (count : ℕ) (bytes : List ℕ) → AreBytes bytes → count ≤ length bytes →
    low_bytes count (le (take count bytes)) ≡ take count bytes
low_bytes-take count bytes b h =
    le-again count (take count bytes) (All-take IsByte count bytes b) (length-take-le count bytes h)

-- the library's bytes of a number, from any place on
bytes_low_first-is : (i count n : ℕ) → bytes_low_first i count n ≡ low_bytes count (n / 256 ^ i)
bytes_low_first-is i zero n = refl
bytes_low_first-is i (suc count) n =
    let others = bytes_low_first-is (suc i) count n in
    let further : n / 256 ^ i / 256 ≡ n / 256 ^ suc i =
    div-div-eq-div-mul n (256 ^ i) 256 ∙ ap (λ p. n / p) (sym (pow-suc 256 i)) in
    rw (others, further, byte_at-is i n) refl
  where
    byte_at-is : (i n : ℕ) → byte_at i n ≡ n / 256 ^ i % 256
    byte_at-is zero n = omega arith
    byte_at-is (suc i) n = refl

pub to_le_bytes-is : (w : Width) (n : ℕ) → to_le_bytes w n ≡ low_bytes (byte_len w) n
to_le_bytes-is w n = bytes_low_first-is 0 (byte_len w) n ∙ ap (low_bytes (byte_len w)) (omega arith)
