-- Numbers of lists of bytes: joined, cut, and as a block's two words.
use Rattle.std.proofs.Common.{◌≡◌, ℕ, zero, suc, ◌+◌, ◌-◌, ◌*◌, ◌/◌, ◌%◌, ◌^◌, ◌<◌, ◌≤◌, List, [], ◌∷◌, ◌++◌, length, take, drop, replicate, refl, sym, ap, ap₂, ◌∙◌, arith, subst, length-append, length-drop, zero-add, lt_of_lt_of_le, one-mul, min, inl, inr, add_comm, sub-add_cancel, get_or, w8, Fits}
use Rattle.std.proofs.Math.Nat.{pow-suc, suc-add, mod-eq_of_lt, div-eq_of_lt, add-mul-mod_self_right, add-mul-div_right, one-le-pow, pow-le-pow_right, min-eq_left, min-eq_right}
use Rattle.std.proofs.Math.Pow.{pow-lt}
use Rattle.std.proofs.lemmas.Bool.{cases_lt}
use Rattle.std.proofs.lemmas.Nat.{pow-add, shl_whole, shr_le}
use Rattle.std.specs.Int.Bits.{bit_or, or_shifted_r}
use Rattle.std.proofs.lemmas.List.{length-take, length-take-le, take-append-drop, drop-drop, take-take, length-replicate, take_rest, take_all, take_at, drop_at}
use Rattle.std.proofs.lemmas.List.Elements.{All-append, All-take, All-drop, All-replicate}
use Rattle.sketch_base.specs.Bytes.{AreBytes, le, low_bytes}
use Rattle.sketch_base.proofs.BytesLemmas.{le-cons, le-lt, low_bytes-are, le-back, le-again, length-low_bytes, low_bytes-le, bytes_known, IsByte}
use Rattle.sketch_hash.specs.Murmur.{block_words}
use Rattle.sketch_hash.specs.Laws.{IsBlock}
use Rattle.sketch_hash.specs.Pieces.{word_at}
use Rattle.sketch_hash.proofs.PiecesLemmas.{IsPiece}

-- the first eight of a block's bytes, and the last
pub first_half : (bytes : List ℕ) → IsBlock bytes → IsPiece 8 (take 8 bytes)
first_half bytes h = (All-take IsByte 8 bytes h.0, length-take-le 8 bytes (omega arith))

pub second_half : (bytes : List ℕ) → IsBlock bytes → IsPiece 8 (drop 8 bytes)
second_half bytes h = (All-drop IsByte 8 bytes h.0, length-drop 8 bytes ∙ omega arith)

-- the two words of two joined halves
pub joined_words : (low high : List ℕ) → length low ≡ 8 → length high ≡ 8 →
    block_words (low ++ high) ≡ (le low, le high)
joined_words low high e f =
    let second = ap (take 8) (drop_at low high 8 e) ∙ take_all 8 high (omega arith) in
    ap (λ t. (le t, word_at 1 (low ++ high))) (take_at low high 8 e) ∙ ap (λ t. (le low, le t)) second

-- a block's words are the numbers of its halves
pub halves : (bytes : List ℕ) → IsBlock bytes → block_words bytes ≡ (le (take 8 bytes), le (drop 8 bytes))
halves bytes h =
    ap block_words (sym (take-append-drop 8 bytes))
    ∙ joined_words (take 8 bytes) (drop 8 bytes) (first_half bytes h).1 (second_half bytes h).1

-- eight places are a byte
pub pow_eight : (n : ℕ) → 2 ^ (8 * n) ≡ 256 ^ n
pow_eight zero = refl
pow_eight (suc n) =
    let e : 8 * suc n ≡ 8 * n + 8 = omega arith in
    ap (λ k. 2 ^ k) e ∙ pow-add 2 (8 * n) 8 ∙ ap (λ p. p * 256) (pow_eight n) ∙ sym (pow-suc 256 n)

-- the number of joined bytes
le-append : (xs ys : List ℕ) → le (xs ++ ys) ≡ le xs + le ys * 256 ^ length xs
le-append [] ys = omega arith
le-append (x ∷ xs) ys =
    rw (le-cons x (xs ++ ys), le-cons x xs, le-append xs ys, pow-suc 256 (length xs))
    (spread x (le xs) (le ys) (256 ^ length xs))
  where
    spread : (x a b p : ℕ) → x + 256 * (a + b * p) ≡ (x + 256 * a) + b * (p * 256)
    spread x a b p = omega arith

-- the number of the first bytes, and that of the bytes after them
pub le-cut : (n : ℕ) (bytes : List ℕ) → n ≤ length bytes →
    le bytes ≡ le (take n bytes) + le (drop n bytes) * 256 ^ n
le-cut n bytes h =
    ap le (sym (take-append-drop n bytes)) ∙ le-append (take n bytes) (drop n bytes)
    ∙ ap (λ k. le (take n bytes) + le (drop n bytes) * 256 ^ k) (length-take-le n bytes h)

pub le_take-lt : (n : ℕ) (bytes : List ℕ) → AreBytes bytes → n ≤ length bytes → le (take n bytes) < 256 ^ n
le_take-lt n bytes b h =
    subst (λ k. le (take n bytes) < 256 ^ k) (length-take-le n bytes h)
    (le-lt (take n bytes) (All-take IsByte n bytes b))

-- the number of the bytes after the first ones, as a quotient
pub le-drop : (n : ℕ) (bytes : List ℕ) → AreBytes bytes → n ≤ length bytes →
    le (drop n bytes) ≡ le bytes / 256 ^ n
le-drop n bytes b h =
    let small = div-eq_of_lt (le_take-lt n bytes b h) in
    sym (ap (λ v. v / 256 ^ n) (le-cut n bytes h)
    ∙ add-mul-div_right (le (take n bytes)) (le (drop n bytes)) (one-le-pow n 256 (omega arith))
    ∙ ap (λ v. v + le (drop n bytes)) small ∙ zero-add (le (drop n bytes)))

le-take : (n : ℕ) (bytes : List ℕ) → AreBytes bytes → n ≤ length bytes →
    le (take n bytes) ≡ le bytes % 256 ^ n
le-take n bytes b h =
    sym (ap (λ v. v % 256 ^ n) (le-cut n bytes h)
    ∙ add-mul-mod_self_right (le (take n bytes)) (le (drop n bytes)) (256 ^ n)
    ∙ mod-eq_of_lt (le_take-lt n bytes b h))

-- the number of the first bytes, as a remainder of words of 128 bits
pub le-prefix : (n : ℕ) (bytes : List ℕ) → AreBytes bytes → n < 16 → n ≤ length bytes →
    le bytes % (1 * 2 ^ (8 * n) % 2 ^ 128) ≡ le (take n bytes)
le-prefix n bytes b low h =
    let less : 8 * n < 128 = omega (arith, low) in
    let below : 1 * 2 ^ (8 * n) < 2 ^ 128 = rw (one-mul (2 ^ (8 * n))) (pow-lt less) in
    ap (λ m. le bytes % m) (mod-eq_of_lt below ∙ one-mul (2 ^ (8 * n)) ∙ pow_eight n)
    ∙ sym (le-take n bytes b h)

-- the number of bytes, from those of their first and of their last w bytes, which may overlap
pub le-ends : (w : ℕ) (bytes : List ℕ) → AreBytes bytes → w ≤ length bytes → length bytes ≤ w + w →
    le (take w bytes) + le (drop (length bytes - w) bytes) / 256 ^ (w + w - length bytes) * 256 ^ w ≡ le bytes
le-ends w bytes b low high =
    let n : ℕ = length bytes in
    let back : List ℕ = drop (n - w) bytes in
    let long : length back ≡ n - (n - w) = length-drop (n - w) bytes in
    let within : w + w - n ≤ length back = omega (arith, long) in
    let all : (n - w) + (w + w - n) ≡ w = omega arith in
    let dropped : drop (w + w - n) back ≡ drop w bytes = drop-drop (w + w - n) (n - w) bytes
    ∙ ap (λ k. drop k bytes) all in
    let quotient = le-drop (w + w - n) back (All-drop IsByte (n - w) bytes b) within in
    ap (λ v. le (take w bytes) + v * 256 ^ w) (sym quotient ∙ ap le dropped) ∙ sym (le-cut w bytes low)

-- the number of 4 to 7 bytes, from those of their first and of their last four, which ranges cut
pub fours_le : (bytes : List ℕ) → ((i : ℕ) → Fits w8 (get_or bytes i 0)) → 4 ≤ length bytes →
    length bytes < 8 →
    le (take 4 bytes) + le (take (length bytes - (length bytes - 4)) (drop (length bytes - 4) bytes))
    / 256 ^ (4 + 4 - length bytes) * 256 ^ 4 ≡ le bytes
fours_le bytes known low high =
    let all = le-ends 4 bytes (bytes_known bytes known) low (omega (arith, high)) in
    rw (take_rest bytes (length bytes - 4)) all

-- the sum in `le-ends`, from shifts and an or
pub combined : (w count first last shift : ℕ) → w ≤ 4 → first < 256 ^ w → last < 2 ^ 32 →
    shift ≡ 8 * (w + w - count) →
    bit_or first (last / 2 ^ shift * 2 ^ (8 * w) % 2 ^ 64)
    ≡ first + last / 256 ^ (w + w - count) * 256 ^ w
combined w count first last shift narrow low high is =
    let s = w + w - count in
    let upper : ℕ = last / 2 ^ (8 * s) in
    let less = shr_le last (8 * s) in
    let small : upper < 2 ^ 32 = omega (arith, high, less) in
    let within : 32 + 8 * w ≤ 64 = omega (arith, narrow) in
    let whole = shl_whole upper 32 (8 * w) 64 small within in
    let below : first < 2 ^ (8 * w) = subst (λ p. first < p) (sym (pow_eight w)) low in
    let joined : upper * 2 ^ (8 * w) + first ≡ first + upper * 256 ^ w =
    add_comm (upper * 2 ^ (8 * w)) first ∙ ap (λ p. first + upper * p) (pow_eight w) in
    rw (is, whole, or_shifted_r upper (8 * w) first below)
    (joined ∙ ap (λ p. first + last / p * 256 ^ w) (pow_eight s))

-- the words of the number that two words make are those two
pub number-words : (low high : ℕ) → low < 2 ^ 64 →
    ((low + high * 2 ^ 64) % 2 ^ 64 ≡ low) × ((low + high * 2 ^ 64) / 2 ^ 64 ≡ high)
number-words low high p = (omega arith, omega arith)

-- at most eight bytes are a word
pub le-word : (bytes : List ℕ) → AreBytes bytes → length bytes ≤ 8 → le bytes < 2 ^ 64
le-word bytes b h = lt_of_lt_of_le (le-lt bytes b) (pow-le-pow_right {n = 256} (omega arith) h)

-- The two words of fewer than 16 bytes, as they are read. Of more than eight, the second is cut from
-- the last eight.
pub few_le : (bytes : List ℕ) → ((i : ℕ) → Fits w8 (get_or bytes i 0)) → length bytes ≤ 8 →
    ◌≡◌ {A = ℕ × ℕ} (le bytes % 2 ^ 64, le bytes / 2 ^ 64) (le bytes, 0)
few_le bytes known h =
    let below = le-word bytes (bytes_known bytes known) h in
    rw (mod-eq_of_lt below, div-eq_of_lt below) refl

pub last_le : (bytes : List ℕ) → ((i : ℕ) → Fits w8 (get_or bytes i 0)) → 8 < length bytes →
    length bytes < 16 →
    ◌≡◌ {A = ℕ × ℕ} (le bytes % 2 ^ 64, le bytes / 2 ^ 64) (
      le (take 8 bytes),
      le (take (length bytes - (length bytes - 8)) (drop (length bytes - 8) bytes))
          / 2 ^ (8 * (16 - length bytes)),
    )
last_le bytes known low high =
    let n : ℕ = length bytes in
    let are = bytes_known bytes known in
    let first : ℕ = le (take 8 bytes) in
    let last : ℕ = le (drop (n - 8) bytes) in
    let below : first < 2 ^ 64 = le_take-lt 8 bytes are (omega arith) in
    let all : first + last / 256 ^ (8 + 8 - n) * 2 ^ 64 ≡ le bytes =
    le-ends 8 bytes are (omega arith) (omega arith) in
    let words = number-words first (last / 256 ^ (8 + 8 - n)) below in
    rw (take_rest bytes (n - 8), pow_eight (16 - n), sym all) (ap₂ (λ x y. (x, y)) words.0 words.1)

-- a number's lowest bytes, and bytes joined after them
le-joined : (count n : ℕ) (bytes : List ℕ) → n < 256 ^ count →
    le (low_bytes count n ++ bytes) ≡ n + le bytes * 256 ^ count
le-joined count n bytes h =
    le-append (low_bytes count n) bytes
    ∙ ap (λ v. v + le bytes * 256 ^ length (low_bytes count n)) (le-back count n h)
    ∙ ap (λ k. n + le bytes * 256 ^ k) (length-low_bytes count n)

joined-are : (count n : ℕ) (bytes : List ℕ) → AreBytes bytes → AreBytes (low_bytes count n ++ bytes)
joined-are count n bytes b = All-append IsByte (low_bytes count n) bytes (low_bytes-are count n) b

joined-length : (count n : ℕ) (bytes : List ℕ) → length (low_bytes count n ++ bytes) ≡ count + length bytes
joined-length count n bytes = length-append (low_bytes count n) bytes
    ∙ ap (λ k. k + length bytes) (length-low_bytes count n)

pub low_bytes-joined : (count n : ℕ) (bytes : List ℕ) → AreBytes bytes → n < 256 ^ count →
    low_bytes (count + length bytes) (n + le bytes * 256 ^ count) ≡ low_bytes count n ++ bytes
low_bytes-joined count n bytes b h =
    ap (low_bytes (count + length bytes)) (sym (le-joined count n bytes h))
    ∙ le-again _ (low_bytes count n ++ bytes) (joined-are count n bytes b) (joined-length count n bytes)

pub joined-lt : (count n : ℕ) (bytes : List ℕ) → AreBytes bytes → n < 256 ^ count →
    n + le bytes * 256 ^ count < 256 ^ (count + length bytes)
joined-lt count n bytes b h =
    subst (λ v. v < 256 ^ (count + length bytes)) (le-joined count n bytes h)
    (subst (λ k. le (low_bytes count n ++ bytes) < 256 ^ k) (joined-length count n bytes)
    (le-lt (low_bytes count n ++ bytes) (joined-are count n bytes b)))

-- bytes after those of a number, 16 or more in all: modulo 2 ^ 128 those after the 16th drop out
le-block : (count n : ℕ) (bytes : List ℕ) → AreBytes bytes → n < 256 ^ count → count ≤ 16 →
    16 ≤ count + length bytes →
    (n + le (take 16 bytes) * 256 ^ count) % 2 ^ 128 ≡ le (low_bytes count n ++ take (16 - count) bytes)
le-block count n bytes b h low high =
    let missing : ℕ = 16 - count in
    let prefix : List ℕ = take missing bytes in
    let wide : List ℕ = take 16 bytes in
    let upper : ℕ = le (drop missing wide) in
    let missing_len : length prefix ≡ missing = length-take-le missing bytes (omega arith) in
    let within : missing ≤ length wide = missing_within missing bytes (omega arith) (omega arith) in
    let cut : le wide ≡ le prefix + upper * 256 ^ missing =
    le-cut missing wide within
    ∙ ap (λ t. le t + upper * 256 ^ missing) (take-take missing 16 bytes (omega arith)) in
    let all : 256 ^ missing * 256 ^ count ≡ 2 ^ 128 =
    sym (pow-add 256 missing count) ∙ ap (λ k. 256 ^ k) (sub-add_cancel low) in
    let block : List ℕ = low_bytes count n ++ prefix in
    let prefix_are : AreBytes prefix = All-take IsByte missing bytes b in
    let size : length block ≡ 16 = joined-length count n prefix ∙ omega (arith, missing_len) in
    let below : le block < 2 ^ 128 =
    subst (λ k. le block < 256 ^ k) size (le-lt block (joined-are count n prefix prefix_are)) in
    ap (λ v. (n + v * 256 ^ count) % 2 ^ 128) cut
    ∙ ap (λ v. v % 2 ^ 128) (spread n (le prefix) upper (256 ^ missing) (256 ^ count)
    ∙ ap (λ p. n + le prefix * 256 ^ count + upper * p) all
    ∙ ap (λ v. v + upper * 2 ^ 128) (sym (le-joined count n prefix h)))
    ∙ add-mul-mod_self_right (le block) upper (2 ^ 128) ∙ mod-eq_of_lt below
  where
    spread : (n a b p q : ℕ) → n + (a + b * p) * q ≡ n + a * q + b * (p * q)
    spread n a b p q = omega arith

    missing_within : (k : ℕ) (bytes : List ℕ) → k ≤ 16 → k ≤ length bytes → k ≤ length (take 16 bytes)
    missing_within k bytes m h = rw (length-take 16 bytes) (omega arith)

-- the two words of a block, from its number
block_words-le : (block : List ℕ) → AreBytes block → length block ≡ 16 →
    block_words block ≡ (le block % 2 ^ 64, le block / 2 ^ 64)
block_words-le block b h =
    halves block (b, h) ∙ ap (λ v. (v, le (drop 8 block))) (le-take 8 block b (omega arith))
    ∙ ap (λ v. (le block % 2 ^ 64, v)) (le-drop 8 block b (omega arith))

-- zeros after bytes count nothing
le-padded : (n : ℕ) (bytes : List ℕ) → le (bytes ++ replicate n 0) ≡ le bytes
le-padded n bytes =
    le-append bytes (replicate n 0) ∙ ap (λ v. le bytes + v * 256 ^ length bytes) (zeros n)
    ∙ nothing (le bytes) (256 ^ length bytes)
  where
    zeros : (n : ℕ) → le (replicate n 0) ≡ 0
    zeros zero = refl
    zeros (suc n) = le-cons 0 (replicate n 0) ∙ ap (λ v. 0 + 256 * v) (zeros n)

    nothing : (a p : ℕ) → a + 0 * p ≡ a
    nothing a p = omega arith

-- fewer than 16 bytes, padded with zeros to a block, have the words of their number
pub padded_words : (count n : ℕ) → count < 16 → n < 256 ^ count →
    block_words (low_bytes count n ++ replicate (16 - length (low_bytes count n)) 0)
    ≡ (n % 2 ^ 64, n / 2 ^ 64)
padded_words count n low h =
    let zeros : List ℕ = replicate (16 - length (low_bytes count n)) 0 in
    let are : AreBytes zeros =
    All-replicate IsByte (16 - length (low_bytes count n)) 0 (omega arith) in
    let size : length zeros ≡ 16 - length (low_bytes count n) =
    length-replicate (16 - length (low_bytes count n)) 0 in
    let count_len = length-low_bytes count n in
    let whole : length (low_bytes count n ++ zeros) ≡ 16 =
    joined-length count n zeros ∙ omega (arith, size, count_len) in
    let number : le (low_bytes count n ++ zeros) ≡ n =
    le-padded (16 - length (low_bytes count n)) (low_bytes count n) ∙ le-back count n h in
    block_words-le (low_bytes count n ++ zeros) (joined-are count n zeros are) whole
    ∙ ap (λ v. (v % 2 ^ 64, v / 2 ^ 64)) number

-- the two words of fewer than 16 bytes, which zeros fill up
pub tail_words : (bytes : List ℕ) → AreBytes bytes → length bytes < 16 →
    block_words (bytes ++ replicate (16 - length bytes) 0) ≡ (le bytes % 2 ^ 64, le bytes / 2 ^ 64)
tail_words bytes b h =
    ap (λ t. block_words (t ++ replicate (16 - length t) 0)) (sym (low_bytes-le bytes b))
    ∙ padded_words (length bytes) (le bytes) h (le-lt bytes b)

-- bytes after those of a number, if all are fewer than 16
pub kept-lt : (count n : ℕ) (bytes : List ℕ) → AreBytes bytes → n < 256 ^ count → count + length bytes < 16 →
    n + le bytes * 256 ^ count < 2 ^ 128
kept-lt count n bytes b h short =
    let within : count + length bytes ≤ 16 = omega arith in
    lt_of_lt_of_le (joined-lt count n bytes b h) (pow-le-pow_right {n = 256} (omega arith) within)

-- the words of the block that a number's bytes and the first bytes after them fill
pub block_words-filled : (count n : ℕ) (bytes : List ℕ) → AreBytes bytes → n < 256 ^ count → count < 16 →
    16 ≤ count + length bytes →
    block_words (low_bytes count n ++ take (16 - count) bytes)
    ≡ (
      (n + le (take 16 bytes) * 256 ^ count) % 2 ^ 128 % 2 ^ 64,
      (n + le (take 16 bytes) * 256 ^ count) % 2 ^ 128 / 2 ^ 64,
    )
block_words-filled count n bytes b h low high =
    let prefix : List ℕ = take (16 - count) bytes in
    let prefix_are : AreBytes prefix = All-take IsByte (16 - count) bytes b in
    let prefix_len = length-take-le (16 - count) bytes (omega arith) in
    let size : length (low_bytes count n ++ prefix) ≡ 16 =
    joined-length count n prefix ∙ omega (arith, prefix_len) in
    block_words-le (low_bytes count n ++ prefix) (joined-are count n prefix prefix_are) size
    ∙ ap (λ v. (v % 2 ^ 64, v / 2 ^ 64)) (sym (le-block count n bytes b h (omega arith) high))

-- the first of a number's lowest bytes
pub take-low_bytes : (count k n : ℕ) → take count (low_bytes (count + k) n) ≡ low_bytes count n
take-low_bytes zero k n = refl
take-low_bytes (suc count) k n =
    ap (λ m. take (suc count) (low_bytes m n)) (suc-add count k)
    ∙ ap (λ t. n % 256 ∷ t) (take-low_bytes count k (n / 256))

-- ---- two words of waiting bytes, and their number

pub words-number : (n : ℕ) → n % 2 ^ 64 + n / 2 ^ 64 * 2 ^ 64 ≡ n
words-number n = omega arith

-- the second word is what is beyond eight bytes
beyond_eight : (count : ℕ) → 8 ≤ count → 256 ^ count ≡ 256 ^ (count - 8) * 2 ^ 64
beyond_eight count m = let split : count ≡ count - 8 + 8 = omega arith in
    ap (λ k. 256 ^ k) split ∙ pow-add 256 (count - 8) 8

-- the words' sizes give that of their number
pub number-lt : (count low high : ℕ) → low < 256 ^ min count 8 → high < 256 ^ (count - 8) →
    low + high * 2 ^ 64 < 256 ^ count
number-lt count low high p q = elim (cases_lt count 8) [
  | inl l ↦
      let few : min count 8 ≡ count = min-eq_left (omega arith) in
      let none : count - 8 ≡ 0 = omega arith in
      let first : low < 256 ^ count = subst (λ k. low < 256 ^ k) few p in
      let second : high < 1 = subst (λ k. high < 256 ^ k) none q in
      omega arith
  | inr m ↦
      let many : min count 8 ≡ 8 = min-eq_right m in
      let first : low < 2 ^ 64 = subst (λ k. low < 256 ^ k) many p in
      rw (beyond_eight count m) (omega arith)
]

-- a number's size gives those of its two words
pub words-lt : (count n : ℕ) → n < 256 ^ count →
    (n % 2 ^ 64 < 256 ^ min count 8) × (n / 2 ^ 64 < 256 ^ (count - 8))
words-lt count n p = elim (cases_lt count 8) [
  | inl l ↦
      let few : min count 8 ≡ count = min-eq_left (omega arith) in
      let none : count - 8 ≡ 0 = omega arith in
      let within : count ≤ 8 = omega arith in
      let below : n < 2 ^ 64 = lt_of_lt_of_le p (pow-le-pow_right {n = 256} (omega arith) within) in
      (rw (few, mod-eq_of_lt below) p, rw none (omega arith))
  | inr m ↦
      let many : min count 8 ≡ 8 = min-eq_right m in
      let all : n < 256 ^ (count - 8) * 2 ^ 64 = subst (λ k. n < k) (beyond_eight count m) p in
      (rw many (omega arith), omega arith)
]
