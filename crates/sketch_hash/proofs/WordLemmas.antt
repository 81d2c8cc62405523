-- The arithmetic of words beside the library's operations: `bit_xor` and `rotate_left`.
use Rattle.std.proofs.Common.{◌≡◌, ℕ, zero, suc, ◌+◌, ◌-◌, ◌*◌, ◌/◌, ◌%◌, ◌^◌, ◌<◌, sym, ap, ◌∙◌, arith, cond, subst, add_comm, refl, ◌≤◌, lt_of_lt_of_le, mul_assoc, mul_comm}
use Rattle.std.specs.Prelude.{◌==◌, bit_xor, bit_or}
use Rattle.std.specs.Int.{bit_at, rotate_left, w64}
use Rattle.std.proofs.lemmas.Bool.{cond_both, eqb-true, eqb-false}
use Rattle.std.proofs.lemmas.Nat.{mod-pow-add, xor_lt, mod_below, or_shifted, shr_below, shl_below, shr_split, mod_low, pow-add, pow_pos, shr_le, xor_comm, mul-mod_first, mul-mod_second, shr_high, mul-add-lt, shr-shr}
use Rattle.std.proofs.lemmas.Nat.Bits.{bit_at_xor, bit_at-lt}
use Rattle.std.proofs.Math.Nat.{mod-eq_of_lt, div-eq_of_lt, pow-le-pow_right}
use Rattle.sketch_hash.proofs.OneToOne.{Undoes, alike, one_to_one}
use Rattle.sketch_hash.specs.Words.{IsWord, plus, times, digit, xor_below, xor, rotate, xor_shift, OneToOne, minus}
use Rattle.std.specs.Int.Bits.{xor_assoc, xor_self, xor_zero_r, xor_shr}

-- the sum over the places at which two digits differ is the library's exclusive or
xor_below-is : (n x y : ℕ) → xor_below n x y ≡ bit_xor x y % 2 ^ n
unfolding xor_below
xor_below-is zero x y = omega arith
xor_below-is (suc i) x y =
    ap (λ v. v + cond (digit x i == digit y i) 0 (2 ^ i)) (xor_below-is i x y)
    ∙ ap (λ v. bit_xor x y % 2 ^ i + v) (worth (digit x i) (digit y i) (2 ^ i) (bit_at-lt x i) (bit_at-lt y i)
    ∙ ap (λ v. v * 2 ^ i) (sym (bit_at_xor x y i)))
    ∙ add_comm (bit_xor x y % 2 ^ i) (bit_at (bit_xor x y) i * 2 ^ i)
    ∙ sym (mod-pow-add (bit_xor x y) 1 i)
    ∙ ap (λ n. bit_xor x y % 2 ^ n) (omega arith)
  where
    worth : (a b p : ℕ) → a < 2 → b < 2 → cond (a == b) 0 p ≡ (a + b) % 2 * p
    worth a b p h k = cond_both (a == b) 0 p (λ v. v ≡ (a + b) % 2 * p)
        (λ e. let same = eqb-true a b e in let even : (a + b) % 2 ≡ 0 = omega arith in rw even (omega arith))
        (λ e. let other = eqb-false a b e in let odd : (a + b) % 2 ≡ 1 = omega arith in rw odd (omega arith))

pub xor-is : (x y : ℕ) → IsWord x → IsWord y → xor x y ≡ bit_xor x y
unfolding xor
xor-is x y p q = xor_below-is 64 x y ∙ mod-eq_of_lt (xor_lt 64 x y p q)

pub xor-lt : (x y : ℕ) → IsWord x → IsWord y → IsWord (xor x y)
xor-lt x y p q = rw (xor-is x y p q) (xor_lt 64 x y p q)

pub xor_shift-is : (k x : ℕ) → IsWord x → xor_shift k x ≡ bit_xor x (x / 2 ^ k)
xor_shift-is k x p = let less = shr_le x k in xor-is x (x / 2 ^ k) p (omega arith)

-- the digits that a rotation moves up: in two numbers whose sum is 64, the lower `right` digits
pub rotated_up : (x left right : ℕ) → left + right ≡ 64 → x * 2 ^ left % 2 ^ 64 ≡ x % 2 ^ right * 2 ^ left
rotated_up x left right e =
    let whole : 2 ^ 64 ≡ 2 ^ right * 2 ^ left = ap (λ n. 2 ^ n) (sym e ∙ add_comm left right)
    ∙ pow-add 2 right left in
    let low : x % 2 ^ right * 2 ^ left < 2 ^ 64 =
    subst (λ n. x % 2 ^ right * 2 ^ left < 2 ^ n) (add_comm right left
    ∙ e) (shl_below (x % 2 ^ right) right left (mod_below x (2 ^ right) (pow_pos right))) in
    ap (λ v. v * 2 ^ left % 2 ^ 64) (sym (shr_split x right))
    ∙ ap (λ v. v % 2 ^ 64) (spread (x / 2 ^ right) (2 ^ right) (x % 2 ^ right) (2 ^ left)
    ∙ ap (λ v. x / 2 ^ right * v + x % 2 ^ right * 2 ^ left) (sym whole))
    ∙ mod_low (x / 2 ^ right) 64 (x % 2 ^ right * 2 ^ left) low
  where
    spread : (a p r q : ℕ) → (a * p + r) * q ≡ a * (p * q) + r * q
    spread a p r q = omega arith

-- a rotation's two parts share no digit
rotate_parts : (x left right : ℕ) → left + right ≡ 64 → IsWord x →
    x * 2 ^ left % 2 ^ 64 + x / 2 ^ right ≡ bit_or (x * 2 ^ left % 2 ^ 64) (x / 2 ^ right)
rotate_parts x left right e p =
    let up = rotated_up x left right e in
    let down : x / 2 ^ right < 2 ^ left = shr_below x left right (subst (λ n. x < 2 ^ n) (sym e) p) in
    rw up (sym (or_shifted (x % 2 ^ right) left (x / 2 ^ right) down))

pub rotate-is : (x r : ℕ) → 0 < r → r < 64 → IsWord x → rotate x r ≡ rotate_left w64 x r
unfolding rotate
rotate-is x r low high p =
    let left : r % 64 ≡ r = omega arith in
    let right : (64 - r % 64) % 64 ≡ 64 - r = omega arith in
    rw (right, left) (rotate_parts x r (64 - r) (omega arith) p)

pub plus-lt : (x y : ℕ) → IsWord (plus x y)
plus-lt x y = omega arith

pub times-lt : (x y : ℕ) → IsWord (times x y)
times-lt x y = mod_below (x * y) (2 ^ 64) (omega arith)

-- 5 (r + x) + 5 a + b = 5 (r + x + a) + b
pub five_times : (r x a b : ℕ) →
    plus (times (plus r x) 5) (5 * a + b) ≡ plus (times (plus r (plus x a)) 5) b
five_times r x a b = omega arith

pub ruleset for_rotate = (rotate-is)

-- the library's xor of two words, with its operands in either order
pub of_words : (x y : ℕ) → IsWord x → IsWord y → bit_xor x y ≡ xor x y
of_words x y p q = sym (xor-is x y p q)

pub of_swapped_words : (x y : ℕ) → IsWord x → IsWord y → bit_xor x y ≡ xor y x
of_swapped_words x y p q = xor_comm x y ∙ sym (xor-is y x q p)

pub ruleset xors = (of_words, of_swapped_words)

-- ---- the product with a number, undone by the product with another

times-undone : (c d : ℕ) → times c d ≡ 1 → Undoes IsWord IsWord (λ x. times x c) (λ y. times y d)
times-undone c d e = record {
  lands = λ x h. times-lt x c;
  comes = λ y h. times-lt y d;
  back = λ x h. undone c d e x h;
  forth = λ y h. undone d c (ap (λ n. n % 2 ^ 64) (mul_comm d c) ∙ e) y h;
}
  where
    undone : (c d : ℕ) → times c d ≡ 1 → (x : ℕ) → IsWord x → times (times x c) d ≡ x
    undone c d e x h =
        mul-mod_first (x * c) d (2 ^ 64) ∙ ap (λ n. n % 2 ^ 64) (mul_assoc x c d)
        ∙ sym (mul-mod_second x (c * d) (2 ^ 64)) ∙ ap (λ n. x * n % 2 ^ 64) e ∙ omega arith

pub times-once : (c d : ℕ) → times c d ≡ 1 → OneToOne IsWord IsWord (λ x. times x c)
times-once c d e = one_to_one (times-undone c d e)

-- ---- the sum with a word, undone by the difference

plus-undone : (w : ℕ) → IsWord w → Undoes IsWord IsWord (λ x. plus x w) (λ y. minus y w)
plus-undone w p = record {
  lands = λ x h. omega arith;
  comes = λ y h. omega arith;
  back = λ x h. omega arith;
  forth = λ y h. omega arith;
}

pub plus-once : (w : ℕ) → IsWord w → OneToOne IsWord IsWord (λ x. plus x w)
plus-once w p = one_to_one (plus-undone w p)

pub plus_word-once : (w : ℕ) → IsWord w → OneToOne IsWord IsWord (plus w)
plus_word-once w p = alike (plus w) (λ x h. omega arith) (plus-once w p)

-- ---- the exclusive or with a word, which undoes itself

xor-undone : (w : ℕ) → IsWord w → Undoes IsWord IsWord (λ x. xor x w) (λ y. xor y w)
xor-undone w p = record {
  lands = λ x h. xor-lt x w h p;
  comes = λ y h. xor-lt y w h p;
  back = undone;
  forth = undone;
}
  where
    undone : (x : ℕ) → IsWord x → xor (xor x w) w ≡ x
    undone x h =
        rw (xor-is (xor x w) w (xor-lt x w h p) p, xor-is x w h p, xor_assoc x w w, xor_self w) (xor_zero_r x)

pub xor-once : (w : ℕ) → IsWord w → OneToOne IsWord IsWord (λ x. xor x w)
xor-once w p = one_to_one (xor-undone w p)

pub xor_word-once : (w : ℕ) → IsWord w → OneToOne IsWord IsWord (xor w)
xor_word-once w p = alike (xor w) (λ x h. xor-is w x p h ∙ xor_comm w x ∙ sym (xor-is x w h p)) (xor-once w p)

-- ---- a rotation by a places, undone by one of b places, where a and b make 64

-- the upper a digits and the lower b digits change places
rotate-swaps : (a b x : ℕ) → a + b ≡ 64 → rotate x a ≡ x % 2 ^ b * 2 ^ a + x / 2 ^ b
unfolding rotate
rotate-swaps a b x e = let places : 64 - a ≡ b = omega arith in rw (places, rotated_up x a b e) refl

rotate-back : (a b : ℕ) → a + b ≡ 64 → (x : ℕ) → IsWord x → IsWord (rotate x a) × (rotate (rotate x a) b ≡ x)
rotate-back a b e x h =
    let high = x / 2 ^ b in
    let low = x % 2 ^ b in
    let high_below : high < 2 ^ a = shr_below x a b (subst (λ n. x < 2 ^ n) (sym e) h) in
    let low_below : low < 2 ^ b = mod_below x (2 ^ b) (pow_pos b) in
    let whole : 2 ^ a * 2 ^ b ≡ 2 ^ 64 = sym (pow-add 2 a b) ∙ ap (λ n. 2 ^ n) e in
    let below = mul-add-lt low (2 ^ a) high (2 ^ b) low_below high_below in (
      rw (rotate-swaps a b x e) (subst (λ n. low * 2 ^ a + high < n) whole below),
      ap (λ n. rotate n b) (rotate-swaps a b x e) ∙ rotate-swaps b a (low * 2 ^ a + high) (omega arith)
          ∙ rw (mod_low low a high high_below, shr_high low a high high_below) (shr_split x b),
    )

rotate-undone : (a b : ℕ) → a + b ≡ 64 → Undoes IsWord IsWord (λ x. rotate x a) (λ y. rotate y b)
rotate-undone a b e =
    let other : b + a ≡ 64 = omega arith in
    record {
      lands = λ x h. (rotate-back a b e x h).0;
      comes = λ y h. (rotate-back b a other y h).0;
      back = λ x h. (rotate-back a b e x h).1;
      forth = λ y h. (rotate-back b a other y h).1;
    }

pub rotate-once : (a b : ℕ) → a + b ≡ 64 → OneToOne IsWord IsWord (λ x. rotate x a)
rotate-once a b e = one_to_one (rotate-undone a b e)

-- ---- a word xor its own upper digits

-- the common word of two exclusive ors cancels in their exclusive or
bit_xor-meet : (a b c : ℕ) → bit_xor (bit_xor a b) (bit_xor b c) ≡ bit_xor a c
bit_xor-meet a b c =
    let gone = ap (λ n. bit_xor n c) (xor_self b) ∙ xor_comm 0 c ∙ xor_zero_r c in
    xor_assoc a b (bit_xor b c) ∙ ap (bit_xor a) (sym (xor_assoc b b c) ∙ gone)

shr-word : (x k : ℕ) → IsWord x → IsWord (x / 2 ^ k)
shr-word x k h = let less = shr_le x k in omega arith

shifted-lt : (k x : ℕ) → IsWord x → IsWord (xor_shift k x)
shifted-lt k x h = xor-lt x (x / 2 ^ k) h (shr-word x k h)

-- a word shifted by 64 places or more is 0
shr-gone : (k x : ℕ) → 64 ≤ k → IsWord x → bit_xor x (x / 2 ^ k) ≡ x
shr-gone k x m h =
    let below : x < 2 ^ k = lt_of_lt_of_le h (pow-le-pow_right {n = 2} (omega arith) m) in
    rw (div-eq_of_lt below) (xor_zero_r x)

-- the upper digits of a number xor its upper digits
shr-shifted : (k j x : ℕ) → bit_xor x (x / 2 ^ k) / 2 ^ j ≡ bit_xor (x / 2 ^ j) (x / 2 ^ (k + j))
shr-shifted k j x = xor_shr x (x / 2 ^ k) j ∙ ap (bit_xor (x / 2 ^ j)) (shr-shr x k j)

-- two shifts by k places with an exclusive or are one by 2 k
shifted-two : (k x : ℕ) → IsWord x → xor_shift k (xor_shift k x) ≡ bit_xor x (x / 2 ^ (k + k))
shifted-two k x h =
    xor_shift-is k (xor_shift k x) (shifted-lt k x h)
    ∙ ap (λ n. bit_xor n (n / 2 ^ k)) (xor_shift-is k x h)
    ∙ ap (bit_xor (bit_xor x (x / 2 ^ k))) (shr-shifted k k x) ∙ bit_xor-meet x (x / 2 ^ k) (x / 2 ^ (k + k))

-- an exclusive or with a shift by 32 places or more undoes itself
shifted-undone : (k : ℕ) → 32 ≤ k → Undoes IsWord IsWord (xor_shift k) (xor_shift k)
shifted-undone k m = record { lands = shifted-lt k; comes = shifted-lt k; back = undone; forth = undone }
  where
    undone : (x : ℕ) → IsWord x → xor_shift k (xor_shift k x) ≡ x
    undone x h = shifted-two k x h ∙ shr-gone (k + k) x (omega arith) h

pub shifted-once : (k : ℕ) → 32 ≤ k → OneToOne IsWord IsWord (xor_shift k)
shifted-once k m = one_to_one (shifted-undone k m)

-- a word xor its digits from place k on, and those from place 2 k on
shifted_twice : ℕ → ℕ → ℕ
shifted_twice k y = xor (xor_shift k y) (y / 2 ^ (k + k))

shifted_twice-is : (k y : ℕ) → IsWord y → shifted_twice k y ≡ bit_xor (xor_shift k y) (y / 2 ^ (k + k))
unfolding shifted_twice
shifted_twice-is k y h = xor-is (xor_shift k y) (y / 2 ^ (k + k)) (shifted-lt k y h) (shr-word y (k + k) h)

shifted_twice-lt : (k y : ℕ) → IsWord y → IsWord (shifted_twice k y)
unfolding shifted_twice
shifted_twice-lt k y h = xor-lt (xor_shift k y) (y / 2 ^ (k + k)) (shifted-lt k y h) (shr-word y (k + k) h)

-- `shifted_twice` undoes an exclusive or with a shift by 22 places or more
shifted_less-undone : (k : ℕ) → 22 ≤ k → Undoes IsWord IsWord (xor_shift k) (shifted_twice k)
shifted_less-undone k m = record {
  lands = shifted-lt k;
  comes = shifted_twice-lt k;
  back = back;
  forth = forth;
}
  where
    back : (x : ℕ) → IsWord x → shifted_twice k (xor_shift k x) ≡ x
    back x h =
        let two = x / 2 ^ (k + k) in
        let upper : xor_shift k x / 2 ^ (k + k) ≡ bit_xor two (x / 2 ^ (k + (k + k))) =
        ap (λ n. n / 2 ^ (k + k)) (xor_shift-is k x h) ∙ shr-shifted k (k + k) x in
        shifted_twice-is k (xor_shift k x) (shifted-lt k x h)
        ∙ ap (λ n. bit_xor n (xor_shift k x / 2 ^ (k + k))) (shifted-two k x h)
        ∙ ap (bit_xor (bit_xor x two)) upper ∙ bit_xor-meet x two (x / 2 ^ (k + (k + k)))
        ∙ shr-gone (k + (k + k)) x (omega arith) h

    forth : (y : ℕ) → IsWord y → xor_shift k (shifted_twice k y) ≡ y
    forth y h =
        let once = y / 2 ^ k in
        let two = y / 2 ^ (k + k) in
        let three = y / 2 ^ (k + k + k) in
        let parts : shifted_twice k y ≡ bit_xor (bit_xor y once) two =
        shifted_twice-is k y h ∙ ap (λ n. bit_xor n two) (xor_shift-is k y h) in
        let upper : shifted_twice k y / 2 ^ k ≡ bit_xor (bit_xor once two) three =
        ap (λ n. n / 2 ^ k) parts ∙ xor_shr (bit_xor y once) two k
        ∙ ap (bit_xor (bit_xor y once / 2 ^ k)) (shr-shr y (k + k) k)
        ∙ ap (λ n. bit_xor n three) (shr-shifted k k y) in
        xor_shift-is k (shifted_twice k y) (shifted_twice-lt k y h)
        ∙ ap (bit_xor (shifted_twice k y)) upper
        ∙ ap (λ n. bit_xor n (bit_xor (bit_xor once two) three)) (parts ∙ xor_assoc y once two)
        ∙ bit_xor-meet y (bit_xor once two) three ∙ shr-gone (k + k + k) y (omega arith) h

pub shifted_less-once : (k : ℕ) → 22 ≤ k → OneToOne IsWord IsWord (xor_shift k)
shifted_less-once k m = one_to_one (shifted_less-undone k m)
