-- Words and their arithmetic, in whole numbers: no machine operation is used to say what a hash is.
-- At the end `OneToOne`, a bijection: it reaches each value exactly once.
use Rattle.std.specs.Prelude.{ℕ, zero, suc, ◌+◌, ◌-◌, ◌*◌, ◌/◌, ◌%◌, ◌^◌, ◌<◌, ◌==◌, if◌then◌else◌, ◌≡◌}

-- a word is a whole number below 2 ^ 64
abbrev pub IsWord : ℕ → Type 0
IsWord x = x < 2 ^ 64

-- the sum, the difference and the product of two words, modulo 2 ^ 64
abbrev pub plus : ℕ → ℕ → ℕ
plus x y = (x + y) % 2 ^ 64

abbrev pub minus : ℕ → ℕ → ℕ
minus x y = (x + (2 ^ 64 - y)) % 2 ^ 64

abbrev pub times : ℕ → ℕ → ℕ
times x y = x * y % 2 ^ 64

-- the binary digit of x that is worth 2 ^ i
abbrev pub digit : ℕ → ℕ → ℕ
digit x i = x / 2 ^ i % 2

-- the sum of 2 ^ i over the places i below n at which the binary digits of x and y differ
unfoldable pub xor_below : ℕ → ℕ → ℕ → ℕ
xor_below zero x y = 0
xor_below (suc i) x y = xor_below i x y + (if digit x i == digit y i then 0 else 2 ^ i)

-- the exclusive or of two words
unfoldable pub xor : ℕ → ℕ → ℕ
xor x y = xor_below 64 x y

-- a word rotated to the left by r places, r from 1 to 63
unfoldable pub rotate : ℕ → ℕ → ℕ
rotate x r = x * 2 ^ r % 2 ^ 64 + x / 2 ^ (64 - r)

-- a word xor the same word divided by 2 ^ k
abbrev pub xor_shift : ℕ → ℕ → ℕ
xor_shift k x = xor x (x / 2 ^ k)

-- f is a bijection from the values of S to the values of T
pub record OneToOne {A B : Type 0} (S : A → Type 0) (T : B → Type 0) (f : A → B) : Type 0 where
  pub lands : (x : A) → S x → T (f x)
  pub once : (x y : A) → S x → S y → f x ≡ f y → x ≡ y
  pub reached : (y : B) → T y → (x : A) × S x × (f x ≡ y)
