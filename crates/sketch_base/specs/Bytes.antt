-- Numbers written as bytes, and bytes read as numbers. A byte is a whole number below 256.
use Rattle.std.specs.Prelude.{ℕ, zero, suc, ◌+◌, ◌-◌, ◌*◌, ◌/◌, ◌%◌, ◌^◌, ◌<◌, ℤ, pos, negsuc, ◌-ℤ◌, List, [], ◌∷◌, reverse, nat_lt, if◌then◌else◌}
use Rattle.std.specs.List.{All}

-- every number of the list is a byte
abbrev pub AreBytes : List ℕ → Type 0
AreBytes bytes = All (λ b. b < 256) bytes

-- the sum of b * 256 ^ i over the bytes b, where the first stands at place i, the next at i + 1,
-- and so on
abbrev pub weighted_from : ℕ → List ℕ → ℕ
weighted_from i [] = 0
weighted_from i (b ∷ bytes) = b * 256 ^ i + weighted_from (i + 1) bytes

-- the little-endian number of bytes: the sum of b[i] * 256 ^ i
abbrev pub le : List ℕ → ℕ
le bytes = weighted_from 0 bytes

-- the big-endian number of bytes: the little-endian number of the reversed list
abbrev pub be : List ℕ → ℕ
be bytes = le (reverse bytes)

-- the count lowest bytes of n, the lowest first
abbrev pub low_bytes : ℕ → ℕ → List ℕ
low_bytes zero n = []
low_bytes (suc count) n = n % 256 ∷ low_bytes count (n / 256)

-- the one list of eight bytes whose little-endian number is n modulo 2 ^ 64
abbrev pub eight : ℕ → List ℕ
eight n = low_bytes 8 n

-- the signed number of w bits that n stands for: n, less 2 ^ w where n is at least 2 ^ (w - 1)
abbrev pub twos_complement : ℕ → ℕ → ℤ
twos_complement w n = if nat_lt n (2 ^ (w - 1)) then pos n else pos n -ℤ pos (2 ^ w)

-- a whole number modulo 2 ^ w
abbrev pub modulo : ℕ → ℤ → ℕ
modulo w (pos n) = n % 2 ^ w
modulo w (negsuc n) = 2 ^ w - 1 - n % 2 ^ w

-- the eight bytes of an integer, modulo 2 ^ 64
abbrev pub integer_bytes : ℤ → List ℕ
integer_bytes z = eight (modulo 64 z)
