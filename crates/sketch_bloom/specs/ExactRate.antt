-- The false positive rate of a filter by a Poisson model of its blocks, without rounding.
--
-- As `Size.antt` says, a block of a filter of z blocks with n values has k of them in proportion to
-- w(k) = n^k / (z^k k!), and then has another value with a probability of c(k) = (1 - (31/32)^k)^8.
-- The rate is the sum of w(k) c(k) over all k, divided by the sum of w(k). With more terms, both
-- sums come nearer to it.
--
-- The sums of the terms 0 to k are whole numbers here, since they are multiplied by z^k k!, and the
-- first also by 32^(8 k).
use Rattle.std.specs.Prelude.{ℕ, zero, suc, ◌+◌, ◌-◌, ◌*◌, ◌^◌, ◌≤◌}

-- (w(0) + .. + w(k)) z^k k!
unfoldable pub weights_to : ℕ → ℕ → ℕ → ℕ
weights_to keys blocks zero = 1
weights_to keys blocks (suc k) = weights_to keys blocks k * (blocks * suc k) + keys ^ suc k

-- (w(0) c(0) + .. + w(k) c(k)) z^k k! 32^(8 k)
unfoldable pub found_to : ℕ → ℕ → ℕ → ℕ
found_to keys blocks zero = 0
found_to keys blocks (suc k) =
    found_to keys blocks k * (blocks * suc k * 32 ^ 8)
    + keys ^ suc k * (32 ^ suc k - 31 ^ suc k) ^ 8

-- rate ≤ 1 / one_in + 2 ^ -22, by the terms 0 to k
abbrev pub IsRateBelow : ℕ → ℕ → ℕ → ℕ → Type 0
IsRateBelow keys blocks one_in k =
    found_to keys blocks k * one_in * 2 ^ 22
    ≤ weights_to keys blocks k * (32 ^ 8) ^ k * (2 ^ 22 + one_in)

-- rate ≥ (1 - 2 ^ -22) / one_in - 2 ^ -36, by the terms 0 to k
abbrev pub IsRateAbove : ℕ → ℕ → ℕ → ℕ → Type 0
IsRateAbove keys blocks one_in k =
    weights_to keys blocks k * (32 ^ 8) ^ k * 2 ^ 36
    ≤ found_to keys blocks k * one_in * 2 ^ 36
    + weights_to keys blocks k * (32 ^ 8) ^ k * (2 ^ 14 + one_in)
