-- The size of a filter for a number of values and a false positive rate.
--
-- A filter of z = 2 ^ log2_blocks blocks has n values. A block has k of them with a probability in
-- proportion to w(k) = n^k / (z^k k!), as the law of Poisson says. Another value's bit of a word is
-- then set with probability 1 - (31/32)^k, and its eight bits with the eighth power of that, c(k).
-- So the false positive rate is the sum of w(k) c(k), divided by the sum of w(k).
--
-- Both sums have 384 terms here, and are of integers: each division rounds down. With at most 128
-- values a block, later terms are too small to count.
use Rattle.std.specs.Prelude.{◌≡◌, ◌⊎◌, ℕ, zero, suc, ◌+◌, ◌-◌, ◌*◌, ◌/◌, ◌^◌, ◌<◌, ◌≤◌, if◌then◌else◌, nat_lt}

-- (31/32)^k in parts of 2 ^ 50
unfoldable pub clear : ℕ → ℕ
clear zero = 2 ^ 50
clear (suc k) = clear k / 32 * 31

-- the eighth power of a share in parts of 2 ^ 50, as parts of 2 ^ 60
unfoldable pub eighth_power : ℕ → ℕ
eighth_power share =
    let square = share * share / 2 ^ 50 in
    let fourth = square * square / 2 ^ 50 in
    fourth * fourth / 2 ^ 40

-- c(k) in parts of 2 ^ 60
abbrev pub covered : ℕ → ℕ
covered k = eighth_power (2 ^ 50 - clear k)

-- w(k) in parts of 2 ^ 40, and the number of parts of which the next weights are multiples
pub record Weight : Type 0 where
  pub parts : ℕ
  pub unit : ℕ

-- The next weight, in units: times n / z / (k + 1). If it has 2 ^ 48 units or more, units that are
-- 2 ^ 8 times as large are exact enough.
abbrev pub next_units : ℕ → ℕ → ℕ → Weight → ℕ
next_units keys log2_blocks k w = w.parts / w.unit * keys / 2 ^ log2_blocks / suc k

abbrev pub growth : ℕ → ℕ
growth units = if nat_lt units (2 ^ 48) then 1 else 2 ^ 8

unfoldable pub weight : ℕ → ℕ → ℕ → Weight
weight keys log2_blocks zero = record { parts = 2 ^ 40; unit = 1 }
weight keys log2_blocks (suc k) =
    let before = weight keys log2_blocks k in
    let units = next_units keys log2_blocks k before in
    record { parts = units * before.unit; unit = before.unit * growth units }

-- the sums of w(0) to w(k), and of w(0) c(0) to w(k) c(k)
unfoldable pub all_to : ℕ → ℕ → ℕ → ℕ
all_to keys log2_blocks zero = (weight keys log2_blocks zero).parts
all_to keys log2_blocks (suc k) =
    all_to keys log2_blocks k + (weight keys log2_blocks (suc k)).parts

unfoldable pub covered_to : ℕ → ℕ → ℕ → ℕ
covered_to keys log2_blocks zero = (weight keys log2_blocks zero).parts * covered zero
covered_to keys log2_blocks (suc k) =
    covered_to keys log2_blocks k + (weight keys log2_blocks (suc k)).parts * covered (suc k)

-- The rate is at most one in `one_in`, with both sums in the last unit. With more than 128 values a
-- block it is above one in two.
abbrev pub IsRateAtMost : ℕ → ℕ → ℕ → Type 0
IsRateAtMost keys log2_blocks one_in =
    let unit = (weight keys log2_blocks 383).unit in
    (keys ≤ 128 * 2 ^ log2_blocks)
    × (covered_to keys log2_blocks 383 / unit
    ≤ all_to keys log2_blocks 383 / unit * (2 ^ 60 / one_in))

-- Every filter keeps the rate of one in one, and none that of one in 0.
abbrev pub KeepsRate : ℕ → ℕ → ℕ → Type 0
KeepsRate keys log2_blocks one_in =
    (one_in ≡ 1) ⊎ ((1 < one_in) × IsRateAtMost keys log2_blocks one_in)

-- The largest filter that Arrow reads has 2 ^ 22 blocks, 128 MiB.
abbrev pub max_log2_blocks : ℕ
max_log2_blocks = 22

-- The least power of two of blocks that keeps the rate.
pub record IsLeastSize (keys one_in log2_blocks : ℕ) : Type 0 where
  pub most : log2_blocks ≤ max_log2_blocks
  pub keeps : KeepsRate keys log2_blocks one_in
  pub least : (smaller : ℕ) → smaller < log2_blocks → KeepsRate keys smaller one_in → ⊥

-- no filter of up to 128 MiB keeps the rate
abbrev pub NoneKeepsRate : ℕ → ℕ → Type 0
NoneKeepsRate keys one_in =
    (log2_blocks : ℕ) → log2_blocks ≤ max_log2_blocks → KeepsRate keys log2_blocks one_in → ⊥
