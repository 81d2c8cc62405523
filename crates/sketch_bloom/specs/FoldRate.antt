-- The false positive rate of a filter by the bits that are set, and folds that keep a rate.
use Rattle.std.specs.Prelude.{ℕ, zero, suc, ◌+◌, ◌*◌, ◌/◌, ◌%◌, ◌^◌, ◌<◌, ◌≤◌, List, length, slice_index}
use Rattle.datasketches.specs.Words.{digit}
use Rattle.sketch_bloom.specs.Filter.{Folds, IsFoldable}

-- how many of n bits are set, from bit `start` of the filter
unfoldable pub set_bits : List ℕ → ℕ → ℕ → ℕ
set_bits filter start zero = 0
set_bits filter start (suc n) =
    digit (slice_index filter (start / 8)) (start % 8) + set_bits filter (suc start) n

-- Of the 2 ^ 40 choices of a bit in each of the eight words of block k, so many choose set bits
-- alone: the product of the numbers of set bits, over the first n words.
unfoldable pub found_by_words : List ℕ → ℕ → ℕ → ℕ
found_by_words filter k zero = 1
found_by_words filter k (suc n) =
    found_by_words filter k n * set_bits filter (256 * k + 32 * n) 32

-- the sum of these over the first n blocks
unfoldable pub found_by_blocks : List ℕ → ℕ → ℕ
found_by_blocks filter zero = 0
found_by_blocks filter (suc n) = found_by_blocks filter n + found_by_words filter n 8

-- A key that was not inserted is found with a probability of at most one in `one_in`, if its block
-- and its bit in each word were independent, and each as likely. The eight bits come from 32 bits
-- of a hash, so below about one in 10^7 they are not. No rate is at most one in 0.
pub record HasRateOf (one_in : ℕ) (filter : List ℕ) : Type 0 where
  pub positive : 0 < one_in
  pub rate : let blocks = length filter / 32 in
      found_by_blocks filter blocks * one_in ≤ blocks * 2 ^ 40

-- A filter is folded any number of times, and has the rate after each of them.
pub data FoldsWithin (one_in : ℕ) (before : List ℕ) : List ℕ → Type 0 where
  whole : FoldsWithin one_in before before
  fold : (filter after : List ℕ) → FoldsWithin one_in before filter → IsFoldable (length filter) →
      Folds filter after → HasRateOf one_in after → FoldsWithin one_in before after

-- It is folded as often as that goes.
pub record FoldsTo (one_in : ℕ) (before after : List ℕ) : Type 0 where
  pub folds : FoldsWithin one_in before after
  pub last : (next : List ℕ) → IsFoldable (length after) → Folds after next →
      HasRateOf one_in next → ⊥
