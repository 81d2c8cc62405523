-- Facts about filters.
use Rattle.std.specs.Prelude.{◌≡◌, ◌↔◌, ◌⊎◌, ℕ, ◌*◌, ◌/◌, ◌^◌, ◌<◌, ◌≤◌, List, [], ◌∷◌, ◌++◌, drop, length, map, replicate, take, Contains}
use Rattle.datasketches.specs.Bytes.{AreBytes}
use Rattle.sketch_bloom.specs.Filter.{Folds, Inserts, InsertsAll, IsBitOfAny, IsFoldable, IsLength, IsMember, IsSet, Merges, block_of, hash_of}
use Rattle.sketch_bloom.specs.ExactRate.{IsRateAbove, IsRateBelow}
use Rattle.sketch_bloom.specs.FoldRate.{FoldsWithin}
use Rattle.sketch_bloom.specs.Size.{KeepsRate}

-- the empty filter with this many bytes
abbrev pub empty_filter : ℕ → List ℕ
empty_filter bytes = replicate bytes 0

-- A filter stands for the values with these hashes: the bits that are set are theirs.
unfoldable pub StandsFor : List ℕ → List ℕ → Type 0
StandsFor filter hashes = (i : ℕ) → IsSet filter i ↔ IsBitOfAny (length filter / 32) hashes i

-- The law of inserts. A value is given by its hash.
pub record InsertLaw : Type 0 where
  -- an empty filter stands for no values
  pub none : (bytes : ℕ) → StandsFor (empty_filter bytes) []
  -- an insert adds its value, and a column all of its values
  pub one_more : (before after : List ℕ) (hash : ℕ) (hashes : List ℕ) →
      Inserts hash before after → StandsFor before hashes → StandsFor after (hashes ++ hash ∷ [])
  pub all_more : (before after hashes more : List ℕ) →
      InsertsAll more before after → StandsFor before hashes → StandsFor after (hashes ++ more)
  -- inserts into an empty filter make the filter of the values
  pub made : (bytes : ℕ) (filter hashes : List ℕ) →
      InsertsAll hashes (empty_filter bytes) filter → StandsFor filter hashes
  -- no inserted value is missed
  pub found : (filter : List ℕ) (hash : ℕ) (hashes : List ℕ) →
      StandsFor filter hashes → Contains hashes hash → IsMember filter hash
  -- filters of one length that stand for the same values are the same bytes, in whatever order
  -- and however often the values were inserted
  pub same : (filter other hashes others : List ℕ) → AreBytes filter → AreBytes other →
      length filter ≡ length other → StandsFor filter hashes → StandsFor other others →
      ((hash : ℕ) → Contains hashes hash ↔ Contains others hash) → filter ≡ other

-- The law of merges.
pub record MergeLaw : Type 0 where
  -- a merge makes the filter of the values of both
  pub both : (before other after hashes others : List ℕ) → Merges other before after →
      StandsFor before hashes → StandsFor other others → StandsFor after (hashes ++ others)
  -- the merged filter is, byte for byte, the one into which both streams of values were inserted
  pub streams : (before other after whole hashes others : List ℕ) →
      AreBytes after → AreBytes whole → length whole ≡ length before →
      Merges other before after → StandsFor before hashes → StandsFor other others →
      StandsFor whole (hashes ++ others) → after ≡ whole
  -- a merged filter contains what either did
  pub found : (before other after : List ℕ) (hash : ℕ) → Merges other before after →
      IsMember before hash ⊎ IsMember other hash → IsMember after hash

-- The law of folds.
pub record FoldLaw : Type 0 where
  -- a folded filter stands for the same values
  pub stands : (before after hashes : List ℕ) → IsFoldable (length before) → Folds before after →
      StandsFor before hashes → StandsFor after hashes
  -- the folded filter is, byte for byte, the one of its length into which the values were inserted
  pub streams : (before after whole hashes : List ℕ) → AreBytes after → AreBytes whole →
      length whole ≡ length after → IsFoldable (length before) → Folds before after →
      StandsFor before hashes → StandsFor whole hashes → after ≡ whole
  -- a filter that was folded several times stands for the same values too
  pub within : (one_in : ℕ) (before after hashes : List ℕ) → FoldsWithin one_in before after →
      StandsFor before hashes → StandsFor after hashes

-- The law of blocks: a filter contains a hash exactly if its block does, as a filter of one block.
pub record BlockLaw : Type 0 where
  pub alone : (filter : List ℕ) (hash : ℕ) → IsLength (length filter) → hash < 2 ^ 64 →
      let offset = 32 * block_of (length filter / 32) hash in
      IsMember filter hash ↔ IsMember (take 32 (drop offset filter)) hash

-- The law of values: those among many that were inserted are contained.
pub record ValueLaw : Type 0 where
  pub found : (filter fed : List ℕ) (values : List (List ℕ)) →
      StandsFor filter (map hash_of values) → Contains values fed → IsMember filter (hash_of fed)

-- The law of sizes. The sums of whole numbers of `Size.antt`, which decide whether a size keeps a
-- rate, are near to the exact ones.
pub record SizeLaw : Type 0 where
  -- a size that keeps a rate has it exactly, but for 2 ^ -22
  pub kept : (keys one_in log2_blocks k : ℕ) → 383 ≤ k → KeepsRate keys log2_blocks one_in →
      IsRateBelow keys (2 ^ log2_blocks) one_in k
  -- a size that does not keep it has a rate of 0.999 / one_in or more, for up to one in 2 ^ 26
  pub missed : (keys one_in log2_blocks k : ℕ) → 383 ≤ k → 0 < one_in →
      (KeepsRate keys log2_blocks one_in → ⊥) → IsRateAbove keys (2 ^ log2_blocks) one_in k
