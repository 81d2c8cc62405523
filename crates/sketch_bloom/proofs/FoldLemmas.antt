-- The blocks of a filter that are folded one by one.
use Rattle.std.proofs.Common.{◌≡◌, ◌↔◌, ℕ, ◌+◌, ◌*◌, ◌/◌, ◌%◌, ◌<◌, ◌≤◌, ◌⊎◌, ◌^◌, List, length, take, drop, get_or, bit_or, sym, ◌∙◌, inl, inr, arith}
use Rattle.std.specs.Simd.Lanes.{zip2, chunk, put_chunk}
use Rattle.std.proofs.lemmas.Bool.{cases_lt}
use Rattle.std.proofs.lemmas.Bool.Decides.{nat_tests}
use Rattle.std.proofs.lemmas.List.{ext_get_or, get_or_past}
use Rattle.std.proofs.Common.{get_or-drop, get_or-take, length-drop, length-take}
use Rattle.std.proofs.lemmas.Nat.{or_comm}
use Rattle.std.proofs.lemmas.Nat.Bits.{bit_at-zero, bit_at_or}
use Rattle.std.proofs.lemmas.Simd.{get_or-chunk, get_or-put_chunk_above, get_or-put_chunk_at, get_or-put_chunk_below, get_or-zip2, length-chunk, length-zip2}
use Rattle.sketch_bloom.proofs.LawLemmas.{same}
use Rattle.sketch_bloom.specs.Filter.{Folds, IsBitOf, IsFoldable, block_of, mask_bit}
use Rattle.sketch_bloom.specs.Laws.{FoldLaw, StandsFor}
use Rattle.sketch_bloom.specs.FoldRate.{FoldsWithin, fold, whole}

-- The first n blocks are folded, and the bytes after them are as they were.
pub record AreFolded (before after : List ℕ) (n : ℕ) : Type 0 where
  pub joined : (k j : ℕ) → k < n → j < 32 → get_or after (32 * k + j) 0
      ≡ bit_or (get_or before (64 * k + j) 0) (get_or before (64 * k + 32 + j) 0)
  pub others : (i : ℕ) → 32 * n ≤ i → get_or after i 0 ≡ get_or before i 0

-- A block is the union of blocks 2 n and 2 n + 1.
pub record IsUnion (filter : List ℕ) (n : ℕ) (block : List ℕ) : Type 0 where
  pub long : length block ≡ 32
  pub bytes : (j : ℕ) → j < 32 → get_or block j 0
      ≡ bit_or (get_or filter (64 * n + j) 0) (get_or filter (64 * n + 32 + j) 0)

module _ (filter : List ℕ) (n : ℕ) (inside : 64 * n + 64 ≤ length filter) where
  abbrev left : List ℕ
  left = chunk (64 * n) 32 filter

  abbrev right : List ℕ
  right = chunk (64 * n + 32) 32 filter

  -- both blocks joined by or, in either order
  pub left_right : IsUnion filter n (zip2 bit_or left right)
  left_right =
      let left_long = length-chunk (64 * n) 32 filter (omega arith) in
      let right_long = length-chunk (64 * n + 32) 32 filter (omega arith) in
      record {
        long = length-zip2 bit_or left right (left_long ∙ sym right_long) ∙ left_long;
        bytes = λ j low. grind (
          arith,
          left_long,
          right_long,
          get_or-zip2 bit_or left right j 0 0 0,
          get_or-chunk (64 * n) 32 filter j 0,
          get_or-chunk (64 * n + 32) 32 filter j 0,
        );
      }

  pub right_left : IsUnion filter n (zip2 bit_or right left)
  right_left =
      let left_long = length-chunk (64 * n) 32 filter (omega arith) in
      let right_long = length-chunk (64 * n + 32) 32 filter (omega arith) in
      record {
        long = length-zip2 bit_or right left (right_long ∙ sym left_long) ∙ right_long;
        bytes = λ j low. grind (
          arith,
          left_long,
          right_long,
          get_or-zip2 bit_or right left j 0 0 0,
          get_or-chunk (64 * n) 32 filter j 0,
          get_or-chunk (64 * n + 32) 32 filter j 0,
          or_comm (get_or right j 0) (get_or left j 0),
        );
      }

module _ (before filter block : List ℕ) (n : ℕ) (inside : 64 * n + 64 ≤ length filter)
    (union : IsUnion filter n block) where
  joined_byte : (j : ℕ) → j < 32 → get_or (put_chunk (32 * n) filter block) (32 * n + j) 0
      ≡ bit_or (get_or filter (64 * n + j) 0) (get_or filter (64 * n + 32 + j) 0)
  joined_byte j low =
      grind (arith, union.long, union.bytes j low, get_or-put_chunk_at (32 * n) filter block j 0)

  pub one_more : AreFolded before filter n →
      AreFolded before (put_chunk (32 * n) filter block) (n + 1)
  one_more first = record {
    joined = λ k j few low. grind (
      arith,
      cases_lt k n,
      first.joined k j,
      first.others (64 * n + j),
      first.others (64 * n + 32 + j),
      joined_byte j low,
      get_or-put_chunk_below (32 * n) filter block (32 * k + j) 0,
    );
    others = λ i late. grind (
      arith,
      first.others i,
      union.long,
      get_or-put_chunk_above (32 * n) filter block i 0,
    );
  }

pub folds : (before after : List ℕ) (n : ℕ) → length before ≡ 64 * n → length after ≡ 64 * n →
    AreFolded before after n → Folds before (take (32 * n) after)
folds before after n long long_after folded = record {
  size = omega (arith, length-take (32 * n) after);
  bits = λ k b low.
      let byte : (256 * k + b) / 8 ≡ 32 * k + b / 8 = omega arith in
      let left : (512 * k + b) / 8 ≡ 64 * k + b / 8 = omega arith in
      let right : (512 * k + 256 + b) / 8 ≡ 64 * k + 32 + b / 8 = omega arith in
      let digit : (256 * k + b) % 8 ≡ b % 8 = omega arith in
      let left_digit : (512 * k + b) % 8 ≡ b % 8 = omega arith in
      let right_digit : (512 * k + 256 + b) % 8 ≡ b % 8 = omega arith in
      rw (byte, left, right, digit, left_digit, right_digit) (grind (
        arith,
        nat_tests,
        cases_lt k n,
        get_or-take (32 * n) after (32 * k + b / 8) 0,
        folded.joined k (b / 8),
        bit_at_or (get_or before (64 * k + b / 8) 0) (get_or before (64 * k + 32 + b / 8) 0) (b % 8),
        bit_at-zero (b % 8),
        length-take (32 * n) after,
        get_or_past (take (32 * n) after) (32 * k + b / 8) 0,
        get_or_past before (64 * k + b / 8) 0,
        get_or_past before (64 * k + 32 + b / 8) 0,
      ));
}

pub same_rest : (before after : List ℕ) (n : ℕ) → length after ≡ length before →
    AreFolded before after n → drop (32 * n) after ≡ drop (32 * n) before
same_rest before after n long folded =
    ext_get_or 0 (drop (32 * n) after) (drop (32 * n) before)
    (omega (arith, length-drop (32 * n) after, length-drop (32 * n) before)) (λ i within.
    simp get_or-drop (folded.others (32 * n + i) (omega arith)))

-- ---- the values of a folded filter

-- Half of a block's number is its number among half as many blocks.
half_block : (blocks hash : ℕ) → block_of (2 * blocks) hash / 2 ≡ block_of blocks hash
half_block blocks hash =
    let upper = hash / 2 ^ 32 in
    let product : upper * (2 * blocks) ≡ 2 * (upper * blocks) = grind arith in
    rw product (half_of_double (upper * blocks))
  where
    half_of_double : (n : ℕ) → 2 * n / 2 ^ 32 / 2 ≡ n / 2 ^ 32
    half_of_double n = omega arith

mask_bit_below : (hash w : ℕ) → mask_bit hash w < 32
mask_bit_below hash w = omega arith

-- A bit of a hash in a filter is a bit of it in one of the two blocks that are joined.
bit_of_half : (blocks hash k b : ℕ) → b < 256 → IsBitOf blocks hash (256 * k + b)
    ↔ (IsBitOf (2 * blocks) hash (512 * k + b) ⊎ IsBitOf (2 * blocks) hash (512 * k + 256 + b))
unfolding IsBitOf
bit_of_half blocks hash k b low =
    let half = half_block blocks hash in (
      (λ (c, (w, few, is), place).
          let below = mask_bit_below hash w in
          let same : c ≡ b = omega arith in
          elim (even_or_odd (block_of (2 * blocks) hash)) [
            | inl even ↦ inl (c, (w, few, is), omega arith)
            | inr odd ↦ inr (c, (w, few, is), omega arith)
          ]),
      (λ either. elim either [
        | inl (c, (w, few, is), place) ↦
            let below = mask_bit_below hash w in (c, (w, few, is), omega arith)
        | inr (c, (w, few, is), place) ↦
            let below = mask_bit_below hash w in (c, (w, few, is), omega arith)
      ]),
    )
  where
    even_or_odd : (n : ℕ) → (n ≡ 2 * (n / 2)) ⊎ (n ≡ 2 * (n / 2) + 1)
    even_or_odd n = grind (arith, cases_lt (n % 2) 1)

-- A folded filter stands for the same values.
stands-folded : (before after hashes : List ℕ) → IsFoldable (length before) → Folds before after →
    StandsFor before hashes → StandsFor after hashes
unfolding StandsFor
stands-folded before after hashes foldable folded stands i =
    let k = i / 256 in
    let b = i % 256 in
    let place : i ≡ 256 * k + b = omega arith in
    let blocks : length before / 32 ≡ 2 * (length after / 32) = omega (arith, folded.size) in
    let left = rw blocks at (stands (512 * k + b)) in
    let right = rw blocks at (stands (512 * k + 256 + b)) in
    let below : b < 256 = omega arith in
    let here = folded.bits k b below in
    let half = length after / 32 in
    rw place (
      (λ set. elim (here.0 set) [
        | inl one ↦ let of = left.0 one in (of.0, of.1, (bit_of_half half of.0 k b below).1 (inl of.2))
        | inr one ↦ let of = right.0 one in (of.0, of.1, (bit_of_half half of.0 k b below).1 (inr of.2))
      ]),
      (λ (hash, has, bit). here.1 (elim ((bit_of_half half hash k b below).0 bit) [
        | inl one ↦ inl (left.1 (hash, has, one))
        | inr one ↦ inr (right.1 (hash, has, one))
      ])),
    )

-- So does one that was folded several times.
stands-within : (one_in : ℕ) (before after hashes : List ℕ) → FoldsWithin one_in before after →
    StandsFor before hashes → StandsFor after hashes
stands-within one_in before after hashes whole stands = stands
stands-within one_in before after hashes (fold filter _ first foldable folds rate) stands =
    stands-folded filter after hashes foldable folds (stands-within one_in before filter hashes first stands)

pub fold_law : FoldLaw
fold_law = record {
  within = stands-within;
  stands = stands-folded;
  streams = λ before after whole hashes bytes whole_bytes count foldable folded stands stands_whole.
      same after whole hashes hashes bytes whole_bytes (sym count)
      (stands-folded before after hashes foldable folded stands) stands_whole
      (λ hash. ((λ is. is), (λ is. is)));
}
