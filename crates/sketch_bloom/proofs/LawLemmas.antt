-- The laws of inserts, merges and values.
use Rattle.std.proofs.Common.{◌≡◌, ◌↔◌, ◌⊎◌, ℕ, ◌+◌, ◌-◌, ◌*◌, ◌/◌, ◌%◌, ◌^◌, ◌<◌, ◌≤◌, List, [], ◌∷◌, ◌++◌, length, refl, sym, ap, ◌∙◌, inl, inr, arith}
use Rattle.std.specs.Prelude.{Contains}
use Rattle.std.specs.Simd.Lanes.{chunk}
use Rattle.std.proofs.lemmas.Nat.{mul-le}
use Rattle.std.proofs.lemmas.Simd.{get_or-chunk, length-chunk}
use Rattle.std.proofs.lemmas.List.{get_or-map, length-map}
use Rattle.std.proofs.lemmas.Grind.{get_or_head}
use Rattle.std.proofs.lemmas.List.Elements.{Contains-append_cases, Contains-append_left, Contains-append_right}
use Rattle.datasketches.specs.Bytes.{AreBytes}
use Rattle.sketch_bloom.proofs.BlockLemmas.{no_bit_of_zeros, same_from_bits}
use Rattle.sketch_bloom.specs.Filter.{Inserts, InsertsAll, IsBitOf, IsBitOfAny, IsLength, Merges, block_of, hash_of, mask_bit}
use Rattle.sketch_bloom.specs.Laws.{BlockLaw, empty_filter, InsertLaw, MergeLaw, StandsFor, ValueLaw}

-- the bits of a list of one hash
any-one : (blocks hash i : ℕ) → IsBitOfAny blocks (hash ∷ []) i ↔ IsBitOf blocks hash i
any-one blocks hash i = (
  (λ (other, (k, within, is), bit). grind (arith, get_or_head hash [] k other)),
  (λ bit. (hash, (0, omega arith, refl), bit)),
)

-- One inserted value is a column of one value.
pub inserts_one : (hash : ℕ) (before after : List ℕ) →
    Inserts hash before after → InsertsAll (hash ∷ []) before after
inserts_one hash before after inserts = record {
  size = inserts.size;
  bits = λ i. grind (arith, inserts.bits i, any-one (length before / 32) hash i);
}

-- a bit of one of two lists of hashes
pub any-append : (blocks : ℕ) (hashes more : List ℕ) (i : ℕ) →
    IsBitOfAny blocks (hashes ++ more) i ↔ (IsBitOfAny blocks hashes i ⊎ IsBitOfAny blocks more i)
any-append blocks hashes more i = (
  (λ (hash, has, bit). elim (Contains-append_cases hashes more hash has) [
    | inl one ↦ inl (hash, one, bit)
    | inr one ↦ inr (hash, one, bit)
  ]),
  (λ either. elim either [
    | inl (hash, has, bit) ↦ (hash, Contains-append_left hashes more hash has, bit)
    | inr (hash, has, bit) ↦ (hash, Contains-append_right hashes more hash has, bit)
  ]),
)

-- A filter that stands for values stands for those of a column too after the column is inserted.
stands-append : (before after hashes more : List ℕ) → InsertsAll more before after →
    StandsFor before hashes → StandsFor after (hashes ++ more)
unfolding StandsFor
stands-append before after hashes more inserts stands i =
    rw inserts.size
    (grind (arith, any-append (length before / 32) hashes more i, inserts.bits i, stands i))

-- An empty filter stands for no values.
stands-none : (bytes : ℕ) → StandsFor (empty_filter bytes) []
unfolding StandsFor
stands-none bytes i = (
  (λ set. absurd (no_bit_of_zeros bytes i set)),
  (λ (hash, (k, within, is), bit). absurd (omega arith)),
)

-- Filters of one length that stand for the same values are the same bytes.
pub same : (filter other hashes others : List ℕ) → AreBytes filter → AreBytes other →
    length filter ≡ length other → StandsFor filter hashes → StandsFor other others →
    ((hash : ℕ) → Contains hashes hash ↔ Contains others hash) → filter ≡ other
unfolding StandsFor
same filter other hashes others bytes other_bytes count stands stands_other equal =
    same_from_bits filter other count bytes other_bytes (λ i.
    let here = rw (← count) at (stands_other i) in (
      (λ set. let of = (stands i).0 set in here.1 (of.0, (equal of.0).0 of.1, of.2)),
      (λ set. let of = here.0 set in (stands i).1 (of.0, (equal of.0).1 of.1, of.2)),
    ))

-- A merged filter stands for the values of both.
both : (before other after hashes others : List ℕ) → Merges other before after →
    StandsFor before hashes → StandsFor other others → StandsFor after (hashes ++ others)
unfolding StandsFor
both before other after hashes others (count, sets) stands stands_other =
    stands-append before after hashes others (record {
      size = sets.size;
      bits = λ i. grind (arith, sets.bits i, rw count at (stands_other i));
    }) stands

pub insert_law : InsertLaw
unfolding StandsFor
insert_law = record {
  none = stands-none;
  one_more = λ before after hash hashes inserts.
      stands-append before after hashes (hash ∷ []) (inserts_one hash before after inserts);
  all_more = stands-append;
  made = λ bytes filter hashes inserts.
      stands-append (empty_filter bytes) filter [] hashes inserts (stands-none bytes);
  found = λ filter hash hashes stands has i bit. (stands i).1 (hash, has, bit);
  same = same;
}

pub merge_law : MergeLaw
unfolding StandsFor
merge_law = record {
  both = both;
  streams = λ before other after whole hashes others bytes whole_bytes count merges stands stands_other
      stands_whole.
      same after whole (hashes ++ others) (hashes ++ others) bytes whole_bytes (merges.1.size ∙ sym count)
      (both before other after hashes others merges stands stands_other) stands_whole
      (λ hash. ((λ is. is), (λ is. is)));
  found = λ before other after hash (count, sets) member i bit.
      let here = rw sets.size at bit in
      (sets.bits i).1 (elim member [ inl one ↦ inl (one i here) | inr one ↦ inr (one i (rw count here)) ]);
}

pub value_law : ValueLaw
unfolding StandsFor
value_law = record {
  found = λ filter fed values stands (k, within, is) i bit.
      let there = get_or-map hash_of values k fed (hash_of fed) within ∙ ap hash_of is in
      (stands i).1 (hash_of fed, (k, rw (length-map values hash_of) within, there), bit);
}

-- A filter contains a hash exactly if the block of the hash does.
pub block_law : BlockLaw
unfolding IsBitOf
block_law = record {
  alone = λ filter hash is_length word.
      let blocks = length filter / 32 in
      let c = block_of blocks hash in
      let inside : 32 * c + 32 ≤ length filter = block_inside (length filter) hash is_length word in
      let block = chunk (32 * c) 32 filter in
      let long : length block / 32 ≡ 1 = omega (arith, length-chunk (32 * c) 32 filter inside) in
      let first : block_of 1 hash ≡ 0 = omega arith in (
        (λ member i (b, (w, few, is), place).
            let low : b < 256 = omega (arith, mask_bit_below hash w) in
            let at : i ≡ b = omega (arith, first, rw long at place) in
            let byte : (c * 256 + b) / 8 ≡ 32 * c + b / 8 = omega arith in
            let digit : (c * 256 + b) % 8 ≡ b % 8 = omega arith in
            rw (at, get_or-chunk (32 * c) 32 filter (b / 8) 0 (omega arith))
            (rw (byte, digit) at (member (c * 256 + b) (b, (w, few, is), refl)))),
        (λ member i (b, (w, few, is), place).
            let low : b < 256 = omega (arith, mask_bit_below hash w) in
            let byte : (c * 256 + b) / 8 ≡ 32 * c + b / 8 = omega arith in
            let digit : (c * 256 + b) % 8 ≡ b % 8 = omega arith in
            let in_block = member b (b, (w, few, is), rw (long, first) (omega arith)) in
            rw (place, byte, digit)
            (rw (get_or-chunk (32 * c) 32 filter (b / 8) 0 (omega arith)) at in_block)),
      );
}
  where
    mask_bit_below : (hash w : ℕ) → mask_bit hash w < 32
    mask_bit_below hash w = omega arith

    block_inside : (bytes hash : ℕ) → IsLength bytes → hash < 2 ^ 64 →
        32 * block_of (bytes / 32) hash + 32 ≤ bytes
    block_inside bytes hash is_length word =
        let upper = hash / 2 ^ 32 in
        let blocks = bytes / 32 in
        let below = mul-le upper blocks (2 ^ 32 - 1) blocks (omega arith) (omega arith) in
        omega (arith, below)
