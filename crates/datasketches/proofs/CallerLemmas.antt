-- Lemmas that a caller names above a function, as `using(datasketches::proofs::CallerLemmas::items_fit)`.
use Rattle.std.proofs.Common.{◌≡◌, ℕ, zero, suc, ◌≤◌, List, [], ◌∷◌, ◌++◌, length, take, map, ap, ◌∙◌, arith, length-append}
use Rattle.std.specs.List.{All}
use Rattle.sketch_base.specs.declared.codec.item.Item.{Item}
use Rattle.sketch_base.specs.declared.codec.item.Kind.{Kind}
use Rattle.sketch_base.specs.Items.{InType, item_kind, spell, spell_all, widths}
use Rattle.sketch_base.proofs.ItemLemmas.{item_law}
use Rattle.sketch_hash.specs.Pieces.{State}
use Rattle.sketch_hash.specs.Murmur.{murmur, murmur_after, murmur_answer, MurmurStands}
use Rattle.sketch_hash.proofs.MurmurAnswers.{murmur_answer-stands, murmur_stands_after}

-- a new Murmur hasher that is written to once answers for what was written
pub murmur_of_one_write : (seed : ℕ) (bytes : List ℕ) (start state : State (ℕ × ℕ)) (answer : ℕ × ℕ) →
    MurmurStands start seed [] → state ≡ murmur_after start bytes → answer ≡ murmur_answer state →
    answer ≡ murmur seed bytes
murmur_of_one_write seed bytes start state answer begun written answered =
    answered ∙ murmur_answer-stands seed bytes state
    (murmur_stands_after start state bytes written seed [] begun)

-- the first items have no more bytes than all
pub length-spell_all-take : (n : ℕ) (items : List Item) →
    length (spell_all (take n items)) ≤ length (spell_all items)
length-spell_all-take zero items = omega arith
length-spell_all-take (suc n) [] = omega arith
length-spell_all-take (suc n) (item ∷ items) = omega (
  arith,
  length-append (spell item) (spell_all (take n items)),
  length-append (spell item) (spell_all items),
  length-spell_all-take n items,
)

widths-take-le : (n : ℕ) (kinds : List Kind) → widths (take n kinds) ≤ widths kinds
widths-take-le zero kinds = omega arith
widths-take-le (suc n) [] = omega arith
widths-take-le (suc n) (kind ∷ kinds) = omega (arith, widths-take-le n kinds)

-- bytes that begin with items are enough for any beginning of their kinds
pub items_fit : (items : List Item) (kinds : List Kind) (rest bytes : List ℕ) (n : ℕ) →
    kinds ≡ map item_kind items → All InType items → bytes ≡ spell_all items ++ rest →
    widths (take n kinds) ≤ length bytes
items_fit items kinds rest bytes n same in_type whole = omega (
  arith,
  widths-take-le n kinds,
  item_law.count items in_type,
  ap widths same,
  ap length whole ∙ length-append (spell_all items) rest,
)
