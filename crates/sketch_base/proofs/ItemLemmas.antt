-- Items and their bytes: each item has one form, and a list is read back. One more item adds to widths, bytes
-- and places.
use Rattle.std.proofs.Common.{◌≡◌, ℕ, suc, ◌+◌, ◌<◌, List, [], ◌∷◌, ◌++◌, length, take, drop, get_or, set, refl, ap, sym, ◌∙◌, arith, add-one, append_assoc, append-nil, length-drop, ◌-◌, ◌*◌, ◌%◌, ◌^◌, ◌≤◌, map, reverse, length-append, nat_lt, Bool, true, false}
use Rattle.std.proofs.lemmas.List.Elements.{All-more, All-push, All-same, All-head, All-tail}
use Rattle.std.specs.List.{All}
use Rattle.std.proofs.lemmas.List.{drop-drop, take_more, length-take-le, reverse-append, reverse-reverse, length-reverse}
use Rattle.std.proofs.Math.Seq.{drop-cons, set-append_seam, take-append_seam, drop-append_seam}
use Rattle.sketch_base.specs.declared.codec.item.Item.{Item}
use Rattle.sketch_base.specs.declared.codec.item.Kind.{Kind}
use Rattle.sketch_base.specs.Items.{InType, width, widths, spell, spell_all, unspell, unspell_all, item_kind, Spells, ItemLaw}
use Rattle.std.specs.Prelude.{ℤ, pos, negsuc}
use lib.Signed.{mag}
use Rattle.std.proofs.lemmas.Int.{ints}
use Rattle.std.proofs.lemmas.Bool.Decides.{nat_tests}
use Rattle.std.proofs.Math.Nat.{mod-eq_of_lt}
use Rattle.sketch_base.specs.declared.codec.item.Item.TheVariants as item
use Rattle.sketch_base.specs.declared.codec.item.Kind.TheVariants as kind
use Rattle.sketch_base.specs.Bytes.{AreBytes, le, be, low_bytes, twos_complement, modulo}
use Rattle.sketch_base.proofs.BytesLemmas.{low_bytes-are, le-back, le-again, le-lt, length-low_bytes, IsByte}

pub widths-push : (kinds : List Kind) (kind : Kind) → widths (kinds ++ kind ∷ []) ≡ widths kinds + width kind
widths-push [] kind = omega arith
widths-push (first ∷ kinds) kind = omega (arith, widths-push kinds kind)

pub spell_all-push : (items : List Item) (item : Item) →
    spell_all (items ++ item ∷ []) ≡ spell_all items ++ spell item
spell_all-push [] item = append-nil (spell item)
spell_all-push (first ∷ items) item =
    ap (λ bytes. spell first ++ bytes) (spell_all-push items item)
    ∙ sym (append_assoc (spell first) (spell_all items) (spell item))

pub length-unspell_all : (kinds : List Kind) (bytes : List ℕ) →
    length (unspell_all kinds bytes) ≡ length kinds
length-unspell_all [] bytes = refl
length-unspell_all (kind ∷ kinds) bytes = ap suc (length-unspell_all kinds (drop (width kind) bytes))

pub unspell_all-push : (kinds : List Kind) (kind : Kind) (bytes : List ℕ) →
    unspell_all (kinds ++ kind ∷ []) bytes
    ≡ unspell_all kinds bytes ++ unspell kind (take (width kind) (drop (widths kinds) bytes)) ∷ []
unspell_all-push [] kind bytes = refl
unspell_all-push (first ∷ kinds) kind bytes =
    ap (λ items. unspell first (take (width first) bytes) ∷ items)
    (unspell_all-push kinds kind (drop (width first) bytes)
    ∙ ap (λ rest. unspell_all kinds (drop (width first) bytes) ++ unspell kind (take (width kind) rest) ∷ [])
    (drop-drop (widths kinds) (width first) bytes))

-- one kind more, and one item more
pub widths-more : (kinds : List Kind) (i : ℕ) (kind : Kind) → i < length kinds →
    widths (take (i + 1) kinds) ≡ widths (take i kinds) + width (get_or kinds i kind)
widths-more kinds i kind within = ap widths (take_more kinds i kind within)
    ∙ widths-push (take i kinds) (get_or kinds i kind)

pub spell_all-more : (items : List Item) (i : ℕ) (item : Item) → i < length items →
    spell_all (take (i + 1) items) ≡ spell_all (take i items) ++ spell (get_or items i item)
spell_all-more items i item within = ap spell_all (take_more items i item within)
    ∙ spell_all-push (take i items) (get_or items i item)

-- after what is written stand the bytes of the items so far, and then those of one more
pub written-more : (before bytes : List ℕ) (items : List Item) (i : ℕ) (item : Item) → i < length items →
    bytes ≡ before ++ spell_all (take i items) →
    bytes ++ spell (get_or items i item) ≡ before ++ spell_all (take (i + 1) items)
written-more before bytes items i item within written =
    ap (λ prefix. prefix ++ spell (get_or items i item)) written
    ∙ append_assoc before (spell_all (take i items)) (spell (get_or items i item))
    ∙ ap (λ back. before ++ back) (sym (spell_all-more items i item within))

-- the next place takes its item
pub placed-more : (kinds : List Kind) (bytes : List ℕ) (places : List Item) (i : ℕ) (kind : Kind)
    (item : Item) →
    i < length kinds → length kinds ≡ length places →
    item ≡ unspell (get_or kinds i kind) (take (width (get_or kinds i kind)) (drop (widths
    (take i kinds)) bytes)) →
    set (unspell_all (take i kinds) bytes ++ drop i places) i item
    ≡ unspell_all (take (i + 1) kinds) bytes ++ drop (i + 1) places
placed-more kinds bytes places i kind item within lengths is =
    let prefix = unspell_all (take i kinds) bytes in
    let count : length prefix ≡ i = length-unspell_all (take i kinds) bytes
    ∙ length-take-le i kinds (omega arith) in
    let next : drop i places ≡ get_or places i item ∷ drop (i + 1) places =
    drop-cons places i item (omega arith)
    ∙ ap (λ n. get_or places i item ∷ drop n places) (sym (add-one i)) in
    let all : unspell_all (take (i + 1) kinds) bytes ≡ prefix ++ item ∷ [] =
    ap (λ ks. unspell_all ks bytes) (take_more kinds i kind within)
    ∙ unspell_all-push (take i kinds) (get_or kinds i kind) bytes ∙ ap (λ x. prefix ++ x ∷ []) (sym is) in
    ap (λ rest. set (prefix ++ rest) i item) next
    ∙ ap (λ n. set (prefix ++ get_or places i item ∷ drop (i + 1) places) n item) (sym count)
    ∙ set-append_seam prefix (get_or places i item) (drop (i + 1) places) item
    ∙ sym (append_assoc prefix (item ∷ []) (drop (i + 1) places))
    ∙ ap (λ items. items ++ drop (i + 1) places) (sym all)

pub in_type-more : (items : List Item) (i : ℕ) (item : Item) → i < length items →
    All InType (take i items) → InType (get_or items i item) → All InType (take (i + 1) items)
in_type-more items i item within prefix next = All-more InType items i item within prefix next

-- one step of a loop over items
pub ruleset one_item_more = (written-more, in_type-more, widths-more, placed-more, length-drop, drop-drop)

-- a number below 256 ^ n has n bytes that give it back, the highest first
be-back : (count n : ℕ) → n < 256 ^ count → be (reverse (low_bytes count n)) ≡ n
be-back count n small = ap le (reverse-reverse (low_bytes count n)) ∙ le-back count n small

AreBytes-reverse : (bytes : List ℕ) → AreBytes bytes → AreBytes (reverse bytes)
AreBytes-reverse [] h = h
AreBytes-reverse (b ∷ bytes) h =
    let first = All-head IsByte b bytes h in
    let others = AreBytes-reverse bytes (All-tail IsByte b bytes h) in
    All-same IsByte (reverse (b ∷ bytes)) (reverse bytes ++ b ∷ []) (reverse-append (b ∷ []) bytes)
    (All-push IsByte (reverse bytes) b others first)

-- a signed number modulo 2 ^ w, and back
twos_complement-modulo : (w half : ℕ) (z : ℤ) → 2 ^ (w - 1) ≡ half → 2 ^ w ≡ 2 * half → mag z < half →
    twos_complement w (modulo w z) ≡ z
twos_complement-modulo w half (pos n) low whole small =
    let same : n % (2 * half) ≡ n = mod-eq_of_lt (omega arith) in
    rw (low, whole, same) (grind (arith, ints, nat_tests))
twos_complement-modulo w half (negsuc n) low whole small =
    let same : n % (2 * half) ≡ n = mod-eq_of_lt (omega arith) in
    rw (low, whole, same) (grind (arith, ints, nat_tests))

modulo-lt : (w half : ℕ) (z : ℤ) → 2 ^ w ≡ 2 * half → 0 < half → modulo w z < 2 ^ w
modulo-lt w half (pos n) whole some = rw whole (omega arith)
modulo-lt w half (negsuc n) whole some = rw whole (omega arith)

modulo-low : (w half n : ℕ) → 2 ^ (w - 1) ≡ half → 2 ^ w ≡ 2 * half → n < half →
    modulo w (twos_complement w n) ≡ n
modulo-low w half n low whole small =
    let number : twos_complement w n ≡ pos n = rw (low, whole) (grind (arith, ints, nat_tests)) in
    ap (modulo w) number ∙ mod-eq_of_lt (rw whole (omega arith))

modulo-high : (w half n : ℕ) → 2 ^ (w - 1) ≡ half → 2 ^ w ≡ 2 * half → half ≤ n → n < 2 * half →
    modulo w (twos_complement w n) ≡ n
modulo-high w half n low whole large small =
    let m = 2 * half - 1 - n in
    let number : twos_complement w n ≡ negsuc m = rw (low, whole) (grind (arith, ints, nat_tests)) in
    let same : m % (2 * half) ≡ m = mod-eq_of_lt (omega arith) in
    ap (modulo w) number ∙ (rw (whole, same) (omega arith))

modulo-by_test : (w half n : ℕ) (below : Bool) → nat_lt n half ≡ below →
    2 ^ (w - 1) ≡ half → 2 ^ w ≡ 2 * half → n < 2 ^ w → modulo w (twos_complement w n) ≡ n
modulo-by_test w half n true is low whole small = modulo-low w half n low whole (grind (arith, nat_tests))
modulo-by_test w half n false is low whole small =
    modulo-high w half n low whole (grind (arith, nat_tests)) (rw (← whole) small)

modulo-twos_complement : (w half n : ℕ) → 2 ^ (w - 1) ≡ half → 2 ^ w ≡ 2 * half → n < 2 ^ w →
    modulo w (twos_complement w n) ≡ n
modulo-twos_complement w half n low whole small = modulo-by_test w half n (nat_lt n half) refl low whole small

-- signed numbers give their bytes, and these give them back
signed_le-back : (w half count : ℕ) (z : ℤ) → 2 ^ (w - 1) ≡ half → 2 ^ w ≡ 2 * half → 256 ^ count ≡ 2 ^ w →
    mag z < half →
    twos_complement w (le (low_bytes count (modulo w z))) ≡ z
signed_le-back w half count z low whole same small =
    let below : modulo w z < 256 ^ count = rw same (modulo-lt w half z whole (omega arith)) in
    ap (twos_complement w) (le-back count (modulo w z) below)
    ∙ twos_complement-modulo w half z low whole small

signed_be-back : (w half count : ℕ) (z : ℤ) → 2 ^ (w - 1) ≡ half → 2 ^ w ≡ 2 * half → 256 ^ count ≡ 2 ^ w →
    mag z < half →
    twos_complement w (be (reverse (low_bytes count (modulo w z)))) ≡ z
signed_be-back w half count z low whole same small =
    ap (λ bytes. twos_complement w (le bytes)) (reverse-reverse (low_bytes count (modulo w z)))
    ∙ signed_le-back w half count z low whole same small

-- lowest bytes hold an item that its kind makes of them, in either order
low-holds : (i : Item) (count n : ℕ) → count ≡ width (item_kind i) →
    unspell (item_kind i) (low_bytes count n) ≡ i →
    Spells (low_bytes count n) i
low-holds i count n is made = record {
  are_bytes = low_bytes-are count n;
  count = length-low_bytes count n ∙ is;
  item = made;
}

high-holds : (i : Item) (count n : ℕ) → count ≡ width (item_kind i) →
    unspell (item_kind i) (reverse (low_bytes count n)) ≡ i → Spells (reverse (low_bytes count n)) i
high-holds i count n is made = record {
  are_bytes = AreBytes-reverse (low_bytes count n) (low_bytes-are count n);
  count = length-reverse (low_bytes count n) ∙ length-low_bytes count n ∙ is;
  item = made;
}

-- the bytes of each item hold it
spell_holds : (i : Item) → InType i → Spells (spell i) i
spell_holds (item.U8 n) h = low-holds (item.U8 n) 1 n refl (ap item.U8 (le-back 1 n h))
spell_holds (item.I8 n) h =
    low-holds (item.I8 n) 1 (modulo 8 n) refl (ap item.I8 (signed_le-back 8
    (2 ^ 7) 1 n refl refl refl h.sfits))
spell_holds (item.U16Le n) h = low-holds (item.U16Le n) 2 n refl (ap item.U16Le (le-back 2 n h))
spell_holds (item.U16Be n) h = high-holds (item.U16Be n) 2 n refl (ap item.U16Be (be-back 2 n h))
spell_holds (item.I16Le n) h =
    low-holds (item.I16Le n) 2 (modulo 16 n) refl (ap item.I16Le (signed_le-back 16
    (2 ^ 15) 2 n refl refl refl h.sfits))
spell_holds (item.I16Be n) h =
    high-holds (item.I16Be n) 2 (modulo 16 n) refl (ap item.I16Be (signed_be-back 16
    (2 ^ 15) 2 n refl refl refl h.sfits))
spell_holds (item.U32Le n) h = low-holds (item.U32Le n) 4 n refl (ap item.U32Le (le-back 4 n h))
spell_holds (item.U32Be n) h = high-holds (item.U32Be n) 4 n refl (ap item.U32Be (be-back 4 n h))
spell_holds (item.I32Le n) h =
    low-holds (item.I32Le n) 4 (modulo 32 n) refl (ap item.I32Le (signed_le-back 32
    (2 ^ 31) 4 n refl refl refl h.sfits))
spell_holds (item.I32Be n) h =
    high-holds (item.I32Be n) 4 (modulo 32 n) refl (ap item.I32Be (signed_be-back 32
    (2 ^ 31) 4 n refl refl refl h.sfits))
spell_holds (item.U64Le n) h = low-holds (item.U64Le n) 8 n refl (ap item.U64Le (le-back 8 n h))
spell_holds (item.U64Be n) h = high-holds (item.U64Be n) 8 n refl (ap item.U64Be (be-back 8 n h))
spell_holds (item.I64Le n) h =
    low-holds (item.I64Le n) 8 (modulo 64 n) refl (ap item.I64Le (signed_le-back 64
    (2 ^ 63) 8 n refl refl refl h.sfits))
spell_holds (item.I64Be n) h =
    high-holds (item.I64Be n) 8 (modulo 64 n) refl (ap item.I64Be (signed_be-back 64
    (2 ^ 63) 8 n refl refl refl h.sfits))

-- bytes are the lowest bytes of their number, the highest first
be-again : (count : ℕ) (bytes : List ℕ) → AreBytes bytes → length bytes ≡ count →
    reverse (low_bytes count (be bytes)) ≡ bytes
be-again count bytes h is =
    let turned = le-again count (reverse bytes) (AreBytes-reverse bytes h) (length-reverse bytes ∙ is) in
    ap reverse turned ∙ reverse-reverse bytes

-- Bytes are the lowest bytes, the highest first, of a signed number modulo 2 ^ w.
signed_le-again : (w half count : ℕ) (bytes : List ℕ) → 2 ^ (w - 1) ≡ half → 2 ^ w ≡ 2 * half →
    256 ^ count ≡ 2 ^ w →
    AreBytes bytes → length bytes ≡ count → low_bytes count (modulo w (twos_complement w (le bytes))) ≡ bytes
signed_le-again w half count bytes low whole same h is =
    let below : le bytes < 2 ^ w = rw (← same, ← is) (le-lt bytes h) in
    ap (low_bytes count) (modulo-twos_complement w half (le bytes) low whole below)
    ∙ le-again count bytes h is

signed_be-again : (w half count : ℕ) (bytes : List ℕ) → 2 ^ (w - 1) ≡ half → 2 ^ w ≡ 2 * half →
    256 ^ count ≡ 2 ^ w →
    AreBytes bytes → length bytes ≡ count →
    reverse (low_bytes count (modulo w (twos_complement w (be bytes)))) ≡ bytes
signed_be-again w half count bytes low whole same h is =
    let turned = signed_le-again w half count (reverse bytes) low whole same
    (AreBytes-reverse bytes h) (length-reverse bytes ∙ is) in
    ap reverse turned ∙ reverse-reverse bytes

-- the bytes of the item that bytes hold are those bytes
spell-unspell : (kind : Kind) (bytes : List ℕ) → AreBytes bytes → length bytes ≡ width kind →
    spell (unspell kind bytes) ≡ bytes
spell-unspell kind.U8 bytes h count = le-again 1 bytes h count
spell-unspell kind.I8 bytes h count = signed_le-again 8 (2 ^ 7) 1 bytes refl refl refl h count
spell-unspell kind.U16Le bytes h count = le-again 2 bytes h count
spell-unspell kind.U16Be bytes h count = be-again 2 bytes h count
spell-unspell kind.I16Le bytes h count = signed_le-again 16 (2 ^ 15) 2 bytes refl refl refl h count
spell-unspell kind.I16Be bytes h count = signed_be-again 16 (2 ^ 15) 2 bytes refl refl refl h count
spell-unspell kind.U32Le bytes h count = le-again 4 bytes h count
spell-unspell kind.U32Be bytes h count = be-again 4 bytes h count
spell-unspell kind.I32Le bytes h count = signed_le-again 32 (2 ^ 31) 4 bytes refl refl refl h count
spell-unspell kind.I32Be bytes h count = signed_be-again 32 (2 ^ 31) 4 bytes refl refl refl h count
spell-unspell kind.U64Le bytes h count = le-again 8 bytes h count
spell-unspell kind.U64Be bytes h count = be-again 8 bytes h count
spell-unspell kind.I64Le bytes h count = signed_le-again 64 (2 ^ 63) 8 bytes refl refl refl h count
spell-unspell kind.I64Be bytes h count = signed_be-again 64 (2 ^ 63) 8 bytes refl refl refl h count

-- the bytes of items have the widths of their kinds
pub length-spell_all : (items : List Item) → All InType items →
    length (spell_all items) ≡ widths (map item_kind items)
length-spell_all [] h = refl
length-spell_all (i ∷ items) h =
    length-append (spell i) (spell_all items)
    ∙ ap (λ n. n + length (spell_all items)) ((spell_holds i (All-head InType i items h)).count)
    ∙ ap (λ n. width (item_kind i) + n) (length-spell_all items (All-tail InType i items h))

-- items are read back, whatever stands after their bytes
pub read_back : (items : List Item) (after : List ℕ) → All InType items →
    unspell_all (map item_kind items) (spell_all items ++ after) ≡ items
read_back [] after h = refl
read_back (i ∷ items) after h =
    let first = spell_holds i (All-head InType i items h) in
    let others = spell_all items ++ after in
    let whole : (spell i ++ spell_all items) ++ after
    ≡ spell i ++ others = append_assoc (spell i) (spell_all items) after in
    let prefix : take (width (item_kind i)) (spell i ++ others) ≡ spell i =
    ap (λ n. take n (spell i ++ others)) (sym first.count) ∙ take-append_seam (spell i) others in
    let back : drop (width (item_kind i)) (spell i ++ others) ≡ others =
    ap (λ n. drop n (spell i ++ others)) (sym first.count) ∙ drop-append_seam (spell i) others in
    rw (whole, prefix, back, first.item, read_back items after (All-tail InType i items h)) refl

pub leave_rest : (items : List Item) (after : List ℕ) → All InType items →
    drop (widths (map item_kind items)) (spell_all items ++ after) ≡ after
leave_rest items after h =
    ap (λ n. drop n (spell_all items ++ after)) (sym (length-spell_all items h))
    ∙ drop-append_seam (spell_all items) after

pub item_law : ItemLaw
item_law = record {
  spell_holds = spell_holds;
  spell_only = λ i bytes h facts.
      sym (spell-unspell (item_kind i) bytes facts.are_bytes facts.count) ∙ ap spell facts.item;
  once = λ xs ys hx hy kinds bytes.
      sym (read_back xs [] hx)
      ∙ ap (λ ks. unspell_all ks (spell_all xs ++ [])) kinds
      ∙ ap (λ bs. unspell_all (map item_kind ys) (bs ++ [])) bytes
      ∙ read_back ys [] hy;
  count = length-spell_all;
  read_back = read_back;
  leave_rest = leave_rest;
}
