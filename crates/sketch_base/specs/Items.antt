-- Items as bytes, and the law of items and their bytes.
use Rattle.std.specs.Prelude.{◌≡◌, ℕ, ◌+◌, ◌^◌, ◌<◌, FitsSigned, List, [], ◌∷◌, ◌++◌, length, take, drop, map, reverse}
use Rattle.std.specs.Int.{w8, w16, w32, w64}
use Rattle.std.specs.List.{All}
use Rattle.sketch_base.specs.declared.codec.item.Item.{Item}
use Rattle.sketch_base.specs.declared.codec.item.Kind.{Kind}
use Rattle.sketch_base.specs.declared.codec.item.Item.TheVariants as item
use Rattle.sketch_base.specs.declared.codec.item.Kind.TheVariants as kind
use Rattle.sketch_base.specs.Bytes.{AreBytes, le, be, low_bytes, twos_complement, modulo}

-- the kind of an item
abbrev pub item_kind : Item → Kind
item_kind (item.U8 n) = kind.U8
item_kind (item.I8 n) = kind.I8
item_kind (item.U16Le n) = kind.U16Le
item_kind (item.U16Be n) = kind.U16Be
item_kind (item.I16Le n) = kind.I16Le
item_kind (item.I16Be n) = kind.I16Be
item_kind (item.U32Le n) = kind.U32Le
item_kind (item.U32Be n) = kind.U32Be
item_kind (item.I32Le n) = kind.I32Le
item_kind (item.I32Be n) = kind.I32Be
item_kind (item.U64Le n) = kind.U64Le
item_kind (item.U64Be n) = kind.U64Be
item_kind (item.I64Le n) = kind.I64Le
item_kind (item.I64Be n) = kind.I64Be

-- how many bytes an item of a kind has
abbrev pub width : Kind → ℕ
width kind.U8 = 1
width kind.I8 = 1
width kind.U16Le = 2
width kind.U16Be = 2
width kind.I16Le = 2
width kind.I16Be = 2
width kind.U32Le = 4
width kind.U32Be = 4
width kind.I32Le = 4
width kind.I32Be = 4
width kind.U64Le = 8
width kind.U64Be = 8
width kind.I64Le = 8
width kind.I64Be = 8

-- the item's number is in the range of its type
abbrev pub InType : Item → Type 0
InType (item.U8 n) = n < 2 ^ 8
InType (item.I8 n) = FitsSigned w8 n
InType (item.U16Le n) = n < 2 ^ 16
InType (item.U16Be n) = n < 2 ^ 16
InType (item.I16Le n) = FitsSigned w16 n
InType (item.I16Be n) = FitsSigned w16 n
InType (item.U32Le n) = n < 2 ^ 32
InType (item.U32Be n) = n < 2 ^ 32
InType (item.I32Le n) = FitsSigned w32 n
InType (item.I32Be n) = FitsSigned w32 n
InType (item.U64Le n) = n < 2 ^ 64
InType (item.U64Be n) = n < 2 ^ 64
InType (item.I64Le n) = FitsSigned w64 n
InType (item.I64Be n) = FitsSigned w64 n

-- the item that bytes give when they are read as a kind
abbrev pub unspell : Kind → List ℕ → Item
unspell kind.U8 bytes = item.U8 (le bytes)
unspell kind.I8 bytes = item.I8 (twos_complement 8 (le bytes))
unspell kind.U16Le bytes = item.U16Le (le bytes)
unspell kind.U16Be bytes = item.U16Be (be bytes)
unspell kind.I16Le bytes = item.I16Le (twos_complement 16 (le bytes))
unspell kind.I16Be bytes = item.I16Be (twos_complement 16 (be bytes))
unspell kind.U32Le bytes = item.U32Le (le bytes)
unspell kind.U32Be bytes = item.U32Be (be bytes)
unspell kind.I32Le bytes = item.I32Le (twos_complement 32 (le bytes))
unspell kind.I32Be bytes = item.I32Be (twos_complement 32 (be bytes))
unspell kind.U64Le bytes = item.U64Le (le bytes)
unspell kind.U64Be bytes = item.U64Be (be bytes)
unspell kind.I64Le bytes = item.I64Le (twos_complement 64 (le bytes))
unspell kind.I64Be bytes = item.I64Be (twos_complement 64 (be bytes))

-- the bytes of an item
abbrev pub spell : Item → List ℕ
spell (item.U8 n) = low_bytes 1 n
spell (item.I8 n) = low_bytes 1 (modulo 8 n)
spell (item.U16Le n) = low_bytes 2 n
spell (item.U16Be n) = reverse (low_bytes 2 n)
spell (item.I16Le n) = low_bytes 2 (modulo 16 n)
spell (item.I16Be n) = reverse (low_bytes 2 (modulo 16 n))
spell (item.U32Le n) = low_bytes 4 n
spell (item.U32Be n) = reverse (low_bytes 4 n)
spell (item.I32Le n) = low_bytes 4 (modulo 32 n)
spell (item.I32Be n) = reverse (low_bytes 4 (modulo 32 n))
spell (item.U64Le n) = low_bytes 8 n
spell (item.U64Be n) = reverse (low_bytes 8 n)
spell (item.I64Le n) = low_bytes 8 (modulo 64 n)
spell (item.I64Be n) = reverse (low_bytes 8 (modulo 64 n))

-- how many bytes items of these kinds have
abbrev pub widths : List Kind → ℕ
widths [] = 0
widths (k ∷ kinds) = width k + widths kinds

-- the items of these kinds that bytes store, one after another
abbrev pub unspell_all : List Kind → List ℕ → List Item
unspell_all [] bytes = []
unspell_all (k ∷ kinds) bytes =
    unspell k (take (width k) bytes) ∷ unspell_all kinds (drop (width k) bytes)

-- the bytes of items, one after another
abbrev pub spell_all : List Item → List ℕ
spell_all [] = []
spell_all (i ∷ items) = spell i ++ spell_all items

-- These bytes store the item: there are as many as its kind has, and read as that kind they give
-- the item.
pub record Spells (bytes : List ℕ) (i : Item) : Type 0 where
  pub are_bytes : AreBytes bytes
  pub count : length bytes ≡ width (item_kind i)
  pub item : unspell (item_kind i) bytes ≡ i

-- An item has exactly one form in bytes. So has a list of items of known kinds, which give its
-- length. A list is read back from its bytes, whatever follows them, and what follows remains.
pub record ItemLaw : Type 0 where
  pub spell_holds : (i : Item) → InType i → Spells (spell i) i
  pub spell_only : (i : Item) (bytes : List ℕ) → InType i → Spells bytes i → bytes ≡ spell i
  pub once : (xs ys : List Item) → All InType xs → All InType ys →
      map item_kind xs ≡ map item_kind ys → spell_all xs ≡ spell_all ys → xs ≡ ys
  pub count : (items : List Item) → All InType items →
      length (spell_all items) ≡ widths (map item_kind items)
  pub read_back : (items : List Item) (after : List ℕ) → All InType items →
      unspell_all (map item_kind items) (spell_all items ++ after) ≡ items
  pub leave_rest : (items : List Item) (after : List ℕ) → All InType items →
      drop (widths (map item_kind items)) (spell_all items ++ after) ≡ after
