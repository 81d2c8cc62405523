-- What a reader and a writer of bytes return. A reader is the list of the bytes that remain.
use Rattle.std.specs.Prelude.{ℕ, ◌+◌, ◌<◌, ◌≤◌, ◌≡◌, List, [], ◌++◌, length, take, drop, codes, Result, Ok, Err, MatchResult, IfErr}
use Rattle.std.specs.List.{All}
use Rattle.std.specs.Fmt.{decimal}
use Rattle.std.specs.declared.alloc.AllocError.{AllocError}
use Rattle.std.specs.declared.io.Error.{Error}
use Rattle.std.specs.declared.io.ErrorKind.TheVariants.{UnexpectedEof}
use Rattle.std.specs.IoError.{error_kind}
use Rattle.sketch_base.specs.declared.codec.decode.Short.{Short}
use Rattle.sketch_base.specs.declared.codec.encode.Stopped.{Stopped}
use Rattle.sketch_base.specs.declared.codec.item.Item.{Item}
use Rattle.sketch_base.specs.declared.codec.item.Kind.{Kind}
use Rattle.sketch_base.specs.Items.{InType, widths, spell_all, unspell_all}

-- A read of count bytes returns their value and consumes them. If fewer remain, it fails and
-- nothing remains.
abbrev pub Reads : {X : Type 0} → ℕ → (List ℕ → X) → List ℕ → Result X Error → List ℕ → Type 0
Reads count value before result after = MatchResult result
    (λ x. (count ≤ length before) × (x ≡ value (take count before)) × (after ≡ drop count before))
    (λ error. (length before < count) × (error_kind error ≡ UnexpectedEof) × (after ≡ []))

-- A read of one item of each kind into places fills each place and consumes the bytes. If too few
-- remain, it fills the places before the first item that is cut off, leaves the others unchanged,
-- and nothing remains.
abbrev pub ReadsItems : List Kind → List ℕ → List Item → Result (Unit {0}) Short → List ℕ →
    List Item → Type 0
ReadsItems kinds before places result after placed = MatchResult result
    (λ _. (widths kinds ≤ length before) × (placed ≡ unspell_all kinds before) × (after
    ≡ drop (widths kinds) before))
    (λ short. (short.read < length kinds)
    × (widths (take short.read kinds) ≤ length before)
    × (length before < widths (take (short.read + 1) kinds))
    × (placed ≡ unspell_all (take short.read kinds) before ++ drop short.read places)
    × (after ≡ []))

-- the text of the error for a list of items that is cut off
abbrev pub short_text : ℕ → List ℕ
short_text read = codes "insufficient data after " ++ decimal read ++ codes " items"

-- A writer: the bytes written, and the capacity. A write after which there are at most `room` bytes
-- does not fail.
pub record WriterValue : Type 0 where
  pub bytes : List ℕ
  pub room : ℕ

-- A write appends its bytes, or fails because they do not fit, and then changes nothing. The
-- capacity never shrinks, and what was written fits it.
pub record Writes (bytes : List ℕ) (before : WriterValue) (result : Result (Unit {0}) AllocError)
    (after : WriterValue) : Type 0 where
  pub outcome : MatchResult result
      (λ _. after.bytes ≡ before.bytes ++ bytes)
      (λ _. (after ≡ before) × (before.room < length (before.bytes ++ bytes)))
  pub room : before.room ≤ after.room
  pub fits : length after.bytes ≤ after.room

-- the items that were written: all of them, or those before the one that failed
abbrev pub accepted_items : List Item → Result (Unit {0}) Stopped → List Item
accepted_items items (Ok _) = items
accepted_items items (Err stopped) = take stopped.accepted items

-- A write of items appends the bytes of those that are accepted, in order. Each of these is in the
-- range of its type. The write stops only at an item that does not fit at that moment. The capacity
-- never shrinks, and what was written fits it.
pub record WritesItems (items : List Item) (before : WriterValue)
    (result : Result (Unit {0}) Stopped) (after : WriterValue) : Type 0 where
  pub written : after.bytes ≡ before.bytes ++ spell_all (accepted_items items result)
  pub in_type : All InType (accepted_items items result)
  pub stopped : IfErr result (λ stopped. (stopped.accepted < length items)
      × (after.room < length (before.bytes ++ spell_all (take (stopped.accepted + 1) items))))
  pub room : before.room ≤ after.room
  pub fits : length after.bytes ≤ after.room

-- the text of the error for a list of items that was written in part
abbrev pub stopped_text : ℕ → List ℕ
stopped_text accepted = codes "out of memory after " ++ decimal accepted ++ codes " items"
