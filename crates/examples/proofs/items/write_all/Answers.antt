use Rattle.std.proofs.Common.{◌+◌, ◌≤◌, ◌++◌, List, Result, Ok, Err, IsOk, length, take, length-append, arith}
use Rattle.datasketches.specs.Codec.{WriterValue, WritesItems}
use Rattle.datasketches.specs.Items.{spell_all}
use Rattle.datasketches.specs.declared.codec.Item.{Item}
use Rattle.datasketches.specs.declared.codec.Stopped.{Stopped}
use Rattle.datasketches.proofs.CallerLemmas.{length-spell_all-take}
use Rattle.examples.proofs.items.write_all.Goals as goal

-- Items stop only if they do not all fit.
all_written : (items : List Item) (before after : WriterValue) (result : Result (Unit {0}) Stopped) →
    WritesItems items before result after →
    length (before.bytes ++ spell_all items) ≤ before.room → IsOk result
all_written items before after (Ok _) writes fits = search arith
all_written items before after (Err stopped) writes fits = absurd (
    omega (
      arith,
      fits,
      writes.room,
      writes.stopped.1,
      length-append before.bytes (spell_all items),
      length-append before.bytes (spell_all (take (stopped.accepted + 1) items)),
      length-spell_all-take (stopped.accepted + 1) items,
    ))

pub returns-clause-room : goal.returns-clause-room
returns-clause-room c =
    all_written c.args.items.now c.args.writer.now _ c.write_items.result c.write_items.ensures
