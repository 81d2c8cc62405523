use Rattle.std.proofs.Common.{◌≡◌, ◌++◌, length, take, ◌≤◌}
use Rattle.std.specs.List.{All}
use Rattle.sketch_base.specs.Items.{InType, spell_all}
use Rattle.sketch_base.proofs.codec.encode.SketchBytes.write_items.Given as goal

abbrev pub invariant-loop-accepted : goal.invariant-loop-accepted
invariant-loop-accepted l = record {
  written : l.self.bytes ≡ l.initial.self.bytes ++ spell_all (take l.accepted-counter l.items);
  in_type : All InType (take l.accepted-counter l.items);
  room : l.initial.self.room ≤ l.self.room;
  fits : length l.self.bytes ≤ l.self.room;
}
