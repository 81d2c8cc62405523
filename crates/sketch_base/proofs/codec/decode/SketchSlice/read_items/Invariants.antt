use Rattle.std.proofs.Common.{◌≡◌, ◌++◌, length, take, drop, ◌≤◌}
use Rattle.sketch_base.specs.Items.{unspell_all, widths}
use Rattle.sketch_base.proofs.codec.decode.SketchSlice.read_items.Given as goal

abbrev pub invariant-loop-read : goal.invariant-loop-read
invariant-loop-read l = record {
  fit : widths (take l.read-counter l.kinds) ≤ length l.initial.self;
  rest : l.self ≡ drop (widths (take l.read-counter l.kinds)) l.initial.self;
  placed : l.out
      ≡ unspell_all (take l.read-counter l.kinds) l.initial.self ++ drop l.read-counter l.initial.out;
}
