use Rattle.std.proofs.Common.{[], ◌∷◌, ◌++◌, codes, take, string_bytes}
use Rattle.std.specs.List.{flat_map}
use Rattle.std.specs.Fmt.{HasWritten, IsPlainFormatter}
use Rattle.sketch_base.specs.ErrorValue.{pair_text}
use Rattle.sketch_base.proofs.error.write_context_lines.Given as goal

abbrev pub invariant-loop-key : goal.invariant-loop-key
invariant-loop-key g l = IsPlainFormatter l.initial.f → HasWritten g.W.Write.write_str_gives l.initial.f
    (flat_map (λ c. codes "   " ++ pair_text (record { key = c.0.now; text = string_bytes c.1 }) ++ 10 ∷ [])
    (take l.key-index l.contexts)) l.f
