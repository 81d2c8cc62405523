use Rattle.std.proofs.Common.{◌≡◌, ◌++◌, ◌+◌, length, take, ap, ◌∙◌, arith, length-append}
use Rattle.std.proofs.KnownBytes.{Consumes-trans}
use Rattle.sketchsum.proofs.run.read_into.Goals as goal

pub loop-turn-preserved : goal.loop-turn-preserved
loop-turn-preserved g c =
    let before = c.loop-turn.invariant in
    let given = c.in-Ok.ensures in
    let piece = take c.in-Ok.count c.read.new.buf in
    let longer : length (before.0 ++ piece) ≡ length before.0 + length piece =
    length-append before.0 piece in (
      before.0 ++ piece,
      Consumes-trans _ _ _ _ _ before.1 given.bytes.0,
      (
        c.write.ensures ∙ ap (λ h. g.H.Hasher.after h piece) before.2.0 ∙ g.met.H.Hasher.joins _ _ _,
        rw longer (omega (arith, before.2.1, given.bound)),
        rw longer (omega (arith, before.2.2, given.bound)),
      ),
    )
