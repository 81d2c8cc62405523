use Rattle.std.proofs.Common.{get_or, arith}
use Rattle.std.proofs.lemmas.List.{get_or-set_same, get_or-set_other}
use Rattle.std.proofs.lemmas.Nat.{or_comm}
use Rattle.sketch_bloom.proofs.filter.merge.Goals as goal

-- the two bytes are joined by or, in either order
pub loop-i-preserved : goal.loop-i-preserved
loop-i-preserved c =
    let l = c.loop-i in (
      (λ k few. grind (
        arith,
        c.loop-i-test.true,
        l.auto,
        l.invariant.0 k,
        l.invariant.1 k,
        get_or-set_same l.into l.i,
        get_or-set_other l.into l.i k,
        or_comm (get_or l.into l.i 0) (get_or c.args.from.now l.i 0),
      )),
      (λ k late. grind (arith, l.invariant.1 k, get_or-set_other l.into l.i k)),
    )
