use Rattle.std.proofs.Common.{arith}
use Rattle.std.proofs.lemmas.Bool.Decides.{nat_tests}
use Rattle.examples.proofs.keys.is_same_number.Goals as goal

pub returns : goal.returns
returns c =
    let law = c.hash_u64_law.ensures c.args.seed (omega (arith, c.ranges.seed)) in
    grind (arith, nat_tests, law.once c.args.x c.args.y)
