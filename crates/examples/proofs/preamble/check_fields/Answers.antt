use Rattle.std.proofs.Common.{rules, ◌≡◌, sym}
use Rattle.datasketches.specs.SeedHash.{seed_hash}
use Rattle.examples.specs.{RefusesFields}
use Rattle.examples.proofs.preamble.check_fields.Goals as goal

-- src/preamble.rt:35:1
pub returns : goal.returns
unfolding RefusesFields
returns c =
    let is : c.in_ok-expected.expected ≡ seed_hash c.args.seed = search rules in
    rw (sym is) (search rules)
