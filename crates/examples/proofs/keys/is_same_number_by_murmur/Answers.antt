use Rattle.std.proofs.Common.{◌≡◌, ◌%◌, ◌^◌, pos, arith}
use Rattle.std.proofs.lemmas.Bool.Decides.{nat_tests}
use Rattle.examples.proofs.keys.is_same_number_by_murmur.Goals as goal

pub returns : goal.returns
returns c =
    let law = c.integer_law.ensures.murmur_modulo c.args.seed (pos c.args.x) (pos c.args.y)
    (omega (arith, c.ranges.seed)) in
    let x_fits : c.args.x % 2 ^ 64 ≡ c.args.x = omega (arith, c.ranges.x) in
    let y_fits : c.args.y % 2 ^ 64 ≡ c.args.y = omega (arith, c.ranges.y) in
    grind (arith, nat_tests, rw (x_fits, y_fits) at law)
