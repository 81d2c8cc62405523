use Rattle.std.proofs.Common.{◌^◌, ◌≤◌, refl, arith}
use Rattle.std.proofs.Math.Nat.{pow-le-pow_right}
use Rattle.sketch_bloom.proofs.size.bytes_for.Goals as goal

pub returns-then-keeps_rate-clause-most : goal.returns-then-keeps_rate-clause-most
returns-then-keeps_rate-clause-most c =
    let l = c.loop-log2_blocks in
    let last : l.log2_blocks ≤ 22 = omega (arith, c.loop-log2_blocks-test.true, l.auto) in
    let below : 2 ^ l.log2_blocks ≤ 2 ^ 22 = pow-le-pow_right (omega arith) last in
    (refl, omega (arith, below))
