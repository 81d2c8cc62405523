use Rattle.std.proofs.Common.{rules, arith, ◌≤◌, length, map, slice_index}
use Rattle.sketch_hash.proofs.hash.columns.all_bound.Goals as goal

pub returns : goal.returns
returns g c = λ _ i within.
    let places = map g.O.Offset.place c.args.offsets.now in
    let reached : i ≤ c.loop-i.i = omega arith in
    let last : slice_index places c.loop-i.i ≤ length c.args.bytes.now = search rules in
    let below : slice_index places i ≤ slice_index places c.loop-i.i = search rules in
    (omega arith, omega arith, search rules)
