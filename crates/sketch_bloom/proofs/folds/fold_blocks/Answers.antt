use Rattle.std.proofs.Common.{◌≡◌, ◌+◌, ◌*◌, ◌/◌, ◌≤◌, length, arith}
use Rattle.sketch_bloom.proofs.FoldLemmas.{folds, left_right, one_more, right_left, same_rest}
use Rattle.sketch_bloom.proofs.folds.fold_blocks.Goals as goal

pub loop-i-preserved : goal.loop-i-preserved
loop-i-preserved c =
    let l = c.loop-i in
    let inside : 64 * l.i + 64 ≤ length l.filter = omega (arith, l.auto.filter) in
    let one = left_right l.filter l.i inside in
    let other = right_left l.filter l.i inside in
    one_more c.args.filter.now l.filter _ l.i inside (record {
      long = grind (arith, one.long, other.long);
      bytes = λ j low. grind (arith, one.bytes j low, other.bytes j low);
    })
    l.invariant

pub returns : goal.returns
returns c =
    let l = c.loop-i in
    let before = c.args.filter.now in
    let half : length before / 2 ≡ 32 * l.i = omega (arith, l.auto.i-end) in (
      rw half (folds before l.filter l.i (omega (arith, l.auto.i-end)) (omega (arith, l.auto)) l.invariant),
      rw half (same_rest before l.filter l.i l.auto.filter l.invariant),
    )
