use Rattle.std.proofs.Common.{◌≡◌, ◌/◌, ◌≤◌, ◌++◌, drop, length, take, arith}
use Rattle.std.proofs.Common.{length-append}
use Rattle.std.proofs.lemmas.List.{length-take-le, take-append-le}
use Rattle.std.proofs.Math.Seq.{take-length}
use Rattle.sketch_bloom.specs.Filter.{IsFoldable}
use Rattle.sketch_bloom.specs.FoldRate.{fold, whole}
use Rattle.sketch_bloom.proofs.folds.fold_to.Goals as goal

pub loop-bytes-init : goal.loop-bytes-init
loop-bytes-init c =
    (omega arith, c.in_ok-check_length.ensures, rw (take-length c.args.filter.now) whole)

pub loop-bytes-preserved : goal.loop-bytes-preserved
loop-bytes-preserved c =
    let bytes = c.loop-bytes.bytes in
    let filter = c.loop-bytes.filter in
    let (inside, is_length, within) = c.loop-bytes.invariant in
    let long = length-take-le bytes filter inside in
    let after = c.fold_blocks.new.filter in
    let folds = rw long at c.fold_blocks.ensures.0 in
    let first : take (bytes / 2) (after ++ drop bytes filter) ≡ take (bytes / 2) after =
    take-append-le (bytes / 2) after (drop bytes filter) (omega (arith, long, c.fold_blocks.auto.filter)) in
    let rate = (c.has_rate_folded.ensures (take (bytes / 2) after) folds).0 c.if-has_rate_folded.true in
    let half : bytes / 2 ≤ length after = omega (arith, long, c.fold_blocks.auto.filter) in
    let foldable : IsFoldable (length (take bytes filter)) =
    rw long (is_length, c.loop-bytes-test.true) in (
      omega (arith, half, length-append after (drop bytes filter)),
      (omega arith, omega arith, omega arith),
      rw first (fold (take bytes filter) (take (bytes / 2) after) within foldable folds rate),
    )
