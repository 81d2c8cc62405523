use Rattle.sketch_bloom.proofs.FoldLemmas.{AreFolded}
use Rattle.sketch_bloom.proofs.folds.fold_blocks.Given as goal

abbrev pub invariant-loop-i : goal.invariant-loop-i
invariant-loop-i l = AreFolded l.fn.filter l.filter l.i
