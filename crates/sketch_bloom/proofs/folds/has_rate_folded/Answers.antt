use Rattle.std.proofs.Common.{refl, ◌∙◌, arith}
use Rattle.sketch_bloom.specs.FoldRate.{found_by_blocks}
use Rattle.sketch_bloom.proofs.FoldRateLemmas.{sum_is}
use Rattle.sketch_bloom.proofs.folds.has_rate_folded.Goals as goal

pub loop-k-init : goal.loop-k-init
unfolding found_by_blocks
loop-k-init c = (omega arith, λ folded folds. refl)

pub loop-k-preserved : goal.loop-k-preserved
loop-k-preserved c = (
  omega arith,
  (λ folded folds. sum_is folded c.loop-k.k c.loop-k.found c.from-found.result
      (c.loop-k.invariant.1 folded folds)
      (c.from-found.ensures ∙ c.found_by_union.ensures.value folded folds)),
)
