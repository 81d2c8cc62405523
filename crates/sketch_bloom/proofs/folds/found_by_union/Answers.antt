use Rattle.std.proofs.Common.{◌≤◌, refl, ◌∙◌, arith}
use Rattle.sketch_bloom.specs.FoldRate.{found_by_words}
use Rattle.sketch_bloom.proofs.FoldRateLemmas.{few_ones, product_fits, product_is, product_le, word_of_union}
use Rattle.sketch_bloom.proofs.folds.found_by_union.Goals as goal

pub loop-w-init : goal.loop-w-init
unfolding found_by_words
loop-w-init c = (omega arith, λ folded folds. refl)

pub overflow_mul-found : goal.overflow_mul-found
overflow_mul-found c =
    let l = c.loop-w in
    let count = c.from-found in
    let ones = few_ones c.word-left.result c.word-right.result (omega arith) (omega arith) in
    let few : count.result ≤ 32 = omega (arith, ones) in
    let fits = product_fits l.found count.result l.w (omega arith) l.invariant.0 few in
    record { fits = omega (arith, fits) }

pub loop-w-preserved : goal.loop-w-preserved
loop-w-preserved c =
    let l = c.loop-w in
    let left = c.word-left in
    let right = c.word-right in
    let count = c.from-found in
    let ones = few_ones left.result right.result (omega arith) (omega arith) in
    let few : count.result ≤ 32 = omega (arith, ones) in (
      product_le l.found count.result l.w l.invariant.0 few,
      (λ folded folds. product_is folded c.args.k l.w l.found count.result
          (l.invariant.1 folded folds)
          (count.ensures ∙ word_of_union c.args.filter.now folded c.args.k l.w left.result
          right.result folds (omega arith) (omega arith) (omega arith) left.ensures right.ensures)),
    )
