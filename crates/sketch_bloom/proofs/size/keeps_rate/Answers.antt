use Rattle.std.proofs.Common.{◌≡◌, suc, ◌+◌, ◌∙◌, ◌^◌, refl, arith}
use Rattle.std.proofs.lemmas.Nat.{mul-le}
use Rattle.sketch_bloom.proofs.SizeLemmas.{first_term, with_larger_unit, with_same_unit}
use Rattle.sketch_bloom.proofs.size.keeps_rate.Goals as goal
use Rattle.sketch_bloom.proofs.size.keeps_rate.Goals.{then-is_large, else-is_large}

pub loop-k-init : goal.loop-k-init
loop-k-init c = (
  omega arith,
  omega arith,
  omega arith,
  omega arith,
  (0, refl, first_term c.args.keys c.args.log2_blocks),
)

pub loop-k-preserved : goal.loop-k-preserved
loop-k-preserved c =
    let (last, k_is, before) = c.loop-k.invariant.4 in
    let next = rw k_is at c.next_weight-weight.ensures.value in
    let share = c.from-in-loop-k.ensures ∙ c.covered.ensures.value in
    let parts = c.from-in-loop-k.result in
    let product = mul-le c.from.result parts (2 ^ 55) (2 ^ 60) (omega arith) (omega arith) in
    let suc_is : c.loop-k.k + 1 ≡ suc (suc last) = omega arith in
    elim c.if-is_large.branch [
      | then-is_large w ↦ (
        omega arith,
        omega arith,
        grind arith,
        grind (arith, product),
        (
          suc last,
          suc_is,
          rw (w.weight-is, w.all-is, w.found-is, c.from.ensures, share, next)
              (with_larger_unit before (rw (← next) (omega arith))),
        ),
      )
      | else-is_large w ↦ (
        omega arith,
        omega arith,
        grind arith,
        grind (arith, product),
        (
          suc last,
          suc_is,
          rw (w.weight-is, w.all-is, w.found-is, c.from.ensures, share, next)
              (with_same_unit before (rw (← next) (omega arith))),
        ),
      )
    ]
