use Rattle.std.proofs.Common.{rules}
use Rattle.sketch_bloom.proofs.ColumnLemmas.{answers_run}
use Rattle.sketch_bloom.specs.Columns.{IsAnswer}
use Rattle.sketch_bloom.proofs.columns.contains_each.Goals as goal

pub loop-start-preserved : goal.loop-start-preserved
loop-start-preserved g c = (
  search rules,
  answers_run (IsAnswer c.args.filter.now) _ _ _ _ _ c.hash_run.ensures.each c.loop-start.invariant.1
      c.find_hashes.ensures.each c.find_hashes.ensures.before,
)
