use Rattle.std.proofs.Common.{rules}
use Rattle.std.proofs.lemmas.List.{get_or-map, length-map}
use Rattle.sketch_bloom.proofs.ColumnLemmas.{inserts_next}
use Rattle.sketch_bloom.specs.Filter.{hash_of}
use Rattle.sketch_bloom.proofs.columns.insert_each_value.Goals as goal

pub loop-value-preserved : goal.loop-value-preserved
loop-value-preserved g c =
    let is = get_or-map (λ value. hash_of (g.T.Hash.fed value)) c.args.values.now _ c.value-item.result 0
    c.loop-value-test.true in
    inserts_next _ _ _ _ _ _ (search (rules, length-map)) (search (rules, is)) c.loop-value.invariant
    c.insert_into.ensures
