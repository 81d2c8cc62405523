use Rattle.std.proofs.Common.{map, take}
use Rattle.sketch_bloom.specs.Filter.{InsertsAll, hash_of}
use Rattle.sketch_bloom.proofs.columns.insert_each_value.Given as goal

abbrev pub invariant-loop-value : goal.invariant-loop-value
invariant-loop-value g l = InsertsAll
    (take l.value-index (map (λ value. hash_of (g.T.Hash.fed value)) l.values)) l.fn.filter l.filter
