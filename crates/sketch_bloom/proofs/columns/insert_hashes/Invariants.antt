use Rattle.std.proofs.Common.{take}
use Rattle.sketch_bloom.specs.Filter.{InsertsAll}
use Rattle.sketch_bloom.proofs.columns.insert_hashes.Given as goal

abbrev pub invariant-loop-hash : goal.invariant-loop-hash
invariant-loop-hash l = InsertsAll (take l.hash-index l.hashes) l.fn.filter l.filter
