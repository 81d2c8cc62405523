use Rattle.std.proofs.Common.{rules}
use Rattle.sketch_bloom.proofs.ColumnLemmas.{inserts_next}
use Rattle.sketch_bloom.proofs.columns.insert_hashes.Goals as goal

pub loop-hash-preserved : goal.loop-hash-preserved
loop-hash-preserved c = search (rules, inserts_next)
