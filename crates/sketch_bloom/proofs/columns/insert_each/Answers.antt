use Rattle.std.proofs.Common.{rules, arith}
use Rattle.std.proofs.lemmas.List.{length-map}
use Rattle.sketch_bloom.proofs.ColumnLemmas.{inserts_run}
use Rattle.sketch_bloom.proofs.columns.insert_each.Goals as goal

pub loop-start-preserved : goal.loop-start-preserved
loop-start-preserved g c = (search rules, search (rules, inserts_run))

pub returns : goal.returns
returns g c = grind (arith, length-map c.args.offsets.now g.O.Offset.place)
