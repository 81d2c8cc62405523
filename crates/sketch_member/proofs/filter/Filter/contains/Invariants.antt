use Rattle.sketch_member.specs.Table.{table_of, IsMember}
use Rattle.sketch_member.proofs.filter.Filter.contains.Given as goal

abbrev pub invariant-loop-j : goal.invariant-loop-j
invariant-loop-j g l = IsMember (table_of (record l.self { hashes = l.j }) l.bits) (g.T.Hash.fed l.value)
