use Rattle.std.proofs.Common.{◌↔◌, ◌⊎◌, ◌<◌, ℕ, get_or}
use Rattle.sketch_member.specs.Table.{table_of, IsIndex, IsSet}
use Rattle.sketch_member.proofs.filter.Filter.insert.Given as goal

-- so far as the value has j indexes
abbrev pub invariant-loop-j : goal.invariant-loop-j
invariant-loop-j g l =
    ((i : ℕ) → IsSet l.bits i ↔ (IsSet l.fn.bits i
    ⊎ IsIndex (table_of (record l.self { hashes = l.j }) l.fn.bits) (g.T.Hash.fed l.value) i))
    × ((k : ℕ) → get_or l.bits k 0 < 256)
