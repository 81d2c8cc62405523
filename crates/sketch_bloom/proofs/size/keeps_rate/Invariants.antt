use Rattle.std.proofs.Common.{◌≡◌, ℕ, suc, ◌*◌, ◌^◌, ◌<◌, ◌≤◌}
use Rattle.sketch_bloom.proofs.SizeLemmas.{Reached}
use Rattle.sketch_bloom.proofs.size.keeps_rate.Given as goal

-- no sum exceeds its type, and each has the terms below k
abbrev pub invariant-loop-k : goal.invariant-loop-k
invariant-loop-k l =
    (l.weight < 2 ^ 48) × (l.clear ≤ 2 ^ 50) × (l.all ≤ l.k * 2 ^ 55) × (l.found ≤ l.k * 2 ^ 115)
    × ((last : ℕ) × (l.k ≡ suc last)
    × Reached l.keys l.log2_blocks last l.weight l.all l.found l.clear)
