use Rattle.std.proofs.Common.{◌≡◌, ◌<◌, ◌≤◌, ℕ, get_or, bit_or}
use Rattle.sketch_bloom.proofs.filter.merge.Given as goal

-- the first i bytes are joined, and the others are as they were
abbrev pub invariant-loop-i : goal.invariant-loop-i
invariant-loop-i l =
    ((k : ℕ) → k < l.i → get_or l.into k 0 ≡ bit_or (get_or l.fn.into k 0) (get_or l.from k 0))
    × ((k : ℕ) → l.i ≤ k → get_or l.into k 0 ≡ get_or l.fn.into k 0)
