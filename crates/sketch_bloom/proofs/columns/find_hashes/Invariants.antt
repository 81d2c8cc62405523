use Rattle.std.proofs.Common.{◌≡◌, ◌+◌, ◌<◌, ℕ, get_or}
use Rattle.sketch_bloom.specs.Columns.{IsAnswer}
use Rattle.sketch_bloom.proofs.columns.find_hashes.Given as goal

-- the first i answers are written
abbrev pub invariant-loop-i : goal.invariant-loop-i
invariant-loop-i l =
    ((k : ℕ) → k < l.i → IsAnswer l.filter (get_or l.hashes k 0) (get_or l.found (l.start + k) 0))
    × ((k : ℕ) → k < l.start → get_or l.found k 0 ≡ get_or l.fn.found k 0)
