use Rattle.std.proofs.Common.{◌≡◌, ◌<◌, ℕ, get_or}
use Rattle.sketch_bloom.proofs.header.has_prefix.Given as goal

-- the first i bytes are the same
abbrev pub invariant-loop-i : goal.invariant-loop-i
invariant-loop-i l =
    (k : ℕ) → k < l.i → get_or l.input k 0 ≡ get_or l.prefix k 0
