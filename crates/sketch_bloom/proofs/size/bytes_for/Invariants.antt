use Rattle.std.proofs.Common.{ℕ, ◌<◌}
use Rattle.sketch_bloom.specs.Size.{KeepsRate}
use Rattle.sketch_bloom.proofs.size.bytes_for.Given as goal

-- no smaller filter keeps the rate
abbrev pub invariant-loop-log2_blocks : goal.invariant-loop-log2_blocks
invariant-loop-log2_blocks l =
    (smaller : ℕ) → smaller < l.log2_blocks → KeepsRate l.keys smaller l.one_in → ⊥
