use Rattle.std.proofs.Common.{◌<◌, ℕ, get_or, map}
use Rattle.sketch_bloom.specs.Columns.{IsAnswer}
use Rattle.sketch_bloom.specs.Filter.{hash_of}
use Rattle.sketch_bloom.proofs.columns.contains_each_value.Given as goal

-- the first i answers are written
abbrev pub invariant-loop-i : goal.invariant-loop-i
invariant-loop-i g l =
    let hashes = map (λ value. hash_of (g.T.Hash.fed value)) l.values in
    (k : ℕ) → k < l.i → IsAnswer l.filter (get_or hashes k 0) (get_or l.found k 0)
