use Rattle.std.proofs.Common.{◌≡◌, ◌<◌, ◌∷◌, ℕ, get_or, map}
use Rattle.sketch_hash.specs.Columns.{IsBound}
use Rattle.sketch_hash.proofs.hash.columns.check_each_offset.Given as goal

abbrev pub invariant-loop-i : goal.invariant-loop-i
invariant-loop-i g l =
    let places = map g.O.Offset.place l.offsets in
    (l.last ≡ get_or (0 ∷ places) l.i 0) × ((j : ℕ) → j < l.i → IsBound l.bytes places j)
