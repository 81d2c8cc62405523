use Rattle.std.proofs.Common.{◌<◌, ◌≤◌, ◌∷◌, ℕ, length, map, slice_index}
use Rattle.sketch_hash.proofs.hash.columns.all_bound.Given as goal

-- None of the offsets so far is below the one before it, or above the last of them.
abbrev pub invariant-loop-i : goal.invariant-loop-i
invariant-loop-i g l =
    let places = map g.O.Offset.place l.offsets in
    ((j : ℕ) → j ≤ l.i → slice_index (0 ∷ places) j ≤ slice_index places j)
    × ((j : ℕ) → j ≤ l.i → slice_index places j ≤ slice_index places l.i)
    × (l.keys < length places) × (slice_index places l.keys ≤ length l.bytes)
