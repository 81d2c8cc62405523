use Rattle.std.proofs.Common.{◌≡◌, ◌↔◌, ◌+◌, ◌-◌, ℕ, List, Bool, Result, Ok, Err, MatchResult, IsTrue, length, arith}
use Rattle.std.proofs.lemmas.Simd.{length-chunk}
use Rattle.sketch_bloom.specs.declared.fault.Fault.{Fault}
use Rattle.sketch_bloom.specs.Filter.{IsLength, IsLengthFault, IsMember}
use Rattle.examples.proofs.bloom_filter.contains_by_block.Goals as goal

-- A block of 32 bytes is a filter, so only the answer of `contains_hash` is left.
of_block : (filter block : List ℕ) (hash : ℕ) (result : Result Bool Fault) → length block ≡ 32 →
    (IsMember filter hash ↔ IsMember block hash) → MatchResult result
    (λ found. IsLength (length block) × (IsTrue found ↔ IsMember block hash)) (IsLengthFault (length block)) →
    MatchResult result (λ found. IsTrue found ↔ IsMember filter hash) (IsLengthFault (length filter))
of_block filter block hash (Ok found) long alone (is_length, iff) =
    ((λ is. alone.1 (iff.0 is)), (λ member. iff.1 (alone.0 member)))
of_block filter block hash (Err fault) long alone (none, is) =
    absurd (none (omega (arith, long), omega (arith, long), omega (arith, long)))

pub returns : goal.returns
returns c =
    let filter = c.args.filter.now in
    let offset = c.in_ok-offset.offset in
    let (is_length, is, inside) = c.in_ok-offset.ensures in
    let width : offset + 32 - offset ≡ 32 = omega arith in
    let asked = rw width at c.contains_hash.ensures in
    let alone = rw (← is) at (c.block_law.ensures.alone filter c.xxh64-hash.result is_length (omega arith)) in
    let answer = of_block filter _ c.xxh64-hash.result c.contains_hash.result
    (length-chunk offset 32 filter inside) alone asked in
    rw (c.xxh64-hash.ensures, c.from_slice.ensures) at answer
