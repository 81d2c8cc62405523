use Rattle.std.proofs.Common.{◌≡◌, ◌+◌, ◌-◌, ◌/◌, ◌<◌, ℕ, get_or, arith}
use Rattle.std.proofs.lemmas.Bool.{cases_lt}
use Rattle.std.proofs.lemmas.List.{get_or_past}
use Rattle.std.proofs.lemmas.Simd.{get_or-chunk}
use Rattle.sketch_bloom.proofs.FoldRateLemmas.{digit_of_word}
use Rattle.sketch_bloom.proofs.folds.word.Goals as goal

pub returns : goal.returns
returns c b low =
    let bytes = c.copy_from_slice.new.self in
    let filter = c.args.filter.now in
    let start = c.args.start in
    let long = c.copy_from_slice.ensures.len in
    let four : start + 4 - start ≡ 4 = omega arith in
    let part = rw four at c.copy_from_slice.ensures.after in
    let byte : (i : ℕ) → i < 4 → get_or bytes i 0 ≡ get_or filter (start + i) 0 =
    λ i within. rw part (get_or-chunk start 4 filter i 0 within) in
    let fits : (i : ℕ) → get_or bytes i 0 < 256 = λ i. grind (
      arith,
      cases_lt i 4,
      long,
      byte i,
      get_or_past bytes i 0,
      (c.type_inv.filter (start + i)).fits,
    ) in
    let here = byte (b / 8) (omega arith) in
    rw here at (digit_of_word bytes c.from_le_bytes.result long fits c.from_le_bytes.ensures b low)
