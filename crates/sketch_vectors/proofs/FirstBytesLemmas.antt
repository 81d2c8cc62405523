-- The test hasher keeps a byte if it has fewer than 64.
use Rattle.std.proofs.Common.{◌≡◌, ℕ, ◌<◌, ◌≤◌, ◌+◌, List, [], ◌∷◌, ◌++◌, length, take, set, get_or, ◌∙◌, ap, sym, arith}
use Rattle.std.proofs.lemmas.List.{take_more, take_more_set, take_all, take-append-le, length-take-le, length_push}
use Rattle.sketch_vectors.specs.{kept_after, kept_after-append}

-- one byte more is kept if fewer than 64 are
pub with_room : (xs : List ℕ) (n y : ℕ) → n < 64 → length xs ≡ 64 →
    take (n + 1) (set xs n y) ≡ take 64 (take n xs ++ y ∷ [])
with_room xs n y h long =
    let kept = length-take-le n xs (omega arith) in
    let more = length_push (take n xs) y in
    take_more_set xs n y (omega arith) ∙ sym (take_all 64 (take n xs ++ y ∷ []) (omega arith))

-- one byte more is dropped if 64 are kept
pub without_room : (xs : List ℕ) (n y : ℕ) → n ≤ 64 → 64 ≤ n → length xs ≡ 64 →
    take 64 (take n xs ++ y ∷ []) ≡ take n xs
without_room xs n y h k long =
    let kept = length-take-le n xs (omega arith) in
    take-append-le 64 (take n xs) (y ∷ []) (omega arith) ∙ take_all 64 (take n xs) (omega arith)

pub ruleset for_keep = (with_room, without_room)

-- after the first i + 1 bytes of a write
pub kept_more : (kept bytes now : List ℕ) (i : ℕ) → i < length bytes →
    now ≡ kept_after kept (take i bytes) →
    kept_after kept (take (i + 1) bytes) ≡ take 64 (now ++ get_or bytes i 0 ∷ [])
kept_more kept bytes now i within is =
    ap (kept_after kept) (take_more bytes i 0 within)
    ∙ sym (kept_after-append kept (take i bytes) (get_or bytes i 0 ∷ []))
    ∙ ap (λ h. kept_after h (get_or bytes i 0 ∷ [])) (sym is)
