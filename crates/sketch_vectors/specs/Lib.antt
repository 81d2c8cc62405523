-- The state of a hasher that keeps the first 64 bytes, and the laws of its writes.
use Rattle.std.specs.Prelude.{◌≡◌, ℕ, zero, suc, List, [], ◌∷◌, ◌++◌, take, refl}
use Rattle.std.proofs.Common.{sym, ap, ◌∙◌, append_assoc}
use Rattle.std.proofs.lemmas.List.{append-nil}

-- the bytes kept after a write: the first 64 of those kept and those written
abbrev pub kept_after : List ℕ → List ℕ → List ℕ
kept_after kept [] = kept
kept_after kept (b ∷ bytes) = take 64 (kept ++ b ∷ bytes)

-- bytes after the first 64 are dropped, now or with the next write
take-take-append : (n : ℕ) (xs ys : List ℕ) → take n (take n xs ++ ys) ≡ take n (xs ++ ys)
take-take-append zero xs ys = refl
take-take-append (suc n) [] ys = refl
take-take-append (suc n) (x ∷ xs) ys = ap (λ t. x ∷ t) (take-take-append n xs ys)

pub kept_after-append : (kept xs ys : List ℕ) →
    kept_after (kept_after kept xs) ys ≡ kept_after kept (xs ++ ys)
kept_after-append kept [] ys = refl
kept_after-append kept (x ∷ xs) [] = ap (λ t. take 64 (kept ++ x ∷ t)) (sym (append-nil xs))
kept_after-append kept (x ∷ xs) (y ∷ ys) =
    take-take-append 64 (kept ++ x ∷ xs) (y ∷ ys)
    ∙ ap (take 64) (append_assoc kept (x ∷ xs) (y ∷ ys))

pub kept_after-empty : (kept : List ℕ) → kept_after kept [] ≡ kept
kept_after-empty kept = refl
