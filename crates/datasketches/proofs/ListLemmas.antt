-- Lists of one length that agree outside a range, and the parts of a list.
use Rattle.std.proofs.Common.{◌≡◌, ℕ, ◌+◌, ◌-◌, ◌<◌, ◌≤◌, inl, inr, List, ◌∷◌, ◌++◌, length, take, drop, get_or, min, sym, ap, ◌∙◌, arith, length-take, length-drop, append_assoc}
use Rattle.std.proofs.lemmas.List.{same_lists, get_or-take, get_or-drop, drop-drop, drop_more, take-append-drop, take_all}
use Rattle.datasketches.specs.Laws.{AgreeOutside}

pub agree-prefix : {X : Type 0} (low high : ℕ) (a b : List X) → length a ≡ length b →
    AgreeOutside low high a b → take low a ≡ take low b
agree-prefix low high a b e h =
    same_lists (take low a) (take low b)
    (length-take low a ∙ ap (min low) e ∙ sym (length-take low b))
    (λ k d l.
    let within : k < low = omega (arith, length-take low a) in
    get_or-take low a k d within ∙ h k d (inl within) ∙ sym (get_or-take low b k d within))

pub agree-suffix : {X : Type 0} (low high : ℕ) (a b : List X) → length a ≡ length b →
    AgreeOutside low high a b → drop high a ≡ drop high b
agree-suffix low high a b e h =
    same_lists (drop high a) (drop high b)
    (length-drop high a ∙ ap (λ n. n - high) e ∙ sym (length-drop high b))
    (λ k d l. get_or-drop high a k d ∙ h (high + k) d (inr (omega arith)) ∙ sym (get_or-drop high b k d))

-- where the range is beyond both lists, they are the same
pub agree-beyond : {X : Type 0} (low high : ℕ) (a b : List X) → length a ≡ length b →
    AgreeOutside low high a b → length a ≤ low → a ≡ b
agree-beyond low high a b e h beyond =
    sym (take_all low a beyond) ∙ agree-prefix low high a b e h ∙ take_all low b (omega arith)

-- a list is its prefix, its middle and its back
pub three_parts : {X : Type 0} (low n : ℕ) (a : List X) →
    take low a ++ take n (drop low a) ++ drop (low + n) a ≡ a
three_parts low n a =
    append_assoc (take low a) (take n (drop low a)) (drop (low + n) a)
    ∙ ap (λ t. take low a ++ (take n (drop low a) ++ t)) (sym (drop-drop n low a))
    ∙ ap (λ t. take low a ++ t) (take-append-drop n (drop low a)) ∙ take-append-drop low a

-- a list is its prefix, one element, and its back
pub parts_at : {X : Type 0} (a : List X) (i : ℕ) (d : X) → i < length a →
    take i a ++ get_or a i d ∷ drop (i + 1) a ≡ a
parts_at a i d l = ap (λ t. take i a ++ t) (sym (drop_more a i d l)) ∙ take-append-drop i a
