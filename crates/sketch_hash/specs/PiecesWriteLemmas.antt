-- Two writes leave what one write of the joined bytes leaves, and an empty write leaves the state:
-- the laws that both hashers prove.
use Rattle.std.specs.Prelude.{◌≡◌, ℕ, zero, suc, ◌+◌, ◌*◌, ◌/◌, ◌%◌, ◌^◌, ◌<◌, ◌≤◌, List, [], ◌∷◌, ◌++◌, length, drop, map, refl}
use Rattle.std.proofs.Common.{sym, ap, ◌∙◌, arith, append_assoc, length-append, length-drop, zero-add}
use Rattle.std.proofs.Math.Nat.{mul-add-div_right, div-mul-le_self, suc-mul, zero-mul, suc-add, add-mul}
use Rattle.std.proofs.lemmas.List.{append-nil, map-append, take-append-le, drop-append-le, drop-drop}
use Rattle.std.proofs.lemmas.List.Sums.{fold-append}
use Rattle.sketch_hash.specs.Pieces.{first_pieces, pieces, rest, State, absorb, state_after}
use Rattle.sketch_hash.specs.Murmur.{block_words, step, murmur_after}
use Rattle.sketch_hash.specs.Xxh64.{Lanes, seeded_step, xxh64_after}

-- The first pieces do not depend on what is joined after them.
first_pieces-append : (n m w : ℕ) (xs ys : List ℕ) → n * w ≤ length xs →
    first_pieces (n + m) w (xs ++ ys)
    ≡ first_pieces n w xs ++ first_pieces m w (drop (n * w) xs ++ ys)
first_pieces-append zero m w xs ys h = rw (zero-mul w, zero-add m) refl
first_pieces-append (suc n) m w xs ys h =
    let more : suc n * w ≡ n * w + w = suc-mul n w in
    let first : w ≤ length xs = omega (arith, more) in
    let others : n * w ≤ length (drop w xs) = rw (length-drop w xs) (omega (arith, more)) in
    let further : drop (n * w) (drop w xs) ≡ drop (suc n * w) xs = drop-drop (n * w) w xs
    ∙ ap (λ k. drop k xs) (omega (arith, more)) in
    let pieces_suffix = first_pieces-append n m w (drop w xs) ys others in
    let prefix = take-append-le w xs ys first in
    let suffix = drop-append-le w xs ys first in
    rw (suc-add n m, prefix, suffix, pieces_suffix, further) refl

-- how many pieces two joined lists have
piece_count : (w : ℕ) (xs ys : List ℕ) → 0 < w →
    length (xs ++ ys) / w ≡ length xs / w + length (drop (length xs / w * w) xs ++ ys) / w
piece_count w xs ys p =
    let within : length xs / w * w ≤ length xs = div-mul-le_self (length xs) w in
    let suffix = drop (length xs / w * w) xs in
    let split : length (xs ++ ys) ≡ length xs / w * w + length (suffix ++ ys) =
    rw (length-append suffix ys, length-drop, length-append xs ys) (omega arith) in
    ap (λ n. n / w) split ∙ mul-add-div_right p (length xs / w) (length (suffix ++ ys))

-- the full pieces of joined lists are those of the first, and those of its rest with the second
pub pieces-append : (w : ℕ) (xs ys : List ℕ) → 0 < w →
    pieces w (xs ++ ys) ≡ pieces w xs ++ pieces w (rest w xs ++ ys)
unfolding pieces rest
pieces-append w xs ys p =
    let count = piece_count w xs ys p in
    let within = div-mul-le_self (length xs) w in
    rw count (first_pieces-append (length xs / w) _ w xs ys within)

pub rest-append : (w : ℕ) (xs ys : List ℕ) → 0 < w → rest w (xs ++ ys) ≡ rest w (rest w xs ++ ys)
unfolding rest
rest-append w xs ys p =
    let n = length xs / w in
    let m = length (drop (n * w) xs ++ ys) / w in
    ap (λ k. drop k (xs ++ ys)) (ap (λ k. k * w) (piece_count w xs ys p) ∙ add-mul n m w)
    ∙ sym (drop-drop (m * w) (n * w) (xs ++ ys))
    ∙ ap (drop (m * w)) (drop-append-le (n * w) xs ys (div-mul-le_self (length xs) w))

-- what two writes absorb is what one write of the joined bytes absorbs
pub absorb-append : {P R : Type 0} (w : ℕ) (read : List ℕ → R) (f : P → R → P) → 0 < w →
    (state : State P) (xs ys : List ℕ) →
    absorb w read f (absorb w read f state xs) ys ≡ absorb w read f state (xs ++ ys)
unfolding absorb
absorb-append w read f p state xs ys =
    let so_far = state.waiting ++ xs in
    let first = pieces w so_far in
    let others = pieces w (rest w so_far ++ ys) in
    let joined : state.waiting ++ (xs ++ ys) ≡ so_far ++ ys =
    sym (append_assoc state.waiting xs ys) in
    let all = pieces-append w so_far ys p in
    let read_all = map-append read first others in
    let folded = fold-append f state.folded (map read first) (map read others) in
    let left = rest-append w so_far ys p in
    let count = counted state.total (length xs) (length ys) in
    rw (joined, all, read_all, folded, left, length-append xs ys, count) refl
  where
    counted : (a b c : ℕ) → ((a + b) % 2 ^ 64 + c) % 2 ^ 64 ≡ (a + (b + c)) % 2 ^ 64
    counted a b c = omega arith

-- two writes join
pub state_after-append : {P R : Type 0} (w : ℕ) (read : List ℕ → R) (f : P → R → P) → 0 < w →
    (state : State P) (xs ys : List ℕ) →
    state_after w read f (state_after w read f state xs) ys ≡ state_after w read f state (xs ++ ys)
state_after-append w read f p state [] ys = refl
state_after-append w read f p state (x ∷ xs) [] =
    ap (λ t. absorb w read f state (x ∷ t)) (sym (append-nil xs))
state_after-append w read f p state (x ∷ xs) (y ∷ ys) =
    absorb-append w read f p state (x ∷ xs) (y ∷ ys)

-- ---- Murmur's

pub murmur_after-append : (state : State (ℕ × ℕ)) (xs ys : List ℕ) →
    murmur_after (murmur_after state xs) ys ≡ murmur_after state (xs ++ ys)
unfolding murmur_after
murmur_after-append state xs ys = state_after-append 16 block_words step (omega arith) state xs ys

pub murmur_after-empty : (state : State (ℕ × ℕ)) → murmur_after state [] ≡ state
unfolding murmur_after
murmur_after-empty state = refl

-- ---- XXH64's

pub xxh64_after-append : (state : State (ℕ × Lanes)) (xs ys : List ℕ) →
    xxh64_after (xxh64_after state xs) ys ≡ xxh64_after state (xs ++ ys)
unfolding xxh64_after
xxh64_after-append state xs ys =
    state_after-append 32 (λ stripe. stripe) seeded_step (omega arith) state xs ys

pub xxh64_after-empty : (state : State (ℕ × Lanes)) → xxh64_after state [] ≡ state
unfolding xxh64_after
xxh64_after-empty state = refl
