-- Lists cut into pieces: what the pieces and the rest of a list are; and what a write leaves in a
-- state in which fewer than w bytes wait.
use Rattle.sketch_base.proofs.BytesLemmas.{le-back, low_bytes-are, IsByte}
use Rattle.sketch_hash.specs.Laws.{PieceLaws}
use Rattle.std.proofs.Common.{◌≡◌, ℕ, zero, suc, ◌+◌, ◌-◌, ◌*◌, ◌/◌, ◌<◌, ◌≤◌, List, [], ◌∷◌, ◌++◌, length, take, drop, refl, sym, ap, ◌∙◌, arith, suc-mul, mul-div_cancel, mul_comm, div-mul-le_self, ◌%◌, ◌^◌, map, length-append, length-drop}
use Rattle.std.proofs.Math.Nat.{div-eq_of_lt, div_self, zero-mul}
use Rattle.std.specs.List.{All, fold}
use Rattle.std.specs.Simd.{first_chunks}
use Rattle.std.proofs.lemmas.List.{take_all, drop_all, length-take-le, length-drop, length-append, take-append-drop, append_assoc, append-nil}
use Rattle.std.proofs.lemmas.List.Elements.{All-nil, All-cons, All-take, All-drop}
use Rattle.sketch_base.specs.Bytes.{AreBytes}
use Rattle.sketch_hash.specs.Pieces.{first_pieces, pieces, rest, State, absorb, state_after}
use Rattle.sketch_hash.specs.PiecesWriteLemmas.{pieces-append, rest-append}

-- fewer than w bytes have no piece
pub pieces_short : (w : ℕ) (bytes : List ℕ) → length bytes < w → pieces w bytes ≡ []
unfolding pieces
pieces_short w bytes h = ap (λ n. first_pieces n w bytes) (div-eq_of_lt h)

pub rest_short : (w : ℕ) (bytes : List ℕ) → length bytes < w → rest w bytes ≡ bytes
unfolding rest
rest_short w bytes h = ap (λ n. drop (n * w) bytes) (div-eq_of_lt h) ∙ ap (λ n. drop n bytes) (zero-mul w)

-- w bytes are one piece
pub pieces_one : (w : ℕ) (bytes : List ℕ) → 0 < w → length bytes ≡ w → pieces w bytes ≡ bytes ∷ []
unfolding pieces
pieces_one w bytes p h =
    let one : length bytes / w ≡ 1 = ap (λ n. n / w) h ∙ div_self p in
    ap (λ n. first_pieces n w bytes) one ∙ ap (λ t. t ∷ []) (take_all w bytes (omega arith))

pub rest_one : (w : ℕ) (bytes : List ℕ) → 0 < w → length bytes ≡ w → rest w bytes ≡ []
unfolding rest
rest_one w bytes p h =
    let one : length bytes / w ≡ 1 = ap (λ n. n / w) h ∙ div_self p in
    ap (λ n. drop (n * w) bytes) one ∙ drop_all (1 * w) bytes (omega arith)

-- the first piece of a list that has one, and the others
pub pieces-first : (w : ℕ) (bytes : List ℕ) → 0 < w → w ≤ length bytes →
    pieces w bytes ≡ take w bytes ∷ pieces w (drop w bytes)
pieces-first w bytes p h =
    let first = length-take-le w bytes h in
    ap (pieces w) (sym (take-append-drop w bytes)) ∙ pieces-append w (take w bytes) (drop w bytes) p
    ∙ ap (λ t. t ++ pieces w (rest w (take w bytes) ++ drop w bytes)) (pieces_one w (take w bytes) p first)
    ∙ ap (λ t. take w bytes ∷ pieces w (t ++ drop w bytes)) (rest_one w (take w bytes) p first)

pub rest-first : (w : ℕ) (bytes : List ℕ) → 0 < w → w ≤ length bytes → rest w bytes ≡ rest w (drop w bytes)
rest-first w bytes p h =
    let first = length-take-le w bytes h in
    ap (rest w) (sym (take-append-drop w bytes)) ∙ rest-append w (take w bytes) (drop w bytes) p
    ∙ ap (λ t. rest w (t ++ drop w bytes)) (rest_one w (take w bytes) p first)

-- a piece of w bytes
abbrev pub IsPiece : ℕ → List ℕ → Type 0
IsPiece w bytes = AreBytes bytes × (length bytes ≡ w)

-- whole pieces leave no rest
pub rest-whole : (w i : ℕ) (bytes : List ℕ) → 0 < w → length bytes ≡ w * i → rest w bytes ≡ []
unfolding rest
rest-whole w i bytes p e =
    let count : length bytes / w ≡ i = ap (λ n. n / w) (e ∙ mul_comm w i) ∙ mul-div_cancel i p in
    drop_all (length bytes / w * w) bytes (rw (count, e) (omega (arith, mul_comm w i)))

-- the pieces and the rest of what is joined to whole pieces
pub pieces-aligned : (w : ℕ) (before after : List ℕ) → 0 < w → rest w before ≡ [] →
    pieces w (before ++ after) ≡ pieces w before ++ pieces w after
pieces-aligned w before after p e =
    pieces-append w before after p ∙ ap (λ bytes. pieces w before ++ pieces w (bytes ++ after)) e

pub rest-aligned : (w : ℕ) (before after : List ℕ) → 0 < w → rest w before ≡ [] →
    rest w (before ++ after) ≡ rest w after
rest-aligned w before after p e = rest-append w before after p ∙ ap (λ bytes. rest w (bytes ++ after)) e

first_pieces-are : (n w : ℕ) (bytes : List ℕ) → n * w ≤ length bytes → AreBytes bytes →
    All (IsPiece w) (first_pieces n w bytes)
first_pieces-are zero w bytes l h = All-nil (IsPiece w)
first_pieces-are (suc n) w bytes l h =
    let more : suc n * w ≡ n * w + w = suc-mul n w in
    let first : w ≤ length bytes = omega (arith, more) in
    let others : n * w ≤ length (drop w bytes) = rw (length-drop w bytes) (omega (arith, more)) in
    let others_are = first_pieces-are n w (drop w bytes) others (All-drop IsByte w bytes h) in
    let first_is : IsPiece w (take w bytes) = (All-take IsByte w bytes h, length-take-le w bytes first) in
    All-cons (IsPiece w) (take w bytes) (first_pieces n w (drop w bytes)) first_is others_are

pub pieces-are : (w : ℕ) (bytes : List ℕ) → AreBytes bytes → All (IsPiece w) (pieces w bytes)
unfolding pieces
pieces-are w bytes h = first_pieces-are (length bytes / w) w bytes (div-mul-le_self (length bytes) w) h

pub rest-are : (w : ℕ) (bytes : List ℕ) → AreBytes bytes → AreBytes (rest w bytes)
unfolding rest
rest-are w bytes h = All-drop IsByte (length bytes / w * w) bytes h

pub length_rest : (w : ℕ) (bytes : List ℕ) → length (rest w bytes) ≡ length bytes - length bytes / w * w
unfolding rest
length_rest w bytes = length-drop (length bytes / w * w) bytes

pub length_rest_same : (w : ℕ) (a b : List ℕ) → length a ≡ length b → length (rest w a) ≡ length (rest w b)
length_rest_same w a b e = length_rest w a ∙ ap (λ n. n - n / w * w) e ∙ sym (length_rest w b)

-- the rest is shorter than a piece
pub rest-lt : (w : ℕ) (bytes : List ℕ) → 0 < w → length (rest w bytes) < w
rest-lt w bytes p = rw (length_rest w bytes) (omega arith)

-- the arrays of w bytes that a slice is cut into are its pieces
pub chunks_are : (n w : ℕ) (bytes : List ℕ) → first_chunks w n bytes ≡ first_pieces n w bytes
chunks_are zero w bytes = refl
chunks_are (suc n) w bytes = ap (λ t. take w bytes ∷ t) (chunks_are n w (drop w bytes))

pub chunks_cut : (w : ℕ) (bytes : List ℕ) → first_chunks w (length bytes / w) bytes ≡ pieces w bytes
unfolding pieces
chunks_cut w bytes = chunks_are (length bytes / w) w bytes

-- the bytes of a slice after its full pieces are its rest
pub rest_cut : (w : ℕ) (bytes : List ℕ) → 0 < w →
    (drop (length bytes / w * w) bytes ≡ rest w bytes) × (length (drop (length bytes / w * w) bytes) < w)
unfolding rest
rest_cut w bytes p = (refl, rest-lt w bytes p)

pub ruleset for_split_pieces = (chunks_cut, rest_cut)

-- two parts that are one piece, or less
pub joined_piece : (w : ℕ) (waiting prefix : List ℕ) → 0 < w → length waiting + length prefix ≡ w →
    pieces w (waiting ++ prefix) ≡ (waiting ++ prefix) ∷ []
joined_piece w waiting prefix p h = pieces_one w (waiting ++ prefix) p (length-append waiting prefix ∙ h)

pub no_piece : (w : ℕ) (waiting prefix : List ℕ) → length waiting + length prefix < w →
    pieces w (waiting ++ prefix) ≡ []
no_piece w waiting prefix h =
    let short : length (waiting ++ prefix) < w = rw (length-append waiting prefix) h in
    pieces_short w (waiting ++ prefix) short

-- The general case covers an empty write.
state_after-is : {P R : Type 0} (w : ℕ) (read : List ℕ → R) (f : P → R →
    P) (state : State P) (bytes : List ℕ) →
    length state.waiting < w → state.total < 2 ^ 64 →
    state_after w read f state bytes ≡ absorb w read f state bytes
unfolding absorb
state_after-is w read f state [] h t =
    let all = append-nil state.waiting in
    let none = pieces_short w state.waiting h in
    let same = rest_short w state.waiting h in
    let count : (state.total + 0) % 2 ^ 64 ≡ state.total = omega (arith, t) in
    rw (all, none, same, count) refl
state_after-is w read f state (b ∷ bytes) h t = refl

-- bytes that fill no piece wait
pub state_after-waits : {P R : Type 0} (w : ℕ) (read : List ℕ → R) (f : P → R →
    P) (state : State P) (bytes : List ℕ) →
    state.total < 2 ^ 64 → length (state.waiting ++ bytes) < w →
    state_after w read f state bytes ≡ record {
      folded = state.folded;
      total = (state.total + length bytes) % 2 ^ 64;
      waiting = state.waiting ++ bytes;
    }
unfolding absorb
state_after-waits w read f state bytes t h =
    let short : length state.waiting < w = omega (arith, length-append state.waiting bytes) in
    let none = pieces_short w (state.waiting ++ bytes) h in
    let all = rest_short w (state.waiting ++ bytes) h in
    state_after-is w read f state bytes short t ∙ rw (none, all) refl

-- bytes that fill a piece have it folded
pub state_after-fills : {P R : Type 0} (w : ℕ) (read : List ℕ → R) (f : P → R →
    P) (state : State P) (bytes : List ℕ) →
    0 < w → state.total < 2 ^ 64 → length state.waiting < w → length (state.waiting ++ bytes) ≡ w →
    state_after w read f state bytes ≡ record {
      folded = f state.folded (read (state.waiting ++ bytes));
      total = (state.total + length bytes) % 2 ^ 64;
      waiting = [];
    }
unfolding absorb
state_after-fills w read f state bytes p t short h =
    let one = pieces_one w (state.waiting ++ bytes) p h in
    let none = rest_one w (state.waiting ++ bytes) p h in
    state_after-is w read f state bytes short t ∙ rw (one, none) refl

-- where no byte waits, the pieces are those of the bytes alone
pub state_after-fresh : {P R : Type 0} (w : ℕ) (read : List ℕ → R) (f : P → R →
    P) (state : State P) (bytes : List ℕ) →
    0 < w → state.total < 2 ^ 64 → state.waiting ≡ [] →
    state_after w read f state bytes ≡ record {
      folded = fold f state.folded (map read (pieces w bytes));
      total = (state.total + length bytes) % 2 ^ 64;
      waiting = rest w bytes;
    }
unfolding absorb
state_after-fresh w read f state bytes p t h =
    let short : length state.waiting < w = rw h p in
    state_after-is w read f state bytes short t ∙ rw h refl

-- If the first k bytes fill a piece, the pieces after it are those of the other bytes alone.
pub state_after-through : {P R : Type 0} (w : ℕ) (read : List ℕ → R) (f : P → R →
    P) (state : State P) (bytes : List ℕ)
    (k : ℕ) → 0 < w → state.total < 2 ^ 64 → length state.waiting < w → k ≤ length bytes →
    length (state.waiting ++ take k bytes) ≡ w →
    state_after w read f state bytes ≡ record {
      folded =
          fold f (f state.folded (read (state.waiting ++ take k bytes))) (map read (pieces w (drop k bytes)));
      total = (state.total + length bytes) % 2 ^ 64;
      waiting = rest w (drop k bytes);
    }
unfolding absorb
state_after-through w read f state bytes k p t short h full =
    let prefix : List ℕ = state.waiting ++ take k bytes in
    let suffix : List ℕ = drop k bytes in
    let all : state.waiting ++ bytes ≡ prefix ++ suffix =
    ap (λ b. state.waiting ++ b) (sym (take-append-drop k bytes))
    ∙ sym (append_assoc state.waiting (take k bytes) suffix) in
    let none = rest_one w prefix p full in
    let cut = pieces-aligned w prefix suffix p none in
    let one = pieces_one w prefix p full in
    state_after-is w read f state bytes short t ∙ rw (all, cut, one, rest-aligned w prefix suffix p none) refl

pub piece_laws : PieceLaws
piece_laws = record {
  whole_rest = rest-whole;
  pieces_behind = pieces-aligned;
  rest_behind = rest-aligned;
  short_pieces = pieces_short;
  short_rest = rest_short;
  one_piece = pieces_one;
  rest_bytes = rest-are;
  rest_below = rest-lt;
  rest_length = length_rest_same;
  eight_are = low_bytes-are 8;
  eight_read = le-back 8;
}
