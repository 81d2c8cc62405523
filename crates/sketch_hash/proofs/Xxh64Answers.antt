-- What an XXH64 hasher returns: its lanes stripe by stripe, its tail step by step, and the definition of the
-- bytes that were written to it.
use Rattle.std.proofs.Common.{◌≡◌, ℕ, zero, suc, ◌+◌, ◌*◌, ◌^◌, ◌%◌, ◌<◌, List, [], ◌∷◌, ◌++◌, length, take, get_or, replicate, w64, refl, sym, ap, ◌∙◌, arith, lit<, ◌≤◌, drop, nat_lt, if◌then◌else◌, map, length-drop, zero-add}
use Rattle.std.proofs.lemmas.Nat.{mod_below}
use Rattle.sketch_hash.proofs.WordLemmas.{rotate-is}
use borrow.Rule.Simd.Lanes.{act2}
use borrow.Table.Row.{s_int}
use mir.Syntax.{wrap_mul, wrap_add, shl, shr, unsigned}
use mir.Syntax as syntax
use Rattle.std.specs.List.{fold}
use Rattle.std.specs.Simd.Lanes.{zip2}
use Rattle.std.proofs.lemmas.List.{take_more, nil_from_length, map-id, take_rest, take_all}
use Rattle.std.proofs.lemmas.List.Sums.{fold-append}
use Rattle.sketch_hash.specs.Xxh64.{Lanes, round, prime1, prime2, stripe_step, seeded_step, each_lane, prime5, lanes_start, lanes, merge, steps_of, steps, tail_step, eight_step, four_step, byte_step, avalanche, finalize, xxh64, xxh64_start, xxh64_after, xxh64_answer, Xxh64Stands, lanes_of, stripe_words}
use Rattle.std.proofs.Math.Nat.{mod-eq_of_lt}
use Rattle.std.proofs.lemmas.Bool.{lt-ltb, le-ltb}
use Rattle.std.proofs.lemmas.List.Folds.{fold-map}
use Rattle.sketch_base.specs.Bytes.{le, low_bytes, eight}
use Rattle.sketch_base.proofs.BytesLemmas.{le-back}
use Rattle.sketch_hash.specs.Pieces.{pieces, rest, State, absorb}
use Rattle.sketch_hash.specs.PiecesWriteLemmas.{xxh64_after-append}
use Rattle.sketch_hash.specs.Words.{IsWord, plus}
use Rattle.sketch_hash.proofs.PiecesLemmas.{pieces_short, rest_short, pieces-first, rest-first}

-- ---- the lanes

-- stripe by stripe, each lane is folded over its own words
fold-each_lane : (stripes : List (List ℕ)) (v : Lanes) → fold stripe_step v stripes ≡ each_lane v stripes
unfolding stripe_step
fold-each_lane [] v = refl
fold-each_lane (s ∷ stripes) v = fold-each_lane stripes (stripe_step v s)

-- A fold over stripes changes the lanes, and keeps the seed.
pub fold-seeded : (stripes : List (List ℕ)) (seed : ℕ) (v : Lanes) →
    fold seeded_step (seed, v) stripes ≡ (seed, each_lane v stripes)
unfolding stripe_step
fold-seeded [] seed v = refl
fold-seeded (s ∷ stripes) seed v = fold-seeded stripes seed (stripe_step v s)

-- lanes after stripes, and after one stripe more
each_lane-more : (v : Lanes) (stripes : List (List ℕ)) (s : List ℕ) →
    stripe_step (each_lane v stripes) s ≡ each_lane v (stripes ++ s ∷ [])
each_lane-more v stripes s =
    ap (λ v. stripe_step v s) (sym (fold-each_lane stripes v))
    ∙ sym (fold-append stripe_step v stripes (s ∷ [])) ∙ fold-each_lane (stripes ++ s ∷ []) v

-- the lanes after a list of one stripe
pub one_stripe : (v : Lanes) (s : List ℕ) → stripe_step v s ≡ each_lane v (s ∷ [])
unfolding stripe_step
one_stripe v s = refl

-- a list of four lanes and the words of a stripe, one by one
pub one_by_one : (v : List ℕ) (stripe : List ℕ) → length v ≡ 4 →
    stripe_step (lanes_of v) stripe ≡ lanes_of (zip2 round v (stripe_words stripe))
unfolding stripe_step
one_by_one [] stripe h = absurd (omega arith)
one_by_one (a ∷ []) stripe h = absurd (omega arith)
one_by_one (a ∷ b ∷ []) stripe h = absurd (omega arith)
one_by_one (a ∷ b ∷ c ∷ []) stripe h = absurd (omega arith)
one_by_one (a ∷ b ∷ c ∷ d ∷ []) stripe h = refl
one_by_one (a ∷ b ∷ c ∷ d ∷ e ∷ v) stripe h = absurd (omega arith)

-- what the operators of a vector do on one lane
abbrev product : ℕ → ℕ → ℕ
product = act2 wrap_mul (s_int w64) (s_int w64) (s_int w64)

abbrev sum : ℕ → ℕ → ℕ
sum = act2 wrap_add (s_int w64) (s_int w64) (s_int w64)

abbrev either : ℕ → ℕ → ℕ
either = act2 syntax.bit_or (s_int w64) (s_int w64) (s_int w64)

abbrev up : ℕ → ℕ → ℕ
up = act2 shl (s_int w64) (s_int w64) (s_int w64)

abbrev down : ℕ → ℕ → ℕ
down = act2 (shr unsigned) (s_int w64) (s_int w64) (s_int w64)

-- what the vector round does on one lane
one : (v w : ℕ) →
    product (either (up (sum v (product w prime2)) 31) (down (sum v (product w prime2)) 33)) prime1
    ≡ round v w
unfolding round
one v w =
    let s : ℕ = (v + w * prime2 % 2 ^ 64) in
    let turned = rotate-is (s % 2 ^ 64) 31 (lit< tt) (lit< tt) (mod_below s (2 ^ 64) (lit< tt)) in
    rw turned refl

-- all lanes, of any number and of four
all_lanes : (n : ℕ) (vs ws : List ℕ) → length vs ≡ n → length ws ≡ n →
    zip2 product (zip2 either
    (zip2 up (zip2 sum vs (zip2 product ws (replicate n prime2))) (replicate n 31))
    (zip2 down (zip2 sum vs (zip2 product ws (replicate n prime2))) (replicate n 33)))
    (replicate n prime1) ≡ zip2 round vs ws
all_lanes zero [] ws h k = refl
all_lanes zero (v ∷ vs) ws h k = absurd (omega arith)
all_lanes (suc n) [] ws h k = absurd (omega arith)
all_lanes (suc n) (v ∷ vs) [] h k = absurd (omega arith)
all_lanes (suc n) (v ∷ vs) (w ∷ ws) h k = rw (one v w, all_lanes n vs ws (omega arith) (omega arith)) refl

pub vector_lanes : (vs ws : List ℕ) → length vs ≡ 4 → length ws ≡ 4 →
    zip2 product (zip2 either
    (zip2 up (zip2 sum vs (zip2 product ws (replicate 4 prime2))) (replicate 4 31))
    (zip2 down (zip2 sum vs (zip2 product ws (replicate 4 prime2))) (replicate 4 33)))
    (replicate 4 prime1) ≡ zip2 round vs ws
vector_lanes vs ws h k = all_lanes 4 vs ws h k

pub ruleset for_vector_round = (vector_lanes, one_by_one)

-- a loop over stripes, one stripe further
pub each_more : (v : Lanes) (stripes : List (List ℕ)) (i : ℕ) (d : List ℕ) → i < length stripes →
    each_lane v (take (i + 1) stripes) ≡ stripe_step (each_lane v (take i stripes)) (get_or stripes i d)
each_more v stripes i d h =
    ap (each_lane v) (take_more stripes i d h) ∙ sym (each_lane-more v (take i stripes) (get_or stripes i d))

-- ---- the tail

-- the single bytes
steps_of_one : (bytes : List ℕ) → steps_of 1 bytes ≡ map (λ b. (1, b)) bytes
unfolding pieces
steps_of_one [] = refl
steps_of_one (b ∷ bytes) =
    let first = pieces-first 1 (b ∷ bytes) (omega arith) (omega arith) in
    let number : le (b ∷ []) ≡ b = omega arith in
    ap (map (λ piece. (1, le piece))) first ∙ ap (λ n. (1, n) ∷ steps_of 1 bytes) number
    ∙ ap (λ t. (1, b) ∷ t) (steps_of_one bytes)

-- a tail of eight bytes and more begins with a word
steps_eight : (bytes : List ℕ) → 8 ≤ length bytes →
    steps bytes ≡ (8, le (take 8 bytes)) ∷ steps (drop 8 bytes)
unfolding steps
steps_eight bytes h =
    let first = pieces-first 8 bytes (omega arith) h in
    let others = rest-first 8 bytes (omega arith) h in
    rw (first, others) refl

pub fold_eight : (hash : ℕ) (bytes : List ℕ) → 8 ≤ length bytes →
    fold tail_step hash (steps bytes) ≡ fold tail_step (eight_step hash (le (take 8 bytes)))
    (steps (drop 8 bytes))
unfolding tail_step
fold_eight hash bytes h = ap (fold tail_step hash) (steps_eight bytes h)

-- the first two steps of a tail of sixteen bytes or more
pub fold_pair : (hash : ℕ) (bytes : List ℕ) → 16 ≤ length bytes →
    fold tail_step hash (steps bytes)
    ≡ fold tail_step (eight_step (eight_step hash (le (take 8 bytes))) (le (take 8 (drop 8 bytes))))
    (steps (drop 8 (drop 8 bytes)))
fold_pair hash bytes h =
    let enough : 8 ≤ length (drop 8 bytes) = rw (length-drop 8 bytes) (omega arith) in
    fold_eight hash bytes (omega arith)
    ∙ fold_eight (eight_step hash (le (take 8 bytes))) (drop 8 bytes) enough

pub fold_word : (hash : ℕ) (bytes : List ℕ) → 4 ≤ length bytes → length bytes < 8 →
    fold tail_step hash (steps bytes) ≡ fold byte_step (four_step hash (le (take 4 bytes))) (drop 4 bytes)
unfolding steps tail_step
fold_word hash bytes low high =
    let short : length (drop 4 bytes) < 4 = rw (length-drop 4 bytes) (omega arith) in
    let no_eight = pieces_short 8 bytes high in
    let all = rest_short 8 bytes high in
    let four = pieces-first 4 bytes (omega arith) low in
    let no_other = pieces_short 4 (drop 4 bytes) short in
    let rest_four = rest-first 4 bytes (omega arith) low ∙ rest_short 4 (drop 4 bytes) short in
    let singles = steps_of_one (drop 4 bytes) in
    rw (no_eight, all, four, no_other, rest_four, singles)
    (fold-map tail_step (λ b. (1, b)) (four_step hash (le (take 4 bytes))) (drop 4 bytes))

-- a tail of three bytes at most has a step for each byte
pub fold_few : (hash : ℕ) (bytes : List ℕ) → length bytes < 4 →
    fold tail_step hash (steps bytes) ≡ fold byte_step hash bytes
unfolding steps tail_step
fold_few hash bytes h =
    let no_eight = pieces_short 8 bytes (omega arith) in
    let all = rest_short 8 bytes (omega arith) in
    let no_four = pieces_short 4 bytes h in
    let rest_four = rest_short 4 bytes h in
    let singles = steps_of_one bytes in
    rw (no_eight, all, no_four, rest_four, singles) (fold-map tail_step (λ b. (1, b)) hash bytes)

-- no bytes are no step of the tail
pub no_steps : (hash : ℕ) (tail : List ℕ) → length tail ≡ 0 → fold tail_step hash (steps tail) ≡ hash
unfolding pieces rest steps
no_steps hash tail none = rw (nil_from_length tail none) refl

pub ruleset for_fold_from_16 = (fold_pair, no_steps)

pub ruleset for_fold_below_16 = (fold_eight, no_steps)

pub ruleset for_fold_words = (fold_eight, take_rest)

pub ruleset for_fold_below_8 = (fold_word, fold_few, take_rest)

-- ---- the whole

-- the definition of the whole bytes
pub xxh64_answer-after : (seed : ℕ) (bytes : List ℕ) →
    xxh64_answer (xxh64_after (xxh64_start seed) bytes) ≡ xxh64 seed bytes
unfolding xxh64_answer xxh64_after xxh64 absorb pieces rest lanes lanes_start
xxh64_answer-after seed [] = refl
xxh64_answer-after seed (b ∷ bytes) =
    let all = map-id (pieces 32 (b ∷ bytes)) in
    let by_lane = fold-seeded (pieces 32 (b ∷ bytes)) seed (lanes_start seed) in
    rw (zero-add, all, by_lane) refl

xxh64_answer-stands : (seed : ℕ) (bytes : List ℕ) (state : State (ℕ × Lanes)) →
    Xxh64Stands state seed bytes → xxh64_answer state ≡ xxh64 seed bytes
xxh64_answer-stands seed bytes state stands = ap xxh64_answer stands ∙ xxh64_answer-after seed bytes

-- a write takes a hasher that stands for bytes to one that stands for them and the written ones
pub xxh64_stands_after : (state next : State (ℕ × Lanes)) (bytes : List ℕ) →
    next ≡ xxh64_after state bytes → (seed : ℕ) (before : List ℕ) →
    Xxh64Stands state seed before → Xxh64Stands next seed (before ++ bytes)
xxh64_stands_after state next bytes written seed before stands =
    written ∙ ap (λ s. xxh64_after s bytes) stands
    ∙ xxh64_after-append (xxh64_start seed) before bytes

-- a new hasher that is written to once answers for what was written
pub of_one_write : (seed : ℕ) (bytes : List ℕ) (start state : State (ℕ × Lanes)) (answer : ℕ) →
    Xxh64Stands start seed [] → state ≡ xxh64_after start bytes → answer ≡ xxh64_answer state →
    answer ≡ xxh64 seed bytes
of_one_write seed bytes start state answer begun written answered =
    answered ∙ xxh64_answer-stands seed bytes state
    (xxh64_stands_after start state bytes written seed [] begun)

-- fewer bytes than a stripe start from the seed
pub of_short : (seed : ℕ) (bytes : List ℕ) → length bytes < 32 →
    xxh64 seed bytes ≡ avalanche (fold tail_step (plus (plus seed prime5) (length bytes)) (steps bytes))
unfolding xxh64 finalize lanes
of_short seed bytes h =
    let count : length bytes % 2 ^ 64 ≡ length bytes = mod-eq_of_lt (omega (arith, h)) in
    let short = lt-ltb (length bytes) 32 h in
    let all = rest_short 32 bytes h in
    rw (count, short, all) refl

pub ruleset for_mix_exactly = (take_all)

-- a stripe and more start from the lanes
pub of_long : (seed : ℕ) (bytes : List ℕ) → 32 ≤ length bytes → length bytes < 2 ^ 64 →
    xxh64 seed bytes ≡ avalanche (fold tail_step
    (plus (merge (each_lane (lanes_start seed) (pieces 32 bytes))) (length bytes)) (steps (rest 32 bytes)))
unfolding xxh64 finalize lanes lanes_start
of_long seed bytes h w =
    let count : length bytes % 2 ^ 64 ≡ length bytes = mod-eq_of_lt w in
    let long = le-ltb (length bytes) 32 h in
    rw (count, long) refl

-- eight bytes are one step of the tail
pub xxh64-eight : (seed x : ℕ) → IsWord x →
    xxh64 seed (eight x) ≡ avalanche (eight_step (plus (plus seed prime5) 8) x)
unfolding xxh64 finalize lanes lanes_start pieces rest steps tail_step
xxh64-eight seed x p = ap (λ word. avalanche (eight_step (plus (plus seed prime5) 8) word)) (le-back 8 x p)

-- four bytes are one step of the tail
pub xxh64-four : (seed x : ℕ) → x < 2 ^ 32 →
    xxh64 seed (low_bytes 4 x) ≡ avalanche (four_step (plus (plus seed prime5) 4) x)
unfolding xxh64 finalize lanes lanes_start pieces rest steps tail_step
xxh64-four seed x p = ap (λ word. avalanche (four_step (plus (plus seed prime5) 4) word)) (le-back 4 x p)

-- what a hasher answers, and what that is where its state is that of a seed and bytes
pub answer_is : (state : State (ℕ × Lanes)) →
    xxh64_answer state ≡ avalanche (fold tail_step
    (plus (if nat_lt state.total 32 then plus state.folded.0 prime5 else merge state.folded.1) state.total)
    (steps state.waiting))
unfolding xxh64_answer finalize
answer_is state = refl

pub answer_stands : (state : State (ℕ × Lanes)) (answer : ℕ) → answer ≡ xxh64_answer state →
    (seed : ℕ) (bytes : List ℕ) → Xxh64Stands state seed bytes → answer ≡ xxh64 seed bytes
answer_stands state answer answered seed bytes stands =
    answered ∙ xxh64_answer-stands seed bytes state stands

pub ruleset for_finish64 = (answer_is, answer_stands)

-- what was written after other bytes
pub written_after : (state : State (ℕ × Lanes)) (before bytes : List ℕ) →
    xxh64_after state (before ++ bytes) ≡ xxh64_after (xxh64_after state before) bytes
written_after state before bytes = sym (xxh64_after-append state before bytes)

pub ruleset for_hash_u64 = (xxh64-eight)

pub ruleset for_hash_u32 = (xxh64-four)
