-- XXH64 does not collide where one step of the tail alone differs, or the seed alone of a short stream; and
-- over all lists of eight bytes it takes every word once.
use Rattle.std.proofs.Common.{◌≡◌, inl, inr, ℕ, ◌+◌, ◌%◌, ◌^◌, ◌<◌, List, ◌∷◌, ◌++◌, length, take, drop, get_or, refl, sym, ap, ◌∙◌, arith, true, lt-ltb, mod-eq_of_lt}
use Rattle.std.specs.Prelude.{nat_lt, if◌then◌else◌}
use Rattle.std.specs.List.{All, fold}
use Rattle.std.proofs.lemmas.Bool.{cases_lt}
use Rattle.std.proofs.lemmas.List.{length-map, get_or-map}
use Rattle.std.proofs.lemmas.List.Sums.{fold-append}
use Rattle.std.proofs.lemmas.List.Elements.{All-take, All-drop, All-get_or}
use Rattle.sketch_base.specs.Bytes.{AreBytes, eight}
use Rattle.sketch_hash.specs.Words.{IsWord, plus, OneToOne}
use Rattle.sketch_hash.specs.Pieces.{rest}
use Rattle.sketch_hash.specs.Xxh64.{prime5, Lanes, lanes, merge, stripes, tail_step, tail_steps, avalanche, finalize, xxh64}
use Rattle.sketch_hash.specs.Laws.{IsStep, step_widths, PieceLaws, Xxh64StepLaws}
use Rattle.sketch_hash.proofs.OneToOne.{◌▸◌, alike}
use Rattle.sketch_hash.proofs.WordLemmas.{plus-lt}
use Rattle.datasketches.specs.Laws.{AgreeOutside, HashU64Law, XxTailLaw, XxSeedLaw}
use Rattle.datasketches.proofs.ListLemmas.{agree-prefix, agree-suffix, agree-beyond, parts_at}

-- ---- a hash in two parts: the word that the tail begins at, and what is made of it

-- where the steps of the tail begin, for the lanes and a length
tail_start : ℕ → Lanes → ℕ → ℕ
tail_start seed v n = plus (if nat_lt n 32 then plus seed prime5 else merge v) n

tail_start-lands : (seed : ℕ) (v : Lanes) (n : ℕ) → IsWord (tail_start seed v n)
unfolding tail_start
tail_start-lands seed v n = plus-lt (if nat_lt n 32 then plus seed prime5 else merge v) n

-- the hash from the word before the tail, for the steps of the tail
onward : List (ℕ × ℕ) → ℕ → ℕ
onward list h = avalanche (fold tail_step h list)

onward-once : PieceLaws → Xxh64StepLaws →
    (list : List (ℕ × ℕ)) → All IsStep list → OneToOne IsWord IsWord (onward list)
unfolding onward
onward-once ps ss list p = ss.steps_of_word list p ▸ ss.last_mixing

xxh64-is : (seed : ℕ) (bytes : List ℕ) →
    xxh64 seed bytes ≡ onward (tail_steps bytes) (tail_start seed (lanes seed bytes) (length bytes % 2 ^ 64))
unfolding xxh64 finalize onward tail_start
xxh64-is seed bytes = refl

tail_steps-are : PieceLaws → Xxh64StepLaws →
    (bytes : List ℕ) → AreBytes bytes → All IsStep (tail_steps bytes)
tail_steps-are ps ss bytes h = ss.tail_read (rest 32 bytes) (ps.rest_bytes 32 bytes h)

-- ---- one step of the tail

-- the word that a list of steps leads to, with one of the steps apart
onward-at : (list : List (ℕ × ℕ)) (i h : ℕ) → i < length list →
    onward list h
    ≡ onward (drop (i + 1) list) (tail_step (fold tail_step h (take i list)) (get_or list i (0, 0)))
unfolding onward
onward-at list i h l =
    ap (λ t. avalanche (fold tail_step h t)) (sym (parts_at list i (0, 0) l))
    ∙ ap avalanche (fold-append tail_step h (take i list) (get_or list i (0, 0) ∷ drop (i + 1) list))

-- two lists of steps of the same widths that agree outside one place, and lead from one word to one hash
record SameOutsideStep (h i : ℕ) (xs ys : List (ℕ × ℕ)) : Type 0 where
  from_word : IsWord h
  xs_are : All IsStep xs
  ys_are : All IsStep ys
  same_widths : step_widths xs ≡ step_widths ys
  agree : AgreeOutside i (i + 1) xs ys
  one_hash : onward xs h ≡ onward ys h

one_length : (h i : ℕ) (xs ys : List (ℕ × ℕ)) → SameOutsideStep h i xs ys → length xs ≡ length ys
one_length h i xs ys s = sym (length-map xs (λ s. s.0)) ∙ ap length s.same_widths ∙ length-map ys (λ s. s.0)

one_width : (h i : ℕ) (xs ys : List (ℕ × ℕ)) → SameOutsideStep h i xs ys → i < length xs → i < length ys →
    (get_or xs i (0, 0)).0 ≡ (get_or ys i (0, 0)).0
one_width h i xs ys s l k =
    sym (get_or-map (λ s. s.0) xs i (0, 0) 0 l) ∙ ap (λ t. get_or t i 0) s.same_widths
    ∙ get_or-map (λ s. s.0) ys i (0, 0) 0 k

-- Two lists of steps that differ in step i alone have one number there, if their results are equal.
one_number : PieceLaws → Xxh64StepLaws →
    (h i : ℕ) (xs ys : List (ℕ × ℕ)) → SameOutsideStep h i xs ys → i < length xs → i < length ys →
    (get_or xs i (0, 0)).1 ≡ (get_or ys i (0, 0)).1
one_number ps ss h i xs ys s l k =
    let x = get_or xs i (0, 0) in
    let y = get_or ys i (0, 0) in
    let after = drop (i + 1) xs in
    let start = fold tail_step h (take i xs) in
    let prefix_are = All-take IsStep i xs s.xs_are in
    let start_is = (ss.steps_of_word (take i xs) prefix_are).lands h s.from_word in
    let m = one_length h i xs ys s in
    let before = agree-prefix i (i + 1) xs ys m s.agree in
    let same_rest = agree-suffix i (i + 1) xs ys m s.agree in
    let one_end : onward after (tail_step start x) ≡ onward after (tail_step start (x.0, y.1)) =
    sym (onward-at xs i h l) ∙ s.one_hash ∙ onward-at ys i h k
    ∙ ap (λ t. onward (drop (i + 1) ys) (tail_step (fold tail_step h t) y)) (sym before)
    ∙ ap (λ t. onward t (tail_step start y)) (sym same_rest)
    ∙ ap (λ w. onward after (tail_step start (w, y.1))) (sym (one_width h i xs ys s l k)) in
    let onward_is = onward-once ps ss after (All-drop IsStep (i + 1) xs s.xs_are) in
    let once = (ss.step_of_number x.0 start start_is ▸ onward_is).once in
    once x.1 y.1 (All-get_or IsStep xs i (0, 0) l s.xs_are) (All-get_or IsStep ys i (0, 0) k s.ys_are) one_end

same_steps : PieceLaws → Xxh64StepLaws →
    (h i : ℕ) (xs ys : List (ℕ × ℕ)) → SameOutsideStep h i xs ys → xs ≡ ys
same_steps ps ss h i xs ys s =
    let m = one_length h i xs ys s in
    elim (cases_lt i (length xs)) [
      | inl l ↦
          let k : i < length ys = omega arith in
          let y = get_or ys i (0, 0) in
          sym (parts_at xs i (0, 0) l)
          ∙ ap (λ t. t ++ get_or xs i (0, 0) ∷ drop (i + 1) xs) (agree-prefix i (i + 1) xs ys m s.agree)
          ∙ ap (λ n. take i ys ++ ((get_or xs i (0, 0)).0, n) ∷ drop (i + 1) xs)
          (one_number ps ss h i xs ys s l k)
          ∙ ap (λ w. take i ys ++ (w, y.1) ∷ drop (i + 1) xs) (one_width h i xs ys s l k)
          ∙ ap (λ t. take i ys ++ y ∷ t) (agree-suffix i (i + 1) xs ys m s.agree) ∙ parts_at ys i (0, 0) k
      | inr beyond ↦ agree-beyond i (i + 1) xs ys m s.agree beyond
    ]

lanes-same : (seed : ℕ) (a b : List ℕ) → stripes a ≡ stripes b → lanes seed a ≡ lanes seed b
unfolding lanes
lanes-same seed a b e = rw e refl

pub xx_tail_law : PieceLaws → Xxh64StepLaws → XxTailLaw
xx_tail_law ps ss seed a b p h k d e =
    let n = length a % 2 ^ 64 in
    let v = lanes seed a in
    let same_rest = ps.rest_length 32 a b d.one_length in
    let one_start = sym (lanes-same seed a b d.same_stripes) in
    d.differ (same_steps ps ss (tail_start seed v n) d.one_step.0 (tail_steps a) (tail_steps b) (record {
      from_word = tail_start-lands seed v n;
      xs_are = tail_steps-are ps ss a h;
      ys_are = tail_steps-are ps ss b k;
      same_widths = ss.tail_widths (rest 32 a) (rest 32 b) same_rest;
      agree = d.one_step.1;
      one_hash =
          sym (xxh64-is seed a) ∙ e ∙ xxh64-is seed b
          ∙ ap (λ w. onward (tail_steps b) (tail_start seed w (length b % 2 ^ 64))) one_start
          ∙ ap (λ m. onward (tail_steps b) (tail_start seed v (m % 2 ^ 64))) (sym d.one_length);
    }))

-- ---- the seed of a short stream

-- a short stream's steps begin at a sum with the seed
tail_start-short : (seed : ℕ) (bytes : List ℕ) → length bytes < 32 →
    tail_start seed (lanes seed bytes) (length bytes % 2 ^ 64) ≡ plus (plus seed prime5) (length bytes)
unfolding tail_start lanes
tail_start-short seed bytes l =
    let size : length bytes % 2 ^ 64 ≡ length bytes = mod-eq_of_lt (omega arith) in
    let short : nat_lt (length bytes) 32 ≡ true = lt-ltb (length bytes) 32 l in
    rw (size, short) refl

pub xx_seed_law : PieceLaws → Xxh64StepLaws → XxSeedLaw
xx_seed_law ps ss seed_a seed_b bytes p q h l differ e =
    let a_is = tail_start-lands seed_a (lanes seed_a bytes) (length bytes % 2 ^ 64) in
    let b_is = tail_start-lands seed_b (lanes seed_b bytes) (length bytes % 2 ^ 64) in
    let one_end = sym (xxh64-is seed_a bytes) ∙ e ∙ xxh64-is seed_b bytes in
    let once = (onward-once ps ss (tail_steps bytes) (tail_steps-are ps ss bytes h)).once in
    let one_start = once _ _ a_is b_is one_end in
    let one_sum = sym (tail_start-short seed_a bytes l) ∙ one_start ∙ tail_start-short seed_b bytes l in
    differ (same_seed (length bytes) seed_a seed_b p q one_sum)
  where
    same_seed : (n a b : ℕ) → IsWord a → IsWord b → plus (plus a prime5) n ≡ plus (plus b prime5) n → a ≡ b
    same_seed n a b p q e = omega arith

-- ---- eight bytes

pub hash_u64_law : PieceLaws → Xxh64StepLaws → HashU64Law
unfolding tail_step
hash_u64_law ps ss seed p =
    let start = plus (plus seed prime5) 8 in
    alike (λ x. xxh64 seed (eight x)) (ss.eight_bytes seed)
    (ss.step_of_number 8 start (plus-lt (plus seed prime5) 8) ▸ ss.last_mixing)
