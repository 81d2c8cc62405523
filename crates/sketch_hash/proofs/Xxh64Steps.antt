-- XXH64's steps map words onto words, each exactly once. The numbers of a tail's steps are words,
-- and their widths follow from the tail's length.
use Rattle.std.proofs.Common.{◌≡◌, ℕ, zero, suc, List, ◌∷◌, ◌++◌, length, replicate, refl, sym, ap, ◌∙◌, arith, ◌≤◌, drop, map, ◌/◌}
use Rattle.sketch_hash.proofs.OneToOne.{◌▸◌, choice, along}
use Rattle.sketch_hash.proofs.WordLemmas.{times-once, plus-once, plus_word-once, xor-once, xor_word-once, rotate-once, shifted-once, shifted_less-once}
use Rattle.std.specs.List.{All}
use Rattle.std.proofs.lemmas.List.{map-append}
use Rattle.sketch_hash.specs.Xxh64.{round, prime1, prime2, prime5, steps_of, steps, tail_step, eight_step, four_step, byte_step, avalanche, prime3, prime4}
use Rattle.sketch_base.specs.Bytes.{le, AreBytes}
use Rattle.sketch_hash.specs.Pieces.{pieces, rest, first_pieces}
use Rattle.sketch_hash.specs.Words.{IsWord, plus, times, rotate, OneToOne}
use Rattle.sketch_hash.proofs.PiecesLemmas.{IsPiece, pieces-are, rest-are, length_rest_same}
use Rattle.std.proofs.lemmas.List.Elements.{All-map, All-weaker, All-append}
use Rattle.sketch_hash.specs.Laws.{IsStep, step_widths, Xxh64StepLaws}
use Rattle.sketch_hash.proofs.NumberLemmas.{le-word}
use Rattle.std.specs.Prelude.{◌==◌}
use Rattle.sketch_hash.proofs.Xxh64Answers.{xxh64-eight}

steps_of-are : (w : ℕ) (bytes : List ℕ) → w ≤ 8 → AreBytes bytes → All IsStep (steps_of w bytes)
steps_of-are w bytes m h =
    let read = All-weaker (IsPiece w) (λ piece. IsWord (le piece)) (λ t h. le-word t h.0 (rw h.1 m)) in
    All-map IsStep (λ piece. (w, le piece)) (pieces w bytes) (read (pieces w bytes) (pieces-are w bytes h))

pub steps-are : (waiting : List ℕ) → AreBytes waiting → All IsStep (steps waiting)
unfolding steps
steps-are waiting h =
    let suffix = rest 8 waiting in
    let suffix_are = rest-are 8 waiting h in
    let eights = steps_of-are 8 waiting (omega arith) h in
    let fours = steps_of-are 4 suffix (omega arith) suffix_are in
    let ones = steps_of-are 1 (rest 4 suffix) (omega arith) (rest-are 4 suffix suffix_are) in
    All-append IsStep (steps_of 8 waiting ++ steps_of 4 suffix) (steps_of 1 (rest 4 suffix))
    (All-append IsStep (steps_of 8 waiting) (steps_of 4 suffix) eights fours) ones

widths-steps_of : (w : ℕ) (bytes : List ℕ) → step_widths (steps_of w bytes) ≡ replicate (length bytes / w) w
unfolding pieces
widths-steps_of w bytes = counted (length bytes / w) bytes
  where
    counted : (n : ℕ) (bytes : List ℕ) →
        step_widths (map (λ piece. (w, le piece)) (first_pieces n w bytes)) ≡ replicate n w
    counted zero bytes = refl
    counted (suc n) bytes = ap (λ t. w ∷ t) (counted n (drop w bytes))

steps_of-same : (w : ℕ) (a b : List ℕ) → length a ≡ length b →
    step_widths (steps_of w a) ≡ step_widths (steps_of w b)
steps_of-same w a b e = widths-steps_of w a ∙ ap (λ n. replicate (n / w) w) e ∙ sym (widths-steps_of w b)

widths-steps : (waiting : List ℕ) → step_widths (steps waiting)
    ≡ step_widths (steps_of 8 waiting) ++ step_widths (steps_of 4 (rest 8 waiting))
    ++ step_widths (steps_of 1 (rest 4 (rest 8 waiting)))
unfolding steps
widths-steps waiting =
    let eights = steps_of 8 waiting in
    let fours = steps_of 4 (rest 8 waiting) in
    let ones = steps_of 1 (rest 4 (rest 8 waiting)) in
    map-append (λ s. s.0) (eights ++ fours) ones
    ∙ ap (λ t. t ++ step_widths ones) (map-append (λ s. s.0) eights fours)

-- tails of one length have steps of the same widths
pub widths-same : (a b : List ℕ) → length a ≡ length b → step_widths (steps a) ≡ step_widths (steps b)
widths-same a b e =
    let behind_eights = length_rest_same 8 a b e in
    let behind_fours = length_rest_same 4 (rest 8 a) (rest 8 b) behind_eights in
    let eights = steps_of-same 8 a b e in
    let fours = steps_of-same 4 (rest 8 a) (rest 8 b) behind_eights in
    let ones = steps_of-same 1 (rest 4 (rest 8 a)) (rest 4 (rest 8 b)) behind_fours in
    let in_a = widths-steps a in
    let in_b = widths-steps b in
    cc

-- the product with each prime that a step multiplies by
times1 : OneToOne IsWord IsWord (λ x. times x prime1)
times1 = times-once prime1 0x0887493432badb37 refl

times2 : OneToOne IsWord IsWord (λ x. times x prime2)
times2 = times-once prime2 0x0ba79078168d4baf refl

times3 : OneToOne IsWord IsWord (λ x. times x prime3)
times3 = times-once prime3 0xe9e9f4c41d6df849 refl

times5 : OneToOne IsWord IsWord (λ x. times x prime5)
times5 = times-once prime5 0xc592c09fdfba7f0d refl

-- an input word, in a lane of zero
round-once : OneToOne IsWord IsWord (round 0)
unfolding round
round-once = times2 ▸ plus_word-once 0 (omega arith) ▸ rotate-once 31 33 refl ▸ times1

-- what a step of the tail does once its number has entered
eight-once : OneToOne IsWord IsWord (λ h. plus (times (rotate h 27) prime1) prime4)
eight-once = rotate-once 27 37 refl ▸ times1 ▸ plus-once prime4 (omega arith)

four-once : OneToOne IsWord IsWord (λ h. plus (times (rotate h 23) prime2) prime3)
four-once = rotate-once 23 41 refl ▸ times2 ▸ plus-once prime3 (omega arith)

byte-once : OneToOne IsWord IsWord (λ h. times (rotate h 11) prime1)
byte-once = rotate-once 11 53 refl ▸ times1

-- one step of the tail, as a function of the hash before it
pub tail_step-on_state : (s : ℕ × ℕ) → IsStep s → OneToOne IsWord IsWord (λ h. tail_step h s)
unfolding tail_step eight_step four_step byte_step
tail_step-on_state s p =
    choice (s.0 == 8) (xor-once (round 0 s.1) (round-once.lands s.1 p) ▸ eight-once)
    (choice (s.0 == 4) (xor-once (times s.1 prime1) (times1.lands s.1 p) ▸ four-once)
    (xor-once (times s.1 prime5) (times5.lands s.1 p) ▸ byte-once))

-- one step of the tail, as a function of its number
pub tail_step-on_number : (width h : ℕ) → IsWord h → OneToOne IsWord IsWord (λ n. tail_step h (width, n))
unfolding tail_step eight_step four_step byte_step
tail_step-on_number width h p =
    let entered = xor_word-once h p in
    choice (width == 8) (round-once ▸ entered ▸ eight-once)
    (choice (width == 4) (times1 ▸ entered ▸ four-once) (times5 ▸ entered ▸ byte-once))

pub avalanche-once : OneToOne IsWord IsWord avalanche
unfolding avalanche
avalanche-once =
    shifted-once 33 (omega arith) ▸ times2 ▸ shifted_less-once 29 (omega arith) ▸ times3
    ▸ shifted-once 32 (omega arith)

pub xxh64_step_laws : Xxh64StepLaws
xxh64_step_laws = record {
  step_of_number = tail_step-on_number;
  last_mixing = avalanche-once;
  tail_read = steps-are;
  tail_widths = widths-same;
  steps_of_word = along tail_step tail_step-on_state;
  eight_bytes = xxh64-eight;
}
