-- The laws of single steps: which of them take every word, or pair of words, exactly once, and how
-- the bytes of a stream are cut and read.
use Rattle.std.specs.Prelude.{◌≡◌, ℕ, ◌*◌, ◌<◌, List, [], ◌∷◌, ◌++◌, length, map}
use Rattle.std.specs.List.{All, fold}
use Rattle.sketch_base.specs.Bytes.{AreBytes, le, eight}
use Rattle.sketch_hash.specs.Words.{OneToOne, IsWord, plus}
use Rattle.sketch_hash.specs.Pieces.{pieces, rest}
use Rattle.sketch_hash.specs.Murmur.{block_words, blocks, step, with_tail, finalize}
use Rattle.sketch_hash.specs.Xxh64.{prime5, steps, tail_step, eight_step, avalanche, xxh64}

-- a pair of words
abbrev pub AreWords : ℕ × ℕ → Type 0
AreWords pair = IsWord pair.0 × IsWord pair.1

-- a block of sixteen bytes
abbrev pub IsBlock : List ℕ → Type 0
IsBlock bytes = AreBytes bytes × (length bytes ≡ 16)

-- a step (width, number) of a tail, its number a word
abbrev pub IsStep : ℕ × ℕ → Type 0
IsStep s = IsWord s.1

-- the widths of steps
abbrev pub step_widths : List (ℕ × ℕ) → List ℕ
step_widths list = map (λ s. s.0) list

-- How lists of bytes are cut: full pieces at the start leave the pieces and the rest of what comes
-- after them, fewer bytes than a piece are all rest, and a rest is shorter than a piece. Eight
-- bytes are one word.
pub record PieceLaws : Type 0 where
  pub whole_rest : (w i : ℕ) (bytes : List ℕ) → 0 < w → length bytes ≡ w * i → rest w bytes ≡ []
  pub pieces_behind : (w : ℕ) (before after : List ℕ) → 0 < w → rest w before ≡ [] →
      pieces w (before ++ after) ≡ pieces w before ++ pieces w after
  pub rest_behind : (w : ℕ) (before after : List ℕ) → 0 < w → rest w before ≡ [] →
      rest w (before ++ after) ≡ rest w after
  pub short_pieces : (w : ℕ) (bytes : List ℕ) → length bytes < w → pieces w bytes ≡ []
  pub short_rest : (w : ℕ) (bytes : List ℕ) → length bytes < w → rest w bytes ≡ bytes
  pub one_piece : (w : ℕ) (bytes : List ℕ) → 0 < w → length bytes ≡ w →
      pieces w bytes ≡ bytes ∷ []
  pub rest_bytes : (w : ℕ) (bytes : List ℕ) → AreBytes bytes → AreBytes (rest w bytes)
  pub rest_below : (w : ℕ) (bytes : List ℕ) → 0 < w → length (rest w bytes) < w
  pub rest_length : (w : ℕ) (a b : List ℕ) → length a ≡ length b →
      length (rest w a) ≡ length (rest w b)
  pub eight_are : (n : ℕ) → AreBytes (eight n)
  pub eight_read : (n : ℕ) → IsWord n → le (eight n) ≡ n

-- Murmur: how blocks, a tail and the end change the pair of words. The steps of a list of blocks
-- are a bijection of pairs, and for each pair one step is a bijection from blocks to pairs.
pub record MurmurStepLaws : Type 0 where
  pub block_read : OneToOne IsBlock AreWords block_words
  pub step_of_block : (h : ℕ × ℕ) → AreWords h → OneToOne AreWords AreWords (λ k. step h k)
  pub tail_of_pair : (waiting : List ℕ) → AreBytes waiting → length waiting < 16 →
      OneToOne AreWords AreWords (λ h. with_tail h waiting)
  pub blocks_read : (bytes : List ℕ) → AreBytes bytes → All AreWords (blocks bytes)
  pub steps_of_pair : (blocks : List (ℕ × ℕ)) → All AreWords blocks →
      OneToOne AreWords AreWords (λ h. fold step h blocks)
  pub tail_of_bytes : (h : ℕ × ℕ) (a b : List ℕ) → AreWords h → AreBytes a → AreBytes b →
      length a ≡ length b → length a < 16 → with_tail h a ≡ with_tail h b → a ≡ b
  pub finalize_of_pair : (n : ℕ) → IsWord n → OneToOne AreWords AreWords (λ h. finalize h n)

-- XXH64: the steps of a tail are one-to-one on words. For each word and width one step is
-- one-to-one on the numbers of that width. The last mixing is one-to-one too.
pub record Xxh64StepLaws : Type 0 where
  pub step_of_number : (width h : ℕ) → IsWord h →
      OneToOne IsWord IsWord (λ n. tail_step h (width, n))
  pub last_mixing : OneToOne IsWord IsWord avalanche
  pub tail_read : (waiting : List ℕ) → AreBytes waiting → All IsStep (steps waiting)
  pub tail_widths : (a b : List ℕ) → length a ≡ length b →
      step_widths (steps a) ≡ step_widths (steps b)
  pub steps_of_word : (list : List (ℕ × ℕ)) → All IsStep list →
      OneToOne IsWord IsWord (λ h. fold tail_step h list)
  pub eight_bytes : (seed x : ℕ) → IsWord x →
      xxh64 seed (eight x) ≡ avalanche (eight_step (plus (plus seed prime5) 8) x)
