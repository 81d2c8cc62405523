-- Columns of values, part by part.
use Rattle.std.proofs.Common.{◌≡◌, ◌/◌, ℕ, ◌+◌, ◌-◌, ◌<◌, List, [], ◌∷◌, ◌++◌, length, get_or, map, take, ap, ◌∙◌, arith}
use Rattle.std.proofs.lemmas.List.{length-append, take_more}
use Rattle.std.proofs.lemmas.Grind.{elements}
use Rattle.std.proofs.lemmas.List.FromFn.{fill_by_all, get_or-map-range_with_len, length-map-range_with_len}
use Rattle.std.specs.List.{range_with_len}
use Rattle.std.proofs.lemmas.Bool.{cases_lt}
use Rattle.sketch_bloom.proofs.LawLemmas.{any-append, inserts_one}
use Rattle.datasketches.specs.Columns.{key_at}
use Rattle.sketch_bloom.specs.Columns.{key_hashes}
use Rattle.sketch_bloom.specs.Filter.{Inserts, InsertsAll, hash_of}

-- Two columns, one after the other, are one column.
inserts_append : (first second before next after : List ℕ) →
    InsertsAll first before next → InsertsAll second next after → InsertsAll (first ++ second) before after
inserts_append first second before next after one two = record {
  size = two.size ∙ one.size;
  bits = λ i.
      let any = any-append (length before / 32) first second i in
      grind (arith, any, one.bits i, rw one.size at (two.bits i));
}

-- The first k hashes are inserted, and then one more.
pub inserts_next : (hashes : List ℕ) (k hash : ℕ) (before next after : List ℕ) → k < length hashes →
    hash ≡ get_or hashes k 0 → InsertsAll (take k hashes) before next → Inserts hash next after →
    InsertsAll (take (k + 1) hashes) before after
inserts_next hashes k hash before next after within is all one =
    rw (take_more hashes k 0 within, ← is)
    (inserts_append (take k hashes) (hash ∷ []) before next after all (inserts_one hash next after one))

-- The first hashes are inserted, and then a run of those after them.
pub inserts_run : (hash : ℕ → ℕ) (start : ℕ) (hashes before next after : List ℕ) →
    ((i d : ℕ) → i < length hashes → get_or hashes i d ≡ hash (start + i)) →
    InsertsAll (map hash (range_with_len 0 start)) before next → InsertsAll hashes next after →
    InsertsAll (map hash (range_with_len 0 (start + length hashes))) before after
inserts_run hash start hashes before next after are first second =
    let prefix = map hash (range_with_len 0 start) in
    let part = length-map-range_with_len hash 0 start in
    let size = length-append prefix hashes ∙ ap (λ n. n + length hashes) part in
    rw (← fill_by_all hash (prefix ++ hashes) (start + length hashes) 0 size (λ k below.
    grind (arith, elements, part, are (k - start) 0, get_or-map-range_with_len hash 0 start k k 0)))
    (inserts_append prefix hashes before next after first second)

-- the hash of a key
pub key_hash : (keys offsets : List ℕ) (n k : ℕ) → k < n →
    get_or (key_hashes keys offsets n) k 0 ≡ hash_of (key_at keys offsets k)
key_hash keys offsets n k below =
    get_or-map-range_with_len (λ i. hash_of (key_at keys offsets i)) 0 n k k 0 below (omega arith)

-- The first answers are written, and then those for a run of hashes after them.
pub answers_run : (Answers : ℕ → ℕ → Type 0) (hash : ℕ → ℕ) (hashes before after : List ℕ) (start : ℕ) →
    ((i d : ℕ) → i < length hashes → get_or hashes i d ≡ hash (start + i)) →
    ((k : ℕ) → k < start → Answers (hash k) (get_or before k 0)) →
    ((k : ℕ) → k < length hashes → Answers (get_or hashes k 0) (get_or after (start + k) 0)) →
    ((k : ℕ) → k < start → get_or after k 0 ≡ get_or before k 0) →
    (k : ℕ) → k < start + length hashes → Answers (hash k) (get_or after k 0)
answers_run Answers hash hashes before after start are first second same k below =
    grind (arith, cases_lt k start, first k, same k, second (k - start), are (k - start) 0)
