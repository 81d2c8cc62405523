-- Copies of a few bytes into a buffer.
use Rattle.std.proofs.Common.{◌≡◌, ℕ, ◌+◌, ◌-◌, ◌<◌, ◌≤◌, List, ◌++◌, length, take, drop, refl, sym, ap, ◌∙◌, arith, append_assoc, append-nil, length-append, length-drop, ◌%◌, ◌^◌}
use Rattle.std.proofs.Math.Seq.{take-append-add, take-append_seam}
use Rattle.std.proofs.lemmas.List.{take_all, drop_all, length-take, length-take-le, take_rest, take-append-drop, take-append-le}
use Rattle.std.proofs.lemmas.Slice.{put_mid-paste, drop-put_mid}
use borrow.Rule.Slice.PartMut.{put_mid, post_of}
use Rattle.std.proofs.Math.Nat.{mod-add-mod, mod-eq_of_lt}

pub copy_overlapping-is : (buffer bytes prefix back : List ℕ) (at k m : ℕ) → m ≡ at + length bytes - k →
    k ≤ length bytes → length bytes ≤ k + k → at + length bytes ≤ length buffer →
    prefix ≡ take k bytes → back ≡ drop (length bytes - k) bytes →
    put_mid m (at + length bytes - m)
    (put_mid at (at + k - at) buffer prefix) back
    ≡ take at buffer ++ bytes ++ drop (at + length bytes) buffer
copy_overlapping-is buffer bytes prefix back at k m place low high within f b =
    let n : ℕ = length bytes in
    let one : List ℕ = put_mid at (at + k - at) buffer prefix in
    let prefix_len : length prefix ≡ k = ap length f ∙ length-take-le k bytes low in
    let back_long : length (drop (n - k) bytes) ≡ n - (n - k) = length-drop (n - k) bytes in
    let back_len : length back ≡ k = ap length b ∙ back_long ∙ omega arith in
    let at_len : length (take at buffer) ≡ at = length-take-le at buffer (omega arith) in
    let seam : m ≡ length (take at buffer) + (n - k) = omega (arith, place, low, at_len) in
    let short : n - k ≤ length prefix = omega (arith, prefix_len) in
    let shorter : n - k ≤ length (take k bytes) = rw (length-take-le k bytes low) (omega arith) in
    let early : take m one ≡ take at buffer ++ take (n - k) bytes =
    ap (λ i. take i one) seam
    ∙ take-append-add (take at buffer) (prefix ++ post_of at (at + k - at) buffer) (n - k)
    ∙ ap (λ t. take at buffer ++ t) (take-append-le (n - k) prefix (post_of at (at + k - at) buffer) short
    ∙ ap (take (n - k)) f ∙ sym (take-append-le (n - k) (take k bytes) (drop k bytes) shorter)
    ∙ ap (take (n - k)) (take-append-drop k bytes)) in
    let width : length prefix ≡ at + k - at = omega (arith, prefix_len) in
    let late : drop (at + n) one ≡ drop (at + n) buffer =
    drop-put_mid at (at + k - at) buffer prefix (at + n) (omega arith) (omega arith) width in
    let last : k ≡ at + n - m = omega (arith, place, low) in
    let all : m + k ≡ at + n = omega (arith, place, low) in
    let pasted : put_mid m (at + n - m) one back ≡ take m one ++ take k back ++ drop (m + k) one =
    put_mid-paste m (at + n - m) one back back k refl last (sym back_len) in
    let whole : take k back ≡ drop (n - k) bytes = take_all k back (omega (arith, back_len)) ∙ b in
    pasted
    ∙ ap (λ t. t ++ take k back ++ drop (m + k) one) early
    ∙ ap (λ t. (take at buffer ++ take (n - k) bytes) ++ t ++ drop (m + k) one) whole
    ∙ ap (λ i. (take at buffer ++ take (n - k) bytes) ++ drop (n - k) bytes ++ drop i one) all
    ∙ ap (λ t. (take at buffer ++ take (n - k) bytes) ++ drop (n - k) bytes ++ t) late
    ∙ ap (λ t. t ++ drop (at + n) buffer)
    (append_assoc (take at buffer) (take (n - k) bytes) (drop (n - k) bytes)
    ∙ ap (λ t. take at buffer ++ t) (take-append-drop (n - k) bytes))

-- the start of a buffer, up to the end of the bytes that were copied into it
pub take-copy : (buffer bytes : List ℕ) (at : ℕ) → at + length bytes ≤ length buffer →
    take (at + length bytes) (take at buffer ++ bytes ++ drop (at + length bytes) buffer)
    ≡ take at buffer ++ bytes
take-copy buffer bytes at h =
    let at_len : length (take at buffer) ≡ at = length-take-le at buffer (omega arith) in
    let seam : at + length bytes ≡ length (take at buffer ++ bytes) =
    omega (arith, length-append (take at buffer) bytes, at_len) in
    ap (λ i. take i (take at buffer ++ bytes ++ drop (at + length bytes) buffer)) seam
    ∙ take-append_seam (take at buffer ++ bytes) (drop (at + length bytes) buffer)

-- A copy that fills a buffer to its end leaves nothing after it.
pub copy_to_end : (buffer bytes : List ℕ) (at : ℕ) → length (take at buffer) + length bytes ≡ length buffer →
    take at buffer ++ bytes ++ drop (at + length bytes) buffer ≡ take at buffer ++ bytes
copy_to_end buffer bytes at h =
    let at_len = length-take at buffer in
    ap (λ t. take at buffer ++ bytes ++ t) (drop_all (at + length bytes) buffer (omega (arith, h, at_len)))
    ∙ append-nil (take at buffer ++ bytes)

-- A fact P, with `t ≡ t` before it. `grind` applies a lemma where it finds the first call of its
-- conclusion, and takes the arguments from there: here the call is t.
abbrev pub Found : {X : Type 0} → X → Type 0 → Type 0
Found t P = (t ≡ t) × P

-- `take-copy` for `grind`: a copy that does not fill the buffer
pub take-copy_found : (buffer bytes : List ℕ) (at : ℕ) →
    length (take at buffer) + length bytes < length buffer →
    Found (take at buffer ++ bytes ++ drop (at + length bytes) buffer)
    (take (at + length bytes) (take at buffer ++ bytes ++ drop (at + length bytes) buffer)
    ≡ take at buffer ++ bytes)
take-copy_found buffer bytes at h =
    let at_len = length-take at buffer in
    (refl, take-copy buffer bytes at (omega (arith, h, at_len)))

-- `take-append_seam` for `grind`: the bytes that a list begins with
pub take-append_found : (bytes suffix : List ℕ) →
    Found (bytes ++ suffix) (take (length bytes) (bytes ++ suffix) ≡ bytes)
take-append_found bytes suffix = (refl, take-append_seam bytes suffix)

-- The second copy of `copy_overlapping` may be cut by a range.
pub ruleset for_copy_overlapping = (copy_overlapping-is, take_rest)

-- If the buffered and the new bytes fill no piece, all of them are buffered.
pub take-copy_waiting : (w total : ℕ) (buffer bytes : List ℕ) → ((n : ℕ) → n % 2 ^ 64 % w ≡ n % w) →
    total % w + length bytes < w → total % w + length bytes ≤ length buffer →
    take ((total + length bytes) % 2 ^ 64 % w)
    (take (total % w) buffer ++ bytes ++ drop (total % w + length bytes) buffer)
    ≡ take (total % w) buffer ++ bytes
take-copy_waiting w total buffer bytes h few within =
    let count = h (total + length bytes) ∙ sym (mod-add-mod total w (length bytes)) ∙ mod-eq_of_lt few in
    rw count (take-copy buffer bytes (total % w) within)
