-- What errors print: the displayed line and the debug text, piece by piece as they are written, and what the
-- texts of refusals are made of.
use Rattle.std.proofs.Common.{◌≡◌, ℕ, ◌<◌, List, [], ◌∷◌, ◌++◌, length, Option, Some, None, Result, Ok, Err, IfOk, codes, append_assoc, arith, refl}
use Rattle.std.proofs.lemmas.Grind.{common_steps}
use Rattle.std.proofs.lemmas.List.{length-map, take_all}
use Rattle.std.proofs.lemmas.List.Folds.{flat_map-map}
use Rattle.std.specs.List.{flat_map}
use Rattle.std.specs.Fmt.{decimal, debug_list, debug_items, comma_space}
use Rattle.sketch_base.specs.ErrorValue.{ContextValue, pair_text, context_lines}
use Rattle.sketch_base.specs.Refusals.{Prints, list_text}

-- the contexts of the debug text, of which there are some: the line before them, and a line for each
pub context_lines-some : (contexts : List ContextValue) → 0 < length contexts → context_lines contexts
    ≡ 10 ∷ codes "Context:" ++ 10 ∷ flat_map (λ c. codes "   " ++ pair_text c ++ 10 ∷ []) contexts
context_lines-some [] some = absurd (omega (arith, some))
context_lines-some (first ∷ others) some = refl

-- all contexts are written in the end, each by its parts
pub ruleset for_contexts = (context_lines-some, length-map, flat_map-map, take_all, common_steps)

-- a value prints some text, which is the one that was made of it
pub printed_text : {T E : Type 0} (bytes : T → List ℕ) (output : Option (List ℕ)) (made : Result T E) →
    IfOk made (λ it. Prints output (bytes it)) →
    (text : List ℕ) × Prints output text × IfOk made (λ it. bytes it ≡ text)
printed_text bytes output (Ok it) prints = (bytes it, prints, refl)
printed_text bytes None (Err error) prints = ([], tt, tt)
printed_text bytes (Some printed) (Err error) prints = (printed, refl, tt)

-- the numbers after the first one, each after a comma
debug_items-is : (numbers : List ℕ) →
    debug_items (λ n. Some (decimal n)) comma_space numbers
    ≡ Some (flat_map (λ other. codes ", " ++ decimal other) numbers)
debug_items-is [] = refl
debug_items-is (first ∷ others) = rw (debug_items-is others) refl

pub debug_list_is : (numbers : List ℕ) → debug_list (λ n. Some (decimal n)) numbers ≡ Some (list_text numbers)
debug_list_is [] = refl
debug_list_is (first ∷ others) = rw (debug_items-is others) (simp append_assoc)
