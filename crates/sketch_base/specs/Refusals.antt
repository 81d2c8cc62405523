-- The texts of errors. Their pieces are grouped from the right, as the library groups what it
-- prints.
use Rattle.std.specs.Prelude.{ℕ, List, [], ◌∷◌, ◌++◌, codes, ◌≡◌, ◌⊎◌, Option, IfSome}
use Rattle.std.specs.List.{flat_map}
use Rattle.std.specs.Fmt.{decimal}
use Rattle.sketch_base.specs.declared.error.ErrorKind.{ErrorKind}
use Rattle.sketch_base.specs.ErrorValue.{ErrorValue, error_of, memory_error}

-- the error has this kind and text and no context, or there was no memory for its text
unfoldable pub Refuses : ErrorKind → List ℕ → ErrorValue → Type 0
Refuses kind text error = (error ≡ error_of kind text) ⊎ (error ≡ memory_error)

-- the text is what a value prints, or any text if the value's type does not say what that is
abbrev pub Prints : Option (List ℕ) → List ℕ → Type 0
Prints output text = IfSome output (λ printed. text ≡ printed)

-- a displayed list of numbers: `[1, 2]`, `[]`
abbrev pub list_text : List ℕ → List ℕ
list_text [] = codes "[]"
list_text (first ∷ others) =
    codes "[" ++ decimal first ++ flat_map (λ other. codes ", " ++ decimal other) others
    ++ codes "]"

abbrev pub insufficient_data_text : List ℕ → List ℕ
insufficient_data_text text = codes "insufficient data: " ++ text

abbrev pub insufficient_data_of_text : List ℕ → List ℕ → List ℕ
insufficient_data_of_text context text =
    codes "insufficient data (" ++ (context ++ (codes "): " ++ text))

abbrev pub invalid_family_text : ℕ → ℕ → List ℕ → List ℕ
invalid_family_text expected actual name =
    codes "invalid family: expected " ++ (decimal expected ++ (codes " (" ++ (name
    ++ (codes "), got " ++ decimal actual))))

abbrev pub invalid_preamble_longs_text : List ℕ → ℕ → List ℕ
invalid_preamble_longs_text expected actual =
    codes "invalid preamble longs: expected one of "
    ++ (list_text expected ++ (codes ", got " ++ decimal actual))

abbrev pub invalid_preamble_ints_text : ℕ → ℕ → List ℕ
invalid_preamble_ints_text expected actual =
    codes "invalid preamble ints: expected "
    ++ (decimal expected ++ (codes ", got " ++ decimal actual))

abbrev pub unsupported_serial_version_text : ℕ → ℕ → List ℕ
unsupported_serial_version_text expected actual =
    codes "unsupported serial version: expected "
    ++ (decimal expected ++ (codes ", got " ++ decimal actual))

abbrev pub preamble_longs_out_of_range_text : List ℕ → ℕ → List ℕ
preamble_longs_out_of_range_text range actual =
    codes "invalid preamble longs: expected " ++ (range ++ (codes ", got " ++ decimal actual))
