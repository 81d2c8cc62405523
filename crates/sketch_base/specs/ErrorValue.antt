-- An error as its callers see it, and the line that it displays.
use Rattle.std.specs.Prelude.{ℕ, List, [], ◌∷◌, ◌++◌, length, codes, ◌==◌, if◌then◌else◌}
use Rattle.std.specs.List.{flat_map}
use Rattle.sketch_base.specs.declared.error.ErrorKind.{ErrorKind}
use Rattle.sketch_base.specs.declared.error.ErrorKind.TheVariants.{InvalidArgument, InvalidData, OutOfMemory}

-- a context of an error: a key, and the text that a value printed
pub record ContextValue : Type 0 where
  pub key : List ℕ
  pub text : List ℕ

-- an error: its kind, its message, and its contexts in the order in which they were added
pub record ErrorValue : Type 0 where
  pub kind : ErrorKind
  pub message : List ℕ
  pub contexts : List ContextValue

-- an error with no context
abbrev pub error_of : ErrorKind → List ℕ → ErrorValue
error_of kind message = record { kind = kind; message = message; contexts = [] }

-- the error if there is no memory for the text of another
abbrev pub memory_error : ErrorValue
memory_error = error_of OutOfMemory []

-- the error with one more context, after those that it has
abbrev pub add_context : ErrorValue → List ℕ → List ℕ → ErrorValue
add_context error key text =
    record error { contexts = error.contexts ++ record { key = key; text = text } ∷ [] }

-- the kind's name
abbrev pub error_kind_name : ErrorKind → List ℕ
error_kind_name InvalidArgument = codes "InvalidArgument"
error_kind_name InvalidData = codes "InvalidData"
error_kind_name OutOfMemory = codes "OutOfMemory"

-- one context as it is displayed, `key: text`
abbrev pub pair_text : ContextValue → List ℕ
pair_text context = context.key ++ codes ": " ++ context.text

-- all contexts as they are displayed: nothing for none, else `, context: { key: text, key: text }`
abbrev pub contexts_text : List ContextValue → List ℕ
contexts_text [] = []
contexts_text (first ∷ others) =
    codes ", context: { " ++ pair_text first
    ++ flat_map (λ other. codes ", " ++ pair_text other) others ++ codes " }"

-- the message as it is displayed: nothing for an empty one, else ` => ` and the message
abbrev pub message_text : List ℕ → List ℕ
message_text message = if length message == 0 then [] else codes " => " ++ message

-- the displayed line
abbrev pub line : ErrorValue → List ℕ
line error =
    error_kind_name error.kind ++ contexts_text error.contexts ++ message_text error.message

-- all contexts in the debug text: nothing for none, else an empty line, the line `Context:`, and a
-- line for each, which begins with three spaces
abbrev pub context_lines : List ContextValue → List ℕ
context_lines [] = []
context_lines (first ∷ others) = 10 ∷ codes "Context:" ++ 10 ∷
    flat_map (λ context. codes "   " ++ pair_text context ++ 10 ∷ []) (first ∷ others)

-- the debug text: the kind and the message as they are displayed, a newline, and the contexts
abbrev pub debug_text : ErrorValue → List ℕ
debug_text error =
    error_kind_name error.kind ++ message_text error.message ++ 10 ∷ context_lines error.contexts
