-- Representation: What words say, as the code takes them.
use Rattle.std.specs.Prelude.{ℕ, ◌==◌, ◌&&◌, Bool, if◌then◌else◌, List, [], ◌∷◌, replicate, Option, Some, None}
use Rattle.std.specs.Option.{option_map}
use Rattle.std.specs.Str.{bytes_eq}
use Rattle.script_text.specs.Numbers.{up_to, u16}
use Rattle.script_text.specs.Words.{is_empty}
use Rattle.smf_make.specs.declared.meta_types.MetaShape.{MetaShape}
use Rattle.smf_make.specs.declared.meta_types.MetaShape.TheVariants as code
use Rattle.smf_make.specs.declared.meta_types.NamedType.{NamedType}
use Rattle.smf_text.specs.AllTexts.{Shape, Quoted, Numbers, Key, Bytes}
use Rattle.smf_make.specs.SaidEvents.{unindented}

-- nothing but blanks
abbrev pub closes : List ℕ → Bool
closes text = is_empty (unindented text)

-- a quotation mark with nothing but blanks behind it, which ends bytes
abbrev pub mark_closed : List ℕ → Option (List ℕ)
mark_closed [] = None
mark_closed (b ∷ text) = if b == 34 && closes text then Some [] else None

-- the number that the only word says
abbrev pub only_number : ℕ → List (List ℕ) → Option ℕ
only_number most (w ∷ []) = up_to most w
only_number most _ = None

-- the number behind a word, and the words behind it
abbrev pub numbered : List ℕ → List (List ℕ) → Option (ℕ × List (List ℕ))
numbered name (w ∷ n ∷ ws) =
    if bytes_eq w name then option_map (λ k. (k, ws)) (u16 n) else None
numbered name _ = None

abbrev pub shape_seen : MetaShape → Shape
shape_seen code.Quoted = Quoted
shape_seen code.Two = Numbers (2 ∷ [])
shape_seen code.Three = Numbers (3 ∷ [])
shape_seen (code.Each count) = Numbers (replicate count 1)
shape_seen code.Key = Key
shape_seen code.Bytes = Bytes

-- a type by its number, with its shape
abbrev pub type_seen : NamedType → ℕ × Shape
type_seen named = (named.kind, shape_seen named.shape)

-- the row of a type among the words
abbrev pub row_seen : NamedType → ℕ × (List ℕ × Shape)
row_seen named = (named.kind, (named.name.now, shape_seen named.shape))
