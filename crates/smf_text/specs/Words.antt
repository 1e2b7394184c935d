-- Representation: The words of meta events, as the code has them.
use Rattle.std.specs.Prelude.{ℕ, List, [], ◌∷◌, replicate, Option, Some, None}
use Rattle.std.specs.Fmt.{decimal}
use Rattle.std.specs.List.{flat_map}
use Rattle.smf_text.specs.declared.words.MetaShape.{MetaShape}
use Rattle.smf_text.specs.declared.words.MetaShape.TheVariants as code
use Rattle.smf_text.specs.declared.words.MetaWord.{MetaWord}
use Rattle.smf_text.specs.AllTexts.{Shape, Quoted, Numbers, Key, Bytes}

abbrev pub shape_seen : MetaShape → Shape
shape_seen code.Quoted = Quoted
shape_seen code.Two = Numbers (2 ∷ [])
shape_seen code.Three = Numbers (3 ∷ [])
shape_seen (code.Each count) = Numbers (replicate count 1)
shape_seen code.Key = Key
shape_seen code.Bytes = Bytes

abbrev pub word_seen : Option MetaWord → Option (List ℕ × Shape)
word_seen None = None
word_seen (Some word) = Some (word.name.now, shape_seen word.shape)

-- a space and a number for each byte
abbrev pub each_text : List ℕ → List ℕ
each_text bytes = flat_map (λ b. 32 ∷ decimal b) bytes
