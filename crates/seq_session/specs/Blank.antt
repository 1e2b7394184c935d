-- Definition: A log without the outcomes that tell of clients outside a circle.
use Rattle.std.specs.Prelude.{ℕ, Bool, ◌&&◌, if◌then◌else◌, List, ◌∷◌, ◌++◌, map, codes}
use Rattle.std.specs.List.{filter, list_any, join_with_byte}
use Rattle.std.specs.Fmt.{decimal}
use Rattle.std.specs.Str.{bytes_eq}
use Rattle.seq_state.specs.Circle.{aims_outside}
use Rattle.script_text.specs.declared.reading.ScriptRead.{ScriptRead}
use Rattle.script_text.specs.Words.{lines, words}
use Rattle.seq_session.specs.Merging.{lines_of}

-- the lines of the owner's script that say Connect or Disconnect at a target outside
abbrev pub outside_lines : (ℕ → Bool) → ScriptRead → List ℕ
outside_lines member script =
    lines_of (filter (λ x. aims_outside script.client member x.input.command) script.inputs)

-- the word is the number of one of these lines
abbrev pub is_one_of : List ℕ → List ℕ → Bool
is_one_of numbers word = list_any (λ n. bytes_eq word (decimal n)) numbers

-- a reply line of one of these lines ends after the line's number
abbrev pub cut_short : List ℕ → List ℕ → List (List ℕ) → List ℕ
cut_short numbers line (moment ∷ word ∷ number ∷ rest) =
    if bytes_eq word (codes "line") && is_one_of numbers number
    then moment ++ codes " line " ++ number else line
cut_short numbers line _ = line

abbrev pub blank_line : List ℕ → List ℕ → List ℕ
blank_line numbers line = cut_short numbers line (words line)

-- a text with each of its lines blanked so
abbrev pub text_with_blanks : List ℕ → List ℕ → List ℕ
text_with_blanks numbers text = join_with_byte 10 (map (blank_line numbers) (lines text))

-- the owner's log, where the outcomes at targets outside the circle are left out
abbrev pub blank : (ℕ → Bool) → ScriptRead → List ℕ → List ℕ
blank member script text = text_with_blanks (outside_lines member script) text
