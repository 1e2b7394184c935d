-- Definition: A line of a session to which many clients talk while it runs.
use Rattle.std.specs.Prelude.{ℕ, if◌then◌else◌, List, [], ◌∷◌, Option, Some, None, codes}
use Rattle.std.specs.Str.{bytes_eq}
use Rattle.seq_state.specs.declared.input.Command.{Command}
use Rattle.script_text.specs.declared.live_lines.LiveLine.{LiveLine}
use Rattle.script_text.specs.declared.live_lines.LiveLine.TheVariants.{Nothing, Unknown, Says, Passes, Asks}
use Rattle.script_text.specs.Numbers.{u64, client_number}
use Rattle.script_text.specs.Scripts.{timed_command, is_remark}
use Rattle.script_text.specs.Words.{words, without_return}

-- what a client says
abbrev pub said_by : ℕ → Option (ℕ × Command) → LiveLine
said_by client None = Unknown (Some client)
said_by client (Some s) = Says client s.0 s.1

-- a moment, a client and a command
abbrev pub client_line : List (List ℕ) → List ℕ → Option ℕ → List (List ℕ) → LiveLine
client_line names moment None rest = Unknown None
client_line names moment (Some client) rest = said_by client (timed_command names (moment ∷ rest))

-- a moment alone
abbrev pub moment_line : Option ℕ → LiveLine
moment_line None = Unknown None
moment_line (Some moment) = Passes moment

abbrev pub word_line : List ℕ → LiveLine
word_line word = if bytes_eq word (codes "list") then Asks else moment_line (u64 word)

abbrev pub line_of_words : List (List ℕ) → List (List ℕ) → LiveLine
line_of_words names [] = Nothing
line_of_words names (w ∷ []) = if is_remark w then Nothing else word_line w
line_of_words names (w ∷ c ∷ rest) =
    if is_remark w then Nothing else client_line names w (client_number c) rest

-- what a line says, where the run has files of these names
abbrev pub live_line : List (List ℕ) → List ℕ → LiveLine
live_line names line = line_of_words names (words (without_return line))
