-- Definition: A script: its inputs with their lines, and the lines that are skipped.
use Rattle.std.specs.Prelude.{ℕ, ◌+◌, ◌==◌, nat_le, nat_lt, Bool, false, if◌then◌else◌, List, [], ◌∷◌, length, Option, Some, None}
use Rattle.std.specs.Option.{option_map, option_and_then}
use Rattle.std.specs.Str.{byte}
use Rattle.seq_state.specs.declared.input.Command.{Command}
use Rattle.script_text.specs.declared.line.Fate.{Fate}
use Rattle.script_text.specs.declared.line.Fate.TheVariants.{PassedOver, Skipped, Taken}
use Rattle.script_text.specs.declared.reading.ScriptInput.{ScriptInput}
use Rattle.script_text.specs.declared.reading.ScriptRead.{ScriptRead}
use Rattle.script_text.specs.declared.reading.SkipReason.TheVariants.{Unreadable, PastEnd, Late, TooLong}
use Rattle.script_text.specs.declared.script.TheConstants.{MOST_SCRIPT}
use Rattle.script_text.specs.Numbers.{u64}
use Rattle.script_text.specs.Table.{Reads, command}
use Rattle.script_text.specs.Words.{lines, words, without_return}

-- ---- a line

-- a moment, and a command
abbrev pub timed_command : List (List ℕ) → Reads (ℕ × Command)
timed_command names [] = None
timed_command names (moment ∷ rest) =
    option_and_then (λ m. option_map (λ c. (m, c)) (command names rest)) (u64 moment)

-- a command is taken where its moment is not past the end, and not below that of the last one taken
abbrev pub fate_in_time : ℕ → ℕ → Option (ℕ × Command) → Fate
fate_in_time end latest None = Skipped Unreadable
fate_in_time end latest (Some s) =
    if nat_lt end s.0 then Skipped PastEnd
    else (if nat_lt s.0 latest then Skipped Late else Taken s.0 s.1)

-- a line without words says nothing, nor does one whose first word begins so
abbrev pub is_remark : List ℕ → Bool
is_remark [] = false
is_remark (b ∷ word) = b == byte "#"

abbrev pub fate_of : List (List ℕ) → ℕ → ℕ → List (List ℕ) → Fate
fate_of names end latest [] = PassedOver
fate_of names end latest (w ∷ rest) =
    if is_remark w then PassedOver else fate_in_time end latest (timed_command names (w ∷ rest))

abbrev pub fate : List (List ℕ) → ℕ → ℕ → List ℕ → Fate
fate names end latest line = fate_of names end latest (words (without_return line))

-- ---- a script

-- the moment of the last line that was taken
abbrev pub latest_after : ℕ → Fate → ℕ
latest_after latest (Taken moment c) = moment
latest_after latest _ = latest

abbrev pub input_at : ℕ → ℕ → ℕ → Command → ScriptInput
input_at line moment client c = record {
  line = line;
  input = record { moment = moment; actor = client; command = c };
}

-- the reading with one more line in front
abbrev pub with_line : ℕ → Fate → ScriptRead → ScriptRead
with_line n PassedOver r = r
with_line n (Skipped why) r = record r { skips = record { line = n; why = why } ∷ r.skips }
with_line n (Taken moment c) r = record r { inputs = input_at n moment r.client c ∷ r.inputs }

abbrev pub nothing_read : ℕ → ScriptRead
nothing_read client = record { client = client; inputs = []; skips = [] }

-- the lines from number n on, after a line of this moment was taken
abbrev pub read_from : ℕ → List (List ℕ) → ℕ → ℕ → ℕ → List (List ℕ) → ScriptRead
read_from client names end latest n [] = nothing_read client
read_from client names end latest n (l ∷ ls) =
    with_line n (fate names end latest l)
    (read_from client names end (latest_after latest (fate names end latest l)) (n + 1) ls)

abbrev pub too_long_script : ℕ → ScriptRead
too_long_script client = record {
  client = client;
  inputs = [];
  skips = record { line = 0; why = TooLong } ∷ [];
}

-- the reading of a client's script, where the run has files of these names and ends at this moment
abbrev pub script : ℕ → List (List ℕ) → ℕ → List ℕ → ScriptRead
script client names end text =
    if nat_le (length text) MOST_SCRIPT then read_from client names end 0 1 (lines text)
    else too_long_script client
