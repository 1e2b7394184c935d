-- Definition: A session without an end, and lines that go back in time.
use Rattle.std.specs.Prelude.{◌≡◌, ◌≤◌, ℕ, ◌==◌, nat_le, Bool, true, false, IsTrue, IsFalse, List, [], ◌∷◌, ◌++◌, map, Option, Some, None}
use Rattle.std.specs.List.{filter, find, list_all, list_any}
use Rattle.std.specs.Option.{option_map}
use Rattle.script_text.specs.declared.reading.ScriptInput.{ScriptInput}
use Rattle.script_text.specs.declared.reading.ScriptRead.{ScriptRead}
use Rattle.script_text.specs.declared.reading.Skip.{Skip}
use Rattle.script_text.specs.declared.reading.SkipReason.{SkipReason}
use Rattle.script_text.specs.declared.reading.SkipReason.TheVariants.{Late}
use Rattle.seq_session.specs.declared.source.Script.{Script}
use Rattle.seq_session.specs.Blank.{outside_lines}
use Rattle.seq_session.specs.Sessions.{FolderContents, script_reading, script_for}
use Rattle.session_circle.specs.declared.every_end.TheConstants.{NO_END}

-- ---- the session without an end

-- the reading of a script of which no line is past the end
abbrev pub whole_reading : FolderContents → Script → ScriptRead
whole_reading folder s = script_reading folder NO_END s

-- those whose moment is not past the end
abbrev pub inputs_until : ℕ → List ScriptInput → List ScriptInput
inputs_until end xs = filter (λ x. nat_le x.input.moment end) xs

-- ---- lines that go back in time

abbrev pub is_back : SkipReason → Bool
is_back Late = true
is_back _ = false

-- a line of the script is skipped since it goes back in time
abbrev pub goes_back : ScriptRead → Bool
goes_back r = list_any (λ s. is_back s.why) r.skips

-- the first such line
abbrev pub line_back : List Skip → Option ℕ
line_back skips = option_map (λ s. s.line) (find (λ s. is_back s.why) skips)

abbrev pub NoneGoesBack : FolderContents → List Script → Type 0
NoneGoesBack folder scripts = IsFalse (list_any (λ s. goes_back (whole_reading folder s)) scripts)

-- no line of the scripts goes back in time, and these are their readings without an end
pub record AreForward (folder : FolderContents) (scripts : List Script)
    (reads : List ScriptRead) : Type 0 where
  pub none_goes_back : NoneGoesBack folder scripts
  pub reads_are : reads ≡ map (whole_reading folder) scripts

-- the client and the line, where there is one; else what comes later
abbrev pub back_or_later : ℕ → Option ℕ → Option (ℕ × ℕ) → Option (ℕ × ℕ)
back_or_later client None later = later
back_or_later client (Some line) later = Some (client, line)

-- the client of the first reading with a line that goes back in time, and that line
abbrev pub first_back : List ScriptRead → Option (ℕ × ℕ)
first_back [] = None
first_back (r ∷ reads) = back_or_later r.client (line_back r.skips) (first_back reads)

-- Of the scripts with a line that goes back in time, the first is this client's, and of its lines
-- this one is the first.
pub record IsFirstBack (folder : FolderContents) (scripts : List Script) (client line : ℕ) :
    Type 0 where
  pub before : List Script
  pub script : Script
  pub after : List Script
  pub scripts_are : scripts ≡ before ++ script ∷ after
  pub none_before : NoneGoesBack folder before
  pub of_client : script.client ≡ client
  pub line_is : line_back (whole_reading folder script).skips ≡ Some line
  pub goes : NoneGoesBack folder scripts → ⊥

-- ---- lines apart

-- each of the first numbers is one of the others
abbrev pub AreAmong : List ℕ → List ℕ → Type 0
AreAmong xs ys = IsTrue (list_all (λ x. list_any (λ y. y == x) ys) xs)

-- whatever the end, the lines of the client's script whose outcomes strangers may change are among
-- those of the session without an end
abbrev pub AreApartForEveryEnd : FolderContents → List Script → ℕ → (ℕ → Bool) → Type 0
AreApartForEveryEnd folder scripts client member =
    (owner : Script) → script_for client scripts ≡ Some owner →
    (end : ℕ) → end ≤ NO_END →
    AreAmong (outside_lines member (script_reading folder end owner))
    (outside_lines member (whole_reading folder owner))
