-- Definition: What stands in the text for a client.
use Rattle.std.specs.Prelude.{ℕ, ◌==◌, if◌then◌else◌, List, [], ◌++◌, take, drop, length, Option, Some, None, codes}
use Rattle.std.specs.Fmt.{decimal}
use Rattle.std.specs.List.{flat_map}
use Rattle.std.specs.Str.{bytes_eq}
use Rattle.seq_state.specs.Circle.{is_to}
use Rattle.script_text.specs.declared.reading.SkipReason.{SkipReason}
use Rattle.seq_session.specs.Logs.{delivery_line, reply_text, skip_line}
use Rattle.session_live.specs.Lines.{whole_lines}
use Rattle.session_live.specs.Answers.{Part, Comes, Answers, Skips, Lists, Next}

-- a line without this front, where it has it
abbrev pub line_with : List ℕ → List ℕ → List ℕ
line_with front line =
    if bytes_eq (take (length front) line) front then drop (length front) line ++ codes "\n" else []

-- the lines of a text that have this front, without it
abbrev pub lines_with : List ℕ → List ℕ → List ℕ
lines_with front text = flat_map (line_with front) (whole_lines text)

-- what of a text is a client's
abbrev pub log_in : ℕ → List ℕ → List ℕ
log_in client text = lines_with (decimal client ++ codes " ") text

abbrev pub skip_log : ℕ → Option ℕ → ℕ → SkipReason → List ℕ
skip_log owner None n why = []
skip_log owner (Some client) n why =
    if client == owner then skip_line (record { line = n; why = why }) else []

-- what a log of the client has of a part
abbrev pub part_log : ℕ → Part → List ℕ
part_log owner (Comes d) = if is_to owner d then delivery_line d else []
part_log owner (Answers n i reply) =
    if i.actor == owner then reply_text i.moment (Some n) reply else []
part_log owner (Skips client n why) = skip_log owner client n why
part_log owner (Lists s) = []
part_log owner (Next m) = []
