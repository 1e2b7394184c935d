-- Law: What holds of the answers, for all lines.
use Rattle.std.specs.Prelude.{◌≡◌, ℕ, Bool, true, IsTrue, List, [], ◌++◌, map}
use Rattle.std.specs.List.{flat_map, list_all}
use Rattle.seq_state.specs.declared.log.LogEntry.TheVariants.{Delivered}
use Rattle.seq_state.specs.Circle.{IsClosed}
use Rattle.smf_grammar.specs.Played.{PlayedFile}
use Rattle.seq_state.specs.State.{start}
use Rattle.seq_state.specs.Step.{settle, plain}
use Rattle.seq_circle.specs.Shut.{is_shut}
use Rattle.seq_session.specs.Blank.{text_with_blanks}
use Rattle.seq_session.specs.declared.source.Script.{Script}
use Rattle.seq_session.specs.Logs.{skips_text, entries_text}
use Rattle.seq_session.specs.Sessions.{FolderContents, script_reading, session, log_of}
use Rattle.session_live.specs.Lines.{Item, IsTimedUpTo, Heard, nothing_heard, items_from, heard_from, inputs_in, numbered_inputs, is_unskipped}
use Rattle.session_live.specs.Answers.{answers_from, state_from, items_of, answers_to, parts_text, unplaced, entry_of}
use Rattle.session_live.specs.Circles.{own_lines, alone, lines_alone, outside_numbers, circle_lines}
use Rattle.session_live.specs.Texts.{log_in, part_log}

-- the moments of what becomes of lines never fall, up to the last one
abbrev pub TimedLaw : Type 0
TimedLaw =
    (names : List (List ℕ)) (h : Heard) (ls : List (List ℕ)) →
    IsTimedUpTo h.latest (items_from names h ls) (heard_from names h ls).latest

-- what was delivered and replied, and what is still due by the end, is the plain run of the inputs
abbrev pub PlainLaw : Type 0
PlainLaw =
    (files : List PlayedFile) (xs : List Item) (end : ℕ) → IsTimedUpTo 0 xs end →
    flat_map entry_of (answers_from files start xs)
    ++ map Delivered (settle (state_from files start xs) end).delivered
    ≡ map unplaced (plain files (inputs_in xs) end)

-- where the circle is closed in the inputs, its owner is answered what it is answered where all
-- that strangers say is but time that passes
abbrev pub AloneLaw : Type 0
AloneLaw =
    (files : List PlayedFile) (owner : ℕ) (member : ℕ → Bool) (xs : List Item) (end : ℕ) →
    IsTimedUpTo 0 xs end → IsClosed files owner member (inputs_in xs) →
    own_lines owner member (answers_from files start xs)
    ≡ own_lines owner member (answers_from files start (map (alone member) xs))

-- the same of lines: in place of a stranger's lines stand their moments
abbrev pub LinesLaw : Type 0
LinesLaw =
    (files : List PlayedFile) (owner : ℕ) (member : ℕ → Bool) (names ls : List (List ℕ)) →
    IsClosed files owner member (inputs_in (items_from names nothing_heard ls)) →
    own_lines owner member (answers_from files start (items_from names nothing_heard ls))
    ≡ own_lines owner member (answers_from files start
    (items_from names nothing_heard (lines_alone member names nothing_heard ls)))

-- what stands in the text for a client is what its log has of the answers
abbrev pub TextLaw : Type 0
TextLaw =
    (folder : FolderContents) (owner : ℕ) (ls : List (List ℕ)) →
    log_in owner (parts_text (answers_to folder ls))
    ≡ flat_map (part_log owner) (answers_to folder ls)

-- From bytes to bytes: where the circle is closed in the inputs of the lines, what stands in the
-- answers for its owner is, but for the outcomes at targets outside, what stands there where in
-- place of strangers' lines stand their moments.
abbrev pub BytesLaw : Type 0
BytesLaw =
    (folder : FolderContents) (owner : ℕ) (member : ℕ → Bool) (ls : List (List ℕ)) →
    IsClosed folder.files owner member (inputs_in (items_of folder ls)) →
    (let numbers = outside_numbers owner member (items_of folder ls) in
    let rest = lines_alone member folder.names nothing_heard ls in
    text_with_blanks numbers (log_in owner (parts_text (answers_to folder ls)))
    ≡ text_with_blanks numbers (log_in owner (parts_text (answers_to folder rest))))

-- Where the circle is closed in the inputs of two lists of lines that are the same for the circle,
-- its owner is answered the same bytes, but for the outcomes at targets outside.
abbrev pub AgreeLinesLaw : Type 0
AgreeLinesLaw =
    (folder : FolderContents) (owner : ℕ) (member : ℕ → Bool) (ls others : List (List ℕ)) →
    IsClosed folder.files owner member (inputs_in (items_of folder ls)) →
    IsClosed folder.files owner member (inputs_in (items_of folder others)) →
    circle_lines member (items_of folder others) ≡ circle_lines member (items_of folder ls) →
    (let numbers = outside_numbers owner member (items_of folder ls) in
    text_with_blanks numbers (log_in owner (parts_text (answers_to folder others)))
    ≡ text_with_blanks numbers (log_in owner (parts_text (answers_to folder ls))))

-- Where the circle is shut in what its members say, that holds whatever strangers say.
abbrev pub ShutLinesLaw : Type 0
ShutLinesLaw =
    (folder : FolderContents) (owner : ℕ) (member : ℕ → Bool) (ls others : List (List ℕ)) →
    IsTrue (is_shut owner member (inputs_in (items_of folder ls))) →
    circle_lines member (items_of folder others) ≡ circle_lines member (items_of folder ls) →
    (let numbers = outside_numbers owner member (items_of folder ls) in
    text_with_blanks numbers (log_in owner (parts_text (answers_to folder others)))
    ≡ text_with_blanks numbers (log_in owner (parts_text (answers_to folder ls))))

-- Where lines say what scripts say, in the order of their run and with the numbers of their lines,
-- and none of a client's is skipped, it is answered what stands in its log below the skipped lines,
-- but for what settling up to the end brings.
abbrev pub RunLaw : Type 0
RunLaw =
    (folder : FolderContents) (end : ℕ) (scripts : List Script) (s : Script)
    (ls : List (List ℕ)) →
    numbered_inputs (items_of folder ls) ≡ session folder end scripts →
    IsTimedUpTo 0 (items_of folder ls) end →
    list_all (is_unskipped s.client) (items_of folder ls) ≡ true →
    (let rest = (settle (state_from folder.files start (items_of folder ls)) end).delivered in
    skips_text (script_reading folder end s).skips
    ++ log_in s.client (parts_text (answers_to folder ls))
    ++ entries_text s.client [] (map Delivered rest) ≡ log_of folder end scripts s)
