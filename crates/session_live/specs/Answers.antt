-- Definition: What each line is answered.
use Rattle.std.specs.Prelude.{ℕ, List, [], ◌∷◌, ◌++◌, map, Option, Some, None, codes}
use Rattle.std.specs.List.{flat_map}
use Rattle.std.specs.Fmt.{decimal}
use Rattle.seq_state.specs.declared.input.Input.{Input}
use Rattle.seq_state.specs.declared.log.Delivery.{Delivery}
use Rattle.seq_state.specs.declared.log.LogEntry.{LogEntry}
use Rattle.seq_state.specs.declared.log.LogEntry.TheVariants.{Delivered, Replied}
use Rattle.seq_state.specs.declared.log.Reply.{Reply}
use Rattle.smf_grammar.specs.Played.{PlayedFile}
use Rattle.seq_state.specs.State.{State, start}
use Rattle.seq_state.specs.Step.{step, settle}
use Rattle.seq_engine.specs.Ending.{listing_of}
use Rattle.script_text.specs.declared.reading.SkipReason.{SkipReason}
use Rattle.seq_session.specs.Logs.{delivery_line, reply_text, skip_line}
use Rattle.seq_session.specs.Sessions.{FolderContents}
use Rattle.session_live.specs.Lines.{Item, PassedOver, Skipped, Said, Waited, Asked, nothing_heard, items_from, whole_lines}
use Rattle.seq_settle.specs.Next.{next_moment}

-- A part of an answer: what comes to a client, the reply to a client's line of this number, a line
-- of a client or of nobody that is skipped, the listing, or when something is due next.
pub data Part : Type 0 where
  Comes : Delivery → Part
  Answers : ℕ → Input → Reply → Part
  Skips : Option ℕ → ℕ → SkipReason → Part
  Lists : State → Part
  Next : Option ℕ → Part

-- each answer ends with when something is due next
abbrev pub ended : List Part → State → List Part
ended parts s = parts ++ Next (next_moment s) ∷ []

-- the state after a line
abbrev pub after_item : List PlayedFile → State → Item → State
after_item files s (Said n i) = (step files s i).state
after_item files s (Waited m) = (settle s m).state
after_item files s PassedOver = s
after_item files s (Skipped client n why) = s
after_item files s Asked = s

-- the answer to a line
abbrev pub answer : List PlayedFile → State → Item → List Part
answer files s PassedOver = []
answer files s (Skipped client n why) = ended (Skips client n why ∷ []) s
answer files s (Said n i) =
    ended (map Comes (step files s i).delivered ++ Answers n i (step files s i).reply ∷ [])
    (step files s i).state
answer files s (Waited m) = ended (map Comes (settle s m).delivered) (settle s m).state
answer files s Asked = ended (Lists s ∷ []) s

abbrev pub answers_from : List PlayedFile → State → List Item → List Part
answers_from files s [] = []
answers_from files s (x ∷ xs) = answer files s x ++ answers_from files (after_item files s x) xs

abbrev pub state_from : List PlayedFile → State → List Item → State
state_from files s [] = s
state_from files s (x ∷ xs) = state_from files (after_item files s x) xs

-- what becomes of lines, from the beginning
abbrev pub items_of : FolderContents → List (List ℕ) → List Item
items_of folder ls = items_from folder.names nothing_heard ls

-- the answers to lines, from the beginning
abbrev pub answers_to : FolderContents → List (List ℕ) → List Part
answers_to folder ls = answers_from folder.files start (items_of folder ls)

-- ---- as text

-- the lines of a text, each with this before it
abbrev pub fronted : List ℕ → List ℕ → List ℕ
fronted front text = flat_map (λ l. front ++ l ++ codes "\n") (whole_lines text)

-- the lines of a text, each with the client before it
abbrev pub to_client : ℕ → List ℕ → List ℕ
to_client client text = fronted (decimal client ++ codes " ") text

abbrev pub skip_text : Option ℕ → List ℕ → List ℕ
skip_text None text = text
skip_text (Some client) text = to_client client text

abbrev pub next_word : Option ℕ → List ℕ
next_word None = codes "never"
next_word (Some m) = decimal m

abbrev pub part_text : Part → List ℕ
part_text (Comes d) = to_client d.target.client (delivery_line d)
part_text (Answers n i reply) = to_client i.actor (reply_text i.moment (Some n) reply)
part_text (Skips client n why) = skip_text client (skip_line (record { line = n; why = why }))
part_text (Lists s) = fronted (codes "list ") (listing_of s)
part_text (Next m) = codes "next " ++ next_word m ++ codes "\n"

abbrev pub parts_text : List Part → List ℕ
parts_text parts = flat_map part_text parts

-- the answers to a text
abbrev pub live_text : FolderContents → List ℕ → List ℕ
live_text folder text = parts_text (answers_to folder (whole_lines text))

-- ---- as entries of a log

-- an entry without the place of its input
abbrev pub unplaced : LogEntry → LogEntry
unplaced (Delivered d) = Delivered d
unplaced (Replied place moment client reply) = Replied 0 moment client reply

abbrev pub entry_of : Part → List LogEntry
entry_of (Comes d) = Delivered d ∷ []
entry_of (Answers n i reply) = Replied 0 i.moment i.actor reply ∷ []
entry_of (Skips client n why) = []
entry_of (Lists s) = []
entry_of (Next m) = []
