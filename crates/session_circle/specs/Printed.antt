-- Definition: A circle as text, line by line.
use Rattle.std.specs.Prelude.{ℕ, ◌==◌, if◌then◌else◌, List, [], ◌∷◌, ◌++◌, codes, Option, Some, None, slice_get}
use Rattle.std.specs.List.{flat_map, list_any}
use Rattle.std.specs.Fmt.{decimal}
use Rattle.node_table.specs.Text.{addr_text, queue_text}
use Rattle.node_table.specs.declared.number.Addr.{Addr}
use Rattle.node_table.specs.declared.number.Node.{Node}
use Rattle.node_table.specs.declared.number.Node.TheVariants.{Port, Filter}
use Rattle.node_table.specs.declared.number.QueueAddr.{QueueAddr}
use Rattle.seq_state.specs.declared.input.Command.{Command}
use Rattle.seq_state.specs.declared.input.Command.TheVariants.{Connect, Disconnect, DeleteQueue, Start, Stop, Continue, Tempo, QueueStatus, Share, Schedule, Play}
use Rattle.seq_state.specs.declared.input.Input.{Input}
use Rattle.seq_circle.specs.declared.members.Joined.{Joined}
use Rattle.seq_circle.specs.Mending.{making_of, closed_making}
use Rattle.seq_session.specs.declared.source.Script.{Script}
use Rattle.session_circle.specs.declared.phrases.Deed.{Deed}
use Rattle.session_circle.specs.declared.phrases.Deed.TheVariants.{Asks, Makes, Closes}
use Rattle.session_circle.specs.declared.table.OwnedCircle.{OwnedCircle}

-- ---- what an input does

abbrev pub nodes_text : List ℕ → Addr → List ℕ → Addr → List ℕ
nodes_text verb source between target =
    verb ++ addr_text source.client source.node ++ between ++ addr_text target.client target.node

abbrev pub use_text : List ℕ → QueueAddr → List ℕ
use_text verb q = verb ++ queue_text q.client q.queue

-- what a command asks for, as ` connects 128:p0 to 130:f0`
abbrev pub asking_text : Command → List ℕ
asking_text (Connect source target) = nodes_text (codes " connects ") source (codes " to ") target
asking_text (Disconnect source target) =
    nodes_text (codes " disconnects ") source (codes " from ") target
asking_text (DeleteQueue q) = use_text (codes " drops ") q
asking_text (Start q) = use_text (codes " starts ") q
asking_text (Stop q) = use_text (codes " stops ") q
asking_text (Continue q) = use_text (codes " continues ") q
asking_text (Tempo q tempo) = use_text (codes " sets the tempo of ") q
asking_text (QueueStatus q) = use_text (codes " asks ") q
asking_text (Share q) = use_text (codes " shares ") q
asking_text (Schedule q port due message) = use_text (codes " schedules on ") q
asking_text (Play q port file) = use_text (codes " plays on ") q
asking_text _ = []

abbrev pub kind_text : Node → List ℕ
kind_text (Port n) = codes " port " ++ decimal n
kind_text (Filter n) = codes " filter " ++ decimal n

abbrev pub made_text : Option (Node × ℕ) → List ℕ
made_text None = []
made_text (Some made) = kind_text made.0 ++ codes " caps " ++ decimal made.1

-- what a command makes, as ` port 0 caps 66`
abbrev pub making_text : Command → List ℕ
making_text command = made_text (making_of command)

-- the same made without SUBS_WRITE, as ` port 0 caps 2`
abbrev pub closing_text : Command → List ℕ
closing_text command = making_text (closed_making command)

-- what is said of a command
abbrev pub deed_text : Deed → Command → List ℕ
deed_text Asks = asking_text
deed_text Makes = making_text
deed_text Closes = closing_text

-- ` line 7 of 130`
abbrev pub line_client_text : ℕ → ℕ → List ℕ
line_client_text line actor = codes " line " ++ decimal line ++ codes " of " ++ decimal actor

-- and what its command does
abbrev pub input_text : (Command → List ℕ) → ℕ → Input → List ℕ
input_text told line i = line_client_text line i.actor ++ told i.command

-- the same where both are there
abbrev pub line_text : (Command → List ℕ) → Option ℕ → Option Input → List ℕ
line_text told None i = []
line_text told (Some line) None = []
line_text told (Some line) (Some i) = input_text told line i

-- the input at a place, with its line
abbrev pub text_at : (Command → List ℕ) → List ℕ → List Input → ℕ → List ℕ
text_at told lines inputs place =
    line_text told (slice_get lines place) (slice_get inputs place)

-- ---- the lines

-- `circle 130`
abbrev pub owner_line : ℕ → List ℕ
owner_line owner = codes "circle " ++ decimal owner ++ codes "\n"

-- a client without a script says nothing in the session
abbrev pub silent_text : List Script → ℕ → List ℕ
silent_text scripts client =
    if list_any (λ s. s.client == client) scripts then [] else codes ", and has no script"

-- `member 128 because line 7 of 130 connects 128:p0 to 130:f0`
abbrev pub member_line : List Script → List ℕ → List Input → Joined → List ℕ
member_line scripts lines inputs j =
    (codes "member " ++ decimal j.client ++ codes " because")
    ++ text_at asking_text lines inputs j.place ++ silent_text scripts j.client ++ codes "\n"

-- `apart line 6 of 130 connects 130:p0 to 131:p0`
abbrev pub apart_line : List ℕ → List Input → ℕ → List ℕ
apart_line lines inputs place =
    codes "apart" ++ text_at asking_text lines inputs place ++ codes "\n"

-- `mend line 3 of 129 port 0 caps 2: nobody else may join it`
abbrev pub mending_line : List ℕ → List Input → ℕ → List ℕ
mending_line lines inputs place =
    codes "mend" ++ text_at closing_text lines inputs place
    ++ codes ": nobody else may join it\n"

-- `open line 3 of 129 port 0 caps 66: anyone may join it`, and how that is mended
abbrev pub opening_line : List ℕ → List Input → ℕ → List ℕ
opening_line lines inputs place =
    codes "open" ++ text_at making_text lines inputs place ++ codes ": anyone may join it\n"

abbrev pub opening_lines : List ℕ → List Input → ℕ → List ℕ
opening_lines lines inputs place =
    opening_line lines inputs place ++ mending_line lines inputs place

-- `shut`, or `open` where there are openings
abbrev pub verdict_line : List ℕ → List ℕ
verdict_line [] = codes "shut\n"
verdict_line (place ∷ openings) = codes "open\n"

-- the owner, the members, the outcomes that strangers may change, the openings with what mends
-- each, and the verdict
abbrev pub circle_text : ℕ → List Script → List ℕ → List Input → List Joined → List ℕ
    → List ℕ → List ℕ
circle_text owner scripts lines inputs joined apart openings =
    owner_line owner ++ flat_map (member_line scripts lines inputs) joined
    ++ flat_map (apart_line lines inputs) apart
    ++ flat_map (opening_lines lines inputs) openings ++ verdict_line openings

-- ---- a table of circles

-- ` 128`
abbrev pub client_text : ℕ → List ℕ
client_text client = codes " " ++ decimal client

-- ` 128 129`
abbrev pub members_text : List Joined → List ℕ
members_text joined = flat_map (λ j. client_text j.client) joined

-- ` with 128 129`, or nothing where the owner is alone
abbrev pub company_text : List Joined → List ℕ
company_text [] = []
company_text (j ∷ joined) = codes " with" ++ members_text (j ∷ joined)

-- `, apart line 6 of 131 connects 131:p0 to 140:p0`: the first of the outcomes that strangers may
-- change
abbrev pub first_apart_text : List ℕ → List Input → List ℕ → List ℕ
first_apart_text lines inputs [] = []
first_apart_text lines inputs (place ∷ apart) =
    codes ", apart" ++ text_at asking_text lines inputs place

-- `shut with 128`
abbrev pub shut_line : List ℕ → List Input → List Joined → List ℕ → List ℕ
shut_line lines inputs joined apart =
    codes "shut" ++ company_text joined ++ first_apart_text lines inputs apart ++ codes "\n"

-- the first opening where there are some, and that it is shut where there are none
abbrev pub answer_line : List ℕ → List Input → List Joined → List ℕ → List ℕ → List ℕ
answer_line lines inputs joined apart [] = shut_line lines inputs joined apart
answer_line lines inputs joined apart (place ∷ openings) = opening_line lines inputs place

-- `130 shut with 128 129`
abbrev pub table_line : List ℕ → List Input → OwnedCircle → List ℕ
table_line lines inputs c =
    (decimal c.owner ++ codes " ")
    ++ answer_line lines inputs c.circle.joined.items c.circle.apart.items c.circle.openings.items

abbrev pub table_text : List ℕ → List Input → List OwnedCircle → List ℕ
table_text lines inputs circles = flat_map (table_line lines inputs) circles
