-- Definition: What becomes of a message, as text, with a line for each way.
use Rattle.std.specs.Prelude.{ℕ, zero, suc, ◌+◌, Bool, true, false, if◌then◌else◌, List, [], ◌∷◌, ◌++◌, codes}
use Rattle.std.specs.List.{flat_map}
use Rattle.std.specs.Fmt.{decimal, signed_decimal}
use Rattle.node_table.specs.Addresses.{same}
use Rattle.node_table.specs.Text.{addr_text}
use Rattle.node_table.specs.declared.number.Addr.{Addr}
use Rattle.way_fates.specs.declared.stop.Stop.{Stop}
use Rattle.way_fates.specs.declared.stop.Stop.TheVariants.{Kind, Channel, NoteBelow, NoteAbove, NoteShifted}
use Rattle.way_fates.specs.declared.fate.Fate.{Fate}
use Rattle.way_fates.specs.declared.fate.Fate.TheVariants.{Stopped, Arrives, Lost}
use Rattle.way_fates.specs.declared.fate.WayFate.{WayFate}

abbrev pub node_text : Addr → List ℕ
node_text a = addr_text a.client a.node

-- the test that a message fails, as `note 36 is below 60`; channels count from 1
abbrev pub stop_text : Stop → List ℕ
stop_text Kind = codes "messages of its kind are not let through"
stop_text (Channel n) = codes "channel " ++ decimal (n + 1) ++ codes " is not let through"
stop_text (NoteBelow note low) =
    codes "note " ++ decimal note ++ codes " is below " ++ decimal low
stop_text (NoteAbove note high) =
    codes "note " ++ decimal note ++ codes " is above " ++ decimal high
stop_text (NoteShifted note shift) =
    (codes "note " ++ decimal note ++ codes " shifted by ")
    ++ (signed_decimal shift ++ codes " is no note")

abbrev pub fate_text : Fate → List ℕ
fate_text (Stopped filter why) = codes " stopped: " ++ stop_text why
fate_text Arrives = codes " arrives"
fate_text (Lost size) = codes " lost: pool of " ++ decimal size ++ codes " full"

-- the nodes of a way up to this one, and with it
abbrev pub up_to : Addr → List Addr → List Addr
up_to last [] = []
up_to last (node ∷ nodes) = if same node last then node ∷ [] else node ∷ up_to last nodes

-- how far a message comes
abbrev pub reached : Fate → List Addr → List Addr
reached (Stopped filter why) route = up_to filter route
reached _ route = route

abbrev pub step_text : Addr → List ℕ
step_text a = codes " > " ++ node_text a

abbrev pub steps_text : List Addr → List ℕ
steps_text nodes = flat_map step_text nodes

-- `128:p0 > 131:f0 stopped: note 36 is below 60`
abbrev pub way_line : Addr → WayFate → List ℕ
way_line source way =
    node_text source ++ (steps_text (reached way.fate way.route) ++ (fate_text way.fate ++ 10 ∷ []))

abbrev pub ways_text : Addr → List WayFate → List ℕ
ways_text source ways = flat_map (way_line source) ways

-- of how many ways more no line is told
abbrev pub more_text : ℕ → List ℕ
more_text zero = []
more_text (suc n) = codes "and " ++ decimal (suc n) ++ codes " ways more\n"

-- what is said of a port from which no way leads
abbrev pub no_way_text : Bool → Addr → List ℕ
no_way_text true source = node_text source ++ codes " leads to no port\n"
no_way_text false source = node_text source ++ codes " is not there\n"

-- the lines of the ways from a port that is there or not, and of how many there are beside them
abbrev pub fates_text : Bool → Addr → List WayFate → ℕ → List ℕ
fates_text there source [] more = no_way_text there source ++ more_text more
fates_text there source (way ∷ ways) more =
    ways_text source (way ∷ ways) ++ more_text more
