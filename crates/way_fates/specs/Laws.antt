-- Law: Fates say which copies are sent, and a stop is the first test that fails.
use Rattle.std.specs.Prelude.{◌≡◌, ◌≤◌, ◌<◌, ℕ, pos, ◌+ℤ◌, Bool, true, false, not, if◌then◌else◌, List, ◌∷◌, ◌++◌, map, Some, None, is_some, is_none}
use Rattle.std.specs.List.{filter_map, zip}
use Rattle.std.specs.Ordering.{nat_cmp}
use Rattle.std.specs.FinMap.{FinMap}
use Rattle.midi_wire.specs.Kinds.{kind_of, channel_number}
use Rattle.node_table.specs.declared.number.Addr.{Addr}
use Rattle.patch_graph.specs.declared.edge.Edge.{Edge}
use Rattle.patch_graph.specs.Paths.{paths}
use Rattle.route_filter.specs.declared.rule_args.RuleArgs.{RuleArgs}
use Rattle.route_filter.specs.Passing.{note_of, as_note, takes_channel, rule_output}
use Rattle.route_filter.specs.Rules.{has_kind, has_channel}
use Rattle.seq_state.specs.declared.log.Delivery.{Delivery}
use Rattle.seq_state.specs.State.{Client, FilterInfo, State}
use Rattle.seq_state.specs.Copies.{filter_at, copy_on_path, copies}
use Rattle.seq_state.specs.Step.{copies_with_room}
use Rattle.seq_clients.specs.Roster.{Roster}
use Rattle.way_fates.specs.Stops.{stop_by}
use Rattle.way_fates.specs.Fates.{copy_by, fate_on, fates}
use Rattle.way_fates.specs.declared.stop.Stop.{Stop}
use Rattle.way_fates.specs.declared.stop.Stop.TheVariants as stop
use Rattle.way_fates.specs.declared.fate.Fate.{Fate}
use Rattle.way_fates.specs.declared.fate.Fate.TheVariants.{Stopped, Arrives}
use Rattle.way_fates.specs.declared.fate.WayFate.{WayFate}

-- ---- the copies

abbrev pub is_stopped : Fate → Bool
is_stopped (Stopped filter why) = true
is_stopped _ = false

abbrev pub arrives : Fate → Bool
arrives Arrives = true
arrives _ = false

-- the copies of those paths whose fate passes a test
abbrev pub copies_where : (Fate → Bool) → FinMap nat_cmp Client → ℕ → Addr → List ℕ
    → List (List Edge) → List WayFate → List Delivery
copies_where test clients moment source message paths ways = filter_map
    (λ x. if test x.1.fate then copy_by clients moment source message x.0 else None)
    (zip paths ways)

abbrev pub roster_of : State → Roster
roster_of s = record { clients = s.clients; pools = s.pools }

abbrev pub fates_of : State → ℕ → Addr → List ℕ → List WayFate
fates_of s moment source message = fates (roster_of s) s.edges moment source message

-- the copies of a message that is sent in a state, of those paths whose fate passes a test
abbrev pub copies_told : (Fate → Bool) → State → ℕ → Addr → List ℕ → List Delivery
copies_told test s moment source message =
    copies_where test s.clients moment source message (paths s.edges source)
    (fates_of s moment source message)

-- a message is stopped where its path carries no copy to the end; the copies of all others are
-- those that are sent, and the copies that arrive are those that find room
pub record CopiesLaw (s : State) (moment : ℕ) (source : Addr) (message : List ℕ) : Type 0 where
  pub stopped : map (λ way. is_stopped way.fate) (fates_of s moment source message)
      ≡ map (λ path. is_none (copy_on_path s.clients path message)) (paths s.edges source)
  pub sent : copies_told (λ fate. not (is_stopped fate)) s moment source message
      ≡ copies s moment source message
  pub arrived : copies_told arrives s moment source message
      ≡ copies_with_room s.pools (copies s moment source message)

abbrev pub FatesAreCopies : Type 0
FatesAreCopies =
    (s : State) (moment : ℕ) (source : Addr) (message : List ℕ) → CopiesLaw s moment source message

-- ---- the stops

abbrev pub TakesKind : RuleArgs → List ℕ → Type 0
TakesKind rule m = has_kind rule.kinds.0 (kind_of m) ≡ true

-- a note that comes to the test of notes
pub record IsNoteTested (rule : RuleArgs) (m : List ℕ) (note : ℕ) : Type 0 where
  pub kind : TakesKind rule m
  pub channel : takes_channel rule (channel_number m) ≡ true
  pub noted : note_of m ≡ Some note

-- a message fails this test of a rule, and none before it
abbrev pub IsFirstFailed : RuleArgs → List ℕ → Stop → Type 0
IsFirstFailed rule m stop.Kind = has_kind rule.kinds.0 (kind_of m) ≡ false
IsFirstFailed rule m (stop.Channel n) =
    TakesKind rule m × (channel_number m ≡ Some n) × (has_channel rule.channels n ≡ false)
IsFirstFailed rule m (stop.NoteBelow note low) =
    IsNoteTested rule m note × (low ≡ rule.low) × (note < low)
IsFirstFailed rule m (stop.NoteAbove note high) =
    IsNoteTested rule m note × (rule.low ≤ note) × (high ≡ rule.high) × (high < note)
IsFirstFailed rule m (stop.NoteShifted note shift) =
    IsNoteTested rule m note × (rule.low ≤ note) × (note ≤ rule.high) × (shift ≡ rule.shift)
    × (as_note (pos note +ℤ shift) ≡ None)

-- a message comes to this filter of a path, as those before it let it through, and fails this test
-- of its rule first
pub record IsStoppedAt (clients : FinMap nat_cmp Client) (path : List Edge) (message : List ℕ)
    (filter : Addr) (why : Stop) : Type 0 where
  pub before : List Edge
  pub edge : Edge
  pub after : List Edge
  pub whole : path ≡ before ++ edge ∷ after
  pub here : edge.target ≡ filter
  pub carried : List ℕ
  pub comes : copy_on_path clients before message ≡ Some carried
  pub info : FilterInfo
  pub there : filter_at clients filter.client filter.node ≡ Some info
  pub failed : IsFirstFailed info.rule carried why

-- a message that fails no test of a rule is one that the rule lets through, and a fate that tells
-- of a stop tells the truth
pub record StopsAreTrue : Type 0 where
  pub passes : (rule : RuleArgs) (m : List ℕ) →
      is_none (stop_by rule m) ≡ is_some (rule_output rule m)
  pub stopped : (roster : Roster) (moment : ℕ) (source : Addr) (message : List ℕ)
      (path : List Edge) (filter : Addr) (why : Stop)
      → fate_on roster moment source message path ≡ Stopped filter why
      → IsStoppedAt roster.clients path message filter why
