-- Law: What follows of the step and of circles, for all states and all lists of inputs.
use Rattle.std.specs.Prelude.{Option, Some, None, is_some, if◌then◌else◌, nat_le, nat_lt, length, ◌≡◌, ℕ, ◌==◌, ◌≤◌, ◌<◌, Bool, true, false, ◌&&◌, IsTrue, IsFalse, List, [], ◌∷◌, ◌++◌, map}
use Rattle.std.specs.List.{filter, filter_map, flat_map, list_all}
use Rattle.std.specs.Ordering.{nat_cmp}
use Rattle.std.specs.FinMap
use Rattle.std.specs.FinMap.{FinMap}
use Rattle.tempo_clock.specs.Laws.{IsToldBy}
use Rattle.tempo_clock.specs.Ticks.{resolution}
use Rattle.cell_pools.specs.declared.listening.Listening.{Listening}
use Rattle.patch_graph.specs.Chains.{Reaches}
use Rattle.patch_graph.specs.Edges.{sources_of, most_sources}
use Rattle.patch_graph.specs.Paths.{end_of, paths}
use Rattle.node_table.specs.declared.number.Addr.{Addr}
use Rattle.patch_graph.specs.declared.edge.Edge.{Edge}
use Rattle.seq_state.specs.declared.input.Input.{Input}
use Rattle.seq_state.specs.declared.log.Delivery.{Delivery}
use Rattle.seq_state.specs.declared.log.LogEntry.{LogEntry}
use Rattle.seq_state.specs.declared.log.LogEntry.TheVariants.{Delivered, Replied}
use Rattle.smf_grammar.specs.Played.{PlayedFile}
use Rattle.seq_state.specs.State.{ClientPool, queues_of, Queue, Client, DueMessage, OwnedPlayback, State, start}
use Rattle.seq_state.specs.Effect.{out_size}
use Rattle.seq_state.specs.Step.{caps_at, is_left, playback_count, event_moment, step, Stepped, settle, Settled, state_after, Timed, due, all_at, IsRefusal, IsTimed, plain}
use Rattle.seq_state.specs.Circle.{is_inner, view, Sight, IsClosed, inner_node, only}
use Rattle.seq_state.specs.Heard.{port_at, port_bytes}

-- ---- kinship

abbrev pub into : ℕ → (ℕ → Bool) → Edge → Bool
into owner member e = is_inner owner member e.target

abbrev pub is_mine : (ℕ → Bool) → OwnedPlayback → Bool
is_mine member p = member p.client

-- Two states are kin where the members are open alike, with the same nodes and queues, and the
-- owner's input, the edges into the circle and the members' playbacks are the same.
pub record AreKin (owner : ℕ) (member : ℕ → Bool) (s t : State) : Type 0 where
  pub clients : (c : ℕ) → member c ≡ true → FinMap.get s.clients c ≡ FinMap.get t.clients c
  pub pool : FinMap.get s.pools owner ≡ FinMap.get t.pools owner
  pub edges : filter (into owner member) s.edges ≡ filter (into owner member) t.edges
  pub pending : filter (is_mine member) s.pending ≡ filter (is_mine member) t.pending

-- what the owner sees of one step, and of settling alone
abbrev pub view_step : ℕ → (ℕ → Bool) → Input → Stepped → List Sight
view_step owner member i a = view owner member (i ∷ [])
    (map Delivered a.delivered ++ Replied 0 i.moment i.actor a.reply ∷ [])

abbrev pub view_settled : ℕ → (ℕ → Bool) → Settled → List Sight
view_settled owner member a = view owner member [] (map Delivered a.delivered)

-- ---- the laws

-- kin states are kin after a member's step of both, and after a stranger's step of the one and
-- settling of the other
abbrev pub OneInputLaw : Type 0
OneInputLaw =
    (files : List PlayedFile) (owner : ℕ) (member : ℕ → Bool) (before after : List Input)
    (i : Input) (t : State) →
    IsClosed files owner member (before ++ i ∷ after) →
    (let s : State = state_after files start before in
    AreKin owner member s t →
    (IsTrue (member i.actor)
    → AreKin owner member (step files s i).state (step files t i).state
    × (view_step owner member i (step files s i) ≡ view_step owner member i (step files t i)))
    × (IsFalse (member i.actor)
    → AreKin owner member (step files s i).state (settle t i.moment).state
    × (view_step owner member i (step files s i)
    ≡ view_settled owner member (settle t i.moment))))

abbrev pub is_port_of : ℕ → Addr → Bool
is_port_of owner a = inner_node owner (λ c. false) a.client a.node

abbrev pub is_within : (ℕ → Bool) → Edge → Bool
is_within member e = member e.source.client && member e.target.client

-- in a closed circle each path that ends at a port of the owner has all its nodes in the circle
abbrev pub PathLaw : Type 0
PathLaw =
    (files : List PlayedFile) (owner : ℕ) (member : ℕ → Bool) (inputs : List Input) (a : Addr) →
    IsClosed files owner member inputs →
    list_all (list_all (is_within member))
    (filter (λ p. is_port_of owner (end_of a p))
    (paths (state_after files start inputs).edges a)) ≡ true

-- to settle up to m and then up to n is to settle up to n
abbrev pub SettlingLaw : Type 0
SettlingLaw =
    (s : State) (m n : ℕ) → m ≤ n →
    ((settle (settle s m).state n).state ≡ (settle s n).state)
    × ((settle s m).delivered ++ (settle (settle s m).state n).delivered
    ≡ (settle s n).delivered)

abbrev pub IsByMoment : List Timed → Type 0
IsByMoment [] = Unit {0}
IsByMoment (x ∷ xs) = (list_all (λ y. nat_le x.moment y.moment) xs ≡ true) × IsByMoment xs

-- what is due by m stands in the order of its moments, and of each moment up to m are there all its
-- events, in the order of their commands and of the file, and of no later one any
abbrev pub DueLaw : Type 0
DueLaw =
    (s : State) (m : ℕ) →
    IsByMoment (due s m)
    × ((k : ℕ) → filter (λ x. x.moment == k) (due s m)
    ≡ (if nat_le k m then all_at s.clients s.pending k else []))

-- ---- due events as a sort

abbrev pub timed_at : OwnedPlayback → DueMessage → Option ℕ → Option Timed
timed_at p e None = None
timed_at p e (Some moment) = Some
    (record { moment = moment; client = p.client; port = p.playback.port; message = e.message })

-- a playback's events that have a moment
abbrev pub timed_of : FinMap nat_cmp Client → OwnedPlayback → List Timed
timed_of clients p = filter_map (λ e. timed_at p e (event_moment clients p e)) p.playback.events

-- all events that have a moment, in the order of their commands and of the file
abbrev pub all_timed : FinMap nat_cmp Client → List OwnedPlayback → List Timed
all_timed clients pending = flat_map (timed_of clients) pending

-- an event in its place, before those of its moment
abbrev pub with_timed : Timed → List Timed → List Timed
with_timed t [] = t ∷ []
with_timed t (x ∷ xs) = if nat_le t.moment x.moment then t ∷ x ∷ xs else (x ∷ with_timed t xs)

-- sorted by moment, where those of one moment stay in order
abbrev pub stable_sort : List Timed → List Timed
stable_sort [] = []
stable_sort (t ∷ ts) = with_timed t (stable_sort ts)

-- what is due by m is the sorted list, up to m
abbrev pub SortLaw : Type 0
SortLaw = (s : State) (m : ℕ)
    → due s m ≡ filter (λ t. nat_le t.moment m) (stable_sort (all_timed s.clients s.pending))

-- two circles closed round their owner meet in a circle closed round it
abbrev pub MeetLaw : Type 0
MeetLaw =
    (files : List PlayedFile) (owner : ℕ) (member other : ℕ → Bool) (inputs : List Input) →
    IsClosed files owner member inputs → IsClosed files owner other inputs
    → IsClosed files owner (λ c. member c && other c) inputs

-- a refused command leaves the state that settling left, and delivers nothing besides
abbrev pub RefusedLaw : Type 0
RefusedLaw =
    (files : List PlayedFile) (s : State) (i : Input) → IsRefusal (step files s i).reply →
    ((step files s i).state ≡ (settle s i.moment).state)
    × ((step files s i).delivered ≡ (settle s i.moment).delivered)

-- where two lists of inputs agree in a closed circle, its owner sees the same, and the same bytes
-- come to each of its ports
abbrev pub AgreeLaw : Type 0
AgreeLaw =
    (files : List PlayedFile) (owner : ℕ) (member : ℕ → Bool) (inputs others : List Input)
    (end : ℕ) →
    IsTimed inputs end → IsTimed others end → IsClosed files owner member inputs
    → IsClosed files owner member others →
    only member inputs ≡ only member others →
    (view owner member inputs (plain files inputs end)
    ≡ view owner member others (plain files others end))
    × ((port : ℕ) → port_bytes (port_at owner port) (plain files inputs end)
    ≡ port_bytes (port_at owner port) (plain files others end))

-- ---- the moments of a log

abbrev pub delivery_in : LogEntry → Option Delivery
delivery_in (Delivered d) = Some d
delivery_in (Replied place moment client reply) = None

abbrev pub deliveries_of : List LogEntry → List Delivery
deliveries_of log = filter_map delivery_in log

-- none comes before one with an earlier moment
abbrev pub NeverFall : List Delivery → Type 0
NeverFall [] = Unit {0}
NeverFall (d ∷ ds) = (list_all (λ e. nat_le d.moment e.moment) ds ≡ true) × NeverFall ds

-- a file whose division has ticks, as each division that a file may have
abbrev pub has_ticks : PlayedFile → Bool
has_ticks f = nat_lt 0 (resolution (record { division = f.division; entries = f.entries }))

-- the moments of what is delivered never fall
abbrev pub RisingLaw : Type 0
RisingLaw = (files : List PlayedFile) (inputs : List Input) (end : ℕ)
    → list_all has_ticks files ≡ true → IsTimed inputs end
    → NeverFall (deliveries_of (plain files inputs end))

-- ---- what holds of each state of a run

-- not before m, if there is a moment
abbrev pub from_now : ℕ → Option ℕ → Bool
from_now m None = true
from_now m (Some k) = nat_le m k

-- no event of the playback has a moment before m
abbrev pub is_fresh : FinMap nat_cmp Client → ℕ → OwnedPlayback → Bool
is_fresh clients m p = list_all (λ e. from_now m (event_moment clients p e)) p.playback.events

-- Each queue has ticks and was told of no later moment, and nothing that is pending has an earlier
-- one.
pub record Ready (s : State) (now : ℕ) : Type 0 where
  pub ticks : (c n : ℕ) (q : Queue) → FinMap.get (queues_of (FinMap.get s.clients c)) n ≡ Some q
      → 0 < resolution q.clock.map
  pub told : (c n : ℕ) (q : Queue) → FinMap.get (queues_of (FinMap.get s.clients c)) n ≡ Some q
      → IsToldBy q.clock now
  pub fresh : list_all (is_fresh s.clients now) s.pending ≡ true

-- so it is at first, and stays so
pub record ReadyLaw : Type 0 where
  pub at_first : Ready start 0
  pub settled : (s : State) (now m : ℕ) → now ≤ m → Ready s now → Ready (settle s m).state m
  pub stepped : (files : List PlayedFile) → list_all has_ticks files ≡ true
      → (s : State) (now : ℕ) (i : Input) → now ≤ i.moment → Ready s now
      → Ready (step files s i).state i.moment

abbrev pub pool_size : Option ClientPool → Option ℕ
pool_size None = None
pool_size (Some p) = Some p.size

abbrev pub in_size : Option Client → Option ℕ
in_size None = None
in_size (Some c) = Some c.in_size

-- Each client has an input pool of its size, which has no more than there is room for, and has
-- taken no more of a moment where it listens; no client has more to send than its output pool, and
-- no node more sources than a node may have.
pub record Bounded (s : State) : Type 0 where
  pub sizes : (c : ℕ) → pool_size (FinMap.get s.pools c) ≡ in_size (FinMap.get s.clients c)
  pub waiting : (c : ℕ) (p : ClientPool) → FinMap.get s.pools c ≡ Some p → length p.waiting ≤ p.size
  pub heard : (c : ℕ) (p : ClientPool) (l : Listening) → FinMap.get s.pools c ≡ Some p
      → p.listening ≡ Some l → l.count ≤ p.size
  pub used : (c : ℕ) → playback_count s c ≤ out_size (FinMap.get s.clients c)
  pub sources : (a : Addr) → sources_of s.edges a ≤ most_sources

-- so it is at first, and stays so
pub record BoundsLaw : Type 0 where
  pub at_first : Bounded start
  pub settled : (s : State) (m : ℕ) → Bounded s → Bounded (settle s m).state
  pub stepped : (files : List PlayedFile) (s : State) (i : Input) → Bounded s
      → Bounded (step files s i).state

-- no chain of filters comes back to its beginning
abbrev pub NoReturn : List Edge → Type 0
NoReturn edges = (a : Addr) → Reaches edges a a → ⊥

-- so it is at first, and stays so
pub record CycleLaw : Type 0 where
  pub at_first : NoReturn start.edges
  pub settled : (s : State) (m : ℕ) → NoReturn s.edges → NoReturn (settle s m).state.edges
  pub stepped : (files : List PlayedFile) (s : State) (i : Input) → NoReturn s.edges
      → NoReturn (step files s i).state.edges

-- both ends of each edge are there
abbrev pub is_there : State → Addr → Bool
is_there s a = is_some (caps_at s a)

abbrev pub has_ends : State → Edge → Bool
has_ends s e = is_there s e.source && is_there s e.target

abbrev pub EndsThere : State → Type 0
EndsThere s = list_all (has_ends s) s.edges ≡ true

-- so it is at first, and stays so
pub record EndsLaw : Type 0 where
  pub at_first : EndsThere start
  pub settled : (s : State) (m : ℕ) → EndsThere s → EndsThere (settle s m).state
  pub stepped : (files : List PlayedFile) (s : State) (i : Input) → EndsThere s
      → EndsThere (step files s i).state

-- each playback has an event to send
abbrev pub AreFilled : State → Type 0
AreFilled s = list_all is_left s.pending ≡ true

-- so it is at first, and stays so
pub record FilledLaw : Type 0 where
  pub at_first : AreFilled start
  pub settled : (s : State) (m : ℕ) → AreFilled s → AreFilled (settle s m).state
  pub stepped : (files : List PlayedFile) (s : State) (i : Input) → AreFilled s
      → AreFilled (step files s i).state

-- ---- circles

-- in a closed circle each edge to a port of the owner or to a member's filter comes from a member
abbrev pub SourcesLaw : Type 0
SourcesLaw =
    (files : List PlayedFile) (owner : ℕ) (member : ℕ → Bool) (inputs : List Input) →
    IsClosed files owner member inputs →
    list_all (λ e. member e.source.client)
    (filter (into owner member) (state_after files start inputs).edges) ≡ true

-- the circle of all clients is closed, whatever they say
abbrev pub AllClosedLaw : Type 0
AllClosedLaw = (files : List PlayedFile) (owner : ℕ) (inputs : List Input)
    → IsClosed files owner (λ c. true) inputs
