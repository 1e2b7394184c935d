-- Law: What each command changes, by its name, and what it leaves as it is.
use Rattle.std.specs.Prelude.{◌≡◌, ℕ, ◌+◌, ◌≤◌, ◌==◌, nat_le, nat_lt, min, Bool, true, false, not, ◌&&◌, ◌||◌, List, [], ◌∷◌, ◌++◌, map, length, Option, Some, None, is_some}
use Rattle.std.specs.List.{filter, list_all, list_any}
use Rattle.std.specs.Ordering.{nat_cmp}
use Rattle.std.specs.FinMap
use Rattle.std.specs.FinMap.{FinMap}
use Rattle.cell_pools.specs.Pools.{came_at, nothing_came}
use Rattle.cell_pools.specs.declared.listening.Listening.{Listening}
use Rattle.node_table.specs.Addresses.{same_node}
use Rattle.node_table.specs.declared.number.Addr.{Addr}
use Rattle.node_table.specs.declared.number.Node.{Node}
use Rattle.node_table.specs.declared.number.Node.TheVariants.{Port, Filter}
use Rattle.node_table.specs.declared.number.QueueAddr.{QueueAddr}
use Rattle.patch_graph.specs.Edges.{edge, is_edge, touches_client}
use Rattle.patch_graph.specs.declared.edge.Edge.{Edge}
use Rattle.route_filter.specs.declared.rule_args.RuleArgs.{RuleArgs}
use Rattle.seq_state.specs.declared.input.Command.{Command}
use Rattle.seq_state.specs.declared.input.Command.TheVariants.{Open, Close, CreatePort, DeletePort, CreateFilter, SetFilter, DeleteFilter, Connect, Disconnect, Bytes, CreateQueue, CreateQueueFrom, DeleteQueue, Start, Stop, Continue, Tempo, Share, Schedule, Play, DropOutput, Receive, Listen, Unlisten}
use Rattle.seq_state.specs.declared.log.Arrival.{Arrival}
use Rattle.seq_state.specs.declared.log.Delivery.{Delivery}
use Rattle.seq_state.specs.declared.log.Reply.TheVariants.{Received}
use Rattle.seq_state.specs.declared.refusal.Refusal.{Refusal}
use Rattle.seq_state.specs.declared.refusal.Refusal.TheVariants.{NotYours}
use Rattle.smf_grammar.specs.Played.{PlayedFile}
use Rattle.seq_state.specs.Refusals.{number_of}
use Rattle.seq_state.specs.State.{Client, ClientPool, OwnedPlayback, Queue, State}
use Rattle.seq_state.specs.Effect.{port_of, filter_of, queue_of, node_caps}
use Rattle.seq_state.specs.Table.{CommandView, Condition, command_row, queue_named}
use Rattle.seq_state.specs.Step.{copies_with_room, row_of, refusal_of, command_step}

-- ---- the lowest refusal

-- each is below all that follow
abbrev pub rises : List ℕ → Bool
rises [] = true
rises (n ∷ ns) = list_all (λ m. nat_lt n m) ns && rises ns

abbrev pub numbers : List Condition → List ℕ
numbers cs = map (λ c. number_of c.0) cs

-- the condition of this refusal holds
abbrev pub holds : Refusal → List Condition → Bool
holds r cs = list_any (λ c. c.1 && (number_of c.0 == number_of r)) cs

-- no condition of a lower number holds
abbrev pub none_below : Refusal → List Condition → Bool
none_below r cs = list_all (λ c. not c.1 || nat_le (number_of r) (number_of c.0)) cs

-- this refusal is the lowest whose condition holds; none, where no condition holds
abbrev pub IsLowest : List Condition → Option Refusal → Type 0
IsLowest cs None = list_all (λ c. not c.1) cs ≡ true
IsLowest cs (Some r) = (holds r cs ≡ true) × (none_below r cs ≡ true)

-- the refusals of each row rise by number, and the answer is the lowest whose condition holds
pub record LowestLaw : Type 0 where
  pub rising : (a : CommandView) (command : Command)
      → rises (numbers (command_row a command).conditions) ≡ true
  pub lowest :
      (files : List PlayedFile) (s : State) (moment actor : ℕ) (command : Command) →
      IsLowest (row_of files s moment actor command).conditions
      (refusal_of files s moment actor command)

-- ---- what a command names

-- an Open or a Close is of all that the actor has
abbrev pub names_port : Command → ℕ → Bool
names_port (Open name in_size out_size) n = true
names_port Close n = true
names_port (CreatePort port name caps) n = n == port
names_port (DeletePort port) n = n == port
names_port (Bytes port bytes) n = n == port
names_port _ n = false

abbrev pub names_filter : Command → ℕ → Bool
names_filter (Open name in_size out_size) n = true
names_filter Close n = true
names_filter (CreateFilter filter caps rule) n = n == filter
names_filter (SetFilter filter rule) n = n == filter
names_filter (DeleteFilter filter) n = n == filter
names_filter _ n = false

abbrev pub names_queue : Command → ℕ → Bool
names_queue (Open name in_size out_size) n = true
names_queue Close n = true
names_queue (CreateQueue queue ppq tempo) n = n == queue
names_queue (CreateQueueFrom queue file) n = n == queue
names_queue (DeleteQueue q) n = n == q.queue
names_queue (Start q) n = n == q.queue
names_queue (Stop q) n = n == q.queue
names_queue (Continue q) n = n == q.queue
names_queue (Tempo q tempo) n = n == q.queue
names_queue (Share q) n = n == q.queue
names_queue _ n = false

-- the node of the actor with this number
abbrev pub is_node : ℕ → Node → Addr → Bool
is_node actor node a = (a.client == actor) && same_node node a.node

-- the subscriptions that go with a command
abbrev pub edge_goes : ℕ → Command → Edge → Bool
edge_goes actor Close e = touches_client actor e
edge_goes actor (DeletePort port) e =
    is_node actor (Port port) e.source || is_node actor (Port port) e.target
edge_goes actor (DeleteFilter n) e =
    is_node actor (Filter n) e.source || is_node actor (Filter n) e.target
edge_goes actor (Disconnect source target) e = is_edge source target e
edge_goes actor _ e = false

-- and the one that comes
abbrev pub new_edges : Command → List Edge
new_edges (Connect source target) = edge source target ∷ []
new_edges _ = []

-- the playbacks that go with a command
abbrev pub pending_goes : ℕ → Command → OwnedPlayback → Bool
pending_goes actor Close p = (p.client == actor) || (p.queue.client == actor)
pending_goes actor (DeletePort port) p = (p.client == actor) && (p.playback.port == port)
pending_goes actor (DeleteQueue q) p = (p.queue.client == actor) && (p.queue.queue == q.queue)
pending_goes actor DropOutput p = p.client == actor
pending_goes actor _ p = false

-- a Schedule or a Play may add one
abbrev pub adds_playback : Command → Bool
adds_playback (Schedule queue port due message) = true
adds_playback (Play queue port file) = true
adds_playback _ = false

abbrev pub is_playback_of : ℕ → QueueAddr → ℕ → OwnedPlayback → Bool
is_playback_of actor q port p = (p.client == actor) && (p.playback.port == port)
    && (p.queue.client == q.client) && (p.queue.queue == q.queue)

-- it is the actor's, from the port and on the queue that the command names
abbrev pub is_added : ℕ → Command → OwnedPlayback → Bool
is_added actor (Schedule q port due message) p = is_playback_of actor q port p
is_added actor (Play q port file) p = is_playback_of actor q port p
is_added actor _ p = false

-- ---- the laws

abbrev pub client_after : List PlayedFile → State → ℕ → ℕ → Command → ℕ → Option Client
client_after files s moment actor command c =
    FinMap.get (command_step files s moment actor command).state.clients c

-- What a command does not name stays as it was: other clients, other ports, filters and queues of
-- the actor, and the capabilities of a filter that gets another rule.
pub record OthersLaw : Type 0 where
  pub clients :
      (files : List PlayedFile) (s : State) (moment actor : ℕ) (command : Command) (c : ℕ)
      → (c == actor) ≡ false →
      client_after files s moment actor command c ≡ FinMap.get s.clients c
  pub ports :
      (files : List PlayedFile) (s : State) (moment actor : ℕ) (command : Command) (n : ℕ)
      → names_port command n ≡ false →
      port_of (client_after files s moment actor command actor) n
      ≡ port_of (FinMap.get s.clients actor) n
  pub filters :
      (files : List PlayedFile) (s : State) (moment actor : ℕ) (command : Command) (n : ℕ)
      → names_filter command n ≡ false →
      filter_of (client_after files s moment actor command actor) n
      ≡ filter_of (FinMap.get s.clients actor) n
  pub queues :
      (files : List PlayedFile) (s : State) (moment actor : ℕ) (command : Command) (n : ℕ)
      → names_queue command n ≡ false →
      queue_of (client_after files s moment actor command actor) n
      ≡ queue_of (FinMap.get s.clients actor) n
  pub caps :
      (files : List PlayedFile) (s : State) (moment actor n : ℕ) (rule : RuleArgs) →
      node_caps (client_after files s moment actor (SetFilter n rule) actor) (Filter n)
      ≡ node_caps (FinMap.get s.clients actor) (Filter n)

-- a command that is not refused takes from the subscriptions what goes with it, and adds what it
-- makes
abbrev pub EdgesLaw : Type 0
EdgesLaw =
    (files : List PlayedFile) (s : State) (moment actor : ℕ) (command : Command)
    → refusal_of files s moment actor command ≡ None →
    (command_step files s moment actor command).state.edges
    ≡ filter (λ e. not (edge_goes actor command e)) s.edges ++ new_edges command

-- A command that is not refused takes from what is pending what goes with it, and adds at the end
-- at most what it schedules or plays.
pub record PendingLaw : Type 0 where
  pub others :
      (files : List PlayedFile) (s : State) (moment actor : ℕ) (command : Command)
      → refusal_of files s moment actor command ≡ None →
      adds_playback command ≡ false →
      (command_step files s moment actor command).state.pending
      ≡ filter (λ p. not (pending_goes actor command p)) s.pending
  pub added :
      (files : List PlayedFile) (s : State) (moment actor : ℕ) (command : Command)
      → refusal_of files s moment actor command ≡ None →
      adds_playback command ≡ true →
      (more : List OwnedPlayback)
      × ((command_step files s moment actor command).state.pending ≡ s.pending ++ more)
      × (list_all (is_added actor command) more ≡ true)

-- What was waiting is what a Receive gives, at most so many, and then what waits still; the count
-- of lost messages stays.
pub record Taken (before after : ClientPool) (max : ℕ) (given : List Arrival) : Type 0 where
  pub all : before.waiting ≡ given ++ after.waiting
  pub many : length given ≡ min max (length before.waiting)
  pub lost : after.lost ≡ before.lost
  pub size : after.size ≡ before.size

abbrev pub ReceiveLaw : Type 0
ReceiveLaw =
    (files : List PlayedFile) (s : State) (moment actor max : ℕ) (before : ClientPool)
    → FinMap.get s.pools actor ≡ Some before →
    refusal_of files s moment actor (Receive max) ≡ None →
    (after : ClientPool) × (given : List Arrival)
    × (FinMap.get (command_step files s moment actor (Receive max)).state.pools actor
    ≡ Some after)
    × ((command_step files s moment actor (Receive max)).reply ≡ Received given)
    × Taken before after max given

-- after a Listen that is not refused the client listens, and after an Unlisten no longer; what
-- waits, what was lost and the size stay
pub record ListenLaw : Type 0 where
  pub listens :
      (files : List PlayedFile) (s : State) (moment actor : ℕ) (before : ClientPool) →
      FinMap.get s.pools actor ≡ Some before → refusal_of files s moment actor Listen ≡ None →
      FinMap.get (command_step files s moment actor Listen).state.pools actor
      ≡ Some (record before { listening = Some nothing_came })
  pub unlistens :
      (files : List PlayedFile) (s : State) (moment actor : ℕ) (before : ClientPool) →
      FinMap.get s.pools actor ≡ Some before → refusal_of files s moment actor Unlisten ≡ None →
      FinMap.get (command_step files s moment actor Unlisten).state.pools actor
      ≡ Some (record before { listening = None })

-- how many copies come to a client at a moment
abbrev pub count_at : ℕ → ℕ → List Delivery → ℕ
count_at c moment ds = length (filter (λ d. (d.target.client == c) && (d.moment == moment)) ds)

-- of a client that listens no copy is lost, where no more come of any moment, with those that came
-- before, than might wait in its pool
abbrev pub HeardLaw : Type 0
HeardLaw =
    (pools : FinMap nat_cmp ClientPool) (c : ℕ) (p : ClientPool) (l : Listening)
    (ds : List Delivery) →
    FinMap.get pools c ≡ Some p → p.listening ≡ Some l →
    ((moment : ℕ) → came_at moment l + count_at c moment ds ≤ p.size) →
    filter (λ d. d.target.client == c) (copies_with_room pools ds)
    ≡ filter (λ d. d.target.client == c) ds

-- ---- shared queues

-- the queue at this address, if it is there
abbrev pub queue_at : State → QueueAddr → Option Queue
queue_at s q = queue_of (FinMap.get s.clients q.client) q.queue

-- a Share that is not refused finds the queue, and leaves it shared, whatever it was, and else as
-- it was
abbrev pub ShareLaw : Type 0
ShareLaw =
    (files : List PlayedFile) (s : State) (moment actor : ℕ) (q : QueueAddr) →
    refusal_of files s moment actor (Share q) ≡ None →
    (before : Queue) × (queue_at s q ≡ Some before)
    × (queue_at (command_step files s moment actor (Share q)).state q
    ≡ Some (record before { shared = true }))

-- To who does not own it, a queue that is not shared is refused, whatever is to be done with it and
-- whether it runs or is held: NotYours stands, and a refusal is reported.
abbrev pub NotYoursLaw : Type 0
NotYoursLaw =
    (files : List PlayedFile) (s : State) (moment actor : ℕ) (command : Command) (q : QueueAddr) →
    queue_named command ≡ Some q → (q.client == actor) ≡ false →
    ((k : Queue) → queue_at s q ≡ Some k → k.shared ≡ false) →
    (holds NotYours (row_of files s moment actor command).conditions ≡ true)
    × (is_some (refusal_of files s moment actor command) ≡ true)
