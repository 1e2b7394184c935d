-- What many runs have in common: clients that open, make a port and a queue, and listen.
use Rattle.std.proofs.Common.{◌≡◌, ℕ, Bool, true, false, ◌&&◌, eqb, List, [], ◌∷◌, ◌++◌, Option, Some, None, refl}
use Rattle.std.specs.Prelude.{codes}
use Rattle.std.proofs.lemmas.Bool.{eq-eqb}
use Rattle.std.specs.Ordering.{nat_cmp}
use Rattle.std.specs.FinMap
use Rattle.std.specs.FinMap.{FinMap}
use Rattle.tempo_clock.specs.Worked.{two_a_second}
use Rattle.tempo_clock.specs.declared.due.Due.TheVariants.{Tick}
use Rattle.cell_pools.specs.Pools.{is_size}
use Rattle.node_table.specs.Capabilities.{can}
use Rattle.node_table.specs.Names.{is_name}
use Rattle.patch_graph.specs.Edges.{most_sources}
use Rattle.patch_graph.specs.declared.edge.Edge.{Edge}
use Rattle.seq_state.specs.declared.input.Command.TheVariants.{Open, CreatePort, Connect, CreateQueue, Start}
use Rattle.seq_state.specs.declared.input.Input.{Input}
use Rattle.smf_grammar.specs.Played.{PlayedFile}
use Rattle.seq_state.specs.State.{Client, DueMessage, ClientPool, State}
use Rattle.seq_state.specs.Effect.{new_client, new_port, put_port, put_queue}
use Rattle.seq_state.specs.Table.{command_row}
use Rattle.seq_state.specs.Step.{Stepped, port_addr, caps_at}
use Rattle.seq_examples.specs.Rows.{an_input, caps_by_bits, a_queue, a_note}
use Rattle.seq_examples.proofs.Traces.{Settles, Trace, thus, quiet}
use Rattle.seq_examples.proofs.CommandSteps.{holding, opened, joined, still, opens, changes, connects}
use Rattle.seq_examples.proofs.Worked.{finds}

-- the state with all but what is pending changed
abbrev pub around : State → FinMap nat_cmp Client → FinMap nat_cmp ClientPool → List Edge → State
around s clients pools edges = record s { clients = clients; pools = pools; edges = edges }

-- nothing is due by a moment, whatever becomes of clients other than this and of all not pending
abbrev pub IsCalm : State → ℕ → ℕ → Type 0
IsCalm s m owner =
    (clients : FinMap nat_cmp Client) (pools : FinMap nat_cmp ClientPool) (edges : List Edge) →
    FinMap.get clients owner ≡ FinMap.get s.clients owner →
    Settles (around s clients pools edges) m (around s clients pools edges) []

pub nothing-pending : (s : State) (m owner : ℕ) → s.pending ≡ [] → IsCalm s m owner
nothing-pending s m owner e clients pools edges same = still (around s clients pools edges) m e

-- ---- a client sends

abbrev pub sender : List ℕ → ℕ → Client
sender name out_size =
    put_port 0 (Some (new_port (codes "out") (caps_by_bits 33))) (new_client name 8 out_size)

abbrev pub entered : State → ℕ → List ℕ → ℕ → State
entered s actor name out_size = opened s actor name 8 out_size

abbrev pub ready : State → ℕ → List ℕ → ℕ → State
ready s actor name out_size = holding (entered s actor name out_size) actor (sender name out_size)

abbrev pub sender_inputs : ℕ → List ℕ → ℕ → List Input
sender_inputs actor name out_size =
    an_input 0 actor (Open name 8 out_size) ∷ an_input 0 actor (CreatePort 0 (codes "out") (caps_by_bits 33)) ∷ []

abbrev pub sender_steps : State → ℕ → List ℕ → ℕ → List Stepped
sender_steps s actor name out_size =
    quiet (entered s actor name out_size ∷ ready s actor name out_size ∷ [])

-- what still matters of the bytes of its port
abbrev pub with_fed : Client → List ℕ → Client
with_fed c bytes = put_port 0 (Some (record (new_port (codes "out") (caps_by_bits 33)) { fed = bytes })) c

-- ---- it has a queue that runs

-- the client's queue 0 at two quarter notes a second
abbrev pub with_queue : Client → Bool → ℕ → Option ℕ → Client
with_queue c shared time since =
    put_queue 0 (Some (record {
      clock = record { map = two_a_second; time = time; since = since };
      shared = shared;
    })) c

abbrev pub player : List ℕ → ℕ → Client
player name out_size = with_queue (sender name out_size) false 0 None

abbrev pub prepared : State → ℕ → List ℕ → ℕ → State
prepared s actor name out_size = holding (ready s actor name out_size) actor (player name out_size)

abbrev pub performing : State → ℕ → List ℕ → ℕ → State
performing s actor name out_size =
    holding (prepared s actor name out_size) actor
    (with_queue (player name out_size) false 0 (Some 0))

abbrev pub queue_inputs : ℕ → List Input
queue_inputs actor =
    an_input 0 actor (CreateQueue 0 480 500000) ∷ an_input 0 actor (Start (a_queue actor 0)) ∷ []

abbrev pub queue_steps : State → ℕ → List ℕ → ℕ → List Stepped
queue_steps s actor name out_size =
    quiet (prepared s actor name out_size ∷ performing s actor name out_size ∷ [])

abbrev pub player_steps : State → ℕ → List ℕ → ℕ → List Stepped
player_steps s actor name out_size =
    sender_steps s actor name out_size ++ queue_steps s actor name out_size

module _ (files : List PlayedFile) (s : State) (actor owner : ℕ) (name : List ℕ) (out_size : ℕ)
    (calm : IsCalm s 0 owner) (apart : eqb owner actor ≡ false)
    (free : FinMap.get s.clients actor ≡ None) (named : is_name name ≡ true)
    (sized : is_size 8 && is_size out_size ≡ true) {rest : List Input} {after : List Stepped} where
  pub becomes-sender : Trace files (ready s actor name out_size) rest after →
      Trace files s (sender_inputs actor name out_size ++ rest)
      (sender_steps s actor name out_size ++ after)
  unfolding command_row
  becomes-sender more =
      let t : State = entered s actor name out_size in
      thus (opens files (calm s.clients s.pools s.edges refl) actor name 8 out_size free named
      sized)
      (thus (changes files (calm t.clients t.pools t.edges (simp (finds, apart))) actor
      (CreatePort 0 (codes "out") (caps_by_bits 33)) (sender name out_size)
      (simp (finds, eq-eqb actor actor refl))) more)

module _ (files : List PlayedFile) (s : State) (actor owner : ℕ) (name : List ℕ) (out_size : ℕ)
    (calm : IsCalm s 0 owner) (apart : eqb owner actor ≡ false) where
  -- a sender gets a queue that it starts
  pub starts-queue : {rest : List Input} {after : List Stepped} →
      Trace files (performing s actor name out_size) rest after →
      Trace files (ready s actor name out_size) (queue_inputs actor ++ rest)
      (queue_steps s actor name out_size ++ after)
  unfolding command_row
  starts-queue more =
      let t : State = ready s actor name out_size in
      let u : State = prepared s actor name out_size in
      thus (changes files (calm t.clients t.pools t.edges (simp (finds, apart))) actor
      (CreateQueue 0 480 500000) (player name out_size)
      (simp (finds, eq-eqb actor actor refl)))
      (thus (changes files (calm u.clients u.pools u.edges (simp (finds, apart))) actor
      (Start (a_queue actor 0)) (with_queue (player name out_size) false 0 (Some 0))
      (simp (finds, eq-eqb actor actor refl))) more)

-- ---- 129 listens to 128

abbrev pub listener : ℕ → ℕ → Client
listener in_size bits =
    put_port 0 (Some (new_port (codes "in") (caps_by_bits bits))) (new_client (codes "b") in_size 8)

abbrev pub arrived : State → ℕ → State
arrived s in_size = opened s 129 (codes "b") in_size 8

abbrev pub settled_in : State → ℕ → ℕ → State
settled_in s in_size bits = holding (arrived s in_size) 129 (listener in_size bits)

abbrev pub listening : State → ℕ → ℕ → State
listening s in_size bits = joined (settled_in s in_size bits) (port_addr 128 0) (port_addr 129 0)

abbrev pub listener_inputs : ℕ → ℕ → List Input
listener_inputs in_size bits =
    an_input 0 129 (Open (codes "b") in_size 8) ∷ an_input 0 129 (CreatePort 0 (codes "in") (caps_by_bits bits))
    ∷ an_input 0 129 (Connect (port_addr 128 0) (port_addr 129 0)) ∷ []

abbrev pub listener_steps : State → ℕ → ℕ → List Stepped
listener_steps s in_size bits =
    quiet (arrived s in_size ∷ settled_in s in_size bits ∷ listening s in_size bits ∷ [])

pub listens : (files : List PlayedFile) (s : State) (in_size bits : ℕ) {rest : List Input}
    {after : List Stepped} → IsCalm s 0 128 → FinMap.get s.clients 129 ≡ None →
    caps_at s (port_addr 128 0) ≡ Some (caps_by_bits 33) → s.edges ≡ [] →
    is_size in_size && is_size 8 ≡ true → can 2 bits ≡ true →
    Trace files (listening s in_size bits) rest after →
    Trace files s (listener_inputs in_size bits ++ rest) (listener_steps s in_size bits ++ after)
unfolding command_row most_sources
listens files s in_size bits calm free source none sized writable more =
    let t : State = arrived s in_size in
    let u : State = settled_in s in_size bits in
    thus (opens files (calm s.clients s.pools s.edges refl) 129 (codes "b") in_size 8 free refl
    sized)
    (thus (changes files (calm t.clients t.pools t.edges (simp finds)) 129
    (CreatePort 0 (codes "in") (caps_by_bits bits)) (listener in_size bits) (simp finds))
    (thus (connects files (calm u.clients u.pools u.edges (simp finds)) 129 (port_addr 128 0)
    (port_addr 129 0) (simp (finds, source, none, writable))) more))

-- ---- the events of the file

abbrev pub first_note : DueMessage
first_note = record { due = Tick 0; message = a_note 0x3C }

abbrev pub last_note : DueMessage
last_note = record { due = Tick 480; message = 0x90 ∷ 0x3C ∷ 0x00 ∷ [] }
