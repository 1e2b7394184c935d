-- What the kinds of commands come to over any state, each from what it finds there.
use Rattle.std.proofs.Common.{◌≡◌, ℕ, Bool, true, false, not, ◌&&◌, List, [], ◌∷◌, ◌++◌, map, length, Option, Some, None, refl, ap, ◌∙◌, append-nil}
use Rattle.std.specs.List.{filter, flat_map}
use Rattle.std.specs.FinMap
use Rattle.tempo_clock.specs.declared.due.Due.{Due}
use Rattle.cell_pools.specs.Pools.{is_size, empty_pool}
use Rattle.node_table.specs.Names.{is_name}
use Rattle.node_table.specs.declared.number.Addr.{Addr}
use Rattle.node_table.specs.declared.number.Node.{Node}
use Rattle.node_table.specs.declared.number.QueueAddr.{QueueAddr}
use Rattle.patch_graph.specs.declared.edge.Edge.{Edge}
use Rattle.seq_state.specs.declared.input.Command.{Command}
use Rattle.seq_state.specs.declared.input.Command.TheVariants.{Open, Close, Connect, Disconnect, Bytes, Send, QueueStatus, Schedule, Play, PoolStatus}
use Rattle.seq_state.specs.declared.input.DueAt.{DueAt}
use Rattle.seq_state.specs.declared.log.Arrival.{Arrival}
use Rattle.seq_state.specs.declared.log.Delivery.{Delivery}
use Rattle.seq_state.specs.declared.log.Reply.{Reply}
use Rattle.seq_state.specs.declared.log.Reply.TheVariants.{Done, Messages, Refused}
use Rattle.seq_state.specs.declared.refusal.Refusal.{Refusal}
use Rattle.smf_grammar.specs.Played.{PlayedFile}
use Rattle.seq_state.specs.Refusals.{number_of}
use Rattle.seq_state.specs.State.{Client, ClientPool, DueMessage, Playback, State, with_entry}
use Rattle.seq_state.specs.Effect.{Effect, done_with, new_client, playback, pool_status, queue_status}
use Rattle.seq_state.specs.Table.{command_row, with_edge, without_edge_of, from_port, queue_named}
use Rattle.seq_state.specs.Step.{Stepped, with_copies, send_copies, without_due, event_copies, loses, drops, playback_count, with_effect, named_queue, row_of, refusal_of, unless, command_step}
use Rattle.seq_state.specs.Laws.{all_timed, stable_sort}
use Rattle.seq_state.proofs.Effects.{patch_step, none-lost, none-dropped, put-same, step-asks, step-connects, step-parts}
use Rattle.seq_state.proofs.Sorted.{by}
use Rattle.seq_examples.specs.Rows.{an_input}
use Rattle.seq_examples.proofs.Traces.{Settles, Comes}
use Rattle.seq_examples.proofs.Worked.{to, settled_to, moved, with_own-moved, answer, command-step, own-step, refused-step, patch-step, settle-sorted, settle-still}

-- ---- states

-- the client has this
abbrev pub holding : State → ℕ → Client → State
holding s actor c = record s { clients = FinMap.insert s.clients actor c }

abbrev pub filled : ℕ → List Arrival → ℕ → ClientPool
filled size waiting lost =
    record { size = size; waiting = waiting; lost = lost; listening = None }

-- the same of a pool that listens
abbrev pub heard : ℕ → List Arrival → ℕ → ℕ → ℕ → ClientPool
heard size waiting lost moment count =
    record (filled size waiting lost) {
      listening = Some (record { moment = moment; count = count });
    }

-- its input pool is this
abbrev pub pooled : State → ℕ → ClientPool → State
pooled s client p = record s { pools = FinMap.insert s.pools client p }

-- the client is open
abbrev pub opened : State → ℕ → List ℕ → ℕ → ℕ → State
opened s actor name in_size out_size =
    pooled (holding s actor (new_client name in_size out_size)) actor (empty_pool in_size)

-- what a client that closes leaves
abbrev pub leaving : Effect
leaving =
    record (done_with None) {
      pool = λ p. None;
      gone = λ n. true;
      dropped = λ p. true;
      queue_gone = λ n. true;
    }

abbrev pub closed : State → ℕ → State
closed s actor = with_effect s actor None leaving

abbrev pub joined : State → Addr → Addr → State
joined s source target = record s { edges = with_edge source target s.edges }

abbrev pub parted : State → Addr → Addr → State
parted s source target = record s { edges = without_edge_of source target s.edges }

-- one message from a port, and when it was accepted
abbrev pub single : ℕ → ℕ → Due → List ℕ → Playback
single port accepted due message =
    playback port accepted (record { due = due; message = message } ∷ [])

-- a playback more is pending
abbrev pub playing : State → ℕ → QueueAddr → Playback → State
playing s client q p =
    record s { pending = s.pending ++ record { client = client; queue = q; playback = p } ∷ [] }

-- ---- what commands do

-- the client has this, and these of its nodes, playbacks and queues go
abbrev pub without : Client → (Node → Bool) → (Playback → Bool) → (ℕ → Bool) → Effect
without c gone dropped queue_gone =
    record (done_with (Some c)) { gone = gone; dropped = dropped; queue_gone = queue_gone }

-- the client keeps what it has, and gets a playback
abbrev pub with_playback : State → ℕ → Playback → Effect
with_playback s actor p = record (done_with (FinMap.get s.clients actor)) { added = p ∷ [] }

-- the client has this, and a port of it sends these messages
abbrev pub sending : Client → ℕ → List (List ℕ) → Effect
sending c port ms =
    record (done_with (Some c)) { sends = map (from_port port) ms; reply = λ p. Messages (length ms) }

-- ---- settling

pub still : (s : State) (m : ℕ) → s.pending ≡ [] → Settles s m s []
still s m e = record { settles = settle-still s m e }

pub sorts : (s : State) (m : ℕ) (u : State) (ds : List Delivery) →
    with_copies (without_due s m) (flat_map (event_copies s)
    (filter (by m) (stable_sort (all_timed s.clients s.pending)))) ≡ settled_to u ds →
    Settles s m u ds
sorts s m u ds e = record { settles = settle-sorted s m ∙ e }

-- ---- what stays

-- the client has this, and its input pool that
abbrev given : State → ℕ → Option Client → (Option ClientPool → Option ClientPool) → State
given s actor client pool =
    record s {
      clients = with_entry s.clients actor client;
      pools = with_entry s.pools actor (pool (FinMap.get s.pools actor));
    }

module _ (s : State) (actor : ℕ) (q : Option QueueAddr) where
  -- nothing of the actor's goes
  with_own-kept : (client : Option Client) (pool : Option ClientPool → Option ClientPool) →
      with_effect s actor q (record (done_with client) { pool = pool }) ≡ given s actor client pool
  with_own-kept client pool =
      let v : State = given s actor client pool in
      ap (λ es. record v {
        edges = es;
        pending = filter (λ p. not (drops actor (done_with client) p)) s.pending ++ [];
      })
      (none-lost actor s.edges)
      ∙ ap (λ ps. record v { pending = ps }) (append-nil _ ∙ none-dropped actor client s.pending)

  -- nor changes in its input pool
  with_own-held : (client : Option Client) → with_effect s actor q (done_with client) ≡
      record s { clients = with_entry s.clients actor client }
  with_own-held client =
      with_own-kept client (λ p. p)
      ∙ ap (λ x. record s { clients = with_entry s.clients actor client; pools = x })
      (put-same s.pools actor)

  -- nor in what it has
  with_own-same : with_effect s actor q (done_with (FinMap.get s.clients actor)) ≡ s
  with_own-same =
      with_own-held (FinMap.get s.clients actor)
      ∙ ap (λ x. record s { clients = x }) (put-same s.clients actor)

-- an event more is pending
with_own-plays : (s : State) (actor : ℕ) (q : QueueAddr) (port accepted : ℕ) (e : DueMessage)
    (es : List DueMessage) →
    with_effect s actor (Some q) (with_playback s actor (playback port accepted (e ∷ es))) ≡
    playing s actor q (playback port accepted (e ∷ es))
with_own-plays s actor q port accepted e es =
    let plays : State → State = λ u. playing u actor q (playback port accepted (e ∷ es)) in
    let o : Option Client = FinMap.get s.clients actor in
    let v : State = given s actor o (λ p. p) in
    let edges : List Edge = filter (λ x. not (loses actor (λ _. false) x)) s.edges in
    ap (λ ps. plays (record v { edges = edges; pending = ps })) (none-dropped actor o s.pending)
    ∙ ap (λ es. plays (record v { edges = es })) (none-lost actor s.edges)
    ∙ ap (λ ps. plays (record s { clients = with_entry s.clients actor o; pools = ps }))
    (put-same s.pools actor)
    ∙ ap (λ cs. plays (record s { clients = cs })) (put-same s.clients actor)

-- ---- commands

module _ {s u : State} {m : ℕ} {ds : List Delivery} (files : List PlayedFile) (first : Settles s m u ds)
    (actor : ℕ) where
  pub comes : (command : Command) (d : Stepped) → command_step files u m actor command ≡ d →
      Comes files s (an_input m actor command) (to d.state (ds ++ d.delivered) d.reply)
  comes command d e =
      record { comes = command-step files s u (an_input m actor command) ds first.settles d e }

  pub refuses : (command : Command) (r : Refusal) → refusal_of files u m actor command ≡ Some r →
      Comes files s (an_input m actor command) (to u (ds ++ []) (Refused (number_of r)))
  refuses command r e =
      record { comes = refused-step files s u (an_input m actor command) ds first.settles r e }

  -- a command that is not refused
  does : (command : Command) (effect : Effect) (v t : State) (es : List Delivery) →
      answer (row_of files u m actor command) ≡ (None, effect) →
      with_effect u actor (queue_named command) effect ≡ v → with_copies v (send_copies u m actor effect.sends) ≡
      settled_to t es →
      Comes files s (an_input m actor command) (to t (ds ++ es) (effect.reply (FinMap.get u.pools actor)))
  does command effect v t es r w e =
      record { comes = own-step files s u (an_input m actor command) ds first.settles effect v t es r w e }

  -- one that was not open opens
  pub opens : (name : List ℕ) (in_size out_size : ℕ) → FinMap.get u.clients actor ≡ None →
      is_name name ≡ true → is_size in_size && is_size out_size ≡ true →
      Comes files s (an_input m actor (Open name in_size out_size))
      (to (opened u actor name in_size out_size) (ds ++ []) Done)
  unfolding command_row
  opens name in_size out_size free named sized =
      let client : Option Client = Some (new_client name in_size out_size) in
      let pool : Option ClientPool → Option ClientPool = λ p. Some (empty_pool in_size) in
      let v : State = opened u actor name in_size out_size in
      does (Open name in_size out_size) (record (done_with client) { pool = pool }) v v []
      (simp (free, named, sized)) (with_own-kept u actor None client pool) refl

  pub closes : refusal_of files u m actor Close ≡ None →
      Comes files s (an_input m actor Close) (to (closed u actor) (ds ++ []) Done)
  unfolding command_row
  closes e =
      does Close leaving (closed u actor) (closed u actor) [] (ap (λ r. (r, leaving)) e) refl refl

  -- one that is open has something else then, and nothing goes
  pub changes : (command : Command) (c : Client) → answer (row_of files u m actor command) ≡
      (None, done_with (Some c)) → Comes files s (an_input m actor command)
      (to (holding u actor c) (ds ++ []) Done)
  changes command c e =
      does command (done_with (Some c)) (holding u actor c) (holding u actor c) [] e
      (with_own-held u actor (queue_named command) (Some c)) refl

  -- and something goes
  pub gives-up : (command : Command) (c : Client) (gone : Node → Bool) (dropped : Playback → Bool)
      (queue_gone : ℕ → Bool) →
      answer (row_of files u m actor command) ≡ (None, without c gone dropped queue_gone) →
      Comes files s (an_input m actor command)
      (to (moved u actor (queue_named command) (without c gone dropped queue_gone)) (ds ++ [])
      Done)
  gives-up command c gone dropped queue_gone e =
      let effect : Effect = without c gone dropped queue_gone in
      let v : State = moved u actor (queue_named command) effect in
      does command effect v v [] e (with_own-moved u actor (queue_named command) effect (λ p. refl)) refl

  -- a change of the subscriptions
  patches : (command : Command) (f : List Edge → List Edge) →
      command_step files u m actor command ≡ patch_step u (refusal_of files u m actor command) f →
      refusal_of files u m actor command ≡ None →
      Comes files s (an_input m actor command) (to (record u { edges = f u.edges }) (ds ++ []) Done)
  patches command f c e =
      record { comes = patch-step files s u (an_input m actor command) ds first.settles f c e }

  pub connects : (source target : Addr) →
      refusal_of files u m actor (Connect source target) ≡ None →
      Comes files s (an_input m actor (Connect source target)) (to (joined u source target) (ds ++ []) Done)
  connects source target =
      patches (Connect source target) (with_edge source target)
      (step-connects files u m actor source target)

  pub parts : (source target : Addr) →
      refusal_of files u m actor (Disconnect source target) ≡ None →
      Comes files s (an_input m actor (Disconnect source target))
      (to (parted u source target) (ds ++ []) Done)
  parts source target =
      patches (Disconnect source target) (without_edge_of source target)
      (step-parts files u m actor source target)

  -- an event more is pending
  plays-one : (command : Command) (q : QueueAddr) (port : ℕ) (x : DueMessage) (xs : List DueMessage) →
      queue_named command ≡ Some q →
      answer (row_of files u m actor command) ≡
      (None, with_playback u actor (playback port m (x ∷ xs))) →
      Comes files s (an_input m actor command)
      (to (playing u actor q (playback port m (x ∷ xs))) (ds ++ []) Done)
  plays-one command q port x xs named e =
      let effect : Effect = with_playback u actor (playback port m (x ∷ xs)) in
      let v : State = playing u actor q (playback port m (x ∷ xs)) in
      does command effect v v [] e (ap (λ o. with_effect u actor o effect) named
      ∙ with_own-plays u actor q port m x xs) refl

  pub schedules : (q : QueueAddr) (port : ℕ) (due : DueAt) (message : List ℕ) (d : Due) →
      answer (row_of files u m actor (Schedule q port due message)) ≡
      (None, with_playback u actor (single port m d message)) →
      Comes files s (an_input m actor (Schedule q port due message))
      (to (playing u actor q (single port m d message)) (ds ++ []) Done)
  schedules q port due message d e =
      plays-one (Schedule q port due message) q port (record { due = d; message = message }) [] refl
      e

  pub plays : (q : QueueAddr) (port file : ℕ) (x : DueMessage) (xs : List DueMessage) →
      answer (row_of files u m actor (Play q port file)) ≡
      (None, with_playback u actor (playback port m (x ∷ xs))) →
      Comes files s (an_input m actor (Play q port file))
      (to (playing u actor q (playback port m (x ∷ xs))) (ds ++ []) Done)
  plays q port file x xs e = plays-one (Play q port file) q port x xs refl e

  pub sends : (port : ℕ) (message : List ℕ) (t : State) (es : List Delivery) →
      refusal_of files u m actor (Send port message) ≡ None →
      with_copies u (send_copies u m actor (from_port port message ∷ [])) ≡ settled_to t es →
      Comes files s (an_input m actor (Send port message)) (to t (ds ++ es) Done)
  unfolding command_row
  sends port message t es r e =
      let effect : Effect = record (done_with (FinMap.get u.clients actor)) {
        sends = from_port port message
            ∷ [];
      } in
      does (Send port message) effect u t es (ap (λ x. (x, effect)) r) (with_own-same u actor None) e

  -- the bytes complete these messages of the port's stream
  pub feeds : (port : ℕ) (bytes : List ℕ) (c : Client) (ms : List (List ℕ)) (t : State)
      (es : List Delivery) →
      answer (row_of files u m actor (Bytes port bytes)) ≡ (None, sending c port ms) →
      with_copies (holding u actor c) (send_copies u m actor (map (from_port port) ms)) ≡ settled_to t es →
      Comes files s (an_input m actor (Bytes port bytes)) (to t (ds ++ es) (Messages (length ms)))
  feeds port bytes c ms t es r e =
      does (Bytes port bytes) (sending c port ms) (holding u actor c) t es r
      (with_own-held u actor None (Some c)) e

  pub asks : (status : Reply) → refusal_of files u m actor PoolStatus ≡ None →
      pool_status (playback_count u actor) (FinMap.get u.pools actor) ≡ status →
      Comes files s (an_input m actor PoolStatus) (to u (ds ++ []) status)
  asks status r e =
      let told : Reply → Stepped = to u [] in
      comes PoolStatus (told status)
      (step-asks files u m actor
      ∙ ap (λ x. unless x u (told (pool_status (playback_count u actor) (FinMap.get u.pools actor)))) r
      ∙ ap told e)

  pub asks-queue : (q : QueueAddr) (status : Reply) → refusal_of files u m actor (QueueStatus q) ≡
      None → queue_status m (named_queue u.clients actor (Some q)) ≡ status →
      Comes files s (an_input m actor (QueueStatus q)) (to u (ds ++ []) status)
  unfolding command_row
  asks-queue q status r e =
      let told : Reply → Effect = λ x. record (done_with (FinMap.get u.clients actor)) { reply = λ p. x } in
      does (QueueStatus q) (told status) u u []
      (ap (λ x. (x, told (queue_status m (named_queue u.clients actor (Some q))))) r
      ∙ ap (λ x. (None, told x)) e) (with_own-same u actor (Some q)) refl
