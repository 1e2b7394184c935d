-- Both ends of each edge are there, and each playback has an event.
use Rattle.std.proofs.Common.{◌≡◌, ℕ, Bool, true, false, not, cond, eqb, ◌&&◌, ◌||◌, List, [], ◌∷◌, map, Option, Some, None, refl, sym, ap, subst, ◌∙◌, arith}
use Rattle.std.specs.Prelude.{is_some}
use Rattle.std.specs.List.{filter, list_all}
use Rattle.std.specs.Ordering.{nat_cmp}
use Rattle.std.specs.FinMap
use Rattle.std.proofs.lemmas.Bool.Decides.{nat_tests}
use Rattle.std.proofs.lemmas.Bool.{false≢true, eqb-true}
use Rattle.route_filter.specs.declared.rule_args.RuleArgs.{RuleArgs}
use Rattle.node_table.specs.Addresses.{same_node}
use Rattle.node_table.specs.declared.number.Addr.{Addr}
use Rattle.node_table.specs.declared.number.Node.{Node}
use Rattle.node_table.specs.declared.number.Node.TheVariants.{Port, Filter}
use Rattle.node_table.specs.declared.number.QueueAddr.{QueueAddr}
use Rattle.patch_graph.specs.Edges.{edge, is_edge}
use Rattle.patch_graph.specs.declared.edge.Edge.{Edge}
use Rattle.seq_state.specs.declared.input.Command.{Command}
use Rattle.seq_state.specs.declared.input.Command.TheVariants.{Open, Close, CreatePort, DeletePort, CreateFilter, SetFilter, DeleteFilter, Connect, Disconnect, Bytes, CreateQueue, CreateQueueFrom, DeleteQueue, Start, Stop, Continue, Tempo, Share}
use Rattle.seq_state.specs.declared.refusal.Refusal.{Refusal}
use Rattle.seq_state.specs.declared.refusal.Refusal.TheVariants as refusal
use Rattle.tempo_clock.specs.Clocks.{running_from_zero, at_rest, running_on, with_tempo}
use Rattle.smf_grammar.specs.Played.{PlayedFile}
use Rattle.seq_state.specs.State.{PortInfo, FilterInfo, Queue, Client, State}
use Rattle.seq_state.specs.Effect.{Effect, with_change, port_of, filter_of, port_caps, filter_caps, node_caps, put_port, put_filter, put_queue, port_fed, filter_ruled, queue_of, queue_map, new_port, new_filter, held_queue, one_tempo, file_queue, file_at, with_clock, public}
use Rattle.seq_state.specs.Table.{CommandView, Condition, first_refusal, command_row, queue_named, bad_name, bad_sizes, not_open, not_permitted, already_connected, sources_full, cycle}
use Rattle.seq_state.specs.Step.{Stepped, playback_after, is_left, settle, loses, drops, pending_of, with_effect, unless, view_of, row_of, refusal_of, effect_of, command_step}
use Rattle.seq_state.specs.Laws.{is_there, has_ends, EndsThere, EndsLaw, AreFilled, FilledLaw}
use Rattle.seq_state.proofs.Effects.{get-put, none_some}
use Rattle.seq_state.proofs.Lists.{both_left, both_right, and_both, list_all-filter, list_all-append, list_all-both, list_all-passed, list_all-weaker}

-- ---- the nodes of a client with a change

pub get-put_port : (n : ℕ) (o : Option PortInfo) (c : Client) (q : ℕ) → FinMap.get (put_port n o c).ports q ≡ cond (eqb q n) o (FinMap.get c.ports q)
get-put_port n None c q = get-put c.ports n None q
get-put_port n (Some p) c q = get-put c.ports n (Some p) q

pub get-put_filter : (n : ℕ) (o : Option FilterInfo) (c : Client) (q : ℕ) → FinMap.get (put_filter n o c).filters q ≡ cond (eqb q n) o (FinMap.get c.filters q)
get-put_filter n None c q = get-put c.filters n None q
get-put_filter n (Some f) c q = get-put c.filters n (Some f) q

pub filters-put_port : (n : ℕ) (o : Option PortInfo) (c : Client) → (put_port n o c).filters ≡ c.filters
filters-put_port n None c = refl
filters-put_port n (Some p) c = refl

pub ports-put_filter : (n : ℕ) (o : Option FilterInfo) (c : Client) → (put_filter n o c).ports ≡ c.ports
ports-put_filter n None c = refl
ports-put_filter n (Some f) c = refl

pub ports-put_queue : (n : ℕ) (o : Option Queue) (c : Client) → (put_queue n o c).ports ≡ c.ports
ports-put_queue n None c = refl
ports-put_queue n (Some q) c = refl

pub filters-put_queue : (n : ℕ) (o : Option Queue) (c : Client) → (put_queue n o c).filters ≡ c.filters
filters-put_queue n None c = refl
filters-put_queue n (Some q) c = refl

-- ---- what a row leaves of the actor's nodes

-- a node of the client that does not go is there still
abbrev NodesStay : Option Client → Effect → Type 0
NodesStay client effect = (n : Node) → effect.gone n ≡ false → is_some (node_caps client n) ≡ true → is_some (node_caps effect.client n) ≡ true

-- a port's change that takes none but this
port_stays : (client : Option Client) (port : ℕ) (o : Option PortInfo) (gone : Node → Bool) → ((n : ℕ) → eqb n port ≡ true → gone (Port n) ≡ false → is_some (port_caps (port_of client n)) ≡ true → is_some (port_caps o) ≡ true) →
    (n : Node) → gone n ≡ false → is_some (node_caps client n) ≡ true → is_some (node_caps (with_change client (put_port port o)) n) ≡ true
port_stays None port o gone h n g t = t
port_stays (Some c) port o gone h (Port n) g t = subst (λ x. is_some (port_caps x) ≡ true) (sym (get-put_port port o c n)) (go (eqb n port) refl)
  where
    go : (b : Bool) → eqb n port ≡ b → is_some (port_caps (cond b o (FinMap.get c.ports n))) ≡ true
    go true e = h n e g t
    go false e = t
port_stays (Some c) port o gone h (Filter n) g t = subst (λ x. is_some (filter_caps (FinMap.get x n)) ≡ true) (sym (filters-put_port port o c)) t

filter_stays : (client : Option Client) (m : ℕ) (o : Option FilterInfo) (gone : Node → Bool) → ((n : ℕ) → eqb n m ≡ true → gone (Filter n) ≡ false → is_some (filter_caps (filter_of client n)) ≡ true → is_some (filter_caps o) ≡ true) →
    (n : Node) → gone n ≡ false → is_some (node_caps client n) ≡ true → is_some (node_caps (with_change client (put_filter m o)) n) ≡ true
filter_stays None m o gone h n g t = t
filter_stays (Some c) m o gone h (Filter n) g t = subst (λ x. is_some (filter_caps x) ≡ true) (sym (get-put_filter m o c n)) (go (eqb n m) refl)
  where
    go : (b : Bool) → eqb n m ≡ b → is_some (filter_caps (cond b o (FinMap.get c.filters n))) ≡ true
    go true e = h n e g t
    go false e = t
filter_stays (Some c) m o gone h (Port n) g t = subst (λ x. is_some (port_caps (FinMap.get x n)) ≡ true) (sym (ports-put_filter m o c)) t

queue_stays : (client : Option Client) (m : ℕ) (o : Option Queue) (n : Node) → is_some (node_caps client n) ≡ true → is_some (node_caps (with_change client (put_queue m o)) n) ≡ true
queue_stays None m o n t = t
queue_stays (Some c) m o (Port n) t = subst (λ x. is_some (port_caps (FinMap.get x n)) ≡ true) (sym (ports-put_queue m o c)) t
queue_stays (Some c) m o (Filter n) t = subst (λ x. is_some (filter_caps (FinMap.get x n)) ≡ true) (sym (filters-put_queue m o c)) t

-- who is open already is not opened
none_open : (client : Option Client) (r : Refusal) (rest : List Condition) (n : Node) → first_refusal ((r, is_some client) ∷ rest) ≡ None → is_some (node_caps client n) ≡ true → ⊥
none_open None r rest (Port n) e t = false≢true (sym (ap (λ x. is_some (port_caps x)) (FinMap.get-empty nat_cmp n)) ∙ t)
none_open None r rest (Filter n) e t = false≢true (sym (ap (λ x. is_some (filter_caps x)) (FinMap.get-empty nat_cmp n)) ∙ t)
none_open (Some c) r rest n e t = none_some r (sym e)

-- a rule goes to a filter that is there
ruled : (o : Option FilterInfo) (rule : RuleArgs) → is_some (filter_caps o) ≡ true → is_some (filter_caps (filter_ruled rule o)) ≡ true
ruled None rule h = h
ruled (Some f) rule h = refl

nodes_stay : (a : CommandView) (command : Command) → first_refusal (command_row a command).conditions ≡ None → NodesStay a.client (command_row a command).effect
unfolding command_row
nodes_stay a (Open name in_size out_size) r n g t = absurd (none_open a.client refusal.AlreadyOpen (bad_name name ∷ bad_sizes in_size out_size ∷ []) n r t)
nodes_stay a Close r n g t = absurd (false≢true (sym g))
nodes_stay a (CreatePort port name caps) r n g t = port_stays a.client port (Some (new_port name caps)) (λ _. false) (λ m e h k. refl) n g t
nodes_stay a (DeletePort port) r n g t = port_stays a.client port None (same_node (Port port)) (λ m e h k. absurd (false≢true (sym h ∙ ap (λ x. eqb x m) (sym (eqb-true m port e)) ∙ same m))) n g t
  where
    same : (m : ℕ) → eqb m m ≡ true
    same m = grind (arith, nat_tests)
nodes_stay a (CreateFilter m caps rule) r n g t = filter_stays a.client m (Some (new_filter caps rule)) (λ _. false) (λ k e h i. refl) n g t
nodes_stay a (SetFilter m rule) r n g t =
    filter_stays a.client m (filter_ruled rule (filter_of a.client m)) (λ _. false) (λ k e h i. ruled (filter_of a.client m) rule (subst (λ x. is_some (filter_caps (filter_of a.client x)) ≡ true) (eqb-true k m e) i)) n g t
nodes_stay a (DeleteFilter m) r n g t = filter_stays a.client m None (same_node (Filter m)) (λ k e h i. absurd (false≢true (sym h ∙ ap (λ x. eqb x k) (sym (eqb-true k m e)) ∙ same k))) n g t
  where
    same : (k : ℕ) → eqb k k ≡ true
    same k = grind (arith, nat_tests)
nodes_stay a (Bytes port bytes) r n g t = port_stays a.client port (port_fed bytes (port_of a.client port)) (λ _. false) (λ m e h k. fed (port_of a.client port) (subst (λ x. is_some (port_caps (port_of a.client x)) ≡ true) (eqb-true m port e) k)) n g t
  where
    fed : (o : Option PortInfo) → is_some (port_caps o) ≡ true → is_some (port_caps (port_fed bytes o)) ≡ true
    fed None h = h
    fed (Some p) h = refl
nodes_stay a (CreateQueue q ppq tempo) r n g t = queue_stays a.client q (Some (held_queue (one_tempo ppq tempo))) n t
nodes_stay a (CreateQueueFrom q file) r n g t = queue_stays a.client q (file_queue (file_at a.files file)) n t
nodes_stay a (DeleteQueue q) r n g t = queue_stays a.client q.queue None n t
nodes_stay a (Start q) r n g t = queue_stays a.client q.queue (queue_map (with_clock (λ c. running_from_zero c a.moment)) (queue_of a.client q.queue)) n t
nodes_stay a (Stop q) r n g t = queue_stays a.client q.queue (queue_map (with_clock (λ c. at_rest c a.moment)) (queue_of a.client q.queue)) n t
nodes_stay a (Continue q) r n g t = queue_stays a.client q.queue (queue_map (with_clock (λ c. running_on c a.moment)) (queue_of a.client q.queue)) n t
nodes_stay a (Tempo q tempo) r n g t = queue_stays a.client q.queue (queue_map (with_clock (λ c. with_tempo c a.moment tempo)) (queue_of a.client q.queue)) n t
nodes_stay a (Share q) r n g t = queue_stays a.client q.queue (queue_map public (queue_of a.client q.queue)) n t
nodes_stay a command r n g t = t

-- ---- the ends of edges

-- an end that does not go is there after the command
end_stays : (s : State) (actor : ℕ) (q : Option QueueAddr) (effect : Effect) → NodesStay (FinMap.get s.clients actor) effect → (x : Addr) → (eqb x.client actor && effect.gone x.node) ≡ false → is_there s x ≡ true → is_there (with_effect s actor q effect) x ≡ true
end_stays s actor q effect h x g t = subst (λ o. is_some (node_caps o x.node) ≡ true) (sym (get-put s.clients actor effect.client x.client)) (go (eqb x.client actor) refl g)
  where
    go : (b : Bool) → eqb x.client actor ≡ b → (b && effect.gone x.node) ≡ false → is_some (node_caps (cond b effect.client (FinMap.get s.clients x.client)) x.node) ≡ true
    go true e g = h x.node g (subst (λ c. is_some (node_caps (FinMap.get s.clients c) x.node) ≡ true) (eqb-true x.client actor e) t)
    go false e g = t

ends_kept : (s : State) (actor : ℕ) (q : Option QueueAddr) (effect : Effect) → NodesStay (FinMap.get s.clients actor) effect → EndsThere s → list_all (has_ends (with_effect s actor q effect)) (filter (λ e. not (loses actor effect.gone e)) s.edges) ≡ true
ends_kept s actor q effect h w =
    let keeps : Edge → Bool = λ e. not (loses actor effect.gone e) in
    let es : List Edge = filter keeps s.edges in
    list_all-weaker (λ e. has_ends s e && keeps e) (has_ends (with_effect s actor q effect)) one es
    (list_all-both (has_ends s) keeps es (list_all-filter (has_ends s) keeps s.edges w) (list_all-passed keeps s.edges))
  where
    neither : (x y : Bool) → not (x || y) ≡ true → (x ≡ false) × (y ≡ false)
    neither true y h = absurd (false≢true h)
    neither false true h = absurd (false≢true h)
    neither false false h = (refl, refl)

    one : (e : Edge) → (has_ends s e && not (loses actor effect.gone e)) ≡ true → has_ends (with_effect s actor q effect) e ≡ true
    one e k =
        let ends : has_ends s e ≡ true = both_left (has_ends s e) (not (loses actor effect.gone e)) k in
        let none = neither (eqb e.source.client actor && effect.gone e.source.node) (eqb e.target.client actor && effect.gone e.target.node) (both_right (has_ends s e) (not (loses actor effect.gone e)) k) in
        and_both (is_there (with_effect s actor q effect) e.source) (is_there (with_effect s actor q effect) e.target)
        (end_stays s actor q effect h e.source none.0 (both_left (is_there s e.source) (is_there s e.target) ends))
        (end_stays s actor q effect h e.target none.1 (both_right (is_there s e.source) (is_there s e.target) ends))

-- a Connect that is not refused has both ends
ends_found : (a : Condition) (x y : Bool) (n m : Refusal) (rest : List Condition) → first_refusal (a ∷ (n, not x) ∷ (m, not y) ∷ rest) ≡ None → (x ≡ true) × (y ≡ true)
ends_found a x y n m rest e = go a.1 x y e
  where
    go : (i x y : Bool) → cond i (Some a.0) (cond (not x) (Some n) (cond (not y) (Some m) (first_refusal rest))) ≡ None → (x ≡ true) × (y ≡ true)
    go true x y e = absurd (none_some a.0 (sym e))
    go false false y e = absurd (none_some n (sym e))
    go false true false e = absurd (none_some m (sym e))
    go false true true e = (refl, refl)

ends_row : (files : List PlayedFile) (s : State) (moment actor : ℕ) (command : Command) → refusal_of files s moment actor command ≡ None → EndsThere s → EndsThere (with_effect s actor (queue_named command) (row_of files s moment actor command).effect)
unfolding command_row
ends_row files s moment actor (Connect source target) r w =
    let effect : Effect = (row_of files s moment actor (Connect source target)).effect in
    let u : State = with_effect s actor None effect in
    let kept : List Edge = filter (λ e. not (loses actor effect.gone e)) s.edges in
    let stay : NodesStay (FinMap.get s.clients actor) effect = nodes_stay (view_of files s moment actor (Connect source target)) (Connect source target) r in
    let a : CommandView = view_of files s moment actor (Connect source target) in
    let rest : List Condition = not_permitted a source target ∷ already_connected a source target ∷ sources_full a target ∷ cycle a source target ∷ [] in
    let found = ends_found (not_open a) (is_there s source) (is_there s target) refusal.NoSender refusal.NoDest rest r in
    list_all-append (has_ends u) kept (edge source target ∷ []) (ends_kept s actor None effect stay w)
    (and_both (is_there u source && is_there u target) true
    (and_both (is_there u source) (is_there u target) (end_stays s actor None effect stay source (no_node source) found.0) (end_stays s actor None effect stay target (no_node target) found.1)) refl)
  where
    no_node : (x : Addr) → (eqb x.client actor && false) ≡ false
    no_node x = grind arith
ends_row files s moment actor (Disconnect source target) r w =
    let effect : Effect = (row_of files s moment actor (Disconnect source target)).effect in
    let u : State = with_effect s actor None effect in
    let kept : List Edge = filter (λ e. not (loses actor effect.gone e)) s.edges in
    list_all-filter (has_ends u) (λ e. not (is_edge source target e)) kept
    (ends_kept s actor None effect (nodes_stay (view_of files s moment actor (Disconnect source target)) (Disconnect source target) r) w)
ends_row files s moment actor command r w =
    ends_kept s actor (queue_named command) (row_of files s moment actor command).effect (nodes_stay (view_of files s moment actor command) command r) w

ends_unless : (s : State) → EndsThere s → (o : Option Refusal) (effect : Stepped) → (o ≡ None → EndsThere effect.state) → EndsThere (unless o s effect).state
ends_unless s w None effect h = h refl
ends_unless s w (Some n) effect h = w

ends_command : (files : List PlayedFile) (s : State) (moment actor : ℕ) (command : Command) → EndsThere s → EndsThere (command_step files s moment actor command).state
ends_command files s moment actor command w =
    ends_unless s w (refusal_of files s moment actor command) (effect_of files s moment actor command) (λ r. ends_row files s moment actor command r w)

pub ends_law : EndsLaw
ends_law = record {
  at_first = refl;
  settled = λ s m w. w;
  stepped = λ files s i w. ends_command files (settle s i.moment).state i.moment i.actor i.command w;
}

-- ---- playbacks

filled_own : (s : State) (actor : ℕ) (q : Option QueueAddr) (effect : Effect) → AreFilled s → AreFilled (with_effect s actor q effect)
filled_own s actor q effect w =
    list_all-append is_left (filter (λ p. not (drops actor effect p)) s.pending) (filter is_left (map (pending_of actor q) effect.added))
    (list_all-filter is_left (λ p. not (drops actor effect p)) s.pending w) (list_all-passed is_left (map (pending_of actor q) effect.added))

filled_unless : (s : State) → AreFilled s → (o : Option Refusal) (effect : Stepped) → AreFilled effect.state → AreFilled (unless o s effect).state
filled_unless s w None effect h = h
filled_unless s w (Some n) effect h = w

pub filled_law : FilledLaw
filled_law = record {
  at_first = refl;
  settled = λ s m w. list_all-passed is_left (map (playback_after s.clients m) s.pending);
  stepped = λ files s i w.
      let u : State = (settle s i.moment).state in
      filled_unless u (list_all-passed is_left (map (playback_after s.clients i.moment) s.pending)) (refusal_of files u i.moment i.actor i.command) (effect_of files u i.moment i.actor i.command)
      (filled_own u i.actor (queue_named i.command) (row_of files u i.moment i.actor i.command).effect (list_all-passed is_left (map (playback_after s.clients i.moment) s.pending)));
}
