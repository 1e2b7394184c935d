-- Where anyone may join a node, a stranger can.
use Rattle.std.proofs.Common.{◌≡◌, ℕ, Bool, true, false, not, cond, eqb, ◌&&◌, ◌||◌, List, [], ◌∷◌, ◌++◌, length, Option, Some, None, refl, sym, ap, subst, ◌∙◌, arith, append-nil}
use Rattle.std.specs.Prelude.{is_some, nat_le}
use Rattle.std.specs.List.{filter, list_all}
use Rattle.std.specs.Ordering.{nat_cmp}
use Rattle.std.specs.FinMap
use Rattle.std.proofs.lemmas.Bool.{false≢true, not-true, eqb-true, ne_eqb}
use Rattle.route_filter.specs.Rules.{is_rule}
use Rattle.route_filter.specs.declared.rule_args.RuleArgs.{RuleArgs}
use Rattle.node_table.specs.Names.{is_name}
use Rattle.node_table.specs.Addresses.{same, same_node}
use Rattle.node_table.specs.Capabilities.{can, permits, read_bit, write_bit, subs_read_bit, subs_write_bit, no_export_bit}
use Rattle.node_table.specs.declared.caps.Caps.{Caps}
use Rattle.node_table.specs.declared.number.Addr.{Addr}
use Rattle.node_table.specs.declared.number.Node.{Node}
use Rattle.node_table.specs.declared.number.Node.TheVariants.{Port, Filter}
use Rattle.patch_graph.specs.Edges.{is_edge, has_edge, sources_of, most_sources}
use Rattle.patch_graph.specs.declared.edge.Edge.{Edge}
use Rattle.seq_state.specs.declared.input.Command.{Command}
use Rattle.seq_state.specs.declared.input.Command.TheVariants.{Open, CreatePort, CreateFilter, Connect}
use Rattle.seq_state.specs.declared.input.Input.{Input}
use Rattle.seq_state.specs.declared.refusal.Refusal.{Refusal}
use Rattle.smf_grammar.specs.Played.{PlayedFile}
use Rattle.seq_state.specs.State.{PortInfo, FilterInfo, Client, State, start}
use Rattle.seq_state.specs.Effect.{Effect, with_change, port_of, filter_of, has_port, has_filter, port_caps, filter_caps, node_caps, put_port, put_filter, new_port, new_filter, new_client}
use Rattle.seq_state.specs.Table.{Condition, first_refusal, command_row, is_permitted}
use Rattle.seq_state.specs.Step.{Stepped, unless, row_of, refusal_of, effect_of, command_step, caps_at, step, settle, state_after, IsRefusal, port_addr}
use Rattle.seq_state.specs.Changes.{IsLowest, client_after}
use Rattle.seq_state.specs.Laws.{EndsThere, has_ends, is_there}
use Rattle.seq_state.specs.Circle.{is_inner, IsClosedFrom}
use Rattle.seq_state.proofs.Lists.{both_left, both_right, filter-never, filter-true}
use Rattle.seq_state.proofs.Effects.{get-put}
use Rattle.seq_state.proofs.Ends.{get-put_port, get-put_filter, ends_law}
use Rattle.seq_state.proofs.Lowest.{lowest_law}
use Rattle.seq_state.proofs.Changes.{same_number, others_law, edges_law}
use Rattle.seq_circle.specs.Shut.{is_joinable, opens}
use Rattle.seq_circle.specs.Laws.{OpenLaw, node_made, input_of_client, joining_inputs}

-- ---- commands that are not refused

accepted : (r : Option Refusal) (s : State) (effect : Stepped) → (IsRefusal (unless r s effect).reply → ⊥) → r ≡ None
accepted None s effect h = refl
accepted (Some r) s effect h = absurd (h tt)

-- no condition holds
none_holds : (files : List PlayedFile) (s : State) (moment actor : ℕ) (command : Command) → refusal_of files s moment actor command ≡ None → list_all (λ c. not c.1) (row_of files s moment actor command).conditions ≡ true
none_holds files s moment actor command r = subst (IsLowest (row_of files s moment actor command).conditions) r (lowest_law.lowest files s moment actor command)

none_refused : (cs : List Condition) → list_all (λ c. not c.1) cs ≡ true → first_refusal cs ≡ None
none_refused [] h = refl
none_refused (c ∷ cs) h = go c.1 (both_left (not c.1) (list_all (λ d. not d.1) cs) h) (none_refused cs (both_right (not c.1) (list_all (λ d. not d.1) cs) h))
  where
    go : (b : Bool) → not b ≡ true → first_refusal cs ≡ None → cond b (Some c.0) (first_refusal cs) ≡ None
    go true k more = absurd (false≢true k)
    go false k more = more

actor_done : (files : List PlayedFile) (s : State) (moment actor : ℕ) (command : Command) → refusal_of files s moment actor command ≡ None → client_after files s moment actor command actor ≡ (row_of files s moment actor command).effect.client
actor_done files s moment actor command r =
    let effect : Effect = (row_of files s moment actor command).effect in
    ap (λ o. FinMap.get (unless o s (effect_of files s moment actor command)).state.clients actor) r
    ∙ get-put s.clients actor effect.client actor ∙ ap (λ b. cond b effect.client (FinMap.get s.clients actor)) (same_number actor)

-- ---- what is made

-- A node was not there, and is there now, where anyone may join it.
record Made (s t : State) (a : Addr) : Type 0 where
  caps : Caps
  new : is_there s a ≡ false
  there : caps_at t a ≡ Some caps
  joinable : is_joinable caps.0 ≡ true
  edges : t.edges ≡ s.edges

-- of three conditions none holds: it is open, and nothing is there
open_and_new : (client good there : Bool) → (not (not client) && (not (not good) && (not there && true))) ≡ true → (client ≡ true) × (there ≡ false)
open_and_new client good there h = (grind arith, grind arith)

kept_edges : (t s : State) → t.edges ≡ filter (λ e. true) s.edges ++ [] → t.edges ≡ s.edges
kept_edges t s e = e ∙ append-nil (filter (λ e. true) s.edges) ∙ filter-true s.edges

port_there : (o : Option Client) (n : ℕ) (name : List ℕ) (caps : Caps) → is_some o ≡ true → port_caps (port_of (with_change o (put_port n (Some (new_port name caps)))) n) ≡ Some caps
port_there None n name caps h = absurd (false≢true h)
port_there (Some c) n name caps h = ap port_caps (get-put_port n (Some (new_port name caps)) c n ∙ ap (λ b. cond b (Some (new_port name caps)) (FinMap.get c.ports n)) (same_number n))

filter_there : (o : Option Client) (n : ℕ) (caps : Caps) (rule : RuleArgs) → is_some o ≡ true → filter_caps (filter_of (with_change o (put_filter n (Some (new_filter caps rule)))) n) ≡ Some caps
filter_there None n caps rule h = absurd (false≢true h)
filter_there (Some c) n caps rule h = ap filter_caps (get-put_filter n (Some (new_filter caps rule)) c n ∙ ap (λ b. cond b (Some (new_filter caps rule)) (FinMap.get c.filters n)) (same_number n))

no_port_caps : (o : Option PortInfo) → is_some o ≡ false → is_some (port_caps o) ≡ false
no_port_caps None h = refl
no_port_caps (Some p) h = h

no_filter_caps : (o : Option FilterInfo) → is_some o ≡ false → is_some (filter_caps o) ≡ false
no_filter_caps None h = refl
no_filter_caps (Some f) h = h

made : (files : List PlayedFile) (owner : ℕ) (s : State) (moment actor : ℕ) (command : Command) → opens owner actor command ≡ true → refusal_of files s moment actor command ≡ None → Made s (command_step files s moment actor command).state (node_made actor command)
unfolding command_row
made files owner s moment actor (CreatePort port name caps) o r =
    let c : Command = CreatePort port name caps in
    let client : Option Client = FinMap.get s.clients actor in
    let h = open_and_new (is_some client) (is_name name) (has_port client port) (none_holds files s moment actor c r) in
    record {
      caps = caps;
      new = no_port_caps (port_of client port) h.1;
      there = ap (λ x. port_caps (port_of x port)) (actor_done files s moment actor c r) ∙ port_there client port name caps h.0;
      joinable = both_right (eqb actor owner) (is_joinable caps.0) o;
      edges = kept_edges (command_step files s moment actor c).state s (edges_law files s moment actor c r);
    }
made files owner s moment actor (CreateFilter n caps rule) o r =
    let c : Command = CreateFilter n caps rule in
    let client : Option Client = FinMap.get s.clients actor in
    let h = open_and_new (is_some client) (is_rule rule) (has_filter client n) (none_holds files s moment actor c r) in
    record {
      caps = caps;
      new = no_filter_caps (filter_of client n) h.1;
      there = ap (λ x. filter_caps (filter_of x n)) (actor_done files s moment actor c r) ∙ filter_there client n caps rule h.0;
      joinable = o;
      edges = kept_edges (command_step files s moment actor c).state s (edges_law files s moment actor c r);
    }
made files owner s moment actor command o r = absurd (false≢true o)

made_inside : (owner : ℕ) (member : ℕ → Bool) (actor : ℕ) (command : Command) → member actor ≡ true → opens owner actor command ≡ true → is_inner owner member (node_made actor command) ≡ true
made_inside owner member actor (CreatePort port name caps) m o = both_left (eqb actor owner) (is_joinable caps.0) o
made_inside owner member actor (CreateFilter n caps rule) m o = m
made_inside owner member actor command m o = absurd (false≢true o)

made_client : (owner actor : ℕ) (command : Command) → opens owner actor command ≡ true → (node_made actor command).client ≡ actor
made_client owner actor (CreatePort port name caps) o = refl
made_client owner actor (CreateFilter n caps rule) o = refl
made_client owner actor command o = absurd (false≢true o)

-- ---- no edge ends where nothing was

there_alike : (s : State) (a b : Addr) → same a b ≡ true → is_there s a ≡ is_there s b
there_alike s a b h = go a.node b.node (both_left (eqb a.client b.client) (same_node a.node b.node) h) (both_right (eqb a.client b.client) (same_node a.node b.node) h)
  where
    go : (m n : Node) → eqb a.client b.client ≡ true → same_node m n ≡ true → is_some (node_caps (FinMap.get s.clients a.client) m) ≡ is_some (node_caps (FinMap.get s.clients b.client) n)
    go (Port m) (Port n) h k = ap (λ c. is_some (node_caps (FinMap.get s.clients c) (Port m))) (eqb-true a.client b.client h) ∙ ap (λ x. is_some (node_caps (FinMap.get s.clients b.client) (Port x))) (eqb-true m n k)
    go (Filter m) (Filter n) h k = ap (λ c. is_some (node_caps (FinMap.get s.clients c) (Filter m))) (eqb-true a.client b.client h) ∙ ap (λ x. is_some (node_caps (FinMap.get s.clients b.client) (Filter x))) (eqb-true m n k)
    go (Port m) (Filter n) h k = absurd (false≢true k)
    go (Filter m) (Port n) h k = absurd (false≢true k)

no_end : (s : State) (a : Addr) → is_there s a ≡ false → (e : Edge) → same a e.target ≡ true → has_ends s e ≡ true → ⊥
no_end s a n e h k = false≢true (sym n ∙ there_alike s a e.target h ∙ both_right (is_there s e.source) (is_there s e.target) k)

no_sources : (s : State) (a : Addr) → EndsThere s → is_there s a ≡ false → sources_of s.edges a ≡ 0
no_sources s a w n = ap length (filter-never (λ e. same a e.target) (has_ends s) (λ e h k. no_end s a n e h k) s.edges w)

no_edge : (s : State) (source a : Addr) → is_there s a ≡ false → (edges : List Edge) → list_all (has_ends s) edges ≡ true → has_edge edges source a ≡ false
no_edge s source a n [] w = refl
no_edge s source a n (e ∷ es) w = go (is_edge source a e) refl (no_edge s source a n es (both_right (has_ends s e) (list_all (has_ends s) es) w))
  where
    go : (b : Bool) → is_edge source a e ≡ b → has_edge es source a ≡ false → (b || has_edge es source a) ≡ false
    go true h more = absurd (no_end s a n e (both_right (same source e.source) (same a e.target) h) (both_left (has_ends s e) (list_all (has_ends s) es) w))
    go false h more = more

not_full : (n : ℕ) → n ≡ 0 → nat_le most_sources n ≡ false
unfolding most_sources
not_full n e = ap (nat_le 32) e

-- ---- what the stranger does

abbrev name : List ℕ
name = 120 ∷ []

abbrev reads : Caps
reads = record { 0 = read_bit }

opens_unrefused : (files : List PlayedFile) (s : State) (moment actor : ℕ) → FinMap.get s.clients actor ≡ None → refusal_of files s moment actor (Open name 1 1) ≡ None
unfolding command_row
opens_unrefused files s moment actor e = none_refused (row_of files s moment actor (Open name 1 1)).conditions (ap (λ o. not (is_some o) && true) e)

makes_unrefused : (files : List PlayedFile) (s : State) (moment actor : ℕ) → FinMap.get s.clients actor ≡ Some (new_client name 1 1) → refusal_of files s moment actor (CreatePort 0 name reads) ≡ None
unfolding command_row
makes_unrefused files s moment actor e =
    none_refused (row_of files s moment actor (CreatePort 0 name reads)).conditions
    (ap (λ o. not (not (is_some o)) && (not (has_port o 0) && true)) e ∙ ap (λ o. not (is_some o) && true) (FinMap.get-empty nat_cmp 0))

may_join : (actor : ℕ) (target : Addr) (w : ℕ) → is_joinable w ≡ true → permits actor (port_addr actor 0) read_bit target w ≡ true
may_join actor target w h =
    go (eqb actor actor) (can subs_read_bit read_bit) (can write_bit w) (eqb actor target.client) (can subs_write_bit w) (not (can no_export_bit read_bit || can no_export_bit w)) (same_number actor) h
  where
    go : (b x cw y sw v : Bool) → b ≡ true → (cw && sw) ≡ true → (true && (b || x) && cw && (y || sw) && (b || y || v)) ≡ true
    go b x cw y sw v h k = grind arith

joins_unrefused : (files : List PlayedFile) (s : State) (moment actor : ℕ) (target : Addr) (w : Caps) → is_some (FinMap.get s.clients actor) ≡ true → caps_at s (port_addr actor 0) ≡ Some reads → caps_at s target ≡ Some w → is_joinable w.0 ≡ true →
    has_edge s.edges (port_addr actor 0) target ≡ false → nat_le most_sources (sources_of s.edges target) ≡ false → refusal_of files s moment actor (Connect (port_addr actor 0) target) ≡ None
unfolding command_row
joins_unrefused files s moment actor target w o r t j e n =
    let source : Addr = port_addr actor 0 in
    let p : is_permitted actor source (caps_at s source) target (caps_at s target) ≡ true =
    ap (λ x. is_permitted actor source x target (caps_at s target)) r ∙ ap (is_permitted actor source (Some reads) target) t ∙ may_join actor target w.0 j in
    none_refused (row_of files s moment actor (Connect source target)).conditions
    (six (is_some (FinMap.get s.clients actor)) (is_some (caps_at s source)) (is_some (caps_at s target)) (is_permitted actor source (caps_at s source) target (caps_at s target)) (has_edge s.edges source target) (nat_le most_sources (sources_of s.edges target))
    o (ap is_some r) (ap is_some t) p e n)
  where
    six : (a b c d e f : Bool) → a ≡ true → b ≡ true → c ≡ true → d ≡ true → e ≡ false → f ≡ false → (not (not a) && (not (not b) && (not (not c) && (not (not d) && (not e && (not f && true)))))) ≡ true
    six a b c d e f i j k l m n = grind arith

-- a Connect that is not refused has another reply
joined_reply : (files : List PlayedFile) (s : State) (moment actor : ℕ) (source target : Addr) → refusal_of files s moment actor (Connect source target) ≡ None → IsRefusal (command_step files s moment actor (Connect source target)).reply → ⊥
unfolding command_row
joined_reply files s moment actor source target r h =
    let c : Command = Connect source target in
    subst (λ o. IsRefusal (unless o s (effect_of files s moment actor c)).reply) r h

-- what the stranger has then, and that no edge goes
its_client : (files : List PlayedFile) (s : State) (moment actor : ℕ) → refusal_of files s moment actor (Open name 1 1) ≡ None → client_after files s moment actor (Open name 1 1) actor ≡ Some (new_client name 1 1)
unfolding command_row
its_client files s moment actor r = actor_done files s moment actor (Open name 1 1) r

its_port : (files : List PlayedFile) (s : State) (moment actor : ℕ) → refusal_of files s moment actor (CreatePort 0 name reads) ≡ None → client_after files s moment actor (CreatePort 0 name reads) actor ≡ with_change (FinMap.get s.clients actor) (put_port 0 (Some (new_port name reads)))
unfolding command_row
its_port files s moment actor r = actor_done files s moment actor (CreatePort 0 name reads) r

same_edges_open : (files : List PlayedFile) (s : State) (moment actor : ℕ) → refusal_of files s moment actor (Open name 1 1) ≡ None → (command_step files s moment actor (Open name 1 1)).state.edges ≡ s.edges
same_edges_open files s moment actor r = kept_edges (command_step files s moment actor (Open name 1 1)).state s (edges_law files s moment actor (Open name 1 1) r)

same_edges_port : (files : List PlayedFile) (s : State) (moment actor : ℕ) → refusal_of files s moment actor (CreatePort 0 name reads) ≡ None → (command_step files s moment actor (CreatePort 0 name reads)).state.edges ≡ s.edges
same_edges_port files s moment actor r = kept_edges (command_step files s moment actor (CreatePort 0 name reads)).state s (edges_law files s moment actor (CreatePort 0 name reads) r)

-- ---- before

absent : (files : List PlayedFile) (stranger : ℕ) (s : State) (before : List Input) → FinMap.get s.clients stranger ≡ None → list_all (λ j. not (eqb stranger j.actor)) before ≡ true → FinMap.get (state_after files s before).clients stranger ≡ None
absent files stranger s [] e h = e
absent files stranger s (j ∷ before) e h =
    let rest : Bool = list_all (λ k. not (eqb stranger k.actor)) before in
    absent files stranger (step files s j).state before
    (others_law.clients files (settle s j.moment).state j.moment j.actor j.command stranger (not-true (eqb stranger j.actor) (both_left (not (eqb stranger j.actor)) rest h)) ∙ e)
    (both_right (not (eqb stranger j.actor)) rest h)

ends_after : (files : List PlayedFile) (s : State) (before : List Input) → EndsThere s → EndsThere (state_after files s before)
ends_after files s [] w = w
ends_after files s (j ∷ before) w = ends_after files (step files s j).state before (ends_law.stepped files s j w)

closed_after : (files : List PlayedFile) (owner : ℕ) (member : ℕ → Bool) (s : State) (before after : List Input) → IsClosedFrom files owner member s (before ++ after) → IsClosedFrom files owner member (state_after files s before) after
closed_after files owner member s [] after c = c
closed_after files owner member s (j ∷ before) after c = closed_after files owner member (step files s j).state before after c.2

apart : (member : ℕ → Bool) (a b : ℕ) → member a ≡ true → member b ≡ false → eqb a b ≡ false
apart member a b m n = ne_eqb a b (λ e. false≢true (sym n ∙ ap member (sym e) ∙ m))

apart' : (member : ℕ → Bool) (a b : ℕ) → member a ≡ true → member b ≡ false → eqb b a ≡ false
apart' member a b m n = ne_eqb b a (λ e. false≢true (sym n ∙ ap member e ∙ m))

pub open_law : OpenLaw
open_law files owner member before after i stranger silent m n o done closed =
    let s : State = state_after files start before in
    let u : State = (settle s i.moment).state in
    let target : Addr = node_made i.actor i.command in
    let x : Made u (step files s i).state target = made files owner u i.moment i.actor i.command o (accepted (refusal_of files u i.moment i.actor i.command) u (effect_of files u i.moment i.actor i.command) done) in
    let one : State = (step files s i).state in
    let two : State = (step files one (input_of_client i.moment stranger (Open name 1 1))).state in
    let three : State = (step files two (input_of_client i.moment stranger (CreatePort 0 name reads))).state in
    let w : EndsThere u = ends_after files start before refl in
    let none : FinMap.get one.clients stranger ≡ None =
    others_law.clients files u i.moment i.actor i.command stranger (apart' member i.actor stranger m n) ∙ absent files stranger start before (FinMap.get-empty nat_cmp stranger) silent in
    let one' : State = (settle one i.moment).state in
    let first : refusal_of files one' i.moment stranger (Open name 1 1) ≡ None = opens_unrefused files one' i.moment stranger none in
    let two' : State = (settle two i.moment).state in
    let new : FinMap.get two.clients stranger ≡ Some (new_client name 1 1) = its_client files one' i.moment stranger first in
    let second : refusal_of files two' i.moment stranger (CreatePort 0 name reads) ≡ None = makes_unrefused files two' i.moment stranger new in
    let three' : State = (settle three i.moment).state in
    let edges : three'.edges ≡ u.edges = same_edges_port files two' i.moment stranger second ∙ same_edges_open files one' i.moment stranger first ∙ x.edges in
    let its : FinMap.get three.clients stranger ≡ with_change (FinMap.get two.clients stranger) (put_port 0 (Some (new_port name reads))) = its_port files two' i.moment stranger second in
    let stays : caps_at three' target ≡ Some x.caps =
    ap (λ o. node_caps o target.node)
    (others_law.clients files two' i.moment stranger (CreatePort 0 name reads) target.client (away target.client (made_client owner i.actor i.command o))
    ∙ others_law.clients files one' i.moment stranger (Open name 1 1) target.client (away target.client (made_client owner i.actor i.command o)))
    ∙ x.there in
    let third : refusal_of files three' i.moment stranger (Connect (port_addr stranger 0) target) ≡ None =
    joins_unrefused files three' i.moment stranger target x.caps (ap is_some (its ∙ ap (λ o. with_change o (put_port 0 (Some (new_port name reads)))) new))
    (ap (λ o. port_caps (port_of o 0)) its ∙ port_there (FinMap.get two.clients stranger) 0 name reads (ap is_some new))
    stays x.joinable
    (ap (λ es. has_edge es (port_addr stranger 0) target) edges ∙ no_edge u (port_addr stranger 0) target x.new u.edges w)
    (not_full (sources_of three'.edges target) (ap (λ es. sources_of es target) edges ∙ no_sources u target w x.new)) in
    let c = closed_after files owner member start before (i ∷ (joining_inputs i.moment stranger target ++ after)) closed.1 in
    joined_reply files three' i.moment stranger (port_addr stranger 0) target third ((c.2.2.2.0 (made_inside owner member i.actor i.command m o)).1 n)
  where
    away : (c : ℕ) → c ≡ i.actor → eqb c stranger ≡ false
    away c e = apart member c stranger (ap member e ∙ m) n
