-- A shut circle is closed, whatever strangers say.
use Rattle.std.proofs.Common.{◌≡◌, ℕ, Bool, true, false, not, cond, eqb, ◌&&◌, ◌||◌, List, [], ◌∷◌, Option, Some, None, refl, sym, ap, subst, ◌∙◌, arith}
use Rattle.std.specs.Prelude.{is_some}
use Rattle.std.specs.List.{list_all}
use Rattle.std.specs.Ordering.{nat_cmp}
use Rattle.std.specs.FinMap
use Rattle.std.proofs.lemmas.Bool.{false≢true, not-true, eqb-true, ne_eqb}
use Rattle.route_filter.specs.declared.rule_args.RuleArgs.{RuleArgs}
use Rattle.tempo_clock.specs.Clocks.{running_from_zero, at_rest, running_on, with_tempo}
use Rattle.node_table.specs.Capabilities.{can, read_bit, write_bit, subs_read_bit, subs_write_bit, no_export_bit}
use Rattle.node_table.specs.declared.caps.Caps.{Caps}
use Rattle.node_table.specs.declared.number.Addr.{Addr}
use Rattle.node_table.specs.declared.number.Node.{Node}
use Rattle.node_table.specs.declared.number.Node.TheVariants.{Port, Filter}
use Rattle.seq_state.specs.declared.input.Command.{Command}
use Rattle.seq_state.specs.declared.input.Command.TheVariants.{Open, Close, CreatePort, DeletePort, CreateFilter, SetFilter, DeleteFilter, Connect, Disconnect, Bytes, CreateQueue, CreateQueueFrom, DeleteQueue, Start, Stop, Continue, Tempo, QueueStatus, Share, Schedule, Play}
use Rattle.seq_state.specs.declared.input.Input.{Input}
use Rattle.seq_state.specs.declared.refusal.Refusal.{Refusal}
use Rattle.seq_state.specs.declared.refusal.Refusal.TheVariants as refusal
use Rattle.smf_grammar.specs.Played.{PlayedFile}
use Rattle.seq_state.specs.State.{PortInfo, FilterInfo, Queue, Client, State, start, with_entry}
use Rattle.seq_state.specs.Effect.{Effect, with_change, port_of, filter_of, queue_of, port_caps, filter_caps, node_caps, put_port, put_filter, put_queue, port_fed, filter_ruled, queue_map, new_port, new_filter, held_queue, one_tempo, file_queue, file_at, with_clock, public}
use Rattle.seq_state.specs.Table.{CommandView, Condition, first_refusal, command_row, is_permitted, not_open, no_sender, no_dest, already_connected, not_connected, sources_full, cycle}
use Rattle.seq_state.specs.Step.{Stepped, unless, view_of, row_of, refusal_of, effect_of, command_step, caps_at, step, settle, IsRefusal}
use Rattle.seq_state.specs.Changes.{client_after}
use Rattle.seq_state.specs.Circle.{only, is_inner, inner_node, IsClosedFrom}
use Rattle.seq_state.proofs.Lists.{both_left, both_right, and_both}
use Rattle.seq_state.proofs.Effects.{get-put}
use Rattle.seq_state.proofs.Ends.{get-put_port, get-put_filter, filters-put_port, ports-put_filter, ports-put_queue, filters-put_queue}
use Rattle.seq_state.proofs.Paths.{inner_member}
use Rattle.seq_state.proofs.Changes.{same_number, others_law}
use Rattle.seq_state.proofs.Heard.{agree_law}
use Rattle.seq_circle.specs.Shut.{is_joinable, opens, target_of, joined_client, asked_client, is_met, stays_within, is_whole_circle, lets_none_in, is_shut}
use Rattle.seq_circle.specs.Laws.{ShutLaw, StrangersLaw, ShutMeetLaw}
use Rattle.seq_circle.proofs.Whole.{first_passes, IsKeptOut, closed_from}

-- ---- tests

second_fails : (x y : Bool) → (x && y) ≡ false → x ≡ true → y ≡ false
second_fails x y h k = grind arith

-- ---- nodes that no stranger may join

abbrev joinable_at : Option Caps → Bool
joinable_at None = false
joinable_at (Some caps) = is_joinable caps.0

module _ (owner : ℕ) (member : ℕ → Bool) (actor : ℕ) where
  -- no node inside of this client is joinable
  abbrev NoneJoinable : Option Client → Type 0
  NoneJoinable client = (n : Node) → inner_node owner member actor n ≡ true → joinable_at (node_caps client n) ≡ false

  of_none : NoneJoinable None
  of_none (Port n) h = ap (λ x. joinable_at (port_caps x)) (FinMap.get-empty nat_cmp n)
  of_none (Filter n) h = ap (λ x. joinable_at (filter_caps x)) (FinMap.get-empty nat_cmp n)

  of_port : (client : Option Client) (m : ℕ) (o : Option PortInfo) → (eqb actor owner ≡ true → joinable_at (port_caps o) ≡ false) → NoneJoinable client → NoneJoinable (with_change client (put_port m o))
  of_port None m o k s n h = s n h
  of_port (Some c) m o k s (Port n) h = subst (λ x. joinable_at (port_caps x) ≡ false) (sym (get-put_port m o c n)) (go (eqb n m))
    where
      go : (b : Bool) → joinable_at (port_caps (cond b o (FinMap.get c.ports n))) ≡ false
      go true = k h
      go false = s (Port n) h
  of_port (Some c) m o k s (Filter n) h = subst (λ x. joinable_at (filter_caps (FinMap.get x n)) ≡ false) (sym (filters-put_port m o c)) (s (Filter n) h)

  of_filter : (client : Option Client) (m : ℕ) (o : Option FilterInfo) → (member actor ≡ true → joinable_at (filter_caps o) ≡ false) → NoneJoinable client → NoneJoinable (with_change client (put_filter m o))
  of_filter None m o k s n h = s n h
  of_filter (Some c) m o k s (Filter n) h = subst (λ x. joinable_at (filter_caps x) ≡ false) (sym (get-put_filter m o c n)) (go (eqb n m))
    where
      go : (b : Bool) → joinable_at (filter_caps (cond b o (FinMap.get c.filters n))) ≡ false
      go true = k h
      go false = s (Filter n) h
  of_filter (Some c) m o k s (Port n) h = subst (λ x. joinable_at (port_caps (FinMap.get x n)) ≡ false) (sym (ports-put_filter m o c)) (s (Port n) h)

  of_queue : (client : Option Client) (m : ℕ) (o : Option Queue) → NoneJoinable client → NoneJoinable (with_change client (put_queue m o))
  of_queue None m o s n h = s n h
  of_queue (Some c) m o s (Port n) h = subst (λ x. joinable_at (port_caps (FinMap.get x n)) ≡ false) (sym (ports-put_queue m o c)) (s (Port n) h)
  of_queue (Some c) m o s (Filter n) h = subst (λ x. joinable_at (filter_caps (FinMap.get x n)) ≡ false) (sym (filters-put_queue m o c)) (s (Filter n) h)

fed_alike : (bytes : List ℕ) (o : Option PortInfo) → port_caps (port_fed bytes o) ≡ port_caps o
fed_alike bytes None = refl
fed_alike bytes (Some p) = refl

ruled_alike : (rule : RuleArgs) (o : Option FilterInfo) → filter_caps (filter_ruled rule o) ≡ filter_caps o
ruled_alike rule None = refl
ruled_alike rule (Some f) = refl

-- what the actor has after a command that opens nothing
row_none : (owner : ℕ) (member : ℕ → Bool) (a : CommandView) (command : Command) → opens owner a.actor command ≡ false → NoneJoinable owner member a.actor a.client → NoneJoinable owner member a.actor (command_row a command).effect.client
unfolding command_row
row_none owner member a (Open name in_size out_size) o s = of_none owner member a.actor
row_none owner member a Close o s = of_none owner member a.actor
row_none owner member a (CreatePort port name caps) o s = of_port owner member a.actor a.client port (Some (new_port name caps)) (λ h. second_fails (eqb a.actor owner) (is_joinable caps.0) o h) s
row_none owner member a (DeletePort port) o s = of_port owner member a.actor a.client port None (λ h. refl) s
row_none owner member a (Bytes port bytes) o s =
    of_port owner member a.actor a.client port (port_fed bytes (port_of a.client port)) (λ h. ap joinable_at (fed_alike bytes (port_of a.client port)) ∙ s (Port port) h) s
row_none owner member a (CreateFilter m caps rule) o s = of_filter owner member a.actor a.client m (Some (new_filter caps rule)) (λ h. o) s
row_none owner member a (SetFilter m rule) o s =
    of_filter owner member a.actor a.client m (filter_ruled rule (filter_of a.client m)) (λ h. ap joinable_at (ruled_alike rule (filter_of a.client m)) ∙ s (Filter m) h) s
row_none owner member a (DeleteFilter m) o s = of_filter owner member a.actor a.client m None (λ h. refl) s
row_none owner member a (CreateQueue q ppq tempo) o s = of_queue owner member a.actor a.client q (Some (held_queue (one_tempo ppq tempo))) s
row_none owner member a (CreateQueueFrom q file) o s = of_queue owner member a.actor a.client q (file_queue (file_at a.files file)) s
row_none owner member a (DeleteQueue q) o s = of_queue owner member a.actor a.client q.queue None s
row_none owner member a (Start q) o s = of_queue owner member a.actor a.client q.queue (queue_map (with_clock (λ c. running_from_zero c a.moment)) (queue_of a.client q.queue)) s
row_none owner member a (Stop q) o s = of_queue owner member a.actor a.client q.queue (queue_map (with_clock (λ c. at_rest c a.moment)) (queue_of a.client q.queue)) s
row_none owner member a (Continue q) o s = of_queue owner member a.actor a.client q.queue (queue_map (with_clock (λ c. running_on c a.moment)) (queue_of a.client q.queue)) s
row_none owner member a (Tempo q tempo) o s = of_queue owner member a.actor a.client q.queue (queue_map (with_clock (λ c. with_tempo c a.moment tempo)) (queue_of a.client q.queue)) s
row_none owner member a (Share q) o s = of_queue owner member a.actor a.client q.queue (queue_map public (queue_of a.client q.queue)) s
row_none owner member a command o s = s

-- what the actor has after a step: what its row says, or what it had
actor_after : (files : List PlayedFile) (s : State) (moment actor : ℕ) (command : Command) (P : Option Client → Type 0) → P (FinMap.get s.clients actor) → P (row_of files s moment actor command).effect.client → P (client_after files s moment actor command actor)
actor_after files s moment actor command P before after = go (refusal_of files s moment actor command)
  where
    effect : Effect
    effect = (row_of files s moment actor command).effect

    here : FinMap.get (with_entry s.clients actor effect.client) actor ≡ effect.client
    here = get-put s.clients actor effect.client actor ∙ ap (λ b. cond b effect.client (FinMap.get s.clients actor)) (same_number actor)

    go : (o : Option Refusal) → P (FinMap.get (unless o s (effect_of files s moment actor command)).state.clients actor)
    go None = subst P (sym here) after
    go (Some r) = before

module _ (files : List PlayedFile) (owner : ℕ) (member : ℕ → Bool) (o : member owner ≡ true) where
  -- no member has a node inside that anyone may join
  abbrev AreShut : State → Type 0
  AreShut s = (c : ℕ) → member c ≡ true → NoneJoinable owner member c (FinMap.get s.clients c)

  at_first : AreShut start
  at_first c m = subst (NoneJoinable owner member c) (sym (FinMap.get-empty nat_cmp c)) (of_none owner member c)

  command_shut : (s : State) (moment actor : ℕ) (command : Command) → AreShut s → (member actor ≡ true → opens owner actor command ≡ false) → AreShut (command_step files s moment actor command).state
  command_shut s moment actor command sh k c m = go (eqb c actor) refl
    where
      go : (b : Bool) → eqb c actor ≡ b → NoneJoinable owner member c (client_after files s moment actor command c)
      go true e =
          let here : c ≡ actor = eqb-true c actor e in
          let mine : member actor ≡ true = subst (λ x. member x ≡ true) here m in
          subst (λ x. NoneJoinable owner member x (client_after files s moment actor command x)) (sym here)
          (actor_after files s moment actor command (NoneJoinable owner member actor) (sh actor mine) (row_none owner member (view_of files s moment actor command) command (k mine) (sh actor mine)))
      go false e = subst (NoneJoinable owner member c) (sym (others_law.clients files s moment actor command c e)) (sh c m)

  -- ---- what strangers are told

  not_permitted_there : (actor : ℕ) (source target : Addr) (r w : Option Caps) → eqb actor target.client ≡ false → joinable_at w ≡ false → is_permitted actor source r target w ≡ false
  not_permitted_there actor source target None w e j = refl
  not_permitted_there actor source target (Some r) None e j = refl
  not_permitted_there actor source target (Some r) (Some w) e j =
      refuses (can read_bit r.0) (eqb actor source.client) (can subs_read_bit r.0) (can write_bit w.0) (eqb actor target.client) (can subs_write_bit w.0) (can no_export_bit r.0 || can no_export_bit w.0) e j
    where
      refuses : (a b c d x y z : Bool) → x ≡ false → (d && y) ≡ false → (a && (b || c) && d && (x || y) && (b || x || not z)) ≡ false
      refuses a b c d x y z h k = grind arith

  fourth_holds : (a b c : Condition) (n : Refusal) (x : Bool) (rest : List Condition) → x ≡ false → is_some (first_refusal (a ∷ b ∷ c ∷ (n, not x) ∷ rest)) ≡ true
  fourth_holds a b c n x rest h = go a.1 b.1 c.1 x h
    where
      go : (p q r x : Bool) → x ≡ false → is_some (cond p (Some a.0) (cond q (Some b.0) (cond r (Some c.0) (cond (not x) (Some n) (first_refusal rest))))) ≡ true
      go true q r x h = refl
      go false true r x h = refl
      go false false true x h = refl
      go false false false true h = absurd (false≢true (sym h))
      go false false false false h = refl

  unless_refused : (r : Option Refusal) (s : State) (effect : Stepped) → is_some r ≡ true → IsRefusal (unless r s effect).reply
  unless_refused None s effect h = absurd (false≢true h)
  unless_refused (Some r) s effect h = tt

  -- a stranger who joins or parts at a target inside is refused
  stranger_refused : (s : State) (moment actor : ℕ) (source target : Addr) → AreShut s → member actor ≡ false → is_inner owner member target ≡ true →
      is_permitted actor source (caps_at s source) target (caps_at s target) ≡ false
  stranger_refused s moment actor source target sh m i =
      let inside : member target.client ≡ true = inner_member owner member o target i in
      not_permitted_there actor source target (caps_at s source) (caps_at s target) (ne_eqb actor target.client (λ e. false≢true (sym m ∙ ap member e ∙ inside))) (sh target.client inside target.node i)

  connect_refused : (s : State) (moment actor : ℕ) (source target : Addr) → AreShut s → member actor ≡ false → is_inner owner member target ≡ true → IsRefusal (command_step files s moment actor (Connect source target)).reply
  unfolding command_row
  connect_refused s moment actor source target sh m i =
      let a : CommandView = view_of files s moment actor (Connect source target) in
      unless_refused (refusal_of files s moment actor (Connect source target)) s (effect_of files s moment actor (Connect source target))
      (fourth_holds (not_open a) (no_sender a source) (no_dest a target) refusal.NotPermitted (is_permitted actor source (caps_at s source) target (caps_at s target))
      (already_connected a source target ∷ sources_full a target ∷ cycle a source target ∷ []) (stranger_refused s moment actor source target sh m i))

  disconnect_refused : (s : State) (moment actor : ℕ) (source target : Addr) → AreShut s → member actor ≡ false → is_inner owner member target ≡ true → IsRefusal (command_step files s moment actor (Disconnect source target)).reply
  unfolding command_row
  disconnect_refused s moment actor source target sh m i =
      let a : CommandView = view_of files s moment actor (Disconnect source target) in
      unless_refused (refusal_of files s moment actor (Disconnect source target)) s (effect_of files s moment actor (Disconnect source target))
      (fourth_holds (not_open a) (no_sender a source) (no_dest a target) refusal.NotPermitted (is_permitted actor source (caps_at s source) target (caps_at s target))
      (not_connected a source target ∷ []) (stranger_refused s moment actor source target sh m i))

  kept_out : (s : State) (moment actor : ℕ) (command : Command) → AreShut s → IsKeptOut owner member actor (command_step files s moment actor command).reply (target_of command)
  kept_out s moment actor (Connect source target) sh = connect_refused s moment actor source target sh
  kept_out s moment actor (Disconnect source target) sh = disconnect_refused s moment actor source target sh
  kept_out s moment actor command sh = tt

  -- ---- all inputs

  -- no member has a node inside that anyone may join, or makes one
  abbrev StayShut : State → List Input → Type 0
  StayShut s inputs = AreShut s × (lets_none_in owner member inputs ≡ true)

  stay_shut : (s : State) (i : Input) (inputs : List Input) → StayShut s (i ∷ inputs) → StayShut (step files s i).state inputs
  stay_shut s i inputs h =
      let f = first_passes member (λ j. not (opens owner j.actor j.command)) i inputs h.1 in
      (command_shut (settle s i.moment).state i.moment i.actor i.command h.0 (λ m. not-true (opens owner i.actor i.command) (f.0 m)), f.1)

  shut_from : (inputs : List Input) (s : State) → AreShut s → list_all (stays_within owner member) (only member inputs) ≡ true → lets_none_in owner member inputs ≡ true → IsClosedFrom files owner member s inputs
  shut_from inputs s sh w n =
      closed_from owner member files StayShut (λ s i inputs h. kept_out (settle s i.moment).state i.moment i.actor i.command h.0) stay_shut inputs s (sh, n) w

-- a circle that is shut in one list is shut in each where its members say the same
same_shut : (owner : ℕ) (member : ℕ → Bool) (mine inputs : List Input) → only member inputs ≡ only member mine → is_shut owner member mine ≡ true → is_shut owner member inputs ≡ true
same_shut owner member mine inputs e h =
    ap (λ is. (member owner && list_all (stays_within owner member) is) && list_all (λ i. not (opens owner i.actor i.command)) is) e ∙ h

pub shut_law : ShutLaw
shut_law files owner member mine inputs h e =
    let k : is_shut owner member inputs ≡ true = same_shut owner member mine inputs e h in
    let whole : is_whole_circle owner member inputs ≡ true = both_left (is_whole_circle owner member inputs) (lets_none_in owner member inputs) k in
    let o : member owner ≡ true = both_left (member owner) (list_all (stays_within owner member) (only member inputs)) whole in (
      o,
      shut_from files owner member o inputs start (at_first files owner member o) (both_right (member owner) (list_all (stays_within owner member) (only member inputs)) whole)
          (both_right (is_whole_circle owner member inputs) (lets_none_in owner member inputs) k),
    )

pub strangers_law : StrangersLaw
strangers_law files owner member inputs others end timed timed' h e =
    agree_law files owner member others inputs end timed' timed (shut_law files owner member inputs others h e) (shut_law files owner member inputs inputs h refl) e

-- ---- two shut circles

module _ (owner : ℕ) (member other : ℕ → Bool) where
  abbrev both : ℕ → Bool
  both c = member c && other c

  inner_both : (a : Addr) → is_inner owner both a ≡ true → (is_inner owner member a ≡ true) × (is_inner owner other a ≡ true)
  inner_both a h = go a.node h
    where
      go : (n : Node) → inner_node owner both a.client n ≡ true → (inner_node owner member a.client n ≡ true) × (inner_node owner other a.client n ≡ true)
      go (Port n) h = (h, h)
      go (Filter n) h = (both_left (member a.client) (other a.client) h, both_right (member a.client) (other a.client) h)

  joined_both : (source target : Addr) → is_met member (joined_client owner member source target) ≡ true → is_met other (joined_client owner other source target) ≡ true → is_met both (joined_client owner both source target) ≡ true
  joined_both source target h k = go (is_inner owner both target) refl
    where
      asked : (m : ℕ → Bool) (b : Bool) → b ≡ true → is_met m (cond b (Some source.client) None) ≡ true → m source.client ≡ true
      asked m true e x = x
      asked m false e x = absurd (false≢true e)

      go : (b : Bool) → is_inner owner both target ≡ b → is_met both (cond b (Some source.client) None) ≡ true
      go true e =
          let i = inner_both target e in
          and_both (member source.client) (other source.client) (asked member (is_inner owner member target) i.0 h) (asked other (is_inner owner other target) i.1 k)
      go false e = refl

  asked_both : (command : Command) → is_met member (asked_client owner member command) ≡ true → is_met other (asked_client owner other command) ≡ true → is_met both (asked_client owner both command) ≡ true
  asked_both (Connect source target) h k = joined_both source target h k
  asked_both (Disconnect source target) h k = joined_both source target h k
  asked_both (DeleteQueue q) h k = and_both (member q.client) (other q.client) h k
  asked_both (Start q) h k = and_both (member q.client) (other q.client) h k
  asked_both (Stop q) h k = and_both (member q.client) (other q.client) h k
  asked_both (Continue q) h k = and_both (member q.client) (other q.client) h k
  asked_both (Tempo q tempo) h k = and_both (member q.client) (other q.client) h k
  asked_both (QueueStatus q) h k = and_both (member q.client) (other q.client) h k
  asked_both (Share q) h k = and_both (member q.client) (other q.client) h k
  asked_both (Schedule q port due message) h k = and_both (member q.client) (other q.client) h k
  asked_both (Play q port file) h k = and_both (member q.client) (other q.client) h k
  asked_both command h k = refl

-- a test of what both circles say, where each passes it in its effect
all_both : (p q r : Input → Bool) (member other : ℕ → Bool) → ((i : Input) → p i ≡ true → q i ≡ true → r i ≡ true) → (inputs : List Input) →
    list_all p (only member inputs) ≡ true → list_all q (only other inputs) ≡ true → list_all r (only (λ c. member c && other c) inputs) ≡ true
all_both p q r member other f [] h k = refl
all_both p q r member other f (i ∷ inputs) h k = go (member i.actor) (other i.actor) h k (all_both p q r member other f inputs)
  where
    go : (a b : Bool) → list_all p (cond a (i ∷ only member inputs) (only member inputs)) ≡ true → list_all q (cond b (i ∷ only other inputs) (only other inputs)) ≡ true →
        (list_all p (only member inputs) ≡ true → list_all q (only other inputs) ≡ true → list_all r (only (λ c. member c && other c) inputs) ≡ true) →
        list_all r (cond (a && b) (i ∷ only (λ c. member c && other c) inputs) (only (λ c. member c && other c) inputs)) ≡ true
    go true true x y more =
        let ps : Bool = list_all p (only member inputs) in
        let qs : Bool = list_all q (only other inputs) in
        and_both (r i) (list_all r (only (λ c. member c && other c) inputs)) (f i (both_left (p i) ps x) (both_left (q i) qs y)) (more (both_right (p i) ps x) (both_right (q i) qs y))
    go true false x y more = more (both_right (p i) (list_all p (only member inputs)) x) y
    go false true x y more = more x (both_right (q i) (list_all q (only other inputs)) y)
    go false false x y more = more x y

pub shut_meet_law : ShutMeetLaw
shut_meet_law owner member other inputs h k =
    let w : (m : ℕ → Bool) → is_shut owner m inputs ≡ true → is_whole_circle owner m inputs ≡ true = λ m x. both_left (is_whole_circle owner m inputs) (lets_none_in owner m inputs) x in
    let n : (m : ℕ → Bool) → is_shut owner m inputs ≡ true → lets_none_in owner m inputs ≡ true = λ m x. both_right (is_whole_circle owner m inputs) (lets_none_in owner m inputs) x in
    let o : (m : ℕ → Bool) → is_shut owner m inputs ≡ true → m owner ≡ true = λ m x. both_left (m owner) (list_all (stays_within owner m) (only m inputs)) (w m x) in
    let s : (m : ℕ → Bool) → is_shut owner m inputs ≡ true → list_all (stays_within owner m) (only m inputs) ≡ true = λ m x. both_right (m owner) (list_all (stays_within owner m) (only m inputs)) (w m x) in
    let b : ℕ → Bool = λ c. member c && other c in
    let makes : Input → Bool = λ i. not (opens owner i.actor i.command) in
    and_both (is_whole_circle owner b inputs) (lets_none_in owner b inputs)
    (and_both (b owner) (list_all (stays_within owner b) (only b inputs)) (and_both (member owner) (other owner) (o member h) (o other k))
    (all_both (stays_within owner member) (stays_within owner other) (stays_within owner b) member other (λ i x y. asked_both owner member other i.command x y) inputs (s member h) (s other k)))
    (all_both makes makes makes member other (λ i x y. x) inputs (n member h) (n other k))
