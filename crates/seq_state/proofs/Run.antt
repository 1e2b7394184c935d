-- Whole runs.
use Rattle.std.proofs.Common.{Option, Some, None, ◌≡◌, ℕ, ◌+◌, ◌≤◌, Bool, true, false, cond, eqb, ◌&&◌, List, [], ◌∷◌, ◌++◌, map, drop, refl, sym, ap, ◌∙◌, arith, append-nil, append_assoc}
use Rattle.std.specs.List.{filter, flat_map}
use Rattle.std.proofs.lemmas.Bool.Decides.{nat_tests}
use Rattle.node_table.specs.declared.number.Addr.{Addr}
use Rattle.node_table.specs.declared.number.Node.{Node}
use Rattle.seq_state.specs.declared.input.Input.{Input}
use Rattle.seq_state.specs.declared.input.Command.{Command}
use Rattle.node_table.specs.declared.number.QueueAddr.{QueueAddr}
use Rattle.seq_state.specs.declared.log.Delivery.{Delivery}
use Rattle.seq_state.specs.declared.log.LogEntry.{LogEntry}
use Rattle.seq_state.specs.declared.log.Reply.{Reply}
use Rattle.node_table.specs.declared.number.Node.TheVariants.{Port, Filter}
use Rattle.seq_state.specs.declared.input.Command.TheVariants.{Connect, Disconnect}
use Rattle.seq_state.specs.declared.log.LogEntry.TheVariants.{Delivered, Replied}
use Rattle.smf_grammar.specs.Played.{PlayedFile}
use Rattle.seq_state.specs.State.{State, start}
use Rattle.seq_state.specs.Table.{queue_named}
use Rattle.seq_state.specs.Step.{IsTimedFrom, Stepped, command_step, step, settle, log_from, Settled, state_after, IsRefusal}
use Rattle.seq_state.specs.Circle.{only, Sight, Came, is_to, sight, view, sight_of_reply, IsClosedAt, NamesWithin, aims_outside, Outside, Told, IsClosedFrom, IsolationLaw, is_inner, inner_node, JoinsWithin}
use Rattle.seq_state.specs.Laws.{view_step, OneInputLaw, PathLaw, MeetLaw}
use Rattle.seq_state.proofs.Lists.{both_left, both_right, and_both, filter-append, flat_map-append, slice_get-drop, drop-next}
use Rattle.seq_state.proofs.Settling.{settling_law}
use Rattle.seq_state.proofs.Paths.{heard, owner_paths}
use Rattle.seq_state.proofs.Kin.{Kin, kin_same, kin_trans, kin_settle, within_settle, heard_settle, Within, told, Aside, command_alike, command_aside}

map-append : {X Y : Type 0} (f : X → Y) (xs ys : List X) → map f (xs ++ ys) ≡ map f xs ++ map f ys
map-append f [] ys = refl
map-append f (x ∷ xs) ys = ap (λ zs. f x ∷ zs) (map-append f xs ys)

-- ---- well-timed lists

timed_before : (m n : ℕ) (inputs : List Input) (end : ℕ) → m ≤ n → IsTimedFrom n inputs end → IsTimedFrom m inputs end
timed_before m n [] end l h = omega arith
timed_before m n (i ∷ inputs) end l h = let k : n ≤ i.moment = h.0 in (omega arith, h.1)

timed_only : (member : ℕ → Bool) (now : ℕ) (inputs : List Input) (end : ℕ) → IsTimedFrom now inputs end → IsTimedFrom now (only member inputs) end
timed_only member now [] end h = h
timed_only member now (i ∷ inputs) end h = go (member i.actor) (timed_only member i.moment inputs end h.1)
  where
    go : (b : Bool) → IsTimedFrom i.moment (only member inputs) end → IsTimedFrom now (cond b (i ∷ only member inputs) (only member inputs)) end
    go true k = (h.0, k)
    go false k = timed_before now i.moment (only member inputs) end h.0 k

module _ (files : List PlayedFile) (owner : ℕ) (member : ℕ → Bool) where
  came : List Delivery → List Sight
  came ds = map Came (heard owner ds)

  came-append : (xs ys : List Delivery) → came (xs ++ ys) ≡ came xs ++ came ys
  unfolding came heard
  came-append xs ys = ap (map Came) (filter-append (is_to owner) xs ys) ∙ map-append Came (filter (is_to owner) xs) (filter (is_to owner) ys)

  same_came : (a b : List Delivery) → heard owner a ≡ heard owner b → came a ≡ came b
  unfolding came
  same_came a b e = ap (map Came) e

  no_came : (a : List Delivery) → heard owner a ≡ [] → came a ≡ []
  unfolding came
  no_came a e = ap (map Came) e

  abbrev command_of : Input → State → Stepped
  command_of i s = command_step files s i.moment i.actor i.command

  abbrev tells : Input → Reply → List Sight
  tells i reply = told owner member i.moment i.actor i.command reply

  -- what the owner sees, step by step
  sights : State → List Input → ℕ → List Sight
  sights s [] end = came (settle s end).delivered
  sights s (i ∷ inputs) end =
      came (step files s i).delivered ++ (tells i (step files s i).reply ++ sights (step files s i).state inputs end)

  -- ---- the log gives them

  view_delivered : (all : List Input) (ds : List Delivery) → flat_map (sight owner member all) (map Delivered ds) ≡ came ds
  unfolding came heard
  view_delivered all [] = refl
  view_delivered all (d ∷ ds) = go (is_to owner d) ∙ ap (λ xs. map Came (cond (is_to owner d) (d ∷ []) []) ++ xs) (view_delivered all ds) ∙ back (is_to owner d)
    where
      go : (b : Bool) → cond b (Came d ∷ []) [] ++ flat_map (sight owner member all) (map Delivered ds) ≡ map Came (cond b (d ∷ []) []) ++ flat_map (sight owner member all) (map Delivered ds)
      go true = refl
      go false = refl

      back : (b : Bool) → map Came (cond b (d ∷ []) []) ++ map Came (filter (is_to owner) ds) ≡ map Came (cond b (d ∷ filter (is_to owner) ds) (filter (is_to owner) ds))
      back true = refl
      back false = refl

  view_sights : (all inputs : List Input) (s : State) (place end : ℕ) → drop place all ≡ inputs → view owner member all (log_from files s place inputs end) ≡ sights s inputs end
  unfolding sights
  view_sights all [] s place end e = view_delivered all (settle s end).delivered
  view_sights all (i ∷ inputs) s place end e =
      let f : LogEntry → List Sight = sight owner member all in
      let r : Reply = (step files s i).reply in
      let ds : List Delivery = (step files s i).delivered in
      let rest : List LogEntry = log_from files (step files s i).state (place + 1) inputs end in
      let reply : f (Replied place i.moment i.actor r) ≡ tells i r =
      ap (λ x. cond (eqb i.actor owner) (sight_of_reply owner member i.moment r x ∷ []) []) (slice_get-drop all inputs place i e) in
      flat_map-append f (map Delivered ds) (Replied place i.moment i.actor r ∷ rest)
      ∙ ap (λ xs. xs ++ (f (Replied place i.moment i.actor r) ++ flat_map f rest)) (view_delivered all ds)
      ∙ ap (λ xs. came ds ++ (xs ++ flat_map f rest)) reply
      ∙ ap (λ xs. came ds ++ (tells i r ++ xs)) (view_sights all inputs (step files s i).state (place + 1) end (drop-next all inputs place i e))

  -- ---- settling before a run

  settle_first : (inputs : List Input) (t : State) (m end : ℕ) → IsTimedFrom m inputs end → came (settle t m).delivered ++ sights (settle t m).state inputs end ≡ sights t inputs end
  unfolding sights
  settle_first [] t m end h =
      sym (came-append (settle t m).delivered (settle (settle t m).state end).delivered) ∙ ap came (settling_law t m end h).1
  settle_first (i ∷ inputs) t m end h =
      let law = settling_law t m i.moment h.0 in
      let first : List Delivery = (settle t m).delivered in
      let u : Settled = settle (settle t m).state i.moment in
      let after : State → List Sight = λ s. tells i (command_of i s).reply ++ sights (command_of i s).state inputs end in
      sym (append_assoc (came first) (came (u.delivered ++ (command_of i u.state).delivered)) (after u.state))
      ∙ ap (λ xs. xs ++ after u.state)
      (sym (came-append first (u.delivered ++ (command_of i u.state).delivered)) ∙ ap came (sym (append_assoc first u.delivered (command_of i u.state).delivered)))
      ∙ ap (λ ds. came (ds ++ (command_of i u.state).delivered) ++ after u.state) law.1
      ∙ ap (λ s. came ((settle t i.moment).delivered ++ (command_of i s).delivered) ++ after s) law.0

  -- ---- one more input in front

  both_came : (a b c d : List Delivery) → heard owner a ≡ heard owner b → heard owner c ≡ heard owner d → came (a ++ c) ≡ came (b ++ d)
  both_came a b c d e f = came-append a c ∙ ap (λ xs. xs ++ came c) (same_came a b e) ∙ ap (λ xs. came b ++ xs) (same_came c d f) ∙ sym (came-append b d)

  one_came : (a b c : List Delivery) → heard owner a ≡ heard owner b → heard owner c ≡ [] → came (a ++ c) ≡ came b
  one_came a b c e f = came-append a c ∙ ap (λ xs. xs ++ came c) (same_came a b e) ∙ ap (λ xs. came b ++ xs) (no_came c f) ∙ append-nil (came b)

  within_step : member owner ≡ true → (i : Input) (s : State) → Within owner member s → IsClosedAt owner member i.actor i.command (step files s i).reply → NamesWithin member i.actor (queue_named i.command) → (b : Bool) → member i.actor ≡ b → Within owner member (step files s i).state
  within_step o i s w c n true m = (command_alike owner member o files (settle s i.moment).state (settle s i.moment).state (kin_same owner member (settle s i.moment).state) (within_settle owner member s w i.moment) i.moment i.actor i.command m c n).0.within
  within_step o i s w c n false m = (command_aside owner member o files (settle s i.moment).state (within_settle owner member s w i.moment) i.moment i.actor i.command m c).within

  -- a member's input keeps kin states kin, and its owner sees the same
  member_case : member owner ≡ true → (i : Input) (s t : State) → Kin owner member s t → Within owner member s → member i.actor ≡ true → IsClosedAt owner member i.actor i.command (step files s i).reply → NamesWithin member i.actor (queue_named i.command) →
      Kin owner member (step files s i).state (step files t i).state × (came (step files s i).delivered ++ tells i (step files s i).reply ≡ came (step files t i).delivered ++ tells i (step files t i).reply)
  member_case o i s t k w m c n =
      let u : Settled = settle s i.moment in
      let v : Settled = settle t i.moment in
      let a = command_alike owner member o files u.state v.state (kin_settle owner member s t k w i.moment) (within_settle owner member s w i.moment) i.moment i.actor i.command m c n in (
        a.0.kin,
        ap (λ xs. xs ++ tells i (step files s i).reply) (both_came u.delivered v.delivered (command_of i u.state).delivered (command_of i v.state).delivered (heard_settle owner member s t k w i.moment) a.0.heard)
            ∙ ap (λ xs. came (step files t i).delivered ++ xs) a.1,
      )

  quiet : member owner ≡ true → (i : Input) (r : Reply) → member i.actor ≡ false → tells i r ≡ []
  quiet o i r m = let e : eqb i.actor owner ≡ false = grind (arith, nat_tests) in ap (λ b. cond b (cond (aims_outside owner member i.command) (Outside i.moment) (Told i.moment r) ∷ []) []) e

  -- a stranger's input is no more than settling
  stranger_case : member owner ≡ true → (i : Input) (s t : State) → Kin owner member s t → Within owner member s → member i.actor ≡ false → IsClosedAt owner member i.actor i.command (step files s i).reply → NamesWithin member i.actor (queue_named i.command) →
      Kin owner member (step files s i).state (settle t i.moment).state × (came (step files s i).delivered ++ tells i (step files s i).reply ≡ came (settle t i.moment).delivered)
  stranger_case o i s t k w m c n =
      let u : Settled = settle s i.moment in
      let v : Settled = settle t i.moment in
      let a : Aside owner member (command_of i u.state) u.state = command_aside owner member o files u.state (within_settle owner member s w i.moment) i.moment i.actor i.command m c in (
        kin_trans owner member (step files s i).state u.state v.state a.kin (kin_settle owner member s t k w i.moment),
        ap (λ xs. xs ++ tells i (step files s i).reply) (one_came u.delivered v.delivered (command_of i u.state).delivered (heard_settle owner member s t k w i.moment) a.heard)
            ∙ ap (λ xs. came v.delivered ++ xs) (quiet o i (step files s i).reply m)
            ∙ append-nil (came v.delivered),
      )

  law_step : member owner ≡ true → (i : Input) (inputs : List Input) (now end : ℕ) (s t : State) → Kin owner member s t → Within owner member s → IsTimedFrom now (i ∷ inputs) end → IsClosedFrom files owner member s (i ∷ inputs) →
      ((s' t' : State) → Kin owner member s' t' → Within owner member s' → IsClosedFrom files owner member s' inputs → sights s' inputs end ≡ sights t' (only member inputs) end) →
      (b : Bool) → member i.actor ≡ b → sights s (i ∷ inputs) end ≡ sights t (cond b (i ∷ only member inputs) (only member inputs)) end
  unfolding sights
  law_step o i inputs now end s t k w h c later true m =
      let a = member_case o i s t k w m c.0 c.1 in
      let rest : List Sight = sights (step files s i).state inputs end in
      sym (append_assoc (came (step files s i).delivered) (tells i (step files s i).reply) rest)
      ∙ ap (λ xs. xs ++ rest) a.1
      ∙ append_assoc (came (step files t i).delivered) (tells i (step files t i).reply) rest
      ∙ ap (λ xs. came (step files t i).delivered ++ (tells i (step files t i).reply ++ xs)) (later (step files s i).state (step files t i).state a.0 (within_step o i s w c.0 c.1 true m) c.2)
  law_step o i inputs now end s t k w h c later false m =
      let a = stranger_case o i s t k w m c.0 c.1 in
      let rest : List Sight = sights (step files s i).state inputs end in
      sym (append_assoc (came (step files s i).delivered) (tells i (step files s i).reply) rest)
      ∙ ap (λ xs. xs ++ rest) a.1
      ∙ ap (λ xs. came (settle t i.moment).delivered ++ xs) (later (step files s i).state (settle t i.moment).state a.0 (within_step o i s w c.0 c.1 false m) c.2)
      ∙ settle_first (only member inputs) t i.moment end (timed_only member i.moment inputs end h.1)

  law_from : member owner ≡ true → (inputs : List Input) (now end : ℕ) (s t : State) → Kin owner member s t → Within owner member s → IsTimedFrom now inputs end → IsClosedFrom files owner member s inputs → sights s inputs end ≡ sights t (only member inputs) end
  unfolding sights came
  law_from o [] now end s t k w h c = ap (map Came) (heard_settle owner member s t k w end)
  law_from o (i ∷ inputs) now end s t k w h c =
      law_step o i inputs now end s t k w h c (λ s' t' k' w' c'. law_from o inputs i.moment end s' t' k' w' h.1 c') (member i.actor) refl

  -- ---- a closed circle's edges come from members at each state

  pub within_after : member owner ≡ true → (inputs : List Input) (s : State) → Within owner member s → IsClosedFrom files owner member s inputs → Within owner member (state_after files s inputs)
  within_after o [] s w c = w
  within_after o (i ∷ inputs) s w c = within_after o inputs (step files s i).state (within_step o i s w c.0 c.1 (member i.actor) refl) c.2

  -- ---- one input

  closed_before : (before after : List Input) (s : State) → IsClosedFrom files owner member s (before ++ after) → IsClosedFrom files owner member s before × IsClosedFrom files owner member (state_after files s before) after
  closed_before [] after s c = (tt, c)
  closed_before (i ∷ before) after s c = let r = closed_before before after (step files s i).state c.2 in ((c.0, c.1, r.0), r.1)

  view_one : (i : Input) (a : Stepped) → view_step owner member i a ≡ came a.delivered ++ tells i a.reply
  view_one i a =
      let f : LogEntry → List Sight = sight owner member (i ∷ []) in
      flat_map-append f (map Delivered a.delivered) (Replied 0 i.moment i.actor a.reply ∷ [])
      ∙ ap (λ xs. xs ++ (tells i a.reply ++ [])) (view_delivered (i ∷ []) a.delivered)
      ∙ ap (λ xs. came a.delivered ++ xs) (append-nil (tells i a.reply))

pub one_input_law : OneInputLaw
one_input_law files owner member before after i t closed k =
    let s : State = state_after files start before in
    let split = closed_before files owner member before (i ∷ after) start closed.1 in
    let c : IsClosedAt owner member i.actor i.command (step files s i).reply = (split.1).0 in
    let w : Within owner member s = within_after files owner member closed.0 before start (record { edges = refl; playbacks = refl }) split.0 in (
      λ m.
          let a = member_case files owner member closed.0 i s t k w m c (split.1).1 in
          (a.0, view_one files owner member i (step files s i) ∙ a.1 ∙ sym (view_one files owner member i (step files t i))),
      λ m.
          let a = stranger_case files owner member closed.0 i s t k w m c (split.1).1 in
          (a.0, view_one files owner member i (step files s i) ∙ a.1 ∙ sym (view_delivered files owner member [] (settle t i.moment).delivered)),
    )

pub isolation_law : IsolationLaw
isolation_law files owner member inputs end timed closed =
    view_sights files owner member inputs inputs start 0 end refl
    ∙ law_from files owner member closed.0 inputs 0 end start start (kin_same owner member start) (record { edges = refl; playbacks = refl }) timed closed.1
    ∙ sym (view_sights files owner member (only member inputs) (only member inputs) start 0 end refl)

pub path_law : PathLaw
path_law files owner member inputs a closed =
    owner_paths owner member closed.0 (state_after files start inputs).edges a (within_after files owner member closed.0 inputs start (record { edges = refl; playbacks = refl }) closed.1).edges

-- ---- two circles

inner_both : (owner : ℕ) (member other : ℕ → Bool) (a : Addr) → is_inner owner (λ c. member c && other c) a ≡ true → (is_inner owner member a ≡ true) × (is_inner owner other a ≡ true)
inner_both owner member other a h = go a.node h
  where
    go : (n : Node) → inner_node owner (λ c. member c && other c) a.client n ≡ true → (inner_node owner member a.client n ≡ true) × (inner_node owner other a.client n ≡ true)
    go (Port n) h = (h, h)
    go (Filter n) h = (both_left (member a.client) (other a.client) h, both_right (member a.client) (other a.client) h)

one_refuses : (a b : Bool) (reply : Reply) → (a ≡ false → IsRefusal reply) → (b ≡ false → IsRefusal reply) → (a && b) ≡ false → IsRefusal reply
one_refuses true b reply p q m = q m
one_refuses false b reply p q m = p refl

joins_meet : (owner : ℕ) (member other : ℕ → Bool) (actor : ℕ) (source target : Addr) (reply : Reply) → JoinsWithin owner member actor source target reply → JoinsWithin owner other actor source target reply → JoinsWithin owner (λ c. member c && other c) actor source target reply
joins_meet owner member other actor source target reply p q i =
    let h = inner_both owner member other target i in
    let x = p h.0 in
    let y = q h.1 in (
      λ m. and_both (member source.client) (other source.client) (x.0 (both_left (member actor) (other actor) m)) (y.0 (both_right (member actor) (other actor) m)),
      one_refuses (member actor) (other actor) reply x.1 y.1,
    )

closed_meet : (owner : ℕ) (member other : ℕ → Bool) (actor : ℕ) (command : Command) (reply : Reply) → IsClosedAt owner member actor command reply → IsClosedAt owner other actor command reply → IsClosedAt owner (λ c. member c && other c) actor command reply
closed_meet owner member other actor (Connect source target) reply p q = joins_meet owner member other actor source target reply p q
closed_meet owner member other actor (Disconnect source target) reply p q = joins_meet owner member other actor source target reply p q
closed_meet owner member other actor command reply p q = tt

names_meet : (member other : ℕ → Bool) (actor : ℕ) (q : Option QueueAddr) → NamesWithin member actor q → NamesWithin other actor q → NamesWithin (λ c. member c && other c) actor q
names_meet member other actor None p r = tt
names_meet member other actor (Some q) p r = λ m. and_both (member q.client) (other q.client) (p (both_left (member actor) (other actor) m)) (r (both_right (member actor) (other actor) m))

meet_from : (files : List PlayedFile) (owner : ℕ) (member other : ℕ → Bool) (s : State) (inputs : List Input) → IsClosedFrom files owner member s inputs → IsClosedFrom files owner other s inputs → IsClosedFrom files owner (λ c. member c && other c) s inputs
meet_from files owner member other s [] p q = tt
meet_from files owner member other s (i ∷ inputs) p q =
    (closed_meet owner member other i.actor i.command (step files s i).reply p.0 q.0, names_meet member other i.actor (queue_named i.command) p.1 q.1, meet_from files owner member other (step files s i).state inputs p.2 q.2)

pub meet_law : MeetLaw
meet_law files owner member other inputs p q = (and_both (member owner) (other owner) p.0 q.0, meet_from files owner member other start inputs p.1 q.1)
