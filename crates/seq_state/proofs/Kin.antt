-- Two states that are alike within a circle, and that settling and each command keep them so.
use Rattle.std.proofs.Common.{◌≡◌, ℕ, zero, suc, Bool, true, false, not, cond, eqb, ◌&&◌, ◌||◌, List, [], ◌∷◌, ◌++◌, map, length, Option, Some, None, refl, sym, ap, subst, ◌∙◌, arith, append-nil}
use Rattle.std.specs.Prelude.{is_some, nat_le}
use Rattle.std.specs.List.{filter, list_any, list_all, flat_map}
use Rattle.std.specs.Ordering.{nat_cmp}
use Rattle.std.specs.FinMap
use Rattle.std.specs.FinMap.{FinMap}
use Rattle.std.proofs.lemmas.Bool.Decides.{nat_tests}
use Rattle.std.proofs.lemmas.Bool.{false≢true, eqb-true, eq-eqb}
use Rattle.node_table.specs.Addresses.{same, is_filter}
use Rattle.patch_graph.specs.Chains.{makes_cycle, is_joined}
use Rattle.patch_graph.specs.Edges.{edge, is_edge, has_edge, sources_of, most_sources}
use Rattle.node_table.specs.declared.caps.Caps.{Caps}
use Rattle.node_table.specs.declared.number.Addr.{Addr}
use Rattle.node_table.specs.declared.number.Node.{Node}
use Rattle.patch_graph.specs.declared.edge.Edge.{Edge}
use Rattle.seq_state.specs.declared.input.Command.{Command}
use Rattle.node_table.specs.declared.number.QueueAddr.{QueueAddr}
use Rattle.seq_state.specs.declared.log.Delivery.{Delivery}
use Rattle.seq_state.specs.declared.log.Reply.{Reply}
use Rattle.seq_state.specs.declared.input.Command.TheVariants.{Connect, Disconnect}
use Rattle.seq_state.specs.declared.refusal.Refusal.{Refusal}
use Rattle.seq_state.specs.declared.refusal.Refusal.TheVariants as refusal
use Rattle.smf_grammar.specs.Played.{PlayedFile}
use Rattle.seq_state.specs.State.{with_entry, ClientPool, OwnedPlayback, State, Client, DueMessage, Queue, queues_of, Playback}
use Rattle.seq_state.specs.Copies.{copies}
use Rattle.seq_state.specs.Effect.{Effect, node_caps}
use Rattle.seq_state.specs.Table.{Row, first_refusal, visible, queue_named, command_row, is_permitted, with_edge, without_edge_of}
use Rattle.seq_state.specs.Step.{copies_with_room, upto, offer, pool_has_room, pools_after, with_copies, Timed, playback_at, is_at, event_moment, moment_in, playback_after, is_by, due, all_at, event_copies, port_addr, without_due, is_left, settle, loses, drops, pending_of, with_effect, send_copies, Stepped, unless, after_effect, playback_count, caps_at, IsRefusal, named_queue, view_of, row_of, refusal_of, command_step}
use Rattle.seq_state.specs.Circle.{is_to, NamesWithin, Sight, aims_outside, Outside, Told, is_inner, IsClosedAt}
use Rattle.seq_state.specs.Laws.{is_mine, AreKin, into}
use Rattle.seq_state.proofs.Effects.{get-put, none_some, is_patch, same_row, edges_stay, patch_step, step-connects, step-parts}
use Rattle.seq_state.proofs.Lists.{both_right, filter-filter, filter-wider, list_any-wider, filter-under, filter-outside, list_all-filter, list_all-append, list_all-one, not_by, refuted, filter-map, filter-append, filter-flat_map, flat_map-agree, flat_map-filter, map-agree_all, flat_map-agree_all, list_all-always, list_all-map, filter-flat_map_by, filter-constant}
use Rattle.seq_state.proofs.Paths.{from_member, AreWithin, inner_member, heard, same_heard, none_heard, same_inner, inner_filter, are_within, joined_within}

filter-upto : {X : Type 0} (p : X → Bool) (f : ℕ → List X) (m : ℕ) → filter p (upto f m) ≡ upto (λ k. filter p (f k)) m
unfolding upto
filter-upto p f zero = refl
filter-upto p f (suc m) = filter-append p (upto f m) (f (suc m)) ∙ ap (λ xs. xs ++ filter p (f (suc m))) (filter-upto p f m)

pub upto-agree : {X : Type 0} (f g : ℕ → List X) → ((k : ℕ) → f k ≡ g k) → (m : ℕ) → upto f m ≡ upto g m
unfolding upto
upto-agree f g h zero = h zero
upto-agree f g h (suc m) = ap (λ xs. xs ++ f (suc m)) (upto-agree f g h m) ∙ ap (λ xs. upto g m ++ xs) (h (suc m))

-- ---- one client's input

offers : Option ClientPool → List Delivery → Option ClientPool
offers p [] = p
offers p (d ∷ ds) = offers (offer p d) ds

takes : Option ClientPool → List Delivery → List Delivery
takes p [] = []
takes p (d ∷ ds) = cond (pool_has_room d.moment p) (d ∷ takes (offer p d) ds) (takes (offer p d) ds)

abbrev after_one : FinMap nat_cmp ClientPool → Delivery → FinMap nat_cmp ClientPool
after_one pools d = with_entry pools d.target.client (offer (FinMap.get pools d.target.client) d)

-- at one number the two are one
turned : {X : Type 0} (f : ℕ → X) (x : X) (m n : ℕ) → cond (eqb m n) (f n) x ≡ cond (eqb n m) (f m) x
turned f x m n = go (eqb m n) refl
  where
    go : (b : Bool) → eqb m n ≡ b → cond (eqb m n) (f n) x ≡ cond (eqb n m) (f m) x
    go true h = let e : m ≡ n = eqb-true m n h in ap (λ b. cond b (f n) x) (h ∙ sym (eq-eqb n m (sym e))) ∙ ap (λ k. cond (eqb n m) (f k) x) (sym e)
    go false h = let k : eqb n m ≡ false = grind (arith, nat_tests) in ap (λ b. cond b (f n) x) h ∙ sym (ap (λ b. cond b (f m) x) k)

module _ (owner : ℕ) where
  -- the owner's input after one copy
  one_offer : (pools : FinMap nat_cmp ClientPool) (d : Delivery) → FinMap.get (after_one pools d) owner ≡ cond (is_to owner d) (offer (FinMap.get pools owner) d) (FinMap.get pools owner)
  one_offer pools d = get-put pools d.target.client (offer (FinMap.get pools d.target.client) d) owner ∙ turned (λ c. offer (FinMap.get pools c) d) (FinMap.get pools owner) owner d.target.client

  get-offered : (pools : FinMap nat_cmp ClientPool) (ds : List Delivery) → FinMap.get (pools_after pools ds) owner ≡ offers (FinMap.get pools owner) (heard owner ds)
  unfolding offers heard
  get-offered pools [] = refl
  get-offered pools (d ∷ ds) = get-offered (after_one pools d) ds ∙ ap (λ p. offers p (heard owner ds)) (one_offer pools d) ∙ go (is_to owner d)
    where
      go : (b : Bool) → offers (cond b (offer (FinMap.get pools owner) d) (FinMap.get pools owner)) (heard owner ds) ≡ offers (FinMap.get pools owner) (cond b (d ∷ heard owner ds) (heard owner ds))
      go true = refl
      go false = refl

  heard-delivered : (pools : FinMap nat_cmp ClientPool) (ds : List Delivery) → heard owner (copies_with_room pools ds) ≡ takes (FinMap.get pools owner) (heard owner ds)
  unfolding takes heard
  heard-delivered pools [] = refl
  heard-delivered pools (d ∷ ds) = go (pool_has_room d.moment (FinMap.get pools d.target.client)) (is_to owner d) refl refl (heard-delivered (after_one pools d) ds)
    where
      rest : List Delivery
      rest = copies_with_room (after_one pools d) ds

      P : Option ClientPool
      P = FinMap.get pools owner

      go : (r b : Bool) → pool_has_room d.moment (FinMap.get pools d.target.client) ≡ r → is_to owner d ≡ b → heard owner rest ≡ takes (FinMap.get (after_one pools d) owner) (heard owner ds) →
          heard owner (cond r (d ∷ rest) rest) ≡ takes P (cond b (d ∷ heard owner ds) (heard owner ds))
      go r true h k more =
          let here : d.target.client ≡ owner = eqb-true d.target.client owner k in
          let room : r ≡ pool_has_room d.moment P = sym h ∙ ap (λ c. pool_has_room d.moment (FinMap.get pools c)) here in
          let more : heard owner rest ≡ takes (offer P d) (heard owner ds) = more ∙ ap (λ o. takes o (heard owner ds)) (one_offer pools d ∙ ap (λ b. cond b (offer P d) P) k) in
          mine r k ∙ ap (λ xs. cond r (d ∷ xs) xs) more ∙ ap (λ x. cond x (d ∷ takes (offer P d) (heard owner ds)) (takes (offer P d) (heard owner ds))) room
        where
          mine : (r : Bool) → is_to owner d ≡ true → heard owner (cond r (d ∷ rest) rest) ≡ cond r (d ∷ heard owner rest) (heard owner rest)
          mine true k = ap (λ b. cond b (d ∷ heard owner rest) (heard owner rest)) k
          mine false k = refl
      go r false h k more =
          others r k ∙ more ∙ ap (λ o. takes o (heard owner ds)) (one_offer pools d ∙ ap (λ b. cond b (offer P d) P) k)
        where
          others : (r : Bool) → is_to owner d ≡ false → heard owner (cond r (d ∷ rest) rest) ≡ heard owner rest
          others true k = ap (λ b. cond b (d ∷ heard owner rest) (heard owner rest)) k
          others false k = refl

module _ (owner : ℕ) (member : ℕ → Bool) where
  abbrev pub mine : OwnedPlayback → Bool
  mine p = is_mine member p

  abbrev pub Kin : State → State → Type 0
  Kin s t = AreKin owner member s t

  -- a playback on a member's queue
  abbrev pub on_member : OwnedPlayback → Bool
  on_member p = member p.queue.client

  -- edges into the circle come from members, and members' playbacks are on members' queues
  pub record Within (s : State) : Type 0 where
    pub edges : AreWithin owner member s.edges
    pub playbacks : list_all on_member (filter mine s.pending) ≡ true

  pub kin_same : (s : State) → Kin s s
  kin_same s = record { clients = λ c m. refl; pool = refl; edges = refl; pending = refl }

  pub kin_trans : (s t u : State) → Kin s t → Kin t u → Kin s u
  kin_trans s t u k l = record { clients = λ c m. k.clients c m ∙ l.clients c m; pool = k.pool ∙ l.pool; edges = k.edges ∙ l.edges; pending = k.pending ∙ l.pending }

  -- ---- sending

  kin_sent : (s t : State) (ds es : List Delivery) → Kin s t → heard owner ds ≡ heard owner es → Kin (with_copies s ds).state (with_copies t es).state
  kin_sent s t ds es k h = record {
    clients = k.clients;
    pool = get-offered owner s.pools ds ∙ ap (λ p. offers p (heard owner ds)) k.pool ∙ ap (offers (FinMap.get t.pools owner)) h ∙ sym (get-offered owner t.pools es);
    edges = k.edges;
    pending = k.pending;
  }

  heard_sent : (s t : State) (ds es : List Delivery) → Kin s t → heard owner ds ≡ heard owner es → heard owner (with_copies s ds).delivered ≡ heard owner (with_copies t es).delivered
  heard_sent s t ds es k h =
      heard-delivered owner s.pools ds ∙ ap (λ p. takes p (heard owner ds)) k.pool ∙ ap (takes (FinMap.get t.pools owner)) h ∙ sym (heard-delivered owner t.pools es)

  kin_unheard : (s : State) (ds : List Delivery) → heard owner ds ≡ [] → Kin (with_copies s ds).state s
  unfolding offers
  kin_unheard s ds h = record {
    clients = λ c m. refl;
    pool = get-offered owner s.pools ds ∙ ap (offers (FinMap.get s.pools owner)) h;
    edges = refl;
    pending = refl;
  }

  heard_unheard : (s : State) (ds : List Delivery) → heard owner ds ≡ [] → heard owner (with_copies s ds).delivered ≡ []
  unfolding takes
  heard_unheard s ds h = heard-delivered owner s.pools ds ∙ ap (takes (FinMap.get s.pools owner)) h

  -- ---- settling

  timed_mine : Timed → Bool
  timed_mine t = member t.client

  playback_mine : (clients : FinMap nat_cmp Client) (k : ℕ) (p : OwnedPlayback) → filter timed_mine (playback_at clients k p) ≡ cond (mine p) (playback_at clients k p) []
  unfolding timed_mine
  playback_mine clients k p =
      let f : DueMessage → Timed = λ e. record { moment = k; client = p.client; port = p.playback.port; message = e.message } in
      let es : List DueMessage = filter (λ e. is_at k (event_moment clients p e)) p.playback.events in
      filter-map (λ t. member t.client) f es ∙ ap (map f) (filter-constant (mine p) es) ∙ go f es (mine p)
    where
      go : (f : DueMessage → Timed) (es : List DueMessage) (b : Bool) → map f (cond b es []) ≡ cond b (map f es) []
      go f es true = refl
      go f es false = refl

  -- a member's playback is the same in both
  same_playback_at : (s t : State) → Kin s t → (k : ℕ) (p : OwnedPlayback) → on_member p ≡ true → playback_at s.clients k p ≡ playback_at t.clients k p
  same_playback_at s t kin k p m =
      ap (λ o. map (λ e. record { moment = k; client = p.client; port = p.playback.port; message = e.message }) (filter (λ e. is_at k (moment_in (FinMap.get (queues_of o) p.queue.queue) p.playback.accepted e.due)) p.playback.events)) (kin.clients p.queue.client m)

  same_playback_after : (s t : State) → Kin s t → (k : ℕ) (p : OwnedPlayback) → on_member p ≡ true → playback_after s.clients k p ≡ playback_after t.clients k p
  same_playback_after s t kin k p m =
      ap (λ o. record { client = p.client; queue = p.queue; playback = record { port = p.playback.port; accepted = p.playback.accepted; events = filter (λ e. not (is_by k (moment_in (FinMap.get (queues_of o) p.queue.queue) p.playback.accepted e.due))) p.playback.events } }) (kin.clients p.queue.client m)

  same_due : (s t : State) → Kin s t → Within s → (m : ℕ) → filter timed_mine (due s m) ≡ filter timed_mine (due t m)
  same_due s t kin w m =
      filter-upto timed_mine (all_at s.clients s.pending) m
      ∙ upto-agree (λ k. filter timed_mine (all_at s.clients s.pending k)) (λ k. filter timed_mine (all_at t.clients t.pending k)) (λ k.
      filter-flat_map_by mine timed_mine (playback_at s.clients k) (playback_mine s.clients k) s.pending
      ∙ flat_map-agree_all on_member (playback_at s.clients k) (playback_at t.clients k) (same_playback_at s t kin k) (filter mine s.pending) w.playbacks
      ∙ ap (flat_map (playback_at t.clients k)) kin.pending
      ∙ sym (filter-flat_map_by mine timed_mine (playback_at t.clients k) (playback_mine t.clients k) t.pending)) m
      ∙ sym (filter-upto timed_mine (all_at t.clients t.pending) m)

  -- what the owner hears of what is due
  heard_event : State → Timed → List Delivery
  heard_event s t = heard owner (event_copies s t)

  heard_due : (s : State) → Within s → (m : ℕ) → heard owner (flat_map (event_copies s) (due s m)) ≡ flat_map (heard_event s) (filter timed_mine (due s m))
  unfolding heard heard_event timed_mine
  heard_due s w m =
      filter-flat_map (is_to owner) (event_copies s) (due s m)
      ∙ flat_map-filter timed_mine (heard_event s) (heard_event s) (λ t h. refl) (λ t h. none_heard owner member s w.edges t.moment (port_addr t.client t.port) t.message h) (due s m)

  same_heard_due : (s t : State) → Kin s t → Within s → Within t → (m : ℕ) → heard owner (flat_map (event_copies s) (due s m)) ≡ heard owner (flat_map (event_copies t) (due t m))
  unfolding heard_event
  same_heard_due s t kin w v m =
      heard_due s w m
      ∙ flat_map-agree (heard_event s) (heard_event t) (λ e. same_heard owner member s t kin.clients kin.edges w.edges e.moment (port_addr e.client e.port) e.message) (filter timed_mine (due s m))
      ∙ ap (flat_map (heard_event t)) (same_due s t kin w m)
      ∙ sym (heard_due t v m)

  pub within_kin : (s t : State) → Kin s t → Within s → Within t
  within_kin s t kin w = record {
    edges = subst (λ es. list_all (from_member owner member) es ≡ true) kin.edges w.edges;
    playbacks = subst (λ ps. list_all on_member ps ≡ true) kin.pending w.playbacks;
  }

  kin_without_due : (s t : State) → Kin s t → Within s → (m : ℕ) → Kin (without_due s m) (without_due t m)
  kin_without_due s t kin w m = record { clients = kin.clients; pool = kin.pool; edges = kin.edges; pending = left s ∙ ap (filter is_left) same_left ∙ sym (left t) }
    where
      left : (u : State) → filter mine (filter is_left (map (playback_after u.clients m) u.pending)) ≡ filter is_left (map (playback_after u.clients m) (filter mine u.pending))
      left u = filter-filter mine is_left (map (playback_after u.clients m) u.pending) ∙ ap (filter is_left) (filter-map mine (playback_after u.clients m) u.pending)

      same_left : map (playback_after s.clients m) (filter mine s.pending) ≡ map (playback_after t.clients m) (filter mine t.pending)
      same_left = map-agree_all on_member (playback_after s.clients m) (playback_after t.clients m) (same_playback_after s t kin m) (filter mine s.pending) w.playbacks ∙ ap (map (playback_after t.clients m)) kin.pending

  pub kin_settle : (s t : State) → Kin s t → Within s → (m : ℕ) → Kin (settle s m).state (settle t m).state
  kin_settle s t kin w m = kin_sent (without_due s m) (without_due t m) (flat_map (event_copies s) (due s m)) (flat_map (event_copies t) (due t m)) (kin_without_due s t kin w m) (same_heard_due s t kin w (within_kin s t kin w) m)

  pub heard_settle : (s t : State) → Kin s t → Within s → (m : ℕ) → heard owner (settle s m).delivered ≡ heard owner (settle t m).delivered
  heard_settle s t kin w m = heard_sent (without_due s m) (without_due t m) (flat_map (event_copies s) (due s m)) (flat_map (event_copies t) (due t m)) (kin_without_due s t kin w m) (same_heard_due s t kin w (within_kin s t kin w) m)

  pub within_settle : (s : State) → Within s → (m : ℕ) → Within (settle s m).state
  within_settle s w m = record {
    edges = w.edges;
    playbacks =
        subst (λ ps. list_all on_member ps ≡ true)
        (sym (filter-filter mine is_left (map (playback_after s.clients m) s.pending) ∙ ap (filter is_left) (filter-map mine (playback_after s.clients m) s.pending)))
        (list_all-filter on_member is_left (map (playback_after s.clients m) (filter mine s.pending)) (list_all-map on_member on_member (playback_after s.clients m) (λ p h. h) (filter mine s.pending) w.playbacks));
  }

  -- ---- a command on the actor's own

  keeps : ℕ → (Node → Bool) → Edge → Bool
  keeps actor gone e = not (loses actor gone e)

  stays : ℕ → Effect → OwnedPlayback → Bool
  stays actor effect p = not (drops actor effect p)

  got : ℕ → Option QueueAddr → List Playback → List OwnedPlayback
  got actor q added = filter is_left (map (pending_of actor q) added)

  -- its edges stay, but for those that go with a node
  abbrev Stay : Effect → Type 0
  Stay effect = (es : List Edge) → effect.edges es ≡ es

  kin_own : (s t : State) (actor : ℕ) (q : Option QueueAddr) (effect : Effect) → Stay effect → Kin s t → Kin (with_effect s actor q effect) (with_effect t actor q effect)
  unfolding keeps stays got
  kin_own s t actor q effect f k = record {
    clients = λ c m. get-put s.clients actor effect.client c ∙ ap (cond (eqb c actor) effect.client) (k.clients c m) ∙ sym (get-put t.clients actor effect.client c);
    pool = at_owner s ∙ ap (λ p. cond (eqb actor owner) (effect.pool p) p) k.pool ∙ sym (at_owner t);
    edges = at_edges s ∙ ap (filter (keeps actor effect.gone)) k.edges ∙ sym (at_edges t);
    pending = at_pending s ∙ ap (λ ps. filter (stays actor effect) ps ++ filter mine (got actor q effect.added)) k.pending ∙ sym (at_pending t);
  }
    where
      at_edges : (u : State) → filter (into owner member) (effect.edges (filter (keeps actor effect.gone) u.edges)) ≡ filter (keeps actor effect.gone) (filter (into owner member) u.edges)
      at_edges u = ap (filter (into owner member)) (f (filter (keeps actor effect.gone) u.edges)) ∙ filter-filter (into owner member) (keeps actor effect.gone) u.edges

      at_owner : (u : State) → FinMap.get (with_entry u.pools actor (effect.pool (FinMap.get u.pools actor))) owner ≡ cond (eqb actor owner) (effect.pool (FinMap.get u.pools owner)) (FinMap.get u.pools owner)
      at_owner u = get-put u.pools actor (effect.pool (FinMap.get u.pools actor)) owner ∙ turned (λ c. effect.pool (FinMap.get u.pools c)) (FinMap.get u.pools owner) owner actor

      at_pending : (u : State) → filter mine (filter (stays actor effect) u.pending ++ got actor q effect.added) ≡ filter (stays actor effect) (filter mine u.pending) ++ filter mine (got actor q effect.added)
      at_pending u = filter-append mine (filter (stays actor effect) u.pending) (got actor q effect.added) ∙ ap (λ ps. ps ++ filter mine (got actor q effect.added)) (filter-filter mine (stays actor effect) u.pending)

  within_own : (s : State) (actor : ℕ) (q : Option QueueAddr) (effect : Effect) → Stay effect → AreWithin owner member s.edges → AreWithin owner member (with_effect s actor q effect).edges
  unfolding keeps
  within_own s actor q effect f w =
      subst (λ es. list_all (from_member owner member) es ≡ true) (sym (ap (filter (into owner member)) (f (filter (keeps actor effect.gone) s.edges)) ∙ filter-filter (into owner member) (keeps actor effect.gone) s.edges))
      (list_all-filter (from_member owner member) (keeps actor effect.gone) (filter (into owner member) s.edges) w)

  -- a stranger's leaves the circle as it was
  kin_stranger : member owner ≡ true → (s : State) (actor : ℕ) (q : Option QueueAddr) (effect : Effect) → Stay effect → member actor ≡ false → Within s → Kin (with_effect s actor q effect) s
  unfolding keeps stays got
  kin_stranger o s actor q effect f m w = record {
    clients = λ c mc. get-put s.clients actor effect.client c ∙ ap (λ b. cond b effect.client (FinMap.get s.clients c)) (apart c mc);
    pool = get-put s.pools actor (effect.pool (FinMap.get s.pools actor)) owner ∙ ap (λ b. cond b (effect.pool (FinMap.get s.pools actor)) (FinMap.get s.pools owner)) (apart owner o);
    edges = ap (filter (into owner member)) (f (filter (keeps actor effect.gone) s.edges)) ∙ filter-under (keeps actor effect.gone) (into owner member) (from_member owner member) on s.edges w.edges;
    pending =
        filter-append mine (filter (stays actor effect) s.pending) (got actor q effect.added)
        ∙ ap (λ ps. filter mine (filter (stays actor effect) s.pending) ++ ps) none_got
        ∙ append-nil (filter mine (filter (stays actor effect) s.pending))
        ∙ filter-under (stays actor effect) mine on_member stay s.pending w.playbacks;
  }
    where
      apart : (c : ℕ) → member c ≡ true → eqb c actor ≡ false
      apart c mc = grind (arith, nat_tests)

      on : (e : Edge) → into owner member e ≡ true → member e.source.client ≡ true → keeps actor effect.gone e ≡ true
      on e i r =
          let t : eqb e.target.client actor ≡ false = apart e.target.client (inner_member owner member o e.target i) in
          let f : eqb e.source.client actor ≡ false = apart e.source.client r in
          ap (λ b. not ((b && effect.gone e.source.node) || ((eqb e.target.client actor) && effect.gone e.target.node))) f
          ∙ ap (λ b. not (b && effect.gone e.target.node)) t

      stay : (p : OwnedPlayback) → mine p ≡ true → on_member p ≡ true → stays actor effect p ≡ true
      stay p h l =
          ap (λ b. not ((b && effect.dropped p.playback) || ((eqb p.queue.client actor) && effect.queue_gone p.queue.queue))) (apart p.client h)
          ∙ ap (λ b. not (b && effect.queue_gone p.queue.queue)) (apart p.queue.client l)

      of_actor : (x : Option QueueAddr) → filter (λ t. mine (pending_of actor x t)) effect.added ≡ filter (λ t. member actor) effect.added
      of_actor None = refl
      of_actor (Some x) = refl

      none_got : filter mine (got actor q effect.added) ≡ []
      none_got =
          filter-filter mine is_left (map (pending_of actor q) effect.added)
          ∙ ap (filter is_left) (filter-map mine (pending_of actor q) effect.added ∙ ap (map (pending_of actor q)) (of_actor q ∙ filter-constant (member actor) effect.added ∙ ap (λ b. cond b effect.added []) m))

  -- a member's new playbacks are on members' queues
  playbacks_own : (s : State) (actor : ℕ) (q : Option QueueAddr) (effect : Effect) → Within s → member actor ≡ true → NamesWithin member actor q → list_all on_member (filter mine (with_effect s actor q effect).pending) ≡ true
  unfolding stays got
  playbacks_own s actor q effect w m n =
      subst (λ ps. list_all on_member ps ≡ true)
      (sym (filter-append mine (filter (stays actor effect) s.pending) (got actor q effect.added) ∙ ap (λ ps. ps ++ filter mine (got actor q effect.added)) (filter-filter mine (stays actor effect) s.pending)))
      (list_all-append on_member (filter (stays actor effect) (filter mine s.pending)) (filter mine (got actor q effect.added))
      (list_all-filter on_member (stays actor effect) (filter mine s.pending) w.playbacks)
      (list_all-filter on_member mine (got actor q effect.added) (list_all-filter on_member is_left (map (pending_of actor q) effect.added) (list_all-map on_member (λ t. true) (pending_of actor q) (λ t h. on q n t) effect.added (list_all-always (λ t. true) (λ t. refl) effect.added)))))
    where
      on : (x : Option QueueAddr) → NamesWithin member actor x → (t : Playback) → on_member (pending_of actor x t) ≡ true
      on None h t = m
      on (Some x) h t = h m

  -- what the owner hears of what a command sends
  heard_sends : (s t : State) → Kin s t → Within s → (moment actor : ℕ) (sends : List (ℕ × List ℕ)) → heard owner (send_copies s moment actor sends) ≡ heard owner (send_copies t moment actor sends)
  unfolding heard
  heard_sends s t k w moment actor sends =
      let f : State → ℕ × List ℕ → List Delivery = λ u m. copies u moment (port_addr actor m.0) m.1 in
      filter-flat_map (is_to owner) (f s) sends
      ∙ flat_map-agree (λ m. heard owner (f s m)) (λ m. heard owner (f t m)) (λ m. same_heard owner member s t k.clients k.edges w.edges moment (port_addr actor m.0) m.1) sends
      ∙ sym (filter-flat_map (is_to owner) (f t) sends)

  none_sent : (s : State) → Within s → (moment actor : ℕ) (sends : List (ℕ × List ℕ)) → member actor ≡ false → heard owner (send_copies s moment actor sends) ≡ []
  unfolding heard
  none_sent s w moment actor sends m =
      let f : ℕ × List ℕ → List Delivery = λ n. copies s moment (port_addr actor n.0) n.1 in
      filter-flat_map (is_to owner) f sends
      ∙ flat_map-agree (λ n. heard owner (f n)) (λ n. []) (λ n. none_heard owner member s w.edges moment (port_addr actor n.0) n.1 m) sends
      ∙ none sends
    where
      none : (xs : List (ℕ × List ℕ)) → let no : List Delivery = [] in flat_map (λ n. no) xs ≡ no
      none [] = refl
      none (x ∷ xs) = none xs

  -- ---- one command

  -- what the owner sees of a reply
  abbrev pub told : ℕ → ℕ → Command → Reply → List Sight
  told moment actor command reply = cond (eqb actor owner) (cond (aims_outside owner member command) (Outside moment) (Told moment reply) ∷ []) []

  -- two steps that the owner can't tell apart
  pub record Alike (a b : Stepped) : Type 0 where
    pub kin : Kin a.state b.state
    pub within : Within a.state
    pub heard : heard owner a.delivered ≡ heard owner b.delivered

  -- a command that leaves the circle as it was
  pub record Aside (a : Stepped) (s : State) : Type 0 where
    pub kin : Kin a.state s
    pub within : Within a.state
    pub heard : heard owner a.delivered ≡ []

  unless_alike : (s t : State) → Kin s t → Within s → (o : Option Refusal) (a b : Stepped) → Alike a b → Alike (unless o s a) (unless o t b)
  unless_alike s t k w None a b h = h
  unless_alike s t k w (Some n) a b h = record { kin = k; within = w; heard = refl }

  unless_aside : (s : State) → Within s → (o : Option Refusal) (a : Stepped) → Aside a s → Aside (unless o s a) s
  unfolding heard
  unless_aside s w None a h = h
  unless_aside s w (Some n) a h = record { kin = kin_same s; within = w; heard = refl }

  unless_told : (s t : State) (moment actor : ℕ) (command : Command) (o : Option Refusal) (a b : Stepped) → told moment actor command a.reply ≡ told moment actor command b.reply → told moment actor command (unless o s a).reply ≡ told moment actor command (unless o t b).reply
  unless_told s t moment actor command None a b h = h
  unless_told s t moment actor command (Some n) a b h = refl

  own_alike : (s t : State) (moment actor : ℕ) (q : Option QueueAddr) (effect : Effect) → Stay effect → Kin s t → Within s → member actor ≡ true → NamesWithin member actor q → Alike (after_effect s moment actor q effect) (after_effect t moment actor q effect)
  own_alike s t moment actor q effect f k w m n =
      let ds : List Delivery = send_copies s moment actor effect.sends in
      let es : List Delivery = send_copies t moment actor effect.sends in
      let h : heard owner ds ≡ heard owner es = heard_sends s t k w moment actor effect.sends in
      record {
        kin = kin_sent (with_effect s actor q effect) (with_effect t actor q effect) ds es (kin_own s t actor q effect f k) h;
        within = record { edges = within_own s actor q effect f w.edges; playbacks = playbacks_own s actor q effect w m n };
        heard = heard_sent (with_effect s actor q effect) (with_effect t actor q effect) ds es (kin_own s t actor q effect f k) h;
      }

  own_aside : member owner ≡ true → (s : State) (moment actor : ℕ) (q : Option QueueAddr) (effect : Effect) → Stay effect → Within s → member actor ≡ false → Aside (after_effect s moment actor q effect) s
  own_aside o s moment actor q effect f w m =
      let ds : List Delivery = send_copies s moment actor effect.sends in
      let h : heard owner ds ≡ [] = none_sent s w moment actor effect.sends m in
      let u : State = with_effect s actor q effect in
      record {
        kin = kin_trans (with_copies u ds).state u s (kin_unheard u ds h) (kin_stranger o s actor q effect f m w);
        within = record { edges = within_own s actor q effect f w.edges; playbacks = subst (λ ps. list_all on_member ps ≡ true) (sym (kin_stranger o s actor q effect f m w).pending) w.playbacks };
        heard = heard_unheard u ds h;
      }

  told_reply : (moment actor : ℕ) (command : Command) (a b : Reply) → (eqb actor owner ≡ true → a ≡ b) → told moment actor command a ≡ told moment actor command b
  told_reply moment actor command a b h = go (eqb actor owner) h
    where
      go : (x : Bool) → (x ≡ true → a ≡ b) → cond x (cond (aims_outside owner member command) (Outside moment) (Told moment a) ∷ []) [] ≡ cond x (cond (aims_outside owner member command) (Outside moment) (Told moment b) ∷ []) []
      go true h = ap (λ r. cond (aims_outside owner member command) (Outside moment) (Told moment r) ∷ []) (h refl)
      go false h = refl

  same_used : (s t : State) → Kin s t → (actor : ℕ) → member actor ≡ true → playback_count s actor ≡ playback_count t actor
  same_used s t k actor m =
      let p : OwnedPlayback → Bool = λ x. eqb x.client actor in
      let w : (x : OwnedPlayback) → p x ≡ true → mine x ≡ true = λ x h. ap member (eqb-true x.client actor h) ∙ m in
      ap length (sym (filter-wider p mine w s.pending) ∙ ap (filter p) k.pending ∙ filter-wider p mine w t.pending)

  -- ---- Connect and Disconnect

  is_edge_into : (source target : Addr) (e : Edge) → is_inner owner member target ≡ true → is_edge source target e ≡ true → into owner member e ≡ true
  is_edge_into source target e h k = sym (same_inner owner member target e.target (both_right (same source e.source) (same target e.target) k)) ∙ h

  same_caps : (s t : State) → Kin s t → (a : Addr) → member a.client ≡ true → caps_at s a ≡ caps_at t a
  same_caps s t k a m = ap (λ c. node_caps c a.node) (k.clients a.client m)

  same_edge : (s t : State) → Kin s t → (source target : Addr) → is_inner owner member target ≡ true → has_edge s.edges source target ≡ has_edge t.edges source target
  same_edge s t k source target i =
      let p : Edge → Bool = is_edge source target in
      let w : (e : Edge) → p e ≡ true → into owner member e ≡ true = λ e h. is_edge_into source target e i h in
      sym (list_any-wider p (into owner member) w s.edges) ∙ ap (list_any p) k.edges ∙ list_any-wider p (into owner member) w t.edges

  same_sources_of : (s t : State) → Kin s t → (target : Addr) → is_inner owner member target ≡ true → sources_of s.edges target ≡ sources_of t.edges target
  same_sources_of s t k target i =
      let p : Edge → Bool = λ e. same target e.target in
      let w : (e : Edge) → p e ≡ true → into owner member e ≡ true = λ e h. sym (same_inner owner member target e.target h) ∙ i in
      ap length (sym (filter-wider p (into owner member) w s.edges) ∙ ap (filter p) k.edges ∙ filter-wider p (into owner member) w t.edges)

  same_cycle : (s t : State) → Kin s t → Within s → Within t → (source target : Addr) → member source.client ≡ true → makes_cycle s.edges source target ≡ makes_cycle t.edges source target
  same_cycle s t k w v source target m = go (is_filter source) refl
    where
      rest : State → Bool
      rest u = is_joined u.edges target source

      same_joined : is_filter source ≡ true → rest s ≡ rest t
      same_joined h =
          let i : is_inner owner member source ≡ true = inner_filter owner member source h ∙ m in
          joined_within owner member s.edges (are_within owner member s.edges w.edges) target source i
          ∙ ap (λ es. is_joined es target source) k.edges
          ∙ sym (joined_within owner member t.edges (are_within owner member t.edges v.edges) target source i)

      go : (b : Bool) → is_filter source ≡ b → (b && is_filter target && rest s) ≡ (b && is_filter target && rest t)
      go true h = ap (λ x. is_filter target && x) (same_joined h)
      go false h = refl

  -- inside the circle the refusals are the same
  same_connect : (files : List PlayedFile) (s t : State) → Kin s t → Within s → (moment actor : ℕ) (source target : Addr) → member actor ≡ true → member source.client ≡ true → member target.client ≡ true → is_inner owner member target ≡ true →
      refusal_of files s moment actor (Connect source target) ≡ refusal_of files t moment actor (Connect source target)
  unfolding command_row
  same_connect files s t k w moment actor source target m a b i =
      let P : Option Client → Option Caps → Option Caps → Bool → ℕ → Bool → Option Refusal = λ o read write x n y.
      first_refusal ((refusal.NotOpen, not (is_some o)) ∷ (refusal.NoSender, not (is_some read)) ∷ (refusal.NoDest, not (is_some write)) ∷ (refusal.NotPermitted, not (is_permitted actor source read target write))
      ∷ (refusal.AlreadyConnected, x) ∷ (refusal.SourcesFull, nat_le most_sources n) ∷ (refusal.Cycle, y) ∷ []) in
      let e : State → Bool = λ u. has_edge u.edges source target in
      let n : State → ℕ = λ u. sources_of u.edges target in
      let y : State → Bool = λ u. makes_cycle u.edges source target in
      let o : State → Option Client = λ u. FinMap.get u.clients actor in
      ap (λ x. P x (caps_at s source) (caps_at s target) (e s) (n s) (y s)) (k.clients actor m)
      ∙ ap (λ x. P (o t) x (caps_at s target) (e s) (n s) (y s)) (same_caps s t k source a)
      ∙ ap (λ x. P (o t) (caps_at t source) x (e s) (n s) (y s)) (same_caps s t k target b)
      ∙ ap (λ x. P (o t) (caps_at t source) (caps_at t target) x (n s) (y s)) (same_edge s t k source target i)
      ∙ ap (λ x. P (o t) (caps_at t source) (caps_at t target) (e t) x (y s)) (same_sources_of s t k target i)
      ∙ ap (λ x. P (o t) (caps_at t source) (caps_at t target) (e t) (n t) x) (same_cycle s t k w (within_kin s t k w) source target a)

  same_disconnect : (files : List PlayedFile) (s t : State) → Kin s t → (moment actor : ℕ) (source target : Addr) → member actor ≡ true → member source.client ≡ true → member target.client ≡ true → is_inner owner member target ≡ true →
      refusal_of files s moment actor (Disconnect source target) ≡ refusal_of files t moment actor (Disconnect source target)
  unfolding command_row
  same_disconnect files s t k moment actor source target m a b i =
      let P : Option Client → Option Caps → Option Caps → Bool → Option Refusal = λ o read write x.
      first_refusal ((refusal.NotOpen, not (is_some o)) ∷ (refusal.NoSender, not (is_some read)) ∷ (refusal.NoDest, not (is_some write)) ∷ (refusal.NotPermitted, not (is_permitted actor source read target write))
      ∷ (refusal.NotConnected, not x) ∷ []) in
      let e : State → Bool = λ u. has_edge u.edges source target in
      let o : State → Option Client = λ u. FinMap.get u.clients actor in
      ap (λ x. P x (caps_at s source) (caps_at s target) (e s)) (k.clients actor m)
      ∙ ap (λ x. P (o t) x (caps_at s target) (e s)) (same_caps s t k source a)
      ∙ ap (λ x. P (o t) (caps_at t source) x (e s)) (same_caps s t k target b)
      ∙ ap (λ x. P (o t) (caps_at t source) (caps_at t target) x) (same_edge s t k source target i)

  -- a change of the edges that touches those from source to target alone
  record Edit (f : List Edge → List Edge) (source target : Addr) : Type 0 where
    outside : is_inner owner member target ≡ false → (es : List Edge) → filter (into owner member) (f es) ≡ filter (into owner member) es
    inside : (es fs : List Edge) → filter (into owner member) es ≡ filter (into owner member) fs → filter (into owner member) (f es) ≡ filter (into owner member) (f fs)
    within : (is_inner owner member target ≡ true → member source.client ≡ true) → (es : List Edge) → AreWithin owner member es → AreWithin owner member (f es)

  connecting : (source target : Addr) → Edit (with_edge source target) source target
  connecting source target =
      let i : Edge → Bool = into owner member in
      let r : Edge → Bool = from_member owner member in
      record {
        outside = λ o es. filter-append i es (edge source target ∷ []) ∙ ap (λ b. filter i es ++ cond b (edge source target ∷ []) []) o ∙ append-nil (filter i es);
        inside = λ es fs k. filter-append i es (edge source target ∷ []) ∙ ap (λ gs. gs ++ filter i (edge source target ∷ [])) k ∙ sym (filter-append i fs (edge source target ∷ []));
        within = λ h es w.
            subst (λ gs. list_all r gs ≡ true) (sym (filter-append i es (edge source target ∷ [])))
            (list_all-append r (filter i es) (filter i (edge source target ∷ [])) w (list_all-one i r (edge source target) h));
      }

  disconnecting : (source target : Addr) → Edit (without_edge_of source target) source target
  disconnecting source target =
      let i : Edge → Bool = into owner member in
      let r : Edge → Bool = from_member owner member in
      let keep : Edge → Bool = λ e. not (is_edge source target e) in
      record {
        outside = λ o es. filter-outside keep i (λ e h. not_by (is_edge source target e) (λ k. false≢true (sym o ∙ same_inner owner member target e.target (both_right (same source e.source) (same target e.target) k) ∙ h))) es;
        inside = λ es fs k. filter-filter i keep es ∙ ap (filter keep) k ∙ sym (filter-filter i keep fs);
        within = λ h es w. subst (λ gs. list_all r gs ≡ true) (sym (filter-filter i keep es)) (list_all-filter r keep (filter i es) w);
      }

  patch_alike : (f : List Edge → List Edge) (source target : Addr) → Edit f source target → (s t : State) → Kin s t → Within s → (p q : Option Refusal) → (is_inner owner member target ≡ true → member source.client ≡ true) → (is_inner owner member target ≡ true → p ≡ q) → Alike (patch_step s p f) (patch_step t q f)
  patch_alike f source target e s t k w None None c r = record {
    kin = record { clients = k.clients; pool = k.pool; edges = e.inside s.edges t.edges k.edges; pending = k.pending };
    within = record { edges = e.within c s.edges w.edges; playbacks = w.playbacks };
    heard = refl;
  }
  patch_alike f source target e s t k w None (Some n) c r = record {
    kin = record { clients = k.clients; pool = k.pool; edges = e.outside (refuted (is_inner owner member target) (λ h. none_some n (r h))) s.edges ∙ k.edges; pending = k.pending };
    within = record { edges = e.within c s.edges w.edges; playbacks = w.playbacks };
    heard = refl;
  }
  patch_alike f source target e s t k w (Some n) None c r = record {
    kin = record { clients = k.clients; pool = k.pool; edges = k.edges ∙ sym (e.outside (refuted (is_inner owner member target) (λ h. none_some n (sym (r h)))) t.edges); pending = k.pending };
    within = w;
    heard = refl;
  }
  patch_alike f source target e s t k w (Some m) (Some n) c r = record { kin = k; within = w; heard = refl }

  patch_aside : (f : List Edge → List Edge) (source target : Addr) → Edit f source target → (s : State) → Within s → (p : Option Refusal) → (is_inner owner member target ≡ true → IsRefusal (patch_step s p f).reply) → Aside (patch_step s p f) s
  unfolding heard
  patch_aside f source target e s w None r =
      let outside : is_inner owner member target ≡ false = refuted (is_inner owner member target) r in
      record {
        kin = record { clients = λ c m. refl; pool = refl; edges = e.outside outside s.edges; pending = refl };
        within = record { edges = e.within (λ h. absurd (r h)) s.edges w.edges; playbacks = w.playbacks };
        heard = refl;
      }
  patch_aside f source target e s w (Some n) r = record { kin = kin_same s; within = w; heard = refl }

  -- the replies are alike, where they are shown
  patch_told : (s t : State) (moment actor : ℕ) (p q : Option Refusal) (f : List Edge → List Edge) (inside : Bool) → (inside ≡ true → p ≡ q) →
      cond (eqb actor owner) (cond (not inside) (Outside moment) (Told moment (patch_step s p f).reply) ∷ []) [] ≡ cond (eqb actor owner) (cond (not inside) (Outside moment) (Told moment (patch_step t q f).reply) ∷ []) []
  patch_told s t moment actor p q f true e = ap (λ r. cond (eqb actor owner) (Told moment r ∷ []) []) (reply_of p ∙ ap (λ o. (patch_step t o f).reply) (e refl))
    where
      reply_of : (o : Option Refusal) → (patch_step s o f).reply ≡ (patch_step t o f).reply
      reply_of None = refl
      reply_of (Some n) = refl
  patch_told s t moment actor p q f false e = refl

  same_pool : (s t : State) → Kin s t → (c : ℕ) → eqb c owner ≡ true → FinMap.get s.pools c ≡ FinMap.get t.pools c
  same_pool s t k c h = subst (λ n. FinMap.get s.pools n ≡ FinMap.get t.pools n) (sym (eqb-true c owner h)) k.pool

  same_named : (s t : State) → Kin s t → (actor : ℕ) (q : Option QueueAddr) → member actor ≡ true → NamesWithin member actor q → named_queue s.clients actor q ≡ named_queue t.clients actor q
  same_named s t k actor None m n = refl
  same_named s t k actor (Some q) m n = ap (λ c. visible actor q.client (FinMap.get (queues_of c) q.queue)) (k.clients q.client (n m))

  -- ---- each command

  -- what two commands leave, and tell, is the same to the owner
  abbrev BothAlike : ℕ → ℕ → Command → Stepped → Stepped → Type 0
  BothAlike moment actor command a b = Alike a b × (told moment actor command a.reply ≡ told moment actor command b.reply)

  -- the row of a command that changes no subscriptions is the same in both
  alike_row : (files : List PlayedFile) (s t : State) → Kin s t → (moment actor : ℕ) (command : Command) → is_patch command ≡ false → member actor ≡ true → NamesWithin member actor (queue_named command) →
      row_of files s moment actor command ≡ row_of files t moment actor command
  alike_row files s t k moment actor command h m n =
      let q : Option QueueAddr = queue_named command in
      let row : Option Client → Option Queue → ℕ → Row = λ client queue playback_count.
      command_row (record { files = files; moment = moment; actor = actor; client = client; queue = queue; used = playback_count; nodes = caps_at t; edges = t.edges }) command in
      same_row (view_of files s moment actor command) (caps_at t) t.edges command h
      ∙ ap (λ x. row x (named_queue s.clients actor q) (playback_count s actor)) (k.clients actor m)
      ∙ ap (λ x. row (FinMap.get t.clients actor) x (playback_count s actor)) (same_named s t k actor q m n)
      ∙ ap (λ x. row (FinMap.get t.clients actor) (named_queue t.clients actor q) x) (same_used s t k actor m)

  own_command_alike : (files : List PlayedFile) (s t : State) → Kin s t → Within s → (moment actor : ℕ) (command : Command) → is_patch command ≡ false → member actor ≡ true → NamesWithin member actor (queue_named command) →
      BothAlike moment actor command (command_step files s moment actor command) (command_step files t moment actor command)
  own_command_alike files s t k w moment actor command h m n =
      let q : Option QueueAddr = queue_named command in
      let r : Row = row_of files s moment actor command in
      let e : r ≡ row_of files t moment actor command = alike_row files s t k moment actor command h m n in
      let step : State → Row → Stepped = λ u z. unless (first_refusal z.conditions) u (after_effect u moment actor q z.effect) in
      let x : Stepped = after_effect s moment actor q r.effect in
      let y : Stepped = after_effect t moment actor q r.effect in
      let stay : Stay r.effect = edges_stay (view_of files s moment actor command) command h in
      let same : told moment actor command x.reply ≡ told moment actor command y.reply = told_reply moment actor command x.reply y.reply (λ i. ap r.effect.reply (same_pool s t k actor i)) in
      subst (λ z. BothAlike moment actor command (step s r) (step t z)) e (
        unless_alike s t k w (first_refusal r.conditions) x y (own_alike s t moment actor q r.effect stay k w m n),
        unless_told s t moment actor command (first_refusal r.conditions) x y same,
      )

  pub command_alike : member owner ≡ true → (files : List PlayedFile) (s t : State) → Kin s t → Within s → (moment actor : ℕ) (command : Command) → member actor ≡ true → IsClosedAt owner member actor command (command_step files s moment actor command).reply → NamesWithin member actor (queue_named command) →
      Alike (command_step files s moment actor command) (command_step files t moment actor command) × (told moment actor command (command_step files s moment actor command).reply ≡ told moment actor command (command_step files t moment actor command).reply)
  command_alike o files s t k w moment actor (Connect source target) m c n =
      let p : Option Refusal = refusal_of files s moment actor (Connect source target) in
      let q : Option Refusal = refusal_of files t moment actor (Connect source target) in
      let f : List Edge → List Edge = with_edge source target in
      let same_pq : is_inner owner member target ≡ true → p ≡ q = λ i. same_connect files s t k w moment actor source target m ((c i).0 m) (inner_member owner member o target i) i in
      subst (λ x. BothAlike moment actor (Connect source target) x (command_step files t moment actor (Connect source target))) (sym (step-connects files s moment actor source target))
      (subst (λ y. BothAlike moment actor (Connect source target) (patch_step s p f) y) (sym (step-connects files t moment actor source target)) (
        patch_alike f source target (connecting source target) s t k w p q (λ i. (c i).0 m) same_pq,
        patch_told s t moment actor p q f (is_inner owner member target) same_pq,
      ))
  command_alike o files s t k w moment actor (Disconnect source target) m c n =
      let p : Option Refusal = refusal_of files s moment actor (Disconnect source target) in
      let q : Option Refusal = refusal_of files t moment actor (Disconnect source target) in
      let f : List Edge → List Edge = without_edge_of source target in
      let same_pq : is_inner owner member target ≡ true → p ≡ q = λ i. same_disconnect files s t k moment actor source target m ((c i).0 m) (inner_member owner member o target i) i in
      subst (λ x. BothAlike moment actor (Disconnect source target) x (command_step files t moment actor (Disconnect source target))) (sym (step-parts files s moment actor source target))
      (subst (λ y. BothAlike moment actor (Disconnect source target) (patch_step s p f) y) (sym (step-parts files t moment actor source target)) (
        patch_alike f source target (disconnecting source target) s t k w p q (λ i. (c i).0 m) same_pq,
        patch_told s t moment actor p q f (is_inner owner member target) same_pq,
      ))
  command_alike o files s t k w moment actor command m c n = own_command_alike files s t k w moment actor command refl m n

  pub command_aside : member owner ≡ true → (files : List PlayedFile) (s : State) → Within s → (moment actor : ℕ) (command : Command) → member actor ≡ false → IsClosedAt owner member actor command (command_step files s moment actor command).reply → Aside (command_step files s moment actor command) s
  command_aside o files s w moment actor (Connect source target) m c =
      let e = step-connects files s moment actor source target in
      subst (λ x. Aside x s) (sym e)
      (patch_aside (with_edge source target) source target (connecting source target) s w (refusal_of files s moment actor (Connect source target)) (λ i. subst (λ (x : Stepped). IsRefusal x.reply) e ((c i).1 m)))
  command_aside o files s w moment actor (Disconnect source target) m c =
      let e = step-parts files s moment actor source target in
      subst (λ x. Aside x s) (sym e)
      (patch_aside (without_edge_of source target) source target (disconnecting source target) s w (refusal_of files s moment actor (Disconnect source target)) (λ i. subst (λ (x : Stepped). IsRefusal x.reply) e ((c i).1 m)))
  command_aside o files s w moment actor command m c =
      let r : Row = row_of files s moment actor command in
      unless_aside s w (first_refusal r.conditions) (after_effect s moment actor (queue_named command) r.effect)
      (own_aside o s moment actor (queue_named command) r.effect (edges_stay (view_of files s moment actor command) command refl) w m)
