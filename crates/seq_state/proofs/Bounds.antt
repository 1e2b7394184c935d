-- Nothing grows past its bound.
use Rattle.std.proofs.Common.{◌≡◌, ◌≤◌, ◌<◌, ℕ, zero, suc, ◌+◌, Bool, true, false, not, cond, eqb, ◌&&◌, ◌||◌, ◌⊎◌, inl, inr, List, [], ◌∷◌, ◌++◌, map, length, drop, Option, Some, None, refl, sym, ap, subst, ◌∙◌, arith}
use Rattle.std.specs.Prelude.{nat_le, nat_lt, ◌==◌, min}
use Rattle.std.specs.List.{filter, flat_map}
use Rattle.std.specs.Ordering.{nat_cmp}
use Rattle.std.specs.FinMap
use Rattle.std.specs.FinMap.{FinMap}
use Rattle.std.proofs.lemmas.Bool.Decides.{nat_tests}
use Rattle.std.proofs.lemmas.Bool.{false≢true, eqb-true, ltb-true, leb-false}
use Rattle.std.proofs.lemmas.List.{length-append, length-drop, length-map}
use Rattle.tempo_clock.specs.Clocks.{running_from_zero, at_rest, running_on, with_tempo}
use Rattle.node_table.specs.Addresses.{same}
use Rattle.node_table.specs.declared.number.Addr.{Addr}
use Rattle.patch_graph.specs.Edges.{edge, is_edge, sources_of, most_sources}
use Rattle.patch_graph.specs.Chains.{makes_cycle}
use Rattle.patch_graph.specs.declared.edge.Edge.{Edge}
use Rattle.patch_graph.proofs.Same.{same-is}
use Rattle.seq_state.specs.declared.input.Command.{Command}
use Rattle.seq_state.specs.declared.input.Command.TheVariants.{Open, Close, CreatePort, DeletePort, CreateFilter, SetFilter, DeleteFilter, Connect, Disconnect, Bytes, CreateQueue, CreateQueueFrom, DeleteQueue, Start, Stop, Continue, Tempo, Share, Schedule, Play, Receive, Listen, Unlisten}
use Rattle.node_table.specs.declared.number.QueueAddr.{QueueAddr}
use Rattle.seq_state.specs.declared.log.Arrival.{Arrival}
use Rattle.seq_state.specs.declared.log.Delivery.{Delivery}
use Rattle.seq_state.specs.declared.refusal.Refusal.{Refusal}
use Rattle.seq_state.specs.declared.refusal.Refusal.TheVariants as refusal
use Rattle.smf_grammar.specs.Played.{PlayedFile}
use Rattle.seq_state.specs.State.{PortInfo, FilterInfo, Queue, Client, ClientPool, Playback, OwnedPlayback, State, start, with_entry}
use Rattle.cell_pools.specs.Pools.{empty_pool, came_at, one_more, nothing_came, has_room, with_item, after_offer}
use Rattle.cell_pools.specs.declared.listening.Listening.{Listening}
use Rattle.seq_state.specs.Effect.{Effect, with_change, out_size, put_port, put_filter, put_queue, port_fed, port_of, filter_ruled, filter_of, queue_of, queue_map, with_clock, public, new_port, new_filter, held_queue, one_tempo, file_queue, file_at, without_oldest, with_listening, without_listening}
use Rattle.seq_state.specs.Table.{CommandView, Condition, first_refusal, command_row, queue_named, with_edge, already_open, bad_name, bad_sizes, not_open, no_port, not_shared, none_named, bad_time, no_file, division_differs, no_sender, no_dest, not_permitted, already_connected}
use Rattle.cell_pools.specs.Pools.{most_lost}
use Rattle.seq_state.specs.Step.{arrival, offer, pools_after, playback_after, is_left, due, event_copies, settle, without_due, Stepped, playback_count, loses, drops, pending_of, with_effect, send_copies, unless, view_of, row_of, refusal_of, effect_of, command_step}
use Rattle.seq_state.specs.Laws.{pool_size, in_size, Bounded, BoundsLaw}
use Rattle.seq_state.proofs.Lists.{filter-append, filter-map, filter-filter, filter-apart}
use Rattle.seq_state.proofs.Effects.{get-put, none-lost}

-- ---- lengths

fewer : {X : Type 0} (p : X → Bool) (xs : List X) → length (filter p xs) ≤ length xs
fewer p [] = omega arith
fewer p (x ∷ xs) = grind (arith, fewer p xs)

fewer-filtered : {X : Type 0} (p q : X → Bool) (xs : List X) → length (filter p (filter q xs)) ≤ length (filter p xs)
fewer-filtered p q xs = subst (λ ys. length ys ≤ length (filter p xs)) (sym (filter-filter p q xs)) (fewer q (filter p xs))

none-of : {X : Type 0} (p q : X → Bool) → ((x : X) → p x ≡ true → q x ≡ false) → (xs : List X) → filter p (filter q xs) ≡ []
none-of p q h xs = filter-apart p q (λ x a b. false≢true (sym (h x a) ∙ b)) xs

-- ---- input pools

record Fit (p : ClientPool) : Type 0 where
  waiting : length p.waiting ≤ p.size
  heard : (l : Listening) → p.listening ≡ Some l → l.count ≤ p.size

abbrev FitsPool : Option ClientPool → Type 0
FitsPool o = (p : ClientPool) → o ≡ Some p → Fit p

none_some : {X : Type 0} (x : X) → None ≡ Some x → ⊥
none_some x e = cc

some_pool : (p q : ClientPool) → ◌≡◌ {A = Option ClientPool} (Some p) (Some q) → p ≡ q
some_pool p q e = ap unwrapped e
  where
    unwrapped : Option ClientPool → ClientPool
    unwrapped None = p
    unwrapped (Some x) = x

fits-some : (p : ClientPool) → Fit p → FitsPool (Some p)
fits-some p h q e = subst Fit (some_pool p q e) h

some_heard : (k l : Listening) → ◌≡◌ {A = Option Listening} (Some k) (Some l) → k ≡ l
some_heard k l e = ap unwrapped e
  where
    unwrapped : Option Listening → Listening
    unwrapped None = k
    unwrapped (Some x) = x

heard-none : (size : ℕ) (l : Listening) → ◌≡◌ {A = Option Listening} None (Some l) → l.count ≤ size
heard-none size l e = absurd (none_some l e)

heard-some : (size : ℕ) (k : Listening) → k.count ≤ size → (l : Listening) → Some k ≡ Some l → l.count ≤ size
heard-some size k h l e = subst (λ (x : Listening). x.count ≤ size) (some_heard k l e) h

choose : (b : Bool) (x y : ClientPool) → (b ≡ true → Fit x) → Fit y → Fit (cond b x y)
choose true x y h k = h refl
choose false x y h k = k

fit-offered : (size : ℕ) (waiting : List Arrival) (lost : ℕ) (o : Option Listening) (moment : ℕ) (came : Arrival) →
    (let p : ClientPool = record { size = size; waiting = waiting; lost = lost; listening = o } in Fit p → Fit (after_offer moment p came))
fit-offered size waiting lost None moment came h =
    let p : ClientPool = record { size = size; waiting = waiting; lost = lost; listening = None } in
    choose (nat_lt (length waiting) size) (record p { waiting = waiting ++ came ∷ [] }) (record p { lost = min (lost + 1) most_lost })
    (λ e. let l : length waiting < size = ltb-true (length waiting) size e in record { waiting = omega (arith, length-append waiting (came ∷ [])); heard = heard-none size })
    (record { waiting = h.waiting; heard = heard-none size })
fit-offered size waiting lost (Some l) moment came h =
    let p : ClientPool = record { size = size; waiting = waiting; lost = lost; listening = Some l } in
    choose (nat_lt (came_at moment l) size) (record p { listening = Some (one_more moment l) }) (record p { lost = min (lost + 1) most_lost })
    (λ e. let few : came_at moment l < size = ltb-true (came_at moment l) size e in record { waiting = h.waiting; heard = heard-some size (one_more moment l) (omega arith) })
    (record { waiting = h.waiting; heard = h.heard })

fits-offer : (o : Option ClientPool) (d : Delivery) → FitsPool o → FitsPool (offer o d)
fits-offer None d h = h
fits-offer (Some p) d h = fits-some (after_offer d.moment p (arrival d)) (fit-offered p.size p.waiting p.lost p.listening d.moment (arrival d) (h p refl))

fits-put : (pools : FinMap nat_cmp ClientPool) (k : ℕ) (o : Option ClientPool) → ((c : ℕ) → FitsPool (FinMap.get pools c)) → FitsPool o → (c : ℕ) → FitsPool (FinMap.get (with_entry pools k o) c)
fits-put pools k o h f c = subst (λ x. FitsPool x) (sym (get-put pools k o c)) (go (eqb c k))
  where
    go : (b : Bool) → FitsPool (cond b o (FinMap.get pools c))
    go true = f
    go false = h c

fits-offered : (pools : FinMap nat_cmp ClientPool) (ds : List Delivery) → ((c : ℕ) → FitsPool (FinMap.get pools c)) → (c : ℕ) → FitsPool (FinMap.get (pools_after pools ds) c)
fits-offered pools [] h c = h c
fits-offered pools (d ∷ ds) h c =
    let o : Option ClientPool = offer (FinMap.get pools d.target.client) d in
    fits-offered (with_entry pools d.target.client o) ds (fits-put pools d.target.client o h (fits-offer (FinMap.get pools d.target.client) d (h d.target.client))) c

fits-taken : (max : ℕ) (o : Option ClientPool) → FitsPool o → FitsPool (without_oldest max o)
fits-taken max None h = h
fits-taken max (Some p) h =
    let l : length p.waiting ≤ p.size = (h p refl).waiting in
    fits-some (record p { waiting = drop max p.waiting }) (record { waiting = omega (arith, length-drop max p.waiting); heard = (h p refl).heard })

fits-listening : (o : Option ClientPool) → FitsPool o → FitsPool (with_listening o)
fits-listening None h = h
fits-listening (Some p) h = fits-some (record p { listening = Some nothing_came }) (record { waiting = (h p refl).waiting; heard = heard-some p.size nothing_came (omega arith) })

fits-unlistening : (o : Option ClientPool) → FitsPool o → FitsPool (without_listening o)
fits-unlistening None h = h
fits-unlistening (Some p) h = fits-some (record p { listening = None }) (record { waiting = (h p refl).waiting; heard = heard-none p.size })

pools-fit : (s : State) → Bounded s → (c : ℕ) → FitsPool (FinMap.get s.pools c)
pools-fit s b c p e = record { waiting = b.waiting c p e; heard = λ l f. b.heard c p l e f }

-- ---- the sizes of input pools

offer-size : (o : Option ClientPool) (d : Delivery) → pool_size (offer o d) ≡ pool_size o
offer-size None d = refl
offer-size (Some p) d = go (has_room d.moment p) p.listening
  where
    go : (b : Bool) (o : Option Listening) → pool_size (Some (cond b (with_item d.moment (arrival d) p o) (record p { lost = min (p.lost + 1) most_lost }))) ≡ Some p.size
    go true None = refl
    go true (Some l) = refl
    go false o = refl

put-size : (pools : FinMap nat_cmp ClientPool) (k : ℕ) (o : Option ClientPool) → pool_size o ≡ pool_size (FinMap.get pools k) → (c : ℕ) → pool_size (FinMap.get (with_entry pools k o) c) ≡ pool_size (FinMap.get pools c)
put-size pools k o h c = ap pool_size (get-put pools k o c) ∙ go (eqb c k) refl
  where
    go : (b : Bool) → eqb c k ≡ b → pool_size (cond b o (FinMap.get pools c)) ≡ pool_size (FinMap.get pools c)
    go true e = h ∙ ap (λ i. pool_size (FinMap.get pools i)) (sym (eqb-true c k e))
    go false e = refl

offered-size : (pools : FinMap nat_cmp ClientPool) (ds : List Delivery) (c : ℕ) → pool_size (FinMap.get (pools_after pools ds) c) ≡ pool_size (FinMap.get pools c)
offered-size pools [] c = refl
offered-size pools (d ∷ ds) c =
    let o : Option ClientPool = offer (FinMap.get pools d.target.client) d in
    offered-size (with_entry pools d.target.client o) ds c ∙ put-size pools d.target.client o (offer-size (FinMap.get pools d.target.client) d) c

taken-size : (max : ℕ) (o : Option ClientPool) → pool_size (without_oldest max o) ≡ pool_size o
taken-size max None = refl
taken-size max (Some p) = refl

listening-size : (o : Option ClientPool) → pool_size (with_listening o) ≡ pool_size o
listening-size None = refl
listening-size (Some p) = refl

unlistening-size : (o : Option ClientPool) → pool_size (without_listening o) ≡ pool_size o
unlistening-size None = refl
unlistening-size (Some p) = refl

-- ---- what is used

abbrev mine : ℕ → OwnedPlayback → Bool
mine c p = eqb p.client c

used-settled : (s : State) (m c : ℕ) → playback_count (without_due s m) c ≤ playback_count s c
used-settled s m c =
    let f : OwnedPlayback → OwnedPlayback = playback_after s.clients m in
    omega (arith, fewer-filtered (mine c) is_left (map f s.pending), ap length (filter-map (mine c) f s.pending), length-map (filter (mine c) s.pending) f)

-- what a row leaves of what is used, and of the pool
record Fits (playback_count : ℕ) (client : Option Client) (effect : Effect) : Type 0 where
  room : (playback_count ≤ out_size client → length effect.added + playback_count ≤ out_size effect.client) ⊎ ((effect.added ≡ []) × ((p : Playback) → effect.dropped p ≡ true))
  pool : (o : Option ClientPool) → FitsPool o → FitsPool (effect.pool o)
  size : (o : Option ClientPool) → pool_size o ≡ in_size client → pool_size (effect.pool o) ≡ in_size effect.client

same-size : (client : Option Client) (f : Client → Client) → ((c : Client) → (f c).out_size ≡ c.out_size) → out_size (with_change client f) ≡ out_size client
same-size None f h = refl
same-size (Some c) f h = h c

put_port-size : (n : ℕ) (o : Option PortInfo) (c : Client) → (put_port n o c).out_size ≡ c.out_size
put_port-size n None c = refl
put_port-size n (Some p) c = refl

put_filter-size : (n : ℕ) (o : Option FilterInfo) (c : Client) → (put_filter n o c).out_size ≡ c.out_size
put_filter-size n None c = refl
put_filter-size n (Some f) c = refl

put_queue-size : (n : ℕ) (o : Option Queue) (c : Client) → (put_queue n o c).out_size ≡ c.out_size
put_queue-size n None c = refl
put_queue-size n (Some q) c = refl

same-in : (client : Option Client) (f : Client → Client) → ((c : Client) → (f c).in_size ≡ c.in_size) → in_size (with_change client f) ≡ in_size client
same-in None f h = refl
same-in (Some c) f h = ap Some (h c)

put_port-in : (n : ℕ) (o : Option PortInfo) (c : Client) → (put_port n o c).in_size ≡ c.in_size
put_port-in n None c = refl
put_port-in n (Some p) c = refl

put_filter-in : (n : ℕ) (o : Option FilterInfo) (c : Client) → (put_filter n o c).in_size ≡ c.in_size
put_filter-in n None c = refl
put_filter-in n (Some f) c = refl

put_queue-in : (n : ℕ) (o : Option Queue) (c : Client) → (put_queue n o c).in_size ≡ c.in_size
put_queue-in n None c = refl
put_queue-in n (Some q) c = refl

nothing-added : (n : ℕ) (client : Option Client) (f : Client → Client) → ((c : Client) → (f c).out_size ≡ c.out_size) → n ≤ out_size client → zero + n ≤ out_size (with_change client f)
nothing-added n client f h l = omega (arith, same-size client f h)

pub last_fails : (rs : List Condition) (n : Refusal) (b : Bool) → first_refusal (rs ++ (n, b) ∷ []) ≡ None → b ≡ false
last_fails [] n true e = absurd cc
last_fails [] n false e = refl
last_fails (r ∷ rs) n b e = go r.1 e (last_fails rs n b)
  where
    go : (x : Bool) → cond x (Some r.0) (first_refusal (rs ++ (n, b) ∷ [])) ≡ None → (first_refusal (rs ++ (n, b) ∷ []) ≡ None → b ≡ false) → b ≡ false
    go true e more = absurd cc
    go false e more = more e

one-added : (n m : ℕ) → (n == m) ≡ false → n ≤ m → suc zero + n ≤ m
one-added n m e l = grind (arith, nat_tests)

-- a row that changes neither the sizes of the client nor what it has to send
fits-same : (n : ℕ) (client : Option Client) (effect : Effect) (f : Client → Client) → ((c : Client) → (f c).out_size ≡ c.out_size) → ((c : Client) → (f c).in_size ≡ c.in_size) →
    effect.client ≡ with_change client f → effect.added ≡ [] → ((o : Option ClientPool) → effect.pool o ≡ o) → Fits n client effect
fits-same n client effect f out inn c a p = record {
  room = inl (λ l. omega (arith, nothing-added n client f out l, ap out_size c, ap length a));
  pool = λ o h. subst FitsPool (sym (p o)) h;
  size = λ o h. ap pool_size (p o) ∙ h ∙ sym (same-in client f inn) ∙ sym (ap in_size c);
}

fits : (a : CommandView) (command : Command) → first_refusal (command_row a command).conditions ≡ None → Fits a.used a.client (command_row a command).effect
unfolding command_row
fits a (Open name in_size size) r = record { room = inl (go a.client r); pool = λ o h. fits-some (empty_pool in_size) (record { waiting = omega arith; heard = heard-none in_size }); size = λ o h. refl }
  where
    go : (c : Option Client) → first_refusal (already_open (record a { client = c }) ∷ bad_name name ∷ bad_sizes in_size size ∷ []) ≡ None → a.used ≤ out_size c → zero + a.used ≤ size
    go None e h = omega arith
    go (Some c) e h = absurd cc
fits a Close r = record { room = inr (refl, λ p. refl); pool = λ o h p e. absurd (none_some p e); size = λ o h. refl }
fits a (CreatePort port name caps) r =
    let f : Client → Client = put_port port (Some (new_port name caps)) in
    fits-same a.used a.client (command_row a (CreatePort port name caps)).effect f (put_port-size port (Some (new_port name caps))) (put_port-in port (Some (new_port name caps))) refl refl (λ p. refl)
fits a (DeletePort port) r =
    let f : Client → Client = put_port port None in
    fits-same a.used a.client (command_row a (DeletePort port)).effect f (put_port-size port None) (put_port-in port None) refl refl (λ p. refl)
fits a (CreateFilter n caps rule) r =
    let f : Client → Client = put_filter n (Some (new_filter caps rule)) in
    fits-same a.used a.client (command_row a (CreateFilter n caps rule)).effect f (put_filter-size n (Some (new_filter caps rule))) (put_filter-in n (Some (new_filter caps rule))) refl refl (λ p. refl)
fits a (SetFilter n rule) r =
    let f : Client → Client = put_filter n (filter_ruled rule (filter_of a.client n)) in
    fits-same a.used a.client (command_row a (SetFilter n rule)).effect f (put_filter-size n (filter_ruled rule (filter_of a.client n))) (put_filter-in n (filter_ruled rule (filter_of a.client n))) refl refl (λ p. refl)
fits a (DeleteFilter n) r =
    let f : Client → Client = put_filter n None in
    fits-same a.used a.client (command_row a (DeleteFilter n)).effect f (put_filter-size n None) (put_filter-in n None) refl refl (λ p. refl)
fits a (Bytes port bytes) r =
    let f : Client → Client = put_port port (port_fed bytes (port_of a.client port)) in
    fits-same a.used a.client (command_row a (Bytes port bytes)).effect f (put_port-size port (port_fed bytes (port_of a.client port))) (put_port-in port (port_fed bytes (port_of a.client port))) refl refl (λ p. refl)
fits a (CreateQueue n ppq tempo) r =
    let f : Client → Client = put_queue n (Some (held_queue (one_tempo ppq tempo))) in
    fits-same a.used a.client (command_row a (CreateQueue n ppq tempo)).effect f (put_queue-size n (Some (held_queue (one_tempo ppq tempo)))) (put_queue-in n (Some (held_queue (one_tempo ppq tempo)))) refl refl (λ p. refl)
fits a (CreateQueueFrom n file) r =
    let f : Client → Client = put_queue n (file_queue (file_at a.files file)) in
    fits-same a.used a.client (command_row a (CreateQueueFrom n file)).effect f (put_queue-size n (file_queue (file_at a.files file))) (put_queue-in n (file_queue (file_at a.files file))) refl refl (λ p. refl)
fits a (DeleteQueue q) r =
    let f : Client → Client = put_queue q.queue None in
    fits-same a.used a.client (command_row a (DeleteQueue q)).effect f (put_queue-size q.queue None) (put_queue-in q.queue None) refl refl (λ p. refl)
fits a (Start q) r =
    let f : Client → Client = put_queue q.queue (queue_map (with_clock (λ c. running_from_zero c a.moment)) (queue_of a.client q.queue)) in
    fits-same a.used a.client (command_row a (Start q)).effect f (put_queue-size q.queue (queue_map (with_clock (λ c. running_from_zero c a.moment)) (queue_of a.client q.queue))) (put_queue-in q.queue (queue_map (with_clock (λ c. running_from_zero c a.moment)) (queue_of a.client q.queue))) refl refl (λ p. refl)
fits a (Stop q) r =
    let f : Client → Client = put_queue q.queue (queue_map (with_clock (λ c. at_rest c a.moment)) (queue_of a.client q.queue)) in
    fits-same a.used a.client (command_row a (Stop q)).effect f (put_queue-size q.queue (queue_map (with_clock (λ c. at_rest c a.moment)) (queue_of a.client q.queue))) (put_queue-in q.queue (queue_map (with_clock (λ c. at_rest c a.moment)) (queue_of a.client q.queue))) refl refl (λ p. refl)
fits a (Continue q) r =
    let f : Client → Client = put_queue q.queue (queue_map (with_clock (λ c. running_on c a.moment)) (queue_of a.client q.queue)) in
    fits-same a.used a.client (command_row a (Continue q)).effect f (put_queue-size q.queue (queue_map (with_clock (λ c. running_on c a.moment)) (queue_of a.client q.queue))) (put_queue-in q.queue (queue_map (with_clock (λ c. running_on c a.moment)) (queue_of a.client q.queue))) refl refl (λ p. refl)
fits a (Tempo q tempo) r =
    let f : Client → Client = put_queue q.queue (queue_map (with_clock (λ c. with_tempo c a.moment tempo)) (queue_of a.client q.queue)) in
    fits-same a.used a.client (command_row a (Tempo q tempo)).effect f (put_queue-size q.queue (queue_map (with_clock (λ c. with_tempo c a.moment tempo)) (queue_of a.client q.queue))) (put_queue-in q.queue (queue_map (with_clock (λ c. with_tempo c a.moment tempo)) (queue_of a.client q.queue))) refl refl (λ p. refl)
fits a (Share q) r =
    let f : Client → Client = put_queue q.queue (queue_map public (queue_of a.client q.queue)) in
    fits-same a.used a.client (command_row a (Share q)).effect f (put_queue-size q.queue (queue_map public (queue_of a.client q.queue))) (put_queue-in q.queue (queue_map public (queue_of a.client q.queue))) refl refl (λ p. refl)
fits a (Schedule q port due message) r =
    let rs : List Condition = not_open a ∷ no_port a port ∷ not_shared a q ∷ none_named a ∷ bad_time a due ∷ [] in
    record { room = inl (one-added a.used (out_size a.client) (last_fails rs refusal.OutFull (a.used == out_size a.client) r)); pool = λ o h. h; size = λ o h. h }
fits a (Play q port file) r =
    let rs : List Condition = not_open a ∷ no_port a port ∷ not_shared a q ∷ none_named a ∷ no_file a file ∷ division_differs a file ∷ [] in
    record { room = inl (one-added a.used (out_size a.client) (last_fails rs refusal.OutFull (a.used == out_size a.client) r)); pool = λ o h. h; size = λ o h. h }
fits a (Receive max) r = record { room = inl (λ h. omega arith); pool = λ o h. fits-taken max o h; size = λ o h. taken-size max o ∙ h }
fits a Listen r = record { room = inl (λ h. omega arith); pool = fits-listening; size = λ o h. listening-size o ∙ h }
fits a Unlisten r = record { room = inl (λ h. omega arith); pool = fits-unlistening; size = λ o h. unlistening-size o ∙ h }
fits a command r = record { room = inl (λ h. omega arith); pool = λ o h. h; size = λ o h. h }

-- ---- after a command of the actor's own

module _ (s : State) (actor : ℕ) (q : Option QueueAddr) (effect : Effect) (b : Bounded s) (a : Fits (playback_count s actor) (FinMap.get s.clients actor) effect) (few : (t : Addr) → sources_of (with_effect s actor q effect).edges t ≤ most_sources) where
  abbrev stays : OwnedPlayback → Bool
  stays p = not (drops actor effect p)

  abbrev new : List OwnedPlayback
  new = filter is_left (map (pending_of actor q) effect.added)

  few-kept : (c : ℕ) → length (filter (mine c) (filter stays s.pending)) ≤ playback_count s c
  few-kept c = fewer-filtered (mine c) stays s.pending

  few-new : (c : ℕ) → length (filter (mine c) new) ≤ length effect.added
  few-new c = omega (arith, fewer (mine c) new, fewer is_left (map (pending_of actor q) effect.added), length-map effect.added (pending_of actor q))

  counted : (c : ℕ) → playback_count (with_effect s actor q effect) c ≡ length (filter (mine c) (filter stays s.pending)) + length (filter (mine c) new)
  counted c = ap length (filter-append (mine c) (filter stays s.pending) new) ∙ length-append (filter (mine c) (filter stays s.pending)) (filter (mine c) new)

  others-new : (c : ℕ) → eqb c actor ≡ false → length (filter (mine c) new) ≡ zero
  others-new c h = ap length (filter-filter (mine c) is_left (map (pending_of actor q) effect.added) ∙ ap (filter is_left) (filter-map (mine c) (pending_of actor q) effect.added ∙ ap (map (pending_of actor q)) (none effect.added)))
    where
      not_mine : (i : Option QueueAddr) (p : Playback) → mine c (pending_of actor i p) ≡ false
      not_mine None p = grind (arith, nat_tests)
      not_mine (Some i) p = grind (arith, nat_tests)

      none : (ps : List Playback) → filter (λ p. mine c (pending_of actor q p)) ps ≡ []
      none [] = refl
      none (p ∷ ps) = ap (λ x. cond x (p ∷ filter (λ y. mine c (pending_of actor q y)) ps) (filter (λ y. mine c (pending_of actor q y)) ps)) (not_mine q p) ∙ none ps

  actor-used : playback_count (with_effect s actor q effect) actor ≤ out_size effect.client
  actor-used = go a.room
    where
      gone : ((p : Playback) → effect.dropped p ≡ true) → (p : OwnedPlayback) → mine actor p ≡ true → stays p ≡ false
      gone d p h = ap (λ x. not ((x && effect.dropped p.playback) || (eqb p.queue.client actor && effect.queue_gone p.queue.queue))) h ∙ ap (λ x. not (x || (eqb p.queue.client actor && effect.queue_gone p.queue.queue))) (d p.playback)

      go : (playback_count s actor ≤ out_size (FinMap.get s.clients actor) → length effect.added + playback_count s actor ≤ out_size effect.client) ⊎ ((effect.added ≡ []) × ((p : Playback) → effect.dropped p ≡ true)) → playback_count (with_effect s actor q effect) actor ≤ out_size effect.client
      go (inl f) =
          let l : length effect.added + playback_count s actor ≤ out_size effect.client = f (b.used actor) in
          omega (arith, counted actor, few-kept actor, few-new actor)
      go (inr g) =
          let kept : length (filter (mine actor) (filter stays s.pending)) ≡ zero = ap length (none-of (mine actor) stays (gone g.1) s.pending) in
          let empty : length effect.added ≡ zero = ap length g.0 in
          omega (arith, counted actor, few-new actor)

  fits-own : (c : ℕ) → FitsPool (FinMap.get (with_effect s actor q effect).pools c)
  fits-own = fits-put s.pools actor (effect.pool (FinMap.get s.pools actor)) (pools-fit s b) (a.pool (FinMap.get s.pools actor) (pools-fit s b actor))

  bounded-own : Bounded (with_effect s actor q effect)
  bounded-own = record {
    waiting = λ c p e. (fits-own c p e).waiting;
    heard = λ c p l e. (fits-own c p e).heard l;
    used = λ c. subst (λ o. playback_count (with_effect s actor q effect) c ≤ out_size o) (sym (get-put s.clients actor effect.client c)) (one c (eqb c actor) refl);
    sources = few;
    sizes = λ c. ap pool_size (get-put s.pools actor (effect.pool (FinMap.get s.pools actor)) c) ∙ two c (eqb c actor) refl ∙ sym (ap in_size (get-put s.clients actor effect.client c));
  }
    where
      two : (c : ℕ) (x : Bool) → eqb c actor ≡ x → pool_size (cond x (effect.pool (FinMap.get s.pools actor)) (FinMap.get s.pools c)) ≡ in_size (cond x effect.client (FinMap.get s.clients c))
      two c true h = a.size (FinMap.get s.pools actor) (b.sizes actor)
      two c false h = b.sizes c

      one : (c : ℕ) (x : Bool) → eqb c actor ≡ x → playback_count (with_effect s actor q effect) c ≤ out_size (cond x effect.client (FinMap.get s.clients c))
      one c true h = subst (λ i. playback_count (with_effect s actor q effect) i ≤ out_size effect.client) (sym (eqb-true c actor h)) actor-used
      one c false h = let l : playback_count s c ≤ out_size (FinMap.get s.clients c) = b.used c in omega (arith, counted c, few-kept c, others-new c h)

-- ---- subscriptions

few-sources : (a : CommandView) (source target : Addr) → first_refusal (command_row a (Connect source target)).conditions ≡ None → sources_of a.edges target < most_sources
unfolding command_row
few-sources a source target e =
    let rs : List Condition = not_open a ∷ no_sender a source ∷ no_dest a target ∷ not_permitted a source target ∷ already_connected a source target ∷ [] in
    leb-false most_sources (sources_of a.edges target) (fifth rs (nat_le most_sources (sources_of a.edges target)) (makes_cycle a.edges source target) e)
  where
    fifth : (rs : List Condition) (x y : Bool) → first_refusal (rs ++ (refusal.SourcesFull, x) ∷ (refusal.Cycle, y) ∷ []) ≡ None → x ≡ false
    fifth [] true y e = absurd cc
    fifth [] false y e = refl
    fifth (r ∷ rs) x y e = step r.1 e (fifth rs x y)
      where
        step : (z : Bool) → cond z (Some r.0) (first_refusal (rs ++ (refusal.SourcesFull, x) ∷ (refusal.Cycle, y) ∷ [])) ≡ None →
            (first_refusal (rs ++ (refusal.SourcesFull, x) ∷ (refusal.Cycle, y) ∷ []) ≡ None → x ≡ false) → x ≡ false
        step true e more = absurd cc
        step false e more = more e

abbrev FewSources : List Edge → Type 0
FewSources edges = (t : Addr) → sources_of edges t ≤ most_sources

few-connected : (edges : List Edge) (source target : Addr) → FewSources edges → sources_of edges target < most_sources → FewSources (with_edge source target edges)
few-connected edges source target b l t =
    subst (λ n. n ≤ most_sources) (sym (ap length (filter-append (λ e. same t e.target) edges (edge source target ∷ [])) ∙ length-append (filter (λ e. same t e.target) edges) (filter (λ e. same t e.target) (edge source target ∷ []))))
    (go (same t target) refl)
  where
    go : (x : Bool) → same t target ≡ x → sources_of edges t + length (cond x (edge source target ∷ []) []) ≤ most_sources
    go true h = let m : sources_of edges t < most_sources = subst (λ i. sources_of edges i < most_sources) (sym (same-is t target h)) l in omega arith
    go false h = let m : sources_of edges t ≤ most_sources = b t in omega arith

few-filtered : (p : Edge → Bool) (edges : List Edge) → FewSources edges → FewSources (filter p edges)
few-filtered p edges b t = let l : sources_of edges t ≤ most_sources = b t in omega (arith, fewer-filtered (λ e. same t e.target) p edges)

-- what a row leaves of the subscriptions
few-row : (a : CommandView) (command : Command) → first_refusal (command_row a command).conditions ≡ None → FewSources a.edges →
    FewSources ((command_row a command).effect.edges (filter (λ e. not (loses a.actor (command_row a command).effect.gone e)) a.edges))
unfolding command_row
few-row a (Connect source target) r b =
    subst (λ es. FewSources (with_edge source target es)) (sym (none-lost a.actor a.edges)) (few-connected a.edges source target b (few-sources a source target r))
few-row a (Disconnect source target) r b =
    let kept : List Edge = filter (λ e. not (loses a.actor (λ _. false) e)) a.edges in
    few-filtered (λ e. not (is_edge source target e)) kept (few-filtered (λ e. not (loses a.actor (λ _. false) e)) a.edges b)
few-row a command r b = few-filtered (λ e. not (loses a.actor (command_row a command).effect.gone e)) a.edges b

-- ---- each step

bounded-settled : (s : State) (m : ℕ) → Bounded s → Bounded (settle s m).state
bounded-settled s m b =
    let offered : (c : ℕ) → FitsPool (FinMap.get (settle s m).state.pools c) = fits-offered s.pools (flat_map (event_copies s) (due s m)) (pools-fit s b) in
    record {
      waiting = λ c p e. (offered c p e).waiting;
      heard = λ c p l e. (offered c p e).heard l;
      used = λ c. let l : playback_count s c ≤ out_size (FinMap.get s.clients c) = b.used c in omega (arith, used-settled s m c);
      sources = b.sources;
      sizes = λ c. offered-size s.pools (flat_map (event_copies s) (due s m)) c ∙ b.sizes c;
    }

bounded-unless : (s : State) → Bounded s → (o : Option Refusal) (effect : Stepped) → (o ≡ None → Bounded effect.state) → Bounded (unless o s effect).state
bounded-unless s b None effect h = h refl
bounded-unless s b (Some n) effect h = b

pub bounded-command : (files : List PlayedFile) (s : State) (m actor : ℕ) (command : Command) → Bounded s → Bounded (command_step files s m actor command).state
bounded-command files s m actor command b =
    let q : Option QueueAddr = queue_named command in
    let a : CommandView = view_of files s m actor command in
    let effect : Effect = (row_of files s m actor command).effect in
    let u : State = with_effect s actor q effect in
    let ds : List Delivery = send_copies s m actor effect.sends in
    bounded-unless s b (refusal_of files s m actor command) (effect_of files s m actor command) (λ e.
    let after : Bounded u = bounded-own s actor q effect b (fits a command e) (few-row a command e b.sources) in
    let offered : (c : ℕ) → FitsPool (FinMap.get (pools_after u.pools ds) c) = fits-offered u.pools ds (pools-fit u after) in
    record { waiting = λ c p x. (offered c p x).waiting; heard = λ c p l x. (offered c p x).heard l; used = after.used; sources = after.sources; sizes = λ c. offered-size u.pools ds c ∙ after.sizes c })

bounded-start : Bounded start
unfolding most_sources
bounded-start = record {
  waiting = λ c p e. absurd (none_some p (sym (FinMap.get-empty nat_cmp c) ∙ e));
  heard = λ c p l e f. absurd (none_some p (sym (FinMap.get-empty nat_cmp c) ∙ e));
  used = λ c. omega arith;
  sources = λ t. omega arith;
  sizes = λ c. ap pool_size (FinMap.get-empty nat_cmp c) ∙ sym (ap in_size (FinMap.get-empty nat_cmp c));
}

pub bounds_law : BoundsLaw
bounds_law = record {
  at_first = bounded-start;
  settled = bounded-settled;
  stepped = λ files s i b. bounded-command files (settle s i.moment).state i.moment i.actor i.command (bounded-settled s i.moment b);
}
