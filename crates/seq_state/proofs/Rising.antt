-- The moments of what is delivered never fall, and no queue shows more than the moment.
use Rattle.std.proofs.Common.{◌≡◌, ◌≤◌, ◌<◌, ℕ, zero, suc, Bool, true, false, not, cond, eqb, ◌&&◌, ◌⊎◌, inl, inr, List, [], ◌∷◌, ◌++◌, map, Option, Some, None, refl, sym, ap, subst, ◌∙◌, ◌+◌, ◌-◌, ◌*◌, ◌/◌, ◌%◌, arith}
use Rattle.std.specs.Prelude.{nat_le}
use Rattle.std.specs.List.{filter, filter_map, cons_option, flat_map, list_all}
use Rattle.std.specs.Ordering.{nat_cmp}
use Rattle.std.specs.FinMap
use Rattle.std.specs.FinMap.{FinMap}
use Rattle.std.proofs.lemmas.Bool.Decides.{nat_tests}
use Rattle.std.proofs.lemmas.Bool.{eqb-true, eq-eqb, leb-true, le-leb, ltb-true, cases_lt}
use Rattle.tempo_clock.specs.Clocks.{Clock, running_from_zero, at_rest, running_on, with_tempo, changed_from, elapsed_time, runs_by, moment_of}
use Rattle.tempo_clock.specs.Entries.{is_ppq}
use Rattle.tempo_clock.specs.Laws.{IsToldBy}
use Rattle.tempo_clock.specs.Ticks.{Tempos, resolution, first_tick_from}
use Rattle.tempo_clock.specs.declared.due.Due.{Due}
use Rattle.tempo_clock.proofs.ClockLaws.{clocks_begin, clocks_go_on}
use Rattle.tempo_clock.proofs.MomentLaws.{moments_are_later, tempo_keeps_moments}
use Rattle.tempo_clock.proofs.Moments.{moment-held}
use Rattle.node_table.specs.declared.number.Addr.{Addr}
use Rattle.node_table.specs.declared.number.Node.{Node}
use Rattle.node_table.specs.declared.number.Node.TheVariants.{Port, Filter}
use Rattle.patch_graph.specs.Paths.{paths, end_of}
use Rattle.patch_graph.specs.declared.edge.Edge.{Edge}
use Rattle.seq_state.specs.declared.input.Command.{Command}
use Rattle.seq_state.specs.declared.input.Command.TheVariants.{Open, Close, CreatePort, DeletePort, CreateFilter, SetFilter, DeleteFilter, Bytes, CreateQueue, CreateQueueFrom, DeleteQueue, Start, Stop, Continue, Tempo, Share, Schedule, Play}
use Rattle.seq_state.specs.declared.input.Input.{Input}
use Rattle.node_table.specs.declared.number.QueueAddr.{QueueAddr}
use Rattle.seq_state.specs.declared.log.Delivery.{Delivery}
use Rattle.seq_state.specs.declared.log.LogEntry.{LogEntry}
use Rattle.seq_state.specs.declared.log.LogEntry.TheVariants.{Delivered, Replied}
use Rattle.seq_state.specs.declared.refusal.Refusal.{Refusal}
use Rattle.seq_state.specs.declared.refusal.Refusal.TheVariants as refusal
use Rattle.smf_grammar.specs.Played.{PlayedFile}
use Rattle.seq_state.specs.State.{PortInfo, FilterInfo, Queue, Client, ClientPool, DueMessage, Playback, OwnedPlayback, State, start, queues_of, with_entry}
use Rattle.seq_state.specs.Copies.{copy, delivery, copy_on_path, copies}
use Rattle.seq_state.specs.Effect.{Effect, with_change, put_port, port_fed, port_of, put_filter, filter_ruled, filter_of, queue_of, put_queue, with_clock, public, new_port, new_filter, held_queue, one_tempo, file_queue, file_at, queue_map}
use Rattle.seq_state.specs.Table.{CommandView, Condition, first_refusal, not_open, queue_exists, bad_tempo, queue_named, command_row}
use Rattle.seq_state.specs.Step.{pool_has_room, offer, copies_with_room, Timed, moment_in, event_moment, is_by, playback_after, is_left, due, port_addr, event_copies, Settled, settle, Stepped, drops, pending_of, with_effect, send_copies, unless, view_of, row_of, refusal_of, effect_of, command_step, step, log_from, IsTimedFrom}
use Rattle.seq_state.specs.Laws.{IsByMoment, timed_at, timed_of, all_timed, with_timed, stable_sort, has_ticks, deliveries_of, NeverFall, RisingLaw, from_now, is_fresh, Ready, ReadyLaw}
use Rattle.seq_state.proofs.Lists.{both_left, both_right, and_both, list_all-append, list_all-weaker, list_all-filter, list_all-passed, list_all-flat_map, list_all-map, list_all-always}
use Rattle.seq_state.proofs.Order.{due_law}
use Rattle.seq_state.proofs.Sorted.{sort_law}
use Rattle.seq_state.proofs.Effects.{get-put}

-- ---- lists of deliveries

abbrev from : ℕ → Delivery → Bool
from m d = nat_le m d.moment

abbrev until : ℕ → Delivery → Bool
until m d = nat_le d.moment m

abbrev all_from : ℕ → List Delivery → Type 0
all_from m ds = list_all (from m) ds ≡ true

abbrev all_until : ℕ → List Delivery → Type 0
all_until m ds = list_all (until m) ds ≡ true

abbrev pub all_at : ℕ → List Delivery → Type 0
all_at m ds = list_all (λ d. eqb d.moment m) ds ≡ true

at-from : (m : ℕ) (ds : List Delivery) → all_at m ds → all_from m ds
at-from m ds h = list_all-weaker (λ d. eqb d.moment m) (from m) (λ d e. grind (arith, nat_tests)) ds h

at-until : (m : ℕ) (ds : List Delivery) → all_at m ds → all_until m ds
at-until m ds h = list_all-weaker (λ d. eqb d.moment m) (until m) (λ d e. grind (arith, nat_tests)) ds h

from-earlier : (m n : ℕ) → m ≤ n → (ds : List Delivery) → all_from n ds → all_from m ds
from-earlier m n l ds h = list_all-weaker (from n) (from m) (λ d e. grind (arith, nat_tests)) ds h

one_moment : (m : ℕ) (ds : List Delivery) → all_at m ds → NeverFall ds
one_moment m [] h = tt
one_moment m (d ∷ ds) h =
    let e : d.moment ≡ m = eqb-true d.moment m (both_left (eqb d.moment m) (list_all (λ (x : Delivery). eqb x.moment m) ds) h) in
    let more : all_at m ds = both_right (eqb d.moment m) (list_all (λ (x : Delivery). eqb x.moment m) ds) h in
    (subst (λ n. all_from n ds) (sym e) (at-from m ds more), one_moment m ds more)

never_fall-append : (m : ℕ) (xs ys : List Delivery) → NeverFall xs → NeverFall ys → all_until m xs → all_from m ys → NeverFall (xs ++ ys)
never_fall-append m [] ys p q a b = q
never_fall-append m (x ∷ xs) ys p q a b =
    let l : x.moment ≤ m = leb-true x.moment m (both_left (until m x) (list_all (until m) xs) a) in
    (list_all-append (from x.moment) xs ys p.0 (from-earlier x.moment m l ys b), never_fall-append m xs ys p.1 q (both_right (until m x) (list_all (until m) xs) a) b)

-- what finds room is part of what is offered
pub delivered-all : (p : Delivery → Bool) (pools : FinMap nat_cmp ClientPool) (ds : List Delivery) → list_all p ds ≡ true → list_all p (copies_with_room pools ds) ≡ true
delivered-all p pools [] h = refl
delivered-all p pools (d ∷ ds) h = go (pool_has_room d.moment (FinMap.get pools d.target.client)) (delivered-all p (with_entry pools d.target.client (offer (FinMap.get pools d.target.client) d)) ds (both_right (p d) (list_all p ds) h))
  where
    go : (b : Bool) → list_all p (copies_with_room (with_entry pools d.target.client (offer (FinMap.get pools d.target.client) d)) ds) ≡ true →
        list_all p (cond b (d ∷ copies_with_room (with_entry pools d.target.client (offer (FinMap.get pools d.target.client) d)) ds) (copies_with_room (with_entry pools d.target.client (offer (FinMap.get pools d.target.client) d)) ds)) ≡ true
    go true more = and_both (p d) _ (both_left (p d) (list_all p ds) h) more
    go false more = more

delivered-never_falls : (pools : FinMap nat_cmp ClientPool) (ds : List Delivery) → NeverFall ds → NeverFall (copies_with_room pools ds)
delivered-never_falls pools [] h = tt
delivered-never_falls pools (d ∷ ds) h = go (pool_has_room d.moment (FinMap.get pools d.target.client)) (delivered-never_falls after ds h.1)
  where
    after : FinMap nat_cmp ClientPool
    after = with_entry pools d.target.client (offer (FinMap.get pools d.target.client) d)

    go : (b : Bool) → NeverFall (copies_with_room after ds) → NeverFall (cond b (d ∷ copies_with_room after ds) (copies_with_room after ds))
    go true more = (delivered-all (from d.moment) after ds h.0, more)
    go false more = more

-- ---- copies have their message's moment

list_all-filter_map : {X Y : Type 0} (p : Y → Bool) (f : X → Option Y) → ((x : X) (y : Y) → f x ≡ Some y → p y ≡ true) → (xs : List X) → list_all p (filter_map f xs) ≡ true
list_all-filter_map p f h [] = refl
list_all-filter_map {Y = Y} p f h (x ∷ xs) = go (f x) refl (list_all-filter_map p f h xs)
  where
    go : (o : Option Y) → f x ≡ o → list_all p (filter_map f xs) ≡ true → list_all p (cons_option o (filter_map f xs)) ≡ true
    go None e more = more
    go (Some y) e more = and_both (p y) (list_all p (filter_map f xs)) (h x y e) more

copies-at : (s : State) (m : ℕ) (source : Addr) (message : List ℕ) → all_at m (copies s m source message)
copies-at s m source message = list_all-filter_map (λ d. eqb d.moment m) (λ p. copy m (end_of source p) (copy_on_path s.clients p message)) (λ p d e. at_node p (copy_on_path s.clients p message) d e) (paths s.edges source)
  where
    moment_found : Option Delivery → ℕ
    moment_found None = m
    moment_found (Some d) = d.moment

    at_node : (p : List Edge) (o : Option (List ℕ)) (d : Delivery) → copy m (end_of source p) o ≡ Some d → eqb d.moment m ≡ true
    at_node p None d e = absurd cc
    at_node p (Some x) d e = go (end_of source p).node e
      where
        go : (n : Node) → delivery m (end_of source p).client n x ≡ Some d → eqb d.moment m ≡ true
        go (Port n) e = eq-eqb d.moment m (sym (ap moment_found e))
        go (Filter n) e = absurd cc

event_copies-at : (s : State) (t : Timed) → all_at t.moment (event_copies s t)
event_copies-at s t = copies-at s t.moment (port_addr t.client t.port) t.message

send_copies-at : (s : State) (m actor : ℕ) (sends : List (ℕ × List ℕ)) → all_at m (send_copies s m actor sends)
send_copies-at s m actor [] = refl
send_copies-at s m actor (x ∷ xs) = list_all-append (λ d. eqb d.moment m) (copies s m (port_addr actor x.0) x.1) (send_copies s m actor xs) (copies-at s m (port_addr actor x.0) x.1) (send_copies-at s m actor xs)

-- ---- what is due

copies-from : (s : State) (m : ℕ) (ts : List Timed) → list_all (λ t. nat_le m t.moment) ts ≡ true → all_from m (flat_map (event_copies s) ts)
copies-from s m ts h = list_all-flat_map (from m) (λ t. nat_le m t.moment) (event_copies s) (λ t l. from-earlier m t.moment (leb-true m t.moment l) (event_copies s t) (at-from t.moment (event_copies s t) (event_copies-at s t))) ts h

copies-until : (s : State) (m : ℕ) (ts : List Timed) → list_all (λ t. nat_le t.moment m) ts ≡ true → all_until m (flat_map (event_copies s) ts)
copies-until s m ts h = list_all-flat_map (until m) (λ t. nat_le t.moment m) (event_copies s) (λ t l. list_all-weaker (λ d. eqb d.moment t.moment) (until m) (λ d e. grind (arith, nat_tests)) (event_copies s t) (event_copies-at s t)) ts h

copies-never_fall : (s : State) (ts : List Timed) → IsByMoment ts → NeverFall (flat_map (event_copies s) ts)
copies-never_fall s [] h = tt
copies-never_fall s (t ∷ ts) h =
    never_fall-append t.moment (event_copies s t) (flat_map (event_copies s) ts) (one_moment t.moment (event_copies s t) (event_copies-at s t)) (copies-never_fall s ts h.1)
    (at-until t.moment (event_copies s t) (event_copies-at s t)) (copies-from s t.moment ts h.0)

timed_of-from : (clients : FinMap nat_cmp Client) (m : ℕ) (p : OwnedPlayback) → is_fresh clients m p ≡ true → list_all (λ t. nat_le m t.moment) (timed_of clients p) ≡ true
timed_of-from clients m p h = go p.playback.events h
  where
    one : (e : DueMessage) (o : Option ℕ) (ts : List Timed) → from_now m o ≡ true → list_all (λ t. nat_le m t.moment) ts ≡ true → list_all (λ t. nat_le m t.moment) (cons_option (timed_at p e o) ts) ≡ true
    one e None ts a b = b
    one e (Some k) ts a b = and_both (nat_le m k) (list_all (λ (t : Timed). nat_le m t.moment) ts) a b

    go : (es : List DueMessage) → list_all (λ e. from_now m (event_moment clients p e)) es ≡ true → list_all (λ t. nat_le m t.moment) (filter_map (λ e. timed_at p e (event_moment clients p e)) es) ≡ true
    go [] h = refl
    go (e ∷ es) h =
        let f : DueMessage → Bool = λ x. from_now m (event_moment clients p x) in
        one e (event_moment clients p e) (filter_map (λ x. timed_at p x (event_moment clients p x)) es) (both_left (f e) (list_all f es) h) (go es (both_right (f e) (list_all f es) h))

placed-all : (p : Timed → Bool) (t : Timed) (xs : List Timed) → p t ≡ true → list_all p xs ≡ true → list_all p (with_timed t xs) ≡ true
placed-all p t [] a b = and_both (p t) true a refl
placed-all p t (x ∷ xs) a b = go (nat_le t.moment x.moment) (placed-all p t xs a (both_right (p x) (list_all p xs) b))
  where
    go : (c : Bool) → list_all p (with_timed t xs) ≡ true → list_all p (cond c (t ∷ x ∷ xs) (x ∷ with_timed t xs)) ≡ true
    go true more = and_both (p t) (list_all p (x ∷ xs)) a b
    go false more = and_both (p x) (list_all p (with_timed t xs)) (both_left (p x) (list_all p xs) b) more

sorted-all : (p : Timed → Bool) (ts : List Timed) → list_all p ts ≡ true → list_all p (stable_sort ts) ≡ true
sorted-all p [] h = refl
sorted-all p (t ∷ ts) h = placed-all p t (stable_sort ts) (both_left (p t) (list_all p ts) h) (sorted-all p ts (both_right (p t) (list_all p ts) h))

due-from : (s : State) (now m : ℕ) → list_all (is_fresh s.clients now) s.pending ≡ true → list_all (λ t. nat_le now t.moment) (due s m) ≡ true
due-from s now m h =
    let p : Timed → Bool = λ t. nat_le now t.moment in
    subst (λ ts. list_all p ts ≡ true) (sym (sort_law s m))
    (list_all-filter p (λ t. nat_le t.moment m) (stable_sort (all_timed s.clients s.pending)) (sorted-all p (all_timed s.clients s.pending) (list_all-flat_map p (is_fresh s.clients now) (timed_of s.clients) (timed_of-from s.clients now) s.pending h)))

due-until : (s : State) (m : ℕ) → list_all (λ t. nat_le t.moment m) (due s m) ≡ true
due-until s m = subst (λ ts. list_all (λ t. nat_le t.moment m) ts ≡ true) (sym (sort_law s m)) (list_all-passed (λ t. nat_le t.moment m) (stable_sort (all_timed s.clients s.pending)))

-- ---- what holds of each state of a run

later-told : (c : Clock) (m n : ℕ) → m ≤ n → IsToldBy c m → IsToldBy c n
later-told c m n l h = (clocks_go_on c m n 0 h l).unused

ready-settled : (s : State) (now m : ℕ) → now ≤ m → Ready s now → Ready (settle s m).state m
ready-settled s now m l r = record {
  ticks = r.ticks;
  told = λ c n q e. later-told q.clock now m l (r.told c n q e);
  fresh = list_all-filter (is_fresh s.clients m) is_left (map (playback_after s.clients m) s.pending) (list_all-map (is_fresh s.clients m) (λ p. true) (playback_after s.clients m) (λ p h. left p) s.pending (list_all-always (λ p. true) (λ p. refl) s.pending));
}
  where
    past : (o : Option ℕ) → not (is_by m o) ≡ true → from_now m o ≡ true
    past None h = refl
    past (Some k) h = grind (arith, nat_tests)

    left : (p : OwnedPlayback) → is_fresh s.clients m (playback_after s.clients m p) ≡ true
    left p =
        list_all-weaker (λ e. not (is_by m (event_moment s.clients p e))) (λ e. from_now m (event_moment s.clients p e)) (λ e h. past (event_moment s.clients p e) h)
        (filter (λ e. not (is_by m (event_moment s.clients p e))) p.playback.events) (list_all-passed (λ e. not (is_by m (event_moment s.clients p e))) p.playback.events)

-- ---- one queue after a command

-- A queue follows from what stood under its number: it has ticks and was told no later moment, and its moments are not before now or were those before.
record Follows (m : ℕ) (o : Option Queue) (q : Queue) : Type 0 where
  ticks : ((x : Queue) → o ≡ Some x → 0 < resolution x.clock.map) → 0 < resolution q.clock.map
  told : ((x : Queue) → o ≡ Some x → IsToldBy x.clock m) → IsToldBy q.clock m
  moments : ((x : Queue) → o ≡ Some x → 0 < resolution x.clock.map) → (accepted : ℕ) (d : Due) (k : ℕ) → moment_of q.clock accepted d ≡ Some k → (m ≤ k) ⊎ ((x : Queue) × (o ≡ Some x) × (moment_of x.clock accepted d ≡ Some k))

none_some : {X : Type 0} (x : X) → None ≡ Some x → ⊥
none_some x e = cc

follows-same : (m : ℕ) (o : Option Queue) (q : Queue) → o ≡ Some q → Follows m o q
follows-same m o q e = record { ticks = λ h. h q e; told = λ h. h q e; moments = λ h accepted d k a. inr (q, e, a) }

no_moment : (tempos : Tempos) (time accepted : ℕ) (d : Due) (k : ℕ) → moment_of (record { map = tempos; time = time; since = None }) accepted d ≡ Some k → ⊥
no_moment tempos time accepted d k e = none_some k (sym (moment-held tempos time accepted d) ∙ e)

-- a clock that runs from m on has no moment before
runs_from : (c : Clock) (m accepted : ℕ) (d : Due) (k : ℕ) → c.since ≡ Some m → moment_of c accepted d ≡ Some k → m ≤ k
runs_from c m accepted d k s e = leb-true m k (sym (ap (λ o. runs_by o k) s) ∙ (moments_are_later c accepted d k e).1)

follows-new : (m : ℕ) (o : Option Queue) (tempos : Tempos) (shared : Bool) → 0 < resolution tempos → Follows m o (record { clock = record { map = tempos; time = 0; since = None }; shared = shared })
follows-new m o tempos shared h = record { ticks = λ x. h; told = λ x. clocks_begin tempos m; moments = λ x accepted d k e. absurd (no_moment tempos 0 accepted d k e) }

follows-started : (m : ℕ) (x : Queue) → Follows m (Some x) (with_clock (λ c. running_from_zero c m) x)
follows-started m x = record {
  ticks = λ h. h x refl;
  told = λ h. (clocks_go_on x.clock m m 0 (h x refl) (omega arith)).start;
  moments = λ h accepted d k e. inl (runs_from (running_from_zero x.clock m) m accepted d k refl e);
}

follows-stopped : (m : ℕ) (x : Queue) → Follows m (Some x) (with_clock (λ c. at_rest c m) x)
follows-stopped m x = record {
  ticks = λ h. h x refl;
  told = λ h. (clocks_go_on x.clock m m 0 (h x refl) (omega arith)).stop;
  moments = λ h accepted d k e. absurd (no_moment x.clock.map (elapsed_time x.clock m) accepted d k e);
}

follows-resumed : (m : ℕ) (x : Queue) → Follows m (Some x) (with_clock (λ c. running_on c m) x)
follows-resumed m x = record {
  ticks = λ h. h x refl;
  told = λ h. (clocks_go_on x.clock m m 0 (h x refl) (omega arith)).resume;
  moments = λ h accepted d k e. inl (runs_from (running_on x.clock m) m accepted d k refl e);
}

same_resolution : (tempos : Tempos) (o : Option ℕ) (tempo : ℕ) → resolution (changed_from tempos o tempo) ≡ resolution tempos
unfolding resolution
same_resolution tempos None tempo = refl
same_resolution tempos (Some tick) tempo = refl

follows-tempo : (m tempo : ℕ) (x : Queue) → Follows m (Some x) (with_clock (λ c. with_tempo c m tempo) x)
follows-tempo m tempo x = record {
  ticks = λ h. subst (λ n. 0 < n) (sym (same_resolution x.clock.map (first_tick_from x.clock.map (elapsed_time x.clock m)) tempo)) (h x refl);
  told = λ h. (clocks_go_on x.clock m m tempo (h x refl) (omega arith)).set_tempo;
  moments = λ h accepted d k e. go accepted d k (h x refl) e (cases_lt k m);
}
  where
    go : (accepted : ℕ) (d : Due) (k : ℕ) → 0 < resolution x.clock.map → moment_of (with_tempo x.clock m tempo) accepted d ≡ Some k → (k < m) ⊎ (m ≤ k) → (m ≤ k) ⊎ ((y : Queue) × (Some x ≡ Some y) × (moment_of y.clock accepted d ≡ Some k))
    go accepted d k p e (inr l) = inl l
    go accepted d k p e (inl l) = inr (x, refl, (tempo_keeps_moments x.clock m tempo accepted d k p l).1 e)

follows-shared : (m : ℕ) (x : Queue) → Follows m (Some x) (record x { shared = true })
follows-shared m x = record { ticks = λ h. h x refl; told = λ h. h x refl; moments = λ h accepted d k e. inr (x, refl, e) }

-- ---- a client's queues after a command

abbrev AllFollow : ℕ → Option Client → Option Client → Type 0
AllFollow m client after = (n : ℕ) (q : Queue) → FinMap.get (queues_of after) n ≡ Some q → Follows m (FinMap.get (queues_of client) n) q

all-same : (m : ℕ) (client : Option Client) → AllFollow m client client
all-same m client n q e = follows-same m (FinMap.get (queues_of client) n) q e

none-left : (m : ℕ) (client : Option Client) → AllFollow m client None
none-left m client n q e = absurd (none_some q (sym (FinMap.get-empty nat_cmp n) ∙ e))

others-change : (m : ℕ) (client : Option Client) (f : Client → Client) → ((c : Client) → (f c).queues ≡ c.queues) → AllFollow m client (with_change client f)
others-change m None f h n q e = absurd (none_some q (sym (FinMap.get-empty nat_cmp n) ∙ e))
others-change m (Some c) f h n q e = follows-same m (FinMap.get c.queues n) q (ap (λ qs. FinMap.get qs n) (sym (h c)) ∙ e)

put_port-queues : (n : ℕ) (o : Option PortInfo) (c : Client) → (put_port n o c).queues ≡ c.queues
put_port-queues n None c = refl
put_port-queues n (Some p) c = refl

put_filter-queues : (n : ℕ) (o : Option FilterInfo) (c : Client) → (put_filter n o c).queues ≡ c.queues
put_filter-queues n None c = refl
put_filter-queues n (Some f) c = refl

put_queue-queues : (n : ℕ) (o : Option Queue) (c : Client) → (put_queue n o c).queues ≡ with_entry c.queues n o
put_queue-queues n None c = refl
put_queue-queues n (Some q) c = refl

one-changes : (m : ℕ) (client : Option Client) (n : ℕ) (o : Option Queue) → ((q : Queue) → o ≡ Some q → Follows m (FinMap.get (queues_of client) n) q) → AllFollow m client (with_change client (put_queue n o))
one-changes m None n o h j q e = absurd (none_some q (sym (FinMap.get-empty nat_cmp j) ∙ e))
one-changes m (Some c) n o h j q e = go (eqb j n) refl (sym (get-put c.queues n o j) ∙ ap (λ qs. FinMap.get qs j) (sym (put_queue-queues n o c)) ∙ e)
  where
    go : (b : Bool) → eqb j n ≡ b → cond (eqb j n) o (FinMap.get c.queues j) ≡ Some q → Follows m (FinMap.get c.queues j) q
    go true t f = subst (λ i. Follows m (FinMap.get c.queues i) q) (sym (eqb-true j n t)) (h q (ap (λ b. cond b o (FinMap.get c.queues j)) (sym t) ∙ f))
    go false t f = follows-same m (FinMap.get c.queues j) q (ap (λ b. cond b o (FinMap.get c.queues j)) (sym t) ∙ f)

mapped : (m : ℕ) (f : Queue → Queue) → ((x : Queue) → Follows m (Some x) (f x)) → (o : Option Queue) (q : Queue) → queue_map f o ≡ Some q → Follows m o q
mapped m f h None q e = absurd (none_some q e)
mapped m f h (Some x) q e = subst (λ (y : Queue). Follows m (Some x) y) some_inj (h x)
  where
    unwrapped : Option Queue → Queue
    unwrapped None = f x
    unwrapped (Some y) = y

    some_inj : f x ≡ q
    some_inj = ap unwrapped e

-- ---- each row

record Steady (m : ℕ) (client : Option Client) (effect : Effect) : Type 0 where
  queues : AllFollow m client effect.client
  added : list_all (λ p. eqb p.accepted m) effect.added ≡ true

now-added : (m : ℕ) → (eqb m m && true) ≡ true
now-added m = and_both (eqb m m) true (eq-eqb m m refl) refl

-- the second condition does not hold of a row that is not refused
second_fails : (a : Condition) (n : Refusal) (b : Bool) (rest : List Condition) → first_refusal (a ∷ (n, not b) ∷ rest) ≡ None → b ≡ true
second_fails a n b rest e = go a.1 b e
  where
    go : (x y : Bool) → cond x (Some a.0) (cond (not y) (Some n) (first_refusal rest)) ≡ None → y ≡ true
    go x true e = refl
    go true false e = absurd cc
    go false false e = absurd cc

ppq-ticks : (ppq tempo : ℕ) → is_ppq ppq ≡ true → 0 < resolution (one_tempo ppq tempo)
unfolding resolution
ppq-ticks ppq tempo h = go (nat_le 32768 ppq) refl
  where
    low : 1 ≤ ppq
    low = leb-true 1 ppq (both_left (nat_le 1 ppq) (nat_le ppq 32767) h)

    high : ppq ≤ 32767
    high = leb-true ppq 32767 (both_right (nat_le 1 ppq) (nat_le ppq 32767) h)

    go : (b : Bool) → nat_le 32768 ppq ≡ b → 0 < cond b ((256 - ppq / 256) * (ppq % 256)) ppq
    go true e = let l : 32768 ≤ ppq = leb-true 32768 ppq e in let h : ppq ≤ 32767 = high in absurd (omega arith)
    go false e = let l : 1 ≤ ppq = low in let p : 0 < ppq = omega arith in p

only_one : (x y : Queue) → ◌≡◌ {A = Option Queue} (Some x) (Some y) → x ≡ y
only_one x y e = ap unwrapped e
  where
    unwrapped : Option Queue → Queue
    unwrapped None = x
    unwrapped (Some z) = z

file-follows : (m : ℕ) (o : Option Queue) (files : List PlayedFile) (n : ℕ) (q : Queue) → list_all has_ticks files ≡ true → file_queue (file_at files n) ≡ Some q → Follows m o q
file-follows m o [] zero q h e = absurd (none_some q e)
file-follows m o [] (suc n) q h e = absurd (none_some q e)
file-follows m o (f ∷ files) zero q h e =
    let tempos : Tempos = record { division = f.division; entries = f.entries } in
    subst (λ (y : Queue). Follows m o y) (only_one (record { clock = record { map = tempos; time = 0; since = None }; shared = false }) q e) (follows-new m o tempos false (ltb-true 0 (resolution tempos) (both_left (has_ticks f) (list_all has_ticks files) h)))
file-follows m o (f ∷ files) (suc n) q h e = file-follows m o files n q (both_right (has_ticks f) (list_all has_ticks files) h) e

steady : (a : CommandView) → list_all has_ticks a.files ≡ true → (command : Command) → first_refusal (command_row a command).conditions ≡ None → Steady a.moment a.client (command_row a command).effect
unfolding command_row
steady a ok (Open name in_size out_size) r = record { queues = none-left a.moment a.client; added = refl }
steady a ok Close r = record { queues = none-left a.moment a.client; added = refl }
steady a ok (CreatePort port name caps) r =
    let info : Option PortInfo = Some (new_port name caps) in
    record { queues = others-change a.moment a.client (put_port port info) (put_port-queues port info); added = refl }
steady a ok (DeletePort port) r = record { queues = others-change a.moment a.client (put_port port None) (put_port-queues port None); added = refl }
steady a ok (CreateFilter n caps rule) r =
    let info : Option FilterInfo = Some (new_filter caps rule) in
    record { queues = others-change a.moment a.client (put_filter n info) (put_filter-queues n info); added = refl }
steady a ok (SetFilter n rule) r =
    let info : Option FilterInfo = filter_ruled rule (filter_of a.client n) in
    record { queues = others-change a.moment a.client (put_filter n info) (put_filter-queues n info); added = refl }
steady a ok (DeleteFilter n) r = record { queues = others-change a.moment a.client (put_filter n None) (put_filter-queues n None); added = refl }
steady a ok (Bytes port bytes) r =
    let info : Option PortInfo = port_fed bytes (port_of a.client port) in
    record { queues = others-change a.moment a.client (put_port port info) (put_port-queues port info); added = refl }
steady a ok (CreateQueue n ppq tempo) r =
    let new : Queue = held_queue (one_tempo ppq tempo) in
    let ticks : 0 < resolution new.clock.map = ppq-ticks ppq tempo (second_fails (not_open a) refusal.BadSize (is_ppq ppq) (queue_exists a n ∷ bad_tempo tempo ∷ []) r) in
    record {
      queues = one-changes a.moment a.client n (Some new) (λ q e. subst (λ (y : Queue). Follows a.moment (queue_of a.client n) y) (only_one new q e) (follows-new a.moment (queue_of a.client n) new.clock.map false ticks));
      added = refl;
    }
steady a ok (CreateQueueFrom n file) r = record { queues = one-changes a.moment a.client n (file_queue (file_at a.files file)) (λ q e. file-follows a.moment (queue_of a.client n) a.files file q ok e); added = refl }
steady a ok (DeleteQueue q) r = record { queues = one-changes a.moment a.client q.queue None (λ x e. absurd (none_some x e)); added = refl }
steady a ok (Start q) r =
    record { queues = one-changes a.moment a.client q.queue (queue_map (with_clock (λ c. running_from_zero c a.moment)) (queue_of a.client q.queue)) (mapped a.moment (with_clock (λ c. running_from_zero c a.moment)) (follows-started a.moment) (queue_of a.client q.queue)); added = refl }
steady a ok (Stop q) r =
    record { queues = one-changes a.moment a.client q.queue (queue_map (with_clock (λ c. at_rest c a.moment)) (queue_of a.client q.queue)) (mapped a.moment (with_clock (λ c. at_rest c a.moment)) (follows-stopped a.moment) (queue_of a.client q.queue)); added = refl }
steady a ok (Continue q) r =
    record { queues = one-changes a.moment a.client q.queue (queue_map (with_clock (λ c. running_on c a.moment)) (queue_of a.client q.queue)) (mapped a.moment (with_clock (λ c. running_on c a.moment)) (follows-resumed a.moment) (queue_of a.client q.queue)); added = refl }
steady a ok (Tempo q tempo) r =
    record {
      queues = one-changes a.moment a.client q.queue (queue_map (with_clock (λ c. with_tempo c a.moment tempo)) (queue_of a.client q.queue)) (mapped a.moment (with_clock (λ c. with_tempo c a.moment tempo)) (follows-tempo a.moment tempo) (queue_of a.client q.queue));
      added = refl;
    }
steady a ok (Share q) r =
    record { queues = one-changes a.moment a.client q.queue (queue_map public (queue_of a.client q.queue)) (mapped a.moment public (follows-shared a.moment) (queue_of a.client q.queue)); added = refl }
steady a ok (Schedule q port due message) r = record { queues = all-same a.moment a.client; added = now-added a.moment }
steady a ok (Play q port file) r = record { queues = all-same a.moment a.client; added = now-added a.moment }
steady a ok command r = record { queues = all-same a.moment a.client; added = refl }

-- ---- each command

-- an event that was accepted now has no earlier moment
new-from : (m : ℕ) (o : Option Queue) (accepted : ℕ) (e : DueMessage) → accepted ≡ m → from_now m (moment_in o accepted e.due) ≡ true
new-from m None accepted e h = refl
new-from m (Some x) accepted e h = go (moment_of x.clock accepted e.due) refl
  where
    go : (k : Option ℕ) → moment_of x.clock accepted e.due ≡ k → from_now m k ≡ true
    go None f = refl
    go (Some k) f = let l : accepted ≤ k = (moments_are_later x.clock accepted e.due k f).0 in le-leb m k (omega arith)

-- an event with no earlier moment has none after the command
still-from : (m : ℕ) (o after : Option Queue) (accepted : ℕ) (e : DueMessage) → ((x : Queue) → after ≡ Some x → Follows m o x) → ((x : Queue) → o ≡ Some x → 0 < resolution x.clock.map) →
    from_now m (moment_in o accepted e.due) ≡ true → from_now m (moment_in after accepted e.due) ≡ true
still-from m o None accepted e f t h = refl
still-from m o (Some x) accepted e f t h = go (moment_of x.clock accepted e.due) refl
  where
    before : (k : ℕ) → (m ≤ k) ⊎ ((y : Queue) × (o ≡ Some y) × (moment_of y.clock accepted e.due ≡ Some k)) → nat_le m k ≡ true
    before k (inl l) = le-leb m k l
    before k (inr w) = sym (ap (λ i. from_now m (moment_in i accepted e.due)) w.1 ∙ ap (from_now m) w.2) ∙ h

    go : (k : Option ℕ) → moment_of x.clock accepted e.due ≡ k → from_now m k ≡ true
    go None g = refl
    go (Some k) g = before k ((f x refl).moments t accepted e.due k g)

module _ (s : State) (m actor : ℕ) (q : Option QueueAddr) (effect : Effect) (r : Ready s m) (a : Steady m (FinMap.get s.clients actor) effect) where
  abbrev clients : FinMap nat_cmp Client
  clients = with_entry s.clients actor effect.client

  follows : (c n : ℕ) (x : Queue) → FinMap.get (queues_of (FinMap.get clients c)) n ≡ Some x → Follows m (FinMap.get (queues_of (FinMap.get s.clients c)) n) x
  follows c n x e = go (eqb c actor) refl (sym (ap (λ o. FinMap.get (queues_of o) n) (get-put s.clients actor effect.client c)) ∙ e)
    where
      go : (b : Bool) → eqb c actor ≡ b → FinMap.get (queues_of (cond (eqb c actor) effect.client (FinMap.get s.clients c))) n ≡ Some x → Follows m (FinMap.get (queues_of (FinMap.get s.clients c)) n) x
      go true h f =
          subst (λ i. Follows m (FinMap.get (queues_of (FinMap.get s.clients i)) n) x) (sym (eqb-true c actor h))
          (a.queues n x (ap (λ b. FinMap.get (queues_of (cond b effect.client (FinMap.get s.clients c))) n) (sym h) ∙ f))
      go false h f = follows-same m (FinMap.get (queues_of (FinMap.get s.clients c)) n) x (ap (λ b. FinMap.get (queues_of (cond b effect.client (FinMap.get s.clients c))) n) (sym h) ∙ f)

  still-fresh : (p : OwnedPlayback) → is_fresh s.clients m p ≡ true → is_fresh clients m p ≡ true
  still-fresh p h =
      list_all-weaker (λ e. from_now m (event_moment s.clients p e)) (λ e. from_now m (event_moment clients p e))
      (λ e g. still-from m (FinMap.get (queues_of (FinMap.get s.clients p.queue.client)) p.queue.queue) (FinMap.get (queues_of (FinMap.get clients p.queue.client)) p.queue.queue) p.playback.accepted e
      (λ x f. follows p.queue.client p.queue.queue x f) (λ x f. r.ticks p.queue.client p.queue.queue x f) g) p.playback.events h

  new-fresh : (p : Playback) → eqb p.accepted m ≡ true → is_fresh clients m (pending_of actor q p) ≡ true
  new-fresh p h = go q
    where
      at : (c n : ℕ) → list_all (λ e. from_now m (moment_in (FinMap.get (queues_of (FinMap.get clients c)) n) p.accepted e.due)) p.events ≡ true
      at c n = list_all-always (λ e. from_now m (moment_in (FinMap.get (queues_of (FinMap.get clients c)) n) p.accepted e.due)) (λ e. new-from m (FinMap.get (queues_of (FinMap.get clients c)) n) p.accepted e (eqb-true p.accepted m h)) p.events

      go : (i : Option QueueAddr) → is_fresh clients m (pending_of actor i p) ≡ true
      go None = at actor 0
      go (Some i) = at i.client i.queue

  ready-own : Ready (with_effect s actor q effect) m
  ready-own = record {
    ticks = λ c n x e. (follows c n x e).ticks (λ y f. r.ticks c n y f);
    told = λ c n x e. (follows c n x e).told (λ y f. r.told c n y f);
    fresh =
        list_all-append (is_fresh clients m) (filter (λ p. not (drops actor effect p)) s.pending) (filter is_left (map (pending_of actor q) effect.added))
        (list_all-filter (is_fresh clients m) (λ p. not (drops actor effect p)) s.pending (list_all-weaker (is_fresh s.clients m) (is_fresh clients m) still-fresh s.pending r.fresh))
        (list_all-filter (is_fresh clients m) is_left (map (pending_of actor q) effect.added) (list_all-map (is_fresh clients m) (λ p. eqb p.accepted m) (pending_of actor q) new-fresh effect.added a.added));
  }

-- a state is ready, and what was delivered has this moment
pub record IsDone (m : ℕ) (a : Stepped) : Type 0 where
  pub ready : Ready a.state m
  pub at : all_at m a.delivered

unless-done : (m : ℕ) (s : State) → Ready s m → (o : Option Refusal) (effect : Stepped) → (o ≡ None → IsDone m effect) → IsDone m (unless o s effect)
unless-done m s r None effect h = h refl
unless-done m s r (Some n) effect h = record { ready = r; at = refl }

pub command-done : (files : List PlayedFile) → list_all has_ticks files ≡ true → (s : State) (m actor : ℕ) (command : Command) → Ready s m → IsDone m (command_step files s m actor command)
command-done files ok s m actor command r =
    let q : Option QueueAddr = queue_named command in
    let effect : Effect = (row_of files s m actor command).effect in
    unless-done m s r (refusal_of files s m actor command) (effect_of files s m actor command) (λ e.
    let after : Ready (with_effect s actor q effect) m = ready-own s m actor q effect r (steady (view_of files s m actor command) ok command e) in
    record {
      ready = record { ticks = after.ticks; told = after.told; fresh = after.fresh };
      at = delivered-all (λ d. eqb d.moment m) (with_effect s actor q effect).pools (send_copies s m actor effect.sends) (send_copies-at s m actor effect.sends);
    })

-- ---- a run

-- what one step delivers never falls, and is from before the step up to its moment
record IsStep (now m : ℕ) (ds : List Delivery) : Type 0 where
  rises : NeverFall ds
  later : all_from now ds
  by : all_until m ds

settle-step : (s : State) (now m : ℕ) → Ready s now → IsStep now m (settle s m).delivered
settle-step s now m r =
    let ds : List Delivery = flat_map (event_copies s) (due s m) in record {
      rises = delivered-never_falls s.pools ds (copies-never_fall s (due s m) (due_law s m).0);
      later = delivered-all (from now) s.pools ds (copies-from s now (due s m) (due-from s now m r.fresh));
      by = delivered-all (until m) s.pools ds (copies-until s m (due s m) (due-until s m));
    }

input-step : (files : List PlayedFile) → list_all has_ticks files ≡ true → (s : State) (now : ℕ) (i : Input) → now ≤ i.moment → Ready s now → Ready (step files s i).state i.moment × IsStep now i.moment (step files s i).delivered
input-step files ok s now i l r =
    let u : Settled = settle s i.moment in
    let first : IsStep now i.moment u.delivered = settle-step s now i.moment r in
    let a : IsDone i.moment (command_step files u.state i.moment i.actor i.command) = command-done files ok u.state i.moment i.actor i.command (ready-settled s now i.moment l r) in
    let ds : List Delivery = (command_step files u.state i.moment i.actor i.command).delivered in (
      a.ready,
      record {
        rises = never_fall-append i.moment u.delivered ds first.rises (one_moment i.moment ds a.at) first.by (at-from i.moment ds a.at);
        later = list_all-append (from now) u.delivered ds first.later (from-earlier now i.moment l ds (at-from i.moment ds a.at));
        by = list_all-append (until i.moment) u.delivered ds first.by (at-until i.moment ds a.at);
      },
    )

deliveries-append : (ds : List Delivery) (log : List LogEntry) → deliveries_of (map Delivered ds ++ log) ≡ ds ++ deliveries_of log
deliveries-append [] log = refl
deliveries-append (d ∷ ds) log = ap (λ xs. d ∷ xs) (deliveries-append ds log)

deliveries-only : (ds : List Delivery) → deliveries_of (map Delivered ds) ≡ ds
deliveries-only [] = refl
deliveries-only (d ∷ ds) = ap (λ xs. d ∷ xs) (deliveries-only ds)

rising_from : (files : List PlayedFile) → list_all has_ticks files ≡ true → (inputs : List Input) (s : State) (place now end : ℕ) → Ready s now → IsTimedFrom now inputs end →
    NeverFall (deliveries_of (log_from files s place inputs end)) × all_from now (deliveries_of (log_from files s place inputs end))
rising_from files ok [] s place now end r t =
    let a : IsStep now end (settle s end).delivered = settle-step s now end r in
    subst (λ ds. NeverFall ds × all_from now ds) (sym (deliveries-only (settle s end).delivered)) (a.rises, a.later)
rising_from files ok (i ∷ inputs) s place now end r t =
    let a = input-step files ok s now i t.0 r in
    let ds : List Delivery = (step files s i).delivered in
    let more : List LogEntry = log_from files (step files s i).state (place + 1) inputs end in
    let later = rising_from files ok inputs (step files s i).state (place + 1) i.moment end a.0 t.1 in
    subst (λ xs. NeverFall xs × all_from now xs) (sym (deliveries-append ds (Replied place i.moment i.actor (step files s i).reply ∷ more)))
    (never_fall-append i.moment ds (deliveries_of more) a.1.rises later.0 a.1.by later.1, list_all-append (from now) ds (deliveries_of more) a.1.later (from-earlier now i.moment t.0 (deliveries_of more) later.1))

ready-start : Ready start 0
ready-start = record { ticks = λ c n q e. absurd (nobody c n q e); told = λ c n q e. absurd (nobody c n q e); fresh = refl }
  where
    nobody : (c n : ℕ) (q : Queue) → FinMap.get (queues_of (FinMap.get start.clients c)) n ≡ Some q → ⊥
    nobody c n q e = none_some q (sym (ap (λ o. FinMap.get (queues_of o) n) (FinMap.get-empty nat_cmp c) ∙ FinMap.get-empty nat_cmp n) ∙ e)

pub rising_law : RisingLaw
rising_law files inputs end ok t = (rising_from files ok inputs start 0 0 end ready-start t).0

pub ready_law : ReadyLaw
ready_law = record { at_first = ready-start; settled = ready-settled; stepped = λ files ok s now i l r. (input-step files ok s now i l r).0 }
