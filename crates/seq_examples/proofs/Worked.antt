-- Steps, settling, moments and paths in worked runs: each from what it finds in a state.
use Rattle.std.proofs.Common.{◌≡◌, ℕ, zero, suc, ◌+◌, ◌-◌, ◌*◌, ◌^◌, ◌<◌, max, Bool, true, false, not, cond, eqb, List, [], ◌∷◌, ◌++◌, map, Option, Some, None, Ok, Err, refl, sym, ap, ◌∙◌, arith}
use Rattle.std.specs.List.{filter, flat_map}
use Rattle.std.specs.Ordering.{nat_cmp}
use Rattle.std.specs.FinMap
use Rattle.std.specs.FinMap.{FinMap}
use Rattle.tempo_clock.specs.Clocks.{moment_of, due_time}
use Rattle.tempo_clock.specs.Ticks.{Tempos, nanos_at, numerator, duration, tempo_or, resolution, tick_at, first_tick_from, with_tempo_from}
use Rattle.tempo_clock.specs.Worked.{two_a_second}
use Rattle.tempo_clock.proofs.TickLaws.{ticks_come_back_exactly}
use Rattle.std.specs.Prelude.{nat_le}
use Rattle.tempo_clock.proofs.Searches.{least-is}
use Rattle.tempo_clock.specs.declared.due.Due.{Due}
use Rattle.tempo_clock.proofs.Moments.{moment-running}
use Rattle.node_table.specs.Addresses.{same, is_filter}
use Rattle.node_table.specs.declared.number.Addr.{Addr}
use Rattle.patch_graph.specs.Paths.{paths, hops}
use Rattle.patch_graph.specs.declared.edge.Edge.{Edge}
use Rattle.seq_state.specs.declared.input.Input.{Input}
use Rattle.node_table.specs.declared.number.QueueAddr.{QueueAddr}
use Rattle.seq_state.specs.declared.log.Delivery.{Delivery}
use Rattle.seq_state.specs.declared.log.Reply.{Reply}
use Rattle.seq_state.specs.declared.log.Reply.TheVariants.{Done, Refused}
use Rattle.smf_grammar.specs.Played.{PlayedFile}
use Rattle.seq_state.specs.State.{ClientPool, State, with_entry}
use Rattle.seq_state.specs.declared.refusal.Refusal.{Refusal}
use Rattle.seq_state.specs.Refusals.{number_of}
use Rattle.seq_state.specs.Effect.{Effect}
use Rattle.seq_state.specs.Table.{Row, first_refusal, queue_named}
use Rattle.seq_state.specs.Step.{settle, Settled, with_copies, without_due, event_copies, is_left, playback_after, Stepped, loses, drops, pending_of, with_effect, send_copies, unless, after_effect, row_of, refusal_of, effect_of, command_step, step}
use Rattle.seq_state.specs.Laws.{all_timed, stable_sort}
use Rattle.seq_state.proofs.Lists.{flat_map-agree}
use Rattle.seq_state.proofs.Sorted.{by, sort_law}
use Rattle.patch_graph.proofs.Walked.{walk, hop, paths-walk}
use Rattle.seq_state.proofs.Effects.{get-put, put-same, patch_step}

-- ---- states

abbrev pub to : State → List Delivery → Reply → Stepped
to s ds reply = record { state = s; delivered = ds; reply = reply }

abbrev pub settled_to : State → List Delivery → Settled
settled_to s ds = record { state = s; delivered = ds }

-- the state with the actor's own changed, but for its input pool
abbrev pub moved : State → ℕ → Option QueueAddr → Effect → State
moved s actor q effect =
    record {
      clients = with_entry s.clients actor effect.client;
      pools = s.pools;
      edges = effect.edges (filter (λ e. not (loses actor effect.gone e)) s.edges);
      pending =
          filter (λ p. not (drops actor effect p)) s.pending
          ++ filter is_left (map (pending_of actor q) effect.added);
    }

pub with_own-moved : (s : State) (actor : ℕ) (q : Option QueueAddr) (effect : Effect) →
    ((p : Option ClientPool) → effect.pool p ≡ p) → with_effect s actor q effect ≡ moved s actor q effect
with_own-moved s actor q effect h =
    ap (λ pools. record {
      clients = with_entry s.clients actor effect.client;
      pools = pools;
      edges = effect.edges (filter (λ e. not (loses actor effect.gone e)) s.edges);
      pending =
          filter (λ p. not (drops actor effect p)) s.pending
          ++ filter is_left (map (pending_of actor q) effect.added);
    }) (ap (with_entry s.pools actor) (h (FinMap.get s.pools actor)) ∙ put-same s.pools actor)

-- ---- steps

-- what a row says of a command
abbrev pub answer : Row → Option Refusal × Effect
answer r = (first_refusal r.conditions, r.effect)

module _ (files : List PlayedFile) (s u : State) (i : Input) (ds : List Delivery)
    (first : settle s i.moment ≡ settled_to u ds) where
  pub command-step : (d : Stepped) → command_step files u i.moment i.actor i.command ≡ d →
      step files s i ≡ to d.state (ds ++ d.delivered) d.reply
  command-step d e =
      ap (λ (x : Settled). let done : Stepped = command_step files x.state i.moment i.actor
      i.command in to done.state (x.delivered ++ done.delivered) done.reply) first
      ∙ ap (λ (x : Stepped). to x.state (ds ++ x.delivered) x.reply) e

  -- a command that is not refused
  pub own-step : (effect : Effect) (v t : State) (es : List Delivery) →
      answer (row_of files u i.moment i.actor i.command) ≡ (None, effect) →
      with_effect u i.actor (queue_named i.command) effect ≡ v →
      with_copies v (send_copies u i.moment i.actor effect.sends) ≡ settled_to t es →
      step files s i ≡ to t (ds ++ es) (effect.reply (FinMap.get u.pools i.actor))
  own-step effect v t es r w e =
      let q : Option QueueAddr = queue_named i.command in
      let reply : Reply = effect.reply (FinMap.get u.pools i.actor) in
      command-step (to t es reply)
      (ap (λ (x : Option Refusal × Effect). unless x.0 u (after_effect u i.moment i.actor q x.1)) r
      ∙ ap (λ x. let a : Settled = with_copies x (send_copies u i.moment i.actor effect.sends) in
      to a.state a.delivered reply) w
      ∙ ap (λ (a : Settled). to a.state a.delivered reply) e)

  -- a refused one
  pub refused-step : (r : Refusal) → refusal_of files u i.moment i.actor i.command ≡ Some r →
      step files s i ≡ to u (ds ++ []) (Refused (number_of r))
  refused-step r e =
      command-step (to u [] (Refused (number_of r)))
      (ap (λ x. unless x u (effect_of files u i.moment i.actor i.command)) e)

  -- a change of the subscriptions that is not refused
  pub patch-step : (f : List Edge → List Edge) → command_step files u i.moment i.actor i.command ≡
      patch_step u (refusal_of files u i.moment i.actor i.command) f →
      refusal_of files u i.moment i.actor i.command ≡ None → step files s i ≡
      to (record u { edges = f u.edges }) (ds ++ []) Done
  patch-step f c e =
      command-step (to (record u { edges = f u.edges }) [] Done) (c ∙ ap (λ x. patch_step u x f) e)

-- ---- settling

pub settle-sorted : (s : State) (m : ℕ) → settle s m ≡
    with_copies (without_due s m) (flat_map (event_copies s)
    (filter (by m) (stable_sort (all_timed s.clients s.pending))))
settle-sorted s m = ap (λ ts. with_copies (without_due s m) (flat_map (event_copies s) ts)) (sort_law s m)

pub settle-still : (s : State) (m : ℕ) → s.pending ≡ [] → settle s m ≡ settled_to s []
settle-still s m e =
    settle-sorted s m
    ∙ ap (λ ps. with_copies (record {
      clients = s.clients;
      pools = s.pools;
      edges = s.edges;
      pending = filter is_left (map (playback_after s.clients m) ps);
    })
    (flat_map (event_copies s) (filter (by m) (stable_sort (all_timed s.clients ps))))) e
    ∙ ap (λ ps. settled_to (record {
      clients = s.clients;
      pools = s.pools;
      edges = s.edges;
      pending = ps;
    }) []) (sym e)

-- an event on a clock that runs since a moment, from a time on, and when it is sent
abbrev pub IsDue : Tempos → ℕ → ℕ → ℕ → Due → Option ℕ → Type 0
IsDue tempos time since accepted due moment =
    moment_of (record { map = tempos; time = time; since = Some since }) accepted due ≡ moment

-- the moment of an event on a clock that runs, where there is one
pub clock-moment : (tempos : Tempos) (time since accepted d : ℕ) (due : Due) → d ≡
    due_time tempos due → max (since + (d - time)) accepted < 2 ^ 64 →
    IsDue tempos time since accepted due (Some (max (since + (d - time)) accepted))
clock-moment tempos time since accepted d due e h =
    sym (moment-running {E = ℕ} tempos time since accepted d due e
    (Ok (max (since + (d - time)) accepted)) (h, refl))

pub clock-never : (tempos : Tempos) (time since accepted d : ℕ) (due : Due) → d ≡
    due_time tempos due → (max (since + (d - time)) accepted < 2 ^ 64 → ⊥) →
    IsDue tempos time since accepted due None
clock-never tempos time since accepted d due e h =
    sym (moment-running tempos time since accepted d due e (Err zero) h)

-- at 0 no tick but the first has come
pub tick-at_first : tick_at two_a_second 0 ≡ 0
unfolding nanos_at numerator duration tempo_or resolution
tick-at_first = ticks_come_back_exactly two_a_second 0 (omega arith) (omega arith) (omega arith)

pub tick-at_one : tick_at two_a_second 1041667 ≡ 1
unfolding nanos_at numerator duration tempo_or resolution
tick-at_one = ticks_come_back_exactly two_a_second 1 (omega arith) (omega arith) (omega arith)

-- tick 2 comes half a tick sooner where the tempo doubles at tick 1
pub tick-at_second : tick_at (with_tempo_from two_a_second 1 250000) 1562500 ≡ 2
unfolding nanos_at numerator duration tempo_or resolution
tick-at_second =
    ticks_come_back_exactly (with_tempo_from two_a_second 1 250000) 2 (omega arith) (omega arith)
    (omega arith)

-- after 1,000 ns the next tick is the first
pub first-tick : first_tick_from two_a_second 1000 ≡ Some 1
unfolding first_tick_from numerator duration tempo_or resolution
first-tick =
    least-is (λ tick. nat_le (1000 * resolution two_a_second) (numerator two_a_second tick))
    (2 ^ 64 - 1) 1 (omega arith) refl (λ n h. let z : n ≡ 0 = omega arith in
    ap (λ k. nat_le (1000 * resolution two_a_second) (numerator two_a_second k)) z)

-- ---- paths, where only those that go on are followed

unfoldable pub ways : ℕ → List Edge → Addr → List (List Edge)
ways zero edges a = []
ways (suc n) edges a =
    flat_map (λ e. elim (same a e.source) as (λ _. List (List Edge)) [
      | true ↦ elim (is_filter e.target) as (λ _. List (List Edge))
          [ true ↦ map (λ es. e ∷ es) (ways n edges e.target) | false ↦ (e ∷ []) ∷ [] ]
      | false ↦ []
    ]) edges

walk-ways : (n : ℕ) (edges : List Edge) (a : Addr) → walk n edges a ≡ ways n edges a
unfolding walk ways
walk-ways zero edges a = refl
walk-ways (suc n) edges a =
    flat_map-agree (hop n edges a) (λ e. way e (same a e.source) (is_filter e.target))
    (λ e. one e (same a e.source) (is_filter e.target) (walk-ways n edges e.target)) edges
  where
    way : Edge → Bool → Bool → List (List Edge)
    way e b c = elim b as (λ _. List (List Edge)) [
      | true ↦ elim c as (λ _. List (List Edge))
          [ true ↦ map (λ es. e ∷ es) (ways n edges e.target) | false ↦ (e ∷ []) ∷ [] ]
      | false ↦ []
    ]

    one : (e : Edge) (b c : Bool) → walk n edges e.target ≡ ways n edges e.target →
        cond b (cond c (map (λ es. e ∷ es) (walk n edges e.target)) ((e ∷ []) ∷ [])) [] ≡ way e b c
    one e true true more = ap (map (λ es. e ∷ es)) more
    one e true false more = refl
    one e false c more = refl

pub paths-ways : (edges : List Edge) (a : Addr) → paths edges a ≡ ways 8 edges a
unfolding hops
paths-ways edges a = paths-walk edges a ∙ walk-ways 8 edges a

-- ---- look-ups

pub get-inserted : {X : Type 0} (m : FinMap nat_cmp X) (k : ℕ) (x : X) (q : ℕ) →
    FinMap.get (FinMap.insert m k x) q ≡ cond (eqb q k) (Some x) (FinMap.get m q)
get-inserted m k x q = get-put m k (Some x) q

pub get-removed : {X : Type 0} (m : FinMap nat_cmp X) (k q : ℕ) → FinMap.get (FinMap.remove m k) q ≡
    cond (eqb q k) None (FinMap.get m q)
get-removed m k q = get-put m k None q

pub get-none : {X : Type 0} (q : ℕ) → FinMap.get {X = X} (FinMap.empty {R = nat_cmp}) q ≡ None
get-none q = FinMap.get-empty nat_cmp q

-- what is found in the maps of a worked state
pub ruleset finds = (get-inserted, get-removed, get-none)
