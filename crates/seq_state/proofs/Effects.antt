-- What the effects of some commands come to.
use Rattle.std.proofs.Common.{◌≡◌, ℕ, Bool, true, false, not, cond, eqb, ◌&&◌, ◌||◌, List, [], ◌∷◌, ◌++◌, Option, Some, None, refl, sym, ap, ◌∙◌, arith, append-nil}
use Rattle.std.specs.List.{filter}
use Rattle.std.specs.Ordering.{nat_cmp, eq_by_cmp}
use Rattle.std.specs.Cmp.{nat_cmp_total}
use Rattle.std.specs.FinMap
use Rattle.std.specs.FinMap.{FinMap}
use Rattle.std.proofs.lemmas.Bool.Decides.{nat_tests}
use Rattle.std.proofs.lemmas.Bool.{false≢true, eqb-true}
use Rattle.node_table.specs.declared.caps.Caps.{Caps}
use Rattle.node_table.specs.declared.number.Addr.{Addr}
use Rattle.patch_graph.specs.declared.edge.Edge.{Edge}
use Rattle.seq_state.specs.declared.input.Command.{Command}
use Rattle.seq_state.specs.declared.input.Command.TheVariants.{Connect, Disconnect, Receive, Listen, Unlisten, PoolStatus}
use Rattle.seq_state.specs.declared.log.Reply.{Reply}
use Rattle.seq_state.specs.declared.log.Reply.TheVariants.{Done, Received}
use Rattle.seq_state.specs.declared.refusal.Refusal.{Refusal}
use Rattle.smf_grammar.specs.Played.{PlayedFile}
use Rattle.seq_state.specs.State.{with_entry, ClientPool, OwnedPlayback, State, Client}
use Rattle.seq_state.specs.Effect.{done_with, oldest, without_oldest, with_listening, without_listening, pool_status}
use Rattle.seq_state.specs.Table.{CommandView, command_row, with_edge, without_edge_of}
use Rattle.seq_state.specs.Step.{loses, drops, Stepped, unless, after_effect, playback_count, refusal_of, command_step}

same_number : (q c : ℕ) → eq_by_cmp nat_cmp q c ≡ eqb q c
same_number q c = grind (arith, nat_tests)

pub get-put : {X : Type 0} (m : FinMap nat_cmp X) (c : ℕ) (o : Option X) (q : ℕ) → FinMap.get (with_entry m c o) q ≡ cond (eqb q c) o (FinMap.get m q)
get-put m c None q = FinMap.get-remove nat_cmp_total m c q ∙ ap (λ b. cond b None (FinMap.get m q)) (same_number q c)
get-put m c (Some x) q = FinMap.get-insert nat_cmp_total m c x q ∙ ap (λ b. cond b (Some x) (FinMap.get m q)) (same_number q c)

pub put-same : {X : Type 0} (m : FinMap nat_cmp X) (k : ℕ) → with_entry m k (FinMap.get m k) ≡ m
put-same m k = FinMap.same_map nat_cmp_total FinMap.nat_cmp-IsAntisymmetric (with_entry m k (FinMap.get m k)) m (λ q. get-put m k (FinMap.get m k) q ∙ go q (eqb q k) refl)
  where
    go : (q : ℕ) (b : Bool) → eqb q k ≡ b → cond (eqb q k) (FinMap.get m k) (FinMap.get m q) ≡ FinMap.get m q
    go q true h = ap (λ b. cond b (FinMap.get m k) (FinMap.get m q)) h ∙ ap (FinMap.get m) (sym (eqb-true q k h))
    go q false h = ap (λ b. cond b (FinMap.get m k) (FinMap.get m q)) h

pub none_some : {X : Type 0} (x : X) → None ≡ Some x → ⊥
none_some x e = cc

-- where none of a client's nodes goes, no edge goes
pub none-lost : (actor : ℕ) (es : List Edge) → filter (λ e. not (loses actor (λ _. false) e)) es ≡ es
none-lost actor [] = refl
none-lost actor (e ∷ es) = ap (λ b. cond b (e ∷ filter (λ x. not (loses actor (λ _. false) x)) es) (filter (λ x. not (loses actor (λ _. false) x)) es)) (stays_on (eqb e.source.client actor) (eqb e.target.client actor)) ∙ ap (λ xs. e ∷ xs) (none-lost actor es)
  where
    stays_on : (x y : Bool) → not ((x && false) || (y && false)) ≡ true
    stays_on x y = grind arith

-- where none of its playbacks and queues goes, nothing pending goes
pub none-dropped : (actor : ℕ) (client : Option Client) (ps : List OwnedPlayback) → filter (λ p. not (drops actor (done_with client) p)) ps ≡ ps
none-dropped actor client [] = refl
none-dropped actor client (p ∷ ps) =
    ap (λ b. cond b (p ∷ filter (λ x. not (drops actor (done_with client) x)) ps) (filter (λ x. not (drops actor (done_with client) x)) ps)) (stays_on (eqb p.client actor) (eqb p.queue.client actor)) ∙ ap (λ xs. p ∷ xs) (none-dropped actor client ps)
  where
    stays_on : (x y : Bool) → not ((x && false) || (y && false)) ≡ true
    stays_on x y = grind arith

-- ---- rows that change the subscriptions alone, and all others

abbrev pub is_patch : Command → Bool
is_patch (Connect source target) = true
is_patch (Disconnect source target) = true
is_patch _ = false

-- no other row looks at the nodes of others and at the subscriptions
pub same_row : (a : CommandView) (nodes : Addr → Option Caps) (edges : List Edge) (command : Command) → is_patch command ≡ false → command_row a command ≡ command_row (record a { nodes = nodes; edges = edges }) command
unfolding command_row
same_row a nodes edges (Connect source target) h = absurd (false≢true (sym h))
same_row a nodes edges (Disconnect source target) h = absurd (false≢true (sym h))
same_row a nodes edges command h = refl

-- nor changes them but by what goes with a node
pub edges_stay : (a : CommandView) (command : Command) → is_patch command ≡ false → (es : List Edge) → (command_row a command).effect.edges es ≡ es
unfolding command_row
edges_stay a (Connect source target) h es = absurd (false≢true (sym h))
edges_stay a (Disconnect source target) h es = absurd (false≢true (sym h))
edges_stay a command h es = refl

-- the subscriptions changed
abbrev pub patched : State → (List Edge → List Edge) → Stepped
patched s f = record { state = record s { edges = f s.edges }; delivered = []; reply = Done }

pub after-patch : (s : State) (moment actor : ℕ) (f : List Edge → List Edge) → after_effect s moment actor None (record (done_with (FinMap.get s.clients actor)) { edges = f }) ≡ patched s f
after-patch s moment actor f =
    let to : FinMap nat_cmp Client → FinMap nat_cmp ClientPool → List Edge → List OwnedPlayback → Stepped = λ clients pools edges pending. record { state = record { clients = clients; pools = pools; edges = f edges; pending = pending }; delivered = []; reply = Done } in
    let o : Option Client = FinMap.get s.clients actor in
    let pools : FinMap nat_cmp ClientPool = with_entry s.pools actor (FinMap.get s.pools actor) in
    let edges : List Edge = filter (λ e. not (loses actor (λ _. false) e)) s.edges in
    let pending : List OwnedPlayback = filter (λ p. not (drops actor (done_with o) p)) s.pending in
    ap (λ x. to x pools edges (pending ++ [])) (put-same s.clients actor)
    ∙ ap (λ x. to s.clients x edges (pending ++ [])) (put-same s.pools actor)
    ∙ ap (λ x. to s.clients s.pools x (pending ++ [])) (none-lost actor s.edges)
    ∙ ap (λ x. to s.clients s.pools s.edges x) (append-nil pending ∙ none-dropped actor o s.pending)

-- a step that changes the subscriptions, where this refusal stands or none
abbrev pub patch_step : State → Option Refusal → (List Edge → List Edge) → Stepped
patch_step s refusal f = unless refusal s (patched s f)

pub step-connects : (files : List PlayedFile) (s : State) (moment actor : ℕ) (source target : Addr) →
    command_step files s moment actor (Connect source target) ≡ patch_step s (refusal_of files s moment actor (Connect source target)) (with_edge source target)
unfolding command_row
step-connects files s moment actor source target = ap (unless (refusal_of files s moment actor (Connect source target)) s) (after-patch s moment actor (with_edge source target))

pub step-parts : (files : List PlayedFile) (s : State) (moment actor : ℕ) (source target : Addr) →
    command_step files s moment actor (Disconnect source target) ≡ patch_step s (refusal_of files s moment actor (Disconnect source target)) (without_edge_of source target)
unfolding command_row
step-parts files s moment actor source target = ap (unless (refusal_of files s moment actor (Disconnect source target)) s) (after-patch s moment actor (without_edge_of source target))

-- what the actor takes from its input pool, and the reply to it
pub after-pool : (s : State) (moment actor : ℕ) (g : Option ClientPool → Option ClientPool) (f : Option ClientPool → Reply) →
    after_effect s moment actor None (record (done_with (FinMap.get s.clients actor)) { pool = g; reply = f }) ≡ record { state = record s { pools = with_entry s.pools actor (g (FinMap.get s.pools actor)) }; delivered = []; reply = f (FinMap.get s.pools actor) }
after-pool s moment actor g f =
    let pools : FinMap nat_cmp ClientPool = with_entry s.pools actor (g (FinMap.get s.pools actor)) in
    let to : FinMap nat_cmp Client → List Edge → List OwnedPlayback → Stepped = λ clients edges pending. record { state = record { clients = clients; pools = pools; edges = edges; pending = pending }; delivered = []; reply = f (FinMap.get s.pools actor) } in
    let o : Option Client = FinMap.get s.clients actor in
    let pending : List OwnedPlayback = filter (λ p. not (drops actor (done_with o) p)) s.pending in
    ap (λ x. to x (filter (λ e. not (loses actor (λ _. false) e)) s.edges) (pending ++ [])) (put-same s.clients actor)
    ∙ ap (λ x. to s.clients x (pending ++ [])) (none-lost actor s.edges)
    ∙ ap (λ x. to s.clients s.edges x) (append-nil pending ∙ none-dropped actor o s.pending)

pub step-takes : (files : List PlayedFile) (s : State) (moment actor max : ℕ) →
    command_step files s moment actor (Receive max) ≡
    unless (refusal_of files s moment actor (Receive max)) s (record { state = record s { pools = with_entry s.pools actor (without_oldest max (FinMap.get s.pools actor)) }; delivered = []; reply = Received (oldest max (FinMap.get s.pools actor)) })
unfolding command_row
step-takes files s moment actor max =
    ap (unless (refusal_of files s moment actor (Receive max)) s) (after-pool s moment actor (without_oldest max) (λ p. Received (oldest max p)))

-- what becomes of the actor's input pool, and nothing else
abbrev pub pool_step : State → ℕ → Option Refusal → (Option ClientPool → Option ClientPool) → Stepped
pool_step s actor refusal g = unless refusal s (record { state = record s { pools = with_entry s.pools actor (g (FinMap.get s.pools actor)) }; delivered = []; reply = Done })

pub step-listens : (files : List PlayedFile) (s : State) (moment actor : ℕ) →
    command_step files s moment actor Listen ≡ pool_step s actor (refusal_of files s moment actor Listen) with_listening
unfolding command_row
step-listens files s moment actor = ap (unless (refusal_of files s moment actor Listen) s) (after-pool s moment actor with_listening (λ p. Done))

pub step-unlistens : (files : List PlayedFile) (s : State) (moment actor : ℕ) →
    command_step files s moment actor Unlisten ≡ pool_step s actor (refusal_of files s moment actor Unlisten) without_listening
unfolding command_row
step-unlistens files s moment actor = ap (unless (refusal_of files s moment actor Unlisten) s) (after-pool s moment actor without_listening (λ p. Done))

pub step-asks : (files : List PlayedFile) (s : State) (moment actor : ℕ) →
    command_step files s moment actor PoolStatus ≡
    unless (refusal_of files s moment actor PoolStatus) s (record { state = s; delivered = []; reply = pool_status (playback_count s actor) (FinMap.get s.pools actor) })
unfolding command_row
step-asks files s moment actor =
    let reply : Reply = pool_status (playback_count s actor) (FinMap.get s.pools actor) in
    ap (unless (refusal_of files s moment actor PoolStatus) s)
    (after-pool s moment actor (λ p. p) (pool_status (playback_count s actor))
    ∙ ap (λ x. record { state = record { clients = s.clients; pools = x; edges = s.edges; pending = s.pending }; delivered = []; reply = reply }) (put-same s.pools actor))
