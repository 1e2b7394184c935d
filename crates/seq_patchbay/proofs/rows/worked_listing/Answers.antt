use Rattle.std.proofs.Common.{◌≡◌, ◌<◌, ◌+◌, ◌++◌, ◌∙◌, ℕ, zero, suc, true, false, cond, eqb, List, [], Some, None, refl, ap, arith}
use Rattle.std.proofs.lemmas.Bool.{eqb-true, false_from_ne_true}
use Rattle.std.proofs.lemmas.List.{append-nil}
use Rattle.std.specs.Prelude.{codes}
use Rattle.std.specs.Fmt.{digits}
use Rattle.std.specs.Ordering.{nat_cmp}
use Rattle.std.specs.FinMap
use Rattle.std.specs.FinMap.{FinMap, get-empty}
use Rattle.seq_state.specs.State.{Queue}
use Rattle.seq_state.proofs.Effects.{get-put}
use Rattle.seq_clients.specs.Roster.{listens}
use Rattle.seq_patchbay.specs.Listing.{texts, client_line, client_lines, client_texts, port_lines, filter_lines, queue_lines, edge_texts}
use Rattle.seq_patchbay.specs.Rows.{a_pool, their_pools, all_of_them, held_clock, running_clock, listed_queue, listed_in_port, listed_out_port, drum_filter, octave_filter, everyone, silent, listed_studio, studio_ports, studio_filters, studio_queues, two_edges}
use Rattle.seq_patchbay.proofs.Texts.{agree}
use Rattle.seq_patchbay.proofs.rows.worked_listing.Goals as goal

-- ---- texts of which only the first and the last have something

module _ (f : ℕ → List ℕ) (a z : List ℕ) (first : f 128 ≡ a) (between : (n : ℕ) → 128 < n → n < 191 → f n ≡ []) (last : f 191 ≡ z) where
  front : (n : ℕ) → n < 63 → texts 128 (suc n) f ≡ a
  unfolding texts
  front zero h = first
  front (suc n) h =
      ap (λ t. t ++ f (128 + suc n)) (front n (omega arith)) ∙ ap (λ t. a ++ t) (between (128 + suc n) (omega arith) (omega arith)) ∙ append-nil a

  ends : texts 128 64 f ≡ a ++ z
  unfolding texts
  ends = ap (λ t. t ++ f 191) (front 62 (omega arith)) ∙ ap (λ t. a ++ t) last

-- ---- what each client has

abbrev ports_text : List ℕ
ports_text = codes "port 191:p0 in~ 194\nport 191:p15 out 33\n"

abbrev filters_text : List ℕ
filters_text = codes "filter 191:f1 3 5 3 36 96 12 9\nfilter 191:f10 99 65535 1023 0 127 -12\n"

abbrev queues_text : List ℕ
queues_text =
    codes "queue 191:q0 stopped\nqueue 191:q1 running\nqueue 191:q2 stopped shared\n"
    ++ codes "queue 191:q7 running shared\n"

-- what is at each number
port-at : (n : ℕ) → FinMap.get studio_ports n ≡ cond (eqb n 0) (Some listed_in_port) (cond (eqb n 15) (Some listed_out_port) None)
port-at n =
    get-put (FinMap.insert FinMap.empty 15 listed_out_port) 0 (Some listed_in_port) n
    ∙ ap (cond (eqb n 0) (Some listed_in_port)) (get-put FinMap.empty 15 (Some listed_out_port) n ∙ ap (cond (eqb n 15) (Some listed_out_port)) (get-empty nat_cmp n))

filter-at : (n : ℕ) → FinMap.get studio_filters n ≡ cond (eqb n 1) (Some drum_filter) (cond (eqb n 10) (Some octave_filter) None)
filter-at n =
    get-put (FinMap.insert FinMap.empty 10 octave_filter) 1 (Some drum_filter) n
    ∙ ap (cond (eqb n 1) (Some drum_filter)) (get-put FinMap.empty 10 (Some octave_filter) n ∙ ap (cond (eqb n 10) (Some octave_filter)) (get-empty nat_cmp n))

queue-at : (n : ℕ) → FinMap.get studio_queues n ≡
    cond (eqb n 0) (Some (listed_queue held_clock false)) (cond (eqb n 1) (Some (listed_queue running_clock false)) (cond (eqb n 2) (Some (listed_queue held_clock true)) (cond (eqb n 7) (Some (listed_queue running_clock true)) None)))
queue-at n =
    let one : FinMap nat_cmp Queue = FinMap.insert FinMap.empty 7 (listed_queue running_clock true) in
    let two : FinMap nat_cmp Queue = FinMap.insert one 2 (listed_queue held_clock true) in
    let three : FinMap nat_cmp Queue = FinMap.insert two 1 (listed_queue running_clock false) in
    get-put three 0 (Some (listed_queue held_clock false)) n
    ∙ ap (cond (eqb n 0) (Some (listed_queue held_clock false))) (get-put two 1 (Some (listed_queue running_clock false)) n
    ∙ ap (cond (eqb n 1) (Some (listed_queue running_clock false))) (get-put one 2 (Some (listed_queue held_clock true)) n
    ∙ ap (cond (eqb n 2) (Some (listed_queue held_clock true))) (get-put FinMap.empty 7 (Some (listed_queue running_clock true)) n
    ∙ ap (cond (eqb n 7) (Some (listed_queue running_clock true))) (get-empty nat_cmp n))))

ports-found : texts 0 16 (λ n. port_lines 191 n (cond (eqb n 0) (Some listed_in_port) (cond (eqb n 15) (Some listed_out_port) None))) ≡ ports_text
unfolding digits texts
ports-found = refl

ports : texts 0 16 (λ n. port_lines 191 n (FinMap.get studio_ports n)) ≡ ports_text
ports = agree 0 16 _ _ (λ n. ap (port_lines 191 n) (port-at n)) ∙ ports-found

filters-found : texts 0 16 (λ n. filter_lines 191 n (cond (eqb n 1) (Some drum_filter) (cond (eqb n 10) (Some octave_filter) None))) ≡ filters_text
unfolding digits texts
filters-found = refl

filters : texts 0 16 (λ n. filter_lines 191 n (FinMap.get studio_filters n)) ≡ filters_text
filters = agree 0 16 _ _ (λ n. ap (filter_lines 191 n) (filter-at n)) ∙ filters-found

queues-found : texts 0 8 (λ n. queue_lines 191 n (cond (eqb n 0) (Some (listed_queue held_clock false)) (cond (eqb n 1) (Some (listed_queue running_clock false)) (cond (eqb n 2) (Some (listed_queue held_clock true)) (cond (eqb n 7) (Some (listed_queue running_clock true)) None))))) ≡ queues_text
unfolding digits texts
queues-found = refl

queues : texts 0 8 (λ n. queue_lines 191 n (FinMap.get studio_queues n)) ≡ queues_text
queues = agree 0 8 _ _ (λ n. ap (queue_lines 191 n) (queue-at n)) ∙ queues-found

abbrev studio_line : List ℕ
studio_line = client_line 191 (codes "studio") 2000 1 false

studio_lines : client_lines 191 (Some listed_studio) false ≡ studio_line ++ ports_text ++ filters_text ++ queues_text
studio_lines =
    let others : List ℕ = texts 0 16 (λ n. filter_lines 191 n (FinMap.get studio_filters n)) in
    let rest : List ℕ = texts 0 8 (λ n. queue_lines 191 n (FinMap.get studio_queues n)) in
    ap (λ t. studio_line ++ t ++ others ++ rest) ports
    ∙ ap (λ t. studio_line ++ ports_text ++ t ++ rest) filters
    ∙ ap (λ t. studio_line ++ ports_text ++ filters_text ++ t) queues

abbrev silent_line : List ℕ
silent_line = client_line 128 (codes "z") 1 10 true

-- of none there is no text
nothing : (first n : ℕ) → texts first n (λ k. []) ≡ []
unfolding texts
nothing first zero = refl
nothing first (suc n) = append-nil (texts first n (λ k. [])) ∙ nothing first n

silent_lines : client_lines 128 (Some silent) true ≡ codes "client 128 z in 1 out 10 listening\n"
unfolding digits
silent_lines =
    let none_of_ports = agree 0 16 (λ n. port_lines 128 n (FinMap.get FinMap.empty n)) (λ n. []) (λ n. ap (port_lines 128 n) (get-empty nat_cmp n)) ∙ nothing 0 16 in
    let none_of_filters = agree 0 16 (λ n. filter_lines 128 n (FinMap.get FinMap.empty n)) (λ n. []) (λ n. ap (filter_lines 128 n) (get-empty nat_cmp n)) ∙ nothing 0 16 in
    let none_of_queues = agree 0 8 (λ n. queue_lines 128 n (FinMap.get FinMap.empty n)) (λ n. []) (λ n. ap (queue_lines 128 n) (get-empty nat_cmp n)) ∙ nothing 0 8 in
    let filters_left : List ℕ = texts 0 16 (λ n. filter_lines 128 n (FinMap.get FinMap.empty n)) in
    let queues_left : List ℕ = texts 0 8 (λ n. queue_lines 128 n (FinMap.get FinMap.empty n)) in
    ap (λ t. silent_line ++ t ++ filters_left ++ queues_left) none_of_ports
    ∙ ap (λ t. silent_line ++ [] ++ t ++ queues_left) none_of_filters
    ∙ ap (λ t. silent_line ++ [] ++ [] ++ t) none_of_queues

-- ---- the listing

at : (n : ℕ) → FinMap.get everyone n ≡ cond (eqb n 128) (Some silent) (cond (eqb n 191) (Some listed_studio) None)
at n =
    get-put (FinMap.insert FinMap.empty 191 listed_studio) 128 (Some silent) n
    ∙ ap (λ o. cond (eqb n 128) (Some silent) o) (get-put FinMap.empty 191 (Some listed_studio) n ∙ ap (λ o. cond (eqb n 191) (Some listed_studio) o) (get-empty nat_cmp n))

apart : (n k : ℕ) → (n ≡ k → ⊥) → eqb n k ≡ false
apart n k h = false_from_ne_true (eqb n k) (λ e. h (eqb-true n k e))

nobody : (n : ℕ) → 128 < n → n < 191 → client_lines n (FinMap.get everyone n) (listens (FinMap.get their_pools n)) ≡ []
nobody n low high =
    ap (λ o. client_lines n o (listens (FinMap.get their_pools n))) (at n
    ∙ ap (λ b. cond b (Some silent) (cond (eqb n 191) (Some listed_studio) None)) (apart n 128 (λ e. omega arith))
    ∙ ap (λ b. cond b (Some listed_studio) None) (apart n 191 (λ e. omega arith)))

pool_at : (n : ℕ) → FinMap.get their_pools n ≡ cond (eqb n 128) (Some (a_pool (Some (record { moment = 7; count = 1 })))) (cond (eqb n 191) (Some (a_pool None)) None)
pool_at n =
    get-put (FinMap.insert FinMap.empty 191 (a_pool None)) 128 (Some (a_pool (Some (record { moment = 7; count = 1 })))) n
    ∙ ap (λ o. cond (eqb n 128) (Some (a_pool (Some (record { moment = 7; count = 1 })))) o) (get-put FinMap.empty 191 (Some (a_pool None)) n ∙ ap (λ o. cond (eqb n 191) (Some (a_pool None)) o) (get-empty nat_cmp n))

lines : ℕ → List ℕ
lines n = client_lines n (FinMap.get everyone n) (listens (FinMap.get their_pools n))

first : lines 128 ≡ codes "client 128 z in 1 out 10 listening\n"
unfolding lines
first = ap (λ o. client_lines 128 o (listens (FinMap.get their_pools 128))) (at 128) ∙ ap (λ o. client_lines 128 (Some silent) (listens o)) (pool_at 128) ∙ silent_lines

last : lines 191 ≡ studio_line ++ ports_text ++ filters_text ++ queues_text
unfolding lines
last = ap (λ o. client_lines 191 o (listens (FinMap.get their_pools 191))) (at 191) ∙ ap (λ o. client_lines 191 (Some listed_studio) (listens o)) (pool_at 191) ∙ studio_lines

clients : client_texts all_of_them ≡ codes "client 128 z in 1 out 10 listening\n" ++ (studio_line ++ ports_text ++ filters_text ++ queues_text)
unfolding lines
clients = ends (λ n. client_lines n (FinMap.get everyone n) (listens (FinMap.get their_pools n))) _ _ first nobody last

pub returns : goal.returns
unfolding digits
returns c = ap (λ t. t ++ edge_texts two_edges) clients
