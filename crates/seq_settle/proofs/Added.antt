-- A command that adds a playback.
use Rattle.std.proofs.Common.{◌≡◌, ◌≢◌, ℕ, ◌+◌, ◌<◌, Bool, true, false, cond, eqb, List, [], ◌∷◌, ◌++◌, Some, None, refl, sym, ap, subst, ◌∙◌, arith, append-nil}
use Rattle.std.specs.List.{filter}
use Rattle.std.specs.Ordering.{nat_cmp}
use Rattle.std.specs.FinMap
use Rattle.std.specs.FinMap.{FinMap}
use Rattle.tempo_clock.specs.declared.due.Due.{Due}
use Rattle.std.specs.Prelude.{unwrap_or}
use Rattle.std.proofs.lemmas.Bool.{eqb-true}
use Rattle.std.proofs.lemmas.Option.{none-some, same_Some}
use Rattle.cell_pools.specs.Cells.{Holding, Store, holding_of, no_cells, keys_of, size_of, with_cell}
use Rattle.seq_state.specs.State.{Client, DueMessage, with_entry}
use Rattle.seq_state.proofs.Effects.{get-put}
use Rattle.node_table.specs.declared.number.QueueAddr.{QueueAddr}
use Rattle.seq_state.specs.Step.{is_left}
use Rattle.agenda_heap.specs.declared.due_key.DueKey.{DueKey}
use Rattle.seq_settle.specs.declared.lists.Listed.{Listed}
use Rattle.seq_settle.specs.declared.order.QueueOrder.{QueueOrder}
use Rattle.seq_settle.specs.Cells.{RankedPlayback, PlaybackCell, pending_in, playbacks, are_in_order, AreCells, IsQueue, key_of}
use Rattle.seq_settle.specs.Lists.{IsIn, IsLive, list_at}
use Rattle.seq_settle.specs.Order.{AreTimed, listed, queue_row}
use Rattle.seq_settle.specs.Sends.{next_due, new_left}
use Rattle.seq_settle.proofs.Stores.{Fits, get-put_other, put_cells, playbacks-new, playbacks-later}
use Rattle.seq_settle.proofs.Timed.{keyed-is, listed-still, timed-added}
use Rattle.seq_settle.proofs.Turn.{key_of-some}

-- the cells are of commands so far after one more, too
pub later_cells : (cells : FinMap nat_cmp PlaybackCell) (n : ℕ) → AreCells cells n → AreCells cells (n + 1)
later_cells cells n are = record {
  early = λ q c e. let l : c.1.rank < n = are.early q c e in omega arith;
  apart = are.apart;
  filled = are.filled;
  ordered = are.ordered;
  queues = are.queues;
}

-- nothing to send
pub none_added : (cells : FinMap nat_cmp PlaybackCell) (n : ℕ) (client port : ℕ) (queue : QueueAddr) (accepted : ℕ) (es : List DueMessage) → AreCells cells n → next_due es ≡ None → playbacks cells (n + 1) ≡ playbacks cells n ++ filter is_left (pending_in (client, new_left n port queue accepted es) ∷ [])
none_added cells n client port queue accepted [] are e = playbacks-later cells n are ∙ sym (append-nil (playbacks cells n))
none_added cells n client port queue accepted (x ∷ xs) are e = absurd (none-some x.due (sym e))

module _ (cells cells' : FinMap nat_cmp PlaybackCell) (n k : ℕ) (client port : ℕ) (queue : QueueAddr) (accepted : ℕ) (es : List DueMessage) (due : Due) (are : AreCells cells n) (ordered : are_in_order es ≡ true) (some : next_due es ≡ Some due) (is_queue : IsQueue queue) (free : FinMap.get cells k ≡ None)
    (added : cells' ≡ with_entry cells k (Some ((client, new_left n port queue accepted es)))) where
  abbrev new : PlaybackCell
  new = (client, new_left n port queue accepted es)

  filled : (xs : List DueMessage) → next_due xs ≡ Some due → is_left (pending_in (client, new_left n port queue accepted xs)) ≡ true
  filled [] e = absurd (none-some due e)
  filled (x ∷ xs) e = refl

  fits : Fits cells k (n + 1) new
  fits = record {
    early = omega arith;
    alone = λ q c e same. let l : c.1.rank < n = are.early q c e in absurd (omega arith);
    filled = filled es some;
    ordered = ordered;
    queue = is_queue;
  }

  there : AreCells (with_entry cells k (Some new)) (n + 1)
  there = put_cells cells n (n + 1) k (Some new) (omega arith) (λ d e. subst (Fits cells k (n + 1)) (same_Some new d e) fits) are

  -- the cells with the new one
  pub added_cells : AreCells cells' (n + 1)
  added_cells = subst (λ x. AreCells x (n + 1)) (sym added) there

  -- and their playbacks: the new one is the last
  pub added_tasks : playbacks cells' (n + 1) ≡ playbacks cells n ++ filter is_left (pending_in (client, new_left n port queue accepted es) ∷ [])
  added_tasks = ap (λ x. playbacks x (n + 1)) added ∙ playbacks-new cells n k new are there free refl ∙ ap (λ b. playbacks cells n ++ cond b (pending_in (client, new_left n port queue accepted es) ∷ []) []) (sym (filled es some))

  -- what was there is there
  still : (q : ℕ) (d : PlaybackCell) → FinMap.get cells q ≡ Some d → FinMap.get cells' q ≡ Some d
  still q d e = ap (λ m. FinMap.get m q) added ∙ get-put_other cells k (Some new) q (λ same. none-some d (sym free ∙ ap (FinMap.get cells) (sym same) ∙ e)) ∙ e

  module _ (clients : FinMap nat_cmp Client) (order : QueueOrder) (agenda : FinMap nat_cmp DueKey) (timed : AreTimed clients cells order agenda) where
    -- the agenda has its key and it is listed, where the lists kept what is there
    pub added_timed : (order' : QueueOrder) (row : ℕ) → row ≡ queue_row queue → IsIn (listed k new) (list_at order'.lists row) → ((e : Listed) → IsLive cells' e → IsIn e (list_at order.lists row) → IsIn e (list_at order'.lists row)) →
        ((r : ℕ) → r ≢ row → list_at order'.lists r ≡ list_at order.lists r) → order'.waiting ≡ order.waiting → order'.earliest ≡ order.earliest → (agenda' : FinMap nat_cmp DueKey) → agenda' ≡ with_entry agenda k (key_of clients (Some new)) → AreTimed clients cells' order' agenda'
    added_timed order' row at own kept others waiting first agenda' =
        timed-added clients cells order order' agenda timed k new free (subst (λ r. IsIn (listed k new) (list_at order'.lists r)) at own)
        (λ q d e. listed-still cells' order order' row kept others q d (still q d e)) waiting first cells' agenda' added

    -- no other cell has its key
    pub added_fresh : (x : DueKey) (q : ℕ) → key_of clients (Some new) ≡ Some x → FinMap.get agenda q ≡ Some x → q ≡ k
    added_fresh x q e f =
        let h = key_of-some clients (Some new) x e in
        let o = key_of-some clients (FinMap.get cells q) x (keyed-is clients cells order agenda timed q x f) in
        let mine : n ≡ h.0.1.rank = ap (λ (c : PlaybackCell). c.1.rank) (same_Some new h.0 h.1) in
        let r : h.0.1.rank ≡ x.rank = h.3 in
        let l : o.0.1.rank < n = are.early q o.0 o.1 in
        let s : o.0.1.rank ≡ x.rank = o.3 in
        absurd (omega arith)

-- the sizes stay
pub sizes-with : (s : Store RankedPlayback) (client key : ℕ) (x : RankedPlayback) (other : ℕ) → size_of (with_cell s client key x) other ≡ size_of s other
sizes-with s client key x other =
    ap (λ o. (unwrap_or o no_cells).size) (get-put s.clients client (Some (record { size = (holding_of s.clients client).size; keys = keys_of s client ++ key ∷ [] })) other) ∙ go (eqb other client) refl
  where
    go : (b : Bool) → eqb other client ≡ b → (unwrap_or (cond b (Some (let h : Holding = record { size = (holding_of s.clients client).size; keys = keys_of s client ++ key ∷ [] } in h)) (FinMap.get s.clients other)) no_cells).size ≡ (holding_of s.clients other).size
    go true t = ap (λ c. (holding_of s.clients c).size) (sym (eqb-true other client t))
    go false t = refl
