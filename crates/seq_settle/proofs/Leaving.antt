-- Cells on a queue that changed, while they leave the agenda.
use Rattle.std.proofs.lemmas.Option.{none-some, same_Some}
use Rattle.std.proofs.Common.{◌≡◌, ℕ, ◌≤◌, Bool, true, false, cond, eqb, ◌⊎◌, inl, inr, List, [], ◌∷◌, ◌++◌, length, Some, None, refl, sym, ap, subst, ◌∙◌, eq-eqb, arith}
use Rattle.std.specs.Ordering.{nat_cmp}
use Rattle.std.specs.FinMap
use Rattle.std.specs.FinMap.{FinMap}
use Rattle.std.proofs.lemmas.Bool.{false≢true, eqb-true}
use Rattle.node_table.specs.declared.number.QueueAddr.{QueueAddr}
use Rattle.tempo_clock.specs.declared.due.Due.{Due}
use Rattle.seq_state.specs.State.{Client, DueMessage}
use Rattle.agenda_heap.specs.declared.due_key.DueKey.{DueKey}
use Rattle.seq_settle.specs.declared.lists.Listed.{Listed}
use Rattle.seq_settle.specs.declared.order.QueueOrder.{QueueOrder}
use Rattle.seq_settle.specs.declared.waiting.QueueKey.{QueueKey}
use Rattle.seq_settle.specs.Cells.{PlaybackCell, AreCells, IsQueue, cell_key, first_moment, key_of, pending_in}
use Rattle.seq_settle.specs.Lists.{IsIn, list_at}
use Rattle.seq_settle.specs.Moments.{moment_at}
use Rattle.seq_settle.specs.Order.{waiting_key, waiting_key_by, queue_key, queue_row, listed, IsPlaced, IsWaiter, IsWaiting, AreTimed}
use Rattle.seq_settle.specs.Rekeyed.{AreLeaving, OthersSame}
use Rattle.seq_settle.specs.Sends.{next_due}
use Rattle.seq_settle.specs.Waiting.{cell_at, is_same}
use Rattle.seq_settle.proofs.Listings.{in-last, in-none}
use Rattle.seq_settle.proofs.NewKeys.{key_same}
use Rattle.seq_settle.proofs.QueueKeys.{same-key}
use Rattle.seq_settle.proofs.Stores.{get-put_here, get-put_other}
use Rattle.seq_settle.proofs.Turn.{key_at-some}
use Rattle.seq_settle.proofs.Timed.{one-key, row-one, waits-elsewhere, waits-here}

-- ---- at first

-- the list of the queue was taken
pub leaving-start : (was clients : FinMap nat_cmp Client) (cells : FinMap nat_cmp PlaybackCell) (order order' : QueueOrder) (agenda : FinMap nat_cmp DueKey) (n : ℕ) (queue : QueueAddr) (c0 : IsQueue queue) (left : List Listed) → AreCells cells n → OthersSame was clients queue → AreTimed was cells order agenda →
    left ≡ list_at order.lists (queue_row queue) → ((r : ℕ) → (r ≡ queue_row queue → ⊥) → list_at order'.lists r ≡ list_at order.lists r) → order'.waiting ≡ order.waiting → order'.earliest ≡ order.earliest → AreLeaving clients cells order' agenda queue left
leaving-start was clients cells order order' agenda n queue c0 left are same timed taken others waiting first = record {
  none = timed.none;
  on = λ q c e on. here q c on (timed.placed q c e);
  off = λ q c e off. elsewhere q c off (are.queues q c e) (timed.placed q c e);
  waits = λ k q e. timed.waits k q (ap (λ w. cell_at w k) (sym waiting) ∙ e);
  early = λ k q c key e here off f. subst (λ m. m ≤ key.moment) (sym first)
      (timed.early k q key (ap (λ w. cell_at w k) (sym waiting) ∙ e) (ap (key_of was) here ∙ key_same was clients c (same c.1.queue off) ∙ f));
}
  where
    here : (q : ℕ) (c : PlaybackCell) → c.1.queue ≡ queue → IsPlaced was order agenda q c → IsIn (listed q c) left ⊎ ((FinMap.get agenda q ≡ None) × IsWaiting order' q c)
    here q c on (inl h) = inl (subst (IsIn (listed q c)) (ap (λ a. list_at order.lists (queue_row a)) on ∙ sym taken) h.1)
    here q c on (inr h) = inr (h.0, ap (λ w. cell_at w (queue_key c)) waiting ∙ h.1)

    elsewhere : (q : ℕ) (c : PlaybackCell) → (c.1.queue ≡ queue → ⊥) → IsQueue c.1.queue → IsPlaced was order agenda q c → IsPlaced clients order' agenda q c
    elsewhere q c off is (inl h) = inl (h.0 ∙ key_same was clients c (same c.1.queue off), subst (IsIn (listed q c)) (sym (others (queue_row c.1.queue) (λ e. off (row-one c.1.queue queue is c0 e)))) h.1)
    elsewhere q c off is (inr h) = inr (h.0, ap (λ w. cell_at w (queue_key c)) waiting ∙ h.1)

-- ---- one cell that is listed

module _ (clients : FinMap nat_cmp Client) (cells : FinMap nat_cmp PlaybackCell) (order : QueueOrder) (agenda : FinMap nat_cmp DueKey) (queue : QueueAddr) (e : Listed) (left : List Listed) (leaving : AreLeaving clients cells order agenda queue (left ++ e ∷ [])) where
  -- it is none of the queue's
  pub leaving-skip : ((c : PlaybackCell) → FinMap.get cells e.cell ≡ Some c → c.1.rank ≡ e.rank → c.1.queue ≡ queue → ⊥) → AreLeaving clients cells order agenda queue left
  leaving-skip other = record {
    none = leaving.none;
    on = λ q c here on. step q c here on (leaving.on q c here on);
    off = leaving.off;
    waits = leaving.waits;
    early = leaving.early;
  }
    where
      last : (q : ℕ) (c : PlaybackCell) → FinMap.get cells q ≡ Some c → c.1.queue ≡ queue → (e ≡ listed q c) ⊎ IsIn (listed q c) left → IsIn (listed q c) left ⊎ ((FinMap.get agenda q ≡ None) × IsWaiting order q c)
      last q c here on (inl same) = absurd (other c (ap (λ (x : Listed). FinMap.get cells x.cell) same ∙ here) (sym (ap (λ (x : Listed). x.rank) same)) on)
      last q c here on (inr h) = inl h

      step : (q : ℕ) (c : PlaybackCell) → FinMap.get cells q ≡ Some c → c.1.queue ≡ queue → IsIn (listed q c) (left ++ e ∷ []) ⊎ ((FinMap.get agenda q ≡ None) × IsWaiting order q c) →
          IsIn (listed q c) left ⊎ ((FinMap.get agenda q ≡ None) × IsWaiting order q c)
      step q c here on (inl h) = last q c here on (in-last (listed q c) e left h)
      step q c here on (inr h) = inr h

  -- it waits now
  pub leaving-aside : (n : ℕ) → AreCells cells n → (c : PlaybackCell) → FinMap.get cells e.cell ≡ Some c → c.1.queue ≡ queue → (order' : QueueOrder) (agenda' : FinMap nat_cmp DueKey) → agenda' ≡ FinMap.remove agenda e.cell →
      ((j : QueueKey) → cell_at order'.waiting j ≡ cond (is_same (queue_key c) j) (Some e.cell) (cell_at order.waiting j)) → order'.lists ≡ order.lists → order'.earliest ≡ order.earliest → AreLeaving clients cells order' agenda' queue left
  leaving-aside n are c at on-queue order' agenda' agenda-is set lists first = record {
    none = λ q gone. key-off q (λ same. none-some c (sym gone ∙ ap (FinMap.get cells) same ∙ at)) ∙ leaving.none q gone;
    on = λ q d here yes. on q d (eqb q e.cell) refl here yes;
    off = λ q d here no. off q d here no (apart-off q d here no) (leaving.off q d here no);
    waits = λ j q w. waits j q (is_same (queue_key c) j) refl w;
    early = λ j q d key w here off f. subst (λ m. m ≤ key.moment) (sym first) (leaving.early j q d key (before j q d (apart-off q d here off) w) here off f);
  }
    where
      key-off : (q : ℕ) → (q ≡ e.cell → ⊥) → FinMap.get agenda' q ≡ FinMap.get agenda q
      key-off q apart = ap (λ m. FinMap.get m q) agenda-is ∙ get-put_other agenda e.cell None q apart

      key-here : FinMap.get agenda' e.cell ≡ None
      key-here = ap (λ m. FinMap.get m e.cell) agenda-is ∙ get-put_here agenda e.cell None

      waits-set : cell_at order'.waiting (queue_key c) ≡ Some e.cell
      waits-set = waits-here (cell_at order.waiting) (cell_at order'.waiting) (queue_key c) (Some e.cell) set

      -- a cell that is another waits at another key
      other-key : (q : ℕ) (d : PlaybackCell) → (q ≡ e.cell → ⊥) → FinMap.get cells q ≡ Some d → cell_at order'.waiting (queue_key d) ≡ cell_at order.waiting (queue_key d)
      other-key q d apart here = waits-elsewhere (cell_at order.waiting) (cell_at order'.waiting) (queue_key c) (Some e.cell) set (queue_key d) (λ same. apart (one-key cells n q e.cell d c are here at (sym same)))

      apart-off : (q : ℕ) (d : PlaybackCell) → FinMap.get cells q ≡ Some d → (d.1.queue ≡ queue → ⊥) → q ≡ e.cell → ⊥
      apart-off q d here off same = off (ap (λ (x : PlaybackCell). x.1.queue) (same_Some d c (sym here ∙ ap (FinMap.get cells) same ∙ at)) ∙ on-queue)

      before : (j : QueueKey) (q : ℕ) (d : PlaybackCell) → (q ≡ e.cell → ⊥) → cell_at order'.waiting j ≡ Some q → cell_at order.waiting j ≡ Some q
      before j q d apart w = go (is_same (queue_key c) j) refl (sym (set j) ∙ w)
        where
          go : (b : Bool) → is_same (queue_key c) j ≡ b → cond b (Some e.cell) (cell_at order.waiting j) ≡ Some q → cell_at order.waiting j ≡ Some q
          go true t f = absurd (apart (sym (same_Some e.cell q f)))
          go false t f = f

      on : (q : ℕ) (d : PlaybackCell) (b : Bool) → eqb q e.cell ≡ b → FinMap.get cells q ≡ Some d → d.1.queue ≡ queue → IsIn (listed q d) left ⊎ ((FinMap.get agenda' q ≡ None) × IsWaiting order' q d)
      on q d true t here on-it =
          let same : q ≡ e.cell = eqb-true q e.cell t in
          let one : c ≡ d = same_Some c d (sym at ∙ ap (FinMap.get cells) (sym same) ∙ here) in
          inr (ap (FinMap.get agenda') same ∙ key-here, ap (λ x. cell_at order'.waiting (queue_key x)) (sym one) ∙ waits-set ∙ ap (λ x. Some x) (sym same))
      on q d false t here on-it = step (leaving.on q d here on-it)
        where
          apart : q ≡ e.cell → ⊥
          apart same = false≢true (sym t ∙ eq-eqb q e.cell same)

          last : (e ≡ listed q d) ⊎ IsIn (listed q d) left → IsIn (listed q d) left ⊎ ((FinMap.get agenda' q ≡ None) × IsWaiting order' q d)
          last (inl same) = absurd (apart (sym (ap (λ (x : Listed). x.cell) same)))
          last (inr h) = inl h

          step : IsIn (listed q d) (left ++ e ∷ []) ⊎ ((FinMap.get agenda q ≡ None) × IsWaiting order q d) → IsIn (listed q d) left ⊎ ((FinMap.get agenda' q ≡ None) × IsWaiting order' q d)
          step (inl h) = last (in-last (listed q d) e left h)
          step (inr h) = inr (key-off q apart ∙ h.0, other-key q d apart here ∙ h.1)

      off : (q : ℕ) (d : PlaybackCell) → FinMap.get cells q ≡ Some d → (d.1.queue ≡ queue → ⊥) → (q ≡ e.cell → ⊥) → IsPlaced clients order agenda q d → IsPlaced clients order' agenda' q d
      off q d here away apart (inl h) = inl (key-off q apart ∙ h.0, subst (λ ls. IsIn (listed q d) (list_at ls (queue_row d.1.queue))) (sym lists) h.1)
      off q d here away apart (inr h) = inr (key-off q apart ∙ h.0, other-key q d apart here ∙ h.1)

      waits : (j : QueueKey) (q : ℕ) (b : Bool) → is_same (queue_key c) j ≡ b → cell_at order'.waiting j ≡ Some q → IsWaiter cells agenda' j q
      waits j q true t w =
          let key : queue_key c ≡ j = same-key (queue_key c) j t in
          let is : e.cell ≡ q = same_Some e.cell q (sym (set j ∙ ap (λ b. cond b (Some e.cell) (cell_at order.waiting j)) t) ∙ w) in
          record { cell = c; here = ap (FinMap.get cells) (sym is) ∙ at; key = key; free = ap (FinMap.get agenda') (sym is) ∙ key-here }
      waits j q false t w =
          let old : cell_at order.waiting j ≡ Some q = sym (set j ∙ ap (λ b. cond b (Some e.cell) (cell_at order.waiting j)) t) ∙ w in
          let x : IsWaiter cells agenda j q = leaving.waits j q old in
          record { cell = x.cell; here = x.here; key = x.key; free = free x.free (eqb q e.cell) refl }
        where
          free : FinMap.get agenda q ≡ None → (b : Bool) → eqb q e.cell ≡ b → FinMap.get agenda' q ≡ None
          free was true u = ap (FinMap.get agenda') (eqb-true q e.cell u) ∙ key-here
          free was false u = key-off q (λ same. false≢true (sym u ∙ eq-eqb q e.cell same)) ∙ was

-- ---- at last

pub nothing-left : (left : List Listed) → length left ≡ 0 → left ≡ []
nothing-left [] none = refl
nothing-left (e ∷ left) none = absurd (omega (arith, none))

-- a cell with a key has a due time, by which it stands
pub key-due : (clients : FinMap nat_cmp Client) (c : PlaybackCell) (key : DueKey) → key_of clients (Some c) ≡ Some key → (due : Due) × (moment_at clients c.1.queue c.1.accepted due ≡ Some key.moment) × (queue_key c ≡ waiting_key c.1.queue c.1.rank due) × (next_due c.1.events ≡ Some due)
key-due clients c key e = go c.1.events e
  where
    go : (es : List DueMessage) → cell_key c (first_moment clients (pending_in c) es) ≡ Some key → (due : Due) × (moment_at clients c.1.queue c.1.accepted due ≡ Some key.moment) × (waiting_key_by c.1 (next_due es) ≡ waiting_key c.1.queue c.1.rank due) × (next_due es ≡ Some due)
    go [] f = absurd (none-some key f)
    go (x ∷ xs) f = (x.due, (key_at-some c (moment_at clients c.1.queue c.1.accepted x.due) key f).0, refl, refl)

-- all of the queue's cells wait, and none is due before the earliest
pub leaving-end : (clients : FinMap nat_cmp Client) (cells : FinMap nat_cmp PlaybackCell) (order order' : QueueOrder) (agenda : FinMap nat_cmp DueKey) (queue : QueueAddr) (left : List Listed) → left ≡ [] → AreLeaving clients cells order agenda queue left →
    order'.waiting ≡ order.waiting → order'.lists ≡ order.lists → order'.earliest ≤ order.earliest →
    ((due : Due) (rank q accepted m : ℕ) → cell_at order.waiting (waiting_key queue rank due) ≡ Some q → moment_at clients queue accepted due ≡ Some m → order'.earliest ≤ m) → AreTimed clients cells order' agenda
leaving-end clients cells order order' agenda queue left empty leaving waiting lists sooner bound = record {
  none = leaving.none;
  placed = λ q c here. placed q c here (eqb c.1.queue.client queue.client) (eqb c.1.queue.queue queue.queue) refl refl;
  waits = λ k q e. leaving.waits k q (ap (λ w. cell_at w k) (sym waiting) ∙ e);
  early = λ k q key e f. let w : IsWaiter cells agenda k q = leaving.waits k q (ap (λ x. cell_at x k) (sym waiting) ∙ e) in
      early k q w.cell key (ap (λ x. cell_at x k) (sym waiting) ∙ e) w.here w.key (sym (ap (key_of clients) w.here) ∙ f) (eqb w.cell.1.queue.client queue.client) (eqb w.cell.1.queue.queue queue.queue) refl refl;
}
  where
    on-it : (a : QueueAddr) → eqb a.client queue.client ≡ true → eqb a.queue queue.queue ≡ true → a ≡ queue
    on-it a t u =
        ap (λ x. let b : QueueAddr = record { client = x; queue = a.queue } in b) (eqb-true a.client queue.client t)
        ∙ ap (λ x. let b : QueueAddr = record { client = queue.client; queue = x } in b) (eqb-true a.queue queue.queue u)

    off-client : (a : QueueAddr) → eqb a.client queue.client ≡ false → a ≡ queue → ⊥
    off-client a t same = false≢true (sym t ∙ eq-eqb a.client queue.client (ap (λ (x : QueueAddr). x.client) same))

    off-queue : (a : QueueAddr) → eqb a.queue queue.queue ≡ false → a ≡ queue → ⊥
    off-queue a t same = false≢true (sym t ∙ eq-eqb a.queue queue.queue (ap (λ (x : QueueAddr). x.queue) same))

    moved : (q : ℕ) (c : PlaybackCell) → IsPlaced clients order agenda q c → IsPlaced clients order' agenda q c
    moved q c (inl h) = inl (h.0, subst (λ ls. IsIn (listed q c) (list_at ls (queue_row c.1.queue))) (sym lists) h.1)
    moved q c (inr h) = inr (h.0, ap (λ w. cell_at w (queue_key c)) waiting ∙ h.1)

    waiter : (q : ℕ) (c : PlaybackCell) → IsIn (listed q c) left ⊎ ((FinMap.get agenda q ≡ None) × IsWaiting order q c) → IsPlaced clients order agenda q c
    waiter q c (inl h) = absurd (in-none (listed q c) left empty h)
    waiter q c (inr h) = inr h

    placed : (q : ℕ) (c : PlaybackCell) → FinMap.get cells q ≡ Some c → (a b : Bool) → eqb c.1.queue.client queue.client ≡ a → eqb c.1.queue.queue queue.queue ≡ b → IsPlaced clients order' agenda q c
    placed q c here true true t u = moved q c (waiter q c (leaving.on q c here (on-it c.1.queue t u)))
    placed q c here false b t u = moved q c (leaving.off q c here (off-client c.1.queue t))
    placed q c here true false t u = moved q c (leaving.off q c here (off-queue c.1.queue u))

    early-off : (k : QueueKey) (q : ℕ) (c : PlaybackCell) (key : DueKey) → cell_at order.waiting k ≡ Some q → FinMap.get cells q ≡ Some c → key_of clients (Some c) ≡ Some key → (c.1.queue ≡ queue → ⊥) → order'.earliest ≤ key.moment
    early-off k q c key e here f off = let l : order.earliest ≤ key.moment = leaving.early k q c key e here off f in omega (arith, sooner)

    early : (k : QueueKey) (q : ℕ) (c : PlaybackCell) (key : DueKey) → cell_at order.waiting k ≡ Some q → FinMap.get cells q ≡ Some c → queue_key c ≡ k → key_of clients (Some c) ≡ Some key → (a b : Bool) →
        eqb c.1.queue.client queue.client ≡ a → eqb c.1.queue.queue queue.queue ≡ b → order'.earliest ≤ key.moment
    early k q c key e here at f true true t u =
        let d = key-due clients c key f in
        let same : c.1.queue ≡ queue = on-it c.1.queue t u in
        bound d.0 c.1.rank q c.1.accepted key.moment
        (ap (cell_at order.waiting) (ap (λ a. waiting_key a c.1.rank d.0) (sym same) ∙ sym d.2 ∙ at) ∙ e) (ap (λ a. moment_at clients a c.1.accepted d.0) (sym same) ∙ d.1)
    early k q c key e here at f false b t u = early-off k q c key e here f (off-client c.1.queue t)
    early k q c key e here at f true false t u = early-off k q c key e here f (off-queue c.1.queue u)
