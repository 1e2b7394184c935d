-- What waits comes to the agenda.
use Rattle.std.proofs.lemmas.Option.{same_Some}
use Rattle.std.proofs.Common.{◌≡◌, ℕ, ◌+◌, ◌*◌, ◌<◌, ◌≤◌, Bool, true, false, ◌||◌, ◌⊎◌, inl, inr, Option, Some, None, refl, sym, ap, ◌∙◌, arith}
use Rattle.std.specs.Ordering.{nat_cmp}
use Rattle.std.specs.FinMap
use Rattle.std.specs.FinMap.{FinMap}
use Rattle.std.proofs.lemmas.Bool.{false≢true}
use Rattle.tempo_clock.specs.declared.due.Due.{Due}
use Rattle.tempo_clock.specs.declared.due.Due.TheVariants.{Tick, Nanos}
use Rattle.node_table.specs.declared.number.QueueAddr.{QueueAddr}
use Rattle.seq_state.specs.State.{Client}
use Rattle.agenda_heap.specs.declared.due_key.DueKey.{DueKey}
use Rattle.seq_settle.specs.declared.order.QueueOrder.{QueueOrder}
use Rattle.seq_settle.specs.declared.waiting.QueueKey.{QueueKey}
use Rattle.seq_settle.specs.Cells.{PlaybackCell, AreCells, IsQueue, due_le, key_of}
use Rattle.seq_settle.specs.Moments.{moment_at}
use Rattle.seq_settle.specs.Order.{base_of, time_of, waiting_key, waiting_key_by, queue_key, queue_row, IsWaiter, AreTimed}
use Rattle.seq_settle.specs.Sends.{head_of, next_due}
use Rattle.seq_settle.specs.Waiting.{cell_at, is_before, is_same}
use Rattle.seq_settle.specs.Waking.{IsLeastMoment}
use Rattle.seq_settle.proofs.Bounds.{due-rises}
use Rattle.seq_settle.proofs.Leaving.{key-due}
use Rattle.seq_settle.proofs.Looked.{due-none}
use Rattle.seq_settle.proofs.QueueKeys.{before-next, before-row, same-key}
use Rattle.seq_settle.proofs.Timed.{key-rank, row-one}

-- ---- going over what waits, from the least key up

-- what stands before a key is due after a moment, and not before the earliest
abbrev pub ArePassed : FinMap nat_cmp Client → FinMap nat_cmp PlaybackCell → QueueOrder → QueueKey → ℕ → ℕ → Type 0
ArePassed clients cells order from moment earliest =
    (k : QueueKey) (q : ℕ) (key : DueKey) → cell_at order.waiting k ≡ Some q → is_before k from ≡ true → key_of clients (FinMap.get cells q) ≡ Some key → (moment < key.moment) × (earliest ≤ key.moment)

-- rows of due times that are alike are of one queue, and count alike
pub row-alike : (a b : QueueAddr) (d e : Due) → IsQueue a → IsQueue b → 2 * queue_row a + base_of d ≡ 2 * queue_row b + base_of e → (a ≡ b) × (base_of d ≡ base_of e)
row-alike a b d e p q same =
    let x : base_of d ≤ 1 = small d in
    let y : base_of e ≤ 1 = small e in
    let rows : queue_row a ≡ queue_row b = omega (arith, same, x, y) in
    (row-one a b p q rows, omega (arith, same, x, y))
  where
    small : (due : Due) → base_of due ≤ 1
    small (Tick t) = omega arith
    small (Nanos t) = omega arith

module _ (clients : FinMap nat_cmp Client) (cells : FinMap nat_cmp PlaybackCell) (order : QueueOrder) (agenda : FinMap nat_cmp DueKey) (n : ℕ) (are : AreCells cells n) (timed : AreTimed clients cells order agenda) (from : QueueKey)
    (k0 : QueueKey) (q0 : ℕ) (first : cell_at order.waiting k0 ≡ Some q0) (least : (k : QueueKey) (q : ℕ) → cell_at order.waiting k ≡ Some q → is_before k from ≡ false → is_before k k0 ≡ false) where
  -- what stands before the first behind a key stands before that key
  before-both : (k : QueueKey) (q : ℕ) → cell_at order.waiting k ≡ Some q → is_before k k0 ≡ true → is_before k from ≡ true
  before-both k q at before = go (is_before k from) refl
    where
      go : (b : Bool) → is_before k from ≡ b → b ≡ true
      go true t = refl
      go false t = absurd (false≢true (sym (least k q at t) ∙ before))

  -- what stands before the key behind that first stands before the other key too, or is that first
  pub before-or-first : (k : QueueKey) (q : ℕ) → cell_at order.waiting k ≡ Some q → is_before k (record { row = k0.row; time = k0.time; rank = k0.rank + 1 }) ≡ true → (is_before k from ≡ true) ⊎ (k0 ≡ k)
  before-or-first k q at before = go (is_before k k0) refl (sym (before-next k0 k) ∙ before)
    where
      go : (b : Bool) → is_before k k0 ≡ b → (b || is_same k0 k) ≡ true → (is_before k from ≡ true) ⊎ (k0 ≡ k)
      go true t e = inl (before-both k q at t)
      go false t e = inr (same-key k0 k e)

  -- what stands behind it in its row is due by its queue, at its due time or later
  pub behind-in-row : (d : PlaybackCell) → FinMap.get cells q0 ≡ Some d → (k : QueueKey) (q : ℕ) (key : DueKey) → cell_at order.waiting k ≡ Some q → is_before k from ≡ false → is_before k (record { row = k0.row + 1; time = 0; rank = 0 }) ≡ true → key_of clients (FinMap.get cells q) ≡ Some key →
      (due0 : Due) × (due : Due) × (accepted : ℕ) × (next_due d.1.events ≡ Some due0) × (due_le due0 due ≡ true) × (moment_at clients d.1.queue accepted due ≡ Some key.moment)
  behind-in-row d here k q key at behind before f = at-due (next_due d.1.events) refl
    where
      w0 : IsWaiter cells agenda k0 q0
      w0 = timed.waits k0 q0 first

      its-key : queue_key d ≡ k0
      its-key = ap queue_key (same_Some d w0.cell (sym here ∙ w0.here)) ∙ w0.key

      at-due : (o : Option Due) → next_due d.1.events ≡ o → (due0 : Due) × (due : Due) × (accepted : ℕ) × (next_due d.1.events ≡ Some due0) × (due_le due0 due ≡ true) × (moment_at clients d.1.queue accepted due ≡ Some key.moment)
      at-due None has = absurd (due-none cells n are q0 d here has)
      at-due (Some due0) has =
          let w : IsWaiter cells agenda k q = timed.waits k q at in
          let e = key-due clients w.cell key (sym (ap (key_of clients) w.here) ∙ f) in
          let place : waiting_key d.1.queue d.1.rank due0 ≡ k0 = ap (waiting_key_by d.1) (sym has) ∙ its-key in
          let other : waiting_key w.cell.1.queue w.cell.1.rank e.0 ≡ k = sym e.2 ∙ w.key in
          let row = before-row k0 k (least k q at behind) before in
          let alike = row-alike d.1.queue w.cell.1.queue due0 e.0 (are.queues q0 d here) (are.queues q w.cell w.here)
          (ap (λ (x : QueueKey). x.row) place ∙ sym row.0 ∙ ap (λ (x : QueueKey). x.row) (sym other)) in
          let t0 : time_of due0 ≡ k0.time = ap (λ (x : QueueKey). x.time) place in
          let t1 : time_of e.0 ≡ k.time = ap (λ (x : QueueKey). x.time) other in
          let le : k0.time ≤ k.time = row.1 in (
            due0,
            e.0,
            w.cell.1.accepted,
            has,
            due-rises due0 e.0 alike.1 (omega (arith, t0, t1, le)),
            ap (λ a. moment_at clients a w.cell.1.accepted e.0) alike.0 ∙ e.1,
          )

  module _ (moment earliest : ℕ) (passed : ArePassed clients cells order from moment earliest) where
    -- one is passed: it is due later, or waits no longer
    pub passed-one : (order' : QueueOrder) (earliest' : ℕ) → ((k : QueueKey) (q : ℕ) → cell_at order'.waiting k ≡ Some q → cell_at order.waiting k ≡ Some q) → earliest' ≤ earliest →
        ((key : DueKey) → cell_at order'.waiting k0 ≡ Some q0 → key_of clients (FinMap.get cells q0) ≡ Some key → (moment < key.moment) × (earliest' ≤ key.moment)) →
        ArePassed clients cells order' (record { row = k0.row; time = k0.time; rank = k0.rank + 1 }) moment earliest'
    passed-one order' earliest' was lower own k q key at before f = go (before-or-first k q (was k q at) before)
      where
        go : (is_before k from ≡ true) ⊎ (k0 ≡ k) → (moment < key.moment) × (earliest' ≤ key.moment)
        go (inl t) =
            let p : (moment < key.moment) × (earliest ≤ key.moment) = passed k q key (was k q at) t f in
            let l : earliest ≤ key.moment = p.1 in
            (p.0, omega (arith, lower, l))
        go (inr same) =
            let is : q0 ≡ q = same_Some q0 q (sym first ∙ ap (cell_at order.waiting) same ∙ was k q at) in
            own key (ap (cell_at order'.waiting) same ∙ at ∙ ap (λ x. Some x) (sym is)) (ap (λ x. key_of clients (FinMap.get cells x)) is ∙ f)

    -- a whole row is passed, in which nothing is due before a later moment
    pub passed-row : (d : PlaybackCell) → FinMap.get cells q0 ≡ Some d → (b : ℕ) → IsLeastMoment clients (head_of d) b → moment < b → (earliest' : ℕ) → earliest' ≤ earliest → earliest' ≤ b → ArePassed clients cells order (record { row = k0.row + 1; time = 0; rank = 0 }) moment earliest'
    passed-row d here b bound after earliest' lower low k q key at before f = go (is_before k from) refl
      where
        go : (c : Bool) → is_before k from ≡ c → (moment < key.moment) × (earliest' ≤ key.moment)
        go true t =
            let p : (moment < key.moment) × (earliest ≤ key.moment) = passed k q key at t f in
            let l : earliest ≤ key.moment = p.1 in
            (p.0, omega (arith, lower, l))
        go false t =
            let e = behind-in-row d here k q key at t before f in
            let l : b ≤ key.moment = bound e.0 e.1 e.2 key.moment e.3 e.4 e.5 in
            (omega (arith, after, l), omega (arith, low, l))

-- ---- the keys fit

pub row-small : (cells : FinMap nat_cmp PlaybackCell) (agenda : FinMap nat_cmp DueKey) (n : ℕ) → AreCells cells n → (k : QueueKey) (q : ℕ) → IsWaiter cells agenda k q → (k.row < 1024) × (k.rank < n)
row-small cells agenda n are k q w =
    let c : PlaybackCell = w.cell in
    let is : IsQueue c.1.queue = are.queues q c w.here in
    let low : 128 ≤ c.1.queue.client = is.low in
    let high : c.1.queue.client ≤ 191 = is.high in
    let few : c.1.queue.queue < 8 = is.few in
    let rank : c.1.rank < n = are.early q c w.here in
    let at : (queue_key c).rank ≡ c.1.rank = key-rank c in
    let same : (queue_key c).rank ≡ k.rank = ap (λ (x : QueueKey). x.rank) w.key in
    let row : (queue_key c).row ≡ k.row = ap (λ (x : QueueKey). x.row) w.key in
    let small : (queue_key c).row < 1024 = go (next_due c.1.events) low high few in
    (omega (arith, row, small), omega (arith, rank, at, same))
  where
    go : (o : Option Due) → 128 ≤ w.cell.1.queue.client → w.cell.1.queue.client ≤ 191 → w.cell.1.queue.queue < 8 → (waiting_key_by w.cell.1 o).row < 1024
    go None low high few = omega arith
    go (Some (Tick t)) low high few = omega arith
    go (Some (Nanos t)) low high few = omega arith
