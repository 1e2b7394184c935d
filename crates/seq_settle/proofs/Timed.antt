-- What waits in the order of its queue, and what the agenda has beside it.
use Rattle.std.proofs.lemmas.Option.{none-some, same_Some}
use Rattle.std.proofs.Common.{◌≡◌, ◌≢◌, ℕ, ◌+◌, ◌-◌, ◌*◌, ◌<◌, ◌≤◌, Bool, true, false, cond, eqb, ◌⊎◌, inl, inr, List, [], ◌∷◌, Option, Some, None, refl, sym, ap, subst, ◌∙◌, eq-eqb, arith}
use Rattle.std.specs.Ordering.{nat_cmp}
use Rattle.std.specs.FinMap
use Rattle.std.specs.FinMap.{FinMap}
use Rattle.std.proofs.lemmas.Bool.{false≢true, eqb-true}
use Rattle.node_table.specs.declared.number.QueueAddr.{QueueAddr}
use Rattle.tempo_clock.specs.declared.due.Due.{Due}
use Rattle.seq_state.specs.State.{Client, DueMessage, with_entry}
use Rattle.seq_state.proofs.Effects.{get-put}
use Rattle.agenda_heap.specs.declared.due_key.DueKey.{DueKey}
use Rattle.seq_settle.specs.declared.lists.Listed.{Listed}
use Rattle.seq_settle.specs.declared.order.QueueOrder.{QueueOrder}
use Rattle.seq_settle.specs.declared.waiting.QueueKey.{QueueKey}
use Rattle.seq_settle.specs.Cells.{PlaybackCell, AreCells, IsQueue, cell_rest, key_of}
use Rattle.seq_settle.specs.Lists.{IsIn, IsLive, list_at}
use Rattle.seq_settle.specs.Moments.{SameMoments}
use Rattle.seq_settle.specs.Order.{waiting_key_by, queue_key, queue_row, listed, IsOnList, IsPlaced, IsWaiter, AreTimed}
use Rattle.seq_settle.specs.Sends.{next_due}
use Rattle.seq_settle.specs.Waiting.{cell_at, is_same}
use Rattle.seq_settle.proofs.NewKeys.{key_same}
use Rattle.seq_settle.proofs.QueueKeys.{same-key, same-itself}
use Rattle.seq_settle.proofs.Stores.{put-some, get-put_here, get-put_other}
use Rattle.seq_settle.proofs.Turn.{key_of-some}

-- ---- rows and keys

-- a row is that of one queue
pub row-one : (a b : QueueAddr) → IsQueue a → IsQueue b → queue_row a ≡ queue_row b → a ≡ b
row-one a b p q e =
    let low : 128 ≤ a.client = p.low in
    let low' : 128 ≤ b.client = q.low in
    let few : a.queue < 8 = p.few in
    let few' : b.queue < 8 = q.few in
    let same : (a.client - 128) * 8 + a.queue ≡ (b.client - 128) * 8 + b.queue = e in
    let client : a.client ≡ b.client = omega arith in
    let queue : a.queue ≡ b.queue = omega arith in
    ap (λ c. let x : QueueAddr = record { client = c; queue = a.queue } in x) client ∙ ap (λ n. let x : QueueAddr = record { client = b.client; queue = n } in x) queue

-- the rank of a cell stands in its key
pub key-rank : (c : PlaybackCell) → (queue_key c).rank ≡ c.1.rank
key-rank c = go (next_due c.1.events)
  where
    go : (o : Option Due) → (waiting_key_by c.1 o).rank ≡ c.1.rank
    go None = refl
    go (Some due) = refl

-- cells of one key are one
pub one-key : (cells : FinMap nat_cmp PlaybackCell) (n q r : ℕ) (c d : PlaybackCell) → AreCells cells n → FinMap.get cells q ≡ Some c → FinMap.get cells r ≡ Some d → queue_key c ≡ queue_key d → q ≡ r
one-key cells n q r c d are e f same = are.apart q r c d e f (sym (key-rank c) ∙ ap (λ (k : QueueKey). k.rank) same ∙ key-rank d)

-- ---- lists

-- what was listed is listed still, where a row got one more and kept what is there
pub listed-still : (cells : FinMap nat_cmp PlaybackCell) (order order' : QueueOrder) (row : ℕ) → ((e : Listed) → IsLive cells e → IsIn e (list_at order.lists row) → IsIn e (list_at order'.lists row)) → ((r : ℕ) → r ≢ row → list_at order'.lists r ≡ list_at order.lists r) →
    (q : ℕ) (d : PlaybackCell) → FinMap.get cells q ≡ Some d → IsOnList order q d → IsOnList order' q d
listed-still cells order order' row kept others q d here = go (eqb (queue_row d.1.queue) row) refl
  where
    go : (b : Bool) → eqb (queue_row d.1.queue) row ≡ b → IsOnList order q d → IsOnList order' q d
    go true t l =
        let same : queue_row d.1.queue ≡ row = eqb-true (queue_row d.1.queue) row t in
        subst (λ r. IsIn (listed q d) (list_at order'.lists r)) (sym same)
        (kept (listed q d) (d, here, refl) (subst (λ r. IsIn (listed q d) (list_at order.lists r)) same l))
    go false t l = subst (IsIn (listed q d)) (sym (others (queue_row d.1.queue) (λ same. false≢true (sym t ∙ eq-eqb (queue_row d.1.queue) row same)))) l

-- ---- what waits, where a key changes

-- a cell that waits elsewhere
pub waits-elsewhere : (was now : QueueKey → Option ℕ) (k : QueueKey) (o : Option ℕ) → ((j : QueueKey) → now j ≡ cond (is_same k j) o (was j)) → (j : QueueKey) → (k ≡ j → ⊥) → now j ≡ was j
waits-elsewhere was now k o set j apart = go (is_same k j) refl (set j)
  where
    go : (b : Bool) → is_same k j ≡ b → now j ≡ cond b o (was j) → now j ≡ was j
    go true t e = absurd (apart (same-key k j t))
    go false t e = e

pub waits-here : (was now : QueueKey → Option ℕ) (k : QueueKey) (o : Option ℕ) → ((j : QueueKey) → now j ≡ cond (is_same k j) o (was j)) → now k ≡ o
waits-here was now k o set = set k ∙ ap (λ b. cond b o (was k)) (same-itself k)

-- where nothing is put, what waits did before, elsewhere
pub waits-left : (was now : QueueKey → Option ℕ) (k : QueueKey) → ((j : QueueKey) → now j ≡ cond (is_same k j) None (was j)) → (j : QueueKey) (q : ℕ) → now j ≡ Some q → (k ≡ j → ⊥) × (was j ≡ Some q)
waits-left was now k set j q e = go (is_same k j) refl (sym (set j) ∙ e)
  where
    go : (b : Bool) → is_same k j ≡ b → cond b None (was j) ≡ Some q → (k ≡ j → ⊥) × (was j ≡ Some q)
    go true t f = absurd (none-some q f)
    go false t f = (λ same. false≢true (sym t ∙ ap (is_same k) (sym same) ∙ same-itself k), f)

-- ---- a cell and its key change together

module _ (clients : FinMap nat_cmp Client) (cells : FinMap nat_cmp PlaybackCell) (order order' : QueueOrder) (agenda : FinMap nat_cmp DueKey) (timed : AreTimed clients cells order agenda) where
  -- a cell that does not wait gets another content, or goes
  pub put-timed : (k : ℕ) (o : Option PlaybackCell) → ((j : QueueKey) → cell_at order.waiting j ≡ Some k → ⊥) → ((d : PlaybackCell) → o ≡ Some d → IsOnList order' k d) →
      ((q : ℕ) (c : PlaybackCell) → FinMap.get cells q ≡ Some c → IsOnList order q c → IsOnList order' q c) → ((j : QueueKey) → cell_at order'.waiting j ≡ cell_at order.waiting j) → order'.earliest ≡ order.earliest →
      (cells' : FinMap nat_cmp PlaybackCell) (agenda' : FinMap nat_cmp DueKey) → cells' ≡ with_entry cells k o → agenda' ≡ with_entry agenda k (key_of clients o) → AreTimed clients cells' order' agenda'
  put-timed k o off own kept same first cells' agenda' cells-is agenda-is = record {
    none = λ q e. none q (eqb q k) refl e;
    placed = λ q c e. placed q c (put-some cells k o q c (sym (ap (λ m. FinMap.get m q) cells-is) ∙ e));
    waits = λ j q e. waits j q (sym (same j) ∙ e);
    early = λ j q key e f. subst (λ m. m ≤ key.moment) (sym first) (timed.early j q key (sym (same j) ∙ e) (ap (key_of clients) (sym (cell-off j q (sym (same j) ∙ e))) ∙ f));
  }
    where
      cell-at : (q : ℕ) (b : Bool) → eqb q k ≡ b → FinMap.get cells' q ≡ cond b o (FinMap.get cells q)
      cell-at q b t = ap (λ m. FinMap.get m q) cells-is ∙ get-put cells k o q ∙ ap (λ x. cond x o (FinMap.get cells q)) t

      key-at : (q : ℕ) (b : Bool) → eqb q k ≡ b → FinMap.get agenda' q ≡ cond b (key_of clients o) (FinMap.get agenda q)
      key-at q b t = ap (λ m. FinMap.get m q) agenda-is ∙ get-put agenda k (key_of clients o) q ∙ ap (λ x. cond x (key_of clients o) (FinMap.get agenda q)) t

      off-false : (q : ℕ) → (q ≡ k → ⊥) → eqb q k ≡ false
      off-false q apart = go (eqb q k) refl
        where
          go : (b : Bool) → eqb q k ≡ b → b ≡ false
          go true t = absurd (apart (eqb-true q k t))
          go false t = refl

      cell-off : (j : QueueKey) (q : ℕ) → cell_at order.waiting j ≡ Some q → FinMap.get cells' q ≡ FinMap.get cells q
      cell-off j q e = cell-at q false (off-false q (λ at. off j (e ∙ ap (λ x. Some x) at)))

      key-off : (j : QueueKey) (q : ℕ) → cell_at order.waiting j ≡ Some q → FinMap.get agenda' q ≡ FinMap.get agenda q
      key-off j q e = key-at q false (off-false q (λ at. off j (e ∙ ap (λ x. Some x) at)))

      none : (q : ℕ) (b : Bool) → eqb q k ≡ b → FinMap.get cells' q ≡ None → FinMap.get agenda' q ≡ None
      none q true t e = key-at q true t ∙ ap (key_of clients) (sym (cell-at q true t) ∙ e)
      none q false t e = key-at q false t ∙ timed.none q (sym (cell-at q false t) ∙ e)

      elsewhere : (q : ℕ) (c : PlaybackCell) → (q ≡ k → ⊥) → FinMap.get cells q ≡ Some c → IsPlaced clients order agenda q c → IsPlaced clients order' agenda' q c
      elsewhere q c apart here (inl h) = inl (key-at q false (off-false q apart) ∙ h.0, kept q c here h.1)
      elsewhere q c apart here (inr h) = inr (key-at q false (off-false q apart) ∙ h.0, same (queue_key c) ∙ h.1)

      placed : (q : ℕ) (c : PlaybackCell) → ((q ≡ k) × (o ≡ Some c)) ⊎ ((q ≡ k → ⊥) × (FinMap.get cells q ≡ Some c)) → IsPlaced clients order' agenda' q c
      placed q c (inl h) =
          inl (key-at q true (eq-eqb q k h.0) ∙ ap (key_of clients) h.1, subst (λ x. IsOnList order' x c) (sym h.0) (own c h.1))
      placed q c (inr h) = elsewhere q c h.0 h.1 (timed.placed q c h.1)

      waits : (j : QueueKey) (q : ℕ) → cell_at order.waiting j ≡ Some q → IsWaiter cells' agenda' j q
      waits j q e =
          let w : IsWaiter cells agenda j q = timed.waits j q e in
          record { cell = w.cell; here = cell-off j q e ∙ w.here; key = w.key; free = key-off j q e ∙ w.free }

-- what the agenda has does not wait
pub keyed-off : (clients : FinMap nat_cmp Client) (cells : FinMap nat_cmp PlaybackCell) (order : QueueOrder) (agenda : FinMap nat_cmp DueKey) → AreTimed clients cells order agenda → (k : ℕ) (key : DueKey) → FinMap.get agenda k ≡ Some key → (j : QueueKey) → cell_at order.waiting j ≡ Some k → ⊥
keyed-off clients cells order agenda timed k key at j e = none-some key (sym (timed.waits j k e).free ∙ at)

-- and is listed
pub keyed-listed : (clients : FinMap nat_cmp Client) (cells : FinMap nat_cmp PlaybackCell) (order : QueueOrder) (agenda : FinMap nat_cmp DueKey) → AreTimed clients cells order agenda → (k : ℕ) (key : DueKey) (c : PlaybackCell) → FinMap.get agenda k ≡ Some key → FinMap.get cells k ≡ Some c → IsOnList order k c
keyed-listed clients cells order agenda timed k key c at here = go (timed.placed k c here)
  where
    go : IsPlaced clients order agenda k c → IsOnList order k c
    go (inl h) = h.1
    go (inr h) = absurd (none-some key (sym h.0 ∙ at))

-- the first event of a cell goes
pub timed-turn : (clients : FinMap nat_cmp Client) (cells : FinMap nat_cmp PlaybackCell) (order : QueueOrder) (agenda : FinMap nat_cmp DueKey) → AreTimed clients cells order agenda → (k : ℕ) (key : DueKey) (c : PlaybackCell) (es : List DueMessage) → FinMap.get agenda k ≡ Some key →
    FinMap.get cells k ≡ Some c → (cells' : FinMap nat_cmp PlaybackCell) (agenda' : FinMap nat_cmp DueKey) → cells' ≡ with_entry cells k (cell_rest c es) → agenda' ≡ with_entry agenda k (key_of clients (cell_rest c es)) → AreTimed clients cells' order agenda'
timed-turn clients cells order agenda timed k key c es at here =
    put-timed clients cells order order agenda timed k (cell_rest c es) (keyed-off clients cells order agenda timed k key at) (own es) (λ q d e l. l) (λ j. refl) refl
  where
    own : (xs : List DueMessage) (d : PlaybackCell) → cell_rest c xs ≡ Some d → IsOnList order k d
    own [] d e = absurd (none-some d e)
    own (x ∷ xs) d e = subst (IsOnList order k) (same_Some _ d e) (keyed-listed clients cells order agenda timed k key c at here)

-- a cell comes
pub timed-added : (clients : FinMap nat_cmp Client) (cells : FinMap nat_cmp PlaybackCell) (order order' : QueueOrder) (agenda : FinMap nat_cmp DueKey) → AreTimed clients cells order agenda → (k : ℕ) (c : PlaybackCell) → FinMap.get cells k ≡ None → IsOnList order' k c →
    ((q : ℕ) (d : PlaybackCell) → FinMap.get cells q ≡ Some d → IsOnList order q d → IsOnList order' q d) → order'.waiting ≡ order.waiting → order'.earliest ≡ order.earliest →
    (cells' : FinMap nat_cmp PlaybackCell) (agenda' : FinMap nat_cmp DueKey) → cells' ≡ with_entry cells k (Some c) → agenda' ≡ with_entry agenda k (key_of clients (Some c)) → AreTimed clients cells' order' agenda'
timed-added clients cells order order' agenda timed k c free own kept waiting first =
    put-timed clients cells order order' agenda timed k (Some c) (λ j e. none-some (timed.waits j k e).cell (sym free ∙ (timed.waits j k e).here))
    (λ d e. subst (IsOnList order' k) (same_Some c d e) own) kept (λ j. ap (λ w. cell_at w j) waiting) first

-- ---- a cell goes

pub timed-gone : (clients : FinMap nat_cmp Client) (cells : FinMap nat_cmp PlaybackCell) (order order' : QueueOrder) (agenda : FinMap nat_cmp DueKey) (n : ℕ) → AreCells cells n → AreTimed clients cells order agenda → (k : ℕ) (c : PlaybackCell) → FinMap.get cells k ≡ Some c →
    ((j : QueueKey) → cell_at order'.waiting j ≡ cond (is_same (queue_key c) j) None (cell_at order.waiting j)) → order'.lists ≡ order.lists → order'.earliest ≡ order.earliest →
    (cells' : FinMap nat_cmp PlaybackCell) (agenda' : FinMap nat_cmp DueKey) → cells' ≡ with_entry cells k None → agenda' ≡ with_entry agenda k None → AreTimed clients cells' order' agenda'
timed-gone clients cells order order' agenda n are timed k c here set lists first cells' agenda' cells-is agenda-is = record {
  none = λ q e. none q (eqb q k) refl e;
  placed = λ q d e. placed q d (put-some cells k None q d (sym (ap (λ m. FinMap.get m q) cells-is) ∙ e));
  waits = λ j q e. let w = waits-left (cell_at order.waiting) (cell_at order'.waiting) (queue_key c) set j q e in waits j q w.0 w.1;
  early = λ j q key e f.
      let w = waits-left (cell_at order.waiting) (cell_at order'.waiting) (queue_key c) set j q e in
      subst (λ m. m ≤ key.moment) (sym first) (timed.early j q key w.1 (ap (key_of clients) (sym (cell-off q (off j q w.0 w.1))) ∙ f));
}
  where
    cell-off : (q : ℕ) → (q ≡ k → ⊥) → FinMap.get cells' q ≡ FinMap.get cells q
    cell-off q apart = ap (λ m. FinMap.get m q) cells-is ∙ get-put_other cells k None q apart

    key-off : (q : ℕ) → (q ≡ k → ⊥) → FinMap.get agenda' q ≡ FinMap.get agenda q
    key-off q apart = ap (λ m. FinMap.get m q) agenda-is ∙ get-put_other agenda k None q apart

    none : (q : ℕ) (b : Bool) → eqb q k ≡ b → FinMap.get cells' q ≡ None → FinMap.get agenda' q ≡ None
    none q true t e = ap (λ m. FinMap.get m q) agenda-is ∙ ap (FinMap.get (with_entry agenda k None)) (eqb-true q k t) ∙ get-put_here agenda k None
    none q false t e =
        let apart : q ≡ k → ⊥ = λ same. false≢true (sym t ∙ eq-eqb q k same) in
        key-off q apart ∙ timed.none q (sym (cell-off q apart) ∙ e)

    -- what waits at another key is another cell
    off : (j : QueueKey) (q : ℕ) → (queue_key c ≡ j → ⊥) → cell_at order.waiting j ≡ Some q → q ≡ k → ⊥
    off j q apart e at =
        let w : IsWaiter cells agenda j q = timed.waits j q e in
        apart (ap queue_key (same_Some c w.cell (sym here ∙ ap (FinMap.get cells) (sym at) ∙ w.here)) ∙ w.key)

    waits : (j : QueueKey) (q : ℕ) → (queue_key c ≡ j → ⊥) → cell_at order.waiting j ≡ Some q → IsWaiter cells' agenda' j q
    waits j q apart e =
        let w : IsWaiter cells agenda j q = timed.waits j q e in
        record { cell = w.cell; here = cell-off q (off j q apart e) ∙ w.here; key = w.key; free = key-off q (off j q apart e) ∙ w.free }

    elsewhere : (q : ℕ) (d : PlaybackCell) → (q ≡ k → ⊥) → FinMap.get cells q ≡ Some d → IsPlaced clients order agenda q d → IsPlaced clients order' agenda' q d
    elsewhere q d apart there (inl h) = inl (key-off q apart ∙ h.0, subst (λ ls. IsIn (listed q d) (list_at ls (queue_row d.1.queue))) (sym lists) h.1)
    elsewhere q d apart there (inr h) = inr (
      key-off q apart ∙ h.0,
      waits-elsewhere (cell_at order.waiting) (cell_at order'.waiting) (queue_key c) None set (queue_key d) (λ same. apart (one-key cells n q k d c are there here (sym same))) ∙ h.1,
    )

    placed : (q : ℕ) (d : PlaybackCell) → ((q ≡ k) × (None ≡ Some d)) ⊎ ((q ≡ k → ⊥) × (FinMap.get cells q ≡ Some d)) → IsPlaced clients order' agenda' q d
    placed q d (inl h) = absurd (none-some d h.1)
    placed q d (inr h) = elsewhere q d h.0 h.1 (timed.placed q d h.1)

-- ---- a cell that waits comes to the agenda

pub timed-woken : (clients : FinMap nat_cmp Client) (cells : FinMap nat_cmp PlaybackCell) (order order' : QueueOrder) (agenda : FinMap nat_cmp DueKey) (n : ℕ) → AreCells cells n → AreTimed clients cells order agenda → (j : QueueKey) (k : ℕ) (c : PlaybackCell) (key : DueKey) →
    cell_at order.waiting j ≡ Some k → FinMap.get cells k ≡ Some c → key_of clients (Some c) ≡ Some key → ((i : QueueKey) → cell_at order'.waiting i ≡ cond (is_same j i) None (cell_at order.waiting i)) → IsOnList order' k c →
    ((q : ℕ) (d : PlaybackCell) → FinMap.get cells q ≡ Some d → IsOnList order q d → IsOnList order' q d) → order'.earliest ≡ order.earliest → (agenda' : FinMap nat_cmp DueKey) → agenda' ≡ FinMap.insert agenda k key → AreTimed clients cells order' agenda'
timed-woken clients cells order order' agenda n are timed j k c key at here keyed set own kept first agenda' agenda-is = record {
  none = λ q e. key-off q (λ same. none-some c (sym e ∙ ap (FinMap.get cells) same ∙ here)) ∙ timed.none q e;
  placed = λ q d e. placed q d (eqb q k) refl e;
  waits = λ i q e. let w = waits-left (cell_at order.waiting) (cell_at order'.waiting) j set i q e in waits i q w.0 w.1;
  early = λ i q x e f. subst (λ m. m ≤ x.moment) (sym first) (timed.early i q x (waits-left (cell_at order.waiting) (cell_at order'.waiting) j set i q e).1 f);
}
  where
    key-here : FinMap.get agenda' k ≡ Some key
    key-here = ap (λ m. FinMap.get m k) agenda-is ∙ get-put_here agenda k (Some key)

    key-off : (q : ℕ) → (q ≡ k → ⊥) → FinMap.get agenda' q ≡ FinMap.get agenda q
    key-off q apart = ap (λ m. FinMap.get m q) agenda-is ∙ get-put_other agenda k (Some key) q apart

    its-key : queue_key c ≡ j
    its-key = let w : IsWaiter cells agenda j k = timed.waits j k at in ap queue_key (same_Some c w.cell (sym here ∙ w.here)) ∙ w.key

    waits : (i : QueueKey) (q : ℕ) → (j ≡ i → ⊥) → cell_at order.waiting i ≡ Some q → IsWaiter cells agenda' i q
    waits i q apart e =
        let w : IsWaiter cells agenda i q = timed.waits i q e in
        let off : q ≡ k → ⊥ = λ same. apart (sym its-key ∙ ap queue_key (same_Some c w.cell (sym here ∙ ap (FinMap.get cells) (sym same) ∙ w.here)) ∙ w.key) in
        record { cell = w.cell; here = w.here; key = w.key; free = key-off q off ∙ w.free }

    elsewhere : (q : ℕ) (d : PlaybackCell) → (q ≡ k → ⊥) → FinMap.get cells q ≡ Some d → IsPlaced clients order agenda q d → IsPlaced clients order' agenda' q d
    elsewhere q d apart there (inl h) = inl (key-off q apart ∙ h.0, kept q d there h.1)
    elsewhere q d apart there (inr h) = inr (
      key-off q apart ∙ h.0,
      waits-elsewhere (cell_at order.waiting) (cell_at order'.waiting) j None set (queue_key d) (λ same. apart (one-key cells n q k d c are there here (sym same ∙ sym its-key))) ∙ h.1,
    )

    placed : (q : ℕ) (d : PlaybackCell) (b : Bool) → eqb q k ≡ b → FinMap.get cells q ≡ Some d → IsPlaced clients order' agenda' q d
    placed q d true t e =
        let same : q ≡ k = eqb-true q k t in
        let one : c ≡ d = same_Some c d (sym here ∙ ap (FinMap.get cells) (sym same) ∙ e) in
        inl (ap (FinMap.get agenda') same ∙ key-here ∙ sym keyed ∙ ap (λ x. key_of clients (Some x)) one, subst (λ x. IsOnList order' x d) (sym same) (subst (IsOnList order' k) one own))
    placed q d false t e = elsewhere q d (λ same. false≢true (sym t ∙ eq-eqb q k same)) e (timed.placed q d e)

-- ---- other clients, whose queues give the same moments

pub timed-stay : (was clients : FinMap nat_cmp Client) (cells : FinMap nat_cmp PlaybackCell) (order : QueueOrder) (agenda : FinMap nat_cmp DueKey) → ((q : ℕ) (c : PlaybackCell) → FinMap.get cells q ≡ Some c → SameMoments was clients c.1.queue) → AreTimed was cells order agenda → AreTimed clients cells order agenda
timed-stay was clients cells order agenda same timed = record {
  none = timed.none;
  placed = λ q c e. placed q c e (timed.placed q c e);
  waits = timed.waits;
  early = λ j q key e f. let w : IsWaiter cells agenda j q = timed.waits j q e in timed.early j q key e (ap (key_of was) w.here ∙ key_same was clients w.cell (same q w.cell w.here) ∙ sym (ap (key_of clients) w.here) ∙ f);
}
  where
    placed : (q : ℕ) (c : PlaybackCell) → FinMap.get cells q ≡ Some c → IsPlaced was order agenda q c → IsPlaced clients order agenda q c
    placed q c e (inl h) = inl (h.0 ∙ key_same was clients c (same q c e), h.1)
    placed q c e (inr h) = inr h

-- the agenda's keys are those of their cells
pub keyed-is : (clients : FinMap nat_cmp Client) (cells : FinMap nat_cmp PlaybackCell) (order : QueueOrder) (agenda : FinMap nat_cmp DueKey) → AreTimed clients cells order agenda → (q : ℕ) (key : DueKey) → FinMap.get agenda q ≡ Some key → key_of clients (FinMap.get cells q) ≡ Some key
keyed-is clients cells order agenda timed q key at = go (FinMap.get cells q) refl
  where
    placed : (c : PlaybackCell) → FinMap.get cells q ≡ Some c → IsPlaced clients order agenda q c → key_of clients (Some c) ≡ Some key
    placed c here (inl h) = sym h.0 ∙ at
    placed c here (inr h) = absurd (none-some key (sym h.0 ∙ at))

    go : (o : Option PlaybackCell) → FinMap.get cells q ≡ o → key_of clients o ≡ Some key
    go None here = absurd (none-some key (sym (timed.none q here) ∙ at))
    go (Some c) here = placed c here (timed.placed q c here)

-- no other cell has the key of a cell
pub keyed-free : (clients : FinMap nat_cmp Client) (cells : FinMap nat_cmp PlaybackCell) (order : QueueOrder) (agenda : FinMap nat_cmp DueKey) (n : ℕ) → AreCells cells n → AreTimed clients cells order agenda → (k : ℕ) (c : PlaybackCell) (key : DueKey) → FinMap.get cells k ≡ Some c → c.1.rank ≡ key.rank → (q : ℕ) → FinMap.get agenda q ≡ Some key → q ≡ k
keyed-free clients cells order agenda n are timed k c key here rank q at =
    let d = key_of-some clients (FinMap.get cells q) key (keyed-is clients cells order agenda timed q key at) in
    are.apart q k d.0 c d.1 here (d.3 ∙ sym rank)
