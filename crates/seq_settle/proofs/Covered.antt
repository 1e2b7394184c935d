-- An agenda beside which nothing is due that waits tells what all keys together would tell.
use Rattle.std.proofs.lemmas.Option.{none-some, same_Some}
use Rattle.std.proofs.Common.{◌≡◌, ◌≢◌, ℕ, ◌<◌, ◌≤◌, Bool, true, false, cond, eqb, ◌||◌, inl, inr, List, [], ◌∷◌, Option, Some, None, refl, sym, ap, ◌∙◌, arith}
use Rattle.std.specs.Prelude.{is_some}
use Rattle.std.specs.List.{list_any}
use Rattle.std.specs.declared.cmp.Ordering.TheVariants.{Less, Greater}
use Rattle.std.specs.Ordering.{nat_cmp, ordering_then, eq_by_cmp}
use Rattle.std.specs.Cmp.{nat_cmp_is}
use Rattle.std.specs.FinMap
use Rattle.std.specs.FinMap.{FinMap}
use Rattle.std.proofs.lemmas.Bool.{false≢true, eqb-true}
use Rattle.seq_state.specs.State.{Client, DueMessage, with_entry}
use Rattle.seq_state.proofs.Effects.{get-put}
use Rattle.agenda_heap.specs.declared.due_key.DueKey.{DueKey}
use Rattle.agenda_heap.specs.Due.{due_cmp, IsFirstDue, NoneDue}
use Rattle.seq_settle.specs.declared.head.PoppedMessage.{PoppedMessage}
use Rattle.seq_settle.specs.declared.order.QueueOrder.{QueueOrder}
use Rattle.seq_settle.specs.Cells.{PlaybackCell, AreCells, cell_rest, key_of}
use Rattle.seq_settle.specs.Order.{queue_key, IsPlaced, AreTimed, AreLater, NoneComes}
use Rattle.seq_settle.specs.Sends.{first_popped, key_of_head}
use Rattle.seq_settle.proofs.Loop.{Given, given, next_is}
use Rattle.seq_settle.proofs.Ranks.{same_number}
use Rattle.seq_settle.proofs.Stores.{get-put_other, put-put}
use Rattle.seq_settle.proofs.Timed.{keyed-is, keyed-off, timed-turn}
use Rattle.seq_settle.proofs.Turn.{AreFirstKeys, key_of-some}

-- ---- the keys of all cells

module _ (clients : FinMap nat_cmp Client) (cells : FinMap nat_cmp PlaybackCell) where
  -- the keys of these cells
  keys_of_some : List ℕ → FinMap nat_cmp DueKey
  keys_of_some [] = FinMap.empty
  keys_of_some (q ∷ qs) = with_entry (keys_of_some qs) q (key_of clients (FinMap.get cells q))

  pub all_keys : FinMap nat_cmp DueKey
  all_keys = keys_of_some (FinMap.keys cells)

  key-absent : (q : ℕ) → FinMap.get cells q ≡ None → (qs : List ℕ) → FinMap.get (keys_of_some qs) q ≡ None
  unfolding keys_of_some
  key-absent q none [] = FinMap.get-empty nat_cmp q
  key-absent q none (k ∷ qs) = get-put (keys_of_some qs) k (key_of clients (FinMap.get cells k)) q ∙ go (eqb q k) refl (key-absent q none qs)
    where
      go : (b : Bool) → eqb q k ≡ b → FinMap.get (keys_of_some qs) q ≡ None → cond b (key_of clients (FinMap.get cells k)) (FinMap.get (keys_of_some qs) q) ≡ None
      go true t rest = ap (λ n. key_of clients (FinMap.get cells n)) (sym (eqb-true q k t)) ∙ ap (key_of clients) none
      go false t rest = rest

  key-there : (q : ℕ) (qs : List ℕ) → list_any (eq_by_cmp nat_cmp q) qs ≡ true → FinMap.get (keys_of_some qs) q ≡ key_of clients (FinMap.get cells q)
  unfolding keys_of_some
  key-there q [] h = absurd (false≢true h)
  key-there q (k ∷ qs) h = get-put (keys_of_some qs) k (key_of clients (FinMap.get cells k)) q ∙ go (eqb q k) refl (ap (λ b. b || list_any (eq_by_cmp nat_cmp q) qs) (sym (same_number q k)) ∙ h) (λ f. key-there q qs f)
    where
      go : (b : Bool) → eqb q k ≡ b → (b || list_any (eq_by_cmp nat_cmp q) qs) ≡ true → (list_any (eq_by_cmp nat_cmp q) qs ≡ true → FinMap.get (keys_of_some qs) q ≡ key_of clients (FinMap.get cells q)) → cond b (key_of clients (FinMap.get cells k)) (FinMap.get (keys_of_some qs) q) ≡ key_of clients (FinMap.get cells q)
      go true t e rest = ap (λ n. key_of clients (FinMap.get cells n)) (sym (eqb-true q k t))
      go false t e rest = rest e

  pub all-keys : AreFirstKeys clients cells all_keys
  unfolding all_keys
  all-keys = record { keyed = λ q. go q (FinMap.get cells q) refl }
    where
      go : (q : ℕ) (o : Option PlaybackCell) → FinMap.get cells q ≡ o → FinMap.get (keys_of_some (FinMap.keys cells)) q ≡ key_of clients (FinMap.get cells q)
      go q None e = key-absent q e (FinMap.keys cells) ∙ sym (ap (key_of clients) e)
      go q (Some c) e = key-there q (FinMap.keys cells) (sym (FinMap.contains_key-keys cells q) ∙ ap is_some e)

-- ---- what the agenda tells

-- what is due later is not less
later_not_less : (a b : DueKey) → b.moment < a.moment → due_cmp a b ≢ Less
later_not_less a b l less =
    let greater : nat_cmp a.moment b.moment ≡ Greater = sym (nat_cmp_is a.moment b.moment Greater l) in
    let is : due_cmp a b ≡ Greater = ap (λ r. ordering_then r (ordering_then (nat_cmp a.rank b.rank) (nat_cmp a.place b.place))) greater in
    cc

module _ (clients : FinMap nat_cmp Client) (cells : FinMap nat_cmp PlaybackCell) (order : QueueOrder) (agenda : FinMap nat_cmp DueKey) (timed : AreTimed clients cells order agenda) (m : ℕ) (later : AreLater clients cells order m) where
  -- a key is the agenda's, or is due later
  either : (P : DueKey → Type 0) → ((q : ℕ) (x : DueKey) → FinMap.get agenda q ≡ Some x → P x) → ((x : DueKey) → m < x.moment → P x) → (q : ℕ) (x : DueKey) → FinMap.get (all_keys clients cells) q ≡ Some x → P x
  either P here after q x e =
      let f : key_of clients (FinMap.get cells q) ≡ Some x = sym ((all-keys clients cells).keyed q) ∙ e in
      let h = key_of-some clients (FinMap.get cells q) x f in
      go h.0 h.1 f (timed.placed q h.0 h.1)
    where
      go : (c : PlaybackCell) → FinMap.get cells q ≡ Some c → key_of clients (FinMap.get cells q) ≡ Some x → IsPlaced clients order agenda q c → P x
      go c at f (inl p) = here q x (p.0 ∙ sym (ap (key_of clients) at) ∙ f)
      go c at f (inr p) = after x (later (queue_key c) q x p.1 f)

  pub first-of-all : (k : ℕ) (key : DueKey) → IsFirstDue agenda k key m → IsFirstDue (all_keys clients cells) k key m
  first-of-all k key first = record {
    here = (all-keys clients cells).keyed k ∙ keyed-is clients cells order agenda timed k key first.here;
    least = either (λ x. due_cmp x key ≢ Less) first.least (λ x l. let d : key.moment ≤ m = first.due in later_not_less x key (omega arith));
    due = first.due;
  }

  pub none-of-all : NoneDue agenda m → NoneDue (all_keys clients cells) m
  none-of-all none = either (λ x. m < x.moment) none (λ x l. l)

  -- where no cell is due, the agenda has none that is
  pub none-comes : NoneComes clients cells m → NoneDue agenda m
  none-comes none q x e = none q x (keyed-is clients cells order agenda timed q x e)

  -- ---- a turn

  pub turn-timed : (n : ℕ) → AreCells cells n → (k : ℕ) (key : DueKey) (r : PoppedMessage) (next : Option DueKey) (cells' : FinMap nat_cmp PlaybackCell) (agenda1 agenda' : FinMap nat_cmp DueKey) → IsFirstDue agenda k key m →
      ((c : PlaybackCell) (e : DueMessage) (es : List DueMessage) → FinMap.get cells k ≡ Some c → c.1.events ≡ e ∷ es → Some r ≡ Some (first_popped c e es)) →
      ((c : PlaybackCell) (e : DueMessage) (es : List DueMessage) → FinMap.get cells k ≡ Some c → c.1.events ≡ e ∷ es → cells' ≡ with_entry cells k (cell_rest c es)) →
      next ≡ key_of_head clients r.head → agenda1 ≡ FinMap.remove agenda k → agenda' ≡ with_entry agenda1 k next → AreTimed clients cells' order agenda' × AreLater clients cells' order m
  turn-timed n are k key r next cells' agenda1 agenda' first event rest nk gone a =
      let g : Given cells k = given clients cells (all_keys clients cells) n m k key are (all-keys clients cells) (first-of-all k key first) in
      let r-is : r ≡ first_popped g.cell g.event g.rest = same_Some r (first_popped g.cell g.event g.rest) (event g.cell g.event g.rest g.here g.events) in
      let next-is : next ≡ key_of clients (cell_rest g.cell g.rest) = nk ∙ ap (λ (x : PoppedMessage). key_of_head clients x.head) r-is ∙ next_is clients g.cell g.event g.rest in
      let cells-is : cells' ≡ with_entry cells k (cell_rest g.cell g.rest) = rest g.cell g.event g.rest g.here g.events in (
        timed-turn clients cells order agenda timed k key g.cell g.rest first.here g.here cells' agenda' cells-is
            (a ∙ ap (λ x. with_entry x k next) gone ∙ put-put agenda k None next ∙ ap (with_entry agenda k) next-is),
        λ j q x e f. later j q x e (ap (key_of clients) (sym (ap (λ y. FinMap.get y q) cells-is ∙ get-put_other cells k (cell_rest g.cell g.rest) q (λ same. keyed-off clients cells order agenda timed k key first.here j (e ∙ ap (λ y. Some y) same)))) ∙ f),
      )

-- what has another key still has it among all
pub all-left : (clients : FinMap nat_cmp Client) (cells : FinMap nat_cmp PlaybackCell) (order : QueueOrder) (agenda agenda1 : FinMap nat_cmp DueKey) → AreTimed clients cells order agenda → (k : ℕ) → agenda1 ≡ FinMap.remove agenda k → (q : ℕ) (x : DueKey) → FinMap.get agenda1 q ≡ Some x →
    FinMap.get (FinMap.remove (all_keys clients cells) k) q ≡ Some x
all-left clients cells order agenda agenda1 timed k gone q x e = get-put (all_keys clients cells) k None q ∙ go (eqb q k) refl (sym (get-put agenda k None q) ∙ ap (λ m. FinMap.get m q) (sym gone) ∙ e)
  where
    go : (b : Bool) → eqb q k ≡ b → cond b None (FinMap.get agenda q) ≡ Some x → cond b None (FinMap.get (all_keys clients cells) q) ≡ Some x
    go true t f = absurd (none-some x f)
    go false t f = (all-keys clients cells).keyed q ∙ keyed-is clients cells order agenda timed q x f
