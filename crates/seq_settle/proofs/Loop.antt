-- What the settling loop keeps, turn by turn.
use Rattle.std.proofs.Common.{◌≡◌, ℕ, ◌<◌, Bool, true, false, cond, eqb, List, [], ◌∷◌, ◌++◌, Option, Some, None, refl, sym, ap, subst, ◌∙◌, append_assoc, append-nil}
use Rattle.std.specs.Ordering.{nat_cmp}
use Rattle.std.specs.FinMap
use Rattle.std.specs.FinMap.{FinMap}
use Rattle.std.proofs.lemmas.Bool.{false≢true, eqb-true}
use Rattle.std.proofs.lemmas.Option.{none-some, same_Some}
use Rattle.patch_graph.specs.declared.edge.Edge.{Edge}
use Rattle.seq_state.specs.State.{Client, ClientPool, DueMessage, OwnedPlayback, State, with_entry}
use Rattle.seq_state.specs.declared.log.Delivery.{Delivery}
use Rattle.seq_state.specs.Step.{pools_after, copies_with_room, is_left, settle}
use Rattle.seq_state.proofs.Effects.{get-put}
use Rattle.agenda_heap.specs.declared.due_key.DueKey.{DueKey}
use Rattle.seq_settle.specs.declared.head.PoppedMessage.{PoppedMessage}
use Rattle.agenda_heap.specs.Due.{IsFirstDue, NoneDue}
use Rattle.seq_settle.specs.Cells.{PlaybackCell, pending_in, playbacks, seen_state, AreCells, key_of, cell_rest, events_in}
use Rattle.seq_settle.specs.Sends.{copies_of, first_popped, key_of_head, IsWithoutFirst}
use Rattle.seq_settle.proofs.Stores.{put-put}
use Rattle.seq_settle.proofs.Turn.{AreFirstKeys, key_of-some, settle_turn, settle_end, after_cells, fewer}

-- the key of the next event is that of what is left of the cell
pub next_is : (clients : FinMap nat_cmp Client) (c : PlaybackCell) (e : DueMessage) (es : List DueMessage) → key_of_head clients (first_popped c e es).head ≡ key_of clients (cell_rest c es)
next_is clients c e [] = refl
next_is clients c e (x ∷ xs) = refl

-- a cell and its key change together
pub keys_put : (clients : FinMap nat_cmp Client) (cells : FinMap nat_cmp PlaybackCell) (agenda : FinMap nat_cmp DueKey) (k : ℕ) (o : Option PlaybackCell) → AreFirstKeys clients cells agenda → AreFirstKeys clients (with_entry cells k o) (with_entry agenda k (key_of clients o))
keys_put clients cells agenda k o keys = record {
  keyed = λ q. get-put agenda k (key_of clients o) q ∙ ap (cond (eqb q k) (key_of clients o)) (keys.keyed q) ∙ go q (eqb q k) ∙ sym (ap (key_of clients) (get-put cells k o q));
}
  where
    go : (q : ℕ) (b : Bool) → cond b (key_of clients o) (key_of clients (FinMap.get cells q)) ≡ key_of clients (cond b o (FinMap.get cells q))
    go q true = refl
    go q false = refl

-- ---- the loop

-- What the loop keeps: from what it began with, the state and the deliveries of settling are those that it comes to.
pub record Keeps (clients : FinMap nat_cmp Client) (edges : List Edge) (n m : ℕ) (goal : State) (told : List Delivery) (pools : FinMap nat_cmp ClientPool) (log : List Delivery) (cells : FinMap nat_cmp PlaybackCell) (agenda : FinMap nat_cmp DueKey) : Type 0 where
  pub are : AreCells cells n
  pub keys : AreFirstKeys clients cells agenda
  pub state : (settle (seen_state clients pools edges cells n) m).state ≡ goal
  pub told_is : log ++ (settle (seen_state clients pools edges cells n) m).delivered ≡ told

-- The cell that an agenda gives, with its first event.
pub record Given (cells : FinMap nat_cmp PlaybackCell) (k : ℕ) : Type 0 where
  pub cell : PlaybackCell
  pub event : DueMessage
  pub rest : List DueMessage
  pub here : FinMap.get cells k ≡ Some cell
  pub events : cell.1.events ≡ event ∷ rest

first_of : (p : OwnedPlayback) (es : List DueMessage) → p.playback.events ≡ es → is_left p ≡ true → (e : DueMessage) × (xs : List DueMessage) × (es ≡ e ∷ xs)
first_of p [] f h = let bad : false ≡ true = ap (λ xs. has xs) (sym f) ∙ h in absurd (false≢true bad)
  where
    has : List DueMessage → Bool
    has [] = false
    has (e ∷ es) = true
first_of p (e ∷ es) f h = (e, es, refl)

pub given : (clients : FinMap nat_cmp Client) (cells : FinMap nat_cmp PlaybackCell) (agenda : FinMap nat_cmp DueKey) (n m k : ℕ) (key : DueKey) → AreCells cells n → AreFirstKeys clients cells agenda → IsFirstDue agenda k key m → Given cells k
given clients cells agenda n m k key are keys first =
    let h = key_of-some clients (FinMap.get cells k) key (sym (keys.keyed k) ∙ first.here) in
    let f = first_of (pending_in h.0) h.0.1.events refl (are.filled k h.0 h.1) in
    record { cell = h.0; event = f.0; rest = f.1; here = h.1; events = f.2 }

-- one turn
pub turn : (clients : FinMap nat_cmp Client) (edges : List Edge) (n m : ℕ) (goal : State) (told : List Delivery) (pools pools' : FinMap nat_cmp ClientPool) (log log' : List Delivery) (cells cells' : FinMap nat_cmp PlaybackCell) (agenda agenda' : FinMap nat_cmp DueKey)
    (k : ℕ) (key : DueKey) (r : PoppedMessage) (next : Option DueKey) → Keeps clients edges n m goal told pools log cells agenda → IsFirstDue agenda k key m →
    ((c : PlaybackCell) (e : DueMessage) (es : List DueMessage) → FinMap.get cells k ≡ Some c → c.1.events ≡ e ∷ es → Some r ≡ Some (first_popped c e es)) →
    ((c : PlaybackCell) (e : DueMessage) (es : List DueMessage) → FinMap.get cells k ≡ Some c → c.1.events ≡ e ∷ es → cells' ≡ with_entry cells k (cell_rest c es)) →
    pools' ≡ pools_after pools (copies_of clients edges key.moment r.head.client r.head.port r.message) → log' ≡ log ++ copies_with_room pools (copies_of clients edges key.moment r.head.client r.head.port r.message) →
    next ≡ key_of_head clients r.head → agenda' ≡ with_entry (FinMap.remove agenda k) k next → Keeps clients edges n m goal told pools' log' cells' agenda'
turn clients edges n m goal told pools pools' log log' cells cells' agenda agenda' k key r next kept first event rest p l nk a =
    let g : Given cells k = given clients cells agenda n m k key kept.are kept.keys first in
    let c : PlaybackCell = g.cell in
    let r_is : r ≡ first_popped c g.event g.rest = same_Some _ _ (event c g.event g.rest g.here g.events) in
    let ds : List Delivery = copies_of clients edges key.moment c.0 c.1.port g.event.message in
    let cs : FinMap nat_cmp PlaybackCell = with_entry cells k (cell_rest c g.rest) in
    let cells_is : cells' ≡ cs = rest c g.event g.rest g.here g.events in
    let pools_is : pools' ≡ pools_after pools ds = p ∙ ap (λ (x : PoppedMessage). pools_after pools (copies_of clients edges key.moment x.head.client x.head.port x.message)) r_is in
    let log_is : log' ≡ log ++ copies_with_room pools ds = l ∙ ap (λ (x : PoppedMessage). log ++ copies_with_room pools (copies_of clients edges key.moment x.head.client x.head.port x.message)) r_is in
    let next_is_key : next ≡ key_of clients (cell_rest c g.rest) = nk ∙ ap (λ (x : PoppedMessage). key_of_head clients x.head) r_is ∙ next_is clients c g.event g.rest in
    let agenda_is : agenda' ≡ with_entry agenda k (key_of clients (cell_rest c g.rest)) = a ∙ put-put agenda k None next ∙ ap (with_entry agenda k) next_is_key in
    let h = settle_turn clients cells agenda n kept.are kept.keys pools edges k m key first c g.here g.event g.rest g.events in
    let moved : State = seen_state clients (pools_after pools ds) edges cs n in
    record {
      are = subst (λ x. AreCells x n) (sym cells_is) (after_cells clients cells agenda n kept.are kept.keys pools edges k m key first c g.here g.event g.rest g.events);
      keys = subst (λ x. AreFirstKeys clients x agenda') (sym cells_is) (subst (AreFirstKeys clients cs) (sym agenda_is) (keys_put clients cells agenda k (cell_rest c g.rest) kept.keys));
      state = ap (λ x. (settle (seen_state clients pools' edges x n) m).state) cells_is ∙ ap (λ x. (settle (seen_state clients x edges cs n) m).state) pools_is ∙ sym h.0 ∙ kept.state;
      told_is = ap (λ x. log' ++ (settle (seen_state clients pools' edges x n) m).delivered) cells_is ∙ ap (λ x. log' ++ (settle (seen_state clients x edges cs n) m).delivered) pools_is
          ∙ ap (λ xs. xs ++ (settle moved m).delivered) log_is ∙ append_assoc log (copies_with_room pools ds) (settle moved m).delivered ∙ ap (λ xs. log ++ xs) (sym h.1) ∙ kept.told_is;
    }

-- and the cells have an event less
pub turn_fewer : (clients : FinMap nat_cmp Client) (edges : List Edge) (n m : ℕ) (pools : FinMap nat_cmp ClientPool) (cells cells' : FinMap nat_cmp PlaybackCell) (agenda : FinMap nat_cmp DueKey) (k : ℕ) (key : DueKey) → AreCells cells n → AreFirstKeys clients cells agenda → IsFirstDue agenda k key m →
    ((c : PlaybackCell) (e : DueMessage) (es : List DueMessage) → FinMap.get cells k ≡ Some c → c.1.events ≡ e ∷ es → cells' ≡ with_entry cells k (cell_rest c es)) → events_in (playbacks cells' n) < events_in (playbacks cells n)
turn_fewer clients edges n m pools cells cells' agenda k key are keys first rest =
    let g : Given cells k = given clients cells agenda n m k key are keys first in
    let cells_is : cells' ≡ with_entry cells k (cell_rest g.cell g.rest) = rest g.cell g.event g.rest g.here g.events in
    subst (λ x. events_in (playbacks x n) < events_in (playbacks cells n)) (sym cells_is) (fewer clients cells agenda n are keys pools edges k m key first g.cell g.here g.event g.rest g.events)

-- a key that no other cell has
pub fresh_next : (clients : FinMap nat_cmp Client) (n m : ℕ) (cells : FinMap nat_cmp PlaybackCell) (agenda agenda1 : FinMap nat_cmp DueKey) (k : ℕ) (key : DueKey) (r : PoppedMessage) (next : Option DueKey) → AreCells cells n → AreFirstKeys clients cells agenda → IsFirstDue agenda k key m →
    ((c : PlaybackCell) (e : DueMessage) (es : List DueMessage) → FinMap.get cells k ≡ Some c → c.1.events ≡ e ∷ es → Some r ≡ Some (first_popped c e es)) → agenda1 ≡ FinMap.remove agenda k → next ≡ key_of_head clients r.head →
    (x : DueKey) (q : ℕ) → next ≡ Some x → FinMap.get agenda1 q ≡ Some x → q ≡ k
fresh_next clients n m cells agenda agenda1 k key r next are keys first event gone nk x q e f =
    let g : Given cells k = given clients cells agenda n m k key are keys first in
    let r_is : r ≡ first_popped g.cell g.event g.rest = same_Some _ _ (event g.cell g.event g.rest g.here g.events) in
    let h = key_of-some clients (cell_rest g.cell g.rest) x (sym (nk ∙ ap (λ (x : PoppedMessage). key_of_head clients x.head) r_is ∙ next_is clients g.cell g.event g.rest) ∙ e) in
    let rank : h.0.1.rank ≡ g.cell.1.rank = rest_rank g.cell g.rest h.0 h.1 in
    go (eqb q k) refl (sym (get-put agenda k None q) ∙ ap (λ a. FinMap.get a q) (sym gone) ∙ f) (sym h.3 ∙ rank) g
  where
    rest_rank : (c : PlaybackCell) (es : List DueMessage) (d : PlaybackCell) → cell_rest c es ≡ Some d → d.1.rank ≡ c.1.rank
    rest_rank c [] d e = absurd (none-some d e)
    rest_rank c (y ∷ ys) d e = ap (λ (z : PlaybackCell). z.1.rank) (sym (same_Some _ d e))

    go : (b : Bool) → eqb q k ≡ b → cond b None (FinMap.get agenda q) ≡ Some x → x.rank ≡ (given clients cells agenda n m k key are keys first).cell.1.rank → Given cells k → q ≡ k
    go true t h rank g = eqb-true q k t
    go false t h rank g =
        let o = key_of-some clients (FinMap.get cells q) x (sym (keys.keyed q) ∙ h) in
        are.apart q k o.0 (given clients cells agenda n m k key are keys first).cell o.1 (given clients cells agenda n m k key are keys first).here (o.3 ∙ rank)

-- the end
pub loop_end : (clients : FinMap nat_cmp Client) (edges : List Edge) (n m : ℕ) (goal : State) (told : List Delivery) (pools : FinMap nat_cmp ClientPool) (log : List Delivery) (cells : FinMap nat_cmp PlaybackCell) (agenda : FinMap nat_cmp DueKey) →
    Keeps clients edges n m goal told pools log cells agenda → NoneDue agenda m → (seen_state clients pools edges cells n ≡ goal) × (log ≡ told)
loop_end clients edges n m goal told pools log cells agenda kept none =
    let h = settle_end clients pools edges cells agenda n m kept.are kept.keys none in
    (sym h.0 ∙ kept.state, sym (append-nil log) ∙ ap (λ xs. log ++ xs) (sym h.1) ∙ kept.told_is)

-- the same, where the turn's calls see equal clients and edges
pub turn_from : (clients : FinMap nat_cmp Client) (edges : List Edge) (n m : ℕ) (goal : State) (told : List Delivery) (pools pools' : FinMap nat_cmp ClientPool) (log log' : List Delivery) (cells cells' : FinMap nat_cmp PlaybackCell) (agenda agenda1 agenda' : FinMap nat_cmp DueKey)
    (k : ℕ) (key : DueKey) (r : PoppedMessage) (next : Option DueKey) → Keeps clients edges n m goal told pools log cells agenda → IsFirstDue agenda k key m →
    ((c : PlaybackCell) (e : DueMessage) (es : List DueMessage) → FinMap.get cells k ≡ Some c → c.1.events ≡ e ∷ es → Some r ≡ Some (first_popped c e es)) →
    ((c : PlaybackCell) (e : DueMessage) (es : List DueMessage) → FinMap.get cells k ≡ Some c → c.1.events ≡ e ∷ es → cells' ≡ with_entry cells k (cell_rest c es)) →
    (clients0 clients1 : FinMap nat_cmp Client) (edges0 : List Edge) → clients0 ≡ clients → edges0 ≡ edges → clients1 ≡ clients0 →
    pools' ≡ pools_after pools (copies_of clients0 edges0 key.moment r.head.client r.head.port r.message) → log' ≡ log ++ copies_with_room pools (copies_of clients0 edges0 key.moment r.head.client r.head.port r.message) →
    next ≡ key_of_head clients1 r.head → agenda1 ≡ FinMap.remove agenda k → agenda' ≡ with_entry agenda1 k next → Keeps clients edges n m goal told pools' log' cells' agenda'
turn_from clients edges n m goal told pools pools' log log' cells cells' agenda agenda1 agenda' k key r next kept first event rest clients0 clients1 edges0 same same_edges same1 p l nk gone a =
    let ds : copies_of clients0 edges0 key.moment r.head.client r.head.port r.message ≡ copies_of clients edges key.moment r.head.client r.head.port r.message =
    ap (λ x. copies_of x edges0 key.moment r.head.client r.head.port r.message) same ∙ ap (λ x. copies_of clients x key.moment r.head.client r.head.port r.message) same_edges in
    turn clients edges n m goal told pools pools' log log' cells cells' agenda agenda' k key r next kept first event rest
    (p ∙ ap (pools_after pools) ds) (l ∙ ap (λ x. log ++ copies_with_room pools x) ds) (nk ∙ ap (λ x. key_of_head x r.head) (same1 ∙ same)) (a ∙ ap (λ x. with_entry x k next) gone)

-- a cell that an agenda gives has an event
pub has_event : (clients : FinMap nat_cmp Client) (cells : FinMap nat_cmp PlaybackCell) (agenda : FinMap nat_cmp DueKey) (n m k : ℕ) (key : DueKey) (o : Option PoppedMessage) → AreCells cells n → AreFirstKeys clients cells agenda → IsFirstDue agenda k key m →
    ((c : PlaybackCell) (e : DueMessage) (es : List DueMessage) → FinMap.get cells k ≡ Some c → c.1.events ≡ e ∷ es → o ≡ Some (first_popped c e es)) → o ≡ None → ⊥
has_event clients cells agenda n m k key o are keys first event none =
    let g : Given cells k = given clients cells agenda n m k key are keys first in
    none-some (first_popped g.cell g.event g.rest) (sym none ∙ event g.cell g.event g.rest g.here g.events)

-- a cell that the agenda gave has no key any more
pub gone-again : (agenda left : FinMap nat_cmp DueKey) (k : ℕ) → left ≡ FinMap.remove agenda k → left ≡ with_entry left k None
gone-again agenda left k gone = gone ∙ sym (put-put agenda k None None) ∙ ap (λ m. with_entry m k None) (sym gone)

-- the cells without a first event, where they were the same before
pub from-same : {cells was left : FinMap nat_cmp PlaybackCell} (k : ℕ) → cells ≡ was → IsWithoutFirst cells k left → IsWithoutFirst was k left
from-same {cells} {was} {left} k same without = subst (λ m. IsWithoutFirst m k left) same without

-- any map of the keys will do
pub rekept : (clients : FinMap nat_cmp Client) (edges : List Edge) (n m : ℕ) (goal : State) (told : List Delivery) (pools : FinMap nat_cmp ClientPool) (log : List Delivery) (cells : FinMap nat_cmp PlaybackCell) (agenda other : FinMap nat_cmp DueKey) → AreFirstKeys clients cells other →
    Keeps clients edges n m goal told pools log cells agenda → Keeps clients edges n m goal told pools log cells other
rekept clients edges n m goal told pools log cells agenda other keys kept = record { are = kept.are; keys = keys; state = kept.state; told_is = kept.told_is }
