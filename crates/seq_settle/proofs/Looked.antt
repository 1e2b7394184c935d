-- What a look at a cell tells.
use Rattle.std.proofs.lemmas.Option.{none-some, same_Some}
use Rattle.std.proofs.Common.{◌≡◌, ℕ, Bool, true, false, eqb, ◌&&◌, List, [], ◌∷◌, Option, Some, None, refl, sym, ap, ◌∙◌, eq-eqb}
use Rattle.std.specs.Option.{option_map}
use Rattle.std.specs.Ordering.{nat_cmp}
use Rattle.std.specs.FinMap
use Rattle.std.specs.FinMap.{FinMap}
use Rattle.std.proofs.lemmas.Bool.{false≢true, eqb-true}
use Rattle.tempo_clock.specs.declared.due.Due.{Due}
use Rattle.node_table.specs.declared.number.QueueAddr.{QueueAddr}
use Rattle.seq_state.specs.State.{Client, DueMessage}
use Rattle.seq_state.specs.Step.{is_left}
use Rattle.seq_settle.specs.declared.head.PlaybackHead.{PlaybackHead}
use Rattle.seq_settle.specs.Cells.{PlaybackCell, AreCells, key_of, pending_in}
use Rattle.seq_settle.specs.Order.{waiting_key, waiting_key_by, queue_key}
use Rattle.seq_settle.specs.Sends.{head_of, key_of_head, next_due}
use Rattle.seq_settle.proofs.NewKeys.{key_of_head-is}

-- no cell is there
pub looked-none : (o : Option PlaybackCell) (c : PlaybackCell) → None ≡ option_map head_of o → o ≡ Some c → ⊥
looked-none None c e here = none-some c here
looked-none (Some d) c e here = none-some (head_of d) e

-- it says what the cell says of itself
pub looked-some : (o : Option PlaybackCell) (c : PlaybackCell) (h : PlaybackHead) → Some h ≡ option_map head_of o → o ≡ Some c → h ≡ head_of c
looked-some o c h e here = same_Some h (head_of c) (e ∙ ap (option_map head_of) here)

-- and a cell is there
pub looked-here : (o : Option PlaybackCell) (h : PlaybackHead) → Some h ≡ option_map head_of o → (c : PlaybackCell) × (o ≡ Some c) × (h ≡ head_of c)
looked-here None h e = absurd (none-some h (sym e))
looked-here (Some c) h e = (c, refl, same_Some h (head_of c) e)

pub looked-due : (o : Option PlaybackCell) (c : PlaybackCell) (h : PlaybackHead) → Some h ≡ option_map head_of o → o ≡ Some c → h.due ≡ next_due c.1.events
looked-due o c h e here = ap (λ (x : PlaybackHead). x.due) (looked-some o c h e here)

-- each cell has an event left
pub due-none : (cells : FinMap nat_cmp PlaybackCell) (n : ℕ) → AreCells cells n → (q : ℕ) (c : PlaybackCell) → FinMap.get cells q ≡ Some c → next_due c.1.events ≡ None → ⊥
due-none cells n are q c here none = go c.1.events none (are.filled q c here)
  where
    has : List DueMessage → Bool
    has [] = false
    has (e ∷ es) = true

    go : (es : List DueMessage) → next_due es ≡ None → is_left (pending_in (c.0, record c.1 { events = es })) ≡ true → ⊥
    go [] e t = false≢true t
    go (x ∷ xs) e t = none-some x.due (sym e)

-- where a cell stands, by what it says of itself
pub looked-key : (c : PlaybackCell) (h : PlaybackHead) (due : Due) → h ≡ head_of c → h.due ≡ Some due → waiting_key h.queue h.rank due ≡ queue_key c
looked-key c h due is some = ap (λ (x : PlaybackHead). waiting_key x.queue x.rank due) is ∙ ap (waiting_key_by c.1) (sym some ∙ ap (λ (x : PlaybackHead). x.due) is)

-- ---- a queue that is compared

pub queue-same : (a b : QueueAddr) → (eqb a.client b.client && eqb a.queue b.queue) ≡ true → a ≡ b
queue-same a b h = go (eqb a.client b.client) (eqb a.queue b.queue) refl refl h
  where
    go : (x y : Bool) → eqb a.client b.client ≡ x → eqb a.queue b.queue ≡ y → (x && y) ≡ true → a ≡ b
    go true true t u f =
        ap (λ n. let q : QueueAddr = record { client = n; queue = a.queue } in q) (eqb-true a.client b.client t)
        ∙ ap (λ n. let q : QueueAddr = record { client = b.client; queue = n } in q) (eqb-true a.queue b.queue u)
    go true false t u f = absurd (false≢true f)
    go false y t u f = absurd (false≢true f)

pub queue-apart : (a b : QueueAddr) → (eqb a.client b.client && eqb a.queue b.queue) ≡ false → a ≡ b → ⊥
queue-apart a b h e =
    false≢true (sym h ∙ ap (λ x. x && eqb a.queue b.queue) (eq-eqb a.client b.client (ap (λ (q : QueueAddr). q.client) e)) ∙ eq-eqb a.queue b.queue (ap (λ (q : QueueAddr). q.queue) e))

-- its key is that of the cell
pub looked-keyed : (clients : FinMap nat_cmp Client) (o : Option PlaybackCell) (h : PlaybackHead) → Some h ≡ option_map head_of o → key_of clients o ≡ key_of_head clients h
looked-keyed clients o h e =
    let x = looked-here o h e in
    ap (key_of clients) x.1 ∙ sym (key_of_head-is clients x.0) ∙ sym (ap (key_of_head clients) x.2)
