-- An event that leaves its cell.
use Rattle.std.proofs.Common.{◌≡◌, ℕ, List, [], ◌∷◌, map, Option, Some, None, refl, sym, ap, ◌∙◌}
use Rattle.std.specs.Prelude.{slice_get, IsSome}
use Rattle.std.specs.Option.{option_map}
use Rattle.std.specs.Ordering.{nat_cmp}
use Rattle.std.specs.FinMap
use Rattle.std.specs.FinMap.{FinMap}
use Rattle.std.proofs.lemmas.Option.{none-some, same_Some}
use Rattle.tempo_clock.specs.declared.due.Due.TheVariants.{Tick}
use Rattle.smf_grammar.specs.declared.event.Event as files
use Rattle.cell_pools.specs.Cells.{Store, IsTaken}
use Rattle.seq_state.specs.State.{DueMessage, with_entry}
use Rattle.seq_settle.specs.declared.head.PoppedMessage.{PoppedMessage}
use Rattle.seq_settle.specs.Cells.{RankedPlayback, PlaybackCell, with_rest, cell_rest}
use Rattle.seq_settle.specs.Events.{file_event}
use Rattle.seq_settle.specs.Sends.{next_due, first_popped}
use Rattle.seq_settle.proofs.Stores.{put-put}

-- ---- the first event of a file

pub first-some : (events : List files.Event) (tick : ℕ) → Some tick ≡ option_map (λ e. e.tick) (slice_get events 0) → Some (Tick tick) ≡ next_due (map file_event events)
first-some [] tick e = absurd (none-some tick (sym e))
first-some (x ∷ xs) tick e = ap (λ t. Some (Tick t)) (same_Some tick x.tick e)

pub first-none : (events : List files.Event) → None ≡ option_map (λ e. e.tick) (slice_get events 0) → None ≡ next_due (map file_event events)
first-none [] e = refl
first-none (x ∷ xs) e = absurd (none-some x.tick e)

-- ---- a cell whose first event went

due-is : (p : PoppedMessage) (c : PlaybackCell) (e : DueMessage) (es : List DueMessage) → Some p ≡ Some (first_popped c e es) → p.head.due ≡ next_due es
due-is p c e es is = ap (λ (x : PoppedMessage). x.head.due) (same_Some p (first_popped c e es) is)

-- the cell goes with its last event
pub rest-is : (cells : FinMap nat_cmp PlaybackCell) (after last : Store RankedPlayback) (k : ℕ) (c : PlaybackCell) (e : DueMessage) (es : List DueMessage) (p : PoppedMessage) → after.cells ≡ FinMap.insert cells k (c.0, with_rest c.1 es) →
    Some p ≡ Some (first_popped c e es) → (p.head.due ≡ None → IsTaken after last k) → (IsSome p.head.due → last ≡ after) → last.cells ≡ with_entry cells k (cell_rest c es)
rest-is cells after last k c e [] p went is spent left =
    let taken : IsTaken after last k = spent (due-is p c e [] is) in
    taken.cells ∙ ap (λ m. with_entry m k None) went ∙ put-put cells k (Some (c.0, with_rest c.1 [])) None
rest-is cells after last k c e (x ∷ xs) p went is spent left =
    ap (λ (s : Store RankedPlayback). s.cells) (left (some p.head.due x.due (due-is p c e (x ∷ xs) is))) ∙ went
  where
    some : {Y : Type 0} (o : Option Y) (y : Y) → o ≡ Some y → IsSome o
    some None y f = absurd (none-some y f)
    some (Some z) y f = search
