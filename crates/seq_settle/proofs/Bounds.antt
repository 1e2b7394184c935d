-- The least moment at which what waits may be due.
use Rattle.std.proofs.Common.{◌≡◌, ℕ, ◌+◌, ◌*◌, ◌≤◌, true, false, Option, Some, None, refl, sym, ap, subst, ◌∙◌, arith}
use Rattle.std.specs.Ordering.{nat_cmp}
use Rattle.std.specs.Prelude.{unwrap_or}
use Rattle.std.specs.FinMap.{FinMap}
use Rattle.std.proofs.lemmas.Bool.{le-leb}
use Rattle.std.proofs.lemmas.Bool.Decides.{nat_tests}
use Rattle.tempo_clock.specs.Laws.{NoLater}
use Rattle.tempo_clock.specs.declared.due.Due.{Due}
use Rattle.tempo_clock.specs.declared.due.Due.TheVariants.{Tick, Nanos}
use Rattle.tempo_clock.proofs.MomentLaws.{moments_rise}
use Rattle.node_table.specs.declared.number.QueueAddr.{QueueAddr}
use Rattle.seq_state.specs.State.{Client, Queue}
use Rattle.seq_state.specs.Step.{moment_in}
use Rattle.seq_settle.specs.declared.waiting.QueueKey.{QueueKey}
use Rattle.seq_settle.specs.Cells.{due_le}
use Rattle.seq_settle.specs.Moments.{moment_at, queue_in}
use Rattle.seq_settle.specs.Order.{base_of, waiting_key, queue_row, time_of}
use Rattle.seq_settle.specs.Waiting.{is_before}
use Rattle.seq_settle.proofs.Clocks.{times_rise}

-- of two due times counted alike the one with the lesser number comes no later
pub due-rises : (d e : Due) → base_of d ≡ base_of e → time_of d ≤ time_of e → due_le d e ≡ true
due-rises (Tick s) (Tick t) b l = le-leb s t l
due-rises (Nanos s) (Nanos t) b l = le-leb s t l
due-rises (Tick s) (Nanos t) b l = absurd (omega (arith, b))
due-rises (Nanos s) (Tick t) b l = absurd (omega (arith, b))

-- what is due later on a queue is due no sooner, whenever it was accepted
pub no-sooner : (clients : FinMap nat_cmp Client) (queue : QueueAddr) (accepted : ℕ) (d e : Due) → due_le d e ≡ true → NoLater (moment_at clients queue 0 d) (moment_at clients queue accepted e)
no-sooner clients queue accepted d e l = go (queue_in clients queue)
  where
    go : (q : Option Queue) → NoLater (moment_in q 0 d) (moment_in q accepted e)
    go None = tt
    go (Some q) = moments_rise q.clock 0 accepted d e (omega arith) (times_rise q.clock.map d e l)

pub no-sooner-some : (clients : FinMap nat_cmp Client) (queue : QueueAddr) (accepted : ℕ) (d e : Due) (b m : ℕ) → due_le d e ≡ true → moment_at clients queue 0 d ≡ Some b → moment_at clients queue accepted e ≡ Some m → b ≤ m
no-sooner-some clients queue accepted d e b m l f g = subst (λ o. NoLater (Some b) o) g (subst (λ o. NoLater o (moment_at clients queue accepted e)) f (no-sooner clients queue accepted d e l))

pub no-sooner-none : (clients : FinMap nat_cmp Client) (queue : QueueAddr) (accepted : ℕ) (d e : Due) (m : ℕ) → due_le d e ≡ true → moment_at clients queue 0 d ≡ None → moment_at clients queue accepted e ≡ Some m → ⊥
no-sooner-none clients queue accepted d e m l f g = subst (λ o. NoLater None o) g (subst (λ o. NoLater o (moment_at clients queue accepted e)) f (no-sooner clients queue accepted d e l))

-- the first that waits in a row has the least time
least-time : (queue : QueueAddr) (first due : Due) (rank : ℕ) (key from : QueueKey) → from ≡ waiting_key queue 0 first → time_of first ≡ 0 → base_of due ≡ base_of first → key.row ≡ from.row →
    (is_before (waiting_key queue rank due) from ≡ false → is_before (waiting_key queue rank due) key ≡ false) → key.time ≤ time_of due
least-time queue first due rank key from is zero same row least =
    let start : is_before (waiting_key queue rank due) from ≡ false = rw is (rw zero (rw same (grind (arith, nat_tests)))) in
    let behind : is_before (waiting_key queue rank due) key ≡ false = least start in
    let at : key.row ≡ (waiting_key queue rank due).row = row ∙ ap (λ (k : QueueKey). k.row) is ∙ ap (λ b. 2 * queue_row queue + b) (sym same) in
    grind (arith, nat_tests)

-- so what it is due by is due no later than what waits in the row
pub first-le : (queue : QueueAddr) (first like due : Due) (rank : ℕ) (key from : QueueKey) → from ≡ waiting_key queue 0 first → time_of first ≡ 0 → base_of due ≡ base_of first → key.row ≡ from.row →
    (is_before (waiting_key queue rank due) from ≡ false → is_before (waiting_key queue rank due) key ≡ false) → base_of like ≡ base_of first → time_of like ≡ key.time → due_le like due ≡ true
first-le queue first like due rank key from is zero same row least base time =
    let first_time : key.time ≤ time_of due = least-time queue first due rank key from is zero same row least in
    due-rises like due (base ∙ sym same) (omega (arith, time))

-- so a moment, or the last that there is where there is none, is a bound on all later due times
pub least-is : (clients : FinMap nat_cmp Client) (queue : QueueAddr) (accepted : ℕ) (d e : Due) (last b m : ℕ) → due_le d e ≡ true → b ≡ unwrap_or (moment_at clients queue 0 d) last → moment_at clients queue accepted e ≡ Some m → b ≤ m
least-is clients queue accepted d e last b m l is at = go (moment_at clients queue 0 d) refl is
  where
    go : (o : Option ℕ) → moment_at clients queue 0 d ≡ o → b ≡ unwrap_or o last → b ≤ m
    go None f g = absurd (no-sooner-none clients queue accepted d e m l f at)
    go (Some n) f g = let le : n ≤ m = no-sooner-some clients queue accepted d e n m l f at in omega (arith, g)
