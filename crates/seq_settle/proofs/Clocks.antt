-- What the engine asks of the moments that clocks give.
use Rattle.std.proofs.Common.{◌≡◌, ℕ, ◌≤◌, true, Option, Some, None, refl, arith}
use Rattle.std.proofs.lemmas.Bool.{le-leb, leb-true}
use Rattle.std.specs.Ordering.{nat_cmp}
use Rattle.std.specs.FinMap.{FinMap}
use Rattle.tempo_clock.specs.declared.due.Due.{Due}
use Rattle.tempo_clock.specs.declared.due.Due.TheVariants.{Tick, Nanos}
use Rattle.tempo_clock.specs.Clocks.{moment_of, due_time}
use Rattle.tempo_clock.specs.Laws.{NoLater}
use Rattle.tempo_clock.specs.Ticks.{Tempos}
use Rattle.tempo_clock.proofs.MomentLaws.{moments_rise}
use Rattle.tempo_clock.proofs.TickLaws.{nanos_rise}
use Rattle.seq_state.specs.State.{Client, Queue, DueMessage, OwnedPlayback}
use Rattle.seq_state.specs.Step.{moment_in, event_moment}
use Rattle.seq_state.proofs.Pop.{not_before}
use Rattle.seq_settle.specs.Moments.{queue_in, moment_at}
use Rattle.seq_settle.specs.Cells.{due_le}

-- what is due later is due later in time
pub times_rise : (m : Tempos) (d e : Due) → due_le d e ≡ true → due_time m d ≤ due_time m e
times_rise m (Tick s) (Tick t) l = nanos_rise m s t (leb-true s t l)
times_rise m (Nanos s) (Nanos t) l = leb-true s t l
times_rise m (Tick s) (Nanos t) l = absurd (cc)
times_rise m (Nanos s) (Tick t) l = absurd (cc)

module _ (clients : FinMap nat_cmp Client) where
  told : (a b : Option ℕ) → NoLater a b → not_before clients a b ≡ true
  told None None h = refl
  told (Some m) None h = refl
  told None (Some n) h = absurd h
  told (Some m) (Some n) h = le-leb m n h

  itself : (o : Option ℕ) → not_before clients o o ≡ true
  itself None = refl
  itself (Some m) = le-leb m m (omega arith)

  by_queue : (q : Option Queue) (accepted : ℕ) (d e : Due) → due_le d e ≡ true → not_before clients (moment_in q accepted d) (moment_in q accepted e) ≡ true
  by_queue None accepted d e l = refl
  by_queue (Some q) accepted d e l = told (moment_of q.clock accepted d) (moment_of q.clock accepted e) (moments_rise q.clock accepted accepted d e (omega arith) (times_rise q.clock.map d e l))

  -- an event's moment is that of its due time
  pub event_moment-is : (p : OwnedPlayback) (e : DueMessage) → event_moment clients p e ≡ moment_at clients p.queue p.playback.accepted e.due
  event_moment-is p e = refl

  -- what is due later has no earlier moment
  pub event_moment-rises : (p : OwnedPlayback) (d e : DueMessage) → due_le d.due e.due ≡ true → not_before clients (event_moment clients p d) (event_moment clients p e) ≡ true
  event_moment-rises p d e l =
      by_queue (queue_in clients p.queue) p.playback.accepted d.due e.due l
