-- The run `equal_ticks`, step by step.
use Rattle.std.proofs.Common.{false, List, [], ◌∷◌, ◌++◌, Some, refl, arith}
use Rattle.std.specs.Prelude.{codes}
use Rattle.tempo_clock.specs.Ticks.{Tempos, nanos_at, numerator, duration, tempo_or, resolution}
use Rattle.tempo_clock.specs.declared.due.Due.TheVariants.{Tick}
use Rattle.tempo_clock.proofs.Moments.{moment-held}
use Rattle.seq_state.specs.declared.input.Command.TheVariants.{CreateQueue, Start}
use Rattle.seq_state.specs.declared.input.DueAt.TheVariants as due_at
use Rattle.seq_state.specs.State.{Client, State, start}
use Rattle.seq_state.specs.Effect.{held_queue, one_tempo, put_queue}
use Rattle.seq_state.specs.Table.{command_row}
use Rattle.seq_state.specs.Step.{Stepped}
use Rattle.seq_examples.specs.Rows.{a_queue, a_note, a_delivery, an_arrival, equal_ticks, EqualTicks}
use Rattle.seq_examples.proofs.Traces.{Settles, Trace, ends, thus, quiet, trace-log}
use Rattle.seq_examples.proofs.CommandSteps.{holding, pooled, filled, single, playing, still, sorts, changes, schedules}
use Rattle.seq_examples.proofs.Beginnings.{around, IsCalm, nothing-pending, sender, ready, sender_steps, becomes-sender, listening, listener_steps, listens}
use Rattle.seq_examples.proofs.Worked.{clock-moment, IsDue, ways, paths-ways, finds}

-- two ticks a nanosecond
abbrev fine : Tempos
fine = one_tempo 2000 1

abbrev s2 : State
s2 = ready start 128 (codes "a") 8

abbrev held : Client
held = put_queue 0 (Some (held_queue fine)) (sender (codes "a") 8)

abbrev s3 : State
s3 = holding s2 128 held

abbrev s4 : State
s4 = playing s3 128 (a_queue 128 0) (single 0 0 (Tick 2) (a_note 0x01))

abbrev s5 : State
s5 = playing s4 128 (a_queue 128 0) (single 0 0 (Tick 1) (a_note 0x02))

abbrev s8 : State
s8 = listening s5 8 66

abbrev started : Client
started =
    put_queue 0 (Some (record {
      clock = record { map = fine; time = 0; since = Some 10 };
      shared = false;
    })) held

abbrev s9 : State
s9 = holding s8 128 started

abbrev after : List Stepped
after =
    sender_steps start 128 (codes "a") 8 ++ quiet (s3 ∷ s4 ∷ s5 ∷ [])
    ++ listener_steps s5 8 66 ++ quiet (s9 ∷ [])

calm : IsCalm s5 0 128
calm clients pools edges same =
    let t : State = around s5 clients pools edges in
    sorts t 0 t [] (simp (finds, same, moment-held))

trace : Trace [] start equal_ticks after
unfolding command_row
trace =
    becomes-sender [] start 128 0 (codes "a") 8 (nothing-pending start 0 0 refl) refl (simp finds)
    refl refl
    (thus (changes [] (still s2 0 refl) 128 (CreateQueue 0 2000 1) held (simp finds))
    (thus (schedules [] (still s3 0 refl) 128 (a_queue 128 0) 0 (due_at.Tick 2) (a_note 0x01)
    (Tick 2) (simp finds))
    (thus (schedules [] (sorts s4 0 s4 [] (simp (finds, moment-held))) 128 (a_queue 128 0) 0
    (due_at.Tick 1) (a_note 0x02) (Tick 1) (simp finds))
    (listens [] s5 8 66 calm (simp finds) (simp finds) refl refl refl
    (thus (changes [] (sorts s8 10 s8 [] (simp (finds, moment-held))) 128 (Start (a_queue 128 0))
    started (simp finds)) ends)))))

-- both come one nanosecond after the start
first : IsDue fine 0 10 0 (Tick 2) (Some 11)
unfolding nanos_at numerator duration tempo_or resolution
first = clock-moment fine 0 10 0 1 (Tick 2) refl (omega arith)

second : IsDue fine 0 10 0 (Tick 1) (Some 11)
unfolding nanos_at numerator duration tempo_or resolution
second = clock-moment fine 0 10 0 1 (Tick 1) refl (omega arith)

abbrev u : State
u =
    pooled (pooled (record s9 { pending = [] }) 129 (filled 8 (an_arrival 11 0 (a_note 0x01) ∷ []) 0))
    129 (filled 8 (an_arrival 11 0 (a_note 0x01) ∷ an_arrival 11 0 (a_note 0x02) ∷ []) 0)

last : Settles s9 20 u (a_delivery 11 129 0 (a_note 0x01) ∷ a_delivery 11 129 0 (a_note 0x02) ∷ [])
unfolding ways
last =
    sorts s9 20 u (a_delivery 11 129 0 (a_note 0x01) ∷ a_delivery 11 129 0 (a_note 0x02) ∷ [])
    (simp (finds, paths-ways, first, second))

pub run : EqualTicks
run = trace-log trace last
