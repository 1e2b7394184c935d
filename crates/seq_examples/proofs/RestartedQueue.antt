-- The run `restarted_queue`, step by step.
use Rattle.std.proofs.Common.{false, List, [], ◌∷◌, ◌++◌, Some, None, refl, arith}
use Rattle.std.specs.Prelude.{codes}
use Rattle.tempo_clock.specs.Ticks.{nanos_at, numerator, duration, tempo_or, resolution}
use Rattle.tempo_clock.specs.Worked.{two_a_second}
use Rattle.tempo_clock.specs.declared.due.Due.TheVariants.{Tick, Nanos}
use Rattle.seq_state.specs.declared.input.Command.TheVariants.{Start, Stop}
use Rattle.seq_state.specs.declared.input.DueAt.TheVariants as due_at
use Rattle.seq_state.specs.declared.log.Reply.TheVariants.{Done}
use Rattle.seq_state.specs.State.{State, Client, start}
use Rattle.seq_state.specs.Table.{command_row}
use Rattle.seq_state.specs.Step.{Stepped}
use Rattle.seq_examples.specs.Rows.{a_queue, a_note, a_delivery, an_arrival, restarted_queue, RestartedQueue}
use Rattle.seq_examples.proofs.Traces.{Settles, Trace, ends, thus, quiet, trace-log}
use Rattle.seq_examples.proofs.CommandSteps.{holding, pooled, filled, single, playing, still, sorts, changes, schedules}
use Rattle.seq_examples.proofs.Beginnings.{nothing-pending, player, with_queue, performing, player_steps, becomes-sender, starts-queue, listening, listener_steps, listens}
use Rattle.seq_examples.proofs.Worked.{to, clock-moment, IsDue, tick-at_one, ways, paths-ways, finds}

abbrev s4 : State
s4 = performing start 128 (codes "a") 8

abbrev s7 : State
s7 = listening s4 8 66

abbrev stopped : Client
stopped = with_queue (with_queue (player (codes "a") 8) false 0 (Some 0)) false 100 None

abbrev s8 : State
s8 = holding s7 128 stopped

abbrev s9 : State
s9 = holding s8 128 (with_queue stopped false 0 (Some 200))

abbrev s10 : State
s10 = playing s9 128 (a_queue 128 0) (single 0 200 (Nanos 50) (a_note 0x01))

abbrev u10 : State
u10 = pooled (record s10 { pending = [] }) 129 (filled 8 (an_arrival 250 0 (a_note 0x01) ∷ []) 0)

abbrev s11 : State
s11 = playing u10 128 (a_queue 128 0) (single 0 1041867 (Tick 2) (a_note 0x02))

abbrev after : List Stepped
after =
    player_steps start 128 (codes "a") 8 ++ listener_steps s4 8 66 ++ quiet (s8 ∷ s9 ∷ s10 ∷ [])
    ++ to s11 (a_delivery 250 129 0 (a_note 0x01) ∷ []) Done ∷ []

first : IsDue two_a_second 0 200 200 (Nanos 50) (Some 250)
first = clock-moment two_a_second 0 200 200 50 (Nanos 50) refl (omega arith)

second : IsDue two_a_second 0 200 1041867 (Tick 2) (Some 2083534)
unfolding nanos_at numerator duration tempo_or resolution
second = clock-moment two_a_second 0 200 1041867 2083334 (Tick 2) refl (omega arith)

trace : Trace [] start restarted_queue after
unfolding command_row ways
trace =
    becomes-sender [] start 128 0 (codes "a") 8 (nothing-pending start 0 0 refl) refl (simp finds)
    refl refl
    (starts-queue [] start 128 0 (codes "a") 8 (nothing-pending start 0 0 refl) refl
    (listens [] s4 8 66 (nothing-pending s4 0 128 refl) (simp finds) (simp finds) refl refl refl
    (thus (changes [] (still s7 100 refl) 128 (Stop (a_queue 128 0)) stopped (simp finds))
    (thus (changes [] (still s8 200 refl) 128 (Start (a_queue 128 0))
    (with_queue stopped false 0 (Some 200)) (simp finds))
    (thus (schedules [] (still s9 200 refl) 128 (a_queue 128 0) 0 (due_at.Nanos 50) (a_note 0x01)
    (Nanos 50) (simp finds))
    (thus (schedules [] (sorts s10 1041867 u10 (a_delivery 250 129 0 (a_note 0x01) ∷ [])
    (simp (finds, paths-ways, first))) 128 (a_queue 128 0) 0 (due_at.TickAfter 1) (a_note 0x02)
    (Tick 2) (simp (finds, tick-at_one))) ends))))))

abbrev u : State
u =
    pooled (record s11 { pending = [] }) 129
    (filled 8 (an_arrival 250 0 (a_note 0x01) ∷ an_arrival 2083534 0 (a_note 0x02) ∷ []) 0)

last : Settles s11 2100000 u (a_delivery 2083534 129 0 (a_note 0x02) ∷ [])
unfolding ways
last = sorts s11 2100000 u (a_delivery 2083534 129 0 (a_note 0x02) ∷ []) (simp (finds, paths-ways, second))

pub run : RestartedQueue
run = trace-log trace last
