-- The run `queue_clock`, step by step.
use Rattle.std.proofs.Common.{true, false, List, [], ◌∷◌, ◌++◌, Some, None, refl, arith}
use Rattle.std.specs.Prelude.{codes}
use Rattle.tempo_clock.specs.Clocks.{Clock}
use Rattle.tempo_clock.specs.Ticks.{nanos_at, numerator, duration, tempo_or, resolution, with_tempo_from}
use Rattle.tempo_clock.specs.Worked.{two_a_second}
use Rattle.tempo_clock.specs.declared.due.Due.TheVariants.{Tick, Nanos}
use Rattle.tempo_clock.proofs.Moments.{moment-held}
use Rattle.seq_state.specs.declared.input.Command.TheVariants.{CreateQueue, Start, Stop, Continue, Tempo}
use Rattle.seq_state.specs.declared.input.DueAt.TheVariants as due_at
use Rattle.seq_state.specs.declared.log.Reply.TheVariants.{Done, Queue, Pools}
use Rattle.seq_state.specs.State.{Client, OwnedPlayback, State, start}
use Rattle.seq_state.specs.Effect.{put_queue}
use Rattle.seq_state.specs.Table.{command_row}
use Rattle.seq_state.specs.Step.{Stepped, pending_of}
use Rattle.seq_examples.specs.Rows.{a_queue, a_note, a_delivery, an_arrival, queue_clock, QueueClock}
use Rattle.seq_examples.proofs.Traces.{Trace, ends, thus, quiet, trace-log}
use Rattle.seq_examples.proofs.CommandSteps.{holding, pooled, filled, single, playing, still, sorts, changes, schedules, asks, asks-queue}
use Rattle.seq_examples.proofs.Beginnings.{around, IsCalm, nothing-pending, ready, sender_steps, becomes-sender, player, with_queue, prepared, listening, listener_steps, listens}
use Rattle.seq_examples.proofs.Worked.{to, clock-moment, clock-never, IsDue, tick-at_second, first-tick, ways, paths-ways, finds}

abbrev s2 : State
s2 = ready start 128 (codes "a") 8

abbrev s3 : State
s3 = prepared start 128 (codes "a") 8

abbrev s4 : State
s4 = playing s3 128 (a_queue 128 0) (single 0 0 (Nanos 100) (a_note 0x01))

abbrev s5 : State
s5 = playing s4 128 (a_queue 128 0) (single 0 0 (Nanos 200) (a_note 0x02))

abbrev s6 : State
s6 = playing s5 128 (a_queue 128 0) (single 0 0 (Nanos 18446744073709551615) (a_note 0x03))

abbrev s7 : State
s7 = playing s6 128 (a_queue 128 0) (single 0 0 (Tick 2) (a_note 0x04))

abbrev s10 : State
s10 = listening s7 8 66

-- the owner, as its clock runs, stands, and runs at another tempo
abbrev started : Client
started = with_queue (player (codes "a") 8) false 0 (Some 10)

abbrev stopped : Client
stopped = with_queue started false 100 None

abbrev resumed : Client
resumed = with_queue stopped false 100 (Some 400)

abbrev faster_clock : Clock
faster_clock = record { map = with_tempo_from two_a_second 1 250000; time = 100; since = Some 400 }

abbrev faster : Client
faster = put_queue 0 (Some (record { clock = faster_clock; shared = false })) resumed

abbrev second : OwnedPlayback
second = pending_of 128 (Some (a_queue 128 0)) (single 0 0 (Nanos 200) (a_note 0x02))

abbrev third : OwnedPlayback
third = pending_of 128 (Some (a_queue 128 0)) (single 0 0 (Nanos 18446744073709551615) (a_note 0x03))

abbrev fourth : OwnedPlayback
fourth = pending_of 128 (Some (a_queue 128 0)) (single 0 0 (Tick 2) (a_note 0x04))

abbrev s11 : State
s11 = holding s10 128 started

abbrev u11 : State
u11 =
    pooled (record s11 { pending = second ∷ third ∷ fourth ∷ [] }) 129
    (filled 8 (an_arrival 110 0 (a_note 0x01) ∷ []) 0)

abbrev s12 : State
s12 = holding u11 128 stopped

abbrev s13 : State
s13 = holding s12 128 resumed

abbrev u13 : State
u13 =
    pooled (record s13 { pending = third ∷ fourth ∷ [] }) 129
    (filled 8 (an_arrival 110 0 (a_note 0x01) ∷ an_arrival 500 0 (a_note 0x02) ∷ []) 0)

abbrev s14 : State
s14 = holding u13 128 faster

abbrev u14 : State
u14 =
    pooled (record s14 { pending = third ∷ [] }) 129
    (filled 8 (an_arrival 110 0 (a_note 0x01) ∷ an_arrival 500 0 (a_note 0x02) ∷ an_arrival 1562800 0 (a_note 0x04) ∷ [])
    0)

abbrev after : List Stepped
after =
    sender_steps start 128 (codes "a") 8 ++ quiet (s3 ∷ s4 ∷ s5 ∷ s6 ∷ s7 ∷ [])
    ++ listener_steps s7 8 66 ++ quiet (s11 ∷ [])
    ++ to s12 (a_delivery 110 129 0 (a_note 0x01) ∷ []) Done ∷ to s13 [] Done
    ∷ to s14 (a_delivery 500 129 0 (a_note 0x02) ∷ []) Done
    ∷ to u14 (a_delivery 1562800 129 0 (a_note 0x04) ∷ []) (Queue true 2 1562500) ∷ to u14 [] (Pools 0 0 1)
    ∷ []

first-due : IsDue two_a_second 0 10 0 (Nanos 100) (Some 110)
first-due = clock-moment two_a_second 0 10 0 100 (Nanos 100) refl (omega arith)

second-due : IsDue two_a_second 0 10 0 (Nanos 200) (Some 210)
second-due = clock-moment two_a_second 0 10 0 200 (Nanos 200) refl (omega arith)

third-due : IsDue two_a_second 0 10 0 (Nanos 18446744073709551615) None
third-due =
    clock-never two_a_second 0 10 0 18446744073709551615 (Nanos 18446744073709551615) refl
    (λ h. omega arith)

fourth-due : IsDue two_a_second 0 10 0 (Tick 2) (Some 2083344)
unfolding nanos_at numerator duration tempo_or resolution
fourth-due = clock-moment two_a_second 0 10 0 2083334 (Tick 2) refl (omega arith)

second-later : IsDue two_a_second 100 400 0 (Nanos 200) (Some 500)
second-later = clock-moment two_a_second 100 400 0 200 (Nanos 200) refl (omega arith)

third-later : IsDue two_a_second 100 400 0 (Nanos 18446744073709551615) None
third-later =
    clock-never two_a_second 100 400 0 18446744073709551615 (Nanos 18446744073709551615) refl
    (λ h. omega arith)

fourth-later : IsDue two_a_second 100 400 0 (Tick 2) (Some 2083634)
unfolding nanos_at numerator duration tempo_or resolution
fourth-later = clock-moment two_a_second 100 400 0 2083334 (Tick 2) refl (omega arith)

third-last : IsDue (with_tempo_from two_a_second 1 250000) 100 400 0 (Nanos 18446744073709551615) None
third-last =
    clock-never (with_tempo_from two_a_second 1 250000) 100 400 0 18446744073709551615
    (Nanos 18446744073709551615) refl (λ h. omega arith)

fourth-last : IsDue (with_tempo_from two_a_second 1 250000) 100 400 0 (Tick 2) (Some 1562800)
unfolding nanos_at numerator duration tempo_or resolution
fourth-last =
    clock-moment (with_tempo_from two_a_second 1 250000) 100 400 0 1562500 (Tick 2) refl (omega arith)

calm : IsCalm s7 0 128
calm clients pools edges same =
    let t : State = around s7 clients pools edges in
    sorts t 0 t [] (simp (finds, same, moment-held))

trace : Trace [] start queue_clock after
unfolding command_row ways
trace =
    becomes-sender [] start 128 0 (codes "a") 8 (nothing-pending start 0 0 refl) refl (simp finds)
    refl refl
    (thus (changes [] (still s2 0 refl) 128 (CreateQueue 0 480 500000) (player (codes "a") 8)
    (simp finds))
    (thus (schedules [] (still s3 0 refl) 128 (a_queue 128 0) 0 (due_at.Nanos 100) (a_note 0x01)
    (Nanos 100) (simp finds))
    (thus (schedules [] (sorts s4 0 s4 [] (simp (finds, moment-held))) 128 (a_queue 128 0) 0
    (due_at.Nanos 200) (a_note 0x02) (Nanos 200) (simp finds))
    (thus (schedules [] (sorts s5 0 s5 [] (simp (finds, moment-held))) 128 (a_queue 128 0) 0
    (due_at.Nanos 18446744073709551615) (a_note 0x03) (Nanos 18446744073709551615) (simp finds))
    (thus (schedules [] (sorts s6 0 s6 [] (simp (finds, moment-held))) 128 (a_queue 128 0) 0
    (due_at.Tick 2) (a_note 0x04) (Tick 2) (simp finds))
    (listens [] s7 8 66 calm (simp finds) (simp finds) refl refl refl
    (thus (changes [] (sorts s10 10 s10 [] (simp (finds, moment-held))) 128 (Start (a_queue 128 0))
    started (simp finds))
    (thus (changes [] (sorts s11 110 u11 (a_delivery 110 129 0 (a_note 0x01) ∷ [])
    (simp (finds, paths-ways, first-due, second-due, third-due, fourth-due))) 128
    (Stop (a_queue 128 0)) stopped (simp finds))
    (thus (changes [] (sorts s12 400 s12 [] (simp (finds, moment-held))) 128
    (Continue (a_queue 128 0)) resumed (simp finds))
    (thus (changes [] (sorts s13 1300 u13 (a_delivery 500 129 0 (a_note 0x02) ∷ [])
    (simp (finds, paths-ways, second-later, third-later, fourth-later))) 128
    (Tempo (a_queue 128 0) 250000) faster (simp (finds, first-tick)))
    (thus (asks-queue [] (sorts s14 1562800 u14 (a_delivery 1562800 129 0 (a_note 0x04) ∷ [])
    (simp (finds, paths-ways, third-last, fourth-last))) 128 (a_queue 128 0)
    (Queue true 2 1562500) (simp finds) (simp (finds, tick-at_second)))
    (thus (asks [] (sorts u14 1562800 u14 [] (simp (finds, third-last))) 128 (Pools 0 0 1)
    (simp finds) (simp finds)) ends))))))))))))

pub run : QueueClock
run = trace-log trace (sorts u14 1562800 u14 [] (simp (finds, third-last)))
