-- The run `played_file`, step by step.
use Rattle.std.proofs.Common.{false, List, [], ◌∷◌, ◌++◌, Some, refl, arith}
use Rattle.std.specs.Prelude.{codes}
use Rattle.tempo_clock.specs.Ticks.{nanos_at, numerator, duration, tempo_or, resolution}
use Rattle.tempo_clock.specs.Worked.{two_a_second}
use Rattle.tempo_clock.specs.declared.due.Due.TheVariants.{Tick}
use Rattle.tempo_clock.proofs.Moments.{moment-held}
use Rattle.seq_state.specs.declared.input.Command.TheVariants.{CreateQueueFrom, Start}
use Rattle.seq_state.specs.declared.input.DueAt.TheVariants as due_at
use Rattle.seq_state.specs.declared.log.Delivery.{Delivery}
use Rattle.seq_state.specs.State.{Client, State, start}
use Rattle.seq_state.specs.Effect.{playback}
use Rattle.seq_state.specs.Table.{command_row}
use Rattle.seq_state.specs.Step.{Stepped}
use Rattle.seq_examples.specs.Rows.{song, a_queue, a_note, a_delivery, an_arrival, played_file, PlaysFile}
use Rattle.seq_examples.proofs.Traces.{Settles, Trace, ends, thus, quiet, trace-log}
use Rattle.seq_examples.proofs.CommandSteps.{holding, pooled, filled, single, playing, still, sorts, changes, schedules, plays}
use Rattle.seq_examples.proofs.Beginnings.{around, IsCalm, nothing-pending, ready, sender_steps, becomes-sender, player, with_queue, prepared, listening, listener_steps, listens, first_note, last_note}
use Rattle.seq_examples.proofs.Worked.{clock-moment, IsDue, ways, paths-ways, finds}

abbrev s2 : State
s2 = ready start 128 (codes "a") 8

abbrev s3 : State
s3 = prepared start 128 (codes "a") 8

abbrev s4 : State
s4 = playing s3 128 (a_queue 128 0) (playback 0 0 (first_note ∷ last_note ∷ []))

abbrev s7 : State
s7 = listening s4 8 66

abbrev s8 : State
s8 = playing s7 128 (a_queue 128 0) (single 0 1 (Tick 480) (a_note 0x05))

abbrev started : Client
started = with_queue (player (codes "a") 8) false 0 (Some 1)

abbrev s9 : State
s9 = holding s8 128 started

abbrev after : List Stepped
after =
    sender_steps start 128 (codes "a") 8 ++ quiet (s3 ∷ s4 ∷ []) ++ listener_steps s4 8 66
    ++ quiet (s8 ∷ s9 ∷ [])

calm : IsCalm s4 0 128
calm clients pools edges same =
    let t : State = around s4 clients pools edges in
    sorts t 0 t [] (simp (finds, same, moment-held))

trace : Trace (song ∷ []) start played_file after
unfolding command_row
trace =
    becomes-sender (song ∷ []) start 128 0 (codes "a") 8 (nothing-pending start 0 0 refl) refl
    (simp finds) refl refl
    (thus (changes (song ∷ []) (still s2 0 refl) 128 (CreateQueueFrom 0 0) (player (codes "a") 8)
    (simp finds))
    (thus (plays (song ∷ []) (still s3 0 refl) 128 (a_queue 128 0) 0 0 first_note (last_note ∷ [])
    (simp finds))
    (listens (song ∷ []) s4 8 66 calm (simp finds) (simp finds) refl refl refl
    (thus (schedules (song ∷ []) (sorts s7 1 s7 [] (simp (finds, moment-held))) 128 (a_queue 128 0)
    0 (due_at.Tick 480) (a_note 0x05) (Tick 480) (simp finds))
    (thus (changes (song ∷ []) (sorts s8 1 s8 [] (simp (finds, moment-held))) 128
    (Start (a_queue 128 0)) started (simp finds)) ends)))))

first-due : IsDue two_a_second 0 1 0 (Tick 0) (Some 1)
unfolding nanos_at numerator duration tempo_or resolution
first-due = clock-moment two_a_second 0 1 0 0 (Tick 0) refl (omega arith)

last-due : IsDue two_a_second 0 1 0 (Tick 480) (Some 500000001)
unfolding nanos_at numerator duration tempo_or resolution
last-due = clock-moment two_a_second 0 1 0 500000000 (Tick 480) refl (omega arith)

scheduled-due : IsDue two_a_second 0 1 1 (Tick 480) (Some 500000001)
unfolding nanos_at numerator duration tempo_or resolution
scheduled-due = clock-moment two_a_second 0 1 1 500000000 (Tick 480) refl (omega arith)

abbrev u0 : State
u0 = pooled (record s9 { pending = [] }) 129 (filled 8 (an_arrival 1 0 first_note.message ∷ []) 0)

abbrev u1 : State
u1 =
    pooled u0 129 (filled 8 (an_arrival 1 0 first_note.message ∷ an_arrival 500000001 0 last_note.message
    ∷ []) 0)

abbrev u2 : State
u2 =
    pooled u1 129 (filled 8 (an_arrival 1 0 first_note.message ∷ an_arrival 500000001 0 last_note.message
    ∷ an_arrival 500000001 0 (a_note 0x05) ∷ []) 0)

abbrev sent_last : List Delivery
sent_last =
    a_delivery 1 129 0 first_note.message ∷ a_delivery 500000001 129 0 last_note.message
    ∷ a_delivery 500000001 129 0 (a_note 0x05) ∷ []

last : Settles s9 600000000 u2 sent_last
unfolding ways
last =
    sorts s9 600000000 u2 sent_last (simp (finds, paths-ways, first-due, last-due, scheduled-due))

pub run : PlaysFile
run = trace-log trace last
