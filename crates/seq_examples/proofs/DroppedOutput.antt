-- The run `dropped_output`, step by step.
use Rattle.std.proofs.Common.{◌==◌, true, false, List, [], ◌∷◌, ◌++◌, Some, None, refl, arith}
use Rattle.std.specs.Prelude.{codes}
use Rattle.tempo_clock.specs.Ticks.{nanos_at, numerator, duration, tempo_or, resolution}
use Rattle.tempo_clock.specs.Worked.{two_a_second}
use Rattle.tempo_clock.specs.declared.due.Due.TheVariants.{Tick, Nanos}
use Rattle.seq_state.specs.declared.input.Command.TheVariants.{Schedule, DropOutput, DeleteQueue, QueueStatus}
use Rattle.seq_state.specs.declared.input.DueAt.TheVariants as due_at
use Rattle.seq_state.specs.declared.log.Reply.TheVariants.{Pools, Refused}
use Rattle.seq_state.specs.declared.refusal.Refusal.TheVariants as refusal
use Rattle.seq_state.specs.State.{Client, State, start}
use Rattle.seq_state.specs.Effect.{playback, put_queue}
use Rattle.seq_state.specs.Table.{command_row}
use Rattle.seq_state.specs.Step.{Stepped}
use Rattle.seq_examples.specs.Rows.{song, a_queue, a_note, dropped_output, DroppedOutput}
use Rattle.seq_examples.proofs.Traces.{Trace, ends, thus, quiet, trace-log}
use Rattle.seq_examples.proofs.CommandSteps.{without, single, playing, still, sorts, refuses, gives-up, schedules, plays, asks}
use Rattle.seq_examples.proofs.Beginnings.{around, IsCalm, nothing-pending, player, with_queue, performing, player_steps, becomes-sender, starts-queue, listening, listener_steps, listens, first_note, last_note}
use Rattle.seq_examples.proofs.Worked.{to, moved, clock-moment, IsDue, ways, paths-ways, finds}

abbrev s4 : State
s4 = performing start 128 (codes "a") 2

abbrev s5 : State
s5 = playing s4 128 (a_queue 128 0) (single 0 0 (Nanos 100) (a_note 0x01))

abbrev s6 : State
s6 = playing s5 128 (a_queue 128 0) (playback 0 0 (first_note ∷ last_note ∷ []))

-- the file's first event has gone, to nobody
abbrev u6 : State
u6 = playing s5 128 (a_queue 128 0) (playback 0 0 (last_note ∷ []))

abbrev s10 : State
s10 = listening u6 8 66

abbrev a : Client
a = with_queue (player (codes "a") 2) false 0 (Some 0)

abbrev s11 : State
s11 = moved s10 128 None (without a (λ n. false) (λ p. true) (λ n. false))

abbrev s13 : State
s13 =
    moved s11 128 (Some (a_queue 128 0))
    (without (put_queue 0 None a) (λ n. false) (λ p. false) (λ n. n == 0))

abbrev after : List Stepped
after =
    player_steps start 128 (codes "a") 2 ++ quiet (s5 ∷ s6 ∷ []) ++ to u6 [] (Refused 24)
    ∷ listener_steps u6 8 66
    ++ quiet (s11 ∷ []) ++ to s11 [] (Pools 0 0 0) ∷ quiet (s13 ∷ []) ++ to s13 [] (Refused 17) ∷ []

scheduled-due : IsDue two_a_second 0 0 0 (Nanos 100) (Some 100)
scheduled-due = clock-moment two_a_second 0 0 0 100 (Nanos 100) refl (omega arith)

first-due : IsDue two_a_second 0 0 0 (Tick 0) (Some 0)
unfolding nanos_at numerator duration tempo_or resolution
first-due = clock-moment two_a_second 0 0 0 0 (Tick 0) refl (omega arith)

last-due : IsDue two_a_second 0 0 0 (Tick 480) (Some 500000000)
unfolding nanos_at numerator duration tempo_or resolution
last-due = clock-moment two_a_second 0 0 0 500000000 (Tick 480) refl (omega arith)

calm : IsCalm u6 0 128
calm clients pools edges same =
    let t : State = around u6 clients pools edges in
    sorts t 0 t [] (simp (finds, same, scheduled-due, last-due))

trace : Trace (song ∷ []) start dropped_output after
unfolding command_row ways
trace =
    becomes-sender (song ∷ []) start 128 0 (codes "a") 2 (nothing-pending start 0 0 refl) refl
    (simp finds) refl refl
    (starts-queue (song ∷ []) start 128 0 (codes "a") 2 (nothing-pending start 0 0 refl) refl
    (thus (schedules (song ∷ []) (still s4 0 refl) 128 (a_queue 128 0) 0 (due_at.Nanos 100)
    (a_note 0x01) (Nanos 100) (simp finds))
    (thus (plays (song ∷ []) (sorts s5 0 s5 [] (simp (finds, scheduled-due))) 128 (a_queue 128 0) 0
    0 first_note (last_note ∷ []) (simp finds))
    (thus (refuses (song ∷ [])
    (sorts s6 0 u6 [] (simp (finds, paths-ways, scheduled-due, first-due, last-due))) 128
    (Schedule (a_queue 128 0) 0 (due_at.Nanos 100) (0xF8 ∷ [])) refusal.OutFull (simp finds))
    (listens (song ∷ []) u6 8 66 calm (simp finds) (simp finds) refl refl refl
    (thus (gives-up (song ∷ []) (sorts s10 50 s10 [] (simp (finds, scheduled-due, last-due))) 128
    DropOutput a (λ n. false) (λ p. true) (λ n. false) (simp finds))
    (thus (asks (song ∷ []) (still s11 50 refl) 128 (Pools 0 0 0) (simp finds) (simp finds))
    (thus (gives-up (song ∷ []) (still s11 50 refl) 128 (DeleteQueue (a_queue 128 0))
    (put_queue 0 None a) (λ n. false) (λ p. false) (λ n. n == 0) (simp finds))
    (thus (refuses (song ∷ []) (still s13 50 refl) 128 (QueueStatus (a_queue 128 0))
    refusal.NoQueue (simp finds)) ends)))))))))

pub run : DroppedOutput
run = trace-log trace (still s13 600000000 refl)
