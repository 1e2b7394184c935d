-- The run `output_full`, step by step.
use Rattle.std.proofs.Common.{List, [], ◌∷◌, ◌++◌, Some, refl, arith}
use Rattle.std.specs.Prelude.{codes}
use Rattle.tempo_clock.specs.Worked.{two_a_second}
use Rattle.tempo_clock.specs.declared.due.Due.TheVariants.{Nanos}
use Rattle.seq_state.specs.declared.input.Command.TheVariants.{Schedule}
use Rattle.seq_state.specs.declared.input.DueAt.TheVariants as due_at
use Rattle.seq_state.specs.declared.log.Reply.TheVariants.{Done, Refused}
use Rattle.seq_state.specs.declared.refusal.Refusal.TheVariants as refusal
use Rattle.seq_state.specs.State.{State, start}
use Rattle.seq_state.specs.Table.{command_row}
use Rattle.seq_state.specs.Step.{Stepped}
use Rattle.seq_examples.specs.Rows.{a_queue, a_note, a_delivery, an_arrival, output_full, OutputFull}
use Rattle.seq_examples.proofs.Traces.{Settles, Trace, ends, thus, quiet, trace-log}
use Rattle.seq_examples.proofs.CommandSteps.{pooled, filled, single, playing, still, sorts, refuses, schedules}
use Rattle.seq_examples.proofs.Beginnings.{around, IsCalm, nothing-pending, performing, player_steps, becomes-sender, starts-queue, listening, listener_steps, listens}
use Rattle.seq_examples.proofs.Worked.{to, clock-moment, IsDue, ways, paths-ways, finds}

abbrev s4 : State
s4 = performing start 128 (codes "a") 1

abbrev s5 : State
s5 = playing s4 128 (a_queue 128 0) (single 0 0 (Nanos 100) (a_note 0x01))

abbrev s8 : State
s8 = listening s5 8 66

abbrev u9 : State
u9 = pooled (record s8 { pending = [] }) 129 (filled 8 (an_arrival 100 0 (a_note 0x01) ∷ []) 0)

abbrev s9 : State
s9 = playing u9 128 (a_queue 128 0) (single 0 100 (Nanos 150) (a_note 0x02))

abbrev after : List Stepped
after =
    player_steps start 128 (codes "a") 1 ++ quiet (s5 ∷ []) ++ to s5 [] (Refused 24)
    ∷ listener_steps s5 8 66
    ++ to s9 (a_delivery 100 129 0 (a_note 0x01) ∷ []) Done ∷ []

first : IsDue two_a_second 0 0 0 (Nanos 100) (Some 100)
first = clock-moment two_a_second 0 0 0 100 (Nanos 100) refl (omega arith)

second : IsDue two_a_second 0 0 100 (Nanos 150) (Some 150)
second = clock-moment two_a_second 0 0 100 150 (Nanos 150) refl (omega arith)

calm : IsCalm s5 0 128
calm clients pools edges same =
    let t : State = around s5 clients pools edges in sorts t 0 t [] (simp (finds, same, first))

trace : Trace [] start output_full after
unfolding command_row ways
trace =
    becomes-sender [] start 128 0 (codes "a") 1 (nothing-pending start 0 0 refl) refl (simp finds)
    refl refl
    (starts-queue [] start 128 0 (codes "a") 1 (nothing-pending start 0 0 refl) refl
    (thus (schedules [] (still s4 0 refl) 128 (a_queue 128 0) 0 (due_at.Nanos 100) (a_note 0x01)
    (Nanos 100) (simp finds))
    (thus (refuses [] (calm s5.clients s5.pools s5.edges refl) 128
    (Schedule (a_queue 128 0) 0 (due_at.Nanos 100) (a_note 0x01)) refusal.OutFull (simp finds))
    (listens [] s5 8 66 calm (simp finds) (simp finds) refl refl refl
    (thus (schedules [] (sorts s8 100 u9 (a_delivery 100 129 0 (a_note 0x01) ∷ [])
    (simp (finds, paths-ways, first))) 128 (a_queue 128 0) 0 (due_at.NanosAfter 50) (a_note 0x02)
    (Nanos 150) (simp finds)) ends)))))

abbrev u : State
u =
    pooled (record s9 { pending = [] }) 129
    (filled 8 (an_arrival 100 0 (a_note 0x01) ∷ an_arrival 150 0 (a_note 0x02) ∷ []) 0)

last : Settles s9 200 u (a_delivery 150 129 0 (a_note 0x02) ∷ [])
unfolding ways
last = sorts s9 200 u (a_delivery 150 129 0 (a_note 0x02) ∷ []) (simp (finds, paths-ways, second))

pub run : OutputFull
run = trace-log trace last
