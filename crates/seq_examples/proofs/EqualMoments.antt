-- The run `equal_moments`, step by step.
use Rattle.std.proofs.Common.{List, [], ◌∷◌, ◌++◌, Some, refl, arith}
use Rattle.std.specs.Prelude.{codes}
use Rattle.tempo_clock.specs.Worked.{two_a_second}
use Rattle.tempo_clock.specs.declared.due.Due.TheVariants.{Nanos}
use Rattle.patch_graph.specs.Edges.{most_sources}
use Rattle.seq_state.specs.declared.input.DueAt.TheVariants as due_at
use Rattle.seq_state.specs.State.{State, start}
use Rattle.seq_state.specs.Table.{command_row}
use Rattle.seq_state.specs.Step.{Stepped, port_addr}
use Rattle.seq_examples.specs.Rows.{a_queue, a_note, a_delivery, an_arrival, equal_moments, EqualMoments}
use Rattle.seq_examples.proofs.Traces.{Settles, Trace, ends, thus, quiet, trace-log}
use Rattle.seq_examples.proofs.CommandSteps.{pooled, filled, joined, single, playing, still, sorts, connects, schedules}
use Rattle.seq_examples.proofs.Beginnings.{nothing-pending, performing, player_steps, becomes-sender, starts-queue, listening, listener_steps, listens}
use Rattle.seq_examples.proofs.Worked.{clock-moment, IsDue, ways, paths-ways, finds}

abbrev s4 : State
s4 = performing start 128 (codes "a") 8

abbrev s7 : State
s7 = listening s4 8 66

abbrev s11 : State
s11 = performing s7 130 (codes "c") 8

abbrev s12 : State
s12 = joined s11 (port_addr 130 0) (port_addr 129 0)

abbrev s13 : State
s13 = playing s12 130 (a_queue 130 0) (single 0 1 (Nanos 100) (a_note 0x02))

abbrev s14 : State
s14 = playing s13 128 (a_queue 128 0) (single 0 2 (Nanos 100) (a_note 0x01))

abbrev after : List Stepped
after =
    player_steps start 128 (codes "a") 8 ++ listener_steps s4 8 66
    ++ player_steps s7 130 (codes "c") 8
    ++ quiet (s12 ∷ s13 ∷ s14 ∷ [])

first : IsDue two_a_second 0 0 1 (Nanos 100) (Some 100)
first = clock-moment two_a_second 0 0 1 100 (Nanos 100) refl (omega arith)

second : IsDue two_a_second 0 0 2 (Nanos 100) (Some 100)
second = clock-moment two_a_second 0 0 2 100 (Nanos 100) refl (omega arith)

trace : Trace [] start equal_moments after
unfolding command_row most_sources
trace =
    becomes-sender [] start 128 0 (codes "a") 8 (nothing-pending start 0 0 refl) refl (simp finds)
    refl refl
    (starts-queue [] start 128 0 (codes "a") 8 (nothing-pending start 0 0 refl) refl
    (listens [] s4 8 66 (nothing-pending s4 0 128 refl) (simp finds) (simp finds) refl refl refl
    (becomes-sender [] s7 130 0 (codes "c") 8 (nothing-pending s7 0 0 refl) refl (simp finds) refl
    refl
    (starts-queue [] s7 130 0 (codes "c") 8 (nothing-pending s7 0 0 refl) refl
    (thus (connects [] (still s11 1 refl) 129 (port_addr 130 0) (port_addr 129 0) (simp finds))
    (thus (schedules [] (still s12 1 refl) 130 (a_queue 130 0) 0 (due_at.Nanos 100) (a_note 0x02)
    (Nanos 100) (simp finds))
    (thus (schedules [] (sorts s13 2 s13 [] (simp (finds, first))) 128 (a_queue 128 0) 0
    (due_at.Nanos 100) (a_note 0x01) (Nanos 100) (simp finds)) ends)))))))

abbrev u : State
u =
    pooled (pooled (record s14 { pending = [] }) 129 (filled 8 (an_arrival 100 0 (a_note 0x02) ∷ []) 0))
    129 (filled 8 (an_arrival 100 0 (a_note 0x02) ∷ an_arrival 100 0 (a_note 0x01) ∷ []) 0)

last : Settles s14 200 u (a_delivery 100 129 0 (a_note 0x02) ∷ a_delivery 100 129 0 (a_note 0x01) ∷ [])
unfolding ways
last =
    sorts s14 200 u (a_delivery 100 129 0 (a_note 0x02) ∷ a_delivery 100 129 0 (a_note 0x01) ∷ [])
    (simp (finds, paths-ways, first, second))

pub run : EqualMoments
run = trace-log trace last
