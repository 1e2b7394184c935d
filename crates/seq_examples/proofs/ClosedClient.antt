-- The run `closed_client`, step by step.
use Rattle.std.proofs.Common.{true, List, [], ◌∷◌, ◌++◌, Some, None, refl, arith}
use Rattle.std.specs.Prelude.{codes}
use Rattle.midi_wire.specs.Kinds.{kind_of_status}
use Rattle.midi_wire.specs.Messages.{begins}
use Rattle.tempo_clock.specs.Worked.{two_a_second}
use Rattle.tempo_clock.specs.declared.due.Due.TheVariants.{Nanos}
use Rattle.patch_graph.specs.Edges.{most_sources}
use Rattle.seq_state.specs.declared.input.Command.TheVariants.{Bytes, CreateQueue, Start, Share, PoolStatus}
use Rattle.seq_state.specs.declared.input.DueAt.TheVariants as due_at
use Rattle.seq_state.specs.declared.log.Reply.TheVariants.{Done, Pools, Refused}
use Rattle.seq_state.specs.declared.refusal.Refusal.TheVariants as refusal
use Rattle.seq_state.specs.State.{Client, State, start}
use Rattle.seq_state.specs.Table.{command_row}
use Rattle.seq_state.specs.Step.{Stepped, port_addr}
use Rattle.seq_examples.specs.Rows.{a_queue, a_note, a_delivery, an_arrival, closed_client, ClosedClient}
use Rattle.seq_examples.proofs.Traces.{Trace, ends, thus, quiet, trace-log}
use Rattle.seq_examples.proofs.CommandSteps.{holding, pooled, filled, opened, closed, joined, single, playing, still, sorts, refuses, opens, closes, changes, connects, schedules, sends, asks}
use Rattle.seq_examples.proofs.Beginnings.{around, IsCalm, nothing-pending, ready, sender_steps, becomes-sender, player, with_queue, prepared, listening, listener_steps, listens}
use Rattle.seq_examples.proofs.Worked.{to, clock-moment, IsDue, ways, paths-ways, finds}

abbrev s2 : State
s2 = ready start 128 (codes "a") 8

abbrev s3 : State
s3 = prepared start 128 (codes "a") 8

abbrev sharing : Client
sharing = with_queue (player (codes "a") 8) true 0 None

abbrev s4 : State
s4 = holding s3 128 sharing

abbrev s5 : State
s5 = holding s4 128 (with_queue sharing true 0 (Some 0))

abbrev s6 : State
s6 = playing s5 128 (a_queue 128 0) (single 0 0 (Nanos 50) (a_note 0x01))

abbrev s9 : State
s9 = listening s6 8 66

abbrev s11 : State
s11 = ready s9 130 (codes "c") 1

abbrev s12 : State
s12 = joined s11 (port_addr 130 0) (port_addr 129 0)

abbrev s13 : State
s13 = playing s12 130 (a_queue 128 0) (single 0 1 (Nanos 100) (a_note 0x02))

abbrev s14 : State
s14 = closed s13 128

abbrev s17 : State
s17 = opened s14 128 (codes "d") 8 8

abbrev s20 : State
s20 = pooled s17 129 (filled 8 (an_arrival 40 0 (a_note 0x03) ∷ []) 0)

abbrev after : List Stepped
after =
    sender_steps start 128 (codes "a") 8 ++ quiet (s3 ∷ s4 ∷ s5 ∷ s6 ∷ []) ++ listener_steps s6 8 66
    ++ sender_steps s9 130 (codes "c") 1
    ++ quiet (s12 ∷ s13 ∷ s14 ∷ []) ++ to s14 [] (Refused 1) ∷ to s14 [] (Pools 0 0 0)
    ∷ to s17 [] Done ∷ to s17 [] (Pools 0 0 0)
    ∷ to s17 [] (Refused 7) ∷ to s20 (a_delivery 40 129 0 (a_note 0x03) ∷ []) Done ∷ []

first : IsDue two_a_second 0 0 0 (Nanos 50) (Some 50)
first = clock-moment two_a_second 0 0 0 50 (Nanos 50) refl (omega arith)

second : IsDue two_a_second 0 0 1 (Nanos 100) (Some 100)
second = clock-moment two_a_second 0 0 1 100 (Nanos 100) refl (omega arith)

calm : IsCalm s6 0 128
calm clients pools edges same =
    let t : State = around s6 clients pools edges in sorts t 0 t [] (simp (finds, same, first))

calm-again : IsCalm s9 0 128
calm-again clients pools edges same = calm clients pools edges (simp (finds, same))

trace : Trace [] start closed_client after
unfolding command_row most_sources ways begins kind_of_status
trace =
    becomes-sender [] start 128 0 (codes "a") 8 (nothing-pending start 0 0 refl) refl (simp finds)
    refl refl
    (thus (changes [] (still s2 0 refl) 128 (CreateQueue 0 480 500000) (player (codes "a") 8)
    (simp finds))
    (thus (changes [] (still s3 0 refl) 128 (Share (a_queue 128 0)) sharing (simp finds))
    (thus (changes [] (still s4 0 refl) 128 (Start (a_queue 128 0))
    (with_queue sharing true 0 (Some 0)) (simp finds))
    (thus (schedules [] (still s5 0 refl) 128 (a_queue 128 0) 0 (due_at.Nanos 50) (a_note 0x01)
    (Nanos 50) (simp finds))
    (listens [] s6 8 66 calm (simp finds) (simp finds) refl refl refl
    (becomes-sender [] s9 130 128 (codes "c") 1 calm-again refl (simp finds) refl refl
    (thus (connects [] (sorts s11 1 s11 [] (simp (finds, first))) 129 (port_addr 130 0)
    (port_addr 129 0) (simp finds))
    (thus (schedules [] (sorts s12 1 s12 [] (simp (finds, first))) 130 (a_queue 128 0) 0
    (due_at.Nanos 100) (a_note 0x02) (Nanos 100) (simp finds))
    (thus (closes [] (sorts s13 10 s13 [] (simp (finds, first, second))) 128 (simp finds))
    (thus (refuses [] (still s14 20 refl) 128 PoolStatus refusal.NotOpen (simp finds))
    (thus (asks [] (still s14 20 refl) 130 (Pools 0 0 0) (simp finds) (simp finds))
    (thus (opens [] (still s14 30 refl) 128 (codes "d") 8 8 (simp finds) refl refl)
    (thus (asks [] (still s17 30 refl) 128 (Pools 0 0 0) (simp finds) (simp finds))
    (thus (refuses [] (still s17 30 refl) 128 (Bytes 0 (0xF8 ∷ [])) refusal.NoNode (simp finds))
    (thus (sends [] (still s17 40 refl) 130 0 (a_note 0x03) s20 (a_delivery 40 129 0 (a_note 0x03) ∷ [])
    (simp finds) (simp (finds, paths-ways))) ends)))))))))))))))

pub run : ClosedClient
run = trace-log trace (still s20 200 refl)
