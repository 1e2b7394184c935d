-- The run `deleted_port`, step by step.
use Rattle.std.proofs.Common.{◌==◌, false, List, [], ◌∷◌, ◌++◌, Some, None, refl, arith}
use Rattle.std.specs.Prelude.{codes}
use Rattle.tempo_clock.specs.Worked.{two_a_second}
use Rattle.tempo_clock.specs.declared.due.Due.TheVariants.{Nanos}
use Rattle.node_table.specs.Addresses.{same_node}
use Rattle.node_table.specs.declared.number.Node.TheVariants.{Port}
use Rattle.patch_graph.specs.Edges.{most_sources}
use Rattle.seq_state.specs.declared.input.Command.TheVariants.{DeletePort}
use Rattle.seq_state.specs.declared.input.DueAt.TheVariants as due_at
use Rattle.seq_state.specs.declared.log.Reply.TheVariants.{Pools}
use Rattle.seq_state.specs.State.{State, Client, start}
use Rattle.seq_state.specs.Effect.{put_port}
use Rattle.seq_state.specs.Table.{command_row}
use Rattle.seq_state.specs.Step.{Stepped, port_addr}
use Rattle.seq_examples.specs.Rows.{a_queue, a_note, a_delivery, an_arrival, deleted_port, DeletedPort}
use Rattle.seq_examples.proofs.Traces.{Settles, Trace, ends, thus, quiet, trace-log}
use Rattle.seq_examples.proofs.CommandSteps.{without, pooled, filled, joined, single, playing, still, sorts, gives-up, connects, schedules, asks}
use Rattle.seq_examples.proofs.Beginnings.{around, IsCalm, nothing-pending, player, with_queue, performing, player_steps, becomes-sender, starts-queue, listening, listener_steps, listens}
use Rattle.seq_examples.proofs.Worked.{to, moved, clock-moment, IsDue, ways, paths-ways, finds}

abbrev s4 : State
s4 = performing start 128 (codes "a") 8

abbrev s5 : State
s5 = playing s4 128 (a_queue 128 0) (single 0 0 (Nanos 100) (a_note 0x01))

abbrev s8 : State
s8 = listening s5 8 66

abbrev s12 : State
s12 = performing s8 130 (codes "c") 8

abbrev s13 : State
s13 = joined s12 (port_addr 130 0) (port_addr 129 0)

abbrev without_port : Client
without_port = put_port 0 None (with_queue (player (codes "a") 8) false 0 (Some 0))

abbrev s14 : State
s14 = moved s13 128 None (without without_port (same_node (Port 0)) (λ p. p.port == 0) (λ n. false))

abbrev s16 : State
s16 = playing s14 130 (a_queue 130 0) (single 0 60 (Nanos 100) (a_note 0x02))

abbrev after : List Stepped
after =
    player_steps start 128 (codes "a") 8 ++ quiet (s5 ∷ []) ++ listener_steps s5 8 66
    ++ player_steps s8 130 (codes "c") 8
    ++ quiet (s13 ∷ s14 ∷ []) ++ to s14 [] (Pools 0 0 0) ∷ quiet (s16 ∷ [])

first : IsDue two_a_second 0 0 0 (Nanos 100) (Some 100)
first = clock-moment two_a_second 0 0 0 100 (Nanos 100) refl (omega arith)

second : IsDue two_a_second 0 0 60 (Nanos 100) (Some 100)
second = clock-moment two_a_second 0 0 60 100 (Nanos 100) refl (omega arith)

calm : IsCalm s5 0 128
calm clients pools edges same =
    let t : State = around s5 clients pools edges in sorts t 0 t [] (simp (finds, same, first))

calm-again : IsCalm s8 0 128
calm-again clients pools edges same = calm clients pools edges (simp (finds, same))

trace : Trace [] start deleted_port after
unfolding command_row most_sources
trace =
    becomes-sender [] start 128 0 (codes "a") 8 (nothing-pending start 0 0 refl) refl (simp finds)
    refl refl
    (starts-queue [] start 128 0 (codes "a") 8 (nothing-pending start 0 0 refl) refl
    (thus (schedules [] (still s4 0 refl) 128 (a_queue 128 0) 0 (due_at.Nanos 100) (a_note 0x01)
    (Nanos 100) (simp finds))
    (listens [] s5 8 66 calm (simp finds) (simp finds) refl refl refl
    (becomes-sender [] s8 130 128 (codes "c") 8 calm-again refl (simp finds) refl refl
    (starts-queue [] s8 130 128 (codes "c") 8 calm-again refl
    (thus (connects [] (sorts s12 1 s12 [] (simp (finds, first))) 129 (port_addr 130 0)
    (port_addr 129 0) (simp finds))
    (thus (gives-up [] (sorts s13 50 s13 [] (simp (finds, first))) 128 (DeletePort 0) without_port
    (same_node (Port 0)) (λ p. p.port == 0) (λ n. false) (simp finds))
    (thus (asks [] (still s14 50 refl) 128 (Pools 0 0 0) (simp finds) (simp finds))
    (thus (schedules [] (still s14 60 refl) 130 (a_queue 130 0) 0 (due_at.Nanos 100) (a_note 0x02)
    (Nanos 100) (simp finds)) ends)))))))))

abbrev u : State
u = pooled (record s16 { pending = [] }) 129 (filled 8 (an_arrival 100 0 (a_note 0x02) ∷ []) 0)

last : Settles s16 200 u (a_delivery 100 129 0 (a_note 0x02) ∷ [])
unfolding ways
last = sorts s16 200 u (a_delivery 100 129 0 (a_note 0x02) ∷ []) (simp (finds, paths-ways, second))

pub run : DeletedPort
run = trace-log trace last
