-- The run `third_clients`, step by step, and two circles round 129.
use Rattle.std.proofs.Common.{◌==◌, List, [], ◌∷◌, ◌++◌, Some, refl, sym}
use Rattle.std.specs.Prelude.{codes}
use Rattle.std.proofs.lemmas.Bool.{false≢true}
use Rattle.midi_wire.specs.Kinds.{kind_of_status}
use Rattle.midi_wire.specs.Messages.{begins}
use Rattle.midi_wire.specs.Readings.{reading, rest}
use Rattle.patch_graph.specs.Edges.{most_sources}
use Rattle.seq_state.specs.declared.input.Command.TheVariants.{CreatePort, Connect, Disconnect}
use Rattle.seq_state.specs.declared.log.Reply.TheVariants.{Done, Messages, Refused}
use Rattle.seq_state.specs.declared.refusal.Refusal.TheVariants as refusal
use Rattle.seq_state.specs.Circle.{IsClosed}
use Rattle.seq_state.specs.State.{Client, State, start}
use Rattle.seq_state.specs.Effect.{new_client, new_port, put_port}
use Rattle.seq_state.specs.Table.{command_row}
use Rattle.seq_state.specs.Step.{Stepped, port_addr}
use Rattle.seq_examples.specs.Rows.{caps_by_bits, a_note, a_delivery, an_arrival, third_clients, is_one_of_two, ThirdClients}
use Rattle.seq_examples.proofs.Traces.{Trace, ends, thus, quiet, trace-log, StaysClosed, stays, stayed, closed-trace, trace-closed}
use Rattle.seq_examples.proofs.CommandSteps.{holding, pooled, filled, opened, joined, parted, still, refuses, opens, changes, connects, parts, feeds}
use Rattle.seq_examples.proofs.Beginnings.{entered, arrived}
use Rattle.seq_examples.proofs.Worked.{to, ways, paths-ways, finds}

-- a client whose port 0 is not to be exported, and whose port 1 others may not subscribe to
abbrev with_one : Client
with_one = put_port 0 (Some (new_port (codes "o") (caps_by_bits 161))) (new_client (codes "a") 8 8)

abbrev with_both : Client
with_both = put_port 1 (Some (new_port (codes "o") (caps_by_bits 1))) with_one

abbrev fed : Client
fed = put_port 1 (Some (record (new_port (codes "o") (caps_by_bits 1)) { fed = 0x90 ∷ [] })) with_both

abbrev target : Client
target = put_port 0 (Some (new_port (codes "i") (caps_by_bits 66))) (new_client (codes "b") 8 8)

abbrev s1 : State
s1 = entered start 128 (codes "a") 8

abbrev s2 : State
s2 = holding s1 128 with_one

abbrev s3 : State
s3 = holding s2 128 with_both

abbrev s4 : State
s4 = arrived s3 8

abbrev s5 : State
s5 = holding s4 129 target

abbrev s6 : State
s6 = opened s5 130 (codes "c") 8 8

abbrev s8 : State
s8 = joined s6 (port_addr 128 0) (port_addr 129 0)

abbrev s10 : State
s10 = joined s8 (port_addr 128 1) (port_addr 129 0)

abbrev s11 : State
s11 = parted s10 (port_addr 128 0) (port_addr 129 0)

abbrev s14 : State
s14 = pooled (holding s11 128 fed) 129 (filled 8 (an_arrival 4 0 (a_note 0x3C) ∷ []) 0)

abbrev after : List Stepped
after =
    quiet (s1 ∷ s2 ∷ s3 ∷ s4 ∷ s5 ∷ s6 ∷ []) ++ to s6 [] (Refused 10) ∷ to s8 [] Done
    ∷ to s8 [] (Refused 10) ∷ to s10 [] Done ∷ to s11 [] Done
    ∷ to s11 [] (Refused 12) ∷ to s11 [] (Refused 10)
    ∷ to s14 (a_delivery 4 129 0 (a_note 0x3C) ∷ []) (Messages 1) ∷ []

trace : Trace [] start third_clients after
unfolding command_row most_sources ways begins kind_of_status reading rest
trace =
    thus (opens [] (still start 0 refl) 128 (codes "a") 8 8 (simp finds) refl refl)
    (thus (changes [] (still s1 0 refl) 128 (CreatePort 0 (codes "o") (caps_by_bits 161)) with_one
    (simp finds))
    (thus (changes [] (still s2 0 refl) 128 (CreatePort 1 (codes "o") (caps_by_bits 1)) with_both
    (simp finds))
    (thus (opens [] (still s3 0 refl) 129 (codes "b") 8 8 (simp finds) refl refl)
    (thus (changes [] (still s4 0 refl) 129 (CreatePort 0 (codes "i") (caps_by_bits 66)) target
    (simp finds))
    (thus (opens [] (still s5 0 refl) 130 (codes "c") 8 8 (simp finds) refl refl)
    (thus (refuses [] (still s6 0 refl) 130 (Connect (port_addr 128 0) (port_addr 129 0))
    refusal.NotPermitted (simp finds))
    (thus (connects [] (still s6 1 refl) 129 (port_addr 128 0) (port_addr 129 0) (simp finds))
    (thus (refuses [] (still s8 1 refl) 129 (Connect (port_addr 128 1) (port_addr 129 0))
    refusal.NotPermitted (simp finds))
    (thus (connects [] (still s8 2 refl) 128 (port_addr 128 1) (port_addr 129 0) (simp finds))
    (thus (parts [] (still s10 3 refl) 129 (port_addr 128 0) (port_addr 129 0) (simp finds))
    (thus (refuses [] (still s11 3 refl) 129 (Disconnect (port_addr 128 0) (port_addr 129 0))
    refusal.NotConnected (simp finds))
    (thus (refuses [] (still s11 3 refl) 130 (Disconnect (port_addr 128 1) (port_addr 129 0))
    refusal.NotPermitted (simp finds))
    (thus (feeds [] (still s11 4 refl) 128 1 (0x90 ∷ 0x3C ∷ 0x40 ∷ []) fed (a_note 0x3C ∷ []) s14
    (a_delivery 4 129 0 (a_note 0x3C) ∷ []) (simp finds) (simp (finds, paths-ways))) ends)))))))))))))

pub run : ThirdClients
run = trace-log trace (still s14 10 refl)

pub pair_closed : IsClosed [] 129 is_one_of_two third_clients
pair_closed =
    let keeps : StaysClosed 129 is_one_of_two third_clients after =
    stays tt tt (stays tt tt (stays tt tt (stays tt tt (stays tt tt (stays tt tt
    (stays (λ i. (λ m. absurd (false≢true m), λ n. tt)) tt
    (stays (λ i. (λ m. refl, λ n. absurd (false≢true (sym n)))) tt
    (stays (λ i. (λ m. refl, λ n. absurd (false≢true (sym n)))) tt
    (stays (λ i. (λ m. refl, λ n. absurd (false≢true (sym n)))) tt
    (stays (λ i. (λ m. refl, λ n. absurd (false≢true (sym n)))) tt
    (stays (λ i. (λ m. refl, λ n. absurd (false≢true (sym n)))) tt
    (stays (λ i. (λ m. absurd (false≢true m), λ n. tt)) tt (stays tt tt stayed))))))))))))) in
    (refl, closed-trace trace keeps)

pub alone_open : IsClosed [] 129 (λ c. c == 129) third_clients → ⊥
alone_open h = false≢true (((trace-closed 129 (λ c. c == 129) 7 trace h.1).0 refl).0 refl)
