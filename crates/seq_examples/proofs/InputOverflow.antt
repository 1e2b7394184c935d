-- The run `input_overflow`, step by step.
use Rattle.std.proofs.Common.{ℕ, List, [], ◌∷◌, ◌++◌, map, Some, refl, ◌∙◌}
use Rattle.std.specs.Prelude.{codes}
use Rattle.midi_wire.specs.Kinds.{kind_of_status}
use Rattle.midi_wire.specs.Messages.{begins}
use Rattle.midi_wire.specs.Readings.{reading, rest}
use Rattle.patch_graph.specs.Edges.{most_sources}
use Rattle.seq_state.specs.declared.input.Command.TheVariants.{CreatePort, Receive}
use Rattle.seq_state.specs.declared.log.Delivery.{Delivery}
use Rattle.seq_state.specs.declared.log.Reply.TheVariants.{Done, Messages, Received, Pools}
use Rattle.seq_state.specs.State.{Client, State, start}
use Rattle.seq_state.specs.Effect.{new_client, new_port, put_port}
use Rattle.seq_state.specs.Table.{command_row}
use Rattle.seq_state.specs.Step.{Stepped, port_addr}
use Rattle.seq_state.proofs.Effects.{step-takes}
use Rattle.seq_examples.specs.Rows.{caps_by_bits, a_note, a_delivery, an_arrival, input_overflow, InputOverflow}
use Rattle.seq_examples.proofs.Traces.{Trace, ends, thus, quiet, trace-log}
use Rattle.seq_examples.proofs.CommandSteps.{holding, pooled, filled, opened, joined, still, comes, opens, changes, connects, sends, feeds, asks}
use Rattle.seq_examples.proofs.Beginnings.{nothing-pending, sender, ready, sender_steps, becomes-sender, with_fed, listening, listener_steps, listens}
use Rattle.seq_examples.proofs.Worked.{to, ways, paths-ways, finds}

abbrev s2 : State
s2 = ready start 128 (codes "a") 8

abbrev s5 : State
s5 = listening s2 2 66

abbrev other : Client
other = put_port 0 (Some (new_port (codes "in") (caps_by_bits 66))) (new_client (codes "c") 8 8)

abbrev s6 : State
s6 = opened s5 130 (codes "c") 8 8

abbrev s7 : State
s7 = holding s6 130 other

abbrev s8 : State
s8 = joined s7 (port_addr 128 0) (port_addr 130 0)

abbrev fed : Client
fed = with_fed (sender (codes "a") 8) (0x90 ∷ [])

-- the pools of 129, with what is lost, and of 130, with the notes that came to both
abbrev both : State → List ℕ → List ℕ → ℕ → State
both s small large lost =
    pooled (pooled s 129 (filled 2 (map (λ n. an_arrival 5 0 (a_note n)) small) lost)) 130
    (filled 8 (map (λ n. an_arrival 5 0 (a_note n)) large) 0)

abbrev s9 : State
s9 =
    both (both (both (holding s8 128 fed) (1 ∷ []) (1 ∷ []) 0) (1 ∷ 2 ∷ []) (1 ∷ 2 ∷ []) 0)
    (1 ∷ 2 ∷ []) (1 ∷ 2 ∷ 3 ∷ []) 1

abbrev copies : List Delivery
copies =
    a_delivery 5 129 0 (a_note 0x01) ∷ a_delivery 5 130 0 (a_note 0x01) ∷ a_delivery 5 129 0 (a_note 0x02)
    ∷ a_delivery 5 130 0 (a_note 0x02) ∷ a_delivery 5 130 0 (a_note 0x03) ∷ []

abbrev s11 : State
s11 = pooled s9 129 (filled 2 (an_arrival 5 0 (a_note 0x02) ∷ []) 1)

abbrev s12 : State
s12 =
    pooled (pooled s11 129 (filled 2 (an_arrival 5 0 (a_note 0x02) ∷ an_arrival 7 0 (a_note 0x04) ∷ []) 1))
    130 (filled 8 (an_arrival 5 0 (a_note 0x01) ∷ an_arrival 5 0 (a_note 0x02) ∷ an_arrival 5 0 (a_note 0x03)
    ∷ an_arrival 7 0 (a_note 0x04) ∷ []) 0)

abbrev last_copies : List Delivery
last_copies = a_delivery 7 129 0 (a_note 0x04) ∷ a_delivery 7 130 0 (a_note 0x04) ∷ []

abbrev after : List Stepped
after =
    sender_steps start 128 (codes "a") 8 ++ listener_steps s2 2 66 ++ quiet (s6 ∷ s7 ∷ s8 ∷ [])
    ++ to s9 copies (Messages 3)
    ∷ to s9 [] (Pools 2 1 0) ∷ to s11 [] (Received (an_arrival 5 0 (a_note 0x01) ∷ []))
    ∷ to s12 last_copies Done ∷ []

trace : Trace [] start input_overflow after
unfolding command_row most_sources ways begins kind_of_status reading rest
trace =
    becomes-sender [] start 128 0 (codes "a") 8 (nothing-pending start 0 0 refl) refl (simp finds)
    refl refl
    (listens [] s2 2 66 (nothing-pending s2 0 128 refl) (simp finds) (simp finds) refl refl refl
    (thus (opens [] (still s5 0 refl) 130 (codes "c") 8 8 (simp finds) refl refl)
    (thus (changes [] (still s6 0 refl) 130 (CreatePort 0 (codes "in") (caps_by_bits 66)) other
    (simp finds))
    (thus (connects [] (still s7 0 refl) 130 (port_addr 128 0) (port_addr 130 0) (simp finds))
    (thus (feeds [] (still s8 5 refl) 128 0 (0x90 ∷ 0x01 ∷ 0x40 ∷ 0x02 ∷ 0x40 ∷ 0x03 ∷ 0x40 ∷ [])
    fed (a_note 0x01 ∷ a_note 0x02 ∷ a_note 0x03 ∷ []) s9 copies (simp finds)
    (simp (finds, paths-ways)))
    (thus (asks [] (still s9 6 refl) 129 (Pools 2 1 0) (simp finds) (simp finds))
    (thus (comes [] (still s9 6 refl) 129 (Receive 1)
    (to s11 [] (Received (an_arrival 5 0 (a_note 0x01) ∷ []))) (step-takes [] s9 6 129 1 ∙ simp finds))
    (thus (sends [] (still s11 7 refl) 128 0 (a_note 0x04) s12 last_copies (simp finds)
    (simp (finds, paths-ways))) ends))))))))

pub run : InputOverflow
run = trace-log trace (still s12 10 refl)
