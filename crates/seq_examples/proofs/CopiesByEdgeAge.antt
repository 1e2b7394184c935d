-- The run `copies_by_edge_age`, step by step.
use Rattle.std.proofs.Common.{pos, List, [], ◌∷◌, ◌++◌, Some, refl}
use Rattle.std.specs.Prelude.{codes}
use Rattle.midi_wire.specs.Kinds.{kind_of_status}
use Rattle.midi_wire.specs.Messages.{begins}
use Rattle.midi_wire.specs.Readings.{reading, rest}
use Rattle.route_filter.specs.Worked.{moved_by}
use Rattle.patch_graph.specs.Edges.{most_sources}
use Rattle.seq_state.specs.declared.input.Command.TheVariants.{CreatePort, CreateFilter}
use Rattle.seq_state.specs.declared.log.Delivery.{Delivery}
use Rattle.seq_state.specs.declared.log.Reply.TheVariants.{Messages}
use Rattle.seq_state.specs.State.{Client, State, start}
use Rattle.seq_state.specs.Effect.{new_filter, put_filter}
use Rattle.seq_state.specs.Table.{command_row}
use Rattle.seq_state.specs.Step.{Stepped, port_addr, filter_addr}
use Rattle.seq_examples.specs.Rows.{caps_by_bits, a_note, a_delivery, an_arrival, copies_by_edge_age, CopiesByEdgeAge}
use Rattle.seq_examples.proofs.Traces.{Trace, ends, thus, quiet, trace-log}
use Rattle.seq_examples.proofs.CommandSteps.{holding, pooled, filled, joined, still, opens, changes, connects, feeds}
use Rattle.seq_examples.proofs.Beginnings.{nothing-pending, sender, ready, sender_steps, becomes-sender, with_fed, listener, arrived, settled_in}
use Rattle.seq_examples.proofs.Worked.{to, ways, paths-ways, finds}

abbrev s2 : State
s2 = ready start 128 (codes "a") 8

abbrev with_one : Client
with_one = put_filter 0 (Some (new_filter (caps_by_bits 99) (moved_by (pos 0)))) (sender (codes "a") 8)

abbrev with_both : Client
with_both = put_filter 1 (Some (new_filter (caps_by_bits 99) (moved_by (pos 7)))) with_one

abbrev s3 : State
s3 = holding s2 128 with_one

abbrev s4 : State
s4 = holding s3 128 with_both

abbrev s5 : State
s5 = joined s4 (port_addr 128 0) (filter_addr 128 0)

abbrev s6 : State
s6 = joined s5 (port_addr 128 0) (filter_addr 128 1)

abbrev s7 : State
s7 = arrived s6 8

abbrev s8 : State
s8 = settled_in s6 8 66

abbrev s9 : State
s9 = joined s8 (filter_addr 128 1) (port_addr 129 0)

abbrev s10 : State
s10 = joined s9 (filter_addr 128 0) (port_addr 129 0)

abbrev fed : Client
fed = with_fed with_both (0x90 ∷ [])

abbrev s11 : State
s11 =
    pooled (pooled (holding s10 128 fed) 129 (filled 8 (an_arrival 5 0 (a_note 0x3C) ∷ []) 0)) 129
    (filled 8 (an_arrival 5 0 (a_note 0x3C) ∷ an_arrival 5 0 (a_note 0x43) ∷ []) 0)

abbrev s12 : State
s12 =
    pooled (holding s11 128 (with_fed fed (0x90 ∷ []))) 129
    (filled 8 (an_arrival 5 0 (a_note 0x3C) ∷ an_arrival 5 0 (a_note 0x43) ∷ an_arrival 6 0 (a_note 0x7D) ∷ []) 0)

abbrev copies : List Delivery
copies = a_delivery 5 129 0 (a_note 0x3C) ∷ a_delivery 5 129 0 (a_note 0x43) ∷ []

abbrev after : List Stepped
after =
    sender_steps start 128 (codes "a") 8 ++ quiet (s3 ∷ s4 ∷ s5 ∷ s6 ∷ s7 ∷ s8 ∷ s9 ∷ s10 ∷ [])
    ++ to s11 copies (Messages 1) ∷ to s12 (a_delivery 6 129 0 (a_note 0x7D) ∷ []) (Messages 1) ∷ []

trace : Trace [] start copies_by_edge_age after
unfolding command_row most_sources ways begins kind_of_status reading rest
trace =
    becomes-sender [] start 128 0 (codes "a") 8 (nothing-pending start 0 0 refl) refl (simp finds)
    refl refl
    (thus (changes [] (still s2 0 refl) 128 (CreateFilter 0 (caps_by_bits 99) (moved_by (pos 0))) with_one
    (simp finds))
    (thus (changes [] (still s3 0 refl) 128 (CreateFilter 1 (caps_by_bits 99) (moved_by (pos 7))) with_both
    (simp finds))
    (thus (connects [] (still s4 0 refl) 128 (port_addr 128 0) (filter_addr 128 0) (simp finds))
    (thus (connects [] (still s5 0 refl) 128 (port_addr 128 0) (filter_addr 128 1) (simp finds))
    (thus (opens [] (still s6 0 refl) 129 (codes "b") 8 8 (simp finds) refl refl)
    (thus (changes [] (still s7 0 refl) 129 (CreatePort 0 (codes "in") (caps_by_bits 66)) (listener 8 66)
    (simp finds))
    (thus (connects [] (still s8 1 refl) 129 (filter_addr 128 1) (port_addr 129 0) (simp finds))
    (thus (connects [] (still s9 1 refl) 129 (filter_addr 128 0) (port_addr 129 0) (simp finds))
    (thus (feeds [] (still s10 5 refl) 128 0 (0x90 ∷ 0x3C ∷ 0x40 ∷ []) fed (a_note 0x3C ∷ []) s11
    copies (simp finds) (simp (finds, paths-ways)))
    (thus (feeds [] (still s11 6 refl) 128 0 (0x7D ∷ 0x40 ∷ []) (with_fed fed (0x90 ∷ []))
    (a_note 0x7D ∷ []) s12 (a_delivery 6 129 0 (a_note 0x7D) ∷ []) (simp finds)
    (simp (finds, paths-ways))) ends))))))))))

pub run : CopiesByEdgeAge
run = trace-log trace (still s12 10 refl)
