-- The run `changed_filter`, step by step.
use Rattle.std.proofs.Common.{pos, negsuc, false, List, [], ◌∷◌, ◌++◌, Some, None, refl}
use Rattle.std.specs.Prelude.{codes}
use Rattle.midi_wire.specs.Kinds.{kind_of_status}
use Rattle.midi_wire.specs.Messages.{begins}
use Rattle.midi_wire.specs.Readings.{reading, rest}
use Rattle.route_filter.specs.Worked.{moved_by}
use Rattle.node_table.specs.Addresses.{same_node}
use Rattle.node_table.specs.declared.number.Node.TheVariants.{Filter}
use Rattle.patch_graph.specs.Edges.{most_sources}
use Rattle.seq_state.specs.declared.input.Command.TheVariants.{CreatePort, CreateFilter, SetFilter, DeleteFilter}
use Rattle.seq_state.specs.declared.log.Reply.TheVariants.{Messages}
use Rattle.seq_state.specs.State.{Client, State, start}
use Rattle.seq_state.specs.Effect.{new_filter, put_filter}
use Rattle.seq_state.specs.Table.{command_row}
use Rattle.seq_state.specs.Step.{Stepped, port_addr, filter_addr}
use Rattle.seq_examples.specs.Rows.{caps_by_bits, a_note, a_delivery, an_arrival, changed_filter, ChangedFilter}
use Rattle.seq_examples.proofs.Traces.{Trace, ends, thus, quiet, trace-log}
use Rattle.seq_examples.proofs.CommandSteps.{without, holding, pooled, filled, joined, still, opens, changes, gives-up, connects, feeds}
use Rattle.seq_examples.proofs.Beginnings.{nothing-pending, sender, ready, sender_steps, becomes-sender, with_fed, listener, arrived, settled_in}
use Rattle.seq_examples.proofs.Worked.{to, moved, ways, paths-ways, finds}

abbrev s2 : State
s2 = ready start 128 (codes "a") 8

-- the owner of the filter, as it feeds its port and changes the filter
abbrev a2 : Client
a2 = put_filter 0 (Some (new_filter (caps_by_bits 99) (moved_by (pos 0)))) (sender (codes "a") 8)

abbrev a3 : Client
a3 = with_fed a2 (0x90 ∷ [])

abbrev a4 : Client
a4 = put_filter 0 (Some (new_filter (caps_by_bits 99) (moved_by (negsuc 60)))) a3

abbrev a5 : Client
a5 = with_fed a4 (0x90 ∷ [])

abbrev a6 : Client
a6 = put_filter 0 None a5

abbrev s3 : State
s3 = holding s2 128 a2

abbrev s4 : State
s4 = joined s3 (port_addr 128 0) (filter_addr 128 0)

abbrev s5 : State
s5 = arrived s4 8

abbrev s6 : State
s6 = settled_in s4 8 66

abbrev s7 : State
s7 = joined s6 (filter_addr 128 0) (port_addr 129 0)

abbrev s8 : State
s8 = pooled (holding s7 128 a3) 129 (filled 8 (an_arrival 4 0 (a_note 0x3C) ∷ []) 0)

abbrev s9 : State
s9 = holding s8 128 a4

abbrev s10 : State
s10 =
    pooled (holding s9 128 a5) 129 (filled 8 (an_arrival 4 0 (a_note 0x3C) ∷ an_arrival 5 0 (a_note 0x00) ∷ []) 0)

abbrev s11 : State
s11 = moved s10 128 None (without a6 (same_node (Filter 0)) (λ p. false) (λ n. false))

abbrev s12 : State
s12 = holding s11 128 (with_fed a6 (0x90 ∷ []))

abbrev after : List Stepped
after =
    sender_steps start 128 (codes "a") 8 ++ quiet (s3 ∷ s4 ∷ s5 ∷ s6 ∷ s7 ∷ [])
    ++ to s8 (a_delivery 4 129 0 (a_note 0x3C) ∷ []) (Messages 1)
    ∷ quiet (s9 ∷ []) ++ to s10 (a_delivery 5 129 0 (a_note 0x00) ∷ []) (Messages 2) ∷ quiet (s11 ∷ [])
    ++ to s12 [] (Messages 1) ∷ []

trace : Trace [] start changed_filter after
unfolding command_row most_sources ways begins kind_of_status reading rest
trace =
    becomes-sender [] start 128 0 (codes "a") 8 (nothing-pending start 0 0 refl) refl (simp finds)
    refl refl
    (thus (changes [] (still s2 0 refl) 128 (CreateFilter 0 (caps_by_bits 99) (moved_by (pos 0))) a2
    (simp finds))
    (thus (connects [] (still s3 0 refl) 128 (port_addr 128 0) (filter_addr 128 0) (simp finds))
    (thus (opens [] (still s4 0 refl) 129 (codes "b") 8 8 (simp finds) refl refl)
    (thus (changes [] (still s5 0 refl) 129 (CreatePort 0 (codes "in") (caps_by_bits 66)) (listener 8 66)
    (simp finds))
    (thus (connects [] (still s6 1 refl) 129 (filter_addr 128 0) (port_addr 129 0) (simp finds))
    (thus (feeds [] (still s7 4 refl) 128 0 (0x90 ∷ 0x3C ∷ 0x40 ∷ []) a3 (a_note 0x3C ∷ []) s8
    (a_delivery 4 129 0 (a_note 0x3C) ∷ []) (simp finds) (simp (finds, paths-ways)))
    (thus (changes [] (still s8 5 refl) 128 (SetFilter 0 (moved_by (negsuc 60))) a4 (simp finds))
    (thus (feeds [] (still s9 5 refl) 128 0 (0x90 ∷ 0x3C ∷ 0x40 ∷ 0x3D ∷ 0x40 ∷ []) a5
    (a_note 0x3C ∷ a_note 0x3D ∷ []) s10 (a_delivery 5 129 0 (a_note 0x00) ∷ []) (simp finds)
    (simp (finds, paths-ways)))
    (thus (gives-up [] (still s10 6 refl) 128 (DeleteFilter 0) a6 (same_node (Filter 0))
    (λ p. false) (λ n. false) (simp finds))
    (thus (feeds [] (still s11 6 refl) 128 0 (0x3D ∷ 0x40 ∷ []) (with_fed a6 (0x90 ∷ []))
    (a_note 0x3D ∷ []) s12 [] (simp finds) (simp paths-ways)) ends))))))))))

pub run : ChangedFilter
run = trace-log trace (still s12 10 refl)
