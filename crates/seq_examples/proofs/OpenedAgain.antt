-- The run `opened_again`, step by step.
use Rattle.std.proofs.Common.{List, [], ◌∷◌, ◌++◌, refl}
use Rattle.std.specs.Prelude.{codes}
use Rattle.midi_wire.specs.Kinds.{kind_of_status}
use Rattle.midi_wire.specs.Messages.{begins}
use Rattle.seq_state.specs.declared.input.Command.TheVariants.{CreatePort}
use Rattle.seq_state.specs.declared.log.Reply.TheVariants.{Done, Pools}
use Rattle.seq_state.specs.State.{State, start}
use Rattle.seq_state.specs.Table.{command_row}
use Rattle.seq_state.specs.Step.{Stepped}
use Rattle.seq_examples.specs.Rows.{caps_by_bits, a_note, a_delivery, an_arrival, opened_again, OpenedAgain}
use Rattle.seq_examples.proofs.Traces.{Trace, ends, thus, quiet, trace-log}
use Rattle.seq_examples.proofs.CommandSteps.{pooled, filled, closed, still, opens, closes, changes, sends, asks}
use Rattle.seq_examples.proofs.Beginnings.{nothing-pending, ready, sender_steps, becomes-sender, listener, arrived, settled_in, listening, listener_steps, listens}
use Rattle.seq_examples.proofs.Worked.{to, ways, paths-ways, finds}

abbrev s2 : State
s2 = ready start 128 (codes "a") 8

abbrev s5 : State
s5 = listening s2 1 66

abbrev s6 : State
s6 = pooled s5 129 (filled 1 (an_arrival 1 0 (a_note 0x3C) ∷ []) 0)

abbrev s7 : State
s7 = pooled s6 129 (filled 1 (an_arrival 1 0 (a_note 0x3C) ∷ []) 1)

abbrev s9 : State
s9 = closed s7 129

abbrev s10 : State
s10 = arrived s9 1

abbrev s12 : State
s12 = settled_in s9 1 66

abbrev after : List Stepped
after =
    sender_steps start 128 (codes "a") 8 ++ listener_steps s2 1 66
    ++ to s6 (a_delivery 1 129 0 (a_note 0x3C) ∷ []) Done ∷ to s7 [] Done
    ∷ to s7 [] (Pools 1 1 0) ∷ quiet (s9 ∷ s10 ∷ []) ++ to s10 [] (Pools 0 0 0)
    ∷ quiet (s12 ∷ s12 ∷ [])

trace : Trace [] start opened_again after
unfolding command_row ways begins kind_of_status
trace =
    becomes-sender [] start 128 0 (codes "a") 8 (nothing-pending start 0 0 refl) refl (simp finds)
    refl refl
    (listens [] s2 1 66 (nothing-pending s2 0 128 refl) (simp finds) (simp finds) refl refl refl
    (thus (sends [] (still s5 1 refl) 128 0 (a_note 0x3C) s6 (a_delivery 1 129 0 (a_note 0x3C) ∷ [])
    (simp finds) (simp (finds, paths-ways)))
    (thus (sends [] (still s6 2 refl) 128 0 (a_note 0x3D) s7 [] (simp finds)
    (simp (finds, paths-ways)))
    (thus (asks [] (still s7 3 refl) 129 (Pools 1 1 0) (simp finds) (simp finds))
    (thus (closes [] (still s7 4 refl) 129 (simp finds))
    (thus (opens [] (still s9 4 refl) 129 (codes "b") 1 8 (simp finds) refl refl)
    (thus (asks [] (still s10 4 refl) 129 (Pools 0 0 0) (simp finds) (simp finds))
    (thus (changes [] (still s10 4 refl) 129 (CreatePort 0 (codes "in") (caps_by_bits 66)) (listener 1 66)
    (simp finds))
    (thus (sends [] (still s12 5 refl) 128 0 (a_note 0x3E) s12 [] (simp finds) (simp paths-ways))
    ends)))))))))

pub run : OpenedAgain
run = trace-log trace (still s12 10 refl)
