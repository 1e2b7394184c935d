-- The run `listened`, step by step.
use Rattle.std.proofs.Common.{ℕ, List, [], ◌∷◌, ◌++◌, refl, ◌∙◌}
use Rattle.std.specs.Prelude.{codes}
use Rattle.midi_wire.specs.Kinds.{kind_of_status}
use Rattle.midi_wire.specs.Messages.{begins}
use Rattle.seq_state.specs.declared.input.Command.TheVariants.{Listen, Unlisten}
use Rattle.seq_state.specs.declared.log.Arrival.{Arrival}
use Rattle.seq_state.specs.declared.log.Delivery.{Delivery}
use Rattle.seq_state.specs.declared.log.Reply.TheVariants.{Done, Pools}
use Rattle.seq_state.specs.State.{State, start}
use Rattle.seq_state.specs.Table.{command_row}
use Rattle.seq_state.specs.Step.{Stepped}
use Rattle.seq_state.proofs.Effects.{step-listens, step-unlistens}
use Rattle.seq_examples.specs.Rows.{a_note, a_delivery, an_arrival, listened, Listened}
use Rattle.seq_examples.proofs.Traces.{Trace, ends, thus, trace-log}
use Rattle.seq_examples.proofs.CommandSteps.{pooled, filled, heard, still, comes, sends, asks}
use Rattle.seq_examples.proofs.Beginnings.{nothing-pending, ready, sender_steps, becomes-sender, listening, listener_steps, listens}
use Rattle.seq_examples.proofs.Worked.{to, ways, paths-ways, finds}

abbrev s2 : State
s2 = ready start 128 (codes "a") 8

abbrev s5 : State
s5 = listening s2 2 66

abbrev one : List Arrival
one = an_arrival 1 0 (a_note 0x01) ∷ []

-- 129 listens, while one waits: by what it lost, and the moment and the number of what it heard last
abbrev hears : State → ℕ → ℕ → ℕ → State
hears s lost moment count = pooled s 129 (heard 2 one lost moment count)

-- it does not listen
abbrev has : State → List Arrival → ℕ → State
has s arrivals lost = pooled s 129 (filled 2 arrivals lost)

abbrev two : List Arrival
two = an_arrival 1 0 (a_note 0x01) ∷ an_arrival 6 0 (a_note 0x07) ∷ []

abbrev came : ℕ → ℕ → List Delivery
came moment note = a_delivery moment 129 0 (a_note note) ∷ []

abbrev s6 : State
s6 = has s5 one 0

abbrev s7 : State
s7 = hears s6 0 0 0

abbrev s8 : State
s8 = hears s7 0 3 1

abbrev s9 : State
s9 = hears s8 0 3 2

abbrev s10 : State
s10 = hears s9 1 3 2

abbrev s11 : State
s11 = hears s10 1 4 1

abbrev s12 : State
s12 = hears s11 1 4 2

abbrev s14 : State
s14 = has s12 one 1

abbrev s15 : State
s15 = has s14 two 1

abbrev s16 : State
s16 = has s15 two 2

abbrev after : List Stepped
after =
    sender_steps start 128 (codes "a") 8 ++ listener_steps s2 2 66
    ++ to s6 (came 1 0x01) Done ∷ to s7 [] Done
    ∷ to s8 (came 3 0x02) Done ∷ to s9 (came 3 0x03) Done ∷ to s10 [] Done
    ∷ to s11 (came 4 0x05) Done ∷ to s12 (came 4 0x06) Done ∷ to s12 [] (Pools 1 1 0)
    ∷ to s14 [] Done ∷ to s15 (came 6 0x07) Done ∷ to s16 [] Done ∷ to s16 [] (Pools 2 2 0) ∷ []

trace : Trace [] start listened after
unfolding command_row ways begins kind_of_status
trace =
    becomes-sender [] start 128 0 (codes "a") 8 (nothing-pending start 0 0 refl) refl (simp finds)
    refl refl
    (listens [] s2 2 66 (nothing-pending s2 0 128 refl) (simp finds) (simp finds) refl refl refl
    (thus (sends [] (still s5 1 refl) 128 0 (a_note 0x01) s6 (came 1 0x01) (simp finds)
    (simp (finds, paths-ways)))
    (thus (comes [] (still s6 2 refl) 129 Listen (to s7 [] Done) (step-listens [] s6 2 129 ∙ simp finds))
    (thus (sends [] (still s7 3 refl) 128 0 (a_note 0x02) s8 (came 3 0x02) (simp finds)
    (simp (finds, paths-ways)))
    (thus (sends [] (still s8 3 refl) 128 0 (a_note 0x03) s9 (came 3 0x03) (simp finds)
    (simp (finds, paths-ways)))
    (thus (sends [] (still s9 3 refl) 128 0 (a_note 0x04) s10 [] (simp finds) (simp (finds, paths-ways)))
    (thus (sends [] (still s10 4 refl) 128 0 (a_note 0x05) s11 (came 4 0x05) (simp finds)
    (simp (finds, paths-ways)))
    (thus (sends [] (still s11 4 refl) 128 0 (a_note 0x06) s12 (came 4 0x06) (simp finds)
    (simp (finds, paths-ways)))
    (thus (asks [] (still s12 4 refl) 129 (Pools 1 1 0) (simp finds) (simp finds))
    (thus (comes [] (still s12 5 refl) 129 Unlisten (to s14 [] Done)
    (step-unlistens [] s12 5 129 ∙ simp finds))
    (thus (sends [] (still s14 6 refl) 128 0 (a_note 0x07) s15 (came 6 0x07) (simp finds)
    (simp (finds, paths-ways)))
    (thus (sends [] (still s15 7 refl) 128 0 (a_note 0x08) s16 [] (simp finds)
    (simp (finds, paths-ways)))
    (thus (asks [] (still s16 7 refl) 129 (Pools 2 2 0) (simp finds) (simp finds)) ends)))))))))))))

pub run : Listened
run = trace-log trace (still s16 10 refl)
