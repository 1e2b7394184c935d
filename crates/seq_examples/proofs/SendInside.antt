-- The run `send_inside_message`, step by step, and the bytes that come to its port.
use Rattle.std.proofs.Common.{◌≡◌, ℕ, List, [], ◌∷◌, ◌++◌, refl, ap, ◌∙◌}
use Rattle.std.specs.Prelude.{codes}
use Rattle.midi_wire.specs.Kinds.{kind_of_status}
use Rattle.midi_wire.specs.Messages.{begins}
use Rattle.midi_wire.specs.Readings.{reading, rest}
use Rattle.seq_state.specs.declared.log.LogEntry.{LogEntry}
use Rattle.seq_state.specs.declared.log.Reply.TheVariants.{Done, Messages}
use Rattle.seq_state.specs.Heard.{port_at, port_bytes}
use Rattle.seq_state.specs.State.{Client, State, start}
use Rattle.seq_state.specs.Table.{command_row}
use Rattle.seq_state.specs.Step.{Stepped, plain}
use Rattle.seq_examples.specs.Rows.{a_note, a_delivery, an_arrival, send_inside_message, SendInside, RunningStatusKept}
use Rattle.seq_examples.proofs.Traces.{Trace, ends, thus, log_of, trace-log}
use Rattle.seq_examples.proofs.CommandSteps.{holding, pooled, filled, still, sends, feeds}
use Rattle.seq_examples.proofs.Beginnings.{nothing-pending, sender, ready, sender_steps, becomes-sender, with_fed, listening, listener_steps, listens}
use Rattle.seq_examples.proofs.Worked.{to, ways, paths-ways, finds}

abbrev s2 : State
s2 = ready start 128 (codes "a") 8

abbrev s5 : State
s5 = listening s2 8 66

-- the sender with a message begun, and with it completed
abbrev begun : Client
begun = with_fed (sender (codes "a") 8) (0x90 ∷ 0x3C ∷ [])

abbrev completed : Client
completed = with_fed begun (0x90 ∷ [])

-- the message that is sent between
abbrev between : List ℕ
between = 0xB0 ∷ 0x07 ∷ 0x7F ∷ []

abbrev s6 : State
s6 = holding s5 128 begun

abbrev s7 : State
s7 = pooled s6 129 (filled 8 (an_arrival 5 0 between ∷ []) 0)

abbrev s8 : State
s8 =
    pooled (holding s7 128 completed) 129
    (filled 8 (an_arrival 5 0 between ∷ an_arrival 5 0 (a_note 0x3C) ∷ []) 0)

abbrev after : List Stepped
after =
    sender_steps start 128 (codes "a") 8 ++ listener_steps s2 8 66
    ++ to s6 [] (Messages 0) ∷ to s7 (a_delivery 5 129 0 between ∷ []) Done
    ∷ to s8 (a_delivery 5 129 0 (a_note 0x3C) ∷ []) (Messages 1) ∷ []

trace : Trace [] start send_inside_message after
unfolding command_row ways begins kind_of_status reading rest
trace =
    becomes-sender [] start 128 0 (codes "a") 8 (nothing-pending start 0 0 refl) refl (simp finds)
    refl refl
    (listens [] s2 8 66 (nothing-pending s2 0 128 refl) (simp finds) (simp finds) refl refl refl
    (thus (feeds [] (still s5 5 refl) 128 0 (0x90 ∷ 0x3C ∷ []) begun [] s6 [] (simp finds) refl)
    (thus (sends [] (still s6 5 refl) 128 0 between s7 (a_delivery 5 129 0 between ∷ []) (simp finds)
    (simp (finds, paths-ways)))
    (thus (feeds [] (still s7 5 refl) 128 0 (0x40 ∷ []) completed (a_note 0x3C ∷ []) s8
    (a_delivery 5 129 0 (a_note 0x3C) ∷ []) (simp finds) (simp (finds, paths-ways))) ends))))

abbrev log : List LogEntry
log = log_of 0 send_inside_message after []

logged : plain [] send_inside_message 10 ≡ log
logged = trace-log trace (still s8 10 refl)

written_bytes : port_bytes (port_at 129 0) log ≡ between ++ a_note 0x3C
unfolding begins kind_of_status
written_bytes = refl

pub send_inside : SendInside
send_inside =
    record { log = logged; bytes = ap (port_bytes (port_at 129 0)) logged ∙ written_bytes }

-- two notes with one status, at a port
pub running_status : RunningStatusKept
unfolding begins kind_of_status
running_status = refl
