-- The run `noisy_stranger`, step by step, what 129 sees of it, and two circles.
use Rattle.std.proofs.Common.{◌≡◌, ◌==◌, ◌||◌, pos, false, List, [], ◌∷◌, ◌++◌, Some, None, refl, sym, ap}
use Rattle.std.specs.Prelude.{codes}
use Rattle.std.proofs.lemmas.Bool.{false≢true}
use Rattle.midi_wire.specs.Kinds.{kind_of_status}
use Rattle.midi_wire.specs.Messages.{begins}
use Rattle.tempo_clock.specs.declared.due.Due.TheVariants.{Nanos}
use Rattle.tempo_clock.proofs.Moments.{moment-held}
use Rattle.route_filter.specs.Worked.{moved_by}
use Rattle.patch_graph.specs.Edges.{most_sources}
use Rattle.seq_state.specs.declared.input.Command.TheVariants.{CreatePort, CreateFilter, Connect, Disconnect, CreateQueue, Schedule}
use Rattle.seq_state.specs.declared.input.DueAt.TheVariants as due_at
use Rattle.seq_state.specs.declared.log.Delivery.{Delivery}
use Rattle.seq_state.specs.declared.log.Reply.TheVariants.{Done, Refused}
use Rattle.seq_state.specs.declared.refusal.Refusal.TheVariants as refusal
use Rattle.seq_state.specs.Circle.{IsClosed, view}
use Rattle.seq_state.specs.State.{Client, State, start}
use Rattle.seq_state.specs.Effect.{new_client, new_port, new_filter, put_port, put_filter}
use Rattle.seq_state.specs.Table.{command_row}
use Rattle.seq_state.specs.Step.{Stepped, plain, port_addr}
use Rattle.seq_examples.specs.Rows.{caps_by_bits, a_queue, a_note, a_delivery, an_arrival, noisy_stranger, is_one_of_two, NoisyStranger}
use Rattle.seq_examples.proofs.Traces.{Trace, ends, thus, quiet, log_of, trace-log, StaysClosed, stays, stayed, closed-trace, trace-closed}
use Rattle.seq_examples.proofs.CommandSteps.{holding, pooled, filled, opened, closed, joined, single, playing, still, sorts, refuses, opens, closes, changes, connects, schedules, sends}
use Rattle.seq_examples.proofs.Beginnings.{nothing-pending, ready, sender_steps, becomes-sender, with_queue, listening, listener_steps, listens}
use Rattle.seq_examples.proofs.Worked.{to, ways, paths-ways, finds}

abbrev s2 : State
s2 = ready start 128 (codes "a") 8

abbrev s5 : State
s5 = listening s2 8 2

-- the stranger with a port, a filter and a queue
abbrev with_port : Client
with_port = put_port 0 (Some (new_port (codes "y") (caps_by_bits 99))) (new_client (codes "x") 1 1)

abbrev with_filter : Client
with_filter = put_filter 0 (Some (new_filter (caps_by_bits 99) (moved_by (pos 0)))) with_port

abbrev stranger : Client
stranger = with_queue with_filter false 0 None

abbrev s6 : State
s6 = opened s5 131 (codes "x") 1 1

abbrev s7 : State
s7 = holding s6 131 with_port

abbrev s8 : State
s8 = joined s7 (port_addr 128 0) (port_addr 131 0)

abbrev s12 : State
s12 = holding s8 131 with_filter

abbrev s13 : State
s13 = holding s12 131 stranger

abbrev s14 : State
s14 = playing s13 131 (a_queue 131 0) (single 0 2 (Nanos 5) (a_note 0x7F))

abbrev s16 : State
s16 =
    pooled (pooled s14 129 (filled 8 (an_arrival 5 0 (a_note 0x3C) ∷ []) 0)) 131
    (filled 1 (an_arrival 5 0 (a_note 0x3C) ∷ []) 0)

abbrev s17 : State
s17 =
    pooled (pooled s16 129 (filled 8 (an_arrival 5 0 (a_note 0x3C) ∷ an_arrival 6 0 (a_note 0x3D) ∷ []) 0)) 131
    (filled 1 (an_arrival 5 0 (a_note 0x3C) ∷ []) 1)

abbrev s18 : State
s18 = closed s17 131

abbrev copies : List Delivery
copies = a_delivery 5 129 0 (a_note 0x3C) ∷ a_delivery 5 131 0 (a_note 0x3C) ∷ []

abbrev after : List Stepped
after =
    sender_steps start 128 (codes "a") 8 ++ listener_steps s2 8 2 ++ quiet (s6 ∷ s7 ∷ s8 ∷ [])
    ++ to s8 [] (Refused 11) ∷ to s8 [] (Refused 10)
    ∷ to s8 [] (Refused 10) ∷ quiet (s12 ∷ s13 ∷ s14 ∷ []) ++ to s14 [] (Refused 24)
    ∷ to s16 copies Done
    ∷ to s17 (a_delivery 6 129 0 (a_note 0x3D) ∷ []) Done ∷ quiet (s18 ∷ [])

trace : Trace [] start noisy_stranger after
unfolding command_row most_sources ways begins kind_of_status
trace =
    becomes-sender [] start 128 0 (codes "a") 8 (nothing-pending start 0 0 refl) refl (simp finds)
    refl refl
    (listens [] s2 8 2 (nothing-pending s2 0 128 refl) (simp finds) (simp finds) refl refl refl
    (thus (opens [] (still s5 1 refl) 131 (codes "x") 1 1 (simp finds) refl refl)
    (thus (changes [] (still s6 1 refl) 131 (CreatePort 0 (codes "y") (caps_by_bits 99)) with_port
    (simp finds))
    (thus (connects [] (still s7 1 refl) 129 (port_addr 128 0) (port_addr 131 0) (simp finds))
    (thus (refuses [] (still s8 1 refl) 131 (Connect (port_addr 128 0) (port_addr 131 0))
    refusal.AlreadyConnected (simp finds))
    (thus (refuses [] (still s8 1 refl) 131 (Connect (port_addr 131 0) (port_addr 129 0))
    refusal.NotPermitted (simp finds))
    (thus (refuses [] (still s8 2 refl) 131 (Disconnect (port_addr 128 0) (port_addr 129 0))
    refusal.NotPermitted (simp finds))
    (thus (changes [] (still s8 2 refl) 131 (CreateFilter 0 (caps_by_bits 99) (moved_by (pos 0)))
    with_filter (simp finds))
    (thus (changes [] (still s12 2 refl) 131 (CreateQueue 0 480 500000) stranger (simp finds))
    (thus (schedules [] (still s13 2 refl) 131 (a_queue 131 0) 0 (due_at.Nanos 5) (a_note 0x7F)
    (Nanos 5) (simp finds))
    (thus (refuses [] (sorts s14 2 s14 [] (simp (finds, moment-held))) 131
    (Schedule (a_queue 131 0) 0 (due_at.Nanos 5) (a_note 0x7F)) refusal.OutFull (simp finds))
    (thus (sends [] (sorts s14 5 s14 [] (simp (finds, moment-held))) 128 0 (a_note 0x3C) s16 copies
    (simp finds) (simp (finds, paths-ways)))
    (thus (sends [] (sorts s16 6 s16 [] (simp (finds, moment-held))) 128 0 (a_note 0x3D) s17
    (a_delivery 6 129 0 (a_note 0x3D) ∷ []) (simp finds) (simp (finds, paths-ways)))
    (thus (closes [] (sorts s17 9 s17 [] (simp (finds, moment-held))) 131 (simp finds))
    ends))))))))))))))

run : plain [] noisy_stranger 10 ≡ log_of 0 noisy_stranger after []
run = trace-log trace (still s18 10 refl)

pair_closed : IsClosed [] 129 is_one_of_two noisy_stranger
pair_closed =
    let keeps : StaysClosed 129 is_one_of_two noisy_stranger after =
    stays tt tt (stays tt tt (stays tt tt (stays tt tt
    (stays (λ i. (λ m. refl, λ n. absurd (false≢true (sym n)))) tt (stays tt tt (stays tt tt
    (stays (λ i. absurd (false≢true i)) tt (stays (λ i. absurd (false≢true i)) tt
    (stays (λ i. (λ m. absurd (false≢true m), λ n. tt)) tt
    (stays (λ i. (λ m. absurd (false≢true m), λ n. tt)) tt (stays tt tt (stays tt tt
    (stays tt (λ m. absurd (false≢true m)) (stays tt (λ m. absurd (false≢true m))
    (stays tt tt (stays tt tt (stays tt tt stayed))))))))))))))))) in
    (refl, closed-trace trace keeps)

other_pair_open : IsClosed [] 131 (λ c. (c == 128) || (c == 131)) noisy_stranger → ⊥
other_pair_open h = ((trace-closed 131 (λ c. (c == 128) || (c == 131)) 7 trace h.1).0 refl).1 refl

pub noisy : NoisyStranger
noisy =
    record {
      log = run;
      pair = pair_closed;
      other_pair = other_pair_open;
      seen = ap (view 129 is_one_of_two noisy_stranger) run;
    }
