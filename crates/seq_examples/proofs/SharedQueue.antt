-- The run `shared_queue`, step by step, and two circles round 129.
use Rattle.std.proofs.Common.{ℕ, ◌==◌, ◌||◌, Bool, false, true, List, [], ◌∷◌, ◌++◌, Some, None, refl, sym, arith}
use Rattle.std.specs.Prelude.{codes}
use Rattle.std.proofs.lemmas.Bool.{false≢true}
use Rattle.tempo_clock.specs.Worked.{two_a_second}
use Rattle.tempo_clock.specs.declared.due.Due.TheVariants.{Nanos}
use Rattle.tempo_clock.proofs.Moments.{moment-held}
use Rattle.patch_graph.specs.Edges.{most_sources}
use Rattle.seq_state.specs.declared.input.Command.TheVariants.{CreatePort, CreateQueue, DeleteQueue, Start, QueueStatus, Share}
use Rattle.seq_state.specs.declared.input.DueAt.TheVariants as due_at
use Rattle.seq_state.specs.declared.log.Reply.TheVariants.{Done, Queue, Pools, Refused}
use Rattle.seq_state.specs.declared.refusal.Refusal.TheVariants as refusal
use Rattle.seq_state.specs.Circle.{IsClosed}
use Rattle.seq_state.specs.State.{Client, State, start}
use Rattle.seq_state.specs.Effect.{new_client, put_queue}
use Rattle.seq_state.specs.Table.{command_row}
use Rattle.seq_state.specs.Step.{Stepped, pending_of, port_addr}
use Rattle.seq_examples.specs.Rows.{caps_by_bits, a_queue, a_note, a_delivery, an_arrival, shared_queue, SharedQueue}
use Rattle.seq_examples.proofs.Traces.{Trace, ends, thus, quiet, trace-log, StaysClosed, stays, stayed, closed-trace, trace-closed}
use Rattle.seq_examples.proofs.CommandSteps.{without, holding, pooled, filled, joined, single, playing, still, sorts, refuses, opens, changes, gives-up, connects, schedules, asks, asks-queue}
use Rattle.seq_examples.proofs.Beginnings.{nothing-pending, entered, ready, sender_steps, becomes-sender, with_queue, listener, arrived, settled_in}
use Rattle.seq_examples.proofs.Worked.{to, moved, clock-moment, IsDue, tick-at_first, ways, paths-ways, finds}

abbrev s1 : State
s1 = entered start 128 (codes "a") 8

abbrev owner : Client
owner = with_queue (new_client (codes "a") 8 8) false 0 None

abbrev sharing : Client
sharing = with_queue owner true 0 None

abbrev started : Client
started = with_queue sharing true 0 (Some 10)

abbrev s2 : State
s2 = holding s1 128 owner

abbrev s3 : State
s3 = holding s2 128 sharing

abbrev s4 : State
s4 = arrived s3 8

abbrev s5 : State
s5 = settled_in s3 8 66

abbrev s7 : State
s7 = ready s5 130 (codes "c") 2

abbrev s8 : State
s8 = joined s7 (port_addr 130 0) (port_addr 129 0)

abbrev s9 : State
s9 = playing s8 130 (a_queue 128 0) (single 0 1 (Nanos 20) (a_note 0x01))

abbrev s10 : State
s10 = playing s9 130 (a_queue 128 0) (single 0 1 (Nanos 100) (a_note 0x02))

abbrev s14 : State
s14 = holding s10 128 started

abbrev u14 : State
u14 =
    pooled (record s14 {
      pending = pending_of 130 (Some (a_queue 128 0))
          (single 0 1 (Nanos 100) (a_note 0x02)) ∷ [];
    }) 129 (filled 8 (an_arrival 30 0 (a_note 0x01) ∷ []) 0)

abbrev s15 : State
s15 =
    moved u14 128 (Some (a_queue 128 0))
    (without (put_queue 0 None started) (λ n. false) (λ p. false) (λ n. n == 0))

abbrev after : List Stepped
after =
    quiet (s1 ∷ s2 ∷ s3 ∷ s4 ∷ s5 ∷ []) ++ sender_steps s5 130 (codes "c") 2
    ++ quiet (s8 ∷ s9 ∷ s10 ∷ [])
    ++ to s10 [] (Queue false 0 0) ∷ to s10 [] (Refused 16) ∷ to s10 [] (Refused 16)
    ∷ to s14 [] Done
    ∷ to s15 (a_delivery 30 129 0 (a_note 0x01) ∷ []) Done ∷ to s15 [] (Pools 0 0 0)
    ∷ to s15 [] (Refused 16) ∷ []

first : IsDue two_a_second 0 10 1 (Nanos 20) (Some 30)
first = clock-moment two_a_second 0 10 1 20 (Nanos 20) refl (omega arith)

second : IsDue two_a_second 0 10 1 (Nanos 100) (Some 110)
second = clock-moment two_a_second 0 10 1 100 (Nanos 100) refl (omega arith)

trace : Trace [] start shared_queue after
unfolding command_row most_sources ways
trace =
    thus (opens [] (still start 0 refl) 128 (codes "a") 8 8 (simp finds) refl refl)
    (thus (changes [] (still s1 0 refl) 128 (CreateQueue 0 480 500000) owner (simp finds))
    (thus (changes [] (still s2 0 refl) 128 (Share (a_queue 128 0)) sharing (simp finds))
    (thus (opens [] (still s3 0 refl) 129 (codes "b") 8 8 (simp finds) refl refl)
    (thus (changes [] (still s4 0 refl) 129 (CreatePort 0 (codes "in") (caps_by_bits 66)) (listener 8 66)
    (simp finds))
    (becomes-sender [] s5 130 0 (codes "c") 2 (nothing-pending s5 0 0 refl) refl (simp finds) refl
    refl
    (thus (connects [] (still s7 1 refl) 129 (port_addr 130 0) (port_addr 129 0) (simp finds))
    (thus (schedules [] (still s8 1 refl) 130 (a_queue 128 0) 0 (due_at.Nanos 20) (a_note 0x01)
    (Nanos 20) (simp finds))
    (thus (schedules [] (sorts s9 1 s9 [] (simp (finds, moment-held))) 130 (a_queue 128 0) 0
    (due_at.Nanos 100) (a_note 0x02) (Nanos 100) (simp finds))
    (thus (asks-queue [] (sorts s10 1 s10 [] (simp (finds, moment-held))) 130 (a_queue 128 0)
    (Queue false 0 0) (simp finds) (simp (finds, tick-at_first)))
    (thus (refuses [] (sorts s10 1 s10 [] (simp (finds, moment-held))) 130 (Start (a_queue 128 0))
    refusal.NotYours (simp finds))
    (thus (refuses [] (sorts s10 1 s10 [] (simp (finds, moment-held))) 130
    (QueueStatus (a_queue 128 1)) refusal.NotYours (simp finds))
    (thus (changes [] (sorts s10 10 s10 [] (simp (finds, moment-held))) 128 (Start (a_queue 128 0))
    started (simp finds))
    (thus (gives-up [] (sorts s14 60 u14 (a_delivery 30 129 0 (a_note 0x01) ∷ [])
    (simp (finds, paths-ways, first, second))) 128 (DeleteQueue (a_queue 128 0))
    (put_queue 0 None started) (λ n. false) (λ p. false) (λ n. n == 0) (simp finds))
    (thus (asks [] (still s15 60 refl) 130 (Pools 0 0 0) (simp finds) (simp finds))
    (thus (refuses [] (still s15 61 refl) 130 (QueueStatus (a_queue 128 0)) refusal.NotYours
    (simp finds)) ends)))))))))))))))

pub run : SharedQueue
run = trace-log trace (still s15 200 refl)

abbrev is_one_of_three : ℕ → Bool
is_one_of_three c = (c == 128) || (c == 129) || (c == 130)

pub all_closed : IsClosed [] 129 is_one_of_three shared_queue
all_closed =
    let keeps : StaysClosed 129 is_one_of_three shared_queue after =
    stays tt tt (stays tt tt (stays tt (λ m. refl)
    (stays tt tt (stays tt tt (stays tt tt (stays tt tt
    (stays (λ i. (λ m. refl, λ n. absurd (false≢true (sym n)))) tt
    (stays tt (λ m. refl) (stays tt (λ m. refl) (stays tt (λ m. refl) (stays tt (λ m. refl)
    (stays tt (λ m. refl) (stays tt (λ m. refl) (stays tt (λ m. refl) (stays tt tt
    (stays tt (λ m. refl) stayed)))))))))))))))) in
    (refl, closed-trace trace keeps)

pub without_owner : IsClosed [] 129 (λ c. (c == 129) || (c == 130)) shared_queue → ⊥
without_owner h = false≢true ((trace-closed 129 (λ c. (c == 129) || (c == 130)) 8 trace h.1).1 refl)
