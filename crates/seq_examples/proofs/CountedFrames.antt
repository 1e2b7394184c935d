-- The run `counted_frames`, step by step.
use Rattle.std.proofs.Common.{false, List, [], ◌∷◌, ◌++◌, Some, refl, arith}
use Rattle.std.specs.Prelude.{codes}
use Rattle.tempo_clock.specs.Ticks.{nanos_at, numerator, duration, tempo_or, resolution}
use Rattle.tempo_clock.specs.declared.due.Due.TheVariants.{Tick}
use Rattle.tempo_clock.proofs.Moments.{moment-held}
use Rattle.seq_state.specs.declared.input.Command.TheVariants.{CreateQueue, CreateQueueFrom, Start, Tempo, Play}
use Rattle.seq_state.specs.declared.log.Delivery.{Delivery}
use Rattle.seq_state.specs.declared.log.Reply.TheVariants.{Done, Refused}
use Rattle.seq_state.specs.declared.refusal.Refusal.TheVariants as refusal
use Rattle.smf_grammar.specs.Played.{PlayedFile}
use Rattle.seq_state.specs.State.{Client, State, start}
use Rattle.seq_state.specs.Effect.{held_queue, one_tempo, playback, put_queue}
use Rattle.seq_state.specs.Table.{command_row}
use Rattle.seq_state.specs.Step.{Stepped}
use Rattle.seq_examples.specs.Rows.{frames, frames_song, a_queue, a_delivery, an_arrival, counted_frames, CountedFrames}
use Rattle.seq_examples.proofs.Traces.{Settles, Trace, ends, thus, quiet, trace-log}
use Rattle.seq_examples.proofs.CommandSteps.{holding, pooled, filled, playing, still, sorts, refuses, changes, plays}
use Rattle.seq_examples.proofs.Beginnings.{around, IsCalm, nothing-pending, sender, ready, sender_steps, becomes-sender, listening, listener_steps, listens, first_note, last_note}
use Rattle.seq_examples.proofs.Worked.{to, clock-moment, IsDue, ways, paths-ways, finds}

abbrev files : List PlayedFile
files = frames_song ∷ []

abbrev s2 : State
s2 = ready start 128 (codes "a") 8

abbrev framed : Client
framed = put_queue 0 (Some (held_queue frames)) (sender (codes "a") 8)

abbrev s3 : State
s3 = holding s2 128 framed

abbrev s4 : State
s4 = playing s3 128 (a_queue 128 0) (playback 0 0 (first_note ∷ last_note ∷ []))

abbrev with_both : Client
with_both = put_queue 1 (Some (held_queue (one_tempo 480 500000))) framed

abbrev s6 : State
s6 = holding s4 128 with_both

abbrev s10 : State
s10 = listening s6 8 66

abbrev started : Client
started =
    put_queue 0 (Some (record {
      clock = record { map = frames; time = 0; since = Some 1 };
      shared = false;
    })) with_both

abbrev s11 : State
s11 = holding s10 128 started

abbrev after : List Stepped
after =
    sender_steps start 128 (codes "a") 8 ++ quiet (s3 ∷ s4 ∷ []) ++ to s4 [] (Refused 22)
    ∷ to s6 [] Done ∷ to s6 [] (Refused 21)
    ∷ listener_steps s6 8 66 ++ quiet (s11 ∷ [])

calm : IsCalm s6 0 128
calm clients pools edges same =
    let t : State = around s6 clients pools edges in
    sorts t 0 t [] (simp (finds, same, moment-held))

trace : Trace files start counted_frames after
unfolding command_row
trace =
    becomes-sender files start 128 0 (codes "a") 8 (nothing-pending start 0 0 refl) refl
    (simp finds) refl refl
    (thus (changes files (still s2 0 refl) 128 (CreateQueueFrom 0 0) framed (simp finds))
    (thus (plays files (still s3 0 refl) 128 (a_queue 128 0) 0 0 first_note (last_note ∷ [])
    (simp finds))
    (thus (refuses files (sorts s4 0 s4 [] (simp (finds, moment-held))) 128
    (Tempo (a_queue 128 0) 250000) refusal.BadTempo (simp finds))
    (thus (changes files (sorts s4 0 s4 [] (simp (finds, moment-held))) 128
    (CreateQueue 1 480 500000) with_both (simp finds))
    (thus (refuses files (calm s6.clients s6.pools s6.edges refl) 128 (Play (a_queue 128 1) 0 0)
    refusal.DivisionDiffers (simp finds))
    (listens files s6 8 66 calm (simp finds) (simp finds) refl refl refl
    (thus (changes files (sorts s10 1 s10 [] (simp (finds, moment-held))) 128
    (Start (a_queue 128 0)) started (simp finds)) ends)))))))

first-due : IsDue frames 0 1 0 (Tick 0) (Some 1)
unfolding nanos_at numerator duration tempo_or resolution
first-due = clock-moment frames 0 1 0 0 (Tick 0) refl (omega arith)

last-due : IsDue frames 0 1 0 (Tick 480) (Some 200000001)
unfolding nanos_at numerator duration tempo_or resolution
last-due = clock-moment frames 0 1 0 200000000 (Tick 480) refl (omega arith)

abbrev u : State
u =
    pooled (pooled (record s11 { pending = [] }) 129
    (filled 8 (an_arrival 1 0 first_note.message ∷ []) 0))
    129 (filled 8 (an_arrival 1 0 first_note.message ∷ an_arrival 200000001 0 last_note.message ∷ []) 0)

abbrev sent_last : List Delivery
sent_last = a_delivery 1 129 0 first_note.message ∷ a_delivery 200000001 129 0 last_note.message ∷ []

last : Settles s11 600000000 u sent_last
unfolding ways
last = sorts s11 600000000 u sent_last (simp (finds, paths-ways, first-due, last-due))

pub run : CountedFrames
run = trace-log trace last
