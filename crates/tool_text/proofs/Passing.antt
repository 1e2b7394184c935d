-- What is delivered in the run of a stream.
use Rattle.std.proofs.Common.{◌≡◌, ℕ, ◌+◌, List, [], ◌∷◌, ◌++◌, map, refl, sym, ap, ◌∙◌}
use Rattle.std.specs.List.{flat_map}
use Rattle.std.proofs.lemmas.List.{map-append}
use Rattle.midi_wire.specs.Laws.{reading_of_pieces}
use Rattle.midi_wire.specs.Readings.{reading, rest}
use Rattle.midi_wire.proofs.Pieces.{reads-in-pieces}
use Rattle.cell_pools.specs.Pools.{most_waiting}
use Rattle.seq_state.specs.declared.input.Command.TheVariants.{Bytes, Receive}
use Rattle.seq_state.specs.declared.input.Input.{Input}
use Rattle.seq_state.specs.declared.log.Delivery.{Delivery}
use Rattle.seq_state.specs.declared.log.LogEntry.{LogEntry}
use Rattle.seq_state.specs.declared.log.LogEntry.TheVariants.{Delivered, Replied}
use Rattle.seq_state.specs.Laws.{deliveries_of}
use Rattle.seq_state.specs.State.{State, start}
use Rattle.seq_state.specs.Step.{settle, step, log_from, plain, state_after}
use Rattle.tool_text.specs.Stream.{message_lines}
use Rattle.tool_text.specs.Thru.{input_at_start, pieces, passage, passing, passage_line, thru_line, thru_text, fed_stream, IsJoined}
use Rattle.tool_text.proofs.Cut.{AreShort, pieces-short, pieces-whole}
use Rattle.tool_text.proofs.Fed.{came_lines, fed_comes, none_more, passed_joined, passed_stream}
use Rattle.tool_text.proofs.Joined.{come, whole, none-due, joining-comes, whole-joined, whole-stream}
use Rattle.tool_text.proofs.Room.{came}

-- ---- the deliveries of a log

of_delivered : (ds : List Delivery) (log : List LogEntry) → deliveries_of (map Delivered ds ++ log) ≡ ds ++ deliveries_of log
of_delivered [] log = refl
of_delivered (d ∷ ds) log = ap (λ es. d ∷ es) (of_delivered ds log)

of_last : (ds : List Delivery) → deliveries_of (map Delivered ds) ≡ ds
of_last [] = refl
of_last (d ∷ ds) = ap (λ es. d ∷ es) (of_last ds)

of_log : (s : State) (place : ℕ) (inputs : List Input) → deliveries_of (log_from [] s place inputs 0) ≡ come s inputs
of_log s place [] = of_last (settle s 0).delivered
of_log s place (i ∷ inputs) =
    of_delivered (step [] s i).delivered (Replied place i.moment i.actor (step [] s i).reply ∷ log_from [] (step [] s i).state (place + 1) inputs 0)
    ∙ ap (λ ds. (step [] s i).delivered ++ ds) (of_log (step [] s i).state (place + 1) inputs)

-- ---- the whole run

-- what comes of pieces is the messages that they complete
pieces-come : (ps : List (List ℕ)) (s : State) → AreShort ps → IsJoined s → come s (flat_map passage ps) ≡ map came (reading_of_pieces (fed_stream s) ps)
pieces-come [] s short j = none-due s j.pending
pieces-come (p ∷ ps) s short j =
    let ms : List (List ℕ) = reading (fed_stream s ++ p) in
    let after : State = state_after [] s (passage p) in
    let more : List Delivery = come after (flat_map passage ps) in
    ap (λ ds. ds ++ ((step [] (step [] s (input_at_start 128 (Bytes 0 p))).state (input_at_start 129 (Receive most_waiting))).delivered ++ more)) (fed_comes s p j short.0)
    ∙ ap (λ ds. map came ms ++ (ds ++ more)) (none_more s p j short.0)
    ∙ ap (λ ds. map came ms ++ ds) (pieces-come ps after short.1 (passed_joined s p j short.0))
    ∙ ap (λ r. map came ms ++ map came (reading_of_pieces r ps)) (passed_stream s p j short.0)
    ∙ sym (map-append came ms (reading_of_pieces (rest (fed_stream s ++ p)) ps))

-- what comes to ports is the messages of the stream, each once
run_delivers : (bytes : List ℕ) → deliveries_of (plain [] (passing bytes) 0) ≡ map came (reading bytes)
run_delivers bytes =
    of_log start 0 (passing bytes)
    ∙ joining-comes (flat_map passage (pieces bytes))
    ∙ pieces-come (pieces bytes) whole (pieces-short bytes) whole-joined
    ∙ ap (λ r. map came (reading_of_pieces r (pieces bytes))) whole-stream
    ∙ ap (map came) (reads-in-pieces (pieces bytes))
    ∙ ap (λ b. map came (reading b)) (pieces-whole bytes)

pub thru_lines : (bytes : List ℕ) → thru_text bytes ≡ message_lines thru_line bytes
unfolding thru_text
thru_lines bytes = ap (flat_map passage_line) (run_delivers bytes) ∙ came_lines (reading bytes)

-- a stream of no bytes has no lines
pub no_lines : (line : List ℕ → List ℕ) → message_lines line [] ≡ []
unfolding reading
no_lines line = refl
