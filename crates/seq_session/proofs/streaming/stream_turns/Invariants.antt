use Rattle.std.proofs.Common.{◌≡◌, ◌≤◌, List, map, length, false, take}
use Rattle.smf_grammar.specs.Played.{PlayedFile}
use Rattle.seq_state.specs.State.{start}
use Rattle.seq_state.specs.Step.{state_after}
use Rattle.seq_engine.proofs.Logs.{moment_after}
use Rattle.script_text.specs.declared.reading.ScriptRead.{ScriptRead}
use Rattle.seq_session.specs.Devices.{AreOpen, Wrote}
use Rattle.seq_session.specs.Streams.{emptied, texts_after}
use Rattle.seq_session.proofs.Streamed.{AreHeld, HaveSaid}
use Rattle.seq_session.proofs.streaming.stream_turns.Given as goal

-- the engine stands where the inputs so far have brought it, and what they gave is written, or held
abbrev pub invariant-loop-index : goal.invariant-loop-index
invariant-loop-index g l =
    let fs : List PlayedFile = l.fn.engine.files in
    let lines = l.seating.lines.now in
    record {
      stands : l.engine ≡ record { files = fs; state = state_after fs start (take l.index l.inputs); moment = moment_after 0 (take l.index l.inputs); steps = l.index; failed = false };
      held : (reads : List ScriptRead) (olds : List g.row.W.Denot) → l.seating.reads.now ≡ map emptied reads → Wrote g.W.Sink.HasTaken olds l.fn.logs (texts_after reads lines fs l.inputs l.until 1) →
          AreHeld g.W.Sink.HasTaken reads lines fs l.inputs l.until olds l.logs l.index (map (λ t. t.items) l.texts.items);
      said : HaveSaid l.seating.reads.now lines (map (λ t. t.items) l.texts.items);
      sound : AreOpen g.W.Sink.failed l.logs;
      logs_are : length l.logs ≡ length l.scripts;
      at_most : l.index ≤ length l.inputs;
    }
