use Rattle.std.proofs.Common.{◌≡◌, List, map, false, take}
use Rattle.smf_grammar.specs.Played.{PlayedFile}
use Rattle.seq_state.specs.State.{start}
use Rattle.seq_state.specs.Step.{state_after}
use Rattle.seq_engine.proofs.Logs.{moment_after}
use Rattle.seq_session.proofs.SoFar.{AreSoFar}
use Rattle.seq_session.proofs.logging.push_run.Given as goal

-- the engine stands where the inputs so far have brought it, and the texts are the logs so far
abbrev pub invariant-loop-index : goal.invariant-loop-index
invariant-loop-index g l =
    let fs : List PlayedFile = l.fn.engine.files in
    record {
      stands : l.engine ≡ record { files = fs; state = state_after fs start (take l.index l.inputs); moment = moment_after 0 (take l.index l.inputs); steps = l.index; failed = false };
      so_far : AreSoFar l.seating.reads.now l.seating.lines.now fs l.inputs l.until l.index (map (λ t. t.items) l.texts.items);
    }
