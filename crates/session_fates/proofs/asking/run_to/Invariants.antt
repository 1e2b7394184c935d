use Rattle.std.proofs.Common.{◌≡◌, List, false, take}
use Rattle.smf_grammar.specs.Played.{PlayedFile}
use Rattle.seq_state.specs.State.{start}
use Rattle.seq_state.specs.Step.{state_after}
use Rattle.seq_engine.proofs.Logs.{moment_after}
use Rattle.session_fates.proofs.asking.run_to.Given as goal

-- the engine stands where the inputs so far have brought it
abbrev pub invariant-loop-input : goal.invariant-loop-input
invariant-loop-input g l =
    let fs : List PlayedFile = l.fn.engine.files in
    l.engine ≡ record { files = fs; state = state_after fs start (take l.input-index l.inputs); moment = moment_after 0 (take l.input-index l.inputs); steps = l.input-index; failed = false }
