use Rattle.std.proofs.Common.{◌≡◌, List, false, take}
use Rattle.smf_grammar.specs.Played.{PlayedFile}
use Rattle.seq_state.specs.State.{start}
use Rattle.seq_state.specs.Step.{state_after}
use Rattle.seq_engine.proofs.Logs.{moment_after}
use Rattle.seq_circle.specs.Least.{is_member}
use Rattle.session_circle.proofs.Reached.{NoneBefore}
use Rattle.session_circle.proofs.closing.first_reach_on.Given as goal

-- the engine stands where the inputs so far have brought it, and by none of them does a stranger reach in
abbrev pub invariant-loop-place : goal.invariant-loop-place
invariant-loop-place g l =
    let fs : List PlayedFile = l.fn.engine.files in
    record {
      stands : l.engine ≡ record { files = fs; state = state_after fs start (take l.place l.inputs); moment = moment_after 0 (take l.place l.inputs); steps = l.place; failed = false };
      none : NoneBefore l.owner (is_member l.owner l.joined) fs l.inputs l.place;
    }
