use Rattle.std.proofs.Common.{◌≡◌, ◌++◌, take}
use Rattle.session_fates.specs.Told.{steps_text}
use Rattle.session_fates.proofs.text.push_steps.Given as goal

abbrev pub invariant-loop-node : goal.invariant-loop-node
invariant-loop-node l = l.text.items ≡ l.fn.text.items ++ steps_text (take l.node-index l.nodes)
