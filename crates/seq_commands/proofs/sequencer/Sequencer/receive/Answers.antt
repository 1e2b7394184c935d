use Rattle.seq_commands.specs.Whole.{step_in, IsStepTakenUnkeyed}
use Rattle.seq_state.specs.declared.log.Reply.TheVariants.{Received}
use Rattle.seq_state.specs.declared.input.Command.TheVariants.{Receive}
use Rattle.std.proofs.Common.{◌∙◌, [], sym, subst}
use Rattle.seq_commands.proofs.PoolsStep.{receive-gives}
use Rattle.seq_commands.proofs.sequencer.Sequencer.receive.Goals as goal

pub returns : goal.returns
returns c =
    let a = c.args in
    let got = c.in_ok-items.ensures in
    subst (λ edges. IsStepTakenUnkeyed a.self.now (record a.self.now { patchbay = record { clients = c.receive.new.self.clients; graph = edges } }) (step_in a.self.now a.turn (Receive a.max)) (Received c.new.result) [])
    (sym got.graph) (receive-gives a.self.now a.turn a.max c.new.result c.receive.new.self.clients c.requires.accepted (c.new.ensures ∙ got.ok) got.left)
