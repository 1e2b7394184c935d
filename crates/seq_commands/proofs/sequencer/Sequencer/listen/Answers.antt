use Rattle.std.proofs.Common.{[], sym, subst}
use Rattle.seq_state.specs.declared.input.Command.TheVariants.{Listen}
use Rattle.seq_state.specs.declared.log.Reply.TheVariants.{Done}
use Rattle.seq_state.specs.Effect.{with_listening}
use Rattle.seq_state.proofs.Effects.{step-listens}
use Rattle.seq_commands.specs.Whole.{state_of, step_in, IsStepTakenUnkeyed}
use Rattle.seq_commands.proofs.PoolsStep.{pool-gives}
use Rattle.seq_commands.proofs.sequencer.Sequencer.listen.Goals as goal

pub returns : goal.returns
returns c =
    let a = c.args in
    let did = c.listen.ensures in
    subst (λ edges. IsStepTakenUnkeyed a.self.now (record a.self.now { patchbay = record { clients = c.listen.new.self.clients; graph = edges } }) (step_in a.self.now a.turn Listen) Done [])
    (sym did.graph)
    (pool-gives a.self.now a.turn Listen with_listening c.listen.new.self.clients c.requires.accepted (step-listens a.self.now.files (state_of a.self.now) a.turn.moment a.turn.actor) did.clients)
