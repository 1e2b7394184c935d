use Rattle.std.proofs.Common.{[], sym, subst}
use Rattle.seq_state.specs.declared.input.Command.TheVariants.{Unlisten}
use Rattle.seq_state.specs.declared.log.Reply.TheVariants.{Done}
use Rattle.seq_state.specs.Effect.{without_listening}
use Rattle.seq_state.proofs.Effects.{step-unlistens}
use Rattle.seq_commands.specs.Whole.{state_of, step_in, IsStepTakenUnkeyed}
use Rattle.seq_commands.proofs.PoolsStep.{pool-gives}
use Rattle.seq_commands.proofs.sequencer.Sequencer.unlisten.Goals as goal

pub returns : goal.returns
returns c =
    let a = c.args in
    let did = c.unlisten.ensures in
    subst (λ edges. IsStepTakenUnkeyed a.self.now (record a.self.now { patchbay = record { clients = c.unlisten.new.self.clients; graph = edges } }) (step_in a.self.now a.turn Unlisten) Done [])
    (sym did.graph)
    (pool-gives a.self.now a.turn Unlisten without_listening c.unlisten.new.self.clients c.requires.accepted (step-unlistens a.self.now.files (state_of a.self.now) a.turn.moment a.turn.actor) did.clients)
