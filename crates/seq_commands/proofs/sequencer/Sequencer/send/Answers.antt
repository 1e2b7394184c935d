use Rattle.std.proofs.Common.{◌≡◌, ◌++◌, ap, ◌∙◌}
use Rattle.std.proofs.lemmas.Result.{on_ok_weaker}
use Rattle.memory.proofs.Outcomes.{on_ok-three}
use Rattle.seq_state.specs.Step.{pools_after, copies_with_room}
use Rattle.seq_commands.proofs.SentNow.{sent_copies, send-kept, send-sent}
use Rattle.seq_commands.proofs.sequencer.Sequencer.send.Goals as goal

pub returns-clause-gives : goal.returns-clause-gives
returns-clause-gives c =
    let a = c.args in
    let e = c.send.ensures in
    let was = a.self.now.patchbay.clients.pools in
    let same : c.in_ok-message.message ≡ a.message.now = c.in_ok-message.ensures.ok in
    on_ok-three c.send.result (λ clients edges pools. send-kept a.self.now a.turn a.port a.message.now c.send.new.self.clients c.send.new.self.graph c.requires.accepted clients edges
    (pools ∙ ap (λ m. pools_after was (sent_copies a.self.now a.turn a.port m)) same)) e.clients e.edges e.pools

pub returns-clause-sent : goal.returns-clause-sent
returns-clause-sent c =
    let a = c.args in
    let was = a.self.now.patchbay.clients.pools in
    let same : c.in_ok-message.message ≡ a.message.now = c.in_ok-message.ensures.ok in
    on_ok_weaker c.send.result (λ e. e ∙ ap (λ m. a.out.now.items ++ copies_with_room was (sent_copies a.self.now a.turn a.port m)) same
    ∙ ap (λ ds. a.out.now.items ++ ds) (send-sent a.self.now a.turn a.port a.message.now c.requires.accepted)) c.send.ensures.sent
