use Rattle.seq_patchbay.specs.Leaving.{copies_of_all}
use Rattle.seq_state.specs.Step.{pools_after, copies_with_room}
use Rattle.std.proofs.Common.{ℕ, ◌++◌, List, ap, ◌∙◌}
use Rattle.std.specs.FinMap.{get}
use Rattle.midi_wire.specs.Readings.{reading}
use Rattle.seq_state.specs.Effect.{port_of, fed_of}
use Rattle.seq_commands.specs.Whole.{clients_of}
use Rattle.seq_commands.proofs.SentNow.{bytes-accepted, bytes-kept, bytes-sent}
use Rattle.seq_commands.proofs.sequencer.Sequencer.bytes.Goals as goal

pub feed-requires : goal.feed-requires
feed-requires c = bytes-accepted c.args.self.now c.args.turn c.args.port c.args.bytes.now c.requires.accepted

pub returns-clause-gives : goal.returns-clause-gives
returns-clause-gives c =
    let a = c.args in
    let s = a.self.now in
    let more : List (List ℕ) = reading (fed_of (port_of (get (clients_of s) a.turn.actor) a.port) ++ a.bytes.now) in
    let told = c.as_slice.ensures.value ∙ c.in_ok-count.ensures.told ∙ ap (λ ms. ms ++ more) c.new-messages.ensures.items in
    let fed = c.feed.new.self.clients in
    bytes-kept s a.turn a.port a.bytes.now c.feed.new.self.clients c.send_all.new.self.clients c.send_all.new.self.graph c.as_slice.result.now c.in_ok-count.count c.requires.accepted
    c.in_ok-count.ensures.fed told c.in_ok-count.ensures.number c.in_ok-send_all.ensures.clients (c.in_ok-send_all.ensures.graph ∙ c.in_ok-count.ensures.graph)
    (c.in_ok-send_all.ensures.pools ∙ ap (λ es. pools_after fed.pools (copies_of_all fed.clients es a.turn.moment a.turn.actor a.port c.as_slice.result.now)) c.in_ok-count.ensures.graph)

pub returns-clause-sent : goal.returns-clause-sent
returns-clause-sent c =
    let a = c.args in
    let s = a.self.now in
    let more : List (List ℕ) = reading (fed_of (port_of (get (clients_of s) a.turn.actor) a.port) ++ a.bytes.now) in
    let told = c.as_slice.ensures.value ∙ c.in_ok-count.ensures.told ∙ ap (λ ms. ms ++ more) c.new-messages.ensures.items in
    let fed = c.feed.new.self.clients in
    c.in_ok-send_all.ensures.sent
    ∙ ap (λ es. a.out.now.items ++ copies_with_room fed.pools (copies_of_all fed.clients es a.turn.moment a.turn.actor a.port c.as_slice.result.now)) c.in_ok-count.ensures.graph
    ∙ ap (λ ds. a.out.now.items ++ ds) (bytes-sent s a.turn a.port a.bytes.now fed c.as_slice.result.now c.requires.accepted c.in_ok-count.ensures.fed told)
