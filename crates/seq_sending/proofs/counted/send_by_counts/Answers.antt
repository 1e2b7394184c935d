use Rattle.std.proofs.Common.{◌≡◌, ◌++◌, append-nil, sym, ap, ◌∙◌}
use Rattle.patch_graph.specs.Paths.{hops}
use Rattle.seq_state.specs.Step.{pools_after, copies_with_room}
use Rattle.seq_sending.specs.Carrying.{copies_onward}
use Rattle.seq_sending.proofs.Losing.{walk-after-losses, nothing-to-walk}
use Rattle.seq_sending.proofs.Reached.{on-ok}
use Rattle.seq_sending.proofs.counted.send_by_counts.Goals as goal

pub returns-clause-pools : goal.returns-clause-pools
returns-clause-pools c =
    let a = c.args in
    let lose = c.lose_all.ensures in
    let r = a.clients.now.clients in
    let was = a.clients.now.pools in
    let counted = c.lose_all.new.clients.pools in
    let all = walk-after-losses r a.graph.now a.moment a.targets.now a.message.now a.counts.now c.requires was counted lose.others c.pools_are_of_clients.ensures lose.lost in
    on-ok c.walk_in_parts.result (c.walk_in_parts.new.clients.pools ≡ pools_after counted (copies_with_room counted (copies_onward c.lose_all.new.clients.clients a.graph.now a.moment hops a.targets.now a.message.now)))
    (c.walk_in_parts.new.clients.pools ≡ pools_after was (copies_onward r a.graph.now a.moment hops a.targets.now a.message.now))
    (λ e. e ∙ ap (λ x. pools_after counted (copies_with_room counted (copies_onward x a.graph.now a.moment hops a.targets.now a.message.now))) lose.clients ∙ all.0)
    c.walk_in_parts.ensures.pools

pub returns-clause-sent : goal.returns-clause-sent
returns-clause-sent c =
    let a = c.args in
    let lose = c.lose_all.ensures in
    let r = a.clients.now.clients in
    let was = a.clients.now.pools in
    let counted = c.lose_all.new.clients.pools in
    let all = walk-after-losses r a.graph.now a.moment a.targets.now a.message.now a.counts.now c.requires was counted lose.others c.pools_are_of_clients.ensures lose.lost in
    on-ok c.walk_in_parts.result (c.walk_in_parts.new.out.items ≡ a.out.now.items ++ copies_with_room counted (copies_onward c.lose_all.new.clients.clients a.graph.now a.moment hops a.targets.now a.message.now))
    (c.walk_in_parts.new.out.items ≡ a.out.now.items ++ copies_with_room was (copies_onward r a.graph.now a.moment hops a.targets.now a.message.now))
    (λ e. e ∙ ap (λ x. a.out.now.items ++ copies_with_room counted (copies_onward x a.graph.now a.moment hops a.targets.now a.message.now)) lose.clients ∙ ap (λ ds. a.out.now.items ++ ds) all.1)
    c.walk_in_parts.ensures.sent

pub returns-then-not-finds_room-clause-pools : goal.returns-then-not-finds_room-clause-pools
returns-then-not-finds_room-clause-pools c =
    let a = c.args in
    let lose = c.lose_all.ensures in
    let r = a.clients.now.clients in
    let was = a.clients.now.pools in
    let counted = c.lose_all.new.clients.pools in
    let nobody = c.pools_are_of_clients.ensures in
    sym (ap (pools_after counted) (nothing-to-walk r a.graph.now a.moment a.targets.now a.message.now a.counts.now c.requires was counted lose.others nobody (c.finds_room.ensures c.if-not-finds_room.true)))
    ∙ (walk-after-losses r a.graph.now a.moment a.targets.now a.message.now a.counts.now c.requires was counted lose.others nobody lose.lost).0

pub returns-then-not-finds_room-clause-sent : goal.returns-then-not-finds_room-clause-sent
returns-then-not-finds_room-clause-sent c =
    let a = c.args in
    let lose = c.lose_all.ensures in
    let r = a.clients.now.clients in
    let was = a.clients.now.pools in
    let counted = c.lose_all.new.clients.pools in
    let nobody = c.pools_are_of_clients.ensures in
    sym (append-nil a.out.now.items)
    ∙ ap (λ ds. a.out.now.items ++ ds)
    (sym (nothing-to-walk r a.graph.now a.moment a.targets.now a.message.now a.counts.now c.requires was counted lose.others nobody (c.finds_room.ensures c.if-not-finds_room.true))
    ∙ (walk-after-losses r a.graph.now a.moment a.targets.now a.message.now a.counts.now c.requires was counted lose.others nobody lose.lost).1)
