use Rattle.std.proofs.Common.{◌++◌, sym, ap, ◌∙◌, append-nil, arith}
use Rattle.std.proofs.lemmas.List.{drop_all}
use Rattle.seq_state.specs.Step.{pools_after, copies_with_room}
use Rattle.seq_sending.specs.Ways.{copies_by_branch, copies_by_branches}
use Rattle.seq_sending.proofs.Sent.{sent-one}
use Rattle.seq_sending.proofs.sending.send_parted.Goals as goal

pub loop-branch-preserved : goal.loop-branch-preserved
loop-branch-preserved g c =
    let a = c.args in
    let l = c.loop-branch in
    let sent = c.in_ok-send_by_branch.ensures in
    let branch = c.branch-item.result in
    let both = sent-one (copies_by_branch a.moment (g.M.Carried.bytes a.message)) a.branches.now l.branch-index branch _ c.loop-branch-test.true c.branch-item.is
    (ap (λ m. copies_by_branch a.moment m branch) (sym c.in_ok-message.ensures)) l.clients.pools c.send_by_branch.new.clients.pools _ l.out.items c.send_by_branch.new.out.items _
    sent.pools sent.sent l.invariant.pools l.invariant.sent in
    record { clients = sent.clients ∙ l.invariant.clients; pools = both.0; sent = both.1; room = omega (arith, l.invariant.room, sent.one, sent.capacity) }

pub returns-clause-pools : goal.returns-clause-pools
returns-clause-pools g c =
    let a = c.args in
    let l = c.loop-branch in
    ap (λ bs. pools_after l.clients.pools (copies_by_branches a.moment (g.M.Carried.bytes a.message) bs)) (sym (drop_all l.branch-index a.branches.now c.loop-branch-test.false)) ∙ l.invariant.pools

pub returns-clause-sent : goal.returns-clause-sent
returns-clause-sent g c =
    let a = c.args in
    let l = c.loop-branch in
    sym (append-nil l.out.items)
    ∙ ap (λ bs. l.out.items ++ copies_with_room l.clients.pools (copies_by_branches a.moment (g.M.Carried.bytes a.message) bs)) (sym (drop_all l.branch-index a.branches.now c.loop-branch-test.false)) ∙ l.invariant.sent
