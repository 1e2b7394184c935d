use Rattle.std.proofs.Common.{sym, subst}
use Rattle.seq_sending.specs.KeptCounts.{AreCounts}
use Rattle.seq_sending.proofs.Classes.{class-counts}
use Rattle.seq_sending.proofs.counted.send_counted.Goals as goal

pub send_known-requires-clause-counts : goal.send_known-requires-clause-counts
send_known-requires-clause-counts c =
    let a = c.args in
    subst (λ ts. AreCounts a.clients.now.clients a.graph.now ts a.message.now c.in-Some.counts.now) (sym c.targets-targets.ensures)
    (c.in-Some.ensures a.clients.now.clients a.graph.now c.requires.counts a.message.now (sym c.of-class.ensures))

pub returns-in_err-insert-in-Ok-clause-counts : goal.returns-in_err-insert-in-Ok-clause-counts
returns-in_err-insert-in-Ok-clause-counts c =
    let a = c.args in
    let counts = c.in-Ok.counts in
    c.in_err-insert-in-Ok.ensures a.clients.now.clients a.graph.now
    (class-counts a.clients.now.clients a.graph.now _ a.message.now counts _ c.of-class.ensures
    (subst (λ ts. AreCounts a.clients.now.clients a.graph.now ts a.message.now counts) c.targets-targets.ensures c.in-Ok.ensures))
    c.requires.counts

pub returns-in_ok-insert-in-Ok-clause-counts : goal.returns-in_ok-insert-in-Ok-clause-counts
returns-in_ok-insert-in-Ok-clause-counts c =
    let a = c.args in
    let counts = c.in-Ok.counts in
    c.in_ok-insert-in-Ok.ensures a.clients.now.clients a.graph.now
    (class-counts a.clients.now.clients a.graph.now _ a.message.now counts _ c.of-class.ensures
    (subst (λ ts. AreCounts a.clients.now.clients a.graph.now ts a.message.now counts) c.targets-targets.ensures c.in-Ok.ensures))
    c.requires.counts
