use Rattle.std.proofs.Common.{◌≡◌, ap, ◌∙◌}
use Rattle.std.specs.Prelude.{unwrap_or}
use Rattle.seq_settle.specs.Moments.{moment_at}
use Rattle.seq_settle.proofs.Bounds.{least-is}
use Rattle.seq_settle.proofs.waking.least_moment.Goals as goal

pub returns-clause-bound : goal.returns-clause-bound
returns-clause-bound g c = λ d e accepted m at l is.
    let same : c.in-Some.due ≡ d = cc in
    least-is (g.D.Desk.clients c.args.desk.now) c.args.head.now.queue accepted d e 18446744073709551615 c.unwrap_or.result m l (c.unwrap_or.ensures ∙ ap (λ o. unwrap_or o 18446744073709551615) c.moment_of.ensures ∙ ap (λ x. unwrap_or (moment_at (g.D.Desk.clients c.args.desk.now) c.args.head.now.queue 0 x) 18446744073709551615) same) is
