use Rattle.seq_sending.specs.Reach.{MayLeadThrough}
use Rattle.seq_sending.specs.declared.reach.Through.TheVariants.{Anyone}
use Rattle.seq_sending.proofs.Agreeing.{order-anyone, order-none}
use Rattle.seq_sending.proofs.reach.reach_of.Goals as goal

pub returns-then-left-eq0 : goal.returns-then-left-eq0
returns-then-left-eq0 c = order-anyone (MayLeadThrough Anyone) (λ way x. record {}) c.args.graph.now c.args.nodes.now

pub returns : goal.returns
returns c = c.in_ok-left.ensures c.if-left-eq0.false (order-none _ c.args.graph.now c.args.nodes.now)
