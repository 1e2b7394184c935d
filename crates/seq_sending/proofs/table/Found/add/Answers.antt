use Rattle.std.proofs.Common.{◌-◌, sym, subst, ◌∙◌}
use Rattle.patch_graph.specs.Paths.{hops}
use Rattle.seq_sending.specs.Reach.{LeadsWithin, MayLeadThrough}
use Rattle.seq_sending.specs.declared.reach.Through.TheVariants.{These}
use Rattle.seq_sending.proofs.Agreeing.{through-one-more}
use Rattle.seq_sending.proofs.Reached.{where-is-ok}
use Rattle.seq_sending.proofs.table.Found.add.Goals as goal

pub returns-then-room-ne0 : goal.returns-then-room-ne0
unfolding hops
returns-then-room-ne0 c known nodes are =
    let a = c.args in
    let was = a.self.now in
    through-one-more (MayLeadThrough was.through) (MayLeadThrough (These c.look_at.new.passed)) a.clients.now.clients a.graph.now nodes was.ways c.join.new.self a.target.now
    (λ way x its. c.look_at.ensures.kept way x (subst (λ t. MayLeadThrough t way x) c.in-These.is its)) are
    (λ each. where-is-ok c.join.result _ (sym c.is_ok.ensures.value ∙ known) c.join.ensures nodes each)
    (subst (λ n. LeadsWithin (MayLeadThrough (These c.look_at.new.passed) n) a.graph.now (hops - 1) a.target.now) c.len-way.ensures (c.in-Ok.ensures.within c.if-room-ne0.true))
