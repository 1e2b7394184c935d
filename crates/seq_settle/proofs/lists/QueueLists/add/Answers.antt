use Rattle.std.proofs.Common.{◌<◌, ◌∙◌, length, ap, sym, subst, arith}
use Rattle.seq_settle.specs.Lists.{list_at, IsIn}
use Rattle.seq_settle.proofs.Listings.{in-end, in-front, row-read, row-set, row-others}
use Rattle.seq_settle.proofs.lists.QueueLists.add.Goals as goal

pub returns-then-len-capacity-clause-own : goal.returns-then-len-capacity-clause-own
returns-then-len-capacity-clause-own c =
    let rows = c.self.inside.rows.items in
    let there : c.args.row < length rows = omega arith in
    subst (IsIn c.args.listed) (sym (row-set rows c.args.row c.push_reserved.new.self there ∙ c.push_reserved.ensures.items)) (in-end c.args.listed c.index_mut.result.now.items)

pub returns-then-len-capacity-clause-kept : goal.returns-then-len-capacity-clause-kept
returns-then-len-capacity-clause-kept c = λ e alive m.
    let rows = c.self.inside.rows.items in
    let old = c.index_mut.result.now in
    let there : c.args.row < length rows = omega arith in
    let was : IsIn e old.items = subst (IsIn e) (sym (row-read rows c.args.row old there c.index_mut.ensures.value ∙ ap (λ ls. list_at ls c.args.row) c.self.view_is)) m in
    subst (IsIn e) (sym (row-set rows c.args.row c.push_reserved.new.self there ∙ c.push_reserved.ensures.items)) (in-front e c.args.listed old.items was)

pub returns-then-len-capacity-clause-others : goal.returns-then-len-capacity-clause-others
returns-then-len-capacity-clause-others c = λ r other. row-others c.self.inside.rows.items c.args.row r c.push_reserved.new.self other ∙ ap (λ ls. list_at ls r) c.self.view_is
