use Rattle.std.proofs.Common.{◌<◌, ◌≤◌, ◌∙◌, length, ap, sym, arith}
use Rattle.seq_settle.specs.Lists.{list_at}
use Rattle.seq_settle.proofs.Listings.{row-read, row-past, row-others}
use Rattle.seq_settle.proofs.lists.QueueLists.take.Goals as goal

pub returns-then-row-len-clause-taken : goal.returns-then-row-len-clause-taken
returns-then-row-len-clause-taken c =
    let past : length c.self.inside.rows.items ≤ c.args.row = omega arith in
    c.new.ensures.items ∙ sym (row-past c.self.inside.rows.items c.args.row past) ∙ ap (λ ls. list_at ls c.args.row) c.self.view_is

pub returns-clause-taken : goal.returns-clause-taken
returns-clause-taken c =
    let there : c.args.row < length c.self.inside.rows.items = omega arith in
    ap (λ v. v.items) c.replace.ensures.value ∙ row-read c.self.inside.rows.items c.args.row c.index_mut.result.now there c.index_mut.ensures.value
    ∙ ap (λ ls. list_at ls c.args.row) c.self.view_is

pub returns-clause-others : goal.returns-clause-others
returns-clause-others c = λ r other. row-others c.self.inside.rows.items c.args.row r c.replace.new.dest other ∙ ap (λ ls. list_at ls r) c.self.view_is
