use Rattle.std.proofs.Common.{◌<◌, ◌∙◌, length, ap, sym, subst, arith}
use Rattle.std.proofs.lemmas.Grind.{common_steps}
use Rattle.seq_settle.specs.Lists.{list_at, IsIn}
use Rattle.seq_settle.proofs.Listings.{in-end, in-front, in-swept, answers-live, lists_of, row-read, row-more, row-set, row-others}
use Rattle.seq_settle.proofs.lists.QueueLists.add_swept.Goals as goal

pub loop-self-init : goal.loop-self-init
loop-self-init c = λ r. ap (λ ls. list_at ls r) c.self.view_is

pub loop-self-preserved : goal.loop-self-preserved
loop-self-preserved c = λ r.
    ap (λ vs. list_at (lists_of vs) r) c.in_ok-push.ensures.items ∙ row-more c.loop-self.self-inside.rows.items c.new.result r c.new.ensures.items ∙ c.loop-self.invariant r

pub returns-clause-own : goal.returns-clause-own
returns-clause-own c =
    let rows = c.loop-self.self-inside.rows.items in
    let there : c.args.row < length rows = omega arith in
    subst (IsIn c.args.listed) (sym (row-set rows c.args.row c.push-2.new.self there ∙ c.in_ok-push-2.ensures.items)) (in-end c.args.listed c.reserve.new.self.items)

pub returns-clause-kept : goal.returns-clause-kept
returns-clause-kept c = λ e alive m.
    let rows = c.loop-self.self-inside.rows.items in
    let old = c.index_mut-list.result.now in
    let there : c.args.row < length rows = omega arith in
    let was : IsIn e old.items = subst (IsIn e) (sym (row-read rows c.args.row old there c.index_mut-list.ensures.value ∙ c.loop-self.invariant c.args.row)) m in
    let still : IsIn e c.reserve.new.self.items =
    subst (IsIn e) (sym c.in_ok-reserve.ensures.items)
    (in-swept _ c.args.cells.now.cells _ (λ x b f call. grind (arith, common_steps, answers-live c.args.cells.now.cells x b)) old.items _ c.retain.ensures.filtered e alive was) in
    subst (IsIn e) (sym (row-set rows c.args.row c.push-2.new.self there ∙ c.in_ok-push-2.ensures.items)) (in-front e c.args.listed c.reserve.new.self.items still)

pub returns-clause-others : goal.returns-clause-others
returns-clause-others c = λ r other. row-others c.loop-self.self-inside.rows.items c.args.row r c.push-2.new.self other ∙ c.loop-self.invariant r
