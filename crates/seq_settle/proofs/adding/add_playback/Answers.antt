use Rattle.std.proofs.Common.{◌≡◌, Some, refl, sym, ap, ◌∙◌}
use Rattle.std.specs.FinMap.{insert}
use Rattle.std.proofs.lemmas.Result.{on_ok_weaker}
use Rattle.cell_pools.specs.Cells.{Store, size_of}
use Rattle.seq_state.specs.State.{with_entry}
use Rattle.seq_settle.specs.Cells.{RankedPlayback, key_of}
use Rattle.seq_settle.specs.Sends.{key_of_head, head_of, new_left}
use Rattle.seq_settle.proofs.Added.{none_added, added_tasks, added_cells, added_timed, added_fresh, sizes-with}
use Rattle.seq_settle.proofs.NewKeys.{key_of_head-is}
use Rattle.seq_settle.proofs.adding.add_playback.Goals as goal

pub returns-in_default-clause-added : goal.returns-in_default-clause-added
returns-in_default-clause-added g c =
    let a = c.args.accepted in
    none_added c.args.cells.now.cells c.args.rank a.client a.port a.queue a.moment a.events c.requires.cells (sym c.first_due.ensures ∙ c.in_default.is)

pub add_key-requires-clause-free : goal.add_key-requires-clause-free
add_key-requires-clause-free g c =
    let a = c.args.accepted in
    let l : RankedPlayback = new_left c.args.rank a.port a.queue a.moment a.events in
    let added : c.add.new.self.cells ≡ with_entry c.args.cells.now.cells c.in-Ok.cell (Some (a.client, l)) =
    ap (λ (s : Store RankedPlayback). s.cells) c.in-Ok.ensures.ok ∙ ap (λ x. insert c.args.cells.now.cells c.in-Ok.cell (a.client, x)) c.new-playing.ensures in
    let some = sym c.first_due.ensures ∙ c.in-Some.is in
    let key_is : c.key_of-key.result ≡ key_of (g.D.Desk.clients c.args.desk.now) (Some (a.client, l)) =
    c.key_of-key.ensures ∙ ap (key_of_head (g.D.Desk.clients c.args.desk.now)) (c.head.ensures ∙ ap (λ x. head_of (a.client, x)) c.new-playing.ensures) ∙ key_of_head-is (g.D.Desk.clients c.args.desk.now) (a.client, l) in
    λ k q e f. added_fresh c.args.cells.now.cells c.add.new.self.cells c.args.rank c.in-Ok.cell a.client a.port a.queue a.moment a.events _ c.requires.cells c.requires.ordered some c.row_of-row.ensures.is_queue c.in-Ok.ensures.vacant added
    (g.D.Desk.clients c.args.desk.now) c.args.order.now (g.A.Agenda.content c.args.agenda.now) c.requires.timed k q (sym key_is ∙ e) f

pub returns-clause-added : goal.returns-clause-added
returns-clause-added g c =
    let a = c.args.accepted in
    let l : RankedPlayback = new_left c.args.rank a.port a.queue a.moment a.events in
    let added : c.add.new.self.cells ≡ with_entry c.args.cells.now.cells c.in-Ok.cell (Some (a.client, l)) =
    ap (λ (s : Store RankedPlayback). s.cells) c.in-Ok.ensures.ok ∙ ap (λ x. insert c.args.cells.now.cells c.in-Ok.cell (a.client, x)) c.new-playing.ensures in
    let some = sym c.first_due.ensures ∙ c.in-Some.is in
    on_ok_weaker c.add_key.result (λ e. added_tasks c.args.cells.now.cells c.add.new.self.cells c.args.rank c.in-Ok.cell a.client a.port a.queue a.moment a.events _ c.requires.cells c.requires.ordered some c.row_of-row.ensures.is_queue c.in-Ok.ensures.vacant added) c.add_key.ensures

pub returns-clause-cells : goal.returns-clause-cells
returns-clause-cells g c =
    let a = c.args.accepted in
    let l : RankedPlayback = new_left c.args.rank a.port a.queue a.moment a.events in
    let added : c.add.new.self.cells ≡ with_entry c.args.cells.now.cells c.in-Ok.cell (Some (a.client, l)) =
    ap (λ (s : Store RankedPlayback). s.cells) c.in-Ok.ensures.ok ∙ ap (λ x. insert c.args.cells.now.cells c.in-Ok.cell (a.client, x)) c.new-playing.ensures in
    let some = sym c.first_due.ensures ∙ c.in-Some.is in
    on_ok_weaker c.add_key.result (λ e. added_cells c.args.cells.now.cells c.add.new.self.cells c.args.rank c.in-Ok.cell a.client a.port a.queue a.moment a.events _ c.requires.cells c.requires.ordered some c.row_of-row.ensures.is_queue c.in-Ok.ensures.vacant added) c.add_key.ensures

pub returns-clause-timed : goal.returns-clause-timed
returns-clause-timed g c =
    let a = c.args.accepted in
    let l : RankedPlayback = new_left c.args.rank a.port a.queue a.moment a.events in
    let added : c.add.new.self.cells ≡ with_entry c.args.cells.now.cells c.in-Ok.cell (Some (a.client, l)) =
    ap (λ (s : Store RankedPlayback). s.cells) c.in-Ok.ensures.ok ∙ ap (λ x. insert c.args.cells.now.cells c.in-Ok.cell (a.client, x)) c.new-playing.ensures in
    let some = sym c.first_due.ensures ∙ c.in-Some.is in
    let key_is : c.key_of-key.result ≡ key_of (g.D.Desk.clients c.args.desk.now) (Some (a.client, l)) =
    c.key_of-key.ensures ∙ ap (key_of_head (g.D.Desk.clients c.args.desk.now)) (c.head.ensures ∙ ap (λ x. head_of (a.client, x)) c.new-playing.ensures) ∙ key_of_head-is (g.D.Desk.clients c.args.desk.now) (a.client, l) in
    on_ok_weaker c.add_key.result (λ e. added_timed c.args.cells.now.cells c.add.new.self.cells c.args.rank c.in-Ok.cell a.client a.port a.queue a.moment a.events _ c.requires.cells c.requires.ordered some c.row_of-row.ensures.is_queue c.in-Ok.ensures.vacant added
    (g.D.Desk.clients c.args.desk.now) c.args.order.now (g.A.Agenda.content c.args.agenda.now) c.requires.timed (record c.args.order.now { lists = c.add-2.new.self }) c.row_of-row.result c.row_of-row.ensures.row c.in_ok-add.ensures.own c.in_ok-add.ensures.kept c.in_ok-add.ensures.others refl refl
    (g.A.Agenda.content c.add_key.new.agenda) (e ∙ ap (with_entry (g.A.Agenda.content c.args.agenda.now) c.in-Ok.cell) key_is)) c.add_key.ensures

pub returns-clause-sizes : goal.returns-clause-sizes
returns-clause-sizes g c =
    on_ok_weaker c.add_key.result (λ e other. ap (λ (s : Store RankedPlayback). size_of s other) c.in-Ok.ensures.ok ∙ sizes-with c.args.cells.now c.args.accepted.client c.in-Ok.cell c.new-playing.result other) c.add_key.ensures
