use Rattle.std.proofs.Common.{◌∙◌, ℕ, eqb, ap, sym}
use Rattle.std.specs.List.{position_or_len}
use Rattle.seq_state.specs.declared.log.LogEntry.TheVariants.{Delivered}
use Rattle.seq_session.specs.Logs.{delivery_line}
use Rattle.seq_session.proofs.Seats.{with_set_at, with_none, heard_more, delivery_heard}
use Rattle.seq_session.proofs.log.push_delivered.Goals as goal

pub returns-in_ok-push_delivery : goal.returns-in_ok-push_delivery
returns-in_ok-push_delivery c =
    let s = c.args.seating.now in
    let d = c.args.delivery.now in
    let h = c.in-Some.ensures in
    heard_more s.reads.now s.lines.now (Delivered d) _ _ _ (delivery_line d) s.rising
    (s.seated c.row_of.result c.row_of.ensures.small ∙ ap (λ (k : ℕ). position_or_len (λ r. eqb r.client k) s.reads.now) (sym c.row_of.ensures.start))
    (delivery_heard s.lines.now d)
    (with_set_at (λ t. t.items) c.args.texts.now.items _ c.in-Some.text.now c.push_delivery.new.text (delivery_line d) h.item.3.0 h.value c.in_ok-push_delivery.ensures)

pub returns-in_default : goal.returns-in_default
returns-in_default c =
    let s = c.args.seating.now in
    let d = c.args.delivery.now in
    let h = c.in_default.ensures in
    heard_more s.reads.now s.lines.now (Delivered d) _ _ _ (delivery_line d) s.rising
    (s.seated c.row_of.result c.row_of.ensures.small ∙ ap (λ (k : ℕ). position_or_len (λ r. eqb r.client k) s.reads.now) (sym c.row_of.ensures.start))
    (delivery_heard s.lines.now d)
    (with_none (λ t. t.items) c.args.texts.now.items _ (delivery_line d) h.item.3)
