use Rattle.std.proofs.Common.{◌∙◌, ℕ, List, eqb, ap, sym}
use Rattle.std.specs.Prelude.{slice_get}
use Rattle.std.specs.List.{position_or_len}
use Rattle.seq_state.specs.declared.log.LogEntry.TheVariants.{Replied}
use Rattle.seq_session.specs.Logs.{reply_text}
use Rattle.seq_session.proofs.Seats.{with_set_at, with_none, heard_more, reply_heard}
use Rattle.seq_session.proofs.log.push_replied.Goals as goal

pub returns-in_ok-push_reply_at : goal.returns-in_ok-push_reply_at
returns-in_ok-push_reply_at c =
    let s = c.args.seating.now in
    let a = c.args in
    let text : List ℕ = reply_text a.moment (slice_get s.lines.now a.place) a.reply.now in
    let h = c.in-Some.ensures in
    heard_more s.reads.now s.lines.now (Replied a.place a.moment a.client a.reply.now) _ _ _ text s.rising
    (s.seated c.row_of.result c.row_of.ensures.small ∙ ap (λ (k : ℕ). position_or_len (λ r. eqb r.client k) s.reads.now) (sym c.row_of.ensures.start))
    (reply_heard s.lines.now a.place a.moment a.client a.reply.now)
    (with_set_at (λ t. t.items) c.args.texts.now.items _ c.in-Some.text.now c.push_reply_at.new.text text h.item.3.0 h.value c.in_ok-push_reply_at.ensures)

pub returns-in_default : goal.returns-in_default
returns-in_default c =
    let s = c.args.seating.now in
    let a = c.args in
    let text : List ℕ = reply_text a.moment (slice_get s.lines.now a.place) a.reply.now in
    let h = c.in_default.ensures in
    heard_more s.reads.now s.lines.now (Replied a.place a.moment a.client a.reply.now) _ _ _ text s.rising
    (s.seated c.row_of.result c.row_of.ensures.small ∙ ap (λ (k : ℕ). position_or_len (λ r. eqb r.client k) s.reads.now) (sym c.row_of.ensures.start))
    (reply_heard s.lines.now a.place a.moment a.client a.reply.now)
    (with_none (λ t. t.items) c.args.texts.now.items _ text h.item.3)
