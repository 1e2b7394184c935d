use Rattle.std.proofs.Common.{◌++◌, ◌∙◌, refl, sym, ap}
use Rattle.std.proofs.lemmas.Result.{on_ok_weaker}
use Rattle.script_text.specs.declared.reading.SkipReason.TheVariants.{TooLong}
use Rattle.session_live.specs.Lines.{skipped_loose, open_line}
use Rattle.session_live.proofs.Fed.{heard_by, state_by}
use Rattle.session_live.proofs.Told.{item-long, empty-open, open-whole, open-long, ended-fed, ended-text}
use Rattle.session_live.proofs.live.end_line.Goals.{in-Some+in_ok-answer-in-Some, in-None+in_ok-answer_too_long-in-None}
use Rattle.session_live.proofs.live.end_line.Goals as goal

pub returns-then-is_empty-clause-fed : goal.returns-then-is_empty-clause-fed
returns-then-is_empty-clause-fed g c =
    let empty = c.is_empty.ensures c.if-is_empty.true in
    on_ok_weaker c.answer.result (λ k read f.
    ended-fed c.args.talk.now.files _ _ _ _ _ _ _ _ _ read c.args.part.now c.args.part.now c.requires _ f (ap (λ x. x ++ c.args.part.now) (empty-open _ _ (open_line read) empty f.line)) refl _ _
    c.answer.ensures.files (k (heard_by c.args.talk.now.files read) (state_by c.args.talk.now.files read)) empty) c.answer.ensures.heard

pub returns-then-is_empty-clause-text : goal.returns-then-is_empty-clause-text
returns-then-is_empty-clause-text g c =
    let empty = c.is_empty.ensures c.if-is_empty.true in
    on_ok_weaker c.answer.result (λ k read before f was.
    ended-text c.args.talk.now.files c.args.talk.now.files _ c.args.talk.now.engine _ c.args.talk.now.heard.said _ c.args.talk.now.heard.loose _ _ read c.args.part.now c.args.part.now c.requires _ f (ap (λ x. x ++ c.args.part.now) (empty-open _ _ (open_line read) empty f.line)) refl before _ _
    was (k (heard_by c.args.talk.now.files read) (state_by c.args.talk.now.files read))) c.answer.ensures.text

pub returns-clause-fed : goal.returns-clause-fed
returns-clause-fed g c = elim c.match-line.branch [
  | in-Some+in_ok-answer-in-Some w ↦ rw (w.talk-is) (λ read f.
      ended-fed c.args.talk.now.files _ _ _ _ _ _ _ _ _ read c.args.part.now w.in-Some.line.now c.requires _ f
      (open-whole _ _ _ (c.in_ok-keep.ensures (open_line read) f.line) w.in-Some.ensures.kept.1 ∙ sym w.in-Some.ensures.kept.0) refl _ _
      w.answer-in-Some.ensures.files (w.in_ok-answer-in-Some.ensures.heard (heard_by c.args.talk.now.files read) (state_by c.args.talk.now.files read)) c.clear.ensures)
  | in-None+in_ok-answer_too_long-in-None w ↦ rw (w.talk-is) (λ read f.
      ended-fed c.args.talk.now.files _ _ _ _ _ _ _ _ _ read c.args.part.now (open_line read ++ c.args.part.now) c.requires (skipped_loose (heard_by c.args.talk.now.files read) TooLong) f refl
      (item-long c.args.talk.now.files.names (heard_by c.args.talk.now.files read) (open_line read ++ c.args.part.now) (open-long _ _ _ (c.in_ok-keep.ensures (open_line read) f.line) w.in-None.ensures.too_long)) _ _
      w.answer_too_long.ensures.files (w.in_ok-answer_too_long-in-None.ensures.heard (heard_by c.args.talk.now.files read) (state_by c.args.talk.now.files read)) c.clear.ensures)
]

pub returns-clause-text : goal.returns-clause-text
returns-clause-text g c = elim c.match-line.branch [
  | in-Some+in_ok-answer-in-Some w ↦ rw (w.text-is) (λ read before f was.
      ended-text c.args.talk.now.files c.args.talk.now.files _ c.args.talk.now.engine _ c.args.talk.now.heard.said _ c.args.talk.now.heard.loose _ _ read c.args.part.now w.in-Some.line.now c.requires _ f
      (open-whole _ _ _ (c.in_ok-keep.ensures (open_line read) f.line) w.in-Some.ensures.kept.1 ∙ sym w.in-Some.ensures.kept.0) refl before _ _
      was (w.in_ok-answer-in-Some.ensures.text (heard_by c.args.talk.now.files read) (state_by c.args.talk.now.files read)))
  | in-None+in_ok-answer_too_long-in-None w ↦ rw (w.text-is) (λ read before f was.
      ended-text c.args.talk.now.files c.args.talk.now.files _ c.args.talk.now.engine _ c.args.talk.now.heard.said _ c.args.talk.now.heard.loose _ _ read c.args.part.now (open_line read ++ c.args.part.now) c.requires (skipped_loose (heard_by c.args.talk.now.files read) TooLong) f refl
      (item-long c.args.talk.now.files.names (heard_by c.args.talk.now.files read) (open_line read ++ c.args.part.now) (open-long _ _ _ (c.in_ok-keep.ensures (open_line read) f.line) w.in-None.ensures.too_long)) before _ _
      was (w.in_ok-answer_too_long-in-None.ensures.text (heard_by c.args.talk.now.files read) (state_by c.args.talk.now.files read)))
]
