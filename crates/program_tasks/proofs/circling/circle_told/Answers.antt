use Rattle.std.proofs.Common.{◌≡◌, ◌++◌, ◌∙◌, ap}
use Rattle.session_circle.specs.Printed.{circle_text}
use Rattle.program_tasks.specs.Circles.{answer_of}
use Rattle.program_tasks.proofs.InSession.{told_unasked, told_in_session}
use Rattle.program_tasks.proofs.circling.circle_told.Goals as goal
use Rattle.program_tasks.proofs.circling.circle_told.Goals.{then-in_session+in_ok-first+in_ok-reach_text+in_ok-extend_from_slice, else-in_session}

pub returns-clause-told : goal.returns-clause-told
returns-clause-told c =
    let found = c.in_ok-found.found in
    let answered : c.answer_of-answer.result ≡ answer_of found.circle.openings.items = c.answer_of-answer.ensures ∙ ap answer_of c.as_slice.ensures.value in
    elim c.if-in_session.branch [
      | then-in_session+in_ok-first+in_ok-reach_text+in_ok-extend_from_slice w ↦
          told_in_session c.args.files.now c.args.until c.args.scripts.now c.args.owner found c.in_ok-found.ensures.found c.args.in_session c.answer_of-answer.result answered c.if-in_session.text.items
          w.if-in_session.true w.in_ok-first.first
          (ap (λ text. text.items) w.text-is ∙ w.in_ok-extend_from_slice.ensures.items
          ∙ ap (λ said. said ++ w.as_slice-then-in_session.result.now) c.in_ok-text.ensures
          ∙ ap (λ said. circle_text c.args.owner c.args.scripts.now found.merged.lines found.merged.inputs found.circle.joined.items found.circle.apart.items found.circle.openings.items ++ said) (w.as_slice-then-in_session.ensures.value ∙ w.in_ok-reach_text.ensures))
          w.in_ok-first.ensures.first w.in_ok-first.ensures.closed w.in_ok-first.ensures.not_closed w.in_ok-first.ensures.alone
      | else-in_session w ↦
          told_unasked c.args.files.now c.args.until c.args.scripts.now c.args.owner found c.in_ok-found.ensures.found c.args.in_session c.answer_of-answer.result answered c.if-in_session.text.items
          w.if-in_session.false (ap (λ text. text.items) w.text-is ∙ c.in_ok-text.ensures)
    ]
