use Rattle.std.proofs.Common.{◌++◌, ◌∙◌, ap}
use Rattle.memory.proofs.Outcomes.{on_ok}
use Rattle.seq_engine.specs.Seen.{Seen}
use Rattle.seq_state.specs.Step.{step}
use Rattle.seq_settle.specs.Next.{next_moment}
use Rattle.session_live.specs.Answers.{Next, part_text}
use Rattle.session_live.proofs.Ended.{taken-text, ok-map}
use Rattle.session_live.proofs.answers.take.Goals as goal

pub returns-clause-counts : goal.returns-clause-counts
returns-clause-counts g c = λ h a. on_ok c.end.result (c.in_ok-number.ensures.counts h a)

pub returns-clause-text : goal.returns-clause-text
returns-clause-text g c = λ h a.
    ok-map c.end.result
    (λ d. taken-text c.args.input.now c.in_ok-number.number _ c.as_slice.result.now _ c.in-Ok.out.reply _ (step c.args.engine.now.files c.args.engine.now.state c.args.input.now).state c.args.text.now.items c.push_comes.new.text.items c.push_answer.new.text.items c.end.new.text.items
    c.in_ok-push_comes.ensures c.in_ok-push_answer.ensures (d ∙ ap (λ (e : Seen). c.push_answer.new.text.items ++ part_text (Next (next_moment e.state))) c.in-Ok.ensures.state)
    (c.as_slice.ensures ∙ c.in-Ok.ensures.delivered) c.in-Ok.ensures.reply (c.in_ok-number.ensures.number h a))
    c.end.ensures.text
