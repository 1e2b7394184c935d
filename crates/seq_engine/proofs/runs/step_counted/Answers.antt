use Rattle.std.proofs.Common.{◌+◌, List, ◌++◌, ap, ◌∙◌}
use Rattle.seq_state.specs.declared.log.Delivery.{Delivery}
use Rattle.seq_state.specs.State.{State}
use Rattle.seq_state.specs.Step.{step, settle}
use Rattle.seq_engine.specs.Seen.{Seen}
use Rattle.seq_engine.proofs.Lost.{same_state, same_reply, same_delivered}
use Rattle.seq_engine.proofs.runs.step_counted.Goals as goal

pub returns-clause-state : goal.returns-clause-state
returns-clause-state g c =
    let i = c.args.input.now in
    let seen : State → Seen = λ t. record { files = c.args.engine.now.files; state = t; moment = i.moment; steps = c.args.engine.now.steps + 1; failed = c.args.engine.now.failed } in
    c.in_ok-reply.ensures.state
    ∙ ap (λ (e : Seen). let next : Seen = record e { state = (step e.files e.state i).state; moment = i.moment; steps = e.steps + 1 } in next) c.in_ok-delivered.ensures.state
    ∙ ap seen (same_state c.args.engine.now.files c.args.engine.now.state i)

pub returns-clause-reply : goal.returns-clause-reply
returns-clause-reply g c =
    let i = c.args.input.now in
    c.in_ok-reply.ensures.reply
    ∙ ap (λ (e : Seen). (step e.files e.state i).reply) c.in_ok-delivered.ensures.state
    ∙ same_reply c.args.engine.now.files c.args.engine.now.state i

pub returns-clause-delivered : goal.returns-clause-delivered
returns-clause-delivered g c =
    let i = c.args.input.now in
    let first : List Delivery = (settle c.args.engine.now.state i.moment).delivered in
    c.new.ensures ∙ c.in_ok-append.ensures
    ∙ ap (λ ds. ds ++ c.into_vec.result.items) c.in_ok-delivered.ensures.delivered
    ∙ ap (λ ds. first ++ ds) (c.into_vec.ensures ∙ c.in_ok-reply.ensures.delivered ∙ ap (λ (e : Seen). (step e.files e.state i).delivered) c.in_ok-delivered.ensures.state)
    ∙ same_delivered c.args.engine.now.files c.args.engine.now.state i
