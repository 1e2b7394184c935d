use Rattle.std.proofs.Common.{◌≡◌, ℕ, ◌+◌, ◌≤◌, List, false, take, get_or, ap, sym, ◌∙◌, arith}
use Rattle.seq_state.specs.declared.input.Input.{Input}
use Rattle.smf_grammar.specs.Played.{PlayedFile}
use Rattle.seq_state.specs.State.{State, start}
use Rattle.seq_state.specs.Step.{step, state_after}
use Rattle.seq_engine.specs.Seen.{Seen}
use Rattle.seq_engine.proofs.Logs.{moment_after, moment_more, next_in_time, end_in_time, state_more}
use Rattle.session_fates.proofs.asking.run_to.Goals as goal

pub step-requires-clause-in_time : goal.step-requires-clause-in_time
step-requires-clause-in_time g c =
    let inputs = c.args.inputs.now in
    let i = c.loop-input.input-index in
    let x = c.input-item.result in
    let stands : c.loop-input.engine.moment ≡ moment_after 0 (take i inputs) = ap (λ (e : Seen). e.moment) c.loop-input.invariant in
    let is : x.moment ≡ (get_or inputs i x).moment = ap (λ (y : Input). y.moment) c.input-item.is in
    let in_time : moment_after 0 (take i inputs) ≤ (get_or inputs i x).moment = next_in_time inputs c.args.moment i x c.requires.timed c.loop-input-test.true in
    omega arith

pub loop-input-preserved : goal.loop-input-preserved
loop-input-preserved g c =
    let inputs = c.args.inputs.now in
    let fs : List PlayedFile = c.args.engine.now.files in
    let i = c.loop-input.input-index in
    let x = c.input-item.result in
    let y : Input = get_or inputs i x in
    let s : State = state_after fs start (take i inputs) in
    let more : state_after fs start (take (i + 1) inputs) ≡ (step fs s y).state = state_more fs inputs i x c.loop-input-test.true in
    let seen : State → ℕ → Seen = λ t m. record { files = fs; state = t; moment = m; steps = i + 1; failed = false } in
    c.in_ok-step.ensures.state
    ∙ ap (λ (e : Seen). let next : Seen = record e { state = (step e.files e.state x).state; moment = x.moment; steps = e.steps + 1 } in next) c.loop-input.invariant
    ∙ ap (λ (z : Input). seen (step fs s z).state z.moment) c.input-item.is
    ∙ ap (λ t. seen t y.moment) (sym more)
    ∙ ap (seen (state_after fs start (take (i + 1) inputs))) (sym (moment_more inputs i x c.loop-input-test.true))

pub settle-requires : goal.settle-requires
settle-requires g c =
    let inputs = c.args.inputs.now in
    let i = c.loop-input.input-index in
    let stands : c.loop-input.engine.moment ≡ moment_after 0 (take i inputs) = ap (λ (e : Seen). e.moment) c.loop-input.invariant in
    let in_time : moment_after 0 (take i inputs) ≤ c.args.moment = end_in_time inputs c.args.moment i c.requires.timed c.loop-input-test.false in
    omega arith
