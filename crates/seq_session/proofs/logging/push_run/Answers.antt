use Rattle.std.proofs.Common.{◌≡◌, ℕ, ◌+◌, ◌≤◌, List, false, take, get_or, ap, sym, ◌∙◌, arith}
use Rattle.std.proofs.lemmas.List.{take_all}
use Rattle.seq_state.specs.declared.input.Input.{Input}
use Rattle.smf_grammar.specs.Played.{PlayedFile}
use Rattle.seq_state.specs.State.{State, start}
use Rattle.seq_state.specs.Step.{step, settle, state_after}
use Rattle.seq_engine.specs.Seen.{Seen}
use Rattle.seq_engine.specs.Ending.{listing_of}
use Rattle.seq_engine.proofs.Ending.{settled_listing}
use Rattle.seq_engine.proofs.Logs.{moment_after, moment_more, next_in_time, end_in_time, state_more}
use Rattle.seq_session.proofs.SoFar.{first_so_far, next_so_far, all_at_end}
use Rattle.seq_session.proofs.logging.push_run.Goals as goal

pub loop-index-init : goal.loop-index-init
loop-index-init g c = record {
  stands = c.requires.begun;
  so_far = first_so_far _ _ _ c.args.inputs.now c.args.until _ c.requires.started;
}

pub step-requires-clause-in_time : goal.step-requires-clause-in_time
step-requires-clause-in_time g c =
    let inputs = c.args.inputs.now in
    let i = c.loop-index.index in
    let x = c.index-inputs-index.result in
    let stands : c.loop-index.engine.moment ≡ moment_after 0 (take i inputs) = ap (λ (e : Seen). e.moment) c.loop-index.invariant.stands in
    let is : x.moment ≡ (get_or inputs i x).moment = ap (λ (y : Input). y.moment) c.index-inputs-index.is in
    let in_time : moment_after 0 (take i inputs) ≤ (get_or inputs i x).moment = next_in_time inputs c.args.until i x c.requires.timed c.loop-index-test.true in
    omega arith

pub loop-index-preserved : goal.loop-index-preserved
loop-index-preserved g c =
    let inputs = c.args.inputs.now in
    let fs : List PlayedFile = c.args.engine.now.files in
    let i = c.loop-index.index in
    let x = c.index-inputs-index.result in
    let y : Input = get_or inputs i x in
    let was = c.loop-index.invariant.stands in
    let s : State = state_after fs start (take i inputs) in
    let more : state_after fs start (take (i + 1) inputs) ≡ (step fs s y).state = state_more fs inputs i x c.loop-index-test.true in
    let seen : State → ℕ → Seen = λ t m. record { files = fs; state = t; moment = m; steps = i + 1; failed = false } in
    record {
      stands =
          c.in_ok-out.ensures.state
          ∙ ap (λ (e : Seen). let next : Seen = record e { state = (step e.files e.state x).state; moment = x.moment; steps = e.steps + 1 } in next) was
          ∙ ap (λ (z : Input). seen (step fs s z).state z.moment) c.index-inputs-index.is
          ∙ ap (λ t. seen t y.moment) (sym more)
          ∙ ap (seen (state_after fs start (take (i + 1) inputs))) (sym (moment_more inputs i x c.loop-index-test.true));
      so_far = next_so_far _ _ fs inputs c.args.until i x _ _ c.in_ok-out.out.delivered c.in_ok-out.out.reply c.loop-index-test.true c.index-inputs-index.is c.loop-index.invariant.so_far
          (c.in_ok-out.ensures.delivered ∙ ap (λ (e : Seen). (step e.files e.state x).delivered) was)
          (c.in_ok-out.ensures.reply ∙ ap (λ (e : Seen). (step e.files e.state x).reply) was)
          c.in_ok-push_out.ensures;
    }

pub settle-requires : goal.settle-requires
settle-requires g c =
    let inputs = c.args.inputs.now in
    let i = c.loop-index.index in
    let stands : c.loop-index.engine.moment ≡ moment_after 0 (take i inputs) = ap (λ (e : Seen). e.moment) c.loop-index.invariant.stands in
    let in_time : moment_after 0 (take i inputs) ≤ c.args.until = end_in_time inputs c.args.until i c.requires.timed c.loop-index-test.false in
    omega arith

pub returns-clause-logs : goal.returns-clause-logs
returns-clause-logs g c =
    let i = c.loop-index in
    all_at_end _ _ c.args.engine.now.files c.args.inputs.now c.args.until i.index _ _ c.as_slice.result.now c.loop-index-test.false i.invariant.so_far
    (c.as_slice.ensures.value ∙ c.in_ok-last.ensures.delivered ∙ ap (λ (e : Seen). (settle e.state c.args.until).delivered) i.invariant.stands)
    c.in_ok-push_all_delivered.ensures

pub returns-clause-listing : goal.returns-clause-listing
returns-clause-listing g c =
    let inputs = c.args.inputs.now in
    let fs : List PlayedFile = c.args.engine.now.files in
    let i = c.loop-index in
    let s : State = state_after fs start (take i.index inputs) in
    ap (λ (e : Seen). listing_of e.state) c.in_ok-last.ensures.state
    ∙ ap (λ (e : Seen). listing_of (settle e.state c.args.until).state) i.invariant.stands
    ∙ settled_listing s c.args.until
    ∙ ap (λ (xs : List Input). listing_of (state_after fs start xs)) (take_all i.index inputs c.loop-index-test.false)
