use Rattle.std.proofs.Common.{◌≡◌, ℕ, Bool, ◌+◌, ◌≤◌, ◌↔◌, List, true, false, take, get_or, ap, sym, subst, ◌∙◌, arith}
use Rattle.seq_state.specs.declared.input.Input.{Input}
use Rattle.smf_grammar.specs.Played.{PlayedFile}
use Rattle.seq_state.specs.State.{State, start}
use Rattle.seq_state.specs.Step.{step, state_after, IsRefusal}
use Rattle.seq_engine.specs.Seen.{Seen}
use Rattle.seq_engine.proofs.Logs.{moment_after, moment_more, next_in_time, state_more}
use Rattle.seq_circle.specs.Least.{is_member}
use Rattle.session_circle.proofs.Reached.{reached_when, free_when, none_more, none_at_all, first_found}
use Rattle.session_circle.proofs.closing.first_reach_on.Goals as goal

pub refuses-requires-clause-in_time : goal.refuses-requires-clause-in_time
refuses-requires-clause-in_time g c =
    let inputs = c.args.inputs.now in
    let k = c.loop-place.place in
    let x = c.index-inputs-place.result in
    let stands : c.loop-place.engine.moment ≡ moment_after 0 (take k inputs) = ap (λ (e : Seen). e.moment) c.loop-place.invariant.stands in
    let is : x.moment ≡ (get_or inputs k x).moment = ap (λ (y : Input). y.moment) c.index-inputs-place.is in
    let in_time : moment_after 0 (take k inputs) ≤ (get_or inputs k x).moment = next_in_time inputs c.requires.timed.0 k x c.requires.timed.1 c.loop-place-test.true in
    omega arith

-- what the engine tells of an input, said of the run in which it stands
told_of_run : (engine : Seen) (fs : List PlayedFile) (s : State) (moment steps : ℕ) (x : Input) (refused : Bool) → engine ≡ record { files = fs; state = s; moment = moment; steps = steps; failed = false } →
    (refused ≡ true) ↔ IsRefusal (step engine.files engine.state x).reply → (refused ≡ true) ↔ IsRefusal (step fs s x).reply
told_of_run engine fs s moment steps x refused e h =
    let run : Seen = record { files = fs; state = s; moment = moment; steps = steps; failed = false } in
    subst (λ (r : Seen). (refused ≡ true) ↔ IsRefusal (step r.files r.state x).reply) {y = run} e h

pub returns-then-is_reached : goal.returns-then-is_reached
returns-then-is_reached g c =
    let inputs = c.args.inputs.now in
    let fs : List PlayedFile = c.args.engine.now.files in
    let k = c.loop-place.place in
    let x = c.index-inputs-place.result in
    let s : State = state_after fs start (take k inputs) in
    first_found c.args.owner (is_member c.args.owner c.args.joined.now) fs inputs k x c.loop-place-test.true c.index-inputs-place.is c.loop-place.invariant.none
    (reached_when c.args.owner (is_member c.args.owner c.args.joined.now) fs x (step fs s x).reply c.in_ok-refused.refused c.is_reached.result
    (told_of_run c.loop-place.engine fs s (moment_after 0 (take k inputs)) k x c.in_ok-refused.refused c.loop-place.invariant.stands c.in_ok-refused.ensures.refused) c.is_reached.ensures c.if-is_reached.true)

pub loop-place-preserved : goal.loop-place-preserved
loop-place-preserved g c =
    let inputs = c.args.inputs.now in
    let member : ℕ → Bool = is_member c.args.owner c.args.joined.now in
    let fs : List PlayedFile = c.args.engine.now.files in
    let k = c.loop-place.place in
    let x = c.index-inputs-place.result in
    let y : Input = get_or inputs k x in
    let was = c.loop-place.invariant.stands in
    let s : State = state_after fs start (take k inputs) in
    let tells = told_of_run c.loop-place.engine fs s (moment_after 0 (take k inputs)) k x c.in_ok-refused.refused was c.in_ok-refused.ensures.refused in
    let seen : State → ℕ → Seen = λ t m. record { files = fs; state = t; moment = m; steps = k + 1; failed = false } in
    record {
      stands =
          c.in_ok-refused.ensures.state
          ∙ ap (λ (e : Seen). let next : Seen = record e { state = (step e.files e.state x).state; moment = x.moment; steps = e.steps + 1 } in next) was
          ∙ ap (λ (z : Input). seen (step fs s z).state z.moment) c.index-inputs-place.is
          ∙ ap (λ t. seen t y.moment) (sym (state_more fs inputs k x c.loop-place-test.true))
          ∙ ap (seen (state_after fs start (take (k + 1) inputs))) (sym (moment_more inputs k x c.loop-place-test.true));
      none =
          none_more c.args.owner member fs inputs k x c.loop-place-test.true c.index-inputs-place.is c.loop-place.invariant.none
          (free_when c.args.owner member fs x (step fs s x).reply c.in_ok-refused.refused c.is_reached.result tells c.is_reached.ensures c.if-is_reached.false);
    }

pub returns : goal.returns
returns g c =
    none_at_all c.args.owner (is_member c.args.owner c.args.joined.now) c.args.engine.now.files c.args.inputs.now c.loop-place.place (omega (arith, c.loop-place-test.false)) c.loop-place.invariant.none
