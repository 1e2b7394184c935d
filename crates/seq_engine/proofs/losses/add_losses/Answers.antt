use Rattle.std.proofs.Common.{◌≡◌, ◌++◌, ap, arith, ◌∙◌}
use Rattle.std.proofs.lemmas.Option.{MatchOption-at_some}
use Rattle.seq_engine.specs.Losses.{loss_in}
use Rattle.seq_engine.proofs.Lost.{added_next, added_all}
use Rattle.seq_engine.proofs.losses.add_losses.Goals as goal

pub loop-number-preserved : goal.loop-number-preserved
loop-number-preserved g c =
    let is : c.unwrap-client.result ≡ c.loop-number.number = MatchOption-at_some _ (λ n. n ≡ c.loop-number.number) _ c.unwrap-client.ensures c.new.ensures.value in
    added_next c.args.engine.now.state _ _ _ _ c.loop-number-test.true c.loop-number.invariant (c.in_ok-add_loss.ensures ∙ ap (λ k. c.loop-number.losses.items ++ loss_in c.args.engine.now.state k) is)

pub returns : goal.returns
returns g c = added_all c.args.engine.now.state _ _ _ (let l = c.loop-number-test.false in omega arith) c.loop-number.invariant
