use Rattle.std.proofs.Common.{refl}
use Rattle.std.proofs.lemmas.Result.{on_ok_weaker}
use Rattle.session_live.specs.Lines.{Skipped}
use Rattle.session_live.specs.Talk.{next_number}
use Rattle.session_live.proofs.Told.{told-by, heard-skipped, on_ok-two, on_ok-heard}
use Rattle.session_live.proofs.talk.Talk.skip.Goals as goal

pub returns-clause-heard : goal.returns-clause-heard
returns-clause-heard g c =
    on_ok-heard _ _ c.skip.result (λ h s a. on_ok-two c.skip.result (λ e k. heard-skipped _ _ _ _ h s a _ _ _ c.args.client.now (next_number h c.args.client.now) c.args.why e k) c.skip.ensures.engine (c.skip.ensures.counts h a.counts))

pub returns-clause-text : goal.returns-clause-text
returns-clause-text g c =
    on_ok-heard _ _ c.skip.result (λ h s a.
    on_ok_weaker c.skip.result (λ t. told-by _ _ _ _ h s a (Skipped c.args.client.now (next_number h c.args.client.now) c.args.why) (Skipped c.args.client.now (next_number h c.args.client.now) c.args.why) refl _ _ t) (c.skip.ensures.text h a.counts))
