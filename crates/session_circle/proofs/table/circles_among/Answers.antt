use Rattle.std.proofs.Common.{◌≡◌, ◌+◌, ◌∙◌, [], ◌∷◌, ◌++◌, ap, sym, subst, take, refl}
use Rattle.std.proofs.lemmas.List.{take_more}
use Rattle.seq_session.specs.declared.source.Script.{Script}
use Rattle.session_circle.specs.declared.table.OwnedCircle.{OwnedCircle}
use Rattle.session_circle.specs.Found.{AreFoundAmong}
use Rattle.session_circle.proofs.Circles.{found_more}
use Rattle.session_circle.proofs.table.circles_among.Goals as goal

pub loop-script-preserved : goal.loop-script-preserved
loop-script-preserved c =
    let s : Script = c.script-item.result in
    let one : OwnedCircle = record { owner = s.client; circle = c.in_ok-circle.circle } in
    let f = c.in_ok-circle.ensures in
    let next : take (c.loop-script.script-index + 1) c.args.scripts.now ≡ take c.loop-script.script-index c.args.scripts.now ++ s ∷ [] =
    take_more c.args.scripts.now c.loop-script.script-index s c.loop-script-test.true ∙ ap (λ x. take c.loop-script.script-index c.args.scripts.now ++ x ∷ []) (sym c.script-item.is) in
    let more : AreFoundAmong c.args.inputs.now (take c.loop-script.script-index c.args.scripts.now ++ s ∷ []) (c.loop-script.circles.items ++ one ∷ []) =
    found_more c.args.inputs.now (take c.loop-script.script-index c.args.scripts.now) c.loop-script.circles.items s one c.loop-script.invariant refl
    (record {
      least = f.least;
      openings_are = f.openings;
      apart_are = f.apart;
      shut = f.shut;
      none_is_shut = f.open;
    }) in
    subst (λ ss. AreFoundAmong c.args.inputs.now ss c.push.new.self.items) (sym next)
    (subst (λ cs. AreFoundAmong c.args.inputs.now (take c.loop-script.script-index c.args.scripts.now ++ s ∷ []) cs) (sym c.in_ok-push.ensures.items) more)
