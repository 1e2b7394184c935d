use Rattle.std.proofs.Common.{◌≡◌, ◌∙◌, rules, sym, subst}
use Rattle.std.specs.Prelude.{Err, IfErr}
use Rattle.smf_make.specs.declared.fault.MakeFault.{MakeFault}
use Rattle.smf_make.specs.SaidFiles.{said_file}
use Rattle.std.proofs.lemmas.Result.{IfOk-weaker, IfErr-weaker}
use Rattle.smf_make.proofs.Taken.{all-to-come, next-to-come, line-refused, made-whole, left-unfinished}
use Rattle.smf_make.proofs.make.make_file.Goals as goal

pub loop-line-init : goal.loop-line-init
loop-line-init c = record { coming = all-to-come c.new-maker.result c.args.text.now c.new-maker.ensures }

pub loop-line-preserved : goal.loop-line-preserved
loop-line-preserved c = record {
  coming = next-to-come c.loop-line.maker c.loop-line.left.now c.args.text.now c.in-Some.line.now c.in-Some.rest.now c.loop-line.invariant.coming c.in-Some.ensures.some c.in-Some.ensures.shorter c.are_few.ensures c.take.new.self c.in_ok-take.ensures.taken;
}

pub returns-in_err-take-clause-err : goal.returns-in_err-take-clause-err
returns-in_err-take-clause-err c =
    let only : IfErr c.from_residual.result (λ x. x ≡ c.in_err-take.field-0.0) = search rules in
    IfErr-weaker c.from_residual.result _ _ (λ fault is known. subst (λ (x : MakeFault). said_file c.args.text.now ≡ Err x) (sym is) (line-refused c.loop-line.maker c.loop-line.left.now c.args.text.now c.in-Some.line.now c.in-Some.rest.now c.loop-line.invariant.coming c.in-Some.ensures.some c.in-Some.ensures.shorter c.are_few.ensures c.in_err-take.field-0.0 c.in_err-take.ensures.refused (λ e. known (is ∙ e)))) only

pub returns-clause-ok : goal.returns-clause-ok
returns-clause-ok c =
    IfOk-weaker c.finish.result _ _ (λ bytes finished. made-whole c.loop-line.maker c.loop-line.left.now c.args.text.now c.loop-line.invariant.coming c.in_default.ensures.none bytes.items finished) c.finish.ensures.ended

pub returns-clause-err : goal.returns-clause-err
returns-clause-err c =
    IfErr-weaker c.finish.result _ _ (λ fault unfinished known. left-unfinished c.loop-line.maker c.loop-line.left.now c.args.text.now c.loop-line.invariant.coming c.in_default.ensures.none c.are_few.ensures fault unfinished) c.finish.ensures.unended
