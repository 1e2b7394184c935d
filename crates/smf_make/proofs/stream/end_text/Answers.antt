use Rattle.std.proofs.Common.{◌≡◌, ◌∙◌, rules, sym, subst}
use Rattle.std.specs.Prelude.{Err, IfErr}
use Rattle.std.proofs.lemmas.Result.{IfOk-weaker, IfErr-weaker}
use Rattle.smf_make.specs.declared.fault.MakeFault.{MakeFault}
use Rattle.smf_make.specs.SaidFiles.{said_file}
use Rattle.smf_make.proofs.Streaming.{none-of, made-there, unfinished-there, last-refused, made-after-last, unfinished-after-last}
use Rattle.smf_make.proofs.stream.end_text.Goals as goal

pub returns-then-is_empty-clause-made : goal.returns-then-is_empty-clause-made
returns-then-is_empty-clause-made c =
    let none = none-of c.args.kept.now (sym c.is_empty.ensures ∙ c.if-is_empty.true) in
    IfOk-weaker c.finish.result _ _ (λ bytes finished text w small. made-there c.args.maker c.args.kept.now text w small none bytes.items finished) c.finish.ensures.ended

pub returns-then-is_empty-clause-refused : goal.returns-then-is_empty-clause-refused
returns-then-is_empty-clause-refused c =
    let none = none-of c.args.kept.now (sym c.is_empty.ensures ∙ c.if-is_empty.true) in
    IfErr-weaker c.finish.result _ _ (λ fault unfinished text w small known. unfinished-there c.args.maker c.args.kept.now text w small none fault unfinished) c.finish.ensures.unended

pub returns-in_err-line-clause-refused : goal.returns-in_err-line-clause-refused
returns-in_err-line-clause-refused c =
    let only : IfErr c.from_residual.result (λ x. x ≡ c.in_err-line.field-0.0) = search rules in
    IfErr-weaker c.from_residual.result _ _ (λ fault is text w small known. subst (λ (x : MakeFault). said_file text ≡ Err x) (sym is)
    (last-refused c.args.maker c.args.kept.now text w small (sym c.is_empty.ensures ∙ c.if-is_empty.false) c.in_err-line.field-0.0 c.in_err-line.ensures.refused (λ e. known (is ∙ e)))) only

pub returns-clause-made : goal.returns-clause-made
returns-clause-made c =
    IfOk-weaker c.finish-2.result _ _ (λ bytes finished text w small. made-after-last c.args.maker c.args.kept.now text w small (sym c.is_empty.ensures ∙ c.if-is_empty.false) c.in_ok-line.field-0 bytes.items c.in_ok-line.ensures.taken finished) c.finish-2.ensures.ended

pub returns-clause-refused : goal.returns-clause-refused
returns-clause-refused c =
    IfErr-weaker c.finish-2.result _ _ (λ fault unfinished text w small known. unfinished-after-last c.args.maker c.args.kept.now text w small (sym c.is_empty.ensures ∙ c.if-is_empty.false) c.in_ok-line.field-0 fault c.in_ok-line.ensures.taken unfinished) c.finish-2.ensures.unended
