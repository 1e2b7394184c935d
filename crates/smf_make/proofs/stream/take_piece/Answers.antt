use Rattle.std.proofs.Common.{◌≡◌, ◌++◌, ◌∙◌, rules, sym, subst}
use Rattle.std.specs.Prelude.{Err, IfErr}
use Rattle.std.proofs.lemmas.Result.{IfErr-weaker}
use Rattle.smf_make.specs.declared.fault.MakeFault.{MakeFault}
use Rattle.smf_make.specs.SaidFiles.{said_file}
use Rattle.smf_make.proofs.Streaming.{piece-came, line-taken, line-refused}
use Rattle.smf_make.proofs.stream.take_piece.Goals as goal

pub loop-part-init : goal.loop-part-init
loop-part-init c = record { within = λ text w small. piece-came c.args.maker.now c.args.kept.now.items c.args.piece.now text w }

pub loop-part-preserved : goal.loop-part-preserved
loop-part-preserved c = record {
  within = λ text w small.
      line-taken c.loop-part.maker c.loop-part.kept.items c.loop-part.left.now (text ++ c.args.piece.now) c.in-Some.part.now c.in-Some.rest.now (c.loop-part.invariant.within text w small) c.in-Some.ensures.unended c.in-Some.ensures.cut small
      c.end_line.new.maker c.end_line.new.kept.items c.in_ok-end_line.ensures.taken c.in_ok-end_line.ensures.empty;
}

pub returns-in_err-end_line-clause-refused : goal.returns-in_err-end_line-clause-refused
returns-in_err-end_line-clause-refused c =
    let only : IfErr c.from_residual.result (λ x. x ≡ c.in_err-end_line.field-0.0) = search rules in
    IfErr-weaker c.from_residual.result _ _ (λ fault is text w small known rest. subst (λ (x : MakeFault). said_file ((text ++ c.args.piece.now) ++ rest) ≡ Err x) (sym is)
    (line-refused c.loop-part.maker c.loop-part.kept.items c.loop-part.left.now (text ++ c.args.piece.now) c.in-Some.part.now c.in-Some.rest.now (c.loop-part.invariant.within text w small) c.in-Some.ensures.unended c.in-Some.ensures.cut small
    c.in_err-end_line.field-0.0 c.in_err-end_line.ensures.refused (λ e. known (is ∙ e)) rest)) only
