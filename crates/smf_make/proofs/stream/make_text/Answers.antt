-- Each piece adds what the source gave.
use Rattle.std.proofs.Common.{◌≡◌, ◌∙◌, rules, refl, sym, subst, arith}
use Rattle.std.specs.Prelude.{IfErr}
use Rattle.std.proofs.lemmas.List.{length-take}
use Rattle.std.proofs.lemmas.Result.{IfOk-weaker, IfErr-weaker}
use Rattle.smf_make.specs.ReadInPart.{IsTextEnded, IsTextUnended}
use Rattle.smf_make.specs.Streamed.{IsTextRefused}
use Rattle.smf_make.proofs.ReadPieces.{none-read, read-more, piece-refused, text-made, text-refused, gave-few, gave-none-more, gave-too-many}
use Rattle.smf_make.proofs.stream.make_text.Goals as goal

pub pieces-init : goal.pieces-init
pieces-init g c = record {
  sound = search rules;
  space = refl;
  taken = none-read g.R.Source.HasLeft c.args.input.now c.new-maker.result c.new-kept.result.items c.new-maker.ensures c.new-kept.ensures.items;
}

pub returns-in_default-clause-bounded : goal.returns-in_default-clause-bounded
returns-in_default-clause-bounded g c = gave-none-more g.R.Source.HasLeft _ _ _ _ _ _ c.pieces.invariant.taken c.in_default.ensures.unmoved

pub returns-then-n-eq0-clause-made : goal.returns-then-n-eq0-clause-made
returns-then-n-eq0-clause-made g c =
    IfOk-weaker c.end_text.result _ _ (λ bytes ended.
    text-made g.R.Source.HasLeft _ _ _ _ _ _ c.pieces.invariant.taken _ _ c.in-Ok.ensures.gave c.if-n-eq0.true
    (c.in-Ok.ensures.ended c.if-n-eq0.true (omega (arith, length-take c.min-window.result c.pieces.piece, c.pieces.invariant.space))) bytes.items (subst (λ xs. IsTextEnded c.pieces.maker xs bytes.items) c.as_slice.ensures.value ended)) c.end_text.ensures.made

pub returns-then-n-eq0-clause-refused : goal.returns-then-n-eq0-clause-refused
returns-then-n-eq0-clause-refused g c =
    IfErr-weaker c.end_text.result _ _ (λ fault unended.
    text-refused g.R.Source.HasLeft _ _ _ _ _ _ c.pieces.invariant.taken _ _ c.in-Ok.ensures.gave c.if-n-eq0.true
    (c.in-Ok.ensures.ended c.if-n-eq0.true (omega (arith, length-take c.min-window.result c.pieces.piece, c.pieces.invariant.space))) g.R.Source.failed fault (c.in-Ok.ensures.unmarked ∙ c.pieces.invariant.sound) (subst (λ xs. IsTextUnended c.pieces.maker xs fault) c.as_slice.ensures.value unended)) c.end_text.ensures.refused

pub returns-then-n-room-clause-refused : goal.returns-then-n-room-clause-refused
returns-then-n-room-clause-refused g c =
    gave-too-many g.R.Source.HasLeft _ _ _ _ _ _ c.pieces.invariant.taken _ _ c.in-Ok.ensures.gave (omega (arith, c.in-Ok.ensures.within))
    (omega (arith, length-take c.min-window.result c.pieces.piece, c.in-Ok.ensures.within))

pub returns-then-n-room-clause-bounded : goal.returns-then-n-room-clause-bounded
returns-then-n-room-clause-bounded g c =
    gave-few g.R.Source.HasLeft _ _ _ _ _ _ c.pieces.invariant.taken _ _ c.in-Ok.ensures.gave (omega (arith, length-take c.min-window.result c.pieces.piece, c.in-Ok.ensures.within))

pub returns-in_err-take_piece-clause-refused : goal.returns-in_err-take_piece-clause-refused
returns-in_err-take_piece-clause-refused g c =
    let only : IfErr c.from_residual.result (λ x. x ≡ c.in_err-take_piece.field-0.0) = search rules in
    IfErr-weaker c.from_residual.result _ _ (λ fault is. subst (IsTextRefused g.R.Source.HasLeft g.R.Source.failed c.args.input.now c.read.new.self) (sym is)
    (piece-refused g.R.Source.HasLeft _ _ _ _ _ _ c.pieces.invariant.taken _ _ _ (omega (arith, c.in-Ok.ensures.within)) (omega arith) c.in-Ok.ensures.gave g.R.Source.failed _ (c.in-Ok.ensures.unmarked ∙ c.pieces.invariant.sound) c.in_err-take_piece.ensures.refused)) only

pub returns-in_err-take_piece-clause-bounded : goal.returns-in_err-take_piece-clause-bounded
returns-in_err-take_piece-clause-bounded g c = gave-few g.R.Source.HasLeft _ _ _ _ _ _ c.pieces.invariant.taken _ _ c.in-Ok.ensures.gave (omega arith)

pub pieces-preserved : goal.pieces-preserved
pieces-preserved g c = record {
  sound = search rules;
  space = search rules;
  taken = read-more g.R.Source.HasLeft _ _ _ _ _ _ c.pieces.invariant.taken _ _ _ (omega (arith, c.in-Ok.ensures.within)) (omega arith) c.in-Ok.ensures.gave _ _ c.in_ok-take_piece.ensures.taken;
}
