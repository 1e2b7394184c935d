use Rattle.std.proofs.Common.{refl}
use Rattle.std.proofs.lemmas.Result.{on_ok_weaker, on_err_weaker}
use Rattle.memory.proofs.Outcomes.{on_err}
use Rattle.tool_text.proofs.Copied.{line_begun}
use Rattle.tool_text.proofs.Pieces.{stops-none, goes-stops, goes-more, stops-more, goes-all, stops-all}
use Rattle.tool_text.proofs.wire.print_written.Goals as goal

pub returns-in_err-extend_from_slice-clause-short : goal.returns-in_err-extend_from_slice-clause-short
returns-in_err-extend_from_slice-clause-short g c = on_err c.from_residual.result (stops-none g.W.Sink.HasTaken _ _)

pub returns-in_err-print_spaced-clause-short : goal.returns-in_err-print_spaced-clause-short
returns-in_err-print_spaced-clause-short g c =
    let begun = line_begun g.W.Sink.HasTaken c.args.written.now c.args.out.now _ _ c.new-text.ensures.items c.in_ok-extend_from_slice.ensures.items in
    on_err c.from_residual-in_err-print_spaced.result (stops-more g.W.Sink.HasTaken _ _ _ _ _ _ _ _ begun refl c.in_err-print_spaced.ensures.short)

pub returns-in_err-extend_from_slice-2-clause-short : goal.returns-in_err-extend_from_slice-2-clause-short
returns-in_err-extend_from_slice-2-clause-short g c =
    let begun = line_begun g.W.Sink.HasTaken c.args.written.now c.args.out.now _ _ c.new-text.ensures.items c.in_ok-extend_from_slice.ensures.items in
    on_err c.from_residual-in_err-extend_from_slice-2.result (goes-stops g.W.Sink.HasTaken _ _ _ _ _ (goes-more g.W.Sink.HasTaken _ _ _ _ _ _ _ _ _ begun refl c.in_ok-print_spaced.ensures.sent))

pub returns-clause-text : goal.returns-clause-text
returns-clause-text g c =
    let begun = line_begun g.W.Sink.HasTaken c.args.written.now c.args.out.now _ _ c.new-text.ensures.items c.in_ok-extend_from_slice.ensures.items in
    let spaced = goes-more g.W.Sink.HasTaken _ _ _ _ _ _ _ _ _ begun refl c.in_ok-print_spaced.ensures.sent in
    on_ok_weaker c.flush.result (λ k. goes-all g.W.Sink.HasTaken _ _ _ _ _ _ _ spaced c.in_ok-extend_from_slice-2.ensures.items k) c.flush.ensures.sent

pub returns-clause-short : goal.returns-clause-short
returns-clause-short g c =
    let begun = line_begun g.W.Sink.HasTaken c.args.written.now c.args.out.now _ _ c.new-text.ensures.items c.in_ok-extend_from_slice.ensures.items in
    let spaced = goes-more g.W.Sink.HasTaken _ _ _ _ _ _ _ _ _ begun refl c.in_ok-print_spaced.ensures.sent in
    on_err_weaker c.flush.result (λ k. stops-all g.W.Sink.HasTaken _ _ _ _ _ _ _ spaced c.in_ok-extend_from_slice-2.ensures.items k) c.flush.ensures.short
