use Rattle.std.proofs.lemmas.Result.{on_ok_weaker, on_err_weaker}
use Rattle.memory.proofs.Outcomes.{on_err}
use Rattle.smf_grammar.specs.Seen.{header_seen}
use Rattle.tool_text.proofs.Pieces.{stops-none}
use Rattle.smf_text.proofs.Placed.{one-after}
use Rattle.smf_text.proofs.Printed.{all-printed, all-stop}
use Rattle.smf_text.proofs.dump_all.print_file.Goals as goal

pub print_tracks-requires-clause-headed : goal.print_tracks-requires-clause-headed
print_tracks-requires-clause-headed g c = λ w. one-after _ _ _ (header_seen c.in-Ok.found.0) w c.in-Ok.ensures.value

pub returns-in_err-push_place-clause-short : goal.returns-in_err-push_place-clause-short
returns-in_err-push_place-clause-short g c = on_err c.from_residual.result (λ w. stops-none g.W.Sink.HasTaken _ _)

pub returns-in_err-push_head-clause-short : goal.returns-in_err-push_head-clause-short
returns-in_err-push_head-clause-short g c = on_err c.from_residual-in_err-push_head.result (λ w. stops-none g.W.Sink.HasTaken _ _)

pub returns-clause-text : goal.returns-clause-text
returns-clause-text g c =
    on_ok_weaker c.flush.result
    (λ k w. all-printed g.W.Sink.HasTaken _ _ _ _ _ _ _ _ _ _ c.new-text.ensures.items c.in_ok-push_place.ensures c.in_ok-push_head.ensures (c.in_ok-print_tracks.ensures.sent w) k) c.flush.ensures.sent

pub returns-clause-short : goal.returns-clause-short
returns-clause-short g c =
    on_err_weaker c.flush.result
    (λ k w. all-stop g.W.Sink.HasTaken _ _ _ _ _ _ _ _ _ _ c.new-text.ensures.items c.in_ok-push_place.ensures c.in_ok-push_head.ensures (c.in_ok-print_tracks.ensures.sent w) k) c.flush.ensures.short
