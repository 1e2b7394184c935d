use Rattle.std.proofs.Common.{map}
use Rattle.std.specs.Prelude.{string_bytes}
use Rattle.std.proofs.lemmas.Result.{on_ok_weaker, on_err_weaker}
use Rattle.memory.proofs.Outcomes.{on_err}
use Rattle.smf_check.proofs.Reported.{checked-as, first-none, stops-as, stops-at-once}
use Rattle.smf_check.proofs.Words.{first-as, in-folder}
use Rattle.smf_check.proofs.checking.check_folder.Goals as goal

pub returns-in_err-names-in-Ok-clause-short : goal.returns-in_err-names-in-Ok-clause-short
returns-in_err-names-in-Ok-clause-short g c = on_err c.from_residual.result (stops-at-once g.W.Sink.HasTaken _ _ _ _ (first-none _))

pub returns-in_ok-names-in-Ok-clause-checked : goal.returns-in_ok-names-in-Ok-clause-checked
returns-in_ok-names-in-Ok-clause-checked g c = on_ok_weaker c.check_names.result
    (λ k. checked-as g.W.Sink.HasTaken _ _ _ _ _ _ _
    (in-folder c.args.is_lenient g.S.FileStore.CannotList g.S.FileStore.HasNames string_bytes c.args.folder.now (map string_bytes c.in-Ok.entries.items) c.in_ok-names-in-Ok.names.items c.in-Ok.ensures.listed c.in_ok-names-in-Ok.ensures)
    (rw c.as_slice.ensures.value at k)) c.check_names.ensures.checked

pub returns-in_ok-names-in-Ok-clause-short : goal.returns-in_ok-names-in-Ok-clause-short
returns-in_ok-names-in-Ok-clause-short g c = on_err_weaker c.check_names.result
    (λ k. stops-as g.W.Sink.HasTaken _ _ _ _ _ _
    (first-as _ _ (in-folder c.args.is_lenient g.S.FileStore.CannotList g.S.FileStore.HasNames string_bytes c.args.folder.now (map string_bytes c.in-Ok.entries.items) c.in_ok-names-in-Ok.names.items c.in-Ok.ensures.listed c.in_ok-names-in-Ok.ensures))
    (rw c.as_slice.ensures.value at k)) c.check_names.ensures.short
