use Rattle.std.proofs.Common.{◌∙◌, refl}
use Rattle.std.specs.Prelude.{string_bytes}
use Rattle.memory.proofs.Outcomes.{on_err}
use Rattle.folder_files.specs.Paths.{path_in}
use Rattle.smf_check.proofs.Reported.{checked-more, checked-none, stops-later}
use Rattle.smf_check.proofs.Words.{these-first, these-next}
use Rattle.smf_check.proofs.checking.check_names.Goals as goal

pub loop-name-init : goal.loop-name-init
loop-name-init g c = record {
  checked = checked-none g.W.Sink.HasTaken _ _ _ _ refl;
  unmarked = c.requires;
  eager = refl;
}

pub returns-in_err-check_name-clause-short : goal.returns-in_err-check_name-clause-short
returns-in_err-check_name-clause-short g c = on_err c.from_residual.result
    (stops-later g.W.Sink.HasTaken _ _ _ _ _ _ _ _ _
    (these-first (λ name. path_in c.args.folder.now (string_bytes name)) c.args.names.now c.loop-name.name-index c.name-item.result c.loop-name-test.true c.name-item.is)
    c.loop-name.invariant.checked (rw c.as_str.ensures.value at c.in_err-check_name.ensures.short))

pub loop-name-preserved : goal.loop-name-preserved
loop-name-preserved g c = record {
  checked = checked-more g.W.Sink.HasTaken _ _ _ _ _ _ _ _ _ _
      (these-next (λ name. path_in c.args.folder.now (string_bytes name)) c.args.names.now c.loop-name.name-index c.name-item.result c.loop-name-test.true c.name-item.is)
      c.loop-name.invariant.checked (rw c.as_str.ensures.value at c.in_ok-check_name.ensures.checked);
  unmarked = c.in_ok-check_name.ensures.marks.unmarked refl;
  eager = c.check_name.ensures.marks.eager ∙ c.loop-name.invariant.eager;
}
