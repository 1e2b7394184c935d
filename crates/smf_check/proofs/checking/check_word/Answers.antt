use Rattle.std.proofs.lemmas.Result.{on_ok_weaker, on_err_weaker}
use Rattle.smf_check.proofs.Reported.{checked-as, stops-as}
use Rattle.smf_check.proofs.Words.{first-as, of-file, of-folder}
use Rattle.smf_check.proofs.checking.check_word.Goals as goal

pub returns-in-Folder-clause-short : goal.returns-in-Folder-clause-short
returns-in-Folder-clause-short g c =
    let are = of-folder c.args.is_lenient g.S.FileStore.CannotList g.S.FileStore.HasNames g.S.FileStore.IsStanding c.args.word.now (rw c.in-Folder.is at c.look.ensures) in
    on_err_weaker c.check_folder.result (λ k. stops-as g.W.Sink.HasTaken _ _ _ _ _ _ (first-as _ _ are) k) c.check_folder.ensures.short

pub returns-in_default : goal.returns-in_default
returns-in_default g c =
    let are = of-file c.args.is_lenient g.S.FileStore.CannotList g.S.FileStore.HasNames g.S.FileStore.IsStanding c.args.word.now c.look.result c.look.ensures c.in_default.not-Folder in
    record {
      checked = on_ok_weaker c.check_file.result (λ k. checked-as g.W.Sink.HasTaken _ _ _ _ _ _ _ are k) c.check_file.ensures.checked;
      short = on_err_weaker c.check_file.result (λ k. stops-as g.W.Sink.HasTaken _ _ _ _ _ _ (first-as _ _ are) k) c.check_file.ensures.short;
      marks = c.check_file.ensures.marks;
      only = c.check_file.ensures.only;
    }
