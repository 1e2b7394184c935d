use Rattle.std.proofs.Common.{rules}
use Rattle.std.specs.Prelude.{string_bytes}
use Rattle.std.proofs.lemmas.Result.{IfOk-weaker}
use Rattle.folder_files.specs.Paths.{path_in}
use Rattle.program_tasks.proofs.Files.{files_apart, one_file_more}
use Rattle.program_tasks.proofs.apart.+is_no_file.Goals as goal

pub returns-clause-apart : goal.returns-clause-apart
returns-clause-apart g t c =
    let here : g.S.FileStore.AreApart c.args.path.now (path_in c.args.dir.now (string_bytes c.in-Some.first.now)) = search rules in
    IfOk-weaker c.is_no_file.result _ _ (λ apart more is. files_apart g.S.FileStore.AreApart c.args.path.now c.args.dir.now string_bytes c.args.names.now c.in-Some.more.now c.in-Some.first.now c.in-Some.ensures.cases.0 here (more is)) c.is_no_file.ensures.apart

pub returns-clause-one : goal.returns-clause-one
returns-clause-one g t c =
    IfOk-weaker c.is_no_file.result _ _ (λ apart more is. one_file_more g.S.FileStore.AreOne c.args.path.now c.args.dir.now string_bytes c.args.names.now c.in-Some.more.now c.in-Some.first.now c.in-Some.ensures.cases.0 (more is)) c.is_no_file.ensures.one
