use Rattle.std.proofs.Common.{rules}
use Rattle.std.proofs.lemmas.Result.{on_ok_weaker}
use Rattle.program_tasks.specs.Apart.{AreScriptsApart}
use Rattle.program_tasks.specs.LogFiles.{log_path}
use Rattle.program_tasks.proofs.LogFiles.{logs_apart}
use Rattle.program_tasks.proofs.log_folder.LogFolder.+keep_apart.Goals as goal

pub returns-clause-apart : goal.returns-clause-apart
returns-clause-apart g t c =
    let here : AreScriptsApart g.S.FileStore.AreApart (log_path c.args.self.now.path.now c.in-Some.first.now.client) c.args.scripts.now = search rules in
    on_ok_weaker c.keep_apart.result
    (logs_apart g.S.FileStore.AreApart c.args.self.now.path.now c.args.words.now c.in-Some.more.now c.in-Some.first.now c.args.scripts.now c.in-Some.ensures.cases.0 here)
    c.keep_apart.ensures.apart
