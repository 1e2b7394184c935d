use Rattle.program_tasks.proofs.Files.{reads_next}
use Rattle.program_tasks.proofs.Unread.{first_unread, later_unread}
use Rattle.std.proofs.lemmas.Result.{on_ok_weaker}
use Rattle.program_tasks.proofs.reading.+read_on.Goals as goal

pub returns-in_err-read_one-clause-fault : goal.returns-in_err-read_one-clause-fault
returns-in_err-read_one-clause-fault g t c =
    first_unread g.S.FileStore.IsOpened g.S.Reader.Source.HasLeft g.S.FileStore.CannotOpen g.S.Reader.Source.failed c.args.words.now c.in-Some.words.now c.in-Some.word.now
    c.from_residual.result c.in_err-read_one.field-0.0 c.in-Some.ensures.cases.0 c.from_residual.ensures.1 c.in_err-read_one.ensures.fault

pub returns-clause-read : goal.returns-clause-read
returns-clause-read g t c =
    on_ok_weaker c.read_on.result
    (reads_next g.S.FileStore.IsOpened g.S.Reader.Source.HasLeft c.args.words.now c.in-Some.words.now c.in-Some.word.now c.in_ok-read_one.field-0
    c.args.scripts.now.items _ _ c.in-Some.ensures.cases.0 c.in_ok-push.ensures.items c.in_ok-read_one.ensures.client c.in_ok-read_one.ensures.text)
    c.read_on.ensures.read

pub returns-clause-fault : goal.returns-clause-fault
returns-clause-fault g t c =
    later_unread g.S.FileStore.IsOpened g.S.Reader.Source.HasLeft g.S.FileStore.CannotOpen g.S.Reader.Source.failed c.args.words.now c.in-Some.words.now c.in-Some.word.now
    c.read_on.result c.in-Some.ensures.cases.0 c.read_on.ensures.fault
