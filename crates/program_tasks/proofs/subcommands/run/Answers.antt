use Rattle.std.proofs.Common.{false}
use Rattle.std.proofs.lemmas.Result.{on_ok_weaker}
use Rattle.program_tasks.proofs.Said.{are_files}
use Rattle.program_tasks.proofs.subcommands.run.Goals as goal

pub returns-clause-printed : goal.returns-clause-printed
returns-clause-printed g c = on_ok_weaker c.print_session.result
    (λ printed. record {
      files = c.named-files.result;
      are = are_files g.N.Notes.HasTold g.S.FileStore.IsOpened g.S.Reader.Source.HasLeft g.S.FileStore.CannotOpen g.S.Reader.Source.failed g.S.FileStore.IsStanding g.S.FileStore.HasNames _ false _ _ _ c.in_ok-folder.folder c.in_ok-opened.opened c.named-files.result
          c.in_ok-folder.ensures.read c.in_ok-opened.ensures.opened c.in_ok-opened.ensures.told c.named-files.ensures.names c.named-files.ensures.files;
      printed = printed;
    })
    c.print_session.ensures.printed
