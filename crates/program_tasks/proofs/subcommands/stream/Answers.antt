use Rattle.std.proofs.Common.{false}
use Rattle.std.proofs.lemmas.Result.{IfErr-weaker}
use Rattle.program_tasks.proofs.LogFiles.{on_both, stopped_where}
use Rattle.program_tasks.proofs.Said.{are_files}
use Rattle.program_tasks.proofs.subcommands.stream.Goals as goal

pub returns-clause-streamed : goal.returns-clause-streamed
returns-clause-streamed g c = on_both c.stream_session.result
    (λ streamed apart. record {
      files = c.named-files.result;
      are = are_files g.N.Notes.HasTold g.S.FileStore.IsOpened g.S.Reader.Source.HasLeft g.S.FileStore.CannotOpen g.S.Reader.Source.failed g.S.FileStore.IsStanding g.S.FileStore.HasNames _ false _ _ _ c.in_ok-folder.folder c.in_ok-opened.opened c.named-files.result
          c.in_ok-folder.ensures.read c.in_ok-opened.ensures.opened c.in_ok-opened.ensures.told c.named-files.ensures.names c.named-files.ensures.files;
      streamed = streamed;
      apart = apart;
    })
    c.stream_session.ensures.streamed c.stream_session.ensures.apart

pub returns-clause-fault : goal.returns-clause-fault
returns-clause-fault g c = IfErr-weaker c.stream_session.result _ _
    (λ e why. stopped_where
    (λ x. record {
      files = c.named-files.result;
      are = are_files g.N.Notes.HasTold g.S.FileStore.IsOpened g.S.Reader.Source.HasLeft g.S.FileStore.CannotOpen g.S.Reader.Source.failed g.S.FileStore.IsStanding g.S.FileStore.HasNames _ false _ _ _ c.in_ok-folder.folder c.in_ok-opened.opened c.named-files.result
          c.in_ok-folder.ensures.read c.in_ok-opened.ensures.opened c.in_ok-opened.ensures.told c.named-files.ensures.names c.named-files.ensures.files;
      why = x;
    }) why)
    c.stream_session.ensures.fault
