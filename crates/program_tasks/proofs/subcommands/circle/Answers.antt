use Rattle.std.proofs.Common.{false, inl, inr}
use Rattle.std.proofs.lemmas.Result.{IfErr-weaker, IfOk-weaker}
use Rattle.program_tasks.proofs.Said.{are_files}
use Rattle.program_tasks.proofs.subcommands.circle.Goals as goal

pub returns-clause-printed : goal.returns-clause-printed
returns-clause-printed g c = IfOk-weaker c.print_circle.result _ _
    (λ answer printed. record {
      files = c.named.result;
      are = are_files g.N.Notes.HasTold g.S.FileStore.IsOpened g.S.Reader.Source.HasLeft g.S.FileStore.CannotOpen g.S.Reader.Source.failed g.S.FileStore.IsStanding g.S.FileStore.HasNames _ false _ _ _ c.in_ok-folder.folder c.in_ok-opened.opened c.named.result
          c.in_ok-folder.ensures.read c.in_ok-opened.ensures.opened c.in_ok-opened.ensures.told c.named.ensures.names c.named.ensures.files;
      printed = printed;
    })
    c.print_circle.ensures.printed

pub returns-clause-fault : goal.returns-clause-fault
returns-clause-fault g c = IfErr-weaker c.print_circle.result _ _
    (λ e why. elim why [
      | inl scripts ↦ inr (inl scripts)
      | inr rest ↦ inr (inr (elim rest [
        | inl time ↦ inl (record {
          files = c.named.result;
          are = are_files g.N.Notes.HasTold g.S.FileStore.IsOpened g.S.Reader.Source.HasLeft g.S.FileStore.CannotOpen g.S.Reader.Source.failed g.S.FileStore.IsStanding g.S.FileStore.HasNames _ false _ _ _ c.in_ok-folder.folder c.in_ok-opened.opened c.named.result
              c.in_ok-folder.ensures.read c.in_ok-opened.ensures.opened c.in_ok-opened.ensures.told c.named.ensures.names c.named.ensures.files;
          why = time;
        })
        | inr out ↦ inr out
      ]))
    ])
    c.print_circle.ensures.fault
