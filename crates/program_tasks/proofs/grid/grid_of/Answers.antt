use Rattle.std.proofs.Common.{subst}
use Rattle.smf_files.specs.Taken.{Faulty}
use Rattle.smf_grammar.specs.Files.{Fault}
use Rattle.program_tasks.proofs.GridRead.{damaged}
use Rattle.program_tasks.proofs.grid.grid_of.Goals as goal

pub returns-clause-fault : goal.returns-clause-fault
returns-clause-fault g c =
    damaged g.S.FileStore.IsOpened g.S.Reader.Source.HasLeft g.S.FileStore.CannotOpen g.S.Reader.Source.failed c.args.path.now c.in_ok-bytes.bytes.items c.in-Err.fault c.no_file.result c.in_ok-bytes.ensures.read
    (subst (λ bytes. Faulty (Fault bytes) c.in-Err.fault) c.as_slice.ensures.value c.in-Err.ensures.fault)
    c.no_file.ensures.memory c.no_file.ensures.told
