use Rattle.std.proofs.Common.{◌≡◌, take}
use Rattle.seq_session.specs.Devices.{clients, AreSound}
use Rattle.program_tasks.specs.Opened.{AreSourcesOf}
use Rattle.program_tasks.specs.Sessions.{owners}
use Rattle.program_tasks.proofs.session.Session.open.Given as goal

abbrev pub invariant-loop-script : goal.invariant-loop-script
invariant-loop-script g l = record {
  opened : AreSourcesOf g.S.FileStore.IsOpened (take l.script-index l.script-items) l.sources.items;
  clients : clients l.sources.items ≡ owners (take l.script-index l.script-items);
  sound : AreSound g.S.Reader.Source.failed l.sources.items;
}
