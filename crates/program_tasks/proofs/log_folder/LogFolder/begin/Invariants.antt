use Rattle.std.proofs.Common.{take}
use Rattle.seq_session.specs.Devices.{AreOpen}
use Rattle.program_tasks.specs.LogFiles.{AreLogsPlaced}
use Rattle.program_tasks.proofs.log_folder.LogFolder.begin.Given as goal

abbrev pub invariant-loop-word : goal.invariant-loop-word
invariant-loop-word g l = record {
  placed : AreLogsPlaced g.S.FileStore.IsPlaced l.self (take l.word-index l.words) l.begun.items;
  sound : AreOpen g.S.Writer.Sink.failed l.begun.items;
}
