use Rattle.std.proofs.Common.{◌≡◌, false, subst, sym, [], rules}
use Rattle.seq_session.specs.Devices.{AreOpen}
use Rattle.program_tasks.specs.LogFiles.{log_path, AreLogsPlaced}
use Rattle.program_tasks.proofs.LogFiles.{placed_next}
use Rattle.program_tasks.proofs.Opened.{all-more}
use Rattle.program_tasks.proofs.log_folder.LogFolder.begin.Goals as goal

pub loop-word-init : goal.loop-word-init
loop-word-init g c = record {
  placed = subst (AreLogsPlaced g.S.FileStore.IsPlaced c.args.self.now []) (sym c.requires) tt;
  sound = subst (AreOpen g.S.Writer.Sink.failed) (sym c.requires) tt;
}

pub loop-word-preserved : goal.loop-word-preserved
loop-word-preserved g c =
    let path : c.as_str.result.now ≡ log_path c.args.self.now.path.now c.word-item.result.client = search rules in
    record {
      placed = placed_next g.S.FileStore.IsPlaced c.args.self.now c.args.words.now c.loop-word.word-index c.word-item.result c.loop-word.begun.items _ c.in-Ok.log c.loop-word-test.true c.word-item.is c.in_ok-push.ensures.items c.loop-word.invariant.placed
          (subst (λ p. g.S.FileStore.IsPlaced p c.args.self.now.append c.in-Ok.log) path c.in-Ok.ensures.placed);
      sound = subst (AreOpen g.S.Writer.Sink.failed) (sym c.in_ok-push.ensures.items)
          (all-more (λ w. g.S.Writer.Sink.failed w ≡ false) c.loop-word.begun.items _ c.loop-word.invariant.sound c.in-Ok.ensures.sound);
    }
