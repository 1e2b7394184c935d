use Rattle.std.proofs.Common.{rules, ◌≡◌, IfErr, subst}
use Rattle.seq_session.specs.Sessions.{script_clients}
use Rattle.seq_session.specs.Streams.{texts_after, IsStoppedAt}
use Rattle.seq_session.proofs.streaming.stream_merged.Goals as goal

pub returns-clause-stopped : goal.returns-clause-stopped
returns-clause-stopped g c =
    let a = c.args in
    let files_are : c.new-engine.result.files ≡ a.files.now.files = search rules in
    subst (λ fs. IfErr c.stream_run.result (IsStoppedAt g.W.Sink.HasTaken (texts_after a.reads.now a.merged.now.lines fs a.merged.now.inputs a.until) (script_clients a.scripts.now) a.logs.now c.stream_run.new.logs)) files_are
    c.stream_run.ensures.stopped
