use Rattle.std.proofs.Common.{rules, ◌≡◌, None}
use Rattle.seq_session.specs.Devices.{log_blamed}
use Rattle.seq_session.proofs.Alone.{none_blamed, no_log}
use Rattle.seq_session.proofs.Streamed.{made_stream}
use Rattle.seq_session.proofs.sessions.stream_sessions.Goals as goal

pub returns-in_err-read_all-clause-log_marks : goal.returns-in_err-read_all-clause-log_marks
returns-in_err-read_all-clause-log_marks g c =
    let none : log_blamed c.from_residual.result ≡ None = search (no_log, rules) in
    none_blamed g.W.Sink.failed g.W.Sink.takes_some (log_blamed c.from_residual.result) c.args.scripts.now c.args.logs.now none c.requires.as_many c.requires.writers

pub returns-clause-streamed : goal.returns-clause-streamed
returns-clause-streamed g c =
    let a = c.args in
    made_stream a.files.now a.until c.read_all.new.scripts.items g.R.Source.HasLeft g.W.Sink.HasTaken a.scripts.now c.read_all.new.sources a.logs.now c.stream_told.new.logs c.stream_told.result
    (search rules) (search rules) (search rules) (search rules)
