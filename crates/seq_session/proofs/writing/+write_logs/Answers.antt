use Rattle.std.proofs.Common.{rules, arith, ◌≡◌, ◌<◌, true, false, length, Some}
use Rattle.seq_session.specs.Devices.{IsTold, log_blamed}
use Rattle.seq_session.proofs.Blamed.{first_at, first_log, rest_log}
use Rattle.seq_session.proofs.writing.+write_logs.Goals as goal

pub returns-in_err-write_one-clause-marks : goal.returns-in_err-write_one-clause-marks
returns-in_err-write_one-clause-marks g t c =
    let parts = c.in-Some.ensures.cases in
    let some : 0 < length c.args.scripts.now = (let n = c.requires.logs in let m = parts.1 in omega arith) in
    let told : IsTold (g.W.Sink.failed c.write_one.new.log) (g.W.Sink.takes_some c.write_one.new.log) true = search rules in
    let blamed : log_blamed c.from_residual.result ≡ Some c.index-scripts-0.result.client = search rules in
    first_log g.W.Sink.failed g.W.Sink.takes_some c.args.scripts.now _ c.index-scripts-0.result (log_blamed c.from_residual.result) c.in-Some.log.now c.write_one.new.log c.in-Some.more.now c.args.logs.now
    (first_at c.args.scripts.now c.index-scripts-0.result some c.index-scripts-0.is) parts.0 blamed told c.requires.rising c.requires.logs c.requires.sound

pub returns-clause-marks : goal.returns-clause-marks
returns-clause-marks g t c =
    let parts = c.in-Some.ensures.cases in
    let some : 0 < length c.args.scripts.now = (let n = c.requires.logs in let m = parts.1 in omega arith) in
    let told : IsTold (g.W.Sink.failed c.write_one.new.log) (g.W.Sink.takes_some c.write_one.new.log) false = search rules in
    rest_log g.W.Sink.failed g.W.Sink.takes_some c.args.scripts.now _ c.index-scripts-0.result (log_blamed c.write_logs.result) c.write_one.new.log c.write_logs.new.logs
    (first_at c.args.scripts.now c.index-scripts-0.result some c.index-scripts-0.is) told c.requires.rising c.write_logs.ensures.blamed c.write_logs.ensures.marks
