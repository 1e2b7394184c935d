use Rattle.std.proofs.Common.{rules, ◌≡◌, ◌∙◌, None, length, sym, ap}
use Rattle.std.proofs.lemmas.List.{length-map}
use Rattle.seq_session.specs.Devices.{clients, log_blamed}
use Rattle.seq_session.specs.Sessions.{script_clients}
use Rattle.seq_session.proofs.Alone.{none_blamed, no_log, at_listing}
use Rattle.seq_session.proofs.sessions.run_sessions.Goals as goal

pub returns-in_err-read_all-clause-log_marks : goal.returns-in_err-read_all-clause-log_marks
returns-in_err-read_all-clause-log_marks g c =
    let none : log_blamed c.from_residual.result ≡ None = search (no_log, rules) in
    none_blamed g.W.Sink.failed g.W.Sink.takes_some (log_blamed c.from_residual.result) c.args.scripts.now c.args.logs.now none c.requires.as_many c.requires.writers

pub returns-in_err-texts-clause-log_marks : goal.returns-in_err-texts-clause-log_marks
returns-in_err-texts-clause-log_marks g c =
    let none : log_blamed c.from_residual-in_err-texts.result ≡ None = search (no_log, rules) in
    none_blamed g.W.Sink.failed g.W.Sink.takes_some (log_blamed c.from_residual-in_err-texts.result) c.args.scripts.now c.args.logs.now none c.requires.as_many c.requires.writers

pub returns-clause-session : goal.returns-clause-session
returns-clause-session g c _ =
    at_listing c.read_all.new.scripts.items _ (search rules) (search rules) (search rules) (search rules)
    c.write_listing.ensures.written c.write_listing.ensures.part c.write_listing.ensures.fault

pub write_logs-requires-clause-logs : goal.write_logs-requires-clause-logs
write_logs-requires-clause-logs g c =
    let told : script_clients c.read_all.new.scripts.items ≡ clients c.args.scripts.now = search rules in
    c.requires.as_many ∙ sym (length-map c.args.scripts.now (λ s. s.client)) ∙ ap length (sym told) ∙ length-map c.read_all.new.scripts.items (λ s. s.client)
    ∙ ap length (sym c.as_slice-2.ensures.value)
