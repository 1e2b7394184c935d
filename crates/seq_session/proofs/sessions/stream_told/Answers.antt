use Rattle.std.proofs.Common.{rules, ◌≡◌, ◌∙◌, None, map, ap, sym, subst}
use Rattle.std.proofs.lemmas.List.{length-map}
use Rattle.seq_state.specs.Step.{IsTimed}
use Rattle.seq_session.specs.declared.merged.Merged.{Merged}
use Rattle.seq_session.specs.AllLogs.{clients_read}
use Rattle.seq_session.specs.Devices.{Wrote, log_blamed, LogsTell}
use Rattle.seq_session.specs.Merging.{merge_of, AreSorted, inputs_of, lines_of}
use Rattle.seq_session.specs.Sessions.{script_reading, session, script_clients}
use Rattle.seq_session.proofs.Alone.{no_log, read-clients}
use Rattle.seq_session.proofs.Blamed.{none_told}
use Rattle.seq_session.proofs.Isolated.{timed_law}
use Rattle.seq_session.proofs.Joining.{readings_sorted}
use Rattle.seq_session.proofs.Streamed.{for_memory, none_stops, on_ok, last_logs}
use Rattle.seq_session.proofs.sessions.stream_told.Goals as goal

pub returns-in_err-reads-clause-stopped : goal.returns-in_err-reads-clause-stopped
returns-in_err-reads-clause-stopped g c =
    let a = c.args in
    let merged = session a.files.now a.until a.scripts.now in
    for_memory c.from_residual.result _ (search rules)
    (none_stops g.W.Sink.HasTaken (map (script_reading a.files.now a.until) a.scripts.now) (lines_of merged) a.files.now.files (inputs_of merged) a.until a.logs.now
    (c.requires.as_many ∙ sym (length-map a.scripts.now (script_reading a.files.now a.until))))

pub returns-in_err-merged-clause-stopped : goal.returns-in_err-merged-clause-stopped
returns-in_err-merged-clause-stopped g c =
    let a = c.args in
    let merged = session a.files.now a.until a.scripts.now in
    for_memory c.from_residual-in_err-merged.result _ (search rules)
    (none_stops g.W.Sink.HasTaken (map (script_reading a.files.now a.until) a.scripts.now) (lines_of merged) a.files.now.files (inputs_of merged) a.until a.logs.now
    (c.requires.as_many ∙ sym (length-map a.scripts.now (script_reading a.files.now a.until))))

pub returns-in_err-reads-clause-marks : goal.returns-in_err-reads-clause-marks
returns-in_err-reads-clause-marks g c =
    let none : log_blamed c.from_residual.result ≡ None = search (no_log, rules) in
    subst (λ b. LogsTell g.W.Sink.failed g.W.Sink.takes_some b (script_clients c.args.scripts.now) c.args.logs.now) (sym none)
    (none_told g.W.Sink.failed g.W.Sink.takes_some (script_clients c.args.scripts.now) c.args.logs.now (c.requires.as_many ∙ sym (length-map c.args.scripts.now (λ s. s.client))) c.requires.writers)

pub returns-in_err-merged-clause-marks : goal.returns-in_err-merged-clause-marks
returns-in_err-merged-clause-marks g c =
    let none : log_blamed c.from_residual-in_err-merged.result ≡ None = search (no_log, rules) in
    subst (λ b. LogsTell g.W.Sink.failed g.W.Sink.takes_some b (script_clients c.args.scripts.now) c.args.logs.now) (sym none)
    (none_told g.W.Sink.failed g.W.Sink.takes_some (script_clients c.args.scripts.now) c.args.logs.now (c.requires.as_many ∙ sym (length-map c.args.scripts.now (λ s. s.client))) c.requires.writers)

pub merge-requires : goal.merge-requires
merge-requires g c =
    let reads : c.as_slice.result.now ≡ map (script_reading c.args.files.now c.args.until) c.args.scripts.now = c.as_slice.ensures.value ∙ c.in_ok-reads.ensures.readings in
    subst AreSorted (sym reads) (readings_sorted c.args.files.now c.args.until c.args.scripts.now)

pub stream_merged-requires-clause-clients : goal.stream_merged-requires-clause-clients
stream_merged-requires-clause-clients g c =
    let reads : c.as_slice-2.result.now ≡ map (script_reading c.args.files.now c.args.until) c.args.scripts.now = c.as_slice-2.ensures.value ∙ c.in_ok-reads.ensures.readings in
    ap clients_read reads ∙ read-clients c.args.files.now c.args.until c.args.scripts.now

pub stream_merged-requires-clause-timed : goal.stream_merged-requires-clause-timed
stream_merged-requires-clause-timed g c =
    let reads : c.as_slice.result.now ≡ map (script_reading c.args.files.now c.args.until) c.args.scripts.now = c.as_slice.ensures.value ∙ c.in_ok-reads.ensures.readings in
    subst (λ (m : Merged). IsTimed m.inputs c.args.until) (sym (c.in_ok-merged.ensures ∙ ap merge_of reads)) (timed_law c.args.files.now c.args.until c.args.scripts.now)

pub returns-clause-logs : goal.returns-clause-logs
returns-clause-logs g c =
    let a = c.args in
    let reads : c.as_slice.result.now ≡ map (script_reading a.files.now a.until) a.scripts.now = c.as_slice.ensures.value ∙ c.in_ok-reads.ensures.readings in
    let read : c.as_slice-2.result.now ≡ map (script_reading a.files.now a.until) a.scripts.now = c.as_slice-2.ensures.value ∙ c.in_ok-reads.ensures.readings in
    on_ok c.stream_merged.result _ _
    (λ w.
    subst (Wrote g.W.Sink.HasTaken a.logs.now c.stream_merged.new.logs)
    (last_logs a.files.now a.until a.scripts.now c.as_slice-2.result.now c.in_ok-merged.merged read (c.in_ok-merged.ensures ∙ ap merge_of reads)) w)
    c.stream_merged.ensures.wrote
