use Rattle.std.proofs.Common.{◌≡◌, ◌++◌, ◌∙◌, ap, drop, length, map, subst, sym, take}
use Rattle.std.proofs.Math.Seq.{take-append_seam}
use Rattle.std.proofs.lemmas.List.{length-replicate}
use Rattle.seq_session.specs.declared.fault.SessionFault.TheVariants as session
use Rattle.seq_session.specs.Devices.{ReadersTell, reader_blamed}
use Rattle.seq_session.specs.Sessions.{all_logs}
use Rattle.program_tasks.specs.declared.program_fault.ProgramFault.TheVariants.{OutOfMemory}
use Rattle.program_tasks.proofs.Held.{all_open, wrote_held}
use Rattle.program_tasks.proofs.Said.{err_is}
use Rattle.program_tasks.proofs.running.hold_from.Goals as goal

pub stream_sessions-requires-clause-as_many : goal.stream_sessions-requires-clause-as_many
stream_sessions-requires-clause-as_many g c = ap length (c.as_mut_slice.ensures.value ∙ c.in_ok-logs.ensures) ∙ length-replicate _ _

pub stream_sessions-requires-clause-writers : goal.stream_sessions-requires-clause-writers
stream_sessions-requires-clause-writers g c = all_open _ _ (c.as_mut_slice.ensures.value ∙ c.in_ok-logs.ensures)

pub returns-in-Ok-clause-held : goal.returns-in-Ok-clause-held
returns-in-Ok-clause-held g c =
    let s = c.in-Ok.ensures.streamed in
    let news = c.stream_sessions.new.logs in
    let items = c.in_ok-logs.logs.items in
    let count : c.in_ok-logs.logs.len ≡ length news = sym c.as_mut_slice.ensures.len ∙ sym c.stream_sessions.auto.logs in
    let same : take c.in_ok-logs.logs.len (news ++ drop (length news) items) ≡ news = ap (λ n. take n (news ++ drop (length news) items)) count ∙ take-append_seam news (drop (length news) items) in
    record {
      scripts = s.scripts;
      read = s.read;
      logs = ap (map (λ h. h.taken)) same ∙ wrote_held (length c.args.sources.now) c.as_mut_slice.result.now news (all_logs c.args.files.now c.args.session.now.until s.scripts) (c.as_mut_slice.ensures.value ∙ c.in_ok-logs.ensures) s.logs;
      listing = s.listed;
    }

pub returns-in_err-logs-clause-stopped : goal.returns-in_err-logs-clause-stopped
returns-in_err-logs-clause-stopped g c =
    err_is _ c.from_residual.result OutOfMemory c.from_residual.ensures.1 (record { fault = session.OutOfMemory; told_as = tt; readers = c.requires.readers })

pub returns-clause-stopped : goal.returns-clause-stopped
returns-clause-stopped g c = record {
  fault = c.in-Err.fault;
  told_as = c.fault_of.ensures;
  readers = subst (λ r. ReadersTell g.R.Source.failed (reader_blamed r) c.stream_sessions.new.scripts) c.in-Err.is c.stream_sessions.ensures.reader_marks;
}
