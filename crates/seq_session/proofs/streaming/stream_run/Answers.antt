use Rattle.std.proofs.Common.{rules, ◌≡◌, ℕ, ◌+◌, List, [], map, length, None, Err, IfErr, IfSome, ap, sym, subst, ◌∙◌}
use Rattle.std.proofs.lemmas.List.{length-map, with_items_is}
use Rattle.seq_state.specs.declared.input.Input.{Input}
use Rattle.seq_session.specs.AllLogs.{clients_read, logs_of}
use Rattle.seq_session.specs.Devices.{Wrote, WroteUpTo, log_blamed, log_of_fault, LogsTell}
use Rattle.seq_session.specs.Rising.{AreRising}
use Rattle.seq_session.specs.Sessions.{script_clients}
use Rattle.seq_session.specs.Streams.{emptied, texts_after, IsStoppedAt}
use Rattle.seq_session.specs.declared.fault.SessionFault.{SessionFault}
use Rattle.seq_session.proofs.Alone.{no_log}
use Rattle.seq_session.proofs.Blamed.{none_told}
use Rattle.seq_session.proofs.Seats.{no_entries}
use Rattle.seq_session.proofs.Streamed.{for_memory, none_stops, first_stops, open_told, all_empty, emptied_twice, emptied_clients, none}
use Rattle.seq_session.proofs.streaming.stream_run.Goals as goal

pub returns-in_err-texts-clause-stopped : goal.returns-in_err-texts-clause-stopped
returns-in_err-texts-clause-stopped g c =
    let a = c.args in
    for_memory c.from_residual.result _ (search rules)
    (none_stops g.W.Sink.HasTaken a.reads.now a.merged.now.lines a.engine.now.files a.merged.now.inputs a.until a.logs.now
    (c.requires.logs ∙ sym (length-map a.scripts.now (λ s. s.client)) ∙ ap length (sym c.requires.clients) ∙ length-map a.reads.now (λ r. r.client)))

pub returns-in_err-empty-clause-stopped : goal.returns-in_err-empty-clause-stopped
returns-in_err-empty-clause-stopped g c =
    let a = c.args in
    for_memory c.from_residual-in_err-empty.result _ (search rules)
    (none_stops g.W.Sink.HasTaken a.reads.now a.merged.now.lines a.engine.now.files a.merged.now.inputs a.until a.logs.now
    (c.requires.logs ∙ sym (length-map a.scripts.now (λ s. s.client)) ∙ ap length (sym c.requires.clients) ∙ length-map a.reads.now (λ r. r.client)))

pub returns-in_err-texts-clause-marks : goal.returns-in_err-texts-clause-marks
returns-in_err-texts-clause-marks g c =
    let none : log_blamed c.from_residual.result ≡ None = search (no_log, rules) in
    subst (λ b. LogsTell g.W.Sink.failed g.W.Sink.takes_some b (script_clients c.args.scripts.now) c.args.logs.now) (sym none)
    (none_told g.W.Sink.failed g.W.Sink.takes_some (script_clients c.args.scripts.now) c.args.logs.now (c.requires.logs ∙ sym (length-map c.args.scripts.now (λ s. s.client))) c.requires.sound)

pub returns-in_err-empty-clause-marks : goal.returns-in_err-empty-clause-marks
returns-in_err-empty-clause-marks g c =
    let none : log_blamed c.from_residual-in_err-empty.result ≡ None = search (no_log, rules) in
    subst (λ b. LogsTell g.W.Sink.failed g.W.Sink.takes_some b (script_clients c.args.scripts.now) c.args.logs.now) (sym none)
    (none_told g.W.Sink.failed g.W.Sink.takes_some (script_clients c.args.scripts.now) c.args.logs.now (c.requires.logs ∙ sym (length-map c.args.scripts.now (λ s. s.client))) c.requires.sound)

pub returns-in_err-flush-clause-stopped : goal.returns-in_err-flush-clause-stopped
returns-in_err-flush-clause-stopped g c =
    let a = c.args in
    let reads = a.reads.now in
    let lines = a.merged.now.lines in
    let e = c.in_err-flush.field-0.0 in
    let same : c.from_residual-in_err-flush.result ≡ Err e = search rules in
    let texts : map (λ t. t.items) c.as_mut_slice.result.now ≡ logs_of reads lines [] = ap (map (λ t. t.items)) c.as_mut_slice.ensures.value ∙ c.in_ok-texts.ensures ∙ no_entries reads lines in
    subst (λ r. IfErr r (IsStoppedAt g.W.Sink.HasTaken (texts_after reads lines a.engine.now.files a.merged.now.inputs a.until) (script_clients a.scripts.now) a.logs.now c.flush.new.logs)) (sym same)
    (first_stops g.W.Sink.HasTaken reads lines a.engine.now.files a.merged.now.inputs a.until e (script_clients a.scripts.now) a.logs.now c.flush.new.logs
    (c.requires.logs ∙ sym (length-map a.scripts.now (λ s. s.client)) ∙ ap length (sym c.requires.clients) ∙ length-map reads (λ r. r.client))
    c.in_err-flush.ensures.only
    (subst (λ ts. IfSome (log_of_fault e) (λ k. WroteUpTo g.W.Sink.HasTaken k (script_clients a.scripts.now) a.logs.now c.flush.new.logs ts)) texts c.in_err-flush.ensures.part))

pub new-seating-requires : goal.new-seating-requires
new-seating-requires g c =
    let a = c.args in
    subst AreRising (sym (ap clients_read (c.as_slice.ensures.value ∙ c.in_ok-empty.ensures) ∙ emptied_clients a.reads.now ∙ c.requires.clients)) c.requires.rising

pub stream_turns-requires-clause-seats : goal.stream_turns-requires-clause-seats
stream_turns-requires-clause-seats g c =
    let a = c.args in
    ap length (c.new-seating.ensures.reads ∙ c.as_slice.ensures.value ∙ c.in_ok-empty.ensures) ∙ length-map a.reads.now emptied ∙ sym (length-map a.reads.now (λ r. r.client)) ∙ ap length c.requires.clients ∙ length-map a.scripts.now (λ s. s.client)

pub stream_turns-requires-clause-silent : goal.stream_turns-requires-clause-silent
stream_turns-requires-clause-silent g c =
    let is = c.new-seating.ensures.reads ∙ c.as_slice.ensures.value ∙ c.in_ok-empty.ensures in
    is ∙ emptied_twice c.args.reads.now ∙ ap (map emptied) (sym is)

pub stream_turns-requires-clause-empty : goal.stream_turns-requires-clause-empty
stream_turns-requires-clause-empty g c =
    let a = c.args in
    let is = c.new-seating.ensures.reads ∙ c.as_slice.ensures.value ∙ c.in_ok-empty.ensures in
    let counted : length c.as_mut_slice.result.now ≡ length a.reads.now =
    sym (length-map c.as_mut_slice.result.now (λ t. t.items)) ∙ ap length (ap (map (λ t. t.items)) c.as_mut_slice.ensures.value ∙ c.in_ok-texts.ensures) ∙ length-map a.reads.now _ in
    let as_many : length c.flush.new.texts ≡ c.in_ok-texts.texts.len =
    sym (length-map c.flush.new.texts (λ t. t.items)) ∙ ap length c.in_ok-flush.ensures.empty ∙ length-map c.as_mut_slice.result.now (λ t. none) ∙ ap length c.as_mut_slice.ensures.value ∙ sym c.in_ok-texts.texts.ok.0 in
    ap (map (λ x. x.items)) (with_items_is c.in_ok-texts.texts c.flush.new.texts as_many) ∙ c.in_ok-flush.ensures.empty
    ∙ all_empty c.as_mut_slice.result.now c.new-seating.result.reads.now (counted ∙ sym (length-map a.reads.now emptied) ∙ ap length (sym is))

pub stream_turns-requires-clause-sound : goal.stream_turns-requires-clause-sound
stream_turns-requires-clause-sound g c = open_told g.W.Sink.failed g.W.Sink.takes_some (script_clients c.args.scripts.now) c.flush.new.logs c.in_ok-flush.ensures.marks

pub returns-in_err-stream_turns-clause-stopped : goal.returns-in_err-stream_turns-clause-stopped
returns-in_err-stream_turns-clause-stopped g c =
    let a = c.args in
    let reads = a.reads.now in
    let lines = a.merged.now.lines in
    let fs = a.engine.now.files in
    let is = c.new-seating.ensures.reads ∙ c.as_slice.ensures.value ∙ c.in_ok-empty.ensures in
    let lines_are : c.new-seating.result.lines.now ≡ lines = c.new-seating.ensures.lines ∙ c.as_slice-2.ensures in
    let texts : map (λ t. t.items) c.as_mut_slice.result.now ≡ logs_of reads lines [] = ap (map (λ t. t.items)) c.as_mut_slice.ensures.value ∙ c.in_ok-texts.ensures ∙ no_entries reads lines in
    let first : Wrote g.W.Sink.HasTaken a.logs.now c.flush.new.logs (logs_of reads c.new-seating.result.lines.now []) =
    subst (λ ls. Wrote g.W.Sink.HasTaken a.logs.now c.flush.new.logs (logs_of reads ls [])) (sym lines_are) (subst (Wrote g.W.Sink.HasTaken a.logs.now c.flush.new.logs) texts c.in_ok-flush.ensures.wrote) in
    let e = c.in_err-stream_turns.field-0.0 in
    let same : c.from_residual-in_err-stream_turns.result ≡ Err e = search rules in
    let stops : (ls : List ℕ) (xs : List Input) → SessionFault → Type 0 =
    λ ls xs f. IsStoppedAt g.W.Sink.HasTaken (texts_after reads ls fs xs a.until) (script_clients a.scripts.now) a.logs.now c.stream_turns.new.logs f in
    subst (λ r. IfErr r (stops lines a.merged.now.inputs)) (sym same)
    (subst (λ ls. stops ls a.merged.now.inputs e) lines_are (subst (λ xs. stops c.new-seating.result.lines.now xs e) c.as_slice-inputs.ensures (c.in_err-stream_turns.ensures.stopped reads a.logs.now is first)))

pub returns-in-Ok-clause-wrote : goal.returns-in-Ok-clause-wrote
returns-in-Ok-clause-wrote g c =
    let a = c.args in
    let reads = a.reads.now in
    let lines = a.merged.now.lines in
    let fs = a.engine.now.files in
    let is = c.new-seating.ensures.reads ∙ c.as_slice.ensures.value ∙ c.in_ok-empty.ensures in
    let lines_are : c.new-seating.result.lines.now ≡ lines = c.new-seating.ensures.lines ∙ c.as_slice-2.ensures in
    let texts : map (λ t. t.items) c.as_mut_slice.result.now ≡ logs_of reads lines [] = ap (map (λ t. t.items)) c.as_mut_slice.ensures.value ∙ c.in_ok-texts.ensures ∙ no_entries reads lines in
    let first : Wrote g.W.Sink.HasTaken a.logs.now c.flush.new.logs (logs_of reads c.new-seating.result.lines.now []) =
    subst (λ ls. Wrote g.W.Sink.HasTaken a.logs.now c.flush.new.logs (logs_of reads ls [])) (sym lines_are) (subst (Wrote g.W.Sink.HasTaken a.logs.now c.flush.new.logs) texts c.in_ok-flush.ensures.wrote) in
    let all : (ls : List ℕ) (xs : List Input) → Type 0 = λ ls xs. Wrote g.W.Sink.HasTaken a.logs.now c.stream_turns.new.logs (texts_after reads ls fs xs a.until (length xs + 2)) in
    let wrote : all lines a.merged.now.inputs =
    subst (λ ls. all ls a.merged.now.inputs) lines_are (subst (all c.new-seating.result.lines.now) c.as_slice-inputs.ensures (c.in_ok-stream_turns.ensures.wrote reads a.logs.now is first)) in
    wrote

pub returns-clause-stopped : goal.returns-clause-stopped
returns-clause-stopped g c =
    let a = c.args in
    let reads = a.reads.now in
    let lines = a.merged.now.lines in
    let fs = a.engine.now.files in
    let is = c.new-seating.ensures.reads ∙ c.as_slice.ensures.value ∙ c.in_ok-empty.ensures in
    let lines_are : c.new-seating.result.lines.now ≡ lines = c.new-seating.ensures.lines ∙ c.as_slice-2.ensures in
    let texts : map (λ t. t.items) c.as_mut_slice.result.now ≡ logs_of reads lines [] = ap (map (λ t. t.items)) c.as_mut_slice.ensures.value ∙ c.in_ok-texts.ensures ∙ no_entries reads lines in
    let first : Wrote g.W.Sink.HasTaken a.logs.now c.flush.new.logs (logs_of reads c.new-seating.result.lines.now []) =
    subst (λ ls. Wrote g.W.Sink.HasTaken a.logs.now c.flush.new.logs (logs_of reads ls [])) (sym lines_are) (subst (Wrote g.W.Sink.HasTaken a.logs.now c.flush.new.logs) texts c.in_ok-flush.ensures.wrote) in
    let all : (ls : List ℕ) (xs : List Input) → Type 0 = λ ls xs. Wrote g.W.Sink.HasTaken a.logs.now c.stream_turns.new.logs (texts_after reads ls fs xs a.until (length xs + 2)) in
    let wrote : all lines a.merged.now.inputs =
    subst (λ ls. all ls a.merged.now.inputs) lines_are (subst (all c.new-seating.result.lines.now) c.as_slice-inputs.ensures (c.in_ok-stream_turns.ensures.wrote reads a.logs.now is first)) in
    record { turn = length a.merged.now.inputs + 2; logs = wrote }
