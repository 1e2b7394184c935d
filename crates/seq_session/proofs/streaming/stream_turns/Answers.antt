use Rattle.std.proofs.Common.{rules, ◌≡◌, ℕ, ◌+◌, ◌≤◌, List, [], map, length, take, get_or, false, suc, None, Option, Err, IfErr, IfSome, Vec, Global, refl, ap, sym, subst, ◌∙◌, arith}
use Rattle.std.proofs.lemmas.List.{take_all, length-map, with_items_is}
use Rattle.seq_state.specs.declared.input.Input.{Input}
use Rattle.seq_state.specs.declared.log.LogEntry.TheVariants.{Delivered}
use Rattle.smf_grammar.specs.Played.{PlayedFile}
use Rattle.seq_state.specs.State.{State, start}
use Rattle.seq_state.specs.Step.{step, settle, state_after}
use Rattle.seq_engine.specs.Seen.{Seen}
use Rattle.seq_engine.specs.Ending.{listing_of}
use Rattle.seq_engine.proofs.Ending.{settled_listing}
use Rattle.seq_engine.proofs.Logs.{moment_after, moment_more, next_in_time, end_in_time, state_more}
use Rattle.seq_session.specs.AllLogs.{TellMore}
use Rattle.script_text.specs.declared.reading.ScriptRead.{ScriptRead}
use Rattle.seq_session.specs.Devices.{AreOpen, Wrote, WroteUpTo, log_blamed, log_of_fault, LogsTell}
use Rattle.seq_session.specs.Streams.{emptied, texts_after, IsStoppedAt}
use Rattle.seq_session.specs.declared.fault.SessionFault.{SessionFault}
use Rattle.seq_session.specs.Sessions.{script_clients}
use Rattle.seq_session.proofs.Alone.{no_log}
use Rattle.seq_session.proofs.Blamed.{none_told}
use Rattle.seq_session.proofs.Streamed.{AreHeld, HaveSaid, none_held, held_more, held_written, held_stops, part_stops, for_memory, said_more, said_nothing, said_count, all_empty, open_told, wrote_length, at_fault, on_ok, on_any, none}
use Rattle.seq_session.proofs.Turns.{given, turn_of, end_of}
use Rattle.seq_session.proofs.streaming.stream_turns.Goals as goal
use Rattle.seq_session.proofs.streaming.stream_turns.Goals.{then-are_long+in_ok-flush, else-are_long}

pub loop-index-init : goal.loop-index-init
loop-index-init g c =
    let r = c.requires in
    record {
      stands = r.begun;
      held = λ reads olds silent wrote. none_held _ reads _ _ _ _ olds _ _ 0 (r.empty ∙ ap (map (λ x. [])) silent) wrote;
      said = said_nothing _ _ _ r.silent r.empty;
      sound = r.sound;
      logs_are = r.logs;
      at_most = omega arith;
    }

pub push_turn-requires-clause-in_time : goal.push_turn-requires-clause-in_time
push_turn-requires-clause-in_time g c =
    let inputs = c.args.inputs.now in
    let i = c.loop-index.index in
    let x = c.index-inputs-index.result in
    let stands : c.loop-index.engine.moment ≡ moment_after 0 (take i inputs) = ap (λ (e : Seen). e.moment) c.loop-index.invariant.stands in
    let is : x.moment ≡ (get_or inputs i x).moment = ap (λ (y : Input). y.moment) c.index-inputs-index.is in
    let in_time : moment_after 0 (take i inputs) ≤ (get_or inputs i x).moment = next_in_time inputs c.args.until i x c.requires.timed c.loop-index-test.true in
    omega arith

pub push_last-requires : goal.push_last-requires
push_last-requires g c =
    let inputs = c.args.inputs.now in
    let i = c.loop-index.index in
    let stands : c.loop-index.engine.moment ≡ moment_after 0 (take i inputs) = ap (λ (e : Seen). e.moment) c.loop-index.invariant.stands in
    let in_time : moment_after 0 (take i inputs) ≤ c.args.until = end_in_time inputs c.args.until i c.requires.timed c.loop-index-test.false in
    omega arith

pub returns-in_err-push_turn-clause-stopped : goal.returns-in_err-push_turn-clause-stopped
returns-in_err-push_turn-clause-stopped g c =
    for_memory c.from_residual.result _ (search rules) (λ reads olds silent wrote. held_stops _ reads _ _ _ _ olds _ _ _ (c.loop-index.invariant.held reads olds silent wrote))

pub returns-in_err-push_last-clause-stopped : goal.returns-in_err-push_last-clause-stopped
returns-in_err-push_last-clause-stopped g c =
    for_memory c.from_residual-in_err-push_last.result _ (search rules) (λ reads olds silent wrote. held_stops _ reads _ _ _ _ olds _ _ _ (c.loop-index.invariant.held reads olds silent wrote))

pub returns-in_err-push_turn-clause-marks : goal.returns-in_err-push_turn-clause-marks
returns-in_err-push_turn-clause-marks g c =
    let none : log_blamed c.from_residual.result ≡ None = search (no_log, rules) in
    subst (λ b. LogsTell g.W.Sink.failed g.W.Sink.takes_some b (script_clients c.args.scripts.now) c.loop-index.logs) (sym none)
    (none_told g.W.Sink.failed g.W.Sink.takes_some (script_clients c.args.scripts.now) c.loop-index.logs (c.loop-index.invariant.logs_are ∙ sym (length-map c.args.scripts.now (λ s. s.client))) c.loop-index.invariant.sound)

pub returns-in_err-push_last-clause-marks : goal.returns-in_err-push_last-clause-marks
returns-in_err-push_last-clause-marks g c =
    let none : log_blamed c.from_residual-in_err-push_last.result ≡ None = search (no_log, rules) in
    subst (λ b. LogsTell g.W.Sink.failed g.W.Sink.takes_some b (script_clients c.args.scripts.now) c.loop-index.logs) (sym none)
    (none_told g.W.Sink.failed g.W.Sink.takes_some (script_clients c.args.scripts.now) c.loop-index.logs (c.loop-index.invariant.logs_are ∙ sym (length-map c.args.scripts.now (λ s. s.client))) c.loop-index.invariant.sound)

pub flush-requires-clause-texts : goal.flush-requires-clause-texts
flush-requires-clause-texts g c =
    let s = c.args.seating.now in
    ap length c.as_mut_slice.ensures.value
    ∙ said_count (λ t. t.items) c.push_turn.new.texts.items s.reads.now s.lines.now (length c.args.scripts.now) (said_more s.reads.now s.lines.now _ _ _ c.loop-index.invariant.said c.in_ok-push_turn.ensures.told) c.requires.seats

pub flush-requires-2-clause-texts : goal.flush-requires-2-clause-texts
flush-requires-2-clause-texts g c =
    let s = c.args.seating.now in
    ap length c.as_mut_slice-2.ensures.value
    ∙ said_count (λ t. t.items) c.push_last.new.texts.items s.reads.now s.lines.now (length c.args.scripts.now) (said_more s.reads.now s.lines.now _ _ _ c.loop-index.invariant.said c.in_ok-push_last.ensures.told) c.requires.seats

pub returns-in_err-flush-clause-stopped : goal.returns-in_err-flush-clause-stopped
returns-in_err-flush-clause-stopped g c =
    let a = c.args in
    let fs : List PlayedFile = a.engine.now.files in
    let quiet = a.seating.now.reads.now in
    let lines = a.seating.now.lines.now in
    let i = c.loop-index.index in
    let x = c.index-inputs-index.result in
    let s : State = state_after fs start (take i a.inputs.now) in
    let e = c.in_err-flush.field-0.0 in
    let same : c.from_residual-in_err-flush.result ≡ Err e = search rules in
    let mids : List (List ℕ) = map (λ t. t.items) c.loop-index.texts.items in
    let news : List (List ℕ) = map (λ t. t.items) c.push_turn.new.texts.items in
    let Q : SessionFault → Type 0 =
    λ e. (reads : List ScriptRead) (olds : List g.row.W.Denot) → quiet ≡ map emptied reads → Wrote g.W.Sink.HasTaken olds a.logs.now (texts_after reads lines fs a.inputs.now a.until 1) →
    IsStoppedAt g.W.Sink.HasTaken (texts_after reads lines fs a.inputs.now a.until) (script_clients a.scripts.now) olds c.flush.new.logs e in
    let stops : Q e =
    λ reads olds silent wrote.
    part_stops g.W.Sink.HasTaken reads lines fs a.inputs.now a.until e (script_clients a.scripts.now) olds c.loop-index.logs c.flush.new.logs (i + 1) news
    (held_more g.W.Sink.HasTaken reads lines fs a.inputs.now a.until quiet silent olds c.loop-index.logs i mids news _ (c.loop-index.invariant.held reads olds silent wrote)
    (turn_of fs a.until start a.inputs.now i x c.loop-index-test.true)
    (subst (λ es. TellMore quiet lines es mids news) (ap (λ (e : Seen). given e.files e.state i x) c.loop-index.invariant.stands ∙ ap (given fs s i) c.index-inputs-index.is) c.in_ok-push_turn.ensures.told))
    c.in_err-flush.ensures.only
    (subst (λ ts. IfSome (log_of_fault e) (λ k. WroteUpTo g.W.Sink.HasTaken k (script_clients a.scripts.now) c.loop-index.logs c.flush.new.logs ts)) (ap (map (λ t. t.items)) c.as_mut_slice.ensures.value) c.in_err-flush.ensures.part) in
    subst (λ r. IfErr r Q) (sym same) stops

pub loop-index-preserved : goal.loop-index-preserved
loop-index-preserved g c =
    let a = c.args in
    let inputs = a.inputs.now in
    let fs : List PlayedFile = a.engine.now.files in
    let quiet = a.seating.now.reads.now in
    let lines = a.seating.now.lines.now in
    let i = c.loop-index.index in
    let x = c.index-inputs-index.result in
    let y : Input = get_or inputs i x in
    let was = c.loop-index.invariant in
    let s : State = state_after fs start (take i inputs) in
    let seen : State → ℕ → Seen = λ t m. record { files = fs; state = t; moment = m; steps = i + 1; failed = false } in
    let more : state_after fs start (take (i + 1) inputs) ≡ (step fs s y).state = state_more fs inputs i x c.loop-index-test.true in
    let stands : c.push_turn.new.engine ≡ seen (state_after fs start (take (i + 1) inputs)) (moment_after 0 (take (i + 1) inputs)) =
    c.in_ok-push_turn.ensures.state
    ∙ ap (λ (e : Seen). let next : Seen = record e { state = (step e.files e.state x).state; moment = x.moment; steps = e.steps + 1 } in next) was.stands
    ∙ ap (λ (z : Input). seen (step fs s z).state z.moment) c.index-inputs-index.is
    ∙ ap (λ t. seen t y.moment) (sym more)
    ∙ ap (seen (state_after fs start (take (i + 1) inputs))) (sym (moment_more inputs i x c.loop-index-test.true)) in
    let mids : List (List ℕ) = map (λ t. t.items) c.loop-index.texts.items in
    let news : List (List ℕ) = map (λ t. t.items) c.push_turn.new.texts.items in
    let told : TellMore quiet lines (given fs s i y) mids news =
    subst (λ es. TellMore quiet lines es mids news) (ap (λ (e : Seen). given e.files e.state i x) was.stands ∙ ap (given fs s i) c.index-inputs-index.is) c.in_ok-push_turn.ensures.told in
    let held : (reads : List ScriptRead) (olds : List g.row.W.Denot) → quiet ≡ map emptied reads → Wrote g.W.Sink.HasTaken olds a.logs.now (texts_after reads lines fs inputs a.until 1) →
    AreHeld g.W.Sink.HasTaken reads lines fs inputs a.until olds c.loop-index.logs (i + 1) news =
    λ reads olds silent wrote. held_more g.W.Sink.HasTaken reads lines fs inputs a.until quiet silent olds c.loop-index.logs i mids news _ (was.held reads olds silent wrote)
    (turn_of fs a.until start inputs i x c.loop-index-test.true) told in
    let next : i + 1 ≤ length inputs = omega (arith, c.loop-index-test.true) in
    let said : HaveSaid quiet lines news = said_more quiet lines _ mids news was.said told in
    elim c.if-are_long.branch [
      | then-are_long+in_ok-flush w ↦
          let whole : map (λ t. t.items) w.as_mut_slice.result.now ≡ news = ap (map (λ t. t.items)) w.as_mut_slice.ensures.value in
          let wrote_news : Wrote g.W.Sink.HasTaken c.loop-index.logs w.flush.new.logs news = subst (Wrote g.W.Sink.HasTaken c.loop-index.logs w.flush.new.logs) whole w.in_ok-flush.ensures.wrote in
          let as_many : length w.flush.new.texts ≡ c.push_turn.new.texts.len =
          sym (length-map w.flush.new.texts (λ t. t.items)) ∙ ap length w.in_ok-flush.ensures.empty ∙ length-map w.as_mut_slice.result.now (λ t. none) ∙ ap length w.as_mut_slice.ensures.value
          ∙ sym c.push_turn.new.texts.ok.0 in
          let silent_texts : map (λ t. t.items) c.if-are_long.texts.items ≡ map (λ r. []) quiet =
          ap (λ (t : Vec (Vec ℕ Global) Global). map (λ x. x.items) t.items) w.texts-is ∙ ap (map (λ x. x.items)) (with_items_is c.push_turn.new.texts w.flush.new.texts as_many) ∙ w.in_ok-flush.ensures.empty
          ∙ all_empty w.as_mut_slice.result.now quiet
          (ap length w.as_mut_slice.ensures.value ∙ said_count (λ t. t.items) c.push_turn.new.texts.items quiet lines (length quiet) said refl) in
          record {
            stands = stands;
            held = λ reads olds silent wrote.
                none_held g.W.Sink.HasTaken reads lines fs inputs a.until olds c.if-are_long.logs _ (i + 1) (silent_texts ∙ ap (map (λ r. [])) silent)
                (subst (λ ls. Wrote g.W.Sink.HasTaken olds ls (texts_after reads lines fs inputs a.until (suc (i + 1)))) (sym w.logs-is)
                (held_written g.W.Sink.HasTaken reads lines fs inputs a.until olds c.loop-index.logs w.flush.new.logs (i + 1) news (held reads olds silent wrote) wrote_news));
            said = said_nothing quiet lines _ c.requires.silent silent_texts;
            sound =
                subst (AreOpen g.W.Sink.failed) (sym w.logs-is) (open_told g.W.Sink.failed g.W.Sink.takes_some (script_clients a.scripts.now) w.flush.new.logs w.in_ok-flush.ensures.marks);
            logs_are = ap length w.logs-is ∙ (wrote_length g.W.Sink.HasTaken c.loop-index.logs w.flush.new.logs news wrote_news).0 ∙ was.logs_are;
            at_most = next;
          }
      | else-are_long w ↦
          let texts_same : map (λ t. t.items) c.if-are_long.texts.items ≡ news = ap (λ (t : Vec (Vec ℕ Global) Global). map (λ x. x.items) t.items) w.texts-is in
          record {
            stands = stands;
            held = λ reads olds silent wrote.
                subst (λ ls. AreHeld g.W.Sink.HasTaken reads lines fs inputs a.until olds ls (i + 1) (map (λ t. t.items) c.if-are_long.texts.items)) (sym w.logs-is)
                (subst (AreHeld g.W.Sink.HasTaken reads lines fs inputs a.until olds c.loop-index.logs (i + 1)) (sym texts_same) (held reads olds silent wrote));
            said = subst (HaveSaid quiet lines) (sym texts_same) said;
            sound = subst (AreOpen g.W.Sink.failed) (sym w.logs-is) was.sound;
            logs_are = ap length w.logs-is ∙ was.logs_are;
            at_most = next;
          }
    ]

pub returns-clause-wrote : goal.returns-clause-wrote
returns-clause-wrote g c =
    let a = c.args in
    let inputs = a.inputs.now in
    let fs : List PlayedFile = a.engine.now.files in
    let quiet = a.seating.now.reads.now in
    let lines = a.seating.now.lines.now in
    let i = c.loop-index.index in
    let all : i ≡ length inputs = omega (arith, c.loop-index.invariant.at_most, c.loop-index-test.false) in
    let mids : List (List ℕ) = map (λ t. t.items) c.loop-index.texts.items in
    let news : List (List ℕ) = map (λ t. t.items) c.push_last.new.texts.items in
    let told : TellMore quiet lines (map Delivered (settle (state_after fs start (take i inputs)) a.until).delivered) mids news =
    subst (λ es. TellMore quiet lines es mids news) (ap (λ (e : Seen). map Delivered (settle e.state a.until).delivered) c.loop-index.invariant.stands) c.in_ok-push_last.ensures.told in
    let n_is : suc (i + 1) ≡ length inputs + 2 = omega (arith, all) in
    on_ok c.flush-2.result _ _
    (λ w reads olds silent wrote.
    subst (λ n. Wrote g.W.Sink.HasTaken olds c.flush-2.new.logs (texts_after reads lines fs inputs a.until n)) n_is
    (held_written g.W.Sink.HasTaken reads lines fs inputs a.until olds c.loop-index.logs c.flush-2.new.logs (i + 1) news
    (held_more g.W.Sink.HasTaken reads lines fs inputs a.until quiet silent olds c.loop-index.logs i mids news _ (c.loop-index.invariant.held reads olds silent wrote) (end_of fs a.until start inputs i all) told)
    (subst (Wrote g.W.Sink.HasTaken c.loop-index.logs c.flush-2.new.logs) (ap (map (λ t. t.items)) c.as_mut_slice-2.ensures.value) w)))
    c.flush-2.ensures.wrote

pub returns-clause-stopped : goal.returns-clause-stopped
returns-clause-stopped g c =
    let a = c.args in
    let inputs = a.inputs.now in
    let fs : List PlayedFile = a.engine.now.files in
    let quiet = a.seating.now.reads.now in
    let lines = a.seating.now.lines.now in
    let i = c.loop-index.index in
    let all : i ≡ length inputs = omega (arith, c.loop-index.invariant.at_most, c.loop-index-test.false) in
    let mids : List (List ℕ) = map (λ t. t.items) c.loop-index.texts.items in
    let news : List (List ℕ) = map (λ t. t.items) c.push_last.new.texts.items in
    let told : TellMore quiet lines (map Delivered (settle (state_after fs start (take i inputs)) a.until).delivered) mids news =
    subst (λ es. TellMore quiet lines es mids news) (ap (λ (e : Seen). map Delivered (settle e.state a.until).delivered) c.loop-index.invariant.stands) c.in_ok-push_last.ensures.told in
    let P : Option ℕ → Type 0 = λ b. IfSome b (λ k. WroteUpTo g.W.Sink.HasTaken k (script_clients a.scripts.now) c.loop-index.logs c.flush-2.new.logs news) in
    at_fault c.flush-2.result P _
    (λ e some part reads olds silent wrote.
    part_stops g.W.Sink.HasTaken reads lines fs inputs a.until e (script_clients a.scripts.now) olds c.loop-index.logs c.flush-2.new.logs (i + 1) news
    (held_more g.W.Sink.HasTaken reads lines fs inputs a.until quiet silent olds c.loop-index.logs i mids news _ (c.loop-index.invariant.held reads olds silent wrote) (end_of fs a.until start inputs i all) told) some part)
    c.flush-2.ensures.only
    (subst (λ ts. IfSome (log_blamed c.flush-2.result) (λ k. WroteUpTo g.W.Sink.HasTaken k (script_clients a.scripts.now) c.loop-index.logs c.flush-2.new.logs ts)) (ap (map (λ t. t.items)) c.as_mut_slice-2.ensures.value) c.flush-2.ensures.part)

pub returns-clause-listing : goal.returns-clause-listing
returns-clause-listing g c =
    let inputs = c.args.inputs.now in
    let fs : List PlayedFile = c.args.engine.now.files in
    let i = c.loop-index in
    let s : State = state_after fs start (take i.index inputs) in
    on_any c.flush-2.result _
    (ap (λ (e : Seen). listing_of e.state) c.in_ok-push_last.ensures.state
    ∙ ap (λ (e : Seen). listing_of (settle e.state c.args.until).state) i.invariant.stands
    ∙ settled_listing s c.args.until
    ∙ ap (λ (xs : List Input). listing_of (state_after fs start xs)) (take_all i.index inputs c.loop-index-test.false))
