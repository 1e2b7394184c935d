-- The answers to a text are the plain run of its inputs.
use Rattle.std.proofs.Common.{◌≡◌, ℕ, ◌+◌, ◌≤◌, List, [], ◌∷◌, ◌++◌, map, refl, sym, ap, ◌∙◌, arith, append-nil, append_assoc}
use Rattle.std.specs.List.{flat_map}
use Rattle.std.proofs.lemmas.List.{map-append}
use Rattle.seq_state.specs.declared.input.Input.{Input}
use Rattle.seq_state.specs.declared.log.Delivery.{Delivery}
use Rattle.seq_state.specs.declared.log.LogEntry.{LogEntry}
use Rattle.seq_state.specs.declared.log.LogEntry.TheVariants.{Delivered, Replied}
use Rattle.smf_grammar.specs.Played.{PlayedFile}
use Rattle.seq_state.specs.State.{State, start}
use Rattle.seq_state.specs.Step.{IsTimedFrom, Stepped, Settled, command_step, step, settle, log_from}
use Rattle.seq_state.proofs.Lists.{flat_map-append}
use Rattle.seq_state.proofs.Settling.{settling_law}
use Rattle.session_live.specs.Lines.{Item, PassedOver, Skipped, Said, Waited, Asked, inputs_in, IsTimedUpTo}
use Rattle.session_live.specs.Answers.{Part, Comes, Answers, ended, answers_from, state_from, unplaced, entry_of}
use Rattle.session_live.specs.Laws.{PlainLaw}

-- ---- moments

timed_before : (m n : ℕ) (inputs : List Input) (end : ℕ) → m ≤ n → IsTimedFrom n inputs end → IsTimedFrom m inputs end
timed_before m n [] end l h = omega arith
timed_before m n (i ∷ inputs) end l h = let k : n ≤ i.moment = h.0 in (omega arith, h.1)

pub timed_inputs : (xs : List Item) (now end : ℕ) → IsTimedUpTo now xs end → IsTimedFrom now (inputs_in xs) end
timed_inputs [] now end h = h
timed_inputs (Said n i ∷ xs) now end h = (h.0, timed_inputs xs i.moment end h.1)
timed_inputs (Waited m ∷ xs) now end h = timed_before now m (inputs_in xs) end h.0 (timed_inputs xs m end h.1)
timed_inputs (PassedOver ∷ xs) now end h = timed_inputs xs now end h
timed_inputs (Skipped c n why ∷ xs) now end h = timed_inputs xs now end h
timed_inputs (Asked ∷ xs) now end h = timed_inputs xs now end h

-- ---- entries

entries-comes : (ds : List Delivery) → flat_map entry_of (map Comes ds) ≡ map Delivered ds
entries-comes [] = refl
entries-comes (d ∷ ds) = ap (λ es. Delivered d ∷ es) (entries-comes ds)

delivered-unplaced : (ds : List Delivery) → map unplaced (map Delivered ds) ≡ map Delivered ds
delivered-unplaced [] = refl
delivered-unplaced (d ∷ ds) = ap (λ es. Delivered d ∷ es) (delivered-unplaced ds)

entries-ended : (parts : List Part) (s : State) → flat_map entry_of (ended parts s) ≡ flat_map entry_of parts
entries-ended parts s = flat_map-append entry_of parts (ended [] s) ∙ append-nil (flat_map entry_of parts)

-- ---- settling before a run

module _ (files : List PlayedFile) where
  abbrev command_of : Input → State → Stepped
  command_of i s = command_step files s i.moment i.actor i.command

  pub log-settled : (inputs : List Input) (s : State) (m place end : ℕ) → IsTimedFrom m inputs end →
      map Delivered (settle s m).delivered ++ log_from files (settle s m).state place inputs end ≡ log_from files s place inputs end
  log-settled [] s m place end h =
      sym (map-append Delivered (settle s m).delivered (settle (settle s m).state end).delivered) ∙ ap (map Delivered) (settling_law s m end h).1
  log-settled (i ∷ inputs) s m place end h =
      let law = settling_law s m i.moment h.0 in
      let first : List Delivery = (settle s m).delivered in
      let u : Settled = settle (settle s m).state i.moment in
      let after : State → List LogEntry = λ v. Replied place i.moment i.actor (command_of i v).reply ∷ log_from files (command_of i v).state (place + 1) inputs end in
      sym (append_assoc (map Delivered first) (map Delivered (u.delivered ++ (command_of i u.state).delivered)) (after u.state))
      ∙ ap (λ xs. xs ++ after u.state)
      (sym (map-append Delivered first (u.delivered ++ (command_of i u.state).delivered)) ∙ ap (map Delivered) (sym (append_assoc first u.delivered (command_of i u.state).delivered)))
      ∙ ap (λ ds. map Delivered (ds ++ (command_of i u.state).delivered) ++ after u.state) law.1
      ∙ ap (λ v. map Delivered ((settle s i.moment).delivered ++ (command_of i v).delivered) ++ after v) law.0

  -- ---- the answers

  abbrev rest_of : State → List Item → ℕ → List LogEntry
  rest_of s xs end = flat_map entry_of (answers_from files s xs) ++ map Delivered (settle (state_from files s xs) end).delivered

  -- an answer, and what follows
  with_answer : (parts : List Part) (s : State) (xs : List Item) (end : ℕ) (es log : List LogEntry) → flat_map entry_of parts ≡ es → rest_of s xs end ≡ log →
      flat_map entry_of (ended parts s ++ answers_from files s xs) ++ map Delivered (settle (state_from files s xs) end).delivered ≡ es ++ log
  with_answer parts s xs end es log e f =
      ap (λ ys. ys ++ map Delivered (settle (state_from files s xs) end).delivered) (flat_map-append entry_of (ended parts s) (answers_from files s xs) ∙ ap (λ ys. ys ++ flat_map entry_of (answers_from files s xs)) (entries-ended parts s ∙ e))
      ∙ append_assoc es (flat_map entry_of (answers_from files s xs)) (map Delivered (settle (state_from files s xs) end).delivered)
      ∙ ap (λ ys. es ++ ys) f

  plain_from : (xs : List Item) (s : State) (now place end : ℕ) → IsTimedUpTo now xs end → rest_of s xs end ≡ map unplaced (log_from files s place (inputs_in xs) end)
  plain_from [] s now place end h = sym (delivered-unplaced (settle s end).delivered)
  plain_from (Said n i ∷ xs) s now place end h =
      let a : Stepped = step files s i in
      let log : List LogEntry = log_from files a.state (place + 1) (inputs_in xs) end in
      with_answer (map Comes a.delivered ++ Answers n i a.reply ∷ []) a.state xs end (map Delivered a.delivered ++ Replied 0 i.moment i.actor a.reply ∷ []) (map unplaced log)
      (flat_map-append entry_of (map Comes a.delivered) (Answers n i a.reply ∷ []) ∙ ap (λ es. es ++ Replied 0 i.moment i.actor a.reply ∷ []) (entries-comes a.delivered))
      (plain_from xs a.state i.moment (place + 1) end h.1)
      ∙ append_assoc (map Delivered a.delivered) (Replied 0 i.moment i.actor a.reply ∷ []) (map unplaced log)
      ∙ ap (λ es. es ++ Replied 0 i.moment i.actor a.reply ∷ map unplaced log) (sym (delivered-unplaced a.delivered))
      ∙ sym (map-append unplaced (map Delivered a.delivered) (Replied place i.moment i.actor a.reply ∷ log))
  plain_from (Waited m ∷ xs) s now place end h =
      let u : Settled = settle s m in
      let log : List LogEntry = log_from files u.state place (inputs_in xs) end in
      with_answer (map Comes u.delivered) u.state xs end (map Delivered u.delivered) (map unplaced log) (entries-comes u.delivered) (plain_from xs u.state m place end h.1)
      ∙ ap (λ es. es ++ map unplaced log) (sym (delivered-unplaced u.delivered))
      ∙ sym (map-append unplaced (map Delivered u.delivered) log)
      ∙ ap (map unplaced) (log-settled (inputs_in xs) s m place end (timed_inputs xs m end h.1))
  plain_from (PassedOver ∷ xs) s now place end h = plain_from xs s now place end h
  plain_from (Skipped c n why ∷ xs) s now place end h = plain_from xs s now place end h
  plain_from (Asked ∷ xs) s now place end h = plain_from xs s now place end h

pub plain_law : PlainLaw
plain_law files xs end h = plain_from files xs start 0 0 end h
