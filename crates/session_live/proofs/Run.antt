-- Each client is answered what the run of its scripts gives it as its log.
use Rattle.std.proofs.Common.{◌≡◌, ℕ, ◌+◌, Bool, true, false, cond, eqb, not, List, [], ◌∷◌, ◌++◌, map, length, Option, Some, None, refl, sym, ap, ◌∙◌, append-nil, append_assoc}
use Rattle.std.specs.Prelude.{slice_get}
use Rattle.std.specs.List.{flat_map, list_all}
use Rattle.std.proofs.lemmas.Bool.{false≢true}
use Rattle.std.proofs.lemmas.List.{length-append}
use Rattle.seq_state.specs.declared.log.Delivery.{Delivery}
use Rattle.seq_state.specs.declared.log.LogEntry.{LogEntry}
use Rattle.seq_state.specs.declared.log.LogEntry.TheVariants.{Delivered, Replied}
use Rattle.smf_grammar.specs.Played.{PlayedFile}
use Rattle.seq_state.specs.Circle.{is_to}
use Rattle.seq_state.specs.State.{State, start}
use Rattle.seq_state.specs.Step.{Stepped, Settled, step, settle, log_from, plain}
use Rattle.seq_state.proofs.Lists.{flat_map-append, both_left, both_right}
use Rattle.script_text.proofs.Read.{script-client}
use Rattle.script_text.specs.declared.reading.SkipReason.{SkipReason}
use Rattle.seq_session.specs.Logs.{delivery_line, reply_text, skip_line, skips_text, entry_text, entries_text}
use Rattle.seq_session.specs.Merging.{inputs_of, lines_of}
use Rattle.seq_session.specs.Sessions.{script_reading, session, happens}
use Rattle.session_live.specs.Lines.{Item, PassedOver, Skipped, Said, Waited, Asked, inputs_in, numbered_inputs, is_unskipped, IsTimedUpTo}
use Rattle.session_live.specs.Answers.{Part, Comes, Answers, Skips, Lists, ended, answers_from, items_of, answers_to, parts_text, state_from}
use Rattle.session_live.specs.Texts.{log_in, part_log, skip_log}
use Rattle.session_live.specs.Laws.{RunLaw}
use Rattle.session_live.proofs.Fronts.{text_law}
use Rattle.session_live.proofs.Plain.{log-settled, timed_inputs}

inputs-numbered : (xs : List Item) → inputs_in xs ≡ inputs_of (numbered_inputs xs)
inputs-numbered [] = refl
inputs-numbered (Said n i ∷ xs) = ap (λ is. i ∷ is) (inputs-numbered xs)
inputs-numbered (PassedOver ∷ xs) = inputs-numbered xs
inputs-numbered (Skipped c n why ∷ xs) = inputs-numbered xs
inputs-numbered (Waited m ∷ xs) = inputs-numbered xs
inputs-numbered (Asked ∷ xs) = inputs-numbered xs

-- the line of an input is found at its place
line_there : (before : List ℕ) (n : ℕ) (after : List ℕ) → slice_get (before ++ n ∷ after) (length before) ≡ Some n
line_there [] n after = refl
line_there (b ∷ before) n after = line_there before n after

-- one more line stands before the rest
line_passed : (before : List ℕ) (n : ℕ) (after : List ℕ) → (before ++ n ∷ []) ++ after ≡ before ++ n ∷ after
line_passed before n after = append_assoc before (n ∷ []) after

module _ (owner : ℕ) where
  abbrev said_to : List Part → List ℕ
  said_to parts = flat_map (part_log owner) parts

  -- deliveries have no line
  comes-text : (lines : List ℕ) (ds : List Delivery) → said_to (map Comes ds) ≡ entries_text owner lines (map Delivered ds)
  comes-text lines [] = refl
  comes-text lines (d ∷ ds) = ap (λ t. (cond (is_to owner d) (delivery_line d) []) ++ t) (comes-text lines ds)

  -- what is due next is nobody's
  ended-text : (parts : List Part) (s : State) (more : List Part) → said_to (ended parts s ++ more) ≡ said_to parts ++ said_to more
  ended-text parts s more =
      flat_map-append (part_log owner) (ended parts s) more
      ∙ ap (λ t. t ++ said_to more) (flat_map-append (part_log owner) parts (ended [] s) ∙ append-nil (said_to parts))

  unskipped_log : (client : Option ℕ) (n : ℕ) (why : SkipReason) → is_unskipped owner (Skipped client n why) ≡ true → skip_log owner client n why ≡ []
  unskipped_log None n why h = refl
  unskipped_log (Some c) n why h = go (eqb c owner) h
    where
      go : (b : Bool) → not b ≡ true → cond b (skip_line (record { line = n; why = why })) [] ≡ []
      go true e = absurd (false≢true e)
      go false e = refl

  module _ (files : List PlayedFile) (end : ℕ) where
    abbrev all_said : State → List Item → List ℕ
    all_said s xs = said_to (answers_from files s xs) ++ entries_text owner [] (map Delivered (settle (state_from files s xs) end).delivered)

    abbrev run_text : State → List ℕ → List Item → List ℕ
    run_text s before xs = entries_text owner (before ++ lines_of (numbered_inputs xs)) (log_from files s (length before) (inputs_in xs) end)

    -- an answer, and what follows
    with_answer : (parts : List Part) (s : State) (xs : List Item) (t log : List ℕ) → said_to parts ≡ t → all_said s xs ≡ log →
        said_to (ended parts s ++ answers_from files s xs) ++ entries_text owner [] (map Delivered (settle (state_from files s xs) end).delivered) ≡ t ++ log
    with_answer parts s xs t log e f =
        ap (λ y. y ++ entries_text owner [] (map Delivered (settle (state_from files s xs) end).delivered)) (ended-text parts s (answers_from files s xs) ∙ ap (λ y. y ++ said_to (answers_from files s xs)) e)
        ∙ append_assoc t (said_to (answers_from files s xs)) (entries_text owner [] (map Delivered (settle (state_from files s xs) end).delivered))
        ∙ ap (λ y. t ++ y) f

    run_from : (xs : List Item) (s : State) (before : List ℕ) (now : ℕ) → IsTimedUpTo now xs end → list_all (is_unskipped owner) xs ≡ true → all_said s xs ≡ run_text s before xs
    run_from [] s before now h k =
        let ds : List Delivery = (settle s end).delivered in
        sym (comes-text [] ds) ∙ comes-text (before ++ []) ds
    run_from (Said n i ∷ xs) s before now h k =
        let a : Stepped = step files s i in
        let after : List ℕ = lines_of (numbered_inputs xs) in
        let lines : List ℕ = before ++ n ∷ after in
        let log : List LogEntry = log_from files a.state (length before + 1) (inputs_in xs) end in
        let reply : List ℕ = cond (eqb i.actor owner) (reply_text i.moment (Some n) a.reply) [] in
        let next : all_said a.state xs ≡ entries_text owner lines log =
        run_from xs a.state (before ++ n ∷ []) i.moment h.1 k
        ∙ ap (λ ls. entries_text owner ls (log_from files a.state (length (before ++ n ∷ [])) (inputs_in xs) end)) (line_passed before n after)
        ∙ ap (λ p. entries_text owner lines (log_from files a.state p (inputs_in xs) end)) (length-append before (n ∷ [])) in
        with_answer (map Comes a.delivered ++ Answers n i a.reply ∷ []) a.state xs
        (entries_text owner lines (map Delivered a.delivered) ++ reply) (entries_text owner lines log)
        (flat_map-append (part_log owner) (map Comes a.delivered) (Answers n i a.reply ∷ [])
        ∙ ap (λ t. t ++ (reply ++ [])) (comes-text lines a.delivered) ∙ ap (λ t. entries_text owner lines (map Delivered a.delivered) ++ t) (append-nil reply))
        next
        ∙ append_assoc (entries_text owner lines (map Delivered a.delivered)) reply (entries_text owner lines log)
        ∙ ap (λ o. entries_text owner lines (map Delivered a.delivered) ++ (cond (eqb i.actor owner) (reply_text i.moment o a.reply) [] ++ entries_text owner lines log)) (sym (line_there before n after))
        ∙ sym (flat_map-append (entry_text owner lines) (map Delivered a.delivered) (Replied (length before) i.moment i.actor a.reply ∷ log))
    run_from (Waited m ∷ xs) s before now h k =
        let u : Settled = settle s m in
        let lines : List ℕ = before ++ lines_of (numbered_inputs xs) in
        let log : List LogEntry = log_from files u.state (length before) (inputs_in xs) end in
        with_answer (map Comes u.delivered) u.state xs (entries_text owner lines (map Delivered u.delivered)) (entries_text owner lines log)
        (comes-text lines u.delivered) (run_from xs u.state before m h.1 k)
        ∙ sym (flat_map-append (entry_text owner lines) (map Delivered u.delivered) log)
        ∙ ap (entries_text owner lines) (log-settled files (inputs_in xs) s m (length before) end (timed_inputs xs m end h.1))
    run_from (PassedOver ∷ xs) s before now h k = run_from xs s before now h k
    run_from (Skipped c n why ∷ xs) s before now h k =
        with_answer (Skips c n why ∷ []) s xs [] (run_text s before xs)
        (append-nil (skip_log owner c n why) ∙ unskipped_log c n why (both_left (is_unskipped owner (Skipped c n why)) (list_all (is_unskipped owner) xs) k))
        (run_from xs s before now h (both_right (is_unskipped owner (Skipped c n why)) (list_all (is_unskipped owner) xs) k))
    run_from (Asked ∷ xs) s before now h k = with_answer (Lists s ∷ []) s xs [] (run_text s before xs) refl (run_from xs s before now h k)

pub run_law : RunLaw
run_law folder end scripts s ls e h k =
    let xs : List Item = items_of folder ls in
    let rest : List ℕ = entries_text s.client [] (map Delivered (settle (state_from folder.files start xs) end).delivered) in
    append_assoc (skips_text (script_reading folder end s).skips) (log_in s.client (parts_text (answers_to folder ls))) rest
    ∙ ap (λ t. skips_text (script_reading folder end s).skips ++ t)
    (ap (λ t. t ++ rest) (text_law folder s.client ls)
    ∙ run_from s.client folder.files end xs start [] 0 h k
    ∙ ap (λ is. entries_text s.client (lines_of (numbered_inputs xs)) (log_from folder.files start 0 is end)) (inputs-numbered xs)
    ∙ ap (λ ys. entries_text s.client (lines_of ys) (plain folder.files (inputs_of ys) end)) e
    ∙ ap (λ c. entries_text c (lines_of (session folder end scripts)) (happens folder end scripts)) (sym (script-client s.client folder.names end s.text)))
