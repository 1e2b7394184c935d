-- Ends of a session between which nothing happens.
use Rattle.std.proofs.Common.{◌≡◌, ℕ, zero, suc, ◌+◌, ◌<◌, ◌≤◌, ◌⊎◌, inl, inr, List, [], ◌∷◌, ◌++◌, map, sym, ap, ◌∙◌, append-nil, arith}
use Rattle.std.specs.List.{flat_map}
use Rattle.std.proofs.lemmas.Bool.{cases_lt}
use Rattle.std.proofs.lemmas.Simd.{map-map}
use Rattle.smf_grammar.specs.Played.{PlayedFile}
use Rattle.seq_state.specs.declared.input.Input.{Input}
use Rattle.seq_state.specs.declared.log.LogEntry.TheVariants.{Delivered, Replied}
use Rattle.seq_state.specs.State.{State, start}
use Rattle.seq_state.specs.Step.{all_at, copies_with_room, event_copies, log_from, plain, settle, state_after, step, upto}
use Rattle.script_text.specs.declared.reading.ScriptRead.{ScriptRead}
use Rattle.seq_session.specs.declared.source.Script.{Script}
use Rattle.seq_session.specs.Logs.{log_text}
use Rattle.seq_session.specs.Merging.{inputs_in_order, inputs_of, lines_of}
use Rattle.seq_session.specs.Sessions.{FolderContents, script_reading, all_logs}
use Rattle.seq_session.specs.Laws.{IsIdleBetween, LaterEndLaw}

upto_idle : {X : Type 0} (f : ℕ → List X) (end later : ℕ) → end ≤ later → ((m : ℕ) → end < m → m ≤ later → f m ≡ []) → upto f end ≡ upto f later
unfolding upto
upto_idle f end zero le idle = let same : end ≡ zero = omega arith in ap (upto f) same
upto_idle f end (suc later) le idle = go (cases_lt later end) (upto_idle f end later)
  where
    go : (later < end) ⊎ (end ≤ later) → (end ≤ later → ((m : ℕ) → end < m → m ≤ later → f m ≡ []) → upto f end ≡ upto f later) → upto f end ≡ upto f (suc later)
    go (inl lt) more = let same : end ≡ suc later = omega arith in ap (upto f) same
    go (inr less) more =
        more less (λ m after before. idle m after (omega arith)) ∙ sym (append-nil (upto f later)) ∙ ap (λ xs. upto f later ++ xs) (sym (idle (suc later) (omega arith) (omega arith)))

settled_idle : (s : State) (end later : ℕ) → end ≤ later → IsIdleBetween s end later → map Delivered (settle s end).delivered ≡ map Delivered (settle s later).delivered
settled_idle s end later le idle = ap (λ xs. map Delivered (copies_with_room s.pools (flat_map (event_copies s) xs))) (upto_idle (all_at s.clients s.pending) end later le idle)

log_idle : (files : List PlayedFile) (s : State) (place : ℕ) (inputs : List Input) (end later : ℕ) → end ≤ later → IsIdleBetween (state_after files s inputs) end later →
    log_from files s place inputs end ≡ log_from files s place inputs later
log_idle files s place [] end later le idle = settled_idle s end later le idle
log_idle files s place (i ∷ inputs) end later le idle =
    ap (λ xs. map Delivered (step files s i).delivered ++ Replied place i.moment i.actor (step files s i).reply ∷ xs)
    (log_idle files (step files s i).state (place + 1) inputs end later le idle)

-- the logs, from how the scripts read
abbrev logs_read : FolderContents → ℕ → List ScriptRead → List (List ℕ)
logs_read folder end reads =
    map (λ r. log_text r (lines_of (inputs_in_order reads)) (plain folder.files (inputs_of (inputs_in_order reads)) end)) reads

are_read : (folder : FolderContents) (end : ℕ) (scripts : List Script) → all_logs folder end scripts ≡ logs_read folder end (map (script_reading folder end) scripts)
are_read folder end scripts =
    let reads = map (script_reading folder end) scripts in
    sym (map-map (λ r. log_text r (lines_of (inputs_in_order reads)) (plain folder.files (inputs_of (inputs_in_order reads)) end)) (script_reading folder end) scripts)

pub later_end_law : LaterEndLaw
later_end_law folder end later scripts le same idle =
    let reads = map (script_reading folder end) scripts in
    are_read folder end scripts
    ∙ ap (λ log. map (λ r. log_text r (lines_of (inputs_in_order reads)) log) reads) (log_idle folder.files start 0 (inputs_of (inputs_in_order reads)) end later le idle)
    ∙ ap (logs_read folder later) same
    ∙ sym (are_read folder later scripts)
