-- What the texts of a session are, and that each log is isolated.
use Rattle.std.proofs.Common.{◌≡◌, ℕ, ◌≤◌, ◌<◌, Bool, cond, List, [], ◌∷◌, map, length, Option, Some, None, OnOk, OnErr, IfErr, Result, Ok, Err, refl, sym, ap, subst, ◌∙◌, arith}
use Rattle.std.specs.List.{AllByRecursion}
use Rattle.std.proofs.lemmas.Bool.{eq-eqb, ne_eqb}
use Rattle.std.proofs.lemmas.List.{length-map}
use Rattle.seq_state.specs.declared.log.LogEntry.{LogEntry}
use Rattle.seq_state.specs.State.{start}
use Rattle.seq_state.specs.Step.{plain, state_after}
use Rattle.seq_engine.specs.Ending.{listing_of}
use Rattle.seq_engine.specs.Losses.{losses}
use Rattle.byte_io.specs.Moved.{Took, TookPart}
use Rattle.script_text.specs.declared.reading.ScriptRead.{ScriptRead}
use Rattle.script_text.proofs.Read.{script-client}
use Rattle.seq_session.specs.declared.fault.SessionFault.{SessionFault}
use Rattle.seq_session.specs.declared.fault.SessionFault.TheVariants.{OutOfMemory, Read, Write, WriteListing}
use Rattle.seq_session.specs.declared.merged.Merged.{Merged}
use Rattle.seq_session.specs.declared.session_run.SessionRun.{SessionRun}
use Rattle.seq_session.specs.declared.source.Script.{Script}
use Rattle.seq_session.specs.declared.source.ScriptSource.{ScriptSource}
use Rattle.seq_session.specs.Rising.{RiseFrom, AreRising}
use Rattle.seq_session.specs.Merging.{lines_of, merge_of}
use Rattle.seq_session.specs.Logs.{log_text}
use Rattle.seq_session.specs.AllLogs.{clients_read, logs_of}
use Rattle.seq_session.specs.Sessions.{FolderContents, script_reading, session, happens, log_of, all_logs, listing_after, script_clients, script_for}
use Rattle.seq_session.specs.Devices.{clients, AreRead, AreOpen, Wrote, AreAlone, IsSession, IsRunOf, log_of_fault, IsReading, LogsTell}
use Rattle.seq_session.proofs.Blamed.{none_told}
use Rattle.seq_session.proofs.Isolated.{log_law}

-- ---- the texts

pub read-clients : (folder : FolderContents) (end : ℕ) (scripts : List Script) → clients_read (map (script_reading folder end) scripts) ≡ script_clients scripts
read-clients folder end [] = refl
read-clients folder end (s ∷ scripts) =
    ap (λ c. c ∷ clients_read (map (script_reading folder end) scripts)) (script-client s.client folder.names end s.text)
    ∙ ap (λ cs. s.client ∷ cs) (read-clients folder end scripts)

each_text : (folder : FolderContents) (end : ℕ) (lines : List ℕ) (entries : List LogEntry) (scripts : List Script) →
    map (λ r. log_text r lines entries) (map (script_reading folder end) scripts) ≡ map (λ s. log_text (script_reading folder end s) lines entries) scripts
each_text folder end lines entries [] = refl
each_text folder end lines entries (s ∷ scripts) = ap (λ ts. log_text (script_reading folder end s) lines entries ∷ ts) (each_text folder end lines entries scripts)

-- the logs of what was merged are those of the scripts
pub logs_merged : (folder : FolderContents) (end : ℕ) (scripts : List Script) (reads : List ScriptRead) (merged : Merged) → reads ≡ map (script_reading folder end) scripts → merged ≡ merge_of (map (script_reading folder end) scripts) →
    logs_of reads merged.lines (plain folder.files merged.inputs end) ≡ all_logs folder end scripts
logs_merged folder end scripts reads merged r m =
    ap (λ rs. logs_of rs merged.lines (plain folder.files merged.inputs end)) r
    ∙ ap (λ (n : Merged). logs_of (map (script_reading folder end) scripts) n.lines (plain folder.files n.inputs end)) m
    ∙ each_text folder end (lines_of (session folder end scripts)) (happens folder end scripts) scripts

pub logs_made : (folder : FolderContents) (end : ℕ) (scripts : List Script) (run : SessionRun) → IsRunOf folder end scripts run →
    map (λ r. log_text r run.merged.lines run.log.entries) run.reads ≡ all_logs folder end scripts
logs_made folder end scripts run is =
    ap (map (λ r. log_text r run.merged.lines run.log.entries)) is.reads
    ∙ each_text folder end run.merged.lines run.log.entries scripts
    ∙ ap (λ es. map (λ s. log_text (script_reading folder end s) run.merged.lines es) scripts) is.plain
    ∙ ap (λ ls. map (λ s. log_text (script_reading folder end s) ls (happens folder end scripts)) scripts) is.lines

-- what was read, merged and run is the run of the scripts
pub run_of : (folder : FolderContents) (end : ℕ) (scripts : List Script) (run : SessionRun) →
    run.scripts ≡ scripts → run.reads ≡ map (script_reading folder end) scripts → run.merged ≡ merge_of (map (script_reading folder end) scripts) →
    run.log.entries ≡ plain folder.files run.merged.inputs end → run.log.listing ≡ listing_of (state_after folder.files start run.merged.inputs) →
    run.log.losses ≡ losses folder.files run.merged.inputs end → IsRunOf folder end scripts run
run_of folder end scripts run s r m p l x = record {
  scripts_are = s;
  reads = r;
  inputs = ap (λ (n : Merged). n.inputs) m;
  lines = ap (λ (n : Merged). n.lines) m;
  plain = p ∙ ap (λ (n : Merged). plain folder.files n.inputs end) m;
  listing = l ∙ ap (λ (n : Merged). listing_of (state_after folder.files start n.inputs)) m;
  losses = x ∙ ap (λ (n : Merged). losses folder.files n.inputs end) m;
}

-- ---- each log is isolated

later_scripts : (s : Script) (low : ℕ) (ss xs : List Script) → s.client ≤ low → RiseFrom low (script_clients xs) → AllByRecursion (λ x. script_for x.client ss ≡ Some x) xs → AllByRecursion (λ x. script_for x.client (s ∷ ss) ≡ Some x) xs
later_scripts s low ss [] l r h = tt
later_scripts s low ss (x ∷ xs) l r h =
    let m : low < x.client = r.0 in
    (ap (λ b. cond b (Some s) (script_for x.client ss)) (ne_eqb s.client x.client (λ e. omega arith)) ∙ h.0, later_scripts s x.client ss xs (omega arith) r.1 h.1)

own_from : (low : ℕ) (scripts : List Script) → RiseFrom low (script_clients scripts) → AllByRecursion (λ x. script_for x.client scripts ≡ Some x) scripts
own_from low [] r = tt
own_from low (s ∷ scripts) r =
    (ap (λ b. cond b (Some s) (script_for s.client scripts)) (eq-eqb s.client s.client refl), later_scripts s s.client scripts scripts (omega arith) r.1 (own_from s.client scripts r.1))

-- each client's script is the one that stands for it
own_scripts : (scripts : List Script) → AreRising (script_clients scripts) → AllByRecursion (λ x. script_for x.client scripts ≡ Some x) scripts
own_scripts [] r = tt
own_scripts (s ∷ scripts) r =
    (ap (λ b. cond b (Some s) (script_for s.client scripts)) (eq-eqb s.client s.client refl), later_scripts s s.client scripts scripts (omega arith) r (own_from s.client scripts r))

module _ {W : Type 0} (folder : FolderContents) (end : ℕ) (HasTaken : W → List ℕ → Type 0) (scripts : List Script) (rise : AreRising (script_clients scripts)) where
  each_alone : (owners : List Script) (olds news : List W) → AllByRecursion (λ x. script_for x.client scripts ≡ Some x) owners → Wrote HasTaken olds news (map (log_of folder end scripts) owners) → AreAlone folder end HasTaken scripts owners olds news
  each_alone [] [] [] own h = tt
  each_alone [] [] (n ∷ news) own h = h
  each_alone [] (o ∷ olds) [] own h = h
  each_alone [] (o ∷ olds) (n ∷ news) own h = h
  each_alone (s ∷ owners) [] [] own h = h
  each_alone (s ∷ owners) [] (n ∷ news) own h = h
  each_alone (s ∷ owners) (o ∷ olds) [] own h = h
  each_alone (s ∷ owners) (o ∷ olds) (n ∷ news) own h = (
    record { gained = log_of folder end scripts s; took = h.0; alone = λ member closed. log_law folder end s member scripts rise own.0 closed },
    each_alone owners olds news own.1 h.1,
  )

  pub all_alone : (olds news : List W) → Wrote HasTaken olds news (all_logs folder end scripts) → AreAlone folder end HasTaken scripts scripts olds news
  all_alone olds news h = each_alone scripts olds news (own_scripts scripts rise) h

-- ---- before anything is written

pub no_log : (e : SessionFault) → IsReading e → log_of_fault e ≡ None
no_log OutOfMemory h = refl
no_log (Read client) h = refl
no_log (Write client) h = absurd h
no_log WriteListing h = absurd h

-- no log is blamed
pub none_blamed : {R W : Type 0} (failed eager : W → Bool) (blamed : Option ℕ) (sources : List (ScriptSource R)) (logs : List W) →
    blamed ≡ None → length logs ≡ length sources → AreOpen failed logs → LogsTell failed eager blamed (clients sources) logs
none_blamed failed eager blamed sources logs b n s =
    subst (λ bl. LogsTell failed eager bl (clients sources) logs) (sym b)
    (none_told failed eager (clients sources) logs (n ∙ sym (length-map sources (λ s. s.client))) s)

-- ---- a session that comes to its listing

module _ {R W : Type 0} {HasLeft : R → List ℕ → Type 0} {HasTaken : W → List ℕ → Type 0} {folder : FolderContents} {end : ℕ} {sources rests : List (ScriptSource R)} {olds news : List W} {before after : W} (scripts : List Script) {text : List ℕ} where
  pub at_listing : (r : Result (Unit {0}) SessionFault) → AreRead HasLeft sources rests scripts → AreRising (script_clients scripts) → Wrote HasTaken olds news (all_logs folder end scripts) → text ≡ listing_after folder end scripts →
      OnOk r (Took HasTaken before text after) → OnErr r (TookPart HasTaken before text after) → IfErr r (λ e. e ≡ WriteListing) → IsSession HasLeft HasTaken folder end sources rests olds news before after r
  at_listing (Ok u) script_reading rise wrote same took part fault = record {
    scripts = scripts;
    read = script_reading;
    written = record {
      logs = wrote;
      listing = subst (λ t. Took HasTaken before t after) same took;
      isolated = all_alone folder end HasTaken scripts rise olds news wrote;
    };
  }
  at_listing (Err WriteListing) script_reading rise wrote same took part fault = record {
    scripts = scripts;
    read = script_reading;
    written = record { whole = wrote; listing_part = subst (λ t. TookPart HasTaken before t after) same part };
  }
  at_listing (Err OutOfMemory) script_reading rise wrote same took part fault = cc
  at_listing (Err (Read client)) script_reading rise wrote same took part fault = cc
  at_listing (Err (Write client)) script_reading rise wrote same took part fault = cc
