-- Sessions whose runs are worked out.
use Rattle.std.proofs.Common.{◌≡◌, ℕ, List, ap, ◌∙◌}
use Rattle.seq_state.specs.declared.log.LogEntry.{LogEntry}
use Rattle.seq_state.specs.declared.input.Input.{Input}
use Rattle.seq_state.specs.Step.{plain}
use Rattle.seq_session.specs.Merging.{inputs_of, lines_of}
use Rattle.seq_session.specs.Logs.{log_text}
use Rattle.seq_session.specs.declared.source.Script.{Script}
use Rattle.seq_session.specs.Sessions.{FolderContents, script_reading, session, log_of}

-- the log of a script, where it is known what its session says and what happens then
pub log_by : (folder : FolderContents) (end : ℕ) (scripts : List Script) (s : Script) (inputs : List Input) (lines : List ℕ) (log : List LogEntry) (text : List ℕ) →
    inputs_of (session folder end scripts) ≡ inputs → lines_of (session folder end scripts) ≡ lines → plain folder.files inputs end ≡ log → log_text (script_reading folder end s) lines log ≡ text →
    log_of folder end scripts s ≡ text
log_by folder end scripts s inputs lines log text e f g h =
    ap (λ is. log_text (script_reading folder end s) (lines_of (session folder end scripts)) (plain folder.files is end)) e
    ∙ ap (λ ls. log_text (script_reading folder end s) ls (plain folder.files inputs end)) f
    ∙ ap (log_text (script_reading folder end s) lines) g
    ∙ h
