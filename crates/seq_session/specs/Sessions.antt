-- Definition: A session: scripts of clients, run together, and the log of each.
use Rattle.std.specs.Prelude.{ℕ, ◌==◌, Bool, if◌then◌else◌, List, [], ◌∷◌, map, Option, Some, None}
use Rattle.std.specs.List.{filter}
use Rattle.node_table.specs.declared.number.PortAddr.{PortAddr}
use Rattle.seq_state.specs.declared.log.LogEntry.{LogEntry}
use Rattle.smf_grammar.specs.Played.{PlayedFile}
use Rattle.seq_state.specs.State.{start}
use Rattle.seq_state.specs.Step.{plain, state_after}
use Rattle.seq_engine.specs.Ending.{listing_of}
use Rattle.seq_engine.specs.Losses.{losses}
use Rattle.seq_engine.specs.declared.losses.Loss.{Loss}
use Rattle.script_text.specs.declared.reading.ScriptRead.{ScriptRead}
use Rattle.script_text.specs.declared.reading.ScriptInput.{ScriptInput}
use Rattle.script_text.specs.Scripts.{script}
use Rattle.seq_session.specs.declared.diagnostic.Diagnostic.{Diagnostic}
use Rattle.seq_session.specs.declared.slip.SlipOnLine.{SlipOnLine}
use Rattle.seq_session.specs.declared.source.Script.{Script}
use Rattle.seq_session.specs.Diagnostics.{diagnostics}
use Rattle.seq_session.specs.Merging.{inputs_in_order, inputs_of, lines_of, merge_of}
use Rattle.seq_session.specs.Logs.{log_text}
use Rattle.seq_session.specs.MadePorts.{had_port}
use Rattle.seq_session.specs.Slips.{slips}

-- The files of a run, with their names.
pub record FolderContents : Type 0 where
  pub names : List (List ℕ)
  pub files : List PlayedFile

abbrev pub script_reading : FolderContents → ℕ → Script → ScriptRead
script_reading folder end s = script s.client folder.names end s.text

-- the inputs of the session, in order, with their lines
abbrev pub session : FolderContents → ℕ → List Script → List ScriptInput
session folder end scripts = inputs_in_order (map (script_reading folder end) scripts)

-- what happens
abbrev pub happens : FolderContents → ℕ → List Script → List LogEntry
happens folder end scripts = plain folder.files (inputs_of (session folder end scripts)) end

-- the log of one of the scripts
abbrev pub log_of : FolderContents → ℕ → List Script → Script → List ℕ
log_of folder end scripts s =
    log_text (script_reading folder end s) (lines_of (session folder end scripts))
    (happens folder end scripts)

-- each script's log
abbrev pub all_logs : FolderContents → ℕ → List Script → List (List ℕ)
all_logs folder end scripts = map (log_of folder end scripts) scripts

-- the listing at the end
abbrev pub listing_after : FolderContents → ℕ → List Script → List ℕ
listing_after folder end scripts =
    listing_of (state_after folder.files start (inputs_of (session folder end scripts)))

-- what the clients lose
abbrev pub lost_in : FolderContents → ℕ → List Script → List Loss
lost_in folder end scripts = losses folder.files (inputs_of (session folder end scripts)) end

-- the lines that did nothing
abbrev pub diagnosed_in : FolderContents → ℕ → List Script → List Diagnostic
diagnosed_in folder end scripts =
    diagnostics scripts (map (script_reading folder end) scripts)
    (merge_of (map (script_reading folder end) scripts)) (happens folder end scripts)

-- the lines that did most likely not what was meant
abbrev pub slips_in : FolderContents → ℕ → List Script → List SlipOnLine
slips_in folder end scripts =
    slips (inputs_of (session folder end scripts)) (lines_of (session folder end scripts))
    (happens folder end scripts)

-- whether a port was ever there
abbrev pub has_port : FolderContents → ℕ → List Script → PortAddr → Bool
has_port folder end scripts port =
    had_port port (inputs_of (session folder end scripts)) (happens folder end scripts)

-- ---- scripts by client

abbrev pub script_clients : List Script → List ℕ
script_clients scripts = map (λ s. s.client) scripts

-- the script of a client, if it has one
abbrev pub script_for : ℕ → List Script → Option Script
script_for client [] = None
script_for client (s ∷ scripts) = if s.client == client then Some s else script_for client scripts

-- the scripts of a circle
abbrev pub only_scripts : (ℕ → Bool) → List Script → List Script
only_scripts member scripts = filter (λ s. member s.client) scripts
