-- Definition: What is written of a session.
use Rattle.std.specs.Prelude.{◌≡◌, ℕ, Bool, false, not, ◌&&◌, List, [], ◌∷◌}
use Rattle.byte_io.specs.Moved.{Took}
use Rattle.node_table.specs.declared.number.PortAddr.{PortAddr}
use Rattle.port_files.specs.Tracks.{ports_file}
use Rattle.program_tasks.specs.Recording.{recording_text}
use Rattle.seq_session.specs.declared.source.Script.{Script}
use Rattle.seq_session.specs.Sessions.{FolderContents, happens}
use Rattle.seq_state.specs.declared.log.LogEntry.{LogEntry}
use Rattle.seq_state.specs.Heard.{port_bytes}
use Rattle.smf_grammar.specs.Written.{written_file}
use Rattle.program_tasks.specs.declared.words.ScriptWord.{ScriptWord}
use Rattle.program_tasks.specs.declared.recording.Recorded.{Recorded}
use Rattle.program_tasks.specs.declared.recording.Recorded.TheVariants.{Stream, Port, Ports}
use Rattle.program_tasks.specs.declared.recording.Recording.{Recording}
use Rattle.program_tasks.specs.declared.explanation.Explanation.{Explanation}
use Rattle.program_tasks.specs.Explained.{are_none, IsExplanationOf}
use Rattle.program_tasks.specs.Opened.{AreOfFiles}

-- A file was begun for the path, all of the bytes were written to it, and then it was put there.
pub record IsFileWritten {W : Type 0} (IsBegun : List ℕ → W → Type 0)
    (HasTaken : W → List ℕ → Type 0)
    (IsStored : List ℕ → W → Type 0)
    (path bytes : List ℕ) : Type 0 where
  pub begun : W
  pub whole : W
  pub new : IsBegun path begun
  pub took : Took HasTaken begun bytes whole
  pub stored : IsStored path whole

-- what came to a port as one MIDI stream or as a Standard MIDI File, or what came to several ports
-- as a file with a track for each
abbrev pub recorded_text : Recorded → List LogEntry → List ℕ
recorded_text (Stream port) entries = port_bytes port entries
recorded_text (Port port) entries = recording_text port entries
recorded_text (Ports ports clock) entries = written_file (ports_file clock.now ports.now entries)

-- the ports that are recorded
abbrev pub ports_of : Recorded → List PortAddr
ports_of (Stream port) = port ∷ []
ports_of (Port port) = port ∷ []
ports_of (Ports ports clock) = ports.now

-- a strict recording is withheld where a port of it was never there
abbrev pub is_withheld : Recording → Explanation → Bool
is_withheld recording x = recording.strict && not (are_none x.absent.items)

-- The scripts were read from the files that the words name, and the explanation is that of the run
-- of just these. Unless it is withheld, a file is written that has what is recorded of that run.
pub record IsSessionRecorded {R W : Type 0} (IsOpened : List ℕ → R → Type 0)
    (HasLeft : R → List ℕ → Type 0)
    (IsBegun : List ℕ → W → Type 0) (HasTaken : W → List ℕ → Type 0)
    (IsStored : List ℕ → W → Type 0)
    (folder : FolderContents) (end : ℕ) (words : List ScriptWord)
    (recording : Recording) (x : Explanation) : Type 0 where
  pub scripts : List Script
  pub read : AreOfFiles IsOpened HasLeft words scripts
  pub explained : IsExplanationOf folder end scripts (ports_of recording.what) x
  pub written : is_withheld recording x ≡ false → IsFileWritten IsBegun HasTaken IsStored
      recording.path.now (recorded_text recording.what (happens folder end scripts))
