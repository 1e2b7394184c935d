-- Definition: How a session stands at a moment.
use Rattle.std.specs.Prelude.{ℕ, Bool, List}
use Rattle.std.specs.FinMap
use Rattle.node_table.specs.declared.number.PortAddr.{PortAddr}
use Rattle.smf_grammar.specs.Played.{PlayedFile}
use Rattle.seq_state.specs.declared.input.Input.{Input}
use Rattle.seq_state.specs.Effect.{has_port}
use Rattle.seq_state.specs.State.{State, start}
use Rattle.seq_state.specs.Step.{settle, state_after}
use Rattle.seq_session.specs.declared.source.Script.{Script}
use Rattle.seq_session.specs.Merging.{inputs_of}
use Rattle.seq_session.specs.Sessions.{FolderContents, session}

-- the state after these inputs, and what is due by a moment
abbrev pub state_by : List PlayedFile → List Input → ℕ → State
state_by files inputs moment = (settle (state_after files start inputs) moment).state

-- the state of a session once all lines up to a moment have done their work, and what is due by
-- then was sent
abbrev pub state_at : FolderContents → ℕ → List Script → State
state_at folder moment scripts =
    state_by folder.files (inputs_of (session folder moment scripts)) moment

-- whether a port is there
abbrev pub is_there : State → PortAddr → Bool
is_there s port = has_port (FinMap.get s.clients port.client) port.port
