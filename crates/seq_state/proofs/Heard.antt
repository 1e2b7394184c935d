-- What comes to a port of the owner is part of what the owner sees.
use Rattle.std.proofs.Common.{◌≡◌, ℕ, Bool, true, false, cond, eqb, ◌&&◌, List, [], ◌∷◌, ◌++◌, Option, Some, None, refl, sym, ap, ◌∙◌}
use Rattle.std.specs.Prelude.{slice_get}
use Rattle.std.specs.List.{filter_map, cons_option}
use Rattle.midi_wire.specs.Writings.{wire_bytes}
use Rattle.node_table.specs.declared.number.PortAddr.{PortAddr}
use Rattle.seq_state.specs.declared.input.Input.{Input}
use Rattle.seq_state.specs.declared.log.LogEntry.{LogEntry}
use Rattle.seq_state.specs.declared.log.Reply.{Reply}
use Rattle.seq_state.specs.declared.log.LogEntry.TheVariants.{Delivered, Replied}
use Rattle.seq_state.specs.Step.{plain}
use Rattle.seq_state.specs.Circle.{Sight, Came, Told, Outside, sight_of_reply, sight, aims_outside, view, only}
use Rattle.seq_state.specs.Heard.{port_at, message_at, port_messages, port_bytes, PortBytesLaw}
use Rattle.seq_state.specs.Laws.{AgreeLaw}
use Rattle.seq_state.proofs.Run.{isolation_law}

module _ (owner : ℕ) (member : ℕ → Bool) (port : ℕ) where
  abbrev here : PortAddr
  here = record { client = owner; port = port }

  -- the message of what the owner sees, where it came to the port
  abbrev seen_at : Sight → Option (List ℕ)
  seen_at (Came d) = cond (eqb d.target.port port) (Some d.message) None
  seen_at (Told moment reply) = None
  seen_at (Outside moment) = None

  no_message : (moment : ℕ) (reply : Reply) (input : Option Input) → seen_at (sight_of_reply owner member moment reply input) ≡ None
  no_message moment reply None = refl
  no_message moment reply (Some i) = go (aims_outside owner member i.command)
    where
      go : (b : Bool) → seen_at (cond b (Outside moment) (Told moment reply)) ≡ None
      go true = refl
      go false = refl

  -- one entry more
  one_seen : (inputs : List Input) (e : LogEntry) (rest : List Sight) → filter_map seen_at (sight owner member inputs e ++ rest) ≡ cons_option (message_at here e) (filter_map seen_at rest)
  one_seen inputs (Delivered d) rest = go (eqb d.target.client owner)
    where
      go : (b : Bool) → filter_map seen_at (cond b (Came d ∷ []) [] ++ rest) ≡ cons_option (cond (b && eqb d.target.port port) (Some d.message) None) (filter_map seen_at rest)
      go true = refl
      go false = refl
  one_seen inputs (Replied place moment client reply) rest = go (eqb client owner)
    where
      go : (b : Bool) → filter_map seen_at (cond b (sight_of_reply owner member moment reply (slice_get inputs place) ∷ []) [] ++ rest) ≡ filter_map seen_at rest
      go true = ap (λ o. cons_option o (filter_map seen_at rest)) (no_message moment reply (slice_get inputs place))
      go false = refl

  all_seen : (inputs : List Input) (log : List LogEntry) → port_messages here log ≡ filter_map seen_at (view owner member inputs log)
  all_seen inputs [] = refl
  all_seen inputs (e ∷ log) = ap (cons_option (message_at here e)) (all_seen inputs log) ∙ sym (one_seen inputs e (view owner member inputs log))

pub port_bytes_law : PortBytesLaw
port_bytes_law files owner member inputs end port timed closed =
    ap wire_bytes (all_seen owner member port inputs (plain files inputs end)
    ∙ ap (filter_map (seen_at owner member port)) (isolation_law files owner member inputs end timed closed)
    ∙ sym (all_seen owner member port (only member inputs) (plain files (only member inputs) end)))

pub agree_law : AgreeLaw
agree_law files owner member inputs others end timed timed' closed closed' same =
    let run : List Input → List Sight = λ is. view owner member is (plain files is end) in
    let heard : List Input → ℕ → List ℕ = λ is port. port_bytes (port_at owner port) (plain files is end) in (
      isolation_law files owner member inputs end timed closed ∙ ap run same ∙ sym (isolation_law files owner member others end timed' closed'),
      λ port.
          port_bytes_law files owner member inputs end port timed closed ∙ ap (λ is. heard is port) same
          ∙ sym (port_bytes_law files owner member others end port timed' closed'),
    )
