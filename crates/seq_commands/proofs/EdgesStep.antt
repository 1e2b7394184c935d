-- What commands come to that leave the agenda alone.
use Rattle.std.proofs.Common.{◌≡◌, ◌<◌, ℕ, zero, suc, Bool, false, List, [], ◌∷◌, ◌++◌, None, refl, sym, ap, subst, ◌∙◌, arith}
use Rattle.std.specs.Prelude.{nat_le}
use Rattle.std.proofs.lemmas.Bool.Decides.{nat_tests}
use Rattle.node_table.specs.declared.number.Addr.{Addr}
use Rattle.patch_graph.specs.Chains.{makes_cycle}
use Rattle.patch_graph.specs.Edges.{edge, has_edge, without_edge, sources_of, most_sources}
use Rattle.patch_graph.specs.declared.edge.Edge.{Edge}
use Rattle.seq_patchbay.specs.Network.{Network}
use Rattle.seq_state.specs.declared.input.Command.TheVariants.{Connect, Disconnect}
use Rattle.seq_state.specs.declared.log.Reply.{Reply}
use Rattle.seq_state.specs.declared.log.Reply.TheVariants.{Done}
use Rattle.smf_grammar.specs.Played.{PlayedFile}
use Rattle.seq_state.specs.State.{State}
use Rattle.seq_state.specs.Table.{Condition, first_refusal, command_row, with_edge, without_edge_of}
use Rattle.seq_state.specs.Step.{Stepped, row_of, refusal_of}
use Rattle.seq_state.proofs.Done.{done}
use Rattle.seq_state.proofs.Effects.{patched, step-connects, step-parts}
use Rattle.seq_settle.specs.Order.{AreTimed}
use Rattle.seq_commands.specs.declared.sequencer.Sequencer.{Sequencer}
use Rattle.seq_commands.specs.declared.sequencer.Turn.{Turn}
use Rattle.seq_commands.specs.Whole.{clients_of, state_of, refusal_in, step_in, IsStepTakenUnkeyed}
use Rattle.seq_commands.proofs.Accepted.{none-holds, unless-none}

-- a step that changes the pools and the subscriptions alone
pub kept-gives : (old : Sequencer) (p : Network) (step : Stepped) (reply : Reply) → p.clients.clients ≡ clients_of old → step ≡ done (state_of (record old { patchbay = p })) reply → IsStepTakenUnkeyed old (record old { patchbay = p }) step reply []
kept-gives old p step reply same is agenda now whole = record {
  state = sym (ap (λ (x : Stepped). x.state) is);
  reply_is = sym (ap (λ (x : Stepped). x.reply) is);
  sent_is = sym (ap (λ (x : Stepped). x.delivered) is);
  cells = whole.cells;
  timed = subst (λ m. AreTimed m old.cells.cells old.order agenda) (sym same) whole.timed;
  files = refl;
  steps = refl;
}

-- ---- what is known of an accepted command

-- whether the condition at a place holds
abbrev pub holds_at : List Condition → ℕ → Bool
holds_at [] i = false
holds_at (c ∷ cs) zero = c.1
holds_at (c ∷ cs) (suc i) = holds_at cs i

-- where no refusal stands, none of the conditions holds
pub none-at : (cs : List Condition) → first_refusal cs ≡ None → (i : ℕ) → holds_at cs i ≡ false
none-at [] e i = refl
none-at (c ∷ cs) e zero = (none-holds c.0 c.1 cs e).0
none-at (c ∷ cs) e (suc i) = none-at cs (none-holds c.0 c.1 cs e).1 i

below : (most n : ℕ) → nat_le most n ≡ false → n < most
below most n e = grind (arith, nat_tests, e)

pub connects-fresh : (files : List PlayedFile) (s : State) (moment actor : ℕ) (source target : Addr) → refusal_of files s moment actor (Connect source target) ≡ None → has_edge s.edges source target ≡ false
unfolding command_row
connects-fresh files s moment actor source target e = none-at (row_of files s moment actor (Connect source target)).conditions e 4

pub connects-room : (files : List PlayedFile) (s : State) (moment actor : ℕ) (source target : Addr) → refusal_of files s moment actor (Connect source target) ≡ None → sources_of s.edges target < most_sources
unfolding command_row
connects-room files s moment actor source target e = below most_sources (sources_of s.edges target) (none-at (row_of files s moment actor (Connect source target)).conditions e 5)

pub connects-clear : (files : List PlayedFile) (s : State) (moment actor : ℕ) (source target : Addr) → refusal_of files s moment actor (Connect source target) ≡ None → makes_cycle s.edges source target ≡ false
unfolding command_row
connects-clear files s moment actor source target e = none-at (row_of files s moment actor (Connect source target)).conditions e 6

-- ---- subscriptions

connects-by : (old : Sequencer) (turn : Turn) (source target : Addr) (graph : List Edge) → refusal_in old turn (Connect source target) ≡ None → graph ≡ old.patchbay.graph ++ edge source target ∷ [] →
    IsStepTakenUnkeyed old (record old { patchbay = record old.patchbay { graph = graph } }) (step_in old turn (Connect source target)) Done []
connects-by old turn source target graph e is =
    kept-gives old (record old.patchbay { graph = graph }) _ Done refl
    (step-connects old.files (state_of old) turn.moment turn.actor source target ∙ unless-none _ (state_of old) (patched (state_of old) (with_edge source target)) e
    ∙ ap (λ x. done (record (state_of old) { edges = x }) Done) (sym is))

pub connect-gives : (old : Sequencer) (turn : Turn) (source target : Addr) (patchbay : Network) → refusal_in old turn (Connect source target) ≡ None →
    patchbay.clients ≡ old.patchbay.clients → patchbay.graph ≡ old.patchbay.graph ++ edge source target ∷ [] →
    IsStepTakenUnkeyed old (record old { patchbay = patchbay }) (step_in old turn (Connect source target)) Done []
connect-gives old turn source target patchbay e clients is =
    subst (λ cs. IsStepTakenUnkeyed old (record old { patchbay = record { clients = cs; graph = patchbay.graph } }) (step_in old turn (Connect source target)) Done []) (sym clients)
    (connects-by old turn source target patchbay.graph e is)

disconnects-by : (old : Sequencer) (turn : Turn) (source target : Addr) (graph : List Edge) → refusal_in old turn (Disconnect source target) ≡ None → graph ≡ without_edge old.patchbay.graph source target →
    IsStepTakenUnkeyed old (record old { patchbay = record old.patchbay { graph = graph } }) (step_in old turn (Disconnect source target)) Done []
disconnects-by old turn source target graph e is =
    kept-gives old (record old.patchbay { graph = graph }) _ Done refl
    (step-parts old.files (state_of old) turn.moment turn.actor source target ∙ unless-none _ (state_of old) (patched (state_of old) (without_edge_of source target)) e
    ∙ ap (λ x. done (record (state_of old) { edges = x }) Done) (sym is))

pub disconnect-gives : (old : Sequencer) (turn : Turn) (source target : Addr) (patchbay : Network) → refusal_in old turn (Disconnect source target) ≡ None →
    patchbay.clients ≡ old.patchbay.clients → patchbay.graph ≡ without_edge old.patchbay.graph source target →
    IsStepTakenUnkeyed old (record old { patchbay = patchbay }) (step_in old turn (Disconnect source target)) Done []
disconnect-gives old turn source target patchbay e clients is =
    subst (λ cs. IsStepTakenUnkeyed old (record old { patchbay = record { clients = cs; graph = patchbay.graph } }) (step_in old turn (Disconnect source target)) Done []) (sym clients)
    (disconnects-by old turn source target patchbay.graph e is)
