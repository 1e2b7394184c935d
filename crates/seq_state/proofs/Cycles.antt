-- No chain of filters comes back to its beginning.
use Rattle.std.proofs.Common.{◌≡◌, ℕ, Bool, true, false, not, List, [], ◌∷◌, Option, Some, None, refl, sym, subst}
use Rattle.std.specs.List.{filter}
use Rattle.std.proofs.lemmas.Bool.{false≢true}
use Rattle.node_table.specs.declared.number.Addr.{Addr}
use Rattle.patch_graph.specs.Chains.{makes_cycle, Reaches, are_edges, is_chain}
use Rattle.patch_graph.specs.Edges.{is_edge}
use Rattle.patch_graph.specs.declared.edge.Edge.{Edge}
use Rattle.patch_graph.proofs.Chained.{acyclic-added, acyclic-fewer}
use Rattle.seq_state.specs.declared.input.Command.{Command}
use Rattle.seq_state.specs.declared.input.Command.TheVariants.{Connect, Disconnect}
use Rattle.seq_state.specs.declared.refusal.Refusal.{Refusal}
use Rattle.seq_state.specs.declared.refusal.Refusal.TheVariants as refusal
use Rattle.smf_grammar.specs.Played.{PlayedFile}
use Rattle.seq_state.specs.State.{State}
use Rattle.seq_state.specs.Table.{CommandView, Condition, command_row, first_refusal, with_edge, not_open, no_sender, no_dest, not_permitted, already_connected, sources_full}
use Rattle.seq_state.specs.Step.{Stepped, loses, unless, view_of, refusal_of, effect_of, command_step, settle}
use Rattle.seq_state.specs.Laws.{NoReturn, CycleLaw}
use Rattle.seq_state.proofs.Effects.{none-lost}
use Rattle.seq_state.proofs.Lists.{list_any-fewer}
use Rattle.seq_state.proofs.Bounds.{last_fails}

fewer-return : (p : Edge → Bool) (es : List Edge) → NoReturn es → NoReturn (filter p es)
fewer-return p es n = acyclic-fewer es (filter p es) (λ a b h. list_any-fewer (is_edge a b) p es h) n

free-cycle : (a : CommandView) (source target : Addr) → first_refusal (command_row a (Connect source target)).conditions ≡ None → makes_cycle a.edges source target ≡ false
unfolding command_row
free-cycle a source target e =
    let rs : List Condition = not_open a ∷ no_sender a source ∷ no_dest a target ∷ not_permitted a source target ∷ already_connected a source target ∷ sources_full a target ∷ [] in
    last_fails rs refusal.Cycle (makes_cycle a.edges source target) e

-- what a row does to the subscriptions makes no cycle
row-return : (a : CommandView) (command : Command) → first_refusal (command_row a command).conditions ≡ None → NoReturn a.edges → NoReturn ((command_row a command).effect.edges (filter (λ e. not (loses a.actor (command_row a command).effect.gone e)) a.edges))
unfolding command_row
row-return a (Connect source target) r n =
    subst (λ es. NoReturn (with_edge source target es)) (sym (none-lost a.actor a.edges)) (acyclic-added a.edges source target n (free-cycle a source target r))
row-return a (Disconnect source target) r n =
    let kept : List Edge = filter (λ e. not (loses a.actor (λ _. false) e)) a.edges in
    fewer-return (λ x. not (is_edge source target x)) kept (fewer-return (λ e. not (loses a.actor (λ _. false) e)) a.edges n)
row-return a command r n = fewer-return (λ e. not (loses a.actor (command_row a command).effect.gone e)) a.edges n

unless-return : (s : State) → NoReturn s.edges → (o : Option Refusal) (effect : Stepped) → (o ≡ None → NoReturn effect.state.edges) → NoReturn (unless o s effect).state.edges
unless-return s n None effect h = h refl
unless-return s n (Some k) effect h = n

command-return : (files : List PlayedFile) (s : State) (m actor : ℕ) (command : Command) → NoReturn s.edges → NoReturn (command_step files s m actor command).state.edges
command-return files s m actor command n =
    unless-return s n (refusal_of files s m actor command) (effect_of files s m actor command) (λ e. row-return (view_of files s m actor command) command e n)

no-edge : (a : Addr) → Reaches [] a a → ⊥
no-edge a r = none r.0 r.1 r.2
  where
    none : (es : List Edge) → are_edges [] es ≡ true → is_chain a a es ≡ true → ⊥
    none [] h c = false≢true c
    none (e ∷ es) h c = false≢true h

pub cycle_law : CycleLaw
cycle_law = record { at_first = no-edge; settled = λ s m n. n; stepped = λ files s i n. command-return files (settle s i.moment).state i.moment i.actor i.command n }
