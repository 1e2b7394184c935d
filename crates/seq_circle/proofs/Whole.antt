-- A whole circle is closed in a run in which each stranger who aims inside is refused.
use Rattle.std.proofs.Common.{◌≡◌, ℕ, Bool, true, false, cond, List, [], ◌∷◌, Option, Some, None, sym, ap, ◌∙◌}
use Rattle.std.specs.List.{list_all}
use Rattle.std.proofs.lemmas.Bool.{false≢true}
use Rattle.node_table.specs.declared.number.Addr.{Addr}
use Rattle.seq_state.specs.declared.input.Command.{Command}
use Rattle.seq_state.specs.declared.input.Command.TheVariants.{Connect, Disconnect, DeleteQueue, Start, Stop, Continue, Tempo, QueueStatus, Share, Schedule, Play}
use Rattle.seq_state.specs.declared.input.Input.{Input}
use Rattle.seq_state.specs.declared.log.Reply.{Reply}
use Rattle.smf_grammar.specs.Played.{PlayedFile}
use Rattle.seq_state.specs.State.{State}
use Rattle.seq_state.specs.Step.{step, IsRefusal}
use Rattle.seq_state.specs.Table.{queue_named}
use Rattle.seq_state.specs.Circle.{only, is_inner, IsClosedAt, NamesWithin, IsClosedFrom}
use Rattle.seq_state.proofs.Lists.{both_left, both_right}
use Rattle.seq_circle.specs.Shut.{target_of, joined_client, asked_client, is_met, stays_within}

-- whether the first of what members say passes a test, and the rest of it
pub first_passes : (member : ℕ → Bool) (p : Input → Bool) (i : Input) (inputs : List Input) → list_all p (only member (i ∷ inputs)) ≡ true → (member i.actor ≡ true → p i ≡ true) × (list_all p (only member inputs) ≡ true)
first_passes member p i inputs h = go (member i.actor) h
  where
    go : (b : Bool) → list_all p (cond b (i ∷ only member inputs) (only member inputs)) ≡ true → (b ≡ true → p i ≡ true) × (list_all p (only member inputs) ≡ true)
    go true k = let rest : Bool = list_all p (only member inputs) in (λ m. both_left (p i) rest k, both_right (p i) rest k)
    go false k = (λ m. absurd (false≢true m), k)

module _ (owner : ℕ) (member : ℕ → Bool) where
  -- a stranger whose target lies inside is refused
  abbrev pub IsKeptOut : ℕ → Reply → Option Addr → Type 0
  IsKeptOut actor reply None = Unit {0}
  IsKeptOut actor reply (Some target) = member actor ≡ false → is_inner owner member target ≡ true → IsRefusal reply

  -- ---- one input

  joins_met : (source target : Addr) → is_met member (joined_client owner member source target) ≡ true → is_inner owner member target ≡ true → member source.client ≡ true
  joins_met source target h i = ap (λ b. is_met member (cond b (Some source.client) None)) (sym i) ∙ h

  closed_at : (actor : ℕ) (command : Command) (reply : Reply) → (member actor ≡ true → is_met member (asked_client owner member command) ≡ true) → IsKeptOut actor reply (target_of command) → IsClosedAt owner member actor command reply
  closed_at actor (Connect source target) reply k r = λ i. (λ m. joins_met source target (k m) i, λ m. r m i)
  closed_at actor (Disconnect source target) reply k r = λ i. (λ m. joins_met source target (k m) i, λ m. r m i)
  closed_at actor command reply k r = tt

  named_at : (actor : ℕ) (command : Command) → (member actor ≡ true → is_met member (asked_client owner member command) ≡ true) → NamesWithin member actor (queue_named command)
  named_at actor (DeleteQueue q) k = k
  named_at actor (Start q) k = k
  named_at actor (Stop q) k = k
  named_at actor (Continue q) k = k
  named_at actor (Tempo q tempo) k = k
  named_at actor (QueueStatus q) k = k
  named_at actor (Share q) k = k
  named_at actor (Schedule q port due message) k = k
  named_at actor (Play q port file) k = k
  named_at actor command k = tt

  -- ---- all inputs

  -- it is closed where something holds along the run by which each stranger is kept out
  pub closed_from : (files : List PlayedFile) (Holds : State → List Input → Type 0) →
      ((s : State) (i : Input) (inputs : List Input) → Holds s (i ∷ inputs) → IsKeptOut i.actor (step files s i).reply (target_of i.command)) →
      ((s : State) (i : Input) (inputs : List Input) → Holds s (i ∷ inputs) → Holds (step files s i).state inputs) →
      (inputs : List Input) (s : State) → Holds s inputs → list_all (stays_within owner member) (only member inputs) ≡ true → IsClosedFrom files owner member s inputs
  closed_from files Holds out on [] s h w = tt
  closed_from files Holds out on (i ∷ inputs) s h w =
      let f = first_passes member (stays_within owner member) i inputs w in
      (closed_at i.actor i.command (step files s i).reply f.0 (out s i inputs h), named_at i.actor i.command f.0, closed_from files Holds out on inputs (step files s i).state (on s i inputs h) f.1)
