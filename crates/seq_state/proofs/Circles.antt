-- Where the subscriptions of a closed circle come from, and that there is one.
use Rattle.std.proofs.Common.{ℕ, true, List, [], ◌∷◌, Option, Some, None, refl, sym}
use Rattle.node_table.specs.declared.number.Addr.{Addr}
use Rattle.node_table.specs.declared.number.QueueAddr.{QueueAddr}
use Rattle.std.proofs.lemmas.Bool.{false≢true}
use Rattle.seq_state.specs.declared.input.Command.{Command}
use Rattle.seq_state.specs.declared.input.Command.TheVariants.{Connect, Disconnect}
use Rattle.seq_state.specs.declared.input.Input.{Input}
use Rattle.seq_state.specs.declared.log.Reply.{Reply}
use Rattle.smf_grammar.specs.Played.{PlayedFile}
use Rattle.seq_state.specs.State.{State, start}
use Rattle.seq_state.specs.Table.{queue_named}
use Rattle.seq_state.specs.Step.{step}
use Rattle.seq_state.specs.Circle.{JoinsWithin, IsClosedAt, NamesWithin, IsClosedFrom}
use Rattle.seq_state.specs.Laws.{SourcesLaw, AllClosedLaw}
use Rattle.seq_state.proofs.Run.{within_after}

pub sources_law : SourcesLaw
sources_law files owner member inputs closed =
    (within_after files owner member closed.0 inputs start (record { edges = refl; playbacks = refl }) closed.1).edges

joins_all : (owner actor : ℕ) (source target : Addr) (reply : Reply) → JoinsWithin owner (λ c. true) actor source target reply
joins_all owner actor source target reply i = (λ m. refl, λ m. absurd (false≢true (sym m)))

closed_at : (owner actor : ℕ) (command : Command) (reply : Reply) → IsClosedAt owner (λ c. true) actor command reply
closed_at owner actor (Connect source target) reply = joins_all owner actor source target reply
closed_at owner actor (Disconnect source target) reply = joins_all owner actor source target reply
closed_at owner actor command reply = tt

names_all : (actor : ℕ) (q : Option QueueAddr) → NamesWithin (λ c. true) actor q
names_all actor None = tt
names_all actor (Some q) = λ m. refl

closed_from : (files : List PlayedFile) (owner : ℕ) (s : State) (inputs : List Input) → IsClosedFrom files owner (λ c. true) s inputs
closed_from files owner s [] = tt
closed_from files owner s (i ∷ inputs) =
    (closed_at owner i.actor i.command (step files s i).reply, names_all i.actor (queue_named i.command), closed_from files owner (step files s i).state inputs)

pub all_closed_law : AllClosedLaw
all_closed_law files owner inputs = (refl, closed_from files owner start inputs)
