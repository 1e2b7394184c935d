-- A refused command changes nothing.
use Rattle.std.proofs.Common.{◌≡◌, ℕ, List, [], ◌++◌, Option, Some, None, refl, ap, ◌∙◌, append-nil}
use Rattle.std.specs.FinMap
use Rattle.seq_state.specs.declared.input.Command.{Command}
use Rattle.seq_state.specs.declared.input.Command.TheVariants.{QueueStatus, PoolStatus}
use Rattle.seq_state.specs.declared.refusal.Refusal.{Refusal}
use Rattle.smf_grammar.specs.Played.{PlayedFile}
use Rattle.seq_state.specs.State.{Queue, ClientPool, State}
use Rattle.seq_state.specs.Effect.{queue_status, pool_status}
use Rattle.seq_state.specs.Table.{CommandView, command_row}
use Rattle.seq_state.specs.Step.{IsRefusal, Stepped, unless, command_step, view_of, refusal_of, effect_of, Settled, settle}
use Rattle.seq_state.specs.Laws.{RefusedLaw}

-- no effect has a refusal for its reply
tells_queue : (moment : ℕ) (q : Option Queue) → IsRefusal (queue_status moment q) → ⊥
tells_queue moment None h = h
tells_queue moment (Some q) h = h

tells_pool : (used : ℕ) (pool : Option ClientPool) → IsRefusal (pool_status used pool) → ⊥
tells_pool used None h = h
tells_pool used (Some p) h = h

pub row_tells : (a : CommandView) (command : Command) (pool : Option ClientPool) → IsRefusal ((command_row a command).effect.reply pool) → ⊥
unfolding command_row
row_tells a (QueueStatus q) pool h = tells_queue a.moment a.queue h
row_tells a PoolStatus pool h = tells_pool a.used pool h
row_tells a command pool h = h

-- what a refused command leaves
abbrev Unmoved : State → Stepped → Type 0
Unmoved s a = (a.state ≡ s) × (a.delivered ≡ [])

unless_unmoved : (r : Option Refusal) (s : State) (effect : Stepped) → (IsRefusal effect.reply → ⊥) → IsRefusal (unless r s effect).reply → Unmoved s (unless r s effect)
unless_unmoved None s effect n h = absurd (n h)
unless_unmoved (Some k) s effect n h = (refl, refl)

command_unmoved : (files : List PlayedFile) (s : State) (moment actor : ℕ) (command : Command) → IsRefusal (command_step files s moment actor command).reply → Unmoved s (command_step files s moment actor command)
command_unmoved files s moment actor command h =
    unless_unmoved (refusal_of files s moment actor command) s (effect_of files s moment actor command)
    (row_tells (view_of files s moment actor command) command (FinMap.get s.pools actor)) h

pub refused_law : RefusedLaw
refused_law files s i h =
    let u : Settled = settle s i.moment in
    let a = command_unmoved files u.state i.moment i.actor i.command h in
    (a.0, ap (λ ds. u.delivered ++ ds) a.1 ∙ append-nil u.delivered)
