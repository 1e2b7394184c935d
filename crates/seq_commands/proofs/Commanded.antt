-- From one input to the next.
use Rattle.std.proofs.Common.{◌≡◌, ℕ, ◌+◌, ◌<◌, ◌≤◌, true, List, [], ◌++◌, Option, Some, None, refl, sym, ap, subst, ◌∙◌, append-nil, arith}
use Rattle.std.specs.Ordering.{nat_cmp}
use Rattle.std.specs.FinMap
use Rattle.std.specs.List.{list_all}
use Rattle.seq_state.specs.Laws.{has_ticks}
use Rattle.seq_state.specs.declared.input.Command.{Command}
use Rattle.seq_state.specs.declared.input.Input.{Input}
use Rattle.seq_state.specs.declared.log.Delivery.{Delivery}
use Rattle.seq_state.specs.declared.log.Reply.{Reply}
use Rattle.seq_state.specs.declared.log.Reply.TheVariants.{Refused}
use Rattle.seq_state.specs.declared.refusal.Refusal.{Refusal}
use Rattle.seq_state.specs.Refusals.{number_of}
use Rattle.seq_state.specs.State.{State, OwnedPlayback, start}
use Rattle.seq_state.specs.Step.{IsRefusal, Stepped, unless, view_of, refusal_of, effect_of, command_step, settle, step}
use Rattle.seq_state.proofs.Refused.{row_tells}
use Rattle.seq_settle.specs.Cells.{PlaybackCell, AreCells}
use Rattle.seq_settle.specs.Order.{AreTimed}
use Rattle.seq_settle.specs.Waiting.{cell_at}
use Rattle.seq_settle.specs.declared.waiting.QueueKey.{QueueKey}
use Rattle.seq_settle.proofs.Stores.{playbacks-later}
use Rattle.seq_settle.proofs.Added.{later_cells}
use Rattle.seq_commands.specs.declared.sequencer.Sequencer.{Sequencer}
use Rattle.seq_commands.specs.declared.sequencer.Turn.{Turn}
use Rattle.seq_commands.specs.Whole.{Keys, clients_of, state_of, IsSound, IsWhole, turn_of, refusal_in, step_in, IsStepTakenUnkeyed, IsStepTaken}
use Rattle.seq_commands.proofs.Sound.{sound-start, sound-settled, sound-done}

-- ---- an input is counted

abbrev pub counted : Sequencer → Sequencer
counted s = record s { steps = s.steps + 1 }

pub counted-state : (s : Sequencer) → AreCells s.cells.cells s.steps → state_of (counted s) ≡ state_of s
counted-state s are = ap (λ (ps : List OwnedPlayback). let t : State = record (state_of s) { pending = ps } in t) (playbacks-later s.cells.cells s.steps are)

pub counted-step : (s : Sequencer) (t : Turn) (command : Command) → AreCells s.cells.cells s.steps → step_in (counted s) t command ≡ step_in s t command
counted-step s t command are = ap (λ x. command_step s.files x t.moment t.actor command) (counted-state s are)

pub counted-whole : (s : Sequencer) (agenda : Keys) (now : ℕ) → IsWhole s agenda now → IsWhole (counted s) agenda now
counted-whole s agenda now w = record {
  files = w.files;
  cells = later_cells s.cells.cells s.steps w.cells;
  timed = w.timed;
  sound = subst (λ x. IsSound x now) (sym (counted-state s w.cells)) w.sound;
}

-- ---- a command that is refused

refused-is : (o : Option Refusal) (r : Refusal) (s : State) (effect : Stepped) → o ≡ Some r → unless o s effect ≡ record { state = s; delivered = []; reply = Refused (number_of r) }
refused-is o r s effect e = ap (λ x. unless x s effect) e

pub refused-step : (s : Sequencer) (t : Turn) (command : Command) (r : Refusal) → AreCells s.cells.cells s.steps → Some r ≡ refusal_in (counted s) t command →
    step_in s t command ≡ record { state = state_of s; delivered = []; reply = Refused (number_of r) }
refused-step s t command r are e =
    let o : Option Refusal = refusal_in s t command in
    let same : refusal_in (counted s) t command ≡ o = ap (λ x. refusal_of s.files x t.moment t.actor command) (counted-state s are) in
    refused-is o r (state_of s) (effect_of s.files (state_of s) t.moment t.actor command) (sym (e ∙ same))

-- ---- one that is not

-- it has no refusal for its reply
pub accepted-tells : (s : Sequencer) (t : Turn) (command : Command) → AreCells s.cells.cells s.steps → None ≡ refusal_in (counted s) t command → IsRefusal (step_in s t command).reply → ⊥
accepted-tells s t command are e h =
    row_tells (view_of s.files (state_of s) t.moment t.actor command) command (FinMap.get (state_of s).pools t.actor)
    (subst (λ o. IsRefusal (unless o (state_of s) (effect_of s.files (state_of s) t.moment t.actor command)).reply) (sym (e ∙ same)) h)
  where
    same : refusal_in (counted s) t command ≡ refusal_in s t command
    same = ap (λ x. refusal_of s.files x t.moment t.actor command) (counted-state s are)

-- what it leaves holds between inputs
pub given-whole : (old new : Sequencer) (t : Turn) (command : Command) (agenda agenda' : Keys) (reply : Reply) (sent : List Delivery) → IsWhole old agenda t.moment →
    IsStepTaken old new agenda' (step_in old t command) reply sent → IsWhole new agenda' t.moment
given-whole old new t command agenda agenda' reply sent w g = record {
  files = ap (λ fs. list_all has_ticks fs) g.files ∙ w.files;
  cells = g.cells;
  timed = g.timed;
  sound = subst (λ x. IsSound x t.moment) (sym g.state) (sound-done old.files w.files (state_of old) t.moment t.actor command w.sound);
}

-- ---- settling

pub settled-whole : (old new : Sequencer) (agenda agenda' : Keys) (now m : ℕ) → now ≤ m → IsWhole old agenda now → state_of new ≡ (settle (state_of old) m).state → new.files ≡ old.files →
    AreCells new.cells.cells new.steps → AreTimed (clients_of new) new.cells.cells new.order agenda' → IsWhole new agenda' m
settled-whole old new agenda agenda' now m later w state files cells timed = record {
  files = ap (λ fs. list_all has_ticks fs) files ∙ w.files;
  cells = cells;
  timed = timed;
  sound = subst (λ x. IsSound x m) (sym state) (sound-settled (state_of old) now m later w.sound);
}

-- the command's step after settling is that of the input
pub settled-step : (old mid : Sequencer) (i : Input) → state_of mid ≡ (settle (state_of old) i.moment).state → mid.files ≡ old.files →
    step_in mid (turn_of i) i.command ≡ command_step old.files (settle (state_of old) i.moment).state i.moment i.actor i.command
settled-step old mid i state files =
    ap (λ fs. command_step fs (state_of mid) i.moment i.actor i.command) files ∙ ap (λ x. command_step old.files x i.moment i.actor i.command) state

-- ---- what a command gives

-- with what it adds to what was sent
abbrev pub GivesAll : Sequencer → Sequencer → Keys → Stepped → Reply → List Delivery → List Delivery → Type 0
GivesAll old new keys step reply was now = (ds : List Delivery) × (now ≡ was ++ ds) × IsStepTaken old new keys step reply ds

module _ (old : Sequencer) (t : Turn) (keys : Keys) (command : Command) (out : List Delivery) where
  -- a command that sends nothing
  pub quiet-given : (x : Command) (new : Sequencer) (reply : Reply) → command ≡ x → {keys' : Keys} → IsStepTaken old new keys' (step_in old t x) reply [] → GivesAll old new keys' (step_in old t command) reply out out
  quiet-given x new reply e {keys' = k} g = ([], sym (append-nil out), subst (λ c. IsStepTaken old new k (step_in old t c) reply []) (sym e) g)

  pub quiet-kept : (x : Command) (new : Sequencer) (reply : Reply) → command ≡ x → IsWhole old keys t.moment → IsStepTakenUnkeyed old new (step_in old t x) reply [] → GivesAll old new keys (step_in old t command) reply out out
  quiet-kept x new reply e w g = quiet-given x new reply e (g keys t.moment w)

  -- one that sends
  pub sent-given : (x : Command) (new : Sequencer) (reply : Reply) (now : List Delivery) → command ≡ x → IsWhole old keys t.moment → IsStepTakenUnkeyed old new (step_in old t x) reply (step_in old t x).delivered →
      now ≡ out ++ (step_in old t x).delivered → GivesAll old new keys (step_in old t command) reply out now
  sent-given x new reply now e w g s = ((step_in old t x).delivered, s, subst (λ c. IsStepTaken old new keys (step_in old t c) reply (step_in old t x).delivered) (sym e) (g keys t.moment w))

-- ---- at first

none_some : {X : Type 0} (x : X) → None ≡ Some x → ⊥
none_some x e = cc

pub new-whole : (s : Sequencer) (agenda : Keys) → list_all has_ticks s.files ≡ true → state_of s ≡ start → s.steps ≡ 0 → AreCells s.cells.cells 0 → ((k : QueueKey) → cell_at s.order.waiting k ≡ None) → agenda ≡ FinMap.empty → IsWhole s agenda 0
new-whole s agenda ticks state steps are waits none = record {
  files = ticks;
  cells = subst (λ n. AreCells s.cells.cells n) (sym steps) are;
  timed = record {
    none = λ q e. ap (λ m. FinMap.get m q) none ∙ FinMap.get-empty nat_cmp q;
    placed = λ q c e. absurd (none_some c (sym (absent q) ∙ e));
    waits = λ k q e. absurd (none_some q (sym (waits k) ∙ e));
    early = λ k q key e f. absurd (none_some q (sym (waits k) ∙ e));
  };
  sound = subst (λ x. IsSound x 0) (sym state) sound-start;
}
  where
    absent : (q : ℕ) → FinMap.get s.cells.cells q ≡ None
    absent q = go (FinMap.get s.cells.cells q) refl
      where
        go : (o : Option PlaybackCell) → FinMap.get s.cells.cells q ≡ o → o ≡ None
        go None e = refl
        go (Some c) e = let l : c.1.rank < 0 = are.early q c e in absurd (omega arith)
