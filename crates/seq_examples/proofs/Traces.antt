-- What the inputs of a run come to, one after another: its log and its circles follow from it.
use Rattle.std.proofs.Common.{◌≡◌, ℕ, zero, suc, ◌+◌, Bool, List, [], ◌∷◌, ◌++◌, map, drop, ap, ◌∙◌, subst, sym}
use Rattle.seq_state.specs.Circle.{IsClosedAt, NamesWithin, IsClosedFrom}
use Rattle.seq_state.specs.declared.input.Input.{Input}
use Rattle.seq_state.specs.declared.log.Delivery.{Delivery}
use Rattle.seq_state.specs.declared.log.LogEntry.{LogEntry}
use Rattle.seq_state.specs.declared.log.LogEntry.TheVariants.{Delivered, Replied}
use Rattle.seq_state.specs.declared.log.Reply.TheVariants.{Done}
use Rattle.smf_grammar.specs.Played.{PlayedFile}
use Rattle.seq_state.specs.State.{State, start}
use Rattle.seq_state.specs.Step.{Settled, Stepped, settle, step, log_from, plain}
use Rattle.seq_state.specs.Table.{queue_named}
use Rattle.seq_examples.proofs.Worked.{to, settled_to}

-- what is due by a moment, and the state that it leaves
pub record Settles (s : State) (m : ℕ) (u : State) (ds : List Delivery) : Type 0 where
  pub settles : settle s m ≡ settled_to u ds

-- what an input comes to
pub record Comes (files : List PlayedFile) (s : State) (i : Input) (a : Stepped) : Type 0 where
  pub comes : step files s i ≡ a

-- what these inputs come to, one after another
abbrev pub IsTrace : List PlayedFile → State → List Input → List Stepped → Type 0
IsTrace files s [] [] = Unit {0}
IsTrace files s (i ∷ inputs) (a ∷ after) = Comes files s i a × IsTrace files a.state inputs after
IsTrace files s [] (a ∷ after) = ⊥
IsTrace files s (i ∷ inputs) [] = ⊥

-- the same, told from what it is a trace of
pub record Trace (files : List PlayedFile) (s : State) (inputs : List Input) (after : List Stepped) :
    Type 0 where
  pub steps : IsTrace files s inputs after

pub ends : {files : List PlayedFile} {s : State} → Trace files s [] []
ends = record { steps = tt }

pub thus : {files : List PlayedFile} {s : State} {i : Input} {a : Stepped} {inputs : List Input}
    {after : List Stepped} → Comes files s i a → Trace files a.state inputs after →
    Trace files s (i ∷ inputs) (a ∷ after)
thus first more = record { steps = (first, more.steps) }

-- commands that are done, and deliver nothing
abbrev pub quiet : List State → List Stepped
quiet states = map (λ s. to s [] Done) states

-- ---- logs

abbrev pub last_state : State → List Stepped → State
last_state s [] = s
last_state s (a ∷ after) = last_state a.state after

-- the log of a run that comes to this, and in the end delivers that
abbrev pub log_of : ℕ → List Input → List Stepped → List Delivery → List LogEntry
log_of place [] after ds = map Delivered ds
log_of place (i ∷ inputs) [] ds = []
log_of place (i ∷ inputs) (a ∷ after) ds =
    map Delivered a.delivered ++ Replied place i.moment i.actor a.reply
    ∷ log_of (place + 1) inputs after ds

log-trace : (files : List PlayedFile) (s t : State) (place end : ℕ) (inputs : List Input)
    (after : List Stepped) (ds : List Delivery) → IsTrace files s inputs after →
    Settles (last_state s after) end t ds →
    log_from files s place inputs end ≡ log_of place inputs after ds
log-trace files s t place end [] [] ds h last =
    ap (λ (a : Settled). map Delivered a.delivered) last.settles
log-trace files s t place end [] (a ∷ after) ds h last = absurd h
log-trace files s t place end (i ∷ inputs) [] ds h last = absurd h
log-trace files s t place end (i ∷ inputs) (a ∷ after) ds h last =
    ap (λ (x : Stepped). map Delivered x.delivered ++ Replied place i.moment i.actor x.reply
    ∷ log_from files x.state (place + 1) inputs end) h.0.comes
    ∙ ap (λ l. map Delivered a.delivered ++ Replied place i.moment i.actor a.reply ∷ l)
    (log-trace files a.state t (place + 1) end inputs after ds h.1 last)

pub trace-log : {files : List PlayedFile} {inputs : List Input} {after : List Stepped} {end : ℕ}
    {t : State} {ds : List Delivery} → Trace files start inputs after →
    Settles (last_state start after) end t ds → plain files inputs end ≡ log_of 0 inputs after ds
trace-log {files = files} {inputs = inputs} {after = after} {end = end} {t = t} {ds = ds} h last =
    log-trace files start t 0 end inputs after ds h.steps last

-- ---- circles

-- each input keeps the circle closed, by its reply
abbrev pub AreClosed : ℕ → (ℕ → Bool) → List Input → List Stepped → Type 0
AreClosed owner member [] after = Unit {0}
AreClosed owner member (i ∷ inputs) [] = Unit {0}
AreClosed owner member (i ∷ inputs) (a ∷ after) =
    IsClosedAt owner member i.actor i.command a.reply ×
    NamesWithin member i.actor (queue_named i.command) × AreClosed owner member inputs after

-- the same, told from the circle and the run
pub record StaysClosed (owner : ℕ) (member : ℕ → Bool) (inputs : List Input)
    (after : List Stepped) : Type 0 where
  pub inputs_keep : AreClosed owner member inputs after

pub stayed : {owner : ℕ} {member : ℕ → Bool} → StaysClosed owner member [] []
stayed = record { inputs_keep = tt }

pub stays : {owner : ℕ} {member : ℕ → Bool} {i : Input} {a : Stepped} {inputs : List Input}
    {after : List Stepped} → IsClosedAt owner member i.actor i.command a.reply →
    NamesWithin member i.actor (queue_named i.command) → StaysClosed owner member inputs after →
    StaysClosed owner member (i ∷ inputs) (a ∷ after)
stays joins names more = record { inputs_keep = (joins, names, more.inputs_keep) }

module _ (files : List PlayedFile) (owner : ℕ) (member : ℕ → Bool) where
  abbrev Stays : Input → List Input → Stepped → Type 0
  Stays i inputs a =
      IsClosedAt owner member i.actor i.command a.reply ×
      NamesWithin member i.actor (queue_named i.command) ×
      IsClosedFrom files owner member a.state inputs

  closed-steps : (s : State) (inputs : List Input) (after : List Stepped) →
      IsTrace files s inputs after → AreClosed owner member inputs after →
      IsClosedFrom files owner member s inputs
  closed-steps s [] after h c = tt
  closed-steps s (i ∷ inputs) [] h c = absurd h
  closed-steps s (i ∷ inputs) (a ∷ after) h c =
      subst (Stays i inputs) (sym h.0.comes) (c.0, c.1, closed-steps a.state inputs after h.1 c.2)

  -- from the input at a place on
  steps-closed : (n : ℕ) (s : State) (inputs : List Input) (after : List Stepped) →
      IsTrace files s inputs after → IsClosedFrom files owner member s inputs →
      AreClosed owner member (drop n inputs) (drop n after)
  steps-closed zero s [] after h c = tt
  steps-closed zero s (i ∷ inputs) [] h c = absurd h
  steps-closed zero s (i ∷ inputs) (a ∷ after) h c =
      let d : Stays i inputs a = subst (Stays i inputs) h.0.comes c in
      (d.0, d.1, steps-closed zero a.state inputs after h.1 d.2)
  steps-closed (suc n) s [] after h c = tt
  steps-closed (suc n) s (i ∷ inputs) [] h c = absurd h
  steps-closed (suc n) s (i ∷ inputs) (a ∷ after) h c =
      steps-closed n a.state inputs after h.1 (subst (Stays i inputs) h.0.comes c).2

pub closed-trace : {files : List PlayedFile} {owner : ℕ} {member : ℕ → Bool} {s : State}
    {inputs : List Input}
    {after : List Stepped} → Trace files s inputs after → StaysClosed owner member inputs after →
    IsClosedFrom files owner member s inputs
closed-trace {files = files} {owner = owner} {member = member} {s = s} {inputs = inputs}
    {after = after} h c =
    closed-steps files owner member s inputs after h.steps c.inputs_keep

pub trace-closed : {files : List PlayedFile} {s : State} {inputs : List Input} {after : List Stepped}
    (owner : ℕ) (member : ℕ → Bool)
    (n : ℕ) → Trace files s inputs after → IsClosedFrom files owner member s inputs →
    AreClosed owner member (drop n inputs) (drop n after)
trace-closed {files = files} {s = s} {inputs = inputs} {after = after} owner member n h c =
    steps-closed files owner member n s inputs after h.steps c
