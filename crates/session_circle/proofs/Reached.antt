-- Where a circle is closed in a run.
use Rattle.std.proofs.Common.{◌≡◌, ℕ, zero, suc, ◌+◌, ◌<◌, ◌≤◌, Bool, true, false, not, ◌&&◌, ◌↔◌, ◌⊎◌, inl, inr, List, [], ◌∷◌, length, take, get_or, Option, Some, None, refl, sym, ap, subst, ◌∙◌, arith}
use Rattle.std.specs.Prelude.{slice_get, Result}
use Rattle.std.specs.List.{list_all}
use Rattle.std.specs.Result.{IfOk}
use Rattle.std.proofs.lemmas.Bool.{cases_lt, false≢true, not-true}
use Rattle.std.proofs.lemmas.Option.{slice_get_read, slice_get_within}
use Rattle.seq_state.specs.declared.input.Command.{Command}
use Rattle.seq_state.specs.declared.input.Command.TheVariants.{Connect, Disconnect}
use Rattle.seq_state.specs.declared.input.Input.{Input}
use Rattle.seq_state.specs.declared.log.Reply.{Reply}
use Rattle.seq_state.specs.declared.log.Reply.TheVariants.{Done, Messages, Queue, Received, Pools, Refused}
use Rattle.smf_grammar.specs.Played.{PlayedFile}
use Rattle.seq_state.specs.State.{State, start}
use Rattle.seq_state.specs.Step.{step, state_after, IsRefusal}
use Rattle.seq_state.specs.Circle.{only, is_inner, IsClosedAt, IsClosedFrom, IsClosed}
use Rattle.seq_state.proofs.Lists.{both_left, both_right, and_both}
use Rattle.seq_state.proofs.Effects.{none_some}
use Rattle.seq_circle.specs.declared.members.Joined.{Joined}
use Rattle.seq_circle.specs.Least.{is_member}
use Rattle.seq_circle.specs.Shut.{target_of, stays_within, is_whole_circle}
use Rattle.seq_circle.proofs.Whole.{IsKeptOut, closed_from}
use Rattle.session_circle.specs.Closing.{aims_inside, reaches_in, IsReached, IsReachedAt, IsFirstReach}

-- what can't be other than a refusal is one
refusal_when : (reply : Reply) → ((IsRefusal reply → ⊥) → ⊥) → IsRefusal reply
refusal_when (Refused n) h = tt
refusal_when Done h = h (λ x. x)
refusal_when (Messages n) h = h (λ x. x)
refusal_when (Queue running tick nanos) h = h (λ x. x)
refusal_when (Received arrivals) h = h (λ x. x)
refusal_when (Pools waiting lost used) h = h (λ x. x)

module _ (owner : ℕ) (member : ℕ → Bool) where
  -- ---- one input

  kept_out : (actor : ℕ) (command : Command) (reply : Reply) → ((not (member actor) && aims_inside owner member command) ≡ true → IsRefusal reply) → IsKeptOut owner member actor reply (target_of command)
  kept_out actor (Connect source target) reply r = λ m i. r (and_both (not (member actor)) (is_inner owner member target) (ap not m) i)
  kept_out actor (Disconnect source target) reply r = λ m i. r (and_both (not (member actor)) (is_inner owner member target) (ap not m) i)
  kept_out actor command reply r = tt

  refused_at : (actor : ℕ) (command : Command) (reply : Reply) → IsClosedAt owner member actor command reply → (not (member actor) && aims_inside owner member command) ≡ true → IsRefusal reply
  refused_at actor (Connect source target) reply c h =
      (c (both_right (not (member actor)) (is_inner owner member target) h)).1 (not-true (member actor) (both_left (not (member actor)) (is_inner owner member target) h))
  refused_at actor (Disconnect source target) reply c h =
      (c (both_right (not (member actor)) (is_inner owner member target) h)).1 (not-true (member actor) (both_left (not (member actor)) (is_inner owner member target) h))
  refused_at actor command reply c h = absurd (false≢true (both_right (not (member actor)) false h))

  -- ---- all inputs

  module _ (files : List PlayedFile) where
    -- by none of these inputs does a stranger reach in
    abbrev NoneReaches : State → List Input → Type 0
    NoneReaches s inputs = (k : ℕ) (i : Input) → slice_get inputs k ≡ Some i → IsReached owner member i (step files (state_after files s (take k inputs)) i).reply → ⊥

    none_reached : (inputs : List Input) (s : State) → IsClosedFrom files owner member s inputs → NoneReaches s inputs
    none_reached [] s c k i e r = none_some i e
    none_reached (x ∷ inputs) s c zero i e r =
        let same : x ≡ i = cc in
        r.1 (refused_at i.actor i.command (step files s i).reply (subst (λ (y : Input). IsClosedAt owner member y.actor y.command (step files s y).reply) same c.0) r.0)
    none_reached (x ∷ inputs) s c (suc k) i e r = none_reached inputs (step files s x).state c.2 k i e r

    -- a whole circle is closed in a run in which it is reached nowhere
    pub closed_when : (inputs : List Input) → is_whole_circle owner member inputs ≡ true → (first : Option ℕ) → IsFirstReach files owner member inputs first → first ≡ None → IsClosed files owner member inputs
    closed_when inputs w first f e =
        let rest : Bool = list_all (stays_within owner member) (only member inputs) in
        let none : IsFirstReach files owner member inputs None = subst (IsFirstReach files owner member inputs) e f in (
          both_left (member owner) rest w,
          closed_from owner member files NoneReaches (λ s i inputs n. kept_out i.actor i.command (step files s i).reply (λ h. refusal_when (step files s i).reply (λ no. n zero i refl (h, no))))
              (λ s i inputs n k j e. n (suc k) j e) inputs start (λ k i there r. none k (record { input = i; there = there; reached = r })) (both_right (member owner) rest w),
        )

    -- and in no other
    pub open_when : (inputs : List Input) (first : Option ℕ) → IsFirstReach files owner member inputs first → (first ≡ None → ⊥) → IsClosed files owner member inputs → ⊥
    open_when inputs None f n c = n refl
    open_when inputs (Some place) f n c = none_reached inputs start c.1 place f.0.input f.0.there f.0.reached

    -- ---- what the code answers

    pub reached_when : (i : Input) (reply : Reply) (refused reached : Bool) → (refused ≡ true) ↔ IsRefusal reply → reached ≡ (not refused && reaches_in owner member i) → reached ≡ true → IsReached owner member i reply
    reached_when i reply true reached f e h = absurd (false≢true (sym e ∙ h))
    reached_when i reply false reached f e h = (sym e ∙ h, λ r. false≢true (f.1 r))

    pub free_when : (i : Input) (reply : Reply) (refused reached : Bool) → (refused ≡ true) ↔ IsRefusal reply → reached ≡ (not refused && reaches_in owner member i) → reached ≡ false → IsReached owner member i reply → ⊥
    free_when i reply true reached f e h r = r.1 (f.0 refl)
    free_when i reply false reached f e h r = false≢true (sym h ∙ e ∙ r.0)

    module _ (inputs : List Input) where
      abbrev pub NoneBefore : ℕ → Type 0
      NoneBefore place = (before : ℕ) → before < place → IsReachedAt files owner member inputs before → ⊥

      -- one input more by which nobody reaches in
      pub none_more : (place : ℕ) (x : Input) → place < length inputs → x ≡ get_or inputs place x → NoneBefore place → (IsReached owner member x (step files (state_after files start (take place inputs)) x).reply → ⊥) → NoneBefore (place + 1)
      none_more place x l is none free before b r = go (cases_lt before place)
        where
          go : (before < place) ⊎ (place ≤ before) → ⊥
          go (inl lt) = none before lt r
          go (inr le) =
              let here : before ≡ place = omega arith in
              let at : IsReachedAt files owner member inputs place = subst (IsReachedAt files owner member inputs) here r in
              let same : at.input ≡ x = some_same at.input x (sym at.there ∙ slice_get_read inputs (length inputs) place x refl l is) in
              free (subst (λ (y : Input). IsReached owner member y (step files (state_after files start (take place inputs)) y).reply) same at.reached)
            where
              some_same : (a b : Input) → ◌≡◌ {A = Option Input} (Some a) (Some b) → a ≡ b
              some_same a b e = cc

      -- at the end of the inputs
      pub none_at_all : (place : ℕ) → length inputs ≤ place → NoneBefore place → IsFirstReach files owner member inputs None
      none_at_all place l none at r = none at (omega (arith, slice_get_within inputs at r.input r.there)) r

      -- the input by which somebody does
      pub first_found : (place : ℕ) (x : Input) → place < length inputs → x ≡ get_or inputs place x → NoneBefore place → IsReached owner member x (step files (state_after files start (take place inputs)) x).reply → IsFirstReach files owner member inputs (Some place)
      first_found place x l is none r = (record { input = x; there = slice_get_read inputs (length inputs) place x refl l is; reached = r }, none)

-- said of the same files, members and inputs
pub told_of : {E : Type 0} (r : Result (Option ℕ) E) (owner : ℕ) {files files' : List PlayedFile} {joined joined' : List Joined} {inputs inputs' : List Input} → files' ≡ files → joined' ≡ joined → inputs' ≡ inputs →
    IfOk r (λ first. IsFirstReach files' owner (is_member owner joined') inputs' first) → IfOk r (λ first. IsFirstReach files owner (is_member owner joined) inputs first)
told_of r owner {files = fs} {files' = fs'} {joined = js} {joined' = js'} {inputs = is} {inputs' = is'} f j i h =
    subst (λ (xs : List Input). IfOk r (λ first. IsFirstReach fs owner (is_member owner js) xs first)) i
    (subst (λ (xs : List Joined). IfOk r (λ first. IsFirstReach fs owner (is_member owner xs) is' first)) j
    (subst (λ (xs : List PlayedFile). IfOk r (λ first. IsFirstReach xs owner (is_member owner js') is' first)) f h))
