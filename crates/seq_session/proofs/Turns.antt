-- What happens in a run, turn by turn.
use Rattle.std.proofs.Common.{◌≡◌, ℕ, zero, suc, ◌+◌, ◌<◌, List, [], ◌∷◌, ◌++◌, map, length, take, get_or, refl, sym, ap, ◌∙◌, arith, append_assoc, append-nil}
use Rattle.std.proofs.lemmas.List.{take_all}
use Rattle.seq_state.specs.declared.input.Input.{Input}
use Rattle.seq_state.specs.declared.log.LogEntry.{LogEntry}
use Rattle.seq_state.specs.declared.log.LogEntry.TheVariants.{Delivered, Replied}
use Rattle.smf_grammar.specs.Played.{PlayedFile}
use Rattle.seq_state.specs.State.{State}
use Rattle.seq_state.specs.Step.{step, settle, state_after, log_from}
use Rattle.seq_session.specs.Streams.{turns}

-- what an input gives at a place
abbrev pub given : List PlayedFile → State → ℕ → Input → List LogEntry
given files s place x = map Delivered (step files s x).delivered ++ Replied place x.moment x.actor (step files s x).reply ∷ []

module _ (files : List PlayedFile) (end : ℕ) where
  one_turn : (s : State) (place : ℕ) (x : Input) (inputs : List Input) (n : ℕ) → turns files s place (x ∷ inputs) end (suc n) ≡ given files s place x ++ turns files (step files s x).state (place + 1) inputs end n
  one_turn s place x inputs n =
      sym (append_assoc (map Delivered (step files s x).delivered) (Replied place x.moment x.actor (step files s x).reply ∷ []) (turns files (step files s x).state (place + 1) inputs end n))

  -- the turn of an input
  pub next_turn : (s : State) (place : ℕ) (inputs : List Input) (i : ℕ) (d : Input) → i < length inputs →
      turns files s place inputs end (suc i) ≡ turns files s place inputs end i ++ given files (state_after files s (take i inputs)) (place + i) (get_or inputs i d)
  next_turn s place [] i d l = absurd (omega arith)
  next_turn s place (x ∷ inputs) zero d l =
      one_turn s place x inputs zero ∙ append-nil (given files s place x) ∙ ap (λ p. given files s p x) (let e : place ≡ place + 0 = omega arith in e)
  next_turn s place (x ∷ inputs) (suc i) d l =
      let t : State = (step files s x).state in
      let last : ℕ → List LogEntry = λ p. given files (state_after files t (take i inputs)) p (get_or inputs i d) in
      one_turn s place x inputs (suc i)
      ∙ ap (λ es. given files s place x ++ es) (next_turn t (place + 1) inputs i d (omega arith))
      ∙ sym (append_assoc (given files s place x) (turns files t (place + 1) inputs end i) (last (place + 1 + i)))
      ∙ ap (λ es. es ++ last (place + 1 + i)) (sym (one_turn s place x inputs i))
      ∙ ap (λ p. turns files s place (x ∷ inputs) end (suc i) ++ last p) (let e : place + 1 + i ≡ place + suc i = omega arith in e)

  -- the last turn
  pub last_turn : (s : State) (place : ℕ) (inputs : List Input) → turns files s place inputs end (suc (length inputs)) ≡ turns files s place inputs end (length inputs) ++ map Delivered (settle (state_after files s inputs) end).delivered
  last_turn s place [] = refl
  last_turn s place (x ∷ inputs) =
      let t : State = (step files s x).state in
      let last : List LogEntry = map Delivered (settle (state_after files t inputs) end).delivered in
      one_turn s place x inputs (suc (length inputs))
      ∙ ap (λ es. given files s place x ++ es) (last_turn t (place + 1) inputs)
      ∙ sym (append_assoc (given files s place x) (turns files t (place + 1) inputs end (length inputs)) last)
      ∙ ap (λ es. es ++ last) (sym (one_turn s place x inputs (length inputs)))

  -- all turns are the run
  pub all_turns : (s : State) (place : ℕ) (inputs : List Input) → turns files s place inputs end (suc (length inputs)) ≡ log_from files s place inputs end
  all_turns s place [] = refl
  all_turns s place (x ∷ inputs) =
      let t : State = (step files s x).state in
      ap (λ es. map Delivered (step files s x).delivered ++ Replied place x.moment x.actor (step files s x).reply ∷ es) (all_turns t (place + 1) inputs)

-- of a run from the beginning
pub turn_of : (files : List PlayedFile) (end : ℕ) (s : State) (inputs : List Input) (i : ℕ) (d : Input) → i < length inputs →
    turns files s 0 inputs end (i + 1) ≡ turns files s 0 inputs end i ++ given files (state_after files s (take i inputs)) i (get_or inputs i d)
turn_of files end s inputs i d l =
    ap (turns files s 0 inputs end) (let e : i + 1 ≡ suc i = omega arith in e) ∙ next_turn files end s 0 inputs i d l
    ∙ ap (λ p. turns files s 0 inputs end i ++ given files (state_after files s (take i inputs)) p (get_or inputs i d)) (let e : 0 + i ≡ i = omega arith in e)

pub end_of : (files : List PlayedFile) (end : ℕ) (s : State) (inputs : List Input) (i : ℕ) → i ≡ length inputs →
    turns files s 0 inputs end (i + 1) ≡ turns files s 0 inputs end i ++ map Delivered (settle (state_after files s (take i inputs)) end).delivered
end_of files end s inputs i e =
    ap (turns files s 0 inputs end) (let f : i + 1 ≡ suc (length inputs) = omega (arith, e) in f) ∙ last_turn files end s 0 inputs
    ∙ ap (λ n. turns files s 0 inputs end n ++ map Delivered (settle (state_after files s inputs) end).delivered) (sym e)
    ∙ ap (λ xs. turns files s 0 inputs end i ++ map Delivered (settle (state_after files s xs) end).delivered) (sym (take_all i inputs (omega (arith, e))))
