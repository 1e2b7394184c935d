-- What a run loses, step by step.
use Rattle.std.proofs.Common.{◌≡◌, ℕ, suc, ◌+◌, ◌-◌, ◌<◌, ◌≤◌, List, ◌∷◌, ◌++◌, length, drop, get_or, sym, ap, ◌∙◌, arith, add-one, append-nil, append_assoc, drop-cons}
use Rattle.std.specs.List.{flat_map, range_with_len}
use Rattle.seq_state.specs.declared.input.Input.{Input}
use Rattle.seq_state.specs.declared.log.Delivery.{Delivery}
use Rattle.smf_grammar.specs.Played.{PlayedFile}
use Rattle.seq_state.specs.State.{State}
use Rattle.seq_state.specs.Step.{Stepped, command_step, settle, step}
use Rattle.seq_state.proofs.Settling.{settling_law}
use Rattle.seq_engine.specs.declared.losses.Loss.{Loss}
use Rattle.seq_engine.specs.Losses.{all_losses, loss_in, loss_at_close, losses_from, losses}
use Rattle.seq_engine.proofs.Logs.{drop-past}

-- one more input: what was lost so far, with what is lost by what is left, is all that is lost
pub losses_more : (files : List PlayedFile) (s : State) (inputs : List Input) (end i : ℕ) (d : Input) → i < length inputs → (old new : List Loss) → old ++ losses_from files s (drop i inputs) end ≡ losses files inputs end →
    (let x : Input = get_or inputs i d in new ≡ old ++ loss_at_close s x → new ++ losses_from files (step files s x).state (drop (i + 1) inputs) end ≡ losses files inputs end)
losses_more files s inputs end i d l old new told h =
    let x : Input = get_or inputs i d in
    let rest : List Loss = losses_from files (step files s x).state (drop (i + 1) inputs) end in
    let more : losses_from files s (drop i inputs) end ≡ loss_at_close s x ++ rest =
    ap (λ xs. losses_from files s xs end) (drop-cons inputs i d l)
    ∙ ap (λ k. loss_at_close s x ++ losses_from files (step files s x).state (drop k inputs) end) (sym (add-one i)) in
    ap (λ ys. ys ++ rest) h ∙ append_assoc old (loss_at_close s x) rest ∙ ap (λ ys. old ++ ys) (sym more) ∙ told

-- the end: what was lost so far, with what those have lost who are open, is all
pub losses_all : (files : List PlayedFile) (s : State) (inputs : List Input) (end i : ℕ) (old : List Loss) → length inputs ≤ i → old ++ losses_from files s (drop i inputs) end ≡ losses files inputs end → old ++ all_losses (settle s end).state ≡ losses files inputs end
losses_all files s inputs end i old l told = ap (λ xs. old ++ losses_from files s xs end) (sym (drop-past inputs i l)) ∙ told

-- ---- a step where what is due was sent before

module _ (files : List PlayedFile) (s : State) (i : Input) where
  abbrev done : State → Stepped
  done t = command_step files t i.moment i.actor i.command

  again : (settle (settle s i.moment).state i.moment).state ≡ (settle s i.moment).state
  again = (settling_law s i.moment i.moment (omega arith)).0

  pub same_state : (step files (settle s i.moment).state i).state ≡ (step files s i).state
  same_state = ap (λ t. (done t).state) again

  pub same_reply : (step files (settle s i.moment).state i).reply ≡ (step files s i).reply
  same_reply = ap (λ t. (done t).reply) again

  pub same_delivered : (settle s i.moment).delivered ++ (step files (settle s i.moment).state i).delivered ≡ (step files s i).delivered
  same_delivered =
      let before : List Delivery = (settle s i.moment).delivered in
      let more : List Delivery = (settle (settle s i.moment).state i.moment).delivered in
      sym (append_assoc before more (done (settle (settle s i.moment).state i.moment).state).delivered)
      ∙ ap (λ ds. ds ++ (done (settle (settle s i.moment).state i.moment).state).delivered) (settling_law s i.moment i.moment (omega arith)).1
      ∙ ap (λ t. before ++ (done t).delivered) again

-- ---- at the end, client by client

range-front : (a n : ℕ) → a < n → range_with_len a (n - a) ≡ a ∷ range_with_len (a + 1) (n - (a + 1))
range-front a n l =
    let k : n - a ≡ suc (n - (a + 1)) = omega arith in
    ap (range_with_len a) k

-- what was added so far, with what is to come from this client on, is all
abbrev pub AreAdded : State → ℕ → List Loss → List Loss → Type 0
AreAdded s n old new = new ++ flat_map (loss_in s) (range_with_len n (192 - n)) ≡ old ++ all_losses s

pub added_next : (s : State) (n : ℕ) (old now new : List Loss) → n < 192 → AreAdded s n old now → new ≡ now ++ loss_in s n → AreAdded s (n + 1) old new
added_next s n old now new l told h =
    let rest : List Loss = flat_map (loss_in s) (range_with_len (n + 1) (192 - (n + 1))) in
    ap (λ ys. ys ++ rest) h ∙ append_assoc now (loss_in s n) rest ∙ ap (λ xs. now ++ flat_map (loss_in s) xs) (sym (range-front n 192 l)) ∙ told

pub added_all : (s : State) (n : ℕ) (old new : List Loss) → 192 ≤ n → AreAdded s n old new → new ≡ old ++ all_losses s
added_all s n old new l told =
    let none : 192 - n ≡ 0 = omega arith in
    sym (append-nil new) ∙ ap (λ k. new ++ flat_map (loss_in s) (range_with_len n k)) (sym none) ∙ told
