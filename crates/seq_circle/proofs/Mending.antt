-- Mended makings leave nothing open.
use Rattle.std.proofs.Common.{◌≡◌, ℕ, ◌-◌, Bool, true, false, not, cond, eqb, ◌&&◌, List, [], ◌∷◌, map, refl, ap, ◌∙◌}
use Rattle.std.specs.List.{list_all}
use Rattle.std.specs.Int.RustNames.{bit_and}
use Rattle.std.specs.Int.Bits.{and_zero_r}
use Rattle.std.proofs.lemmas.Nat.{and_assoc}
use Rattle.node_table.specs.Capabilities.{can, known_bits, write_bit, subs_write_bit}
use Rattle.seq_state.specs.declared.input.Command.{Command}
use Rattle.seq_state.specs.declared.input.Command.TheVariants.{CreatePort, CreateFilter}
use Rattle.seq_state.specs.declared.input.Input.{Input}
use Rattle.seq_state.specs.Circle.{only}
use Rattle.seq_circle.specs.Shut.{is_joinable, opens, asked_client, is_met, stays_within, is_whole_circle}
use Rattle.seq_circle.specs.Mending.{closed_caps, closed_making, mended}
use Rattle.seq_circle.specs.Laws.{MendLaw}

none-of-it : (caps : ℕ) → bit_and (closed_caps caps) subs_write_bit ≡ 0
none-of-it caps = and_assoc subs_write_bit caps (known_bits - subs_write_bit) ∙ and_zero_r caps

closed : (caps : ℕ) → can subs_write_bit (closed_caps caps) ≡ false
closed caps = ap (λ n. eqb n subs_write_bit) (none-of-it caps)

and-false : (b : Bool) → (b && false) ≡ false
and-false true = refl
and-false false = refl

not-joinable : (caps : ℕ) → is_joinable (closed_caps caps) ≡ false
not-joinable caps = ap (λ b. can write_bit (closed_caps caps) && b) (closed caps) ∙ and-false (can write_bit (closed_caps caps))

-- a making without SUBS_WRITE lets nobody in, and asks for nobody else
opens-none : (owner actor : ℕ) (command : Command) → opens owner actor command ≡ true → opens owner actor (closed_making command) ≡ false
opens-none owner actor (CreatePort port name caps) its = ap (λ b. eqb actor owner && b) (not-joinable caps.0) ∙ and-false (eqb actor owner)
opens-none owner actor (CreateFilter filter caps rule) its = not-joinable caps.0
opens-none owner actor command its = refl

asks-same : (owner : ℕ) (member : ℕ → Bool) (command : Command) → asked_client owner member (closed_making command) ≡ asked_client owner member command
asks-same owner member (CreatePort port name caps) = refl
asks-same owner member (CreateFilter filter caps rule) = refl
asks-same owner member command = refl

module _ (owner : ℕ) (member : ℕ → Bool) where
  abbrev says : Input → Bool
  says i = member i.actor && opens owner i.actor i.command

  stays-same : (i : Input) → stays_within owner member (mended owner member i) ≡ stays_within owner member i
  stays-same i = by (says i)
    where
      by : (b : Bool) → stays_within owner member (cond b (record i { command = closed_making i.command }) i) ≡ stays_within owner member i
      by true = ap (is_met member) (asks-same owner member i.command)
      by false = refl

  actor-same : (i : Input) → (mended owner member i).actor ≡ i.actor
  actor-same i = by (says i)
    where
      by : (b : Bool) → (cond b (record i { command = closed_making i.command }) i).actor ≡ i.actor
      by true = refl
      by false = refl

  lets-none : (i : Input) → member i.actor ≡ true → not (opens owner (mended owner member i).actor (mended owner member i).command) ≡ true
  lets-none i its = by (opens owner i.actor i.command) refl
    where
      made : Bool → Input
      made b = cond (member i.actor && b) (record i { command = closed_making i.command }) i

      by : (b : Bool) → opens owner i.actor i.command ≡ b → not (opens owner (made b).actor (made b).command) ≡ true
      by true e = ap (λ m. not (opens owner (cond (m && true) (record i { command = closed_making i.command }) i).actor (cond (m && true) (record i { command = closed_making i.command }) i).command)) its
          ∙ ap not (opens-none owner i.actor i.command e)
      by false e = ap (λ m. not (opens owner (cond m (record i { command = closed_making i.command }) i).actor (cond m (record i { command = closed_making i.command }) i).command)) (and-false (member i.actor)) ∙ ap not e

  -- a test of what members say, mended
  mended-all : (p q : Input → Bool) → ((i : Input) → member i.actor ≡ true → q (mended owner member i) ≡ p i) → (inputs : List Input) →
      list_all q (only member (map (mended owner member) inputs)) ≡ list_all p (only member inputs)
  mended-all p q same [] = refl
  mended-all p q same (i ∷ inputs) = ap (λ b. list_all q (cond b (mended owner member i ∷ only member (map (mended owner member) inputs)) (only member (map (mended owner member) inputs)))) (ap member (actor-same i))
      ∙ by (member i.actor) refl (mended-all p q same inputs)
    where
      by : (b : Bool) → member i.actor ≡ b → list_all q (only member (map (mended owner member) inputs)) ≡ list_all p (only member inputs) →
          list_all q (cond b (mended owner member i ∷ only member (map (mended owner member) inputs)) (only member (map (mended owner member) inputs))) ≡ list_all p (cond b (i ∷ only member inputs) (only member inputs))
      by true e rest = ap (λ b. b && list_all q (only member (map (mended owner member) inputs))) (same i e) ∙ ap (λ b. p i && b) rest
      by false e rest = rest

all-true : (inputs : List Input) → list_all (λ i. true) inputs ≡ true
all-true [] = refl
all-true (i ∷ inputs) = all-true inputs

and-true : (b : Bool) → (b && true) ≡ b
and-true true = refl
and-true false = refl

pub mend_law : MendLaw
mend_law owner member inputs =
    ap (λ b. b && list_all (λ i. not (opens owner i.actor i.command)) (only member (map (mended owner member) inputs)))
    (ap (λ b. member owner && b) (mended-all owner member (stays_within owner member) (stays_within owner member) (λ i its. stays-same owner member i) inputs))
    ∙ ap (λ b. is_whole_circle owner member inputs && b)
    (mended-all owner member (λ i. true) (λ i. not (opens owner i.actor i.command)) (λ i its. lets-none owner member i its) inputs ∙ all-true (only member inputs))
    ∙ and-true (is_whole_circle owner member inputs)
