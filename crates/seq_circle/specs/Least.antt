-- Definition: The least circle round an owner in which all are whom its members ask for, and the
-- inputs that leave it open.
use Rattle.std.specs.Prelude.{◌≡◌, ℕ, ◌+◌, ◌==◌, Bool, ◌&&◌, ◌||◌, if◌then◌else◌, IsTrue, IsFalse, List, [], ◌∷◌, ◌++◌, Some, slice_get}
use Rattle.std.specs.List.{list_any}
use Rattle.seq_state.specs.declared.input.Input.{Input}
use Rattle.seq_state.specs.Circle.{aims_outside}
use Rattle.seq_circle.specs.declared.members.Joined.{Joined}
use Rattle.seq_circle.specs.Shut.{asked_client, opens, is_whole_circle, is_shut}

-- the owner, or one of these
abbrev pub is_member : ℕ → List Joined → ℕ → Bool
is_member owner joined client = (client == owner) || list_any (λ j. j.client == client) joined

-- An input of a member so far asks for a client that is not there yet.
pub record IsAsked (owner : ℕ) (inputs : List Input) (joined : List Joined) (next : Joined) :
    Type 0 where
  pub input : Input
  pub there : slice_get inputs next.place ≡ Some input
  pub of_member : IsTrue (is_member owner joined input.actor)
  pub asks : asked_client owner (is_member owner joined) input.command ≡ Some next.client
  pub new : IsFalse (is_member owner joined next.client)

-- each of the second list is asked for by a member before it, the owner and the first list among
-- them
abbrev pub AreAsked : ℕ → List Input → List Joined → List Joined → Type 0
AreAsked owner inputs joined [] = Unit {0}
AreAsked owner inputs joined (j ∷ js) =
    IsAsked owner inputs joined j × AreAsked owner inputs (joined ++ j ∷ []) js

-- Each member is asked for by one before it, and all are there whom members ask for: so each such
-- circle has these members.
pub record IsLeastCircle (owner : ℕ) (inputs : List Input) (joined : List Joined) : Type 0 where
  pub asked : AreAsked owner inputs [] joined
  pub whole : IsTrue (is_whole_circle owner (is_member owner joined) inputs)
  pub least : (other : ℕ → Bool) → IsTrue (is_whole_circle owner other inputs) → (client : ℕ)
      → IsTrue (is_member owner joined client) → IsTrue (other client)

-- no circle is shut round the owner
abbrev pub NoneIsShut : ℕ → List Input → Type 0
NoneIsShut owner inputs = (member : ℕ → Bool) → IsTrue (is_shut owner member inputs) → ⊥

-- ---- the inputs that matter to strangers

abbrev pub place_if : Bool → ℕ → List ℕ
place_if passes place = if passes then place ∷ [] else []

-- the places of those that pass, where the first has this one
abbrev pub places_from : {X : Type 0} → (X → Bool) → ℕ → List X → List ℕ
places_from passes place [] = []
places_from passes place (x ∷ xs) =
    place_if (passes x) place ++ places_from passes (place + 1) xs

abbrev pub places_where : {X : Type 0} → (X → Bool) → List X → List ℕ
places_where passes xs = places_from passes 0 xs

-- a member makes a node inside that anyone may join
abbrev pub opens_circle : ℕ → List Joined → Input → Bool
opens_circle owner joined i =
    is_member owner joined i.actor && opens owner i.actor i.command

-- the owner joins or parts at a target outside: strangers may change the outcome
abbrev pub reaches_out : ℕ → List Joined → Input → Bool
reaches_out owner joined i =
    (i.actor == owner) && aims_outside owner (is_member owner joined) i.command
