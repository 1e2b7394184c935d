use Rattle.std.proofs.Common.{◌≡◌, ℕ, List, ◌∙◌, ap}
use Rattle.seq_state.specs.declared.input.Input.{Input}
use Rattle.seq_circle.specs.declared.members.Joined.{Joined}
use Rattle.seq_circle.specs.Least.{places_where, opens_circle}
use Rattle.seq_circle.proofs.Places.{shut_when, open_when}
use Rattle.seq_circle.proofs.circle.circle_among.Goals as goal

-- the openings, said of the owner
openings_round : (o owner : ℕ) (joined : List Joined) (inputs : List Input) (openings : List ℕ) → openings ≡ places_where (opens_circle o joined) inputs → o ≡ owner → openings ≡ places_where (opens_circle owner joined) inputs
openings_round o owner joined inputs openings e same = e ∙ ap (λ n. places_where (opens_circle n joined) inputs) same

pub returns-clause-shut : goal.returns-clause-shut
returns-clause-shut c = shut_when _ _ _ _ (openings_round _ _ _ _ _ c.in_ok-openings.ensures c.in_ok-members.ensures.owner) c.in_ok-members.ensures.least

pub returns-clause-open : goal.returns-clause-open
returns-clause-open c = open_when _ _ _ _ (openings_round _ _ _ _ _ c.in_ok-openings.ensures c.in_ok-members.ensures.owner) c.in_ok-members.ensures.least
