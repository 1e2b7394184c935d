-- The counts of lines.
use Rattle.std.proofs.Common.{◌≡◌, ◌⊎◌, inl, inr, ℕ, ◌+◌, ◌<◌, true, false, eqb, if◌then◌else◌, List, length, set, get_or, Some, None, sym, ap, ◌∙◌, arith}
use Rattle.std.proofs.lemmas.Bool.{cases_eq}
use Rattle.std.proofs.lemmas.Bool.Decides.{nat_tests}
use Rattle.std.proofs.lemmas.List.{get_or-set_same, get_or-set_other, length-set}
use Rattle.node_table.specs.Numbers.{first_client, most_clients}
use Rattle.session_live.specs.Lines.{Heard, nothing_heard, one_more}
use Rattle.session_live.specs.Talk.{AreCounts, counted, next_number}

pub counts-new : (said : List ℕ) (loose : ℕ) → length said ≡ most_clients → ((i : ℕ) → get_or said i 0 ≡ 0) → loose ≡ 0 → AreCounts said loose nothing_heard
counts-new said loose rows none e = record { rows = rows; loose_is = e; said_is = λ client seat at small. none seat }

pub counts-loose : (said : List ℕ) (loose n : ℕ) (h : Heard) → AreCounts said loose h → n ≡ loose + 1 → AreCounts said n (counted h None)
counts-loose said loose n h a e = record { rows = a.rows; loose_is = e ∙ ap (λ k. k + 1) a.loose_is; said_is = a.said_is }

pub number-loose : (said : List ℕ) (loose n : ℕ) (h : Heard) → AreCounts said loose h → n ≡ loose + 1 → n ≡ next_number h None
number-loose said loose n h a e = e ∙ ap (λ k. k + 1) a.loose_is

pub number-said : (said : List ℕ) (loose client seat n : ℕ) (h : Heard) → AreCounts said loose h → client ≡ first_client + seat → seat < most_clients → n ≡ get_or said seat 0 + 1 → n ≡ next_number h (Some client)
number-said said loose client seat n h a at small e = e ∙ ap (λ k. k + 1) (a.said_is client seat at small)

pub counts-said : (said : List ℕ) (loose client seat n : ℕ) (h : Heard) → AreCounts said loose h → client ≡ first_client + seat → seat < most_clients → n ≡ get_or said seat 0 + 1 → AreCounts (set said seat n) loose (counted h (Some client))
counts-said said loose client seat n h a at small e = record {
  rows = length-set said seat n ∙ a.rows;
  loose_is = a.loose_is;
  said_is = λ other k there few. by other k there few (cases_eq k seat);
}
  where
    here : seat < length said
    here = omega (arith, a.rows)

    by : (other k : ℕ) → other ≡ first_client + k → k < most_clients → (k ≡ seat) ⊎ (k ≡ seat → ⊥) → get_or (set said seat n) k 0 ≡ one_more h.said client other
    by other k there few (inl same) =
        let is : other ≡ client = omega arith in
        let yes : eqb other client ≡ true = grind (arith, nat_tests) in
        ap (λ j. get_or (set said seat n) j 0) same ∙ get_or-set_same said seat n 0 here ∙ e ∙ ap (λ j. j + 1) (a.said_is client seat at small)
        ∙ ap (λ c. h.said c + 1) (sym is) ∙ sym (ap (λ b. if b then h.said other + 1 else h.said other) yes)
    by other k there few (inr apart) =
        let no : eqb other client ≡ false = grind (arith, nat_tests) in
        get_or-set_other said seat k n 0 apart ∙ a.said_is other k there few ∙ sym (ap (λ b. if b then h.said other + 1 else h.said other) no)
