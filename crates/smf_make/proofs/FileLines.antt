-- The lines of the header and of the tracks.
use Rattle.std.proofs.Common.{◌≡◌, ◌≤◌, ◌<◌, ℕ, Bool, true, false, not, List, [], ◌∷◌, refl, sym, ap, ◌∙◌, arith}
use Rattle.std.specs.Prelude.{if◌then◌else◌, ◌==◌, ◌&&◌, ◌/◌, ◌%◌, nat_le, Option, Some, None, is_some, is_ok, Result, Ok, codes}
use Rattle.std.specs.Option.{option_map}
use Rattle.std.specs.Str.{bytes_eq}
use Rattle.std.proofs.lemmas.Bool.{le-leb}
use Rattle.std.proofs.lemmas.Bool.Decides.{nat_tests}
use Rattle.script_text.specs.Numbers.{only_if, u16}
use Rattle.smf_grammar.specs.Outcomes.{fault_unless}
use Rattle.smf_grammar.specs.declared.fault.SmfFault.{SmfFault}
use Rattle.smf_grammar.specs.declared.fault.SmfFault.TheVariants as fault
use Rattle.smf_grammar.specs.declared.fault.SmfFault.TheVariants.{UnknownFormat, Format2, ZeroDivision, DropFrame, SmpteDivision}
use Rattle.smf_grammar.specs.Chunks.{Header, header_of, is_track_count, is_frame_division, is_whole_rate}
use Rattle.smf_grammar.specs.Written.{FileRefusal, BadFormat, BadTrackCount, BadDivision, header_refusal}
use Rattle.smf_make.specs.SaidEvents.{can_head, header_of_three, header_by}
use Rattle.smf_make.specs.Words.{numbered}

abbrev pub of_three : ℕ → ℕ → ℕ → Header
of_three format tracks division = record { format = format; tracks = tracks; division = division }

-- a header that its tests let through is of its three numbers
pub record IsOfThree (format tracks division : ℕ) (h : Header) : Type 0 where
  pub is : h ≡ of_three format tracks division
  pub counted : is_track_count format tracks ≡ true
  pub small : division ≤ 65535
  pub low : format ≤ 1

format-low : (format : ℕ) → nat_le format 2 ≡ true → not (format == 2) ≡ true → format ≤ 1
format-low format h k = grind (arith, nat_tests)

rate-small : (high : ℕ) → is_whole_rate high ≡ true → high < 256
rate-small high h = grind (arith, nat_tests)

division-small : (division : ℕ) → not (is_frame_division division && not (is_whole_rate (division / 256))) ≡ true → division ≤ 65535
division-small division h = go (is_frame_division division) (is_whole_rate (division / 256)) refl refl h
  where
    go : (t u : Bool) → is_frame_division division ≡ t → is_whole_rate (division / 256) ≡ u → not (t && not u) ≡ true → division ≤ 65535
    go false u low is all = let few : division < 32768 = grind (arith, nat_tests) in omega arith
    go true true high is all = let few : division / 256 < 256 = rate-small (division / 256) is in omega arith
    go true false high is all = let bad : ⊥ = cc in absurd bad

unless-all : (a b c g i j k : Bool) (p q r s t u v : SmfFault) (y h : Header) → fault_unless a p (fault_unless b q (fault_unless c r (fault_unless g s (fault_unless i t (fault_unless j u (fault_unless k v (Ok y))))))) ≡ Ok h → (y ≡ h) × (c ≡ true) × (j ≡ true) × ((a ≡ true) × (b ≡ true))
unless-all true true true true true true true p q r s t u v y h e = (cc, refl, refl, (refl, refl))
unless-all true true true true true true false p q r s t u v y h e = let bad : ⊥ = cc in absurd bad
unless-all true true true true true false k p q r s t u v y h e = let bad : ⊥ = cc in absurd bad
unless-all true true true true false j k p q r s t u v y h e = let bad : ⊥ = cc in absurd bad
unless-all true true true false i j k p q r s t u v y h e = let bad : ⊥ = cc in absurd bad
unless-all true true false g i j k p q r s t u v y h e = let bad : ⊥ = cc in absurd bad
unless-all true false c g i j k p q r s t u v y h e = let bad : ⊥ = cc in absurd bad
unless-all false b c g i j k p q r s t u v y h e = let bad : ⊥ = cc in absurd bad

pub of-three : (f t d : ℕ) (h : Header) → header_of f t d ≡ Ok h → IsOfThree f t d h
unfolding header_of
of-three f t d h e =
    let all : (of_three f t d ≡ h) × (is_track_count f t ≡ true) × (not (is_frame_division d && not (is_whole_rate (d / 256))) ≡ true) × ((nat_le f 2 ≡ true) × (not (f == 2) ≡ true)) = unless-all (nat_le f 2) (not (f == 2)) (is_track_count f t) (not (d == 0)) (not (is_frame_division d && d / 256 == 227)) (not (is_frame_division d && not (is_whole_rate (d / 256)))) (not (is_frame_division d && d % 256 == 0))
    UnknownFormat Format2 fault.BadTrackCount ZeroDivision DropFrame SmpteDivision ZeroDivision (of_three f t d) h e in
    record { is = sym all.0; counted = all.1; small = division-small d all.2; low = format-low f all.3.0 all.3.1 }

refusal-by : Bool → Bool → Bool → Option FileRefusal
refusal-by low counted read = if low then (if counted then (if read then None else Some BadDivision) else Some BadTrackCount) else Some BadFormat

pub can-head : (f t d : ℕ) (h : Header) → f ≤ 1 → t ≤ 65535 → header_of f t d ≡ Ok h → Some h ≡ only_if can_head (Some (of_three f t d))
unfolding refusal-by
can-head f t d h low few e =
    let three : IsOfThree f t d h = of-three f t d h e in
    let none : header_refusal f t d ≡ None =
    ap (λ (b : Bool). refusal-by b (is_track_count f t && nat_le t 65535) (is_ok (header_of f t d))) (le-leb f 1 low)
    ∙ ap (λ (b : Bool). refusal-by true (b && nat_le t 65535) (is_ok (header_of f t d))) three.counted
    ∙ ap (λ (b : Bool). refusal-by true (true && b) (is_ok (header_of f t d))) (le-leb t 65535 few)
    ∙ ap (λ (r : Result Header SmfFault). refusal-by true true (is_ok r)) e in
    ap (λ (x : Header). Some x) three.is ∙ sym (ap (λ (o : Option FileRefusal). if not (is_some o) then Some (of_three f t d) else None) none)

-- ---- number by number

last-of : ℕ → ℕ → Option (ℕ × List (List ℕ)) → Option Header
last-of f t None = None
last-of f t (Some (d, [])) = only_if can_head (Some (of_three f t d))
last-of f t (Some (d, w ∷ ws)) = None

second-of : ℕ → Option (ℕ × List (List ℕ)) → Option Header
second-of f None = None
second-of f (Some (t, ws)) = last-of f t (numbered (codes "division") ws)

first-of : Option (ℕ × List (List ℕ)) → Option Header
first-of None = None
first-of (Some (f, ws)) = second-of f (numbered (codes "tracks") ws)

abbrev behind : Bool → Option ℕ → List (List ℕ) → Option (ℕ × List (List ℕ))
behind t o ws = if t then option_map (λ k. (k, ws)) o else None

module _ where
  last-whole : (f t : ℕ) (b : Bool) (z : Option ℕ) → last-of f t (behind b z []) ≡ (if b then only_if can_head (header_of_three (Some f) (Some t) z) else None)
  unfolding last-of
  last-whole f t true (Some d) = refl
  last-whole f t true None = refl
  last-whole f t false z = refl

  last-more : (f t : ℕ) (b : Bool) (z : Option ℕ) (w : List ℕ) (ws : List (List ℕ)) → last-of f t (behind b z (w ∷ ws)) ≡ None
  unfolding last-of
  last-more f t true (Some d) w ws = refl
  last-more f t true None w ws = refl
  last-more f t false z w ws = refl

  second-whole : (f : ℕ) (b c : Bool) (y z : Option ℕ) (ws : List (List ℕ)) → numbered (codes "division") ws ≡ behind c z [] → second-of f (behind b y ws) ≡ (if b && c then only_if can_head (header_of_three (Some f) y z) else None)
  unfolding second-of
  second-whole f true c (Some t) z ws e = ap (last-of f t) e ∙ last-whole f t c z
  second-whole f true true None (Some d) ws e = refl
  second-whole f true true None None ws e = refl
  second-whole f true false None z ws e = refl
  second-whole f false c y z ws e = refl

  second-none : (f : ℕ) (b : Bool) (y : Option ℕ) (ws : List (List ℕ)) → ((t : ℕ) → last-of f t (numbered (codes "division") ws) ≡ None) → second-of f (behind b y ws) ≡ None
  unfolding second-of
  second-none f true (Some t) ws h = h t
  second-none f true None ws h = refl
  second-none f false y ws h = refl

  first-whole : (a b c : Bool) (x y z : Option ℕ) (ws vs : List (List ℕ)) → numbered (codes "tracks") ws ≡ behind b y vs → numbered (codes "division") vs ≡ behind c z [] → first-of (behind a x ws) ≡ (if a && (b && c) then only_if can_head (header_of_three x y z) else None)
  unfolding first-of
  first-whole true b c (Some f) y z ws vs e h = ap (second-of f) e ∙ second-whole f b c y z vs h
  first-whole true true true None (Some t) (Some d) ws vs e h = refl
  first-whole true true true None (Some t) None ws vs e h = refl
  first-whole true true true None None (Some d) ws vs e h = refl
  first-whole true true true None None None ws vs e h = refl
  first-whole true true false None y z ws vs e h = refl
  first-whole true false c None y z ws vs e h = refl
  first-whole false b c x y z ws vs e h = refl

  first-none : (a : Bool) (x : Option ℕ) (ws : List (List ℕ)) → ((f : ℕ) → second-of f (numbered (codes "tracks") ws) ≡ None) → first-of (behind a x ws) ≡ None
  unfolding first-of
  first-none true (Some f) ws h = h f
  first-none true None ws h = refl
  first-none false x ws h = refl

-- a header, number by number
header-steps : (ws : List (List ℕ)) → first-of (numbered (codes "format") ws) ≡ header_by ws
unfolding first-of second-of last-of
header-steps [] = refl
header-steps (f ∷ []) = refl
header-steps (f ∷ n ∷ []) = first-none (bytes_eq f (codes "format")) (u16 n) [] (λ k. refl)
header-steps (f ∷ n ∷ t ∷ []) = first-none (bytes_eq f (codes "format")) (u16 n) (t ∷ []) (λ k. refl)
header-steps (f ∷ n ∷ t ∷ m ∷ []) =
    first-none (bytes_eq f (codes "format")) (u16 n) (t ∷ m ∷ []) (λ k. second-none k (bytes_eq t (codes "tracks")) (u16 m) [] (λ i. refl))
header-steps (f ∷ n ∷ t ∷ m ∷ d ∷ []) =
    first-none (bytes_eq f (codes "format")) (u16 n) (t ∷ m ∷ d ∷ []) (λ k. second-none k (bytes_eq t (codes "tracks")) (u16 m) (d ∷ []) (λ i. refl))
header-steps (f ∷ n ∷ t ∷ m ∷ d ∷ l ∷ []) =
    first-whole (bytes_eq f (codes "format")) (bytes_eq t (codes "tracks")) (bytes_eq d (codes "division")) (u16 n) (u16 m) (u16 l) (t ∷ m ∷ d ∷ l ∷ []) (d ∷ l ∷ []) refl refl
header-steps (f ∷ n ∷ t ∷ m ∷ d ∷ l ∷ w ∷ ws) =
    first-none (bytes_eq f (codes "format")) (u16 n) (t ∷ m ∷ d ∷ l ∷ w ∷ ws)
    (λ k. second-none k (bytes_eq t (codes "tracks")) (u16 m) (d ∷ l ∷ w ∷ ws) (λ i. last-more k i (bytes_eq d (codes "division")) (u16 l) w ws))

-- what the steps found
module _ (ws vs us rest : List (List ℕ)) (f t d : ℕ) (first : numbered (codes "format") ws ≡ Some (f, vs)) where
  pub no-tracks : numbered (codes "tracks") vs ≡ None → header_by ws ≡ None
  unfolding first-of second-of
  no-tracks e = sym (header-steps ws) ∙ ap first-of first ∙ ap (second-of f) e

  module _ (second : numbered (codes "tracks") vs ≡ Some (t, us)) where
    pub no-division : numbered (codes "division") us ≡ None → header_by ws ≡ None
    unfolding first-of second-of last-of
    no-division e = sym (header-steps ws) ∙ ap first-of first ∙ ap (second-of f) second ∙ ap (last-of f t) e

    pub whole-header : numbered (codes "division") us ≡ Some (d, rest) → rest ≡ [] → header_by ws ≡ only_if can_head (Some (of_three f t d))
    unfolding first-of second-of last-of
    whole-header e h = sym (header-steps ws) ∙ ap first-of first ∙ ap (second-of f) second ∙ ap (last-of f t) (e ∙ ap (λ (xs : List (List ℕ)). Some (d, xs)) h)
