-- Lines that are the same for a circle, and what its owner is answered.
use Rattle.std.proofs.Common.{◌≡◌, ℕ, Bool, true, false, cond, List, [], ◌∷◌, ◌++◌, Some, None, refl, sym, ap, ◌∙◌}
use Rattle.std.specs.List.{flat_map}
use Rattle.seq_state.specs.Circle.{only, IsClosed}
use Rattle.seq_state.specs.State.{start}
use Rattle.seq_circle.proofs.Shut.{shut_law}
use Rattle.session_live.specs.Lines.{Item, PassedOver, Skipped, Said, Waited, Asked, nothing_heard, heard_from, inputs_in}
use Rattle.session_live.specs.Answers.{answers_from, items_of, answers_to}
use Rattle.session_live.specs.Circles.{own_lines, outside_numbers, circle_items, circle_lines}
use Rattle.session_live.specs.Laws.{AgreeLinesLaw, ShutLinesLaw}
use Rattle.session_live.proofs.Reading.{timed_law, circle_law}
use Rattle.session_live.proofs.Passing.{timed_circle, inputs_last, outside_last, last_moments}
use Rattle.session_live.proofs.Blanked.{own_text, outside-circle, owner_text}

-- the inputs that are the circle's are those of its members
inputs-circle : (member : ℕ → Bool) (xs : List Item) → inputs_in (circle_items member xs) ≡ only member (inputs_in xs)
inputs-circle member [] = refl
inputs-circle member (Said n i ∷ xs) = go (member i.actor) (inputs-circle member xs)
  where
    go : (b : Bool) → inputs_in (circle_items member xs) ≡ only member (inputs_in xs) → inputs_in (cond b (Said n i) (Waited i.moment) ∷ circle_items member xs) ≡ cond b (i ∷ only member (inputs_in xs)) (only member (inputs_in xs))
    go true e = ap (λ is. i ∷ is) e
    go false e = e
inputs-circle member (PassedOver ∷ xs) = inputs-circle member xs
inputs-circle member (Skipped None n why ∷ xs) = inputs-circle member xs
inputs-circle member (Skipped (Some c) n why ∷ xs) = go (member c) (inputs-circle member xs)
  where
    go : (b : Bool) → inputs_in (circle_items member xs) ≡ only member (inputs_in xs) → inputs_in (cond b (Skipped (Some c) n why ∷ []) [] ++ circle_items member xs) ≡ only member (inputs_in xs)
    go true e = e
    go false e = e
inputs-circle member (Waited m ∷ xs) = inputs-circle member xs
inputs-circle member (Asked ∷ xs) = inputs-circle member xs

pub agree_lines_law : AgreeLinesLaw
agree_lines_law folder owner member ls others closed closed' e =
    let xs : List Item = items_of folder ls in
    let ys : List Item = items_of folder others in
    let numbers : List ℕ = outside_numbers owner member xs in
    let same : outside_numbers owner member ys ≡ numbers =
    sym (outside_circle ys) ∙ ap (outside_numbers owner member) e ∙ outside_circle xs in
    owner_text folder owner member others numbers same
    ∙ ap (flat_map (own_text numbers))
    (answered others closed'
    ∙ ap (λ zs. own_lines owner member (answers_from folder.files start zs)) e
    ∙ sym (answered ls closed))
    ∙ sym (owner_text folder owner member ls numbers refl)
  where
    outside_circle : (zs : List Item) → outside_numbers owner member (circle_lines member zs) ≡ outside_numbers owner member zs
    outside_circle zs = outside_last owner member (circle_items member zs) ∙ outside-circle owner member member closed.0 zs

    answered : (rs : List (List ℕ)) → IsClosed folder.files owner member (inputs_in (items_of folder rs)) →
        own_lines owner member (answers_to folder rs) ≡ own_lines owner member (answers_from folder.files start (circle_lines member (items_of folder rs)))
    answered rs c =
        let zs : List Item = items_of folder rs in
        let end : ℕ = (heard_from folder.names nothing_heard rs).latest in
        circle_law folder.files owner member folder.names rs c
        ∙ last_moments folder.files owner member (circle_items member zs) 0 end (timed_circle member zs 0 end (timed_law folder.names nothing_heard rs)) start

pub shut_lines_law : ShutLinesLaw
shut_lines_law folder owner member ls others shut e =
    let xs : List Item = items_of folder ls in
    let ys : List Item = items_of folder others in
    let members : only member (inputs_in ys) ≡ only member (inputs_in xs) = sym (inputs_circle ys) ∙ ap inputs_in e ∙ inputs_circle xs in
    agree_lines_law folder owner member ls others
    (shut_law folder.files owner member (inputs_in xs) (inputs_in xs) shut refl) (shut_law folder.files owner member (inputs_in xs) (inputs_in ys) shut members) e
  where
    inputs_circle : (zs : List Item) → inputs_in (circle_lines member zs) ≡ only member (inputs_in zs)
    inputs_circle zs = inputs_last (circle_items member zs) ∙ inputs-circle member zs
