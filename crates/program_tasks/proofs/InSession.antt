-- What is told of a circle that was found, and of whether it is closed in its session.
use Rattle.std.proofs.Common.{◌≡◌, ◌≢◌, ℕ, Bool, true, false, List, [], ◌∷◌, ◌++◌, Option, None, refl, sym, ap, subst, ◌∙◌}
use Rattle.std.proofs.lemmas.Bool.{false≢true}
use Rattle.std.proofs.lemmas.List.{append-nil}
use Rattle.seq_state.specs.declared.input.Input.{Input}
use Rattle.seq_state.specs.Circle.{IsClosed}
use Rattle.seq_circle.specs.Least.{is_member, IsLeastCircle}
use Rattle.seq_session.specs.declared.source.Script.{Script}
use Rattle.seq_session.specs.Merging.{inputs_of}
use Rattle.seq_session.specs.Sessions.{FolderContents, session}
use Rattle.session_circle.specs.declared.circle.SessionCircle.{SessionCircle}
use Rattle.session_circle.specs.Closing.{IsFirstReach, IsLogOfMembers, reach_text}
use Rattle.session_circle.specs.Printed.{circle_text}
use Rattle.program_tasks.specs.declared.answer.CircleAnswer.{CircleAnswer}
use Rattle.program_tasks.specs.declared.answer.CircleAnswer.TheVariants.{Shut, Open}
use Rattle.program_tasks.specs.Circles.{answer_of, in_session_text, IsCircleFound, IsCircleTold}

shut_with_none : (openings : List ℕ) (answer : CircleAnswer) → answer ≡ answer_of openings → answer ≡ Shut → openings ≡ []
shut_with_none [] answer a s = refl
shut_with_none (place ∷ openings) answer a s = cc

open_with_some : (openings : List ℕ) (answer : CircleAnswer) → answer ≡ answer_of openings → answer ≡ Open → openings ≢ []
open_with_some [] answer a o = λ none. cc
open_with_some (place ∷ openings) answer a o = λ none. cc

module _ (folder : FolderContents) (end : ℕ) (scripts : List Script) (owner : ℕ) (found : SessionCircle) (is : IsCircleFound folder end scripts owner found) where
  pub least_found : IsLeastCircle owner found.merged.inputs found.circle.joined.items
  least_found = subst (λ xs. IsLeastCircle owner xs found.circle.joined.items) (sym is.inputs) is.is.least

  -- the text of the circle, by these lines and inputs
  abbrev text_by : List ℕ → List Input → List ℕ
  text_by lines inputs = circle_text owner scripts lines inputs found.circle.joined.items found.circle.apart.items found.circle.openings.items

  module _ (in_session : Bool) (answer : CircleAnswer) (answered : answer ≡ answer_of found.circle.openings.items) (text : List ℕ) where
    told_with : (first : Option ℕ) → text ≡ text_by found.merged.lines found.merged.inputs ++ in_session_text in_session found.merged.lines found.merged.inputs first →
        (in_session ≡ true → IsFirstReach folder.files owner (is_member owner found.circle.joined.items) found.merged.inputs first) →
        (in_session ≡ true → first ≡ None → IsClosed folder.files owner (is_member owner found.circle.joined.items) found.merged.inputs) →
        (in_session ≡ true → first ≢ None → IsClosed folder.files owner (is_member owner found.circle.joined.items) found.merged.inputs → ⊥) →
        (in_session ≡ true → first ≡ None → IsLogOfMembers folder end scripts owner (is_member owner found.circle.joined.items)) →
        IsCircleTold folder end scripts owner in_session answer text
    told_with first same reach closed not_closed alone =
        let member : ℕ → Bool = is_member owner found.circle.joined.items in
        let inputs : List Input = inputs_of (session folder end scripts) in
        let by_inputs : text ≡ text_by found.merged.lines inputs ++ in_session_text in_session found.merged.lines inputs first =
        subst (λ xs. text ≡ text_by found.merged.lines xs ++ in_session_text in_session found.merged.lines xs first) is.inputs same in
        record {
          joined = found.circle.joined.items;
          openings = found.circle.openings.items;
          apart = found.circle.apart.items;
          first = first;
          is = is.is;
          text_is = subst (λ ls. text ≡ text_by ls inputs ++ in_session_text in_session ls inputs first) is.lines by_inputs;
          answer_is = answered;
          shut = λ s. is.shut (shut_with_none _ answer answered s);
          outside = is.outside;
          every_byte = λ s. is.every_byte (shut_with_none _ answer answered s);
          none_is_shut = λ o. is.none_is_shut (open_with_some _ answer answered o);
          every_end = λ endless s. is.every_end endless (shut_with_none _ answer answered s);
          every_end_byte = λ endless s. is.every_end_byte endless (shut_with_none _ answer answered s);
          every_end_apart = is.every_end_apart;
          reach = λ asked. subst (λ xs. IsFirstReach folder.files owner member xs first) is.inputs (reach asked);
          closed = λ asked none. subst (IsClosed folder.files owner member) is.inputs (closed asked none);
          not_closed = λ asked some now. not_closed asked some (subst (IsClosed folder.files owner member) (sym is.inputs) now);
          alone = alone;
        }

    pub told_unasked : in_session ≡ false → text ≡ text_by found.merged.lines found.merged.inputs → IsCircleTold folder end scripts owner in_session answer text
    told_unasked unasked same =
        told_with None
        (same ∙ sym (append-nil (text_by found.merged.lines found.merged.inputs)) ∙ ap (λ b. text_by found.merged.lines found.merged.inputs ++ in_session_text b found.merged.lines found.merged.inputs None) (sym unasked))
        (λ e. absurd (false≢true (sym unasked ∙ e))) (λ e. absurd (false≢true (sym unasked ∙ e))) (λ e. absurd (false≢true (sym unasked ∙ e))) (λ e. absurd (false≢true (sym unasked ∙ e)))

    pub told_in_session : in_session ≡ true → (first : Option ℕ) → text ≡ text_by found.merged.lines found.merged.inputs ++ reach_text found.merged.lines found.merged.inputs first →
        IsFirstReach folder.files owner (is_member owner found.circle.joined.items) found.merged.inputs first →
        (first ≡ None → IsClosed folder.files owner (is_member owner found.circle.joined.items) found.merged.inputs) →
        (first ≢ None → IsClosed folder.files owner (is_member owner found.circle.joined.items) found.merged.inputs → ⊥) →
        (first ≡ None → IsLogOfMembers folder end scripts owner (is_member owner found.circle.joined.items)) →
        IsCircleTold folder end scripts owner in_session answer text
    told_in_session asked first same reach closed not_closed alone =
        told_with first (same ∙ ap (λ b. text_by found.merged.lines found.merged.inputs ++ in_session_text b found.merged.lines found.merged.inputs first) (sym asked))
        (λ e. reach) (λ e. closed) (λ e. not_closed) (λ e. alone)
