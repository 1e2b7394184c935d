-- The texts of whole answers.
use Rattle.std.proofs.Common.{◌≡◌, ℕ, List, [], ◌∷◌, ◌++◌, map, Some, sym, ap, ◌∙◌, append_assoc, append-nil}
use Rattle.std.specs.Prelude.{Result, Ok, Err, OnOk}
use Rattle.std.proofs.lemmas.List.Concat.{flat_map-append}
use Rattle.seq_state.specs.declared.input.Input.{Input}
use Rattle.seq_state.specs.declared.log.Delivery.{Delivery}
use Rattle.seq_state.specs.declared.log.Reply.{Reply}
use Rattle.seq_state.specs.State.{State}
use Rattle.seq_session.specs.Logs.{reply_text}
use Rattle.seq_settle.specs.Next.{next_moment}
use Rattle.session_live.specs.Answers.{Comes, Answers, Next, ended, part_text, parts_text, to_client}

-- what came, the reply, and what is next, one after another
pub taken-text : (i : Input) (n m : ℕ) (ds es : List Delivery) (reply said : Reply) (s : State) (was t u text : List ℕ) → t ≡ was ++ parts_text (map Comes ds) → u ≡ t ++ to_client i.actor (reply_text i.moment (Some n) reply) → text ≡ u ++ part_text (Next (next_moment s)) → ds ≡ es → reply ≡ said → n ≡ m →
    text ≡ was ++ parts_text (ended (map Comes es ++ Answers m i said ∷ []) s)
taken-text i n m ds es reply said s was t u text a b d e f g =
    d ∙ ap (λ x. x ++ next) (b ∙ ap (λ x. x ++ answered n reply) a)
    ∙ ap (λ x. (x ++ next)) (append_assoc was (parts_text (map Comes ds)) (answered n reply))
    ∙ append_assoc was (parts_text (map Comes ds) ++ answered n reply) next
    ∙ ap (λ x. was ++ (parts_text (map Comes x) ++ answered n reply ++ next)) e
    ∙ ap (λ x. was ++ (parts_text (map Comes es) ++ answered n x ++ next)) f
    ∙ ap (λ x. was ++ (parts_text (map Comes es) ++ answered x said ++ next)) g
    ∙ ap (λ x. was ++ x) (sym whole)
  where
    next : List ℕ
    next = part_text (Next (next_moment s))

    answered : ℕ → Reply → List ℕ
    answered k r = part_text (Answers k i r)

    whole : parts_text (ended (map Comes es ++ Answers m i said ∷ []) s) ≡ parts_text (map Comes es) ++ answered m said ++ next
    whole =
        flat_map-append part_text (map Comes es ++ Answers m i said ∷ []) (Next (next_moment s) ∷ [])
        ∙ ap (λ x. x ++ (next ++ [])) (flat_map-append part_text (map Comes es) (Answers m i said ∷ []) ∙ ap (λ x. parts_text (map Comes es) ++ x) (append-nil (answered m said)))
        ∙ ap (λ x. parts_text (map Comes es) ++ answered m said ++ x) (append-nil next)

-- what follows from a fact of the same answer
pub ok-map : {T E P Q : Type 0} (r : Result T E) → (P → Q) → OnOk r P → OnOk r Q
ok-map (Ok x) f p = f p
ok-map (Err e) f p = tt
