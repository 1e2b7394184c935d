-- What the owner of a closed circle is answered.
use Rattle.std.proofs.Common.{◌≡◌, ℕ, ◌≤◌, Bool, true, false, cond, eqb, List, [], ◌∷◌, ◌++◌, map, Option, Some, None, refl, sym, ap, subst, ◌∙◌, arith, append-nil}
use Rattle.std.specs.List.{filter}
use Rattle.std.proofs.lemmas.Bool.Decides.{nat_tests}
use Rattle.std.proofs.lemmas.List.{map-append}
use Rattle.seq_state.specs.declared.input.Input.{Input}
use Rattle.seq_state.specs.declared.log.Delivery.{Delivery}
use Rattle.seq_state.specs.declared.log.Reply.{Reply}
use Rattle.smf_grammar.specs.Played.{PlayedFile}
use Rattle.seq_state.specs.State.{State, start}
use Rattle.seq_state.specs.Table.{queue_named}
use Rattle.seq_state.specs.Step.{Stepped, Settled, command_step, step, settle}
use Rattle.seq_state.specs.Circle.{Sight, Came, Told, Outside, aims_outside, is_to, IsClosedAt, NamesWithin, IsClosedFrom}
use Rattle.seq_state.proofs.Lists.{flat_map-append, filter-append}
use Rattle.seq_state.proofs.Paths.{heard}
use Rattle.seq_state.proofs.Settling.{settling_law}
use Rattle.seq_state.proofs.Kin.{Kin, kin_same, kin_trans, kin_settle, within_settle, heard_settle, Within, told, Aside, command_alike, command_aside}
use Rattle.script_text.specs.declared.reading.SkipReason.{SkipReason}
use Rattle.session_live.specs.Lines.{Item, PassedOver, Skipped, Said, Waited, Asked, inputs_in, IsTimedUpTo}
use Rattle.session_live.specs.Answers.{Part, Comes, Answers, ended, answers_from}
use Rattle.session_live.specs.Circles.{OwnLine, Gets, Replies, Missed, own, own_skip, own_lines, alone, alone_skip}
use Rattle.session_live.specs.Laws.{AloneLaw}

-- settling brings the one where it brings the other, from this moment on
abbrev Meets : State → State → ℕ → Type 0
Meets s0 s now = (m : ℕ) → now ≤ m → (settle s m).state ≡ (settle s0 m).state

module _ (files : List PlayedFile) (owner : ℕ) (member : ℕ → Bool) where
  abbrev pub command_of : Input → State → Stepped
  command_of i s = command_step files s i.moment i.actor i.command

  abbrev pub tells : Input → Reply → List Sight
  tells i reply = told owner member i.moment i.actor i.command reply

  pub came : List Delivery → List OwnLine
  came ds = map Gets (map Came (heard owner ds))

  pub came-append : (xs ys : List Delivery) → came (xs ++ ys) ≡ came xs ++ came ys
  unfolding came heard
  came-append xs ys =
      ap (λ ds. map Gets (map Came ds)) (filter-append (is_to owner) xs ys)
      ∙ ap (map Gets) (map-append Came (filter (is_to owner) xs) (filter (is_to owner) ys))
      ∙ map-append Gets (map Came (filter (is_to owner) xs)) (map Came (filter (is_to owner) ys))

  same_came : (a b : List Delivery) → heard owner a ≡ heard owner b → came a ≡ came b
  unfolding came
  same_came a b e = ap (λ ds. map Gets (map Came ds)) e

  no_came : (a : List Delivery) → heard owner a ≡ [] → came a ≡ []
  unfolding came
  no_came a e = ap (λ ds. map Gets (map Came ds)) e

  pub own-comes : (ds : List Delivery) → own_lines owner member (map Comes ds) ≡ came ds
  unfolding came heard
  own-comes [] = refl
  own-comes (d ∷ ds) = go (is_to owner d) (own-comes ds)
    where
      go : (b : Bool) → own_lines owner member (map Comes ds) ≡ map Gets (map Came (filter (is_to owner) ds)) →
          map Gets (cond b (Came d ∷ []) []) ++ own_lines owner member (map Comes ds) ≡ map Gets (map Came (cond b (d ∷ filter (is_to owner) ds) (filter (is_to owner) ds)))
      go true more = ap (λ xs. Gets (Came d) ∷ xs) more
      go false more = more

  own-ended : (parts : List Part) (s : State) → own_lines owner member (ended parts s) ≡ own_lines owner member parts
  own-ended parts s = flat_map-append (own owner member) parts (ended [] s) ∙ append-nil (own_lines owner member parts)

  -- an answer, and what follows
  pub with_answer : (parts rest : List Part) (s : State) (a : List OwnLine) → own_lines owner member parts ≡ a → own_lines owner member (ended parts s ++ rest) ≡ a ++ own_lines owner member rest
  with_answer parts rest s a e = flat_map-append (own owner member) (ended parts s) rest ∙ ap (λ xs. xs ++ own_lines owner member rest) (own-ended parts s ∙ e)

  pub own-says : (n : ℕ) (i : Input) (a : Stepped) → own_lines owner member (map Comes a.delivered ++ Answers n i a.reply ∷ []) ≡ came a.delivered ++ map (Replies n) (tells i a.reply)
  own-says n i a =
      flat_map-append (own owner member) (map Comes a.delivered) (Answers n i a.reply ∷ [])
      ∙ ap (λ xs. xs ++ (map (Replies n) (tells i a.reply) ++ [])) (own-comes a.delivered)
      ∙ ap (λ xs. came a.delivered ++ xs) (append-nil (map (Replies n) (tells i a.reply)))

  -- ---- one line

  not_owner : member owner ≡ true → (c : ℕ) → member c ≡ false → eqb c owner ≡ false
  not_owner o c m = grind (arith, nat_tests)

  quiet : member owner ≡ true → (i : Input) (r : Reply) → member i.actor ≡ false → tells i r ≡ []
  quiet o i r m = ap (λ b. cond b (cond (aims_outside owner member i.command) (Outside i.moment) (Told i.moment r) ∷ []) []) (not_owner o i.actor m)

  member_says : member owner ≡ true → (n : ℕ) (i : Input) (s t : State) → Kin owner member s t → Within owner member s → member i.actor ≡ true → IsClosedAt owner member i.actor i.command (step files s i).reply → NamesWithin member i.actor (queue_named i.command) →
      Kin owner member (step files s i).state (step files t i).state × (Within owner member (step files s i).state
      × (came (step files s i).delivered ++ map (Replies n) (tells i (step files s i).reply) ≡ came (step files t i).delivered ++ map (Replies n) (tells i (step files t i).reply)))
  member_says o n i s t k w m c q =
      let u : Settled = settle s i.moment in
      let v : Settled = settle t i.moment in
      let a = command_alike owner member o files u.state v.state (kin_settle owner member s t k w i.moment) (within_settle owner member s w i.moment) i.moment i.actor i.command m c q in
      let same : came (u.delivered ++ (command_of i u.state).delivered) ≡ came (v.delivered ++ (command_of i v.state).delivered) =
      came-append u.delivered (command_of i u.state).delivered
      ∙ ap (λ xs. xs ++ came (command_of i u.state).delivered) (same_came u.delivered v.delivered (heard_settle owner member s t k w i.moment))
      ∙ ap (λ xs. came v.delivered ++ xs) (same_came (command_of i u.state).delivered (command_of i v.state).delivered a.0.heard)
      ∙ sym (came-append v.delivered (command_of i v.state).delivered) in (
        a.0.kin,
        (
          a.0.within,
          ap (λ xs. xs ++ map (Replies n) (tells i (step files s i).reply)) same
              ∙ ap (λ xs. came (step files t i).delivered ++ map (Replies n) xs) a.1,
        ),
      )

  stranger_says : member owner ≡ true → (n : ℕ) (i : Input) (s t : State) → Kin owner member s t → Within owner member s → member i.actor ≡ false → IsClosedAt owner member i.actor i.command (step files s i).reply →
      Kin owner member (step files s i).state (settle t i.moment).state × (Within owner member (step files s i).state
      × (came (step files s i).delivered ++ map (Replies n) (tells i (step files s i).reply) ≡ came (settle t i.moment).delivered))
  stranger_says o n i s t k w m c =
      let u : Settled = settle s i.moment in
      let v : Settled = settle t i.moment in
      let a : Aside owner member (command_of i u.state) u.state = command_aside owner member o files u.state (within_settle owner member s w i.moment) i.moment i.actor i.command m c in (
        kin_trans owner member (step files s i).state u.state v.state a.kin (kin_settle owner member s t k w i.moment),
        (
          a.within,
          ap (λ xs. came (u.delivered ++ (command_of i u.state).delivered) ++ map (Replies n) xs) (quiet o i (step files s i).reply m)
              ∙ append-nil (came (u.delivered ++ (command_of i u.state).delivered))
              ∙ came-append u.delivered (command_of i u.state).delivered
              ∙ ap (λ xs. came u.delivered ++ xs) (no_came (command_of i u.state).delivered a.heard)
              ∙ append-nil (came u.delivered)
              ∙ same_came u.delivered v.delivered (heard_settle owner member s t k w i.moment),
        ),
      )

  -- ---- all lines

  abbrev pub lines_from : State → List Item → List OwnLine
  lines_from s xs = own_lines owner member (answers_from files s xs)

  abbrev Follows : List Item → ℕ → Type 0
  Follows xs now =
      (s0 s t : State) → Meets s0 s now → Kin owner member s t → Within owner member s → IsClosedFrom files owner member s0 (inputs_in xs) → lines_from s xs ≡ lines_from t (map (alone member) xs)

  says_case : member owner ≡ true → (n : ℕ) (i : Input) (xs : List Item) (now : ℕ) → now ≤ i.moment → Follows xs i.moment → (s0 s t : State) → Meets s0 s now → Kin owner member s t → Within owner member s →
      IsClosedFrom files owner member s0 (i ∷ inputs_in xs) → (b : Bool) → member i.actor ≡ b → lines_from s (Said n i ∷ xs) ≡ lines_from t (cond b (Said n i) (Waited i.moment) ∷ map (alone member) xs)
  says_case o n i xs now l later s0 s t e k w c b m =
      let met : (settle s i.moment).state ≡ (settle s0 i.moment).state = e i.moment l in
      let after : (step files s i).state ≡ (step files s0 i).state = ap (λ u. (command_of i u).state) met in
      let meets : Meets (step files s0 i).state (step files s i).state i.moment = (λ p l'. ap (λ u. (settle u p).state) after) in
      let closed : IsClosedAt owner member i.actor i.command (step files s i).reply = subst (λ u. IsClosedAt owner member i.actor i.command (command_of i u).reply) (sym met) c.0 in
      with_answer (map Comes (step files s i).delivered ++ Answers n i (step files s i).reply ∷ []) (answers_from files (step files s i).state xs) (step files s i).state
      (came (step files s i).delivered ++ map (Replies n) (tells i (step files s i).reply)) (own-says n i (step files s i))
      ∙ go meets closed b m
    where
      go : Meets (step files s0 i).state (step files s i).state i.moment → IsClosedAt owner member i.actor i.command (step files s i).reply → (b : Bool) → member i.actor ≡ b →
          (came (step files s i).delivered ++ map (Replies n) (tells i (step files s i).reply)) ++ lines_from (step files s i).state xs ≡ lines_from t (cond b (Said n i) (Waited i.moment) ∷ map (alone member) xs)
      go meets closed true m =
          let a = member_says o n i s t k w m closed c.1 in
          ap (λ ys. ys ++ lines_from (step files s i).state xs) a.1.1
          ∙ ap (λ ys. (came (step files t i).delivered ++ map (Replies n) (tells i (step files t i).reply)) ++ ys) (later (step files s0 i).state (step files s i).state (step files t i).state meets a.0 a.1.0 c.2)
          ∙ sym (with_answer (map Comes (step files t i).delivered ++ Answers n i (step files t i).reply ∷ []) (answers_from files (step files t i).state (map (alone member) xs)) (step files t i).state
          (came (step files t i).delivered ++ map (Replies n) (tells i (step files t i).reply)) (own-says n i (step files t i)))
      go meets closed false m =
          let a = stranger_says o n i s t k w m closed in
          ap (λ ys. ys ++ lines_from (step files s i).state xs) a.1.1
          ∙ ap (λ ys. came (settle t i.moment).delivered ++ ys) (later (step files s0 i).state (step files s i).state (settle t i.moment).state meets a.0 a.1.0 c.2)
          ∙ sym (with_answer (map Comes (settle t i.moment).delivered) (answers_from files (settle t i.moment).state (map (alone member) xs)) (settle t i.moment).state (came (settle t i.moment).delivered) (own-comes (settle t i.moment).delivered))

  passes_case : (m : ℕ) (xs : List Item) (now : ℕ) → now ≤ m → Follows xs m → (s0 s t : State) → Meets s0 s now → Kin owner member s t → Within owner member s →
      IsClosedFrom files owner member s0 (inputs_in xs) → lines_from s (Waited m ∷ xs) ≡ lines_from t (Waited m ∷ map (alone member) xs)
  passes_case m xs now l later s0 s t e k w c =
      let u : Settled = settle s m in
      let v : Settled = settle t m in
      let meets : Meets s0 u.state m = (λ p l'. (settling_law s m p l').0 ∙ e p (omega arith)) in
      with_answer (map Comes u.delivered) (answers_from files u.state xs) u.state (came u.delivered) (own-comes u.delivered)
      ∙ ap (λ ys. ys ++ lines_from u.state xs) (same_came u.delivered v.delivered (heard_settle owner member s t k w m))
      ∙ ap (λ ys. came v.delivered ++ ys) (later s0 u.state v.state meets (kin_settle owner member s t k w m) (within_settle owner member s w m) c)
      ∙ sym (with_answer (map Comes v.delivered) (answers_from files v.state (map (alone member) xs)) v.state (came v.delivered) (own-comes v.delivered))

  skip_case : member owner ≡ true → (client : Option ℕ) (n : ℕ) (why : SkipReason) (xs : List Item) (s t : State) → lines_from s xs ≡ lines_from t (map (alone member) xs) →
      lines_from s (Skipped client n why ∷ xs) ≡ lines_from t (alone_skip member client (Skipped client n why) ∷ map (alone member) xs)
  skip_case o None n why xs s t e = e
  skip_case o (Some c) n why xs s t e = go (member c) refl
    where
      go : (b : Bool) → member c ≡ b → own_skip owner (Some c) n why ++ lines_from s xs ≡ lines_from t (cond b (Skipped (Some c) n why) PassedOver ∷ map (alone member) xs)
      go true m = ap (λ ys. own_skip owner (Some c) n why ++ ys) e
      go false m = ap (λ b. cond b (Missed n why ∷ []) [] ++ lines_from s xs) (not_owner o c m) ∙ e

  alone_from : member owner ≡ true → (xs : List Item) (now end : ℕ) → IsTimedUpTo now xs end → Follows xs now
  alone_from o [] now end h s0 s t e k w c = refl
  alone_from o (Said n i ∷ xs) now end h s0 s t e k w c =
      says_case o n i xs now h.0 (alone_from o xs i.moment end h.1) s0 s t e k w c (member i.actor) refl
  alone_from o (Waited m ∷ xs) now end h s0 s t e k w c = passes_case m xs now h.0 (alone_from o xs m end h.1) s0 s t e k w c
  alone_from o (PassedOver ∷ xs) now end h s0 s t e k w c = alone_from o xs now end h s0 s t e k w c
  alone_from o (Skipped client n why ∷ xs) now end h s0 s t e k w c = skip_case o client n why xs s t (alone_from o xs now end h s0 s t e k w c)
  alone_from o (Asked ∷ xs) now end h s0 s t e k w c = alone_from o xs now end h s0 s t e k w c

pub alone_law : AloneLaw
alone_law files owner member xs end h closed =
    alone_from files owner member closed.0 xs 0 end h start start start (λ m l. refl) (kin_same owner member start) (record { edges = refl; playbacks = refl }) closed.1
