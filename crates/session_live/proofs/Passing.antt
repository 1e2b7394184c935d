-- Moments that an input or another moment follows at once are not told from their absence.
use Rattle.std.proofs.Common.{◌≡◌, ℕ, Bool, true, false, cond, eqb, ◌&&◌, List, [], ◌∷◌, ◌++◌, map, Some, None, refl, sym, ap, ◌∙◌, append_assoc}
use Rattle.std.proofs.lemmas.Bool.{false≢true}
use Rattle.seq_state.specs.declared.input.Input.{Input}
use Rattle.seq_state.specs.declared.log.Delivery.{Delivery}
use Rattle.smf_grammar.specs.Played.{PlayedFile}
use Rattle.seq_state.specs.State.{State}
use Rattle.seq_state.specs.Step.{Stepped, Settled, step, settle}
use Rattle.seq_state.specs.Circle.{aims_outside}
use Rattle.seq_state.proofs.Lists.{flat_map-append}
use Rattle.seq_state.proofs.Settling.{settling_law}
use Rattle.session_live.specs.Lines.{Item, PassedOver, Skipped, Said, Waited, Asked, inputs_in, IsTimedUpTo}
use Rattle.session_live.specs.Answers.{Comes, Answers, answer, after_item, answers_from}
use Rattle.session_live.specs.Circles.{OwnLine, Replies, own, own_lines, outside_numbers, circle_items, begins_in_time, with_last_moments}
use Rattle.session_live.proofs.Alone.{command_of, tells, came, came-append, own-comes, own-says, with_answer, lines_from}

-- ---- what stays

-- the circle's part of lines whose moments never fall
pub timed_circle : (member : ℕ → Bool) (xs : List Item) (now end : ℕ) → IsTimedUpTo now xs end → IsTimedUpTo now (circle_items member xs) end
timed_circle member [] now end h = h
timed_circle member (Said n i ∷ xs) now end h = go (member i.actor) (timed_circle member xs i.moment end h.1)
  where
    go : (b : Bool) → IsTimedUpTo i.moment (circle_items member xs) end → IsTimedUpTo now (cond b (Said n i) (Waited i.moment) ∷ circle_items member xs) end
    go true more = (h.0, more)
    go false more = (h.0, more)
timed_circle member (Waited m ∷ xs) now end h = (h.0, timed_circle member xs m end h.1)
timed_circle member (PassedOver ∷ xs) now end h = timed_circle member xs now end h
timed_circle member (Skipped None n why ∷ xs) now end h = timed_circle member xs now end h
timed_circle member (Skipped (Some c) n why ∷ xs) now end h = go (member c) (timed_circle member xs now end h)
  where
    go : (b : Bool) → IsTimedUpTo now (circle_items member xs) end → IsTimedUpTo now (cond b (Skipped (Some c) n why ∷ []) [] ++ circle_items member xs) end
    go true more = more
    go false more = more
timed_circle member (Asked ∷ xs) now end h = timed_circle member xs now end h

pub inputs_last : (xs : List Item) → inputs_in (with_last_moments xs) ≡ inputs_in xs
inputs_last [] = refl
inputs_last (Said n i ∷ xs) = ap (λ is. i ∷ is) (inputs_last xs)
inputs_last (Waited m ∷ xs) = go (begins_in_time xs) (inputs_last xs)
  where
    go : (b : Bool) → inputs_in (with_last_moments xs) ≡ inputs_in xs → inputs_in (cond b (with_last_moments xs) (Waited m ∷ with_last_moments xs)) ≡ inputs_in xs
    go true e = e
    go false e = e
inputs_last (PassedOver ∷ xs) = inputs_last xs
inputs_last (Skipped c n why ∷ xs) = inputs_last xs
inputs_last (Asked ∷ xs) = inputs_last xs

pub outside_last : (owner : ℕ) (member : ℕ → Bool) (xs : List Item) → outside_numbers owner member (with_last_moments xs) ≡ outside_numbers owner member xs
outside_last owner member [] = refl
outside_last owner member (Said n i ∷ xs) = ap (λ ns. cond (eqb i.actor owner && aims_outside owner member i.command) (n ∷ ns) ns) (outside_last owner member xs)
outside_last owner member (Waited m ∷ xs) = go (begins_in_time xs) (outside_last owner member xs)
  where
    go : (b : Bool) → outside_numbers owner member (with_last_moments xs) ≡ outside_numbers owner member xs →
        outside_numbers owner member (cond b (with_last_moments xs) (Waited m ∷ with_last_moments xs)) ≡ outside_numbers owner member xs
    go true e = e
    go false e = e
outside_last owner member (PassedOver ∷ xs) = outside_last owner member xs
outside_last owner member (Skipped c n why ∷ xs) = outside_last owner member xs
outside_last owner member (Asked ∷ xs) = outside_last owner member xs

-- ---- what is answered

module _ (files : List PlayedFile) (owner : ℕ) (member : ℕ → Bool) where
  abbrev own_from : State → List Item → List OwnLine
  own_from s xs = lines_from files owner member s xs

  abbrev came_of : List Delivery → List OwnLine
  came_of ds = came files owner member ds

  -- what is answered to an input, and to what follows, by what settling brought
  said_after : ℕ → Input → List Item → Settled → List OwnLine
  said_after n i xs u =
      let a : Stepped = command_of files owner member i u.state in
      (came_of (u.delivered ++ a.delivered) ++ map (Replies n) (tells files owner member i a.reply)) ++ own_from a.state xs

  own-said : (s : State) (n : ℕ) (i : Input) (xs : List Item) → own_from s (Said n i ∷ xs) ≡ said_after n i xs (settle s i.moment)
  unfolding said_after
  own-said s n i xs =
      let a : Stepped = step files s i in
      with_answer files owner member (map Comes a.delivered ++ Answers n i a.reply ∷ []) (answers_from files a.state xs) a.state (came_of a.delivered ++ map (Replies n) (tells files owner member i a.reply)) (own-says files owner member n i a)

  own-waited : (s : State) (m : ℕ) (xs : List Item) → own_from s (Waited m ∷ xs) ≡ came_of (settle s m).delivered ++ own_from (settle s m).state xs
  own-waited s m xs =
      let u : Settled = settle s m in
      with_answer files owner member (map Comes u.delivered) (answers_from files u.state xs) u.state (came_of u.delivered) (own-comes files owner member u.delivered)

  -- a moment that an input or another moment follows at once
  passing : (xs : List Item) (m end : ℕ) → IsTimedUpTo m xs end → begins_in_time xs ≡ true → (s : State) → own_from s (Waited m ∷ xs) ≡ own_from s xs
  unfolding said_after
  passing [] m end h b s = absurd (false≢true b)
  passing (Waited k ∷ xs) m end h b s =
      let u : Settled = settle s m in
      let v : Settled = settle u.state k in
      let law = settling_law s m k h.0 in
      own-waited s m (Waited k ∷ xs)
      ∙ ap (λ ys. came_of u.delivered ++ ys) (own-waited u.state k xs)
      ∙ sym (append_assoc (came_of u.delivered) (came_of v.delivered) (own_from v.state xs))
      ∙ ap (λ ys. ys ++ own_from v.state xs) (sym (came-append files owner member u.delivered v.delivered) ∙ ap came_of law.1)
      ∙ ap (λ t. came_of (settle s k).delivered ++ own_from t xs) law.0
      ∙ sym (own-waited s k xs)
  passing (Said n i ∷ xs) m end h b s =
      let u : Settled = settle s m in
      let v : Settled = settle u.state i.moment in
      let law = settling_law s m i.moment h.0 in
      let a : Stepped = command_of files owner member i v.state in
      let told : List OwnLine = map (Replies n) (tells files owner member i a.reply) in
      let rest : List OwnLine = own_from a.state xs in
      own-waited s m (Said n i ∷ xs)
      ∙ ap (λ ys. came_of u.delivered ++ ys) (own-said u.state n i xs)
      ∙ sym (append_assoc (came_of u.delivered) (came_of (v.delivered ++ a.delivered) ++ told) rest)
      ∙ ap (λ ys. ys ++ rest) (sym (append_assoc (came_of u.delivered) (came_of (v.delivered ++ a.delivered)) told))
      ∙ ap (λ ys. (ys ++ told) ++ rest) (sym (came-append files owner member u.delivered (v.delivered ++ a.delivered)) ∙ ap came_of (sym (append_assoc u.delivered v.delivered a.delivered) ∙ ap (λ ds. ds ++ a.delivered) law.1))
      ∙ ap (λ t. said_after n i xs (record { state = t; delivered = (settle s i.moment).delivered })) law.0
      ∙ sym (own-said s n i xs)
  passing (PassedOver ∷ xs) m end h b s = absurd (false≢true b)
  passing (Skipped c n why ∷ xs) m end h b s = absurd (false≢true b)
  passing (Asked ∷ xs) m end h b s = absurd (false≢true b)

  after_one : (x : Item) (xs ys : List Item) (s : State) → own_from (after_item files s x) xs ≡ own_from (after_item files s x) ys → own_from s (x ∷ xs) ≡ own_from s (x ∷ ys)
  after_one x xs ys s e =
      let t : State = after_item files s x in
      flat_map-append (own owner member) (answer files s x) (answers_from files t xs)
      ∙ ap (λ zs. own_lines owner member (answer files s x) ++ zs) e
      ∙ sym (flat_map-append (own owner member) (answer files s x) (answers_from files t ys))

  pub last_moments : (xs : List Item) (now end : ℕ) → IsTimedUpTo now xs end → (s : State) → own_from s xs ≡ own_from s (with_last_moments xs)
  last_moments [] now end h s = refl
  last_moments (Said n i ∷ xs) now end h s = after_one (Said n i) xs (with_last_moments xs) s (last_moments xs i.moment end h.1 (step files s i).state)
  last_moments (Waited m ∷ xs) now end h s = go (begins_in_time xs) refl (last_moments xs m end h.1)
    where
      go : (b : Bool) → begins_in_time xs ≡ b → ((t : State) → own_from t xs ≡ own_from t (with_last_moments xs)) → own_from s (Waited m ∷ xs) ≡ own_from s (cond b (with_last_moments xs) (Waited m ∷ with_last_moments xs))
      go true b more = passing xs m end h.1 b s ∙ more s
      go false b more = after_one (Waited m) xs (with_last_moments xs) s (more (settle s m).state)
  last_moments (PassedOver ∷ xs) now end h s = after_one PassedOver xs (with_last_moments xs) s (last_moments xs now end h s)
  last_moments (Skipped c n why ∷ xs) now end h s = after_one (Skipped c n why) xs (with_last_moments xs) s (last_moments xs now end h s)
  last_moments (Asked ∷ xs) now end h s = after_one Asked xs (with_last_moments xs) s (last_moments xs now end h s)
