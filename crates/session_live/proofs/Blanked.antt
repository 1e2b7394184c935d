-- What stands in the answers for the owner, without what lies outside.
use Rattle.std.proofs.Common.{◌≡◌, ℕ, Bool, true, false, cond, eqb, ◌&&◌, ◌||◌, List, [], ◌∷◌, ◌++◌, map, Option, Some, None, refl, sym, ap, ◌∙◌, append_assoc}
use Rattle.std.specs.Prelude.{codes}
use Rattle.std.specs.Fmt.{decimal}
use Rattle.std.specs.List.{flat_map, list_all}
use Rattle.std.specs.Str.{bytes_eq}
use Rattle.std.proofs.lemmas.Bool.{false≢true, eqb-true}
use Rattle.std.proofs.lemmas.Slice.Eq.{bytes_eq-Decides}
use Rattle.seq_state.specs.declared.input.Command.{Command}
use Rattle.seq_state.specs.declared.input.Command.TheVariants.{Connect, Disconnect}
use Rattle.seq_state.specs.declared.input.Input.{Input}
use Rattle.seq_state.specs.declared.log.Delivery.{Delivery}
use Rattle.seq_state.specs.declared.refusal.Refusal.{Refusal}
use Rattle.smf_grammar.specs.Played.{PlayedFile}
use Rattle.seq_state.specs.State.{State, start}
use Rattle.seq_state.specs.Table.{command_row}
use Rattle.seq_state.specs.Step.{Stepped, unless, refusal_of, effect_of, command_step, step, settle}
use Rattle.seq_state.specs.Circle.{Sight, Came, Told, Outside, aims_outside, is_to}
use Rattle.seq_state.proofs.Lists.{both_left, both_right, and_both, list_all-weaker}
use Rattle.script_text.specs.Words.{lines}
use Rattle.seq_session.specs.Logs.{delivery_line, skip_line, reply_text, reply_front, below}
use Rattle.seq_session.specs.Blank.{text_with_blanks, blank_line, is_one_of}
use Rattle.seq_session.specs.Sessions.{FolderContents}
use Rattle.seq_session.proofs.Blanking.{reply_cut}
use Rattle.seq_session.proofs.Texts.{blanked-line}
use Rattle.session_live.specs.Lines.{Item, PassedOver, Skipped, Said, Waited, Asked, nothing_heard, whole_lines}
use Rattle.session_live.specs.Answers.{Part, Comes, Answers, Skips, Lists, Next, ended, answers_from, items_of, answers_to, parts_text}
use Rattle.session_live.specs.Circles.{OwnLine, Gets, Replies, Missed, own_lines, outside_numbers, lines_alone, circle_items}
use Rattle.session_live.specs.Texts.{log_in, part_log}
use Rattle.session_live.specs.Laws.{BytesLaw}
use Rattle.session_live.proofs.Reading.{everyone, read_alone, lines_law}
use Rattle.session_live.proofs.Fronts.{is_line, unlines, but-last-lines, lines-lines, IsText, text-whole, delivery-text, skip-text, reply-text, text_law}

-- ---- texts of whole lines, blanked

module _ (numbers : List ℕ) where
  -- a text of whole lines with each of them blanked
  lines_with_blanks : List ℕ → List ℕ
  lines_with_blanks t = unlines (map (blank_line numbers) (whole_lines t))

  blanked-unlines : (ls : List (List ℕ)) (u : List ℕ) → list_all is_line ls ≡ true → text_with_blanks numbers (unlines ls ++ u) ≡ unlines (map (blank_line numbers) ls) ++ text_with_blanks numbers u
  blanked-unlines [] u h = refl
  blanked-unlines (l ∷ ls) u h =
      ap (text_with_blanks numbers) (shape l (unlines ls) u)
      ∙ blanked-line numbers l (unlines ls ++ u) (both_left (is_line l) (list_all is_line ls) h)
      ∙ ap (λ v. blank_line numbers l ++ 10 ∷ v) (blanked-unlines ls u (both_right (is_line l) (list_all is_line ls) h))
      ∙ sym (shape (blank_line numbers l) (unlines (map (blank_line numbers) ls)) (text_with_blanks numbers u))
    where
      shape : (l v u : List ℕ) → ((l ++ codes "\n") ++ v) ++ u ≡ l ++ 10 ∷ (v ++ u)
      shape l v u = append_assoc (l ++ codes "\n") v u ∙ append_assoc l (codes "\n") (v ++ u)

  blanked-text : (t u : List ℕ) → IsText t → text_with_blanks numbers (t ++ u) ≡ lines_with_blanks t ++ text_with_blanks numbers u
  unfolding lines_with_blanks
  blanked-text t u h = ap (λ v. text_with_blanks numbers (v ++ u)) (sym (text-whole t h)) ∙ blanked-unlines (whole_lines t) u (but-last-lines (lines t) (lines-lines t))

  -- ---- a line of the owner, as text

  sight_text : ℕ → Sight → List ℕ
  sight_text n (Came d) = lines_with_blanks (delivery_line d)
  sight_text n (Told moment reply) = lines_with_blanks (reply_text moment (Some n) reply)
  sight_text n (Outside moment) = reply_front moment n ++ codes "\n"

  pub own_text : OwnLine → List ℕ
  own_text (Gets x) = sight_text 0 x
  own_text (Replies n x) = sight_text n x
  own_text (Missed n why) = lines_with_blanks (skip_line (record { line = n; why = why }))

-- ---- Connect and Disconnect have nothing below their reply

unless_below : (refusal : Option Refusal) (s : State) (a : Stepped) → below a.reply ≡ [] → below (unless refusal s a).reply ≡ []
unless_below None s a h = h
unless_below (Some r) s a h = refl

patch_below : (files : List PlayedFile) (s : State) (owner moment actor : ℕ) (member : ℕ → Bool) (c : Command) → aims_outside owner member c ≡ true → below (command_step files s moment actor c).reply ≡ []
unfolding command_row
patch_below files s owner moment actor member (Connect source target) h = unless_below (refusal_of files s moment actor (Connect source target)) s (effect_of files s moment actor (Connect source target)) refl
patch_below files s owner moment actor member (Disconnect source target) h = unless_below (refusal_of files s moment actor (Disconnect source target)) s (effect_of files s moment actor (Disconnect source target)) refl
patch_below files s owner moment actor member c h = absurd (false≢true h)

module _ (owner : ℕ) (member : ℕ → Bool) (numbers : List ℕ) where
  -- the number of the owner's line is one of these where it aims outside
  abbrev IsHit : ℕ → Input → Type 0
  IsHit n i = eqb i.actor owner ≡ true → aims_outside owner member i.command ≡ true → is_one_of numbers (decimal n) ≡ true

  abbrev FitPart : Part → Type 0
  FitPart (Answers n i reply) = IsHit n i × (aims_outside owner member i.command ≡ true → below reply ≡ [])
  FitPart (Comes d) = Unit {0}
  FitPart (Skips c n why) = Unit {0}
  FitPart (Lists s) = Unit {0}
  FitPart (Next m) = Unit {0}

  abbrev FitParts : List Part → Type 0
  FitParts [] = Unit {0}
  FitParts (p ∷ ps) = FitPart p × FitParts ps

  blank-parts : (ps : List Part) → FitParts ps → text_with_blanks numbers (flat_map (part_log owner) ps) ≡ flat_map (own_text numbers) (own_lines owner member ps)
  unfolding own_text sight_text
  blank-parts [] f = refl
  blank-parts (Comes d ∷ ps) f = go (is_to owner d) (blank-parts ps f.1)
    where
      go : (b : Bool) → text_with_blanks numbers (flat_map (part_log owner) ps) ≡ flat_map (own_text numbers) (own_lines owner member ps) →
          text_with_blanks numbers (cond b (delivery_line d) [] ++ flat_map (part_log owner) ps) ≡ flat_map (own_text numbers) (map Gets (cond b (Came d ∷ []) []) ++ own_lines owner member ps)
      go true more = blanked-text numbers (delivery_line d) (flat_map (part_log owner) ps) (delivery-text d) ∙ ap (λ t. lines_with_blanks numbers (delivery_line d) ++ t) more
      go false more = more
  blank-parts (Answers n i reply ∷ ps) f = go (eqb i.actor owner) refl (blank-parts ps f.1)
    where
      out : (b : Bool) → aims_outside owner member i.command ≡ b → (aims_outside owner member i.command ≡ true → is_one_of numbers (decimal n) ≡ true) →
          text_with_blanks numbers (flat_map (part_log owner) ps) ≡ flat_map (own_text numbers) (own_lines owner member ps) →
          text_with_blanks numbers (reply_text i.moment (Some n) reply ++ flat_map (part_log owner) ps) ≡ sight_text numbers n (cond b (Outside i.moment) (Told i.moment reply)) ++ flat_map (own_text numbers) (own_lines owner member ps)
      out true e h more = reply_cut numbers i.moment n reply (flat_map (part_log owner) ps) (h e) (f.0.1 e) ∙ ap (λ t. (reply_front i.moment n ++ codes "\n") ++ t) more
      out false e h more = blanked-text numbers (reply_text i.moment (Some n) reply) (flat_map (part_log owner) ps) (reply-text i.moment n reply) ∙ ap (λ t. lines_with_blanks numbers (reply_text i.moment (Some n) reply) ++ t) more

      go : (b : Bool) → eqb i.actor owner ≡ b → text_with_blanks numbers (flat_map (part_log owner) ps) ≡ flat_map (own_text numbers) (own_lines owner member ps) →
          text_with_blanks numbers (cond b (reply_text i.moment (Some n) reply) [] ++ flat_map (part_log owner) ps)
          ≡ flat_map (own_text numbers) (map (Replies n) (cond b (cond (aims_outside owner member i.command) (Outside i.moment) (Told i.moment reply) ∷ []) []) ++ own_lines owner member ps)
      go true e more = out (aims_outside owner member i.command) refl (f.0.0 e) more
      go false e more = more
  blank-parts (Skips None n why ∷ ps) f = blank-parts ps f.1
  blank-parts (Skips (Some c) n why ∷ ps) f = go (eqb c owner) (blank-parts ps f.1)
    where
      go : (b : Bool) → text_with_blanks numbers (flat_map (part_log owner) ps) ≡ flat_map (own_text numbers) (own_lines owner member ps) →
          text_with_blanks numbers (cond b (skip_line (record { line = n; why = why })) [] ++ flat_map (part_log owner) ps) ≡ flat_map (own_text numbers) (cond b (Missed n why ∷ []) [] ++ own_lines owner member ps)
      go true more = blanked-text numbers (skip_line (record { line = n; why = why })) (flat_map (part_log owner) ps) (skip-text (record { line = n; why = why })) ∙ ap (λ t. lines_with_blanks numbers (skip_line (record { line = n; why = why })) ++ t) more
      go false more = more
  blank-parts (Lists s ∷ ps) f = blank-parts ps f.1
  blank-parts (Next m ∷ ps) f = blank-parts ps f.1

  -- ---- all answers fit

  abbrev FitItem : Item → Type 0
  FitItem (Said n i) = IsHit n i
  FitItem PassedOver = Unit {0}
  FitItem (Skipped c n why) = Unit {0}
  FitItem (Waited m) = Unit {0}
  FitItem Asked = Unit {0}

  abbrev FitItems : List Item → Type 0
  FitItems [] = Unit {0}
  FitItems (x ∷ xs) = FitItem x × FitItems xs

  fit-comes : (ds : List Delivery) (ps : List Part) → FitParts ps → FitParts (map Comes ds ++ ps)
  fit-comes [] ps f = f
  fit-comes (d ∷ ds) ps f = (tt, fit-comes ds ps f)

  fit-append : (ps qs : List Part) → FitParts ps → FitParts qs → FitParts (ps ++ qs)
  fit-append [] qs f g = g
  fit-append (p ∷ ps) qs f g = (f.0, fit-append ps qs f.1 g)

  fit-ended : (ps : List Part) (s : State) → FitParts ps → FitParts (ended ps s)
  fit-ended ps s f = fit-append ps (ended [] s) f (tt, tt)

  fit-answers : (files : List PlayedFile) (xs : List Item) (s : State) → FitItems xs → FitParts (answers_from files s xs)
  fit-answers files [] s f = tt
  fit-answers files (Said n i ∷ xs) s f =
      let a : Stepped = step files s i in
      fit-append (ended (map Comes a.delivered ++ Answers n i a.reply ∷ []) a.state) (answers_from files a.state xs)
      (fit-ended (map Comes a.delivered ++ Answers n i a.reply ∷ []) a.state
      (fit-comes a.delivered (Answers n i a.reply ∷ []) ((f.0, patch_below files (settle s i.moment).state owner i.moment i.actor member i.command), tt)))
      (fit-answers files xs a.state f.1)
  fit-answers files (Waited m ∷ xs) s f =
      fit-append (ended (map Comes (settle s m).delivered) (settle s m).state) (answers_from files (settle s m).state xs)
      (fit-comes (settle s m).delivered (ended [] (settle s m).state) (tt, tt))
      (fit-answers files xs (settle s m).state f.1)
  fit-answers files (PassedOver ∷ xs) s f = fit-answers files xs s f.1
  fit-answers files (Skipped c n why ∷ xs) s f = (tt, (tt, fit-answers files xs s f.1))
  fit-answers files (Asked ∷ xs) s f = (tt, (tt, fit-answers files xs s f.1))

  -- where all numbers of lines that aim outside are among these
  fit-numbers : (xs : List Item) → list_all (λ n. is_one_of numbers (decimal n)) (outside_numbers owner member xs) ≡ true → FitItems xs
  fit-numbers [] h = tt
  fit-numbers (Said n i ∷ xs) h = go (eqb i.actor owner) (aims_outside owner member i.command) h (fit-numbers xs)
    where
      hit : ℕ → Bool
      hit k = is_one_of numbers (decimal k)

      rest : List ℕ
      rest = outside_numbers owner member xs

      go : (a b : Bool) → list_all hit (cond (a && b) (n ∷ rest) rest) ≡ true → (list_all hit rest ≡ true → FitItems xs) → (a ≡ true → b ≡ true → hit n ≡ true) × FitItems xs
      go true true h more = ((λ x y. both_left (hit n) (list_all hit rest) h), more (both_right (hit n) (list_all hit rest) h))
      go true false h more = ((λ x y. absurd (false≢true y)), more h)
      go false b h more = ((λ x y. absurd (false≢true x)), more h)
  fit-numbers (PassedOver ∷ xs) h = (tt, fit-numbers xs h)
  fit-numbers (Skipped c n why ∷ xs) h = (tt, fit-numbers xs h)
  fit-numbers (Waited m ∷ xs) h = (tt, fit-numbers xs h)
  fit-numbers (Asked ∷ xs) h = (tt, fit-numbers xs h)

-- each number is one of all
all-hit : (numbers : List ℕ) → list_all (λ n. is_one_of numbers (decimal n)) numbers ≡ true
all-hit [] = refl
all-hit (k ∷ ks) =
    let same : bytes_eq (decimal k) (decimal k) ≡ true = (bytes_eq-Decides (decimal k) (decimal k)).1 refl in
    and_both (is_one_of (k ∷ ks) (decimal k)) (list_all (λ n. is_one_of (k ∷ ks) (decimal n)) ks) (ap (λ b. b || is_one_of ks (decimal k)) same)
    (list_all-weaker (λ n. is_one_of ks (decimal n)) (λ n. is_one_of (k ∷ ks) (decimal n)) (λ n h. wider (bytes_eq (decimal n) (decimal k)) (is_one_of ks (decimal n)) h) ks (all-hit ks))
  where
    wider : (a b : Bool) → b ≡ true → (a || b) ≡ true
    wider true b h = refl
    wider false b h = h

-- ---- the owner's lines that aim outside are the circle's

module _ (owner : ℕ) (member every : ℕ → Bool) (o : every owner ≡ true) where
  pub outside-circle : (xs : List Item) → outside_numbers owner member (circle_items every xs) ≡ outside_numbers owner member xs
  outside-circle [] = refl
  outside-circle (Said n i ∷ xs) = go (every i.actor) (eqb i.actor owner) refl refl (outside-circle xs)
    where
      rest : List ℕ
      rest = outside_numbers owner member xs

      b : Bool
      b = aims_outside owner member i.command

      is_every : eqb i.actor owner ≡ true → every i.actor ≡ true
      is_every e = ap every (eqb-true i.actor owner e) ∙ o

      go : (e a : Bool) → every i.actor ≡ e → eqb i.actor owner ≡ a → outside_numbers owner member (circle_items every xs) ≡ rest →
          outside_numbers owner member (cond e (Said n i) (Waited i.moment) ∷ circle_items every xs) ≡ cond (a && b) (n ∷ rest) rest
      go true a f g more = ap (λ x. cond (x && b) (n ∷ outside_numbers owner member (circle_items every xs)) (outside_numbers owner member (circle_items every xs))) g ∙ ap (λ ns. cond (a && b) (n ∷ ns) ns) more
      go false true f g more = absurd (false≢true (sym f ∙ is_every g))
      go false false f g more = more
  outside-circle (PassedOver ∷ xs) = outside-circle xs
  outside-circle (Skipped None n why ∷ xs) = outside-circle xs
  outside-circle (Skipped (Some c) n why ∷ xs) = go (every c) (outside-circle xs)
    where
      go : (e : Bool) → outside_numbers owner member (circle_items every xs) ≡ outside_numbers owner member xs →
          outside_numbers owner member (cond e (Skipped (Some c) n why ∷ []) [] ++ circle_items every xs) ≡ outside_numbers owner member xs
      go true more = more
      go false more = more
  outside-circle (Waited m ∷ xs) = outside-circle xs
  outside-circle (Asked ∷ xs) = outside-circle xs

-- ---- from bytes to bytes

-- what stands in the answers for the owner, blanked at its lines that aim outside, is its lines as text
pub owner_text : (folder : FolderContents) (owner : ℕ) (member : ℕ → Bool) (ls : List (List ℕ)) (numbers : List ℕ) → outside_numbers owner member (items_of folder ls) ≡ numbers →
    text_with_blanks numbers (log_in owner (parts_text (answers_to folder ls))) ≡ flat_map (own_text numbers) (own_lines owner member (answers_to folder ls))
owner_text folder owner member ls numbers e =
    let hit : list_all (λ n. is_one_of numbers (decimal n)) (outside_numbers owner member (items_of folder ls)) ≡ true = ap (list_all (λ n. is_one_of numbers (decimal n))) e ∙ all-hit numbers in
    ap (text_with_blanks numbers) (text_law folder owner ls)
    ∙ blank-parts owner member numbers (answers_to folder ls) (fit-answers owner member numbers folder.files (items_of folder ls) start (fit-numbers owner member numbers (items_of folder ls) hit))

pub bytes_law : BytesLaw
bytes_law folder owner member ls closed =
    let rest : List (List ℕ) = lines_alone member folder.names nothing_heard ls in
    let numbers : List ℕ = outside_numbers owner member (items_of folder ls) in
    let same : outside_numbers owner member (items_of folder rest) ≡ numbers =
    sym (outside-circle owner member everyone refl (items_of folder rest))
    ∙ ap (outside_numbers owner member) (read_alone member folder.names ls)
    ∙ outside-circle owner member member closed.0 (items_of folder ls) in
    owner_text folder owner member ls numbers refl
    ∙ ap (flat_map (own_text numbers)) (lines_law folder.files owner member folder.names ls closed)
    ∙ sym (owner_text folder owner member rest numbers same)
