-- What is read where strangers' lines are but their moments.
use Rattle.std.proofs.Common.{◌≡◌, ℕ, ◌+◌, ◌≤◌, Bool, true, false, not, cond, eqb, ◌&&◌, List, [], ◌∷◌, ◌++◌, map, length, Option, Some, None, refl, sym, ap, subst, ◌∙◌, arith}
use Rattle.std.specs.Prelude.{nat_le, nat_lt, codes}
use Rattle.std.specs.List.{filter, list_all, slice_split, onto_first}
use Rattle.std.specs.Option.{option_map, option_and_then}
use Rattle.std.specs.Str.{bytes_eq}
use Rattle.std.proofs.lemmas.Bool.Decides.{nat_tests}
use Rattle.std.proofs.lemmas.List.Splits.{slice_split-cons_no}
use Rattle.seq_state.specs.declared.input.Command.{Command}
use Rattle.smf_grammar.specs.Played.{PlayedFile}
use Rattle.seq_state.specs.State.{State, start}
use Rattle.seq_state.specs.Step.{step, settle}
use Rattle.seq_state.specs.Circle.{IsClosed}
use Rattle.seq_state.proofs.Lists.{both_left, both_right, flat_map-append}
use Rattle.script_text.specs.declared.live_lines.LiveLine.{LiveLine}
use Rattle.script_text.specs.declared.live_lines.LiveLine.TheVariants.{Nothing, Unknown, Says, Passes, Asks}
use Rattle.script_text.specs.declared.reading.SkipReason.{SkipReason}
use Rattle.script_text.specs.declared.reading.SkipReason.TheVariants.{Unreadable, Late, TooLong}
use Rattle.script_text.specs.LiveLines.{said_by, client_line, moment_line, word_line, line_of_words, live_line}
use Rattle.script_text.specs.Numbers.{only_if, u64, is_number, is_digit, read_on, client_number}
use Rattle.script_text.specs.Scripts.{timed_command, is_remark}
use Rattle.script_text.specs.Table.{command}
use Rattle.script_text.specs.Words.{words, without_return, is_blank, is_empty}
use Rattle.session_live.specs.declared.heard.TheConstants.{MOST_LINE}
use Rattle.session_live.specs.Lines.{Item, PassedOver, Skipped, Said, Waited, Asked, Heard, nothing_heard, skipped_loose, skipped_by, input_of, item_of, item, one_more, heard_after, items_from, heard_from, inputs_in, IsTimedUpTo}
use Rattle.session_live.specs.Answers.{Part, answer, answers_from}
use Rattle.session_live.specs.Circles.{own, own_lines, alone, first_word, line_alone, lines_alone, circle_item, circle_items}
use Rattle.session_live.specs.Laws.{TimedLaw, LinesLaw}
use Rattle.session_live.proofs.Alone.{alone_law}

-- ---- moments never fall

-- the item has no moment before this one
abbrev IsIn : ℕ → Item → Type 0
IsIn now (Said n i) = now ≤ i.moment
IsIn now (Waited m) = now ≤ m
IsIn now PassedOver = Unit {0}
IsIn now (Skipped c n why) = Unit {0}
IsIn now Asked = Unit {0}

in_time : (names : List (List ℕ)) (h : Heard) (l : List ℕ) → IsIn h.latest (item names h l)
in_time names h l = go (nat_le (length l) MOST_LINE) (live_line names l)
  where
    late : (m : ℕ) → nat_lt m h.latest ≡ false → h.latest ≤ m
    late m e = grind (arith, nat_tests)

    said : (client m : ℕ) (c : Command) (b : Bool) → nat_lt m h.latest ≡ b → IsIn h.latest (cond b (skipped_by h client Late) (Said (h.said client + 1) (input_of client m c)))
    said client m c true e = tt
    said client m c false e = late m e

    passes : (m : ℕ) (b : Bool) → nat_lt m h.latest ≡ b → IsIn h.latest (cond b (skipped_loose h Late) (Waited m))
    passes m true e = tt
    passes m false e = late m e

    of_line : (x : LiveLine) → IsIn h.latest (item_of h x)
    of_line Nothing = tt
    of_line (Unknown None) = tt
    of_line (Unknown (Some client)) = tt
    of_line (Says client m c) = said client m c (nat_lt m h.latest) refl
    of_line (Passes m) = passes m (nat_lt m h.latest) refl
    of_line Asks = tt

    go : (b : Bool) (x : LiveLine) → IsIn h.latest (cond b (item_of h x) (skipped_loose h TooLong))
    go true x = of_line x
    go false x = tt

with_item : (h : Heard) (x : Item) (xs : List Item) (end : ℕ) → IsIn h.latest x → IsTimedUpTo (heard_after h x).latest xs end → IsTimedUpTo h.latest (x ∷ xs) end
with_item h PassedOver xs end a b = b
with_item h (Skipped None n why) xs end a b = b
with_item h (Skipped (Some c) n why) xs end a b = b
with_item h (Said n i) xs end a b = (a, b)
with_item h (Waited m) xs end a b = (a, b)
with_item h Asked xs end a b = b

pub timed_law : TimedLaw
timed_law names h [] = omega arith
timed_law names h (l ∷ ls) =
    let x : Item = item names h l in
    let next : Heard = heard_after h x in
    with_item h x (items_from names next ls) (heard_from names next ls).latest (in_time names h l) (timed_law names next ls)

-- ---- lines that name nobody

abbrev pub everyone : ℕ → Bool
everyone c = true

module _ (files : List PlayedFile) (owner : ℕ) (member : ℕ → Bool) where
  after_parts : (parts : List Part) (xs ys : List Part) → own_lines owner member xs ≡ own_lines owner member ys → own_lines owner member (parts ++ xs) ≡ own_lines owner member (parts ++ ys)
  after_parts parts xs ys e = flat_map-append (own owner member) parts xs ∙ ap (λ zs. own_lines owner member parts ++ zs) e ∙ sym (flat_map-append (own owner member) parts ys)

  -- the owner is answered the same without the lines that name nobody
  pub without_nobody : (xs : List Item) (s : State) → own_lines owner member (answers_from files s xs) ≡ own_lines owner member (answers_from files s (circle_items everyone xs))
  without_nobody [] s = refl
  without_nobody (PassedOver ∷ xs) s = without_nobody xs s
  without_nobody (Skipped None n why ∷ xs) s = without_nobody xs s
  without_nobody (Skipped (Some c) n why ∷ xs) s = after_parts (answer files s (Skipped (Some c) n why)) (answers_from files s xs) (answers_from files s (circle_items everyone xs)) (without_nobody xs s)
  without_nobody (Said n i ∷ xs) s = after_parts (answer files s (Said n i)) (answers_from files (step files s i).state xs) (answers_from files (step files s i).state (circle_items everyone xs)) (without_nobody xs (step files s i).state)
  without_nobody (Waited m ∷ xs) s = after_parts (answer files s (Waited m)) (answers_from files (settle s m).state xs) (answers_from files (settle s m).state (circle_items everyone xs)) (without_nobody xs (settle s m).state)
  without_nobody (Asked ∷ xs) s = without_nobody xs s

-- of the circle's lines alone everything is the circle's
circle_one : (member : ℕ → Bool) (x : Item) → circle_item everyone (alone member x) ≡ circle_item member x
circle_one member (Said n i) = go (member i.actor)
  where
    go : (b : Bool) → circle_item everyone (cond b (Said n i) (Waited i.moment)) ≡ cond b (Said n i) (Waited i.moment) ∷ []
    go true = refl
    go false = refl
circle_one member (Skipped None n why) = refl
circle_one member (Skipped (Some c) n why) = go (member c)
  where
    go : (b : Bool) → circle_item everyone (cond b (Skipped (Some c) n why) PassedOver) ≡ cond b (Skipped (Some c) n why ∷ []) []
    go true = refl
    go false = refl
circle_one member PassedOver = refl
circle_one member (Waited m) = refl
circle_one member Asked = refl

circle_alone : (member : ℕ → Bool) (xs : List Item) → circle_items everyone (map (alone member) xs) ≡ circle_items member xs
circle_alone member [] = refl
circle_alone member (x ∷ xs) = ap (λ ys. ys ++ circle_items everyone (map (alone member) xs)) (circle_one member x) ∙ ap (λ ys. circle_item member x ++ ys) (circle_alone member xs)

-- where the circle is closed, the owner is answered what it is answered to what is the circle's
pub circle_law : (files : List PlayedFile) (owner : ℕ) (member : ℕ → Bool) (names ls : List (List ℕ)) → IsClosed files owner member (inputs_in (items_from names nothing_heard ls)) →
    own_lines owner member (answers_from files start (items_from names nothing_heard ls)) ≡ own_lines owner member (answers_from files start (circle_items member (items_from names nothing_heard ls)))
circle_law files owner member names ls closed =
    let xs : List Item = items_from names nothing_heard ls in
    alone_law files owner member xs (heard_from names nothing_heard ls).latest (timed_law names nothing_heard ls) closed
    ∙ without_nobody files owner member (map (alone member) xs) start
    ∙ ap (λ ys. own_lines owner member (answers_from files start ys)) (circle_alone member xs)

-- ---- a moment as a line

digits-return : (w : List ℕ) → list_all is_digit w ≡ true → without_return w ≡ w
digits-return [] h = refl
digits-return (b ∷ []) h = ap (λ t. cond t [] (b ∷ [])) (one (both_left (is_digit b) true h))
  where
    one : is_digit b ≡ true → eqb b 13 ≡ false
    one h = grind (arith, nat_tests)
digits-return (b ∷ c ∷ w) h = ap (λ v. b ∷ v) (digits-return (c ∷ w) (both_right (is_digit b) (list_all is_digit (c ∷ w)) h))

digits-split : (w : List ℕ) → list_all is_digit w ≡ true → slice_split is_blank w ≡ w ∷ []
digits-split [] h = refl
digits-split (b ∷ w) h =
    slice_split-cons_no is_blank b w (one (both_left (is_digit b) (list_all is_digit w) h))
    ∙ ap (onto_first b) (digits-split w (both_right (is_digit b) (list_all is_digit w) h))
  where
    one : is_digit b ≡ true → is_blank b ≡ false
    one h = grind (arith, nat_tests)

digits-words : (w : List ℕ) → nat_le 1 (length w) ≡ true → list_all is_digit w ≡ true → words w ≡ w ∷ []
digits-words [] l h = cc
digits-words (b ∷ w) l h = ap (filter (λ v. not (is_empty v))) (digits-split (b ∷ w) h)

digits-list : (w : List ℕ) → list_all is_digit w ≡ true → bytes_eq w (codes "list") ≡ false
digits-list [] h = refl
digits-list (b ∷ w) h = ap (λ t. t && bytes_eq w (codes "ist")) (one (both_left (is_digit b) (list_all is_digit w) h))
  where
    one : is_digit b ≡ true → eqb b 108 ≡ false
    one h = grind (arith, nat_tests)

number-digits : (w : List ℕ) (m : ℕ) → u64 w ≡ Some m → is_number w ≡ true
number-digits w m h = go (is_number w) h
  where
    go : (b : Bool) → only_if (λ n. nat_le n 18446744073709551615) (cond b (Some (read_on 0 w)) None) ≡ Some m → b ≡ true
    go true h = refl
    go false h = cc

moment-item : (names : List (List ℕ)) (h : Heard) (w : List ℕ) (m : ℕ) → is_remark w ≡ false → u64 w ≡ Some m → nat_lt m h.latest ≡ false → item names h w ≡ Waited m
moment-item names h w m r u l =
    let n : is_number w ≡ true = number-digits w m u in
    let sizes : (nat_le 1 (length w) && nat_le (length w) 20) ≡ true = one n in
    let digits : list_all is_digit w ≡ true = two n in
    ap (λ b. cond b (item_of h (live_line names w)) (skipped_loose h TooLong)) (short (both_right (nat_le 1 (length w)) (nat_le (length w) 20) sizes))
    ∙ ap (λ v. item_of h (line_of_words names (words v))) (digits-return w digits)
    ∙ ap (λ vs. item_of h (line_of_words names vs)) (digits-words w (both_left (nat_le 1 (length w)) (nat_le (length w) 20) sizes) digits)
    ∙ ap (λ b. item_of h (cond b Nothing (word_line w))) r
    ∙ ap (λ b. item_of h (cond b Asks (moment_line (u64 w)))) (digits-list w digits)
    ∙ ap (λ o. item_of h (moment_line o)) u
    ∙ ap (λ b. cond b (skipped_loose h Late) (Waited m)) l
  where
    one : is_number w ≡ true → (nat_le 1 (length w) && nat_le (length w) 20) ≡ true
    one n = grind (arith)

    two : is_number w ≡ true → list_all is_digit w ≡ true
    two n = grind (arith)

    short : nat_le (length w) 20 ≡ true → nat_le (length w) MOST_LINE ≡ true
    short n = grind (arith, nat_tests)

timed-moment : (names : List (List ℕ)) (w : List ℕ) (rest : List (List ℕ)) (s : ℕ × Command) → timed_command names (w ∷ rest) ≡ Some s → u64 w ≡ Some s.0
timed-moment names w rest s h = go (u64 w) (command names rest) h
  where
    go : (o : Option ℕ) (c : Option Command) → option_and_then (λ (m : ℕ). option_map (λ (d : Command). (m, d)) c) o ≡ Some s → o ≡ Some s.0
    go None c h = cc
    go (Some m) None h = cc
    go (Some m) (Some c) h = ap (option_map (λ (x : ℕ × Command). x.0)) h

-- the word says this moment, and is no remark
record IsMoment (w : List ℕ) (m : ℕ) : Type 0 where
  remark : is_remark w ≡ false
  moment : u64 w ≡ Some m

-- what a client says begins with its moment
says-first : (names ws : List (List ℕ)) (client m : ℕ) (c : Command) → line_of_words names ws ≡ Says client m c → IsMoment (first_word ws) m
says-first names [] client m c e = cc
says-first names (w ∷ []) client m c e = remark (is_remark w) e
  where
    moment : (o : Option ℕ) → moment_line o ≡ Says client m c → IsMoment w m
    moment None e = cc
    moment (Some k) e = cc

    word : (b : Bool) → cond b Asks (moment_line (u64 w)) ≡ Says client m c → IsMoment w m
    word true e = cc
    word false e = moment (u64 w) e

    remark : (b : Bool) → cond b Nothing (word_line w) ≡ Says client m c → IsMoment w m
    remark true e = cc
    remark false e = word (bytes_eq w (codes "list")) e
says-first names (w ∷ k ∷ rest) client m c e = remark (is_remark w) refl e
  where
    same : (j : ℕ) (s : ℕ × Command) → Says j s.0 s.1 ≡ Says client m c → s.0 ≡ m
    same j s e = cc

    said : is_remark w ≡ false → (j : ℕ) (o : Option (ℕ × Command)) → timed_command names (w ∷ rest) ≡ o → said_by j o ≡ Says client m c → IsMoment w m
    said r j None t e = cc
    said r j (Some s) t e = record { remark = r; moment = timed-moment names w rest s t ∙ ap Some (same j s e) }

    by : is_remark w ≡ false → (o : Option ℕ) → client_line names w o rest ≡ Says client m c → IsMoment w m
    by r None e = cc
    by r (Some j) e = said r j (timed_command names (w ∷ rest)) refl e

    remark : (b : Bool) → is_remark w ≡ b → cond b Nothing (client_line names w (client_number k) rest) ≡ Says client m c → IsMoment w m
    remark true r e = cc
    remark false r e = by r (client_number k) e

-- ---- a line

module _ (member : ℕ → Bool) (names : List (List ℕ)) where
  -- the same moment was the last, and each member has said as many lines
  pub record Near (h h' : Heard) : Type 0 where
    pub latest : h.latest ≡ h'.latest
    pub said : (c : ℕ) → member c ≡ true → h.said c ≡ h'.said c

  -- what is read of a line that stands alone is what of the line is the circle's
  record Steps (h h' : Heard) (x x' : Item) : Type 0 where
    same : circle_item everyone x' ≡ circle_item member x
    near : Near (heard_after h x) (heard_after h' x')

  one_side : (h h' : Heard) (client : ℕ) → Near h h' → member client ≡ false → (c : ℕ) → member c ≡ true → one_more h.said client c ≡ h'.said c
  one_side h h' client n m c k = ap (λ b. cond b (h.said c + 1) (h.said c)) other ∙ n.said c k
    where
      other : eqb c client ≡ false
      other = grind (arith, nat_tests)

  both_sides : (h h' : Heard) (client : ℕ) → Near h h' → (c : ℕ) → member c ≡ true → one_more h.said client c ≡ one_more h'.said client c
  both_sides h h' client n c k = ap (λ s. cond (eqb c client) (s + 1) s) (n.said c k)

  module _ (h h' : Heard) (n : Near h h') (l : List ℕ) where
    abbrev Good : Item → Type 0
    Good x = Steps h h' x (item names h' (line_alone member x l))

    keep : (x x' : Item) → line_alone member x l ≡ l → item names h' l ≡ x' → Steps h h' x x' → Good x
    keep x x' e f s = subst (λ y. Steps h h' x y) (sym (ap (item names h') e ∙ f)) s

    loose_skip : (why : SkipReason) → item names h' l ≡ skipped_loose h' why → Good (skipped_loose h why)
    loose_skip why at = keep (skipped_loose h why) (skipped_loose h' why) refl at (record { same = refl; near = record { latest = n.latest; said = n.said } })

    passes : (m : ℕ) (b : Bool) → item names h' l ≡ cond b (skipped_loose h' Late) (Waited m) → Good (cond b (skipped_loose h Late) (Waited m))
    passes m true at = loose_skip Late at
    passes m false at = keep (Waited m) (Waited m) refl at (record { same = refl; near = record { latest = refl; said = n.said } })

    skip : (client : ℕ) (why : SkipReason) → item names h' l ≡ skipped_by h' client why → Good (skipped_by h client why)
    skip client why at = go (member client) refl
      where
        x : ℕ → Item
        x k = Skipped (Some client) k why

        go : (b : Bool) → member client ≡ b → Good (x (h.said client + 1))
        go true m =
            keep (x (h.said client + 1)) (x (h'.said client + 1)) (ap (λ b. cond b l []) m) at (record {
              same = ap (λ k. x (k + 1) ∷ []) (sym (n.said client m)) ∙ sym (ap (λ b. cond b (x (h.said client + 1) ∷ []) []) m);
              near = record { latest = n.latest; said = both_sides h h' client n };
            })
        go false m =
            subst (λ y. Steps h h' (x (h.said client + 1)) y) (sym (ap (λ b. item names h' (cond b l [])) m)) (record {
              same = sym (ap (λ b. cond b (x (h.said client + 1) ∷ []) []) m);
              near = record { latest = n.latest; said = one_side h h' client n m };
            })

    said : (client m : ℕ) (c : Command) → IsMoment (first_word (words (without_return l))) m → (b : Bool) → nat_lt m h.latest ≡ b →
        item names h' l ≡ cond b (skipped_by h' client Late) (Said (h'.said client + 1) (input_of client m c)) →
        Good (cond b (skipped_by h client Late) (Said (h.said client + 1) (input_of client m c)))
    said client m c first true e at = skip client Late at
    said client m c first false e at = go (member client) refl
      where
        w : List ℕ
        w = first_word (words (without_return l))

        x : ℕ → Item
        x k = Said (k + 1) (input_of client m c)

        go : (b : Bool) → member client ≡ b → Good (x (h.said client))
        go true k =
            keep (x (h.said client)) (x (h'.said client)) (ap (λ b. cond b l w) k) at (record {
              same = ap (λ j. x j ∷ []) (sym (n.said client k)) ∙ sym (ap (λ b. cond b (x (h.said client)) (Waited m) ∷ []) k);
              near = record { latest = refl; said = both_sides h h' client n };
            })
        go false k =
            subst (λ y. Steps h h' (x (h.said client)) y) (sym (ap (λ b. item names h' (cond b l w)) k ∙ moment-item names h' w m first.remark first.moment (ap (nat_lt m) (sym n.latest) ∙ e))) (record {
              same = sym (ap (λ b. cond b (x (h.said client)) (Waited m) ∷ []) k);
              near = record { latest = refl; said = one_side h h' client n k };
            })

    of_line : (x : LiveLine) → live_line names l ≡ x → item names h' l ≡ item_of h' x → Good (item_of h x)
    of_line Nothing e at = keep PassedOver PassedOver refl at (record { same = refl; near = n })
    of_line (Unknown None) e at = loose_skip Unreadable at
    of_line (Unknown (Some client)) e at = skip client Unreadable at
    of_line (Says client m c) e at =
        said client m c (says-first names (words (without_return l)) client m c e) (nat_lt m h.latest) refl
        (at ∙ ap (λ k. cond (nat_lt m k) (skipped_by h' client Late) (Said (h'.said client + 1) (input_of client m c))) (sym n.latest))
    of_line (Passes m) e at = passes m (nat_lt m h.latest) (at ∙ ap (λ k. cond (nat_lt m k) (skipped_loose h' Late) (Waited m)) (sym n.latest))
    of_line Asks e at = keep Asked Asked refl at (record { same = refl; near = record { latest = n.latest; said = n.said } })

    each : Good (item names h l)
    each = go (nat_le (length l) MOST_LINE) refl
      where
        go : (b : Bool) → nat_le (length l) MOST_LINE ≡ b → Good (cond b (item_of h (live_line names l)) (skipped_loose h TooLong))
        go true p = of_line (live_line names l) refl (ap (λ b. cond b (item_of h' (live_line names l)) (skipped_loose h' TooLong)) p)
        go false p = loose_skip TooLong (ap (λ b. cond b (item_of h' (live_line names l)) (skipped_loose h' TooLong)) p)

  -- ---- all lines

  read_from : (ls : List (List ℕ)) (h h' : Heard) → Near h h' → circle_items everyone (items_from names h' (lines_alone member names h ls)) ≡ circle_items member (items_from names h ls)
  read_from [] h h' n = refl
  read_from (l ∷ ls) h h' n =
      let x : Item = item names h l in
      let x' : Item = item names h' (line_alone member x l) in
      let s : Steps h h' x x' = each h h' n l in
      ap (λ ys. ys ++ circle_items everyone (items_from names (heard_after h' x') (lines_alone member names (heard_after h x) ls))) s.same
      ∙ ap (λ ys. circle_item member x ++ ys) (read_from ls (heard_after h x) (heard_after h' x') s.near)

  pub read_alone : (ls : List (List ℕ)) → circle_items everyone (items_from names nothing_heard (lines_alone member names nothing_heard ls)) ≡ circle_items member (items_from names nothing_heard ls)
  read_alone ls = read_from ls nothing_heard nothing_heard (record { latest = refl; said = λ c m. refl })

pub lines_law : LinesLaw
lines_law files owner member names ls closed =
    circle_law files owner member names ls closed
    ∙ ap (λ xs. own_lines owner member (answers_from files start xs)) (sym (read_alone member names ls))
    ∙ sym (without_nobody files owner member (items_from names nothing_heard (lines_alone member names nothing_heard ls)) start)
