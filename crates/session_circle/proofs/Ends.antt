-- Sessions until an end, from the session without one.
use Rattle.std.proofs.Common.{◌≡◌, ℕ, ◌≤◌, Bool, true, false, not, cond, eqb, ◌||◌, List, [], ◌∷◌, ◌++◌, map, Option, Some, None, refl, sym, ap, subst, ◌∙◌, arith}
use Rattle.std.specs.Prelude.{slice_get}
use Rattle.std.specs.List.{filter, find, flat_map, list_all, list_any}
use Rattle.std.specs.Option.{option_map}
use Rattle.std.proofs.lemmas.Bool.{false≢true, eq-eqb}
use Rattle.seq_state.specs.declared.input.Input.{Input}
use Rattle.seq_state.specs.Circle.{only, aims_outside}
use Rattle.seq_state.proofs.Effects.{none_some}
use Rattle.seq_state.proofs.Lists.{and_both, both_left, both_right, filter-append, filter-filter, list_all-weaker}
use Rattle.script_text.specs.declared.reading.ScriptInput.{ScriptInput}
use Rattle.script_text.specs.declared.reading.ScriptRead.{ScriptRead}
use Rattle.script_text.specs.declared.reading.Skip.{Skip}
use Rattle.script_text.proofs.Read.{is_within, script-client}
use Rattle.seq_circle.specs.Shut.{is_shut, is_whole_circle, lets_none_in, stays_within, opens}
use Rattle.seq_session.specs.declared.source.Script.{Script}
use Rattle.seq_session.specs.Blank.{outside_lines}
use Rattle.seq_session.specs.Merging.{inputs_of, lines_of, sorted_inputs}
use Rattle.seq_session.specs.Sessions.{FolderContents, script_reading, session, script_for}
use Rattle.seq_session.proofs.Sorting.{filter-sorted}
use Rattle.session_circle.specs.declared.every_end.TheConstants.{NO_END}
use Rattle.session_circle.specs.EveryEnd.{is_back, goes_back, line_back, back_or_later, first_back, whole_reading, inputs_until, NoneGoesBack, IsFirstBack, AreAmong}
use Rattle.session_circle.specs.Laws.{EveryEndLaw, NoByteChanges, NoScriptMatters, AreOutside}
use Rattle.session_circle.proofs.Scripts.{none_matters, no_lines}
use Rattle.session_circle.proofs.Until.{or_left, or_right, script-until}

-- ---- the inputs until an end

read_until : (folder : FolderContents) (end : ℕ) (scripts : List Script) → end ≤ NO_END → NoneGoesBack folder scripts →
    flat_map (λ (r : ScriptRead). r.inputs) (map (script_reading folder end) scripts) ≡ inputs_until end (flat_map (λ (r : ScriptRead). r.inputs) (map (whole_reading folder) scripts))
read_until folder end [] e h = refl
read_until folder end (s ∷ scripts) e h =
    let first : goes_back (whole_reading folder s) ≡ false = or_left (goes_back (whole_reading folder s)) (list_any (λ t. goes_back (whole_reading folder t)) scripts) h in
    let others : NoneGoesBack folder scripts = or_right (goes_back (whole_reading folder s)) (list_any (λ t. goes_back (whole_reading folder t)) scripts) h in
    ap (λ xs. xs ++ flat_map (λ (r : ScriptRead). r.inputs) (map (script_reading folder end) scripts)) (script-until s.client folder.names end NO_END s.text e first)
    ∙ ap (λ xs. inputs_until end (whole_reading folder s).inputs ++ xs) (read_until folder end scripts e others)
    ∙ sym (filter-append (is_within end) (whole_reading folder s).inputs (flat_map (λ (r : ScriptRead). r.inputs) (map (whole_reading folder) scripts)))

session-until : (folder : FolderContents) (scripts : List Script) → NoneGoesBack folder scripts → (end : ℕ) → end ≤ NO_END → session folder end scripts ≡ inputs_until end (session folder NO_END scripts)
session-until folder scripts h end e =
    ap sorted_inputs (read_until folder end scripts e h)
    ∙ sym (filter-sorted (is_within end) (flat_map (λ (r : ScriptRead). r.inputs) (map (whole_reading folder) scripts)))

-- ---- what is shut

-- what all inputs of members pass, those pass that are left
all_left : (p : Input → Bool) (member : ℕ → Bool) (w : ScriptInput → Bool) (xs : List ScriptInput) → list_all p (only member (inputs_of xs)) ≡ true → list_all p (only member (inputs_of (filter w xs))) ≡ true
all_left p member w [] h = refl
all_left p member w (x ∷ xs) h = grind (arith, all_left p member w xs)

shut_left : (owner : ℕ) (member : ℕ → Bool) (w : ScriptInput → Bool) (xs : List ScriptInput) → is_shut owner member (inputs_of xs) ≡ true → is_shut owner member (inputs_of (filter w xs)) ≡ true
shut_left owner member w xs h =
    let all : List Input = inputs_of xs in
    let left : List Input = inputs_of (filter w xs) in
    let whole : is_whole_circle owner member all ≡ true = both_left (is_whole_circle owner member all) (lets_none_in owner member all) h in
    and_both (is_whole_circle owner member left) (lets_none_in owner member left)
    (and_both (member owner) (list_all (stays_within owner member) (only member left))
    (both_left (member owner) (list_all (stays_within owner member) (only member all)) whole)
    (all_left (stays_within owner member) member w xs (both_right (member owner) (list_all (stays_within owner member) (only member all)) whole)))
    (all_left (λ i. not (opens owner i.actor i.command)) member w xs (both_right (is_whole_circle owner member all) (lets_none_in owner member all) h))

shut-until : (folder : FolderContents) (scripts : List Script) (owner : ℕ) (member : ℕ → Bool) → NoneGoesBack folder scripts → is_shut owner member (inputs_of (session folder NO_END scripts)) ≡ true →
    (end : ℕ) → end ≤ NO_END → is_shut owner member (inputs_of (session folder end scripts)) ≡ true
shut-until folder scripts owner member h s end e =
    subst (λ xs. is_shut owner member (inputs_of xs) ≡ true) (sym (session-until folder scripts h end e)) (shut_left owner member (is_within end) (session folder NO_END scripts) s)

pub matters-until : (folder : FolderContents) (scripts : List Script) (owner : ℕ) (member : ℕ → Bool) → NoneGoesBack folder scripts → is_shut owner member (inputs_of (session folder NO_END scripts)) ≡ true →
    (end : ℕ) → end ≤ NO_END → NoScriptMatters folder end scripts owner member
matters-until folder scripts owner member h s end e =
    none_matters folder end scripts owner member (inputs_of (session folder end scripts)) refl (shut-until folder scripts owner member h s end e)

pub every_end_law : EveryEndLaw
every_end_law = record {
  inputs = session-until;
  shut = λ folder scripts owner member h s end e. (shut-until folder scripts owner member h s end e, matters-until folder scripts owner member h s end e);
}

-- ---- lines apart

or_true : (x y : Bool) → y ≡ true → (x || y) ≡ true
or_true true y h = refl
or_true false y h = h

true_or : (x y : Bool) → x ≡ true → (x || y) ≡ true
true_or true y h = refl
true_or false y h = absurd (false≢true h)

-- the lines of some are among those of all
some_among : (w : ScriptInput → Bool) (xs : List ScriptInput) → AreAmong (lines_of (filter w xs)) (lines_of xs)
some_among w [] = refl
some_among w (x ∷ xs) =
    go (w x)
    (list_all-weaker (λ n. list_any (λ m. eqb m n) (lines_of xs)) (λ n. list_any (λ m. eqb m n) (x.line ∷ lines_of xs)) (λ n e. or_true (eqb x.line n) (list_any (λ m. eqb m n) (lines_of xs)) e) (lines_of (filter w xs)) (some_among w xs))
  where
    go : (b : Bool) → AreAmong (lines_of (filter w xs)) (x.line ∷ lines_of xs) → AreAmong (lines_of (cond b (x ∷ filter w xs) (filter w xs))) (x.line ∷ lines_of xs)
    go true more =
        and_both (list_any (λ m. eqb m x.line) (x.line ∷ lines_of xs)) (list_all (λ n. list_any (λ m. eqb m n) (x.line ∷ lines_of xs)) (lines_of (filter w xs)))
        (true_or (eqb x.line x.line) (list_any (λ m. eqb m x.line) (lines_of xs)) (eq-eqb x.line x.line refl)) more
    go false more = more

none_among : (xs : List ℕ) → AreAmong xs [] → xs ≡ []
none_among [] h = refl
none_among (x ∷ xs) h = absurd (false≢true h)

outside-until : (folder : FolderContents) (s : Script) (member : ℕ → Bool) → goes_back (whole_reading folder s) ≡ false → (end : ℕ) → end ≤ NO_END →
    AreAmong (outside_lines member (script_reading folder end s)) (outside_lines member (whole_reading folder s))
outside-until folder s member h end e =
    let aims : ℕ → ScriptInput → Bool = λ c x. aims_outside c member x.input.command in
    let all : List ScriptInput = (whole_reading folder s).inputs in
    let here : outside_lines member (script_reading folder end s) ≡ lines_of (filter (is_within end) (filter (aims s.client) all)) =
    ap (λ c. lines_of (filter (aims c) (script_reading folder end s).inputs)) (script-client s.client folder.names end s.text)
    ∙ ap (λ xs. lines_of (filter (aims s.client) xs)) (script-until s.client folder.names end NO_END s.text e h)
    ∙ ap lines_of (filter-filter (aims s.client) (is_within end) all) in
    let there : outside_lines member (whole_reading folder s) ≡ lines_of (filter (aims s.client) all) =
    ap (λ c. lines_of (filter (aims c) all)) (script-client s.client folder.names NO_END s.text) in
    subst (λ xs. AreAmong xs (outside_lines member (whole_reading folder s))) (sym here)
    (subst (λ ys. AreAmong (lines_of (filter (is_within end) (filter (aims s.client) all))) ys) (sym there) (some_among (is_within end) (filter (aims s.client) all)))

-- the script of a client is one of those of which no line goes back
none_of_it : (folder : FolderContents) (scripts : List Script) (client : ℕ) (s : Script) → NoneGoesBack folder scripts → script_for client scripts ≡ Some s → goes_back (whole_reading folder s) ≡ false
none_of_it folder [] client s h t = absurd (none_some s t)
none_of_it folder (x ∷ scripts) client s h t = go (eqb x.client client) t (none_of_it folder scripts client s (or_right (goes_back (whole_reading folder x)) (list_any (λ y. goes_back (whole_reading folder y)) scripts) h))
  where
    first : goes_back (whole_reading folder x) ≡ false
    first = or_left (goes_back (whole_reading folder x)) (list_any (λ y. goes_back (whole_reading folder y)) scripts) h

    go : (b : Bool) → cond b (Some x) (script_for client scripts) ≡ Some s → (script_for client scripts ≡ Some s → goes_back (whole_reading folder s) ≡ false) → goes_back (whole_reading folder s) ≡ false
    go true e more = let same : x ≡ s = cc in subst (λ y. goes_back (whole_reading folder y) ≡ false) same first
    go false e more = more e

pub among-until : (folder : FolderContents) (scripts : List Script) (client : ℕ) (member : ℕ → Bool) → NoneGoesBack folder scripts → (s : Script) → script_for client scripts ≡ Some s → (end : ℕ) → end ≤ NO_END →
    AreAmong (outside_lines member (script_reading folder end s)) (outside_lines member (whole_reading folder s))
among-until folder scripts client member h s t end e = outside-until folder s member (none_of_it folder scripts client s h t) end e

-- with no place apart each byte stays, until each end
pub no_byte-until : (folder : FolderContents) (scripts : List Script) (client : ℕ) (member : ℕ → Bool) (lines places : List ℕ) → NoneGoesBack folder scripts →
    AreOutside folder NO_END scripts client member lines places → places ≡ [] → (end : ℕ) → end ≤ NO_END → NoScriptMatters folder end scripts client member → NoByteChanges folder end scripts client member
no_byte-until folder scripts client member lines places h a e end l m owner others r r' t same =
    let none : outside_lines member (whole_reading folder owner) ≡ [] = no_lines (outside_lines member (whole_reading folder owner)) (ap (map (slice_get lines)) (sym e) ∙ a owner r t) in
    (m owner others r r' t same).each_byte
    (none_among (outside_lines member (script_reading folder end owner)) (subst (λ ys. AreAmong (outside_lines member (script_reading folder end owner)) ys) none (among-until folder scripts client member h owner t end l)))

-- ---- the first line that goes back in time

no_line : (skips : List Skip) → line_back skips ≡ None → list_any (λ s. is_back s.why) skips ≡ false
no_line [] e = refl
no_line (s ∷ skips) e = go (is_back s.why) e (no_line skips)
  where
    go : (b : Bool) → option_map (λ (t : Skip). t.line) (cond b (Some s) (find (λ t. is_back t.why) skips)) ≡ None → (line_back skips ≡ None → list_any (λ t. is_back t.why) skips ≡ false) → (b || list_any (λ t. is_back t.why) skips) ≡ false
    go true f more = cc
    go false f more = more f

a_line : (skips : List Skip) (line : ℕ) → line_back skips ≡ Some line → list_any (λ s. is_back s.why) skips ≡ true
a_line [] line e = absurd (none_some line e)
a_line (s ∷ skips) line e = go (is_back s.why) e (a_line skips line)
  where
    go : (b : Bool) → option_map (λ (t : Skip). t.line) (cond b (Some s) (find (λ t. is_back t.why) skips)) ≡ Some line → (line_back skips ≡ Some line → list_any (λ t. is_back t.why) skips ≡ true) → (b || list_any (λ t. is_back t.why) skips) ≡ true
    go true f more = refl
    go false f more = more f

pub none_back : (folder : FolderContents) (scripts : List Script) → first_back (map (whole_reading folder) scripts) ≡ None → NoneGoesBack folder scripts
none_back folder [] e = refl
none_back folder (s ∷ scripts) e = go (line_back (whole_reading folder s).skips) refl e (none_back folder scripts)
  where
    go : (o : Option ℕ) → line_back (whole_reading folder s).skips ≡ o → back_or_later (whole_reading folder s).client o (first_back (map (whole_reading folder) scripts)) ≡ None →
        (first_back (map (whole_reading folder) scripts) ≡ None → NoneGoesBack folder scripts) → NoneGoesBack folder (s ∷ scripts)
    go None f g more = ap (λ b. b || list_any (λ t. goes_back (whole_reading folder t)) scripts) (no_line (whole_reading folder s).skips f) ∙ more g
    go (Some line) f g more = cc

same_pair : (p q : ℕ × ℕ) → Some p ≡ Some q → (p.0 ≡ q.0) × (p.1 ≡ q.1)
same_pair p q e = let same : p ≡ q = cc in (ap (λ (x : ℕ × ℕ). x.0) same, ap (λ (x : ℕ × ℕ). x.1) same)

pub is_first_back : (folder : FolderContents) (scripts : List Script) (client line : ℕ) → first_back (map (whole_reading folder) scripts) ≡ Some (client, line) → IsFirstBack folder scripts client line
is_first_back folder [] client line e = absurd (none_some (client, line) e)
is_first_back folder (s ∷ scripts) client line e = go (line_back (whole_reading folder s).skips) refl e (is_first_back folder scripts client line)
  where
    go : (o : Option ℕ) → line_back (whole_reading folder s).skips ≡ o → back_or_later (whole_reading folder s).client o (first_back (map (whole_reading folder) scripts)) ≡ Some (client, line) →
        (first_back (map (whole_reading folder) scripts) ≡ Some (client, line) → IsFirstBack folder scripts client line) → IsFirstBack folder (s ∷ scripts) client line
    go None f g more =
        let later : IsFirstBack folder scripts client line = more g in
        let here : goes_back (whole_reading folder s) ≡ false = no_line (whole_reading folder s).skips f in
        record {
          before = s ∷ later.before;
          script = later.script;
          after = later.after;
          scripts_are = ap (λ ss. s ∷ ss) later.scripts_are;
          none_before = ap (λ b. b || list_any (λ t. goes_back (whole_reading folder t)) later.before) here ∙ later.none_before;
          of_client = later.of_client;
          line_is = later.line_is;
          goes = λ h. later.goes (or_right (goes_back (whole_reading folder s)) (list_any (λ t. goes_back (whole_reading folder t)) scripts) h);
        }
    go (Some n) f g more =
        let same : ((whole_reading folder s).client ≡ client) × (n ≡ line) = same_pair ((whole_reading folder s).client, n) (client, line) g in
        let back : goes_back (whole_reading folder s) ≡ true = a_line (whole_reading folder s).skips n f in
        record {
          before = [];
          script = s;
          after = scripts;
          scripts_are = refl;
          none_before = refl;
          of_client = sym (script-client s.client folder.names NO_END s.text) ∙ same.0;
          line_is = f ∙ ap (λ k. Some k) same.1;
          goes = λ h. false≢true (sym (or_left (goes_back (whole_reading folder s)) (list_any (λ t. goes_back (whole_reading folder t)) scripts) h) ∙ back);
        }
