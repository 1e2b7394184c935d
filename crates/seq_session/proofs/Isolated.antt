-- Isolation of logs.
use Rattle.std.proofs.Common.{◌≡◌, ℕ, ◌+◌, ◌≤◌, ◌<◌, ◌^◌, Bool, true, false, not, cond, eqb, ◌&&◌, ◌||◌, List, [], ◌∷◌, ◌++◌, map, drop, Option, Some, None, refl, sym, ap, subst, ◌∙◌, arith, append-nil}
use Rattle.std.specs.Prelude.{nat_le, nat_lt, slice_get, codes}
use Rattle.std.specs.Bool.{beq}
use Rattle.std.specs.Fmt.{decimal}
use Rattle.std.specs.List.{filter, flat_map, list_all, list_any}
use Rattle.std.proofs.lemmas.Bool.{false≢true, leb-true, eqb-true, eq-eqb, ne_eqb, lt-ltb, ltb-true}
use Rattle.std.proofs.lemmas.Bool.Decides.{nat_tests}
use Rattle.std.proofs.lemmas.List.{drop-map}
use Rattle.seq_state.specs.declared.input.Command.{Command}
use Rattle.seq_state.specs.declared.input.Command.TheVariants.{Connect, Disconnect}
use Rattle.seq_state.specs.declared.input.Input.{Input}
use Rattle.seq_state.specs.declared.log.Delivery.{Delivery}
use Rattle.seq_state.specs.declared.log.LogEntry.{LogEntry}
use Rattle.seq_state.specs.declared.log.LogEntry.TheVariants.{Delivered, Replied}
use Rattle.seq_state.specs.declared.log.Reply.{Reply}
use Rattle.seq_state.specs.declared.refusal.Refusal.{Refusal}
use Rattle.smf_grammar.specs.Played.{PlayedFile}
use Rattle.seq_state.specs.State.{State, start}
use Rattle.seq_state.specs.Table.{command_row}
use Rattle.seq_state.specs.Step.{Stepped, unless, refusal_of, effect_of, command_step, step, settle, plain, log_from, IsTimedFrom}
use Rattle.seq_state.specs.Circle.{Sight, Came, Told, Outside, aims_outside, sight_of_reply, view, is_to}
use Rattle.seq_state.proofs.Lists.{both_left, both_right, and_both, slice_get-drop, drop-next, list_all-weaker, list_all-append, filter-append, list_all-always}
use Rattle.seq_state.proofs.Run.{isolation_law}
use Rattle.script_text.specs.declared.reading.ScriptInput.{ScriptInput}
use Rattle.script_text.specs.declared.reading.ScriptRead.{ScriptRead}
use Rattle.script_text.proofs.Read.{is_by, is_within, LinesRise, script-client, script-by, script-within, script-rise}
use Rattle.seq_session.specs.declared.source.Script.{Script}
use Rattle.seq_session.specs.Rising.{RiseFrom, AreRising}
use Rattle.seq_session.specs.Merging.{sorted_inputs, inputs_of, lines_of, not_after}
use Rattle.seq_session.specs.Logs.{delivery_line, outcome, below, reply_front, reply_text, entries_text, skips_text, log_text}
use Rattle.seq_session.specs.Sessions.{FolderContents, script_reading, session, script_clients, script_for, only_scripts}
use Rattle.seq_session.specs.Blank.{is_one_of, outside_lines, text_with_blanks, blank}
use Rattle.seq_session.specs.Laws.{MergeLaw, TimedLaw, LogLaw}
use Rattle.seq_session.proofs.Sorting.{IsSorted, sorted-sorted, sorted-all, filter-sorted, only-inputs}
use Rattle.seq_session.proofs.Blanking.{skips_stay, delivery_stays, one_of-number, reply_stays, reply_cut}

-- ---- merging

by_other : (member : ℕ → Bool) (client : ℕ) (b : Bool) → member client ≡ b → (xs : List ScriptInput) → list_all (is_by client) xs ≡ true → filter (λ x. member x.input.actor) xs ≡ cond b xs []
by_other member client true e [] h = refl
by_other member client false e [] h = refl
by_other member client b e (x ∷ xs) h =
    let same : x.input.actor ≡ client = eqb-true x.input.actor client (both_left (is_by client x) (list_all (is_by client) xs) h) in
    ap (λ t. cond t (x ∷ filter (λ x. member x.input.actor) xs) (filter (λ x. member x.input.actor) xs)) (ap member same ∙ e)
    ∙ ap (λ ys. cond b (x ∷ ys) ys) (by_other member client b e xs (both_right (is_by client x) (list_all (is_by client) xs) h))
    ∙ go b
  where
    go : (t : Bool) → cond t (x ∷ cond t xs []) (cond t xs []) ≡ cond t (x ∷ xs) []
    go true = refl
    go false = refl

abbrev said_in : FolderContents → ℕ → List Script → List ScriptInput
said_in folder end scripts = flat_map (λ (r : ScriptRead). r.inputs) (map (script_reading folder end) scripts)

only-said : (folder : FolderContents) (end : ℕ) (member : ℕ → Bool) (scripts : List Script) → said_in folder end (only_scripts member scripts) ≡ filter (λ x. member x.input.actor) (said_in folder end scripts)
only-said folder end member [] = refl
only-said folder end member (s ∷ scripts) =
    go (member s.client) refl
    ∙ sym (filter-append (λ x. member x.input.actor) (script_reading folder end s).inputs (said_in folder end scripts)
    ∙ ap (λ ys. ys ++ filter (λ x. member x.input.actor) (said_in folder end scripts)) (by_other member s.client (member s.client) refl (script_reading folder end s).inputs (script-by s.client folder.names end s.text))
    ∙ ap (λ ys. cond (member s.client) (script_reading folder end s).inputs [] ++ ys) (sym (only-said folder end member scripts)))
  where
    go : (b : Bool) → member s.client ≡ b → said_in folder end (cond b (s ∷ only_scripts member scripts) (only_scripts member scripts)) ≡ cond b (script_reading folder end s).inputs [] ++ said_in folder end (only_scripts member scripts)
    go true e = refl
    go false e = refl

pub merge_law : MergeLaw
merge_law = record {
  inputs = λ folder end member scripts. ap inputs_of (lines_kept folder end member scripts) ∙ only-inputs member (session folder end scripts);
  lines = lines_kept;
}
  where
    lines_kept : (folder : FolderContents) (end : ℕ) (member : ℕ → Bool) (scripts : List Script) → session folder end (only_scripts member scripts) ≡ filter (λ x. member x.input.actor) (session folder end scripts)
    lines_kept folder end member scripts = ap sorted_inputs (only-said folder end member scripts) ∙ sym (filter-sorted (λ x. member x.input.actor) (said_in folder end scripts))

-- ---- moments

all_within : (folder : FolderContents) (end : ℕ) (scripts : List Script) → list_all (is_within end) (said_in folder end scripts) ≡ true
all_within folder end [] = refl
all_within folder end (s ∷ scripts) = list_all-append (is_within end) (script_reading folder end s).inputs (said_in folder end scripts) (script-within s.client folder.names end s.text) (all_within folder end scripts)

abbrev from_moment : ℕ → ScriptInput → Bool
from_moment now x = nat_le now x.input.moment

timed_from : (now end : ℕ) (xs : List ScriptInput) → now ≤ end → IsSorted xs → list_all (is_within end) xs ≡ true → list_all (from_moment now) xs ≡ true → IsTimedFrom now (inputs_of xs) end
timed_from now end [] l s w f = l
timed_from now end (x ∷ xs) l s w f =
    let here : now ≤ x.input.moment = leb-true now x.input.moment (both_left (from_moment now x) (list_all (from_moment now) xs) f) in
    let later : x.input.moment ≤ end = leb-true x.input.moment end (both_left (is_within end x) (list_all (is_within end) xs) w) in
    (here, timed_from x.input.moment end xs later s.1 (both_right (is_within end x) (list_all (is_within end) xs) w) (list_all-weaker (not_after x) (from_moment x.input.moment) weaker xs s.0))
  where
    weaker : (y : ScriptInput) → not_after x y ≡ true → from_moment x.input.moment y ≡ true
    weaker y h = grind (arith, nat_tests)

pub timed_law : TimedLaw
timed_law folder end scripts =
    timed_from 0 end (session folder end scripts) (omega arith) (sorted-sorted (said_in folder end scripts)) (sorted-all (is_within end) (said_in folder end scripts) (all_within folder end scripts))
    (all_from_zero (session folder end scripts))
  where
    all_from_zero : (xs : List ScriptInput) → list_all (from_moment 0) xs ≡ true
    all_from_zero xs = list_all-weaker (λ x. true) (from_moment 0) (λ x h. grind (arith, nat_tests)) xs (list_all-always (λ x. true) (λ x. refl) xs)

-- ---- which replies are left out

-- a line's number is that of one of these inputs
abbrev hit : (ScriptInput → Bool) → ℕ → List ScriptInput → Bool
hit out line xs = list_any (λ n. eqb line n) (lines_of (filter out xs))

hit_below : (out : ScriptInput → Bool) (line n bound : ℕ) (xs : List ScriptInput) → line < n → LinesRise n bound xs → hit out line xs ≡ false
hit_below out line n bound [] l h = refl
hit_below out line n bound (x ∷ xs) l h = go (out x) (hit_below out line (x.line + 1) bound xs (omega arith) h.2)
  where
    other : eqb line x.line ≡ false
    other = let k : n ≤ x.line = h.0 in ne_eqb line x.line (λ e. omega arith)

    go : (b : Bool) → hit out line xs ≡ false → list_any (λ n. eqb line n) (lines_of (cond b (x ∷ filter out xs) (filter out xs))) ≡ false
    go true more = ap (λ b. b || hit out line xs) other ∙ more
    go false more = more

-- each is hit where it is one of them, by any test that hits as they do
hit_own : (out : ScriptInput → Bool) (p : ℕ → Bool) (n bound : ℕ) (xs : List ScriptInput) → LinesRise n bound xs → ((line : ℕ) → n ≤ line → p line ≡ hit out line xs) → list_all (λ x. beq (p x.line) (out x)) xs ≡ true
hit_own out p n bound [] h e = refl
hit_own out p n bound (x ∷ xs) h e =
    and_both (beq (p x.line) (out x)) (list_all (λ x. beq (p x.line) (out x)) xs)
    (ap (λ b. beq b (out x)) (e x.line h.0 ∙ own (out x)) ∙ beq_same (out x))
    (hit_own out p (x.line + 1) bound xs h.2 (λ line l. e line (later line l) ∙ other line l (out x)))
  where
    later : (line : ℕ) → x.line + 1 ≤ line → n ≤ line
    later line l = let k : n ≤ x.line = h.0 in omega arith

    beq_same : (b : Bool) → beq b b ≡ true
    beq_same true = refl
    beq_same false = refl

    own : (b : Bool) → list_any (λ n. eqb x.line n) (lines_of (cond b (x ∷ filter out xs) (filter out xs))) ≡ b
    own true = ap (λ b. b || hit out x.line xs) (eq-eqb x.line x.line refl)
    own false = hit_below out x.line (x.line + 1) bound xs (omega arith) h.2

    other : (line : ℕ) → x.line + 1 ≤ line → (b : Bool) → list_any (λ n. eqb line n) (lines_of (cond b (x ∷ filter out xs) (filter out xs))) ≡ hit out line xs
    other line l true = ap (λ b. b || hit out line xs) (ne_eqb line x.line (λ e. omega arith))
    other line l false = refl

lines_small : (out : ScriptInput → Bool) (n bound : ℕ) (xs : List ScriptInput) → LinesRise n bound xs → list_all (λ k. nat_lt k bound) (lines_of (filter out xs)) ≡ true
lines_small out n bound [] h = refl
lines_small out n bound (x ∷ xs) h = go (out x) (lines_small out (x.line + 1) bound xs h.2)
  where
    go : (b : Bool) → list_all (λ k. nat_lt k bound) (lines_of (filter out xs)) ≡ true → list_all (λ k. nat_lt k bound) (lines_of (cond b (x ∷ filter out xs) (filter out xs))) ≡ true
    go true more = and_both (nat_lt x.line bound) (list_all (λ k. nat_lt k bound) (lines_of (filter out xs))) (lt-ltb x.line bound h.1) more
    go false more = more

each_small : (n bound : ℕ) (xs : List ScriptInput) → LinesRise n bound xs → list_all (λ x. nat_lt x.line bound) xs ≡ true
each_small n bound [] h = refl
each_small n bound (x ∷ xs) h = and_both (nat_lt x.line bound) (list_all (λ x. nat_lt x.line bound) xs) (lt-ltb x.line bound h.1) (each_small (x.line + 1) bound xs h.2)

-- an input of the owner has a line whose number is one of these where it aims outside
abbrev fits : ℕ → (ℕ → Bool) → List ℕ → ScriptInput → Bool
fits owner member numbers x = not (eqb x.input.actor owner) || (beq (list_any (λ n. eqb x.line n) numbers) (aims_outside owner member x.input.command) && nat_lt x.line (2 ^ 64))

or_right : (a b : Bool) → b ≡ true → (a || b) ≡ true
or_right true b h = refl
or_right false b h = h

one_fit : (owner client : ℕ) (member : ℕ → Bool) (numbers : List ℕ) (x : ScriptInput) → client ≡ owner →
    beq (list_any (λ n. eqb x.line n) numbers) (aims_outside client member x.input.command) ≡ true → nat_lt x.line (2 ^ 64) ≡ true → fits owner member numbers x ≡ true
one_fit owner client member numbers x e h k =
    let hits : Bool = list_any (λ n. eqb x.line n) numbers in
    or_right (not (eqb x.input.actor owner)) (beq hits (aims_outside owner member x.input.command) && nat_lt x.line (2 ^ 64))
    (and_both (beq hits (aims_outside owner member x.input.command)) (nat_lt x.line (2 ^ 64)) (ap (λ c. beq hits (aims_outside c member x.input.command)) (sym e) ∙ h) k)

all_fit : (owner : ℕ) (member : ℕ → Bool) (r : ScriptRead) → r.client ≡ owner → (ys : List ScriptInput) →
    list_all (λ x. beq (hit (λ x. aims_outside r.client member x.input.command) x.line r.inputs) (aims_outside r.client member x.input.command)) ys ≡ true →
    list_all (λ x. nat_lt x.line (2 ^ 64)) ys ≡ true → list_all (fits owner member (outside_lines member r)) ys ≡ true
all_fit owner member r e [] h k = refl
all_fit owner member r e (y ∷ ys) h k =
    let test : ScriptInput → Bool = λ x. beq (hit (λ x. aims_outside r.client member x.input.command) x.line r.inputs) (aims_outside r.client member x.input.command) in
    let small : ScriptInput → Bool = λ x. nat_lt x.line (2 ^ 64) in
    and_both (fits owner member (outside_lines member r) y) (list_all (fits owner member (outside_lines member r)) ys)
    (one_fit owner r.client member (outside_lines member r) y e (both_left (test y) (list_all test ys) h) (both_left (small y) (list_all small ys) k))
    (all_fit owner member r e ys (both_right (test y) (list_all test ys) h) (both_right (small y) (list_all small ys) k))

own_fit : (folder : FolderContents) (end : ℕ) (member : ℕ → Bool) (owner : Script) → list_all (fits owner.client member (outside_lines member (script_reading folder end owner))) (script_reading folder end owner).inputs ≡ true
own_fit folder end member owner =
    let r : ScriptRead = script_reading folder end owner in
    let out : ScriptInput → Bool = λ x. aims_outside r.client member x.input.command in
    let rise : LinesRise 1 (2 ^ 64) r.inputs = script-rise owner.client folder.names end owner.text in
    all_fit owner.client member r (script-client owner.client folder.names end owner.text) r.inputs
    (hit_own out (λ line. hit out line r.inputs) 1 (2 ^ 64) r.inputs rise (λ line l. refl)) (each_small 1 (2 ^ 64) r.inputs rise)

-- those of another's script fit too
other_fit : (owner client : ℕ) (member : ℕ → Bool) (numbers : List ℕ) → eqb client owner ≡ false → (xs : List ScriptInput) → list_all (is_by client) xs ≡ true → list_all (fits owner member numbers) xs ≡ true
other_fit owner client member numbers e xs h = list_all-weaker (is_by client) (fits owner member numbers) one xs h
  where
    one : (x : ScriptInput) → is_by client x ≡ true → fits owner member numbers x ≡ true
    one x h =
        ap (λ a. not (eqb a owner) || (beq (list_any (λ n. eqb x.line n) numbers) (aims_outside owner member x.input.command) && nat_lt x.line (2 ^ 64))) (eqb-true x.input.actor client h)
        ∙ ap (λ b. not b || (beq (list_any (λ n. eqb x.line n) numbers) (aims_outside owner member x.input.command) && nat_lt x.line (2 ^ 64))) e

-- after the owner's script no other is the owner's
none_later : (folder : FolderContents) (end owner low : ℕ) (member : ℕ → Bool) (numbers : List ℕ) (scripts : List Script) → owner ≤ low → RiseFrom low (script_clients scripts) → list_all (fits owner member numbers) (said_in folder end scripts) ≡ true
none_later folder end owner low member numbers [] l r = refl
none_later folder end owner low member numbers (s ∷ scripts) l r =
    let other : eqb s.client owner ≡ false = (let k : low < s.client = r.0 in ne_eqb s.client owner (λ e. omega arith)) in
    list_all-append (fits owner member numbers) (script_reading folder end s).inputs (said_in folder end scripts)
    (other_fit owner s.client member numbers other (script_reading folder end s).inputs (script-by s.client folder.names end s.text))
    (let k : low < s.client = r.0 in none_later folder end owner s.client member numbers scripts (omega arith) r.1)

some_same : {A : Type 0} (x y : A) → Some x ≡ Some y → x ≡ y
some_same x y e = cc

said_fit : (folder : FolderContents) (end : ℕ) (member : ℕ → Bool) (owner : Script) (low : ℕ) (scripts : List Script) → RiseFrom low (script_clients scripts) → script_for owner.client scripts ≡ Some owner →
    list_all (fits owner.client member (outside_lines member (script_reading folder end owner))) (said_in folder end scripts) ≡ true
said_fit folder end member owner low [] r e = cc
said_fit folder end member owner low (s ∷ scripts) r e = go (eqb s.client owner.client) refl e (said_fit folder end member owner s.client scripts r.1)
  where
    numbers : List ℕ
    numbers = outside_lines member (script_reading folder end owner)

    go : (b : Bool) → eqb s.client owner.client ≡ b → cond b (Some s) (script_for owner.client scripts) ≡ Some owner →
        (script_for owner.client scripts ≡ Some owner → list_all (fits owner.client member numbers) (said_in folder end scripts) ≡ true) →
        list_all (fits owner.client member numbers) (said_in folder end (s ∷ scripts)) ≡ true
    go true t e more =
        let same : s ≡ owner = some_same s owner e in
        list_all-append (fits owner.client member numbers) (script_reading folder end s).inputs (said_in folder end scripts)
        (subst (λ (o : Script). list_all (fits owner.client member numbers) (script_reading folder end o).inputs ≡ true) (sym same) (own_fit folder end member owner))
        (let k : s.client ≡ owner.client = ap (λ (o : Script). o.client) same in none_later folder end owner.client s.client member numbers scripts (omega arith) r.1)
    go false t e more =
        list_all-append (fits owner.client member numbers) (script_reading folder end s).inputs (said_in folder end scripts)
        (other_fit owner.client s.client member numbers t (script_reading folder end s).inputs (script-by s.client folder.names end s.text))
        (more e)

session_fit : (folder : FolderContents) (end : ℕ) (member : ℕ → Bool) (owner : Script) (scripts : List Script) → AreRising (script_clients scripts) → script_for owner.client scripts ≡ Some owner →
    list_all (fits owner.client member (outside_lines member (script_reading folder end owner))) (session folder end scripts) ≡ true
session_fit folder end member owner scripts r e =
    sorted-all (fits owner.client member (outside_lines member (script_reading folder end owner))) (said_in folder end scripts) (start_at scripts r e)
  where
    start_at : (ss : List Script) → AreRising (script_clients ss) → script_for owner.client ss ≡ Some owner → list_all (fits owner.client member (outside_lines member (script_reading folder end owner))) (said_in folder end ss) ≡ true
    start_at [] r e = cc
    start_at (s ∷ ss) r e = go (eqb s.client owner.client) refl e
      where
        numbers : List ℕ
        numbers = outside_lines member (script_reading folder end owner)

        go : (b : Bool) → eqb s.client owner.client ≡ b → cond b (Some s) (script_for owner.client ss) ≡ Some owner → list_all (fits owner.client member numbers) (said_in folder end (s ∷ ss)) ≡ true
        go true t e =
            let same : s ≡ owner = some_same s owner e in
            list_all-append (fits owner.client member numbers) (script_reading folder end s).inputs (said_in folder end ss)
            (subst (λ (o : Script). list_all (fits owner.client member numbers) (script_reading folder end o).inputs ≡ true) (sym same) (own_fit folder end member owner))
            (let k : s.client ≡ owner.client = ap (λ (o : Script). o.client) same in none_later folder end owner.client s.client member numbers ss (omega arith) r)
        go false t e =
            list_all-append (fits owner.client member numbers) (script_reading folder end s).inputs (said_in folder end ss)
            (other_fit owner.client s.client member numbers t (script_reading folder end s).inputs (script-by s.client folder.names end s.text))
            (said_fit folder end member owner s.client ss r e)

-- ---- a log told by what the owner sees

first_line : List ℕ → ℕ
first_line [] = 0
first_line (l ∷ ls) = l

rest_lines : List ℕ → List ℕ
rest_lines [] = []
rest_lines (l ∷ ls) = ls

-- what the owner sees, as text: each reply has the next of the owner's lines
sights_text : List ℕ → List Sight → List ℕ
sights_text ls [] = []
sights_text ls (Came d ∷ more) = delivery_line d ++ sights_text ls more
sights_text ls (Told moment reply ∷ more) = (reply_front moment (first_line ls) ++ outcome reply ++ codes "\n" ++ below reply) ++ sights_text (rest_lines ls) more
sights_text ls (Outside moment ∷ more) = (reply_front moment (first_line ls) ++ codes "\n") ++ sights_text (rest_lines ls) more

-- the lines of the owner's inputs
abbrev owners : ℕ → List ScriptInput → List ℕ
owners owner xs = lines_of (filter (λ x. eqb x.input.actor owner) xs)

-- Connect and Disconnect have nothing below their reply
unless_below : (refusal : Option Refusal) (s : State) (a : Stepped) → below a.reply ≡ [] → below (unless refusal s a).reply ≡ []
unless_below None s a h = h
unless_below (Some r) s a h = refl

patch_below : (files : List PlayedFile) (s : State) (owner moment actor : ℕ) (member : ℕ → Bool) (c : Command) → aims_outside owner member c ≡ true → below (command_step files s moment actor c).reply ≡ []
unfolding command_row
patch_below files s owner moment actor member (Connect source target) h = unless_below (refusal_of files s moment actor (Connect source target)) s (effect_of files s moment actor (Connect source target)) refl
patch_below files s owner moment actor member (Disconnect source target) h = unless_below (refusal_of files s moment actor (Disconnect source target)) s (effect_of files s moment actor (Disconnect source target)) refl
patch_below files s owner moment actor member c h = absurd (false≢true h)

module _ (files : List PlayedFile) (owner : ℕ) (member : ℕ → Bool) (numbers : List ℕ) (xs : List ScriptInput) where
  abbrev inputs : List Input
  inputs = inputs_of xs

  -- the log as it is blanked, and as it is seen
  abbrev blank_text : List LogEntry → List ℕ
  blank_text log = text_with_blanks numbers (entries_text owner (lines_of xs) log)

  abbrev seen_text : List ℕ → List LogEntry → List ℕ
  seen_text ls log = sights_text ls (view owner member inputs log)

  after_deliveries : (ls : List ℕ) (ds : List Delivery) (log : List LogEntry) → blank_text log ≡ seen_text ls log → blank_text (map Delivered ds ++ log) ≡ seen_text ls (map Delivered ds ++ log)
  unfolding sights_text
  after_deliveries ls [] log e = e
  after_deliveries ls (d ∷ ds) log e = go (is_to owner d) (after_deliveries ls ds log e)
    where
      go : (b : Bool) → blank_text (map Delivered ds ++ log) ≡ seen_text ls (map Delivered ds ++ log) →
          text_with_blanks numbers (cond b (delivery_line d) [] ++ entries_text owner (lines_of xs) (map Delivered ds ++ log)) ≡ sights_text ls (cond b (Came d ∷ []) [] ++ view owner member inputs (map Delivered ds ++ log))
      go true more = delivery_stays numbers d (entries_text owner (lines_of xs) (map Delivered ds ++ log)) ∙ ap (λ t. delivery_line d ++ t) more
      go false more = more

  -- a reply to the owner
  owner_reply : (ls : List ℕ) (log : List LogEntry) (moment line : ℕ) (reply : Reply) (i : Input) (out : Bool) → aims_outside owner member i.command ≡ out → is_one_of numbers (decimal line) ≡ out →
      (out ≡ true → below reply ≡ []) → blank_text log ≡ seen_text ls log →
      text_with_blanks numbers (reply_text moment (Some line) reply ++ entries_text owner (lines_of xs) log) ≡ sights_text (line ∷ ls) (sight_of_reply owner member moment reply (Some i) ∷ view owner member inputs log)
  unfolding sights_text first_line rest_lines
  owner_reply ls log moment line reply i true a n b e =
      reply_cut numbers moment line reply (entries_text owner (lines_of xs) log) n (b refl)
      ∙ ap (λ t. (reply_front moment line ++ codes "\n") ++ t) e
      ∙ ap (λ t. sights_text (line ∷ ls) (cond t (Outside moment) (Told moment reply) ∷ view owner member inputs log)) (sym a)
  owner_reply ls log moment line reply i false a n b e =
      reply_stays numbers moment line reply (entries_text owner (lines_of xs) log) n
      ∙ ap (λ t. (reply_front moment line ++ outcome reply ++ codes "\n" ++ below reply) ++ t) e
      ∙ ap (λ t. sights_text (line ∷ ls) (cond t (Outside moment) (Told moment reply) ∷ view owner member inputs log)) (sym a)

  beq_same : (a b : Bool) → beq a b ≡ true → a ≡ b
  beq_same true true h = refl
  beq_same true false h = absurd (false≢true h)
  beq_same false true h = absurd (false≢true h)
  beq_same false false h = refl

  one_reply : (y : ScriptInput) (ys : List ScriptInput) (place : ℕ) (log : List LogEntry) (reply : Reply) → drop place xs ≡ y ∷ ys → list_all (λ n. nat_lt n (2 ^ 64)) numbers ≡ true →
      fits owner member numbers y ≡ true → (aims_outside owner member y.input.command ≡ true → below reply ≡ []) → blank_text log ≡ seen_text (owners owner ys) log →
      blank_text (Replied place y.input.moment y.input.actor reply ∷ log) ≡ seen_text (owners owner (y ∷ ys)) (Replied place y.input.moment y.input.actor reply ∷ log)
  one_reply y ys place log reply e small fit b more = go (eqb y.input.actor owner) fit
    where
      at_line : slice_get (lines_of xs) place ≡ Some y.line
      at_line = slice_get-drop (lines_of xs) (lines_of ys) place y.line (drop-map (λ (x : ScriptInput). x.line) place xs ∙ ap lines_of e)

      at_input : slice_get inputs place ≡ Some y.input
      at_input = slice_get-drop inputs (inputs_of ys) place y.input (drop-map (λ (x : ScriptInput). x.input) place xs ∙ ap inputs_of e)

      go : (t : Bool) → (not t || (beq (list_any (λ n. eqb y.line n) numbers) (aims_outside owner member y.input.command) && nat_lt y.line (2 ^ 64))) ≡ true →
          text_with_blanks numbers (cond t (reply_text y.input.moment (slice_get (lines_of xs) place) reply) [] ++ entries_text owner (lines_of xs) log)
          ≡ sights_text (lines_of (cond t (y ∷ filter (λ x. eqb x.input.actor owner) ys) (filter (λ x. eqb x.input.actor owner) ys))) (cond t (sight_of_reply owner member y.input.moment reply (slice_get inputs place) ∷ []) [] ++ view owner member inputs log)
      go false f = more
      go true f =
          let out : Bool = aims_outside owner member y.input.command in
          let hits : Bool = list_any (λ n. eqb y.line n) numbers in
          let same : is_one_of numbers (decimal y.line) ≡ out =
          one_of-number y.line numbers (ltb-true y.line (2 ^ 64) (both_right (beq hits out) (nat_lt y.line (2 ^ 64)) f)) small ∙ beq_same hits out (both_left (beq hits out) (nat_lt y.line (2 ^ 64)) f) in
          ap (λ o. text_with_blanks numbers (reply_text y.input.moment o reply ++ entries_text owner (lines_of xs) log)) at_line
          ∙ owner_reply (owners owner ys) log y.input.moment y.line reply y.input out refl same b more
          ∙ ap (λ o. sights_text (y.line ∷ owners owner ys) (sight_of_reply owner member y.input.moment reply o ∷ view owner member inputs log)) (sym at_input)

  log_seen : (ys : List ScriptInput) (s : State) (place end : ℕ) → drop place xs ≡ ys → list_all (λ n. nat_lt n (2 ^ 64)) numbers ≡ true → list_all (fits owner member numbers) ys ≡ true →
      blank_text (log_from files s place (inputs_of ys) end) ≡ seen_text (owners owner ys) (log_from files s place (inputs_of ys) end)
  unfolding sights_text
  log_seen [] s place end e small fit =
      ap blank_text (sym (append-nil (map Delivered (settle s end).delivered)))
      ∙ after_deliveries [] (settle s end).delivered [] refl
      ∙ ap (seen_text []) (append-nil (map Delivered (settle s end).delivered))
  log_seen (y ∷ ys) s place end e small fit =
      let a : Stepped = step files s y.input in
      let log : List LogEntry = log_from files a.state (place + 1) (inputs_of ys) end in
      after_deliveries (owners owner (y ∷ ys)) a.delivered (Replied place y.input.moment y.input.actor a.reply ∷ log)
      (one_reply y ys place log a.reply e small (both_left (fits owner member numbers y) (list_all (fits owner member numbers) ys) fit)
      (patch_below files (settle s y.input.moment).state owner y.input.moment y.input.actor member y.input.command)
      (log_seen ys a.state (place + 1) end (drop-next xs ys place y e) small (both_right (fits owner member numbers y) (list_all (fits owner member numbers) ys) fit)))

-- ---- the law

all_kept : (p q : ScriptInput → Bool) (xs : List ScriptInput) → list_all p xs ≡ true → list_all p (filter q xs) ≡ true
all_kept p q [] h = refl
all_kept p q (x ∷ xs) h = go (q x) (all_kept p q xs (both_right (p x) (list_all p xs) h))
  where
    go : (b : Bool) → list_all p (filter q xs) ≡ true → list_all p (cond b (x ∷ filter q xs) (filter q xs)) ≡ true
    go true more = and_both (p x) (list_all p (filter q xs)) (both_left (p x) (list_all p xs) h) more
    go false more = more

-- the owner is a member
owners-only : (owner : ℕ) (member : ℕ → Bool) → member owner ≡ true → (xs : List ScriptInput) → owners owner (filter (λ x. member x.input.actor) xs) ≡ owners owner xs
owners-only owner member m [] = refl
owners-only owner member m (x ∷ xs) = go (member x.input.actor) refl (eqb x.input.actor owner) refl (owners-only owner member m xs)
  where
    go : (a : Bool) → member x.input.actor ≡ a → (b : Bool) → eqb x.input.actor owner ≡ b → owners owner (filter (λ x. member x.input.actor) xs) ≡ owners owner xs →
        owners owner (cond a (x ∷ filter (λ x. member x.input.actor) xs) (filter (λ x. member x.input.actor) xs)) ≡ lines_of (cond b (x ∷ filter (λ x. eqb x.input.actor owner) xs) (filter (λ x. eqb x.input.actor owner) xs))
    go true e true f more = ap (λ t. lines_of (cond t (x ∷ filter (λ x. eqb x.input.actor owner) (filter (λ x. member x.input.actor) xs)) (filter (λ x. eqb x.input.actor owner) (filter (λ x. member x.input.actor) xs)))) f ∙ ap (λ ls. x.line ∷ ls) more
    go true e false f more = ap (λ t. lines_of (cond t (x ∷ filter (λ x. eqb x.input.actor owner) (filter (λ x. member x.input.actor) xs)) (filter (λ x. eqb x.input.actor owner) (filter (λ x. member x.input.actor) xs)))) f ∙ more
    go false e true f more = absurd (false≢true (sym e ∙ ap member (eqb-true x.input.actor owner f) ∙ m))
    go false e false f more = more

-- a blanked log is its skips, and what the owner sees
blank_log : (folder : FolderContents) (end : ℕ) (owner : Script) (member : ℕ → Bool) (xs : List ScriptInput) → list_all (fits owner.client member (outside_lines member (script_reading folder end owner))) xs ≡ true →
    blank member (script_reading folder end owner) (log_text (script_reading folder end owner) (lines_of xs) (plain folder.files (inputs_of xs) end))
    ≡ skips_text (script_reading folder end owner).skips ++ sights_text (owners owner.client xs) (view owner.client member (inputs_of xs) (plain folder.files (inputs_of xs) end))
blank_log folder end owner member xs fit =
    let r : ScriptRead = script_reading folder end owner in
    let numbers : List ℕ = outside_lines member r in
    let log : List LogEntry = plain folder.files (inputs_of xs) end in
    let rise : LinesRise 1 (2 ^ 64) r.inputs = script-rise owner.client folder.names end owner.text in
    skips_stay numbers r.skips (entries_text r.client (lines_of xs) log)
    ∙ ap (λ c. skips_text r.skips ++ text_with_blanks numbers (entries_text c (lines_of xs) log)) (script-client owner.client folder.names end owner.text)
    ∙ ap (λ t. skips_text r.skips ++ t)
    (log_seen folder.files owner.client member numbers xs xs start 0 end refl (lines_small (λ x. aims_outside r.client member x.input.command) 1 (2 ^ 64) r.inputs rise) fit)

pub log_law : LogLaw
log_law folder end owner member scripts rising there closed =
    let all : List ScriptInput = session folder end scripts in
    let kept : List ScriptInput = filter (λ x. member x.input.actor) all in
    let fit = session_fit folder end member owner scripts rising there in
    let skips : List ℕ = skips_text (script_reading folder end owner).skips in
    blank_log folder end owner member all fit
    ∙ ap (λ ss. skips ++ sights_text (owners owner.client all) ss)
    (isolation_law folder.files owner.client member (inputs_of all) end (timed_law folder end scripts) closed
    ∙ ap (λ is. view owner.client member is (plain folder.files is end)) (sym (only-inputs member all)))
    ∙ ap (λ ls. skips ++ sights_text ls (view owner.client member (inputs_of kept) (plain folder.files (inputs_of kept) end))) (sym (owners-only owner.client member closed.0 all))
    ∙ sym (blank_log folder end owner member kept (all_kept (fits owner.client member (outside_lines member (script_reading folder end owner))) (λ x. member x.input.actor) all fit))
    ∙ ap (λ xs. blank member (script_reading folder end owner) (log_text (script_reading folder end owner) (lines_of xs) (plain folder.files (inputs_of xs) end))) (sym (merge_law.lines folder end member scripts))
