-- How a sequencer stands after a line, and after a piece of a text.
use Rattle.std.proofs.Common.{◌≡◌, ℕ, ◌+◌, ◌≤◌, ◌<◌, Bool, true, false, cond, nat_lt, List, [], ◌∷◌, ◌++◌, length, Option, Some, None, Result, Ok, Err, OnOk, refl, sym, ap, subst, ◌∙◌, arith, append_assoc, append-nil, take, drop}
use Rattle.std.specs.Prelude.{nat_le}
use Rattle.std.specs.List.{flat_map}
use Rattle.std.proofs.lemmas.Bool.Decides.{nat_tests}
use Rattle.std.proofs.lemmas.List.Concat.{flat_map-append}
use Rattle.smf_grammar.specs.Played.{PlayedFile}
use Rattle.seq_state.specs.declared.input.Command.{Command}
use Rattle.seq_state.specs.declared.input.Input.{Input}
use Rattle.seq_state.specs.State.{State, start}
use Rattle.seq_state.specs.Step.{step, settle}
use Rattle.seq_engine.specs.Seen.{Seen}
use Rattle.seq_session.specs.Sessions.{FolderContents}
use Rattle.script_text.specs.declared.live_lines.LiveLine.{LiveLine}
use Rattle.script_text.specs.declared.live_lines.LiveLine.TheVariants.{Unknown, Says, Passes}
use Rattle.script_text.specs.declared.reading.SkipReason.{SkipReason}
use Rattle.script_text.specs.declared.reading.SkipReason.TheVariants.{Unreadable, Late, TooLong}
use Rattle.script_text.specs.LiveLines.{live_line}
use Rattle.script_text.specs.Words.{lines}
use Rattle.session_live.specs.declared.heard.TheConstants.{MOST_LINE}
use Rattle.session_live.specs.Answers.{answer, after_item, answers_from, state_from, part_text, parts_text, live_text}
use Rattle.session_live.specs.Lines.{Item, Skipped, Said, Waited, Asked, Heard, nothing_heard, skipped_loose, skipped_by, input_of, item_of, item, heard_after, heard_from, items_from, whole_lines, open_line}
use Rattle.session_live.specs.Talk.{IsLineEnd, AreCounts, next_number, counted, IsHeard, IsOpenLine, IsFed}
use Rattle.session_live.proofs.Parted.{whole-kept, open-kept, whole-fed, open-fed}
use Rattle.session_live.proofs.Fed.{items-more, heard-more, state-more, answers-more, heard_by, state_by, text-kept}

-- ---- what becomes of a line

pub item-short : (names : List (List ℕ)) (h : Heard) (line : List ℕ) (l : LiveLine) → length line ≤ MOST_LINE → l ≡ live_line names line → item names h line ≡ item_of h l
item-short names h line l short e = ap (λ b. cond b (item_of h (live_line names line)) (skipped_loose h TooLong)) under ∙ ap (item_of h) (sym e)
  where
    under : nat_le (length line) MOST_LINE ≡ true
    under = grind (arith, nat_tests)

pub item-long : (names : List (List ℕ)) (h : Heard) (line : List ℕ) → MOST_LINE < length line → item names h line ≡ skipped_loose h TooLong
item-long names h line long = ap (λ b. cond b (item_of h (live_line names line)) (skipped_loose h TooLong)) over
  where
    over : nat_le (length line) MOST_LINE ≡ false
    over = grind (arith, nat_tests)

pub item-unknown : (h : Heard) (client : Option ℕ) → item_of h (Unknown client) ≡ Skipped client (next_number h client) Unreadable
item-unknown h None = refl
item-unknown h (Some client) = refl

late_is : (moment now : ℕ) → moment < now → nat_lt moment now ≡ true
late_is moment now l = grind (arith, nat_tests)

timely_is : (moment now : ℕ) → now ≤ moment → nat_lt moment now ≡ false
timely_is moment now l = grind (arith, nat_tests)

pub says-late : (h : Heard) (client moment : ℕ) (c : Command) (now : ℕ) → now ≡ h.latest → moment < now → item_of h (Says client moment c) ≡ skipped_by h client Late
says-late h client moment c now e l = ap (λ b. cond b (skipped_by h client Late) (Said (h.said client + 1) (input_of client moment c))) (ap (nat_lt moment) (sym e) ∙ late_is moment now l)

pub says-timely : (h : Heard) (client moment : ℕ) (c : Command) (now : ℕ) → now ≡ h.latest → now ≤ moment → item_of h (Says client moment c) ≡ Said (h.said client + 1) (input_of client moment c)
says-timely h client moment c now e l = ap (λ b. cond b (skipped_by h client Late) (Said (h.said client + 1) (input_of client moment c))) (ap (nat_lt moment) (sym e) ∙ timely_is moment now l)

pub passes-late : (h : Heard) (moment now : ℕ) → now ≡ h.latest → moment < now → item_of h (Passes moment) ≡ skipped_loose h Late
passes-late h moment now e l = ap (λ b. cond b (skipped_loose h Late) (Waited moment)) (ap (nat_lt moment) (sym e) ∙ late_is moment now l)

pub passes-timely : (h : Heard) (moment now : ℕ) → now ≡ h.latest → now ≤ moment → item_of h (Passes moment) ≡ Waited moment
passes-timely h moment now e l = ap (λ b. cond b (skipped_loose h Late) (Waited moment)) (ap (nat_lt moment) (sym e) ∙ timely_is moment now l)

-- ---- how it stands after a line

module _ (folder : FolderContents) (engine : Seen) (said : List ℕ) (loose : ℕ) (h : Heard) (s : State) (a : IsHeard folder engine said loose h s) where
  pub told-by : (x y : Item) → y ≡ x → (told told' : List ℕ) → told' ≡ told ++ parts_text (answer engine.files engine.state x) → told' ≡ told ++ parts_text (answer folder.files s y)
  told-by x y e told told' t =
      t
      ∙ ap (λ fs. told ++ parts_text (answer fs engine.state x)) a.files
      ∙ ap (λ u. told ++ parts_text (answer folder.files u x)) a.state
      ∙ ap (λ z. told ++ parts_text (answer folder.files s z)) (sym e)

  module _ (engine' : Seen) (said' : List ℕ) (loose' : ℕ) where
    abbrev pub Stands : Item → Type 0
    Stands x = IsHeard folder engine' said' loose' (heard_after h x) (after_item folder.files s x)

    pub heard-skipped : (client : Option ℕ) (n : ℕ) (why : SkipReason) → engine' ≡ engine → AreCounts said' loose' (counted h client) → Stands (Skipped client n why)
    heard-skipped None n why e c = record {
      files = ap (λ (v : Seen). v.files) e ∙ a.files;
      state = ap (λ (v : Seen). v.state) e ∙ a.state;
      latest = ap (λ (v : Seen). v.moment) e ∙ a.latest;
      counts = c;
    }
    heard-skipped (Some client) n why e c = record {
      files = ap (λ (v : Seen). v.files) e ∙ a.files;
      state = ap (λ (v : Seen). v.state) e ∙ a.state;
      latest = ap (λ (v : Seen). v.moment) e ∙ a.latest;
      counts = c;
    }

    pub heard-listed : (y : Item) → y ≡ Asked → engine' ≡ engine → AreCounts said' loose' (counted h None) → Stands y
    heard-listed y is e c = subst Stands (sym is) (record {
      files = ap (λ (v : Seen). v.files) e ∙ a.files;
      state = ap (λ (v : Seen). v.state) e ∙ a.state;
      latest = ap (λ (v : Seen). v.moment) e ∙ a.latest;
      counts = c;
    })

    pub heard-said : (y : Item) (n : ℕ) (i : Input) → y ≡ Said n i → engine'.files ≡ engine.files → engine'.state ≡ (step engine.files engine.state i).state → engine'.moment ≡ i.moment → AreCounts said' loose' (counted h (Some i.actor)) → Stands y
    heard-said y n i is f t m c = subst Stands (sym is) (record {
      files = f ∙ a.files;
      state = t ∙ ap (λ fs. (step fs engine.state i).state) a.files ∙ ap (λ u. (step folder.files u i).state) a.state;
      latest = m;
      counts = record { rows = c.rows; loose_is = c.loose_is; said_is = c.said_is };
    })

    pub heard-waited : (y : Item) (moment : ℕ) → y ≡ Waited moment → engine'.files ≡ engine.files → engine'.state ≡ (settle engine.state moment).state → engine'.moment ≡ moment → AreCounts said' loose' (counted h None) → Stands y
    heard-waited y moment is f t m c = subst Stands (sym is) (record {
      files = f ∙ a.files;
      state = t ∙ ap (λ u. (settle u moment).state) a.state;
      latest = m;
      counts = record { rows = c.rows; loose_is = c.loose_is; said_is = c.said_is };
    })

-- a line that is skipped is this item
pub as-item : (folder : FolderContents) (files : List PlayedFile) (engine : Seen) (said : List ℕ) (loose : ℕ) (h : Heard) (s : State) (x y : Item) → y ≡ x →
    IsHeard folder engine said loose (heard_after h x) (after_item files s x) → IsHeard folder engine said loose (heard_after h y) (after_item files s y)
as-item folder files engine said loose h s x y e a = subst (λ z. IsHeard folder engine said loose (heard_after h z) (after_item files s z)) (sym e) a

pub as-told : (files : List PlayedFile) (s : State) (x y : Item) → y ≡ x → (told told' : List ℕ) → told' ≡ told ++ parts_text (answer files s x) → told' ≡ told ++ parts_text (answer files s y)
as-told files s x y e told told' t = t ∙ ap (λ z. told ++ parts_text (answer files s z)) (sym e)

-- ---- the open line

pub empty-open : (bytes : List ℕ) (is_too_long : Bool) (line : List ℕ) → IsOpenLine bytes is_too_long [] → IsOpenLine bytes is_too_long line → line ≡ []
empty-open bytes is_too_long line a b = sym (b.kept a.too_long) ∙ a.kept a.too_long

pub open-whole : (bytes : List ℕ) (is_too_long : Bool) (line : List ℕ) → IsOpenLine bytes is_too_long line → is_too_long ≡ false → line ≡ bytes
open-whole bytes is_too_long line a e = sym (a.kept e)

pub open-long : (bytes : List ℕ) (is_too_long : Bool) (line : List ℕ) → IsOpenLine bytes is_too_long line → is_too_long ≡ true → MOST_LINE < length line
open-long bytes is_too_long line a e = over (sym a.too_long ∙ e)
  where
    over : nat_lt MOST_LINE (length line) ≡ true → MOST_LINE < length line
    over t = grind (arith, nat_tests)

-- ---- a line ends

whole-ended : (read part line : List ℕ) → lines part ≡ part ∷ [] → open_line read ++ part ≡ line → whole_lines (read ++ part ++ 10 ∷ []) ≡ whole_lines read ++ line ∷ []
whole-ended read part line p e =
    whole-fed (read ++ part)
    ∙ ap (λ ls. ls ++ open_line (read ++ part) ∷ []) (whole-kept read part p)
    ∙ ap (λ l. whole_lines read ++ l ∷ []) (open-kept read part p ∙ e)

open-ended : (read part : List ℕ) → open_line (read ++ part ++ 10 ∷ []) ≡ []
open-ended read part = open-fed (read ++ part)

module _ (folder : FolderContents) (engine : Seen) (said : List ℕ) (loose : ℕ) where
  abbrev Stood : List (List ℕ) → Type 0
  Stood ls = IsHeard folder engine said loose (heard_from folder.names nothing_heard ls) (state_from folder.files start (items_from folder.names nothing_heard ls))

  stood-more : (ls : List (List ℕ)) (line : List ℕ) →
      IsHeard folder engine said loose (heard_after (heard_from folder.names nothing_heard ls) (item folder.names (heard_from folder.names nothing_heard ls) line))
      (after_item folder.files (state_from folder.files start (items_from folder.names nothing_heard ls)) (item folder.names (heard_from folder.names nothing_heard ls) line)) →
      Stood (ls ++ line ∷ [])
  stood-more ls line a =
      let h : Heard = heard_from folder.names nothing_heard ls in
      let s : State = state_from folder.files start (items_from folder.names nothing_heard ls) in
      let x : Item = item folder.names h line in
      let state : state_from folder.files start (items_from folder.names nothing_heard (ls ++ line ∷ [])) ≡ after_item folder.files s x =
      ap (state_from folder.files start) (items-more folder.names nothing_heard ls line) ∙ state-more folder.files start (items_from folder.names nothing_heard ls) x in
      subst (λ g. IsHeard folder engine said loose g (state_from folder.files start (items_from folder.names nothing_heard (ls ++ line ∷ [])))) (sym (heard-more folder.names nothing_heard ls line))
      (subst (λ u. IsHeard folder engine said loose (heard_after h x) u) (sym state) a)

  module _ (bytes : List ℕ) (is_too_long : Bool) (read part : List ℕ) where
    fed-ended : (line : List ℕ) → lines part ≡ part ∷ [] → open_line read ++ part ≡ line →
        IsHeard folder engine said loose (heard_after (heard_by folder read) (item folder.names (heard_by folder read) line)) (after_item folder.files (state_by folder read) (item folder.names (heard_by folder read) line)) →
        IsOpenLine bytes is_too_long [] → IsFed folder engine said loose bytes is_too_long (read ++ part ++ 10 ∷ [])
    fed-ended line p e a o = record {
      heard = subst Stood (sym (whole-ended read part line p e)) (stood-more (whole_lines read) line a);
      line = subst (IsOpenLine bytes is_too_long) (sym (open-ended read part)) o;
    }

    -- ---- a part is kept

    pub fed-kept : (bytes' : List ℕ) (is_too_long' : Bool) → lines part ≡ part ∷ [] → ((line : List ℕ) → IsOpenLine bytes is_too_long line → IsOpenLine bytes' is_too_long' (line ++ part)) →
        IsFed folder engine said loose bytes is_too_long read → IsFed folder engine said loose bytes' is_too_long' (read ++ part)
    fed-kept bytes' is_too_long' p k a = record {
      heard = subst Stood (sym (whole-kept read part p)) a.heard;
      line = subst (IsOpenLine bytes' is_too_long') (sym (open-kept read part p)) (k (open_line read) a.line);
    }

module _ (folder : FolderContents) (read part line : List ℕ) where
  told-ended : lines part ≡ part ∷ [] → open_line read ++ part ≡ line →
      live_text folder (read ++ part ++ 10 ∷ []) ≡ live_text folder read ++ parts_text (answer folder.files (state_by folder read) (item folder.names (heard_by folder read) line))
  told-ended p e =
      let xs : List Item = items_from folder.names nothing_heard (whole_lines read) in
      let x : Item = item folder.names (heard_by folder read) line in
      ap (λ ls. flat_map part_text (answers_from folder.files start (items_from folder.names nothing_heard ls))) (whole-ended read part line p e)
      ∙ ap (λ ys. flat_map part_text (answers_from folder.files start ys)) (items-more folder.names nothing_heard (whole_lines read) line)
      ∙ ap (flat_map part_text) (answers-more folder.files start xs x)
      ∙ flat_map-append part_text (answers_from folder.files start xs) (answer folder.files (state_by folder read) x)

  text-ended : lines part ≡ part ∷ [] → open_line read ++ part ≡ line → (before told told' : List ℕ) → live_text folder read ≡ before ++ told →
      told' ≡ told ++ parts_text (answer folder.files (state_by folder read) (item folder.names (heard_by folder read) line)) → live_text folder (read ++ part ++ 10 ∷ []) ≡ before ++ told'
  text-ended p e before told told' was t =
      let more : List ℕ = parts_text (answer folder.files (state_by folder read) (item folder.names (heard_by folder read) line)) in
      told-ended p e
      ∙ ap (λ x. x ++ more) was
      ∙ append_assoc before told more
      ∙ ap (λ x. before ++ x) (sym t)

-- the same sequencer, with its files named otherwise
heard-files : (folder folder' : FolderContents) (engine : Seen) (said : List ℕ) (loose : ℕ) (h : Heard) (s : State) → folder' ≡ folder → IsHeard folder' engine said loose h s → IsHeard folder engine said loose h s
heard-files folder folder' engine said loose h s e a = subst (λ f. IsHeard f engine said loose h s) e a

fed-files : (folder folder' : FolderContents) (engine : Seen) (said : List ℕ) (loose : ℕ) (bytes : List ℕ) (is_too_long : Bool) (read : List ℕ) → folder' ≡ folder → IsFed folder engine said loose bytes is_too_long read → IsFed folder' engine said loose bytes is_too_long read
fed-files folder folder' engine said loose bytes is_too_long read e a = subst (λ f. IsFed f engine said loose bytes is_too_long read) (sym e) a

-- ---- of two facts of the same answer

pub on_ok-two : {T E P Q R : Type 0} (r : Result T E) → (P → Q → R) → OnOk r P → OnOk r Q → OnOk r R
on_ok-two (Ok x) f p q = f p q
on_ok-two (Err e) f p q = tt

pub on_ok-four : {T E P Q R S U : Type 0} (r : Result T E) → (P → Q → R → S → U) → OnOk r P → OnOk r Q → OnOk r R → OnOk r S → OnOk r U
on_ok-four (Ok x) f p q w v = f p q w v
on_ok-four (Err e) f p q w v = tt

pub on_ok-heard : {T E : Type 0} (A B : Heard → State → Type 0) (r : Result T E) → ((h : Heard) (s : State) → A h s → OnOk r (B h s)) → OnOk r ((h : Heard) (s : State) → A h s → B h s)
on_ok-heard A B (Ok x) f = f
on_ok-heard A B (Err e) f = tt

-- ---- a piece

-- Of a piece a front was read and answered, and the rest is to be read.
pub record IsRead (folder folder' : FolderContents) (Before After : List ℕ → Type 0) (told told' piece rest : List ℕ) : Type 0 where
  pub front : List ℕ
  pub cut : piece ≡ front ++ rest
  pub fed : (read : List ℕ) → Before read → After (read ++ front)
  pub text : (read before : List ℕ) → Before read → live_text folder read ≡ before ++ told → live_text folder (read ++ front) ≡ before ++ told'
  pub files : folder' ≡ folder

pub read-none : (folder : FolderContents) (Before : List ℕ → Type 0) (told piece : List ℕ) → IsRead folder folder Before Before told told piece piece
read-none folder Before told piece = record {
  front = [];
  cut = refl;
  fed = λ read f. subst Before (sym (append-nil read)) f;
  text = λ read before f e. ap (live_text folder) (append-nil read) ∙ e;
  files = refl;
}

pub read-more : (folder folder' folder'' : FolderContents) (Before After Later : List ℕ → Type 0) (told told' told'' piece rest rest' : List ℕ) (place : ℕ) → IsLineEnd rest place → rest' ≡ drop (place + 1) rest →
    IsRead folder folder' Before After told told' piece rest →
    ((read : List ℕ) → After read → Later (read ++ take place rest ++ 10 ∷ [])) →
    ((read before : List ℕ) → After read → live_text folder' read ≡ before ++ told' → live_text folder' (read ++ take place rest ++ 10 ∷ []) ≡ before ++ told'') →
    folder'' ≡ folder' → IsRead folder folder'' Before Later told told'' piece rest'
read-more folder folder' folder'' Before After Later told told' told'' piece rest rest' place l e r fed text files = subst (IsRead folder folder'' Before Later told told'' piece) (sym e) (record {
  front = r.front ++ take place rest ++ 10 ∷ [];
  cut = r.cut ∙ ap (λ x. r.front ++ x) l.whole ∙ sym (append_assoc r.front (take place rest) (10 ∷ drop (place + 1) rest)) ∙ sym (append_assoc (r.front ++ take place rest) (10 ∷ []) (drop (place + 1) rest));
  fed = λ read f. subst Later (shift read) (fed (read ++ r.front) (r.fed read f));
  text = λ read before f was.
      ap (live_text folder) (sym (shift read))
      ∙ ap (λ x. live_text x ((read ++ r.front) ++ take place rest ++ 10 ∷ [])) (sym r.files)
      ∙ text (read ++ r.front) before (r.fed read f) (ap (λ x. live_text x (read ++ r.front)) r.files ∙ r.text read before f was);
  files = files ∙ r.files;
})
  where
    shift : (read : List ℕ) → (read ++ r.front) ++ take place rest ++ 10 ∷ [] ≡ read ++ (r.front ++ take place rest ++ 10 ∷ [])
    shift read = ap (λ x. x ++ 10 ∷ []) (append_assoc read r.front (take place rest)) ∙ append_assoc read (r.front ++ take place rest) (10 ∷ [])

module _ (folder folder' : FolderContents) (Before After : List ℕ → Type 0) (told told' piece rest : List ℕ) (none : lines rest ≡ rest ∷ []) (r : IsRead folder folder' Before After told told' piece rest) where
  pub read-fed : (Last : List ℕ → Type 0) → ((read : List ℕ) → After read → Last (read ++ rest)) → (read : List ℕ) → Before read → Last (read ++ piece)
  read-fed Last k read f = subst Last (append_assoc read r.front rest ∙ ap (λ x. read ++ x) (sym r.cut)) (k (read ++ r.front) (r.fed read f))

  pub read-text : (read before : List ℕ) → Before read → live_text folder read ≡ before ++ told → live_text folder (read ++ piece) ≡ before ++ told'
  read-text read before f was =
      ap (live_text folder) (ap (λ x. read ++ x) r.cut ∙ sym (append_assoc read r.front rest))
      ∙ text-kept folder (read ++ r.front) rest none
      ∙ r.text read before f was

-- ---- a line that ended was answered

module _ (folder folder' : FolderContents) (engine engine' : Seen) (said said' : List ℕ) (loose loose' : ℕ) (bytes : List ℕ) (is_too_long : Bool) (read part line : List ℕ) (p : lines part ≡ part ∷ []) (x : Item)
    (f : IsFed folder engine said loose bytes is_too_long read) (e : open_line read ++ part ≡ line) (is : item folder.names (heard_by folder read) line ≡ x) where
  pub ended-fed : (bytes' : List ℕ) (is_too_long' : Bool) → folder' ≡ folder →
      (IsHeard folder engine said loose (heard_by folder read) (state_by folder read) → IsHeard folder' engine' said' loose' (heard_after (heard_by folder read) x) (after_item folder.files (state_by folder read) x)) →
      IsOpenLine bytes' is_too_long' [] → IsFed folder' engine' said' loose' bytes' is_too_long' (read ++ part ++ 10 ∷ [])
  ended-fed bytes' is_too_long' same k o =
      fed-files folder folder' engine' said' loose' bytes' is_too_long' (read ++ part ++ 10 ∷ []) same
      (fed-ended folder engine' said' loose' bytes' is_too_long' read part line p e
      (as-item folder folder.files engine' said' loose' (heard_by folder read) (state_by folder read) x (item folder.names (heard_by folder read) line) is
      (heard-files folder folder' engine' said' loose' (heard_after (heard_by folder read) x) (after_item folder.files (state_by folder read) x) same (k f.heard))) o)

  pub ended-text : (before told told' : List ℕ) → live_text folder read ≡ before ++ told →
      (IsHeard folder engine said loose (heard_by folder read) (state_by folder read) → told' ≡ told ++ parts_text (answer folder.files (state_by folder read) x)) →
      live_text folder (read ++ part ++ 10 ∷ []) ≡ before ++ told'
  ended-text before told told' was k =
      text-ended folder read part line p e before told told' was
      (as-told folder.files (state_by folder read) x (item folder.names (heard_by folder read) line) is told told' (k f.heard))
