-- What is answered to a text to which a part is added.
use Rattle.std.proofs.Common.{◌≡◌, ℕ, ◌+◌, List, [], ◌∷◌, ◌++◌, take, drop, refl, sym, ap, ◌∙◌, append_assoc, append-nil}
use Rattle.std.specs.List.{flat_map}
use Rattle.std.proofs.lemmas.List.Concat.{flat_map-append}
use Rattle.smf_grammar.specs.Played.{PlayedFile}
use Rattle.seq_state.specs.State.{State, start}
use Rattle.seq_session.specs.Sessions.{FolderContents}
use Rattle.script_text.specs.Words.{lines}
use Rattle.session_live.specs.Answers.{fronted, answer, after_item, answers_from, state_from, part_text, parts_text, live_text}
use Rattle.session_live.specs.Lines.{Item, Heard, nothing_heard, item, heard_after, heard_from, items_from, whole_lines, open_line}
use Rattle.session_live.specs.Talk.{IsLineEnd}
use Rattle.session_live.proofs.Parted.{whole-kept, whole-fed, whole-first, whole-none}

-- ---- one line more

pub items-more : (names : List (List ℕ)) (h : Heard) (ls : List (List ℕ)) (l : List ℕ) → items_from names h (ls ++ l ∷ []) ≡ items_from names h ls ++ item names (heard_from names h ls) l ∷ []
items-more names h [] l = refl
items-more names h (m ∷ ls) l = ap (λ xs. item names h m ∷ xs) (items-more names (heard_after h (item names h m)) ls l)

pub heard-more : (names : List (List ℕ)) (h : Heard) (ls : List (List ℕ)) (l : List ℕ) → heard_from names h (ls ++ l ∷ []) ≡ heard_after (heard_from names h ls) (item names (heard_from names h ls) l)
heard-more names h [] l = refl
heard-more names h (m ∷ ls) l = heard-more names (heard_after h (item names h m)) ls l

pub state-more : (files : List PlayedFile) (s : State) (xs : List Item) (x : Item) → state_from files s (xs ++ x ∷ []) ≡ after_item files (state_from files s xs) x
state-more files s [] x = refl
state-more files s (y ∷ xs) x = state-more files (after_item files s y) xs x

pub answers-more : (files : List PlayedFile) (s : State) (xs : List Item) (x : Item) → answers_from files s (xs ++ x ∷ []) ≡ answers_from files s xs ++ answer files (state_from files s xs) x
answers-more files s [] x = append-nil (answer files s x)
answers-more files s (y ∷ xs) x = ap (λ ps. answer files s y ++ ps) (answers-more files (after_item files s y) xs x) ∙ sym (append_assoc (answer files s y) (answers_from files (after_item files s y) xs) (answer files (state_from files (after_item files s y) xs) x))

-- ---- a text

module _ (folder : FolderContents) (text : List ℕ) where
  abbrev pub heard_by : Heard
  heard_by = heard_from folder.names nothing_heard (whole_lines text)

  abbrev pub state_by : State
  state_by = state_from folder.files start (items_from folder.names nothing_heard (whole_lines text))

  -- a part without a line feed says nothing yet
  pub text-kept : (part : List ℕ) → lines part ≡ part ∷ [] → live_text folder (text ++ part) ≡ live_text folder text
  text-kept part h = ap (λ ls. flat_map part_text (answers_from folder.files start (items_from folder.names nothing_heard ls))) (whole-kept text part h)

  -- with a line feed the open line is answered
  pub text-fed : live_text folder (text ++ 10 ∷ []) ≡ live_text folder text ++ parts_text (answer folder.files state_by (item folder.names heard_by (open_line text)))
  text-fed =
      ap (λ ls. flat_map part_text (answers_from folder.files start (items_from folder.names nothing_heard ls))) (whole-fed text)
      ∙ ap (λ xs. flat_map part_text (answers_from folder.files start xs)) (items-more folder.names nothing_heard (whole_lines text) (open_line text))
      ∙ ap (flat_map part_text) (answers-more folder.files start (items_from folder.names nothing_heard (whole_lines text)) (item folder.names heard_by (open_line text)))
      ∙ flat_map-append part_text (answers_from folder.files start (items_from folder.names nothing_heard (whole_lines text))) (answer folder.files state_by (item folder.names heard_by (open_line text)))

-- ---- lines with a front

pub fronted-first : (front text : List ℕ) (n : ℕ) → IsLineEnd text n → fronted front text ≡ (front ++ take n text ++ 10 ∷ []) ++ fronted front (drop (n + 1) text)
fronted-first front text n h = ap (flat_map (λ l. front ++ l ++ 10 ∷ [])) (whole-first text n h)

pub fronted-none : (front text : List ℕ) → lines text ≡ text ∷ [] → fronted front text ≡ []
fronted-none front text h = ap (flat_map (λ l. front ++ l ++ 10 ∷ [])) (whole-none text h)

-- a front, a line and its end were added
pub fronted-step : (front rest next : List ℕ) (n : ℕ) (was t u text whole : List ℕ) → IsLineEnd rest n → t ≡ was ++ front → u ≡ t ++ take n rest → text ≡ u ++ 10 ∷ [] → next ≡ drop (n + 1) rest → was ++ fronted front rest ≡ whole → text ++ fronted front next ≡ whole
fronted-step front rest next n was t u text whole h a b d e i =
    ap (λ x. text ++ fronted front x) e
    ∙ ap (λ x. x ++ more) (d ∙ ap (λ x. x ++ 10 ∷ []) (b ∙ ap (λ x. x ++ line) a))
    ∙ ap (λ x. (x ++ 10 ∷ []) ++ more) (append_assoc was front line)
    ∙ ap (λ x. x ++ more) (append_assoc was (front ++ line) (10 ∷ []))
    ∙ append_assoc was ((front ++ line) ++ 10 ∷ []) more
    ∙ ap (λ x. was ++ x) (sym (fronted-first front rest n h))
    ∙ i
  where
    line : List ℕ
    line = take n rest

    more : List ℕ
    more = fronted front (drop (n + 1) rest)
