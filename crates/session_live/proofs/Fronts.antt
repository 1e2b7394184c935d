-- What stands in the text for a client.
use Rattle.std.proofs.Common.{◌≡◌, ℕ, ◌+◌, ◌/◌, ◌%◌, ◌<◌, ◌≤◌, Bool, true, false, not, cond, eqb, List, [], ◌∷◌, ◌++◌, map, length, take, drop, Option, Some, None, refl, sym, ap, ◌∙◌, arith, append-nil, append_assoc}
use Rattle.std.specs.Prelude.{codes}
use Rattle.std.specs.Fmt.{decimal}
use Rattle.std.specs.List.{flat_map, list_all, onto_first}
use Rattle.std.specs.Str.{bytes_eq}
use Rattle.std.proofs.Math.Seq.{take-append_seam, drop-append_seam}
use Rattle.std.proofs.lemmas.Bool.{false≢true, eqb-true, eqb-false}
use Rattle.std.proofs.lemmas.Fmt.{decimal_digit, decimal_step}
use Rattle.std.proofs.lemmas.List.{take-append-drop}
use Rattle.std.proofs.lemmas.List.Splits.{slice_split-cons_yes, slice_split-cons_no, length-slice_split}
use Rattle.std.proofs.lemmas.Slice.Eq.{bytes_eq-Decides}
use Rattle.seq_state.specs.declared.log.Arrival.{Arrival}
use Rattle.seq_state.specs.declared.log.Delivery.{Delivery}
use Rattle.seq_state.specs.declared.log.Reply.{Reply}
use Rattle.seq_state.specs.declared.log.Reply.TheVariants.{Done, Refused, Messages, Received, Queue, Pools}
use Rattle.seq_state.proofs.Lists.{both_left, both_right, and_both, flat_map-append, list_all-append}
use Rattle.seq_engine.specs.Ending.{listing_of}
use Rattle.script_text.specs.declared.reading.Skip.{Skip}
use Rattle.script_text.specs.Reasons.{reason_text}
use Rattle.script_text.specs.Words.{is_line_end, lines, words}
use Rattle.text_forms.specs.Hex.{spaced_hex}
use Rattle.seq_session.specs.Logs.{skip_line, delivery_line, got_line, outcome, below, reply_front, reply_text}
use Rattle.seq_session.proofs.Blanking.{line-spaced, line-why, line-outcome}
use Rattle.seq_session.proofs.Texts.{split-front, words-number, words-front, line-append, line-number, is_small, decimal-small}
use Rattle.session_live.specs.Lines.{all_but_last, whole_lines}
use Rattle.session_live.specs.Answers.{Part, Comes, Answers, Skips, Lists, Next, answers_to, part_text, fronted, to_client, next_word}
use Rattle.session_live.specs.Texts.{line_with, lines_with, log_in, part_log}
use Rattle.session_live.specs.Laws.{TextLaw}
use Rattle.session_live.proofs.Clients.{is_client, client_decimal, part_names_client, names_clients}

abbrev pub is_line : List ℕ → Bool
is_line l = list_all (λ b. not (is_line_end b)) l

-- each of these with its line end
abbrev pub unlines : List (List ℕ) → List ℕ
unlines ls = flat_map (λ l. l ++ codes "\n") ls

-- ---- cutting

keep-first : (l : List ℕ) (ms : List (List ℕ)) → 0 < length ms → all_but_last (l ∷ ms) ≡ l ∷ all_but_last ms
keep-first l [] h = absurd (omega arith)
keep-first l (m ∷ ms) h = refl

whole-cons : (l u : List ℕ) → is_line l ≡ true → whole_lines (l ++ 10 ∷ u) ≡ l ∷ whole_lines u
whole-cons l u h = ap all_but_last (split-front is_line_end l 10 u h refl) ∙ keep-first l (lines u) (omega (arith, length-slice_split is_line_end u))

whole-unlines : (ls : List (List ℕ)) (u : List ℕ) → list_all is_line ls ≡ true → whole_lines (unlines ls ++ u) ≡ ls ++ whole_lines u
whole-unlines [] u h = refl
whole-unlines (l ∷ ls) u h =
    ap whole_lines (shape (unlines ls))
    ∙ whole-cons l (unlines ls ++ u) (both_left (is_line l) (list_all is_line ls) h)
    ∙ ap (λ ms. l ∷ ms) (whole-unlines ls u (both_right (is_line l) (list_all is_line ls) h))
  where
    shape : (v : List ℕ) → ((l ++ codes "\n") ++ v) ++ u ≡ l ++ 10 ∷ (v ++ u)
    shape v = append_assoc (l ++ codes "\n") v u ∙ append_assoc l (codes "\n") (v ++ u)

onto-lines : (x : ℕ) (ls : List (List ℕ)) → is_line_end x ≡ false → list_all is_line ls ≡ true → list_all is_line (onto_first x ls) ≡ true
onto-lines x [] e h = and_both (is_line (x ∷ [])) true (and_both (not (is_line_end x)) true (ap not e) refl) refl
onto-lines x (l ∷ ls) e h =
    and_both (is_line (x ∷ l)) (list_all is_line ls) (and_both (not (is_line_end x)) (is_line l) (ap not e) (both_left (is_line l) (list_all is_line ls) h)) (both_right (is_line l) (list_all is_line ls) h)

pub lines-lines : (t : List ℕ) → list_all is_line (lines t) ≡ true
lines-lines [] = refl
lines-lines (x ∷ t) = go (is_line_end x) refl (lines-lines t)
  where
    go : (b : Bool) → is_line_end x ≡ b → list_all is_line (lines t) ≡ true → list_all is_line (lines (x ∷ t)) ≡ true
    go true e h = ap (list_all is_line) (slice_split-cons_yes is_line_end x t e) ∙ h
    go false e h = ap (list_all is_line) (slice_split-cons_no is_line_end x t e) ∙ onto-lines x (lines t) e h

pub but-last-lines : (ls : List (List ℕ)) → list_all is_line ls ≡ true → list_all is_line (all_but_last ls) ≡ true
but-last-lines [] h = refl
but-last-lines (l ∷ []) h = refl
but-last-lines (l ∷ m ∷ ls) h =
    and_both (is_line l) (list_all is_line (all_but_last (m ∷ ls))) (both_left (is_line l) (list_all is_line (m ∷ ls)) h) (but-last-lines (m ∷ ls) (both_right (is_line l) (list_all is_line (m ∷ ls)) h))

-- ---- fronts

abbrev with_front : List ℕ → List (List ℕ) → List (List ℕ)
with_front front ls = map (λ l. front ++ l) ls

fronted-unlines : (front : List ℕ) (ls : List (List ℕ)) → flat_map (λ l. front ++ l ++ codes "\n") ls ≡ unlines (with_front front ls)
fronted-unlines front [] = refl
fronted-unlines front (l ∷ ls) = ap (λ t. (front ++ l ++ codes "\n") ++ t) (fronted-unlines front ls)

front-lines : (front : List ℕ) (ls : List (List ℕ)) → is_line front ≡ true → list_all is_line ls ≡ true → list_all is_line (with_front front ls) ≡ true
front-lines front [] f h = refl
front-lines front (l ∷ ls) f h =
    and_both (is_line (front ++ l)) (list_all is_line (with_front front ls)) (list_all-append (λ b. not (is_line_end b)) front l f (both_left (is_line l) (list_all is_line ls) h)) (front-lines front ls f (both_right (is_line l) (list_all is_line ls) h))

-- the lines with a front of a text that begins with lines with a front
split-fronted : (own front t u : List ℕ) → is_line front ≡ true → lines_with own (fronted front t ++ u) ≡ flat_map (line_with own) (with_front front (whole_lines t)) ++ lines_with own u
split-fronted own front t u f =
    let ls : List (List ℕ) = whole_lines t in
    ap (λ v. lines_with own (v ++ u)) (fronted-unlines front ls)
    ∙ ap (flat_map (line_with own)) (whole-unlines (with_front front ls) u (front-lines front ls f (but-last-lines (lines t) (lines-lines t))))
    ∙ flat_map-append (line_with own) (with_front front ls) (whole_lines u)

hits : (own : List ℕ) (ls : List (List ℕ)) → flat_map (line_with own) (with_front own ls) ≡ unlines ls
hits own [] = refl
hits own (l ∷ ls) =
    ap (λ t. t ++ flat_map (line_with own) (with_front own ls))
    (ap (λ b. cond b (drop (length own) (own ++ l) ++ codes "\n") []) same ∙ ap (λ t. t ++ codes "\n") (drop-append_seam own l))
    ∙ ap (λ t. (l ++ codes "\n") ++ t) (hits own ls)
  where
    same : bytes_eq (take (length own) (own ++ l)) own ≡ true
    same = (bytes_eq-Decides (take (length own) (own ++ l)) own).1 (take-append_seam own l)

abbrev Misses : List ℕ → List ℕ → Type 0
Misses own front = (l : List ℕ) → take (length own) (front ++ l) ≡ own → ⊥

misses : (own front : List ℕ) → Misses own front → (ls : List (List ℕ)) → flat_map (line_with own) (with_front front ls) ≡ []
misses own front m [] = refl
misses own front m (l ∷ ls) = ap (λ b. cond b (drop (length own) (front ++ l) ++ codes "\n") [] ++ flat_map (line_with own) (with_front front ls)) (other (bytes_eq (take (length own) (front ++ l)) own) refl) ∙ misses own front m ls
  where
    other : (b : Bool) → bytes_eq (take (length own) (front ++ l)) own ≡ b → b ≡ false
    other true e = absurd (m l ((bytes_eq-Decides (take (length own) (front ++ l)) own).0 e))
    other false e = refl

-- ---- whose front it is

abbrev front_of : ℕ → List ℕ
front_of c = decimal c ++ codes " "

front-line : (c : ℕ) → is_line (front_of c) ≡ true
front-line c = line-append (decimal c) (codes " ") (line-number c) refl

first_same : (a b : List ℕ) (vs ws : List (List ℕ)) → a ∷ vs ≡ b ∷ ws → a ≡ b
first_same a b vs ws e = cc

-- a text that begins as the owner's lines do has the owner's number first
number-first : (owner : ℕ) (text : List ℕ) → take (length (front_of owner)) text ≡ front_of owner → words text ≡ decimal owner ∷ words (drop (length (front_of owner)) text)
number-first owner text h =
    let rest : List ℕ = drop (length (front_of owner)) text in
    ap words (sym (take-append-drop (length (front_of owner)) text) ∙ ap (λ t. t ++ rest) h ∙ append_assoc (decimal owner) (codes " ") rest)
    ∙ words-number owner rest

client-misses : (owner c : ℕ) → is_client c ≡ true → eqb c owner ≡ false → Misses (front_of owner) (front_of c)
client-misses owner c s e l h =
    let text : List ℕ = front_of c ++ l in
    let a : words text ≡ decimal c ∷ words l = ap words (append_assoc (decimal c) (codes " ") l) ∙ words-number c l in
    eqb-false c owner e (client_decimal c owner s (first_same (decimal c) (decimal owner) (words l) (words (drop (length (front_of owner)) text)) (sym a ∙ number-first owner text h)))

word-misses : (owner : ℕ) (w rest l : List ℕ) → (t : List ℕ) → t ≡ w ++ 32 ∷ rest → words (w ++ 32 ∷ rest) ≡ w ∷ words rest → list_all is_small w ≡ false → take (length (front_of owner)) t ≡ front_of owner → ⊥
word-misses owner w rest l t e f s h =
    let same : w ≡ decimal owner = first_same w (decimal owner) (words rest) (words (drop (length (front_of owner)) t)) (sym f ∙ ap words (sym e) ∙ number-first owner t h) in
    false≢true (sym s ∙ ap (list_all is_small) same ∙ decimal-small owner)

list-misses : (owner : ℕ) → Misses (front_of owner) (codes "list ")
list-misses owner l h = word-misses owner (codes "list") l l (codes "list " ++ l) refl (words-front (codes "list") l refl refl) refl h

skip-misses : (owner : ℕ) → Misses (front_of owner) (codes "skip ")
skip-misses owner l h = word-misses owner (codes "skip") l l (codes "skip " ++ l) refl (words-front (codes "skip") l refl refl) refl h

next-misses : (owner : ℕ) → Misses (front_of owner) (codes "next ")
next-misses owner l h = word-misses owner (codes "next") l l (codes "next " ++ l) refl (words-front (codes "next") l refl refl) refl h

-- ---- texts of whole lines

-- the text is these lines, each with its line end
pub record IsText (t : List ℕ) : Type 0 where
  pub parts : List (List ℕ)
  pub is : t ≡ unlines parts
  pub whole : list_all is_line parts ≡ true

pub text-whole : (t : List ℕ) → IsText t → unlines (whole_lines t) ≡ t
text-whole t h =
    ap (λ u. unlines (whole_lines u)) (h.is ∙ sym (append-nil (unlines h.parts)))
    ∙ ap unlines (whole-unlines h.parts [] h.whole ∙ append-nil h.parts)
    ∙ sym h.is

one-line : (t l : List ℕ) → t ≡ l ++ codes "\n" → is_line l ≡ true → IsText t
one-line t l e h = record { parts = l ∷ []; is = e ∙ sym (append-nil (l ++ codes "\n")); whole = and_both (is_line l) true h refl }

delivery-is-line : (d : Delivery) → is_line (decimal d.moment ++ (codes " port " ++ (decimal d.target.port ++ spaced_hex d.message))) ≡ true
delivery-is-line d =
    line-append (decimal d.moment) (codes " port " ++ (decimal d.target.port ++ spaced_hex d.message)) (line-number d.moment)
    (line-append (decimal d.target.port) (spaced_hex d.message) (line-number d.target.port) (line-spaced d.message))

pub delivery-text : (d : Delivery) → IsText (delivery_line d)
delivery-text d =
    let l : List ℕ = decimal d.moment ++ (codes " port " ++ (decimal d.target.port ++ spaced_hex d.message)) in
    one-line (delivery_line d) l (simp append_assoc) (delivery-is-line d)

pub skip-text : (s : Skip) → IsText (skip_line s)
skip-text s =
    let l : List ℕ = codes "skip " ++ (decimal s.line ++ (codes " " ++ reason_text s.why)) in
    one-line (skip_line s) l (simp append_assoc)
    (line-append (decimal s.line) (codes " " ++ reason_text s.why) (line-number s.line) (line-why s.why))

got-text : (a : Arrival) → IsText (got_line a)
got-text a =
    let l : List ℕ = codes "got " ++ (decimal a.moment ++ (codes " port " ++ (decimal a.port ++ spaced_hex a.message))) in
    one-line (got_line a) l (simp append_assoc)
    (line-append (decimal a.moment) (codes " port " ++ (decimal a.port ++ spaced_hex a.message)) (line-number a.moment)
    (line-append (decimal a.port) (spaced_hex a.message) (line-number a.port) (line-spaced a.message)))

both-texts : (t u : List ℕ) → IsText t → IsText u → IsText (t ++ u)
both-texts t u h k = record {
  parts = h.parts ++ k.parts;
  is = ap (λ v. v ++ u) h.is ∙ ap (λ v. unlines h.parts ++ v) k.is ∙ sym (flat_map-append (λ l. l ++ codes "\n") h.parts k.parts);
  whole = list_all-append is_line h.parts k.parts h.whole k.whole;
}

no-text : IsText []
no-text = record { parts = []; is = refl; whole = refl }

gots-text : (xs : List Arrival) → IsText (flat_map got_line xs)
gots-text [] = no-text
gots-text (a ∷ xs) = both-texts (got_line a) (flat_map got_line xs) (got-text a) (gots-text xs)

below-text : (reply : Reply) → IsText (below reply)
below-text Done = no-text
below-text (Messages n) = no-text
below-text (Received xs) = gots-text xs
below-text (Queue running tick nanos) = no-text
below-text (Pools waiting lost used) = no-text
below-text (Refused n) = no-text

reply-is-line : (moment n : ℕ) (reply : Reply) → is_line (reply_front moment n ++ outcome reply) ≡ true
reply-is-line moment n reply =
    line-append (reply_front moment n) (outcome reply) (line-append (decimal moment ++ codes " line ") (decimal n) (line-append (decimal moment) (codes " line ") (line-number moment) refl) (line-number n)) (line-outcome reply)

pub reply-text : (moment n : ℕ) (reply : Reply) → IsText (reply_text moment (Some n) reply)
reply-text moment n reply =
    both-texts (reply_front moment n ++ outcome reply ++ codes "\n") (below reply)
    (one-line (reply_front moment n ++ outcome reply ++ codes "\n") (reply_front moment n ++ outcome reply) refl (reply-is-line moment n reply))
    (below-text reply)

-- ---- a line with its front

-- the number of a client has three digits
pub three_digits : (n : ℕ) → 128 ≤ n → n ≤ 191 → (49 ∷ (48 + n / 10 % 10) ∷ (48 + n % 10) ∷ 32 ∷ []) ≡ decimal n ++ codes " "
three_digits n l h =
    let one : n / 10 / 10 ≡ 1 = omega arith in
    sym (ap (λ t. t ++ codes " ") (decimal_step n (omega arith) (omega arith)
    ∙ ap (λ t. t ++ (48 + n % 10) ∷ []) (decimal_step (n / 10) (omega arith) (omega arith)
    ∙ ap (λ t. t ++ (48 + n / 10 % 10) ∷ []) (decimal_digit (n / 10 / 10) (omega arith) ∙ ap (λ k. (48 + k) ∷ []) one))))

one-fronted : (front t l : List ℕ) → t ≡ l ++ codes "\n" → is_line l ≡ true → fronted front t ≡ front ++ t
one-fronted front t l e h =
    ap (fronted front) e
    ∙ ap (flat_map (λ m. front ++ m ++ codes "\n")) (whole-cons l [] h)
    ∙ append-nil (front ++ l ++ codes "\n")
    ∙ append_assoc front l (codes "\n")
    ∙ ap (λ u. front ++ u) (sym e)

-- what was added behind the front of a client
pub behind-front : (client : ℕ) (old t text line added : List ℕ) → t ≡ old ++ decimal client ++ codes " " → text ≡ t ++ line → added ≡ (decimal client ++ codes " ") ++ line → text ≡ old ++ added
behind-front client old t text line added front told is =
    let whole : old ++ decimal client ++ codes " " ++ line ≡ old ++ ((decimal client ++ codes " ") ++ line) = simp append_assoc in
    told ∙ ap (λ u. u ++ line) front ∙ whole ∙ ap (λ u. old ++ u) (sym is)

pub delivery-fronted : (front : List ℕ) (d : Delivery) → fronted front (delivery_line d) ≡ front ++ delivery_line d
delivery-fronted front d =
    let l : List ℕ = decimal d.moment ++ (codes " port " ++ (decimal d.target.port ++ spaced_hex d.message)) in
    one-fronted front (delivery_line d) l (simp append_assoc) (delivery-is-line d)

pub reply-fronted : (front : List ℕ) (moment n : ℕ) (reply : Reply) → below reply ≡ [] → fronted front (reply_text moment (Some n) reply) ≡ front ++ reply_text moment (Some n) reply
reply-fronted front moment n reply e =
    one-fronted front (reply_text moment (Some n) reply) (reply_front moment n ++ outcome reply)
    (ap (λ u. reply_front moment n ++ outcome reply ++ codes "\n" ++ u) e ∙ append-nil (reply_front moment n ++ outcome reply ++ codes "\n"))
    (reply-is-line moment n reply)

-- ---- parts

module _ (owner : ℕ) where
  to-client : (c : ℕ) (t u : List ℕ) → IsText t → is_client c ≡ true → lines_with (front_of owner) (to_client c t ++ u) ≡ cond (eqb c owner) t [] ++ lines_with (front_of owner) u
  to-client c t u h s = split-fronted (front_of owner) (front_of c) t u (front-line c) ∙ ap (λ v. v ++ lines_with (front_of owner) u) (go (eqb c owner) refl)
    where
      go : (b : Bool) → eqb c owner ≡ b → flat_map (line_with (front_of owner)) (with_front (front_of c) (whole_lines t)) ≡ cond b t []
      go true e = ap (λ x. flat_map (line_with (front_of owner)) (with_front (front_of x) (whole_lines t))) (eqb-true c owner e) ∙ hits (front_of owner) (whole_lines t) ∙ text-whole t h
      go false e = misses (front_of owner) (front_of c) (client-misses owner c s e) (whole_lines t)

  next-line : (m : Option ℕ) → is_line (codes "next " ++ next_word m) ≡ true
  next-line None = refl
  next-line (Some m) = line-append (codes "next ") (decimal m) refl (line-number m)

  one-part : (p : Part) (u : List ℕ) → part_names_client p ≡ true → lines_with (front_of owner) (part_text p ++ u) ≡ part_log owner p ++ lines_with (front_of owner) u
  one-part (Comes d) u s = to-client d.target.client (delivery_line d) u (delivery-text d) s
  one-part (Answers n i reply) u s = to-client i.actor (reply_text i.moment (Some n) reply) u (reply-text i.moment n reply) s
  one-part (Skips (Some c) n why) u s = to-client c (skip_line (record { line = n; why = why })) u (skip-text (record { line = n; why = why })) s
  one-part (Skips None n why) u s =
      let l : List ℕ = decimal n ++ (codes " " ++ reason_text why) in
      ap (flat_map (line_with (front_of owner))) (ap whole_lines (shape u) ∙ whole-cons (codes "skip " ++ l) u (line-append (decimal n) (codes " " ++ reason_text why) (line-number n) (line-why why)))
      ∙ ap (λ t. t ++ lines_with (front_of owner) u) (sym (append-nil (line_with (front_of owner) (codes "skip " ++ l))) ∙ misses (front_of owner) (codes "skip ") (skip-misses owner) (l ∷ []))
    where
      shape : (u : List ℕ) → skip_line (record { line = n; why = why }) ++ u ≡ (codes "skip " ++ (decimal n ++ (codes " " ++ reason_text why))) ++ 10 ∷ u
      shape u = simp append_assoc
  one-part (Lists s) u k = split-fronted (front_of owner) (codes "list ") (listing_of s) u refl ∙ ap (λ v. v ++ lines_with (front_of owner) u) (misses (front_of owner) (codes "list ") (list-misses owner) (whole_lines (listing_of s)))
  one-part (Next m) u s =
      ap (flat_map (line_with (front_of owner))) (ap whole_lines (append_assoc (codes "next " ++ next_word m) (codes "\n") u) ∙ whole-cons (codes "next " ++ next_word m) u (next-line m))
      ∙ ap (λ t. t ++ lines_with (front_of owner) u) (sym (append-nil (line_with (front_of owner) (codes "next " ++ next_word m))) ∙ misses (front_of owner) (codes "next ") (next-misses owner) (next_word m ∷ []))

  all-parts : (ps : List Part) → list_all part_names_client ps ≡ true → log_in owner (flat_map part_text ps) ≡ flat_map (part_log owner) ps
  all-parts [] h = refl
  all-parts (p ∷ ps) h =
      one-part p (flat_map part_text ps) (both_left (part_names_client p) (list_all part_names_client ps) h)
      ∙ ap (λ t. part_log owner p ++ t) (all-parts ps (both_right (part_names_client p) (list_all part_names_client ps) h))

pub text_law : TextLaw
text_law folder owner ls = all-parts owner (answers_to folder ls) (names_clients folder ls)
