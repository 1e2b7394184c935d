-- What blanking does to each line of a log.
use Rattle.std.proofs.Common.{◌≡◌, ℕ, ◌+◌, ◌/◌, ◌%◌, ◌<◌, ◌^◌, Bool, true, false, not, cond, eqb, ◌&&◌, ◌||◌, List, [], ◌∷◌, ◌++◌, length, drop, refl, sym, ap, ◌∙◌, arith, append_assoc}
use Rattle.std.specs.Prelude.{nat_lt, codes}
use Rattle.std.specs.List.{list_all, list_any, flat_map}
use Rattle.std.specs.Fmt.{decimal}
use Rattle.std.specs.Str.{bytes_eq}
use Rattle.std.proofs.lemmas.Bool.{eqb-true, eqb-false, ltb-true, ne_eqb}
use Rattle.std.proofs.lemmas.Fmt.{decimal_injective}
use Rattle.std.proofs.lemmas.Slice.Eq.{bytes_eq-Decides}
use Rattle.seq_state.specs.declared.log.Arrival.{Arrival}
use Rattle.seq_state.specs.declared.log.Delivery.{Delivery}
use Rattle.seq_state.specs.declared.log.Reply.{Reply}
use Rattle.seq_state.specs.declared.log.Reply.TheVariants.{Done, Refused, Messages, Received, Queue, Pools}
use Rattle.seq_state.specs.declared.refusal.Refusal.{Refusal}
use Rattle.seq_state.specs.declared.refusal.Refusal.TheVariants.{NotOpen, AlreadyOpen, BadName, BadSize, BadRule, NodeExists, NoNode, NoSender, NoDest, NotPermitted, AlreadyConnected, NotConnected, SourcesFull, Cycle, QueueExists, NotYours, NoQueue, QueueRunning, QueueStopped, NoFile, DivisionDiffers, BadTempo, BadTime, OutFull}
use Rattle.seq_state.specs.Refusals.{number_of, refusal_name}
use Rattle.seq_state.proofs.Lists.{both_left, both_right}
use Rattle.script_text.specs.declared.reading.Skip.{Skip}
use Rattle.script_text.specs.declared.reading.SkipReason.{SkipReason}
use Rattle.script_text.specs.declared.reading.SkipReason.TheVariants.{Unreadable, PastEnd, Late, TooLong}
use Rattle.script_text.specs.Reasons.{reason_text}
use Rattle.script_text.specs.Words.{words}
use Rattle.text_forms.specs.Hex.{digit, spaced_hex}
use Rattle.seq_session.specs.Logs.{skip_line, skips_text, arrival_text, delivery_line, got_line, all_refusals, name_in, name_numbered, outcome, below, reply_front}
use Rattle.seq_session.specs.Blank.{is_one_of, cut_short, blank_line, text_with_blanks}
use Rattle.seq_session.proofs.Texts.{IsLine, blanked-line, words-front, words-number, small-other, decimal-small, line-append, line-number}

-- ---- what has no line end

line-digit : (n : ℕ) (t : List ℕ) → IsLine t → IsLine (digit n ∷ t)
line-digit n t h = go (nat_lt n 10) refl
  where
    go : (b : Bool) → nat_lt n 10 ≡ b → IsLine (cond b (48 + n) (55 + n) ∷ t)
    go true e = ap (λ b. not b && list_all (λ b. not (eqb b 10)) t) (one (48 + n) (omega arith)) ∙ h
      where
        one : (k : ℕ) → 10 < k → eqb k 10 ≡ false
        one k l = ne_eqb k 10 (λ e. omega arith)
    go false e = ap (λ b. not b && list_all (λ b. not (eqb b 10)) t) (one (55 + n) (omega arith)) ∙ h
      where
        one : (k : ℕ) → 10 < k → eqb k 10 ≡ false
        one k l = ne_eqb k 10 (λ e. omega arith)

pub line-spaced : (bytes : List ℕ) → IsLine (spaced_hex bytes)
line-spaced [] = refl
line-spaced (b ∷ bytes) = line-digit (b / 16) (digit (b % 16) ∷ spaced_hex bytes) (line-digit (b % 16) (spaced_hex bytes) (line-spaced bytes))

pub line-why : (why : SkipReason) → IsLine (reason_text why)
line-why Unreadable = refl
line-why PastEnd = refl
line-why Late = refl
line-why TooLong = refl

line-refusal_name : (r : Refusal) → IsLine (refusal_name r)
line-refusal_name NotOpen = refl
line-refusal_name AlreadyOpen = refl
line-refusal_name BadName = refl
line-refusal_name BadSize = refl
line-refusal_name BadRule = refl
line-refusal_name NodeExists = refl
line-refusal_name NoNode = refl
line-refusal_name NoSender = refl
line-refusal_name NoDest = refl
line-refusal_name NotPermitted = refl
line-refusal_name AlreadyConnected = refl
line-refusal_name NotConnected = refl
line-refusal_name SourcesFull = refl
line-refusal_name Cycle = refl
line-refusal_name QueueExists = refl
line-refusal_name NotYours = refl
line-refusal_name NoQueue = refl
line-refusal_name QueueRunning = refl
line-refusal_name QueueStopped = refl
line-refusal_name NoFile = refl
line-refusal_name DivisionDiffers = refl
line-refusal_name BadTempo = refl
line-refusal_name BadTime = refl
line-refusal_name OutFull = refl

line-name_in : (rs : List Refusal) (n : ℕ) → IsLine (name_in rs n)
line-name_in [] n = refl
line-name_in (r ∷ rs) n = go (eqb (number_of r) n) (line-name_in rs n)
  where
    go : (b : Bool) → IsLine (name_in rs n) → IsLine (cond b (refusal_name r) (name_in rs n))
    go true more = line-refusal_name r
    go false more = more

pub line-outcome : (reply : Reply) → IsLine (outcome reply)
line-outcome Done = refl
line-outcome (Messages n) = line-append (codes " ok ") (decimal n) refl (line-number n)
line-outcome (Received arrivals) = line-append (codes " ok ") (decimal (length arrivals)) refl (line-number (length arrivals))
line-outcome (Queue true tick nanos) =
    line-append (codes " ok running " ++ decimal tick ++ codes " ") (decimal nanos) (line-append (codes " ok running " ++ decimal tick) (codes " ") (line-append (codes " ok running ") (decimal tick) refl (line-number tick)) refl) (line-number nanos)
line-outcome (Queue false tick nanos) =
    line-append (codes " ok stopped " ++ decimal tick ++ codes " ") (decimal nanos) (line-append (codes " ok stopped " ++ decimal tick) (codes " ") (line-append (codes " ok stopped ") (decimal tick) refl (line-number tick)) refl) (line-number nanos)
line-outcome (Pools waiting lost used) =
    line-append (codes " ok waiting " ++ decimal waiting ++ codes " lost " ++ decimal lost ++ codes " used ") (decimal used)
    (line-append (codes " ok waiting " ++ decimal waiting ++ codes " lost " ++ decimal lost) (codes " used ")
    (line-append (codes " ok waiting " ++ decimal waiting ++ codes " lost ") (decimal lost)
    (line-append (codes " ok waiting " ++ decimal waiting) (codes " lost ") (line-append (codes " ok waiting ") (decimal waiting) refl (line-number waiting)) refl) (line-number lost)) refl)
    (line-number used)
line-outcome (Refused n) =
    line-append (codes " refused " ++ decimal n ++ codes " ") (name_numbered n)
    (line-append (codes " refused " ++ decimal n) (codes " ") (line-append (codes " refused ") (decimal n) refl (line-number n)) refl) (line-name_in all_refusals n)

-- ---- lines that stay

-- a line whose second word is another
stays : (numbers line first second : List ℕ) (rest : List (List ℕ)) → words line ≡ first ∷ second ∷ rest → bytes_eq second (codes "line") ≡ false → blank_line numbers line ≡ line
stays numbers line first second [] e h = ap (cut_short numbers line) e
stays numbers line first second (w ∷ rest) e h =
    ap (cut_short numbers line) e ∙ ap (λ b. cond (b && is_one_of numbers w) (first ++ codes " line " ++ w) line) h

line_stays : (numbers line t : List ℕ) → IsLine line → blank_line numbers line ≡ line → text_with_blanks numbers (line ++ 10 ∷ t) ≡ line ++ 10 ∷ text_with_blanks numbers t
line_stays numbers line t h e = blanked-line numbers line t h ∙ ap (λ l. l ++ 10 ∷ text_with_blanks numbers t) e

pub skip_stays : (numbers : List ℕ) (s : Skip) (t : List ℕ) → text_with_blanks numbers (skip_line s ++ t) ≡ skip_line s ++ text_with_blanks numbers t
skip_stays numbers s t =
    let tail : List ℕ = reason_text s.why in
    let line : List ℕ = codes "skip " ++ (decimal s.line ++ 32 ∷ tail) in
    let shape : (u : List ℕ) → skip_line s ++ u ≡ line ++ 10 ∷ u = λ u. simp append_assoc in
    let second : words line ≡ codes "skip" ∷ decimal s.line ∷ words tail =
    words-front (codes "skip") (decimal s.line ++ 32 ∷ tail) refl refl ∙ ap (λ ws. codes "skip" ∷ ws) (words-number s.line tail) in
    let one : IsLine line = line-append (decimal s.line) (32 ∷ tail) (line-number s.line) (line-why s.why) in
    ap (text_with_blanks numbers) (shape t)
    ∙ line_stays numbers line t one (stays numbers line (codes "skip") (decimal s.line) (words tail) second (small-other (decimal s.line) (decimal-small s.line)))
    ∙ sym (shape (text_with_blanks numbers t))

pub skips_stay : (numbers : List ℕ) (skips : List Skip) (t : List ℕ) → text_with_blanks numbers (skips_text skips ++ t) ≡ skips_text skips ++ text_with_blanks numbers t
skips_stay numbers [] t = refl
skips_stay numbers (s ∷ skips) t =
    ap (text_with_blanks numbers) (append_assoc (skip_line s) (skips_text skips) t)
    ∙ skip_stays numbers s (skips_text skips ++ t)
    ∙ ap (λ u. skip_line s ++ u) (skips_stay numbers skips t)
    ∙ sym (append_assoc (skip_line s) (skips_text skips) (text_with_blanks numbers t))

pub delivery_stays : (numbers : List ℕ) (d : Delivery) (t : List ℕ) → text_with_blanks numbers (delivery_line d ++ t) ≡ delivery_line d ++ text_with_blanks numbers t
delivery_stays numbers d t =
    let tail : List ℕ = decimal d.target.port ++ spaced_hex d.message in
    let line : List ℕ = decimal d.moment ++ 32 ∷ (codes "port" ++ 32 ∷ tail) in
    let shape : (u : List ℕ) → delivery_line d ++ u ≡ line ++ 10 ∷ u = λ u. simp append_assoc in
    let second : words line ≡ decimal d.moment ∷ codes "port" ∷ words tail =
    words-number d.moment (codes "port" ++ 32 ∷ tail) ∙ ap (λ ws. decimal d.moment ∷ ws) (words-front (codes "port") tail refl refl) in
    let one : IsLine line = line-append (decimal d.moment) (codes " port " ++ tail) (line-number d.moment) (line-append (decimal d.target.port) (spaced_hex d.message) (line-number d.target.port) (line-spaced d.message)) in
    ap (text_with_blanks numbers) (shape t)
    ∙ line_stays numbers line t one (stays numbers line (decimal d.moment) (codes "port") (words tail) second refl)
    ∙ sym (shape (text_with_blanks numbers t))

came-shape : (port : ℕ) (message u : List ℕ) → arrival_text port message ++ u ≡ 32 ∷ (codes "port " ++ (decimal port ++ spaced_hex message)) ++ 10 ∷ u
came-shape port message u = simp append_assoc

got-shape : (m : ℕ) (tail c u : List ℕ) → c ++ u ≡ 32 ∷ tail ++ 10 ∷ u → (codes "got " ++ decimal m ++ c) ++ u ≡ (codes "got " ++ (decimal m ++ 32 ∷ tail)) ++ 10 ∷ u
got-shape m tail c u e = append_assoc (codes "got " ++ decimal m) c u ∙ ap (λ v. codes "got " ++ decimal m ++ v) e ∙ simp append_assoc

got_stays : (numbers : List ℕ) (a : Arrival) (t : List ℕ) → text_with_blanks numbers (got_line a ++ t) ≡ got_line a ++ text_with_blanks numbers t
got_stays numbers a t =
    let tail : List ℕ = codes "port " ++ (decimal a.port ++ spaced_hex a.message) in
    let line : List ℕ = codes "got " ++ (decimal a.moment ++ 32 ∷ tail) in
    let shape : (u : List ℕ) → got_line a ++ u ≡ line ++ 10 ∷ u = λ u. got-shape a.moment tail (arrival_text a.port a.message) u (came-shape a.port a.message u) in
    let second : words line ≡ codes "got" ∷ decimal a.moment ∷ words tail =
    words-front (codes "got") (decimal a.moment ++ 32 ∷ tail) refl refl ∙ ap (λ ws. codes "got" ∷ ws) (words-number a.moment tail) in
    let one : IsLine line = line-append (decimal a.moment) (32 ∷ tail) (line-number a.moment) (line-append (decimal a.port) (spaced_hex a.message) (line-number a.port) (line-spaced a.message)) in
    ap (text_with_blanks numbers) (shape t)
    ∙ line_stays numbers line t one (stays numbers line (codes "got") (decimal a.moment) (words tail) second (small-other (decimal a.moment) (decimal-small a.moment)))
    ∙ sym (shape (text_with_blanks numbers t))

gots_stay : (numbers : List ℕ) (arrivals : List Arrival) (t : List ℕ) → text_with_blanks numbers (flat_map got_line arrivals ++ t) ≡ flat_map got_line arrivals ++ text_with_blanks numbers t
gots_stay numbers [] t = refl
gots_stay numbers (a ∷ arrivals) t =
    ap (text_with_blanks numbers) (append_assoc (got_line a) (flat_map got_line arrivals) t)
    ∙ got_stays numbers a (flat_map got_line arrivals ++ t)
    ∙ ap (λ u. got_line a ++ u) (gots_stay numbers arrivals t)
    ∙ sym (append_assoc (got_line a) (flat_map got_line arrivals) (text_with_blanks numbers t))

below_stays : (numbers : List ℕ) (reply : Reply) (t : List ℕ) → text_with_blanks numbers (below reply ++ t) ≡ below reply ++ text_with_blanks numbers t
below_stays numbers Done t = refl
below_stays numbers (Messages n) t = refl
below_stays numbers (Received arrivals) t = gots_stay numbers arrivals t
below_stays numbers (Queue running tick nanos) t = refl
below_stays numbers (Pools waiting lost used) t = refl
below_stays numbers (Refused n) t = refl

-- ---- replies

-- an outcome begins with a space
rest_of : Reply → List ℕ
rest_of reply = drop 1 (outcome reply)

outcome-space : (reply : Reply) → outcome reply ≡ 32 ∷ rest_of reply
unfolding rest_of
outcome-space Done = refl
outcome-space (Messages n) = refl
outcome-space (Received arrivals) = refl
outcome-space (Queue running tick nanos) = refl
outcome-space (Pools waiting lost used) = refl
outcome-space (Refused n) = refl

-- a line's number is among others as text where it is as a number
pub one_of-number : (line : ℕ) (numbers : List ℕ) → line < 2 ^ 64 → list_all (λ n. nat_lt n (2 ^ 64)) numbers ≡ true → is_one_of numbers (decimal line) ≡ list_any (λ n. eqb line n) numbers
one_of-number line [] l h = refl
one_of-number line (n ∷ numbers) l h =
    ap (λ b. b || is_one_of numbers (decimal line)) (same (eqb line n) refl)
    ∙ ap (λ b. eqb line n || b) (one_of-number line numbers l (both_right (nat_lt n (2 ^ 64)) (list_all (λ n. nat_lt n (2 ^ 64)) numbers) h))
  where
    small : n < 2 ^ 64
    small = ltb-true n (2 ^ 64) (both_left (nat_lt n (2 ^ 64)) (list_all (λ n. nat_lt n (2 ^ 64)) numbers) h)

    no : (b : Bool) → (b ≡ true → ⊥) → b ≡ false
    no true f = absurd (f refl)
    no false f = refl

    same : (b : Bool) → eqb line n ≡ b → bytes_eq (decimal line) (decimal n) ≡ b
    same true e = (bytes_eq-Decides (decimal line) (decimal n)).1 (ap decimal (eqb-true line n e))
    same false e = no (bytes_eq (decimal line) (decimal n)) (λ f. eqb-false line n e (decimal_injective line n l small ((bytes_eq-Decides (decimal line) (decimal n)).0 f)))

module _ (numbers : List ℕ) (moment line : ℕ) (reply : Reply) where
  abbrev whole : List ℕ
  whole = reply_front moment line ++ outcome reply

  three_words : words whole ≡ decimal moment ∷ codes "line" ∷ decimal line ∷ words (rest_of reply)
  three_words =
      ap (λ o. words (reply_front moment line ++ o)) (outcome-space reply)
      ∙ ap words (spread (rest_of reply))
      ∙ words-number moment (codes "line" ++ 32 ∷ (decimal line ++ 32 ∷ rest_of reply))
      ∙ ap (λ ws. decimal moment ∷ ws) (words-front (codes "line") (decimal line ++ 32 ∷ rest_of reply) refl refl)
      ∙ ap (λ ws. decimal moment ∷ codes "line" ∷ ws) (words-number line (rest_of reply))
    where
      spread : (o : List ℕ) → reply_front moment line ++ 32 ∷ o ≡ decimal moment ++ 32 ∷ (codes "line" ++ 32 ∷ (decimal line ++ 32 ∷ o))
      spread o = simp append_assoc

  front_line : IsLine (reply_front moment line)
  front_line = line-append (decimal moment ++ codes " line ") (decimal line) (line-append (decimal moment) (codes " line ") (line-number moment) refl) (line-number line)

  whole_line : IsLine whole
  whole_line = line-append (reply_front moment line) (outcome reply) front_line (line-outcome reply)

  cut_or_not : (b : Bool) → is_one_of numbers (decimal line) ≡ b → blank_line numbers whole ≡ cond b (reply_front moment line) whole
  cut_or_not b e = ap (cut_short numbers whole) three_words ∙ ap (λ t. cond t (reply_front moment line) whole) e

  shape : (u : List ℕ) → (whole ++ codes "\n" ++ below reply) ++ u ≡ whole ++ 10 ∷ (below reply ++ u)
  shape u = append_assoc (whole ++ codes "\n") (below reply) u ∙ append_assoc whole (codes "\n") (below reply ++ u)

  -- a reply line that is none of these
  pub reply_stays : (t : List ℕ) → is_one_of numbers (decimal line) ≡ false → text_with_blanks numbers ((whole ++ codes "\n" ++ below reply) ++ t) ≡ (whole ++ codes "\n" ++ below reply) ++ text_with_blanks numbers t
  reply_stays t e =
      ap (text_with_blanks numbers) (shape t)
      ∙ line_stays numbers whole (below reply ++ t) whole_line (cut_or_not false e)
      ∙ ap (λ u. whole ++ 10 ∷ u) (below_stays numbers reply t)
      ∙ sym (shape (text_with_blanks numbers t))

  -- a reply line that is one of these, with nothing below it
  pub reply_cut : (t : List ℕ) → is_one_of numbers (decimal line) ≡ true → below reply ≡ [] → text_with_blanks numbers ((whole ++ codes "\n" ++ below reply) ++ t) ≡ (reply_front moment line ++ codes "\n") ++ text_with_blanks numbers t
  reply_cut t e n =
      ap (text_with_blanks numbers) (shape t)
      ∙ blanked-line numbers whole (below reply ++ t) whole_line
      ∙ ap (λ l. l ++ 10 ∷ text_with_blanks numbers (below reply ++ t)) (cut_or_not true e)
      ∙ ap (λ u. reply_front moment line ++ 10 ∷ text_with_blanks numbers (u ++ t)) n
      ∙ sym (append_assoc (reply_front moment line) (codes "\n") (text_with_blanks numbers t))
