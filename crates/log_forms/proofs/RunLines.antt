-- What each line that a run writes is read as.
use Rattle.std.proofs.Common.{◌≡◌, ◌<◌, ◌^◌, ℕ, Bool, true, false, not, ◌&&◌, ◌||◌, ◌==◌, List, [], ◌∷◌, ◌++◌, map, Some, refl, ap, ◌∙◌, sym, append_assoc}
use Rattle.std.specs.Prelude.{codes}
use Rattle.std.specs.Fmt.{decimal}
use Rattle.std.specs.List.{list_all}
use Rattle.std.specs.Str.{bytes_eq}
use Rattle.std.proofs.lemmas.Bool.{eqb-true}
use Rattle.std.proofs.lemmas.Slice.Eq.{bytes_eq-Decides}
use Rattle.text_forms.specs.Hex.{spaced_hex}
use Rattle.log_forms.specs.Entries.{Outcome, arrival, is_word, is_queue_state, outcome_of, words_entry, Delivery, Received, Skip, Reply, Done, Count, Queue, Pools, Refused}
use Rattle.log_forms.specs.Laws.{IsWrittenAs, is_bytes, delivery_line, got_line, skip_line, reply_line, count_text, queue_text, pools_text, refused_text, arrived, replied}
use Rattle.log_forms.specs.Lines.{is_digit, is_number, is_plain, bytes_of}
use Rattle.log_forms.proofs.Composed.{are_plain, joined, written_as, spelled}
use Rattle.log_forms.proofs.Hexed.{and_left, and_right, hex_word}
use Rattle.log_forms.proofs.Numbers.{is_number-decimal, is_plain-decimal}

and_true : (a b : Bool) → a ≡ true → b ≡ true → a && b ≡ true
and_true a b e f = ap (λ t. t && b) e ∙ f

-- ---- a number is none of the words

first_digit : (b : ℕ) (w : List ℕ) → is_number (b ∷ w) ≡ true → is_digit b ≡ true
first_digit b [] e = e
first_digit b (d ∷ w) e = and_left (is_digit b) (list_all is_digit (d ∷ w)) (and_right (not (b == 48)) (list_all is_digit (b ∷ d ∷ w)) e)

number_is_not : (w : List ℕ) (c : ℕ) (cs : List ℕ) → is_number w ≡ true → is_digit c ≡ false → is_word w (c ∷ cs) ≡ false
number_is_not [] c cs e h = absurd cc
number_is_not (b ∷ w) c cs e h = go (b == c) refl
  where
    go : (t : Bool) → (b == c) ≡ t → t && bytes_eq w cs ≡ false
    go false q = refl
    go true q =
        let same : b ≡ c = eqb-true b c q in
        let both : true ≡ false = sym (first_digit b w e) ∙ ap is_digit same ∙ h in
        absurd cc

-- ---- what the words say

delivery_says : (moment port : List ℕ) (hexes : List (List ℕ)) (m : List ℕ) → is_number moment ≡ true → is_number port ≡ true → bytes_of hexes ≡ Some m
    → words_entry (moment ∷ codes "port" ∷ port ∷ hexes) ≡ Some (Delivery (arrival moment port m))
delivery_says moment port hexes m a b bytes =
    let skip = number_is_not moment 115 (codes "kip") a refl in
    let got = number_is_not moment 103 (codes "ot") a refl in
    rw (skip, got, a, b, bytes) refl

got_says : (moment port : List ℕ) (hexes : List (List ℕ)) (m : List ℕ) → is_number moment ≡ true → is_number port ≡ true → bytes_of hexes ≡ Some m
    → words_entry (codes "got" ∷ moment ∷ codes "port" ∷ port ∷ hexes) ≡ Some (Received (arrival moment port m))
got_says moment port hexes m a b bytes = rw (a, b, bytes) refl

skip_says : (line reason : List ℕ) → is_number line ≡ true → is_plain reason ≡ true → words_entry (codes "skip" ∷ line ∷ reason ∷ []) ≡ Some (Skip line reason)
skip_says line reason a b = rw (a, b) refl

reply_says : (moment line : List ℕ) (rest : List (List ℕ)) (o : Outcome) → is_number moment ≡ true → is_number line ≡ true → outcome_of rest ≡ Some o
    → words_entry (moment ∷ codes "line" ∷ line ∷ rest) ≡ Some (Reply moment line o)
reply_says moment line rest o a b says =
    let skip = number_is_not moment 115 (codes "kip") a refl in
    let got = number_is_not moment 103 (codes "ot") a refl in
    rw (skip, got, a, b, says) refl

count_says : (n : List ℕ) → is_number n ≡ true → outcome_of (codes "ok" ∷ n ∷ []) ≡ Some (Count n)
count_says n a =
    let running = number_is_not n 114 (codes "unning") a refl in
    let stopped = number_is_not n 115 (codes "topped") a refl in
    let waiting = number_is_not n 119 (codes "aiting") a refl in
    rw (running, stopped, waiting, a) refl

queue_says : (state tick nanos : List ℕ) → is_queue_state state ≡ true → is_number tick ≡ true → is_number nanos ≡ true
    → outcome_of (codes "ok" ∷ state ∷ tick ∷ nanos ∷ []) ≡ Some (Queue state tick nanos)
queue_says state tick nanos h a b = rw (h, a, b) refl

pools_says : (waiting lost used : List ℕ) → is_number waiting ≡ true → is_number lost ≡ true → is_number used ≡ true
    → outcome_of (codes "ok" ∷ codes "waiting" ∷ waiting ∷ codes "lost" ∷ lost ∷ codes "used" ∷ used ∷ []) ≡ Some (Pools waiting lost used)
pools_says waiting lost used a b d = rw (a, b, d) refl

refused_says : (n name : List ℕ) → is_number n ≡ true → is_plain name ≡ true → outcome_of (codes "refused" ∷ n ∷ name ∷ []) ≡ Some (Refused n name)
refused_says n name a b = rw (a, b) refl

-- ---- messages

port_text_is : (moment port spelt whole : List ℕ) → port ++ spelt ≡ whole
    → moment ++ (((codes " port " ++ port) ++ spelt) ++ codes "\n") ≡ (moment ++ (codes " port " ++ whole)) ++ 10 ∷ []
port_text_is moment port spelt whole e =
    ap (λ x. moment ++ (codes " port " ++ (x ++ codes "\n"))) e
    ∙ sym (append_assoc moment (codes " port " ++ whole) (10 ∷ []))

pub delivery_kept : (moment port : ℕ) (m : List ℕ) → moment < 2 ^ 64 → port < 2 ^ 64 → is_bytes m ≡ true → IsWrittenAs (delivery_line moment port m) (Delivery (arrived moment port m))
delivery_kept moment port m hm hp hb =
    let s = spelled m hb in
    written_as (delivery_line moment port m) (decimal moment) (codes "port" ∷ decimal port ∷ map hex_word m) (Delivery (arrived moment port m))
    (port_text_is (decimal moment) (decimal port) (spaced_hex m) (joined (decimal port ∷ map hex_word m)) (s.text (decimal port)))
    (and_true (is_plain (decimal moment)) _ (is_plain-decimal moment hm) (and_true (is_plain (decimal port)) (are_plain (map hex_word m)) (is_plain-decimal port hp) s.plain))
    (delivery_says (decimal moment) (decimal port) (map hex_word m) m (is_number-decimal moment hm) (is_number-decimal port hp) s.bytes)

pub got_kept : (moment port : ℕ) (m : List ℕ) → moment < 2 ^ 64 → port < 2 ^ 64 → is_bytes m ≡ true → IsWrittenAs (got_line moment port m) (Received (arrived moment port m))
got_kept moment port m hm hp hb =
    let s = spelled m hb in
    written_as (got_line moment port m) (codes "got") (decimal moment ∷ codes "port" ∷ decimal port ∷ map hex_word m) (Received (arrived moment port m))
    (ap (λ x. codes "got " ++ x) (port_text_is (decimal moment) (decimal port) (spaced_hex m) (joined (decimal port ∷ map hex_word m)) (s.text (decimal port))))
    (and_true (is_plain (decimal moment)) _ (is_plain-decimal moment hm) (and_true (is_plain (decimal port)) (are_plain (map hex_word m)) (is_plain-decimal port hp) s.plain))
    (got_says (decimal moment) (decimal port) (map hex_word m) m (is_number-decimal moment hm) (is_number-decimal port hp) s.bytes)

pub skip_kept : (line : ℕ) (reason : List ℕ) → line < 2 ^ 64 → is_plain reason ≡ true → IsWrittenAs (skip_line line reason) (Skip (decimal line) reason)
skip_kept line reason hl hr =
    written_as (skip_line line reason) (codes "skip") (decimal line ∷ reason ∷ []) (Skip (decimal line) reason)
    (ap (λ x. codes "skip " ++ (x ++ 10 ∷ [])) (append_assoc (decimal line) (codes " ") reason))
    (and_true (is_plain (decimal line)) _ (is_plain-decimal line hl) (and_true (is_plain reason) true hr refl))
    (skip_says (decimal line) reason (is_number-decimal line hl) hr)

-- ---- replies

spaced : (a x b y d : List ℕ) → (((a ++ x) ++ b) ++ y) ++ d ≡ a ++ (x ++ (b ++ (y ++ d)))
spaced a x b y d = simp append_assoc

-- a text that is this word is as plain as the word
plain_word : (w v : List ℕ) → bytes_eq w v ≡ true → is_plain v ≡ true → is_plain w ≡ true
plain_word w v e plain = ap is_plain ((bytes_eq-Decides w v).0 e) ∙ plain

state_is_plain : (w : List ℕ) → is_queue_state w ≡ true → is_plain w ≡ true
state_is_plain w e = go (is_word w (codes "running")) refl e
  where
    go : (t : Bool) → is_word w (codes "running") ≡ t → t || is_word w (codes "stopped") ≡ true → is_plain w ≡ true
    go true q h = plain_word w (codes "running") q refl
    go false q h = plain_word w (codes "stopped") h refl

module _ (moment line : ℕ) (hm : moment < 2 ^ 64) (hl : line < 2 ^ 64) where
  reply_kept : (ended : List ℕ) (rest : List (List ℕ)) (o : Outcome) → decimal line ++ ended ≡ joined (decimal line ∷ rest) → are_plain rest ≡ true → outcome_of rest ≡ Some o
      → IsWrittenAs (reply_line moment line ended) (replied moment line o)
  reply_kept ended rest o e plain says =
      written_as (reply_line moment line ended) (decimal moment) (codes "line" ∷ decimal line ∷ rest) (replied moment line o)
      (ap (λ x. x ++ 10 ∷ []) (
      append_assoc (decimal moment ++ codes " line ") (decimal line) ended
      ∙ append_assoc (decimal moment) (codes " line ") (decimal line ++ ended)
      ∙ ap (λ x. decimal moment ++ (codes " line " ++ x)) e))
      (and_true (is_plain (decimal moment)) _ (is_plain-decimal moment hm) (and_true (is_plain (decimal line)) (are_plain rest) (is_plain-decimal line hl) plain))
      (reply_says (decimal moment) (decimal line) rest o (is_number-decimal moment hm) (is_number-decimal line hl) says)

  pub done_kept : IsWrittenAs (reply_line moment line (codes " ok")) (replied moment line Done)
  done_kept = reply_kept (codes " ok") (codes "ok" ∷ []) Done refl refl refl

  pub count_kept : (n : ℕ) → n < 2 ^ 64 → IsWrittenAs (reply_line moment line (count_text n)) (replied moment line (Count (decimal n)))
  count_kept n h =
      reply_kept (count_text n) (codes "ok" ∷ decimal n ∷ []) (Count (decimal n)) refl
      (and_true (is_plain (decimal n)) true (is_plain-decimal n h) refl) (count_says (decimal n) (is_number-decimal n h))

  pub queue_kept : (state : List ℕ) (tick nanos : ℕ) → is_queue_state state ≡ true → tick < 2 ^ 64 → nanos < 2 ^ 64
      → IsWrittenAs (reply_line moment line (queue_text state tick nanos)) (replied moment line (Queue state (decimal tick) (decimal nanos)))
  queue_kept state tick nanos hs ht hn =
      reply_kept (queue_text state tick nanos) (codes "ok" ∷ state ∷ decimal tick ∷ decimal nanos ∷ []) (Queue state (decimal tick) (decimal nanos))
      (ap (λ x. decimal line ++ (codes " ok " ++ x)) (spaced state (codes " ") (decimal tick) (codes " ") (decimal nanos)))
      (and_true (is_plain state) _ (state_is_plain state hs) (and_true (is_plain (decimal tick)) _ (is_plain-decimal tick ht) (and_true (is_plain (decimal nanos)) true (is_plain-decimal nanos hn) refl)))
      (queue_says state (decimal tick) (decimal nanos) hs (is_number-decimal tick ht) (is_number-decimal nanos hn))

  pub pools_kept : (waiting lost used : ℕ) → waiting < 2 ^ 64 → lost < 2 ^ 64 → used < 2 ^ 64
      → IsWrittenAs (reply_line moment line (pools_text waiting lost used)) (replied moment line (Pools (decimal waiting) (decimal lost) (decimal used)))
  pools_kept waiting lost used hw ht hu =
      reply_kept (pools_text waiting lost used) (codes "ok" ∷ codes "waiting" ∷ decimal waiting ∷ codes "lost" ∷ decimal lost ∷ codes "used" ∷ decimal used ∷ [])
      (Pools (decimal waiting) (decimal lost) (decimal used))
      (ap (λ x. decimal line ++ (codes " ok waiting " ++ x)) (spaced (decimal waiting) (codes " lost ") (decimal lost) (codes " used ") (decimal used)))
      (and_true (is_plain (decimal waiting)) _ (is_plain-decimal waiting hw) (and_true (is_plain (decimal lost)) _ (is_plain-decimal lost ht) (and_true (is_plain (decimal used)) true (is_plain-decimal used hu) refl)))
      (pools_says (decimal waiting) (decimal lost) (decimal used) (is_number-decimal waiting hw) (is_number-decimal lost ht) (is_number-decimal used hu))

  pub refused_kept : (n : ℕ) (name : List ℕ) → n < 2 ^ 64 → is_plain name ≡ true → IsWrittenAs (reply_line moment line (refused_text n name)) (replied moment line (Refused (decimal n) name))
  refused_kept n name h hp =
      reply_kept (refused_text n name) (codes "refused" ∷ decimal n ∷ name ∷ []) (Refused (decimal n) name)
      (ap (λ x. decimal line ++ (codes " refused " ++ x)) (append_assoc (decimal n) (codes " ") name))
      (and_true (is_plain (decimal n)) _ (is_plain-decimal n h) (and_true (is_plain name) true hp refl))
      (refused_says (decimal n) name (is_number-decimal n h) hp)
