-- Exclusive messages, read as a whole.
use Rattle.std.proofs.Common.{◌≡◌, ℕ, ◌+◌, ◌≤◌, ◌<◌, zero, suc, List, [], ◌∷◌, ◌++◌, length, take, drop, get_or, refl, sym, ap, subst, ◌∙◌, arith, append-nil, append_assoc, length-drop}
use Rattle.std.specs.Prelude.{IsTrue, if◌then◌else◌, cond, not, false}
use Rattle.std.specs.List.{position_or_len}
use Rattle.std.proofs.Math.Seq.{take-suc, take-add}
use Rattle.std.proofs.lemmas.Bool.{le-leb, lt-leb, lt-ltb, ltb-true}
use Rattle.std.proofs.lemmas.List.{drop-drop, length-take-le, take-append-drop}
use Rattle.midi_wire.specs.Messages.{Exclusive, all_data, is_message, is_status, exclusive_message}
use Rattle.midi_wire.specs.Parsing.{data_in, message_in, GainsPrefix, IsExclusiveFront}
use Rattle.midi_wire.specs.Readings.{reading, rest, too_long}
use Rattle.midi_wire.proofs.Table.{begins-F0}
use Rattle.midi_wire.proofs.Written.{and_true}
use Rattle.midi_wire.proofs.AllRead.{message-by}
use Rattle.midi_wire.proofs.MessageTests.{message-test, and_both}
use Rattle.midi_wire.proofs.Settled.{AllData, IsBlockStatus, reads-in-two, rests-in-two}
use Rattle.midi_wire.proofs.Machine.{status-reading, status-rest, end-rest, reading-on, rest-on}
use Rattle.midi_wire.proofs.Calls.{begin-by-reading, begin-by-rest, collecting-reading, collecting-rest, data-taken, end-exclusive}
use Rattle.midi_wire.proofs.Outcomes.{prefix-of-first}

-- data, and not too much, makes a message
pub exclusive-sound : (d : List ℕ) → IsTrue (all_data d) → length d ≤ 65536 → IsTrue (is_message (exclusive_message d))
exclusive-sound d p l = message-test (exclusive_message d) (message-by Exclusive 240 (d ++ 247 ∷ []) begins-F0 (d, refl, p, l))

all-data : (d : List ℕ) → IsTrue (all_data d) → AllData d
all-data [] p = tt
all-data (b ∷ d) p = let q = and_true _ (all_data d) p in (ltb-true b 128 q.0, all-data d q.1)

f0_status : IsBlockStatus 240
f0_status = record { high = omega arith; low = omega arith }

begun-rest : rest (240 ∷ []) ≡ 240 ∷ []
begun-rest = begin-by-rest 240 Exclusive (omega arith) (omega arith) begins-F0

begun-reading : reading (240 ∷ []) ≡ []
begun-reading = begin-by-reading 240 Exclusive (omega arith) (omega arith) begins-F0

-- F0 and its data
front-reading : (d : List ℕ) → IsTrue (all_data d) → reading (240 ∷ d) ≡ []
front-reading d p = collecting-reading (240 ∷ []) [] d refl (omega arith) begun-rest (all-data d p)

front-rest : (d : List ℕ) → IsTrue (all_data d) → length d ≤ 65536 → rest (240 ∷ d) ≡ 240 ∷ d
front-rest d p l =
    collecting-rest (240 ∷ []) [] d refl (omega arith) begun-rest (all-data d p)
    ∙ ap (λ t. 240 ∷ (if t then d else too_long)) (le-leb (length d) 65536 l)

message-reading : (d : List ℕ) → IsTrue (all_data d) → length d ≤ 65536 → reading (exclusive_message d) ≡ exclusive_message d ∷ []
message-reading d p l =
    reads-in-two (240 ∷ d) (247 ∷ [])
    ∙ ap (λ ms. ms ++ reading (rest (240 ∷ d) ++ 247 ∷ [])) (front-reading d p)
    ∙ ap (λ u. reading (u ++ 247 ∷ [])) (front-rest d p l)
    ∙ end-exclusive (240 ∷ d) d refl (front-rest d p l) (le-leb (length d) 65536 l)

message-rest : (d : List ℕ) → IsTrue (all_data d) → length d ≤ 65536 → rest (exclusive_message d) ≡ []
message-rest d p l = end-rest (240 ∷ d) (front-rest d p l)

-- after what is held
pub exclusive-reading : (v d : List ℕ) → rest v ≡ v → IsTrue (all_data d) → length d ≤ 65536 → reading (v ++ exclusive_message d) ≡ reading (v ++ 247 ∷ []) ++ (exclusive_message d ∷ [])
exclusive-reading v d h p l =
    ap (λ u. reading u) (sym (append_assoc v (240 ∷ []) (d ++ 247 ∷ [])))
    ∙ reads-in-two (v ++ 240 ∷ []) (d ++ 247 ∷ [])
    ∙ ap (λ ms. ms ++ reading (rest (v ++ 240 ∷ []) ++ (d ++ 247 ∷ []))) (status-reading v 240 h f0_status ∙ ap (λ ms. reading (v ++ 247 ∷ []) ++ ms) begun-reading ∙ append-nil (reading (v ++ 247 ∷ [])))
    ∙ ap (λ u. reading (v ++ 247 ∷ []) ++ reading (u ++ (d ++ 247 ∷ []))) (status-rest v 240 h f0_status ∙ begun-rest)
    ∙ ap (λ ms. reading (v ++ 247 ∷ []) ++ ms) (message-reading d p l)

pub exclusive-rest : (v d : List ℕ) → rest v ≡ v → IsTrue (all_data d) → length d ≤ 65536 → rest (v ++ exclusive_message d) ≡ []
exclusive-rest v d h p l =
    ap (λ u. rest u) (sym (append_assoc v (240 ∷ []) (d ++ 247 ∷ [])))
    ∙ rests-in-two (v ++ 240 ∷ []) (d ++ 247 ∷ [])
    ∙ ap (λ u. rest (u ++ (d ++ 247 ∷ []))) (status-rest v 240 h f0_status ∙ begun-rest)
    ∙ message-rest d p l

-- ---- where one stands first

low-data : (d : List ℕ) → AllData d → IsTrue (all_data d)
low-data [] p = refl
low-data (b ∷ d) p = and_both _ (all_data d) (lt-ltb b 128 p.0) (low-data d p.1)

two-more : (n : ℕ) → n + 2 ≡ suc (suc n)
two-more n = omega arith

pub front-of : (s d : List ℕ) (n : ℕ) → 1 ≤ length s → d ≡ drop 1 s → get_or s 0 0 ≡ 240 → n ≡ position_or_len is_status d → n < length d → get_or d n 0 ≡ 247 → IsExclusiveFront s n
front-of [] d n o e f p w g = absurd (omega arith)
front-of (a ∷ s) d n o e f p w g =
    let short : n < length s = subst (λ (xs : List ℕ). n < length xs) e w in
    let last : get_or s n 0 ≡ 247 = subst (λ (xs : List ℕ). get_or xs n 0 ≡ 247) e g in
    let low : AllData (take n s) = data-taken s n (subst (λ (xs : List ℕ). n ≡ position_or_len is_status xs) e p) in (
      ap (λ k. take k (a ∷ s)) (two-more n) ∙ ap (λ b. b ∷ take (suc n) s) f ∙ ap (λ xs. 240 ∷ xs) (take-suc s n 0 short ∙ ap (λ b. take n s ++ b ∷ []) last),
      low-data (take n s) low,
      omega arith,
    )

-- what tells that one stands there
pub record AtFront (d : List ℕ) (n : ℕ) : Type 0 where
  pub first : n ≡ position_or_len is_status d
  pub within : n < length d
  pub last : get_or d n 0 ≡ 247

one-more : (n : ℕ) → 1 + n ≡ suc n
one-more n = omega arith

status-at : (d : List ℕ) (n : ℕ) → IsTrue (all_data (take n d)) → take (suc n) d ≡ take n d ++ 247 ∷ [] → AtFront d n
status-at [] zero p e = cc
status-at [] (suc n) p e = cc
status-at (b ∷ d) zero p e =
    let end : b ≡ 247 = ap (λ xs. get_or xs 0 0) e in
    record { first = subst (λ x. 0 ≡ position_or_len is_status (x ∷ d)) (sym end) refl; within = omega arith; last = end }
status-at (b ∷ d) (suc n) p e =
    let low = and_true _ (all_data (take n d)) p in
    let below : is_status b ≡ false = lt-leb 128 b (ltb-true b 128 low.0) in
    let further : AtFront d n = status-at d n low.1 (ap (λ xs. drop 1 xs) e) in
    record {
      first = sym (ap (λ t. cond (not t) (1 + position_or_len is_status d) 0) below ∙ ap (λ k. 1 + k) (sym further.first) ∙ one-more n);
      within = omega (arith, further.within);
      last = further.last;
    }

-- so it ends at the first status
pub front-end : (s d : List ℕ) (m n : ℕ) → d ≡ drop 1 s → m ≡ position_or_len is_status d → IsExclusiveFront s n → AtFront d m
front-end [] d m n e q f = absurd (omega (arith, f.2))
front-end (a ∷ s) d m n e q f =
    let whole : take (suc (suc n)) (a ∷ s) ≡ 240 ∷ take n s ++ 247 ∷ [] = ap (λ k. take k (a ∷ s)) (sym (two-more n)) ∙ f.0 in
    let at : AtFront d n = subst (λ xs. AtFront xs n) (sym e) (status-at s n f.1 (ap (λ xs. drop 1 xs) whole)) in
    subst (λ k. AtFront d k) (at.first ∙ sym q) at

-- where it stands further on, among bytes that are the same
pub record SharedFront (s items : List ℕ) (at n : ℕ) : Type 0 where
  pub within : at + 1 + n ≤ length items
  pub low : IsTrue (all_data (data_in (at + 1) n items))
  pub whole : message_in (at + 1) n items ≡ take (n + 2) (drop at s)
  pub taken : at + (n + 2) ≤ length s

pub shared-front : (s items : List ℕ) (at n : ℕ) → items ≡ s → at ≤ length s → IsExclusiveFront (drop at s) n → SharedFront s items at n
shared-front s items at n e l f =
    let there : drop 1 (drop at s) ≡ drop (at + 1) items = drop-drop 1 at s ∙ ap (λ xs. drop (at + 1) xs) (sym e) in
    let fits : n + 2 ≤ length (drop at s) = f.2 in
    let more : at + (n + 2) ≤ length s = omega (arith, length-drop at s) in
    record {
      within = subst (λ xs. at + 1 + n ≤ length xs) (sym e) (omega arith);
      low = subst (λ xs. IsTrue (all_data (take n xs))) there f.1;
      whole = ap (λ xs. 240 ∷ take n xs ++ 247 ∷ []) (sym there) ∙ sym f.0;
      taken = more;
    }

-- so few data bytes are not too many
pub few-data : (items : List ℕ) (from n : ℕ) → from + n ≤ length items → length items ≤ 128 → length (data_in from n items) ≤ 65536
few-data items from n w f =
    let there : n ≤ length (drop from items) = omega (arith, length-drop from items) in
    let all : length (take n (drop from items)) ≡ n = length-take-le n (drop from items) there in
    omega arith

-- ---- some bytes, and some more

pub more-reading : (v w s : List ℕ) (n k : ℕ) → w ≡ rest (v ++ take n s) → reading (v ++ take (n + k) s) ≡ reading (v ++ take n s) ++ reading (w ++ take k (drop n s))
more-reading v w s n k e =
    ap (λ u. reading (v ++ u)) (take-add n k s) ∙ reading-on v (take n s) (take k (drop n s))
    ∙ ap (λ u. reading (v ++ take n s) ++ reading (u ++ take k (drop n s))) (sym e)

pub more-rest : (v w s : List ℕ) (n k : ℕ) → w ≡ rest (v ++ take n s) → rest (v ++ take (n + k) s) ≡ rest (w ++ take k (drop n s))
more-rest v w s n k e =
    ap (λ u. rest (v ++ u)) (take-add n k s) ∙ rest-on v (take n s) (take k (drop n s))
    ∙ ap (λ u. rest (u ++ take k (drop n s))) (sym e)

-- a prefix of what the bytes give that follow, after what the first gave
pub gains-after : (old mid new : List (List ℕ)) (v w s m : List ℕ) (n k : ℕ) → mid ≡ old ++ reading (v ++ take n s) → w ≡ rest (v ++ take n s) → m ≡ take k (drop n s) → GainsPrefix mid new (reading (w ++ m)) → GainsPrefix old new (reading (v ++ s))
gains-after old mid new v w s m n k e f g p =
    let first : List (List ℕ) = reading (v ++ take n s) in
    let q : GainsPrefix mid new (reading (w ++ drop n s)) = prefix-of-first mid new w m (drop k (drop n s)) (drop n s) (sym (take-append-drop k (drop n s)) ∙ ap (λ u. u ++ drop k (drop n s)) (sym g)) p in
    record {
      gained = first ++ q.gained;
      missing = q.missing;
      now = q.now ∙ ap (λ ms. ms ++ q.gained) e ∙ append_assoc old first q.gained;
      whole = ap (λ u. reading (v ++ u)) (sym (take-append-drop n s)) ∙ reading-on v (take n s) (drop n s)
          ∙ ap (λ u. first ++ reading (u ++ drop n s)) (sym f) ∙ ap (λ ms. first ++ ms) q.whole ∙ sym (append_assoc first q.gained q.missing);
    }
