-- A header that was read can be written, and what was counted is what was forgiven.
use Rattle.std.proofs.Common.{◌≡◌, ◌≤◌, ℕ, suc, ◌+◌, ◌/◌, ◌%◌, Bool, true, not, List, [], ◌∷◌, ◌∙◌, length, drop, refl, arith, ap, sym, subst}
use Rattle.std.specs.Prelude.{Option, Some, None, Result, Ok, is_ok, if◌then◌else◌, nat_le, ◌==◌, ◌&&◌, codes}
use Rattle.std.proofs.lemmas.Bool.{le-leb}
use Rattle.std.proofs.lemmas.Bool.Decides.{nat_tests}
use Rattle.byteorder.specs.Endian.{big_number}
use Rattle.smf_grammar.specs.Outcomes.{◌>>=◌}
use Rattle.smf_grammar.specs.declared.fault.SmfFault.{SmfFault}
use Rattle.smf_grammar.specs.declared.fault.SmfFault.TheVariants.{NotMidi, ShortHeader, UnknownFormat, Format2, ZeroDivision, SmpteDivision, DropFrame, TooLarge}
use Rattle.smf_grammar.specs.declared.fault.SmfFault.TheVariants as fault
use Rattle.smf_grammar.specs.Chunks.{Header, most_bytes, starts, is_long_enough, is_track_count, is_frame_division, is_whole_rate, size_at, header_of, header_at}
use Rattle.smf_grammar.specs.Written.{FileRefusal, BadFormat, BadTrackCount, BadDivision, header_refusal}
use Rattle.smf_grammar.proofs.Binds.{Bound, bind-ok, unless-ok}
use Rattle.smf_mend.specs.declared.forgiven.Forgiven.{Forgiven}
use Rattle.smf_mend.specs.Forgiving.{forgiven_at}
use Rattle.smf_mend.specs.Tallies.{with_places}

-- ---- headers

abbrev of_three : ℕ → ℕ → ℕ → Header
of_three f t d = record { format = f; tracks = t; division = d }

record IsOfThree (f t d : ℕ) (h : Header) : Type 0 where
  is : of_three f t d ≡ h
  known : nat_le f 2 ≡ true
  other : not (f == 2) ≡ true
  counted : is_track_count f t ≡ true

of-three : (f t d : ℕ) (h : Header) → header_of f t d ≡ Ok h → IsOfThree f t d h
unfolding header_of
of-three f t d h e =
    let last : Result Header SmfFault = Ok (of_three f t d) in
    let a = unless-ok (nat_le f 2) UnknownFormat _ h e in
    let b = unless-ok (not (f == 2)) Format2 _ h a.1 in
    let c = unless-ok (is_track_count f t) fault.BadTrackCount _ h b.1 in
    let k = unless-ok (not (d == 0)) ZeroDivision _ h c.1 in
    let l = unless-ok (not (is_frame_division d && d / 256 == 227)) DropFrame _ h k.1 in
    let m = unless-ok (not (is_frame_division d && not (is_whole_rate (d / 256)))) SmpteDivision _ h l.1 in
    let n = unless-ok (not (is_frame_division d && d % 256 == 0)) ZeroDivision (Ok (of_three f t d)) h m.1 in
    let whole : ◌≡◌ {A = Result Header SmfFault} (Ok (of_three f t d)) (Ok h) = n.1 in
    let same : of_three f t d ≡ h = cc in
    record { is = same; known = a.0; other = b.0; counted = c.0 }

low-format : (f : ℕ) → nat_le f 2 ≡ true → not (f == 2) ≡ true → nat_le f 1 ≡ true
low-format f h k = grind (arith, nat_tests)

refusal_by : Bool → Bool → Bool → Option FileRefusal
refusal_by low counted read = if low then (if counted then (if read then None else Some BadDivision) else Some BadTrackCount) else Some BadFormat

three-written : (f t d : ℕ) (h : Header) → t ≤ 65535 → header_of f t d ≡ Ok h → header_refusal f t d ≡ None
unfolding refusal_by
three-written f t d h few e =
    let three : IsOfThree f t d h = of-three f t d h e in
    ap (λ (b : Bool). refusal_by b (is_track_count f t && nat_le t 65535) (is_ok (header_of f t d))) (low-format f three.known three.other)
    ∙ ap (λ (b : Bool). refusal_by true (b && nat_le t 65535) (is_ok (header_of f t d))) three.counted
    ∙ ap (λ (b : Bool). refusal_by true (true && b) (is_ok (header_of f t d))) (le-leb t 65535 few)
    ∙ ap (λ (r : Result Header SmfFault). refusal_by true true (is_ok r)) e

of-written : (f t d : ℕ) (h : Header) → h.tracks ≤ 65535 → header_of f t d ≡ Ok h → header_refusal h.format h.tracks h.division ≡ None
of-written f t d h few e =
    let three : IsOfThree f t d h = of-three f t d h e in
    let count : t ≡ h.tracks = ap (λ (x : Header). x.tracks) three.is in
    subst (λ (x : Header). header_refusal x.format x.tracks x.division ≡ None) three.is (three-written f t d h (omega arith) e)

pub header-written : (bytes : List ℕ) (h : Header) (after : List ℕ) → header_at bytes ≡ Ok (h, after) → h.tracks ≤ 65535 → header_refusal h.format h.tracks h.division ≡ None
unfolding header_at
header-written bytes h after e few =
    let a = unless-ok (nat_le (length bytes) most_bytes) TooLarge _ (h, after) e in
    let b = unless-ok (starts (codes "MThd") bytes) NotMidi _ (h, after) a.1 in
    let c = unless-ok (is_long_enough bytes) ShortHeader (header_of (big_number 2 (drop 8 bytes)) (big_number 2 (drop 10 bytes)) (big_number 2 (drop 12 bytes)) >>= λ header. Ok (header, drop (size_at bytes) (drop 8 bytes))) (h, after) b.1 in
    let read : Bound (header_of (big_number 2 (drop 8 bytes)) (big_number 2 (drop 10 bytes)) (big_number 2 (drop 12 bytes))) (λ header. Ok (header, drop (size_at bytes) (drop 8 bytes))) (h, after) = bind-ok _ _ _ c.1 in
    let next : ◌≡◌ {A = Result (Header × List ℕ) SmfFault} (Ok (read.value, drop (size_at bytes) (drop 8 bytes))) (Ok (h, after)) = read.next in
    let both : ◌≡◌ {A = Header × List ℕ} (read.value, drop (size_at bytes) (drop 8 bytes)) (h, after) = cc in
    let same : read.value ≡ h = ap (λ (x : Header × List ℕ). x.0) both in
    of-written (big_number 2 (drop 8 bytes)) (big_number 2 (drop 10 bytes)) (big_number 2 (drop 12 bytes)) h few (read.first ∙ ap (λ (x : Header). Ok x) same)

-- ---- what was forgiven

counted-from : (before : Forgiven) (places : List ℕ) → with_places (Some before) places ≡ Some (record { times = before.times + length places; first = before.first })
counted-from before [] = let none : before.times + 0 ≡ before.times = omega arith in ap (λ (n : ℕ). Some (record { times = n; first = before.first })) (sym none)
counted-from before (place ∷ places) =
    let one : before.times + 1 + length places ≡ before.times + suc (length places) = omega arith in
    counted-from (record { times = before.times + 1; first = before.first }) places ∙ ap (λ (n : ℕ). Some (record { times = n; first = before.first })) one

pub counted-places : (places : List ℕ) → with_places None places ≡ forgiven_at places
counted-places [] = refl
counted-places (place ∷ places) =
    let one : 1 + length places ≡ suc (length places) = omega arith in
    counted-from (record { times = 1; first = place }) places ∙ ap (λ (n : ℕ). Some (record { times = n; first = place })) one
