-- What the division of a header says.
use Rattle.std.proofs.Common.{◌≡◌, ◌≤◌, ◌<◌, ◌*◌, ◌-◌, ◌/◌, ◌%◌, inl, inr, ℕ, Bool, true, false, not, cond, List, length, drop, refl, ap, subst, arith}
use Rattle.std.specs.Prelude.{Result, Ok, Err, IsTrue, codes, nat_le, ◌==◌, ◌&&◌, if◌then◌else◌}
use Rattle.std.proofs.lemmas.Bool.{eqb-true, leb-true}
use Rattle.std.proofs.lemmas.Bool.Decides.{nat_tests}
use Rattle.std.proofs.lemmas.Nat.{mul-le}
use Rattle.tempo_clock.specs.declared.entry.TempoEntry.{TempoEntry}
use Rattle.tempo_clock.specs.Entries.{is_ppq}
use Rattle.tempo_clock.specs.Ticks.{Tempos, resolution}
use Rattle.tempo_clock.proofs.Comparisons.{both, either, joined}
use Rattle.byteorder.specs.Endian.{big_number}
use Rattle.smf_grammar.specs.Outcomes.{◌>>=◌, fault_unless}
use Rattle.smf_grammar.specs.declared.fault.SmfFault.{SmfFault}
use Rattle.smf_grammar.specs.declared.fault.SmfFault.TheVariants.{NotMidi, ShortHeader, UnknownFormat, Format2, BadTrackCount, ZeroDivision, SmpteDivision, DropFrame, TooLarge}
use Rattle.smf_grammar.specs.Chunks.{Header, most_bytes, starts, is_frame_division, is_whole_rate, is_track_count, header_of, size_at, is_long_enough, header_at}
use Rattle.smf_files.specs.Kept.{is_division}

-- ---- what a header may have

above-none : (n : ℕ) → not (n == 0) ≡ true → nat_le 1 n ≡ true
above-none n e = grind (arith, nat_tests)

is-whole : (b : Bool) → not (true && not b) ≡ true → b ≡ true
is-whole true e = refl
is-whole false e = e

tested : (frames : Bool) (division : ℕ) → is_frame_division division ≡ frames → not (division == 0) ≡ true → not (frames && not (is_whole_rate (division / 256))) ≡ true → not (frames && division % 256 == 0) ≡ true
    → (if frames then (is_whole_rate (division / 256) && nat_le 1 (division % 256)) else is_ppq division) ≡ true
tested true division is some rate ticks = joined _ _ (is-whole (is_whole_rate (division / 256)) rate) (above-none (division % 256) ticks)
tested false division is some rate ticks = joined _ _ (above-none division some) (grind (arith, nat_tests))

-- what the tests of a header tell, where all hold
passed : (known played counted some whole rate ticks : Bool) (header found : Header)
    → fault_unless known UnknownFormat (fault_unless played Format2 (fault_unless counted BadTrackCount (fault_unless some ZeroDivision (fault_unless whole DropFrame (fault_unless rate SmpteDivision (fault_unless ticks ZeroDivision (Ok header))))))) ≡ Ok found
    → (some ≡ true) × (rate ≡ true) × (ticks ≡ true) × (header ≡ found)
passed true true true true true true true header found e = (refl, refl, refl, cc)
passed true true true true true true false header found e = absurd cc
passed true true true true true false ticks header found e = absurd cc
passed true true true true false rate ticks header found e = absurd cc
passed true true true false whole rate ticks header found e = absurd cc
passed true true false some whole rate ticks header found e = absurd cc
passed true false counted some whole rate ticks header found e = absurd cc
passed false played counted some whole rate ticks header found e = absurd cc

header-of-division : (format tracks division : ℕ) (header : Header) → header_of format tracks division ≡ Ok header → IsTrue (is_division header.division)
unfolding header_of
header-of-division format tracks division header e =
    let frames : Bool = is_frame_division division in
    let told = passed (nat_le format 2) (not (format == 2)) (is_track_count format tracks) (not (division == 0)) (not (frames && division / 256 == 227))
    (not (frames && not (is_whole_rate (division / 256)))) (not (frames && division % 256 == 0)) (record { format = format; tracks = tracks; division = division }) header e in
    subst (λ (h : Header). IsTrue (is_division h.division)) told.3 (tested (is_frame_division division) division refl told.0 told.1 told.2)

-- the same of the whole header
found : (small midi long : Bool) (read : Result Header SmfFault) (after left : List ℕ) (header : Header)
    → fault_unless {A = Header × List ℕ} small TooLarge (fault_unless midi NotMidi (fault_unless long ShortHeader (read >>= λ header. Ok (header, after)))) ≡ Ok (header, left) → read ≡ Ok header
found true true true (Ok header) after left other e =
    let pair : ◌≡◌ {A = Header × List ℕ} (header, after) (other, left) = cc in
    ap (λ (p : Header × List ℕ). Ok p.0) pair
found true true true (Err fault) after left header e = absurd cc
found true true false read after left header e = absurd cc
found true false long read after left header e = absurd cc
found false midi long read after left header e = absurd cc

pub header-division : (bytes : List ℕ) (header : Header) (after : List ℕ) → header_at bytes ≡ Ok (header, after) → IsTrue (is_division header.division)
unfolding header_at
header-division bytes header after e =
    let read : header_of (big_number 2 (drop 8 bytes)) (big_number 2 (drop 10 bytes)) (big_number 2 (drop 12 bytes)) ≡ Ok header =
    found (nat_le (length bytes) most_bytes) (starts (codes "MThd") bytes) (is_long_enough bytes) (header_of (big_number 2 (drop 8 bytes)) (big_number 2 (drop 10 bytes)) (big_number 2 (drop 12 bytes)))
    (drop (size_at bytes) (drop 8 bytes)) after header e in
    header-of-division _ _ _ header read

-- ---- its ticks

below-whole : (high : ℕ) → is_whole_rate high ≡ true → high ≤ 232
below-whole high e = elim (either _ _ e) [
  | inl a ↦ let s : high ≡ 232 = eqb-true _ _ a in omega arith
  | inr b ↦ elim (either _ _ b) [
    | inl a ↦ let s : high ≡ 231 = eqb-true _ _ a in omega arith
    | inr a ↦ let s : high ≡ 226 = eqb-true _ _ a in omega arith
  ]
]

ticks-by : (frames : Bool) (m : Tempos) → is_frame_division m.division ≡ frames
    → (if frames then (is_whole_rate (m.division / 256) && nat_le 1 (m.division % 256)) else is_ppq m.division) ≡ true → 0 < cond frames ((256 - m.division / 256) * (m.division % 256)) m.division
ticks-by true m frames e =
    let parts = both (is_whole_rate (m.division / 256)) (nat_le 1 (m.division % 256)) e in
    let low : m.division / 256 ≤ 232 = below-whole (m.division / 256) parts.0 in
    let up : 24 * 1 ≤ (256 - m.division / 256) * (m.division % 256) = mul-le 24 1 (256 - m.division / 256) (m.division % 256) (omega arith) (leb-true _ _ parts.1) in
    omega arith
ticks-by false m frames e = leb-true _ _ (both (nat_le 1 m.division) (nat_le m.division 32767) e).0

-- a division has ticks
pub division-ticks : (division : ℕ) (entries : List TempoEntry) → IsTrue (is_division division) → 0 < resolution (record { division = division; entries = entries })
unfolding resolution
division-ticks division entries e = ticks-by (is_frame_division division) (record { division = division; entries = entries }) refl e
