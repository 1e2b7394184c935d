-- No fault of bytes is out of memory.
use Rattle.std.proofs.Common.{◌≡◌, ◌≢◌, ℕ, ◌+◌, ◌-◌, ◌/◌, ◌%◌, Bool, true, false, not, List, length, drop, sym, inl, inr}
use Rattle.std.specs.Prelude.{Result, Ok, Err, nat_le, ◌==◌, ◌&&◌, codes}
use Rattle.byteorder.specs.Endian.{big_number}
use Rattle.smf_grammar.specs.Outcomes.{◌>>=◌, fault_unless}
use Rattle.smf_grammar.specs.declared.fault.SmfFault.{SmfFault}
use Rattle.smf_grammar.specs.declared.fault.SmfFault.TheVariants.{NotMidi, ShortHeader, UnknownFormat, Format2, BadTrackCount, ZeroDivision, SmpteDivision, DropFrame, TooLarge, OutOfMemory}
use Rattle.smf_grammar.specs.declared.fault.PairFault.{PairFault}
use Rattle.smf_grammar.specs.declared.fault.PairFault.TheVariants as pair_fault
use Rattle.smf_grammar.specs.declared.fault.ChunkFault.{ChunkFault}
use Rattle.smf_grammar.specs.declared.fault.ChunkFault.TheVariants as chunk_fault
use Rattle.smf_grammar.specs.Chunks.{Header, most_bytes, starts, is_track_count, is_frame_division, is_whole_rate, is_long_enough, header_of, header_at, Chunk, chunk_at}
use Rattle.smf_grammar.specs.Files.{fault_of_pair, IsChunkFault}
use Rattle.smf_grammar.specs.Laws.{FaultsOfBytes}

abbrev Never : {A : Type 0} → Result A SmfFault → Type 0
Never r = r ≡ Err OutOfMemory → ⊥

never-ok : {A : Type 0} (x : A) → Never (Ok x)
never-ok x e = cc

never-bind : {A B : Type 0} (r : Result A SmfFault) (f : A → Result B SmfFault) → Never r → ((x : A) → Never (f x)) → Never (r >>= f)
never-bind (Ok x) f h k e = k x e
never-bind {A = A} (Err y) f h k e = let same : ◌≡◌ {A = Result A SmfFault} (Err y) (Err OutOfMemory) = cc in h same

never-seven : (a b c d e f g : Bool) (h : Header) → Never (fault_unless a UnknownFormat (fault_unless b Format2 (fault_unless c BadTrackCount (fault_unless d ZeroDivision (fault_unless e DropFrame (fault_unless f SmpteDivision (fault_unless g ZeroDivision (Ok h))))))))
never-seven false b c d e f g h x = cc
never-seven true false c d e f g h x = cc
never-seven true true false d e f g h x = cc
never-seven true true true false e f g h x = cc
never-seven true true true true false f g h x = cc
never-seven true true true true true false g h x = cc
never-seven true true true true true true false h x = cc
never-seven true true true true true true true h x = cc

never-header : (format tracks division : ℕ) → Never (header_of format tracks division)
unfolding header_of
never-header format tracks division =
    never-seven (nat_le format 2) (not (format == 2)) (is_track_count format tracks) (not (division == 0)) (not (is_frame_division division && division / 256 == 227)) (not (is_frame_division division && not (is_whole_rate (division / 256)))) (not (is_frame_division division && division % 256 == 0)) (record { format = format; tracks = tracks; division = division })

never-three : (a b c : Bool) (r : Result (Header × List ℕ) SmfFault) → Never r → Never (fault_unless a TooLarge (fault_unless b NotMidi (fault_unless c ShortHeader r)))
never-three false b c r h x = cc
never-three true false c r h x = cc
never-three true true false r h x = cc
never-three true true true r h x = h x

never-head : (bytes : List ℕ) → Never (header_at bytes)
unfolding header_at
never-head bytes =
    never-three (nat_le (length bytes) most_bytes) (starts (codes "MThd") bytes) (is_long_enough bytes) (header_of (big_number 2 (drop 8 bytes)) (big_number 2 (drop 10 bytes)) (big_number 2 (drop 12 bytes)) >>= λ header. Ok (header, drop (big_number 4 (drop 4 bytes)) (drop 8 bytes)))
    (never-bind (header_of (big_number 2 (drop 8 bytes)) (big_number 2 (drop 10 bytes)) (big_number 2 (drop 12 bytes))) (λ header. Ok (header, drop (big_number 4 (drop 4 bytes)) (drop 8 bytes))) (never-header (big_number 2 (drop 8 bytes)) (big_number 2 (drop 10 bytes)) (big_number 2 (drop 12 bytes))) (λ x. never-ok (x, drop (big_number 4 (drop 4 bytes)) (drop 8 bytes))))

never-told : (fault : PairFault) (track place : ℕ) → fault_of_pair fault track place ≢ OutOfMemory
never-told pair_fault.NoPair track place e = cc
never-told pair_fault.Truncated track place e = cc
never-told pair_fault.LongQuantity track place e = cc
never-told pair_fault.NoStatus track place e = cc
never-told pair_fault.BadStatus track place e = cc
never-told pair_fault.BadData track place e = cc

never-chunk : (size track : ℕ) (rest : List ℕ) (r : Result (Chunk × List ℕ) ChunkFault) → IsChunkFault size track rest r OutOfMemory → ⊥
never-chunk size track rest (Err chunk_fault.Missing) e = cc
never-chunk size track rest (Err chunk_fault.Cut) e = cc
never-chunk size track rest (Ok found) e = never-told e.1.fault track (size - length rest + 8 + (length found.0.content - length e.1.rest)) (sym e.1.told)

pub faults-of-bytes : FaultsOfBytes
faults-of-bytes bytes (inl e) = never-head bytes e
faults-of-bytes bytes (inr w) = never-chunk _ _ w.rest (chunk_at w.rest) w.next
