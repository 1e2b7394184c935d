-- What is printed of a file says that file.
use Rattle.std.proofs.Common.{◌≡◌, ◌≤◌, ◌<◌, ℕ, suc, ◌+◌, ◌-◌, ◌*◌, ◌^◌, Bool, true, false, not, List, [], ◌∷◌, ◌++◌, append_assoc, append-nil, length, length-append, refl, sym, ap, ◌∙◌, subst, arith}
use Rattle.std.specs.Prelude.{if◌then◌else◌, nat_le, nat_lt, ◌==◌, ◌&&◌, ◌||◌, ◌/◌, ◌%◌, Option, Some, None, is_some, is_ok, Result, Ok, Err, codes}
use Rattle.std.specs.Fmt.{decimal}
use Rattle.std.specs.List.{AllByRecursion}
use Rattle.std.specs.Option.{option_map, option_or}
use Rattle.std.proofs.lemmas.Bool.{le-leb, eq-eqb}
use Rattle.std.proofs.lemmas.Bool.Decides.{nat_tests}
use Rattle.midi_wire.proofs.Written.{and_true}
use Rattle.script_text.specs.Words.{is_line_end, lines, without_return}
use Rattle.smf_grammar.specs.Outcomes.{◌>>=◌}
use Rattle.smf_grammar.specs.Chunks.{most_bytes, Header, header_of}
use Rattle.smf_grammar.specs.declared.fault.SmfFault.{SmfFault}
use Rattle.smf_grammar.specs.Pairs.{TrackEvent, Pair, is_end, running_after}
use Rattle.smf_grammar.specs.Seen.{is_event_sound}
use Rattle.smf_grammar.specs.Files.{MidiFile}
use Rattle.smf_grammar.specs.Texts.{shortest, chunk_text}
use Rattle.smf_grammar.specs.Written.{event_text as written_event}
use Rattle.smf_grammar.specs.Written.{header_text, FileRefusal, BadPair, is_quantity, has_bytes, can_stand, pair_text, pairs_text, tracks_text, written_file, header_refusal, refused_after_end, track_refusal, tracks_refusal, size_refusal, file_refusal}
use Rattle.smf_grammar.proofs.WrittenFile.{neither, HeaderFits, header-fits, size-small}
use Rattle.smf_text.specs.AllTexts.{event_text, pair_lines, track_lines, all_text}
use Rattle.smf_make.specs.declared.fault.MakeFault.{MakeFault}
use Rattle.smf_make.specs.declared.fault.MakeFault.TheVariants.{TooLarge, Line}
use Rattle.smf_make.specs.Laws.{MakesPrinted}
use Rattle.smf_make.specs.WrittenParts.{running_end}
use Rattle.smf_make.specs.SaidEvents.{can_head}
use Rattle.smf_make.specs.SaidFiles.{BegunFile, Unheaded, Between, Within, expected_next, front_text, begun_text, with_said_pair, with_track, with_event, limited_or, begun_with, begun_after, file_from, said_file, without_empty_last}
use Rattle.smf_make.proofs.SpelledWords.{AreFree, split-at}
use Rattle.smf_make.proofs.SpelledNumbers.{is_break}
use Rattle.smf_make.proofs.SpelledEvents.{IsLine, EventLine, event-line, TrackLine, track-line, header_line, HeaderLine, header-line}
use Rattle.smf_make.proofs.FileLines.{of_three, of-three}
use Rattle.smf_make.proofs.PairByPair.{with-pair-size, within-size, front-append}

track_chunk : List Pair → List ℕ
track_chunk ps = chunk_text (codes "MTrk") (pairs_text None ps)

-- ---- the lines of a file

pair_list : ℕ → List Pair → List (List ℕ)
pair_list tick [] = []
pair_list tick (p ∷ ps) = (decimal (tick + p.delta) ++ event_text p.event) ∷ pair_list (tick + p.delta) ps

track_list : ℕ → List (List Pair) → List (List ℕ)
track_list track [] = []
track_list track (ps ∷ tracks) = (codes "track " ++ decimal track) ∷ (pair_list 0 ps ++ track_list (suc track) tracks)

-- each line with its end
ended : List (List ℕ) → List ℕ
ended [] = []
ended (line ∷ more) = (line ++ 10 ∷ []) ++ ended more

ended-append : (ls ms : List (List ℕ)) → ended (ls ++ ms) ≡ ended ls ++ ended ms
unfolding ended
ended-append [] ms = refl
ended-append (line ∷ ls) ms = ap (λ (xs : List ℕ). (line ++ 10 ∷ []) ++ xs) (ended-append ls ms) ∙ sym (append_assoc (line ++ 10 ∷ []) (ended ls) (ended ms))

pairs-ended : (tick : ℕ) (ps : List Pair) → pair_lines tick ps ≡ ended (pair_list tick ps)
unfolding ended pair_list
pairs-ended tick [] = refl
pairs-ended tick (p ∷ ps) = ap (λ (xs : List ℕ). (decimal (tick + p.delta) ++ event_text p.event ++ 10 ∷ []) ++ xs) (pairs-ended (tick + p.delta) ps)

tracks-ended : (track : ℕ) (tracks : List (List Pair)) → track_lines track tracks ≡ ended (track_list track tracks)
unfolding ended track_list
tracks-ended track [] = refl
tracks-ended track (ps ∷ tracks) =
    ap (λ (xs : List ℕ). xs ++ track_lines (suc track) tracks) (sym (append_assoc (codes "track " ++ decimal track) (10 ∷ []) (pair_lines 0 ps)))
    ∙ append_assoc (codes "track " ++ decimal track ++ 10 ∷ []) (pair_lines 0 ps) (track_lines (suc track) tracks)
    ∙ ap (λ (xs : List ℕ). (codes "track " ++ decimal track ++ 10 ∷ []) ++ xs)
    (ap (λ (xs : List ℕ). xs ++ track_lines (suc track) tracks) (pairs-ended 0 ps) ∙ ap (λ (xs : List ℕ). ended (pair_list 0 ps) ++ xs) (tracks-ended (suc track) tracks)
    ∙ sym (ended-append (pair_list 0 ps) (track_list (suc track) tracks)))

AreUnbroken : List (List ℕ) → Type 0
AreUnbroken ls = AllByRecursion (λ l. AreFree is_break l) ls

unended : (line : List ℕ) → AreFree is_break line → AreFree is_line_end line
unended [] f = tt
unended (b ∷ line) f = (go (is_line_end b) (b == 13) f.0, unended line f.1)
  where
    go : (t u : Bool) → (t || u) ≡ false → t ≡ false
    go false u e = refl
    go true u e = let bad : ⊥ = cc in absurd bad

kept : (line : List ℕ) → AreFree is_break line → without_return line ≡ line
kept [] f = refl
kept (b ∷ []) f = ap (λ (t : Bool). if t then [] else b ∷ []) (go (is_line_end b) (b == 13) f.0)
  where
    go : (t u : Bool) → (t || u) ≡ false → u ≡ false
    go false u e = e
    go true u e = let bad : ⊥ = cc in absurd bad
kept (b ∷ c ∷ line) f = ap (λ (xs : List ℕ). b ∷ xs) (kept (c ∷ line) f.1)

lines-ended : (ls : List (List ℕ)) → AreUnbroken ls → lines (ended ls) ≡ ls ++ [] ∷ []
unfolding ended AreUnbroken
lines-ended [] f = refl
lines-ended (line ∷ ls) f =
    ap lines (append_assoc line (10 ∷ []) (ended ls)) ∙ split-at is_line_end line 10 (ended ls) (unended line f.0) refl
    ∙ ap (λ (xs : List (List ℕ)). line ∷ xs) (lines-ended ls f.1)

without-last : (ls : List (List ℕ)) → without_empty_last (ls ++ [] ∷ []) ≡ ls
without-last [] = refl
without-last (line ∷ []) = refl
without-last (line ∷ next ∷ ls) = ap (λ (xs : List (List ℕ)). line ∷ xs) (without-last (next ∷ ls))

-- ---- sizes

some-of : (a b c : Bool) (w x y z : List ℕ) → 1 ≤ length w → 1 ≤ length x → 1 ≤ length y → 1 ≤ length z → 1 ≤ length (if a then w else (if b then x else (if c then y else z)))
some-of true b c w x y z p q r s = p
some-of false true c w x y z p q r s = q
some-of false false true w x y z p q r s = r
some-of false false false w x y z p q r s = s

some-length : (n : ℕ) → 1 ≤ length (shortest n)
unfolding shortest
some-length n =
    some-of (nat_lt n 128) (nat_lt n 16384) (nat_lt n 2097152) (n ∷ []) ((128 + n / 128) ∷ n % 128 ∷ []) ((128 + n / 128 / 128) ∷ (128 + n / 128 % 128) ∷ n % 128 ∷ [])
    ((128 + n / 128 / 128 / 128) ∷ (128 + n / 128 / 128 % 128) ∷ (128 + n / 128 % 128) ∷ n % 128 ∷ []) (omega arith) (omega arith) (omega arith) (omega arith)

-- each pair has a byte or more
pairs-many : (running : Option ℕ) (ps : List Pair) → length ps ≤ length (pairs_text running ps)
pairs-many running [] = omega arith
pairs-many running (p ∷ ps) =
    let more : length ps ≤ length (pairs_text (running_after p.event) ps) = pairs-many (running_after p.event) ps in
    let one : 1 ≤ length (shortest p.delta) = some-length p.delta in
    let a = length-append (shortest p.delta) (written_event running p.event) in
    let b = length-append (pair_text running p) (pairs_text (running_after p.event) ps) in
    omega (arith, a, b, more, one)

pairs-split : (running : Option ℕ) (ps qs : List Pair) → length (pairs_text running (ps ++ qs)) ≡ length (pairs_text running ps) + length (pairs_text (running_end running ps) qs)
pairs-split running [] qs = omega arith
pairs-split running (p ∷ ps) qs =
    let more = pairs-split (running_after p.event) ps qs in
    let a = length-append (pair_text running p) (pairs_text (running_after p.event) (ps ++ qs)) in
    let b = length-append (pair_text running p) (pairs_text (running_after p.event) ps) in
    omega (arith, a, b, more)

tracks-grow : (done tracks : List (List Pair)) → length (tracks_text done) ≤ length (tracks_text (done ++ tracks))
unfolding track_chunk
tracks-grow [] tracks = omega arith
tracks-grow (ps ∷ done) tracks =
    let more = tracks-grow done tracks in
    let a = length-append (track_chunk ps) (tracks_text done) in
    let b = length-append (track_chunk ps) (tracks_text (done ++ tracks)) in
    omega (arith, a, b, more)

front-grows : (h : Header) (done tracks : List (List Pair)) → length (front_text h done) ≤ length (front_text h (done ++ tracks))
front-grows h done tracks =
    let head : List ℕ = header_text h.format h.tracks h.division in
    let more = tracks-grow done tracks in
    let a = length-append (header_text h.format h.tracks h.division) (tracks_text done) in
    let b = length-append (header_text h.format h.tracks h.division) (tracks_text (done ++ tracks)) in
    omega (arith, a, b, more)

-- ---- line by line

-- a line that says what was expected, in a file that is not too large
line-taken : (number : ℕ) (begun next : BegunFile) (line : List ℕ) (more : List (List ℕ)) (f : MidiFile) → IsLine line → begun_with begun line ≡ Some next → length (begun_text next) ≤ most_bytes → file_from (suc number) next more ≡ Ok f → file_from number begun (line ∷ more) ≡ Ok f
line-taken number begun next line more f is made small later =
    let small_is : nat_le (length (begun_text next)) most_bytes ≡ true = le-leb (length (begun_text next)) most_bytes small in
    let after : begun_after number begun line ≡ Ok next =
    ap (λ (t : Bool). if t then Ok begun else limited_or number (expected_next begun) (begun_with begun line)) is.says
    ∙ ap (limited_or number (expected_next begun)) made
    ∙ ap (λ (t : Bool). if t then Ok next else Err (TooLarge number)) small_is in
    ap (λ (xs : List ℕ). begun_after number begun xs >>= λ x. file_from (suc number) x more) (kept line is.unbroken)
    ∙ ap (λ (r : Result BegunFile MakeFault). r >>= λ x. file_from (suc number) x more) after ∙ later

-- what a track says of its first pair
record CanStand (p : Pair) : Type 0 where
  near : p.delta ≤ 268435455
  sound : is_event_sound p.event ≡ true
  counted : has_bytes p.event ≡ true

stands : (p : Pair) → can_stand p ≡ true → CanStand p
stands p h =
    let parts = and_true (is_quantity p.delta) (is_event_sound p.event && has_bytes p.event) h in
    let both = and_true (is_event_sound p.event) (has_bytes p.event) parts.1 in
    let near_is : nat_le p.delta 268435455 ≡ true = parts.0 in
    let near : p.delta ≤ 268435455 = grind (arith, nat_tests) in
    record { near = near; sound = both.0; counted = both.1 }

-- the end of a track, or a pair that others follow
data FirstPair (track at : ℕ) (p : Pair) (ps : List Pair) : Type 0 where
  Last : is_end p.event ≡ true → ps ≡ [] → FirstPair track at p ps
  Going : is_end p.event ≡ false → track_refusal track (suc at) ps ≡ None → FirstPair track at p ps

record Leads (track at : ℕ) (p : Pair) (ps : List Pair) : Type 0 where
  stand : CanStand p
  is : FirstPair track at p ps

leads : (track at : ℕ) (p : Pair) (ps : List Pair) → track_refusal track at (p ∷ ps) ≡ None → Leads track at p ps
leads track at p ps e = go (can_stand p) (is_end p.event) refl refl e
  where
    last : (qs : List Pair) → refused_after_end track at qs ≡ None → qs ≡ []
    last [] h = refl
    last (q ∷ qs) h = let bad : ⊥ = cc in absurd bad

    go : (t u : Bool) → can_stand p ≡ t → is_end p.event ≡ u → (if t then (if u then refused_after_end track at ps else track_refusal track (suc at) ps) else Some (BadPair track at)) ≡ None → Leads track at p ps
    go false u can ends h = let bad : ⊥ = cc in absurd bad
    go true true can ends h = record { stand = stands p can; is = Last ends (last ps h) }
    go true false can ends h = record { stand = stands p can; is = Going ends h }

-- ---- the pairs of a track

made : Header → List (List Pair) → List Pair → ℕ → ℕ × TrackEvent → BegunFile
made h done ps last e = with_said_pair h done ps e.0 (record { delta = e.0 - last; event = e.1 })

event-made : (h : Header) (done : List (List Pair)) (ps : List Pair) (last : ℕ) (p : Pair) → p.delta ≤ 268435455 → with_event h done ps last (Some (last + p.delta, p.event)) ≡ Some (with_said_pair h done ps (last + p.delta) p)
unfolding made
event-made h done ps last p near =
    let same : last + p.delta - last ≡ p.delta = omega arith in
    let rises : nat_le last (last + p.delta) ≡ true = le-leb last (last + p.delta) (omega arith) in
    let reaches : nat_le (last + p.delta - last) 268435455 ≡ true = le-leb (last + p.delta - last) 268435455 (omega arith) in
    ap (λ (t : Bool). option_map (made h done ps last) (if t && nat_le (last + p.delta - last) 268435455 then Some (last + p.delta, p.event) else None)) rises
    ∙ ap (λ (t : Bool). option_map (made h done ps last) (if true && t then Some (last + p.delta, p.event) else None)) reaches
    ∙ ap (λ (n : ℕ). Some (with_said_pair h done ps (last + p.delta) (record { delta = n; event = p.event }))) same

after-pair : (h : Header) (done : List (List Pair)) (f : MidiFile) (more : List (List ℕ)) (track at : ℕ) (ps : List Pair) (p : Pair) (qs : List Pair) (tick : ℕ) → FirstPair track at p qs →
    ((n : ℕ) → file_from n (Between h (done ++ (ps ++ p ∷ qs) ∷ [])) more ≡ Ok f) →
    (track_refusal track (suc at) qs ≡ None → (n : ℕ) → file_from n (Within h done (ps ++ p ∷ []) tick) (pair_list tick qs ++ more) ≡ Ok f) →
    (number : ℕ) → file_from number (with_said_pair h done ps tick p) (pair_list tick qs ++ more) ≡ Ok f
unfolding pair_list
after-pair h done f more track at ps p qs tick (Last ends none) later again number =
    ap (λ (t : Bool). file_from number (if t then Between h (done ++ (ps ++ p ∷ []) ∷ []) else Within h done (ps ++ p ∷ []) tick) (pair_list tick qs ++ more)) ends
    ∙ ap (λ (xs : List Pair). file_from number (Between h (done ++ (ps ++ p ∷ []) ∷ [])) (pair_list tick xs ++ more)) none
    ∙ sym (ap (λ (xs : List Pair). file_from number (Between h (done ++ (ps ++ p ∷ xs) ∷ [])) more) none) ∙ later number
after-pair h done f more track at ps p qs tick (Going ends rest) later again number =
    ap (λ (t : Bool). file_from number (if t then Between h (done ++ (ps ++ p ∷ []) ∷ []) else Within h done (ps ++ p ∷ []) tick) (pair_list tick qs ++ more)) ends ∙ again rest number

pairs-run : (h : Header) (done : List (List Pair)) (f : MidiFile) (more : List (List ℕ)) (track at : ℕ) (ps qs : List Pair) (last : ℕ) → track_refusal track at qs ≡ None → last + length qs * 2 ^ 28 ≤ 2 ^ 63 →
    length (front_text h done) + 8 + length (pairs_text None (ps ++ qs)) ≤ most_bytes →
    ((n : ℕ) → file_from n (Between h (done ++ (ps ++ qs) ∷ [])) more ≡ Ok f) →
    (number : ℕ) → file_from number (Within h done ps last) (pair_list last qs ++ more) ≡ Ok f
unfolding pair_list
pairs-run h done f more track at ps [] last refused early small later number = let bad : ⊥ = cc in absurd bad
pairs-run h done f more track at ps (p ∷ qs) last refused early small later number =
    let lead : Leads track at p qs = leads track at p qs refused in
    let near : p.delta ≤ 268435455 = lead.stand.near in
    let whole : (ps ++ p ∷ []) ++ qs ≡ ps ++ p ∷ qs = append_assoc ps (p ∷ []) qs in
    let line : EventLine (last + p.delta) p.event = event-line (last + p.delta) p.event (omega arith) lead.stand.sound lead.stand.counted in
    let made : begun_with (Within h done ps last) (decimal (last + p.delta) ++ event_text p.event) ≡ Some (with_said_pair h done ps (last + p.delta) p) = ap (with_event h done ps last) line.read ∙ event-made h done ps last p near in
    let size = with-pair-size h done ps (last + p.delta) p in
    let split = pairs-split None (ps ++ p ∷ []) qs in
    let total : length (pairs_text None ((ps ++ p ∷ []) ++ qs)) ≡ length (pairs_text None (ps ++ p ∷ qs)) = ap (λ (xs : List Pair). length (pairs_text None xs)) whole in
    let fits : length (begun_text (with_said_pair h done ps (last + p.delta) p)) ≤ most_bytes = omega (arith, size, split, total) in
    line-taken number (Within h done ps last) (with_said_pair h done ps (last + p.delta) p) (decimal (last + p.delta) ++ event_text p.event) (pair_list (last + p.delta) qs ++ more) f line.line made fits
    (after-pair h done f more track at ps p qs (last + p.delta) lead.is later
    (λ rest. pairs-run h done f more track (suc at) (ps ++ p ∷ []) qs (last + p.delta) rest (omega arith) (omega (arith, total)) (λ n. ap (λ (xs : List Pair). file_from n (Between h (done ++ xs ∷ [])) more) whole ∙ later n)) (suc number))

pairs-unbroken : (track at : ℕ) (qs : List Pair) (last : ℕ) → track_refusal track at qs ≡ None → last + length qs * 2 ^ 28 ≤ 2 ^ 63 → AreUnbroken (pair_list last qs)
unfolding pair_list AreUnbroken
pairs-unbroken track at [] last refused early = tt
pairs-unbroken track at (p ∷ qs) last refused early =
    let lead : Leads track at p qs = leads track at p qs refused in
    let near : p.delta ≤ 268435455 = lead.stand.near in
    let line : EventLine (last + p.delta) p.event = event-line (last + p.delta) p.event (omega arith) lead.stand.sound lead.stand.counted in
    (line.line.unbroken, go lead.is (λ rest. pairs-unbroken track (suc at) qs (last + p.delta) rest (omega arith)))
  where
    go : FirstPair track at p qs → (track_refusal track (suc at) qs ≡ None → AllByRecursion (λ l. AreFree is_break l) (pair_list (last + p.delta) qs)) → AllByRecursion (λ l. AreFree is_break l) (pair_list (last + p.delta) qs)
    go (Last ends none) again = subst (λ (xs : List Pair). AllByRecursion (λ l. AreFree is_break l) (pair_list (last + p.delta) xs)) (sym none) tt
    go (Going ends rest) again = again rest

-- ---- the tracks

-- what is known of a track and of those behind it
record FirstTrack (h : Header) (done : List (List Pair)) (ps : List Pair) (tracks : List (List Pair)) (k : ℕ) : Type 0 where
  good : track_refusal k 0 ps ≡ None
  others : tracks_refusal (suc k) tracks ≡ None
  small : length (front_text h done) + 8 + length (pairs_text None ps) ≤ most_bytes
  early : 0 + length ps * 2 ^ 28 ≤ 2 ^ 63
  whole : (done ++ ps ∷ []) ++ tracks ≡ done ++ ps ∷ tracks

track-first : (h : Header) (done : List (List Pair)) (ps : List Pair) (tracks : List (List Pair)) (k : ℕ) → tracks_refusal k (ps ∷ tracks) ≡ None → length (front_text h (done ++ ps ∷ tracks)) ≤ most_bytes → FirstTrack h done ps tracks k
track-first h done ps tracks k refused small =
    let parts = neither (track_refusal k 0 ps) (tracks_refusal (suc k) tracks) refused in
    let whole : (done ++ ps ∷ []) ++ tracks ≡ done ++ ps ∷ tracks = append_assoc done (ps ∷ []) tracks in
    let grows = front-grows h (done ++ ps ∷ []) tracks in
    let total : length (front_text h ((done ++ ps ∷ []) ++ tracks)) ≡ length (front_text h (done ++ ps ∷ tracks)) = ap (λ (xs : List (List Pair)). length (front_text h xs)) whole in
    let size : length (front_text h (done ++ ps ∷ [])) ≡ length (front_text h done) + 8 + length (pairs_text None ps) = ap length (front-append h done ps) ∙ within-size h done ps in
    let many = pairs-many None ps in
    record { good = parts.0; others = parts.1; small = omega (arith, grows, total, size); early = omega (arith, grows, total, size, many); whole = whole }

track-made : (h : Header) (done : List (List Pair)) → length done < h.tracks → with_track h done (Some (length done)) ≡ Some (Within h done [] 0)
track-made h done fewer =
    let less : nat_lt (length done) h.tracks ≡ true = grind (arith, nat_tests) in
    ap (λ (t : Bool). option_map (λ (k : ℕ). Within h done [] 0) (if t && (length done == length done) then Some (length done) else None)) less
    ∙ ap (λ (t : Bool). option_map (λ (k : ℕ). Within h done [] 0) (if true && t then Some (length done) else None)) (eq-eqb (length done) (length done) refl)

tracks-run : (h : Header) (done tracks : List (List Pair)) (k : ℕ) → k ≡ length done → tracks_refusal k tracks ≡ None → length done + length tracks ≡ h.tracks → h.tracks ≤ 65535 → length (front_text h (done ++ tracks)) ≤ most_bytes →
    (number : ℕ) → file_from number (Between h done) (track_list k tracks) ≡ Ok (record { format = h.format; division = h.division; tracks = done ++ tracks })
unfolding track_list
tracks-run h done [] k at refused counted few small number =
    ap (λ (t : Bool). if t then Ok (record { format = h.format; division = h.division; tracks = done }) else Err (Line number (expected_next (Between h done)))) (eq-eqb (length done) h.tracks (omega arith))
    ∙ ap (λ (xs : List (List Pair)). Ok (record { format = h.format; division = h.division; tracks = xs })) (sym (append-nil done))
tracks-run h done (ps ∷ tracks) k at refused counted few small number =
    let first : FirstTrack h done ps tracks k = track-first h done ps tracks k refused small in
    let line : TrackLine k = track-line k (omega arith) in
    let made : begun_with (Between h done) (codes "track " ++ decimal k) ≡ Some (Within h done [] 0) = ap (with_track h done) line.read ∙ ap (λ (n : ℕ). with_track h done (Some n)) at ∙ track-made h done (omega arith) in
    let size = within-size h done [] in
    let small_enough = first.small in
    let fits : length (begun_text (Within h done [] 0)) ≤ most_bytes = omega (arith, size, small_enough) in
    let one : length (done ++ ps ∷ []) ≡ length done + 1 = length-append done (ps ∷ []) in
    line-taken number (Between h done) (Within h done [] 0) (codes "track " ++ decimal k) (pair_list 0 ps ++ track_list (suc k) tracks) (record { format = h.format; division = h.division; tracks = done ++ ps ∷ tracks }) line.line made fits
    (pairs-run h done (record { format = h.format; division = h.division; tracks = done ++ ps ∷ tracks }) (track_list (suc k) tracks) k 0 [] ps 0 first.good first.early first.small
    (λ n. tracks-run h (done ++ ps ∷ []) tracks (suc k) (omega (arith, one)) first.others (omega (arith, one)) few (subst (λ (xs : List (List Pair)). length (front_text h xs) ≤ most_bytes) (sym first.whole) small) n
    ∙ ap (λ (xs : List (List Pair)). Ok (record { format = h.format; division = h.division; tracks = xs })) first.whole) (suc number))

tracks-unbroken : (h : Header) (done tracks : List (List Pair)) (k : ℕ) → tracks_refusal k tracks ≡ None → k + length tracks ≤ 65536 → length (front_text h (done ++ tracks)) ≤ most_bytes → AreUnbroken (track_list k tracks)
unfolding track_list AreUnbroken
tracks-unbroken h done [] k refused few small = tt
tracks-unbroken h done (ps ∷ tracks) k refused few small =
    let first : FirstTrack h done ps tracks k = track-first h done ps tracks k refused small in
    let line : TrackLine k = track-line k (omega arith) in
    (line.line.unbroken, both (pair_list 0 ps) (track_list (suc k) tracks) (pairs-unbroken k 0 ps 0 first.good first.early) (tracks-unbroken h (done ++ ps ∷ []) tracks (suc k) first.others (omega arith) (subst (λ (xs : List (List Pair)). length (front_text h xs) ≤ most_bytes) (sym first.whole) small)))
  where
    both : (ls ms : List (List ℕ)) → AllByRecursion (λ l. AreFree is_break l) ls → AllByRecursion (λ l. AreFree is_break l) ms → AllByRecursion (λ l. AreFree is_break l) (ls ++ ms)
    both [] ms f g = g
    both (l ∷ ls) ms f g = (f.0, both ls ms f.1 g)

-- ---- the whole file

record WholeFile (f : MidiFile) : Type 0 where
  line : HeaderLine (of_three f.format (length f.tracks) f.division)
  few : length f.tracks ≤ 65535
  good : tracks_refusal 0 f.tracks ≡ None
  small : length (front_text (of_three f.format (length f.tracks) f.division) f.tracks) ≤ most_bytes

header-can : (f t d : ℕ) → header_refusal f t d ≡ None → HeaderLine (of_three f t d)
header-can f t d e =
    let fits : HeaderFits f t d = header-fits f t d e in
    let can : can_head (of_three f t d) ≡ true = ap (λ (o : Option FileRefusal). not (is_some o)) e in
    let low : f ≤ 1 = fits.format_is in
    header-line (of_three f t d) (omega arith) fits.few (division (header_of f t d) refl fits.headed) can
  where
    division : (r : Result Header SmfFault) → header_of f t d ≡ r → is_ok r ≡ true → d ≤ 65535
    division (Ok h) is ok = (of-three f t d h is).small
    division (Err x) is ok = let bad : ⊥ = cc in absurd bad

whole-file : (f : MidiFile) → file_refusal f ≡ None → WholeFile f
unfolding written_file
whole-file f e =
    let a = neither (header_refusal f.format (length f.tracks) f.division) (option_or (tracks_refusal 0 f.tracks) (size_refusal (length (written_file f)))) e in
    let b = neither (tracks_refusal 0 f.tracks) (size_refusal (length (written_file f))) a.1 in
    let fits : HeaderFits f.format (length f.tracks) f.division = header-fits f.format (length f.tracks) f.division a.0 in
    record { line = header-can f.format (length f.tracks) f.division a.0; few = fits.few; good = b.0; small = size-small (length (written_file f)) b.1 }

pub makes-printed : MakesPrinted
unfolding said_file ended AreUnbroken
makes-printed f e =
    let h : Header = of_three f.format (length f.tracks) f.division in
    let w : WholeFile f = whole-file f e in
    let small : length (front_text (of_three f.format (length f.tracks) f.division) f.tracks) ≤ most_bytes = w.small in
    let grows = front-grows (of_three f.format (length f.tracks) f.division) [] f.tracks in
    let text : all_text f ≡ ended (header_line (of_three f.format (length f.tracks) f.division) ∷ track_list 0 f.tracks) = ap (λ (xs : List ℕ). (header_line (of_three f.format (length f.tracks) f.division) ++ 10 ∷ []) ++ xs) (tracks-ended 0 f.tracks) in
    let few : length f.tracks ≤ 65535 = w.few in
    let unbroken : AreUnbroken (header_line (of_three f.format (length f.tracks) f.division) ∷ track_list 0 f.tracks) = (w.line.line.unbroken, tracks-unbroken (of_three f.format (length f.tracks) f.division) [] f.tracks 0 w.good (omega arith) w.small) in
    ap (λ (xs : List ℕ). file_from 1 Unheaded (without_empty_last (lines xs))) text
    ∙ ap (λ (ls : List (List ℕ)). file_from 1 Unheaded (without_empty_last ls)) (lines-ended (header_line (of_three f.format (length f.tracks) f.division) ∷ track_list 0 f.tracks) unbroken)
    ∙ ap (file_from 1 Unheaded) (without-last (header_line (of_three f.format (length f.tracks) f.division) ∷ track_list 0 f.tracks))
    ∙ line-taken 1 Unheaded (Between (of_three f.format (length f.tracks) f.division) []) (header_line (of_three f.format (length f.tracks) f.division)) (track_list 0 f.tracks) f w.line.line
    (ap (option_map (λ x. Between x [])) w.line.read) (omega (arith, grows, small))
    (tracks-run (of_three f.format (length f.tracks) f.division) [] f.tracks 0 refl w.good (omega arith) w.few w.small 2)
