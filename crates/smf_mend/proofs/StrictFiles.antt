-- A file of the strict grammar is the same file leniently, and nothing is forgiven of it.
use Rattle.std.proofs.Common.{◌≡◌, ◌≤◌, ◌<◌, ℕ, ◌+◌, ◌-◌, Bool, true, false, List, [], ◌∷◌, ◌++◌, ◌∙◌, length, refl, arith, ap, sym, ◌⊎◌, inl, inr}
use Rattle.std.specs.Prelude.{Option, Some, None, is_none, Result, Ok, Err, if◌then◌else◌, nat_lt, ◌==◌, ◌&&◌}
use Rattle.std.proofs.lemmas.Bool.Decides.{nat_tests}
use Rattle.midi_wire.specs.declared.status.Width.TheVariants.{One}
use Rattle.midi_wire.specs.declared.status.StatusClass.TheVariants.{Channel}
use Rattle.midi_wire.specs.Messages.{begins}
use Rattle.midi_wire.proofs.Table.{begins-C}
use Rattle.smf_grammar.specs.Outcomes.{◌>>=◌}
use Rattle.smf_grammar.specs.declared.fault.PairFault.{PairFault}
use Rattle.smf_grammar.specs.declared.fault.PairFault.TheVariants.{BadStatus, BadData}
use Rattle.smf_grammar.specs.Pairs.{TrackEvent, Voice, Exclusive, Escape, Meta, Pair, running_after, quantity_at, group_at, voice_at, running_at, sized_at, meta_at, event_at, pair_at}
use Rattle.smf_grammar.specs.Chunks.{chunk_at}
use Rattle.smf_grammar.specs.Files.{ArePairs, IsTrack, Item, Other, Track, AreChunks}
use Rattle.smf_grammar.proofs.Binds.{Bound, bind-ok}
use Rattle.smf_grammar.proofs.Spelled.{pair-parts}
use Rattle.smf_mend.specs.Lenient.{lenient_running, event_behind, event_left, has_high_data, lenient_pair_at, AreLenientPairs, IsLenientTrack, AreLenientChunks}
use Rattle.smf_mend.specs.Forgiving.{begins_with_data, forgives_status, forgives_data, left_behind, place_if, pair_places, track_places, chunk_content, chunk_behind, chunk_places}
use Rattle.smf_mend.specs.Laws.{StrictIsLenient}
use Rattle.smf_mend.proofs.Softened.{IsProgram, program-status, lenient-strict}

-- ---- events

-- the running status of the strict grammar is that of the lenient one, where one runs
abbrev Agrees : Option ℕ → Option ℕ → Type 0
Agrees strict running = (strict ≡ None) ⊎ (strict ≡ running)

agrees-after : (running : Option ℕ) (e : TrackEvent) → Agrees (running_after e) (lenient_running running e)
agrees-after running (Voice status payload) = inr refl
agrees-after running (Exclusive bytes) = inl refl
agrees-after running (Escape bytes) = inl refl
agrees-after running (Meta kind bytes) = inl refl

-- bit 7 in the data byte of a program change is a fault
high-fault : (running : Option ℕ) (status b : ℕ) (more : List ℕ) → has_high_data (status ∷ b ∷ more) ≡ true → event_at running (status ∷ b ∷ more) ≡ Err BadData
unfolding event_at voice_at group_at
high-fault running status b more h =
    let program : IsProgram status b = program-status status b more h in
    let from : 192 ≤ status = program.from in
    let below : status < 224 = program.below in
    let high : nat_lt status 128 ≡ false = grind (arith, nat_tests) in
    let low : nat_lt status 240 ≡ true = grind (arith, nat_tests) in
    let class : begins status ≡ Channel One = begins-C status program.from program.below in
    rw (high, low, class, program.high) refl

-- so what is read has none
event-low : (running : Option ℕ) (left : List ℕ) (x : TrackEvent × List ℕ) → event_at running left ≡ Ok x → has_high_data left ≡ false
event-low running [] x e = refl
event-low running (status ∷ []) x e = refl
event-low running (status ∷ b ∷ more) x e = go (has_high_data (status ∷ b ∷ more)) refl
  where
    go : (t : Bool) → has_high_data (status ∷ b ∷ more) ≡ t → t ≡ false
    go false is = refl
    go true is = let bad : Err BadData ≡ Ok x = sym (high-fault running status b more is) ∙ e in let none : ⊥ = cc in absurd none

-- where no status runs, what is read begins with none
event-begins : (left : List ℕ) (x : TrackEvent × List ℕ) → event_at None left ≡ Ok x → begins_with_data left ≡ false
unfolding event_at
event-begins [] x e = refl
event-begins (b ∷ more) x e = go (nat_lt b 128) refl e
  where
    go : (t : Bool) → nat_lt b 128 ≡ t → (if t then running_at None (b ∷ more) else
        (if nat_lt b 240 then voice_at b more else
        (if b == 240 then (sized_at more >>= λ bytes. Ok (Exclusive bytes.0, bytes.1)) else
        (if b == 247 then (sized_at more >>= λ bytes. Ok (Escape bytes.0, bytes.1)) else
        (if b == 255 then meta_at more else Err BadStatus))))) ≡ Ok x → t ≡ false
    go true is k = let bad : ⊥ = cc in absurd bad
    go false is k = refl

-- and is read whatever runs
event-any : (running : Option ℕ) (left : List ℕ) (x : TrackEvent × List ℕ) → event_at None left ≡ Ok x → event_at running left ≡ Ok x
unfolding event_at
event-any running [] x e = e
event-any running (b ∷ more) x e = go (nat_lt b 128) e
  where
    go : (t : Bool) → (if t then running_at None (b ∷ more) else
        (if nat_lt b 240 then voice_at b more else
        (if b == 240 then (sized_at more >>= λ bytes. Ok (Exclusive bytes.0, bytes.1)) else
        (if b == 247 then (sized_at more >>= λ bytes. Ok (Escape bytes.0, bytes.1)) else
        (if b == 255 then meta_at more else Err BadStatus))))) ≡ Ok x →
        (if t then running_at running (b ∷ more) else
        (if nat_lt b 240 then voice_at b more else
        (if b == 240 then (sized_at more >>= λ bytes. Ok (Exclusive bytes.0, bytes.1)) else
        (if b == 247 then (sized_at more >>= λ bytes. Ok (Escape bytes.0, bytes.1)) else
        (if b == 255 then meta_at more else Err BadStatus))))) ≡ Ok x
    go true k = let bad : ⊥ = cc in absurd bad
    go false k = k

event-agrees : (strict running : Option ℕ) (left : List ℕ) (x : TrackEvent × List ℕ) → Agrees strict running → event_at strict left ≡ Ok x → event_at running left ≡ Ok x
event-agrees strict running left x (inl none) e = event-any running left x (ap (λ (s : Option ℕ). event_at s left) (sym none) ∙ e)
event-agrees strict running left x (inr same) e = ap (λ (s : Option ℕ). event_at s left) (sym same) ∙ e

no-status : (strict : Option ℕ) (left : List ℕ) (x : TrackEvent × List ℕ) → event_at strict left ≡ Ok x → (is_none strict && begins_with_data left) ≡ false
no-status None left x e = event-begins left x e
no-status (Some status) left x e = refl

-- ---- pairs

behind-delta : (left : List ℕ) (d : ℕ × List ℕ) → quantity_at left ≡ Ok d → event_left left ≡ d.1
unfolding event_left
behind-delta left d e = ap event_behind e

record IsSamePair (strict running : Option ℕ) (left : List ℕ) (p : Pair) (more : List ℕ) : Type 0 where
  next : lenient_pair_at running left ≡ Ok (p, more)
  status : forgives_status strict left ≡ false
  data_bytes : forgives_data strict left ≡ false

same-pair : (strict running : Option ℕ) (left : List ℕ) (p : Pair) (more : List ℕ) → Agrees strict running → pair_at strict left ≡ Ok (p, more) → IsSamePair strict running left p more
unfolding pair_at
same-pair strict running [] p more a e = let bad : ⊥ = cc in absurd bad
same-pair strict running (b ∷ left) p more a e =
    let delta : Bound (quantity_at (b ∷ left)) (λ d. event_at strict d.1 >>= λ x. Ok (record { delta = d.0; event = x.0 }, x.1)) (p, more) = bind-ok _ _ _ e in
    let event : Bound (event_at strict delta.value.1) (λ x. Ok (record { delta = delta.value.0; event = x.0 }, x.1)) (p, more) = bind-ok _ _ _ delta.next in
    two delta.value event.value delta.first event.first event.next
  where
    two : (d : ℕ × List ℕ) (x : TrackEvent × List ℕ) → quantity_at (b ∷ left) ≡ Ok d → event_at strict d.1 ≡ Ok x → ◌≡◌ {A = Result (Pair × List ℕ) PairFault} (Ok (record { delta = d.0; event = x.0 }, x.1)) (Ok (p, more)) → IsSamePair strict running (b ∷ left) p more
    two d x first second whole =
        let at : event_left (b ∷ left) ≡ d.1 = behind-delta (b ∷ left) d first in
        let low : has_high_data (event_left (b ∷ left)) ≡ false = ap has_high_data at ∙ event-low strict d.1 x second in
        record {
          next = lenient-strict running (b ∷ left) low ∙ pair-parts running (b ∷ left) d.1 x.1 d.0 x.0 first (event-agrees strict running d.1 x a second) ∙ whole;
          status = ap (λ (l : List ℕ). is_none strict && begins_with_data l) at ∙ no-status strict d.1 x second;
          data_bytes = low;
        }

-- ---- tracks

no-mark : (t : Bool) (place : ℕ) (others : List ℕ) → t ≡ false → others ≡ [] → place_if t place ++ others ≡ []
no-mark true place others is none = let bad : ⊥ = cc in absurd bad
no-mark false place others is none = none

-- the pairs of a track, with nothing forgiven of them
record IsSameTrack (place size : ℕ) (strict running : Option ℕ) (left : List ℕ) (before : List Pair) (rest : List ℕ) (last : Pair) (unread : List ℕ) : Type 0 where
  after : Option ℕ
  stand : AreLenientPairs running left before after rest
  next : lenient_pair_at after rest ≡ Ok (last, unread)
  status : pair_places forgives_status place size strict running left (before ++ last ∷ []) ≡ []
  data_bytes : pair_places forgives_data place size strict running left (before ++ last ∷ []) ≡ []

same-track : (place size : ℕ) (before : List Pair) (strict running end : Option ℕ) (left rest : List ℕ) (last : Pair) (unread : List ℕ) → Agrees strict running → ArePairs strict left before end rest → pair_at end rest ≡ Ok (last, unread) →
    IsSameTrack place size strict running left before rest last unread
same-track place size [] strict running end left rest last unread a stand e =
    let here : pair_at strict left ≡ Ok (last, unread) = rw (stand.0, stand.1) e in
    let one : IsSamePair strict running left last unread = same-pair strict running left last unread a here in
    record {
      after = running;
      stand = (refl, stand.1);
      next = ap (lenient_pair_at running) (sym stand.1) ∙ one.next;
      status = no-mark (forgives_status strict left) (place + (size - length left)) [] one.status refl;
      data_bytes = no-mark (forgives_data strict left) (place + (size - length left)) [] one.data_bytes refl;
    }
same-track place size (p ∷ before) strict running end left rest last unread a stand e =
    let one : IsSamePair strict running left p stand.0 = same-pair strict running left p stand.0 a stand.1 in
    let more : IsSameTrack place size (running_after p.event) (lenient_running running p.event) stand.0 before rest last unread =
    same-track place size before (running_after p.event) (lenient_running running p.event) end stand.0 rest last unread (agrees-after running p.event) stand.3 e in
    let behind : left_behind (lenient_pair_at running left) ≡ stand.0 = ap left_behind one.next in
    record {
      after = more.after;
      stand = (stand.0, one.next, stand.2, more.stand);
      next = more.next;
      status = no-mark (forgives_status strict left) (place + (size - length left)) _ one.status (ap (λ (l : List ℕ). pair_places forgives_status place size (running_after p.event) (lenient_running running p.event) l (before ++ last ∷ [])) behind ∙ more.status);
      data_bytes = no-mark (forgives_data strict left) (place + (size - length left)) _ one.data_bytes (ap (λ (l : List ℕ). pair_places forgives_data place size (running_after p.event) (lenient_running running p.event) l (before ++ last ∷ [])) behind ∙ more.data_bytes);
    }

record IsSameContent (place : ℕ) (content : List ℕ) (pairs : List Pair) : Type 0 where
  track : IsLenientTrack content pairs
  status : track_places forgives_status place content pairs ≡ []
  data_bytes : track_places forgives_data place content pairs ≡ []

same-content : (place : ℕ) (content : List ℕ) (pairs : List Pair) → IsTrack content pairs → IsSameContent place content pairs
same-content place content pairs w =
    let t : IsSameTrack place (length content) None None content w.before w.rest w.last w.unread = same-track place (length content) w.before None None w.after content w.rest w.last w.unread (inl refl) w.stand w.next in
    record {
      track = record { before = w.before; last = w.last; after = t.after; rest = w.rest; unread = w.unread; whole = w.whole; stand = t.stand; next = t.next; ends = w.ends };
      status = ap (track_places forgives_status place content) w.whole ∙ t.status;
      data_bytes = ap (track_places forgives_data place content) w.whole ∙ t.data_bytes;
    }

-- ---- files

both-none : (xs ys : List ℕ) → xs ≡ [] → ys ≡ [] → xs ++ ys ≡ []
both-none xs ys a b = rw (a, b) refl

record AreSameChunks (size : ℕ) (left : List ℕ) (items : List Item) (rest : List ℕ) : Type 0 where
  stand : AreLenientChunks left items rest
  status : chunk_places forgives_status size left items ≡ []
  data_bytes : chunk_places forgives_data size left items ≡ []

same-chunks : (size : ℕ) (items : List Item) (left rest : List ℕ) → AreChunks left items rest → AreSameChunks size left items rest
same-chunks size [] left rest stand = record { stand = stand; status = refl; data_bytes = refl }
same-chunks size (Other ∷ items) left rest stand =
    let more : AreSameChunks size stand.1 items rest = same-chunks size items stand.1 rest stand.4 in
    let behind : chunk_behind (chunk_at left) ≡ stand.1 = ap chunk_behind stand.2 in
    record {
      stand = (stand.0, stand.1, stand.2, stand.3, more.stand);
      status = ap (λ (l : List ℕ). chunk_places forgives_status size l items) behind ∙ more.status;
      data_bytes = ap (λ (l : List ℕ). chunk_places forgives_data size l items) behind ∙ more.data_bytes;
    }
same-chunks size (Track ps ∷ items) left rest stand =
    let one : IsSameContent (size - length left + 8) stand.0.content ps = same-content (size - length left + 8) stand.0.content ps stand.3.1 in
    let more : AreSameChunks size stand.1 items rest = same-chunks size items stand.1 rest stand.4 in
    let behind : chunk_behind (chunk_at left) ≡ stand.1 = ap chunk_behind stand.2 in
    let content : chunk_content (chunk_at left) ≡ stand.0.content = ap chunk_content stand.2 in
    record {
      stand = (stand.0, stand.1, stand.2, (stand.3.0, one.track), more.stand);
      status = both-none _ _ (ap (λ (xs : List ℕ). track_places forgives_status (size - length left + 8) xs ps) content ∙ one.status) (ap (λ (l : List ℕ). chunk_places forgives_status size l items) behind ∙ more.status);
      data_bytes = both-none _ _ (ap (λ (xs : List ℕ). track_places forgives_data (size - length left + 8) xs ps) content ∙ one.data_bytes) (ap (λ (l : List ℕ). chunk_places forgives_data size l items) behind ∙ more.data_bytes);
    }

pub strict-is-lenient : StrictIsLenient
strict-is-lenient bytes f w =
    let c : AreSameChunks (length bytes) w.after w.items w.unread = same-chunks (length bytes) w.items w.after w.unread w.stand in
    record {
      lenient = record { header = w.header; after = w.after; items = w.items; unread = w.unread; headed = w.headed; stand = c.stand; counted = w.counted; format = w.format; division = w.division; tracks = w.tracks };
      status = c.status;
      data_bytes = c.data_bytes;
    }
