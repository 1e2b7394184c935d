-- A track that is read pair by pair.
use Rattle.std.proofs.Common.{◌≡◌, ℕ, ◌+◌, ◌-◌, Bool, true, false, List, [], ◌∷◌, ◌++◌, ◌∙◌, length, refl, arith, ap, sym, append_assoc}
use Rattle.std.specs.Prelude.{Option, None, Ok, Err, if◌then◌else◌}
use Rattle.std.proofs.lemmas.Bool.{eqb-true}
use Rattle.tempo_clock.specs.declared.entry.TempoEntry.{TempoEntry}
use Rattle.smf_grammar.specs.declared.fault.PairFault.{PairFault}
use Rattle.smf_grammar.specs.Pairs.{TrackEvent, Voice, Exclusive, Escape, Meta, Pair, is_end, running_after, pair_at}
use Rattle.smf_grammar.specs.Files.{ArePairs, fault_of_pair, TrackFault}
use Rattle.smf_grammar.specs.Contents.{entry_if, tempo_of, tempos_from, is_skipped, skipped_in}
use Rattle.smf_files.specs.Taken.{with_tempos, TrackTaken}

-- the sum of the delta times
abbrev pub ticks_of : ℕ → List Pair → ℕ
ticks_of tick [] = tick
ticks_of tick (p ∷ ps) = ticks_of (tick + p.delta) ps

-- what was taken of the pairs before this place
pub record Taken (metrical : Bool) (content : List ℕ) (running : Option ℕ) (left : List ℕ) (tick : ℕ) (old new : List TempoEntry) (skipped : ℕ) : Type 0 where
  pub before : List Pair
  pub stand : ArePairs None content before running left
  pub time : tick ≡ ticks_of 0 before
  pub tempos : new ≡ with_tempos metrical old before
  pub counted : skipped ≡ skipped_in metrical before

pub nothing-taken : (metrical : Bool) (content : List ℕ) (old : List TempoEntry) → Taken metrical content None content 0 old old 0
nothing-taken metrical content old = record { before = []; stand = (refl, refl); time = refl; tempos = go metrical; counted = refl }
  where
    go : (t : Bool) → old ≡ with_tempos t old []
    go true = sym (append_nil old)
      where
        append_nil : (xs : List TempoEntry) → xs ++ [] ≡ xs
        append_nil [] = refl
        append_nil (x ∷ xs) = ap (λ (ys : List TempoEntry). x ∷ ys) (append_nil xs)
    go false = refl

pairs-snoc : (ps : List Pair) (start running : Option ℕ) (content left more : List ℕ) (p : Pair) → ArePairs start content ps running left → pair_at running left ≡ Ok (p, more) → is_end p.event ≡ false → ArePairs start content (ps ++ p ∷ []) (running_after p.event) more
pairs-snoc [] start running content left more p stand next ends = (more, rw (stand.0, stand.1) next, ends, (refl, refl))
pairs-snoc (q ∷ ps) start running content left more p stand next ends = (stand.0, stand.1, stand.2, pairs-snoc ps (running_after q.event) running stand.0 left more p stand.3 next ends)

ticks-snoc : (ps : List Pair) (tick : ℕ) (p : Pair) → ticks_of tick (ps ++ p ∷ []) ≡ ticks_of tick ps + p.delta
ticks-snoc [] tick p = refl
ticks-snoc (q ∷ ps) tick p = ticks-snoc ps (tick + q.delta) p

tempos-snoc : (ps : List Pair) (tick : ℕ) (p : Pair) → tempos_from tick (ps ++ p ∷ []) ≡ tempos_from tick ps ++ entry_if (ticks_of tick ps + p.delta) (tempo_of p.event)
tempos-snoc [] tick p = append_nil (entry_if (tick + p.delta) (tempo_of p.event))
  where
    append_nil : (xs : List TempoEntry) → xs ++ [] ≡ xs
    append_nil [] = refl
    append_nil (x ∷ xs) = ap (λ (ys : List TempoEntry). x ∷ ys) (append_nil xs)
tempos-snoc (q ∷ ps) tick p =
    ap (λ (ys : List TempoEntry). entry_if (tick + q.delta) (tempo_of q.event) ++ ys) (tempos-snoc ps (tick + q.delta) p)
    ∙ sym (append_assoc (entry_if (tick + q.delta) (tempo_of q.event)) (tempos_from (tick + q.delta) ps) (entry_if (ticks_of (tick + q.delta) ps + p.delta) (tempo_of p.event)))

abbrev pub weight : Bool → TrackEvent → ℕ
weight metrical e = if is_skipped metrical e then 1 else 0

skipped-snoc : (metrical : Bool) (ps : List Pair) (p : Pair) → skipped_in metrical (ps ++ p ∷ []) ≡ skipped_in metrical ps + weight metrical p.event
skipped-snoc metrical [] p = omega arith
skipped-snoc metrical (q ∷ ps) p = let e : skipped_in metrical (ps ++ p ∷ []) ≡ skipped_in metrical ps + weight metrical p.event = skipped-snoc metrical ps p in omega arith

with-snoc : (metrical : Bool) (old new : List TempoEntry) (ps : List Pair) (p : Pair) → new ≡ with_tempos metrical old ps → (if metrical then (new ++ entry_if (ticks_of 0 ps + p.delta) (tempo_of p.event)) else new) ≡ with_tempos metrical old (ps ++ p ∷ [])
with-snoc true old new ps p e =
    ap (λ (ys : List TempoEntry). ys ++ entry_if (ticks_of 0 ps + p.delta) (tempo_of p.event)) e
    ∙ append_assoc old (tempos_from 0 ps) (entry_if (ticks_of 0 ps + p.delta) (tempo_of p.event))
    ∙ ap (λ (ys : List TempoEntry). old ++ ys) (sym (tempos-snoc ps 0 p))
with-snoc false old new ps p e = e

-- one more pair
pub taken-more : (metrical : Bool) (content : List ℕ) (running : Option ℕ) (left more : List ℕ) (tick : ℕ) (old new : List TempoEntry) (skipped : ℕ) (p : Pair) →
    Taken metrical content running left tick old new skipped → pair_at running left ≡ Ok (p, more) → is_end p.event ≡ false →
    Taken metrical content (running_after p.event) more (tick + p.delta) old (if metrical then (new ++ entry_if (tick + p.delta) (tempo_of p.event)) else new) (skipped + weight metrical p.event)
taken-more metrical content running left more tick old new skipped p w next ends = record {
  before = w.before ++ p ∷ [];
  stand = pairs-snoc w.before None running content left more p w.stand next ends;
  time = ap (λ (t : ℕ). t + p.delta) w.time ∙ sym (ticks-snoc w.before 0 p);
  tempos = ap (λ (t : ℕ). if metrical then (new ++ entry_if (t + p.delta) (tempo_of p.event)) else new) w.time ∙ with-snoc metrical old new w.before p w.tempos;
  counted = ap (λ (k : ℕ). k + weight metrical p.event) w.counted ∙ sym (skipped-snoc metrical w.before p);
}

-- the same, by what the code computed
pub taken-step : (metrical : Bool) (content : List ℕ) (running running' : Option ℕ) (left more : List ℕ) (tick : ℕ) (old new new' : List TempoEntry) (skipped skips : ℕ) (p : Pair) →
    Taken metrical content running left tick old new skipped → pair_at running left ≡ Ok (p, more) → is_end p.event ≡ false → running' ≡ running_after p.event →
    new' ≡ (if metrical then (new ++ entry_if (tick + p.delta) (tempo_of p.event)) else new) → skips ≡ weight metrical p.event →
    Taken metrical content running' more (tick + p.delta) old new' (skipped + skips)
taken-step metrical content running running' left more tick old new new' skipped skips p w next ends status tempos count =
    rw (status, tempos, count) (taken-more metrical content running left more tick old new skipped p w next ends)

-- the end of a track sets no tempo and is not skipped
end-tempo : (e : TrackEvent) → is_end e ≡ true → tempo_of e ≡ None
end-tempo (Voice status payload) h = refl
end-tempo (Exclusive bytes) h = refl
end-tempo (Escape bytes) h = refl
end-tempo (Meta kind bytes) h = let k : kind ≡ 47 = eqb-true kind 47 h in rw k refl

end-weight : (metrical : Bool) (e : TrackEvent) → is_end e ≡ true → weight metrical e ≡ 0
end-weight metrical (Voice status payload) h = refl
end-weight metrical (Exclusive bytes) h = let bad : ⊥ = cc in absurd bad
end-weight metrical (Escape bytes) h = let bad : ⊥ = cc in absurd bad
end-weight true (Meta kind bytes) h = let k : kind ≡ 47 = eqb-true kind 47 h in rw k refl
end-weight false (Meta kind bytes) h = refl

with-end : (metrical : Bool) (old new : List TempoEntry) (ps : List Pair) (p : Pair) → tempo_of p.event ≡ None → new ≡ with_tempos metrical old ps → new ≡ with_tempos metrical old (ps ++ p ∷ [])
with-end metrical old new ps p none e =
    go metrical e ∙ with-snoc metrical old new ps p e
  where
    append_nil : (xs : List TempoEntry) → xs ++ [] ≡ xs
    append_nil [] = refl
    append_nil (x ∷ xs) = ap (λ (ys : List TempoEntry). x ∷ ys) (append_nil xs)

    go : (t : Bool) → new ≡ with_tempos t old ps → new ≡ (if t then (new ++ entry_if (ticks_of 0 ps + p.delta) (tempo_of p.event)) else new)
    go true e = sym (append_nil new) ∙ ap (λ (o : Option ℕ). new ++ entry_if (ticks_of 0 ps + p.delta) o) (sym none)
    go false e = refl

-- the last pair
pub taken-end : (metrical : Bool) (content : List ℕ) (running : Option ℕ) (left more : List ℕ) (tick : ℕ) (old new : List TempoEntry) (skipped : ℕ) (p : Pair) →
    Taken metrical content running left tick old new skipped → pair_at running left ≡ Ok (p, more) → is_end p.event ≡ true → TrackTaken metrical content old new skipped
taken-end metrical content running left more tick old new skipped p w next ends =
    let none : weight metrical p.event ≡ 0 = end-weight metrical p.event ends in
    let count : skipped_in metrical (w.before ++ p ∷ []) ≡ skipped_in metrical w.before + weight metrical p.event = skipped-snoc metrical w.before p in
    let counted : skipped ≡ skipped_in metrical w.before = w.counted in
    record {
      pairs = w.before ++ p ∷ [];
      track = record { before = w.before; last = p; after = running; rest = left; unread = more; whole = refl; stand = w.stand; next = next; ends = ends };
      tempos = with-end metrical old new w.before p (end-tempo p.event ends) w.tempos;
      counted = omega arith;
    }

-- a fault
pub taken-fault : (metrical : Bool) (content : List ℕ) (running : Option ℕ) (left : List ℕ) (tick : ℕ) (old new : List TempoEntry) (skipped track place : ℕ) (fault : PairFault) →
    Taken metrical content running left tick old new skipped → pair_at running left ≡ Err fault → TrackFault content track place (fault_of_pair fault track (place + (length content - length left)))
taken-fault metrical content running left tick old new skipped track place fault w next = record { fault = fault; rest = left; stops = record { before = w.before; after = running; stand = w.stand; next = next }; told = refl }
