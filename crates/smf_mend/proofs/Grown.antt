-- A strict file that is written as it is read.
use Rattle.std.proofs.Common.{◌≡◌, ◌≤◌, ℕ, suc, ◌+◌, ◌-◌, Bool, true, false, List, [], ◌∷◌, ◌++◌, ◌∙◌, length, length-append, append_assoc, append-nil, take, drop, refl, arith, ap, sym, subst}
use Rattle.std.specs.Prelude.{Option, None, codes}
use Rattle.std.proofs.Math.Seq.{take-append_seam, drop-append_seam}
use Rattle.byteorder.specs.Endian.{big_bytes}
use Rattle.smf_grammar.specs.Chunks.{most_bytes}
use Rattle.smf_grammar.specs.Pairs.{Pair, is_end, running_after}
use Rattle.smf_grammar.specs.Texts.{chunk_text}
use Rattle.smf_grammar.specs.Written.{pair_text, pairs_text}
use Rattle.smf_mend.specs.declared.growth.Growth.{Growth}
use Rattle.smf_mend.specs.Growing.{open_chunk, IsGrownBy, IsGrown, GrewBy, IsTrackWritten}
use Rattle.smf_mend.specs.declared.forgiven.Tally.{Tally}
use Rattle.smf_mend.specs.Lenient.{lenient_running}
use Rattle.smf_mend.proofs.LenientTracks.{strict_end, Taken, nothing-taken, Next, taken-step, taken-end}

-- ---- a chunk

-- with its length in its place
closed-chunk : (front content bytes : List ℕ) (start : ℕ) → bytes ≡ front ++ open_chunk ++ content → length front + 8 ≡ start → take (start - 4) bytes ++ big_bytes 4 (length bytes - start) ++ drop start bytes ≡ front ++ chunk_text (codes "MTrk") content
closed-chunk front content bytes start e s =
    let at_kind : length (front ++ codes "MTrk") ≡ start - 4 = length-append front (codes "MTrk") ∙ (let k : length front + 4 ≡ start - 4 = omega arith in k) in
    let at_content : length (front ++ open_chunk) ≡ start = length-append front open_chunk ∙ s in
    let split : front ++ open_chunk ++ content ≡ (front ++ codes "MTrk") ++ ((0 ∷ 0 ∷ 0 ∷ 0 ∷ []) ++ content) = append_assoc front open_chunk content ∙ sym (append_assoc front (codes "MTrk") ((0 ∷ 0 ∷ 0 ∷ 0 ∷ []) ++ content)) in
    let first : take (start - 4) bytes ≡ front ++ codes "MTrk" =
    ap (take (start - 4)) (e ∙ split) ∙ sym (ap (λ (n : ℕ). take n ((front ++ codes "MTrk") ++ ((0 ∷ 0 ∷ 0 ∷ 0 ∷ []) ++ content))) at_kind)
    ∙ take-append_seam (front ++ codes "MTrk") ((0 ∷ 0 ∷ 0 ∷ 0 ∷ []) ++ content) in
    let last : drop start bytes ≡ content = ap (drop start) e ∙ sym (ap (λ (n : ℕ). drop n (front ++ open_chunk ++ content)) at_content) ∙ drop-append_seam (front ++ open_chunk) content in
    let total : length bytes ≡ start + length content = ap length e ∙ length-append (front ++ open_chunk) content ∙ ap (λ (n : ℕ). n + length content) at_content in
    let size : length bytes - start ≡ length content = omega (arith, total) in
    ap (λ (xs : List ℕ). xs ++ big_bytes 4 (length bytes - start) ++ drop start bytes) first
    ∙ ap (λ (n : ℕ). (front ++ codes "MTrk") ++ big_bytes 4 n ++ drop start bytes) size
    ∙ ap (λ (xs : List ℕ). (front ++ codes "MTrk") ++ big_bytes 4 (length content) ++ xs) last
    ∙ append_assoc (front ++ codes "MTrk") (big_bytes 4 (length content)) content
    ∙ append_assoc front (codes "MTrk") (big_bytes 4 (length content) ++ content)

same-size : (front content : List ℕ) → length (front ++ open_chunk ++ content) ≡ length (front ++ chunk_text (codes "MTrk") content)
same-size front content =
    let a = length-append (front ++ open_chunk) content in
    let b = length-append front open_chunk in
    let c = length-append front (chunk_text (codes "MTrk") content) in
    let d : length (chunk_text (codes "MTrk") content) ≡ 8 + length content = (let e : suc (suc (suc (suc (suc (suc (suc (suc (length content)))))))) ≡ 8 + length content = omega arith in e) in
    omega (arith, a, b, c, d)

pub chunk-closed : (old new : Growth) (front content : List ℕ) (start : ℕ) → old.is_outgrown ≡ false → new.is_outgrown ≡ false → new.bytes.items ≡ take (start - 4) old.bytes.items ++ big_bytes 4 (length old.bytes.items - start) ++ drop start old.bytes.items →
    length front + 8 ≡ start → IsGrown old (front ++ open_chunk ++ content) → IsGrown new (front ++ chunk_text (codes "MTrk") content)
chunk-closed old new front content start a b e s h =
    let both : IsGrownBy false old.bytes.items (front ++ open_chunk ++ content) = subst (λ (t : Bool). IsGrownBy t old.bytes.items (front ++ open_chunk ++ content)) a h in
    let size : length (front ++ open_chunk ++ content) ≡ length (front ++ chunk_text (codes "MTrk") content) = same-size front content in
    let low : length (front ++ open_chunk ++ content) ≤ 16777216 = both.1 in
    subst (λ (t : Bool). IsGrownBy t new.bytes.items (front ++ chunk_text (codes "MTrk") content)) (sym b)
    (e ∙ closed-chunk front content old.bytes.items start both.0 s, (let few : length (front ++ chunk_text (codes "MTrk") content) ≤ 16777216 = omega arith in few))

-- ---- pairs one after another

text-snoc : (strict : Option ℕ) (ps : List Pair) (p : Pair) → pairs_text strict (ps ++ p ∷ []) ≡ pairs_text strict ps ++ pair_text (strict_end strict ps) p
text-snoc strict [] p = append-nil (pair_text strict p)
text-snoc strict (q ∷ ps) p =
    ap (λ (xs : List ℕ). pair_text strict q ++ xs) (text-snoc (running_after q.event) ps p)
    ∙ sym (append_assoc (pair_text strict q) (pairs_text (running_after q.event) ps) (pair_text (strict_end (running_after q.event) ps) p))

-- what was taken of the pairs before this place, and written since the chunk was begun
pub record Writing (content : List ℕ) (place : ℕ) (strict running : Option ℕ) (left : List ℕ) (old new : Tally) (begun now : Growth) : Type 0 where
  pub pairs : List Pair
  pub taken : Taken content place strict running left pairs old new
  pub grown : GrewBy begun now (pairs_text None pairs)

pub nothing-written : (content : List ℕ) (place : ℕ) (tally : Tally) (begun : Growth) → Writing content place None None content tally tally begun begun
nothing-written content place tally begun = record { pairs = []; taken = nothing-taken content place tally; grown = λ text h. subst (IsGrown begun) (sym (append-nil text)) h }

module _ (content : List ℕ) (place : ℕ) (strict running : Option ℕ) (left more : List ℕ) (p : Pair) (old before after : Tally) (begun now next : Growth)
    (w : Writing content place strict running left old before begun now) (n : Next content place strict running left more p before after) (one : GrewBy now next (pair_text strict p)) where
  grown-more : GrewBy begun next (pairs_text None (w.pairs ++ p ∷ []))
  grown-more text h =
      let same : pairs_text None (w.pairs ++ p ∷ []) ≡ pairs_text None w.pairs ++ pair_text strict p = text-snoc None w.pairs p ∙ ap (λ (s : Option ℕ). pairs_text None w.pairs ++ pair_text s p) w.taken.strict_is in
      subst (IsGrown next) (append_assoc text (pairs_text None w.pairs) (pair_text strict p) ∙ ap (λ (xs : List ℕ). text ++ xs) (sym same)) (one (text ++ pairs_text None w.pairs) (w.grown text h))

  pub writing-step : is_end p.event ≡ false → (strict' running' : Option ℕ) → strict' ≡ running_after p.event → running' ≡ lenient_running running p.event → Writing content place strict' running' more old after begun next
  writing-step ends strict' running' a b = record {
    pairs = w.pairs ++ p ∷ [];
    taken = taken-step content place strict running left more p w.pairs old before after w.taken n ends strict' running' (w.pairs ++ p ∷ []) a b refl;
    grown = grown-more;
  }

  pub writing-end : is_end p.event ≡ true → (first last : Growth) (start : ℕ) → GrewBy first begun open_chunk → start ≡ length first.bytes.items + 8 → (next.is_outgrown ≡ false → first.is_outgrown ≡ false) → length last.bytes.items ≤ most_bytes →
      ((front inside : List ℕ) → (next.is_outgrown ≡ false → length front + 8 ≡ start) → IsGrown next (front ++ open_chunk ++ inside) → IsGrown last (front ++ chunk_text (codes "MTrk") inside)) → IsTrackWritten content place old after first last
  writing-end ends first last start opened at still small closed = record {
    pairs = w.pairs ++ p ∷ [];
    taken = taken-end content place strict running left more p w.pairs old before after w.taken n ends (w.pairs ++ p ∷ []) refl;
    grown = λ text h. closed text (pairs_text None (w.pairs ++ p ∷ []))
        (λ off. ap (λ (xs : List ℕ). length xs + 8) (sym (subst (λ (t : Bool). IsGrownBy t first.bytes.items text) (still off) h).0) ∙ sym at)
        (grown-more (text ++ open_chunk) (opened text h));
    small = small;
  }
