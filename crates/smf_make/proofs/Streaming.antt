-- A text taken as it comes.
use Rattle.std.proofs.Common.{◌≡◌, ◌≢◌, ◌≤◌, ◌<◌, ◌+◌, ◌^◌, ℕ, suc, Bool, true, false, List, [], ◌∷◌, ◌++◌, length, refl, sym, ap, subst, ◌∙◌, arith, append_assoc, append-nil, length-append}
use Rattle.std.specs.Prelude.{if◌then◌else◌, nat_le, ◌==◌, Option, Some, None, Result, Ok, Err}
use Rattle.std.specs.List.{onto_first}
use Rattle.std.proofs.lemmas.Bool.{eqb-true}
use Rattle.std.proofs.lemmas.List.Splits.{slice_split-cons_no}
use Rattle.smf_grammar.specs.Outcomes.{◌>>=◌}
use Rattle.smf_grammar.specs.Chunks.{most_bytes}
use Rattle.smf_grammar.specs.Files.{MidiFile}
use Rattle.script_text.specs.Words.{is_line_end, lines, without_return}
use Rattle.smf_make.specs.declared.fault.Expected.{Expected}
use Rattle.smf_make.specs.declared.fault.MakeFault.{MakeFault}
use Rattle.smf_make.specs.declared.fault.MakeFault.TheVariants.{Line, TooLarge, OutOfMemory, Read, TooLong}
use Rattle.smf_make.specs.declared.maker.Maker.{Maker}
use Rattle.smf_make.specs.Making.{IsMaking, IsLineTaken, IsLineRefused, IsFinished, IsUnfinished, IsFileMade}
use Rattle.smf_make.specs.ReadInPart.{IsUnended, IsAsFar}
use Rattle.smf_make.specs.SaidEvents.{is_passed_over}
use Rattle.smf_make.specs.SaidFiles.{BegunFile, Unheaded, Between, Within, expected_next, begun_text, limited_or, begun_with, begun_after, file_begun, file_from, said_file, without_empty_last}
use Rattle.smf_make.specs.Streamed.{most_text}
use Rattle.smf_make.proofs.TextLines.{some-line}

-- ---- line ends

unended-append : (a b : List ℕ) → IsUnended a → IsUnended b → IsUnended (a ++ b)
unended-append [] b p q = q
unended-append (x ∷ a) b p q = (p.0, unended-append a b p.1 q)

first-of : (line more : List ℕ) → IsUnended line → lines (line ++ 10 ∷ more) ≡ line ∷ lines more
first-of [] more p = refl
first-of (b ∷ line) more p = slice_split-cons_no is_line_end b (line ++ 10 ∷ more) p.0 ∙ ap (onto_first b) (first-of line more p.1)

only-line : (line : List ℕ) → IsUnended line → lines line ≡ line ∷ []
only-line [] p = refl
only-line (b ∷ line) p = slice_split-cons_no is_line_end b line p.0 ∙ ap (onto_first b) (only-line line p.1)

pub none-of : (line : List ℕ) → (length line == 0) ≡ true → line ≡ []
none-of [] e = refl
none-of (b ∷ line) e = let none : length (b ∷ line) ≡ 0 = eqb-true (length (b ∷ line)) 0 e in absurd (omega arith)

-- a line that has ended
next-line : (line more : List ℕ) → IsUnended line → without_empty_last (lines (line ++ 10 ∷ more)) ≡ line ∷ without_empty_last (lines more)
next-line line more p =
    let after = some-line more in
    ap without_empty_last (first-of line more p ∙ ap (λ (xs : List (List ℕ)). line ∷ xs) after.is)
    ∙ ap (λ (xs : List (List ℕ)). line ∷ without_empty_last xs) (sym after.is)

-- what stands behind the last line end
last-line : (line : List ℕ) → IsUnended line → (length line == 0) ≡ false → without_empty_last (lines line) ≡ line ∷ []
last-line [] p some = let bad : ⊥ = cc in absurd bad
last-line (b ∷ line) p some = ap without_empty_last (only-line (b ∷ line) p)

-- ---- what a text can have

-- a text can have the fault, whoever reads it
abbrev pub IsOfText : MakeFault → Type 0
IsOfText (Line line expected) = Unit {0}
IsOfText (TooLarge line) = Unit {0}
IsOfText OutOfMemory = ⊥
IsOfText Read = ⊥
IsOfText TooLong = ⊥

of-line : (number : ℕ) (expect : Expected) (x : MakeFault) → ◌≡◌ {A = Result BegunFile MakeFault} (Err (Line number expect)) (Err x) → IsOfText x
of-line number expect x e = let same : Line number expect ≡ x = cc in subst IsOfText same tt

of-end : (number : ℕ) (expect : Expected) (x : MakeFault) → ◌≡◌ {A = Result MidiFile MakeFault} (Err (Line number expect)) (Err x) → IsOfText x
of-end number expect x e = let same : Line number expect ≡ x = cc in subst IsOfText same tt

from-line : (number : ℕ) (begun : BegunFile) (line : List ℕ) (x : MakeFault) → begun_after number begun line ≡ Err x → IsOfText x
from-line number begun line x e = go (is_passed_over line) e
  where
    fits : (made : BegunFile) (t : Bool) → ◌≡◌ {A = Result BegunFile MakeFault} (if t then Ok made else Err (TooLarge number)) (Err x) → IsOfText x
    fits made true k = let bad : ⊥ = cc in absurd bad
    fits made false k = let same : TooLarge number ≡ x = cc in subst IsOfText same tt

    made : (o : Option BegunFile) → limited_or number (expected_next begun) o ≡ Err x → IsOfText x
    made None k = of-line number (expected_next begun) x k
    made (Some y) k = fits y (nat_le (length (begun_text y)) most_bytes) k

    go : (t : Bool) → (if t then Ok begun else limited_or number (expected_next begun) (begun_with begun line)) ≡ Err x → IsOfText x
    go true k = let bad : ⊥ = cc in absurd bad
    go false k = made (begun_with begun line) k

from-begun : (number : ℕ) (begun : BegunFile) (x : MakeFault) → file_begun number begun ≡ Err x → IsOfText x
from-begun number Unheaded x e = of-end number (expected_next Unheaded) x e
from-begun number (Within h done ps last) x e = of-end number (expected_next (Within h done ps last)) x e
from-begun number (Between h done) x e = go (length done == h.tracks) e
  where
    whole : MidiFile
    whole = record { format = h.format; division = h.division; tracks = done }

    go : (t : Bool) → (if t then Ok whole else Err (Line number (expected_next (Between h done)))) ≡ Err x → IsOfText x
    go true k = let bad : ⊥ = cc in absurd bad
    go false k = of-end number (expected_next (Between h done)) x k

from-lines : (number : ℕ) (begun : BegunFile) (ls : List (List ℕ)) (x : MakeFault) → file_from number begun ls ≡ Err x → IsOfText x
from-lines number begun [] x e = from-begun number begun x e
from-lines number begun (line ∷ ls) x e = go (λ next. from-lines (suc number) next ls x) (begun_after number begun (without_return line)) refl e
  where
    go : ((next : BegunFile) → file_from (suc number) next ls ≡ Err x → IsOfText x) → (r : Result BegunFile MakeFault) → begun_after number begun (without_return line) ≡ r → (r >>= λ next. file_from (suc number) next ls) ≡ Err x → IsOfText x
    go later (Ok next) is k = later next k
    go later (Err y) is k = let same : y ≡ x = cc in subst IsOfText same (from-line number begun (without_return line) y is)

pub said-fault : (text : List ℕ) (x : MakeFault) → said_file text ≡ Err x → IsOfText x
unfolding said_file
said-fault text x e = from-lines 1 Unheaded (without_empty_last (lines text)) x e

-- ---- a piece

-- what is left of a text as far as it has come says the rest of the file, with what is still to come
pub record IsLeft (m : Maker) (left text : List ℕ) : Type 0 where
  pub number : ℕ
  pub begun : BegunFile
  pub making : IsMaking m number begun
  pub early : number + length left ≤ length text
  pub same : (rest : List ℕ) → file_from (suc number) begun (without_empty_last (lines (left ++ rest))) ≡ said_file (text ++ rest)

-- the same, where a line may have begun before the piece that is left
pub record IsWithin (m : Maker) (kept left text : List ℕ) : Type 0 where
  pub unended : IsUnended kept
  pub here : IsLeft m (kept ++ left) text

-- a piece has come
pub piece-came : (m : Maker) (kept piece text : List ℕ) → IsAsFar m kept text → IsWithin m kept piece (text ++ piece)
piece-came m kept piece text w =
    let early : w.number + length kept ≤ length text = w.early in
    record {
      unended = w.unended;
      here = record {
        number = w.number;
        begun = w.begun;
        making = w.making;
        early = omega (arith, length-append kept piece, length-append text piece);
        same = λ rest.
            ap (λ (xs : List ℕ). file_from (suc w.number) w.begun (without_empty_last (lines xs))) (append_assoc kept piece rest)
            ∙ w.same (piece ++ rest)
            ∙ ap said_file (sym (append_assoc text piece rest));
      };
    }

-- all its lines were taken
pub piece-kept : (m : Maker) (kept left next text : List ℕ) → IsWithin m kept left text → IsUnended left → next ≡ kept ++ left → IsAsFar m next text
piece-kept m kept left next text w u e = subst (λ (xs : List ℕ). IsAsFar m xs text) (sym e) (record {
  number = w.here.number;
  begun = w.here.begun;
  making = w.here.making;
  early = w.here.early;
  unended = unended-append kept left w.unended u;
  same = w.here.same;
})

-- from the next line on, by what it makes
from-next : (number : ℕ) (begun : BegunFile) (line : List ℕ) (ls more : List (List ℕ)) (said : Result MidiFile MakeFault) (r : Result BegunFile MakeFault) → ls ≡ line ∷ more → begun_after (suc number) begun (without_return line) ≡ r →
    file_from (suc number) begun ls ≡ said → (r >>= λ next. file_from (suc (suc number)) next more) ≡ said
from-next number begun line ls more said r split after same =
    sym (ap (λ (o : Result BegunFile MakeFault). o >>= λ next. file_from (suc (suc number)) next more) after)
    ∙ sym (ap (file_from (suc number) begun) split) ∙ same

module _ (m : Maker) (kept left text part rest : List ℕ) (i : IsWithin m kept left text) (p : IsUnended part) (cut : left ≡ part ++ 10 ∷ rest) (small : length text ≤ most_text) where
  shift : (more : List ℕ) → (kept ++ left) ++ more ≡ (kept ++ part) ++ 10 ∷ (rest ++ more)
  shift more =
      ap (λ (xs : List ℕ). (kept ++ xs) ++ more) cut
      ∙ append_assoc kept (part ++ 10 ∷ rest) more
      ∙ ap (λ (xs : List ℕ). kept ++ xs) (append_assoc part (10 ∷ rest) more)
      ∙ sym (append_assoc kept part (10 ∷ (rest ++ more)))

  split : (more : List ℕ) → without_empty_last (lines ((kept ++ left) ++ more)) ≡ (kept ++ part) ∷ without_empty_last (lines (rest ++ more))
  split more = ap (λ (xs : List ℕ). without_empty_last (lines xs)) (shift more) ∙ next-line (kept ++ part) (rest ++ more) (unended-append kept part i.unended p)

  shorter : length rest < length (kept ++ left)
  shorter =
      let left_is : length left ≡ length part + length (10 ∷ rest) = ap length cut ∙ length-append part (10 ∷ rest) in
      omega (arith, length-append kept left)

  early-enough : i.here.number + 1 < 2 ^ 64
  early-enough = let early : i.here.number + length (kept ++ left) ≤ length text = i.here.early in omega arith

  taken-here : (next : Maker) → IsLineTaken m (kept ++ part) next → IsLeft next rest text
  taken-here next taken =
      let t = taken i.here.number i.here.begun i.here.making early-enough in
      let early : i.here.number + length (kept ++ left) ≤ length text = i.here.early in
      let less : length rest < length (kept ++ left) = shorter in
      record {
        number = suc i.here.number;
        begun = t.next;
        making = t.making;
        early = omega arith;
        same = λ more. from-next i.here.number i.here.begun (kept ++ part) (without_empty_last (lines ((kept ++ left) ++ more))) (without_empty_last (lines (rest ++ more))) (said_file (text ++ more)) (Ok t.next) (split more) t.after (i.here.same more);
      }

  pub line-taken : (next : Maker) (after : List ℕ) → IsLineTaken m (kept ++ part) next → after ≡ [] → IsWithin next after rest text
  line-taken next after taken none = subst (λ (xs : List ℕ). IsWithin next xs rest text) (sym none) (record { unended = tt; here = taken-here next taken })

  pub line-refused : (fault : MakeFault) → IsLineRefused m (kept ++ part) fault → fault ≢ OutOfMemory → (more : List ℕ) → said_file (text ++ more) ≡ Err fault
  line-refused fault refused known = λ more.
      sym (from-next i.here.number i.here.begun (kept ++ part) (without_empty_last (lines ((kept ++ left) ++ more))) (without_empty_last (lines (rest ++ more))) (said_file (text ++ more)) (Err fault) (split more) (refused i.here.number i.here.begun i.here.making early-enough known) (i.here.same more))

-- ---- the end

module _ (m : Maker) (kept text : List ℕ) (w : IsAsFar m kept text) (small : length text ≤ most_text) where
  at-end : file_from (suc w.number) w.begun (without_empty_last (lines kept)) ≡ said_file text
  at-end = ap (λ (xs : List ℕ). file_from (suc w.number) w.begun (without_empty_last (lines xs))) (sym (append-nil kept)) ∙ w.same [] ∙ ap said_file (append-nil text)

  in-time : w.number + 1 < 2 ^ 64
  in-time = let early : w.number + length kept ≤ length text = w.early in omega arith

  module _ (none : kept ≡ []) where
    no-line : file_begun (suc w.number) w.begun ≡ said_file text
    no-line = ap (λ (xs : List ℕ). file_from (suc w.number) w.begun (without_empty_last (lines xs))) (sym none) ∙ at-end

    pub made-there : (bytes : List ℕ) → IsFinished m bytes → IsFileMade text bytes
    made-there bytes finished =
        let t = finished w.number w.begun w.making in
        record { f = t.f; said = sym no-line ∙ t.whole; written = t.written }

    pub unfinished-there : (fault : MakeFault) → IsUnfinished m fault → said_file text ≡ Err fault
    unfinished-there fault unfinished = sym no-line ∙ unfinished w.number w.begun w.making in-time

  module _ (some : (length kept == 0) ≡ false) where
    one-line : (r : Result BegunFile MakeFault) → begun_after (suc w.number) w.begun (without_return kept) ≡ r → (r >>= λ next. file_from (suc (suc w.number)) next []) ≡ said_file text
    one-line r after = from-next w.number w.begun kept (without_empty_last (lines kept)) [] (said_file text) r (last-line kept w.unended some) after at-end

    early-still : w.number + 2 < 2 ^ 64
    early-still = let early : w.number + length kept ≤ length text = w.early in omega arith

    pub last-refused : (fault : MakeFault) → IsLineRefused m kept fault → fault ≢ OutOfMemory → said_file text ≡ Err fault
    last-refused fault refused known = sym (one-line (Err fault) (refused w.number w.begun w.making in-time known))

    pub made-after-last : (next : Maker) (bytes : List ℕ) → IsLineTaken m kept next → IsFinished next bytes → IsFileMade text bytes
    made-after-last next bytes taken finished =
        let t = taken w.number w.begun w.making in-time in
        let e = finished (suc w.number) t.next t.making in
        record { f = e.f; said = sym (one-line (Ok t.next) t.after) ∙ e.whole; written = e.written }

    pub unfinished-after-last : (next : Maker) (fault : MakeFault) → IsLineTaken m kept next → IsUnfinished next fault → said_file text ≡ Err fault
    unfinished-after-last next fault taken unfinished =
        let t = taken w.number w.begun w.making in-time in
        sym (one-line (Ok t.next) t.after) ∙ unfinished (suc w.number) t.next t.making (let h = early-still in omega arith)
