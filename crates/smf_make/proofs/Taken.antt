-- A text taken line by line.
use Rattle.std.proofs.Common.{◌≡◌, ◌≢◌, ◌≤◌, ◌<◌, ◌+◌, ◌^◌, ℕ, suc, List, [], ◌∷◌, length, refl, sym, ap, ◌∙◌, arith}
use Rattle.std.specs.Prelude.{Result, Ok, Err}
use Rattle.smf_grammar.specs.Outcomes.{◌>>=◌}
use Rattle.script_text.specs.Words.{lines, without_return}
use Rattle.smf_make.specs.declared.fault.MakeFault.{MakeFault}
use Rattle.smf_make.specs.declared.fault.MakeFault.TheVariants.{OutOfMemory}
use Rattle.smf_make.specs.declared.maker.Maker.{Maker}
use Rattle.smf_make.specs.Making.{IsMaking, IsLineTaken, IsLineRefused, IsFinished, IsUnfinished, IsFileMade}
use Rattle.smf_make.specs.SaidFiles.{BegunFile, Unheaded, begun_after, file_from, said_file, without_empty_last}

-- what is left of a text says the rest of the file that the whole text says
pub record ToCome (m : Maker) (left text : List ℕ) : Type 0 where
  pub number : ℕ
  pub begun : BegunFile
  pub making : IsMaking m number begun
  pub early : number + length left ≤ length text
  pub same : file_from (suc number) begun (without_empty_last (lines left)) ≡ said_file text

pub all-to-come : (m : Maker) (text : List ℕ) → IsMaking m 0 Unheaded → ToCome m text text
unfolding said_file
all-to-come m text making = record { number = 0; begun = Unheaded; making = making; early = omega arith; same = refl }

-- from the next line on, by what it makes
from-next : (number : ℕ) (begun : BegunFile) (line left rest text : List ℕ) (r : Result BegunFile MakeFault) → without_empty_last (lines left) ≡ line ∷ without_empty_last (lines rest) → begun_after (suc number) begun (without_return line) ≡ r →
    file_from (suc number) begun (without_empty_last (lines left)) ≡ said_file text → (r >>= λ next. file_from (suc (suc number)) next (without_empty_last (lines rest))) ≡ said_file text
from-next number begun line left rest text r split after same =
    sym (ap (λ (o : Result BegunFile MakeFault). o >>= λ next. file_from (suc (suc number)) next (without_empty_last (lines rest))) after)
    ∙ sym (ap (file_from (suc number) begun) split) ∙ same

module _ (m : Maker) (left text line rest : List ℕ) (w : ToCome m left text) (split : without_empty_last (lines left) ≡ line ∷ without_empty_last (lines rest)) (shorter : length rest < length left) (small : length text ≤ 2 ^ 63) where
  early-enough : w.number + 1 < 2 ^ 64
  early-enough = let early : w.number + length left ≤ length text = w.early in omega arith

  pub next-to-come : (next : Maker) → IsLineTaken m line next → ToCome next rest text
  next-to-come next taken =
      let t = taken w.number w.begun w.making early-enough in
      let early : w.number + length left ≤ length text = w.early in
      record {
        number = suc w.number;
        begun = t.next;
        making = t.making;
        early = omega arith;
        same = from-next w.number w.begun line left rest text (Ok t.next) split t.after w.same;
      }

  pub line-refused : (fault : MakeFault) → IsLineRefused m line fault → fault ≢ OutOfMemory → said_file text ≡ Err fault
  line-refused fault refused known = sym (from-next w.number w.begun line left rest text (Err fault) split (refused w.number w.begun w.making early-enough known) w.same)

module _ (m : Maker) (left text : List ℕ) (w : ToCome m left text) (none : without_empty_last (lines left) ≡ []) where
  pub made-whole : (bytes : List ℕ) → IsFinished m bytes → IsFileMade text bytes
  made-whole bytes finished =
      let t = finished w.number w.begun w.making in
      record { f = t.f; said = sym w.same ∙ ap (file_from (suc w.number) w.begun) none ∙ t.whole; written = t.written }

  pub left-unfinished : length text ≤ 2 ^ 63 → (fault : MakeFault) → IsUnfinished m fault → said_file text ≡ Err fault
  left-unfinished small fault unfinished =
      let early : w.number + length left ≤ length text = w.early in
      let t = unfinished w.number w.begun w.making (omega arith) in
      sym w.same ∙ ap (file_from (suc w.number) w.begun) none ∙ t
