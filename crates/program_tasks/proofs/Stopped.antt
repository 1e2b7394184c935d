-- Why a tool stopped, from what its call tells.
use Rattle.std.proofs.Common.{◌≡◌, ◌⊎◌, ◌∙◌, ℕ, Bool, true, List, Result, Ok, Err, ap, sym}
use Rattle.std.specs.Prelude.{IfErr, IsErrOf}
use Rattle.std.proofs.lemmas.Result.{IfErr-at_err}
use Rattle.program_tasks.specs.declared.choice.Tool.{Tool}
use Rattle.tool_text.specs.declared.fault.ToolFault.{ToolFault}
use Rattle.tool_text.specs.declared.fault.ToolFault.TheVariants.{Read}
use Rattle.tool_text.specs.Faults.{blames_sink}
use Rattle.tool_text.specs.Stream.{GaveTooMany}
use Rattle.program_tasks.specs.Tools.{MayTell}
use Rattle.program_tasks.specs.Tasks.{IsStopped}

module _ {R T : Type 0} (HasLeft : R → List ℕ → Type 0) (failed : R → Bool) (stuck : Type 0) (tool : Tool) (before after : R) (r : Result T ToolFault) (fault : ToolFault) (e : r ≡ Err fault) where
  pub stopped : IfErr r (MayTell HasLeft tool before after) → (IsErrOf r Read → (failed after ≡ true) ⊎ GaveTooMany HasLeft before after) → (blames_sink r ≡ true → stuck) →
      IsStopped HasLeft failed stuck tool before after fault
  stopped told read write = record {
    told = IfErr-at_err (MayTell HasLeft tool before after) e told;
    read = λ same. read (e ∙ ap (λ x. Err x) same);
    write = λ same. write (ap (blames_sink {A = T}) (e ∙ ap (λ x. Err x) same));
  }

-- a fault that is known
pub read_fault : {T : Type 0} (a b : ToolFault) → ◌≡◌ {A = Result T ToolFault} (Err a) (Err b) → b ≡ a
read_fault a b e = sym (ap (λ r. or_else a r) e)
  where
    or_else : {T : Type 0} → ToolFault → Result T ToolFault → ToolFault
    or_else a (Ok x) = a
    or_else a (Err x) = x
