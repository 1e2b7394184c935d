-- Why a file gives no ticks, from what reading it tells.
use Rattle.std.proofs.Common.{◌≡◌, ◌≢◌, ℕ, Bool, List, refl, sym, subst}
use Rattle.smf_files.specs.Taken.{Faulty}
use Rattle.smf_grammar.specs.Files.{Fault}
use Rattle.smf_grammar.specs.Chunks.{most_bytes}
use Rattle.std.specs.Prelude.{◌+◌}
use Rattle.smf_grammar.specs.declared.fault.SmfFault.{SmfFault}
use Rattle.smf_grammar.specs.declared.fault.SmfFault.TheVariants as smf
use Rattle.program_tasks.specs.Grid.{IsNoGridOf}
use Rattle.folder_files.specs.Contents.{IsOfFile}
use Rattle.program_tasks.specs.declared.program_fault.ProgramFault.{ProgramFault}
use Rattle.program_tasks.specs.declared.program_fault.ProgramFault.TheVariants as program

module _ {R : Type 0} (IsOpened : List ℕ → R → Type 0) (HasLeft : R → List ℕ → Type 0) (CannotOpen : List ℕ → Type 0) (failed : R → Bool) where
  -- the fault of the bytes, told as the program's
  pub damaged : (path bytes : List ℕ) (x : SmfFault) (told : ProgramFault) → IsOfFile IsOpened HasLeft (most_bytes + 1) path bytes → Faulty (Fault bytes) x →
      (x ≡ smf.OutOfMemory → told ≡ program.OutOfMemory) → (x ≢ smf.OutOfMemory → told ≡ program.Smf x) → IsNoGridOf IsOpened HasLeft CannotOpen failed path told
  damaged path bytes smf.OutOfMemory told read has memory smf_told = subst (IsNoGridOf IsOpened HasLeft CannotOpen failed path) (sym (memory refl)) tt
  damaged path bytes x told read has memory smf_told =
      let other : x ≢ smf.OutOfMemory = λ e. cc in
      subst (IsNoGridOf IsOpened HasLeft CannotOpen failed path) (sym (smf_told other)) (record { bytes = bytes; read = read; has = has other })
