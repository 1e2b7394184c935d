-- Definition: What the subcommands that run scripts tell.
use Rattle.std.specs.Prelude.{ℕ, List, map, Contains}
use Rattle.seq_session.specs.declared.fault.SessionFault.{SessionFault}
use Rattle.seq_session.specs.declared.fault.SessionFault.TheVariants.{Read}
use Rattle.program_tasks.specs.declared.words.ScriptWord.{ScriptWord}
use Rattle.program_tasks.specs.Words.{scripts_seen}
use Rattle.program_tasks.specs.declared.program_fault.ProgramFault.{ProgramFault}
use Rattle.program_tasks.specs.declared.program_fault.ProgramFault.TheVariants.{OutOfMemory, CannotRead}

-- whose scripts they are
abbrev pub owners : List ScriptWord → List ℕ
owners scripts = map (λ s. s.client) scripts

-- A script that cannot be read is reported by its path, and all else is out of memory.
abbrev pub IsToldAs : List ScriptWord → SessionFault → ProgramFault → Type 0
IsToldAs scripts (Read client) (CannotRead path) =
    Contains (scripts_seen scripts) (client, path.now)
IsToldAs scripts (Read client) _ = ⊥
IsToldAs scripts _ OutOfMemory = Unit {0}
IsToldAs scripts _ _ = ⊥
