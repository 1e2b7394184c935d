use Rattle.std.proofs.Common.{map, drop}
use Rattle.std.specs.Prelude.{string_bytes}
use Rattle.program_tasks.specs.FolderFiles.{seen_files}
use Rattle.program_tasks.proofs.Found.{OpensOn}
use Rattle.program_tasks.proofs.opening.open_files.Given as goal

abbrev pub invariant-loop-place : goal.invariant-loop-place
invariant-loop-place l = OpensOn (map string_bytes l.names) l.contents
    (map string_bytes (drop l.place l.names)) (drop l.place l.contents) (seen_files l.opened)
