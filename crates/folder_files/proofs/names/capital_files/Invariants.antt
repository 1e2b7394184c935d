use Rattle.std.proofs.Common.{◌≡◌, map, take}
use Rattle.std.specs.Prelude.{string_bytes}
use Rattle.std.specs.List.{filter}
use Rattle.folder_files.specs.Names.{is_in_capitals}
use Rattle.folder_files.proofs.names.capital_files.Given as goal

abbrev pub invariant-loop-name : goal.invariant-loop-name
invariant-loop-name l = map string_bytes l.capitals.items ≡ filter (is_in_capitals l.is_lenient) (map string_bytes (take l.name-index l.names))
