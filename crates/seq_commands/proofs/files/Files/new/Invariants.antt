use Rattle.std.proofs.Common.{◌≡◌, true, map, take}
use Rattle.std.specs.List.{list_all}
use Rattle.smf_grammar.specs.Played.{as_played}
use Rattle.seq_state.specs.Laws.{has_ticks}
use Rattle.seq_commands.proofs.files.Files.new.Given as goal

abbrev pub invariant-loop-file : goal.invariant-loop-file
invariant-loop-file l = list_all has_ticks (map as_played (take l.file-index l.files)) ≡ true
