use Rattle.std.proofs.Common.{◌≡◌, drop, map}
use Rattle.smf_make.specs.SaidEvents.{type_among, type_named}
use Rattle.smf_make.specs.Words.{row_seen}
use Rattle.smf_make.proofs.meta_types.type_named.Given as goal

abbrev pub invariant-loop-named : goal.invariant-loop-named
invariant-loop-named l = record {
  rest : type_among l.word (map row_seen (drop l.named-index l.named-items)) ≡ type_named l.word;
}
