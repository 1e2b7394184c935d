use Rattle.std.proofs.Common.{◌≡◌, ◌-◌}
use Rattle.smf_mend.specs.Containers.{data_among}
use Rattle.smf_mend.proofs.container.data_among.Given as goal

abbrev pub invariant-loop-turn : goal.invariant-loop-turn
invariant-loop-turn l = record {
  same : data_among (l.most - l._turn) l.left ≡ data_among l.most l.chunks;
}
