use Rattle.std.proofs.Common.{List, map, sym, subst}
use Rattle.smf_grammar.specs.declared.pair.PairBytes.{PairBytes}
use Rattle.smf_grammar.specs.Seen.{pair_seen}
use Rattle.smf_files.proofs.WritingTracks.{Standing, next-stands}
use Rattle.smf_files.proofs.tracks.push_tracks.Goals as goal

pub push_pairs-requires : goal.push_pairs-requires
push_pairs-requires c =
    subst (λ (ps : List PairBytes). Standing (map pair_seen ps)) (sym c.as_slice-in-loop-pairs.ensures.value)
    (next-stands c.args.tracks.now c.loop-pairs.pairs-index c.pairs-item.result c.loop-pairs-test.true c.pairs-item.is c.loop-pairs.invariant.good)
