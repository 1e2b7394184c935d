use Rattle.std.proofs.Common.{◌≡◌, ℕ, cond, eqb, Some, List, [], ◌∷◌, length, min, refl, ap, ◌∙◌}
use Rattle.std.specs.Ordering.{nat_cmp}
use Rattle.std.specs.FinMap
use Rattle.std.specs.FinMap.{FinMap}
use Rattle.seq_state.proofs.Effects.{get-put}
use Rattle.midi_wire.specs.Kinds.{kind_of_status}
use Rattle.midi_wire.specs.Messages.{begins}
use Rattle.patch_graph.specs.declared.edge.Edge.{Edge}
use Rattle.patch_graph.specs.Paths.{paths, hops}
use Rattle.patch_graph.proofs.Walked.{walk, paths-walk}
use Rattle.way_fates.specs.Counts.{most_counted}
use Rattle.way_fates.specs.Fates.{fates_on}
use Rattle.way_fates.specs.Rows.{waits, two_clients, two_ways, one_way, port, filter_of, joined}
use Rattle.way_fates.proofs.rows.worked_fates.Goals as goal

two-paths : paths two_ways (port 128 0) ≡ (joined (port 128 0) (filter_of 0) ∷ joined (filter_of 0) (port 129 0) ∷ []) ∷ (joined (port 128 0) (port 129 1) ∷ []) ∷ []
unfolding hops walk
two-paths = paths-walk two_ways (port 128 0)

one-path : paths one_way (port 128 0) ≡ (joined (port 128 0) (filter_of 0) ∷ joined (filter_of 0) (filter_of 1) ∷ joined (filter_of 1) (port 129 0) ∷ []) ∷ []
unfolding hops walk
one-path = paths-walk one_way (port 128 0)

at-key : {X : Type 0} (m : FinMap nat_cmp X) (k : ℕ) (x : X) (q : ℕ) → FinMap.get (FinMap.insert m k x) q ≡ cond (eqb q k) (Some x) (FinMap.get m q)
at-key m k x q = get-put m k (Some x) q

pub returns : goal.returns
unfolding kind_of_status begins
returns c = record {
  both_come = ap (fates_on (two_clients []) 7 (port 128 0) (0x90 ∷ 0x3C ∷ 0x40 ∷ [])) two-paths ∙ simp (at-key) refl;
  below = ap (fates_on (two_clients []) 7 (port 128 0) (0x90 ∷ 0x3B ∷ 0x40 ∷ [])) two-paths ∙ simp (at-key) refl;
  above = ap (fates_on (two_clients []) 7 (port 128 0) (0x90 ∷ 0x79 ∷ 0x40 ∷ [])) two-paths ∙ simp (at-key) refl;
  shifted = ap (fates_on (two_clients []) 7 (port 128 0) (0x90 ∷ 0x78 ∷ 0x40 ∷ [])) two-paths ∙ simp (at-key) refl;
  highest = ap (fates_on (two_clients []) 7 (port 128 0) (0x90 ∷ 0x73 ∷ 0x40 ∷ [])) two-paths ∙ simp (at-key) refl;
  channel = ap (fates_on (two_clients []) 7 (port 128 0) (0x91 ∷ 0x3B ∷ 0x40 ∷ [])) two-paths ∙ simp (at-key) refl;
  kind = ap (fates_on (two_clients []) 7 (port 128 0) (0xA1 ∷ 0x3B ∷ 0x40 ∷ [])) two-paths ∙ simp (at-key) refl;
  clock = ap (fates_on (two_clients []) 7 (port 128 0) (0xF8 ∷ [])) two-paths ∙ simp (at-key) refl;
  full = ap (fates_on (two_clients waits) 7 (port 128 0) (0x90 ∷ 0x3C ∷ 0x40 ∷ [])) two-paths ∙ simp (at-key) refl;
  full_below = ap (fates_on (two_clients waits) 7 (port 128 0) (0x90 ∷ 0x3B ∷ 0x40 ∷ [])) two-paths ∙ simp (at-key) refl;
  second = ap (fates_on (two_clients []) 7 (port 128 0) (0x90 ∷ 0x45 ∷ 0x40 ∷ [])) one-path ∙ simp (at-key) refl;
  through_both = ap (fates_on (two_clients []) 7 (port 128 0) (0x90 ∷ 0x44 ∷ 0x40 ∷ [])) one-path ∙ simp (at-key) refl;
  counted = ap (λ (ps : List (List Edge)). min (length ps) most_counted) two-paths;
}
