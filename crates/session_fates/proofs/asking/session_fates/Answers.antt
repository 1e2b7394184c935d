use Rattle.std.proofs.Common.{◌≡◌, ◌∙◌, List, map, ap, sym, subst}
use Rattle.seq_state.specs.declared.input.Input.{Input}
use Rattle.seq_state.specs.Step.{IsTimed}
use Rattle.seq_session.specs.declared.merged.Merged.{Merged}
use Rattle.seq_session.specs.Merging.{merge_of, AreSorted}
use Rattle.seq_session.specs.Sessions.{script_reading}
use Rattle.seq_session.proofs.Joining.{readings_sorted}
use Rattle.seq_session.proofs.Isolated.{timed_law}
use Rattle.session_fates.proofs.asking.session_fates.Goals as goal

pub merge-requires : goal.merge-requires
merge-requires c =
    let reads : c.as_slice.result.now ≡ map (script_reading c.args.files.now c.args.moment) c.args.scripts.now = c.as_slice.ensures.value ∙ c.in_ok-reads.ensures.readings in
    subst AreSorted (sym reads) (readings_sorted c.args.files.now c.args.moment c.args.scripts.now)

pub fates_by-requires-clause-timed : goal.fates_by-requires-clause-timed
fates_by-requires-clause-timed c =
    let reads : c.as_slice.result.now ≡ map (script_reading c.args.files.now c.args.moment) c.args.scripts.now = c.as_slice.ensures.value ∙ c.in_ok-reads.ensures.readings in
    let merged : c.in_ok-merged.merged ≡ merge_of (map (script_reading c.args.files.now c.args.moment) c.args.scripts.now) = c.in_ok-merged.ensures ∙ ap merge_of reads in
    subst (λ (xs : List Input). IsTimed xs c.args.moment) (sym (c.as_slice-inputs.ensures ∙ ap (λ (m : Merged). m.inputs) merged))
    (timed_law c.args.files.now c.args.moment c.args.scripts.now)
