use Rattle.std.proofs.Common.{◌≡◌, ◌∙◌, map, ap, sym, subst}
use Rattle.seq_state.specs.Step.{IsTimed}
use Rattle.seq_session.specs.declared.merged.Merged.{Merged}
use Rattle.seq_session.specs.Rising.{AreRising}
use Rattle.seq_session.specs.Merging.{merge_of, AreSorted}
use Rattle.seq_session.specs.AllLogs.{clients_read}
use Rattle.seq_session.specs.Sessions.{script_reading}
use Rattle.seq_session.proofs.Joining.{readings_sorted}
use Rattle.seq_session.proofs.Isolated.{timed_law}
use Rattle.seq_session.proofs.Alone.{read-clients, run_of}
use Rattle.seq_session.proofs.sessions.run_told.Goals as goal

pub merge-requires : goal.merge-requires
merge-requires g c =
    let reads : c.as_slice-2.result.now ≡ map (script_reading c.args.files.now c.args.until) c.args.scripts.items = c.as_slice-2.ensures.value ∙ c.in_ok-reads.ensures.readings ∙ ap (map (script_reading c.args.files.now c.args.until)) c.as_slice.ensures.value in
    subst AreSorted (sym reads) (readings_sorted c.args.files.now c.args.until c.args.scripts.items)

pub run_merged-requires-clause-timed : goal.run_merged-requires-clause-timed
run_merged-requires-clause-timed g c =
    let reads : c.as_slice-2.result.now ≡ map (script_reading c.args.files.now c.args.until) c.args.scripts.items = c.as_slice-2.ensures.value ∙ c.in_ok-reads.ensures.readings ∙ ap (map (script_reading c.args.files.now c.args.until)) c.as_slice.ensures.value in
    subst (λ (m : Merged). IsTimed m.inputs c.args.until) (sym (c.in_ok-merged.ensures ∙ ap merge_of reads)) (timed_law c.args.files.now c.args.until c.args.scripts.items)

pub returns-clause-run : goal.returns-clause-run
returns-clause-run g c =
    let reads : c.as_slice-2.result.now ≡ map (script_reading c.args.files.now c.args.until) c.args.scripts.items = c.as_slice-2.ensures.value ∙ c.in_ok-reads.ensures.readings ∙ ap (map (script_reading c.args.files.now c.args.until)) c.as_slice.ensures.value in
    run_of c.args.files.now c.args.until c.args.scripts.items (record { scripts = c.new.result; reads = c.new-2.result; merged = c.in_ok-merged.merged; log = c.in_ok-log.log })
    c.new.ensures (c.new-2.ensures ∙ c.in_ok-reads.ensures.readings ∙ ap (map (script_reading c.args.files.now c.args.until)) c.as_slice.ensures.value) (c.in_ok-merged.ensures ∙ ap merge_of reads) c.in_ok-log.ensures.plain c.in_ok-log.ensures.listing c.in_ok-log.ensures.losses

pub returns-clause-rising : goal.returns-clause-rising
returns-clause-rising g c =
    subst AreRising (sym (ap clients_read (c.new-2.ensures ∙ c.in_ok-reads.ensures.readings ∙ ap (map (script_reading c.args.files.now c.args.until)) c.as_slice.ensures.value) ∙ read-clients c.args.files.now c.args.until c.args.scripts.items)) c.requires.rising
