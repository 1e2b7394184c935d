use Rattle.std.proofs.Common.{◌≡◌, ◌∙◌, map, ap, sym, subst}
use Rattle.std.proofs.lemmas.Result.{IfOk-weaker}
use Rattle.seq_state.specs.State.{start}
use Rattle.seq_state.specs.Step.{state_after, IsTimed}
use Rattle.seq_engine.specs.Ending.{listing_of}
use Rattle.seq_session.specs.declared.merged.Merged.{Merged}
use Rattle.seq_session.specs.Rising.{AreRising}
use Rattle.seq_session.specs.Merging.{merge_of, AreSorted}
use Rattle.seq_session.specs.AllLogs.{clients_read}
use Rattle.seq_session.specs.Sessions.{script_reading}
use Rattle.seq_session.proofs.Joining.{readings_sorted}
use Rattle.seq_session.proofs.Isolated.{timed_law}
use Rattle.seq_session.proofs.Alone.{read-clients, logs_merged}
use Rattle.seq_session.proofs.sessions.log_told.Goals as goal

pub merge-requires : goal.merge-requires
merge-requires g c =
    let reads : c.as_slice.result.now ≡ map (script_reading c.args.files.now c.args.until) c.args.scripts.now = c.as_slice.ensures.value ∙ c.in_ok-reads.ensures.readings in
    subst AreSorted (sym reads) (readings_sorted c.args.files.now c.args.until c.args.scripts.now)

pub log_merged-requires-clause-rising : goal.log_merged-requires-clause-rising
log_merged-requires-clause-rising g c =
    let reads : c.as_slice-2.result.now ≡ map (script_reading c.args.files.now c.args.until) c.args.scripts.now = c.as_slice-2.ensures.value ∙ c.in_ok-reads.ensures.readings in
    subst AreRising (sym (ap clients_read reads ∙ read-clients c.args.files.now c.args.until c.args.scripts.now)) c.requires.rising

pub log_merged-requires-clause-timed : goal.log_merged-requires-clause-timed
log_merged-requires-clause-timed g c =
    let reads : c.as_slice.result.now ≡ map (script_reading c.args.files.now c.args.until) c.args.scripts.now = c.as_slice.ensures.value ∙ c.in_ok-reads.ensures.readings in
    subst (λ (m : Merged). IsTimed m.inputs c.args.until) (sym (c.in_ok-merged.ensures ∙ ap merge_of reads)) (timed_law c.args.files.now c.args.until c.args.scripts.now)

pub returns-clause-logs : goal.returns-clause-logs
returns-clause-logs g c =
    let reads : c.as_slice.result.now ≡ map (script_reading c.args.files.now c.args.until) c.args.scripts.now = c.as_slice.ensures.value ∙ c.in_ok-reads.ensures.readings in
    let read : c.as_slice-2.result.now ≡ map (script_reading c.args.files.now c.args.until) c.args.scripts.now = c.as_slice-2.ensures.value ∙ c.in_ok-reads.ensures.readings in
    IfOk-weaker c.log_merged.result _ _
    (λ s is. is ∙ logs_merged c.args.files.now c.args.until c.args.scripts.now c.as_slice-2.result.now c.in_ok-merged.merged read (c.in_ok-merged.ensures ∙ ap merge_of reads))
    c.log_merged.ensures.logs

pub returns-clause-listing : goal.returns-clause-listing
returns-clause-listing g c =
    let reads : c.as_slice.result.now ≡ map (script_reading c.args.files.now c.args.until) c.args.scripts.now = c.as_slice.ensures.value ∙ c.in_ok-reads.ensures.readings in
    IfOk-weaker c.log_merged.result _ _
    (λ s is. is ∙ ap (λ (m : Merged). listing_of (state_after c.args.files.now.files start m.inputs)) (c.in_ok-merged.ensures ∙ ap merge_of reads))
    c.log_merged.ensures.listing
