use Rattle.std.proofs.Common.{sym, subst, take}
use Rattle.seq_session.specs.Diagnostics.{last_made}
use Rattle.seq_session.specs.MadeCaps.{AreAtPlaces}
use Rattle.seq_session.proofs.Named.{next_refused, one_taken}
use Rattle.seq_session.proofs.diagnosing.push_all_refused.Goals as goal

pub loop-entry-preserved : goal.loop-entry-preserved
loop-entry-preserved c =
    let inputs = c.as_slice-inputs.result.now in
    let entries = c.args.entries.now in
    let i = c.loop-entry.entry-index in
    record {
      told = next_refused c.as_slice-lines.result.now inputs entries i c.entry-item.result c.args.told.now.items c.loop-entry.told.items c.push_refused.new.told.items
          c.loop-entry-test.true c.entry-item.is c.loop-entry.invariant.told
          (c.in_ok-push_refused.ensures (last_made inputs (take i entries)) (subst (AreAtPlaces (last_made inputs (take i entries))) (sym c.as_slice.ensures.value) c.loop-entry.invariant.made));
      whole = c.note_made.ensures.whole;
      made = subst (λ es. AreAtPlaces (last_made inputs es) c.note_made.new.table.items) (sym (one_taken entries i c.entry-item.result c.loop-entry-test.true c.entry-item.is))
          (c.note_made.ensures.noted (take i entries) c.loop-entry.invariant.made);
    }
