use Rattle.std.proofs.Common.{ap, ◌∙◌, ◌++◌}
use Rattle.std.specs.Prelude.{option_to_list}
use Rattle.seq_engine.proofs.Heard.{filter_map-more}
use Rattle.program_tasks.specs.Recording.{recorded_event}
use Rattle.program_tasks.proofs.port_file.record_file.Goals as goal
use Rattle.std.proofs.Common.{sym}

pub loop-entry-preserved : goal.loop-entry-preserved
loop-entry-preserved c = record {
  events =
      c.in_ok-add_event.ensures
      ∙ ap (λ es. es ++ option_to_list (recorded_event c.args.port c.entry-item.result)) c.loop-entry.invariant.events
      ∙ sym (filter_map-more (recorded_event c.args.port) c.as_slice-entry-items.result.now c.loop-entry.entry-index c.entry-item.result c.loop-entry-test.true c.entry-item.is);
}
