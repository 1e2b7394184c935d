use Rattle.std.proofs.Common.{ap, sym, ◌∙◌}
use Rattle.seq_state.specs.declared.input.Command.TheVariants.{Open, CreatePort, Bytes}
use Rattle.seq_state.specs.declared.log.Reply.TheVariants.{Done, Received}
use Rattle.seq_commands.proofs.Outcomes.{if_ok-both}
use Rattle.seq_commands.proofs.Commanded.{quiet-given, quiet-kept, sent-given}
use Rattle.seq_commands.proofs.sequencer.Sequencer.carry_out.Goals as goal

pub returns-in_ok-open-in-Open-clause-gives : goal.returns-in_ok-open-in-Open-clause-gives
returns-in_ok-open-in-Open-clause-gives g c =
    quiet-kept c.args.self.now c.args.turn (g.A.Agenda.content c.args.agenda.now) c.args.command.now c.args.out.now.items _ c.open.new.self Done
    (c.in-Open.is ∙ ap (λ n. Open n c.in-Open.in_size c.in-Open.out_size) (sym c.as_slice.ensures)) c.requires.whole c.in_ok-open-in-Open.ensures

pub returns-in-Close-clause-gives : goal.returns-in-Close-clause-gives
returns-in-Close-clause-gives g c =
    quiet-given c.args.self.now c.args.turn (g.A.Agenda.content c.args.agenda.now) c.args.command.now c.args.out.now.items _ c.close.new.self Done
    c.in-Close.is c.close.ensures

pub returns-in_ok-create_port-in-CreatePort-clause-gives : goal.returns-in_ok-create_port-in-CreatePort-clause-gives
returns-in_ok-create_port-in-CreatePort-clause-gives g c =
    quiet-kept c.args.self.now c.args.turn (g.A.Agenda.content c.args.agenda.now) c.args.command.now c.args.out.now.items _ c.create_port.new.self Done
    (c.in-CreatePort.is ∙ ap (λ n. CreatePort c.in-CreatePort.port n c.in-CreatePort.caps) (sym c.as_slice-in-CreatePort.ensures)) c.requires.whole c.in_ok-create_port-in-CreatePort.ensures

pub returns-in-DeletePort-clause-gives : goal.returns-in-DeletePort-clause-gives
returns-in-DeletePort-clause-gives g c =
    quiet-given c.args.self.now c.args.turn (g.A.Agenda.content c.args.agenda.now) c.args.command.now c.args.out.now.items _ c.delete_port.new.self Done
    c.in-DeletePort.is c.delete_port.ensures

pub returns-in_ok-create_filter-in-CreateFilter-clause-gives : goal.returns-in_ok-create_filter-in-CreateFilter-clause-gives
returns-in_ok-create_filter-in-CreateFilter-clause-gives g c =
    quiet-kept c.args.self.now c.args.turn (g.A.Agenda.content c.args.agenda.now) c.args.command.now c.args.out.now.items _ c.create_filter.new.self Done
    c.in-CreateFilter.is c.requires.whole c.in_ok-create_filter-in-CreateFilter.ensures

pub returns-in-SetFilter-clause-gives : goal.returns-in-SetFilter-clause-gives
returns-in-SetFilter-clause-gives g c =
    quiet-kept c.args.self.now c.args.turn (g.A.Agenda.content c.args.agenda.now) c.args.command.now c.args.out.now.items _ c.set_filter.new.self Done
    c.in-SetFilter.is c.requires.whole c.set_filter.ensures

pub returns-in-DeleteFilter-clause-gives : goal.returns-in-DeleteFilter-clause-gives
returns-in-DeleteFilter-clause-gives g c =
    quiet-kept c.args.self.now c.args.turn (g.A.Agenda.content c.args.agenda.now) c.args.command.now c.args.out.now.items _ c.delete_filter.new.self Done
    c.in-DeleteFilter.is c.requires.whole c.delete_filter.ensures

pub returns-in_ok-connect-in-Connect-clause-gives : goal.returns-in_ok-connect-in-Connect-clause-gives
returns-in_ok-connect-in-Connect-clause-gives g c =
    quiet-kept c.args.self.now c.args.turn (g.A.Agenda.content c.args.agenda.now) c.args.command.now c.args.out.now.items _ c.connect.new.self Done
    c.in-Connect.is c.requires.whole c.in_ok-connect-in-Connect.ensures

pub returns-in-Disconnect-clause-gives : goal.returns-in-Disconnect-clause-gives
returns-in-Disconnect-clause-gives g c =
    quiet-kept c.args.self.now c.args.turn (g.A.Agenda.content c.args.agenda.now) c.args.command.now c.args.out.now.items _ c.disconnect.new.self Done
    c.in-Disconnect.is c.requires.whole c.disconnect.ensures

pub returns-in-Bytes-clause-gives : goal.returns-in-Bytes-clause-gives
returns-in-Bytes-clause-gives g c =
    if_ok-both c.bytes.result
    (λ r given sent. sent-given c.args.self.now c.args.turn (g.A.Agenda.content c.args.agenda.now) c.args.command.now c.args.out.now.items _ c.bytes.new.self r c.bytes.new.out.items
    (c.in-Bytes.is ∙ ap (Bytes c.in-Bytes.port) (sym c.as_slice-in-Bytes.ensures)) c.requires.whole given sent)
    c.bytes.ensures.gives c.bytes.ensures.sent

pub returns-in_ok-send-in-Send-clause-gives : goal.returns-in_ok-send-in-Send-clause-gives
returns-in_ok-send-in-Send-clause-gives g c =
    sent-given c.args.self.now c.args.turn (g.A.Agenda.content c.args.agenda.now) c.args.command.now c.args.out.now.items _ c.send.new.self Done c.send.new.out.items
    c.in-Send.is c.requires.whole c.in_ok-send-in-Send.ensures.gives c.in_ok-send-in-Send.ensures.sent

pub returns-in_ok-create_queue-in-CreateQueue-clause-gives : goal.returns-in_ok-create_queue-in-CreateQueue-clause-gives
returns-in_ok-create_queue-in-CreateQueue-clause-gives g c =
    quiet-kept c.args.self.now c.args.turn (g.A.Agenda.content c.args.agenda.now) c.args.command.now c.args.out.now.items _ c.create_queue.new.self Done
    c.in-CreateQueue.is c.requires.whole c.in_ok-create_queue-in-CreateQueue.ensures

pub returns-in_ok-create_queue_from-in-CreateQueueFrom-clause-gives : goal.returns-in_ok-create_queue_from-in-CreateQueueFrom-clause-gives
returns-in_ok-create_queue_from-in-CreateQueueFrom-clause-gives g c =
    quiet-kept c.args.self.now c.args.turn (g.A.Agenda.content c.args.agenda.now) c.args.command.now c.args.out.now.items _ c.create_queue_from.new.self Done
    c.in-CreateQueueFrom.is c.requires.whole c.in_ok-create_queue_from-in-CreateQueueFrom.ensures

pub returns-in-DeleteQueue-clause-gives : goal.returns-in-DeleteQueue-clause-gives
returns-in-DeleteQueue-clause-gives g c =
    quiet-given c.args.self.now c.args.turn (g.A.Agenda.content c.args.agenda.now) c.args.command.now c.args.out.now.items _ c.delete_queue.new.self Done
    c.in-DeleteQueue.is c.delete_queue.ensures

pub returns-in-QueueStatus-clause-gives : goal.returns-in-QueueStatus-clause-gives
returns-in-QueueStatus-clause-gives g c =
    quiet-kept c.args.self.now c.args.turn (g.A.Agenda.content c.args.agenda.now) c.args.command.now c.args.out.now.items _ c.args.self.now c.queue_status.result
    c.in-QueueStatus.is c.requires.whole c.queue_status.ensures

pub returns-in-Share-clause-gives : goal.returns-in-Share-clause-gives
returns-in-Share-clause-gives g c =
    quiet-kept c.args.self.now c.args.turn (g.A.Agenda.content c.args.agenda.now) c.args.command.now c.args.out.now.items _ c.share.new.self Done
    c.in-Share.is c.requires.whole c.share.ensures

pub returns-in-DropOutput-clause-gives : goal.returns-in-DropOutput-clause-gives
returns-in-DropOutput-clause-gives g c =
    quiet-given c.args.self.now c.args.turn (g.A.Agenda.content c.args.agenda.now) c.args.command.now c.args.out.now.items _ c.drop_output.new.self Done
    c.in-DropOutput.is c.drop_output.ensures

pub returns-in_ok-receive-in-Receive-clause-gives : goal.returns-in_ok-receive-in-Receive-clause-gives
returns-in_ok-receive-in-Receive-clause-gives g c =
    quiet-kept c.args.self.now c.args.turn (g.A.Agenda.content c.args.agenda.now) c.args.command.now c.args.out.now.items _ c.receive.new.self (Received c.in_ok-receive-in-Receive.field-0)
    c.in-Receive.is c.requires.whole c.in_ok-receive-in-Receive.ensures

pub returns-in-Listen-clause-gives : goal.returns-in-Listen-clause-gives
returns-in-Listen-clause-gives g c =
    quiet-kept c.args.self.now c.args.turn (g.A.Agenda.content c.args.agenda.now) c.args.command.now c.args.out.now.items _ c.listen.new.self Done
    c.in-Listen.is c.requires.whole c.listen.ensures

pub returns-in-Unlisten-clause-gives : goal.returns-in-Unlisten-clause-gives
returns-in-Unlisten-clause-gives g c =
    quiet-kept c.args.self.now c.args.turn (g.A.Agenda.content c.args.agenda.now) c.args.command.now c.args.out.now.items _ c.unlisten.new.self Done
    c.in-Unlisten.is c.requires.whole c.unlisten.ensures
