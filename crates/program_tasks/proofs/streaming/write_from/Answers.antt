use Rattle.std.proofs.Common.{◌∙◌, ap, length, subst, sym}
use Rattle.std.proofs.lemmas.List.{length-map}
use Rattle.std.proofs.lemmas.Result.{IfErr-weaker, IfOk-weaker}
use Rattle.program_tasks.specs.LogFiles.{AreLogsPlaced}
use Rattle.program_tasks.proofs.Files.{of_files}
use Rattle.program_tasks.proofs.LogFiles.{placed_length, stream_stopped}
use Rattle.program_tasks.proofs.streaming.write_from.Goals as goal

pub stream_to-requires-clause-as_many : goal.stream_to-requires-clause-as_many
stream_to-requires-clause-as_many g c =
    let words = c.args.session.now.scripts.items in
    let placed : AreLogsPlaced g.S.FileStore.IsPlaced c.args.logs.now words c.begin.new.begun.items =
    subst (λ ws. AreLogsPlaced g.S.FileStore.IsPlaced c.args.logs.now ws c.begin.new.begun.items) c.as_slice.ensures.value c.in_ok-begin.ensures.placed in
    ap length c.as_mut_slice.ensures.value ∙ placed_length g.S.FileStore.IsPlaced c.args.logs.now words c.begin.new.begun.items placed
    ∙ sym (length-map words (λ s. s.client)) ∙ ap length (sym c.requires.clients) ∙ length-map c.args.sources.now (λ s. s.client)

pub returns-clause-written : goal.returns-clause-written
returns-clause-written g c =
    let words = c.args.session.now.scripts.items in
    let placed : AreLogsPlaced g.S.FileStore.IsPlaced c.args.logs.now words c.as_mut_slice.result.now =
    subst (λ ws. AreLogsPlaced g.S.FileStore.IsPlaced c.args.logs.now ws c.as_mut_slice.result.now) c.as_slice.ensures.value
    (subst (AreLogsPlaced g.S.FileStore.IsPlaced c.args.logs.now c.as_slice.result.now) (sym c.as_mut_slice.ensures.value) c.in_ok-begin.ensures.placed) in
    IfOk-weaker c.stream_to.result _ _
    (λ listing s. record {
      scripts = s.scripts;
      read = of_files g.S.FileStore.IsOpened g.S.Reader.Source.HasLeft words c.args.sources.now c.stream_to.new.sources s.scripts c.requires.opened s.read;
      begun = c.as_mut_slice.result.now;
      whole = c.stream_to.new.writers;
      placed = placed;
      wrote = s.logs;
      alone = s.isolated;
      listed = s.listed;
    })
    c.stream_to.ensures.streamed

pub returns-clause-fault : goal.returns-clause-fault
returns-clause-fault g c =
    let words = c.args.session.now.scripts.items in
    let placed : AreLogsPlaced g.S.FileStore.IsPlaced c.args.logs.now words c.as_mut_slice.result.now =
    subst (λ ws. AreLogsPlaced g.S.FileStore.IsPlaced c.args.logs.now ws c.as_mut_slice.result.now) c.as_slice.ensures.value
    (subst (AreLogsPlaced g.S.FileStore.IsPlaced c.args.logs.now c.as_slice.result.now) (sym c.as_mut_slice.ensures.value) c.in_ok-begin.ensures.placed) in
    IfErr-weaker c.stream_to.result _ _
    (stream_stopped g.S.FileStore.IsOpened g.S.Reader.Source.HasLeft g.S.FileStore.CannotOpen g.S.Reader.Source.failed g.S.FileStore.IsPlaced g.S.Writer.Sink.HasTaken g.S.Writer.Sink.failed g.S.Writer.Sink.takes_some g.S.FileStore.CannotPlace
    c.args.files.now c.args.session.now.until c.args.logs.now words c.args.sources.now c.stream_to.new.sources c.as_mut_slice.result.now c.stream_to.new.writers c.requires.opened placed c.stream_to.ensures.clients c.requires.clients)
    c.stream_to.ensures.stopped
