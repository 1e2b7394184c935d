use Rattle.std.proofs.Common.{subst, rules}
use Rattle.byte_io.specs.Moved.{Took}
use Rattle.seq_session.specs.Rising.{AreRising}
use Rattle.program_tasks.specs.Circles.{AreAnswersTold}
use Rattle.program_tasks.proofs.Files.{clients_of_files}
use Rattle.program_tasks.proofs.answering.print_circle.Goals as goal

pub returns-clause-printed : goal.returns-clause-printed
returns-clause-printed g c =
    let scripts = c.in_ok-scripts.scripts.items in
    let took : Took g.W.Sink.HasTaken c.args.out.now c.as_slice-2.result.now c.send.new.out = search rules in
    record {
      scripts = scripts;
      read = c.in_ok-scripts.ensures.read;
      rising = subst AreRising (clients_of_files g.S.FileStore.IsOpened g.S.Reader.Source.HasLeft c.args.session.now.scripts.items scripts c.in_ok-scripts.ensures.read) c.requires.rising;
      text = c.in_ok-told.told.text.items;
      told = subst (λ ss. AreAnswersTold c.args.files.now c.args.session.now.until ss c.args.question c.in_ok-told.told.answer c.in_ok-told.told.text.items) c.as_slice.ensures.value c.in_ok-told.ensures.told;
      took = subst (λ text. Took g.W.Sink.HasTaken c.args.out.now text c.send.new.out) c.as_slice-2.ensures.value took;
    }
