use Rattle.std.proofs.Common.{◌≡◌, ◌⊎◌, ℕ, List, rules, subst}
use Rattle.std.specs.Prelude.{codes}
use Rattle.std.proofs.lemmas.Result.{IfErr-weaker}
use Rattle.clap.specs.Matches.{found_of}
use Rattle.midiseq.specs.Given.{text_of}
use Rattle.program_tasks.specs.Faults.{IsOfWriting}
use Rattle.program_tasks.specs.Made.{IsMakingStopped, IsOfOwnText}
use Rattle.midiseq.proofs.files.make.Goals as goal

pub returns-clause-fault : goal.returns-clause-fault
returns-clause-fault g c =
    let path_is : c.unwrap_or-path.result.now ≡ text_of (found_of c.args.found.now) (codes "out") = search rules in
    IfErr-weaker c.make.result _ _
    (λ e why. record {
      text = c.named-text.result;
      named = search rules;
      why = subst (λ (w : List ℕ).
          IsOfOwnText g.S.FileStore.AreOne c.named-text.result w e
          ⊎ (IsMakingStopped g.S.FileStore.IsOpened g.S.FileStore.CannotOpen g.S.Reader.Source.HasLeft g.S.Reader.Source.failed g.I.Source.HasLeft g.I.Source.failed c.named-text.result c.args.input.now c.make.new.input e
          ⊎ IsOfWriting g.S.FileStore.IsBegun g.S.Writer.Sink.failed g.S.Writer.Sink.takes_some g.S.FileStore.CannotBegin g.S.FileStore.CannotStore w e)) path_is why;
    })
    c.make.ensures.fault
