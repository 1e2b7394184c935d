use Rattle.std.proofs.Common.{◌∙◌, ap, sym}
use Rattle.seq_session.specs.Sessions.{diagnosed_in}
use Rattle.program_tasks.specs.Why.{line_named, told_of_line}
use Rattle.program_tasks.proofs.why_answer.line_answer.Goals as goal

pub returns-clause-told : goal.returns-clause-told
returns-clause-told g c =
    let paths = c.args.session.now.scripts.items in
    let files = c.args.files.now in
    let until = c.args.session.now.until in
    let at = c.in_ok-at.at in
    let r = c.in_ok-run.ensures.run in
    let x = c.in_ok-explanation.ensures files until r.scripts r.is in
    record {
      scripts = r.scripts;
      read = r.read;
      told = record {
        client = at.client;
        line = at.line;
        named = ap (λ ws. line_named ws c.args.word.now) (sym c.as_slice.ensures.value) ∙ c.in_ok-at.ensures.named;
        text_is =
            c.in_ok-line_text.ensures
            ∙ ap (λ ds. told_of_line paths at.client at.line ds c.in_ok-explanation.explanation.slips.items) x.diagnostics
            ∙ ap (told_of_line paths at.client at.line (diagnosed_in files until r.scripts)) x.slips;
      };
    }
