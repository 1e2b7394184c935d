use Rattle.std.proofs.Common.{ap, sym, ◌∙◌, Some, ◌≤◌, length}
use Rattle.program_tasks.specs.Words.{scripts_seen}
use Rattle.program_tasks.proofs.Places.{seen-insert}
use Rattle.program_tasks.proofs.words.add_script.Goals as goal

pub returns-in-Ok-clause-added : goal.returns-in-Ok-clause-added
returns-in-Ok-clause-added c =
    let within : c.in-Some.place ≤ length c.args.scripts.now.items = rw c.as_slice.ensures.value at c.in-Some.ensures.within in
    ap (λ items. Some (scripts_seen items)) c.in-Ok.ensures.items
    ∙ ap Some (seen-insert c.args.scripts.now.items c.in-Some.place (record { client = c.args.client; path = c.args.path }) within)
    ∙ sym (rw c.as_slice.ensures.value at c.in-Some.ensures.place c.args.path.now)
