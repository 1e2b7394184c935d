use Rattle.std.proofs.Common.{rules, ◌≡◌, ◌==◌, ◌∙◌, true, false, drop, length, sym, ap}
use Rattle.std.specs.Prelude.{string_bytes}
use Rattle.script_text.specs.declared.script.TheConstants.{MOST_FILES}
use Rattle.program_tasks.specs.FolderFiles.{seen_lost}
use Rattle.program_tasks.proofs.AllTaken.{some_unplayable, some_behind, none_before, capitals_told}
use Rattle.program_tasks.proofs.folder.Folder.takes_all.Goals.{then-not-is_empty-via-then-not-is_empty, then-not-is_empty-via-else-not-is_empty+then-not-is_empty-2}
use Rattle.program_tasks.proofs.folder.Folder.takes_all.Goals as goal

pub returns-then-not-is_empty : goal.returns-then-not-is_empty
returns-then-not-is_empty c =
    let left_out = c.args.opened.now.left_out.items in
    let names = c.args.self.now.names.items in
    let capitals = c.args.self.now.capitals.items in
    let rest : c.taken_files.result.1.now ≡ drop MOST_FILES names = c.taken_files.ensures.left_out ∙ ap (drop MOST_FILES) c.as_slice.ensures.value in
    let tested : c.is_empty.result ≡ (length left_out == 0) = search rules in
    elim c.then-not-is_empty.branch [
      | then-not-is_empty-via-then-not-is_empty w ↦
          some_unplayable seen_lost string_bytes c.args.explains left_out names c.taken_files.result.1.now capitals rest (sym tested ∙ w.if-not-is_empty.true)
      | then-not-is_empty-via-else-not-is_empty+then-not-is_empty-2 w ↦
          some_behind seen_lost string_bytes c.args.explains left_out names c.taken_files.result.1.now capitals rest (sym tested ∙ w.if-not-is_empty.false)
          (sym w.is_empty-else-not-is_empty.ensures ∙ w.if-not-is_empty-2.true)
    ]

pub returns-then-not-explains : goal.returns-then-not-explains
returns-then-not-explains c =
    let left_out = c.args.opened.now.left_out.items in
    let rest : c.taken_files.result.1.now ≡ drop MOST_FILES c.args.self.now.names.items = c.taken_files.ensures.left_out ∙ ap (drop MOST_FILES) c.as_slice.ensures.value in
    let tested : c.is_empty.result ≡ (length left_out == 0) = search rules in
    rw c.if-not-explains.true
    (none_before seen_lost string_bytes false left_out c.args.self.now.names.items c.taken_files.result.1.now c.args.self.now.capitals.items rest
    (sym tested ∙ c.if-not-is_empty.false) (sym c.is_empty-else-not-is_empty.ensures ∙ c.if-not-is_empty-2.false))

pub returns-else-not-explains : goal.returns-else-not-explains
returns-else-not-explains c =
    let left_out = c.args.opened.now.left_out.items in
    let capitals = c.args.self.now.capitals.items in
    let rest : c.taken_files.result.1.now ≡ drop MOST_FILES c.args.self.now.names.items = c.taken_files.ensures.left_out ∙ ap (drop MOST_FILES) c.as_slice.ensures.value in
    let tested : c.is_empty.result ≡ (length left_out == 0) = search rules in
    let last : c.is_empty-else-not-explains.result ≡ (length capitals == 0) = search rules in
    rw c.if-not-explains.false
    (last ∙ capitals_told string_bytes capitals
    ∙ none_before seen_lost string_bytes true left_out c.args.self.now.names.items c.taken_files.result.1.now capitals rest
    (sym tested ∙ c.if-not-is_empty.false) (sym c.is_empty-else-not-is_empty.ensures ∙ c.if-not-is_empty-2.false))
