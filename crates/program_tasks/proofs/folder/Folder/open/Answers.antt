use Rattle.std.proofs.Common.{◌≡◌, ◌≤◌, ◌∙◌, length, map, take, drop, ap, arith}
use Rattle.std.specs.Prelude.{string_bytes}
use Rattle.byte_io.specs.Moved.{Took}
use Rattle.byte_io.proofs.Moved.{took_more}
use Rattle.script_text.specs.declared.script.TheConstants.{MOST_FILES}
use Rattle.program_tasks.specs.FolderFiles.{seen_lost}
use Rattle.program_tasks.specs.ForgivenFiles.{all_forgiven}
use Rattle.program_tasks.proofs.Opened.{take-short}
use Rattle.program_tasks.proofs.Told.{told_lost}
use Rattle.program_tasks.proofs.folder.Folder.open.Goals as goal

pub returns-clause-few : goal.returns-clause-few
returns-clause-few g c =
    let all = c.as_slice.result.now in
    let few : length c.in_ok-opened.opened.names.items ≤ length c.taken_files.result.0.now = c.in_ok-opened.ensures.few in
    let taken : length c.taken_files.result.0.now ≡ length (take MOST_FILES all) = ap length c.taken_files.ensures.taken in
    let short : length (take MOST_FILES all) ≤ MOST_FILES = take-short MOST_FILES all in
    omega (arith, few, taken, short)

pub returns-clause-told : goal.returns-clause-told
returns-clause-told g c =
    let names : c.taken_files.result.0.now ≡ take MOST_FILES c.args.self.now.names.items = c.taken_files.ensures.taken ∙ ap (take MOST_FILES) c.as_slice.ensures.value in
    let forgiven : Took g.N.Notes.HasTold c.args.notes.now (all_forgiven (map string_bytes (take MOST_FILES c.args.self.now.names.items)) c.args.self.now.contents.items) c.tell_forgiven.new.notes =
    rw (← names, ← c.as_slice-3.ensures.value) c.tell_forgiven.ensures in
    took_more g.N.Notes.HasTold _ _ _ _ _ forgiven
    (told_lost g.N.Notes.HasTold c.args.explains (map seen_lost c.in_ok-opened.opened.left_out.items) string_bytes c.args.self.now.names.items c.taken_files.result.1.now c.args.self.now.capitals.items _ _ _ _
    (c.taken_files.ensures.left_out ∙ ap (drop MOST_FILES) c.as_slice.ensures.value)
    (rw (← c.as_slice-4.ensures.value) c.tell_unplayable.ensures) c.tell_others.ensures (rw (← c.as_slice-5.ensures.value) c.tell_capitals.ensures))
