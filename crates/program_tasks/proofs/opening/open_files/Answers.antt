use Rattle.std.proofs.Common.{◌≡◌, ◌≤◌, length, map, ap, sym, ◌∙◌, arith}
use Rattle.std.specs.Prelude.{string_bytes}
use Rattle.std.proofs.lemmas.List.{length-map}
use Rattle.program_tasks.specs.FolderFiles.{seen_files, seen_lost}
use Rattle.program_tasks.proofs.Found.{opens_first, next_opened, all_opened, many_opened, few_opened}
use Rattle.program_tasks.proofs.opening.open_files.Goals as goal

pub loop-place-init : goal.loop-place-init
loop-place-init c =
    let new = c.new-opened.ensures in
    opens_first _ _ (seen_files c.new-opened.result) (ap (map (λ name. name.items)) new.names) new.files (ap (map seen_lost) new.left_out)

pub loop-place-preserved : goal.loop-place-preserved
loop-place-preserved c =
    next_opened string_bytes c.args.names.now c.args.contents.now c.requires c.loop-place.place _ _ _ _ _ c.loop-place-test.true c.index-names-place.is c.index-contents-place.is
    c.as_str.ensures.value c.loop-place.invariant c.in_ok-add.ensures

pub returns-clause-opened : goal.returns-clause-opened
returns-clause-opened c =
    all_opened string_bytes c.args.names.now c.args.contents.now c.requires c.loop-place.place (seen_files c.loop-place.opened) c.loop-place-test.false c.loop-place.invariant

pub returns-clause-as_many : goal.returns-clause-as_many
returns-clause-as_many c =
    let o = c.loop-place.opened in
    sym (length-map o.names.items (λ name. name.items))
    ∙ many_opened string_bytes c.args.names.now c.args.contents.now c.requires c.loop-place.place (seen_files o) (returns-clause-opened c)

pub returns-clause-few : goal.returns-clause-few
returns-clause-few c =
    let o = c.loop-place.opened in
    let h : length (seen_files o).names ≤ length (map string_bytes c.args.names.now) = few_opened _ c.args.contents.now (seen_files o) (returns-clause-opened c) in
    let named : length (seen_files o).names ≡ length o.names.items = length-map o.names.items (λ name. name.items) in
    let all : length (map string_bytes c.args.names.now) ≡ length c.args.names.now = length-map c.args.names.now string_bytes in
    omega (arith, h, named, all)
