use Rattle.std.proofs.Common.{◌≡◌, ◌+◌, length, map, take, [], ap, sym, subst, ◌∙◌, arith, rules}
use Rattle.std.specs.Prelude.{string_bytes}
use Rattle.std.proofs.lemmas.List.{length-append, take-map}
use Rattle.std.specs.Option.{option_map}
use Rattle.script_text.specs.declared.script.TheConstants.{MOST_FILES}
use Rattle.folder_files.specs.Names.{AreInCapitals}
use Rattle.program_tasks.specs.Opened.{AreContents, IsFolder}
use Rattle.folder_files.proofs.Filtered.{take-all}
use Rattle.program_tasks.proofs.Files.{contents_next}
use Rattle.program_tasks.proofs.folder.Folder.read.Goals as goal

pub loop-name-init : goal.loop-name-init
loop-name-init g c = record {
  as_many = ap length c.new-contents.ensures.items;
  read = subst (λ cs. AreContents g.S.FileStore.IsOpened g.S.Reader.Source.HasLeft g.S.FileStore.CannotOpen g.S.Reader.Source.failed g.S.FileStore.IsStanding c.args.is_lenient c.in-Some.dir.now [] cs) (sym c.new-contents.ensures.items) tt;
}

pub loop-name-preserved : goal.loop-name-preserved
loop-name-preserved g c = record {
  as_many = ap length c.in_ok-push.ensures.items ∙ length-append c.loop-name.contents.items _ ∙ ap (λ n. n + 1) c.loop-name.invariant.as_many;
  read = contents_next g.S.FileStore.IsOpened g.S.Reader.Source.HasLeft g.S.FileStore.CannotOpen g.S.Reader.Source.failed g.S.FileStore.IsStanding c.args.is_lenient c.in-Some.dir.now string_bytes _ c.loop-name.name-index c.name-item.result _ _ _ c.loop-name-test.true c.name-item.is c.in_ok-push.ensures.items (search rules) c.loop-name.invariant.read;
}

pub returns-clause-read : goal.returns-clause-read
returns-clause-read g c =
    let all : map string_bytes (take c.loop-name.name-index c.taken_files.result.0.now) ≡ take MOST_FILES (map string_bytes c.in_ok-names.names.items) =
    ap (map string_bytes) (take-all c.loop-name.name-index c.taken_files.result.0.now c.loop-name.auto.name-index-end c.loop-name-test.false ∙ c.taken_files.ensures.taken ∙ ap (take MOST_FILES) c.as_slice-2.ensures.value)
    ∙ sym (take-map string_bytes MOST_FILES c.in_ok-names.names.items) in
    subst (λ d. IsFolder g.S.FileStore.IsOpened g.S.Reader.Source.HasLeft g.S.FileStore.CannotOpen g.S.Reader.Source.failed g.S.FileStore.IsStanding c.args.is_lenient g.S.FileStore.HasNames d (map string_bytes c.in_ok-names.names.items) c.loop-name.contents.items (map string_bytes c.in_ok-capitals.capitals.items))
    (ap (option_map (λ d. d.now)) (sym c.in-Some.is))
    (record {
      entries = _;
      listed = c.in_ok-entries.ensures.listed;
      files = c.in_ok-names.ensures;
      in_capitals = subst (λ entries. AreInCapitals c.args.is_lenient (map string_bytes entries) (map string_bytes c.in_ok-capitals.capitals.items)) c.as_slice.ensures.value c.in_ok-capitals.ensures;
      read = subst (λ names. AreContents g.S.FileStore.IsOpened g.S.Reader.Source.HasLeft g.S.FileStore.CannotOpen g.S.Reader.Source.failed g.S.FileStore.IsStanding c.args.is_lenient c.in-Some.dir.now names c.loop-name.contents.items) all c.loop-name.invariant.read;
    })

pub invariant_of-result-2 : goal.invariant_of-result-2
invariant_of-result-2 g c = record {
  as_many =
      let taken = ap length (c.taken_files.ensures.taken ∙ ap (take MOST_FILES) c.as_slice-2.ensures.value) in
      omega (arith, taken, c.loop-name.invariant.as_many, c.loop-name.auto.name-index-end, c.loop-name-test.false);
}
