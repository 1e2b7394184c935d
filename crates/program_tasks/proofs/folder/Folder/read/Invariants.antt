use Rattle.std.proofs.Common.{◌≡◌, length, map, take}
use Rattle.std.specs.Prelude.{string_bytes}
use Rattle.program_tasks.specs.Opened.{AreContents}
use Rattle.program_tasks.proofs.folder.Folder.read.Given as goal

abbrev pub invariant-loop-name : goal.invariant-loop-name
invariant-loop-name g l = record {
  as_many : length l.contents.items ≡ l.name-index;
  read : AreContents g.S.FileStore.IsOpened g.S.Reader.Source.HasLeft g.S.FileStore.CannotOpen g.S.Reader.Source.failed g.S.FileStore.IsStanding l.is_lenient l.dir (map string_bytes (take l.name-index l.taken)) l.contents.items;
}
