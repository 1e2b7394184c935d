-- Definition: Why a path cannot be read.
use Rattle.std.specs.Prelude.{ℕ, List, [], codes}
use Rattle.file_store.specs.declared.standing.Standing.{Standing}
use Rattle.file_store.specs.declared.standing.Standing.TheVariants.{Nothing, Folder, Special, Denied, File}

-- why a path cannot be read, where what stands there says so
abbrev pub unread_text : Standing → List ℕ
unread_text Nothing = codes ": there is no such file"
unread_text Folder = codes ": it is a folder"
unread_text Special = []
unread_text Denied = codes ": permission is denied"
unread_text File = []
