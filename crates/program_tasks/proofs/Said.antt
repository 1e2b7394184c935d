-- The files of a session, from what each step gives.
use Rattle.std.proofs.Common.{◌≡◌, ◌++◌, ℕ, Bool, List, Option, Result, Ok, Err, map, take, refl, sym, subst}
use Rattle.std.specs.Prelude.{string_bytes, IfErr, IsErrAnd}
use Rattle.std.proofs.lemmas.List.{take-map}
use Rattle.byte_io.specs.Moved.{Took}
use Rattle.file_store.specs.declared.standing.Standing.{Standing}
use Rattle.script_text.specs.declared.script.TheConstants.{MOST_FILES}
use Rattle.seq_session.specs.Sessions.{FolderContents}
use Rattle.program_tasks.specs.declared.opening.FolderFiles.{FolderFiles}
use Rattle.program_tasks.specs.FolderFiles.{AreOpened, seen_files}
use Rattle.smf_grammar.specs.Played.{as_played}
use Rattle.program_tasks.specs.ForgivenFiles.{all_forgiven}
use Rattle.program_tasks.specs.LeftOut.{all_lost, lost_lines}
use Rattle.program_tasks.specs.declared.folder.Folder as read
use Rattle.program_tasks.specs.Opened.{IsFolder}
use Rattle.program_tasks.specs.Subcommands.{AreFilesOf}

module _ {R N : Type 0} (HasTold : N → List ℕ → Type 0) (IsOpened : List ℕ → R → Type 0) (HasLeft : R → List ℕ → Type 0) (CannotOpen : List ℕ → Type 0) (failed : R → Bool) (IsStanding : List ℕ → Standing → Type 0) (HasNames : List ℕ → List (List ℕ) → Type 0) where
  abbrev pub are_files : (is_lenient explains : Bool) (dir : Option (List ℕ)) (before after : N) (folder : read.Folder) (opened : FolderFiles) (files : FolderContents) →
      IsFolder IsOpened HasLeft CannotOpen failed IsStanding is_lenient HasNames dir (map string_bytes folder.names.items) folder.contents.items (map string_bytes folder.capitals.items) →
      AreOpened (map string_bytes (take MOST_FILES folder.names.items)) folder.contents.items (seen_files opened) →
      Took HasTold before (all_forgiven (map string_bytes (take MOST_FILES folder.names.items)) folder.contents.items ++ lost_lines explains (all_lost explains (seen_files opened).left_out (map string_bytes folder.names.items) (map string_bytes folder.capitals.items))) after →
      files.names ≡ (seen_files opened).names → files.files ≡ map as_played opened.files.items → AreFilesOf IsOpened HasLeft CannotOpen failed IsStanding HasNames HasTold is_lenient explains dir before after files
  are_files is_lenient explains dir before after folder opened files read found told names_are files_are = record {
    names = map string_bytes folder.names.items;
    contents = folder.contents.items;
    capitals = map string_bytes folder.capitals.items;
    read = read;
    found = seen_files opened;
    opened = subst (λ names. AreOpened names folder.contents.items (seen_files opened)) (sym (take-map string_bytes MOST_FILES folder.names.items)) found;
    names_are = names_are;
    files_are = files_are;
    lost = all_lost explains (seen_files opened).left_out (map string_bytes folder.names.items) (map string_bytes folder.capitals.items);
    lost_are = refl;
    told = rw (take-map string_bytes MOST_FILES folder.names.items) told;
  }

-- what holds of an error that was passed on
pub err_is : {T E : Type 0} (P : E → Type 0) (r : Result T E) (x : E) → IsErrAnd r (λ e. e ≡ x) → P x → IfErr r P
err_is P (Ok v) x same h = tt
err_is P (Err e) x same h = subst P (sym same) h
