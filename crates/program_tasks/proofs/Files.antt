-- What was read of files that were opened by their paths.
use Rattle.std.proofs.Common.{◌≡◌, ℕ, ◌+◌, ◌<◌, Bool, List, [], ◌∷◌, ◌++◌, ◌∙◌, length, map, take, get_or, Result, refl, sym, ap, append_assoc, inl, inr}
use Rattle.std.proofs.lemmas.List.{map_more, take_more}
use Rattle.file_store.specs.declared.standing.Standing.{Standing}
use Rattle.seq_session.specs.declared.source.Script.{Script}
use Rattle.seq_session.specs.declared.source.ScriptSource.{ScriptSource}
use Rattle.script_text.specs.declared.script.TheConstants.{MOST_SCRIPT}
use Rattle.seq_session.specs.Devices.{AreRead}
use Rattle.seq_session.specs.Sessions.{script_clients}
use Rattle.program_tasks.specs.Sessions.{owners}
use Rattle.program_tasks.specs.declared.words.ScriptWord.{ScriptWord}
use Rattle.program_tasks.specs.Apart.{AreFilesApart, IsOneFile}
use Rattle.folder_files.specs.Contents.{IsOfFile}
use Rattle.smf_mend.specs.declared.forgiven.Mended.{Mended}
use Rattle.program_tasks.specs.declared.left_out.WhyLeftOut.{WhyLeftOut}
use Rattle.folder_files.specs.Paths.{path_in}
use Rattle.program_tasks.specs.Opened.{AreOfFiles, ReadsScripts, AreSourcesOf, AreContents, IsTakenAt}

-- ---- scripts

module _ {R : Type 0} (IsOpened : List ℕ → R → Type 0) (HasLeft : R → List ℕ → Type 0) where
  -- what was read from sources is what was read from the files that they were opened at
  pub of_files : (words : List ScriptWord) (sources rests : List (ScriptSource R)) (scripts : List Script) →
      AreSourcesOf IsOpened words sources → AreRead HasLeft sources rests scripts → AreOfFiles IsOpened HasLeft words scripts
  of_files [] [] [] [] o r = tt
  of_files [] [] [] (s ∷ scripts) o r = absurd r
  of_files [] [] (n ∷ rests) [] o r = absurd r
  of_files [] [] (n ∷ rests) (s ∷ scripts) o r = absurd r
  of_files [] (x ∷ sources) rests scripts o r = absurd o
  of_files (w ∷ words) [] rests scripts o r = absurd o
  of_files (w ∷ words) (x ∷ sources) [] [] o r = absurd r
  of_files (w ∷ words) (x ∷ sources) [] (s ∷ scripts) o r = absurd r
  of_files (w ∷ words) (x ∷ sources) (n ∷ rests) [] o r = absurd r
  of_files (w ∷ words) (x ∷ sources) (n ∷ rests) (s ∷ scripts) o r = (
    r.0.client ∙ o.0,
    record { before = x.reader; after = n.reader; opened = o.1; gave = r.0.text },
    of_files words sources rests scripts o.2 r.1,
  )

  -- the first script is read, and then the others
  pub reads_next : (words more : List ScriptWord) (w : ScriptWord) (s : Script) (before mid after : List Script) → words ≡ w ∷ more → mid ≡ before ++ s ∷ [] →
      s.client ≡ w.client → IsOfFile IsOpened HasLeft (MOST_SCRIPT + 1) w.path.now s.text → ReadsScripts IsOpened HasLeft more mid after → ReadsScripts IsOpened HasLeft words before after
  reads_next words more w s before mid after e m client text r = record {
    scripts = s ∷ r.scripts;
    added = r.added ∙ ap (λ xs. xs ++ r.scripts) m ∙ append_assoc before (s ∷ []) r.scripts;
    read = rw e (client, text, r.read);
  }

  -- whose scripts they are
  pub clients_of_files : (words : List ScriptWord) (scripts : List Script) → AreOfFiles IsOpened HasLeft words scripts → owners words ≡ script_clients scripts
  clients_of_files [] [] o = refl
  clients_of_files [] (s ∷ scripts) o = absurd o
  clients_of_files (w ∷ words) [] o = absurd o
  clients_of_files (w ∷ words) (s ∷ scripts) o = ap (λ c. c ∷ owners words) (sym o.0) ∙ ap (λ cs. s.client ∷ cs) (clients_of_files words scripts o.2)

-- one more source
pub sources_more : {R : Type 0} (IsOpened : List ℕ → R → Type 0) (words : List ScriptWord) (sources : List (ScriptSource R)) (w : ScriptWord) (x : ScriptSource R) →
    AreSourcesOf IsOpened words sources → x.client ≡ w.client → IsOpened w.path.now x.reader → AreSourcesOf IsOpened (words ++ w ∷ []) (sources ++ x ∷ [])
sources_more IsOpened [] [] w x o e h = (e, h, tt)
sources_more IsOpened [] (y ∷ sources) w x o e h = absurd o
sources_more IsOpened (v ∷ words) [] w x o e h = absurd o
sources_more IsOpened (v ∷ words) (y ∷ sources) w x o e h = (o.0, o.1, sources_more IsOpened words sources w x o.2 e h)

pub sources_next : {R : Type 0} (IsOpened : List ℕ → R → Type 0) (words : List ScriptWord) (i : ℕ) (w : ScriptWord) (sources news : List (ScriptSource R)) (x : ScriptSource R) →
    i < length words → w ≡ get_or words i w → news ≡ sources ++ x ∷ [] → AreSourcesOf IsOpened (take i words) sources → x.client ≡ w.client → IsOpened w.path.now x.reader → AreSourcesOf IsOpened (take (i + 1) words) news
sources_next IsOpened words i w sources news x lt here e o c h =
    let first : take (i + 1) words ≡ take i words ++ w ∷ [] = take_more words i w lt ∙ ap (λ v. take i words ++ v ∷ []) (sym here) in
    rw (first, e) (sources_more IsOpened (take i words) sources w x o c h)

-- ---- the files of a folder

module _ {R : Type 0} (IsOpened : List ℕ → R → Type 0) (HasLeft : R → List ℕ → Type 0) (CannotOpen : List ℕ → Type 0) (failed : R → Bool) (IsStanding : List ℕ → Standing → Type 0) (is_lenient : Bool) (folder : List ℕ) where
  -- one more file
  contents_more : (names : List (List ℕ)) (contents : List (Result Mended WhyLeftOut)) (name : List ℕ) (content : Result Mended WhyLeftOut) →
      AreContents IsOpened HasLeft CannotOpen failed IsStanding is_lenient folder names contents → IsTakenAt IsOpened HasLeft CannotOpen failed IsStanding is_lenient (path_in folder name) content →
      AreContents IsOpened HasLeft CannotOpen failed IsStanding is_lenient folder (names ++ name ∷ []) (contents ++ content ∷ [])
  contents_more [] [] name content a h = (h, tt)
  contents_more [] (c ∷ contents) name content a h = absurd a
  contents_more (n ∷ names) [] name content a h = absurd a
  contents_more (n ∷ names) (c ∷ contents) name content a h = (a.0, contents_more names contents name content a.1 h)

  pub contents_next : {N : Type 0} (name_of : N → List ℕ) (names : List N) (i : ℕ) (name : N) (contents news : List (Result Mended WhyLeftOut)) (content : Result Mended WhyLeftOut) →
      i < length names → name ≡ get_or names i name → news ≡ contents ++ content ∷ [] → IsTakenAt IsOpened HasLeft CannotOpen failed IsStanding is_lenient (path_in folder (name_of name)) content →
      AreContents IsOpened HasLeft CannotOpen failed IsStanding is_lenient folder (map name_of (take i names)) contents →
      AreContents IsOpened HasLeft CannotOpen failed IsStanding is_lenient folder (map name_of (take (i + 1) names)) news
  contents_next name_of names i name contents news content lt here e h a =
      let first : map name_of (take (i + 1) names) ≡ map name_of (take i names) ++ name_of name ∷ [] =
      map_more name_of names i name lt ∙ ap (λ n. map name_of (take i names) ++ name_of n ∷ []) (sym here) in
      rw (first, e) (contents_more (map name_of (take i names)) contents (name_of name) content a h)

-- a path that is apart from the first file and from the others
pub files_apart : {N : Type 0} (AreApart : List ℕ → List ℕ → Type 0) (path folder : List ℕ) (name_of : N → List ℕ) (names more : List N) (first : N) → names ≡ first ∷ more →
    AreApart path (path_in folder (name_of first)) → AreFilesApart AreApart path folder (map name_of more) → AreFilesApart AreApart path folder (map name_of names)
files_apart AreApart path folder name_of names more first e here h = rw e (here, h)

-- a path that leads to the first file, or to one of the others
module _ {N : Type 0} (AreOne : List ℕ → List ℕ → Type 0) (path folder : List ℕ) (name_of : N → List ℕ) (names more : List N) (first : N) (e : names ≡ first ∷ more) where
  pub one_file_here : AreOne path (path_in folder (name_of first)) → IsOneFile AreOne path folder (map name_of names)
  one_file_here here = rw e (inl here)

  pub one_file_more : IsOneFile AreOne path folder (map name_of more) → IsOneFile AreOne path folder (map name_of names)
  one_file_more h = rw e (inr h)
