-- Why scripts could not be read, from what each step tells.
use Rattle.std.proofs.Common.{◌≡◌, ◌⊎◌, ◌<◌, ℕ, zero, suc, Bool, List, [], ◌∷◌, ◌∙◌, length, drop, get_or, Some, Result, Ok, Err, eq-eqb, inl, inr, sym, ap, subst, arith}
use Rattle.std.specs.Prelude.{IfErr, IsErrAnd}
use Rattle.std.proofs.lemmas.Result.{IfErr-weaker}
use Rattle.seq_session.specs.declared.fault.SessionFault.{SessionFault}
use Rattle.seq_session.specs.declared.fault.SessionFault.TheVariants as session
use Rattle.seq_session.specs.declared.source.Script.{Script}
use Rattle.seq_session.specs.declared.source.ScriptSource.{ScriptSource}
use Rattle.seq_session.specs.Devices.{clients, reader_of, ReadersTell}
use Rattle.seq_session.specs.Sessions.{FolderContents, happens}
use Rattle.program_tasks.specs.declared.words.ScriptWord.{ScriptWord}
use Rattle.program_tasks.specs.Words.{scripts_seen, seen_script}
use Rattle.program_tasks.specs.declared.program_fault.ProgramFault.{ProgramFault}
use Rattle.program_tasks.specs.declared.program_fault.ProgramFault.TheVariants.{OutOfMemory, CannotRead, CannotRecord}
use Rattle.program_tasks.specs.declared.recording.Recording.{Recording}
use Rattle.program_tasks.specs.Faults.{IsScript, IsOfReading, IsOfOpening, IsOfScripts, IsOfEvents, IsOfRefusal}
use Rattle.folder_files.specs.Contents.{IsBroken}
use Rattle.program_tasks.specs.Opened.{AreSourcesOf, AreOfFiles}
use Rattle.program_tasks.specs.Sessions.{IsToldAs}

module _ {R : Type 0} (IsOpened : List ℕ → R → Type 0) (HasLeft : R → List ℕ → Type 0) (CannotOpen : List ℕ → Type 0) (failed : R → Bool) where
  -- the reader that is blamed was opened at the path of its client's word, and has failed
  broken : (words : List ScriptWord) (olds news : List (ScriptSource R)) (client : ℕ) (path : List ℕ) (k : ℕ) →
      k < length (scripts_seen words) → get_or (scripts_seen words) k (client, path) ≡ (client, path) →
      AreSourcesOf IsOpened words olds → clients news ≡ clients olds → ReadersTell failed (Some client) news →
      IsBroken IsOpened HasLeft CannotOpen failed path
  broken [] olds news client path k l e o c r = absurd (omega arith)
  broken (w ∷ words) [] news client path k l e o c r = absurd o
  broken (w ∷ words) (x ∷ olds) [] client path k l e o c r = cc
  broken (w ∷ words) (x ∷ olds) (n ∷ news) client path zero l e o c r =
      let named : seen_script w ≡ (client, path) = e in
      let same : n.client ≡ client = ap (λ xs. get_or xs 0 0) c ∙ o.0 ∙ ap (λ s. s.0) named in
      record {
        before = x.reader;
        after = n.reader;
        opened = subst (λ p. IsOpened p x.reader) (ap (λ s. s.1) named) o.1;
        broken = r.0 ∙ eq-eqb client n.client (sym same);
      }
  broken (w ∷ words) (x ∷ olds) (n ∷ news) client path (suc k) l e o c r =
      broken words olds news client path k (omega arith) e o.2 (let more : clients news ≡ clients olds = ap (drop 1) c in more) r.1

  -- a script that was blamed could not be read, and all else is out of memory
  pub of_session : (words : List ScriptWord) (olds news : List (ScriptSource R)) (fault : SessionFault) (told : ProgramFault) →
      AreSourcesOf IsOpened words olds → clients news ≡ clients olds → ReadersTell failed (reader_of fault) news → IsToldAs words fault told →
      IsOfScripts IsOpened HasLeft CannotOpen failed words told
  of_session words olds news (session.Read client) (CannotRead path) o c r h =
      ((client, h), inr (broken words olds news client path.now h.0 h.1 h.2 o c r))
  of_session words olds news (session.Read client) _ o c r h = absurd h
  of_session words olds news session.OutOfMemory OutOfMemory o c r h = tt
  of_session words olds news session.OutOfMemory _ o c r h = absurd h
  of_session words olds news (session.Write client) OutOfMemory o c r h = tt
  of_session words olds news (session.Write client) _ o c r h = absurd h
  of_session words olds news session.WriteListing OutOfMemory o c r h = tt
  of_session words olds news session.WriteListing _ o c r h = absurd h

  -- so of scripts that could not be opened
  pub of_opening : (words : List ScriptWord) (told : ProgramFault) → IsOfOpening CannotOpen words told → IsOfScripts IsOpened HasLeft CannotOpen failed words told
  of_opening words (CannotRead path) h = (h.0, inl h.1)
  of_opening words OutOfMemory h = tt
  of_opening words _ h = absurd h

  -- a script among the later ones is one among all
  script_more : (w : ScriptWord) (words : List ScriptWord) (path : List ℕ) → IsScript words path → IsScript (w ∷ words) path
  script_more w words path h = (h.0, (suc h.1.0, omega (arith, h.1.1), h.1.2))

  -- so of scripts that could not be read
  of_more : (w : ScriptWord) (words : List ScriptWord) (told : ProgramFault) → IsOfScripts IsOpened HasLeft CannotOpen failed words told → IsOfScripts IsOpened HasLeft CannotOpen failed (w ∷ words) told
  of_more w words (CannotRead path) h = (script_more w words path.now h.0, h.1)
  of_more w words OutOfMemory h = tt
  of_more w words _ h = absurd h

  pub later_unread : {T : Type 0} (words more : List ScriptWord) (w : ScriptWord) (r : Result T ProgramFault) → words ≡ w ∷ more →
      IfErr r (IsOfScripts IsOpened HasLeft CannotOpen failed more) → IfErr r (IsOfScripts IsOpened HasLeft CannotOpen failed words)
  later_unread words more w r e h = rw e (IfErr-weaker r _ _ (of_more w more) h)

  -- the first script could not be read
  of_first : (w : ScriptWord) (words : List ScriptWord) (told : ProgramFault) → IsOfReading IsOpened HasLeft CannotOpen failed w.path.now told → IsOfScripts IsOpened HasLeft CannotOpen failed (w ∷ words) told
  of_first w words (CannotRead path) h =
      ((w.client, (0, omega arith, ap (λ p. (w.client, p)) (sym h.0))), inr (subst (IsBroken IsOpened HasLeft CannotOpen failed) (sym h.0) h.1))
  of_first w words OutOfMemory h = tt
  of_first w words _ h = absurd h

  pub first_unread : {T : Type 0} (words more : List ScriptWord) (w : ScriptWord) (r : Result T ProgramFault) (x : ProgramFault) → words ≡ w ∷ more → IsErrAnd r (λ e. e ≡ x) →
      IsOfReading IsOpened HasLeft CannotOpen failed w.path.now x → IfErr r (IsOfScripts IsOpened HasLeft CannotOpen failed words)
  first_unread words more w (Ok v) x e same h = tt
  first_unread words more w (Err y) x e same h = rw (e, same) (of_first w more x h)

  module _ (folder : FolderContents) (end : ℕ) (words : List ScriptWord) (recording : Recording) (scripts : List Script) (read : AreOfFiles IsOpened HasLeft words scripts) (A B : ProgramFault → Type 0) where
    abbrev Why : ProgramFault → Type 0
    Why x = A x ⊎ (IsOfScripts IsOpened HasLeft CannotOpen failed words x ⊎ (IsOfRefusal IsOpened HasLeft folder end words recording x ⊎ B x))

    why : (x : ProgramFault) → IsOfEvents recording.what (happens folder end scripts) x → Why x
    why CannotRecord h = inr (inr (inl (record { scripts = scripts; read = read; refused = h })))
    why OutOfMemory h = inr (inl tt)
    why _ h = absurd h

    -- what is recorded makes no file
    pub of_events : {T : Type 0} (r : Result T ProgramFault) (x : ProgramFault) → IsErrAnd r (λ e. e ≡ x) → IsOfEvents recording.what (happens folder end scripts) x → IfErr r Why
    of_events (Ok v) x same h = tt
    of_events (Err e) x same h = why e (subst (IsOfEvents recording.what (happens folder end scripts)) (sym same) h)
