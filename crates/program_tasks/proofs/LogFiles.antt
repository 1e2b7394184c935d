-- Logs that are begun in a folder and written while their session runs.
use Rattle.std.proofs.Common.{◌≡◌, ◌⊎◌, ◌+◌, ◌<◌, ℕ, suc, Bool, List, [], ◌∷◌, ◌++◌, ◌∙◌, length, take, get_or, Result, Ok, Err, inl, inr, refl, sym, ap, subst}
use Rattle.std.specs.Prelude.{OnOk}
use Rattle.std.proofs.lemmas.List.{take_more}
use Rattle.seq_session.specs.declared.fault.SessionFault.{SessionFault}
use Rattle.seq_session.specs.declared.fault.SessionFault.TheVariants as session
use Rattle.seq_session.specs.declared.source.ScriptSource.{ScriptSource}
use Rattle.seq_session.specs.Devices.{clients, reader_of, log_of_fault, IsReading, ReadersTell, LogsTell}
use Rattle.seq_session.specs.Sessions.{FolderContents}
use Rattle.seq_session.specs.Streams.{IsCutShort}
use Rattle.program_tasks.specs.Apart.{AreScriptsApart}
use Rattle.program_tasks.specs.Faults.{IsOfScripts}
use Rattle.program_tasks.specs.LogFiles.{log_path, AreLogsApart, AreLogsPlaced, IsOfPlacing, IsLogTold, IsLogStuck, IsOfLogs, StreamStopsAs}
use Rattle.program_tasks.specs.Opened.{AreSourcesOf}
use Rattle.program_tasks.specs.Sessions.{owners}
use Rattle.program_tasks.specs.declared.log_folder.LogFolder.{LogFolder}
use Rattle.program_tasks.specs.declared.program_fault.ProgramFault.{ProgramFault}
use Rattle.program_tasks.specs.declared.program_fault.ProgramFault.TheVariants.{OutOfMemory, CannotWriteLog}
use Rattle.program_tasks.specs.declared.words.ScriptWord.{ScriptWord}
use Rattle.program_tasks.proofs.Files.{of_files}
use Rattle.program_tasks.proofs.Unread.{of_session}

-- the first log leads to none of the scripts, and so do the others
pub logs_apart : (AreApart : List ℕ → List ℕ → Type 0) (folder : List ℕ) (words more : List ScriptWord) (w : ScriptWord) (scripts : List ScriptWord) → words ≡ w ∷ more →
    AreScriptsApart AreApart (log_path folder w.client) scripts → AreLogsApart AreApart folder more scripts → AreLogsApart AreApart folder words scripts
logs_apart AreApart folder words more w scripts e here h = rw e (here, h)

module _ {W : Type 0} (IsPlaced : List ℕ → Bool → W → Type 0) (logs : LogFolder) where
  -- one more log
  placed_more : (words : List ScriptWord) (begun : List W) (w : ScriptWord) (x : W) → AreLogsPlaced IsPlaced logs words begun → IsPlaced (log_path logs.path.now w.client) logs.append x →
      AreLogsPlaced IsPlaced logs (words ++ w ∷ []) (begun ++ x ∷ [])
  placed_more [] [] w x o h = (h, tt)
  placed_more [] (y ∷ begun) w x o h = absurd o
  placed_more (v ∷ words) [] w x o h = absurd o
  placed_more (v ∷ words) (y ∷ begun) w x o h = (o.0, placed_more words begun w x o.1 h)

  pub placed_next : (words : List ScriptWord) (i : ℕ) (w : ScriptWord) (begun news : List W) (x : W) → i < length words → w ≡ get_or words i w → news ≡ begun ++ x ∷ [] →
      AreLogsPlaced IsPlaced logs (take i words) begun → IsPlaced (log_path logs.path.now w.client) logs.append x → AreLogsPlaced IsPlaced logs (take (i + 1) words) news
  placed_next words i w begun news x lt here e o h =
      let first : take (i + 1) words ≡ take i words ++ w ∷ [] = take_more words i w lt ∙ ap (λ v. take i words ++ v ∷ []) (sym here) in
      rw (first, e) (placed_more (take i words) begun w x o h)

  -- there are as many logs as words
  pub placed_length : (words : List ScriptWord) (begun : List W) → AreLogsPlaced IsPlaced logs words begun → length begun ≡ length words
  placed_length [] [] o = refl
  placed_length [] (y ∷ begun) o = absurd o
  placed_length (w ∷ words) [] o = absurd o
  placed_length (w ∷ words) (y ∷ begun) o = ap suc (placed_length words begun o.1)

module _ {R V : Type 0} (IsOpened : List ℕ → R → Type 0) (HasLeft : R → List ℕ → Type 0) (CannotOpen : List ℕ → Type 0) (failed : R → Bool)
    (IsPlaced : List ℕ → Bool → V → Type 0) (HasWritten : V → List ℕ → Type 0) (writer_failed takes_some : V → Bool) (CannotPlace : List ℕ → Type 0)
    (folder : FolderContents) (end : ℕ) (logs : LogFolder) (words : List ScriptWord) where
  abbrev pub WhyUnwritten : ProgramFault → Type 0
  WhyUnwritten told = IsOfScripts IsOpened HasLeft CannotOpen failed words told ⊎ IsOfLogs IsOpened HasLeft IsPlaced HasWritten writer_failed takes_some CannotPlace folder end logs words told

  -- a log could not be begun
  pub of_placing : (told : ProgramFault) → IsOfPlacing CannotPlace logs.path.now told → WhyUnwritten told
  of_placing (CannotWriteLog path client) h = inr (h.0, inl (subst (λ p. CannotPlace (log_path p client)) refl h.1))
  of_placing OutOfMemory h = inl tt
  of_placing _ h = absurd h

  module _ (sources rests : List (ScriptSource R)) (begun stopped : List V) (opened : AreSourcesOf IsOpened words sources) (placed : AreLogsPlaced IsPlaced logs words begun)
      (same : clients rests ≡ clients sources) where
    -- a script could not be read, a log is stuck, or out of memory
    of_stream : (fault : SessionFault) (told : ProgramFault) → IsLogTold logs.path.now words fault told → ReadersTell failed (reader_of fault) rests →
        LogsTell writer_failed takes_some (log_of_fault fault) (owners words) stopped →
        (IsReading fault × (stopped ≡ begun)) ⊎ IsCutShort HasLeft HasWritten folder end sources rests begun stopped fault → WhyUnwritten told
    of_stream (session.Write client) (CannotWriteLog path named) h r l (inl x) = absurd x.0
    of_stream (session.Write client) (CannotWriteLog path named) h r l (inr cut) =
        let stuck : IsLogStuck IsOpened HasLeft IsPlaced HasWritten writer_failed takes_some folder end logs words client = record {
          scripts = cut.scripts;
          read = of_files IsOpened HasLeft words sources rests cut.scripts opened cut.read;
          begun = begun;
          stopped = stopped;
          placed = placed;
          cut = cut.logs;
          told = l;
        } in
        inr (h.0, inr (subst (IsLogStuck IsOpened HasLeft IsPlaced HasWritten writer_failed takes_some folder end logs words) (sym h.1) stuck))
    of_stream (session.Write client) _ h r l s = absurd h
    of_stream (session.Read client) told h r l s = inl (of_session IsOpened HasLeft CannotOpen failed words sources rests (session.Read client) told opened same r h)
    of_stream session.OutOfMemory told h r l s = inl (of_session IsOpened HasLeft CannotOpen failed words sources rests session.OutOfMemory told opened same r h)
    of_stream session.WriteListing told h r l s = inl (of_session IsOpened HasLeft CannotOpen failed words sources rests session.WriteListing told opened same r h)

    pub stream_stopped : clients sources ≡ owners words → (told : ProgramFault) → StreamStopsAs HasLeft failed HasWritten writer_failed takes_some folder end logs.path.now words sources rests begun stopped told → WhyUnwritten told
    stream_stopped named told s = of_stream s.fault told s.told_as s.readers (subst (λ cs. LogsTell writer_failed takes_some (log_of_fault s.fault) cs stopped) named s.logs) s.cut

-- ---- of the folder that was read before

pub on_both : {T E A B C : Type 0} (r : Result T E) → (A → B → C) → OnOk r A → OnOk r B → OnOk r C
on_both (Ok x) f a b = f a b
on_both (Err e) f a b = tt

pub stopped_where : {A B C D E L : Type 0} → (C → D) → A ⊎ (B ⊎ (C ⊎ E)) → L ⊎ (A ⊎ (B ⊎ (D ⊎ E)))
stopped_where f (inl a) = inr (inl a)
stopped_where f (inr (inl b)) = inr (inr (inl b))
stopped_where f (inr (inr (inl c))) = inr (inr (inr (inl (f c))))
stopped_where f (inr (inr (inr e))) = inr (inr (inr (inr e)))
