-- What the owner of a closed circle sees of a session, and has in its log.
use Rattle.std.proofs.Common.{◌≡◌, ℕ, Bool, List, Some, sym, subst}
use Rattle.seq_state.specs.declared.input.Input.{Input}
use Rattle.seq_state.specs.Step.{IsTimed}
use Rattle.seq_state.specs.Circle.{IsClosed}
use Rattle.seq_state.proofs.Run.{isolation_law}
use Rattle.seq_session.specs.declared.source.Script.{Script}
use Rattle.seq_session.specs.Merging.{inputs_of}
use Rattle.seq_session.specs.Sessions.{FolderContents, session, script_for, only_scripts}
use Rattle.seq_session.proofs.Isolated.{log_law, timed_law}
use Rattle.session_circle.specs.Closing.{SeesMembersAlone, IsLogOfMembers}
use Rattle.session_circle.proofs.Scripts.{found_client, logs_agree}

module _ (folder : FolderContents) (end : ℕ) (scripts : List Script) (client : ℕ) (member : ℕ → Bool) (inputs : List Input) (said : inputs ≡ inputs_of (session folder end scripts)) where
  pub session_timed : IsTimed inputs end
  session_timed = subst (λ is. IsTimed is end) (sym said) (timed_law folder end scripts)

  pub sees_members : IsClosed folder.files client member inputs → SeesMembersAlone folder.files client member inputs end
  sees_members closed = isolation_law folder.files client member inputs end session_timed closed

  pub log_of_members : IsClosed folder.files client member inputs → IsLogOfMembers folder end scripts client member
  log_of_members closed owner rising there =
      let mine : owner.client ≡ client = found_client client scripts owner there in
      logs_agree folder end member owner scripts (only_scripts member scripts)
      (sym (log_law folder end owner member scripts rising (subst (λ c. script_for c scripts ≡ Some owner) (sym mine) there)
      (subst (λ c. IsClosed folder.files c member (inputs_of (session folder end scripts))) (sym mine) (subst (IsClosed folder.files client member) said closed))))
