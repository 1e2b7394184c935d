-- What is told of a run of scripts is that of just these.
use Rattle.std.proofs.Common.{◌≡◌, ℕ, List, map, not, ap, ◌∙◌}
use Rattle.std.specs.List.{filter}
use Rattle.node_table.specs.declared.number.PortAddr.{PortAddr}
use Rattle.seq_session.specs.declared.session_run.SessionRun.{SessionRun}
use Rattle.seq_session.specs.declared.source.Script.{Script}
use Rattle.seq_session.specs.Devices.{IsRunOf}
use Rattle.seq_session.specs.Diagnostics.{diagnostics}
use Rattle.seq_session.specs.MadePorts.{had_port}
use Rattle.seq_session.specs.Merging.{inputs_of, lines_of, merge_of}
use Rattle.seq_session.specs.Sessions.{FolderContents, script_reading, session, diagnosed_in, slips_in}
use Rattle.seq_session.specs.Slips.{slips}
use Rattle.sounding_notes.specs.Sounding.{sounding}
use Rattle.program_tasks.specs.declared.explanation.Explanation.{Explanation}
use Rattle.program_tasks.specs.Explained.{absent_ports, IsExplainedBy}

diagnosed : (folder : FolderContents) (end : ℕ) (scripts : List Script) (run : SessionRun) → IsRunOf folder end scripts run →
    diagnostics run.scripts run.reads run.merged run.log.entries ≡ diagnosed_in folder end scripts
diagnosed folder end scripts run is =
    let merged : run.merged ≡ merge_of (map (script_reading folder end) scripts) = λ j. record { inputs = is.inputs j; lines = is.lines j } in
    ap (λ ss. diagnostics ss run.reads run.merged run.log.entries) is.scripts_are
    ∙ ap (λ rs. diagnostics scripts rs run.merged run.log.entries) is.reads
    ∙ ap (λ m. diagnostics scripts (map (script_reading folder end) scripts) m run.log.entries) merged
    ∙ ap (diagnostics scripts (map (script_reading folder end) scripts) (merge_of (map (script_reading folder end) scripts))) is.plain

slipped : (folder : FolderContents) (end : ℕ) (scripts : List Script) (run : SessionRun) → IsRunOf folder end scripts run →
    slips run.merged.inputs run.merged.lines run.log.entries ≡ slips_in folder end scripts
slipped folder end scripts run is =
    ap (λ xs. slips xs run.merged.lines run.log.entries) is.inputs
    ∙ ap (λ ls. slips (inputs_of (session folder end scripts)) ls run.log.entries) is.lines
    ∙ ap (slips (inputs_of (session folder end scripts)) (lines_of (session folder end scripts))) is.plain

missed : (folder : FolderContents) (end : ℕ) (scripts : List Script) (run : SessionRun) (ports : List PortAddr) → IsRunOf folder end scripts run →
    filter (λ p. not (had_port p run.merged.inputs run.log.entries)) ports ≡ absent_ports folder end scripts ports
missed folder end scripts run ports is =
    ap (λ xs. filter (λ p. not (had_port p xs run.log.entries)) ports) is.inputs
    ∙ ap (λ es. filter (λ p. not (had_port p (inputs_of (session folder end scripts)) es)) ports) is.plain

-- an explanation is that of whatever scripts were run
pub explained_by : (run : SessionRun) (ports : List PortAddr) (x : Explanation) → x.diagnostics.items ≡ diagnostics run.scripts run.reads run.merged run.log.entries →
    x.slips.items ≡ slips run.merged.inputs run.merged.lines run.log.entries → x.losses.items ≡ run.log.losses → x.sounding.items ≡ sounding run.log.entries →
    x.absent.items ≡ filter (λ p. not (had_port p run.merged.inputs run.log.entries)) ports → IsExplainedBy run ports x
explained_by run ports x d p l s a folder end scripts is = record {
  diagnostics = d ∙ diagnosed folder end scripts run is;
  slips = p ∙ slipped folder end scripts run is;
  losses = l ∙ is.losses;
  sounding = s ∙ ap sounding is.plain;
  absent = a ∙ missed folder end scripts run ports is;
}
