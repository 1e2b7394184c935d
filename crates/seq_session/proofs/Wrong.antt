-- Lines that are skipped, and the words that are wrong in them.
use Rattle.std.proofs.Common.{◌≡◌, ℕ, ◌-◌, ◌<◌, zero, suc, Bor, List, ◌∷◌, ◌++◌, map, length, get_or, refl, sym, ap, ◌∙◌, append_assoc, arith}
use Rattle.std.specs.Option.{option_map, option_and_then}
use Rattle.std.proofs.lemmas.Option.{slice_get-map, slice_get_read}
use Rattle.script_text.specs.declared.reading.ScriptRead.{ScriptRead}
use Rattle.script_text.specs.LineFaults.{line_fault}
use Rattle.script_text.specs.Words.{lines}
use Rattle.seq_session.specs.declared.diagnostic.Diagnostic.{Diagnostic}
use Rattle.seq_session.specs.declared.source.Script.{Script}
use Rattle.seq_session.specs.Diagnostics.{fault_at, skipped_line, all_skipped_lines}

-- the fault of a line that is there
pub fault_there : (ls : List (Bor (List ℕ))) (number : ℕ) (line : Bor (List ℕ)) → (number ≡ 0 → ⊥) → (number - 1) < length ls → line ≡ get_or ls (number - 1) line →
    fault_at (map (λ l. l.now) ls) number ≡ line_fault line.now
fault_there ls zero line z l e = absurd (z refl)
fault_there ls (suc n) line z l e =
    let before : suc n - 1 ≡ n = omega arith in
    ap (option_and_then line_fault) (slice_get-map (λ x. x.now) ls n ∙ ap (option_map (λ x. x.now)) (slice_get_read ls (length ls) n line refl (omega arith) (e ∙ ap (λ i. get_or ls i line) before)))

-- the lines of the first script, and those of the others
pub first_skipped : (scripts more_scripts : List Script) (reads more_reads : List ScriptRead) (s : Script) (r : ScriptRead) (ls : List (List ℕ)) (old mid new : List Diagnostic) →
    scripts ≡ s ∷ more_scripts → reads ≡ r ∷ more_reads → ls ≡ lines s.text → mid ≡ old ++ map (skipped_line s.client ls) r.skips → new ≡ mid ++ all_skipped_lines more_scripts more_reads →
    new ≡ old ++ all_skipped_lines scripts reads
first_skipped scripts more_scripts reads more_reads s r ls old mid new es er el em en =
    en ∙ ap (λ ds. ds ++ all_skipped_lines more_scripts more_reads) (em ∙ ap (λ xs. old ++ map (skipped_line s.client xs) r.skips) el)
    ∙ append_assoc old (map (skipped_line s.client (lines s.text)) r.skips) (all_skipped_lines more_scripts more_reads)
    ∙ ap (λ ss. old ++ all_skipped_lines ss (r ∷ more_reads)) (sym es)
    ∙ ap (λ rs. old ++ all_skipped_lines scripts rs) (sym er)
