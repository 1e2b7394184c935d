-- The logs of shut circles.
use Rattle.std.proofs.Common.{◌≡◌, ℕ, Bool, true, false, cond, eqb, ◌&&◌, List, [], ◌∷◌, ◌++◌, map, zero, suc, ◌+◌, ◌<◌, ◌≤◌, append-nil, arith, Option, Some, refl, sym, ap, subst, ◌∙◌}
use Rattle.std.specs.Prelude.{codes, slice_get}
use Rattle.std.specs.List.{filter, join_with_byte, list_all}
use Rattle.std.specs.Str.{bytes_eq}
use Rattle.std.proofs.lemmas.Bool.{false≢true, eqb-true}
use Rattle.std.proofs.lemmas.List.Splits.{join_with_byte-slice_split}
use Rattle.seq_state.specs.declared.input.Input.{Input}
use Rattle.seq_state.specs.Circle.{only, aims_outside}
use Rattle.seq_state.proofs.Effects.{none_some}
use Rattle.seq_state.proofs.Lists.{both_left}
use Rattle.script_text.specs.declared.reading.ScriptInput.{ScriptInput}
use Rattle.script_text.specs.Words.{lines, words}
use Rattle.script_text.proofs.Read.{script-client}
use Rattle.seq_circle.specs.Shut.{is_shut, is_whole_circle, lets_none_in, stays_within}
use Rattle.seq_circle.specs.declared.members.Joined.{Joined}
use Rattle.seq_circle.specs.Least.{is_member, place_if, places_from, places_where, reaches_out}
use Rattle.seq_circle.proofs.Shut.{shut_law}
use Rattle.seq_session.specs.declared.source.Script.{Script}
use Rattle.seq_session.specs.Rising.{RiseFrom, AreRising}
use Rattle.seq_session.specs.Merging.{sorted_inputs, inputs_of, lines_of}
use Rattle.seq_session.specs.Sessions.{FolderContents, script_reading, session, log_of, script_clients, script_for, only_scripts}
use Rattle.seq_session.specs.Blank.{outside_lines, blank, text_with_blanks, blank_line, cut_short}
use Rattle.seq_session.proofs.Isolated.{log_law, merge_law}
use Rattle.seq_session.proofs.Joining.{readings_sorted}
use Rattle.session_circle.specs.Laws.{LogsAgree, ScriptsLaw, NoScriptMatters, NoByteChanges, AreOutside}

same_script : (member : ℕ → Bool) (c : ℕ) → member c ≡ true → (scripts : List Script) → script_for c (only_scripts member scripts) ≡ script_for c scripts
same_script member c m [] = refl
same_script member c m (s ∷ scripts) = go (member s.client) refl (eqb s.client c) refl (same_script member c m scripts)
  where
    go : (a : Bool) → member s.client ≡ a → (b : Bool) → eqb s.client c ≡ b → script_for c (only_scripts member scripts) ≡ script_for c scripts →
        script_for c (cond a (s ∷ only_scripts member scripts) (only_scripts member scripts)) ≡ cond b (Some s) (script_for c scripts)
    go true e b f more = ap (λ x. cond x (Some s) (script_for c (only_scripts member scripts))) f ∙ ap (λ o. cond b (Some s) o) more
    go false e true f more = absurd (false≢true (sym e ∙ ap member (eqb-true s.client c f) ∙ m))
    go false e false f more = more

-- ---- a log with nothing left out

none_cut : (line : List ℕ) (ws : List (List ℕ)) → cut_short [] line ws ≡ line
none_cut line [] = refl
none_cut line (w ∷ []) = refl
none_cut line (w ∷ v ∷ []) = refl
none_cut line (w ∷ v ∷ n ∷ ws) = go (bytes_eq v (codes "line"))
  where
    go : (b : Bool) → cond (b && false) (w ++ codes " line " ++ n) line ≡ line
    go true = refl
    go false = refl

lines_alike : (ls : List (List ℕ)) → map (blank_line []) ls ≡ ls
lines_alike [] = refl
lines_alike (l ∷ ls) = ap (λ x. x ∷ map (blank_line []) ls) (none_cut l (words l)) ∙ ap (λ xs. l ∷ xs) (lines_alike ls)

none_blanked : (text : List ℕ) → text_with_blanks [] text ≡ text
none_blanked text = ap (join_with_byte 10) (lines_alike (lines text)) ∙ join_with_byte-slice_split 10 text

-- with nothing left out each byte is the same
pub logs_agree : (folder : FolderContents) (end : ℕ) (member : ℕ → Bool) (owner : Script) (scripts others : List Script) →
    blank member (script_reading folder end owner) (log_of folder end others owner) ≡ blank member (script_reading folder end owner) (log_of folder end scripts owner) → LogsAgree folder end member owner scripts others
logs_agree folder end member owner scripts others alike = record {
  but_for_outcomes = alike;
  each_byte = λ e.
      sym (ap (λ ns. text_with_blanks ns (log_of folder end others owner)) e ∙ none_blanked (log_of folder end others owner))
      ∙ alike
      ∙ ap (λ ns. text_with_blanks ns (log_of folder end scripts owner)) e ∙ none_blanked (log_of folder end scripts owner);
}

pub scripts_law : ScriptsLaw
scripts_law folder end owner member scripts others rising rising' there shut same =
    let mine : List Input = inputs_of (session folder end scripts) in
    let theirs : List Input = inputs_of (session folder end others) in
    let o : member owner.client ≡ true = both_left (member owner.client) (list_all (stays_within owner.client member) (only member mine)) (both_left (is_whole_circle owner.client member mine) (lets_none_in owner.client member mine) shut) in
    let there' : script_for owner.client others ≡ Some owner =
    sym (same_script member owner.client o others) ∙ ap (script_for owner.client) same ∙ same_script member owner.client o scripts ∙ there in
    let said : only member theirs ≡ only member mine =
    sym (merge_law.inputs folder end member others) ∙ ap (λ ss. inputs_of (session folder end ss)) same ∙ merge_law.inputs folder end member scripts in
    let alike : blank member (script_reading folder end owner) (log_of folder end others owner) ≡ blank member (script_reading folder end owner) (log_of folder end scripts owner) =
    log_law folder end owner member others rising' there' (shut_law folder.files owner.client member mine theirs shut said)
    ∙ ap (λ ss. blank member (script_reading folder end owner) (log_of folder end ss owner)) same
    ∙ sym (log_law folder end owner member scripts rising there (shut_law folder.files owner.client member mine mine shut refl)) in
    logs_agree folder end member owner scripts others alike

-- ---- what the code answers

pub found_client : (c : ℕ) (scripts : List Script) (s : Script) → script_for c scripts ≡ Some s → s.client ≡ c
found_client c [] s e = absurd (none_some s e)
found_client c (t ∷ scripts) s e = go (eqb t.client c) refl e (found_client c scripts s)
  where
    go : (b : Bool) → eqb t.client c ≡ b → cond b (Some t) (script_for c scripts) ≡ Some s → (script_for c scripts ≡ Some s → s.client ≡ c) → s.client ≡ c
    go true h e more = let same : t ≡ s = cc in ap (λ (x : Script). x.client) (sym same) ∙ eqb-true t.client c h
    go false h e more = more e

pub none_matters : (folder : FolderContents) (end : ℕ) (scripts : List Script) (client : ℕ) (member : ℕ → Bool) (inputs : List Input) →
    inputs ≡ inputs_of (session folder end scripts) → is_shut client member inputs ≡ true → NoScriptMatters folder end scripts client member
none_matters folder end scripts client member inputs e h owner others rising rising' there same =
    let mine : owner.client ≡ client = found_client client scripts owner there in
    scripts_law folder end owner member scripts others rising rising' (subst (λ c. script_for c scripts ≡ Some owner) (sym mine) there)
    (subst (λ c. is_shut c member (inputs_of (session folder end scripts)) ≡ true) (sym mine) (subst (λ is. is_shut client member is ≡ true) e h)) same

-- ---- lines apart

none_after : (low client : ℕ) (scripts : List Script) → RiseFrom low (script_clients scripts) → client ≤ low → only_scripts (λ c. eqb c client) scripts ≡ []
none_after low client [] r l = refl
none_after low client (s ∷ scripts) r l = go (eqb s.client client) refl (none_after s.client client scripts r.1 (omega (arith, r.0, l)))
  where
    go : (b : Bool) → eqb s.client client ≡ b → only_scripts (λ c. eqb c client) scripts ≡ [] → cond b (s ∷ only_scripts (λ c. eqb c client) scripts) (only_scripts (λ c. eqb c client) scripts) ≡ []
    go true e more = let same : s.client ≡ client = eqb-true s.client client e in let above : low < s.client = r.0 in absurd (omega arith)
    go false e more = more

-- of scripts whose clients rise, one is the client's
one_from : (low client : ℕ) (scripts : List Script) (o : Script) → RiseFrom low (script_clients scripts) → script_for client scripts ≡ Some o → only_scripts (λ c. eqb c client) scripts ≡ o ∷ []
one_from low client [] o r e = absurd (none_some o e)
one_from low client (s ∷ scripts) o r e = go (eqb s.client client) refl e (one_from s.client client scripts o r.1)
  where
    go : (b : Bool) → eqb s.client client ≡ b → cond b (Some s) (script_for client scripts) ≡ Some o →
        (script_for client scripts ≡ Some o → only_scripts (λ c. eqb c client) scripts ≡ o ∷ []) →
        cond b (s ∷ only_scripts (λ c. eqb c client) scripts) (only_scripts (λ c. eqb c client) scripts) ≡ o ∷ []
    go true h e more =
        let same : s ≡ o = cc in
        let mine : s.client ≡ client = eqb-true s.client client h in
        ap (λ ss. s ∷ ss) (none_after s.client client scripts r.1 (omega arith)) ∙ ap (λ x. x ∷ []) same
    go false h e more = more e

one_script : (client : ℕ) (scripts : List Script) (o : Script) → AreRising (script_clients scripts) → script_for client scripts ≡ Some o → only_scripts (λ c. eqb c client) scripts ≡ o ∷ []
one_script client [] o r e = absurd (none_some o e)
one_script client (s ∷ scripts) o r e = go (eqb s.client client) refl e
  where
    go : (b : Bool) → eqb s.client client ≡ b → cond b (Some s) (script_for client scripts) ≡ Some o →
        cond b (s ∷ only_scripts (λ c. eqb c client) scripts) (only_scripts (λ c. eqb c client) scripts) ≡ o ∷ []
    go true h e =
        let same : s ≡ o = cc in
        let mine : s.client ≡ client = eqb-true s.client client h in
        ap (λ ss. s ∷ ss) (none_after s.client client scripts r (omega arith)) ∙ ap (λ x. x ∷ []) same
    go false h e = one_from s.client client scripts o r e

-- what the client says in the session is what its script says
its_inputs : (folder : FolderContents) (end : ℕ) (scripts : List Script) (client : ℕ) (o : Script) → AreRising (script_clients scripts) → script_for client scripts ≡ Some o →
    filter (λ x. eqb x.input.actor client) (session folder end scripts) ≡ (script_reading folder end o).inputs
its_inputs folder end scripts client o r e =
    sym (merge_law.lines folder end (λ c. eqb c client) scripts)
    ∙ ap (session folder end) (one_script client scripts o r e)
    ∙ ap sorted_inputs (append-nil (script_reading folder end o).inputs)
    ∙ (readings_sorted folder end (o ∷ [])).0

-- the lines at the places of inputs that pass are the lines of those
lines_at : (p : Input → Bool) (f : ℕ → Option ℕ) (n : ℕ) (xs : List ScriptInput) → ((k : ℕ) → f (n + k) ≡ slice_get (lines_of xs) k) →
    map f (places_from p n (inputs_of xs)) ≡ map Some (lines_of (filter (λ x. p x.input) xs))
lines_at p f n [] h = refl
lines_at p f n (x ∷ xs) h =
    go (p x.input) (subst (λ m. f m ≡ Some x.line) (omega arith) (h zero)) (lines_at p f (n + 1) xs (λ k. subst (λ m. f m ≡ slice_get (lines_of xs) k) (omega arith) (h (suc k))))
  where
    go : (b : Bool) → f n ≡ Some x.line → map f (places_from p (n + 1) (inputs_of xs)) ≡ map Some (lines_of (filter (λ y. p y.input) xs)) →
        map f (place_if b n ++ places_from p (n + 1) (inputs_of xs)) ≡ map Some (lines_of (cond b (x ∷ filter (λ y. p y.input) xs) (filter (λ y. p y.input) xs)))
    go true e more = ap (λ o. o ∷ map f (places_from p (n + 1) (inputs_of xs))) e ∙ ap (λ os. Some x.line ∷ os) more
    go false e more = more

both_pass : (p q : ScriptInput → Bool) (xs : List ScriptInput) → filter (λ x. p x && q x) xs ≡ filter q (filter p xs)
both_pass p q [] = refl
both_pass p q (x ∷ xs) = go (p x) (both_pass p q xs)
  where
    go : (a : Bool) → filter (λ y. p y && q y) xs ≡ filter q (filter p xs) → cond (a && q x) (x ∷ filter (λ y. p y && q y) xs) (filter (λ y. p y && q y) xs) ≡ filter q (cond a (x ∷ filter p xs) (filter p xs))
    go true more = ap (λ ys. cond (q x) (x ∷ ys) ys) more
    go false more = more

pub outside_at : (folder : FolderContents) (end : ℕ) (scripts : List Script) (client : ℕ) (joined : List Joined) (lines : List ℕ) (inputs : List Input) (places : List ℕ) →
    lines ≡ lines_of (session folder end scripts) → inputs ≡ inputs_of (session folder end scripts) → places ≡ places_where (reaches_out client joined) inputs →
    AreOutside folder end scripts client (is_member client joined) lines places
outside_at folder end scripts client joined lines inputs places l i e o r t =
    let xs : List ScriptInput = session folder end scripts in
    let aims : ScriptInput → Bool = λ x. aims_outside client (is_member client joined) x.input.command in
    let says : ℕ → List ScriptInput → List (Option ℕ) = λ c ys. map Some (lines_of (filter (λ x. aims_outside c (is_member client joined) x.input.command) ys)) in
    ap (map (slice_get lines)) (e ∙ ap (places_where (reaches_out client joined)) i)
    ∙ ap (λ ls. map (slice_get ls) (places_where (reaches_out client joined) (inputs_of xs))) l
    ∙ lines_at (reaches_out client joined) (slice_get (lines_of xs)) 0 xs (λ k. ap (slice_get (lines_of xs)) (omega arith))
    ∙ ap (λ ys. map Some (lines_of ys)) (both_pass (λ x. eqb x.input.actor client) aims xs)
    ∙ ap (says client) (its_inputs folder end scripts client o r t)
    ∙ ap (λ c. says c (script_reading folder end o).inputs) (sym (script-client o.client folder.names end o.text ∙ found_client client scripts o t))

pub no_lines : (ns : List ℕ) → [] ≡ map Some ns → ns ≡ []
no_lines [] e = refl
no_lines (n ∷ ns) e = cc

-- with no place apart each byte stays
pub no_byte : (folder : FolderContents) (end : ℕ) (scripts : List Script) (client : ℕ) (member : ℕ → Bool) (lines places : List ℕ) →
    AreOutside folder end scripts client member lines places → NoScriptMatters folder end scripts client member → places ≡ [] → NoByteChanges folder end scripts client member
no_byte folder end scripts client member lines places a m e owner others r r' t same =
    (m owner others r r' t same).each_byte (no_lines (outside_lines member (script_reading folder end owner)) (ap (map (slice_get lines)) (sym e) ∙ a owner r t))
