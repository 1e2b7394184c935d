-- What refusals are about, and the capabilities that are read for it.
use Rattle.std.proofs.Common.{◌≡◌, ℕ, zero, suc, ◌+◌, ◌<◌, ◌≤◌, Bool, true, false, List, [], ◌∷◌, ◌++◌, length, set, get_or, take, cond, Option, Some, None, refl, sym, ap, subst, ◌∙◌, inl, inr, append_assoc, arith}
use Rattle.std.specs.List.{filter_map, cons_option, last_or}
use Rattle.std.specs.Option.{option_and_then}
use Rattle.std.specs.Prelude.{nat_lt}
use Rattle.std.proofs.lemmas.Bool.{cases_eq, ltb-true, ltb-false}
use Rattle.std.proofs.lemmas.Grind.{take_at_read}
use Rattle.std.proofs.lemmas.List.{append-nil, get_or-set_same, get_or-set_other}
use Rattle.std.proofs.lemmas.List.Elements.{filter_map-append}
use Rattle.node_table.specs.Addresses.{same}
use Rattle.node_table.specs.Kept.{IsPlace}
use Rattle.node_table.specs.declared.caps.Caps.{Caps}
use Rattle.node_table.specs.declared.number.Addr.{Addr}
use Rattle.seq_state.specs.declared.input.Input.{Input}
use Rattle.seq_state.specs.declared.log.LogEntry.{LogEntry}
use Rattle.patch_graph.proofs.Same.{same-from, differ, place-is, is-place, place-below}
use Rattle.seq_session.specs.declared.diagnostic.Diagnostic.{Diagnostic}
use Rattle.seq_session.specs.declared.made_caps.Making.{Making}
use Rattle.seq_session.specs.Diagnostics.{caps_of, made_in, last_made, refused_line, refused_after, refused_lines}
use Rattle.seq_session.specs.MadeCaps.{AreAtPlaces}

-- the lines of one entry more
refused_more : (lines : List ℕ) (inputs : List Input) (before es : List LogEntry) (e : LogEntry) →
    refused_after lines inputs before (es ++ e ∷ []) ≡ refused_after lines inputs before es ++ refused_line lines inputs (last_made inputs (before ++ es)) e
refused_more lines inputs before [] e =
    append-nil (refused_line lines inputs (last_made inputs before) e) ∙ ap (λ bs. refused_line lines inputs (last_made inputs bs) e) (sym (append-nil before))
refused_more lines inputs before (x ∷ es) e =
    let first : List Diagnostic = refused_line lines inputs (last_made inputs before) x in
    ap (λ ds. first ++ ds) (refused_more lines inputs (before ++ x ∷ []) es e
    ∙ ap (λ bs. refused_after lines inputs (before ++ x ∷ []) es ++ refused_line lines inputs (last_made inputs bs) e) (append_assoc before (x ∷ []) es))
    ∙ sym (append_assoc first (refused_after lines inputs (before ++ x ∷ []) es) (refused_line lines inputs (last_made inputs (before ++ x ∷ es)) e))

-- the entries so far, and the next
pub one_taken : {X : Type 0} (xs : List X) (i : ℕ) (x : X) → i < length xs → x ≡ get_or xs i x → take (i + 1) xs ≡ take i xs ++ x ∷ []
one_taken xs i x l e = (take_at_read xs i x l).1 ∙ ap (λ y. take i xs ++ y ∷ []) (sym e)

pub next_refused : (lines : List ℕ) (inputs : List Input) (entries : List LogEntry) (i : ℕ) (e : LogEntry) (old mid new : List Diagnostic) → i < length entries → e ≡ get_or entries i e →
    mid ≡ old ++ refused_lines lines inputs (take i entries) → new ≡ mid ++ refused_line lines inputs (last_made inputs (take i entries)) e →
    new ≡ old ++ refused_lines lines inputs (take (i + 1) entries)
next_refused lines inputs entries i e old mid new l is em en =
    let line : List Diagnostic = refused_line lines inputs (last_made inputs (take i entries)) e in
    en ∙ ap (λ ds. ds ++ line) em ∙ append_assoc old (refused_lines lines inputs (take i entries)) line
    ∙ ap (λ ds. old ++ ds) (sym (refused_more lines inputs [] (take i entries) e))
    ∙ ap (λ es. old ++ refused_lines lines inputs es) (sym (one_taken entries i e l is))

-- ---- what was last made

last_or-append : {X : Type 0} (o : Option X) (xs ys : List X) → last_or o (xs ++ ys) ≡ last_or (last_or o xs) ys
last_or-append o [] ys = refl
last_or-append o (x ∷ xs) ys = last_or-append (Some x) xs ys

abbrev or_else : {X : Type 0} → Option X → Option X → Option X
or_else None old = old
or_else (Some x) old = Some x

last_one : {X : Type 0} (old made : Option X) → last_or old (cons_option made []) ≡ or_else made old
last_one old None = refl
last_one old (Some x) = refl

-- of a node it is what the last entry has made, if it has made the node
last_after : (inputs : List Input) (before : List LogEntry) (e : LogEntry) (node : Addr) → last_made inputs (before ++ e ∷ []) node ≡ or_else (option_and_then (caps_of node) (made_in inputs e)) (last_made inputs before node)
last_after inputs before e node =
    let f : LogEntry → Option Caps = λ x. option_and_then (caps_of node) (made_in inputs x) in
    ap (last_or None) (filter_map-append f before (e ∷ [])) ∙ last_or-append None (filter_map f before) (filter_map f (e ∷ []))
    ∙ last_one (last_or None (filter_map f before)) (f e)

pub none_made : (inputs : List Input) (before : List LogEntry) (e : LogEntry) (table : List (Option Caps)) → made_in inputs e ≡ None →
    AreAtPlaces (last_made inputs before) table → AreAtPlaces (last_made inputs (before ++ e ∷ [])) table
none_made inputs before e table none kept node row place at =
    kept node row place at
    ∙ ap (λ m. or_else (option_and_then (caps_of node) m) (last_made inputs before node)) (sym none)
    ∙ sym (last_after inputs before e node)

of_node : (node other : Addr) (caps : Caps) (old : Option Caps) (b : Bool) → same other node ≡ b → or_else (caps_of node (record { node = other; caps = caps })) old ≡ cond b (Some caps) old
of_node node other caps old true e = ap (λ t. or_else (cond t (Some caps) None) old) e
of_node node other caps old false e = ap (λ t. or_else (cond t (Some caps) None) old) e

pub one_made : (inputs : List Input) (before : List LogEntry) (e : LogEntry) (table : List (Option Caps)) (m : Making) (r p : ℕ) → made_in inputs e ≡ Some m → IsPlace m.node r p → length table ≡ 2048 →
    AreAtPlaces (last_made inputs before) table → AreAtPlaces (last_made inputs (before ++ e ∷ [])) (set table p (Some m.caps))
one_made inputs before e table m r p some at long kept node row place k =
    let old : Option Caps = last_made inputs before node in
    let after : (b : Bool) → same m.node node ≡ b → last_made inputs (before ++ e ∷ []) node ≡ cond b (Some m.caps) old = λ b t.
    last_after inputs before e node ∙ ap (λ o. or_else (option_and_then (caps_of node) o) old) some ∙ of_node node m.node m.caps old b t in
    elim (cases_eq place p) [
      | inl here ↦
          let one : m.node ≡ node = place-is m.node node r row p at (subst (IsPlace node row) here k) in
          ap (λ n. get_or (set table p (Some m.caps)) n None) here
          ∙ get_or-set_same table p (Some m.caps) None (subst (λ n. p < n) (sym long) (place-below m.node r p at))
          ∙ sym (after true (same-from m.node node one))
      | inr apart ↦
          get_or-set_other table p place (Some m.caps) None apart ∙ kept node row place k
          ∙ sym (after false (differ m.node node (λ one. apart (is-place node m.node row r place p k at (sym one)))))
    ]

-- ---- what a table reads

-- within a list it does not matter what would stand past its end
within : {X : Type 0} (xs : List X) (i : ℕ) (d e : X) → i < length xs → get_or xs i d ≡ get_or xs i e
within [] i d e l = absurd (omega arith)
within (x ∷ xs) zero d e l = refl
within (x ∷ xs) (suc i) d e l = within xs i d e (omega arith)

past : {X : Type 0} (xs : List X) (i : ℕ) (d : X) → length xs ≤ i → get_or xs i d ≡ d
past [] i d l = refl
past (x ∷ xs) zero d l = absurd (omega arith)
past (x ∷ xs) (suc i) d l = past xs i d (omega arith)

pub read_there : (made : Addr → Option Caps) (table : List (Option Caps)) (node : Addr) (row place : ℕ) (caps : Option Caps) → AreAtPlaces made table → IsPlace node row place →
    true ≡ nat_lt place (length table) → caps ≡ get_or table place caps → caps ≡ made node
read_there made table node row place caps kept at there is =
    is ∙ within table place caps None (ltb-true place (length table) (sym there)) ∙ kept node row place at

pub read_past : (made : Addr → Option Caps) (table : List (Option Caps)) (node : Addr) (row place : ℕ) → AreAtPlaces made table → IsPlace node row place →
    false ≡ nat_lt place (length table) → None ≡ made node
read_past made table node row place kept at l = sym (past table place None (ltb-false place (length table) (sym l))) ∙ kept node row place at
