-- The forms of the commands by their place.
use Rattle.std.proofs.Common.{◌≡◌, ℕ, Bor, List, map, length, get_or, ltb, IfSome, Option, Some, None, refl, sym, ap, ◌∙◌}
use Rattle.std.specs.List.{slice_get, position_or_len}
use Rattle.std.specs.Option.{is_some, option_map, option_copied}
use Rattle.std.specs.Str.{bytes_eq}
use Rattle.std.proofs.lemmas.List.Folds.{find_at}
use Rattle.std.proofs.lemmas.Option.{slice_get-map, slice_get_past, slice_get_read}
use Rattle.std.proofs.lemmas.Bool.{ltb-false, ltb-true}
use Rattle.script_text.specs.declared.command.TheConstants.{KEYWORDS}
use Rattle.script_text.specs.declared.line_form.Rest.{Rest}
use Rattle.script_text.specs.declared.line_faults.LineFault.TheVariants.{UnknownCommand}
use Rattle.script_text.specs.declared.word_kind.WordKind.{WordKind}
use Rattle.script_text.specs.LineFaults.{Form, forms, form_of, form_fault, fault_from, wrong_word}

-- the form of a word stands where the word does
form_found : (word : List ℕ) (k : ℕ) → k ≡ position_or_len (λ w. bytes_eq w.now word) KEYWORDS → slice_get forms k ≡ form_of word
form_found word k e = ap (slice_get forms) e ∙ sym (find_at (λ f. bytes_eq f.word word) forms)

-- forms that are alike in a part are alike in it at the place of a word
pub alike_found : {X Y : Type 0} (f : X → Y) (g : Form → Y) (xs : List X) (word : List ℕ) (k : ℕ) (o : Option X) → o ≡ slice_get xs k → k ≡ position_or_len (λ w. bytes_eq w.now word) KEYWORDS → map f xs ≡ map g forms → option_map f o ≡ option_map g (form_of word)
alike_found f g xs word k o e h same =
    ap (option_map f) e ∙ sym (slice_get-map f xs k) ∙ ap (λ ys. slice_get ys k) same ∙ slice_get-map g forms k
    ∙ ap (option_map g) (form_found word k h)

-- what a look-up gives, as a copy
pub copied_is : {X : Type 0} (o : Option (Bor X)) (xs : List X) (k : ℕ) → IfSome o (λ x. x.now ≡ get_or xs k x.now) → is_some o ≡ ltb k (length xs) → option_copied o ≡ slice_get xs k
copied_is None xs k h e = sym (slice_get_past xs k (ltb-false k (length xs) (sym e)))
copied_is (Some x) xs k h e = sym (slice_get_read xs (length xs) k x.now refl (ltb-true k (length xs) (sym e)) h)

-- ---- what is wrong after a word

pub no_form : (w : List ℕ) (o : Option Form) (ws : List (List ℕ)) → None ≡ option_map (λ f. f.kinds) o → Some (wrong_word 2 w UnknownCommand) ≡ form_fault w o ws
no_form w None ws e = refl
no_form w (Some f) ws e = cc

pub some_form : (w : List ℕ) (o : Option Form) (kinds : List WordKind) (rest : Rest) (ws : List (List ℕ)) → Some kinds ≡ option_map (λ f. f.kinds) o → Some rest ≡ option_map (λ f. f.rest) o → fault_from 3 kinds rest ws ≡ form_fault w o ws
some_form w None kinds rest ws e h = cc
some_form w (Some f) kinds rest ws e h =
    let k : kinds ≡ f.kinds = cc in
    let r : rest ≡ f.rest = cc in
    ap (λ ks. fault_from 3 ks rest ws) k ∙ ap (λ x. fault_from 3 f.kinds x ws) r
