-- Objects that are added in two goes.
use Rattle.std.proofs.Common.{◌≡◌, ℕ, List, ◌++◌, ap, ◌∙◌, append_assoc}
use Rattle.std.specs.Prelude.{codes}
use Rattle.text_forms.specs.Hex.{in_hex}
use Rattle.log_forms.specs.declared.kind.Shape.{Shape}
use Rattle.log_forms.specs.Entries.{Arrival, Outcome}
use Rattle.log_forms.specs.Kinds.{shape_of}
use Rattle.log_forms.specs.Json.{members, message_members, outcome_members, json_arrival, json_reply}

-- texts with others between, and what follows them
three_joined : (a e b c d m rest : List ℕ) →
    (a ++ (e ++ (b ++ (c ++ (d ++ m))))) ++ rest ≡ a ++ (e ++ (b ++ (c ++ (d ++ (m ++ rest)))))
three_joined a e b c d m rest = simp append_assoc

five_joined : (a e b c d m f p g t h rest : List ℕ) →
    (a ++ (e ++ (b ++ (c ++ (d ++ (m ++ (f ++ (p ++ (g ++ (t ++ h)))))))))) ++ rest
    ≡ a ++ (e ++ (b ++ (c ++ (d ++ (m ++ (f ++ (p ++ (g ++ (t ++ (h ++ rest))))))))))
five_joined a e b c d m f p g t h rest = simp append_assoc

pub arrival_joined : (old front entry client text : List ℕ) (a : Arrival) (shape : Shape) → text ≡ in_hex a.message → shape ≡ shape_of a.message
    → front ≡ old ++ (codes "{\"entry\":\"" ++ (entry ++ (codes "\",\"client\":" ++ (client ++ (codes ",\"moment\":" ++ (a.moment ++ (codes ",\"port\":" ++ (a.port ++ (codes ",\"bytes\":\"" ++ (text ++ codes "\""))))))))))
    → front ++ members (message_members shape) ≡ old ++ json_arrival entry client a
arrival_joined old front entry client text a shape t s e =
    ap (λ xs. xs ++ members (message_members shape)) e
    ∙ append_assoc old _ (members (message_members shape))
    ∙ ap (λ xs. old ++ xs) (five_joined (codes "{\"entry\":\"") entry (codes "\",\"client\":") client (codes ",\"moment\":") a.moment (codes ",\"port\":") a.port (codes ",\"bytes\":\"") text (codes "\"") (members (message_members shape)))
    ∙ ap (λ xs. old ++ (codes "{\"entry\":\"" ++ (entry ++ (codes "\",\"client\":" ++ (client ++ (codes ",\"moment\":" ++ (a.moment ++ (codes ",\"port\":" ++ (a.port ++ (codes ",\"bytes\":\"" ++ (xs ++ (codes "\"" ++ members (message_members shape))))))))))))) t
    ∙ ap (λ x. old ++ (codes "{\"entry\":\"" ++ (entry ++ (codes "\",\"client\":" ++ (client ++ (codes ",\"moment\":" ++ (a.moment ++ (codes ",\"port\":" ++ (a.port ++ (codes ",\"bytes\":\"" ++ (in_hex a.message ++ (codes "\"" ++ members (message_members x))))))))))))) s

pub reply_joined : (old front client moment line : List ℕ) (o : Outcome)
    → front ≡ old ++ (codes "{\"entry\":\"reply\",\"client\":" ++ (client ++ (codes ",\"moment\":" ++ (moment ++ (codes ",\"line\":" ++ line)))))
    → front ++ members (outcome_members o) ≡ old ++ json_reply client moment line o
reply_joined old front client moment line o e =
    ap (λ xs. xs ++ members (outcome_members o)) e
    ∙ append_assoc old _ (members (outcome_members o))
    ∙ ap (λ xs. old ++ xs) (three_joined (codes "{\"entry\":\"reply\",\"client\":") client (codes ",\"moment\":") moment (codes ",\"line\":") line (members (outcome_members o)))
