-- Whatever comes to pools, the listing stays.
use Rattle.std.proofs.Common.{◌≡◌, ℕ, ◌+◌, ◌++◌, Bool, true, false, cond, eqb, List, [], ◌∷◌, Option, Some, None, refl, sym, ap, ◌∙◌}
use Rattle.std.specs.Prelude.{min}
use Rattle.std.specs.Ordering.{nat_cmp}
use Rattle.std.specs.FinMap
use Rattle.std.specs.FinMap.{FinMap}
use Rattle.std.proofs.lemmas.Bool.{eqb-true}
use Rattle.cell_pools.specs.Pools.{has_room, with_item, most_lost}
use Rattle.cell_pools.specs.declared.listening.Listening.{Listening}
use Rattle.seq_clients.specs.Roster.{listens}
use Rattle.seq_patchbay.specs.Listing.{client_lines, edge_texts, listing}
use Rattle.patch_graph.specs.declared.edge.Edge.{Edge}
use Rattle.seq_patchbay.proofs.Texts.{agree}
use Rattle.seq_state.specs.declared.log.Delivery.{Delivery}
use Rattle.seq_state.specs.State.{Client, ClientPool, with_entry}
use Rattle.seq_state.specs.Step.{arrival, offer, pools_after}
use Rattle.seq_state.proofs.Effects.{get-put}

-- what comes to a pool does not change whether it listens
offer-listens : (o : Option ClientPool) (d : Delivery) → listens (offer o d) ≡ listens o
offer-listens None d = refl
offer-listens (Some p) d = go (has_room d.moment p) p.listening refl
  where
    go : (b : Bool) (o : Option Listening) → p.listening ≡ o → listens (Some (cond b (with_item d.moment (arrival d) p o) (record p { lost = min (p.lost + 1) most_lost }))) ≡ listens (Some p)
    go true None e = refl
    go true (Some l) e = sym (ap (λ x. listens (Some (record p { listening = x }))) e)
    go false o e = refl

offered-listens : (pools : FinMap nat_cmp ClientPool) (ds : List Delivery) (c : ℕ) → listens (FinMap.get (pools_after pools ds) c) ≡ listens (FinMap.get pools c)
offered-listens pools [] c = refl
offered-listens pools (d ∷ ds) c =
    let k : ℕ = d.target.client in
    let o : Option ClientPool = offer (FinMap.get pools k) d in
    offered-listens (with_entry pools k o) ds c ∙ ap listens (get-put pools k o c) ∙ go (eqb c k) refl
  where
    go : (b : Bool) → eqb c d.target.client ≡ b → listens (cond b (offer (FinMap.get pools d.target.client) d) (FinMap.get pools c)) ≡ listens (FinMap.get pools c)
    go true e = offer-listens (FinMap.get pools d.target.client) d ∙ ap (λ n. listens (FinMap.get pools n)) (sym (eqb-true c d.target.client e))
    go false e = refl

pub same-listing : (clients : FinMap nat_cmp Client) (pools : FinMap nat_cmp ClientPool) (ds : List Delivery) (edges : List Edge) → listing (record { clients = clients; pools = pools_after pools ds }) edges ≡ listing (record { clients = clients; pools = pools }) edges
same-listing clients pools ds edges =
    ap (λ t. t ++ edge_texts edges)
    (agree 128 64 _ _ (λ n. ap (client_lines n (FinMap.get clients n)) (offered-listens pools ds n)))
