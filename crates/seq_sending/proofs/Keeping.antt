-- What a table of ways knows stays so, where clients change that no filter changes of.
use Rattle.std.proofs.Common.{◌≡◌, ℕ, Bool, true, false, eqb, cond, Option, Some, None, refl, sym, ap, subst, ◌∙◌}
use Rattle.std.specs.Prelude.{◌+◌, List, Result, Ok, Err, OnOk, OnErr, is_err}
use Rattle.std.specs.Ordering.{nat_cmp}
use Rattle.std.specs.FinMap
use Rattle.std.specs.FinMap.{FinMap}
use Rattle.std.proofs.lemmas.Bool.{eqb-true}
use Rattle.std.proofs.lemmas.Result.{on_err_weaker}
use Rattle.node_table.specs.Numbers.{first_client}
use Rattle.patch_graph.specs.Index.{targets_of}
use Rattle.patch_graph.specs.Paths.{hops}
use Rattle.patch_graph.specs.declared.edge.Edge.{Edge}
use Rattle.seq_state.specs.State.{Client, PortInfo, Queue, filters_of, with_entry}
use Rattle.seq_state.specs.Effect.{with_change, put_port, put_queue}
use Rattle.seq_state.proofs.Effects.{get-put}
use Rattle.seq_clients.specs.Roster.{Roster, with_client}
use Rattle.seq_sending.specs.Table.{AreWaysKept}
use Rattle.seq_sending.specs.declared.table.WayTable.{WayTable}
use Rattle.seq_sending.proofs.Known.{slot-moved}
use Rattle.seq_sending.proofs.Onward.{SameFilters, number-same}

-- ways are kept, where one client has another entry with the same filters
entry-same : (clients : FinMap nat_cmp Client) (actor : ℕ) (o : Option Client) → filters_of (FinMap.get clients actor) ≡ filters_of o → SameFilters clients (with_entry clients actor o)
entry-same clients actor o same c = go (eqb c actor) refl ∙ sym (ap filters_of (get-put clients actor o c))
  where
    go : (b : Bool) → eqb c actor ≡ b → filters_of (FinMap.get clients c) ≡ filters_of (cond b o (FinMap.get clients c))
    go true e = ap (λ x. filters_of (FinMap.get clients x)) (eqb-true c actor e) ∙ same
    go false e = refl

pub kept-with : (was now : Roster) (edges : List Edge) (table : WayTable) (actor : ℕ) (o : Option Client) → now.clients ≡ with_entry was.clients actor o →
    filters_of (FinMap.get was.clients actor) ≡ filters_of o → AreWaysKept was.clients edges table → AreWaysKept now.clients edges table
kept-with was now edges table actor o is same kept =
    let after = with_entry was.clients actor o in
    let filters = entry-same was.clients actor o same in
    subst (λ cs. AreWaysKept cs edges table) (sym is) (record {
      rows = kept.rows;
      ways = λ place.
          slot-moved was.clients after edges edges table.changes place _ (λ P. record { filters = λ c p. filters c; targets = λ b p. refl }) (λ a row at. refl) (kept.ways place);
      counts = λ i k e a place at message its. record {
        rows = (kept.counts i k e a place at message its).rows;
        each = λ row low. (kept.counts i k e a place at message its).each row low ∙ number-same was.clients after filters edges (first_client + row) hops (targets_of edges a) message;
      };
    })

-- where one client changed, but none of its filters
kept-changed : (was now : Roster) (edges : List Edge) (table : WayTable) (actor : ℕ) (g : Client → Client) → ((c : Client) → c.filters ≡ (g c).filters) →
    now ≡ with_client was actor (with_change (FinMap.get was.clients actor) g) → AreWaysKept was.clients edges table → AreWaysKept now.clients edges table
kept-changed was now edges table actor g keeps is =
    kept-with was now edges table actor (with_change (FinMap.get was.clients actor) g) (ap (λ (r : Roster). r.clients) is) (go (FinMap.get was.clients actor))
  where
    go : (c : Option Client) → filters_of c ≡ filters_of (with_change c g)
    go None = refl
    go (Some c) = keeps c

-- one of its ports
pub kept-port : (was now : Roster) (edges : List Edge) (table : WayTable) (actor n : ℕ) (o : Option PortInfo) →
    now ≡ with_client was actor (with_change (FinMap.get was.clients actor) (put_port n o)) → AreWaysKept was.clients edges table → AreWaysKept now.clients edges table
kept-port was now edges table actor n o = kept-changed was now edges table actor (put_port n o) (go o)
  where
    go : (o : Option PortInfo) (c : Client) → c.filters ≡ (put_port n o c).filters
    go None c = refl
    go (Some p) c = refl

-- one of its queues
pub kept-queue : (was now : Roster) (edges : List Edge) (table : WayTable) (actor n : ℕ) (o : Option Queue) →
    now ≡ with_client was actor (with_change (FinMap.get was.clients actor) (put_queue n o)) → AreWaysKept was.clients edges table → AreWaysKept now.clients edges table
kept-queue was now edges table actor n o = kept-changed was now edges table actor (put_queue n o) (go o)
  where
    go : (o : Option Queue) (c : Client) → c.filters ≡ (put_queue n o c).filters
    go None c = refl
    go (Some q) c = refl

-- what holds after every answer
pub in-both : {T E : Type 0} (r : Result T E) (P : Type 0) → OnOk r P → OnErr r P → P
in-both (Ok x) P ok err = ok
in-both (Err x) P ok err = err

pub where-ok : {T E : Type 0} (r : Result T E) (P : Type 0) → is_err r ≡ false → OnOk r P → P
where-ok (Ok x) P e ok = ok
where-ok (Err x) P e ok = cc

-- and where nothing changed after an error
pub kept-or-same : {T E : Type 0} (r : Result T E) (was now : Roster) (edges : List Edge) (table : WayTable) → OnOk r (AreWaysKept now.clients edges table) → OnErr r (now ≡ was) →
    AreWaysKept was.clients edges table → AreWaysKept now.clients edges table
kept-or-same r was now edges table ok err kept = in-both r _ ok (on_err_weaker r (λ e. subst (λ (x : Roster). AreWaysKept x.clients edges table) (sym e) kept) err)
