-- What a table of ways knows, as it grows and is written.
use Rattle.std.proofs.Common.{◌≡◌, ℕ, zero, suc, ◌+◌, ◌<◌, ◌≤◌, ◌-◌, List, [], ◌∷◌, ◌++◌, length, take, set, get_or, true, Option, Some, None, refl, sym, ap, subst, ◌∙◌, inl, inr, arith}
use Rattle.std.specs.Prelude.{nat_lt, slice_get}
use Rattle.std.specs.Ordering.{nat_cmp}
use Rattle.std.specs.FinMap.{FinMap}
use Rattle.std.proofs.lemmas.Bool.{cases_eq, ltb-true}
use Rattle.std.proofs.lemmas.List.{get_or-set_same, get_or-set_other, take_all}
use Rattle.node_table.specs.Kept.{IsPlace, ReadsAs}
use Rattle.node_table.specs.Numbers.{first_client, most_clients}
use Rattle.node_table.specs.declared.number.Addr.{Addr}
use Rattle.patch_graph.specs.Index.{targets_of}
use Rattle.patch_graph.specs.declared.edge.Edge.{Edge}
use Rattle.patch_graph.proofs.Same.{place-is}
use Rattle.seq_state.specs.State.{Client}
use Rattle.seq_sending.specs.KeptCounts.{AreClassCounts, AreCountsKept}
use Rattle.seq_sending.specs.Changes.{AgreeBut, AgreeOnFilters, IsCurrent, last_change}
use Rattle.seq_sending.specs.Reach.{MayLeadThrough}
use Rattle.seq_sending.specs.Table.{IsWayFound, IsSlotFound, AreWaysFound, AreEarlier, AreWaysThrough, AreWaysSoFar}
use Rattle.seq_sending.specs.Ways.{AreWays, AreWaysTo}
use Rattle.seq_sending.specs.declared.kept_counts.KeptCount.{KeptCount}
use Rattle.seq_sending.specs.declared.changes.Changes.{Changes}
use Rattle.seq_sending.specs.declared.reach.Through.{Through}
use Rattle.seq_sending.specs.declared.reach.Through.TheVariants.{These, Anyone}
use Rattle.seq_sending.specs.declared.table.Found.{Found}
use Rattle.seq_sending.proofs.Agreeing.{at-more, passed-among, through-agrees, ways-are, ways-count}

pub some-is : {X : Type 0} (x y : X) → ◌≡◌ {A = Option X} (Some x) (Some y) → x ≡ y
some-is x y e = cc

none-some : {X : Type 0} (x : X) → ◌≡◌ {A = Option X} None (Some x) → ⊥
none-some x e = cc

-- past no end it does not matter what would stand there
pub within : {X : Type 0} (xs : List X) (i : ℕ) (d e : X) → i < length xs → get_or xs i d ≡ get_or xs i e
within [] i d e l = absurd (omega arith)
within (x ∷ xs) zero d e l = refl
within (x ∷ xs) (suc i) d e l = within xs i d e (omega arith)

pub at-place : {X : Type 0} (places : List (Option X)) (place : ℕ) (x : X) (d : Option X) → true ≡ nat_lt place (length places) → d ≡ get_or places place d → d ≡ Some x → get_or places place None ≡ Some x
at-place places place x d there e some = within places place None d (ltb-true place (length places) (sym there)) ∙ sym e ∙ some

-- where no node came since, the ways to all are known
pub all-known : (clients : FinMap nat_cmp Client) (edges : List Edge) (nodes : List Addr) (found : Found) → found.newer ≡ 0 → AreWaysSoFar clients edges nodes found → AreWays clients edges nodes found.ways
all-known clients edges nodes found none are =
    let all = are.newer in
    let whole : take (length found.ways) nodes ≡ nodes = take_all (length found.ways) nodes (omega (arith, all, none)) in
    ways-are clients edges nodes found.ways (subst (λ ts. AreWaysTo clients edges ts found.ways) whole are.known.each)

-- and so are all that were found at once
pub at-once : (clients : FinMap nat_cmp Client) (edges : List Edge) (nodes : List Addr) (found : Found) → found.newer ≡ 0 → AreWaysThrough (MayLeadThrough found.through) clients edges nodes found.ways →
    AreWaysSoFar clients edges nodes found
at-once clients edges nodes found none are =
    let count = ways-count clients edges nodes found.ways are.each in
    record {
      known = subst (λ ts. AreWaysThrough (MayLeadThrough found.through) clients edges ts found.ways) (sym (take_all (length found.ways) nodes (omega (arith, count)))) are;
      newer = omega (arith, count, none);
    }

-- what is known stays so
pub so-far-agrees : (clients others : FinMap nat_cmp Client) (edges other_edges : List Edge) (nodes : List Addr) (found : Found) →
    ((way : ℕ) → AgreeOnFilters (MayLeadThrough found.through way) clients others edges other_edges) → AreWaysSoFar clients edges nodes found → AreWaysSoFar others other_edges nodes found
so-far-agrees clients others edges other_edges nodes found agree are = record {
  known = through-agrees (MayLeadThrough found.through) clients others edges other_edges agree (take (length found.ways) nodes) found.ways are.known;
  newer = are.newer;
}

module _ (clients : FinMap nat_cmp Client) (edges : List Edge) (changes : Changes) where
  pub found-is : (places : List (Option Found)) (source : Addr) (row place : ℕ) (found : Found) → AreWaysFound clients edges changes places → IsPlace source row place →
      get_or places place None ≡ Some found → found.newer ≡ 0 → IsCurrent changes found.at source.client found.through → AreWays clients edges (targets_of edges source) found.ways
  found-is places source row place found kept at e none current = all-known clients edges (targets_of edges source) found none ((kept place found e).ways source row at current)

  pub found-same : (new old : List (Option Found)) → ReadsAs None new old → AreWaysFound clients edges changes old → AreWaysFound clients edges changes new
  found-same new old same kept place found e = kept place found (sym (same place) ∙ e)

  -- what is known of the ways from one address is known at its place
  pub slot-is : (source : Addr) (row place : ℕ) (found : Found) → IsPlace source row place → found.at ≤ changes.count →
      (IsCurrent changes found.at source.client found.through → AreWaysSoFar clients edges (targets_of edges source) found) → IsWayFound clients edges changes place found
  slot-is source row place found at before are = record {
    before = before;
    ways = λ a r here current.
        let same = place-is a source r row place here at in
        subst (λ x. AreWaysSoFar clients edges (targets_of edges x) found) (sym same)
        (are (subst (λ x. IsCurrent changes found.at x.client found.through) same current));
  }

  pub slot-set : (places : List (Option Found)) (place : ℕ) (slot : Option Found) → place < length places → IsSlotFound clients edges changes place slot →
      ((p : ℕ) → (p ≡ place → ⊥) → IsSlotFound clients edges changes p (get_or places p None)) → AreWaysFound clients edges changes (set places place slot)
  slot-set places place slot within its others p = elim (cases_eq p place) [
    | inl same ↦
        subst (IsSlotFound clients edges changes p) (sym (get_or-set_same places place slot None within) ∙ ap (λ n. get_or (set places place slot) n None) (sym same))
        (subst (λ n. IsSlotFound clients edges changes n slot) (sym same) its)
    | inr apart ↦ subst (IsSlotFound clients edges changes p) (sym (get_or-set_other places place p slot None apart)) (others p apart)
  ]

  pub found-set : (places : List (Option Found)) (source : Addr) (row place : ℕ) (found : Found) → IsPlace source row place → place < length places → found.at ≤ changes.count →
      AreWaysSoFar clients edges (targets_of edges source) found → AreWaysFound clients edges changes places → AreWaysFound clients edges changes (set places place (Some found))
  found-set places source row place found at within before are kept =
      slot-set places place (Some found) within
      (λ other e. subst (IsWayFound clients edges changes place) (some-is found other e) (slot-is source row place found at before (λ _. are)))
      (λ p apart. kept p)

  pub slot-none : (place : ℕ) → IsSlotFound clients edges changes place None
  slot-none place found e = absurd (none-some found e)

  pub found-none : (places : List (Option Found)) (place : ℕ) → place < length places → AreWaysFound clients edges changes places → AreWaysFound clients edges changes (set places place None)
  found-none places place within kept = slot-set places place None within (slot-none place) (λ p apart. kept p)

-- a place stays known where all filters and what leaves the address of that place stay
pub slot-moved : (clients others : FinMap nat_cmp Client) (edges other_edges : List Edge) (changes : Changes) (place : ℕ) (slot : Option Found) →
    ((P : ℕ → Type 0) → AgreeOnFilters P clients others edges other_edges) → ((a : Addr) (row : ℕ) → IsPlace a row place → targets_of edges a ≡ targets_of other_edges a) →
    IsSlotFound clients edges changes place slot → IsSlotFound others other_edges changes place slot
slot-moved clients others edges other_edges changes place slot agree leaves kept found e = record {
  before = (kept found e).before;
  ways = λ a row at current.
      subst (λ ts. AreWaysSoFar others other_edges ts found) (leaves a row at)
      (so-far-agrees clients others edges other_edges (targets_of edges a) found (λ way. agree (MayLeadThrough found.through way)) ((kept found e).ways a row at current));
}

-- ---- after a change

-- where a client's last change is a later one, each that has not changed since is another, and has not changed before
unchanged-other : (was now : Changes) (client row change at : ℕ) → client ≡ first_client + row → row < length was.last → now.last ≡ set was.last row change → at < change →
    (c : ℕ) → last_change now c ≤ at → (c ≡ client → ⊥) × (last_change was c ≤ at)
unchanged-other was now client row change at is within set_is later c old = elim (cases_eq (c - first_client) row) [
  | inl same ↦
      let e : last_change now c ≡ change =
      ap (λ xs. get_or xs (c - first_client) 0) set_is ∙ ap (λ n. get_or (set was.last row change) n 0) same ∙ get_or-set_same was.last row change 0 within in
      absurd (omega (arith, e))
  | inr apart ↦
      let e : last_change now c ≡ last_change was c = ap (λ xs. get_or xs (c - first_client) 0) set_is ∙ get_or-set_other was.last row (c - first_client) change 0 apart in
      ((λ same. apart (omega (arith, same, is))), omega (arith, e))
]

-- what is current after the change was so before, and is of no port of the client, nor leads through its filters
current-before : (was now : Changes) (client row change at port : ℕ) (through : Through) → client ≡ first_client + row → row < length was.last → now.last ≡ set was.last row change → now.count ≡ change → at < change →
    IsCurrent now at port through → IsCurrent was at port through × (port ≡ client → ⊥) × ((way c : ℕ) → MayLeadThrough through way c → c ≡ client → ⊥)
current-before was now client row change at port Anyone is within set_is count later current = absurd (omega (arith, current.others, count))
current-before was now client row change at port (These passed) is within set_is count later current = (
  record {
    own = (unchanged-other was now client row change at is within set_is later port current.own).1;
    others = λ c among. (unchanged-other was now client row change at is within set_is later c (current.others c among)).1;
  },
  (unchanged-other was now client row change at is within set_is later port current.own).0,
  (λ way c its. (unchanged-other was now client row change at is within set_is later c (current.others c (passed-among passed.items way c its))).0),
)

pub found-after : (was now : Changes) (client row change : ℕ) (clients others : FinMap nat_cmp Client) (edges other_edges : List Edge) (places : List (Option Found)) →
    client ≡ first_client + row → row < length was.last → now.last ≡ set was.last row change → now.count ≡ change → AreEarlier change places →
    AgreeBut client clients others edges other_edges → AreWaysFound clients edges was places → AreWaysFound others other_edges now places
found-after was now client row change clients others edges other_edges places is within set_is count earlier agree kept place found e =
    let later = earlier place found e in
    record {
      before = omega (arith, later, count);
      ways = λ a r at current.
          let P : ℕ → ℕ → Type 0 = MayLeadThrough found.through in
          let both = current-before was now client row change found.at a.client found.through is within set_is count later current in
          let on : (way : ℕ) → AgreeOnFilters (P way) clients others edges other_edges =
          λ way. record { filters = λ c p. agree.filters c (both.2 way c p); targets = λ b p. agree.targets b (both.2 way b.client p.1) } in
          subst (λ ts. AreWaysSoFar others other_edges ts found) (agree.targets a both.1)
          (so-far-agrees clients others edges other_edges (targets_of edges a) found on ((kept place found e).ways a r at both.0));
    }

-- after a change of everybody nothing is known
pub found-no-more : (clients others : FinMap nat_cmp Client) (edges other_edges : List Edge) (was now : Changes) (change : ℕ) (places : List (Option Found)) →
    now.count ≡ change → ((r : ℕ) → r < most_clients → get_or now.last r 0 ≡ change) → AreEarlier change places → AreWaysFound clients edges was places → AreWaysFound others other_edges now places
found-no-more clients others edges other_edges was now change places count all earlier kept place found e =
    let later = earlier place found e in
    record {
      before = omega (arith, later, count);
      ways = λ a row at current.
          let row_is : a.client - first_client ≡ row = omega (arith, at.client) in
          let same : last_change now a.client ≡ change = ap (λ n. get_or now.last n 0) row_is ∙ all row at.below in
          absurd (omega (arith, current.own, same, later));
    }

pub none-found : (clients : FinMap nat_cmp Client) (edges : List Edge) (changes : Changes) (places : List (Option Found)) → places ≡ [] → AreWaysFound clients edges changes places
none-found clients edges changes places none place found e = absurd (none-some found (sym (ap (λ ps. get_or ps place None) none) ∙ e))

pub none-earlier : (change : ℕ) (places : List (Option Found)) → places ≡ [] → AreEarlier change places
none-earlier change places none place found e = absurd (none-some found (sym (ap (λ ps. get_or ps place None) none) ∙ e))

-- ---- counts

pub none-counted : (clients : FinMap nat_cmp Client) (edges : List Edge) (kept : List KeptCount) → kept ≡ [] → AreCountsKept clients edges kept
none-counted clients edges kept none i k e = absurd (none-some k (sym (ap (λ ks. slice_get ks i) none) ∙ e))

-- the counts of one port and one class more
pub counts-more : (clients : FinMap nat_cmp Client) (edges : List Edge) (kept : List KeptCount) (source : Addr) (row : ℕ) (k : KeptCount) → IsPlace source row k.place →
    AreClassCounts clients edges (targets_of edges source) k.class k.counts → AreCountsKept clients edges kept → AreCountsKept clients edges (kept ++ k ∷ [])
counts-more clients edges kept source row k at are before =
    at-more (λ _ x. (a : Addr) (r : ℕ) → IsPlace a r x.place → AreClassCounts clients edges (targets_of edges a) x.class x.counts) kept k before
    (λ a r here. subst (λ x. AreClassCounts clients edges (targets_of edges x) k.class k.counts) (sym (place-is a source r row k.place here at)) are)

-- a place more, of which nothing is known, changes nothing
pub none-more : {V : Type 0} (places : List (Option V)) → ReadsAs None (places ++ None ∷ []) places
none-more [] zero = refl
none-more [] (suc i) = refl
none-more (o ∷ places) zero = refl
none-more (o ∷ places) (suc i) = none-more places i
