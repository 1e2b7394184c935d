-- A route is filters and then a port.
use Rattle.std.proofs.Common.{◌≡◌, ℕ, zero, suc, ◌+◌, ◌-◌, ◌≤◌, true, not, List, [], ◌∷◌, ◌++◌, length, take, get_or, Option, Some, None, refl, sym, ap, ◌∙◌, arith, append_assoc}
use Rattle.std.specs.Prelude.{IsSome, IfSome, IfNone}
use Rattle.std.specs.Option.{option_map}
use Rattle.std.specs.List.{list_all, filter_map, cons_option}
use Rattle.std.proofs.lemmas.Bool.{false≢true}
use Rattle.std.proofs.lemmas.List.{take_more}
use Rattle.node_table.specs.Addresses.{is_filter, is_filter_node}
use Rattle.node_table.specs.declared.number.Addr.{Addr}
use Rattle.node_table.specs.declared.number.PortAddr.{PortAddr}
use Rattle.node_table.specs.declared.number.Node.{Node}
use Rattle.node_table.specs.declared.number.Node.TheVariants.{Port, Filter}
use Rattle.patch_graph.specs.declared.path.Path.{Path}
use Rattle.patch_graph.specs.Paths.{past}
use Rattle.patch_graph.specs.Cursor.{is_route, at_port, path_from}
use Rattle.patch_graph.proofs.Lists.{both_left, both_right, and_both}

route_filters : (ys : List Addr) (t : Addr) → is_route (ys ++ t ∷ []) ≡ true → list_all is_filter ys ≡ true
route_filters [] t h = refl
route_filters (a ∷ []) t h = and_both (is_filter a) true (both_left (is_filter a) (not (is_filter t)) h) refl
route_filters (a ∷ b ∷ ys) t h =
    and_both (is_filter a) (list_all is_filter (b ∷ ys)) (both_left (is_filter a) (is_route (b ∷ (ys ++ t ∷ []))) h) (route_filters (b ∷ ys) t (both_right (is_filter a) (is_route (b ∷ (ys ++ t ∷ []))) h))

route_end : (ys : List Addr) (t : Addr) → is_route (ys ++ t ∷ []) ≡ true → not (is_filter t) ≡ true
route_end [] t h = h
route_end (a ∷ []) t h = both_right (is_filter a) (not (is_filter t)) h
route_end (a ∷ b ∷ ys) t h = route_end (b ∷ ys) t (both_right (is_filter a) (is_route (b ∷ (ys ++ t ∷ []))) h)

pub not_empty : (n : ℕ) (xs : List Addr) → is_route (take n xs) ≡ true → 1 ≤ n
not_empty zero xs h = absurd (false≢true h)
not_empty (suc n) xs h = omega arith

module _ (xs : List Addr) (n : ℕ) (few : n ≤ length xs) (route : is_route (take n xs) ≡ true) where
  pub whole : (d : Addr) → take n xs ≡ take (n - 1) xs ++ get_or xs (n - 1) d ∷ []
  whole d =
      let some : 1 ≤ n = not_empty n xs route in
      ap (λ k. take k xs) (let e : n ≡ n - 1 + 1 = omega arith in e) ∙ take_more xs (n - 1) d (omega arith)

  pub before_end : (d : Addr) → list_all is_filter (take (n - 1) xs) ≡ true
  before_end d = route_filters (take (n - 1) xs) (get_or xs (n - 1) d) (ap is_route (sym (whole d)) ∙ route)

  pub at_end : (d : Addr) → not (is_filter (get_or xs (n - 1) d)) ≡ true
  at_end d = route_end (take (n - 1) xs) (get_or xs (n - 1) d) (ap is_route (sym (whole d)) ∙ route)

pub has_port : (o : Option ℕ) (n : Node) → not (is_filter_node n) ≡ true → IfNone o ((m : ℕ) × (n ≡ Filter m)) → IsSome o
has_port (Some p) n f h = refl
has_port None n f h = absurd (false≢true (ap (λ x. not (is_filter_node x)) (sym h.1) ∙ f))

pub port_is : (o : Option ℕ) (n : Node) (p : ℕ) → IfSome o (λ q. n ≡ Port q) → o ≡ Some p → n ≡ Port p
port_is (Some q) n p h e = let k : q ≡ p = cc in h ∙ ap Port k
port_is None n p h e = cc

-- ---- as a path

last_same : (xs ys : List Addr) (a b : Addr) → xs ++ a ∷ [] ≡ ys ++ b ∷ [] → (xs ≡ ys) × (a ≡ b)
last_same [] [] a b e = (refl, cc)
last_same [] (y ∷ []) a b e = cc
last_same [] (y ∷ z ∷ ys) a b e = cc
last_same (x ∷ []) [] a b e = cc
last_same (x ∷ w ∷ xs) [] a b e = cc
last_same (x ∷ xs) (y ∷ ys) a b e =
    let rest : (xs ≡ ys) × (a ≡ b) = last_same xs ys a b (let k : xs ++ a ∷ [] ≡ ys ++ b ∷ [] = cc in k) in
    let first : x ≡ y = cc in
    (λ j. first j ∷ rest.0 j, rest.1)

path_is : (fs : List Addr) (p : PortAddr) → path_from (fs ++ at_port p ∷ []) ≡ Some (record { filters = fs; last = p })
path_is [] p = refl
path_is (a ∷ []) p = refl
path_is (a ∷ b ∷ fs) p = ap (option_map (past a)) (path_is (b ∷ fs) p)

pub path_whole : (xs fs front items : List Addr) (a : Addr) (p : PortAddr) → xs ≡ fs ++ a ∷ [] → xs ≡ front ++ at_port p ∷ [] → items ≡ fs → path_from xs ≡ Some (record { filters = items; last = p })
path_whole xs fs front items a p e f g =
    let same : (fs ≡ front) × (a ≡ at_port p) = last_same fs front a (at_port p) (sym e ∙ f) in
    ap path_from f ∙ path_is front p ∙ ap (λ ys. Some (record { filters = ys; last = p })) (sym (g ∙ same.0))

-- ---- one path after another

pub one_path : (all done : List Path) (new : List Path) (r : List Addr) (old rest : List (List Addr)) (p : Path) → all ≡ done ++ filter_map path_from old → old ≡ r ∷ rest → path_from r ≡ Some p → new ≡ done ++ p ∷ [] → all ≡ new ++ filter_map path_from rest
one_path all done new r old rest p e f g h =
    e ∙ ap (λ rs. done ++ filter_map path_from rs) f ∙ ap (λ o. done ++ cons_option o (filter_map path_from rest)) g ∙ sym (append_assoc done (p ∷ []) (filter_map path_from rest)) ∙ ap (λ ps. ps ++ filter_map path_from rest) (sym h)

pub no_more_paths : (all done : List Path) (old : List (List Addr)) → all ≡ done ++ filter_map path_from old → old ≡ [] → done ≡ all
no_more_paths all done old e f = sym (append_nil done) ∙ sym (e ∙ ap (λ rs. done ++ filter_map path_from rs) f)
  where
    append_nil : (ps : List Path) → ps ++ [] ≡ ps
    append_nil [] = refl
    append_nil (p ∷ ps) = ap (λ qs. p ∷ qs) (append_nil ps)

pub some_end : (xs : List Addr) (n : ℕ) → n ≤ length xs → is_route (take n xs) ≡ true → (a : Addr) × (take n xs ≡ take (n - 1) xs ++ a ∷ [])
some_end [] n few route = let some : 1 ≤ n = not_empty n [] route in absurd (omega arith)
some_end (x ∷ xs) n few route = (get_or (x ∷ xs) (n - 1) x, whole (x ∷ xs) n few route x)

pub front_is : (xs : List Addr) (n : ℕ) → n ≤ length xs → is_route (take n xs) ≡ true → list_all is_filter (take (n - 1) xs) ≡ true
front_is xs n few route = let e : (a : Addr) × (take n xs ≡ take (n - 1) xs ++ a ∷ []) = some_end xs n few route in route_filters (take (n - 1) xs) e.0 (ap is_route (sym e.1) ∙ route)

pub end_is : (xs front : List Addr) (a : Addr) (port : ℕ) → xs ≡ front ++ a ∷ [] → a.node ≡ Port port → xs ≡ front ++ at_port (record { client = a.client; port = port }) ∷ []
end_is xs front a port e h = e ∙ (λ j. front ++ (record { client = a.client; node = h j }) ∷ [])
