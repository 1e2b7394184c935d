use Rattle.std.proofs.Common.{◌≡◌, ◌<◌, ◌-◌, ◌++◌, ◌∷◌, [], take, drop, length, rules, subst, ap, sym, ◌∙◌, arith, length-drop}
use Rattle.std.proofs.lemmas.List.Sorted.{length_permutation}
use Rattle.std.proofs.Math.Seq.{take-append_seam}
use Rattle.std.specs.List.Sorted.{IsPermutation}
use Rattle.smf_files.proofs.Heaps.{last-first}
use Rattle.smf_files.proofs.heads.remove_top.Goals as goal

pub returns-then-not-is_empty-clause-permutation : goal.returns-then-not-is_empty-clause-permutation
returns-then-not-is_empty-clause-permutation c =
    let were : c.args.heads.now.items ≡ c.pop.new.self.items ++ c.in-Some.last ∷ [] = search rules in
    let some : 0 < length c.pop.new.self.items = search rules in
    let front : IsPermutation (c.in-Some.last ∷ drop 1 c.pop.new.self.items) c.replace_top.new.heads = subst (λ hs. IsPermutation (c.in-Some.last ∷ drop 1 hs) c.replace_top.new.heads) c.as_mut_slice.ensures.value c.replace_top.ensures.permutation in
    let moved : IsPermutation (drop 1 c.args.heads.now.items) c.replace_top.new.heads = subst (λ hs. IsPermutation (drop 1 hs) c.replace_top.new.heads) (sym were) (last-first c.pop.new.self.items c.replace_top.new.heads c.in-Some.last some front) in
    let moves : length c.replace_top.new.heads ≡ length (c.in-Some.last ∷ drop 1 c.pop.new.self.items) = length_permutation _ _ front in
    let fewer : length (drop 1 c.pop.new.self.items) ≡ length c.pop.new.self.items - 1 = length-drop 1 c.pop.new.self.items in
    let all : length c.pop.new.self.items ≡ c.pop.new.self.len = ap (λ hs. length hs) (sym c.as_mut_slice.ensures.value) ∙ c.as_mut_slice.ensures.len in
    let count : c.pop.new.self.len ≡ length c.replace_top.new.heads = omega arith in
    let same : take c.pop.new.self.len (c.replace_top.new.heads ++ drop (length c.replace_top.new.heads) c.pop.new.self.items) ≡ c.replace_top.new.heads =
    ap (λ n. take n (c.replace_top.new.heads ++ drop (length c.replace_top.new.heads) c.pop.new.self.items)) count ∙ take-append_seam c.replace_top.new.heads (drop (length c.replace_top.new.heads) c.pop.new.self.items) in
    subst (λ hs. IsPermutation (drop 1 c.args.heads.now.items) hs) (sym same) moved
