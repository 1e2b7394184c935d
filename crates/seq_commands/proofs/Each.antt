-- What holds of all playbacks, cell by cell.
use Rattle.std.proofs.Common.{◌≡◌, ℕ, Bool, true, false, cond, eqb, ◌&&◌, ◌||◌, List, [], ◌∷◌, ◌++◌, Option, Some, None, refl, sym, ap, ◌∙◌}
use Rattle.std.specs.Prelude.{is_some}
use Rattle.std.specs.List.{list_all}
use Rattle.std.specs.Option.{option_to_list}
use Rattle.std.specs.Ordering.{nat_cmp}
use Rattle.std.specs.FinMap
use Rattle.std.specs.FinMap.{FinMap}
use Rattle.std.proofs.lemmas.Bool.{false≢true, eqb-true}
use Rattle.node_table.specs.declared.number.QueueAddr.{QueueAddr}
use Rattle.seq_state.specs.State.{Client, OwnedPlayback, Queue}
use Rattle.seq_state.specs.Table.{visible}
use Rattle.seq_settle.specs.Moments.{queue_in}
use Rattle.seq_settle.specs.Cells.{PlaybackCell, AreCells, pending_in, at_rank, by_rank, playbacks}
use Rattle.seq_settle.proofs.Ranks.{at_rank-here, ranked-split, ranked_from}
use Rattle.seq_commands.specs.Whole.{is_usable}

both-hold : (a b : Bool) → (a && b) ≡ true → (a ≡ true) × (b ≡ true)
both-hold true true e = (refl, refl)
both-hold true false e = cc
both-hold false b e = cc

one-of-all : {X : Type 0} (p : X → Bool) (xs : List X) (x : X) (ys : List X) → list_all p (xs ++ x ∷ ys) ≡ true → p x ≡ true
one-of-all p [] x ys e = (both-hold (p x) (list_all p ys) e).0
one-of-all p (z ∷ xs) x ys e = one-of-all p xs x ys (both-hold (p z) (list_all p (xs ++ x ∷ ys)) e).1

-- where the playback of a cell stands among all
pub placed : (cells : FinMap nat_cmp PlaybackCell) (n : ℕ) → AreCells cells n → (q : ℕ) (c : PlaybackCell) → FinMap.get cells q ≡ Some c →
    (before : List OwnedPlayback) × (later : List OwnedPlayback) × (playbacks cells n ≡ before ++ pending_in c ∷ later)
placed cells n are q c here =
    let r : ℕ = c.1.rank in
    let f : ℕ → Option OwnedPlayback = at_rank cells in
    let found : f r ≡ Some (pending_in c) = at_rank-here cells are.apart q c here r refl in
    let split : by_rank f n ≡ by_rank f r ++ (option_to_list (f r) ++ ranked_from f r n) = ranked-split f r n (are.early q c here) in
    (by_rank f r, ranked_from f r n, split ∙ ap (λ o. by_rank f r ++ (option_to_list o ++ ranked_from f r n)) found)

pub each-cell : (p : OwnedPlayback → Bool) (cells : FinMap nat_cmp PlaybackCell) (n : ℕ) → AreCells cells n → list_all p (playbacks cells n) ≡ true →
    (q : ℕ) (c : PlaybackCell) → FinMap.get cells q ≡ Some c → p (pending_in c) ≡ true
each-cell p cells n are all q c here =
    let at = placed cells n are q c here in
    one-of-all p at.0 (pending_in c) at.1 (sym (ap (list_all p) at.2) ∙ all)

visible-own : (actor owner : ℕ) (o : Option Queue) → ((x : Queue) → o ≡ Some x → x.shared ≡ false) → is_some (visible actor owner o) ≡ true → actor ≡ owner
visible-own actor owner None h e = absurd (false≢true e)
visible-own actor owner (Some x) h e = sym (eqb-true owner actor (go (eqb owner actor) x.shared (h x refl) e))
  where
    go : (a b : Bool) → b ≡ false → is_some (cond (a || b) (Some x) None) ≡ true → a ≡ true
    go true b f e = refl
    go false true f e = cc
    go false false f e = cc

-- on a private queue are its owner's playbacks alone
pub private-alone : (clients : FinMap nat_cmp Client) (cells : FinMap nat_cmp PlaybackCell) (n : ℕ) (queue : QueueAddr) → AreCells cells n → list_all (is_usable clients) (playbacks cells n) ≡ true →
    ((x : Queue) → queue_in clients queue ≡ Some x → x.shared ≡ false) → (q : ℕ) (c : PlaybackCell) → FinMap.get cells q ≡ Some c → c.1.queue ≡ queue → c.0 ≡ queue.client
private-alone clients cells n queue are all private q c here on =
    visible-own c.0 queue.client (queue_in clients queue) private
    (ap (λ (a : QueueAddr). is_some (visible c.0 a.client (queue_in clients a))) (sym on) ∙ each-cell (is_usable clients) cells n are all q c here)
