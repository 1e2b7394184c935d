-- The clients that lines name and that answers go to have numbers from 128 to 191.
use Rattle.std.proofs.Common.{◌≡◌, ℕ, zero, suc, ◌+◌, ◌/◌, ◌%◌, ◌≤◌, ◌<◌, Bool, true, false, cond, eqb, ◌&&◌, List, [], ◌∷◌, ◌++◌, map, Option, Some, None, refl, sym, ap, subst, ◌∙◌, arith}
use Rattle.std.specs.Prelude.{nat_le, nat_lt, is_some, codes, length}
use Rattle.std.specs.List.{flat_map, list_all}
use Rattle.std.specs.Fmt.{decimal, digits, digits_onto, digit_glyph}
use Rattle.std.specs.Ordering.{nat_cmp}
use Rattle.std.specs.Str.{bytes_eq}
use Rattle.std.specs.FinMap
use Rattle.std.specs.FinMap.{FinMap}
use Rattle.std.proofs.lemmas.Bool.{false≢true, eqb-true, leb-true, ltb-true, ne_eqb}
use Rattle.std.proofs.lemmas.Bool.Decides.{nat_tests}
use Rattle.std.proofs.lemmas.Fmt.{decimal_injective, length-decimal-le}
use Rattle.seq_state.specs.declared.input.Command.{Command}
use Rattle.seq_state.specs.declared.input.Input.{Input}
use Rattle.seq_state.specs.declared.log.Delivery.{Delivery}
use Rattle.seq_state.specs.declared.refusal.Refusal.{Refusal}
use Rattle.smf_grammar.specs.Played.{PlayedFile}
use Rattle.seq_state.specs.State.{ClientPool, State, start, with_entry}
use Rattle.seq_state.specs.Effect.{Effect}
use Rattle.seq_state.specs.Step.{Stepped, Settled, pool_has_room, offer, pools_after, copies_with_room, due, event_copies, send_copies, unless, row_of, refusal_of, effect_of, step, settle}
use Rattle.seq_state.proofs.Lists.{both_left, both_right, and_both, list_all-append, list_all-map}
use Rattle.seq_state.proofs.Effects.{get-put}
use Rattle.script_text.specs.declared.live_lines.LiveLine.{LiveLine}
use Rattle.script_text.specs.declared.live_lines.LiveLine.TheVariants.{Nothing, Unknown, Says, Passes, Asks}
use Rattle.script_text.specs.declared.reading.SkipReason.TheVariants.{Late, TooLong}
use Rattle.script_text.specs.LiveLines.{said_by, client_line, moment_line, word_line, line_of_words, live_line}
use Rattle.script_text.specs.Numbers.{only_if, number, u64, client_number}
use Rattle.script_text.specs.Scripts.{timed_command, is_remark}
use Rattle.script_text.specs.Words.{words, without_return}
use Rattle.session_live.specs.declared.heard.TheConstants.{MOST_LINE}
use Rattle.session_live.specs.Lines.{Item, PassedOver, Skipped, Said, Waited, Asked, Heard, nothing_heard, skipped_loose, skipped_by, input_of, item_of, item, heard_after, items_from}
use Rattle.session_live.specs.Answers.{Part, Comes, Answers, Skips, Lists, Next, ended, answers_from, items_of, answers_to}
use Rattle.seq_session.specs.Sessions.{FolderContents}

abbrev pub is_client : ℕ → Bool
is_client client = nat_le 128 client && nat_le client 191

-- ---- numbers as text

digits-longer : (k n : ℕ) (acc : List ℕ) → length acc ≤ length (digits_onto k 10 false n acc)
digits-longer zero n acc = omega arith
digits-longer (suc k) n acc = go (eqb (n / 10) 0) (digits-longer k (n / 10) (digit_glyph false (n % 10) ∷ acc))
  where
    go : (b : Bool) → length (digit_glyph false (n % 10) ∷ acc) ≤ length (digits_onto k 10 false (n / 10) (digit_glyph false (n % 10) ∷ acc)) →
        length acc ≤ length (cond b (digit_glyph false (n % 10) ∷ acc) (digits_onto k 10 false (n / 10) (digit_glyph false (n % 10) ∷ acc)))
    go true more = omega arith
    go false more = omega arith

digits-one_more : (k n : ℕ) (acc : List ℕ) → length acc + 1 ≤ length (digits_onto (suc k) 10 false n acc)
digits-one_more k n acc = go (eqb (n / 10) 0) (digits-longer k (n / 10) (digit_glyph false (n % 10) ∷ acc))
  where
    go : (b : Bool) → length (digit_glyph false (n % 10) ∷ acc) ≤ length (digits_onto k 10 false (n / 10) (digit_glyph false (n % 10) ∷ acc)) →
        length acc + 1 ≤ length (cond b (digit_glyph false (n % 10) ∷ acc) (digits_onto k 10 false (n / 10) (digit_glyph false (n % 10) ∷ acc)))
    go true more = omega arith
    go false more = omega arith

digits-next : (k n : ℕ) (acc : List ℕ) → 10 ≤ n → digits_onto (suc k) 10 false n acc ≡ digits_onto k 10 false (n / 10) (digit_glyph false (n % 10) ∷ acc)
digits-next k n acc l = ap (λ b. cond b (digit_glyph false (n % 10) ∷ acc) (digits_onto k 10 false (n / 10) (digit_glyph false (n % 10) ∷ acc))) (ne_eqb (n / 10) 0 (λ e. omega arith))

digits-many : (k n : ℕ) (acc : List ℕ) → 1000 ≤ n → length acc + 4 ≤ length (digits_onto (suc (suc (suc (suc k)))) 10 false n acc)
digits-many k n acc l =
    let a : ℕ = digit_glyph false (n % 10) in
    let b : ℕ = digit_glyph false (n / 10 % 10) in
    let c : ℕ = digit_glyph false (n / 10 / 10 % 10) in
    let l1 : 100 ≤ n / 10 = omega arith in
    let l2 : 10 ≤ n / 10 / 10 = omega arith in
    let last : length (c ∷ b ∷ a ∷ acc) + 1 ≤ length (digits_onto (suc k) 10 false (n / 10 / 10 / 10) (c ∷ b ∷ a ∷ acc)) = digits-one_more k (n / 10 / 10 / 10) (c ∷ b ∷ a ∷ acc) in
    subst (λ t. length acc + 4 ≤ length t)
    (sym (digits-next (suc (suc (suc k))) n acc (omega arith) ∙ digits-next (suc (suc k)) (n / 10) (a ∷ acc) (omega arith) ∙ digits-next (suc k) (n / 10 / 10) (b ∷ a ∷ acc) l2))
    (omega arith)

decimal-many : (n : ℕ) → 1000 ≤ n → 4 ≤ length (decimal n)
unfolding digits
decimal-many n l = digits-many 60 n [] l

-- what is written as a client's number is that number
pub client_decimal : (client n : ℕ) → is_client client ≡ true → decimal client ≡ decimal n → client ≡ n
client_decimal client n h e =
    let below : client ≤ 191 = leb-true client 191 (both_right (nat_le 128 client) (nat_le client 191) h) in
    let few : length (decimal client) ≤ 3 = length-decimal-le 3 client (omega arith) (omega arith) (omega arith) in
    go below few (nat_lt n 1000) refl
  where
    go : client ≤ 191 → length (decimal client) ≤ 3 → (b : Bool) → nat_lt n 1000 ≡ b → client ≡ n
    go below few true l = let k : n < 1000 = ltb-true n 1000 l in decimal_injective client n (omega arith) (omega arith) e
    go below few false l =
        let k : 1000 ≤ n = grind (arith, nat_tests) in
        let many : 4 ≤ length (decimal n) = decimal-many n k in
        let same : length (decimal client) ≡ length (decimal n) = ap length e in
        absurd (omega arith)

-- ---- lines

abbrev is_client_or_none : Option ℕ → Bool
is_client_or_none None = true
is_client_or_none (Some client) = is_client client

abbrev line_names_client : LiveLine → Bool
line_names_client Nothing = true
line_names_client (Unknown client) = is_client_or_none client
line_names_client (Says client m c) = is_client client
line_names_client (Passes m) = true
line_names_client Asks = true

number_client : (w : List ℕ) → is_client_or_none (client_number w) ≡ true
number_client w = go (number w)
  where
    go : (o : Option ℕ) → is_client_or_none (only_if (nat_le 128) (only_if (λ n. nat_le n 191) o)) ≡ true
    go None = refl
    go (Some n) = under (nat_le n 191) refl
      where
        over : nat_le n 191 ≡ true → (b : Bool) → nat_le 128 n ≡ b → is_client_or_none (cond b (Some n) None) ≡ true
        over l true k = and_both (nat_le 128 n) (nat_le n 191) k l
        over l false k = refl

        under : (b : Bool) → nat_le n 191 ≡ b → is_client_or_none (only_if (nat_le 128) (cond b (Some n) None)) ≡ true
        under true l = over l (nat_le 128 n) refl
        under false l = refl

line_client : (names ws : List (List ℕ)) → line_names_client (line_of_words names ws) ≡ true
line_client names [] = refl
line_client names (w ∷ []) = remark (is_remark w)
  where
    moment : (o : Option ℕ) → line_names_client (moment_line o) ≡ true
    moment None = refl
    moment (Some m) = refl

    word : (b : Bool) → line_names_client (cond b Asks (moment_line (u64 w))) ≡ true
    word true = refl
    word false = moment (u64 w)

    remark : (b : Bool) → line_names_client (cond b Nothing (word_line w)) ≡ true
    remark true = refl
    remark false = word (bytes_eq w (codes "list"))
line_client names (w ∷ k ∷ rest) = remark (is_remark w)
  where
    said : (c : ℕ) (o : Option (ℕ × Command)) → is_client c ≡ true → line_names_client (said_by c o) ≡ true
    said c None h = h
    said c (Some s) h = h

    by : (o : Option ℕ) → is_client_or_none o ≡ true → line_names_client (client_line names w o rest) ≡ true
    by None h = refl
    by (Some c) h = said c (timed_command names (w ∷ rest)) h

    remark : (b : Bool) → line_names_client (cond b Nothing (client_line names w (client_number k) rest)) ≡ true
    remark true = refl
    remark false = by (client_number k) (number_client k)

abbrev item_names_client : Item → Bool
item_names_client PassedOver = true
item_names_client (Skipped client n why) = is_client_or_none client
item_names_client (Said n i) = is_client i.actor
item_names_client (Waited m) = true
item_names_client Asked = true

item_client : (names : List (List ℕ)) (h : Heard) (l : List ℕ) → item_names_client (item names h l) ≡ true
item_client names h l = go (nat_le (length l) MOST_LINE) (live_line names l) (line_client names (words (without_return l)))
  where
    passes : (m : ℕ) (b : Bool) → item_names_client (cond b (skipped_loose h Late) (Waited m)) ≡ true
    passes m true = refl
    passes m false = refl

    said : (client m : ℕ) (c : Command) → is_client client ≡ true → (b : Bool) → item_names_client (cond b (skipped_by h client Late) (Said (h.said client + 1) (input_of client m c))) ≡ true
    said client m c s true = s
    said client m c s false = s

    of_line : (x : LiveLine) → line_names_client x ≡ true → item_names_client (item_of h x) ≡ true
    of_line Nothing s = refl
    of_line (Unknown None) s = refl
    of_line (Unknown (Some client)) s = s
    of_line (Says client m c) s = said client m c s (nat_lt m h.latest)
    of_line (Passes m) s = passes m (nat_lt m h.latest)
    of_line Asks s = refl

    go : (b : Bool) (x : LiveLine) → line_names_client x ≡ true → item_names_client (cond b (item_of h x) (skipped_loose h TooLong)) ≡ true
    go true x s = of_line x s
    go false x s = refl

items_client : (names : List (List ℕ)) (h : Heard) (ls : List (List ℕ)) → list_all item_names_client (items_from names h ls) ≡ true
items_client names h [] = refl
items_client names h (l ∷ ls) =
    let x : Item = item names h l in
    and_both (item_names_client x) (list_all item_names_client (items_from names (heard_after h x) ls)) (item_client names h l) (items_client names (heard_after h x) ls)

-- ---- pools

-- who has a pool is a client
abbrev ArePools : FinMap nat_cmp ClientPool → Type 0
ArePools pools = (c : ℕ) → is_some (FinMap.get pools c) ≡ true → is_client c ≡ true

pools_put : (pools : FinMap nat_cmp ClientPool) (k : ℕ) (o : Option ClientPool) → ArePools pools → (is_some o ≡ true → is_client k ≡ true) → ArePools (with_entry pools k o)
pools_put pools k o s h c e = go (eqb c k) refl (subst (λ x. is_some x ≡ true) (get-put pools k o c) e)
  where
    go : (b : Bool) → eqb c k ≡ b → is_some (cond b o (FinMap.get pools c)) ≡ true → is_client c ≡ true
    go true e f = subst (λ x. is_client x ≡ true) (sym (eqb-true c k e)) (h f)
    go false e f = s c f

offered : (k : ℕ) (o : Option ClientPool) (d : Delivery) → (is_some o ≡ true → is_client k ≡ true) → is_some (offer o d) ≡ true → is_client k ≡ true
offered k None d h e = absurd (false≢true e)
offered k (Some p) d h e = h refl

next_pools : FinMap nat_cmp ClientPool → Delivery → FinMap nat_cmp ClientPool
next_pools pools d = with_entry pools d.target.client (offer (FinMap.get pools d.target.client) d)

pools_next : (pools : FinMap nat_cmp ClientPool) (d : Delivery) → ArePools pools → ArePools (next_pools pools d)
unfolding next_pools
pools_next pools d s = pools_put pools d.target.client (offer (FinMap.get pools d.target.client) d) s (offered d.target.client (FinMap.get pools d.target.client) d (s d.target.client))

abbrev is_to_client : Delivery → Bool
is_to_client d = is_client d.target.client

-- pools, and what was delivered to them
abbrev Good : FinMap nat_cmp ClientPool → List Delivery → Type 0
Good pools ds = ArePools pools × (list_all is_to_client ds ≡ true)

delivered_good : (ds : List Delivery) (pools : FinMap nat_cmp ClientPool) → ArePools pools → Good (pools_after pools ds) (copies_with_room pools ds)
unfolding next_pools
delivered_good [] pools s = (s, refl)
delivered_good (d ∷ ds) pools s =
    let more : Good (pools_after (next_pools pools d) ds) (copies_with_room (next_pools pools d) ds) = delivered_good ds (next_pools pools d) (pools_next pools d s) in
    (more.0, go (pool_has_room d.moment (FinMap.get pools d.target.client)) refl (copies_with_room (next_pools pools d) ds) more.1)
  where
    has_pool : (o : Option ClientPool) → pool_has_room d.moment o ≡ true → is_some o ≡ true
    has_pool None e = e
    has_pool (Some p) e = refl

    go : (b : Bool) → pool_has_room d.moment (FinMap.get pools d.target.client) ≡ b → (rest : List Delivery) → list_all is_to_client rest ≡ true → list_all is_to_client (cond b (d ∷ rest) rest) ≡ true
    go true e rest more = and_both (is_to_client d) (list_all is_to_client rest) (s d.target.client (has_pool (FinMap.get pools d.target.client) e)) more
    go false e rest more = more

unless_good : (o : Option Refusal) (s : State) (a : Stepped) → ArePools s.pools → Good a.state.pools a.delivered → Good (unless o s a).state.pools (unless o s a).delivered
unless_good None s a h g = g
unless_good (Some r) s a h g = (h, refl)

settle_good : (s : State) (m : ℕ) → ArePools s.pools → Good (settle s m).state.pools (settle s m).delivered
settle_good s m h = delivered_good (flat_map (event_copies s) (due s m)) s.pools h

step_good : (files : List PlayedFile) (s : State) (i : Input) → is_client i.actor ≡ true → ArePools s.pools → Good (step files s i).state.pools (step files s i).delivered
step_good files s i a h =
    let u : Settled = settle s i.moment in
    let g : Good u.state.pools u.delivered = settle_good s i.moment h in
    let effect : Effect = (row_of files u.state i.moment i.actor i.command).effect in
    let own : FinMap nat_cmp ClientPool = with_entry u.state.pools i.actor (effect.pool (FinMap.get u.state.pools i.actor)) in
    let done : Stepped = effect_of files u.state i.moment i.actor i.command in
    let e : Good done.state.pools done.delivered = delivered_good (send_copies u.state i.moment i.actor effect.sends) own (pools_put u.state.pools i.actor (effect.pool (FinMap.get u.state.pools i.actor)) g.0 (λ t. a)) in
    let r : Option Refusal = refusal_of files u.state i.moment i.actor i.command in
    let c : Good (unless r u.state done).state.pools (unless r u.state done).delivered = unless_good r u.state done g.0 e in
    (c.0, list_all-append is_to_client u.delivered (unless r u.state done).delivered g.1 c.1)

-- ---- answers

abbrev pub part_names_client : Part → Bool
part_names_client (Comes d) = is_client d.target.client
part_names_client (Answers n i reply) = is_client i.actor
part_names_client (Skips client n why) = is_client_or_none client
part_names_client (Lists s) = true
part_names_client (Next m) = true

ended_client : (parts rest : List Part) (s : State) → list_all part_names_client parts ≡ true → list_all part_names_client rest ≡ true → list_all part_names_client (ended parts s ++ rest) ≡ true
ended_client parts rest s h k = list_all-append part_names_client (ended parts s) rest (list_all-append part_names_client parts (ended [] s) h refl) k

comes_client : (ds : List Delivery) → list_all is_to_client ds ≡ true → list_all part_names_client (map Comes ds) ≡ true
comes_client ds h = list_all-map part_names_client is_to_client Comes (λ d e. e) ds h

answers_client : (files : List PlayedFile) (xs : List Item) (s : State) → ArePools s.pools → list_all item_names_client xs ≡ true → list_all part_names_client (answers_from files s xs) ≡ true
answers_client files [] s p h = refl
answers_client files (PassedOver ∷ xs) s p h = answers_client files xs s p h
answers_client files (Skipped client n why ∷ xs) s p h =
    let a : is_client_or_none client ≡ true = both_left (is_client_or_none client) (list_all item_names_client xs) h in
    ended_client (Skips client n why ∷ []) (answers_from files s xs) s (and_both (is_client_or_none client) true a refl)
    (answers_client files xs s p (both_right (is_client_or_none client) (list_all item_names_client xs) h))
answers_client files (Said n i ∷ xs) s p h =
    let a : is_client i.actor ≡ true = both_left (is_client i.actor) (list_all item_names_client xs) h in
    let t : Stepped = step files s i in
    let g : Good t.state.pools t.delivered = step_good files s i a p in
    ended_client (map Comes t.delivered ++ Answers n i t.reply ∷ []) (answers_from files t.state xs) t.state
    (list_all-append part_names_client (map Comes t.delivered) (Answers n i t.reply ∷ []) (comes_client t.delivered g.1) (and_both (is_client i.actor) true a refl))
    (answers_client files xs t.state g.0 (both_right (is_client i.actor) (list_all item_names_client xs) h))
answers_client files (Waited m ∷ xs) s p h =
    let u : Settled = settle s m in
    let g : Good u.state.pools u.delivered = settle_good s m p in
    ended_client (map Comes u.delivered) (answers_from files u.state xs) u.state (comes_client u.delivered g.1) (answers_client files xs u.state g.0 h)
answers_client files (Asked ∷ xs) s p h = ended_client (Lists s ∷ []) (answers_from files s xs) s refl (answers_client files xs s p h)

pub names_clients : (folder : FolderContents) (ls : List (List ℕ)) → list_all part_names_client (answers_to folder ls) ≡ true
names_clients folder ls = answers_client folder.files (items_of folder ls) start (λ c e. absurd (false≢true (sym (ap is_some (FinMap.get-empty nat_cmp c)) ∙ e))) (items_client folder.names nothing_heard ls)
