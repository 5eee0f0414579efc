-- Replies to a request for entries.
use Rattle.std.proofs.Common.{◌≡◌, ℕ, ◌+◌, Bool, true, false, not, cond, List, [], ◌∷◌, ◌||◌, ◌&&◌, ◌==◌, refl, sym, ◌∙◌, ap, subst, arith}
use Rattle.std.specs.Prelude.{Option, Some, None, Result, filter, is_some, map, nat_lt, option_map}
use Rattle.std.specs.List.{list_any}
use Rattle.std.proofs.lemmas.Bool.{and_parts}
use Rattle.std.proofs.lemmas.Bool.Decides.{nat_tests}
use Rattle.cf_engine_provider.specs.Agencies.{Agency, Any, Performs, Plays}
use Rattle.cf_engine_provider.specs.Findings.{Knows}
use Rattle.cf_engine_provider.specs.Listings.{AreAlike, known_in, path_of, paths_from}
use Rattle.cf_engine_provider.specs.Parts.{IsList, fetched, give_entries, listed, listing_unless}
use Rattle.cf_engine_provider.specs.declared.list_views.Found.{Found}
use Rattle.cf_engine_provider.proofs.Fetched.{by_live, no_fit, same_is}
use Rattle.cf_engine_provider.proofs.FitsAlike.{fits_alike}
use Rattle.cf_engine_provider.proofs.Played.{as_well, nothing, within}
use Rattle.cf_base.specs.declared.ids.ItemId.{ItemId}
use Rattle.cf_base.specs.declared.ids.Key.{Key}
use Rattle.cf_base.specs.declared.ids.Rid.{Rid}
use Rattle.cf_base.specs.declared.items.SeenPath.{SeenPath}
use Rattle.cf_base.specs.declared.memory.OutOfMemory.{OutOfMemory as NoMemory}
use Rattle.cf_base.specs.declared.messages.Entry.{Entry}
use Rattle.cf_base.specs.declared.messages.Reply.{Reply}
use Rattle.cf_base.specs.declared.messages.Reply.TheVariants as reply
use Rattle.cf_base.specs.declared.messages.Request.{Request}
use Rattle.cf_base.specs.declared.messages.Request.TheVariants as request
use Rattle.cf_base.specs.declared.operations.NewItem.{NewItem}
use Rattle.cf_base.specs.declared.operations.Operation.TheVariants as operation
use Rattle.cf_base.specs.declared.waits.Ask.{Ask}
use Rattle.cf_model.specs.Arrows.{Arrow, ret, seq, unit}
use Rattle.cf_model.specs.Books.{Book, with_seen}
use Rattle.cf_model.specs.Fetching.{after_listing, is_new, live_ask, new_item_of, take_listing, with_seen_from}
use Rattle.cf_model.specs.Fits.{Known, are_entries, fits, is_known, is_listing}
use Rattle.cf_model.specs.Identities.{by_target, is_untargeted, target_of}
use Rattle.cf_model.specs.Items.{Item}
use Rattle.cf_model.specs.Messages.{act_unless, is_old, known_now, known_of, settled_rid, take_reply}
use Rattle.cf_model.specs.Numbers.{same_key}
use Rattle.cf_model.specs.Operations.{execute_with}
use Rattle.cf_model.specs.Ports.{Act, seeing}
use Rattle.cf_model.specs.PushReplies.{is_new_entry}
use Rattle.cf_model.specs.Requests.{Live}
use Rattle.cf_model.specs.State.{Filter, State, book_now, in_filter, items_now}
use Rattle.cf_remote.specs.Told.{Told}

-- items of the remote that are here

of_none : (t r : ℕ) → (t == 0) ≡ true → (nat_lt 0 r && (t == r)) ≡ false
of_none t r h = grind (arith, nat_tests, h)

of_some : (t r : ℕ) → (t == 0) ≡ false → (nat_lt 0 r && (t == r)) ≡ (t == r)
of_some t r h = grind (arith, nat_tests, h)

some_or : (b : Bool) (i : Item) (o : Option Item) → is_some (cond b (Some i) o) ≡ (b || is_some o)
some_or true i o = refl
some_or false i o = refl

abbrev with_targets : List Item → List Item
with_targets is = filter (λ x. not (is_untargeted x)) is

one_here : (i : Item) (is : List Item) (rid : Rid) (b : Bool) → is_untargeted i ≡ b → is_some (by_target is rid) ≡ is_known (known_in is) rid → is_some (by_target (i ∷ is) rid) ≡ is_known (known_in (i ∷ is)) rid
one_here i is rid true h rest =
    ap (λ (x : Bool). is_some (cond x (Some i) (by_target is rid))) (of_none (target_of i).0 rid.0 h) ∙ rest ∙ sym (ap (λ (x : Bool). is_known (map known_of (cond (not x) (i ∷ with_targets is) (with_targets is))) rid) h)
one_here i is rid false h rest =
    ap (λ (x : Bool). is_some (cond x (Some i) (by_target is rid))) (of_some (target_of i).0 rid.0 h) ∙ some_or ((target_of i).0 == rid.0) i (by_target is rid) ∙ ap (λ (x : Bool). ((target_of i).0 == rid.0) || x) rest
    ∙ sym (ap (λ (x : Bool). is_known (map known_of (cond (not x) (i ∷ with_targets is) (with_targets is))) rid) h)

here : (is : List Item) (rid : Rid) → is_some (by_target is rid) ≡ is_known (known_in is) rid
here [] rid = refl
here (i ∷ is) rid = one_here i is rid (is_untargeted i) refl (here is rid)

abbrev pub left_of : List Known → List Entry → List Entry
left_of ks es = filter (λ e. not (is_known ks e.rid)) es

same_new : (is : List Item) (es : List Entry) → filter (is_new is) es ≡ left_of (known_in is) es
same_new is es = ap (λ (p : Entry → Bool). filter p es) (λ j. λ e. not (here is e.rid j))

-- items that are known alike

left_alike : (ks ls : List Known) (es : List Entry) → AreAlike ks ls → left_of ks es ≡ left_of ls es
left_alike ks ls es same = ap (λ (p : Entry → Bool). filter p es) (λ j. λ e. not (same.known e.rid j))

-- paths seen

paths_at : (id : ℕ) (es : List Entry) (b : Book) → with_seen_from id es b ≡ seeing (paths_from id es) b
paths_at id [] b = refl
paths_at id (e ∷ es) b = paths_at (id + 1) es (with_seen (path_of id e) b)

paths_are : (id : ℕ) (es : List Entry) → with_seen_from id es ≡ seeing (paths_from id es)
paths_are id es = λ j. λ b. paths_at id es b j

-- entries

-- by items that are known alike, and the next id
pub listing_by : (key : Key) (local : List Known) (next : ItemId) (es : List Entry) (z : State) → AreAlike local (known_in (items_now z)) → next ≡ z.filter.volume.next_item
    → give_entries key (map new_item_of (left_of local es)) (paths_from next.0 (left_of local es)) z ≡ take_listing key es z
listing_by key local next es z alike first =
    let is : left_of local es ≡ filter (is_new (items_now z)) es = left_alike local (known_in (items_now z)) es alike ∙ sym (same_new (items_now z) es) in
    ap (λ (n : ItemId). give_entries key (map new_item_of (left_of local es)) (paths_from n.0 (left_of local es)) z) first
    ∙ ap (λ (l : List Entry). give_entries key (map new_item_of l) (paths_from z.filter.volume.next_item.0 l) z) is
    ∙ ap (λ (f : Book → Book). seq (in_filter (execute_with f (operation.Entries key (map new_item_of (filter (is_new (items_now z)) es)) true))) (after_listing key) z) (sym (paths_are z.filter.volume.next_item.0 (filter (is_new (items_now z)) es)))

listing_is : (key own : Key) (x : Found) (es : List Entry) (z : State) → Knows own x z.filter → give_entries key (map new_item_of (left_of x.local es)) (paths_from x.next.0 (left_of x.local es)) z ≡ take_listing key es z
listing_is key own x es z k = listing_by key x.local x.next es z k.local k.next

-- whether a reply fits

fits_here : (ks : List Known) (a b : Rid) (key : Key) (q : Request) (r : Reply) → IsList key q → fits ks a q r ≡ fits ks b q r
fits_here ks a b key (request.List own rid) (reply.Feed round clock es) is = refl
fits_here ks a b key (request.List own rid) (reply.Listing k es) is = refl
fits_here ks a b key (request.List own rid) (reply.Bytes k at bytes) is = refl
fits_here ks a b key (request.List own rid) (reply.Missing k) is = refl
fits_here ks a b key (request.List own rid) (reply.Done token r v) is = refl
fits_here ks a b key (request.List own rid) (reply.Void token) is = refl
fits_here ks a b key (request.List own rid) (reply.Refused token w v) is = refl
fits_here ks a b key (request.List own rid) (reply.Gone k) is = refl
fits_here ks a b key (request.Feed a1 a2) r is = absurd is
fits_here ks a b key (request.Fetch a1 a2 a3 a4 a5) r is = absurd is
fits_here ks a b key (request.Put a1 a2 a3 a4 a5 a6) r is = absurd is
fits_here ks a b key (request.MakeDir a1 a2 a3) r is = absurd is
fits_here ks a b key (request.Move a1 a2 a3 a4) r is = absurd is
fits_here ks a b key (request.Remove a1 a2 a3) r is = absurd is
fits_here ks a b key (request.Settle a1) r is = absurd is
fits_here ks a b key (request.Keep a1 a2) r is = absurd is

-- a reply that fits is one of two, and has the key
abbrev Listing : Key → Reply → Type 0
Listing key (reply.Listing k es) = k ≡ key
Listing key (reply.Missing k) = k ≡ key
Listing key _ = ⊥

fitting : (key : Key) (ks : List Known) (a : Rid) (q : Request) (r : Reply) → IsList key q → fits ks a q r ≡ true → Listing key r
fitting key ks a (request.List own rid) (reply.Feed round clock es) is h = no_fit h
fitting key ks a (request.List own rid) (reply.Listing k es) is h = sym (same_is own k (and_parts (same_key own k) (are_entries ks es) (and_parts (same_key own k && are_entries ks es) (is_listing rid es) h).0).0) ∙ is
fitting key ks a (request.List own rid) (reply.Bytes k at bytes) is h = no_fit h
fitting key ks a (request.List own rid) (reply.Missing k) is h = sym (same_is own k h) ∙ is
fitting key ks a (request.List own rid) (reply.Done token r v) is h = no_fit h
fitting key ks a (request.List own rid) (reply.Void token) is h = no_fit h
fitting key ks a (request.List own rid) (reply.Refused token w v) is h = no_fit h
fitting key ks a (request.List own rid) (reply.Gone k) is h = no_fit h
fitting key ks a (request.Feed a1 a2) r is h = absurd is
fitting key ks a (request.Fetch a1 a2 a3 a4 a5) r is h = absurd is
fitting key ks a (request.Put a1 a2 a3 a4 a5 a6) r is h = absurd is
fitting key ks a (request.MakeDir a1 a2 a3) r is h = absurd is
fitting key ks a (request.Move a1 a2 a3 a4) r is h = absurd is
fitting key ks a (request.Remove a1 a2 a3) r is h = absurd is
fitting key ks a (request.Settle a1) r is h = absurd is
fitting key ks a (request.Keep a1 a2) r is h = absurd is

-- what it does then

unless : (k : Key) (es : List Entry) (z : State) (n : Bool) → act_unless (reply.Listing k es) n z ≡ listing_unless n k es z
unless k es z true = refl
unless k es z false = refl

by_ask : (k : Key) (es : List Entry) (z : State) (n : Bool) (x : Option Live) → act_unless (reply.Listing k es) (not (is_some x) || n) z ≡ listed (option_map (λ a. a.ask) x) n (reply.Listing k es) z
by_ask k es z n None = refl
by_ask k es z n (Some a) = unless k es z n

missing_is : (k : Key) (z : State) (n : Bool) (x : Option Ask) → fetched x (reply.Missing k) z ≡ listed x n (reply.Missing k) z
missing_is k z n None = refl
missing_is k z n (Some a) = refl

heard : (r : Reply) (key : Key) (z : State) (n : Bool) → n ≡ list_any is_new_entry (book_now z).entries → Listing key r → act_unless r (is_old z r) z ≡ listed (option_map (λ a. a.ask) (live_ask z key)) n r z
heard (reply.Listing k es) key z n news same =
    ap (λ (x : Bool). act_unless (reply.Listing k es) (not (is_some (live_ask z k)) || x) z) (sym news) ∙ by_ask k es z n (live_ask z k) ∙ ap (λ (l : Key). listed (option_map (λ a. a.ask) (live_ask z l)) n (reply.Listing k es) z) same
heard (reply.Missing k) key z n news same = by_live (reply.Missing k) key z (live_ask z key) refl same ∙ missing_is k z n (option_map (λ a. a.ask) (live_ask z key))
heard (reply.Feed round clock es) key z n news same = absurd same
heard (reply.Bytes k at bytes) key z n news same = absurd same
heard (reply.Done token r v) key z n news same = absurd same
heard (reply.Void token) key z n news same = absurd same
heard (reply.Refused token w v) key z n news same = absurd same
heard (reply.Gone k) key z n news same = absurd same

module _ {R : Type 0} (told : R → Told) where
  pub given : (key own : Key) (x : Found) (es : List Entry) (b : Bool) (p q : Agency R) (acts : List Act) → b ≡ false → Plays told Any (give_entries key (map new_item_of (left_of x.local es)) (paths_from x.next.0 (left_of x.local es))) p acts q → Plays told (Knows own x) (listing_unless b key es) p acts q
  given key own x es b p q acts is h =
      as_well told (Knows own x) (give_entries key (map new_item_of (left_of x.local es)) (paths_from x.next.0 (left_of x.local es))) (listing_unless b key es) p q acts
      (λ z k. listing_is key own x es z k ∙ sym (ap (λ (y : Bool). listing_unless y key es z) is)) h

  pub not_given : (key own : Key) (x : Found) (es : List Entry) (b : Bool) (p : Agency R) → b ≡ true → Plays told (Knows own x) (listing_unless b key es) p [] p
  not_given key own x es b p is = as_well told (Knows own x) (ret unit) (listing_unless b key es) p p [] (λ z k. sym (ap (λ (y : Bool). listing_unless y key es z) is)) (nothing told Any p)

  module _ (key : Key) (x : Found) (q : Request) (r : Reply) (own : IsList key q) where
    whole : (z : State) (b : Bool) → Knows key x z.filter → b ≡ fits x.local (record { 0 = 0 }) q r → b ≡ fits (known_now z) (settled_rid z q) q r
    whole z b k is = is ∙ fits_here x.local (record { 0 = 0 }) (settled_rid z q) key q r own ∙ fits_alike x.local (known_now z) (settled_rid z q) q r k.local

    pub unfit : (b : Bool) (p : Agency R) → b ≡ fits x.local (record { 0 = 0 }) q r → b ≡ false → Plays told (Knows key x) (take_reply q r) p [] p
    unfit b p is miss = as_well told (Knows key x) (ret unit) (take_reply q r) p p [] (λ z k. sym (ap (λ (y : Bool). act_unless r (not y || is_old z r) z) (sym (whole z b k is) ∙ miss))) (nothing told Any p)

    fit_at : (z : State) (b : Bool) → Knows key x z.filter → b ≡ fits x.local (record { 0 = 0 }) q r → b ≡ true → listed x.live x.sends_new r z ≡ take_reply q r z
    fit_at z b k is hit =
        let all : fits (known_now z) (settled_rid z q) q r ≡ true = sym (whole z b k is) ∙ hit in
        sym (ap (λ (y : Bool). act_unless r (not y || is_old z r) z) all ∙ heard r key z x.sends_new k.sends_new (fitting key (known_now z) (settled_rid z q) q r own all) ∙ ap (λ (o : Option Ask). listed o x.sends_new r z) k.live)

    pub fit : (b : Bool) (p n : Agency R) (acts : List Act) (o : Option Ask) → b ≡ fits x.local (record { 0 = 0 }) q r → b ≡ true → x.live ≡ o → Plays told (Knows key x) (listed o x.sends_new r) p acts n → Plays told (Knows key x) (take_reply q r) p acts n
    fit b p n acts o is hit same h =
        within told (Knows key x) (listed o x.sends_new r) (take_reply q r) p n acts (λ z k. ap (λ (y : Option Ask). listed y x.sends_new r z) (sym same) ∙ fit_at z b k is hit) h

  module _ {X : Type 0} (goes : X → List Act → X → Type 0) where
    pub gave : (key own : Key) (x : Found) (es : List Entry) (b : Bool) (list : List NewItem) (seen : List SeenPath) (p q : Agency R) (old new : X) (r : Result (Unit {0}) NoMemory) → b ≡ false → list ≡ map new_item_of (left_of x.local es) → seen ≡ paths_from x.next.0 (left_of x.local es)
        → Performs goes (λ acts. Plays told Any (give_entries key list seen) p acts q) old r new → Performs goes (λ acts. Plays told (Knows own x) (listing_unless b key es) p acts q) old r new
    gave key own x es b list seen p q old new r is items paths h =
        (h.0, h.1, λ ok. given key own x es b p q h.0 is (subst (λ (l : List SeenPath). Plays told Any (give_entries key (map new_item_of (left_of x.local es)) l) p h.0 q) paths (subst (λ (l : List NewItem). Plays told Any (give_entries key l seen) p h.0 q) items (h.2 ok))))

    -- the same part by another name
    pub alike : (Holds : Filter → Type 0) (f g : Arrow State (Unit {0})) (p q : Agency R) (old new : X) (r : Result (Unit {0}) NoMemory) → g ≡ f → Performs goes (λ acts. Plays told Holds f p acts q) old r new → Performs goes (λ acts. Plays told Holds g p acts q) old r new
    alike Holds f g p q old new r same h = subst (λ (x : Arrow State (Unit {0})). Performs goes (λ acts. Plays told Holds x p acts q) old r new) (sym same) h

    pub no_act : (Holds : Filter → Type 0) (g : Arrow State (Unit {0})) (p : Agency R) (x : X) (r : Result (Unit {0}) NoMemory) → g ≡ ret unit → goes x [] x → Performs goes (λ acts. Plays told Holds g p acts p) x r x
    no_act Holds g p x r same stays = ([], stays, λ ok. subst (λ (y : Arrow State (Unit {0})). Plays told Holds y p [] p) (sym same) (nothing told Holds p))

    pub of_any : (Holds : Filter → Type 0) (f g : Arrow State (Unit {0})) (p q : Agency R) (old new : X) (r : Result (Unit {0}) NoMemory) → g ≡ f → Performs goes (λ acts. Plays told Any f p acts q) old r new → Performs goes (λ acts. Plays told Holds g p acts q) old r new
    of_any Holds f g p q old new r same h = (h.0, h.1, λ ok. as_well told Holds f g p q h.0 (λ z holds. ap (λ (x : Arrow State (Unit {0})). x z) (sym same)) (h.2 ok))
