-- Replies that an upload was done.
use Rattle.std.proofs.Common.{◌≡◌, ◌<◌, ◌≤◌, ◌+◌, ◌⊎◌, ℕ, Bool, true, false, List, [], ◌∷◌, length, refl, sym, ◌∙◌, ap, subst, inl, inr, arith, eq-eqb}
use Rattle.std.specs.Prelude.{Option, Some, None, cond, filter, is_some, map, nat_lt, not, ◌&&◌, ◌||◌, ◌==◌}
use Rattle.std.specs.List.{list_any}
use Rattle.std.proofs.lemmas.Bool.{eqb-true}
use Rattle.std.proofs.lemmas.Bool.Decides.{nat_tests}
use Rattle.cf_base.specs.declared.ids.Rid.{Rid}
use Rattle.cf_base.specs.declared.ids.Token.{Token}
use Rattle.cf_base.specs.declared.ids.Version.{Version}
use Rattle.cf_base.specs.declared.messages.Reply.{Reply}
use Rattle.cf_base.specs.declared.messages.Reply.TheVariants as reply
use Rattle.cf_base.specs.declared.messages.Request.{Request}
use Rattle.cf_base.specs.declared.messages.Request.TheVariants as request
use Rattle.cf_base.specs.declared.notices.Frame.TheVariants as frame
use Rattle.cf_base.specs.declared.policies.Mode.TheVariants as mode
use Rattle.cf_model.specs.Books.{Action, MakeDir, MoveItem, PutFile, QueueEntry, RemoveItem}
use Rattle.cf_model.specs.Fits.{Known, done_fits, fits, is_known}
use Rattle.cf_model.specs.Growth.{CountsFrom, IsCounted}
use Rattle.cf_model.specs.Identities.{is_untargeted, target_of}
use Rattle.cf_model.specs.Items.{Item}
use Rattle.cf_model.specs.Lawful.{Runs}
use Rattle.cf_model.specs.Messages.{entry_live, is_stale, known_now, known_of, settled_rid}
use Rattle.cf_model.specs.Numbers.{no_rid, root_rid, same_key}
use Rattle.cf_model.specs.PushReplies.{is_new_by, is_new_entry}
use Rattle.cf_model.specs.State.{State, book_now, items_now, start}
use Rattle.cf_model.specs.Store.{Held, RecordedDone, Stored, recorded_at, stored_at}
use Rattle.cf_model.specs.Words.{part}
use Rattle.cf_model_laws.specs.Invariant.{All, Asks, DidBy, IsAskedFor, IsIn, IsSound, IsUnmade, Made, TellsBytes, TellsTruth, message_in, target_in}
use Rattle.cf_model_laws.specs.Premises.{IsFair, IsFresh}
use Rattle.cf_model_laws.proofs.Gathered.{all_found, all_weaker}
use Rattle.cf_model_laws.proofs.MessagesGuarded.{all_message}
use Rattle.cf_model_laws.proofs.RemoteSteps.{none_some, same_token}
use Rattle.cf_model_laws.proofs.RightItems.{no_way, no_way_back}
use Rattle.cf_model_headline.specs.Reports.{OfEach, Report}
use Rattle.cf_model_headline.specs.Stale.{DoneIsTaken, IsDone}
use Rattle.cf_model_headline.proofs.StaleLaws.{taken_where}

abbrev Any : Stored → Type 0
Any s = Unit {0}

-- what is told of an upload fits it

both : (a b : Bool) → a ≡ true → b ≡ true → (a && b) ≡ true
both true b h k = k
both false b h k = no_way h

apart : (a : ℕ) → (a ≡ 0 → ⊥) → (a == 0) ≡ false
apart a h = by (a == 0) refl where
  by : (b : Bool) → (a == 0) ≡ b → b ≡ false
  by true e = absurd (h (eqb-true a 0 e))
  by false e = refl

-- of an item that the remote had, it is that item
fits_old : (ks : List Known) (asked told : Rid) → (asked.0 ≡ 0 → ⊥) → told.0 ≡ asked.0 → done_fits ks asked told ≡ true
fits_old ks asked told old same = rw (apart asked.0 old) (eq-eqb asked.0 told.0 (sym same))

-- a new one is none that is known
fits_new : (ks : List Known) (asked told : Rid) → asked.0 ≡ 0 → 1 < told.0 → is_known ks told ≡ false → done_fits ks asked told ≡ true
fits_new ks asked told none below unknown = rw (eq-eqb asked.0 0 none) (both (nat_lt 1 told.0) (not (is_known ks told)) (less told.0 below) (ap (λ (b : Bool). not b) unknown)) where
  less : (n : ℕ) → 1 < n → nat_lt 1 n ≡ true
  less n h = grind (arith, nat_tests, h)

-- the upload made a new item: it names none
names_none : (a : Action) (asked : Rid) → (a ≡ MakeDir → asked.0 ≡ 0) → is_new_by a asked ≡ true → asked.0 ≡ 0
names_none PutFile asked k h = eqb-true asked.0 0 h
names_none MakeDir asked k h = k refl
names_none MoveItem asked k h = no_way h
names_none RemoveItem asked k h = no_way h

-- the upload did something to the item that it names
names_it : (a : Action) (ss : List Stored) (asked told : Rid) → is_new_by a asked ≡ false → DidBy a ss asked told → told.0 ≡ asked.0
names_it PutFile ss asked told new did = by did.1 where
  by : (asked.0 ≡ 0) ⊎ (told.0 ≡ asked.0) → told.0 ≡ asked.0
  by (inl h) = no_way_back (sym (eq-eqb asked.0 0 h) ∙ new)
  by (inr h) = h
names_it MakeDir ss asked told new did = no_way_back new
names_it MoveItem ss asked told new did = did.0
names_it RemoveItem ss asked told new did = did.0

-- an item of the remote has a number
numbered : (n : ℕ) (ss : List Stored) (rid : Rid) → CountsFrom n ss → IsIn Any ss rid → n ≤ rid.0
numbered n [] rid counted h = none_some h.0 h.1
numbered n (s ∷ ss) rid counted h = by (s.rid.0 == rid.0) refl h.1 (λ k. numbered (n + 1) ss rid counted.1 (h.0, k, tt)) where
  first : (a b : ℕ) → a ≡ n → a ≡ b → n ≤ b
  first a b h k = omega (arith, h, k)

  later : (a : ℕ) → n + 1 ≤ a → n ≤ a
  later a h = omega (arith, h)

  by : (b : Bool) → (s.rid.0 == rid.0) ≡ b → cond b (Some s) (stored_at ss rid) ≡ Some h.0 → (stored_at ss rid ≡ Some h.0 → n + 1 ≤ rid.0) → n ≤ rid.0
  by true q k more = first s.rid.0 rid.0 counted.0 (eqb-true s.rid.0 rid.0 q)
  by false q k more = later rid.0 (more k)

-- so it names one
names_some : (a : Action) (r : Held) (asked told : Rid) → IsCounted r → is_new_by a asked ≡ false → DidBy a r.items asked told → asked.0 ≡ 0 → ⊥
names_some PutFile r asked told counted new did z = no_way_back (sym (eq-eqb asked.0 0 z) ∙ new)
names_some MakeDir r asked told counted new did z = no_way_back new
names_some MoveItem r asked told counted new did z = none told.0 asked.0 (numbered 1 r.items told counted did.1) did.0 z where
  none : (a b : ℕ) → 1 ≤ a → a ≡ b → b ≡ 0 → ⊥
  none a b h k z = omega (arith, h, k, z)
names_some RemoveItem r asked told counted new did z = none told.0 asked.0 (numbered 1 r.items told counted (did.1.0, did.1.1, tt)) did.0 z where
  none : (a b : ℕ) → 1 ≤ a → a ≡ b → b ≡ 0 → ⊥
  none a b h k z = omega (arith, h, k, z)

-- what the remote made for an upload is no item here
unknown : (rid : Rid) → 1 < rid.0 → (items : List Item) → All (λ i. (target_in i.identity).0 ≡ rid.0 → ⊥) items → list_any (λ k. k.rid.0 == rid.0) (map known_of (filter (λ i. not (is_untargeted i)) items)) ≡ false
unknown rid low [] h = refl
unknown rid low (i ∷ is) h = by (is_untargeted i) (unknown rid low is h.1) where
  apart : (a b : ℕ) → (a ≡ b → ⊥) → (a == b) ≡ false
  apart a b h = one (a == b) refl where
    one : (c : Bool) → (a == b) ≡ c → c ≡ false
    one true q = absurd (h (eqb-true a b q))
    one false q = refl

  no_root : (a : ℕ) → 1 < a → 1 ≡ a → ⊥
  no_root a h k = omega (arith, h, k)

  other : (b : Bool) → (cond b root_rid (target_in i.identity)).0 ≡ rid.0 → ⊥
  other true z = no_root rid.0 low z
  other false z = h.0 z

  by : (b : Bool) → list_any (λ k. k.rid.0 == rid.0) (map known_of (filter (λ i. not (is_untargeted i)) is)) ≡ false
      → list_any (λ k. k.rid.0 == rid.0) (map known_of (cond (not b) (i ∷ filter (λ i. not (is_untargeted i)) is) (filter (λ i. not (is_untargeted i)) is))) ≡ false
  by true k = k
  by false k = rw (apart (target_of i).0 rid.0 (other (i.id.0 == 1))) k

not_both : (a b : Bool) → a ≡ true → b ≡ true → (not a || not b) ≡ false
not_both true true h k = refl
not_both true false h k = no_way k
not_both false b h k = no_way h

module _ (s : State) (e : QueueEntry) (token : Token) (rid : Rid) (version : Version) (r : Held) (live : entry_live s token ≡ Some e) (same : e.token ≡ token) (counted : IsCounted r) (made : is_new_entry e ≡ true → (1 < rid.0) × (is_known (known_now s) rid ≡ false))
    (did : DidBy e.action r.items e.rid rid) (new : e.action ≡ MakeDir → e.rid.0 ≡ 0) where
  names : (asked : Rid) → asked.0 ≡ e.rid.0 → done_fits (known_now s) asked rid ≡ true
  names asked is = by (is_new_entry e) refl where
    by : (b : Bool) → is_new_entry e ≡ b → done_fits (known_now s) asked rid ≡ true
    by false old = fits_old (known_now s) asked rid (λ z. names_some e.action r e.rid rid counted old did (sym is ∙ z)) (names_it e.action r.items e.rid rid old did ∙ sym is)
    by true is_new = fits_new (known_now s) asked rid (is ∙ names_none e.action e.rid new is_new) (made is_new).0 (made is_new).1

  own : (t : Token) → same_key t.0 token.0 ≡ true → same_key t.0 e.token.0 ≡ true
  own t h = subst (λ (x : Token). same_key t.0 x.0 ≡ true) (sym same) h

  fits_push : (t : Token) (asked : Rid) → same_key t.0 token.0 ≡ true → asked.0 ≡ e.rid.0 → (same_key t.0 token.0 && done_fits (known_now s) asked rid) ≡ true
  fits_push t asked h is = both (same_key t.0 token.0) (done_fits (known_now s) asked rid) h (names asked is)

  settled : (t : Token) → same_key t.0 token.0 ≡ true → (settled_rid s (request.Settle t)).0 ≡ e.rid.0
  settled t h = ap (λ (x : Token). (part (λ f. f.rid) no_rid (entry_live s x)).0) (same_token t token h) ∙ ap (λ (o : Option QueueEntry). (part (λ f. f.rid) no_rid o).0) live

  fits_done : (q : Request) → Asks e q → TellsBytes r q (reply.Done token rid version) → fits (known_now s) (settled_rid s q) q (reply.Done token rid version) ≡ true
  fits_done (request.Feed round after) asks tells = absurd tells
  fits_done (request.List key at) asks tells = absurd tells
  fits_done (request.Fetch key at v start len) asks tells = absurd tells
  fits_done (request.Put t asked expect parent name bytes) asks tells = fits_push t asked tells (asks (own t tells)).1
  fits_done (request.MakeDir t parent name) asks tells = fits_push t (record { 0 = 0 }) tells (sym (new (asks (own t tells))))
  fits_done (request.Move t asked parent name) asks tells = fits_push t asked tells (asks (own t tells)).1
  fits_done (request.Remove t asked expect) asks tells = fits_push t asked tells (asks (own t tells)).1
  fits_done (request.Settle t) asks tells = fits_push t (settled_rid s (request.Settle t)) tells (settled t tells)
  fits_done (request.Keep t count) asks tells = no_way (sym asks ∙ own t tells)

-- what was made for an upload is below the root, and no item here
made_new : (s : State) (e : QueueEntry) (token : Token) (rid : Rid) (version : Version) → IsSound s.link s.volatile.tokens s.filter → entry_live s token ≡ Some e → recorded_at s.link.remote.tokens e.token ≡ Some (RecordedDone rid version)
    → is_new_entry e ≡ true → (1 < rid.0) × (is_known (known_now s) rid ≡ false)
made_new s e token rid version sound live recorded new = (low, unknown rid low (items_now s) others) where
  low : 1 < rid.0
  low = ((all_found (λ f. (new : Rid) → Made s.link.remote f new → (1 < new.0) × (new.0 ≤ length s.link.remote.items)) (λ f. same_key f.token.0 token.0) (book_now s).entries e live sound.now.made.there).0 rid (new, (version, recorded))).0

  others : All (λ i. (target_in i.identity).0 ≡ rid.0 → ⊥) (items_now s)
  others = all_weaker (λ i. IsUnmade s.link.remote (book_now s).entries (target_in i.identity)) (λ i. (target_in i.identity).0 ≡ rid.0 → ⊥)
      (λ i k z. (all_found (λ f. (new : Rid) → Made s.link.remote f new → new.0 ≡ (target_in i.identity).0 → ⊥) (λ f. same_key f.token.0 token.0) (book_now s).entries e live k).0 rid (new, (version, recorded)) (sym z)) (items_now s) sound.now.made.unknown

never_stale : (s : State) (answers : ℕ) (q : Request) (r : Reply) → IsSound s.link s.volatile.tokens s.filter → message_in s.link.messages answers ≡ Some (frame.Request q) → TellsTruth s.link.remote r → TellsBytes s.link.remote q r → IsDone s r
    → is_stale q r s ≡ false
never_stale s answers q (reply.Done token rid version) sound sent truth tells done = by (entry_live s token) refl done where
  by : (o : Option QueueEntry) → entry_live s token ≡ o → (o ≡ None → ⊥) → (not (fits (known_now s) (settled_rid s q) q (reply.Done token rid version)) || not (is_some o)) ≡ false
  by None live none = absurd (none refl)
  by (Some e) live none =
      let asked : IsAskedFor s.link.remote s.link.messages e × (same_key e.token.0 token.0 ≡ true) = all_found (IsAskedFor s.link.remote s.link.messages) (λ f. same_key f.token.0 token.0) (book_now s).entries e live sound.now.asked in
      let same : e.token ≡ token = same_token e.token token asked.1 in
      let recorded : recorded_at s.link.remote.tokens e.token ≡ Some (RecordedDone rid version) = subst (λ (x : Token). recorded_at s.link.remote.tokens x ≡ Some (RecordedDone rid version)) (sym same) truth in
      not_both (fits (known_now s) (settled_rid s q) q (reply.Done token rid version)) true
      (fits_done s e token rid version s.link.remote live same sound.counted (made_new s e token rid version sound live recorded) (asked.0.did rid version recorded) asked.0.new q (all_message (Asks e) s.link.messages answers q asked.0.sent sent) tells)
      refl
never_stale s answers q (reply.Feed round clock es) sound sent truth tells kind = absurd kind
never_stale s answers q (reply.Listing key es) sound sent truth tells kind = absurd kind
never_stale s answers q (reply.Bytes key start bytes) sound sent truth tells kind = absurd kind
never_stale s answers q (reply.Missing key) sound sent truth tells kind = absurd kind
never_stale s answers q (reply.Gone key) sound sent truth tells kind = absurd kind
never_stale s answers q (reply.Void token) sound sent truth tells kind = absurd kind
never_stale s answers q (reply.Refused token w version) sound sent truth tells kind = absurd kind

pub done_is_taken : (remote : Held) (clusters : ℕ) (report : Report) (last : State) → IsFresh remote → IsFair last.link → Runs mode.Replay (start mode.Replay remote clusters) report last
    → OfEach mode.Replay remote clusters report last (λ before s e a t. DoneIsTaken s e a)
done_is_taken = taken_where IsDone never_stale
