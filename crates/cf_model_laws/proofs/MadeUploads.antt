-- What the remote made for uploads on their way is known by no other.
use Rattle.std.proofs.Common.{◌≡◌, ◌⊎◌, ◌<◌, ◌≤◌, ◌+◌, ℕ, Bool, true, false, List, [], ◌∷◌, ◌++◌, refl, sym, ◌∙◌, ap, subst, inl, inr, arith, length, eq-eqb}
use Rattle.std.specs.Prelude.{Option, Some, None, cond, filter, find, not, suc, nat_le, nat_lt, ◌&&◌, ◌||◌, ◌==◌}
use Rattle.std.specs.List.{list_any}
use Rattle.cf_base.specs.declared.changes.Change.{Change}
use Rattle.cf_base.specs.declared.changes.Change.TheVariants as change
use Rattle.cf_base.specs.declared.ids.ItemId.{ItemId}
use Rattle.cf_base.specs.declared.ids.Rid.{Rid}
use Rattle.cf_base.specs.declared.ids.Token.{Token}
use Rattle.cf_base.specs.declared.ids.Usn.{Usn}
use Rattle.cf_base.specs.declared.ids.Version.{Version}
use Rattle.cf_base.specs.declared.items.Pin.{Pin}
use Rattle.cf_base.specs.declared.limits.TheConstants.{MOST_FILE_BYTES, MOST_PATH_NAMES}
use Rattle.cf_base.specs.declared.messages.Request.{Request}
use Rattle.cf_base.specs.declared.messages.Request.TheVariants as request
use Rattle.cf_base.specs.declared.messages.Why.{Why}
use Rattle.cf_base.specs.declared.messages.Why.TheVariants as why
use Rattle.cf_base.specs.declared.notices.Frame.{Frame}
use Rattle.cf_model.specs.Books.{Action, MakeDir, MoveItem, PutFile, QueueEntry, RemoveItem}
use Rattle.cf_model.specs.Effects.{changed, copies, effect}
use Rattle.cf_model.specs.Growth.{IsCounted}
use Rattle.cf_model.specs.Items.{Item, item_of}
use Rattle.cf_model.specs.Numbers.{no_rid, no_version, root_rid, same_key}
use Rattle.cf_model.specs.PushReplies.{is_new_by, is_new_entry}
use Rattle.cf_model.specs.State.{Filter}
use Rattle.cf_model.specs.Store.{Held, Mutation, Stored, depth_of, is_live_dir, is_taken, passes_bytes, passes_items, stored_at, with_new, Recorded, RecordedDone, RecordedVoid, decide, keep_last, make_dir, move_to, mutate, put_new, put_version, recorded_at, remote_step, remove_at, settle, with_token}
use Rattle.cf_model.proofs.StoreLaws.{recorded-first, same_key-refl, step_extends}
use Rattle.cf_model_laws.specs.Fitting.{Aims, AimsFree, Meets}
use Rattle.cf_model_laws.specs.Invariant.{All, AreMadeApart, AreMadeNew, Asks, DidBy, IsAimed, IsAskedFor, IsRight, IsUnmade, Made, target_in}
use Rattle.cf_model.specs.Texts.{is_name}
use Rattle.cf_model.specs.Words.{says}
use Rattle.cf_model_laws.proofs.EntriesAsked.{first_none, not_false}
use Rattle.cf_model_laws.proofs.FitItems.{all_changed}
use Rattle.cf_model_laws.proofs.Gathered.{all_append, all_both, all_filter, all_found, all_weaker, each_any}
use Rattle.cf_model_laws.proofs.RemoteSteps.{items_grow, kind_under, mutated_other, none_some, other_first, same_token}
use Rattle.cf_model_laws.proofs.RightItems.{no_way, no_way_back}

-- of what has no record nothing was made
abbrev pub NoRecord : Held → QueueEntry → Type 0
NoRecord r e = (rid : Rid) (version : Version) → recorded_at r.tokens e.token ≡ Some (RecordedDone rid version) → ⊥

same_rid : (a b : Rid) → a.0 ≡ b.0 → a ≡ b
same_rid a b e = ap (λ (n : ℕ). rid_of n) e where
  rid_of : ℕ → Rid
  rid_of n = record { 0 = n }

-- fewer uploads

unmade_fewer : (r : Held) (p : QueueEntry → Bool) (es : List QueueEntry) (rid : Rid) → IsUnmade r es rid → IsUnmade r (filter p es) rid
unmade_fewer r p es rid h = all_filter (λ e. (new : Rid) → Made r e new → new.0 ≡ rid.0 → ⊥) p es h

abbrev Apart : Held → QueueEntry → QueueEntry → Type 0
Apart r e f = (same_key e.token.0 f.token.0 ≡ false) × ((rid : Rid) → Made r e rid → Made r f rid → ⊥)

apart_fewer : (r : Held) (p : QueueEntry → Bool) (es : List QueueEntry) → AreMadeApart r es → AreMadeApart r (filter p es)
apart_fewer r p [] h = tt
apart_fewer r p (e ∷ es) h = by (p e) (apart_fewer r p es h.1) where
  by : (b : Bool) → AreMadeApart r (filter p es) → AreMadeApart r (cond b (e ∷ filter p es) (filter p es))
  by true k = (all_filter (Apart r e) p es h.0, k)
  by false k = k

abbrev IsThere : Held → QueueEntry → Type 0
IsThere r e = (rid : Rid) → Made r e rid → (1 < rid.0) × (rid.0 ≤ length r.items)

-- the upload of a file is about an item of the remote that was made for no upload on its way
abbrev pub IsAbout : Held → List QueueEntry → QueueEntry → Type 0
IsAbout r es e = e.action ≡ PutFile → (e.rid.0 ≤ length r.items) × IsUnmade r es e.rid

pub made_fewer : (r : Held) (items : List Item) (p : QueueEntry → Bool) (es : List QueueEntry) → AreMadeNew r items es → AreMadeNew r items (filter p es)
made_fewer r items p es h = record {
  there = all_filter (IsThere r) p es h.there;
  unknown = all_weaker (λ i. IsUnmade r es (target_in i.identity)) (λ i. IsUnmade r (filter p es) (target_in i.identity)) (λ i k. unmade_fewer r p es (target_in i.identity) k) items h.unknown;
  named = all_filter (IsAbout r (filter p es)) p es (all_weaker (IsAbout r es) (IsAbout r (filter p es)) (λ e k put. ((k put).0, unmade_fewer r p es e.rid (k put).1)) es h.named);
  apart = apart_fewer r p es h.apart;
}

-- none of them makes an item
pub unmade_old : (r : Held) (es : List QueueEntry) (rid : Rid) → list_any is_new_entry es ≡ false → IsUnmade r es rid
unmade_old r [] rid h = tt
unmade_old r (e ∷ es) rid h = by (is_new_entry e) refl h (unmade_old r es rid) where
  by : (b : Bool) → is_new_entry e ≡ b → (b || list_any is_new_entry es) ≡ false → (list_any is_new_entry es ≡ false → IsUnmade r es rid) → IsUnmade r (e ∷ es) rid
  by true q k g = no_way_back k
  by false q k g = ((λ new m z. no_way (sym q ∙ m.0)), g k)

-- one more, with a token that has no record

unmade_more : (r : Held) (es : List QueueEntry) (e : QueueEntry) (rid : Rid) → NoRecord r e → IsUnmade r es rid → IsUnmade r (es ++ e ∷ []) rid
unmade_more r es e rid none h = all_append (λ f. (new : Rid) → Made r f new → new.0 ≡ rid.0 → ⊥) es (e ∷ []) h ((λ new m z. none new m.1.0 m.1.1), tt)

apart_more : (r : Held) (es : List QueueEntry) (e : QueueEntry) → NoRecord r e → All (λ f. same_key f.token.0 e.token.0 ≡ false) es → AreMadeApart r es → AreMadeApart r (es ++ e ∷ [])
apart_more r [] e none alone h = (tt, tt)
apart_more r (f ∷ fs) e none alone h = (all_append (Apart r f) fs (e ∷ []) h.0 ((alone.0, λ rid m k. none rid k.1.0 k.1.1), tt), apart_more r fs e none alone.1 h.1)

pub made_entered : (r : Held) (items : List Item) (es : List QueueEntry) (e : QueueEntry) → NoRecord r e → All (λ f. same_key f.token.0 e.token.0 ≡ false) es → IsAbout r es e → AreMadeNew r items es → AreMadeNew r items (es ++ e ∷ [])
made_entered r items es e none alone names h = record {
  there = all_append (IsThere r) es (e ∷ []) h.there ((λ rid m. absurd (none rid m.1.0 m.1.1)), tt);
  unknown = all_weaker (λ i. IsUnmade r es (target_in i.identity)) (λ i. IsUnmade r (es ++ e ∷ []) (target_in i.identity)) (λ i k. unmade_more r es e (target_in i.identity) none k) items h.unknown;
  named = all_append (IsAbout r (es ++ e ∷ [])) es (e ∷ []) (all_weaker (IsAbout r es) (IsAbout r (es ++ e ∷ [])) (λ f k put. ((k put).0, unmade_more r es e f.rid none (k put).1)) es h.named) ((λ put. ((names put).0, unmade_more r es e e.rid none (names put).1)), tt);
  apart = apart_more r es e none alone h.apart;
}

-- a change

-- what is nothing was never made
unmade_none : (r : Held) (es : List QueueEntry) (rid : Rid) → rid.0 ≡ 0 → All (IsThere r) es → IsUnmade r es rid
unmade_none r es rid none h = all_weaker (IsThere r) (λ e. (new : Rid) → Made r e new → new.0 ≡ rid.0 → ⊥) (λ e k new m z. some new.0 (k new m).0 (z ∙ none)) es h where
  some : (n : ℕ) → 1 < n → n ≡ 0 → ⊥
  some n a b = omega (arith, a, b)

module _ (r : Held) (es : List QueueEntry) (there : All (IsThere r) es) where
  abbrev Unknown : Item → Type 0
  Unknown i = IsUnmade r es (target_in i.identity)

  abbrev Any : Item → Type 0
  Any i = Unit {0}

  free : (identity : List ℕ) → AimsFree r es identity → IsUnmade r es (target_in identity)
  free identity (inl z) = unmade_none r es (target_in identity) z there
  free identity (inr k) = k

  still : (id : ItemId) (f : Item → Item) → ((i : Item) → (f i).identity ≡ i.identity) → (items : List Item) → All Unknown items → All Unknown (changed id f items)
  still id f same items h = all_changed id f Any Unknown Unknown (λ i _ k. subst (λ (x : List ℕ). IsUnmade r es (target_in x)) (sym (same i)) k) (λ i k. k) items (each_any id Any (λ i. tt) items) h

  given : (id : ItemId) (f : Item → Item) (identity : List ℕ) → ((i : Item) → (f i).identity ≡ identity) → IsUnmade r es (target_in identity) → (items : List Item) → All Unknown items → All Unknown (changed id f items)
  given id f identity same k items h = all_changed id f Any Unknown Unknown (λ i _ _. subst (λ (x : List ℕ). IsUnmade r es (target_in x)) (sym (same i)) k) (λ i m. m) items (each_any id Any (λ i. tt) items) h

  copied_unknown : (id parent : ItemId) (name : List ℕ) (pin : Pin) (n : Usn) (o : Option Item) → All Unknown (copies id parent name pin n o)
  copied_unknown id parent name pin n None = tt
  copied_unknown id parent name pin n (Some i) = (unmade_none r es (record { 0 = 0 }) refl there, tt)

effect_unknown : (r : Held) (x : Filter) (c : Change) (n : Usn) → Meets r x c → Aims r x c → (es : List QueueEntry) → x.volume.book.entries ≡ es → All (IsThere r) es → All (λ i. IsUnmade r es (target_in i.identity)) x.volume.items
    → All (λ i. IsUnmade r es (target_in i.identity)) (effect x.volume.items c n)
effect_unknown r x (change.Make item parent name kind size identity) n fit aims es is there h =
    all_append (λ i. IsUnmade r es (target_in i.identity)) x.volume.items _ h (free r es there identity (subst (λ (qs : List QueueEntry). AimsFree r qs identity) is aims.0), tt)
effect_unknown r x (change.Remove item) n fit aims es is there h = all_filter (λ i. IsUnmade r es (target_in i.identity)) _ x.volume.items h
effect_unknown r x (change.Move item parent name) n fit aims es is there h = still r es there item _ (λ i. refl) x.volume.items h
effect_unknown r x (change.Write item at bytes) n fit aims es is there h = still r es there item _ (λ i. refl) x.volume.items h
effect_unknown r x (change.Size item size) n fit aims es is there h = still r es there item _ (λ i. refl) x.volume.items h
effect_unknown r x (change.Filled item start bytes) n fit aims es is there h = still r es there item _ (λ i. refl) x.volume.items h
effect_unknown r x (change.Validated item start len) n fit aims es is there h = still r es there item _ (λ i. refl) x.volume.items h
effect_unknown r x (change.Emptied item start len) n fit aims es is there h = still r es there item _ (λ i. refl) x.volume.items h
effect_unknown r x (change.SetPin item pin) n fit aims es is there h = still r es there item _ (λ i. refl) x.volume.items h
effect_unknown r x (change.Mark item number) n fit aims es is there h = still r es there item _ (λ i. refl) x.volume.items h
effect_unknown r x (change.Clear item) n fit aims es is there h = still r es there item _ (λ i. refl) x.volume.items h
effect_unknown r x (change.Convert item identity) n fit aims es is there h = given r es there item _ identity (λ i. refl) (unmade_none r es (target_in identity) fit.1 there) x.volume.items h
effect_unknown r x (change.Revert item) n fit aims es is there h = elim fit as (λ _. All (λ i. IsUnmade r es (target_in i.identity)) (effect x.volume.items (change.Revert item) n)) [ ]
effect_unknown r x (change.Rebase item identity len at) n fit aims es is there h = given r es there item _ identity (λ i. refl) (free r es there identity (subst (λ (qs : List QueueEntry). AimsFree r qs identity) is aims.0)) x.volume.items h
effect_unknown r x (change.Take item identity size) n fit aims es is there h = given r es there item _ identity (λ i. refl) (free r es there identity (subst (λ (qs : List QueueEntry). AimsFree r qs identity) is aims.0)) x.volume.items h
effect_unknown r x (change.Copy item from parent name) n fit aims es is there h = all_append (λ i. IsUnmade r es (target_in i.identity)) x.volume.items _ h (copied_unknown r es there item parent name _ n (item_of x.volume.items from))
effect_unknown r x (change.Populated item) n fit aims es is there h = still r es there item _ (λ i. refl) x.volume.items h
effect_unknown r x (change.Keep item on) n fit aims es is there h = still r es there item _ (λ i. refl) x.volume.items h

pub made_effect : (r : Held) (x : Filter) (c : Change) (n : Usn) → Meets r x c → Aims r x c → AreMadeNew r x.volume.items x.volume.book.entries → AreMadeNew r (effect x.volume.items c n) x.volume.book.entries
made_effect r x c n fit aims h = record { there = h.there; unknown = effect_unknown r x c n fit aims x.volume.book.entries refl h.there h.unknown; named = h.named; apart = h.apart }

-- a step of the remote

-- the token of a request, where it has one
abbrev token_in : Request → Token
token_in (request.Put t rid expect parent name bytes) = t
token_in (request.MakeDir t parent name) = t
token_in (request.Move t rid parent name) = t
token_in (request.Remove t rid expect) = t
token_in (request.Settle t) = t
token_in (request.Keep t count) = t
token_in _ = record { 0 = record { epoch = 0; number = 0 } }

-- it is recorded that an item was made just now
abbrev MadeNow : Held → QueueEntry → Token → Held → Type 0
MadeNow held e t new = (rid : Rid) (version : Version) → recorded_at new.tokens e.token ≡ Some (RecordedDone rid version) → (rid.0 ≡ length held.items + 1) × (1 ≤ length held.items) × (e.token ≡ t)

unrecorded : (held new : Held) (e : QueueEntry) (t : Token) → recorded_at held.tokens e.token ≡ None → recorded_at new.tokens e.token ≡ recorded_at held.tokens e.token → MadeNow held e t new
unrecorded held new e t none same rid version k = none_some (RecordedDone rid version) (sym none ∙ sym same ∙ k)

decided_made : (held : Held) (e : QueueEntry) (m : Mutation) (w : Option Why) → (w ≡ None → (m.rid.0 ≡ length held.items + 1) × (1 ≤ length held.items)) → MadeNow held e e.token (decide held e.token m w).1
decided_made held e m (Some w) is rid version k = let z : ◌≡◌ {A = Option Recorded} (Some RecordedVoid) (Some (RecordedDone rid version)) = sym (recorded-first held.tokens e.token RecordedVoid) ∙ k in cc
decided_made held e m None is rid version k =
    let z : ◌≡◌ {A = Option Recorded} (Some (RecordedDone m.rid m.version)) (Some (RecordedDone rid version)) = sym (recorded-first held.tokens e.token (RecordedDone m.rid m.version)) ∙ k in
    let same : m.rid ≡ rid = cc in
    (ap (λ (x : Rid). x.0) (sym same) ∙ (is refl).0, (is refl).1, refl)

mutated_made : (held : Held) (e : QueueEntry) (t : Token) (m : Mutation) → e.token ≡ t → recorded_at held.tokens e.token ≡ None → (m.refusal ≡ None → (m.rid.0 ≡ length held.items + 1) × (1 ≤ length held.items)) → MadeNow held e t (mutate held t m (recorded_at held.tokens t)).1
mutated_made held e t m same none is =
    subst (λ (x : Token). MadeNow held e x (mutate held x m (recorded_at held.tokens x)).1) same
    (subst (λ (o : Option Recorded). MadeNow held e e.token (mutate held e.token m o).1) (sym none) (decided_made held e m m.refusal is))

-- what else is tested of a new file and a new directory

abbrev file_tests : Held → Rid → List ℕ → List ℕ → List (Bool × Why)
file_tests held parent name bytes =
    let after : List Stored = with_new held parent name false (bytes ∷ []) in
    (not (is_name name), why.BadName) ∷ (nat_lt MOST_FILE_BYTES (length bytes), why.TooLarge) ∷ (nat_le MOST_PATH_NAMES (depth_of held parent), why.TooDeep) ∷ (is_taken held parent name no_rid, why.NameTaken)
    ∷ (passes_bytes after || passes_items after, why.Quota) ∷ []

abbrev dir_tests : Held → Rid → List ℕ → List (Bool × Why)
dir_tests held parent name =
    (not (is_name name), why.BadName) ∷ (nat_le MOST_PATH_NAMES (depth_of held parent), why.TooDeep) ∷ (is_taken held parent name no_rid, why.NameTaken) ∷ (passes_items (with_new held parent name true []), why.Quota) ∷ []

-- a remote with a live directory has an item
has_items : (held : Held) (parent : Rid) → is_live_dir held parent ≡ true → 1 ≤ length held.items
has_items held parent h = by held.items h where
  some : (n : ℕ) → 1 ≤ suc n
  some n = omega arith

  by : (ss : List Stored) → says (λ s. s.live && s.directory) (stored_at ss parent) ≡ true → 1 ≤ length ss
  by [] k = no_way k
  by (s ∷ ss) k = some (length ss)

put_rid : (held : Held) (rid : Rid) (expect : Version) (parent : Rid) (name bytes : List ℕ) (b : Bool) → b ≡ true
    → (elim b as (λ _. Mutation) [ true ↦ put_new held parent name bytes | false ↦ put_version held rid expect bytes ]).refusal ≡ None
    → ((elim b as (λ _. Mutation) [ true ↦ put_new held parent name bytes | false ↦ put_version held rid expect bytes ]).rid.0 ≡ length held.items + 1) × (1 ≤ length held.items)
put_rid held rid expect parent name bytes true is none = (refl, has_items held parent (not_false (is_live_dir held parent) (first_none (not (is_live_dir held parent)) why.NotThere (file_tests held parent name bytes) none)))
put_rid held rid expect parent name bytes false is none = no_way is

made_by : (held : Held) (q : Request) (e : QueueEntry) → recorded_at held.tokens e.token ≡ None → is_new_by e.action e.rid ≡ true → Asks e q → MadeNow held e (token_in q) (remote_step held q).1
made_by held (request.Feed round after) e none new c = unrecorded held held e _ none refl
made_by held (request.List key rid) e none new c = unrecorded held held e _ none refl
made_by held (request.Fetch key rid version start len) e none new c = unrecorded held held e _ none refl
made_by held (request.Put t rid expect parent name bytes) e none new c = by (same_key t.0 e.token.0) refl where
  by : (b : Bool) → same_key t.0 e.token.0 ≡ b → MadeNow held e t (remote_step held (request.Put t rid expect parent name bytes)).1
  by true z =
      let first : (rid.0 == 0) ≡ true = ap (λ (n : ℕ). n == 0) (c z).1 ∙ subst (λ (a : Action). is_new_by a e.rid ≡ true) (c z).0 new in
      mutated_made held e t _ (sym (same_token t e.token z)) none (put_rid held rid expect parent name bytes (rid.0 == 0) first)
  by false z = unrecorded held (remote_step held (request.Put t rid expect parent name bytes)).1 e t none (mutated_other held t e.token _ (recorded_at held.tokens t) z)
made_by held (request.MakeDir t parent name) e none new c = by (same_key t.0 e.token.0) refl where
  by : (b : Bool) → same_key t.0 e.token.0 ≡ b → MadeNow held e t (remote_step held (request.MakeDir t parent name)).1
  by true z = mutated_made held e t (make_dir held parent name) (sym (same_token t e.token z)) none (λ k. (refl, has_items held parent (not_false (is_live_dir held parent) (first_none (not (is_live_dir held parent)) why.NotThere (dir_tests held parent name) k))))
  by false z = unrecorded held (remote_step held (request.MakeDir t parent name)).1 e t none (mutated_other held t e.token (make_dir held parent name) (recorded_at held.tokens t) z)
made_by held (request.Move t rid parent name) e none new c = by (same_key t.0 e.token.0) refl where
  by : (b : Bool) → same_key t.0 e.token.0 ≡ b → MadeNow held e t (remote_step held (request.Move t rid parent name)).1
  by true z = no_way (subst (λ (a : Action). is_new_by a e.rid ≡ true) (c z).0 new)
  by false z = unrecorded held (remote_step held (request.Move t rid parent name)).1 e t none (mutated_other held t e.token (move_to held rid parent name) (recorded_at held.tokens t) z)
made_by held (request.Remove t rid expect) e none new c = by (same_key t.0 e.token.0) refl where
  by : (b : Bool) → same_key t.0 e.token.0 ≡ b → MadeNow held e t (remote_step held (request.Remove t rid expect)).1
  by true z = no_way (subst (λ (a : Action). is_new_by a e.rid ≡ true) (c z).0 new)
  by false z = unrecorded held (remote_step held (request.Remove t rid expect)).1 e t none (mutated_other held t e.token (remove_at held rid expect) (recorded_at held.tokens t) z)
made_by held (request.Settle t) e none new c = by (recorded_at held.tokens t) (same_key t.0 e.token.0) refl where
  by : (o : Option Recorded) (b : Bool) → same_key t.0 e.token.0 ≡ b → MadeNow held e t (settle held t o).1
  by (Some r) b z = unrecorded held held e t none refl
  by None true z = λ rid version k.
      let same : t ≡ e.token = same_token t e.token z in
      let y : ◌≡◌ {A = Option Recorded} (Some RecordedVoid) (Some (RecordedDone rid version)) = sym (recorded-first held.tokens t RecordedVoid) ∙ ap (λ (x : Token). recorded_at ((t, RecordedVoid) ∷ held.tokens) x) same ∙ k in cc
  by None false z = unrecorded held (with_token t RecordedVoid held) e t none (other_first held.tokens t e.token RecordedVoid z)
made_by held (request.Keep t count) e none new c = by (recorded_at held.tokens t) where
  by : (o : Option Recorded) → MadeNow held e t (keep_last held t count o).1
  by (Some r) = unrecorded held held e t none refl
  by None = unrecorded held (keep_last held t count None).1 e t none (other_first held.tokens t e.token (RecordedDone root_rid no_version) c)

-- it was made before, or just now
abbrev MadeBy : Held → Request → QueueEntry → Type 0
MadeBy r q e = (rid : Rid) → Made (remote_step r q).1 e rid → Made r e rid ⊎ ((rid.0 ≡ length r.items + 1) × (1 ≤ length r.items) × (e.token ≡ token_in q))

old_or_new : (r : Held) (q : Request) (e : QueueEntry) → Asks e q → MadeBy r q e
old_or_new r q e asks rid m = by (recorded_at r.tokens e.token) refl where
  by : (o : Option Recorded) → recorded_at r.tokens e.token ≡ o → Made r e rid ⊎ ((rid.0 ≡ length r.items + 1) × (1 ≤ length r.items) × (e.token ≡ token_in q))
  by (Some d) f = inl (m.0, (m.1.0, f ∙ sym ((step_extends r q).tokens e.token d f) ∙ m.1.1))
  by None f = inr (made_by r q e f m.0 asks rid m.1.0 m.1.1)

-- what an upload that makes an item did is an item of the remote
made_under : (a : Action) (r : Held) (asked rid : Rid) → IsCounted r → is_new_by a asked ≡ true → DidBy a r.items asked rid → rid.0 ≤ length r.items
made_under PutFile r asked rid counted new did = under rid.0 (length r.items) (kind_under r.items rid false counted did.0) where
  under : (a b : ℕ) → a + 1 ≤ 1 + b → a ≤ b
  under a b h = omega (arith, h)
made_under MakeDir r asked rid counted new did = under rid.0 (length r.items) (kind_under r.items rid true counted did) where
  under : (a b : ℕ) → a + 1 ≤ 1 + b → a ≤ b
  under a b h = omega (arith, h)
made_under MoveItem r asked rid counted new did = no_way new
made_under RemoveItem r asked rid counted new did = no_way new

-- so is what an item here aims at
pub aimed_under : (r : Held) (d : Bool) (identity : List ℕ) → IsCounted r → IsAimed r d identity → (target_in identity).0 ≤ length r.items
aimed_under r d identity counted (inl z) = none (target_in identity).0 (length r.items) z where
  none : (a b : ℕ) → a ≡ 0 → a ≤ b
  none a b h = omega (arith, h)
aimed_under r d identity counted (inr k) = under (target_in identity).0 (length r.items) (kind_under r.items (target_in identity) d counted k.0) where
  under : (a b : ℕ) → a + 1 ≤ 1 + b → a ≤ b
  under a b h = omega (arith, h)

past : (a b c : ℕ) → a ≡ b + 1 → c ≤ b → a ≡ c → ⊥
past a b c h k z = omega (arith, h, k, z)

unmade_asked : (r : Held) (q : Request) (es : List QueueEntry) (rid : Rid) → All (MadeBy r q) es → rid.0 ≤ length r.items → IsUnmade r es rid → IsUnmade (remote_step r q).1 es rid
unmade_asked r q es rid by low h = all_both (λ e. (new : Rid) → Made r e new → new.0 ≡ rid.0 → ⊥) (MadeBy r q) (λ e. (new : Rid) → Made (remote_step r q).1 e new → new.0 ≡ rid.0 → ⊥) one es h by where
  one : (e : QueueEntry) → ((new : Rid) → Made r e new → new.0 ≡ rid.0 → ⊥) → MadeBy r q e → (new : Rid) → Made (remote_step r q).1 e new → new.0 ≡ rid.0 → ⊥
  one e k m new made z = case (m new made) where
    case : Made r e new ⊎ ((new.0 ≡ length r.items + 1) × (1 ≤ length r.items) × (e.token ≡ token_in q)) → ⊥
    case (inl old) = k new old z
    case (inr now) = past new.0 (length r.items) rid.0 now.0 low z

apart_asked : (r : Held) (q : Request) (es : List QueueEntry) → All (MadeBy r q) es → All (IsThere r) es → AreMadeApart r es → AreMadeApart (remote_step r q).1 es
apart_asked r q [] by there h = tt
apart_asked r q (e ∷ es) by there h = (all_both (λ f. MadeBy r q f × IsThere r f) (Apart r e) (Apart (remote_step r q).1 e) one es (all_both (MadeBy r q) (IsThere r) (λ f. MadeBy r q f × IsThere r f) (λ f a b. (a, b)) es by.1 there.1) h.0, apart_asked r q es by.1 there.1 h.1) where
  both : (rid : Rid) (f : QueueEntry) → IsThere r f → Apart r e f → Made r e rid ⊎ ((rid.0 ≡ length r.items + 1) × (1 ≤ length r.items) × (e.token ≡ token_in q)) → Made r f rid ⊎ ((rid.0 ≡ length r.items + 1) × (1 ≤ length r.items) × (f.token ≡ token_in q)) → ⊥
  both rid f there_f k (inl a) (inl b) = k.1 rid a b
  both rid f there_f k (inl a) (inr b) = past rid.0 (length r.items) rid.0 b.0 (there.0 rid a).1 refl
  both rid f there_f k (inr a) (inl b) = past rid.0 (length r.items) rid.0 a.0 (there_f rid b).1 refl
  both rid f there_f k (inr a) (inr b) = no_way (sym k.0 ∙ subst (λ (t : Token). same_key e.token.0 t.0 ≡ true) (a.2 ∙ sym b.2) (same_key-refl e.token.0))

  one : (f : QueueEntry) → MadeBy r q f × IsThere r f → Apart r e f → Apart (remote_step r q).1 e f
  one f m k = (k.0, λ rid a b. both rid f m.1 k (by.0 rid a) (m.0 rid b))

pub made_asked : (r : Held) (ms : List (Option Frame)) (q : Request) (n : Usn) (items : List Item) (es : List QueueEntry) → IsCounted r → IsCounted (remote_step r q).1 → All (λ e. Asks e q) es → All (IsAskedFor (remote_step r q).1 ms) es → All (IsRight r n) items
    → AreMadeNew r items es → AreMadeNew (remote_step r q).1 items es
made_asked r ms q n items es counted after asks done right h = record {
  there = all_both (λ e. MadeBy r q e × IsAskedFor (remote_step r q).1 ms e) (IsThere r) (IsThere (remote_step r q).1) there es (all_both (MadeBy r q) (IsAskedFor (remote_step r q).1 ms) (λ e. MadeBy r q e × IsAskedFor (remote_step r q).1 ms e) (λ e a b. (a, b)) es by done) h.there;
  unknown = all_both (λ i. IsUnmade r es (target_in i.identity)) (IsRight r n) (λ i. IsUnmade (remote_step r q).1 es (target_in i.identity)) (λ i k m. unmade_asked r q es (target_in i.identity) by (aimed_under r i.directory i.identity counted m.aimed) k) items h.unknown right;
  named = all_weaker (IsAbout r es) (IsAbout (remote_step r q).1 es) (λ e k put. (longer e.rid.0 (length r.items) (length (remote_step r q).1.items) (k put).0 (items_grow r q), unmade_asked r q es e.rid by (k put).0 (k put).1)) es h.named;
  apart = apart_asked r q es by h.there h.apart;
}
  where
    by : All (MadeBy r q) es
    by = all_weaker (λ e. Asks e q) (MadeBy r q) (old_or_new r q) es asks

    longer : (a b c : ℕ) → a ≤ b → b ≤ c → a ≤ c
    longer a b c h k = omega (arith, h, k)

    some : (a b : ℕ) → a ≡ b + 1 → 1 ≤ b → 1 < a
    some a b h k = omega (arith, h, k)

    there : (e : QueueEntry) → MadeBy r q e × IsAskedFor (remote_step r q).1 ms e → IsThere r e → IsThere (remote_step r q).1 e
    there e k old rid m = (first (k.0 rid m), made_under e.action (remote_step r q).1 e.rid rid after m.0 (k.1.did rid m.1.0 m.1.1)) where
      first : Made r e rid ⊎ ((rid.0 ≡ length r.items + 1) × (1 ≤ length r.items) × (e.token ≡ token_in q)) → 1 < rid.0
      first (inl was) = (old rid was).0
      first (inr now) = some rid.0 (length r.items) now.0 now.1

-- an upload that is taken

-- what was made for one is made for none of the others
made_rest : (r : Held) (token : Token) (es : List QueueEntry) (e : QueueEntry) (rid : Rid) → find (λ f. same_key f.token.0 token.0) es ≡ Some e → Made r e rid → AreMadeApart r es → IsUnmade r (filter (λ f. not (same_key f.token.0 token.0)) es) rid
made_rest r token [] e rid f m h = none_some e f
made_rest r token (q ∷ es) e rid f m h = by (same_key q.token.0 token.0) f (made_rest r token es e rid) where
  others : (es : List QueueEntry) → All (Apart r q) es → Made r q rid → IsUnmade r (filter (λ g. not (same_key g.token.0 token.0)) es) rid
  others es k n = all_filter (λ g. (new : Rid) → Made r g new → new.0 ≡ rid.0 → ⊥) (λ g. not (same_key g.token.0 token.0)) es (all_weaker (Apart r q) (λ g. (new : Rid) → Made r g new → new.0 ≡ rid.0 → ⊥) (λ g a new o z. a.1 rid n (subst (λ (x : Rid). Made r g x) (same_rid new rid z) o)) es k)

  -- the first was made for another
  first : (es : List QueueEntry) → find (λ g. same_key g.token.0 token.0) es ≡ Some e → All (Apart r q) es → (new : Rid) → Made r q new → new.0 ≡ rid.0 → ⊥
  first es g k new n z = (all_found (Apart r q) (λ x. same_key x.token.0 token.0) es e g k).0.1 rid (subst (λ (x : Rid). Made r q x) (same_rid new rid z) n) m

  by : (b : Bool) → cond b (Some q) (find (λ g. same_key g.token.0 token.0) es) ≡ Some e → (find (λ g. same_key g.token.0 token.0) es ≡ Some e → Made r e rid → AreMadeApart r es → IsUnmade r (filter (λ g. not (same_key g.token.0 token.0)) es) rid)
      → IsUnmade r (cond (not b) (q ∷ filter (λ g. not (same_key g.token.0 token.0)) es) (filter (λ g. not (same_key g.token.0 token.0)) es)) rid
  by true f g = let z : q ≡ e = cc in others es h.0 (subst (λ (x : QueueEntry). Made r x rid) (sym z) m)
  by false f g = (first es f h.0, g f m h.1)

-- what the upload of a file of the remote did is that file
pub done_named : (r : Held) (e : QueueEntry) (rid : Rid) → e.action ≡ PutFile → is_new_entry e ≡ false → DidBy e.action r.items e.rid rid → rid ≡ e.rid
done_named r e rid put new did = same_rid rid e.rid (names (subst (λ (a : Action). DidBy a r.items e.rid rid) put did).1) where
  names : (e.rid.0 ≡ 0) ⊎ (rid.0 ≡ e.rid.0) → rid.0 ≡ e.rid.0
  names (inl z) = no_way_back (sym (eq-eqb e.rid.0 0 z) ∙ sym (ap (λ (a : Action). is_new_by a e.rid) put) ∙ new)
  names (inr z) = z

-- So what an upload did is for none of the others: it was made for it, or is the item that it names.
pub done_unmade : (r : Held) (token : Token) (es : List QueueEntry) (e : QueueEntry) (items : List Item) (rid : Rid) (version : Version) → find (λ f. same_key f.token.0 token.0) es ≡ Some e → recorded_at r.tokens e.token ≡ Some (RecordedDone rid version)
    → (e.action ≡ PutFile) ⊎ (e.action ≡ MakeDir) → DidBy e.action r.items e.rid rid → AreMadeNew r items es → IsUnmade r (filter (λ f. not (same_key f.token.0 token.0)) es) rid
done_unmade r token es e items rid version found done is did h = by (is_new_entry e) refl where
  by : (b : Bool) → is_new_entry e ≡ b → IsUnmade r (filter (λ f. not (same_key f.token.0 token.0)) es) rid
  by true new = made_rest r token es e rid found (new, (version, done)) h.apart
  by false new = kind is where
    kind : (e.action ≡ PutFile) ⊎ (e.action ≡ MakeDir) → IsUnmade r (filter (λ f. not (same_key f.token.0 token.0)) es) rid
    kind (inl put) =
        subst (λ (x : Rid). IsUnmade r (filter (λ f. not (same_key f.token.0 token.0)) es) x) (sym (done_named r e rid put new did))
        (unmade_fewer r (λ f. not (same_key f.token.0 token.0)) es e.rid ((all_found (IsAbout r es) (λ f. same_key f.token.0 token.0) es e found h.named).0 put).1)
    kind (inr dir) = no_way (sym new ∙ ap (λ (a : Action). is_new_by a e.rid) dir)
