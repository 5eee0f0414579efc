-- What the parts of `Pushes` keep in `replay`, each by what its own parts keep.
use Rattle.std.specs.Prelude.{Bool, true, false, not, List, [], map, Option, Some, None, cond, is_some, ◌||◌, ◌==◌}
use Rattle.cf_base.specs.declared.answers.Shown.{Shown}
use Rattle.cf_base.specs.declared.answers.Shown.TheVariants as shown
use Rattle.cf_base.specs.declared.changes.Change.TheVariants as change
use Rattle.cf_base.specs.declared.codes.Code.TheVariants as code
use Rattle.cf_base.specs.declared.ids.ItemId.{ItemId}
use Rattle.cf_model.specs.Arrows.{choose, each, only_if, reading, unit, Preserves}
use Rattle.cf_model.specs.Books.{MakeDir, MoveItem, PutFile, QueueEntry, Tombstone, RemoveItem, tombstone_of}
use Rattle.cf_model.specs.Callbacks.{calling}
use Rattle.cf_model.specs.Identities.{base_version, is_untargeted, no_identity, stands_at_seen, base_bytes, parent_target, target_of}
use Rattle.cf_model.specs.Items.{Item, bytes_held, is_all_here, is_dirty, item_of}
use Rattle.cf_model.specs.LookUp.{by_depth, is_excluded}
use Rattle.cf_model.specs.PushReplies.{whatever, has_item, is_new_entry, has_number}
use Rattle.cf_model.specs.Skips.{try_change, try_mark_now, with_volatile}
use Rattle.cf_model.specs.State.{State, book_now, items_now, with_filter}
use Rattle.cf_model.specs.Waits.{hydrate_file}
use Rattle.cf_model_laws.proofs.CallbacksGuarded as callbacks_keep
use Rattle.cf_model_laws.proofs.StepsGuarded as skips_keep
use Rattle.cf_model_laws.proofs.WaitsGuarded as waits_keep
use Rattle.cf_model.specs.Pushes.{after_hydrate, bury_unless, hydrate_first, hydrate_if, hydrate_unless, is_hydrating, is_left_out, is_tombstone_left_out, item_now, mark_item, push, push_all, push_by_case, push_here, push_item, push_lists, push_removal, push_tombstone, push_turn, push_unless, put_file, put_if, put_whole, removal_entry, request_of, upload, upload_if, upload_new, upload_now, has_entry, placed, without_place, without_rid, has_rid_entry, with_token}
use Rattle.cf_model_laws.proofs.Guarded.{EnteringBy, EntersThere, Guarded, MovesThere, Uploading}
use Rattle.cf_model.proofs.ArrowLaws.{keeps_each, keeps_ret, keeps_then}
use Rattle.std.proofs.Common.{◌≡◌, ◌<◌, ◌≤◌, ℕ, Bool, true, false, List, [], ◌∷◌, refl, sym, ◌∙◌, ap, subst, arith, length, take, eq-eqb, inl, inr, ◌⊎◌}
use Rattle.std.specs.List.{list_all, list_any}
use Rattle.std.proofs.lemmas.Bool.Decides.{nat_tests}
use Rattle.std.proofs.lemmas.Bool.{eqb-true}
use Rattle.cf_base.specs.declared.ids.Usn.{Usn}
use Rattle.cf_model.specs.Changes.{next_number}
use Rattle.cf_model.specs.Contents.{IsTrueTo, up_to}
use Rattle.cf_model.specs.Effects.{converted, effect}
use Rattle.cf_model.specs.Numbers.{above, root_rid, same_usn}
use Rattle.cf_model.specs.Overlay.{Written, over}
use Rattle.cf_model.specs.Soundness.{Each}
use Rattle.cf_model.specs.Store.{Held}
use Rattle.cf_model.specs.Trees.{Keeps, bind}
use Rattle.cf_model.specs.Words.{number_of, same, says}
use Rattle.cf_model.proofs.Laying.{laid-full}
use Rattle.cf_model.proofs.TreeLaws.{keeps_bind}
use Rattle.cf_model_laws.specs.Fitting.{Fits, NoEntry}
use Rattle.cf_model_laws.specs.Invariant.{AllUpTo, HasNone, IsRight, IsSound, SameBase, put_bytes, IsAimed, target_in, IsUnmade, Among}
use Rattle.cf_model_laws.specs.Premises.{IsFair}
use Rattle.cf_model_laws.proofs.EntryLaws.{none_none}
use Rattle.cf_model_laws.proofs.FeedsGuarded.{first_led}
use Rattle.cf_model_laws.proofs.FoundItems.{both, found_id, same_self}
use Rattle.cf_model_laws.proofs.FramesGuarded.{FrameIn, guarded_framed}
use Rattle.cf_model_laws.proofs.Gathered.{all_any, all_found, all_weaker, all_in}
use Rattle.cf_model_laws.proofs.Leading.{kept_leads, leads_bind, leads_kept}
use Rattle.cf_model_laws.proofs.Plainly.{keeps_led}
use Rattle.cf_model_laws.proofs.PushRepliesGuarded.{each_at}
use Rattle.cf_model_laws.proofs.RightItems.{both_none, no_way, no_way_back}
use Rattle.cf_model_laws.proofs.SkipsGuarded.{Led, Unnamed, guarded_skipping, no_move, try_change_at, try_led, try_mark_now_at}
use Rattle.cf_model_laws.proofs.SoundSettles.{each_found, found_below, neither, not_true, same_item, each_past, left_true, right_true}
use Rattle.cf_model_laws.proofs.UploadsGuarded.{IsNewEntry, NewBy, push_at}
use Rattle.cf_model_laws.proofs.MadeUploads.{IsAbout, aimed_under}
use Rattle.cf_base.specs.declared.ids.Rid.{Rid}

abbrev pub Files : Bool → Bool → Type 0
Files d p = (d ≡ false) × (p ≡ true)

-- what is known of an item that is pushed

left_false : (a b : Bool) → (a || b) ≡ false → a ≡ false
left_false true b e = e
left_false false b e = refl

pub lone : (es : List QueueEntry) (id : ItemId) → list_any (λ e. e.item.0 == id.0) es ≡ false → NoEntry es id
lone [] id h = tt
lone (e ∷ es) id h = by (e.item.0 == id.0) refl h (lone es id) where
  to_true : (a b : ℕ) → a ≡ b → (a == b) ≡ true
  to_true a b z = grind (arith, nat_tests, z)

  by : (b : Bool) → (e.item.0 == id.0) ≡ b → (b || list_any (λ e. e.item.0 == id.0) es) ≡ false → (list_any (λ e. e.item.0 == id.0) es ≡ false → NoEntry es id) → (e.item.0 ≡ id.0 → ⊥) × NoEntry es id
  by true q k g = no_way_back k
  by false q k g = ((λ z. no_way (sym q ∙ to_true e.item.0 id.0 z)), g k)

pub now_lone : (s : State) (i : Item) → is_left_out s i ≡ false → NoEntry (book_now s).entries i.id
now_lone s i h =
    let a = left_false ((i.id.0 == 1) || has_entry s i.id || has_item s.volatile.held_items i.id || is_excluded (items_now s) i.id) ((parent_target (items_now s) i).0 == 0) h in
    let b = left_false ((i.id.0 == 1) || has_entry s i.id || has_item s.volatile.held_items i.id) (is_excluded (items_now s) i.id) a in
    let c = left_false ((i.id.0 == 1) || has_entry s i.id) (has_item s.volatile.held_items i.id) b in
    lone (book_now s).entries i.id (neither (i.id.0 == 1) (has_entry s i.id) c)

pub targeted : (r : Held) (n : Usn) (i : Item) → IsRight r n i → is_untargeted i ≡ false → i.directory ≡ false → i.placeholder ≡ true
targeted r n i right target file = by i.placeholder refl where
  no_root : (i.id.0 == 1) ≡ false
  no_root = one (i.id.0 == 1) refl where
    one : (b : Bool) → (i.id.0 == 1) ≡ b → b ≡ false
    one true q = no_way (sym file ∙ right.top (eqb-true i.id.0 1 q))
    one false q = refl

  none : (t : ℕ) → t ≡ 0 → (t == 0) ≡ false → ⊥
  none t a b = grind (arith, nat_tests, a, b)

  by : (b : Bool) → i.placeholder ≡ b → b ≡ true
  by true q = refl
  by false q = absurd (none (target_of i).0 (ap (λ (c : Bool). (cond c root_rid (record { 0 = number_of (take 8 i.identity) })).0) no_root ∙ (right.plain file q).1) target)

up_all : (n : Usn) (ws : List Written) → AllUpTo n ws → up_to n ws ≡ ws
up_all n [] h = refl
up_all n (w ∷ ws) h = by (above w.number n) h.0 (up_all n ws h.1) where
  by : (b : Bool) → b ≡ false → up_to n ws ≡ ws → cond (not b) (w ∷ up_to n ws) (up_to n ws) ≡ w ∷ ws
  by true q e = no_way_back q
  by false q e = ap (λ (vs : List Written). w ∷ vs) e

abbrev PutFacts : Held → Item → Item → Type 0
PutFacts r i j = (j.directory ≡ false) × (j.placeholder ≡ true) × (list_all is_some j.held ≡ true) × (bytes_held i.held ≡ put_bytes (base_bytes r j) i.number j.writes)

pub sound_of : (P : State → Type 0) → Guarded P → (s : State) → P s → IsFair s.link → IsSound s.link s.volatile.tokens s.filter
sound_of P closed s h fair = (closed.on_filter s h).sound s.filter h fair

pub right_of : (s : State) (i : Item) → IsSound s.link s.volatile.tokens s.filter → item_of (items_now s) i.id ≡ Some i → IsRight s.link.remote (next_number s.filter.volume) i
right_of s i sound there = (all_found (IsRight s.link.remote (next_number s.filter.volume)) (λ x. x.id.0 == i.id.0) (items_now s) i there sound.now.right).0

put_facts : (s : State) (i : Item) → IsSound s.link s.volatile.tokens s.filter → item_of (items_now s) i.id ≡ Some i → i.directory ≡ false → i.placeholder ≡ true → list_all is_some i.held ≡ true → PutFacts s.link.remote i i
put_facts s i sound there file placed here = (
  file,
  placed,
  here,
  sym (laid-full i.held (base_bytes s.link.remote i) here)
      ∙ sym ((all_found (λ x. x.directory ≡ false → IsTrueTo s.link.remote x) (λ x. x.id.0 == i.id.0) (items_now s) i there sound.now.contents).0 file)
      ∙ ap (λ (ws : List Written). over (base_bytes s.link.remote i) (map (λ w. w.write) ws)) (sym (up_all i.number i.writes (right_of s i sound there).last)),
)

new_entry : (s : State) (i : Item) (e : QueueEntry) (bytes : List ℕ) → e.item ≡ i.id → e.number ≡ i.number → item_of (items_now s) i.id ≡ Some i → IsSound s.link s.volatile.tokens s.filter → NoEntry (book_now s).entries i.id
    → NewBy e.action s.link.remote (items_now s) e bytes → MovesThere s e → (e.action ≡ PutFile → e.rid.0 ≡ 1 → ⊥) → (e.action ≡ MakeDir → e.rid.0 ≡ 0) → IsAbout s.link.remote (book_now s).entries e
    → ((e.action ≡ MakeDir → ⊥) → e.rid ≡ target_of i) → IsNewEntry s e bytes
new_entry s i e bytes item number there sound alone facts off low new about named = record {
  early = λ z. subst (λ (n : Usn). above (next_number s.filter.volume) n ≡ true) (sym number) (right_of s i sound there).early;
  item = subst (λ (x : ItemId). x.0 < s.filter.volume.next_item.0) (sym item) (found_below i.id 0 s.filter.volume.next_item.0 (items_now s) i sound.now.order there);
  apart = all_weaker (λ f. f.item.0 ≡ i.id.0 → ⊥) (λ f. f.item.0 ≡ e.item.0 → f.item.0 ≡ 0) (λ f g q. absurd (g (q ∙ ap (λ (x : ItemId). x.0) item))) (book_now s).entries alone;
  facts = facts;
  off = off;
  low = low;
  new = new;
  about = about;
  named = λ other. subst (λ (x : ItemId). Each x (λ j. (target_of j).0 ≡ e.rid.0) (items_now s)) (sym item)
      (each_found i.id (λ j. (target_of j).0 ≡ e.rid.0) 0 s.filter.volume.next_item.0 (items_now s) i sound.now.order there (ap (λ (r : Rid). r.0) (sym (named other))));
}

-- a file's target is not the root of the remote
file_low : (s : State) (i : Item) → IsSound s.link s.volatile.tokens s.filter → item_of (items_now s) i.id ≡ Some i → i.directory ≡ false → (target_of i).0 ≡ 1 → ⊥
file_low s i sound there file is = by (i.id.0 == 1) refl is where
  right : IsRight s.link.remote (next_number s.filter.volume) i
  right = right_of s i sound there

  apart : (n : ℕ) → n ≡ 0 → n ≡ 1 → ⊥
  apart n a b = omega (arith, a, b)

  aimed : IsAimed s.link.remote i.directory i.identity → (target_in i.identity).0 ≡ 1 → ⊥
  aimed (inl e) z = apart (target_in i.identity).0 e z
  aimed (inr k) z = k.2 z

  by : (b : Bool) → (i.id.0 == 1) ≡ b → (cond b root_rid (target_in i.identity)).0 ≡ 1 → ⊥
  by true q z = no_way (sym file ∙ right.top (eqb-true i.id.0 1 q))
  by false q z = aimed right.aimed z

-- it is an item of the remote that was made for no upload on its way
file_about : (s : State) (i : Item) → IsSound s.link s.volatile.tokens s.filter → item_of (items_now s) i.id ≡ Some i → i.directory ≡ false → ((target_of i).0 ≤ length s.link.remote.items) × IsUnmade s.link.remote (book_now s).entries (target_of i)
file_about s i sound there file = by (i.id.0 == 1) refl where
  right : IsRight s.link.remote (next_number s.filter.volume) i
  right = right_of s i sound there

  by : (b : Bool) → (i.id.0 == 1) ≡ b → ((cond b root_rid (target_in i.identity)).0 ≤ length s.link.remote.items) × IsUnmade s.link.remote (book_now s).entries (cond b root_rid (target_in i.identity))
  by true q = no_way (sym file ∙ right.top (eqb-true i.id.0 1 q))
  by false q = (aimed_under s.link.remote i.directory i.identity sound.counted right.aimed, (all_found (λ x. IsUnmade s.link.remote (book_now s).entries (target_in x.identity)) (λ x. x.id.0 == i.id.0) (items_now s) i there sound.now.made.unknown).0)

-- what is known of the upload of an item
there_of : (s : State) (i : Item) (e : QueueEntry) → e.item ≡ i.id → e.number ≡ i.number → item_of (items_now s) i.id ≡ Some i → (e.action ≡ RemoveItem → ⊥) → (is_new_entry e ≡ true → ((target_of i).0 ≡ 0) ⊎ ((i.directory ≡ true) × (is_dirty i ≡ true))) → EntersThere (with_volatile with_token s) e
there_of s i e item number there none fresh = ((λ z. absurd (none z)), λ z. (i, subst (λ (x : ItemId). item_of (items_now s) x ≡ Some i) (sym item) there, sym number, fresh z))

pub push_put_at : (P : State → Type 0) → Guarded P → Uploading P → (i : Item) (s : State) → item_of (items_now s) i.id ≡ Some i → (IsFair s.link → NoEntry (book_now s).entries i.id) → (IsFair s.link → (i.directory ≡ false) × (i.placeholder ≡ true)) → list_all is_some i.held ≡ true → P s
    → Keeps P (push_item PutFile i s)
push_put_at P closed entering i s there alone kind here h = by (is_untargeted i) where
  facts : IsFair s.link → Each i.id (PutFacts s.link.remote i) (items_now s)
  facts fair =
      let sound : IsSound s.link s.volatile.tokens s.filter = sound_of P closed s h fair in
      each_found i.id (PutFacts s.link.remote i) 0 s.filter.volume.next_item.0 (items_now s) i sound.now.order there (put_facts s i sound there (kind fair).0 (kind fair).1 here)

  by : (b : Bool) → Keeps P (push (cond b (placed PutFile i s) (without_place (placed PutFile i s))) (request_of (cond b (placed PutFile i s) (without_place (placed PutFile i s))) (base_version i) (bytes_held i.held)) s)
  by true = push_at EntersThere P closed entering (placed PutFile i s) (base_version i) (bytes_held i.held) s refl (λ fair. new_entry s i (placed PutFile i s) (bytes_held i.held) refl refl there (sound_of P closed s h fair) (alone fair) (facts fair) (λ z. cc) (λ _. file_low s i (sound_of P closed s h fair) there (kind fair).0) (λ z. cc) (λ _. file_about s i (sound_of P closed s h fair) there (kind fair).0) (λ _. refl)) (λ fair. there_of s i (placed PutFile i s) refl refl there (λ z. cc) (λ z. inl (eqb-true (target_of i).0 0 z))) h
  by false = push_at EntersThere P closed entering (without_place (placed PutFile i s)) (base_version i) (bytes_held i.held) s refl (λ fair. new_entry s i (without_place (placed PutFile i s)) (bytes_held i.held) refl refl there (sound_of P closed s h fair) (alone fair) (facts fair) (λ z. cc) (λ _. file_low s i (sound_of P closed s h fair) there (kind fair).0) (λ z. cc) (λ _. file_about s i (sound_of P closed s h fair) there (kind fair).0) (λ _. refl)) (λ fair. there_of s i (without_place (placed PutFile i s)) refl refl there (λ z. cc) (λ z. inl (eqb-true (target_of i).0 0 z))) h

pub push_dir_at : (Q : State → QueueEntry → Type 0) (P : State → Type 0) → Guarded P → EnteringBy Q P → (i : Item) (s : State) → item_of (items_now s) i.id ≡ Some i → (IsFair s.link → NoEntry (book_now s).entries i.id) → i.directory ≡ true
    → (IsFair s.link → Q (with_volatile with_token s) (without_rid (placed MakeDir i s))) → P s → Keeps P (push_item MakeDir i s)
push_dir_at Q P closed entering i s there alone dir known h =
    push_at Q P closed entering (without_rid (placed MakeDir i s)) (base_version i) (bytes_held i.held) s refl
    (λ fair. new_entry s i (without_rid (placed MakeDir i s)) (bytes_held i.held) refl refl there (sound_of P closed s h fair) (alone fair) (each_found i.id (λ j. j.directory ≡ true) 0 s.filter.volume.next_item.0 (items_now s) i (sound_of P closed s h fair).now.order there dir) (λ z. cc) (λ z. cc) (λ z. refl) (λ z. cc) (λ other. absurd (other refl))) known h

pub push_move_at : (P : State → Type 0) → Guarded P → Uploading P → (i : Item) (s : State) → item_of (items_now s) i.id ≡ Some i → (IsFair s.link → NoEntry (book_now s).entries i.id) → stands_at_seen (items_now s) (book_now s) i ≡ false → P s → Keeps P (push_item MoveItem i s)
push_move_at P closed entering i s there alone away h =
    push_at EntersThere P closed entering (placed MoveItem i s) (base_version i) (bytes_held i.held) s refl (λ fair. new_entry s i (placed MoveItem i s) (bytes_held i.held) refl refl there (sound_of P closed s h fair) (alone fair) tt (λ z. (i, there, both ((parent_target (items_now s) i).0 == (parent_target (items_now s) i).0) (same i.name i.name) (eq-eqb (parent_target (items_now s) i).0 (parent_target (items_now s) i).0 refl) (same_self i.name))) (λ z. cc) (λ z. cc) (λ z. cc) (λ _. refl)) (λ fair. there_of s i (placed MoveItem i s) refl refl there (λ z. cc) (λ z. no_way z)) h

pub after_hydrate_keeps : (P : State → Type 0) → Guarded P → (x1 : Shown) → Preserves P (after_hydrate x1)
after_hydrate_keeps P closed (shown.Refused code.TooManyWaits) = skips_keep.skip_keeps P closed code.TooManyWaits
after_hydrate_keeps P closed (shown.Refused code.TooManyAsks) = skips_keep.skip_keeps P closed code.TooManyAsks
after_hydrate_keeps P closed (shown.Refused code.Exhausted) = skips_keep.skip_keeps P closed code.Exhausted
after_hydrate_keeps P closed _ = keeps_ret P unit

-- the file is here
abbrev pub IsFileHere : Item → State → Type 0
IsFileHere i s = IsFair s.link → (item_of (items_now s) i.id ≡ Some i) × (i.directory ≡ false)

pub hydrate_unless_at : (P : State → Type 0) → Guarded P → (i : Item) (b : Bool) (s : State) → IsFileHere i s → P s → Keeps P (hydrate_unless i.id b s)
hydrate_unless_at P closed i true s there h = h
hydrate_unless_at P closed i false s there h =
    keeps_bind P (calling (hydrate_file i.id) s) after_hydrate
    (callbacks_keep.calling_at P closed (hydrate_file i.id) s (waits_keep.hydrate_file_at s.link s.volatile.tokens (λ x. P (with_filter x s)) (closed.on_filter s h) i s.filter there h)) (λ a t k. (after_hydrate_keeps P closed a).keeps t k)

hydrate_if_at : (P : State → Type 0) → Guarded P → (i : Item) (b : Bool) (s : State) → IsFileHere i s → P s → Keeps P (hydrate_if i.id b s)
hydrate_if_at P closed i true s there h = h
hydrate_if_at P closed i false s there h = hydrate_unless_at P closed i (is_hydrating i.id s) s there h

pub hydrate_first_at : (P : State → Type 0) → Guarded P → (i : Item) (s : State) → IsFileHere i s → P s → Keeps P (hydrate_first i s)
hydrate_first_at P closed i s there h = hydrate_if_at P closed i (is_all_here i) s there h

-- what is here of the file is uploaded where nothing is missing
pub put_whole_at : (P : State → Type 0) → Guarded P → Uploading P → (i : Item) (t : State) → FrameIn (Unit {0}) i.id Files [] t → (o : Option Item) → item_of (items_now t) i.id ≡ o → P t → Keeps P (put_whole o t)
put_whole_at P closed entering i t frame None e k = k
put_whole_at P closed entering i t frame (Some j) e k = whole (list_all is_some j.held) refl where
  same : ◌≡◌ {A = ItemId} j.id i.id
  same = same_item j.id i.id (found_id i.id (items_now t) j e)

  whole : (b : Bool) → list_all is_some j.held ≡ b → Keeps P (put_if j b t)
  whole false q = k
  whole true q =
      push_put_at P closed entering j t (subst (λ (x : ItemId). item_of (items_now t) x ≡ Some j) (sym same) e) (λ fair. subst (NoEntry (book_now t).entries) (sym same) (frame.0 tt fair).2)
      (λ fair. each_at i.id (λ j. Files j.directory j.placeholder) (items_now t) j e (frame.0 tt fair).1) q k

-- a file is uploaded, after it was hydrated
pub put_file_at : (P : State → Type 0) → Guarded P → Uploading P → (i : Item) (s : State) → item_of (items_now s) i.id ≡ Some i → (IsFair s.link → NoEntry (book_now s).entries i.id) → (IsFair s.link → (i.directory ≡ false) × (i.placeholder ≡ true)) → P s → Keeps P (put_file i s)
put_file_at P closed entering i s there alone kind h =
    kept_leads P (put_file i s)
    (leads_bind P (λ u t. P t × FrameIn (Unit {0}) i.id Files [] t) (λ u t. P t) (hydrate_first i s) (λ u t. reading (item_now i.id) put_whole t)
    (first_led P (FrameIn (Unit {0}) i.id Files []) (hydrate_first i s) (hydrate_first_at (λ t. P t × FrameIn (Unit {0}) i.id Files [] t) (guarded_framed (Unit {0}) i.id Files (λ d p k. (k.0, refl)) [] P closed) i s (λ fair. (there, (kind fair).0)) (h, (first, λ fair. tt))))
    (λ u t k. leads_kept P (put_whole (item_of (items_now t) i.id) t) (put_whole_at P closed entering i t k.1 (item_of (items_now t) i.id) refl k.0))) where
      first : Unit {0} → IsFair s.link → (i.id.0 < s.filter.volume.next_item.0) × Each i.id (λ j. Files j.directory j.placeholder) (items_now s) × NoEntry (book_now s).entries i.id
      first u fair =
          let sound : IsSound s.link s.volatile.tokens s.filter = sound_of P closed s h fair in
          (found_below i.id 0 s.filter.volume.next_item.0 (items_now s) i sound.now.order there, each_found i.id (λ j. Files j.directory j.placeholder) 0 s.filter.volume.next_item.0 (items_now s) i sound.now.order there (kind fair), alone fair)

pub upload_at : (P : State → Type 0) → Guarded P → Uploading P → (i : Item) (s : State) → item_of (items_now s) i.id ≡ Some i → (IsFair s.link → NoEntry (book_now s).entries i.id) → (IsFair s.link → i.directory ≡ false → i.placeholder ≡ true) → ((target_of i).0 ≡ 0) ⊎ (is_dirty i ≡ true) → P s → Keeps P (upload i s)
upload_at P closed entering i s there alone ready why h = by i.directory refl where
  fresh : i.directory ≡ true → ((target_of i).0 ≡ 0) ⊎ (is_dirty i ≡ true) → ((target_of i).0 ≡ 0) ⊎ ((i.directory ≡ true) × (is_dirty i ≡ true))
  fresh dir (inl z) = inl z
  fresh dir (inr z) = inr (dir, z)

  by : (b : Bool) → i.directory ≡ b → Keeps P (choose b (push_item MakeDir i) (put_file i) s)
  by true e = push_dir_at EntersThere P closed entering i s there alone e (λ fair. there_of s i (without_rid (placed MakeDir i s)) refl refl there (λ z. cc) (λ z. fresh e why)) h
  by false e = put_file_at P closed entering i s there alone (λ fair. (e, ready fair e)) h

pub upload_now_at : (P : State → Type 0) → Guarded P → Uploading P → (item : ItemId) (o : Option Item) (s : State) → item_of (items_now s) item ≡ o → (IsFair s.link → NoEntry (book_now s).entries item) → ((j : Item) → item_of (items_now s) item ≡ Some j → (j.placeholder ≡ true) × ((target_of j).0 ≡ 0)) → P s → Keeps P (upload_now o s)
upload_now_at P closed entering item None s e alone placed h = h
upload_now_at P closed entering item (Some j) s e alone placed h =
    upload_at P closed entering j s (subst (λ (x : ItemId). item_of (items_now s) x ≡ Some j) (sym same) e) (λ fair. subst (NoEntry (book_now s).entries) (sym same) (alone fair)) (λ fair d. (placed j e).0) (inl (placed j e).1) h where
      same : ◌≡◌ {A = ItemId} j.id item
      same = same_item j.id item (found_id item (items_now s) j e)

upload_new_at : (P : State → Type 0) → Guarded P → Uploading P → (i : Item) (s : State) → item_of (items_now s) i.id ≡ Some i → (IsFair s.link → NoEntry (book_now s).entries i.id) → (target_of i).0 ≡ 0 → P s → Keeps P (upload_new i s)
upload_new_at P closed entering i s there alone none h = by i.placeholder refl where
  of : (j : Item) → ◌≡◌ {A = Option Item} (Some i) (Some j) → i ≡ j
  of j e = cc

  fits : i.placeholder ≡ false → IsFair s.link → Fits s.link.remote s.filter (change.Convert i.id no_identity)
  fits bare fair = (
    (each_found i.id (λ j. SameBase no_identity j.identity) 0 s.filter.volume.next_item.0 (items_now s) i (sound_of P closed s h fair).now.order there (both_none no_identity i.identity none_none (two i.directory refl)), refl),
    each_found i.id (λ j. (target_of j).0 ≡ 0) 0 s.filter.volume.next_item.0 (items_now s) i (sound_of P closed s h fair).now.order there none,
  ) where
    right : IsRight s.link.remote (next_number s.filter.volume) i
    right = right_of s i (sound_of P closed s h fair) there

    two : (d : Bool) → i.directory ≡ d → HasNone i.identity
    two true e = right.bare e
    two false e = (right.plain e bare).0

  Ready : Item → Type 0
  Ready x = (x.placeholder ≡ true) × ((target_of x).0 ≡ 0)

  -- the root has a target
  lower : (i.id.0 == 1) ≡ false
  lower = top (i.id.0 == 1) none where
    top : (b : Bool) → (cond b root_rid (target_in i.identity)).0 ≡ 0 → b ≡ false
    top true z = cc
    top false z = refl

  then_upload : (done : Bool) (t : State) → P t → (done ≡ true → Led (change.Convert i.id no_identity) s t) → Keeps P (upload_if i.id done t)
  then_upload false t j l = j
  then_upload true t j l =
      let led : Led (change.Convert i.id no_identity) s t = l refl in
      upload_now_at P closed entering i.id (item_of (items_now t) i.id) t refl
      (λ fair. subst (λ (es : List QueueEntry). NoEntry es i.id) (sym (led.after.entries (λ b. refl))) (alone (subst IsFair led.link fair)))
      (λ k e. each_at i.id Ready (items_now t) k e
      (subst (Each i.id Ready) (sym led.after.items) (made (items_now s)))) j where
        below : (b : Bool) → b ≡ false → (cond b root_rid (target_in no_identity)).0 ≡ 0
        below true q = no_way_back q
        below false q = refl

        made : (items : List Item) → Each i.id Ready (effect items (change.Convert i.id no_identity) (next_number s.filter.volume))
        made [] = tt
        made (x ∷ xs) = (one (x.id.0 == i.id.0) refl, made xs) where
          one : (b : Bool) → (x.id.0 == i.id.0) ≡ b → ((cond b (converted no_identity (next_number s.filter.volume) x) x).id.0 == i.id.0) ≡ true → Ready (cond b (converted no_identity (next_number s.filter.volume) x) x)
          one true q z = (refl, below (x.id.0 == 1) (subst (λ (n : ℕ). (n == 1) ≡ false) (sym (eqb-true x.id.0 i.id.0 q)) lower))
          one false q z = no_way (sym q ∙ z)

  by : (b : Bool) → i.placeholder ≡ b → Keeps P (bind (only_if (not b) (try_change (change.Convert i.id no_identity)) s) (upload_if i.id))
  by true e = upload_now_at P closed entering i.id (item_of (items_now s) i.id) s refl alone (λ j q. subst Ready (of j (sym there ∙ q)) (e, none)) h
  by false e =
      keeps_led P (λ done t. done ≡ true → Led (change.Convert i.id no_identity) s t) (try_change (change.Convert i.id no_identity) s) (λ done t. upload_if i.id done t)
      (try_change_at Unnamed P (guarded_skipping P closed) (change.Convert i.id no_identity) s refl (λ id k. k) (λ fair. (fits e fair, tt)) h) (try_led (change.Convert i.id no_identity) s) then_upload

mark_item_at : (P : State → Type 0) → Guarded P → (item : ItemId) (s : State) → (IsFair s.link → NoEntry (book_now s).entries item) → P s → Keeps P (mark_item item s)
mark_item_at P closed item s alone h = keeps_bind P (try_mark_now item s) whatever (try_mark_now_at Unnamed P (guarded_skipping P closed) item s (λ n. tt) (λ fair i e. no_move (book_now s).entries item (alone fair)) h) (λ b t j. j)

push_by_case_at : (P : State → Type 0) → Guarded P → Uploading P → (i : Item) (s : State) → item_of (items_now s) i.id ≡ Some i → (IsFair s.link → NoEntry (book_now s).entries i.id) → P s → Keeps P (push_by_case i s)
push_by_case_at P closed entering i s there alone h = by (is_untargeted i) refl where
  three : (b : Bool) → is_dirty i ≡ b → is_untargeted i ≡ false → Keeps P (choose b (upload i) (mark_item i.id) s)
  three true q e = upload_at P closed entering i s there alone (λ fair d. targeted s.link.remote (next_number s.filter.volume) i (right_of s i (sound_of P closed s h fair) there) e d) (inr q) h
  three false q e = mark_item_at P closed i.id s alone h

  two : (b : Bool) → not (stands_at_seen (items_now s) (book_now s) i) ≡ b → is_untargeted i ≡ false → Keeps P (choose b (push_item MoveItem i) (choose (is_dirty i) (upload i) (mark_item i.id)) s)
  two true q e = push_move_at P closed entering i s there alone (not_true (stands_at_seen (items_now s) (book_now s) i) q) h
  two false q e = three (is_dirty i) refl e

  by : (b : Bool) → is_untargeted i ≡ b → Keeps P (choose b (upload_new i) (choose (not (stands_at_seen (items_now s) (book_now s) i)) (push_item MoveItem i) (choose (is_dirty i) (upload i) (mark_item i.id))) s)
  by true e = upload_new_at P closed entering i s there alone (eqb-true (target_of i).0 0 e) h
  by false e = two (not (stands_at_seen (items_now s) (book_now s) i)) refl e

pub push_turn_keeps : (P : State → Type 0) → Guarded P → Uploading P → (item : ItemId) → Preserves P (push_turn item)
push_turn_keeps P closed entering item = record { keeps = λ s h. by (item_of (items_now s) item) s refl h } where
  by : (o : Option Item) (s : State) → item_of (items_now s) item ≡ o → P s → Keeps P (push_here o s)
  by None s e h = h
  by (Some i) s e h = two (is_left_out s i) refl where
    same : ◌≡◌ {A = ItemId} i.id item
    same = same_item i.id item (found_id item (items_now s) i e)

    two : (b : Bool) → is_left_out s i ≡ b → Keeps P (push_unless i b s)
    two true q = h
    two false q = push_by_case_at P closed entering i s (subst (λ (x : ItemId). item_of (items_now s) x ≡ Some i) (sym same) e) (λ fair. now_lone s i q) h

-- the tombstone that is found under the number is one of them
tombstone_there : (s : State) (t : Tombstone) → is_tombstone_left_out s t ≡ false → (u : Tombstone) × Among u (book_now s).tombstones × (u.number ≡ t.number) × (u.rid.0 ≡ t.rid.0)
tombstone_there s t q = by (tombstone_of (book_now s) t.number) refl (first (says (λ u. u.rid.0 == t.rid.0) (tombstone_of (book_now s) t.number)) (has_rid_entry s t) (has_number s.volatile.held_tombstones t.number) q) where
  first : (a b c : Bool) → (not a || b || c) ≡ false → a ≡ true
  first true b c z = refl
  first false b c z = no_way_back z

  same : (a b : Usn) → same_usn a b ≡ true → a ≡ b
  same a b e = λ k. record { epoch = eqb-true a.epoch b.epoch (left_true (a.epoch == b.epoch) (a.place == b.place) e) k; place = eqb-true a.place b.place (right_true (a.epoch == b.epoch) (a.place == b.place) e) k }

  by : (o : Option Tombstone) → tombstone_of (book_now s) t.number ≡ o → says (λ u. u.rid.0 == t.rid.0) o ≡ true → (u : Tombstone) × Among u (book_now s).tombstones × (u.number ≡ t.number) × (u.rid.0 ≡ t.rid.0)
  by None f z = no_way z
  by (Some u) f z = let k = all_found (λ x. Among x (book_now s).tombstones) (λ x. same_usn x.number t.number) (book_now s).tombstones u f (all_in (book_now s).tombstones) in (u, k.0, same u.number t.number k.1, eqb-true u.rid.0 t.rid.0 z)

pub push_removal_at : (Q : State → QueueEntry → Type 0) (P : State → Type 0) → Guarded P → EnteringBy Q P → (t : Tombstone) (s : State) → (IsFair s.link → Q (with_volatile with_token s) (removal_entry s t)) → P s → Keeps P (push_removal t s)
push_removal_at Q P closed entering t s known h =
    push_at Q P closed entering (removal_entry s t) t.version [] s refl
    (λ fair. record { early = λ e. no_way e; item = low s.filter.volume.next_item.0 (sound_of P closed s h fair).now.more; apart = all_any (λ f. f.item.0 ≡ 0 → f.item.0 ≡ 0) (λ f e. e) (book_now s).entries; facts = tt; off = λ z. cc; low = λ z. cc; new = λ z. cc; about = λ z. cc; named = λ _. each_past (record { 0 = 0 }) (λ i. (target_of i).0 ≡ t.rid.0) 0 s.filter.volume.next_item.0 (items_now s) (none 0) (sound_of P closed s h fair).now.order }) known h
  where
    low : (n : ℕ) → 2 ≤ n → 0 < n
    low n h = omega (arith, h)

    none : (n : ℕ) → n ≤ n
    none n = omega arith

pub push_tombstone_keeps : (P : State → Type 0) → Guarded P → Uploading P → (t : Tombstone) → Preserves P (push_tombstone t)
push_tombstone_keeps P closed entering t = record { keeps = λ s h. by s h (is_tombstone_left_out s t) refl } where
  by : (s : State) → P s → (b : Bool) → is_tombstone_left_out s t ≡ b → Keeps P (bury_unless t b s)
  by s h true q = h
  by s h false q = push_removal_at EntersThere P closed entering t s (λ fair. ((λ _. tombstone_there s t q), λ z. no_way z)) h

push_lists_keeps : (P : State → Type 0) → Guarded P → Uploading P → (ts : List Tombstone) (ids : List ItemId) → Preserves P (push_lists ts ids)
push_lists_keeps P closed entering ts ids = keeps_then P (each push_tombstone ts) (each push_turn ids) (keeps_each P push_tombstone ts (push_tombstone_keeps P closed entering)) (keeps_each P push_turn ids (push_turn_keeps P closed entering))

pub push_all_keeps : (P : State → Type 0) → Guarded P → Uploading P → Preserves P push_all
push_all_keeps P closed entering = record { keeps = λ s h. (push_lists_keeps P closed entering (book_now s).tombstones (map (λ i. i.id) (by_depth (items_now s) (items_now s)))).keeps s h }
