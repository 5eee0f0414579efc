-- The byte of a local write is kept by every change that does not take it away.
use Rattle.std.proofs.Common.{◌≡◌, ◌<◌, ◌+◌, ℕ, Bool, true, false, List, [], ◌∷◌, ◌++◌, refl, sym, ◌∙◌, ap, subst, length, eq-eqb}
use Rattle.std.specs.Prelude.{Option, Some, None, cond, not, min, nat_le, ◌&&◌, ◌==◌}
use Rattle.std.proofs.lemmas.Bool.{eqb-true}
use Rattle.cf_base.specs.declared.changes.Change.TheVariants as change
use Rattle.cf_base.specs.declared.ids.ItemId.{ItemId}
use Rattle.cf_base.specs.declared.ids.Usn.{Usn}
use Rattle.cf_base.specs.declared.items.Pin.{Pin}
use Rattle.cf_model.specs.Contents.{base_named}
use Rattle.cf_model.specs.Effects.{changed, converted, copied, got, leaves_at, left_out, rebased, sized, without, wrote}
use Rattle.cf_model.specs.Identities.{base_bytes}
use Rattle.cf_model.specs.Items.{Item, item_of}
use Rattle.cf_model.specs.Kept.{has_id, lists, lists_at, takes_away}
use Rattle.cf_model.specs.Numbers.{above}
use Rattle.cf_model.specs.Overlay.{Put, Resize, Written, is_covered}
use Rattle.cf_model.specs.Soundness.{Each}
use Rattle.cf_model.specs.Store.{Held}
use Rattle.cf_model.specs.Words.{part, passes_at, says, within}
use Rattle.cf_model.proofs.ContentItems.{untargeted-base}
use Rattle.cf_model.proofs.GivenLaws.{others_changed}
use Rattle.cf_model_laws.specs.History.{IsConvertible, IsRebasable}
use Rattle.cf_model_laws.proofs.HeldLocals.{HoldsByte, holds_more, holds_rebased, is_modified_by, lists_later, lists_more}
use Rattle.cf_model_laws.proofs.PushRepliesGuarded.{each_at}
use Rattle.cf_model_laws.proofs.RightItems.{no_way}
use Rattle.cf_model_laws.proofs.SoundSettles.{same_item}
use Rattle.cf_model_laws.proofs.SparedBytes.{Spares, has_byte, held_emptied, held_filled, held_put, held_sized, passes_within, put_spares, size_spares}

-- look-ups after a change

pub found_same : (id : ItemId) (f : Item → Item) → ((i : Item) → (f i).id ≡ i.id) → (items : List Item) (i : Item) → item_of items id ≡ Some i → item_of (changed id f items) id ≡ Some (f i)
found_same id f keeps [] i e = cc
found_same id f keeps (k ∷ ks) i e = by (k.id.0 == id.0) refl e (found_same id f keeps ks i) where
  by : (b : Bool) → (k.id.0 == id.0) ≡ b → cond b (Some k) (item_of ks id) ≡ Some i → (item_of ks id ≡ Some i → item_of (changed id f ks) id ≡ Some (f i)) → item_of (cond b (f k) k ∷ changed id f ks) id ≡ Some (f i)
  by true q e g = let z : k ≡ i = cc in ap (λ (b : Bool). cond b (Some (f k)) (item_of (changed id f ks) id)) (subst (λ (x : ItemId). (x.0 == id.0) ≡ true) (sym (keeps k)) q) ∙ ap (λ (x : Item). Some (f x)) z
  by false q e g = rw q (g e)

lost_same : (id : ItemId) (f : Item → Item) → ((i : Item) → (f i).id ≡ i.id) → (items : List Item) → item_of items id ≡ None → item_of (changed id f items) id ≡ None
lost_same id f keeps [] e = refl
lost_same id f keeps (k ∷ ks) e = by (k.id.0 == id.0) refl e (lost_same id f keeps ks) where
  by : (b : Bool) → (k.id.0 == id.0) ≡ b → cond b (Some k) (item_of ks id) ≡ None → (item_of ks id ≡ None → item_of (changed id f ks) id ≡ None) → item_of (cond b (f k) k ∷ changed id f ks) id ≡ None
  by true q e g = cc
  by false q e g = rw q (g e)

pub found_first : (items more : List Item) (id : ItemId) (i : Item) → item_of items id ≡ Some i → item_of (items ++ more) id ≡ Some i
found_first [] more id i e = cc
found_first (k ∷ ks) more id i e = by (k.id.0 == id.0) e (found_first ks more id i) where
  by : (b : Bool) → cond b (Some k) (item_of ks id) ≡ Some i → (item_of ks id ≡ Some i → item_of (ks ++ more) id ≡ Some i) → cond b (Some k) (item_of (ks ++ more) id) ≡ Some i
  by true e g = e
  by false e g = g e

pub found_second : (items more : List Item) (id : ItemId) → item_of items id ≡ None → item_of (items ++ more) id ≡ item_of more id
found_second [] more id e = refl
found_second (k ∷ ks) more id e = by (k.id.0 == id.0) e (found_second ks more id) where
  by : (b : Bool) → cond b (Some k) (item_of ks id) ≡ None → (item_of ks id ≡ None → item_of (ks ++ more) id ≡ item_of more id) → cond b (Some k) (item_of (ks ++ more) id) ≡ item_of more id
  by true e g = cc
  by false e g = g e

pub none_left : (id : ItemId) (items : List Item) → item_of (without id items) id ≡ None
none_left id [] = refl
none_left id (i ∷ is) = by (i.id.0 == id.0) refl (none_left id is) where
  by : (b : Bool) → (i.id.0 == id.0) ≡ b → item_of (without id is) id ≡ None → item_of (cond (not b) (i ∷ without id is) (without id is)) id ≡ None
  by true q g = g
  by false q g = rw q g

-- the items of the write, and the byte

module _ (r : Held) (n : Usn) (p b : ℕ) where
  abbrev pub HoldsIn : Item → Type 0
  HoldsIn i = HoldsByte n p b (base_bytes r i) i.directory i.held i.writes

  -- if the item lists the write it holds the byte
  abbrev pub HoldsAt : List Item → ItemId → Type 0
  HoldsAt items h = (i : Item) → item_of items h ≡ Some i → lists n i.writes ≡ true → HoldsIn i

  -- one of the items lists the write
  abbrev pub HasLister : List Item → List ItemId → Type 0
  HasLister items ids = (h : ItemId) × (has_id ids h ≡ true) × (i : Item) × (item_of items h ≡ Some i) × (lists n i.writes ≡ true)

  -- of a change of one item: what it makes of one that lists the write
  pub record Passes (items : List Item) (item : ItemId) (f : Item → Item) : Type 0 where
    pub keeps : (i : Item) → (f i).id ≡ i.id
    pub back : (i : Item) → item_of items item ≡ Some i → lists n (f i).writes ≡ true → lists n i.writes ≡ true
    pub holds : (i : Item) → item_of items item ≡ Some i → lists n (f i).writes ≡ true → HoldsIn i → HoldsIn (f i)

  pub at_other : (item h : ItemId) → (item.0 == h.0) ≡ true → h ≡ item
  at_other item h e = sym (same_item item h (eqb-true item.0 h.0 e))

  pub passes_holds : (items : List Item) (item : ItemId) (f : Item → Item) → Passes items item f → (h : ItemId) → HoldsAt items h → HoldsAt (changed item f items) h
  passes_holds items item f pass h old = by (item.0 == h.0) refl where
    one : (o : Option Item) → item_of items item ≡ o → HoldsAt items item → HoldsAt (changed item f items) item
    one None e k i found listed = let z : ◌≡◌ {A = Option Item} None (Some i) = sym (lost_same item f pass.keeps items e) ∙ found in cc
    one (Some j) e k i found listed =
        let z : f j ≡ i = some_same (f j) i (sym (found_same item f pass.keeps items j e) ∙ found) in
        subst HoldsIn z (pass.holds j e (subst (λ (x : Item). lists n x.writes ≡ true) (sym z) listed) (k j e (pass.back j e (subst (λ (x : Item). lists n x.writes ≡ true) (sym z) listed)))) where
          some_same : (x y : Item) → ◌≡◌ {A = Option Item} (Some x) (Some y) → x ≡ y
          some_same x y e = cc

    by : (c : Bool) → (item.0 == h.0) ≡ c → HoldsAt (changed item f items) h
    by true q = subst (λ (x : ItemId). HoldsAt (changed item f items) x) (sym (at_other item h q)) (one (item_of items item) refl (subst (HoldsAt items) (at_other item h q) old))
    by false q = λ i found listed. old i (sym (others_changed f item h items pass.keeps q) ∙ found) listed

  pub passes_lister : (items : List Item) (item : ItemId) (f : Item → Item) → ((i : Item) → (f i).id ≡ i.id) → ((i : Item) → item_of items item ≡ Some i → lists n i.writes ≡ true → lists n (f i).writes ≡ true)
      → (ids : List ItemId) → HasLister items ids → HasLister (changed item f items) ids
  passes_lister items item f keeps still ids (h, among, i, found, listed) = by (item.0 == h.0) refl where
    by : (c : Bool) → (item.0 == h.0) ≡ c → HasLister (changed item f items) ids
    by true q =
        let at : item_of items item ≡ Some i = subst (λ (x : ItemId). item_of items x ≡ Some i) (at_other item h q) found in
        (h, among, f i, subst (λ (x : ItemId). item_of (changed item f items) x ≡ Some (f i)) (sym (at_other item h q)) (found_same item f keeps items i at), still i at listed)
    by false q = (h, among, i, others_changed f item h items keeps q ∙ found, listed)

  -- what each kind of change makes of it

  not_modified : (start len : ℕ) (ws : List Written) → is_covered ws p ≡ true → leaves_at start len ws p ≡ false
  not_modified start len ws e = by (within start (start + len) p) where
    by : (c : Bool) → (c && not (is_covered ws p)) ≡ false
    by true = ap (λ (d : Bool). not d) e
    by false = refl

  pub plain_passes : (items : List Item) (item : ItemId) (f : Item → Item) → ((i : Item) → (f i).id ≡ i.id) → ((i : Item) → (f i).writes ≡ i.writes) → ((i : Item) → item_of items item ≡ Some i → lists n i.writes ≡ true → HoldsIn i → HoldsIn (f i)) → Passes items item f
  plain_passes items item f keeps same holds = record {
    keeps = keeps;
    back = λ i e k. subst (λ (ws : List Written). lists n ws ≡ true) (same i) k;
    holds = λ i e k h. holds i e (subst (λ (ws : List Written). lists n ws ≡ true) (same i) k) h;
  }

  -- held bytes that stay, under the same writes and the same base
  pub in_place : (base : List ℕ) (directory : Bool) (old new : List (Option ℕ)) (ws : List Written) → passes_at (has_byte b) new p ≡ true → HoldsByte n p b base directory old ws → HoldsByte n p b base directory new ws
  in_place base directory old new ws here h = record { file = h.file; here = here; covered = h.covered; later = h.later; last = h.last }

  pub got_passes : (items : List Item) (item : ItemId) (start : ℕ) (bytes : List ℕ) → Passes items item (got start bytes)
  got_passes items item start bytes = plain_passes items item (got start bytes) (λ i. refl) (λ i. refl) (λ i e k h. in_place (base_bytes r i) i.directory i.held _ i.writes (held_filled b start bytes i.held p h.here) h)

  pub left_passes : (items : List Item) (item : ItemId) (start len : ℕ) → Passes items item (left_out start len)
  left_passes items item start len =
      plain_passes items item (left_out start len) (λ i. refl) (λ i. refl)
      (λ i e k h. in_place (base_bytes r i) i.directory i.held _ i.writes (held_emptied b (leaves_at start len i.writes) i.held p (not_modified start len i.writes (is_modified_by n p i.writes k h.covered)) h.here) h)

  pub converted_passes : (items : List Item) (item : ItemId) (identity : List ℕ) (m : Usn) → Each item (IsConvertible r identity) items → Passes items item (converted identity m)
  converted_passes items item identity m met =
      plain_passes items item (converted identity m) (λ i. refl) (λ i. refl)
      (λ i e k h. subst (λ (base : List ℕ). HoldsByte n p b base i.directory i.held i.writes) (sym (each_at item (IsConvertible r identity) items i e met).2) h)

  -- of a change by which an item has no writes any more
  pub clean_passes : (items : List Item) (item : ItemId) (f : Item → Item) → ((i : Item) → (f i).id ≡ i.id) → ((i : Item) → (f i).writes ≡ []) → Passes items item f
  clean_passes items item f keeps none = record {
    keeps = keeps;
    back = λ i e k. no_way (subst (λ (ws : List Written). lists n ws ≡ true) (none i) k);
    holds = λ i e k h. no_way (subst (λ (ws : List Written). lists n ws ≡ true) (none i) k);
  }

  -- a write that is not the one of the byte
  pub wrote_passes : (items : List Item) (item : ItemId) (at : ℕ) (bytes : List ℕ) (m : Usn) → above m n ≡ true → (lists_at items item n ≡ true → takes_away items item p (change.Write item at bytes) ≡ false) → Passes items item (wrote at bytes m)
  wrote_passes items item at bytes m a sparing = record {
    keeps = λ i. refl;
    back = λ i e k. lists_more n i.writes _ a k;
    holds = λ i e k h.
        let spares : Spares (Put at bytes) p = put_spares at bytes (length i.held) p (passes_within (has_byte b) i.held p h.here) (away i e (lists_more n i.writes _ a k)) in
        holds_more n p b (base_bytes r i) i.directory i.held _ i.writes (record { number = m; before = length i.held; write = Put at bytes }) a spares (held_put b at bytes i.held p spares h.here) h;
  }
    where
      away : (i : Item) → item_of items item ≡ Some i → lists n i.writes ≡ true → within (min at (length i.held)) (at + length bytes) p ≡ false
      away i e k =
          let listed : lists_at items item n ≡ true = ap (λ (o : Option Item). says (λ x. lists n x.writes) o) e ∙ k in
          sym (ap (λ (o : Option Item). within (min at (part (λ x. length x.held) 0 o)) (at + length bytes) p) e) ∙ second (item.0 == item.0) (within (min at (part (λ x. length x.held) 0 (item_of items item))) (at + length bytes) p) (eq-eqb item.0 item.0 refl) (sparing listed) where
            second : (c d : Bool) → c ≡ true → (c && d) ≡ false → d ≡ false
            second true d q z = z
            second false d q z = no_way q

  pub sized_passes : (items : List Item) (item : ItemId) (size : ℕ) (m : Usn) → above m n ≡ true → (lists_at items item n ≡ true → takes_away items item p (change.Size item size) ≡ false) → Passes items item (sized size m)
  sized_passes items item size m a sparing = record {
    keeps = λ i. refl;
    back = λ i e k. lists_more n i.writes _ a k;
    holds = λ i e k h.
        let spares : p < size = size_spares size p (away i e (lists_more n i.writes _ a k)) in
        holds_more n p b (base_bytes r i) i.directory i.held _ i.writes (record { number = m; before = length i.held; write = Resize size }) a spares (held_sized b size i.held p spares h.here) h;
  }
    where
      away : (i : Item) → item_of items item ≡ Some i → lists n i.writes ≡ true → nat_le size p ≡ false
      away i e k =
          let listed : lists_at items item n ≡ true = ap (λ (o : Option Item). says (λ x. lists n x.writes) o) e ∙ k in
          second (item.0 == item.0) (nat_le size p) (eq-eqb item.0 item.0 refl) (sparing listed) where
            second : (c d : Bool) → c ≡ true → (c && d) ≡ false → d ≡ false
            second true d q z = z
            second false d q z = no_way q

  pub rebased_passes : (items : List Item) (item : ItemId) (identity : List ℕ) (len : ℕ) (at : Usn) → Each item (IsRebasable r identity len at) items → Passes items item (rebased identity len at)
  rebased_passes items item identity len at met = record {
    keeps = λ i. refl;
    back = λ i e k. (lists_later n at i.writes k).0;
    holds = λ i e k h. let g = each_at item (IsRebasable r identity len at) items i e met h.file in holds_rebased n p b (base_bytes r i) (base_named r identity) i.directory i.held i.writes at (lists_later n at i.writes k).1 g.4 g.2 h;
  }

  -- a copy
  pub copied_holds : (new parent : ItemId) (name : List ℕ) (pin : Pin) (m : Usn) (i : Item) → above m n ≡ true → HoldsIn i → HoldsIn (copied new parent name pin m i)
  copied_holds new parent name pin m i a h =
      subst (λ (base : List ℕ). HoldsByte n p b base i.directory i.held (i.writes ++ record { number = m; before = length i.held; write = Resize (length i.held) } ∷ [])) (sym (untargeted-base r i.identity))
      (holds_more n p b (base_bytes r i) i.directory i.held i.held i.writes (record { number = m; before = length i.held; write = Resize (length i.held) }) a (passes_within (has_byte b) i.held p h.here) h.here h)
