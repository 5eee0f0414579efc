-- What a change that is looked at makes of its item, and of the view of it.
use Rattle.std.proofs.Common.{◌≡◌, ◌≤◌, ◌+◌, ℕ, zero, suc, Bool, true, false, cond, List, [], ◌∷◌, refl, sym, ◌∙◌, ap, subst, length, arith, eqb, Some, None, Option}
use Rattle.std.specs.Prelude.{unwrap_or, ◌==◌}
use Rattle.cf_ask_rule.specs.Plans.{Planned}
use Rattle.cf_base.specs.declared.changes.Change.{Change}
use Rattle.cf_base.specs.declared.changes.Change.TheVariants as change
use Rattle.cf_base.specs.declared.ids.ItemId.{ItemId}
use Rattle.cf_base.specs.declared.ids.Usn.{Usn}
use Rattle.cf_model.specs.Asks.{step_of}
use Rattle.cf_model.specs.Changes.{next_number}
use Rattle.cf_model.specs.Effects.{changed, effect, filled, filled_front, got, kept, leaves_at, left_out, marked, validated_in}
use Rattle.cf_model.specs.Items.{Item, item_of}
use Rattle.cf_model.specs.Missing.{View, view_of}
use Rattle.cf_model.specs.Requests.{Deed}
use Rattle.cf_model.specs.Settling.{no_view}
use Rattle.cf_model.specs.State.{Filter}
use Rattle.cf_model.specs.Words.{by_place, part}
use Rattle.cf_filter_steps.specs.Answering.{Sense}
use Rattle.cf_filter_steps.specs.Finding.{HasRows}
use Rattle.cf_filter_steps.specs.Good.{IsSmall}
use Rattle.cf_filter_steps.specs.Looking.{FitsSpans, IsSeen, effect_on}
use Rattle.cf_filter_steps.specs.Settled.{Looks, LooksAfter, LooksGone}
use Rattle.cf_table.specs.Means.{Means}
use Rattle.cf_table.specs.Tables.{Table, row_of}
use Rattle.cf_table.specs.declared.rows.Row.{Row}
use Rattle.cf_filter_steps.proofs.RowReads.{row_gone, row_there}
use Rattle.cf_filter_steps.proofs.LookUps.{of_found}

-- the item that changes is found as it is then

item_changed : (f : Item → Item) (id : ItemId) (items : List Item) (i : Item) → ((j : Item) → (f j).id ≡ j.id) → item_of items id ≡ Some i → item_of (changed id f items) id ≡ Some (f i)
item_changed f id [] i same e = let z : ◌≡◌ {A = Option Item} None (Some i) = e in absurd cc
item_changed f id (x ∷ xs) i same e = by (eqb x.id.0 id.0) refl e (item_changed f id xs i same) where
  by : (b : Bool) → eqb x.id.0 id.0 ≡ b → cond b (Some x) (item_of xs id) ≡ Some i → (item_of xs id ≡ Some i → item_of (changed id f xs) id ≡ Some (f i))
      → item_of (cond b (f x) x ∷ changed id f xs) id ≡ Some (f i)
  by true q k rest =
      let is : x ≡ i = cc in
      ap (λ (b : Bool). cond b (Some (f x)) (item_of (changed id f xs) id)) (ap (λ (j : ItemId). eqb j.0 id.0) (same x) ∙ q) ∙ ap (λ (j : Item). Some (f j)) is
  by false q k rest = ap (λ (b : Bool). cond b (Some x) (item_of (changed id f xs) id)) q ∙ rest k

none_changed : (f : Item → Item) (id : ItemId) (items : List Item) → item_of items id ≡ None → item_of (changed id f items) id ≡ None
none_changed f id [] e = refl
none_changed f id (x ∷ xs) e = by (eqb x.id.0 id.0) refl e (none_changed f id xs) where
  by : (b : Bool) → eqb x.id.0 id.0 ≡ b → cond b (Some x) (item_of xs id) ≡ None → (item_of xs id ≡ None → item_of (changed id f xs) id ≡ None)
      → item_of (cond b (f x) x ∷ changed id f xs) id ≡ None
  by true q k rest = let z : ◌≡◌ {A = Option Item} (Some x) None = k in absurd cc
  by false q k rest = ap (λ (b : Bool). cond b (Some x) (item_of (changed id f xs) id)) q ∙ rest k

-- lengths

front_length : (bs : List ℕ) (held : List (Option ℕ)) → length (filled_front bs held) ≡ length held
front_length [] held = refl
front_length (b ∷ bs) [] = refl
front_length (b ∷ bs) (h ∷ hs) = ap suc (front_length bs hs)

filled_length : (start : ℕ) (bs : List ℕ) (held : List (Option ℕ)) → length (filled start bs held) ≡ length held
filled_length zero bs held = front_length bs held
filled_length (suc n) bs [] = front_length bs []
filled_length (suc n) bs (h ∷ hs) = ap suc (filled_length n bs hs)

placed_length : {A B : Type 0} (f : ℕ → A → B) (at : ℕ) (xs : List A) → length (by_place f at xs) ≡ length xs
placed_length f at [] = refl
placed_length f at (x ∷ xs) = ap suc (placed_length f (at + 1) xs)

-- what such a change does

record DoesOf (c : Change) (id : ItemId) : Type 0 where
  pub effects : (items : List Item) (n : Usn) → effect items c n ≡ changed id (effect_on c) items
  pub same : (i : Item) → (effect_on c i).id ≡ i.id
  pub fits : FitsSpans c
  pub small : (i : Item) → IsSmall i → IsSmall (effect_on c i)

small_filled : (start : ℕ) (bytes : List ℕ) (i : Item) → IsSmall i → IsSmall (got start bytes i)
small_filled start bytes i h = record { size = subst (λ (n : ℕ). n ≤ 16777216) (sym (filled_length start bytes i.held)) h.size; base = h.base; identity = h.identity; name = h.name }

small_emptied : (start len : ℕ) (i : Item) → IsSmall i → IsSmall (left_out start len i)
small_emptied start len i h = record {
  size = subst (λ (n : ℕ). n ≤ 16777216) (sym (placed_length (λ p b. cond (leaves_at start len i.writes p) None b) 0 i.held)) h.size;
  base = h.base;
  identity = h.identity;
  name = h.name;
}

small_marked : (i : Item) → IsSmall i → IsSmall (marked i)
small_marked i h = record { size = h.size; base = by i.directory; identity = h.identity; name = h.name } where
  by : (b : Bool) → unwrap_or (cond b None (Some (length i.held))) 0 ≤ 16777216
  by true = omega arith
  by false = h.size

does_of : (c : Change) (id : ItemId) → IsSeen c id → DoesOf c id
does_of (change.Filled item start bytes) id h = record { effects = λ items n. ap (λ (k : ItemId). changed k (got start bytes) items) h.0; same = λ i. refl; fits = (h.1, h.2); small = small_filled start bytes }
does_of (change.Validated item start len) id h = record {
  effects = λ items n. ap (λ (k : ItemId). changed k (validated_in start len) items) h.0;
  same = λ i. refl;
  fits = (h.1, h.2);
  small = λ i s. record { size = s.size; base = s.base; identity = s.identity; name = s.name };
}
does_of (change.Emptied item start len) id h = record { effects = λ items n. ap (λ (k : ItemId). changed k (left_out start len) items) h.0; same = λ i. refl; fits = (h.1, h.2); small = small_emptied start len }
does_of (change.Mark item number) id h = record { effects = λ items n. ap (λ (k : ItemId). changed k marked items) h; same = λ i. refl; fits = record {}; small = small_marked }
does_of (change.Keep item on) id h = record {
  effects = λ items n. ap (λ (k : ItemId). changed k (kept on) items) h;
  same = λ i. refl;
  fits = record {};
  small = λ i s. record { size = s.size; base = s.base; identity = s.identity; name = s.name };
}
does_of (change.Make item parent name kind size identity) id h = absurd h
does_of (change.Remove item) id h = absurd h
does_of (change.Move item parent name) id h = absurd h
does_of (change.Write item at bytes) id h = absurd h
does_of (change.Size item size) id h = absurd h
does_of (change.SetPin item pin) id h = absurd h
does_of (change.Clear item) id h = absurd h
does_of (change.Convert item identity) id h = absurd h
does_of (change.Revert item) id h = absurd h
does_of (change.Rebase item identity len at) id h = absurd h
does_of (change.Take item identity size) id h = absurd h
does_of (change.Copy item from parent name) id h = absurd h
does_of (change.Populated item) id h = absurd h

-- the view of the item then

told_by : (item : ItemId) (d : Deed) (s : Filter) (items : List Item) (o : Option Item) (v : View) → item_of items item ≡ o → part (view_of s.policy) no_view o ≡ v
    → step_of item v d s.waiting ≡ step_of item (part (view_of s.policy) no_view (item_of items item)) d s.waiting
told_by item d s items o v e q = ap (λ (y : View). step_of item y d s.waiting) (sym (ap (λ (p : Option Item). part (view_of s.policy) no_view p) e ∙ q))

pub looks_after : {X : Type 0} (S : Sense X) (x : X) (t : Table) (item : ItemId) (c : Change) (row after : Row) (d : Deed) (p : Planned)
    → HasRows S x t → row_of t.rows item ≡ Some row → ((i : Item) → FitsSpans c → Means row i → Means after (effect_on c i)) → Looks S item after d p x → LooksAfter S item c d p x
looks_after S x t item c row after d p rows e change looks = record {
  is = λ s h seen.
      let b = row_there t.rows s.volume.items item row (rows.rows s h) e in
      let k = does_of c item seen in
      let small = of_found IsSmall (λ j. j.id.0 == item.0) s.volume.items b.0 (S.good x s h).volume.small b.1 in
      looks.is s (effect_on c b.0) h (change b.0 k.fits b.2) (k.small b.0 small)
      ∙ told_by item d s (effect s.volume.items c (next_number s.volume)) (Some (effect_on c b.0)) (view_of s.policy (effect_on c b.0))
      (ap (λ (is : List Item). item_of is item) (k.effects s.volume.items (next_number s.volume)) ∙ item_changed (effect_on c) item s.volume.items b.0 k.same b.1) refl;
}

pub gone_after : {X : Type 0} (S : Sense X) (x : X) (t : Table) (item : ItemId) (c : Change) (d : Deed) (p : Planned)
    → HasRows S x t → row_of t.rows item ≡ None → LooksGone S item d p x → LooksAfter S item c d p x
gone_after S x t item c d p rows e looks = record {
  is = λ s h seen.
      let b = row_gone t.rows s.volume.items item (rows.rows s h) e in
      let k = does_of c item seen in
      looks.is s h
      ∙ told_by item d s (effect s.volume.items c (next_number s.volume)) None no_view
      (ap (λ (is : List Item). item_of is item) (k.effects s.volume.items (next_number s.volume)) ∙ none_changed (effect_on c) item s.volume.items b) refl;
}
