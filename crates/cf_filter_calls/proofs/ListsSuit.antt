-- Changes of a list of entries, which suit.
use Rattle.std.proofs.Common.{◌≡◌, ◌≤◌, ◌<◌, ◌+◌, ◌++◌, ℕ, zero, suc, Bool, true, false, cond, List, [], ◌∷◌, length, refl, sym, ◌∙◌, ap, subst, arith, eqb, Option, Some, None}
use Rattle.std.proofs.lemmas.Bool.{and_parts, eqb-true, or_parts}
use Rattle.std.proofs.lemmas.List.{append_assoc}
use Rattle.std.specs.Prelude.{MatchOption, max, ◌==◌, ◌&&◌}
use Rattle.std.specs.List.{list_any}
use Rattle.cf_base.specs.declared.changes.Change.{Change}
use Rattle.cf_base.specs.declared.changes.Change.TheVariants as change
use Rattle.cf_base.specs.declared.ids.ItemId.{ItemId}
use Rattle.cf_base.specs.declared.ids.Usn.{Usn}
use Rattle.cf_base.specs.declared.operations.NewItem.{NewItem}
use Rattle.cf_base.specs.declared.items.Kind.{Kind}
use Rattle.cf_base.specs.declared.policies.Policy.{Policy}
use Rattle.cf_filter_calls.specs.Entering.{listed_changes, number_past}
use Rattle.cf_model.specs.Changes.{next_number, put_change}
use Rattle.cf_model.specs.Effects.{changed, is_placeholder, made, marked}
use Rattle.cf_model.specs.Items.{Item, item_of, pin_of}
use Rattle.cf_model.specs.LookUp.{child_of, is_child_named}
use Rattle.cf_model.specs.Operations.{entry_kind, is_twice}
use Rattle.cf_model.specs.Soundness.{MadeNeeds}
use Rattle.cf_model.specs.State.{Volume}
use Rattle.cf_model.specs.Texts.{is_name}
use Rattle.cf_model.specs.Words.{is_empty, same, when}
use Rattle.cf_filter_steps.specs.Good.{Every}
use Rattle.cf_filter_steps.specs.Listing.{AreEntries}
use Rattle.cf_tree.specs.Trees.{AreOpen, IsTree, IsUnder, RiseFrom}
use Rattle.cf_tree.proofs.Depths.{only, some_of}
use Rattle.cf_tree.proofs.FoundLater.{find_before, find_past}
use Rattle.cf_tree.proofs.Heights.{depth_is}
use Rattle.cf_tree.proofs.TreesStay.{AsBefore}
use Rattle.cf_tree.proofs.Walks.{by_own_id, found_passes}
use Rattle.cf_filter_calls.proofs.Begun.{every_both}
use Rattle.cf_filter_calls.proofs.NewItems.{dir_needs, dir_placeholder, each_new, name_short}
use Rattle.cf_filter_calls.proofs.Suited.{each_at}

-- what stays where it is

abbrev Keeps : List Item → List Item → Type 0
Keeps items later = (id : ItemId) (i : Item) → item_of items id ≡ Some i → (j : Item) × (item_of later id ≡ Some j) × AsBefore i j

own_place : (i : Item) → AsBefore i i
own_place i = record { id = refl; parent = refl; name = refl; directory = refl }

keeps_more : (items more : List Item) → Keeps items (items ++ more)
keeps_more items more id i e = (i, find_before (λ (k : Item). k.id.0 == id.0) items more i e, own_place i)

keeps_marked : (key : ItemId) (items : List Item) → Keeps items (changed key marked items)
keeps_marked key [] id i e = let z : ◌≡◌ {A = Option Item} None (Some i) = e in absurd cc
keeps_marked key (x ∷ xs) id i e = two (x.id.0 == key.0) (x.id.0 == id.0) refl e (keeps_marked key xs id i) where
  first : (b : Bool) → (x.id.0 == id.0) ≡ true → item_of (cond b (marked x) x ∷ changed key marked xs) id ≡ Some (cond b (marked x) x)
  first true q = ap (λ (d : Bool). cond d (Some (marked x)) (item_of (changed key marked xs) id)) q
  first false q = ap (λ (d : Bool). cond d (Some x) (item_of (changed key marked xs) id)) q

  like : (b : Bool) → x ≡ i → AsBefore i (cond b (marked x) x)
  like true q = subst (λ (v : Item). AsBefore v (marked x)) q (record { id = refl; parent = refl; name = refl; directory = refl })
  like false q = subst (λ (v : Item). AsBefore v x) q (own_place x)

  past : (b : Bool) → (x.id.0 == id.0) ≡ false → item_of (cond b (marked x) x ∷ changed key marked xs) id ≡ item_of (changed key marked xs) id
  past true q = ap (λ (d : Bool). cond d (Some (marked x)) (item_of (changed key marked xs) id)) q
  past false q = ap (λ (d : Bool). cond d (Some x) (item_of (changed key marked xs) id)) q

  two : (b c : Bool) → (x.id.0 == id.0) ≡ c → cond c (Some x) (item_of xs id) ≡ Some i → (item_of xs id ≡ Some i → (j : Item) × (item_of (changed key marked xs) id ≡ Some j) × AsBefore i j)
      → (j : Item) × (item_of (cond b (marked x) x ∷ changed key marked xs) id ≡ Some j) × AsBefore i j
  two b true q z rest = (cond b (marked x) x, first b q, like b (only x i z))
  two b false q z rest = let r = rest z in (r.0, past b q ∙ r.1, r.2)

under_kept : (d : ℕ) (items later : List Item) (i j : Item) → Keeps items later → AsBefore i j → IsUnder d items i → IsUnder d later j
under_kept zero items later i j k a u = ap (λ (v : ItemId). v.0) a.id ∙ u
under_kept (suc d) items later i j k a u =
    let p = some_of (item_of items i.parent) (λ (p : Item). (p.directory ≡ true) × IsUnder d items p) u.1 in
    let q = k i.parent p.0 p.1 in
    let there : item_of later j.parent ≡ Some q.0 = ap (λ (v : ItemId). item_of later v) a.parent ∙ q.1 in
    (ap (λ (v : ItemId). eqb v.0 1) a.id ∙ u.0, subst (λ (o : Option Item). MatchOption o ⊥ (λ (r : Item). (r.directory ≡ true) × IsUnder d later r)) (sym there) (q.2.directory ∙ p.2.0, under_kept d items later p.0 q.0 k q.2 p.2.1))

-- names that are free

abbrev AreFree : ItemId → List NewItem → List Item → Type 0
AreFree dir list items = Every (λ e. child_of items dir e.name ≡ None) list

free_made : (dir : ItemId) (new : Item) (es : List NewItem) (items : List Item) → list_any (λ f. same new.name f.name) es ≡ false → AreFree dir es items → AreFree dir es (items ++ new ∷ [])
free_made dir new [] items d h = record {}
free_made dir new (f ∷ fs) items d h =
    let p = or_parts (same new.name f.name) (list_any (λ (g : NewItem). same new.name g.name) fs) d in
    (find_past (is_child_named dir f.name) items (new ∷ []) h.0 ∙ ap (λ (b : Bool). cond ((new.parent.0 == dir.0) && b) (Some new) None) p.0 ∙ off (new.parent.0 == dir.0), free_made dir new fs items p.1 h.1)
  where
    off : (b : Bool) → cond (b && false) (Some new) None ≡ None
    off true = refl
    off false = refl

none_marked : (key dir : ItemId) (name : List ℕ) (items : List Item) → child_of items dir name ≡ None → child_of (changed key marked items) dir name ≡ None
none_marked key dir name [] e = e
none_marked key dir name (x ∷ xs) e = two (x.id.0 == key.0) (is_child_named dir name x) refl e (none_marked key dir name xs) where
  past : (b : Bool) → is_child_named dir name x ≡ false → child_of (cond b (marked x) x ∷ changed key marked xs) dir name ≡ child_of (changed key marked xs) dir name
  past true q = ap (λ (d : Bool). cond d (Some (marked x)) (child_of (changed key marked xs) dir name)) q
  past false q = ap (λ (d : Bool). cond d (Some x) (child_of (changed key marked xs) dir name)) q

  two : (b c : Bool) → is_child_named dir name x ≡ c → cond c (Some x) (child_of xs dir name) ≡ None → (child_of xs dir name ≡ None → child_of (changed key marked xs) dir name ≡ None)
      → child_of (cond b (marked x) x ∷ changed key marked xs) dir name ≡ None
  two b true q z rest = let y : ◌≡◌ {A = Option Item} (Some x) None = z in absurd cc
  two b false q z rest = past b q ∙ rest z

free_marked : (key dir : ItemId) (es : List NewItem) (items : List Item) → AreFree dir es items → AreFree dir es (changed key marked items)
free_marked key dir [] items h = record {}
free_marked key dir (f ∷ fs) items h = (none_marked key dir f.name items h.0, free_marked key dir fs items h.1)

-- a directory whose entries come

rises_more : (low : ℕ) (xs : List Item) (new : Item) → RiseFrom low xs → Every (λ i. i.id.0 < new.id.0) xs → low ≤ new.id.0 → RiseFrom low (xs ++ new ∷ [])
rises_more low [] new r h le = (le, record {})
rises_more low (x ∷ xs) new r h le = (r.0, rises_more (x.id.0 + 1) xs new r.1 h.1 (omega (arith, h.0)))

rises_marked : (low : ℕ) (key : ItemId) (xs : List Item) → RiseFrom low xs → RiseFrom low (changed key marked xs)
rises_marked low key [] r = record {}
rises_marked low key (x ∷ xs) r = two (x.id.0 == key.0) (rises_marked (x.id.0 + 1) key xs r.1) where
  two : (b : Bool) → RiseFrom (x.id.0 + 1) (changed key marked xs) → RiseFrom low (cond b (marked x) x ∷ changed key marked xs)
  two true h = (r.0, h)
  two false h = (r.0, h)

below_marked : (key : ItemId) (n : ℕ) (xs : List Item) → Every (λ i. i.id.0 < n) xs → Every (λ i. i.id.0 < n) (changed key marked xs)
below_marked key n [] h = record {}
below_marked key n (x ∷ xs) h = (two (x.id.0 == key.0), below_marked key n xs h.1) where
  two : (b : Bool) → (cond b (marked x) x).id.0 < n
  two true = h.0
  two false = h.0

below_next : (k : ℕ) (xs : List Item) → Every (λ i. i.id.0 < k) xs → Every (λ i. i.id.0 < k + 1) xs
below_next k [] h = record {}
below_next k (x ∷ xs) h = (omega (arith, h.0), below_next k xs h.1)

pub record CanList (dir : ItemId) (k depth : ℕ) (v : Volume) : Type 0 where
  pub above : Item
  pub there : item_of v.items dir ≡ Some above
  pub directory : above.directory ≡ true
  pub under : IsUnder depth v.items above
  pub order : RiseFrom 1 v.items
  pub below : Every (λ i. i.id.0 < k) v.items
  pub past : 2 ≤ k
  pub next : v.next_item ≡ record { 0 = k }

next_is : (a b : ItemId) (n m : ℕ) → a ≡ record { 0 = n } → max n m ≡ b.0 → ◌≡◌ {A = ItemId} (record { 0 = max a.0 m }) b
next_is a b n m e q = λ j. record { 0 = (ap (λ (c : ItemId). max c.0 m) e ∙ q) j }

after_make : (dir : ItemId) (k depth : ℕ) (name : List ℕ) (what : Kind) (size : ℕ) (identity : List ℕ) (v : Volume) → CanList dir k depth v → CanList dir (k + 1) depth (put_change (change.Make (record { 0 = k }) dir name what size identity) v)
after_make dir k depth name what size identity v h =
    let new : Item = made (record { 0 = k }) dir name what size identity (pin_of v.items dir) (next_number v) in
    let most : max k (k + 1) ≡ k + 1 = omega arith in
    record {
      above = h.above;
      there = find_before (λ (i : Item). i.id.0 == dir.0) v.items (new ∷ []) h.above h.there;
      directory = h.directory;
      under = under_kept depth v.items (v.items ++ new ∷ []) h.above h.above (keeps_more v.items (new ∷ [])) (own_place h.above) h.under;
      order = rises_more 1 v.items new h.order h.below (omega (arith, h.past));
      below = every_both (λ (i : Item). i.id.0 < k + 1) v.items (new ∷ []) (below_next k v.items h.below) (omega arith, record {});
      past = omega (arith, h.past);
      next = next_is v.next_item (record { 0 = k + 1 }) k (k + 1) h.next most;
    }

after_mark : (dir : ItemId) (k depth : ℕ) (item : ItemId) (n : Usn) (v : Volume) → CanList dir k depth v → CanList dir k depth (put_change (change.Mark item n) v)
after_mark dir k depth item n v h =
    let q = keeps_marked item v.items dir h.above h.there in
    let most : max k 2 ≡ k = omega (arith, h.past) in
    record {
      above = q.0;
      there = q.1;
      directory = q.2.directory ∙ h.directory;
      under = under_kept depth v.items (changed item marked v.items) h.above q.0 (keeps_marked item v.items) q.2 h.under;
      order = rises_marked 1 item v.items h.order;
      below = below_marked item k v.items h.below;
      past = h.past;
      next = next_is v.next_item (record { 0 = k }) k 2 h.next most;
    }

-- the changes

pub record IsGoodEntry (e : NewItem) : Type 0 where
  pub named : is_name e.name ≡ true
  pub short : length e.identity ≤ 4096
  pub small : cond e.dir 0 e.size ≤ 16777216

entry_needs : (p : Policy) (dir : Bool) (identity : List ℕ) → MadeNeeds (entry_kind p dir) identity
entry_needs p true identity = dir_needs p identity
entry_needs p false identity = record {}

entry_placeholder : (p : Policy) (dir : Bool) → is_placeholder (entry_kind p dir) ≡ true
entry_placeholder p true = dir_placeholder p
entry_placeholder p false = refl

abbrev make_of : Policy → ItemId → ℕ → NewItem → Change
make_of p dir k e = change.Make (record { 0 = k }) dir e.name (entry_kind p e.dir) (cond e.dir 0 e.size) e.identity

abbrev made_of : Policy → ItemId → ℕ → NewItem → Volume → Item
made_of p dir k e v = made (record { 0 = k }) dir e.name (entry_kind p e.dir) (cond e.dir 0 e.size) e.identity (pin_of v.items dir) (next_number v)

-- the mark of an entry, and the rest
marks_are : (p : Policy) (dir : ItemId) (k depth : ℕ) (n : Usn) (e : NewItem) (es : List NewItem) (v : Volume) (mark : Bool) → CanList dir k depth v → AreFree dir es (v.items ++ made_of p dir k e v ∷ [])
    → ((m : Usn) (w : Volume) → CanList dir (k + 1) depth w → AreFree dir es w.items → AreEntries dir (listed_changes p dir (k + 1) m es) w)
    → AreEntries dir (when mark (change.Mark (record { 0 = k }) n ∷ []) ++ listed_changes p dir (k + 1) (number_past mark n) es) (put_change (make_of p dir k e) v)
marks_are p dir k depth n e es v false c f rest = rest (number_past false n) (put_change (make_of p dir k e) v) (after_make dir k depth e.name (entry_kind p e.dir) (cond e.dir 0 e.size) e.identity v c) f
marks_are p dir k depth n e es v true c f rest = (
  record {
    fits = λ a b small q. record {};
    needs = each_new (λ (i : Item). i.placeholder ≡ true) (record { 0 = k }) v.items (made_of p dir k e v) c.below (entry_placeholder p e.dir);
    lists = record {};
    lasts = record {};
  },
  rest (number_past true n) (put_change (change.Mark (record { 0 = k }) n) (put_change (make_of p dir k e) v))
      (after_mark dir (k + 1) depth (record { 0 = k }) n (put_change (make_of p dir k e) v) (after_make dir k depth e.name (entry_kind p e.dir) (cond e.dir 0 e.size) e.identity v c))
      (free_marked (record { 0 = k }) dir es (v.items ++ made_of p dir k e v ∷ []) f),
)

pub entries_are : (p : Policy) (dir : ItemId) (k depth : ℕ) (n : Usn) (list : List NewItem) (v : Volume) → CanList dir k depth v
    → (is_empty list ≡ false → depth < 32) → AreFree dir list v.items → Every IsGoodEntry list → is_twice list ≡ false → AreEntries dir (listed_changes p dir k n list) v
entries_are p dir k depth n [] v c d f g t =
    (record { fits = λ a b small q. record {}; needs = each_at 1 (λ (i : Item). i.directory ≡ true) dir v.items c.above c.order c.there c.directory; lists = refl; lasts = record {} }, record {})
entries_are p dir k depth n (e ∷ es) v c d f g t =
    let twice = or_parts (list_any (λ (h : NewItem). same e.name h.name) es) (is_twice es) t in
    let few : depth < 32 = d refl in
    let free : AreFree dir es (v.items ++ made_of p dir k e v ∷ []) = free_made dir (made_of p dir k e v) es v.items twice.0 f.1 in (
      record {
        fits = (name_short e.name g.0.named, omega (arith, g.0.short), g.0.small);
        needs = entry_needs p e.dir e.identity;
        lists = (sym c.next, refl, (g.0.named, subst (λ (o : Option Item). MatchOption o ⊥ (λ (i : Item). i.directory ≡ true)) (sym c.there) c.directory, omega (arith, few, depth_is v.items dir c.above depth c.there c.under), f.0));
        lasts = g.0.short;
      },
      marks_are p dir k depth n e es v e.mark c free (λ m w cw fw. entries_are p dir (k + 1) depth m es w cw (λ z. few) fw g.1 twice.1),
    )

pub ends_in : (p : Policy) (dir : ItemId) (k : ℕ) (n : Usn) (list : List NewItem) → (before : List Change) × (listed_changes p dir k n list ≡ before ++ change.Populated dir ∷ [])
ends_in p dir k n [] = ([], refl)
ends_in p dir k n (e ∷ es) =
    let r = ends_in p dir (k + 1) (number_past e.mark n) es in
    let make : Change = change.Make (record { 0 = k }) dir e.name (entry_kind p e.dir) (cond e.dir 0 e.size) e.identity in
    let mark : List Change = when e.mark (change.Mark (record { 0 = k }) n ∷ []) in
    (make ∷ mark ++ r.0, ap (λ (l : List Change). make ∷ mark ++ l) r.1 ∙ ap (λ (l : List Change). make ∷ l) (sym (append_assoc mark r.0 (change.Populated dir ∷ []))))

-- at the beginning

no_child : (items : List Item) (dir : ItemId) (name : List ℕ) (above : Item) → IsTree items → AreOpen items → item_of items dir ≡ Some above → above.populated ≡ false → child_of items dir name ≡ None
no_child items dir name above t o at shut = one (child_of items dir name) refl where
  one : (c : Option Item) → child_of items dir name ≡ c → c ≡ None
  one None e = refl
  one (Some c) e =
      let p = and_parts (c.parent.0 == dir.0) (same c.name name) (found_passes (is_child_named dir name) items c e) in
      let same_dir : c.parent ≡ dir = λ j. record { 0 = eqb-true c.parent.0 dir.0 p.0 j } in
      let listed : above.populated ≡ true = o c.id c above (by_own_id 1 (is_child_named dir name) items c t.order e) (ap (λ (v : ItemId). item_of items v) same_dir ∙ at) in
      let z : true ≡ false = sym listed ∙ shut in absurd cc

pub all_free : (items : List Item) (dir : ItemId) (above : Item) (list : List NewItem) → IsTree items → AreOpen items → item_of items dir ≡ Some above → above.populated ≡ false → AreFree dir list items
all_free items dir above [] t o at shut = record {}
all_free items dir above (e ∷ es) t o at shut = (no_child items dir e.name above t o at shut, all_free items dir above es t o at shut)
