-- Where the item stands that was marked or made last, and what one more change leaves of it.
use Rattle.std.proofs.Common.{◌≡◌, ◌⊎◌, ℕ, true, false, List, [], ◌∷◌, ◌++◌, refl, sym, ◌∙◌, ap, subst, inl, inr, arith, max}
use Rattle.std.specs.Prelude.{Bool, Option, Some, None, cond, find, not, ◌<◌, ◌==◌, ◌&&◌}
use Rattle.std.proofs.lemmas.Bool.{eqb-true}
use Rattle.cf_base.specs.declared.changes.Change.{Change}
use Rattle.cf_base.specs.declared.changes.Change.TheVariants as change
use Rattle.cf_base.specs.declared.ids.ItemId.{ItemId}
use Rattle.cf_base.specs.declared.ids.Rid.{Rid}
use Rattle.cf_base.specs.declared.ids.Usn.{Usn}
use Rattle.cf_base.specs.declared.items.Kind.{Kind}
use Rattle.cf_base.specs.declared.items.SeenPath.{SeenPath}
use Rattle.cf_model.specs.Books.{Book, MoveItem, QueueEntry, book_after, seen_of}
use Rattle.cf_model.specs.Changes.{next_number}
use Rattle.cf_model.specs.Effects.{changed, effect, marked}
use Rattle.cf_model.specs.Identities.{parent_target, stands_at_path, stands_at_seen}
use Rattle.cf_model.specs.Items.{Item, item_of}
use Rattle.cf_model.specs.Logs.{next_by}
use Rattle.cf_model.specs.PushReplies.{entry_seen}
use Rattle.cf_model.specs.State.{Filter, Link, start}
use Rattle.cf_model.specs.Store.{Held}
use Rattle.cf_model.specs.Words.{same as same_text, says}
use Rattle.cf_model_laws.specs.Fitting.{Fits, IsNaming, NoMove}
use Rattle.cf_model_laws.specs.Invariant.{All, IsEntryOf, IsSound}
use Rattle.cf_model_laws.specs.Marks.{IsMadeLast, IsMarkedLast, IsUnseen, StandsAtSeen}
use Rattle.cf_model_laws.proofs.Gathered.{all_filter, all_weaker}
use Rattle.cf_model_laws.proofs.FoundItems.{target_stays}
use Rattle.cf_model_laws.proofs.Guarded.{AreSeenBelow, IsNamedLast, KeepsSeenBy, StandsAtPath, StandsStill}
use Rattle.cf_model_laws.proofs.SeenPaths.{made_by, marked_by}
use Rattle.cf_model_laws.proofs.SoundChanges.{KeepsEntries, same_entries}

-- each Move of the item that is on its way is to where the item stands
abbrev pub MovesAt : List Item → List QueueEntry → ItemId → Type 0
MovesAt items es item = All (λ e. e.action ≡ MoveItem → e.item.0 ≡ item.0 → StandsAtPath items item (entry_seen e)) es

-- Where the last change is a Mark or a Make, its item stands at the path seen, or none was seen yet. Paths are seen of items that
-- were made alone.
pub record IsPlaced (log : List (Usn × Change)) (items : List Item) (next : ℕ) (b : Book) : Type 0 where
  pub marked : (front : List (Usn × Change)) (item : ItemId) → IsMarkedLast log front item → MovesAt items b.entries item × (StandsAtSeen items b item ⊎ (IsMadeLast front item × IsUnseen b item))
  pub made : (item : ItemId) → IsMadeLast log item → MovesAt items b.entries item × (StandsAtSeen items b item ⊎ IsUnseen b item)
  pub below : AreSeenBelow next b

-- with another book
pub rebooked : (log : List (Usn × Change)) (items : List Item) (next : ℕ) (b d : Book) → ((item : ItemId) → IsNamedLast log item → MovesAt items b.entries item → MovesAt items d.entries item × StandsStill items b d item) → (AreSeenBelow next b → AreSeenBelow next d)
    → IsPlaced log items next b → IsPlaced log items next d
rebooked log items next b d each below h = record {
  marked = λ front item m. let k = h.marked front item m in let g = each item (inl (front, m)) k.0 in (g.0, one front item g.1 k.1);
  made = λ item m. let k = h.made item m in let g = each item (inr m) k.0 in (g.0, elim k.1 as (λ _. StandsAtSeen items d item ⊎ IsUnseen d item) [ inl j ↦ inl (g.1.0 j) | inr j ↦ g.1.1 j ]);
  below = below h.below;
}
  where
    one : (front : List (Usn × Change)) (item : ItemId) → StandsStill items b d item → StandsAtSeen items b item ⊎ (IsMadeLast front item × IsUnseen b item) → StandsAtSeen items d item ⊎ (IsMadeLast front item × IsUnseen d item)
    one front item still (inl k) = inl (still.0 k)
    one front item still (inr k) = elim (still.1 k.1) as (λ _. StandsAtSeen items d item ⊎ (IsMadeLast front item × IsUnseen d item)) [ inl j ↦ inl j | inr j ↦ inr (k.0, j) ]

-- a Mark leaves where its item stands

found_marked : (item : ItemId) (items : List Item) (i : Item) → item_of items item ≡ Some i → item_of (changed item marked items) item ≡ Some (marked i)
found_marked item [] i e = cc
found_marked item (j ∷ js) i e = by (j.id.0 == item.0) refl e (found_marked item js i) where
  by : (b : Bool) → (j.id.0 == item.0) ≡ b → cond b (Some j) (item_of js item) ≡ Some i → (item_of js item ≡ Some i → item_of (changed item marked js) item ≡ Some (marked i)) → item_of (cond b (marked j) j ∷ changed item marked js) item ≡ Some (marked i)
  by true q e g = let z : j ≡ i = cc in rw q (ap (λ (k : Item). Some (marked k)) z)
  by false q e g = rw q (g e)

seen_stays : (items now : List Item) (b d : Book) (i : Item) → parent_target now i ≡ parent_target items i → d.seen ≡ b.seen → stands_at_seen items b i ≡ true → stands_at_seen now d i ≡ true
seen_stays items now b d i e seen h =
    subst (λ (ps : List SeenPath). says (stands_at_path now i) (seen_of (record d { seen = ps }) i.id) ≡ true) (sym seen)
    (by (seen_of b i.id) h) where
      by : (o : Option SeenPath) → says (stands_at_path items i) o ≡ true → says (stands_at_path now i) o ≡ true
      by None k = k
      by (Some p) k = subst (λ (r : Rid). ((r.0 == p.parent.0) && same_text i.name p.name) ≡ true) (sym e) k

mark_stays : (items : List Item) (b d : Book) (item : ItemId) → d.seen ≡ b.seen → StandsAtSeen items b item → StandsAtSeen (changed item marked items) d item
mark_stays items b d item seen h = (marked h.0, found_marked item items h.0 h.1, seen_stays items (changed item marked items) b d (marked h.0) (target_stays marked (λ i. refl) (λ i. refl) item h.0.parent items) seen h.2)

moves_marked : (item : ItemId) (items : List Item) (es : List QueueEntry) → MovesAt items es item → MovesAt (changed item marked items) es item
moves_marked item items es h =
    all_weaker (λ e. e.action ≡ MoveItem → e.item.0 ≡ item.0 → StandsAtPath items item (entry_seen e)) (λ e. e.action ≡ MoveItem → e.item.0 ≡ item.0 → StandsAtPath (changed item marked items) item (entry_seen e))
    (λ e k is same. let p = k is same in (
      marked p.0,
      found_marked item items p.0 p.1,
      subst (λ (r : Rid). ((r.0 == e.parent.0) && same_text p.0.name e.name) ≡ true) (sym (target_stays marked (λ i. refl) (λ i. refl) item p.0.parent items)) p.2,
    )) es h

no_moves : (items : List Item) (es : List QueueEntry) (item : ItemId) → NoMove es item → MovesAt items es item
no_moves items es item h = all_weaker (λ e. e.action ≡ MoveItem → e.item.0 ≡ item.0 → ⊥) (λ e. e.action ≡ MoveItem → e.item.0 ≡ item.0 → StandsAtPath items item (entry_seen e)) (λ e k is same. absurd (k is same)) es h

unseen_same : (b d : Book) (item : ItemId) → d.seen ≡ b.seen → IsUnseen b item → IsUnseen d item
unseen_same b d item e h = subst (λ (ps : List SeenPath). seen_of (record d { seen = ps }) item ≡ None) (sym e) h

-- an item that was not made yet has no path seen
unseen_new : (n : ℕ) (item : ItemId) (ps : List SeenPath) → item.0 ≡ n → All (λ p. p.item.0 < n) ps → find (λ p. p.item.0 == item.0) ps ≡ None
unseen_new n item [] e h = refl
unseen_new n item (p ∷ ps) e h = by (p.item.0 == item.0) refl (unseen_new n item ps e h.1) where
  less : (a b c : ℕ) → a < b → c ≡ b → a ≡ c → ⊥
  less a b c h e q = omega (arith, h, e, q)

  by : (c : Bool) → (p.item.0 == item.0) ≡ c → find (λ q. q.item.0 == item.0) ps ≡ None → cond c (Some p) (find (λ q. q.item.0 == item.0) ps) ≡ None
  by true q k = absurd (less p.item.0 n item.0 h.0 e (eqb-true p.item.0 item.0 q))
  by false q k = k

seen_after : (c : Change) (b : Book) (P : SeenPath → Type 0) → All P b.seen → All P (book_after c b).seen
seen_after (change.Remove item) b P h = all_filter P (λ p. not (p.item.0 == item.0)) b.seen h
seen_after (change.Make item parent name kind size identity) b P h = h
seen_after (change.Move item parent name) b P h = h
seen_after (change.Write item at bytes) b P h = h
seen_after (change.Size item size) b P h = h
seen_after (change.Filled item start bytes) b P h = h
seen_after (change.Validated item start len) b P h = h
seen_after (change.Emptied item start len) b P h = h
seen_after (change.SetPin item pin) b P h = h
seen_after (change.Mark item number) b P h = h
seen_after (change.Clear item) b P h = h
seen_after (change.Convert item identity) b P h = h
seen_after (change.Revert item) b P h = h
seen_after (change.Rebase item identity len number) b P h = h
seen_after (change.Take item identity size) b P h = h
seen_after (change.Copy item from parent name) b P h = h
seen_after (change.Populated item) b P h = h
seen_after (change.Keep item on) b P h = h

below_after : (c : Change) (next : ℕ) (b : Book) → AreSeenBelow next b → AreSeenBelow (max next (next_by c)) (book_after c b)
below_after c next b h = seen_after c b (λ p. p.item.0 < max next (next_by c)) (all_weaker (λ p. p.item.0 < next) (λ p. p.item.0 < max next (next_by c)) (λ p k. more p.item.0 next (next_by c) k) b.seen h) where
  more : (a n m : ℕ) → a < n → a < max n m
  more a n m h = omega (arith, h)

-- a change

mark_placed : (r : Held) (f : Book → Book) (item : ItemId) (number : Usn) (x : Filter) (front : List (Usn × Change)) → KeepsEntries f → ((b : Book) → (f b).seen ≡ b.seen) → x.volume.log ≡ front → Fits r x (change.Mark item number)
    → IsPlaced x.volume.log x.volume.items x.volume.next_item.0 x.volume.book
    → MovesAt (changed item marked x.volume.items) (f x.volume.book).entries item × (StandsAtSeen (changed item marked x.volume.items) (f x.volume.book) item ⊎ (IsMadeLast front item × IsUnseen (f x.volume.book) item))
mark_placed r f item number x front keeps seen same fit h = by fit.1 where
  now : List Item
  now = changed item marked x.volume.items

  moves : MovesAt now x.volume.book.entries item → MovesAt now (f x.volume.book).entries item
  moves k = subst (λ (es : List QueueEntry). MovesAt now es item) (sym (keeps x.volume.book)) k

  stands : StandsAtSeen x.volume.items x.volume.book item → StandsAtSeen now (f x.volume.book) item
  stands k = mark_stays x.volume.items x.volume.book (f x.volume.book) item (seen x.volume.book) k

  by : (StandsAtSeen x.volume.items x.volume.book item × NoMove x.volume.book.entries item) ⊎ IsMadeLast x.volume.log item
      → MovesAt now (f x.volume.book).entries item × (StandsAtSeen now (f x.volume.book) item ⊎ (IsMadeLast front item × IsUnseen (f x.volume.book) item))
  by (inl k) = (moves (no_moves now x.volume.book.entries item k.1), inl (stands k.0))
  by (inr m) =
      let k = h.made item m in (
        moves (moves_marked item x.volume.items x.volume.book.entries k.0),
        elim k.1 as (λ _. StandsAtSeen now (f x.volume.book) item ⊎ (IsMadeLast front item × IsUnseen (f x.volume.book) item))
            [ inl j ↦ inl (stands j) | inr j ↦ inr (subst (λ (log : List (Usn × Change)). IsMadeLast log item) same m, unseen_same x.volume.book (f x.volume.book) item (seen x.volume.book) j) ],
      )

-- an item that was just made: no upload of it is on its way, and no path of it is seen
make_placed : (l : Link) (tokens : ℕ) (f : Book → Book) (c : Change) (x : Filter) → KeepsEntries f → ((b : Book) → (f b).seen ≡ b.seen) → IsSound l tokens x → (item : ItemId) → item.0 ≡ x.volume.next_item.0 → AreSeenBelow x.volume.next_item.0 x.volume.book → (book_after c x.volume.book).seen ≡ x.volume.book.seen
    → MovesAt (effect x.volume.items c (next_number x.volume)) (f (book_after c x.volume.book)).entries item × IsUnseen (f (book_after c x.volume.book)) item
make_placed l tokens f c x keeps seen sound item is below after = (
  subst (λ (es : List QueueEntry). MovesAt (effect x.volume.items c (next_number x.volume)) es item) (sym (keeps (book_after c x.volume.book) ∙ same_entries c x.volume.book))
      (no_moves (effect x.volume.items c (next_number x.volume)) x.volume.book.entries item
      (all_weaker (IsEntryOf (next_number x.volume) x.volume.next_item.0 x.volume.epoch tokens) (λ e. e.action ≡ MoveItem → e.item.0 ≡ item.0 → ⊥) (λ e k _ same. less e.item.0 x.volume.next_item.0 item.0 k.item is same) x.volume.book.entries sound.now.given)),
  unseen_same x.volume.book (f (book_after c x.volume.book)) item (seen (book_after c x.volume.book) ∙ after) (unseen_new x.volume.next_item.0 item x.volume.book.seen is below),
)
  where
    less : (a b c : ℕ) → a < b → c ≡ b → a ≡ c → ⊥
    less a b c h e q = omega (arith, h, e, q)

abbrev pub IsPlacedAfter : (Book → Book) → Change → Filter → Type 0
IsPlacedAfter f c x = IsPlaced (x.volume.log ++ (next_number x.volume, c) ∷ []) (effect x.volume.items c (next_number x.volume)) (max x.volume.next_item.0 (next_by c)) (f (book_after c x.volume.book))

pub placed_after : (l : Link) (tokens : ℕ) (f : Book → Book) (c : Change) (x : Filter) → KeepsEntries f → KeepsSeenBy f c x → IsSound l tokens x → Fits l.remote x c → IsPlaced x.volume.log x.volume.items x.volume.next_item.0 x.volume.book → IsPlacedAfter f c x
placed_after l tokens f c x keeps seen sound fit h = record {
  marked = λ front item m.
      let k = marked_by x.volume.log front (next_number x.volume) c item m in
      subst (λ (d : Change). MovesAt (effect x.volume.items d (next_number x.volume)) (f (book_after d x.volume.book)).entries item × (StandsAtSeen (effect x.volume.items d (next_number x.volume)) (f (book_after d x.volume.book)) item ⊎ (IsMadeLast front item × IsUnseen (f (book_after d x.volume.book)) item))) (sym k.1)
      (mark_placed l.remote f item k.0 x front keeps (seen.0 (subst IsNaming (sym k.1) tt)) k.2 (subst (Fits l.remote x) k.1 fit) h);
  made = λ item m. new item (made_by x.volume.log (next_number x.volume) c item m);
  below = seen.1 (below_after c x.volume.next_item.0 x.volume.book h.below);
}
  where
    new : (item : ItemId) {parent : ItemId} {name : List ℕ} {kind : Kind} {size : ℕ} {identity : List ℕ} → c ≡ change.Make item parent name kind size identity
        → MovesAt (effect x.volume.items c (next_number x.volume)) (f (book_after c x.volume.book)).entries item × (StandsAtSeen (effect x.volume.items c (next_number x.volume)) (f (book_after c x.volume.book)) item ⊎ IsUnseen (f (book_after c x.volume.book)) item)
    new item e =
        let k = make_placed l tokens f c x keeps (seen.0 (subst IsNaming (sym e) tt)) sound item (subst (Fits l.remote x) e fit).0.0 h.below (ap (λ (d : Change). (book_after d x.volume.book).seen) e) in (k.0, inr k.1)

-- after another change neither a Mark nor a Make is the last
pub other_placed : (f : Book → Book) (c : Change) (x : Filter) → (IsNaming c → ⊥) → ((b : Book) → (f b).seen ≡ b.seen) → AreSeenBelow x.volume.next_item.0 x.volume.book → IsPlacedAfter f c x
other_placed f c x other seen below = record {
  marked = λ front item m. absurd (other (subst IsNaming (sym (marked_by x.volume.log front (next_number x.volume) c item m).1) tt));
  made = λ item m. absurd (other (subst IsNaming (sym (made_by x.volume.log (next_number x.volume) c item m)) tt));
  below = subst (All (λ p. p.item.0 < max x.volume.next_item.0 (next_by c))) (sym (seen (book_after c x.volume.book))) (below_after c x.volume.next_item.0 x.volume.book below);
}
