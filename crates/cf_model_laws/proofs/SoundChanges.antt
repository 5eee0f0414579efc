-- A change that fits keeps the whole sound, but for what the file that it touches lacks.
use Rattle.std.proofs.Common.{◌≡◌, ◌⊎◌, ◌<◌, ◌≤◌, ◌+◌, ℕ, true, List, [], ◌∷◌, ◌++◌, refl, sym, ◌∙◌, ap, subst, inl, inr, arith, length, take, max}
use Rattle.std.specs.Prelude.{Option}
use Rattle.std.proofs.lemmas.Bool.Decides.{nat_tests}
use Rattle.std.proofs.lemmas.List.{length-append, take-append-le}
use Rattle.cf_base.specs.declared.changes.Change.{Change}
use Rattle.cf_base.specs.declared.changes.Change.TheVariants as change
use Rattle.cf_base.specs.declared.ids.ItemId.{ItemId}
use Rattle.cf_base.specs.declared.ids.Usn.{Usn}
use Rattle.cf_base.specs.declared.notices.Frame.{Frame}
use Rattle.cf_model.specs.Books.{Book, QueueEntry, book_after}
use Rattle.cf_model.specs.Changes.{next_number, put_with_book}
use Rattle.cf_model.specs.Effects.{effect}
use Rattle.cf_model.specs.Items.{Item, root}
use Rattle.cf_model.specs.Logs.{after_changes, items_of, next_by, next_of}
use Rattle.cf_model.specs.Numbers.{above, no_usn, usn_after}
use Rattle.cf_model.specs.State.{Filter, Link, Point, Volume, with_volume}
use Rattle.cf_model.specs.Store.{Held}
use Rattle.cf_model_laws.specs.Fitting.{Aims, Meets, Touches}
use Rattle.cf_model_laws.specs.Invariant.{IsDurable, IsEntryOf, IsPointRight, IsRight, IsSound, IsSoundBut, Lacks}
use Rattle.cf_model_laws.proofs.FitAsks.{effect_lack, effect_lives}
use Rattle.cf_model_laws.proofs.FitContents.{effect_contents}
use Rattle.cf_model_laws.proofs.FitEntries.{effect_entries}
use Rattle.cf_model_laws.proofs.FitItems.{effect_order, effect_right}
use Rattle.cf_model_laws.proofs.Gathered.{all_weaker}
use Rattle.cf_model_laws.proofs.OnceLaws.{later}
use Rattle.cf_model_laws.proofs.RightItems.{above_then, stays_right}
use Rattle.cf_model_laws.proofs.AimedTargets.{targets_effect}
use Rattle.cf_model_laws.proofs.MadeUploads.{made_effect}

-- numbers

pub next_above : (e p : ℕ) → above (usn_after e (p + 1)) (usn_after e p) ≡ true
next_above e p = grind (arith, nat_tests)

pub next_some : (e p : ℕ) → above (usn_after e p) no_usn ≡ true
next_some e p = grind (arith, nat_tests)

grows : (n m : ℕ) → n ≤ max n m
grows n m = omega arith

-- what is durable stays so under greater numbers

entry_later : (n after : Usn) (next more epoch tokens e t : ℕ) → above after n ≡ true → next ≤ more → (epoch < e) ⊎ ((e ≡ epoch) × (tokens ≤ t)) → (q : QueueEntry) → IsEntryOf n next epoch tokens q → IsEntryOf after more e t q
entry_later n after next more epoch tokens e t a m k q h = record {
  early = λ z. above_then after n q.number a (h.early z);
  token = later epoch e tokens t q.token.0 k h.token;
  own = h.own;
  item = let z : q.item.0 < next = h.item in omega (arith, m, z);
}

pub durable_later : (r : Held) (ms : List (Option Frame)) (n after : Usn) (next epoch tokens e t : ℕ) (items : List Item) (es : List QueueEntry) → above after n ≡ true → (epoch < e) ⊎ ((e ≡ epoch) × (tokens ≤ t))
    → IsDurable r ms epoch tokens n next items es → IsDurable r ms e t after next items es
durable_later r ms n after next epoch tokens e t items es a k h = record {
  contents = h.contents;
  right = all_weaker (IsRight r n) (IsRight r after) (λ i q. stays_right r n after i.id.0 i.directory i.placeholder i.identity i.in_sync i.number i.writes a q) items h.right;
  order = h.order;
  more = h.more;
  fit = h.fit;
  given = all_weaker (IsEntryOf n next epoch tokens) (IsEntryOf after next e t) (entry_later n after next next epoch tokens e t a (same next) k) es h.given;
  asked = h.asked;
  apart = h.apart;
  made = h.made;
  targets = h.targets;
}
  where
    same : (m : ℕ) → m ≤ m
    same m = omega arith

-- one more change

-- nor does the cursor
pub same_cursor : (c : Change) (b : Book) → (book_after c b).cursor ≡ b.cursor
same_cursor (change.Make item parent name kind size identity) b = refl
same_cursor (change.Remove item) b = refl
same_cursor (change.Move item parent name) b = refl
same_cursor (change.Write item at bytes) b = refl
same_cursor (change.Size item size) b = refl
same_cursor (change.Filled item start bytes) b = refl
same_cursor (change.Validated item start len) b = refl
same_cursor (change.Emptied item start len) b = refl
same_cursor (change.SetPin item pin) b = refl
same_cursor (change.Mark item number) b = refl
same_cursor (change.Clear item) b = refl
same_cursor (change.Convert item identity) b = refl
same_cursor (change.Revert item) b = refl
same_cursor (change.Rebase item identity len number) b = refl
same_cursor (change.Take item identity size) b = refl
same_cursor (change.Copy item from parent name) b = refl
same_cursor (change.Populated item) b = refl
same_cursor (change.Keep item on) b = refl

pub same_entries : (c : Change) (b : Book) → (book_after c b).entries ≡ b.entries
same_entries (change.Make item parent name kind size identity) b = refl
same_entries (change.Remove item) b = refl
same_entries (change.Move item parent name) b = refl
same_entries (change.Write item at bytes) b = refl
same_entries (change.Size item size) b = refl
same_entries (change.Filled item start bytes) b = refl
same_entries (change.Validated item start len) b = refl
same_entries (change.Emptied item start len) b = refl
same_entries (change.SetPin item pin) b = refl
same_entries (change.Mark item number) b = refl
same_entries (change.Clear item) b = refl
same_entries (change.Convert item identity) b = refl
same_entries (change.Revert item) b = refl
same_entries (change.Rebase item identity len at) b = refl
same_entries (change.Take item identity size) b = refl
same_entries (change.Copy item from parent name) b = refl
same_entries (change.Populated item) b = refl
same_entries (change.Keep item on) b = refl

durable_effect : (r : Held) (ms : List (Option Frame)) (x : Filter) (c : Change) (n after : Usn) (epoch tokens : ℕ) → above n no_usn ≡ true → above after n ≡ true → Meets r x c → Aims r x c
    → IsDurable r ms epoch tokens n x.volume.next_item.0 x.volume.items x.volume.book.entries → IsDurable r ms epoch tokens after (max x.volume.next_item.0 (next_by c)) (effect x.volume.items c n) x.volume.book.entries
durable_effect r ms x c n after epoch tokens some a fit aims h = record {
  contents = effect_contents r x c n fit h.right h.contents;
  right = effect_right r x c n after some a h.more fit h.right;
  order = effect_order r x c n h.more fit h.order;
  more = least (grows x.volume.next_item.0 (next_by c)) h.more;
  fit = effect_entries r ms x c n epoch tokens fit h.right h.given h.fit;
  given = all_weaker (IsEntryOf n x.volume.next_item.0 epoch tokens) (IsEntryOf after (max x.volume.next_item.0 (next_by c)) epoch tokens) (entry_later n after x.volume.next_item.0 (max x.volume.next_item.0 (next_by c)) epoch tokens epoch tokens a (grows x.volume.next_item.0 (next_by c)) (inr (refl, same tokens))) x.volume.book.entries h.given;
  asked = h.asked;
  apart = h.apart;
  made = made_effect r x c n fit aims h.made;
  targets = targets_effect r x c n epoch tokens fit aims h.given h.targets;
}
  where
    same : (m : ℕ) → m ≤ m
    same m = omega arith

    least : {n m : ℕ} → n ≤ m → 2 ≤ n → 2 ≤ m
    least {n} {m} h k = omega (arith, h, k)

point_more : (r : Held) (ms : List (Option Frame)) (epoch tokens : ℕ) (n after : Usn) (log : List (Usn × Change)) (c : Usn × Change) → above after n ≡ true → (p : Point)
    → IsPointRight r ms epoch tokens n log p → IsPointRight r ms epoch tokens after (log ++ c ∷ []) p
point_more r ms epoch tokens n after log c a p h =
    let front : take p.count (log ++ c ∷ []) ≡ take p.count log = take-append-le p.count log (c ∷ []) h.0 in (
      longer p.count (length log) (length (log ++ c ∷ [])) h.0 (length-append log (c ∷ [])),
      subst (λ (l : List (Usn × Change)). IsDurable r ms epoch tokens after (next_of l) (items_of l) p.book.entries) (sym front)
          (durable_later r ms n after (next_of (take p.count log)) epoch tokens epoch tokens (items_of (take p.count log)) p.book.entries a (inr (refl, same tokens)) h.1),
    )
  where
    same : (m : ℕ) → m ≤ m
    same m = omega arith

    longer : (k a b : ℕ) → k ≤ a → b ≡ a + 1 → k ≤ b
    longer k a b h e = omega (arith, h, e)

after_one_more : (items : List Item) (log : List (Usn × Change)) (n : Usn) (c : Change) → after_changes items (log ++ (n, c) ∷ []) ≡ effect (after_changes items log) c n
after_one_more items [] n c = refl
after_one_more items (d ∷ log) n c = after_one_more (effect items d.1 d.0) log n c

next_one_more : (log : List (Usn × Change)) (n : Usn) (c : Change) → next_of (log ++ (n, c) ∷ []) ≡ max (next_of log) (next_by c)
next_one_more [] n c = swaps (next_by c) 2 where
  swaps : (a b : ℕ) → max a b ≡ max b a
  swaps a b = omega arith
next_one_more (d ∷ log) n c = ap (λ (x : ℕ). max (next_by d.1) x) (next_one_more log n c) ∙ shifts (next_by d.1) (next_of log) (next_by c) where
  shifts : (a b c : ℕ) → max a (max b c) ≡ max (max a b) c
  shifts a b c = omega arith

abbrev pub KeepsEntries : (Book → Book) → Type 0
KeepsEntries f = (b : Book) → (f b).entries ≡ b.entries

pub change_sound : (l : Link) (tokens : ℕ) (x : Filter) (f : Book → Book) (c : Change) → KeepsEntries f → Meets l.remote x c → Aims l.remote x c → IsSound l tokens x → IsSoundBut (Touches c) l tokens (with_volume (put_with_book f c x.volume) x)
change_sound l tokens x f c keeps fit aims h =
    let v : Volume = x.volume in
    let a : above (usn_after v.epoch (v.place + 1)) (usn_after v.epoch v.place) ≡ true = next_above v.epoch v.place in
    let entries : (f (book_after c v.book)).entries ≡ v.book.entries = keeps (book_after c v.book) ∙ same_entries c v.book in
    record {
      counted = h.counted;
      recorded = h.recorded;
      messages = h.messages;
      old = h.old;
      of_log = (
        ap (λ (items : List Item). effect items c (next_number v)) h.of_log.0 ∙ sym (after_one_more (root ∷ []) v.log (next_number v) c),
        ap (λ (n : ℕ). max n (next_by c)) h.of_log.1 ∙ sym (next_one_more v.log (next_number v) c),
      );
      now = subst (λ (es : List QueueEntry). IsDurable l.remote l.messages v.epoch tokens (usn_after v.epoch (v.place + 1)) (max v.next_item.0 (next_by c)) (effect v.items c (next_number v)) es) (sym entries)
          (durable_effect l.remote l.messages x c (next_number v) (usn_after v.epoch (v.place + 1)) v.epoch tokens (next_some v.epoch v.place) a fit aims h.now);
      kept = all_weaker (IsPointRight l.remote l.messages v.epoch tokens (next_number v) v.log) (IsPointRight l.remote l.messages v.epoch tokens (usn_after v.epoch (v.place + 1)) (v.log ++ (next_number v, c) ∷ []))
          (point_more l.remote l.messages v.epoch tokens (next_number v) (usn_after v.epoch (v.place + 1)) v.log (next_number v, c) a) v.points h.kept;
      one_epoch = h.one_epoch;
      numbered = h.numbered;
      lives = effect_lives l.remote x c (next_number v) l.messages x.waiting.key_count v.epoch (max v.next_item.0 (next_by c)) x.outbox x.waiting.asks (grows v.next_item.0 (next_by c)) h.now.right fit h.lack h.lives;
      lack = effect_lack l.remote x c (next_number v) l.messages x.waiting.key_count v.epoch x.outbox x.waiting.asks fit h.lack h.lives;
      boxed = h.boxed;
      unvalidated = h.unvalidated;
    }

-- fewer files that are left out
pub sound_but : (P Q : ItemId → Type 0) → ((i : ItemId) → P i → Q i) → (l : Link) (tokens : ℕ) (x : Filter) → IsSoundBut P l tokens x → IsSoundBut Q l tokens x
sound_but P Q k l tokens x h = record {
  counted = h.counted;
  recorded = h.recorded;
  messages = h.messages;
  old = h.old;
  of_log = h.of_log;
  now = h.now;
  kept = h.kept;
  one_epoch = h.one_epoch;
  numbered = h.numbered;
  lives = h.lives;
  lack = all_weaker _ _ (λ a g e. weaker a.ask.item (g e)) x.waiting.asks h.lack;
  boxed = h.boxed;
  unvalidated = h.unvalidated;
}
  where
    weaker : (i : ItemId) → Lacks i x.volume.items ⊎ P i → Lacks i x.volume.items ⊎ Q i
    weaker i (inl g) = inl g
    weaker i (inr g) = inr (k i g)
