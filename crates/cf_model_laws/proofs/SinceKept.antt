-- What was told in an earlier state, for a property that says less.
use Rattle.std.proofs.Common.{◌≡◌, ◌⊎◌, ℕ, Bool, true, false, List, [], ◌∷◌, ◌+◌, refl, inl, inr}
use Rattle.cf_base.specs.declared.changes.Change.{Change}
use Rattle.cf_base.specs.declared.changes.Change.TheVariants as change
use Rattle.cf_base.specs.declared.messages.Entry.{Entry}
use Rattle.cf_model.specs.Books.{Book, QueueEntry}
use Rattle.cf_model.specs.Identities.{target_of}
use Rattle.cf_model.specs.Items.{Item}
use Rattle.cf_model.specs.State.{Filter, Link, State, book_now}
use Rattle.cf_model_laws.specs.Invariant.{target_in}
use Rattle.cf_model_laws.specs.Taken.{AreListedBy, IsChangeBy, IsNamedBy, Knowledge, Known, LosesBy, LosesOn, LosesTold, NamesTold, SeesBy, Since, Nothing}
use Rattle.cf_model_laws.proofs.Gathered.{each_weaker}
use Rattle.cf_model_laws.proofs.Guarded.{BuriesBy, GuardedFilter, IsMovedBy, IsRecordBy, IsTakenBy}
use Rattle.cf_model.specs.Changes.{same_book}

-- what more is known of

pub names_weaker : (On Un : Entry → Type 0) → ((e : Entry) → Un e → On e) → (identity : List ℕ) → NamesTold Un identity → NamesTold On identity
names_weaker On Un less identity (inl z) = inl z
names_weaker On Un less identity (inr z) = inr (z.0, less z.0 z.1, z.2)

pub named_weaker : (On Un New Old : Entry → Type 0) → ((e : Entry) → Un e → On e) → ((e : Entry) → Old e → New e) → (c : Change) → IsNamedBy Un Old c → IsNamedBy On New c
named_weaker On Un New Old less more (change.Make item parent name kind size identity) h = names_weaker New Old more identity h
named_weaker On Un New Old less more (change.Remove item) h = tt
named_weaker On Un New Old less more (change.Move item parent name) h = tt
named_weaker On Un New Old less more (change.Write item at bytes) h = tt
named_weaker On Un New Old less more (change.Size item size) h = tt
named_weaker On Un New Old less more (change.Filled item start bytes) h = tt
named_weaker On Un New Old less more (change.Validated item start len) h = tt
named_weaker On Un New Old less more (change.Emptied item start len) h = tt
named_weaker On Un New Old less more (change.SetPin item pin) h = tt
named_weaker On Un New Old less more (change.Mark item number) h = tt
named_weaker On Un New Old less more (change.Clear item) h = tt
named_weaker On Un New Old less more (change.Convert item identity) h = h
named_weaker On Un New Old less more (change.Revert item) h = tt
named_weaker On Un New Old less more (change.Rebase item identity len at) h = names_weaker On Un less identity h
named_weaker On Un New Old less more (change.Take item identity size) h = names_weaker On Un less identity h
named_weaker On Un New Old less more (change.Copy item from parent name) h = tt
named_weaker On Un New Old less more (change.Populated item) h = tt
named_weaker On Un New Old less more (change.Keep item on) h = tt

listed_weaker : (On Un : Entry → Type 0) → ((e : Entry) → Un e → On e) → (items : List Item) (id : ℕ) (es : List Entry) → AreListedBy Un items id es → AreListedBy On items id es
listed_weaker On Un less items id [] h = tt
listed_weaker On Un less items id (e ∷ es) h = (less e h.0, h.1, listed_weaker On Un less items (id + 1) es h.2)

sees_weaker : (On Un : Entry → Type 0) → ((e : Entry) → Un e → On e) → (items : List Item) (f : Book → Book) (c : Change) → SeesBy Un items f c → SeesBy On items f c
sees_weaker On Un less items f c (inl z) = inl z
sees_weaker On Un less items f c (inr z) = inr (z.0, z.1, z.2, listed_weaker On Un less items z.0 z.1 z.3, z.4, z.5)

pub loses_weaker : (On Un : Entry → Type 0) → ((e : Entry) → Un e → On e) → (items : List Item) (c : Change) → LosesOn Un items c → LosesOn On items c
loses_weaker On Un less items c h = by c h where
  told : (i : Item) → LosesTold Un i → LosesTold On i
  told i (inl z) = inl z
  told i (inr z) = inr (z.0, less z.0 z.1, z.2)

  either : (rid : ℕ) (i : Item) → ((target_of i).0 ≡ rid) ⊎ LosesTold Un i → ((target_of i).0 ≡ rid) ⊎ LosesTold On i
  either rid i (inl z) = inl z
  either rid i (inr z) = inr (told i z)

  by : (c : Change) → LosesOn Un items c → LosesOn On items c
  by (change.Make item parent name kind size identity) h = tt
  by (change.Remove item) h = each_weaker item (LosesTold Un) (LosesTold On) told items h
  by (change.Move item parent name) h = tt
  by (change.Write item at bytes) h = tt
  by (change.Size item size) h = tt
  by (change.Filled item start bytes) h = tt
  by (change.Validated item start len) h = tt
  by (change.Emptied item start len) h = tt
  by (change.SetPin item pin) h = tt
  by (change.Mark item number) h = tt
  by (change.Clear item) h = tt
  by (change.Convert item identity) h = tt
  by (change.Revert item) h = tt
  by (change.Rebase item identity len at) h = each_weaker item (λ i. ((target_of i).0 ≡ (target_in identity).0) ⊎ LosesTold Un i) (λ i. ((target_of i).0 ≡ (target_in identity).0) ⊎ LosesTold On i) (either (target_in identity).0) items h
  by (change.Take item identity size) h = h
  by (change.Copy item from parent name) h = tt
  by (change.Populated item) h = tt
  by (change.Keep item on) h = tt

-- what less knowledge tells, more does
pub record IsLess (Un On : Knowledge) : Type 0 where
  pub told : (late : Bool) (n : ℕ) (e : Entry) → Un.told late n e → On.told late n e
  pub done : (items : List Item) (c : Change) → Un.done items c → On.done items c
  pub shut : Un.shut → On.shut

pub change_weaker : (On Un : Knowledge) → IsLess Un On → (x : Filter) (f : Book → Book) (c : Change) → IsChangeBy Un x f c → IsChangeBy On x f c
change_weaker On Un less x f c h =
    let n : ℕ = x.volume.book.cursor in (named_weaker (On.told true n) (Un.told true n) (On.told false n) (Un.told false n) (less.told true n) (less.told false n) c h.0, sees_weaker (On.told false n) (Un.told false n) (less.told false n) x.volume.items f c h.1, by h.2, h.3) where
      by : LosesBy Un x.volume.book.cursor x.volume.items c → LosesBy On x.volume.book.cursor x.volume.items c
      by (inl z) = inl z
      by (inr (shut, inl z)) = inr (less.shut shut, inl (loses_weaker (On.told true x.volume.book.cursor) (Un.told true x.volume.book.cursor) (less.told true x.volume.book.cursor) x.volume.items c z))
      by (inr (shut, inr z)) = inr (less.shut shut, inr (less.done x.volume.items c z))

-- of what a change names and sees alone
pub change_told : (On : Bool → ℕ → Entry → Type 0) (Un : Knowledge) → ((late : Bool) (n : ℕ) (e : Entry) → Un.told late n e → On late n e) → (x : Filter) (f : Book → Book) (c : Change) → IsChangeBy Un x f c
    → IsNamedBy (On true x.volume.book.cursor) (On false x.volume.book.cursor) c × SeesBy (On false x.volume.book.cursor) x.volume.items f c
change_told On Un less x f c h =
    let n : ℕ = x.volume.book.cursor in (named_weaker (On true n) (Un.told true n) (On false n) (Un.told false n) (less true n) (less false n) c h.0, sees_weaker (On false n) (Un.told false n) (less false n) x.volume.items f c h.1)

pub unnamed_change : (On : Knowledge) (x : Filter) (c : Change) → IsNamedBy Nothing Nothing c → LosesOn Nothing x.volume.items c → IsChangeBy On x same_book c
unnamed_change On x c h lost = (named_weaker (On.told true x.volume.book.cursor) Nothing (On.told false x.volume.book.cursor) Nothing (λ e z. absurd z) (λ e z. absurd z) c h, inl (λ b. refl), inl lost, λ b. refl)

filter_weaker : (On Un : Knowledge) → IsLess Un On → (l : Link) (tokens : ℕ) (P : Filter → Type 0) → GuardedFilter On l tokens P → GuardedFilter Un l tokens P
filter_weaker On Un less l tokens P closed = record {
  sound = closed.sound;
  change = λ f c x keeps seen free fit known h. closed.change f c x keeps seen free fit (λ fair. change_weaker On Un less x f c (known fair)) h;
  touch = λ f c item d x quiet keeps seen on fit known h. closed.touch f c item d x quiet keeps seen on fit (λ fair. change_weaker On Un less x f c (known fair)) h;
  commits = closed.commits;
  settled = closed.settled;
  begins = closed.begins;
  downs = closed.downs;
  keeps_accessed = closed.keeps_accessed;
  keeps_accessed_now = closed.keeps_accessed_now;
  keeps_as_it_is = closed.keeps_as_it_is;
  keeps_begin_call = closed.keeps_begin_call;
  keeps_connected_again = closed.keeps_connected_again;
  keeps_with_handle = closed.keeps_with_handle;
  keeps_with_time = closed.keeps_with_time;
  keeps_without_handle = closed.keeps_without_handle;
}

-- a property that says less

module _ (P Q : State → Type 0) (less : (s : State) → Q s → P s) where
  pub since_weaker : (l : Link) (late : Bool) (n : ℕ) (e : Entry) → Since Q l late n e → Since P l late n e
  since_weaker l late n e h = (h.0, less h.0 h.1, h.2, h.3, h.4)

  pub known_weaker : (s : State) → IsLess (Known Q s) (Known P s)
  known_weaker s = record { told = since_weaker s.link; done = λ items c h. (h.0, less h.0 h.1, h.2, h.3, h.4, h.5, h.6, h.7, h.8, h.9, h.10, h.11, h.12); shut = λ z. z }

  pub on_filter_weaker : (s : State) (X : Filter → Type 0) → GuardedFilter (Known P s) s.link s.volatile.tokens X → GuardedFilter (Known Q s) s.link s.volatile.tokens X
  on_filter_weaker s X closed = filter_weaker (Known P s) (Known Q s) (known_weaker s) s.link s.volatile.tokens X closed

  taken_weaker : (e : QueueEntry) (s : State) → IsTakenBy Q e s → IsTakenBy P e s
  taken_weaker e s h = (h.0, less h.0 h.1, h.2, h.3, h.4, h.5, h.6)

  buries_weaker : (f : Book → Book) (s : State) → BuriesBy Q f s → BuriesBy P f s
  buries_weaker f s (inl h) = inl h
  buries_weaker f s (inr (inl h)) = inr (inl (h.0, taken_weaker h.0 s h.1, h.2, h.3, h.4, h.5, h.6, h.7))
  buries_weaker f s (inr (inr (number, is, shut, inl h))) = inr (inr (number, is, shut, inl h))
  buries_weaker f s (inr (inr (number, is, shut, inr h))) = inr (inr (number, is, shut, inr (h.0, taken_weaker h.0 s h.1, h.2, h.3, h.4, h.5, h.6, h.7)))

  pub record_weaker : (f : Book → Book) (s : State) → IsRecordBy Q f s → IsRecordBy P f s
  record_weaker f s (inl h) = inl (h.0, h.1, buries_weaker f s h.2)
  record_weaker f s (inr (inl h)) = inr (inl (h.0, h.1, (h.2.0, since_weaker s.link true (book_now s).cursor h.2.0 h.2.1, h.2.2, h.2.3, h.2.4)))
  record_weaker f s (inr (inr (inl h))) = inr (inr (inl h))
  record_weaker f s (inr (inr (inr h))) = inr (inr (inr (
    h.0,
    h.1,
    record {
      first = h.2.first;
      kept = less h.2.first h.2.kept;
      message = h.2.message;
      request = h.2.request;
      round = h.2.round;
      entries = h.2.entries;
      counts = h.2.counts;
      told = h.2.told;
      posted = h.2.posted;
      link = h.2.link;
      cursor = h.2.cursor;
      none = h.2.none;
      closed = h.2.closed;
      turned = h.2.turned;
      fed = h.2.fed;
      ends = h.2.ends;
      same = h.2.same;
      whole = h.2.whole;
    },
  )))

  pub moved_weaker : (e : QueueEntry) (s : State) → IsMovedBy Q e s → IsMovedBy P e s
  moved_weaker e s h = (h.0, since_weaker s.link true (book_now s).cursor h.0 h.1, h.2)
