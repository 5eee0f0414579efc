-- What a reply tells that is taken, and which steps are made of it.
use Rattle.std.specs.Prelude.{ℕ, Bool, true, false, List, [], Some, ◌+◌, ◌∷◌, ◌≡◌, ◌⊎◌}
use Rattle.cf_base.specs.declared.changes.Change.{Change}
use Rattle.cf_base.specs.declared.changes.Change.TheVariants as change
use Rattle.cf_base.specs.declared.items.SeenPath.{SeenPath}
use Rattle.cf_base.specs.declared.messages.Entry.{Entry}
use Rattle.cf_base.specs.declared.messages.Reply.{Reply}
use Rattle.cf_base.specs.declared.messages.Reply.TheVariants as reply
use Rattle.cf_base.specs.declared.messages.Request.{Request}
use Rattle.cf_base.specs.declared.messages.Request.TheVariants as request
use Rattle.cf_base.specs.declared.notices.Frame.{Frame}
use Rattle.cf_base.specs.declared.notices.Frame.TheVariants as frame
use Rattle.cf_model.specs.Books.{Book, QueueEntry, entry_of}
use Rattle.cf_model.specs.Fetching.{with_seen_from}
use Rattle.cf_model.specs.Identities.{entry_identity, target_of}
use Rattle.cf_model.specs.Items.{Item}
use Rattle.cf_model.specs.Messages.{is_stale}
use Rattle.cf_model.specs.PushReplies.{is_new_entry}
use Rattle.cf_model.specs.Soundness.{Each}
use Rattle.cf_model.specs.State.{Filter, Link, State, book_now, items_now}
use Rattle.cf_model.specs.Store.{Held, remote_step}
use Rattle.cf_model.specs.Words.{number_of}
use Rattle.std.specs.Prelude.{take}
use Rattle.cf_model_laws.specs.Invariant.{Among, TellsBytes, TellsTruth, message_in, target_in}
use Rattle.cf_model_laws.specs.Premises.{IsFair}
use Rattle.cf_base.specs.declared.ids.ItemId.{ItemId}
use Rattle.cf_base.specs.declared.ids.Usn.{Usn}
use Rattle.cf_model.specs.Requests.{Live, is_list, live_of}

-- the message asks for a feed
abbrev pub is_feed : Frame → Bool
is_feed (frame.Request (request.Feed round after)) = true
is_feed _ = false

-- the reply tells the truth on the request that it answers
abbrev pub ToldAt : State → ℕ → Request → Reply → Type 0
ToldAt s m q r = (message_in s.link.messages m ≡ Some (frame.Request q)) × TellsTruth s.link.remote r × TellsBytes s.link.remote q r

-- the reply is one of the messages
abbrev pub IsPosted : State → ℕ → Reply → Type 0
IsPosted s m r = (n : ℕ) × (message_in s.link.messages n ≡ Some (frame.Reply m r))

abbrev pub HasNoEntries : Reply → Type 0
HasNoEntries (reply.Feed round clock es) = ⊥
HasNoEntries (reply.Listing key es) = ⊥
HasNoEntries _ = Unit {0}

-- what the remote would reply now to a Feed or a List; a reply to another request has no entries
abbrev pub AnswersNow : Held → Request → Reply → Type 0
AnswersNow r (request.Feed round after) a = a ≡ (remote_step r (request.Feed round after)).0
AnswersNow r (request.List key rid) a = a ≡ (remote_step r (request.List key rid)).0
AnswersNow r q a = HasNoEntries a

-- The entry is one of a feed, or its item is that of a Done. Where the flag is not set it may be one of a listing too whose ask is live.
abbrev pub Mentions : Bool → State → Reply → Entry → Type 0
Mentions late s (reply.Feed round clock es) e = Among e es
Mentions late s (reply.Listing key es) e = (late ≡ false) × ((a : Live) × (live_of s.filter.waiting.asks key ≡ Some a) × (is_list a.ask.kind ≡ true)) × Among e es
Mentions late s (reply.Done token rid version) e = e.rid ≡ rid
Mentions late s _ e = ⊥

-- a reply counts that tells the entry
abbrev pub Heard : Bool → State → Entry → Type 0
Heard late s e = (m : ℕ) × (q : Request) × (r : Reply) × (is_stale q r s ≡ false) × (IsFair s.link → ToldAt s m q r) × IsPosted s m r × Mentions late s r e

-- so it was in an earlier state with this property, and the link and the cursor are as they were then
abbrev pub Since : (State → Type 0) → Link → Bool → ℕ → Entry → Type 0
Since P l late cursor e = (t : State) × P t × Heard late t e × (l ≡ t.link) × (cursor ≡ (book_now t).cursor)

-- What a step may make of entries that are known so.

-- no target, or what the entry tells
abbrev pub NamesTold : (Entry → Type 0) → List ℕ → Type 0
NamesTold On identity = (number_of (take 8 identity) ≡ 0) ⊎ ((e : Entry) × On e × (identity ≡ entry_identity e))

-- A listing makes new items alone.
abbrev pub IsNamedBy : (Entry → Type 0) → (Entry → Type 0) → Change → Type 0
IsNamedBy On New (change.Make item parent name kind size identity) = NamesTold New identity
IsNamedBy On New (change.Convert item identity) = number_of (take 8 identity) ≡ 0
IsNamedBy On New (change.Rebase item identity len at) = NamesTold On identity
IsNamedBy On New (change.Take item identity size) = NamesTold On identity
IsNamedBy On New _ = Unit {0}

-- the path is the entry's, and the item, if it is below the root, has its target
abbrev pub IsSeenBy : (Entry → Type 0) → List Item → SeenPath → Type 0
IsSeenBy On items p = (e : Entry) × On e × Each p.item (λ i. (i.id.0 ≡ 1 → ⊥) → (target_of i).0 ≡ e.rid.0) items × (p.parent ≡ e.parent) × (p.name ≡ e.name)

-- the items of these ids have the targets of the entries
abbrev pub AreListedBy : (Entry → Type 0) → List Item → ℕ → List Entry → Type 0
AreListedBy On items id [] = Unit {0}
AreListedBy On items id (e ∷ es) = On e × Each (record { 0 = id }) (λ i. (target_of i).0 ≡ e.rid.0) items × AreListedBy On items (id + 1) es

-- No path comes to be seen; or those of a listing do, with its last change.
abbrev pub SeesBy : (Entry → Type 0) → List Item → (Book → Book) → Change → Type 0
SeesBy On items f c =
    ((b : Book) → (f b).seen ≡ b.seen)
    ⊎ ((id : ℕ) × (es : List Entry) × ((b : Book) → f b ≡ with_seen_from id es b) × AreListedBy On items id es × (parent : ItemId) × (c ≡ change.Populated parent))

-- the item has no target, or that of an entry
abbrev pub LosesTold : (Entry → Type 0) → Item → Type 0
LosesTold On i = ((target_of i).0 ≡ 0) ⊎ ((e : Entry) × On e × ((target_of i).0 ≡ e.rid.0))

-- The targets that the change takes from items: those of a feed's entries.
abbrev pub LosesOn : (Entry → Type 0) → List Item → Change → Type 0
LosesOn On items (change.Remove item) = Each item (LosesTold On) items
LosesOn On items (change.Rebase item identity len at) = Each item (λ i. ((target_of i).0 ≡ (target_in identity).0) ⊎ LosesTold On i) items
LosesOn On items (change.Take item identity size) = Each item (λ i. (target_of i).0 ≡ (target_in identity).0) items
LosesOn On items _ = Unit {0}

-- The upload of a new item was just done, and its item gets the target; the items are as they were.
abbrev pub IsDoneBy : (State → Type 0) → Link → List Item → Change → Type 0
IsDoneBy P l items c =
    (t : State) × P t × (e : QueueEntry) × (entry_of (book_now t) e.token ≡ Some e) × (is_new_entry e ≡ true) × (l ≡ t.link) × (items ≡ items_now t) × (item : ItemId) × (item.0 ≡ e.item.0) × (identity : List ℕ) × (len : ℕ) × (at : Usn) × (c ≡ change.Rebase item identity len at)

-- What is known: by the cursor, of entries of feeds and of Dones, and of those of listings too; of a change that a Done makes; and whether the
-- round is closed.
pub record Knowledge : Type 1 where
  pub told : Bool → ℕ → Entry → Type 0
  pub done : List Item → Change → Type 0
  pub shut : Type 0

abbrev pub Nothing : Entry → Type 0
Nothing e = ⊥

-- A change takes a target from an item only while the round is closed: by a feed, or by a Done.
abbrev pub LosesBy : Knowledge → ℕ → List Item → Change → Type 0
LosesBy On cursor items c = LosesOn Nothing items c ⊎ (On.shut × (LosesOn (On.told true cursor) items c ⊎ On.done items c))

-- of a change, and of what is made of the book in the same step
abbrev pub IsChangeBy : Knowledge → Filter → (Book → Book) → Change → Type 0
IsChangeBy On x f c =
    IsNamedBy (On.told true x.volume.book.cursor) (On.told false x.volume.book.cursor) c × SeesBy (On.told false x.volume.book.cursor) x.volume.items f c
    × LosesBy On x.volume.book.cursor x.volume.items c × ((b : Book) → (f b).tombstones ≡ b.tombstones)

-- in a state
abbrev pub Known : (State → Type 0) → State → Knowledge
Known P s = record { told = Since P s.link; done = IsDoneBy P s.link; shut = s.volatile.round_open ≡ false }
