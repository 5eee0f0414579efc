-- The invariant of the machine in `replay`: what each state of a run has, where the remote kept its rules.
use Rattle.std.specs.Prelude.{ℕ, Bool, true, false, List, [], length, take, drop, map, Option, Some, None, is_some, ◌∷◌, ◌≡◌, ◌==◌, ◌<◌, ◌≤◌, ◌⊎◌}
use Rattle.std.specs.List.{list_all, list_any}
use Rattle.cf_base.specs.declared.changes.Change.{Change}
use Rattle.cf_base.specs.declared.ids.ItemId.{ItemId}
use Rattle.cf_base.specs.declared.ids.Rid.{Rid}
use Rattle.cf_base.specs.declared.ids.Token.{Token}
use Rattle.cf_base.specs.declared.ids.Usn.{Usn}
use Rattle.cf_base.specs.declared.ids.Version.{Version}
use Rattle.cf_base.specs.declared.messages.Entry.{Entry}
use Rattle.cf_base.specs.declared.messages.Reply.{Reply}
use Rattle.cf_base.specs.declared.messages.Reply.TheVariants as reply
use Rattle.cf_base.specs.declared.messages.Request.{Request}
use Rattle.cf_base.specs.declared.messages.Request.TheVariants as request
use Rattle.cf_base.specs.declared.notices.Frame.{Frame}
use Rattle.cf_base.specs.declared.notices.Frame.TheVariants as frame
use Rattle.cf_base.specs.declared.waits.Ask.{Ask}
use Rattle.cf_model.specs.Books.{Action, MakeDir, MoveItem, PutFile, QueueEntry, RemoveItem}
use Rattle.cf_model.specs.Contents.{IsTrueTo, RisesFrom, up_to}
use Rattle.cf_model.specs.Growth.{IsCounted}
use Rattle.cf_model.specs.Identities.{base_bytes, target_of}
use Rattle.cf_model.specs.Items.{Item}
use Rattle.cf_model.specs.Logs.{items_of, next_of}
use Rattle.cf_model.specs.Missing.{Wait}
use Rattle.cf_model.specs.Numbers.{above, no_key, no_usn, same_key, usn_after}
use Rattle.cf_model.specs.Overlay.{Written, over}
use Rattle.cf_model.specs.PushReplies.{is_new_entry}
use Rattle.cf_model.specs.Requests.{Live, is_fetch}
use Rattle.cf_model.specs.Soundness.{Each}
use Rattle.cf_model.specs.State.{Filter, Link, Point, State, is_replay}
use Rattle.cf_model.specs.Store.{Held, RecordedDone, Stored, bytes_of, recorded_at, stored_at}
use Rattle.cf_model.specs.Words.{number_of, part}
use Rattle.std.specs.Prelude.{zero, suc, slice_get, unwrap_or}
use Rattle.cf_model_laws.specs.GivenOnce.{WasGiven}
use Rattle.cf_model_laws.specs.Premises.{IsFair}

abbrev pub All : {A : Type 0} → (A → Type 0) → List A → Type 0
All P [] = Unit {0}
All P (x ∷ xs) = P x × All P xs

abbrev pub Among : {A : Type 0} → A → List A → Type 0
Among x [] = ⊥
Among x (y ∷ ys) = (y ≡ x) ⊎ Among x ys

-- what an identity names

abbrev pub rid_in : List ℕ → Rid
rid_in identity = record { 0 = number_of (take 8 (drop 8 identity)) }

abbrev pub version_in : List ℕ → Version
version_in identity = record { 0 = number_of (drop 16 identity) }

-- both name the same version of the same item
abbrev pub SameBase : List ℕ → List ℕ → Type 0
SameBase a b = ((rid_in a).0 ≡ (rid_in b).0) × ((version_in a).0 ≡ (version_in b).0)

-- no version, or one that the remote has made
abbrev pub HasBase : Held → List ℕ → Type 0
HasBase r identity = ((version_in identity).0 ≡ 0) ⊎ ((bytes : List ℕ) × (bytes_of r (rid_in identity) (version_in identity) ≡ Some bytes))

abbrev pub HasNone : List ℕ → Type 0
HasNone identity = ((rid_in identity).0 ≡ 0) × ((version_in identity).0 ≡ 0)

-- one of the items of the remote is this one, and so
abbrev pub IsIn : (Stored → Type 0) → List Stored → Rid → Type 0
IsIn Q ss rid = (s : Stored) × (stored_at ss rid ≡ Some s) × Q s

-- the remote has the item, of this kind
abbrev pub IsOfKind : Held → Rid → Bool → Type 0
IsOfKind r rid directory = IsIn (λ s. s.directory ≡ directory) r.items rid

-- what an identity aims at

abbrev pub target_in : List ℕ → Rid
target_in identity = record { 0 = number_of (take 8 identity) }

-- The target is an item of the remote below its root, of the kind, and of a file it is the base too; or there is none.
abbrev pub IsAimed : Held → Bool → List ℕ → Type 0
IsAimed r directory identity =
    ((target_in identity).0 ≡ 0)
    ⊎ (IsOfKind r (target_in identity) directory × (directory ≡ false → (rid_in identity).0 ≡ (target_in identity).0) × ((target_in identity).0 ≡ 1 → ⊥))

-- an item

abbrev pub AllUpTo : Usn → List Written → Type 0
AllUpTo n ws = All (λ w. above w.number n ≡ false) ws

pub record IsRightOf (r : Held) (next : Usn) (id : ℕ) (directory placeholder : Bool) (identity : List ℕ) (in_sync : Bool) (number : Usn) (writes : List Written) : Type 0 where
  -- the base is there, so that a remote that grows changes no content
  pub based : HasBase r identity
  pub aimed : IsAimed r directory identity
  -- the numbers of its writes rise, up to its own, which is below the next
  pub rises : RisesFrom no_usn writes
  pub last : AllUpTo number writes
  pub early : above next number ≡ true
  pub clean : in_sync ≡ true → writes ≡ []
  -- neither a directory nor a file that is no placeholder has a base
  pub bare : directory ≡ true → HasNone identity
  pub plain : directory ≡ false → placeholder ≡ false → HasNone identity × (number_of (take 8 identity) ≡ 0)
  pub top : id ≡ 1 → directory ≡ true

abbrev pub IsRight : Held → Usn → Item → Type 0
IsRight r next i = IsRightOf r next i.id.0 i.directory i.placeholder i.identity i.in_sync i.number i.writes

-- the ids rise, and each is below the next
abbrev pub InOrder : ℕ → ℕ → List Item → Type 0
InOrder low next [] = low < next
InOrder low next (i ∷ is) = (low < i.id.0) × InOrder i.id.0 next is

-- uploads that have no reply yet

-- the bytes that a Put of this entry carries
abbrev pub put_bytes : List ℕ → Usn → List Written → List ℕ
put_bytes base at ws = over base (map (λ w. w.write) (up_to at ws))

-- a request with this token is a Put of these bytes, or asks what became of it
abbrev pub Carries : Token → List ℕ → Request → Type 0
Carries token bytes (request.Put t rid expect parent name bs) = same_key t.0 token.0 ≡ true → bs ≡ bytes
Carries token bytes (request.MakeDir t parent name) = same_key t.0 token.0 ≡ false
Carries token bytes (request.Move t rid parent name) = same_key t.0 token.0 ≡ false
Carries token bytes (request.Remove t rid expect) = same_key t.0 token.0 ≡ false
Carries token bytes (request.Keep t count) = same_key t.0 token.0 ≡ false
Carries token bytes _ = Unit {0}

-- of the requests among the messages
abbrev pub OfRequest : (Request → Type 0) → Option Frame → Type 0
OfRequest P (Some (frame.Request q)) = P q
OfRequest P (Some (frame.Reply answers r)) = Unit {0}
OfRequest P None = Unit {0}

-- The file of a live entry of a Put lacks no byte, or the base has them all. Where the remote did it, it made a version of
-- the bytes.
pub record PutFitsOf (r : Held) (ms : List (Option Frame)) (token : Token) (at : Usn) (base : List ℕ) (directory placeholder : Bool) (held : List (Option ℕ)) (writes : List Written) : Type 0 where
  pub file : directory ≡ false
  pub here : (list_all is_some held ≡ true) ⊎ (up_to at writes ≡ [])
  pub placed : placeholder ≡ true
  pub recorded : (rid : Rid) (version : Version) → recorded_at r.tokens token ≡ Some (RecordedDone rid version) → bytes_of r rid version ≡ Some (put_bytes base at writes)
  pub asked : All (OfRequest (Carries token (put_bytes base at writes))) ms

abbrev pub PutFits : Held → List (Option Frame) → QueueEntry → Item → Type 0
PutFits r ms e i = PutFitsOf r ms e.token e.number (base_bytes r i) i.directory i.placeholder i.held i.writes

abbrev pub FitsBy : Action → Held → List (Option Frame) → List Item → QueueEntry → Type 0
FitsBy PutFile r ms items e = Each e.item (PutFits r ms e) items
FitsBy MakeDir r ms items e = Each e.item (λ i. i.directory ≡ true) items
FitsBy MoveItem r ms items e = Unit {0}
FitsBy RemoveItem r ms items e = Unit {0}

abbrev pub EntryFits : Held → List (Option Frame) → List Item → QueueEntry → Type 0
EntryFits r ms items e = FitsBy e.action r ms items e

abbrev pub is_put : Action → Bool
is_put PutFile = true
is_put MakeDir = false
is_put MoveItem = false
is_put RemoveItem = false

-- its number, its token and its item were given
pub record IsEntryOf (next : Usn) (next_item : ℕ) (epoch tokens : ℕ) (e : QueueEntry) : Type 0 where
  pub early : is_put e.action ≡ true → above next e.number ≡ true
  pub token : WasGiven epoch tokens e.token.0
  -- tokens of epoch 0 are those of peers
  pub own : 1 ≤ e.token.0.epoch
  pub item : e.item.0 < next_item

-- the request, if it has the token of the upload, is the upload's
abbrev pub Asks : QueueEntry → Request → Type 0
Asks e (request.Put t rid expect parent name bytes) = same_key t.0 e.token.0 ≡ true → (e.action ≡ PutFile) × (rid.0 ≡ e.rid.0)
Asks e (request.MakeDir t parent name) = same_key t.0 e.token.0 ≡ true → e.action ≡ MakeDir
Asks e (request.Move t rid parent name) = same_key t.0 e.token.0 ≡ true → (e.action ≡ MoveItem) × (rid.0 ≡ e.rid.0)
Asks e (request.Remove t rid expect) = same_key t.0 e.token.0 ≡ true → (e.action ≡ RemoveItem) × (rid.0 ≡ e.rid.0)
Asks e (request.Keep t count) = same_key t.0 e.token.0 ≡ false
Asks e _ = Unit {0}

-- What an upload of this kind did that is about this item, 0 for none: it did something to that item, or made one. A removed item is dead.
abbrev pub DidBy : Action → List Stored → Rid → Rid → Type 0
DidBy PutFile ss asked rid = IsIn (λ s. s.directory ≡ false) ss rid × ((asked.0 ≡ 0) ⊎ (rid.0 ≡ asked.0))
DidBy MakeDir ss asked rid = IsIn (λ s. s.directory ≡ true) ss rid
DidBy MoveItem ss asked rid = (rid.0 ≡ asked.0) × IsIn (λ s. Unit {0}) ss rid
DidBy RemoveItem ss asked rid = (rid.0 ≡ asked.0) × IsIn (λ s. s.live ≡ false) ss rid

-- What was sent with the token of the upload is the upload, and so is what the remote did of it.
pub record IsAskedFor (r : Held) (ms : List (Option Frame)) (e : QueueEntry) : Type 0 where
  pub did : (rid : Rid) (version : Version) → recorded_at r.tokens e.token ≡ Some (RecordedDone rid version) → DidBy e.action r.items e.rid rid
  pub sent : All (OfRequest (Asks e)) ms
  -- a file is not the remote's root, and a directory is a new one
  pub low : e.action ≡ PutFile → e.rid.0 ≡ 1 → ⊥
  pub new : e.action ≡ MakeDir → e.rid.0 ≡ 0

-- no two entries are about one item
abbrev pub AreApart : List QueueEntry → Type 0
AreApart [] = Unit {0}
AreApart (e ∷ es) = All (λ f. f.item.0 ≡ e.item.0 → e.item.0 ≡ 0) es × AreApart es

-- the remote made this item for the upload
abbrev pub Made : Held → QueueEntry → Rid → Type 0
Made r e rid = (is_new_entry e ≡ true) × ((version : Version) × (recorded_at r.tokens e.token ≡ Some (RecordedDone rid version)))

-- it made this item for none of the uploads
abbrev pub IsUnmade : Held → List QueueEntry → Rid → Type 0
IsUnmade r es rid = All (λ e. (new : Rid) → Made r e new → new.0 ≡ rid.0 → ⊥) es

-- no two have one token, and it made none for two of them
abbrev pub AreMadeApart : Held → List QueueEntry → Type 0
AreMadeApart r [] = Unit {0}
AreMadeApart r (e ∷ es) = All (λ f. (same_key e.token.0 f.token.0 ≡ false) × ((rid : Rid) → Made r e rid → Made r f rid → ⊥)) es × AreMadeApart r es

-- What the remote made for uploads on their way is there, below its root. No item here is it, no other upload is about it, and it was made for one.
pub record AreMadeNew (r : Held) (items : List Item) (es : List QueueEntry) : Type 0 where
  pub there : All (λ e. (rid : Rid) → Made r e rid → (1 < rid.0) × (rid.0 ≤ length r.items)) es
  pub unknown : All (λ i. IsUnmade r es (target_in i.identity)) items
  pub named : All (λ e. e.action ≡ PutFile → (e.rid.0 ≤ length r.items) × IsUnmade r es e.rid) es
  pub apart : AreMadeApart r es

-- The upload of an item that is here names the item's target; that of a new file is of an item with none.
abbrev pub NamesTarget : List Item → QueueEntry → Type 0
NamesTarget items e = (e.action ≡ MakeDir → ⊥) → Each e.item (λ i. (target_of i).0 ≡ e.rid.0) items

abbrev pub AreTrueTo : Held → List Item → Type 0
AreTrueTo r items = All (λ i. i.directory ≡ false → IsTrueTo r i) items

-- of the moment, and of each point that a restart may open
pub record IsDurable (r : Held) (ms : List (Option Frame)) (epoch tokens : ℕ) (next : Usn) (next_item : ℕ) (items : List Item) (entries : List QueueEntry) : Type 0 where
  -- of each file the content is what is held over the base
  pub contents : AreTrueTo r items
  pub right : All (IsRight r next) items
  pub order : InOrder 0 next_item items
  pub more : 2 ≤ next_item
  pub fit : All (EntryFits r ms items) entries
  pub given : All (IsEntryOf next next_item epoch tokens) entries
  pub asked : All (IsAskedFor r ms) entries
  pub apart : AreApart entries
  pub made : AreMadeNew r items entries
  pub targets : All (NamesTarget items) entries

abbrev pub IsPointRight : Held → List (Option Frame) → ℕ → ℕ → Usn → List (Usn × Change) → Point → Type 0
IsPointRight r ms epoch tokens next log p = (p.count ≤ length log) × IsDurable r ms epoch tokens next (next_of (take p.count log)) (items_of (take p.count log)) p.book.entries

-- messages

-- the remote made the item of the entry, which is of its kind, and the version of a file, of its length
abbrev pub HasEntry : Held → Entry → Type 0
HasEntry r e =
    (1 ≤ e.rid.0) × (e.rid.0 ≤ length r.items)
    × (e.dir ≡ false → ((e.version.0 ≡ 0) × (e.len ≡ 0)) ⊎ ((bytes : List ℕ) × (bytes_of r e.rid e.version ≡ Some bytes) × (length bytes ≡ e.len)))
    × IsOfKind r e.rid e.dir

abbrev pub TellsTruth : Held → Reply → Type 0
TellsTruth r (reply.Done token rid version) = recorded_at r.tokens token ≡ Some (RecordedDone rid version)
TellsTruth r (reply.Feed round clock es) = (clock ≤ r.clock) × All (HasEntry r) es
TellsTruth r (reply.Listing key es) = All (HasEntry r) es
TellsTruth r _ = Unit {0}

abbrev pub AreAt : Held → Rid → Version → ℕ → List ℕ → Type 0
AreAt r rid version at bytes = (b : List ℕ) × (bytes_of r rid version ≡ Some b) × (take (length bytes) (drop at b) ≡ bytes)

-- a reply to an upload, with its token
abbrev pub IsWithToken : Token → Reply → Type 0
IsWithToken token (reply.Done other rid version) = same_key token.0 other.0 ≡ true
IsWithToken token (reply.Void other) = same_key token.0 other.0 ≡ true
IsWithToken token (reply.Refused other w version) = same_key token.0 other.0 ≡ true
IsWithToken token _ = ⊥

-- a reply to another request
abbrev pub IsWithNoToken : Reply → Type 0
IsWithNoToken (reply.Done token rid version) = ⊥
IsWithNoToken (reply.Void token) = ⊥
IsWithNoToken (reply.Refused token w version) = ⊥
IsWithNoToken _ = Unit {0}

abbrev pub TellsBytesOf : Held → Rid → Version → Reply → Type 0
TellsBytesOf r rid version (reply.Bytes key at bytes) = AreAt r rid version at bytes
TellsBytesOf r rid version q = IsWithNoToken q

-- it is a reply to the request: it has the bytes or the token that this names
abbrev pub TellsBytes : Held → Request → Reply → Type 0
TellsBytes r (request.Fetch key rid version start len) q = TellsBytesOf r rid version q
TellsBytes r (request.Feed round after) q = IsWithNoToken q
TellsBytes r (request.List key rid) q = IsWithNoToken q
TellsBytes r (request.Put token rid expect parent name bytes) q = IsWithToken token q
TellsBytes r (request.MakeDir token parent name) q = IsWithToken token q
TellsBytes r (request.Move token rid parent name) q = IsWithToken token q
TellsBytes r (request.Remove token rid expect) q = IsWithToken token q
TellsBytes r (request.Settle token) q = IsWithToken token q
TellsBytes r (request.Keep token count) q = IsWithToken token q

-- the numbers that it names were given
abbrev pub IsGivenIn : ℕ → ℕ → ℕ → Request → Type 0
IsGivenIn epoch keys tokens (request.Fetch key rid version start len) = WasGiven epoch keys key
IsGivenIn epoch keys tokens (request.Put token rid expect parent name bytes) = WasGiven epoch tokens token.0
IsGivenIn epoch keys tokens (request.MakeDir token parent name) = WasGiven epoch tokens token.0
IsGivenIn epoch keys tokens (request.Move token rid parent name) = WasGiven epoch tokens token.0
IsGivenIn epoch keys tokens (request.Remove token rid expect) = WasGiven epoch tokens token.0
IsGivenIn epoch keys tokens (request.Settle token) = WasGiven epoch tokens token.0
IsGivenIn epoch keys tokens (request.Keep token count) = WasGiven epoch tokens token.0
IsGivenIn epoch keys tokens _ = Unit {0}

abbrev pub message_in : List (Option Frame) → ℕ → Option Frame
message_in ms zero = None
message_in ms (suc n) = part (λ f. f) None (slice_get ms n)

-- a reply tells the truth on the request that it answers
abbrev pub IsMessageRight : Held → List (Option Frame) → ℕ → ℕ → ℕ → Option Frame → Type 0
IsMessageRight r ms epoch keys tokens (Some (frame.Request q)) = IsGivenIn epoch keys tokens q
IsMessageRight r ms epoch keys tokens (Some (frame.Reply answers a)) = TellsTruth r a × (q : Request) × (message_in ms answers ≡ Some (frame.Request q)) × TellsBytes r q a
IsMessageRight r ms epoch keys tokens None = Unit {0}

-- asks

-- A Fetch of this ask names a version that is there, or none, with the bytes of the base that the file has.
abbrev pub Names : Held → List Item → Ask → Request → Type 0
Names r items a (request.Fetch key rid version start len) =
    same_key a.key key ≡ true → ((version.0 ≡ 0) ⊎ ((bytes : List ℕ) × (bytes_of r rid version ≡ Some bytes))) × Each a.item (λ i. base_bytes r i ≡ unwrap_or (bytes_of r rid version) []) items
Names r items a _ = Unit {0}

abbrev pub waits_on : ItemId → List Wait → Bool
waits_on item ws = list_any (λ w. w.item.0 == item.0) ws

-- a byte of the file is not here
abbrev pub Lacks : ItemId → List Item → Type 0
Lacks item items = Each item (λ i. list_all is_some i.held ≡ false) items

-- A live fetch ask: its file lacks a byte and is waited for, so that no other bytes take the place of its base's; and what
-- was sent for it names a version of these bytes. The ask is still in the outbox under the same item, if it is there.
pub record IsLiveRight (r : Held) (ms : List (Option Frame)) (keys epoch next_item : ℕ) (items : List Item) (ws : List Wait) (outbox : List Ask) (a : Ask) : Type 0 where
  pub below : a.item.0 < next_item
  pub given : WasGiven epoch keys a.key
  pub waited : waits_on a.item ws ≡ true
  pub named : All (OfRequest (Names r items a)) ms
  pub boxed : All (λ b. same_key a.key b.key ≡ true → a.item.0 ≡ b.item.0) outbox

abbrev pub AreLivesRight : Held → List (Option Frame) → ℕ → ℕ → ℕ → List Item → List Wait → List Ask → List Live → Type 0
AreLivesRight r ms keys epoch next_item items ws outbox asks = All (λ a. is_fetch a.ask.kind ≡ true → IsLiveRight r ms keys epoch next_item items ws outbox a.ask) asks

-- of all fetch asks but those on one item
abbrev pub AllLack : (ItemId → Type 0) → List Item → List Live → Type 0
AllLack But items asks = All (λ a. is_fetch a.ask.kind ≡ true → Lacks a.ask.item items ⊎ But a.ask.item) asks

abbrev pub NoItem : ItemId → Type 0
NoItem item = ⊥

-- the whole

pub record IsSoundOf (But : ItemId → Type 0) (r : Held) (ms : List (Option Frame)) (tokens epoch place : ℕ) (log : List (Usn × Change)) (items : List Item) (next_item : ℕ) (points : List Point) (entries : List QueueEntry)
    (asks_epoch : ℕ) (ws : List Wait) (asks : List Live) (keys : ℕ) (outbox : List Ask) (validate : Bool) : Type 0 where
  pub counted : IsCounted r
  pub recorded : All (λ t. WasGiven epoch tokens t.0.0) r.tokens
  pub messages : All (IsMessageRight r ms epoch keys tokens) ms
  pub old : 1 ≤ epoch
  pub of_log : (items ≡ items_of log) × (next_item ≡ next_of log)
  pub now : IsDurable r ms epoch tokens (usn_after epoch place) next_item items entries
  pub kept : All (IsPointRight r ms epoch tokens (usn_after epoch place) log) points
  pub one_epoch : asks_epoch ≡ epoch
  pub lives : AreLivesRight r ms keys epoch next_item items ws outbox asks
  pub lack : AllLack But items asks
  pub boxed : All (λ b. WasGiven epoch keys b.key) outbox
  pub numbered : All (λ w. same_key w.id.0 no_key ≡ false) ws
  pub unvalidated : validate ≡ false

abbrev pub IsSoundBut : (ItemId → Type 0) → Link → ℕ → Filter → Type 0
IsSoundBut But l tokens x =
    IsSoundOf But l.remote l.messages tokens x.volume.epoch x.volume.place x.volume.log x.volume.items x.volume.next_item.0 x.volume.points x.volume.book.entries
    x.waiting.epoch x.waiting.waits x.waiting.asks x.waiting.key_count x.outbox x.policy.validate

abbrev pub IsSound : Link → ℕ → Filter → Type 0
IsSound l tokens x = IsSoundBut NoItem l tokens x

-- of a state in `replay`, where the remote kept its rules
abbrev pub Invariant : State → Type 0
Invariant s = (is_replay s.mode ≡ true) × (IsFair s.link → IsSound s.link s.volatile.tokens s.filter)
