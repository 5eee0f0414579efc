-- Parts of what the engine does in a callback, which mirror the code: no definitions to believe.
use Rattle.std.specs.Prelude.{◌≡◌, ℕ, ◌+◌, Bool, true, false, cond, List, [], ◌∷◌, ◌++◌, Option, Some, None, Result, Ok, Err}
use Rattle.cf_engine_provider.specs.Agencies.{Agency, Plays}
use Rattle.cf_engine_provider.specs.Answering.{Suits}
use Rattle.cf_engine_provider.specs.declared.exchanges.Exchange.{Exchange}
use Rattle.cf_engine_provider.specs.declared.attempts.Told.{Told as Tried}
use Rattle.cf_engine_provider.specs.declared.attempts.Told.TheVariants as tried
use Rattle.cf_base.specs.Codes.{number_of}
use Rattle.cf_base.specs.declared.answers.Shown.TheVariants as shown
use Rattle.cf_base.specs.declared.codes.Code.{Code}
use Rattle.cf_base.specs.declared.codes.Code.TheVariants as code
use Rattle.cf_base.specs.declared.ids.Key.{Key}
use Rattle.cf_base.specs.declared.items.SeenPath.{SeenPath}
use Rattle.cf_base.specs.declared.memory.OutOfMemory.{OutOfMemory as NoMemory}
use Rattle.cf_base.specs.declared.messages.Entry.{Entry}
use Rattle.cf_base.specs.declared.messages.Reply.{Reply}
use Rattle.cf_base.specs.declared.messages.Reply.TheVariants as reply
use Rattle.cf_base.specs.declared.messages.Request.{Request}
use Rattle.cf_base.specs.declared.messages.Request.TheVariants as request
use Rattle.cf_base.specs.declared.notices.Notice.{Notice}
use Rattle.cf_base.specs.declared.notices.Notice.TheVariants as notice
use Rattle.cf_base.specs.declared.operations.Operation.{Operation}
use Rattle.cf_base.specs.declared.operations.Operation.TheVariants as operation
use Rattle.cf_base.specs.declared.waits.Ask.{Ask}
use Rattle.cf_base.specs.declared.waits.AskKind.{AskKind}
use Rattle.cf_base.specs.declared.waits.AskKind.TheVariants as ask_kind
use Rattle.cf_provider.specs.Acting.{shown_of}
use Rattle.cf_provider.specs.Sights.{Sight}
use Rattle.cf_provider.specs.declared.outcomes.Callback.{Callback}
use Rattle.cf_provider.specs.declared.outcomes.Outcome.{Outcome}
use Rattle.cf_link.specs.Faults.{AsksFailed, faults_in}
use Rattle.cf_link.specs.Linked.{IsLink, Linked, lines_of, with_line}
use Rattle.cf_base.specs.declared.operations.NewItem.{NewItem}
use Rattle.cf_model.specs.Arrows.{Arrow, is_device, ret, seq, unit}
use Rattle.cf_model.specs.Fetching.{after_listing, do_op, no_entries, take_bytes, take_listing}
use Rattle.cf_model.specs.Messages.{send_now, take_if_any}
use Rattle.cf_model.specs.Operations.{execute_with}
use Rattle.cf_model.specs.Ports.{Act, Did, Failed, Noted, seeing}
use Rattle.cf_model.specs.State.{Filter, Link, State, in_filter, with_link}
use Rattle.cf_model.specs.Trees.{Ends, Stops}
use Rattle.cf_remote.specs.Told.{Told}

-- lines

-- the act of a line, where there is one
abbrev pub noted : Option Notice → List Act
noted None = []
noted (Some n) = Noted n ∷ []

-- steps that are left out

abbrev pub skip_acts : Bool → Code → List Act
skip_acts true c = Noted (notice.Skipped c) ∷ []
skip_acts false c = []

pub record Skips {R : Type 0} (c : Code) (old : Agency R) (acts : List Act) (new : Agency R) : Type 0 where
  pub line : acts ≡ skip_acts old.shows_skips c
  pub counted : new ≡ record old { skips = old.skips + 1 }

-- requests

abbrev pub exchanged : Exchange → Link → State → State
exchanged e link s = with_line e.second (with_line e.first (with_link link s))

-- The request was sent, and under an inline link came to the remote; what is left of the part is to take the reply.
pub record Sends {R : Type 0} (told : R → Told) (q : Request) (s : State) (e : Exchange) (new : Linked R) : Type 0 where
  pub link : Link
  pub ends : (u : State) → Ends (take_if_any q e.reply (exchanged e link s)) unit u → Ends (send_now q s) unit u
  pub stops : (u : State) → Stops (take_if_any q e.reply (exchanged e link s)) u → Stops (send_now q s) u
  pub stands : IsLink told new link

pub record Exchanges {R : Type 0} (told : R → Told) (q : Request) (old : Linked R) (e : Exchange) (new : Linked R) : Type 0 where
  pub sends : (s : State) → IsLink told old s.link → Sends told q s e new
  pub faults : AsksFailed (faults_in (lines_of e.first) + faults_in (lines_of e.second)) (told old.remote) (told new.remote)

-- The request was sent with these acts, which changed the provider so; what is left of the part is to take the reply.
pub record Carries {R : Type 0} (told : R → Told) (Holds : Filter → Type 0) (q : Request) (p : Agency R) (r : Option Reply) (acts : List Act) (m : Agency R) : Type 0 where
  pub plays : (more : List Act) (n : Agency R) → Plays told Holds (take_if_any q r) m more n → Plays told Holds (send_now q) p (acts ++ more) n

abbrev pub Speaks : {R X : Type 0} → (R → Told) → (X → List Act → X → Type 0) → Request → Agency R → X → Result (Option Reply) NoMemory → Agency R → X → Type 0
Speaks told goes q p old (Ok r) m new = (acts : List Act) × goes old acts new × ((sight : Sight) (call : Callback) → Carries told (Suits sight call) q p r acts m)
Speaks told goes q p old (Err e) m new = (acts : List Act) × goes old acts new

-- a request for bytes of the ask with this key
abbrev pub IsFetch : Key → Request → Type 0
IsFetch key (request.Fetch own rid version start len) = own ≡ key
IsFetch key _ = ⊥

-- no bytes or entries come for the ask
abbrev pub refuse_by : AskKind → ℕ → Ask → Arrow State (Unit {0})
refuse_by ask_kind.Fetch status a = do_op (operation.Refuse a.key a.span status)
refuse_by ask_kind.Validate status a = ret unit
refuse_by ask_kind.List status a = no_entries a.key
refuse_by ask_kind.Dehydrate status a = ret unit

abbrev pub refuse_ask : ℕ → Ask → Arrow State (Unit {0})
refuse_ask status a = refuse_by a.kind status a

-- what a reply that fits does, by whether the ask is live
abbrev pub fetched : Option Ask → Reply → Arrow State (Unit {0})
fetched None r = ret unit
fetched (Some a) (reply.Bytes key at bytes) = take_bytes key at bytes
fetched (Some a) (reply.Missing key) = refuse_ask 2 a
fetched (Some a) (reply.Gone key) = refuse_ask (number_of code.VersionGone) a
fetched (Some a) _ = ret unit

-- a request for the entries of the ask with this key
abbrev pub IsList : Key → Request → Type 0
IsList key (request.List own rid) = own ≡ key
IsList key _ = ⊥

-- entries that came, or none where a new item is on its way to the remote
abbrev pub listing_unless : Bool → Key → List Entry → Arrow State (Unit {0})
listing_unless true key es = ret unit
listing_unless false key es = take_listing key es

-- what a reply that fits does, by whether the ask is live, and whether a new item is on its way
abbrev pub listed : Option Ask → Bool → Reply → Arrow State (Unit {0})
listed None sends_new r = ret unit
listed (Some a) sends_new (reply.Listing key es) = listing_unless sends_new key es
listed (Some a) sends_new (reply.Missing key) = refuse_ask 2 a
listed (Some a) sends_new _ = ret unit

-- entries, with the paths seen of their items
abbrev pub give_entries : Key → List NewItem → List SeenPath → Arrow State (Unit {0})
give_entries key list seen = seq (in_filter (execute_with (seeing seen) (operation.Entries key list true))) (after_listing key)

-- operations

abbrev pub tried_of : Code → Tried
tried_of c = cond (is_device c) tried.Device (tried.Refused c)

-- The operation was done, was refused, or met the device.
abbrev pub Tries : {X : Type 0} → (X → List Act → X → Type 0) → List SeenPath → Operation → X → Result Tried NoMemory → X → Type 0
Tries goes seen op old (Ok tried.Done) new = (o : Outcome) × goes old (Did seen op (shown_of o) ∷ []) new
Tries goes seen op old (Ok (tried.Refused c)) new = goes old (Did seen op (shown.Refused c) ∷ []) new
Tries goes seen op old (Ok tried.Device) new = goes old (Failed seen op ∷ []) new
Tries goes seen op old (Err e) new = goes old [] new
