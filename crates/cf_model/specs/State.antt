-- The state that a trace leaves, in layers: the volume, the filter on it, the link to the remote, and the whole.
use Rattle.std.specs.Prelude.{ℕ, Bool, true, false, List, [], ◌∷◌, ◌++◌, Option, None}
use Rattle.cf_base.specs.declared.changes.Change.{Change}
use Rattle.cf_base.specs.declared.ids.Handle.{Handle}
use Rattle.cf_base.specs.declared.ids.ItemId.{ItemId}
use Rattle.cf_base.specs.declared.ids.Usn.{Usn}
use Rattle.cf_base.specs.declared.ids.WaitId.{WaitId}
use Rattle.cf_base.specs.declared.messages.Reply.{Reply}
use Rattle.cf_base.specs.declared.notices.Frame.{Frame}
use Rattle.cf_base.specs.declared.notices.Notice.{Notice}
use Rattle.cf_base.specs.declared.operations.Operation.{Operation}
use Rattle.cf_base.specs.declared.policies.Hydration.TheVariants as hydration
use Rattle.cf_base.specs.declared.policies.Mode.{Mode}
use Rattle.cf_base.specs.declared.policies.Mode.TheVariants as mode
use Rattle.cf_base.specs.declared.policies.Policy.{Policy}
use Rattle.cf_base.specs.declared.policies.Population.TheVariants as population
use Rattle.cf_base.specs.declared.waits.Ask.{Ask}
use Rattle.cf_base.specs.declared.waits.End.{End}
use Rattle.cf_model.specs.Arrows.{Arrow, lifted}
use Rattle.cf_model.specs.Requests.{Waiting, none_waiting}
use Rattle.cf_model.specs.Books.{Book, no_book}
use Rattle.cf_model.specs.Items.{Item, root}
use Rattle.cf_model.specs.Store.{Held}

-- What a restart may open: the first `count` changes, and a book. A sure point is made for good.
pub record Point : Type 0 where
  pub sure : Bool
  pub count : ℕ
  pub book : Book

pub record Volume : Type 0 where
  pub clusters : ℕ
  pub epoch : ℕ
  -- the accepted changes with their numbers, and the items that they make
  pub log : List (Usn × Change)
  pub items : List Item
  pub next_item : ItemId
  -- the last place of the epoch
  pub place : ℕ
  -- the last sure point and those after it, the latest first
  pub points : List Point
  -- the items at the last point, and how many blocks the changes since put bytes into
  pub items_then : List Item
  pub put_since : ℕ
  pub book : Book

pub record Open : Type 0 where
  pub handle : Handle
  pub item : ItemId

pub record Filter : Type 0 where
  pub volume : Volume
  pub policy : Policy
  pub connected : Bool
  -- the open files, and how many handles the epoch has given
  pub handles : List Open
  pub handle_count : ℕ
  pub waiting : Waiting
  -- the asks whose callbacks are still to be called
  pub outbox : List Ask
  -- of the running call: the wait that it made, and how that ended
  pub own : Option WaitId
  pub ending : Option End
  -- of the running event: what happened so far
  pub notes : List Notice

-- Messages by number from 1; of a lost one nothing is kept.
pub record Link : Type 0 where
  pub inline : Bool
  pub messages : List (Option Frame)
  pub kept_bytes : ℕ
  pub remote : Held
  -- how often the remote was asked, and whether each reply so far was the one that its rules give
  pub remote_asks : ℕ
  pub honest : Bool

-- What the engine knows until the volume is opened again: how many rounds and tokens the epoch has given, whether the
-- reply to the latest round still counts, what is held back until a feed, and what was refused once before.
pub record Volatile : Type 0 where
  pub rounds : ℕ
  pub round_open : Bool
  pub tokens : ℕ
  pub held_items : List ItemId
  pub held_tombstones : List Usn
  pub taken_names : List ItemId
  pub not_empty : List Usn

abbrev pub fresh : Volatile
fresh = record { rounds = 0; round_open = false; tokens = 0; held_items = []; held_tombstones = []; taken_names = []; not_empty = [] }

-- Of the running event: whether `skipped` lines stand in it, how many steps were left out, whether a Done was taken, the
-- clock of the first feed that was applied, and the reply that made a peer event Stale.
pub record Running : Type 0 where
  pub shows_skips : Bool
  pub skips : ℕ
  pub took_done : Bool
  pub first_clock : Option ℕ
  pub stray : Option Reply

abbrev pub nothing_yet : Running
nothing_yet = record { shows_skips = false; skips = 0; took_done = false; first_clock = None; stray = None }

pub data Power : Type 0 where
  On Broken Off : Power

pub record State : Type 0 where
  pub mode : Mode
  pub power : Power
  -- how many restarts were answered Device since the last opening
  pub failed_opens : ℕ
  pub filter : Filter
  -- the planned operations, each with whether its key is the callback's own
  pub plan : List (Bool × Operation)
  pub link : Link
  pub volatile : Volatile
  -- how many tokens of epoch 0 the peer events have used
  pub peer_tokens : ℕ
  pub running : Running

-- the start

abbrev pub first_policy : Policy
first_policy = record { hydration = hydration.Partial; population = population.AlwaysFull; validate = false; restart = false; auto = false }

abbrev pub new_volume : ℕ → Volume
new_volume clusters = record {
  clusters = clusters;
  epoch = 1;
  log = [];
  items = root ∷ [];
  next_item = record { 0 = 2 };
  place = 0;
  points = record { sure = true; count = 0; book = no_book } ∷ [];
  items_then = root ∷ [];
  put_since = 0;
  book = no_book;
}

-- a filter on this volume in which nothing is open and nothing waits
abbrev pub new_filter : Volume → Policy → Filter
new_filter v p = record {
  volume = v;
  policy = p;
  connected = true;
  handles = [];
  handle_count = 0;
  waiting = none_waiting v.epoch;
  outbox = [];
  own = None;
  ending = None;
  notes = [];
}

abbrev pub new_link : Held → Link
new_link remote = record { inline = true; messages = []; kept_bytes = 0; remote = remote; remote_asks = 0; honest = true }

-- the volume freshly formatted and opened, and the remote as it is handed in
abbrev pub start : Mode → Held → ℕ → State
start mode remote clusters = record {
  mode = mode;
  power = On;
  failed_opens = 0;
  filter = new_filter (new_volume clusters) first_policy;
  plan = [];
  link = new_link remote;
  volatile = fresh;
  peer_tokens = 0;
  running = nothing_yet;
}

-- parts of a layer in the layer above

abbrev pub with_volume : Volume → Filter → Filter
with_volume v f = record f { volume = v }

abbrev pub with_filter : Filter → State → State
with_filter f s = record s { filter = f }

abbrev pub with_link : Link → State → State
with_link l s = record s { link = l }

abbrev pub in_volume : {A : Type 0} → Arrow Volume A → Arrow Filter A
in_volume f = lifted (λ s. s.volume) with_volume f

abbrev pub in_filter : {A : Type 0} → Arrow Filter A → Arrow State A
in_filter f = lifted (λ s. s.filter) with_filter f

abbrev pub in_link : {A : Type 0} → Arrow Link A → Arrow State A
in_link f = lifted (λ s. s.link) with_link f

-- what is read most

abbrev pub items_now : State → List Item
items_now s = s.filter.volume.items

abbrev pub book_now : State → Book
book_now s = s.filter.volume.book

abbrev pub is_replay : Mode → Bool
is_replay mode.Replay = true
is_replay mode.Filter = false

-- notices

abbrev pub with_notes : List Notice → Filter → Filter
with_notes ns s = record s { notes = s.notes ++ ns }

abbrev pub note : Notice → State → State
note n s = record s { filter = with_notes (n ∷ []) s.filter }
