-- Which text is the frame of which request or reply, and how wide its fields are.
use Rattle.std.specs.Prelude.{◌≡◌, ℕ, ◌<◌, ◌≤◌, ◌^◌, List, [], ◌∷◌, length, get_or, All}
use Rattle.std.specs.List.{flat_map, AllByRecursion}
use Rattle.cf_base.specs.declared.ids.Key.{Key}
use Rattle.cf_base.specs.declared.messages.Entry.{Entry}
use Rattle.cf_base.specs.declared.messages.Reply.{Reply}
use Rattle.cf_base.specs.declared.messages.Reply.TheVariants as reply
use Rattle.cf_base.specs.declared.messages.Request.{Request}
use Rattle.cf_base.specs.declared.messages.Request.TheVariants as request
use Rattle.cf_model.specs.Frames.{spell_reply, spell_request}

-- what has a spelling: numbers that their fields hold, names of at most 255 bytes, and bytes and entries below 2 ^ 32

abbrev pub IsBytes : List ℕ → Type 0
IsBytes bytes = (i : ℕ) → get_or bytes i 0 < 256

abbrev pub FitsKey : Key → Type 0
FitsKey k = (k.epoch < 2 ^ 32) × (k.number < 2 ^ 32)

abbrev pub FitsName : List ℕ → Type 0
FitsName name = (length name < 256) × IsBytes name

abbrev pub FitsBlob : List ℕ → Type 0
FitsBlob bytes = (length bytes < 2 ^ 32) × IsBytes bytes

pub record FitsEntry (e : Entry) : Type 0 where
  pub rid : e.rid.0 < 2 ^ 64
  pub parent : e.parent.0 < 2 ^ 64
  pub name : FitsName e.name
  pub version : e.version.0 < 2 ^ 64
  pub len : e.len < 2 ^ 32
  pub changed : e.changed < 2 ^ 64

abbrev pub FitsEntries : List Entry → Type 0
FitsEntries es = (length es < 2 ^ 32) × AllByRecursion FitsEntry es

abbrev pub FitsRequest : Request → Type 0
FitsRequest (request.Feed round after) = FitsKey round.0 × (after < 2 ^ 64)
FitsRequest (request.List key rid) = FitsKey key × (rid.0 < 2 ^ 64)
FitsRequest (request.Fetch key rid version start len) = FitsKey key × (rid.0 < 2 ^ 64) × (version.0 < 2 ^ 64) × (start < 2 ^ 32) × (len < 2 ^ 32)
FitsRequest (request.Put token rid expect parent name bytes) =
    FitsKey token.0 × (rid.0 < 2 ^ 64) × (expect.0 < 2 ^ 64) × (parent.0 < 2 ^ 64) × FitsName name × FitsBlob bytes
FitsRequest (request.MakeDir token parent name) = FitsKey token.0 × (parent.0 < 2 ^ 64) × FitsName name
FitsRequest (request.Move token rid parent name) = FitsKey token.0 × (rid.0 < 2 ^ 64) × (parent.0 < 2 ^ 64) × FitsName name
FitsRequest (request.Remove token rid expect) = FitsKey token.0 × (rid.0 < 2 ^ 64) × (expect.0 < 2 ^ 64)
FitsRequest (request.Settle token) = FitsKey token.0
FitsRequest (request.Keep token count) = FitsKey token.0 × (count < 2 ^ 32)

abbrev pub FitsReply : Reply → Type 0
FitsReply (reply.Feed round clock es) = FitsKey round.0 × (clock < 2 ^ 64) × FitsEntries es
FitsReply (reply.Listing key es) = FitsKey key × FitsEntries es
FitsReply (reply.Bytes key start bytes) = FitsKey key × (start < 2 ^ 32) × FitsBlob bytes
FitsReply (reply.Missing key) = FitsKey key
FitsReply (reply.Done token rid version) = FitsKey token.0 × (rid.0 < 2 ^ 64) × (version.0 < 2 ^ 64)
FitsReply (reply.Void token) = FitsKey token.0
FitsReply (reply.Refused token w version) = FitsKey token.0 × (version.0 < 2 ^ 64)
FitsReply (reply.Gone key) = FitsKey key

-- the text is the frame of this request, of this reply

pub record IsRequest (text : List ℕ) (q : Request) : Type 0 where
  pub fits : FitsRequest q
  pub spelled : text ≡ spell_request q

pub record IsReply (text : List ℕ) (r : Reply) : Type 0 where
  pub fits : FitsReply r
  pub spelled : text ≡ spell_reply r

-- how wide the fields of a frame are, in their order; a key has two, and so has a text, whose length comes first

abbrev pub request_widths : Request → List ℕ
request_widths (request.Feed round after) = 1 ∷ 4 ∷ 4 ∷ 8 ∷ []
request_widths (request.List key rid) = 1 ∷ 4 ∷ 4 ∷ 8 ∷ []
request_widths (request.Fetch key rid version start len) = 1 ∷ 4 ∷ 4 ∷ 8 ∷ 8 ∷ 4 ∷ 4 ∷ []
request_widths (request.Put token rid expect parent name bytes) = 1 ∷ 4 ∷ 4 ∷ 8 ∷ 8 ∷ 8 ∷ 1 ∷ length name ∷ 4 ∷ length bytes ∷ []
request_widths (request.MakeDir token parent name) = 1 ∷ 4 ∷ 4 ∷ 8 ∷ 1 ∷ length name ∷ []
request_widths (request.Move token rid parent name) = 1 ∷ 4 ∷ 4 ∷ 8 ∷ 8 ∷ 1 ∷ length name ∷ []
request_widths (request.Remove token rid expect) = 1 ∷ 4 ∷ 4 ∷ 8 ∷ 8 ∷ []
request_widths (request.Settle token) = 1 ∷ 4 ∷ 4 ∷ []
request_widths (request.Keep token count) = 1 ∷ 4 ∷ 4 ∷ 4 ∷ []

abbrev pub entry_widths : Entry → List ℕ
entry_widths e = 8 ∷ 8 ∷ 1 ∷ length e.name ∷ 1 ∷ 1 ∷ 8 ∷ 4 ∷ 8 ∷ []

abbrev pub reply_widths : Reply → List ℕ
reply_widths (reply.Feed round clock es) = 1 ∷ 4 ∷ 4 ∷ 8 ∷ 4 ∷ flat_map entry_widths es
reply_widths (reply.Listing key es) = 1 ∷ 4 ∷ 4 ∷ 4 ∷ flat_map entry_widths es
reply_widths (reply.Bytes key start bytes) = 1 ∷ 4 ∷ 4 ∷ 4 ∷ 4 ∷ length bytes ∷ []
reply_widths (reply.Missing key) = 1 ∷ 4 ∷ 4 ∷ []
reply_widths (reply.Done token rid version) = 1 ∷ 4 ∷ 4 ∷ 8 ∷ 8 ∷ []
reply_widths (reply.Void token) = 1 ∷ 4 ∷ 4 ∷ []
reply_widths (reply.Refused token w version) = 1 ∷ 4 ∷ 4 ∷ 1 ∷ 8 ∷ []
reply_widths (reply.Gone key) = 1 ∷ 4 ∷ 4 ∷ []

-- the names and lists of a request or a reply have room in its frame

abbrev pub HasRoom : Request → Type 0
HasRoom (request.Put token rid expect parent name bytes) = (length name ≤ 255) × (length bytes < 2 ^ 32)
HasRoom (request.MakeDir token parent name) = length name ≤ 255
HasRoom (request.Move token rid parent name) = length name ≤ 255
HasRoom _ = Unit {0}

abbrev pub HaveRoom : List Entry → Type 0
HaveRoom es = (length es < 2 ^ 32) × All (λ e. length e.name ≤ 255) es

abbrev pub ReplyHasRoom : Reply → Type 0
ReplyHasRoom (reply.Feed round clock es) = HaveRoom es
ReplyHasRoom (reply.Listing key es) = HaveRoom es
ReplyHasRoom (reply.Bytes key start bytes) = length bytes < 2 ^ 32
ReplyHasRoom _ = Unit {0}
