-- Reading as the code does it, from left to right; no definition to believe, since `read_request` and `read_reply` say
-- what comes of it.
use Rattle.std.specs.Prelude.{◌≡◌, ℕ, zero, suc, ◌+◌, ◌==◌, Bool, true, false, cond, List, [], ◌∷◌, length, take, drop, Option, Some, None, Result, Ok, Err, nat_lt}
use Rattle.std.specs.Int.{w32, w64, from_be_bytes}
use Rattle.cf_base.specs.declared.ids.Key.{Key}
use Rattle.cf_base.specs.declared.messages.Entry.{Entry}
use Rattle.cf_base.specs.declared.messages.Reply.{Reply}
use Rattle.cf_base.specs.declared.messages.Reply.TheVariants as reply
use Rattle.cf_base.specs.declared.messages.Request.{Request}
use Rattle.cf_base.specs.declared.messages.Request.TheVariants as request
use Rattle.cf_base.specs.declared.messages.Why.{Why}
use Rattle.cf_base.specs.declared.messages.Why.TheVariants as why
use Rattle.cf_codec.specs.Left.{Left}
use Rattle.cf_codec.specs.declared.failures.CodecError.{CodecError}
use Rattle.cf_codec.specs.declared.failures.CodecError.TheVariants.{BadField, Short}
use Rattle.cf_wire.specs.declared.failures.WireError.{WireError}
use Rattle.cf_wire.specs.declared.failures.WireError.TheVariants as fail

-- what is read of what is left, and what is left then
abbrev pub Step : Type 0 → Type 0
Step X = Result (X × Left) CodecError

infixl 10 ◌>>=◌
abbrev pub ◌>>=◌ : {A B : Type 0} → Result A CodecError → (A → Result B CodecError) → Result B CodecError
(Ok x) >>= f = f x
(Err e) >>= f = Err e

-- what a function answered, unless memory ran out
abbrev pub Fails : {A : Type 0} → WireError → Result A CodecError → Type 0
Fails (fail.Short place) read = read ≡ Err (Short place)
Fails (fail.BadField place) read = read ≡ Err (BadField place)
Fails fail.OutOfMemory read = Unit {0}

abbrev pub GivesBy : {X Y : Type 0} → (X → Y) → Result X WireError → Left → Step Y → Type 0
GivesBy view (Ok x) after read = read ≡ Ok (view x, after)
GivesBy view (Err e) after read = Fails e read

abbrev pub Gives : {X : Type 0} → Result X WireError → Left → Step X → Type 0
Gives given after read = GivesBy (λ x. x) given after read

-- fields

abbrev pub rest_of : ℕ → Left → Left
rest_of n l = record { place = l.place + n; rest = drop n l.rest }

unfoldable pub bytes_at : ℕ → Left → Step (List ℕ)
bytes_at n l = cond (nat_lt (length l.rest) n) (Err (Short l.place)) (Ok (take n l.rest, rest_of n l))

abbrev pub first_of : List ℕ → ℕ
first_of [] = 0
first_of (b ∷ bs) = b

unfoldable pub byte_at : Left → Step ℕ
byte_at l = bytes_at 1 l >>= λ b. Ok (first_of b.0, b.1)

unfoldable pub four_at : Left → Step ℕ
four_at l = bytes_at 4 l >>= λ b. Ok (from_be_bytes w32 b.0, b.1)

unfoldable pub eight_at : Left → Step ℕ
eight_at l = bytes_at 8 l >>= λ b. Ok (from_be_bytes w64 b.0, b.1)

-- a byte that stands for a value

abbrev pub known_at : {X : Type 0} → ℕ → Option X → Left → Step X
known_at place (Some x) after = Ok (x, after)
known_at place None after = Err (BadField place)

unfoldable pub marked_at : {X : Type 0} → (ℕ → Option X) → Left → Step X
marked_at value_of l = byte_at l >>= λ b. known_at l.place (value_of b.0) b.1

unfoldable pub key_at : Left → Step Key
key_at l = do
  epoch ← four_at l
  number ← four_at epoch.1
  Ok (record { epoch = epoch.0; number = number.0 }, number.1)

unfoldable pub name_at : Left → Step (List ℕ)
name_at l = do
  n ← byte_at l
  bytes_at n.0 n.1

unfoldable pub blob_at : Left → Step (List ℕ)
blob_at l = do
  n ← four_at l
  bytes_at n.0 n.1

-- what a byte stands for

abbrev pub dir_of : ℕ → Option Bool
dir_of b = cond (b == 1) (Some true) (cond (b == 2) (Some false) None)

abbrev pub flag_of : ℕ → Option Bool
flag_of b = cond (b == 1) (Some true) (cond (b == 0) (Some false) None)

abbrev pub why_of : ℕ → Option Why
why_of b =
    cond (b == 1) (Some why.Conflict)
    (cond (b == 2) (Some why.NameTaken)
    (cond (b == 3) (Some why.NotThere)
    (cond (b == 4) (Some why.NotEmpty)
    (cond (b == 5) (Some why.Loop)
    (cond (b == 6) (Some why.Quota)
    (cond (b == 7) (Some why.BadName)
    (cond (b == 8) (Some why.TooDeep)
    (cond (b == 9) (Some why.TooLarge) None))))))))

-- requests, behind their kind

unfoldable pub feed_request_at : Left → Step Request
feed_request_at l = do
  round ← key_at l
  after ← eight_at round.1
  Ok (request.Feed (record { 0 = round.0 }) after.0, after.1)

unfoldable pub list_request_at : Left → Step Request
list_request_at l = do
  key ← key_at l
  rid ← eight_at key.1
  Ok (request.List key.0 (record { 0 = rid.0 }), rid.1)

unfoldable pub fetch_request_at : Left → Step Request
fetch_request_at l = do
  key ← key_at l
  rid ← eight_at key.1
  version ← eight_at rid.1
  start ← four_at version.1
  len ← four_at start.1
  Ok (request.Fetch key.0 (record { 0 = rid.0 }) (record { 0 = version.0 }) start.0 len.0, len.1)

unfoldable pub put_request_at : Left → Step Request
put_request_at l = do
  token ← key_at l
  rid ← eight_at token.1
  expect ← eight_at rid.1
  parent ← eight_at expect.1
  name ← name_at parent.1
  bytes ← blob_at name.1
  Ok (request.Put (record { 0 = token.0 }) (record { 0 = rid.0 }) (record { 0 = expect.0 }) (record { 0 = parent.0 }) name.0 bytes.0, bytes.1)

unfoldable pub make_request_at : Left → Step Request
make_request_at l = do
  token ← key_at l
  parent ← eight_at token.1
  name ← name_at parent.1
  Ok (request.MakeDir (record { 0 = token.0 }) (record { 0 = parent.0 }) name.0, name.1)

unfoldable pub move_request_at : Left → Step Request
move_request_at l = do
  token ← key_at l
  rid ← eight_at token.1
  parent ← eight_at rid.1
  name ← name_at parent.1
  Ok (request.Move (record { 0 = token.0 }) (record { 0 = rid.0 }) (record { 0 = parent.0 }) name.0, name.1)

unfoldable pub remove_request_at : Left → Step Request
remove_request_at l = do
  token ← key_at l
  rid ← eight_at token.1
  expect ← eight_at rid.1
  Ok (request.Remove (record { 0 = token.0 }) (record { 0 = rid.0 }) (record { 0 = expect.0 }), expect.1)

unfoldable pub settle_request_at : Left → Step Request
settle_request_at l = do
  token ← key_at l
  Ok (request.Settle (record { 0 = token.0 }), token.1)

unfoldable pub keep_request_at : Left → Step Request
keep_request_at l = do
  token ← key_at l
  count ← four_at token.1
  Ok (request.Keep (record { 0 = token.0 }) count.0, count.1)

-- what follows a kind that stands at this place
unfoldable pub request_body_at : ℕ → ℕ → Left → Step Request
request_body_at place kind l =
    cond (kind == 1) (feed_request_at l)
    (cond (kind == 2) (list_request_at l)
    (cond (kind == 3) (fetch_request_at l)
    (cond (kind == 4) (put_request_at l)
    (cond (kind == 5) (make_request_at l)
    (cond (kind == 6) (move_request_at l)
    (cond (kind == 7) (remove_request_at l)
    (cond (kind == 8) (settle_request_at l)
    (cond (kind == 9) (keep_request_at l) (Err (BadField place))))))))))

unfoldable pub request_at : Left → Step Request
request_at l = do
  kind ← byte_at l
  request_body_at l.place kind.0 kind.1

-- replies

unfoldable pub entry_at : Left → Step Entry
entry_at l = do
  rid ← eight_at l
  parent ← eight_at rid.1
  name ← name_at parent.1
  dir ← marked_at dir_of name.1
  live ← marked_at flag_of dir.1
  version ← eight_at live.1
  len ← four_at version.1
  changed ← eight_at len.1
  Ok (record { rid = record { 0 = rid.0 }; parent = record { 0 = parent.0 }; name = name.0; dir = dir.0; live = live.0; version = record { 0 = version.0 }; len = len.0; changed = changed.0 }, changed.1)

unfoldable pub counted_at : ℕ → Left → Step (List Entry)
counted_at zero l = Ok ([], l)
counted_at (suc n) l = do
  entry ← entry_at l
  entries ← counted_at n entry.1
  Ok (entry.0 ∷ entries.0, entries.1)

unfoldable pub entries_at : Left → Step (List Entry)
entries_at l = do
  count ← four_at l
  counted_at count.0 count.1

unfoldable pub feed_reply_at : Left → Step Reply
feed_reply_at l = do
  round ← key_at l
  clock ← eight_at round.1
  entries ← entries_at clock.1
  Ok (reply.Feed (record { 0 = round.0 }) clock.0 entries.0, entries.1)

unfoldable pub listing_reply_at : Left → Step Reply
listing_reply_at l = do
  key ← key_at l
  entries ← entries_at key.1
  Ok (reply.Listing key.0 entries.0, entries.1)

unfoldable pub bytes_reply_at : Left → Step Reply
bytes_reply_at l = do
  key ← key_at l
  start ← four_at key.1
  bytes ← blob_at start.1
  Ok (reply.Bytes key.0 start.0 bytes.0, bytes.1)

unfoldable pub missing_reply_at : Left → Step Reply
missing_reply_at l = do
  key ← key_at l
  Ok (reply.Missing key.0, key.1)

unfoldable pub done_reply_at : Left → Step Reply
done_reply_at l = do
  token ← key_at l
  rid ← eight_at token.1
  version ← eight_at rid.1
  Ok (reply.Done (record { 0 = token.0 }) (record { 0 = rid.0 }) (record { 0 = version.0 }), version.1)

unfoldable pub void_reply_at : Left → Step Reply
void_reply_at l = do
  token ← key_at l
  Ok (reply.Void (record { 0 = token.0 }), token.1)

unfoldable pub refused_reply_at : Left → Step Reply
refused_reply_at l = do
  token ← key_at l
  w ← marked_at why_of token.1
  version ← eight_at w.1
  Ok (reply.Refused (record { 0 = token.0 }) w.0 (record { 0 = version.0 }), version.1)

unfoldable pub gone_reply_at : Left → Step Reply
gone_reply_at l = do
  key ← key_at l
  Ok (reply.Gone key.0, key.1)

unfoldable pub reply_body_at : ℕ → ℕ → Left → Step Reply
reply_body_at place kind l =
    cond (kind == 65) (feed_reply_at l)
    (cond (kind == 66) (listing_reply_at l)
    (cond (kind == 67) (bytes_reply_at l)
    (cond (kind == 68) (missing_reply_at l)
    (cond (kind == 69) (done_reply_at l)
    (cond (kind == 70) (void_reply_at l)
    (cond (kind == 71) (refused_reply_at l)
    (cond (kind == 72) (gone_reply_at l) (Err (BadField place)))))))))

unfoldable pub reply_at : Left → Step Reply
reply_at l = do
  kind ← byte_at l
  reply_body_at l.place kind.0 kind.1

-- all of a text

abbrev pub ended : {X : Type 0} → X → ℕ → List ℕ → Result X CodecError
ended x place [] = Ok x
ended x place (b ∷ bs) = Err (BadField place)

abbrev pub whole : {X : Type 0} → (Left → Step X) → List ℕ → Result X CodecError
whole read text = read (record { place = 0; rest = text }) >>= λ x. ended x.0 x.1.place x.1.rest

abbrev pub GivesAll : {X : Type 0} → Result X WireError → Result X CodecError → Type 0
GivesAll (Ok x) read = read ≡ Ok x
GivesAll (Err e) read = Fails e read
