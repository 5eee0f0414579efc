-- The bytes of messages.
use Rattle.std.specs.Prelude.{ℕ, Bool, cond, List, [], length, ◌∷◌, ◌++◌}
use Rattle.std.specs.List.{flat_map}
use Rattle.cf_base.specs.declared.messages.Entry.{Entry}
use Rattle.cf_base.specs.declared.messages.Reply.{Reply}
use Rattle.cf_base.specs.declared.messages.Reply.TheVariants as reply
use Rattle.cf_base.specs.declared.messages.Request.{Request}
use Rattle.cf_base.specs.declared.messages.Request.TheVariants as request
use Rattle.cf_base.specs.declared.messages.Why.{Why}
use Rattle.cf_base.specs.declared.messages.Why.TheVariants as why
use Rattle.cf_base.specs.declared.notices.Frame.{Frame}
use Rattle.cf_base.specs.declared.notices.Frame.TheVariants as frame
use Rattle.cf_model.specs.Books.{key_bytes}
use Rattle.cf_model.specs.Words.{in_bytes}

-- a name after its length in a byte, bytes after their length in four
abbrev pub name_bytes : List ℕ → List ℕ
name_bytes n = length n ∷ n

abbrev pub blob_bytes : List ℕ → List ℕ
blob_bytes b = in_bytes 4 (length b) ++ b

-- the kind, and the fields in order
abbrev pub spell_request : Request → List ℕ
spell_request (request.Feed round after) = 1 ∷ key_bytes round.0 ++ in_bytes 8 after
spell_request (request.List key rid) = 2 ∷ key_bytes key ++ in_bytes 8 rid.0
spell_request (request.Fetch key rid version start len) = 3 ∷ key_bytes key ++ in_bytes 8 rid.0 ++ in_bytes 8 version.0 ++ in_bytes 4 start ++ in_bytes 4 len
spell_request (request.Put token rid expect parent name bytes) =
    4 ∷ key_bytes token.0 ++ in_bytes 8 rid.0 ++ in_bytes 8 expect.0 ++ in_bytes 8 parent.0 ++ name_bytes name ++ blob_bytes bytes
spell_request (request.MakeDir token parent name) = 5 ∷ key_bytes token.0 ++ in_bytes 8 parent.0 ++ name_bytes name
spell_request (request.Move token rid parent name) = 6 ∷ key_bytes token.0 ++ in_bytes 8 rid.0 ++ in_bytes 8 parent.0 ++ name_bytes name
spell_request (request.Remove token rid expect) = 7 ∷ key_bytes token.0 ++ in_bytes 8 rid.0 ++ in_bytes 8 expect.0
spell_request (request.Settle token) = 8 ∷ key_bytes token.0
spell_request (request.Keep token count) = 9 ∷ key_bytes token.0 ++ in_bytes 4 count

abbrev pub flag : Bool → ℕ
flag b = cond b 1 0

abbrev pub spell_entry : Entry → List ℕ
spell_entry e =
    in_bytes 8 e.rid.0 ++ in_bytes 8 e.parent.0 ++ name_bytes e.name ++ cond e.dir 1 2 ∷ flag e.live ∷ [] ++ in_bytes 8 e.version.0 ++ in_bytes 4 e.len ++ in_bytes 8 e.changed

abbrev pub spell_entries : List Entry → List ℕ
spell_entries es = in_bytes 4 (length es) ++ flat_map spell_entry es

abbrev pub why_number : Why → ℕ
why_number why.Conflict = 1
why_number why.NameTaken = 2
why_number why.NotThere = 3
why_number why.NotEmpty = 4
why_number why.Loop = 5
why_number why.Quota = 6
why_number why.BadName = 7
why_number why.TooDeep = 8
why_number why.TooLarge = 9

abbrev pub spell_reply : Reply → List ℕ
spell_reply (reply.Feed round clock es) = 65 ∷ key_bytes round.0 ++ in_bytes 8 clock ++ spell_entries es
spell_reply (reply.Listing key es) = 66 ∷ key_bytes key ++ spell_entries es
spell_reply (reply.Bytes key start bytes) = 67 ∷ key_bytes key ++ in_bytes 4 start ++ blob_bytes bytes
spell_reply (reply.Missing key) = 68 ∷ key_bytes key
spell_reply (reply.Done token rid version) = 69 ∷ key_bytes token.0 ++ in_bytes 8 rid.0 ++ in_bytes 8 version.0
spell_reply (reply.Void token) = 70 ∷ key_bytes token.0
spell_reply (reply.Refused token w version) = 71 ∷ key_bytes token.0 ++ why_number w ∷ [] ++ in_bytes 8 version.0
spell_reply (reply.Gone key) = 72 ∷ key_bytes key

abbrev pub spell_frame : Frame → List ℕ
spell_frame (frame.Request q) = spell_request q
spell_frame (frame.Reply answers r) = spell_reply r
