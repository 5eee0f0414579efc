-- Whether a reply fits, by items that are known alike.
use Rattle.std.proofs.Common.{◌≡◌, Bool, not, cond, List, ◌&&◌, ◌==◌, refl, ap}
use Rattle.std.specs.Prelude.{nat_le, nat_lt}
use Rattle.std.specs.List.{list_all}
use Rattle.cf_base.specs.declared.ids.Rid.{Rid}
use Rattle.cf_base.specs.declared.ids.Token.{Token}
use Rattle.cf_base.specs.declared.messages.Entry.{Entry}
use Rattle.cf_base.specs.declared.messages.Reply.{Reply}
use Rattle.cf_base.specs.declared.messages.Reply.TheVariants as reply
use Rattle.cf_base.specs.declared.messages.Request.{Request}
use Rattle.cf_base.specs.declared.messages.Request.TheVariants as request
use Rattle.cf_engine_provider.specs.Listings.{AreAlike}
use Rattle.cf_model.specs.Fits.{Known, are_distinct, are_entries, fits, is_entry, is_listing, push_fits}
use Rattle.cf_model.specs.Numbers.{same_key}
use Rattle.cf_model.specs.Texts.{is_name}

entry_alike : (ks ls : List Known) (e : Entry) → AreAlike ks ls → is_entry ks e ≡ is_entry ls e
entry_alike ks ls e same = ap (λ (b : Bool). nat_lt 1 e.rid.0 && not (e.rid.0 == e.parent.0) && is_name e.name && b && cond e.dir ((e.version.0 == 0) && (e.len == 0)) (nat_le 1 e.version.0 && nat_le e.len 16777216)) (same.kind e)

all_alike : (ks ls : List Known) (es : List Entry) → AreAlike ks ls → list_all (is_entry ks) es ≡ list_all (is_entry ls) es
all_alike ks ls es same = ap (λ (p : Entry → Bool). list_all p es) (λ j. λ e. entry_alike ks ls e same j)

entries_alike : (ks ls : List Known) (es : List Entry) → AreAlike ks ls → are_entries ks es ≡ are_entries ls es
entries_alike ks ls es same = ap (λ (b : Bool). b && are_distinct es) (all_alike ks ls es same)

push_alike : (ks ls : List Known) (token : Token) (rid : Rid) (r : Reply) → AreAlike ks ls → push_fits ks token rid r ≡ push_fits ls token rid r
push_alike ks ls token rid (reply.Feed round clock es) same = refl
push_alike ks ls token rid (reply.Listing k es) same = refl
push_alike ks ls token rid (reply.Bytes k at bytes) same = refl
push_alike ks ls token rid (reply.Missing k) same = refl
push_alike ks ls token rid (reply.Done other told version) same = ap (λ (b : Bool). same_key token.0 other.0 && cond (rid.0 == 0) (nat_lt 1 told.0 && not b) (rid.0 == told.0)) (same.known told)
push_alike ks ls token rid (reply.Void other) same = refl
push_alike ks ls token rid (reply.Refused other w v) same = refl
push_alike ks ls token rid (reply.Gone k) same = refl

pub fits_alike : (ks ls : List Known) (a : Rid) (q : Request) (r : Reply) → AreAlike ks ls → fits ks a q r ≡ fits ls a q r
fits_alike ks ls a (request.Feed sent after) (reply.Feed round clock es) same = ap (λ (b : Bool). same_key sent.0 round.0 && b) (entries_alike ks ls es same)
fits_alike ks ls a (request.Feed sent after) (reply.Listing k es) same = refl
fits_alike ks ls a (request.Feed sent after) (reply.Bytes k at bytes) same = refl
fits_alike ks ls a (request.Feed sent after) (reply.Missing k) same = refl
fits_alike ks ls a (request.Feed sent after) (reply.Done other r v) same = refl
fits_alike ks ls a (request.Feed sent after) (reply.Void other) same = refl
fits_alike ks ls a (request.Feed sent after) (reply.Refused other w v) same = refl
fits_alike ks ls a (request.Feed sent after) (reply.Gone k) same = refl
fits_alike ks ls a (request.List key rid) (reply.Feed round clock es) same = refl
fits_alike ks ls a (request.List key rid) (reply.Listing k es) same = ap (λ (b : Bool). same_key key k && b && is_listing rid es) (entries_alike ks ls es same)
fits_alike ks ls a (request.List key rid) (reply.Bytes k at bytes) same = refl
fits_alike ks ls a (request.List key rid) (reply.Missing k) same = refl
fits_alike ks ls a (request.List key rid) (reply.Done other r v) same = refl
fits_alike ks ls a (request.List key rid) (reply.Void other) same = refl
fits_alike ks ls a (request.List key rid) (reply.Refused other w v) same = refl
fits_alike ks ls a (request.List key rid) (reply.Gone k) same = refl
fits_alike ks ls a (request.Fetch key rid version start len) (reply.Feed round clock es) same = refl
fits_alike ks ls a (request.Fetch key rid version start len) (reply.Listing k es) same = refl
fits_alike ks ls a (request.Fetch key rid version start len) (reply.Bytes k at bytes) same = refl
fits_alike ks ls a (request.Fetch key rid version start len) (reply.Missing k) same = refl
fits_alike ks ls a (request.Fetch key rid version start len) (reply.Done other r v) same = refl
fits_alike ks ls a (request.Fetch key rid version start len) (reply.Void other) same = refl
fits_alike ks ls a (request.Fetch key rid version start len) (reply.Refused other w v) same = refl
fits_alike ks ls a (request.Fetch key rid version start len) (reply.Gone k) same = refl
fits_alike ks ls a (request.Put token rid expect parent name bytes) r same = push_alike ks ls token rid r same
fits_alike ks ls a (request.MakeDir token parent name) r same = push_alike ks ls token (record { 0 = 0 }) r same
fits_alike ks ls a (request.Move token rid parent name) r same = push_alike ks ls token rid r same
fits_alike ks ls a (request.Remove token rid expect) r same = push_alike ks ls token rid r same
fits_alike ks ls a (request.Settle token) r same = push_alike ks ls token a r same
fits_alike ks ls a (request.Keep token count) r same = push_alike ks ls token (record { 0 = 1 }) r same
