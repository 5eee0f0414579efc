-- Replies without entries: all that the items here tell of them is that an upload made one of them.
use Rattle.std.proofs.Common.{◌≡◌, Bool, true, false, cond, List, [], ◌∷◌, ◌&&◌, ◌==◌, refl}
use Rattle.std.specs.Prelude.{None, Some, not, nat_lt}
use Rattle.cf_base.specs.declared.ids.Rid.{Rid}
use Rattle.cf_base.specs.declared.messages.Reply.{Reply}
use Rattle.cf_base.specs.declared.messages.Reply.TheVariants as reply
use Rattle.cf_base.specs.declared.messages.Request.{Request}
use Rattle.cf_base.specs.declared.messages.Request.TheVariants as request
use Rattle.cf_engine_messages.specs.Staleness.{has_entries, is_one_of, made_item}
use Rattle.cf_model.specs.Fits.{Known, fits, is_known}
use Rattle.cf_model.specs.Numbers.{same_key}

impossible : {A : Type 0} → true ≡ false → A
impossible e = let z : true ≡ false = e in absurd cc

and_true : (b : Bool) → b ≡ (b && true)
and_true true = refl
and_true false = refl

-- of an item that is new, and of another
done_but : (ks : List Known) (s lt eq new : Bool) (told : Rid) → (s && cond new (lt && not (is_known ks told)) eq) ≡ ((s && cond new (lt && true) eq) && not (is_one_of ks (cond new (Some told) None)))
done_but ks true true eq true told = refl
done_but ks true false eq true told = refl
done_but ks false lt eq true told = refl
done_but ks s lt eq false told = and_true (s && eq)

pub unread : (ks : List Known) (settled : Rid) (q : Request) (r : Reply) → has_entries r ≡ false → fits ks settled q r ≡ (fits [] settled q r && not (is_one_of ks (made_item q settled r)))
unread ks settled q (reply.Feed round clock (e ∷ es)) none = impossible none
unread ks settled q (reply.Listing key (e ∷ es)) none = impossible none
unread ks settled (request.Feed a b) (reply.Feed round clock []) none = and_true (fits [] settled (request.Feed a b) (reply.Feed round clock []))
unread ks settled (request.Feed a b) (reply.Listing key []) none = and_true (fits [] settled (request.Feed a b) (reply.Listing key []))
unread ks settled (request.List a b) (reply.Feed round clock []) none = and_true (fits [] settled (request.List a b) (reply.Feed round clock []))
unread ks settled (request.List a b) (reply.Listing key []) none = and_true (fits [] settled (request.List a b) (reply.Listing key []))
unread ks settled (request.Fetch a b c d p) (reply.Feed round clock []) none = and_true (fits [] settled (request.Fetch a b c d p) (reply.Feed round clock []))
unread ks settled (request.Fetch a b c d p) (reply.Listing key []) none = and_true (fits [] settled (request.Fetch a b c d p) (reply.Listing key []))
unread ks settled (request.Put a b c d p f) (reply.Feed round clock []) none = and_true (fits [] settled (request.Put a b c d p f) (reply.Feed round clock []))
unread ks settled (request.Put a b c d p f) (reply.Listing key []) none = and_true (fits [] settled (request.Put a b c d p f) (reply.Listing key []))
unread ks settled (request.MakeDir a b c) (reply.Feed round clock []) none = and_true (fits [] settled (request.MakeDir a b c) (reply.Feed round clock []))
unread ks settled (request.MakeDir a b c) (reply.Listing key []) none = and_true (fits [] settled (request.MakeDir a b c) (reply.Listing key []))
unread ks settled (request.Move a b c d) (reply.Feed round clock []) none = and_true (fits [] settled (request.Move a b c d) (reply.Feed round clock []))
unread ks settled (request.Move a b c d) (reply.Listing key []) none = and_true (fits [] settled (request.Move a b c d) (reply.Listing key []))
unread ks settled (request.Remove a b c) (reply.Feed round clock []) none = and_true (fits [] settled (request.Remove a b c) (reply.Feed round clock []))
unread ks settled (request.Remove a b c) (reply.Listing key []) none = and_true (fits [] settled (request.Remove a b c) (reply.Listing key []))
unread ks settled (request.Settle a) (reply.Feed round clock []) none = and_true (fits [] settled (request.Settle a) (reply.Feed round clock []))
unread ks settled (request.Settle a) (reply.Listing key []) none = and_true (fits [] settled (request.Settle a) (reply.Listing key []))
unread ks settled (request.Keep a b) (reply.Feed round clock []) none = and_true (fits [] settled (request.Keep a b) (reply.Feed round clock []))
unread ks settled (request.Keep a b) (reply.Listing key []) none = and_true (fits [] settled (request.Keep a b) (reply.Listing key []))
unread ks settled (request.Feed a b) (reply.Done t told v) none = refl
unread ks settled (request.Feed a b) (reply.Void t) none = and_true (fits [] settled (request.Feed a b) (reply.Void t))
unread ks settled (request.Feed a b) (reply.Refused t w v) none = and_true (fits [] settled (request.Feed a b) (reply.Refused t w v))
unread ks settled (request.Feed a b) (reply.Bytes k at bytes) none = and_true (fits [] settled (request.Feed a b) (reply.Bytes k at bytes))
unread ks settled (request.Feed a b) (reply.Missing k) none = and_true (fits [] settled (request.Feed a b) (reply.Missing k))
unread ks settled (request.Feed a b) (reply.Gone k) none = and_true (fits [] settled (request.Feed a b) (reply.Gone k))
unread ks settled (request.List a b) (reply.Done t told v) none = refl
unread ks settled (request.List a b) (reply.Void t) none = and_true (fits [] settled (request.List a b) (reply.Void t))
unread ks settled (request.List a b) (reply.Refused t w v) none = and_true (fits [] settled (request.List a b) (reply.Refused t w v))
unread ks settled (request.List a b) (reply.Bytes k at bytes) none = and_true (fits [] settled (request.List a b) (reply.Bytes k at bytes))
unread ks settled (request.List a b) (reply.Missing k) none = and_true (fits [] settled (request.List a b) (reply.Missing k))
unread ks settled (request.List a b) (reply.Gone k) none = and_true (fits [] settled (request.List a b) (reply.Gone k))
unread ks settled (request.Fetch a b c d p) (reply.Done t told v) none = refl
unread ks settled (request.Fetch a b c d p) (reply.Void t) none = and_true (fits [] settled (request.Fetch a b c d p) (reply.Void t))
unread ks settled (request.Fetch a b c d p) (reply.Refused t w v) none = and_true (fits [] settled (request.Fetch a b c d p) (reply.Refused t w v))
unread ks settled (request.Fetch a b c d p) (reply.Bytes k at bytes) none = and_true (fits [] settled (request.Fetch a b c d p) (reply.Bytes k at bytes))
unread ks settled (request.Fetch a b c d p) (reply.Missing k) none = and_true (fits [] settled (request.Fetch a b c d p) (reply.Missing k))
unread ks settled (request.Fetch a b c d p) (reply.Gone k) none = and_true (fits [] settled (request.Fetch a b c d p) (reply.Gone k))
unread ks settled (request.Put a b c d p f) (reply.Done t told v) none = done_but ks (same_key a.0 t.0) (nat_lt 1 told.0) (b.0 == told.0) (b.0 == 0) told
unread ks settled (request.Put a b c d p f) (reply.Void t) none = and_true (fits [] settled (request.Put a b c d p f) (reply.Void t))
unread ks settled (request.Put a b c d p f) (reply.Refused t w v) none = and_true (fits [] settled (request.Put a b c d p f) (reply.Refused t w v))
unread ks settled (request.Put a b c d p f) (reply.Bytes k at bytes) none = and_true (fits [] settled (request.Put a b c d p f) (reply.Bytes k at bytes))
unread ks settled (request.Put a b c d p f) (reply.Missing k) none = and_true (fits [] settled (request.Put a b c d p f) (reply.Missing k))
unread ks settled (request.Put a b c d p f) (reply.Gone k) none = and_true (fits [] settled (request.Put a b c d p f) (reply.Gone k))
unread ks settled (request.MakeDir a b c) (reply.Done t told v) none = done_but ks (same_key a.0 t.0) (nat_lt 1 told.0) (0 == told.0) true told
unread ks settled (request.MakeDir a b c) (reply.Void t) none = and_true (fits [] settled (request.MakeDir a b c) (reply.Void t))
unread ks settled (request.MakeDir a b c) (reply.Refused t w v) none = and_true (fits [] settled (request.MakeDir a b c) (reply.Refused t w v))
unread ks settled (request.MakeDir a b c) (reply.Bytes k at bytes) none = and_true (fits [] settled (request.MakeDir a b c) (reply.Bytes k at bytes))
unread ks settled (request.MakeDir a b c) (reply.Missing k) none = and_true (fits [] settled (request.MakeDir a b c) (reply.Missing k))
unread ks settled (request.MakeDir a b c) (reply.Gone k) none = and_true (fits [] settled (request.MakeDir a b c) (reply.Gone k))
unread ks settled (request.Move a b c d) (reply.Done t told v) none = done_but ks (same_key a.0 t.0) (nat_lt 1 told.0) (b.0 == told.0) (b.0 == 0) told
unread ks settled (request.Move a b c d) (reply.Void t) none = and_true (fits [] settled (request.Move a b c d) (reply.Void t))
unread ks settled (request.Move a b c d) (reply.Refused t w v) none = and_true (fits [] settled (request.Move a b c d) (reply.Refused t w v))
unread ks settled (request.Move a b c d) (reply.Bytes k at bytes) none = and_true (fits [] settled (request.Move a b c d) (reply.Bytes k at bytes))
unread ks settled (request.Move a b c d) (reply.Missing k) none = and_true (fits [] settled (request.Move a b c d) (reply.Missing k))
unread ks settled (request.Move a b c d) (reply.Gone k) none = and_true (fits [] settled (request.Move a b c d) (reply.Gone k))
unread ks settled (request.Remove a b c) (reply.Done t told v) none = done_but ks (same_key a.0 t.0) (nat_lt 1 told.0) (b.0 == told.0) (b.0 == 0) told
unread ks settled (request.Remove a b c) (reply.Void t) none = and_true (fits [] settled (request.Remove a b c) (reply.Void t))
unread ks settled (request.Remove a b c) (reply.Refused t w v) none = and_true (fits [] settled (request.Remove a b c) (reply.Refused t w v))
unread ks settled (request.Remove a b c) (reply.Bytes k at bytes) none = and_true (fits [] settled (request.Remove a b c) (reply.Bytes k at bytes))
unread ks settled (request.Remove a b c) (reply.Missing k) none = and_true (fits [] settled (request.Remove a b c) (reply.Missing k))
unread ks settled (request.Remove a b c) (reply.Gone k) none = and_true (fits [] settled (request.Remove a b c) (reply.Gone k))
unread ks settled (request.Settle a) (reply.Done t told v) none = done_but ks (same_key a.0 t.0) (nat_lt 1 told.0) (settled.0 == told.0) (settled.0 == 0) told
unread ks settled (request.Settle a) (reply.Void t) none = and_true (fits [] settled (request.Settle a) (reply.Void t))
unread ks settled (request.Settle a) (reply.Refused t w v) none = and_true (fits [] settled (request.Settle a) (reply.Refused t w v))
unread ks settled (request.Settle a) (reply.Bytes k at bytes) none = and_true (fits [] settled (request.Settle a) (reply.Bytes k at bytes))
unread ks settled (request.Settle a) (reply.Missing k) none = and_true (fits [] settled (request.Settle a) (reply.Missing k))
unread ks settled (request.Settle a) (reply.Gone k) none = and_true (fits [] settled (request.Settle a) (reply.Gone k))
unread ks settled (request.Keep a b) (reply.Done t told v) none = and_true (same_key a.0 t.0 && (1 == told.0))
unread ks settled (request.Keep a b) (reply.Void t) none = and_true (fits [] settled (request.Keep a b) (reply.Void t))
unread ks settled (request.Keep a b) (reply.Refused t w v) none = and_true (fits [] settled (request.Keep a b) (reply.Refused t w v))
unread ks settled (request.Keep a b) (reply.Bytes k at bytes) none = and_true (fits [] settled (request.Keep a b) (reply.Bytes k at bytes))
unread ks settled (request.Keep a b) (reply.Missing k) none = and_true (fits [] settled (request.Keep a b) (reply.Missing k))
unread ks settled (request.Keep a b) (reply.Gone k) none = and_true (fits [] settled (request.Keep a b) (reply.Gone k))
