-- The numbers that the system gives: equality, order, and the next one.
use Rattle.std.specs.Prelude.{ℕ, Bool, nat_lt, ◌+◌, ◌&&◌, ◌||◌, ◌==◌}
use Rattle.cf_base.specs.declared.ids.ItemId.{ItemId}
use Rattle.cf_base.specs.declared.ids.Key.{Key}
use Rattle.cf_base.specs.declared.ids.Rid.{Rid}
use Rattle.cf_base.specs.declared.ids.Usn.{Usn}
use Rattle.cf_base.specs.declared.ids.Version.{Version}
use Rattle.cf_base.specs.declared.limits.TheConstants.{MOST_NUMBER}

-- the greatest epoch, and the greatest place, key, token, round, wait and handle number of an epoch
abbrev pub most : ℕ
most = MOST_NUMBER

-- the greatest item id
abbrev pub most_items : ℕ
most_items = 18446744073709551614

abbrev pub same_usn : Usn → Usn → Bool
same_usn a b = (a.epoch == b.epoch) && (a.place == b.place)

abbrev pub same_key : Key → Key → Bool
same_key a b = (a.epoch == b.epoch) && (a.number == b.number)

-- the first is above the second: of a later epoch, or of a later place in the same
abbrev pub above : Usn → Usn → Bool
above a b = nat_lt b.epoch a.epoch || ((a.epoch == b.epoch) && nat_lt b.place a.place)

-- 0.0, which comes before all numbers and stands for none
abbrev pub no_usn : Usn
no_usn = record { epoch = 0; place = 0 }

abbrev pub no_key : Key
no_key = record { epoch = 0; number = 0 }

abbrev pub is_no_usn : Usn → Bool
is_no_usn a = (a.epoch == 0) && (a.place == 0)

-- the number after the first n of an epoch
abbrev pub usn_after : ℕ → ℕ → Usn
usn_after epoch n = record { epoch = epoch; place = n + 1 }

abbrev pub key_after : ℕ → ℕ → Key
key_after epoch n = record { epoch = epoch; number = n + 1 }

-- n more numbers after the first given ones would pass the greatest
abbrev pub passes_most : ℕ → ℕ → Bool
passes_most given n = nat_lt most (given + n)

abbrev pub root_id : ItemId
root_id = record { 0 = 1 }

abbrev pub no_item : ItemId
no_item = record { 0 = 0 }

-- the root of the remote
abbrev pub root_rid : Rid
root_rid = record { 0 = 1 }

abbrev pub no_rid : Rid
no_rid = record { 0 = 0 }

abbrev pub no_version : Version
no_version = record { 0 = 0 }
