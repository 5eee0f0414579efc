-- What a pass reports that hydrates files too, and what it leaves where it reports nothing.
use Rattle.std.specs.Prelude.{Bool, true, false, List, Some, ◌&&◌, ◌||◌, ◌++◌, ◌≡◌, ◌⊎◌}
use Rattle.std.specs.List.{list_any}
use Rattle.cf_base.specs.declared.ids.ItemId.{ItemId}
use Rattle.cf_base.specs.declared.messages.Reply.TheVariants as reply
use Rattle.cf_base.specs.declared.notices.Frame.{Frame}
use Rattle.cf_base.specs.declared.notices.Frame.TheVariants as frame
use Rattle.cf_base.specs.declared.notices.Notice.{Notice}
use Rattle.cf_base.specs.declared.notices.Notice.TheVariants as notice
use Rattle.cf_base.specs.declared.waits.Ask.{Ask}
use Rattle.cf_model.specs.Items.{Item, item_of}
use Rattle.cf_model.specs.Missing.{Wait}
use Rattle.cf_model.specs.Numbers.{same_key}
use Rattle.cf_model.specs.Pushes.{is_hydrating}
use Rattle.cf_model.specs.Requests.{Live, is_dehydrate, is_dehydrate_wait, is_list, is_list_wait}
use Rattle.cf_model.specs.Skips.{in_use}
use Rattle.cf_model.specs.State.{State, book_now, items_now}
use Rattle.cf_model_laws.specs.Invariant.{All}
use Rattle.cf_model_convergence.specs.Matching.{IsBelow}
use Rattle.cf_model_convergence.specs.Telling.{IsUnfair, is_loud}

abbrev pub is_missing : Frame → Bool
is_missing (frame.Reply answers (reply.Missing key)) = true
is_missing _ = false

-- a loud line, or a reply that there are no such bytes
abbrev pub is_heard : Notice → Bool
is_heard (notice.Message m) = is_loud (notice.Message m) || is_missing m.frame
is_heard n = is_loud n

-- such a line came, or the remote did not keep its rules
pub record IsHeard (s t : State) : Type 0 where
  pub lines : List Notice
  pub noted : t.filter.notes ≡ s.filter.notes ++ lines
  pub heard : (list_any is_heard lines ≡ true) ⊎ IsUnfair t

-- An ask for bytes, and a call that waits for bytes.
abbrev pub IsPlainAsk : Ask → Type 0
IsPlainAsk a = (is_list a.kind ≡ false) × (is_dehydrate a.kind ≡ false)

-- a live ask is for the dehydration that waits
abbrev pub is_asked_for : List Live → Wait → Bool
is_asked_for asks w = list_any (λ a. is_dehydrate a.ask.kind && same_key a.wait.0 w.id.0) asks

abbrev pub IsPlainWait : List Live → Wait → Type 0
IsPlainWait asks w = (is_list_wait w.kind ≡ false) × (is_dehydrate_wait w.kind ≡ true → is_asked_for asks w ≡ true)

-- no list call waits, and a live ask is for each dehydration that does
abbrev pub ArePlainWaits : State → Type 0
ArePlainWaits s = All (IsPlainWait s.filter.waiting.asks) s.filter.waiting.waits

-- A provider is connected. No list call waits, and a live ask is for each dehydration that does; no callback of such an ask is still to be called.
pub record IsOpenTo (s : State) : Type 0 where
  pub connected : s.filter.connected ≡ true
  pub waits : ArePlainWaits s
  pub boxed : All IsPlainAsk s.filter.outbox

-- whatever stands in an item stands in a directory
abbrev pub AreDirs : State → Type 0
AreDirs s = (i p : Item) → IsBelow s i → item_of (items_now s) i.parent ≡ Some p → p.directory ≡ true

-- Nothing but what waits, is asked and was accessed is another, with lines. What was waited for still is, and what is newly in use is a file.
pub record IsCalm (s t : State) : Type 0 where
  pub items : items_now t ≡ items_now s
  pub cursor : (book_now t).cursor ≡ (book_now s).cursor
  pub entries : (book_now t).entries ≡ (book_now s).entries
  pub seen : (book_now t).seen ≡ (book_now s).seen
  pub tombstones : (book_now t).tombstones ≡ (book_now s).tombstones
  pub volatile : t.volatile ≡ s.volatile
  pub remote : t.link.remote ≡ s.link.remote
  pub inline : t.link.inline ≡ s.link.inline
  pub honest : t.link.honest ≡ s.link.honest
  pub shows : t.running.shows_skips ≡ s.running.shows_skips
  pub busy : (id : ItemId) → in_use s id ≡ true → in_use t id ≡ true
  pub hydrating : (id : ItemId) → is_hydrating id s ≡ true → is_hydrating id t ≡ true
  pub fresh : (id : ItemId) → in_use t id ≡ true → (in_use s id ≡ true) ⊎ ((i : Item) × (item_of (items_now s) id ≡ Some i) × (i.directory ≡ false))
