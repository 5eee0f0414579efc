-- What the messages tell of the remote: what was asked for in the latest round, and what replies to feeds and to lists told.
use Rattle.std.specs.Prelude.{ℕ, Bool, true, List, Option, Some, None, ◌<◌, ◌≤◌, ◌≡◌}
use Rattle.cf_base.specs.declared.ids.Key.{Key}
use Rattle.cf_base.specs.declared.ids.Rid.{Rid}
use Rattle.cf_base.specs.declared.ids.Round.{Round}
use Rattle.cf_base.specs.declared.messages.Entry.{Entry}
use Rattle.cf_base.specs.declared.messages.Reply.TheVariants as reply
use Rattle.cf_base.specs.declared.messages.Request.TheVariants as request
use Rattle.cf_base.specs.declared.notices.Frame.{Frame}
use Rattle.cf_base.specs.declared.notices.Frame.TheVariants as frame
use Rattle.cf_model.specs.Numbers.{same_key}
use Rattle.cf_model.specs.Requests.{Live, Waiting, is_list}
use Rattle.cf_model.specs.State.{State, book_now}
use Rattle.cf_model.specs.Store.{Held, Stored, entry_told, stored_at}
use Rattle.cf_model_laws.specs.GivenOnce.{WasGiven}
use Rattle.cf_model_laws.specs.Invariant.{All, message_in}
use Rattle.cf_model_laws.specs.Premises.{IsFair}
use Rattle.cf_model_convergence.specs.Passed.{IsToldOrLate, TellsBetween}
use Rattle.cf_model_convergence.specs.Tidy.{IsTidy}

-- the item was changed after the time
abbrev pub IsLate : Held → ℕ → Rid → Type 0
IsLate r time rid = (x : Stored) → stored_at r.items rid ≡ Some x → time < x.changed

-- A feed that was told at a clock so far, which reported what was changed after a time: it told each item that was changed since then, and
-- not after the clock; each item of an entry was changed after the time, and is as it was told, or was changed after the clock.
pub record IsFeedRight (r : Held) (after clock : ℕ) (es : List Entry) : Type 0 where
  pub order : after ≤ clock
  pub early : clock ≤ r.clock
  pub tells : TellsBetween r after clock es
  pub same : All (IsToldOrLate r clock) es
  pub late : All (λ e. IsLate r after e.rid) es

-- The feed of the latest round, while that is awaited, reported what was changed after the cursor. Replies to feeds are right, and the keys of
-- lists were given.
abbrev pub IsTrue : Held → List (Option Frame) → ℕ → ℕ → Bool → ℕ → ℕ → Option Frame → Type 0
IsTrue r ms epoch rounds awaited cursor keys (Some (frame.Request (request.Feed round after))) =
    WasGiven epoch rounds round.0 × (after ≤ r.clock) × (round.0 ≡ record { epoch = epoch; number = rounds } → awaited ≡ true → after ≡ cursor)
IsTrue r ms epoch rounds awaited cursor keys (Some (frame.Request (request.List key rid))) = WasGiven epoch keys key
IsTrue r ms epoch rounds awaited cursor keys (Some (frame.Request q)) = Unit {0}
IsTrue r ms epoch rounds awaited cursor keys (Some (frame.Reply answers (reply.Feed round clock es))) =
    (asked : Round) × (after : ℕ) × (message_in ms answers ≡ Some (frame.Request (request.Feed asked after))) × IsFeedRight r after clock es
IsTrue r ms epoch rounds awaited cursor keys (Some (frame.Reply answers (reply.Listing key es))) = WasGiven epoch keys key
IsTrue r ms epoch rounds awaited cursor keys (Some (frame.Reply answers a)) = Unit {0}
IsTrue r ms epoch rounds awaited cursor keys None = Unit {0}

-- where the cursor has passed the item of the entry, the entry tells it as it is
abbrev pub IsToldNow : Held → ℕ → Entry → Type 0
IsToldNow r cursor e = (e.rid.0 ≡ 1 → ⊥) → (x : Stored) → stored_at r.items e.rid ≡ Some x → x.changed ≤ cursor → e ≡ entry_told x

-- so it is of each entry of a listing with the key, which is live
abbrev pub IsListedRight : Held → ℕ → Key → Option Frame → Type 0
IsListedRight r cursor key (Some (frame.Reply answers (reply.Listing other es))) = same_key key other ≡ true → All (λ e. (e.live ≡ true) × IsToldNow r cursor e) es
IsListedRight r cursor key f = Unit {0}

-- of each list ask that is live
abbrev pub AreListsRight : Held → List (Option Frame) → ℕ → List Live → Type 0
AreListsRight r ms cursor asks = All (λ a. is_list a.ask.kind ≡ true → All (IsListedRight r cursor a.ask.key) ms) asks

pub record AreMessagesTrue (r : Held) (ms : List (Option Frame)) (epoch rounds : ℕ) (awaited : Bool) (cursor : ℕ) (w : Waiting) : Type 0 where
  pub same_epoch : w.epoch ≡ epoch
  pub messages : All (IsTrue r ms epoch rounds awaited cursor w.key_count) ms
  pub lists : AreListsRight r ms cursor w.asks

-- of a state, over a remote that keeps its rules and is tidy
abbrev pub TellsTrue : State → Type 0
TellsTrue s =
    IsFair s.link → IsTidy s.link.remote × AreMessagesTrue s.link.remote s.link.messages s.filter.volume.epoch s.volatile.rounds s.volatile.round_open (book_now s).cursor s.filter.waiting
