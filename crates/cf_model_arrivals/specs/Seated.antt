-- Where the entries of a feed come to stand.
use Rattle.std.specs.Prelude.{ℕ, Bool, true, false, List, [], ◌∷◌, filter, Option, Some, ◌≡◌}
use Rattle.cf_base.specs.declared.messages.Entry.{Entry}
use Rattle.cf_base.specs.declared.messages.Reply.TheVariants as reply
use Rattle.cf_base.specs.declared.notices.Frame.{Frame}
use Rattle.cf_base.specs.declared.notices.Frame.TheVariants as frame
use Rattle.cf_model.specs.Books.{Book}
use Rattle.cf_model.specs.Items.{Item}
use Rattle.cf_model.specs.State.{Link, Volume}
use Rattle.cf_model_laws.specs.GivenOnce.{WasGiven}
use Rattle.cf_model_laws.specs.Invariant.{All, Among}
use Rattle.cf_model_laws.specs.Premises.{IsFair}
use Rattle.cf_model_convergence.specs.Lasting.{LastsIn}
use Rattle.cf_model_populated.specs.Accounted.{AreAccountedFor, buries_directory}
use Rattle.cf_model_arrivals.specs.Kept.{AreKept}

-- The parent of each is one of these directories, or one of the entries before it.
abbrev pub AreSeats : List (ℕ × Bool) → List Entry → Type 0
AreSeats ks [] = Unit {0}
AreSeats ks (e ∷ es) = ((e.parent.0 ≡ 0) → ⊥) × Among (e.parent.0, true) ks × AreSeats ((e.rid.0, e.dir) ∷ ks) es

-- The parent of each live entry is a directory that is here and that no entry tells, or that a live entry before it tells.
pub record AreSeated (items : List Item) (es : List Entry) : Type 0 where
  pub outs : List (ℕ × Bool)
  pub kept : AreKept items outs
  pub some : All (λ k. (k.0 ≡ 0 → ⊥) × (k.1 ≡ true)) outs
  pub untold : All (λ e. All (λ k. e.rid.0 ≡ k.0 → ⊥) outs) es
  pub seats : AreSeats outs (filter (λ e. e.live) es)

-- A reply to a feed of the latest round, while that is awaited, where no tombstone is a directory's.
abbrev pub IsSeatedIn : List Item → Book → ℕ → ℕ → Bool → Option Frame → Type 0
IsSeatedIn items b epoch rounds awaited (Some (frame.Reply answers (reply.Feed round clock es))) =
    WasGiven epoch rounds round.0 × (round.0 ≡ record { epoch = epoch; number = rounds } → awaited ≡ true → buries_directory b ≡ false → AreSeated items es)
IsSeatedIn items b epoch rounds awaited f = Unit {0}

-- With what the cursor has passed, which is here.
abbrev pub HasArrived : Link → ℕ → Bool → Volume → Type 0
HasArrived l rounds awaited v = IsFair l → LastsIn AreAccountedFor l.remote v × All (IsSeatedIn v.items v.book v.epoch rounds awaited) l.messages
