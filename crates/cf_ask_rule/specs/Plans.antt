-- What a step of the ask rule would do, before anything is changed.
use Rattle.std.specs.Prelude.{◌≡◌, not, List, [], Option, map, filter}
use Rattle.cf_base.specs.declared.ids.ItemId.{ItemId}
use Rattle.cf_base.specs.declared.ids.Key.{Key}
use Rattle.cf_base.specs.declared.waits.Cause.{Cause}
use Rattle.cf_model.specs.Asks.{ended_of, is_cancelled, left_of, new_asks, why}
use Rattle.cf_model.specs.Missing.{View, Wait}
use Rattle.cf_model.specs.Requests.{Deed, Live, Nothing}
use Rattle.cf_ask_rule.specs.Deeds.{after}

-- The waits that end, and those that are left; the keys of the asks that are cancelled, the asks that are kept, and those
-- that are made, still without keys.
pub record Outlook : Type 0 where
  pub ended : List (Wait × Cause)
  pub left : List Wait
  pub cancelled : List Key
  pub kept : List Live
  pub made : List Live

-- What changes by a step: the waits that end, the keys of the asks that are cancelled, the key of the ask that is over
-- without a line, the ask that blocks have left, and the asks that are made, still without keys. The item and the view are
-- those that it was worked out by.
pub record Planned : Type 0 where
  pub ended : List (Wait × Cause)
  pub cancelled : List Key
  pub dropped : Option Key
  pub changed : Option Live
  pub made : List Live
  pub item : ItemId
  pub view : View

abbrev pub plan_of : ItemId → View → Deed → List Wait → List Live → Outlook
plan_of item v d waits asks =
    let left : List Wait = left_of (why item v d asks) waits in
    let kept : List Live = filter (λ a. not (is_cancelled item v d left a)) (after d asks) in record {
      ended = ended_of (why item v d asks) waits;
      left = left;
      cancelled = map (λ a. a.ask.key) (filter (is_cancelled item v d left) (after d asks));
      kept = kept;
      made = new_asks item v left kept;
    }

-- The plan ends waits of these alone, cancels no ask, and makes what those of them that are left lack.
pub record Begins (item : ItemId) (v : View) (begun : List Wait) (asks : List Live) (o : Outlook) : Type 0 where
  pub ended : o.ended ≡ ended_of (why item v Nothing []) begun
  pub cancelled : o.cancelled ≡ []
  pub made : o.made ≡ new_asks item v (left_of (why item v Nothing []) begun) asks
