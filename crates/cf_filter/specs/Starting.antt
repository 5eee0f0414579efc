-- The desk as a filter begins.
use Rattle.std.specs.Prelude.{ℕ, true, false, [], None}
use Rattle.cf_base.specs.declared.policies.Policy.{Policy}
use Rattle.cf_filter_desk.specs.Desks.{Desk}
use Rattle.cf_model.specs.Requests.{none_waiting}

abbrev pub desk_at : ℕ → Policy → Desk
desk_at epoch policy = record {
  policy = policy;
  connected = true;
  handles = [];
  handle_count = 0;
  waiting = none_waiting epoch;
  outbox = [];
  own = None;
  ending = None;
  notes = [];
  broken = false;
  lost = false;
}
