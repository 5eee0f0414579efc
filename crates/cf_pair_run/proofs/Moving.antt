-- A world stands for a state with another actor, and with another link.
use Rattle.std.proofs.Common.{◌≡◌, ℕ, Bool, true, false, List, refl, sym, ◌∙◌}
use Rattle.cf_disk.specs.Disk.{State as Disk}
use Rattle.cf_filter_events.specs.Actors.{Acts}
use Rattle.cf_filter_events.specs.Meaning.{Is, IsOfEpoch, IsOff, IsOn, OnBy}
use Rattle.cf_filter_events.specs.Pasts.{Past}
use Rattle.cf_filter_events.specs.Stepped.{actor_of, disk_of, with_actor}
use Rattle.cf_filter_events.specs.declared.places.Acting.{Acting}
use Rattle.cf_filter_events.specs.declared.places.Acting.TheVariants as acting
use Rattle.cf_filter_events.specs.declared.places.Cut.{Cut}
use Rattle.cf_filter_events.specs.declared.places.RunningOn.{RunningOn as Run}
use Rattle.cf_model.specs.State.{Link, Point, State, with_link}

-- what is changed, and what stays

pub disk_stays : {D A B : Type 0} (b : B) (x : Acting D A) → disk_of (with_actor b x) ≡ disk_of x
disk_stays b (acting.On x) = refl
disk_stays b (acting.Off x) = refl

pub actor_is : {D A B : Type 0} (b : B) (x : Acting D A) → actor_of (with_actor b x) ≡ b
actor_is b (acting.On x) = refl
actor_is b (acting.Off x) = refl

pub last_actor : {D A B C : Type 0} (c : C) (b : B) (x : Acting D A) → with_actor c (with_actor b x) ≡ with_actor c x
last_actor c b (acting.On x) = refl
last_actor c b (acting.Off x) = refl

module _ {D A B : Type 0} (acts : Acts A) (bcts : Acts B) (state : D → Disk) (past : Past) (same : bcts.mode ≡ acts.mode) (s : State) (l : Link) (y : B) where
  on_by : (b : Bool) (x : Run D A) → (acts.stands x.actor s → bcts.stands y (with_link l s)) → (acts.holds x.actor s → bcts.holds y (with_link l s)) → OnBy acts state b x s → OnBy bcts state b (record { filter = x.filter; actor = y }) (with_link l s)
  on_by false x stands holds h = (h.0, stands h.1, h.2)
  on_by true x stands holds h = (h.0, holds h.1, h.2, h.3, h.4)

  on_moved : (x : Run D A) → (acts.stands x.actor s → bcts.stands y (with_link l s)) → (acts.holds x.actor s → bcts.holds y (with_link l s)) → IsOn acts state past x s → IsOn bcts state past (record { filter = x.filter; actor = y }) (with_link l s)
  on_moved x stands holds h = record { mode = h.mode ∙ sym same; quiet = h.quiet; disk = h.disk; is = on_by x.filter.desk.broken x stands holds h.is }

  of_epoch : (p : Point) (image : List ℕ) → IsOfEpoch s p image → IsOfEpoch (with_link l s) p image
  of_epoch p image h = record { taken = h.taken; few = h.few; stands = h.stands }

  off_moved : (x : Cut D A) → (acts.holds x.actor s → bcts.holds y (with_link l s)) → IsOff acts state past x s → IsOff bcts state past (record { disk = x.disk; policy = x.policy; whole = x.whole; actor = y }) (with_link l s)
  off_moved x holds h = record {
    mode = h.mode ∙ sym same;
    power = h.power;
    holds = holds h.holds;
    policy = h.policy;
    disk = h.disk;
    point = h.point;
    opens = h.opens;
    newest = h.newest;
    kept = h.kept;
    lasts = λ c may. of_epoch h.point c (h.lasts c may);
    image = h.image;
    last = h.last;
    left = h.left;
  }

  pub moved : (x : Acting D A) → (acts.stands (actor_of x) s → bcts.stands y (with_link l s)) → (acts.holds (actor_of x) s → bcts.holds y (with_link l s)) → Is acts state past x s → Is bcts state past (with_actor y x) (with_link l s)
  moved (acting.On x) stands holds h = on_moved x stands holds h
  moved (acting.Off x) stands holds h = off_moved x holds h
