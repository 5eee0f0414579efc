-- The answers that tell of a device call that failed, the disk's count, and what is armed.
use Rattle.std.proofs.Common.{◌≡◌, ◌≤◌, ℕ, ◌+◌, Bool, true, false, List, [], ◌∷◌, ◌++◌, refl, sym, ap, subst, arith}
use Rattle.std.specs.Prelude.{None, Ok, Option, Some, cond, option_map}
use Rattle.cf_filter_events.specs.Counted.{CountsBy, arms, meets_device}
use Rattle.cf_filter_events.specs.Stepped.{Bears}
use Rattle.cf_base.specs.declared.answers.Answer.{Answer}
use Rattle.cf_base.specs.declared.events.DeviceEvent.TheVariants as device
use Rattle.cf_base.specs.declared.events.Event.{Event}
use Rattle.cf_base.specs.declared.events.Event.TheVariants as event
use Rattle.cf_disk.specs.Disk.{State as Disk, capped, may_fail}
use Rattle.cf_filter_machine.specs.Sensing.{Rose}
use Rattle.cf_world_plays.specs.Led.{FailsArmed, armed_after, armed_then, met_by}

met_push : (trace : List (Event × Answer)) (e : Event) (a : Answer) → met_by (trace ++ (e, a) ∷ []) ≡ met_by trace + cond (meets_device a.shown) 1 0
met_push [] e a = omega arith
met_push (p ∷ ps) e a =
    let h = met_push ps e a in
    omega (arith, h)

-- the count before and after one more event
counted_more : (n m : ℕ) (b : Bool) (c d : ℕ) → capped (n + m) ≤ c → c ≤ d → (b ≡ true → capped (c + 1) ≤ d) → capped (n + (m + cond b 1 0)) ≤ d
counted_more n m true c d h least rose = let k = rose refl in omega (arith, h, least, k)
counted_more n m false c d h least rose = omega (arith, h, least)

pub met_more : (trace : List (Event × Answer)) (e : Event) (a : Answer) (n : ℕ) (c d : Disk) → capped (n + met_by trace) ≤ c.faults → CountsBy (arms e) (Ok a) c d → capped (n + met_by (trace ++ (e, a) ∷ [])) ≤ d.faults
met_more trace e a n c d h counts =
    subst (λ (m : ℕ). capped (n + m) ≤ d.faults) (sym (met_push trace e a)) (counted_more n (met_by trace) (meets_device a.shown) c.faults d.faults h counts.0 (λ met. (counts.2 met).0))

pub met_none : (n f : ℕ) → n ≤ f → capped (n + 0) ≤ f
met_none n f h = omega (arith, h)

-- what is armed before and after one more event

fails_push : (b : Bool) (trace : List (Event × Answer)) (e : Event) (a : Answer) → FailsArmed b trace → (meets_device a.shown ≡ true → armed_after b trace ≡ true) → FailsArmed b (trace ++ (e, a) ∷ [])
fails_push b [] e a f h = (h, record {})
fails_push b (p ∷ ps) e a f h = (f.0, fails_push (armed_then b p.0) ps e a f.1 h)

after_push : (b : Bool) (trace : List (Event × Answer)) (e : Event) (a : Answer) → armed_after b (trace ++ (e, a) ∷ []) ≡ armed_then (armed_after b trace) e
after_push b [] e a = refl
after_push b (p ∷ ps) e a = after_push (armed_then b p.0) ps e a

-- a disk that reports what is armed, whatever the stops were
none_told : {X : Type 0} (b : Bool) → 2 ≤ cond b 1 0 → X
none_told true h = absurd (omega (arith, h))
none_told false h = absurd (omega (arith, h))

stopped : (b : Bool) (calls : ℕ) (c d : Option (Option ℕ)) → may_fail c ≤ cond b 1 0 → d ≡ option_map (λ _. Some calls) c → may_fail d ≤ 1
stopped b calls None d h is = none_told b h
stopped b calls (Some n) d h is = omega (arith, ap may_fail is)

cut : (b : Bool) (c d : Option (Option ℕ)) → may_fail c ≤ cond b 1 0 → d ≡ option_map (λ _. None) c → may_fail d ≤ 0
cut b None d h is = none_told b h
cut b (Some n) d h is = omega (arith, ap may_fail is)

armed_one : (b : Bool) (e : Event) (c d : Disk) → may_fail c.armed ≤ cond b 1 0 → Bears e c d → may_fail d.armed ≤ may_fail c.armed + arms e → may_fail d.armed ≤ cond (armed_then b e) 1 0
armed_one b (event.Call x) c d h bears calm = omega (arith, h, calm)
armed_one b (event.Device (device.Stop calls)) c d h bears calm = stopped b calls c.armed d.armed h bears
armed_one b (event.Device (device.Crash choice)) c d h bears calm = cut b c.armed d.armed h bears.armed
armed_one b (event.Device device.Restart) c d h bears calm = omega (arith, h, calm)
armed_one b (event.Peer x) c d h bears calm = omega (arith, h, calm)
armed_one b (event.Engine x) c d h bears calm = omega (arith, h, calm)
armed_one b (event.Provider x) c d h bears calm = omega (arith, h, calm)

-- a call failed, so the disk is armed
armed_so : (b : Bool) (c d : Disk) → may_fail c.armed ≤ cond b 1 0 → Rose c d → b ≡ true
armed_so true c d h rose = refl
armed_so false c d h rose = absurd (omega (arith, h, rose.1))

abbrev pub IsArmed : List (Event × Answer) → Disk → Type 0
IsArmed trace d = FailsArmed false trace × (may_fail d.armed ≤ cond (armed_after false trace) 1 0)

pub armed_more : (trace : List (Event × Answer)) (e : Event) (a : Answer) (c d : Disk) → Bears e c d → CountsBy (arms e) (Ok a) c d → IsArmed trace c → IsArmed (trace ++ (e, a) ∷ []) d
armed_more trace e a c d bears counts h = (
  fails_push false trace e a h.0 (λ met. armed_so (armed_after false trace) c d h.1 (counts.2 met)),
  subst (λ (b : Bool). may_fail d.armed ≤ cond b 1 0) (sym (after_push false trace e a)) (armed_one (armed_after false trace) e c d h.1 bears counts.1),
)

-- a disk that reports what is armed
pub at_most : (trace : List (Event × Answer)) (d : Disk) → IsArmed trace d → may_fail d.armed ≤ 1
at_most trace d h = by (armed_after false trace) h.1 where
  by : (b : Bool) → may_fail d.armed ≤ cond b 1 0 → may_fail d.armed ≤ 1
  by true le = omega (arith, le)
  by false le = omega (arith, le)

pub armed_none : (d e : Disk) → d.armed ≡ Some None → may_fail e.armed ≤ may_fail d.armed → IsArmed [] e
armed_none d e none calm = (record {}, omega (arith, calm, ap may_fail none))
