-- A change put, with a commit before it where it needs room.
use Rattle.std.proofs.Common.{◌≡◌, inl, inr, ⊎_elim, ℕ, ◌+◌, Bool, true, false, ◌&&◌, ◌||◌, cond, ltb, List, [], ◌∷◌, length, Option, Some, None, refl, sym, ◌∙◌, ap, subst, arith}
use Rattle.std.specs.Prelude.{Err, Ok, is_some}
use Rattle.std.proofs.lemmas.Bool.{true≢false}
use Rattle.std.proofs.lemmas.List.{take_all}
use Rattle.std.proofs.lemmas.Option.{none-some, same_Some}
use Rattle.cf_base.specs.declared.changes.Change.{Change}
use Rattle.cf_base.specs.declared.codes.Code.{Code}
use Rattle.cf_base.specs.declared.codes.Code.TheVariants as code
use Rattle.cf_base.specs.declared.codes.CallError.{CallError}
use Rattle.cf_base.specs.declared.codes.CallError.TheVariants.{OutOfMemory, No}
use Rattle.cf_base.specs.declared.ids.Usn.{Usn}
use Rattle.cf_disk.specs.Disk.{State}
use Rattle.cf_model.specs.Blocks.{is_full, passes_clusters, puts_into}
use Rattle.cf_model.specs.Changes.{lacks_numbers, may_need_room, no_blocks, no_table, put_change, why_no_room}
use Rattle.cf_model.specs.Points.{with_room_point}
use Rattle.cf_model.specs.State.{Volume}
use Rattle.cf_volume_points.specs.At.{At, StandsLast, StandsNow}
use Rattle.cf_volume_points.specs.Known.{Known}
use Rattle.cf_volume_points.specs.Standing.{Standing}
use Rattle.cf_volume.specs.Accepted.{FollowsAim, IsDone, IsJudged}
use Rattle.cf_volume_changes.specs.Calls.{Answers, IsKept, IsStopping, OnDisk, StopsOnly}

-- a room point is the volume now
pub room_now : (v : Volume) (c : List ℕ) → StandsLast (with_room_point v) c → StandsNow v c
room_now v c h = subst (λ (l : List (Usn × Change)). Standing v.epoch c l v.book) (take_all (length v.log) v.log (omega arith)) h

-- no change waits after a commit

not_full : (x t b : Bool) → cond x (Some code.Exhausted) (cond t (Some code.TableFull) (cond b (Some code.Full) None)) ≡ None → b ≡ false
not_full true t b e = absurd (none-some code.Exhausted (sym e))
not_full false true b e = absurd (none-some code.TableFull (sym e))
not_full false false true e = absurd (none-some code.Full (sym e))
not_full false false false e = refl

pub none_waits : (c : Change) (v : Volume) → why_no_room (c ∷ []) v ≡ None → may_need_room c (with_room_point v) ≡ true → ⊥
none_waits c v fits waits =
    let n : ℕ = length (puts_into v.items c) in
    let room : passes_clusters v.clusters v.items n ≡ false = first (is_full v.clusters v.items c) (not_full (lacks_numbers v (c ∷ [])) (no_table v (c ∷ [])) (no_blocks v (c ∷ [])) fits) in
    let same : 0 + n ≡ n = omega arith in
    true≢false (sym (second (ltb 0 n) (passes_clusters v.clusters v.items (0 + n)) waits) ∙ ap (passes_clusters v.clusters v.items) same ∙ room)
  where
    first : (b : Bool) → (b || false) ≡ false → b ≡ false
    first true e = e
    first false e = e

    second : (a b : Bool) → (a && b) ≡ true → b ≡ true
    second true b e = e
    second false b e = absurd (true≢false (sym e))

-- a change that is not refused is stopped by the device or memory alone
pub judged_stop : (c : Change) (v : Volume) (e : CallError) → why_no_room (c ∷ []) v ≡ None → IsJudged c v (Err e) → StopsOnly e
judged_stop c v OutOfMemory fits h = tt
judged_stop c v (No code) fits h = ⊎_elim (λ stop. stop) (λ full. absurd (none-some code (sym fits ∙ full))) h

pub judged_none : (c : Change) (v : Volume) (o : Option Usn) → is_some o ≡ false → IsJudged c v (Ok o) → (why_no_room (c ∷ []) v ≡ None) × (may_need_room c v ≡ true)
judged_none c v None e h = h
judged_none c v (Some n) e h = absurd (true≢false e)

pub done_some : (c : Change) (v : Volume) (t : State) (k : Known) (o : Option Usn) → is_some o ≡ true → IsDone c v t k (Ok o) → At t k (put_change c v)
done_some c v t k None e h = absurd (true≢false (sym e))
done_some c v t k (Some n) e h = h

-- where the disk wants a commit
pub followed_some : (c : Change) (v : Volume) (s : State) (o : Option Usn) → is_some o ≡ true → FollowsAim c v s (Ok o) → s.settings.aim ≡ Some (length v.log) → may_need_room c v ≡ false
followed_some c v s None e h = absurd (true≢false (sym e))
followed_some c v s (Some n) e h = h

pub followed_none : (c : Change) (v : Volume) (s : State) (o : Option Usn) → is_some o ≡ false → FollowsAim c v s (Ok o) → (n : ℕ) → s.settings.aim ≡ Some n → n ≡ length v.log
followed_none c v s None e h = h
followed_none c v s (Some n) e h = absurd (true≢false e)

pub kept_none : {D : Type 0} → (d f : D) (k l : Known) (o : Option Usn) → is_some o ≡ false → IsKept d k (Ok o) f l → (f ≡ d) × (l ≡ k)
kept_none {D} d f k l None e h = h
kept_none {D} d f k l (Some n) e h = absurd (true≢false e)

-- a call that did nothing
pub same_at : {D : Type 0} → (state : D → State) (d f : D) (k l : Known) (v : Volume) → (f ≡ d) × (l ≡ k) → At (state d) k v → At (state f) l v
same_at {D} state d f k l v same at = subst (λ (x : D). At (state x) l v) (sym same.0) (subst (λ (x : Known). At (state d) x v) (sym same.1) at)

-- the answer of the call

-- the codes of these refusals
abbrev IsNoDevice : Code → Type 0
IsNoDevice code.Exhausted = Unit {0}
IsNoDevice code.TableFull = Unit {0}
IsNoDevice code.Full = Unit {0}
IsNoDevice _ = ⊥

full_or_number : (c : Code) → IsNoDevice c → c ≡ code.Device → ⊥
full_or_number c h is = subst IsNoDevice is h

no_device : (x t b : Bool) (c : Code) → cond x (Some code.Exhausted) (cond t (Some code.TableFull) (cond b (Some code.Full) None)) ≡ Some c → c ≡ code.Device → ⊥
no_device true t b c e is = full_or_number code.Exhausted tt (same_Some code.Exhausted c e ∙ is)
no_device false true b c e is = full_or_number code.TableFull tt (same_Some code.TableFull c e ∙ is)
no_device false false true c e is = full_or_number code.Full tt (same_Some code.Full c e ∙ is)
no_device false false false c e is = none-some c e

-- a volume that is not broken stays as it is where a change is refused
pub whole_answer : {D : Type 0} {o : OnDisk D} → (c : Change) (v : Volume) (d f : D) (k l : Known) (e : CallError) (b : Bool) → record { disk = d; known = k } ≡ o → k.broken ≡ false → IsStopping e b
    → Answers c v (record { disk = d; known = k }) (Err e) (record { disk = f; known = l }) → Answers c v o (Err e) (record { disk = f; known = record l { broken = b } })
whole_answer {D} {o} c v d f k l OutOfMemory b view whole stops h = tt
whole_answer {D} {o} c v d f k l (No code) b view whole stops h = ⊎_elim (λ stop. inl stop) (λ full. inr (full.0, same full.0 full.1)) h
  where
    same : why_no_room (c ∷ []) v ≡ Some code → ◌≡◌ {A = OnDisk D} (record { disk = f; known = l }) (record { disk = d; known = k }) → ◌≡◌ {A = OnDisk D} (record { disk = f; known = record l { broken = b } }) o
    same full e =
        let flag : b ≡ k.broken = stops.1 (no_device (lacks_numbers v (c ∷ [])) (no_table v (c ∷ [])) (no_blocks v (c ∷ [])) code full) ∙ sym whole in
        (λ i. record { disk = (e i).disk; known = record (e i).known { broken = flag i } }) ∙ view
