-- The answers that report that the remote failed, and its count.
use Rattle.std.proofs.Common.{◌≡◌, ◌≤◌, ℕ, ◌+◌, List, [], ◌∷◌, ◌++◌, sym, subst, arith}
use Rattle.std.specs.Prelude.{Ok, min}
use Rattle.cf_filter_events.specs.Faulted.{FaultsTo, faults_shown}
use Rattle.cf_base.specs.declared.answers.Answer.{Answer}
use Rattle.cf_base.specs.declared.events.Event.{Event}
use Rattle.cf_link.proofs.FaultCounts.{failed_rose, rose_both, rose_none}
use Rattle.cf_link.specs.Faults.{RoseBy, most_faults}
use Rattle.cf_remote.specs.Told.{Told}
use Rattle.cf_world_plays.specs.RemoteFaults.{faults_by}

faults_push : (trace : List (Event × Answer)) (e : Event) (a : Answer) → faults_by (trace ++ (e, a) ∷ []) ≡ faults_by trace + faults_shown a
faults_push [] e a = omega arith
faults_push (p ∷ ps) e a =
    let h = faults_push ps e a in
    omega (arith, h)

-- one more event
pub faulted_more : (trace : List (Event × Answer)) (e : Event) (a : Answer) (n : ℕ) (old new : Told) → RoseBy (faults_by trace) n old.faults → FaultsTo (Ok a) old new → RoseBy (faults_by (trace ++ (e, a) ∷ [])) n new.faults
faulted_more trace e a n old new h k =
    subst (λ (m : ℕ). RoseBy m n new.faults) (sym (faults_push trace e a)) (rose_both (faults_by trace) (faults_shown a) n old.faults new.faults h (failed_rose (faults_shown a) old new k))

pub faulted_none : (n m : ℕ) → m ≡ n → RoseBy 0 n m
faulted_none n m same = rose_none n m (omega (arith, same))

-- a count that stays at 0 rose by none

none_of : (cap n : ℕ) → 1 ≤ cap → min (0 + n) cap ≤ 0 → n ≡ 0
none_of cap n room h = omega (arith, room, h)

pub never : (n : ℕ) → RoseBy n 0 0 → n ≡ 0
never n h = none_of most_faults n (omega arith) h

pub never_faulted : (n m : ℕ) → RoseBy n 0 0 → RoseBy n m m
never_faulted n m h = subst (λ (k : ℕ). RoseBy k m m) (sym (never n h)) (rose_none m m (omega arith))

-- the count of the remote that an engine had and left is that of the one that was handed in and comes back
pub remote_count : {R : Type 0} (told : R → Told) (n : ℕ) (first had kept left : R) → had ≡ first → left ≡ kept → RoseBy n (told had).faults (told kept).faults → RoseBy n (told first).faults (told left).faults
remote_count told n first had kept left begun ended h =
    subst (λ r. RoseBy n (told r).faults (told left).faults) begun (subst (λ r. RoseBy n (told had).faults (told r).faults) (sym ended) h)
