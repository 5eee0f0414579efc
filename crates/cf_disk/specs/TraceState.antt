-- A disk that keeps its past as a disk.
use Rattle.std.proofs.Common.{◌≡◌, ℕ, ◌+◌, ◌-◌, ◌^◌, ◌≤◌, cond, List, length, take, Option, Some, None, sym, subst, arith}
use Rattle.std.proofs.lemmas.List.{take_all}
use Rattle.cf_disk.specs.declared.trace_disks.TraceDisk.{TraceDisk}
use Rattle.cf_disk.specs.declared.trails.Head.{Head}
use Rattle.cf_disk.specs.Disk.{State, size_of}
use Rattle.cf_disk.specs.Images.{Held, IsImage, durable}
use Rattle.cf_disk.specs.Trails.{run_calls}

-- the images since the t-th call
abbrev pub LeftSince : Held → List (Head × List ℕ) → ℕ → List ℕ → Type 0
LeftSince start calls t c = (k : ℕ) × (t ≤ k) × (k ≤ length calls) × IsImage (run_calls start (take k calls)) c

-- the images since a time, where so many moments lie before the first call
abbrev pub Since : Option ℕ → Held → List (Head × List ℕ) → ℕ → List ℕ → Type 0
Since None start calls t c = ⊥
Since (Some before) start calls t c = (before ≤ t) × LeftSince start calls (t - before) c

abbrev pub Tells : Option ℕ → ℕ → Type 0
Tells None t = ⊥
Tells (Some before) t = before ≤ t

-- the time now; past all numbers of moments where it is not told any more
abbrev pub moment_of : Option ℕ → ℕ → ℕ
moment_of None calls = 2 ^ 65
moment_of (Some before) calls = before + calls

abbrev pub trace_state : TraceDisk → State
trace_state d = record {
  seen = d.medium.bytes;
  may_leave = IsImage d.medium;
  moment = moment_of d.before (length d.calls.calls);
  left_since = Since d.before (durable d.start.items) d.calls.calls;
  tells = Tells d.before;
  powers = cond d.powers.told (Some d.powers.kept) None;
  written = d.written;
  faults = d.faults;
  armed = None;
  settings = record { quota = 2 ^ 64 - 1; aim = d.aim };
}

pub one_size : (d : TraceDisk) (c : List ℕ) → (trace_state d).may_leave c → length c ≡ size_of (trace_state d)
one_size d c image = same _ _ _ image.size d.whole.reads_one.size
  where
    same : (a b m : ℕ) → a ≡ m → b ≡ m → a ≡ b
    same a b m p q = cc

since_now : (before : Option ℕ) (start now : Held) (calls : List (Head × List ℕ)) (c : List ℕ) → now ≡ run_calls start calls → Since before start calls (moment_of before (length calls)) c → IsImage now c
since_now None start now calls c is left = absurd left
since_now (Some b) start now calls c is left =
    subst (λ (h : Held). IsImage h c) (sym is)
    (subst (λ (l : List (Head × List ℕ)). IsImage (run_calls start l) c) (take_all left.1.0 calls (omega (arith, left.1.1))) left.1.3)

now_since : (before : Option ℕ) (start now : Held) (calls : List (Head × List ℕ)) (t : ℕ) (c : List ℕ) → now ≡ run_calls start calls → t ≤ moment_of before (length calls) → Tells before t → IsImage now c → Since before start calls t c
now_since None start now calls t c is le tells image = absurd tells
now_since (Some b) start now calls t c is le tells image =
    let here = subst (λ (l : List (Head × List ℕ)). IsImage (run_calls start l) c) (sym (take_all (length calls) calls (omega arith))) (subst (λ (h : Held). IsImage h c) is image) in
    (tells, (length calls, omega (arith, le, tells), omega arith, here))

pub tells_now : (d : TraceDisk) (t : ℕ) (c : List ℕ) → t ≤ (trace_state d).moment → (trace_state d).tells t → (trace_state d).may_leave c → (trace_state d).left_since t c
tells_now d t c le tells image = now_since d.before (durable d.start.items) d.medium d.calls.calls t c d.traced le tells image

pub no_other : (d : TraceDisk) (c : List ℕ) → (trace_state d).left_since (trace_state d).moment c → (trace_state d).may_leave c
no_other d c left = since_now d.before (durable d.start.items) d.medium d.calls.calls c d.traced left
