-- Lines of faults, the asks that failed, and how the remote's count rises.
use Rattle.std.proofs.Common.{◌≡◌, ◌≤◌, ℕ, ◌+◌, Bool, true, false, not, cond, ◌==◌, refl, ap, subst, ◌∙◌, List, [], ◌∷◌, ◌++◌, arith}
use Rattle.std.specs.Prelude.{Option, Some, None, is_some, min}
use Rattle.cf_base.specs.declared.messages.Request.{Request}
use Rattle.cf_base.specs.declared.messages.Reply.{Reply}
use Rattle.cf_base.specs.declared.notices.Frame.{Frame}
use Rattle.cf_base.specs.declared.notices.Notice.{Notice}
use Rattle.cf_base.specs.declared.notices.Notice.TheVariants as notice
use Rattle.cf_base.specs.declared.notices.Sent.{Sent}
use Rattle.cf_link.specs.Faults.{AsksFailed, Once, RoseBy, Went, failures, faults_in, most_faults}
use Rattle.cf_link.specs.Linked.{Rises, lines_of, posted_line}
use Rattle.cf_link.specs.declared.posts.Posted.{Posted}
use Rattle.cf_model.specs.Store.{Held}
use Rattle.cf_remote.specs.Told.{Answers, Faults, Replies, Told}

none_by : (cap a b : ℕ) → a ≤ b → min (a + 0) cap ≤ b
none_by cap a b h = omega (arith, h)

both_by : (cap a b c n m : ℕ) → min (a + n) cap ≤ b → min (b + m) cap ≤ c → min (a + (n + m)) cap ≤ c
both_by cap a b c n m h k = omega (arith, h, k)

pub rose_none : (a b : ℕ) → a ≤ b → RoseBy 0 a b
rose_none a b h = none_by most_faults a b h

pub rose_both : (n m a b c : ℕ) → RoseBy n a b → RoseBy m b c → RoseBy (n + m) a c
rose_both n m a b c h k = both_by most_faults a b c n m h k

-- asks

pub failed_none : (t : Told) → AsksFailed 0 t t
failed_none t = record { asks = []; failed = refl; went = refl }

one_failed : (b : Bool) → ◌≡◌ {A = ℕ} (cond b 1 0 + 0) (cond b 1 0)
one_failed true = refl
one_failed false = refl

pub failed_once : (b : Bool) (old new : Told) → Once b old new → AsksFailed (cond b 1 0) old new
failed_once b old new h = record { asks = b ∷ []; failed = one_failed b; went = (new, h, refl) }

failures_both : (first second : List Bool) → failures (first ++ second) ≡ failures first + failures second
failures_both [] second = omega arith
failures_both (b ∷ bs) second = let h = failures_both bs second in omega (arith, h)

went_on : (first second : List Bool) (a b c : Told) → Went first a b → Went second b c → Went (first ++ second) a c
went_on [] second a b c h k = subst (λ (t : Told). Went second t c) h k
went_on (failed ∷ more) second a b c h k = (h.0, h.1, went_on more second h.0 b c h.2 k)

pub failed_both : (n m : ℕ) (a b c : Told) → AsksFailed n a b → AsksFailed m b c → AsksFailed (n + m) a c
failed_both n m a b c h k = record {
  asks = h.asks ++ k.asks;
  failed = (let all : failures (h.asks ++ k.asks) ≡ failures h.asks + failures k.asks = failures_both h.asks k.asks in let first = h.failed in let second = k.failed in omega (arith, all, first, second));
  went = went_on h.asks k.asks a b c h.went k.went;
}

-- the count rose with them
went_rose : (asks : List Bool) (old new : Told) → Went asks old new → RoseBy (failures asks) old.faults new.faults
went_rose [] old new h = let e = ap (λ (t : Told). t.faults) h in rose_none old.faults new.faults (omega (arith, e))
went_rose (failed ∷ more) old new h = rose_both (cond failed 1 0) (failures more) old.faults h.0.faults new.faults h.1.rose (went_rose more h.0 new h.2)

pub failed_rose : (n : ℕ) (old new : Told) → AsksFailed n old new → RoseBy n old.faults new.faults
failed_rose n old new h = subst (λ (k : ℕ). RoseBy k old.faults new.faults) h.failed (went_rose h.asks old new h.went)

-- and the remote goes on with what it reports

went_tells : (asks : List Bool) (old new : Told) → Went asks old new → is_some new.held ≡ is_some old.held
went_tells [] old new h = ap (λ (t : Told). is_some t.held) h
went_tells (failed ∷ more) old new h = went_tells more h.0 new h.2 ∙ h.1.tells

pub failed_tells : (n : ℕ) (old new : Told) → AsksFailed n old new → is_some new.held ≡ is_some old.held
failed_tells n old new h = went_tells h.asks old new h.went

replies_tell : (q : Request) (r : Reply) (old new : Option Held) → Replies q r old new → is_some new ≡ is_some old
replies_tell q r None new h = ap (λ (o : Option Held). is_some o) h
replies_tell q r (Some held) new h = ap (λ (o : Option Held). is_some o) h.1

-- an ask by its result
pub once_answered : (q : Request) (r : Reply) (old new : Told) → Answers q r old new → Once false old new
once_answered q r old new h = record { counts = h.counts; rose = rose_none old.faults new.faults h.never_falls; tells = replies_tell q r old.held new.held h.replies }

pub once_failed : (old new : Told) → Faults old new → Once true old new
once_failed old new h = record { counts = h.counts; rose = h.rose; tells = ap (λ (o : Option Held). is_some o) h.held }

pub faults_both : (ns ms : List Notice) → faults_in (ns ++ ms) ≡ faults_in ns + faults_in ms
faults_both [] ms = omega arith
faults_both (n ∷ ns) ms = let h : faults_in (ns ++ ms) ≡ faults_in ns + faults_in ms = faults_both ns ms in omega (arith, h)

-- what a link's line reports of its one ask
pub rises_by : (line : Option Notice) (old new : Told) → Rises line old new → AsksFailed (faults_in (lines_of line)) old new
rises_by None old new h = failed_once false old new h
rises_by (Some (notice.Fault m)) old new h = failed_once true old new h
rises_by (Some (notice.Message m)) old new h = failed_once false old new h
rises_by (Some (notice.Change n c)) old new h = failed_once false old new h
rises_by (Some (notice.Background w i)) old new h = failed_once false old new h
rises_by (Some (notice.Ask a)) old new h = failed_once false old new h
rises_by (Some (notice.Cancel key)) old new h = failed_once false old new h
rises_by (Some (notice.Done w e)) old new h = failed_once false old new h
rises_by (Some (notice.Operation a)) old new h = failed_once false old new h
rises_by (Some (notice.Skipped c)) old new h = failed_once false old new h

-- a message reports none
no_fault : (b : Bool) (s : Sent) → faults_in (lines_of (cond b None (Some (notice.Message s)))) ≡ 0
no_fault true s = refl
no_fault false s = refl

pub posted_quiet : (f : Frame) (p : Posted) → faults_in (lines_of (posted_line f p)) ≡ 0
posted_quiet f p = no_fault (p.number == 0) (record { message = p.number; frame = f; lost = not p.kept })
