-- Parts of the filter as parts of the whole, and parts that report no fault.
use Rattle.std.proofs.Common.{◌≡◌, ◌++◌, ◌+◌, List, refl, ℕ, arith}
use Rattle.std.specs.Prelude.{Result, Ok, Err}
use Rattle.cf_base.specs.declared.changes.Change.{Change}
use Rattle.cf_base.specs.declared.codes.CallError.{CallError}
use Rattle.cf_base.specs.declared.codes.CallError.TheVariants.{No, OutOfMemory}
use Rattle.cf_base.specs.declared.notices.Notice.{Notice}
use Rattle.cf_engine_provider.specs.Agencies.{Agency, Sees}
use Rattle.cf_engine_steps.specs.Answering.{After, Answers, Any, On, Reads}
use Rattle.cf_engine_steps.specs.Faults.{fault_lines, rose_none}
use Rattle.cf_engine_steps.specs.States.{Means, Own, told_of, whole}
use Rattle.cf_engine_steps.specs.Quiet.{Quiet}
use Rattle.cf_link.specs.Faults.{faults_in}
use Rattle.cf_link.proofs.FaultCounts.{faults_both}
use Rattle.cf_model.specs.Arrows.{Arrow, Preserves}
use Rattle.cf_model.specs.Changes.{apply, change, same_book, tell_change}
use Rattle.cf_model.specs.State.{Filter, State, Volume, in_filter, in_volume, with_filter, with_notes, with_volume}
use Rattle.cf_model.specs.Trees.{Does}
use Rattle.cf_model.proofs.ArrowLaws.{does_lifted, keeps_const, keeps_lifted, keeps_noted, keeps_seq}
use Rattle.cf_model.proofs.TreeLaws.{kept_at_end, kept_at_stop}
use Rattle.cf_remote.specs.Told.{Told}
use Rattle.cf_filter_steps.specs.Answering as steps

-- with another filter it stands for the whole as it did

pub sees_filter : {R : Type 0} (told : R → Told) (p : Agency R) (s : State) (t : Filter) → Sees told p s → Sees told p (with_filter t s)
sees_filter told p s t h = record { replays = h.replays; link = h.link; shows_skips = h.shows_skips; skips = h.skips }

pub mean_filter : {X R : Type 0} (S : steps.Sense X) (told : R → Told) (x y : X) (e : Own R) (s : State) (t : Filter) → Means S told x e s → S.means y t → Means S told y e (with_filter t s)
mean_filter S told x y e s t h k = record {
  filter = k;
  on = h.on;
  sees = sees_filter told e.agent s t h.sees;
  took_done = h.took_done;
  first_clock = h.first_clock;
  volatile = h.volatile;
}

lift_after : {X R A : Type 0} (S : steps.Sense X) (told : R → Told) (f : Arrow Filter A) (x y : X) (e : Own R) (s : State) (t : Filter) (r : Result A CallError)
    → Quiet f → Means S told x e s → Does (f s.filter) r t → steps.After S x r y t → After (whole S told) (x, e) r (y, e) s (with_filter t s)
lift_after S told f x y e s t (Ok a) q h d k =
    (mean_filter S told x y e s t h k, rose_none (told_of told e) (fault_lines s.filter) (fault_lines t) (kept_at_end (λ (z : Filter). fault_lines z ≡ fault_lines s.filter) (f s.filter) a t ((q.keeps (fault_lines s.filter)).keeps s.filter refl) d))
lift_after S told f x y e s t (Err (No c)) q h d k = (
  record { filter = k; on = h.on; replays = h.sees.replays; link = h.sees.link },
  rose_none (told_of told e) (fault_lines s.filter) (fault_lines t) (kept_at_stop (λ (z : Filter). fault_lines z ≡ fault_lines s.filter) (f s.filter) t ((q.keeps (fault_lines s.filter)).keeps s.filter refl) d.1),
)
lift_after S told f x y e s t (Err OutOfMemory) q h d k = k

-- A part of the filter's sense is a part of the whole.
pub lift_filter : {X R A : Type 0} (S : steps.Sense X) (told : R → Told) (P : Filter → Type 0) (f : Arrow Filter A) (x y : X) (e : Own R) (r : Result A CallError)
    → Quiet f → steps.Answers S P f x r y → Answers (whole S told) (On P) (in_filter f) (x, e) r (y, e)
lift_filter S told P f x y e r q h = record {
  leads = λ s i p.
      let l = h.leads s.filter i.filter p in
      (with_filter l.0 s, does_lifted (λ (z : State). z.filter) with_filter f s r l.0 l.1, l.2, lift_after S told f x y e s l.0 r q i l.1 l.3);
}

pub lift_any : {X R A : Type 0} (S : steps.Sense X) (told : R → Told) (f : Arrow Filter A) (x y : X) (e : Own R) (r : Result A CallError)
    → Quiet f → steps.Answers S steps.Any f x r y → Answers (whole S told) Any (in_filter f) (x, e) r (y, e)
lift_any S told f x y e r q h = lift_filter S told steps.Any f x y e r q h

-- and so is what is read
pub lift_reads : {X R V : Type 0} (S : steps.Sense X) (told : R → Told) (P : Filter → Type 0) (v : Filter → V) (x : X) (e : Own R) (r : V)
    → steps.Reads S P v x r → Reads (whole S told) (On P) (λ s. v s.filter) (x, e) r
lift_reads S told P v x e r h = record { is = λ s i p. h.is s.filter i.filter p }

-- parts that report no fault

pub quiet_notes : (n : ℕ) (ms : List Notice) (s : Filter) → faults_in ms ≡ 0 → fault_lines s ≡ n → fault_lines (with_notes ms s) ≡ n
quiet_notes n ms s none h = let m : faults_in (s.notes ++ ms) ≡ faults_in s.notes + faults_in ms = faults_both s.notes ms in omega (arith, m, none, h)

pub quiet_volume : {A : Type 0} (n : ℕ) (f : Arrow Volume A) → Preserves (λ s. fault_lines s ≡ n) (in_volume f)
quiet_volume n f = keeps_lifted (λ s. fault_lines s ≡ n) (λ (s : Filter). s.volume) with_volume f (λ t h. h) (λ t h. keeps_const (fault_lines t ≡ n) f)

pub quiet_change : (c : Change) → Quiet (change c)
quiet_change c = record { keeps = λ n. keeps_seq (λ s. fault_lines s ≡ n) (in_volume (apply same_book c)) (tell_change c) (quiet_volume n (apply same_book c)) (λ u. keeps_noted (λ s. fault_lines s ≡ n) _ (λ s h. quiet_notes n _ s refl h)) }
