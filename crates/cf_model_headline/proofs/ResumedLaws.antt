-- What a restart that resumes keeps, by the report.
use Rattle.std.proofs.Common.{◌≡◌, ◌≤◌, ℕ, List, [], ◌∷◌, ◌++◌, refl, sym, ◌∙◌, ap, subst, inl, inr, arith, length, take}
use Rattle.cf_base.specs.declared.answers.Answer.{Answer}
use Rattle.cf_base.specs.declared.answers.OpenedBook.{OpenedBook}
use Rattle.cf_base.specs.declared.answers.Shown.{Shown}
use Rattle.cf_base.specs.declared.answers.Shown.TheVariants as shown
use Rattle.cf_base.specs.declared.changes.Change.{Change}
use Rattle.cf_base.specs.declared.codes.Code.{Code}
use Rattle.cf_base.specs.declared.codes.Code.TheVariants as code
use Rattle.cf_base.specs.declared.ids.Usn.{Usn}
use Rattle.cf_base.specs.declared.policies.Mode.{Mode}
use Rattle.cf_model.specs.Events.{tree_of}
use Rattle.cf_model.specs.Lawful.{IsStep, Runs}
use Rattle.cf_model.specs.Points.{ArePoints, Opens}
use Rattle.cf_model.specs.State.{Point, State, start}
use Rattle.cf_model.specs.Store.{Held}
use Rattle.cf_model.specs.Trees.{Ends}
use Rattle.cf_model.proofs.FlushedLaws.{flushed_is_front}
use Rattle.cf_model.proofs.PointLaws.{started_with_points}
use Rattle.cf_model_laws.specs.Openings.{IsOpened, restarting}
use Rattle.cf_model_laws.specs.Premises.{IsFresh}
use Rattle.cf_model_laws.proofs.OpeningLaws.{flushed_kept, step_opens}
use Rattle.cf_model_headline.specs.Reports.{IsAnswered, Report, resumed_with, standing}
use Rattle.cf_model_headline.specs.Resumed.{ResumesRight, flushing}
use Rattle.cf_model_headline.proofs.StandingLaws.{shows_all, standing_more}
use Rattle.cf_model_headline.proofs.StepCases.{IsCase, IsOver, moment, step_case}

points_within : (n : ℕ) (ps : List Point) (p : Point) → ArePoints n ps → Opens ps p → p.count ≤ n
points_within n [] p h is = elim is as (λ _. p.count ≤ n) [ ]
points_within n (q ∷ []) p h (inl e) = rw e h.1
points_within n (q ∷ []) p h (inr is) = elim is as (λ _. p.count ≤ n) [ ]
points_within n (q ∷ r ∷ ps) p h (inl e) = rw e h.1
points_within n (q ∷ r ∷ ps) p h (inr is) = less (points_within q.count (r ∷ ps) p h.2 is) h.1 where
  less : {a b c : ℕ} → a ≤ b → b ≤ c → a ≤ c
  less {a} {b} {c} h k = omega (arith, h, k)

resumed_first : (m : Mode) (remote : Held) (clusters : ℕ) (report : Report) (last : State) → IsFresh remote → Runs m (start m remote clusters) report last
    → (before : Report) (a : Answer) (n : ℕ) (book : OpenedBook) → IsAnswered report before restarting a → a.shown ≡ shown.Resumed n book
    → (n ≤ length (standing before)) × (standing (before ++ (restarting, a) ∷ []) ≡ take n (standing before))
resumed_first m remote clusters report last fresh runs before a n book is e =
    let x = moment m remote clusters report last before restarting a runs is in
    let o : IsOpened x.old n book x.new = step_opens m x.old a n book x.new x.step e in
    let k : n ≤ length x.old.filter.volume.log = subst (λ (c : ℕ). c ≤ length x.old.filter.volume.log) (sym o.count)
    (points_within (length x.old.filter.volume.log) x.old.filter.volume.points o.point (started_with_points m remote clusters before x.old x.runs) o.opens) in (
      subst (λ (log : List (Usn × Change)). n ≤ length log) (shows_all m remote clusters before x.old fresh x.runs) k,
      standing_more [] before ((restarting, a) ∷ []) ∙ ap (λ (r : Shown). resumed_with r (standing before)) e,
    )

-- a flush that counted the changes
pub flush_ends : (m : Mode) (s : State) (b : Answer) (t : State) (k : ℕ) → IsStep m s flushing b t → b.shown ≡ shown.Count k → Ends (tree_of flushing s) (shown.Count k) t
flush_ends m s b t k is e = by (step_case m s flushing b t is) where
  over : IsOver s flushing (t, b) → Ends (tree_of flushing s) (shown.Count k) t
  over (inl h) = subst (λ (r : Shown). Ends (tree_of flushing s) r t) (sym (ap (λ (x : Answer). x.shown) h.2) ∙ e) h.1
  over (inr h) = let z : ◌≡◌ {A = Shown} (shown.Refused code.Device) (shown.Count k) = sym (ap (λ (x : Answer). x.shown) h.3) ∙ e in cc

  by : IsCase s flushing (t, b) → Ends (tree_of flushing s) (shown.Count k) t
  by (inl h) = none h.0 (sym (ap (λ (x : Answer). x.shown) h.3) ∙ e) where
    none : (c : Code) → ◌≡◌ {A = Shown} (shown.Refused c) (shown.Count k) → Ends (tree_of flushing s) (shown.Count k) t
    none c z = cc
  by (inr h) = over h.1

pub flush_counts : (s t : State) (k : ℕ) → Ends (tree_of flushing s) (shown.Count k) t → (k ≡ length s.filter.volume.log) × (t.filter.volume.log ≡ s.filter.volume.log)
flush_counts s t k (e, f) = (counted e, ap (λ (x : State). x.filter.volume.log) f) where
  counted : ◌≡◌ {A = Shown} (shown.Count k) (shown.Count (length s.filter.volume.log)) → k ≡ length s.filter.volume.log
  counted z = cc

resumed_flushed : (m : Mode) (remote : Held) (clusters : ℕ) (report : Report) (last : State) → IsFresh remote → Runs m (start m remote clusters) report last
    → (early between : Report) (b a : Answer) (k n : ℕ) (book : OpenedBook) → IsAnswered report (early ++ (flushing, b) ∷ between) restarting a → b.shown ≡ shown.Count k → a.shown ≡ shown.Resumed n book
    → (k ≡ length (standing early)) × (k ≤ n) × (take k (standing (early ++ (flushing, b) ∷ between)) ≡ standing early)
resumed_flushed m remote clusters report last fresh runs early between b a k n book is counted resumed =
    let x = moment m remote clusters report last (early ++ (flushing, b) ∷ between) restarting a runs is in
    let y = moment m remote clusters (early ++ (flushing, b) ∷ between) x.old early flushing b x.runs (between, refl) in
    let ends = flush_ends m y.old b y.new k y.step counted in
    let c = flush_counts y.old y.new k ends in
    let kept = flushed_kept m y.old (shown.Count k) y.new between x.old a n book x.new ends y.on x.step resumed in
    let then_log : y.old.filter.volume.log ≡ standing early = shows_all m remote clusters early y.old fresh y.runs in
    let now_log : x.old.filter.volume.log ≡ standing (early ++ (flushing, b) ∷ between) = shows_all m remote clusters (early ++ (flushing, b) ∷ between) x.old fresh x.runs in
    let long : length y.new.filter.volume.log ≡ k = ap (λ (log : List (Usn × Change)). length log) c.1 ∙ sym c.0 in (
      c.0 ∙ ap (λ (log : List (Usn × Change)). length log) then_log,
      subst (λ (j : ℕ). j ≤ n) long kept.0,
      ap (λ (log : List (Usn × Change)). take k log) (sym now_log)
          ∙ ap (λ (j : ℕ). take j x.old.filter.volume.log) (sym long)
          ∙ flushed_is_front m y.old (shown.Count k) y.new between x.old ends y.on ∙ c.1 ∙ then_log,
    )

pub resumes_right : (m : Mode) (remote : Held) (clusters : ℕ) (report : Report) (last : State) → IsFresh remote → Runs m (start m remote clusters) report last → ResumesRight report
resumes_right m remote clusters report last fresh runs = record { first = resumed_first m remote clusters report last fresh runs; flushed = resumed_flushed m remote clusters report last fresh runs }
