-- Waits that begin.
use Rattle.std.proofs.Common.{◌≡◌, Bool, true, false, cond, List, [], ◌∷◌, ◌++◌, Option, Some, None, refl, sym, ◌∙◌, ap, subst, map}
use Rattle.std.specs.Prelude.{Ok, Err, Result}
use Rattle.cf_base.specs.declared.codes.CallError.{CallError}
use Rattle.cf_base.specs.declared.codes.CallError.TheVariants.{No, OutOfMemory}
use Rattle.cf_base.specs.declared.ids.WaitId.{WaitId}
use Rattle.cf_base.specs.declared.notices.Notice.{Notice}
use Rattle.cf_base.specs.declared.waits.WaitKind.TheVariants as wait_kind
use Rattle.cf_disk.specs.Disk.{State}
use Rattle.cf_filter_machine.proofs.DeskSteps.{desk_lost, stands_with}
use Rattle.cf_filter_machine.proofs.GoodSteps.{begun_good}
use Rattle.cf_filter_desk.specs.Desks.{BeginsBy, Desk, IfRefused, after_begun, background_lines, begun_on, desk_of}
use Rattle.cf_filter_machine.specs.Held.{Held}
use Rattle.cf_filter_machine.specs.Lasts.{stays_put}
use Rattle.cf_filter_machine.specs.Sensing.{Stands, sense}
use Rattle.cf_model.specs.Arrows.{noted, unit}
use Rattle.cf_model.specs.Missing.{no_span}
use Rattle.cf_model.specs.Requests.{Waiting, also_background, wait_after}
use Rattle.cf_model.specs.Settling.{view_at}
use Rattle.cf_model.specs.State.{Filter}
use Rattle.cf_model.specs.Waits.{Need, background_line, beside}
use Rattle.cf_model.specs.Words.{when}
use Rattle.cf_waits.specs.Steps.{background_id, begun_id, limit_of, limits_by, moved_of}
use Rattle.cf_waits.specs.declared.moves.Moves.{Moves}
use Rattle.cf_filter_steps.specs.Answering.{Answers}
use Rattle.cf_filter_steps.specs.Needing.{ReadsFile, Starts, begin_limited, with_begun}

lines_told : (n : Need) (s : Filter) → background_lines n.item (background_id n.background n.item s.waiting) ≡ map background_line (beside n s)
lines_told n s = by (also_background n.background n.item s.waiting)
  where
    by : (b : Bool) → background_lines n.item (cond b (Some (begun_id 1 s.waiting)) None) ≡ map background_line (when b (wait_after s.waiting 1 wait_kind.Background n.item None no_span ∷ []))
    by true = refl
    by false = refl

module _ {D : Type 0} (state : D → State) (n : Need) (x y : Held D) (e : Desk) (is : y ≡ record x { desk = e }) where
  abbrev Sees : Result (WaitId × Moves) CallError → Type 0
  Sees r = (s : Filter) → Stands state x s → BeginsBy n (view_at s n.item) x.desk r e

  desk_begun : (m : WaitId × Moves) → Sees (Ok m) → (s : Filter) → Stands state x s → e ≡ desk_of (with_begun n s)
  desk_begun m sees s h =
      (sees s h).3
      ∙ ap (λ (d : Desk). begun_on n.item (begun_id 0 d.waiting) (background_id n.background n.item d.waiting) (after_begun n (view_at s n.item) d.waiting).1 d) h.desk
      ∙ ap (λ (ns : List Notice). record (desk_of (with_begun n s)) { notes = s.notes ++ ns }) (lines_told n s)

  start_does : (m : WaitId × Moves) → Sees (Ok m) → Answers (sense state) (ReadsFile n) (noted (with_begun n)) x (Ok unit) y
  start_does m sees = subst (λ (z : Held D). Answers (sense state) (ReadsFile n) (noted (with_begun n)) x (Ok unit) z) (sym is) (record {
    leads = λ s h p. (
      with_begun n s,
      (refl, refl),
      stays_put (state x.disk) x.known s.volume h.fair h.volume h.points,
      stands_with state x e s (with_begun n s) h refl (desk_begun m sees s h) (begun_good n s p h.good),
    );
  })

  waits_as : (s : Filter) → Stands state x s → x.desk.waiting ≡ s.waiting
  waits_as s h = ap (λ (d : Desk). d.waiting) h.desk

  pub started : (r : Result (WaitId × Moves) CallError) → Sees r → ((f : CallError) → r ≡ Err f → IfRefused f x.desk e) → Starts (sense state) n x r y
  started (Ok m) sees kept = (
    record { is = λ s h p. sym (sees s h).0 ∙ ap (λ (w : Waiting). limit_of (limits_by n.kind) (after_begun n (view_at s n.item) w).1) (waits_as s h) },
    record { is = λ s h p. (sees s h).1 ∙ ap (begun_id 0) (waits_as s h) },
    record {
      is = λ s h p.
          let same = (sees s h).2 in
          same ∙ ap (λ (b : Option WaitId). moved_of b (after_begun n (view_at s n.item) x.desk.waiting).0) (sym (ap (λ (z : Moves). z.background) same))
          ∙ ap (λ (w : Waiting). moved_of m.1.background (after_begun n (view_at s n.item) w).0) (waits_as s h);
    },
    start_does m sees,
  )
  started (Err (No c)) sees kept = (
    record { is = λ s h p. sym (sees s h).0 ∙ ap (λ (w : Waiting). limit_of (limits_by n.kind) (after_begun n (view_at s n.item) w).1) (waits_as s h) },
    is ∙ ap (λ (d : Desk). record x { desk = d }) (kept (No c) refl),
  )
  started (Err OutOfMemory) sees kept = desk_lost state (ReadsFile n) (begin_limited n) x y e is
