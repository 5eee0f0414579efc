-- Waits that begin.
use Rattle.std.proofs.Common.{◌≡◌, List, ◌++◌, Option, Some, None, refl, sym, ◌∙◌, ap, subst}
use Rattle.std.proofs.lemmas.Result.{err_from_is_err_and}
use Rattle.std.specs.Prelude.{Ok, Err, OnErr, Result}
use Rattle.std.specs.Result.{IsErrAnd}
use Rattle.cf_base.specs.declared.codes.CallError.{CallError}
use Rattle.cf_base.specs.declared.codes.CallError.TheVariants.{No, OutOfMemory}
use Rattle.cf_base.specs.declared.ids.WaitId.{WaitId}
use Rattle.cf_base.specs.declared.notices.Notice.{Notice}
use Rattle.cf_filter_desk.specs.Desks.{BeginsBy, Desk, after_begun, background_lines, begun_on}
use Rattle.cf_model.specs.Missing.{View}
use Rattle.cf_model.specs.Requests.{Told, Waiting}
use Rattle.cf_model.specs.Waits.{Need}
use Rattle.cf_waits.specs.Steps.{Begins, background_id, begun_id, limits_by}
use Rattle.cf_waits.specs.declared.limits.Limits.{Limits}
use Rattle.cf_waits.specs.declared.moves.Moves.{Moves}

-- of the requests

pub begins_err : (l : Limits) (b : Option WaitId) (a : Told × Waiting) (old : Waiting) (r : Result (WaitId × Moves) CallError) (new : Waiting) → Begins l b a old r new → OnErr r (new ≡ old)
begins_err l b a old (Ok m) new h = record {}
begins_err l b a old (Err (No c)) new h = h.1
begins_err l b a old (Err OutOfMemory) new h = h

-- of the desk

same_begun : (n : Need) (d e : Desk) (w v : Waiting) (i id : WaitId) (ns : List Notice) (b bg : Option WaitId) → d ≡ e → w ≡ v → i ≡ id → b ≡ bg → ns ≡ d.notes ++ background_lines n.item b
    → record d { waiting = w; own = Some i; ending = None; notes = ns } ≡ begun_on n.item id bg v e
same_begun n d e w v i id ns b bg same p q t lines =
    let last : ns ≡ e.notes ++ background_lines n.item bg = lines ∙ (λ j. (same j).notes ++ background_lines n.item (t j)) in
    λ j. record (same j) { waiting = p j; own = Some (q j); ending = None; notes = last j }

pub begun_desk : (n : Need) (v : Desk → View) (d e : Desk) (m : WaitId × Moves) (w : Waiting) (ns : List Notice) → d ≡ e → ns ≡ d.notes ++ background_lines n.item m.1.background
    → Begins (limits_by n.kind) (background_id n.background n.item d.waiting) (after_begun n (v d) d.waiting) d.waiting (Ok m) w → BeginsBy n (v e) e (Ok m) (record d { waiting = w; own = Some m.0; ending = None; notes = ns })
begun_desk n v d e m w ns same lines h =
    subst (λ (x : Desk). BeginsBy n (v x) x (Ok m) (record d { waiting = w; own = Some m.0; ending = None; notes = ns })) same
    (h.0, h.1, h.2, same_begun n d d w (after_begun n (v d) d.waiting).1 m.0 (begun_id 0 d.waiting) ns m.1.background (background_id n.background n.item d.waiting) refl h.3 h.1 (ap (λ (x : Moves). x.background) h.2) lines)

pub begun_err : (n : Need) (v : Desk → View) (d e : Desk) (f : CallError) (r : Result (WaitId × Moves) CallError) (w : Waiting) → IsErrAnd r (λ y. y ≡ f) → d ≡ e
    → Begins (limits_by n.kind) (background_id n.background n.item d.waiting) (after_begun n (v d) d.waiting) d.waiting (Err f) w → BeginsBy n (v e) e r (record d { waiting = w })
begun_err n v d e f r w is same h =
    let p = err_from_is_err_and r is in
    subst (λ (q : Result (WaitId × Moves) CallError). BeginsBy n (v e) e q (record d { waiting = w })) (sym (p.1 ∙ ap (λ (z : CallError). Err z) p.2))
    (subst (λ (y : Desk). BeginsBy n (v y) y (Err f) (record d { waiting = w })) same (by f h))
  where
    by : (g : CallError) → Begins (limits_by n.kind) (background_id n.background n.item d.waiting) (after_begun n (v d) d.waiting) d.waiting (Err g) w → BeginsBy n (v d) d (Err g) (record d { waiting = w })
    by (No c) k = (k.0, ap (λ (y : Waiting). record d { waiting = y }) k.1)
    by OutOfMemory k = record {}
