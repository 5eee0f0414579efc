-- What holds of every filter, after steps of the desk.
use Rattle.std.proofs.Common.{◌≡◌, ℕ, ◌+◌, Bool, true, false, ◌&&◌, not, cond, eqb, List, [], ◌∷◌, ◌++◌, None, refl, sym, ◌∙◌, ap, subst, arith}
use Rattle.std.specs.Prelude.{filter, is_some}
use Rattle.std.proofs.lemmas.Bool.{ne_eqb}
use Rattle.cf_ask_rule.specs.Plans.{Planned}
use Rattle.cf_base.specs.declared.ids.ItemId.{ItemId}
use Rattle.cf_base.specs.declared.waits.WaitKind.TheVariants as wait_kind
use Rattle.cf_model.specs.Asks.{step_of, why}
use Rattle.cf_model.specs.Calls.{next_handle, with_handle}
use Rattle.cf_model.specs.Missing.{View, Wait, no_span}
use Rattle.cf_model.specs.Numbers.{key_after, no_key, same_key}
use Rattle.cf_model.specs.Requests.{Deed, Nothing, Told, Waiting, also_background, wait_after}
use Rattle.cf_model.specs.Settling.{view_at, with_waiting}
use Rattle.cf_model.specs.State.{Filter, Open, Volume}
use Rattle.cf_model.specs.Waits.{Need, beside, wait_for, with_new_waits, without_handle}
use Rattle.cf_model.specs.Words.{when}
use Rattle.cf_waits.specs.Steps.{IsPlanned, carried}
use Rattle.cf_filter_steps.specs.Good.{Every, IsFileIn, IsGood, IsGoodVolume, IsOnFile}
use Rattle.cf_filter_steps.specs.Needing.{ReadsFile, with_begun}

abbrev IsNumbered : Wait → Type 0
IsNumbered w = same_key w.id.0 no_key ≡ false

-- of lists

pub every_kept : {A : Type 0} (P : A → Type 0) (f : A → Bool) (xs : List A) → Every P xs → Every P (filter f xs)
every_kept P f [] h = h
every_kept {A} P f (x ∷ xs) h = by (f x) (every_kept P f xs h.1)
  where
    by : (b : Bool) → Every P (filter f xs) → Every P (cond b (x ∷ filter f xs) (filter f xs))
    by true rest = (h.0, rest)
    by false rest = rest

pub every_both : {A : Type 0} (P : A → Type 0) (xs ys : List A) → Every P xs → Every P ys → Every P (xs ++ ys)
every_both P [] ys h k = k
every_both P (x ∷ xs) ys h k = (h.0, every_both P xs ys h.1 k)

-- of steps

pub same_good : (s t : Filter) → t.volume ≡ s.volume → t.handles ≡ s.handles → t.waiting.waits ≡ s.waiting.waits → IsGood s → IsGood t
same_good s t volume handles waits h = record {
  volume = subst IsGoodVolume (sym volume) h.volume;
  files = subst (λ (v : Volume). Every (λ o. IsFileIn v.items o.item) t.handles) (sym volume) (subst (λ (os : List Open). Every (λ o. IsFileIn s.volume.items o.item) os) (sym handles) h.files);
  numbered = subst (λ (ws : List Wait). Every IsNumbered ws) (sym waits) h.numbered;
  reads = subst (λ (v : Volume). Every (λ w. IsOnFile w.kind v.items w.item) t.waiting.waits) (sym volume) (subst (λ (ws : List Wait). Every (λ w. IsOnFile w.kind s.volume.items w.item) ws) (sym waits) h.reads);
}

pub waiting_good : (w : Waiting) (s : Filter) → Every IsNumbered w.waits → Every (λ x. IsOnFile x.kind s.volume.items x.item) w.waits → IsGood s → IsGood (with_waiting w s)
waiting_good w s numbered reads h = record { volume = h.volume; files = h.files; numbered = numbered; reads = reads }

pub opened_good : (item : ItemId) (s : Filter) → IsFileIn s.volume.items item → IsGood s → IsGood (with_handle item s)
opened_good item s file h = record {
  volume = h.volume;
  files = every_both (λ (o : Open). IsFileIn s.volume.items o.item) s.handles (record { handle = next_handle s; item = item } ∷ []) h.files (file, record {});
  numbered = h.numbered;
  reads = h.reads;
}

pub closed_good : (handle : _) (s : Filter) → IsGood s → IsGood (without_handle handle s)
closed_good handle s h = record {
  volume = h.volume;
  files = every_kept (λ (o : Open). IsFileIn s.volume.items o.item) (λ o. not (same_key o.handle.0 handle.0)) s.handles h.files;
  numbered = h.numbered;
  reads = h.reads;
}

-- a step of the rule makes no wait
stepped_waits : (P : Wait → Type 0) (item : ItemId) (v : View) (d : Deed) (w : Waiting) → Every P w.waits → Every P (step_of item v d w).1.waits
stepped_waits P item v d w h = every_kept P (λ x. not (is_some (why item v d w.asks x))) w.waits h

pub stepped_good : (p : Planned) (w : Waiting) (s : Filter) → w ≡ s.waiting → IsPlanned p w → IsGood s → IsGood (with_waiting (carried p w).1 s)
stepped_good p w s same planned h =
    let is : carried p w ≡ step_of planned.0 planned.1 planned.2 w = planned.3 in
    waiting_good (carried p w).1 s
    (subst (λ (ws : List Wait). Every IsNumbered ws) (sym (ap (λ (r : Told × Waiting). r.1.waits) is))
    (stepped_waits IsNumbered planned.0 planned.1 planned.2 w (subst (λ (x : Waiting). Every IsNumbered x.waits) (sym same) h.numbered)))
    (subst (λ (ws : List Wait). Every (λ x. IsOnFile x.kind s.volume.items x.item) ws) (sym (ap (λ (r : Told × Waiting). r.1.waits) is))
    (stepped_waits (λ x. IsOnFile x.kind s.volume.items x.item) planned.0 planned.1 planned.2 w (subst (λ (x : Waiting). Every (λ y. IsOnFile y.kind s.volume.items y.item) x.waits) (sym same) h.reads))) h

new_number : (e n : ℕ) → same_key (key_after e n) no_key ≡ false
new_number e n = ap (λ (b : Bool). eqb e 0 && b) (ne_eqb (n + 1) 0 (λ q. omega (arith, q))) ∙ neither (eqb e 0)
  where
    neither : (b : Bool) → (b && false) ≡ false
    neither true = refl
    neither false = refl

new_numbered : (n : Need) (s : Filter) → Every IsNumbered (wait_for n s ∷ beside n s)
new_numbered n s = (new_number s.waiting.epoch (s.waiting.wait_count + 0), by (also_background n.background n.item s.waiting))
  where
    by : (b : Bool) → Every IsNumbered (when b (wait_after s.waiting 1 wait_kind.Background n.item None no_span ∷ []))
    by true = (new_number s.waiting.epoch (s.waiting.wait_count + 1), record {})
    by false = record {}

new_on_file : (n : Need) (s : Filter) → ReadsFile n s → Every (λ x. IsOnFile x.kind s.volume.items x.item) (wait_for n s ∷ beside n s)
new_on_file n s file = (file, by (also_background n.background n.item s.waiting))
  where
    by : (b : Bool) → Every (λ x. IsOnFile x.kind s.volume.items x.item) (when b (wait_after s.waiting 1 wait_kind.Background n.item None no_span ∷ []))
    by true = (record {}, record {})
    by false = record {}

pub begun_good : (n : Need) (s : Filter) → ReadsFile n s → IsGood s → IsGood (with_begun n s)
begun_good n s file h = record {
  volume = h.volume;
  files = h.files;
  numbered = stepped_waits IsNumbered n.item (view_at s n.item) Nothing (with_new_waits n s) (every_both IsNumbered s.waiting.waits (wait_for n s ∷ beside n s) h.numbered (new_numbered n s));
  reads = stepped_waits (λ x. IsOnFile x.kind s.volume.items x.item) n.item (view_at s n.item) Nothing (with_new_waits n s)
      (every_both (λ (x : Wait). IsOnFile x.kind s.volume.items x.item) s.waiting.waits (wait_for n s ∷ beside n s) h.reads (new_on_file n s file));
}
