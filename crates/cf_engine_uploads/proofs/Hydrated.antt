-- Files that are hydrated first.
use Rattle.std.proofs.Common.{◌≡◌, Bool, true, false, refl, sym, ◌∙◌, ap, subst, ◌⊎◌, inl, inr}
use Rattle.std.specs.List.{list_any}
use Rattle.std.specs.Prelude.{◌≢◌, ◌&&◌, ◌==◌, Result, Ok, Err, Option, Some, None}
use Rattle.cf_base.specs.declared.answers.Shown.{Shown}
use Rattle.cf_base.specs.declared.answers.Shown.TheVariants as shown
use Rattle.cf_base.specs.declared.codes.CallError.{CallError}
use Rattle.cf_base.specs.declared.codes.Code.{Code}
use Rattle.cf_base.specs.declared.codes.Code.TheVariants as code
use Rattle.cf_base.specs.declared.ids.ItemId.{ItemId}
use Rattle.cf_engine_steps.specs.Answering.{Answers, Any, On}
use Rattle.cf_engine_steps.specs.Quiet.{Quiet}
use Rattle.cf_engine_steps.specs.States.{Means, Own, whole}
use Rattle.cf_engine_steps.proofs.Laws.{fails_first, goes_any, returned}
use Rattle.cf_engine_steps.proofs.Lifting.{lift_filter}
use Rattle.cf_engine_steps.proofs.QuietParts.{quiet_filter}
use Rattle.cf_engine_uploads.proofs.Trees.{same_at}
use Rattle.cf_engine_uploads.specs.Reads.{IsPlaceholder, is_whole_at}
use Rattle.cf_engine_uploads.specs.Uploads.{refusal_of}
use Rattle.cf_filter_steps.specs.Answering as steps
use Rattle.cf_filter_steps.specs.Answering.{IsAt}
use Rattle.cf_filter_steps.specs.Readings.{waiting_of}
use Rattle.cf_model.specs.Arrows.{Arrow, choose, ret, seq, unit}
use Rattle.cf_model.specs.Callbacks.{calling, finish_call}
use Rattle.cf_model.specs.Items.{Item, is_all_here}
use Rattle.cf_model.specs.Pushes.{after_hydrate, hydrate_first, hydrate_if, hydrate_unless, is_hydrating}
use Rattle.cf_model.specs.Requests.{Waiting, is_hydrate_wait}
use Rattle.cf_model.specs.Skips.{skip}
use Rattle.cf_model.specs.State.{State, in_filter}
use Rattle.cf_model.specs.Waits.{hydrate_file, hydrate_item, refused}
use Rattle.cf_model.specs.Words.{says}
use Rattle.cf_model.proofs.WaitsKeep.{hydrate_item_keeps}
use Rattle.cf_remote.specs.Told.{Told}
use Rattle.cf_tree.proofs.Walks.{own_id}
use Rattle.cf_waits.specs.Told as waits

quiet_hydrate : (i : Item) → Quiet (hydrate_item i)
quiet_hydrate i = record { keeps = λ n. hydrate_item_keeps _ (quiet_filter n) i }

-- the call

module _ {X R : Type 0} (S : steps.Sense X) (told : R → Told) (id : ItemId) (i : Item) (x y : X) (e : Own R) where
  pub called : (z : X) (f : Own R) (a : Shown) (r : Result Shown CallError) → steps.Answers S (IsAt id i) (hydrate_item i) x (Ok a) y → Answers (whole S told) Any (finish_call a) (y, e) r (z, f) → Answers (whole S told) (On (IsAt id i)) (calling (hydrate_item i)) (x, e) r (z, f)
  called z f a r h k = goes_any (whole S told) (On (IsAt id i)) (in_filter (hydrate_item i)) finish_call (x, e) (y, e) (z, f) a r (lift_filter S told (IsAt id i) (hydrate_item i) x y e (Ok a) (quiet_hydrate i) h) k

  pub not_called : (c : CallError) → steps.Answers S (IsAt id i) (hydrate_item i) x (Err c) y → Answers (whole S told) (On (IsAt id i)) (calling (hydrate_item i)) (x, e) (Err c) (y, e)
  not_called c h = fails_first (whole S told) (On (IsAt id i)) (in_filter (hydrate_item i)) finish_call (x, e) (y, e) c (lift_filter S told (IsAt id i) (hydrate_item i) x y e (Err c) (quiet_hydrate i) h)

-- what follows a refusal

pub when_skipped : (c : Code) → (c ≡ code.TooManyWaits) ⊎ (c ≡ code.TooManyAsks) ⊎ (c ≡ code.Exhausted) → skip c ≡ after_hydrate (shown.Refused c)
when_skipped c (inl e) = subst (λ (d : Code). skip d ≡ after_hydrate (shown.Refused d)) (sym e) refl
when_skipped c (inr (inl e)) = subst (λ (d : Code). skip d ≡ after_hydrate (shown.Refused d)) (sym e) refl
when_skipped c (inr (inr e)) = subst (λ (d : Code). skip d ≡ after_hydrate (shown.Refused d)) (sym e) refl

pub otherwise : (c : Code) → c ≢ code.TooManyWaits → c ≢ code.TooManyAsks → c ≢ code.Exhausted → ret unit ≡ after_hydrate (shown.Refused c)
otherwise code.TooManyWaits a b d = absurd (a refl)
otherwise code.TooManyAsks a b d = absurd (b refl)
otherwise code.Exhausted a b d = absurd (d refl)
otherwise c a b d = refl

pub refused_is : (a : Shown) (c : Code) → refusal_of a ≡ Some c → shown.Refused c ≡ a
refused_is (shown.Refused d) c e = let same : d ≡ c = (let z : ◌≡◌ {A = Option Code} (Some d) (Some c) = e in cc) in ap (λ (x : Code). shown.Refused x) (sym same)
refused_is a c e = let bad : ◌≡◌ {A = Option Code} None (Some c) = e in cc

pub not_refused : (a : Shown) → refusal_of a ≡ None → ret unit ≡ after_hydrate a
not_refused (shown.Refused d) e = let bad : ◌≡◌ {A = Option Code} (Some d) None = e in cc
not_refused a e = refl

-- a placeholder is waited for

waits_for : (i : Item) → i.placeholder ≡ true → seq (calling (hydrate_item i)) after_hydrate ≡ hydrate_unless i.id false
waits_for i is = ap (λ (b : Bool). seq (calling (choose b (hydrate_file i.id) (refused code.NotPlaceholder))) after_hydrate) is

pub hydrated : {X R : Type 0} (S : steps.Sense X) (told : R → Told) (id : ItemId) (i : Item) (x y : X) (e f : Own R) (r : Result (Unit {0}) CallError) → IsPlaceholder S id x → Answers (whole S told) (On (IsAt id i)) (seq (calling (hydrate_item i)) after_hydrate) (x, e) r (y, f)
    → Answers (whole S told) (On (IsAt id i)) (hydrate_unless i.id false) (x, e) r (y, f)
hydrated S told id i x y e f r is h =
    same_at (whole S told) (x, e) r (y, f) (On (IsAt id i)) (seq (calling (hydrate_item i)) after_hydrate) (hydrate_unless i.id false) (λ s m at. ap (λ (g : Arrow State (Unit {0})). g s) (waits_for i (is.is s.filter i m.filter at))) h

-- whether a wait is live

swap : (a b : Bool) → (a && b) ≡ (b && a)
swap true true = refl
swap true false = refl
swap false true = refl
swap false false = refl

abbrev is_live : ItemId → Waiting → Bool
is_live id w = list_any (λ v. is_hydrate_wait v.kind && (v.item.0 == id.0)) w.waits

live_is : (id : ItemId) (w : Waiting) → waits.is_hydrating id w ≡ is_live id w
live_is id w = λ j. list_any (λ v. swap (v.item.0 == id.0) (is_hydrate_wait v.kind) j) w.waits

module _ {X R : Type 0} (S : steps.Sense X) (told : R → Told) (id : ItemId) (i : Item) (x : X) (e : Own R) (b : Bool) (reads : steps.Reads S steps.Any (is_whole_at id) x b) where
  here_is : (s : State) → Means S told x e s → IsAt id i s.filter → b ≡ is_all_here i
  here_is s m at = reads.is s.filter m.filter (record {}) ∙ ap (says is_all_here) at

  pub all_here : b ≡ true → Answers (whole S told) (On (IsAt id i)) (hydrate_first i) (x, e) (Ok unit) (x, e)
  all_here is =
      same_at (whole S told) (x, e) (Ok unit) (x, e) (On (IsAt id i)) (ret unit) (hydrate_first i) (λ s m at. ap (λ (c : Bool). hydrate_if i.id c s) (sym is ∙ here_is s m at)) (returned (whole S told) (On (IsAt id i)) unit (x, e))

  module _ (w : Waiting) (c : Bool) (has : steps.Reads S steps.Any waiting_of x w) (live : c ≡ waits.is_hydrating id w) where
    first_is : (d : Bool) → b ≡ false → c ≡ d → (s : State) → Means S told x e s → IsAt id i s.filter → hydrate_unless i.id d s ≡ hydrate_first i s
    first_is d missing is s m at =
        let here : false ≡ is_all_here i = sym missing ∙ here_is s m at in
        let now : d ≡ is_hydrating i.id s = sym is ∙ live ∙ live_is id w ∙ ap (is_live id) (has.is s.filter m.filter (record {})) ∙ ap (λ (k : ItemId). is_live k s.filter.waiting) (own_id s.filter.volume.items id i at) in
        ap (λ (a : Bool). hydrate_unless i.id a s) now ∙ ap (λ (a : Bool). hydrate_if i.id a s) here

    pub is_asked : b ≡ false → c ≡ true → Answers (whole S told) (On (IsAt id i)) (hydrate_first i) (x, e) (Ok unit) (x, e)
    is_asked missing is = same_at (whole S told) (x, e) (Ok unit) (x, e) (On (IsAt id i)) (ret unit) (hydrate_first i) (first_is true missing is) (returned (whole S told) (On (IsAt id i)) unit (x, e))

    pub asks : (y : X) (f : Own R) (r : Result (Unit {0}) CallError) → b ≡ false → c ≡ false → Answers (whole S told) (On (IsAt id i)) (hydrate_unless i.id false) (x, e) r (y, f) → Answers (whole S told) (On (IsAt id i)) (hydrate_first i) (x, e) r (y, f)
    asks y f r missing is h = same_at (whole S told) (x, e) r (y, f) (On (IsAt id i)) (hydrate_unless i.id false) (hydrate_first i) (first_is false missing is) h
