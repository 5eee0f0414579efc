-- Uploads of items, and what is done at their turns.
use Rattle.std.proofs.Common.{◌≡◌, Bool, true, false, not, refl, sym, ◌∙◌, ap, subst}
use Rattle.std.specs.Prelude.{Result, Ok, Err, Option, Some, None, is_some}
use Rattle.cf_base.specs.declared.changes.Change.TheVariants as change
use Rattle.cf_base.specs.declared.codes.CallError.{CallError}
use Rattle.cf_base.specs.declared.ids.ItemId.{ItemId}
use Rattle.cf_engine_steps.specs.Answering.{Answers, Any, On}
use Rattle.cf_engine_steps.specs.States.{Means, Own, whole}
use Rattle.cf_engine_steps.proofs.Laws.{fails_first, goes_any, returned}
use Rattle.cf_engine_uploads.proofs.Trees.{on_tree, same_at, under}
use Rattle.cf_engine_uploads.specs.Reads.{is_there_at}
use Rattle.cf_filter_calls.specs.Planned.{ReadsAt, has_entries, stands_for}
use Rattle.cf_filter_steps.specs.Answering as steps
use Rattle.cf_filter_steps.specs.Answering.{IsAt}
use Rattle.cf_model.specs.Arrows.{Arrow, choose, only_if, reading, ret, seq, then_do, unit}
use Rattle.cf_model.specs.Books.{MakeDir}
use Rattle.cf_model.specs.Identities.{no_identity}
use Rattle.cf_model.specs.Items.{Item, item_of}
use Rattle.cf_model.specs.Pushes.{hydrate_first, item_now, push_item, put_file, put_whole, upload, upload_if, upload_new, upload_now}
use Rattle.cf_model.specs.Skips.{try_change}
use Rattle.cf_model.specs.State.{State, items_now}
use Rattle.cf_remote.specs.Told.{Told}
use Rattle.cf_tree.proofs.Walks.{own_id}

module _ {X R : Type 0} (S : steps.Sense X) (told : R → Told) (id : ItemId) (i : Item) (x : X) (e : Own R) where
  abbrev Here : State → Type 0
  Here = On (IsAt id i)

  -- a file
  pub puts_file : (y z : X) (f g : Own R) (u : Unit {0}) (r : Result (Unit {0}) CallError) → Answers (whole S told) Here (hydrate_first i) (x, e) (Ok u) (y, f) → Answers (whole S told) Any (reading (item_now id) put_whole) (y, f) r (z, g) → Answers (whole S told) Here (put_file i) (x, e) r (z, g)
  puts_file y z f g u r h k = same_at (whole S told) (x, e) r (z, g) Here (then_do (hydrate_first i) (reading (item_now id) put_whole)) (put_file i)
      (λ s m at. ap (λ (j : ItemId). then_do (hydrate_first i) (reading (item_now j) put_whole) s) (own_id s.filter.volume.items id i at))
      (goes_any (whole S told) Here (hydrate_first i) (λ _. reading (item_now id) put_whole) (x, e) (y, f) (z, g) u r h k)

  pub puts_not : (y : X) (f : Own R) (c : CallError) → Answers (whole S told) Here (hydrate_first i) (x, e) (Err c) (y, f) → Answers (whole S told) Here (put_file i) (x, e) (Err c) (y, f)
  puts_not y f c h = fails_first (whole S told) Here (hydrate_first i) (λ _. reading (item_now i.id) put_whole) (x, e) (y, f) c h

  -- a directory, or a file
  module _ (b : Bool) (reads : ReadsAt S id has_entries x b) (y : X) (f : Own R) (r : Result (Unit {0}) CallError) where
    by_kind : (d : Bool) → b ≡ d → (s : State) → Means S told x e s → Here s → choose d (push_item MakeDir i) (put_file i) s ≡ upload i s
    by_kind d is s m at = ap (λ (c : Bool). choose c (push_item MakeDir i) (put_file i) s) (sym is ∙ reads.is s.filter i m.filter at)

    pub uploads_directory : b ≡ true → Answers (whole S told) Here (push_item MakeDir i) (x, e) r (y, f) → Answers (whole S told) Here (upload i) (x, e) r (y, f)
    uploads_directory is h = same_at (whole S told) (x, e) r (y, f) Here (push_item MakeDir i) (upload i) (by_kind true is) h

    pub uploads_file : b ≡ false → Answers (whole S told) Here (put_file i) (x, e) r (y, f) → Answers (whole S told) Here (upload i) (x, e) r (y, f)
    uploads_file is h = same_at (whole S told) (x, e) r (y, f) Here (put_file i) (upload i) (by_kind false is) h

  -- a new item

  abbrev converts : Arrow State Bool
  converts = only_if (not i.placeholder) (try_change (change.Convert i.id no_identity))

  module _ (b : Bool) (reads : ReadsAt S id stands_for x b) (y : X) (f : Own R) (r : Result Bool CallError) where
    by_stand : (d : Bool) → b ≡ d → (s : State) → Means S told x e s → Here s → only_if (not d) (try_change (change.Convert id no_identity)) s ≡ converts s
    by_stand d is s m at =
        (λ j. only_if (not ((sym is ∙ reads.is s.filter i m.filter at) j)) (try_change (change.Convert (own_id s.filter.volume.items id i at j) no_identity)) s)

    pub stands : b ≡ true → Answers (whole S told) Here converts (x, e) (Ok true) (x, e)
    stands is = same_at (whole S told) (x, e) (Ok true) (x, e) Here (ret true) converts (by_stand true is) (returned (whole S told) Here true (x, e))

    pub is_converted : b ≡ false → Answers (whole S told) Any (try_change (change.Convert id no_identity)) (x, e) r (y, f) → Answers (whole S told) Here converts (x, e) r (y, f)
    is_converted is h = same_at (whole S told) (x, e) r (y, f) Here (try_change (change.Convert id no_identity)) converts (by_stand false is) (under (whole S told) (x, e) r (y, f) Any Here (try_change (change.Convert id no_identity)) (λ s m p. record {}) h)

  pub new_then : (y z : X) (f g : Own R) (b : Bool) (r : Result (Unit {0}) CallError) → b ≡ true → Answers (whole S told) Here converts (x, e) (Ok b) (y, f) → Answers (whole S told) Any (reading (item_now id) upload_now) (y, f) r (z, g) → Answers (whole S told) Here (upload_new i) (x, e) r (z, g)
  new_then y z f g b r is h k = same_at (whole S told) (x, e) r (z, g) Here (seq converts (upload_if id)) (upload_new i) (λ s m at. ap (λ (j : ItemId). seq converts (upload_if j) s) (own_id s.filter.volume.items id i at))
      (goes_any (whole S told) Here converts (upload_if id) (x, e) (y, f) (z, g) b r h (subst (λ (c : Bool). Answers (whole S told) Any (upload_if id c) (y, f) r (z, g)) (sym is) k))

  pub new_not : (y : X) (f : Own R) (b : Bool) → b ≡ false → Answers (whole S told) Here converts (x, e) (Ok b) (y, f) → Answers (whole S told) Here (upload_new i) (x, e) (Ok unit) (y, f)
  new_not y f b is h = goes_any (whole S told) Here converts (upload_if i.id) (x, e) (y, f) (y, f) b (Ok unit) h (subst (λ (c : Bool). Answers (whole S told) Any (upload_if i.id c) (y, f) (Ok unit) (y, f)) (sym is) (returned (whole S told) Any unit (y, f)))

  pub new_fails : (y : X) (f : Own R) (c : CallError) → Answers (whole S told) Here converts (x, e) (Err c) (y, f) → Answers (whole S told) Here (upload_new i) (x, e) (Err c) (y, f)
  new_fails y f c h = fails_first (whole S told) Here converts (upload_if i.id) (x, e) (y, f) c h

-- an item that may be there now

some_item : (o : Option Item) → is_some o ≡ true → (i : Item) × (o ≡ Some i)
some_item None e = let z : false ≡ true = e in absurd cc
some_item (Some i) e = (i, refl)

no_upload : (o : Option Item) → is_some o ≡ false → ret unit ≡ upload_now o
no_upload None e = refl
no_upload (Some i) e = let z : true ≡ false = e in absurd cc

module _ {X R : Type 0} (S : steps.Sense X) (told : R → Told) (id : ItemId) (x : X) (e : Own R) (b : Bool) (reads : steps.Reads S steps.Any (is_there_at id) x b) where
  pub uploads_now : (y : X) (f : Own R) (r : Result (Unit {0}) CallError) → b ≡ true → ((i : Item) → Answers (whole S told) (On (IsAt id i)) (upload i) (x, e) r (y, f)) → Answers (whole S told) Any (reading (item_now id) upload_now) (x, e) r (y, f)
  uploads_now y f r is h = record {
    leads = λ s m p.
        let w = some_item (item_of (items_now s) id) (sym (reads.is s.filter m.filter (record {})) ∙ is) in
        on_tree (whole S told) (x, e) r (y, f) s (upload w.0 s) (reading (item_now id) upload_now s) (ap (λ (o : Option Item). upload_now o s) (sym w.1)) ((h w.0).leads s m w.1);
  }

  pub uploads_none : b ≡ false → Answers (whole S told) Any (reading (item_now id) upload_now) (x, e) (Ok unit) (x, e)
  uploads_none is = same_at (whole S told) (x, e) (Ok unit) (x, e) Any (ret unit) (reading (item_now id) upload_now)
      (λ s m p. ap (λ (g : Arrow State (Unit {0})). g s) (no_upload (item_of (items_now s) id) (sym (reads.is s.filter m.filter (record {})) ∙ is))) (returned (whole S told) Any unit (x, e))
