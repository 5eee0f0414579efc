-- A record of the book that is put, or left out, or that goes.
use Rattle.std.proofs.Common.{◌≡◌, Bool, true, false, [], ◌∷◌, refl, sym, ◌∙◌, ap, subst}
use Rattle.std.proofs.lemmas.Bool.{eqb-true}
use Rattle.std.specs.Prelude.{Result, Ok, Err, Option, Some, None, ◌==◌}
use Rattle.cf_base.specs.declared.ids.ItemId.{ItemId}
use Rattle.cf_base.specs.declared.ids.Usn.{Usn}
use Rattle.cf_base.specs.declared.codes.Code.{Code}
use Rattle.cf_base.specs.declared.codes.Code.TheVariants as code
use Rattle.cf_base.specs.declared.codes.CallError.{CallError}
use Rattle.cf_base.specs.declared.codes.CallError.TheVariants.{No, OutOfMemory}
use Rattle.cf_engine_steps.specs.Answering.{After, Answers, Any, On}
use Rattle.cf_engine_host.specs.BookSteps.{DropsRecord, HasNumber, put_outcome, why_full, with_book_of}
use Rattle.cf_engine_steps.specs.Faults.{fault_lines, rose_none}
use Rattle.cf_engine_steps.specs.Recorded.{NumberIf}
use Rattle.cf_engine_steps.specs.States.{Own, told_of, whole}
use Rattle.cf_engine_steps.proofs.Laws.{after_on, known}
use Rattle.cf_engine_steps.proofs.Lifting.{mean_filter}
use Rattle.cf_model.specs.Arrows.{attempt, noted, seq, unless_done}
use Rattle.cf_model.specs.Books.{Book, with_anchor, with_cursor}
use Rattle.cf_model.specs.Items.{Item}
use Rattle.cf_model.specs.PushReplies.{cursor_reset_if, reset_cursor}
use Rattle.cf_model.specs.Skips.{in_book, left_out, not_done, skip, try_book}
use Rattle.cf_model.specs.State.{Filter, State, with_filter}
use Rattle.cf_model.specs.Trees.{Does, Ends, Stops, bind}
use Rattle.cf_remote.specs.Told.{Told}
use Rattle.cf_filter_steps.specs.Answering as steps

ends_put : (f : Book → Book) (o : Option Code) (s : State) (t : Filter) → Ends (unless_done (noted (with_book_of f)) o s.filter) None t
    → (t ≡ with_book_of f s.filter) × Ends (bind (unless_done (in_book f) o s) left_out) true (with_filter t s)
ends_put f None s t h = (h.1, (refl, ap (λ (x : Filter). with_filter x s) h.1))
ends_put f (Some c) s t h = let z : ◌≡◌ {A = Option Code} None (Some c) = h.0 in absurd cc

ends_full : (f : Book → Book) (o : Option Code) (s t : Filter) (c : Code) → Ends (unless_done (noted (with_book_of f)) o s) (Some c) t → (o ≡ Some c) × (t ≡ s)
ends_full f None s t c h = let z : ◌≡◌ {A = Option Code} (Some c) None = h.0 in absurd cc
ends_full f (Some d) s t c h = (sym h.0, h.1)

no_stop : (f : Book → Book) (o : Option Code) (s t : Filter) → Stops (unless_done (noted (with_book_of f)) o s) t → ⊥
no_stop f None s t h = h
no_stop f (Some d) s t h = h

module _ {X R : Type 0} (S : steps.Sense X) (told : R → Told) (P : Filter → Type 0) (f : Book → Book) (x y : X) (e : Own R) where
  pub put_done : (b : Bool) → b ≡ true → steps.Answers S P (attempt (why_full f) (noted (with_book_of f))) x (put_outcome (Ok b)) y → Answers (whole S told) (On P) (try_book f) (x, e) (Ok true) (y, e)
  put_done true is h = record {
    leads = λ s i p.
        let l = h.leads s.filter i.filter p in let d = ends_put f (why_full f s.filter) s l.0 l.1 in (
          with_filter l.0 s,
          d.1,
          l.2,
          (mean_filter S told x y e s l.0 i l.3, rose_none (told_of told e) (fault_lines s.filter) (fault_lines l.0) (ap fault_lines d.0)),
        );
  }
  put_done false is h = let z : false ≡ true = is in absurd cc

  pub put_fails : (q : CallError) → steps.Answers S P (attempt (why_full f) (noted (with_book_of f))) x (put_outcome (Err q)) y → Answers (whole S told) (On P) (try_book f) (x, e) (Err q) (y, e)
  put_fails (No c) h = record { leads = λ s i p. absurd (no_stop f (why_full f s.filter) s.filter (h.leads s.filter i.filter p).0 (h.leads s.filter i.filter p).1.1) }
  put_fails OutOfMemory h = record { leads = λ s i p. let l = h.leads s.filter i.filter p in (with_filter l.0 s, record {}, l.2, l.3) }

  pub put_full : (z : X) (g : Own R) (b : Bool) (r : Result Bool CallError) → b ≡ false → steps.Answers S P (attempt (why_full f) (noted (with_book_of f))) x (put_outcome (Ok b)) y
      → Answers (whole S told) Any (seq (skip code.TableFull) not_done) (y, e) r (z, g) → Answers (whole S told) (On P) (try_book f) (x, e) r (z, g)
  put_full z g true r is h k = let w : true ≡ false = is in absurd cc
  put_full z g false r is h k = record {
    leads = λ s i p.
        let l = h.leads s.filter i.filter p in
        let d = ends_full f (why_full f s.filter) s.filter l.0 code.TableFull l.1 in
        let m = subst (λ (t : Filter). S.means y t) d.1 l.3 in
        let a = subst (λ (t : Filter). S.moved x y s.filter t) d.1 l.2 in
        let v = k.leads s (mean_filter S told x y e s s.filter i m) (record {}) in
        subst (λ (o : Option Code). (t : State) × Does (bind (unless_done (in_book f) o s) left_out) r t × (whole S told).moved (x, e) (z, g) s t × After (whole S told) (x, e) r (z, g) s t) (sym d.0) (
          v.0,
          v.1,
          S.goes_on x y z s.filter s.filter v.0.filter a v.2,
          after_on (whole S told) (x, e) (y, e) (z, g) s s v.0 r a ((whole S told).counts_none (x, e) s) v.3,
        );
  }

-- a record that goes

module _ {X R : Type 0} (S : steps.Sense X) (told : R → Told) (x y : X) (e : Own R) where
  pub book_done : (P : Filter → Type 0) (f : Book → Book) (r : Result (Unit {0}) CallError) → steps.Answers S P (noted (with_book_of f)) x r y → Answers (whole S told) (On P) (in_book f) (x, e) r (y, e)
  book_done P f (Ok u) h = record {
    leads = λ s i p.
        let l = h.leads s.filter i.filter p in (
          with_filter l.0 s,
          (l.1.0, ap (λ (t : Filter). with_filter t s) l.1.1),
          l.2,
          (mean_filter S told x y e s l.0 i l.3, rose_none (told_of told e) (fault_lines s.filter) (fault_lines l.0) (ap fault_lines l.1.1)),
        );
  }
  book_done P f (Err (No c)) h = record { leads = λ s i p. absurd (h.leads s.filter i.filter p).1.1 }
  book_done P f (Err OutOfMemory) h = record { leads = λ s i p. let l = h.leads s.filter i.filter p in (with_filter l.0 s, record {}, l.2, l.3) }

  -- where each state meets what the step asks
  pub book_any : (P : Filter → Type 0) (f : Book → Book) (r : Result (Unit {0}) CallError) → ((s : Filter) → S.means x s → P s) → steps.Answers S P (noted (with_book_of f)) x r y → Answers (whole S told) Any (in_book f) (x, e) r (y, e)
  book_any P f r meets h = known (whole S told) (On P) (in_book f) (x, e) (y, e) r (λ s i. meets s.filter i.filter) (book_done P f r h)

  -- the number that an item has becomes its anchor
  pub anchor_kept : (item : ItemId) (number : Usn) (r : Result (Unit {0}) CallError) → NumberIf S item number x → ((i : Item) → steps.Answers S (HasNumber item i) (noted (with_book_of (with_anchor item i.number))) x r y)
      → Answers (whole S told) Any (in_book (with_anchor item number)) (x, e) r (y, e)
  anchor_kept item number r has h = record {
    leads = λ s i p.
        let n = has.has s.filter i.filter in
        subst (λ (k : Usn). (t : State) × Does (in_book (with_anchor item k) s) r t × (whole S told).moved (x, e) (y, e) s t × After (whole S told) (x, e) r (y, e) s t) n.2
        ((book_done (HasNumber item n.0) (with_anchor item n.0.number) r (h n.0)).leads s i n.1);
  }

-- the cursor becomes 0, or stays so

stays_so : (f : Filter) → f.volume.book.cursor ≡ 0 → with_book_of (with_cursor 0) f ≡ f
stays_so f z = λ j. with_book_of (with_cursor (sym z j)) f

module _ {X R : Type 0} (S : steps.Sense X) (told : R → Told) (x y : X) (e : Own R) (meets : (s : Filter) → S.means x s → DropsRecord (99 ∷ []) (with_cursor 0) s) where
  abbrev Resets : State → Result (Unit {0}) CallError → Bool → Type 0
  Resets s r b = (t : State) × Does (cursor_reset_if b s) r t × (whole S told).moved (x, e) (y, e) s t × After (whole S told) (x, e) r (y, e) s t

  resets : (s : State) → (whole S told).means (x, e) s → (r : Result (Unit {0}) CallError) → steps.Answers S (DropsRecord (99 ∷ []) (with_cursor 0)) (noted (with_book_of (with_cursor 0))) x r y → (b : Bool) → (s.filter.volume.book.cursor == 0) ≡ b → Resets s r b
  resets s i r h false z = (book_done S told x y e (DropsRecord (99 ∷ []) (with_cursor 0)) (with_cursor 0) r h).leads s i (meets s.filter i.filter)
  resets s i (Ok u) h true z =
      let l = h.leads s.filter i.filter (meets s.filter i.filter) in
      let same : l.0 ≡ s.filter = l.1.1 ∙ stays_so s.filter (eqb-true s.filter.volume.book.cursor 0 z) in (
        with_filter l.0 s,
        (l.1.0, ap (λ (t : Filter). with_filter t s) same),
        l.2,
        (mean_filter S told x y e s l.0 i l.3, rose_none (told_of told e) (fault_lines s.filter) (fault_lines l.0) (ap fault_lines same)),
      )
  resets s i (Err (No c)) h true z = absurd (h.leads s.filter i.filter (meets s.filter i.filter)).1.1
  resets s i (Err OutOfMemory) h true z = let l = h.leads s.filter i.filter (meets s.filter i.filter) in (with_filter l.0 s, record {}, l.2, l.3)

  pub cursor_gone : (r : Result (Unit {0}) CallError) → steps.Answers S (DropsRecord (99 ∷ []) (with_cursor 0)) (noted (with_book_of (with_cursor 0))) x r y → Answers (whole S told) Any reset_cursor (x, e) r (y, e)
  cursor_gone r h = record { leads = λ s i p. resets s i r h (s.filter.volume.book.cursor == 0) refl }
