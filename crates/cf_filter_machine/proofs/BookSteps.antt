-- Steps that change the book of the volume, and the desk.
use Rattle.std.proofs.Common.{◌≡◌, inl, ℕ, Bool, true, false, cond, eqb, [], Option, Some, refl, sym, ◌∙◌, ap, subst, arith, append-nil}
use Rattle.std.proofs.lemmas.Bool.{eqb-true, true≢false}
use Rattle.std.specs.Prelude.{Err, MatchOption, Ok, Result}
use Rattle.std.proofs.lemmas.Result.{err_from_is_err_and}
use Rattle.std.specs.Result.{IsErrAnd}
use Rattle.cf_filter_machine.proofs.Aims.{aims_book}
use Rattle.cf_volume_room.specs.Aims.{IsAimedBy}
use Rattle.cf_base.specs.declared.codes.CallError.{CallError}
use Rattle.cf_base.specs.declared.codes.CallError.TheVariants.{OutOfMemory}
use Rattle.cf_base.specs.declared.ids.ItemId.{ItemId}
use Rattle.cf_disk.specs.Disk.{State}
use Rattle.cf_engine_queue.proofs.StaysKeepable.{access_kept, ticks_kept}
use Rattle.cf_filter_machine.proofs.Rebooked.{rebooked}
use Rattle.cf_filter_machine.proofs.RisingBooks.{accesses_with}
use Rattle.cf_filter_desk.specs.Desks.{Desk, desk_of}
use Rattle.cf_filter_machine.specs.Held.{Held}
use Rattle.cf_filter_machine.specs.Keeping.{HasKeptPoints, IsKeptVolume}
use Rattle.cf_filter_machine.specs.Lasting.{Grows, Lasts, Moved}
use Rattle.cf_filter_machine.specs.Lasts.{grows_not, lasts_at, stays_put}
use Rattle.cf_filter_machine.specs.Sensing.{Stands, sense}
use Rattle.cf_model.specs.Arrows.{Arrow, noted, unit}
use Rattle.cf_model.specs.Books.{Book, access_of, with_access, with_ticks}
use Rattle.cf_model.specs.Items.{Item, item_of}
use Rattle.cf_model.specs.Settling.{accessed, with_access_to}
use Rattle.cf_model.specs.State.{Filter, Volume}
use Rattle.cf_model.specs.Waits.{with_clock, with_time}
use Rattle.cf_volume_points.proofs.BookChanges.{access_put}
use Rattle.cf_volume_points.specs.At.{At}
use Rattle.cf_volume_points.specs.Known.{Known}
use Rattle.cf_filter_steps.specs.Answering.{Answers}
use Rattle.cf_filter_steps.specs.Good.{IsFileIn, IsGood}

pub grows_book : (v : Volume) (b : Book) → Grows v (record v { book = b })
grows_book v b = record { epoch = refl; clusters = refl; more = []; log = sym (append-nil v.log); points = λ p h. inl h }

pub book_moved : (d : State) (v : Volume) (b : Book) → Lasts d v → Moved d d v (record v { book = b })
book_moved d v b lasts = record {
  runs = record { size = refl; settings = refl; powers = refl; faults = omega arith; calm = omega arith };
  grows = grows_book v b;
  leaves = record {
    later = omega arith;
    now = λ c left. record { mid = v; after = grows_not v; before = grows_book v b; stands = lasts c left };
    since = λ t c le left. inl left;
  };
}

-- what holds of the volume after such a step
pub record IsRebooked (s : Filter) (t : Filter) : Type 0 where
  pub book : Book
  pub same : t.volume ≡ record s.volume { book = book }
  pub good : IsGood t
  pub kept : IsKeptVolume t.volume

module _ {D : Type 0} (state : D → State) (P : Filter → Type 0) (x y : Held D) (k : Known) (e : Desk) (is : y ≡ record { disk = x.disk; known = k; desk = e }) where
  points_stay : (v : Volume) (b : Book) → HasKeptPoints v → HasKeptPoints (record v { book = b })
  points_stay v b h = h

  pub book_done : (f : Filter → Filter) → k.broken ≡ false → ((s : Filter) → Stands state x s → At (state x.disk) k (f s).volume) → ((s : Filter) → Stands state x s → e ≡ desk_of (f s))
      → ((s : Filter) → Stands state x s → P s → IsRebooked s (f s)) → Answers (sense state) P (noted f) x (Ok unit) y
  book_done f usable at desk fits = subst (λ (z : Held D). Answers (sense state) P (noted f) x (Ok unit) z) (sym is) (record {
    leads = λ s h p.
        let r = fits s h p in (
          f s,
          (refl, refl),
          subst (λ (v : Volume). Moved (state x.disk) (state x.disk) s.volume v) (sym r.same) (book_moved (state x.disk) s.volume r.book (lasts_at (state x.disk) x.known s.volume h.fair h.volume h.points)),
          record {
            fair = h.fair;
            volume = at s h;
            desk = desk s h;
            whole = usable;
            good = r.good;
            kept = r.kept;
            points = subst HasKeptPoints (sym r.same) (points_stay s.volume r.book h.points);
            aimed = subst (IsAimedBy (state x.disk).settings.aim) (sym r.same) (aims_book (state x.disk).settings.aim s.volume r.book h.aimed);
          },
        );
  })

  pub book_lost : {A : Type 0} (f : Arrow Filter A) → Answers (sense state) P f x (Err OutOfMemory) y
  book_lost f = subst (λ (z : Held D). Answers (sense state) P f x (Err OutOfMemory) z) (sym is) (record {
    leads = λ s h p. (s, record {}, stays_put (state x.disk) x.known s.volume h.fair h.volume h.points, lasts_at (state x.disk) x.known s.volume h.fair h.volume h.points);
  })

  -- at an exit by `?`
  pub book_left : {A : Type 0} (f : Arrow Filter A) (r : Result A CallError) → IsErrAnd r (λ z. z ≡ OutOfMemory) → Answers (sense state) P f x r y
  book_left {A} f r by = let p = err_from_is_err_and r by in subst (λ (q : Result A CallError). Answers (sense state) P f x q y) (sym (p.1 ∙ ap (λ (z : CallError). Err z) p.2)) (book_lost f)

-- accesses

same_id : (a b : ItemId) → a.0 ≡ b.0 → a ≡ b
same_id a b h = ap (λ (n : ℕ). record { 0 = n }) h

not_file : (o : Option Item) (i : Item) → MatchOption o ⊥ (λ (j : Item). j.directory ≡ false) → o ≡ Some i → i.directory ≡ true → ⊥
not_file o i file e d = true≢false (sym d ∙ subst (λ (p : Option Item). MatchOption p ⊥ (λ (j : Item). j.directory ≡ false)) e file)

pub touched_book : (id : ItemId) (v : Volume) → IsFileIn v.items id → IsKeptVolume v → IsKeptVolume (with_access_to id v)
touched_book id v file h = rebooked v (with_access id v.book) h.good.short (record {
  anchors = h.book.anchors;
  accesses = λ key i e d. access_put id key v.book ∙ by key i e d (eqb id.0 key.0) refl;
  fits = access_kept v.book id h.book.fits;
  graves = h.book.graves;
  anchors_rise = h.book.anchors_rise;
  accesses_rise = accesses_with id v.book.clock v.book.accesses h.book.accesses_rise;
}) h
  where
    by : (key : ItemId) (i : Item) → item_of v.items key ≡ Some i → i.directory ≡ true → (t : Bool) → eqb id.0 key.0 ≡ t → cond t v.book.clock (access_of v.book key) ≡ 0
    by key i e d true q = absurd (not_file (item_of v.items id) i file (ap (item_of v.items) (same_id id key (eqb-true id.0 key.0 q)) ∙ e) d)
    by key i e d false q = h.book.accesses key i e d

pub accessed_good : (id : ItemId) (s : Filter) → IsFileIn s.volume.items id → IsGood s → IsKeptVolume s.volume → IsRebooked s (accessed id s)
accessed_good id s file good kept =
    let after : IsKeptVolume (with_access_to id s.volume) = touched_book id s.volume file kept in
    record { book = with_access id s.volume.book; same = refl; good = record { volume = after.good; files = good.files; numbered = good.numbered; reads = good.reads }; kept = after }

-- time

passed_book : (n : ℕ) (v : Volume) → IsKeptVolume v → IsKeptVolume (with_clock n v)
passed_book n v h = rebooked v (with_ticks n v.book) h.good.short
    (record { anchors = h.book.anchors; accesses = h.book.accesses; fits = ticks_kept v.book n h.book.fits; graves = h.book.graves; anchors_rise = h.book.anchors_rise; accesses_rise = h.book.accesses_rise }) h

pub passed_good : (n : ℕ) (s : Filter) → IsGood s → IsKeptVolume s.volume → IsRebooked s (with_time n s)
passed_good n s good kept =
    let after : IsKeptVolume (with_clock n s.volume) = passed_book n s.volume kept in
    record { book = with_ticks n s.volume.book; same = refl; good = record { volume = after.good; files = good.files; numbered = good.numbered; reads = good.reads }; kept = after }
