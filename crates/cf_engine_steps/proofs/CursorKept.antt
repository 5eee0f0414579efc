-- The cursor, as it is put or cleared.
use Rattle.std.proofs.Common.{◌≡◌, ◌≤◌, ◌<◌, ◌+◌, Bool, true, false, List, [], ◌∷◌, ◌++◌, map, refl, sym, ◌∙◌, ap, ℕ, arith}
use Rattle.std.proofs.lemmas.Bool.{le-ltb}
use Rattle.std.proofs.lemmas.List.Sums.{sum_by-append}
use Rattle.std.specs.Prelude.{Result, Ok, Err, None, length, nat_lt, sum_by, ◌==◌, ◌&&◌, ◌||◌}
use Rattle.cf_base.specs.declared.answers.AuxRecord.{AuxRecord}
use Rattle.cf_base.specs.declared.codes.Code.TheVariants as code
use Rattle.cf_base.specs.declared.codes.CallError.{CallError}
use Rattle.cf_engine_host.specs.BookSteps.{DropsRecord, PutsBeside, with_book_of}
use Rattle.cf_engine_queue.specs.Records.{IsCursor, IsKeepable}
use Rattle.cf_engine_queue.proofs.StaysKeepable.{cursor_kept}
use Rattle.cf_engine_queue.proofs.Steps.{cursor_step}
use Rattle.cf_engine_steps.specs.Answering.{Answers, Any, On}
use Rattle.cf_engine_steps.specs.BookReads.{cursor_in}
use Rattle.cf_engine_steps.specs.Recorded.{PutsIf}
use Rattle.cf_engine_steps.specs.States.{Own, whole}
use Rattle.cf_engine_steps.proofs.Laws.{reads_on, returned}
use Rattle.cf_engine_steps.proofs.Recorded.{book_done}
use Rattle.cf_engine_steps.proofs.Tried.{tried_done, tried_fails}
use Rattle.cf_filter_steps.specs.Answering as steps
use Rattle.cf_filter_steps.specs.Good.{IsGoodVolume}
use Rattle.cf_model.specs.Arrows.{noted}
use Rattle.cf_model.specs.Books.{Book, aux_records, cursor_records, entry_record, seen_record, tombstone_record, with_cursor}
use Rattle.cf_model.specs.Formats.{with_record}
use Rattle.cf_model.specs.Images.{aux_len, aux_len_of, image_len, most_image, most_len, row_len, table_full}
use Rattle.cf_model.specs.Items.{Item}
use Rattle.cf_model.specs.Skips.{cursor_unless, in_book, is_cursor, try_book, try_cursor, why_no_record}
use Rattle.cf_model.specs.State.{Filter, State}
use Rattle.cf_model.specs.Words.{first_of}
use Rattle.cf_remote.specs.Told.{Told}

pub puts_cursor : (r : AuxRecord) (clock : ℕ) (s : Filter) → IsCursor r clock → 0 < clock → IsKeepable s.volume.book → PutsBeside r (with_cursor clock) s
puts_cursor r clock s is some k = record {
  records = cursor_step s.volume.book clock some ∙ ap (λ (q : AuxRecord). with_record q (aux_records s.volume.book)) (sym is.spelled);
  anchors = refl;
  clock = refl;
  accesses = refl;
  fits = cursor_kept s.volume.book clock k is.fits;
  tombstones = λ h. h;
}

pub cursor_if : {X : Type 0} (S : steps.Sense X) (keeps : (x : X) (s : Filter) → S.means x s → IsKeepable s.volume.book) (x : X) (r : AuxRecord) (clock : ℕ) → IsCursor r clock → 0 < clock → PutsIf S r (with_cursor clock) x
cursor_if S keeps x r clock is some = record { puts = λ s m. puts_cursor r clock s is some (keeps x s m) }

-- without a cursor a table is no longer

shorter : (b : Book) → aux_len_of (with_cursor 0 b) ≤ aux_len_of b
shorter b =
    let e : List AuxRecord = map entry_record b.entries in
    let p : List AuxRecord = map seen_record b.seen in
    let t : List AuxRecord = map tombstone_record b.tombstones in
    let c : List AuxRecord = cursor_records b.cursor in
    let h0 = sum_by-append aux_len (e ++ p) t in
    let h1 = sum_by-append aux_len e p in
    let k0 = sum_by-append aux_len (c ++ e ++ p) t in
    let k1 = sum_by-append aux_len (c ++ e) p in
    let k2 = sum_by-append aux_len c e in
    omega (arith, h0, h1, k0, k1, k2)

room : (items : List Item) (b : Book) → length items ≤ 10000 → image_len items b ≤ most_image → table_full items (with_cursor 0 b) ≡ false
room items b few short = two (nat_lt 10000 (length items)) (nat_lt most_image (most_len items (with_cursor 0 b))) (nat_lt most_image (image_len items (with_cursor 0 b))) (le-ltb 10000 (length items) few)
    (le-ltb most_image (image_len items (with_cursor 0 b)) (less (sum_by (row_len b) items) (aux_len_of b) (aux_len_of (with_cursor 0 b)) short (shorter b))) where
      less : (n p q : ℕ) → 41 + n + p ≤ most_image → q ≤ p → 41 + n + q ≤ most_image
      less n p q h k = omega (arith, h, k)

      two : (a c d : Bool) → a ≡ false → d ≡ false → (a || (c && d)) ≡ false
      two true c d h k = let z : true ≡ false = h in absurd cc
      two false true d h k = k
      two false false d h k = refl

never_full : (s : Filter) → IsGoodVolume s.volume → first_of ((table_full s.volume.items (with_cursor 0 s.volume.book), code.TableFull) ∷ []) ≡ None
never_full s good = ap (λ (b : Bool). first_of ((b, code.TableFull) ∷ [])) (room s.volume.items s.volume.book good.few good.short)

module _ {X R : Type 0} (S : steps.Sense X) (told : R → Told) (x y : X) (e : Own R) (meets : (s : Filter) → S.means x s → DropsRecord (99 ∷ []) (with_cursor 0) s) where
  clears : (s : State) → (whole S told).means (x, e) s → Any s → (why_no_record (with_cursor 0) s ≡ None) × On (DropsRecord (99 ∷ []) (with_cursor 0)) s
  clears s i p = (never_full s.filter (S.good x s.filter i.filter).volume, meets s.filter i.filter)

  pub cursor_cleared : (u : Unit {0}) → steps.Answers S (DropsRecord (99 ∷ []) (with_cursor 0)) (noted (with_book_of (with_cursor 0))) x (Ok u) y → Answers (whole S told) Any (try_book (with_cursor 0)) (x, e) (Ok true) (y, e)
  cursor_cleared u h = tried_done (whole S told) Any (On (DropsRecord (99 ∷ []) (with_cursor 0))) (why_no_record (with_cursor 0)) (in_book (with_cursor 0)) (x, e) (y, e) u clears
      (book_done S told x y e (DropsRecord (99 ∷ []) (with_cursor 0)) (with_cursor 0) (Ok u) h)

  pub cursor_lost : (f : CallError) → steps.Answers S (DropsRecord (99 ∷ []) (with_cursor 0)) (noted (with_book_of (with_cursor 0))) x (Err f) y → Answers (whole S told) Any (try_book (with_cursor 0)) (x, e) (Err f) (y, e)
  cursor_lost f h = tried_fails (whole S told) Any (On (DropsRecord (99 ∷ []) (with_cursor 0))) (why_no_record (with_cursor 0)) (in_book (with_cursor 0)) (x, e) (y, e) f clears
      (book_done S told x y e (DropsRecord (99 ∷ []) (with_cursor 0)) (with_cursor 0) (Err f) h)

-- only where it is another

module _ {X R : Type 0} (S : steps.Sense X) (told : R → Told) (clock now : ℕ) (x : X) (e : Own R) (h : steps.Reads S steps.Any cursor_in x now) where
  reads_so : (b : Bool) → (now == clock) ≡ b → steps.Reads S steps.Any (λ s. s.volume.book.cursor == clock) x b
  reads_so b is = record { is = λ s m p. sym is ∙ ap (λ (n : ℕ). n == clock) (h.is s m (record {})) }

  pub cursor_same : (now == clock) ≡ true → Answers (whole S told) Any (try_cursor clock) (x, e) (Ok true) (x, e)
  cursor_same is = reads_on (whole S told) Any (is_cursor clock) (cursor_unless clock) (x, e) (x, e) true (Ok true) (record { is = λ s i p. (reads_so true is).is s.filter i.filter (record {}) }) (returned (whole S told) Any true (x, e))

  pub cursor_other : (y : X) (f : Own R) (r : Result Bool CallError) → (now == clock) ≡ false → Answers (whole S told) Any (try_book (with_cursor clock)) (x, e) r (y, f) → Answers (whole S told) Any (try_cursor clock) (x, e) r (y, f)
  cursor_other y f r is k = reads_on (whole S told) Any (is_cursor clock) (cursor_unless clock) (x, e) (y, f) false r (record { is = λ s i p. (reads_so false is).is s.filter i.filter (record {}) }) k
