-- Paths seen are records that come beside the entries of a directory.
use Rattle.std.proofs.Common.{◌≡◌, true, List, [], ◌∷◌, map, refl, sym, ◌∙◌, ap, subst}
use Rattle.std.specs.List.{AllByRecursion}
use Rattle.std.specs.Prelude.{Result}
use Rattle.cf_base.specs.declared.answers.AuxRecord.{AuxRecord}
use Rattle.cf_base.specs.declared.codes.CallError.{CallError}
use Rattle.cf_base.specs.declared.ids.Usn.{Usn}
use Rattle.cf_base.specs.declared.items.SeenPath.{SeenPath}
use Rattle.cf_engine_queue.specs.Records.{AreSeen, FitsSeen, IsKeepable}
use Rattle.cf_engine_queue.proofs.StaysKeepable.{seen_kept, short_ids}
use Rattle.cf_engine_queue.proofs.Steps.{seen_step}
use Rattle.cf_model.specs.Arrows.{Arrow}
use Rattle.cf_model.specs.Books.{Book, Tombstone, aux_records, seen_record, with_seen}
use Rattle.cf_model.specs.Changes.{next_number}
use Rattle.cf_model.specs.Formats.{with_records}
use Rattle.cf_model.specs.Numbers.{above}
use Rattle.cf_model.specs.Ports.{seeing}
use Rattle.cf_model.specs.State.{Filter}
use Rattle.cf_filter_steps.specs.Answering.{Answers, Any, Sense}
use Rattle.cf_filter_steps.specs.Good.{Every}
use Rattle.cf_filter_steps.specs.Listing.{HasRecordsBeside}

seen_fit : (ps : List SeenPath) (b : Book) → AllByRecursion FitsSeen ps → IsKeepable b → IsKeepable (seeing ps b)
seen_fit [] b fits h = h
seen_fit (p ∷ ps) b fits h = seen_fit ps (with_seen p b) fits.1 (seen_kept b p h fits.0)

-- all that is no path seen stays

seen_told : (ps : List SeenPath) (b : Book) → AllByRecursion FitsSeen ps → IsKeepable b → aux_records (seeing ps b) ≡ with_records (map seen_record ps) (aux_records b)
seen_told [] b fits h = refl
seen_told (p ∷ ps) b fits h = seen_told ps (with_seen p b) fits.1 (seen_kept b p h fits.0) ∙ ap (with_records (map seen_record ps)) (seen_step b p (short_ids b h) fits.0.item)

others_stay : {X : Type 0} (f : Book → X) → ((p : SeenPath) (b : Book) → f (with_seen p b) ≡ f b) → (ps : List SeenPath) (b : Book) → f (seeing ps b) ≡ f b
others_stay f same [] b = refl
others_stay f same (p ∷ ps) b = others_stay f same ps (with_seen p b) ∙ same p b

records_beside : (next : Usn) (ps : List SeenPath) (b : Book) → AllByRecursion FitsSeen ps → IsKeepable b → HasRecordsBeside next b (map seen_record ps) (seeing ps b)
records_beside next ps b fits h = record {
  told = seen_told ps b fits h;
  anchors = others_stay (λ (b : Book). b.anchors) (λ p b. refl) ps b;
  clock = others_stay (λ (b : Book). b.clock) (λ p b. refl) ps b;
  accesses = others_stay (λ (b : Book). b.accesses) (λ p b. refl) ps b;
  fits = seen_fit ps b fits;
  graves = λ n from given. subst (λ (ts : List Tombstone). Every (λ t. above n t.number ≡ true) ts) (sym (others_stay (λ (b : Book). b.tombstones) (λ p b. refl) ps b)) given;
}

-- so what needs the records of paths seen beside its book may be done in each state
pub seen_beside : {X A : Type 0} (S : Sense X) → ((x : X) (s : Filter) → S.means x s → IsKeepable s.volume.book) → (x y : X) (seen : List SeenPath) (records : List AuxRecord) (f : Arrow Filter A) (r : Result A CallError) → AreSeen seen records
    → Answers S (λ s. HasRecordsBeside (next_number s.volume) s.volume.book records (seeing seen s.volume.book)) f x r y → Answers S Any f x r y
seen_beside S keepable x y seen records f r are h = record {
  leads = λ s i any.
      h.leads s i (subst (λ (l : List AuxRecord). HasRecordsBeside (next_number s.volume) s.volume.book l (seeing seen s.volume.book)) (sym are.are) (records_beside (next_number s.volume) seen s.volume.book are.fits (keepable x s i)));
}
