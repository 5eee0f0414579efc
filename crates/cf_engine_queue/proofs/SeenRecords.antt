-- Records of paths seen, one after the other.
use Rattle.std.proofs.Common.{◌≡◌, List, [], ◌∷◌, ◌++◌, map, append-nil, append_assoc, sym, ◌∙◌, ap, subst}
use Rattle.std.specs.List.{AllByRecursion}
use Rattle.cf_base.specs.declared.answers.AuxRecord.{AuxRecord}
use Rattle.cf_base.specs.declared.items.SeenPath.{SeenPath}
use Rattle.cf_model.specs.Books.{seen_record}
use Rattle.cf_engine_queue.specs.Records.{AreSeen, AreSeenBut, FitsSeen, IsSeen}

pub seen_none : (all : List SeenPath) (records : List AuxRecord) → records ≡ [] → AreSeenBut all all records
seen_none all records none = record { are = ap (λ (l : List AuxRecord). l ++ map seen_record all) none; fits = λ fit. fit }

pub seen_more : (left rest all : List SeenPath) (records new : List AuxRecord) (r : AuxRecord) (p : SeenPath) → left ≡ p ∷ rest → IsSeen r p → new ≡ records ++ r ∷ [] → AreSeenBut left all records → AreSeenBut rest all new
seen_more left rest all records new r p is told put h = record {
  are =
      ap (λ (l : List AuxRecord). l ++ map seen_record rest) put ∙ append_assoc records (r ∷ []) (map seen_record rest) ∙ ap (λ (x : AuxRecord). records ++ x ∷ map seen_record rest) told.spelled
      ∙ ap (λ (ps : List SeenPath). records ++ map seen_record ps) (sym is) ∙ h.are;
  fits = λ after. h.fits (subst (AllByRecursion FitsSeen) (sym is) (told.fits, after));
}

pub seen_all : (left all : List SeenPath) (records : List AuxRecord) → left ≡ [] → AreSeenBut left all records → AreSeen all records
seen_all left all records none h = record {
  are = sym (append-nil records) ∙ ap (λ (ps : List SeenPath). records ++ map seen_record ps) (sym none) ∙ h.are;
  fits = h.fits (subst (AllByRecursion FitsSeen) (sym none) (record {}));
}
