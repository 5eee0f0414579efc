-- Records that fit rows, one after the other.
use Rattle.std.proofs.Common.{◌≡◌, Bool, true, false, cond, List, [], ◌∷◌, ◌==◌, ◌&&◌, map, nat_lt, Option, Some, refl, sym, ◌∙◌, ap, subst, arith}
use Rattle.std.specs.List.{list_all}
use Rattle.std.specs.Prelude.{◌↔◌, All, Err, IfOk, IsTrue, Ok, Result, find}
use Rattle.std.specs.Option.{option_map}
use Rattle.std.proofs.lemmas.List.Folds.{list_all-map}
use Rattle.std.proofs.lemmas.List.Elements.{All-cons, All-head, All-nil, All-tail}
use Rattle.cf_base.specs.declared.answers.AuxRecord.{AuxRecord}
use Rattle.cf_base.specs.declared.ids.ItemId.{ItemId}
use Rattle.cf_base.specs.declared.ids.Usn.{Usn}
use Rattle.cf_engine.specs.Openings.{FitsEngine, RecordFits, entry_fits, has_uploaded, is_ours, is_uploaded, said_fits}
use Rattle.cf_engine_queue.proofs.OneMeaning.{one_entry, same_letter}
use Rattle.cf_engine_queue.specs.Books.{entry_value}
use Rattle.cf_engine_queue.specs.Records.{IsEntry, Says}
use Rattle.cf_engine_queue.specs.declared.records.Record.{Record}
use Rattle.cf_engine_queue.specs.declared.records.Record.TheVariants as said
use Rattle.cf_model.specs.Books.{QueueEntry, key_bytes}
use Rattle.cf_model.specs.Rows.{Row}
use Rattle.cf_model.specs.Words.{part}
use Rattle.cf_table.specs.Spelling.{row_value}
use Rattle.cf_table.specs.Tables as table
use Rattle.cf_table.specs.declared.rows.Row.{Row as Kept}

-- the row of an item

found_row : (rows : List Kept) (item : ItemId) → find (λ (r : Row). r.id.0 == item.0) (map row_value rows) ≡ option_map row_value (table.row_of rows item)
found_row [] item = refl
found_row (r ∷ rs) item = by (r.id.0 == item.0) (found_row rs item)
  where
    by : (b : Bool) → find (λ (x : Row). x.id.0 == item.0) (map row_value rs) ≡ option_map row_value (table.row_of rs item)
        → cond b (Some (row_value r)) (find (λ (x : Row). x.id.0 == item.0) (map row_value rs)) ≡ option_map row_value (cond b (Some r) (table.row_of rs item))
    by true rest = refl
    by false rest = rest

module _ (rows : List Kept) (next item : ItemId) (directory : Bool) (number : Usn) where
  abbrev told : Option Kept → Bool
  told o = part (is_uploaded directory number) true (option_map row_value o)

  has_is : (given : Bool) (o : Option Kept) → nat_lt item.0 next.0 ≡ given → table.row_of rows item ≡ o → has_uploaded next (map row_value rows) directory item number ≡ (given && told o)
  has_is given o low here = λ j. low j && part (is_uploaded directory number) true ((found_row rows item ∙ ap (option_map row_value) here) j)

  pub has_of : (o : Option Kept) → nat_lt item.0 next.0 ≡ true → o ≡ table.row_of rows item → told o ≡ has_uploaded next (map row_value rows) directory item number
  has_of o low here = sym (has_is true o low (sym here))

-- what a record says is one thing, as far as it is an upload

key_of : (r : AuxRecord) (e : QueueEntry) → IsEntry r e → r.key ≡ 113 ∷ key_bytes e.token.0
key_of r e h = ap (λ (s : AuxRecord). s.key) h.spelled

module _ (r : AuxRecord) (next : ItemId) (rows : List Row) where
  as_entry : (x : Record) (e : QueueEntry) → Says r x → IsEntry r e → said_fits next rows x ≡ entry_fits next rows e
  as_entry (said.Entry d) e g h = ap (entry_fits next rows) (one_entry r (entry_value d) e g h)
  as_entry (said.Cursor clock) e g h = absurd (let z : 99 ≡ 113 = same_letter r (said.Cursor clock) 113 (key_bytes e.token.0) g (key_of r e h) in omega arith)
  as_entry (said.Seen p) e g h = absurd (let z : 115 ≡ 113 = same_letter r (said.Seen p) 113 (key_bytes e.token.0) g (key_of r e h) in omega arith)
  as_entry (said.Buried t) e g h = absurd (let z : 116 ≡ 113 = same_letter r (said.Buried t) 113 (key_bytes e.token.0) g (key_of r e h) in omega arith)

  fits_too : (x y : Record) → Says r x → Says r y → said_fits next rows y ≡ true → said_fits next rows x ≡ true
  fits_too x (said.Entry e) g h fits = as_entry x (entry_value e) g h ∙ fits
  fits_too (said.Entry d) (said.Cursor clock) g h fits = absurd (let z : 99 ≡ 113 = same_letter r (said.Cursor clock) 113 (key_bytes d.token.0) h (key_of r (entry_value d) g) in omega arith)
  fits_too (said.Entry d) (said.Seen p) g h fits = absurd (let z : 115 ≡ 113 = same_letter r (said.Seen p) 113 (key_bytes d.token.0) h (key_of r (entry_value d) g) in omega arith)
  fits_too (said.Entry d) (said.Buried t) g h fits = absurd (let z : 116 ≡ 113 = same_letter r (said.Buried t) 113 (key_bytes d.token.0) h (key_of r (entry_value d) g) in omega arith)
  fits_too (said.Cursor clock) y g h fits = refl
  fits_too (said.Seen p) y g h fits = refl
  fits_too (said.Buried t) y g h fits = refl

  pub record_is : (x : Record) (b : Bool) → Says r x → b ≡ said_fits next rows x → IsTrue b ↔ RecordFits next rows r
  record_is x b says is = (λ hit. (x, says, sym is ∙ hit), λ fits. is ∙ fits_too x fits.0 says fits.1 fits.2)

-- the first of those that are left, and the rest

module _ (P : AuxRecord → Type 0) (left rest : List AuxRecord) (r : AuxRecord) (is : left ≡ r ∷ rest) where
  pub all_of : P r → All P rest → All P left
  all_of fit h = subst (λ (rs : List AuxRecord). All P rs) (sym is) (All-cons P r rest fit h)

  pub first_of : All P left → P r
  first_of h = All-head P r rest (subst (λ (rs : List AuxRecord). All P rs) is h)

  pub rest_of : All P left → All P rest
  rest_of h = All-tail P r rest (subst (λ (rs : List AuxRecord). All P rs) is h)

pub none_left : (P : AuxRecord → Type 0) (left : List AuxRecord) → left ≡ [] → All P left
none_left P left is = subst (λ (rs : List AuxRecord). All P rs) (sym is) (All-nil P)

-- the whole

module _ (next : ItemId) (kept rows : List Kept) (records : List AuxRecord) (b : Bool) (same : kept ≡ rows) (is : b ≡ list_all (λ r. is_ours (row_value r).identity) kept) where
  ours : b ≡ list_all (λ (r : Row). is_ours r.identity) (map row_value rows)
  ours = is ∙ ap (list_all (λ (r : Kept). is_ours (row_value r).identity)) same ∙ sym (list_all-map (λ (r : Row). is_ours r.identity) row_value rows)

  pub no_engine : b ≡ false → IsTrue false ↔ FitsEngine next (map row_value rows) records
  no_engine miss = (λ hit. absurd (let z : false ≡ true = hit in cc), λ fits. sym miss ∙ ours ∙ fits.identities)

  pub an_engine : {E : Type 0} → b ≡ true → (r : Result Bool E) → IfOk r (λ f. IsTrue f ↔ All (RecordFits next (map row_value rows)) records) → IfOk r (λ f. IsTrue f ↔ FitsEngine next (map row_value rows) records)
  an_engine hit (Ok f) h = (λ y. record { identities = sym ours ∙ hit; records_fit = h.0 y }, λ fits. h.1 fits.records_fit)
  an_engine hit (Err e) h = tt
