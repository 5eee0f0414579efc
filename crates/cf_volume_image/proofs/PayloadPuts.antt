-- The rows and records that a payload has of those that are named.
use Rattle.std.proofs.Common.{◌≡◌, ℕ, ◌+◌, List, [], ◌∷◌, ◌++◌, length, refl, sym, ap, subst, ◌∙◌, append_assoc, append-nil, arith, cond, eqb, inl, inr, Option, Some, None}
use Rattle.std.specs.Prelude.{All, map}
use Rattle.std.specs.List.{flat_map}
use Rattle.std.proofs.lemmas.Bool.{cases_Bool}
use Rattle.std.proofs.lemmas.List.Elements.{All-head, All-tail}
use Rattle.cf_base.specs.declared.answers.AuxRecord.{AuxRecord}
use Rattle.cf_base.specs.declared.ids.ItemId.{ItemId}
use Rattle.cf_model.specs.Formats.{spell_record}
use Rattle.cf_model.specs.Rows.{Row, spell_row}
use Rattle.cf_model.specs.Words.{same}
use Rattle.cf_table.specs.Applied.{IsSpellable}
use Rattle.cf_table.specs.Spelling.{HasRoom, row_value}
use Rattle.cf_table.specs.Tables.{row_of}
use Rattle.cf_table.specs.declared.rows.Row.{Row as TableRow}
use Rattle.cf_volume_image.specs.Contents.{in_front, one_record, one_row, record_at, records_at, row_at, rows_at}
use Rattle.cf_volume_image.specs.RecordLists.{IsShort}
use Rattle.cf_volume_image.specs.Spelled.{AreRecordsFrom}
use Rattle.cf_volume_image.proofs.RowLookups.{at_none, at_some}

-- one row

pub no_row_put : (rows : List TableRow) (id : ItemId) (out : List ℕ) → None ≡ row_of rows id → out ≡ out ++ flat_map spell_row (one_row (map row_value rows) id)
no_row_put rows id out h = sym (ap (λ o. out ++ flat_map spell_row (in_front o [])) (at_none rows id h) ∙ append-nil out)

pub no_row_count : (rows : List TableRow) (id : ItemId) → None ≡ row_of rows id → 0 ≡ length (one_row (map row_value rows) id)
no_row_count rows id h = sym (ap (λ o. length (in_front o [])) (at_none rows id h))

pub row_put : (rows : List TableRow) (id : ItemId) (r : TableRow) (out new : List ℕ) → Some r ≡ row_of rows id → new ≡ out ++ spell_row (row_value r) → new ≡ out ++ flat_map spell_row (one_row (map row_value rows) id)
row_put rows id r out new h puts =
    puts ∙ ap (λ l. out ++ l) (sym (append-nil (spell_row (row_value r)))) ∙ sym (ap (λ o. out ++ flat_map spell_row (in_front o [])) (at_some rows id r h))

pub row_count : (rows : List TableRow) (id : ItemId) (r : TableRow) → Some r ≡ row_of rows id → 1 ≡ length (one_row (map row_value rows) id)
row_count rows id r h = sym (ap (λ o. length (in_front o [])) (at_some rows id r h))

pub room_of : (rows : List TableRow) (id : ItemId) (r : TableRow) → All HasRoom rows → Some r ≡ row_of rows id → HasRoom r
room_of [] id r all h = let z : Some r ≡ None = h in absurd cc
room_of (x ∷ xs) id r all h = elim (cases_Bool (eqb x.id.0 id.0)) [
  | inl hit ↦ let z : Some r ≡ Some x = h ∙ ap (λ b. cond b (Some x) (row_of xs id)) hit in subst (λ (y : TableRow). HasRoom y) (some_same x r (sym z)) (All-head HasRoom x xs all)
  | inr miss ↦ room_of xs id r (All-tail HasRoom x xs all) (h ∙ ap (λ b. cond b (Some x) (row_of xs id)) miss)
] where
  some_same : (a b : TableRow) → ◌≡◌ {A = Option TableRow} (Some a) (Some b) → a ≡ b
  some_same a b e = cc

-- one record

pub no_record_put : (records : List AuxRecord) (key out : List ℕ) → None ≡ record_at records key → out ≡ out ++ flat_map spell_record (one_record records key)
no_record_put records key out h = sym (ap (λ o. out ++ flat_map spell_record (in_front o [])) (sym h) ∙ append-nil out)

pub no_record_count : (records : List AuxRecord) (key : List ℕ) → None ≡ record_at records key → 0 ≡ length (one_record records key)
no_record_count records key h = ap (λ o. length (in_front o [])) h

pub record_put : (records : List AuxRecord) (key : List ℕ) (r : AuxRecord) (out new : List ℕ) → Some r ≡ record_at records key → new ≡ out ++ spell_record r → new ≡ out ++ flat_map spell_record (one_record records key)
record_put records key r out new h puts = puts ∙ ap (λ l. out ++ l) (sym (append-nil (spell_record r))) ∙ ap (λ o. out ++ flat_map spell_record (in_front o [])) h

pub record_count : (records : List AuxRecord) (key : List ℕ) (r : AuxRecord) → Some r ≡ record_at records key → 1 ≡ length (one_record records key)
record_count records key r h = ap (λ o. length (in_front o [])) h

pub short_of : (before : Option (List ℕ)) (records : List AuxRecord) (key : List ℕ) (r : AuxRecord) → AreRecordsFrom before records → Some r ≡ record_at records key → IsShort r
short_of before [] key r all h = let z : Some r ≡ None = h in absurd cc
short_of before (x ∷ xs) key r all h = elim (cases_Bool (same x.key key)) [
  | inl hit ↦ let z : Some r ≡ Some x = h ∙ ap (λ b. cond b (Some x) (record_at xs key)) hit in subst (λ (y : AuxRecord). IsShort y) (some_same x r (sym z)) (all.0.0.0, all.0.1)
  | inr miss ↦ short_of (Some x.key) xs key r all.1 (h ∙ ap (λ b. cond b (Some x) (record_at xs key)) miss)
] where
  some_same : (a b : AuxRecord) → ◌≡◌ {A = Option AuxRecord} (Some a) (Some b) → a ≡ b
  some_same a b e = cc

-- many

front_put : {A : Type 0} (f : A → List ℕ) (o : Option A) (xs : List A) → flat_map f (in_front o xs) ≡ flat_map f (in_front o []) ++ flat_map f xs
front_put f None xs = refl
front_put f (Some x) xs = ap (λ l. l ++ flat_map f xs) (sym (append-nil (f x)))

front_count : {A : Type 0} (o : Option A) (xs : List A) → length (in_front o xs) ≡ length (in_front o []) + length xs
front_count None xs = omega arith
front_count (Some x) xs = omega arith

pub rows_put : (rows : List Row) (ids rest : List ItemId) (id : ItemId) (out new all : List ℕ) → ids ≡ id ∷ rest → new ≡ out ++ flat_map spell_row (one_row rows id) →
    out ++ flat_map spell_row (rows_at rows ids) ≡ all → new ++ flat_map spell_row (rows_at rows rest) ≡ all
rows_put rows ids rest id out new all is puts so =
    ap (λ (o : List ℕ). o ++ flat_map spell_row (rows_at rows rest)) puts
    ∙ append_assoc out (flat_map spell_row (one_row rows id)) (flat_map spell_row (rows_at rows rest))
    ∙ ap (λ (l : List ℕ). out ++ l) (sym (ap (λ l. flat_map spell_row (rows_at rows l)) is ∙ front_put spell_row (row_at rows id) (rows_at rows rest))) ∙ so

pub rows_count : (rows : List Row) (ids rest : List ItemId) (id : ItemId) (n more all : ℕ) → ids ≡ id ∷ rest → more ≡ length (one_row rows id) → n + length (rows_at rows ids) ≡ all → n + more + length (rows_at rows rest) ≡ all
rows_count rows ids rest id n more all is puts so = omega (arith, so, puts, ap (λ l. length (rows_at rows l)) is, front_count (row_at rows id) (rows_at rows rest))

pub records_put : (records : List AuxRecord) (keys rest : List (List ℕ)) (key : List ℕ) (out new all : List ℕ) → keys ≡ key ∷ rest → new ≡ out ++ flat_map spell_record (one_record records key) →
    out ++ flat_map spell_record (records_at records keys) ≡ all → new ++ flat_map spell_record (records_at records rest) ≡ all
records_put records keys rest key out new all is puts so =
    ap (λ (o : List ℕ). o ++ flat_map spell_record (records_at records rest)) puts
    ∙ append_assoc out (flat_map spell_record (one_record records key)) (flat_map spell_record (records_at records rest))
    ∙ ap (λ (l : List ℕ). out ++ l) (sym (ap (λ l. flat_map spell_record (records_at records l)) is ∙ front_put spell_record (record_at records key) (records_at records rest))) ∙ so

pub records_count : (records : List AuxRecord) (keys rest : List (List ℕ)) (key : List ℕ) (n more all : ℕ) → keys ≡ key ∷ rest → more ≡ length (one_record records key) → n + length (records_at records keys) ≡ all → n + more + length (records_at records rest) ≡ all
records_count records keys rest key n more all is puts so = omega (arith, so, puts, ap (λ l. length (records_at records l)) is, front_count (record_at records key) (records_at records rest))

-- the first of rows that have room, and the rest

pub first_spellable : (rows rest : List TableRow) (r : TableRow) → rows ≡ r ∷ rest → All HasRoom rows → IsSpellable r
first_spellable rows rest r is all = (All-head HasRoom r rest (subst (λ (l : List TableRow). All HasRoom l) is all)).texts

pub rest_has_room : (rows rest : List TableRow) (r : TableRow) → rows ≡ r ∷ rest → All HasRoom rows → All HasRoom rest
rest_has_room rows rest r is all = All-tail HasRoom r rest (subst (λ (l : List TableRow). All HasRoom l) is all)
