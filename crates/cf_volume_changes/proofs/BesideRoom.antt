-- How long a table is with records beside those of a draft.
use Rattle.std.proofs.Common.{◌≡◌, ℕ, ◌+◌, ◌≤◌, ◌==◌, Bool, true, false, ◌||◌, not, cond, ltb, List, [], ◌∷◌, drop, length, refl, sym, ◌∙◌, ap, arith, Option, Some, None}
use Rattle.std.specs.List.{list_any}
use Rattle.std.specs.Option.{is_some}
use Rattle.std.specs.Prelude.{Err, IfOk, Ok, Result, find, sum_by}
use Rattle.std.proofs.lemmas.List.{drop_all}
use Rattle.std.proofs.lemmas.Option.{none-some}
use Rattle.cf_base.specs.declared.answers.Anchor.{Anchor}
use Rattle.cf_base.specs.declared.answers.AuxRecord.{AuxRecord}
use Rattle.cf_base.specs.declared.ids.ItemId.{ItemId}
use Rattle.cf_base.specs.declared.memory.OutOfMemory.{OutOfMemory}
use Rattle.cf_volume_points.proofs.Lookups.{at_with, at_without}
use Rattle.cf_volume_image.proofs.Keys.{else_before}
use Rattle.cf_volume_image.specs.Contents.{record_at}
use Rattle.cf_volume_image.specs.RecordLists.{IsShort}
use Rattle.cf_volume_image.specs.Spelled.{AreRecordsFrom, IsAfter}
use Rattle.cf_volume_image.specs.declared.contents.Contents.{Contents}
use Rattle.cf_model.specs.Books.{Book, anchor_of, aux_records}
use Rattle.cf_model.specs.Formats.{with_record, with_records, without_record}
use Rattle.cf_model.specs.Images.{aux_len, image_len, table_full}
use Rattle.cf_model.specs.Items.{Item}
use Rattle.cf_model.specs.Numbers.{no_usn}
use Rattle.cf_model.specs.State.{Volume}
use Rattle.cf_model.specs.Words.{comes_before, part, put_in, same}
use Rattle.cf_volume_points.proofs.Lookups.{filter_records}
use Rattle.cf_volume_points.specs.Known.{or_now}
use Rattle.cf_table.proofs.NamedEntries.{same_itself}
use Rattle.cf_volume_changes.proofs.DraftFlags.{drafts_even, less_same, table_exact}
use Rattle.cf_volume_changes.proofs.DraftGone.{records_rise}
use Rattle.cf_volume_changes.proofs.RecordRoom.{rows_same, with_len}
use Rattle.cf_volume_changes.specs.AuxPuts.{len_if}
use Rattle.cf_volume_changes.specs.Besides.{AreTaken, Besides}
use Rattle.cf_volume_changes.specs.Calls.{HasRecords}
use Rattle.cf_volume_changes.specs.Drafts.{Drafts, records_in}
use Rattle.cf_volume_changes.specs.Keys.{seen_key}
use Rattle.cf_volume_changes.specs.declared.room.drafts.Draft.{Draft}
use Rattle.cf_volume_changes.specs.declared.room.drafts.Sizes.{Sizes}
use Rattle.cf_volume_changes.specs.declared.room.records.Beside.{Beside}

-- records stay in order

head_other : (t : Bool) (x : AuxRecord) (o : Option AuxRecord) → cond t (Some x) o ≡ None → t ≡ false
head_other true x o h = absurd (none-some x (sym h))
head_other false x o h = refl

rest_none : (t : Bool) (x : AuxRecord) (o : Option AuxRecord) → cond t (Some x) o ≡ None → o ≡ None
rest_none true x o h = absurd (none-some x (sym h))
rest_none false x o h = h

put_rise : (r : AuxRecord) (before : Option (List ℕ)) (xs : List AuxRecord) → IsShort r → IsAfter before r.key → record_at xs r.key ≡ None → AreRecordsFrom before xs → AreRecordsFrom before (put_in (λ x y. comes_before x.key y.key) r xs)
put_rise r before [] short after none h = (((short.0, after), short.1), tt)
put_rise r before (x ∷ xs) short after none h = by (comes_before x.key r.key) refl (λ e. put_rise r (Some x.key) xs short e (rest_none (same x.key r.key) x (record_at xs r.key) none) h.1)
  where
    by : (t : Bool) → comes_before x.key r.key ≡ t → (comes_before x.key r.key ≡ true → AreRecordsFrom (Some x.key) (put_in (λ y z. comes_before y.key z.key) r xs))
        → AreRecordsFrom before (cond t (x ∷ put_in (λ y z. comes_before y.key z.key) r xs) (r ∷ x ∷ xs))
    by true e rest = (h.0, rest e)
    by false e rest = (((short.0, after), short.1), (((h.0.0.0, else_before x.key r.key e (head_other (same x.key r.key) x (record_at xs r.key) none)), h.0.1), h.1))

with_rise : (r : AuxRecord) (xs : List AuxRecord) → IsShort r → AreRecordsFrom None xs → AreRecordsFrom None (with_record r xs)
with_rise r xs short h = put_rise r None (without_record r.key xs) short tt (at_without r.key r.key true xs (same_itself r.key)) (filter_records (λ (x : AuxRecord). not (same x.key r.key)) None xs h)

-- records that items take away

pub left_at : (gone : List ItemId) (records : List AuxRecord) (key : List ℕ) → record_at (records_in gone records) key ≡ cond (list_any (λ id. same (seen_key id) key) gone) None (record_at records key)
left_at [] records key = refl
left_at (g ∷ gs) records key =
    left_at gs (without_record (seen_key g) records) key
    ∙ ap (λ (o : Option AuxRecord). cond (list_any (λ id. same (seen_key id) key) gs) None o) (at_without (seen_key g) key (same (seen_key g) key) records refl)
    ∙ by (list_any (λ id. same (seen_key id) key) gs) (same (seen_key g) key)
  where
    by : (x y : Bool) → cond x None (cond y None (record_at records key)) ≡ cond (y || x) None (record_at records key)
    by true true = refl
    by true false = refl
    by false true = refl
    by false false = refl

pub taken_more : (id : ItemId) (r : AuxRecord) (taken : List AuxRecord) (key : List ℕ) (rest all : Bool) → r.key ≡ seen_key id → all ≡ (is_some (record_at taken key) || (same (seen_key id) key || rest)) → all ≡ (is_some (record_at (with_record r taken) key) || rest)
taken_more id r taken key rest all is h =
    h ∙ by (is_some (record_at taken key)) (same (seen_key id) key) (record_at taken key) refl
    ∙ ap (λ (o : Option AuxRecord). is_some o || rest) (sym (at_with r key (same (seen_key id) key) taken (ap (λ (k : List ℕ). same k key) is)))
  where
    by : (x t : Bool) (o : Option AuxRecord) → is_some o ≡ x → (x || (t || rest)) ≡ (is_some (cond t (Some r) o) || rest)
    by x true o e = turn x rest
      where
        turn : (x y : Bool) → (x || (true || y)) ≡ true
        turn true y = refl
        turn false y = refl
    by x false o e = ap (λ (b : Bool). b || rest) (sym e)

pub taken_first : (gone : List ItemId) (taken : List AuxRecord) → taken ≡ [] → (key : List ℕ) → list_any (λ id. same (seen_key id) key) gone ≡ (is_some (record_at taken key) || list_any (λ id. same (seen_key id) key) gone)
taken_first gone taken is key = ap (λ (l : List AuxRecord). is_some (record_at l key) || list_any (λ id. same (seen_key id) key) gone) (sym is)

pub taken_all : (gone : List ItemId) (taken : List AuxRecord) (n : ℕ) → length gone ≤ n → ((key : List ℕ) → list_any (λ id. same (seen_key id) key) gone ≡ (is_some (record_at taken key) || list_any (λ id. same (seen_key id) key) (drop n gone))) → AreTaken gone taken
taken_all gone taken n le h key = sym (h key ∙ ap (λ (l : List ItemId). is_some (record_at taken key) || list_any (λ id. same (seen_key id) key) l) (drop_all n gone le) ∙ or_false (is_some (record_at taken key)))
  where
    or_false : (b : Bool) → (b || false) ≡ b
    or_false true = refl
    or_false false = refl

-- one more record put

module _ (gone : List ItemId) (records taken : List AuxRecord) (t u : Beside) (r : AuxRecord) (rest all : List AuxRecord) (keys : AreTaken gone taken) (short : IsShort r) (b : Besides gone records t (r ∷ rest) all)
    (put_is : u.put ≡ with_record r t.put) (more_is : u.more ≡ t.more + aux_len r) (less_is : u.less ≡ t.less + len_if (or_now (record_at t.put r.key) (cond (is_some (record_at taken r.key)) None (record_at records r.key)))) where
  was : or_now (record_at t.put r.key) (cond (is_some (record_at taken r.key)) None (record_at records r.key)) ≡ record_at b.made r.key
  was = ap (or_now (record_at t.put r.key)) (ap (λ (x : Bool). cond x None (record_at records r.key)) (keys r.key) ∙ sym (left_at gone records r.key)) ∙ sym (b.found r.key)

  found_now : (key : List ℕ) → record_at (with_record r b.made) key ≡ or_now (record_at u.put key) (record_at (records_in gone records) key)
  found_now key =
      at_with r key (same r.key key) b.made refl
      ∙ by (same r.key key)
      ∙ ap (λ (o : Option AuxRecord). or_now o (record_at (records_in gone records) key)) (sym (at_with r key (same r.key key) t.put refl) ∙ sym (ap (λ (l : List AuxRecord). record_at l key) put_is))
    where
      by : (x : Bool) → cond x (Some r) (record_at b.made key) ≡ or_now (cond x (Some r) (record_at t.put key)) (record_at (records_in gone records) key)
      by true = refl
      by false = b.found key

  pub put_more : Besides gone records u rest all
  put_more = record {
    made = with_record r b.made;
    ends = b.ends;
    rise = with_rise r b.made short b.rise;
    found = found_now;
    len = omega (arith, with_len r b.made b.rise, b.len, more_is, less_is, ap len_if was);
  }

pub put_none : (gone : List ItemId) (records all : List AuxRecord) (t : Beside) → t.put ≡ [] → t.more ≡ 0 → t.less ≡ 0 → AreRecordsFrom None records → Besides gone records t all all
put_none gone records all t put more less rise = record {
  made = records_in gone records;
  ends = refl;
  rise = records_rise gone records rise;
  found = λ key. ap (λ (l : List AuxRecord). or_now (record_at l key) (record_at (records_in gone records) key)) (sym put);
  len = omega (arith, more, less);
}

-- the table

pub longer_on : {P Q : Bool → Type 0} (r : Result Bool OutOfMemory) → ((b : Bool) → P b → Q b) → IfOk r P → IfOk r Q
longer_on {P} {Q} (Ok b) f h = f b h
longer_on {P} {Q} (Err e) f h = tt

same_anchors : (b c : Book) (records : List AuxRecord) → HasRecords b records c → (id : ItemId) → anchor_of c id ≡ anchor_of b id
same_anchors b c records has id = ap (λ (l : List Anchor). part (λ (a : Anchor). a.number) no_usn (find (λ (a : Anchor). a.item.0 == id.0) l)) has.anchors

beside_len : (items : List Item) (b c : Book) (records : List AuxRecord) → HasRecords b records c → image_len items c + sum_by aux_len (aux_records b) ≡ image_len items b + sum_by aux_len records
beside_len items b c records has = omega (arith, rows_same b c items (same_anchors b c records has), ap (sum_by aux_len) has.told)

module _ (c : Contents) (d : Draft) (w : Volume) (b : Book) (list : List AuxRecord) (t : Beside) (more less : Sizes) (full : Bool) (drafts : Drafts c d w) (has : HasRecords w.book (with_records list (aux_records w.book)) b)
    (beside : Besides d.gone.items c.records t [] list) (more_is : more ≡ record d.more { bytes = d.more.bytes + t.more }) (less_is : less ≡ record d.less { bytes = d.less.bytes + t.less })
    (full_is : full ≡ (ltb (10000 + less.items) more.items || ltb (1306624 + less.bytes) more.bytes)) where
  bytes_are : more.bytes ≡ image_len w.items b + less.bytes
  bytes_are =
      let long = beside_len w.items w.book b (with_records list (aux_records w.book)) has in
      let made = ap (sum_by aux_len) (beside.ends ∙ ap (with_records list) (sym drafts.records)) in
      let left = ap (sum_by aux_len) drafts.records in
      omega (arith, long, made, left, beside.len, drafts.bytes, ap (λ (z : Sizes). z.bytes) more_is, ap (λ (z : Sizes). z.bytes) less_is)

  items_are : more.items ≡ length w.items + less.items
  items_are = omega (arith, drafts.items, ap (λ (z : Sizes). z.items) more_is, ap (λ (z : Sizes). z.items) less_is)

  pub full_with : full ≡ table_full w.items b
  full_with = full_is ∙ (λ j. less_same 10000 less.items (length w.items) more.items items_are j || less_same 1306624 less.bytes (image_len w.items b) more.bytes bytes_are j)
      ∙ sym (table_exact w.items b (drafts_even c d w drafts))
