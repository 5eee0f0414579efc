-- Each step of a book is one record that is put or taken away.
use Rattle.std.proofs.Common.{◌≡◌, ℕ, ◌<◌, ◌^◌, Bool, true, false, not, cond, nat_lt, ◌==◌, List, [], ◌∷◌, ◌++◌, map, filter, Option, Some, None, inl, inr, refl, sym, ap, ◌∙◌}
use Rattle.std.specs.Prelude.{codes, find}
use Rattle.std.specs.List.{AllByRecursion}
use Rattle.std.proofs.lemmas.Bool.{cases_Bool, lt-ltb, true≢false}
use Rattle.std.proofs.lemmas.List.{append-nil, map-append}
use Rattle.std.proofs.lemmas.List.Elements.{recursion_from_All}
use Rattle.cf_base.specs.declared.answers.AuxRecord.{AuxRecord}
use Rattle.cf_base.specs.declared.ids.ItemId.{ItemId}
use Rattle.cf_base.specs.declared.ids.Token.{Token}
use Rattle.cf_base.specs.declared.ids.Usn.{Usn}
use Rattle.cf_base.specs.declared.items.SeenPath.{SeenPath}
use Rattle.cf_model.specs.Books.{Book, QueueEntry, Tombstone, aux_records, cursor_records, entry_record, key_bytes, seen_record, tombstone_of, tombstone_record, usn_bytes, with_cursor, with_entry, with_seen, with_tombstone, without_entry, without_seen, without_tombstone}
use Rattle.cf_model.specs.Formats.{with_record, without_record}
use Rattle.cf_model.specs.Numbers.{above, same_key, same_usn}
use Rattle.cf_model.specs.Words.{comes_before, in_bytes, put_in, same, when}
use Rattle.cf_engine_queue.specs.Books.{token_rank}
use Rattle.cf_engine_queue.specs.Order.{is_above}
use Rattle.cf_engine_queue.specs.Records.{FitsKey, FitsUsn, cursor_record}
use Rattle.cf_engine_queue.specs.Steps.{AreShortIds, AreShortNumbers, AreShortTokens, IsNewest}
use Rattle.cf_engine_queue.proofs.InOrder.{all_kept, all_weaker, below_differs}
use Rattle.cf_engine_queue.proofs.KeyOrder.{id_order, key_order, same_ids, same_keys, same_usns, usn_order}

-- where a record stands that has another key

pub record IsBefore (key : List ℕ) (x : AuxRecord) : Type 0 where
  pub before : comes_before x.key key ≡ true
  pub other : same x.key key ≡ false

pub record IsBehind (key : List ℕ) (x : AuxRecord) : Type 0 where
  pub before : comes_before x.key key ≡ false
  pub other : same x.key key ≡ false

pub all_mapped : {A : Type 0} (P : AuxRecord → Type 0) (f : A → AuxRecord) (xs : List A) → ((x : A) → P (f x)) → AllByRecursion P (map f xs)
all_mapped P f [] h = tt
all_mapped P f (x ∷ xs) h = (h x, all_mapped P f xs h)

pub all_both : {X : Type 0} (P : X → Type 0) (xs ys : List X) → AllByRecursion P xs → AllByRecursion P ys → AllByRecursion P (xs ++ ys)
all_both P [] ys h k = k
all_both P (x ∷ xs) ys h k = (h.0, all_both P xs ys h.1 k)

pub cursor_is : (P : AuxRecord → Type 0) (clock : ℕ) → P (record { key = codes "c"; value = in_bytes 8 clock }) → AllByRecursion P (cursor_records clock)
cursor_is P clock h = by (nat_lt 0 clock)
  where
    by : (t : Bool) → AllByRecursion P (when t (record { key = codes "c"; value = in_bytes 8 clock } ∷ []))
    by true = (h, tt)
    by false = tt

-- records taken away

left_append : (key : List ℕ) (xs ys : List AuxRecord) → without_record key (xs ++ ys) ≡ without_record key xs ++ without_record key ys
left_append key [] ys = refl
left_append key (x ∷ xs) ys = elim (cases_Bool (same x.key key)) [
  | inl e ↦ rw e (left_append key xs ys)
  | inr e ↦ rw e (ap (λ (l : List AuxRecord). x ∷ l) (left_append key xs ys))
]

all_left : (key : List ℕ) (xs : List AuxRecord) → AllByRecursion (λ (x : AuxRecord). same x.key key ≡ false) xs → without_record key xs ≡ xs
all_left key [] h = refl
all_left key (x ∷ xs) h = rw h.0 (ap (λ (l : List AuxRecord). x ∷ l) (all_left key xs h.1))

left_mapped : {A : Type 0} (f : A → AuxRecord) (is : A → Bool) (key : List ℕ) (xs : List A) → AllByRecursion (λ x. same (f x).key key ≡ is x) xs → without_record key (map f xs) ≡ map f (filter (λ x. not (is x)) xs)
left_mapped f is key [] h = refl
left_mapped f is key (x ∷ xs) h = elim (cases_Bool (is x)) [
  | inl e ↦ rw (h.0 ∙ e, e) (left_mapped f is key xs h.1)
  | inr e ↦ rw (h.0 ∙ e, e) (ap (λ (l : List AuxRecord). f x ∷ l) (left_mapped f is key xs h.1))
]

-- records put

put_past : (r : AuxRecord) (xs ys : List AuxRecord) → AllByRecursion (λ (x : AuxRecord). comes_before x.key r.key ≡ true) xs → put_in (λ x y. comes_before x.key y.key) r (xs ++ ys) ≡ xs ++ put_in (λ x y. comes_before x.key y.key) r ys
put_past r [] ys h = refl
put_past r (x ∷ xs) ys h = rw h.0 (ap (λ (l : List AuxRecord). x ∷ l) (put_past r xs ys h.1))

put_first : (r : AuxRecord) (ys : List AuxRecord) → AllByRecursion (λ (x : AuxRecord). comes_before x.key r.key ≡ false) ys → put_in (λ x y. comes_before x.key y.key) r ys ≡ r ∷ ys
put_first r [] h = refl
put_first r (y ∷ ys) h = rw h.0 refl

put_within : (r : AuxRecord) (xs ys : List AuxRecord) → AllByRecursion (λ (x : AuxRecord). comes_before x.key r.key ≡ false) ys → put_in (λ x y. comes_before x.key y.key) r (xs ++ ys) ≡ put_in (λ x y. comes_before x.key y.key) r xs ++ ys
put_within r [] ys h = put_first r ys h
put_within r (x ∷ xs) ys h = elim (cases_Bool (comes_before x.key r.key)) [
  | inl e ↦ rw e (ap (λ (l : List AuxRecord). x ∷ l) (put_within r xs ys h))
  | inr e ↦ rw e refl
]

put_mapped : {A : Type 0} (f : A → AuxRecord) (below : A → A → Bool) (a : A) (xs : List A) → AllByRecursion (λ x. comes_before (f x).key (f a).key ≡ below x a) xs → put_in (λ x y. comes_before x.key y.key) (f a) (map f xs) ≡ map f (put_in below a xs)
put_mapped f below a [] h = refl
put_mapped f below a (x ∷ xs) h = elim (cases_Bool (below x a)) [
  | inl e ↦ rw (h.0 ∙ e, e) (ap (λ (l : List AuxRecord). f x ∷ l) (put_mapped f below a xs h.1))
  | inr e ↦ rw (h.0 ∙ e, e) refl
]

with_past : (r : AuxRecord) (xs ys : List AuxRecord) → AllByRecursion (IsBefore r.key) xs → with_record r (xs ++ ys) ≡ xs ++ with_record r ys
with_past r xs ys h =
    ap (put_in (λ x y. comes_before x.key y.key) r) (left_append r.key xs ys ∙ ap (λ (l : List AuxRecord). l ++ without_record r.key ys) (all_left r.key xs (all_weaker (IsBefore r.key) (λ (x : AuxRecord). same x.key r.key ≡ false) xs (λ x i. i.other) h)))
    ∙ put_past r xs (without_record r.key ys) (all_weaker (IsBefore r.key) (λ (x : AuxRecord). comes_before x.key r.key ≡ true) xs (λ x i. i.before) h)

with_within : (r : AuxRecord) (xs ys : List AuxRecord) → AllByRecursion (IsBehind r.key) ys → with_record r (xs ++ ys) ≡ with_record r xs ++ ys
with_within r xs ys h =
    ap (put_in (λ x y. comes_before x.key y.key) r) (left_append r.key xs ys ∙ ap (λ (l : List AuxRecord). without_record r.key xs ++ l) (all_left r.key ys (all_weaker (IsBehind r.key) (λ (x : AuxRecord). same x.key r.key ≡ false) ys (λ x i. i.other) h)))
    ∙ put_within r (without_record r.key xs) ys (all_weaker (IsBehind r.key) (λ (x : AuxRecord). comes_before x.key r.key ≡ false) ys (λ x i. i.before) h)

with_mapped : {A : Type 0} (f : A → AuxRecord) (below : A → A → Bool) (is : A → Bool) (a : A) (xs : List A) → AllByRecursion (λ x. comes_before (f x).key (f a).key ≡ below x a) xs
    → AllByRecursion (λ x. same (f x).key (f a).key ≡ is x) xs → with_record (f a) (map f xs) ≡ map f (put_in below a (filter (λ x. not (is x)) xs))
with_mapped f below is a xs h k =
    ap (put_in (λ x y. comes_before x.key y.key) (f a)) (left_mapped f is (f a).key xs k)
    ∙ put_mapped f below a (filter (λ x. not (is x)) xs) (all_kept (λ x. comes_before (f x).key (f a).key ≡ below x a) (λ x. not (is x)) xs h)

-- the records of a book, by their kinds

left_parts : (key : List ℕ) (c e s t : List AuxRecord) → without_record key (c ++ e ++ s ++ t) ≡ without_record key c ++ without_record key e ++ without_record key s ++ without_record key t
left_parts key c e s t = left_append key (c ++ e ++ s) t ∙ (λ i. left_append key (c ++ e) s i ++ without_record key t) ∙ (λ i. left_append key c e i ++ without_record key s ++ without_record key t)

all_apart : {A : Type 0} (f : A → AuxRecord) (key : List ℕ) (xs : List A) → ((x : A) → same (f x).key key ≡ false) → without_record key (map f xs) ≡ map f xs
all_apart f key xs h = all_left key (map f xs) (all_mapped (λ (x : AuxRecord). same x.key key ≡ false) f xs h)

cursor_apart : (key : List ℕ) (clock : ℕ) → same (codes "c") key ≡ false → without_record key (cursor_records clock) ≡ cursor_records clock
cursor_apart key clock h = all_left key (cursor_records clock) (cursor_is (λ (x : AuxRecord). same x.key key ≡ false) clock h)

-- the cursor

one_cursor : (clock : ℕ) (t : Bool) → t ≡ true → when t (cursor_record clock ∷ []) ≡ cursor_record clock ∷ []
one_cursor clock true e = refl
one_cursor clock false e = absurd (true≢false (sym e))

cursor_put : (clock old : ℕ) (t : Bool) → with_record (cursor_record clock) (when t (cursor_record old ∷ [])) ≡ cursor_record clock ∷ []
cursor_put clock old true = refl
cursor_put clock old false = refl

pub cursor_step : (b : Book) (clock : ℕ) → 0 < clock → aux_records (with_cursor clock b) ≡ with_record (cursor_record clock) (aux_records b)
cursor_step b clock some =
    (λ i. (one_cursor clock (nat_lt 0 clock) (lt-ltb 0 clock some) ∙ sym (cursor_put clock b.cursor (nat_lt 0 b.cursor))) i ++ map entry_record b.entries ++ map seen_record b.seen ++ map tombstone_record b.tombstones)
    ∙ sym (
    with_within (cursor_record clock) (cursor_records b.cursor ++ map entry_record b.entries ++ map seen_record b.seen) (map tombstone_record b.tombstones)
    (all_mapped (IsBehind (codes "c")) tombstone_record b.tombstones (λ t. record { before = refl; other = refl }))
    ∙ ap (λ (l : List AuxRecord). l ++ map tombstone_record b.tombstones) (
    with_within (cursor_record clock) (cursor_records b.cursor ++ map entry_record b.entries) (map seen_record b.seen) (all_mapped (IsBehind (codes "c")) seen_record b.seen (λ p. record { before = refl; other = refl }))
    ∙ ap (λ (l : List AuxRecord). l ++ map seen_record b.seen)
    (with_within (cursor_record clock) (cursor_records b.cursor) (map entry_record b.entries) (all_mapped (IsBehind (codes "c")) entry_record b.entries (λ e. record { before = refl; other = refl })))))

no_cursor_left : (old : ℕ) (t : Bool) → without_record (codes "c") (when t (cursor_record old ∷ [])) ≡ []
no_cursor_left old true = refl
no_cursor_left old false = refl

pub no_cursor_step : (b : Book) → aux_records (with_cursor 0 b) ≡ without_record (codes "c") (aux_records b)
no_cursor_step b = sym (
    left_parts (codes "c") (cursor_records b.cursor) (map entry_record b.entries) (map seen_record b.seen) (map tombstone_record b.tombstones)
    ∙ (λ i. no_cursor_left b.cursor (nat_lt 0 b.cursor) i ++ all_apart entry_record (codes "c") b.entries (λ e. refl) i ++ all_apart seen_record (codes "c") b.seen (λ p. refl) i ++ all_apart tombstone_record (codes "c") b.tombstones (λ t. refl) i))

-- entries

entries_before : (e : QueueEntry) (es : List QueueEntry) → AreShortTokens es → FitsKey e.token.0 → AllByRecursion (λ x. is_above (token_rank e) (token_rank x) ≡ true) es → AllByRecursion (IsBefore (entry_record e).key) (map entry_record es)
entries_before e [] short fits newest = tt
entries_before e (x ∷ xs) short fits newest = (
  record {
    before = key_order x.token.0 e.token.0 short.0 fits ∙ newest.0;
    other = same_keys x.token.0 e.token.0 short.0 fits ∙ below_differs (token_rank e) (token_rank x) newest.0;
  },
  entries_before e xs short.1 fits newest.1,
)

entry_put : (e : QueueEntry) (es : List QueueEntry) → AreShortTokens es → FitsKey e.token.0 → AllByRecursion (λ x. is_above (token_rank e) (token_rank x) ≡ true) es → with_record (entry_record e) (map entry_record es) ≡ map entry_record (es ++ e ∷ [])
entry_put e es short fits newest =
    ap (with_record (entry_record e)) (sym (append-nil (map entry_record es))) ∙ with_past (entry_record e) (map entry_record es) [] (entries_before e es short fits newest) ∙ sym (map-append entry_record es (e ∷ []))

pub entry_step : (b : Book) (e : QueueEntry) → AreShortTokens b.entries → FitsKey e.token.0 → IsNewest e b → aux_records (with_entry e b) ≡ with_record (entry_record e) (aux_records b)
entry_step b e short fits newest = sym (
    with_within (entry_record e) (cursor_records b.cursor ++ map entry_record b.entries ++ map seen_record b.seen) (map tombstone_record b.tombstones)
    (all_mapped (IsBehind (entry_record e).key) tombstone_record b.tombstones (λ t. record { before = refl; other = refl }))
    ∙ ap (λ (l : List AuxRecord). l ++ map tombstone_record b.tombstones) (
    with_within (entry_record e) (cursor_records b.cursor ++ map entry_record b.entries) (map seen_record b.seen) (all_mapped (IsBehind (entry_record e).key) seen_record b.seen (λ p. record { before = refl; other = refl }))
    ∙ ap (λ (l : List AuxRecord). l ++ map seen_record b.seen) (
    with_past (entry_record e) (cursor_records b.cursor) (map entry_record b.entries) (cursor_is (IsBefore (entry_record e).key) b.cursor (record { before = refl; other = refl }))
    ∙ ap (λ (l : List AuxRecord). cursor_records b.cursor ++ l) (entry_put e b.entries short fits newest))))

pub no_entry_step : (b : Book) (token : Token) → AreShortTokens b.entries → FitsKey token.0 → aux_records (without_entry token b) ≡ without_record (codes "q" ++ key_bytes token.0) (aux_records b)
no_entry_step b token short fits = sym (
    left_parts (codes "q" ++ key_bytes token.0) (cursor_records b.cursor) (map entry_record b.entries) (map seen_record b.seen) (map tombstone_record b.tombstones)
    ∙ (λ i. cursor_apart (codes "q" ++ key_bytes token.0) b.cursor refl i
    ++ left_mapped entry_record (λ x. same_key x.token.0 token.0) (codes "q" ++ key_bytes token.0) b.entries
    (all_weaker (λ (x : QueueEntry). FitsKey x.token.0) (λ (x : QueueEntry). same (entry_record x).key (codes "q" ++ key_bytes token.0) ≡ same_key x.token.0 token.0) b.entries (λ x h. same_keys x.token.0 token.0 h fits) short) i
    ++ all_apart seen_record (codes "q" ++ key_bytes token.0) b.seen (λ p. refl) i ++ all_apart tombstone_record (codes "q" ++ key_bytes token.0) b.tombstones (λ t. refl) i))

-- paths seen

seen_put : (p : SeenPath) (ps : List SeenPath) → AllByRecursion (λ q. q.item.0 < 18446744073709551616) ps → p.item.0 < 2 ^ 64
    → with_record (seen_record p) (map seen_record ps) ≡ map seen_record (put_in (λ x y. nat_lt x.item.0 y.item.0) p (without_seen p.item ps))
seen_put p ps short low =
    with_mapped seen_record (λ x y. nat_lt x.item.0 y.item.0) (λ x. x.item.0 == p.item.0) p ps
    (all_weaker (λ (q : SeenPath). q.item.0 < 18446744073709551616) (λ (q : SeenPath). comes_before (seen_record q).key (seen_record p).key ≡ nat_lt q.item.0 p.item.0) ps (λ q h. id_order q.item.0 p.item.0 h low) short)
    (all_weaker (λ (q : SeenPath). q.item.0 < 18446744073709551616) (λ (q : SeenPath). same (seen_record q).key (seen_record p).key ≡ (q.item.0 == p.item.0)) ps (λ q h. same_ids q.item.0 p.item.0 h low) short)

pub seen_step : (b : Book) (p : SeenPath) → AreShortIds b.seen → p.item.0 < 2 ^ 64 → aux_records (with_seen p b) ≡ with_record (seen_record p) (aux_records b)
seen_step b p short low = sym (
    with_within (seen_record p) (cursor_records b.cursor ++ map entry_record b.entries ++ map seen_record b.seen) (map tombstone_record b.tombstones)
    (all_mapped (IsBehind (seen_record p).key) tombstone_record b.tombstones (λ t. record { before = refl; other = refl }))
    ∙ ap (λ (l : List AuxRecord). l ++ map tombstone_record b.tombstones) (
    with_past (seen_record p) (cursor_records b.cursor ++ map entry_record b.entries) (map seen_record b.seen)
    (all_both (IsBefore (seen_record p).key) (cursor_records b.cursor) (map entry_record b.entries) (cursor_is (IsBefore (seen_record p).key) b.cursor (record { before = refl; other = refl }))
    (all_mapped (IsBefore (seen_record p).key) entry_record b.entries (λ e. record { before = refl; other = refl })))
    ∙ ap (λ (l : List AuxRecord). cursor_records b.cursor ++ map entry_record b.entries ++ l) (seen_put p b.seen (recursion_from_All (λ (q : SeenPath). q.item.0 < 18446744073709551616) b.seen short) low)))

pub no_seen_step : (b : Book) (item : ItemId) → AreShortIds b.seen → item.0 < 2 ^ 64 → aux_records (record b { seen = without_seen item b.seen }) ≡ without_record (codes "s" ++ in_bytes 8 item.0) (aux_records b)
no_seen_step b item short low = sym (
    left_parts (codes "s" ++ in_bytes 8 item.0) (cursor_records b.cursor) (map entry_record b.entries) (map seen_record b.seen) (map tombstone_record b.tombstones)
    ∙ (λ i. cursor_apart (codes "s" ++ in_bytes 8 item.0) b.cursor refl i ++ all_apart entry_record (codes "s" ++ in_bytes 8 item.0) b.entries (λ e. refl) i
    ++ left_mapped seen_record (λ x. x.item.0 == item.0) (codes "s" ++ in_bytes 8 item.0) b.seen
    (all_weaker (λ (q : SeenPath). q.item.0 < 18446744073709551616) (λ (q : SeenPath). same (seen_record q).key (codes "s" ++ in_bytes 8 item.0) ≡ (q.item.0 == item.0)) b.seen (λ q h. same_ids q.item.0 item.0 h low) (recursion_from_All (λ (q : SeenPath). q.item.0 < 18446744073709551616) b.seen short)) i
    ++ all_apart tombstone_record (codes "s" ++ in_bytes 8 item.0) b.tombstones (λ t. refl) i))

-- tombstones

pub none_found : {A : Type 0} (is : A → Bool) (xs : List A) → find is xs ≡ None → AllByRecursion (λ x. is x ≡ false) xs
none_found is [] e = tt
none_found {A} is (x ∷ xs) e = by (is x) refl e (λ n. none_found is xs n)
  where
    by : (t : Bool) → is x ≡ t → cond t (Some x) (find is xs) ≡ None → (find is xs ≡ None → AllByRecursion (λ y. is y ≡ false) xs) → AllByRecursion (λ y. is y ≡ false) (x ∷ xs)
    by true h n rest = absurd (let z : ◌≡◌ {A = Option A} (Some x) None = n in cc)
    by false h n rest = (h, rest n)

none_left : {A : Type 0} (is : A → Bool) (xs : List A) → AllByRecursion (λ x. is x ≡ false) xs → filter (λ x. not (is x)) xs ≡ xs
none_left is [] h = refl
none_left is (x ∷ xs) h = rw h.0 (ap (λ (l : List _). x ∷ l) (none_left is xs h.1))

tombstone_put : (t : Tombstone) (ts : List Tombstone) → AreShortNumbers ts → FitsUsn t.number → find (λ x. same_usn x.number t.number) ts ≡ None
    → with_record (tombstone_record t) (map tombstone_record ts) ≡ map tombstone_record (put_in (λ x y. above y.number x.number) t ts)
tombstone_put t ts short fits new =
    with_mapped tombstone_record (λ x y. above y.number x.number) (λ x. same_usn x.number t.number) t ts
    (all_weaker (λ (x : Tombstone). FitsUsn x.number) (λ (x : Tombstone). comes_before (tombstone_record x).key (tombstone_record t).key ≡ above t.number x.number) ts (λ x h. usn_order x.number t.number h fits) short)
    (all_weaker (λ (x : Tombstone). FitsUsn x.number) (λ (x : Tombstone). same (tombstone_record x).key (tombstone_record t).key ≡ same_usn x.number t.number) ts (λ x h. same_usns x.number t.number h fits) short)
    ∙ ap (λ (l : List Tombstone). map tombstone_record (put_in (λ x y. above y.number x.number) t l)) (none_left (λ x. same_usn x.number t.number) ts (none_found (λ x. same_usn x.number t.number) ts new))

pub tombstone_step : (b : Book) (t : Tombstone) → AreShortNumbers b.tombstones → FitsUsn t.number → tombstone_of b t.number ≡ None → aux_records (with_tombstone t b) ≡ with_record (tombstone_record t) (aux_records b)
tombstone_step b t short fits new = sym (
    with_past (tombstone_record t) (cursor_records b.cursor ++ map entry_record b.entries ++ map seen_record b.seen) (map tombstone_record b.tombstones)
    (all_both (IsBefore (tombstone_record t).key) (cursor_records b.cursor ++ map entry_record b.entries) (map seen_record b.seen)
    (all_both (IsBefore (tombstone_record t).key) (cursor_records b.cursor) (map entry_record b.entries) (cursor_is (IsBefore (tombstone_record t).key) b.cursor (record { before = refl; other = refl }))
    (all_mapped (IsBefore (tombstone_record t).key) entry_record b.entries (λ e. record { before = refl; other = refl })))
    (all_mapped (IsBefore (tombstone_record t).key) seen_record b.seen (λ p. record { before = refl; other = refl })))
    ∙ ap (λ (l : List AuxRecord). (cursor_records b.cursor ++ map entry_record b.entries ++ map seen_record b.seen) ++ l) (tombstone_put t b.tombstones short fits new))

pub no_tombstone_step : (b : Book) (number : Usn) → AreShortNumbers b.tombstones → FitsUsn number → aux_records (without_tombstone number b) ≡ without_record (codes "t" ++ usn_bytes number) (aux_records b)
no_tombstone_step b number short fits = sym (
    left_parts (codes "t" ++ usn_bytes number) (cursor_records b.cursor) (map entry_record b.entries) (map seen_record b.seen) (map tombstone_record b.tombstones)
    ∙ (λ i. cursor_apart (codes "t" ++ usn_bytes number) b.cursor refl i ++ all_apart entry_record (codes "t" ++ usn_bytes number) b.entries (λ e. refl) i ++ all_apart seen_record (codes "t" ++ usn_bytes number) b.seen (λ p. refl) i
    ++ left_mapped tombstone_record (λ x. same_usn x.number number) (codes "t" ++ usn_bytes number) b.tombstones
    (all_weaker (λ (x : Tombstone). FitsUsn x.number) (λ (x : Tombstone). same (tombstone_record x).key (codes "t" ++ usn_bytes number) ≡ same_usn x.number number) b.tombstones (λ x h. same_usns x.number number h fits) short) i))
