-- What is found by its key among the records of a book is what the book has.
use Rattle.std.proofs.Common.{◌≡◌, ℕ, zero, suc, ◌<◌, ◌^◌, Bool, true, false, nat_lt, ◌==◌, List, [], ◌∷◌, ◌++◌, map, Option, Some, None, inl, inr, refl, sym, ap, ◌∙◌, subst, arith, cond}
use Rattle.std.specs.Prelude.{Err, IfOk, Ok, Result, codes, find, option_map}
use Rattle.std.specs.List.{AllByRecursion}
use Rattle.std.proofs.lemmas.Bool.{cases_Bool, lt-ltb}
use Rattle.cf_base.specs.declared.answers.AuxRecord.{AuxRecord}
use Rattle.cf_base.specs.declared.ids.ItemId.{ItemId}
use Rattle.cf_base.specs.declared.ids.Token.{Token}
use Rattle.cf_base.specs.declared.ids.Usn.{Usn}
use Rattle.cf_base.specs.declared.items.SeenPath.{SeenPath}
use Rattle.cf_base.specs.declared.memory.OutOfMemory.{OutOfMemory as NoMemory}
use Rattle.cf_model.specs.Books.{Book, QueueEntry, Tombstone, aux_records, cursor_records, entry_of, entry_record, key_bytes, seen_of, seen_record, tombstone_of, tombstone_record, usn_bytes}
use Rattle.cf_model.specs.Numbers.{same_key, same_usn}
use Rattle.cf_model.specs.Words.{comes_before, in_bytes, same, says, when}
use Rattle.cf_engine_queue.specs.Books.{number_rank, path_rank, token_rank}
use Rattle.cf_engine_queue.specs.Keys.{AreByKey, record_at}
use Rattle.cf_engine_queue.specs.Order.{IsRising, is_above}
use Rattle.cf_engine_queue.specs.Records.{FitsEntry, FitsKey, FitsSeen, FitsTombstone, FitsUsn, IsCursor, IsEntry, IsKeepable, IsSeen, IsTombstone, cursor_record}
use Rattle.cf_engine_queue.proofs.ByKey.{none_at}
use Rattle.cf_engine_queue.proofs.InOrder.{all_weaker}
use Rattle.cf_engine_queue.proofs.KeyOrder.{id_order, key_order, same_ids, same_keys, same_usns, usn_order}
use Rattle.cf_engine_queue.proofs.OneMeaning.{one_cursor, one_entry, one_seen, one_tombstone}
use Rattle.cf_engine_queue.proofs.Steps.{all_both, all_mapped, cursor_is}

-- the records of a book stand in order of key

by_key_both : (xs ys : List AuxRecord) → AreByKey xs → AreByKey ys → AllByRecursion (λ (x : AuxRecord). AllByRecursion (λ (y : AuxRecord). comes_before x.key y.key ≡ true) ys) xs → AreByKey (xs ++ ys)
by_key_both [] ys h k a = k
by_key_both (x ∷ xs) ys h k a = (all_both (λ (y : AuxRecord). comes_before x.key y.key ≡ true) xs ys h.0 a.0, by_key_both xs ys h.1 k a.1)

module _ {A : Type 0} (f : A → AuxRecord) (rank : A → ℕ × ℕ) (Fits : A → Type 0) (order : (x y : A) → Fits x → Fits y → comes_before (f x).key (f y).key ≡ is_above (rank y) (rank x)) where
  after_it : (x : A) (ys : List A) → Fits x → AllByRecursion Fits ys → AllByRecursion (λ y. is_above (rank y) (rank x) ≡ true) ys → AllByRecursion (λ (r : AuxRecord). comes_before (f x).key r.key ≡ true) (map f ys)
  after_it x [] h k a = tt
  after_it x (y ∷ ys) h k a = (order x y h k.0 ∙ a.0, after_it x ys h k.1 a.1)

  by_key_mapped : (xs : List A) → AllByRecursion Fits xs → IsRising rank xs → AreByKey (map f xs)
  by_key_mapped [] h r = tt
  by_key_mapped (x ∷ xs) h r = (after_it x xs h.0 h.1 r.0, by_key_mapped xs h.1 r.1)

cursor_by_key : (clock : ℕ) (t : Bool) → AreByKey (when t (cursor_record clock ∷ []))
cursor_by_key clock true = (tt, tt)
cursor_by_key clock false = tt

abbrev Before : List AuxRecord → AuxRecord → Type 0
Before ys x = AllByRecursion (λ (y : AuxRecord). comes_before x.key y.key ≡ true) ys

pub by_key : (b : Book) → IsKeepable b → AreByKey (aux_records b)
by_key b k =
    let es = map entry_record b.entries in
    let ps = map seen_record b.seen in
    let ts = map tombstone_record b.tombstones in
    let c_e = by_key_both (cursor_records b.cursor) es (cursor_by_key b.cursor (nat_lt 0 b.cursor))
    (by_key_mapped entry_record token_rank FitsEntry (λ x y h g. key_order x.token.0 y.token.0 h.token g.token) b.entries k.entries k.tokens)
    (cursor_is (Before es) b.cursor (all_mapped (λ (y : AuxRecord). comes_before (codes "c") y.key ≡ true) entry_record b.entries (λ e. refl))) in
    let c_s = by_key_both (cursor_records b.cursor ++ es) ps c_e
    (by_key_mapped seen_record path_rank FitsSeen (λ x y h g. id_order x.item.0 y.item.0 h.item g.item) b.seen k.seen k.paths)
    (all_both (Before ps) (cursor_records b.cursor) es
    (cursor_is (Before ps) b.cursor (all_mapped (λ (y : AuxRecord). comes_before (codes "c") y.key ≡ true) seen_record b.seen (λ p. refl)))
    (all_mapped (Before ps) entry_record b.entries (λ e. all_mapped (λ (y : AuxRecord). comes_before (entry_record e).key y.key ≡ true) seen_record b.seen (λ p. refl)))) in
    by_key_both (cursor_records b.cursor ++ es ++ ps) ts c_s
    (by_key_mapped tombstone_record number_rank FitsTombstone (λ x y h g. usn_order x.number y.number h.number g.number) b.tombstones k.tombstones k.numbers)
    (all_both (Before ts) (cursor_records b.cursor ++ es) ps
    (all_both (Before ts) (cursor_records b.cursor) es
    (cursor_is (Before ts) b.cursor (all_mapped (λ (y : AuxRecord). comes_before (codes "c") y.key ≡ true) tombstone_record b.tombstones (λ t. refl)))
    (all_mapped (Before ts) entry_record b.entries (λ e. all_mapped (λ (y : AuxRecord). comes_before (entry_record e).key y.key ≡ true) tombstone_record b.tombstones (λ t. refl))))
    (all_mapped (Before ts) seen_record b.seen (λ p. all_mapped (λ (y : AuxRecord). comes_before (seen_record p).key y.key ≡ true) tombstone_record b.tombstones (λ t. refl))))

-- what is found among them

at_front : (key : List ℕ) (xs ys : List AuxRecord) → AllByRecursion (λ (r : AuxRecord). same r.key key ≡ false) ys → record_at key (xs ++ ys) ≡ record_at key xs
at_front key [] ys h = none_at key ys h
at_front key (x ∷ xs) ys h = elim (cases_Bool (same x.key key)) [
  | inl e ↦ rw e refl
  | inr e ↦ rw e (at_front key xs ys h)
]

at_back : (key : List ℕ) (xs ys : List AuxRecord) → AllByRecursion (λ (r : AuxRecord). same r.key key ≡ false) xs → record_at key (xs ++ ys) ≡ record_at key ys
at_back key [] ys h = refl
at_back key (x ∷ xs) ys h = rw h.0 (at_back key xs ys h.1)

at_mapped : {A : Type 0} (f : A → AuxRecord) (is : A → Bool) (key : List ℕ) (xs : List A) → AllByRecursion (λ x. same (f x).key key ≡ is x) xs → record_at key (map f xs) ≡ option_map f (find is xs)
at_mapped f is key [] h = refl
at_mapped f is key (x ∷ xs) h = elim (cases_Bool (is x)) [
  | inl e ↦ rw (h.0 ∙ e, e) refl
  | inr e ↦ rw (h.0 ∙ e, e) (at_mapped f is key xs h.1)
]

abbrev Other : List ℕ → AuxRecord → Type 0
Other key r = same r.key key ≡ false

pub entry_at : (b : Book) (token : Token) → IsKeepable b → FitsKey token.0 → record_at (codes "q" ++ key_bytes token.0) (aux_records b) ≡ option_map entry_record (entry_of b token)
entry_at b token k fits =
    let key = codes "q" ++ key_bytes token.0 in
    at_front key (cursor_records b.cursor ++ map entry_record b.entries ++ map seen_record b.seen) (map tombstone_record b.tombstones) (all_mapped (Other key) tombstone_record b.tombstones (λ t. refl))
    ∙ at_front key (cursor_records b.cursor ++ map entry_record b.entries) (map seen_record b.seen) (all_mapped (Other key) seen_record b.seen (λ p. refl))
    ∙ at_back key (cursor_records b.cursor) (map entry_record b.entries) (cursor_is (Other key) b.cursor refl)
    ∙ at_mapped entry_record (λ e. same_key e.token.0 token.0) key b.entries (all_weaker FitsEntry (λ (e : QueueEntry). same (entry_record e).key key ≡ same_key e.token.0 token.0) b.entries (λ e h. same_keys e.token.0 token.0 h.token fits) k.entries)

seen_at : (b : Book) (item : ItemId) → IsKeepable b → item.0 < 2 ^ 64 → record_at (codes "s" ++ in_bytes 8 item.0) (aux_records b) ≡ option_map seen_record (seen_of b item)
seen_at b item k fits =
    let key = codes "s" ++ in_bytes 8 item.0 in
    at_front key (cursor_records b.cursor ++ map entry_record b.entries ++ map seen_record b.seen) (map tombstone_record b.tombstones) (all_mapped (Other key) tombstone_record b.tombstones (λ t. refl))
    ∙ at_back key (cursor_records b.cursor ++ map entry_record b.entries) (map seen_record b.seen)
    (all_both (Other key) (cursor_records b.cursor) (map entry_record b.entries) (cursor_is (Other key) b.cursor refl) (all_mapped (Other key) entry_record b.entries (λ e. refl)))
    ∙ at_mapped seen_record (λ p. p.item.0 == item.0) key b.seen (all_weaker FitsSeen (λ (p : SeenPath). same (seen_record p).key key ≡ (p.item.0 == item.0)) b.seen (λ p h. same_ids p.item.0 item.0 h.item fits) k.seen)

tombstone_at : (b : Book) (number : Usn) → IsKeepable b → FitsUsn number → record_at (codes "t" ++ usn_bytes number) (aux_records b) ≡ option_map tombstone_record (tombstone_of b number)
tombstone_at b number k fits =
    let key = codes "t" ++ usn_bytes number in
    at_back key (cursor_records b.cursor ++ map entry_record b.entries ++ map seen_record b.seen) (map tombstone_record b.tombstones)
    (all_both (Other key) (cursor_records b.cursor ++ map entry_record b.entries) (map seen_record b.seen)
    (all_both (Other key) (cursor_records b.cursor) (map entry_record b.entries) (cursor_is (Other key) b.cursor refl) (all_mapped (Other key) entry_record b.entries (λ e. refl)))
    (all_mapped (Other key) seen_record b.seen (λ p. refl)))
    ∙ at_mapped tombstone_record (λ t. same_usn t.number number) key b.tombstones (all_weaker FitsTombstone (λ (t : Tombstone). same (tombstone_record t).key key ≡ same_usn t.number number) b.tombstones (λ t h. same_usns t.number number h.number fits) k.tombstones)

-- what they say

inside : {A : Type 0} (x y : A) → ◌≡◌ {A = Option A} (Some x) (Some y) → x ≡ y
inside x y e = cc

found_fits : {A : Type 0} (Fits : A → Type 0) (is : A → Bool) (xs : List A) (x : A) → AllByRecursion Fits xs → find is xs ≡ Some x → Fits x
found_fits Fits is [] x h e = let bad : None ≡ Some x = e in cc
found_fits {A} Fits is (y ∷ ys) x h e = by (found_fits Fits is ys x h.1) (is y) refl
  where
    by : (find is ys ≡ Some x → Fits x) → (t : Bool) → is y ≡ t → Fits x
    by rest true hit = subst Fits (inside y x (sym (ap (λ (t : Bool). cond t (Some y) (find is ys)) hit) ∙ e)) h.0
    by rest false miss = rest (sym (ap (λ (t : Bool). cond t (Some y) (find is ys)) miss) ∙ e)

said_some : {A : Type 0} (f : A → AuxRecord) (Is : AuxRecord → A → Type 0) → ((r : AuxRecord) (x y : A) → Is r x → Is r y → x ≡ y)
    → (o : Option A) (r : AuxRecord) (a : A) → ((x : A) → o ≡ Some x → Is (f x) x) → Some r ≡ option_map f o → Is r a → Some a ≡ o
said_some f Is one None r a own e says = let bad : Some r ≡ None = e in cc
said_some f Is one (Some x) r a own e says = let same : r ≡ f x = (let z : ◌≡◌ {A = Option AuxRecord} (Some r) (Some (f x)) = e in cc) in ap (λ v. Some v) (one r a x says (subst (λ (v : AuxRecord). Is v x) (sym same) (own x refl)))

said_none : {A : Type 0} (f : A → AuxRecord) (o : Option A) → None ≡ option_map f o → None ≡ o
said_none f None e = refl
said_none f (Some x) e = let bad : ◌≡◌ {A = Option AuxRecord} None (Some (f x)) = e in cc

module _ (b : Book) (k : IsKeepable b) (rs : List AuxRecord) (same_records : rs ≡ aux_records b) (key : List ℕ) (o : Option AuxRecord) (found : o ≡ record_at key rs) where
  looked : (here : List ℕ) → key ≡ here → o ≡ record_at here (aux_records b)
  looked here is = found ∙ (λ i. record_at (is i) (same_records i))

  pub entry_some : (token : Token) (r : AuxRecord) (e : QueueEntry) → FitsKey token.0 → key ≡ codes "q" ++ key_bytes token.0 → o ≡ Some r → IsEntry r e → Some e ≡ entry_of b token
  entry_some token r e fits is some says =
      said_some entry_record IsEntry one_entry (entry_of b token) r e (λ x h. record { fits = found_fits FitsEntry (λ d. same_key d.token.0 token.0) b.entries x k.entries h; spelled = refl })
      (sym some ∙ looked (codes "q" ++ key_bytes token.0) is ∙ entry_at b token k fits) says

  pub entry_none : (token : Token) → FitsKey token.0 → key ≡ codes "q" ++ key_bytes token.0 → o ≡ None → None ≡ entry_of b token
  entry_none token fits is none = said_none entry_record (entry_of b token) (sym none ∙ looked (codes "q" ++ key_bytes token.0) is ∙ entry_at b token k fits)

  pub seen_some : (item : ItemId) (r : AuxRecord) (p : SeenPath) → item.0 < 2 ^ 64 → key ≡ codes "s" ++ in_bytes 8 item.0 → o ≡ Some r → IsSeen r p → Some p ≡ seen_of b item
  seen_some item r p fits is some says =
      said_some seen_record IsSeen one_seen (seen_of b item) r p (λ x h. record { fits = found_fits FitsSeen (λ q. q.item.0 == item.0) b.seen x k.seen h; spelled = refl })
      (sym some ∙ looked (codes "s" ++ in_bytes 8 item.0) is ∙ seen_at b item k fits) says

  pub seen_none : (item : ItemId) → item.0 < 2 ^ 64 → key ≡ codes "s" ++ in_bytes 8 item.0 → o ≡ None → None ≡ seen_of b item
  seen_none item fits is none = said_none seen_record (seen_of b item) (sym none ∙ looked (codes "s" ++ in_bytes 8 item.0) is ∙ seen_at b item k fits)

  seen_there : (item : ItemId) (r : AuxRecord) (q : Option SeenPath) → q ≡ seen_of b item → Some r ≡ option_map seen_record q → (p : SeenPath) × (q ≡ Some p) × IsSeen r p
  seen_there item r None is e = let bad : Some r ≡ None = e in cc
  seen_there item r (Some p) is e = (p, refl, record { fits = found_fits FitsSeen (λ q. q.item.0 == item.0) b.seen p k.seen (sym is); spelled = inside r (seen_record p) e })

  -- a test of what is seen, where it is so of each path that the record says
  seen_says : (test : SeenPath → Bool) (item : ItemId) (r : AuxRecord) (t : Bool) → item.0 < 2 ^ 64 → key ≡ codes "s" ++ in_bytes 8 item.0 → o ≡ Some r → ((p : SeenPath) → IsSeen r p → t ≡ test p) → t ≡ says test (seen_of b item)
  seen_says test item r t fits is some h =
      let there = seen_there item r (seen_of b item) refl (sym some ∙ looked (codes "s" ++ in_bytes 8 item.0) is ∙ seen_at b item k fits) in
      h there.0 there.2 ∙ ap (says test) (sym there.1)

  pub if_seen : (test : SeenPath → Bool) (item : ItemId) (r : AuxRecord) (t : Result Bool NoMemory) → item.0 < 2 ^ 64 → key ≡ codes "s" ++ in_bytes 8 item.0 → o ≡ Some r → ((p : SeenPath) → IsSeen r p → IfOk t (λ x. x ≡ test p)) → IfOk t (λ x. x ≡ says test (seen_of b item))
  if_seen test item r (Ok t) fits is some h = seen_says test item r t fits is some h
  if_seen test item r (Err e) fits is some h = tt

  pub tombstone_some : (number : Usn) (r : AuxRecord) (t : Tombstone) → FitsUsn number → key ≡ codes "t" ++ usn_bytes number → o ≡ Some r → IsTombstone r t → Some t ≡ tombstone_of b number
  tombstone_some number r t fits is some says =
      said_some tombstone_record IsTombstone one_tombstone (tombstone_of b number) r t (λ x h. record { fits = found_fits FitsTombstone (λ u. same_usn u.number number) b.tombstones x k.tombstones h; spelled = refl })
      (sym some ∙ looked (codes "t" ++ usn_bytes number) is ∙ tombstone_at b number k fits) says

  pub tombstone_none : (number : Usn) → FitsUsn number → key ≡ codes "t" ++ usn_bytes number → o ≡ None → None ≡ tombstone_of b number
  tombstone_none number fits is none = said_none tombstone_record (tombstone_of b number) (sym none ∙ looked (codes "t" ++ usn_bytes number) is ∙ tombstone_at b number k fits)

  only_cursor : record_at (codes "c") (aux_records b) ≡ record_at (codes "c") (cursor_records b.cursor)
  only_cursor =
      at_front (codes "c") (cursor_records b.cursor ++ map entry_record b.entries ++ map seen_record b.seen) (map tombstone_record b.tombstones) (all_mapped (Other (codes "c")) tombstone_record b.tombstones (λ t. refl))
      ∙ at_front (codes "c") (cursor_records b.cursor ++ map entry_record b.entries) (map seen_record b.seen) (all_mapped (Other (codes "c")) seen_record b.seen (λ p. refl))
      ∙ at_front (codes "c") (cursor_records b.cursor) (map entry_record b.entries) (all_mapped (Other (codes "c")) entry_record b.entries (λ e. refl))

  some_cursor : (clock : ℕ) (t : Bool) (r : AuxRecord) (n : ℕ) → clock < 2 ^ 64 → Some r ≡ record_at (codes "c") (when t (cursor_record clock ∷ [])) → IsCursor (record { key = codes "c"; value = r.value }) n → n ≡ clock
  some_cursor clock true r n lt e says =
      let same : r ≡ cursor_record clock = (let z : ◌≡◌ {A = Option AuxRecord} (Some r) (Some (cursor_record clock)) = e in cc) in
      one_cursor (cursor_record clock) n clock (subst (λ (v : List ℕ). IsCursor (record { key = codes "c"; value = v }) n) (ap (λ (v : AuxRecord). v.value) same) says) (record { fits = lt; spelled = refl })
  some_cursor clock false r n lt e says = let bad : ◌≡◌ {A = Option AuxRecord} (Some r) None = e in cc

  no_cursor : (clock : ℕ) (t : Bool) → t ≡ nat_lt 0 clock → None ≡ record_at (codes "c") (when t (cursor_record clock ∷ [])) → 0 ≡ clock
  no_cursor clock true h e = let bad : ◌≡◌ {A = Option AuxRecord} None (Some (cursor_record clock)) = e in cc
  no_cursor zero false h e = refl
  no_cursor (suc n) false h e = let bad : false ≡ true = h ∙ lt-ltb 0 (suc n) (omega arith) in cc

  pub cursor_some : (r : AuxRecord) (n : ℕ) → key ≡ codes "c" → o ≡ Some r → IsCursor (record { key = codes "c"; value = r.value }) n → n ≡ b.cursor
  cursor_some r n is some says = some_cursor b.cursor (nat_lt 0 b.cursor) r n k.cursor (sym some ∙ looked (codes "c") is ∙ only_cursor) says

  pub cursor_none : key ≡ codes "c" → o ≡ None → 0 ≡ b.cursor
  cursor_none is none = no_cursor b.cursor (nat_lt 0 b.cursor) refl (sym none ∙ looked (codes "c") is ∙ only_cursor)
