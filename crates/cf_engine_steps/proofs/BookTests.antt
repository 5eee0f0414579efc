-- Records that may be put or dropped, by what was tested of the book.
use Rattle.std.proofs.Common.{◌≡◌, ◌≤◌, ◌<◌, ◌+◌, ◌^◌, Bool, true, false, not, cond, List, [], ◌∷◌, ◌++◌, filter, map, refl, sym, ◌∙◌, ap, subst, ℕ, arith}
use Rattle.std.proofs.lemmas.Bool.{and_parts, eqb-true, ltb-true}
use Rattle.std.proofs.lemmas.Bool.Decides.{nat_tests}
use Rattle.std.specs.Prelude.{Option, Some, None, is_some, nat_lt, option_map, ◌&&◌, ◌||◌, ◌==◌}
use Rattle.std.specs.List.{AllByRecursion, list_all}
use Rattle.cf_base.specs.declared.answers.AuxRecord.{AuxRecord}
use Rattle.cf_base.specs.declared.ids.ItemId.{ItemId}
use Rattle.cf_base.specs.declared.ids.Token.{Token}
use Rattle.cf_base.specs.declared.ids.Usn.{Usn}
use Rattle.cf_base.specs.declared.items.SeenPath.{SeenPath}
use Rattle.cf_collections.specs.Split.{behind}
use Rattle.cf_engine_host.specs.BookSteps.{DropsRecord, HasNumber, PutsBeside, records_of}
use Rattle.cf_engine_host.specs.Readings.{epoch_of}
use Rattle.cf_engine_queue.specs.Books.{token_rank, tombstone_value}
use Rattle.cf_engine_queue.specs.declared.uploads.Tombstone as queue
use Rattle.cf_engine_queue.specs.Keys.{AreByKey}
use Rattle.cf_engine_queue.specs.Order.{is_above}
use Rattle.cf_engine_queue.proofs.Found.{by_key}
use Rattle.cf_engine_queue.specs.Records.{FitsKey, FitsUsn, IsEntry, IsKeepable, IsSeen, IsTombstone}
use Rattle.cf_engine_queue.specs.Steps.{AreShortTokens}
use Rattle.cf_engine_queue.proofs.KeyOrder.{key_order}
use Rattle.cf_engine_queue.proofs.StaysKeepable.{cursor_kept, entry_kept, no_entry_kept, no_tombstone_kept, seen_kept, short_ids, short_numbers, short_tokens, tombstone_kept}
use Rattle.cf_engine_queue.proofs.Steps.{entry_step, no_cursor_step, no_entry_step, no_tombstone_step, seen_step, tombstone_step}
use Rattle.cf_engine_steps.specs.Recorded.{GivenIf, NewIf, NumberIf, PutsIf, comes_after_entries}
use Rattle.cf_engine_steps.proofs.Suited.{not_true}
use Rattle.cf_engine_steps.specs.Suited.{has_this_number, says_at}
use Rattle.cf_filter_steps.specs.Answering.{Any, Reads, Sense}
use Rattle.cf_filter_steps.specs.Good.{Every}
use Rattle.cf_filter_steps.specs.Readings.{next_place}
use Rattle.cf_model.specs.Books.{Book, QueueEntry, Tombstone, aux_records, cursor_records, entry_record, key_bytes, seen_record, tombstone_of, tombstone_record, usn_bytes, with_cursor, with_entry, with_seen, with_tombstone, without_entry, without_tombstone}
use Rattle.cf_model.specs.Changes.{next_number, no_places}
use Rattle.cf_model.specs.Formats.{with_record, without_record}
use Rattle.cf_model.specs.Items.{Item, item_of}
use Rattle.cf_model.specs.Numbers.{above, is_no_usn, most, same_usn}
use Rattle.cf_model.specs.State.{Filter}
use Rattle.cf_model.specs.Words.{comes_before, put_in, same, says}
use Rattle.cf_volume_image.specs.RecordLists.{stands_before}

-- a test that all records pass

all_left : {A : Type 0} (p : A → Bool) (xs ys : List A) → list_all p (xs ++ ys) ≡ true → list_all p xs ≡ true
all_left p [] ys h = refl
all_left p (x ∷ xs) ys h = let k = and_parts (p x) (list_all p (xs ++ ys)) h in rw (k.0, all_left p xs ys k.1) refl

all_right : {A : Type 0} (p : A → Bool) (xs ys : List A) → list_all p (xs ++ ys) ≡ true → list_all p ys ≡ true
all_right p [] ys h = h
all_right p (x ∷ xs) ys h = all_right p xs ys (and_parts (p x) (list_all p (xs ++ ys)) h).1

of_entries : (p : AuxRecord → Bool) (b : Book) → list_all p (aux_records b) ≡ true → list_all p (map entry_record b.entries) ≡ true
of_entries p b h =
    let k = all_left p (cursor_records b.cursor ++ map entry_record b.entries ++ map seen_record b.seen) (map tombstone_record b.tombstones) h in
    let l = all_left p (cursor_records b.cursor ++ map entry_record b.entries) (map seen_record b.seen) k in
    all_right p (cursor_records b.cursor) (map entry_record b.entries) l

-- a token above all

abbrev is_below : List ℕ → AuxRecord → Bool
is_below key r = comes_before r.key key || comes_after_entries r.key

left_of : (a : Bool) → (a || false) ≡ true → a ≡ true
left_of true h = refl
left_of false h = h

newest_in : (e : QueueEntry) (es : List QueueEntry) → FitsKey e.token.0 → AreShortTokens es → list_all (is_below (entry_record e).key) (map entry_record es) ≡ true → AllByRecursion (λ x. is_above (token_rank e) (token_rank x) ≡ true) es
newest_in e [] fits short h = tt
newest_in e (x ∷ xs) fits short h =
    let k = and_parts (is_below (entry_record e).key (entry_record x)) (list_all (is_below (entry_record e).key) (map entry_record xs)) h in
    (sym (key_order x.token.0 e.token.0 short.0 fits) ∙ left_of _ k.0, newest_in e xs fits short.1 k.1)

-- the record at the place of the key comes after all entries, and so do those behind it

after_goes_on : (a b : List ℕ) → comes_after_entries a ≡ true → comes_before a b ≡ true → comes_after_entries b ≡ true
after_goes_on [] b h k = let z : false ≡ true = h in absurd cc
after_goes_on (x ∷ xs) [] h k = let z : false ≡ true = k in absurd cc
after_goes_on (x ∷ xs) (y ∷ ys) h k = step x y (comes_before xs ys) h k where
  step : (m n : ℕ) (c : Bool) → nat_lt 113 m ≡ true → (nat_lt m n || ((m == n) && c)) ≡ true → nat_lt 113 n ≡ true
  step m n true h k = grind (arith, nat_tests)
  step m n false h k = grind (arith, nat_tests)

or_right : (a b : Bool) → b ≡ true → (a || b) ≡ true
or_right true b h = refl
or_right false b h = h

or_left : (a b : Bool) → a ≡ true → (a || b) ≡ true
or_left true b h = refl
or_left false b h = let z : false ≡ true = h in absurd cc

all_after : (key first : List ℕ) (rs : List AuxRecord) → comes_after_entries first ≡ true → AllByRecursion (λ x. comes_before first x.key ≡ true) rs → list_all (is_below key) rs ≡ true
all_after key first [] h k = refl
all_after key first (r ∷ rs) h k = rw (or_right (comes_before r.key key) (comes_after_entries r.key) (after_goes_on first r.key h k.0), all_after key first rs h k.1) refl

pub none_newer : (key : List ℕ) (rs : List AuxRecord) → behind (stands_before key) rs ≡ [] → list_all (is_below key) rs ≡ true
none_newer key [] h = refl
none_newer key (r ∷ rs) h = by (comes_before r.key key) refl (none_newer key rs) h where
  by : (b : Bool) → comes_before r.key key ≡ b → (behind (stands_before key) rs ≡ [] → list_all (is_below key) rs ≡ true) → cond b (behind (stands_before key) rs) (r ∷ rs) ≡ [] → list_all (is_below key) (r ∷ rs) ≡ true
  by true hit more h = rw (or_left (comes_before r.key key) (comes_after_entries r.key) hit, more h) refl
  by false miss more h = let z : ◌≡◌ {A = List AuxRecord} (r ∷ rs) [] = h in absurd cc

pub newest_from : (key : List ℕ) (rs left : List AuxRecord) (x : AuxRecord) → AreByKey rs → behind (stands_before key) rs ≡ x ∷ left → comes_after_entries x.key ≡ true → list_all (is_below key) rs ≡ true
newest_from key [] left x o h after = let z : ◌≡◌ {A = List AuxRecord} [] (x ∷ left) = h in absurd cc
newest_from key (r ∷ rs) left x o h after = by (comes_before r.key key) refl (λ e. newest_from key rs left x o.1 e after) h where
  by : (b : Bool) → comes_before r.key key ≡ b → (behind (stands_before key) rs ≡ x ∷ left → list_all (is_below key) rs ≡ true) → cond b (behind (stands_before key) rs) (r ∷ rs) ≡ x ∷ left → list_all (is_below key) (r ∷ rs) ≡ true
  by true hit more h = rw (or_left (comes_before r.key key) (comes_after_entries r.key) hit, more h) refl
  by false miss more h =
      let same_one : x ≡ r = (let z : ◌≡◌ {A = List AuxRecord} (r ∷ rs) (x ∷ left) = h in cc) in
      let here : comes_after_entries r.key ≡ true = ap (λ (q : AuxRecord). comes_after_entries q.key) (sym same_one) ∙ after in
      rw (or_right (comes_before r.key key) (comes_after_entries r.key) here, all_after key r.key rs here o.0) refl

pub puts_entry : (r : AuxRecord) (e : QueueEntry) (s : Filter) → IsEntry r e → IsKeepable s.volume.book → list_all (is_below r.key) (aux_records s.volume.book) ≡ true → PutsBeside r (with_entry e) s
puts_entry r e s is k h =
    let b = s.volume.book in
    let newest = newest_in e b.entries is.fits.token (short_tokens b k) (of_entries (is_below (entry_record e).key) b (subst (λ (q : AuxRecord). list_all (is_below q.key) (aux_records b) ≡ true) is.spelled h)) in record {
      records = entry_step b e (short_tokens b k) is.fits.token newest ∙ ap (λ (q : AuxRecord). with_record q (aux_records b)) (sym is.spelled);
      anchors = refl;
      clock = refl;
      accesses = refl;
      fits = entry_kept b e k is.fits newest;
      tombstones = λ g. g;
    }

-- a tombstone

every_put : {A : Type 0} (P : A → Type 0) (before : A → A → Bool) (x : A) (xs : List A) → P x → Every P xs → Every P (put_in before x xs)
every_put P before x [] p h = (p, record {})
every_put P before x (y ∷ ys) p h = two (before y x) (every_put P before x ys p h.1) where
  two : (b : Bool) → Every P (put_in before x ys) → Every P (cond b (y ∷ put_in before x ys) (x ∷ y ∷ ys))
  two true rest = (h.0, rest)
  two false rest = (p, h)

every_kept : {A : Type 0} (P : A → Type 0) (f : A → Bool) (xs : List A) → Every P xs → Every P (filter f xs)
every_kept P f [] h = record {}
every_kept P f (x ∷ xs) h = two (f x) (every_kept P f xs h.1) where
  two : (b : Bool) → Every P (filter f xs) → Every P (cond b (x ∷ filter f xs) (filter f xs))
  two true rest = (h.0, rest)
  two false rest = rest

pub puts_tombstone : (r : AuxRecord) (t : Tombstone) (s : Filter) → IsTombstone r t → IsKeepable s.volume.book → tombstone_of s.volume.book t.number ≡ None → above (next_number s.volume) t.number ≡ true → PutsBeside r (with_tombstone t) s
puts_tombstone r t s is k new given = record {
  records = tombstone_step s.volume.book t (short_numbers s.volume.book k) is.fits.number new ∙ ap (λ (q : AuxRecord). with_record q (aux_records s.volume.book)) (sym is.spelled);
  anchors = refl;
  clock = refl;
  accesses = refl;
  fits = tombstone_kept s.volume.book t k is.fits new;
  tombstones = λ g. every_put (λ u. above (next_number s.volume) u.number ≡ true) (λ x y. above y.number x.number) t s.volume.book.tombstones given g;
}

-- a path seen

pub puts_seen : (r : AuxRecord) (p : SeenPath) (s : Filter) → IsSeen r p → IsKeepable s.volume.book → PutsBeside r (with_seen p) s
puts_seen r p s is k = record {
  records = seen_step s.volume.book p (short_ids s.volume.book k) is.fits.item ∙ ap (λ (q : AuxRecord). with_record q (aux_records s.volume.book)) (sym is.spelled);
  anchors = refl;
  clock = refl;
  accesses = refl;
  fits = seen_kept s.volume.book p k is.fits;
  tombstones = λ h. h;
}

-- what goes

pub drops_cursor : (s : Filter) → IsKeepable s.volume.book → DropsRecord (99 ∷ []) (with_cursor 0) s
drops_cursor s k = record {
  records = no_cursor_step s.volume.book;
  anchors = refl;
  clock = refl;
  accesses = refl;
  fits = cursor_kept s.volume.book 0 k (omega arith);
  tombstones = λ h. h;
}

pub drops_entry : (key : List ℕ) (token : Token) (s : Filter) → FitsKey token.0 → key ≡ 113 ∷ key_bytes token.0 → IsKeepable s.volume.book → DropsRecord key (without_entry token) s
drops_entry key token s fits is k = record {
  records = no_entry_step s.volume.book token (short_tokens s.volume.book k) fits ∙ ap (λ (l : List ℕ). without_record l (aux_records s.volume.book)) (sym is);
  anchors = refl;
  clock = refl;
  accesses = refl;
  fits = no_entry_kept s.volume.book token k;
  tombstones = λ h. h;
}

pub drops_tombstone : (key : List ℕ) (number : Usn) (s : Filter) → FitsUsn number → key ≡ 116 ∷ usn_bytes number → IsKeepable s.volume.book → DropsRecord key (without_tombstone number) s
drops_tombstone key number s fits is k = record {
  records = no_tombstone_step s.volume.book number (short_numbers s.volume.book k) fits ∙ ap (λ (l : List ℕ). without_record l (aux_records s.volume.book)) (sym is);
  anchors = refl;
  clock = refl;
  accesses = refl;
  fits = no_tombstone_kept s.volume.book number k;
  tombstones = λ h. every_kept (λ u. above (next_number s.volume) u.number ≡ true) (λ t. not (same_usn t.number number)) s.volume.book.tombstones h;
}

-- as the code comes to them

module _ {X : Type 0} (S : Sense X) (keeps : (x : X) (s : Filter) → S.means x s → IsKeepable s.volume.book) (x : X) where
  pub entry_if : (r : AuxRecord) (e : QueueEntry) (records : List AuxRecord) (key : List ℕ) (b : Bool) → IsEntry r e → Reads S Any records_of x records → key ≡ r.key
      → (b ≡ true → AreByKey records → list_all (λ (q : AuxRecord). comes_before q.key key || comes_after_entries q.key) records ≡ true) → b ≡ true → PutsIf S r (with_entry e) x
  entry_if r e records key b is reads same tests h = record {
    puts = λ s m.
        let kept = reads.is s m (record {}) in
        puts_entry r e s is (keeps x s m) (sym (λ i. list_all (is_below (same i)) (kept i)) ∙ tests h (subst AreByKey (sym kept) (by_key s.volume.book (keeps x s m))));
  }

  pub new_if : (number : Usn) (records : List AuxRecord) (o : Option queue.Tombstone) (b : Bool) → Reads S Any records_of x records → ((c : Book) → IsKeepable c → records ≡ aux_records c → option_map tombstone_value o ≡ tombstone_of c number) → is_some o ≡ not b → NewIf S number x b
  new_if number records o b reads found none = record { new = λ h s m. sym (found s.volume.book (keeps x s m) (reads.is s m (record {}))) ∙ ap (option_map tombstone_value) (is_no o (none ∙ ap not h)) } where
    is_no : (q : Option queue.Tombstone) → is_some q ≡ false → q ≡ None
    is_no None e = refl
    is_no (Some t) e = let z : true ≡ false = e in absurd cc

  pub tombstone_if : (r : AuxRecord) (t : Tombstone) (g b : Bool) → IsTombstone r t → GivenIf S t.number x g → g ≡ true → NewIf S t.number x b → b ≡ true → PutsIf S r (with_tombstone t) x
  tombstone_if r t g b is given gi new bi = record { puts = λ s m. puts_tombstone r t s is (keeps x s m) (new.new bi s m) (given.given gi is.fits.number s m) }

  pub seen_if : (r : AuxRecord) (p : SeenPath) → IsSeen r p → PutsIf S r (with_seen p) x
  seen_if r p is = record { puts = λ s m. puts_seen r p s is (keeps x s m) }

-- numbers that were given

module _ {X : Type 0} (S : Sense X) (x : X) (number : Usn) (o : Option Usn) (b : Bool) where
  pub given_next : (next : Usn) → Reads S Any next_place x o → o ≡ Some next → b ≡ above next number → GivenIf S number x b
  given_next next reads e is = record { given = λ h fits s m. one (no_places s.volume 1) (next_number s.volume) (sym e ∙ reads.is s m (record {})) h } where
    one : (c : Bool) (n : Usn) → Some next ≡ cond c None (Some n) → b ≡ true → above n number ≡ true
    one true n q h = let z : ◌≡◌ {A = Option Usn} (Some next) None = q in absurd cc
    one false n q h = let same : next ≡ n = cc in sym (is ∙ ap (λ (k : Usn). above k number) same) ∙ h

  pub given_all : (epoch : ℕ) → Reads S Any next_place x o → o ≡ None → Reads S Any epoch_of x epoch → (b ≡ true → number.epoch ≤ epoch) → GivenIf S number x b
  given_all epoch reads e now below = record {
    given = λ h fits s m.
        let low : number.epoch ≤ s.volume.epoch = subst (λ (n : ℕ). number.epoch ≤ n) (now.is s m (record {})) (below h) in
        last number.epoch s.volume.epoch number.place s.volume.place low fits.1 (one (no_places s.volume 1) (next_number s.volume) refl (sym e ∙ reads.is s m (record {})));
  } where
    one : (c : Bool) (n : Usn) {d : Bool} → d ≡ c → None ≡ cond c None (Some n) → d ≡ true
    one true n k q = k
    one false n k q = let z : ◌≡◌ {A = Option Usn} None (Some n) = q in absurd cc

    last : (e f p q : ℕ) → e ≤ f → p < 2 ^ 32 → nat_lt most (q + 1) ≡ true → (nat_lt e f || ((f == e) && nat_lt p (q + 1))) ≡ true
    last e f p q low small full = let past : most < q + 1 = ltb-true most (q + 1) full in grind (arith, nat_tests)

-- an item's number

same_both : (a b : Usn) → same_usn a b ≡ true → a ≡ b
same_both a b h = let p = and_parts (a.epoch == b.epoch) (a.place == b.place) h in λ i. record { epoch = eqb-true a.epoch b.epoch p.0 i; place = eqb-true a.place b.place p.1 i }

pub number_if : {X : Type 0} (S : Sense X) (x : X) (id : ItemId) (number : Usn) (b : Bool) → Reads S Any (says_at (has_this_number number) id) x b → b ≡ true → NumberIf S id number x
number_if S x id number b reads h = record { has = λ s m. there s (item_of s.volume.items id) refl (sym (reads.is s m (record {})) ∙ h) } where
  there : (s : Filter) (o : Option Item) → item_of s.volume.items id ≡ o → says (has_this_number number) o ≡ true → (i : Item) × HasNumber id i s × (i.number ≡ number)
  there s None at k = let z : false ≡ true = k in absurd cc
  there s (Some i) at k =
      let p = and_parts (same_usn i.number number) (not (is_no_usn number)) k in let eq = same_both i.number number p.0 in
      (i, record { at = at; number = ap is_no_usn eq ∙ not_true (is_no_usn number) p.1 }, eq)
