-- A book that fits its records still does after each step.
use Rattle.std.proofs.Common.{◌≡◌, ℕ, ◌<◌, ◌^◌, Bool, true, false, not, nat_lt, ◌==◌, ◌&&◌, ◌||◌, List, [], ◌∷◌, ◌++◌, filter, None, inl, inr, arith}
use Rattle.std.specs.List.{AllByRecursion}
use Rattle.std.proofs.lemmas.Bool.{cases_Bool}
use Rattle.std.proofs.lemmas.Bool.Decides.{nat_tests}
use Rattle.std.proofs.lemmas.List.Elements.{All-from_recursion}
use Rattle.cf_base.specs.declared.changes.Change.{Change}
use Rattle.cf_base.specs.declared.changes.Change.TheVariants as change
use Rattle.cf_base.specs.declared.ids.ItemId.{ItemId}
use Rattle.cf_base.specs.declared.ids.Token.{Token}
use Rattle.cf_base.specs.declared.ids.Usn.{Usn}
use Rattle.cf_base.specs.declared.items.SeenPath.{SeenPath}
use Rattle.cf_model.specs.Books.{Book, QueueEntry, Tombstone, book_after, no_book, tombstone_of, with_access, with_anchor, with_cursor, with_entry, with_seen, with_ticks, with_tombstone, without_entry, without_seen, without_tombstone}
use Rattle.cf_model.specs.Numbers.{above, same_key, same_usn}
use Rattle.cf_model.specs.Words.{put_in}
use Rattle.cf_engine_queue.specs.Books.{number_rank, path_rank, token_rank}
use Rattle.cf_engine_queue.specs.Order.{IsRising, is_above, is_same}
use Rattle.cf_engine_queue.specs.Records.{FitsEntry, FitsKey, FitsSeen, FitsTombstone, FitsUsn, IsKeepable}
use Rattle.cf_engine_queue.specs.Steps.{AreShortIds, AreShortNumbers, AreShortTokens, IsNewest}
use Rattle.cf_engine_queue.proofs.InOrder.{all_kept, all_put, all_weaker}
use Rattle.cf_engine_queue.proofs.Steps.{all_both, none_found}

-- pairs of numbers

then_above : (p q r s v w : ℕ) → (nat_lt r p || ((p == r) && nat_lt s q)) ≡ true → (nat_lt v r || ((r == v) && nat_lt w s)) ≡ true → (nat_lt v p || ((p == v) && nat_lt w q)) ≡ true
then_above p q r s v w h k = grind (arith, nat_tests)

else_above : (p q r s : ℕ) → (nat_lt r p || ((p == r) && nat_lt s q)) ≡ false → ((r == p) && (s == q)) ≡ false → (nat_lt p r || ((r == p) && nat_lt q s)) ≡ true
else_above p q r s h k = grind (arith, nat_tests)

-- lists that rise

rising_push : {X : Type 0} (rank : X → ℕ × ℕ) (xs : List X) (x : X) → IsRising rank xs → AllByRecursion (λ y. is_above (rank x) (rank y) ≡ true) xs → IsRising rank (xs ++ x ∷ [])
rising_push rank [] x h k = (tt, tt)
rising_push rank (y ∷ ys) x h k = (all_both (λ z. is_above (rank z) (rank y) ≡ true) ys (x ∷ []) h.0 (k.0, tt), rising_push rank ys x h.1 k.1)

rising_filter : {X : Type 0} (rank : X → ℕ × ℕ) (p : X → Bool) (xs : List X) → IsRising rank xs → IsRising rank (filter p xs)
rising_filter rank p [] h = tt
rising_filter rank p (x ∷ xs) h = elim (cases_Bool (p x)) [
  | inl e ↦ rw e (all_kept (λ y. is_above (rank y) (rank x) ≡ true) p xs h.0, rising_filter rank p xs h.1)
  | inr e ↦ rw e (rising_filter rank p xs h.1)
]

rising_put : {X : Type 0} (rank : X → ℕ × ℕ) (x : X) (xs : List X) → IsRising rank xs → AllByRecursion (λ y. is_same (rank y) (rank x) ≡ false) xs → IsRising rank (put_in (λ a b. is_above (rank b) (rank a)) x xs)
rising_put rank x [] h k = (tt, tt)
rising_put rank x (y ∷ ys) h k = elim (cases_Bool (is_above (rank x) (rank y))) [
  | inl e ↦ rw e (all_put (λ z. is_above (rank z) (rank y) ≡ true) (λ a b. is_above (rank b) (rank a)) x ys e h.0, rising_put rank x ys h.1 k.1)
  | inr e ↦ (let up = else_above (rank x).0 (rank x).1 (rank y).0 (rank y).1 e k.0 in
      rw e ((up, all_weaker (λ z. is_above (rank z) (rank y) ≡ true) (λ z. is_above (rank z) (rank x) ≡ true) ys (λ z g. then_above (rank z).0 (rank z).1 (rank y).0 (rank y).1 (rank x).0 (rank x).1 g up) h.0), h))
]

-- the paths of other items
others_left : (item : ItemId) (ps : List SeenPath) → AllByRecursion (λ q. is_same (path_rank q) (0, item.0) ≡ false) (without_seen item ps)
others_left item [] = tt
others_left item (p ∷ ps) = elim (cases_Bool (p.item.0 == item.0)) [
  | inl e ↦ rw e (others_left item ps)
  | inr e ↦ rw e (e, others_left item ps)
]

-- steps

pub cursor_kept : (b : Book) (clock : ℕ) → IsKeepable b → clock < 2 ^ 64 → IsKeepable (with_cursor clock b)
cursor_kept b clock k low = record { cursor = low; entries = k.entries; seen = k.seen; tombstones = k.tombstones; tokens = k.tokens; paths = k.paths; numbers = k.numbers }

pub entry_kept : (b : Book) (e : QueueEntry) → IsKeepable b → FitsEntry e → IsNewest e b → IsKeepable (with_entry e b)
entry_kept b e k fits newest = record {
  cursor = k.cursor;
  entries = all_both FitsEntry b.entries (e ∷ []) k.entries (fits, tt);
  seen = k.seen;
  tombstones = k.tombstones;
  tokens = rising_push token_rank b.entries e k.tokens newest;
  paths = k.paths;
  numbers = k.numbers;
}

pub no_entry_kept : (b : Book) (token : Token) → IsKeepable b → IsKeepable (without_entry token b)
no_entry_kept b token k = record {
  cursor = k.cursor;
  entries = all_kept FitsEntry (λ e. not (same_key e.token.0 token.0)) b.entries k.entries;
  seen = k.seen;
  tombstones = k.tombstones;
  tokens = rising_filter token_rank (λ e. not (same_key e.token.0 token.0)) b.entries k.tokens;
  paths = k.paths;
  numbers = k.numbers;
}

pub seen_kept : (b : Book) (p : SeenPath) → IsKeepable b → FitsSeen p → IsKeepable (with_seen p b)
seen_kept b p k fits = record {
  cursor = k.cursor;
  entries = k.entries;
  seen = all_put FitsSeen (λ x y. nat_lt x.item.0 y.item.0) p (without_seen p.item b.seen) fits (all_kept FitsSeen (λ q. not (q.item.0 == p.item.0)) b.seen k.seen);
  tombstones = k.tombstones;
  tokens = k.tokens;
  paths = rising_put path_rank p (without_seen p.item b.seen) (rising_filter path_rank (λ q. not (q.item.0 == p.item.0)) b.seen k.paths) (others_left p.item b.seen);
  numbers = k.numbers;
}

pub no_seen_kept : (b : Book) (item : ItemId) → IsKeepable b → IsKeepable (record b { seen = without_seen item b.seen })
no_seen_kept b item k = record {
  cursor = k.cursor;
  entries = k.entries;
  seen = all_kept FitsSeen (λ q. not (q.item.0 == item.0)) b.seen k.seen;
  tombstones = k.tombstones;
  tokens = k.tokens;
  paths = rising_filter path_rank (λ q. not (q.item.0 == item.0)) b.seen k.paths;
  numbers = k.numbers;
}

pub tombstone_kept : (b : Book) (t : Tombstone) → IsKeepable b → FitsTombstone t → tombstone_of b t.number ≡ None → IsKeepable (with_tombstone t b)
tombstone_kept b t k fits new = record {
  cursor = k.cursor;
  entries = k.entries;
  seen = k.seen;
  tombstones = all_put FitsTombstone (λ x y. above y.number x.number) t b.tombstones fits k.tombstones;
  tokens = k.tokens;
  paths = k.paths;
  numbers = rising_put number_rank t b.tombstones k.numbers (none_found (λ x. same_usn x.number t.number) b.tombstones new);
}

pub no_tombstone_kept : (b : Book) (number : Usn) → IsKeepable b → IsKeepable (without_tombstone number b)
no_tombstone_kept b number k = record {
  cursor = k.cursor;
  entries = k.entries;
  seen = k.seen;
  tombstones = all_kept FitsTombstone (λ t. not (same_usn t.number number)) b.tombstones k.tombstones;
  tokens = k.tokens;
  paths = k.paths;
  numbers = rising_filter number_rank (λ t. not (same_usn t.number number)) b.tombstones k.numbers;
}

pub anchor_kept : (b : Book) (item : ItemId) (number : Usn) → IsKeepable b → IsKeepable (with_anchor item number b)
anchor_kept b item number k = record { cursor = k.cursor; entries = k.entries; seen = k.seen; tombstones = k.tombstones; tokens = k.tokens; paths = k.paths; numbers = k.numbers }

pub ticks_kept : (b : Book) (ticks : ℕ) → IsKeepable b → IsKeepable (with_ticks ticks b)
ticks_kept b ticks k = record { cursor = k.cursor; entries = k.entries; seen = k.seen; tombstones = k.tombstones; tokens = k.tokens; paths = k.paths; numbers = k.numbers }

pub access_kept : (b : Book) (item : ItemId) → IsKeepable b → IsKeepable (with_access item b)
access_kept b item k = record { cursor = k.cursor; entries = k.entries; seen = k.seen; tombstones = k.tombstones; tokens = k.tokens; paths = k.paths; numbers = k.numbers }

pub change_kept : (b : Book) (c : Change) → IsKeepable b → IsKeepable (book_after c b)
change_kept b (change.Remove item) k = record {
  cursor = k.cursor;
  entries = k.entries;
  seen = all_kept FitsSeen (λ q. not (q.item.0 == item.0)) b.seen k.seen;
  tombstones = k.tombstones;
  tokens = k.tokens;
  paths = rising_filter path_rank (λ q. not (q.item.0 == item.0)) b.seen k.paths;
  numbers = k.numbers;
}
change_kept b _ k = k

-- what the steps ask

pub none_kept : IsKeepable no_book
none_kept = record { cursor = omega arith; entries = tt; seen = tt; tombstones = tt; tokens = tt; paths = tt; numbers = tt }

pub short_tokens : (b : Book) → IsKeepable b → AreShortTokens b.entries
short_tokens b k = all_weaker FitsEntry (λ (e : QueueEntry). FitsKey e.token.0) b.entries (λ e f. f.token) k.entries

pub short_ids : (b : Book) → IsKeepable b → AreShortIds b.seen
short_ids b k = All-from_recursion (λ (p : SeenPath). p.item.0 < 18446744073709551616) b.seen (all_weaker FitsSeen (λ (p : SeenPath). p.item.0 < 18446744073709551616) b.seen (λ p f. f.item) k.seen)

pub short_numbers : (b : Book) → IsKeepable b → AreShortNumbers b.tombstones
short_numbers b k = all_weaker FitsTombstone (λ (t : Tombstone). FitsUsn t.number) b.tombstones (λ t f. f.number) k.tombstones
