-- What a removed item leaves: a tombstone, where that is wanted and its identity names a target.
use Rattle.std.proofs.Common.{◌≡◌, ◌++◌, ◌<◌, ℕ, Bool, true, false, ◌&&◌, ◌||◌, not, cond, eqb, List, [], ◌∷◌, drop, take, None, Some, refl, sym, ◌∙◌, ap, subst, arith}
use Rattle.std.specs.Prelude.{find, ◌==◌, ◌^◌}
use Rattle.std.proofs.lemmas.Bool.{true≢false}
use Rattle.std.proofs.lemmas.Bool.Decides.{nat_tests}
use Rattle.cf_base.specs.declared.codes.Code.TheVariants as code
use Rattle.cf_base.specs.declared.changes.Change.TheVariants as change
use Rattle.cf_base.specs.declared.ids.ItemId.{ItemId}
use Rattle.cf_base.specs.declared.ids.Usn.{Usn}
use Rattle.cf_engine_queue.specs.Identities.{numbers_of}
use Rattle.cf_engine_queue.specs.Records.{FitsUsn, IsKeepable}
use Rattle.cf_engine_queue.specs.declared.identities.Numbers.{Numbers}
use Rattle.cf_engine_queue.proofs.StaysKeepable.{change_kept, short_numbers, tombstone_kept}
use Rattle.cf_engine_queue.proofs.Steps.{tombstone_step}
use Rattle.cf_filter_machine.specs.Graves.{FitsGrave, gone}
use Rattle.cf_model.specs.Books.{Book, Tombstone, aux_records, book_after, tombstone_of, tombstone_record, with_tombstone}
use Rattle.cf_model.specs.Calls.{buried, tombstone_for}
use Rattle.cf_model.specs.Changes.{next_number, no_places, why_no_room}
use Rattle.cf_model.specs.Formats.{with_record}
use Rattle.cf_model.specs.Identities.{base_version, is_untargeted, target_of}
use Rattle.cf_model.specs.Items.{Item}
use Rattle.cf_model.specs.Numbers.{above, no_usn, no_version, root_rid, same_usn}
use Rattle.cf_model.specs.State.{Volume}
use Rattle.cf_model.specs.Words.{first_of, in_bytes, number_of}
use Rattle.cf_filter_steps.specs.Good.{Every}
use Rattle.cf_table.specs.Means.{Means}
use Rattle.cf_table.specs.declared.rows.Row.{Row}
use Rattle.cf_volume.specs.Calls.{HasRecords}

-- of the row

module _ (r : Row) (i : Item) (n : Numbers) (means : Means r i) (other : (eqb i.id.0 1) ≡ false) (is : n ≡ numbers_of r.identity) where
  target : n.target ≡ (target_of i).0
  target = ap (λ (m : Numbers). m.target) is ∙ ap (λ (l : List ℕ). number_of (take 8 l)) means.identity
      ∙ sym (ap (λ (c : Bool). (cond c root_rid (record { 0 = number_of (take 8 i.identity) })).0) other)

  pub untargeted_as : is_untargeted i ≡ (n.target == 0)
  untargeted_as = sym (ap (λ (k : ℕ). k == 0) target)

  version : cond r.dir 0 n.version ≡ (cond i.directory no_version (base_version i)).0
  version = ap (λ (m : Numbers). cond r.dir 0 m.version) is ∙ (λ j. cond (means.directory j) 0 (number_of (drop 16 (means.identity j)))) ∙ by i.directory
    where
      by : (d : Bool) → cond d 0 (number_of (drop 16 i.identity)) ≡ (cond d no_version (base_version i)).0
      by true = refl
      by false = refl

  -- of numbers that have room, what is told of the item has
  low_version : (d : Bool) → n.version < 2 ^ 64 → cond d 0 n.version < 2 ^ 64
  low_version true h = omega arith
  low_version false h = h

  pub grave_as : (value : List ℕ) → value ≡ in_bytes 8 n.target ++ in_bytes 8 (cond r.dir 0 n.version) → n.target < 2 ^ 64 → n.version < 2 ^ 64
      → (value ≡ (tombstone_record (tombstone_for i no_usn)).value) × FitsGrave i
  grave_as value e t v = (
    e ∙ (λ j. in_bytes 8 (target j) ++ in_bytes 8 (version j)),
    (subst (λ (k : ℕ). k < 2 ^ 64) target t, subst (λ (k : ℕ). k < 2 ^ 64) version (low_version r.dir v)),
  )

-- of the book

pub no_grave : (bury : Bool) (i : Item) (n : Usn) (b : Book) → (bury && not (is_untargeted i)) ≡ false → buried bury i n b ≡ b
no_grave false i n b h = refl
no_grave true i n b h = by (is_untargeted i) h
  where
    by : (u : Bool) → not u ≡ false → cond u b (with_tombstone (tombstone_for i n) b) ≡ b
    by true h = refl
    by false h = absurd (true≢false h)

pub one_grave : (bury : Bool) (i : Item) (n : Usn) (b : Book) → (bury && not (is_untargeted i)) ≡ true → with_tombstone (tombstone_for i n) b ≡ buried bury i n b
one_grave false i n b h = absurd (true≢false (sym h))
one_grave true i n b h = by (is_untargeted i) h
  where
    by : (u : Bool) → not u ≡ true → with_tombstone (tombstone_for i n) b ≡ cond u b (with_tombstone (tombstone_for i n) b)
    by true h = absurd (true≢false (sym h))
    by false h = refl

pub grave_told : (t : Tombstone) (b : Book) (records : List _) → records ≡ aux_records b → IsKeepable b → FitsUsn t.number → tombstone_of b t.number ≡ None → HasRecords b (with_record (tombstone_record t) records) (with_tombstone t b)
grave_told t b records same keeps fits none =
    record { told = tombstone_step b t (short_numbers b keeps) fits none ∙ ap (with_record (tombstone_record t)) (sym same); anchors = refl; clock = refl; accesses = refl }

-- no tombstone has a number that is above those of all
pub not_yet : (n : Usn) (ts : List Tombstone) → Every (λ t. above n t.number ≡ true) ts → find (λ t. same_usn t.number n) ts ≡ None
not_yet n [] h = refl
not_yet n (t ∷ ts) h = ap (λ (b : Bool). cond b (Some t) (find (λ x. same_usn x.number n) ts)) (other n t.number h.0) ∙ not_yet n ts h.1
  where
    other : (a b : Usn) → above a b ≡ true → same_usn b a ≡ false
    other a b h = grind (arith, nat_tests, h)

-- the book still fits its records, with the tombstone or without one
pub none_fits : (bury : Bool) (id : ItemId) (i : Item) (v : Volume) → IsKeepable v.book → (bury && not (is_untargeted i)) ≡ false → IsKeepable (gone bury id i v).book
none_fits bury id i v keeps none = subst IsKeepable (sym (no_grave bury i (next_number v) (book_after (change.Remove id) v.book) none)) (change_kept v.book (change.Remove id) keeps)

pub one_fits : (bury : Bool) (id : ItemId) (i : Item) (v : Volume) → IsKeepable v.book → (bury && not (is_untargeted i)) ≡ true → FitsGrave i → FitsUsn (next_number v) → Every (λ t. above (next_number v) t.number ≡ true) v.book.tombstones
    → IsKeepable (gone bury id i v).book
one_fits bury id i v keeps one fits number graves =
    subst IsKeepable (one_grave bury i (next_number v) (book_after (change.Remove id) v.book) one)
    (tombstone_kept (book_after (change.Remove id) v.book) (tombstone_for i (next_number v)) (change_kept v.book (change.Remove id) keeps) (record { number = number; rid = fits.0; version = fits.1 }) (not_yet (next_number v) v.book.tombstones graves))

-- a removal needs no room

pub no_reason : (v : Volume) (id : ItemId) → no_places v 1 ≡ false → why_no_room (change.Remove id ∷ []) v ≡ None
no_reason v id left = ap (λ (b : Bool). first_of ((b || false, code.Exhausted) ∷ (false, code.TableFull) ∷ (false, code.Full) ∷ [])) left
