-- Changes that suit by what was tested of them.
use Rattle.std.proofs.Common.{◌≡◌, ◌≤◌, Bool, true, false, not, List, refl, sym, ◌∙◌, ap, ℕ, length, arith}
use Rattle.std.proofs.lemmas.Bool.{and_parts, eqb-true, leb-true, ltb-true}
use Rattle.std.specs.Prelude.{Option, Some, None, MatchOption, is_none, is_some, nat_le, find, ◌&&◌}
use Rattle.cf_base.specs.declared.changes.Change.{Change}
use Rattle.cf_base.specs.declared.changes.Change.TheVariants as change
use Rattle.cf_base.specs.declared.ids.ItemId.{ItemId}
use Rattle.cf_base.specs.declared.ids.Usn.{Usn}
use Rattle.cf_base.specs.declared.items.Kind.{Kind}
use Rattle.cf_base.specs.Names.{is_name}
use Rattle.cf_engine_steps.specs.Suited.{DeepIf, PlaceIf, SuitsIf, has_this_number, is_free_at, is_high_at, is_next_at, is_open_directory, is_placeholder, is_placeholder_file, may_be_copied, says_at}
use Rattle.cf_filter_calls.proofs.NewItems.{name_short}
use Rattle.cf_filter_calls.proofs.Suited.{each_at}
use Rattle.cf_model.specs.Items.{Item, item_of}
use Rattle.cf_model.specs.LookUp.{child_of, depth_at}
use Rattle.cf_model.specs.Numbers.{is_no_usn, same_usn}
use Rattle.cf_model.specs.Soundness.{Each, MadeNeeds}
use Rattle.cf_model.specs.State.{Filter}
use Rattle.cf_model.specs.Words.{says}
use Rattle.cf_model.proofs.NameLaws.{name_is}
use Rattle.cf_filter_steps.specs.Answering.{Any, Reads, Sense}
use Rattle.cf_filter_steps.specs.Finding.{HasRows}
use Rattle.cf_filter_steps.specs.Good.{IsGood}
use Rattle.cf_filter_steps.specs.Suiting.{IsOpenDirectory}
use Rattle.cf_table.specs.Means.{Means}
use Rattle.cf_table.specs.Tables.{Table, id_of, is_child_row, row_of}
use Rattle.cf_table.specs.declared.rows.Row.{Row}
use Rattle.cf_tree.proofs.Alike.{BothMean, rows_by_id, rows_by_name}

pub never_suits : {X : Type 0} (S : Sense X) (c : Change) (x : X) → SuitsIf S c x false
never_suits S c x = record { suits = λ e s m. let z : false ≡ true = e in cc }

pub never_deep : {X : Type 0} (S : Sense X) (c : Change) (x : X) → DeepIf S c x false
never_deep S c x = record { deep = λ e s m. let z : false ≡ true = e in cc }

pub never_a_place : {X : Type 0} (S : Sense X) (parent : ItemId) (name : List ℕ) (x : X) → PlaceIf S parent name x false
never_a_place S parent name x = record { place = λ e s m. let z : false ≡ true = e in cc }

-- what is read of a row is read of the item that it means

both_say : (p : Row → Bool) (q : Item → Bool) → ((r : Row) (i : Item) → Means r i → p r ≡ q i) → (o : Option Row) (i : Option Item) → BothMean o i → says p o ≡ says q i
both_say p q same None None h = refl
both_say p q same None (Some i) h = absurd h
both_say p q same (Some r) None h = absurd h
both_say p q same (Some r) (Some i) h = same r i h

module _ {X : Type 0} (S : Sense X) (x : X) (t : Table) (id : ItemId) (o : Option Row) (b : Bool) where
  read_by : (p : Row → Bool) (q : Item → Bool) → ((r : Row) (i : Item) → Means r i → p r ≡ q i) → HasRows S x t → row_of t.rows id ≡ o → b ≡ says p o → Reads S Any (says_at q id) x b
  read_by p q same rows e is = record { is = λ s m u. is ∙ ap (says p) (sym e) ∙ both_say p q same (row_of t.rows id) (item_of s.volume.items id) (rows_by_id t.rows s.volume.items id (rows.rows s m)) }

  pub placeholder_by : HasRows S x t → row_of t.rows id ≡ o → b ≡ says (λ r. r.placeholder) o → Reads S Any (says_at is_placeholder id) x b
  placeholder_by rows e is = read_by (λ r. r.placeholder) is_placeholder (λ r i h. h.placeholder) rows e is

  pub placeholder_file_by : HasRows S x t → row_of t.rows id ≡ o → b ≡ says (λ r. r.placeholder && not r.dir) o → Reads S Any (says_at is_placeholder_file id) x b
  placeholder_file_by rows e is = read_by (λ r. r.placeholder && not r.dir) is_placeholder_file (λ r i h. ap (λ (c : Bool). c && not r.dir) h.placeholder ∙ ap (λ (c : Bool). i.placeholder && not c) h.directory) rows e is

  pub open_directory_by : HasRows S x t → row_of t.rows id ≡ o → b ≡ says (λ r. r.dir && r.populated) o → Reads S Any (says_at is_open_directory id) x b
  open_directory_by rows e is = read_by (λ r. r.dir && r.populated) is_open_directory (λ r i h. ap (λ (c : Bool). c && r.populated) h.directory ∙ ap (λ (c : Bool). i.directory && c) h.populated) rows e is

  pub copied_by : HasRows S x t → row_of t.rows id ≡ o → b ≡ says (λ r. not r.dir && nat_le 8 (length r.identity)) o → Reads S Any (says_at may_be_copied id) x b
  copied_by rows e is = read_by (λ r. not r.dir && nat_le 8 (length r.identity)) may_be_copied (λ r i h. ap (λ (c : Bool). not c && nat_le 8 (length r.identity)) h.directory ∙ ap (λ (l : List ℕ). not i.directory && nat_le 8 (length l)) h.identity) rows e is

  pub numbered_by : (n : Usn) → HasRows S x t → row_of t.rows id ≡ o → b ≡ says (λ r. same_usn r.number n && not (is_no_usn n)) o → Reads S Any (says_at (has_this_number n) id) x b
  numbered_by n rows e is = read_by (λ r. same_usn r.number n && not (is_no_usn n)) (has_this_number n) (λ r i h. ap (λ (m : Usn). same_usn m n && not (is_no_usn n)) h.number) rows e is

both_none : (o : Option Row) (i : Option Item) → BothMean o i → is_none (id_of o) ≡ is_none i
both_none None None h = refl
both_none None (Some i) h = absurd h
both_none (Some r) None h = absurd h
both_none (Some r) (Some i) h = refl

turned : (a b : Bool) → a ≡ not b → b ≡ not a
turned a true e = sym (ap not e)
turned a false e = sym (ap not e)

pub free_by : {X : Type 0} (S : Sense X) (x : X) (t : Table) (parent : ItemId) (name bytes : List ℕ) (o : Option ItemId) (b : Bool) → HasRows S x t → bytes ≡ name → o ≡ id_of (find (is_child_row parent bytes) t.rows) → is_some o ≡ not b → Reads S Any (is_free_at parent name) x b
free_by S x t parent name bytes o b rows same e is = record {
  is = λ s m u. turned (is_some o) b is ∙ ap (λ (i : Option ItemId). is_none i) (e ∙ ap (λ (n : List ℕ). id_of (find (is_child_row parent n) t.rows)) same) ∙ both_none (find (is_child_row parent name) t.rows) (child_of s.volume.items parent name) (rows_by_name t.rows s.volume.items parent name (rows.rows s m));
}

-- what is said of an item holds of each with its id

pub there : (q : Item → Bool) (P : Item → Type 0) → ((i : Item) → q i ≡ true → P i) → (id : ItemId) (s : Filter) (o : Option Item) → item_of s.volume.items id ≡ o → says q o ≡ true → IsGood s → Each id P s.volume.items
there q P gives id s None at h good = let z : false ≡ true = h in cc
there q P gives id s (Some i) at h good = each_at 1 P id s.volume.items i good.volume.tree.order at (gives i h)

each_said : {X : Type 0} (S : Sense X) (q : Item → Bool) (P : Item → Type 0) → ((i : Item) → q i ≡ true → P i) → (id : ItemId) (x : X) (b : Bool) → b ≡ true → Reads S Any (says_at q id) x b → (s : Filter) → S.means x s → Each id P s.volume.items
each_said S q P gives id x b is reads s m = there q P gives id s (item_of s.volume.items id) refl (sym (reads.is s m (record {})) ∙ is) (S.good x s m)

pub mark_by : {X : Type 0} (S : Sense X) (id : ItemId) (n : Usn) (x : X) (b : Bool) → Reads S Any (says_at is_placeholder id) x b → SuitsIf S (change.Mark id n) x b
mark_by S id n x b reads = record {
  suits = λ is s m. (record { fits = λ i j k l. record {}; needs = each_said S is_placeholder (λ i. i.placeholder ≡ true) (λ i h. h) id x b is reads s m; plants = record {}; lasts = record {} }, record {});
}

pub not_true : (b : Bool) → not b ≡ true → b ≡ false
not_true false e = refl
not_true true e = let z : false ≡ true = e in cc

pub wide : (n : ℕ) → n ≤ 4096 → n ≤ 65535
wide n h = omega (arith, h)

pub take_by : {X : Type 0} (S : Sense X) (id : ItemId) (identity : List ℕ) (size : ℕ) (x : X) (b : Bool) → length identity ≤ 4096 → size ≤ 16777216 → Reads S Any (says_at is_placeholder_file id) x b → SuitsIf S (change.Take id identity size) x b
take_by S id identity size x b short small reads = record {
  suits = λ is s m. (
    record {
      fits = λ i j k l. (wide (length identity) short, small);
      needs = each_said S is_placeholder_file (λ i. (i.placeholder ≡ true) × (i.directory ≡ false)) (λ i h. let p = and_parts i.placeholder (not i.directory) h in (p.0, not_true i.directory p.1)) id x b is reads s m;
      plants = record {};
      lasts = short;
    },
    record {},
  );
}

pub opened_by : (o : Option Item) → says is_open_directory o ≡ true → MatchOption o ⊥ IsOpenDirectory
opened_by None h = let z : false ≡ true = h in absurd cc
opened_by (Some i) h = and_parts i.directory i.populated h

free_if : (o : Option Item) → is_none o ≡ true → o ≡ None
free_if None e = refl
free_if (Some i) e = let z : false ≡ true = e in cc

pub place_by : {X : Type 0} (S : Sense X) (parent : ItemId) (name : List ℕ) (x : X) (n o h b : Bool) → n ≡ true → n ≡ is_name name → o ≡ true → Reads S Any (says_at is_open_directory parent) x o → h ≡ true → Reads S Any (is_high_at parent) x h
    → Reads S Any (is_free_at parent name) x b → PlaceIf S parent name x b
place_by S parent name x n o h b ni named oi opened hi high free = record {
  place = λ bi s m. (
    name_is name ∙ sym named ∙ ni,
    opened_by (item_of s.volume.items parent) (sym (opened.is s m (record {})) ∙ oi),
    ltb-true (depth_at s.volume.items parent) 32 (sym (high.is s m (record {})) ∙ hi),
    free_if (child_of s.volume.items parent name) (sym (free.is s m (record {})) ∙ bi),
  );
}

pub make_by : {X : Type 0} (S : Sense X) (item parent : ItemId) (name : List ℕ) (k : Kind) (size : ℕ) (identity : List ℕ) (x : X) (a b : Bool) → a ≡ true → Reads S Any (is_next_at item) x a → length identity ≤ 4096 → size ≤ 16777216 → MadeNeeds k identity
    → PlaceIf S parent name x b → SuitsIf S (change.Make item parent name k size identity) x b
make_by S item parent name k size identity x a b ai next short small needs place = record {
  suits = λ bi s m.
      let p = place.place bi s m in (
        record {
          fits = (name_short name p.0, wide (length identity) short, small);
          needs = needs;
          plants = (ap (λ (n : ℕ). record { 0 = n }) (eqb-true item.0 s.volume.next_item.0 (sym (next.is s m (record {})) ∙ ai)), p);
          lasts = short;
        },
        record {},
      );
}

pub clear_by : {X : Type 0} (S : Sense X) (id : ItemId) (x : X) → SuitsIf S (change.Clear id) x true
clear_by S id x = record { suits = λ e s m. (record { fits = λ i j k l. record {}; needs = record {}; plants = record {}; lasts = record {} }, record {}) }

pub convert_by : {X : Type 0} (S : Sense X) (id : ItemId) (identity : List ℕ) (x : X) (b : Bool) → (b ≡ true → length identity ≤ 4096) → SuitsIf S (change.Convert id identity) x b
convert_by S id identity x b short = record {
  suits = λ is s m. (record { fits = λ i j k l. wide (length identity) (short is); needs = record {}; plants = record {}; lasts = short is }, record {});
}

copied_is : (o : Option Item) → says may_be_copied o ≡ true → MatchOption o ⊥ (λ i. 8 ≤ length i.identity)
copied_is None h = let z : false ≡ true = h in absurd cc
copied_is (Some i) h = leb-true 8 (length i.identity) (and_parts (not i.directory) (nat_le 8 (length i.identity)) h).1

pub copy_by : {X : Type 0} (S : Sense X) (item from parent : ItemId) (name : List ℕ) (x : X) (a f b : Bool) → a ≡ true → Reads S Any (is_next_at item) x a → f ≡ true → Reads S Any (says_at may_be_copied from) x f
    → PlaceIf S parent name x b → SuitsIf S (change.Copy item from parent name) x b
copy_by S item from parent name x a f b ai next fi copied place = record {
  suits = λ bi s m.
      let p = place.place bi s m in (
        record {
          fits = (name_short name p.0, copied_is (item_of s.volume.items from) (sym (copied.is s m (record {})) ∙ fi));
          needs = each_said S may_be_copied (λ i. i.directory ≡ false) (λ i h. not_true i.directory (and_parts (not i.directory) (nat_le 8 (length i.identity)) h).0) from x f fi copied s m;
          plants = (ap (λ (n : ℕ). record { 0 = n }) (eqb-true item.0 s.volume.next_item.0 (sym (next.is s m (record {})) ∙ ai)), p);
          lasts = record {};
        },
        record {},
      );
}
