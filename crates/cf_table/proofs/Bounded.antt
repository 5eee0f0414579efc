-- Rows stay below a bound of the items of the remote that they name.
use Rattle.std.proofs.Common.{◌≡◌, ◌∙◌, ◌<◌, ◌++◌, ◌∷◌, ℕ, List, [], true, false, Bool, cond, Option, Some, Ok, Err, Result, ap, arith, eqb, get_or, length, ltb, set, subst, sym}
use Rattle.std.specs.Prelude.{All, OnErr, OnOk}
use Rattle.std.proofs.lemmas.List.{get_or-set_same}
use Rattle.std.proofs.lemmas.List.Elements.{All-cons, All-get_or, All-head, All-nil, All-set, All-tail, All-weaker}
use Rattle.cf_model.specs.Identities.{target_of}
use Rattle.cf_model.specs.Items.{Item}
use Rattle.cf_model.specs.Numbers.{root_rid}
use Rattle.cf_model.specs.Words.{in_bytes}
use Rattle.cf_model.proofs.ReplyLaws.{read_back}
use Rattle.cf_table.specs.Index.{entry_of, index_of}
use Rattle.cf_table.specs.Tables.{IsTable, MeansAll, SetsAt, with_row}
use Rattle.cf_table.specs.Targets.{AreBounded, AreKept, IsBounded, first_number}
use Rattle.cf_table.specs.Unlisted.{is_unlisted, unlisted_in}
use Rattle.cf_table.specs.declared.entries.Entry.{Entry}
use Rattle.cf_table.specs.declared.rows.Row.{Row}
use Rattle.cf_table.proofs.Counts.{kept_count}
use Rattle.cf_table.proofs.Indexed.{set_indexed}

-- a number that was read

pub number_read : (identity more : List ℕ) (n : ℕ) → n < 18446744073709551616 → identity ≡ in_bytes 8 n ++ more → first_number identity ≡ n
number_read identity more n h is = ap first_number is ∙ read_back n h

-- lists of rows

pub all_with : (P : Row → Type 0) (row : Row) (rows : List Row) → P row → All P rows → All P (with_row row rows)
all_with P row [] p ps = All-cons P row [] p ps
all_with P row (r ∷ rs) p ps = lower (all_with P row rs p (All-tail P r rs ps)) (ltb r.id.0 row.id.0) (eqb r.id.0 row.id.0) where
  same : (b : Bool) → All P (cond b (row ∷ rs) (row ∷ r ∷ rs))
  same true = All-cons P row rs p (All-tail P r rs ps)
  same false = All-cons P row (r ∷ rs) p ps

  lower : All P (with_row row rs) → (b c : Bool) → All P (cond b (r ∷ with_row row rs) (cond c (row ∷ rs) (row ∷ r ∷ rs)))
  lower more true c = All-cons P r (with_row row rs) (All-head P r rs ps) more
  lower more false c = same c

abbrev bounded : Option ℕ → Row → Type 0
bounded bound r = IsBounded bound r.identity

-- a row that keeps its identity and whether it is of a directory whose entries are not known

pub set_kept : (P : Row → Row → Type 0) → ((r s : Row) → P r s → entry_of s ≡ entry_of r) → ((r s : Row) → P r s → s.identity ≡ r.identity) → ((r s : Row) → P r s → is_unlisted s ≡ is_unlisted r)
    → (k n m : ℕ) (old new : List Row) (es : List Entry) (bound : Option ℕ) (u : ℕ) → AreKept old es n bound u → k < length old → SetsAt P k old new → IsTable new m → AreKept new es m bound u
set_kept P same named listed k n m old new es bound u t lt sets table = record {
  indexed = set_indexed P same k n m old new es t.indexed lt sets table;
  bounded = subst (λ (l : List Row). AreBounded bound l) (sym sets.2)
      (All-set (bounded bound) old k sets.0 (subst (λ (v : List ℕ). IsBounded bound v) (sym (named (get_or old k sets.0) sets.0 sets.1)) (All-get_or (bounded bound) old k sets.0 lt t.bounded)) t.bounded);
  root = t.root;
  unlisted = t.unlisted ∙ sym (ap unlisted_in sets.2 ∙ kept_count old k sets.0 lt (listed (get_or old k sets.0) sets.0 sets.1));
}

pub maybe_set_kept : {A E : Type 0} (r : Result A E) (P : Row → Row → Type 0) → ((r s : Row) → P r s → entry_of s ≡ entry_of r) → ((r s : Row) → P r s → s.identity ≡ r.identity) → ((r s : Row) → P r s → is_unlisted s ≡ is_unlisted r)
    → (k n m : ℕ) (old new : List Row) (es : List Entry) (bound : Option ℕ) (u : ℕ) → AreKept old es n bound u → k < length old → OnOk r (SetsAt P k old new) → OnErr r ((new ≡ old) × (m ≡ n)) → IsTable new m → AreKept new es m bound u
maybe_set_kept (Ok x) P same named listed k n m old new es bound u t lt sets err table = set_kept P same named listed k n m old new es bound u t lt sets table
maybe_set_kept (Err e) P same named listed k n m old new es bound u t lt sets err table = record {
  indexed = record { table = table; index = subst (λ (l : List Row). es ≡ index_of l) (sym err.0) t.indexed.index };
  bounded = subst (λ (l : List Row). AreBounded bound l) (sym err.0) t.bounded;
  root = t.root;
  unlisted = t.unlisted ∙ sym (ap unlisted_in err.0);
}

-- a bound that was raised

pub raised_all : (before after : Option ℕ) (rows : List Row) → ((other : List ℕ) → IsBounded before other → IsBounded after other) → AreBounded before rows → AreBounded after rows
raised_all before after rows more all = All-weaker (bounded before) (bounded after) (λ r h. more r.identity h) rows all

pub changed_bounded : (before after : Option ℕ) (k : ℕ) (old new : List Row) (s x : Row) → ((other : List ℕ) → IsBounded before other → IsBounded after other) → k < length old → new ≡ set old k s → x ≡ get_or new k x
    → IsBounded after x.identity → AreBounded before old → AreBounded after new
changed_bounded before after k old new s x more lt is here h all =
    let same : x ≡ s = here ∙ ap (λ (l : List Row). get_or l k x) is ∙ get_or-set_same old k s x lt in
    subst (λ (l : List Row). AreBounded after l) (sym is)
    (All-set (bounded after) old k s (subst (λ (r : Row). IsBounded after r.identity) same h) (raised_all before after old more all))

-- the items

pub targets_below : (bound target : ℕ) (rows : List Row) (items : List Item) → AreBounded (Some bound) rows → 1 < target → bound < target → MeansAll rows items → All (λ i. (target_of i).0 < target) items
targets_below bound target [] [] b one h m = All-nil (λ i. (target_of i).0 < target)
targets_below bound target [] (i ∷ is) b one h m = absurd m
targets_below bound target (r ∷ rs) [] b one h m = absurd m
targets_below bound target (r ∷ rs) (i ∷ is) b one h m =
    All-cons (λ i. (target_of i).0 < target) i is (below (eqb i.id.0 1)) (targets_below bound target rs is (All-tail (bounded (Some bound)) r rs b) one h m.1) where
      here : first_number i.identity < target
      here = omega (arith, h, ap first_number m.0.identity, All-head (bounded (Some bound)) r rs b)

      below : (c : Bool) → (cond c root_rid (record { 0 = first_number i.identity })).0 < target
      below true = one
      below false = here
