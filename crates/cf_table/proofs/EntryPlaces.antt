-- Where an entry would stand in an index, and what comes there or goes.
use Rattle.std.proofs.Common.{◌≡◌, ℕ, Bool, true, false, not, cond, List, [], ◌∷◌, ◌++◌, Some, None, refl, sym, ap, ◌∙◌}
use Rattle.std.specs.Prelude.{filter, find}
use Rattle.std.specs.Cmp.Lexicographic.{slice_cmp}
use Rattle.std.specs.Ordering.{is_eq, nat_cmp}
use Rattle.std.proofs.lemmas.Bool.{cond-false, cond-true}
use Rattle.cf_base.specs.declared.ids.ItemId.{ItemId}
use Rattle.cf_collections.specs.Split.{IsSplit, NonePass, behind, front, rest}
use Rattle.cf_lists.proofs.Ordered as ordered
use Rattle.cf_lists.specs.Ordered.{AllAfter, InOrder}
use Rattle.cf_model.specs.Words.{put_in}
use Rattle.cf_table.specs.Index.{begins_with, compared, entry_at, entry_id, is_entry_in, is_entry_of, stands_before, without_entry}
use Rattle.cf_table.specs.declared.entries.Entry.{Entry}
use Rattle.cf_table.proofs.Indexed.{all_after_equal, compared_total, equal_is, not_equal, other, untouched}
use Rattle.cf_table.proofs.NamedEntries.{higher, none_in_after, none_named_after, not_in_before, not_named_before}

-- what stands before the place

none_after : (key e : Entry) (es : List Entry) → stands_before e key ≡ false → AllAfter stands_before e es → NonePass (λ f. stands_before f key) es
none_after key e [] h a = tt
none_after key e (f ∷ fs) h a = (by (stands_before f key) refl, none_after key e fs h a.1) where
  by : (b : Bool) → stands_before f key ≡ b → stands_before f key ≡ false
  by true k = let z : true ≡ false = sym (ordered.goes_on compared compared_total e f key a.0 k) ∙ h in cc
  by false k = k

pub split : (key : Entry) (es : List Entry) → InOrder stands_before es → IsSplit (λ f. stands_before f key) es
split key [] o = tt
split key (e ∷ es) o = ((λ h. none_after key e es h o.0), split key es o.1)

pub put_there : (key : Entry) (es : List Entry) → front (λ f. stands_before f key) es ++ key ∷ behind (λ f. stands_before f key) es ≡ put_in stands_before key es
put_there key [] = refl
put_there key (e ∷ es) = by (put_there key es) (stands_before e key) where
  by : front (λ f. stands_before f key) es ++ key ∷ behind (λ f. stands_before f key) es ≡ put_in stands_before key es → (b : Bool)
      → cond b (e ∷ front (λ f. stands_before f key) es) [] ++ key ∷ cond b (behind (λ f. stands_before f key) es) (e ∷ es) ≡ cond b (e ∷ put_in stands_before key es) (key ∷ e ∷ es)
  by more true = ap (λ (l : List Entry). e ∷ l) more
  by more false = refl

-- the entry there goes

pub gone_there : (key : Entry) (es : List Entry) → InOrder stands_before es → begins_with key (behind (λ f. stands_before f key) es) ≡ true
    → front (λ f. stands_before f key) es ++ rest (behind (λ f. stands_before f key) es) ≡ without_entry key es
gone_there key [] o h = let z : false ≡ true = h in cc
gone_there key (e ∷ es) o h = by (gone_there key es o.1) (stands_before e key) refl h where
  by : (begins_with key (behind (λ f. stands_before f key) es) ≡ true → front (λ f. stands_before f key) es ++ rest (behind (λ f. stands_before f key) es) ≡ without_entry key es)
      → (b : Bool) → stands_before e key ≡ b → begins_with key (cond b (behind (λ f. stands_before f key) es) (e ∷ es)) ≡ true
      → cond b (e ∷ front (λ f. stands_before f key) es) [] ++ rest (cond b (behind (λ f. stands_before f key) es) (e ∷ es)) ≡ without_entry key (e ∷ es)
  by more true k h = ap (λ (l : List Entry). e ∷ l) (more h) ∙ sym (cond-true (not (is_eq (compared e key))) _ _ (ap not (other (compared e key) k)))
  by more false k h = sym (cond-false (not (is_eq (compared e key))) _ _ (ap not h) ∙ untouched key es (all_after_equal e key es (equal_is (compared e key) h) o.0))

pub none_there : (key : Entry) (es : List Entry) → InOrder stands_before es → begins_with key (behind (λ f. stands_before f key) es) ≡ false → es ≡ without_entry key es
none_there key [] o h = refl
none_there key (e ∷ es) o h = by (none_there key es o.1) (stands_before e key) refl h where
  by : (begins_with key (behind (λ f. stands_before f key) es) ≡ false → es ≡ without_entry key es)
      → (b : Bool) → stands_before e key ≡ b → begins_with key (cond b (behind (λ f. stands_before f key) es) (e ∷ es)) ≡ false → e ∷ es ≡ without_entry key (e ∷ es)
  by more true k h = ap (λ (l : List Entry). e ∷ l) (more h) ∙ sym (cond-true (not (is_eq (compared e key))) _ _ (ap not (other (compared e key) k)))
  by more false k h =
      let before : stands_before key e ≡ true = ordered.other_way compared compared_total e key (not_equal (compared e key) h) ∙ ap not k in
      sym (untouched key (e ∷ es) (before, ordered.all_goes_on compared compared_total key e es before o.0))

-- the first entry with a name

pub named_there : (parent : ItemId) (name : List ℕ) (zero_id : ItemId) (es r : List Entry) (x : Entry) → zero_id.0 ≡ 0 → InOrder stands_before es → behind (λ f. stands_before f (entry_at parent name zero_id)) es ≡ x ∷ r
    → cond (is_entry_of parent name x) (Some x.id) None ≡ entry_id (find (is_entry_of parent name) es)
named_there parent name zero_id [] r x z o h = let w : ◌≡◌ {A = List Entry} [] (x ∷ r) = h in cc
named_there parent name zero_id (e ∷ es) r x z o h = by (named_there parent name zero_id es r x z o.1) (stands_before e (entry_at parent name zero_id)) refl h where
  here : (b : Bool) → stands_before e (entry_at parent name zero_id) ≡ false → is_entry_of parent name e ≡ b → cond b (Some e.id) None ≡ entry_id (cond b (Some e) (find (is_entry_of parent name) es))
  here true k n = refl
  here false k n = ap entry_id (sym (none_named_after parent name zero_id e es k n o.0))

  by : (behind (λ f. stands_before f (entry_at parent name zero_id)) es ≡ x ∷ r → cond (is_entry_of parent name x) (Some x.id) None ≡ entry_id (find (is_entry_of parent name) es))
      → (b : Bool) → stands_before e (entry_at parent name zero_id) ≡ b → cond b (behind (λ f. stands_before f (entry_at parent name zero_id)) es) (e ∷ es) ≡ x ∷ r
      → cond (is_entry_of parent name x) (Some x.id) None ≡ entry_id (find (is_entry_of parent name) (e ∷ es))
  by more true k h = more h ∙ ap entry_id (sym (cond-false (is_entry_of parent name e) _ _ (not_named_before parent name zero_id e z k)))
  by more false k h =
      let same : x ≡ e = (let w : ◌≡◌ {A = List Entry} (e ∷ es) (x ∷ r) = h in cc) in
      ap (λ (v : Entry). cond (is_entry_of parent name v) (Some v.id) None) same ∙ here (is_entry_of parent name e) k refl

pub unnamed_there : (parent : ItemId) (name : List ℕ) (zero_id : ItemId) (es : List Entry) → zero_id.0 ≡ 0 → behind (λ f. stands_before f (entry_at parent name zero_id)) es ≡ [] → find (is_entry_of parent name) es ≡ None
unnamed_there parent name zero_id [] z h = refl
unnamed_there parent name zero_id (e ∷ es) z h = by (unnamed_there parent name zero_id es z) (stands_before e (entry_at parent name zero_id)) refl h where
  by : (behind (λ f. stands_before f (entry_at parent name zero_id)) es ≡ [] → find (is_entry_of parent name) es ≡ None)
      → (b : Bool) → stands_before e (entry_at parent name zero_id) ≡ b → cond b (behind (λ f. stands_before f (entry_at parent name zero_id)) es) (e ∷ es) ≡ [] → find (is_entry_of parent name) (e ∷ es) ≡ None
  by more true k h = cond-false (is_entry_of parent name e) _ _ (not_named_before parent name zero_id e z k) ∙ more h
  by more false k h = let w : ◌≡◌ {A = List Entry} (e ∷ es) [] = h in cc

-- the entries of a directory

pub children_there : (parent zero_id : ItemId) (es : List Entry) → zero_id.0 ≡ 0 → filter (is_entry_in parent) (behind (λ f. stands_before f (entry_at parent [] zero_id)) es) ≡ filter (is_entry_in parent) es
children_there parent zero_id [] z = refl
children_there parent zero_id (e ∷ es) z = by (children_there parent zero_id es z) (stands_before e (entry_at parent [] zero_id)) refl where
  by : filter (is_entry_in parent) (behind (λ f. stands_before f (entry_at parent [] zero_id)) es) ≡ filter (is_entry_in parent) es
      → (b : Bool) → stands_before e (entry_at parent [] zero_id) ≡ b → filter (is_entry_in parent) (cond b (behind (λ f. stands_before f (entry_at parent [] zero_id)) es) (e ∷ es)) ≡ filter (is_entry_in parent) (e ∷ es)
  by more true k = more ∙ sym (cond-false (is_entry_in parent e) _ _ (not_in_before parent zero_id e z k))
  by more false k = refl

-- entries from a place on, in order
pub record AreLeft (key : Entry) (es : List Entry) : Type 0 where
  pub order : InOrder stands_before es
  pub none : NonePass (λ f. stands_before f key) es

pub left_behind : (key : Entry) (es : List Entry) → InOrder stands_before es → AreLeft key (behind (λ f. stands_before f key) es)
left_behind key [] o = record { order = tt; none = tt }
left_behind key (e ∷ es) o = by (left_behind key es o.1) (stands_before e key) refl where
  by : AreLeft key (behind (λ f. stands_before f key) es) → (b : Bool) → stands_before e key ≡ b → AreLeft key (cond b (behind (λ f. stands_before f key) es) (e ∷ es))
  by more true k = more
  by more false k = record { order = o; none = (k, none_after key e es k o.0) }

pub left_after : (key e : Entry) (es : List Entry) → AreLeft key (e ∷ es) → AreLeft key es
left_after key e es l = record { order = l.order.1; none = l.none.1 }

pub no_more : (parent zero_id : ItemId) (e : Entry) (es : List Entry) → AreLeft (entry_at parent [] zero_id) (e ∷ es) → is_entry_in parent e ≡ false → filter (is_entry_in parent) (e ∷ es) ≡ []
no_more parent zero_id e es l i =
    cond-false (is_entry_in parent e) _ _ i
    ∙ none_in_after parent e es (higher e.parent.0 parent.0 (slice_cmp nat_cmp e.name []) (nat_cmp e.id.0 zero_id.0) l.none.0 i) l.order.0
