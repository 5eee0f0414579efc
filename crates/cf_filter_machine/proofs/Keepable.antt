-- A volume of which this holds can be written.
use Rattle.std.proofs.Common.{◌≡◌, ℕ, zero, suc, ◌+◌, ◌<◌, Bool, true, false, ◌&&◌, ◌||◌, not, cond, eqb, ltb, List, [], ◌∷◌, length, Option, Some, None, refl, sym, ◌∙◌, ap, subst, arith}
use Rattle.std.specs.Prelude.{◌==◌}
use Rattle.std.proofs.lemmas.Bool.{and_parts, eq-eqb, ltb-true, ne_eqb, true≢false}
use Rattle.std.proofs.lemmas.Bool.Decides.{nat_tests}
use Rattle.std.proofs.lemmas.Option.{same_Some}
use Rattle.cf_base.specs.declared.ids.ItemId.{ItemId}
use Rattle.cf_base.specs.declared.ids.Usn.{Usn}
use Rattle.cf_filter_machine.specs.Keeping.{IsKept, IsKeptVolume}
use Rattle.cf_volume_image.proofs.SoundRows.{has_place_is}
use Rattle.cf_model.specs.Books.{access_of, anchor_of}
use Rattle.cf_model.specs.Changes.{next_number}
use Rattle.cf_model.specs.Effects.{later_than}
use Rattle.cf_model.specs.Images.{runs_from, runs_of, writes_since}
use Rattle.cf_model.specs.Items.{Item, covered_flags, here_flags, is_here, is_modified, item_of, modified_flags}
use Rattle.cf_model.specs.Numbers.{above, usn_after}
use Rattle.cf_model.specs.Overlay.{Written, covers, is_covered}
use Rattle.cf_model.specs.Rows.{IsSoundRow, has_place, row_of}
use Rattle.cf_model.specs.Rows as model
use Rattle.cf_model.specs.Soundness.{AllSound, IsSound}
use Rattle.cf_model.specs.State.{Volume}
use Rattle.cf_model.specs.Words.{by_place, is_empty, passes_at}
use Rattle.cf_volume_points.specs.Sound.{IsKeepable, last_number}
use Rattle.cf_filter_steps.proofs.LookUps.{of_found}
use Rattle.cf_filter_steps.specs.Good.{IsSmall}
use Rattle.cf_table.proofs.RunsOf.{covered_at, held_flags, runs_of_contain}
use Rattle.cf_tree.proofs.Walks.{own_id}
use Rattle.cf_table.specs.Reading.{IsStored}

-- a number before the next is at most the last
pub below_last : (e p : ℕ) (n : Usn) → above (usn_after e p) n ≡ true → above n (record { epoch = e; place = p }) ≡ false
below_last e p n h = grind (arith, nat_tests)

-- the runs of flags

flag_at : (flags : List Bool) (p : ℕ) → has_place (runs_of flags) p ≡ passes_at (λ b. b) flags p
flag_at flags p = has_place_is (runs_of flags) p ∙ runs_of_contain flags p

here_at : (i : Item) (p : ℕ) → has_place (runs_of (here_flags i)) p ≡ is_here i p
here_at i p = flag_at (here_flags i) p ∙ held_flags i.held p

covered_place : (ws : List Written) (i : Item) (p : ℕ) → has_place (runs_of (covered_flags ws i)) p ≡ (ltb p (length i.held) && is_covered ws p)
covered_place ws i p = flag_at (covered_flags ws i) p ∙ covered_at (λ q. is_covered ws q) p i.held

passes_in : {A : Type 0} (f : A → Bool) (xs : List A) (p : ℕ) → passes_at f xs p ≡ true → p < length xs
passes_in f [] p h = absurd (true≢false (sym h))
passes_in f (x ∷ xs) zero h = omega arith
passes_in f (x ∷ xs) (suc p) h = let k = passes_in f xs p h in omega (arith, k)

pub fewer_cover : (n : Usn) (ws : List Written) (p : ℕ) → is_covered (later_than n ws) p ≡ true → is_covered ws p ≡ true
fewer_cover n [] p h = h
fewer_cover n (w ∷ ws) p h = by (above w.number n) (covers w p) refl h (fewer_cover n ws p)
  where
    by : (b c : Bool) → covers w p ≡ c → is_covered (cond b (w ∷ later_than n ws) (later_than n ws)) p ≡ true → (is_covered (later_than n ws) p ≡ true → is_covered ws p ≡ true) → (c || is_covered ws p) ≡ true
    by b true e k rest = refl
    by true false e k rest = rest (sym (ap (λ (x : Bool). x || is_covered (later_than n ws) p) e) ∙ k)
    by false false e k rest = rest k

no_flags : (at : ℕ) (held : List (Option ℕ)) (k : ℕ) → runs_from k (by_place (λ p h. is_covered [] p) at held) ≡ []
no_flags at [] k = refl
no_flags at (h ∷ hs) k = no_flags (at + 1) hs (k + 1)

none_written : (ws : List Written) → not (is_empty ws) ≡ false → ws ≡ []
none_written [] h = refl
none_written (w ∷ ws) h = absurd (true≢false h)

no_bytes : (flags : List Bool) (held : List (Option ℕ)) → length flags ≡ length held → held ≡ [] → flags ≡ []
no_bytes [] held e z = refl
no_bytes (f ∷ fs) held e z = absurd (let n : suc (length fs) ≡ 0 = e ∙ ap length z in omega (arith, n))

-- the row of an item

module _ (next : ItemId) (v : Volume) (i : Item) (sound : IsSound i) (small : IsSmall i) (kept : IsKept i) (below : i.id.0 < next.0) (number : above (next_number v) i.number ≡ true)
    (anchor : above (next_number v) (anchor_of v.book i.id) ≡ true) (access : i.directory ≡ true → access_of v.book i.id ≡ 0) where
  abbrev r : model.Row
  r = row_of v.book [] i

  since_modified : (p : ℕ) → has_place (runs_of (covered_flags (writes_since v.book i) i)) p ≡ true → has_place (runs_of (modified_flags i)) p ≡ true
  since_modified p h =
      let parts = and_parts (ltb p (length i.held)) (is_covered (writes_since v.book i) p) (sym (covered_place (writes_since v.book i) i p) ∙ h) in
      covered_place i.writes i p ∙ both (ltb p (length i.held)) (is_covered i.writes p) parts.0 (fewer_cover (anchor_of v.book i.id) i.writes p parts.1)
    where
      both : (a b : Bool) → a ≡ true → b ≡ true → (a && b) ≡ true
      both a b e f = ap (λ (x : Bool). x && b) e ∙ f

  modified_at : (p : ℕ) → has_place (runs_of (modified_flags i)) p ≡ is_modified i p
  modified_at p = covered_place i.writes i p

  bare : i.directory ≡ true → model.IsBare r
  bare d =
      let b = sound.directory d in
      let none = no_bytes i.valid i.held sound.as_long b.0 in record {
        size = ap length b.0;
        base = b.2;
        here = ap (λ (h : List (Option ℕ)). runs_of (here_flags (record i { held = h }))) b.0;
        valid = ap runs_of none;
        modified = ap (λ (h : List (Option ℕ)). runs_of (covered_flags i.writes (record i { held = h }))) b.0;
        modified_since = ap (λ (h : List (Option ℕ)). runs_of (covered_flags (writes_since v.book i) (record i { held = h }))) b.0;
        clean = (ap (λ (ws : List Written). not (is_empty ws)) b.1, ap (λ (ws : List Written). not (is_empty (later_than (anchor_of v.book i.id) ws))) b.1);
        keep = not_kept i.keep refl d;
        last = access d;
        placeholder = λ u. kept.unlisted d u;
      }
    where
      not_kept : (k : Bool) → i.keep ≡ k → i.directory ≡ true → k ≡ false
      not_kept false e d = refl
      not_kept true e d = absurd (true≢false (sym d ∙ sound.kept e))

  pub row_sound : IsSoundRow next (last_number v) (row_of v.book [] i)
  row_sound = record {
    id = below;
    numbers = (below_last v.epoch v.place i.number number, below_last v.epoch v.place (anchor_of v.book i.id) anchor);
    root_name = λ one. kept.top (eq-eqb i.id.0 1 one);
    name = λ other. small.name (ne_eqb i.id.0 1 other);
    lengths = (kept.identity, small.size, small.base);
    in_size = λ p h. passes_in _ i.held p (sym (here_at i p) ∙ h);
    valid = λ p h. here_at i p ∙ sound.valid p (sym (flag_at i.valid p) ∙ h);
    modified = λ p h. let parts = and_parts (ltb p (length i.held)) (is_covered i.writes p) (sym (modified_at p) ∙ h) in here_at i p ∙ kept.written p (ltb-true p (length i.held) parts.0) parts.1;
    modified_since = since_modified;
    past_base = λ p low high. modified_at p ∙ both (ltb p (length i.held)) (is_covered i.writes p) (lt high) (sound.past_base p low high);
    directory = bare;
    file = sound.file;
    plain = λ p. let s = sound.plain p in (s.0, s.2, s.3);
    in_sync = λ s. ap (λ (ws : List Written). not (is_empty ws)) (sound.in_sync s);
    clean = λ c. let none = none_written i.writes c in (
      ap (λ (ws : List Written). runs_of (covered_flags ws i)) none ∙ no_flags 0 i.held 0,
      ap (λ (ws : List Written). not (is_empty (later_than (anchor_of v.book i.id) ws))) none,
    );
  }
    where
      both : (a b : Bool) → a ≡ true → b ≡ true → (a && b) ≡ true
      both a b e f = ap (λ (x : Bool). x && b) e ∙ f

      lt : {p : ℕ} → p < length i.held → ltb p (length i.held) ≡ true
      lt {p} h = grind (arith, nat_tests)

all_found : (items : List Item) (id : ItemId) (i : Item) → AllSound items → item_of items id ≡ Some i → IsSound i
all_found [] id i h e = absurd (let z : ◌≡◌ {A = Option Item} None (Some i) = e in cc)
all_found (x ∷ xs) id i h e = by (eqb x.id.0 id.0) e (all_found xs id i h.1)
  where
    by : (t : Bool) → cond t (Some x) (item_of xs id) ≡ Some i → (item_of xs id ≡ Some i → IsSound i) → IsSound i
    by true q rest = subst IsSound (same_Some x i q) h.0
    by false q rest = rest q

pub keepable : (v : Volume) → IsKeptVolume v → IsKeepable v
keepable v h = record {
  rows = λ id i e.
      let own : id ≡ i.id = own_id v.items id i e in
      row_sound v.next_item v i (all_found v.items id i h.good.sound e) (of_found IsSmall (λ j. j.id.0 == id.0) v.items i h.good.small e) (of_found IsKept (λ j. j.id.0 == id.0) v.items i h.items e)
      (of_found (λ (j : Item). j.id.0 < v.next_item.0) (λ j. j.id.0 == id.0) v.items i h.good.below e) (of_found (λ (j : Item). above (next_number v) j.number ≡ true) (λ j. j.id.0 == id.0) v.items i h.given e)
      (h.book.anchors i.id) (λ d. h.book.accesses i.id i (subst (λ (k : ItemId). item_of v.items k ≡ Some i) own e) d);
  pins = λ id i e. of_found (λ i. IsStored i.pin) (λ j. j.id.0 == id.0) v.items i h.good.pins e;
  tree = h.good.tree;
  populated = h.good.opened;
}
