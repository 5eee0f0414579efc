-- What entries of the remote give: identities that name well.
use Rattle.std.proofs.Common.{◌≡◌, ◌⊎◌, ◌<◌, ◌≤◌, ◌+◌, ◌*◌, ◌/◌, ◌%◌, ℕ, Bool, true, false, List, [], ◌∷◌, refl, sym, ◌∙◌, ap, subst, inl, inr, arith, length, eq-eqb}
use Rattle.std.proofs.lemmas.Bool.{eqb-true}
use Rattle.std.specs.Prelude.{Option, Some, None, cond, filter, is_some, not, ◌==◌, ◌&&◌, ◌||◌, take, unwrap_or}
use Rattle.cf_base.specs.declared.ids.Rid.{Rid}
use Rattle.cf_base.specs.declared.ids.Version.{Version}
use Rattle.cf_base.specs.declared.items.Kind.TheVariants as kind
use Rattle.cf_base.specs.declared.messages.Entry.{Entry}
use Rattle.cf_base.specs.declared.policies.Policy.{Policy}
use Rattle.cf_model.specs.Contents.{base_named}
use Rattle.cf_model.specs.Effects.{is_directory, is_placeholder, size_made}
use Rattle.cf_model.specs.Growth.{IsCounted}
use Rattle.cf_model.specs.Identities.{by_target, entry_identity, identity_for, identity_of, no_identity}
use Rattle.cf_model.specs.Feeds.{kind_of_entry}
use Rattle.cf_model.specs.Fetching.{is_new, new_item_of}
use Rattle.cf_model.specs.Fits.{are_distinct, has_rid}
use Rattle.cf_model.specs.Items.{Item}
use Rattle.cf_model.specs.Numbers.{no_rid, no_version}
use Rattle.cf_model.specs.Operations.{entry_kind}
use Rattle.cf_model.specs.Plans.{is_full_population, placeholder_dir}
use Rattle.cf_model.specs.Store.{Held, bytes_of}
use Rattle.cf_model.specs.Words.{in_bytes, number_of}
use Rattle.cf_model_laws.specs.Fitting.{IsUnaimed, NamesWell, Populates}
use Rattle.cf_model_laws.specs.Invariant.{All, HasBase, HasEntry, HasNone, IsAimed, IsOfKind, rid_in, target_in, version_in}
use Rattle.cf_model_laws.specs.Premises.{IsSmall}
use Rattle.cf_model_laws.proofs.AimedTargets.{AreOthers, named_in, unaimed_unfound}
use Rattle.cf_model_laws.proofs.Gathered.{all_filter}
use Rattle.cf_model_laws.proofs.OperationsGuarded.{NewFits, dir_populates}
use Rattle.cf_model_laws.proofs.RemoteSteps.{kind_under}
use Rattle.cf_model_laws.proofs.RightItems.{no_way, no_way_back, none_named}

read_back : (n : ℕ) → n < 18446744073709551616 → number_of (in_bytes 8 n) ≡ n
read_back n h =
    let e7 : 0 + n / 72057594037927936 % 256 ≡ n / 72057594037927936 = omega (arith, h) in
    let e6 : n / 72057594037927936 * 256 + n / 281474976710656 % 256 ≡ n / 281474976710656 = omega arith in
    let e5 : n / 281474976710656 * 256 + n / 1099511627776 % 256 ≡ n / 1099511627776 = omega arith in
    let e4 : n / 1099511627776 * 256 + n / 4294967296 % 256 ≡ n / 4294967296 = omega arith in
    let e3 : n / 4294967296 * 256 + n / 16777216 % 256 ≡ n / 16777216 = omega arith in
    let e2 : n / 16777216 * 256 + n / 65536 % 256 ≡ n / 65536 = omega arith in
    let e1 : n / 65536 * 256 + n / 256 % 256 ≡ n / 256 = omega arith in
    let e0 : n / 256 * 256 + n / 1 % 256 ≡ n = omega arith in
    rw e7 (rw e6 (rw e5 (rw e4 (rw e3 (rw e2 (rw e1 e0))))))

abbrev rid_at : ℕ → Rid
rid_at n = record { 0 = n }

abbrev version_at : ℕ → Version
version_at n = record { 0 = n }

rid_read : (t b : Rid) (v : Version) → b.0 < 18446744073709551616 → ◌≡◌ {A = Rid} (rid_in (identity_of t b v)) b
rid_read t b v h = ap rid_at (read_back b.0 h)

version_read : (t b : Rid) (v : Version) → v.0 < 18446744073709551616 → ◌≡◌ {A = Version} (version_in (identity_of t b v)) v
version_read t b v h = ap version_at (read_back v.0 h)

-- a version that the remote has made
pub made_read : (r : Held) (t b : Rid) (v : Version) (bytes : List ℕ) → IsSmall r → bytes_of r b v ≡ Some bytes → bytes_of r (rid_in (identity_of t b v)) (version_in (identity_of t b v)) ≡ Some bytes
made_read r t b v bytes small e =
    ap (λ (x : Rid). bytes_of r x (version_in (identity_of t b v))) (rid_read t b v (small.1 b v bytes e).0) ∙ ap (λ (x : Version). bytes_of r b x) (version_read t b v (small.1 b v bytes e).1) ∙ e

pub made_named : (r : Held) (t b : Rid) (v : Version) (bytes : List ℕ) → IsSmall r → bytes_of r b v ≡ Some bytes → base_named r (identity_of t b v) ≡ bytes
made_named r t b v bytes small e = ap (λ (o : Option (List ℕ)). unwrap_or o []) (made_read r t b v bytes small e)

-- no version
zero_read : (t b : Rid) (v : Version) → v.0 ≡ 0 → (version_in (identity_of t b v)).0 ≡ 0
zero_read t b v e = ap (λ (n : ℕ). number_of (in_bytes 8 n)) e

pub dir_none : (t : Rid) → HasNone (identity_of t no_rid no_version)
dir_none t = (refl, refl)

pub none_none : HasNone no_identity
none_none = (refl, refl)

pub target_read : (t b : Rid) (v : Version) → t.0 < 18446744073709551616 → ◌≡◌ {A = Rid} (target_in (identity_of t b v)) t
target_read t b v h = ap rid_at (read_back t.0 h)

aimed_at : (r : Held) (d : Bool) (t b : Rid) (v : Version) → t.0 < 18446744073709551616 → IsOfKind r t d → (t.0 ≡ 1 → ⊥) → (d ≡ false → b.0 ≡ t.0) → IsAimed r d (identity_of t b v)
aimed_at r d t b v small kind low base =
    inr (subst (λ (x : Rid). IsOfKind r x d) (sym (target_read t b v small)) kind, λ file. ap (λ (x : Rid). x.0) (rid_read t b v (subst (λ (n : ℕ). n < 18446744073709551616) (sym (base file)) small)) ∙ base file ∙ sym (ap (λ (x : Rid). x.0) (target_read t b v small)), subst (λ (x : Rid). x.0 ≡ 1 → ⊥) (sym (target_read t b v small)) low)

-- an item of the remote has a small rid
pub small_rid : (r : Held) (t : Rid) (d : Bool) → IsCounted r → IsSmall r → IsOfKind r t d → t.0 < 18446744073709551616
small_rid r t d counted small kind = below t.0 (length r.items) (kind_under r.items t d counted kind) small.0 where
  below : (a b : ℕ) → a + 1 ≤ 1 + b → b < 18446744073709551616 → a < 18446744073709551616
  below a b h k = omega (arith, h, k)

pub dir_well : (r : Held) (t : Rid) (p : Bool) → t.0 < 18446744073709551616 → IsOfKind r t true → (t.0 ≡ 1 → ⊥) → NamesWell r true p (identity_of t no_rid no_version)
dir_well r t p small kind low = record { based = inl refl; aimed = aimed_at r true t no_rid no_version small kind low (λ e. no_way_back e); bare = λ e. dir_none t; plain = λ e. no_way_back e }

pub file_well : (r : Held) (t : Rid) (v : Version) → t.0 < 18446744073709551616 → IsOfKind r t false → (t.0 ≡ 1 → ⊥) → HasBase r (identity_of t t v) → NamesWell r false true (identity_of t t v)
file_well r t v small kind low h = record { based = h; aimed = aimed_at r false t t v small kind low (λ e. refl); bare = λ e. no_way e; plain = λ e f. no_way_back f }

-- of an entry

abbrev Wants : Held → Bool → Bool → ℕ → List ℕ → Type 0
Wants r d p size i = (length (base_named r i) ≡ size) × NamesWell r d p i

below : (a b : ℕ) → a ≤ b → b < 18446744073709551616 → a < 18446744073709551616
below a b h k = omega (arith, h, k)

pub file_wants : (r : Held) (e : Entry) → IsSmall r → HasEntry r e → (e.rid.0 ≡ 1 → ⊥) → e.dir ≡ false → Wants r false true e.len (entry_identity e)
file_wants r e small h low file = subst (λ (i : List ℕ). Wants r false true e.len i) (ap (λ (b : Bool). identity_for b e.rid e.version) (sym file)) (by (h.2 file)) where
  small_one : e.rid.0 < 18446744073709551616
  small_one = below e.rid.0 (length r.items) h.1 small.0

  is_file : IsOfKind r e.rid false
  is_file = subst (λ (d : Bool). IsOfKind r e.rid d) file h.3

  by : ((e.version.0 ≡ 0) × (e.len ≡ 0)) ⊎ ((bytes : List ℕ) × (bytes_of r e.rid e.version ≡ Some bytes) × (length bytes ≡ e.len)) → Wants r false true e.len (identity_of e.rid e.rid e.version)
  by (inl k) = (ap (λ (bs : List ℕ). length bs) (none_named r (identity_of e.rid e.rid e.version) (zero_read e.rid e.rid e.version k.0)) ∙ sym k.1, file_well r e.rid e.version small_one is_file low (inl (zero_read e.rid e.rid e.version k.0)))
  by (inr k) = (ap (λ (bs : List ℕ). length bs) (made_named r e.rid e.rid e.version k.0 small k.1) ∙ k.2, file_well r e.rid e.version small_one is_file low (inr (k.0, made_read r e.rid e.rid e.version k.0 small k.1)))

pub entry_dir_well : (r : Held) (e : Entry) (p : Bool) → IsSmall r → HasEntry r e → (e.rid.0 ≡ 1 → ⊥) → e.dir ≡ true → NamesWell r true p (identity_of e.rid no_rid no_version)
entry_dir_well r e p small h low dir = dir_well r e.rid p (below e.rid.0 (length r.items) h.1 small.0) (subst (λ (d : Bool). IsOfKind r e.rid d) dir h.3) low

pub dir_identity : (e : Entry) → e.dir ≡ true → entry_identity e ≡ identity_of e.rid no_rid no_version
dir_identity e dir = ap (λ (b : Bool). identity_for b e.rid e.version) dir

dir_wants : (r : Held) (e : Entry) → IsSmall r → HasEntry r e → (e.rid.0 ≡ 1 → ⊥) → e.dir ≡ true → Wants r true true 0 (entry_identity e)
dir_wants r e small h low dir = subst (λ (i : List ℕ). Wants r true true 0 i) (sym (dir_identity e dir)) (ap (λ (bs : List ℕ). length bs) (none_named r (identity_of e.rid no_rid no_version) (dir_none e.rid).1), dir_well r e.rid true (below e.rid.0 (length r.items) h.1 small.0) (subst (λ (d : Bool). IsOfKind r e.rid d) dir h.3) low)

dir_kind : (r : Held) (i : List ℕ) (full : Bool) (size : ℕ) → Wants r true true 0 i
    → (length (base_named r i) ≡ size_made (cond full kind.UnpopulatedDir kind.PlaceholderDir) size) × NamesWell r (is_directory (cond full kind.UnpopulatedDir kind.PlaceholderDir)) (is_placeholder (cond full kind.UnpopulatedDir kind.PlaceholderDir)) i
dir_kind r i true size h = h
dir_kind r i false size h = h

-- the first 8 bytes of an entry's identity name its item
entry_target : (e : Entry) → e.rid.0 < 18446744073709551616 → number_of (take 8 (entry_identity e)) ≡ e.rid.0
entry_target e h = by e.dir where
  by : (d : Bool) → number_of (take 8 (identity_for d e.rid e.version)) ≡ e.rid.0
  by true = read_back e.rid.0 h
  by false = read_back e.rid.0 h

some_target : (r : Held) (e : Entry) → IsSmall r → HasEntry r e → (number_of (take 8 (entry_identity e)) == 0) ≡ false
some_target r e small h = subst (λ (n : ℕ). (n == 0) ≡ false) (sym (entry_target e (below e.rid.0 (length r.items) h.1 small.0))) (positive e.rid.0 h.0) where
  positive : (n : ℕ) → 1 ≤ n → (n == 0) ≡ false
  positive n h = one (n == 0) refl where
    one : (b : Bool) → (n == 0) ≡ b → b ≡ false
    one true q = let z : n ≡ 0 = eqb-true n 0 q in absurd (omega (arith, z, h))
    one false q = refl

pub entry_populates : (p : Policy) (e : Entry) → Populates p (kind_of_entry p e)
entry_populates p e = by e.dir where
  by : (d : Bool) → Populates p (cond d (placeholder_dir p) kind.PlaceholderFile)
  by true = dir_populates p
  by false = tt

pub new_fits : (r : Held) (p : Policy) (e : Entry) → IsSmall r → HasEntry r e → (e.rid.0 ≡ 1 → ⊥) → NewFits r p (new_item_of e)
new_fits r p e small h low = let k = by e.dir refl in (k.0, k.1, some_target r e small h) where
  by : (d : Bool) → e.dir ≡ d → (length (base_named r (entry_identity e)) ≡ size_made (entry_kind p d) (cond d 0 e.len)) × NamesWell r (is_directory (entry_kind p d)) (is_placeholder (entry_kind p d)) (entry_identity e)
  by true q = dir_kind r (entry_identity e) (is_full_population p.population) 0 (dir_wants r e small h low q)
  by false q = file_wants r e small h low q

pub make_fits : (r : Held) (p : Policy) (e : Entry) → IsSmall r → HasEntry r e → (e.rid.0 ≡ 1 → ⊥) → (length (base_named r (entry_identity e)) ≡ size_made (kind_of_entry p e) (cond e.dir 0 e.len)) × NamesWell r (is_directory (kind_of_entry p e)) (is_placeholder (kind_of_entry p e)) (entry_identity e)
make_fits r p e small h low = by e.dir refl where
  by : (d : Bool) → e.dir ≡ d → (length (base_named r (entry_identity e)) ≡ size_made (cond d (placeholder_dir p) kind.PlaceholderFile) (cond d 0 e.len)) × NamesWell r (is_directory (cond d (placeholder_dir p) kind.PlaceholderFile)) (is_placeholder (cond d (placeholder_dir p) kind.PlaceholderFile)) (entry_identity e)
  by true q = dir_kind r (entry_identity e) (is_full_population p.population) 0 (dir_wants r e small h low q)
  by false q = file_wants r e small h low q

pub entry_small : (r : Held) (e : Entry) → IsSmall r → HasEntry r e → e.rid.0 < 18446744073709551616
entry_small r e small h = below e.rid.0 (length r.items) h.1 small.0

pub entry_target_in : (e : Entry) → e.rid.0 < 18446744073709551616 → ◌≡◌ {A = Rid} (target_in (entry_identity e)) e.rid
entry_target_in e h = ap rid_at (entry_target e h)

-- The new entries of a listing are of no item that is here, and no two are of one.
pub others_told : (r : Held) (items : List Item) (es : List Entry) → IsSmall r → All (HasEntry r) es → are_distinct es ≡ true → AreOthers items (filter (is_new items) es)
others_told r items [] small has apart = tt
others_told r items (e ∷ es) small has apart = by (by_target items e.rid) refl (others_told r items es small has.1 (right (not (has_rid e.rid es)) (are_distinct es) apart)) where
  right : (a b : Bool) → (a && b) ≡ true → b ≡ true
  right true b z = z
  right false b z = no_way z

  left : (a b : Bool) → (not a && b) ≡ true → a ≡ false
  left true b z = no_way z
  left false b z = refl

  same : named_in e ≡ e.rid
  same = entry_target_in e (entry_small r e small has.0)

  differ : (es : List Entry) → All (HasEntry r) es → has_rid e.rid es ≡ false → All (λ d. (named_in e).0 ≡ (named_in d).0 → (named_in d).0 ≡ 0) es
  differ [] k z = tt
  differ (d ∷ ds) k z = one (d.rid.0 == e.rid.0) refl z (differ ds k.1) where
    one : (b : Bool) → (d.rid.0 == e.rid.0) ≡ b → (b || has_rid e.rid ds) ≡ false → (has_rid e.rid ds ≡ false → All (λ g. (named_in e).0 ≡ (named_in g).0 → (named_in g).0 ≡ 0) ds) → All (λ g. (named_in e).0 ≡ (named_in g).0 → (named_in g).0 ≡ 0) (d ∷ ds)
    one true q z more = no_way_back z
    one false q z more = (
      λ y. no_way (sym q ∙ eq-eqb d.rid.0 e.rid.0 (ap (λ (x : Rid). x.0) (sym (entry_target_in d (entry_small r d small k.0))) ∙ sym y ∙ ap (λ (x : Rid). x.0) same)),
      more z,
    )

  by : (o : Option Item) → by_target items e.rid ≡ o → AreOthers items (filter (is_new items) es) → AreOthers items (cond (not (is_some o)) (e ∷ filter (is_new items) es) (filter (is_new items) es))
  by (Some i) f k = k
  by None f k = (
    subst (IsUnaimed items) (sym same) (unaimed_unfound items e.rid f),
    all_filter (λ d. (named_in e).0 ≡ (named_in d).0 → (named_in d).0 ≡ 0) (is_new items) es (differ es has.1 (left (has_rid e.rid es) (are_distinct es) apart)),
    k,
  )
