-- Each item of a settled device has one like it at another that is settled on the same remote.
use Rattle.std.proofs.Common.{◌≡◌, inl, inr, ℕ, Bool, true, false, List, [], ◌∷◌, refl, sym, ◌∙◌, ap, subst, length, eq-eqb}
use Rattle.std.specs.Prelude.{Option, Some, cond, count_by, filter, nat_lt, not, take, ◌&&◌, ◌||◌, ◌==◌}
use Rattle.std.specs.List.{list_all}
use Rattle.std.proofs.lemmas.Bool.{eqb-true}
use Rattle.std.proofs.lemmas.List.Sums.{length-filter}
use Rattle.cf_base.specs.declared.ids.Rid.{Rid}
use Rattle.cf_base.specs.declared.items.Kind.TheVariants as kind
use Rattle.cf_model.specs.Identities.{base_rid, base_version, has_target, identity_of, target_of}
use Rattle.cf_model.specs.Items.{Item, is_dirty, item_of, kind_of}
use Rattle.cf_model.specs.LookUp.{is_excluded}
use Rattle.cf_model.specs.Overlay.{Written}
use Rattle.cf_model.specs.Settled.{has_one_local, is_alike, is_latest, is_settled, is_settled_item, local_names, remote_names, same_names}
use Rattle.cf_model.specs.Skips.{in_use}
use Rattle.cf_model.specs.State.{State, book_now, items_now}
use Rattle.cf_model.specs.Store.{Stored, latest, stored_at}
use Rattle.cf_model.specs.Words.{is_empty, number_of, says}
use Rattle.std.specs.Bool.{beq}
use Rattle.cf_model_laws.specs.Invariant.{All, Among}
use Rattle.cf_model_laws.proofs.Gathered.{all_found}
use Rattle.cf_model_laws.proofs.RightItems.{no_way}
use Rattle.cf_model_laws.proofs.SoundSettles.{left_true, right_true}
use Rattle.cf_model_convergence.specs.Alike.{IsLikeTarget}
use Rattle.cf_model_convergence.specs.Matching.{IsBelow}
use Rattle.cf_model_convergence.proofs.FeedsTold.{all_among}
use Rattle.cf_model_convergence.proofs.KnownByTests.{neither, second}
use Rattle.cf_model_convergence.proofs.Lines.{one_some, same_rid}
use Rattle.cf_model_convergence.proofs.SettledBytes.{settled_like}
use Rattle.cf_model_convergence.proofs.SettledItems.{passed}
use Rattle.cf_model_convergence.proofs.TidyItems.{found_rid}
use Rattle.cf_pair_identities.proofs.NamedKinds.{not_so}
use Rattle.cf_pair_settled.specs.Settled.{IsOrderly, is_free, is_settled_whole}
use Rattle.cf_pair_settled.proofs.Identities.{IsSpelled, spelled, targeted}
use Rattle.cf_pair_settled.proofs.Paths.{no_names, same_list}

-- tests

-- one of the members passes
one_passes : {A : Type 0} (f : A → Bool) (xs : List A) → length (filter f xs) ≡ 1 → (x : A) × Among x xs × (f x ≡ true)
one_passes f [] e = absurd (none e) where
  none : ◌≡◌ {A = ℕ} 0 1 → ⊥
  none z = cc
one_passes f (x ∷ xs) e = by (f x) refl e (one_passes f xs) where
  by : (b : Bool) → f x ≡ b → length (cond b (x ∷ filter f xs) (filter f xs)) ≡ 1 → (length (filter f xs) ≡ 1 → (y : _) × Among y xs × (f y ≡ true)) → (y : _) × Among y (x ∷ xs) × (f y ≡ true)
  by true q z k = (x, inl refl, q)
  by false q z k = let y = k z in (y.0, inr y.1, y.2)

-- What stands for an item of the remote: its path, its kind and its identity are fixed by that.
pub record Shows (s : State) (r : Stored) (i : Item) : Type 0 where
  pub below : IsBelow s i
  pub names : local_names (items_now s) i.id ≡ remote_names s.link.remote r.rid
  pub kind : kind_of i ≡ cond r.directory kind.PlaceholderDir kind.PlaceholderFile
  pub identity : i.identity ≡ cond r.directory (spelled r.rid.0 0 0) (spelled r.rid.0 r.rid.0 (latest r))
  pub clean : (not i.directory && is_dirty i) ≡ false

-- a settled device

module _ (s : State) (o : IsOrderly s) (whole : is_settled_whole s ≡ true) where
  settled : is_settled true s ≡ true
  settled = left_true (is_settled true s) (list_all (is_free s) (items_now s)) whole

  front : (is_empty (book_now s).tombstones && list_all (is_settled_item s) (items_now s)) ≡ true
  front = left_true (is_empty (book_now s).tombstones && list_all (is_settled_item s) (items_now s)) (not true || list_all (has_one_local s) s.link.remote.items) settled

  settled_here : is_settled false s ≡ true
  settled_here = more (is_empty (book_now s).tombstones && list_all (is_settled_item s) (items_now s)) (list_all (has_one_local s) s.link.remote.items) front where
    more : (a b : Bool) → a ≡ true → (a && (not false || b)) ≡ true
    more true b e = refl
    more false b e = no_way e

  all_here : All (λ r. has_one_local s r ≡ true) s.link.remote.items
  all_here = passed (has_one_local s) s.link.remote.items (right_true (is_empty (book_now s).tombstones && list_all (is_settled_item s) (items_now s)) (not true || list_all (has_one_local s) s.link.remote.items) settled)

  abbrev Stands : Item → Type 0
  Stands i = item_of (items_now s) i.id ≡ Some i

  free : (i : Item) → Stands i → is_free s i ≡ true
  free i there = (all_found (λ j. is_free s j ≡ true) (λ j. j.id.0 == i.id.0) (items_now s) i there (passed (is_free s) (items_now s) (right_true (is_settled true s) (list_all (is_free s) (items_now s)) whole))).0

  not_excluded : (i : Item) → Stands i → is_excluded (items_now s) i.id ≡ false
  not_excluded i there = not_so (is_excluded (items_now s) i.id) (left_true (not (is_excluded (items_now s) i.id)) (not (in_use s i.id)) (free i there))

  not_in_use : (i : Item) → Stands i → in_use s i.id ≡ false
  not_in_use i there = not_so (in_use s i.id) (right_true (not (is_excluded (items_now s) i.id)) (not (in_use s i.id)) (free i there))

  full : (i : Item) → Stands i → i.directory ≡ true → i.populated ≡ true
  full i there dir = (o.named i.id i there).filled refl dir

  is_plain : (i : Item) → Stands i → i.placeholder ≡ false → i.identity ≡ []
  is_plain i there = (all_found (λ j. j.placeholder ≡ false → j.identity ≡ []) (λ j. j.id.0 == i.id.0) (items_now s) i there o.plain).0

  pub like : (i : Item) → IsBelow s i → IsLikeTarget s i
  like i below = settled_like s i settled_here below (not_excluded i below.0) (not_in_use i below.0)

  -- a file has the latest version of its target as its base
  latest_there : (i : Item) → (below : IsBelow s i) → i.directory ≡ false → is_latest i (like i below).stored ≡ true
  latest_there i below file =
      let r : Stored = (like i below).stored in
      let own : is_settled_item s i ≡ true = (all_found (λ j. is_settled_item s j ≡ true) (λ j. j.id.0 == i.id.0) (items_now s) i below.0 (passed (is_settled_item s) (items_now s) (right_true (is_empty (book_now s).tombstones) (list_all (is_settled_item s) (items_now s)) front))).0 in
      let both : (i.in_sync && says (is_alike s i) (stored_at s.link.remote.items (target_of i))) ≡ true = second ((i.id.0 == 1) || is_excluded (items_now s) i.id || in_use s i.id) _ own
      (neither ((i.id.0 == 1) || is_excluded (items_now s) i.id) (in_use s i.id) (neither (i.id.0 == 1) (is_excluded (items_now s) i.id) (λ z. below.1 (eqb-true i.id.0 1 z)) (λ z. no_way (sym (not_excluded i below.0) ∙ z))) (λ z. no_way (sym (not_in_use i below.0) ∙ z))) in
      let alike : is_alike s i r ≡ true = subst (λ (x : Option Stored). says (is_alike s i) x ≡ true) (like i below).found (right_true i.in_sync (says (is_alike s i) (stored_at s.link.remote.items (target_of i))) both) in
      second i.directory (is_latest i r) (right_true ((r.live && beq r.directory i.directory) && same_names (local_names (items_now s) i.id) (remote_names s.link.remote r.rid)) (i.directory || is_latest i r) alike) (λ d. no_way (sym file ∙ d))

  kind_as : (i : Item) → (i.directory ≡ true → i.populated ≡ true) → i.placeholder ≡ true → kind_of i ≡ cond i.directory kind.PlaceholderDir kind.PlaceholderFile
  kind_as i filled p = by i.directory i.populated i.placeholder filled p where
    by : (d f k : Bool) → (d ≡ true → f ≡ true) → k ≡ true → cond d (cond f (cond k kind.PlaceholderDir kind.Dir) kind.UnpopulatedDir) (cond k kind.PlaceholderFile kind.File) ≡ cond d kind.PlaceholderDir kind.PlaceholderFile
    by true true true e f = refl
    by false f true e g = refl
    by true false k e f = no_way (e refl)
    by d f false e g = no_way g

  pub shows : (i : Item) (below : IsBelow s i) → nat_lt 0 (target_of i).0 ≡ true → Shows s (like i below).stored i
  shows i below some = record {
    below = below;
    names = same_list (local_names (items_now s) i.id) (remote_names s.link.remote r.rid) (like i below).path;
    kind = kind_as i (full i below.0) sp.placeholder ∙ ap (λ (b : Bool). cond b kind.PlaceholderDir kind.PlaceholderFile) (sym (like i below).kind);
    identity = sp.identity ∙ identity i.directory refl;
    clean = clean i.directory refl;
  } where
    r : Stored
    r = (like i below).stored

    sp : IsSpelled i
    sp = targeted i below.1 (is_plain i below.0) (o.named i.id i below.0).identity some

    target : (target_of i).0 ≡ r.rid.0
    target = sym (found_rid s.link.remote.items (target_of i) r (like i below).found)

    identity : (d : Bool) → i.directory ≡ d → identity_of (target_of i) (base_rid i) (base_version i) ≡ cond r.directory (spelled r.rid.0 0 0) (spelled r.rid.0 r.rid.0 (latest r))
    identity true q =
        ap (λ (n : ℕ). spelled n (base_rid i).0 (base_version i).0) target ∙ ap (λ (n : ℕ). spelled r.rid.0 n (base_version i).0) (sp.bare q).0 ∙ ap (λ (n : ℕ). spelled r.rid.0 0 n) (sp.bare q).1
        ∙ ap (λ (b : Bool). cond b (spelled r.rid.0 0 0) (spelled r.rid.0 r.rid.0 (latest r))) (sym ((like i below).kind ∙ q))
    identity false q =
        let l : is_latest i r ≡ true = latest_there i below q in
        let rid : (base_rid i).0 ≡ r.rid.0 = eqb-true (base_rid i).0 r.rid.0 (right_true (not (is_dirty i)) ((base_rid i).0 == r.rid.0) (left_true (not (is_dirty i) && ((base_rid i).0 == r.rid.0)) ((base_version i).0 == latest r) l)) in
        let version : (base_version i).0 ≡ latest r = eqb-true (base_version i).0 (latest r) (right_true (not (is_dirty i) && ((base_rid i).0 == r.rid.0)) ((base_version i).0 == latest r) l) in
        ap (λ (n : ℕ). spelled n (base_rid i).0 (base_version i).0) target ∙ ap (λ (n : ℕ). spelled r.rid.0 n (base_version i).0) rid ∙ ap (λ (n : ℕ). spelled r.rid.0 r.rid.0 n) version
        ∙ ap (λ (b : Bool). cond b (spelled r.rid.0 0 0) (spelled r.rid.0 r.rid.0 (latest r))) (sym ((like i below).kind ∙ q))

    clean : (d : Bool) → i.directory ≡ d → (not i.directory && is_dirty i) ≡ false
    clean true q = ap (λ (b : Bool). not b && is_dirty i) q
    clean false q = ap (λ (b : Bool). not b && is_dirty i) q ∙ ap (λ (ws : List Written). not (is_empty ws)) ((like i below).clean q)

  -- a live item of the remote is an item here, below the root where that has a name
  pub shown_here : (r : Stored) → Among r s.link.remote.items → stored_at s.link.remote.items r.rid ≡ Some r → r.live ≡ true → (remote_names s.link.remote r.rid ≡ [] → ⊥) → (nat_lt 0 r.rid.0 ≡ true) × ((j : Item) × Among j (items_now s) × Shows s r j)
  shown_here r m there live name = placed some.1 (all_among (λ j. item_of (items_now s) j.id ≡ Some j) (items_now s) some.0 some.1 o.found) where
    count : count_by (λ j. has_target j r.rid) (items_now s) ≡ 1
    count = eqb-true (count_by (λ j. has_target j r.rid) (items_now s)) 1 (second (not r.live) (count_by (λ j. has_target j r.rid) (items_now s) == 1) (all_among (λ q. has_one_local s q ≡ true) s.link.remote.items r m all_here) (λ z. no_way (sym (ap (λ (b : Bool). not b) live) ∙ z)))

    some : (j : Item) × Among j (items_now s) × (has_target j r.rid ≡ true)
    some = one_passes (λ j. has_target j r.rid) (items_now s) (length-filter (λ j. has_target j r.rid) (items_now s) ∙ count)

    j : Item
    j = some.0

    lower : nat_lt 0 r.rid.0 ≡ true
    lower = left_true (nat_lt 0 r.rid.0) ((target_of j).0 == r.rid.0) some.2

    target : (target_of j).0 ≡ r.rid.0
    target = eqb-true (target_of j).0 r.rid.0 (right_true (nat_lt 0 r.rid.0) ((target_of j).0 == r.rid.0) some.2)

    below : j.id.0 ≡ 1 → ⊥
    below top = name (no_names s.link.remote r.rid (sym target ∙ ap (λ (b : Bool). (cond {A = Rid} b (record { 0 = 1 }) (record { 0 = number_of (take 8 j.identity) })).0) (eq-eqb j.id.0 1 top)))

    placed : Among j (items_now s) → Stands j → (nat_lt 0 r.rid.0 ≡ true) × ((k : Item) × Among k (items_now s) × Shows s r k)
    placed among stands =
        let is : (like j (stands, below)).stored ≡ r = one_some (stored_at s.link.remote.items (target_of j)) (like j (stands, below)).stored r (like j (stands, below)).found (subst (λ (rid : Rid). stored_at s.link.remote.items rid ≡ Some r) (sym (same_rid (target_of j) r.rid target)) there) in
        (lower, (j, among, subst (λ (q : Stored). Shows s q j) is (shows j (stands, below) (ap (λ (n : ℕ). nat_lt 0 n) target ∙ lower))))
