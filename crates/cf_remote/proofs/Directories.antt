-- Each item but the root stands in a directory, so that no item is below a file.
use Rattle.std.proofs.Common.{◌≡◌, inl, inr, ℕ, zero, suc, ◌+◌, ◌-◌, ◌≤◌, Bool, true, false, cond, List, [], ◌∷◌, ◌++◌, length, map, max, refl, sym, ap, ◌∙◌, arith, ◌==◌, ◌||◌, ◌&&◌}
use Rattle.std.specs.Prelude.{Option, Some, None, filter}
use Rattle.std.specs.List.{list_any}
use Rattle.std.proofs.lemmas.Bool.{eqb-true}
use Rattle.cf_base.specs.declared.ids.Rid.{Rid}
use Rattle.cf_model.specs.Growth.{CountsFrom}
use Rattle.cf_model.specs.Store.{Stored, ancestors, at_rid, latest, stored_at, trimmed}
use Rattle.cf_model.specs.Words.{greatest, says}
use Rattle.cf_remote.specs.Held.{grown}
use Rattle.cf_remote.specs.Depths.{deepest, depth_in, is_under_in}
use Rattle.cf_remote.specs.Order.{Has, StandInDirectories}
use Rattle.cf_remote.proofs.Members.{has_stored, map_has, more_has, stored_has}

abbrev is_directory : Stored → Bool
is_directory s = s.directory

-- a change that leaves which item is a directory

module _ (f : Stored → Stored) (rids : (s : Stored) → (f s).rid ≡ s.rid) (kinds : (s : Stored) → (f s).directory ≡ s.directory) where
  pub still_directory : (ss : List Stored) (rid : Rid) → says is_directory (stored_at (map f ss) rid) ≡ says is_directory (stored_at ss rid)
  still_directory [] rid = refl
  still_directory (s ∷ ss) rid =
      ap (λ (r : Rid). says is_directory (cond (r.0 == rid.0) (Some (f s)) (stored_at (map f ss) rid))) (rids s) ∙ one (s.rid.0 == rid.0) (still_directory ss rid) where
        one : (b : Bool) → says is_directory (stored_at (map f ss) rid) ≡ says is_directory (stored_at ss rid)
            → says is_directory (cond b (Some (f s)) (stored_at (map f ss) rid)) ≡ says is_directory (cond b (Some s) (stored_at ss rid))
        one true h = kinds s
        one false h = h

  -- and that moves items into directories alone
  pub directories_mapped : (items : List Stored) → StandInDirectories items
      → ((s : Stored) → Has items s → says is_directory (stored_at items s.parent) ≡ true → says is_directory (stored_at items (f s).parent) ≡ true) → StandInDirectories (map f items)
  directories_mapped items is into s h other =
      let t = map_has f items s h in
      let same : s.rid ≡ t.0.rid = ap (λ (x : Stored). x.rid) t.2 ∙ rids t.0 in
      still_directory items s.parent
      ∙ ap (λ (x : Stored). says is_directory (stored_at items x.parent)) t.2
      ∙ into t.0 t.1 (is t.0 t.1 (ap (λ (r : Rid). r.0 == 1) (sym same) ∙ other))

-- one item that changes

pub one_directory : (rid : Rid) (f : Stored → Stored) → ((s : Stored) → (f s).directory ≡ s.directory) → (s : Stored) → (cond (s.rid.0 == rid.0) (f s) s).directory ≡ s.directory
one_directory rid f k s = one (s.rid.0 == rid.0) where
  one : (b : Bool) → (cond b (f s) s).directory ≡ s.directory
  one true = k s
  one false = refl

one_rid : (rid : Rid) (f : Stored → Stored) → ((s : Stored) → (f s).rid ≡ s.rid) → (s : Stored) → (cond (s.rid.0 == rid.0) (f s) s).rid ≡ s.rid
one_rid rid f k s = one (s.rid.0 == rid.0) where
  one : (b : Bool) → (cond b (f s) s).rid ≡ s.rid
  one true = k s
  one false = refl

-- where it goes into a directory, or stays where it is
pub directories_at : (items : List Stored) (rid : Rid) (f : Stored → Stored) → ((s : Stored) → (f s).rid ≡ s.rid) → ((s : Stored) → (f s).directory ≡ s.directory) → StandInDirectories items
    → ((s : Stored) → says is_directory (stored_at items s.parent) ≡ true → says is_directory (stored_at items (f s).parent) ≡ true) → StandInDirectories (at_rid rid f items)
directories_at items rid f rids kinds is into =
    directories_mapped (λ s. cond (s.rid.0 == rid.0) (f s) s) (one_rid rid f rids) (one_directory rid f kinds) items is (λ s h k. one s (s.rid.0 == rid.0) k) where
      one : (s : Stored) (b : Bool) → says is_directory (stored_at items s.parent) ≡ true → says is_directory (stored_at items (cond b (f s) s).parent) ≡ true
      one s true k = into s k
      one s false k = k

-- how many versions are held leaves it

pub trimmed_kinds : (keep : Option ℕ) (s : Stored) → (trimmed keep s).directory ≡ s.directory
trimmed_kinds None s = refl
trimmed_kinds (Some count) s = one s.directory (record s { least = max s.least (latest s + 1 - count) }) refl where
  one : (b : Bool) (t : Stored) → t.directory ≡ s.directory → (cond b s t).directory ≡ s.directory
  one true t e = refl
  one false t e = e

pub grown_kinds : (keep : Option ℕ) (bytes : List ℕ) (clock : ℕ) (s : Stored) → (grown keep bytes clock s).directory ≡ s.directory
grown_kinds keep bytes clock s = trimmed_kinds keep (record s { versions = s.versions ++ bytes ∷ []; changed = clock })

-- one item more

more_directory : (ss : List Stored) (t : Stored) (rid : Rid) → says is_directory (stored_at ss rid) ≡ true → says is_directory (stored_at (ss ++ t ∷ []) rid) ≡ true
more_directory [] t rid e = cc
more_directory (s ∷ ss) t rid e = one (s.rid.0 == rid.0) (more_directory ss t rid) e where
  one : (b : Bool) → (says is_directory (stored_at ss rid) ≡ true → says is_directory (stored_at (ss ++ t ∷ []) rid) ≡ true)
      → says is_directory (cond b (Some s) (stored_at ss rid)) ≡ true → says is_directory (cond b (Some s) (stored_at (ss ++ t ∷ []) rid)) ≡ true
  one true h k = k
  one false h k = h k

pub directories_more : (items : List Stored) (t : Stored) → StandInDirectories items → says is_directory (stored_at items t.parent) ≡ true → StandInDirectories (items ++ t ∷ [])
directories_more items t is inside s h other = elim (more_has items t s h) [
  | inl k ↦ more_directory items t s.parent (is s k other)
  | inr e ↦ more_directory items t s.parent (ap (λ (x : Stored). says is_directory (stored_at items x.parent)) e ∙ inside)
]

-- nothing is below a file

module _ (items : List Stored) (counted : CountsFrom 1 items) (is : StandInDirectories items) (rid : Rid) (file : says is_directory (stored_at items rid) ≡ false) where
  contrary : (b : Bool) → b ≡ true → b ≡ false → ⊥
  contrary b h k = let z : true ≡ false = sym h ∙ k in cc

  not_so : (b : Bool) → (b ≡ true → ⊥) → b ≡ false
  not_so true h = absurd (h refl)
  not_so false h = refl

  -- a directory is another
  is_other : (x : Rid) (t : Stored) → stored_at items x ≡ Some t → t.directory ≡ true → (t.rid.0 == rid.0) ≡ false
  is_other x t e d = not_so (t.rid.0 == rid.0) (λ same.
      let here = has_stored items x t e in
      let at : t.rid ≡ rid = let n : t.rid.0 ≡ rid.0 = eqb-true t.rid.0 rid.0 same in rid_of t.rid rid n in
      contrary (says is_directory (stored_at items rid)) (ap (λ (r : Rid). says is_directory (stored_at items r)) (sym at) ∙ ap (says is_directory) (stored_has 1 items counted t here.0) ∙ d) file) where
        rid_of : (a b : Rid) → a.0 ≡ b.0 → a ≡ b
        rid_of a b e = ap (λ (n : ℕ). record { 0 = n }) e

  none_above : (fuel : ℕ) (x : Rid) → says is_directory (stored_at items x) ≡ true → list_any (λ r. r == rid.0) (ancestors fuel items (stored_at items x)) ≡ false
  none_above zero x d = refl
  none_above (suc fuel) x d = one (stored_at items x) refl d (λ y. none_above fuel y) where
    one : (o : Option Stored) → stored_at items x ≡ o → says is_directory o ≡ true
        → ((y : Rid) → says is_directory (stored_at items y) ≡ true → list_any (λ r. r == rid.0) (ancestors fuel items (stored_at items y)) ≡ false)
        → list_any (λ r. r == rid.0) (ancestors (suc fuel) items o) ≡ false
    one None e k rest = refl
    one (Some t) e k rest = root (t.rid.0 == 1) refl where
      root : (b : Bool) → (t.rid.0 == 1) ≡ b → list_any (λ r. r == rid.0) (cond b [] (t.rid.0 ∷ ancestors fuel items (stored_at items t.parent))) ≡ false
      root true f = refl
      root false f = rw (is_other x t e k) (rest t.parent (is t (has_stored items x t e).0 f))

  -- what is under it is itself
  alone : (s : Stored) → Has items s → is_under_in items s.rid rid ≡ true → s.rid.0 ≡ rid.0
  alone s h under = from (length items) (rw (stored_has 1 items counted s h) at under) where
    from : (fuel : ℕ) → list_any (λ r. r == rid.0) (ancestors fuel items (Some s)) ≡ true → s.rid.0 ≡ rid.0
    from zero k = let z : false ≡ true = k in absurd cc
    from (suc fuel) k = root (s.rid.0 == 1) refl k where
      root : (b : Bool) → (s.rid.0 == 1) ≡ b → list_any (λ r. r == rid.0) (cond b [] (s.rid.0 ∷ ancestors fuel items (stored_at items s.parent))) ≡ true → s.rid.0 ≡ rid.0
      root true f j = let z : false ≡ true = j in absurd cc
      root false f j = first (s.rid.0 == rid.0) refl j where
        first : (c : Bool) → (s.rid.0 == rid.0) ≡ c → (c || list_any (λ r. r == rid.0) (ancestors fuel items (stored_at items s.parent))) ≡ true → s.rid.0 ≡ rid.0
        first true g i = eqb-true s.rid.0 rid.0 g
        first false g i = absurd (contrary _ i (none_above fuel s.parent (is s h f)))

  no_deeper : (ss : List Stored) → ((s : Stored) → Has ss s → Has items s) → deepest items rid ss ≤ depth_in items rid
  no_deeper [] within = omega arith
  no_deeper (s ∷ ss) within = one (s.live && is_under_in items s.rid rid) refl (no_deeper ss (λ t h. within t (inr h))) where
    under : (a b : Bool) → (a && b) ≡ true → b ≡ true
    under true b h = h
    under false b h = let z : false ≡ true = h in cc

    one : (b : Bool) → (s.live && is_under_in items s.rid rid) ≡ b → deepest items rid ss ≤ depth_in items rid
        → greatest (map (λ t. depth_in items t.rid) (cond b (s ∷ filter (λ t. t.live && is_under_in items t.rid rid) ss) (filter (λ t. t.live && is_under_in items t.rid rid) ss))) ≤ depth_in items rid
    one true e rest =
        let n : s.rid.0 ≡ rid.0 = alone s (within s (inl refl)) (under s.live (is_under_in items s.rid rid) e) in
        let d : depth_in items s.rid ≡ depth_in items rid = ap (λ (k : ℕ). depth_in items (record { 0 = k })) n in
        omega (arith, d, rest)
    one false e rest = rest

  pub no_height : 0 ≡ deepest items rid items - depth_in items rid
  no_height = let h = no_deeper items (λ s k. k) in omega (arith, h)
