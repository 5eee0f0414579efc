-- What two devices have where their comparison says equal.
use Rattle.std.proofs.Common.{◌≡◌, ◌&&◌, ℕ, Bool, true, false, not, List, [], ◌∷◌, refl, sym, ap, ◌∙◌, subst}
use Rattle.std.specs.Prelude.{Option, Some, None}
use Rattle.cf_base.specs.declared.codes.Code.{Code}
use Rattle.cf_model.specs.Identities.{content}
use Rattle.cf_model.specs.Items.{Item, is_dirty}
use Rattle.cf_model.specs.Overlay.{Written}
use Rattle.cf_model.specs.State.{State, items_now}
use Rattle.cf_model.specs.Store.{Held}
use Rattle.cf_pair_compare.specs.First.{Agree, AgreeAt, IsFirst, row_at}
use Rattle.cf_pair_compare.specs.declared.path_rows.PathRow.{PathRow}
use Rattle.cf_pair_events.specs.declared.comparisons.Comparison.TheVariants as comparison
use Rattle.cf_pair_traces.specs.Pairs.{Compares, ComparesBy, no_comparison, path_row, path_rows}

none_differs : (o : Option Code) (as' bs : List PathRow) → ComparesBy o as' bs comparison.Equal → IsFirst as' bs None
none_differs None as' bs h = h
none_differs (Some c) as' bs h = absurd cc

pub trees_agree : (s t : State) (path : List ℕ) → Compares s t comparison.Equal → AgreeAt (path_rows s) (path_rows t) path
trees_agree s t path h = none_differs (no_comparison s.power t.power) (path_rows s) (path_rows t) h path

-- a clean file has no local writes
clean : (i : Item) → is_dirty i ≡ false → i.writes ≡ []
clean i h = one i.writes h where
  one : (ws : List Written) → is_dirty (record i { writes = ws }) ≡ false → ws ≡ []
  one [] e = refl
  one (w ∷ ws) e = let bad : true ≡ false = e in cc

file_clean : (directory dirty : Bool) → directory ≡ false → (not directory && dirty) ≡ false → dirty ≡ false
file_clean false dirty e h = h
file_clean true dirty e h = let bad : true ≡ false = e in cc

-- of the same identity, without local writes
same_content : (held : Held) (i j : Item) → i.identity ≡ j.identity → i.writes ≡ [] → j.writes ≡ [] → content held i ≡ content held j
same_content held i j e ni nj =
    ap (λ (ws : List Written). content held (record i { writes = ws })) (ni ∙ sym nj)
    ∙ ap (λ (identity : List ℕ). content held (record j { identity = identity })) e

pub contents_agree : (held : Held) (s t : State) (path : List ℕ) (i j : Item) → Compares s t comparison.Equal
    → row_at (path_rows s) path ≡ Some (path_row (items_now s) i) → row_at (path_rows t) path ≡ Some (path_row (items_now t) j)
    → i.directory ≡ false → j.directory ≡ false → content held i ≡ content held j
contents_agree held s t path i j h ri rj di dj =
    let both : Agree (Some (path_row (items_now s) i)) (Some (path_row (items_now t) j)) =
    subst (λ (o : Option PathRow). Agree (Some (path_row (items_now s) i)) o) rj (subst (λ (o : Option PathRow). Agree o (row_at (path_rows t) path)) ri (trees_agree s t path h)) in
    same_content held i j both.1 (clean i (file_clean i.directory (is_dirty i) di both.2)) (clean j (file_clean j.directory (is_dirty j) dj both.3))
