-- The extents of a file row, before its blocks are staged and after the last one is dropped.
use Rattle.std.proofs.Common.{◌≡◌, inl, inr, ℕ, zero, suc, ◌+◌, ◌*◌, ◌/◌, ◌%◌, ◌<◌, ◌≤◌, Bool, true, false, ◌||◌, cond, eqb, List, [], ◌∷◌, length, map, refl, sym, ◌∙◌, ap, subst, arith, Option, Some, None}
use Rattle.std.specs.Prelude.{◌≢◌, slice_get, filter}
use Rattle.std.proofs.lemmas.Bool.{cases_eq, cases_order, cond-true, cond-false, eq-eqb, eqb-true, ne_eqb, true≢false}
use Rattle.std.proofs.lemmas.Option.{none-some, same_Some}
use Rattle.cf_base.specs.declared.ids.ItemId.{ItemId}
use Rattle.cf_volume_blocks.proofs.Elsewhere.{among_holding, block_holds, no_block, none_held}
use Rattle.cf_volume_blocks.proofs.Laid.{is_here}
use Rattle.cf_volume_blocks.specs.Bytes.{HoldsBlock, has_at, holds_at, is_among}
use Rattle.cf_clusters.specs.declared.uses.Use.{Use}
use Rattle.cf_model.specs.Blocks.{block_has_byte, blocks_holding, blocks_in}
use Rattle.cf_model.specs.Books.{Book}
use Rattle.cf_model.specs.Items.{Item, is_held}
use Rattle.cf_model.specs.Rows.{Extent}
use Rattle.cf_model.specs.Standing.{HoldAll, HoldsByte}
use Rattle.cf_model.specs.Words.{counting}
use Rattle.cf_volume_points.specs.Clusters.{Owns, clusters_in_rows, times}
use Rattle.cf_volume_points.specs.Holding.{HoldsRow}
use Rattle.cf_volume_points.specs.Staging.{AreBlocks, names}
use Rattle.cf_volume_points.proofs.RowChanges.{named_by, rest_of, times_split}
use Rattle.cf_ranges.specs.Pairs.{IsRising, IsRisingFrom, cluster_at}
use Rattle.cf_table.specs.Spelling.{extent_of}
use Rattle.cf_table.specs.Tables.{RisesFrom, row_of}
use Rattle.cf_table.specs.declared.rows.Row.{Row}

-- tests and look-ups say the same

held_get : (held : List (Option ℕ)) (p v : ℕ) → holds_at held p v ≡ true → slice_get held p ≡ Some (Some v)
held_get [] p v e = absurd (true≢false (sym e))
held_get (None ∷ hs) zero v e = absurd (true≢false (sym e))
held_get (Some b ∷ hs) zero v e = ap (λ (n : ℕ). Some (Some n)) (eqb-true b v e)
held_get (h ∷ hs) (suc p) v e = held_get hs p v e

get_held : (held : List (Option ℕ)) (p v : ℕ) → slice_get held p ≡ Some (Some v) → holds_at held p v ≡ true
get_held [] p v e = absurd (none-some (Some v) e)
get_held (None ∷ hs) zero v e = absurd (none-some v (same_Some None (Some v) e))
get_held (Some b ∷ hs) zero v e = eq-eqb b v (same_Some b v (same_Some (Some b) (Some v) e))
get_held (h ∷ hs) (suc p) v e = get_held hs p v e

has_get : (bytes : List ℕ) (q v : ℕ) → has_at bytes q v ≡ true → slice_get bytes q ≡ Some v
has_get [] q v e = absurd (true≢false (sym e))
has_get (b ∷ bs) zero v e = ap (λ (n : ℕ). Some n) (eqb-true b v e)
has_get (b ∷ bs) (suc q) v e = has_get bs q v e

get_has : (bytes : List ℕ) (q v : ℕ) → slice_get bytes q ≡ Some v → has_at bytes q v ≡ true
get_has [] q v e = absurd (none-some v e)
get_has (b ∷ bs) zero v e = eq-eqb b v (same_Some b v e)
get_has (b ∷ bs) (suc q) v e = get_has bs q v e

block_from : (cluster : ℕ → List ℕ) (held : List (Option ℕ)) (e : Extent) → HoldsByte cluster held e → HoldsBlock held e.block (cluster e.cluster)
block_from cluster held e h q v low is =
    let at : (4096 * e.block + q) / 4096 ≡ e.block = omega (arith, low) in
    let rest : (4096 * e.block + q) % 4096 ≡ q = omega (arith, low) in
    get_has (cluster e.cluster) q v (subst (λ (n : ℕ). slice_get (cluster e.cluster) n ≡ Some v) rest (h (4096 * e.block + q) v at (held_get held (4096 * e.block + q) v is)))

from_block : (cluster : ℕ → List ℕ) (held : List (Option ℕ)) (e : Extent) → HoldsBlock held e.block (cluster e.cluster) → HoldsByte cluster held e
from_block cluster held e h p v at is =
    let low : p % 4096 < 4096 = omega arith in
    let place : 4096 * e.block + p % 4096 ≡ p = omega (arith, at) in
    has_get (cluster e.cluster) (p % 4096) v (h (p % 4096) v low (subst (λ (n : ℕ). holds_at held n v ≡ true) (sym place) (get_held held p v is)))

pub hold_at : (cluster : ℕ → List ℕ) (held : List (Option ℕ)) (es : List (ℕ × ℕ)) (b k : ℕ) → HoldAll cluster held (map extent_of es) → cluster_at es b ≡ Some k → HoldsBlock held b (cluster k)
hold_at cluster held [] b k h e = absurd (none-some k e)
hold_at cluster held (p ∷ ps) b k h e = by (eqb p.0 b) refl e (hold_at cluster held ps b k h.1)
  where
    by : (t : Bool) → eqb p.0 b ≡ t → cond t (Some p.1) (cluster_at ps b) ≡ Some k → (cluster_at ps b ≡ Some k → HoldsBlock held b (cluster k)) → HoldsBlock held b (cluster k)
    by true s f rest = subst (λ (j : ℕ). HoldsBlock held b (cluster j)) (same_Some p.1 k f) (subst (λ (n : ℕ). HoldsBlock held n (cluster p.1)) (eqb-true p.0 b s) (block_from cluster held (extent_of p) h.0))
    by false s f rest = rest f

-- all extents hold their blocks
pub all_hold : (cluster : ℕ → List ℕ) (held : List (Option ℕ)) (low : ℕ) (es : List (ℕ × ℕ)) → IsRisingFrom low es → ((b k : ℕ) → cluster_at es b ≡ Some k → HoldsBlock held b (cluster k)) → HoldAll cluster held (map extent_of es)
all_hold cluster held low [] r h = tt
all_hold cluster held low (e ∷ es) r h = (
  from_block cluster held (extent_of e) (h e.0 e.1 (cond-true (eqb e.0 e.0) (Some e.1) (cluster_at es e.0) (eq-eqb e.0 e.0 refl))),
  all_hold cluster held (e.0 + 1) es r.1 (λ b k f. h b k (cond-false (eqb e.0 b) (Some e.1) (cluster_at es b) (ne_eqb e.0 b (λ s. above es (e.0 + 1) r.1 b k f (omega (arith, s)))) ∙ f)),
)
  where
    above : (l : List (ℕ × ℕ)) (n : ℕ) → IsRisingFrom n l → (b k : ℕ) → cluster_at l b ≡ Some k → b < n → ⊥
    above [] n q b k f lt = none-some k f
    above (x ∷ xs) n q b k f lt = above xs (x.0 + 1) q.1 b k (sym (cond-false (eqb x.0 b) (Some x.1) (cluster_at xs b) (ne_eqb x.0 b (λ s. omega (arith, s, q.0, lt)))) ∙ f) (omega (arith, q.0, lt))

-- which blocks the extents have
abbrev pub blocks_in_extents : List (ℕ × ℕ) → List ℕ
blocks_in_extents es = map (λ (e : ℕ × ℕ). e.0) es

pub among_some : (es : List (ℕ × ℕ)) (b : ℕ) → is_among (blocks_in_extents es) b ≡ true → cluster_at es b ≢ None
among_some [] b e none = true≢false (sym e)
among_some (p ∷ ps) b e none = by (eqb p.0 b) e none (among_some ps b)
  where
    by : (t : Bool) → (t || is_among (blocks_in_extents ps) b) ≡ true → cond t (Some p.1) (cluster_at ps b) ≡ None → (is_among (blocks_in_extents ps) b ≡ true → cluster_at ps b ≢ None) → ⊥
    by true f n h = none-some p.1 (sym n)
    by false f n h = h f n

pub none_among : (es : List (ℕ × ℕ)) (b : ℕ) → is_among (blocks_in_extents es) b ≡ false → cluster_at es b ≡ None
none_among [] b e = refl
none_among (p ∷ ps) b e = by (eqb p.0 b) e (none_among ps b)
  where
    by : (t : Bool) → (t || is_among (blocks_in_extents ps) b) ≡ false → (is_among (blocks_in_extents ps) b ≡ false → cluster_at ps b ≡ None) → cond t (Some p.1) (cluster_at ps b) ≡ None
    by true f h = absurd (true≢false f)
    by false f h = h f

-- two rising lists with the same numbers are equal
abbrev pub Rising : ℕ → List ℕ → Type 0
Rising low [] = Unit {0}
Rising low (b ∷ bs) = (low ≤ b) × Rising (b + 1) bs

not_below : (low b : ℕ) (bs : List ℕ) → Rising low bs → b < low → is_among bs b ≡ false
not_below low b [] r lt = refl
not_below low b (x ∷ xs) r lt = ap (λ (t : Bool). t || is_among xs b) (ne_eqb x b (λ s. omega (arith, s, r.0, lt))) ∙ not_below (x + 1) b xs r.1 (omega (arith, r.0, lt))

at_head : (x : ℕ) (xs : List ℕ) → is_among (x ∷ xs) x ≡ true
at_head x xs = ap (λ (t : Bool). t || is_among xs x) (eq-eqb x x refl)

pub one_rising : (low high : ℕ) (xs ys : List ℕ) → Rising low xs → Rising high ys → ((b : ℕ) → is_among xs b ≡ is_among ys b) → xs ≡ ys
one_rising low high [] [] p q same = refl
one_rising low high [] (y ∷ ys) p q same = absurd (true≢false (sym (at_head y ys) ∙ sym (same y)))
one_rising low high (x ∷ xs) [] p q same = absurd (true≢false (sym (at_head x xs) ∙ same x))
one_rising low high (x ∷ xs) (y ∷ ys) p q same =
    let first : x ≡ y = elim (cases_order x y) [
      | inl e ↦ e
      | inr other ↦ elim other [
        | inl less ↦ absurd (true≢false (sym (at_head x xs) ∙ same x ∙ not_below y x (y ∷ ys) (omega arith, q.1) less))
        | inr more ↦ absurd (true≢false (sym (at_head y ys) ∙ sym (same y) ∙ not_below x y (x ∷ xs) (omega arith, p.1) more))
      ]
    ] in
    (λ i. first i ∷ one_rising (x + 1) (y + 1) xs ys p.1 q.1 (λ b. tail b first) i)
  where
    tail : (b : ℕ) → x ≡ y → is_among xs b ≡ is_among ys b
    tail b first = elim (cases_eq b x) [
      | inl here ↦ not_below (x + 1) b xs p.1 (omega (arith, here)) ∙ sym (not_below (y + 1) b ys q.1 (omega (arith, here, first)))
      | inr apart ↦
          sym (ap (λ (t : Bool). t || is_among xs b) (ne_eqb x b (λ s. apart (sym s)))) ∙ same b ∙ ap (λ (t : Bool). t || is_among ys b) (ne_eqb y b (λ s. apart (sym s ∙ sym first)))
    ]

extents_rise : (low : ℕ) (es : List (ℕ × ℕ)) → IsRisingFrom low es → Rising low (blocks_in_extents es)
extents_rise low [] r = tt
extents_rise low (e ∷ es) r = (r.0, extents_rise (e.0 + 1) es r.1)

filter_rise : (f : ℕ → Bool) (low : ℕ) (bs : List ℕ) → Rising low bs → Rising low (filter f bs)
filter_rise f low [] r = tt
filter_rise f low (b ∷ bs) r = by (f b) (filter_rise f (b + 1) bs r.1)
  where
    lower : (m n : ℕ) (l : List ℕ) → m ≤ n → Rising n l → Rising m l
    lower m n [] le h = tt
    lower m n (x ∷ xs) le h = (omega (arith, le, h.0), h.1)

    by : (t : Bool) → Rising (b + 1) (filter f bs) → Rising low (cond t (b ∷ filter f bs) (filter f bs))
    by true h = (r.0, h)
    by false h = lower low (b + 1) (filter f bs) (omega (arith, r.0)) h

counting_rise : (i n : ℕ) → Rising i (counting i n)
counting_rise i zero = tt
counting_rise i (suc n) = (omega arith, counting_rise (i + 1) n)

pub holding_rise : (held : List (Option ℕ)) → Rising 0 (blocks_holding held)
holding_rise held = filter_rise (block_has_byte held) 0 (counting 0 (blocks_in (length held))) (counting_rise 0 (blocks_in (length held)))

-- before any block is staged
pub start_blocks : (cluster : ℕ → List ℕ) (b : Book) (rows : List Row) (low : ℕ) (id : ItemId) (r : Row) (i : Item) (uses : List Use) (after : List (Option ℕ)) → RisesFrom low rows → row_of rows id ≡ Some r → IsRising r.extents
    → Owns uses (clusters_in_rows rows) → HoldsRow cluster b r i → AreBlocks (rest_of id rows) cluster i.held after [] uses r.extents cluster
start_blocks cluster b rows low id r i uses after rises found rising owns holds = record {
  rising = rising;
  owns = λ k.
      let split = times_split id low rows k rises in
      let mine : named_by (row_of rows id) k ≡ times k (names r.extents) = ap (λ (o : Option Row). named_by o k) found in
      let all = owns k in
      omega (arith, split, mine, all);
  others = λ k some. refl;
  laid = λ n k e among. absurd (true≢false (sym among));
  kept = λ n k e out. hold_at cluster i.held r.extents n k holds.bytes e;
  has = λ n among none. true≢false (sym among);
  none = λ n out none q v low' is.
      let at : (4096 * n + q) / 4096 ≡ n = omega (arith, low') in
      let has : block_has_byte i.held n ≡ true = block_holds i.held n (4096 * n + q) at (is_here i.held (4096 * n + q) v is) in
      among_some r.extents n (ap (λ (l : List ℕ). is_among l n) holds.blocks ∙ among_holding i.held n ∙ has) none;
}

-- after the last extent without a byte is dropped
module _ (rest : ℕ → ℕ) (was : ℕ → List ℕ) (before after : List (Option ℕ)) (puts : List ℕ) (uses : List Use) (es fs : List (ℕ × ℕ)) (cluster : ℕ → List ℕ) (holds : ℕ → Bool) (blocks : AreBlocks rest was before after puts uses es cluster)
    (gone : (b : ℕ) → cluster_at fs b ≡ cond (holds b) (cluster_at es b) None) (holds_is : (b : ℕ) → holds b ≡ block_has_byte after b) (rising : IsRising fs)
    (elsewhere : (p v : ℕ) → is_among puts (p / 4096) ≡ false → holds_at after p v ≡ true → holds_at before p v ≡ true) where
  at_block : (b q : ℕ) → q < 4096 → (4096 * b + q) / 4096 ≡ b
  at_block b q low = omega (arith, low)

  no_bytes : (b : ℕ) → is_among puts b ≡ false → cluster_at es b ≡ None → block_has_byte after b ≡ false
  no_bytes b out none = no_block after b (λ p at. place p at (is_held after p) refl)
    where
      place : (p : ℕ) → p / 4096 ≡ b → (h : Bool) → is_held after p ≡ h → is_held after p ≡ false
      place p at false e = e
      place p at true e =
          let some = none_held after p e in
          let old = elsewhere p some.0 (ap (is_among puts) at ∙ out) some.1 in
          let low : p % 4096 < 4096 = omega arith in
          let here : 4096 * b + p % 4096 ≡ p = omega (arith, at) in
          absurd (blocks.none b out none (p % 4096) some.0 low (subst (λ (n : ℕ). holds_at before n some.0 ≡ true) (sym here) old))

  among_is : (b : ℕ) → is_among (blocks_in_extents fs) b ≡ block_has_byte after b
  among_is b = by (block_has_byte after b) refl
    where
      by : (t : Bool) → block_has_byte after b ≡ t → is_among (blocks_in_extents fs) b ≡ t
      by false e = none (is_among (blocks_in_extents fs) b) refl
        where
          gone_is : cluster_at fs b ≡ None
          gone_is = gone b ∙ cond-false (holds b) (cluster_at es b) None (holds_is b ∙ e)

          none : (u : Bool) → is_among (blocks_in_extents fs) b ≡ u → is_among (blocks_in_extents fs) b ≡ false
          none false f = f
          none true f = absurd (among_some fs b f gone_is)
      by true e = some (is_among (blocks_in_extents fs) b) refl
        where
          kept_is : cluster_at fs b ≡ cluster_at es b
          kept_is = gone b ∙ cond-true (holds b) (cluster_at es b) None (holds_is b ∙ e)

          there : (t : Bool) → is_among puts b ≡ t → cluster_at es b ≡ None → ⊥
          there true a none = blocks.has b a none
          there false a none = true≢false (sym e ∙ no_bytes b a none)

          some : (u : Bool) → is_among (blocks_in_extents fs) b ≡ u → is_among (blocks_in_extents fs) b ≡ true
          some true f = f
          some false f = absurd (there (is_among puts b) refl (sym kept_is ∙ none_among fs b f))

  pub final_blocks : blocks_in_extents fs ≡ blocks_holding after
  final_blocks = one_rising 0 0 (blocks_in_extents fs) (blocks_holding after) (extents_rise 0 fs rising) (holding_rise after) (λ b. among_is b ∙ sym (among_holding after b))

  pub final_bytes : HoldAll cluster after (map extent_of fs)
  final_bytes = all_hold cluster after 0 fs rising (λ b k e. by b k (holds b) refl e)
    where
      within : (b k : ℕ) → cluster_at es b ≡ Some k → (t : Bool) → is_among puts b ≡ t → HoldsBlock after b (cluster k)
      within b k e true a = blocks.laid b k e a
      within b k e false a = λ q v low is. blocks.kept b k e a q v low (elsewhere (4096 * b + q) v (ap (is_among puts) (at_block b q low) ∙ a) is)

      by : (b k : ℕ) → (t : Bool) → holds b ≡ t → cluster_at fs b ≡ Some k → HoldsBlock after b (cluster k)
      by b k true h e = within b k (sym (gone b ∙ cond-true (holds b) (cluster_at es b) None h) ∙ e) (is_among puts b) refl
      by b k false h e = absurd (none-some k (sym (gone b ∙ cond-false (holds b) (cluster_at es b) None h) ∙ e))
