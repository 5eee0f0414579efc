-- Bytes of a file, block by block.
use Rattle.std.proofs.Common.{◌≡◌, ℕ, zero, suc, ◌+◌, ◌-◌, ◌*◌, ◌/◌, ◌%◌, ◌<◌, ◌≤◌, ◌==◌, Bool, true, false, List, [], ◌∷◌, ◌++◌, length, map, take, drop, refl, sym, ◌∙◌, ap, subst, arith, inl, Option, Some, None, length-take, length-drop}
use Rattle.std.specs.List.{slice_range}
use Rattle.std.specs.Option.{is_some}
use Rattle.std.proofs.lemmas.Bool.{eq-eqb, eqb-true, true≢false}
use Rattle.std.proofs.lemmas.List.{map-append, drop-drop}
use Rattle.std.proofs.Math.Seq.{take-add}
use Rattle.cf_volume_blocks.specs.Bytes.{HoldsBlock, byte_is, has_at, holds_at}
use Rattle.cf_disk.specs.Disk.{Keeps, Leaves, State}
use Rattle.cf_disk.specs.Leaving.{leaves_then}
use Rattle.cf_model.proofs.Places.{passes_drop, passes_take}
use Rattle.cf_model.specs.Books.{Book}
use Rattle.cf_model.specs.Items.{Item, is_held, item_of}
use Rattle.cf_model.specs.State.{Volume}
use Rattle.cf_model.specs.Words.{passes_at}
use Rattle.cf_volume_points.proofs.ItemChanges.{row_holds}
use Rattle.cf_volume_points.proofs.Readings.{row_blocks}
use Rattle.cf_volume_points.specs.At.{At}
use Rattle.cf_volume_points.specs.Holding.{HoldsRow}
use Rattle.cf_volume_points.specs.Known.{Known}
use Rattle.cf_volume_points.specs.Standing.{cluster_on}
use Rattle.cf_ranges.specs.Pairs.{cluster_at}
use Rattle.cf_ranges.specs.Positions.{contains}
use Rattle.cf_base.specs.declared.ids.ItemId.{ItemId}
use Rattle.cf_table.specs.Tables.{row_of}
use Rattle.cf_table.specs.declared.rows.Row.{Row}
use Rattle.std.proofs.lemmas.Option.{same_Some}
use Rattle.cf_volume.proofs.Staged.{loaded}
use Rattle.cf_volume.proofs.Stagings.{ran_none, ran_then}
use Rattle.cf_volume_changes.specs.Laid.{HoldsIn}
use Rattle.cf_volume.specs.Reads.{HasRead, HoldsFile}
use Rattle.cf_volume_points.specs.Runs.{Ran}
use Rattle.std.specs.Option.{ForSome}

-- bytes that stand where each of the positions holds one
same_bytes : (bytes : List ℕ) (held : List (Option ℕ)) → length bytes ≡ length held → ((q : ℕ) → q < length held → is_held held q ≡ true) → ((q v : ℕ) → q < length held → holds_at held q v ≡ true → has_at bytes q v ≡ true) → map Some bytes ≡ held
same_bytes [] [] size all same = refl
same_bytes [] (h ∷ hs) size all same = absurd (omega (arith, size))
same_bytes (b ∷ bs) [] size all same = absurd (omega (arith, size))
same_bytes (b ∷ bs) (None ∷ hs) size all same = absurd (true≢false (sym (all 0 (omega arith))))
same_bytes (b ∷ bs) (Some x ∷ hs) size all same =
    (λ i. Some (eqb-true b x (same 0 x (omega arith) (refl_test x)) i) ∷ same_bytes bs hs (omega (arith, size)) (λ q lt. all (suc q) (omega (arith, lt))) (λ q v lt h. same (suc q) v (omega (arith, lt)) h) i)
  where
    refl_test : (n : ℕ) → (n == n) ≡ true
    refl_test n = eq-eqb n n refl

within_length : {A : Type 0} (f : A → Bool) (xs : List A) (p : ℕ) → passes_at f xs p ≡ true → p < length xs
within_length {A} f [] p e = absurd (true≢false (sym e))
within_length {A} f (x ∷ xs) zero e = omega arith
within_length {A} f (x ∷ xs) (suc p) e = let h = within_length f xs p e in omega (arith, h)

-- a piece of a block
pub piece : (held : List (Option ℕ)) (block : List ℕ) (at n number : ℕ) → length block ≡ 4096 → number ≡ at / 4096 → 0 < n → at % 4096 + n ≤ 4096 → ((p : ℕ) → at ≤ p → p < at + n → is_held held p ≡ true) → HoldsBlock held number block
    → map Some (take n (drop (at % 4096) block)) ≡ slice_range held at (at + n)
piece held block at n number size number_is some fits here holds = same_bytes (take n (drop (at % 4096) block)) (slice_range held at (at + n)) long all same
  where
    reaches : at + n ≤ length held
    reaches = by n refl here
      where
        by : (m : ℕ) → n ≡ m → ((p : ℕ) → at ≤ p → p < at + n → is_held held p ≡ true) → at + n ≤ length held
        by zero e h = absurd (omega (arith, e, some))
        by (suc m) e h = let l = within_length is_some held (at + m) (h (at + m) (omega arith) (omega (arith, e))) in omega (arith, l, e)

    part_long : length (slice_range held at (at + n)) ≡ n
    part_long = omega (arith, length-take (at + n - at) (drop at held), length-drop at held, reaches)

    long : length (take n (drop (at % 4096) block)) ≡ length (slice_range held at (at + n))
    long = omega (arith, length-take n (drop (at % 4096) block), length-drop (at % 4096) block, size, fits, part_long)

    place : (f : Option ℕ → Bool) (q : ℕ) → q < n → passes_at f (slice_range held at (at + n)) q ≡ passes_at f held (at + q)
    place f q lt = passes_take f (at + n - at) (drop at held) q (omega (arith, lt)) ∙ passes_drop f at held (at + q) q refl

    all : (q : ℕ) → q < length (slice_range held at (at + n)) → is_held (slice_range held at (at + n)) q ≡ true
    all q lt = place is_some q (omega (arith, lt, part_long)) ∙ here (at + q) (omega arith) (omega (arith, lt, part_long))

    same : (q v : ℕ) → q < length (slice_range held at (at + n)) → holds_at (slice_range held at (at + n)) q v ≡ true → has_at (take n (drop (at % 4096) block)) q v ≡ true
    same q v lt h =
        let low : q < n = omega (arith, lt, part_long) in
        let in_block : at % 4096 + q < 4096 = omega (arith, low, fits) in
        let at_place : 4096 * number + (at % 4096 + q) ≡ at + q = omega (arith, number_is) in
        passes_take (λ b. b == v) n (drop (at % 4096) block) q low ∙ passes_drop (λ b. b == v) (at % 4096) block (at % 4096 + q) q refl
        ∙ holds (at % 4096 + q) v in_block (ap (λ (p : ℕ). holds_at held p v) at_place ∙ sym (place (byte_is v) q low) ∙ h)

range_joined : {A : Type 0} (xs : List A) (a b c : ℕ) → a ≤ b → b ≤ c → slice_range xs a b ++ slice_range xs b c ≡ slice_range xs a c
range_joined {A} xs a b c low high =
    let n : b - a + (c - b) ≡ c - a = omega (arith, low, high) in
    let m : a + (b - a) ≡ b = omega (arith, low) in
    ap (λ (k : ℕ). take (b - a) (drop a xs) ++ take (c - b) (drop k xs)) (sym m) ∙ joined (b - a) (c - b) (drop a xs) (drop (a + (b - a)) xs) (sym (drop-drop (b - a) a xs)) ∙ ap (λ (k : ℕ). take k (drop a xs)) n
  where
    joined : (k l : ℕ) (ys zs : List A) → zs ≡ drop k ys → take k ys ++ take l zs ≡ take (k + l) ys
    joined k l ys zs e = ap (λ (t : List A). take k ys ++ take l t) e ∙ sym (take-add k l ys)

pub read_none : (es : List (ℕ × ℕ)) (start end : ℕ) (s : State) → start ≤ end → HasRead es start end start [] s s
read_none es start end s le = record {
  low = omega arith;
  high = le;
  keeps = record { seen = refl; crash = λ c left. left };
  leaves = record { later = omega arith; now = λ c left. left; since = λ t c l left. inl left };
  ran = ran_none s;
  bytes_are = λ held holds. let e : start - start ≡ 0 = omega arith in sym (ap (λ (n : ℕ). take n (drop start held)) e);
}

module _ (es : List (ℕ × ℕ)) (start end at next number from : ℕ) (bytes more block : List ℕ) (s t u : State) (read : HasRead es start end at bytes s t) (keeps : Keeps t u) (leaves : Leaves t u t.may_leave) where
  pub reads_leave : Leaves s u s.may_leave
  reads_leave = leaves_then s t u s.may_leave t.may_leave read.leaves leaves read.keeps.crash

  pub reads_keep : Keeps s u
  reads_keep = record { seen = keeps.seen ∙ read.keeps.seen; crash = λ c left. read.keeps.crash c (keeps.crash c left) }

  pub read_more : Ran 0 t u → at < next → next ≤ end → next ≤ 4096 * number + 4096 → number ≡ at / 4096 → from ≡ at % 4096 → length block ≡ 4096 → ForSome (cluster_at es number) (λ k. block ≡ cluster_on t.seen k)
      → more ≡ bytes ++ take (next - at) (drop from block) → HasRead es start end next more s u
  read_more ran less high in_block number_is from_is size got more_is = record {
    low = omega (arith, read.low, less);
    high = high;
    keeps = reads_keep;
    leaves = reads_leave;
    ran = ran_then 0 0 s t u read.ran ran;
    bytes_are = λ held holds.
        let mine : map Some (take (next - at) (drop (at % 4096) block)) ≡ slice_range held at (at + (next - at))
        = piece held block at (next - at) number size number_is (omega (arith, less)) (omega (arith, in_block, number_is, less)) (λ p a b. holds.here p (omega (arith, a, read.low)) (omega (arith, b, high, less)))
        (loaded held number (cluster_at es number) t.seen block got (subst (λ (l : List ℕ). HoldsIn l held number (cluster_at es number)) (sym read.keeps.seen) (holds.blocks number))) in
        let upto : at + (next - at) ≡ next = omega (arith, less) in
        ap (map Some) (more_is ∙ ap (λ (n : ℕ). bytes ++ take (next - at) (drop n block)) from_is) ∙ map-append Some bytes (take (next - at) (drop (at % 4096) block))
        ∙ (λ i. read.bytes_are held holds i ++ (mine ∙ ap (slice_range held at) upto) i)
        ∙ range_joined held start at next read.low (omega (arith, less));
  }

-- what is read of an item are its bytes
file_holds : (disk : List ℕ) (b : Book) (r : Row) (i : Item) (start end : ℕ) → HoldsRow (cluster_on disk) b r i → ((p : ℕ) → start ≤ p → p < end → is_held i.held p ≡ true) → HoldsFile disk r.extents i.held start end
file_holds disk b r i start end holds here = record { blocks = λ n. by n (cluster_at r.extents n) refl; here = here }
  where
    by : (n : ℕ) (o : Option ℕ) → cluster_at r.extents n ≡ o → HoldsIn disk i.held n o
    by n None e = (row_blocks (cluster_on disk) b r i holds n None e).1 refl
    by n (Some k) e = (row_blocks (cluster_on disk) b r i holds n (Some k) e).0 k refl

pub item_read : (s t : State) (k : Known) (v : Volume) (id : ItemId) (i : Item) (r : Row) (start end : ℕ) (bytes : List ℕ) → At s k v → item_of v.items id ≡ Some i → row_of k.table.rows id ≡ Some r
    → ((p : ℕ) → start ≤ p → p < end → contains r.here p ≡ true) → HasRead r.extents start end end bytes s t → map Some bytes ≡ slice_range i.held start end
item_read s t k v id i r start end bytes at is found here read =
    let row = row_holds (cluster_on s.seen) v.book k.table.rows v.items id r at.now.rows found in
    let same : row.0 ≡ i = same_Some row.0 i (sym row.1 ∙ is) in
    let holds = subst (HoldsRow (cluster_on s.seen) v.book r) same row.2 in
    read.bytes_are i.held (file_holds s.seen v.book r i start end holds (λ p low high. sym (holds.means.bytes.here p) ∙ here p low high))
