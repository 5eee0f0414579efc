-- The contents of a new volume: one row, that of the root.
use Rattle.std.proofs.Common.{◌≡◌, ℕ, ◌+◌, ◌^◌, ◌<◌, ◌≤◌, true, cond, ltb, List, [], ◌∷◌, length, map, Some, None, refl, sym, ◌∙◌, ap, subst, arith}
use Rattle.std.specs.Prelude.{All, Err, Ok, OnOk, Result}
use Rattle.std.proofs.lemmas.List.{length-map}
use Rattle.std.proofs.lemmas.List.Elements.{All-cons, All-head, All-nil}
use Rattle.cf_base.specs.declared.answers.AuxRecord.{AuxRecord}
use Rattle.cf_base.specs.declared.spans.Span.{Span}
use Rattle.cf_volume_commit.proofs.Appended.{tells_rewritten}
use Rattle.cf_volume_commit.proofs.OpenedAt.{opened_holds}
use Rattle.cf_volume_commit.proofs.RaisedEpoch.{raised_at, sound_after, sound_before}
use Rattle.cf_volume_commit.proofs.ToldPins.{pins_told}
use Rattle.cf_volume_commit.specs.Leading.{CanBeWritten, bytes_of, bytes_written, is_full}
use Rattle.cf_volume_commit.specs.Loaded.{StandsThen, first_image, known_of}
use Rattle.cf_volume_commit.specs.declared.parts.Parts.{Parts}
use Rattle.cf_clusters.specs.Roles.{Opens, committed}
use Rattle.cf_clusters.specs.declared.uses.Use.{Use}
use Rattle.cf_codec.specs.declared.formats.Format.{Format}
use Rattle.cf_codec.specs.declared.formats.Format.TheVariants.{Second}
use Rattle.cf_disk.specs.Disk.{Counts, Only, State, capped, may_fail, size_of}
use Rattle.cf_volume_image.specs.Contents.{image_of, payload_of}
use Rattle.cf_volume_image.specs.Sound.{IsSound}
use Rattle.cf_volume_image.specs.Spelled.{AreRecordsFrom, IsImage}
use Rattle.cf_volume_image.specs.declared.contents.Contents.{Contents}
use Rattle.cf_journal.specs.Content.{clusters, rewritten}
use Rattle.cf_journal.specs.Settled.{Settled}
use Rattle.cf_journal.specs.declared.journals.Journal.{Journal}
use Rattle.cf_model.specs.Books.{no_book}
use Rattle.cf_model.specs.Formats.{Image, spell_image, spell_payload}
use Rattle.cf_model.specs.Items.{root}
use Rattle.cf_model.specs.Numbers.{root_id}
use Rattle.cf_model.specs.Rows as model
use Rattle.cf_model.specs.Standing.{Stands, are_apart, clusters_of}
use Rattle.cf_model.specs.State.{new_volume}
use Rattle.cf_volume_points.proofs.Commits.{now_sound}
use Rattle.cf_volume_points.proofs.NewKept.{new_keepable}
use Rattle.cf_volume_points.specs.At.{At}
use Rattle.cf_volume_points.specs.Clusters.{IsGroundSize}
use Rattle.cf_volume_points.specs.Holding.{Holds}
use Rattle.cf_volume_points.specs.Runs.{IsStop}
use Rattle.cf_volume_points.specs.Saving.{SavedIfLeft}
use Rattle.cf_volume_points.specs.Sound.{Sound}
use Rattle.cf_volume_points.specs.Standing.{cluster_on, clusters_on}
use Rattle.cf_volume_points.specs.declared.stops.Stop.{Stop}
use Rattle.cf_volume_points.specs.declared.stops.Stop.TheVariants.{Device, OutOfMemory}
use Rattle.cf_table.proofs.RowOfItem.{row_is_of_item}
use Rattle.cf_table.specs.Means.{IsFresh}
use Rattle.cf_table.specs.Reading.{IsRow}
use Rattle.cf_table.specs.Spelling.{EndBelow, HasRoom, extent_of, row_value}
use Rattle.cf_table.specs.Tables.{AreTableRows, MeansAll, RisesFrom, Table}
use Rattle.cf_table.specs.declared.rows.Row.{Row}

pub root_row : (rows : List Row) → AreTableRows rows → MeansAll rows (root ∷ []) → All IsFresh rows → map row_value rows ≡ model.row_of no_book [] root ∷ []
root_row [] t m f = absurd m
root_row (r ∷ []) t m f =
    let fresh = All-head IsFresh r [] f in
    ap (λ (x : model.Row). x ∷ []) (row_is_of_item no_book r root t.0.stored m.0 fresh.anchor fresh.last ∙ ap (λ (es : List (ℕ × ℕ)). model.row_of no_book (map extent_of es) root) fresh.extents)
root_row (r ∷ s ∷ rs) t m f = absurd m.1

-- the contents

pub first_is : (t : Table) (rs : List AuxRecord) → AreTableRows t.rows → MeansAll t.rows (root ∷ []) → All IsFresh t.rows → t.next.0 ≡ 2 → rs ≡ [] → image_of (record { last = record { epoch = 0; place = 0 }; count = 0; clock = 0; rows = t; records = rs }) ≡ first_image 0
first_is t rs kept means fresh next none =
    let rows = root_row t.rows kept means fresh in
    λ k. record { header = record { last = record { epoch = 0; place = 0 }; count = 0; next = record { 0 = next k }; clock = 0 }; rows = rows k; records = none k }

-- with the first epoch begun
pub raised_first : (c : Contents) → image_of c ≡ first_image 0 → image_of (record c { last = record { epoch = 1; place = 0 } }) ≡ first_image 1
raised_first c e = λ k. record {
  header = record { last = record { epoch = 1; place = 0 }; count = (e k).header.count; next = (e k).header.next; clock = (e k).header.clock };
  rows = (e k).rows;
  records = (e k).records;
}

abbrev pub first_parts : Journal → List Use → Contents → ℕ → Parts
first_parts j held c limit = record { journal = j; held = held; contents = record c { last = record { epoch = 1; place = 0 } }; limit = limit }

abbrev front : List model.Row → model.Row
front [] = model.row_of no_book [] root
front (r ∷ rs) = r

abbrev behind : List model.Row → List model.Row
behind [] = []
behind (r ∷ rs) = rs

none_ends : (runs : List Span) → runs ≡ [] → EndBelow runs
none_ends runs e = subst (λ (l : List Span). EndBelow l) (sym e) (All-nil (λ (s : Span). s.start + s.len < 2 ^ 32))

no_more : (rows : List Row) → map row_value rows ≡ [] → All HasRoom rows
no_more [] e = All-nil HasRoom
no_more (r ∷ rs) e = absurd (let n = ap length e in omega (arith, n))

pub first_room : (rows : List Row) → AreTableRows rows → map row_value rows ≡ model.row_of no_book [] root ∷ [] → All HasRoom rows
first_room [] t e = All-nil HasRoom
first_room (r ∷ rs) t e =
    let is : row_value r ≡ model.row_of no_book [] root = ap front e in
    All-cons HasRoom r rs
    (record {
      texts = t.0.spellable;
      here = none_ends r.here (ap (λ (x : model.Row). x.here) is);
      valid = none_ends r.valid (ap (λ (x : model.Row). x.valid) is);
      modified = none_ends r.modified (ap (λ (x : model.Row). x.modified) is);
      modified_since = none_ends r.modified_since (ap (λ (x : model.Row). x.modified_since) is);
      extents = let same = length-map r.extents extent_of in let none = ap (λ (x : model.Row). length x.extents) is in omega (arith, same, none);
    })
    (no_more rs (ap behind e))

-- its image

first_row : IsRow None (model.row_of no_book [] root)
first_row = record {
  head = record {
    who = (omega arith, tt, omega arith);
    basics = (tt, (refl, omega arith, omega arith));
    numbers = ((omega arith, omega arith), (omega arith, omega arith), omega arith);
  };
  name = omega arith;
  identity = omega arith;
  here = (omega arith, tt);
  valid = (omega arith, tt);
  modified = (omega arith, tt);
  modified_since = (omega arith, tt);
  extents = (omega arith, tt);
}

first_is_image : IsImage (first_image 0)
first_is_image = record {
  header = ((omega arith, omega arith), omega arith, omega arith, omega arith);
  rows = (omega arith, (first_row, tt));
  records = (omega arith, tt);
}

pub first_length : (epoch : ℕ) → length (spell_image (first_image epoch)) ≡ 115
first_length epoch = refl

first_stands : (n : ℕ) (cluster : ℕ → List ℕ) → Stands n cluster (first_image 1) [] no_book
first_stands n cluster = record {
  rows = (record { row = refl; blocks = refl; bytes = tt }, tt);
  sound = ((new_keepable n).rows root_id root refl, tt);
  apart = refl;
  count = refl;
  next = refl;
  clock = refl;
  records = refl;
  few = omega arith;
  short = let n = first_length 1 in omega (arith, n);
}

-- what is written

pub first_bytes : (j : Journal) (c : Contents) (image : List ℕ) → j.format ≡ Second → j.end ≡ 0 → bytes_written j (Some (spell_payload (payload_of c [] [] [] []))) image ≡ 54
first_bytes j c image second end =
    ap (λ (f : Format). bytes_of (cond (is_full f (j.end + 54)) None (Some (spell_payload (payload_of c [] [] [] [])))) image) second
    ∙ ap (λ (n : ℕ). bytes_of (cond (ltb 262144 (n + 54)) None (Some (spell_payload (payload_of c [] [] [] [])))) image) end

pub first_can : (c : Contents) → image_of c ≡ first_image 1 → All HasRoom c.rows.rows → CanBeWritten c
first_can c is room = record {
  room = room;
  few = let same = length-map c.rows.rows row_value in let one = ap (λ (i : Image). length i.rows) is in omega (arith, same, one);
  short = let same = ap (λ (i : Image). length (spell_image i)) is in let n = first_length 1 in omega (arith, same, n);
}

pub first_stands_then : (s : State) (p : Parts) (text : List ℕ) → image_of p.contents ≡ first_image 1 → text ≡ spell_image (first_image 0) → Settled p.journal s (rewritten text) → StandsThen p s (rewritten text) (first_image 0)
first_stands_then s p text is e settled =
    let told = tells_rewritten text (first_image 0) first_is_image e in
    let rows = sym (ap (λ (i : Image). i.rows) is) in
    record {
      settled = settled;
      told = told;
      rows = rows;
      records = sym (ap (λ (i : Image). i.records) is);
      pins = pins_told Second text [] (first_image 0) p.contents.rows.rows told rows;
    }

pub first_text : (text : List ℕ) (i : Image) → text ≡ spell_image i → i ≡ first_image 0 → text ≡ spell_image (first_image 0)
first_text text i e is = e ∙ ap spell_image is

pub text_length : (text : List ℕ) → text ≡ spell_image (first_image 0) → length text ≡ 115
text_length text e = ap length e ∙ first_length 0

-- the bytes of two writes
pub counts_both : {T E : Type 0} (r : Result T E) (s m t : State) (n k : ℕ) → n ≡ 115 → k ≡ 54 → m.written ≡ capped (s.written + (32 + n)) → s.written ≤ m.written → m.written ≤ s.written + (32 + n)
    → t.written ≡ capped (m.written + k) → m.written ≤ t.written → t.written ≤ m.written + k → Counts 201 r s t
counts_both r s m t n k a b first least most second after limit = record {
  exact = ok r (omega (arith, a, b, first, second));
  least = omega (arith, least, after);
  most = omega (arith, a, b, most, limit);
}
  where
    ok : {T E P : Type 0} (r : Result T E) → P → OnOk r P
    ok (Ok x) h = h
    ok (Err e) h = tt

-- a stop behind calls that raised no count of faults
pub stop_behind : (e : Stop) (s m t : State) → s.faults ≤ m.faults → may_fail m.armed ≤ may_fail s.armed → IsStop e m t → IsStop e s t
stop_behind Device s m t more calm failed = (omega (arith, more, failed.0), omega (arith, calm, failed.1))
stop_behind OutOfMemory s m t more calm failed = tt

module _ (s : State) (p : Parts) (n : ℕ) (fit : IsGroundSize (size_of s)) (number : n ≡ clusters_on s.seen) (is : image_of p.contents ≡ first_image 1) (room : All HasRoom p.contents.rows.rows) (opens : Opens n [] p.held)
    (m : ℕ) (limit : p.limit ≡ m) (within : m ≤ n) (rises : RisesFrom 0 p.contents.rows.rows) (kept : AreTableRows p.contents.rows.rows) where
  no_clusters : [] ≡ clusters_of (map row_value p.contents.rows.rows)
  no_clusters = sym (ap (λ (i : Image). clusters_of i.rows) is)

  first_holds : Holds s (known_of p) (new_volume m)
  first_holds = opened_holds s p 0 n [] no_book
      (subst (λ (i : Image). Stands n (cluster_on s.seen) i [] no_book) (sym is) (first_stands n (cluster_on s.seen)))
      (record { below = tt; whole = (refl, tt, tt) }) (λ id none. (refl, refl)) (ap (λ (i : Image). i.header.last) is)
      (subst (λ (l : List ℕ). Opens n l p.held) no_clusters opens) m limit within kept

  first_known : Sound (size_of s) (known_of p)
  first_known = sound_before s p fit (opens.size ∙ number) rises kept (first_can p.contents is room) (subst (λ (l : List ℕ). are_apart (length p.held) l ≡ true) no_clusters refl)

  first_sound : IsSound (length p.held) (image_of p.contents)
  first_sound = now_sound s (known_of p) (new_volume m) first_known (new_keepable m) first_holds

  pub created_at : (q : Parts) (new : State) → q.contents ≡ p.contents → q.held ≡ map committed p.held → q.limit ≡ p.limit → SavedIfLeft q.journal new (image_of p.contents) → AreRecordsFrom None p.contents.records
      → size_of new ≡ size_of s → Only new.seen new → clusters new.seen ≡ clusters s.seen → At new (known_of q) (new_volume m)
  created_at q new contents held same saved keys size only rest = raised_at p q contents held same s new (new_volume m) first_known first_sound first_holds saved keys size only rest

  pub created_sound : (q : Parts) → q.contents ≡ p.contents → q.held ≡ map committed p.held → q.limit ≡ p.limit → Sound (size_of s) (known_of q)
  created_sound q contents held same = sound_after p q contents held same (size_of s) first_known
