-- A volume on a ground that no crash leaves, at its last point again.
use Rattle.std.proofs.Common.{◌≡◌, ℕ, ◌+◌, ◌<◌, Bool, true, eqb, List, [], ◌∷◌, length, map, take, None, refl, sym, ◌∙◌, ap, subst, arith}
use Rattle.std.specs.Prelude.{All, cond, option_map, false}
use Rattle.std.specs.List.{list_any}
use Rattle.std.proofs.lemmas.List.{ext_get_or, get_or-map, length-map, length-take, take_all}
use Rattle.cf_base.specs.declared.answers.AuxRecord.{AuxRecord}
use Rattle.cf_base.specs.declared.changes.Change.{Change}
use Rattle.cf_base.specs.declared.ids.ItemId.{ItemId}
use Rattle.cf_base.specs.declared.ids.Usn.{Usn}
use Rattle.cf_clusters.specs.Roles.{Opens, committed, use_of}
use Rattle.cf_clusters.specs.declared.uses.Use.{Use}
use Rattle.cf_clusters.specs.declared.uses.Use.TheVariants.{Free, Held}
use Rattle.cf_disk.specs.Disk.{State, size_of}
use Rattle.cf_journal.specs.declared.journals.Journal.{Journal}
use Rattle.cf_model.specs.Books.{Book}
use Rattle.cf_model.specs.Formats.{Image}
use Rattle.cf_model.specs.Logs.{items_of}
use Rattle.cf_model.specs.Standing.{Stands, are_apart, clusters_of}
use Rattle.cf_model.specs.State.{Point, Volume}
use Rattle.cf_table.proofs.RowOfItem.{rows_have_room}
use Rattle.cf_table.specs.Spelling.{row_value}
use Rattle.cf_table.specs.Tables.{AreTableRows, RisesFrom, row_of}
use Rattle.cf_table.specs.declared.rows.Row.{Row}
use Rattle.cf_volume.proofs.Committed.{booked_rows}
use Rattle.cf_volume_changes.specs.Calls.{OnDisk}
use Rattle.cf_volume.specs.Rewinding.{IsLast, Rewinds}
use Rattle.cf_volume_changes.specs.Steady.{Steady}
use Rattle.cf_volume_commit.proofs.LaterNumbers.{raised_later}
use Rattle.cf_volume_commit.proofs.NamedRows.{rise_so}
use Rattle.cf_volume_commit.proofs.OpenedAt.{opened_holds, stands_raised}
use Rattle.cf_volume_commit.proofs.OwnedClusters.{inside_all}
use Rattle.cf_volume_commit.specs.Loaded.{known_of, raised_image}
use Rattle.cf_volume_commit.specs.declared.parts.Parts.{Parts}
use Rattle.cf_volume_image.proofs.RecordsLeft.{one_list as one_record_list, rise_is}
use Rattle.cf_volume_image.proofs.RowsLeft.{one_list}
use Rattle.cf_volume_image.specs.Contents.{image_of, record_at}
use Rattle.cf_volume_image.specs.Spelled.{AreRecordsFrom}
use Rattle.cf_volume_image.specs.declared.contents.Contents.{Contents}
use Rattle.cf_volume_points.proofs.Apart.{row_clusters}
use Rattle.cf_volume_points.proofs.Commits.{below_next, held_committed, log_now, rows_rise}
use Rattle.cf_volume_points.proofs.KeptSound.{rows_found}
use Rattle.cf_volume_points.specs.At.{At}
use Rattle.cf_volume_points.specs.Clusters.{HoldsCommitted, clusters_in_rows, times}
use Rattle.cf_volume_points.specs.Holding.{Holds}
use Rattle.cf_volume_points.specs.Known.{Known, RowsRise, record_then, row_then}
use Rattle.cf_volume_points.specs.Standing.{IsBookOf, IsLogOf, cluster_on, opened}

-- the image of the last point
pub is_last : (s : State) (k : Known) (v : Volume) (at : At s k v) → IsLast k at.last.image
is_last s k v at = record { known = at.last.known; rise = at.last.kept.rise; keys_rise = at.last.kept.keys_rise; apart = at.last.kept.reads.apart }

-- clusters of an opening are those of a commit
opened_committed : (n : ℕ) (ks : List ℕ) (uses : List Use) → Opens n ks uses → map committed uses ≡ uses
opened_committed n ks uses opens = ext_get_or Held (map committed uses) uses (length-map uses committed)
    (λ k less.
    let lt : k < length uses = omega (arith, less, length-map uses committed) in
    let is : use_of uses k ≡ cond (list_any (λ j. eqb j k) ks) Held Free = opens.each k (omega (arith, lt, opens.size)) in
    get_or-map committed uses k Held Held lt ∙ ap committed is ∙ same (list_any (λ j. eqb j k) ks) ∙ sym is)
  where
    same : (t : Bool) → committed (cond t Held Free) ≡ cond t Held Free
    same true = refl
    same false = refl

module _ (s : State) (k : Known) (v : Volume) (at : At s k v) (p : Parts) (r : Rewinds k at.last.image p.contents p.held) (limit : p.limit ≡ k.limit) (kept : AreTableRows p.contents.rows.rows) where
  abbrev n : ℕ
  n = length k.uses

  abbrev log : List (Usn × Change)
  log = take at.last.point.count v.log

  abbrev b : Book
  b = at.last.point.book

  reads : Stands n (cluster_on s.seen) at.last.image log b
  reads = at.last.kept.reads

  long : length log ≡ at.last.point.count
  long = omega (arith, length-take at.last.point.count v.log, at.last.early)

  last_is : p.contents.last ≡ record { epoch = v.epoch + 1; place = 0 }
  last_is = r.last ∙ (λ i. record { epoch = at.now.epoch i + 1; place = 0 })

  image_is : image_of p.contents ≡ raised_image v.epoch at.last.image
  image_is =
      let count = r.count ∙ at.last.count ∙ sym long ∙ sym reads.count in
      let next = r.next ∙ at.last.next in
      let clock = r.clock ∙ at.last.clock ∙ sym reads.clock in
      λ i. record { header = record { last = last_is i; count = count i; next = next i; clock = clock i }; rows = r.rows i; records = r.records i }

  stands : Stands n (cluster_on s.seen) (image_of p.contents) log b
  stands = subst (λ (i : Image). Stands n (cluster_on s.seen) i log b) (sym image_is) (stands_raised v.epoch n (cluster_on s.seen) at.last.image log b at.last.kept.epoch_is reads)

  opens : Opens n (clusters_of (map row_value p.contents.rows.rows)) p.held
  opens = subst (λ (l : List _). Opens n (clusters_of l) p.held) (sym r.rows) r.opens

  rewound_holds : Holds s (known_of p) (opened (v.epoch + 1) log b v.clusters)
  rewound_holds = opened_holds s p v.epoch n log b stands at.last.kept.given at.last.kept.book last_is opens v.clusters (limit ∙ sym at.now.clusters) (omega (arith, at.now.clusters, at.now.within)) kept

  whole : take (length log) log ≡ log
  whole = take_all (length log) log (omega arith)

  at_point : (P : List (Usn × Change) → Type 0) → P log → P (take (length log) log)
  at_point P h = subst P (sym whole) h

  held : HoldsCommitted p.held (clusters_of (map row_value p.contents.rows.rows))
  held = subst (λ (u : List Use). HoldsCommitted u (clusters_of (map row_value p.contents.rows.rows))) (opened_committed n (clusters_of (map row_value p.contents.rows.rows)) p.held opens)
      (held_committed p.held (clusters_in_rows p.contents.rows.rows) (clusters_of (map row_value p.contents.rows.rows)) rewound_holds.owns (λ m. let e = ap (times m) (row_clusters p.contents.rows.rows) in omega (arith, e)))

  pub rewound_at : ((c : List ℕ) → s.may_leave c → ⊥) → At s (known_of p) (opened (v.epoch + 1) log b v.clusters)
  rewound_at none = record {
    last = record {
      point = record { sure = true; count = length log; book = b };
      earlier = [];
      points_are = refl;
      early = omega arith;
      count = stands.count;
      clock = stands.clock;
      image = image_of p.contents;
      next = refl;
      kept = record {
        backed = λ c left. absurd (none c left);
        few = omega (arith, opens.size, at.last.kept.few);
        epoch_is = ap (λ (u : Usn). u.epoch) last_is;
        clusters = opens.size ∙ at.last.kept.clusters;
        reads = at_point (λ l. Stands (length p.held) (cluster_on s.seen) (image_of p.contents) l b) (subst (λ (m : ℕ). Stands m (cluster_on s.seen) (image_of p.contents) log b) (sym opens.size) stands);
        stands = λ c left. absurd (none c left);
        book = at_point (λ l. IsBookOf (items_of l) b) at.last.kept.book;
        given = at_point (λ l. IsLogOf (v.epoch + 1) l) (log_now s (known_of p) (opened (v.epoch + 1) log b v.clusters) rewound_holds);
        held = held;
        rise = subst (λ (l : List _). RowsRise 0 l) (sym r.rows) at.last.kept.rise;
        keys_rise = subst (λ (l : List _). AreRecordsFrom None l) (sym r.records) at.last.kept.keys_rise;
      };
      known = record {
        rows = λ id. rows_found p.contents.rows.rows id ∙ ap (option_map row_value) (sym (below_next (image_of p.contents).header p.contents.rows.rows id stands.sound));
        records = λ key. refl;
      };
    };
    now = rewound_holds;
  }

  pub rewound_steady : Steady (size_of s) k → p.journal.broken ≡ false → Steady (size_of s) (known_of p)
  rewound_steady steady usable = record {
    fit = steady.fit;
    clusters = opens.size ∙ steady.clusters;
    inside = subst (λ (l : List ℕ). All (λ j. j < length p.held) l) (row_clusters p.contents.rows.rows)
        (inside_all (length p.held) (clusters_of (map row_value p.contents.rows.rows)) (subst (λ (m : ℕ). are_apart m (clusters_of (map row_value p.contents.rows.rows)) ≡ true) (sym opens.size) stands.apart));
    room = rows_have_room b p.contents.rows.rows (items_of log) kept (booked_rows (cluster_on s.seen) b p.contents.rows.rows (items_of log) rewound_holds.rows);
    later = raised_later p.contents at.last.image reads.sound (subst (λ (e : ℕ). image_of p.contents ≡ raised_image e at.last.image) (sym at.last.kept.epoch_is) image_is);
    earlier = omega arith;
    usable = usable;
  }

-- the rows and the records of a table are those of the image

pub rows_again : (k : Known) (i : Image) (rows : List Row) → IsLast k i → RisesFrom 0 rows → ((id : ItemId) → row_of rows id ≡ row_then id k.rows_then k.next_then (row_of k.table.rows id)) → map row_value rows ≡ i.rows
rows_again k i rows h rises same =
    one_list 0 (map row_value rows) i.rows (rise_so 0 (map row_value rows) (rows_rise 0 rows rises)) (rise_so 0 i.rows h.rise)
    (λ id. rows_found rows id ∙ ap (option_map row_value) (same id) ∙ sym (h.known.rows id))

pub records_again : (k : Known) (i : Image) (records : List AuxRecord) → IsLast k i → AreRecordsFrom None records → ((key : List ℕ) → record_at records key ≡ record_then key k.records_then k.keys_made (record_at k.records key)) → records ≡ i.records
records_again k i records h rise same =
    one_record_list None records i.records (rise_is None records rise) (rise_is None i.records h.keys_rise) (λ key. same key ∙ sym (h.known.records key))

-- the newest point
pub newest : (p q : Point) (ps qs : List Point) (l : List Point) → l ≡ p ∷ ps → l ≡ q ∷ qs → p ≡ q
newest p q ps qs l e f = ap first (sym e ∙ f)
  where
    first : List Point → Point
    first [] = p
    first (x ∷ xs) = x

-- the parts that a volume is taken apart into

abbrev RewindsAll : Known → Contents → List Use → Type 0
RewindsAll k c uses = (i : Image) → IsLast k i → Rewinds k i c uses

abbrev from_point : Volume → Point → Volume
from_point v p = opened (v.epoch + 1) (take p.count v.log) p.book v.clusters

pub last_again : {D : Type 0} (state : D → State) {a b : OnDisk D} → a ≡ b → (j : Journal) (uses : List Use) (c : Contents) (l : ℕ) (o : Parts) → o ≡ record { journal = j; held = uses; contents = c; limit = l } → l ≡ a.known.limit → AreTableRows c.rows.rows
    → RewindsAll a.known c uses → (v : Volume) (p : Point) (earlier : List Point) → At (state b.disk) b.known v → v.points ≡ p ∷ earlier → ((x : List ℕ) → (state b.disk).may_leave x → ⊥) → At (state b.disk) (known_of o) (from_point v p)
last_again {D} state {a} {b} e j uses c l o is limit kept rewinds v p earlier at points none =
    subst (λ (q : OnDisk D). At (state q.disk) (known_of o) (from_point v p)) e
    (subst (λ (x : Parts). At (state a.disk) (known_of x) (from_point v p)) (sym is)
    (subst (λ (q : Point). At (state a.disk) (known_of parts) (from_point v q)) (newest here.last.point p here.last.earlier earlier v.points here.last.points_are points)
    (rewound_at (state a.disk) a.known v here parts (rewinds here.last.image (is_last (state a.disk) a.known v here)) limit kept (subst (λ (q : OnDisk D). (x : List ℕ) → (state q.disk).may_leave x → ⊥) (sym e) none))))
  where
    here : At (state a.disk) a.known v
    here = subst (λ (q : OnDisk D). At (state q.disk) q.known v) (sym e) at

    parts : Parts
    parts = record { journal = j; held = uses; contents = c; limit = l }

pub steady_again : {D : Type 0} (state : D → State) {a b : OnDisk D} → a ≡ b → (j : Journal) (uses : List Use) (c : Contents) (l : ℕ) (o : Parts) → o ≡ record { journal = j; held = uses; contents = c; limit = l } → l ≡ a.known.limit → j ≡ a.known.journal
    → AreTableRows c.rows.rows → RewindsAll a.known c uses → (v : Volume) → At (state b.disk) b.known v → (b.known.broken ≡ false) → (a.known.broken ≡ false → Steady (size_of (state a.disk)) a.known) → Steady (size_of (state b.disk)) (known_of o)
steady_again {D} state {a} {b} e j uses c l o is limit journal kept rewinds v at usable steady =
    subst (λ (q : OnDisk D). Steady (size_of (state q.disk)) (known_of o)) e
    (subst (λ (x : Parts). Steady (size_of (state a.disk)) (known_of x)) (sym is)
    (rewound_steady (state a.disk) a.known v here (record { journal = j; held = uses; contents = c; limit = l }) (rewinds here.last.image (is_last (state a.disk) a.known v here)) limit kept now (ap (λ (x : Journal). x.broken) journal ∙ now.usable)))
  where
    here : At (state a.disk) a.known v
    here = subst (λ (q : OnDisk D). At (state q.disk) q.known v) (sym e) at

    now : Steady (size_of (state a.disk)) a.known
    now = steady (ap (λ (q : OnDisk D). q.known.broken) e ∙ usable)
