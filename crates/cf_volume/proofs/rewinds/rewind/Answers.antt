use Rattle.std.proofs.Common.{◌≡◌, ℕ, List, length, map, refl, subst, sym, true}
use Rattle.cf_clusters.specs.Roles.{Opens}
use Rattle.cf_model.specs.Rows as rows
use Rattle.cf_model.specs.Standing.{are_apart, clusters_of}
use Rattle.cf_table.specs.Spelling.{row_value}
use Rattle.cf_volume.proofs.Rewound.{records_again, rows_again}
use Rattle.cf_volume_changes.specs.Steady.{known_of}
use Rattle.cf_volume.proofs.rewinds.rewind.Goals as goal

pub data_of-requires : goal.data_of-requires
data_of-requires c =
    let last = c.requires.1 in
    subst (λ (n : ℕ). are_apart n (clusters_of (map row_value c.restore_rows.new.rows.rows)) ≡ true) (sym c.clusters.ensures)
    (subst (λ (l : List rows.Row). are_apart (length c.args.parts.now.held) (clusters_of l) ≡ true) (sym (rows_again (known_of c.args.parts.now) c.requires.0 c.restore_rows.new.rows.rows last c.image_len.ensures.rises c.in_ok-restore_rows.ensures.rows)) last.apart)

pub returns-clause-rewinds : goal.returns-clause-rewinds
returns-clause-rewinds c = λ i last.
    let again = rows_again (known_of c.args.parts.now) i c.restore_rows.new.rows.rows last c.image_len.ensures.rises c.in_ok-restore_rows.ensures.rows in
    record {
      rows = again;
      records = records_again (known_of c.args.parts.now) i c.restore_records.new.records last c.image_len-2.ensures.rise c.in_ok-restore_records.ensures;
      next = c.in_ok-restore_rows.ensures.next;
      count = refl;
      clock = refl;
      last = refl;
      opens = subst (λ (l : List rows.Row). Opens (length c.args.parts.now.held) (clusters_of l) c.in_ok-data_of.field-0) again
          (subst (λ (n : ℕ). Opens n (clusters_of (map row_value c.restore_rows.new.rows.rows)) c.in_ok-data_of.field-0) c.clusters.ensures c.in_ok-data_of.ensures);
    }
