-- The damages of a state that is spelled, as a whole list. There are none just where it is the state of a volume.
use Rattle.std.specs.Prelude.{ℕ, Bool, true, false, List, [], length, is_some, nat_le, ◌&&◌, ◌∷◌, ◌++◌}
use Rattle.cf_base.specs.declared.limits.TheConstants.{MOST_ITEMS}
use Rattle.cf_codec.specs.declared.formats.Format.{Format}
use Rattle.cf_model.specs.Formats.{Image}
use Rattle.cf_model.specs.Numbers.{root_id}
use Rattle.cf_model.specs.Rows.{Extent, Row}
use Rattle.cf_scrub.specs.Blocks.{are_blocks_of, is_free, with_held}
use Rattle.cf_scrub.specs.RowTests.{has_sound_runs, is_sound_row}
use Rattle.cf_scrub.specs.Ways.{is_in_tree}
use Rattle.cf_scrub.specs.declared.damages.Damage.{Damage}
use Rattle.cf_scrub.specs.declared.damages.DamageKind.{DamageKind}
use Rattle.cf_scrub.specs.declared.damages.DamageKind.TheVariants as kind
use Rattle.cf_volume_image.specs.Contents.{row_at}
use Rattle.cf_volume_image.specs.Sound.{most_image_in}
use Rattle.cf_volume_image.specs.Spelled.{spell_image_in}

abbrev pub damage : DamageKind → ℕ → Damage
damage kind at = record { kind = kind; at = at }

-- a damage where a test fails
abbrev pub unless : Bool → DamageKind → ℕ → List Damage
unless true kind at = []
unless false kind at = damage kind at ∷ []

-- at most 10,000 rows, and an image within the limit of its format
abbrev pub is_within : Format → Image → Bool
is_within f i = nat_le (length i.rows) MOST_ITEMS && nat_le (length (spell_image_in f i)) (most_image_in f)

-- clusters that are held a second time, or are none of so many
abbrev pub cluster_damages : ℕ → List ℕ → List Extent → List Damage
cluster_damages clusters held [] = []
cluster_damages clusters held (e ∷ es) = unless (is_free clusters held e.cluster) kind.Cluster e.cluster ++ cluster_damages clusters (e.cluster ∷ held) es

abbrev pub row_damages : Image → ℕ → List ℕ → Row → List Damage
row_damages i clusters held r =
    unless (is_in_tree i.rows r) kind.Tree r.id.0
    ++ (unless (is_sound_row i.rows i.header.next i.header.last r) kind.Row r.id.0
    ++ (unless (has_sound_runs r) kind.Runs r.id.0
    ++ (unless (are_blocks_of r.extents r.here) kind.Extents r.id.0
    ++ cluster_damages clusters held r.extents)))

-- of rows one after the other, where those before them hold these clusters
abbrev pub rows_damages : Image → ℕ → List ℕ → List Row → List Damage
rows_damages i clusters held [] = []
rows_damages i clusters held (r ∷ rs) = row_damages i clusters held r ++ rows_damages i clusters (with_held held r.extents) rs

-- Of an image of the format on a disk of so many clusters: of the whole, of item 1 where there is none, and of each row.
abbrev pub damages : Format → ℕ → Image → List Damage
damages f clusters i =
    unless (is_within f i) kind.Large 0
    ++ (unless (is_some (row_at i.rows root_id)) kind.Tree 1
    ++ rows_damages i clusters [] i.rows)
