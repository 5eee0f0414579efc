use Rattle.std.proofs.Common.{◌∙◌, List, ap, length, min, subst}
use Rattle.cf_filter_events.specs.Meaning.{Is}
use Rattle.cf_filter_events.specs.declared.places.Acting.{Acting}
use Rattle.cf_world_plays.proofs.Standing.{used_on}
use Rattle.cf_table.specs.Tables.{Table}
use Rattle.cf_table.specs.declared.rows.Row.{Row}
use Rattle.cf_volume_points.specs.Clusters.{clusters_in_rows}
use Rattle.cf_volume_points.specs.Known.{Known}
use Rattle.cf_world_plays.proofs.states.used_blocks.Goals as goal

pub returns-in-On : goal.returns-in-On
returns-in-On g c = λ past s is.
    let rows = c.as_slice.ensures.value ∙ ap (λ (t : Table). t.rows) (c.rows.ensures ∙ ap (λ (k : Known). k.table) c.volume.ensures.known) in
    used_on g.A.Actor.acts g.D.Disk.state past g.met.D.Disk.reads_one c.in-On.running s c.clusters_in.result (c.clusters_in.ensures ∙ ap (λ (rs : List Row). min (length (clusters_in_rows rs)) 4294967295) rows)
    (subst (λ (x : Acting _ _). Is g.A.Actor.acts g.D.Disk.state past x s) c.in-On.is is)
