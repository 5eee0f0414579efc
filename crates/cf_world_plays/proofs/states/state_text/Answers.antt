use Rattle.std.proofs.Common.{sym, ◌∙◌, ap, subst}
use Rattle.cf_filter_events.specs.Meaning.{Is}
use Rattle.cf_filter_events.specs.declared.places.Acting.{Acting}
use Rattle.cf_world_plays.proofs.Standing.{text_on}
use Rattle.cf_table.specs.Tables.{MeansAll, Table}
use Rattle.cf_volume_points.specs.Known.{Known}
use Rattle.cf_world_plays.proofs.states.state_text.Goals as goal

pub returns-in-On : goal.returns-in-On
returns-in-On g c = λ past s is.
    let table = c.rows.ensures ∙ ap (λ (k : Known). k.table) c.volume-volume.ensures.known in
    text_on g.A.Actor.acts g.D.Disk.state past c.in-On.running s c.count.result c.epoch.result c.volume_line.result
    (c.count.ensures ∙ ap (λ (k : Known). k.count) c.volume-volume.ensures.known) (c.epoch.ensures ∙ ap (λ (k : Known). k.epoch) c.volume-volume.ensures.known)
    (λ items m. c.volume_line.ensures items (subst (λ (t : Table). MeansAll t.rows items) (sym table) m))
    (subst (λ (x : Acting _ _). Is g.A.Actor.acts g.D.Disk.state past x s) c.in-On.is is)
