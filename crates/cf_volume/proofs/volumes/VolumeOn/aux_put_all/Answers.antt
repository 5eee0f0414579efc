use Rattle.std.proofs.Common.{◌≡◌, sym, ◌∙◌}
use Rattle.cf_base.specs.declared.codes.Code.TheVariants as code
use Rattle.cf_volume.proofs.AuxKept.{aux_kept, aux_refused}
use Rattle.cf_volume.proofs.Views.{seen_at, seen_known, seen_listed}
use Rattle.cf_volume_changes.specs.Steady.{known_of}
use Rattle.cf_volume.proofs.volumes.VolumeOn.aux_put_all.Goals as goal

pub returns-in-Ok-clause-ok : goal.returns-in-Ok-clause-ok
returns-in-Ok-clause-ok g c = λ v b at has.
    c.in-Ok.ensures.ok v b (seen_at g.G.Ground.state v (sym c.self.view_is) at) (seen_listed v.book b c.args.records.now (sym c.self.view_is) has)

pub returns-in-Err-No-clause-why : goal.returns-in-Err-No-clause-why
returns-in-Err-No-clause-why g c = λ v b at has usable.
    let kept = aux_kept (known_of c.self.inside.parts) (known_of c.put_all.new.parts) c.put_all.result c.in-Err-No.field-0 c.in-Err-No.code c.in-Err-No.is c.in-Err-No.field-0-is c.put_all.ensures.kept in (
      kept.0,
      aux_refused v b c.put_all.result c.in-Err-No.field-0 c.in-Err-No.code c.in-Err-No.is c.in-Err-No.field-0-is
          (c.put_all.ensures.why v b (seen_at g.G.Ground.state v (sym c.self.view_is) at) (seen_listed v.book b c.args.records.now (sym c.self.view_is) has)),
      seen_known c.self.inside.ground (known_of c.self.inside.parts) (known_of c.put_all.new.parts) c.self.view_is kept.1,
    )

pub returns-in-Err-No-clause-breaks : goal.returns-in-Err-No-clause-breaks
returns-in-Err-No-clause-breaks g c = λ is.
    let kept = aux_kept (known_of c.self.inside.parts) (known_of c.put_all.new.parts) c.put_all.result c.in-Err-No.field-0 c.in-Err-No.code c.in-Err-No.is c.in-Err-No.field-0-is c.put_all.ensures.kept in
    let no : code.TableFull ≡ code.Device = sym kept.0 ∙ is in cc
