use Rattle.std.proofs.Common.{refl, sym, subst}
use Rattle.cf_base.specs.declared.changes.Change.{Change}
use Rattle.cf_base.specs.declared.changes.Change.TheVariants as change
use Rattle.cf_table.specs.Changing.{Fits}
use Rattle.cf_table.specs.Tables.{row_of}
use Rattle.cf_volume_changes.proofs.Arrived.{copy_arrives}
use Rattle.cf_volume_changes.proofs.CopiedRows.{source_there}
use Rattle.cf_volume_changes.proofs.Puts.{some_row}
use Rattle.cf_volume_changes.specs.Calls.{IsPut}
use Rattle.cf_volume_changes.specs.Steady.{known_of}
use Rattle.cf_model.specs.Costs.{most_of_change}
use Rattle.cf_volume.specs.Written.{WritesAtMost}
use Rattle.cf_volume.specs.Accepted.{FollowsAim}
use Rattle.cf_volume.proofs.copy.files.put_copy.Goals as goal

pub returns-clause-put : goal.returns-clause-put
returns-clause-put g c = λ v at.
    let fits = subst (λ (x : Change). Fits x c.args.parts.now.contents.rows.rows) c.in-Copy.is c.requires.fits in
    let source = some_row (row_of c.args.parts.now.contents.rows.rows c.in-Copy.from) (source_there c.args.parts.now.contents.rows.rows c.in-Copy.from fits.2) in
    let copy = copy_arrives (g.G.Ground.state c.args.ground.now) (known_of c.args.parts.now) v c.in_ok-row-in-Copy.row source.0 c.in-Copy.item c.in-Copy.from c.in-Copy.parent c.in-Copy.name _ at.now refl source.1 (c.in_ok-row-in-Copy.ensures.means source.0 source.1) in
    subst (λ (x : Change). IsPut x v (g.G.Ground.state c.args.ground.now) (g.G.Ground.state c.put_judged.new.ground) (known_of c.put_judged.new.parts) c.put_judged.result) (sym c.in-Copy.is)
    (c.put_judged.ensures.put v (change.Copy c.in-Copy.item c.in-Copy.from c.in-Copy.parent c.in-Copy.name) copy.0 at copy.1)

pub returns-clause-written : goal.returns-clause-written
returns-clause-written g c = λ v at.
    let fits = subst (λ (x : Change). Fits x c.args.parts.now.contents.rows.rows) c.in-Copy.is c.requires.fits in
    let source = some_row (row_of c.args.parts.now.contents.rows.rows c.in-Copy.from) (source_there c.args.parts.now.contents.rows.rows c.in-Copy.from fits.2) in
    let copy = copy_arrives (g.G.Ground.state c.args.ground.now) (known_of c.args.parts.now) v c.in_ok-row-in-Copy.row source.0 c.in-Copy.item c.in-Copy.from c.in-Copy.parent c.in-Copy.name _ at.now refl source.1 (c.in_ok-row-in-Copy.ensures.means source.0 source.1) in
    subst (λ (x : Change). WritesAtMost (most_of_change v.items x) (g.G.Ground.state c.args.ground.now) (g.G.Ground.state c.put_judged.new.ground)) (sym c.in-Copy.is)
    (c.put_judged.ensures.written v (change.Copy c.in-Copy.item c.in-Copy.from c.in-Copy.parent c.in-Copy.name) copy.0 at copy.1)

pub returns-clause-aimed : goal.returns-clause-aimed
returns-clause-aimed g c = λ v at.
    let fits = subst (λ (x : Change). Fits x c.args.parts.now.contents.rows.rows) c.in-Copy.is c.requires.fits in
    let source = some_row (row_of c.args.parts.now.contents.rows.rows c.in-Copy.from) (source_there c.args.parts.now.contents.rows.rows c.in-Copy.from fits.2) in
    let copy = copy_arrives (g.G.Ground.state c.args.ground.now) (known_of c.args.parts.now) v c.in_ok-row-in-Copy.row source.0 c.in-Copy.item c.in-Copy.from c.in-Copy.parent c.in-Copy.name _ at.now refl source.1 (c.in_ok-row-in-Copy.ensures.means source.0 source.1) in
    subst (λ (x : Change). FollowsAim x v (g.G.Ground.state c.args.ground.now) c.put_judged.result) (sym c.in-Copy.is)
    (c.put_judged.ensures.aimed v (change.Copy c.in-Copy.item c.in-Copy.from c.in-Copy.parent c.in-Copy.name) copy.0 at copy.1)
