use Rattle.cf_engine_steps.proofs.Laws.{with_err}
use Rattle.cf_engine_steps.specs.States.{whole}
use Rattle.cf_engine_uploads.proofs.Put.{read_stops, read_then}
use Rattle.cf_engine_uploads.specs.Uploads.{MayPut}
use Rattle.cf_model.specs.Arrows.{unit}
use Rattle.cf_model.specs.Books.{PutFile}
use Rattle.cf_model.specs.Pushes.{push_item}
use Rattle.std.proofs.Common.{refl}
use Rattle.cf_engine_uploads.proofs.files.push_bytes.Goals as goal

pub returns-in_err-bytes : goal.returns-in_err-bytes
returns-in_err-bytes g c = λ i. with_err (whole g.S.Steps.sense g.R.Remote.told) (MayPut c.args.id i c.args.draft.now) (push_item PutFile i) (c.args.s.now, c.args.e.now) (c.retrieve.new.self, c.args.e.now) c.in_err-bytes.field-0.0 c.from_residual.result c.from_residual.ensures.1
    (read_stops g.S.Steps.sense g.R.Remote.told c.args.id i c.args.draft.now c.args.s.now c.retrieve.new.self c.args.e.now c.size_of.result c.size_of.ensures _ c.in_err-bytes.field-0.0 refl c.in_err-bytes.ensures.does)

pub returns : goal.returns
returns g c = λ i. read_then g.S.Steps.sense g.R.Remote.told c.args.id i c.args.draft.now c.args.s.now c.retrieve.new.self c.args.e.now c.size_of.result c.size_of.ensures _ c.push_draft.new.s c.push_draft.new.e c.in_ok-bytes.bytes unit c.push_draft.result refl c.in_ok-bytes.ensures.does c.in_ok-bytes.ensures.tells c.push_draft.ensures
