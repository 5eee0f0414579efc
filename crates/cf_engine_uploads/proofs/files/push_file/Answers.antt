use Rattle.cf_engine_steps.specs.Answering.{On}
use Rattle.cf_engine_uploads.proofs.Put.{item_none, put_by}
use Rattle.cf_engine_uploads.specs.Uploads.{IsWholeItem}
use Rattle.cf_model.specs.Books.{PutFile}
use Rattle.cf_engine_uploads.proofs.files.push_file.Goals as goal

pub returns-in_default : goal.returns-in_default
returns-in_default g c = λ i. item_none g.S.Steps.sense g.R.Remote.told c.args.s.now c.skip.new.s c.args.e.now c.skip.new.e c.next_token.result c.skip.result c.next_token.ensures (On (IsWholeItem c.args.id i)) PutFile i c.in_default.is c.skip.ensures

pub returns : goal.returns
returns g c = λ i. put_by g.S.Steps.sense g.R.Remote.told c.args.s.now c.push_bytes-done.new.s c.args.e.now c.push_bytes-done.new.e c.next_token.result c.push_bytes-done.result c.next_token.ensures c.in-Some.token c.in-Some.is c.args.id i c.in_ok-draft.draft c.in_ok-draft.ensures (c.push_bytes-done.ensures i)
