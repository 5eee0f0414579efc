use Rattle.std.proofs.Common.{sym, ap, ◌∙◌}
use Rattle.std.specs.Prelude.{option_copied}
use Rattle.cf_engine_queue.specs.Books.{entry_value}
use Rattle.cf_base.specs.declared.codes.CallError.TheVariants.{OutOfMemory}
use Rattle.cf_engine_steps.specs.Answering.{Any}
use Rattle.cf_engine_steps.specs.States.{whole}
use Rattle.cf_model.specs.PushReplies.{done_upload}
use Rattle.cf_engine_steps.proofs.Laws.{with_err}
use Rattle.cf_engine_steps.proofs.Noted.{no_memory}
use Rattle.cf_engine_replies.proofs.Uploaded.{upload_gone, upload_here}
use Rattle.cf_engine_replies.proofs.done.done_upload.Goals as goal

pub returns-in_default : goal.returns-in_default
returns-in_default g c = upload_gone g.S.Steps.sense g.R.Remote.told (entry_value c.args.entry.now) c.args.rid c.args.version c.rows.result.now c.args.s.now c.bury_new.new.s c.args.e.now c.bury_new.new.e c.bury_new.result c.rows.ensures.means (sym c.get.ensures ∙ ap option_copied c.in_default.is) c.bury_new.ensures

pub returns-in_err-change : goal.returns-in_err-change
returns-in_err-change g c = with_err (whole g.S.Steps.sense g.R.Remote.told) Any (done_upload (entry_value c.args.entry.now) c.args.rid c.args.version) (c.args.s.now, c.args.e.now) (c.args.s.now, c.args.e.now) OutOfMemory c.from_residual.result c.from_residual.ensures.1 (no_memory (whole g.S.Steps.sense g.R.Remote.told) Any (done_upload (entry_value c.args.entry.now) c.args.rid c.args.version) (c.args.s.now, c.args.e.now))

pub returns : goal.returns
returns g c = upload_here g.S.Steps.sense g.R.Remote.told (entry_value c.args.entry.now) c.args.rid c.args.version c.rows.result.now c.args.s.now c.rebase-done.new.s c.args.e.now c.rebase-done.new.e c.rebase-done.result c.rows.ensures.means c.in-Some.row.now c.in_ok-change.change (sym c.get.ensures ∙ ap option_copied c.in-Some.is) c.in_ok-change.ensures c.rebase-done.ensures
