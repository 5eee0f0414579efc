use Rattle.std.proofs.Common.{List, ap, subst}
use Rattle.cf_base.specs.declared.messages.Entry.{Entry}
use Rattle.cf_engine_messages.proofs.Operated.{as_arrow}
use Rattle.cf_engine_messages.specs.UploadReplies.{at_entry, done_by, refused_by}
use Rattle.cf_engine_steps.specs.Answering.{Answers, Any}
use Rattle.cf_engine_steps.specs.States.{whole}
use Rattle.cf_model.specs.Feeds.{apply_feed}
use Rattle.cf_model.specs.Fetching.{take_bytes, take_gone, take_listing, take_missing}
use Rattle.cf_model.specs.Messages.{act_on}
use Rattle.cf_model.specs.PushReplies.{take_void}
use Rattle.cf_engine_messages.proofs.replies.act_on.Goals as goal

pub returns-in-Bytes : goal.returns-in-Bytes
returns-in-Bytes g c = as_arrow (whole g.S.Steps.sense g.R.Remote.told) (take_bytes c.in-Bytes.key c.in-Bytes.start c.in-Bytes.bytes) (act_on c.args.reply) (c.args.s.now, c.args.e.now) (c.take_bytes.new.s, c.take_bytes.new.e) c.take_bytes.result (ap act_on c.in-Bytes.is) c.take_bytes.ensures

pub returns-in-Missing : goal.returns-in-Missing
returns-in-Missing g c = as_arrow (whole g.S.Steps.sense g.R.Remote.told) (take_missing c.in-Missing.key) (act_on c.args.reply) (c.args.s.now, c.args.e.now) (c.take_missing.new.s, c.take_missing.new.e) c.take_missing.result (ap act_on c.in-Missing.is) c.take_missing.ensures

pub returns-in-Gone : goal.returns-in-Gone
returns-in-Gone g c = as_arrow (whole g.S.Steps.sense g.R.Remote.told) (take_gone c.in-Gone.key) (act_on c.args.reply) (c.args.s.now, c.args.e.now) (c.take_gone.new.s, c.take_gone.new.e) c.take_gone.result (ap act_on c.in-Gone.is) c.take_gone.ensures

pub returns-in-Listing : goal.returns-in-Listing
returns-in-Listing g c = as_arrow (whole g.S.Steps.sense g.R.Remote.told) (take_listing c.in-Listing.key c.in-Listing.entries) (act_on c.args.reply) (c.args.s.now, c.args.e.now) (c.take_listing-done.new.s, c.take_listing-done.new.e) c.take_listing-done.result (ap act_on c.in-Listing.is) (subst (λ (l : List Entry). Answers (whole g.S.Steps.sense g.R.Remote.told) Any (take_listing c.in-Listing.key l) (c.args.s.now, c.args.e.now) c.take_listing-done.result (c.take_listing-done.new.s, c.take_listing-done.new.e)) c.as_slice.ensures c.take_listing-done.ensures)

pub returns-in-Feed : goal.returns-in-Feed
returns-in-Feed g c = as_arrow (whole g.S.Steps.sense g.R.Remote.told) (apply_feed c.in-Feed.clock c.in-Feed.entries) (act_on c.args.reply) (c.args.s.now, c.args.e.now) (c.apply_feed-done.new.s, c.apply_feed-done.new.e) c.apply_feed-done.result (ap act_on c.in-Feed.is) (subst (λ (l : List Entry). Answers (whole g.S.Steps.sense g.R.Remote.told) Any (apply_feed c.in-Feed.clock l) (c.args.s.now, c.args.e.now) c.apply_feed-done.result (c.apply_feed-done.new.s, c.apply_feed-done.new.e)) c.as_slice-in-Feed.ensures c.apply_feed-done.ensures)

pub returns-in-Done : goal.returns-in-Done
returns-in-Done g c = as_arrow (whole g.S.Steps.sense g.R.Remote.told) (at_entry (done_by c.in-Done.rid c.in-Done.version) c.in-Done.token) (act_on c.args.reply) (c.args.s.now, c.args.e.now) (c.take_done.new.s, c.take_done.new.e) c.take_done.result (ap act_on c.in-Done.is) c.take_done.ensures

pub returns-in-Void : goal.returns-in-Void
returns-in-Void g c = as_arrow (whole g.S.Steps.sense g.R.Remote.told) (at_entry take_void c.in-Void.token) (act_on c.args.reply) (c.args.s.now, c.args.e.now) (c.take_void.new.s, c.take_void.new.e) c.take_void.result (ap act_on c.in-Void.is) c.take_void.ensures

pub returns-in-Refused : goal.returns-in-Refused
returns-in-Refused g c = as_arrow (whole g.S.Steps.sense g.R.Remote.told) (at_entry (refused_by c.in-Refused.why) c.in-Refused.token) (act_on c.args.reply) (c.args.s.now, c.args.e.now) (c.take_refused.new.s, c.take_refused.new.e) c.take_refused.result (ap act_on c.in-Refused.is) c.take_refused.ensures
