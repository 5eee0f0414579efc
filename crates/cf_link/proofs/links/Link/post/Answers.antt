use Rattle.cf_base.specs.declared.notices.Frame.TheVariants as frame
use Rattle.cf_link.proofs.Sending.{posts}
use Rattle.cf_link.proofs.links.Link.post.Goals as goal

pub returns-clause-posts : goal.returns-clause-posts
returns-clause-posts g c = posts g.R.Remote.told (frame.Request c.args.request) c.self.inside.net c.self.inside.remote c.self.inside.inline c.args.self.now c.send.new.net c.send.result c.self.view_is c.send.ensures.sends
