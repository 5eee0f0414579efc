use Rattle.cf_wire.proofs.fitting.fits.Goals as goal

pub returns-in-Feed : goal.returns-in-Feed
returns-in-Feed g c = rw c.in-Feed.is (c.feed_fits.ensures c.args.settled c.in-Feed.after)

pub returns-in-List : goal.returns-in-List
returns-in-List g c = rw c.in-List.is (c.list_fits.ensures c.args.settled)

pub returns-in-Fetch : goal.returns-in-Fetch
returns-in-Fetch g c = rw c.in-Fetch.is (c.fetch_fits.ensures (g.L.LocalItems.known c.args.local.now) c.args.settled c.in-Fetch.rid c.in-Fetch.version)
