-- A search does not find the lemma, which is the clause.
use Rattle.cf_model_convergence.proofs.FeedsTold.{tells_all}
use Rattle.cf_model_convergence.proofs.remotes.a_feed_tells_what_was_changed.Goals as goal

pub returns-clause-all : goal.returns-clause-all
returns-clause-all c = tells_all
