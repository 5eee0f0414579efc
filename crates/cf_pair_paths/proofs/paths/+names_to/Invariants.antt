use Rattle.cf_pair_paths.proofs.paths.+names_to.Given as goal

abbrev pub decreases-names_to : goal.decreases-names_to
decreases-names_to l = l.most
