use Rattle.cf_pair_traces.proofs.EqualTrees.{contents_agree}
use Rattle.cf_pair_traces.proofs.laws.equal_files_have_equal_contents.Goals as goal

pub returns : goal.returns
returns c = contents_agree
