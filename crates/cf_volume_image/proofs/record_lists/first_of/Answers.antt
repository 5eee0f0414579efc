use Rattle.std.proofs.Common.{◌∙◌, List, ap, sym, true}
use Rattle.std.specs.Prelude.{find}
use Rattle.cf_base.specs.declared.answers.AuxRecord.{AuxRecord}
use Rattle.cf_volume_image.proofs.record_lists.first_of.Goals as goal

pub returns-in-Some : goal.returns-in-Some
returns-in-Some c = ap (λ (l : List AuxRecord). find (λ r. true) l) (sym c.in-Some.ensures ∙ c.iter.ensures)

pub returns-in-None : goal.returns-in-None
returns-in-None c = ap (λ (l : List AuxRecord). find (λ r. true) l) (sym c.in-None.ensures ∙ c.iter.ensures)
