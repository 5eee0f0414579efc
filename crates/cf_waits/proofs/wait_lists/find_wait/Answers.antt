use Rattle.std.proofs.Common.{◌∙◌, Option, ap, sym}
use Rattle.cf_model.specs.Missing.{Wait}
use Rattle.cf_waits.specs.Books.{if_key}
use Rattle.cf_waits.specs.Rising.{wait_key}
use Rattle.cf_waits.proofs.ByNumber.{key_is}
use Rattle.cf_waits.proofs.wait_lists.find_wait.Goals as goal

pub returns : goal.returns
returns c = c.wait_by.ensures ∙ ap (λ (o : Option Wait). if_key wait_key c.args.wait.0 o) c.wait_at.ensures ∙ sym (key_is wait_key c.args.wait.0 c.args.waits.now c.requires)
