use Rattle.std.proofs.Common.{◌≡◌, Option, ap, subst, sym}
use Rattle.std.specs.Prelude.{option_copied}
use Rattle.cf_model.specs.Items.{Item}
use Rattle.cf_table.specs.declared.rows.Row.{Row}
use Rattle.cf_engine_feed_plan.specs.Lists.{turn_steps}
use Rattle.cf_engine_feed_plan.specs.Premises.{FoundAs}
use Rattle.cf_engine_feed_plan.proofs.FoundRows.{found_none, found_some}
use Rattle.cf_engine_feed_plan.proofs.turns.turn_by_rows.Goals as goal

pub returns-in_ok-turn-in-None : goal.returns-in_ok-turn-in-None
returns-in_ok-turn-in-None c = λ items o p m t ho hp.
    subst (λ (q : Option Item). c.in_ok-turn-in-None.turn ≡ turn_steps c.args.policy.now c.args.rows.now.next c.args.last c.args.known.now.in_use items (option_copied c.args.known.now.seen) c.args.entry.now q p)
    (sym (found_none o (subst (λ (q : Option Row). FoundAs q o) (ap option_copied c.in-None.is) (c.row_of.ensures items o m ho))))
    (c.in_ok-turn-in-None.ensures items p m t (c.row_of-parent.ensures items p m hp))

pub returns-in_ok-turn-in-Some : goal.returns-in_ok-turn-in-Some
returns-in_ok-turn-in-Some c = λ items o p m t ho hp.
    let f = found_some c.in-Some.row.now o (subst (λ (q : Option Row). FoundAs q o) (ap option_copied c.in-Some.is) (c.row_of.ensures items o m ho)) in
    subst (λ (q : Option Item). c.in_ok-turn-in-Some.turn ≡ turn_steps c.args.policy.now c.args.rows.now.next c.args.last c.args.known.now.in_use items (option_copied c.args.known.now.seen) c.args.entry.now q p)
    (sym f.is) (c.in_ok-turn-in-Some.ensures items f.item p m t f.means (c.row_of-parent.ensures items p m hp))
