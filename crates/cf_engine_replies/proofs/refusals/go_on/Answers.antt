use Rattle.cf_base.specs.declared.messages.Why.TheVariants as why
use Rattle.cf_engine_queue.specs.Books.{entry_value}
use Rattle.cf_model.specs.PushReplies.{by_why}
use Rattle.cf_engine_replies.proofs.Parts.{by_known}
use Rattle.cf_engine_replies.proofs.refusals.go_on.Goals as goal

pub returns-in-Conflict : goal.returns-in-Conflict
returns-in-Conflict g c = by_known _ (λ w. by_why w (entry_value c.args.entry.now)) _ _ c.args.why why.Conflict _ c.in-Conflict.is c.lost_place.ensures

pub returns-in-NotThere : goal.returns-in-NotThere
returns-in-NotThere g c = by_known _ (λ w. by_why w (entry_value c.args.entry.now)) _ _ c.args.why why.NotThere _ c.in-NotThere.is c.lost_place-in-NotThere.ensures

pub returns-in-NameTaken : goal.returns-in-NameTaken
returns-in-NameTaken g c = by_known _ (λ w. by_why w (entry_value c.args.entry.now)) _ _ c.args.why why.NameTaken _ c.in-NameTaken.is c.name_taken.ensures

pub returns-in-NotEmpty : goal.returns-in-NotEmpty
returns-in-NotEmpty g c = by_known _ (λ w. by_why w (entry_value c.args.entry.now)) _ _ c.args.why why.NotEmpty _ c.in-NotEmpty.is c.not_empty.ensures

pub returns-in-Quota : goal.returns-in-Quota
returns-in-Quota g c = by_known _ (λ w. by_why w (entry_value c.args.entry.now)) _ _ c.args.why why.Quota _ c.in-Quota.is c.quota.ensures

pub returns-in-Loop : goal.returns-in-Loop
returns-in-Loop g c = by_known _ (λ w. by_why w (entry_value c.args.entry.now)) _ _ c.args.why why.Loop _ c.in-Loop.is c.nothing_further.ensures

pub returns-in-BadName : goal.returns-in-BadName
returns-in-BadName g c = by_known _ (λ w. by_why w (entry_value c.args.entry.now)) _ _ c.args.why why.BadName _ c.in-BadName.is c.nothing_further-in-BadName.ensures

pub returns-in-TooDeep : goal.returns-in-TooDeep
returns-in-TooDeep g c = by_known _ (λ w. by_why w (entry_value c.args.entry.now)) _ _ c.args.why why.TooDeep _ c.in-TooDeep.is c.nothing_further-in-TooDeep.ensures

pub returns-in-TooLarge : goal.returns-in-TooLarge
returns-in-TooLarge g c = by_known _ (λ w. by_why w (entry_value c.args.entry.now)) _ _ c.args.why why.TooLarge _ c.in-TooLarge.is c.nothing_further-in-TooLarge.ensures
