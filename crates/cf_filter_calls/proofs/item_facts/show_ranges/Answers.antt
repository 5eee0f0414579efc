use Rattle.cf_base.specs.declared.policies.Class.TheVariants as class
use Rattle.cf_filter_calls.proofs.Shown.{class_shown}
use Rattle.cf_filter_calls.proofs.item_facts.show_ranges.Goals as goal

pub returns-in-OnDisk : goal.returns-in-OnDisk
returns-in-OnDisk c = λ i m small. class_shown c.args.row.now c.args.class class.OnDisk c.show_runs.result i c.in-OnDisk.is c.show_runs.ensures m small

pub returns-in-Validated : goal.returns-in-Validated
returns-in-Validated c = λ i m small. class_shown c.args.row.now c.args.class class.Validated c.show_runs-in-Validated.result i c.in-Validated.is c.show_runs-in-Validated.ensures m small

pub returns-in-Modified : goal.returns-in-Modified
returns-in-Modified c = λ i m small. class_shown c.args.row.now c.args.class class.Modified c.show_runs-in-Modified.result i c.in-Modified.is c.show_runs-in-Modified.ensures m small
