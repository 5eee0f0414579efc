use Rattle.std.proofs.Common.{◌∙◌, List, ap, find, sym, ℕ}
use Rattle.cf_model.specs.Numbers.{root_id}
use Rattle.cf_table.specs.Tables.{id_of, is_child_row}
use Rattle.cf_engine_feed_plan.proofs.NamedRows.{root_free, root_taken}
use Rattle.cf_engine_feed_plan.proofs.changed_entries.name_in_root.Goals as goal

pub returns-in-None : goal.returns-in-None
returns-in-None c = λ items p m mp.
    root_free c.args.rows.now.rows items p c.in_ok-name.name m (c.in_ok-name.ensures.0 ∙ c.as_slice.ensures ∙ mp.name)
    (sym (c.child.ensures ∙ ap (λ (v : List ℕ). id_of (find (is_child_row root_id v) c.args.rows.now.rows)) c.as_slice-2.ensures) ∙ c.in-None.is)

pub returns-in_ok-other-in-Some : goal.returns-in_ok-other-in-Some
returns-in_ok-other-in-Some c = λ items p m mp.
    root_taken c.args.rows.now.rows items p c.in_ok-name.name c.in_ok-other-in-Some.other c.in-Some.field-0 m (c.in_ok-name.ensures.0 ∙ c.as_slice.ensures ∙ mp.name)
    (sym (c.child.ensures ∙ ap (λ (v : List ℕ). id_of (find (is_child_row root_id v) c.args.rows.now.rows)) c.as_slice-2.ensures) ∙ c.in-Some.is) (c.in_ok-other-in-Some.ensures items m)
