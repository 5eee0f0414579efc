use Rattle.std.proofs.Common.{◌∙◌, List, ap, find, sym, ℕ}
use Rattle.cf_table.specs.Tables.{id_of, is_child_row}
use Rattle.cf_engine_feed_plan.proofs.NamedRows.{off_none, off_other, off_same}
use Rattle.cf_engine_feed_plan.proofs.names.off.Goals as goal

pub returns-in-None : goal.returns-in-None
returns-in-None c = λ items m.
    off_none c.args.rows.now.rows items c.args.parent c.args.name.now c.args.but m
    (sym (c.child.ensures ∙ ap (λ (v : List ℕ). id_of (find (is_child_row c.args.parent v) c.args.rows.now.rows)) c.as_slice.ensures) ∙ c.in-None.is)

pub returns-then-eq : goal.returns-then-eq
returns-then-eq c = λ items m.
    off_same c.args.rows.now.rows items c.args.parent c.args.name.now c.in-Some.item c.args.but m
    (sym (c.child.ensures ∙ ap (λ (v : List ℕ). id_of (find (is_child_row c.args.parent v) c.args.rows.now.rows)) c.as_slice.ensures) ∙ c.in-Some.is) (sym c.eq.ensures ∙ c.if-eq.true)

pub returns-in_ok-name-in-Some : goal.returns-in_ok-name-in-Some
returns-in_ok-name-in-Some c = λ items m.
    off_other c.args.rows.now.rows items c.args.parent c.args.name.now c.in-Some.item c.args.but c.in_ok-name-in-Some.name m
    (sym (c.child.ensures ∙ ap (λ (v : List ℕ). id_of (find (is_child_row c.args.parent v) c.args.rows.now.rows)) c.as_slice.ensures) ∙ c.in-Some.is) (sym c.eq.ensures ∙ c.if-eq.false) (c.in_ok-name-in-Some.ensures items m)
