use Rattle.std.proofs.Common.{◌≡◌, ◌+◌, ◌++◌, ◌∙◌, List, ap, append-nil, arith, refl, sym, subst, drop, Vec, Global}
use Rattle.cf_base.specs.declared.ids.ItemId.{ItemId}
use Rattle.cf_table.specs.declared.rows.Row.{Row}
use Rattle.cf_volume_image.proofs.Loops.{drop_end}
use Rattle.cf_volume_commit.specs.Differing.{is_row_left}
use Rattle.cf_volume_commit.proofs.KeySteps.{keep_part, parts, skip_part}
use Rattle.cf_volume_commit.proofs.differences.rows_left.Goals.{then-is_row_left+in_ok-push, else-is_row_left}
use Rattle.cf_volume_commit.proofs.differences.rows_left.Goals as goal

pub loop-row-preserved : goal.loop-row-preserved
loop-row-preserved c = elim c.if-is_row_left.branch [
  | then-is_row_left+in_ok-push w ↦
      subst (λ (k : Vec ItemId Global). k.items ++ parts (λ (r : Row). r.id) (is_row_left c.args.then.now c.args.now.now.rows) (drop (c.loop-row.row-index + 1) c.args.noted.now) ≡ parts (λ (r : Row). r.id) (is_row_left c.args.then.now c.args.now.now.rows) c.args.noted.now) (sym w.ids-is)
      (keep_part (λ (r : Row). r.id) (is_row_left c.args.then.now c.args.now.now.rows) c.args.noted.now c.loop-row.row-index c.row-item.result c.loop-row.ids.items w.push.new.self.items _ _ c.loop-row-test.true c.row-item.is w.if-is_row_left.ensures refl w.in_ok-push.ensures.items c.loop-row.invariant)
  | else-is_row_left w ↦
      subst (λ (k : Vec ItemId Global). k.items ++ parts (λ (r : Row). r.id) (is_row_left c.args.then.now c.args.now.now.rows) (drop (c.loop-row.row-index + 1) c.args.noted.now) ≡ parts (λ (r : Row). r.id) (is_row_left c.args.then.now c.args.now.now.rows) c.args.noted.now) (sym w.ids-is)
      (skip_part (λ (r : Row). r.id) (is_row_left c.args.then.now c.args.now.now.rows) c.args.noted.now c.loop-row.row-index c.row-item.result c.loop-row.ids.items _ c.loop-row-test.true c.row-item.is w.if-is_row_left.ensures c.loop-row.invariant)
]

pub returns : goal.returns
returns c =
    sym (append-nil c.loop-row.ids.items) ∙ ap (λ (l : List Row). c.loop-row.ids.items ++ parts (λ (r : Row). r.id) (is_row_left c.args.then.now c.args.now.now.rows) l) (sym (drop_end c.args.noted.now c.loop-row.row-index (omega arith)))
    ∙ c.loop-row.invariant ∙ ap (parts (λ (r : Row). r.id) (is_row_left c.args.then.now c.args.now.now.rows)) c.requires
