use Rattle.std.proofs.Common.{◌∙◌, ◌++◌, ap, map}
use Rattle.std.specs.Prelude.{filter}
use Rattle.cf_volume_commit.proofs.NotedIds.{differing}
use Rattle.cf_volume_commit.specs.Differing.{is_new}
use Rattle.cf_table.specs.declared.rows.Row.{Row}
use Rattle.cf_volume_commit.proofs.differences.changed_rows.Goals as goal

pub returns : goal.returns
returns c =
    let new = c.deref.ensures.value ∙ c.in_ok-new.ensures ∙ ap (map (λ (r : Row). r.id)) (c.rows_from.ensures ∙ ap (filter (is_new c.args.then.now.next)) c.as_slice-2.ensures.value) in
    c.in_ok-extend_from_slice.ensures.items ∙ (λ j. c.in_ok-ids.ensures j ++ new j) ∙ differing c.args.then.now c.args.now.now.rows c.image_len-2.ensures.rises c.image_len.ensures.rises
