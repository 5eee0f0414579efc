use Rattle.std.proofs.Common.{List, ap}
use Rattle.std.specs.Prelude.{map}
use Rattle.cf_scrub.proofs.Pushed.{all_pushed}
use Rattle.cf_table.specs.Spelling.{row_value}
use Rattle.cf_table.specs.declared.rows.Row.{Row}
use Rattle.cf_volume_image.specs.Contents.{image_of}
use Rattle.cf_scrub.proofs.states.damages_of.Goals as goal

pub returns-clause-list : goal.returns-clause-list
returns-clause-list c =
    all_pushed c.args.format c.args.clusters (image_of c.args.contents.now) (map row_value c.as_slice.result.now) c.new-out.result.items c.push_unless.new.out.items c.push_unless-2.new.out.items c.push_rows.new.out.items c.is_within.result c.has_root.result
    c.new-out.ensures.items (ap (λ (l : List Row). map row_value l) c.as_slice.ensures.value) c.is_within.ensures c.has_root.ensures c.in_ok-push_unless.ensures c.in_ok-push_unless-2.ensures c.in_ok-push_rows.ensures
