use Rattle.std.proofs.Common.{◌≡◌, ◌++◌, ℕ, List, subst}
use Rattle.std.specs.Prelude.{map}
use Rattle.cf_scrub.specs.Blocks.{AreMarks, with_held}
use Rattle.cf_scrub.specs.States.{cluster_damages}
use Rattle.cf_scrub.proofs.Pushed.{on_ok, row_pushed}
use Rattle.cf_table.specs.Spelling.{extent_of, row_value}
use Rattle.cf_volume_image.specs.Contents.{image_of}
use Rattle.cf_scrub.proofs.states.push_row.Goals as goal

pub returns : goal.returns
returns c = λ clusters held m. on_ok c.push_clusters.result (λ p. (
  row_pushed (image_of c.args.contents.now) clusters held (row_value c.args.row.now) c.args.out.now.items c.push_unless.new.out.items c.push_unless-2.new.out.items c.push_unless-3.new.out.items c.push_unless-4.new.out.items c.push_clusters.new.out.items
      c.is_in_tree.result _ c.has_sound_runs.result c.are_blocks_of.result c.is_in_tree.ensures c.in_ok-is_sound_row.ensures c.has_sound_runs.ensures c.are_blocks_of.ensures
      c.in_ok-push_unless.ensures c.in_ok-push_unless-2.ensures c.in_ok-push_unless-3.ensures c.in_ok-push_unless-4.ensures
      (subst (λ (es : List (ℕ × ℕ)). c.push_clusters.new.out.items ≡ c.push_unless-4.new.out.items ++ cluster_damages clusters held (map extent_of es)) c.pairs.ensures.value p.0),
  subst (λ (es : List (ℕ × ℕ)). AreMarks clusters (with_held held (map extent_of es)) c.push_clusters.new.marks.items) c.pairs.ensures.value p.1,
)) (c.push_clusters.ensures clusters held m)
