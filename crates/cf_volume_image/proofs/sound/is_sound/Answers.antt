use Rattle.std.proofs.Common.{◌≡◌, ◌∙◌, List, false, refl, subst, sym, true}
use Rattle.std.specs.Prelude.{map}
use Rattle.cf_model.specs.Standing.{AreSound, are_apart, clusters_of}
use Rattle.cf_table.specs.Spelling.{row_value}
use Rattle.cf_table.specs.declared.rows.Row.{Row}
use Rattle.cf_volume_image.specs.Contents.{header_of, image_of}
use Rattle.cf_volume_image.specs.Sound.{AllHoldBytes, IsSoundIn}
use Rattle.cf_volume_image.proofs.EachRow.{all_below}
use Rattle.cf_volume_image.proofs.SoundTests.{tree_from, tree_told}
use Rattle.cf_volume_image.proofs.WholeSound.{decided, small_of, sound_of, tree_of}
use Rattle.cf_volume_image.proofs.sound.is_sound.Goals as goal

pub returns-then-not-is_small : goal.returns-then-not-is_small
returns-then-not-is_small c = (λ z. let w : false ≡ true = z in absurd cc, λ s. c.if-not-is_small.ensures.1 (small_of c.args.format c.args.clusters c.args.contents.now s))

pub returns-then-not-are_sound : goal.returns-then-not-are_sound
returns-then-not-are_sound c = (
  λ z. let w : false ≡ true = z in absurd cc,
  λ s. (c.if-not-are_sound.ensures (header_of c.args.contents.now) (sym c.next.ensures) refl).1
      (subst (λ (l : List Row). AreSound (header_of c.args.contents.now) (map row_value l)) (sym c.as_slice-rows.ensures.value) s.rows),
)

pub returns-then-not-is_tree : goal.returns-then-not-is_tree
returns-then-not-is_tree c = (
  λ z. let w : false ≡ true = z in absurd cc,
  λ s. c.if-not-is_tree.ensures ∙ tree_told c.args.contents.now.rows.rows c.as_slice-rows.ensures.rises (tree_of c.args.format c.args.clusters c.args.contents.now s),
)

pub hold_bytes-requires : goal.hold_bytes-requires
hold_bytes-requires c = all_below (header_of c.args.contents.now) c.as_slice-rows.result.now ((c.are_sound.ensures (header_of c.args.contents.now) (sym c.next.ensures) refl).0 c.if-not-are_sound.false)

pub returns-then-not-hold_bytes : goal.returns-then-not-hold_bytes
returns-then-not-hold_bytes c = (
  λ z. let w : false ≡ true = z in absurd cc,
  λ s. c.if-not-hold_bytes.ensures.1 (subst (λ (l : List Row). AllHoldBytes (map row_value l)) (sym c.as_slice-rows.ensures.value) s.blocks),
)

pub returns : goal.returns
returns c =
    let sound = (c.are_sound.ensures (header_of c.args.contents.now) (sym c.next.ensures) refl).0 c.if-not-are_sound.false in
    decided c.are_apart.result (are_apart c.args.clusters (clusters_of (map row_value c.as_slice-rows.result.now))) (IsSoundIn c.args.format c.args.clusters (image_of c.args.contents.now)) c.are_apart.ensures (
      λ yes. sound_of c.args.format c.args.clusters c.args.contents.now (c.is_small.ensures.0 c.if-not-is_small.false)
          (subst (λ (l : List Row). AreSound (header_of c.args.contents.now) (map row_value l)) c.as_slice-rows.ensures.value sound)
          (tree_from c.args.contents.now.rows.rows c.as_slice-rows.ensures.rises (sym c.if-not-is_tree.ensures))
          (subst (λ (l : List Row). AllHoldBytes (map row_value l)) c.as_slice-rows.ensures.value (c.hold_bytes.ensures.0 c.if-not-hold_bytes.false))
          (subst (λ (l : List Row). are_apart c.args.clusters (clusters_of (map row_value l)) ≡ true) c.as_slice-rows.ensures.value yes),
      λ s. subst (λ (l : List Row). are_apart c.args.clusters (clusters_of (map row_value l)) ≡ true) (sym c.as_slice-rows.ensures.value) s.apart,
    )
