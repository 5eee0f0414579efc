use Rattle.std.proofs.Common.{◌≡◌, ◌∙◌, Bool, cond, inr, ap, sym, length, Some, None}
use Rattle.cf_base.specs.declared.codes.Code.TheVariants as code
use Rattle.cf_clusters.specs.Roles.{how_many, is_now}
use Rattle.cf_model.specs.Blocks.{puts_into}
use Rattle.cf_model.specs.Numbers.{usn_after}
use Rattle.cf_volume.proofs.Counting.{counted}
use Rattle.cf_volume_changes.proofs.Judged.{put_wanted, room_needed}
use Rattle.cf_volume_changes.proofs.NotThere.{absent_at, absent_puts, absent_why}
use Rattle.cf_volume_changes.specs.Steady.{known_of}
use Rattle.cf_volume_changes.specs.Waits.{passes}
use Rattle.cf_volume.proofs.record_changes.put_absent.Goals as goal

pub returns-then-is_full-clause-put : goal.returns-then-is_full-clause-put
returns-then-is_full-clause-put g c = λ v at.
    let test = c.is_full.ensures ∙ ap (passes c.args.parts.now.limit (how_many is_now c.args.parts.now.held)) c.clusters_asked-asked.ensures.asked in
    inr (absent_why (g.G.Ground.state c.args.ground.now) (known_of c.args.parts.now) v c.args.change.now at c.requires.kind c.requires.none c.is_full.result test c.requires.place
    ∙ ap (λ (b : Bool). cond b (Some code.Full) None) c.if-is_full.true)

pub returns-then-branch-clause-put : goal.returns-then-branch-clause-put
returns-then-branch-clause-put g c = λ v at.
    let test = c.is_full.ensures ∙ ap (passes c.args.parts.now.limit (how_many is_now c.args.parts.now.held)) c.clusters_asked-asked.ensures.asked in
    let puts : length (puts_into v.items c.args.change.now) ≡ c.clusters_asked-asked.result =
    absent_puts (g.G.Ground.state c.args.ground.now) (known_of c.args.parts.now) v c.args.change.now at c.requires.kind c.requires.none ∙ sym c.clusters_asked-asked.ensures.asked in (
      absent_why (g.G.Ground.state c.args.ground.now) (known_of c.args.parts.now) v c.args.change.now at c.requires.kind c.requires.none c.is_full.result test c.requires.place
          ∙ ap (λ (b : Bool). cond b (Some code.Full) None) c.if-is_full.false,
      room_needed (g.G.Ground.state c.args.ground.now) (known_of c.args.parts.now) v c.args.change.now c.clusters_asked-asked.result at.now puts (c.in_ok-waits_for_room.ensures.waits c.if-branch.true),
    )

pub returns-then-branch-clause-aimed : goal.returns-then-branch-clause-aimed
returns-then-branch-clause-aimed g c = λ v at. λ n wanted. c.in_ok-waits_for_room.ensures.wanted c.if-branch.true n wanted ∙ at.now.count

pub returns-clause-put : goal.returns-clause-put
returns-clause-put g c = λ v at.
    let test = c.is_full.ensures ∙ ap (passes c.args.parts.now.limit (how_many is_now c.args.parts.now.held)) c.clusters_asked-asked.ensures.asked in (
      λ i. usn_after (at.now.epoch i) (at.now.place i),
      absent_why (g.G.Ground.state c.args.ground.now) (known_of c.args.parts.now) v c.args.change.now at c.requires.kind c.requires.none c.is_full.result test c.requires.place
          ∙ ap (λ (b : Bool). cond b (Some code.Full) None) c.if-is_full.false,
      absent_at (g.G.Ground.state c.args.ground.now) (known_of c.args.parts.now) v c.args.change.now at c.requires.kind c.requires.none c.saturating_add-parts.result
          (counted c.args.parts.now.put_since c.clusters_asked-asked.result _ c.saturating_add-parts.result c.clusters_asked-asked.ensures.asked c.saturating_add-parts.ensures),
    )

pub returns-clause-aimed : goal.returns-clause-aimed
returns-clause-aimed g c = λ v at.
    let puts : length (puts_into v.items c.args.change.now) ≡ c.clusters_asked-asked.result =
    absent_puts (g.G.Ground.state c.args.ground.now) (known_of c.args.parts.now) v c.args.change.now at c.requires.kind c.requires.none ∙ sym c.clusters_asked-asked.ensures.asked in
    put_wanted (g.G.Ground.state c.args.ground.now) (known_of c.args.parts.now) v c.args.change.now c.clusters_asked-asked.result at.now puts
    (g.G.Ground.state c.args.ground.now).settings.aim (c.in_ok-waits_for_room.ensures.light c.if-branch.false)
