use Rattle.std.proofs.Common.{◌+◌, inl, inr, sym, ◌∙◌, ap, subst, arith}
use Rattle.std.proofs.lemmas.Bool.{true≢false}
use Rattle.cf_disk.specs.Disk.{Leaves, Settings}
use Rattle.cf_volume_points.proofs.Saves.{untouched, untouched_either}
use Rattle.cf_volume_points.specs.At.{StandsEither}
use Rattle.cf_volume_points.specs.Known.{Known}
use Rattle.cf_volume.proofs.Stopped.{handed_on, on_err}
use Rattle.cf_volume.proofs.WithRoom.{done_some, followed_none, followed_some, judged_none, kept_none, same_at}
use Rattle.cf_volume_changes.specs.Calls.{StopsOnly}
use Rattle.cf_volume_changes.specs.Steady.{known_of}
use Rattle.cf_model.specs.Costs.{most_of_change}
use Rattle.cf_volume.proofs.WrittenBytes.{stops_answer, writes_more}
use Rattle.cf_volume.specs.Written.{NotesOnly, WritesAtMost, commit_bytes, contents_in}
use Rattle.cf_table.specs.Changing.{item_of_change}
use Rattle.cf_volume.proofs.room_commits.accept_with_room.Goals as goal

pub returns-then-parts-clause-crash : goal.returns-then-parts-clause-crash
returns-then-parts-clause-crash g c = λ v at keep.
    untouched_either (g.G.Ground.state c.args.ground.now) (g.G.Ground.state c.args.ground.now) (known_of c.args.parts.now) v
    (record { same_size = g.met.G.Ground.same_size c.args.ground.now }) at

pub returns-then-parts-clause-kept_crash : goal.returns-then-parts-clause-kept_crash
returns-then-parts-clause-kept_crash g c = λ v at none.
    untouched (g.G.Ground.state c.args.ground.now) (g.G.Ground.state c.args.ground.now) (known_of c.args.parts.now) v
    (record { same_size = g.met.G.Ground.same_size c.args.ground.now }) at

pub returns-in_err-accept_after_commit-clause-crash : goal.returns-in_err-accept_after_commit-clause-crash
returns-in_err-accept_after_commit-clause-crash g c = λ v at keep.
    let none = sym c.is_some.ensures ∙ c.if-is_some.false in
    let same = kept_none c.args.ground.now c.accept.new.ground (known_of c.args.parts.now) (known_of c.accept.new.parts) c.in_ok-accept.field-0 none c.in_ok-accept.ensures.kept in
    let waits = judged_none c.args.change.now v c.in_ok-accept.field-0 none (c.in_ok-accept.ensures.judged v at) in
    subst (λ (d : _). Leaves (g.G.Ground.state d) (g.G.Ground.state c.accept_after_commit.new.ground) (StandsEither v)) same.0
    (c.in_err-accept_after_commit.ensures.crash v (same_at g.G.Ground.state c.args.ground.now c.accept.new.ground (known_of c.args.parts.now) (known_of c.accept.new.parts) v same at) (keep waits.1))

pub returns-clause-crash : goal.returns-clause-crash
returns-clause-crash g c = λ v at keep.
    let none = sym c.is_some.ensures ∙ c.if-is_some.false in
    let same = kept_none c.args.ground.now c.accept.new.ground (known_of c.args.parts.now) (known_of c.accept.new.parts) c.in_ok-accept.field-0 none c.in_ok-accept.ensures.kept in
    let waits = judged_none c.args.change.now v c.in_ok-accept.field-0 none (c.in_ok-accept.ensures.judged v at) in
    subst (λ (d : _). Leaves (g.G.Ground.state d) (g.G.Ground.state c.accept_after_commit.new.ground) (StandsEither v)) same.0
    (c.in_ok-accept_after_commit.ensures.crash v (same_at g.G.Ground.state c.args.ground.now c.accept.new.ground (known_of c.args.parts.now) (known_of c.accept.new.parts) v same at) (keep waits.1))

pub returns-in_err-accept_after_commit-clause-kept_crash : goal.returns-in_err-accept_after_commit-clause-kept_crash
returns-in_err-accept_after_commit-clause-kept_crash g c = λ v at none.
    let waits = judged_none c.args.change.now v c.in_ok-accept.field-0 (sym c.is_some.ensures ∙ c.if-is_some.false) (c.in_ok-accept.ensures.judged v at) in
    absurd (true≢false (sym waits.1 ∙ none))

pub returns-clause-kept_crash : goal.returns-clause-kept_crash
returns-clause-kept_crash g c = λ v at none.
    let waits = judged_none c.args.change.now v c.in_ok-accept.field-0 (sym c.is_some.ensures ∙ c.if-is_some.false) (c.in_ok-accept.ensures.judged v at) in
    absurd (true≢false (sym waits.1 ∙ none))

pub returns-in_err-accept-clause-written : goal.returns-in_err-accept-clause-written
returns-in_err-accept-clause-written g c = λ v at keep.
    writes_more (most_of_change v.items c.args.change.now) (commit_bytes (known_of c.args.parts.now) + most_of_change v.items c.args.change.now) (g.G.Ground.state c.args.ground.now) (g.G.Ground.state c.accept.new.ground) (omega arith) (c.in_err-accept.ensures.written v at)

pub returns-then-is_some-clause-written : goal.returns-then-is_some-clause-written
returns-then-is_some-clause-written g c = λ v at keep.
    writes_more (most_of_change v.items c.args.change.now) (commit_bytes (known_of c.args.parts.now) + most_of_change v.items c.args.change.now) (g.G.Ground.state c.args.ground.now) (g.G.Ground.state c.accept.new.ground) (omega arith) (c.in_ok-accept.ensures.written v at)

pub returns-in_err-accept_after_commit-clause-written : goal.returns-in_err-accept_after_commit-clause-written
returns-in_err-accept_after_commit-clause-written g c = λ v at keep.
    let none = sym c.is_some.ensures ∙ c.if-is_some.false in
    let same = kept_none c.args.ground.now c.accept.new.ground (known_of c.args.parts.now) (known_of c.accept.new.parts) c.in_ok-accept.field-0 none c.in_ok-accept.ensures.kept in
    let waits = judged_none c.args.change.now v c.in_ok-accept.field-0 none (c.in_ok-accept.ensures.judged v at) in
    subst (λ (k : Known). WritesAtMost (commit_bytes k + most_of_change v.items c.args.change.now) (g.G.Ground.state c.args.ground.now) (g.G.Ground.state c.accept_after_commit.new.ground)) same.1
    (subst (λ (d : _). WritesAtMost (commit_bytes (known_of c.accept.new.parts) + most_of_change v.items c.args.change.now) (g.G.Ground.state d) (g.G.Ground.state c.accept_after_commit.new.ground)) same.0
    (c.in_err-accept_after_commit.ensures.written v (same_at g.G.Ground.state c.args.ground.now c.accept.new.ground (known_of c.args.parts.now) (known_of c.accept.new.parts) v same at) (keep waits.1)))

pub returns-clause-written : goal.returns-clause-written
returns-clause-written g c = λ v at keep.
    let none = sym c.is_some.ensures ∙ c.if-is_some.false in
    let same = kept_none c.args.ground.now c.accept.new.ground (known_of c.args.parts.now) (known_of c.accept.new.parts) c.in_ok-accept.field-0 none c.in_ok-accept.ensures.kept in
    let waits = judged_none c.args.change.now v c.in_ok-accept.field-0 none (c.in_ok-accept.ensures.judged v at) in
    subst (λ (k : Known). WritesAtMost (commit_bytes k + most_of_change v.items c.args.change.now) (g.G.Ground.state c.args.ground.now) (g.G.Ground.state c.accept_after_commit.new.ground)) same.1
    (subst (λ (d : _). WritesAtMost (commit_bytes (known_of c.accept.new.parts) + most_of_change v.items c.args.change.now) (g.G.Ground.state d) (g.G.Ground.state c.accept_after_commit.new.ground)) same.0
    (c.in_ok-accept_after_commit.ensures.written v (same_at g.G.Ground.state c.args.ground.now c.accept.new.ground (known_of c.args.parts.now) (known_of c.accept.new.parts) v same at) (keep waits.1)))

pub returns-in_err-accept_after_commit-clause-kept_written : goal.returns-in_err-accept_after_commit-clause-kept_written
returns-in_err-accept_after_commit-clause-kept_written g c = λ v at none.
    let waits = judged_none c.args.change.now v c.in_ok-accept.field-0 (sym c.is_some.ensures ∙ c.if-is_some.false) (c.in_ok-accept.ensures.judged v at) in
    absurd (true≢false (sym waits.1 ∙ none))

pub returns-clause-kept_written : goal.returns-clause-kept_written
returns-clause-kept_written g c = λ v at none.
    let waits = judged_none c.args.change.now v c.in_ok-accept.field-0 (sym c.is_some.ensures ∙ c.if-is_some.false) (c.in_ok-accept.ensures.judged v at) in
    absurd (true≢false (sym waits.1 ∙ none))

pub returns-clause-noted : goal.returns-clause-noted
returns-clause-noted g c =
    let same = kept_none c.args.ground.now c.accept.new.ground (known_of c.args.parts.now) (known_of c.accept.new.parts) c.in_ok-accept.field-0 (sym c.is_some.ensures ∙ c.if-is_some.false) c.in_ok-accept.ensures.kept in
    subst (λ (k : Known). NotesOnly (item_of_change c.args.change.now) k (known_of c.accept_after_commit.new.parts)) same.1 c.in_ok-accept_after_commit.ensures.noted

pub returns-in_err-accept_after_commit-clause-why : goal.returns-in_err-accept_after_commit-clause-why
returns-in_err-accept_after_commit-clause-why g c = λ v at keep.
    let none = sym c.is_some.ensures ∙ c.if-is_some.false in
    let same = kept_none c.args.ground.now c.accept.new.ground (known_of c.args.parts.now) (known_of c.accept.new.parts) c.in_ok-accept.field-0 none c.in_ok-accept.ensures.kept in
    let waits = judged_none c.args.change.now v c.in_ok-accept.field-0 none (c.in_ok-accept.ensures.judged v at) in
    stops_answer c.args.change.now v _ _ c.from_residual-in_err-accept_after_commit.result c.from_residual-in_err-accept_after_commit.ensures.0
    (handed_on StopsOnly c.from_residual-in_err-accept_after_commit.result c.in_err-accept_after_commit.field-0.0 c.from_residual-in_err-accept_after_commit.ensures.1
    (c.in_err-accept_after_commit.ensures.only v (same_at g.G.Ground.state c.args.ground.now c.accept.new.ground (known_of c.args.parts.now) (known_of c.accept.new.parts) v same at) (keep waits.1) waits.0))

pub returns-in_err-accept_after_commit-clause-stays : goal.returns-in_err-accept_after_commit-clause-stays
returns-in_err-accept_after_commit-clause-stays g c =
    let same = kept_none c.args.ground.now c.accept.new.ground (known_of c.args.parts.now) (known_of c.accept.new.parts) c.in_ok-accept.field-0 (sym c.is_some.ensures ∙ c.if-is_some.false) c.in_ok-accept.ensures.kept in
    on_err c.from_residual-in_err-accept_after_commit.result (c.in_err-accept_after_commit.ensures.stays ∙ ap contents_in same.1)

pub returns-then-is_some-clause-done : goal.returns-then-is_some-clause-done
returns-then-is_some-clause-done g c = λ v at book keep.
    let some = sym c.is_some.ensures ∙ c.if-is_some.true in
    inl (record {
      at = done_some c.args.change.now v (g.G.Ground.state c.accept.new.ground) (known_of c.accept.new.parts) c.in_ok-accept.field-0 some (c.in_ok-accept.ensures.done v at book);
      unwanted = λ wanted.
          followed_some c.args.change.now v (g.G.Ground.state c.args.ground.now) c.in_ok-accept.field-0 some (c.in_ok-accept.ensures.aimed v at)
          (ap (λ (x : Settings). x.aim) (sym c.in_ok-accept.ensures.runs.settings) ∙ wanted);
    })

pub returns-clause-done : goal.returns-clause-done
returns-clause-done g c = λ v at book keep.
    let none = sym c.is_some.ensures ∙ c.if-is_some.false in
    let same = kept_none c.args.ground.now c.accept.new.ground (known_of c.args.parts.now) (known_of c.accept.new.parts) c.in_ok-accept.field-0 none c.in_ok-accept.ensures.kept in
    let waits = judged_none c.args.change.now v c.in_ok-accept.field-0 none (c.in_ok-accept.ensures.judged v at) in
    let settings = c.in_ok-accept_after_commit.ensures.runs.settings ∙ c.in_ok-accept.ensures.runs.settings in
    inr (record {
      needed = waits.1;
      wanted = λ n wanted. followed_none c.args.change.now v (g.G.Ground.state c.args.ground.now) c.in_ok-accept.field-0 none (c.in_ok-accept.ensures.aimed v at) n (ap (λ (x : Settings). x.aim) (sym settings) ∙ wanted);
      at = c.in_ok-accept_after_commit.ensures.done v (same_at g.G.Ground.state c.args.ground.now c.accept.new.ground (known_of c.args.parts.now) (known_of c.accept.new.parts) v same at) (keep waits.1) book;
    })
