use Rattle.std.proofs.Common.{sym, ◌∙◌, inr}
use Rattle.cf_model.specs.Numbers.{usn_after}
use Rattle.cf_table.specs.Tables.{row_of}
use Rattle.cf_volume.proofs.CopyPut.{copy_puts}
use Rattle.cf_volume_changes.proofs.Judged.{put_wanted, room_needed}
use Rattle.cf_volume_changes.proofs.Puts.{some_row}
use Rattle.cf_volume_changes.specs.Steady.{known_of}
use Rattle.cf_volume.proofs.WrittenBytes.{puts_write}
use Rattle.cf_volume_changes.proofs.Resting.{now_is}
use Rattle.cf_volume.proofs.copy.files.put_judged.Goals as goal

pub returns-in-Some-clause-put : goal.returns-in-Some-clause-put
returns-in-Some-clause-put g c = λ v change i at copy.
    let source = some_row (row_of c.args.parts.now.contents.rows.rows c.args.from) c.requires.there in
    let puts = copy_puts (g.G.Ground.state c.args.ground.now) (known_of c.args.parts.now) v change c.args.row source.0 i c.args.from at source.1 copy ∙ sym (c.block_count-blocks.ensures source.0 source.1) in
    inr (c.in-Some.ensures.why (g.G.Ground.state c.args.ground.now).seen v change i (now_is (g.G.Ground.state c.args.ground.now) (known_of c.args.parts.now) v at.now) copy.arrives puts)

pub returns-then-waits-clause-put : goal.returns-then-waits-clause-put
returns-then-waits-clause-put g c = λ v change i at copy.
    let source = some_row (row_of c.args.parts.now.contents.rows.rows c.args.from) c.requires.there in
    let puts = copy_puts (g.G.Ground.state c.args.ground.now) (known_of c.args.parts.now) v change c.args.row source.0 i c.args.from at source.1 copy ∙ sym (c.block_count-blocks.ensures source.0 source.1) in (
      c.in_default.ensures.why (g.G.Ground.state c.args.ground.now).seen v change i (now_is (g.G.Ground.state c.args.ground.now) (known_of c.args.parts.now) v at.now) copy.arrives puts,
      room_needed (g.G.Ground.state c.args.ground.now) (known_of c.args.parts.now) v change c.block_count-blocks.result at.now puts (c.in-Ok.ensures.waits c.if-waits.true),
    )

pub returns-in-Ok-put_copied-clause-put : goal.returns-in-Ok-put_copied-clause-put
returns-in-Ok-put_copied-clause-put g c = λ v change i at copy.
    let source = some_row (row_of c.args.parts.now.contents.rows.rows c.args.from) c.requires.there in
    let puts = copy_puts (g.G.Ground.state c.args.ground.now) (known_of c.args.parts.now) v change c.args.row source.0 i c.args.from at source.1 copy ∙ sym (c.block_count-blocks.ensures source.0 source.1) in (
      c.requires.number ∙ (λ j. usn_after (at.now.epoch j) (at.now.place j)),
      c.in_default.ensures.why (g.G.Ground.state c.args.ground.now).seen v change i (now_is (g.G.Ground.state c.args.ground.now) (known_of c.args.parts.now) v at.now) copy.arrives puts,
      c.in-Ok-put_copied.ensures.at v change i at copy (c.in_default.ensures.fits (g.G.Ground.state c.args.ground.now).seen v change i (now_is (g.G.Ground.state c.args.ground.now) (known_of c.args.parts.now) v at.now) copy.arrives),
    )

pub returns-in-Ok-put_copied-clause-written : goal.returns-in-Ok-put_copied-clause-written
returns-in-Ok-put_copied-clause-written g c = λ v change i at copy.
    let source = some_row (row_of c.args.parts.now.contents.rows.rows c.args.from) c.requires.there in
    puts_write (g.G.Ground.state c.args.ground.now) (g.G.Ground.state c.put_copied.new.ground) v change _
    (copy_puts (g.G.Ground.state c.args.ground.now) (known_of c.args.parts.now) v change c.args.row source.0 i c.args.from at source.1 copy) (c.in-Ok-put_copied.ensures.ran source.0 source.1)

pub returns-in-Err-put_copied-clause-written : goal.returns-in-Err-put_copied-clause-written
returns-in-Err-put_copied-clause-written g c = λ v change i at copy.
    let source = some_row (row_of c.args.parts.now.contents.rows.rows c.args.from) c.requires.there in
    puts_write (g.G.Ground.state c.args.ground.now) (g.G.Ground.state c.put_copied.new.ground) v change _
    (copy_puts (g.G.Ground.state c.args.ground.now) (known_of c.args.parts.now) v change c.args.row source.0 i c.args.from at source.1 copy) (c.in-Err-put_copied.ensures.ran source.0 source.1)

pub returns-then-waits-clause-aimed : goal.returns-then-waits-clause-aimed
returns-then-waits-clause-aimed g c = λ v change i at copy. λ n wanted. c.in-Ok.ensures.wanted c.if-waits.true n wanted ∙ at.now.count

pub returns-in-Ok-put_copied-clause-aimed : goal.returns-in-Ok-put_copied-clause-aimed
returns-in-Ok-put_copied-clause-aimed g c = λ v change i at copy.
    let source = some_row (row_of c.args.parts.now.contents.rows.rows c.args.from) c.requires.there in
    let puts = copy_puts (g.G.Ground.state c.args.ground.now) (known_of c.args.parts.now) v change c.args.row source.0 i c.args.from at source.1 copy ∙ sym (c.block_count-blocks.ensures source.0 source.1) in
    put_wanted (g.G.Ground.state c.args.ground.now) (known_of c.args.parts.now) v change c.block_count-blocks.result at.now puts
    (g.G.Ground.state c.args.ground.now).settings.aim (c.in-Ok.ensures.light c.if-waits.false)
