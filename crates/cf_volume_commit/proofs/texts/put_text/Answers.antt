use Rattle.std.proofs.Common.{refl, sym, ◌∙◌}
use Rattle.cf_volume_commit.proofs.Appended.{follows_leads, in_text, on_ok_map, saving, tells_rewritten, untouched}
use Rattle.cf_volume_image.specs.Contents.{image_of}
use Rattle.cf_journal.specs.Content.{appended, rewritten}
use Rattle.cf_volume_commit.proofs.texts.put_text.Goals as goal

pub returns-in_err-image-in-None-clause-crash : goal.returns-in_err-image-in-None-clause-crash
returns-in_err-image-in-None-clause-crash g c = λ x image settled f.
    untouched (g.D.Disk.state c.args.disk.now) c.args.journal.now x (image_of c.args.contents.now) (g.met.D.Disk.same_size c.args.disk.now) settled

pub returns-in-Some-clause-saved : goal.returns-in-Some-clause-saved
returns-in-Some-clause-saved g c = λ x image settled f.
    on_ok_map c.append.result
    (λ done. (appended x c.in-Some.text.now, done, sym settled.format ∙ c.in-Some.ensures.room.0, follows_leads x c.args.text.now c.in-Some.text.now image c.args.contents.now (sym settled.format ∙ c.in-Some.ensures.room.0) (in_text c.args.journal.now c.args.text.now c.in-Some.text.now c.in-Some.ensures.text) f))
    (c.append.ensures.ok x settled)

pub returns-in-Some-clause-crash : goal.returns-in-Some-clause-crash
returns-in-Some-clause-crash g c = λ x image settled f.
    saving (g.D.Disk.state c.args.disk.now) (g.D.Disk.state c.append.new.disk) x (appended x c.in-Some.text.now) (image_of c.args.contents.now) (sym settled.format ∙ c.in-Some.ensures.room.0)
    (follows_leads x c.args.text.now c.in-Some.text.now image c.args.contents.now (sym settled.format ∙ c.in-Some.ensures.room.0) (in_text c.args.journal.now c.args.text.now c.in-Some.text.now c.in-Some.ensures.text) f)
    (c.append.ensures.crash x settled)

pub returns-in_ok-image-in-None-clause-saved : goal.returns-in_ok-image-in-None-clause-saved
returns-in_ok-image-in-None-clause-saved g c = λ x image settled f.
    on_ok_map c.rewrite.result
    (λ done. (rewritten c.as_slice.result.now, done, refl, tells_rewritten c.as_slice.result.now (image_of c.args.contents.now) f.is_image (c.as_slice.ensures ∙ c.in_ok-image-in-None.ensures)))
    (c.rewrite.ensures.ok x settled)

pub returns-in_ok-image-in-None-clause-crash : goal.returns-in_ok-image-in-None-clause-crash
returns-in_ok-image-in-None-clause-crash g c = λ x image settled f.
    saving (g.D.Disk.state c.args.disk.now) (g.D.Disk.state c.rewrite.new.disk) x (rewritten c.as_slice.result.now) (image_of c.args.contents.now) refl
    (tells_rewritten c.as_slice.result.now (image_of c.args.contents.now) f.is_image (c.as_slice.ensures ∙ c.in_ok-image-in-None.ensures))
    (c.rewrite.ensures.crash x settled)
