use Rattle.std.proofs.Common.{◌+◌, ℕ, List, arith, subst, sym, take, take_all}
use Rattle.cf_model.specs.Formats.{Image}
use Rattle.cf_volume_image.specs.Causes.{IsUnspelled}
use Rattle.cf_volume_image.specs.Drafts.{draft_image}
use Rattle.cf_volume_image.specs.Faults.{AtPayload}
use Rattle.cf_volume_image.specs.States.{IsAfterIn, TellsIn}
use Rattle.cf_volume_image.specs.declared.failures.ImageError.{ImageError}
use Rattle.cf_volume_image.proofs.CauseLaws.{next_text, payload_cause, text_there}
use Rattle.cf_volume_image.proofs.Told.{told_more}
use Rattle.cf_volume_image.proofs.openings.read_spelled.Goals as goal

pub loop-number-preserved : goal.loop-number-preserved
loop-number-preserved c =
    told_more c.args.format c.args.image.now (take c.loop-number.number c.args.payloads.now) (take (c.loop-number.number + 1) c.args.payloads.now) c.index-payloads-number.result _ _
    (next_text c.args.payloads.now c.loop-number.number c.index-payloads-number.result (omega (arith, c.loop-number-test.true)) c.index-payloads-number.is)
    c.loop-number.invariant
    (subst (λ (b : List ℕ). IsAfterIn c.args.format b (draft_image c.loop-number.draft) (draft_image c.read_payload.new.draft)) c.as_slice.ensures c.in-Ok-read_payload.ensures.ok)

pub returns-in-Err-read_payload-clause-cause : goal.returns-in-Err-read_payload-clause-cause
returns-in-Err-read_payload-clause-cause c =
    subst (λ (e : ImageError). IsUnspelled c.args.format c.args.image.now c.args.payloads.now e) (sym c.in_payload.ensures)
    (payload_cause c.args.format c.args.image.now c.index-payloads-number.result c.args.payloads.now c.loop-number.number (draft_image c.loop-number.draft) c.in-Err-read_payload.fault c.loop-number.invariant
    (text_there c.args.payloads.now c.loop-number.number c.index-payloads-number.result (omega (arith, c.loop-number-test.true)) c.index-payloads-number.is)
    (subst (λ (b : List ℕ). AtPayload c.args.format (record { place = 0; rest = b }) c.in-Err-read_payload.fault) c.as_slice.ensures c.in-Err-read_payload.ensures.fault))

pub returns-clause-told : goal.returns-clause-told
returns-clause-told c =
    subst (λ (i : Image). TellsIn c.args.format c.args.image.now c.args.payloads.now i) (sym c.in_ok-into_contents.ensures.image)
    (subst (λ (l : List (List ℕ)). TellsIn c.args.format c.args.image.now l (draft_image c.loop-number.draft)) (take_all c.loop-number.number c.args.payloads.now (omega (arith, c.loop-number-test.false))) c.loop-number.invariant)
