use Rattle.std.proofs.Common.{List, ℕ, ap, refl, subst}
use Rattle.cf_disk.specs.Images.{Held, IsImage, durable}
use Rattle.cf_disk.specs.Trails.{Trail}
use Rattle.cf_disk.proofs.ImageLaws.{image_near}
use Rattle.cf_disk.proofs.TraceLaws.{kept_push, moment_push, since_push, traced_push}
use Rattle.cf_disk.proofs.trace_disks.TraceDiskDisk.write.Goals as goal

pub invariant_of-self-2-clause-traced : goal.invariant_of-self-2-clause-traced
invariant_of-self-2-clause-traced c =
    traced_push (durable c.args.self.now.start.items) c.args.self.now.medium c.write.new.self c.args.self.now.calls.calls c.push.new.self.calls
    _ c.args.self.now.traced (ap (λ (t : Trail). t.calls) c.push.ensures) c.write.ensures.is

pub returns-then-spent-clause-crash : goal.returns-then-spent-clause-crash
returns-then-spent-clause-crash c = λ (image : List ℕ). λ is. image_near c.args.at c.args.bytes.now image c.args.self.now.medium c.requires c.args.self.now.whole
    (subst (λ (h : Held). IsImage h image) c.write.ensures.is is)

pub returns-clause-crash : goal.returns-clause-crash
returns-clause-crash c = λ (image : List ℕ). λ is. image_near c.args.at c.args.bytes.now image c.args.self.now.medium c.requires c.args.self.now.whole
    (subst (λ (h : Held). IsImage h image) c.write.ensures.is is)

pub returns-then-spent-clause-goes : goal.returns-then-spent-clause-goes
returns-then-spent-clause-goes c =
    let pushed = ap (λ (t : Trail). t.calls) c.push.ensures in
    let start = durable c.args.self.now.start.items in
    let calls = c.args.self.now.calls.calls in
    let traced = traced_push start c.args.self.now.medium c.write.new.self calls c.push.new.self.calls _ c.args.self.now.traced pushed c.write.ensures.is in
    record {
      later = moment_push c.args.self.now.before calls c.push.new.self.calls _ pushed;
      since = λ t image le left. since_push start c.write.new.self calls c.push.new.self.calls _ pushed traced c.args.self.now.before t image left;
      told = λ t le tells. (tells, λ image left. kept_push start c.write.new.self calls c.push.new.self.calls _ pushed traced c.args.self.now.before t image left);
      powers = refl;
      settings = refl;
    }

pub returns-clause-goes : goal.returns-clause-goes
returns-clause-goes c =
    let pushed = ap (λ (t : Trail). t.calls) c.push.ensures in
    let start = durable c.args.self.now.start.items in
    let calls = c.args.self.now.calls.calls in
    let traced = traced_push start c.args.self.now.medium c.write.new.self calls c.push.new.self.calls _ c.args.self.now.traced pushed c.write.ensures.is in
    record {
      later = moment_push c.args.self.now.before calls c.push.new.self.calls _ pushed;
      since = λ t image le left. since_push start c.write.new.self calls c.push.new.self.calls _ pushed traced c.args.self.now.before t image left;
      told = λ t le tells. (tells, λ image left. kept_push start c.write.new.self calls c.push.new.self.calls _ pushed traced c.args.self.now.before t image left);
      powers = refl;
      settings = refl;
    }
