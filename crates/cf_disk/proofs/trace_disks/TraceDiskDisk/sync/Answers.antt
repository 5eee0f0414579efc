use Rattle.std.proofs.Common.{List, ℕ, refl, ap, subst}
use Rattle.cf_disk.specs.Images.{Held, IsImage, durable}
use Rattle.cf_disk.specs.Trails.{Trail}
use Rattle.cf_disk.proofs.ImageLaws.{one_image}
use Rattle.cf_disk.proofs.TraceLaws.{kept_push, moment_push, since_push, traced_push}
use Rattle.cf_disk.proofs.trace_disks.TraceDiskDisk.sync.Goals as goal

pub invariant_of-self-then-is_spent-clause-traced : goal.invariant_of-self-then-is_spent-clause-traced
invariant_of-self-then-is_spent-clause-traced c =
    traced_push (durable c.args.self.now.start.items) c.args.self.now.medium c.args.self.now.medium c.args.self.now.calls.calls c.push.new.self.calls
    _ c.args.self.now.traced (ap (λ (t : Trail). t.calls) c.push.ensures) (rw c.sync_head.ensures refl)

pub invariant_of-self-2-clause-traced : goal.invariant_of-self-2-clause-traced
invariant_of-self-2-clause-traced c =
    traced_push (durable c.args.self.now.start.items) c.args.self.now.medium c.sync.new.self c.args.self.now.calls.calls c.push-2.new.self.calls
    _ c.args.self.now.traced (ap (λ (t : Trail). t.calls) c.push-2.ensures) (rw c.sync_head-2.ensures c.sync.ensures.is)

pub returns-clause-durable : goal.returns-clause-durable
returns-clause-durable c = λ (image : List ℕ). λ is. one_image _ image (subst (λ (h : Held). IsImage h image) c.sync.ensures.is is)

pub returns-then-is_spent-clause-goes : goal.returns-then-is_spent-clause-goes
returns-then-is_spent-clause-goes c =
    let pushed = ap (λ (t : Trail). t.calls) c.push.ensures in
    let start = durable c.args.self.now.start.items in
    let calls = c.args.self.now.calls.calls in
    let traced = traced_push start c.args.self.now.medium c.args.self.now.medium calls c.push.new.self.calls _ c.args.self.now.traced pushed (rw c.sync_head.ensures refl) in
    record {
      later = moment_push c.args.self.now.before calls c.push.new.self.calls _ pushed;
      since = λ t image le left. since_push start c.args.self.now.medium calls c.push.new.self.calls _ pushed traced c.args.self.now.before t image left;
      told = λ t le tells. (tells, λ image left. kept_push start c.args.self.now.medium calls c.push.new.self.calls _ pushed traced c.args.self.now.before t image left);
      powers = refl;
      settings = refl;
    }

pub returns-clause-goes : goal.returns-clause-goes
returns-clause-goes c =
    let pushed = ap (λ (t : Trail). t.calls) c.push-2.ensures in
    let start = durable c.args.self.now.start.items in
    let calls = c.args.self.now.calls.calls in
    let traced = traced_push start c.args.self.now.medium c.sync.new.self calls c.push-2.new.self.calls _ c.args.self.now.traced pushed (rw c.sync_head-2.ensures c.sync.ensures.is) in
    record {
      later = moment_push c.args.self.now.before calls c.push-2.new.self.calls _ pushed;
      since = λ t image le left. since_push start c.sync.new.self calls c.push-2.new.self.calls _ pushed traced c.args.self.now.before t image left;
      told = λ t le tells. (tells, λ image left. kept_push start c.sync.new.self calls c.push-2.new.self.calls _ pushed traced c.args.self.now.before t image left);
      powers = refl;
      settings = refl;
    }
