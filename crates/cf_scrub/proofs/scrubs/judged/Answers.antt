use Rattle.std.proofs.Common.{ℕ, List, inr, subst, sym}
use Rattle.cf_disk.specs.MemState.{mem_state}
use Rattle.cf_scrub.specs.Judgements.{AreDamages}
use Rattle.cf_volume_commit.specs.Damages.{IsDamage, IsFindCause}
use Rattle.cf_volume_commit.specs.Loaded.{IsNoVolume}
use Rattle.cf_volume_commit.specs.declared.damages.FindError.{FindError}
use Rattle.cf_scrub.proofs.scrubs.judged.Goals as goal

pub list_of-requires-clause-wrong : goal.list_of-requires-clause-wrong
list_of-requires-clause-wrong c =
    let cause = subst (λ (e : FindError). IsFindCause (mem_state c.args.disk.now) (mem_state c.read_volume.new.disk) e) c.in-Err-Damaged.field-0-is c.in-Err-Damaged.ensures.cause in
    subst (λ (b : List ℕ). IsDamage b c.in-Err-Damaged.first) (sym c.read_volume.ensures.reads.keeps.seen) cause.0

pub list_of-requires-clause-none : goal.list_of-requires-clause-none
list_of-requires-clause-none c =
    let cause = subst (λ (e : FindError). IsFindCause (mem_state c.args.disk.now) (mem_state c.read_volume.new.disk) e) c.in-Err-Damaged.field-0-is c.in-Err-Damaged.ensures.cause in
    subst (λ (b : List ℕ). IsNoVolume b) (sym c.read_volume.ensures.reads.keeps.seen) cause.1

pub returns-in_ok-list_of-in-Err-Damaged : goal.returns-in_ok-list_of-in-Err-Damaged
returns-in_ok-list_of-in-Err-Damaged c =
    let cause = subst (λ (e : FindError). IsFindCause (mem_state c.args.disk.now) (mem_state c.read_volume.new.disk) e) c.in-Err-Damaged.field-0-is c.in-Err-Damaged.ensures.cause in
    inr (
      c.requires.size,
      cause.1,
      subst (λ (b : List ℕ). AreDamages b c.in_ok-list_of-in-Err-Damaged.field-0.items) c.read_volume.ensures.reads.keeps.seen c.in_ok-list_of-in-Err-Damaged.ensures.list,
      c.in_ok-list_of-in-Err-Damaged.ensures.some,
    )
