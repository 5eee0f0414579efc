use Rattle.std.proofs.Common.{◌*◌, ℕ, List, length, sym, subst}
use Rattle.cf_volume_changes.specs.Laid.{Settles}
use Rattle.cf_volume_points.specs.Runs.{Ran}
use Rattle.cf_volume.proofs.stay.plan_steps.change_item.Goals as goal

pub returns-clause-carried : goal.returns-clause-carried
returns-clause-carried g c = record {
  row = c.in-Some.row.now;
  found = sym c.in-Some.ensures;
  extents = c.settle_blocks-settled.new.extents;
  table = c.in_ok-put_row.ensures.ok;
  room = c.in_ok-put_row.ensures.room;
  settles = subst (λ (l : List ℕ). Settles c.args.change.now c.in-Some.row.now l c.args.planned.row.here (g.G.Ground.state c.args.ground.now) (g.G.Ground.state c.settle_blocks-settled.new.ground) c.args.held.now c.settle_blocks-settled.new.held c.args.planned.row.extents c.settle_blocks-settled.new.extents)
      c.deref.ensures.value c.in-Ok.ensures.settled;
}

pub returns-clause-crash : goal.returns-clause-crash
returns-clause-crash g c = c.settle_blocks-settled.ensures.crash

pub returns-clause-ran : goal.returns-clause-ran
returns-clause-ran g c = subst (λ (l : List ℕ). Ran (4096 * length l) (g.G.Ground.state c.args.ground.now) (g.G.Ground.state c.settle_blocks-settled.new.ground)) c.deref.ensures.value c.settle_blocks-settled.ensures.ran

pub returns-in_err-put_row-clause-crash : goal.returns-in_err-put_row-clause-crash
returns-in_err-put_row-clause-crash g c = c.settle_blocks-settled.ensures.crash

pub returns-in_err-put_row-clause-ran : goal.returns-in_err-put_row-clause-ran
returns-in_err-put_row-clause-ran g c = subst (λ (l : List ℕ). Ran (4096 * length l) (g.G.Ground.state c.args.ground.now) (g.G.Ground.state c.settle_blocks-settled.new.ground)) c.deref.ensures.value c.settle_blocks-settled.ensures.ran

pub put_row-requires : goal.put_row-requires
put_row-requires g c = record { name = c.requires.spellable.name; identity = c.requires.spellable.identity }

pub returns-in-Err-clause-crash : goal.returns-in-Err-clause-crash
returns-in-Err-clause-crash g c = c.settle_blocks-settled.ensures.crash

pub returns-in-Err-clause-ran : goal.returns-in-Err-clause-ran
returns-in-Err-clause-ran g c = subst (λ (l : List ℕ). Ran (4096 * length l) (g.G.Ground.state c.args.ground.now) (g.G.Ground.state c.settle_blocks-settled.new.ground)) c.deref.ensures.value c.settle_blocks-settled.ensures.ran
