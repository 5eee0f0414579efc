use Rattle.std.proofs.Common.{ℕ, ◌<◌, length, get_or, sym, ◌∙◌, ap, arith}
use Rattle.cf_disk.specs.Images.{mixed_byte}
use Rattle.cf_disk.proofs.Mixing.{step_synced, step_pending, stirs_synced, stirs_pending, mixed_last, stirs_last}
use Rattle.cf_disk.proofs.power_cuts.mix.Goals as goal
use Rattle.cf_disk.proofs.power_cuts.mix.Goals.{then-pending-i, else-pending-i}

pub loop-i-preserved : goal.loop-i-preserved
loop-i-preserved c =
    let i = c.loop-i.i in
    let lb : i < length c.loop-i.bytes = omega arith in
    let ly : i < length c.args.synced.now = omega arith in
    let lp : i < length c.args.pending.now = omega arith in
    elim c.if-pending-i.branch [
      | then-pending-i w ↦
          let value = w.pick.ensures ∙ ap (λ (k : ℕ). mixed_byte k (get_or c.args.synced.now i 0) (get_or c.loop-i.bytes i 0)) w.stir-s.ensures in
          rw (w.bytes-is, w.s-is, w.stir-s.ensures) (record {
            mixed = step_pending c.loop-i.s i c.loop-i.bytes c.args.synced.now c.args.pending.now lb ly lp w.pick.result w.if-pending-i.true value ∙ c.loop-i.invariant.mixed;
            state = stirs_pending c.loop-i.s i c.args.pending.now lp w.if-pending-i.true ∙ c.loop-i.invariant.state;
          })
      | else-pending-i w ↦ rw (w.bytes-is, w.s-is) (record {
        mixed = step_synced c.loop-i.s i c.loop-i.bytes c.args.synced.now c.args.pending.now lb ly lp w.if-pending-i.false ∙ c.loop-i.invariant.mixed;
        state = stirs_synced c.loop-i.s i c.args.pending.now lp w.if-pending-i.false ∙ c.loop-i.invariant.state;
      })
    ]

pub returns-clause-bytes : goal.returns-clause-bytes
returns-clause-bytes c = sym (mixed_last c.loop-i.i c.loop-i.s c.loop-i.bytes c.args.synced.now c.args.pending.now (omega arith)) ∙ c.loop-i.invariant.mixed

pub returns-clause-state : goal.returns-clause-state
returns-clause-state c = sym (stirs_last c.loop-i.i c.loop-i.s c.args.pending.now (omega arith)) ∙ c.loop-i.invariant.state
