use Rattle.std.proofs.Common.{ℕ, ◌+◌, ◌-◌, ◌++◌, sym, ◌∙◌}
use Rattle.cf_gen.specs.Scripts.{after, puts}
use Rattle.cf_gen.proofs.Rows.{after_more, moved, puts_more}
use Rattle.cf_gen.proofs.rounds.add_puts.Goals as goal

pub loop-file-preserved : goal.loop-file-preserved
loop-file-preserved c =
    let file : ℕ = c.loop-file.file in
    let state : ℕ = c.loop-file.g.state in
    record {
      lines = rw (c.in_ok-push.ensures.items, c.put-line.ensures.line, c.put-line.ensures.after)
          (moved c.loop-file.lines.items (c.args.lines.now.items ++ puts 8 0 c.args.g.now.state) (puts (8 - (file + 1)) (file + 1) (after 2 state)) (puts (8 - file) file state) _ (puts_more 8 file state c.loop-file-test.true) c.loop-file.invariant.lines);
      state = rw c.put-line.ensures.after (sym (after_more 8 file state c.loop-file-test.true) ∙ c.loop-file.invariant.state);
      epoch = rw c.put-line.ensures.after c.loop-file.invariant.epoch;
      first = rw c.put-line.ensures.after c.loop-file.invariant.first;
    }
