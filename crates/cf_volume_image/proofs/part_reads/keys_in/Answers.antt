use Rattle.std.proofs.Common.{◌+◌, ◌++◌, ◌∷◌, [], ◌∙◌, ◌-◌, List, None, Option, ℕ, ap, arith, subst}
use Rattle.cf_model.specs.Formats.{spell_key}
use Rattle.cf_table.proofs.ReadExit.{exits}
use Rattle.cf_table.proofs.ReadRuns.{one_less}
use Rattle.cf_volume_image.specs.Faults.{AtKeysFrom}
use Rattle.cf_volume_image.specs.RecordLists.{last_of}
use Rattle.cf_volume_image.proofs.ReadParts.{behind_key, count_more, each_taken, key_fault, keys_end, keys_then, last_more}
use Rattle.cf_volume_image.proofs.part_reads.keys_in.Goals as goal

pub returns-in_err-key-clause-fault : goal.returns-in_err-key-clause-fault
returns-in_err-key-clause-fault c =
    exits _ _ _ c.from_residual.ensures.1
    (c.loop.invariant.fault _ (key_fault _ _ _ _ _ _ (one_less c.args.count c.loop.counter (omega arith)) (c.last_of.ensures ∙ ap (last_of None) c.deref.ensures.value) c.in_err-key.ensures.fault))

pub loop-preserved : goal.loop-preserved
loop-preserved c =
    let same = c.last_of.ensures ∙ ap (last_of None) c.deref.ensures.value in
    let is = c.in_ok-push.ensures.items ∙ ap (λ (k : List ℕ). c.loop.keys.items ++ k ∷ []) c.in_ok-from_slice.ensures in
    record {
      took = each_taken spell_key _ _ _ _ _ _ is c.loop.invariant.took c.in_ok-key.ensures.took;
      count = count_more _ _ _ _ is c.loop.invariant.count;
      fits = keys_then _ _ _ _ is same c.loop.invariant.fits c.in_ok-key.ensures.fits;
      fault = λ e h. c.loop.invariant.fault e
          (behind_key _ _ _ _ _ _ e c.in_ok-key.key.now (one_less c.args.count c.loop.counter (omega arith)) same c.in_ok-key.ensures.fits c.in_ok-key.ensures.took
          (subst (λ (b : Option (List ℕ)). AtKeysFrom b (c.args.count - (c.loop.counter + 1)) c.read_key.new.r e) (ap (last_of None) is ∙ last_more None c.loop.keys.items c.in_ok-key.key.now) h));
    }

pub returns-clause-fits : goal.returns-clause-fits
returns-clause-fits c = keys_end _ c.loop.invariant.fits
