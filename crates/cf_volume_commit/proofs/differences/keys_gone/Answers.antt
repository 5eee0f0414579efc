use Rattle.std.proofs.Common.{◌++◌, ◌∙◌, ℕ, List, ap, append-nil, sym}
use Rattle.cf_base.specs.declared.answers.AuxRecord.{AuxRecord}
use Rattle.cf_volume_commit.specs.Differing.{is_record_gone, keys_in}
use Rattle.cf_volume_commit.proofs.KeySteps.{one_part}
use Rattle.cf_volume_commit.proofs.differences.keys_gone.Goals as goal

pub loop-aux-init : goal.loop-aux-init
loop-aux-init c =
    ap (λ (l : List (List ℕ)). l ++ keys_in c.args.then.now c.args.now.now c.iter-items.result) c.new-keys.ensures.items ∙ ap (λ (l : List AuxRecord). keys_in c.args.then.now c.args.now.now l) c.iter-items.ensures.value

pub loop-aux-preserved : goal.loop-aux-preserved
loop-aux-preserved c =
    one_part (λ (r : AuxRecord). r.key) (is_record_gone c.args.then.now c.args.now.now) c.loop-aux.items c.next.new.self c.in-Some.aux.now c.loop-aux.keys.items c.push_if_gone.new.keys.items _ c.in-Some.ensures c.in_ok-push_if_gone.ensures c.loop-aux.invariant

pub returns : goal.returns
returns c = sym (append-nil c.loop-aux.keys.items) ∙ ap (λ (l : List AuxRecord). c.loop-aux.keys.items ++ keys_in c.args.then.now c.args.now.now l) (sym c.in_default.ensures) ∙ c.loop-aux.invariant
