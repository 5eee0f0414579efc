use Rattle.std.proofs.Common.{◌++◌, ◌∙◌, ℕ, List, ap, append-nil, map, sym}
use Rattle.cf_base.specs.declared.answers.AuxRecord.{AuxRecord}
use Rattle.cf_volume_commit.proofs.MergedKeys.{one_key}
use Rattle.cf_volume_commit.proofs.differences.keys_of.Goals as goal

pub loop-aux-init : goal.loop-aux-init
loop-aux-init c =
    ap (λ (l : List (List ℕ)). l ++ map (λ (r : AuxRecord). r.key) c.iter-items.result) c.new-keys.ensures.items ∙ ap (λ (l : List AuxRecord). map (λ (r : AuxRecord). r.key) l) c.iter-items.ensures.value

pub loop-aux-preserved : goal.loop-aux-preserved
loop-aux-preserved c =
    one_key c.loop-aux.items c.next.new.self c.in-Some.aux.now c.loop-aux.keys.items c.push.new.self.items _ c.in_ok-copy.field-0 c.in-Some.ensures c.in_ok-copy.ensures c.in_ok-push.ensures.items c.loop-aux.invariant

pub returns : goal.returns
returns c = sym (append-nil c.loop-aux.keys.items) ∙ ap (λ (l : List AuxRecord). c.loop-aux.keys.items ++ map (λ (r : AuxRecord). r.key) l) (sym c.in_default.ensures) ∙ c.loop-aux.invariant
