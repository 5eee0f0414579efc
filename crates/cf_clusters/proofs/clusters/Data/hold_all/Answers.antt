use Rattle.std.proofs.Common.{ℕ, List, ◌+◌, drop, get_or, subst}
use Rattle.std.proofs.lemmas.List.{drop_all}
use Rattle.cf_clusters.proofs.Opening.{IsHolding, next, holding_starts, holding_next, holding_more, holding_ends}
use Rattle.cf_clusters.proofs.clusters.Data.hold_all.Goals as goal

pub loop-cluster-init : goal.loop-cluster-init
loop-cluster-init c = holding_starts c.args.clusters.now c.args.self.now c.requires.apart c.requires.free

pub hold-requires : goal.hold-requires
hold-requires c =
    let all = c.args.clusters.now in
    let i = c.loop-cluster.cluster-index in
    holding_next (drop i all) (drop (i + 1) all) all c.args.self.now c.loop-cluster.self (get_or all i 0) c.loop-cluster.invariant (next i all c.loop-cluster-test.true)

pub loop-cluster-preserved : goal.loop-cluster-preserved
loop-cluster-preserved c =
    let all = c.args.clusters.now in
    let i = c.loop-cluster.cluster-index in
    holding_more (drop i all) (drop (i + 1) all) all c.args.self.now c.loop-cluster.self c.hold.new.self (get_or all i 0) c.loop-cluster.invariant (next i all c.loop-cluster-test.true) c.hold.ensures

pub returns : goal.returns
returns c =
    let all = c.args.clusters.now in
    let i = c.loop-cluster.cluster-index in
    holding_ends all c.args.self.now c.loop-cluster.self (subst (λ (l : List ℕ). IsHolding l all c.args.self.now c.loop-cluster.self) (drop_all i all c.loop-cluster-test.false) c.loop-cluster.invariant)
