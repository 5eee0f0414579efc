use Rattle.std.proofs.Common.{◌≡◌, ◌-◌, ◌∙◌, ap, arith, subst, sym, false, ℕ, drop}
use Rattle.cf_base.specs.declared.operations.NewItem.{NewItem}
use Rattle.cf_model.specs.Operations.{is_twice}
use Rattle.cf_filter_calls.proofs.NamesTwice.{from_here, met_at_last, met_now, once_at_last, still_once, twice_here, twice_in_all}
use Rattle.cf_filter_calls.proofs.listings.is_twice.Goals as goal

pub entries-init : goal.entries-init
entries-init c = record {
  in_range = omega arith;
  once = once_at_last c.args.list.now;
  met = met_at_last c.args.list.now c.new-names.result c.new-names.ensures.empty;
}

pub entries-preserved : goal.entries-preserved
entries-preserved c =
    let e = c.index-list-left.result in
    let name : c.as_slice-name.result.now ≡ e.name = c.as_slice-name.ensures ∙ ap (λ (x : NewItem). x.name) (sym c.index-list-left.is) in
    let parts = from_here c.args.list.now c.entries.left e (omega (arith, c.entries-test.true)) c.entries.invariant.in_range c.index-list-left.is in
    record {
      in_range = omega (arith, c.entries.invariant.in_range);
      once = still_once c.args.list.now c.entries.left e c.as_slice-name.result c.in_ok-added.added c.entries.names c.insert.new.self parts name c.entries.invariant.once c.entries.invariant.met c.in_ok-added.ensures.added c.if-not-added.false;
      met = met_now c.args.list.now c.entries.left e c.as_slice-name.result c.in_ok-added.added c.entries.names c.insert.new.self parts name c.entries.invariant.once c.entries.invariant.met c.in_ok-added.ensures.added c.in_ok-added.ensures.updates;
    }

pub returns-then-not-added : goal.returns-then-not-added
returns-then-not-added c =
    let e = c.index-list-left.result in
    let name : c.as_slice-name.result.now ≡ e.name = c.as_slice-name.ensures ∙ ap (λ (x : NewItem). x.name) (sym c.index-list-left.is) in
    let parts = from_here c.args.list.now c.entries.left e (omega (arith, c.entries-test.true)) c.entries.invariant.in_range c.index-list-left.is in
    sym (twice_in_all c.args.list.now (c.entries.left - 1)
    (twice_here c.args.list.now c.entries.left e c.as_slice-name.result c.in_ok-added.added c.entries.names c.insert.new.self parts name c.entries.invariant.once c.entries.invariant.met c.in_ok-added.ensures.added c.if-not-added.true))

pub returns : goal.returns
returns c =
    let none : c.entries.left ≡ 0 = omega (arith, c.entries-test.false) in
    sym (subst (λ (n : ℕ). is_twice (drop n c.args.list.now) ≡ false) none c.entries.invariant.once)
