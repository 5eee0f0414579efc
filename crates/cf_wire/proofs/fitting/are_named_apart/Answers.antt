use Rattle.std.proofs.Common.{◌≡◌, ◌-◌, ◌∙◌, ap, arith, subst, sym, true, ℕ, drop}
use Rattle.cf_base.specs.declared.messages.Entry.{Entry}
use Rattle.cf_model.specs.Fits.{are_named_apart}
use Rattle.cf_wire.proofs.NamesApart.{apart_at_last, from_here, not_apart, not_apart_here, seen_at_last, seen_now, still_apart}
use Rattle.cf_wire.proofs.fitting.are_named_apart.Goals as goal

pub entries-init : goal.entries-init
entries-init c = record {
  in_range = omega arith;
  apart = apart_at_last c.args.entries.now;
  seen = seen_at_last c.args.entries.now c.new-names.result c.new-names.ensures.empty;
}

pub entries-preserved : goal.entries-preserved
entries-preserved c =
    let e = c.index-entries-left.result in
    let name : c.as_slice-name.result.now ≡ e.name = c.as_slice-name.ensures ∙ ap (λ (x : Entry). x.name) (sym c.index-entries-left.is) in
    let parts = from_here c.args.entries.now c.entries.left e (omega (arith, c.entries-test.true)) c.entries.invariant.in_range c.index-entries-left.is in
    record {
      in_range = omega (arith, c.entries.invariant.in_range);
      apart = still_apart c.args.entries.now c.entries.left e c.as_slice-name.result c.in_ok-added.added c.entries.names c.insert.new.self parts name c.entries.invariant.apart c.entries.invariant.seen c.in_ok-added.ensures.added c.if-not-added.false;
      seen = seen_now c.args.entries.now c.entries.left e c.as_slice-name.result c.in_ok-added.added c.entries.names c.insert.new.self parts name c.entries.invariant.apart c.entries.invariant.seen c.in_ok-added.ensures.added c.in_ok-added.ensures.updates;
    }

pub returns-then-not-added : goal.returns-then-not-added
returns-then-not-added c =
    let e = c.index-entries-left.result in
    let name : c.as_slice-name.result.now ≡ e.name = c.as_slice-name.ensures ∙ ap (λ (x : Entry). x.name) (sym c.index-entries-left.is) in
    let parts = from_here c.args.entries.now c.entries.left e (omega (arith, c.entries-test.true)) c.entries.invariant.in_range c.index-entries-left.is in
    sym (not_apart c.args.entries.now (c.entries.left - 1)
    (not_apart_here c.args.entries.now c.entries.left e c.as_slice-name.result c.in_ok-added.added c.entries.names c.insert.new.self parts name c.entries.invariant.apart c.entries.invariant.seen c.in_ok-added.ensures.added c.if-not-added.true))

pub returns : goal.returns
returns c =
    let none : c.entries.left ≡ 0 = omega (arith, c.entries-test.false) in
    sym (subst (λ (n : ℕ). are_named_apart (drop n c.args.entries.now) ≡ true) none c.entries.invariant.apart)
