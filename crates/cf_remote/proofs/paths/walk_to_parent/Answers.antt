use Rattle.std.proofs.Common.{◌≡◌, ℕ, List, true, subst, sym, ◌∙◌, rules}
use Rattle.std.specs.List.{list_all}
use Rattle.cf_base.specs.declared.messages.Entry.{Entry}
use Rattle.cf_model.specs.LookUp.{names_of}
use Rattle.cf_model.specs.Texts.{is_name}
use Rattle.cf_remote.specs.LookUps.{parent_from, parent_of}
use Rattle.cf_remote.proofs.PeerParts.{comes_done, ended_by}
use Rattle.cf_remote.proofs.PeerWalks.{first_short, names_good, parent_end, parent_found, parent_is_file, parent_start, parent_step, rest_good, walk_ended, walk_on}
use Rattle.cf_remote.proofs.paths.walk_to_parent.Goals as goal

pub loop-next-init : goal.loop-next-init
loop-next-init g c = record {
  utf8 = search rules;
  good = subst (λ (ns : List (List ℕ)). list_all is_name ns ≡ true) (sym c.of-names.ensures ∙ c.in-Some.ensures) (names_good (names_of c.args.path.now) c.requires);
  way = λ f next s st. comes_done (parent_of f (names_of c.args.path.now)) (λ (e : Entry). parent_from f e c.in-Some.name.now c.next.new.self) next s (g.R.Remote.told c.args.remote.now) c.root-at.result
      (parent_start f (names_of c.args.path.now) c.in-Some.name.now c.next.new.self c.root-at.result (sym c.of-names.ensures ∙ c.in-Some.ensures) c.root-at.ensures) st;
}

pub loop-next-preserved : goal.loop-next-preserved
loop-next-preserved g c = record {
  utf8 = search rules;
  good = subst (λ (ns : List (List ℕ)). list_all is_name ns ≡ true) c.in-Some-next.ensures (rest_good c.loop-next.name.now c.loop-next.names c.loop-next.invariant.good);
  way = λ f next s st.
      walk_on (parent_of f (names_of c.args.path.now)) (parent_from f c.loop-next.at c.loop-next.name.now c.loop-next.names) next s (g.R.Remote.told c.args.remote.now) c.loop-next.at (g.R.Remote.told c.loop-next.remote) c.as_bytes.result.now
      (λ (e : Entry). parent_from f e c.in-Some-next.next.now c.next-in-loop-next.new.self) (c.loop-next.invariant.way f next s st)
      (parent_step f c.loop-next.at c.loop-next.name.now c.loop-next.names c.as_bytes.result.now c.in-Some-next.next.now c.next-in-loop-next.new.self c.in-Some-next.ensures c.as_bytes.ensures.value)
      c.in_ok-at.at (g.R.Remote.told c.step.new.remote) c.in_ok-at.ensures;
}

pub returns-in_err-at-clause-part : goal.returns-in_err-at-clause-part
returns-in_err-at-clause-part g c f next s st =
    ended_by (parent_of f (names_of c.args.path.now)) (λ x. f (x.0, x.1.now)) f next s (g.R.Remote.told c.args.remote.now) _ c.in_err-at.field-0.0 (g.R.Remote.told c.step.new.remote) c.from_residual.ensures.1
    (walk_ended (parent_of f (names_of c.args.path.now)) (parent_from f c.loop-next.at c.loop-next.name.now c.loop-next.names) next s (g.R.Remote.told c.args.remote.now) c.loop-next.at (g.R.Remote.told c.loop-next.remote) c.as_bytes.result.now
    (λ (e : Entry). parent_from f e c.in-Some-next.next.now c.next-in-loop-next.new.self) (c.loop-next.invariant.way f next s st)
    (parent_step f c.loop-next.at c.loop-next.name.now c.loop-next.names c.as_bytes.result.now c.in-Some-next.next.now c.next-in-loop-next.new.self c.in-Some-next.ensures c.as_bytes.ensures.value)
    f c.in_err-at.field-0.0 (g.R.Remote.told c.step.new.remote) c.in_err-at.ensures)

pub returns-then-not-at-clause-part : goal.returns-then-not-at-clause-part
returns-then-not-at-clause-part g c f next s st =
    parent_is_file (parent_of f (names_of c.args.path.now)) f next s (g.R.Remote.told c.args.remote.now) c.loop-next.at c.loop-next.name.now (g.R.Remote.told c.loop-next.remote)
    (parent_end (parent_of f (names_of c.args.path.now)) f next s (g.R.Remote.told c.args.remote.now) c.loop-next.at c.loop-next.name.now (g.R.Remote.told c.loop-next.remote) c.loop-next.names (c.loop-next.invariant.way f next s st) c.in_default-next.ensures.0)
    f c.if-not-at.true

pub returns-clause-part : goal.returns-clause-part
returns-clause-part g c f next s st =
    parent_found (parent_of f (names_of c.args.path.now)) f next s (g.R.Remote.told c.args.remote.now) c.loop-next.at c.loop-next.name.now (g.R.Remote.told c.loop-next.remote)
    (parent_end (parent_of f (names_of c.args.path.now)) f next s (g.R.Remote.told c.args.remote.now) c.loop-next.at c.loop-next.name.now (g.R.Remote.told c.loop-next.remote) c.loop-next.names (c.loop-next.invariant.way f next s st) c.in_default-next.ensures.0)
    c.if-not-at.false

pub returns-clause-room : goal.returns-clause-room
returns-clause-room g c = first_short c.loop-next.name.now c.loop-next.names c.loop-next.invariant.good
