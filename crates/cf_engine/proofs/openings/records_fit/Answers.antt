use Rattle.std.proofs.Common.{◌≡◌, ◌∙◌, false, List, map, refl, subst, sym, true}
use Rattle.std.specs.Prelude.{All}
use Rattle.cf_base.specs.declared.answers.AuxRecord.{AuxRecord}
use Rattle.cf_engine.proofs.FitRecords.{all_of, first_of, none_left, rest_of}
use Rattle.cf_engine.specs.Openings.{RecordFits}
use Rattle.cf_table.specs.Spelling.{row_value}
use Rattle.cf_engine.proofs.openings.records_fit.Goals as goal

pub loop-one-init : goal.loop-one-init
loop-one-init c = record {
  all = λ h. subst (λ (l : List AuxRecord). All (RecordFits c.args.rows.now.next (map row_value c.args.rows.now.rows)) l) c.iter-items.ensures.value h;
  left = λ h. subst (λ (l : List AuxRecord). All (RecordFits c.args.rows.now.next (map row_value c.args.rows.now.rows)) l) (sym c.iter-items.ensures.value) h;
}

pub returns-then-not-branch : goal.returns-then-not-branch
returns-then-not-branch c = (
  λ hit. absurd (let z : false ≡ true = hit in cc),
  λ all. sym c.if-not-branch.true
      ∙ c.in_ok-record_fits.ensures.1 (first_of (RecordFits c.args.rows.now.next (map row_value c.args.rows.now.rows)) c.loop-one.items c.next.new.self c.in-Some.one.now c.in-Some.ensures (c.loop-one.invariant.left all)),
)

pub loop-one-preserved : goal.loop-one-preserved
loop-one-preserved c = record {
  all = λ h. c.loop-one.invariant.all (all_of (RecordFits c.args.rows.now.next (map row_value c.args.rows.now.rows)) c.loop-one.items c.next.new.self c.in-Some.one.now c.in-Some.ensures (c.in_ok-record_fits.ensures.0 c.if-not-branch.false) h);
  left = λ h. rest_of (RecordFits c.args.rows.now.next (map row_value c.args.rows.now.rows)) c.loop-one.items c.next.new.self c.in-Some.one.now c.in-Some.ensures (c.loop-one.invariant.left h);
}

pub returns : goal.returns
returns c = (λ hit. c.loop-one.invariant.all (none_left (RecordFits c.args.rows.now.next (map row_value c.args.rows.now.rows)) c.loop-one.items c.in_default.ensures), λ all. refl)
