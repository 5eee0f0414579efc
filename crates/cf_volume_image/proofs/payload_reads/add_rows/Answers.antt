use Rattle.std.proofs.Common.{◌≡◌, ◌∙◌, ◌∷◌, List, ap, arith, length, subst, sym}
use Rattle.std.specs.Prelude.{All, map}
use Rattle.std.specs.Vec.Iter.{into_iter_items}
use Rattle.std.proofs.lemmas.List.{nil_from_length}
use Rattle.cf_model.specs.Formats.{with_rows}
use Rattle.cf_table.specs.Spelling.{HasRoom, row_value}
use Rattle.cf_table.specs.declared.rows.Row.{Row}
use Rattle.cf_volume_image.proofs.PayloadPuts.{first_spellable, rest_has_room}
use Rattle.cf_volume_image.proofs.PayloadSteps.{row_added}
use Rattle.cf_volume_image.proofs.payload_reads.add_rows.Goals as goal

pub loop-row-init : goal.loop-row-init
loop-row-init c =
    let all = c.into_iter-row-iterator.ensures.into_iter_gives in
    record {
      added = ap (λ (l : List Row). with_rows (map row_value l) (map row_value c.args.rows.now)) all.0;
      room = subst (λ (l : List Row). All HasRoom l) (sym all.0) c.requires;
      count = omega (arith, all.1, c.args.more.ok, ap length all.0);
    }

pub put_row-requires : goal.put_row-requires
put_row-requires c = first_spellable _ _ c.in-Some.row c.in-Some.ensures.steps.0 c.loop-row.invariant.room

pub loop-row-preserved : goal.loop-row-preserved
loop-row-preserved c =
    let steps : into_iter_items c.loop-row.row-iterator ≡ c.in-Some.row ∷ into_iter_items c.next.new.self = c.in-Some.ensures.steps.0 in
    record {
      added = row_added _ _ c.in-Some.row c.loop-row.rows c.put_row.new.self _ steps c.in_ok-put_row.ensures.ok c.in_ok-put_row.ensures.rises c.loop-row.invariant.added;
      room = rest_has_room _ _ c.in-Some.row steps c.loop-row.invariant.room;
      count = omega (arith, c.loop-row.invariant.count, c.in-Some.ensures.steps.1, ap length steps);
    }

pub returns : goal.returns
returns c =
    ap (λ (l : List Row). with_rows (map row_value l) (map row_value c.loop-row.rows)) (sym (nil_from_length (into_iter_items c.loop-row.row-iterator) (sym c.loop-row.invariant.count ∙ c.in-None.ensures.steps.0))) ∙ c.loop-row.invariant.added
