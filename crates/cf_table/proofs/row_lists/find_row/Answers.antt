use Rattle.std.proofs.Common.{◌≤◌, ◌-◌, arith}
use Rattle.cf_table.proofs.RowBounds.{bounds_order, found_there, gap_there, rises_part}
use Rattle.cf_table.proofs.row_lists.find_row.Goals as goal

pub slice_bounds-search_rows-count : goal.slice_bounds-search_rows-count
slice_bounds-search_rows-count c =
    bounds_order c.args.rows.now c.args.id c.lowest_place-low.result c.end_place-end.result c.lowest_place-low.ensures.within c.lowest_place-low.ensures.lower c.end_place-end.ensures.higher

pub slice_bounds-search_rows-start : goal.slice_bounds-search_rows-start
slice_bounds-search_rows-start c =
    bounds_order c.args.rows.now c.args.id c.lowest_place-low.result c.end_place-end.result c.lowest_place-low.ensures.within c.lowest_place-low.ensures.lower c.end_place-end.ensures.higher

pub search_rows-requires : goal.search_rows-requires
search_rows-requires c = rises_part c.lowest_place-low.result (c.end_place-end.result - c.lowest_place-low.result) c.args.rows.now c.requires

pub returns-in-Ok-clause-found : goal.returns-in-Ok-clause-found
returns-in-Ok-clause-found c =
    let low = c.lowest_place-low.result in
    let end = c.end_place-end.result in
    let order : c.lowest_place-low.result ≤ c.end_place-end.result =
    bounds_order c.args.rows.now c.args.id c.lowest_place-low.result c.end_place-end.result c.lowest_place-low.ensures.within c.lowest_place-low.ensures.lower c.end_place-end.ensures.higher in
    found_there c.args.rows.now c.args.id low end c.end_place-end.ensures.within c.lowest_place-low.ensures.lower c.end_place-end.ensures.higher (end - low) (omega (arith, order)) c.in-Ok.place c.in-Ok.ensures.found

pub returns-in-Err-clause-absent : goal.returns-in-Err-clause-absent
returns-in-Err-clause-absent c =
    let low = c.lowest_place-low.result in
    let end = c.end_place-end.result in
    let order : c.lowest_place-low.result ≤ c.end_place-end.result =
    bounds_order c.args.rows.now c.args.id c.lowest_place-low.result c.end_place-end.result c.lowest_place-low.ensures.within c.lowest_place-low.ensures.lower c.end_place-end.ensures.higher in
    gap_there c.args.rows.now c.args.id low end c.end_place-end.ensures.within c.lowest_place-low.ensures.lower c.end_place-end.ensures.higher (end - low) (omega (arith, order)) c.in-Err.place c.in-Err.ensures.absent
