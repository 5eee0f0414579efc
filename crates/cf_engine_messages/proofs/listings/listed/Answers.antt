use Rattle.std.proofs.Common.{List, sym, subst, ap, ◌∙◌, map}
use Rattle.cf_engine_messages.proofs.Entered.{listed_by}
use Rattle.cf_engine_provider.specs.Listings.{paths_from}
use Rattle.cf_model.specs.Fetching.{new_item_of}
use Rattle.cf_table.specs.Tables.{MeansAll}
use Rattle.cf_table.specs.declared.rows.Row.{Row}
use Rattle.cf_engine_messages.proofs.listings.listed.Goals as goal

pub returns : goal.returns
returns g c = listed_by g.S.Steps.sense c.args.s.now c.rows-rows.result.now c.in_ok-local.local c.args.entries.now c.in_ok-new.new.items c.in_ok-list.list c.in_ok-seen.seen.items c.rows-rows.ensures.means
    (λ items m. c.in_ok-local.ensures items (subst (λ (l : List Row). MeansAll l items) (sym c.as_slice.ensures.value) m)) c.in_ok-new.ensures (c.in_ok-list.ensures ∙ ap (map new_item_of) c.deref.ensures.value)
    (c.in_ok-seen.ensures ∙ (λ j. paths_from (c.next.ensures j).0 (c.deref-2.ensures.value j)))
