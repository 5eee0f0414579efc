-- Paths seen that are put, or left out.
use Rattle.std.proofs.Common.{◌≡◌, Bool, true, false, refl, sym, ◌∙◌, ap}
use Rattle.std.specs.Prelude.{Result, Ok, Option, Some, None, is_some}
use Rattle.cf_base.specs.declared.codes.CallError.{CallError}
use Rattle.cf_base.specs.declared.ids.ItemId.{ItemId}
use Rattle.cf_base.specs.declared.items.SeenPath.{SeenPath}
use Rattle.cf_engine_steps.specs.Answering.{Answers, Any}
use Rattle.cf_engine_steps.specs.Readings.{is_here}
use Rattle.cf_engine_steps.specs.States.{Own, whole}
use Rattle.cf_engine_steps.proofs.Laws.{reads_on, returned}
use Rattle.cf_engine_steps.proofs.Lifting.{lift_reads}
use Rattle.cf_model.specs.Books.{with_seen}
use Rattle.cf_model.specs.Items.{Item, item_of}
use Rattle.cf_model.specs.Skips.{is_there, seen_if, try_book, try_seen}
use Rattle.cf_remote.specs.Told.{Told}
use Rattle.cf_filter_steps.specs.Answering as steps
use Rattle.cf_filter_steps.specs.Finding.{HasRows}
use Rattle.cf_table.specs.Tables.{Table, row_of}
use Rattle.cf_table.specs.declared.rows.Row.{Row}
use Rattle.cf_tree.proofs.Alike.{BothMean, rows_by_id}

-- whether an item is there

both_there : (o : Option Row) (i : Option Item) → BothMean o i → is_some o ≡ is_some i
both_there None None h = refl
both_there None (Some i) h = absurd h
both_there (Some r) None h = absurd h
both_there (Some r) (Some i) h = refl

pub here_by : {X : Type 0} (S : steps.Sense X) (x : X) (t : Table) (id : ItemId) (o : Option Row) (b : Bool) → HasRows S x t → row_of t.rows id ≡ o → b ≡ is_some o → steps.Reads S steps.Any (is_here id) x b
here_by S x t id o b rows e is = record { is = λ s m p. is ∙ ap is_some (sym e) ∙ both_there (row_of t.rows id) (item_of s.volume.items id) (rows_by_id t.rows s.volume.items id (rows.rows s m)) }

-- only a path of an item that is there

module _ {X R : Type 0} (S : steps.Sense X) (told : R → Told) (p : SeenPath) (x y : X) (e f : Own R) (r : Result Bool CallError) where
  pub seen_here : (b : Bool) → steps.Reads S steps.Any (is_here p.item) x b → b ≡ true → Answers (whole S told) Any (try_book (with_seen p)) (x, e) r (y, f) → Answers (whole S told) Any (try_seen p) (x, e) r (y, f)
  seen_here true h is_so k = reads_on (whole S told) Any (is_there p.item) (seen_if p) (x, e) (y, f) true r (lift_reads S told steps.Any (is_here p.item) x e true h) k
  seen_here false h is_so k = let z : false ≡ true = is_so in cc

pub seen_gone : {X R : Type 0} (S : steps.Sense X) (told : R → Told) (p : SeenPath) (x : X) (e : Own R) (b : Bool) → steps.Reads S steps.Any (is_here p.item) x b → b ≡ false → Answers (whole S told) Any (try_seen p) (x, e) (Ok true) (x, e)
seen_gone S told p x e false h is_not = reads_on (whole S told) Any (is_there p.item) (seen_if p) (x, e) (x, e) false (Ok true) (lift_reads S told steps.Any (is_here p.item) x e false h) (returned (whole S told) Any true (x, e))
seen_gone S told p x e true h is_not = let z : true ≡ false = is_not in cc
