-- What is read of rows is read of their items.
use denote.Ref.{Bor}
use Rattle.std.proofs.Common.{◌≡◌, ℕ, Bool, true, false, List, refl, sym, ◌∙◌, ap}
use Rattle.std.specs.Prelude.{Option, Some, None, drop, is_some, option_copied}
use Rattle.cf_base.specs.declared.ids.ItemId.{ItemId}
use Rattle.cf_engine_queue.specs.Identities as queue
use Rattle.cf_engine_queue.specs.declared.identities.Numbers.{Numbers}
use Rattle.cf_engine_uploads.specs.Reads.{IsBaseVersion, IsPlaceholder, is_there_at}
use Rattle.cf_filter_calls.specs.Planned.{ReadsAt, stands_for}
use Rattle.cf_filter_steps.proofs.RowReads.{row_gone, row_there}
use Rattle.cf_filter_steps.specs.Answering.{Any, Reads, Sense}
use Rattle.cf_filter_steps.specs.Finding.{HasRows}
use Rattle.cf_model.specs.Items.{Item, item_of}
use Rattle.cf_model.specs.Words.{number_of, says}
use Rattle.cf_table.specs.Means.{Means}
use Rattle.cf_table.specs.Tables.{Table, row_of}
use Rattle.cf_table.specs.declared.rows.Row.{Row}
use Rattle.cf_tree.proofs.Alike.{BothMean, rows_by_id}

pub version_of : (row : Row) (n : Numbers) → n ≡ queue.numbers_of row.identity → IsBaseVersion row (record { 0 = n.version })
version_of row n is = record { is = λ i m. ap (λ (k : Numbers). record { 0 = k.version }) is ∙ ap (λ (l : List ℕ). record { 0 = number_of (drop 16 l) }) m.identity }

module _ {X : Type 0} (S : Sense X) (x : X) (t : Table) (id : ItemId) (v : Item → Bool) (rows : HasRows S x t) where
  pub says_there : (row : Row) (b : Bool) → row_of t.rows id ≡ Some row → ((i : Item) → Means row i → b ≡ v i) → Reads S Any (λ s. says v (item_of s.volume.items id)) x b
  says_there row b e is = record { is = λ s h p. let r = row_there t.rows s.volume.items id row (rows.rows s h) e in is r.0 r.2 ∙ ap (says v) (sym r.1) }

  pub says_gone : row_of t.rows id ≡ None → Reads S Any (λ s. says v (item_of s.volume.items id)) x false
  says_gone e = record { is = λ s h p. ap (says v) (sym (row_gone t.rows s.volume.items id (rows.rows s h) e)) }

pub placeholder_if : {X : Type 0} (S : Sense X) (id : ItemId) (x : X) (b : Bool) → ReadsAt S id stands_for x b → b ≡ true → IsPlaceholder S id x
placeholder_if S id x b reads is = record { is = λ s i m at. sym (reads.is s i m at) ∙ is }

-- whether an item is there

both_some : (o : Option Row) (q : Option Item) → BothMean o q → is_some o ≡ is_some q
both_some None None h = refl
both_some None (Some i) h = absurd h
both_some (Some r) None h = absurd h
both_some (Some r) (Some i) h = refl

copied_some : (o : Option (Bor Row)) → is_some o ≡ is_some (option_copied o)
copied_some None = refl
copied_some (Some r) = refl

pub there_if : {X : Type 0} (S : Sense X) (x : X) (t : Table) (id : ItemId) (o : Option (Bor Row)) (b : Bool) → HasRows S x t → option_copied o ≡ row_of t.rows id → b ≡ is_some o → Reads S Any (is_there_at id) x b
there_if S x t id o b rows e is = record {
  is = λ s h p. is ∙ copied_some o ∙ ap (λ (q : Option Row). is_some q) e ∙ both_some (row_of t.rows id) (item_of s.volume.items id) (rows_by_id t.rows s.volume.items id (rows.rows s h));
}
