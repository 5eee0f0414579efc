-- Drafts of uploads are those of the definitions.
use Rattle.std.proofs.Common.{◌≡◌, sym, ◌∙◌, ap, subst}
use Rattle.std.specs.Prelude.{Option, Some, cond, ◌==◌}
use Rattle.cf_base.specs.declared.ids.ItemId.{ItemId}
use Rattle.cf_base.specs.declared.ids.Rid.{Rid}
use Rattle.cf_base.specs.declared.ids.Token.{Token}
use Rattle.cf_engine_steps.specs.Marks.{IsParentTarget, IsTarget}
use Rattle.cf_engine_uploads.specs.Entries.{IsEntry, IsPlaced, IsRead}
use Rattle.cf_filter_steps.proofs.RowReads.{row_there}
use Rattle.cf_filter_steps.specs.Answering.{IsAt, Sense}
use Rattle.cf_filter_steps.specs.Finding.{HasRows}
use Rattle.cf_model.specs.Books.{Action, MakeDir, PutFile, QueueEntry}
use Rattle.cf_model.specs.Items.{Item}
use Rattle.cf_model.specs.Pushes.{next_token, without_place, without_rid}
use Rattle.cf_model.specs.State.{State}
use Rattle.cf_table.specs.Means.{Means}
use Rattle.cf_table.specs.Tables.{Table, row_of}
use Rattle.cf_table.specs.declared.rows.Row.{Row}

module _ (row : Row) (token : Token) (target parent : Rid) where
  pub put_entry_is : (e d : QueueEntry) → d ≡ cond (target.0 == 0) e (without_place e) → IsPlaced row token PutFile target parent e → IsEntry row token PutFile target parent d
  put_entry_is e d is h = λ s i r. is ∙ (λ j. cond ((r.target_is j).0 == 0) (h s i r j) (without_place (h s i r j)))

  pub new_directory : (e d : QueueEntry) → d ≡ without_rid e → IsPlaced row token MakeDir target parent e → IsEntry row token MakeDir target parent d
  new_directory e d is h = λ s i r. is ∙ ap without_rid (h s i r)

  -- by the action that it has
  pub of_action : (a b : Action) (e d : QueueEntry) → a ≡ b → (IsPlaced row token b target parent e → IsEntry row token b target parent d) → IsPlaced row token a target parent e → IsEntry row token a target parent d
  of_action a b e d same h k = subst (λ (c : Action). IsEntry row token c target parent d) (sym same) (h (subst (λ (c : Action). IsPlaced row token c target parent e) same k))

-- the item of a row
pub the_item : {X : Type 0} (S : Sense X) (x : X) (t : Table) (id : ItemId) (row : Row) → HasRows S x t → row_of t.rows id ≡ Some row → (s : State) (i : Item) → S.means x s.filter → IsAt id i s.filter → Means row i
the_item S x t id row rows e s i m at =
    let r = row_there t.rows s.filter.volume.items id row (rows.rows s.filter m) e in
    subst (Means row) (let z : ◌≡◌ {A = Option Item} (Some r.0) (Some i) = sym r.1 ∙ at in cc) r.2

-- what was read of it
pub was_read : {X : Type 0} (S : Sense X) (x : X) (row : Row) (token : Token) (target parent : Rid) (s : State) (i : Item) → S.means x s.filter → Means row i → token ≡ next_token s → IsTarget row target → IsParentTarget S row x parent → IsRead row token target parent i s
was_read S x row token target parent s i m is next to above = record { means = is; token_is = next; target_is = to.is i is; parent_is = above.is s.filter i m is }
