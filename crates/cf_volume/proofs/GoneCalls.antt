-- A removal as a call.
use Rattle.std.proofs.Common.{◌≡◌, ℕ, ◌^◌, ◌<◌, false, List, [], ◌∷◌, refl, ◌∙◌, subst, Option, Some, None}
use Rattle.std.specs.Prelude.{All, Ok}
use Rattle.std.proofs.lemmas.List.Elements.{All-nil}
use Rattle.cf_base.specs.declared.answers.AuxRecord.{AuxRecord}
use Rattle.cf_base.specs.declared.changes.Change.{Change}
use Rattle.cf_base.specs.declared.changes.Change.TheVariants as change
use Rattle.cf_base.specs.declared.ids.ItemId.{ItemId}
use Rattle.cf_base.specs.declared.ids.Usn.{Usn}
use Rattle.cf_clusters.specs.declared.uses.Use.{Use}
use Rattle.cf_disk.specs.Disk.{State}
use Rattle.cf_model.specs.Changes.{may_need_room, put_change, why_no_room}
use Rattle.cf_model.specs.Formats.{without_record}
use Rattle.cf_model.specs.Numbers.{most, usn_after}
use Rattle.cf_model.specs.State.{Volume}
use Rattle.cf_volume_points.proofs.Points.{Fair}
use Rattle.cf_volume_points.specs.At.{At}
use Rattle.cf_volume_points.specs.Clusters.{clusters_in_rows, named_in}
use Rattle.cf_volume_points.specs.Keeping.{FitsBook}
use Rattle.cf_volume_points.specs.Known.{Known}
use Rattle.cf_volume_points.specs.Staging.{DropsAll}
use Rattle.cf_table.specs.Changing.{item_of_change}
use Rattle.cf_table.specs.Tables.{RisesFrom, Table, row_of, without_row}
use Rattle.cf_table.specs.declared.rows.Row.{Row}
use Rattle.cf_volume_changes.proofs.GoneFits.{gone, gone_fitting, gone_put}
use Rattle.cf_volume_changes.proofs.Puts.{found_inside}
use Rattle.cf_volume_changes.specs.Calls.{IsPut}
use Rattle.cf_volume_changes.specs.Keys.{IsRemove, seen_key}
use Rattle.cf_volume_changes.specs.Notes.{Notes, NotesKey}
use Rattle.cf_volume_changes.specs.Steady.{Steady}

pub gone_inside : (P : ℕ → Type 0) (rows : List Row) (id : ItemId) → All P (clusters_in_rows rows) → All P (named_in (row_of rows id))
gone_inside P rows id all = by (row_of rows id) refl
  where
    by : (o : Option Row) → row_of rows id ≡ o → All P (named_in o)
    by None e = All-nil P
    by (Some r) e = found_inside P rows id r all e

module _ (s : State) (size : ℕ) (k : Known) (id : ItemId) (uses : List Use) (after : Table) (records : List AuxRecord) (then' : List Row) (records_then' keys_made' : List AuxRecord) (low : id.0 < 2 ^ 64) (steady : Steady size k) (rises : RisesFrom 0 k.table.rows)
    (drops : DropsAll (named_in (row_of k.table.rows id)) k.uses uses) (after_is : after ≡ record { rows = without_row id k.table.rows; next = k.table.next }) (records_is : records ≡ without_record (seen_key id) k.records)
    (notes : Notes id k.next_then k.table.rows k.rows_then then') (key_notes : NotesKey (seen_key id) k.records k.records_then records_then' k.keys_made keys_made')
    (n : Usn) (n_is : n ≡ usn_after k.epoch k.place) (left : k.place < most) (v : Volume) (fair : Fair s) (at : At s k v) where
  abbrev after_known : Known
  after_known = gone s size k id uses after records then' records_then' keys_made' low steady rises drops after_is records_is notes key_notes

  pub gone_call : (c : Change) → IsRemove c → id ≡ item_of_change c → FitsBook c v.book → IsPut c v s s after_known (Ok (Some n))
  gone_call (change.Make item parent name kind bytes identity) is here book = absurd is
  gone_call (change.Remove item) is here book = (
    n_is ∙ (λ j. usn_after (at.now.epoch j) (at.now.place j)),
    gone_fitting s k v item at left,
    subst (λ (x : ItemId). At s after_known (put_change (change.Remove x) v)) here (gone_put s size k id uses after records then' records_then' keys_made' low steady rises drops after_is records_is notes key_notes v fair at book),
  )
  gone_call (change.Move item parent name) is here book = absurd is
  gone_call (change.Write item start bytes) is here book = absurd is
  gone_call (change.Size item bytes) is here book = absurd is
  gone_call (change.Filled item start bytes) is here book = absurd is
  gone_call (change.Validated item start len) is here book = absurd is
  gone_call (change.Emptied item start len) is here book = absurd is
  gone_call (change.SetPin item state) is here book = absurd is
  gone_call (change.Mark item number) is here book = absurd is
  gone_call (change.Clear item) is here book = absurd is
  gone_call (change.Convert item identity) is here book = absurd is
  gone_call (change.Revert item) is here book = absurd is
  gone_call (change.Rebase item identity len start) is here book = absurd is
  gone_call (change.Take item identity bytes) is here book = absurd is
  gone_call (change.Copy item from parent name) is here book = absurd is
  gone_call (change.Populated item) is here book = absurd is
  gone_call (change.Keep item on) is here book = absurd is

-- a removal is refused for want of a number alone
pub gone_why : (s : State) (k : Known) (v : Volume) (c : Change) → At s k v → k.place < most → IsRemove c → why_no_room (c ∷ []) v ≡ None
gone_why s k v (change.Make item parent name kind size identity) at left is = absurd is
gone_why s k v (change.Remove item) at left is = gone_fitting s k v item at left
gone_why s k v (change.Move item parent name) at left is = absurd is
gone_why s k v (change.Write item start bytes) at left is = absurd is
gone_why s k v (change.Size item bytes) at left is = absurd is
gone_why s k v (change.Filled item start bytes) at left is = absurd is
gone_why s k v (change.Validated item start len) at left is = absurd is
gone_why s k v (change.Emptied item start len) at left is = absurd is
gone_why s k v (change.SetPin item state) at left is = absurd is
gone_why s k v (change.Mark item number) at left is = absurd is
gone_why s k v (change.Clear item) at left is = absurd is
gone_why s k v (change.Convert item identity) at left is = absurd is
gone_why s k v (change.Revert item) at left is = absurd is
gone_why s k v (change.Rebase item identity len start) at left is = absurd is
gone_why s k v (change.Take item identity bytes) at left is = absurd is
gone_why s k v (change.Copy item from parent name) at left is = absurd is
gone_why s k v (change.Populated item) at left is = absurd is
gone_why s k v (change.Keep item on) at left is = absurd is

-- nor does it put a block
pub nothing_gone : (c : Change) (v : Volume) → IsRemove c → may_need_room c v ≡ false
nothing_gone (change.Make item parent name kind size identity) v is = absurd is
nothing_gone (change.Remove item) v is = refl
nothing_gone (change.Move item parent name) v is = absurd is
nothing_gone (change.Write item start bytes) v is = absurd is
nothing_gone (change.Size item bytes) v is = absurd is
nothing_gone (change.Filled item start bytes) v is = absurd is
nothing_gone (change.Validated item start len) v is = absurd is
nothing_gone (change.Emptied item start len) v is = absurd is
nothing_gone (change.SetPin item state) v is = absurd is
nothing_gone (change.Mark item number) v is = absurd is
nothing_gone (change.Clear item) v is = absurd is
nothing_gone (change.Convert item identity) v is = absurd is
nothing_gone (change.Revert item) v is = absurd is
nothing_gone (change.Rebase item identity len start) v is = absurd is
nothing_gone (change.Take item identity bytes) v is = absurd is
nothing_gone (change.Copy item from parent name) v is = absurd is
nothing_gone (change.Populated item) v is = absurd is
nothing_gone (change.Keep item on) v is = absurd is
