-- What two open volumes have at their paths, and the comparison of that.
use Rattle.std.proofs.Common.{◌≡◌, Bool, true, false, List, eqb, refl, sym, ap, subst, ◌∙◌}
use Rattle.std.specs.Prelude.{Option, Some, None, Result, IfOk}
use Rattle.std.proofs.lemmas.Result.{IfOk-weaker}
use Rattle.cf_base.specs.Names as base
use Rattle.cf_base.specs.declared.ids.ItemId.{ItemId}
use Rattle.cf_base.specs.declared.memory.OutOfMemory.{OutOfMemory as NoMemory}
use Rattle.cf_disk.specs.Disk.{State as Disk}
use Rattle.cf_engine.specs.Actors.{Syncing}
use Rattle.cf_filter_events.specs.Meaning.{Is, IsOn, OnBy}
use Rattle.cf_filter_events.specs.Pasts.{Past}
use Rattle.cf_filter_events.specs.declared.places.Acting.{Acting}
use Rattle.cf_filter_events.specs.declared.places.Acting.TheVariants as acting
use Rattle.cf_filter_events.specs.declared.places.RunningOn.{RunningOn as Run}
use Rattle.cf_filter_machine.proofs.Shown.{shows_at}
use Rattle.cf_filter_steps.proofs.LookUps.{of_found}
use Rattle.cf_filter_steps.specs.Good.{Every, IsSmall}
use Rattle.cf_model.proofs.NameLaws.{name_is}
use Rattle.cf_model.specs.Items.{Item, item_of}
use Rattle.cf_model.specs.State.{Broken, Off, On, Power, State, items_now}
use Rattle.cf_model.specs.Texts.{is_name}
use Rattle.cf_pair_compare.specs.declared.path_rows.PathRow.{PathRow}
use Rattle.cf_pair_events.specs.declared.answers.PairAnswer.TheVariants as answer
use Rattle.cf_pair_events.specs.declared.comparisons.Comparison.{Comparison}
use Rattle.cf_pair_events.specs.declared.comparisons.Comparison.TheVariants as comparison
use Rattle.cf_pair_identities.specs.Named.{AreNamed}
use Rattle.cf_pair_identities.specs.NamedPairs.{HasNamed}
use Rattle.cf_pair_lane.specs.declared.absences.Away.{Away}
use Rattle.cf_pair_paths.proofs.ApartRows.{apart}
use Rattle.cf_pair_paths.proofs.OrderlyTrees.{orderly}
use Rattle.cf_pair_settled.proofs.SettledRows.{pair_says_only}
use Rattle.cf_pair_settled.specs.Settled.{IsOrderly, SaysEqual}
use Rattle.cf_pair_traces.specs.Pairs.{Compares, ComparesBy, Pair, no_comparison, path_rows}
use Rattle.cf_pair_trees.specs.Trees.{AreApart, IsComparison}
use Rattle.cf_pair_run.specs.Sharing.{resting}
use Rattle.cf_table.specs.Tables.{MeansAll}
use Rattle.cf_table.specs.declared.rows.Row.{Row}
use Rattle.cf_tree.proofs.Alike.{BothMean, rows_by_id}
use Rattle.cf_tree.specs.Trees.{HaveNames}

-- names

names_of : (rows : List Row) (items : List Item) → MeansAll rows items → Every IsSmall items → HaveNames rows
names_of rows items m small id r found other = one (item_of items id) refl (subst (λ (o : Option Row). BothMean o (item_of items id)) found (rows_by_id rows items id m)) where
  one : (o : Option Item) → item_of items id ≡ o → BothMean (Some r) o → base.is_name r.name ≡ true
  one None e b = absurd b
  one (Some i) e b = sym (name_is r.name) ∙ ap is_name b.name ∙ (of_found IsSmall (λ (j : Item). eqb j.id.0 id.0) items i small e).name (ap (λ (d : ItemId). eqb d.0 1) (sym b.id) ∙ other)

-- an open volume that no call has broken

pub record IsWhole {D : Type 0} (x : Run D (Syncing Away)) (s : State) : Type 0 where
  pub on : s.power ≡ On
  pub rows : MeansAll x.filter.known.table.rows (items_now s)
  pub apart : AreApart (path_rows s)
  pub orderly : AreNamed false (items_now s) → IsOrderly s

pub whole : {D : Type 0} (state : D → Disk) (past : Past) (x : Run D (Syncing Away)) (s : State) → x.filter.desk.broken ≡ false → IsOn resting state past x s → IsWhole x s
whole state past x s sound h =
    let by : OnBy resting state false x s = subst (λ (b : Bool). OnBy resting state b x s) sound h.is in
    let shows = shows_at (state x.filter.disk) x.filter.known s.filter.volume by.2.volume in
    let good = by.2.good.volume in
    let names : HaveNames x.filter.known.table.rows = names_of x.filter.known.table.rows (items_now s) shows.rows good.small in
    record {
      on = by.0;
      rows = shows.rows;
      apart = apart x.filter.known.table.rows s shows.rows good.tree good.opened names;
      orderly = orderly x.filter.known.table.rows s shows.rows good.tree good.opened names good.sound;
    }

-- comparisons

same_answer : (as' bs : List PathRow) (c : Comparison) → IsComparison as' bs c → ComparesBy None as' bs c
same_answer as' bs comparison.Equal h = h
same_answer as' bs (comparison.Unequal path) h = h
same_answer as' bs (comparison.Refused c) h = h

pub compares_whole : {D : Type 0} (x y : Run D (Syncing Away)) (s t : State) (as' bs : List PathRow) (r : Result Comparison NoMemory) → IsWhole x s → IsWhole y t → as' ≡ path_rows s → bs ≡ path_rows t → (AreApart as' → AreApart bs → IfOk r (IsComparison as' bs)) → IfOk r (Compares s t)
compares_whole x y s t as' bs r u v ours theirs h =
    IfOk-weaker r _ _ (λ c is. subst (λ (p : Power). ComparesBy (no_comparison p t.power) (path_rows s) (path_rows t) c) (sym u.on)
    (subst (λ (p : Power). ComparesBy (no_comparison On p) (path_rows s) (path_rows t) c) (sym v.on)
    (subst (λ (rows : List PathRow). ComparesBy None rows (path_rows t) c) ours (subst (λ (rows : List PathRow). ComparesBy None as' rows c) theirs (same_answer as' bs c is)))))
    (h (subst AreApart (sym ours) u.apart) (subst AreApart (sym theirs) v.apart))

-- devices that are settled

both_on : (a b : Power) → no_comparison a b ≡ None → (a ≡ On) × (b ≡ On)
both_on On On e = (refl, refl)
both_on On Broken e = cc
both_on On Off e = cc
both_on Broken On e = cc
both_on Broken Broken e = cc
both_on Broken Off e = cc
both_on Off b e = cc

on_not_broken : (p : Power) → p ≡ On → p ≡ Broken → ⊥
on_not_broken p e f = let z : On ≡ Broken = sym e ∙ f in cc

on_not_off : (p : Power) → p ≡ On → p ≡ Off → ⊥
on_not_off p e f = let z : On ≡ Off = sym e ∙ f in cc

-- the state of a device that is on
on_orderly : {D : Type 0} (state : D → Disk) (past : Past) (x : Acting D (Syncing Away)) (s : State) → Is resting state past x s → s.power ≡ On → AreNamed false (items_now s) → IsOrderly s
on_orderly state past (acting.Off x) s h on named = absurd (on_not_off s.power on h.power)
on_orderly state past (acting.On x) s h on named = by x.filter.desk.broken refl where
  by : (b : Bool) → x.filter.desk.broken ≡ b → IsOrderly s
  by false e = (whole state past x s e h).orderly named
  by true e =
      let broken : OnBy resting state true x s = subst (λ (b : Bool). OnBy resting state b x s) e h.is in
      absurd (on_not_broken s.power on broken.0)

pub says_equal : {D : Type 0} (state : D → Disk) (first second : Past) (x y : Acting D (Syncing Away)) (p : Pair) (c : Comparison) → Is resting state first x p.first → Is resting state second y p.second → Compares p.first p.second c → HasNamed false p → SaysEqual (answer.Comparison c) p
says_equal state first second x y p c ours theirs compares = λ named settled on.
    let power = both_on p.first.power p.second.power on in
    pair_says_only p (on_orderly state first x p.first ours power.0 named.0) (on_orderly state second y p.second theirs power.1 named.1) c compares settled on
