-- The changes of a run are right where they are made, in `replay`.
use Rattle.std.proofs.Common.{◌≡◌, ◌⊎◌, ◌<◌, ℕ, zero, suc, false, List, [], ◌∷◌, ◌++◌, refl, sym, ◌∙◌, ap, subst, inl, inr, take, arith}
use Rattle.std.specs.Prelude.{map, length, Option, Some, None}
use Rattle.std.proofs.lemmas.List.{append-nil, append_assoc}
use Rattle.cf_base.specs.declared.answers.Answer.{Answer}
use Rattle.cf_base.specs.declared.changes.Change.{Change}
use Rattle.cf_base.specs.declared.changes.Change.TheVariants as change
use Rattle.cf_base.specs.declared.events.Event.{Event}
use Rattle.cf_base.specs.declared.policies.Mode.TheVariants as mode
use Rattle.cf_base.specs.declared.ids.ItemId.{ItemId}
use Rattle.cf_base.specs.declared.ids.Usn.{Usn}
use Rattle.cf_base.specs.declared.items.Pin.{Pin}
use Rattle.cf_model.specs.Changes.{next_number}
use Rattle.cf_model.specs.Contents.{IsTrueTo, RisesFrom, StaysBy, base_named, laid}
use Rattle.cf_model.specs.Effects.{copied, effect, later_than, untargeted}
use Rattle.cf_model.specs.Given.{AllBelow}
use Rattle.cf_model.specs.Growth.{Extends}
use Rattle.cf_model.specs.Identities.{base_bytes, content, is_untargeted}
use Rattle.cf_model.specs.Items.{Item, item_of, pin_of, writes_of}
use Rattle.cf_model.specs.Lawful.{Runs}
use Rattle.cf_model.specs.Logs.{after_changes, items_of, next_of}
use Rattle.cf_model.specs.Numbers.{no_usn, usn_after}
use Rattle.cf_model.specs.Overlay.{Written, over}
use Rattle.cf_model.specs.Soundness.{Each}
use Rattle.cf_model.specs.State.{Filter, Link, State, start}
use Rattle.cf_model.specs.Store.{Held}
use Rattle.cf_model.proofs.ContentItems.{copied-true, untargeted-base}
use Rattle.cf_model.proofs.GivenLaws.{all_below_next, all_below_opened}
use Rattle.cf_model.proofs.Laying.{laid-length}
use Rattle.cf_model_laws.specs.Fitting.{IsCopied, Meets, NamesWell}
use Rattle.cf_model_laws.specs.History.{HasMet, IsConvertible, IsCopyable, IsInOrder, IsMarkable, IsMeasured, IsRebasable}
use Rattle.cf_model_laws.specs.Invariant.{All, HasBase, InOrder, Invariant, IsRight, IsSound, SameBase, put_bytes}
use Rattle.cf_model_laws.specs.Logged.{AreChangesRight, EachMade, IsChangeRight}
use Rattle.cf_model_laws.specs.Premises.{IsFair, IsFresh}
use Rattle.cf_model_laws.proofs.BesideGuarded.{Beside, BesideRuns, Fact, Holds, HoldsAfter, HoldsIn, whole_beside}
use Rattle.cf_model_laws.proofs.ContentLaws.{sound_whole, start_sound}
use Rattle.cf_model_laws.proofs.EventsGuarded.{runs_keep}
use Rattle.cf_model_laws.proofs.FitContents.{rebase_leaves, rebase_takes_in}
use Rattle.cf_model_laws.proofs.Gathered.{each_all, each_both, each_weaker}
use Rattle.cf_model_laws.proofs.RightItems.{all_under, fits_meets, same_based, same_named, untargeted_same}
use Rattle.cf_model_laws.proofs.SoundSettles.{found_below}
use Rattle.cf_model_laws.proofs.SoundLinks.{base_stays, based_still}

-- logs

-- the items and the next id of a longer log

pub items_more : (items : List Item) (log : List (Usn × Change)) (n : Usn) (c : Change) → after_changes items (log ++ (n, c) ∷ []) ≡ effect (after_changes items log) c n
items_more items [] n c = refl
items_more items (d ∷ log) n c = items_more (effect items d.1 d.0) log n c

pub made_more : (C : List (Usn × Change) → Usn → Change → Type 0) (front cs : List (Usn × Change)) (n : Usn) (c : Change) → EachMade C front cs → C (front ++ cs) n c → EachMade C front (cs ++ (n, c) ∷ [])
made_more C front [] n c h k = (subst (λ (l : List (Usn × Change)). C l n c) (append-nil front) k, tt)
made_more C front (d ∷ cs) n c h k = (h.0, made_more C (front ++ d ∷ []) cs n c h.1 (subst (λ (l : List (Usn × Change)). C l n c) (sym (append_assoc front (d ∷ []) cs)) k))

made_front : (C : List (Usn × Change) → Usn → Change → Type 0) (front : List (Usn × Change)) (k : ℕ) (cs : List (Usn × Change)) → EachMade C front cs → EachMade C front (take k cs)
made_front C front zero cs h = tt
made_front C front (suc k) [] h = tt
made_front C front (suc k) (c ∷ cs) h = (h.0, made_front C (front ++ c ∷ []) k cs h.1)

pub made_weaker : (C D : List (Usn × Change) → Usn → Change → Type 0) → ((front : List (Usn × Change)) (n : Usn) (c : Change) → C front n c → D front n c) → (front cs : List (Usn × Change)) → EachMade C front cs → EachMade D front cs
made_weaker C D k front [] h = tt
made_weaker C D k front (c ∷ cs) h = (k front c.0 c.1 h.0, made_weaker C D k (front ++ c ∷ []) cs h.1)

-- a change that fits meets this

new_none : (id : ItemId) (next : ℕ) (items : List Item) → next ≡ id.0 → InOrder 0 next items → item_of items id ≡ None
new_none id next items same order = by (item_of items id) refl where
  apart : (a b : ℕ) → a < b → b ≡ a → ⊥
  apart a b h e = omega (arith, h, e)

  by : (o : Option Item) → item_of items id ≡ o → o ≡ None
  by None e = refl
  by (Some i) e = absurd (apart id.0 next (found_below id 0 next items i order e) same)

copy_content : (r : Held) (item parent : ItemId) (name : List ℕ) (n : Usn) (pin : Pin) (i : Item) → IsTrueTo r i → content r (copied item parent name pin n i) ≡ content r i
copy_content r item parent name n pin i h = copied-true r item parent name pin n i h ∙ ap (λ (b : List ℕ). laid i.held b) (untargeted-base r i.identity) ∙ sym h

ids_below : (low next : ℕ) (items : List Item) → InOrder low next items → (low < next) × All (λ i. i.id.0 < next) items
ids_below low next [] h = (h, tt)
ids_below low next (i ∷ is) h = let g = ids_below i.id.0 next is h.1 in (least low i.id.0 next h.0 g.0, (g.0, g.1)) where
  least : (a b c : ℕ) → a < b → b < c → a < c
  least a b c h k = omega (arith, h, k)

measured : (r : Held) (next : ℕ) (n : Usn) (i : Item) → i.id.0 < next → IsRight r n i → (i.directory ≡ false → IsTrueTo r i) → IsMeasured r next n i
measured r next n i low right h = (low, all_under n i.number i.writes right.early right.last, λ d. (right.based, ap (λ (b : List ℕ). length b) (h d) ∙ laid-length i.held (base_bytes r i)))

met : (r : Held) (x : Filter) (n : Usn) (c : Change) (front : List (Usn × Change)) → x.volume.items ≡ items_of front → x.volume.next_item.0 ≡ next_of front → x.volume.log ≡ front → InOrder 0 x.volume.next_item.0 x.volume.items → Meets r x c → ((id : ItemId) → Each id (λ i. i.directory ≡ false → IsTrueTo r i) x.volume.items) → All (IsRight r n) x.volume.items → HasMet r front n c
met r x n c front is next log order fit truly right = by c fit where
  at : (id : ItemId) → Each id (IsRight r n) x.volume.items
  at id = each_all id (IsRight r n) (IsRight r n) (λ i k. k) x.volume.items right

  there : (id : ItemId) (P : Item → Type 0) → Each id P x.volume.items → Each id P (items_of front)
  there id P h = subst (λ (items : List Item). Each id P items) is h

  measures : (id : ItemId) → Each id (IsMeasured r (next_of front) n) (items_of front)
  measures id =
      there id (IsMeasured r (next_of front) n) (each_both id (λ i. i.id.0 < next_of front) (λ i. IsRight r n i × (i.directory ≡ false → IsTrueTo r i)) (IsMeasured r (next_of front) n) (λ i low k. measured r (next_of front) n i low k.0 k.1) x.volume.items
      (each_all id (λ i. i.id.0 < next_of front) (λ i. i.id.0 < next_of front) (λ i k. k) x.volume.items (ids_below 0 (next_of front) x.volume.items (subst (λ (m : ℕ). InOrder 0 m x.volume.items) next order)).1)
      (each_both id (IsRight r n) (λ i. i.directory ≡ false → IsTrueTo r i) (λ i. IsRight r n i × (i.directory ≡ false → IsTrueTo r i)) (λ i k h. (k, h)) x.volume.items (at id) (truly id)))

  by : (c : Change) → Meets r x c → HasMet r front n c
  by (change.Make item parent name k size identity) fit = fit.0 ∙ next
  by (change.Remove item) fit = tt
  by (change.Move item parent name) fit = tt
  by (change.Write item off bytes) fit = measures item
  by (change.Size item size) fit = measures item
  by (change.Filled item start bytes) fit = tt
  by (change.Validated item start len) fit = tt
  by (change.Emptied item start len) fit = tt
  by (change.SetPin item pin) fit = tt
  by (change.Mark item number) fit = there item (IsMarkable r number) (each_both item (λ i. (i.writes ≡ []) × (number ≡ i.number) × (is_untargeted i ≡ false)) (IsRight r n) (IsMarkable r number) (λ i k right. (k.1, k.0, k.2, right.based)) x.volume.items fit (at item))
  by (change.Clear item) fit = tt
  by (change.Convert item identity) fit =
      there item (IsConvertible r identity) (each_both item (λ i. SameBase identity i.identity) (IsRight r n) (IsConvertible r identity) (λ i k right. (right.based, same_based r identity i.identity k right.based, same_named r identity i.identity k)) x.volume.items fit.0 (at item))
  by (change.Revert item) fit = fit
  by (change.Rebase item identity len number) fit =
      there item (IsRebasable r identity len number)
      (each_both item (λ i. i.directory ≡ false → (base_named r identity ≡ put_bytes (base_bytes r i) number i.writes) × StaysBy (base_bytes r i) (base_named r identity) (later_than number i.writes) i) (λ i. HasBase r identity × HasBase r i.identity × RisesFrom no_usn i.writes) (IsRebasable r identity len number)
      (λ i stays based d. (based.0, based.1, (stays d).0, (stays d).1.0, based.2)) x.volume.items
      (each_both item (λ i. i.directory ≡ false → base_named r identity ≡ put_bytes (base_bytes r i) number i.writes) (λ i. i.directory ≡ false → StaysBy (base_bytes r i) (base_named r identity) (later_than number i.writes) i)
      (λ i. i.directory ≡ false → (base_named r identity ≡ put_bytes (base_bytes r i) number i.writes) × StaysBy (base_bytes r i) (base_named r identity) (later_than number i.writes) i) (λ i a b d. (a d, b d)) x.volume.items
      (rebase_takes_in r x item identity len number n fit right) (rebase_leaves r x item identity len number n fit right))
      (each_both item (λ i. NamesWell r i.directory i.placeholder identity) (IsRight r n) (λ i. HasBase r identity × HasBase r i.identity × RisesFrom no_usn i.writes) (λ i well right. (well.based, right.based, right.rises)) x.volume.items fit.0 (at item)))
  by (change.Take item identity size) fit = elim fit.3 as (λ _. Each item (λ i. i.writes ≡ []) (items_of front) ⊎ IsCopied front item) [ inl k ↦ inl (there item (λ i. i.writes ≡ []) k) | inr k ↦ inr (subst (λ (l : List (Usn × Change)). IsCopied l item) log k) ]
  by (change.Copy item from parent name) fit =
      (fit ∙ next, subst (λ (items : List Item). item_of items item ≡ None) is (new_none item x.volume.next_item.0 x.volume.items (sym fit) order), there from (IsCopyable r item parent name n) (each_both from (IsRight r n) (λ i. i.directory ≡ false → IsTrueTo r i) (IsCopyable r item parent name n) (λ i right h d. (right.based, λ pin. copy_content r item parent name n pin i (h d))) x.volume.items (at from) (truly from)))
  by (change.Populated item) fit = tt
  by (change.Keep item on) fit = tt

-- what was met stays so where the remote grows

pub content_grows : (r s : Held) → Extends r s → (i : Item) → HasBase r i.identity → content s i ≡ content r i
content_grows r s x i h = ap (λ (b : List ℕ). over b (writes_of i)) (base_stays r s i.identity x h)

measured_grows : (r s : Held) → Extends r s → (next : ℕ) (n : Usn) (i : Item) → IsMeasured r next n i → IsMeasured s next n i
measured_grows r s x next n i h = (h.0, h.1, λ d. let g = h.2 d in (based_still r s i.identity x g.0, ap (λ (b : List ℕ). length b) (content_grows r s x i g.0) ∙ g.1))

met_grows : (r s : Held) → Extends r s → (front : List (Usn × Change)) (n : Usn) (c : Change) → HasMet r front n c → HasMet s front n c
met_grows r s x front n (change.Make item parent name k size identity) h = h
met_grows r s x front n (change.Remove item) h = tt
met_grows r s x front n (change.Move item parent name) h = tt
met_grows r s x front n (change.Write item at bytes) h = each_weaker item (IsMeasured r (next_of front) n) (IsMeasured s (next_of front) n) (measured_grows r s x (next_of front) n) (items_of front) h
met_grows r s x front n (change.Size item size) h = each_weaker item (IsMeasured r (next_of front) n) (IsMeasured s (next_of front) n) (measured_grows r s x (next_of front) n) (items_of front) h
met_grows r s x front n (change.Filled item start bytes) h = tt
met_grows r s x front n (change.Validated item start len) h = tt
met_grows r s x front n (change.Emptied item start len) h = tt
met_grows r s x front n (change.SetPin item pin) h = tt
met_grows r s x front n (change.Mark item number) h = each_weaker item (IsMarkable r number) (IsMarkable s number) (λ i k. (k.0, k.1, k.2, based_still r s i.identity x k.3)) (items_of front) h
met_grows r s x front n (change.Clear item) h = tt
met_grows r s x front n (change.Convert item identity) h =
    each_weaker item (IsConvertible r identity) (IsConvertible s identity) (λ i k. (based_still r s i.identity x k.0, based_still r s identity x k.1, base_stays r s identity x k.1 ∙ k.2 ∙ sym (base_stays r s i.identity x k.0))) (items_of front) h
met_grows r s x front n (change.Revert item) h = h
met_grows r s x front n (change.Rebase item identity len at) h =
    each_weaker item (IsRebasable r identity len at) (IsRebasable s identity len at)
    (λ i k d. let g = k d in (
      based_still r s identity x g.0,
      based_still r s i.identity x g.1,
      base_stays r s identity x g.0 ∙ g.2 ∙ ap (λ (b : List ℕ). put_bytes b at i.writes) (sym (base_stays r s i.identity x g.1)),
      ap (λ (b : List ℕ). over b (map (λ (w : Written). w.write) (later_than at i.writes))) (base_stays r s identity x g.0) ∙ g.3 ∙ sym (content_grows r s x i g.1),
      g.4,
    )) (items_of front) h
met_grows r s x front n (change.Take item identity size) h = h
met_grows r s x front n (change.Copy item from parent name) h = (
  h.0,
  h.1,
  each_weaker from (IsCopyable r item parent name n) (IsCopyable s item parent name n)
      (λ i k d. let g = k d in (based_still r s i.identity x g.0, λ pin. content_grows r s x (copied item parent name pin n i) (same_based r (untargeted i.identity) i.identity (untargeted_same i.identity) g.0) ∙ g.1 pin ∙ sym (content_grows r s x i g.0))) (items_of front) h.2,
)
met_grows r s x front n (change.Populated item) h = tt
met_grows r s x front n (change.Keep item on) h = tt

order_grows : (r s : Held) → Extends r s → (front : List (Usn × Change)) (n : Usn) (c : Change) → IsInOrder r front n c → IsInOrder s front n c
order_grows r s x front n c h = (h.0, met_grows r s x front n c h.1)

-- beside a log

abbrev pub Logged : Fact
Logged l e p log hs hn ws wn = AllBelow (usn_after e p) log × (IsFair l → EachMade (IsInOrder l.remote) [] log)

logged_put : (l : Link) (tokens : ℕ) (c : Change) (x : Filter) → (IsFair l → IsSound l tokens x) → (IsFair l → Meets l.remote x c) → Holds Logged l x → HoldsAfter Logged l c x
logged_put l tokens c x sound fit h = (
  all_below_next x.volume c h.0,
  λ fair. made_more (IsInOrder l.remote) [] x.volume.log (next_number x.volume) c (h.1 fair) (
    h.0,
    met l.remote x (next_number x.volume) c x.volume.log (sound fair).of_log.0 (sound fair).of_log.1 refl (sound fair).now.order (fit fair)
        (λ id. each_all id (λ i. i.directory ≡ false → IsTrueTo l.remote i) (λ i. i.directory ≡ false → IsTrueTo l.remote i) (λ i k. k) x.volume.items (sound fair).now.contents) (sound fair).now.right,
  ),
)

logged_beside : Beside Logged
logged_beside = record {
  puts = λ l tokens c x sound fit h. logged_put l tokens c x sound (λ fair. fits_meets l.remote x c (fit fair)) h;
  ends = λ l e p log hs hn ws wn stays h. h;
  begins = λ l tokens n x sound h. h;
  opens = λ l item x h. h;
  closes = λ l e p log hs hn ws wn stays h. h;
  stops = λ l e p log hs hn ws wn h. h;
  grows = λ l k e p log hs hn ws wn fair h. (h.0, λ z. made_weaker (IsInOrder l.remote) (IsInOrder k.remote) (order_grows l.remote k.remote (fair z).1) [] log (h.1 (fair z).0));
}

abbrev pub IsLogged : State → Type 0
IsLogged s = HoldsIn Logged s

pub logged_runs : BesideRuns Logged
logged_runs = record {
  beside = logged_beside;
  removes = λ l tokens item x sound idle h. (
    all_below_next x.volume (change.Remove item) h.0,
    λ fair. made_more (IsInOrder l.remote) [] x.volume.log (next_number x.volume) (change.Remove item) (h.1 fair) (h.0, tt),
  );
  crashes = λ l e p log hs hn ws wn h. h;
  opens = λ l p epoch v hs hn ws wn more h. (all_below_opened v p epoch more h.0, λ fair. made_front (IsInOrder l.remote) [] p.count v.log (h.1 fair));
}

pub run_logged : (remote : Held) (clusters : ℕ) (trace : List (Event × Answer)) (s : State) → Runs mode.Replay (start mode.Replay remote clusters) trace s → IsFresh remote → IsLogged s
run_logged remote clusters trace s runs fresh =
    (runs_keep (λ t. Invariant t × IsLogged t) (whole_beside Logged logged_runs Invariant sound_whole) (start mode.Replay remote clusters) trace s runs (start_sound remote clusters fresh, (tt, λ fair. tt))).1

-- the law

change_right : (r : Held) (front : List (Usn × Change)) (n : Usn) (c : Change) → IsInOrder r front n c → IsChangeRight r front n c
change_right r front n (change.Mark item number) h = h.1
change_right r front n (change.Rebase item identity len at) h = each_weaker item (IsRebasable r identity len at) _ (λ i k d. let g = k d in (g.0, g.2, g.3)) (items_of front) h.1
change_right r front n (change.Take item identity size) h = h.1
change_right r front n (change.Copy item from parent name) h = each_weaker from (IsCopyable r item parent name n) _ (λ i k d. (k d).1 (pin_of (items_of front) parent)) (items_of front) h.1.2
change_right r front n (change.Make item parent name k size identity) h = tt
change_right r front n (change.Remove item) h = tt
change_right r front n (change.Move item parent name) h = tt
change_right r front n (change.Write item at bytes) h = tt
change_right r front n (change.Size item size) h = tt
change_right r front n (change.Filled item start bytes) h = tt
change_right r front n (change.Validated item start len) h = tt
change_right r front n (change.Emptied item start len) h = tt
change_right r front n (change.SetPin item pin) h = tt
change_right r front n (change.Clear item) h = tt
change_right r front n (change.Convert item identity) h = tt
change_right r front n (change.Revert item) h = tt
change_right r front n (change.Populated item) h = tt
change_right r front n (change.Keep item on) h = tt

pub changes_right : (remote : Held) (clusters : ℕ) (trace : List (Event × Answer)) (s : State) → Runs mode.Replay (start mode.Replay remote clusters) trace s → IsFresh remote → AreChangesRight s
changes_right remote clusters trace s runs fresh fair =
    made_weaker (IsInOrder s.link.remote) (IsChangeRight s.link.remote) (change_right s.link.remote) [] s.filter.volume.log ((run_logged remote clusters trace s runs fresh).1 fair)
