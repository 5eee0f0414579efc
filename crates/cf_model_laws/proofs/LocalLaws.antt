-- Local writes are not lost.
use Rattle.std.proofs.Common.{◌≡◌, ◌⊎◌, ◌<◌, ◌+◌, ℕ, Bool, true, false, List, [], ◌∷◌, ◌++◌, refl, sym, ◌∙◌, ap, subst, inl, inr, arith, length, max, take, eq-eqb}
use Rattle.std.specs.Prelude.{Option, Some, None, cond, ◌||◌, ◌&&◌, ◌==◌}
use Rattle.std.specs.List.{list_any}
use Rattle.std.proofs.lemmas.List.{append_assoc, append-nil, take-append-drop}
use Rattle.cf_base.specs.declared.answers.Answer.{Answer}
use Rattle.cf_base.specs.declared.answers.Shown.{Shown}
use Rattle.cf_base.specs.declared.calls.Call.TheVariants as call
use Rattle.cf_base.specs.declared.changes.Change.{Change}
use Rattle.cf_base.specs.declared.changes.Change.TheVariants as change
use Rattle.cf_base.specs.declared.events.Event.{Event}
use Rattle.cf_base.specs.declared.events.Event.TheVariants as event
use Rattle.cf_base.specs.declared.ids.ItemId.{ItemId}
use Rattle.cf_base.specs.declared.ids.Usn.{Usn}
use Rattle.cf_base.specs.declared.policies.Mode.TheVariants as mode
use Rattle.cf_model.specs.Effects.{changed, effect, sized, wrote}
use Rattle.cf_model.specs.Events.{begun, tree_of}
use Rattle.cf_model.specs.Given.{AllBelow}
use Rattle.cf_model.specs.Identities.{base_bytes}
use Rattle.cf_model.specs.Items.{Item, is_here, item_of, root}
use Rattle.cf_model.specs.Kept.{byte_given, dropped_by, dropped_from, has_id, heirs_of, is_kept, keeps_at, lists, lists_at, made_with, takes_away, with_copies, with_copy}
use Rattle.cf_model.specs.Lawful.{Runs}
use Rattle.cf_model.specs.Logs.{items_of, next_by, next_of}
use Rattle.cf_model.specs.Numbers.{above}
use Rattle.cf_model.specs.Overlay.{Put, Resize}
use Rattle.cf_model.specs.Soundness.{Each}
use Rattle.cf_model.specs.State.{State, start}
use Rattle.cf_model.specs.Store.{Held}
use Rattle.cf_model.specs.Trees.{Ends, Keeps}
use Rattle.cf_model.specs.Words.{says, when}
use Rattle.cf_model.proofs.FlushedLaws.{flushed_is_front}
use Rattle.cf_model.proofs.TreeLaws.{kept_at_end}
use Rattle.cf_model_laws.specs.Fitting.{IsCopied}
use Rattle.cf_model_laws.specs.History.{HasMet, IsInOrder, IsMeasured}
use Rattle.cf_model_laws.specs.Invariant.{All, Invariant}
use Rattle.cf_model_laws.specs.Locals.{AreFlushedKept, AreLocalsHeld, AreLocalsKept, AreSparing, IsLocal, IsWritten, byte_by}
use Rattle.cf_model_laws.specs.Logged.{EachMade}
use Rattle.cf_model_laws.specs.Premises.{IsFresh}
use Rattle.cf_model_laws.specs.Uses.{since}
use Rattle.cf_model_laws.proofs.BesideGuarded.{whole_beside}
use Rattle.cf_model_laws.proofs.ContentLaws.{run_sound, sound_whole}
use Rattle.cf_model_laws.proofs.EventsGuarded.{event_now_keeps, runs_keep}
use Rattle.cf_model_laws.proofs.FoundItems.{found_id}
use Rattle.cf_model_laws.proofs.Gathered.{all_weaker}
use Rattle.cf_model_laws.proofs.Heirs.{Sub, all_dropped_sub, copies_both, copies_more, copies_sub, copy_more, dropped_both}
use Rattle.cf_model_laws.proofs.HeldLocals.{holds_first, lists_last}
use Rattle.cf_model_laws.proofs.KeptLocals.{all_at, any_after, any_at, held_step}
use Rattle.cf_model_laws.proofs.ListedLocals.{copied_step, lister_step}
use Rattle.cf_model_laws.proofs.LocalSteps.{HasLister, HoldsAt, HoldsIn, at_other, found_same}
use Rattle.cf_model_laws.proofs.LoggedGuarded.{IsLogged, Logged, items_more, logged_runs, run_logged}
use Rattle.cf_model_laws.proofs.PushRepliesGuarded.{each_at}
use Rattle.cf_model_laws.proofs.RightItems.{no_way}
use Rattle.cf_model_laws.proofs.SoundSettles.{any_longer}
use Rattle.cf_model_laws.proofs.SparedBytes.{held_given, held_grown, held_here, held_is}

-- the last change of a log

abbrev last_change : List (Usn × Change) → Option Change
last_change [] = None
last_change (c ∷ []) = Some c.1
last_change (c ∷ d ∷ cs) = last_change (d ∷ cs)

last_more : (log : List (Usn × Change)) (m : Usn) (c : Change) → last_change (log ++ (m, c) ∷ []) ≡ Some c
last_more [] m c = refl
last_more (d ∷ []) m c = refl
last_more (d ∷ e ∷ log) m c = last_more (e ∷ log) m c

same_last : (log more : List (Usn × Change)) (m k : Usn) (c d : Change) → log ++ (m, c) ∷ [] ≡ more ++ (k, d) ∷ [] → c ≡ d
same_last log more m k c d e = inner c d (sym (last_more log m c) ∙ ap last_change e ∙ last_more more k d) where
  inner : (c d : Change) → ◌≡◌ {A = Option Change} (Some c) (Some d) → c ≡ d
  inner c d z = cc

next_more : (log : List (Usn × Change)) (n : Usn) (c : Change) → next_of (log ++ (n, c) ∷ []) ≡ max (next_of log) (next_by c)
next_more [] n c = swaps (next_by c) where
  swaps : (a : ℕ) → max a 2 ≡ max 2 a
  swaps a = omega arith
next_more (d ∷ log) n c = ap (λ (x : ℕ). max (next_by d.1) x) (next_more log n c) ∙ shifts (next_by d.1) (next_of log) (next_by c) where
  shifts : (a b c : ℕ) → max a (max b c) ≡ max (max a b) c
  shifts a b c = omega arith

below_front : (m : Usn) (log : List (Usn × Change)) (c : Usn × Change) → AllBelow m (log ++ c ∷ []) → AllBelow m log
below_front m [] c h = tt
below_front m (d ∷ log) c h = (h.0, below_front m log c h.1)

pub made_behind : (C : List (Usn × Change) → Usn → Change → Type 0) (front xs ys : List (Usn × Change)) → EachMade C front (xs ++ ys) → EachMade C (front ++ xs) ys
made_behind C front [] ys h = subst (λ (l : List (Usn × Change)). EachMade C l ys) (sym (append-nil front)) h
made_behind C front (x ∷ xs) ys h = subst (λ (l : List (Usn × Change)). EachMade C l ys) (append_assoc front (x ∷ []) xs) (made_behind C (front ++ x ∷ []) xs ys h.1)

module _ (r : Held) (n : Usn) (p b : ℕ) where
  -- Beside the changes so far: each item of these that lists the write holds the byte; one of them lists it, or it went into a
  -- version that has the byte. Where the last change is a copy of one that lists the write, the copy lists it too.
  pub record Keeping (front : List (Usn × Change)) (ids : List ItemId) (got : List (List ℕ)) : Type 0 where
    pub held : All (HoldsAt r n p b (items_of front)) ids
    pub some : HasLister r n p b (items_of front) ids ⊎ (list_any (made_with r p b) got ≡ true)
    pub below : All (λ h. h.0 < next_of front) ids
    pub early : (m : Usn) → AllBelow m front → above m n ≡ true
    pub copied : (item : ItemId) → IsCopied front item → has_id ids item ≡ true → lists_at (items_of front) item n ≡ true → (new : ItemId) × (has_id ids new ≡ true) × (lists_at (items_of front) new n ≡ true) × (new.0 ≡ item.0 → ⊥)

  step : (front : List (Usn × Change)) (ids : List ItemId) (got : List (List ℕ)) (m : Usn) (c : Change) → Keeping front ids got → IsInOrder r front m c → All (λ h. lists_at (items_of front) h n ≡ true → takes_away (items_of front) h p c ≡ false) ids
      → Keeping (front ++ (m, c) ∷ []) (with_copy c ids) (got ++ dropped_by (items_of front) ids n c)
  step front ids got m c k order spares = record {
    held = subst (λ (is : List Item). All (HoldsAt r n p b is) (with_copy c ids)) (sym items) (held_step r n p b (items_of front) ids front m c refl a order.1 k.below k.held spares);
    some = by k.some;
    below = below_step c refl order.1;
    early = λ w h. k.early w (below_front w front (m, c) h);
    copied = λ item (f, v, new, parent, name, e) among listed. let z = same_last front f m v c (change.Copy new item parent name) e in
        let g = copied_step r n p b (items_of front) ids front m c item new parent name z refl order.1 among (subst (λ (is : List Item). lists_at is item n ≡ true) items listed) in
        (g.0, g.1, subst (λ (is : List Item). lists_at is g.0 n ≡ true) (sym items) g.2, g.3);
  }
    where
      items : items_of (front ++ (m, c) ∷ []) ≡ effect (items_of front) c m
      items = items_more (root ∷ []) front m c

      a : above m n ≡ true
      a = k.early m order.0

      by : HasLister r n p b (items_of front) ids ⊎ (list_any (made_with r p b) got ≡ true) → HasLister r n p b (items_of (front ++ (m, c) ∷ [])) (with_copy c ids) ⊎ (list_any (made_with r p b) (got ++ dropped_by (items_of front) ids n c) ≡ true)
      by (inr g) = inr (any_longer (made_with r p b) got _ g)
      by (inl h) = elim (lister_step r n p b (items_of front) ids front m c refl order.1 k.copied k.held spares h) as (λ _. HasLister r n p b (items_of (front ++ (m, c) ∷ [])) (with_copy c ids) ⊎ (list_any (made_with r p b) (got ++ dropped_by (items_of front) ids n c) ≡ true))
          [ inl g ↦ inl (subst (λ (is : List Item). HasLister r n p b is (with_copy c ids)) (sym items) g) | inr g ↦ inr (any_after (made_with r p b) got _ g) ]

      more : (x : ℕ) → x < next_of front → x < next_of (front ++ (m, c) ∷ [])
      more x h = subst (λ (y : ℕ). x < y) (sym (next_more front m c)) (up x (next_of front) (next_by c) h) where
        up : (x a b : ℕ) → x < a → x < max a b
        up x a b h = omega (arith, h)

      old : All (λ h. h.0 < next_of (front ++ (m, c) ∷ [])) ids
      old = all_weaker (λ h. h.0 < next_of front) (λ h. h.0 < next_of (front ++ (m, c) ∷ [])) (λ h low. more h.0 low) ids k.below

      below_step : (d : Change) → c ≡ d → HasMet r front m d → All (λ h. h.0 < next_of (front ++ (m, c) ∷ [])) (with_copy d ids)
      below_step (change.Copy item from parent name) e met = both (has_id ids from) where
        last : (x a b : ℕ) → x ≡ a → b ≡ x + 1 → x < max a b
        last x a b e k = omega (arith, e, k)

        new : item.0 < next_of (front ++ (m, c) ∷ [])
        new = subst (λ (y : ℕ). item.0 < y) (sym (next_more front m c)) (last item.0 (next_of front) (next_by c) met.0 (ap next_by e))

        both : (d : Bool) → All (λ h. h.0 < next_of (front ++ (m, c) ∷ [])) (when d (item ∷ []) ++ ids)
        both true = (new, old)
        both false = old
      below_step (change.Make item parent name k size identity) e met = old
      below_step (change.Remove item) e met = old
      below_step (change.Move item parent name) e met = old
      below_step (change.Write item at bytes) e met = old
      below_step (change.Size item size) e met = old
      below_step (change.Filled item start bytes) e met = old
      below_step (change.Validated item start len) e met = old
      below_step (change.Emptied item start len) e met = old
      below_step (change.SetPin item pin) e met = old
      below_step (change.Mark item number) e met = old
      below_step (change.Clear item) e met = old
      below_step (change.Convert item identity) e met = old
      below_step (change.Revert item) e met = old
      below_step (change.Rebase item identity len at) e met = old
      below_step (change.Take item identity size) e met = old
      below_step (change.Populated item) e met = old
      below_step (change.Keep item on) e met = old

  -- over any changes that spare the byte
  steps : (cs front : List (Usn × Change)) (ids : List ItemId) (got : List (List ℕ)) → Keeping front ids got → EachMade (IsInOrder r) front cs → AreSparing (items_of front) ids n p cs → Keeping (front ++ cs) (with_copies cs ids) (got ++ dropped_from (items_of front) ids n cs)
  steps [] front ids got k made spares = subst (λ (l : List (Usn × Change)). Keeping l ids (got ++ [])) (sym (append-nil front)) (subst (λ (g : List (List ℕ)). Keeping front ids g) (sym (append-nil got)) k)
  steps ((m, c) ∷ cs) front ids got k made spares =
      let items : items_of (front ++ (m, c) ∷ []) ≡ effect (items_of front) c m = items_more (root ∷ []) front m c in
      let more : Keeping (front ++ (m, c) ∷ []) (with_copy c ids) (got ++ dropped_by (items_of front) ids n c) = step front ids got m c k made.0 spares.0 in
      let rest = steps cs (front ++ (m, c) ∷ []) (with_copy c ids) (got ++ dropped_by (items_of front) ids n c) more made.1 (subst (λ (is : List Item). AreSparing is (with_copy c ids) n p cs) (sym items) spares.1) in
      subst (λ (l : List (Usn × Change)). Keeping l (with_copies cs (with_copy c ids)) (got ++ dropped_from (items_of front) ids n ((m, c) ∷ cs))) (append_assoc front ((m, c) ∷ []) cs)
      (subst (λ (g : List (List ℕ)). Keeping (front ++ (m, c) ∷ [] ++ cs) (with_copies cs (with_copy c ids)) g)
      (ap (λ (is : List Item). got ++ dropped_by (items_of front) ids n c ++ dropped_from is (with_copy c ids) n cs) items ∙ append_assoc got (dropped_by (items_of front) ids n c) (dropped_from (effect (items_of front) c m) (with_copy c ids) n cs)) rest)

  -- the write itself

  first : (before : List (Usn × Change)) (c : Change) (id : ItemId) → IsInOrder r before n c → IsWritten (items_of before) c id p b → Keeping (before ++ (n, c) ∷ []) (id ∷ []) []
  first before c id order w =
      let g = by c order.1 w.byte in
      record {
        held = (subst (λ (is : List Item). HoldsAt r n p b is id) (sym items) g.0, tt);
        some = inl (subst (λ (is : List Item). HasLister r n p b is (id ∷ [])) (sym items) g.1);
        below = (subst (λ (y : ℕ). id.0 < y) (sym (next_more before n c)) (up id.0 (next_of before) (next_by c) g.2), tt);
        early = λ m h. newest m before h;
        copied = λ item (f, v, new, parent, name, e) among listed. absurd (no_copy (change.Copy new item parent name) (same_last before f n v c (change.Copy new item parent name) e) refl);
      }
    where
      items : items_of (before ++ (n, c) ∷ []) ≡ effect (items_of before) c n
      items = items_more (root ∷ []) before n c

      up : (x a b : ℕ) → x < a → x < max a b
      up x a b h = omega (arith, h)

      newest : (m : Usn) (log : List (Usn × Change)) → AllBelow m (log ++ (n, c) ∷ []) → above m n ≡ true
      newest m [] h = h.0
      newest m (d ∷ log) h = newest m log h.1

      nothing : {A : Type 0} → ◌≡◌ {A = Option ℕ} None (Some b) → A
      nothing e = cc

      no_copy : (d : Change) → c ≡ d → byte_by d id (length w.item.held) p ≡ None → ⊥
      no_copy d e none = nothing (sym none ∙ ap (λ (x : Change). byte_by x id (length w.item.held) p) (sym e) ∙ w.byte)

      -- what an edit of the file that holds the byte makes
      made : (item : ItemId) (f : Item → Item) → ((i : Item) → (f i).id ≡ i.id) → (item.0 == id.0) ≡ true → HoldsIn r n p b (f w.item) → lists n (f w.item).writes ≡ true → HoldsAt r n p b (changed item f (items_of before)) id × HasLister r n p b (changed item f (items_of before)) (id ∷ [])
      made item f keeps q holds listed = (
        λ i found k. subst (HoldsIn r n p b) (the_same (f w.item) i (sym here ∙ found)) holds,
        (id, ap (λ (d : Bool). d || false) (eq-eqb id.0 id.0 refl), f w.item, here, listed),
      )
        where
          the_same : (x y : Item) → ◌≡◌ {A = Option Item} (Some x) (Some y) → x ≡ y
          the_same x y e = cc

          here : item_of (changed item f (items_of before)) id ≡ Some (f w.item)
          here = subst (λ (x : ItemId). item_of (changed item f (items_of before)) x ≡ Some (f w.item)) (sym (at_other r n p b item id q)) (found_same item f keeps (items_of before) w.item (subst (λ (x : ItemId). item_of (items_of before) x ≡ Some w.item) (at_other r n p b item id q) w.found))

      at_item : (item : ItemId) → (item.0 == id.0) ≡ true → Each item (IsMeasured r (next_of before) n) (items_of before) → IsMeasured r (next_of before) n w.item
      at_item item q met = each_at item (IsMeasured r (next_of before) n) (items_of before) w.item (subst (λ (x : ItemId). item_of (items_of before) x ≡ Some w.item) (at_other r n p b item id q) w.found) met

      low_id : w.item.id.0 < next_of before → id.0 < next_of before
      low_id h = subst (λ (x : ℕ). x < next_of before) (found_id id (items_of before) w.item w.found) h

      by : (d : Change) → HasMet r before n d → byte_by d id (length w.item.held) p ≡ Some b → HoldsAt r n p b (effect (items_of before) d n) id × HasLister r n p b (effect (items_of before) d n) (id ∷ []) × (id.0 < next_of before)
      by (change.Write item at bytes) met e = one (item.0 == id.0) refl e where
        one : (t : Bool) → (item.0 == id.0) ≡ t → cond t (byte_given (length w.item.held) (Put at bytes) p) None ≡ Some b
            → HoldsAt r n p b (changed item (wrote at bytes n) (items_of before)) id × HasLister r n p b (changed item (wrote at bytes n) (items_of before)) (id ∷ []) × (id.0 < next_of before)
        one true q g =
            let m = at_item item q met in
            let k = made item (wrote at bytes n) (λ i. refl) q (holds_first n p b (base_bytes r w.item) w.item.directory _ w.item.writes (length w.item.held) (Put at bytes) w.file m.1 (m.2 w.file).1 g (held_given b at bytes w.item.held p g)) (lists_last n w.item.writes _ refl) in
            (k.0, k.1, low_id m.0)
        one false q g = nothing g
      by (change.Size item size) met e = one (item.0 == id.0) refl e where
        one : (t : Bool) → (item.0 == id.0) ≡ t → cond t (byte_given (length w.item.held) (Resize size) p) None ≡ Some b
            → HoldsAt r n p b (changed item (sized size n) (items_of before)) id × HasLister r n p b (changed item (sized size n) (items_of before)) (id ∷ []) × (id.0 < next_of before)
        one true q g =
            let m = at_item item q met in
            let k = made item (sized size n) (λ i. refl) q (holds_first n p b (base_bytes r w.item) w.item.directory _ w.item.writes (length w.item.held) (Resize size) w.file m.1 (m.2 w.file).1 g (held_grown b size w.item.held p g)) (lists_last n w.item.writes _ refl) in
            (k.0, k.1, low_id m.0)
        one false q g = nothing g
      by (change.Make item parent name k size identity) met e = nothing e
      by (change.Remove item) met e = nothing e
      by (change.Move item parent name) met e = nothing e
      by (change.Filled item start bytes) met e = nothing e
      by (change.Validated item start len) met e = nothing e
      by (change.Emptied item start len) met e = nothing e
      by (change.SetPin item pin) met e = nothing e
      by (change.Mark item number) met e = nothing e
      by (change.Clear item) met e = nothing e
      by (change.Convert item identity) met e = nothing e
      by (change.Revert item) met e = nothing e
      by (change.Rebase item identity len at) met e = nothing e
      by (change.Take item identity size) met e = nothing e
      by (change.Copy item from parent name) met e = nothing e
      by (change.Populated item) met e = nothing e
      by (change.Keep item on) met e = nothing e

  -- all that is kept of the byte
  pub keeping : (before : List (Usn × Change)) (c : Change) (after : List (Usn × Change)) (id : ItemId) → EachMade (IsInOrder r) [] (before ++ (n, c) ∷ after) → IsWritten (items_of before) c id p b → AreSparing (effect (items_of before) c n) (id ∷ []) n p after
      → Keeping (before ++ (n, c) ∷ after) (with_copies after (id ∷ [])) (dropped_from (effect (items_of before) c n) (id ∷ []) n after)
  keeping before c after id made w spares =
      let behind : EachMade (IsInOrder r) before ((n, c) ∷ after) = made_behind (IsInOrder r) [] before ((n, c) ∷ after) made in
      let items : items_of (before ++ (n, c) ∷ []) ≡ effect (items_of before) c n = items_more (root ∷ []) before n c in
      subst (λ (is : List Item). Keeping (before ++ (n, c) ∷ after) (with_copies after (id ∷ [])) (dropped_from is (id ∷ []) n after)) items
      (subst (λ (l : List (Usn × Change)). Keeping l (with_copies after (id ∷ [])) (dropped_from (items_of (before ++ (n, c) ∷ [])) (id ∷ []) n after)) (append_assoc before ((n, c) ∷ []) after)
      (steps after (before ++ (n, c) ∷ []) (id ∷ []) [] (first before c id behind.0 w) behind.1 (subst (λ (is : List Item). AreSparing is (id ∷ []) n p after) (sym items) spares)))

-- the laws

or_first : (a d : Bool) → a ≡ true → (a || d) ≡ true
or_first true d e = refl
or_first false d e = no_way e

or_second : (a d : Bool) → d ≡ true → (a || d) ≡ true
or_second true d e = refl
or_second false d e = e

-- of a log of the machine
pub log_keeps : (r : Held) (log : List (Usn × Change)) (id : ItemId) (n : Usn) (p b : ℕ) → EachMade (IsInOrder r) [] log → IsLocal log id n p b → is_kept r log id n p b ≡ true
log_keeps r log id n p b made h = subst (λ (l : List (Usn × Change)). is_kept r l id n p b ≡ true) (sym h.parts) (by k.some) where
  whole : List (Usn × Change)
  whole = h.before ++ (n, h.write) ∷ h.after

  k : Keeping r n p b (h.before ++ (n, h.write) ∷ h.after) (with_copies h.after (id ∷ [])) (dropped_from (effect (items_of h.before) h.write n) (id ∷ []) n h.after)
  k = keeping r n p b h.before h.write h.after id (subst (EachMade (IsInOrder r) []) h.parts made) h.written h.spared

  sub : Sub (id ∷ []) (with_copy h.write (with_copies h.before (id ∷ [])))
  sub x e = copy_more h.write (with_copies h.before (id ∷ [])) x (copies_more h.before (id ∷ []) x e)

  heirs : heirs_of (h.before ++ (n, h.write) ∷ h.after) id ≡ with_copies h.after (with_copy h.write (with_copies h.before (id ∷ [])))
  heirs = copies_both h.before ((n, h.write) ∷ h.after) (id ∷ [])

  by : HasLister r n p b (items_of (h.before ++ (n, h.write) ∷ h.after)) (with_copies h.after (id ∷ [])) ⊎ (list_any (made_with r p b) (dropped_from (effect (items_of h.before) h.write n) (id ∷ []) n h.after) ≡ true) → is_kept r (h.before ++ (n, h.write) ∷ h.after) id n p b ≡ true
  by (inl (x, among, i, found, listed)) =
      let holds : HoldsIn r n p b i = all_at (HoldsAt r n p b (items_of (h.before ++ (n, h.write) ∷ h.after))) (with_copies h.after (id ∷ [])) x among k.held i found listed in
      let kept : keeps_at (items_of (h.before ++ (n, h.write) ∷ h.after)) n p x ≡ true = ap (λ (o : Option Item). says (λ j. lists n j.writes && is_here j p) o) found ∙ ap (λ (c : Bool). c && is_here i p) listed ∙ held_here b i.held p holds.here in
      let there : has_id (heirs_of (h.before ++ (n, h.write) ∷ h.after) id) x ≡ true = subst (λ (ids : List ItemId). has_id ids x ≡ true) (sym heirs) (copies_sub h.after (id ∷ []) (with_copy h.write (with_copies h.before (id ∷ []))) sub x among) in
      or_first _ _ (any_at (keeps_at (items_of (h.before ++ (n, h.write) ∷ h.after)) n p) (heirs_of (h.before ++ (n, h.write) ∷ h.after) id) x there kept)
  by (inr e) =
      let more : list_any (made_with r p b) (dropped_from (effect (items_of h.before) h.write n) (with_copy h.write (with_copies h.before (id ∷ []))) n h.after) ≡ true = all_dropped_sub (made_with r p b) h.after (effect (items_of h.before) h.write n) (id ∷ []) (with_copy h.write (with_copies h.before (id ∷ []))) n sub e in
      or_second _ _ (subst (λ (g : List (List ℕ)). list_any (made_with r p b) g ≡ true) (sym (dropped_both h.before ((n, h.write) ∷ h.after) (root ∷ []) (id ∷ []) n))
      (any_after (made_with r p b) (dropped_from (root ∷ []) (id ∷ []) n h.before) _ (any_after (made_with r p b) (dropped_by (items_of h.before) (with_copies h.before (id ∷ [])) n h.write) _ more)))

pub locals_kept : (remote : Held) (clusters : ℕ) (trace : List (Event × Answer)) (s : State) → Runs mode.Replay (start mode.Replay remote clusters) trace s → IsFresh remote → AreLocalsKept s
locals_kept remote clusters trace s runs fresh fair id n p b h = log_keeps s.link.remote s.filter.volume.log id n p b ((run_logged remote clusters trace s runs fresh).1 fair) h

pub locals_held : (remote : Held) (clusters : ℕ) (trace : List (Event × Answer)) (s : State) → Runs mode.Replay (start mode.Replay remote clusters) trace s → IsFresh remote → AreLocalsHeld s
locals_held remote clusters trace s runs fresh fair id n p b h = all_weaker (HoldsAt r n p b (items_of s.filter.volume.log)) _ (λ k holds i found listed. held_is b i.held p (holds i (subst (λ (is : List Item). item_of is k ≡ Some i) is_log found) listed).here) (with_copies h.after (id ∷ [])) held where
  r : Held
  r = s.link.remote

  is_log : s.filter.volume.items ≡ items_of s.filter.volume.log
  is_log = ((run_sound remote clusters trace s runs fresh).1 fair).of_log.0

  k : Keeping s.link.remote n p b (h.before ++ (n, h.write) ∷ h.after) (with_copies h.after (id ∷ [])) (dropped_from (effect (items_of h.before) h.write n) (id ∷ []) n h.after)
  k = keeping s.link.remote n p b h.before h.write h.after id (subst (EachMade (IsInOrder s.link.remote) []) h.parts ((run_logged remote clusters trace s runs fresh).1 fair)) h.written h.spared

  held : All (HoldsAt s.link.remote n p b (items_of s.filter.volume.log)) (with_copies h.after (id ∷ []))
  held = subst (λ (l : List (Usn × Change)). All (HoldsAt s.link.remote n p b (items_of l)) (with_copies h.after (id ∷ []))) (sym h.parts) k.held

-- what was flushed is in every later log

pub flushed_locals_kept : (remote : Held) (clusters : ℕ) (before : List (Event × Answer)) (first : State) (r : Shown) (flushed : State) (trace : List (Event × Answer)) (t : State)
    → Runs mode.Replay (start mode.Replay remote clusters) before first → IsFresh remote → Ends (tree_of (event.Call call.Flush) first) r flushed → Runs mode.Replay flushed trace t → AreFlushedKept flushed t
flushed_locals_kept remote clusters before first r flushed trace t runs fresh ends more fair id n p b h =
    let whole = whole_beside Logged logged_runs Invariant sound_whole in
    let now : Invariant first × IsLogged first = (run_sound remote clusters before first runs fresh, run_logged remote clusters before first runs fresh) in
    let kept : Keeps (λ u. Invariant u × IsLogged u) (tree_of (event.Call call.Flush) first) = (event_now_keeps (λ u. Invariant u × IsLogged u) whole (event.Call call.Flush) refl).keeps (begun first) (whole.begins first now) in
    let last : Invariant t × IsLogged t = runs_keep (λ u. Invariant u × IsLogged u) whole flushed trace t more (kept_at_end (λ u. Invariant u × IsLogged u) (tree_of (event.Call call.Flush) first) r flushed kept ends) in
    let front : take (length flushed.filter.volume.log) t.filter.volume.log ≡ flushed.filter.volume.log = flushed_is_front mode.Replay first r flushed trace t ends more in
    let parts : t.filter.volume.log ≡ h.before ++ (n, h.write) ∷ (h.after ++ since flushed t) =
    sym (take-append-drop (length flushed.filter.volume.log) t.filter.volume.log)
    ∙ ap (λ (l : List (Usn × Change)). l ++ since flushed t) (front ∙ h.parts)
    ∙ append_assoc h.before ((n, h.write) ∷ h.after) (since flushed t) in
    log_keeps t.link.remote t.filter.volume.log id n p b (last.1.1 fair) (record { before = h.before; write = h.write; after = h.after ++ since flushed t; parts = parts; written = h.written; spared = h.spared })
