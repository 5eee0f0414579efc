-- What is in use is neither removed nor taken over, and what a feed removes is vacant.
use Rattle.std.proofs.Common.{◌≡◌, ◌⊎◌, ◌<◌, ◌≤◌, ◌+◌, ℕ, Bool, true, false, List, [], ◌∷◌, ◌++◌, refl, sym, ◌∙◌, ap, subst, inl, inr, arith, length, eq-eqb}
use Rattle.std.specs.Prelude.{None, drop, ◌||◌, ◌==◌}
use Rattle.std.specs.List.{list_any}
use Rattle.std.proofs.lemmas.List.{append-nil, append_assoc, drop-append-le, length-append}
use Rattle.cf_base.specs.declared.answers.Answer.{Answer}
use Rattle.cf_base.specs.declared.changes.Change.{Change}
use Rattle.cf_base.specs.declared.changes.Change.TheVariants as change
use Rattle.cf_base.specs.declared.events.Event.{Event}
use Rattle.cf_base.specs.declared.ids.ItemId.{ItemId}
use Rattle.cf_base.specs.declared.ids.Key.{Key}
use Rattle.cf_base.specs.declared.ids.Usn.{Usn}
use Rattle.cf_base.specs.declared.policies.Mode.TheVariants as mode
use Rattle.cf_base.specs.declared.waits.WaitKind.TheVariants as wait_kind
use Rattle.cf_model.specs.Calls.{next_handle}
use Rattle.cf_model.specs.Changes.{next_number}
use Rattle.cf_model.specs.Dehydration.{in_use}
use Rattle.cf_model.specs.Events.{begun, is_of, tree_of}
use Rattle.cf_model.specs.Items.{Item}
use Rattle.cf_model.specs.Lawful.{Runs}
use Rattle.cf_model.specs.Logs.{items_of}
use Rattle.cf_model.specs.Missing.{Wait, no_span}
use Rattle.cf_model.specs.Numbers.{key_after, no_key, same_key}
use Rattle.cf_model.specs.Requests.{also_background, is_busy_beside, wait_after}
use Rattle.cf_model.specs.Soundness.{Each}
use Rattle.cf_model.specs.State.{Filter, Link, Open, State, start}
use Rattle.cf_model.specs.Store.{Held}
use Rattle.cf_model.specs.Trees.{Keeps}
use Rattle.cf_model.specs.Waits.{Need, beside, wait_for}
use Rattle.cf_model.specs.Words.{when}
use Rattle.cf_model_laws.specs.Fitting.{Fits, IsVacant, Meets}
use Rattle.cf_model_laws.specs.GivenOnce.{WasGiven}
use Rattle.cf_model_laws.specs.Invariant.{All, Invariant, IsSound}
use Rattle.cf_model_laws.specs.Logged.{EachMade}
use Rattle.cf_model_laws.specs.Premises.{IsFair, IsFresh}
use Rattle.cf_model_laws.specs.Uses.{AreRemovalsVacant, AreUsesLeft, IsRemovalVacant, Replaces, is_other}
use Rattle.cf_model_laws.proofs.BesideGuarded.{Beside, BesideRuns, Fact, Holds, HoldsAfter, HoldsIn, commanding_beside, entering_beside, guarded_beside, whole_beside, ruling_beside}
use Rattle.cf_model_laws.proofs.ContentLaws.{keeps_weaker, run_sound, sound_whole}
use Rattle.cf_model_laws.proofs.EventsGuarded.{event_now_keeps, other_event_keeps, runs_keep}
use Rattle.cf_model_laws.proofs.FeedsGuarded.{not_waited, or_right_false}
use Rattle.cf_model_laws.proofs.Gathered.{all_any, all_append, all_both, all_filter}
use Rattle.cf_model_laws.proofs.LoggedGuarded.{made_more}
use Rattle.cf_model_laws.proofs.RightItems.{fits_meets, no_way, no_way_back}
use Rattle.cf_model_laws.proofs.SoundStates.{sound_commands, sound_enters, sound_guarded}

-- what was given before is not given next

given_less : (e n f m : ℕ) (k : Key) → (e < f) ⊎ ((f ≡ e) × (n ≤ m)) → k.epoch ≡ f → m < k.number → WasGiven e n k → ⊥
given_less e n f m k (inl h) at more (inl g) = omega (arith, h, at, g)
given_less e n f m k (inl h) at more (inr g) = let y : k.epoch ≡ e = g.0 in omega (arith, h, at, y)
given_less e n f m k (inr h) at more (inl g) = let y : f ≡ e = h.0 in omega (arith, y, at, g)
given_less e n f m k (inr h) at more (inr g) = let y : n ≤ m = h.1 in let z : k.number ≤ n = g.1 in omega (arith, y, z, more)

-- Beside a state: how many handles and waits it had given, and how long its log was.

abbrev Later : ℕ → ℕ → ℕ → ℕ → Type 0
Later e n f m = (e < f) ⊎ ((f ≡ e) × (n ≤ m))

abbrev LeftIn : ℕ → List (Usn × Change) → ItemId → Type 0
LeftIn n log id = (n ≤ length log) × All (λ c. Replaces c.1 id → ⊥) (drop n log)

abbrev HandleLeft : ℕ → ℕ → ℕ → List (Usn × Change) → Open → Type 0
HandleLeft e hn n log o = WasGiven e hn o.handle.0 → LeftIn n log o.item

abbrev WaitLeft : ℕ → ℕ → ℕ → List (Usn × Change) → Wait → Type 0
WaitLeft e wn n log w = WasGiven e wn w.id.0 → LeftIn n log w.item

-- of the epoch, the counts and the log's length of the earlier state
pub record Left (e hn wn n : ℕ) (l : Link) (f p : ℕ) (log : List (Usn × Change)) (hs : List Open) (hm : ℕ) (ws : List Wait) (wm : ℕ) : Type 0 where
  pub handles : Later e hn f hm
  pub waits : Later e wn f wm
  pub opened : IsFair l → All (HandleLeft e hn n log) hs
  pub waited : IsFair l → All (WaitLeft e wn n log) ws

left_more : (n : ℕ) (log : List (Usn × Change)) (m : Usn) (c : Change) (id : ItemId) → (Replaces c id → ⊥) → LeftIn n log id → LeftIn n (log ++ (m, c) ∷ []) id
left_more n log m c id free h = (
  longer n (length log) (length (log ++ (m, c) ∷ [])) h.0 (length-append log ((m, c) ∷ [])),
  subst (λ (cs : List (Usn × Change)). All (λ d. Replaces d.1 id → ⊥) cs) (sym (drop-append-le n log ((m, c) ∷ []) h.0)) (all_append (λ d. Replaces d.1 id → ⊥) (drop n log) ((m, c) ∷ []) h.1 (free, tt)),
)
  where
    longer : (a b d : ℕ) → a ≤ b → d ≡ b + 1 → a ≤ d
    longer a b d h e = omega (arith, h, e)

-- what is in use is apart from what a change takes

apart_any : {A : Type 0} (f : A → ItemId) (id : ItemId) (xs : List A) → list_any (λ x. (f x).0 == id.0) xs ≡ false → All (λ x. id.0 ≡ (f x).0 → ⊥) xs
apart_any f id [] h = tt
apart_any f id (x ∷ xs) h = by ((f x).0 == id.0) refl h (apart_any f id xs) where
  by : (b : Bool) → ((f x).0 == id.0) ≡ b → (b || list_any (λ y. (f y).0 == id.0) xs) ≡ false → (list_any (λ y. (f y).0 == id.0) xs ≡ false → All (λ y. id.0 ≡ (f y).0 → ⊥) xs) → All (λ y. id.0 ≡ (f y).0 → ⊥) (x ∷ xs)
  by true q e g = no_way_back e
  by false q e g = ((λ z. no_way (sym q ∙ eq-eqb (f x).0 id.0 (sym z))), g e)

abbrev pub Apart : Change → Filter → Type 0
Apart c x = All (λ o. Replaces c o.item → ⊥) x.handles × All (λ w. Replaces c w.item → ⊥) x.waiting.waits

or_left_false : (a b : Bool) → (a || b) ≡ false → a ≡ false
or_left_false true b e = no_way_back e
or_left_false false b e = refl

pub idle_apart : (item : ItemId) (x : Filter) → All (λ w. same_key w.id.0 no_key ≡ false) x.waiting.waits → in_use item x ≡ false → All (λ o. item.0 ≡ o.item.0 → ⊥) x.handles × All (λ w. item.0 ≡ w.item.0 → ⊥) x.waiting.waits
idle_apart item x numbered idle = (
  apart_any (λ o. o.item) item x.handles (or_left_false (list_any (λ o. o.item.0 == item.0) x.handles) (is_busy_beside item (record { 0 = no_key }) x.waiting) idle),
  apart_any (λ w. w.item) item x.waiting.waits (not_waited item x.waiting.waits numbered (or_right_false (list_any (λ o. o.item.0 == item.0) x.handles) (is_busy_beside item (record { 0 = no_key }) x.waiting) idle)),
)

plainly_apart : (c : Change) (x : Filter) → ((id : ItemId) → Replaces c id → ⊥) → Apart c x
plainly_apart c x k = (all_any (λ o. Replaces c o.item → ⊥) (λ o. k o.item) x.handles, all_any (λ w. Replaces c w.item → ⊥) (λ w. k w.item) x.waiting.waits)

pub apart : (r : Held) (x : Filter) (c : Change) → All (λ w. same_key w.id.0 no_key ≡ false) x.waiting.waits → Meets r x c → Apart c x
apart r x (change.Make item parent name k size identity) numbered fit = plainly_apart (change.Make item parent name k size identity) x (λ id z. z)
apart r x (change.Remove item) numbered fit = idle_apart item x numbered fit
apart r x (change.Move item parent name) numbered fit = plainly_apart (change.Move item parent name) x (λ id z. z)
apart r x (change.Write item at bytes) numbered fit = plainly_apart (change.Write item at bytes) x (λ id z. z)
apart r x (change.Size item size) numbered fit = plainly_apart (change.Size item size) x (λ id z. z)
apart r x (change.Filled item start bytes) numbered fit = plainly_apart (change.Filled item start bytes) x (λ id z. z)
apart r x (change.Validated item start len) numbered fit = plainly_apart (change.Validated item start len) x (λ id z. z)
apart r x (change.Emptied item start len) numbered fit = plainly_apart (change.Emptied item start len) x (λ id z. z)
apart r x (change.SetPin item pin) numbered fit = plainly_apart (change.SetPin item pin) x (λ id z. z)
apart r x (change.Mark item number) numbered fit = plainly_apart (change.Mark item number) x (λ id z. z)
apart r x (change.Clear item) numbered fit = plainly_apart (change.Clear item) x (λ id z. z)
apart r x (change.Convert item identity) numbered fit = plainly_apart (change.Convert item identity) x (λ id z. z)
apart r x (change.Revert item) numbered fit = plainly_apart (change.Revert item) x (λ id z. z)
apart r x (change.Rebase item identity len at) numbered fit = plainly_apart (change.Rebase item identity len at) x (λ id z. z)
apart r x (change.Take item identity size) numbered fit = idle_apart item x numbered fit.4
apart r x (change.Copy item from parent name) numbered fit = plainly_apart (change.Copy item from parent name) x (λ id z. z)
apart r x (change.Populated item) numbered fit = plainly_apart (change.Populated item) x (λ id z. z)
apart r x (change.Keep item on) numbered fit = plainly_apart (change.Keep item on) x (λ id z. z)

left_put : (e hn wn n : ℕ) (l : Link) (c : Change) (x : Filter) → (IsFair l → Apart c x) → Holds (Left e hn wn n) l x → HoldsAfter (Left e hn wn n) l c x
left_put e hn wn n l c x free h = record {
  handles = h.handles;
  waits = h.waits;
  opened = λ fair. all_both (λ o. Replaces c o.item → ⊥) (HandleLeft e hn n x.volume.log) (HandleLeft e hn n (x.volume.log ++ (next_number x.volume, c) ∷ [])) (λ o clear k g. left_more n x.volume.log (next_number x.volume) c o.item clear (k g)) x.handles (free fair).0 (h.opened fair);
  waited = λ fair. all_both (λ w. Replaces c w.item → ⊥) (WaitLeft e wn n x.volume.log) (WaitLeft e wn n (x.volume.log ++ (next_number x.volume, c) ∷ [])) (λ w clear k g. left_more n x.volume.log (next_number x.volume) c w.item clear (k g)) x.waiting.waits (free fair).1 (h.waited fair);
}

one_more : (e n f m k : ℕ) → Later e n f m → Later e n f (m + k)
one_more e n f m k (inl h) = inl h
one_more e n f m k (inr h) = inr (h.0, let z : n ≤ m = h.1 in omega (arith, z))

next_not : (e n f g m k : ℕ) → Later e n f m → g ≡ f → WasGiven e n (key_after g (m + k)) → ⊥
next_not e n f g m k h same given = given_less e n f m (key_after g (m + k)) h same (less m k) given where
  less : (m k : ℕ) → m < m + k + 1
  less m k = omega arith

left_begins : (e hn wn n : ℕ) (l : Link) (tokens : ℕ) (need : Need) (x : Filter) → (IsFair l → IsSound l tokens x) → Holds (Left e hn wn n) l x
    → Left e hn wn n l x.volume.epoch x.volume.place x.volume.log x.handles x.handle_count (x.waiting.waits ++ wait_for need x ∷ beside need x) (x.waiting.wait_count + length (wait_for need x ∷ beside need x))
left_begins e hn wn n l tokens need x sound h = record {
  handles = h.handles;
  waits = one_more e wn x.volume.epoch x.waiting.wait_count (length (wait_for need x ∷ beside need x)) h.waits;
  opened = h.opened;
  waited = λ fair. all_append (WaitLeft e wn n x.volume.log) x.waiting.waits (wait_for need x ∷ beside need x) (h.waited fair)
      ((λ given. absurd (next_not e wn x.volume.epoch x.waiting.epoch x.waiting.wait_count 0 h.waits (sound fair).one_epoch given)), others fair (also_background need.background need.item x.waiting));
}
  where
    others : IsFair l → (b : Bool) → All (WaitLeft e wn n x.volume.log) (when b (wait_after x.waiting 1 wait_kind.Background need.item None no_span ∷ []))
    others fair true = ((λ given. absurd (next_not e wn x.volume.epoch x.waiting.epoch x.waiting.wait_count 1 h.waits (sound fair).one_epoch given)), tt)
    others fair false = tt

plus_none : (m : ℕ) → m + 0 ≡ m
plus_none m = omega arith

left_opens : (e hn wn n : ℕ) (l : Link) (item : ItemId) (x : Filter) → Holds (Left e hn wn n) l x
    → Left e hn wn n l x.volume.epoch x.volume.place x.volume.log (x.handles ++ record { handle = next_handle x; item = item } ∷ []) (x.handle_count + 1) x.waiting.waits x.waiting.wait_count
left_opens e hn wn n l item x h = record {
  handles = one_more e hn x.volume.epoch x.handle_count 1 h.handles;
  waits = h.waits;
  opened = λ fair. all_append (HandleLeft e hn n x.volume.log) x.handles (record { handle = next_handle x; item = item } ∷ []) (h.opened fair)
      ((λ given. absurd (next_not e hn x.volume.epoch x.volume.epoch x.handle_count 0 h.handles refl (subst (λ (m : ℕ). WasGiven e hn (key_after x.volume.epoch m)) (sym (plus_none x.handle_count)) given))), tt);
  waited = h.waited;
}

left_beside : (e hn wn n : ℕ) → Beside (Left e hn wn n)
left_beside e hn wn n = record {
  puts = λ l tokens c x sound fit h. left_put e hn wn n l c x (λ fair. apart l.remote x c (sound fair).numbered (fits_meets l.remote x c (fit fair))) h;
  ends = λ l f p log hs hm ws wm stays h. record { handles = h.handles; waits = h.waits; opened = h.opened; waited = λ fair. all_filter (WaitLeft e wn n log) stays ws (h.waited fair) };
  begins = left_begins e hn wn n;
  opens = left_opens e hn wn n;
  closes = λ l f p log hs hm ws wm stays h. record { handles = h.handles; waits = h.waits; opened = λ fair. all_filter (HandleLeft e hn n log) stays hs (h.opened fair); waited = h.waited };
  stops = λ l f p log hs hm ws wm h. record { handles = h.handles; waits = h.waits; opened = h.opened; waited = λ fair. tt };
  grows = λ l k f p log hs hm ws wm fair h. record { handles = h.handles; waits = h.waits; opened = λ z. h.opened (fair z).0; waited = λ z. h.waited (fair z).0 };
}

later_epoch : (e n f g : ℕ) (m : ℕ) → f < g → Later e n f m → Later e n g 0
later_epoch e n f g m h (inl k) = inl (omega (arith, h, k))
later_epoch e n f g m h (inr k) = inl (let z : f ≡ e = k.0 in omega (arith, h, z))

left_runs : (e hn wn n : ℕ) → BesideRuns (Left e hn wn n)
left_runs e hn wn n = record {
  beside = left_beside e hn wn n;
  removes = λ l tokens item x sound idle h. left_put e hn wn n l (change.Remove item) x (λ fair. idle_apart item x (sound fair).numbered idle) h;
  crashes = λ l f p log hs hm ws wm h. record { handles = h.handles; waits = h.waits; opened = λ fair. tt; waited = λ fair. tt };
  opens = λ l p epoch v hs hm ws wm more h. record { handles = later_epoch e hn v.epoch epoch hm more h.handles; waits = later_epoch e wn v.epoch epoch wm more h.waits; opened = λ fair. tt; waited = λ fair. tt };
}

-- from a state on

abbrev LeftSince : State → Fact
LeftSince s = Left s.filter.volume.epoch s.filter.handle_count s.filter.waiting.wait_count (length s.filter.volume.log)

none_since : {A : Type 0} (xs : List A) → drop (length xs) xs ≡ []
none_since [] = refl
none_since (x ∷ xs) = none_since xs

left_now : (s : State) (id : ItemId) → LeftIn (length s.filter.volume.log) s.filter.volume.log id
left_now s id = (same (length s.filter.volume.log), subst (All (λ c. Replaces c.1 id → ⊥)) (sym (none_since s.filter.volume.log)) tt) where
  same : (n : ℕ) → n ≤ n
  same n = omega arith

left_first : (s : State) → HoldsIn (LeftSince s) s
left_first s = record {
  handles = inr (refl, same s.filter.handle_count);
  waits = inr (refl, same s.filter.waiting.wait_count);
  opened = λ fair. all_any (HandleLeft s.filter.volume.epoch s.filter.handle_count (length s.filter.volume.log) s.filter.volume.log) (λ o given. left_now s o.item) s.filter.handles;
  waited = λ fair. all_any (WaitLeft s.filter.volume.epoch s.filter.waiting.wait_count (length s.filter.volume.log) s.filter.volume.log) (λ w given. left_now s w.item) s.filter.waiting.waits;
}
  where
    same : (n : ℕ) → n ≤ n
    same n = omega arith

pub uses_left : (remote : Held) (clusters : ℕ) (before : List (Event × Answer)) (s : State) (trace : List (Event × Answer)) (t : State) (e : Event)
    → Runs mode.Replay (start mode.Replay remote clusters) before s → IsFresh remote → Runs mode.Replay s trace t → is_of mode.Replay e ≡ true → Keeps (AreUsesLeft s) (tree_of e t)
uses_left remote clusters before s trace t e first fresh runs is =
    let whole = whole_beside (LeftSince s) (left_runs s.filter.volume.epoch s.filter.handle_count s.filter.waiting.wait_count (length s.filter.volume.log)) Invariant sound_whole in
    let now : Invariant t × HoldsIn (LeftSince s) t = runs_keep (λ u. Invariant u × HoldsIn (LeftSince s) u) whole s trace t runs (run_sound remote clusters before s first fresh, left_first s) in
    keeps_weaker (λ u. Invariant u × HoldsIn (LeftSince s) u) (AreUsesLeft s) (λ u h fair. (h.1.opened fair, h.1.waited fair)) (tree_of e t) ((event_now_keeps (λ u. Invariant u × HoldsIn (LeftSince s) u) whole e is).keeps (begun t) (whole.begins t now))

-- removals

abbrev Vacant : List (Usn × Change) → Fact
Vacant old l e p log hs hn ws wn = (old ++ drop (length old) log ≡ log) × (IsFair l → EachMade IsRemovalVacant old (drop (length old) log))

removal_vacant : (r : Held) (x : Filter) (n : Usn) (c : Change) → x.volume.items ≡ items_of x.volume.log → Fits r x c → IsRemovalVacant x.volume.log n c
removal_vacant r x n (change.Make item parent name k size identity) is fit = tt
removal_vacant r x n (change.Remove item) is fit = subst (λ (items : List Item). Each item (IsVacant items) items) is fit.1
removal_vacant r x n (change.Move item parent name) is fit = tt
removal_vacant r x n (change.Write item at bytes) is fit = tt
removal_vacant r x n (change.Size item size) is fit = tt
removal_vacant r x n (change.Filled item start bytes) is fit = tt
removal_vacant r x n (change.Validated item start len) is fit = tt
removal_vacant r x n (change.Emptied item start len) is fit = tt
removal_vacant r x n (change.SetPin item pin) is fit = tt
removal_vacant r x n (change.Mark item number) is fit = tt
removal_vacant r x n (change.Clear item) is fit = tt
removal_vacant r x n (change.Convert item identity) is fit = tt
removal_vacant r x n (change.Revert item) is fit = tt
removal_vacant r x n (change.Rebase item identity len at) is fit = tt
removal_vacant r x n (change.Take item identity size) is fit = tt
removal_vacant r x n (change.Copy item from parent name) is fit = tt
removal_vacant r x n (change.Populated item) is fit = tt
removal_vacant r x n (change.Keep item on) is fit = tt

vacant_put : (old : List (Usn × Change)) (l : Link) (tokens : ℕ) (c : Change) (x : Filter) → (IsFair l → IsSound l tokens x) → (IsFair l → Fits l.remote x c) → Holds (Vacant old) l x → HoldsAfter (Vacant old) l c x
vacant_put old l tokens c x sound fit h = (
  ap (λ (cs : List (Usn × Change)). old ++ cs) more ∙ sym (append_assoc old (drop (length old) x.volume.log) ((next_number x.volume, c) ∷ [])) ∙ ap (λ (log : List (Usn × Change)). log ++ (next_number x.volume, c) ∷ []) h.0,
  λ fair. subst (EachMade IsRemovalVacant old) (sym more)
      (made_more IsRemovalVacant old (drop (length old) x.volume.log) (next_number x.volume) c (h.1 fair) (subst (λ (log : List (Usn × Change)). IsRemovalVacant log (next_number x.volume) c) (sym h.0) (removal_vacant l.remote x (next_number x.volume) c (sound fair).of_log.0 (fit fair)))),
)
  where
    long : (a b d : ℕ) → d ≡ a + b → a ≤ d
    long a b d e = omega (arith, e)

    more : drop (length old) (x.volume.log ++ (next_number x.volume, c) ∷ []) ≡ drop (length old) x.volume.log ++ (next_number x.volume, c) ∷ []
    more = drop-append-le (length old) x.volume.log ((next_number x.volume, c) ∷ []) (long (length old) (length (drop (length old) x.volume.log)) (length x.volume.log) (ap (λ (cs : List (Usn × Change)). length cs) (sym h.0) ∙ length-append old (drop (length old) x.volume.log)))

vacant_beside : (old : List (Usn × Change)) → Beside (Vacant old)
vacant_beside old = record {
  puts = vacant_put old;
  ends = λ l e p log hs hn ws wn stays h. h;
  begins = λ l tokens n x sound h. h;
  opens = λ l item x h. h;
  closes = λ l e p log hs hn ws wn stays h. h;
  stops = λ l e p log hs hn ws wn h. h;
  grows = λ l k e p log hs hn ws wn fair h. (h.0, λ z. h.1 (fair z).0);
}

pub removals_vacant : (remote : Held) (clusters : ℕ) (trace : List (Event × Answer)) (s : State) (e : Event)
    → Runs mode.Replay (start mode.Replay remote clusters) trace s → IsFresh remote → is_of mode.Replay e ≡ true → is_other e ≡ true → Keeps (AreRemovalsVacant s) (tree_of e s)
removals_vacant remote clusters trace s e runs fresh is other =
    let b : Beside (Vacant s.filter.volume.log) = vacant_beside s.filter.volume.log in
    let first : HoldsIn (Vacant s.filter.volume.log) s = (ap (λ (cs : List (Usn × Change)). s.filter.volume.log ++ cs) (none_since s.filter.volume.log) ∙ append-nil s.filter.volume.log, λ fair. subst (EachMade IsRemovalVacant s.filter.volume.log) (sym (none_since s.filter.volume.log)) tt) in
    keeps_weaker (λ u. Invariant u × HoldsIn (Vacant s.filter.volume.log) u) (AreRemovalsVacant s) (λ u h. h.1.1) (tree_of e s)
    ((other_event_keeps (λ u. Invariant u × HoldsIn (Vacant s.filter.volume.log) u) (guarded_beside (Vacant s.filter.volume.log) b Invariant sound_guarded) (entering_beside (Vacant s.filter.volume.log) b Invariant sound_enters) (commanding_beside (Vacant s.filter.volume.log) b Invariant sound_guarded sound_commands) (ruling_beside (Vacant s.filter.volume.log) Invariant sound_whole.ruling) e is other).keeps (begun s)
    (sound_whole.begins s (run_sound remote clusters trace s runs fresh), first))
