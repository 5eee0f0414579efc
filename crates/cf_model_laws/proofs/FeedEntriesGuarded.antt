-- What the entries of a feed keep in `replay`.
use Rattle.std.proofs.Common.{◌≡◌, ◌⊎◌, ◌<◌, ◌+◌, ℕ, Bool, true, false, List, [], ◌∷◌, ◌++◌, refl, sym, ◌∙◌, ap, subst, inl, inr, max, arith, eq-eqb, length}
use Rattle.std.specs.Prelude.{Option, Some, None, cond, not, nat_lt, take, ◌&&◌, ◌||◌, ◌==◌}
use Rattle.std.specs.List.{list_any}
use Rattle.std.proofs.lemmas.Bool.{eqb-true}
use Rattle.std.proofs.lemmas.Bool.Decides.{nat_tests}
use Rattle.cf_base.specs.declared.changes.Change.{Change}
use Rattle.cf_base.specs.declared.changes.Change.TheVariants as change
use Rattle.cf_base.specs.declared.ids.ItemId.{ItemId}
use Rattle.cf_base.specs.declared.ids.Rid.{Rid}
use Rattle.cf_base.specs.declared.items.SeenPath.{SeenPath}
use Rattle.cf_base.specs.declared.messages.Entry.{Entry}
use Rattle.cf_model.specs.Arrows.{Arrow, and_then, choose, only_if, when_ok}
use Rattle.cf_model.specs.Books.{QueueEntry, with_seen}
use Rattle.cf_model.specs.Changes.{next_number}
use Rattle.cf_model.specs.Contents.{base_named}
use Rattle.cf_model.specs.Dehydration.{in_use as is_used}
use Rattle.cf_model.specs.Effects.{effect, made, rebased, untargeted, converted}
use Rattle.cf_model.specs.ConflictNames.{conflict_name}
use Rattle.cf_model.specs.Feeds.{adopt, copy_off, gone, gone_unless, has_child, is_adoptable, is_newer, is_removable, kind_of_entry, make_after, make_entry, make_of, new_entry, new_over, remove_or_untarget, seen_entry, take_over, taken, turn, untarget}
use Rattle.cf_model.specs.Identities.{base_version, entry_identity, identity_of, is_untargeted, no_identity, target_of}
use Rattle.cf_model.specs.Items.{Item, base_of, is_dirty, item_of, pin_of}
use Rattle.cf_model.specs.Logs.{next_by}
use Rattle.cf_model.specs.LookUp.{child_of, children, is_child_named}
use Rattle.cf_model.specs.Numbers.{no_item, no_key, no_rid, no_usn, no_version}
use Rattle.cf_model.specs.Overlay.{Written}
use Rattle.cf_model.specs.Requests.{Waiting, is_busy_beside}
use Rattle.cf_model.specs.Skips.{in_use, try_change, try_clear_name, try_mark_now, try_seen}
use Rattle.cf_model.specs.Soundness.{Each}
use Rattle.cf_model.specs.State.{Filter, Link, Open, State, book_now, items_now}
use Rattle.cf_model.specs.Store.{Held}
use Rattle.cf_model.specs.Trees.{Keeps}
use Rattle.cf_model.specs.Words.{is_empty, number_of, same}
use Rattle.cf_model.proofs.TreeLaws.{keeps_bind}
use Rattle.cf_model_laws.specs.Fitting.{Fits, IsCopied, IsVacant, NamesWell, IsUnaimed, Meets}
use Rattle.cf_model_laws.specs.Invariant.{HasEntry, InOrder, IsRight, IsSound, SameBase, waits_on, target_in}
use Rattle.cf_model_laws.specs.Premises.{IsFair}
use Rattle.cf_model_laws.specs.Taken.{IsNamedBy, IsSeenBy, LosesTold}
use Rattle.cf_model_laws.proofs.EntryLaws.{dir_identity, dir_none, entry_dir_well, file_wants, make_fits, none_none, entry_small, entry_target_in, target_read, entry_populates}
use Rattle.cf_model_laws.proofs.FitEntries.{kind_stays}
use Rattle.cf_model_laws.proofs.FitItems.{each_append, each_changed, each_made}
use Rattle.cf_model_laws.proofs.FoundItems.{both, found_again, found_new, same_self, target_at, target_more, target_stays}
use Rattle.cf_model_laws.proofs.Gathered.{each_all, each_any, each_both, each_weaker}
use Rattle.cf_model_laws.proofs.Guarded.{KeepsPlaced, StandsAtPath}
use Rattle.cf_model_laws.proofs.RightItems.{both_none, fits_meets, no_way, no_way_back, same_based, same_none, untargeted_same}
use Rattle.cf_model_laws.proofs.SeenPaths.{led_unnamed, sees_still}
use Rattle.cf_model_laws.proofs.SkipsGuarded.{FitsAnd, Framing, Led, Skipping, Whichever, and_then_at, any_frame, and_then_keeps, fewer_changes, framed, item_frame, keeps_first, keeps_into, only_if_at, try_change_at, try_clear_name_keeps, try_mark_now_at, try_seen_at}
use Rattle.cf_model_laws.proofs.SoundSettles.{each_found, found_below, left_true, not_true, right_true, same_item}
use Rattle.cf_model_laws.proofs.AimedTargets.{HasTarget, below_root, converted_target, newly_aimed, each_copied, unaimed_kept, unaimed_none}
use Rattle.cf_model_laws.proofs.MoveChanges.{IsMove, SeatAt, UnaimedAt, is_move, seat_frame, unaimed_frame}
use Rattle.cf_model_laws.proofs.OperationsGuarded.{each_new}
use Rattle.cf_model_laws.proofs.FeedFrames.{Feeding, Feeds, IsTold, fair_now, moves_named, no_entry, none_made, unmoved}

-- the item, if it is below the root, has the entry's target
abbrev pub Aimed : Entry → Item → Type 0
Aimed e i = (i.id.0 ≡ 1 → ⊥) → (target_of i).0 ≡ e.rid.0

-- a path seen after another change than a Mark, and then a Mark
seen_and_marked : {On : Entry → Type 0} (l : Link) (w : Filter) (es : List QueueEntry) (P : State → Type 0) → Feeds On l w es P → (p : SeenPath) (s : State) → (IsFair s.link → KeepsPlaced (with_seen p) s) → (IsFair s.link → IsSeenBy On (items_now s) p) → P s → Keeps P (and_then (try_seen p) (try_mark_now p.item) s)
seen_and_marked l w es P feeds p s placed told h =
    and_then_keeps P (try_seen p) (try_mark_now p.item) s (try_seen_at (IsNamedBy _ _) P feeds.steps p s placed told h) (λ t j. try_mark_now_at (IsNamedBy _ _) P feeds.steps p.item t (λ n. tt) (unmoved l w es P feeds p.item t j) j)

right_now : {On : Entry → Type 0} {Ok : Change → Type 0} (P : State → Type 0) → Skipping On Ok P → (s : State) → P s → IsFair s.link → (id : ItemId) → Each id (IsRight s.link.remote (next_number s.filter.volume)) (items_now s)
right_now P steps s h fair id = each_all id (IsRight s.link.remote (next_number s.filter.volume)) (IsRight s.link.remote (next_number s.filter.volume)) (λ i k. k) (items_now s) (steps.sound s h fair).now.right

pub turn_at : (P : State → Type 0) (f : Arrow State Bool) (s : State) → Keeps P (f s) → Keeps P (turn f s)
turn_at P f s h = keeps_bind P (f s) taken h (λ a t j. j)

-- Gone

no_target : (identity : List ℕ) → number_of (take 8 (untargeted identity)) ≡ 0
no_target identity = refl

untargeted_well : (r : Held) (d p : Bool) (identity : List ℕ) → NamesWell r d p identity → NamesWell r d p (untargeted identity)
untargeted_well r d p identity h = record {
  based = same_based r (untargeted identity) identity (untargeted_same identity) h.based;
  aimed = inl (no_target identity);
  bare = λ e. same_none (untargeted identity) identity (untargeted_same identity) (h.bare e);
  plain = λ e f. (same_none (untargeted identity) identity (untargeted_same identity) (h.plain e f).0, no_target identity);
}

untarget_fits : {On : Entry → Type 0} (l : Link) (w : Filter) (es : List QueueEntry) (P : State → Type 0) → Feeds On l w es P → (i : Item) (s : State) → P s → (IsFair s.link → Each i.id (λ j. j.identity ≡ i.identity) (items_now s)) → IsFair s.link
    → Fits s.link.remote s.filter (change.Rebase i.id (untargeted i.identity) (base_of i) no_usn)
untarget_fits l w es P feeds i s h same fair = (
  (
    each_both i.id (λ j. j.identity ≡ i.identity) (IsRight s.link.remote (next_number s.filter.volume)) (λ j. NamesWell s.link.remote j.directory j.placeholder (untargeted i.identity))
        (λ j e k. subst (λ (x : List ℕ). NamesWell s.link.remote j.directory j.placeholder (untargeted x)) e (untargeted_well s.link.remote j.directory j.placeholder j.identity (record { based = k.based; aimed = k.aimed; bare = k.bare; plain = k.plain })))
        (items_now s) (same fair) (right_now P feeds.steps s h fair i.id),
    inl (refl, each_weaker i.id (λ j. j.identity ≡ i.identity) (λ j. SameBase (untargeted i.identity) j.identity) (λ j e. subst (λ (x : List ℕ). SameBase (untargeted i.identity) x) (sym e) (untargeted_same i.identity)) (items_now s) (same fair)),
  ),
  (inl (no_target i.identity), inr (no_entry l w es P feeds i.id s h fair, unaimed_none (items_now s) (target_in (untargeted i.identity)) (no_target i.identity))),
)

-- the items of this id are alike, and have no target or that of an entry
abbrev Untold : (Entry → Type 0) → Item → Item → Type 0
Untold On i j = (j.identity ≡ i.identity) × LosesTold On j

untarget_at : {On : Entry → Type 0} (l : Link) (w : Filter) (es : List QueueEntry) (P : State → Type 0) → Feeds On l w es P → (i : Item) (s : State) → P s → LosesTold On i → (IsFair s.link → item_of (items_now s) i.id ≡ Some i) → Keeps P (untarget i s)
untarget_at {On} l w es P feeds i s h lost there = by i.in_sync where
  now : IsFair s.link → Each i.id (Untold On i) (items_now s)
  now fair = each_found i.id (Untold On i) 0 s.filter.volume.next_item.0 (items_now s) i (feeds.steps.sound s h fair).now.order (there fair) (refl, lost)

  fits : (t : State) → P t → (IsFair t.link → Each i.id (Untold On i) (items_now t)) → FitsAnd On (change.Rebase i.id (untargeted i.identity) (base_of i) no_usn) t
  fits t j same fair = (
    untarget_fits l w es P feeds i t j (λ z. each_weaker i.id (Untold On i) (λ k. k.identity ≡ i.identity) (λ k u. u.0) (items_now t) (same z)) fair,
    each_weaker i.id (Untold On i) (λ k. ((target_of k).0 ≡ (target_in (untargeted i.identity)).0) ⊎ LosesTold On k) (λ k u. inr u.1) (items_now t) (same fair),
  )

  by : (b : Bool) → Keeps P (and_then (only_if b (try_change (change.Clear i.id))) (try_change (change.Rebase i.id (untargeted i.identity) (base_of i) no_usn)) s)
  by true =
      and_then_at (IsNamedBy _ _) P feeds.steps (change.Clear i.id) (try_change (change.Rebase i.id (untargeted i.identity) (base_of i) no_usn)) s tt (λ id k. k) (λ fair. (tt, tt)) h
      (λ t j led. try_change_at (IsNamedBy _ _) P feeds.steps (change.Rebase i.id (untargeted i.identity) (base_of i) no_usn) t (inl (no_target i.identity)) (λ id k. k)
      (fits t j (λ fair. subst (λ (is : List Item). Each i.id (Untold On i) is) (sym led.after.items)
      (each_changed i.id i.id _ (λ k. Unit {0}) (Untold On i) (Untold On i) (λ k. refl) (λ k _ e. e) (λ k e. e) (items_now s) (each_any i.id (λ k. Unit {0}) (λ k. tt) (items_now s)) (now (subst IsFair led.link fair))))) j)
  by false = try_change_at (IsNamedBy _ _) P feeds.steps (change.Rebase i.id (untargeted i.identity) (base_of i) no_usn) s (inl (no_target i.identity)) (λ id k. k) (fits s h now) h

none_there : {A : Type 0} (xs : List A) → not (not (is_empty xs)) ≡ true → xs ≡ []
none_there [] e = refl
none_there (x ∷ xs) e = no_way e

vacant_item : (s : State) (i : Item) → is_removable s i ≡ true → IsVacant (items_now s) i
vacant_item s i e = by i.directory e where
  by : (b : Bool) → cond b (not (has_child s i.id)) (not (is_dirty i)) ≡ true → (b ≡ false → i.writes ≡ []) × (b ≡ true → children (items_now s) i.id ≡ [])
  by true e = (λ z. no_way_back z, λ z. none_there (children (items_now s) i.id) e)
  by false e = (λ z. none_there i.writes e, λ z. no_way z)

pub gone_at : {On : Entry → Type 0} (l : Link) (w : Filter) (es : List QueueEntry) (P : State → Type 0) → Feeds On l w es P → (i : Item) (s : State) → (i.id.0 ≡ 1 → ⊥) → LosesTold On i → P s → (IsFair s.link → item_of (items_now s) i.id ≡ Some i) → Keeps P (gone i s)
gone_at {On} l w es P feeds i s below lost h there = by (in_use s i.id) refl where
  steps : (b : Bool) → is_removable s i ≡ b → in_use s i.id ≡ false → Keeps P (remove_or_untarget i b s)
  steps true q idle = try_change_at (IsNamedBy _ _) P feeds.steps (change.Remove i.id) s tt (λ id k. k) (λ fair. let order = (feeds.steps.sound s h fair).now.order in
      ((idle, each_found i.id (IsVacant (items_now s)) 0 s.filter.volume.next_item.0 (items_now s) i order (there fair) (vacant_item s i q), inl below), each_found i.id (LosesTold On) 0 s.filter.volume.next_item.0 (items_now s) i order (there fair) lost)) h
  steps false q idle = untarget_at l w es P feeds i s h lost there

  by : (b : Bool) → in_use s i.id ≡ b → Keeps P (gone_unless i b s)
  by true q = h
  by false q = turn_at P (λ t. remove_or_untarget i (is_removable t i) t) s (steps (is_removable s i) refl q)

-- New

-- that the items of an id are of a kind stays so
kinds_frame : (id : ItemId) (R : Bool → Bool → Type 0) → ((d p : Bool) → R d p → R d true) → Framing Whichever (λ s. IsFair s.link → (id.0 < s.filter.volume.next_item.0) × Each id (λ i. R i.directory i.placeholder) (items_now s))
kinds_frame id R k = item_frame Whichever (λ is next. (id.0 < next) × Each id (λ i. R i.directory i.placeholder) is)
    (λ s c n ok fit g. (more id.0 s.filter.volume.next_item.0 (next_by c) g.0, kind_stays s.link.remote s.filter c n id s.filter.volume.next_item.0 refl g.0 R k (fits_meets s.link.remote s.filter c fit) g.1)) where
      more : (a b c : ℕ) → a < b → a < max b c
      more a b c h = omega (arith, h)

feeds_framed : {On : Entry → Type 0} (l : Link) (w : Filter) (es : List QueueEntry) (P F : State → Type 0) → Feeds On l w es P → Framing Whichever F → Feeds On l w es (λ s. P s × F s)
feeds_framed l w es P F feeds frame = record { steps = framed (IsNamedBy _ _) P F feeds.steps (any_frame (IsNamedBy _ _) F frame); fed = λ s h. feeds.fed s h.0; none = feeds.none }

abbrev DirsAt : ItemId → State → Type 0
DirsAt id t = IsFair t.link → (id.0 < t.filter.volume.next_item.0) × Each id (λ j. j.directory ≡ true) (items_now t)

-- a local directory that becomes the one of an entry
adopt_in : {On : Entry → Type 0} (l : Link) (w : Filter) (es : List QueueEntry) (P : State → Type 0) → Feeds On l w es P → (e : Entry) (i : Item) → IsTold On l e → e.dir ≡ true → ((s : State) → P s → DirsAt i.id s) → (s : State) → (IsFair s.link → Each i.id (HasTarget 0) (items_now s)) → UnaimedAt e.rid s → P s → Keeps P (adopt e i s)
adopt_in {On} l w es P feeds e i told dir dirs s bare new h = by i.placeholder
  where
    convert_fits : (t : State) → P t → IsFair t.link → Meets t.link.remote t.filter (change.Convert i.id no_identity)
    convert_fits t j fair = (
      each_both i.id (λ k. k.directory ≡ true) (IsRight t.link.remote (next_number t.filter.volume)) (λ k. SameBase no_identity k.identity) (λ k d r. both_none no_identity k.identity none_none (r.bare d)) (items_now t) (dirs t j fair).1 (right_now P feeds.steps t j fair i.id),
      refl,
    )

    told_at : (t : State) → P t → IsFair t.link → HasEntry t.link.remote e
    told_at t j fair = subst (λ (k : Link). HasEntry k.remote e) (sym (feeds.fed t j).link) (told.has (fair_now l w es t (feeds.fed t j) fair))

    rebase_fits : (t : State) → P t → UnaimedAt e.rid t → IsFair t.link → Fits t.link.remote t.filter (change.Rebase i.id (entry_identity e) 0 no_usn)
    rebase_fits t j new fair =
        subst (λ (x : List ℕ). Fits t.link.remote t.filter (change.Rebase i.id x 0 no_usn)) (sym (dir_identity e dir)) (
          (
            each_weaker i.id (λ k. k.directory ≡ true) (λ k. NamesWell t.link.remote k.directory k.placeholder (identity_of e.rid no_rid no_version)) (λ k d. subst (λ (b : Bool). NamesWell t.link.remote b k.placeholder (identity_of e.rid no_rid no_version)) (sym d) (entry_dir_well t.link.remote e k.placeholder fair.1 (told_at t j fair) told.low dir)) (items_now t) (dirs t j fair).1,
            inl (
              refl,
              each_both i.id (λ k. k.directory ≡ true) (IsRight t.link.remote (next_number t.filter.volume)) (λ k. SameBase (identity_of e.rid no_rid no_version) k.identity)
                  (λ k d r. both_none (identity_of e.rid no_rid no_version) k.identity (dir_none e.rid) (r.bare d)) (items_now t) (dirs t j fair).1 (right_now P feeds.steps t j fair i.id),
            ),
          ),
          (
            none_made l w es P feeds (identity_of e.rid no_rid no_version) t j fair,
            inr (no_entry l w es P feeds i.id t j fair, subst (λ (x : Rid). IsUnaimed (items_now t) x) (sym (target_read e.rid no_rid no_version (entry_small t.link.remote e fair.1 (told_at t j fair)))) (new fair)),
          ),
        )

    -- the directory comes to have the entry's target
    adopted : (t u : State) → Led (change.Rebase i.id (entry_identity e) 0 no_usn) t u → P t → (IsFair t.link → Each i.id (HasTarget 0) (items_now t)) → IsFair u.link → IsSeenBy On (items_now u) (seen_entry i.id e)
    adopted t u led j empty fair =
        let fair_t : IsFair t.link = subst IsFair led.link fair in (
          e,
          told.on,
          subst (Each i.id (Aimed e)) (sym led.after.items)
              (each_made i.id (rebased (entry_identity e) 0 no_usn) (HasTarget 0) (Aimed e)
              (λ k z _. newly_aimed (k.id.0 == 1) (target_in k.identity) (target_in (entry_identity e)) z ∙ ap (λ (x : Rid). x.0) (entry_target_in e (entry_small t.link.remote e fair_t.1 (told_at t j fair_t)))) (items_now t) (empty fair_t)),
          refl,
          refl,
        )

    rest : (t : State) → P t → (IsFair t.link → Each i.id (HasTarget 0) (items_now t)) → UnaimedAt e.rid t → Keeps P (and_then (try_change (change.Rebase i.id (entry_identity e) 0 no_usn)) (and_then (try_seen (seen_entry i.id e)) (try_mark_now i.id)) t)
    rest t j empty new = and_then_at (IsNamedBy _ _) P feeds.steps (change.Rebase i.id (entry_identity e) 0 no_usn) (and_then (try_seen (seen_entry i.id e)) (try_mark_now i.id)) t (inr (e, told.on, refl)) (λ id k. k) (λ fair. (rebase_fits t j new fair, each_weaker i.id (HasTarget 0) (λ k. ((target_of k).0 ≡ (target_in (entry_identity e)).0) ⊎ LosesTold On k) (λ k z. inr (inl z)) (items_now t) (empty fair))) j
        (λ u k led. seen_and_marked l w es P feeds (seen_entry i.id e) u (λ fair item m. absurd (led_unnamed (change.Rebase i.id (entry_identity e) 0 no_usn) t u (λ z. z) led item m)) (adopted t u led j empty) k)

    by : (b : Bool) → Keeps P (and_then (only_if (not b) (try_change (change.Convert i.id no_identity))) (and_then (try_change (change.Rebase i.id (entry_identity e) 0 no_usn)) (and_then (try_seen (seen_entry i.id e)) (try_mark_now i.id))) s)
    by true = rest s h bare new
    by false =
        and_then_at (IsNamedBy _ _) P feeds.steps (change.Convert i.id no_identity) (and_then (try_change (change.Rebase i.id (entry_identity e) 0 no_usn)) (and_then (try_seen (seen_entry i.id e)) (try_mark_now i.id))) s refl (λ id k. k) (λ fair. ((convert_fits s h fair, bare fair), tt)) h
        (λ t j led. rest t j
        (λ fair. subst (Each i.id (HasTarget 0)) (sym led.after.items)
        (each_made i.id (converted no_identity (next_number s.filter.volume)) (HasTarget 0) (HasTarget 0) (λ k z. converted_target (next_number s.filter.volume) k z ∙ z) (items_now s) (bare (subst IsFair led.link fair))))
        (λ fair. subst (λ (is : List Item). IsUnaimed is e.rid) (sym led.after.items)
        (unaimed_kept e.rid i.id _ (items_now s) (each_weaker i.id (HasTarget 0) (λ k. (target_of (converted no_identity (next_number s.filter.volume) k)).0 ≡ (target_of k).0) (λ k z. converted_target (next_number s.filter.volume) k z) (items_now s) (bare (subst IsFair led.link fair))) (new (subst IsFair led.link fair)))))

adopt_at : {On : Entry → Type 0} (l : Link) (w : Filter) (es : List QueueEntry) (P : State → Type 0) → Feeds On l w es P → (e : Entry) (i : Item) (s : State) → IsTold On l e → e.dir ≡ true → i.directory ≡ true → (target_of i).0 ≡ 0 → UnaimedAt e.rid s → P s → (IsFair s.link → item_of (items_now s) i.id ≡ Some i) → Keeps P (adopt e i s)
adopt_at l w es P feeds e i s told dir local bare new h there =
    keeps_first P (DirsAt i.id) (adopt e i s)
    (adopt_in l w es (λ t. P t × DirsAt i.id t) (feeds_framed l w es P (DirsAt i.id) feeds (kinds_frame i.id (λ d p. d ≡ true) (λ d p k. k))) e i told dir (λ t k. k.1) s
    (λ fair. each_found i.id (HasTarget 0) 0 s.filter.volume.next_item.0 (items_now s) i (feeds.steps.sound s h fair).now.order (there fair) bare) new
    (h, λ fair. (found_below i.id 0 s.filter.volume.next_item.0 (items_now s) i (feeds.steps.sound s h fair).now.order (there fair), each_found i.id (λ j. j.directory ≡ true) 0 s.filter.volume.next_item.0 (items_now s) i (feeds.steps.sound s h fair).now.order (there fair) local)))

-- the parent of an entry's item
abbrev pub ParentAt : ItemId → Rid → State → Type 0
ParentAt id rid t = IsFair t.link → (target_at (items_now t) id).0 ≡ rid.0

parent_frame : (id : ItemId) (rid : Rid) → Framing IsMove (ParentAt id rid)
parent_frame id rid = item_frame IsMove (λ is next. (target_at is id).0 ≡ rid.0)
    (λ s c n ok fit g. let m = is_move c ok in
    subst (λ (d : Change). (target_at (effect (items_now s) d n) id).0 ≡ rid.0) (sym m.3) (ap (λ (r : Rid). r.0) (target_stays _ (λ i. refl) (λ i. refl) m.0 id (items_now s)) ∙ g))

-- the new item stands at the path that comes to be seen
made_stands : (e : Entry) (p : Item) (s t : State) → Led (make_of s e p) s t → InOrder 0 s.filter.volume.next_item.0 (items_now s) → nat_lt 0 e.parent.0 ≡ true → (target_at (items_now s) p.id).0 ≡ e.parent.0
    → StandsAtPath (items_now t) s.filter.volume.next_item (seen_entry s.filter.volume.next_item e)
made_stands e p s t led order some parent =
    let new : Item = made s.filter.volume.next_item p.id e.name (kind_of_entry s.filter.policy e) (cond e.dir 0 e.len) (entry_identity e) (pin_of (items_now s) p.id) (next_number s.filter.volume) in
    subst (λ (is : List Item). StandsAtPath is s.filter.volume.next_item (seen_entry s.filter.volume.next_item e)) (sym led.after.items) (
      new,
      found_new 0 s.filter.volume.next_item.0 (items_now s) new refl order,
      both ((target_at (items_now s ++ new ∷ []) p.id).0 == e.parent.0) (same e.name e.name) (eq-eqb (target_at (items_now s ++ new ∷ []) p.id).0 e.parent.0 (target_more (items_now s) new p.id e.parent some parent)) (same_self e.name),
    )

make_after_at : {On : Entry → Type 0} (l : Link) (w : Filter) (es : List QueueEntry) (P : State → Type 0) → Feeds On l w es P → (e : Entry) (p : Item) (s : State) → IsTold On l e → nat_lt 0 e.parent.0 ≡ true → ParentAt p.id e.parent s → UnaimedAt e.rid s → SeatAt p.id s → P s → Keeps P (make_after e p s)
make_after_at {On} l w es P feeds e p s told some parent new seat h =
    and_then_at (IsNamedBy _ _) P feeds.steps (make_of s e p) (and_then (try_seen (seen_entry s.filter.volume.next_item e)) (try_mark_now s.filter.volume.next_item)) s (inr (e, told.on, refl)) (λ id k. k)
    (λ fair. let has : HasEntry s.link.remote e = subst (λ (k : Link). HasEntry k.remote e) (sym (feeds.fed s h).link) (told.has (fair_now l w es s (feeds.fed s h) fair)) in
    let m = make_fits s.link.remote s.filter.policy e fair.1 has told.low in
    (((refl, m.0, m.1), (none_made l w es P feeds (entry_identity e) s h fair, subst (λ (x : Rid). IsUnaimed (items_now s) x) (sym (entry_target_in e (entry_small s.link.remote e fair.1 has))) (new fair)), inl (seat fair), entry_populates s.filter.policy e), tt)) h
    (λ t j led. seen_and_marked l w es P feeds (seen_entry s.filter.volume.next_item e) t
    (λ fair item m. sees_still (seen_entry s.filter.volume.next_item e) (items_now t) (book_now t) item
    (λ own. subst (λ (x : ItemId). StandsAtPath (items_now t) x (seen_entry s.filter.volume.next_item e)) (same_item s.filter.volume.next_item item (eqb-true s.filter.volume.next_item.0 item.0 own)) (stands t led (subst IsFair led.link fair)))) (made_seen t led) j) where
      made_seen : (t : State) → Led (make_of s e p) s t → IsFair t.link → IsSeenBy On (items_now t) (seen_entry s.filter.volume.next_item e)
      made_seen t led fair =
          let fair_s : IsFair s.link = subst IsFair led.link fair in
          let sound : IsSound s.link s.volatile.tokens s.filter = feeds.steps.sound s h fair_s in
          let has : HasEntry s.link.remote e = subst (λ (k : Link). HasEntry k.remote e) (sym (feeds.fed s h).link) (told.has (fair_now l w es s (feeds.fed s h) fair_s)) in (
            e,
            told.on,
            subst (Each s.filter.volume.next_item (Aimed e)) (sym led.after.items)
                (each_append s.filter.volume.next_item (Aimed e) (items_now s) _ (each_new s.filter.volume.next_item (Aimed e) 0 s.filter.volume.next_item.0 (items_now s) refl sound.now.order)
                (λ z _. ap (λ (x : Rid). x.0) (below_root s.filter.volume.next_item.0 (target_in (entry_identity e)) sound.now.more ∙ entry_target_in e (entry_small s.link.remote e fair_s.1 has)))),
            refl,
            refl,
          )

      stands : (t : State) → Led (make_of s e p) s t → IsFair s.link → StandsAtPath (items_now t) s.filter.volume.next_item (seen_entry s.filter.volume.next_item e)
      stands t led fair = made_stands e p s t led (feeds.steps.sound s h fair).now.order some (parent fair)

make_entry_at : {On : Entry → Type 0} (l : Link) (w : Filter) (es : List QueueEntry) (P : State → Type 0) → Feeds On l w es P → (e : Entry) (p : Item) (s : State) → IsTold On l e → nat_lt 0 e.parent.0 ≡ true → ParentAt p.id e.parent s → UnaimedAt e.rid s → SeatAt p.id s → P s → Keeps P (make_entry e p s)
make_entry_at l w es P feeds e p s told some parent new seat h =
    keeps_into P New (λ t j. j.0.0.0) (try_clear_name p.id e.name no_item s) (when_ok false (make_after e p))
    ((try_clear_name_keeps IsMove New (framed IsMove (λ t. (P t × ParentAt p.id e.parent t) × UnaimedAt e.rid t) (SeatAt p.id) (framed IsMove (λ t. P t × ParentAt p.id e.parent t) (UnaimedAt e.rid) (framed IsMove P (ParentAt p.id e.parent) (fewer_changes P (IsNamedBy _ _) IsMove (moves_named _) feeds.steps) (parent_frame p.id e.parent)) (unaimed_frame e.rid))
    (seat_frame p.id)) (λ a b c. tt) p.id e.name no_item).keeps s (((h, parent), new), seat))
    (λ done t j. by done t j) where
      New : State → Type 0
      New t = ((P t × ParentAt p.id e.parent t) × UnaimedAt e.rid t) × SeatAt p.id t

      by : (done : Bool) (t : State) → New t → Keeps P (when_ok false (make_after e p) done t)
      by true t j = make_after_at l w es P feeds e p t told some j.0.0.1 j.0.1 j.1 j.0.0.0
      by false t j = j.0.0.0

pub new_at : {On : Entry → Type 0} (l : Link) (w : Filter) (es : List QueueEntry) (P : State → Type 0) → Feeds On l w es P → (e : Entry) (p : Item) (s : State) → IsTold On l e → nat_lt 0 e.parent.0 ≡ true → ParentAt p.id e.parent s → UnaimedAt e.rid s → SeatAt p.id s → P s → Keeps P (new_entry e p s)
new_at l w es P feeds e p s told some parent new seat h = turn_at P (λ t. new_over e p (child_of (items_now t) p.id e.name) t) s (by (child_of (items_now s) p.id e.name) refl) where
  choice : (i : Item) → child_of (items_now s) p.id e.name ≡ Some i → (b : Bool) → is_adoptable e i ≡ b → Keeps P (choose b (adopt e i) (make_entry e p) s)
  choice i f true q =
      let a : (e.dir && i.directory) ≡ true = left_true (e.dir && i.directory) (is_untargeted i) q in
      adopt_at l w es P feeds e i s told (left_true e.dir i.directory a) (right_true e.dir i.directory a) (eqb-true (target_of i).0 0 (right_true (e.dir && i.directory) (is_untargeted i) q)) new h (λ fair. found_again (is_child_named p.id e.name) 0 s.filter.volume.next_item.0 (items_now s) i (feeds.steps.sound s h fair).now.order f)
  choice i f false q = make_entry_at l w es P feeds e p s told some parent new seat h

  by : (o : Option Item) → child_of (items_now s) p.id e.name ≡ o → Keeps P (new_over e p o s)
  by None f = make_entry_at l w es P feeds e p s told some parent new seat h
  by (Some i) f = choice i f (is_adoptable e i) refl

-- Changed

abbrev FilesAt : ItemId → State → Type 0
FilesAt id t = IsFair t.link → (id.0 < t.filter.volume.next_item.0) × Each id (λ j. (j.directory ≡ false) × (j.placeholder ≡ true)) (items_now t)

pub newer_file : (e : Entry) (i : Item) → is_newer i e ≡ true → i.directory ≡ false
newer_file e i q = not_true i.directory (left_true (not i.directory) (nat_lt (base_version i).0 e.version.0) q)

newer_told : {On : Entry → Type 0} (l : Link) (e : Entry) (i : Item) → IsTold On l e → is_newer i e ≡ true → e.dir ≡ false
newer_told l e i told q = by e.dir refl where
  below : (n : ℕ) → nat_lt n 0 ≡ true → ⊥
  below n z = grind (arith, nat_tests, z)

  by : (b : Bool) → e.dir ≡ b → b ≡ false
  by true f = absurd (below (base_version i).0 (subst (λ (n : ℕ). nat_lt (base_version i).0 n ≡ true) (told.dir f) (right_true (not i.directory) (nat_lt (base_version i).0 e.version.0) q)))
  by false f = refl

-- what is not in use where the feed begins is not in use later in it
idle_later : (l : Link) (w : Filter) (es : List QueueEntry) (id : ItemId) (t : State) → Feeding l w es t → is_used id w ≡ false → is_used id t.filter ≡ false
idle_later l w es id t fed idle =
    subst (λ (hs : List Open). (list_any (λ o. o.item.0 == id.0) hs || is_busy_beside id (record { 0 = no_key }) t.filter.waiting) ≡ false) (sym fed.handles)
    (subst (λ (v : Waiting). (list_any (λ o. o.item.0 == id.0) w.handles || is_busy_beside id (record { 0 = no_key }) v) ≡ false) (sym fed.waiting) idle)

pub idle_first : (l : Link) (w : Filter) (es : List QueueEntry) (id : ItemId) (t : State) → Feeding l w es t → is_used id t.filter ≡ false → is_used id w ≡ false
idle_first l w es id t fed idle =
    subst (λ (hs : List Open). (list_any (λ o. o.item.0 == id.0) hs || is_busy_beside id (record { 0 = no_key }) w.waiting) ≡ false) fed.handles
    (subst (λ (v : Waiting). (list_any (λ o. o.item.0 == id.0) t.filter.handles || is_busy_beside id (record { 0 = no_key }) v) ≡ false) fed.waiting idle)

clean_writes : (ws : List Written) → not (is_empty ws) ≡ false → ws ≡ []
clean_writes [] e = refl
clean_writes (w ∷ ws) e = no_way_back e

-- the newer version takes the place of the file's bytes
take_in : {On : Entry → Type 0} (l : Link) (w : Filter) (es : List QueueEntry) (P : State → Type 0) → Feeds On l w es P → (e : Entry) (i : Item) → IsTold On l e → e.dir ≡ false → i.directory ≡ false → (IsFair l → waits_on i.id w.waiting.waits ≡ false) → (IsFair l → is_used i.id w ≡ false) → ((s : State) → P s → FilesAt i.id s)
    → (s : State) → P s → (IsFair s.link → Each i.id (HasTarget e.rid.0) (items_now s)) → (IsFair s.link → item_of (items_now s) i.id ≡ Some i) → Keeps P (and_then (only_if (is_dirty i) (copy_off i)) (try_change (change.Take i.id (entry_identity e) e.len)) s)
take_in {On} l w es P feeds e i told file local free idle files s h aimed there = by (is_dirty i) refl where
  fits : (t : State) → P t → (IsFair t.link → Each i.id (HasTarget e.rid.0) (items_now t)) → (IsFair t.link → Each i.id (λ k. k.writes ≡ []) (items_now t) ⊎ IsCopied t.filter.volume.log i.id) → FitsAnd On (change.Take i.id (entry_identity e) e.len) t
  fits t j stays clean fair =
      let fair0 : IsFair l = fair_now l w es t (feeds.fed t j) fair in
      let has : HasEntry t.link.remote e = subst (λ (k : Link). HasEntry k.remote e) (sym (feeds.fed t j).link) (told.has fair0) in
      let wants = file_wants t.link.remote e fair.1 has told.low file in
      let stay = each_weaker i.id (HasTarget e.rid.0) (λ k. (target_of k).0 ≡ (target_in (entry_identity e)).0) (λ k z. z ∙ sym (ap (λ (x : Rid). x.0) (entry_target_in e (entry_small t.link.remote e fair.1 has)))) (items_now t) (stays fair) in (
        (
          (
            each_weaker i.id (λ k. (k.directory ≡ false) × (k.placeholder ≡ true)) (λ k. (length (base_named t.link.remote (entry_identity e)) ≡ e.len) × NamesWell t.link.remote k.directory k.placeholder (entry_identity e))
                (λ k d. (wants.0, subst (λ (b : Bool). NamesWell t.link.remote b k.placeholder (entry_identity e)) (sym d.0) (subst (λ (b : Bool). NamesWell t.link.remote false b (entry_identity e)) (sym d.1) wants.1))) (items_now t) (files t j fair).1,
            no_entry l w es P feeds i.id t j fair,
            subst (λ (v : Waiting). waits_on i.id v.waits ≡ false) (sym (feeds.fed t j).waiting) (free fair0),
            clean fair,
            idle_later l w es i.id t (feeds.fed t j) (idle fair0),
          ),
          (
            none_made l w es P feeds (entry_identity e) t j fair,
            inl stay,
          ),
        ),
        stay,
      )

  by : (b : Bool) → is_dirty i ≡ b → Keeps P (and_then (only_if b (copy_off i)) (try_change (change.Take i.id (entry_identity e) e.len)) s)
  by true q =
      and_then_at (IsNamedBy _ _) P feeds.steps (change.Copy s.filter.volume.next_item i.id i.parent (conflict_name (items_now s) i.parent i.name)) (try_change (change.Take i.id (entry_identity e) e.len)) s tt (λ id k. k)
      (λ fair. ((refl, each_found i.id (λ j. (j.parent.0 ≡ i.parent.0) × (j.directory ≡ false)) 0 s.filter.volume.next_item.0 (items_now s) i (feeds.steps.sound s h fair).now.order (there fair) (refl, local)), tt)) h
      (λ t j led. try_change_at (IsNamedBy _ _) P feeds.steps (change.Take i.id (entry_identity e) e.len) t (inr (e, told.on, refl)) (λ id k. k)
      (fits t j
      (λ fair. let fair_s : IsFair s.link = subst IsFair led.link fair in
      subst (Each i.id (HasTarget e.rid.0)) (sym led.after.items) (each_copied i.id (HasTarget e.rid.0) s.filter.volume.next_item i.parent _ _ _ _ (items_now s) s.filter.volume.next_item.0 refl (files s h fair_s).0 (aimed fair_s)))
      (λ fair. inr (s.filter.volume.log, next_number s.filter.volume, s.filter.volume.next_item, i.parent, conflict_name (items_now s) i.parent i.name, led.after.log))) j)
  by false q =
      try_change_at (IsNamedBy _ _) P feeds.steps (change.Take i.id (entry_identity e) e.len) s (inr (e, told.on, refl)) (λ id k. k)
      (fits s h aimed (λ fair. inl (each_found i.id (λ k. k.writes ≡ []) 0 s.filter.volume.next_item.0 (items_now s) i (feeds.steps.sound s h fair).now.order (there fair) (clean_writes i.writes q)))) h

pub take_at : {On : Entry → Type 0} (l : Link) (w : Filter) (es : List QueueEntry) (P : State → Type 0) → Feeds On l w es P → (e : Entry) (i : Item) (s : State) → IsTold On l e → (is_newer i e ≡ true → IsFair l → waits_on i.id w.waiting.waits ≡ false) → (is_newer i e ≡ true → IsFair l → is_used i.id w ≡ false)
    → (IsFair s.link → is_newer i e ≡ true → i.placeholder ≡ true) → (IsFair s.link → (target_of i).0 ≡ e.rid.0) → (IsFair s.link → item_of (items_now s) i.id ≡ Some i) → P s → Keeps P (take_over e (Some i) s)
take_at l w es P feeds e i s told free idle placed aimed there h =
    only_if_at P (is_newer i e) (and_then (only_if (is_dirty i) (copy_off i)) (try_change (change.Take i.id (entry_identity e) e.len))) s h
    (λ q. keeps_first P (FilesAt i.id) (and_then (only_if (is_dirty i) (copy_off i)) (try_change (change.Take i.id (entry_identity e) e.len)) s)
    (take_in l w es (λ t. P t × FilesAt i.id t) (feeds_framed l w es P (FilesAt i.id) feeds (kinds_frame i.id (λ d p. (d ≡ false) × (p ≡ true)) (λ d p k. (k.0, refl)))) e i told (newer_told l e i told q) (newer_file e i q) (free q) (idle q) (λ t k. k.1) s (
      h,
      λ fair. (
        found_below i.id 0 s.filter.volume.next_item.0 (items_now s) i (feeds.steps.sound s h fair).now.order (there fair),
        each_found i.id (λ j. (j.directory ≡ false) × (j.placeholder ≡ true)) 0 s.filter.volume.next_item.0 (items_now s) i (feeds.steps.sound s h fair).now.order (there fair) (newer_file e i q, placed fair q),
      ),
    ) (λ fair. each_found i.id (HasTarget e.rid.0) 0 s.filter.volume.next_item.0 (items_now s) i (feeds.steps.sound s h fair).now.order (there fair) (aimed fair)) there))
