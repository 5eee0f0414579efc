-- The steps of the filter keep the invariant.
use Rattle.std.proofs.Common.{◌≡◌, ◌⊎◌, ◌+◌, ℕ, Bool, true, false, [], ◌∷◌, ◌++◌, refl, sym, subst, inl, inr, arith, if◌then◌else◌}
use Rattle.std.specs.Prelude.{None, map, ◌==◌}
use Rattle.std.proofs.lemmas.Bool.Decides.{nat_tests}
use Rattle.cf_base.specs.declared.answers.Shown.TheVariants as shown
use Rattle.cf_base.specs.declared.changes.Change.{Change}
use Rattle.cf_base.specs.declared.ids.ItemId.{ItemId}
use Rattle.cf_base.specs.declared.ids.WaitId.{WaitId}
use Rattle.cf_base.specs.declared.waits.Cause.{Cause}
use Rattle.cf_base.specs.declared.waits.Cause.TheVariants as cause
use Rattle.cf_base.specs.declared.waits.End.{End}
use Rattle.cf_base.specs.declared.waits.WaitKind.TheVariants as wait_kind
use Rattle.cf_model.specs.Arrows.{Preserves, each, noted, reading, then_do}
use Rattle.cf_model.specs.Books.{Book}
use Rattle.cf_model.specs.Changes.{change_with, may_need_room, next_number, put_after_room, put_with_book, tell_change}
use Rattle.cf_model.specs.Missing.{Wait, no_span}
use Rattle.cf_model.specs.Numbers.{key_after, no_key, same_key}
use Rattle.cf_model.specs.Operations.{done}
use Rattle.cf_model.specs.Points.{with_point_begun, with_room_point, with_sure_point}
use Rattle.cf_model.specs.Requests.{Deed, also_background, wait_after, Nothing, Told, Waiting, aged, is_fetch}
use Rattle.cf_model.specs.Settling.{accessed, end_of, end_wait, is_access, is_own, settle, tell, tell_end, told_at, with_asks_told, with_ended, with_waiting}
use Rattle.cf_model.specs.State.{Filter, Link, Volume, with_notes, with_volume}
use Rattle.cf_model.specs.Words.{when}
use Rattle.cf_model.specs.Trees.{Asked, Fork, Keeps, Ret, Step, Tree, bind, mapped}
use Rattle.cf_model.specs.Waits.{Need, all_down, beside, wait_for, begin_now, begun, own_id, with_new_waits, with_own, with_time}
use Rattle.cf_base.specs.declared.notices.Notice.TheVariants as notice
use Rattle.cf_model.proofs.ArrowLaws.{keeps_each, keeps_one}
use Rattle.cf_model.proofs.TreeLaws.{keeps_bind}
use Rattle.cf_model_laws.specs.Fitting.{Aims, Meets, Touches}
use Rattle.cf_model_laws.specs.GivenOnce.{WasGiven}
use Rattle.cf_model_laws.specs.Invariant.{All, IsSound, IsSoundBut, IsSoundOf, NoItem}
use Rattle.cf_model_laws.specs.Premises.{IsFair}
use Rattle.cf_model_laws.proofs.FitAsks.{LackAt, LiveAt}
use Rattle.cf_model_laws.proofs.Gathered.{all_append, all_both, all_map, all_weaker}
use Rattle.cf_model_laws.proofs.Guarded.{GuardedFilter}
use Rattle.cf_model_laws.proofs.Leading.{Leads, kept_leads, leads_bind, leads_kept}
use Rattle.cf_model_laws.proofs.RightItems.{fits_aims, fits_meets}
use Rattle.cf_model_laws.proofs.SettledAsks.{Boxes, Settled, settled}
use Rattle.cf_model_laws.proofs.SoundBooks.{point_sound, points_sound}
use Rattle.cf_model_laws.proofs.SoundChanges.{KeepsEntries, change_sound, sound_but}
use Rattle.cf_model_laws.proofs.SoundSettles.{any_longer}
use Rattle.cf_model_laws.specs.Taken.{Knowledge}

-- the invariant of a filter, beside a premise on the rest
abbrev pub FilterSound : Type 0 → Link → ℕ → Filter → Type 0
FilterSound M l tokens x = M × (IsFair l → IsSound l tokens x)

abbrev On : ItemId → ItemId → Type 0
On item id = id.0 ≡ item.0

-- the tree of a change: a step, or a commit for room and a step
pub change_leads : (I Q : Filter → Type 0) (f : Book → Book) (c : Change) (x : Filter) → I (with_volume x.volume x) → I (with_volume (with_point_begun x.volume) x) → I (with_volume (with_room_point x.volume) x)
    → ((v : Volume) → (v ≡ x.volume) ⊎ (v ≡ with_room_point x.volume) → Q (with_notes (notice.Change (next_number v) c ∷ []) (with_volume (put_with_book f c v) x)))
    → Leads I (λ u t. Q t) (change_with f c x)
change_leads I Q f c x a b d q = by (may_need_room c x.volume) where
  by : (room : Bool) → Leads I (λ u t. Q t) (bind (mapped (λ v. with_volume v x) (put_after_room f c room x.volume)) (λ n t. tell_change c n t))
  by false = (a, q x.volume (inl refl))
  by true = ((a, q x.volume (inl refl)), (b, (d, q (with_room_point x.volume) (inr refl))))

-- points

with_begun : (l : Link) (tokens : ℕ) (x : Filter) → IsSound l tokens x → IsSound l tokens (with_volume (with_point_begun x.volume) x)
with_begun l tokens x h =
    points_sound NoItem l.remote l.messages tokens x.volume.epoch x.volume.place x.volume.log x.volume.items x.volume.next_item.0 x.volume.points _ x.volume.book.entries x.waiting.epoch x.waiting.waits x.waiting.asks x.waiting.key_count x.outbox x.policy.validate
    (point_sound NoItem l.remote l.messages tokens x.volume.epoch x.volume.place x.volume.log x.volume.items x.volume.next_item.0 x.volume.points x.volume.book x.waiting.epoch x.waiting.waits x.waiting.asks x.waiting.key_count x.outbox x.policy.validate false h, h.kept) h

with_room : (l : Link) (tokens : ℕ) (x : Filter) → IsSound l tokens x → IsSound l tokens (with_volume (with_room_point x.volume) x)
with_room l tokens x h = with_begun l tokens x h

with_sure : (l : Link) (tokens : ℕ) (x : Filter) → IsSound l tokens x → IsSound l tokens (with_volume (with_sure_point x.volume) x)
with_sure l tokens x h =
    points_sound NoItem l.remote l.messages tokens x.volume.epoch x.volume.place x.volume.log x.volume.items x.volume.next_item.0 x.volume.points _ x.volume.book.entries x.waiting.epoch x.waiting.waits x.waiting.asks x.waiting.key_count x.outbox x.policy.validate
    (point_sound NoItem l.remote l.messages tokens x.volume.epoch x.volume.place x.volume.log x.volume.items x.volume.next_item.0 x.volume.points x.volume.book x.waiting.epoch x.waiting.waits x.waiting.asks x.waiting.key_count x.outbox x.policy.validate true h, tt) h

-- a change

pub changed_at : (l : Link) (tokens : ℕ) (f : Book → Book) (c : Change) (x : Filter) → KeepsEntries f → Meets l.remote x c × Aims l.remote x c → IsSound l tokens x → (v : Volume) → (v ≡ x.volume) ⊎ (v ≡ with_room_point x.volume)
    → IsSoundBut (Touches c) l tokens (with_volume (put_with_book f c v) x)
changed_at l tokens f c x keeps fit h v (inl e) = subst (λ (w : Volume). IsSoundBut (Touches c) l tokens (with_volume (put_with_book f c w) x)) (sym e) (change_sound l tokens x f c keeps fit.0 fit.1 h)
changed_at l tokens f c x keeps fit h v (inr e) =
    subst (λ (w : Volume). IsSoundBut (Touches c) l tokens (with_volume (put_with_book f c w) x)) (sym e)
    (change_sound l tokens (with_volume (with_room_point x.volume) x) f c keeps (same_fits c fit.0) (same_aims c fit.1) (with_room l tokens x h)) where
      same_fits : (c : Change) → Meets l.remote x c → Meets l.remote (with_volume (with_room_point x.volume) x) c
      same_fits c k = k

      same_aims : (c : Change) → Aims l.remote x c → Aims l.remote (with_volume (with_room_point x.volume) x) c
      same_aims c k = k

pub change_keeps : (M : Type 0) (l : Link) (tokens : ℕ) (f : Book → Book) (c : Change) (x : Filter) → KeepsEntries f → ((id : ItemId) → Touches c id → ⊥) → (IsFair l → Meets l.remote x c × Aims l.remote x c) → FilterSound M l tokens x
    → Keeps (FilterSound M l tokens) (change_with f c x)
change_keeps M l tokens f c x keeps free fit h =
    kept_leads (FilterSound M l tokens) (change_with f c x)
    (change_leads (FilterSound M l tokens) (FilterSound M l tokens) f c x h (h.0, λ e. with_begun l tokens x (h.1 e)) (h.0, λ e. with_room l tokens x (h.1 e))
    (λ v is. (h.0, λ e. sound_but (Touches c) NoItem (λ i k. free i k) l tokens (with_volume (put_with_book f c v) x) (changed_at l tokens f c x keeps (fit e) (h.1 e) v is))))

-- what is told after a step

abbrev Telling : Type 0 → Link → ℕ → Told → Filter → Type 0
Telling M l tokens t x = M × (IsFair l → IsSound l tokens x × Boxes t x.waiting x.volume.epoch)

tell_end_keeps : (M : Type 0) (l : Link) (tokens : ℕ) (t : Told) (id : WaitId) (e : End) (own : Bool) (x : Filter) → Telling M l tokens t x → Telling M l tokens t (tell_end id e own x)
tell_end_keeps M l tokens t id e true x h = h
tell_end_keeps M l tokens t id e false x h = h

access_keeps : (M : Type 0) (l : Link) (tokens : ℕ) (t : Told) (item : ItemId) (is : Bool) (x : Filter) → Telling M l tokens t x → Telling M l tokens t (if is then accessed item x else x)
access_keeps M l tokens t item true x h = h
access_keeps M l tokens t item false x h = h

ended_keeps : (M : Type 0) (l : Link) (tokens : ℕ) (t : Told) (e : Wait × Cause) (x : Filter) → Telling M l tokens t x → Telling M l tokens t (with_ended e x)
ended_keeps M l tokens t e x h =
    access_keeps M l tokens t e.0.item (is_access e.0.kind e.1) (tell_end e.0.id (end_of x.volume.items e.0 e.1) (is_own e.0.id x) x)
    (tell_end_keeps M l tokens t e.0.id (end_of x.volume.items e.0 e.1) (is_own e.0.id x) x h)

asks_told : (l : Link) (tokens : ℕ) (t : Told) (x : Filter) → IsSound l tokens x → Boxes t x.waiting x.volume.epoch → IsSound l tokens (with_asks_told t x)
asks_told l tokens t x h k = record {
  counted = h.counted;
  recorded = h.recorded;
  messages = h.messages;
  old = h.old;
  of_log = h.of_log;
  now = h.now;
  kept = h.kept;
  one_epoch = h.one_epoch;
  numbered = h.numbered;
  lack = h.lack;
  unvalidated = h.unvalidated;
  lives = all_both (LiveAt l.remote l.messages x.waiting.key_count x.volume.epoch x.volume.next_item.0 x.volume.items x.waiting.waits x.outbox) (λ a. is_fetch a.ask.kind ≡ true → All (λ b. same_key a.ask.key b.key ≡ true → a.ask.item.0 ≡ b.item.0) (map (λ b. b.ask) t.made))
      (LiveAt l.remote l.messages x.waiting.key_count x.volume.epoch x.volume.next_item.0 x.volume.items x.waiting.waits (x.outbox ++ map (λ b. b.ask) t.made))
      (λ a g b e. record { below = (g e).below; given = (g e).given; waited = (g e).waited; named = (g e).named; boxed = all_append (λ b. same_key a.ask.key b.key ≡ true → a.ask.item.0 ≡ b.item.0) x.outbox (map (λ b. b.ask) t.made) (g e).boxed (b e) })
      x.waiting.asks h.lives k.0;
  boxed = all_append (λ b. WasGiven x.volume.epoch x.waiting.key_count b.key) x.outbox (map (λ b. b.ask) t.made) h.boxed k.1;
}

pub tell_keeps : (M : Type 0) (l : Link) (tokens : ℕ) (r : Told × Waiting) (x : Filter) → M → (IsFair l → IsSound l tokens (with_waiting r.1 x) × Boxes r.0 r.1 x.volume.epoch) → Keeps (FilterSound M l tokens) (tell r x)
tell_keeps M l tokens r x m h =
    kept_leads (FilterSound M l tokens) (tell r x)
    (leads_bind (FilterSound M l tokens) (λ u t. Telling M l tokens r.0 t) (λ u t. FilterSound M l tokens t) (each end_wait r.0.ended (with_waiting r.1 x)) (λ _ t. noted (with_asks_told r.0) t)
    (weaker (each end_wait r.0.ended (with_waiting r.1 x)) (leads_kept (Telling M l tokens r.0) (each end_wait r.0.ended (with_waiting r.1 x))
    ((keeps_each (Telling M l tokens r.0) end_wait r.0.ended (λ e. keeps_one (Telling M l tokens r.0) (with_ended e) (ended_keeps M l tokens r.0 e))).keeps (with_waiting r.1 x) (m, h))))
    (λ u t k. (k.0, λ e. asks_told l tokens r.0 t (k.1 e).0 (k.1 e).1))) where
      weaker : {A : Type 0} (p : Tree Filter A) → Leads (Telling M l tokens r.0) (λ u t. Telling M l tokens r.0 t) p → Leads (FilterSound M l tokens) (λ u t. Telling M l tokens r.0 t) p
      weaker (Ret a s) k = k
      weaker (Step s p) k = ((k.0.0, λ e. (k.0.1 e).0), weaker p k.1)
      weaker (Fork p q) k = (weaker p k.0, weaker q k.1)
      weaker (Asked g) k = λ y. weaker (g y) (k y)

settle_but : (M : Type 0) (l : Link) (tokens : ℕ) (item : ItemId) (d : Deed) (x : Filter) → M → (IsFair l → IsSoundBut (On item) l tokens x) → Keeps (FilterSound M l tokens) (settle item d x)
settle_but M l tokens item d x m h = tell_keeps M l tokens (told_at item d x) x m (λ e. let k : Settled l tokens x (told_at item d x) = settled l tokens x item d (h e) in (k.sound, k.boxes))

none_on : (item : ItemId) (l : Link) (tokens : ℕ) (x : Filter) → IsSound l tokens x → IsSoundBut (On item) l tokens x
none_on item l tokens x h = sound_but NoItem (On item) (λ i k. absurd k) l tokens x h

touch_keeps : (M : Type 0) (l : Link) (tokens : ℕ) (f : Book → Book) (c : Change) (item : ItemId) (d : Deed) (x : Filter) → KeepsEntries f → ((id : ItemId) → Touches c id → id.0 ≡ item.0) → (IsFair l → Meets l.remote x c × Aims l.remote x c) → FilterSound M l tokens x
    → Keeps (FilterSound M l tokens) (then_do (change_with f c) (then_do (settle item d) done) x)
touch_keeps M l tokens f c item d x keeps on fit h =
    kept_leads (FilterSound M l tokens) (then_do (change_with f c) (then_do (settle item d) done) x)
    (leads_bind (FilterSound M l tokens) (λ u t. M × (IsFair l → IsSoundBut (On item) l tokens t)) (λ u t. FilterSound M l tokens t) (change_with f c x) (λ _ t. then_do (settle item d) done t)
    (change_leads (FilterSound M l tokens) (λ t. M × (IsFair l → IsSoundBut (On item) l tokens t)) f c x h (h.0, λ e. with_begun l tokens x (h.1 e)) (h.0, λ e. with_room l tokens x (h.1 e))
    (λ v is. (h.0, λ e. sound_but (Touches c) (On item) on l tokens (with_volume (put_with_book f c v) x) (changed_at l tokens f c x keeps (fit e) (h.1 e) v is))))
    (λ u t k. leads_kept (FilterSound M l tokens) (then_do (settle item d) done t)
    (keeps_bind (FilterSound M l tokens) (settle item d t) (λ _ y. done y) (settle_but M l tokens item d t k.0 k.1) (λ a y j. j))))

-- a wait that begins

new_number : (e n : ℕ) → same_key (key_after e n) no_key ≡ false
new_number e n = grind (arith, nat_tests)

new_waits : (l : Link) (tokens : ℕ) (n : Need) (x : Filter) → IsSound l tokens x → IsSound l tokens (with_waiting (with_new_waits n x) x)
new_waits l tokens n x h = record {
  counted = h.counted;
  recorded = h.recorded;
  messages = h.messages;
  old = h.old;
  of_log = h.of_log;
  now = h.now;
  kept = h.kept;
  one_epoch = h.one_epoch;
  numbered = all_append (λ w. same_key w.id.0 no_key ≡ false) x.waiting.waits (wait_for n x ∷ beside n x) h.numbered (new_number x.waiting.epoch (x.waiting.wait_count + 0), beside_numbered (also_background n.background n.item x.waiting));
  lack = h.lack;
  boxed = h.boxed;
  unvalidated = h.unvalidated;
  lives = all_weaker (LiveAt l.remote l.messages x.waiting.key_count x.volume.epoch x.volume.next_item.0 x.volume.items x.waiting.waits x.outbox) (LiveAt l.remote l.messages x.waiting.key_count x.volume.epoch x.volume.next_item.0 x.volume.items (with_new_waits n x).waits x.outbox)
      (λ a g e. record { below = (g e).below; given = (g e).given; waited = any_longer (λ w. w.item.0 == a.ask.item.0) x.waiting.waits _ (g e).waited; named = (g e).named; boxed = (g e).boxed }) x.waiting.asks h.lives;
}
  where
    beside_numbered : (b : Bool) → All (λ w. same_key w.id.0 no_key ≡ false) (when b (wait_after x.waiting 1 wait_kind.Background n.item None no_span ∷ []))
    beside_numbered true = (new_number x.waiting.epoch (x.waiting.wait_count + 1), tt)
    beside_numbered false = tt

pub begins_keep : (M : Type 0) (l : Link) (tokens : ℕ) (n : Need) → Preserves (FilterSound M l tokens) (reading (begun n) (begin_now n))
begins_keep M l tokens n = record {
  keeps = λ x h.
      keeps_bind (FilterSound M l tokens) (tell (begun n x) (with_own n x)) (λ _ t. Ret (shown.Pending (own_id n x)) t)
      (tell_keeps M l tokens (begun n x) (with_own n x) h.0
      (λ e. let k : Settled l tokens (with_waiting (with_new_waits n x) x) (begun n x) = settled l tokens (with_waiting (with_new_waits n x) x) n.item Nothing (none_on n.item l tokens (with_waiting (with_new_waits n x) x) (new_waits l tokens n x (h.1 e))) in (k.sound, k.boxes)))
      (λ a t j. j);
}

downed_sound : (l : Link) (tokens : ℕ) (x : Filter) → IsSound l tokens x → IsSound l tokens (with_waiting (all_down x).1 x)
downed_sound l tokens x h = record {
  counted = h.counted;
  recorded = h.recorded;
  messages = h.messages;
  old = h.old;
  of_log = h.of_log;
  now = h.now;
  kept = h.kept;
  one_epoch = h.one_epoch;
  numbered = tt;
  lack = tt;
  boxed = h.boxed;
  unvalidated = h.unvalidated;
  lives = tt;
}

timed : (l : Link) (tokens : ℕ) (n : ℕ) (x : Filter) → IsSound l tokens x → IsSound l tokens (with_time n x)
timed l tokens n x h = record {
  counted = h.counted;
  recorded = h.recorded;
  messages = h.messages;
  old = h.old;
  of_log = h.of_log;
  now = h.now;
  kept = h.kept;
  one_epoch = h.one_epoch;
  numbered = h.numbered;
  boxed = h.boxed;
  unvalidated = h.unvalidated;
  lives = all_map (LiveAt l.remote l.messages x.waiting.key_count x.volume.epoch x.volume.next_item.0 x.volume.items x.waiting.waits x.outbox) (LiveAt l.remote l.messages x.waiting.key_count x.volume.epoch x.volume.next_item.0 x.volume.items x.waiting.waits x.outbox) (aged n) (λ a k. k) x.waiting.asks h.lives;
  lack = all_map (LackAt NoItem x.volume.items) (LackAt NoItem x.volume.items) (aged n) (λ a k. k) x.waiting.asks h.lack;
}

now_keeps : (M : Type 0) (l : Link) (tokens : ℕ) (item : ItemId) (is : Bool) (x : Filter) → FilterSound M l tokens x → FilterSound M l tokens (if is then accessed item x else x)
now_keeps M l tokens item true x h = h
now_keeps M l tokens item false x h = h

pub policy_sound : (l : Link) (tokens : ℕ) (x : Filter) (v : Bool) → v ≡ false → IsSound l tokens x
    → IsSoundOf NoItem l.remote l.messages tokens x.volume.epoch x.volume.place x.volume.log x.volume.items x.volume.next_item.0 x.volume.points x.volume.book.entries x.waiting.epoch x.waiting.waits x.waiting.asks x.waiting.key_count x.outbox v
policy_sound l tokens x v e h = record {
  counted = h.counted;
  recorded = h.recorded;
  messages = h.messages;
  old = h.old;
  of_log = h.of_log;
  now = h.now;
  kept = h.kept;
  one_epoch = h.one_epoch;
  numbered = h.numbered;
  lives = h.lives;
  lack = h.lack;
  boxed = h.boxed;
  unvalidated = e;
}

pub filter_guarded : (M : Type 0) {On : Knowledge} (l : Link) (tokens : ℕ) → GuardedFilter On l tokens (FilterSound M l tokens)
filter_guarded M l tokens = record {
  sound = λ x h e. h.1 e;
  change = λ f c x keeps seen free fit known h. change_keeps M l tokens f c x keeps free (λ e. (fits_meets l.remote x c (fit e), fits_aims l.remote x c (fit e))) h;
  touch = λ f c item d x quiet keeps seen on fit known h. touch_keeps M l tokens f c item d x keeps on (λ e. (fits_meets l.remote x c (fit e), fits_aims l.remote x c (fit e))) h;
  commits = record { keeps = λ x h. ((h.0, λ e. with_begun l tokens x (h.1 e)), (h.0, λ e. with_sure l tokens x (h.1 e))) };
  settled = λ item d x others h. settle_but M l tokens item d x h.0 (λ e. none_on item l tokens x (h.1 e));
  begins = λ n x plain fit unmet h. (begins_keep M l tokens n).keeps x h;
  downs = record { keeps = λ x h. tell_keeps M l tokens (all_down x) x h.0 (λ e. (downed_sound l tokens x (h.1 e), (tt, tt))) };
  keeps_accessed = λ item x h. h;
  keeps_accessed_now = λ n x h. now_keeps M l tokens n.item (is_access n.kind cause.Met) x h;
  keeps_as_it_is = λ x h. h;
  keeps_begin_call = λ x h. h;
  keeps_connected_again = λ x h. h;
  keeps_with_handle = λ item x fit h. h;
  keeps_with_time = λ n x h. (h.0, λ e. timed l tokens n x (h.1 e));
  keeps_without_handle = λ handle x h. h;
}
