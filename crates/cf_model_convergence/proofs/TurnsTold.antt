-- An item at its turn in a pass: it is reported, or nothing is to be done for it.
use Rattle.std.proofs.Common.{◌≡◌, ◌⊎◌, ◌+◌, Bool, true, false, List, [], ◌∷◌, refl, sym, ◌∙◌, ap, subst, inl, inr, eq-eqb, ℕ}
use Rattle.std.specs.Prelude.{Option, Some, None, cond, not, ◌&&◌, ◌||◌, ◌==◌}
use Rattle.cf_base.specs.declared.changes.Change.{Change}
use Rattle.cf_base.specs.declared.changes.Change.TheVariants as change
use Rattle.cf_base.specs.declared.codes.Code.{Code}
use Rattle.cf_base.specs.declared.ids.ItemId.{ItemId}
use Rattle.cf_base.specs.declared.ids.Usn.{Usn}
use Rattle.cf_base.specs.declared.notices.Notice.TheVariants as notice
use Rattle.cf_model.specs.Arrows.{choose, only_if, unless_done}
use Rattle.cf_model.specs.Books.{MakeDir, MoveItem, PutFile, QueueEntry, Tombstone}
use Rattle.cf_model.specs.Changes.{change as put, next_number, same_book}
use Rattle.cf_model.specs.Effects.{converted, effect}
use Rattle.cf_model.specs.Identities.{is_untargeted, no_identity, parent_target, stands_at_seen, target_of}
use Rattle.std.proofs.lemmas.Bool.{eqb-true}
use Rattle.cf_model.specs.Items.{Item, is_all_here, is_dirty, item_of}
use Rattle.cf_model.specs.LookUp.{is_excluded}
use Rattle.cf_model.specs.Messages.{no_number}
use Rattle.cf_model.specs.Numbers.{no_usn, same_usn, root_rid}
use Rattle.cf_model.specs.PushReplies.{has_item, whatever}
use Rattle.cf_model.specs.Pushes.{bury_unless, has_entry, hydrate_if, is_left_out, is_tombstone_left_out, mark_item, push_by_case, push_here, push_item, push_tombstone, push_turn, push_unless, put_file, put_if, put_whole, upload, upload_if, upload_new, upload_now, hydrate_unless, is_hydrating}
use Rattle.cf_model.specs.Skips.{do_change, left_out, may_mark, mark_if, try_change, why_no_change}
use Rattle.cf_model.specs.Soundness.{Each}
use Rattle.cf_model.specs.State.{State, book_now, items_now, with_filter}
use Rattle.cf_model.specs.Trees.{Asked, Fork, Ret, Step, Tree, bind, Ends}
use Rattle.cf_model.specs.Words.{part, says}
use Rattle.cf_model.proofs.TreeLaws.{kept_at_end}
use Rattle.cf_model_laws.specs.Fitting.{Fits, NoEntry}
use Rattle.cf_model_laws.specs.Invariant.{HasNone, Invariant, IsRight, SameBase, target_in}
use Rattle.cf_model_laws.specs.Premises.{IsFair}
use Rattle.cf_model_laws.proofs.ContentLaws.{sound_whole}
use Rattle.cf_model_laws.proofs.EntryLaws.{none_none}
use Rattle.cf_model_laws.proofs.FoundItems.{found_id}
use Rattle.cf_model_laws.proofs.Leading.{Leads, leads_bind, leads_mapped}
use Rattle.cf_model_laws.proofs.PushRepliesGuarded.{each_at}
use Rattle.cf_model_laws.proofs.PushesGuarded.{lone, right_of, targeted, upload_now_at}
use Rattle.cf_model_laws.proofs.RightItems.{both_none, no_way, no_way_back}
use Rattle.cf_model_laws.proofs.SkipsGuarded.{Any, Led, Unnamed, guarded_skipping, try_change_at, try_led}
use Rattle.cf_model_laws.proofs.SoundFilters.{change_leads}
use Rattle.cf_model_laws.proofs.SoundSettles.{each_found, same_item}
use Rattle.cf_model_convergence.specs.Telling.{IsListening, IsSpared, IsToUpload, IsTold, IsTurned, IsAside}
use Rattle.cf_model_convergence.proofs.ItemsPushed.{item_told, removal_told}
use Rattle.cf_model_convergence.proofs.PushesTold.{skip_told, told_then}
use Rattle.cf_model_convergence.proofs.SinceGuarded.{Since, since_entering, since_follows, since_guarded, since_start}

-- ends

pub leads_ends : {S A : Type 0} (I : S → Type 0) (Q : A → S → Type 0) (p : Tree S A) (a : A) (t : S) → Leads I Q p → Ends p a t → Q a t
leads_ends I Q (Ret b s) a t h e = subst (λ (x : _). Q a x) (sym e.1) (subst (λ (x : _). Q x s) (sym e.0) h)
leads_ends I Q (Step s p) a t h e = leads_ends I Q p a t h.1 e
leads_ends I Q (Fork p q) a t h (inl e) = leads_ends I Q p a t h.0 e
leads_ends I Q (Fork p q) a t h (inr e) = leads_ends I Q q a t h.1 e
leads_ends I Q (Asked k) a t h e = leads_ends I Q (k e.0) a t (h e.0) e.1

pub ends_bind : {S A B : Type 0} (p : Tree S A) (g : A → S → Tree S B) (b : B) (t : S) → Ends (bind p g) b t → (a : A) × (m : S) × Ends p a m × Ends (g a m) b t
ends_bind (Ret a s) g b t e = (a, s, (refl, refl), e)
ends_bind (Step s p) g b t e = ends_bind p g b t e
ends_bind (Fork p q) g b t (inl e) = let k = ends_bind p g b t e in (k.0, k.1, inl k.2, k.3)
ends_bind (Fork p q) g b t (inr e) = let k = ends_bind q g b t e in (k.0, k.1, inr k.2, k.3)
ends_bind (Asked k) g b t e = let j = ends_bind (k e.0) g b t e.1 in (j.0, j.1, (e.0, j.2), j.3)

-- a change is reported, or that it is left out

change_led : (c : Change) (s : State) → Leads Any (λ u t. IsTold s t) (do_change c s)
change_led c s =
    leads_mapped Any (λ u x. IsTold s (with_filter x s)) Any (λ u t. IsTold s t) (λ x. with_filter x s) (put c s.filter) (λ x k. tt) (λ u x k. k)
    (change_leads Any (λ x. IsTold s (with_filter x s)) same_book c s.filter tt tt tt (λ v is. record { lines = notice.Change (next_number v) c ∷ []; noted = refl; loud = inl refl }))

pub try_told_led : (c : Change) (s : State) → IsListening s → Leads Any (λ done t. IsTold s t) (try_change c s)
try_told_led c s listening = by (why_no_change c s) where
  by : (o : Option Code) → Leads Any (λ done t. IsTold s t) (bind (unless_done (do_change c) o s) left_out)
  by None = leads_bind Any (λ o t. (o ≡ None) × IsTold s t) (λ done t. IsTold s t) (bind (do_change c s) (λ _ t. Ret None t)) left_out
      (leads_bind Any (λ u t. IsTold s t) (λ o t. (o ≡ None) × IsTold s t) (do_change c s) (λ _ t. Ret None t) (change_led c s) (λ u t k. (refl, k)))
      (λ o t k. subst (λ (q : Option Code). Leads Any (λ done u. IsTold s u) (left_out q t)) (sym k.0) k.1)
  by (Some d) = skip_told s.running.shows_skips d s (record s { running = record s.running { skips = s.running.skips + 1 } }) listening.shows refl

-- one item

module _ (s : State) (h : Invariant s) (fair : IsFair s.link) (listening : IsListening s) (i : Item) (there : item_of (items_now s) i.id ≡ Some i) (free : has_entry s i.id ≡ false) (u : Unit {0}) (t : State) (left : no_number t ≡ false)
    (R : Type 0) (lack : (i.directory ≡ false → i.placeholder ≡ true) → i.directory ≡ false → is_all_here i ≡ false → IsToUpload i → is_hydrating i.id s ≡ false → Ends (bind (hydrate_unless i.id false s) (λ _ x. put_whole (item_of (items_now x) i.id) x)) u t → R) where
  -- what is said where bytes lack, or the state stays
  abbrev Spared : Type 0
  Spared = R ⊎ ((t ≡ s) × IsAside s i)

  right : IsRight s.link.remote (next_number s.filter.volume) i
  right = right_of s i (h.1 fair) there

  whole_told : (o : Option Item) → o ≡ Some i → i.directory ≡ false → i.placeholder ≡ true → is_all_here i ≡ true → Ends (put_whole o s) u t → IsTold s t
  whole_told None e file placed here ends = let z : ◌≡◌ {A = Option Item} None (Some i) = e in absurd (none i z) where
    none : (j : Item) → ◌≡◌ {A = Option Item} None (Some j) → ⊥
    none j z = cc
  whole_told (Some j) e file placed here ends =
      let same : j ≡ i = some j i e in
      item_told PutFile i s u t h fair listening (there, free, file, placed, here)
      (subst (λ (b : Bool). Ends (put_if i b s) u t) here (subst (λ (k : Item). Ends (put_if k (is_all_here k) s) u t) same ends)) left where
        some : (a b : Item) → ◌≡◌ {A = Option Item} (Some a) (Some b) → a ≡ b
        some a b z = cc

  upload_told : (i.directory ≡ false → i.placeholder ≡ true) → IsToUpload i → Ends (upload i s) u t → IsTold s t ⊎ Spared
  upload_told placed needed ends = by i.directory refl ends where
    waited : (c : Bool) → is_hydrating i.id s ≡ c → is_all_here i ≡ false → i.directory ≡ false → Ends (bind (hydrate_unless i.id c s) (λ _ x. put_whole (item_of (items_now x) i.id) x)) u t → IsTold s t ⊎ Spared
    waited true w here file e =
        inr (inr ((subst (λ (b : Bool). Ends (put_if i b s) u t) here (subst (λ (o : Option Item). Ends (put_whole o s) u t) there e)).1, inr (inr w)))
    waited false w here file e = inr (inl (lack placed file here needed w e))

    hydrated : (b : Bool) → is_all_here i ≡ b → i.directory ≡ false → Ends (bind (hydrate_if i.id b s) (λ _ x. put_whole (item_of (items_now x) i.id) x)) u t → IsTold s t ⊎ Spared
    hydrated true here file e = inl (whole_told (item_of (items_now s) i.id) there file (placed file) here e)
    hydrated false here file e = waited (is_hydrating i.id s) refl here file e

    by : (b : Bool) → i.directory ≡ b → Ends (choose b (push_item MakeDir i) (put_file i) s) u t → IsTold s t ⊎ Spared
    by true dir e = inl (item_told MakeDir i s u t h fair listening (there, free, dir) e left)
    by false file e = hydrated (is_all_here i) refl file e

  -- an item that is no placeholder becomes one first
  abbrev convert : Change
  convert = change.Convert i.id no_identity

  convert_fits : i.placeholder ≡ false → (target_of i).0 ≡ 0 → IsFair s.link → Fits s.link.remote s.filter convert
  convert_fits bare none f = (
    (each_found i.id (λ j. SameBase no_identity j.identity) 0 s.filter.volume.next_item.0 (items_now s) i (h.1 f).now.order there (both_none no_identity i.identity none_none (two i.directory refl)), refl),
    each_found i.id (λ j. (target_of j).0 ≡ 0) 0 s.filter.volume.next_item.0 (items_now s) i (h.1 f).now.order there none,
  ) where
    two : (d : Bool) → i.directory ≡ d → HasNone i.identity
    two true e = right.bare e
    two false e = (right.plain e bare).0

  after_told : i.placeholder ≡ false → (target_of i).0 ≡ 0 → (a : Bool) (m : State) → Ends (try_change convert s) a m → Ends (upload_if i.id a m) u t → IsTold s t
  after_told bare none false m first ends = subst (IsTold s) (sym ends.1) (leads_ends Any (λ done x. IsTold s x) (try_change convert s) false m (try_told_led convert s listening) first)
  after_told bare none true m first ends =
      told_then s m t (leads_ends Any (λ done x. IsTold s x) (try_change convert s) true m (try_told_led convert s listening) first)
      (since_follows m t (kept_at_end (Since m) (upload_if i.id true m) u t
      (upload_now_at (Since m) (since_guarded m) (since_entering m).uploads i.id (item_of (items_now m) i.id) m refl
      (λ f. subst (λ (es : List QueueEntry). NoEntry es i.id) (sym (led.after.entries (λ b. refl))) (lone (book_now s).entries i.id free))
      (λ k e. each_at i.id Whole (items_now m) k e (subst (Each i.id Whole) (sym led.after.items) (made (items_now s))))
      (since_start m (kept_at_end Invariant (try_change convert s) true m (try_change_at Unnamed Invariant (guarded_skipping Invariant sound_whole.closed) convert s refl (λ id k. k) (λ f. (convert_fits bare none f, tt)) h) first))) ends)) where
        led : Led convert s m
        led = leads_ends Any (λ done x. done ≡ true → Led convert s x) (try_change convert s) true m (try_led convert s) first refl

        Whole : Item → Type 0
        Whole x = (x.placeholder ≡ true) × ((target_of x).0 ≡ 0)

        top : (b : Bool) → (cond b root_rid (target_in i.identity)).0 ≡ 0 → b ≡ false
        top true z = cc
        top false z = refl

        below : (b : Bool) → b ≡ false → (cond b root_rid (target_in no_identity)).0 ≡ 0
        below true q = no_way (sym q)
        below false q = refl

        made : (items : List Item) → Each i.id Whole (effect items convert (next_number s.filter.volume))
        made [] = tt
        made (x ∷ xs) = (turned (x.id.0 == i.id.0) refl, made xs) where
          turned : (b : Bool) → (x.id.0 == i.id.0) ≡ b → ((cond b (converted no_identity (next_number s.filter.volume) x) x).id.0 == i.id.0) ≡ true → Whole (cond b (converted no_identity (next_number s.filter.volume) x) x)
          turned true q z = (refl, below (x.id.0 == 1) (subst (λ (n : ℕ). (n == 1) ≡ false) (sym (eqb-true x.id.0 i.id.0 q)) (top (i.id.0 == 1) none)))
          turned false q z = no_way (sym q ∙ z)

  new_told : (target_of i).0 ≡ 0 → is_untargeted i ≡ true → Ends (upload_new i s) u t → IsTold s t ⊎ Spared
  new_told none new ends = by i.placeholder refl ends where
    found : (o : Option Item) → o ≡ Some i → i.placeholder ≡ true → Ends (upload_now o s) u t → IsTold s t ⊎ Spared
    found None e placed z = let y : ◌≡◌ {A = Option Item} None (Some i) = e in absurd (never i y) where
      never : (j : Item) → ◌≡◌ {A = Option Item} None (Some j) → ⊥
      never j z = cc
    found (Some j) e placed z = upload_told (λ _. placed) (inl new) (subst (λ (k : Item). Ends (upload k s) u t) (some j i e) z) where
      some : (a b : Item) → ◌≡◌ {A = Option Item} (Some a) (Some b) → a ≡ b
      some a b z = cc

    by : (b : Bool) → i.placeholder ≡ b → Ends (bind (only_if (not b) (try_change convert) s) (upload_if i.id)) u t → IsTold s t ⊎ Spared
    by true placed e = found (item_of (items_now s) i.id) there placed e
    by false bare e = let k = ends_bind (try_change convert s) (upload_if i.id) u t e in inl (after_told bare none k.0 k.1 k.2 k.3)

  -- nothing but a mark is left to do
  mark_told : is_untargeted i ≡ false → stands_at_seen (items_now s) (book_now s) i ≡ true → is_dirty i ≡ false → Ends (mark_item i.id s) u t → IsTold s t ⊎ Spared
  mark_told aimed stands clean ends = by (says (may_mark (items_now s) (book_now s) number) (item_of (items_now s) i.id)) refl ends where
    number : Usn
    number = part (λ j. j.number) no_usn (item_of (items_now s) i.id)

    own : number ≡ i.number
    own = ap (λ (o : Option Item). part (λ j. j.number) no_usn o) there

    same : (n : Usn) → same_usn n n ≡ true
    same n = both (n.epoch == n.epoch) (n.place == n.place) (eq-eqb n.epoch n.epoch refl) (eq-eqb n.place n.place refl) where
      both : (a b : Bool) → a ≡ true → b ≡ true → (a && b) ≡ true
      both true b e z = z
      both false b e z = no_way e

    last : (a b c d e : Bool) → a ≡ true → c ≡ false → d ≡ false → e ≡ true → (a && not b && not c && not d && e) ≡ false → b ≡ true
    last true true c d e p q r w z = refl
    last true false false false true p q r w z = no_way_back z
    last true false false false false p q r w z = no_way w
    last true false false true e p q r w z = no_way_back r
    last true false true d e p q r w z = no_way_back q
    last false b c d e p q r w z = no_way p

    rested : says (may_mark (items_now s) (book_now s) number) (item_of (items_now s) i.id) ≡ false → i.in_sync ≡ true
    rested e =
        last (same_usn i.number number) i.in_sync (is_dirty i) (is_untargeted i) (stands_at_seen (items_now s) (book_now s) i) (subst (λ (n : Usn). same_usn i.number n ≡ true) (sym own) (same i.number)) clean aimed stands
        (sym (ap (λ (o : Option Item). says (may_mark (items_now s) (book_now s) number) o) there) ∙ e)

    by : (b : Bool) → says (may_mark (items_now s) (book_now s) number) (item_of (items_now s) i.id) ≡ b → Ends (bind (mark_if i.id number b s) whatever) u t → IsTold s t ⊎ Spared
    by true may e =
        let k = ends_bind (try_change (change.Mark i.id number) s) whatever u t e in
        inl (subst (IsTold s) (sym k.3.1) (leads_ends Any (λ done x. IsTold s x) (try_change (change.Mark i.id number) s) k.0 k.1 (try_told_led (change.Mark i.id number) s listening) k.2))
    by false may e = inr (inr (e.1, inr (inl (record { target = aimed; stands = stands; clean = clean; in_sync = rested may }))))

  pub case_told : Ends (push_by_case i s) u t → IsTold s t ⊎ Spared
  case_told ends = by (is_untargeted i) refl ends where
    three : (b : Bool) → is_dirty i ≡ b → is_untargeted i ≡ false → stands_at_seen (items_now s) (book_now s) i ≡ true → Ends (choose b (upload i) (mark_item i.id) s) u t → IsTold s t ⊎ Spared
    three true dirty aimed stands e = upload_told (λ file. targeted s.link.remote (next_number s.filter.volume) i right aimed file) (inr dirty) e
    three false clean aimed stands e = mark_told aimed stands clean e

    two : (b : Bool) → stands_at_seen (items_now s) (book_now s) i ≡ b → is_untargeted i ≡ false → Ends (choose (not b) (push_item MoveItem i) (choose (is_dirty i) (upload i) (mark_item i.id)) s) u t → IsTold s t ⊎ Spared
    two false away aimed e = inl (item_told MoveItem i s u t h fair listening (there, free, away) e left)
    two true stands aimed e = three (is_dirty i) refl aimed stands e

    by : (b : Bool) → is_untargeted i ≡ b → Ends (choose b (upload_new i) (choose (not (stands_at_seen (items_now s) (book_now s) i)) (push_item MoveItem i) (choose (is_dirty i) (upload i) (mark_item i.id))) s) u t → IsTold s t ⊎ Spared
    by true bare e = new_told (eqb-true (target_of i).0 0 bare) bare e
    by false aimed e = two (stands_at_seen (items_now s) (book_now s) i) refl aimed e

-- no upload of an item that is not left out is on its way
pub no_entry : (s : State) (i : Item) → is_left_out s i ≡ false → has_entry s i.id ≡ false
no_entry s i e = second (i.id.0 == 1) (has_entry s i.id) (first ((i.id.0 == 1) || has_entry s i.id) (has_item s.volatile.held_items i.id)
    (first ((i.id.0 == 1) || has_entry s i.id || has_item s.volatile.held_items i.id) (is_excluded (items_now s) i.id) (first ((i.id.0 == 1) || has_entry s i.id || has_item s.volatile.held_items i.id || is_excluded (items_now s) i.id) ((parent_target (items_now s) i).0 == 0) e))) where
      first : (a b : Bool) → (a || b) ≡ false → a ≡ false
      first true b z = z
      first false b z = refl

      second : (a b : Bool) → (a || b) ≡ false → b ≡ false
      second true b z = no_way_back z
      second false b z = z

pub turn_told : (item : ItemId) (s : State) (u : Unit {0}) (t : State) → Invariant s → IsFair s.link → IsListening s → Ends (push_turn item s) u t → no_number t ≡ false → IsTold s t ⊎ IsTurned s item t
turn_told item s u t h fair listening ends left = by (item_of (items_now s) item) refl ends where
  some : (a b : Item) → ◌≡◌ {A = Option Item} (Some a) (Some b) → a ≡ b
  some a b z = cc

  none : (j : Item) → ◌≡◌ {A = Option Item} None (Some j) → ⊥
  none j z = cc

  spared : (i : Item) → item_of (items_now s) item ≡ Some i → IsTold s t ⊎ IsSpared s i t → IsTold s t ⊎ IsTurned s item t
  spared i e (inl k) = inl k
  spared i e (inr k) = inr (inr (i, e, k))

  two : (i : Item) → item_of (items_now s) item ≡ Some i → (b : Bool) → is_left_out s i ≡ b → Ends (push_unless i b s) u t → IsTold s t ⊎ IsSpared s i t
  two i e true q z = inr (inr (z.1, inl q))
  two i e false q z = case_told s h fair listening i (subst (λ (x : ItemId). item_of (items_now s) x ≡ Some i) (sym (same_item i.id item (found_id item (items_now s) i e))) e) (no_entry s i q) u t left ((i.directory ≡ false) × (is_all_here i ≡ false) × IsToUpload i × (is_hydrating i.id s ≡ false)) (λ placed file here needed idle e. (file, here, needed, idle)) z

  by : (o : Option Item) → item_of (items_now s) item ≡ o → Ends (push_here o s) u t → IsTold s t ⊎ IsTurned s item t
  by None e z = inr (inl (e, z.1))
  by (Some i) e z = spared i e (two i e (is_left_out s i) refl z)

-- a tombstone at its turn
pub tombstone_told : (x : Tombstone) (s : State) (u : Unit {0}) (t : State) → Invariant s → IsFair s.link → IsListening s → Ends (push_tombstone x s) u t → no_number t ≡ false → IsTold s t ⊎ ((t ≡ s) × (is_tombstone_left_out s x ≡ true))
tombstone_told x s u t h fair listening ends left = by (is_tombstone_left_out s x) refl ends where
  by : (b : Bool) → is_tombstone_left_out s x ≡ b → Ends (bury_unless x b s) u t → IsTold s t ⊎ ((t ≡ s) × (is_tombstone_left_out s x ≡ true))
  by true q e = inr (e.1, q)
  by false q e = inl (removal_told x s u t h fair listening e left)
