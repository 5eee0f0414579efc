-- What is told stays true where the filter goes on.
use Rattle.std.proofs.Common.{◌≡◌, ◌⊎◌, ℕ, Bool, true, false, List, refl, sym, ◌∙◌, ap, subst, inl, inr}
use Rattle.std.specs.Prelude.{if◌then◌else◌}
use Rattle.cf_base.specs.declared.answers.Shown.TheVariants as shown
use Rattle.cf_base.specs.declared.changes.Change.{Change}
use Rattle.cf_base.specs.declared.ids.ItemId.{ItemId}
use Rattle.cf_base.specs.declared.waits.Ask.{Ask}
use Rattle.cf_base.specs.declared.waits.Cause.TheVariants as cause
use Rattle.cf_model.specs.Arrows.{reading, then_do}
use Rattle.cf_model.specs.Books.{Book, book_after}
use Rattle.cf_model.specs.Changes.{change_with, put_with_book}
use Rattle.cf_model.specs.Operations.{done}
use Rattle.cf_model.specs.Points.{commit, with_room_point}
use Rattle.cf_model.specs.Requests.{Deed, Waiting}
use Rattle.cf_model.specs.Settling.{accessed, is_access, settle, tell, told_at}
use Rattle.cf_model.specs.State.{Filter, Link, Volume, in_volume}
use Rattle.cf_model.specs.Trees.{Keeps, Ret, Tree}
use Rattle.cf_model.specs.Waits.{Need, all_down, begin_now, begun, own_id, with_own, with_time}
use Rattle.cf_model.proofs.TreeLaws.{keeps_bind}
use Rattle.cf_model_laws.specs.Invariant.{All}
use Rattle.cf_model_laws.specs.Premises.{IsFair}
use Rattle.cf_model_laws.specs.Taken.{Knowledge}
use Rattle.cf_model_laws.proofs.ContentLaws.{keeps_weaker}
use Rattle.cf_model_laws.proofs.FramesGuarded.{SameRecords, tell_frame}
use Rattle.cf_model_laws.proofs.Guarded.{GuardedFilter, KeepsCursor, KeepsSeenBy}
use Rattle.cf_model_laws.proofs.Leading.{kept_leads}
use Rattle.cf_model_laws.proofs.OutboxFacts.{Boxing, Holds, filter_closed}
use Rattle.cf_model_laws.proofs.SkipsGuarded.{keeps_both}
use Rattle.cf_model_laws.proofs.SoundChanges.{same_cursor}
use Rattle.cf_model_laws.proofs.SoundFilters.{change_leads}
use Rattle.cf_model_convergence.specs.Tidy.{IsTidy}
use Rattle.cf_model_agreement.specs.Messages.{AreListsRight, AreMessagesTrue, IsTrue}
use Rattle.cf_model_agreement.proofs.MessagesTrue.{Lists, lists_boxing}

-- of the filter, beside the link and the round

abbrev pub In : Link → ℕ → Bool → Filter → Type 0
In l n awaited x = IsFair l → IsTidy l.remote × AreMessagesTrue l.remote l.messages x.volume.epoch n awaited x.volume.book.cursor x.waiting

-- beside a volume with this epoch and this cursor
module _ (l : Link) (n : ℕ) (awaited : Bool) (epoch cursor : ℕ) where
  abbrev Told : List Ask → Waiting → Type 0
  Told o w = IsFair l → Lists l.remote l.messages epoch n awaited cursor o w

  boxing : Boxing Told
  boxing = lists_boxing l.remote l.messages epoch n awaited cursor (IsFair l)

  abbrev At : Volume → Type 0
  At v = IsFair l → (v.epoch ≡ epoch) × (v.book.cursor ≡ cursor)

  at_book : (v : Volume) (b : Book) → SameRecords v.book b → At v → At (record v { book = b })
  at_book v b same h fair = ((h fair).0, same.cursor ∙ (h fair).1)

  at_change : (f : Book → Book) (c : Change) (x : Filter) → (IsFair l → KeepsCursor f) → At x.volume → Keeps (λ y. At y.volume) (change_with f c x)
  at_change f c x keeps h =
      kept_leads (λ y. At y.volume) (change_with f c x) (change_leads (λ y. At y.volume) (λ y. At y.volume) f c x h h h (λ v is. by v is)) where
        by : (v : Volume) → (v ≡ x.volume) ⊎ (v ≡ with_room_point x.volume) → At (put_with_book f c v)
        by v (inl e) fair = (ap (λ (w : Volume). w.epoch) e ∙ (h fair).0, keeps fair (book_after c v.book) ∙ same_cursor c v.book ∙ ap (λ (w : Volume). w.book.cursor) e ∙ (h fair).1)
        by v (inr e) fair = (ap (λ (w : Volume). w.epoch) e ∙ (h fair).0, keeps fair (book_after c v.book) ∙ same_cursor c v.book ∙ ap (λ (w : Volume). w.book.cursor) e ∙ (h fair).1)

  abbrev Tidy : Type 0
  Tidy = IsFair l → IsTidy l.remote

  into : Tidy → (y : Filter) → Holds Told y × At y.volume → In l n awaited y
  into tidy y k fair = (
    tidy fair,
    record {
      same_epoch = (k.0 fair).0 ∙ sym (k.1 fair).0;
      messages = subst (λ (e : ℕ). All (IsTrue l.remote l.messages e n awaited y.volume.book.cursor y.waiting.key_count) l.messages) (sym (k.1 fair).0) (subst (λ (c : ℕ). All (IsTrue l.remote l.messages epoch n awaited c y.waiting.key_count) l.messages) (sym (k.1 fair).1) (k.0 fair).1);
      lists = subst (λ (c : ℕ). AreListsRight l.remote l.messages c y.waiting.asks) (sym (k.1 fair).1) (k.0 fair).2;
    },
  )

  within : {A : Type 0} → Tidy → (p : Tree Filter A) → Keeps (Holds Told) p → Keeps (λ y. At y.volume) p → Keeps (In l n awaited) p
  within tidy p h k = keeps_weaker (λ y. Holds Told y × At y.volume) (In l n awaited) (into tidy) p (keeps_both (Holds Told) (λ y. At y.volume) p h k)

outof : (l : Link) (n : ℕ) (awaited : Bool) (x : Filter) → In l n awaited x → Told l n awaited x.volume.epoch x.volume.book.cursor x.outbox x.waiting
outof l n awaited x h fair = let k = (h fair).1 in (k.same_epoch, k.messages, k.lists)

tidy_of : (l : Link) (n : ℕ) (awaited : Bool) (x : Filter) → In l n awaited x → IsFair l → IsTidy l.remote
tidy_of l n awaited x h fair = (h fair).0

module _ (l : Link) (n : ℕ) (awaited : Bool) where
  pub change_true : (f : Book → Book) (c : Change) (x : Filter) → (IsFair l → KeepsCursor f) → In l n awaited x → Keeps (In l n awaited) (change_with f c x)
  change_true f c x keeps h =
      let e : ℕ = x.volume.epoch in let d : ℕ = x.volume.book.cursor in
      within l n awaited e d (tidy_of l n awaited x h) (change_with f c x) (((filter_closed (Told l n awaited e d) (boxing l n awaited e d)).change f c).keeps x (outof l n awaited x h)) (at_change l n awaited e d f c x keeps (λ fair. (refl, refl)))

  settle_true : (item : ItemId) (d : Deed) (x : Filter) → In l n awaited x → Keeps (In l n awaited) (settle item d x)
  settle_true item d x h =
      let e : ℕ = x.volume.epoch in let c : ℕ = x.volume.book.cursor in
      within l n awaited e c (tidy_of l n awaited x h) (settle item d x) (((filter_closed (Told l n awaited e c) (boxing l n awaited e c)).settled item d).keeps x (outof l n awaited x h)) (tell_frame (At l n awaited e c) (at_book l n awaited e c) (told_at item d x) x (λ fair. (refl, refl)))

  pub begin_true : (m : Need) (x : Filter) → In l n awaited x → Keeps (In l n awaited) (reading (begun m) (begin_now m) x)
  begin_true m x h =
      let e : ℕ = x.volume.epoch in let c : ℕ = x.volume.book.cursor in
      within l n awaited e c (tidy_of l n awaited x h) (reading (begun m) (begin_now m) x) (((filter_closed (Told l n awaited e c) (boxing l n awaited e c)).begins m).keeps x (outof l n awaited x h))
      (keeps_bind (λ y. At l n awaited e c y.volume) (tell (begun m x) (with_own m x)) (λ _ t. Ret (shown.Pending (own_id m x)) t) (tell_frame (At l n awaited e c) (at_book l n awaited e c) (begun m x) (with_own m x) (λ fair. (refl, refl))) (λ a t j. j))

  down_true : (x : Filter) → In l n awaited x → Keeps (In l n awaited) (reading all_down tell x)
  down_true x h =
      let e : ℕ = x.volume.epoch in let c : ℕ = x.volume.book.cursor in
      within l n awaited e c (tidy_of l n awaited x h) (reading all_down tell x) ((filter_closed (Told l n awaited e c) (boxing l n awaited e c)).downs.keeps x (outof l n awaited x h)) (tell_frame (At l n awaited e c) (at_book l n awaited e c) (all_down x) x (λ fair. (refl, refl)))

  accessed_true : (item : ItemId) (is : Bool) (x : Filter) → In l n awaited x → In l n awaited (if is then accessed item x else x)
  accessed_true item true x h = h
  accessed_true item false x h = h

  pub filter_true : {On : Knowledge} (tokens : ℕ) (P : Filter → Type 0) → GuardedFilter On l tokens P → GuardedFilter On l tokens (λ x. P x × In l n awaited x)
  filter_true tokens P closed = record {
    sound = λ x h fair. closed.sound x h.0 fair;
    change = λ f c x keeps seen free fit known h. keeps_both P (In l n awaited) (change_with f c x) (closed.change f c x keeps seen free fit known h.0) (changed f c x seen h.1);
    touch = λ f c item d x quiet keeps seen on fit known h. keeps_both P (In l n awaited) (then_do (change_with f c) (then_do (settle item d) done) x) (closed.touch f c item d x quiet keeps seen on fit known h.0)
        (keeps_bind (In l n awaited) (change_with f c x) (λ _ t. then_do (settle item d) done t) (changed f c x seen h.1) (λ a t j. keeps_bind (In l n awaited) (settle item d t) (λ _ y. done y) (settle_true item d t j) (λ b y m. m)));
    commits = record { keeps = λ x h. keeps_both P (In l n awaited) (in_volume commit x) (closed.commits.keeps x h.0) (h.1, h.1) };
    settled = λ item d x others h. keeps_both P (In l n awaited) (settle item d x) (closed.settled item d x others h.0) (settle_true item d x h.1);
    begins = λ m x plain fit unmet h. keeps_both P (In l n awaited) (reading (begun m) (begin_now m) x) (closed.begins m x plain fit unmet h.0) (begin_true m x h.1);
    downs = record { keeps = λ x h. keeps_both P (In l n awaited) (reading all_down tell x) (closed.downs.keeps x h.0) (down_true x h.1) };
    keeps_accessed = λ item x h. (closed.keeps_accessed item x h.0, h.1);
    keeps_accessed_now = λ m x h. (closed.keeps_accessed_now m x h.0, accessed_true m.item (is_access m.kind cause.Met) x h.1);
    keeps_as_it_is = λ x h. (closed.keeps_as_it_is x h.0, h.1);
    keeps_begin_call = λ x h. (closed.keeps_begin_call x h.0, h.1);
    keeps_connected_again = λ x h. (closed.keeps_connected_again x h.0, h.1);
    keeps_with_handle = λ item x fit h. (closed.keeps_with_handle item x fit h.0, h.1);
    keeps_with_time = λ m x h. (closed.keeps_with_time m x h.0, timed m x h.1);
    keeps_without_handle = λ handle x h. (closed.keeps_without_handle handle x h.0, h.1);
  }
    where
      changed : (f : Book → Book) (c : Change) (x : Filter) → (IsFair l → KeepsSeenBy f c x) → In l n awaited x → Keeps (In l n awaited) (change_with f c x)
      changed f c x seen h = change_true f c x (λ fair. (seen fair).2) h

      timed : (m : ℕ) (x : Filter) → In l n awaited x → In l n awaited (with_time m x)
      timed m x h fair =
          let k = (boxing l n awaited x.volume.epoch x.volume.book.cursor).ticks x.outbox x.waiting m (outof l n awaited x h) fair in
          ((h fair).0, record { same_epoch = k.0; messages = k.1; lists = k.2 })
