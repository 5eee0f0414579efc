-- What the engine's single steps keep in `replay`.
use Rattle.std.proofs.Common.{◌≤◌, ◌≡◌, ◌⊎◌, ◌+◌, ℕ, Bool, true, false, List, [], ◌∷◌, refl, sym, ap, subst, inl, inr, max, arith}
use Rattle.std.specs.Prelude.{Option, Some, None, is_some, nat_lt, not, ◌<◌, ◌&&◌, ◌==◌}
use Rattle.cf_base.specs.declared.changes.Change.{Change}
use Rattle.cf_base.specs.declared.changes.Change.TheVariants as change
use Rattle.cf_base.specs.declared.codes.Code.{Code}
use Rattle.cf_base.specs.declared.ids.ItemId.{ItemId}
use Rattle.cf_base.specs.declared.ids.Usn.{Usn}
use Rattle.cf_base.specs.declared.items.SeenPath.{SeenPath}
use Rattle.cf_base.specs.declared.messages.Entry.{Entry}
use Rattle.std.proofs.lemmas.Bool.{eqb-true}
use Rattle.cf_model.specs.Arrows.{Arrow, Preserves, and_then, only_if, unless_done, when_ok}
use Rattle.cf_model.specs.Books.{Book, MoveItem, QueueEntry, seen_of, with_seen, without_seen}
use Rattle.cf_model.specs.Changes.{change as put, next_number, same_book}
use Rattle.cf_model.specs.ConflictNames.{conflict_name}
use Rattle.cf_model.specs.Effects.{effect}
use Rattle.cf_model.specs.Identities.{is_untargeted, stands_at_path, stands_at_seen}
use Rattle.cf_model.specs.Items.{Item, is_dirty, item_of}
use Rattle.cf_model.specs.Logs.{next_by}
use Rattle.cf_model.specs.Numbers.{same_usn}
use Rattle.cf_model.specs.Overlay.{Written}
use Rattle.cf_model.specs.Skips.{do_change, in_book, is_markable, is_there, left_out, may_mark, move_off, not_done, number_of_item, skip, skip_line, skipped, to_conflict, tried, try_book, try_change, try_clear_name, try_mark, try_mark_now, try_seen, why_no_change, why_no_record, with_book}
use Rattle.cf_model.specs.State.{State, Volume, book_now, items_now, with_filter, Link}
use Rattle.cf_model.specs.Points.{with_room_point}
use Rattle.cf_model.specs.Trees.{Asked, Fork, Keeps, Ret, Step, Tree, bind}
use Rattle.cf_model.specs.Words.{is_empty, says}
use Rattle.cf_model.proofs.ArrowLaws.{keeps_noted, keeps_ret, keeps_seq}
use Rattle.cf_model.proofs.TreeLaws.{keeps_bind, keeps_mapped}
use Rattle.cf_model.specs.LookUp.{child_of, is_child_named}
use Rattle.cf_model.specs.Skips.{if_other}
use Rattle.cf_model.specs.Words.{part}
use Rattle.cf_model_laws.specs.Fitting.{Fits, NoEntry, NoMove, Stands, Touches}
use Rattle.cf_model_laws.proofs.FoundItems.{found_again}
use Rattle.cf_model_laws.specs.Invariant.{All, InOrder, IsSound}
use Rattle.cf_model_laws.specs.Premises.{IsFair}
use Rattle.cf_model_laws.specs.Taken.{IsNamedBy, IsSeenBy, Known, LosesBy, LosesOn, Nothing, Since, Heard, Mentions}
use Rattle.cf_model_laws.proofs.SinceKept.{loses_weaker, named_weaker}
use Rattle.cf_model_laws.proofs.Gathered.{all_filter, all_put_in, all_weaker}
use Rattle.cf_model_laws.proofs.Guarded.{AreSeenBelow, Guarded, IsRecordBy, KeepsBelow, KeepsCursor, KeepsEarly, KeepsPlaced, StandsStill}
use Rattle.cf_model_laws.proofs.Leading.{Leads, kept_leads, leads_bind, leads_mapped}
use Rattle.cf_model_laws.proofs.Plainly.{After, change_after, keeps_led}
use Rattle.cf_model_laws.proofs.RightItems.{no_way}
use Rattle.cf_model_laws.proofs.SoundChanges.{KeepsEntries}
use Rattle.cf_model_laws.proofs.SoundFilters.{change_leads}
use Rattle.cf_model_laws.proofs.SoundSettles.{each_found, found_below, left_true, not_true, right_true}
use Rattle.cf_base.specs.declared.messages.Reply.{Reply}
use Rattle.cf_base.specs.declared.messages.Reply.TheVariants as reply

-- What a record does: it leaves the paths seen, the cursor and the tombstones, or the path of an entry that is known comes to be seen.
abbrev pub IsStepBy : (Entry → Type 0) → (Book → Book) → State → Type 0
IsStepBy On f s = (((b : Book) → (f b).seen ≡ b.seen) × KeepsCursor f × ((b : Book) → (f b).tombstones ≡ b.tombstones)) ⊎ ((p : SeenPath) × ((b : Book) → f b ≡ with_seen p b) × (IsFair s.link → IsSeenBy On (items_now s) p))

-- The change fits, and takes the targets of known entries alone.
abbrev pub FitsAnd : (Entry → Type 0) → Change → State → Type 0
FitsAnd On c s = IsFair s.link → Fits s.link.remote s.filter c × LosesOn On (items_now s) c

-- What these steps need, where so much is known of entries: some changes, records that leave the uploads, and lines of what is left out.
pub record Skipping (On : Entry → Type 0) (Ok : Change → Type 0) (P : State → Type 0) : Type 0 where
  pub sound : (s : State) → P s → IsFair s.link → IsSound s.link s.volatile.tokens s.filter
  pub change : (c : Change) (s : State) → Ok c → ((id : ItemId) → Touches c id → ⊥) → FitsAnd On c s → P s → Keeps P (do_change c s)
  pub books : (f : Book → Book) (s : State) → KeepsEntries f → (IsFair s.link → KeepsPlaced f s × KeepsBelow f s × KeepsEarly f s) → IsStepBy On f s → P s → P (with_book f s)
  pub skips : (c : Code) (s : State) → P s → P (skipped c s)

abbrev pub Whichever : Change → Type 0
Whichever c = Unit {0}

step_cursor : (On : Entry → Type 0) (f : Book → Book) (s : State) → IsStepBy On f s → KeepsCursor f
step_cursor On f s (inl h) = h.1
step_cursor On f s (inr h) = λ b. ap (λ (d : Book). d.cursor) (h.1 b)

-- beside a frame that these changes keep
pub record Framing (Ok : Change → Type 0) (F : State → Type 0) : Type 0 where
  pub change : (c : Change) (s : State) → Ok c → (IsFair s.link → Fits s.link.remote s.filter c) → F s → Keeps F (do_change c s)
  pub books : (f : Book → Book) (s : State) → KeepsEntries f → KeepsCursor f → F s → F (with_book f s)
  pub skips : (c : Code) (s : State) → F s → F (skipped c s)

pub keeps_both : {S A : Type 0} (P Q : S → Type 0) (p : Tree S A) → Keeps P p → Keeps Q p → Keeps (λ s. P s × Q s) p
keeps_both P Q (Ret a s) h k = (h, k)
keeps_both P Q (Step s p) h k = ((h.0, k.0), keeps_both P Q p h.1 k.1)
keeps_both P Q (Fork p q) h k = (keeps_both P Q p h.0 k.0, keeps_both P Q q h.1 k.1)
keeps_both P Q (Asked g) h k = λ x. keeps_both P Q (g x) (h x) (k x)

-- a change that gives no item a target
abbrev pub Unnamed : Change → Type 0
Unnamed c = IsNamedBy Nothing Nothing c

of_nothing : (On : Entry → Type 0) (e : Entry) → Nothing e → On e
of_nothing On e z = absurd z

record_by : (P : State → Type 0) (On : Entry → Type 0) (f : Book → Book) (s : State) → ((e : Entry) → On e → Since P s.link true (book_now s).cursor e) → IsFair s.link → IsStepBy On f s → IsRecordBy P f s
record_by P On f s known fair (inl h) = inl (h.0, h.1, inl h.2)
record_by P On f s known fair (inr h) = let k : IsSeenBy On (items_now s) h.0 = h.2 fair in inr (inl (h.0, h.1, (k.0, known k.0 k.1, k.2, k.3, k.4)))

-- an entry of a feed or of a Done
mentioned : (s : State) (r : Reply) (e : Entry) → Mentions true s r e → Mentions false s r e
mentioned s (reply.Feed round clock es) e h = h
mentioned s (reply.Listing key es) e h = no_way (sym h.0)
mentioned s (reply.Bytes key start bytes) e h = absurd h
mentioned s (reply.Missing key) e h = absurd h
mentioned s (reply.Done token rid version) e h = h
mentioned s (reply.Void token) e h = absurd h
mentioned s (reply.Refused token w version) e h = absurd h
mentioned s (reply.Gone key) e h = absurd h

sooner : (P : State → Type 0) (l : Link) (n : ℕ) (e : Entry) → Since P l true n e → Since P l false n e
sooner P l n e h = let k : Heard true h.0 e = h.2 in (h.0, h.1, (k.0, k.1, k.2, k.3, k.4, k.5, mentioned h.0 k.2 e k.6), h.3, h.4)

-- a change that names what was told
pub change_by : (P : State → Type 0) → Guarded P → (c : Change) (s : State) → IsNamedBy (Since P s.link true (book_now s).cursor) (Since P s.link false (book_now s).cursor) c → ((id : ItemId) → Touches c id → ⊥)
    → (IsFair s.link → Fits s.link.remote s.filter c × LosesBy (Known P s) (book_now s).cursor (items_now s) c) → P s → Keeps P (do_change c s)
change_by P closed c s named free fit h = keeps_mapped (λ x. P (with_filter x s)) P (λ x. with_filter x s) (put c s.filter) (λ x j. j)
    ((closed.on_filter s h).change same_book c s.filter (λ b. refl) (λ fair. ((λ z b. refl), (λ k. k), λ b. refl)) free (λ fair. (fit fair).0) (λ fair. (named, inl (λ b. refl), (fit fair).1, λ b. refl)) h)

-- what is known of entries was told before, and the link and the cursor are as they were
pub heard_skipping : (P F : State → Type 0) (On : Entry → Type 0) → Guarded P → Framing Whichever F → ((s : State) → P s → F s → (e : Entry) → On e → Since P s.link true (book_now s).cursor e) → ((s : State) → F s → s.volatile.round_open ≡ false) → Skipping On (IsNamedBy On On) (λ s. P s × F s)
heard_skipping P F On closed frame known shut = record {
  sound = λ s h. (closed.on_filter s h.0).sound s.filter h.0;
  change = λ c s ok free fit h. keeps_both P F (do_change c s)
      (change_by P closed c s (named_weaker (Since P s.link true (book_now s).cursor) On (Since P s.link false (book_now s).cursor) On (known s h.0 h.1) (λ e on. sooner P s.link (book_now s).cursor e (known s h.0 h.1 e on)) c ok) free
      (λ fair. let k = fit fair in (k.0, inr (shut s h.1, inl (loses_weaker (Since P s.link true (book_now s).cursor) On (known s h.0 h.1) (items_now s) c k.1)))) h.0)
      (frame.change c s tt (λ fair. (fit fair).0) h.1);
  books = λ f s keeps placed step h. (closed.books f s keeps placed (λ fair. record_by P On f s (known s h.0 h.1) fair step) h.0, frame.books f s keeps (step_cursor On f s step) h.1);
  skips = λ c s h. (closed.keeps_skipped c s h.0, frame.skips c s h.1);
}

pub guarded_skipping : (P : State → Type 0) → Guarded P → Skipping Nothing Unnamed P
guarded_skipping P closed = record {
  sound = λ s h. (closed.on_filter s h).sound s.filter h;
  change = λ c s ok free fit h. change_by P closed c s (named_weaker (Since P s.link true (book_now s).cursor) Nothing (Since P s.link false (book_now s).cursor) Nothing (of_nothing (Since P s.link true (book_now s).cursor)) (of_nothing (Since P s.link false (book_now s).cursor)) c ok) free (λ fair. let k = fit fair in (k.0, inl k.1)) h;
  books = λ f s keeps placed step h. closed.books f s keeps placed (λ fair. record_by P Nothing f s (of_nothing (Since P s.link true (book_now s).cursor)) fair step) h;
  skips = λ c s h. closed.keeps_skipped c s h;
}

pub keeps_first : {S A : Type 0} (P Q : S → Type 0) (p : Tree S A) → Keeps (λ s. P s × Q s) p → Keeps P p
keeps_first P Q (Ret a s) h = h.0
keeps_first P Q (Step s p) h = (h.0.0, keeps_first P Q p h.1)
keeps_first P Q (Fork p q) h = (keeps_first P Q p h.0, keeps_first P Q q h.1)
keeps_first P Q (Asked g) h = λ x. keeps_first P Q (g x) (h x)

-- what is kept of the first part is more
pub keeps_into : {S A B : Type 0} (P Q : S → Type 0) → ((s : S) → Q s → P s) → (p : Tree S A) (g : A → S → Tree S B) → Keeps Q p → ((a : A) (s : S) → Q s → Keeps P (g a s)) → Keeps P (bind p g)
keeps_into P Q less (Ret a s) g h k = k a s h
keeps_into P Q less (Step s p) g h k = (less s h.0, keeps_into P Q less p g h.1 k)
keeps_into P Q less (Fork p q) g h k = (keeps_into P Q less p g h.0 k, keeps_into P Q less q g h.1 k)
keeps_into P Q less (Asked f) g h k = λ x. keeps_into P Q less (f x) g (h x) k

pub framed : {On : Entry → Type 0} (Ok : Change → Type 0) (P F : State → Type 0) → Skipping On Ok P → Framing Ok F → Skipping On Ok (λ s. P s × F s)
framed Ok P F closed frame = record {
  sound = λ s h fair. closed.sound s h.0 fair;
  change = λ c s ok free fit h. keeps_both P F (do_change c s) (closed.change c s ok free fit h.0) (frame.change c s ok (λ fair. (fit fair).0) h.1);
  books = λ f s keeps placed step h. (closed.books f s keeps placed step h.0, frame.books f s keeps (step_cursor _ f s step) h.1);
  skips = λ c s h. (closed.skips c s h.0, frame.skips c s h.1);
}

pub fewer_changes : {On : Entry → Type 0} (P : State → Type 0) (More Ok : Change → Type 0) → ((c : Change) → Ok c → More c) → Skipping On More P → Skipping On Ok P
fewer_changes P More Ok less closed = record { sound = closed.sound; change = λ c s ok free fit h. closed.change c s (less c ok) free fit h; books = closed.books; skips = closed.skips }

pub both_frames : (F G : State → Type 0) → Framing Whichever F → Framing Whichever G → Framing Whichever (λ s. F s × G s)
both_frames F G f g = record {
  change = λ c s ok fit h. keeps_both F G (do_change c s) (f.change c s tt fit h.0) (g.change c s tt fit h.1);
  books = λ b s keeps cursor h. (f.books b s keeps cursor h.0, g.books b s keeps cursor h.1);
  skips = λ c s h. (f.skips c s h.0, g.skips c s h.1);
}

pub any_frame : (Ok : Change → Type 0) (F : State → Type 0) → Framing Whichever F → Framing Ok F
any_frame Ok F frame = record { change = λ c s ok fit h. frame.change c s tt fit h; books = frame.books; skips = frame.skips }

-- a frame of the items
pub item_frame : (Ok : Change → Type 0) (G : List Item → ℕ → Type 0)
    → ((s : State) (c : Change) (n : Usn) → Ok c → Fits s.link.remote s.filter c → G (items_now s) s.filter.volume.next_item.0 → G (effect (items_now s) c n) (max s.filter.volume.next_item.0 (next_by c)))
    → Framing Ok (λ s. IsFair s.link → G (items_now s) s.filter.volume.next_item.0)
item_frame Ok G k = record {
  change = λ c s ok fit g.
      keeps_mapped (λ x. IsFair s.link → G x.volume.items x.volume.next_item.0) (λ t. IsFair t.link → G (items_now t) t.filter.volume.next_item.0) (λ x. with_filter x s) (put c s.filter) (λ x j. j)
      (kept_leads (λ x. IsFair s.link → G x.volume.items x.volume.next_item.0) (put c s.filter)
      (change_leads (λ x. IsFair s.link → G x.volume.items x.volume.next_item.0) (λ x. IsFair s.link → G x.volume.items x.volume.next_item.0) same_book c s.filter g g g
      (λ v is fair. by s c v is ok (fit fair) (g fair))));
  books = λ f s keeps cursor g. g;
  skips = λ c s g. lines c s g;
}
  where
    by : (s : State) (c : Change) (v : Volume) → (v ≡ s.filter.volume) ⊎ (v ≡ with_room_point s.filter.volume) → Ok c → Fits s.link.remote s.filter c → G (items_now s) s.filter.volume.next_item.0
        → G (effect v.items c (next_number v)) (max v.next_item.0 (next_by c))
    by s c v (inl e) ok fit g = subst (λ (w : Volume). G (effect w.items c (next_number w)) (max w.next_item.0 (next_by c))) (sym e) (k s c (next_number s.filter.volume) ok fit g)
    by s c v (inr e) ok fit g = subst (λ (w : Volume). G (effect w.items c (next_number w)) (max w.next_item.0 (next_by c))) (sym e) (k s c (next_number s.filter.volume) ok fit g)

    lines : (c : Code) (s : State) → (IsFair s.link → G (items_now s) s.filter.volume.next_item.0) → IsFair (skipped c s).link → G (items_now (skipped c s)) (skipped c s).filter.volume.next_item.0
    lines c s g = line s.running.shows_skips where
      line : (b : Bool) → IsFair (skip_line b c (record s { running = record s.running { skips = s.running.skips + 1 } })).link
          → G (items_now (skip_line b c (record s { running = record s.running { skips = s.running.skips + 1 } }))) (skip_line b c (record s { running = record s.running { skips = s.running.skips + 1 } })).filter.volume.next_item.0
      line true = g
      line false = g

-- a step is left out, or done

pub skip_keeps : {On : Entry → Type 0} (Ok : Change → Type 0) (P : State → Type 0) → Skipping On Ok P → (c : Code) → Preserves P (skip c)
skip_keeps Ok P closed c = keeps_noted P (skipped c) (closed.skips c)

left_out_keeps : {On : Entry → Type 0} (Ok : Change → Type 0) (P : State → Type 0) → Skipping On Ok P → (o : Option Code) → Preserves P (left_out o)
left_out_keeps Ok P closed None = keeps_ret P true
left_out_keeps Ok P closed (Some c) = keeps_seq P (skip c) not_done (skip_keeps Ok P closed c) (λ u. keeps_ret P false)

pub tried_at : {On : Entry → Type 0} (Ok : Change → Type 0) (P : State → Type 0) → Skipping On Ok P → (why : State → Option Code) (f : Arrow State (Unit {0})) (s : State) → P s → Keeps P (f s) → Keeps P (tried why f s)
tried_at Ok P closed why f s h k = by (why s) where
  by : (o : Option Code) → Keeps P (bind (unless_done f o s) left_out)
  by None = keeps_bind P (bind (f s) (λ _ t. Ret None t)) left_out (keeps_bind P (f s) (λ _ t. Ret None t) k (λ a t j. j)) (λ o t j. (left_out_keeps Ok P closed o).keeps t j)
  by (Some c) = (left_out_keeps Ok P closed (Some c)).keeps s h

pub try_change_at : {On : Entry → Type 0} (Ok : Change → Type 0) (P : State → Type 0) → Skipping On Ok P → (c : Change) (s : State) → Ok c → ((id : ItemId) → Touches c id → ⊥) → FitsAnd On c s → P s → Keeps P (try_change c s)
try_change_at Ok P closed c s ok free fit h = tried_at Ok P closed (why_no_change c) (do_change c) s h (closed.change c s ok free fit h)

try_book_at : {On : Entry → Type 0} (Ok : Change → Type 0) (P : State → Type 0) → Skipping On Ok P → (f : Book → Book) (s : State) → KeepsEntries f → (IsFair s.link → KeepsPlaced f s × KeepsBelow f s × KeepsEarly f s) → IsStepBy On f s → P s → Keeps P (try_book f s)
try_book_at Ok P closed f s keeps placed step h = tried_at Ok P closed (why_no_record f) (in_book f) s h (h, closed.books f s keeps placed step h)

-- a book with the same paths seen
pub same_seen : (items : List Item) (b d : Book) (item : ItemId) → d.seen ≡ b.seen → StandsStill items b d item
same_seen items b d item e = (
  λ k. (k.0, k.1, subst (λ (ps : List SeenPath). says (stands_at_path items k.0) (seen_of (record d { seen = ps }) k.0.id) ≡ true) (sym e) k.2),
  λ k. inr (subst (λ (ps : List SeenPath). seen_of (record d { seen = ps }) item ≡ None) (sym e) k),
)

-- a cursor that stays
pub cursor_stays : (f : Book → Book) (s : State) → KeepsCursor f → KeepsEarly f s
cursor_stays f s keeps = inl (same (f (book_now s)).cursor (book_now s).cursor (keeps (book_now s))) where
  same : (a b : ℕ) → a ≡ b → a ≤ b
  same a b e = omega (arith, e)

pub leaves_seen : (f : Book → Book) (s : State) → ((b : Book) → (f b).seen ≡ b.seen) → KeepsPlaced f s × KeepsBelow f s
leaves_seen f s seen = (
  λ item m. same_seen (items_now s) (book_now s) (f (book_now s)) item (seen (book_now s)),
  λ h. subst (All (λ p. p.item.0 < s.filter.volume.next_item.0)) (sym (seen (book_now s))) h,
)

-- and a cursor that is no later than it was, or than the remote
pub leaves_early : (f : Book → Book) (s : State) → ((b : Book) → (f b).seen ≡ b.seen) → KeepsEarly f s → KeepsPlaced f s × KeepsBelow f s × KeepsEarly f s
leaves_early f s seen early = ((leaves_seen f s seen).0, (leaves_seen f s seen).1, early)

-- what a change that was done leaves
pub record Led (c : Change) (s t : State) : Type 0 where
  pub after : After same_book c s.filter t.filter
  pub link : t.link ≡ s.link
  pub running : t.running ≡ s.running
  pub volatile : t.volatile ≡ s.volatile

abbrev pub Any : {S : Type 0} → S → Type 0
Any s = Unit {0}

pub do_led : (c : Change) (s : State) → Leads Any (λ u t. Led c s t) (do_change c s)
do_led c s = leads_mapped Any (λ u x. After same_book c s.filter x) Any (λ u t. Led c s t) (λ x. with_filter x s) (put c s.filter) (λ x k. tt) (λ u x k. record { after = k; link = refl; running = refl; volatile = refl }) (change_after same_book c s.filter)

pub try_led : (c : Change) (s : State) → Leads Any (λ done t. done ≡ true → Led c s t) (try_change c s)
try_led c s = by (why_no_change c s) where
  never : {A : Type 0} → false ≡ true → A
  never z = no_way z

  by : (o : Option Code) → Leads Any (λ done t. done ≡ true → Led c s t) (bind (unless_done (do_change c) o s) left_out)
  by None = leads_bind Any (λ o t. (o ≡ None) × Led c s t) (λ done t. done ≡ true → Led c s t) (bind (do_change c s) (λ _ t. Ret None t)) left_out
      (leads_bind Any (λ u t. Led c s t) (λ o t. (o ≡ None) × Led c s t) (do_change c s) (λ _ t. Ret None t) (do_led c s) (λ u t k. (refl, k)))
      (λ o t k. subst (λ (q : Option Code). Leads Any (λ done u. done ≡ true → Led c s u) (left_out q t)) (sym k.0) (λ _. k.1))
  by (Some d) = never

-- what is kept, and what is known where it was done
pub and_then_led : (P Q : State → Type 0) (f g : Arrow State Bool) (s : State) → Keeps P (f s) → Leads Any (λ done t. done ≡ true → Q t) (f s) → ((t : State) → P t → Q t → Keeps P (g t)) → Keeps P (and_then f g s)
and_then_led P Q f g s h l k = keeps_led P (λ done t. done ≡ true → Q t) (f s) (λ done t. when_ok false g done t) h l (λ done t j q. by done t j q) where
  by : (done : Bool) (t : State) → P t → (done ≡ true → Q t) → Keeps P (when_ok false g done t)
  by true t j q = k t j (q refl)
  by false t j q = j

-- a change, and then what follows where it was done
pub and_then_at : {On : Entry → Type 0} (Ok : Change → Type 0) (P : State → Type 0) → Skipping On Ok P → (c : Change) (g : Arrow State Bool) (s : State) → Ok c → ((id : ItemId) → Touches c id → ⊥) → FitsAnd On c s → P s
    → ((t : State) → P t → Led c s t → Keeps P (g t)) → Keeps P (and_then (try_change c) g s)
and_then_at Ok P closed c g s ok free fit h k = and_then_led P (Led c s) (try_change c) g s (try_change_at Ok P closed c s ok free fit h) (try_led c s) k

pub and_then_keeps : (P : State → Type 0) (f g : Arrow State Bool) (s : State) → Keeps P (f s) → ((t : State) → P t → Keeps P (g t)) → Keeps P (and_then f g s)
and_then_keeps P f g s h k = keeps_bind P (f s) (when_ok false g) h (λ done t j. by done t j) where
  by : (done : Bool) (t : State) → P t → Keeps P (when_ok false g done t)
  by true t j = k t j
  by false t j = j

pub only_if_at : (P : State → Type 0) (b : Bool) (f : Arrow State Bool) (s : State) → P s → (b ≡ true → Keeps P (f s)) → Keeps P (only_if b f s)
only_if_at P true f s h k = k refl
only_if_at P false f s h k = h

-- records

pub seen_below : (n : ℕ) (p : SeenPath) (b : Book) → p.item.0 < n → AreSeenBelow n b → AreSeenBelow n (with_seen p b)
seen_below n p b low h = all_put_in (λ q. q.item.0 < n) (λ x y. nat_lt x.item.0 y.item.0) p (without_seen p.item b.seen) low (all_filter (λ q. q.item.0 < n) (λ q. not (q.item.0 == p.item.0)) b.seen h)

pub try_seen_at : {On : Entry → Type 0} (Ok : Change → Type 0) (P : State → Type 0) → Skipping On Ok P → (p : SeenPath) (s : State) → (IsFair s.link → KeepsPlaced (with_seen p) s) → (IsFair s.link → IsSeenBy On (items_now s) p) → P s → Keeps P (try_seen p s)
try_seen_at Ok P closed p s placed told h =
    only_if_at P (is_there p.item s) (try_book (with_seen p)) s h (λ q. try_book_at Ok P closed (with_seen p) s (λ b. refl) (λ fair. (placed fair, (λ k. seen_below s.filter.volume.next_item.0 p (book_now s) (low (closed.sound s h fair).now.order q) k), cursor_stays (with_seen p) s (λ b. refl))) (inr (p, (λ b. refl), told)) h) where
      low : InOrder 0 s.filter.volume.next_item.0 (items_now s) → is_some (item_of (items_now s) p.item) ≡ true → p.item.0 < s.filter.volume.next_item.0
      low order q = by (item_of (items_now s) p.item) refl q where
        by : (o : Option Item) → item_of (items_now s) p.item ≡ o → is_some o ≡ true → p.item.0 < s.filter.volume.next_item.0
        by None f z = no_way z
        by (Some i) f z = found_below p.item 0 s.filter.volume.next_item.0 (items_now s) i order f

-- marks

not_dirty : (ws : List Written) → not (not (is_empty ws)) ≡ true → ws ≡ []
not_dirty [] e = refl
not_dirty (w ∷ ws) e = no_way e

numbers_agree : (i : Item) (n : Usn) → same_usn i.number n ≡ true → n ≡ i.number
numbers_agree i n e = λ k. record { epoch = sym (eqb-true i.number.epoch n.epoch (left_true (i.number.epoch == n.epoch) (i.number.place == n.place) e)) k; place = sym (eqb-true i.number.place n.place (right_true (i.number.epoch == n.epoch) (i.number.place == n.place) e)) k }

abbrev IsUnmarked : Usn → Item → Type 0
IsUnmarked n i = (i.writes ≡ []) × (n ≡ i.number) × (is_untargeted i ≡ false)

-- no Move of an item that is there is on its way
abbrev pub IsUnmoved : ItemId → State → Type 0
IsUnmoved item s = (i : Item) → item_of (items_now s) item ≡ Some i → NoMove (book_now s).entries item

pub no_move : (es : List QueueEntry) (item : ItemId) → NoEntry es item → NoMove es item
no_move es item h = all_weaker (λ e. e.item.0 ≡ item.0 → ⊥) (λ e. e.action ≡ MoveItem → e.item.0 ≡ item.0 → ⊥) (λ e k _. k) es h

mark_fits : {On : Entry → Type 0} (Ok : Change → Type 0) (P : State → Type 0) → Skipping On Ok P → (item : ItemId) (n : Usn) (s : State) → P s → (IsFair s.link → IsUnmoved item s) → is_markable item n s ≡ true → IsFair s.link → Fits s.link.remote s.filter (change.Mark item n)
mark_fits Ok P closed item n s h unmoved e fair = by (item_of (items_now s) item) refl e where
  by : (o : Option Item) → item_of (items_now s) item ≡ o → says (may_mark (items_now s) (book_now s) n) o ≡ true → Fits s.link.remote s.filter (change.Mark item n)
  by None q m = no_way m
  by (Some i) q m =
      let a : (same_usn i.number n && not i.in_sync && not (is_dirty i) && not (is_untargeted i)) ≡ true = left_true (same_usn i.number n && not i.in_sync && not (is_dirty i) && not (is_untargeted i)) (stands_at_seen (items_now s) (book_now s) i) m in
      let b : (same_usn i.number n && not i.in_sync && not (is_dirty i)) ≡ true = left_true (same_usn i.number n && not i.in_sync && not (is_dirty i)) (not (is_untargeted i)) a in
      let c : not (is_dirty i) ≡ true = right_true (same_usn i.number n && not i.in_sync) (not (is_dirty i)) b in
      let d : same_usn i.number n ≡ true = left_true (same_usn i.number n) (not i.in_sync) (left_true (same_usn i.number n && not i.in_sync) (not (is_dirty i)) b) in
      let f : stands_at_seen (items_now s) (book_now s) i ≡ true = right_true (same_usn i.number n && not i.in_sync && not (is_dirty i) && not (is_untargeted i)) (stands_at_seen (items_now s) (book_now s) i) m in (
        each_found item (IsUnmarked n) 0 s.filter.volume.next_item.0 (items_now s) i (closed.sound s h fair).now.order q (not_dirty i.writes c, numbers_agree i n d, not_true (is_untargeted i) (right_true (same_usn i.number n && not i.in_sync && not (is_dirty i)) (not (is_untargeted i)) a)),
        inl ((i, q, f), unmoved fair i q),
      )

pub try_mark_at : {On : Entry → Type 0} (Ok : Change → Type 0) (P : State → Type 0) → Skipping On Ok P → (item : ItemId) (n : Usn) (s : State) → Ok (change.Mark item n) → (IsFair s.link → IsUnmoved item s) → P s → Keeps P (try_mark item n s)
try_mark_at Ok P closed item n s ok unmoved h =
    only_if_at P (is_markable item n s) (try_change (change.Mark item n)) s h (λ e. try_change_at Ok P closed (change.Mark item n) s ok (λ id k. k) (λ fair. (mark_fits Ok P closed item n s h unmoved e fair, tt)) h)

pub try_mark_now_at : {On : Entry → Type 0} (Ok : Change → Type 0) (P : State → Type 0) → Skipping On Ok P → (item : ItemId) (s : State) → ((n : Usn) → Ok (change.Mark item n)) → (IsFair s.link → IsUnmoved item s) → P s → Keeps P (try_mark_now item s)
try_mark_now_at Ok P closed item s ok unmoved h = try_mark_at Ok P closed item (number_of_item item s) s (ok (number_of_item item s)) unmoved h

-- moves

-- where an item stays in its directory, or comes to stand in another that is here
pub move_at : {On : Entry → Type 0} (Ok : Change → Type 0) (P : State → Type 0) → Skipping On Ok P → ((item parent : ItemId) (name : List ℕ) → Ok (change.Move item parent name)) → (item parent : ItemId) (name : List ℕ) (s : State)
    → (IsFair s.link → Stands s.filter (change.Move item parent name)) → P s → Keeps P (try_change (change.Move item parent name) s)
move_at Ok P closed ok item parent name s stands h = try_change_at Ok P closed (change.Move item parent name) s (ok item parent name) (λ id k. k) (λ fair. (stands fair, tt)) h

-- an item that is found has one parent
stays_in : {On : Entry → Type 0} (Ok : Change → Type 0) (P : State → Type 0) → Skipping On Ok P → (i : Item) (name : List ℕ) (s : State) → (IsFair s.link → item_of (items_now s) i.id ≡ Some i) → P s → IsFair s.link → Stands s.filter (change.Move i.id i.parent name)
stays_in Ok P closed i name s there h fair = inl (each_found i.id (λ j. j.parent.0 ≡ i.parent.0) 0 s.filter.volume.next_item.0 (items_now s) i (closed.sound s h fair).now.order (there fair) refl)

pub to_conflict_at : {On : Entry → Type 0} (Ok : Change → Type 0) (P : State → Type 0) → Skipping On Ok P → ((item parent : ItemId) (name : List ℕ) → Ok (change.Move item parent name)) → (i : Item) (s : State) → (IsFair s.link → item_of (items_now s) i.id ≡ Some i) → P s
    → Keeps P (to_conflict i s)
to_conflict_at Ok P closed ok i s there h = move_at Ok P closed ok i.id i.parent (conflict_name (items_now s) i.parent i.name) s (stays_in Ok P closed i (conflict_name (items_now s) i.parent i.name) s there h) h

pub try_clear_name_keeps : {On : Entry → Type 0} (Ok : Change → Type 0) (P : State → Type 0) → Skipping On Ok P → ((item parent : ItemId) (name : List ℕ) → Ok (change.Move item parent name)) → (parent : ItemId) (name : List ℕ) (but : ItemId) → Preserves P (try_clear_name parent name but)
try_clear_name_keeps Ok P closed ok parent name but = record { keeps = λ s h. by s h (child_of (items_now s) parent name) refl } where
  other : (s : State) → P s → (i : Item) → child_of (items_now s) parent name ≡ Some i → (b : Bool) → Keeps P (move_off (elim b as (λ _. Option Item) [ true ↦ None | false ↦ Some i ]) s)
  other s h i e true = h
  other s h i e false = to_conflict_at Ok P closed ok i s (λ fair. found_again (is_child_named parent name) 0 s.filter.volume.next_item.0 (items_now s) i (closed.sound s h fair).now.order e) h

  by : (s : State) → P s → (o : Option Item) → child_of (items_now s) parent name ≡ o → Keeps P (move_off (part (if_other but) None o) s)
  by s h None e = h
  by s h (Some i) e = other s h i e (i.id.0 == but.0)
