-- The steps that keep what is known of the remote, each as a fact of the remote, the items and the book.
use Rattle.std.proofs.Common.{◌≡◌, ◌<◌, ◌≤◌, ℕ, true, false, List, [], ◌∷◌, refl, sym, ◌∙◌, ap, subst, inl, inr, arith}
use Rattle.std.specs.Prelude.{Option, Some, None, not}
use Rattle.cf_base.specs.declared.changes.Change.{Change}
use Rattle.cf_base.specs.declared.changes.Change.TheVariants as change
use Rattle.cf_base.specs.declared.ids.ItemId.{ItemId}
use Rattle.cf_base.specs.declared.ids.Rid.{Rid}
use Rattle.cf_base.specs.declared.ids.Token.{Token}
use Rattle.cf_base.specs.declared.ids.Usn.{Usn}
use Rattle.cf_base.specs.declared.ids.Version.{Version}
use Rattle.cf_base.specs.declared.items.SeenPath.{SeenPath}
use Rattle.cf_base.specs.declared.messages.Entry.{Entry}
use Rattle.cf_base.specs.declared.messages.Request.{Request}
use Rattle.cf_base.specs.declared.notices.Frame.{Frame}
use Rattle.cf_model.specs.Books.{Book, QueueEntry, book_after, seen_of, with_cursor, with_entry, with_seen, without_entry}
use Rattle.cf_model.specs.Effects.{effect}
use Rattle.cf_model.specs.Fetching.{with_seen_from}
use Rattle.cf_model.specs.Growth.{IsCounted}
use Rattle.cf_model.specs.Identities.{target_of}
use Rattle.cf_model.specs.Items.{Item}
use Rattle.cf_model.specs.Numbers.{same_key}
use Rattle.cf_model.specs.Soundness.{Each}
use Rattle.cf_model.specs.State.{Filter}
use Rattle.cf_model.specs.Store.{Held, Recorded, RecordedDone, recorded_at, remote_step}
use Rattle.cf_model.proofs.StoreLaws.{step_extends}
use Rattle.cf_model_laws.specs.Fitting.{Fits}
use Rattle.cf_model_laws.specs.Invariant.{All, Asks, IsAimed, IsAskedFor, IsEntryOf, IsRight, OfRequest, target_in}
use Rattle.cf_model_laws.specs.Taken.{IsNamedBy, SeesBy}
use Rattle.cf_model_laws.proofs.Gathered.{all_append, all_both, all_filter, all_weaker}
use Rattle.cf_model_laws.proofs.Guarded.{AreSeenBelow, KeepsCursor}
use Rattle.cf_model_laws.proofs.MadeUploads.{NoRecord}
use Rattle.cf_model_laws.proofs.SoundChanges.{KeepsEntries, same_cursor, same_entries}
use Rattle.cf_model_convergence.specs.Passed.{ArePassedRight, AreTargetsLower, IsPassedRight}
use Rattle.cf_model_convergence.specs.Tidy.{IsTidy}
use Rattle.cf_model_convergence.proofs.PassedSteps.{asked_right, effect_right, reset_right, seen_right}
use Rattle.cf_model_agreement.specs.Known.{AreDoneLate, AreKnown}
use Rattle.cf_model_agreement.specs.Messages.{IsLate}
use Rattle.cf_model_agreement.proofs.EntriesHeard.{IsEntryRight}
use Rattle.cf_model_agreement.proofs.FeedsRight.{late_later}
use Rattle.cf_model_agreement.proofs.KnownSteps.{after_fewer, late_item, listed_right, named_right, passed_fewer, target_below}
use Rattle.cf_model_agreement.proofs.RecordedLate.{recorded_late}

-- the target of an item that is right is not the remote's root
pub lower_of : (r : Held) (n : Usn) (items : List Item) → All (IsRight r n) items → AreTargetsLower items
lower_of r n items h = all_weaker (IsRight r n) (λ i. (i.id.0 ≡ 1 → ⊥) → (target_of i).0 ≡ 1 → ⊥) (λ i k below t. by i (sym (ap (λ (x : Rid). x.0) (target_below i.id.0 (target_in i.identity) below)) ∙ t) k.aimed) items h where
  zero_one : (n : ℕ) → n ≡ 0 → n ≡ 1 → ⊥
  zero_one n g k = omega (arith, g, k)

  by : (i : Item) → (target_in i.identity).0 ≡ 1 → IsAimed r i.directory i.identity → ⊥
  by i t (inl z) = zero_one (target_in i.identity).0 z t
  by i t (inr z) = z.2 t

-- uploads on their way

-- with the same cursor, and no upload more
pub done_fewer : (r : Held) (items is : List Item) (b d : Book) → d.cursor ≡ b.cursor → d.entries ≡ b.entries → AreDoneLate r items b → AreDoneLate r is d
done_fewer r items is b d cursor entries h =
    subst (λ (n : ℕ). All (λ e. (rid : Rid) (version : Version) → recorded_at r.tokens e.token ≡ Some (RecordedDone rid version) → IsLate r n rid) d.entries) (sym cursor)
    (subst (λ (es : List QueueEntry). All (λ e. (rid : Rid) (version : Version) → recorded_at r.tokens e.token ≡ Some (RecordedDone rid version) → IsLate r b.cursor rid) es) (sym entries) h)

-- with the same paths seen and the same cursor
pub passed_same : (r : Held) (items : List Item) (b d : Book) → d.cursor ≡ b.cursor → d.seen ≡ b.seen → ArePassedRight r items b → ArePassedRight r items d
passed_same r items b d cursor seen h = passed_fewer r b d items cursor (λ id p f. subst (λ (ps : List SeenPath). seen_of (record d { seen = ps }) id ≡ Some p) seen f) h

-- a change
pub change_known : (r : Held) (x : Filter) (f : Book → Book) (c : Change) (n : Usn) → IsCounted r → AreTargetsLower x.volume.items → AreSeenBelow x.volume.next_item.0 x.volume.book → KeepsEntries f → KeepsCursor f → Fits r x c
    → IsNamedBy (IsEntryRight r true x.volume.book.cursor) (IsEntryRight r false x.volume.book.cursor) c → SeesBy (IsEntryRight r false x.volume.book.cursor) x.volume.items f c → AreKnown r x.volume.items x.volume.book
    → AreKnown r (effect x.volume.items c n) (f (book_after c x.volume.book))
change_known r x f c n counted lower below keeps cursor fit named sees h = (by sees, done_fewer r x.volume.items (effect x.volume.items c n) b (f (book_after c b)) (cursor (book_after c b) ∙ same_cursor c b) (keeps (book_after c b) ∙ same_entries c b) h.1) where
  b : Book
  b = x.volume.book

  changed : ArePassedRight r (effect x.volume.items c n) (book_after c b)
  changed = passed_fewer r b (book_after c b) (effect x.volume.items c n) (same_cursor c b) (after_fewer c b) (effect_right r b x.volume.items c n counted (named_right r b counted x c n below fit named) h.0)

  by : SeesBy (IsEntryRight r false b.cursor) x.volume.items f c → ArePassedRight r (effect x.volume.items c n) (f (book_after c b))
  by (inl same) = passed_same r (effect x.volume.items c n) (book_after c b) (f (book_after c b)) (cursor (book_after c b)) (same (book_after c b)) changed
  by (inr (id, es, is, listed, parent, at)) =
      subst (λ (d : Change). ArePassedRight r (effect x.volume.items d n) (f (book_after d b))) (sym at)
      (subst (ArePassedRight r (effect x.volume.items (change.Populated parent) n)) (sym (is b))
      (effect_right r (with_seen_from id es b) x.volume.items (change.Populated parent) n counted tt (listed_right r b.cursor x.volume.items lower id es b refl listed h.0)))

-- a removal
pub removed_known : (r : Held) (items : List Item) (b : Book) (f : Book → Book) (item : ItemId) (n : Usn) → IsCounted r → KeepsEntries f → ((d : Book) → (f d).seen ≡ d.seen) → KeepsCursor f → AreKnown r items b → AreKnown r (effect items (change.Remove item) n) (f (book_after (change.Remove item) b))
removed_known r items b f item n counted keeps seen cursor h = (
  passed_same r (effect items c n) (book_after c b) (f (book_after c b)) (cursor (book_after c b)) (seen (book_after c b)) (passed_fewer r b (book_after c b) (effect items c n) (same_cursor c b) (after_fewer c b) (effect_right r b items c n counted tt h.0)),
  done_fewer r items (effect items c n) b (f (book_after c b)) (cursor (book_after c b) ∙ same_cursor c b) (keeps (book_after c b) ∙ same_entries c b) h.1,
) where
  c : Change
  c = change.Remove item

-- a path that an entry told comes to be seen
pub seen_known : (r : Held) (items : List Item) (b : Book) (p : SeenPath) (e : Entry) → IsEntryRight r true b.cursor e → Each p.item (λ i. (i.id.0 ≡ 1 → ⊥) → (target_of i).0 ≡ e.rid.0) items → IsCounted r → ArePassedRight r items b → ArePassedRight r items (with_seen p b)
seen_known r items b p e on target counted h = seen_right r b p items (each items target) h where
  each : (is : List Item) → Each p.item (λ i. (i.id.0 ≡ 1 → ⊥) → (target_of i).0 ≡ e.rid.0) is → Each p.item (IsPassedRight r (with_seen p b)) is
  each [] k = tt
  each (i ∷ is) k = ((λ q. late_item r (with_seen p b) counted i e on (k.0 q)), each is k.1)

-- the cursor goes back to 0
pub reset_known : (r : Held) (items : List Item) (b : Book) → IsTidy r → AreTargetsLower items → AreKnown r items b → AreKnown r items (with_cursor 0 b)
reset_known r items b tidy lower h = (reset_right r b items tidy lower, all_weaker _ (λ e. (rid : Rid) (version : Version) → recorded_at r.tokens e.token ≡ Some (RecordedDone rid version) → IsLate r 0 rid) (λ e k rid version recorded x found. least b.cursor x.changed (k rid version recorded x found)) b.entries h.1) where
  least : (a n : ℕ) → a < n → 0 < n
  least a n z = omega (arith, z)

-- an upload leaves, or is entered that the remote has not done
pub left_known : (r : Held) (items : List Item) (b : Book) (token : Token) → AreKnown r items b → AreKnown r items (without_entry token b)
left_known r items b token h = (passed_same r items b (without_entry token b) refl refl h.0, all_filter _ (λ e. not (same_key e.token.0 token.0)) b.entries h.1)

pub entered_known : (r : Held) (items : List Item) (b : Book) (e : QueueEntry) → NoRecord r e → AreKnown r items b → AreKnown r items (with_entry e b)
entered_known r items b e fresh h = (passed_same r items b (with_entry e b) refl refl h.0, all_append (λ d. (rid : Rid) (version : Version) → recorded_at r.tokens d.token ≡ Some (RecordedDone rid version) → IsLate r b.cursor rid) b.entries (e ∷ []) h.1 ((λ rid version recorded. absurd (fresh rid version recorded)), tt))

-- The remote is asked: what it does of an upload on its way it does now.
pub asked_known : (r : Held) (q : Request) (ms : List (Option Frame)) (epoch tokens next_item : ℕ) (next : Usn) (items : List Item) (b : Book) → IsCounted r → b.cursor ≤ r.clock → ((e : QueueEntry) → 1 ≤ e.token.0.epoch → All (OfRequest (Asks e)) ms → Asks e q)
    → All (IsEntryOf next next_item epoch tokens) b.entries → All (IsAskedFor r ms) b.entries → AreKnown r items b → AreKnown (remote_step r q).1 items b
asked_known r q ms epoch tokens next_item next items b counted early asks own asked h = (
  asked_right r q items b counted early h.0,
  all_both (λ e. IsEntryOf next next_item epoch tokens e × IsAskedFor r ms e) (λ e. (rid : Rid) (version : Version) → recorded_at r.tokens e.token ≡ Some (RecordedDone rid version) → IsLate r b.cursor rid)
      (λ e. (rid : Rid) (version : Version) → recorded_at After.tokens e.token ≡ Some (RecordedDone rid version) → IsLate After b.cursor rid) one b.entries
      (all_both (IsEntryOf next next_item epoch tokens) (IsAskedFor r ms) (λ e. IsEntryOf next next_item epoch tokens e × IsAskedFor r ms e) (λ e k w. (k, w)) b.entries own asked) h.1,
) where
  After : Held
  After = (remote_step r q).1

  later : (a c n : ℕ) → a ≤ c → c < n → a < n
  later a c n k w = omega (arith, k, w)

  same_done : {d c : Recorded} → ◌≡◌ {A = Option Recorded} (Some d) (Some c) → d ≡ c
  same_done e = cc

  one : (e : QueueEntry) → IsEntryOf next next_item epoch tokens e × IsAskedFor r ms e → ((rid : Rid) (version : Version) → recorded_at r.tokens e.token ≡ Some (RecordedDone rid version) → IsLate r b.cursor rid) → (rid : Rid) (version : Version)
      → recorded_at After.tokens e.token ≡ Some (RecordedDone rid version) → IsLate After b.cursor rid
  one e k late rid version did = by (recorded_at r.tokens e.token) refl where
    by : (o : Option Recorded) → recorded_at r.tokens e.token ≡ o → IsLate After b.cursor rid
    by None free = λ x found. later b.cursor r.clock x.changed early (recorded_late r q e rid version counted (asks e k.0.own k.1.sent) free did x found)
    by (Some d) f = late_later r q counted b.cursor rid early (late rid version (f ∙ ap (λ (c : Recorded). Some c) (same_done (sym ((step_extends r q).tokens e.token d f) ∙ did))))
