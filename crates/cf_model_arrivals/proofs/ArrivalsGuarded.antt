-- What the cursor has passed is here or was removed here, and feeds are seated, over the steps of the machine.
use Rattle.std.proofs.Common.{◌≡◌, ◌⊎◌, ◌<◌, ℕ, Bool, true, false, List, [], ◌∷◌, refl, sym, ◌∙◌, ap, subst, inl, inr}
use Rattle.std.specs.Prelude.{Option, Some, None, cond, not, ◌==◌}
use Rattle.std.specs.List.{list_any}
use Rattle.cf_base.specs.declared.changes.Change.{Change}
use Rattle.cf_base.specs.declared.changes.Change.TheVariants as change
use Rattle.cf_base.specs.declared.ids.ItemId.{ItemId}
use Rattle.cf_base.specs.declared.ids.Key.{Key}
use Rattle.cf_base.specs.declared.ids.Usn.{Usn}
use Rattle.cf_base.specs.declared.messages.Entry.{Entry}
use Rattle.cf_base.specs.declared.messages.Reply.TheVariants as reply
use Rattle.cf_base.specs.declared.notices.Frame.{Frame}
use Rattle.cf_base.specs.declared.notices.Frame.TheVariants as frame
use Rattle.cf_model.specs.Books.{Book, Tombstone, book_after, with_tombstone}
use Rattle.cf_model.specs.Calls.{tombstone_for}
use Rattle.cf_model.specs.Changes.{next_number, put_with_book}
use Rattle.cf_model.specs.Effects.{effect, without}
use Rattle.cf_model.specs.Identities.{base_version, target_of}
use Rattle.cf_model.specs.Items.{Item}
use Rattle.cf_model.specs.Numbers.{above, no_version, same_key}
use Rattle.cf_model.specs.PushReplies.{is_new_entry}
use Rattle.cf_model.specs.Soundness.{Each}
use Rattle.cf_model.specs.State.{Filter, Link, State, Volume, book_now, items_now}
use Rattle.cf_model.specs.Store.{Held, Stored, stored_at}
use Rattle.cf_model_laws.specs.Fitting.{Fits, IsLeaf}
use Rattle.cf_model_laws.specs.GivenOnce.{WasGiven}
use Rattle.cf_model_laws.specs.Invariant.{All, IsSound}
use Rattle.cf_model_laws.specs.Premises.{IsFair}
use Rattle.cf_model_laws.specs.Taken.{IsChangeBy, IsDoneBy, Known, LosesBy, Nothing, Since}
use Rattle.cf_model_laws.proofs.Gathered.{all_found, all_weaker}
use Rattle.cf_model_laws.proofs.Guarded.{Buries, KeepsCursor, KeepsSeenBy}
use Rattle.cf_model_laws.proofs.RightItems.{no_way}
use Rattle.cf_model_laws.proofs.SinceKept.{since_weaker}
use Rattle.cf_model_laws.proofs.SoundChanges.{same_cursor}
use Rattle.cf_model_laws.proofs.SoundSettles.{each_found, same_item}
use Rattle.cf_model_convergence.specs.Tidy.{IsTidy}
use Rattle.cf_model_convergence.proofs.FeedsTold.{among_filter}
use Rattle.cf_model_convergence.proofs.LastingGuarded.{put_lasts}
use Rattle.cf_model_agreement.proofs.CursorsRaised.{IsKnownIn}
use Rattle.cf_model_agreement.proofs.KnownGuarded.{entry_right}
use Rattle.cf_model_agreement.proofs.RunsTrue.{sound_of}
use Rattle.cf_model_populated.specs.Accounted.{AreAccountedFor, IsUnsaid, LosesUnsaid, buries_directory}
use Rattle.cf_model_populated.proofs.AccountedSteps.{buried_accounted, effect_accounted, put_first, put_none}
use Rattle.cf_model_arrivals.specs.Kept.{AreKept, IsKept}
use Rattle.cf_model_arrivals.specs.Seated.{AreSeated, HasArrived, IsSeatedIn}
use Rattle.cf_model_arrivals.proofs.AccountedChanges.{account_book, done_unsaid, loses_unsaid, none_among, none_said, same_tombstones}
use Rattle.cf_model_arrivals.proofs.FeedsArrive.{Standing}
use Rattle.cf_model_arrivals.proofs.KeptItems.{all_kept, each_among}
use Rattle.cf_model_arrivals.proofs.VolumesGuarded.{InVolume, IsRoomOf, Within}

-- seats of messages, beside others

abbrev pub SeatsOf : List Item → Book → ℕ → ℕ → Bool → Key → List Entry → Type 0
SeatsOf items b epoch n awaited k es = k ≡ record { epoch = epoch; number = n } → awaited ≡ true → buries_directory b ≡ false → AreSeated items es

pub seat_frame : (items is : List Item) (b d : Book) (e f n m : ℕ) (o p : Bool) → ((k : Key) → WasGiven e n k → WasGiven f m k) → ((k : Key) (es : List Entry) → WasGiven e n k → SeatsOf items b e n o k es → SeatsOf is d f m p k es) → (x : Option Frame) → IsSeatedIn items b e n o x → IsSeatedIn is d f m p x
seat_frame items is b d e f n m o p given seats (Some (frame.Request q)) h = tt
seat_frame items is b d e f n m o p given seats (Some (frame.Reply a (reply.Feed round clock es))) h = (given round.0 h.0, seats round.0 es h.0 h.1)
seat_frame items is b d e f n m o p given seats (Some (frame.Reply a (reply.Listing key es))) h = tt
seat_frame items is b d e f n m o p given seats (Some (frame.Reply a (reply.Bytes key start bytes))) h = tt
seat_frame items is b d e f n m o p given seats (Some (frame.Reply a (reply.Missing key))) h = tt
seat_frame items is b d e f n m o p given seats (Some (frame.Reply a (reply.Done token rid version))) h = tt
seat_frame items is b d e f n m o p given seats (Some (frame.Reply a (reply.Void token))) h = tt
seat_frame items is b d e f n m o p given seats (Some (frame.Reply a (reply.Refused token w version))) h = tt
seat_frame items is b d e f n m o p given seats (Some (frame.Reply a (reply.Gone key))) h = tt
seat_frame items is b d e f n m o p given seats None h = tt

-- with the same tombstones
pub buries_same : (b d : Book) → d.tombstones ≡ b.tombstones → buries_directory d ≡ false → buries_directory b ≡ false
buries_same b d same none = ap (λ (ts : List Tombstone). list_any (λ t. t.version.0 == 0) ts) (sym same) ∙ none

pub seats_same : (items : List Item) (b d : Book) (e n : ℕ) (o : Bool) (ms : List (Option Frame)) → d.tombstones ≡ b.tombstones → All (IsSeatedIn items b e n o) ms → All (IsSeatedIn items d e n o) ms
seats_same items b d e n o ms same h = all_weaker (IsSeatedIn items b e n o) (IsSeatedIn items d e n o) (seat_frame items items b d e e n n o o (λ k g. g) (λ k es g seats now wide none. seats now wide (buries_same b d same none))) ms h

-- while none is awaited
pub seats_shut : (items is : List Item) (b d : Book) (e n : ℕ) (o p : Bool) (ms : List (Option Frame)) → p ≡ false → All (IsSeatedIn items b e n o) ms → All (IsSeatedIn is d e n p) ms
seats_shut items is b d e n o p ms shut h = all_weaker (IsSeatedIn items b e n o) (IsSeatedIn is d e n p) (seat_frame items is b d e e n n o p (λ k g. g) (λ k es g seats now wide none. no_way (sym shut ∙ wide))) ms h

module _ (P : State → Type 0) (standing : Standing P) where
  abbrev pub Both : State → Type 0
  Both t = P t × InVolume HasArrived t

  pub known_of : (t : State) → Both t → IsKnownIn t
  known_of t h = standing.known t h.0

  pub sound_now : (s : State) → P s → IsFair s.link → IsSound s.link s.volatile.tokens s.filter
  sound_now s h fair = sound_of s ((standing.known s h).0.0.0) fair

  pub tidy_now : (s : State) → P s → IsFair s.link → IsTidy s.link.remote
  tidy_now s h fair = ((standing.known s h).0.0.1 fair).0

  -- what was told is ahead
  right : (l : Link) → IsFair l → (cursor : ℕ) (e : Entry) → Since Both l true cursor e → (x : Stored) → stored_at l.remote.items e.rid ≡ Some x → cursor < x.changed
  right l fair cursor e on = (entry_right l fair true cursor e (since_weaker IsKnownIn Both known_of l true cursor e on)).right refl

  -- a change

  module _ (s : State) (f : Book → Book) (c : Change) (x : Filter) (seen : IsFair s.link → KeepsSeenBy f c x) (fit : IsFair s.link → Fits s.link.remote x c) (known : IsFair s.link → IsChangeBy (Known Both s) x f c) (sound : IsFair s.link → IsSound s.link s.volatile.tokens x) (h : Within HasArrived s x.volume) where
    abbrev R : Held
    R = s.link.remote

    abbrev B : Book
    B = x.volume.book

    abbrev N : Usn
    N = next_number x.volume

    done_fresh : (fair : IsFair s.link) → IsDoneBy Both s.link x.volume.items c → LosesUnsaid R B x.volume.items c N
    done_fresh fair (t, kept, e, live, new, same, items, item, id, identity, len, at, is) =
        let buried = standing.buried t kept.0 (subst IsFair same fair) in
        let each = (all_found (λ d. is_new_entry d ≡ true → Each d.item (λ i. (target_of i).0 ≡ 0) (items_now t)) (λ d. same_key d.token.0 e.token.0) (book_now t).entries e live buried.fresh).0 new in
        subst (λ (d : Change). LosesUnsaid R B x.volume.items d N) (sym is)
        (done_unsaid R B (sound fair).counted x.volume.items item identity len at N
        (subst (λ (is : List Item). Each item (λ i. (target_of i).0 ≡ 0) is) (sym items) (subst (λ (y : ItemId). Each y (λ i. (target_of i).0 ≡ 0) (items_now t)) (sym (same_item item e.item id)) each)))

    unsaid : (fair : IsFair s.link) → LosesBy (Known Both s) B.cursor x.volume.items c → LosesUnsaid R B x.volume.items c N
    unsaid fair (inl z) = loses_unsaid R B (sound fair).counted Nothing (λ e on. absurd on) x c N (fit fair) z
    unsaid fair (inr (shut, inl z)) = loses_unsaid R B (sound fair).counted (Since Both s.link true B.cursor) (right s.link fair B.cursor) x c N (fit fair) z
    unsaid fair (inr (shut, inr z)) = done_fresh fair z

    accounted : IsFair s.link → AreAccountedFor R (effect x.volume.items c N) (f (book_after c B))
    accounted fair =
        account_book R (effect x.volume.items c N) B (f (book_after c B)) ((seen fair).2 (book_after c B) ∙ same_cursor c B) ((known fair).3 (book_after c B) ∙ same_tombstones c B)
        (effect_accounted R B x.volume.items c N (sound fair).counted (unsaid fair (known fair).2) (h fair).0.0)

    still : (fair : IsFair s.link) → s.volatile.round_open ≡ true → (es : List Entry) → AreSeated x.volume.items es → AreSeated (effect x.volume.items c N) es
    still fair wide es at = record { outs = at.outs; kept = by (known fair).2; some = at.some; untold = at.untold; seats = at.seats } where
      by : LosesBy (Known Both s) B.cursor x.volume.items c → AreKept (effect x.volume.items c N) at.outs
      by (inl z) = all_kept Nothing at.outs (all_weaker (λ k. (k.0 ≡ 0 → ⊥) × (k.1 ≡ true)) (λ k. k.0 ≡ 0 → ⊥) (λ k y. y.0) at.outs at.some) (λ e on. absurd on) R x c N (fit fair) z at.kept
      by (inr z) = no_way (sym z.0 ∙ wide)

    seats_after : IsFair s.link → All (IsSeatedIn (effect x.volume.items c N) (f (book_after c B)) x.volume.epoch s.volatile.rounds s.volatile.round_open) s.link.messages
    seats_after fair =
        all_weaker (IsSeatedIn x.volume.items B x.volume.epoch s.volatile.rounds s.volatile.round_open) (IsSeatedIn (effect x.volume.items c N) (f (book_after c B)) x.volume.epoch s.volatile.rounds s.volatile.round_open)
        (seat_frame x.volume.items (effect x.volume.items c N) B (f (book_after c B)) x.volume.epoch x.volume.epoch s.volatile.rounds s.volatile.rounds s.volatile.round_open s.volatile.round_open (λ k g. g)
        (λ k es g seats now wide none. still fair wide es (seats now wide (buries_same B (f (book_after c B)) ((known fair).3 (book_after c B) ∙ same_tombstones c B) none)))) s.link.messages (h fair).1

    pub changed : (v : Volume) → IsRoomOf x.volume v → Within HasArrived s (put_with_book f c v)
    changed v is fair = (put_lasts AreAccountedFor s.link s.volatile.tokens f c x v is sound accounted (λ z. (h z).0) fair, by is) where
      by : IsRoomOf x.volume v → All (IsSeatedIn (put_with_book f c v).items (put_with_book f c v).book (put_with_book f c v).epoch s.volatile.rounds s.volatile.round_open) s.link.messages
      by (inl e) = subst (λ (w : Volume). All (IsSeatedIn (put_with_book f c w).items (put_with_book f c w).book (put_with_book f c w).epoch s.volatile.rounds s.volatile.round_open) s.link.messages) (sym e) (seats_after fair)
      by (inr e) = subst (λ (w : Volume). All (IsSeatedIn (put_with_book f c w).items (put_with_book f c w).book (put_with_book f c w).epoch s.volatile.rounds s.volatile.round_open) s.link.messages) (sym e) (seats_after fair)

  -- a removal that leaves a tombstone

  module _ (s : State) (f : Book → Book) (item : ItemId) (cursor : KeepsCursor f) (leaf : IsFair s.link → IsLeaf (items_now s) item × Buries f item s.filter) (h : P s) (k : InVolume HasArrived s) where
    abbrev Gone : Change
    Gone = change.Remove item

    abbrev R2 : Held
    R2 = s.link.remote

    abbrev B2 : Book
    B2 = book_now s

    abbrev N2 : Usn
    N2 = next_number s.filter.volume

    each_item : (fair : IsFair s.link) (C : Item → Type 0) → C (leaf fair).1.0 → Each item C (items_now s)
    each_item fair C c = each_found item C 0 s.filter.volume.next_item.0 (items_now s) (leaf fair).1.0 (sound_now s h fair).now.order (leaf fair).1.1 c

    buried_book : (b : Book) (t : Tombstone) → f (book_after Gone b) ≡ with_tombstone t (book_after Gone b) → (f (book_after Gone b)).tombstones ≡ (with_tombstone t b).tombstones
    buried_book b t e = ap (λ (d : Book). d.tombstones) e

    removed_account : IsFair s.link → AreAccountedFor R2 (effect (items_now s) Gone N2) (f (book_after Gone B2))
    removed_account fair = by (leaf fair).1.2 where
      i : Item
      i = (leaf fair).1.0

      t : Tombstone
      t = tombstone_for i N2

      by : (((target_of i).0 ≡ 0) × ((b : Book) → f b ≡ b)) ⊎ ((b : Book) → f b ≡ with_tombstone t b) → AreAccountedFor R2 (effect (items_now s) Gone N2) (f (book_after Gone B2))
      by (inl z) =
          account_book R2 (effect (items_now s) Gone N2) B2 (f (book_after Gone B2)) (cursor (book_after Gone B2)) (ap (λ (d : Book). d.tombstones) (z.1 (book_after Gone B2)))
          (effect_accounted R2 B2 (items_now s) Gone N2 (sound_now s h fair).counted (each_item fair (λ j. IsUnsaid R2 B2 (target_of j)) (none_said R2 B2 (sound_now s h fair).counted (target_of i) z.0)) (k fair).0.0)
      by (inr z) =
          account_book R2 (effect (items_now s) Gone N2) (with_tombstone t B2) (f (book_after Gone B2)) (cursor (book_after Gone B2)) (buried_book B2 t (z (book_after Gone B2)))
          (buried_accounted R2 B2 (items_now s) item t N2 (sound_now s h fair).counted (each_item fair (λ j. (target_of j).0 ≡ t.rid.0) refl) (k fair).0.0)

    -- what is kept of a directory is not the item that goes
    kept_others : (rid : ℕ) → (IsFair s.link) → Each item (λ j. (target_of j).0 ≡ rid → j.directory ≡ true → ⊥) (items_now s) → IsKept (items_now s) rid true → IsKept (without item (items_now s)) rid true
    kept_others rid fair each w = (w.0, among_filter (λ j. not (j.id.0 == item.0)) w.0 (items_now s) (by (w.0.id.0 == item.0) refl) w.1, w.2, w.3) where
      by : (c : Bool) → (w.0.id.0 == item.0) ≡ c → not (w.0.id.0 == item.0) ≡ true
      by true q = absurd (each_among item (λ j. (target_of j).0 ≡ rid → j.directory ≡ true → ⊥) (items_now s) w.0 each w.1 q w.2 w.3)
      by false q = ap (λ (c : Bool). not c) q

    all_others : (ks : List (ℕ × Bool)) → IsFair s.link → All (λ k. (k.0 ≡ 0 → ⊥) × (k.1 ≡ true)) ks → ((rid : ℕ) → (rid ≡ 0 → ⊥) → Each item (λ j. (target_of j).0 ≡ rid → j.directory ≡ true → ⊥) (items_now s)) → AreKept (items_now s) ks → AreKept (without item (items_now s)) ks
    all_others [] fair some each w = tt
    all_others (q ∷ ks) fair some each w =
        (subst (λ (d : Bool). IsKept (without item (items_now s)) q.0 d) (sym some.0.1) (kept_others q.0 fair (each q.0 some.0.0) (subst (λ (d : Bool). IsKept (items_now s) q.0 d) some.0.1 w.0)), all_others ks fair some.1 each w.1)

    removed_seats : (fair : IsFair s.link) (es : List Entry) → (buries_directory B2 ≡ false → AreSeated (items_now s) es) → buries_directory (f (book_after Gone B2)) ≡ false → AreSeated (without item (items_now s)) es
    removed_seats fair es seats none = by (leaf fair).1.2 where
      i : Item
      i = (leaf fair).1.0

      t : Tombstone
      t = tombstone_for i N2

      with_rest : AreSeated (items_now s) es → ((rid : ℕ) → (rid ≡ 0 → ⊥) → (target_of i).0 ≡ rid → i.directory ≡ true → ⊥) → AreSeated (without item (items_now s)) es
      with_rest at each = record { outs = at.outs; kept = all_others at.outs fair at.some (λ rid some. each_item fair (λ j. (target_of j).0 ≡ rid → j.directory ≡ true → ⊥) (each rid some)) at.kept; some = at.some; untold = at.untold; seats = at.seats }

      of_file : (d : Bool) → d ≡ true → ((cond d no_version (base_version i)).0 == 0) ≡ false → ⊥
      of_file true q z = no_way (sym z)
      of_file false q z = no_way q

      by : (((target_of i).0 ≡ 0) × ((b : Book) → f b ≡ b)) ⊎ ((b : Book) → f b ≡ with_tombstone t b) → AreSeated (without item (items_now s)) es
      by (inl z) = with_rest (seats (buries_same B2 (f (book_after Gone B2)) (ap (λ (d : Book). d.tombstones) (z.1 (book_after Gone B2))) none)) (λ rid some e d. some (sym e ∙ z.0))
      by (inr z) =
          let after : buries_directory (with_tombstone t B2) ≡ false = buries_same (with_tombstone t B2) (f (book_after Gone B2)) (buried_book B2 t (z (book_after Gone B2))) none in
          with_rest (seats (put_none (λ x y. above y.number x.number) t (λ u. u.version.0 == 0) B2.tombstones after))
          (λ rid some e d. of_file i.directory d (none_among (λ u. u.version.0 == 0) (with_tombstone t B2).tombstones t after (put_first (λ x y. above y.number x.number) t B2.tombstones)))

    pub removed : (v : Volume) → IsRoomOf s.filter.volume v → Within HasArrived s (put_with_book f Gone v)
    removed v is fair = (put_lasts AreAccountedFor s.link s.volatile.tokens f Gone s.filter v is (sound_now s h) removed_account (λ z. (k z).0) fair, by is) where
      after : All (IsSeatedIn (without item (items_now s)) (f (book_after Gone B2)) s.filter.volume.epoch s.volatile.rounds s.volatile.round_open) s.link.messages
      after =
          all_weaker (IsSeatedIn (items_now s) B2 s.filter.volume.epoch s.volatile.rounds s.volatile.round_open) (IsSeatedIn (without item (items_now s)) (f (book_after Gone B2)) s.filter.volume.epoch s.volatile.rounds s.volatile.round_open)
          (seat_frame (items_now s) (without item (items_now s)) B2 (f (book_after Gone B2)) s.filter.volume.epoch s.filter.volume.epoch s.volatile.rounds s.volatile.rounds s.volatile.round_open s.volatile.round_open (λ q g. g)
          (λ q es g seats now wide none. removed_seats fair es (seats now wide) none)) s.link.messages (k fair).1

      by : IsRoomOf s.filter.volume v → All (IsSeatedIn (put_with_book f Gone v).items (put_with_book f Gone v).book (put_with_book f Gone v).epoch s.volatile.rounds s.volatile.round_open) s.link.messages
      by (inl e) = subst (λ (w : Volume). All (IsSeatedIn (put_with_book f Gone w).items (put_with_book f Gone w).book (put_with_book f Gone w).epoch s.volatile.rounds s.volatile.round_open) s.link.messages) (sym e) after
      by (inr e) = subst (λ (w : Volume). All (IsSeatedIn (put_with_book f Gone w).items (put_with_book f Gone w).book (put_with_book f Gone w).epoch s.volatile.rounds s.volatile.round_open) s.link.messages) (sym e) after
