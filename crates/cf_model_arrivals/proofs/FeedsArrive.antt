-- Where the cursor comes to be a feed's clock, the item of each of its live entries is here.
use Rattle.std.proofs.Common.{◌≡◌, ◌⊎◌, ◌+◌, ℕ, Bool, true, false, List, [], ◌∷◌, refl, sym, ◌∙◌, ap, subst, inl, inr, eq-eqb}
use Rattle.std.specs.Prelude.{Some, cond, filter, nat_le, not, ◌&&◌, ◌||◌, ◌==◌, nat_lt}
use Rattle.std.specs.List.{list_all, list_any}
use Rattle.std.proofs.lemmas.Bool.{eqb-true}
use Rattle.cf_base.specs.declared.changes.Change.{Change}
use Rattle.cf_base.specs.declared.codes.Code.{Code}
use Rattle.cf_base.specs.declared.ids.Key.{Key}
use Rattle.cf_base.specs.declared.ids.Rid.{Rid}
use Rattle.cf_base.specs.declared.messages.Entry.{Entry}
use Rattle.cf_base.specs.declared.messages.Reply.TheVariants as reply
use Rattle.cf_base.specs.declared.notices.Frame.TheVariants as frame
use Rattle.cf_model.specs.Books.{Book, Tombstone}
use Rattle.cf_model.specs.Changes.{change as put, put_with_book, same_book}
use Rattle.cf_model.specs.Feeds.{is_listing}
use Rattle.cf_model.specs.Fits.{are_distinct, are_entries, fits, has_rid, is_entry}
use Rattle.cf_model.specs.Identities.{by_target, has_target, target_of}
use Rattle.cf_model.specs.Items.{Item, item_of}
use Rattle.cf_model.specs.Messages.{is_latest_round, is_old, known_now, settled_rid}
use Rattle.cf_model.specs.Numbers.{root_id, root_rid}
use Rattle.cf_model.specs.Points.{with_room_point}
use Rattle.cf_model.specs.PushReplies.{round_closed}
use Rattle.cf_model.specs.Skips.{do_change, skip_line, with_volatile}
use Rattle.cf_model.specs.State.{Link, State, Volume, book_now, items_now, with_filter}
use Rattle.cf_model.specs.Store.{Held, stored_at, Stored}
use Rattle.cf_model.specs.Trees.{Keeps}
use Rattle.cf_model.specs.Words.{is_empty}
use Rattle.cf_model.proofs.TreeLaws.{keeps_mapped}
use Rattle.cf_model_laws.specs.Invariant.{All, Among, HasEntry, IsRight, IsSound, target_in}
use Rattle.cf_model_laws.specs.Premises.{IsFair}
use Rattle.cf_model_laws.specs.Taken.{Heard, IsNamedBy, Since}
use Rattle.cf_model_laws.proofs.FeedFrames.{Feeding, IsTold, feeding}
use Rattle.cf_model_laws.proofs.Gathered.{all_both, all_in, all_weaker, all_found}
use Rattle.cf_model_laws.proofs.Guarded.{Guarded, IsFedTo}
use Rattle.cf_model_laws.proofs.Leading.{kept_leads}
use Rattle.cf_model_laws.proofs.MessagesGuarded.{feed_fits, is_nothing, told_all}
use Rattle.cf_model_laws.proofs.PassesGuarded.{one_message}
use Rattle.cf_model_laws.proofs.RightItems.{no_way}
use Rattle.cf_model_laws.proofs.SkipsGuarded.{IsStepBy, Skipping, both_frames, heard_skipping, keeps_both}
use Rattle.cf_model_laws.proofs.SoundFilters.{change_leads}
use Rattle.cf_model_laws.proofs.SoundSettles.{left_true, not_false, not_true, right_true}
use Rattle.cf_model_laws.proofs.TombstonesGuarded.{IsShut, shut_frame}
use Rattle.cf_model_convergence.specs.Lasting.{IsTargetedWell}
use Rattle.cf_model_convergence.proofs.FeedsTold.{all_among, among_filter}
use Rattle.cf_model_convergence.proofs.Lines.{one_some, same_rid}
use Rattle.cf_model_convergence.proofs.RightTargets.{aimed_right}
use Rattle.cf_model_agreement.proofs.CursorsRaised.{IsKnownIn}
use Rattle.cf_model_agreement.proofs.EntriesHeard.{counts_both, plain_entry}
use Rattle.cf_model_agreement.proofs.FeedsDone.{Turning}
use Rattle.cf_model_populated.specs.Accounted.{IsHereOrBuried, buries_directory}
use Rattle.cf_model_populated.specs.Populated.{IsPopulated}
use Rattle.cf_model_arrivals.specs.Buried.{AreBuriedRight}
use Rattle.cf_model_arrivals.specs.Kept.{AreKept, IsKept}
use Rattle.cf_model_arrivals.specs.Seated.{AreSeated, AreSeats, HasArrived, IsSeatedIn}
use Rattle.cf_model_arrivals.proofs.AccountedChanges.{same_tombstones}
use Rattle.cf_model_arrivals.proofs.KeptItems.{IsApart}
use Rattle.cf_model_arrivals.proofs.TurnKept.{had}
use Rattle.cf_model_arrivals.proofs.TurnsKept.{Arriving, Dead, Seats, turns_kept, turns_stay, with_all}
use Rattle.cf_model_arrivals.proofs.VolumesGuarded.{InVolume}

-- what more is known in each state
pub record Standing (P : State → Type 0) : Type 0 where
  pub closed : Guarded P
  pub known : (s : State) → P s → IsKnownIn s
  pub full : (s : State) → P s → IsFair s.link → All IsPopulated (items_now s)
  pub root : (s : State) → P s → IsFair s.link → (i : Item) × (item_of (items_now s) root_id ≡ Some i) × (i.directory ≡ true)
  pub buried : (s : State) → P s → IsFair s.link → AreBuriedRight s.link.remote (items_now s) (book_now s)

-- steps that leave the tombstones

module _ (ts : List Tombstone) where
  abbrev Same : State → Type 0
  Same t = (book_now t).tombstones ≡ ts

  same_change : (c : Change) (s : State) → Same s → Keeps Same (do_change c s)
  same_change c s h =
      keeps_mapped (λ x. Same (with_filter x s)) Same (λ x. with_filter x s) (put c s.filter) (λ x j. j)
      (kept_leads (λ x. Same (with_filter x s)) (put c s.filter) (change_leads (λ x. Same (with_filter x s)) (λ x. Same (with_filter x s)) same_book c s.filter h h h (λ v is. by v is))) where
        by : (v : Volume) → (v ≡ s.filter.volume) ⊎ (v ≡ with_room_point s.filter.volume) → (put_with_book same_book c v).book.tombstones ≡ ts
        by v (inl e) = same_tombstones c v.book ∙ ap (λ (w : Volume). w.book.tombstones) e ∙ h
        by v (inr e) = same_tombstones c v.book ∙ ap (λ (w : Volume). w.book.tombstones) e ∙ h

  same_record : (On : Entry → Type 0) (f : Book → Book) (s : State) → IsStepBy On f s → Same s → (f (book_now s)).tombstones ≡ ts
  same_record On f s (inl z) h = z.2 (book_now s) ∙ h
  same_record On f s (inr z) h = ap (λ (b : Book). b.tombstones) (z.1 (book_now s)) ∙ h

  same_line : (b : Bool) (c : Code) (s : State) → Same s → Same (skip_line b c s)
  same_line true c s h = h
  same_line false c s h = h

  same_skipping : (On : Entry → Type 0) (P : State → Type 0) → Skipping On (IsNamedBy On On) P → Skipping On (IsNamedBy On On) (λ t. P t × Same t)
  same_skipping On P closed = record {
    sound = λ s h fair. closed.sound s h.0 fair;
    change = λ c s ok free fit h. keeps_both P Same (do_change c s) (closed.change c s ok free fit h.0) (same_change c s h.1);
    books = λ f s keeps placed step h. (closed.books f s keeps placed step h.0, same_record On f s step h.1);
    skips = λ c s h. (closed.skips c s h.0, same_line s.running.shows_skips c (record s { running = record s.running { skips = s.running.skips + 1 } }) h.1);
  }

-- entries that no other one tells

others : (rid : Rid) (es : List Entry) → has_rid rid es ≡ false → All (λ d. d.rid.0 ≡ rid.0 → ⊥) es
others rid [] h = tt
others rid (d ∷ es) h = by (d.rid.0 == rid.0) refl h (others rid es) where
  by : (c : Bool) → (d.rid.0 == rid.0) ≡ c → (c || has_rid rid es) ≡ false → (has_rid rid es ≡ false → All (λ x. x.rid.0 ≡ rid.0 → ⊥) es) → All (λ x. x.rid.0 ≡ rid.0 → ⊥) (d ∷ es)
  by true q z rest = no_way (sym z)
  by false q z rest = ((λ e. no_way (sym q ∙ eq-eqb d.rid.0 rid.0 e)), rest z)

first_others : (e : Entry) (es : List Entry) → are_distinct (e ∷ es) ≡ true → All (λ d. d.rid.0 ≡ e.rid.0 → ⊥) es
first_others e es h = others e.rid es (not_true (has_rid e.rid es) (left_true (not (has_rid e.rid es)) (are_distinct es) h))

rest_distinct : (e : Entry) (es : List Entry) → are_distinct (e ∷ es) ≡ true → are_distinct es ≡ true
rest_distinct e es h = right_true (not (has_rid e.rid es)) (are_distinct es) h

among_with : (k : ℕ × Bool) (ls : List Entry) (ks : List (ℕ × Bool)) → Among k ks → Among k (with_all ks ls)
among_with k [] ks h = h
among_with k (e ∷ ls) ks h = among_with k ls ((e.rid.0, e.dir) ∷ ks) (inr h)

among_all : (e : Entry) (ls : List Entry) (ks : List (ℕ × Bool)) → Among e ls → Among (e.rid.0, e.dir) (with_all ks ls)
among_all e [] ks h = absurd h
among_all e (d ∷ ls) ks (inl z) = subst (λ (x : Entry). Among (x.rid.0, x.dir) (with_all ((d.rid.0, d.dir) ∷ ks) ls)) z (among_with (d.rid.0, d.dir) ls ((d.rid.0, d.dir) ∷ ks) (inl refl))
among_all e (d ∷ ls) ks (inr m) = among_all e ls ((d.rid.0, d.dir) ∷ ks) m

apart_with : (d : Entry) (ls : List Entry) (ks : List (ℕ × Bool)) → IsApart ks d → All (λ e. d.rid.0 ≡ e.rid.0 → ⊥) ls → IsApart (with_all ks ls) d
apart_with d [] ks h k = h
apart_with d (e ∷ ls) ks h k = apart_with d ls ((e.rid.0, e.dir) ∷ ks) (k.0, h) k.1

all_live : (P : Entry → Type 0) (es : List Entry) → All P es → All P (filter (λ e. e.live) es)
all_live P [] h = tt
all_live P (e ∷ es) h = by e.live (all_live P es h.1) where
  by : (c : Bool) → All P (filter (λ e. e.live) es) → All P (cond c (e ∷ filter (λ e. e.live) es) (filter (λ e. e.live) es))
  by true k = (h.0, k)
  by false k = k

module _ (Of : Entry → Type 0) where
  dead_apart : (es : List Entry) (ks : List (ℕ × Bool)) → are_distinct es ≡ true → All (λ e. Of e × IsApart ks e) es → All (λ d. (Of d × IsApart ks d) × All (λ e. d.rid.0 ≡ e.rid.0 → ⊥) (filter (λ e. e.live) es)) (filter (λ e. not e.live) es)
  dead_apart [] ks h facts = tt
  dead_apart (e ∷ es) ks h facts = by e.live (dead_apart es ks (rest_distinct e es h) facts.1) where
    lives : List Entry
    lives = filter (λ e. e.live) es

    deads : List Entry
    deads = filter (λ e. not e.live) es

    -- all that come later are others
    dead_others : (xs : List Entry) → All (λ d. d.rid.0 ≡ e.rid.0 → ⊥) xs → All (λ d. d.rid.0 ≡ e.rid.0 → ⊥) (filter (λ x. not x.live) xs)
    dead_others [] k = tt
    dead_others (x ∷ xs) k = one x.live (dead_others xs k.1) where
      one : (c : Bool) → All (λ d. d.rid.0 ≡ e.rid.0 → ⊥) (filter (λ x. not x.live) xs) → All (λ d. d.rid.0 ≡ e.rid.0 → ⊥) (cond (not c) (x ∷ filter (λ x. not x.live) xs) (filter (λ x. not x.live) xs))
      one true z = z
      one false z = (k.0, z)

    by : (c : Bool) → All (λ d. (Of d × IsApart ks d) × All (λ x. d.rid.0 ≡ x.rid.0 → ⊥) lives) deads → All (λ d. (Of d × IsApart ks d) × All (λ x. d.rid.0 ≡ x.rid.0 → ⊥) (cond c (e ∷ lives) lives)) (cond (not c) (e ∷ deads) deads)
    by true rest = all_both (λ d. (Of d × IsApart ks d) × All (λ x. d.rid.0 ≡ x.rid.0 → ⊥) lives) (λ d. d.rid.0 ≡ e.rid.0 → ⊥) (λ d. (Of d × IsApart ks d) × All (λ x. d.rid.0 ≡ x.rid.0 → ⊥) (e ∷ lives)) (λ d k z. (k.0, (z, k.1))) deads rest (dead_others es (first_others e es h))
    by false rest = ((facts.0, all_weaker (λ d. d.rid.0 ≡ e.rid.0 → ⊥) (λ x. e.rid.0 ≡ x.rid.0 → ⊥) (λ x k z. k (sym z)) lives (all_live (λ d. d.rid.0 ≡ e.rid.0 → ⊥) es (first_others e es h))), rest)

-- the feed

module _ (P : State → Type 0) (standing : Standing P) (clock : ℕ) (s : State) (fed : IsFedTo (λ t. P t × InVolume HasArrived t) clock s) (fair : IsFair s.link) where
  abbrev First : State
  First = fed.first

  first_fair : IsFair First.link
  first_fair = subst IsFair fed.link fair

  counts : (fits (known_now First) (settled_rid First fed.request) fed.request (reply.Feed fed.round clock fed.entries) ≡ true) × (is_old First (reply.Feed fed.round clock fed.entries) ≡ false)
  counts = counts_both (fits (known_now First) (settled_rid First fed.request) fed.request (reply.Feed fed.round clock fed.entries)) (is_old First (reply.Feed fed.round clock fed.entries)) fed.counts

  abbrev Of : Entry → Type 0
  Of e = Heard true First e × Among e fed.entries

  abbrev Start : State
  Start = with_volatile round_closed First

  entries_fit : are_entries (known_now First) fed.entries ≡ true
  entries_fit = feed_fits (known_now First) (settled_rid First fed.request) fed.request fed.round clock fed.entries counts.0

  distinct : are_distinct fed.entries ≡ true
  distinct = right_true (list_all (is_entry (known_now First)) fed.entries) (are_distinct fed.entries) entries_fit

  all_of : All Of fed.entries
  all_of = all_weaker (λ e. Among e fed.entries) Of (λ e a. ((fed.message, fed.request, reply.Feed fed.round clock fed.entries, fed.counts, fed.told, fed.posted, a), a)) fed.entries (all_in fed.entries)

  all_told : All (IsTold Of First.link) fed.entries
  all_told = told_all Of First.link (known_now First) fed.entries all_of (λ f. (fed.told f).1.1) (left_true (list_all (is_entry (known_now First)) fed.entries) (are_distinct fed.entries) entries_fit)

  current : ((is_latest_round First fed.round.0 && First.volatile.round_open) ≡ true) × (is_empty (book_now First).entries ≡ true)
  current =
      let z = not_false (is_latest_round First fed.round.0 && First.volatile.round_open && nat_le (book_now First).cursor clock && is_empty (book_now First).entries) counts.1 in
      let y = left_true (is_latest_round First fed.round.0 && First.volatile.round_open && nat_le (book_now First).cursor clock) (is_empty (book_now First).entries) z in
      (left_true (is_latest_round First fed.round.0 && First.volatile.round_open) (nat_le (book_now First).cursor clock) y, right_true (is_latest_round First fed.round.0 && First.volatile.round_open && nat_le (book_now First).cursor clock) (is_empty (book_now First).entries) z)

  key_same : (k : Key) → is_latest_round First k ≡ true → k ≡ record { epoch = First.filter.volume.epoch; number = First.volatile.rounds }
  key_same k e = λ j. record { epoch = eqb-true k.epoch First.filter.volume.epoch (left_true (k.epoch == First.filter.volume.epoch) (k.number == First.volatile.rounds) e) j; number = eqb-true k.number First.volatile.rounds (right_true (k.epoch == First.filter.volume.epoch) (k.number == First.volatile.rounds) e) j }

  -- the entries are seated when the feed is taken
  seated : buries_directory (book_now First) ≡ false → AreSeated (items_now First) fed.entries
  seated none =
      (one_message (IsSeatedIn (items_now First) (book_now First) First.filter.volume.epoch First.volatile.rounds First.volatile.round_open) First.link.messages fed.posted.0 (frame.Reply fed.message (reply.Feed fed.round clock fed.entries)) (fed.kept.1 first_fair).1 fed.posted.1).1
      (key_same fed.round.0 (left_true (is_latest_round First fed.round.0) First.volatile.round_open current.0)) (right_true (is_latest_round First fed.round.0) First.volatile.round_open current.0) none

  abbrev Frame : State → Type 0
  Frame t = Feeding First.link First.filter [] t × IsShut t

  abbrev In : State → Type 0
  In t = (P t × Frame t) × ((book_now t).tombstones ≡ (book_now First).tombstones)

  heard : (On : Entry → Type 0) → ((e : Entry) → On e → Of e) → (t : State) → P t → Frame t → (e : Entry) → On e → Since P t.link true (book_now t).cursor e
  heard On less t j k e on = (First, fed.kept.0, (less e on).0, k.0.link, k.0.cursor)

  sound_of : (t : State) → P t → IsFair t.link → IsSound t.link t.volatile.tokens t.filter
  sound_of t h f = (standing.closed.on_filter t h).sound t.filter h f

  fair_of : (t : State) → In t → IsFair t.link
  fair_of t h = subst IsFair (sym h.0.1.0.link) first_fair

  turning : Turning Of First.link First.filter In
  turning = record {
    fair = first_fair;
    told = λ e on. all_among (IsTold Of First.link) fed.entries e on.1 all_told;
    plain = λ e on. let k : IsTold Of First.link e = all_among (IsTold Of First.link) fed.entries e on.1 all_told in plain_entry First.link.remote e first_fair.1 (k.has first_fair) k.dir;
    steps = λ On less. same_skipping (book_now First).tombstones On (λ t. P t × Frame t) (heard_skipping P Frame On standing.closed (both_frames (Feeding First.link First.filter []) IsShut (feeding First.link First.filter []) shut_frame) (heard On less) (λ t k. k.1));
    fed = λ t h. h.0.1.0;
    alone = λ t h. ((standing.known t h.0.0).0.1 (fair_of t h)).0;
  }

  kind_of : (e : Entry) → Of e → (t : State) → In t → (i : Item) → by_target (items_now t) e.rid ≡ Some i → i.directory ≡ e.dir
  kind_of e on t h i f = by (aimed_right r i (all_among (IsRight r _) (items_now t) i found.0 (sound_of t h.0.0 (fair_of t h)).now.right).aimed below) where
    r : Held
    r = t.link.remote

    told : IsTold Of First.link e
    told = all_among (IsTold Of First.link) fed.entries e on.1 all_told

    has : HasEntry r e
    has = subst (λ (l : Link). HasEntry l.remote e) (sym h.0.1.0.link) (told.has first_fair)

    found : Among i (items_now t) × (has_target i e.rid ≡ true)
    found = all_found (λ x. Among x (items_now t)) (λ x. has_target x e.rid) (items_now t) i f (all_in (items_now t))

    aim : (target_of i).0 ≡ e.rid.0
    aim = eqb-true (target_of i).0 e.rid.0 (right_true (nat_lt 0 e.rid.0) ((target_of i).0 == e.rid.0) found.1)

    below : i.id.0 ≡ 1 → ⊥
    below z = top (i.id.0 == 1) (eq-eqb i.id.0 1 z) aim where
      top : (c : Bool) → c ≡ true → (cond c root_rid (target_in i.identity)).0 ≡ e.rid.0 → ⊥
      top true q w = told.low (sym w)
      top false q w = no_way q

    by : IsTargetedWell r i → i.directory ≡ e.dir
    by (inl z) = absurd ((plain_entry r e (fair_of t h).1 has told.dir).some (sym aim ∙ z))
    by (inr z) = sym z.2.kind ∙ ap (λ (x : Stored). x.directory) (one_some (stored_at r.items e.rid) z.0 has.3.0 (subst (λ (y : Rid). stored_at r.items y ≡ Some z.0) (same_rid (target_of i) e.rid aim) z.1) has.3.1) ∙ has.3.2

  arriving : Arriving Of First.link First.filter In
  arriving = record {
    turning = turning;
    room = λ t h. (sound_of t h.0.0 (fair_of t h)).now.more;
    full = λ t h. standing.full t h.0.0 (fair_of t h);
    kinds = kind_of;
  }

  -- the seats, with what is known of the entries
  seats_on : (es : List Entry) (ks : List (ℕ × Bool)) → are_distinct es ≡ true → All (λ e. Of e × IsApart ks e) es → AreSeats ks (filter (λ e. e.live) es) → Seats Of First.link First.filter In arriving ks (filter (λ e. e.live) es)
  seats_on [] ks h facts seats = tt
  seats_on (e ∷ es) ks h facts seats = by e.live refl seats (seats_on es ((e.rid.0, e.dir) ∷ ks) (rest_distinct e es h) (all_both (λ d. Of d × IsApart ks d) (λ d. d.rid.0 ≡ e.rid.0 → ⊥) (λ d. Of d × IsApart ((e.rid.0, e.dir) ∷ ks) d) (λ d k z. (k.0, (z, k.1))) es facts.1 (first_others e es h)))
      (seats_on es ks (rest_distinct e es h) facts.1) where
        lives : List Entry
        lives = filter (λ e. e.live) es

        by : (c : Bool) → e.live ≡ c → AreSeats ks (cond c (e ∷ lives) lives) → (AreSeats ((e.rid.0, e.dir) ∷ ks) lives → Seats Of First.link First.filter In arriving ((e.rid.0, e.dir) ∷ ks) lives) → (AreSeats ks lives → Seats Of First.link First.filter In arriving ks lives)
            → Seats Of First.link First.filter In arriving ks (cond c (e ∷ lives) lives)
        by true q z alive dead = (facts.0.0, (q, z.0, z.1), facts.0.1, (turning.plain e facts.0.0).some, alive z.2)
        by false q z alive dead = dead z

  whole : (not fed.fed.postponed && (s.running.skips == First.running.skips)) ≡ true
  whole = left_true (not fed.fed.postponed && (s.running.skips == First.running.skips)) (not (is_listing s)) fed.whole

  first_in : In Start
  first_in = ((standing.closed.keeps_volatile_round_closed First fed.kept.0, (record { link = refl; waiting = refl; handles = refl; entries = is_nothing (book_now First).entries current.1; cursor = refl }, refl)), refl)

  module _ (at : AreSeated (items_now First) fed.entries) where
    facts : All (λ e. Of e × IsApart at.outs e) fed.entries
    facts = all_both Of (λ e. All (λ k. e.rid.0 ≡ k.0 → ⊥) at.outs) (λ e. Of e × IsApart at.outs e) (λ e k z. (k, z)) fed.entries all_of at.untold

    abbrev Lives : List Entry
    Lives = filter (λ e. e.live) fed.entries

    ended : In fed.turned × AreKept (items_now fed.turned) (with_all at.outs Lives)
    ended =
        turns_kept Of First.link First.filter In arriving fed.entries at.outs Start fed.fed fed.turned
        first_in (all_weaker (λ k. (k.0 ≡ 0 → ⊥) × (k.1 ≡ true)) (λ k. k.0 ≡ 0 → ⊥) (λ k z. z.0) at.outs at.some) at.kept
        (seats_on fed.entries at.outs distinct facts at.seats)
        (all_weaker (λ d. (Of d × IsApart at.outs d) × All (λ e. d.rid.0 ≡ e.rid.0 → ⊥) Lives) (Dead Of First.link First.filter In arriving (with_all at.outs Lives)) (λ d k. (k.0.0, apart_with d Lives at.outs k.0.1 k.1)) (filter (λ e. not e.live) fed.entries) (dead_apart Of fed.entries at.outs distinct facts)) fed.ends
        (not_true fed.fed.postponed (left_true (not fed.fed.postponed) (s.running.skips == First.running.skips) whole))
        (ap (λ (t : State). t.running.skips) (sym fed.same) ∙ eqb-true s.running.skips First.running.skips (right_true (not fed.fed.postponed) (s.running.skips == First.running.skips) whole))

    here : All (λ e. e.live ≡ true → IsHereOrBuried (items_now fed.turned) (book_now s) e.rid) fed.entries
    here = all_weaker (λ e. Among e fed.entries) (λ e. e.live ≡ true → IsHereOrBuried (items_now fed.turned) (book_now s) e.rid) one fed.entries (all_in fed.entries) where
      one : (e : Entry) → Among e fed.entries → e.live ≡ true → IsHereOrBuried (items_now fed.turned) (book_now s) e.rid
      one e among live =
          let k = all_among (λ x. IsKept (items_now fed.turned) x.0 x.1) (with_all at.outs Lives) (e.rid.0, e.dir) (among_all e Lives at.outs (among_filter (λ x. x.live) e fed.entries live among)) ended.1 in
          inl (k.0, k.1, had k.0 e.rid (turning.plain e (all_among Of fed.entries e among all_of)).some k.2)

  -- the tombstones are as they were
  same_buried : (book_now s).tombstones ≡ (book_now First).tombstones
  same_buried = ap (λ (t : State). (book_now t).tombstones) fed.same ∙ (turns_stay Of First.link First.filter In arriving fed.entries Start fed.fed fed.turned first_in all_of fed.ends).1

  pub feed_arrives : buries_directory (book_now s) ≡ false → All (λ e. e.live ≡ true → IsHereOrBuried (items_now s) (book_now s) e.rid) fed.entries
  feed_arrives none =
      subst (λ (is : List Item). All (λ e. e.live ≡ true → IsHereOrBuried is (book_now s) e.rid) fed.entries) (sym (ap (λ (t : State). items_now t) fed.same))
      (here (seated (sym (ap (λ (ts : List Tombstone). list_any (λ t. t.version.0 == 0) ts) same_buried) ∙ none)))
