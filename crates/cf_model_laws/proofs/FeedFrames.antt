-- What a feed leaves as it is, and what it needs.
use Rattle.std.proofs.Common.{◌≡◌, ◌⊎◌, ◌+◌, ℕ, Bool, true, false, List, [], ◌∷◌, refl, sym, ◌∙◌, ap, subst, inl, inr}
use Rattle.cf_base.specs.declared.changes.Change.{Change}
use Rattle.cf_base.specs.declared.codes.Code.{Code}
use Rattle.cf_base.specs.declared.ids.ItemId.{ItemId}
use Rattle.cf_base.specs.declared.messages.Entry.{Entry}
use Rattle.cf_base.specs.declared.notices.Notice.TheVariants as notice
use Rattle.cf_model.specs.Books.{QueueEntry, book_after}
use Rattle.cf_model.specs.Changes.{change as put, next_number, put_with_book, same_book}
use Rattle.cf_model.specs.Skips.{do_change, skip_line}
use Rattle.cf_model.specs.State.{Filter, Link, State, Volume, book_now, with_filter, with_notes, with_volume}
use Rattle.cf_model.specs.Points.{with_point_begun, with_room_point}
use Rattle.cf_model.specs.Trees.{Keeps}
use Rattle.cf_model.proofs.TreeLaws.{keeps_mapped}
use Rattle.cf_model_laws.specs.Fitting.{NoEntry, NoMove, AimsFree}
use Rattle.cf_model_laws.specs.Invariant.{HasEntry, IsUnmade, target_in}
use Rattle.cf_model_laws.specs.Premises.{IsFair}
use Rattle.cf_model_laws.specs.Taken.{IsNamedBy}
use Rattle.cf_model_laws.proofs.Leading.{kept_leads}
use Rattle.cf_model_laws.proofs.SkipsGuarded.{Framing, IsUnmoved, Skipping, Whichever}
use Rattle.cf_model_laws.proofs.SoundChanges.{same_entries, same_cursor}
use Rattle.cf_model_laws.proofs.SoundFilters.{change_leads}
use Rattle.cf_model_laws.proofs.MoveChanges.{IsMove, is_move}

-- What a feed leaves as it is: the link, the waits and asks, the handles, and the uploads on their way.
pub record Feeding (l : Link) (w : Filter) (es : List QueueEntry) (s : State) : Type 0 where
  pub link : s.link ≡ l
  pub waiting : s.filter.waiting ≡ w.waiting
  pub handles : s.filter.handles ≡ w.handles
  pub entries : (book_now s).entries ≡ es
  pub cursor : (book_now s).cursor ≡ w.volume.book.cursor

fed_by : (l : Link) (w : Filter) (es : List QueueEntry) (s : State) (v : Volume) → v.book.entries ≡ (book_now s).entries → v.book.cursor ≡ (book_now s).cursor → Feeding l w es s → Feeding l w es (with_filter (with_volume v s.filter) s)
fed_by l w es s v e c h = record { link = h.link; waiting = h.waiting; handles = h.handles; entries = e ∙ h.entries; cursor = c ∙ h.cursor }

fed_change : (l : Link) (w : Filter) (es : List QueueEntry) (c : Change) (s : State) → Feeding l w es s → Keeps (Feeding l w es) (do_change c s)
fed_change l w es c s h =
    keeps_mapped (λ x. Feeding l w es (with_filter x s)) (Feeding l w es) (λ x. with_filter x s) (put c s.filter) (λ x j. j)
    (kept_leads (λ x. Feeding l w es (with_filter x s)) (put c s.filter)
    (change_leads (λ x. Feeding l w es (with_filter x s)) (λ x. Feeding l w es (with_filter x s)) same_book c s.filter h (fed_by l w es s (with_point_begun s.filter.volume) refl refl h) (fed_by l w es s (with_room_point s.filter.volume) refl refl h)
    (λ v is. by v is))) where
      by : (v : Volume) → (v ≡ s.filter.volume) ⊎ (v ≡ with_room_point s.filter.volume) → Feeding l w es (with_filter (with_notes (notice.Change (next_number v) c ∷ []) (with_volume (put_with_book same_book c v) s.filter)) s)
      by v (inl e) = record { link = h.link; waiting = h.waiting; handles = h.handles; entries = ap (λ (u : Volume). (book_after c u.book).entries) e ∙ same_entries c s.filter.volume.book ∙ h.entries; cursor = ap (λ (u : Volume). (book_after c u.book).cursor) e ∙ same_cursor c s.filter.volume.book ∙ h.cursor }
      by v (inr e) = record { link = h.link; waiting = h.waiting; handles = h.handles; entries = ap (λ (u : Volume). (book_after c u.book).entries) e ∙ same_entries c s.filter.volume.book ∙ h.entries; cursor = ap (λ (u : Volume). (book_after c u.book).cursor) e ∙ same_cursor c s.filter.volume.book ∙ h.cursor }

fed_line : (l : Link) (w : Filter) (es : List QueueEntry) (b : Bool) (c : Code) (s : State) → Feeding l w es s → Feeding l w es (skip_line b c s)
fed_line l w es true c s h = record { link = h.link; waiting = h.waiting; handles = h.handles; entries = h.entries; cursor = h.cursor }
fed_line l w es false c s h = h

pub feeding : (l : Link) (w : Filter) (es : List QueueEntry) → Framing Whichever (Feeding l w es)
feeding l w es = record {
  change = λ c s ok fit h. fed_change l w es c s h;
  books = λ f s keeps cursor h. record { link = h.link; waiting = h.waiting; handles = h.handles; entries = keeps (book_now s) ∙ h.entries; cursor = cursor (book_now s) ∙ h.cursor };
  skips = λ c s h. fed_line l w es s.running.shows_skips c (record s { running = record s.running { skips = s.running.skips + 1 } }) (record { link = h.link; waiting = h.waiting; handles = h.handles; entries = h.entries; cursor = h.cursor });
}

-- what a feed needs, where so much is known of its entries: no upload is on its way
pub record Feeds (On : Entry → Type 0) (l : Link) (w : Filter) (es : List QueueEntry) (P : State → Type 0) : Type 0 where
  pub steps : Skipping On (IsNamedBy On On) P
  pub fed : (s : State) → P s → Feeding l w es s
  pub none : IsFair l → es ≡ []

-- an entry that was told
pub record IsTold (On : Entry → Type 0) (l : Link) (e : Entry) : Type 0 where
  pub on : On e
  pub has : IsFair l → HasEntry l.remote e
  pub dir : e.dir ≡ true → e.version.0 ≡ 0
  pub low : e.rid.0 ≡ 1 → ⊥
  pub apart : e.rid.0 ≡ e.parent.0 → ⊥

pub fair_now : (l : Link) (w : Filter) (es : List QueueEntry) (s : State) → Feeding l w es s → IsFair s.link → IsFair l
fair_now l w es s h fair = subst IsFair h.link fair

pub moves_named : (On : Entry → Type 0) (c : Change) → IsMove c → IsNamedBy On On c
moves_named On c ok = let m = is_move c ok in subst (IsNamedBy On On) (sym m.3) tt

-- no upload is on its way
pub unmoved : {On : Entry → Type 0} (l : Link) (w : Filter) (es : List QueueEntry) (P : State → Type 0) → Feeds On l w es P → (item : ItemId) (s : State) → P s → IsFair s.link → IsUnmoved item s
unmoved l w es P feeds item s h fair i e = subst (λ (qs : List QueueEntry). NoMove qs item) (sym ((feeds.fed s h).entries ∙ feeds.none (fair_now l w es s (feeds.fed s h) fair))) tt

-- so the remote made nothing for one
pub none_made : {On : Entry → Type 0} (l : Link) (w : Filter) (es : List QueueEntry) (P : State → Type 0) → Feeds On l w es P → (identity : List ℕ) (s : State) → P s → IsFair s.link → AimsFree s.link.remote s.filter.volume.book.entries identity
none_made l w es P feeds identity s h fair = inr (subst (λ (qs : List QueueEntry). IsUnmade s.link.remote qs (target_in identity)) (sym ((feeds.fed s h).entries ∙ feeds.none (fair_now l w es s (feeds.fed s h) fair))) tt)

pub no_entry : {On : Entry → Type 0} (l : Link) (w : Filter) (es : List QueueEntry) (P : State → Type 0) → Feeds On l w es P → (item : ItemId) (s : State) → P s → IsFair s.link → NoEntry (book_now s).entries item
no_entry l w es P feeds item s h fair = subst (λ (qs : List QueueEntry). NoEntry qs item) (sym ((feeds.fed s h).entries ∙ feeds.none (fair_now l w es s (feeds.fed s h) fair))) tt
