-- Lines with data within an event: each shows the bytes of a wait that was live before the event.
use Rattle.std.proofs.Common.{◌≡◌, ◌≤◌, ◌+◌, ℕ, Bool, true, false, List, [], ◌∷◌, ◌++◌, refl, sym, ◌∙◌, ap, subst, inl, inr, if◌then◌else◌}
use Rattle.std.specs.Prelude.{Option, Some, None, cond, map, slice_range, ◌==◌, ◌&&◌}
use Rattle.std.proofs.lemmas.Bool.{eqb-true}
use Rattle.std.proofs.lemmas.List.{append_assoc, append-nil}
use Rattle.cf_base.specs.declared.changes.Change.{Change}
use Rattle.cf_base.specs.declared.ids.ItemId.{ItemId}
use Rattle.cf_base.specs.declared.ids.Usn.{Usn}
use Rattle.cf_base.specs.declared.ids.WaitId.{WaitId}
use Rattle.cf_base.specs.declared.notices.Notice.{Notice}
use Rattle.cf_base.specs.declared.notices.Notice.TheVariants as notice
use Rattle.cf_base.specs.declared.spans.Span.{Span}
use Rattle.cf_base.specs.declared.waits.Cause.{Cause}
use Rattle.cf_base.specs.declared.waits.Cause.TheVariants as cause
use Rattle.cf_base.specs.declared.waits.AskKind.{AskKind}
use Rattle.cf_base.specs.declared.waits.AskKind.TheVariants as ask_kind
use Rattle.cf_base.specs.declared.waits.End.{End}
use Rattle.cf_base.specs.declared.waits.End.TheVariants as end
use Rattle.cf_base.specs.declared.waits.WaitKind.{WaitKind}
use Rattle.cf_base.specs.declared.waits.WaitKind.TheVariants as wait_kind
use Rattle.cf_model.specs.Arrows.{each}
use Rattle.cf_model.specs.Asks.{cause_by, cause_if, closed_by, ended_of, or_met, waits_by, waits_for, why, with_end}
use Rattle.cf_model.specs.Contents.{IsTrueTo}
use Rattle.cf_model.specs.Growth.{Extends}
use Rattle.cf_model.specs.Identities.{content}
use Rattle.cf_model.specs.Items.{Item, item_of}
use Rattle.cf_model.specs.Logs.{items_of}
use Rattle.cf_model.specs.Missing.{View, Wait, is_met}
use Rattle.cf_model.specs.Numbers.{same_key, usn_after}
use Rattle.cf_model.specs.Requests.{Cancels, Closes, Deed, Expires, Fails, Finishes, Leaves, Live, Nothing, Restarts, Told, Waiting, is_background, is_list, is_list_wait, live_of}
use Rattle.cf_model.specs.Settling.{accessed, ask_line, cancel_line, end_met, end_of, end_wait, is_access, is_own, tell, settle, tell_end, told_at, view_at, with_asks_told, with_ended, with_waiting}
use Rattle.cf_model.specs.State.{Filter, Link}
use Rattle.cf_model.specs.Store.{Held}
use Rattle.cf_model.specs.Trees.{Asked, Fork, Keeps, Ret, Step, Tree, bind}
use Rattle.cf_model.specs.Words.{says}
use Rattle.cf_model_laws.specs.GivenOnce.{WasGiven}
use Rattle.cf_model_laws.specs.Invariant.{All, AreTrueTo, HasBase, IsSoundBut}
use Rattle.cf_model_laws.specs.Invariant.{IsRight as IsRightItem}
use Rattle.cf_model_laws.proofs.Gathered.{all_filter, all_found, all_weaker}
use Rattle.cf_model_laws.proofs.Guarded.{EndsOthers, is_other_cause}
use Rattle.cf_model_laws.proofs.LoggedGuarded.{content_grows}
use Rattle.cf_model_laws.proofs.ReadLaws.{read_right}
use Rattle.cf_model_laws.proofs.RightItems.{no_way}
use Rattle.cf_model_laws.proofs.SoundLinks.{based_still}
use Rattle.cf_model_laws.proofs.SoundSettles.{same_item}
use Rattle.cf_model_headline.specs.Reads.{IsIn, data_shown}
use Rattle.cf_model_headline.specs.Reports.{changes_in}
use Rattle.cf_model_headline.proofs.ShownChanges.{changes_more, none_in}

abbrev pub Log : Type 0
Log = List (Usn × Change)

-- of each line, and those before it
abbrev pub EachLine : (List Notice → Notice → Type 0) → List Notice → List Notice → Type 0
EachLine C front [] = Unit {0}
EachLine C front (m ∷ ms) = C front m × EachLine C (front ++ m ∷ []) ms

pub lines_more : (C : List Notice → Notice → Type 0) (front ns ms : List Notice) → EachLine C front ns → EachLine C (front ++ ns) ms → EachLine C front (ns ++ ms)
lines_more C front [] ms h k = subst (λ (f : List Notice). EachLine C f ms) (append-nil front) k
lines_more C front (n ∷ ns) ms h k = (h.0, lines_more C (front ++ n ∷ []) ns ms h.1 (subst (λ (f : List Notice). EachLine C f ms) (sym (append_assoc front (n ∷ []) ns)) k))

lines_weaker : (C D : List Notice → Notice → Type 0) → ((front : List Notice) (m : Notice) → C front m → D front m) → (front ms : List Notice) → EachLine C front ms → EachLine D front ms
lines_weaker C D k front [] h = tt
lines_weaker C D k front (m ∷ ms) h = (k front m h.0, lines_weaker C D k (front ++ m ∷ []) ms h.1)

pub line_at : (C : List Notice → Notice → Type 0) (front ns back : List Notice) (m : Notice) → EachLine C front (ns ++ m ∷ back) → C (front ++ ns) m
line_at C front [] back m h = subst (λ (f : List Notice). C f m) (sym (append-nil front)) h.0
line_at C front (n ∷ ns) back m h = subst (λ (f : List Notice). C f m) (append_assoc front (n ∷ []) ns) (line_at C (front ++ n ∷ []) ns back m h.1)

-- of the file of an item, after these changes: its base is there, and the bytes are a span of its content
abbrev pub IsRight : Held → Log → ItemId → Span → List ℕ → Type 0
IsRight r log file span bytes = (i : Item) → item_of (items_of log) file ≡ Some i → i.directory ≡ false → HasBase r i.identity × (bytes ≡ slice_range (content r i) span.start (span.start + span.len))

-- Beside an event that began with these waits, and so many given in the epoch.
module _ (base : Log) (ws : List Wait) (e n : ℕ) where
  -- a wait that was given then was live then
  abbrev pub Known : Wait → Type 0
  Known v = WasGiven e n v.id.0 → IsIn v ws

  abbrev pub LineRight : Held → List Notice → Notice → Type 0
  LineRight r front m = (id : WaitId) (bytes : List ℕ) → data_shown m ≡ Some (id, bytes) → WasGiven e n id.0 → (v : Wait) × IsIn v ws × (v.id ≡ id) × IsRight r (base ++ changes_in front) v.item v.span bytes

  pub record ReadingOf (Fair : Type 0) (r : Held) (log : Log) (notes : List Notice) (epoch : ℕ) (waits : List Wait) (count : ℕ) : Type 0 where
    pub shown : log ≡ base ++ changes_in notes
    pub same : epoch ≡ e
    pub later : n ≤ count
    pub known : All Known waits
    pub lines : Fair → EachLine (LineRight r) [] notes

  abbrev pub Reading : Type 0 → Held → Filter → Type 0
  Reading Fair r x = ReadingOf Fair r x.volume.log x.notes x.waiting.epoch x.waiting.waits x.waiting.wait_count

  -- lines without a change and without data

  plain_lines : (r : Held) (front ms : List Notice) → All (λ m. data_shown m ≡ None) ms → EachLine (LineRight r) front ms
  plain_lines r front [] h = tt
  plain_lines r front (m ∷ ms) h = ((λ id bytes k. absurd (none id bytes (sym h.0 ∙ k))), plain_lines r (front ++ m ∷ []) ms h.1) where
    none : (id : WaitId) (bytes : List ℕ) → ◌≡◌ {A = Option (WaitId × List ℕ)} None (Some (id, bytes)) → ⊥
    none id bytes z = cc

  pub plainly : (Fair : Type 0) (r : Held) (log : Log) (notes ms : List Notice) (epoch : ℕ) (waits : List Wait) (count : ℕ) → changes_in ms ≡ [] → All (λ m. data_shown m ≡ None) ms
      → ReadingOf Fair r log notes epoch waits count → ReadingOf Fair r log (notes ++ ms) epoch waits count
  plainly Fair r log notes ms epoch waits count none plain h = record {
    shown = h.shown ∙ ap (λ (cs : Log). base ++ cs) (sym (changes_more notes ms ∙ ap (λ (cs : Log). changes_in notes ++ cs) none ∙ append-nil (changes_in notes)));
    same = h.same;
    later = h.later;
    known = h.known;
    lines = λ fair. lines_more (LineRight r) [] notes ms (h.lines fair) (plain_lines r notes ms plain);
  }

  -- a change with its line
  pub changing : (Fair : Type 0) (r : Held) (log : Log) (notes : List Notice) (epoch : ℕ) (waits : List Wait) (count : ℕ) (number : Usn) (c : Change)
      → ReadingOf Fair r log notes epoch waits count → ReadingOf Fair r (log ++ (number, c) ∷ []) (notes ++ notice.Change number c ∷ []) epoch waits count
  changing Fair r log notes epoch waits count number c h = record {
    shown = ap (λ (cs : Log). cs ++ (number, c) ∷ []) h.shown ∙ append_assoc base (changes_in notes) ((number, c) ∷ []) ∙ ap (λ (cs : Log). base ++ cs) (sym (changes_more notes (notice.Change number c ∷ [])));
    same = h.same;
    later = h.later;
    known = h.known;
    lines = λ fair. lines_more (LineRight r) [] notes (notice.Change number c ∷ []) (h.lines fair) (plain_lines r notes (notice.Change number c ∷ []) (refl, tt));
  }

  -- a remote that grows
  pub growing : (Fair More : Type 0) (r s : Held) (log : Log) (notes : List Notice) (epoch : ℕ) (waits : List Wait) (count : ℕ) → (More → Fair × Extends r s) → ReadingOf Fair r log notes epoch waits count → ReadingOf More s log notes epoch waits count
  growing Fair More r s log notes epoch waits count k h = record {
    shown = h.shown;
    same = h.same;
    later = h.later;
    known = h.known;
    lines = λ more. lines_weaker (LineRight r) (LineRight s)
        (λ front m g id bytes is given. let v = g id bytes is given in (
          v.0,
          v.1,
          v.2,
          λ i found file. let b = v.3 i found file in (
            based_still r s i.identity (k more).1 b.0,
            b.1 ∙ ap (λ (c : List ℕ). slice_range c v.0.span.start (v.0.span.start + v.0.span.len)) (sym (content_grows r s (k more).1 i b.0)),
          ),
        ))
        [] notes (h.lines (k more).0);
  }

-- what a step ends

-- a read that ends as met misses nothing
abbrev pub EndsMet : Filter → Wait × Cause → Type 0
EndsMet x w = w.0.kind ≡ wait_kind.Read → w.1 ≡ cause.Met → is_met (view_at x w.0.item) w.0 ≡ true

not_met : (c : Cause) → is_other_cause c ≡ true → c ≡ cause.Met → ⊥
not_met c h e = no_true (subst (λ (d : Cause). is_other_cause d ≡ true) e h) where
  no_true : false ≡ true → ⊥
  no_true z = cc

if_so : (b : Bool) (c d : Cause) → cause_if b c ≡ Some d → (b ≡ true) × (d ≡ c)
if_so true c d e = (refl, let z : d ≡ c = cc in z)
if_so false c d e = let z : ◌≡◌ {A = Option Cause} None (Some d) = e in cc

-- only waits of listings wait for a listing's ask
list_waits : (k : AskKind) (v : View) (a : Live) (w : Wait) → is_list k ≡ true → w.kind ≡ wait_kind.Read → waits_by k v a w ≡ true → ⊥
list_waits ask_kind.List v a w list read e = no_true (subst (λ (kind : WaitKind). is_list_wait kind ≡ true) read e) where
  no_true : false ≡ true → ⊥
  no_true z = cc
list_waits ask_kind.Fetch v a w list read e = no_way list
list_waits ask_kind.Validate v a w list read e = no_way list
list_waits ask_kind.Dehydrate v a w list read e = no_way list

-- what the step does of its own ends no read as met
own_ends : (d : Deed) (x : Filter) (v : View) (w : Wait) → EndsOthers d x → w.kind ≡ wait_kind.Read → cause_by d v x.waiting.asks w ≡ Some cause.Met → ⊥
own_ends Nothing x v w others read e = let z : ◌≡◌ {A = Option Cause} None (Some cause.Met) = e in cc
own_ends (Leaves key blocks) x v w others read e = let z : ◌≡◌ {A = Option Cause} None (Some cause.Met) = e in cc
own_ends (Fails key blocks c) x v w others read e = not_met c others (sym (if_so _ c cause.Met e).1)
own_ends (Cancels id) x v w others read e = let z : cause.Met ≡ cause.Cancelled = (if_so _ cause.Cancelled cause.Met e).1 in cc
own_ends (Closes handle last) x v w others read e = by (says (λ h. same_key h.0 handle.0) w.handle) (last && is_background w.kind) e where
  by : (a b : Bool) → closed_by a b ≡ Some cause.Met → ⊥
  by true b z = let y : ◌≡◌ {A = Option Cause} (Some cause.Cancelled) (Some cause.Met) = z in cc
  by false true z = let y : ◌≡◌ {A = Option Cause} (Some cause.Closed) (Some cause.Met) = z in cc
  by false false z = let y : ◌≡◌ {A = Option Cause} None (Some cause.Met) = z in cc
own_ends Restarts x v w others read e = let z : ◌≡◌ {A = Option Cause} None (Some cause.Met) = e in cc
own_ends (Expires key) x v w others read e = let z : cause.Met ≡ cause.TimedOut = (if_so _ cause.TimedOut cause.Met e).1 in cc
own_ends (Finishes key c) x v w (inl others) read e = not_met c others (sym (if_so _ c cause.Met e).1)
own_ends (Finishes key c) x v w (inr list) read e = by (live_of x.waiting.asks key) refl (if_so _ c cause.Met e).0 where
  by : (o : Option Live) → live_of x.waiting.asks key ≡ o → waits_for v o w ≡ true → ⊥
  by None f z = let y : false ≡ true = z in cc
  by (Some a) f z = list_waits a.ask.kind v a w (list a f) read z

pub step_ends : (x : Filter) (item : ItemId) (d : Deed) → EndsOthers d x → (w : Wait) (c : Cause) → why item (view_at x item) d x.waiting.asks w ≡ Some c → EndsMet x (w, c)
step_ends x item d others w c e read met = by (w.item.0 == item.0) refl e where
  none : {A : Type 0} → ◌≡◌ {A = Option Cause} None (Some c) → A
  none z = cc

  own : (o : Option Cause) → cause_by d (view_at x item) x.waiting.asks w ≡ o → or_met o (is_met (view_at x item) w) ≡ Some c → is_met (view_at x item) w ≡ true
  own None f z = (if_so (is_met (view_at x item) w) cause.Met c z).0
  own (Some k) f z = absurd (own_ends d x (view_at x item) w others read (f ∙ ap (λ (u : Cause). Some u) (same k z))) where
    same : (k : Cause) → ◌≡◌ {A = Option Cause} (Some k) (Some c) → k ≡ cause.Met
    same k z = let y : k ≡ c = cc in y ∙ met

  by : (b : Bool) → (w.item.0 == item.0) ≡ b → cond b (or_met (cause_by d (view_at x item) x.waiting.asks w) (is_met (view_at x item) w)) None ≡ Some c → is_met (view_at x w.item) w ≡ true
  by true f z = subst (λ (k : ItemId). is_met (view_at x k) w ≡ true) (sym (same_item w.item item (eqb-true w.item.0 item.0 f))) (own (cause_by d (view_at x item) x.waiting.asks w) refl z)
  by false f z = none z

pub all_ended : (K : Wait → Type 0) (R : Wait × Cause → Type 0) (f : Wait → Option Cause) → ((w : Wait) (c : Cause) → K w → f w ≡ Some c → R (w, c)) → (ws : List Wait) → All K ws → All R (ended_of f ws)
all_ended K R f k [] h = tt
all_ended K R f k (w ∷ ws) h = by (f w) refl (all_ended K R f k ws h.1) where
  by : (o : Option Cause) → f w ≡ o → All R (ended_of f ws) → All R (with_end w o (ended_of f ws))
  by None e g = g
  by (Some c) e g = (k w c h.0 e, g)

-- what the first part keeps is more than what is to be kept
pub keeps_from : {S A B : Type 0} (P M : S → Type 0) (p : Tree S A) (g : A → S → Tree S B) → ((s : S) → M s → P s) → Keeps M p → ((a : A) (s : S) → M s → Keeps P (g a s)) → Keeps P (bind p g)
keeps_from P M (Ret a s) g w h k = k a s h
keeps_from P M (Step s p) g w h k = (w s h.0, keeps_from P M p g w h.1 k)
keeps_from P M (Fork p q) g w h k = (keeps_from P M p g w h.0 k, keeps_from P M q g w h.1 k)
keeps_from P M (Asked f) g w h k = λ x. keeps_from P M (f x) g w (h x) k

pub all_lines : {X : Type 0} (f : X → Notice) → ((x : X) → data_shown (f x) ≡ None) → (xs : List X) → All (λ m. data_shown m ≡ None) (map f xs)
all_lines f h [] = tt
all_lines f h (x ∷ xs) = (h x, all_lines f h xs)

-- what a filter has where its remote kept its rules

pub record IsTruly (r : Held) (x : Filter) : Type 0 where
  pub unvalidated : x.policy.validate ≡ false
  pub contents : AreTrueTo r x.volume.items
  pub based : All (λ i. HasBase r i.identity) x.volume.items
  pub of_log : x.volume.items ≡ items_of x.volume.log

pub sound_truly : (But : ItemId → Type 0) (l : Link) (tokens : ℕ) (x : Filter) → IsSoundBut But l tokens x → IsTruly l.remote x
sound_truly But l tokens x h = record {
  unvalidated = h.unvalidated;
  contents = h.now.contents;
  based = all_weaker (λ i. IsRightItem l.remote (usn_after x.volume.epoch x.volume.place) i) (λ i. HasBase l.remote i.identity) (λ i k. k.based) x.volume.items h.now.right;
  of_log = h.of_log.0;
}

pub data_is : (own : WaitId) (bs : List ℕ) (id : WaitId) (bytes : List ℕ) → ◌≡◌ {A = Option (WaitId × List ℕ)} (Some (own, bs)) (Some (id, bytes)) → bs ≡ bytes
data_is own bs id bytes z = let y : ◌≡◌ {A = WaitId × List ℕ} (own, bs) (id, bytes) = cc in ap (λ (p : WaitId × List ℕ). p.1) y

pub data_of : (own : WaitId) (d : End) (id : WaitId) (bytes : List ℕ) → data_shown (notice.Done own d) ≡ Some (id, bytes) → own ≡ id
data_of own (end.Data bs) id bytes z = let y : ◌≡◌ {A = Option (WaitId × List ℕ)} (Some (own, bs)) (Some (id, bytes)) = z in let x : ◌≡◌ {A = WaitId × List ℕ} (own, bs) (id, bytes) = cc in ap (λ (p : WaitId × List ℕ). p.0) x
data_of own d id bytes z = none z where
  none : ◌≡◌ {A = Option (WaitId × List ℕ)} None (Some (id, bytes)) → own ≡ id
  none y = cc

-- a line with data is of a read that was met
pub is_data : (items : List Item) (w : Wait) (c : Cause) (k : WaitKind) → w.kind ≡ k → (p : WaitId × List ℕ) → data_shown (notice.Done w.id (end_of items w c)) ≡ Some p → (c ≡ cause.Met) × (w.kind ≡ wait_kind.Read)
is_data items w c k e p h = by c k e h where
  Goal : Cause → Type 0
  Goal c = (c ≡ cause.Met) × (w.kind ≡ wait_kind.Read)

  none : (c : Cause) → ◌≡◌ {A = Option (WaitId × List ℕ)} None (Some p) → Goal c
  none c z = cc

  met : (k : WaitKind) → w.kind ≡ k → data_shown (notice.Done w.id (end_met k items w)) ≡ Some p → Goal cause.Met
  met wait_kind.Read f z = (refl, f)
  met wait_kind.Hydrate f z = none cause.Met z
  met wait_kind.Background f z = none cause.Met z
  met wait_kind.List f z = none cause.Met z
  met wait_kind.Dehydrate f z = none cause.Met z

  by : (c : Cause) (k : WaitKind) → w.kind ≡ k → data_shown (notice.Done w.id (end_of items w c)) ≡ Some p → Goal c
  by cause.Met k f z = met k f (subst (λ (u : WaitKind). data_shown (notice.Done w.id (end_met u items w)) ≡ Some p) f z)
  by cause.Emptied k f z = none cause.Emptied z
  by (cause.Failed status) k f z = none (cause.Failed status) z
  by cause.TimedOut k f z = none cause.TimedOut z
  by cause.Cancelled k f z = none cause.Cancelled z
  by cause.Closed k f z = none cause.Closed z
  by cause.Down k f z = none cause.Down z
  by (cause.Refused code) k f z = none (cause.Refused code) z

module _ (base : Log) (ws : List Wait) (e n : ℕ) (Fair : Type 0) (r : Held) where
  -- what is told of the ends of these waits of a filter, as long as its items stay
  abbrev Telling : Filter → Waiting → Filter → Type 0
  Telling x v y = ReadingOf base ws e n Fair r y.volume.log y.notes v.epoch v.waits v.wait_count × (y.waiting ≡ v) × (y.volume.items ≡ x.volume.items) × (y.volume.log ≡ x.volume.log)

  abbrev EndRight : Filter → Wait × Cause → Type 0
  EndRight x w = Known base ws e n w.0 × EndsMet x w

  line_right : (x y : Filter) (v : Waiting) (w : Wait × Cause) → (Fair → IsTruly r x) → Telling x v y → EndRight x w → Fair → LineRight base ws e n r y.notes (notice.Done w.0.id (end_of y.volume.items w.0 w.1))
  line_right x y v w truly h right fair id bytes shows given =
      let is = is_data y.volume.items w.0 w.1 w.0.kind refl (id, bytes) shows in
      let t = truly fair in
      let met : is_met (view_at x w.0.item) w.0 ≡ true = right.1 is.1 is.0 in
      let same_id : w.0.id ≡ id = data_of w.0.id (end_of y.volume.items w.0 w.1) id bytes shows in (
        w.0,
        right.0 (subst (λ (k : WaitId). WasGiven e n k.0) (sym same_id) given),
        same_id,
        λ i found file.
            let items : items_of (base ++ changes_in y.notes) ≡ x.volume.items = ap items_of (sym h.0.shown ∙ h.3) ∙ sym t.of_log in
            let found_now : item_of x.volume.items w.0.item ≡ Some i = subst (λ (is : List Item). item_of is w.0.item ≡ Some i) items found in
            let ends : end_of x.volume.items w.0 cause.Met ≡ end.Data (slice_range (content r i) w.0.span.start (w.0.span.start + w.0.span.len)) =
            read_right r x w.0 i t.unvalidated ((all_found (λ j. j.directory ≡ false → IsTrueTo r j) (λ j. j.id.0 == w.0.item.0) x.volume.items i found_now t.contents).0 file) is.1 found_now met in (
              (all_found (λ j. HasBase r j.identity) (λ j. j.id.0 == w.0.item.0) x.volume.items i found_now t.based).0,
              sym (data_is w.0.id (slice_range (content r i) w.0.span.start (w.0.span.start + w.0.span.len)) id bytes
                  (ap (λ (d : End). data_shown (notice.Done w.0.id d)) (sym ends)
                  ∙ ap (λ (is : List Item). data_shown (notice.Done w.0.id (end_of is w.0 cause.Met))) (sym h.2)
                  ∙ ap (λ (c : Cause). data_shown (notice.Done w.0.id (end_of y.volume.items w.0 c))) (sym is.0) ∙ shows)),
            ),
      )

  -- one end
  ended : (x : Filter) (v : Waiting) (w : Wait × Cause) → (Fair → IsTruly r x) → EndRight x w → (y : Filter) → Telling x v y → Telling x v (with_ended w y)
  ended x v w truly right y h = accesses (is_access w.0.kind w.1) (tell_end w.0.id (end_of y.volume.items w.0 w.1) (is_own w.0.id y) y) (tells (is_own w.0.id y)) where
    tells : (own : Bool) → Telling x v (tell_end w.0.id (end_of y.volume.items w.0 w.1) own y)
    tells true = h
    tells false = (
      record {
        shown = h.0.shown ∙ ap (λ (cs : Log). base ++ cs) (sym (changes_more y.notes (notice.Done w.0.id (end_of y.volume.items w.0 w.1) ∷ []) ∙ append-nil (changes_in y.notes)));
        same = h.0.same;
        later = h.0.later;
        known = h.0.known;
        lines = λ fair. lines_more (LineRight base ws e n r) [] y.notes (notice.Done w.0.id (end_of y.volume.items w.0 w.1) ∷ []) (h.0.lines fair) (line_right x y v w truly h right fair, tt);
      },
      h.1,
      h.2,
      h.3,
    )

    accesses : (is : Bool) (z : Filter) → Telling x v z → Telling x v (if is then accessed w.0.item z else z)
    accesses true z k = k
    accesses false z k = k

  ends : (x : Filter) (v : Waiting) (es : List (Wait × Cause)) → (Fair → IsTruly r x) → All (EndRight x) es → (y : Filter) → Telling x v y → Keeps (Telling x v) (each end_wait es y)
  ends x v [] truly right y h = h
  ends x v (w ∷ es) truly right y h = (h, ends x v es truly right.1 (with_ended w y) (ended x v w truly right.0 y h))

  -- what is told after a step
  pub told : (x : Filter) (t : Told × Waiting) → (Fair → IsTruly r x) → All (EndRight x) t.0.ended → ReadingOf base ws e n Fair r x.volume.log x.notes t.1.epoch t.1.waits t.1.wait_count → Keeps (Reading base ws e n Fair r) (tell t x)
  told x t truly right h =
      keeps_from (Reading base ws e n Fair r) (Telling x t.1) (each end_wait t.0.ended (with_waiting t.1 x)) (λ _ u. Ret (record {}) (with_asks_told t.0 u))
      (λ u k. waits_are u k.1 k.0) (ends x t.1 t.0.ended truly right (with_waiting t.1 x) (h, refl, refl, refl))
      (λ a u k. asks_told u (waits_are u k.1 k.0))
    where
      waits_are : (u : Filter) → u.waiting ≡ t.1 → ReadingOf base ws e n Fair r u.volume.log u.notes t.1.epoch t.1.waits t.1.wait_count → Reading base ws e n Fair r u
      waits_are u same k = subst (λ (w : Waiting). ReadingOf base ws e n Fair r u.volume.log u.notes w.epoch w.waits w.wait_count) (sym same) k

      asks_told : (u : Filter) → Reading base ws e n Fair r u → Reading base ws e n Fair r (with_asks_told t.0 u)
      asks_told u k =
          plainly base ws e n Fair r u.volume.log (u.notes ++ map cancel_line t.0.cancelled) (map ask_line t.0.made) u.waiting.epoch u.waiting.waits u.waiting.wait_count (none_in ask_line (λ a. refl) t.0.made) (all_lines ask_line (λ a. refl) t.0.made)
          (plainly base ws e n Fair r u.volume.log u.notes (map cancel_line t.0.cancelled) u.waiting.epoch u.waiting.waits u.waiting.wait_count (none_in cancel_line (λ a. refl) t.0.cancelled) (all_lines cancel_line (λ a. refl) t.0.cancelled) k)

  -- a step of the ask rule on an item
  pub settles : (item : ItemId) (d : Deed) (x : Filter) → EndsOthers d x → (Fair → IsTruly r x) → Reading base ws e n Fair r x → Keeps (Reading base ws e n Fair r) (settle item d x)
  settles item d x others truly h =
      told x (told_at item d x) truly (all_ended (Known base ws e n) (EndRight x) (why item (view_at x item) d x.waiting.asks) (λ w c k is. (k, step_ends x item d others w c is)) x.waiting.waits h.known)
      (record { shown = h.shown; same = h.same; later = h.later; known = all_filter (Known base ws e n) _ x.waiting.waits h.known; lines = h.lines })
