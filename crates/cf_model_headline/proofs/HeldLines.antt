-- Lines with data within an event, of any provider: each shows the bytes that are held.
use Rattle.std.proofs.Common.{◌≡◌, ◌⊎◌, ◌<◌, ◌≤◌, ◌+◌, ℕ, Bool, true, false, List, [], ◌∷◌, ◌++◌, append-nil, append_assoc, refl, sym, ◌∙◌, ap, subst, inl, inr, arith, length, if◌then◌else◌}
use Rattle.std.specs.Prelude.{Option, Some, None, map}
use Rattle.cf_base.specs.declared.answers.Shown.TheVariants as shown
use Rattle.cf_base.specs.declared.changes.Change.{Change}
use Rattle.cf_base.specs.declared.ids.ItemId.{ItemId}
use Rattle.cf_base.specs.declared.ids.WaitId.{WaitId}
use Rattle.cf_base.specs.declared.notices.Notice.{Notice}
use Rattle.cf_base.specs.declared.notices.Notice.TheVariants as notice
use Rattle.cf_base.specs.declared.waits.Cause.{Cause}
use Rattle.cf_base.specs.declared.waits.Cause.TheVariants as cause
use Rattle.cf_base.specs.declared.waits.WaitKind.{WaitKind}
use Rattle.cf_base.specs.declared.waits.WaitKind.TheVariants as wait_kind
use Rattle.cf_model.specs.Arrows.{each}
use Rattle.cf_model.specs.Asks.{why}
use Rattle.cf_model.specs.Books.{Book}
use Rattle.cf_model.specs.Changes.{change_with, next_number, put_with_book}
use Rattle.cf_model.specs.Effects.{effect}
use Rattle.cf_model.specs.Items.{Item, root}
use Rattle.cf_model.specs.Logs.{items_of}
use Rattle.cf_model.specs.Missing.{Wait, no_span}
use Rattle.cf_model.specs.Numbers.{key_after}
use Rattle.cf_model.specs.Points.{with_room_point}
use Rattle.cf_model.specs.Requests.{Deed, Nothing, Told, Waiting, also_background, wait_after}
use Rattle.cf_model.specs.Settling.{accessed, ask_line, bytes_at, cancel_line, end_met, end_of, end_wait, is_access, is_own, settle, tell, tell_end, told_at, view_at, with_asks_told, with_ended, with_waiting}
use Rattle.cf_model.specs.State.{Filter, Volume, with_notes, with_volume}
use Rattle.cf_model.specs.Trees.{Keeps, Ret}
use Rattle.cf_model.specs.Waits.{Need, all_down, background_line, begun, beside, own_id, wait_for, with_own}
use Rattle.cf_model.specs.Words.{when}
use Rattle.cf_model.proofs.TreeLaws.{keeps_bind}
use Rattle.cf_model_laws.specs.GivenOnce.{WasGiven}
use Rattle.cf_model_laws.specs.Invariant.{All}
use Rattle.cf_model_laws.proofs.Gathered.{all_append, all_filter, all_map}
use Rattle.cf_model_laws.proofs.Leading.{kept_leads}
use Rattle.cf_model_laws.proofs.LoggedGuarded.{items_more}
use Rattle.cf_model_laws.proofs.SoundFilters.{change_leads}
use Rattle.cf_model_headline.specs.Reads.{IsIn, data_shown}
use Rattle.cf_model_headline.specs.Reports.{changes_in}
use Rattle.cf_model_headline.proofs.ReadLines.{EachLine, Log, all_ended, all_lines, data_is, data_of, is_data, lines_more}
use Rattle.cf_model_headline.proofs.ShownChanges.{Noticed, changes_more, none_in}

-- Beside an event that began with these waits, and so many given in the epoch.
module _ (base : Log) (ws : List Wait) (e n : ℕ) where
  abbrev pub Known : Wait → Type 0
  Known v = WasGiven e n v.id.0 → IsIn v ws

  abbrev pub LineHeld : List Notice → Notice → Type 0
  LineHeld front m = (id : WaitId) (bytes : List ℕ) → data_shown m ≡ Some (id, bytes) → WasGiven e n id.0 → (v : Wait) × IsIn v ws × (v.id ≡ id) × (bytes ≡ bytes_at (items_of (base ++ changes_in front)) v.item v.span)

  pub record HoldingOf (log : Log) (items : List Item) (notes : List Notice) (epoch given : ℕ) (waits : List Wait) (count : ℕ) : Type 0 where
    pub shown : log ≡ base ++ changes_in notes
    pub made : items ≡ items_of log
    pub same : (epoch ≡ e) × (given ≡ e)
    pub later : n ≤ count
    pub known : All Known waits
    pub lines : EachLine LineHeld [] notes

  abbrev pub Holding : Filter → Type 0
  Holding x = HoldingOf x.volume.log x.volume.items x.notes x.volume.epoch x.waiting.epoch x.waiting.waits x.waiting.wait_count

  plain_lines : (front ms : List Notice) → All (λ m. data_shown m ≡ None) ms → EachLine LineHeld front ms
  plain_lines front [] h = tt
  plain_lines front (m ∷ ms) h = ((λ id bytes k. absurd (none id bytes (sym h.0 ∙ k))), plain_lines (front ++ m ∷ []) ms h.1) where
    none : (id : WaitId) (bytes : List ℕ) → ◌≡◌ {A = Option (WaitId × List ℕ)} None (Some (id, bytes)) → ⊥
    none id bytes z = cc

  plainly : (ms : List Notice) (x : Filter) → changes_in ms ≡ [] → All (λ m. data_shown m ≡ None) ms → Holding x → Holding (with_notes ms x)
  plainly ms x none plain h = record {
    shown = h.shown ∙ ap (λ (cs : Log). base ++ cs) (sym (changes_more x.notes ms ∙ ap (λ (cs : Log). changes_in x.notes ++ cs) none ∙ append-nil (changes_in x.notes)));
    made = h.made;
    same = h.same;
    later = h.later;
    known = h.known;
    lines = lines_more LineHeld [] x.notes ms h.lines (plain_lines x.notes ms plain);
  }

  -- a change with its line
  changing : (f : Book → Book) (c : Change) (x : Filter) → Holding x → Keeps Holding (change_with f c x)
  changing f c x h = kept_leads Holding (change_with f c x) (change_leads Holding Holding f c x h h h (λ v is. by v is)) where
    now : Holding (with_notes (notice.Change (next_number x.volume) c ∷ []) (with_volume (put_with_book f c x.volume) x))
    now = record {
      shown = ap (λ (cs : Log). cs ++ (next_number x.volume, c) ∷ []) h.shown ∙ append_assoc base (changes_in x.notes) ((next_number x.volume, c) ∷ []) ∙ ap (λ (cs : Log). base ++ cs) (sym (changes_more x.notes (notice.Change (next_number x.volume) c ∷ [])));
      made = ap (λ (is : List Item). effect is c (next_number x.volume)) h.made ∙ sym (items_more (root ∷ []) x.volume.log (next_number x.volume) c);
      same = h.same;
      later = h.later;
      known = h.known;
      lines = lines_more LineHeld [] x.notes (notice.Change (next_number x.volume) c ∷ []) h.lines (plain_lines x.notes (notice.Change (next_number x.volume) c ∷ []) (refl, tt));
    }

    by : (v : Volume) → (v ≡ x.volume) ⊎ (v ≡ with_room_point x.volume) → Holding (with_notes (notice.Change (next_number v) c ∷ []) (with_volume (put_with_book f c v) x))
    by v (inl q) = subst (λ (w : Volume). Holding (with_notes (notice.Change (next_number w) c ∷ []) (with_volume (put_with_book f c w) x))) (sym q) now
    by v (inr q) = subst (λ (w : Volume). Holding (with_notes (notice.Change (next_number w) c ∷ []) (with_volume (put_with_book f c w) x))) (sym q)
        (record { shown = now.shown; made = now.made; same = now.same; later = now.later; known = now.known; lines = now.lines })

  -- the ends of waits

  line_held : (y : Filter) (w : Wait × Cause) → HoldingOf y.volume.log y.volume.items y.notes y.volume.epoch y.waiting.epoch y.waiting.waits y.waiting.wait_count → Known w.0 → LineHeld y.notes (notice.Done w.0.id (end_of y.volume.items w.0 w.1))
  line_held y w h known id bytes shows given =
      let is = is_data y.volume.items w.0 w.1 w.0.kind refl (id, bytes) shows in
      let same_id : w.0.id ≡ id = data_of w.0.id (end_of y.volume.items w.0 w.1) id bytes shows in (
        w.0,
        known (subst (λ (k : WaitId). WasGiven e n k.0) (sym same_id) given),
        same_id,
        sym (data_is w.0.id (bytes_at y.volume.items w.0.item w.0.span) id bytes
            (ap (λ (k : WaitKind). data_shown (notice.Done w.0.id (end_met k y.volume.items w.0))) (sym is.1) ∙ ap (λ (c : Cause). data_shown (notice.Done w.0.id (end_of y.volume.items w.0 c))) (sym is.0) ∙ shows))
            ∙ ap (λ (is : List Item). bytes_at is w.0.item w.0.span) (h.made ∙ ap items_of h.shown),
      )

  ended : (w : Wait × Cause) → Known w.0 → (y : Filter) → Holding y → Holding (with_ended w y)
  ended w known y h = accesses (is_access w.0.kind w.1) (tell_end w.0.id (end_of y.volume.items w.0 w.1) (is_own w.0.id y) y) (tells (is_own w.0.id y)) where
    tells : (own : Bool) → Holding (tell_end w.0.id (end_of y.volume.items w.0 w.1) own y)
    tells true = h
    tells false = record {
      shown = h.shown ∙ ap (λ (cs : Log). base ++ cs) (sym (changes_more y.notes (notice.Done w.0.id (end_of y.volume.items w.0 w.1) ∷ []) ∙ append-nil (changes_in y.notes)));
      made = h.made;
      same = h.same;
      later = h.later;
      known = h.known;
      lines = lines_more LineHeld [] y.notes (notice.Done w.0.id (end_of y.volume.items w.0 w.1) ∷ []) h.lines (line_held y w h known, tt);
    }

    accesses : (is : Bool) (z : Filter) → Holding z → Holding (if is then accessed w.0.item z else z)
    accesses true z k = k
    accesses false z k = k

  ends : (es : List (Wait × Cause)) → All (λ w. Known w.0) es → (y : Filter) → Holding y → Keeps Holding (each end_wait es y)
  ends [] known y h = h
  ends (w ∷ es) known y h = (h, ends es known.1 (with_ended w y) (ended w known.0 y h))

  told : (x : Filter) (t : Told × Waiting) → All (λ w. Known w.0) t.0.ended → Holding (with_waiting t.1 x) → Keeps Holding (tell t x)
  told x t known h =
      keeps_bind Holding (each end_wait t.0.ended (with_waiting t.1 x)) (λ _ u. Ret (record {}) (with_asks_told t.0 u)) (ends t.0.ended known (with_waiting t.1 x) h)
      (λ a u k.
      plainly (map ask_line t.0.made) (with_notes (map cancel_line t.0.cancelled) u) (none_in ask_line (λ a. refl) t.0.made) (all_lines ask_line (λ a. refl) t.0.made)
      (plainly (map cancel_line t.0.cancelled) u (none_in cancel_line (λ a. refl) t.0.cancelled) (all_lines cancel_line (λ a. refl) t.0.cancelled) k))

  settles : (item : ItemId) (d : Deed) (x : Filter) → Holding x → Keeps Holding (settle item d x)
  settles item d x h =
      told x (told_at item d x) (all_ended Known (λ w. Known w.0) (why item (view_at x item) d x.waiting.asks) (λ w c k is. k) x.waiting.waits h.known)
      (record { shown = h.shown; made = h.made; same = h.same; later = h.later; known = all_filter Known _ x.waiting.waits h.known; lines = h.lines })

  -- a wait that begins

  new_unknown : (epoch count k : ℕ) → epoch ≡ e → n ≤ count → WasGiven e n (key_after epoch (count + k)) → ⊥
  new_unknown epoch count k same more (inl h) = less epoch e same h where
    less : (a b : ℕ) → a ≡ b → a < b → ⊥
    less a b e h = omega (arith, e, h)
  new_unknown epoch count k same more (inr h) = past count k n more h.1 where
    past : (c k n : ℕ) → n ≤ c → c + k + 1 ≤ n → ⊥
    past c k n h g = omega (arith, h, g)

  begins : (need : Need) (x : Filter) → Holding x → Keeps Holding (tell (begun need x) (with_own need x))
  begins need x h =
      told (with_own need x) (begun need x) (all_ended Known (λ w. Known w.0) (why need.item (view_at x need.item) Nothing x.waiting.asks) (λ w c k is. k) (x.waiting.waits ++ wait_for need x ∷ beside need x) known)
      (record {
        shown = lines.shown;
        made = lines.made;
        same = lines.same;
        later = more n x.waiting.wait_count (length (wait_for need x ∷ beside need x)) h.later;
        known = all_filter Known _ (x.waiting.waits ++ wait_for need x ∷ beside need x) known;
        lines = lines.lines;
      })
    where
      more : (a b c : ℕ) → a ≤ b → a ≤ b + c
      more a b c h = omega (arith, h)

      others : (b : Bool) → All Known (when b (wait_after x.waiting 1 wait_kind.Background need.item None no_span ∷ []))
      others true = ((λ given. absurd (new_unknown x.waiting.epoch x.waiting.wait_count 1 h.same.1 h.later given)), tt)
      others false = tt

      known : All Known (x.waiting.waits ++ wait_for need x ∷ beside need x)
      known = all_append Known x.waiting.waits (wait_for need x ∷ beside need x) h.known
          ((λ given. absurd (new_unknown x.waiting.epoch x.waiting.wait_count 0 h.same.1 h.later given)), others (also_background need.background need.item x.waiting))

      lines : Holding (with_notes (map background_line (beside need x)) x)
      lines = plainly (map background_line (beside need x)) x (none_in background_line (λ w. refl) (beside need x)) (all_lines background_line (λ w. refl) (beside need x)) h

  accesses_held : (item : ItemId) (is : Bool) (x : Filter) → Holding x → Holding (if is then accessed item x else x)
  accesses_held item true x h = h
  accesses_held item false x h = h

  pub lines_held : Noticed Holding
  lines_held = record {
    closed = record {
      change = λ f c. record { keeps = changing f c };
      commits = record { keeps = λ x h. (h, h) };
      settled = λ item d. record { keeps = settles item d };
      begins = λ need. record { keeps = λ x h. keeps_bind Holding (tell (begun need x) (with_own need x)) (λ _ t. Ret (shown.Pending (own_id need x)) t) (begins need x h) (λ a t j. j) };
      downs = record {
        keeps = λ x h. told x (all_down x) (all_map Known (λ w. Known w.0) (λ w. (w, cause.Down)) (λ w k. k) x.waiting.waits h.known) (record { shown = h.shown; made = h.made; same = h.same; later = h.later; known = tt; lines = h.lines });
      };
      keeps_accessed = λ item x h. h;
      keeps_accessed_now = λ need x h. accesses_held need.item (is_access need.kind cause.Met) x h;
      keeps_as_it_is = λ x h. h;
      keeps_begin_call = λ x h. h;
      keeps_connected_again = λ x h. h;
      keeps_disconnected = λ x h. h;
      keeps_with_handle = λ item x h. h;
      keeps_with_policy = λ p x h. h;
      keeps_with_time = λ ticks x h. h;
      keeps_without_handle = λ handle x h. h;
    };
    notes = λ m x none plain h. plainly (m ∷ []) x (ap (λ (cs : Log). cs ++ []) none) (plain, tt) h;
    boxes = λ asks x h. h;
    books = λ b x h. h;
  }
