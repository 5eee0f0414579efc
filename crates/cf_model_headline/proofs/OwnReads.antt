-- A read that waits in its own call: the data that ends it is the span that was asked for.
use Rattle.std.proofs.Common.{◌≡◌, ◌+◌, ℕ, Bool, true, false, List, [], ◌∷◌, ◌++◌, append-nil, refl, sym, ◌∙◌, ap, subst, if◌then◌else◌}
use Rattle.std.specs.Prelude.{Option, Some, None, map, slice_range, ◌==◌}
use Rattle.std.proofs.lemmas.List.{append_assoc}
use Rattle.cf_base.specs.declared.changes.Change.{Change}
use Rattle.cf_base.specs.declared.ids.ItemId.{ItemId}
use Rattle.cf_base.specs.declared.ids.Usn.{Usn}
use Rattle.cf_base.specs.declared.ids.WaitId.{WaitId}
use Rattle.cf_base.specs.declared.notices.Notice.{Notice}
use Rattle.cf_base.specs.declared.notices.Notice.TheVariants as notice
use Rattle.cf_base.specs.declared.spans.Span.{Span}
use Rattle.cf_base.specs.declared.waits.Cause.{Cause}
use Rattle.cf_base.specs.declared.waits.Cause.TheVariants as cause
use Rattle.cf_base.specs.declared.waits.End.{End}
use Rattle.cf_base.specs.declared.waits.End.TheVariants as end
use Rattle.cf_model.specs.Arrows.{each}
use Rattle.cf_model.specs.Asks.{ended_of, why}
use Rattle.cf_model.specs.Growth.{Extends}
use Rattle.cf_model.specs.Identities.{content}
use Rattle.cf_model.specs.Items.{Item, item_of}
use Rattle.cf_model.specs.Logs.{items_of}
use Rattle.cf_model.specs.Missing.{Wait}
use Rattle.cf_model.specs.Numbers.{same_key}
use Rattle.cf_model.specs.Requests.{Deed, Nothing, Told, Waiting}
use Rattle.cf_model.specs.Settling.{accessed, ask_line, cancel_line, end_of, end_wait, is_access, is_own, settle, tell, tell_end, told_at, view_at, with_asks_told, with_ended, with_waiting}
use Rattle.cf_model.specs.State.{Filter, Link}
use Rattle.cf_model.specs.Store.{Held}
use Rattle.cf_model.specs.Trees.{Keeps, Ret}
use Rattle.cf_model.specs.Waits.{Need, background_line, begun, beside, own_id, wait_for, with_own}
use Rattle.cf_model.specs.Words.{says}
use Rattle.cf_model_laws.specs.Invariant.{All, HasBase, IsSound, NoItem}
use Rattle.cf_model_laws.specs.Premises.{IsFair}
use Rattle.cf_model_laws.proofs.BesideGuarded.{Holds}
use Rattle.cf_model_laws.proofs.Gathered.{all_found}
use Rattle.cf_model_laws.proofs.Guarded.{EndsOthers}
use Rattle.cf_model_laws.proofs.LoggedGuarded.{content_grows}
use Rattle.cf_model_laws.proofs.OperationsGuarded.{keys_same}
use Rattle.cf_model_laws.proofs.ReadLaws.{read_right}
use Rattle.cf_model_laws.proofs.SoundLinks.{based_still}
use Rattle.cf_model.specs.Contents.{IsTrueTo}
use Rattle.cf_model_headline.specs.Reads.{data_shown}
use Rattle.cf_model_headline.specs.Reports.{changes_in}
use Rattle.cf_model_headline.proofs.AskedReads.{IsThe, IsWait, begins_other}
use Rattle.cf_model_headline.proofs.ReadLines.{EndsMet, IsRight, IsTruly, Log, all_ended, is_data, keeps_from, sound_truly, step_ends}
use Rattle.cf_model_headline.proofs.ShownChanges.{changes_more, none_in}

pub under : {A : Type 0} (F : Type 0) (K : A → Type 0) (xs : List A) → (F → All K xs) → All (λ x. F → K x) xs
under F K [] h = tt
under F K (x ∷ xs) h = ((λ f. (h f).0), under F K xs (λ f. (h f).1))

-- Within an event that began with these changes: of the wait with this number, for a span of a file.
module _ (base : Log) (id : WaitId) (item : ItemId) (span : Span) where
  -- these bytes are the span, as the file is behind some first of these lines
  abbrev pub RightBehind : Held → List Notice → List ℕ → Type 0
  RightBehind r notes bytes = (front : List Notice) × (back : List Notice) × (notes ≡ front ++ back) × IsRight r (base ++ changes_in front) item span bytes

  pub record OwnOf (Fair : Type 0) (r : Held) (log : Log) (notes : List Notice) (own : Option WaitId) (ending : Option End) : Type 0 where
    pub shown : log ≡ base ++ changes_in notes
    pub bytes_right : Fair → own ≡ Some id → (bytes : List ℕ) → ending ≡ Some (end.Data bytes) → RightBehind r notes bytes

  abbrev pub Own : Type 0 → Held → Filter → Type 0
  Own Fair r x = OwnOf Fair r x.volume.log x.notes x.own x.ending

  longer : (r : Held) (notes ms : List Notice) (bytes : List ℕ) → RightBehind r notes bytes → RightBehind r (notes ++ ms) bytes
  longer r notes ms bytes h = (h.0, h.1 ++ ms, ap (λ (ns : List Notice). ns ++ ms) h.2 ∙ append_assoc h.0 h.1 ms, h.3)

  -- lines without a change
  pub plainly : (Fair : Type 0) (r : Held) (log : Log) (notes ms : List Notice) (own : Option WaitId) (ending : Option End) → changes_in ms ≡ [] → OwnOf Fair r log notes own ending → OwnOf Fair r log (notes ++ ms) own ending
  plainly Fair r log notes ms own ending none h = record {
    shown = h.shown ∙ ap (λ (cs : Log). base ++ cs) (sym (changes_more notes ms ∙ ap (λ (cs : Log). changes_in notes ++ cs) none ∙ append-nil (changes_in notes)));
    bytes_right = λ fair is bytes shows. longer r notes ms bytes (h.bytes_right fair is bytes shows);
  }

  -- a change with its line
  pub changing : (Fair : Type 0) (r : Held) (log : Log) (notes : List Notice) (own : Option WaitId) (ending : Option End) (number : Usn) (c : Change) → OwnOf Fair r log notes own ending → OwnOf Fair r (log ++ (number, c) ∷ []) (notes ++ notice.Change number c ∷ []) own ending
  changing Fair r log notes own ending number c h = record {
    shown = ap (λ (cs : Log). cs ++ (number, c) ∷ []) h.shown ∙ append_assoc base (changes_in notes) ((number, c) ∷ []) ∙ ap (λ (cs : Log). base ++ cs) (sym (changes_more notes (notice.Change number c ∷ [])));
    bytes_right = λ fair is bytes shows. longer r notes (notice.Change number c ∷ []) bytes (h.bytes_right fair is bytes shows);
  }

  -- a remote that grows
  pub growing : (Fair More : Type 0) (r s : Held) (log : Log) (notes : List Notice) (own : Option WaitId) (ending : Option End) → (More → Fair × Extends r s) → OwnOf Fair r log notes own ending → OwnOf More s log notes own ending
  growing Fair More r s log notes own ending k h = record {
    shown = h.shown;
    bytes_right = λ more is bytes shows. let x = h.bytes_right (k more).0 is bytes shows in (
      x.0,
      x.1,
      x.2,
      λ i found file. let b = x.3 i found file in (
        based_still r s i.identity (k more).1 b.0,
        b.1 ∙ ap (λ (c : List ℕ). slice_range c span.start (span.start + span.len)) (sym (content_grows r s (k more).1 i b.0)),
      ),
    );
  }

  module _ (Fair : Type 0) (r : Held) where
    abbrev Telling : Filter → Filter → Type 0
    Telling x y = Own Fair r y × (y.volume.items ≡ x.volume.items) × (y.volume.log ≡ x.volume.log)

    abbrev EndRight : Filter → Wait × Cause → Type 0
    EndRight x w = (Fair → IsThe id.0 item span w.0) × EndsMet x w

    data_in : (d : End) (bytes : List ℕ) → ◌≡◌ {A = Option End} (Some d) (Some (end.Data bytes)) → d ≡ end.Data bytes
    data_in d bytes z = cc

    bytes_in : (a b : List ℕ) → end.Data a ≡ end.Data b → a ≡ b
    bytes_in a b z = let y : ◌≡◌ {A = End} (end.Data a) (end.Data b) = z in cc

    here : (x y : Filter) (w : Wait × Cause) → (Fair → IsTruly r x) → EndRight x w → Telling x y → Fair → w.0.id.0 ≡ id.0 → (bytes : List ℕ) → end_of y.volume.items w.0 w.1 ≡ end.Data bytes → RightBehind r y.notes bytes
    here x y w truly right h fair is bytes shows =
        let the : (w.0.item ≡ item) × (w.0.span ≡ span) = right.0 fair is in
        let of_read = is_data y.volume.items w.0 w.1 w.0.kind refl (w.0.id, bytes) (ap (λ (d : End). data_shown (notice.Done w.0.id d)) shows) in
        let t = truly fair in (
          y.notes,
          [],
          sym (append-nil y.notes),
          λ i found file.
              let now : item_of x.volume.items w.0.item ≡ Some i =
              subst (λ (k : ItemId). item_of x.volume.items k ≡ Some i) (sym the.0) (subst (λ (js : List Item). item_of js item ≡ Some i) (ap items_of (sym h.0.shown ∙ h.2) ∙ sym t.of_log) found) in
              let ends : end_of x.volume.items w.0 cause.Met ≡ end.Data (slice_range (content r i) w.0.span.start (w.0.span.start + w.0.span.len)) =
              read_right r x w.0 i t.unvalidated ((all_found (λ j. j.directory ≡ false → IsTrueTo r j) (λ j. j.id.0 == w.0.item.0) x.volume.items i now t.contents).0 file) of_read.1 now (right.1 of_read.1 of_read.0) in (
                (all_found (λ j. HasBase r j.identity) (λ j. j.id.0 == w.0.item.0) x.volume.items i now t.based).0,
                bytes_in bytes (slice_range (content r i) w.0.span.start (w.0.span.start + w.0.span.len))
                    (sym shows ∙ ap (λ (c : Cause). end_of y.volume.items w.0 c) of_read.0 ∙ ap (λ (js : List Item). end_of js w.0 cause.Met) h.1 ∙ ends)
                    ∙ ap (λ (p : Span). slice_range (content r i) p.start (p.start + p.len)) the.1,
              ),
        )

    same_id : (y : Filter) (w : WaitId) → y.own ≡ Some id → is_own w y ≡ true → w.0 ≡ id.0
    same_id y w own q = sym (keys_same id.0 w.0 (sym (ap (λ (o : Option WaitId). says (λ k. same_key k.0 w.0) o) own) ∙ q))

    ended : (x : Filter) (w : Wait × Cause) → (Fair → IsTruly r x) → EndRight x w → (y : Filter) → Telling x y → Telling x (with_ended w y)
    ended x w truly right y h = accesses (is_access w.0.kind w.1) (tell_end w.0.id (end_of y.volume.items w.0 w.1) (is_own w.0.id y) y) (tells (is_own w.0.id y) refl) where
      tells : (b : Bool) → is_own w.0.id y ≡ b → Telling x (tell_end w.0.id (end_of y.volume.items w.0 w.1) b y)
      tells true q = (
        record { shown = h.0.shown; bytes_right = λ fair own bytes shows. here x y w truly right h fair (same_id y w.0.id own q) bytes (data_in (end_of y.volume.items w.0 w.1) bytes shows) },
        h.1,
        h.2,
      )
      tells false q = (plainly Fair r y.volume.log y.notes (notice.Done w.0.id (end_of y.volume.items w.0 w.1) ∷ []) y.own y.ending refl h.0, h.1, h.2)

      accesses : (is : Bool) (z : Filter) → Telling x z → Telling x (if is then accessed w.0.item z else z)
      accesses true z k = k
      accesses false z k = k

    ends : (x : Filter) (es : List (Wait × Cause)) → (Fair → IsTruly r x) → All (EndRight x) es → (y : Filter) → Telling x y → Keeps (Telling x) (each end_wait es y)
    ends x [] truly right y h = h
    ends x (w ∷ es) truly right y h = (h, ends x es truly right.1 (with_ended w y) (ended x w truly right.0 y h))

    pub told : (x : Filter) (t : Told × Waiting) → (Fair → IsTruly r x) → All (EndRight x) t.0.ended → Own Fair r x → Keeps (Own Fair r) (tell t x)
    told x t truly right h =
        keeps_from (Own Fair r) (Telling x) (each end_wait t.0.ended (with_waiting t.1 x)) (λ _ u. Ret (record {}) (with_asks_told t.0 u))
        (λ u k. k.0) (ends x t.0.ended truly right (with_waiting t.1 x) (h, refl, refl))
        (λ a u k.
        plainly Fair r u.volume.log (u.notes ++ map cancel_line t.0.cancelled) (map ask_line t.0.made) u.own u.ending (none_in ask_line (λ a. refl) t.0.made)
        (plainly Fair r u.volume.log u.notes (map cancel_line t.0.cancelled) u.own u.ending (none_in cancel_line (λ a. refl) t.0.cancelled) k.0))

    pub settles : (at : ItemId) (d : Deed) (x : Filter) → EndsOthers d x → (Fair → IsTruly r x) → (Fair → All (IsThe id.0 item span) x.waiting.waits) → Own Fair r x → Keeps (Own Fair r) (settle at d x)
    settles at d x others truly known h =
        told x (told_at at d x) truly
        (all_ended (λ w. Fair → IsThe id.0 item span w) (EndRight x) (why at (view_at x at) d x.waiting.asks) (λ w c k is. (k, step_ends x at d others w c is)) x.waiting.waits (under Fair (IsThe id.0 item span) x.waiting.waits known)) h

  abbrev pub At : Link → Filter → Type 0
  At l x = Own (IsFair l) l.remote x

  abbrev pub Knows : Link → Filter → Type 0
  Knows l x = Holds (IsWait id.0 item span) l x

  -- the waits and, of those of a need, that they are others
  pub all_the : (l : Link) (tokens : ℕ) (need : Need) (x : Filter) → (IsFair l → IsSound l tokens x) → Knows l x → IsFair l → All (IsThe id.0 item span) (x.waiting.waits ++ wait_for need x ∷ beside need x)
  all_the l tokens need x sound known fair = (begins_other id.0 item span l tokens need x sound known fair).1

  ends_as : (l : Link) (x : Filter) (need : Need) (ws : List Wait) → (IsFair l → All (IsThe id.0 item span) ws) → All (λ w. (IsFair l → IsThe id.0 item span w.0) × EndsMet x w) (ended_of (why need.item (view_at x need.item) Nothing x.waiting.asks) ws)
  ends_as l x need ws known = all_ended (λ w. IsFair l → IsThe id.0 item span w) (λ w. (IsFair l → IsThe id.0 item span w.0) × EndsMet x w) (why need.item (view_at x need.item) Nothing x.waiting.asks) (λ w c k is. (k, step_ends x need.item Nothing tt w c is)) ws (under (IsFair l) (IsThe id.0 item span) ws known)

  pub begins_own : (l : Link) (tokens : ℕ) (need : Need) (x : Filter) → (IsFair l → IsSound l tokens x) → (IsFair l → All (IsThe id.0 item span) (x.waiting.waits ++ wait_for need x ∷ beside need x)) → At l (with_own need x) → Keeps (At l) (tell (begun need x) (with_own need x))
  begins_own l tokens need x sound known h = told (IsFair l) l.remote (with_own need x) (begun need x) (λ fair. sound_truly NoItem l tokens (with_own need x) (sound fair)) (ends_as l x need (x.waiting.waits ++ wait_for need x ∷ beside need x) known) h

-- A wait that begins as the call's own, in a call that has shown nothing yet.
module _ (base : Log) (l : Link) (n : Need) (x : Filter) where
  pub plainly_begun : x.volume.log ≡ base → x.notes ≡ [] → At base (own_id n x) n.item n.span l (with_own n x)
  plainly_begun log none =
      plainly base (own_id n x) n.item n.span (IsFair l) l.remote x.volume.log x.notes (map background_line (beside n x)) (Some (own_id n x)) None (none_in background_line (λ w. refl) (beside n x))
      (record {
        shown = log ∙ sym (append-nil base) ∙ ap (λ (ns : List Notice). base ++ changes_in ns) (sym none);
        bytes_right = λ fair is bytes shows. absurd (no_end bytes shows);
      })
    where
      no_end : (bytes : List ℕ) → ◌≡◌ {A = Option End} None (Some (end.Data bytes)) → ⊥
      no_end bytes z = cc
