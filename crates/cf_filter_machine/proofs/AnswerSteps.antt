-- How waits end, as steps of a filter.
use Rattle.std.proofs.Common.{◌≡◌, ◌+◌, Bool, true, false, ℕ, List, [], map, Option, Some, refl, sym, ◌∙◌, ap, subst, if◌then◌else◌}
use Rattle.std.proofs.lemmas.Bool.{true≢false}
use Rattle.std.specs.Prelude.{Err, IfOk, Ok, OnOk, Result, slice_range}
use Rattle.cf_base.specs.declared.codes.CallError.{CallError}
use Rattle.cf_base.specs.declared.ids.ItemId.{ItemId}
use Rattle.cf_base.specs.declared.ids.WaitId.{WaitId}
use Rattle.cf_base.specs.declared.spans.Span.{Span}
use Rattle.cf_base.specs.declared.waits.Cause.{Cause}
use Rattle.cf_base.specs.declared.waits.Cause.TheVariants as cause
use Rattle.cf_base.specs.declared.waits.End.{End}
use Rattle.cf_base.specs.declared.waits.End.TheVariants as end
use Rattle.cf_base.specs.declared.waits.WaitKind.{WaitKind}
use Rattle.cf_base.specs.declared.waits.WaitKind.TheVariants as wait_kind
use Rattle.cf_disk.specs.Disk.{State}
use Rattle.cf_filter_machine.proofs.BookSteps.{IsRebooked, accessed_good}
use Rattle.cf_filter_machine.proofs.DeskSteps.{stands_with}
use Rattle.cf_filter_machine.proofs.GoodSteps.{same_good}
use Rattle.cf_filter_machine.proofs.HeldParts.{read_at, read_in}
use Rattle.cf_filter_machine.proofs.Seen.{seen_there}
use Rattle.cf_filter_desk.specs.Desks.{Desk, desk_of, ended}
use Rattle.cf_filter_machine.specs.Ends.{IsCutHere, cut_at}
use Rattle.cf_filter_machine.specs.Held.{Held}
use Rattle.cf_filter_machine.specs.Keeping.{IsKeptVolume}
use Rattle.cf_filter_machine.specs.Lasting.{Moved}
use Rattle.cf_filter_machine.specs.Lasts.{stays_put}
use Rattle.cf_filter_machine.specs.Sensing.{Stands, sense}
use Rattle.cf_model.specs.Arrows.{one, unit}
use Rattle.cf_model.specs.Items.{Item, bytes_held, item_of}
use Rattle.cf_model.specs.Missing.{Wait}
use Rattle.cf_model.specs.Settling.{accessed, accessed_by, bytes_at, end_met, end_of, is_access, is_own, tell_end, with_access_to, with_ended}
use Rattle.cf_model.specs.State.{Filter, Volume}
use Rattle.cf_model.specs.Words.{part}
use Rattle.cf_volume_points.specs.At.{At}
use Rattle.cf_filter_steps.specs.Answering.{Answers, Reads}
use Rattle.cf_filter_steps.specs.Good.{IsFileIn, IsGood, IsOnFile}
use Rattle.cf_filter_steps.specs.Putting.{IsHere, bytes_there}
use Rattle.cf_table.specs.Tables.{row_of}
use Rattle.cf_table.specs.declared.rows.Row.{Row}
use Rattle.cf_tree.proofs.Depths.{some_of}

pub on_ok : {A E P : Type 0} (r : Result A E) → P → OnOk r P
on_ok (Ok a) p = p
on_ok (Err e) p = record {}

-- accesses

pub not_accessed : (w : Wait) (c : Cause) (s : Filter) → is_access w.kind c ≡ false → s ≡ accessed_by w c s
not_accessed w c s e = sym (ap (λ (b : Bool). if b then accessed w.item s else s) e)

pub is_accessed : (w : Wait) (c : Cause) (s : Filter) → is_access w.kind c ≡ true → accessed w.item s ≡ accessed_by w c s
is_accessed w c s e = sym (ap (λ (b : Bool). if b then accessed w.item s else s) e)

reads_met : (c : Cause) → is_access wait_kind.Read c ≡ true → c ≡ cause.Met
reads_met cause.Met h = refl
reads_met cause.Emptied h = absurd (true≢false (sym h))
reads_met (cause.Failed status) h = absurd (true≢false (sym h))
reads_met cause.TimedOut h = absurd (true≢false (sym h))
reads_met cause.Cancelled h = absurd (true≢false (sym h))
reads_met cause.Closed h = absurd (true≢false (sym h))
reads_met cause.Down h = absurd (true≢false (sym h))
reads_met (cause.Refused code) h = absurd (true≢false (sym h))

read_kind : (k : WaitKind) (c : Cause) → is_access k c ≡ true → (k ≡ wait_kind.Read) × (c ≡ cause.Met)
read_kind wait_kind.Read c h = (refl, reads_met c h)
read_kind wait_kind.Hydrate c h = absurd (true≢false (sym h))
read_kind wait_kind.Background c h = absurd (true≢false (sym h))
read_kind wait_kind.List c h = absurd (true≢false (sym h))
read_kind wait_kind.Dehydrate c h = absurd (true≢false (sym h))

pub on_file : (k : WaitKind) (c : Cause) (items : List Item) (id : ItemId) → is_access k c ≡ true → IsOnFile k items id → IsFileIn items id
on_file k c items id e h = subst (λ (j : WaitKind). IsOnFile j items id) (read_kind k c e).0 h

pub read_end : (w : Wait) (c : Cause) (items : List Item) (bytes : List ℕ) → is_access w.kind c ≡ true → bytes ≡ bytes_at items w.item w.span → end.Data bytes ≡ end_of items w c
read_end w c items bytes e same =
    let r = read_kind w.kind c e in
    ap (λ (b : List ℕ). end.Data b) same ∙ sym (ap (λ (k : WaitKind). end_met k items w) r.0) ∙ sym (ap (end_of items w) r.1)

-- bytes of a file that were read

module _ {D : Type 0} (state : D → State) (x : Held D) (item : ItemId) (asked cut : Span) (here : IsCutHere (row_of x.known.table.rows item) asked cut) where
  row : (r : Row) × (row_of x.known.table.rows item ≡ Some r) × (cut ≡ cut_at asked r.size)
  row = some_of (row_of x.known.table.rows item) (λ r. cut ≡ cut_at asked r.size) here.cuts

  pub bytes_found : (s : Filter) → Stands state x s → (bytes : List ℕ) → ((i : Item) → item_of s.volume.items item ≡ Some i → map Some bytes ≡ slice_range i.held cut.start (cut.start + cut.len)) → bytes ≡ bytes_at s.volume.items item asked
  bytes_found s h bytes read =
      let i = seen_there state x s h item row.0 row.1 in
      read_at s.volume.items item row.0 i.0 asked cut bytes i.1 i.2 row.2 (read i.0 i.1)

  pub bytes_told : (r : Result (List ℕ) CallError) → ((v : Volume) (i : Item) → At (state x.disk) x.known v → item_of v.items item ≡ Some i → IfOk r (λ b. map Some b ≡ slice_range i.held cut.start (cut.start + cut.len)))
      → IfOk r (λ b. Reads (sense state) (IsHere item asked) (bytes_there item asked) x b)
  bytes_told (Err e) read = record {}
  bytes_told (Ok b) read = record {
    is = λ s h p.
        let i = seen_there state x s h item row.0 row.1 in
        read_in row.0 i.0 asked cut b i.2 row.2 (read s.volume i.0 h.volume i.1)
        ∙ ap (λ (o : Option Item). bytes_held (slice_range (part (λ j. j.held) [] o) asked.start (asked.start + asked.len))) (sym i.1);
  }

-- ends that are told

told_desk : (id : WaitId) (e : End) (own : Bool) (s : Filter) → ended id e own (desk_of s) ≡ desk_of (tell_end id e own s)
told_desk id e true s = refl
told_desk id e false s = refl

told_volume : (id : WaitId) (e : End) (own : Bool) (s : Filter) → (tell_end id e own s).volume ≡ s.volume
told_volume id e true s = refl
told_volume id e false s = refl

told_good : (id : WaitId) (e : End) (own : Bool) (s : Filter) → IsGood s → IsGood (tell_end id e own s)
told_good id e true s h = same_good s (tell_end id e true s) refl refl refl h
told_good id e false s h = same_good s (tell_end id e false s) refl refl refl h

-- the filter once the end is told, without the access
abbrev pub told_end : Wait × Cause → Filter → Filter
told_end e s = tell_end e.0.id (end_of s.volume.items e.0 e.1) (is_own e.0.id s) s

pub end_desk : (e : Wait × Cause) (d : Desk) (s : Filter) (end_is : End) → d ≡ ended e.0.id end_is (is_own e.0.id s) (desk_of s) → end_is ≡ end_of s.volume.items e.0 e.1 → d ≡ desk_of (told_end e s)
end_desk e d s end_is told same = told ∙ ap (λ (z : End). ended e.0.id z (is_own e.0.id s) (desk_of s)) same ∙ told_desk e.0.id (end_of s.volume.items e.0 e.1) (is_own e.0.id s) s

pub end_unread : {D : Type 0} (state : D → State) (P : Filter → Type 0) (e : Wait × Cause) (x y : Held D) (d : Desk) → y ≡ record x { desk = d } → is_access e.0.kind e.1 ≡ false → ((s : Filter) → Stands state x s → d ≡ desk_of (told_end e s))
    → Answers (sense state) P (one (with_ended e)) x (Ok unit) y
end_unread {D} state P e x y d is none desk = subst (λ (z : Held D). Answers (sense state) P (one (with_ended e)) x (Ok unit) z) (sym is) (record {
  leads = λ s h p.
      let same : told_end e s ≡ with_ended e s = not_accessed e.0 e.1 (told_end e s) none in (
        told_end e s,
        (refl, same),
        subst (λ (v : Volume). Moved (state x.disk) (state x.disk) s.volume v) (sym (told_volume e.0.id (end_of s.volume.items e.0 e.1) (is_own e.0.id s) s)) (stays_put (state x.disk) x.known s.volume h.fair h.volume h.points),
        stands_with state x d s (told_end e s) h (told_volume e.0.id (end_of s.volume.items e.0 e.1) (is_own e.0.id s) s) (desk s h) (told_good e.0.id (end_of s.volume.items e.0 e.1) (is_own e.0.id s) s h.good),
      );
})

-- an access beside

accessed_told : (item : ItemId) (id : WaitId) (e : End) (own : Bool) (s : Filter) → IsFileIn s.volume.items item → IsGood s → IsKeptVolume s.volume → IsRebooked s (accessed item (tell_end id e own s))
accessed_told item id e true s file good kept = let r = accessed_good item s file good kept in record { book = r.book; same = r.same; good = same_good (accessed item s) (accessed item (tell_end id e true s)) refl refl refl r.good; kept = r.kept }
accessed_told item id e false s file good kept = let r = accessed_good item s file good kept in record { book = r.book; same = r.same; good = same_good (accessed item s) (accessed item (tell_end id e false s)) refl refl refl r.good; kept = r.kept }

volume_told : (item : ItemId) (id : WaitId) (e : End) (own : Bool) (s : Filter) → with_access_to item s.volume ≡ (accessed item (tell_end id e own s)).volume
volume_told item id e true s = refl
volume_told item id e false s = refl

desk_told : (item : ItemId) (id : WaitId) (e : End) (own : Bool) (s : Filter) → desk_of (tell_end id e own s) ≡ desk_of (accessed item (tell_end id e own s))
desk_told item id e true s = refl
desk_told item id e false s = refl

module _ (e : Wait × Cause) (reads : is_access e.0.kind e.1 ≡ true) (s : Filter) where
  same_ended : accessed e.0.item (told_end e s) ≡ with_ended e s
  same_ended = is_accessed e.0 e.1 (told_end e s) reads

  pub ended_volume : with_access_to e.0.item s.volume ≡ (with_ended e s).volume
  ended_volume = volume_told e.0.item e.0.id (end_of s.volume.items e.0 e.1) (is_own e.0.id s) s ∙ ap (λ (t : Filter). t.volume) same_ended

  pub ended_desk : desk_of (told_end e s) ≡ desk_of (with_ended e s)
  ended_desk = desk_told e.0.item e.0.id (end_of s.volume.items e.0 e.1) (is_own e.0.id s) s ∙ ap desk_of same_ended

  pub ended_rebooked : IsOnFile e.0.kind s.volume.items e.0.item → IsGood s → IsKeptVolume s.volume → IsRebooked s (with_ended e s)
  ended_rebooked file good kept =
      subst (IsRebooked s) same_ended (accessed_told e.0.item e.0.id (end_of s.volume.items e.0 e.1) (is_own e.0.id s) s (on_file e.0.kind e.1 s.volume.items e.0.item reads file) good kept)

pub on_ok_map : {A E P Q : Type 0} (r : Result A E) → (P → Q) → OnOk r P → OnOk r Q
on_ok_map (Ok a) f p = f p
on_ok_map (Err e) f p = p
