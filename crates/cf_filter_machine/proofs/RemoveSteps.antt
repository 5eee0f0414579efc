-- Removals as steps of a filter.
use Rattle.std.proofs.Common.{◌≡◌, ◌+◌, inl, inr, ℕ, Bool, true, false, cond, eqb, List, [], ◌∷◌, ◌++◌, None, refl, sym, ◌∙◌, ap, subst}
use Rattle.std.specs.Prelude.{Err, MatchOption, Ok, Option, Some}
use Rattle.std.proofs.lemmas.Bool.{true≢false}
use Rattle.cf_filter_machine.proofs.Aims.{aims_on, aims_put, needs_none, ready, rising}
use Rattle.cf_base.specs.declared.changes.Change.TheVariants as change
use Rattle.cf_base.specs.declared.codes.CallError.{CallError}
use Rattle.cf_base.specs.declared.codes.CallError.TheVariants.{OutOfMemory, No}
use Rattle.cf_base.specs.declared.ids.ItemId.{ItemId}
use Rattle.cf_base.specs.declared.ids.Usn.{Usn}
use Rattle.cf_base.specs.declared.notices.Notice.TheVariants as notice
use Rattle.cf_disk.specs.Disk.{Leaves, State}
use Rattle.cf_disk.specs.Leaving.{leaves_weaker}
use Rattle.cf_filter_machine.proofs.ChangeSteps.{grows_put, put_points, told}
use Rattle.cf_filter_machine.proofs.PlacesKept.{every_weaker, own_above, still_above}
use Rattle.cf_filter_machine.proofs.PointSteps.{last_point}
use Rattle.cf_filter_machine.proofs.Shown.{stays_shown}
use Rattle.cf_filter_machine.proofs.RemovedItems.{IsBeside, kept_without, opened_without, reads_without}
use Rattle.cf_engine_queue.specs.Records.{IsKeepable}
use Rattle.cf_filter_desk.specs.Desks.{Desk, desk_of}
use Rattle.cf_filter_machine.specs.Held.{Held}
use Rattle.cf_filter_machine.specs.Keeping.{IsKeptVolume}
use Rattle.cf_filter_machine.specs.Graves.{gone}
use Rattle.cf_filter_machine.specs.Lasting.{Grows, IsBetween, Moved}
use Rattle.cf_filter_machine.specs.Lasts.{grows_not}
use Rattle.cf_filter_machine.specs.Sensing.{Stands, sense}
use Rattle.cf_filter_machine.specs.Showing.{StaysBy}
use Rattle.cf_model.specs.Arrows.{unit}
use Rattle.cf_model.specs.Books.{Book, Tombstone, book_after, with_tombstone}
use Rattle.cf_model.specs.Calls.{buried, tombstone_for}
use Rattle.cf_model.specs.Changes.{next_number, put_change}
use Rattle.cf_model.specs.Identities.{is_untargeted}
use Rattle.cf_model.specs.Items.{Item, item_of}
use Rattle.cf_model.specs.Numbers.{above, usn_after}
use Rattle.cf_model.specs.State.{Filter, Volume}
use Rattle.cf_model.specs.Words.{put_in}
use Rattle.cf_volume_points.proofs.KeptSound.{means_all}
use Rattle.cf_volume_points.proofs.Points.{Fair}
use Rattle.cf_volume_points.specs.At.{Applied, At, StandsLast}
use Rattle.cf_volume_points.specs.Known.{Known}
use Rattle.cf_volume_points.specs.Standing.{cluster_on}
use Rattle.cf_filter_steps.specs.Answering.{Answers}
use Rattle.cf_filter_steps.specs.Good.{Every}
use Rattle.cf_filter_steps.specs.Putting.{MayGo, removed}
use Rattle.cf_table.specs.Means.{Means}
use Rattle.cf_table.specs.Tables.{row_of}
use Rattle.cf_table.specs.declared.rows.Row.{Row}
use Rattle.cf_tree.proofs.Alike.{BothMean, rows_by_id}
use Rattle.cf_tree.proofs.Walks.{own_id}
use Rattle.cf_volume.specs.Calls.{IsCause, Runs, StopsOnly}

-- with a tombstone beside

every_put : (P : Tombstone → Type 0) (before : Tombstone → Tombstone → Bool) (t : Tombstone) (ts : List Tombstone) → P t → Every P ts → Every P (put_in before t ts)
every_put P before t [] h k = (h, record {})
every_put P before t (x ∷ xs) h k = by (before x t) (every_put P before t xs h k.1)
  where
    by : (c : Bool) → Every P (put_in before t xs) → Every P (cond c (x ∷ put_in before t xs) (t ∷ x ∷ xs))
    by true rest = (k.0, rest)
    by false rest = (h, k)

one_beside : (number : Usn) (b c : Book) (u : Bool) → IsKeepable (cond u b c) → (IsKeepable b → IsBeside number b b) → (IsKeepable c → IsBeside number b c) → IsBeside number b (cond u b c)
one_beside number b c true fits h k = h fits
one_beside number b c false fits h k = k fits

beside : (bury : Bool) (e p : ℕ) (i : Item) (b : Book) → IsKeepable (buried bury i (usn_after e p) b) → Every (λ t. above (usn_after e (p + 1)) t.number ≡ true) b.tombstones → IsBeside (usn_after e (p + 1)) b (buried bury i (usn_after e p) b)
beside false e p i b fits h = record { anchors = refl; accesses = refl; fits = fits; graves = h }
beside true e p i b fits h =
    one_beside (usn_after e (p + 1)) b (with_tombstone (tombstone_for i (usn_after e p)) b) (is_untargeted i) fits (λ k. record { anchors = refl; accesses = refl; fits = k; graves = h })
    (λ k. record {
      anchors = refl;
      accesses = refl;
      fits = k;
      graves = every_put (λ t. above (usn_after e (p + 1)) t.number ≡ true) (λ x y. above y.number x.number) (tombstone_for i (usn_after e p)) b.tombstones (own_above e p) h;
    })

module _ {D : Type 0} (state : D → State) (x : Held D) (id : ItemId) (bury : Bool) (i : Item) (d : D) (fair : Fair (state d)) (crash : (v : Volume) → At (state x.disk) x.known v → Leaves (state x.disk) (state d) (StandsLast v)) (runs : Runs (state x.disk) (state d)) where
  remove_moved : (s : Filter) (v : Volume) → Grows s.volume v → Stands state x s → Moved (state x.disk) (state d) s.volume v
  remove_moved s v grows h = record {
    runs = runs;
    grows = grows;
    leaves = leaves_weaker (state x.disk) (state d) (StandsLast s.volume) (IsBetween s.volume v) (crash s.volume h.volume)
        (λ m l. record { mid = s.volume; after = grows_not s.volume; before = grows; stands = last_point s.volume h.points m l });
  }

  -- the volume without the item
  gone_kept : (k : Known) (s : Filter) → Stands state x s → MayGo id i s → IsKeepable (gone bury id i s.volume).book → At (state d) k (gone bury id i s.volume) → IsKeptVolume (gone bury id i s.volume)
  gone_kept k s h p fits at =
      kept_without s.volume id (gone bury id i s.volume).book p.below p.empty
      (beside bury s.volume.epoch s.volume.place i (book_after (change.Remove id) s.volume.book) fits
      (every_weaker (λ (t : Tombstone). above (usn_after s.volume.epoch s.volume.place) t.number ≡ true) (λ (t : Tombstone). above (usn_after s.volume.epoch (s.volume.place + 1)) t.number ≡ true)
      (λ t was. still_above s.volume.epoch s.volume.place t.number was) s.volume.book.tombstones h.kept.book.graves)) at.now.fits h.kept

  done : (k : Known) (e : Desk) (n : Usn) → k.broken ≡ false → e ≡ record x.desk { notes = x.desk.notes ++ notice.Change n (change.Remove id) ∷ [] } → ((s : Filter) → Stands state x s → n ≡ next_number s.volume) → (s : Filter) (h : Stands state x s) → MayGo id i s
      → IsKeepable (gone bury id i s.volume).book → At (state d) k (gone bury id i s.volume) → Stands state (record { disk = d; known = k; desk = e }) (told (buried bury i (next_number s.volume)) (change.Remove id) false s)
  done k e n usable desk number s h p fits at =
      let kept : IsKeptVolume (gone bury id i s.volume) = gone_kept k s h p fits at in
      record {
        fair = fair;
        volume = at;
        desk = desk ∙ ap (λ (z : Desk). record z { notes = z.notes ++ notice.Change n (change.Remove id) ∷ [] }) h.desk
            ∙ ap (λ (m : Usn). record (desk_of s) { notes = s.notes ++ notice.Change m (change.Remove id) ∷ [] }) (number s h);
        whole = usable;
        good = record {
          volume = kept.good;
          files = opened_without s.volume.items id s.handles p.closed h.good.files;
          numbered = h.good.numbered;
          reads = reads_without s.volume.items id s.waiting.waits p.idle h.good.reads;
        };
        kept = kept;
        points = put_points (change.Remove id) (buried bury i (next_number s.volume)) s.volume false h.volume.now.of_log h.kept h.points;
        aimed = aims_put (state d).settings.aim (buried bury i (next_number s.volume)) (change.Remove id) s.volume false
            (ready (state x.disk) x.known s.volume h.volume (rising s.volume.items h.kept.good.tree.order) h.points) (needs_none (state d).settings.aim (change.Remove id) s.volume refl)
            (aims_on (state x.disk) (state d) s.volume runs.settings h.aimed);
      }

  -- its own id is that of the definitions
  by_own : (s : Filter) → MayGo id i s → id ≡ i.id
  by_own s p = own_id s.volume.items id i p.there

  pub removed_told : (k : Known) (e : Desk) (n : Usn) → k.broken ≡ false → e ≡ record x.desk { notes = x.desk.notes ++ notice.Change n (change.Remove id) ∷ [] } → ((s : Filter) → Stands state x s → n ≡ next_number s.volume)
      → ((s : Filter) → Stands state x s → MayGo id i s → IsKeepable (gone bury id i s.volume).book)
      → ((s : Filter) → Stands state x s → MayGo id i s → At (state d) k (gone bury id i s.volume)) → Answers (sense state) (MayGo id i) (removed bury i) x (Ok unit) (record { disk = d; known = k; desk = e })
  removed_told k e n usable desk number fits at = record {
    leads = λ s h p. (
      told (buried bury i (next_number s.volume)) (change.Remove id) false s,
      (refl, ap (λ (j : ItemId). told (buried bury i (next_number s.volume)) (change.Remove j) false s) (by_own s p)),
      remove_moved s (gone bury id i s.volume) (grows_put (change.Remove id) (buried bury i (next_number s.volume)) s.volume false) h,
      done k e n usable desk number s h p (fits s h p) (at s h p),
    );
  }

  pub removed_stopped : (k : Known) (e : Desk) (q : CallError) → e ≡ x.desk → ((s : Filter) → Stands state x s → MayGo id i s → StopsOnly q) → IsCause q (state x.disk) (state d) → StaysBy q x.known k → Answers (sense state) (MayGo id i) (removed bury i) x (Err q) (record { disk = d; known = k; desk = e })
  removed_stopped k e (No code) same only cause still = record {
    leads = λ s h p. (
      s,
      (only s h p, inl refl),
      remove_moved s s.volume (grows_not s.volume) h,
      (
        record {
          notes = ap (λ (z : Desk). z.notes) (same ∙ h.desk);
          policy = ap (λ (z : Desk). z.policy) (same ∙ h.desk);
          connected = ap (λ (z : Desk). z.connected) (same ∙ h.desk);
          shows = stays_shown state x d k s runs still h;
          lasts = λ m left. last_point s.volume h.points m ((crash s.volume h.volume).now m left);
        },
        cause (only s h p),
      ),
    );
  }
  removed_stopped k e OutOfMemory same only cause still = record { leads = λ s h p. (s, record {}, remove_moved s s.volume (grows_not s.volume) h, λ m left. last_point s.volume h.points m ((crash s.volume h.volume).now m left)) }

  pub removed_lost : (k : Known) (e : Desk) → Answers (sense state) (MayGo id i) (removed bury i) x (Err OutOfMemory) (record { disk = d; known = k; desk = e })
  removed_lost k e = record { leads = λ s h p. (s, record {}, remove_moved s s.volume (grows_not s.volume) h, λ m left. last_point s.volume h.points m ((crash s.volume h.volume).now m left)) }

-- of the volume alone

pub was_gone : (d : State) (k : Known) (id : ItemId) (v : Volume) → Applied d k (change.Remove id) v → At d k (put_change (change.Remove id) v)
was_gone d k id v (inl put) = put.at
was_gone d k id v (inr put) = absurd (true≢false (sym put.needed))

pub gone_at : (d : State) (k : Known) (bury : Bool) (id : ItemId) (i : Item) (v : Volume) (b : Book) → b ≡ buried bury i (next_number v) (put_change (change.Remove id) v).book → At d k (record (put_change (change.Remove id) v) { book = b }) → At d k (gone bury id i v)
gone_at d k bury id i v b same at = subst (λ (c : Book). At d k (record (put_change (change.Remove id) v) { book = c })) same at

of_item : (o : Option Row) (i : Item) → BothMean o (Some i) → MatchOption o ⊥ (λ r. Means r i)
of_item None i h = h
of_item (Some r) i h = h

pub row_there : (d : State) (k : Known) (v : Volume) (id : ItemId) (i : Item) (o : Option Row) → o ≡ row_of k.table.rows id → At d k v → item_of v.items id ≡ Some i → MatchOption o ⊥ (λ r. Means r i)
row_there d k v id i o same at there =
    of_item o i (subst (λ (p : Option Row). BothMean p (Some i)) (sym same) (subst (λ (p : Option Item). BothMean (row_of k.table.rows id) p) there
    (rows_by_id k.table.rows v.items id (means_all (cluster_on d.seen) v.book k.table.rows v.items at.now.rows))))

pub other_own : (items : List Item) (id : ItemId) (i : Item) → item_of items id ≡ Some i → (eqb id.0 1) ≡ false → (eqb i.id.0 1) ≡ false
other_own items id i there other = subst (λ (k : ItemId). (eqb k.0 1) ≡ false) (own_id items id i there) other
