-- While an event goes on nothing goes from the notes or the log, and with no line of a change the items stay.
use Rattle.std.proofs.Common.{◌≡◌, ◌⊎◌, ◌+◌, Bool, true, false, List, [], ◌∷◌, ◌++◌, refl, sym, ◌∙◌, ap, subst, inl, inr, map}
use Rattle.std.specs.Prelude.{◌||◌, if◌then◌else◌}
use Rattle.std.specs.List.{list_any}
use Rattle.std.proofs.lemmas.List.{append-nil, append_assoc}
use Rattle.cf_base.specs.declared.answers.Shown.TheVariants as shown
use Rattle.cf_base.specs.declared.changes.Change.{Change}
use Rattle.cf_base.specs.declared.codes.Code.{Code}
use Rattle.cf_base.specs.declared.ids.ItemId.{ItemId}
use Rattle.cf_base.specs.declared.ids.Usn.{Usn}
use Rattle.cf_base.specs.declared.ids.WaitId.{WaitId}
use Rattle.cf_base.specs.declared.notices.Notice.{Notice}
use Rattle.cf_base.specs.declared.notices.Notice.TheVariants as notice
use Rattle.cf_base.specs.declared.waits.Cause.{Cause}
use Rattle.cf_base.specs.declared.waits.End.{End}
use Rattle.cf_model.specs.Arrows.{each, noted, reading, then_do}
use Rattle.cf_model.specs.Books.{Book}
use Rattle.cf_model.specs.Changes.{change_with, next_number, put_with_book}
use Rattle.cf_model.specs.Items.{Item}
use Rattle.cf_model.specs.Missing.{Wait}
use Rattle.cf_model.specs.Operations.{done}
use Rattle.cf_model.specs.Points.{commit, with_room_point}
use Rattle.cf_model.specs.Requests.{Told, Waiting}
use Rattle.cf_model.specs.Settling.{accessed, ask_line, cancel_line, end_of, end_wait, is_access, is_own, settle, tell, tell_end, told_at, with_asks_told, with_ended, with_waiting}
use Rattle.cf_model.specs.Skips.{skip_line}
use Rattle.cf_model.specs.State.{Filter, Link, State, Volume, in_volume, items_now, with_filter, with_notes, with_volume}
use Rattle.cf_model.specs.Trees.{Keeps, Ret}
use Rattle.cf_model.specs.Waits.{all_down, background_line, begin_now, begun, beside, own_id, with_own}
use Rattle.cf_model.proofs.ArrowLaws.{keeps_each, keeps_one, keeps_then}
use Rattle.cf_model.proofs.TreeLaws.{keeps_bind}
use Rattle.cf_model_laws.proofs.Guarded.{Entering, Guarded, GuardedFilter}
use Rattle.cf_model_laws.proofs.Leading.{kept_leads}
use Rattle.cf_model_laws.proofs.RightItems.{no_way_back}
use Rattle.cf_model_laws.proofs.SkipsGuarded.{keeps_both}
use Rattle.cf_model_laws.proofs.SoundFilters.{change_leads}
use Rattle.cf_model_convergence.specs.Adding.{Adds, is_change}
use Rattle.cf_model_laws.proofs.SinceKept.{moved_weaker, on_filter_weaker, record_weaker}
use Rattle.cf_model_laws.specs.Taken.{Knowledge}

any_left : (f : Notice → Bool) (xs ys : List Notice) → list_any f (xs ++ ys) ≡ false → list_any f xs ≡ false
any_left f [] ys e = refl
any_left f (x ∷ xs) ys e = by (f x) e (any_left f xs ys) where
  by : (b : Bool) → (b || list_any f (xs ++ ys)) ≡ false → (list_any f (xs ++ ys) ≡ false → list_any f xs ≡ false) → (b || list_any f xs) ≡ false
  by true z more = no_way_back z
  by false z more = more z

any_right : (f : Notice → Bool) (xs ys : List Notice) → list_any f (xs ++ ys) ≡ false → list_any f ys ≡ false
any_right f [] ys e = e
any_right f (x ∷ xs) ys e = by (f x) e (any_right f xs ys) where
  by : (b : Bool) → (b || list_any f (xs ++ ys)) ≡ false → (list_any f (xs ++ ys) ≡ false → list_any f ys ≡ false) → list_any f ys ≡ false
  by true z more = no_way_back z
  by false z more = more z

-- of the filter at the start
module _ (w : Filter) where
  abbrev pub In : Filter → Type 0
  In x = Adds w.notes w.volume.log w.volume.items x.notes x.volume.log x.volume.items

  -- lines that come
  more_lines : (ns notes : List Notice) (log : List (Usn × Change)) (items : List Item) → Adds w.notes w.volume.log w.volume.items notes log items → Adds w.notes w.volume.log w.volume.items (notes ++ ns) log items
  more_lines ns notes log items h = record {
    lines = h.lines ++ ns;
    noted = ap (λ (xs : List Notice). xs ++ ns) h.noted ∙ append_assoc w.notes h.lines ns;
    changes = h.changes;
    logged = h.logged;
    still = λ e. h.still (any_left is_change h.lines ns e);
  }

  -- a change that comes with its line
  one_change : (n : Usn) (c : Change) (notes : List Notice) (log : List (Usn × Change)) (items after : List Item) → Adds w.notes w.volume.log w.volume.items notes log items
      → Adds w.notes w.volume.log w.volume.items (notes ++ notice.Change n c ∷ []) (log ++ (n, c) ∷ []) after
  one_change n c notes log items after h = record {
    lines = h.lines ++ notice.Change n c ∷ [];
    noted = ap (λ (xs : List Notice). xs ++ notice.Change n c ∷ []) h.noted ∙ append_assoc w.notes h.lines (notice.Change n c ∷ []);
    changes = h.changes ++ (n, c) ∷ [];
    logged = ap (λ (xs : List (Usn × Change)). xs ++ (n, c) ∷ []) h.logged ∙ append_assoc w.volume.log h.changes ((n, c) ∷ []);
    still = λ e. no_way_back (any_right is_change h.lines (notice.Change n c ∷ []) e);
  }

  pub change_adds : (f : Book → Book) (c : Change) (x : Filter) → In x → Keeps In (change_with f c x)
  change_adds f c x h = kept_leads In (change_with f c x) (change_leads In In f c x h h h (λ v is. by v is)) where
    by : (v : Volume) → (v ≡ x.volume) ⊎ (v ≡ with_room_point x.volume) → In (with_notes (notice.Change (next_number v) c ∷ []) (with_volume (put_with_book f c v) x))
    by v (inl e) = subst (λ (u : Volume). In (with_notes (notice.Change (next_number u) c ∷ []) (with_volume (put_with_book f c u) x))) (sym e) (one_change (next_number x.volume) c x.notes x.volume.log x.volume.items _ h)
    by v (inr e) = subst (λ (u : Volume). In (with_notes (notice.Change (next_number u) c ∷ []) (with_volume (put_with_book f c u) x))) (sym e) (one_change (next_number x.volume) c x.notes x.volume.log x.volume.items _ h)

  -- what is reported after a step

  accessed_adds : (item : ItemId) (is : Bool) (x : Filter) → In x → In (if is then accessed item x else x)
  accessed_adds item true x h = h
  accessed_adds item false x h = h

  ended_adds : (e : Wait × Cause) (x : Filter) → In x → In (with_ended e x)
  ended_adds e x h = accessed_adds e.0.item (is_access e.0.kind e.1) (tell_end e.0.id (end_of x.volume.items e.0 e.1) (is_own e.0.id x) x) (tells e.0.id (end_of x.volume.items e.0 e.1) (is_own e.0.id x)) where
    tells : (i : WaitId) (d : End) (own : Bool) → In (tell_end i d own x)
    tells i d true = h
    tells i d false = more_lines (notice.Done i d ∷ []) x.notes x.volume.log x.volume.items h

  tell_adds : (r : Told × Waiting) (x : Filter) → In x → Keeps In (tell r x)
  tell_adds r x h =
      (keeps_then In (each end_wait r.0.ended) (noted (with_asks_told r.0)) (keeps_each In end_wait r.0.ended (λ e. keeps_one In (with_ended e) (λ y j. ended_adds e y j)))
      (record { keeps = λ y j. asks y j })).keeps (with_waiting r.1 x) h where
        asks : (y : Filter) → In y → In (with_asks_told r.0 y)
        asks y j = more_lines (map ask_line r.0.made) (y.notes ++ map cancel_line r.0.cancelled) y.volume.log y.volume.items (more_lines (map cancel_line r.0.cancelled) y.notes y.volume.log y.volume.items j)

  filter_adds : {On : Knowledge} (l : Link) (tokens : _) (P : Filter → Type 0) → GuardedFilter On l tokens P → GuardedFilter On l tokens (λ x. P x × In x)
  filter_adds l tokens P closed = record {
    sound = λ x h fair. closed.sound x h.0 fair;
    change = λ f c x keeps seen free fit known h. keeps_both P In (change_with f c x) (closed.change f c x keeps seen free fit known h.0) (change_adds f c x h.1);
    touch = λ f c item d x quiet keeps seen on fit known h. keeps_both P In (then_do (change_with f c) (then_do (settle item d) done) x) (closed.touch f c item d x quiet keeps seen on fit known h.0)
        (keeps_bind In (change_with f c x) (λ _ t. then_do (settle item d) done t) (change_adds f c x h.1) (λ a t j. keeps_bind In (settle item d t) (λ _ y. done y) (tell_adds (told_at item d t) t j) (λ b y m. m)));
    commits = record { keeps = λ x h. keeps_both P In (in_volume commit x) (closed.commits.keeps x h.0) (h.1, h.1) };
    settled = λ item d x others h. keeps_both P In (settle item d x) (closed.settled item d x others h.0) (tell_adds (told_at item d x) x h.1);
    begins = λ n x plain fit unmet h. keeps_both P In (reading (begun n) (begin_now n) x) (closed.begins n x plain fit unmet h.0)
        (keeps_bind In (tell (begun n x) (with_own n x)) (λ _ t. Ret (shown.Pending (own_id n x)) t) (tell_adds (begun n x) (with_own n x) (more_lines (map background_line (beside n x)) x.notes x.volume.log x.volume.items h.1)) (λ a t j. j));
    downs = record { keeps = λ x h. keeps_both P In (reading all_down tell x) (closed.downs.keeps x h.0) (tell_adds (all_down x) x h.1) };
    keeps_accessed = λ item x h. (closed.keeps_accessed item x h.0, h.1);
    keeps_accessed_now = λ n x h. (closed.keeps_accessed_now n x h.0, accessed_adds n.item _ x h.1);
    keeps_as_it_is = λ x h. (closed.keeps_as_it_is x h.0, h.1);
    keeps_begin_call = λ x h. (closed.keeps_begin_call x h.0, h.1);
    keeps_connected_again = λ x h. (closed.keeps_connected_again x h.0, h.1);
    keeps_with_handle = λ item x fit h. (closed.keeps_with_handle item x fit h.0, h.1);
    keeps_with_time = λ n x h. (closed.keeps_with_time n x h.0, h.1);
    keeps_without_handle = λ handle x h. (closed.keeps_without_handle handle x h.0, h.1);
  }

  pub line_adds : (b : Bool) (c : Code) (s : State) → In s.filter → In (skip_line b c s).filter
  line_adds true c s h = more_lines (notice.Skipped c ∷ []) s.filter.notes s.filter.volume.log (items_now s) h
  line_adds false c s h = h

  pub guarded_adds : (P : State → Type 0) → Guarded P → Guarded (λ s. P s × In s.filter)
  guarded_adds P closed = record {
    replay = λ s h. closed.replay s h.0;
    on_filter = λ s h. filter_adds s.link s.volatile.tokens (λ x. P (with_filter x s)) (on_filter_weaker P (λ t. P t × In t.filter) (λ t k. k.0) s _ (closed.on_filter s h.0));
    keeps_counted = λ s h. (closed.keeps_counted s h.0, h.1);
    asked = λ q s well h. (closed.asked q s well h.0, h.1);
    told = λ held s h. (closed.told held s h.0, h.1);
    posts = λ f s other well now h. (closed.posts f s other well now h.0, more_lines _ s.filter.notes s.filter.volume.log (items_now s) h.1);
    loses = λ f s h. (closed.loses f s h.0, more_lines _ s.filter.notes s.filter.volume.log (items_now s) h.1);
    books = λ f s keeps placed known h. (closed.books f s keeps placed (λ fair. record_weaker P (λ t. P t × In t.filter) (λ t k. k.0) f s (known fair)) h.0, h.1);
    moved = λ e s is live known h. (closed.moved e s is live (λ fair. moved_weaker P (λ t. P t × In t.filter) (λ t k. k.0) e s (known fair)) h.0, h.1);
    leaves = λ token s h. (closed.leaves token s h.0, h.1);
    keeps_fault_line = λ m s h. (closed.keeps_fault_line m s h.0, more_lines (notice.Fault m ∷ []) s.filter.notes s.filter.volume.log (items_now s) h.1);
    keeps_showing = λ s h. (closed.keeps_showing s h.0, h.1);
    keeps_skipped = λ c s h. (closed.keeps_skipped c s h.0, line_adds s.running.shows_skips c (record s { running = record s.running { skips = s.running.skips + 1 } }) h.1);
    keeps_volatile_all_released = λ s h. (closed.keeps_volatile_all_released s h.0, h.1);
    keeps_volatile_held_and_closed = λ e s h. (closed.keeps_volatile_held_and_closed e s h.0, h.1);
    keeps_volatile_not_in_row = λ e s h. (closed.keeps_volatile_not_in_row e s h.0, h.1);
    keeps_volatile_round_closed = λ s h. (closed.keeps_volatile_round_closed s h.0, h.1);
    keeps_volatile_taken_from_row = λ e s h. (closed.keeps_volatile_taken_from_row e s h.0, h.1);
    keeps_volatile_with_not_empty = λ n s h. (closed.keeps_volatile_with_not_empty n s h.0, h.1);
    keeps_volatile_with_round = λ s h. (closed.keeps_volatile_with_round s h.0, h.1);
    keeps_volatile_with_taken_name = λ item s h. (closed.keeps_volatile_with_taken_name item s h.0, h.1);
    keeps_volatile_with_token = λ s h. (closed.keeps_volatile_with_token s h.0, h.1);
    keeps_with_clock_seen = λ clock s h. (closed.keeps_with_clock_seen clock s h.0, h.1);
    keeps_with_done = λ s h. (closed.keeps_with_done s h.0, h.1);
    keeps_with_outbox = λ a rest s e h. (closed.keeps_with_outbox a rest s e h.0, h.1);
    keeps_with_stray = λ r s h. (closed.keeps_with_stray r s h.0, h.1);
    keeps_with_token_used = λ s h. (closed.keeps_with_token_used s h.0, h.1);
    keeps_without_done = λ s h. (closed.keeps_without_done s h.0, h.1);
  }

  pub entering_adds : (P : State → Type 0) → Entering P → Entering (λ s. P s × In s.filter)
  entering_adds P entering = record { uploads = record { enters = λ e s well h. (entering.uploads.enters e s well h.0, h.1) }; feeds = λ f s well now h. (entering.feeds f s well now h.0, more_lines _ s.filter.notes s.filter.volume.log (items_now s) h.1) }

  pub itself : In w
  itself = record { lines = []; noted = sym (append-nil w.notes); changes = []; logged = sym (append-nil w.volume.log); still = λ e. (refl, refl) }
