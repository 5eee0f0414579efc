-- A call that is refused changes nothing.
use Rattle.std.proofs.Common.{◌≡◌, ◌+◌, ◌-◌, ℕ, zero, suc, min, length, Bool, true, false, List, [], ◌∷◌, refl, sym, ◌∙◌, ap, subst}
use Rattle.std.specs.Prelude.{Option, Some, None, Result, Ok, Err}
use Rattle.cf_base.specs.declared.answers.Shown.{Shown}
use Rattle.cf_base.specs.declared.answers.Shown.TheVariants as shown
use Rattle.cf_base.specs.declared.calls.Call.{Call}
use Rattle.cf_base.specs.declared.calls.Call.TheVariants as call
use Rattle.cf_base.specs.declared.changes.Change.{Change}
use Rattle.cf_base.specs.declared.changes.Change.TheVariants as change
use Rattle.cf_base.specs.declared.codes.Code.{Code}
use Rattle.cf_base.specs.declared.codes.Code.TheVariants as code
use Rattle.cf_base.specs.declared.events.ProviderEvent.{ProviderEvent}
use Rattle.cf_base.specs.declared.events.ProviderEvent.TheVariants as provider
use Rattle.cf_base.specs.declared.events.Event.{Event}
use Rattle.cf_base.specs.declared.events.Event.TheVariants as event
use Rattle.cf_base.specs.declared.ids.Handle.{Handle}
use Rattle.cf_base.specs.declared.ids.ItemId.{ItemId}
use Rattle.cf_base.specs.declared.ids.WaitId.{WaitId}
use Rattle.cf_base.specs.declared.operations.Operation.{Operation}
use Rattle.cf_base.specs.declared.operations.Operation.TheVariants as operation
use Rattle.cf_base.specs.declared.policies.Mode.{Mode}
use Rattle.cf_base.specs.declared.waits.Ask.{Ask}
use Rattle.cf_base.specs.declared.waits.Cause.TheVariants as cause
use Rattle.cf_base.specs.declared.waits.End.{End}
use Rattle.cf_base.specs.declared.waits.WaitKind.TheVariants as wait_kind
use Rattle.cf_model.specs.Arrows.{Arrow, choose, each, noted, one, reading, ret, then_do, unless}
use Rattle.cf_model.specs.Blocks.{blocks_of}
use Rattle.cf_model.specs.Books.{Book, with_access}
use Rattle.cf_model.specs.Callbacks.{begin_call, call_back, calling, drain, drained, end_or_pending, finish, finish_call, result_of, with_outbox}
use Rattle.cf_model.specs.Calls as calls
use Rattle.cf_model.specs.Changes as volume
use Rattle.cf_model.specs.Dehydration as dehydration
use Rattle.cf_model.specs.Events.{begun, call_in, provider_event, tree_of}
use Rattle.cf_model.specs.Items.{Item, bytes_held, size_of}
use Rattle.cf_model.specs.Missing.{Wait, no_span, span_of}
use Rattle.cf_model.specs.Numbers.{most}
use Rattle.cf_model.specs.Operations as operations
use Rattle.cf_model.specs.Operations.{checked}
use Rattle.cf_model.specs.Placements as placements
use Rattle.cf_model.specs.Plans.{Creation, NewDir, NewFile, NewPlaceholder, NewPlaceholderDir, plan_convert, plan_keep, plan_mark, plan_unmark}
use Rattle.cf_model.specs.Points.{commit}
use Rattle.cf_model.specs.Requests.{Cancels, Fails, Leaves, Live, Nothing, Restarts}
use Rattle.cf_model.specs.Settling.{accessed, settle, tell}
use Rattle.cf_model.specs.State.{Filter, Open, State, in_filter, in_volume, is_replay, with_filter}
use Rattle.cf_model.specs.Trees.{Asked, Fork, Ret, Step, Tree, bind}
use Rattle.cf_model.specs.Waits as waits
use Rattle.cf_model.specs.Waits.{Need, on_file, on_handle, on_ok, on_open, on_path}
use Rattle.cf_model.specs.Words.{first_of}
use Rattle.cf_model_laws.proofs.Leading.{Leads, leads_any, leads_bind, leads_mapped}
use Rattle.cf_model_laws.proofs.RightItems.{no_way}
use Rattle.cf_model_headline.specs.Refusals.{IsLeft, is_call, is_refused}

abbrev Any : {S : Type 0} → S → Type 0
Any s = Unit {0}

-- refused, it leaves the filter as it was
abbrev pub Quiet : Arrow Filter Shown → Type 0
Quiet f = (s : Filter) → Leads Any (λ r t. is_refused r ≡ true → t ≡ s) (f s)

-- it is never refused
abbrev Other : Arrow Filter Shown → Type 0
Other f = (s : Filter) → Leads Any (λ r t. is_refused r ≡ false) (f s)

apart : {A : Type 0} (b : Bool) → b ≡ false → b ≡ true → A
apart true e f = no_way (sym e)
apart false e f = no_way f

leads_same : {S A : Type 0} (Q R : A → S → Type 0) (p : Tree S A) → ((a : A) (t : S) → Q a t → R a t) → Leads Any Q p → Leads Any R p
leads_same Q R (Ret a s) k h = k a s h
leads_same Q R (Step s p) k h = (tt, leads_same Q R p k h.1)
leads_same Q R (Fork p q) k h = (leads_same Q R p k h.0, leads_same Q R q k h.1)
leads_same Q R (Asked g) k h = λ x. leads_same Q R (g x) k (h x)

other_quiet : (f : Arrow Filter Shown) → Other f → Quiet f
other_quiet f h s = leads_same (λ r t. is_refused r ≡ false) (λ r t. is_refused r ≡ true → t ≡ s) (f s) (λ r t k e. apart (is_refused r) k e) (h s)

other_then : {X : Type 0} (f : Arrow Filter X) (g : Arrow Filter Shown) → Other g → Other (then_do f g)
other_then f g h s = leads_bind Any (λ a t. Unit {0}) (λ r t. is_refused r ≡ false) (f s) (λ _ t. g t) (leads_any (λ a t. Unit {0}) (f s) (λ a t. tt)) (λ a t k. h t)

quiet_then : {X : Type 0} (f : Arrow Filter X) (g : Arrow Filter Shown) → Other g → Quiet (then_do f g)
quiet_then f g h = other_quiet (then_do f g) (other_then f g h)

quiet_unless : (c : Option Code) (f : Arrow Filter Shown) → Quiet f → Quiet (unless shown.Refused c f)
quiet_unless None f h = h
quiet_unless (Some c) f h = λ s e. refl

quiet_checked : (tests : Filter → List (Bool × Code)) (f : Arrow Filter Shown) → Quiet f → Quiet (checked tests f)
quiet_checked tests f h s = quiet_unless (first_of (tests s)) f h s

quiet_choose : (b : Bool) (f g : Arrow Filter Shown) → Quiet f → Quiet g → Quiet (choose b f g)
quiet_choose true f g h k = h
quiet_choose false f g h k = k

quiet_ok : {X : Type 0} (f : X → Arrow Filter Shown) → ((x : X) → Quiet (f x)) → (r : Result X Code) → Quiet (on_ok f r)
quiet_ok f h (Ok x) = h x
quiet_ok f h (Err c) = λ s e. refl

quiet_path : (path : List ℕ) (f : Item → Arrow Filter Shown) → ((i : Item) → Quiet (f i)) → Quiet (on_path path f)
quiet_path path f h s = quiet_ok f h (waits.at_path path s) s

quiet_file : (path : List ℕ) (f : Item → Arrow Filter Shown) → ((i : Item) → Quiet (f i)) → Quiet (on_file path f)
quiet_file path f h = quiet_path path (waits.but_directory f) (λ i. quiet_choose i.directory (waits.refused code.IsDirectory) (f i) (λ s e. refl) (h i))

quiet_open : (f : ItemId → Arrow Filter Shown) → ((item : ItemId) → Quiet (f item)) → (o : Option Open) → Quiet (on_open f o)
quiet_open f h None = λ s e. refl
quiet_open f h (Some o) = h o.item

quiet_handle : (handle : Handle) (f : ItemId → Arrow Filter Shown) → ((item : ItemId) → Quiet (f item)) → Quiet (on_handle handle f)
quiet_handle handle f h s = quiet_open f h (waits.opened_by handle s) s

-- calls that wait

begin_other : (n : Need) → Other (reading (waits.begun n) (waits.begin_now n))
begin_other n s = other_then (noted (waits.with_own n)) (then_do (tell (waits.begun n s)) (ret (shown.Pending (waits.own_id n s)))) (other_then (tell (waits.begun n s)) (ret (shown.Pending (waits.own_id n s))) (λ t. refl)) s

quiet_need : (n : Need) → Quiet (waits.need n)
quiet_need n s = by (waits.is_met_now n s) where
  by : (b : Bool) → Leads Any (λ r t. is_refused r ≡ true → t ≡ s) (waits.answer_or_begin n b s)
  by true = (tt, λ e. no_way e)
  by false = quiet_checked (waits.begin_tests n) (reading (waits.begun n) (waits.begin_now n)) (other_quiet (reading (waits.begun n) (waits.begin_now n)) (begin_other n)) s

-- changes

quiet_changing : (cs : List Change) (g : Arrow Filter Shown) → Other g → Quiet (calls.changing cs g)
quiet_changing cs g h = quiet_checked (calls.room_tests cs) (then_do (volume.changes cs) g) (quiet_then (volume.changes cs) g h)

number_other : (item : ItemId) → Other (calls.number_of item)
number_other item s = refl

done_other : Other operations.done
done_other s = refl

quiet_planned : (item : ItemId) (cs : List Change) → Quiet (placements.planned_on item cs)
quiet_planned item cs = quiet_changing cs (calls.number_of item) (number_other item)

quiet_asking : (item : ItemId) (g : Arrow Filter Shown) → Other g → (cs : List Change) → Quiet (placements.asking item g cs)
quiet_asking item g h cs = quiet_checked (placements.asking_tests item cs) (then_do (volume.changes cs) (then_do (placements.settle_changed item cs) g)) (quiet_then (volume.changes cs) (then_do (placements.settle_changed item cs) g) (other_then (placements.settle_changed item cs) g h))

quiet_create : (path : List ℕ) (what : Creation) → Quiet (placements.create path what)
quiet_create path what s =
    quiet_ok (placements.create_at what) (λ p x. quiet_ok placements.make_planned (λ cs y. quiet_changing cs (ret (shown.Item (placements.next_item y))) (λ t. refl) y) (placements.planned_at what p x) x) (calls.place_at path s) s

quiet_rename : (from to : List ℕ) → Quiet (calls.rename from to)
quiet_rename from to s =
    quiet_ok (calls.rename_item to) (λ i x. quiet_ok (calls.rename_to i) (λ p. quiet_checked (calls.rename_tests i p) (calls.changing (calls.move_of i p) operations.done) (quiet_changing (calls.move_of i p) operations.done done_other)) (calls.place_at to x) x) (calls.below_at from s) s

quiet_delete : (m : Mode) (path : List ℕ) → Quiet (calls.delete m path)
quiet_delete m path s =
    quiet_ok (calls.delete_item m) (λ i. quiet_checked (calls.delete_tests i) (reading calls.number_next (calls.delete_now m i)) (λ x. quiet_then (volume.change_with (calls.buried (is_replay m) i (calls.number_next x)) (change.Remove i.id)) (ret shown.Done) done_other x)) (calls.below_at path s) s

quiet_write : (at : ℕ) (bytes : List ℕ) (item : ItemId) → Quiet (calls.write_item at bytes item)
quiet_write at [] item = other_quiet operations.done done_other
quiet_write at (b ∷ bs) item = quiet_checked (calls.write_tests (at + length (b ∷ bs)) (change.Write item at (b ∷ bs) ∷ [])) (calls.write_now item (change.Write item at (b ∷ bs))) (write_quiet item (change.Write item at (b ∷ bs))) where
  write_quiet : (item : ItemId) (c : Change) → Quiet (calls.write_now item c)
  write_quiet item c = quiet_then (volume.change_with (with_access item) c) (then_do (settle item Nothing) operations.done) (other_then (settle item Nothing) operations.done done_other)

quiet_size : (n : ℕ) (item : ItemId) → Quiet (calls.size_item n item)
quiet_size n item = quiet_checked (calls.size_tests item n) (reading (calls.has_size item n) (calls.size_now item n)) (λ s. by (calls.has_size item n s) s) where
  by : (b : Bool) → Quiet (calls.size_now item n b)
  by true = quiet_then (noted (accessed item)) operations.done done_other
  by false = quiet_then (volume.change_with (with_access item) (change.Size item n)) (then_do (settle item Nothing) operations.done) (other_then (settle item Nothing) operations.done done_other)

quiet_dehydrate : (i : Item) (start len : ℕ) → Quiet (dehydration.dehydrate_item i start len)
quiet_dehydrate i start len s =
    quiet_unless (dehydration.verdict_at i start len s) (dehydration.empty_range i start (min len (size_of i - start)))
    (quiet_choose (dehydration.has_bytes i start (min len (size_of i - start))) (reading dehydration.is_connected (dehydration.with_provider i start (min len (size_of i - start)))) dehydration.emptied (λ x. by (dehydration.is_connected x) x) (λ x e. no_way e)) s
  where
    by : (b : Bool) → Quiet (dehydration.with_provider i start (min len (size_of i - start)) b)
    by true = let n : Need = dehydration.consent_need i start (min len (size_of i - start)) in quiet_checked (dehydration.ask_tests n) (reading (waits.begun n) (waits.begin_now n)) (other_quiet (reading (waits.begun n) (waits.begin_now n)) (begin_other n))
    by false = quiet_checked dehydration.empty_tests (then_do (volume.change (change.Emptied i.id start (min len (size_of i - start)))) dehydration.emptied) (quiet_then (volume.change (change.Emptied i.id start (min len (size_of i - start)))) dehydration.emptied (λ t. refl))

quiet_range : (range : Option (ℕ × ℕ)) (i : Item) → Quiet (dehydration.dehydrate_range range i)
quiet_range None i = quiet_dehydrate i 0 (size_of i)
quiet_range (Some r) i = quiet_dehydrate i r.0 r.1

quiet_cancel : (id : WaitId) (w : Option Wait) → Quiet (waits.cancel_wait id w)
quiet_cancel id None = λ s e. refl
quiet_cancel id (Some w) = quiet_then (settle w.item (Cancels id)) operations.done done_other

quiet_connect : (on : Bool) → Quiet (waits.connect on)
quiet_connect true = quiet_then (noted waits.connected_again) operations.done done_other
quiet_connect false = quiet_then (noted waits.disconnected) (then_do (reading waits.all_down tell) operations.done) (other_then (reading waits.all_down tell) operations.done done_other)

-- operations of a provider

quiet_on_ask : (f : Book → Book) (op : Operation) (a : Live) → Quiet (operations.on_ask f op a)
quiet_on_ask f (operation.Transfer key at bytes) a =
    quiet_checked (operations.transfer_tests a (change.Filled a.ask.item at bytes) at (length bytes)) (operations.transfer_by a (change.Filled a.ask.item at bytes) (blocks_of at (length bytes)))
    (quiet_then (volume.change (change.Filled a.ask.item at bytes)) (then_do (settle a.ask.item (Leaves a.ask.key (blocks_of at (length bytes)))) operations.done) (other_then (settle a.ask.item (Leaves a.ask.key (blocks_of at (length bytes)))) operations.done done_other))
quiet_on_ask f (operation.Refuse key asked status) a =
    quiet_checked (operations.refuse_tests a asked) (then_do (settle a.ask.item (Fails a.ask.key (blocks_of asked.start asked.len) (cause.Failed status))) operations.done)
    (quiet_then (settle a.ask.item (Fails a.ask.key (blocks_of asked.start asked.len) (cause.Failed status))) operations.done done_other)
quiet_on_ask f (operation.Retrieve key asked) a =
    quiet_checked (operations.retrieve_tests a asked) (reading (operations.held_in a asked) (operations.retrieve_by a))
    (λ s. quiet_then (one operations.as_it_is) (then_do (settle a.ask.item (Leaves a.ask.key [])) (ret (shown.Retrieved (bytes_held (operations.held_in a asked s))))) (other_then (settle a.ask.item (Leaves a.ask.key [])) (ret (shown.Retrieved (bytes_held (operations.held_in a asked s)))) (λ t. refl)) s)
quiet_on_ask f (operation.Ack key asked good) a =
    quiet_checked (operations.ack_tests a asked good) (then_do (volume.change (operations.ack_change a asked good)) (then_do (settle a.ask.item (operations.ack_deed a asked good)) operations.done))
    (quiet_then (volume.change (operations.ack_change a asked good)) (then_do (settle a.ask.item (operations.ack_deed a asked good)) operations.done) (other_then (settle a.ask.item (operations.ack_deed a asked good)) operations.done done_other))
quiet_on_ask f (operation.Restart key) a =
    quiet_checked (operations.restart_tests a) (reading (operations.restart_change a) (operations.restart_by a))
    (λ s. quiet_then (volume.change (operations.restart_change a s)) (then_do (settle a.ask.item Restarts) operations.done) (other_then (settle a.ask.item Restarts) operations.done done_other) s)
quiet_on_ask f (operation.Entries key list good) a = λ s. by (operations.changes_listed a list good s) s where
  by : (cs : List Change) → Quiet (operations.entries_by f a list good cs)
  by cs = quiet_checked (operations.entries_tests f a list cs) (then_do (operations.changes_with f cs) (then_do (settle a.ask.item (operations.entries_deed a good)) operations.done))
      (quiet_then (operations.changes_with f cs) (then_do (settle a.ask.item (operations.entries_deed a good)) operations.done) (other_then (settle a.ask.item (operations.entries_deed a good)) operations.done done_other))
quiet_on_ask f (operation.AckDehydrate key good) a = λ s. by (operations.second_verdict a s) s where
  by : (why : Option Code) → Quiet (operations.consent_by a good why)
  by why = quiet_checked (operations.consent_tests a (operations.consent_changes a good why)) (then_do (volume.changes (operations.consent_changes a good why)) (then_do (settle a.ask.item (operations.consent_deed a good why)) operations.done))
      (quiet_then (volume.changes (operations.consent_changes a good why)) (then_do (settle a.ask.item (operations.consent_deed a good why)) operations.done) (other_then (settle a.ask.item (operations.consent_deed a good why)) operations.done done_other))

quiet_execute : (op : Operation) → Quiet (operations.execute op)
quiet_execute op s = by (operations.live_at (operations.key_of op) s) s where
  by : (o : Option Live) → Quiet (operations.on_live volume.same_book op o)
  by None = λ x e. refl
  by (Some a) = quiet_on_ask volume.same_book op a

-- in the whole

part_quiet : (f : Arrow Filter Shown) → Quiet f → (s : State) → Leads Any (λ r t. is_refused r ≡ true → IsLeft s t) (in_filter f (begun s))
part_quiet f h s = leads_mapped Any (λ r x. is_refused r ≡ true → x ≡ (begun s).filter) Any (λ r t. is_refused r ≡ true → IsLeft s t) (λ x. with_filter x (begun s)) (f (begun s).filter) (λ x k. k) (λ r x k e. subst (λ (y : Filter). IsLeft s (with_filter y (begun s))) (sym (k e)) left) (h (begun s).filter) where
  left : IsLeft s (begun s)
  left = record { volume = refl; handles = refl; waiting = refl; policy = refl; connected = refl; link = refl; no_lines = refl }

drained_still : (n : ℕ) (s : State) → s.filter.outbox ≡ [] → Leads Any (λ u t. t ≡ s) (drained n s)
drained_still zero s none = refl
drained_still (suc n) s none = by s.filter.outbox none where
  by : (asks : List Ask) → asks ≡ [] → Leads Any (λ u t. t ≡ s) (elim asks as (λ _. Tree State (Unit {0})) [ [] ↦ Ret (record {}) s | a ∷ rest ↦ bind (call_back a (with_outbox rest s)) (λ _ t. drained n t) ])
  by [] e = refl
  by (a ∷ rest) e = let z : ◌≡◌ {A = List Ask} (a ∷ rest) [] = e in cc

result_refused : (q : Shown) (x : Filter) → is_refused q ≡ false → is_refused (result_of q x) ≡ false
result_refused (shown.Pending id) x e = by x.ending where
  by : (o : Option End) → is_refused (end_or_pending id o) ≡ false
  by None = refl
  by (Some d) = refl
result_refused q x e = e

calling_quiet : (f : Arrow Filter Shown) → Quiet f → (s : State) → s.filter.outbox ≡ [] → Leads Any (λ r t. is_refused r ≡ true → IsLeft s t) (calling f (begun s))
calling_quiet f h s none =
    leads_bind Any (λ q t. is_refused q ≡ true → t ≡ begun s) (λ r t. is_refused r ≡ true → IsLeft s t) (in_filter f (begun s)) finish_call
    (leads_mapped Any (λ q x. is_refused q ≡ true → x ≡ (begun s).filter) Any (λ q t. is_refused q ≡ true → t ≡ begun s) (λ x. with_filter x (begun s)) (f (begun s).filter) (λ x k. k) (λ q x k e. ap (λ (y : Filter). with_filter y (begun s)) (k e)) (h (begun s).filter))
    (λ q t k. by q t (is_refused q) refl k)
  where
    by : (q : Shown) (t : State) (b : Bool) → is_refused q ≡ b → (is_refused q ≡ true → t ≡ begun s) → Leads Any (λ r u. is_refused r ≡ true → IsLeft s u) (finish_call q t)
    by q t true e k =
        leads_bind Any (λ a u. u ≡ begun s) (λ r u. is_refused r ≡ true → IsLeft s u) (drain t) (λ _ u. in_filter (finish q) u)
        (leads_same (λ a u. u ≡ t) (λ a u. u ≡ begun s) (drain t) (λ a u z. z ∙ k e) (drained_still most t (ap (λ (x : State). x.filter.outbox) (k e) ∙ none)))
        (λ a u z _. subst (λ (x : State). IsLeft s (with_filter (begin_call x.filter) x)) (sym z) (record { volume = refl; handles = refl; waiting = refl; policy = refl; connected = refl; link = refl; no_lines = refl }))
    by q t false e k =
        leads_bind Any (λ a u. Unit {0}) (λ r u. is_refused r ≡ true → IsLeft s u) (drain t) (λ _ u. in_filter (finish q) u) (leads_any (λ a u. Unit {0}) (drain t) (λ a u. tt))
        (λ a u z r. apart (is_refused (result_of q u.filter)) (result_refused q u.filter e) r)

call_quiet : (m : Mode) (c : Call) (s : State) → s.filter.outbox ≡ [] → Leads Any (λ r t. is_refused r ≡ true → IsLeft s t) (call_in m c (begun s))
call_quiet m (call.Open path) s none = part_quiet (calls.open_file path) (quiet_file path calls.open_item (λ i. quiet_checked calls.open_tests (reading calls.next_handle (calls.opened_as i.id)) (λ x. quiet_then (noted (calls.with_handle i.id)) (ret (shown.Opened (calls.next_handle x))) (λ t. refl) x))) s
call_quiet m (call.Close handle) s none = calling_quiet (waits.close handle) (quiet_handle handle (waits.close_item handle) (λ item. quiet_then (noted (waits.without_handle handle)) (then_do (reading (waits.is_last item) (waits.end_handle handle item)) operations.done) (other_then (reading (waits.is_last item) (waits.end_handle handle item)) operations.done done_other))) s none
call_quiet m (call.Cancel wait) s none = calling_quiet (waits.cancel wait) (λ x. quiet_cancel wait (waits.waiting_by wait x) x) s none
call_quiet m (call.Tick ticks) s none = calling_quiet (waits.tick ticks) (quiet_then (noted (waits.with_time ticks)) (then_do (reading waits.expired_keys (each waits.expire)) operations.done) (other_then (reading waits.expired_keys (each waits.expire)) operations.done done_other)) s none
call_quiet m (call.Read handle offset len) s none = calling_quiet (waits.read handle (span_of offset len)) (quiet_handle handle (waits.read_item handle (span_of offset len)) (λ item x. quiet_need (waits.read_need handle (span_of offset len) item (waits.wants_rest x)) x)) s none
call_quiet m (call.Get path offset len) s none = calling_quiet (waits.get path (span_of offset len)) (quiet_file path (waits.get_item (span_of offset len)) (λ i. quiet_need (waits.plain_need wait_kind.Read i.id (span_of offset len)))) s none
call_quiet m (call.Write handle offset bytes) s none = calling_quiet (calls.write handle offset bytes) (quiet_handle handle (calls.write_item offset bytes) (λ item. quiet_write offset bytes item)) s none
call_quiet m (call.Size handle size) s none = calling_quiet (calls.set_size handle size) (quiet_handle handle (calls.size_item size) (λ item. quiet_size size item)) s none
call_quiet m call.Flush s none = part_quiet calls.flush (quiet_then (in_volume commit) (reading calls.count_now calls.show_count) (λ t. refl)) s
call_quiet m (call.Create path) s none = part_quiet (placements.create path NewFile) (quiet_create path NewFile) s
call_quiet m (call.Mkdir path) s none = part_quiet (placements.create path NewDir) (quiet_create path NewDir) s
call_quiet m (call.Delete path) s none = part_quiet (calls.delete m path) (quiet_delete m path) s
call_quiet m (call.Rename from to) s none = part_quiet (calls.rename from to) (quiet_rename from to) s
call_quiet m (call.List path) s none = calling_quiet (waits.list path) (quiet_path path waits.list_item (λ i. quiet_choose i.directory (waits.need (waits.plain_need wait_kind.List i.id no_span)) (waits.refused code.NotDirectory) (quiet_need (waits.plain_need wait_kind.List i.id no_span)) (λ x e. refl))) s none
call_quiet m (call.Pin path pin reach) s none = part_quiet (calls.set_pin path pin reach) (quiet_path path (calls.pin_item pin reach) (λ i x. quiet_changing (calls.pins_at i pin reach x) operations.done done_other x)) s
call_quiet m (call.Hydrate path) s none = calling_quiet (waits.hydrate path) (quiet_file path waits.hydrate_item (λ i. quiet_choose i.placeholder (waits.hydrate_file i.id) (waits.refused code.NotPlaceholder) (quiet_need (waits.plain_need wait_kind.Hydrate i.id no_span)) (λ x e. refl))) s none
call_quiet m (call.Dehydrate path range) s none = calling_quiet (dehydration.dehydrate path range) (quiet_file path (dehydration.dehydrate_range range) (quiet_range range)) s none
call_quiet m (call.Info path) s none = part_quiet (calls.info path) (quiet_path path calls.info_item (λ i x e. no_way e)) s
call_quiet m (call.Ranges path class) s none = part_quiet (calls.ranges path class) (quiet_file path (calls.ranges_item class) (λ i x e. no_way e)) s
call_quiet m call.Df s none = part_quiet calls.df (λ x e. no_way e) s
call_quiet m (call.Policy policy) s none = part_quiet (calls.set_policy m policy) (quiet_checked (calls.policy_tests m policy) (then_do (noted (calls.with_policy policy)) operations.done) (quiet_then (noted (calls.with_policy policy)) operations.done done_other)) s
call_quiet m (call.Keep path on) s none = calling_quiet (placements.keep_full path on) (quiet_path path (placements.keep_item on) (λ i. quiet_ok (placements.asking i.id operations.done) (quiet_asking i.id operations.done done_other) (plan_keep i on))) s none
call_quiet m (call.Used path) s none = part_quiet (calls.used path) (quiet_file path calls.used_item (λ i x e. no_way e)) s
call_quiet m (call.Connect on) s none = part_quiet (waits.connect on) (quiet_connect on) s

provider_quiet : (e : ProviderEvent) (s : State) → s.filter.outbox ≡ [] → Leads Any (λ r t. is_refused r ≡ true → IsLeft s t) (provider_event e (begun s))
provider_quiet (provider.Place path size identity in_sync) s none = part_quiet (placements.create path (NewPlaceholder size identity in_sync)) (quiet_create path (NewPlaceholder size identity in_sync)) s
provider_quiet (provider.PlaceDir path identity in_sync) s none = part_quiet (placements.create path (NewPlaceholderDir identity in_sync)) (quiet_create path (NewPlaceholderDir identity in_sync)) s
provider_quiet (provider.Convert path identity) s none = part_quiet (placements.convert path identity) (λ x. quiet_ok (placements.convert_item identity) (λ i. quiet_ok (placements.planned_on i.id) (quiet_planned i.id) (plan_convert i identity)) (calls.below_at path x) x) s
provider_quiet (provider.Revert path) s none = part_quiet (placements.revert path) (quiet_path path placements.revert_item (λ i x. quiet_ok (placements.planned_on i.id) (quiet_planned i.id) (placements.revert_plan i x) x)) s
provider_quiet (provider.Update path identity size) s none = part_quiet (placements.update path identity size) (quiet_path path (placements.update_item identity size) (λ i x. quiet_ok (placements.planned_on i.id) (quiet_planned i.id) (placements.update_plan identity size i x) x)) s
provider_quiet (provider.Mark path number) s none = calling_quiet (placements.mark path number) (quiet_path path (placements.mark_item number) (λ i. quiet_ok (placements.asking i.id (calls.number_of i.id)) (quiet_asking i.id (calls.number_of i.id) (number_other i.id)) (plan_mark i number))) s none
provider_quiet (provider.Unmark path) s none = part_quiet (placements.unmark path) (quiet_path path placements.unmark_item (λ i. quiet_ok (placements.planned_on i.id) (quiet_planned i.id) (plan_unmark i))) s
provider_quiet (provider.Do operation) s none = calling_quiet (operations.execute operation) (quiet_execute operation) s none
provider_quiet (provider.Plan own operation) s none = λ e. no_way e

-- of a call of an application, or an event of a provider
pub event_quiet : (e : Event) (s : State) → is_call e ≡ true → s.filter.outbox ≡ [] → Leads Any (λ r t. is_refused r ≡ true → IsLeft s t) (tree_of e s)
event_quiet (event.Call c) s is none = call_quiet s.mode c s none
event_quiet (event.Provider p) s is none = provider_quiet p s none
event_quiet (event.Device d) s is none = no_way is
event_quiet (event.Peer p) s is none = no_way is
event_quiet (event.Engine g) s is none = no_way is
