-- What the parts of `Waits` keep in `replay`, each by what its own parts keep.
use Rattle.std.specs.Prelude.{ℕ, Bool, true, false, List, Option, Some, None, Result, Ok, Err}
use Rattle.cf_base.specs.declared.answers.Shown.{Shown}
use Rattle.cf_base.specs.declared.answers.Shown.TheVariants as shown
use Rattle.cf_base.specs.declared.codes.Code.{Code}
use Rattle.cf_base.specs.declared.codes.Code.TheVariants as code
use Rattle.cf_base.specs.declared.ids.Handle.{Handle}
use Rattle.cf_base.specs.declared.ids.ItemId.{ItemId}
use Rattle.cf_base.specs.declared.ids.Key.{Key}
use Rattle.cf_base.specs.declared.ids.WaitId.{WaitId}
use Rattle.cf_base.specs.declared.spans.Span.{Span}
use Rattle.cf_base.specs.declared.waits.WaitKind.TheVariants as wait_kind
use Rattle.cf_model.specs.Arrows.{Arrow, choose, each, noted, one, reading, ret, then_do, Preserves}
use Rattle.cf_model.specs.Requests.{Cancels, Closes, Expires, Live}
use Rattle.cf_model.specs.Items.{Item}
use Rattle.cf_model.specs.Missing.{Wait, no_span}
use Rattle.cf_model.specs.Operations.{done}
use Rattle.cf_model.specs.Settling.{settle, tell}
use Rattle.cf_model.specs.State.{Filter, Open, Link}
use Rattle.cf_model_laws.proofs.OperationsGuarded as operations_keep
use Rattle.cf_model.specs.Waits.{Need, accessed_now, all_down, answer_now, answer_or_begin, answer_with, at_path, begin, begin_now, begin_tests, begun, but_directory, cancel, cancel_wait, close, close_item, connect, connected_again, disconnected, end_handle, end_now, expire, expire_live, expired_keys, get, get_item, hydrate, hydrate_file, hydrate_item, is_last, is_met_now, list, list_item, need, on_file, on_handle, on_ok, on_open, on_path, opened_by, plain_need, read, read_item, read_need, refused, still_live, tick, waiting_by, wants_rest, with_time, without_handle}
use Rattle.cf_model_laws.proofs.Guarded.{AreWaitsKept, GuardedFilter, IsPlainNeed, one_ask, settled_on}
use Rattle.std.proofs.Common.{◌≡◌, ◌∙◌, refl, sym, subst, inl, inr}
use Rattle.cf_model.specs.Items.{item_of}
use Rattle.cf_model.specs.LookUp.{find_path}
use Rattle.cf_model.specs.Requests.{is_list_wait}
use Rattle.cf_model.specs.Trees.{Keeps}
use Rattle.cf_model_laws.specs.Premises.{IsFair}
use Rattle.cf_model_laws.specs.Seats.{IsSeated, NeedsWell}
use Rattle.cf_model_laws.proofs.FoundItems.{found_seated, found_there}
use Rattle.cf_model_laws.proofs.Plainly.{checked_at}
use Rattle.cf_model_laws.proofs.RightItems.{no_way}
use Rattle.cf_model_laws.specs.Taken.{Knowledge}
use Rattle.cf_model.proofs.ArrowLaws.{keeps_choose, keeps_each, keeps_noted, keeps_one, keeps_reading, keeps_ret, keeps_then}

pub on_ok_keeps : {X : Type 0} → {On : Knowledge} (l : Link) (tokens : ℕ) (P : Filter → Type 0) → GuardedFilter On l tokens P → (x1 : (X → Arrow Filter Shown)) → ((z0_0 : X) → Preserves P (x1 z0_0)) → (x2 : Result X Code) → Preserves P (on_ok x1 x2)
on_ok_keeps l tokens P closed f f_keeps (Ok x) = f_keeps x
on_ok_keeps l tokens P closed f f_keeps (Err c) = keeps_ret P (shown.Refused c)

pub on_path_keeps : {On : Knowledge} (l : Link) (tokens : ℕ) (P : Filter → Type 0) → GuardedFilter On l tokens P → (x1 : List ℕ) → (x2 : (Item → Arrow Filter Shown)) → ((z1_0 : Item) → Preserves P (x2 z1_0)) → Preserves P (on_path x1 x2)
on_path_keeps l tokens P closed path f f_keeps = keeps_reading P (at_path path) (on_ok f) (on_ok_keeps l tokens P closed f f_keeps)

pub refused_keeps : {On : Knowledge} (l : Link) (tokens : ℕ) (P : Filter → Type 0) → GuardedFilter On l tokens P → (x1 : Code) → Preserves P (refused x1)
refused_keeps l tokens P closed c = keeps_ret P (shown.Refused c)

pub but_directory_keeps : {On : Knowledge} (l : Link) (tokens : ℕ) (P : Filter → Type 0) → GuardedFilter On l tokens P → (x1 : (Item → Arrow Filter Shown)) → ((z0_0 : Item) → Preserves P (x1 z0_0)) → (x2 : Item) → Preserves P (but_directory x1 x2)
but_directory_keeps l tokens P closed f f_keeps i = keeps_choose P i.directory (refused code.IsDirectory) (f i) (refused_keeps l tokens P closed code.IsDirectory) (f_keeps i)

pub on_file_keeps : {On : Knowledge} (l : Link) (tokens : ℕ) (P : Filter → Type 0) → GuardedFilter On l tokens P → (x1 : List ℕ) → (x2 : (Item → Arrow Filter Shown)) → ((z1_0 : Item) → Preserves P (x2 z1_0)) → Preserves P (on_file x1 x2)
on_file_keeps l tokens P closed path f f_keeps = on_path_keeps l tokens P closed path (but_directory f) (but_directory_keeps l tokens P closed f f_keeps)

-- a path leads to an item, which is known
pub on_path_at : (P : Filter → Type 0) → (path : List ℕ) (f : Item → Arrow Filter Shown) → ((i : Item) (x : Filter) → find_path x.volume.items path ≡ Ok i → P x → Keeps P (f i x)) → Preserves P (on_path path f)
on_path_at P path f k = record { keeps = λ x h. by x h (find_path x.volume.items path) refl } where
  by : (x : Filter) → P x → (o : Result Item Code) → find_path x.volume.items path ≡ o → Keeps P (on_ok f o x)
  by x h (Err c) e = h
  by x h (Ok i) e = k i x e h

-- and to a file that is here
pub on_file_at : {On : Knowledge} (l : Link) (tokens : ℕ) (P : Filter → Type 0) → GuardedFilter On l tokens P → (path : List ℕ) (f : Item → Arrow Filter Shown)
    → ((i : Item) (x : Filter) → (IsFair l → (item_of x.volume.items i.id ≡ Some i) × (i.directory ≡ false)) → P x → Keeps P (f i x)) → Preserves P (on_file path f)
on_file_at l tokens P closed path f k = on_path_at P path (but_directory f) (λ i x e h. by i x e h i.directory refl) where
  by : (i : Item) (x : Filter) → find_path x.volume.items path ≡ Ok i → P x → (b : Bool) → i.directory ≡ b → Keeps P (choose b (refused code.IsDirectory) (f i) x)
  by i x e h true q = h
  by i x e h false q = k i x (λ fair. (found_there path i x.volume.next_item.0 x.volume.items (closed.sound x h fair).now.order e q, q)) h

pub on_open_keeps : {On : Knowledge} (l : Link) (tokens : ℕ) (P : Filter → Type 0) → GuardedFilter On l tokens P → (x1 : (ItemId → Arrow Filter Shown)) → ((z0_0 : ItemId) → Preserves P (x1 z0_0)) → (x2 : Option Open) → Preserves P (on_open x1 x2)
on_open_keeps l tokens P closed f f_keeps None = refused_keeps l tokens P closed code.NoHandle
on_open_keeps l tokens P closed f f_keeps (Some o) = f_keeps o.item

pub on_handle_keeps : {On : Knowledge} (l : Link) (tokens : ℕ) (P : Filter → Type 0) → GuardedFilter On l tokens P → (x1 : Handle) → (x2 : (ItemId → Arrow Filter Shown)) → ((z1_0 : ItemId) → Preserves P (x2 z1_0)) → Preserves P (on_handle x1 x2)
on_handle_keeps l tokens P closed h f f_keeps = keeps_reading P (opened_by h) (on_open f) (on_open_keeps l tokens P closed f f_keeps)

pub begin_at : (P : Filter → Type 0) (n : Need) (x : Filter) → (P x → Keeps P (reading (begun n) (begin_now n) x)) → P x → Keeps P (begin n x)
begin_at P n x begins h = checked_at P (begin_tests n) (reading (begun n) (begin_now n)) x h (λ e. begins h)

pub answer_with_keeps : {On : Knowledge} (l : Link) (tokens : ℕ) (P : Filter → Type 0) → GuardedFilter On l tokens P → (x1 : Need) → (x2 : Shown) → Preserves P (answer_with x1 x2)
answer_with_keeps l tokens P closed n answer = keeps_then P (one (accessed_now n)) (ret answer) (keeps_one P (accessed_now n) (closed.keeps_accessed_now n)) (keeps_ret P answer)

pub answer_now_keeps : {On : Knowledge} (l : Link) (tokens : ℕ) (P : Filter → Type 0) → GuardedFilter On l tokens P → (x1 : Need) → Preserves P (answer_now x1)
answer_now_keeps l tokens P closed n = keeps_reading P (end_now n) (answer_with n) (answer_with_keeps l tokens P closed n)

need_by : {On : Knowledge} (l : Link) (tokens : ℕ) (P : Filter → Type 0) → GuardedFilter On l tokens P → (n : Need) (x : Filter) → (is_met_now n x ≡ false → P x → Keeps P (reading (begun n) (begin_now n) x)) → P x → Keeps P (need n x)
need_by l tokens P closed n x begins h = by (is_met_now n x) refl where
  by : (b : Bool) → is_met_now n x ≡ b → Keeps P (answer_or_begin n b x)
  by true e = (answer_now_keeps l tokens P closed n).keeps x h
  by false e = begin_at P n x (begins e) h

pub need_at : {On : Knowledge} (l : Link) (tokens : ℕ) (P : Filter → Type 0) → GuardedFilter On l tokens P → (n : Need) (x : Filter) → IsPlainNeed n → (IsFair l → NeedsWell n x) → P x → Keeps P (need n x)
need_at l tokens P closed n x plain fit h = need_by l tokens P closed n x (λ e k. closed.begins n x plain fit e k) h

-- what a file that is here needs
file_needs : (n : Need) (i : Item) (x : Filter) → n.item ≡ i.id → is_list_wait n.kind ≡ false → (item_of x.volume.items i.id ≡ Some i) × (i.directory ≡ false) → NeedsWell n x
file_needs n i x item kind there = record {
  on = inl (inl (i, subst (λ (id : ItemId). item_of x.volume.items id ≡ Some i) (sym item) there.0, there.1 ∙ sym kind));
  alone = λ z. kind;
}

pub read_keeps : {On : Knowledge} (l : Link) (tokens : ℕ) (P : Filter → Type 0) → GuardedFilter On l tokens P → (x1 : Handle) → (x2 : Span) → Preserves P (read x1 x2)
read_keeps l tokens P closed h asked = record { keeps = λ x k. by x k (opened_by h x) refl } where
  by : (x : Filter) → P x → (o : Option Open) → opened_by h x ≡ o → Keeps P (on_open (read_item h asked) o x)
  by x k None e = k
  by x k (Some o) e = need_at l tokens P closed (read_need h asked o.item (wants_rest x)) x (refl, refl) (λ fair. record { on = inr (refl, inl (h, o, e, refl)); alone = λ z. refl }) k

pub get_keeps : {On : Knowledge} (l : Link) (tokens : ℕ) (P : Filter → Type 0) → GuardedFilter On l tokens P → (x1 : List ℕ) → (x2 : Span) → Preserves P (get x1 x2)
get_keeps l tokens P closed path asked =
    on_file_at l tokens P closed path (get_item asked) (λ i x there h. need_at l tokens P closed (plain_need wait_kind.Read i.id asked) x (refl, refl) (λ fair. file_needs (plain_need wait_kind.Read i.id asked) i x refl refl (there fair)) h)

pub list_keeps : {On : Knowledge} (l : Link) (tokens : ℕ) (P : Filter → Type 0) → GuardedFilter On l tokens P → AreWaitsKept l P → (x1 : List ℕ) → Preserves P (list x1)
list_keeps l tokens P closed waits path = on_path_at P path list_item (λ i x e h. by i x e h i.directory refl) where
  by : (i : Item) (x : Filter) → find_path x.volume.items path ≡ Ok i → P x → (b : Bool) → i.directory ≡ b → Keeps P (choose b (need (plain_need wait_kind.List i.id no_span)) (refused code.NotDirectory) x)
  by i x e h true q =
      need_by l tokens P closed (plain_need wait_kind.List i.id no_span) x
      (waits (plain_need wait_kind.List i.id no_span) x (λ fair. record { on = inl (subst (IsSeated x.volume.items i.id) q (found_seated path i x.volume.next_item.0 x.volume.items (closed.sound x h fair).now.order e)); alone = λ z. no_way z })) h
  by i x e h false q = h

pub hydrate_file_at : {On : Knowledge} (l : Link) (tokens : ℕ) (P : Filter → Type 0) → GuardedFilter On l tokens P → (i : Item) (x : Filter) → (IsFair l → (item_of x.volume.items i.id ≡ Some i) × (i.directory ≡ false)) → P x → Keeps P (hydrate_file i.id x)
hydrate_file_at l tokens P closed i x there h = need_at l tokens P closed (plain_need wait_kind.Hydrate i.id no_span) x (refl, refl) (λ fair. file_needs (plain_need wait_kind.Hydrate i.id no_span) i x refl refl (there fair)) h

hydrate_item_at : {On : Knowledge} (l : Link) (tokens : ℕ) (P : Filter → Type 0) → GuardedFilter On l tokens P → (i : Item) (b : Bool) (x : Filter) → (IsFair l → (item_of x.volume.items i.id ≡ Some i) × (i.directory ≡ false)) → P x
    → Keeps P (choose b (hydrate_file i.id) (refused code.NotPlaceholder) x)
hydrate_item_at l tokens P closed i true x there h = hydrate_file_at l tokens P closed i x there h
hydrate_item_at l tokens P closed i false x there h = h

pub hydrate_keeps : {On : Knowledge} (l : Link) (tokens : ℕ) (P : Filter → Type 0) → GuardedFilter On l tokens P → (x1 : List ℕ) → Preserves P (hydrate x1)
hydrate_keeps l tokens P closed path = on_file_at l tokens P closed path hydrate_item (λ i x there h. hydrate_item_at l tokens P closed i i.placeholder x there h)

pub cancel_wait_keeps : {On : Knowledge} (l : Link) (tokens : ℕ) (P : Filter → Type 0) → GuardedFilter On l tokens P → (x1 : WaitId) → (x2 : Option Wait) → Preserves P (cancel_wait x1 x2)
cancel_wait_keeps l tokens P closed id None = refused_keeps l tokens P closed code.NoWait
cancel_wait_keeps l tokens P closed id (Some w) = keeps_then P (settle w.item (Cancels id)) done (settled_on l tokens P closed w.item (Cancels id) (λ x. (tt, tt))) (operations_keep.done_keeps l tokens P closed)

pub cancel_keeps : {On : Knowledge} (l : Link) (tokens : ℕ) (P : Filter → Type 0) → GuardedFilter On l tokens P → (x1 : WaitId) → Preserves P (cancel x1)
cancel_keeps l tokens P closed id = keeps_reading P (waiting_by id) (cancel_wait id) (cancel_wait_keeps l tokens P closed id)

pub end_handle_keeps : {On : Knowledge} (l : Link) (tokens : ℕ) (P : Filter → Type 0) → GuardedFilter On l tokens P → (x1 : Handle) → (x2 : ItemId) → (x3 : Bool) → Preserves P (end_handle x1 x2 x3)
end_handle_keeps l tokens P closed h item last = settled_on l tokens P closed item (Closes h last) (λ x. (tt, tt))

pub close_item_keeps : {On : Knowledge} (l : Link) (tokens : ℕ) (P : Filter → Type 0) → GuardedFilter On l tokens P → (x1 : Handle) → (x2 : ItemId) → Preserves P (close_item x1 x2)
close_item_keeps l tokens P closed h item = keeps_then P (noted (without_handle h)) (then_do (reading (is_last item) (end_handle h item)) done) (keeps_noted P (without_handle h) (closed.keeps_without_handle h)) (keeps_then P (reading (is_last item) (end_handle h item)) done (keeps_reading P (is_last item) (end_handle h item) (end_handle_keeps l tokens P closed h item)) (operations_keep.done_keeps l tokens P closed))

pub close_keeps : {On : Knowledge} (l : Link) (tokens : ℕ) (P : Filter → Type 0) → GuardedFilter On l tokens P → (x1 : Handle) → Preserves P (close x1)
close_keeps l tokens P closed h = on_handle_keeps l tokens P closed h (close_item h) (close_item_keeps l tokens P closed h)

expire_live_at : {On : Knowledge} (l : Link) (tokens : ℕ) (P : Filter → Type 0) → GuardedFilter On l tokens P → (key : Key) (o : Option Live) (x : Filter) → still_live key x ≡ o → P x → Keeps P (expire_live key o x)
expire_live_at l tokens P closed key None x e h = h
expire_live_at l tokens P closed key (Some a) x e h = closed.settled a.ask.item (Expires key) x (tt, one_ask key a x e) h

pub expire_keeps : {On : Knowledge} (l : Link) (tokens : ℕ) (P : Filter → Type 0) → GuardedFilter On l tokens P → (x1 : Key) → Preserves P (expire x1)
expire_keeps l tokens P closed key = record { keeps = λ x h. expire_live_at l tokens P closed key (still_live key x) x refl h }

pub tick_keeps : {On : Knowledge} (l : Link) (tokens : ℕ) (P : Filter → Type 0) → GuardedFilter On l tokens P → (x1 : ℕ) → Preserves P (tick x1)
tick_keeps l tokens P closed n = keeps_then P (noted (with_time n)) (then_do (reading expired_keys (each expire)) done) (keeps_noted P (with_time n) (closed.keeps_with_time n)) (keeps_then P (reading expired_keys (each expire)) done (keeps_reading P expired_keys (each expire) (λ z1. keeps_each P expire z1 (expire_keeps l tokens P closed))) (operations_keep.done_keeps l tokens P closed))

pub connect_keeps : {On : Knowledge} (l : Link) (tokens : ℕ) (P : Filter → Type 0) → GuardedFilter On l tokens P → ((x : Filter) → P x → P (disconnected x)) → (x1 : Bool) → Preserves P (connect x1)
connect_keeps l tokens P closed disconnects true = keeps_then P (noted connected_again) done (keeps_noted P connected_again (closed.keeps_connected_again)) (operations_keep.done_keeps l tokens P closed)
connect_keeps l tokens P closed disconnects false = keeps_then P (noted disconnected) (then_do (reading all_down tell) done) (keeps_noted P disconnected disconnects) (keeps_then P (reading all_down tell) done closed.downs (operations_keep.done_keeps l tokens P closed))
