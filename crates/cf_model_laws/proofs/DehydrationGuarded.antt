-- What the parts of `Dehydration` keep in `replay`, each by what its own parts keep.
use Rattle.std.specs.Prelude.{ℕ, Bool, true, false, List, Option, Some, None, min, ◌-◌, Ok, Err, Result}
use Rattle.cf_base.specs.declared.answers.Shown.TheVariants as shown
use Rattle.cf_base.specs.declared.changes.Change.TheVariants as change
use Rattle.cf_base.specs.declared.codes.Code.{Code}
use Rattle.cf_base.specs.declared.waits.End.TheVariants as end
use Rattle.cf_model.specs.Arrows.{reading, then_do, Preserves, choose}
use Rattle.cf_model.specs.Changes.{same_book, change}
use Rattle.cf_model.specs.Changes as volume
use Rattle.cf_model.specs.Items.{Item, size_of, item_of}
use Rattle.cf_model.specs.State.{Filter, Link}
use Rattle.cf_model.specs.Waits.{Need, begin_now, begun, but_directory, on_ok, refused, is_met_now}
use Rattle.cf_model_laws.proofs.OperationsGuarded as operations_keep
use Rattle.cf_model.specs.Dehydration.{after_verdict, ask_consent, ask_tests, consent_need, dehydrate, dehydrate_item, dehydrate_range, emptied, empty_now, empty_tests, has_bytes, is_connected, verdict_at, with_provider, in_use}
use Rattle.cf_model_laws.proofs.Guarded.{AreWaitsKept, GuardedFilter}
use Rattle.std.proofs.Common.{◌≡◌, refl, List, ℕ, Bool, true, false, min, ◌-◌, inl}
use Rattle.cf_model.specs.Trees.{Keeps}
use Rattle.cf_model.proofs.TreeLaws.{keeps_bind}
use Rattle.cf_model.specs.LookUp.{find_path}
use Rattle.cf_model.specs.Soundness.{Each}
use Rattle.cf_model_laws.specs.Premises.{IsFair}
use Rattle.cf_base.specs.declared.codes.Code.TheVariants as code
use Rattle.cf_model_laws.proofs.FoundItems.{found_there}
use Rattle.cf_model_laws.proofs.Plainly.{checked_at}
use Rattle.cf_model_laws.proofs.SoundSettles.{each_found, or_right}
use Rattle.std.proofs.Common.{◌+◌, [], ◌∷◌, zero, suc, inr}
use Rattle.std.specs.Prelude.{drop, is_some, take, ◌||◌}
use Rattle.std.specs.List.{list_any}
use Rattle.cf_model_laws.specs.Seats.{NeedsWell}
use Rattle.cf_model_laws.proofs.RightItems.{no_way}
use Rattle.cf_model_laws.specs.Taken.{Knowledge}

ask_consent_at : (l : Link) (P : Filter → Type 0) → AreWaitsKept l P → (n : Need) (x : Filter) → (IsFair l → NeedsWell n x) → is_met_now n x ≡ false → P x → Keeps P (ask_consent n x)
ask_consent_at l P waits n x fit unmet h = checked_at P (ask_tests n) (reading (begun n) (begin_now n)) x h (λ e. waits n x fit unmet h)

-- the file is one of the items, and in sync
pub empty_at : {On : Knowledge} (l : Link) (tokens : ℕ) (P : Filter → Type 0) → GuardedFilter On l tokens P → (i : Item) (start len : ℕ) (x : Filter) → (IsFair l → Each i.id (λ i. i.in_sync ≡ true) x.volume.items) → P x → Keeps P (empty_now i start len x)
empty_at l tokens P closed i start len x fit h =
    checked_at P empty_tests (then_do (volume.change (change.Emptied i.id start len)) emptied) x h
    (λ e. keeps_bind P (volume.change (change.Emptied i.id start len) x) (λ _ t. emptied t) (closed.change same_book (change.Emptied i.id start len) x (λ b. refl) (λ fair. ((λ z b. refl), (λ k. k), λ b. refl)) (λ id k. k) fit (λ fair. (tt, inl (λ b. refl), inl tt, λ b. refl)) h) (λ u t j. j))

-- an item that is found under its id
abbrev pub IsThere : Item → Filter → Type 0
IsThere i x = item_of x.volume.items i.id ≡ Some i

-- a byte of a part is one of the whole

any_drop : (n : ℕ) (hs : List (Option ℕ)) → list_any is_some (drop n hs) ≡ true → list_any is_some hs ≡ true
any_drop zero hs h = h
any_drop (suc n) [] h = h
any_drop (suc n) (b ∷ bs) h = or_right (is_some b) (list_any is_some bs) (any_drop n bs h)

any_take : (n : ℕ) (hs : List (Option ℕ)) → list_any is_some (take n hs) ≡ true → list_any is_some hs ≡ true
any_take zero hs h = no_way h
any_take (suc n) [] h = h
any_take (suc n) (b ∷ bs) h = by (is_some b) (any_take n bs) h where
  by : (c : Bool) → (list_any is_some (take n bs) ≡ true → list_any is_some bs ≡ true) → (c || list_any is_some (take n bs)) ≡ true → (c || list_any is_some bs) ≡ true
  by true k e = refl
  by false k e = k e

-- consent is asked for an item of which a byte is here
consent_well : (i : Item) (start len : ℕ) (x : Filter) → IsThere i x → has_bytes i start len ≡ true → NeedsWell (consent_need i start len) x
consent_well i start len x there e = record { on = inr (refl, inr (i, there, any_drop start i.held (any_take (start + len - start) (drop start i.held) e))); alone = λ z. refl }

provided_at : {On : Knowledge} (l : Link) (tokens : ℕ) (P : Filter → Type 0) → GuardedFilter On l tokens P → AreWaitsKept l P → (i : Item) (start len : ℕ) (b : Bool) (x : Filter) → (IsFair l → NeedsWell (consent_need i start len) x)
    → (IsFair l → Each i.id (λ i. i.in_sync ≡ true) x.volume.items) → P x → Keeps P (with_provider i start len b x)
provided_at l tokens P closed waits i start len true x well fit h = ask_consent_at l P waits (consent_need i start len) x well refl h
provided_at l tokens P closed waits i start len false x well fit h = empty_at l tokens P closed i start len x fit h

range_at : {On : Knowledge} (l : Link) (tokens : ℕ) (P : Filter → Type 0) → GuardedFilter On l tokens P → AreWaitsKept l P → (i : Item) (start len : ℕ) (b : Bool) (x : Filter) → (b ≡ true → IsFair l → NeedsWell (consent_need i start len) x)
    → (IsFair l → Each i.id (λ i. i.in_sync ≡ true) x.volume.items) → P x → Keeps P (choose b (reading is_connected (with_provider i start len)) emptied x)
range_at l tokens P closed waits i start len true x well fit h = provided_at l tokens P closed waits i start len x.connected x (well refl) fit h
range_at l tokens P closed waits i start len false x well fit h = h

verdict_at_keeps : {On : Knowledge} (l : Link) (tokens : ℕ) (P : Filter → Type 0) → GuardedFilter On l tokens P → AreWaitsKept l P → (i : Item) (start len : ℕ) (refusal : Option Code) (x : Filter) → (IsFair l → IsThere i x)
    → (refusal ≡ None → IsFair l → Each i.id (λ i. i.in_sync ≡ true) x.volume.items) → P x → Keeps P (after_verdict i start len refusal x)
verdict_at_keeps l tokens P closed waits i start len (Some c) x there fit h = h
verdict_at_keeps l tokens P closed waits i start len None x there fit h =
    range_at l tokens P closed waits i start (min len (size_of i - start)) (has_bytes i start (min len (size_of i - start))) x (λ e fair. consent_well i start (min len (size_of i - start)) x (there fair) e) (fit refl) h

pub dehydrate_item_at : {On : Knowledge} (l : Link) (tokens : ℕ) (P : Filter → Type 0) → GuardedFilter On l tokens P → AreWaitsKept l P → (i : Item) (start len : ℕ) (x : Filter) → (IsFair l → IsThere i x) → P x → Keeps P (dehydrate_item i start len x)
dehydrate_item_at l tokens P closed waits i start len x there h =
    verdict_at_keeps l tokens P closed waits i start len (verdict_at i start len x) x there
    (λ e fair. each_found i.id (λ i. i.in_sync ≡ true) 0 x.volume.next_item.0 x.volume.items i (closed.sound x h fair).now.order (there fair) (operations_keep.verdict_in_sync x.policy i start len (in_use i.id x) e)) h

pub dehydrate_range_at : {On : Knowledge} (l : Link) (tokens : ℕ) (P : Filter → Type 0) → GuardedFilter On l tokens P → AreWaitsKept l P → (range : Option (ℕ × ℕ)) (i : Item) (x : Filter) → (IsFair l → IsThere i x) → P x → Keeps P (dehydrate_range range i x)
dehydrate_range_at l tokens P closed waits None i x there h = dehydrate_item_at l tokens P closed waits i 0 (size_of i) x there h
dehydrate_range_at l tokens P closed waits (Some r) i x there h = dehydrate_item_at l tokens P closed waits i r.0 r.1 x there h

pub dehydrate_keeps : {On : Knowledge} (l : Link) (tokens : ℕ) (P : Filter → Type 0) → GuardedFilter On l tokens P → AreWaitsKept l P → (path : List ℕ) (range : Option (ℕ × ℕ)) → Preserves P (dehydrate path range)
dehydrate_keeps l tokens P closed waits path range = record { keeps = λ x h. by x h (find_path x.volume.items path) refl } where
  dir : (i : Item) (x : Filter) → P x → (b : Bool) → (b ≡ false → IsFair l → IsThere i x) → Keeps P (choose b (refused code.IsDirectory) (dehydrate_range range i) x)
  dir i x h true there = h
  dir i x h false there = dehydrate_range_at l tokens P closed waits range i x (there refl) h

  by : (x : Filter) → P x → (o : Result Item Code) → find_path x.volume.items path ≡ o → Keeps P (on_ok (but_directory (dehydrate_range range)) o x)
  by x h (Err c) e = h
  by x h (Ok i) e = dir i x h i.directory (λ file fair. found_there path i x.volume.next_item.0 x.volume.items (closed.sound x h fair).now.order e file)
