-- What the parts of `Placements` keep in `replay`, each by what its own parts keep.
use Rattle.std.specs.Prelude.{ℕ, Bool, List, [], ◌∷◌, Option, Some, None, cond, not, length, is_some}
use Rattle.cf_base.specs.declared.answers.Shown.{Shown}
use Rattle.cf_base.specs.declared.answers.Shown.TheVariants as shown
use Rattle.cf_base.specs.declared.changes.Change.{Change}
use Rattle.cf_base.specs.declared.ids.ItemId.{ItemId}
use Rattle.cf_model.specs.Arrows.{Arrow, ret, then_do, unit, Preserves}
use Rattle.cf_model.specs.Requests.{Nothing}
use Rattle.cf_model.specs.Changes.{changes, same_book, change, change as put, next_number}
use Rattle.cf_model.specs.Items.{Item}
use Rattle.cf_model.specs.LookUp.{Place, child_of, find_place}
use Rattle.std.specs.Prelude.{Result, Ok, Err}
use Rattle.cf_model.specs.Arrows.{reading}
use Rattle.cf_model_laws.specs.Premises.{IsFair}
use Rattle.cf_model_laws.specs.Seats.{IsSeated}
use Rattle.cf_model_laws.proofs.FoundItems.{place_seated}
use Rattle.cf_model.specs.Operations.{done}
use Rattle.cf_model.specs.Plans.{NewDir, NewFile, make_and_mark, plan, planned}
use Rattle.cf_model.specs.State.{Filter, Link}
use Rattle.cf_model.specs.Waits.{on_ok}
use Rattle.cf_model.specs.Calls.{place_at, room_tests}
use Rattle.cf_model_laws.proofs.OperationsGuarded as operations_keep
use Rattle.cf_model_laws.proofs.WaitsGuarded as waits_keep
use Rattle.cf_model.specs.Placements.{asking, asking_tests, create, create_at, keep_full, keep_item, make_planned, settle_changed}
use Rattle.cf_model_laws.proofs.Guarded.{GuardedFilter, settled_on}
use Rattle.cf_model.proofs.ArrowLaws.{keeps_ret, keeps_then}
use Rattle.std.proofs.Common.{◌≡◌, ◌∷◌, refl, sym, ◌∙◌, ap, inl, List, [], ℕ, Bool, true, false}
use Rattle.cf_base.specs.declared.changes.Change.TheVariants as change
use Rattle.cf_base.specs.declared.codes.Code.{Code}
use Rattle.cf_base.specs.declared.codes.Code.TheVariants as code
use Rattle.cf_base.specs.declared.items.Kind.{Kind}
use Rattle.cf_base.specs.declared.items.Kind.TheVariants as kind
use Rattle.cf_model.specs.Effects.{size_made}
use Rattle.cf_model.specs.Store.{Held}
use Rattle.cf_model.specs.Trees.{Keeps}
use Rattle.cf_model.specs.Words.{first_of, when}
use Rattle.cf_model.proofs.ContentItems.{no-identity}
use Rattle.cf_model.proofs.TreeLaws.{keeps_bind}
use Rattle.cf_model_laws.specs.Fitting.{NamesWell, Populates}
use Rattle.cf_model_laws.specs.Invariant.{All, target_in}
use Rattle.cf_model_laws.proofs.Plainly.{IsPlain, checked_at, plains_keep}
use Rattle.cf_model_laws.proofs.AimedTargets.{unaimed_none}
use Rattle.cf_base.specs.declared.policies.Policy.{Policy}
use Rattle.cf_model_laws.specs.Taken.{Knowledge}

-- a new file or directory

no_base : (r : Held) (d p : Bool) → NamesWell r d p []
no_base r d p = record { based = inl refl; aimed = inl refl; bare = λ e. (refl, refl); plain = λ e f. ((refl, refl), refl) }

made_at : {On : Knowledge} (l : Link) (tokens : ℕ) (P : Filter → Type 0) → GuardedFilter On l tokens P → (k : Kind) → size_made k 0 ≡ 0 → ((pol : Policy) → Populates pol k) → (p : Place) (x : Filter) → (IsFair l → IsSeated x.volume.items p.parent.id true) → P x
    → Keeps P (on_ok make_planned (plan ((is_some (child_of x.volume.items p.parent.id p.name), code.Exists) ∷ []) (make_and_mark x.volume.next_item (next_number x.volume) p.parent.id p.name k 0 [] false)) x)
made_at l tokens P closed k zero_size populates p x seat h = by (is_some (child_of x.volume.items p.parent.id p.name)) where
  by : (b : Bool) → Keeps P (on_ok make_planned (planned (cond b (Some code.Exists) None) (change.Make x.volume.next_item p.parent.id p.name k 0 [] ∷ [])) x)
  by true = h
  by false =
      checked_at P (room_tests (change.Make x.volume.next_item p.parent.id p.name k 0 [] ∷ [])) (then_do (changes (change.Make x.volume.next_item p.parent.id p.name k 0 [] ∷ [])) (ret (shown.Item x.volume.next_item))) x h
      (λ e. keeps_bind P (changes (change.Make x.volume.next_item p.parent.id p.name k 0 [] ∷ []) x) (λ _ t. ret (shown.Item x.volume.next_item) t)
      (keeps_bind P (put (change.Make x.volume.next_item p.parent.id p.name k 0 []) x) (λ _ t. ret unit t)
      (closed.change same_book (change.Make x.volume.next_item p.parent.id p.name k 0 []) x (λ b. refl) (λ fair. ((λ z b. refl), (λ k. k), λ b. refl)) (λ id k. k)
      (λ fair. ((refl, ap (λ (bs : List ℕ). length bs) (no-identity l.remote) ∙ sym zero_size, no_base l.remote _ _), (inl refl, unaimed_none x.volume.items (target_in []) refl), inl (seat fair), populates x.policy)) (λ fair. (inl refl, inl (λ b. refl), inl tt, λ b. refl)) h) (λ u t j. j))
      (λ u t j. j))

-- at a place that is found
at_place : {On : Knowledge} (l : Link) (tokens : ℕ) (P : Filter → Type 0) → GuardedFilter On l tokens P → (path : List ℕ) (f : Place → Arrow Filter Shown) → ((p : Place) (x : Filter) → (IsFair l → IsSeated x.volume.items p.parent.id true) → P x → Keeps P (f p x))
    → Preserves P (reading (place_at path) (on_ok f))
at_place l tokens P closed path f k = record { keeps = λ x h. by x h (find_place x.volume.items path) refl } where
  by : (x : Filter) → P x → (o : Result Place Code) → find_place x.volume.items path ≡ o → Keeps P (on_ok f o x)
  by x h (Err c) e = h
  by x h (Ok p) e = k p x (λ fair. place_seated path p x.volume.next_item.0 x.volume.items (closed.sound x h fair).now.order e) h

pub create_file_keeps : {On : Knowledge} (l : Link) (tokens : ℕ) (P : Filter → Type 0) → GuardedFilter On l tokens P → (path : List ℕ) → Preserves P (create path NewFile)
create_file_keeps l tokens P closed path = at_place l tokens P closed path (create_at NewFile) (made_at l tokens P closed kind.File refl (λ pol. tt))

pub create_dir_keeps : {On : Knowledge} (l : Link) (tokens : ℕ) (P : Filter → Type 0) → GuardedFilter On l tokens P → (path : List ℕ) → Preserves P (create path NewDir)
create_dir_keeps l tokens P closed path = at_place l tokens P closed path (create_at NewDir) (made_at l tokens P closed kind.Dir refl (λ pol. tt))

pub settle_changed_keeps : {On : Knowledge} (l : Link) (tokens : ℕ) (P : Filter → Type 0) → GuardedFilter On l tokens P → (x1 : ItemId) → (x2 : List Change) → Preserves P (settle_changed x1 x2)
settle_changed_keeps l tokens P closed item [] = keeps_ret P unit
settle_changed_keeps l tokens P closed item (c ∷ cs) = settled_on l tokens P closed item Nothing (λ x. (tt, tt))

pub asking_keeps : {On : Knowledge} (l : Link) (tokens : ℕ) (P : Filter → Type 0) → GuardedFilter On l tokens P → (item : ItemId) (answer : Arrow Filter Shown) → Preserves P answer → (cs : List Change) → All IsPlain cs → Preserves P (asking item answer cs)
asking_keeps l tokens P closed item answer answer_keeps cs plain =
    operations_keep.checked_keeps l tokens P closed (asking_tests item cs) (then_do (changes cs) (then_do (settle_changed item cs) answer))
    (keeps_then P (changes cs) (then_do (settle_changed item cs) answer) (plains_keep l tokens P closed cs plain) (keeps_then P (settle_changed item cs) answer (settle_changed_keeps l tokens P closed item cs) answer_keeps))

plain_keep : (i : Item) (on b : Bool) → All IsPlain (when b (change.Keep i.id on ∷ []))
plain_keep i on true = (record { fits = λ r x. tt; free = λ id k. k; unnamed = tt; holds = λ items. tt }, tt)
plain_keep i on false = tt

pub keep_item_keeps : {On : Knowledge} (l : Link) (tokens : ℕ) (P : Filter → Type 0) → GuardedFilter On l tokens P → (on : Bool) (i : Item) → Preserves P (keep_item on i)
keep_item_keeps l tokens P closed on i = by (first_of ((i.directory, code.IsDirectory) ∷ (not i.placeholder, code.NotPlaceholder) ∷ [])) where
  by : (o : Option Code) → Preserves P (on_ok (asking i.id done) (planned o (when (not (cond on i.keep (not i.keep))) (change.Keep i.id on ∷ []))))
  by None = asking_keeps l tokens P closed i.id done (operations_keep.done_keeps l tokens P closed) (when (not (cond on i.keep (not i.keep))) (change.Keep i.id on ∷ [])) (plain_keep i on (not (cond on i.keep (not i.keep))))
  by (Some c) = keeps_ret P (shown.Refused c)

pub keep_full_keeps : {On : Knowledge} (l : Link) (tokens : ℕ) (P : Filter → Type 0) → GuardedFilter On l tokens P → (x1 : List ℕ) → (x2 : Bool) → Preserves P (keep_full x1 x2)
keep_full_keeps l tokens P closed path on = waits_keep.on_path_keeps l tokens P closed path (keep_item on) (keep_item_keeps l tokens P closed on)
