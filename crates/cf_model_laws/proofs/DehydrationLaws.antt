-- A dehydration is refused exactly where one of three causes holds.
use Rattle.std.proofs.Common.{◌≡◌, ◌≢◌, ℕ, Bool, true, false, List, [], refl, sym, ◌∙◌, ap, subst, ◌⊎◌, inl, inr, min, ◌-◌}
use Rattle.std.specs.Prelude.{Option, Some, None, Ok, Result, cond}
use Rattle.cf_base.specs.declared.answers.Answer.{Answer}
use Rattle.cf_base.specs.declared.answers.Shown.{Shown}
use Rattle.cf_base.specs.declared.answers.Shown.TheVariants as shown
use Rattle.cf_base.specs.declared.codes.Code.{Code}
use Rattle.cf_base.specs.declared.codes.Code.TheVariants as code
use Rattle.cf_base.specs.declared.ids.WaitId.{WaitId}
use Rattle.cf_base.specs.declared.policies.Mode.{Mode}
use Rattle.cf_base.specs.declared.waits.End.{End}
use Rattle.cf_base.specs.declared.waits.End.TheVariants as end
use Rattle.cf_base.specs.declared.changes.Change.TheVariants as change
use Rattle.cf_model.specs.Arrows.{choose, reading, then_do, unless}
use Rattle.cf_model.specs.Callbacks.{calling, drain, end_or_pending, finish, finish_call, result_of}
use Rattle.cf_model.specs.Changes as volume
use Rattle.cf_model.specs.Changes.{no_places}
use Rattle.cf_model.specs.Requests.{no_numbers}
use Rattle.cf_model.specs.Dehydration.{dehydrate, emptied, with_provider, ask_consent, after_verdict, consent_need, dehydrate_range, empty_now, has_bytes, is_connected, verdict_at}
use Rattle.cf_model.specs.Events.{answer_in, answered, begun as begun_event, no_power, outcome, tree_of}
use Rattle.cf_model.specs.Items.{Item, size_of}
use Rattle.cf_model.specs.Lawful.{IsStep}
use Rattle.cf_model.specs.LookUp.{find_path}
use Rattle.cf_model.specs.State.{Broken, Filter, Off, On, Power, State, in_filter, items_now, with_filter}
use Rattle.cf_model.specs.Settling.{tell}
use Rattle.cf_model.specs.Trees.{Ret, Tree, play}
use Rattle.cf_model.specs.Waits.{Need, begin_now, begun, but_directory, on_ok, own_id, refused, with_own}
use Rattle.cf_model_laws.specs.Dehydrations.{IsAllowed, IsRefusedExactly, dehydrating, is_cause, len_of, start_of, why_kept}
use Rattle.cf_model_laws.proofs.Leading.{Ended, Leads, leads_any, leads_bind, leads_mapped, led}

abbrev Any : {S : Type 0} → S → Type 0
Any s = Unit {0}

-- what a call may answer where no cause holds
abbrev Final : Option Code → Shown → Type 0
Final (Some c) r = r ≡ shown.Refused c
Final None r = (r ≡ shown.Ended end.Emptied) ⊎ ((r ≡ shown.Refused code.Exhausted) ⊎ (((id : WaitId) × (r ≡ shown.Pending id)) ⊎ ((x : End) × (r ≡ shown.Ended x))))

abbrev IsOther : Shown → Type 0
IsOther r = (r ≡ shown.Ended end.Emptied) ⊎ ((r ≡ shown.Refused code.Exhausted) ⊎ ((id : WaitId) × (r ≡ shown.Pending id)))

-- by the verdict
abbrev Shows : Option Code → Shown → Type 0
Shows (Some c) r = r ≡ shown.Refused c
Shows None r = IsOther r

checked_gives : (tests : List (Bool × Code)) (f : Filter → Tree Filter Shown) (s : Filter) → ((s : Filter) → Leads Any (λ r t. IsOther r) (f s)) → (b : Bool)
    → Leads Any (λ r t. IsOther r) (unless shown.Refused (cond b (Some code.Exhausted) None) f s)
checked_gives tests f s h true = inr (inl refl)
checked_gives tests f s h false = h s

asked_gives : (n : Need) (s : Filter) → Leads Any (λ r t. IsOther r) (ask_consent n s)
asked_gives n s =
    checked_gives [] (reading (begun n) (begin_now n)) s
    (λ x. leads_bind Any (λ a t. Unit {0}) (λ r t. IsOther r) (tell (begun n x) (with_own n x)) (λ _ t. Ret (shown.Pending (own_id n x)) t)
    (leads_any (λ a t. Unit {0}) (tell (begun n x) (with_own n x)) (λ a t. tt)) (λ a t h. inr (inr (own_id n x, refl))))
    (no_numbers (begun n s).1)

emptied_gives : (i : Item) (start len : ℕ) (s : Filter) → Leads Any (λ r t. IsOther r) (empty_now i start len s)
emptied_gives i start len s =
    checked_gives [] (then_do (volume.change (change.Emptied i.id start len)) emptied) s
    (λ x. leads_bind Any (λ a t. Unit {0}) (λ r t. IsOther r) (volume.change (change.Emptied i.id start len) x) (λ _ t. emptied t)
    (leads_any (λ a t. Unit {0}) (volume.change (change.Emptied i.id start len) x) (λ a t. tt)) (λ a t h. inl refl))
    (no_places s.volume 1)

provided_gives : (i : Item) (start len : ℕ) (b : Bool) (s : Filter) → Leads Any (λ r t. IsOther r) (with_provider i start len b s)
provided_gives i start len true s = asked_gives (consent_need i start len) s
provided_gives i start len false s = emptied_gives i start len s

range_gives : (i : Item) (start len : ℕ) (s : Filter) → (b : Bool) → Leads Any (λ r t. IsOther r) (choose b (reading is_connected (with_provider i start len)) emptied s)
range_gives i start len s true = provided_gives i start len s.connected s
range_gives i start len s false = inl refl

verdict_gives : (i : Item) (start len : ℕ) (s : Filter) (why : Option Code) → Leads Any (λ r t. Shows why r) (after_verdict i start len why s)
verdict_gives i start len s (Some c) = refl
verdict_gives i start len s None = range_gives i start (min len (size_of i - start)) s (has_bytes i start (min len (size_of i - start)))

item_gives : (i : Item) (range : Option (ℕ × ℕ)) (s : Filter) (why : Option Code) → verdict_at i (start_of range) (len_of range i) s ≡ why → Leads Any (λ r t. Shows why r) (dehydrate_range range i s)
item_gives i None s why e = rw e (verdict_gives i 0 (size_of i) s why)
item_gives i (Some r) s why e = rw e (verdict_gives i r.0 r.1 s why)

path_gives : (path : List ℕ) (range : Option (ℕ × ℕ)) (i : Item) (s : Filter) (why : Option Code) → find_path s.volume.items path ≡ Ok i → i.directory ≡ false
    → verdict_at i (start_of range) (len_of range i) s ≡ why → Leads Any (λ r t. Shows why r) (dehydrate path range s)
path_gives path range i s why found file e = subst (λ (x : Result Item Code). Leads Any (λ r t. Shows why r) (on_ok (but_directory (dehydrate_range range)) x s)) (sym found) (by i.directory file) where
  by : (b : Bool) → b ≡ false → Leads Any (λ r t. Shows why r) (choose b (refused code.IsDirectory) (dehydrate_range range i) s)
  by true z = cc
  by false z = item_gives i range s why e

-- the end of the call does not change the answer
ended_shows : (why : Option Code) (r : Shown) (t : Filter) → Shows why r → (q : Shown) → q ≡ result_of r t → Final why q
ended_shows (Some c) r t h q e = e ∙ ap (λ (x : Shown). result_of x t) h
ended_shows None r t (inl h) q e = inl (e ∙ ap (λ (x : Shown). result_of x t) h)
ended_shows None r t (inr (inl h)) q e = inr (inl (e ∙ ap (λ (x : Shown). result_of x t) h))
ended_shows None r t (inr (inr h)) q e = inr (inr (by t.ending (e ∙ ap (λ (x : Shown). result_of x t) h.1))) where
  by : (o : Option End) → q ≡ end_or_pending h.0 o → ((id : WaitId) × (q ≡ shown.Pending id)) ⊎ ((x : End) × (q ≡ shown.Ended x))
  by None e = inl (h.0, e)
  by (Some x) e = inr (x, e)

call_shows : (path : List ℕ) (range : Option (ℕ × ℕ)) (i : Item) (s : State) (why : Option Code) → find_path (items_now s) path ≡ Ok i → i.directory ≡ false
    → verdict_at i (start_of range) (len_of range i) s.filter ≡ why → Leads Any (λ r t. Final why r) (calling (dehydrate path range) s)
call_shows path range i s why found file e =
    leads_bind Any (λ r t. Shows why r) (λ r t. Final why r) (in_filter (dehydrate path range) s) finish_call
    (leads_mapped Any (λ r t. Shows why r) Any (λ r t. Shows why r) (λ x. with_filter x s) (dehydrate path range s.filter) (λ x h. h) (λ r x h. h) (path_gives path range i s.filter why found file e))
    (λ r t h. leads_bind Any (λ a u. Unit {0}) (λ q u. Final why q) (drain t) (λ _ u. in_filter (finish r) u) (leads_any (λ a u. Unit {0}) (drain t) (λ a u. tt))
    (λ a u k. ended_shows why r u.filter h (result_of r u.filter) refl))

verdict_is : (s : State) (path : List ℕ) (range : Option (ℕ × ℕ)) (i : Item) → IsAllowed s path range i → verdict_at i (start_of range) (len_of range i) s.filter ≡ why_kept s i
verdict_is s path range i h = rw h.whole (rw h.placeholder (rw h.policy refl))

abbrev Shown_so : Mode → State → List ℕ → Option (ℕ × ℕ) → Item → Answer → Type 0
Shown_so m s path range i a = a.shown ≢ shown.Refused code.Device → IsRefusedExactly m s path range i a

exactly : (m : Mode) (s : State) (path : List ℕ) (range : Option (ℕ × ℕ)) (i : Item) (a : Answer) (why : Option Code) → why_kept s i ≡ why → Final why a.shown → IsRefusedExactly m s path range i a
exactly m s path range i a (Some c) e h = (λ d f. h ∙ ap (λ (x : Code). shown.Refused x) (let k : c ≡ d = let z : ◌≡◌ {A = Option Code} (Some c) (Some d) = sym e ∙ f in cc in k), λ f. elim (none (sym e ∙ f)) as (λ _. (d : Code) → is_cause d ≡ true → a.shown ≢ shown.Refused d) [ ]) where
  none : Some c ≡ None → ⊥
  none z = cc
exactly m s path range i a None e h = (λ d f. elim (none (sym f ∙ e)) as (λ _. a.shown ≡ shown.Refused d) [ ], λ f d k g. other h d k g) where
  none : {d : Code} → Some d ≡ None → ⊥
  none z = cc

  other : Final None a.shown → (d : Code) → is_cause d ≡ true → a.shown ≡ shown.Refused d → ⊥
  other (inl k) d c g = let z : ◌≡◌ {A = Shown} (shown.Ended end.Emptied) (shown.Refused d) = sym k ∙ g in cc
  other (inr (inl k)) d c g =
      let z : ◌≡◌ {A = Shown} (shown.Refused code.Exhausted) (shown.Refused d) = sym k ∙ g in let y : code.Exhausted ≡ d = cc in
      let x : is_cause code.Exhausted ≡ true = subst (λ (q : Code). is_cause q ≡ true) (sym y) c in cc
  other (inr (inr (inl k))) d c g = let z : ◌≡◌ {A = Shown} (shown.Pending k.0) (shown.Refused d) = sym k.1 ∙ g in cc
  other (inr (inr (inr k))) d c g = let z : ◌≡◌ {A = Shown} (shown.Ended k.0) (shown.Refused d) = sym k.1 ∙ g in cc

outcome_shows : (m : Mode) (s : State) (path : List ℕ) (range : Option (ℕ × ℕ)) (i : Item) (why : Option Code) → why_kept s i ≡ why → (x : Option Shown × State) → Ended Any (λ r t. Final why r) x → Shown_so m s path range i (outcome x).1
outcome_shows m s path range i why e (Some r, t) h = λ k. exactly m s path range i (answer_in r t) why e h
outcome_shows m s path range i why e (None, t) h = λ k. elim (k refl) as (λ _. IsRefusedExactly m s path range i (answer_in (shown.Refused code.Device) t)) [ ]

pub refused_exactly : (m : Mode) (s : State) (path : List ℕ) (range : Option (ℕ × ℕ)) (i : Item) (a : Answer) (t : State)
    → IsAllowed s path range i → IsStep m s (dehydrating path range) a t → a.shown ≢ shown.Refused code.Device → IsRefusedExactly m s path range i a
refused_exactly m s path range i a t h is = subst (λ (x : State × Answer). Shown_so m s path range i x.1) is.2 (by s.power h.on) where
  by : (p : Power) → p ≡ On → Shown_so m s path range i (answered (no_power p) is.1 s (dehydrating path range)).1
  by On e =
      outcome_shows m s path range i (why_kept s i) refl (play is.1 (tree_of (dehydrating path range) s))
      (led Any (λ r t. Final (why_kept s i) r) is.1 (tree_of (dehydrating path range) s)
      (call_shows path range i (begun_event s) (why_kept s i) h.named h.file (verdict_is s path range i h)))
  by Broken e = cc
  by Off e = cc
