-- Targets, and what was done of uploads, by the invariant of the machine.
use Rattle.std.proofs.Common.{◌≤◌, ◌≡◌, ℕ, Bool, true, false, List, refl, sym, ◌∙◌, ap, subst, inl, inr, take}
use Rattle.std.specs.Prelude.{Option, Some, cond, ◌==◌}
use Rattle.std.proofs.lemmas.Bool.{eqb-true}
use Rattle.cf_base.specs.declared.answers.Answer.{Answer}
use Rattle.cf_base.specs.declared.events.Event.{Event}
use Rattle.cf_base.specs.declared.ids.Rid.{Rid}
use Rattle.cf_base.specs.declared.ids.Usn.{Usn}
use Rattle.cf_base.specs.declared.notices.Frame.{Frame}
use Rattle.cf_base.specs.declared.policies.Mode.TheVariants as mode
use Rattle.cf_model.specs.Books.{Book}
use Rattle.cf_model.specs.Identities.{target_of}
use Rattle.cf_model.specs.Items.{Item}
use Rattle.cf_model.specs.Lawful.{Runs}
use Rattle.cf_model.specs.Logs.{items_of, next_of}
use Rattle.cf_model.specs.Numbers.{root_rid, usn_after}
use Rattle.cf_model.specs.State.{State, book_now, items_now, start}
use Rattle.cf_model.specs.Store.{Held, stored_at}
use Rattle.cf_model_laws.specs.Invariant.{HasBase, Invariant, IsAimed, IsAskedFor, IsDurable, IsPointRight, IsRight, target_in}
use Rattle.cf_model_laws.specs.Premises.{IsFresh}
use Rattle.cf_model_laws.proofs.ContentLaws.{run_sound}
use Rattle.cf_model_laws.proofs.Gathered.{all_weaker}
use Rattle.cf_model_convergence.proofs.TidyItems.{found_rid}
use Rattle.cf_model_convergence.specs.Lasting.{AreBasesEarly, AreBasesMade, AreTargetsRight, AreUploadsApart, AreUploadsDone, AreUploadsNamed, AtPoint, Fact, HoldsIn, IsBaseEarly, IsTargetedWell}
use Rattle.cf_model.specs.Identities.{base_rid, base_version}
use Rattle.cf_model.specs.Store.{Stored, latest}
use Rattle.cf_model_convergence.proofs.Lines.{one_some, same_rid}
use Rattle.cf_model_convergence.proofs.TakenKnown.{based_early}

-- what lasts is given by what is durable
abbrev IsGiven : Fact → Type 0
IsGiven F = (r : Held) (ms : List (Option Frame)) (epoch tokens : ℕ) (n : Usn) (next : ℕ) (items : List Item) (b : Book) → IsDurable r ms epoch tokens n next items b.entries → F r items b

given_holds : (F : Fact) → IsGiven F → (s : State) → Invariant s → HoldsIn F s
given_holds F given s h fair = (
  given s.link.remote s.link.messages s.filter.volume.epoch s.volatile.tokens (usn_after s.filter.volume.epoch s.filter.volume.place) s.filter.volume.next_item.0 (items_now s) (book_now s) (h.1 fair).now,
  all_weaker (IsPointRight s.link.remote s.link.messages s.filter.volume.epoch s.volatile.tokens (usn_after s.filter.volume.epoch s.filter.volume.place) s.filter.volume.log) (AtPoint F s.link.remote s.filter.volume.log)
      (λ p k. (k.0, given s.link.remote s.link.messages s.filter.volume.epoch s.volatile.tokens (usn_after s.filter.volume.epoch s.filter.volume.place) (next_of (take p.count s.filter.volume.log)) (items_of (take p.count s.filter.volume.log)) p.book k.1))
      s.filter.volume.points (h.1 fair).kept,
)

-- the target of an item below the root is that of its identity
target_below : (i : Item) → (i.id.0 ≡ 1 → ⊥) → target_of i ≡ target_in i.identity
target_below i below = by (i.id.0 == 1) refl where
  by : (b : Bool) → (i.id.0 == 1) ≡ b → cond b root_rid (target_in i.identity) ≡ target_in i.identity
  by true q = absurd (below (eqb-true i.id.0 1 q))
  by false q = refl

pub aimed_right : (r : Held) (i : Item) → IsAimed r i.directory i.identity → (i.id.0 ≡ 1 → ⊥) → IsTargetedWell r i
aimed_right r i (inl e) below = inl (ap (λ (x : Rid). x.0) (target_below i below) ∙ e)
aimed_right r i (inr k) below =
    inr (
      k.0.0,
      subst (λ (x : Rid). stored_at r.items x ≡ Some k.0.0) (sym (target_below i below)) k.0.1,
      record { kind = k.0.2; base = λ file. k.1 file ∙ sym (found_rid r.items (target_in i.identity) k.0.0 k.0.1) },
      subst (λ (x : Rid). x.0 ≡ 1 → ⊥) (sym (target_below i below)) k.2,
    )

pub targets_right : (remote : Held) (clusters : ℕ) (trace : List (Event × Answer)) (s : State) → Runs mode.Replay (start mode.Replay remote clusters) trace s → IsFresh remote → HoldsIn AreTargetsRight s
targets_right remote clusters trace s runs fresh =
    given_holds AreTargetsRight
    (λ r ms epoch tokens n next items b h. all_weaker (IsRight r n) (λ i. (i.id.0 ≡ 1 → ⊥) → IsTargetedWell r i) (λ i k. aimed_right r i k.aimed) items h.right) s
    (run_sound remote clusters trace s runs fresh)

pub uploads_done : (remote : Held) (clusters : ℕ) (trace : List (Event × Answer)) (s : State) → Runs mode.Replay (start mode.Replay remote clusters) trace s → IsFresh remote → HoldsIn AreUploadsDone s
uploads_done remote clusters trace s runs fresh = given_holds AreUploadsDone (λ r ms epoch tokens n next items b h. all_weaker (IsAskedFor r ms) _ (λ e k. k.did) b.entries h.asked) s (run_sound remote clusters trace s runs fresh)

pub bases_made : (remote : Held) (clusters : ℕ) (trace : List (Event × Answer)) (s : State) → Runs mode.Replay (start mode.Replay remote clusters) trace s → IsFresh remote → HoldsIn AreBasesMade s
bases_made remote clusters trace s runs fresh = given_holds AreBasesMade (λ r ms epoch tokens n next items b h. all_weaker (IsRight r n) (λ i. HasBase r i.identity) (λ i k. k.based) items h.right) s (run_sound remote clusters trace s runs fresh)

pub base_early : (r : Held) (n : Usn) (i : Item) → IsRight r n i → IsBaseEarly r i
base_early r n i k below file some x found = by (aimed_right r i k.aimed below) where
  by : IsTargetedWell r i → (base_version i).0 ≤ latest x
  by (inl z) = absurd (some z)
  by (inr w) =
      based_early r i x (subst (λ (y : Rid). stored_at r.items y ≡ Some x) (sym (same_rid x.rid (target_of i) (found_rid r.items (target_of i) x found))) found)
      (subst (λ (y : Stored). (base_rid i).0 ≡ y.rid.0) (one_some (stored_at r.items (target_of i)) w.0 x w.1 found) (w.2.base file)) k.based

pub bases_early : (remote : Held) (clusters : ℕ) (trace : List (Event × Answer)) (s : State) → Runs mode.Replay (start mode.Replay remote clusters) trace s → IsFresh remote → HoldsIn AreBasesEarly s
bases_early remote clusters trace s runs fresh = given_holds AreBasesEarly (λ r ms epoch tokens n next items b h. all_weaker (IsRight r n) (IsBaseEarly r) (base_early r n) items h.right) s (run_sound remote clusters trace s runs fresh)

pub uploads_apart : (remote : Held) (clusters : ℕ) (trace : List (Event × Answer)) (s : State) → Runs mode.Replay (start mode.Replay remote clusters) trace s → IsFresh remote → HoldsIn AreUploadsApart s
uploads_apart remote clusters trace s runs fresh = given_holds AreUploadsApart (λ r ms epoch tokens n next items b h. h.apart) s (run_sound remote clusters trace s runs fresh)

pub uploads_named : (remote : Held) (clusters : ℕ) (trace : List (Event × Answer)) (s : State) → Runs mode.Replay (start mode.Replay remote clusters) trace s → IsFresh remote → HoldsIn AreUploadsNamed s
uploads_named remote clusters trace s runs fresh = given_holds AreUploadsNamed (λ r ms epoch tokens n next items b h. h.targets) s (run_sound remote clusters trace s runs fresh)
