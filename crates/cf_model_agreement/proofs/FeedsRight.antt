-- What replies to feeds and to lists tell, when they are given and later on.
use Rattle.std.proofs.Common.{◌≡◌, ◌⊎◌, ◌<◌, ◌≤◌, ℕ, true, List, sym, ◌∙◌, ap, subst, inl, inr, arith}
use Rattle.std.specs.Prelude.{Some, filter, map, ◌==◌, ◌&&◌}
use Rattle.cf_base.specs.declared.ids.Rid.{Rid}
use Rattle.cf_base.specs.declared.messages.Entry.{Entry}
use Rattle.cf_base.specs.declared.messages.Request.{Request}
use Rattle.cf_model.specs.Growth.{IsCounted}
use Rattle.cf_model.specs.Store.{Held, Stored, entry_told, feed_of, listing_of, remote_step, stored_at}
use Rattle.cf_model.specs.Words.{comes_before, same}
use Rattle.cf_model_laws.specs.Invariant.{All, Among}
use Rattle.cf_model_laws.proofs.Gathered.{all_found, all_map, all_passed, all_sorted, all_weaker}
use Rattle.cf_model_laws.proofs.RemoteGrowth.{clock_rises}
use Rattle.cf_model_laws.proofs.SoundSettles.{left_true}
use Rattle.cf_model_convergence.specs.Feeds.{IsLateOrSame, TellsNow}
use Rattle.cf_model_convergence.specs.Passed.{IsToldOrLate, TellsBetween}
use Rattle.cf_model_convergence.specs.Tidy.{IsLower, IsTidy}
use Rattle.cf_model_convergence.proofs.FeedsTold.{tells_all, tells_now}
use Rattle.cf_model_convergence.proofs.LateChanges.{late_or_same}
use Rattle.cf_model_convergence.proofs.Lines.{one_some, same_rid}
use Rattle.cf_model_convergence.proofs.TidyItems.{each_found, found_rid}
use Rattle.cf_model_agreement.specs.Messages.{IsFeedRight, IsLate, IsToldNow}

pub least : (n : ℕ) → n ≤ n
least n = omega arith

-- when it is given
pub feed_now : (r : Held) (after : ℕ) → IsTidy r → after ≤ r.clock → IsFeedRight r after r.clock (feed_of r after)
feed_now r after tidy start = record {
  order = start;
  early = least r.clock;
  tells = all_weaker (λ s. IsLower s → after < s.changed → Among (entry_told s) (feed_of r after)) (λ s. IsLower s → after < s.changed → s.changed ≤ r.clock → Among (entry_told s) (feed_of r after)) (λ s k lower late _. k lower late) r.items (tells_all r after tidy).each;
  same = all_weaker (TellsNow r after) (IsToldOrLate r r.clock) (λ e k x found. inr (k.2 ∙ ap (λ (s : Stored). entry_told s) (one_some (stored_at r.items e.rid) k.0 x k.1 found))) (feed_of r after) (tells_now r after tidy);
  late = all_weaker (TellsNow r after) (λ e. IsLate r after e.rid) (λ e k x found. subst (λ (s : Stored). after < s.changed) (one_some (stored_at r.items e.rid) k.0 x k.1 found) k.4) (feed_of r after) (tells_now r after tidy);
}

-- an item that is there after a request: it was changed at it, or it is told as before
module _ (r : Held) (q : Request) (counted : IsCounted r) where
  abbrev After : Held
  After = (remote_step r q).1

  found_late : (rid : Rid) (x : Stored) → stored_at After.items rid ≡ Some x → (r.clock < x.changed) ⊎ ((s : Stored) × (stored_at r.items rid ≡ Some s) × (entry_told s ≡ entry_told x))
  found_late rid x found = by (all_found (IsLateOrSame r) (λ s. s.rid.0 == rid.0) After.items x found (late_or_same r q counted)).0 where
    by : IsLateOrSame r x → (r.clock < x.changed) ⊎ ((s : Stored) × (stored_at r.items rid ≡ Some s) × (entry_told s ≡ entry_told x))
    by (inl h) = inl h
    by (inr h) = inr (h.0, subst (λ (y : Rid). stored_at r.items y ≡ Some h.0) (same_rid x.rid rid (found_rid After.items rid x found)) h.1, h.2)

  rises : (clock : ℕ) → clock ≤ r.clock → clock ≤ After.clock
  rises clock h = further clock r.clock After.clock h (clock_rises r q) where
    further : (a b c : ℕ) → a ≤ b → b ≤ c → a ≤ c
    further a b c h k = omega (arith, h, k)

  between : (a b c : ℕ) → a ≤ b → b < c → a < c
  between a b c h k = omega (arith, h, k)

  never : (a b c : ℕ) → a ≤ b → b < c → c ≤ a → ⊥
  never a b c h j k = omega (arith, h, j, k)

  tells_later : (after clock : ℕ) (es : List Entry) → clock ≤ r.clock → TellsBetween r after clock es → TellsBetween After after clock es
  tells_later after clock es early h = all_weaker (IsLateOrSame r) (λ x. IsLower x → after < x.changed → x.changed ≤ clock → Among (entry_told x) es) one After.items (late_or_same r q counted) where
    one : (x : Stored) → IsLateOrSame r x → IsLower x → after < x.changed → x.changed ≤ clock → Among (entry_told x) es
    one x (inl z) lower late passed = absurd (never clock r.clock x.changed early z passed)
    one x (inr z) lower late passed =
        let changed : z.0.changed ≡ x.changed = ap (λ (e : Entry). e.changed) z.2 in
        subst (λ (e : Entry). Among e es) z.2
        ((all_found (λ s. IsLower s → after < s.changed → s.changed ≤ clock → Among (entry_told s) es) (λ s. s.rid.0 == x.rid.0) r.items z.0 z.1 h).0
        (λ e. lower (sym (found_rid r.items x.rid z.0 z.1) ∙ e)) (subst (λ (n : ℕ). after < n) (sym changed) late) (subst (λ (n : ℕ). n ≤ clock) (sym changed) passed))

  told_later : (clock : ℕ) → clock ≤ r.clock → (e : Entry) → IsToldOrLate r clock e → IsToldOrLate After clock e
  told_later clock early e h x found = by (found_late e.rid x found) where
    by : (r.clock < x.changed) ⊎ ((s : Stored) × (stored_at r.items e.rid ≡ Some s) × (entry_told s ≡ entry_told x)) → (clock < x.changed) ⊎ (e ≡ entry_told x)
    by (inl z) = inl (between clock r.clock x.changed early z)
    by (inr z) = again (h z.0 z.1) where
      again : (clock < z.0.changed) ⊎ (e ≡ entry_told z.0) → (clock < x.changed) ⊎ (e ≡ entry_told x)
      again (inl k) = inl (subst (λ (n : ℕ). clock < n) (ap (λ (d : Entry). d.changed) z.2) k)
      again (inr k) = inr (k ∙ z.2)

  -- an item that was changed after a time stays so
  pub late_later : (time : ℕ) (rid : Rid) → time ≤ r.clock → IsLate r time rid → IsLate After time rid
  late_later time rid early h x found = by (found_late rid x found) where
    by : (r.clock < x.changed) ⊎ ((s : Stored) × (stored_at r.items rid ≡ Some s) × (entry_told s ≡ entry_told x)) → time < x.changed
    by (inl z) = between time r.clock x.changed early z
    by (inr z) = subst (λ (n : ℕ). time < n) (ap (λ (d : Entry). d.changed) z.2) (h z.0 z.1)

  pub feed_later : (after clock : ℕ) (es : List Entry) → IsFeedRight r after clock es → IsFeedRight After after clock es
  feed_later after clock es h = record {
    order = h.order;
    early = rises clock h.early;
    tells = tells_later after clock es h.early h.tells;
    same = all_weaker (IsToldOrLate r clock) (IsToldOrLate After clock) (told_later clock h.early) es h.same;
    late = all_weaker (λ e. IsLate r after e.rid) (λ e. IsLate After after e.rid) (λ e k. late_later after e.rid (further after clock r.clock h.order h.early) k) es h.late;
  }
    where
      further : (a b c : ℕ) → a ≤ b → b ≤ c → a ≤ c
      further a b c h k = omega (arith, h, k)

  -- what the cursor has passed is told as before
  pub now_later : (cursor : ℕ) → cursor ≤ r.clock → (e : Entry) → IsToldNow r cursor e → IsToldNow After cursor e
  now_later cursor early e h lower x found passed = by (found_late e.rid x found) where
    by : (r.clock < x.changed) ⊎ ((s : Stored) × (stored_at r.items e.rid ≡ Some s) × (entry_told s ≡ entry_told x)) → e ≡ entry_told x
    by (inl z) = absurd (never cursor r.clock x.changed early z passed)
    by (inr z) = h lower z.0 z.1 (subst (λ (n : ℕ). n ≤ cursor) (sym (ap (λ (d : Entry). d.changed) z.2)) passed) ∙ z.2

-- a listing when it is given
pub listing_now : (r : Held) (rid : Rid) (cursor : ℕ) → IsCounted r → All (λ e. (e.live ≡ true) × IsToldNow r cursor e) (listing_of r rid)
listing_now r rid cursor counted =
    all_sorted (λ e. (e.live ≡ true) × IsToldNow r cursor e) (λ e f. comes_before e.name f.name) (map entry_told (filter (λ s. s.live && (s.parent.0 == rid.0)) r.items))
    (all_map (λ s. (s.live ≡ true) × (stored_at r.items s.rid ≡ Some s)) (λ e. (e.live ≡ true) × IsToldNow r cursor e) entry_told
    (λ s here. (here.0, λ lower x found passed. ap (λ (y : Stored). entry_told y) (one_some (stored_at r.items s.rid) s x here.1 found))) (filter (λ s. s.live && (s.parent.0 == rid.0)) r.items)
    (all_passed (λ s. stored_at r.items s.rid ≡ Some s) (λ s. (s.live ≡ true) × (stored_at r.items s.rid ≡ Some s)) (λ s. s.live && (s.parent.0 == rid.0)) (λ s q here. (left_true s.live (s.parent.0 == rid.0) q, here)) r.items (each_found 1 r.items counted)))
