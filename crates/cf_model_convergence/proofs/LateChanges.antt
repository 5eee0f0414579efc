-- A request changes no item but at a time behind the clock.
use Rattle.std.proofs.Common.{◌≡◌, ◌<◌, ◌≤◌, ◌+◌, ◌-◌, ℕ, Bool, true, false, List, [], ◌∷◌, ◌++◌, refl, sym, ◌∙◌, ap, subst, inl, inr, arith, map}
use Rattle.std.specs.Prelude.{Option, Some, None, cond, max, ◌==◌}
use Rattle.cf_base.specs.declared.answers.Answer.{Answer}
use Rattle.cf_base.specs.declared.events.Event.{Event}
use Rattle.cf_base.specs.declared.ids.Rid.{Rid}
use Rattle.cf_base.specs.declared.ids.Token.{Token}
use Rattle.cf_base.specs.declared.ids.Version.{Version}
use Rattle.cf_base.specs.declared.messages.Entry.{Entry}
use Rattle.cf_base.specs.declared.messages.Request.{Request}
use Rattle.cf_base.specs.declared.messages.Request.TheVariants as request
use Rattle.cf_base.specs.declared.messages.Why.{Why}
use Rattle.cf_base.specs.declared.policies.Mode.{Mode}
use Rattle.cf_model.specs.Growth.{IsCounted}
use Rattle.cf_model.specs.Lawful.{Runs}
use Rattle.cf_model.specs.State.{State}
use Rattle.cf_model.specs.Store.{Held, Mutation, Recorded, Stored, decide, entry_told, keep_last, latest, make_dir, move_to, mutate, next_rid, put_new, put_version, recorded_at, remote_step, remove_at, settle, stored_at, trimmed, with_new, with_version}
use Rattle.cf_model.proofs.RemoteLaws.{runs_keep_remote}
use Rattle.cf_model.proofs.StoreLaws.{step_counts}
use Rattle.cf_model_laws.specs.Invariant.{All}
use Rattle.cf_model_laws.proofs.Gathered.{all_append, all_found, all_map, all_weaker}
use Rattle.cf_model_laws.proofs.RemoteGrowth.{clock_rises}
use Rattle.cf_model_convergence.specs.Feeds.{AreAsTheyWere, IsAsItWas, IsLateOrSame}
use Rattle.cf_model_convergence.proofs.TidyItems.{each_found}

trim_told : (keep : Option ℕ) (s : Stored) → entry_told (trimmed keep s) ≡ entry_told s
trim_told None s = refl
trim_told (Some n) s = by s.directory where
  by : (b : Bool) → entry_told (cond b s (record s { least = max s.least (latest s + 1 - n) })) ≡ entry_told s
  by true = refl
  by false = refl

pub trim_changed : (keep : Option ℕ) (s : Stored) → (trimmed keep s).changed ≡ s.changed
trim_changed None s = refl
trim_changed (Some n) s = by s.directory where
  by : (b : Bool) → (cond b s (record s { least = max s.least (latest s + 1 - n) })).changed ≡ s.changed
  by true = refl
  by false = refl

behind : (n : ℕ) → n < n + 1
behind n = omega arith

module _ (held : Held) (counted : IsCounted held) where
  abbrev AreLate : List Stored → Type 0
  AreLate items = All (IsLateOrSame held) items

  found : All (λ s. stored_at held.items s.rid ≡ Some s) held.items
  found = each_found 1 held.items counted

  same : AreLate held.items
  same = all_weaker (λ s. stored_at held.items s.rid ≡ Some s) (IsLateOrSame held) (λ s e. inr (s, e, refl)) held.items found

  new_late : (parent : Rid) (name : List ℕ) (directory : Bool) (versions : List (List ℕ)) → AreLate (with_new held parent name directory versions)
  new_late parent name directory versions =
      all_append (IsLateOrSame held) held.items (record { rid = next_rid held; parent = parent; name = name; directory = directory; live = true; versions = versions; least = 1; changed = held.clock + 1 } ∷ []) same (inl (behind held.clock), tt)

  -- one that is changed now, the others as they were
  one_late : (f : Stored → Stored) (at : Rid) → ((s : Stored) → (f s).changed ≡ held.clock + 1) → AreLate (map (λ s. cond (s.rid.0 == at.0) (f s) s) held.items)
  one_late f at now = all_map (λ s. stored_at held.items s.rid ≡ Some s) (IsLateOrSame held) (λ s. cond (s.rid.0 == at.0) (f s) s) (λ s e. by s (s.rid.0 == at.0) e) held.items found where
    by : (s : Stored) (b : Bool) → stored_at held.items s.rid ≡ Some s → IsLateOrSame held (cond b (f s) s)
    by s true e = inl (subst (λ (n : ℕ). held.clock < n) (sym (now s)) (behind held.clock))
    by s false e = inr (s, e, refl)

  trim_late : (count : ℕ) → AreLate (map (trimmed (Some count)) held.items)
  trim_late count = all_map (λ s. stored_at held.items s.rid ≡ Some s) (IsLateOrSame held) (trimmed (Some count)) (λ s e. inr (s, subst (λ (n : ℕ). stored_at held.items (record { 0 = n }) ≡ Some s) (sym (ap (λ (x : _). x.rid.0) (trim_told (Some count) s))) e, sym (trim_told (Some count) s))) held.items found

  decided : (token : Token) (m : Mutation) (w : Option Why) → AreLate m.items → AreLate (decide held token m w).1.items
  decided token m (Some w) h = same
  decided token m None h = h

  mutated : (token : Token) (m : Mutation) (o : Option Recorded) → AreLate m.items → AreLate (mutate held token m o).1.items
  mutated token m (Some r) h = same
  mutated token m None h = decided token m m.refusal h

  version_late : (rid : Rid) (bytes : List ℕ) → AreLate (with_version held rid bytes)
  version_late rid bytes = one_late (λ s. trimmed held.keep (record s { versions = s.versions ++ bytes ∷ []; changed = held.clock + 1 })) rid (λ s. trim_changed held.keep (record s { versions = s.versions ++ bytes ∷ []; changed = held.clock + 1 }))

  put_late : (token : Token) (rid : Rid) (expect : Version) (parent : Rid) (name bytes : List ℕ) (new : Bool)
      → AreLate (mutate held token (elim new as (λ _. Mutation) [ true ↦ put_new held parent name bytes | false ↦ put_version held rid expect bytes ]) (recorded_at held.tokens token)).1.items
  put_late token rid expect parent name bytes true = mutated token (put_new held parent name bytes) (recorded_at held.tokens token) (new_late parent name false (bytes ∷ []))
  put_late token rid expect parent name bytes false = mutated token (put_version held rid expect bytes) (recorded_at held.tokens token) (version_late rid bytes)

  settle_late : (token : Token) (o : Option Recorded) → AreLate (settle held token o).1.items
  settle_late token (Some r) = same
  settle_late token None = same

  keep_late : (token : Token) (count : ℕ) (o : Option Recorded) → AreLate (keep_last held token count o).1.items
  keep_late token count (Some r) = same
  keep_late token count None = trim_late count

  step_late : (q : Request) → AreLate (remote_step held q).1.items
  step_late (request.Feed round after) = same
  step_late (request.List key rid) = same
  step_late (request.Fetch key rid version start len) = same
  step_late (request.Put token rid expect parent name bytes) = put_late token rid expect parent name bytes (rid.0 == 0)
  step_late (request.MakeDir token parent name) = mutated token (make_dir held parent name) (recorded_at held.tokens token) (new_late parent name true [])
  step_late (request.Move token rid parent name) = mutated token (move_to held rid parent name) (recorded_at held.tokens token) (one_late (λ s. record s { parent = parent; name = name; changed = held.clock + 1 }) rid (λ s. refl))
  step_late (request.Remove token rid expect) = mutated token (remove_at held rid expect) (recorded_at held.tokens token) (one_late (λ s. record s { live = false; changed = held.clock + 1 }) rid (λ s. refl))
  step_late (request.Settle token) = settle_late token (recorded_at held.tokens token)
  step_late (request.Keep token count) = keep_late token count (recorded_at held.tokens token)

pub late_or_same : (held : Held) (q : Request) → IsCounted held → All (IsLateOrSame held) (remote_step held q).1.items
late_or_same held q counted = step_late held counted q

-- a run

later_on : (first : Held) (time : ℕ) (held : Held) → AreAsTheyWere first time held → (t : Stored) → IsLateOrSame held t → IsAsItWas first time t
later_on first time held h t (inl late) = inl (after time held.clock t.changed h.early late) where
  after : (a b c : ℕ) → a ≤ b → b < c → a < c
  after a b c h k = omega (arith, h, k)
later_on first time held h t (inr k) = by ((all_found (IsAsItWas first time) (λ s. s.rid.0 == t.rid.0) held.items k.0 k.1 h.items).0) where
  by : IsAsItWas first time k.0 → IsAsItWas first time t
  by (inl late) = inl (subst (λ (e : Entry). time < e.changed) k.2 late)
  by (inr g) = inr (g.0, subst (λ (e : Entry). stored_at first.items e.rid ≡ Some g.0) k.2 g.1, g.2 ∙ k.2)

step_as : (first : Held) (time : ℕ) (held : Held) (q : Request) → AreAsTheyWere first time held → AreAsTheyWere first time (remote_step held q).1
step_as first time held q h = record {
  counted = step_counts held q h.counted;
  early = after time held.clock (remote_step held q).1.clock h.early (clock_rises held q);
  items = all_weaker (IsLateOrSame held) (IsAsItWas first time) (later_on first time held h) (remote_step held q).1.items (late_or_same held q h.counted);
}
  where
    after : (a b c : ℕ) → a ≤ b → b ≤ c → a ≤ c
    after a b c h k = omega (arith, h, k)

pub run_as : (m : Mode) (s : State) (trace : List (Event × Answer)) (t : State) (time : ℕ) → Runs m s trace t → IsCounted s.link.remote → time ≤ s.link.remote.clock → AreAsTheyWere s.link.remote time t.link.remote
run_as m s trace t time runs counted early =
    runs_keep_remote (AreAsTheyWere s.link.remote time) (step_as s.link.remote time) m s trace t runs
    (record { counted = counted; early = early; items = all_weaker (λ x. stored_at s.link.remote.items x.rid ≡ Some x) (IsAsItWas s.link.remote time) (λ x e. inr (x, e, refl)) s.link.remote.items (each_found 1 s.link.remote.items counted) })
