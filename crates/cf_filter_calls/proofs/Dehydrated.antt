-- Dehydration of a file.
use Rattle.std.proofs.Common.{◌≡◌, ℕ, zero, suc, ◌+◌, ◌-◌, ◌<◌, ◌≤◌, ◌^◌, Bool, true, false, not, List, [], ◌∷◌, length, map, take, drop, refl, sym, ◌∙◌, ap, subst, arith, Option, Some, None, is_some}
use Rattle.std.specs.Prelude.{Result, Ok, Err, max, min, nat_lt, nat_le, slice_range, ◌==◌, ◌%◌, ◌||◌, ◌&&◌}
use Rattle.std.specs.List.{list_any}
use Rattle.std.proofs.lemmas.Bool.{ltb-false, or_parts}
use Rattle.std.proofs.lemmas.Bool.Decides.{nat_tests}
use Rattle.cf_ask_rule.specs.Sights.{flags_of, meets}
use Rattle.cf_ask_rule.proofs.Flags.{flags_between}
use Rattle.cf_base.specs.Policies.{is_always_full}
use Rattle.cf_base.specs.declared.answers.Shown.{Shown}
use Rattle.cf_base.specs.declared.answers.Shown.TheVariants as shown
use Rattle.cf_base.specs.declared.changes.Change.{Change}
use Rattle.cf_base.specs.declared.changes.Change.TheVariants as change
use Rattle.cf_base.specs.declared.codes.Code.{Code}
use Rattle.cf_base.specs.declared.codes.Code.TheVariants as code
use Rattle.cf_base.specs.declared.codes.CallError.{CallError}
use Rattle.cf_base.specs.declared.ids.ItemId.{ItemId}
use Rattle.cf_base.specs.declared.policies.Policy.{Policy}
use Rattle.cf_base.specs.declared.spans.Span.{Span}
use Rattle.cf_base.specs.declared.waits.End.TheVariants as end
use Rattle.cf_base.specs.declared.waits.WaitKind.TheVariants as wait_kind
use Rattle.cf_filter_calls.specs.Emptying.{MayEmpty, held_emptied, holds_from, verdict_there, verdict_used}
use Rattle.cf_filter_calls.specs.Moved.{lacks_place}
use Rattle.cf_filter_calls.specs.Planned.{ReadsAt}
use Rattle.cf_item_rules.specs.DehydrationFacts.{Tells}
use Rattle.cf_item_rules.specs.declared.dehydration_facts.Facts.{Facts}
use Rattle.cf_model.specs.Arrows.{Arrow, choose, then_do, unless}
use Rattle.cf_model.specs.Calls.{size_at}
use Rattle.cf_model.specs.Changes.{change as one_change}
use Rattle.cf_model.specs.Dehydration.{ask_consent, consent_need, dehydrate_item, dehydrate_range, empty_now, empty_range, emptied, has_bytes, in_use, is_connected, verdict_at, with_provider}
use Rattle.cf_model.specs.Items.{Item, here_flags, is_held, is_here, item_of, size_of}
use Rattle.cf_model.specs.Missing.{any_between, span_of}
use Rattle.cf_model.specs.Soundness.{AllSound, Each, IsSound}
use Rattle.cf_model.specs.State.{Filter}
use Rattle.cf_model.specs.Trees.{Does}
use Rattle.cf_model.specs.Verdicts.{is_bad_range, is_kept_full, is_pinned, verdict}
use Rattle.cf_model.specs.Waits.{plain_need}
use Rattle.cf_model.specs.Words.{counting, first_of, part}
use Rattle.cf_ranges.specs.Positions.{IsRuns, IsRunsFrom, contains, in_span}
use Rattle.cf_filter_steps.specs.Answering.{After, Answers, Any, IsAt, Reads, Sense}
use Rattle.cf_filter_steps.specs.Finding.{HasRows}
use Rattle.cf_filter_steps.specs.Good.{Every, IsGood}
use Rattle.cf_filter_steps.specs.Needing.{begin_limited}
use Rattle.cf_filter_steps.specs.Readings.{policy_of}
use Rattle.cf_filter_steps.specs.Suiting.{Ready}
use Rattle.cf_filter_steps.proofs.LookUps.{of_found}
use Rattle.cf_filter_steps.proofs.Laws.{returned, stops_first, then_on}
use Rattle.cf_filter_steps.proofs.RowReads.{row_gone, row_there}
use Rattle.cf_table.specs.Means.{Means}
use Rattle.cf_table.specs.Tables.{Table, row_of}
use Rattle.cf_table.specs.declared.rows.Row.{Row}
use Rattle.cf_tree.proofs.Walks.{own_id}
use Rattle.cf_filter_calls.proofs.EndEmptied.{EndsSynced, empty_room}
use Rattle.cf_filter_calls.proofs.Suited.{first_none, needs_at, not_false, small_at}

-- a byte from a place on

any_flags : (m k : ℕ) (held : List (Option ℕ)) → list_any is_some (take m (drop k held)) ≡ list_any (λ b. b) (take m (drop k (map is_some held)))
any_flags zero zero held = refl
any_flags (suc m) zero [] = refl
any_flags (suc m) zero (x ∷ xs) = ap (λ (b : Bool). is_some x || b) (any_flags m zero xs)
any_flags zero (suc k) [] = refl
any_flags (suc m) (suc k) [] = refl
any_flags m (suc k) (x ∷ xs) = any_flags m k xs

placed : (f : ℕ → Bool) (k : ℕ) (held : List (Option ℕ)) → ((p : ℕ) → f (k + p) ≡ is_held held p) → map f (counting k (length held)) ≡ map is_some held
placed f k [] h = refl
placed f k (x ∷ xs) h =
    let first : f k ≡ is_some x = subst (λ (n : ℕ). f n ≡ is_some x) (omega arith) (h 0) in
    let rest : map f (counting (k + 1) (length xs)) ≡ map is_some xs = placed f (k + 1) xs (λ p. subst (λ (n : ℕ). f n ≡ is_held xs p) (omega arith) (h (suc p))) in
    rw first (rw rest refl)

past_one : (start a len n : ℕ) → 0 < len → a + len ≤ n → nat_lt start (a + len) ≡ nat_lt (max a start) (min (a + len) (min n n))
past_one start a len n h k = grind (arith, nat_tests)

last_in : (a len : ℕ) (b : Bool) → 0 < len → ((nat_le a (a + len - 1) && nat_lt (a + len - 1) (a + len)) || b) ≡ true
last_in a len true h = grind (arith, nat_tests)
last_in a len false h = grind (arith, nat_tests)

past_all : (start n low : ℕ) (runs : List Span) → IsRunsFrom low runs → ((p : ℕ) → contains runs p ≡ true → p < n) → list_any (λ (r : Span). nat_lt start (r.start + r.len)) runs ≡ meets runs start (min n n)
past_all start n low [] h below = refl
past_all start n low (r ∷ rs) h below =
    let last = below (r.start + r.len - 1) (last_in r.start r.len (contains rs (r.start + r.len - 1)) h.1) in
    let first = past_one start r.start r.len n h.1 (omega (arith, h.1, last)) in
    let rest = past_all start n (r.start + r.len + 1) rs h.3 (λ p e. below p (or_right (in_span r p) (contains rs p) e)) in
    ap (λ (b : Bool). b || list_any (λ (q : Span). nat_lt start (q.start + q.len)) rs) first ∙ ap (λ (b : Bool). nat_lt (max r.start start) (min (r.start + r.len) (min n n)) || b) rest
  where
    or_right : (a b : Bool) → b ≡ true → (a || b) ≡ true
    or_right true b e = refl
    or_right false b e = e

here_below : (held : List (Option ℕ)) (p : ℕ) → is_held held p ≡ true → p < length held
here_below [] p e = let z : false ≡ true = e in absurd cc
here_below (x ∷ xs) zero e = omega arith
here_below (x ∷ xs) (suc p) e = omega (arith, here_below xs p e)

pub holds_is : (here : List Span) (i : Item) (start : ℕ) (b : Bool) → IsRuns here → ((p : ℕ) → contains here p ≡ is_here i p) → b ≡ list_any (λ (r : Span). nat_lt start (r.start + r.len)) here → b ≡ holds_from start i
holds_is here i start b runs same e =
    let n : ℕ = length i.held in
    let flags : flags_of here n ≡ here_flags i = placed (contains here) 0 i.held (λ p. subst (λ (q : ℕ). contains here q ≡ is_held i.held p) (omega arith) (same p)) in
    e ∙ past_all start n 0 here runs (λ p q. here_below i.held p (sym (same p) ∙ q)) ∙ sym (flags_between here n start n) ∙ ap (λ (fs : List Bool). any_between fs start n) flags
    ∙ sym (any_flags (n - start) start i.held)

-- the verdict

pub kept_on : (p : Policy) (full : Bool) (i : Item) → full ≡ is_always_full p.hydration → full ≡ true → full ≡ is_kept_full p i
kept_on p full i e q = q ∙ sym (ap (λ (b : Bool). b || i.keep) (sym e ∙ q))

pub kept_off : (p : Policy) (full keep : Bool) (i : Item) → full ≡ is_always_full p.hydration → full ≡ false → keep ≡ i.keep → keep ≡ is_kept_full p i
kept_off p full keep i e q k = k ∙ sym (ap (λ (b : Bool). b || i.keep) (sym e ∙ q))

pub record IsClear (i : Item) (start len : ℕ) : Type 0 where
  pub inside : start ≤ size_of i
  pub end : size_of i ≤ start + len
  pub synced : i.in_sync ≡ true

pub is_clear : (p : Policy) (i : Item) (start len : ℕ) (used : Bool) → verdict p i start len used ≡ None → IsClear i start len
is_clear p i start len used e =
    let t6 : List (Bool × Code) = (used, code.InUse) ∷ [] in
    let t5 : List (Bool × Code) = (not i.in_sync, code.NotInSync) ∷ t6 in
    let t4 : List (Bool × Code) = (is_pinned i.pin, code.Pinned) ∷ t5 in
    let t3 : List (Bool × Code) = (is_kept_full p i, code.PolicyDenied) ∷ t4 in
    let t2 : List (Bool × Code) = (not i.placeholder, code.NotPlaceholder) ∷ t3 in
    let a = first_none (is_bad_range start len (size_of i)) code.BadRange t2 e in
    let b = first_none (not i.placeholder) code.NotPlaceholder t3 a.1 in
    let d = first_none (is_kept_full p i) code.PolicyDenied t4 b.1 in
    let f = first_none (is_pinned i.pin) code.Pinned t5 d.1 in
    let g = first_none (not i.in_sync) code.NotInSync t6 f.1 in
    let k = or_parts (not (start % 4096 == 0) || nat_lt (size_of i) start) (nat_lt (start + len) (size_of i)) a.0 in
    let m = or_parts (not (start % 4096 == 0)) (nat_lt (size_of i) start) k.0 in
    record { inside = ltb-false (size_of i) start m.1; end = ltb-false (start + len) (size_of i) k.1; synced = not_false i.in_sync g.0 }

pub judged : {X : Type 0} (S : Sense X) (x : X) (t : Table) (id : ItemId) (row : Row) (f : Facts) (p : Policy) (start len : ℕ) (used : Bool) (o : Option Code)
    → HasRows S x t → row_of t.rows id ≡ Some row → Reads S Any policy_of x p → ((q : Policy) (i : Item) → Tells f q i → o ≡ verdict q i f.start f.len f.in_use) → ((i : Item) → Means row i → Tells f p i)
    → f.start ≡ start → f.len ≡ len → f.in_use ≡ used → Reads S Any (verdict_there id start len used) x o
judged S x t id row f p start len used o rows e policy model tells a b d = record {
  is = λ s h u.
      let m = row_there t.rows s.volume.items id row (rows.rows s h) e in
      model p m.0 (tells m.0 m.2) ∙ (λ j. verdict (policy.is s h u j) m.0 (a j) (b j) (d j)) ∙ sym (ap (λ (q : Option Item). part (λ (i : Item). verdict s.policy i start len used) None q) m.1);
}

pub judged_none : {X : Type 0} (S : Sense X) (x : X) (t : Table) (id : ItemId) (start len : ℕ) (used : Bool) → HasRows S x t → row_of t.rows id ≡ None → Reads S Any (verdict_there id start len used) x None
judged_none S x t id start len used rows e = record {
  is = λ s h u.
      sym (ap (λ (q : Option Item). part (λ (i : Item). verdict s.policy i start len used) None q) (row_gone t.rows s.volume.items id (rows.rows s h) e));
}

-- of an item that is there
judged_at : {X : Type 0} (S : Sense X) (x : X) (id : ItemId) (start len : ℕ) (used : Bool) (o : Option Code) → Reads S Any (verdict_there id start len used) x o → (i : Item) → Reads S (IsAt id i) (verdict_used start len used i) x o
judged_at S x id start len used o reads i = record { is = λ s h at. reads.is s h (record {}) ∙ ap (λ (q : Option Item). part (λ (j : Item). verdict s.policy j start len used) None q) at }

-- the change

sound_at : (items : List Item) (id : ItemId) (i : Item) → AllSound items → item_of items id ≡ Some i → IsSound i
sound_at items id i h e = of_found IsSound (λ (j : Item). j.id.0 == id.0) items i (each items h) e where
  each : (items : List Item) → AllSound items → Every IsSound items
  each [] a = tt
  each (j ∷ js) a = (a.0, each js a.1)

-- a span of a file in sync that reaches its end
pub ends_synced : (s : Filter) (id : ItemId) (start len : ℕ) (i : Item) → IsGood s → IsAt id i s → i.in_sync ≡ true → size_of i ≤ start + len → Each id (EndsSynced start len) s.volume.items
ends_synced s id start len i good at synced end =
    let sound : IsSound i = sound_at s.volume.items id i good.volume.sound at in
    subst (λ (k : ItemId). Each k (EndsSynced start len) s.volume.items) (sym (own_id s.volume.items id i at))
    (needs_at s id i (EndsSynced start len) good at (record { writes = sound.in_sync synced; even = sound.as_long; end = end }))

pub emptied_ready : (s : Filter) (id : ItemId) (start len : ℕ) (i : Item) → IsGood s → IsAt id i s → i.in_sync ≡ true → size_of i ≤ start + len → start + len ≤ 2 ^ 40 → lacks_place s ≡ false → Ready (change.Emptied id start len) s
emptied_ready s id start len i good at synced end near left = record {
  room = empty_room id start len s.volume (ends_synced s id start len i good at synced end) good.volume.few good.volume.short left;
  suits = record { fits = λ k d j q. near; needs = record {}; plants = record {}; lasts = record {} };
}

pub empty_ready : (s : Filter) (id : ItemId) (start len : ℕ) (i : Item) → IsGood s → MayEmpty id start len i s → lacks_place s ≡ false → Ready (change.Emptied id start len) s
empty_ready s id start len i good at left = emptied_ready s id start len i good at.there at.synced (omega (arith, at.end)) (omega (arith, at.end, (small_at s id i good at.there).size)) left

pub none_left : {X : Type 0} (S : Sense X) (id : ItemId) (start len : ℕ) (b : Bool) (x : X) → Reads S Any lacks_place x b → b ≡ true → (i : Item) → Answers S (MayEmpty id start len i) (empty_now i start len) x (Ok (shown.Refused code.Exhausted)) x
none_left S id start len b x reads e i = record {
  leads = λ s h at.
      subst (λ (c : Bool). (t : Filter) × Does {A = Shown} (unless shown.Refused (first_of ((c, code.Exhausted) ∷ [])) (then_do (one_change (change.Emptied i.id start len)) emptied) s) (Ok (shown.Refused code.Exhausted)) t × S.moved x x s t × After {A = Shown} S x (Ok (shown.Refused code.Exhausted)) x t)
      (sym e ∙ reads.is s h (record {})) (s, (refl, refl), S.stays x s h, h);
}

-- the change alone, where a place is left
abbrev empty_at : ℕ → ℕ → ItemId → Bool → Arrow Filter Shown
empty_at start len k c = unless shown.Refused (first_of ((c, code.Exhausted) ∷ [])) (then_do (one_change (change.Emptied k start len)) emptied)

left_on : {X : Type 0} (S : Sense X) (id : ItemId) (start len : ℕ) (b : Bool) (x new : X) (r : Result Shown CallError) → Reads S Any lacks_place x b → b ≡ false
    → Answers S (Ready (change.Emptied id start len)) (then_do (one_change (change.Emptied id start len)) emptied) x r new → (i : Item) → Answers S (MayEmpty id start len i) (empty_now i start len) x r new
left_on S id start len b x new r reads e a i = record {
  leads = λ s h at.
      let left : lacks_place s ≡ false = sym (reads.is s h (record {})) ∙ e in
      subst (λ (k : ItemId). (t : Filter) × Does (empty_at start len k (lacks_place s) s) r t × S.moved x new s t × After S x r new t) (own_id s.volume.items id i at.there)
      (subst (λ (c : Bool). (t : Filter) × Does (empty_at start len id c s) r t × S.moved x new s t × After S x r new t) (sym left) (a.leads s h (empty_ready s id start len i (S.good x s h) at left)));
}

pub emptied_on : {X : Type 0} (S : Sense X) (id : ItemId) (start len : ℕ) (b : Bool) (u : Unit {0}) (c : Change) (x new : X) → Reads S Any lacks_place x b → b ≡ false → c ≡ change.Emptied id start len
    → Answers S (Ready c) (one_change c) x (Ok u) new → (i : Item) → Answers S (MayEmpty id start len i) (empty_now i start len) x (Ok (shown.Ended end.Emptied)) new
emptied_on S id start len b u c x new reads e q a = left_on S id start len b x new (Ok (shown.Ended end.Emptied)) reads e
    (then_on S (Ready (change.Emptied id start len)) Any (one_change (change.Emptied id start len)) emptied x new new u (Ok (shown.Ended end.Emptied)) (λ s t p q. record {})
    (subst (λ (k : Change). Answers S (Ready k) (one_change k) x (Ok u) new) q a) (returned S Any (shown.Ended end.Emptied) new))

pub emptied_not : {X : Type 0} (S : Sense X) (id : ItemId) (start len : ℕ) (b : Bool) (f : CallError) (c : Change) (x new : X) → Reads S Any lacks_place x b → b ≡ false → c ≡ change.Emptied id start len
    → Answers S (Ready c) (one_change c) x (Err f) new → (i : Item) → Answers S (MayEmpty id start len i) (empty_now i start len) x (Err f) new
emptied_not S id start len b f c x new reads e q a = left_on S id start len b x new (Err f) reads e
    (stops_first S (Ready (change.Emptied id start len)) (one_change (change.Emptied id start len)) emptied x new f (subst (λ (k : Change). Answers S (Ready k) (one_change k) x (Err f) new) q a))

-- consent

pub asked_for : {X : Type 0} (S : Sense X) (id : ItemId) (start len : ℕ) (x new : X) (r : Result Shown CallError) → Answers S Any (begin_limited (plain_need wait_kind.Dehydrate id (span_of start len))) x r new
    → (i : Item) → Answers S (MayEmpty id start len i) (ask_consent (consent_need i start len)) x r new
asked_for S id start len x new r a i = record {
  leads = λ s h at.
      subst (λ (k : ItemId). (t : Filter) × Does (ask_consent (plain_need wait_kind.Dehydrate k (span_of start len)) s) r t × S.moved x new s t × After S x r new t) (own_id s.volume.items id i at.there)
      (a.leads s h (record {}));
}

pub linked_on : {X : Type 0} (S : Sense X) (id : ItemId) (start len : ℕ) (b c : Bool) (x new : X) (r : Result Shown CallError) → Reads S Any is_connected x b → b ≡ c
    → ((i : Item) → Answers S (MayEmpty id start len i) (with_provider i start len c) x r new) → (i : Item) → Answers S (MayEmpty id start len i) (held_emptied i start len) x r new
linked_on S id start len b c x new r reads e a i = record {
  leads = λ s h at. subst (λ (d : Bool). (t : Filter) × Does (with_provider i start len d s) r t × S.moved x new s t × After S x r new t) (sym e ∙ reads.is s h (record {})) ((a i).leads s h at);
}

-- a range

range_by : {X : Type 0} (S : Sense X) (id : ItemId) (start len : ℕ) (i : Item) (b c : Bool) (x new : X) (r : Result Shown CallError) → ReadsAt S id (holds_from start) x b → b ≡ c
    → Answers S (MayEmpty id start len i) (choose c (held_emptied i start len) emptied) x r new → Answers S (MayEmpty id start len i) (empty_range i start len) x r new
range_by S id start len i b c x new r reads e a = record {
  leads = λ s h at.
      let q : c ≡ has_bytes i start len = sym e ∙ reads.is s i h at.there ∙ ap (λ (n : ℕ). list_any is_some (slice_range i.held start n)) (sym at.end) in
      subst (λ (d : Bool). (t : Filter) × Does (choose d (held_emptied i start len) emptied s) r t × S.moved x new s t × After S x r new t) q (a.leads s h at);
}

pub range_on : {X : Type 0} (S : Sense X) (id : ItemId) (start len : ℕ) (b : Bool) (x new : X) (r : Result Shown CallError) → ReadsAt S id (holds_from start) x b → b ≡ true
    → ((i : Item) → Answers S (MayEmpty id start len i) (held_emptied i start len) x r new) → (i : Item) → Answers S (MayEmpty id start len i) (empty_range i start len) x r new
range_on S id start len b x new r reads e a i = range_by S id start len i b true x new r reads e (a i)

pub range_off : {X : Type 0} (S : Sense X) (id : ItemId) (start len : ℕ) (b : Bool) (x : X) → ReadsAt S id (holds_from start) x b → b ≡ false
    → (i : Item) → Answers S (MayEmpty id start len i) (empty_range i start len) x (Ok (shown.Ended end.Emptied)) x
range_off S id start len b x reads e i = range_by S id start len i b false x x (Ok (shown.Ended end.Emptied)) reads e (returned S (MayEmpty id start len i) (shown.Ended end.Emptied) x)

-- an item

used_at : (i : Item) (start len : ℕ) (used : Bool) (id : ItemId) (s : Filter) → IsAt id i s → used ≡ in_use id s → verdict_used start len used i s ≡ verdict_at i start len s
used_at i start len used id s at e = ap (λ (b : Bool). verdict s.policy i start len b) (e ∙ ap (λ (k : ItemId). in_use k s) (own_id s.volume.items id i at))

pub item_off : {X : Type 0} (S : Sense X) (id : ItemId) (start len : ℕ) (used : Bool) (o : Option Code) (c : Code) (x : X) → Reads S Any (in_use id) x used
    → Reads S Any (verdict_there id start len used) x o → o ≡ Some c → (i : Item) → Answers S (IsAt id i) (dehydrate_item i start len) x (Ok (shown.Refused c)) x
item_off S id start len used o c x uses reads e i = record {
  leads = λ s h at.
      let q : Some c ≡ verdict_at i start len s = sym e ∙ (judged_at S x id start len used o reads i).is s h at ∙ used_at i start len used id s at (uses.is s h (record {})) in
      subst (λ (d : Option Code). (t : Filter) × Does {A = Shown} (unless shown.Refused d (empty_range i start (min len (size_of i - start))) s) (Ok (shown.Refused c)) t × S.moved x x s t × After {A = Shown} S x (Ok (shown.Refused c)) x t) q
      (s, (refl, refl), S.stays x s h, h);
}

pub item_on : {X : Type 0} (S : Sense X) (id : ItemId) (start len size less : ℕ) (used : Bool) (o : Option Code) (x new : X) (r : Result Shown CallError) → Reads S Any (in_use id) x used → Reads S Any (size_at id) x size
    → Reads S Any (verdict_there id start len used) x o → o ≡ None → less ≡ min len (size - start)
    → ((i : Item) → Answers S (MayEmpty id start less i) (empty_range i start less) x r new) → (i : Item) → Answers S (IsAt id i) (dehydrate_item i start len) x r new
item_on S id start len size less used o x new r uses sizes reads e q a i = record {
  leads = λ s h at.
      let free : None ≡ verdict_used start len used i s = sym e ∙ (judged_at S x id start len used o reads i).is s h at in
      let clear = is_clear s.policy i start len used (sym free) in
      let whole : size ≡ size_of i = sizes.is s h (record {}) ∙ ap (λ (p : Option Item). part size_of 0 p) at in
      let same : less ≡ min len (size_of i - start) = q ∙ ap (λ (n : ℕ). min len (n - start)) whole in
      subst (λ (d : Option Code). (t : Filter) × Does (unless shown.Refused d (empty_range i start (min len (size_of i - start))) s) r t × S.moved x new s t × After S x r new t)
      (free ∙ used_at i start len used id s at (uses.is s h (record {})))
      (subst (λ (n : ℕ). (t : Filter) × Does (empty_range i start n s) r t × S.moved x new s t × After S x r new t) same
      ((a i).leads s h (record { there = at; synced = clear.synced; end = omega (arith, same, clear.inside, clear.end) })));
}

pub whole_on : {X : Type 0} (S : Sense X) (id : ItemId) (size : ℕ) (x new : X) (r : Result Shown CallError) → Reads S Any (size_at id) x size
    → ((i : Item) → Answers S (IsAt id i) (dehydrate_item i 0 size) x r new) → (i : Item) → Answers S (IsAt id i) (dehydrate_range None i) x r new
whole_on S id size x new r sizes a i = record {
  leads = λ s h at.
      let whole : size ≡ size_of i = sizes.is s h (record {}) ∙ ap (λ (p : Option Item). part size_of 0 p) at in
      subst (λ (n : ℕ). (t : Filter) × Does (dehydrate_item i 0 n s) r t × S.moved x new s t × After S x r new t) whole ((a i).leads s h at);
}
