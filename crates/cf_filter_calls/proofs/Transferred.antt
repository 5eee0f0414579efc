-- Operations on the data asks of a file.
use Rattle.std.proofs.Common.{◌≡◌, ◌≤◌, ◌+◌, ℕ, Bool, true, false, cond, not, List, [], ◌∷◌, ◌++◌, length, refl, sym, ◌∙◌, ap, subst, arith, Option, Some, None}
use Rattle.std.specs.Prelude.{Result, Ok, Err}
use Rattle.cf_base.specs.declared.answers.AuxRecord.{AuxRecord}
use Rattle.cf_base.specs.declared.answers.Shown.{Shown}
use Rattle.cf_base.specs.declared.answers.Shown.TheVariants as shown
use Rattle.cf_base.specs.declared.changes.Change.TheVariants as change
use Rattle.cf_base.specs.declared.codes.Code.{Code}
use Rattle.cf_base.specs.declared.codes.Code.TheVariants as code
use Rattle.cf_base.specs.declared.codes.CallError.{CallError}
use Rattle.cf_base.specs.declared.ids.ItemId.{ItemId}
use Rattle.cf_base.specs.declared.ids.Key.{Key}
use Rattle.cf_base.specs.declared.operations.Operation.TheVariants as operation
use Rattle.cf_base.specs.declared.policies.Policy.{Policy}
use Rattle.cf_base.specs.declared.spans.Span.{Span}
use Rattle.cf_base.specs.declared.waits.Ask.{Ask}
use Rattle.cf_base.specs.declared.waits.Cause.TheVariants as cause
use Rattle.cf_filter_calls.specs.Operating.{IsLiveFor, IsOperable, IsSizeOf, change_tests, changed_then, operated, restarted, tests_on}
use Rattle.cf_model.specs.Arrows.{Arrow, reading, then_do, unless}
use Rattle.cf_model.specs.Blocks as blocks
use Rattle.cf_model.specs.Books.{Book}
use Rattle.cf_model.specs.Calls.{size_at}
use Rattle.cf_model.specs.Items.{Item, item_of}
use Rattle.cf_model.specs.Operations.{ack, done, refuse, restart, restart_by, restart_change, transfer}
use Rattle.cf_model.specs.Requests.{Fails, Leaves, Live, Restarts}
use Rattle.cf_model.specs.Settling.{settle}
use Rattle.cf_model.specs.State.{Filter}
use Rattle.cf_model.specs.Trees.{Does, Tree}
use Rattle.cf_model.specs.Words.{counting, first_of, part}
use Rattle.cf_filter_steps.specs.Answering.{After, Answers, Any, Reads, Sense}
use Rattle.cf_filter_steps.specs.Good.{IsSmall}
use Rattle.cf_filter_steps.specs.Readings.{policy_of}
use Rattle.cf_filter_steps.proofs.Laws.{any_on, returned, stops_first}
use Rattle.cf_filter_steps.proofs.LookUps.{of_found}
use Rattle.cf_filter_calls.proofs.Suited.{first_none}
use Rattle.cf_filter_calls.proofs.Wrote.{same_rest}

-- refusals that do not hold are passed over
first_past : (front rest : List (Bool × Code)) → first_of front ≡ None → first_of (front ++ rest) ≡ first_of rest
first_past [] rest e = refl
first_past (t ∷ ts) rest e =
    let a = first_none t.0 t.1 ts e in
    ap (λ (b : Bool). cond b (Some t.1) (first_of (ts ++ rest))) a.0 ∙ first_past ts rest a.1

-- what the state does by a part, with these tests before it
abbrev pub Goes : {X : Type 0} → Sense X → X → Result Shown CallError → X → Filter → Tree Filter Shown → Type 0
Goes S x r new s p = (t : Filter) × Does p r t × S.moved x new s t × After S x r new t

-- the same under tests that do not hold
pub past : {X : Type 0} (S : Sense X) (x new : X) (r : Result Shown CallError) (s : Filter) (front rest : List (Bool × Code)) (f : Arrow Filter Shown) → first_of front ≡ None
    → Goes S x r new s (unless shown.Refused (first_of rest) f s) → Goes S x r new s (unless shown.Refused (first_of (front ++ rest)) f s)
past S x new r s front rest f e g = subst (λ (o : Option Code). Goes S x r new s (unless shown.Refused o f s)) (sym (first_past front rest e)) g

-- bytes

fill_operable : (item : ItemId) (at : ℕ) (bytes : List ℕ) (s : Filter) → at ≤ 549755813888 → length bytes ≤ 549755813888 → IsOperable item (change.Filled item at bytes) s
fill_operable item at bytes s h k = record { seen = (refl, h, k); suits = record { fits = λ i d j q. omega (arith, h, k); needs = record {}; plants = record {}; lasts = record {} } }

pub transferred : {X : Type 0} (S : Sense X) (ask : Ask) (at : ℕ) (bytes : List ℕ) (b : Span) (x new : X) (r : Result Shown CallError) → at ≤ 549755813888 → length bytes ≤ 549755813888
    → counting b.start b.len ≡ blocks.blocks_of at (length bytes)
    → Answers S (IsOperable ask.item (change.Filled ask.item at bytes)) (operated true ask.item (change.Filled ask.item at bytes) (Leaves ask.key (counting b.start b.len))) x r new
    → (key : Key) (f : Book → Book) (records : List AuxRecord) (a : Live) → Answers S (IsLiveFor f (operation.Transfer key at bytes) ask records a) (transfer a at bytes) x r new
transferred S ask at bytes b x new r h k e ans key f records a = record {
  leads = λ s m p.
      let z = ans.leads s m (fill_operable ask.item at bytes s h k) in
      let z2 = subst (λ (bs : List ℕ). Goes S x r new s (operated true ask.item (change.Filled ask.item at bytes) (Leaves ask.key bs) s)) e z in
      let z3 = subst (λ (q : Ask). Goes S x r new s (operated true q.item (change.Filled q.item at bytes) (Leaves q.key (blocks.blocks_of at (length bytes))) s)) (sym p.same) z2 in
      past S x new r s (tests_on (operation.Transfer key at bytes) a s) (change_tests true a.ask.item (change.Filled a.ask.item at bytes) (Leaves a.ask.key (blocks.blocks_of at (length bytes))) s)
      (changed_then a.ask.item (change.Filled a.ask.item at bytes) (Leaves a.ask.key (blocks.blocks_of at (length bytes)))) p.passes z3;
}

-- no bytes

refused_as : {X : Type 0} (S : Sense X) (ask : Ask) (span b : Span) (status : ℕ) (x new : X) (r : Result Shown CallError) → counting b.start b.len ≡ blocks.blocks_of span.start span.len
    → Answers S Any (then_do (settle ask.item (Fails ask.key (counting b.start b.len) (cause.Failed status))) done) x r new
    → (key : Key) (f : Book → Book) (records : List AuxRecord) (a : Live) → Answers S (IsLiveFor f (operation.Refuse key span status) ask records a) (refuse a span status) x r new
refused_as S ask span b status x new r e ans key f records a = record {
  leads = λ s m p.
      let z = ans.leads s m (record {}) in
      let z2 = subst (λ (bs : List ℕ). Goes S x r new s (then_do (settle ask.item (Fails ask.key bs (cause.Failed status))) done s)) e z in
      let z3 = subst (λ (q : Ask). Goes S x r new s (then_do (settle q.item (Fails q.key (blocks.blocks_of span.start span.len) (cause.Failed status))) done s)) (sym p.same) z2 in
      subst (λ (o : Option Code). Goes S x r new s (unless shown.Refused o (then_do (settle a.ask.item (Fails a.ask.key (blocks.blocks_of span.start span.len) (cause.Failed status))) done) s)) (sym p.passes) z3;
}

pub refused_on : {X : Type 0} (S : Sense X) (ask : Ask) (span b : Span) (status : ℕ) (u : Unit {0}) (x new : X) → counting b.start b.len ≡ blocks.blocks_of span.start span.len
    → Answers S Any (settle ask.item (Fails ask.key (counting b.start b.len) (cause.Failed status))) x (Ok u) new
    → (key : Key) (f : Book → Book) (records : List AuxRecord) (a : Live) → Answers S (IsLiveFor f (operation.Refuse key span status) ask records a) (refuse a span status) x (Ok shown.Done) new
refused_on S ask span b status u x new e ans = refused_as S ask span b status x new (Ok shown.Done) e
    (any_on S (settle ask.item (Fails ask.key (counting b.start b.len) (cause.Failed status))) done x new new u (Ok shown.Done) ans (returned S Any shown.Done new))

pub refused_not : {X : Type 0} (S : Sense X) (ask : Ask) (span b : Span) (status : ℕ) (h : CallError) (x new : X) → counting b.start b.len ≡ blocks.blocks_of span.start span.len
    → Answers S Any (settle ask.item (Fails ask.key (counting b.start b.len) (cause.Failed status))) x (Err h) new
    → (key : Key) (f : Book → Book) (records : List AuxRecord) (a : Live) → Answers S (IsLiveFor f (operation.Refuse key span status) ask records a) (refuse a span status) x (Err h) new
refused_not S ask span b status h x new e ans = refused_as S ask span b status x new (Err h) e (stops_first S Any (settle ask.item (Fails ask.key (counting b.start b.len) (cause.Failed status))) done x new h ans)

-- good bytes, or not

pub vouched : {X : Type 0} (S : Sense X) (ask : Ask) (span b : Span) (x new : X) (r : Result Shown CallError) → (span.start ≤ 549755813888) × (span.len ≤ 549755813888) → counting b.start b.len ≡ blocks.blocks_of span.start span.len
    → Answers S (IsOperable ask.item (change.Validated ask.item span.start span.len)) (operated false ask.item (change.Validated ask.item span.start span.len) (Leaves ask.key (counting b.start b.len))) x r new
    → (key : Key) (f : Book → Book) (records : List AuxRecord) (a : Live) → Answers S (IsLiveFor f (operation.Ack key span true) ask records a) (ack a span true) x r new
vouched S ask span b x new r h e ans key f records a = record {
  leads = λ s m p.
      let z = ans.leads s m (record { seen = (refl, h.0, h.1); suits = record { fits = λ i d j q. omega (arith, h.0, h.1); needs = record {}; plants = record {}; lasts = record {} } }) in
      let z2 = subst (λ (bs : List ℕ). Goes S x r new s (operated false ask.item (change.Validated ask.item span.start span.len) (Leaves ask.key bs) s)) e z in
      let z3 = subst (λ (q : Ask). Goes S x r new s (operated false q.item (change.Validated q.item span.start span.len) (Leaves q.key (blocks.blocks_of span.start span.len)) s)) (sym p.same) z2 in
      past S x new r s (tests_on (operation.Ack key span true) a s) (change_tests false a.ask.item (change.Validated a.ask.item span.start span.len) (Leaves a.ask.key (blocks.blocks_of span.start span.len)) s)
      (changed_then a.ask.item (change.Validated a.ask.item span.start span.len) (Leaves a.ask.key (blocks.blocks_of span.start span.len))) p.passes z3;
}

pub disowned : {X : Type 0} (S : Sense X) (ask : Ask) (span b : Span) (x new : X) (r : Result Shown CallError) → (span.start ≤ 549755813888) × (span.len ≤ 549755813888) → counting b.start b.len ≡ blocks.blocks_of span.start span.len
    → Answers S (IsOperable ask.item (change.Emptied ask.item span.start span.len)) (operated false ask.item (change.Emptied ask.item span.start span.len) (Fails ask.key (counting b.start b.len) (cause.Failed 1))) x r new
    → (key : Key) (f : Book → Book) (records : List AuxRecord) (a : Live) → Answers S (IsLiveFor f (operation.Ack key span false) ask records a) (ack a span false) x r new
disowned S ask span b x new r h e ans key f records a = record {
  leads = λ s m p.
      let z = ans.leads s m (record { seen = (refl, h.0, h.1); suits = record { fits = λ i d j q. omega (arith, h.0, h.1); needs = record {}; plants = record {}; lasts = record {} } }) in
      let z2 = subst (λ (bs : List ℕ). Goes S x r new s (operated false ask.item (change.Emptied ask.item span.start span.len) (Fails ask.key bs (cause.Failed 1)) s)) e z in
      let z3 = subst (λ (q : Ask). Goes S x r new s (operated false q.item (change.Emptied q.item span.start span.len) (Fails q.key (blocks.blocks_of span.start span.len) (cause.Failed 1)) s)) (sym p.same) z2 in
      past S x new r s (tests_on (operation.Ack key span false) a s) (change_tests false a.ask.item (change.Emptied a.ask.item span.start span.len) (Fails a.ask.key (blocks.blocks_of span.start span.len) (cause.Failed 1)) s)
      (changed_then a.ask.item (change.Emptied a.ask.item span.start span.len) (Fails a.ask.key (blocks.blocks_of span.start span.len) (cause.Failed 1))) p.passes z3;
}

pub acked : {X : Type 0} (S : Sense X) (ask : Ask) (span : Span) (good b : Bool) (x new : X) (r : Result Shown CallError) → good ≡ b
    → ((key : Key) (f : Book → Book) (records : List AuxRecord) (a : Live) → Answers S (IsLiveFor f (operation.Ack key span b) ask records a) (ack a span b) x r new)
    → (key : Key) (f : Book → Book) (records : List AuxRecord) (a : Live) → Answers S (IsLiveFor f (operation.Ack key span good) ask records a) (ack a span good) x r new
acked S ask span good b x new r e ans key f records a = subst (λ (c : Bool). Answers S (IsLiveFor f (operation.Ack key span c) ask records a) (ack a span c) x r new) (sym e) (ans key f records a)

-- hydration that starts again

size_small : {X : Type 0} (S : Sense X) (x : X) (item : ItemId) (s : Filter) → S.means x s → size_at item s ≤ 16777216
size_small S x item s h = one (item_of s.volume.items item) refl where
  one : (o : Option Item) → item_of s.volume.items item ≡ o → part (λ (i : Item). length i.held) 0 o ≤ 16777216
  one None e = omega arith
  one (Some i) e = (of_found IsSmall _ s.volume.items i (S.good x s h).volume.small e).size

pub restarts_now : {X : Type 0} (S : Sense X) (item : ItemId) (size : ℕ) (x new : X) (r : Result Shown CallError)
    → Answers S (IsOperable item (change.Emptied item 0 size)) (operated true item (change.Emptied item 0 size) Restarts) x r new → Answers S (IsSizeOf item size) (restarted item size) x r new
restarts_now S item size x new r a = record {
  leads = λ s h e.
      let small : size ≤ 16777216 = subst (λ (n : ℕ). n ≤ 16777216) e (size_small S x item s h) in
      a.leads s h (record { seen = (refl, omega arith, omega (arith, small)); suits = record { fits = λ i d j q. omega (arith, small); needs = record {}; plants = record {}; lasts = record {} } });
}

sizes_alike : (items : List Item) (item : ItemId) → part (λ (i : Item). length i.held) 0 (item_of items item) ≡ blocks.size_at items item
sizes_alike items item = one (item_of items item) where
  one : (o : Option Item) → part (λ (i : Item). length i.held) 0 o ≡ length (part (λ (i : Item). i.held) [] o)
  one None = refl
  one (Some i) = refl

restart_at : {X : Type 0} (S : Sense X) (ask : Ask) (c : Bool) (policy : Policy) (x new : X) (r : Result Shown CallError) (s : Filter) (key : Key) (f : Book → Book) (records : List AuxRecord) (a : Live)
    → Reads S Any policy_of x policy → policy.restart ≡ c → S.means x s → IsLiveFor f (operation.Restart key) ask records a s
    → Goes S x r new s (unless shown.Refused (first_of ((not c, code.RestartDenied) ∷ change_tests true a.ask.item (restart_change a s) Restarts s)) (reading (restart_change a) (restart_by a)) s)
    → Goes S x r new s (restart a s)
restart_at S ask c policy x new r s key f records a reads e h p g =
    past S x new r s (tests_on (operation.Restart key) a s) ((not s.policy.restart, code.RestartDenied) ∷ change_tests true a.ask.item (restart_change a s) Restarts s) (reading (restart_change a) (restart_by a)) p.passes
    (subst (λ (d : Bool). Goes S x r new s (unless shown.Refused (first_of ((not d, code.RestartDenied) ∷ change_tests true a.ask.item (restart_change a s) Restarts s)) (reading (restart_change a) (restart_by a)) s))
    (sym e ∙ ap (λ (q : Policy). q.restart) (reads.is s h (record {}))) g)

pub restart_on : {X : Type 0} (S : Sense X) (ask : Ask) (policy : Policy) (size : ℕ) (x new : X) (r : Result Shown CallError) → Reads S Any policy_of x policy → policy.restart ≡ true → Reads S Any (size_at ask.item) x size
    → Answers S (IsSizeOf ask.item size) (restarted ask.item size) x r new
    → (key : Key) (f : Book → Book) (records : List AuxRecord) (a : Live) → Answers S (IsLiveFor f (operation.Restart key) ask records a) (restart a) x r new
restart_on S ask policy size x new r reads e sizes ans key f records a = record {
  leads = λ s h p.
      let z = ans.leads s h (sym (sizes.is s h (record {}))) in
      let z2 = subst (λ (n : ℕ). Goes S x r new s (restarted ask.item n s)) (sizes.is s h (record {}) ∙ sizes_alike s.volume.items ask.item) z in
      let z3 = subst (λ (q : Ask). Goes S x r new s (restarted q.item (blocks.size_at s.volume.items q.item) s)) (sym p.same) z2 in
      let z4 = subst (λ (q : Tree Filter Shown). Goes S x r new s q)
      (same_rest (first_of (change_tests true a.ask.item (restart_change a s) Restarts s)) (changed_then a.ask.item (restart_change a s) Restarts) (reading (restart_change a) (restart_by a)) s refl) z3 in
      restart_at S ask true policy x new r s key f records a reads e h p z4;
}
