-- A flag of an item that changes, and the step that follows it.
use Rattle.std.proofs.Common.{◌≡◌, inl, inr, Bool, true, false, cond, not, List, [], ◌∷◌, refl, sym, ◌∙◌, ap, subst, length, Option, Some, None}
use Rattle.std.proofs.lemmas.Bool.{or_from, or_parts}
use Rattle.std.proofs.lemmas.Result.{err_from_is_err_and}
use Rattle.std.specs.Prelude.{Result, Ok, Err, slice_get, ◌||◌}
use Rattle.std.specs.List.{list_any}
use Rattle.std.specs.Result.{IsErrAnd}
use Rattle.cf_ask_rule.specs.Plans.{Planned}
use Rattle.cf_base.specs.declared.answers.Shown.{Shown}
use Rattle.cf_base.specs.declared.answers.Shown.TheVariants as shown
use Rattle.cf_base.specs.declared.changes.Change.{Change}
use Rattle.cf_base.specs.declared.changes.Change.TheVariants as change
use Rattle.cf_base.specs.declared.codes.Code.{Code}
use Rattle.cf_base.specs.declared.codes.Code.TheVariants as code
use Rattle.cf_base.specs.declared.codes.CallError.{CallError}
use Rattle.cf_base.specs.declared.codes.CallError.TheVariants as fail
use Rattle.cf_base.specs.declared.ids.ItemId.{ItemId}
use Rattle.cf_base.specs.declared.ids.Usn.{Usn}
use Rattle.cf_filter_calls.specs.Asking.{Asks, Flagging, IsAsking, IsFlag, LooksWith, MayAsk, MayAskBy, asking_refusal, with_step}
use Rattle.cf_filter_calls.specs.Planned.{Plan, by_keep, by_mark, refusal_of}
use Rattle.cf_model.specs.Arrows.{Arrow, reading, then_do, unit, unless}
use Rattle.cf_model.specs.Blocks.{is_full, passes_clusters, puts_into}
use Rattle.cf_model.specs.Changes.{change as one_change, changes, lacks_numbers, may_need_room, needs_id, no_blocks, no_places, no_table, put_after_room, put_change, same_book, tell_change, why_no_room}
use Rattle.cf_model.specs.Images.{is_table_full, never_longer, table_full}
use Rattle.cf_model.specs.Items.{Item}
use Rattle.cf_model.specs.Operations.{waiting_after, with_changes}
use Rattle.cf_model.specs.Placements.{asking, settle_changed}
use Rattle.cf_model.specs.Requests.{Nothing, no_numbers, too_many_asks}
use Rattle.cf_model.specs.Settling.{settle}
use Rattle.cf_model.specs.State.{Filter, Volume, with_volume}
use Rattle.cf_model.specs.Trees.{Asked, Does, Ends, Fork, Ret, Step, Tree, bind, mapped}
use Rattle.cf_model.specs.Waits.{on_ok}
use Rattle.cf_model.specs.Words.{first_of, when}
use Rattle.cf_model.proofs.TreeLaws as trees
use Rattle.cf_filter_steps.specs.Answering.{After, Answers, Any, IsAt, Reads, Sense}
use Rattle.cf_filter_steps.specs.Finding.{Plans}
use Rattle.cf_filter_steps.specs.Good.{IsGood}
use Rattle.cf_filter_steps.specs.Looking.{IsSeen}
use Rattle.cf_filter_steps.specs.Settled.{IsStepAfter, IsStepNow, LooksAfter, LooksNow}
use Rattle.cf_filter_steps.specs.Suiting.{Ready, Suits}
use Rattle.cf_filter_steps.proofs.Laws.{after_on, no_memory, stops_first, then_on, weaker}
use Rattle.cf_tree.proofs.Walks.{own_id}
use Rattle.cf_filter_calls.proofs.Carried.{plan_refused}
use Rattle.cf_filter_calls.proofs.Suited.{first_none, needs_at, not_false, plan_ok}

-- what a flag needs

record FlagOf (c : Change) (id : ItemId) : Type 0 where
  pub seen : IsSeen c id
  pub plain : needs_id c ≡ false
  pub short : never_longer c ≡ true
  pub empty : (items : List Item) → puts_into items c ≡ []

flag_of : (c : Change) (id : ItemId) → IsFlag c id → FlagOf c id
flag_of (change.Mark item number) id h = record { seen = h; plain = refl; short = refl; empty = λ items. refl }
flag_of (change.Keep item on) id h = record { seen = h; plain = refl; short = refl; empty = λ items. refl }
flag_of (change.Filled item start bytes) id h = absurd h
flag_of (change.Validated item start len) id h = absurd h
flag_of (change.Emptied item start len) id h = absurd h
flag_of (change.Make item parent name kind size identity) id h = absurd h
flag_of (change.Remove item) id h = absurd h
flag_of (change.Move item parent name) id h = absurd h
flag_of (change.Write item at bytes) id h = absurd h
flag_of (change.Size item size) id h = absurd h
flag_of (change.SetPin item pin) id h = absurd h
flag_of (change.Clear item) id h = absurd h
flag_of (change.Convert item identity) id h = absurd h
flag_of (change.Revert item) id h = absurd h
flag_of (change.Rebase item identity len at) id h = absurd h
flag_of (change.Take item identity size) id h = absurd h
flag_of (change.Copy item from parent name) id h = absurd h
flag_of (change.Populated item) id h = absurd h

none_of : (a b d : Bool) → a ≡ false → b ≡ false → d ≡ false → first_of ((a, code.Exhausted) ∷ (b, code.TableFull) ∷ (d, code.Full) ∷ []) ≡ None
none_of false false false p q r = refl
none_of true b d p q r = let z : true ≡ false = p in cc
none_of false true d p q r = let z : true ≡ false = q in cc
none_of false false true p q r = let z : true ≡ false = r in cc

flag_room : (c : Change) (id : ItemId) (v : Volume) → IsFlag c id → no_places v 1 ≡ false → why_no_room (c ∷ []) v ≡ None
flag_room c id v h e =
    let f = flag_of c id h in
    let t : is_table_full c (put_change c v).items (put_change c v).book ≡ false = ap (λ (b : Bool). cond b false (table_full (put_change c v).items (put_change c v).book)) f.short in
    let b : is_full v.clusters v.items c ≡ false = ap (λ (l : List _). passes_clusters v.clusters v.items (length l)) (f.empty v.items) in
    none_of (lacks_numbers v (c ∷ [])) (no_table v (c ∷ [])) (no_blocks v (c ∷ []))
    (or_from (no_places v 1) (list_any needs_id (c ∷ [])) e (or_from (needs_id c) false f.plain refl))
    (or_from (is_table_full c (put_change c v).items (put_change c v).book) false t refl)
    (or_from (is_full v.clusters v.items c) false b refl)

-- what is not refused has a place left
has_place : (id : ItemId) (c : Change) (s : Filter) → asking_refusal id (c ∷ []) s ≡ None → no_places s.volume 1 ≡ false
has_place id c s e =
    let after = waiting_after id Nothing (with_changes (c ∷ []) s) in
    let a = first_none (too_many_asks after) code.TooManyAsks ((no_places s.volume 1 || no_numbers after, code.Exhausted) ∷ []) e in
    let b = first_none (no_places s.volume 1 || no_numbers after) code.Exhausted [] a.1 in
    (or_parts (no_places s.volume 1) (no_numbers after) b.0).0

flag_ready : (id : ItemId) (c : Change) (p : Planned) (s : Filter) → MayAskBy id (c ∷ []) p s → Ready c s
flag_ready id c p s h = record { room = flag_room c id s.volume h.asking.flagging.flags (has_place id c s h.free); suits = h.asking.flagging.suits.0 }

-- the look at the step

pub looks_some : {X : Type 0} (S : Sense X) (x : X) (id : ItemId) (cs : List Change) (c : Change) (p : Planned) → Some c ≡ slice_get cs 0 → LooksAfter S id c Nothing p x → LooksWith S id cs p x
looks_some S x id [] c p e h = let z : ◌≡◌ {A = Option Change} (Some c) None = e in absurd cc
looks_some S x id (d ∷ []) c p e h =
    let z : ◌≡◌ {A = Option Change} (Some c) (Some d) = e in
    let same : c ≡ d = cc in
    subst (λ (k : Change). LooksWith S id (k ∷ []) p x) same (record { is = λ s m f. h.is s m (flag_of c id f).seen })
looks_some S x id (d ∷ k ∷ cs) c p e h = record { is = λ s m f. absurd f }

pub looks_none : {X : Type 0} (S : Sense X) (x : X) (id : ItemId) (cs : List Change) (p : Planned) → None ≡ slice_get cs 0 → LooksNow S id Nothing p x → LooksWith S id cs p x
looks_none S x id [] p e h = record { is = λ s m f. h.is s m }
looks_none S x id (d ∷ cs) p e h = let z : ◌≡◌ {A = Option Change} None (Some d) = e in absurd cc

-- the change, and the step after it

step_next : (c : Change) (id : ItemId) (p : Planned) (s : Filter) (a : Unit {0}) (t : Filter) → IsStepAfter id (c ∷ []) Nothing p s → Ends (one_change c s) a t → IsStepNow id Nothing p t
step_next c id p s a t e h = one (may_need_room c s.volume) h where
  one : (b : Bool) → Ends (bind (mapped (λ v. with_volume v s) (put_after_room same_book c b s.volume)) (tell_change c)) a t → IsStepNow id Nothing p t
  one false h = subst (λ (u : Filter). IsStepNow id Nothing p u) (sym h.1) e
  one true (inl h) = subst (λ (u : Filter). IsStepNow id Nothing p u) (sym h.1) e
  one true (inr h) = subst (λ (u : Filter). IsStepNow id Nothing p u) (sym h.1) e

flag_made : {X : Type 0} (S : Sense X) (x mid new : X) (id : ItemId) (c : Change) (p : Planned) (v : Unit {0}) (r : Result (Unit {0}) CallError)
    → Answers S (Ready c) (one_change c) x (Ok v) mid → Answers S (IsStepNow id Nothing p) (settle id Nothing) mid r new → Answers S (MayAskBy id (c ∷ []) p) (with_step id (c ∷ [])) x r new
flag_made S x mid new id c p v r h k = record {
  leads = λ s i q.
      let a = h.leads s i (flag_ready id c p s q) in
      let b = k.leads a.0 a.3 (step_next c id p s v a.0 q.asking.step a.1) in (
        b.0,
        trees.goes_on (changes (c ∷ []) s) (λ _. settle id Nothing) unit a.0 r b.0 (trees.ends_then (one_change c s) (λ _. changes []) v a.0 unit a.0 a.1 (refl, refl)) b.1,
        S.goes_on x mid new s a.0 b.0 a.2 b.2,
        after_on S x mid new s a.0 b.0 r a.2 b.3,
      );
}

pub made_flag : {X : Type 0} (S : Sense X) (x mid new : X) (cs : List Change) (c : Change) (p : Planned) (v : Unit {0}) (r : Result (Unit {0}) CallError) → Some c ≡ slice_get cs 0
    → Answers S (Ready c) (one_change c) x (Ok v) mid → ((id : ItemId) → Answers S (IsStepNow id Nothing p) (settle id Nothing) mid r new) → (id : ItemId) → Answers S (MayAskBy id cs p) (with_step id cs) x r new
made_flag S x mid new [] c p v r e h k id = let z : ◌≡◌ {A = Option Change} (Some c) None = e in absurd cc
made_flag S x mid new (d ∷ []) c p v r e h k id =
    let z : ◌≡◌ {A = Option Change} (Some c) (Some d) = e in
    let same : c ≡ d = cc in
    subst (λ (y : Change). Answers S (MayAskBy id (y ∷ []) p) (with_step id (y ∷ [])) x r new) same (flag_made S x mid new id c p v r h (k id))
made_flag S x mid new (d ∷ f ∷ cs) c p v r e h k id = record { leads = λ s i q. absurd q.asking.flagging.flags }

flag_fails : {X : Type 0} (S : Sense X) (x new : X) (id : ItemId) (c : Change) (p : Planned) (e : CallError)
    → Answers S (Ready c) (one_change c) x (Err e) new → Answers S (MayAskBy id (c ∷ []) p) (with_step id (c ∷ [])) x (Err e) new
flag_fails S x new id c p e h =
    stops_first S (MayAskBy id (c ∷ []) p) (changes (c ∷ [])) (settle id Nothing) x new e
    (stops_first S (MayAskBy id (c ∷ []) p) (one_change c) (changes []) x new e (weaker S (Ready c) (MayAskBy id (c ∷ []) p) (one_change c) x new (Err e) (λ s q. flag_ready id c p s q) h))

pub made_not : {X : Type 0} (S : Sense X) (x new : X) (cs : List Change) (c : Change) (p : Planned) (e : CallError) → Some c ≡ slice_get cs 0
    → Answers S (Ready c) (one_change c) x (Err e) new → (id : ItemId) → Answers S (MayAskBy id cs p) (with_step id cs) x (Err e) new
made_not S x new [] c p e q h id = let z : ◌≡◌ {A = Option Change} (Some c) None = q in absurd cc
made_not S x new (d ∷ []) c p e q h id =
    let z : ◌≡◌ {A = Option Change} (Some c) (Some d) = q in
    let same : c ≡ d = cc in
    subst (λ (y : Change). Answers S (MayAskBy id (y ∷ []) p) (with_step id (y ∷ [])) x (Err e) new) same (flag_fails S x new id c p e h)
made_not S x new (d ∷ f ∷ cs) c p e q h id = record { leads = λ s i r. absurd r.asking.flagging.flags }

-- both by what was looked at

ask_by : {X : Type 0} (S : Sense X) (x new : X) (id : ItemId) (cs : List Change) (p : Planned) (r : Result (Unit {0}) CallError)
    → LooksWith S id cs p x → Answers S (MayAskBy id cs p) (with_step id cs) x r new → Answers S (MayAsk id cs) (with_step id cs) x r new
ask_by S x new id cs p r looks h = record { leads = λ s i q. h.leads s i (record { asking = record { flagging = q.flagging; step = looks.is s i q.flagging.flags }; free = q.free }) }

asks_why : {X : Type 0} (S : Sense X) (x : X) (id : ItemId) (cs : List Change) (p : Planned) (why o : Option Code)
    → LooksWith S id cs p x → ((k : ItemId) → Reads S (IsAsking k cs p) (asking_refusal k cs) x why) → why ≡ o → Reads S (Flagging id cs) (asking_refusal id cs) x o
asks_why S x id cs p why o looks reads e = record { is = λ s m f. sym e ∙ (reads id).is s m (record { flagging = f; step = looks.is s m f.flags }) }

pub asks_off : {X : Type 0} (S : Sense X) (x : X) (id : ItemId) (cs : List Change) (p : Planned) (why : Option Code) (c : Code)
    → LooksWith S id cs p x → ((k : ItemId) → Reads S (IsAsking k cs p) (asking_refusal k cs) x why) → why ≡ Some c → Asks S id cs x (Ok (Some c)) x
asks_off S x id cs p why c looks reads e = (asks_why S x id cs p why (Some c) looks reads e, refl)

pub asks_on : {X : Type 0} (S : Sense X) (x new : X) (id : ItemId) (cs : List Change) (p : Planned) (why : Option Code) (u : Unit {0})
    → LooksWith S id cs p x → ((k : ItemId) → Reads S (IsAsking k cs p) (asking_refusal k cs) x why) → why ≡ None
    → ((k : ItemId) → Answers S (MayAskBy k cs p) (with_step k cs) x (Ok u) new) → Asks S id cs x (Ok None) new
asks_on S x new id cs p why u looks reads e h = (asks_why S x id cs p why None looks reads e, ask_by S x new id cs p (Ok unit) looks (h id))

pub asks_err : {X : Type 0} (S : Sense X) (x new : X) (id : ItemId) (cs : List Change) (p : Planned) (why : Option Code) (e : CallError) (r : Result (Option Code) CallError)
    → LooksWith S id cs p x → ((k : ItemId) → Reads S (IsAsking k cs p) (asking_refusal k cs) x why) → why ≡ None
    → ((k : ItemId) → Answers S (MayAskBy k cs p) (with_step k cs) x (Err e) new) → IsErrAnd r (λ y. y ≡ e) → Asks S id cs x r new
asks_err S x new id cs p why e r looks reads q h is =
    let z = err_from_is_err_and r is in
    subst (λ (y : Result (Option Code) CallError). Asks S id cs x y new) (sym (z.1 ∙ ap (λ (f : CallError). Err f) z.2))
    (inr (asks_why S x id cs p why None looks reads q, ask_by S x new id cs p (Err e) looks (h id)))

-- three parts one after the other

assoc : {T A B C : Type 0} (p : Tree T A) (f : A → T → Tree T B) (g : B → T → Tree T C) → bind (bind p f) g ≡ bind p (λ a s. bind (f a s) g)
assoc (Ret a s) f g = refl
assoc (Step s p) f g = ap (λ q. Step s q) (assoc p f g)
assoc (Fork p q) f g = λ i. Fork (assoc p f g i) (assoc q f g i)
assoc (Asked k) f g = λ i. Asked (λ x. assoc (k x) f g i)

associated : {X A B C : Type 0} (S : Sense X) (P : Filter → Type 0) (f : Arrow Filter A) (g : Arrow Filter B) (h : Arrow Filter C) (x new : X) (r : Result C CallError)
    → Answers S P (then_do (then_do f g) h) x r new → Answers S P (then_do f (then_do g h)) x r new
associated {X} {A} {B} {C} S P f g h x new r a = record {
  leads = λ s i p.
      let z = a.leads s i p in (z.0, subst (λ (q : Tree Filter C). Does q r z.0) (assoc (f s) (λ _ t. g t) (λ _ t. h t)) z.1, z.2, z.3);
}

-- the call

asking_on : {X : Type 0} (S : Sense X) (id : ItemId) (cs : List Change) (answer : Arrow Filter Shown) (x new : X) (r : Result Shown CallError)
    → Reads S (Flagging id cs) (asking_refusal id cs) x None → Answers S (MayAsk id cs) (then_do (with_step id cs) answer) x r new → Answers S (Flagging id cs) (asking id answer cs) x r new
asking_on S id cs answer x new r reads h =
    let a = associated S (MayAsk id cs) (changes cs) (settle_changed id cs) answer x new r h in record {
      leads = λ s i f.
          let e : None ≡ asking_refusal id cs s = reads.is s i f in
          subst (λ (o : Option Code). (t : Filter) × Does (unless shown.Refused o (then_do (changes cs) (then_do (settle_changed id cs) answer)) s) r t × S.moved x new s t × After S x r new t) e
          (a.leads s i (record { flagging = f; free = sym e }));
    }

pub asked_done : {X : Type 0} (S : Sense X) (id : ItemId) (cs : List Change) (answer : Arrow Filter Shown) (o : Option Code) (x mid new : X) (r : Result Shown CallError)
    → Asks S id cs x (Ok o) mid → o ≡ None → Answers S Any answer mid r new → Answers S (Flagging id cs) (asking id answer cs) x r new
asked_done S id cs answer o x mid new r m e k =
    let a : Asks S id cs x (Ok None) mid = subst (λ (p : Option Code). Asks S id cs x (Ok p) mid) e m in
    asking_on S id cs answer x new r a.0 (then_on S (MayAsk id cs) Any (with_step id cs) answer x mid new unit r (λ s t p q. record {}) a.1 k)

pub asked_fails : {X : Type 0} (S : Sense X) (id : ItemId) (cs : List Change) (answer : Arrow Filter Shown) (x new : X) (e : CallError)
    → Asks S id cs x (Err e) new → Answers S (Flagging id cs) (asking id answer cs) x (Err e) new
asked_fails {X} S id cs answer x new e (inl m) =
    subst (λ (f : CallError). Answers S (Flagging id cs) (asking id answer cs) x (Err f) new) (sym m.0)
    (subst (λ (y : X). Answers S (Flagging id cs) (asking id answer cs) x (Err fail.OutOfMemory) y) (sym m.1) (no_memory S (Flagging id cs) (asking id answer cs) x))
asked_fails S id cs answer x new e (inr m) = asking_on S id cs answer x new (Err e) m.0 (stops_first S (MayAsk id cs) (with_step id cs) answer x new e m.1)

-- a plan leads to it

led : {X : Type 0} (S : Sense X) (id : ItemId) (f : Plan) (Q : List Change → Filter → Type 0) (h : ItemId → List Change → Arrow Filter Shown) (cs : List Change) (x new : X) (r : Result Shown CallError)
    → Plans S id f x (Ok cs) → ((s : Filter) (i : Item) (ds : List Change) → IsGood s → IsAt id i s → f i s ≡ Ok ds → Q ds s) → Answers S (Q cs) (h id cs) x r new
    → (i : Item) → Answers S (IsAt id i) (reading (f i) (on_ok (h i.id))) x r new
led S id f Q h cs x new r plans suit a i = record {
  leads = λ s m at.
      let e : f i s ≡ Ok cs = plans.is s i m at in
      subst (λ (q : Result (List Change) Code). (t : Filter) × Does (on_ok (h i.id) q s) r t × S.moved x new s t × After S x r new t) (sym e)
      (subst (λ (k : ItemId). (t : Filter) × Does (h k cs s) r t × S.moved x new s t × After S x r new t) (own_id s.volume.items id i at)
      (a.leads s m (suit s i cs (S.good x s m) at e)));
}

pub led_ok : {X : Type 0} (S : Sense X) (id : ItemId) (f : Plan) (Q : List Change → Filter → Type 0) (h : ItemId → List Change → Arrow Filter Shown) (plan : Result (List Change) CallError) (cs ds : List Change) (x new : X) (r : Result Shown CallError)
    → Plans S id f x plan → ((s : Filter) (i : Item) (es : List Change) → IsGood s → IsAt id i s → f i s ≡ Ok es → Q es s) → plan ≡ Ok cs → ds ≡ cs → Answers S (Q ds) (h id ds) x r new
    → (i : Item) → Answers S (IsAt id i) (reading (f i) (on_ok (h i.id))) x r new
led_ok S id f Q h plan cs ds x new r plans suit e same a i =
    led S id f Q h cs x new r (subst (λ (q : Result (List Change) CallError). Plans S id f x q) e plans) suit (subst (λ (l : List Change). Answers S (Q l) (h id l) x r new) same a) i

pub led_err : {X : Type 0} (S : Sense X) (id : ItemId) (f : Plan) (h : ItemId → List Change → Arrow Filter Shown) (plan : Result (List Change) CallError) (k : CallError) (x : X) (r : Result Shown CallError)
    → Plans S id f x plan → plan ≡ Err k → r ≡ refusal_of k → (i : Item) → Answers S (IsAt id i) (reading (f i) (on_ok (h i.id))) x r x
led_err S id f h plan (fail.No c) x r plans e q i =
    subst (λ (y : Result Shown CallError). Answers S (IsAt id i) (reading (f i) (on_ok (h i.id))) x y x) (sym q)
    (plan_refused S id f (h i.id) c x i (subst (λ (p : Result (List Change) CallError). Plans S id f x p) e plans))
led_err S id f h plan fail.OutOfMemory x r plans e q i =
    subst (λ (y : Result Shown CallError). Answers S (IsAt id i) (reading (f i) (on_ok (h i.id))) x y x) (sym q) (no_memory S (IsAt id i) (reading (f i) (on_ok (h i.id))) x)

-- the plans

flags_when : (id : ItemId) (b : Bool) (c : Change) (s : Filter) (cs : List Change) → IsFlag c id → Suits c s.volume → when b (c ∷ []) ≡ cs → Flagging id cs s
flags_when id true c s cs f h e = subst (λ (l : List Change). Flagging id l s) e (record { flags = f; suits = (h, record {}) })
flags_when id false c s cs f h e = subst (λ (l : List Change). Flagging id l s) e (record { flags = record {}; suits = record {} })

pub mark_flags : (id : ItemId) (n : Usn) (s : Filter) (i : Item) (cs : List Change) → IsGood s → IsAt id i s → by_mark n i s ≡ Ok cs → Flagging id cs s
mark_flags id n s i cs good at e =
    let p = plan_ok ((not i.placeholder, code.NotPlaceholder) ∷ (_, code.UsnMismatch i.number) ∷ []) (when (not i.in_sync) (change.Mark i.id i.number ∷ [])) cs e in
    let a = first_none (not i.placeholder) code.NotPlaceholder ((_, code.UsnMismatch i.number) ∷ []) p.0 in
    flags_when id (not i.in_sync) (change.Mark i.id i.number) s cs (sym (own_id s.volume.items id i at))
    (record { fits = λ k d h q. record {}; needs = needs_at s id i (λ j. j.placeholder ≡ true) good at (not_false i.placeholder a.0); plants = record {}; lasts = record {} }) p.1

pub keep_flags : (id : ItemId) (on : Bool) (s : Filter) (i : Item) (cs : List Change) → IsGood s → IsAt id i s → by_keep on i s ≡ Ok cs → Flagging id cs s
keep_flags id on s i cs good at e =
    let p = plan_ok ((i.directory, code.IsDirectory) ∷ (not i.placeholder, code.NotPlaceholder) ∷ []) (when (not (cond on i.keep (not i.keep))) (change.Keep i.id on ∷ [])) cs e in
    let a = first_none i.directory code.IsDirectory ((not i.placeholder, code.NotPlaceholder) ∷ []) p.0 in
    let b = first_none (not i.placeholder) code.NotPlaceholder [] a.1 in
    flags_when id (not (cond on i.keep (not i.keep))) (change.Keep i.id on) s cs (sym (own_id s.volume.items id i at))
    (record { fits = λ k d h q. record {}; needs = needs_at s id i (λ j. (j.placeholder ≡ true) × (j.directory ≡ false)) good at (not_false i.placeholder b.0, a.0); plants = record {}; lasts = record {} }) p.1
