-- Calls that may wait.
use Rattle.std.proofs.Common.{◌≡◌, Bool, true, false, not, List, [], ◌∷◌, ◌++◌, refl, sym, ◌∙◌, ap, subst, map, Option, Some, None}
use Rattle.std.specs.Prelude.{Result, Ok, Err, MatchOption}
use Rattle.cf_base.specs.declared.answers.Shown.{Shown}
use Rattle.cf_base.specs.declared.answers.Shown.TheVariants as shown
use Rattle.cf_base.specs.declared.codes.Code.{Code}
use Rattle.cf_base.specs.declared.codes.Code.TheVariants as code
use Rattle.cf_base.specs.declared.codes.CallError.{CallError}
use Rattle.cf_base.specs.declared.codes.CallError.TheVariants as fail
use Rattle.cf_base.specs.declared.ids.Handle.{Handle}
use Rattle.cf_base.specs.declared.ids.ItemId.{ItemId}
use Rattle.cf_base.specs.declared.ids.WaitId.{WaitId}
use Rattle.cf_base.specs.declared.notices.Notice.{Notice}
use Rattle.cf_base.specs.declared.policies.Policy.{Policy}
use Rattle.cf_base.specs.declared.spans.Span.{Span}
use Rattle.cf_base.specs.declared.waits.Cause.{Cause}
use Rattle.cf_base.specs.declared.waits.End.{End}
use Rattle.cf_base.specs.declared.waits.WaitKind.TheVariants as wait_kind
use Rattle.cf_filter_calls.specs.Planned.{ReadsAt, has_entries, refusal_of}
use Rattle.cf_model.specs.Arrows.{Arrow, choose, each, noted, one, reading, ret, then_do, unit, unless}
use Rattle.cf_model.specs.Dehydration.{is_connected}
use Rattle.cf_model.specs.Items.{Item}
use Rattle.cf_model.specs.Missing.{Wait, no_span}
use Rattle.cf_model.specs.Requests.{Live, Told, also_background, no_numbers, too_many_asks, too_many_waits, wait_after}
use Rattle.cf_model.specs.Settling.{ask_line, cancel_line, end_wait, with_asks_told}
use Rattle.cf_model.specs.State.{Filter, Open}
use Rattle.cf_model.specs.Trees.{Does}
use Rattle.cf_model.specs.Waits.{Need, accessed_now, answer_now, answer_or_begin, answer_with, begin, begin_now, begun, beside, end_now, is_met_now, is_progressive, need, on_handle, on_open, opened_by, own_id, read_file, read_item, wait_for, wants_rest}
use Rattle.cf_model.specs.Words.{first_of, when}
use Rattle.cf_model.proofs.TreeLaws as trees
use Rattle.cf_waits.specs.Steps.{limit_of, limits_by, moved_of}
use Rattle.cf_waits.specs.declared.limits.Limits.{Limits}
use Rattle.cf_waits.specs.declared.limits.Limits.TheVariants as limits
use Rattle.cf_waits.specs.declared.moves.Moves.{Moves}
use Rattle.cf_filter_steps.specs.Answering.{After, Answers, Any, IsAt, Reads, Sense}
use Rattle.cf_filter_steps.specs.Finding.{HasRows}
use Rattle.cf_filter_steps.specs.Good.{Every, IsGood, IsOnFile}
use Rattle.cf_filter_steps.specs.Needing.{IsMet, MayAnswer, ReadsFile, Starts, begin_limited, end_told, start_refusal, with_begun}
use Rattle.cf_filter_steps.specs.Putting.{IsFile}
use Rattle.cf_filter_steps.specs.Readings.{asked_line, item_opened, opened_item, policy_of}
use Rattle.cf_filter_steps.specs.Settled.{AreOnFiles, tell_moves}
use Rattle.cf_filter_steps.proofs.AskRule.{ended_have}
use Rattle.cf_filter_steps.proofs.Laws.{after_err, reads_on, returned, then_on, weaker}
use Rattle.cf_table.specs.Means.{Means}
use Rattle.cf_table.specs.Tables.{Table, row_of}
use Rattle.cf_table.specs.declared.rows.Row.{Row}
use Rattle.cf_tree.proofs.Walks.{own_id as own_item}
use Rattle.cf_filter_calls.proofs.Carried.{no_row, row_means}

-- what is told as a wait begins

lines_are : (made : List Live) → map asked_line (map (λ a. a.ask) made) ≡ map ask_line made
lines_are [] = refl
lines_are (a ∷ as') = ap (λ (ls : List Notice). ask_line a ∷ ls) (lines_are as')

told_by : {X : Type 0} (S : Sense X) (t : Told) (answer : Arrow Filter Shown) (x new : X) (r : Result Shown CallError)
    → Answers S (AreOnFiles t.ended) (then_do (tell_moves t.ended t.cancelled (map (λ a. a.ask) t.made)) answer) x r new
    → Answers S (AreOnFiles t.ended) (then_do (then_do (each end_wait t.ended) (noted (with_asks_told t))) answer) x r new
told_by S t answer x new r h =
    subst (λ (ls : List Notice). Answers S (AreOnFiles t.ended) (then_do (then_do (each end_wait t.ended) (noted (λ s. record s { notes = s.notes ++ map cancel_line t.cancelled ++ ls; outbox = s.outbox ++ map (λ a. a.ask) t.made }))) answer) x r new)
    (lines_are t.made) h

moves_by : {X : Type 0} (S : Sense X) (t : Told) (b : Option WaitId) (m : Moves) (answer : Arrow Filter Shown) (x new : X) (r : Result Shown CallError)
    → m ≡ moved_of b t → Answers S (AreOnFiles m.ended) (then_do (tell_moves m.ended m.cancelled m.asks) answer) x r new
    → Answers S (AreOnFiles t.ended) (then_do (then_do (each end_wait t.ended) (noted (with_asks_told t))) answer) x r new
moves_by S t b m answer x new r e h = told_by S t answer x new r (subst (λ (n : Moves). Answers S (AreOnFiles n.ended) (then_do (tell_moves n.ended n.cancelled n.asks) answer) x r new) e h)

-- what ends as it begins is on files

pub every_both : {A : Type 0} (P : A → Type 0) (xs ys : List A) → Every P xs → Every P ys → Every P (xs ++ ys)
every_both P [] ys h k = k
every_both P (x ∷ xs) ys h k = (h.0, every_both P xs ys h.1 k)

begun_on_files : (n : Need) (s : Filter) → IsGood s → ReadsFile n s → AreOnFiles (begun n s).0.ended s
begun_on_files n s good h =
    ended_have (λ w. IsOnFile w.kind s.volume.items w.item) _ (s.waiting.waits ++ wait_for n s ∷ beside n s)
    (every_both (λ (w : Wait). IsOnFile w.kind s.volume.items w.item) s.waiting.waits (wait_for n s ∷ beside n s) good.reads (h, rest (also_background n.background n.item s.waiting)))
  where
    rest : (b : Bool) → Every (λ w. IsOnFile w.kind s.volume.items w.item) (when b (wait_after s.waiting 1 wait_kind.Background n.item None no_span ∷ []))
    rest true = (record {}, record {})
    rest false = record {}

-- the state from which it begins
record Begins (n : Need) (es : List (Wait × Cause)) (s : Filter) : Type 0 where
  pub file : ReadsFile n s
  pub ended : AreOnFiles es s

pub started : {X : Type 0} (S : Sense X) (n : Need) (m : WaitId × Moves) (x mid new : X) (r : Result Shown CallError)
    → Starts S n x (Ok m) mid → Answers S (AreOnFiles m.1.ended) (then_do (tell_moves m.1.ended m.1.cancelled m.1.asks) (ret (shown.Pending m.0))) mid r new → Answers S (ReadsFile n) (begin_limited n) x r new
started S n m x mid new r st k = record {
  leads = λ s i p.
      let e : None ≡ start_refusal n s = st.0.is s i (record {}) in
      let own : m.0 ≡ own_id n s = st.1.is s i (record {}) in
      let es : List (Wait × Cause) = (begun n s).0.ended in
      let k1 = subst (λ (w : WaitId). Answers S (AreOnFiles m.1.ended) (then_do (tell_moves m.1.ended m.1.cancelled m.1.asks) (ret (shown.Pending w))) mid r new) own k in
      let k2 = moves_by S (begun n s).0 m.1.background m.1 (ret (shown.Pending (own_id n s))) mid new r (st.2.is s i (record {})) k1 in
      let a = then_on S (Begins n es) (AreOnFiles es) (noted (with_begun n)) (then_do (then_do (each end_wait es) (noted (with_asks_told (begun n s).0))) (ret (shown.Pending (own_id n s)))) x mid new unit r
      (λ u v q z. subst (λ (w : Filter). AreOnFiles es w) (sym z.1) q.ended) (weaker S (ReadsFile n) (Begins n es) (noted (with_begun n)) x mid (Ok unit) (λ u q. q.file) st.3) k2 in
      subst (λ (o : Option Code). (t : Filter) × Does (unless shown.Refused o (reading (begun n) (begin_now n)) s) r t × S.moved x new s t × After S x r new t) e
      (a.leads s i (record { file = p; ended = begun_on_files n s (S.good x s i) p }));
}

pub start_by : {X : Type 0} (S : Sense X) (n : Need) (q : Result (WaitId × Moves) CallError) (m : WaitId × Moves) (x mid new : X) (r : Result Shown CallError)
    → Starts S n x q mid → q ≡ Ok m → Answers S (AreOnFiles m.1.ended) (then_do (tell_moves m.1.ended m.1.cancelled m.1.asks) (ret (shown.Pending m.0))) mid r new → Answers S (ReadsFile n) (begin_limited n) x r new
start_by S n q m x mid new r st e k = started S n m x mid new r (subst (λ (y : Result (WaitId × Moves) CallError). Starts S n x y mid) e st) k

start_off : {X : Type 0} (S : Sense X) (n : Need) (c : Code) (x new : X) → Starts S n x (Err (fail.No c)) new → Answers S (ReadsFile n) (begin_limited n) x (Ok (shown.Refused c)) new
start_off {X} S n c x new st = subst (λ (y : X). Answers S (ReadsFile n) (begin_limited n) x (Ok (shown.Refused c)) y) (sym st.1) (record {
  leads = λ s i p.
      subst (λ (o : Option Code). (t : Filter) × Does {A = Shown} (unless shown.Refused o (reading (begun n) (begin_now n)) s) (Ok (shown.Refused c)) t × S.moved x x s t × After {A = Shown} S x (Ok (shown.Refused c)) x t) (st.0.is s i (record {}))
      (s, (refl, refl), S.stays x s i, i);
})

pub start_not : {X : Type 0} (S : Sense X) (n : Need) (q : Result (WaitId × Moves) CallError) (h : CallError) (x new : X) (r : Result Shown CallError)
    → Starts S n x q new → q ≡ Err h → r ≡ refusal_of h → Answers S (ReadsFile n) (begin_limited n) x r new
start_not S n q (fail.No c) x new r st e d =
    subst (λ (y : Result Shown CallError). Answers S (ReadsFile n) (begin_limited n) x y new) (sym d) (start_off S n c x new (subst (λ (y : Result (WaitId × Moves) CallError). Starts S n x y new) e st))
start_not S n q fail.OutOfMemory x new r st e d =
    subst (λ (y : Result Shown CallError). Answers S (ReadsFile n) (begin_limited n) x y new) (sym d) (subst (λ (y : Result (WaitId × Moves) CallError). Starts S n x y new) e st)

-- a provider is there, or none

abbrev limit_tests : Need → Filter → List (Bool × Code)
limit_tests n s = (too_many_waits (begun n s).1, code.TooManyWaits) ∷ (too_many_asks (begun n s).1, code.TooManyAsks) ∷ (no_numbers (begun n s).1, code.Exhausted) ∷ []

pub begin_up : {X : Type 0} (S : Sense X) (n : Need) (b : Bool) (x new : X) (r : Result Shown CallError)
    → Reads S Any is_connected x b → b ≡ true → limits_by n.kind ≡ limits.Begins → Answers S (ReadsFile n) (begin_limited n) x r new → Answers S (ReadsFile n) (begin n) x r new
begin_up S n b x new r reads e kind h = record {
  leads = λ s i p.
      let up : true ≡ s.connected = sym e ∙ reads.is s i (record {}) in
      subst (λ (o : Option Code). (t : Filter) × Does (unless shown.Refused o (reading (begun n) (begin_now n)) s) r t × S.moved x new s t × After S x r new t)
      (ap (λ (l : Limits). limit_of l (begun n s).1) kind ∙ ap (λ (c : Bool). first_of ((not c, code.ProviderDown) ∷ limit_tests n s)) up) (h.leads s i p);
}

pub begin_down : {X : Type 0} (S : Sense X) (n : Need) (b : Bool) (x : X) → Reads S Any is_connected x b → b ≡ false → Answers S (ReadsFile n) (begin n) x (Ok (shown.Refused code.ProviderDown)) x
begin_down S n b x reads e = record {
  leads = λ s i p.
      let down : false ≡ s.connected = sym e ∙ reads.is s i (record {}) in
      subst (λ (c : Bool). (t : Filter) × Does {A = Shown} (unless shown.Refused (first_of ((not c, code.ProviderDown) ∷ limit_tests n s)) (reading (begun n) (begin_now n)) s) (Ok (shown.Refused code.ProviderDown)) t × S.moved x x s t × After {A = Shown} S x (Ok (shown.Refused code.ProviderDown)) x t) down
      (s, (refl, refl), S.stays x s i, i);
}

-- an answer at once

pub answered : {X : Type 0} (S : Sense X) (n : Need) (e : End) (x new : X)
    → Answers S (MayAnswer n) (one (accessed_now n)) x (Ok unit) new → Reads S (IsMet n) (end_told n) x e → Answers S (MayAnswer n) (answer_now n) x (Ok (shown.Ended e)) new
answered S n e x new h reads =
    reads_on S (MayAnswer n) (end_now n) (answer_with n) x new (shown.Ended e) (Ok (shown.Ended e)) (record { is = λ s i p. ap (λ (y : End). shown.Ended y) (reads.is s i p.met) })
    (then_on S (MayAnswer n) Any (one (accessed_now n)) (ret (shown.Ended e)) x new new unit (Ok (shown.Ended e)) (λ s t p q. record {}) h (returned S Any (shown.Ended e) new))

pub answered_not : {X : Type 0} (S : Sense X) (n : Need) (e : CallError) (x new : X) → Answers S (MayAnswer n) (one (accessed_now n)) x (Err e) new → Answers S (MayAnswer n) (answer_now n) x (Err e) new
answered_not S n e x new h = record {
  leads = λ s i p.
      let z = h.leads s i p in (z.0, trees.fails_first (one (accessed_now n) s) (λ _ t. ret (end_now n s) t) e z.0 z.1, z.2, after_err (Unit {0}) Shown S e x new z.0 z.3);
}

pub met_now : {X : Type 0} (S : Sense X) (n : Need) (b : Bool) (x new : X) (r : Result Shown CallError)
    → Reads S Any (is_met_now n) x b → b ≡ true → Answers S (MayAnswer n) (answer_now n) x r new → Answers S (ReadsFile n) (need n) x r new
met_now S n b x new r reads e h = record {
  leads = λ s i p.
      let met : true ≡ is_met_now n s = sym e ∙ reads.is s i (record {}) in
      subst (λ (c : Bool). (t : Filter) × Does (answer_or_begin n c s) r t × S.moved x new s t × After S x r new t) met (h.leads s i (record { met = sym met; file = p }));
}

pub met_not : {X : Type 0} (S : Sense X) (n : Need) (b : Bool) (x new : X) (r : Result Shown CallError)
    → Reads S Any (is_met_now n) x b → b ≡ false → Answers S (ReadsFile n) (begin n) x r new → Answers S (ReadsFile n) (need n) x r new
met_not S n b x new r reads e h = record {
  leads = λ s i p. subst (λ (c : Bool). (t : Filter) × Does (answer_or_begin n c s) r t × S.moved x new s t × After S x r new t) (sym e ∙ reads.is s i (record {})) (h.leads s i p);
}

-- handles

pub handle_on : {X : Type 0} (S : Sense X) (h : Handle) (f : ItemId → Arrow Filter Shown) (o : Option ItemId) (item : ItemId) (x new : X) (r : Result Shown CallError)
    → Reads S Any (opened_item h) x o → o ≡ Some item → Answers S Any (f item) x r new → Answers S Any (on_handle h f) x r new
handle_on {X} S h f o item x new r reads e a = record { leads = λ s i p. one (opened_by h s) (sym e ∙ reads.is s i p) s i } where
  one : (q : Option Open) → Some item ≡ item_opened q → (s : Filter) → S.means x s → (t : Filter) × Does (on_open f q s) r t × S.moved x new s t × After S x r new t
  one None z s i = let y : ◌≡◌ {A = Option ItemId} (Some item) None = z in absurd cc
  one (Some p) z s i =
      let same : item ≡ p.item = cc in
      subst (λ (k : ItemId). (t : Filter) × Does (f k s) r t × S.moved x new s t × After S x r new t) same (a.leads s i (record {}))

pub handle_off : {X : Type 0} (S : Sense X) (h : Handle) (f : ItemId → Arrow Filter Shown) (o : Option ItemId) (x : X)
    → Reads S Any (opened_item h) x o → o ≡ None → Answers S Any (on_handle h f) x (Ok (shown.Refused code.NoHandle)) x
handle_off {X} S h f o x reads e = record { leads = λ s i p. one (opened_by h s) (sym e ∙ reads.is s i p) s i } where
  one : (q : Option Open) → None ≡ item_opened q → (s : Filter) → S.means x s
      → (t : Filter) × Does {A = Shown} (on_open f q s) (Ok (shown.Refused code.NoHandle)) t × S.moved x x s t × After {A = Shown} S x (Ok (shown.Refused code.NoHandle)) x t
  one None z s i = (s, (refl, refl), S.stays x s i, i)
  one (Some p) z s i = let y : ◌≡◌ {A = Option ItemId} None (Some p.item) = z in absurd cc

pub read_by : {X : Type 0} (S : Sense X) (h : Handle) (asked : Span) (item : ItemId) (policy : Policy) (b : Bool) (x new : X) (r : Result Shown CallError)
    → Reads S Any policy_of x policy → b ≡ is_progressive policy.hydration → Answers S (IsFile item) (read_file h asked item b) x r new → Answers S (IsFile item) (read_item h asked item) x r new
read_by S h asked item policy b x new r reads e a =
    reads_on S (IsFile item) wants_rest (read_file h asked item) x new b r (record { is = λ s i p. e ∙ ap (λ (q : Policy). is_progressive q.hydration) (reads.is s i (record {})) }) a

-- by what an item is

pub chosen_on : {X : Type 0} (S : Sense X) (id : ItemId) (v : Item → Bool) (f : ItemId → Arrow Filter Shown) (g : Arrow Filter Shown) (b : Bool) (x new : X) (r : Result Shown CallError)
    → ReadsAt S id v x b → b ≡ true → Answers S Any (f id) x r new → (i : Item) → Answers S (IsAt id i) (choose (v i) (f i.id) g) x r new
chosen_on S id v f g b x new r reads e a i = record {
  leads = λ s m at.
      subst (λ (c : Bool). (t : Filter) × Does (choose c (f i.id) g s) r t × S.moved x new s t × After S x r new t) (sym e ∙ reads.is s i m at)
      (subst (λ (k : ItemId). (t : Filter) × Does (f k s) r t × S.moved x new s t × After S x r new t) (own_item s.volume.items id i at) (a.leads s m (record {})));
}

pub chosen_off : {X : Type 0} (S : Sense X) (id : ItemId) (v : Item → Bool) (f : Item → Arrow Filter Shown) (g : Arrow Filter Shown) (b : Bool) (x new : X) (r : Result Shown CallError)
    → ReadsAt S id v x b → b ≡ false → Answers S Any g x r new → (i : Item) → Answers S (IsAt id i) (choose (v i) (f i) g) x r new
chosen_off S id v f g b x new r reads e a i = record {
  leads = λ s m at. subst (λ (c : Bool). (t : Filter) × Does (choose c (f i) g s) r t × S.moved x new s t × After S x r new t) (sym e ∙ reads.is s i m at) (a.leads s m (record {}));
}

-- refused of a directory, else the rest on the item
pub but_on : {X : Type 0} (S : Sense X) (id : ItemId) (v : Item → Bool) (f : Arrow Filter Shown) (g : Item → Arrow Filter Shown) (b : Bool) (x new : X) (r : Result Shown CallError)
    → ReadsAt S id v x b → b ≡ true → Answers S Any f x r new → (i : Item) → Answers S (IsAt id i) (choose (v i) f (g i)) x r new
but_on S id v f g b x new r reads e a i = record {
  leads = λ s m at. subst (λ (c : Bool). (t : Filter) × Does (choose c f (g i) s) r t × S.moved x new s t × After S x r new t) (sym e ∙ reads.is s i m at) (a.leads s m (record {}));
}

pub but_off : {X : Type 0} (S : Sense X) (id : ItemId) (v : Item → Bool) (f : Arrow Filter Shown) (g : Item → Arrow Filter Shown) (b : Bool) (x new : X) (r : Result Shown CallError)
    → ReadsAt S id v x b → b ≡ false → ((i : Item) → Answers S (IsAt id i) (g i) x r new) → (i : Item) → Answers S (IsAt id i) (choose (v i) f (g i)) x r new
but_off S id v f g b x new r reads e a i = record {
  leads = λ s m at. subst (λ (c : Bool). (t : Filter) × Does (choose c f (g i) s) r t × S.moved x new s t × After S x r new t) (sym e ∙ reads.is s i m at) ((a i).leads s m at);
}

pub own_on : {X : Type 0} (S : Sense X) (id : ItemId) (f : ItemId → Arrow Filter Shown) (x new : X) (r : Result Shown CallError) → Answers S Any (f id) x r new → (i : Item) → Answers S (IsAt id i) (f i.id) x r new
own_on S id f x new r a i = record {
  leads = λ s m at. subst (λ (k : ItemId). (t : Filter) × Does (f k s) r t × S.moved x new s t × After S x r new t) (own_item s.volume.items id i at) (a.leads s m (record {}));
}

-- the rest on what is a file
pub file_on : {X : Type 0} (S : Sense X) (id : ItemId) (f : ItemId → Arrow Filter Shown) (g : Arrow Filter Shown) (b : Bool) (x new : X) (r : Result Shown CallError)
    → ReadsAt S id has_entries x b → b ≡ false → Answers S (IsFile id) (f id) x r new → (i : Item) → Answers S (IsAt id i) (choose i.directory g (f i.id)) x r new
file_on S id f g b x new r reads e a i = record {
  leads = λ s m at.
      let q : i.directory ≡ false = sym (reads.is s i m at) ∙ e in
      subst (λ (c : Bool). (t : Filter) × Does (choose c g (f i.id) s) r t × S.moved x new s t × After S x r new t) (sym q)
      (subst (λ (k : ItemId). (t : Filter) × Does (f k s) r t × S.moved x new s t × After S x r new t) (own_item s.volume.items id i at)
      (a.leads s m (subst (λ (o : Option Item). MatchOption o ⊥ (λ (j : Item). j.directory ≡ false)) (sym at) q)));
}

-- by its row

pub at_row : {X V : Type 0} (S : Sense X) (x : X) (t : Table) (id : ItemId) (row : Row) (v : Item → V) (r : V)
    → HasRows S x t → row_of t.rows id ≡ Some row → ((i : Item) → Means row i → r ≡ v i) → ReadsAt S id v x r
at_row S x t id row v r rows e h = record { is = λ s i m at. h i (row_means t.rows s.volume.items id row i (rows.rows s m) e at) }

pub at_none : {X V : Type 0} (S : Sense X) (x : X) (t : Table) (id : ItemId) (v : Item → V) (r : V) → HasRows S x t → row_of t.rows id ≡ None → ReadsAt S id v x r
at_none S x t id v r rows e = record { is = λ s i m at. absurd (no_row t.rows s.volume.items id i (rows.rows s m) e at) }
