-- Operations of a provider.
use Rattle.std.proofs.Common.{◌≡◌, ℕ, List, [], refl, sym, ◌∙◌, ap, subst, Option, Some, None}
use Rattle.std.specs.Prelude.{Result, Ok, Err, option_map}
use Rattle.cf_base.specs.declared.answers.AuxRecord.{AuxRecord}
use Rattle.cf_base.specs.declared.answers.Shown.{Shown}
use Rattle.cf_base.specs.declared.answers.Shown.TheVariants as shown
use Rattle.cf_base.specs.declared.codes.Code.{Code}
use Rattle.cf_base.specs.declared.codes.Code.TheVariants as code
use Rattle.cf_base.specs.declared.codes.CallError.{CallError}
use Rattle.cf_base.specs.declared.ids.Key.{Key}
use Rattle.cf_base.specs.declared.operations.Operation.{Operation}
use Rattle.cf_base.specs.declared.waits.Ask.{Ask}
use Rattle.cf_filter_calls.specs.Executing.{IsFree, ask_at, base_at, base_named, op_refusal}
use Rattle.cf_filter_calls.specs.Operating.{IsLiveFor, Keeps}
use Rattle.cf_provider.specs.Checks.{base_at as base_of_live, check_of, check_on, refusal}
use Rattle.cf_provider.proofs.Fronts.{refused_first}
use Rattle.cf_model.specs.Books.{Book}
use Rattle.cf_model.specs.Changes.{same_book}
use Rattle.cf_model.specs.Operations.{execute, execute_with, key_of, live_at, on_ask, on_live}
use Rattle.cf_model.specs.Requests.{Live, Waiting, live_of}
use Rattle.cf_model.specs.State.{Filter}
use Rattle.cf_model.specs.Trees.{Tree}
use Rattle.cf_filter_steps.specs.Answering.{Answers, Any, Reads, Sense}
use Rattle.cf_filter_steps.specs.Readings.{waiting_of}
use Rattle.cf_filter_calls.proofs.Transferred.{Goes}

-- the ask

pub ask_reads : {X : Type 0} (S : Sense X) (x : X) (key : Key) (w : Waiting) (o : Option Ask) → Reads S Any waiting_of x w → o ≡ option_map (λ (a : Live). a.ask) (live_of w.asks key) → Reads S Any (ask_at key) x o
ask_reads S x key w o waits e = record { is = λ s h p. e ∙ ap (λ (u : Waiting). option_map (λ (a : Live). a.ask) (live_of u.asks key)) (waits.is s h p) }

base_is : (o : Option Live) (ask : Ask) (s : Filter) → Some ask ≡ option_map (λ (a : Live). a.ask) o → base_at ask.item s ≡ base_of_live o s
base_is None ask s e = let z : ◌≡◌ {A = Option Ask} (Some ask) None = e in absurd cc
base_is (Some a) ask s e = let y : ◌≡◌ {A = Option Ask} (Some ask) (Some a.ask) = e in let z : ask ≡ a.ask = cc in ap (λ (q : Ask). base_at q.item s) z

none_is : (o : Option Live) → None ≡ option_map (λ (a : Live). a.ask) o → o ≡ None
none_is None e = refl
none_is (Some a) e = let z : ◌≡◌ {A = Option Ask} None (Some a.ask) = e in absurd cc

pub base_some : {X : Type 0} (S : Sense X) (x : X) (key : Key) (o : Option Ask) (ask : Ask) (n : ℕ) → Reads S Any (ask_at key) x o → o ≡ Some ask → Reads S Any (base_at ask.item) x n → Reads S Any (base_named key) x n
base_some S x key o ask n asks e bases = record { is = λ s h p. bases.is s h p ∙ base_is (live_at key s) ask s (sym e ∙ asks.is s h p) }

pub base_none : {X : Type 0} (S : Sense X) (x : X) (key : Key) (o : Option Ask) → Reads S Any (ask_at key) x o → o ≡ None → Reads S Any (base_named key) x 0
base_none S x key o asks e = record { is = λ s h p. sym (ap (λ (q : Option Live). base_of_live q s) (none_is (live_at key s) (sym e ∙ asks.is s h p))) }

-- the check

pub check_reads : {X : Type 0} (S : Sense X) (x : X) (op : Operation) (key : Key) (base : ℕ) (w : Waiting) (r : Result (Unit {0}) Code) → key ≡ key_of op → Reads S Any (base_named key) x base → Reads S Any waiting_of x w
    → refusal r ≡ check_of op base w → Reads S Any (op_refusal op) x (refusal r)
check_reads S x op key base w r same bases waits e = record {
  is = λ s h p. e ∙ (λ j. check_of op (bases.is s h p j) (waits.is s h p j)) ∙ ap (λ (k : Key). check_of op (base_named k s) s.waiting) same;
}

pub check_ok : {X : Type 0} (S : Sense X) (x : X) (op : Operation) (r : Result (Unit {0}) Code) (u : Unit {0}) → Reads S Any (op_refusal op) x (refusal r) → r ≡ Ok u → Reads S Any (op_refusal op) x None
check_ok S x op r u reads e = subst (λ (o : Option Code). Reads S Any (op_refusal op) x o) (ap refusal e) reads

pub check_err : {X : Type 0} (S : Sense X) (x : X) (op : Operation) (r : Result (Unit {0}) Code) (c : Code) → Reads S Any (op_refusal op) x (refusal r) → r ≡ Err c → Reads S Any (op_refusal op) x (Some c)
check_err S x op r c reads e = subst (λ (o : Option Code). Reads S Any (op_refusal op) x o) (ap refusal e) reads

pub refused_op : {X : Type 0} (S : Sense X) (x : X) (op : Operation) (records : List AuxRecord) (o : Option Code) (c : Code) → Reads S Any (op_refusal op) x o → o ≡ Some c
    → (f : Book → Book) → Answers S (Keeps f records) (execute_with f op) x (Ok (shown.Refused c)) x
refused_op S x op records o c reads e f = record {
  leads = λ s h p.
      let why : check_on op (base_of_live (live_at (key_of op) s) s) (live_at (key_of op) s) ≡ Some c = sym (reads.is s h (record {})) ∙ e in
      subst (λ (t : Tree Filter Shown). Goes S x (Ok (shown.Refused c)) x s t) (sym (refused_first f op (live_at (key_of op) s) s c why)) (s, (refl, refl), S.stays x s h, h);
}

pub free_op : {X : Type 0} (S : Sense X) (x new : X) (op : Operation) (records : List AuxRecord) (o : Option Code) (r : Result Shown CallError) → Reads S Any (op_refusal op) x o → o ≡ None
    → ((f : Book → Book) → Answers S (IsFree f op records) (execute_with f op) x r new) → (f : Book → Book) → Answers S (Keeps f records) (execute_with f op) x r new
free_op S x new op records o r reads e a f = record { leads = λ s h p. (a f).leads s h (record { passes = sym (reads.is s h (record {})) ∙ e; beside = p }) }

-- on its ask

pub live_op : {X : Type 0} (S : Sense X) (x new : X) (op : Operation) (key : Key) (records : List AuxRecord) (o : Option Ask) (ask : Ask) (r : Result Shown CallError) → key ≡ key_of op → Reads S Any (ask_at key) x o → o ≡ Some ask
    → ((f : Book → Book) (a : Live) → Answers S (IsLiveFor f op ask records a) (on_ask f op a) x r new) → (f : Book → Book) → Answers S (IsFree f op records) (execute_with f op) x r new
live_op {X} S x new op key records o ask r same asks e ans f = record { leads = λ s h p. one (live_at (key_of op) s) s refl h p (sym e ∙ asks.is s h (record {}) ∙ ap (λ (k : Key). ask_at k s) same) } where
  one : (q : Option Live) (s : Filter) → live_at (key_of op) s ≡ q → S.means x s → IsFree f op records s → Some ask ≡ option_map (λ (a : Live). a.ask) q → Goes S x r new s (on_live f op q s)
  one None s at h p z = let y : ◌≡◌ {A = Option Ask} (Some ask) None = z in absurd cc
  one (Some a) s at h p z =
      let y : ◌≡◌ {A = Option Ask} (Some ask) (Some a.ask) = z in
      let named : ask ≡ a.ask = cc in
      let passes : check_on op (base_of_live (Some a) s) (Some a) ≡ None = subst (λ (l : Option Live). check_on op (base_of_live l s) l ≡ None) at p.passes in
      (ans f a).leads s h (record { live = at; same = sym named; passes = passes; beside = p.beside })

pub dead_op : {X : Type 0} (S : Sense X) (x : X) (op : Operation) (key : Key) (records : List AuxRecord) (o : Option Ask) → key ≡ key_of op → Reads S Any (ask_at key) x o → o ≡ None
    → (f : Book → Book) → Answers S (IsFree f op records) (execute_with f op) x (Ok (shown.Refused code.StaleKey)) x
dead_op S x op key records o same asks e f = record {
  leads = λ s h p.
      let none : live_at (key_of op) s ≡ None = none_is (live_at (key_of op) s) (sym e ∙ asks.is s h (record {}) ∙ ap (λ (k : Key). ask_at k s) same) in
      subst (λ (q : Option Live). Goes S x (Ok (shown.Refused code.StaleKey)) x s (on_live f op q s)) (sym none) (s, (refl, refl), S.stays x s h, h);
}

-- by its kind
pub on_kind : {X : Type 0} (S : Sense X) (x new : X) (op kind : Operation) (ask : Ask) (records : List AuxRecord) (r : Result Shown CallError) → op ≡ kind
    → ((f : Book → Book) (a : Live) → Answers S (IsLiveFor f kind ask records a) (on_ask f kind a) x r new) → (f : Book → Book) (a : Live) → Answers S (IsLiveFor f op ask records a) (on_ask f op a) x r new
on_kind S x new op kind ask records r e ans f a = subst (λ (o : Operation). Answers S (IsLiveFor f o ask records a) (on_ask f o a) x r new) (sym e) (ans f a)

-- without records

pub plainly : {X : Type 0} (S : Sense X) (x new : X) (op : Operation) (records : List AuxRecord) (r : Result Shown CallError) → records ≡ []
    → ((f : Book → Book) → Answers S (Keeps f records) (execute_with f op) x r new) → Answers S Any (execute op) x r new
plainly S x new op records r e a =
    let b = subst (λ (l : List AuxRecord). (f : Book → Book) → Answers S (Keeps f l) (execute_with f op) x r new) e a in
    record { leads = λ s h p. (b same_book).leads s h (record { told = refl; anchors = refl; clock = refl; accesses = refl; fits = λ k. k; graves = λ n from k. k }) }
