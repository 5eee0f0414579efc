-- Bytes of a span that are here.
use Rattle.std.proofs.Common.{◌≡◌, ◌≢◌, ◌<◌, ◌+◌, ℕ, zero, suc, Bool, true, false, not, List, [], ◌∷◌, length, take, drop, refl, sym, ◌∙◌, ap, subst, arith, Option, Some, None, is_some}
use Rattle.std.specs.Prelude.{Result, Ok, Err, nat_le, slice_range, ◌&&◌, ◌||◌, ◌==◌}
use Rattle.std.specs.List.{list_all, list_any}
use Rattle.std.proofs.Math.Dec.{eqb-suc-suc, eqb-suc-zero, eqb-zero-suc}
use Rattle.std.proofs.lemmas.Bool.{eqb-true}
use Rattle.cf_ask_rule.specs.Places.{places}
use Rattle.cf_ask_rule.proofs.Covering.{all_owned}
use Rattle.cf_ask_rule.proofs.Places.{has_places}
use Rattle.cf_base.specs.declared.answers.AuxRecord.{AuxRecord}
use Rattle.cf_base.specs.declared.answers.Shown.{Shown}
use Rattle.cf_base.specs.declared.answers.Shown.TheVariants as shown
use Rattle.cf_base.specs.declared.codes.Code.TheVariants as code
use Rattle.cf_base.specs.declared.codes.CallError.{CallError}
use Rattle.cf_base.specs.declared.ids.ItemId.{ItemId}
use Rattle.cf_base.specs.declared.ids.Key.{Key}
use Rattle.cf_base.specs.declared.operations.Operation.TheVariants as operation
use Rattle.cf_base.specs.declared.spans.Span.{Span}
use Rattle.cf_base.specs.declared.waits.Ask.{Ask}
use Rattle.cf_filter_calls.specs.Operating.{IsLiveFor, holds_all, is_whole_in, leaves_none, retrieved, shows_there}
use Rattle.cf_model.specs.Arrows.{one, reading, ret, then_do, unless}
use Rattle.cf_model.specs.Books.{Book}
use Rattle.cf_model.specs.Items.{Item, is_held, is_here}
use Rattle.cf_model.specs.Operations.{as_it_is, held_in, is_outside, retrieve, retrieve_by}
use Rattle.cf_model.specs.Requests.{Leaves, Live, has_block, is_validate}
use Rattle.cf_model.specs.Settling.{settle}
use Rattle.cf_model.specs.State.{Filter}
use Rattle.cf_model.specs.Trees.{Does}
use Rattle.cf_model.specs.Words.{counting, first_of, part}
use Rattle.cf_ranges.specs.Positions.{IsRuns, contains}
use Rattle.cf_filter_steps.specs.Answering.{After, Answers, Any, Reads, Sense}
use Rattle.cf_filter_steps.specs.Finding.{HasRows}
use Rattle.cf_filter_steps.specs.Putting.{IsHere, bytes_there, held_at}
use Rattle.cf_filter_steps.proofs.Laws.{any_on, reads_on, returned, stops_first, then_on}
use Rattle.cf_table.specs.Tables.{Table, row_of}
use Rattle.cf_table.specs.Means.{Means}
use Rattle.cf_table.specs.declared.rows.Row.{Row}
use Rattle.cf_filter_steps.proofs.RowReads.{row_gone, row_there}
use Rattle.cf_filter_calls.proofs.Suited.{first_none}

-- positions of a list, one after the other

all_later : (f : ℕ → Bool) (k n : ℕ) → list_all f (counting (suc k) n) ≡ list_all (λ p. f (suc p)) (counting k n)
all_later f k zero = refl
all_later f k (suc n) = ap (λ (m : ℕ). f (suc k) && list_all f (counting m n)) (omega arith) ∙ ap (λ (b : Bool). f (suc k) && b) (all_later f (k + 1) n)

all_alike : (f g : ℕ → Bool) (xs : List ℕ) → ((x : ℕ) → f x ≡ g x) → list_all f xs ≡ list_all g xs
all_alike f g [] h = refl
all_alike f g (x ∷ xs) h = ap (λ (b : Bool). b && list_all f xs) (h x) ∙ ap (λ (b : Bool). g x && b) (all_alike f g xs h)

swap_and : (a b c : Bool) → (a && (b && c)) ≡ (b && (a && c))
swap_and true true c = refl
swap_and true false c = refl
swap_and false true c = refl
swap_and false false c = refl

whole : (k n : ℕ) (held : List (Option ℕ)) → list_all (is_held held) (counting k n) ≡ ((length (take n (drop k held)) == n) && list_all is_some (take n (drop k held)))
whole zero zero held = refl
whole zero (suc n) [] = sym (ap (λ (b : Bool). b && true) (eqb-zero-suc n))
whole zero (suc n) (x ∷ xs) =
    ap (λ (b : Bool). is_some x && b) (all_later (is_held (x ∷ xs)) 0 n ∙ whole zero n xs)
    ∙ swap_and (is_some x) (length (take n xs) == n) (list_all is_some (take n xs))
    ∙ ap (λ (b : Bool). b && (is_some x && list_all is_some (take n xs))) (sym (eqb-suc-suc (length (take n xs)) n))
whole (suc k) zero [] = refl
whole (suc k) (suc n) [] = sym (ap (λ (b : Bool). b && true) (eqb-zero-suc n))
whole (suc k) n (x ∷ xs) = all_later (is_held (x ∷ xs)) k n ∙ whole k n xs

cut_same : (s n : ℕ) (held : List (Option ℕ)) → slice_range held s (s + n) ≡ take n (drop s held)
cut_same s n held = ap (λ (m : ℕ). take m (drop s held)) (omega arith)

positive : (n : ℕ) → n ≢ 0 → 0 < n
positive zero e = absurd (e refl)
positive (suc n) e = omega arith

pub whole_none : (span : Span) (i : Item) → span.len ≡ 0 → true ≡ is_whole_in span i
whole_none span i e =
    subst (λ (m : ℕ). true ≡ ((length (slice_range i.held span.start (span.start + m)) == m) && list_all is_some (slice_range i.held span.start (span.start + m)))) (sym e)
    (ap (λ (l : List (Option ℕ)). (length l == 0) && list_all is_some l) (sym (cut_same span.start 0 i.held)))

pub whole_is : (here : List Span) (span : Span) (i : Item) (b : Bool) → IsRuns here → ((p : ℕ) → contains here p ≡ is_here i p) → span.len ≢ 0
    → b ≡ list_any (λ (r : Span). nat_le r.start span.start && nat_le (span.start + span.len) (r.start + r.len)) here → b ≡ is_whole_in span i
whole_is here span i b runs same e q =
    q ∙ sym (all_owned here span.start span.len runs (positive span.len e)) ∙ all_alike (has_block (places here)) (is_held i.held) (counting span.start span.len) (λ p. has_places here p ∙ same p)
    ∙ whole span.start span.len i.held ∙ ap (λ (l : List (Option ℕ)). (length l == span.len) && list_all is_some l) (sym (cut_same span.start span.len i.held))

-- of an item that may be there

none_whole : (span : Span) → (span.len == 0) ≡ ((length (slice_range {X = Option ℕ} [] span.start (span.start + span.len)) == span.len) && list_all is_some (slice_range {X = Option ℕ} [] span.start (span.start + span.len)))
none_whole span = one span.start span.len where
  cut : (s n : ℕ) → take n (drop {A = Option ℕ} s []) ≡ []
  cut zero zero = refl
  cut zero (suc n) = refl
  cut (suc s) zero = refl
  cut (suc s) (suc n) = refl

  zeros : (n : ℕ) → (n == 0) ≡ ((0 == n) && true)
  zeros zero = refl
  zeros (suc n) = eqb-suc-zero n ∙ sym (ap (λ (b : Bool). b && true) (eqb-zero-suc n))

  one : (s n : ℕ) → (n == 0) ≡ ((length (slice_range {X = Option ℕ} [] s (s + n)) == n) && list_all is_some (slice_range {X = Option ℕ} [] s (s + n)))
  one s n = zeros n ∙ ap (λ (l : List (Option ℕ)). (length l == n) && list_all is_some l) (sym (cut_same s n [] ∙ cut s n))

pub holds_some : {X : Type 0} (S : Sense X) (x : X) (t : Table) (id : ItemId) (row : Row) (span : Span) (b : Bool)
    → HasRows S x t → row_of t.rows id ≡ Some row → ((i : Item) → Means row i → b ≡ is_whole_in span i) → Reads S Any (holds_all id span) x b
holds_some S x t id row span b rows e h = record {
  is = λ s m p.
      let k = row_there t.rows s.volume.items id row (rows.rows s m) e in
      h k.0 k.2 ∙ sym (ap (λ (o : Option Item). whole_at span o) k.1);
} where
  whole_at : Span → Option Item → Bool
  whole_at q o = (length (slice_range (part (λ (i : Item). i.held) [] o) q.start (q.start + q.len)) == q.len) && list_all is_some (slice_range (part (λ (i : Item). i.held) [] o) q.start (q.start + q.len))

pub holds_none : {X : Type 0} (S : Sense X) (x : X) (t : Table) (id : ItemId) (span : Span) → HasRows S x t → row_of t.rows id ≡ None → Reads S Any (holds_all id span) x (span.len == 0)
holds_none S x t id span rows e = record {
  is = λ s m p.
      let k = row_gone t.rows s.volume.items id (rows.rows s m) e in
      none_whole span ∙ sym (ap (λ (o : Option Item). whole_at span o) k);
} where
  whole_at : Span → Option Item → Bool
  whole_at q o = (length (slice_range (part (λ (i : Item). i.held) [] o) q.start (q.start + q.len)) == q.len) && list_all is_some (slice_range (part (λ (i : Item). i.held) [] o) q.start (q.start + q.len))

-- the read, and the step after it

pub retrieved_on : {X : Type 0} (S : Sense X) (ask : Ask) (span : Span) (bytes : List ℕ) (u : Unit {0}) (x mid new : X)
    → Answers S (IsHere ask.item span) (one as_it_is) x (Ok u) mid → Reads S (IsHere ask.item span) (bytes_there ask.item span) x bytes → Answers S Any (settle ask.item (Leaves ask.key [])) mid (Ok u) new
    → Answers S (IsHere ask.item span) (retrieved ask span) x (Ok (shown.Retrieved bytes)) new
retrieved_on S ask span bytes u x mid new a reads b =
    reads_on S (IsHere ask.item span) (shows_there ask.item span) (leaves_none ask) x new (shown.Retrieved bytes) (Ok (shown.Retrieved bytes)) (record { is = λ s h p. ap shown.Retrieved (reads.is s h p) })
    (then_on S (IsHere ask.item span) Any (one as_it_is) (then_do (settle ask.item (Leaves ask.key [])) (ret (shown.Retrieved bytes))) x mid new u (Ok (shown.Retrieved bytes)) (λ s t p q. record {}) a
    (any_on S (settle ask.item (Leaves ask.key [])) (ret (shown.Retrieved bytes)) mid new new u (Ok (shown.Retrieved bytes)) b (returned S Any (shown.Retrieved bytes) new)))

pub retrieve_fails : {X : Type 0} (S : Sense X) (ask : Ask) (span : Span) (e : CallError) (x new : X) → Answers S (IsHere ask.item span) (one as_it_is) x (Err e) new → Answers S (IsHere ask.item span) (retrieved ask span) x (Err e) new
retrieve_fails S ask span e x new a = record {
  leads = λ s h p. (stops_first S (IsHere ask.item span) (one as_it_is) (then_do (settle ask.item (Leaves ask.key [])) (ret (shows_there ask.item span s))) x new e a).leads s h p;
}

pub settle_fails : {X : Type 0} (S : Sense X) (ask : Ask) (span : Span) (u : Unit {0}) (e : CallError) (x mid new : X) → Answers S (IsHere ask.item span) (one as_it_is) x (Ok u) mid
    → Answers S Any (settle ask.item (Leaves ask.key [])) mid (Err e) new → Answers S (IsHere ask.item span) (retrieved ask span) x (Err e) new
settle_fails S ask span u e x mid new a b = record {
  leads = λ s h p.
      (then_on S (IsHere ask.item span) Any (one as_it_is) (then_do (settle ask.item (Leaves ask.key [])) (ret (shows_there ask.item span s))) x mid new u (Err e) (λ s t p q. record {}) a
      (stops_first S Any (settle ask.item (Leaves ask.key [])) (ret (shows_there ask.item span s)) mid new e b)).leads s h p;
}

-- whether they are there

there_is : (item : ItemId) (span : Span) (s : Filter) → holds_all item span s ≡ true → IsHere item span s
there_is item span s e =
    let p = both (length (held_at item span s) == span.len) (list_all is_some (held_at item span s)) e in
    record { inside = eqb-true (length (held_at item span s)) span.len p.0; here = p.1 }
  where
    both : (a b : Bool) → (a && b) ≡ true → (a ≡ true) × (b ≡ true)
    both true b e = (refl, e)
    both false b e = let z : false ≡ true = e in absurd cc

-- the last test of a retrieval, by whether each byte is here
last_test : (outside a b : Bool) → outside ≡ false → ((outside || not a) || not b) ≡ not (a && b)
last_test false true b e = refl
last_test false false b e = refl
last_test true a b e = let z : true ≡ false = e in absurd cc

retrieve_at : {X : Type 0} (S : Sense X) (ask : Ask) (span : Span) (b c : Bool) (x new : X) (r : Result Shown CallError) (s : Filter) (key : Key) (f : Book → Book) (records : List AuxRecord) (a : Live)
    → Reads S Any (holds_all ask.item span) x b → b ≡ c → S.means x s → IsLiveFor f (operation.Retrieve key span) ask records a s
    → (t : Filter) × Does (unless shown.Refused (first_of ((not c, code.OutsideAsk) ∷ [])) (reading (held_in a span) (retrieve_by a)) s) r t × S.moved x new s t × After S x r new t
    → (t : Filter) × Does (retrieve a span s) r t × S.moved x new s t × After S x r new t
retrieve_at S ask span b c x new r s key f records a reads e h p g =
    let w = first_none (not (is_validate a.ask.kind)) code.WrongKind ((is_outside a span.start span.len, code.OutsideAsk) ∷ []) p.passes in
    let o = first_none (is_outside a span.start span.len) code.OutsideAsk [] w.1 in
    let there : c ≡ holds_all a.ask.item span s = sym e ∙ reads.is s h (record {}) ∙ ap (λ (q : Ask). holds_all q.item span s) (sym p.same) in
    let last = last_test (is_outside a span.start span.len) (length (held_at a.ask.item span s) == span.len) (list_all is_some (held_at a.ask.item span s)) o.0 in
    subst (λ (d : Bool). (t : Filter) × Does (unless shown.Refused (first_of ((d, code.WrongKind) ∷ (tests_last a s, code.OutsideAsk) ∷ [])) (reading (held_in a span) (retrieve_by a)) s) r t × S.moved x new s t × After S x r new t) (sym w.0)
    (subst (λ (d : Bool). (t : Filter) × Does (unless shown.Refused (first_of ((d, code.OutsideAsk) ∷ [])) (reading (held_in a span) (retrieve_by a)) s) r t × S.moved x new s t × After S x r new t) (ap not there ∙ sym last) g)
  where
    tests_last : Live → Filter → Bool
    tests_last a s = (is_outside a span.start span.len || not (length (held_in a span s) == span.len)) || not (list_all is_some (held_in a span s))

pub retrieve_off : {X : Type 0} (S : Sense X) (ask : Ask) (span : Span) (b : Bool) (x : X) → Reads S Any (holds_all ask.item span) x b → b ≡ false
    → (key : Key) (f : Book → Book) (records : List AuxRecord) (a : Live) → Answers S (IsLiveFor f (operation.Retrieve key span) ask records a) (retrieve a span) x (Ok (shown.Refused code.OutsideAsk)) x
retrieve_off S ask span b x reads e key f records a = record {
  leads = λ s h p. retrieve_at S ask span b false x x (Ok (shown.Refused code.OutsideAsk)) s key f records a reads e h p (s, (refl, refl), S.stays x s h, h);
}

pub retrieve_on : {X : Type 0} (S : Sense X) (ask : Ask) (span : Span) (b : Bool) (x new : X) (r : Result Shown CallError) → Reads S Any (holds_all ask.item span) x b → b ≡ true
    → Answers S (IsHere ask.item span) (retrieved ask span) x r new
    → (key : Key) (f : Book → Book) (records : List AuxRecord) (a : Live) → Answers S (IsLiveFor f (operation.Retrieve key span) ask records a) (retrieve a span) x r new
retrieve_on S ask span b x new r reads e ans key f records a = record {
  leads = λ s h p.
      let z = ans.leads s h (there_is ask.item span s (sym (reads.is s h (record {})) ∙ e)) in
      retrieve_at S ask span b true x new r s key f records a reads e h p
      (subst (λ (q : Ask). (t : Filter) × Does (retrieved q span s) r t × S.moved x new s t × After S x r new t) (sym p.same) z);
}
