-- Loading record after record, and what is kept of a book.
use Rattle.std.proofs.Common.{◌≡◌, Bool, true, false, List, [], ◌∷◌, ◌++◌, Ok, Err, refl, sym, ap, ◌∙◌, subst, append_assoc}
use Rattle.std.proofs.lemmas.Bool.{cond-false, cond-true}
use Rattle.std.proofs.lemmas.List.{append-nil}
use Rattle.cf_collections.specs.Split.{front}
use Rattle.cf_base.specs.declared.answers.AuxRecord.{AuxRecord}
use Rattle.cf_base.specs.declared.codes.CallError.{CallError}
use Rattle.cf_base.specs.declared.codes.CallError.TheVariants as fail
use Rattle.cf_model.specs.Books.{Book, no_book}
use Rattle.cf_engine_queue.specs.Records.{Loads, Reads, SayAll, Says, heard, heard_all}
use Rattle.cf_engine_queue.specs.declared.records.Record.{Record}

-- lists of records

pub say_append : (rs ss : List AuxRecord) (xs ys : List Record) → SayAll rs xs → SayAll ss ys → SayAll (rs ++ ss) (xs ++ ys)
say_append [] ss [] ys h k = k
say_append (r ∷ rs) ss (x ∷ xs) ys h k = (h.0, say_append rs ss xs ys h.1 k)
say_append [] ss (x ∷ xs) ys h k = absurd h
say_append (r ∷ rs) ss [] ys h k = absurd h

pub heard_append : (xs ys : List Record) (b : Book) → heard_all (xs ++ ys) b ≡ heard_all ys (heard_all xs b)
heard_append [] ys b = refl
heard_append (x ∷ xs) ys b = heard_append xs ys (heard x b)

-- The records in front of those that are left were heard. What is said of the rest is said of all behind it, and the other way round.
pub record HasHeard (records left : List AuxRecord) (queue : Book) : Type 0 where
  pub begun : List Record
  pub joins : (rest : List Record) → SayAll left rest → SayAll records (begun ++ rest)
  pub leaves : (xs : List Record) → SayAll records xs → (rest : List Record) × SayAll left rest
  pub queue_is : queue ≡ heard_all begun no_book

pub heard_none : (records left : List AuxRecord) (queue : Book) → left ≡ records → queue ≡ no_book → HasHeard records left queue
heard_none records left queue same h = record {
  begun = [];
  joins = λ rest s. subst (λ (l : List AuxRecord). SayAll l rest) same s;
  leaves = λ xs s. (xs, subst (λ (l : List AuxRecord). SayAll l xs) (sym same) s);
  queue_is = h;
}

-- what is left of those that pass a test

pub passes_first : (p : AuxRecord → Bool) (left rest : List AuxRecord) (r : AuxRecord) → left ≡ r ∷ rest → p r ≡ true → front p left ≡ r ∷ front p rest
passes_first p left rest r is hit = ap (front p) is ∙ cond-true (p r) _ _ hit

pub stops_first : (p : AuxRecord → Bool) (left rest : List AuxRecord) (r : AuxRecord) → left ≡ r ∷ rest → p r ≡ false → front p left ≡ []
stops_first p left rest r is miss = ap (front p) is ∙ cond-false (p r) _ _ miss

tail_said : (r : AuxRecord) (rs : List AuxRecord) (xs : List Record) → SayAll (r ∷ rs) xs → (rest : List Record) × SayAll rs rest
tail_said r rs [] h = absurd h
tail_said r rs (x ∷ xs) h = (xs, h.1)

head_said : (r : AuxRecord) (rs : List AuxRecord) (xs : List Record) → SayAll (r ∷ rs) xs → (x : Record) × Says r x
head_said r rs [] h = absurd h
head_said r rs (x ∷ xs) h = (x, h.0)

pub heard_more : (records left after : List AuxRecord) (r : AuxRecord) (x : Record) (queue new : Book) → HasHeard records left queue → left ≡ r ∷ after → Says r x → new ≡ heard x queue → HasHeard records after new
heard_more records left after r x queue new h parts says step = record {
  begun = h.begun ++ x ∷ [];
  joins = λ (rest : List Record) (s : SayAll after rest).
      (let all : SayAll records (h.begun ++ x ∷ rest) = h.joins (x ∷ rest) (subst (λ (l : List AuxRecord). SayAll l (x ∷ rest)) (sym parts) (says, s)) in
      subst (SayAll records) (sym (append_assoc h.begun (x ∷ []) rest)) all);
  leaves = λ (xs : List Record) (s : SayAll records xs).
      (let rest = h.leaves xs s in tail_said r after rest.0 (subst (λ (l : List AuxRecord). SayAll l rest.0) parts rest.1));
  queue_is = step ∙ ap (heard x) h.queue_is ∙ sym (heard_append h.begun (x ∷ []) no_book);
}

pub heard_stops : (records left after : List AuxRecord) (r : AuxRecord) (queue : Book) (e : CallError) → HasHeard records left queue → left ≡ r ∷ after → Reads {X = Record} (Says r) (Err e) → Loads records (Err e)
heard_stops records left after r queue (fail.No c) h parts reads = (
  reads.0,
  λ (xs : List Record) (s : SayAll records xs).
      (let rest = h.leaves xs s in
      let first = head_said r after rest.0 (subst (λ (l : List AuxRecord). SayAll l rest.0) parts rest.1) in
      reads.1 first.0 first.1),
)
heard_stops records left after r queue fail.OutOfMemory h parts reads = tt

pub heard_them : (records left : List AuxRecord) (queue : Book) → HasHeard records left queue → left ≡ [] → Loads records (Ok queue)
heard_them records left queue h none =
    let all : SayAll records (h.begun ++ []) = h.joins [] (subst (λ (l : List AuxRecord). SayAll l []) (sym none) tt) in
    (h.begun, subst (SayAll records) (append-nil h.begun) all, h.queue_is)
