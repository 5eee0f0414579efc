-- Writes and sizes of open files.
use Rattle.std.proofs.Common.{◌≡◌, Bool, true, false, not, List, [], ◌∷◌, refl, sym, ◌∙◌, ap, subst, ℕ, ◌+◌, ◌≤◌, length, Option, Some, None}
use Rattle.std.proofs.lemmas.Bool.{le-ltb, ltb-false}
use Rattle.std.specs.Prelude.{Result, Ok, Err, MatchOption, nat_lt, ◌==◌}
use Rattle.cf_base.specs.declared.answers.Shown.{Shown}
use Rattle.cf_base.specs.declared.answers.Shown.TheVariants as shown
use Rattle.cf_base.specs.declared.changes.Change.{Change}
use Rattle.cf_base.specs.declared.changes.Change.TheVariants as change
use Rattle.cf_base.specs.declared.codes.Code.{Code}
use Rattle.cf_base.specs.declared.codes.Code.TheVariants as code
use Rattle.cf_base.specs.declared.codes.CallError.{CallError}
use Rattle.cf_base.specs.declared.ids.Handle.{Handle}
use Rattle.cf_base.specs.declared.ids.ItemId.{ItemId}
use Rattle.cf_filter_calls.specs.Handles.{PutsIn, put_in, sized_already}
use Rattle.cf_model.specs.Arrows.{Arrow, noted, reading, then_do, unless}
use Rattle.cf_model.specs.Books.{with_access}
use Rattle.cf_model.specs.Calls.{has_size, room_tests, size_at, size_item, size_now, size_tests, test_of, write_item, write_now, write_tests}
use Rattle.cf_model.specs.Changes.{change_with, why_no_room}
use Rattle.cf_model.specs.Items.{Item, item_of}
use Rattle.cf_model.specs.Operations.{checked, done}
use Rattle.cf_model.specs.Requests.{Nothing}
use Rattle.cf_model.specs.Settling.{accessed, settle}
use Rattle.cf_model.specs.Soundness.{Each}
use Rattle.cf_model.specs.State.{Filter, Open}
use Rattle.cf_model.specs.Trees.{Does, Tree}
use Rattle.cf_model.specs.Waits.{on_handle, on_open, opened_by}
use Rattle.cf_model.specs.Numbers.{same_key}
use Rattle.cf_model.specs.Words.{first_of, when}
use Rattle.cf_filter_steps.specs.Answering.{After, Answers, Any, Reads, Sense}
use Rattle.cf_filter_steps.specs.Good.{IsFileIn}
use Rattle.cf_filter_steps.specs.Putting.{IsFile, ReadyOn}
use Rattle.cf_filter_steps.specs.Readings.{item_opened, opened_item, room_refusal}
use Rattle.cf_filter_steps.specs.Suiting.{Suiting, Suits}
use Rattle.cf_filter_steps.proofs.Laws.{any_on, returned, stops_first, then_on}
use Rattle.cf_filter_steps.proofs.LookUps.{of_found}
use Rattle.cf_filter_calls.proofs.Suited.{each_at}

-- a handle leads to a file

pub handle_file : {X : Type 0} (S : Sense X) (h : Handle) (f : ItemId → Arrow Filter Shown) (o : Option ItemId) (item : ItemId) (x new : X) (r : Result Shown CallError)
    → Reads S Any (opened_item h) x o → o ≡ Some item → Answers S (IsFile item) (f item) x r new → Answers S Any (on_handle h f) x r new
handle_file {X} S h f o item x new r reads e a = record { leads = λ s i p. one (opened_by h s) (sym e ∙ reads.is s i p) s i refl } where
  one : (q : Option Open) → Some item ≡ item_opened q → (s : Filter) → S.means x s → opened_by h s ≡ q → (t : Filter) × Does (on_open f q s) r t × S.moved x new s t × After S x r new t
  one None z s i w = let y : ◌≡◌ {A = Option ItemId} (Some item) None = z in absurd cc
  one (Some p) z s i w =
      let same : item ≡ p.item = cc in
      let there : IsFileIn s.volume.items p.item = of_found (λ (k : Open). IsFileIn s.volume.items k.item) (λ (k : Open). same_key k.handle.0 h.0) s.handles p (S.good x s i).files w in
      subst (λ (k : ItemId). (t : Filter) × Does (f k s) r t × S.moved x new s t × After S x r new t) same
      (a.leads s i (subst (λ (k : ItemId). IsFileIn s.volume.items k) (sym same) there))

-- room for changes

pub room_on : {X : Type 0} (S : Sense X) (P Q : Filter → Type 0) (cs : List Change) (f : Arrow Filter Shown) (why : Option Code) (x new : X) (r : Result Shown CallError)
    → Reads S (Suiting cs) (room_refusal cs) x why → why ≡ None → ((s : Filter) → P s → Suiting cs s) → ((s : Filter) → P s → why_no_room cs s.volume ≡ None → Q s)
    → Answers S Q f x r new → Answers S P (checked (room_tests cs) f) x r new
room_on S P Q cs f why x new r reads e suit ready a = record {
  leads = λ s i p.
      let free : None ≡ why_no_room cs s.volume = sym e ∙ reads.is s i (suit s p) in
      subst (λ (o : Option Code). (t : Filter) × Does (unless shown.Refused (first_of (test_of o)) f s) r t × S.moved x new s t × After S x r new t) free (a.leads s i (ready s p (sym free)));
}

pub room_off : {X : Type 0} (S : Sense X) (P : Filter → Type 0) (cs : List Change) (f : Arrow Filter Shown) (why : Option Code) (k : Code) (x : X)
    → Reads S (Suiting cs) (room_refusal cs) x why → why ≡ Some k → ((s : Filter) → P s → Suiting cs s) → Answers S P (checked (room_tests cs) f) x (Ok (shown.Refused k)) x
room_off S P cs f why k x reads e suit = record {
  leads = λ s i p.
      subst (λ (o : Option Code). (t : Filter) × Does {A = Shown} (unless shown.Refused (first_of (test_of o)) f s) (Ok (shown.Refused k)) t × S.moved x x s t × After {A = Shown} S x (Ok (shown.Refused k)) x t)
      (sym e ∙ reads.is s i (suit s p)) (s, (refl, refl), S.stays x s i, i);
}

-- a write or a size

puts_suit : (item : ItemId) (c : Change) (s : Filter) → PutsIn item c s → Suiting (c ∷ []) s
puts_suit item c s p = (p.suits, record {})

puts_ready : (item : ItemId) (c : Change) (s : Filter) → PutsIn item c s → why_no_room (c ∷ []) s.volume ≡ None → ReadyOn item c s
puts_ready item c s p e = record { ready = record { room = e; suits = p.suits }; file = p.file }

pub put_on : {X : Type 0} (S : Sense X) (item : ItemId) (c : Change) (cs : List Change) (why : Option Code) (x new : X) (r : Result Shown CallError)
    → cs ≡ c ∷ [] → Reads S (Suiting cs) (room_refusal cs) x why → why ≡ None → Answers S (ReadyOn item c) (write_now item c) x r new → Answers S (PutsIn item c) (put_in item c) x r new
put_on S item c cs why x new r same reads e a =
    room_on S (PutsIn item c) (ReadyOn item c) (c ∷ []) (write_now item c) why x new r (subst (λ (ds : List Change). Reads S (Suiting ds) (room_refusal ds) x why) same reads) e (puts_suit item c) (puts_ready item c) a

pub put_off : {X : Type 0} (S : Sense X) (item : ItemId) (c : Change) (cs : List Change) (why : Option Code) (k : Code) (x : X)
    → cs ≡ c ∷ [] → Reads S (Suiting cs) (room_refusal cs) x why → why ≡ Some k → Answers S (PutsIn item c) (put_in item c) x (Ok (shown.Refused k)) x
put_off S item c cs why k x same reads e =
    room_off S (PutsIn item c) (c ∷ []) (write_now item c) why k x (subst (λ (ds : List Change). Reads S (Suiting ds) (room_refusal ds) x why) same reads) e (puts_suit item c)

pub put_then : {X : Type 0} (S : Sense X) (item : ItemId) (c : Change) (x mid new : X) (u v : Unit {0})
    → Answers S (ReadyOn item c) (change_with (with_access item) c) x (Ok u) mid → Answers S Any (settle item Nothing) mid (Ok v) new → Answers S (ReadyOn item c) (write_now item c) x (Ok shown.Done) new
put_then S item c x mid new u v a b =
    then_on S (ReadyOn item c) Any (change_with (with_access item) c) (then_do (settle item Nothing) done) x mid new u (Ok shown.Done) (λ s t p q. record {}) a
    (any_on S (settle item Nothing) done mid new new v (Ok shown.Done) b (returned S Any shown.Done new))

pub put_fails : {X : Type 0} (S : Sense X) (item : ItemId) (c : Change) (x mid new : X) (u : Unit {0}) (e : CallError)
    → Answers S (ReadyOn item c) (change_with (with_access item) c) x (Ok u) mid → Answers S Any (settle item Nothing) mid (Err e) new → Answers S (ReadyOn item c) (write_now item c) x (Err e) new
put_fails S item c x mid new u e a b =
    then_on S (ReadyOn item c) Any (change_with (with_access item) c) (then_do (settle item Nothing) done) x mid new u (Err e) (λ s t p q. record {}) a (stops_first S Any (settle item Nothing) done mid new e b)

-- not too large

far_off : {X : Type 0} (S : Sense X) (P : Filter → Type 0) (end : ℕ) (cs : List Change) (f : Arrow Filter Shown) (x new : X) (r : Result Shown CallError)
    → nat_lt 16777216 end ≡ false → Answers S P (checked (room_tests cs) f) x r new → Answers S P (checked (write_tests end cs) f) x r new
far_off S P end cs f x new r e a = record {
  leads = λ s i p. subst (λ (b : Bool). (t : Filter) × Does (unless shown.Refused (first_of ((b, code.TooLarge) ∷ room_tests cs s)) f s) r t × S.moved x new s t × After S x r new t) (sym e) (a.leads s i p);
}

-- a file has what its item has
file_each : {X : Type 0} (S : Sense X) (x : X) (item : ItemId) (s : Filter) → S.means x s → IsFile item s → (P : Item → Type 0) → ((i : Item) → i.directory ≡ false → P i) → Each item P s.volume.items
file_each S x item s h f P q = one (item_of s.volume.items item) refl f where
  one : (o : Option Item) → item_of s.volume.items item ≡ o → MatchOption o ⊥ (λ i. i.directory ≡ false) → Each item P s.volume.items
  one None e k = absurd k
  one (Some i) e k = each_at 1 P item s.volume.items i (S.good x s h).volume.tree.order e (q i k)

known_file : {X : Type 0} (S : Sense X) (item : ItemId) (c : Change) (x new : X) (r : Result Shown CallError) → ((s : Filter) → S.means x s → IsFile item s → Suits c s.volume)
    → Answers S (PutsIn item c) (put_in item c) x r new → Answers S (IsFile item) (put_in item c) x r new
known_file S item c x new r suit a = record { leads = λ s i p. a.leads s i (record { suits = suit s i p; file = p }) }

write_suits : {X : Type 0} (S : Sense X) (x : X) (item : ItemId) (at : ℕ) (bytes : List ℕ) → nat_lt 16777216 (at + length bytes) ≡ false → (s : Filter) → S.means x s → IsFile item s → Suits (change.Write item at bytes) s.volume
write_suits S x item at bytes e s h f = record {
  fits = λ k d i q. ltb-false 16777216 (at + length bytes) e;
  needs = file_each S x item s h f (λ i. i.directory ≡ false) (λ i q. q);
  plants = record {};
  lasts = record {};
}

size_suits : {X : Type 0} (S : Sense X) (x : X) (item : ItemId) (n : ℕ) → n ≤ 16777216 → (s : Filter) → S.means x s → IsFile item s → Suits (change.Size item n) s.volume
size_suits S x item n e s h f = record {
  fits = λ k d i q. e;
  needs = file_each S x item s h f (λ i. i.directory ≡ false) (λ i q. q);
  plants = record {};
  lasts = record {};
}

-- sizes

pub size_is : {X : Type 0} (S : Sense X) (item : ItemId) (n now : ℕ) (x : X) → Reads S Any (size_at item) x now → Reads S Any (has_size item n) x (now == n)
size_is S item n now x reads = record { is = λ s i p. ap (λ (k : ℕ). k == n) (reads.is s i p) }

-- the refusals of a size, by whether the file has it
abbrev sizes_at : ItemId → ℕ → Bool → Filter → List (Bool × Code)
sizes_at item n b s = write_tests n (when (not b) (change.Size item n ∷ [])) s

pub same_rest : (o : Option Code) (f g : Arrow Filter Shown) (s : Filter) → f s ≡ g s → unless shown.Refused o f s ≡ unless shown.Refused o g s
same_rest None f g s e = e
same_rest (Some c) f g s e = refl

size_by : {X : Type 0} (S : Sense X) (item : ItemId) (n : ℕ) (b : Bool) (x new : X) (r : Result Shown CallError)
    → Reads S Any (has_size item n) x b → ((s : Filter) → S.means x s → IsFile item s → (t : Filter) × Does (unless shown.Refused (first_of (sizes_at item n b s)) (size_now item n b) s) r t × S.moved x new s t × After S x r new t)
    → Answers S (IsFile item) (size_item n item) x r new
size_by S item n b x new r reads a = record {
  leads = λ s i p.
      subst (λ (q : Tree Filter Shown). (t : Filter) × Does q r t × S.moved x new s t × After S x r new t) (same_rest (first_of (size_tests item n s)) (size_now item n (has_size item n s)) (reading (has_size item n) (size_now item n)) s refl)
      (subst (λ (c : Bool). (t : Filter) × Does (unless shown.Refused (first_of (sizes_at item n c s)) (size_now item n c) s) r t × S.moved x new s t × After S x r new t) (reads.is s i (record {})) (a s i p));
}

pub size_same : {X : Type 0} (S : Sense X) (item : ItemId) (n : ℕ) (b : Bool) (x new : X) (r : Result Shown CallError)
    → n ≤ 16777216 → Reads S Any (has_size item n) x b → b ≡ true → Answers S (IsFile item) (sized_already item) x r new → Answers S (IsFile item) (size_item n item) x r new
size_same S item n b x new r small reads e a =
    size_by S item n true x new r (subst (λ (c : Bool). Reads S Any (has_size item n) x c) e reads)
    (far_off S (IsFile item) n [] (then_do (noted (accessed item)) done) x new r (le-ltb 16777216 n small) a).leads

pub size_new : {X : Type 0} (S : Sense X) (item : ItemId) (n : ℕ) (b : Bool) (x new : X) (r : Result Shown CallError)
    → n ≤ 16777216 → Reads S Any (has_size item n) x b → b ≡ false → Answers S (PutsIn item (change.Size item n)) (put_in item (change.Size item n)) x r new → Answers S (IsFile item) (size_item n item) x r new
size_new S item n b x new r small reads e a =
    size_by S item n false x new r (subst (λ (c : Bool). Reads S Any (has_size item n) x c) e reads)
    (far_off S (IsFile item) n (change.Size item n ∷ []) (write_now item (change.Size item n)) x new r (le-ltb 16777216 n small) (known_file S item (change.Size item n) x new r (size_suits S x item n small) a)).leads

-- a write

pub write_on : {X : Type 0} (S : Sense X) (at : ℕ) (bytes : List ℕ) (item : ItemId) (x new : X) (r : Result Shown CallError)
    → (length bytes == 0) ≡ false → nat_lt 16777216 (at + length bytes) ≡ false → Answers S (PutsIn item (change.Write item at bytes)) (put_in item (change.Write item at bytes)) x r new → Answers S (IsFile item) (write_item at bytes item) x r new
write_on S at [] item x new r q e a = let z : true ≡ false = q in absurd cc
write_on S at (b ∷ bs) item x new r q e a =
    far_off S (IsFile item) (at + length (b ∷ bs)) (change.Write item at (b ∷ bs) ∷ []) (write_now item (change.Write item at (b ∷ bs))) x new r e
    (known_file S item (change.Write item at (b ∷ bs)) x new r (write_suits S x item at (b ∷ bs) e) a)
