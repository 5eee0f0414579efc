-- Changes that suit and find room, and a call that makes them.
use Rattle.std.proofs.Common.{◌≡◌, Bool, true, false, List, [], ◌∷◌, refl, sym, ◌∙◌, ap, subst, inl, inr, ℕ, suc, ◌+◌, ◌≤◌, length, arith}
use Rattle.std.proofs.lemmas.Bool.{le-ltb, ltb-false, or_from, or_parts}
use Rattle.std.specs.Prelude.{Result, Ok, Err, Option, Some, None, nat_lt}
use Rattle.std.specs.List.{list_any}
use Rattle.cf_base.specs.declared.answers.Shown.{Shown}
use Rattle.cf_base.specs.declared.answers.Shown.TheVariants as shown
use Rattle.cf_base.specs.declared.changes.Change.{Change}
use Rattle.cf_base.specs.declared.codes.Code.{Code}
use Rattle.cf_base.specs.declared.codes.Code.TheVariants as code
use Rattle.cf_base.specs.declared.codes.CallError.{CallError}
use Rattle.cf_base.specs.declared.codes.CallError.TheVariants.{OutOfMemory}
use Rattle.cf_model.specs.Arrows.{Arrow, then_do, unit, unless}
use Rattle.cf_model.specs.Blocks.{is_full}
use Rattle.cf_model.specs.Calls.{changing, test_of}
use Rattle.cf_model.specs.Changes.{changes, lacks_numbers, needs_id, no_blocks, no_places, no_table, put_change, why_no_room}
use Rattle.cf_model.specs.Images.{is_table_full}
use Rattle.cf_model.specs.Numbers.{most}
use Rattle.cf_model.specs.State.{Filter, Volume}
use Rattle.cf_model.specs.Trees.{Does}
use Rattle.cf_model.specs.Words.{first_of}
use Rattle.cf_filter_steps.specs.Answering.{After, Answers, Any, Reads, Sense}
use Rattle.cf_filter_steps.specs.Readings.{room_of, room_refusal}
use Rattle.cf_filter_steps.specs.declared.rooms.Room.{Room}
use Rattle.cf_filter_steps.specs.Suiting.{AreReady, ReadyAll, Suiting, SuitsAll}
use Rattle.cf_filter_steps.specs.Making.{Made}
use Rattle.cf_filter_steps.proofs.Laws.{no_memory, stops_first, then_on}

-- no refusal of room

abbrev pub three : Bool → Bool → Bool → Option Code
three a b d = first_of ((a, code.Exhausted) ∷ (b, code.TableFull) ∷ (d, code.Full) ∷ [])

pub record HasRoom (cs : List Change) (v : Volume) : Type 0 where
  pub numbers : lacks_numbers v cs ≡ false
  pub table : no_table v cs ≡ false
  pub blocks : no_blocks v cs ≡ false

three_none : (a b d : Bool) → three a b d ≡ None → (a ≡ false) × (b ≡ false) × (d ≡ false)
three_none true b d e = let z : ◌≡◌ {A = Option Code} (Some code.Exhausted) None = e in absurd cc
three_none false true d e = let z : ◌≡◌ {A = Option Code} (Some code.TableFull) None = e in absurd cc
three_none false false true e = let z : ◌≡◌ {A = Option Code} (Some code.Full) None = e in absurd cc
three_none false false false e = (refl, refl, refl)

none_three : (a b d : Bool) → a ≡ false → b ≡ false → d ≡ false → three a b d ≡ None
none_three false false false p q r = refl
none_three true b d p q r = let z : true ≡ false = p in cc
none_three false true d p q r = let z : true ≡ false = q in cc
none_three false false true p q r = let z : true ≡ false = r in cc

pub has_room : (cs : List Change) (v : Volume) → why_no_room cs v ≡ None → HasRoom cs v
has_room cs v e = let h = three_none (lacks_numbers v cs) (no_table v cs) (no_blocks v cs) e in record { numbers = h.0; table = h.1; blocks = h.2 }

places_first : (v : Volume) (n : ℕ) → no_places v (suc n) ≡ false → (no_places v 1 ≡ false) × (nat_lt most (v.place + 1 + n) ≡ false)
places_first v n e = let h : v.place + suc n ≤ most = ltb-false most (v.place + suc n) e in (le-ltb most (v.place + 1) (omega (arith, h)), le-ltb most (v.place + 1 + n) (omega (arith, h)))

first_room : (c : Change) (cs : List Change) (v : Volume) → HasRoom (c ∷ cs) v → why_no_room (c ∷ []) v ≡ None
first_room c cs v h =
    let n = or_parts (no_places v (suc (length cs))) (list_any needs_id (c ∷ cs)) h.numbers in
    let t = or_parts (is_table_full c (put_change c v).items (put_change c v).book) (no_table (put_change c v) cs) h.table in
    let b = or_parts (is_full v.clusters v.items c) (no_blocks (put_change c v) cs) h.blocks in
    none_three (lacks_numbers v (c ∷ [])) (no_table v (c ∷ [])) (no_blocks v (c ∷ []))
    (or_from (no_places v 1) (list_any needs_id (c ∷ [])) (places_first v (length cs) n.0).0 (or_from (needs_id c) false (or_parts (needs_id c) (list_any needs_id cs) n.1).0 refl))
    (or_from (is_table_full c (put_change c v).items (put_change c v).book) false t.0 refl)
    (or_from (is_full v.clusters v.items c) false b.0 refl)

rest_room : (c : Change) (cs : List Change) (v : Volume) → HasRoom (c ∷ cs) v → HasRoom cs (put_change c v)
rest_room c cs v h =
    let n = or_parts (no_places v (suc (length cs))) (list_any needs_id (c ∷ cs)) h.numbers in record {
      numbers = or_from (no_places (put_change c v) (length cs)) (list_any needs_id cs) (places_first v (length cs) n.0).1 (or_parts (needs_id c) (list_any needs_id cs) n.1).1;
      table = (or_parts (is_table_full c (put_change c v).items (put_change c v).book) (no_table (put_change c v) cs) h.table).1;
      blocks = (or_parts (is_full v.clusters v.items c) (no_blocks (put_change c v) cs) h.blocks).1;
    }

pub ready_all : (cs : List Change) (v : Volume) → HasRoom cs v → SuitsAll cs v → AreReady cs v
ready_all [] v h k = record {}
ready_all (c ∷ cs) v h k = (record { room = first_room c cs v h; suits = k.0 }, ready_all cs (put_change c v) (rest_room c cs v h) k.1)

-- a call that makes changes, where they find room

pub room_on : {X : Type 0} (S : Sense X) (cs : List Change) (answer : Arrow Filter Shown) (x mid new : X) (u : Unit {0}) (r : Result Shown CallError)
    → Reads S (Suiting cs) (room_refusal cs) x None → Answers S (ReadyAll cs) (changes cs) x (Ok u) mid → Answers S Any answer mid r new → Answers S (Suiting cs) (changing cs answer) x r new
room_on S cs answer x mid new u r reads h k = record {
  leads = λ s i p.
      let e : None ≡ why_no_room cs s.volume = reads.is s i p in
      subst (λ (o : Option Code). (t : Filter) × Does (unless shown.Refused (first_of (test_of o)) (then_do (changes cs) answer) s) r t × S.moved x new s t × After S x r new t) e
      ((then_on S (ReadyAll cs) Any (changes cs) answer x mid new u r (λ a b q z. record {}) h k).leads s i (ready_all cs s.volume (has_room cs s.volume (sym e)) p));
}

pub room_stops : {X : Type 0} (S : Sense X) (cs : List Change) (answer : Arrow Filter Shown) (x new : X) (f : CallError)
    → Reads S (Suiting cs) (room_refusal cs) x None → Answers S (ReadyAll cs) (changes cs) x (Err f) new → Answers S (Suiting cs) (changing cs answer) x (Err f) new
room_stops S cs answer x new f reads h = record {
  leads = λ s i p.
      let e : None ≡ why_no_room cs s.volume = reads.is s i p in
      subst (λ (o : Option Code). (t : Filter) × Does {A = Shown} (unless shown.Refused (first_of (test_of o)) (then_do (changes cs) answer) s) (Err f) t × S.moved x new s t × After {A = Shown} S x (Err f) new t) e
      ((stops_first S (ReadyAll cs) (changes cs) answer x new f h).leads s i (ready_all cs s.volume (has_room cs s.volume (sym e)) p));
}

pub room_off : {X : Type 0} (S : Sense X) (cs : List Change) (answer : Arrow Filter Shown) (x : X) (c : Code)
    → Reads S (Suiting cs) (room_refusal cs) x (Some c) → Answers S (Suiting cs) (changing cs answer) x (Ok (shown.Refused c)) x
room_off S cs answer x c reads = record {
  leads = λ s i p.
      subst (λ (o : Option Code). (t : Filter) × Does {A = Shown} (unless shown.Refused (first_of (test_of o)) (then_do (changes cs) answer) s) (Ok (shown.Refused c)) t × S.moved x x s t × After {A = Shown} S x (Ok (shown.Refused c)) x t) (reads.is s i p)
      (s, (refl, refl), S.stays x s i, i);
}

-- the same by what was made

pub made_on : {X : Type 0} (S : Sense X) (cs : List Change) (answer : Arrow Filter Shown) (x mid new : X) (r : Result Shown CallError)
    → Made S cs x (Ok None) mid → Answers S Any answer mid r new → Answers S (Suiting cs) (changing cs answer) x r new
made_on S cs answer x mid new r m k = room_on S cs answer x mid new unit r m.0 m.1 k

pub made_off : {X : Type 0} (S : Sense X) (cs : List Change) (answer : Arrow Filter Shown) (x new : X) (c : Code)
    → Made S cs x (Ok (Some c)) new → Answers S (Suiting cs) (changing cs answer) x (Ok (shown.Refused c)) new
made_off S cs answer x new c m = subst (λ (y : _). Answers S (Suiting cs) (changing cs answer) x (Ok (shown.Refused c)) y) (sym m.1) (room_off S cs answer x c m.0)

pub made_fails : {X : Type 0} (S : Sense X) (cs : List Change) (answer : Arrow Filter Shown) (x new : X) (e : CallError)
    → Made S cs x (Err e) new → Answers S (Suiting cs) (changing cs answer) x (Err e) new
made_fails {X} S cs answer x new e (inl m) = subst (λ (f : CallError). Answers S (Suiting cs) (changing cs answer) x (Err f) new) (sym m.0) (subst (λ (y : X). Answers S (Suiting cs) (changing cs answer) x (Err OutOfMemory) y) (sym m.1) (no_memory S (Suiting cs) (changing cs answer) x))
made_fails S cs answer x new e (inr m) = room_stops S cs answer x new e m.0 m.1

pub refusal_by : {X : Type 0} (S : Sense X) (cs : List Change) (x : X) (room : Room) (why : Option Code)
    → Reads S (Suiting cs) (room_of cs) x room → why ≡ three room.no_numbers room.no_table room.no_blocks → Reads S (Suiting cs) (room_refusal cs) x why
refusal_by S cs x room why reads e = record { is = λ s h p. e ∙ ap (λ (r : Room). three r.no_numbers r.no_table r.no_blocks) (reads.is s h p) }
