-- Entries that come as one.
use Rattle.std.proofs.Common.{◌≡◌, ◌≤◌, ◌<◌, ◌+◌, ◌++◌, ℕ, Bool, true, false, cond, not, List, [], ◌∷◌, length, refl, sym, ◌∙◌, ap, subst, arith, Option, Some, None}
use Rattle.std.proofs.lemmas.Bool.{and_parts, ltb-false, leb-false, or_parts}
use Rattle.std.specs.Prelude.{Result, Ok, nat_le, nat_lt, ◌&&◌, ◌||◌}
use Rattle.cf_base.specs.declared.answers.AuxRecord.{AuxRecord}
use Rattle.cf_base.specs.declared.answers.Shown.{Shown}
use Rattle.cf_base.specs.declared.answers.Shown.TheVariants as shown
use Rattle.cf_base.specs.declared.changes.Change.{Change}
use Rattle.cf_base.specs.declared.codes.Code.{Code}
use Rattle.cf_base.specs.declared.codes.Code.TheVariants as code
use Rattle.cf_base.specs.declared.codes.CallError.{CallError}
use Rattle.cf_base.specs.declared.ids.ItemId.{ItemId}
use Rattle.cf_base.specs.declared.ids.Key.{Key}
use Rattle.cf_base.specs.declared.ids.Usn.{Usn}
use Rattle.cf_base.specs.declared.operations.NewItem.{NewItem}
use Rattle.cf_base.specs.declared.operations.Operation.TheVariants as operation
use Rattle.cf_base.specs.declared.policies.Policy.{Policy}
use Rattle.cf_base.specs.declared.waits.Ask.{Ask}
use Rattle.cf_base.specs.declared.waits.Cause.TheVariants as cause
use Rattle.cf_filter_calls.specs.Consenting.{finished_by, finished_now}
use Rattle.cf_filter_calls.specs.Entering.{HasPlace, IsListable, IsOpenList, are_names, entered, entered_by, entry_code, has_bytes_to_fetch, has_large, has_long_identity, is_too_deep, list_code, list_refusal, list_tests, listed_by, listed_changes, listed_tests, put_listed}
use Rattle.cf_filter_calls.specs.Moved.{is_unlisted, is_unlisted_at}
use Rattle.cf_filter_calls.specs.Operating.{IsLiveFor, tests_on}
use Rattle.cf_model.specs.Arrows.{Arrow, then_do, unless}
use Rattle.cf_model.specs.Books.{Book}
use Rattle.cf_model.specs.Calls.{number_next}
use Rattle.cf_model.specs.Changes.{lacks_numbers, next_number, no_places}
use Rattle.cf_model.specs.Items.{Item, item_of}
use Rattle.cf_model.specs.LookUp.{depth_at}
use Rattle.cf_model.specs.Operations.{changes_listed, changes_with, done, entries, entries_deed, is_twice, no_table_listed}
use Rattle.cf_model.specs.Requests.{Live}
use Rattle.cf_model.specs.Settling.{settle}
use Rattle.cf_model.specs.State.{Filter}
use Rattle.cf_model.specs.Texts.{is_name}
use Rattle.cf_model.specs.Trees.{Tree}
use Rattle.cf_model.specs.Words.{first_of, is_empty, part}
use Rattle.cf_filter_steps.specs.Answering.{Answers, Any, Reads, Sense}
use Rattle.cf_filter_steps.specs.Finding.{HasRows}
use Rattle.cf_filter_steps.specs.Good.{Every, IsGood}
use Rattle.cf_filter_steps.specs.Listing.{Listing, ReadyListed, room_listed}
use Rattle.cf_filter_steps.specs.Readings.{next_place, policy_of}
use Rattle.cf_filter_steps.specs.declared.rooms.Room.{Room}
use Rattle.cf_table.specs.Tables.{Table}
use Rattle.cf_tree.specs.Lines.{line_in}
use Rattle.cf_tree.specs.Trees.{BeginWithRoot}
use Rattle.cf_tree.proofs.Heights.{depth_is}
use Rattle.cf_tree.proofs.WayUp.{line_is}
use Rattle.cf_filter_calls.proofs.Listed.{put_alike}
use Rattle.cf_filter_calls.proofs.ListsSuit.{CanList, IsGoodEntry, all_free, ends_in, entries_are}
use Rattle.cf_filter_calls.proofs.Suited.{first_none, not_false}
use Rattle.cf_filter_calls.proofs.Transferred.{Goes, past}

-- the refusals of a list

pub deep_some : {X : Type 0} (S : Sense X) (x : X) (t : Table) (dir : ItemId) (list : List NewItem) (any : Bool) (n : ℕ) (b : Bool) → HasRows S x t → any ≡ not (is_empty list) → any ≡ true
    → n ≡ length (line_in 32 t.rows dir) → b ≡ nat_le 32 n → Reads S Any (is_too_deep dir list) x b
deep_some S x t dir list any n b rows e q d r = record {
  is = λ s h p.
      r ∙ ap (λ (m : ℕ). nat_le 32 m) (d ∙ ap (λ (l : List ℕ). length l) (line_is 32 t.rows s.volume.items dir (rows.rows s h) (S.good x s h).volume.tree (omega arith)))
      ∙ sym (ap (λ (c : Bool). c && nat_le 32 (depth_at s.volume.items dir)) (sym e ∙ q));
}

pub deep_none : {X : Type 0} (S : Sense X) (x : X) (dir : ItemId) (list : List NewItem) (any : Bool) → any ≡ not (is_empty list) → any ≡ false → Reads S Any (is_too_deep dir list) x false
deep_none S x dir list any e q = record { is = λ s h p. sym (ap (λ (c : Bool). c && nat_le 32 (depth_at s.volume.items dir)) (sym e ∙ q)) }

code_is : (named twice long large fetched deep : Bool) → list_code named (entry_code twice long large fetched) deep
    ≡ first_of ((not named, code.BadPath) ∷ (twice, code.Exists) ∷ (long, code.IdentityTooLong) ∷ (large, code.TooLarge) ∷ (fetched, code.PolicyDenied) ∷ (deep, code.TooDeep) ∷ [])
code_is true true long large fetched deep = refl
code_is false true long large fetched deep = refl
code_is true false true large fetched deep = refl
code_is false false true large fetched deep = refl
code_is true false false true fetched deep = refl
code_is false false false true fetched deep = refl
code_is true false false false true deep = refl
code_is false false false false true deep = refl
code_is true false false false false deep = refl
code_is false false false false false deep = refl

pub list_reads : {X : Type 0} (S : Sense X) (x : X) (dir : ItemId) (list : List NewItem) (named deep : Bool) (policy : Policy) (why first : Option Code) → named ≡ are_names list → Reads S Any policy_of x policy
    → why ≡ entry_code (is_twice list) (has_long_identity list) (has_large list) (has_bytes_to_fetch policy list) → Reads S Any (is_too_deep dir list) x deep → first ≡ list_code named why deep → Reads S Any (list_refusal dir list) x first
list_reads S x dir list named deep policy why first n pol w d e = record {
  is = λ s h p.
      e ∙ (λ j. list_code (n j) (w j) (d.is s h p j)) ∙ ap (λ (q : Policy). list_code (are_names list) (entry_code (is_twice list) (has_long_identity list) (has_large list) (has_bytes_to_fetch q list)) (is_too_deep dir list s)) (pol.is s h p)
      ∙ code_is (are_names list) (is_twice list) (has_long_identity list) (has_large list) (has_bytes_to_fetch s.policy list) (is_too_deep dir list s);
}

-- room

pub listed_off : {X : Type 0} (S : Sense X) (x : X) (ask : Ask) (cs : List Change) (records : List AuxRecord) (room : Room) (why : Option Code) (c : Code) → ((f : Book → Book) → Reads S (Listing f ask.item cs records) (room_listed f cs) x room)
    → why ≡ first_of ((room.no_table, code.TableFull) ∷ (room.no_numbers, code.Exhausted) ∷ []) → why ≡ Some c → (f : Book → Book) → Answers S (Listing f ask.item cs records) (put_listed f ask cs) x (Ok (shown.Refused c)) x
listed_off S x ask cs records room why c reads e q f = record {
  leads = λ s h p.
      let z : Some c ≡ first_of (listed_tests f cs s) = sym q ∙ e ∙ ap (λ (r : Room). first_of ((r.no_table, code.TableFull) ∷ (r.no_numbers, code.Exhausted) ∷ [])) ((reads f).is s h p) in
      subst (λ (o : Option Code). Goes S x (Ok (shown.Refused c)) x s (unless shown.Refused o (entered_by f ask cs) s)) z (s, (refl, refl), S.stays x s h, h);
}

pub listed_on : {X : Type 0} (S : Sense X) (x new : X) (ask : Ask) (cs : List Change) (records : List AuxRecord) (room : Room) (why : Option Code) (r : Result Shown CallError) → ((f : Book → Book) → Reads S (Listing f ask.item cs records) (room_listed f cs) x room)
    → why ≡ first_of ((room.no_table, code.TableFull) ∷ (room.no_numbers, code.Exhausted) ∷ []) → why ≡ None → ((f : Book → Book) → Answers S (ReadyListed f ask.item cs records) (entered_by f ask cs) x r new)
    → (f : Book → Book) → Answers S (Listing f ask.item cs records) (put_listed f ask cs) x r new
listed_on S x new ask cs records room why r reads e q ans f = record {
  leads = λ s h p.
      let z : None ≡ first_of (listed_tests f cs s) = sym q ∙ e ∙ ap (λ (y : Room). first_of ((y.no_table, code.TableFull) ∷ (y.no_numbers, code.Exhausted) ∷ [])) ((reads f).is s h p) in
      let a = first_none (no_table_listed f cs s.volume) code.TableFull ((lacks_numbers s.volume cs, code.Exhausted) ∷ []) (sym z) in
      let b = first_none (lacks_numbers s.volume cs) code.Exhausted [] a.1 in
      subst (λ (o : Option Code). Goes S x r new s (unless shown.Refused o (entered_by f ask cs) s)) z ((ans f).leads s h (record { listing = p; numbers = b.0; table = a.0 }));
}

-- the number of the first of them

pub number_some : {X : Type 0} (S : Sense X) (x : X) (o : Option Usn) (n : Usn) → Reads S Any next_place x o → o ≡ Some n → Reads S HasPlace number_next x n
number_some S x o n reads e = record { is = λ s h p. one (no_places s.volume 1) (next_number s.volume) p (sym e ∙ reads.is s h (record {})) } where
  one : (b : Bool) (m : Usn) → b ≡ false → Some n ≡ cond b None (Some m) → n ≡ m
  one false m q z = let y : ◌≡◌ {A = Option Usn} (Some n) (Some m) = z in cc
  one true m q z = let y : true ≡ false = q in cc

pub number_none : {X : Type 0} (S : Sense X) (x : X) (o : Option Usn) (n : Usn) → Reads S Any next_place x o → o ≡ None → Reads S HasPlace number_next x n
number_none S x o n reads e = record { is = λ s h p. one (no_places s.volume 1) (next_number s.volume) p (sym e ∙ reads.is s h (record {})) } where
  one : (b : Bool) (m : Usn) → b ≡ false → None ≡ cond b None (Some m) → n ≡ m
  one false m q z = let y : ◌≡◌ {A = Option Usn} None (Some m) = z in absurd cc
  one true m q z = let y : true ≡ false = q in cc

-- the list suits

size_small : (dir : Bool) (n : ℕ) → (not dir && nat_lt 16777216 n) ≡ false → cond dir 0 n ≤ 16777216
size_small true n e = omega arith
size_small false n e = ltb-false 16777216 n e

good_entries : (list : List NewItem) → are_names list ≡ true → has_long_identity list ≡ false → has_large list ≡ false → Every IsGoodEntry list
good_entries [] a b d = record {}
good_entries (e ∷ es) a b d =
    let p = and_parts (is_name e.name) (are_names es) a in
    let q = or_parts (nat_lt 4096 (length e.identity)) (has_long_identity es) b in
    let r = or_parts (not e.dir && nat_lt 16777216 e.size) (has_large es) d in
    (record { named = p.0; short = ltb-false 4096 (length e.identity) q.0; small = size_small e.dir e.size r.0 }, good_entries es p.1 q.1 r.1)

past_one : (k : ℕ) (items : List Item) → BeginWithRoot items → Every (λ i. i.id.0 < k) items → 2 ≤ k
past_one k [] r h = absurd r
past_one k (i ∷ is) r h = omega (arith, r.0, h.0)

shallow : (b : Bool) (n : ℕ) → (not b && nat_le 32 n) ≡ false → b ≡ false → n < 32
shallow true n e z = let y : true ≡ false = z in cc
shallow false n e z = leb-false 32 n e

pub list_suits : (f : Book → Book) (dir : ItemId) (list : List NewItem) (records : List AuxRecord) (n : Usn) (s : Filter) → IsGood s → IsOpenList f dir list records s
    → Listing f dir (listed_changes s.policy dir s.volume.next_item.0 n list) records s
list_suits f dir list records n s good h =
    let t6 : List (Bool × Code) = (is_too_deep dir list s, code.TooDeep) ∷ [] in
    let t5 : List (Bool × Code) = (has_bytes_to_fetch s.policy list, code.PolicyDenied) ∷ t6 in
    let t4 : List (Bool × Code) = (has_large list, code.TooLarge) ∷ t5 in
    let t3 : List (Bool × Code) = (has_long_identity list, code.IdentityTooLong) ∷ t4 in
    let t2 : List (Bool × Code) = (is_twice list, code.Exists) ∷ t3 in
    let tests = first_none (not (are_names list)) code.BadPath t2 h.listable.passes in
    let twice = first_none (is_twice list) code.Exists t3 tests.1 in
    let long = first_none (has_long_identity list) code.IdentityTooLong t4 twice.1 in
    let large = first_none (has_large list) code.TooLarge t5 long.1 in
    let fetched = first_none (has_bytes_to_fetch s.policy list) code.PolicyDenied t6 large.1 in
    let deep = first_none (is_too_deep dir list s) code.TooDeep [] fetched.1 in
    one (item_of s.volume.items dir) refl h.unlisted twice.0 deep.0 (good_entries list (not_false (are_names list) tests.0) long.0 large.0)
  where
    not_true : (b : Bool) → not b ≡ true → b ≡ false
    not_true false e = refl
    not_true true e = let z : false ≡ true = e in cc

    one : (o : Option Item) → item_of s.volume.items dir ≡ o → part is_unlisted false o ≡ true → is_twice list ≡ false → is_too_deep dir list s ≡ false → Every IsGoodEntry list
        → Listing f dir (listed_changes s.policy dir s.volume.next_item.0 n list) records s
    one None at e twice deep entries = let z : false ≡ true = e in absurd cc
    one (Some i) at e twice deep entries =
        let p = and_parts i.directory (not i.populated) e in
        let stands = good.volume.tree.places dir i at in
        let can : CanList dir s.volume.next_item.0 stands.depth s.volume = record {
          above = i;
          there = at;
          directory = p.0;
          under = stands.under;
          order = good.volume.tree.order;
          below = good.volume.below;
          past = past_one s.volume.next_item.0 s.volume.items good.volume.tree.root good.volume.below;
          next = refl;
        } in
        let ends = ends_in s.policy dir s.volume.next_item.0 n list in record {
          entries = entries_are s.policy dir s.volume.next_item.0 stands.depth n list s.volume can (λ z. omega (arith, shallow (is_empty list) (depth_at s.volume.items dir) deep z, depth_is s.volume.items dir i stands.depth at stands.under))
              (all_free s.volume.items dir i list good.volume.tree good.volume.opened at (not_true i.populated p.1)) entries twice;
          before = ends.0;
          ends = ends.1;
          beside = h.listable.beside;
        }

pub entered_as : {X : Type 0} (S : Sense X) (x new : X) (ask : Ask) (list : List NewItem) (records : List AuxRecord) (t : Table) (policy : Policy) (first : ItemId) (n : Usn) (cs ds : List Change) (r : Result Shown CallError)
    → HasRows S x t → Reads S Any policy_of x policy → first ≡ t.next → Reads S HasPlace number_next x n → cs ≡ listed_changes policy ask.item first.0 n list → ds ≡ cs
    → ((f : Book → Book) → Answers S (Listing f ask.item ds records) (put_listed f ask ds) x r new) → (f : Book → Book) → Answers S (IsOpenList f ask.item list records) (entered f ask list) x r new
entered_as S x new ask list records t policy first n cs ds r rows pol is_next number is same ans f = record {
  leads = λ s h p.
      let e : ds ≡ listed_changes s.policy ask.item s.volume.next_item.0 n list = same ∙ is ∙ (λ j. listed_changes (pol.is s h (record {}) j) ask.item ((is_next ∙ rows.next s h) j).0 n list) in
      let a = subst (λ (l : List Change). Answers S (Listing f ask.item l records) (put_listed f ask l) x r new) e (ans f) in
      let z = a.leads s h (list_suits f ask.item list records n s (S.good x s h) p) in
      subst (λ (q : Tree Filter Shown). Goes S x r new s q) (put_alike f ask list n s (λ left. number.is s h left)) z;
}

-- the operation

or_no : (b : Bool) → (b || false) ≡ b
or_no true = refl
or_no false = refl

pub list_bad : {X : Type 0} (S : Sense X) (x new : X) (ask : Ask) (list : List NewItem) (good : Bool) (records : List AuxRecord) (r : Result Shown CallError) → good ≡ false → Answers S Any (finished_by ask (cause.Failed 1)) x r new
    → (f : Book → Book) → Answers S (IsListable f ask.item list records) (listed_by f ask list good) x r new
list_bad S x new ask list good records r e a f = record { leads = λ s h p. subst (λ (b : Bool). Goes S x r new s (listed_by f ask list b s)) (sym e) (a.leads s h (record {})) }

pub list_good : {X : Type 0} (S : Sense X) (x new : X) (ask : Ask) (list : List NewItem) (good unlisted : Bool) (records : List AuxRecord) (r : Result Shown CallError) → good ≡ true → Reads S Any (is_unlisted_at ask.item) x unlisted → unlisted ≡ true
    → ((f : Book → Book) → Answers S (IsOpenList f ask.item list records) (entered f ask list) x r new) → (f : Book → Book) → Answers S (IsListable f ask.item list records) (listed_by f ask list good) x r new
list_good S x new ask list good unlisted records r e reads u a f = record {
  leads = λ s h p. subst (λ (b : Bool). Goes S x r new s (listed_by f ask list b s)) (sym e) ((a f).leads s h (record { listable = p; unlisted = sym (reads.is s h (record {})) ∙ u }));
}

-- a refusal that holds is the first of more
first_some : (front rest : List (Bool × Code)) (c : Code) → first_of front ≡ Some c → first_of (front ++ rest) ≡ Some c
first_some [] rest c e = let z : ◌≡◌ {A = Option Code} None (Some c) = e in absurd cc
first_some (t ∷ ts) rest c e = one t.0 e (first_some ts rest c) where
  one : (b : Bool) → cond b (Some t.1) (first_of ts) ≡ Some c → (first_of ts ≡ Some c → first_of (ts ++ rest) ≡ Some c) → cond b (Some t.1) (first_of (ts ++ rest)) ≡ Some c
  one true z next = z
  one false z next = next z

-- what it does once no refusal but for room is left
abbrev entries_end : (Book → Book) → Live → List NewItem → Bool → Filter → Arrow Filter Shown
entries_end f a list good s = then_do (changes_with f (changes_listed a list good s)) (then_do (settle a.ask.item (entries_deed a good)) done)

end_by : {X : Type 0} (S : Sense X) (x new : X) (r : Result Shown CallError) (f : Book → Book) (a : Live) (list : List NewItem) (good : Bool) (s : Filter) → Goes S x r new s (listed_by f a.ask list good s)
    → Goes S x r new s (unless shown.Refused (first_of (listed_tests f (changes_listed a list good s) s)) (entries_end f a list good s) s)
end_by S x new r f a list true s g = g
end_by S x new r f a list false s g =
    subst (λ (b : Bool). Goes S x r new s (unless shown.Refused (first_of ((b, code.Exhausted) ∷ [])) (finished_now a.ask (cause.Failed 1)) s)) (sym (or_no (no_places s.volume 0))) g

pub listed_first : {X : Type 0} (S : Sense X) (x : X) (ask : Ask) (list : List NewItem) (good : Bool) (records : List AuxRecord) (why : Option Code) (c : Code) → Reads S Any (list_refusal ask.item list) x why → why ≡ Some c
    → (key : Key) (f : Book → Book) (a : Live) → Answers S (IsLiveFor f (operation.Entries key list good) ask records a) (entries f a list good) x (Ok (shown.Refused c)) x
listed_first S x ask list good records why c reads e key f a = record {
  leads = λ s h p.
      let at : list_refusal a.ask.item list s ≡ Some c = ap (λ (q : Ask). list_refusal q.item list s) p.same ∙ sym (reads.is s h (record {})) ∙ e in
      let first : first_of (list_tests a.ask.item list s ++ listed_tests f (changes_listed a list good s) s) ≡ Some c = first_some (list_tests a.ask.item list s) (listed_tests f (changes_listed a list good s) s) c at in
      past S x x (Ok (shown.Refused c)) s (tests_on (operation.Entries key list good) a s) (list_tests a.ask.item list s ++ listed_tests f (changes_listed a list good s) s) (entries_end f a list good s) p.passes
      (subst (λ (o : Option Code). Goes S x (Ok (shown.Refused c)) x s (unless shown.Refused o (entries_end f a list good s) s)) (sym first) (s, (refl, refl), S.stays x s h, h));
}

pub listed_then : {X : Type 0} (S : Sense X) (x new : X) (ask : Ask) (list : List NewItem) (good : Bool) (records : List AuxRecord) (why : Option Code) (r : Result Shown CallError) → Reads S Any (list_refusal ask.item list) x why → why ≡ None
    → ((f : Book → Book) → Answers S (IsListable f ask.item list records) (listed_by f ask list good) x r new)
    → (key : Key) (f : Book → Book) (a : Live) → Answers S (IsLiveFor f (operation.Entries key list good) ask records a) (entries f a list good) x r new
listed_then S x new ask list good records why r reads e ans key f a = record {
  leads = λ s h p.
      let free : list_refusal ask.item list s ≡ None = sym (reads.is s h (record {})) ∙ e in
      let z = (ans f).leads s h (record { passes = free; beside = p.beside }) in
      let g : Goes S x r new s (listed_by f a.ask list good s) = subst (λ (q : Ask). Goes S x r new s (listed_by f q list good s)) (sym p.same) z in
      past S x new r s (tests_on (operation.Entries key list good) a s) (list_tests a.ask.item list s ++ listed_tests f (changes_listed a list good s) s) (entries_end f a list good s) p.passes
      (past S x new r s (list_tests a.ask.item list s) (listed_tests f (changes_listed a list good s) s) (entries_end f a list good s) (ap (λ (q : Ask). list_refusal q.item list s) p.same ∙ free) (end_by S x new r f a list good s g));
}
