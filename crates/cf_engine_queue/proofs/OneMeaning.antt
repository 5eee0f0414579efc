-- A record says one thing, and those of a book say what it keeps.
use Rattle.std.proofs.Common.{◌≡◌, ℕ, zero, suc, ◌<◌, ◌^◌, Bool, true, false, not, nat_lt, List, [], ◌∷◌, ◌++◌, map, drop, take, get_or, Result, Ok, Err, refl, sym, ap, ◌∙◌, subst, arith, append_assoc}
use Rattle.std.proofs.lemmas.List.{append-nil}
use Rattle.std.proofs.lemmas.Nat.{from_be_bytes-to_be_bytes_4, from_be_bytes-to_be_bytes_8}
use Rattle.std.specs.Int.{w32, w64, from_be_bytes}
use Rattle.std.specs.List.{AllByRecursion}
use Rattle.std.specs.Prelude.{MatchResult}
use Rattle.cf_base.specs.declared.answers.AuxRecord.{AuxRecord}
use Rattle.cf_base.specs.declared.codes.CallError.{CallError}
use Rattle.cf_base.specs.declared.codes.CallError.TheVariants as fail
use Rattle.cf_base.specs.declared.items.SeenPath.{SeenPath}
use Rattle.cf_model.specs.Books as model
use Rattle.cf_model.specs.Books.{Book, MakeDir, MoveItem, PutFile, RemoveItem, action_byte, aux_records, cursor_records, entry_record, no_book, seen_record, tombstone_record, with_tombstone}
use Rattle.cf_model.specs.Words.{in_bytes, when}
use Rattle.cf_engine_queue.specs.Books.{action_of, added, entry_value, number_rank, token_rank, tombstone_value}
use Rattle.cf_engine_queue.specs.Order.{IsRising, is_above}
use Rattle.cf_engine_queue.specs.Records.{FitsEntry, FitsSeen, FitsTombstone, IsCursor, IsEntry, IsKeepable, IsSeen, IsTombstone, Loads, SayAll, Says, cursor_record, heard, heard_all, queue_of}
use Rattle.cf_engine_queue.specs.declared.records.Record.{Record}
use Rattle.cf_engine_queue.specs.declared.records.Record.TheVariants as said
use Rattle.cf_engine_queue.specs.declared.uploads.Action.{Action}
use Rattle.cf_engine_queue.specs.declared.uploads.Action.TheVariants as action
use Rattle.cf_engine_queue.specs.declared.uploads.QueueEntry.{QueueEntry}
use Rattle.cf_engine_queue.specs.declared.uploads.Tombstone.{Tombstone}
use Rattle.cf_engine_queue.proofs.InOrder.{one_way, put_last}
use Rattle.cf_engine_queue.proofs.Loading.{heard_append, say_append}
use Rattle.cf_engine_queue.proofs.Spelled.{eight_bytes, four_bytes}

-- what a record says, taken from the places of its fields

four_again : (n : ℕ) → n < 2 ^ 32 → from_be_bytes w32 (in_bytes 4 n) ≡ n
four_again n lt = ap (from_be_bytes w32) (sym (four_bytes n)) ∙ from_be_bytes-to_be_bytes_4 n lt

eight_again : (n : ℕ) → n < 2 ^ 64 → from_be_bytes w64 (in_bytes 8 n) ≡ n
eight_again n lt = ap (from_be_bytes w64) (sym (eight_bytes n)) ∙ from_be_bytes-to_be_bytes_8 n lt

four_from : ℕ → List ℕ → ℕ
four_from at bytes = from_be_bytes w32 (take 4 (drop at bytes))

eight_from : ℕ → List ℕ → ℕ
eight_from at bytes = from_be_bytes w64 (take 8 (drop at bytes))

action_from : ℕ → model.Action
action_from zero = RemoveItem
action_from (suc zero) = PutFile
action_from (suc (suc zero)) = MakeDir
action_from (suc (suc (suc zero))) = MoveItem
action_from (suc (suc (suc (suc n)))) = RemoveItem

action_again : (a : model.Action) → action_from (action_byte a) ≡ a
unfolding action_from
action_again PutFile = refl
action_again MakeDir = refl
action_again MoveItem = refl
action_again RemoveItem = refl

entry_from : AuxRecord → model.QueueEntry
entry_from r = record {
  token = record { 0 = record { epoch = four_from 1 r.key; number = four_from 5 r.key } };
  item = record { 0 = eight_from 0 r.value };
  action = action_from (get_or r.value 8 0);
  number = record { epoch = four_from 9 r.value; place = four_from 13 r.value };
  rid = record { 0 = eight_from 17 r.value };
  parent = record { 0 = eight_from 25 r.value };
  name = drop 33 r.value;
}

entry_again : (e : model.QueueEntry) → FitsEntry e → entry_from (entry_record e) ≡ e
unfolding entry_from four_from eight_from
entry_again e f = λ i. record {
  token = record { 0 = record { epoch = four_again e.token.0.epoch f.token.0 i; number = four_again e.token.0.number f.token.1 i } };
  item = record { 0 = eight_again e.item.0 f.item i };
  action = action_again e.action i;
  number = record { epoch = four_again e.number.epoch f.number.0 i; place = four_again e.number.place f.number.1 i };
  rid = record { 0 = eight_again e.rid.0 f.rid i };
  parent = record { 0 = eight_again e.parent.0 f.parent i };
  name = e.name;
}

pub one_entry : (r : AuxRecord) (d e : model.QueueEntry) → IsEntry r d → IsEntry r e → d ≡ e
one_entry r d e g h = sym (entry_again d g.fits) ∙ ap entry_from (sym g.spelled ∙ h.spelled) ∙ entry_again e h.fits

tombstone_from : AuxRecord → model.Tombstone
tombstone_from r = record { number = record { epoch = four_from 1 r.key; place = four_from 5 r.key }; rid = record { 0 = eight_from 0 r.value }; version = record { 0 = eight_from 8 r.value } }

tombstone_again : (t : model.Tombstone) → FitsTombstone t → tombstone_from (tombstone_record t) ≡ t
unfolding tombstone_from four_from eight_from
tombstone_again t f = λ i. record {
  number = record { epoch = four_again t.number.epoch f.number.0 i; place = four_again t.number.place f.number.1 i };
  rid = record { 0 = eight_again t.rid.0 f.rid i };
  version = record { 0 = eight_again t.version.0 f.version i };
}

pub one_tombstone : (r : AuxRecord) (d e : model.Tombstone) → IsTombstone r d → IsTombstone r e → d ≡ e
one_tombstone r d e g h = sym (tombstone_again d g.fits) ∙ ap tombstone_from (sym g.spelled ∙ h.spelled) ∙ tombstone_again e h.fits

seen_from : AuxRecord → SeenPath
seen_from r = record { item = record { 0 = eight_from 1 r.key }; parent = record { 0 = eight_from 0 r.value }; name = drop 8 r.value }

seen_again : (p : SeenPath) → FitsSeen p → seen_from (seen_record p) ≡ p
unfolding seen_from eight_from
seen_again p f = λ i. record { item = record { 0 = eight_again p.item.0 f.item i }; parent = record { 0 = eight_again p.parent.0 f.parent i }; name = p.name }

pub one_seen : (r : AuxRecord) (p q : SeenPath) → IsSeen r p → IsSeen r q → p ≡ q
one_seen r p q g h = sym (seen_again p g.fits) ∙ ap seen_from (sym g.spelled ∙ h.spelled) ∙ seen_again q h.fits

-- the parts of the record of a path seen
pub seen_parts : (r : AuxRecord) (p : SeenPath) (number : ℕ) (rest : List ℕ) → IsSeen r p → number < 2 ^ 64 → r.value ≡ in_bytes 8 number ++ rest → (number ≡ p.parent.0) × (rest ≡ p.name)
unfolding seen_from eight_from
seen_parts r p number rest h fits is =
    let from : seen_from r ≡ p = ap seen_from h.spelled ∙ seen_again p h.fits in (
      sym (eight_again number fits) ∙ ap (λ (v : List ℕ). from_be_bytes w64 (take 8 (drop 0 v))) (sym is) ∙ ap (λ (q : SeenPath). q.parent.0) from,
      ap (drop 8) (sym is) ∙ ap (λ (q : SeenPath). q.name) from,
    )

cursor_again : (n : ℕ) → n < 2 ^ 64 → eight_from 0 (in_bytes 8 n) ≡ n
unfolding eight_from
cursor_again n lt = eight_again n lt

pub one_cursor : (r : AuxRecord) (m n : ℕ) → IsCursor r m → IsCursor r n → m ≡ n
one_cursor r m n g h = sym (cursor_again m g.fits) ∙ ap (λ (s : AuxRecord). eight_from 0 s.value) (sym g.spelled ∙ h.spelled) ∙ cursor_again n h.fits

-- the first byte of a key tells the kind
abbrev letter : Record → ℕ
letter (said.Cursor clock) = 99
letter (said.Entry e) = 113
letter (said.Seen p) = 115
letter (said.Buried t) = 116

first : List ℕ → ℕ
first [] = 0
first (b ∷ bs) = b

pub is_letter : (r : AuxRecord) (x : Record) → Says r x → (rest : List ℕ) × (r.key ≡ letter x ∷ rest)
is_letter r (said.Cursor clock) h = ([], ap (λ (s : AuxRecord). s.key) h.spelled)
is_letter r (said.Entry e) h = (in_bytes 4 e.token.0.epoch ++ in_bytes 4 e.token.0.number, ap (λ (s : AuxRecord). s.key) h.spelled)
is_letter r (said.Seen p) h = (in_bytes 8 p.item.0, ap (λ (s : AuxRecord). s.key) h.spelled)
is_letter r (said.Buried t) h = (in_bytes 4 t.number.epoch ++ in_bytes 4 t.number.place, ap (λ (s : AuxRecord). s.key) h.spelled)

pub same_letter : (r : AuxRecord) (x : Record) (b : ℕ) (rest : List ℕ) → Says r x → r.key ≡ b ∷ rest → letter x ≡ b
unfolding first
same_letter r x b rest h e = let k = is_letter r x h in ap first (sym k.1 ∙ e)

letters_agree : (r : AuxRecord) (x y : Record) → Says r x → Says r y → letter x ≡ letter y
letters_agree r x y g h = let k = is_letter r y h in same_letter r x (letter y) k.0 g k.1

heard_same : (r : AuxRecord) (x y : Record) (b : Book) → Says r x → Says r y → heard x b ≡ heard y b
heard_same r (said.Cursor m) (said.Cursor n) b g h = refl
heard_same r (said.Entry d) (said.Entry e) b g h = ap (λ (v : model.QueueEntry). added v b) (one_entry r (entry_value d) (entry_value e) g h)
heard_same r (said.Seen p) (said.Seen q) b g h = refl
heard_same r (said.Buried d) (said.Buried e) b g h = ap (λ (v : model.Tombstone). with_tombstone v b) (one_tombstone r (tombstone_value d) (tombstone_value e) g h)
heard_same r (said.Cursor m) (said.Entry e) b g h = absurd (let z : 99 ≡ 113 = letters_agree r (said.Cursor m) (said.Entry e) g h in omega arith)
heard_same r (said.Cursor m) (said.Seen q) b g h = refl
heard_same r (said.Cursor m) (said.Buried e) b g h = absurd (let z : 99 ≡ 116 = letters_agree r (said.Cursor m) (said.Buried e) g h in omega arith)
heard_same r (said.Entry d) (said.Cursor n) b g h = absurd (let z : 113 ≡ 99 = letters_agree r (said.Entry d) (said.Cursor n) g h in omega arith)
heard_same r (said.Entry d) (said.Seen q) b g h = absurd (let z : 113 ≡ 115 = letters_agree r (said.Entry d) (said.Seen q) g h in omega arith)
heard_same r (said.Entry d) (said.Buried e) b g h = absurd (let z : 113 ≡ 116 = letters_agree r (said.Entry d) (said.Buried e) g h in omega arith)
heard_same r (said.Seen p) (said.Cursor n) b g h = refl
heard_same r (said.Seen p) (said.Entry e) b g h = absurd (let z : 115 ≡ 113 = letters_agree r (said.Seen p) (said.Entry e) g h in omega arith)
heard_same r (said.Seen p) (said.Buried e) b g h = absurd (let z : 115 ≡ 116 = letters_agree r (said.Seen p) (said.Buried e) g h in omega arith)
heard_same r (said.Buried d) (said.Cursor n) b g h = absurd (let z : 116 ≡ 99 = letters_agree r (said.Buried d) (said.Cursor n) g h in omega arith)
heard_same r (said.Buried d) (said.Entry e) b g h = absurd (let z : 116 ≡ 113 = letters_agree r (said.Buried d) (said.Entry e) g h in omega arith)
heard_same r (said.Buried d) (said.Seen q) b g h = absurd (let z : 116 ≡ 115 = letters_agree r (said.Buried d) (said.Seen q) g h in omega arith)

all_heard_same : (rs : List AuxRecord) (xs ys : List Record) (b : Book) → SayAll rs xs → SayAll rs ys → heard_all xs b ≡ heard_all ys b
all_heard_same [] [] [] b g h = refl
all_heard_same (r ∷ rs) (x ∷ xs) (y ∷ ys) b g h = ap (heard_all xs) (heard_same r x y b g.0 h.0) ∙ all_heard_same rs xs ys (heard y b) g.1 h.1
all_heard_same [] (x ∷ xs) ys b g h = absurd g
all_heard_same [] [] (y ∷ ys) b g h = absurd h
all_heard_same (r ∷ rs) [] ys b g h = absurd g
all_heard_same (r ∷ rs) (x ∷ xs) [] b g h = absurd h

-- the records of a book

action_back : model.Action → Action
action_back PutFile = action.Put
action_back MakeDir = action.MakeDir
action_back MoveItem = action.Move
action_back RemoveItem = action.Remove

action_there : (a : model.Action) → action_of (action_back a) ≡ a
unfolding action_back
action_there PutFile = refl
action_there MakeDir = refl
action_there MoveItem = refl
action_there RemoveItem = refl

entry_back : model.QueueEntry → QueueEntry
entry_back e = record { token = e.token; item = e.item; action = action_back e.action; number = e.number; rid = e.rid; parent = e.parent; name = e.name }

entry_there : (e : model.QueueEntry) → entry_value (entry_back e) ≡ e
unfolding entry_back
entry_there e = ap (λ (a : model.Action). record e { action = a }) (action_there e.action)

tombstone_back : model.Tombstone → Tombstone
tombstone_back t = record { number = t.number; rid = t.rid; version = t.version }

abbrev entry_said : model.QueueEntry → Record
entry_said e = said.Entry (entry_back e)

abbrev seen_said : SeenPath → Record
seen_said p = said.Seen p

abbrev tombstone_said : model.Tombstone → Record
tombstone_said t = said.Buried (tombstone_back t)

abbrev cursor_said : ℕ → List Record
cursor_said clock = when (nat_lt 0 clock) (said.Cursor clock ∷ [])

entries_said : (es : List model.QueueEntry) → AllByRecursion FitsEntry es → SayAll (map entry_record es) (map entry_said es)
entries_said [] f = tt
entries_said (e ∷ es) f =
    (record { fits = subst FitsEntry (sym (entry_there e)) f.0; spelled = ap entry_record (sym (entry_there e)) }, entries_said es f.1)

all_seen_said : (ps : List SeenPath) → AllByRecursion FitsSeen ps → SayAll (map seen_record ps) (map seen_said ps)
all_seen_said [] f = tt
all_seen_said (p ∷ ps) f = (record { fits = f.0; spelled = refl }, all_seen_said ps f.1)

tombstones_said : (ts : List model.Tombstone) → AllByRecursion FitsTombstone ts → SayAll (map tombstone_record ts) (map tombstone_said ts)
unfolding tombstone_back
tombstones_said [] f = tt
tombstones_said (t ∷ ts) f = (record { fits = f.0; spelled = refl }, tombstones_said ts f.1)

cursor_is_said : (clock : ℕ) (b : Bool) → clock < 2 ^ 64 → SayAll (when b (cursor_record clock ∷ [])) (when b (said.Cursor clock ∷ []))
cursor_is_said clock true lt = (record { fits = lt; spelled = refl }, tt)
cursor_is_said clock false lt = tt

abbrev book_said : Book → List Record
book_said b = cursor_said b.cursor ++ map entry_said b.entries ++ map seen_said b.seen ++ map tombstone_said b.tombstones

is_said : (b : Book) → IsKeepable b → SayAll (aux_records b) (book_said b)
is_said b k =
    let first = say_append (cursor_records b.cursor) (map entry_record b.entries) (cursor_said b.cursor) (map entry_said b.entries) (cursor_is_said b.cursor (nat_lt 0 b.cursor) k.cursor) (entries_said b.entries k.entries) in
    let second = say_append (cursor_records b.cursor ++ map entry_record b.entries) (map seen_record b.seen) (cursor_said b.cursor ++ map entry_said b.entries) (map seen_said b.seen) first (all_seen_said b.seen k.seen) in
    say_append (cursor_records b.cursor ++ map entry_record b.entries ++ map seen_record b.seen) (map tombstone_record b.tombstones) (cursor_said b.cursor ++ map entry_said b.entries ++ map seen_said b.seen) (map tombstone_said b.tombstones) second (tombstones_said b.tombstones k.tombstones)

-- what comes of them

at_middle : {X : Type 0} (P : X → Type 0) (ys : List X) (x : X) (xs : List X) → AllByRecursion P (ys ++ x ∷ xs) → P x
at_middle P [] x xs h = h.0
at_middle P (y ∷ ys) x xs h = at_middle P ys x xs h.1

-- what stands in front of a later one is below it
front_below : {X : Type 0} (rank : X → ℕ × ℕ) (front : List X) (x : X) (xs : List X) → IsRising rank (front ++ x ∷ xs) → AllByRecursion (λ y. is_above (rank x) (rank y) ≡ true) front
front_below rank [] x xs h = tt
front_below rank (y ∷ ys) x xs h = (at_middle (λ z. is_above (rank z) (rank y) ≡ true) ys x xs h.0, front_below rank ys x xs h.1)

not_above_it : {X : Type 0} (rank : X → ℕ × ℕ) (x : X) (ys : List X) → AllByRecursion (λ y. is_above (rank x) (rank y) ≡ true) ys → AllByRecursion (λ y. not (is_above (rank y) (rank x)) ≡ true) ys
not_above_it rank x [] h = tt
not_above_it rank x (y ∷ ys) h = (ap not (one_way (rank x) (rank y) h.0), not_above_it rank x ys h.1)

abbrev book : List model.QueueEntry → List model.Tombstone → Book
book es ts = record no_book { entries = es; tombstones = ts }

entries_heard : (front es : List model.QueueEntry) (ts : List model.Tombstone) → IsRising token_rank (front ++ es) → heard_all (map entry_said es) (book front ts) ≡ book (front ++ es) ts
entries_heard front [] ts r = ap (λ (l : List model.QueueEntry). book l ts) (sym (append-nil front))
entries_heard front (e ∷ es) ts r =
    let last = put_last (λ x y. not (is_above (token_rank x) (token_rank y))) e front (not_above_it token_rank e front (front_below token_rank front e es r)) in
    let placed : added (entry_value (entry_back e)) (book front ts) ≡ book (front ++ e ∷ []) ts = ap (λ (v : model.QueueEntry). added v (book front ts)) (entry_there e) ∙ ap (λ (l : List model.QueueEntry). book l ts) last in
    ap (heard_all (map entry_said es)) placed ∙ entries_heard (front ++ e ∷ []) es ts (subst (IsRising token_rank) (sym (append_assoc front (e ∷ []) es)) r)
    ∙ ap (λ (l : List model.QueueEntry). book l ts) (append_assoc front (e ∷ []) es)

tombstones_heard : (es : List model.QueueEntry) (front ts : List model.Tombstone) → IsRising number_rank (front ++ ts) → heard_all (map tombstone_said ts) (book es front) ≡ book es (front ++ ts)
unfolding tombstone_back
tombstones_heard es front [] r = ap (λ (l : List model.Tombstone). book es l) (sym (append-nil front))
tombstones_heard es front (t ∷ ts) r =
    let last = put_last (λ x y. is_above (number_rank y) (number_rank x)) t front (front_below number_rank front t ts r) in
    let placed : with_tombstone t (book es front) ≡ book es (front ++ t ∷ []) = ap (λ (l : List model.Tombstone). book es l) last in
    ap (heard_all (map tombstone_said ts)) placed ∙ tombstones_heard es (front ++ t ∷ []) ts (subst (IsRising number_rank) (sym (append_assoc front (t ∷ []) ts)) r)
    ∙ ap (λ (l : List model.Tombstone). book es l) (append_assoc front (t ∷ []) ts)

seen_heard : (ps : List SeenPath) (b : Book) → heard_all (map seen_said ps) b ≡ b
seen_heard [] b = refl
seen_heard (p ∷ ps) b = seen_heard ps b

cursor_heard : (clock : ℕ) (c : Bool) (b : Book) → heard_all (when c (said.Cursor clock ∷ [])) b ≡ b
cursor_heard clock true b = refl
cursor_heard clock false b = refl

book_heard : (b : Book) → IsKeepable b → heard_all (book_said b) no_book ≡ queue_of b
book_heard b k =
    heard_append (cursor_said b.cursor ++ map entry_said b.entries ++ map seen_said b.seen) (map tombstone_said b.tombstones) no_book
    ∙ ap (heard_all (map tombstone_said b.tombstones))
    (heard_append (cursor_said b.cursor ++ map entry_said b.entries) (map seen_said b.seen) no_book
    ∙ seen_heard b.seen (heard_all (cursor_said b.cursor ++ map entry_said b.entries) no_book)
    ∙ heard_append (cursor_said b.cursor) (map entry_said b.entries) no_book
    ∙ ap (heard_all (map entry_said b.entries)) (cursor_heard b.cursor (nat_lt 0 b.cursor) no_book)
    ∙ entries_heard [] b.entries [] k.tokens)
    ∙ tombstones_heard b.entries [] b.tombstones k.numbers

pub kept : (b : Book) (records : List AuxRecord) (r : Result Book CallError) → IsKeepable b → records ≡ aux_records b → Loads records r → MatchResult r (λ q. q ≡ queue_of b) (λ e. e ≡ fail.OutOfMemory)
kept b records (Ok q) k e l =
    let all : SayAll records (book_said b) = subst (λ (rs : List AuxRecord). SayAll rs (book_said b)) (sym e) (is_said b k) in
    l.2 ∙ all_heard_same records l.0 (book_said b) no_book l.1 all ∙ book_heard b k
kept b records (Err (fail.No c)) k e l = absurd (l.1 (book_said b) (subst (λ (rs : List AuxRecord). SayAll rs (book_said b)) (sym e) (is_said b k)))
kept b records (Err fail.OutOfMemory) k e l = refl
