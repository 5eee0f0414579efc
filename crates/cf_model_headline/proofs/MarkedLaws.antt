-- An item comes to be in sync by a Mark alone, and keeps its number as long as it stays so.
use Rattle.std.proofs.Common.{◌≡◌, ℕ, Bool, true, false, List, [], ◌∷◌, ◌++◌, refl, sym, ◌∙◌, ap, subst, inl, inr, eq-eqb, eqb-true}
use Rattle.std.specs.Prelude.{Option, Some, None, Result, Ok, Err, cond, not, ◌==◌, ◌&&◌, ◌||◌}
use Rattle.std.proofs.lemmas.List.{append_assoc, append-nil}
use Rattle.cf_base.specs.declared.changes.Change.{Change}
use Rattle.cf_base.specs.declared.changes.Change.TheVariants as change
use Rattle.cf_base.specs.declared.answers.Answer.{Answer}
use Rattle.cf_base.specs.declared.answers.Shown.{Shown}
use Rattle.cf_base.specs.declared.answers.Shown.TheVariants as shown
use Rattle.cf_base.specs.declared.codes.Code.{Code}
use Rattle.cf_base.specs.declared.codes.Code.TheVariants as code
use Rattle.cf_base.specs.declared.ids.ItemId.{ItemId}
use Rattle.cf_base.specs.declared.items.Kind.{Kind}
use Rattle.cf_base.specs.declared.items.Pin.{Pin}
use Rattle.cf_base.specs.declared.policies.Mode.{Mode}
use Rattle.cf_base.specs.declared.policies.Mode.TheVariants as mode
use Rattle.cf_model.specs.Calls.{info_item, info_of}
use Rattle.cf_model.specs.Events.{begun}
use Rattle.cf_model.specs.Lawful.{IsStep, Runs}
use Rattle.cf_model.specs.LookUp.{bad_names, child_of, find_path, is_child_named, names_of, refused_or, root_of, walk}
use Rattle.cf_model.specs.Soundness.{Each}
use Rattle.cf_model.specs.State.{State, items_now, start, with_filter}
use Rattle.cf_model.specs.Store.{Held}
use Rattle.cf_model.specs.Trees.{Ends, mapped}
use Rattle.cf_model.specs.Waits.{on_ok}
use Rattle.cf_model.proofs.OfLogLaws.{started_of_log}
use Rattle.cf_model_laws.specs.Premises.{IsFair, IsFresh}
use Rattle.cf_model_headline.specs.Reports.{Report, standing}
use Rattle.cf_model_headline.proofs.StandingLaws.{shows_all}
use Rattle.cf_model_headline.proofs.StepCases.{IsCase, IsOver, moment, step_case}
use Rattle.cf_base.specs.declared.ids.Usn.{Usn}
use Rattle.cf_model.specs.Effects.{changed, converted, copies, effect, got, kept, left_out, made, marked, moved, pinned, populated, rebased, reverted, sized, took, unmarked, validated_in, wrote}
use Rattle.cf_model.specs.Items.{Item, item_of, kind_of, pin_of, root, size_of}
use Rattle.cf_model.specs.Logs.{items_of}
use Rattle.cf_model.specs.Numbers.{same_usn}
use Rattle.cf_model_laws.specs.Invariant.{All}
use Rattle.cf_model_laws.specs.Logged.{EachMade, IsChangeRight}
use Rattle.cf_model_laws.proofs.LocalLaws.{made_behind}
use Rattle.cf_model_laws.proofs.FitItems.{all_changed}
use Rattle.cf_model_laws.proofs.Gathered.{all_append, all_found, all_filter, all_weaker, each_any, each_weaker}
use Rattle.cf_model_laws.proofs.LoggedGuarded.{changes_right, items_more}
use Rattle.cf_model_laws.proofs.RightItems.{no_way}
use Rattle.cf_model_laws.proofs.SoundSettles.{same_item}
use Rattle.cf_model_headline.specs.Marked.{InSyncByMark, IsMarked, MarksGiveNumbers, has_number, informing}

abbrev Log : Type 0
Log = List (Usn × Change)

usn_self : (u : Usn) → same_usn u u ≡ true
usn_self u = rw (eq-eqb u.epoch u.epoch refl) (eq-eqb u.place u.place refl)

usn_same : (a b : Usn) → same_usn a b ≡ true → a ≡ b
usn_same a b e = by (a.epoch == b.epoch) (a.place == b.place) refl refl e where
  at : ℕ → ℕ → Usn
  at x y = record { epoch = x; place = y }

  by : (p q : Bool) → (a.epoch == b.epoch) ≡ p → (a.place == b.place) ≡ q → (p && q) ≡ true → a ≡ b
  by true true e f g = ap (λ (x : ℕ). at x a.place) (eqb-true a.epoch b.epoch e) ∙ ap (λ (x : ℕ). at b.epoch x) (eqb-true a.place b.place f)
  by true false e f g = no_way g
  by false q e f g = no_way g

-- each item of a list has its number there
members : (items : List Item) → All (λ i. has_number i.id i.number items ≡ true) items
members [] = tt
members (i ∷ is) = (here, all_weaker (λ j. has_number j.id j.number is ≡ true) (λ j. has_number j.id j.number (i ∷ is) ≡ true) (λ j h. or_right ((i.id.0 == j.id.0) && same_usn i.number j.number) (has_number j.id j.number is) h) is (members is)) where
  or_right : (a b : Bool) → b ≡ true → (a || b) ≡ true
  or_right true b h = refl
  or_right false b h = h

  here : has_number i.id i.number (i ∷ is) ≡ true
  here = rw (eq-eqb i.id.0 i.id.0 refl) (rw (usn_self i.number) refl)

-- in sync only by a Mark
abbrev ByMark : Log → Item → Type 0
ByMark log i = i.in_sync ≡ true → IsMarked log i.id i.number

longer : (log : Log) (n : Usn) (c : Change) (item : ItemId) (number : Usn) → IsMarked log item number → IsMarked (log ++ (n, c) ∷ []) item number
longer log n c item number m = record {
  before = m.before;
  own = m.own;
  given = m.given;
  after = m.after ++ (n, c) ∷ [];
  parts = ap (λ (l : Log). l ++ (n, c) ∷ []) m.parts ∙ append_assoc m.before ((m.own, change.Mark item m.given) ∷ m.after) ((n, c) ∷ []);
  had = m.had;
}

module _ (log : Log) (n : Usn) (c : Change) where
  abbrev After : Item → Type 0
  After i = ByMark (log ++ (n, c) ∷ []) i

  stays : (i : Item) → ByMark log i → After i
  stays i h e = longer log n c i.id i.number (h e)

  -- items that keep their number and flag
  keeps : (id : ItemId) (f : Item → Item) → ((i : Item) → ByMark log i → After (f i)) → (items : List Item) → All (ByMark log) items → All After (changed id f items)
  keeps id f k items h = all_changed id f (λ i. Unit {0}) (ByMark log) After (λ i _ j. k i j) stays items (each_any id (λ i. Unit {0}) (λ i. tt) items) h

  others : (items : List Item) → All (ByMark log) items → All After items
  others items h = all_weaker (ByMark log) After stays items h

marks : (log : Log) (n : Usn) (item : ItemId) (given : Usn) → All (ByMark log) (items_of log) → All (After log n (change.Mark item given)) (changed item marked (items_of log))
marks log n item given h = go (items_of log) (members (items_of log)) h where
  marked_now : (i : Item) → (i.id.0 == item.0) ≡ true → has_number i.id i.number (items_of log) ≡ true → IsMarked (log ++ (n, change.Mark item given) ∷ []) i.id i.number
  marked_now i same had = subst (λ (x : ItemId). IsMarked (log ++ (n, change.Mark x given) ∷ []) i.id i.number) (same_item i.id item (eqb-true i.id.0 item.0 same))
      (record { before = log; own = n; given = given; after = []; parts = refl; had = had })

  go : (items : List Item) → All (λ i. has_number i.id i.number (items_of log) ≡ true) items → All (ByMark log) items → All (After log n (change.Mark item given)) (changed item marked items)
  go [] k h = tt
  go (i ∷ is) k h = (by (i.id.0 == item.0) refl, go is k.1 h.1) where
    by : (b : Bool) → (i.id.0 == item.0) ≡ b → After log n (change.Mark item given) (cond b (marked i) i)
    by true e = λ _. marked_now i e k.0
    by false e = stays log n (change.Mark item given) i h.0

step : (log : Log) (n : Usn) (c : Change) → All (ByMark log) (items_of log) → All (After log n c) (effect (items_of log) c n)
step log n (change.Make item parent name k size identity) h =
    all_append (After log n (change.Make item parent name k size identity)) (items_of log) (made item parent name k size identity (pin_of (items_of log) parent) n ∷ []) (others log n (change.Make item parent name k size identity) (items_of log) h) ((λ e. no_way e), tt)
step log n (change.Remove item) h = all_filter (After log n (change.Remove item)) (λ i. not (i.id.0 == item.0)) (items_of log) (others log n (change.Remove item) (items_of log) h)
step log n (change.Move item parent name) h = keeps log n (change.Move item parent name) item (moved parent name (pin_of (items_of log) parent) n) (λ i k e. no_way e) (items_of log) h
step log n (change.Write item at bytes) h = keeps log n (change.Write item at bytes) item (wrote at bytes n) (λ i k e. no_way e) (items_of log) h
step log n (change.Size item size) h = keeps log n (change.Size item size) item (sized size n) (λ i k e. no_way e) (items_of log) h
step log n (change.Filled item start bytes) h = keeps log n (change.Filled item start bytes) item (got start bytes) (λ i k. stays log n (change.Filled item start bytes) i k) (items_of log) h
step log n (change.Validated item start len) h = keeps log n (change.Validated item start len) item (validated_in start len) (λ i k. stays log n (change.Validated item start len) i k) (items_of log) h
step log n (change.Emptied item start len) h = keeps log n (change.Emptied item start len) item (left_out start len) (λ i k. stays log n (change.Emptied item start len) i k) (items_of log) h
step log n (change.SetPin item pin) h = keeps log n (change.SetPin item pin) item (pinned pin) (λ i k. stays log n (change.SetPin item pin) i k) (items_of log) h
step log n (change.Mark item given) h = marks log n item given h
step log n (change.Clear item) h = keeps log n (change.Clear item) item unmarked (λ i k e. no_way e) (items_of log) h
step log n (change.Convert item identity) h = keeps log n (change.Convert item identity) item (converted identity n) (λ i k e. no_way e) (items_of log) h
step log n (change.Revert item) h = keeps log n (change.Revert item) item (reverted n) (λ i k e. no_way e) (items_of log) h
step log n (change.Rebase item identity len at) h = keeps log n (change.Rebase item identity len at) item (rebased identity len at) (λ i k. stays log n (change.Rebase item identity len at) i k) (items_of log) h
step log n (change.Take item identity size) h = keeps log n (change.Take item identity size) item (took identity size n) (λ i k e. no_way e) (items_of log) h
step log n (change.Copy item from parent name) h =
    all_append (After log n (change.Copy item from parent name)) (items_of log) (copies item parent name (pin_of (items_of log) parent) n (item_of (items_of log) from)) (others log n (change.Copy item from parent name) (items_of log) h) (by (item_of (items_of log) from)) where
      by : (o : Option Item) → All (After log n (change.Copy item from parent name)) (copies item parent name (pin_of (items_of log) parent) n o)
      by None = tt
      by (Some i) = ((λ e. no_way e), tt)
step log n (change.Populated item) h = keeps log n (change.Populated item) item populated (λ i k. stays log n (change.Populated item) i k) (items_of log) h
step log n (change.Keep item on) h = keeps log n (change.Keep item on) item (kept on) (λ i k. stays log n (change.Keep item on) i k) (items_of log) h

all_marked : (front log : Log) → All (ByMark front) (items_of front) → All (ByMark (front ++ log)) (items_of (front ++ log))
all_marked front [] h = subst (λ (l : Log). All (ByMark l) (items_of l)) (sym (append-nil front)) h
all_marked front (c ∷ cs) h =
    subst (λ (l : Log). All (ByMark l) (items_of l)) (append_assoc front (c ∷ []) cs)
    (all_marked (front ++ c ∷ []) cs (subst (λ (items : List Item). All (ByMark (front ++ c ∷ [])) items) (sym (items_more (root ∷ []) front c.0 c.1)) (step front c.0 c.1 h)))

-- of each log
pub in_sync_by_mark : (log : Log) → All (λ i. i.in_sync ≡ true → IsMarked log i.id i.number) (items_of log)
in_sync_by_mark log = all_marked [] log ((λ e. no_way e), tt)

-- what a path leads to is an item, or the root

walk_all : (P : Item → Type 0) (items : List Item) → All P items → (at : Item) (names : List (List ℕ)) (i : Item) → P at → walk items at names ≡ Ok i → P i
walk_all P items h at [] i k e = let z : at ≡ i = cc in subst P z k
walk_all P items h at (n ∷ ns) i k e = one (not at.directory) (not at.populated) (child_of items at.id n) refl e (λ j. walk_all P items h j ns i) where
  one : (a b : Bool) (o : Option Item) → child_of items at.id n ≡ o
      → cond a (Err code.NotDirectory) (cond b (Err code.NotPopulated) (elim o as (λ _. Result Item Code) [ None ↦ Err code.NotFound | Some j ↦ walk items j ns ])) ≡ Ok i → ((j : Item) → P j → walk items j ns ≡ Ok i → P i) → P i
  one true b o q e g = absurd (bad code.NotDirectory e) where
    bad : (c : Code) → ◌≡◌ {A = Result Item Code} (Err c) (Ok i) → ⊥
    bad c e = cc
  one false true o q e g = absurd (bad code.NotPopulated e) where
    bad : (c : Code) → ◌≡◌ {A = Result Item Code} (Err c) (Ok i) → ⊥
    bad c e = cc
  one false false None q e g = absurd (bad code.NotFound e) where
    bad : (c : Code) → ◌≡◌ {A = Result Item Code} (Err c) (Ok i) → ⊥
    bad c e = cc
  one false false (Some j) q e g = g j (all_found P (is_child_named at.id n) items j q h).0 e

root_all : (P : Item → Type 0) (items : List Item) → P root → All P items → P (root_of items)
root_all P [] r h = r
root_all P (i ∷ is) r h = h.0

pub path_all : (P : Item → Type 0) (items : List Item) (path : List ℕ) (i : Item) → P root → All P items → find_path items path ≡ Ok i → P i
path_all P items path i r h e = by (bad_names (names_of path)) e where
  by : (o : Option Code) → refused_or o (walk items (root_of items) (names_of path)) ≡ Ok i → P i
  by (Some c) e = absurd (bad c e) where
    bad : (c : Code) → ◌≡◌ {A = Result Item Code} (Err c) (Ok i) → ⊥
    bad c e = cc
  by None e = walk_all P items h (root_of items) (names_of path) i (root_all P items r h) e

-- what `info` shows

abbrev IsInfo : Item → ItemId → Bool → Usn → Type 0
IsInfo i item in_sync number = (i.id ≡ item) × (i.in_sync ≡ in_sync) × (i.number ≡ number)

info_is : (i : Item) (item : ItemId) (kind : Kind) (size : ℕ) (pin : Pin) (in_sync : Bool) (number : Usn) (identity : List ℕ) → info_of i ≡ shown.Info item kind size pin in_sync number identity → IsInfo i item in_sync number
info_is i item kind size pin in_sync number identity e = inner i.id (kind_of i) (size_of i) i.pin i.in_sync i.number i.identity e where
  inner : (a : ItemId) (b : Kind) (c : ℕ) (d : Pin) (f : Bool) (g : Usn) (h : List ℕ) → ◌≡◌ {A = Shown} (shown.Info a b c d f g h) (shown.Info item kind size pin in_sync number identity) → (a ≡ item) × (f ≡ in_sync) × (g ≡ number)
  inner a b c d f g h z = (let x : a ≡ item = cc in x, let x : f ≡ in_sync = cc in x, let x : g ≡ number = cc in x)

pub info_shows : (m : Mode) (s : State) (path : List ℕ) (a : Answer) (t : State) (item : ItemId) (kind : Kind) (size : ℕ) (pin : Pin) (in_sync : Bool) (number : Usn) (identity : List ℕ)
    → IsStep m s (informing path) a t → a.shown ≡ shown.Info item kind size pin in_sync number identity → (i : Item) × (find_path (items_now s) path ≡ Ok i) × IsInfo i item in_sync number
info_shows m s path a t item kind size pin in_sync number identity is e = by (step_case m s (informing path) a t is) where
  Goal : Type 0
  Goal = (i : Item) × (find_path (items_now s) path ≡ Ok i) × IsInfo i item in_sync number

  refused : (c : Code) → ◌≡◌ {A = Shown} (shown.Refused c) (shown.Info item kind size pin in_sync number identity) → Goal
  refused c z = cc

  found : (r : Result Item Code) → find_path (items_now s) path ≡ r → (q : Shown) → q ≡ shown.Info item kind size pin in_sync number identity → Ends (mapped (λ x. with_filter x (begun s)) (on_ok info_item r (begun s).filter)) q t → Goal
  found (Ok i) f q z h = (i, f, info_is i item kind size pin in_sync number identity (sym h.0 ∙ z))
  found (Err c) f q z h = refused c (sym h.0 ∙ z)

  over : IsOver s (informing path) (t, a) → Goal
  over (inl h) = found (find_path (items_now s) path) refl h.0 (sym (ap (λ (x : Answer). x.shown) h.2) ∙ e) h.1
  over (inr h) = refused code.Device (sym (ap (λ (x : Answer). x.shown) h.3) ∙ e)

  by : IsCase s (informing path) (t, a) → Goal
  by (inl h) = refused h.0 (sym (ap (λ (x : Answer). x.shown) h.3) ∙ e)
  by (inr h) = over h.1

pub shown_by_mark : (m : Mode) (remote : Held) (clusters : ℕ) (report : Report) (last : State) → IsFresh remote → Runs m (start m remote clusters) report last → InSyncByMark report
shown_by_mark m remote clusters report last fresh runs before path a item kind size pin number identity is e =
    let x = moment m remote clusters report last before (informing path) a runs is in
    let k = info_shows m x.old path a x.new item kind size pin true number identity x.step e in
    let items : items_now x.old ≡ items_of (standing before) = (started_of_log m remote clusters before x.old x.runs).0 ∙ ap items_of (shows_all m remote clusters before x.old fresh x.runs) in
    let found : find_path (items_of (standing before)) path ≡ Ok k.0 = subst (λ (is : List Item). find_path is path ≡ Ok k.0) items k.1 in
    let mark : IsMarked (standing before) k.0.id k.0.number = path_all (ByMark (standing before)) (items_of (standing before)) path k.0 (λ e. no_way e) (in_sync_by_mark (standing before)) found k.2.1 in
    subst (λ (n : Usn). IsMarked (standing before) item n) k.2.2 (subst (λ (id : ItemId). IsMarked (standing before) id k.0.number) k.2.0 mark)

-- at the number given

number_at : (item : ItemId) (number given : Usn) (items : List Item) → has_number item number items ≡ true → Each item (λ i. given ≡ i.number) items → given ≡ number
number_at item number given [] had h = no_way had
number_at item number given (i ∷ is) had h = by (i.id.0 == item.0) refl (same_usn i.number number) refl had (λ k. number_at item number given is k h.1) where
  by : (a : Bool) → (i.id.0 == item.0) ≡ a → (b : Bool) → same_usn i.number number ≡ b → ((a && b) || has_number item number is) ≡ true → (has_number item number is ≡ true → given ≡ number) → given ≡ number
  by true e true f k g = h.0 e ∙ usn_same i.number number f
  by true e false f k g = g k
  by false e b f k g = g k

pub marks_give : (remote : Held) (clusters : ℕ) (report : Report) (last : State) → IsFresh remote → IsFair last.link → Runs mode.Replay (start mode.Replay remote clusters) report last → MarksGiveNumbers report
marks_give remote clusters report last fresh fair runs item number m =
    let C : Log → Usn → Change → Type 0 = IsChangeRight last.link.remote in
    let all : EachMade C [] (standing report) = subst (λ (log : Log). EachMade C [] log) (shows_all mode.Replay remote clusters report last fresh runs) (changes_right remote clusters report last runs fresh fair) in
    let here : C m.before m.own (change.Mark item m.given) = (made_behind C [] m.before ((m.own, change.Mark item m.given) ∷ m.after) (subst (λ (log : Log). EachMade C [] log) m.parts all)).0 in
    number_at item number m.given (items_of m.before) m.had (each_weaker item _ (λ i. m.given ≡ i.number) (λ i k. k.0) (items_of m.before) here)
