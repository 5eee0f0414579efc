-- How many bytes a change and a commit write.
use Rattle.std.proofs.Common.{◌≡◌, ℕ, ◌+◌, ◌*◌, ◌≤◌, Bool, true, false, ◌&&◌, cond, ltb, List, length, Option, Some, None, inl, refl, sym, ◌∙◌, ap, subst, arith}
use Rattle.std.specs.Prelude.{Result, Ok, Err, IfErr, IsErr, is_some}
use Rattle.std.proofs.lemmas.Bool.{true≢false}
use Rattle.cf_base.specs.declared.codes.CallError.{CallError}
use Rattle.cf_base.specs.declared.codes.CallError.TheVariants.{No, OutOfMemory}
use Rattle.std.proofs.lemmas.Option.{same_Some}
use Rattle.cf_base.specs.declared.changes.Change.{Change}
use Rattle.cf_base.specs.declared.ids.ItemId.{ItemId}
use Rattle.cf_base.specs.declared.ids.Usn.{Usn}
use Rattle.cf_base.specs.declared.items.Pin.{Pin}
use Rattle.cf_disk.specs.Disk.{Counts, State}
use Rattle.cf_model.specs.Blocks.{puts_into}
use Rattle.cf_model.specs.Costs.{most_of_change}
use Rattle.cf_model.specs.State.{Volume}
use Rattle.cf_table.specs.Changing.{item_of_change, stays}
use Rattle.cf_table.specs.Tables.{row_of}
use Rattle.cf_table.specs.declared.rows.Row.{Row}
use Rattle.cf_volume_changes.proofs.Judged.{plan_puts}
use Rattle.cf_volume_changes.specs.Calls.{Answers, OnDisk, StopsOnly}
use Rattle.cf_volume_changes.specs.Laid.{Plans}
use Rattle.cf_volume_changes.specs.Notes.{Notes, SetsNoted}
use Rattle.cf_volume.specs.Written.{IsAtPoint, NotesOnly, WritesAtMost, commit_bytes}
use Rattle.cf_volume_points.specs.At.{At}
use Rattle.cf_volume_points.specs.Known.{Known, or_now}
use Rattle.cf_volume_points.specs.Runs.{Ran}

-- a change of an item that stays, once it is planned
pub plan_writes : (s t : State) (k : Known) (v : Volume) (c : Change) (pin : Pin) (n : Usn) (row planned : Row) (blocks : List ℕ) → At s k v → stays c ≡ true → row_of k.table.rows (item_of_change c) ≡ Some row
    → Plans c pin n row planned blocks → Ran (4096 * length blocks) s t → WritesAtMost (most_of_change v.items c) s t
plan_writes s t k v c pin n row planned blocks at kind found plan ran =
    omega (arith, ap (λ (m : ℕ). 4096 * m) (plan_puts s k v c pin n row planned blocks at.now kind found plan), ran.written)

-- a row that is found twice is one
pub source_ran : (rows : List Row) (from : ItemId) (source r : Row) (pairs : List (ℕ × ℕ)) (s t : State) → row_of rows from ≡ Some source → row_of rows from ≡ Some r → pairs ≡ source.extents → Ran (4096 * length pairs) s t → Ran (4096 * length r.extents) s t
source_ran rows from source r pairs s t one two is ran =
    subst (λ (l : List (ℕ × ℕ)). Ran (4096 * length l) s t) (is ∙ ap (λ (q : Row). q.extents) (same_Some source r (sym one ∙ two))) ran

-- as many blocks as the change puts
pub puts_write : (s t : State) (v : Volume) (c : Change) (n : ℕ) → length (puts_into v.items c) ≡ n → Ran (4096 * n) s t → WritesAtMost (most_of_change v.items c) s t
puts_write s t v c n puts ran = omega (arith, ap (λ (m : ℕ). 4096 * m) puts, ran.written)

-- one call after another
pub writes_then : (n m : ℕ) (s t u : State) → WritesAtMost n s t → WritesAtMost m t u → WritesAtMost (n + m) s u
writes_then n m s t u p q = omega (arith, p, q)

pub writes_more : (n m : ℕ) (s t : State) → n ≤ m → WritesAtMost n s t → WritesAtMost m s t
writes_more n m s t le p = omega (arith, le, p)

-- of what is seen of a volume

pub seen_counts : {D T E : Type 0} {a b : OnDisk D} (state : D → State) (writes : ℕ → ℕ) (r : Result T E) (t : State) → a ≡ b → Counts (writes (commit_bytes a.known)) r (state a.disk) t → Counts (writes (commit_bytes b.known)) r (state b.disk) t
seen_counts {D} {T} {E} {a} {b} state writes r t e h = subst (λ (o : OnDisk D). Counts (writes (commit_bytes o.known)) r (state o.disk) t) e h

pub seen_writes : {D : Type 0} {a b : OnDisk D} (state : D → State) (n : Known → ℕ) (t : State) → a ≡ b → WritesAtMost (n a.known) (state a.disk) t → WritesAtMost (n b.known) (state b.disk) t
seen_writes {D} {a} {b} state n t e h = subst (λ (o : OnDisk D). WritesAtMost (n o.known) (state o.disk) t) e h

pub seen_notes : {D : Type 0} {a b : OnDisk D} (id : ItemId) (new : Known) → a ≡ b → NotesOnly id a.known new → NotesOnly id b.known new
seen_notes {D} {a} {b} id new e h = subst (λ (o : OnDisk D). NotesOnly id o.known new) e h

-- A row is noted

some_then : (b : Bool) (o : Option Row) → is_some (cond b (or_now o None) None) ≡ (b && is_some o)
some_then true None = refl
some_then true (Some r) = refl
some_then false None = refl
some_then false (Some r) = refl

pub notes_one : (id next : ItemId) (rows before after : List Row) → Notes id next rows before after → (other : ItemId) → (other.0 ≡ id.0 → ⊥)
    → (ltb other.0 next.0 && is_some (row_of after other)) ≡ true → (ltb other.0 next.0 && is_some (row_of before other)) ≡ true
notes_one id next rows before after notes other apart is =
    sym (some_then (ltb other.0 next.0) (row_of before other))
    ∙ sym (ap (λ (o : Option Row). is_some o) (notes.others other None apart))
    ∙ some_then (ltb other.0 next.0) (row_of after other)
    ∙ is

none_and : (b : Bool) → (b && false) ≡ true → ⊥
none_and true is = let z : false ≡ true = is in cc
none_and false is = let z : false ≡ true = is in cc

-- after a commit no row is noted
pub notes_after : (id : ItemId) (old mid new : Known) → IsAtPoint mid → NotesOnly id mid new → NotesOnly id old new
notes_after id old mid new point notes other apart is =
    absurd (none_and (ltb other.0 mid.next_then.0)
    (sym (ap (λ (l : List Row). ltb other.0 mid.next_then.0 && is_some (row_of l other)) point.rows) ∙ notes other apart is))

-- a row that is set is noted alone
pub sets_notes : (P : Row → Row → Type 0) (id : ItemId) (old new : Known) → SetsNoted P id old new → NotesOnly id old new
sets_notes P id old new h =
    subst (λ (k : Known). NotesOnly id old k) (sym h.known)
    (notes_one id old.next_then old.table.rows old.rows_then h.then' h.notes)

-- a call that the device or memory stopped
pub stops_answer : {D : Type 0} (c : Change) (v : Volume) (old new : OnDisk D) (r : Result Usn CallError) → IsErr r → IfErr r StopsOnly → Answers c v old r new
stops_answer {D} c v old new (Ok n) is stops = absurd (true≢false (sym is))
stops_answer {D} c v old new (Err OutOfMemory) is stops = tt
stops_answer {D} c v old new (Err (No code)) is stops = inl stops
