-- Each changed report fails its sentence.
use Rattle.std.proofs.Common.{◌≡◌, ◌⊎◌, ◌<◌, ◌≤◌, ℕ, Bool, true, false, List, [], ◌∷◌, ◌++◌, append-nil, refl, sym, ◌∙◌, ap, subst, inl, inr, arith, eq-eqb, take, drop, length}
use Rattle.std.specs.Prelude.{Option, Some, None, Ok, not, slice_get, slice_range, codes, is_some, ◌==◌, ◌&&◌, ◌||◌}
use Rattle.std.specs.List.{list_any}
use Rattle.std.proofs.lemmas.List.{append_assoc}
use Rattle.cf_base.specs.declared.answers.Answer.{Answer}
use Rattle.cf_base.specs.declared.answers.Shown.{Shown}
use Rattle.cf_base.specs.declared.answers.Shown.TheVariants as shown
use Rattle.cf_base.specs.declared.changes.Change.{Change}
use Rattle.cf_base.specs.declared.changes.Change.TheVariants as change
use Rattle.cf_base.specs.declared.codes.Code.{Code}
use Rattle.cf_base.specs.declared.codes.Code.TheVariants as code
use Rattle.cf_base.specs.declared.ids.ItemId.{ItemId}
use Rattle.cf_base.specs.declared.ids.Rid.{Rid}
use Rattle.cf_base.specs.declared.ids.Token.{Token}
use Rattle.cf_base.specs.declared.ids.Usn.{Usn}
use Rattle.cf_base.specs.declared.ids.WaitId.{WaitId}
use Rattle.cf_base.specs.declared.items.Kind.TheVariants as kind
use Rattle.cf_base.specs.declared.items.Pin.TheVariants as pin
use Rattle.cf_base.specs.declared.messages.Reply.{Reply}
use Rattle.cf_base.specs.declared.messages.Reply.TheVariants as reply
use Rattle.cf_base.specs.declared.messages.Why.TheVariants as why
use Rattle.cf_base.specs.declared.notices.Frame.TheVariants as frame
use Rattle.cf_base.specs.declared.notices.Notice.{Notice}
use Rattle.cf_base.specs.declared.notices.Notice.TheVariants as notice
use Rattle.cf_base.specs.declared.waits.End.TheVariants as end
use Rattle.cf_base.specs.declared.waits.WaitKind.TheVariants as wait_kind
use Rattle.cf_model.specs.Books.{PutFile, QueueEntry, no_book, opened_of}
use Rattle.cf_model.specs.Contents.{base_named}
use Rattle.cf_model.specs.Identities.{content, identity_of}
use Rattle.cf_model.specs.Items.{Item, item_of, root}
use Rattle.cf_model.specs.Kept.{heirs_of}
use Rattle.cf_model.specs.Logs.{items_of}
use Rattle.cf_model.specs.LookUp.{find_path}
use Rattle.cf_model.specs.Messages.{entry_live, message_at}
use Rattle.cf_model.specs.Missing.{Wait, span_of}
use Rattle.cf_model.specs.Numbers.{above, no_rid, root_rid}
use Rattle.cf_model.specs.Settling.{bytes_at}
use Rattle.cf_model.specs.State.{On, State, Volume, items_now}
use Rattle.cf_model.specs.Store.{Held, Recorded, RecordedDone, empty_remote}
use Rattle.cf_model.specs.Words.{part, says}
use Rattle.cf_model_laws.specs.GivenOnce.{WasGiven}
use Rattle.cf_model_laws.specs.Openings.{restarting}
use Rattle.cf_model_laws.proofs.KeptLocals.{any_after, any_at}
use Rattle.cf_model_headline.specs.Dehydrated.{DehydratesExactly}
use Rattle.cf_model_headline.specs.Headline.{FindsVolume}
use Rattle.cf_model_headline.specs.KeptBytes.{FlushedIsKept, IsHere, IsKept, IsUploaded}
use Rattle.cf_model_headline.specs.Marked.{InSyncByMark, IsMarked, MarksGiveNumbers, has_number}
use Rattle.cf_model_headline.specs.Reads.{AnswersRead, DataIsHeld, DataIsRight, IsIn, IsSpanOf, Reads, ReadsAtOnce}
use Rattle.cf_model_headline.specs.Refusals.{IsLeft, RefusalsLeave}
use Rattle.cf_model_headline.specs.Reports.{Report, changes_in, standing}
use Rattle.cf_model_headline.specs.Resumed.{ResumesRight}
use Rattle.cf_model_headline.specs.Stale.{DoneIsTaken, LateIsStale, NotDoneIsTaken}
use Rattle.cf_model_headline.specs.Tokens.{OneVersionEach}
use Rattle.cf_model_headline_rows.specs.Changed.{answer_at, arrived, asked, delivered, file_of, found_none, given_wrongly, in_sync, in_use, numbered, opened_again, pending, read_wrongly, refused, refused_create, refused_otherwise, resumed_as, second, taken, taken_over, turned_away, unmarked, unrecorded, until_arrived, uploaded, uploaded_new, usn, written}
use Rattle.cf_model_headline_rows.specs.Scripts.{crash, create_f, dehydrate_a, deliver, from_start, get_a, get_f, info_a, left_by, put_a, sync}

no_truth : false ≡ true → ⊥
no_truth z = cc

-- restarts

pub fewer_than_flushed : ResumesRight (resumed_as 0) → ⊥
fewer_than_flushed h =
    let r : Report = resumed_as 0 in
    let z : 1 ≤ 0 = (h.flushed ((create_f, answer_at 0 r) ∷ []) ((crash, answer_at 2 r) ∷ []) (answer_at 1 r) (answer_at 3 r) 1 0 (opened_of no_book) ([], refl) refl refl).1 in
    omega (arith, z)

pub more_than_stood : ResumesRight (resumed_as 2) → ⊥
more_than_stood h =
    let r : Report = resumed_as 2 in
    let z : 2 ≤ 1 = (h.first (take 3 r) (answer_at 3 r) 2 (opened_of no_book) ([], refl) refl).0 in
    omega (arith, z)

-- marks

-- whether a Mark of the item stands where it had the number
abbrev is_mark : ItemId → Change → Bool
is_mark item (change.Mark id given) = id.0 == item.0
is_mark item _ = false

abbrev marked_from : List (Usn × Change) → List (Usn × Change) → ItemId → Usn → Bool
marked_from front [] item number = false
marked_from front (c ∷ cs) item number = (is_mark item c.1 && has_number item number (items_of front)) || marked_from (front ++ c ∷ []) cs item number

or_later : (a b : Bool) → b ≡ true → (a || b) ≡ true
or_later true b h = refl
or_later false b h = h

marked_at : (front before after : List (Usn × Change)) (own given : Usn) (item : ItemId) (number : Usn) → has_number item number (items_of (front ++ before)) ≡ true → marked_from front (before ++ (own, change.Mark item given) ∷ after) item number ≡ true
marked_at front [] after own given item number had = rw (eq-eqb item.0 item.0 refl) (rw (subst (λ (f : List (Usn × Change)). has_number item number (items_of f) ≡ true) (append-nil front) had) refl)
marked_at front (c ∷ before) after own given item number had =
    or_later (is_mark item c.1 && has_number item number (items_of front)) _ (marked_at (front ++ c ∷ []) before after own given item number (subst (λ (f : List (Usn × Change)). has_number item number (items_of f) ≡ true) (sym (append_assoc front (c ∷ []) before)) had))

is_marked : (log : List (Usn × Change)) (item : ItemId) (number : Usn) → IsMarked log item number → marked_from [] log item number ≡ true
is_marked log item number m = subst (λ (l : List (Usn × Change)). marked_from [] l item number ≡ true) (sym m.parts) (marked_at [] m.before m.after m.own m.given item number m.had)

pub in_sync_without_a_mark : InSyncByMark unmarked → ⊥
in_sync_without_a_mark h =
    no_truth (is_marked (standing (take 2 unmarked)) second (usn 1 1)
    (h (take 2 unmarked) (codes "/a") (answer_at 2 unmarked) second kind.PlaceholderFile 2 pin.Unspecified (usn 1 1) (identity_of (record { 0 = 2 }) (record { 0 = 2 }) (record { 0 = 1 })) ([], refl) refl))

pub in_sync_at_another_number : InSyncByMark numbered → ⊥
in_sync_at_another_number h =
    no_truth (is_marked (standing (take 2 numbered)) second (usn 1 2)
    (h (take 2 numbered) (codes "/a") (answer_at 2 numbered) second kind.PlaceholderFile 2 pin.Unspecified (usn 1 2) (identity_of (record { 0 = 2 }) (record { 0 = 2 }) (record { 0 = 1 })) ([], refl) refl))

abbrev made : Change
made = change.Make second (record { 0 = 1 }) (codes "a") kind.PlaceholderFile 2 (identity_of (record { 0 = 2 }) (record { 0 = 2 }) (record { 0 = 1 }))

-- the changes that the report shows
abbrev shown_wrongly : List (Usn × Change)
shown_wrongly = (usn 1 1, made) ∷ (usn 1 2, change.Mark second (usn 7 7)) ∷ []

given_so : standing given_wrongly ≡ shown_wrongly
given_so = refl

wrong_number : (report : Report) → standing report ≡ shown_wrongly → MarksGiveNumbers report → ⊥
wrong_number report same h =
    let z : 7 ≡ 1 = ap (λ (u : Usn). u.epoch) (h second (usn 1 1) (record { before = (usn 1 1, made) ∷ []; own = usn 1 2; given = usn 7 7; after = []; parts = same; had = refl })) in
    omega (arith, z)

pub another_number_given : MarksGiveNumbers given_wrongly → ⊥
another_number_given h = wrong_number given_wrongly given_so h

-- refusals

pub a_refusal_that_changes : RefusalsLeave written create_f refused_create from_start → ⊥
a_refusal_that_changes h =
    let left : IsLeft written from_start = h.calls refl refl refl refl (λ e. let y : ◌≡◌ {A = Shown} (shown.Refused code.Exists) (shown.Refused code.Device) = e in cc) in
    let z : 0 ≡ 2 = ap (λ (v : Volume). length v.log) left.volume in
    omega (arith, z)

-- dehydrations

pub refused_without_a_cause : DehydratesExactly in_sync dehydrate_a refused → ⊥
refused_without_a_cause h =
    let z : ◌≡◌ {A = Option Code} (Some code.Pinned) None =
    h (codes "/a") None (file_of in_sync) refl (record { on = refl; named = refl; file = refl; placeholder = refl; whole = refl; policy = refl }) (λ e. let y : ◌≡◌ {A = Shown} (shown.Refused code.Pinned) (shown.Refused code.Device) = e in cc) in
    cc

pub refused_for_another_cause : DehydratesExactly in_use dehydrate_a refused_otherwise → ⊥
refused_for_another_cause h =
    let z : ◌≡◌ {A = Option Code} (Some code.NotInSync) (Some code.InUse) =
    h (codes "/a") None (file_of in_use) refl (record { on = refl; named = refl; file = refl; placeholder = refl; whole = refl; policy = refl }) (λ e. let y : ◌≡◌ {A = Shown} (shown.Refused code.NotInSync) (shown.Refused code.Device) = e in cc) in
    cc

-- reads

abbrev first_wait : WaitId
first_wait = record { 0 = record { epoch = 1; number = 1 } }

abbrev waiting_read : Wait
waiting_read = record { id = first_wait; kind = wait_kind.Read; item = second; handle = None; span = span_of 0 2 }

abbrev filled_line : Notice
filled_line = notice.Change (usn 1 3) (change.Filled second 0 (codes "hi"))

abbrev wrong_line : Notice
wrong_line = notice.Done first_wait (end.Data (98 ∷ 105 ∷ []))

abbrev marked_then : List (Usn × Change)
marked_then = (usn 1 1, made) ∷ (usn 1 2, change.Mark second (usn 1 1)) ∷ []

abbrev filled_file : Item
filled_file = part (λ i. i) root (item_of (items_of (marked_then ++ changes_in (filled_line ∷ []))) second)

wrong_byte : (held : Held) (before : Report) (s : State) (a : Answer) → a.notes ≡ filled_line ∷ wrong_line ∷ [] → s.filter.waiting.waits ≡ waiting_read ∷ [] → s.filter.waiting.wait_count ≡ 1 → s.filter.volume.epoch ≡ 1 → standing before ≡ marked_then
    → slice_range (content held filled_file) 0 2 ≡ 104 ∷ 105 ∷ [] → DataIsRight held before s a → ⊥
wrong_byte held before s a notes waits count epoch log bytes h =
    by (subst (λ (ws : List Wait). IsIn x.0 ws) waits x.1) (subst (λ (l : List (Usn × Change)). IsSpanOf held (l ++ changes_in (filled_line ∷ [])) x.0.item x.0.span (98 ∷ 105 ∷ [])) log x.3)
  where
    itself : 1 ≤ 1
    itself = omega arith

    given : WasGiven s.filter.volume.epoch s.filter.waiting.wait_count first_wait.0
    given = subst (λ (e : ℕ). WasGiven e s.filter.waiting.wait_count first_wait.0) (sym epoch) (subst (λ (n : ℕ). WasGiven 1 n first_wait.0) (sym count) (inr (refl, itself)))

    x : (w : Wait) × IsIn w s.filter.waiting.waits × (w.id ≡ first_wait) × IsSpanOf held (standing before ++ changes_in (filled_line ∷ [])) w.item w.span (98 ∷ 105 ∷ [])
    x = h (filled_line ∷ []) [] wrong_line first_wait (98 ∷ 105 ∷ []) notes refl given

    wrong : ◌≡◌ {A = List ℕ} (98 ∷ 105 ∷ []) (104 ∷ 105 ∷ []) → ⊥
    wrong e = let z : ◌≡◌ {A = ℕ} 98 104 = cc in omega (arith, z)

    by : {w : Wait} → IsIn w (waiting_read ∷ []) → IsSpanOf held (marked_then ++ changes_in (filled_line ∷ [])) w.item w.span (98 ∷ 105 ∷ []) → ⊥
    by (inl e) span = wrong (subst (λ (v : Wait). IsSpanOf held (marked_then ++ changes_in (filled_line ∷ [])) v.item v.span (98 ∷ 105 ∷ [])) e span filled_file refl refl ∙ bytes)
    by (inr none) span = absurd none

lines_so : delivered.notes ≡ filled_line ∷ wrong_line ∷ []
lines_so = refl

waits_so : arrived.filter.waiting.waits ≡ waiting_read ∷ []
waits_so = refl

count_so : arrived.filter.waiting.wait_count ≡ 1
count_so = refl

epoch_so : arrived.filter.volume.epoch ≡ 1
epoch_so = refl

log_so : standing until_arrived ≡ marked_then
log_so = refl

bytes_so : slice_range (content arrived.link.remote filled_file) 0 2 ≡ 104 ∷ 105 ∷ []
bytes_so = refl

pub another_byte_delivered : DataIsRight arrived.link.remote until_arrived arrived delivered → ⊥
another_byte_delivered h = wrong_byte arrived.link.remote until_arrived arrived delivered lines_so waits_so count_so epoch_so log_so bytes_so h

-- the same line, for the call that was answered `pending`
wrong_answer : (held : Held) (s : State) (before : Report) (p a : Answer) (i : Item) → a.notes ≡ filled_line ∷ wrong_line ∷ [] → standing before ≡ marked_then → slice_range (content held filled_file) 0 2 ≡ 104 ∷ 105 ∷ []
    → p.shown ≡ shown.Pending first_wait → Reads s get_a i (span_of 0 2) → i.id ≡ second → AnswersRead held s get_a p before a → ⊥
wrong_answer held s before p a i notes log bytes waits reads id h = wrong (span filled_file found refl ∙ bytes) where
  span : IsSpanOf held (standing before ++ changes_in (filled_line ∷ [])) i.id (span_of 0 2) (98 ∷ 105 ∷ [])
  span = h i (span_of 0 2) first_wait reads waits (filled_line ∷ []) [] wrong_line (98 ∷ 105 ∷ []) notes refl

  found : item_of (items_of (standing before ++ changes_in (filled_line ∷ []))) i.id ≡ Some filled_file
  found = ap (λ (l : List (Usn × Change)). item_of (items_of (l ++ changes_in (filled_line ∷ []))) i.id) log ∙ ap (λ (k : ItemId). item_of (items_of (marked_then ++ changes_in (filled_line ∷ []))) k) id

  wrong : ◌≡◌ {A = List ℕ} (98 ∷ 105 ∷ []) (104 ∷ 105 ∷ []) → ⊥
  wrong e = let z : ◌≡◌ {A = ℕ} 98 104 = cc in omega (arith, z)

pending_so : pending.shown ≡ shown.Pending first_wait
pending_so = refl

file_so : find_path (items_now asked) (codes "/a") ≡ Ok (file_of asked)
file_so = refl

id_so : (file_of asked).id ≡ second
id_so = refl

pub another_byte_answered : AnswersRead arrived.link.remote asked get_a pending until_arrived delivered → ⊥
another_byte_answered h = wrong_answer arrived.link.remote asked until_arrived pending delivered (file_of asked) lines_so log_so bytes_so pending_so (file_so, refl) id_so h

-- and of what is held
wrong_held : (before : Report) (s : State) (a : Answer) → a.notes ≡ filled_line ∷ wrong_line ∷ [] → s.filter.waiting.waits ≡ waiting_read ∷ [] → s.filter.waiting.wait_count ≡ 1 → s.filter.volume.epoch ≡ 1 → standing before ≡ marked_then → DataIsHeld before s a → ⊥
wrong_held before s a notes waits count epoch log h = by (subst (λ (ws : List Wait). IsIn x.0 ws) waits x.1) (x.3 ∙ ap (λ (l : List (Usn × Change)). bytes_at (items_of (l ++ changes_in (filled_line ∷ []))) x.0.item x.0.span) log) where
  itself : 1 ≤ 1
  itself = omega arith

  given : WasGiven s.filter.volume.epoch s.filter.waiting.wait_count first_wait.0
  given = subst (λ (e : ℕ). WasGiven e s.filter.waiting.wait_count first_wait.0) (sym epoch) (subst (λ (n : ℕ). WasGiven 1 n first_wait.0) (sym count) (inr (refl, itself)))

  x : (w : Wait) × IsIn w s.filter.waiting.waits × (w.id ≡ first_wait) × (98 ∷ 105 ∷ [] ≡ bytes_at (items_of (standing before ++ changes_in (filled_line ∷ []))) w.item w.span)
  x = h (filled_line ∷ []) [] wrong_line first_wait (98 ∷ 105 ∷ []) notes refl given

  wrong : ◌≡◌ {A = List ℕ} (98 ∷ 105 ∷ []) (104 ∷ 105 ∷ []) → ⊥
  wrong e = let z : ◌≡◌ {A = ℕ} 98 104 = cc in omega (arith, z)

  by : {w : Wait} → IsIn w (waiting_read ∷ []) → 98 ∷ 105 ∷ [] ≡ bytes_at (items_of (marked_then ++ changes_in (filled_line ∷ []))) w.item w.span → ⊥
  by (inl e) held = wrong (subst (λ (v : Wait). 98 ∷ 105 ∷ [] ≡ bytes_at (items_of (marked_then ++ changes_in (filled_line ∷ []))) v.item v.span) e held)
  by (inr none) held = absurd none

pub another_byte_held : DataIsHeld until_arrived arrived delivered → ⊥
another_byte_held h = wrong_held until_arrived arrived delivered lines_so waits_so count_so epoch_so log_so h

-- replies

abbrev old_reply : Reply
old_reply = reply.Bytes (record { epoch = 1; number = 1 }) 0 (codes "hi")

reply_so : message_at opened_again 6 ≡ Some (frame.Reply 5 old_reply)
reply_so = refl

now_so : opened_again.filter.volume.epoch ≡ 2
now_so = refl

on_so : opened_again.power ≡ On
on_so = refl

linked_so : opened_again.filter.connected ≡ true
linked_so = refl

pub an_old_reply_taken : LateIsStale opened_again (deliver 6) taken → ⊥
an_old_reply_taken h = wrong (h old_reply (6, 5, refl, reply_so, on_so, linked_so) (subst (λ (e : ℕ). 1 < e) (sym now_so) less)) where
  less : 1 < 2
  less = omega arith

  wrong : ◌≡◌ {A = Shown} shown.Done (shown.Refused code.Stale) → ⊥
  wrong z = cc

-- the name was taken by another device
abbrev not_made : Reply
not_made = reply.Refused (record { 0 = record { epoch = 1; number = 1 } }) why.NameTaken (record { 0 = 0 })

refusal_so : message_at uploaded 3 ≡ Some (frame.Reply 2 not_made)
refusal_so = refl

waited_for : is_some (entry_live uploaded (record { 0 = record { epoch = 1; number = 1 } })) ≡ true
waited_for = refl

up_so : uploaded.power ≡ On
up_so = refl

joined_so : uploaded.filter.connected ≡ true
joined_so = refl

pub an_upload_turned_away : NotDoneIsTaken uploaded (deliver 3) turned_away → ⊥
an_upload_turned_away h = h not_made (3, 2, refl, refusal_so, up_so, joined_so) live refl where
  live : ◌≡◌ {A = Option QueueEntry} (entry_live uploaded (record { 0 = record { epoch = 1; number = 1 } })) None → ⊥
  live e = no_truth (sym (ap (λ (o : Option QueueEntry). is_some o) e) ∙ waited_for)

abbrev first_token : Token
first_token = record { 0 = record { epoch = 1; number = 1 } }

abbrev new_upload : QueueEntry
new_upload = record { token = first_token; item = second; action = PutFile; number = usn 1 2; rid = no_rid; parent = root_rid; name = codes "f" }

abbrev its_file : Rid
its_file = record { 0 = 2 }

abbrev its_done : Reply
its_done = reply.Done first_token its_file (record { 0 = 1 })

done_so : message_at uploaded_new 3 ≡ Some (frame.Reply 2 its_done)
done_so = refl

on_its_way : entry_live uploaded_new first_token ≡ Some new_upload
on_its_way = refl

made_up : uploaded_new.power ≡ On
made_up = refl

made_joined : uploaded_new.filter.connected ≡ true
made_joined = refl

pub a_done_upload_turned_away : DoneIsTaken uploaded_new (deliver 3) turned_away → ⊥
a_done_upload_turned_away h = h its_done (3, 2, refl, done_so, made_up, made_joined) live refl where
  live : ◌≡◌ {A = Option QueueEntry} (entry_live uploaded_new first_token) None → ⊥
  live e = let y : ◌≡◌ {A = Option QueueEntry} (Some new_upload) None = sym on_its_way ∙ e in cc

pub another_byte_read : ReadsAtOnce written.link.remote written get_f read_wrongly → ⊥
another_byte_read h = wrong (h (file_of written) (span_of 0 1) (refl, refl) refl refl refl (λ e. let y : ◌≡◌ {A = Shown} (shown.Ended (end.Data (codes "b"))) (shown.Refused code.Device) = e in cc)) where
  wrong : ◌≡◌ {A = Shown} (shown.Ended (end.Data (98 ∷ []))) (shown.Ended (end.Data (97 ∷ []))) → ⊥
  wrong e = let y : ◌≡◌ {A = List ℕ} (98 ∷ []) (97 ∷ []) = cc in let z : ◌≡◌ {A = ℕ} 98 97 = cc in omega (arith, z)

-- flushed bytes

abbrev holds : List (Usn × Change) → ℕ → ℕ → ItemId → Bool
holds log p b item = says (λ i. says (λ h. says (λ x. x == b) h) (slice_get i.held p)) (item_of (items_of log) item)

abbrev uploads : Held → Usn → ℕ → ℕ → Change → Bool
uploads held n p b (change.Rebase item identity len at) = not (above n at) && says (λ x. x == b) (slice_get (base_named held identity) p)
uploads held n p b _ = false

is_kept : (held : Held) (log : List (Usn × Change)) (file : ItemId) (n : Usn) (p b : ℕ) → IsKept held log file n p b → (list_any (holds log p b) (heirs_of log file) || list_any (λ c. uploads held n p b c.1) log) ≡ true
is_kept held log file n p b k = by k.where_it_is where
  or_first : (x y : Bool) → x ≡ true → (x || y) ≡ true
  or_first true y h = refl
  or_first false y h = absurd (no_truth h)

  here : IsHere log k.item p b → holds log p b k.item ≡ true
  here h = rw h.found (rw h.byte (eq-eqb b b refl))

  any_here : (c : Usn × Change) (cs : List (Usn × Change)) → uploads held n p b c.1 ≡ true → list_any (λ c. uploads held n p b c.1) (c ∷ cs) ≡ true
  any_here c cs e = rw e refl

  uploaded : (u : IsUploaded held log k.item n p b) → uploads held n p b (change.Rebase k.item u.identity u.len u.at) ≡ true
  uploaded u = rw u.taken (rw u.byte (eq-eqb b b refl))

  by : IsHere log k.item p b ⊎ IsUploaded held log k.item n p b → (list_any (holds log p b) (heirs_of log file) || list_any (λ c. uploads held n p b c.1) log) ≡ true
  by (inl h) = or_first _ _ (any_at (holds log p b) (heirs_of log file) k.item k.heir (here h))
  by (inr u) = or_later (list_any (holds log p b) (heirs_of log file)) _
      (subst (λ (l : List (Usn × Change)). list_any (λ c. uploads held n p b c.1) l ≡ true) (sym u.parts) (any_after (λ (c : Usn × Change). uploads held n p b c.1) u.before _ (any_here (u.own, change.Rebase k.item u.identity u.len u.at) u.after (uploaded u))))

pub a_flushed_byte_gone : FlushedIsKept taken_over empty_remote → ⊥
a_flushed_byte_gone h =
    no_truth (is_kept empty_remote (standing taken_over) second (usn 1 2) 0 97
    (h.kept (take 3 taken_over) (answer_at 3 taken_over) 2 second (usn 1 2) 0 97 (drop 4 taken_over, refl) refl
    (record {
      before = take 1 (standing taken_over);
      write = change.Write second 0 (97 ∷ []);
      after = [];
      parts = refl;
      written = record { item = part (λ i. i) root (item_of (items_of (take 1 (standing taken_over))) second); found = refl; file = refl; byte = refl };
    }) (((λ z. refl), tt), tt)))

-- tokens

pub a_version_without_a_token : OneVersionEach empty_remote unrecorded → ⊥
a_version_without_a_token h = by (h.made (record { 0 = 2 }) (record { 0 = 1 }) (codes "hi") refl) where
  by : ◌≡◌ {A = Option (List ℕ)} None (Some (codes "hi")) ⊎ ((token : Token) × (◌≡◌ {A = Option Recorded} None (Some (RecordedDone (record { 0 = 2 }) (record { 0 = 1 }))))) → ⊥
  by (inl e) = cc
  by (inr e) = let z : ◌≡◌ {A = Option Recorded} None (Some (RecordedDone (record { 0 = 2 }) (record { 0 = 1 }))) = e.1 in cc

-- openings

pub no_volume_found : FindsVolume restarting found_none → ⊥
no_volume_found h = h refl refl

-- changes

pub a_change_not_shown : (left_by (put_a ∷ sync ∷ info_a ∷ [])).filter.volume.log ≡ standing unmarked → ⊥
a_change_not_shown h = let z : 2 ≡ 1 = ap (λ (log : List (Usn × Change)). length log) h in omega (arith, z)
