-- What the tests of a report tell.
use Rattle.std.proofs.Common.{◌≡◌, ◌⊎◌, ◌<◌, ◌+◌, ◌/◌, ◌%◌, ◌&&◌, ◌||◌, ◌==◌, not, ℕ, zero, suc, Bool, true, false, cond, List, [], ◌∷◌, ◌++◌, codes, drop, length, refl, sym, ◌∙◌, ap, subst, arith, inl, inr, append-nil, append_assoc}
use Rattle.std.specs.Char.{is_ascii_digit}
use Rattle.std.specs.List.{flat_map}
use Rattle.std.proofs.lemmas.Bool.{eq-eqb, eqb-true, le-leb}
use Rattle.cf_base.specs.declared.answers.Answer.{Answer}
use Rattle.cf_base.specs.declared.answers.OpenedBook.{OpenedBook}
use Rattle.cf_base.specs.declared.answers.Shown.{Shown}
use Rattle.cf_base.specs.declared.answers.Shown.TheVariants as shown
use Rattle.cf_base.specs.declared.codes.Code.TheVariants as code
use Rattle.cf_base.specs.declared.notices.Frame.TheVariants as frame
use Rattle.cf_base.specs.declared.notices.Notice.{Notice}
use Rattle.cf_base.specs.declared.notices.Notice.TheVariants as notice
use Rattle.cf_base.specs.declared.events.Event.{Event}
use Rattle.cf_base.specs.declared.events.Event.TheVariants as event
use Rattle.cf_base.specs.declared.events.PeerEvent.{PeerEvent}
use Rattle.cf_base.specs.declared.messages.Reply.{Reply}
use Rattle.cf_base.specs.declared.notices.Sent.{Sent}
use Rattle.std.specs.Prelude.{None}
use Rattle.cf_base.specs.declared.policies.Mode.TheVariants as mode
use Rattle.cf_model.specs.Events.{on_event}
use Rattle.cf_model.specs.State.{State}
use Rattle.cf_model.specs.Trees.{Faults}
use Rattle.cf_check_ways.proofs.FirstAsks.{never_asks}
use Rattle.cf_report.specs.Texts.{notice_line, result_line}
use Rattle.cf_report.specs.Words.{decimal, digits}
use Rattle.cf_check_model.specs.Reports.{Begins}
use Rattle.cf_check_text.proofs.Clashes.{clash_no_meet, fault_or_message}
use Rattle.cf_check_text.proofs.Decimals.{last_digit, more_digits}
use Rattle.cf_check_ways.specs.Ways.{is_fault, is_of_peer}
use Rattle.cf_check_traces.specs.Decided.{IsStopped, MeetsFaults, MeetsResult}
use Rattle.cf_check_traces.specs.Tests.{begins, differs_plainly, ends_in_digits, fault_line_of_peer, is_device, meets_lines, meets_result, resumes_next, same_flag}
use Rattle.cf_check_traces.proofs.Decisions.{fault_alone, the_fault}

both : (a b : Bool) → (a && b) ≡ true → (a ≡ true) × (b ≡ true)
both true b e = (refl, e)
both false b e = let z : false ≡ true = e in absurd cc

-- the test says that the text begins so

pub begins_so : (front text : List ℕ) → begins front text ≡ true → Begins text front
begins_so [] text h = (text, refl)
begins_so (b ∷ bs) [] h = let z : false ≡ true = h in absurd cc
begins_so (b ∷ bs) (c ∷ cs) h =
    let x = both (b == c) (begins bs cs) h in
    let rest = begins_so bs cs x.1 in
    (rest.0, ap (λ (y : ℕ). y ∷ cs) (sym (eqb-true b c x.0)) ∙ ap (λ (ys : List ℕ). b ∷ ys) rest.1)

pub begins_test : (front rest : List ℕ) → begins front (front ++ rest) ≡ true
begins_test [] rest = refl
begins_test (b ∷ bs) rest = rw (eq-eqb b b refl) (begins_test bs rest)

pub begins_is : (front text : List ℕ) → Begins text front → begins front text ≡ true
begins_is front text b = ap (begins front) b.1 ∙ begins_test front b.0

dropped : (front rest : List ℕ) → drop (length front) (front ++ rest) ≡ rest
dropped [] rest = refl
dropped (b ∷ bs) rest = dropped bs rest

-- a text that begins with the first and then the second goes on with the second after the first
after_front : (front next text : List ℕ) → Begins text (front ++ next) → (begins front text ≡ true) × Begins (drop (length front) text) next
after_front front next text b =
    let is : text ≡ front ++ (next ++ b.0) = b.1 ∙ append_assoc front next b.0 in
    (ap (begins front) is ∙ begins_test front (next ++ b.0), (b.0, ap (drop (length front)) is ∙ dropped front (next ++ b.0)))

-- lines

message : (s : Sent) → (begins (codes "- sent ") (notice_line (notice.Message s)) ≡ true) ⊎ (begins (codes "- lost ") (notice_line (notice.Message s)) ≡ true)
message s = by s.lost
  where
    by : (lost : Bool) → (begins (codes "- sent ") (notice_line (notice.Message (record s { lost = lost }))) ≡ true) ⊎ (begins (codes "- lost ") (notice_line (notice.Message (record s { lost = lost }))) ≡ true)
    by true = inr refl
    by false = inl refl

longer : (front whole text : List ℕ) → begins front whole ≡ true → Begins text whole → begins front text ≡ true
longer front whole text h b =
    let x = begins_so front whole h in begins_is front text (x.0 ++ b.0, b.1 ∙ ap (λ (ys : List ℕ). ys ++ b.0) x.1 ∙ append_assoc front x.0 b.0)

not_here : (a b : Bool) → (not a && not b) ≡ true → (a ≡ true) ⊎ (b ≡ true) → ⊥
not_here true b h k = let z : false ≡ true = h in absurd cc
not_here false true h k = let z : false ≡ true = h in absurd cc
not_here false false h (inl e) = let z : false ≡ true = e in absurd cc
not_here false false h (inr e) = let z : false ≡ true = e in absurd cc

fault_then : (m : ℕ) (s : Sent) (rest : List ℕ) (here : Bool) (more : Bool) → begins (notice_line (notice.Fault m)) rest ≡ here → cond here more (differs_plainly (notice.Fault m) rest) ≡ true → Begins rest (notice_line (notice.Message s)) → ⊥
fault_then m s rest true more is h b = clash_no_meet (notice_line (notice.Fault m)) (notice_line (notice.Message s)) (fault_or_message m s) (rest, begins_so (notice_line (notice.Fault m)) rest is, b)
fault_then m s rest false more is h b =
    not_here (begins (codes "- sent ") rest) (begins (codes "- lost ") rest) h
    (elim (message s) as (λ _. (begins (codes "- sent ") rest ≡ true) ⊎ (begins (codes "- lost ") rest ≡ true)) [ inl x ↦ inl (longer (codes "- sent ") (notice_line (notice.Message s)) rest x b) | inr x ↦ inr (longer (codes "- lost ") (notice_line (notice.Message s)) rest x b) ])

-- a reply to request m, as message k
abbrev reply_of : ℕ → ℕ → Reply → Bool → Sent
reply_of k m r lost = record { message = k; frame = frame.Reply m r; lost = lost }

abbrev reply_line : ℕ → ℕ → Reply → Bool → Notice
reply_line k m r lost = notice.Message (reply_of k m r lost)

message_then : (m : ℕ) (k : ℕ) (r : Reply) (lost : Bool) (rest : List ℕ) (here : Bool) (more : Bool) → begins (notice_line (reply_line k m r lost)) rest ≡ here → cond here more (differs_plainly (reply_line k m r lost) rest) ≡ true → Begins rest (notice_line (notice.Fault m)) → ⊥
message_then m k r lost rest true more is h b = clash_no_meet (notice_line (notice.Fault m)) (notice_line (reply_line k m r lost)) (fault_or_message m (reply_of k m r lost)) (rest, b, begins_so (notice_line (reply_line k m r lost)) rest is)
message_then m k r lost rest false more is h b =
    let fault : begins (codes "- fault ") rest ≡ true = longer (codes "- fault ") (notice_line (notice.Fault m)) rest refl b in
    let z : not true ≡ true = ap not (sym fault) ∙ h in
    let bad : false ≡ true = z in absurd cc

-- past the lines that both have
past : (n : Notice) (ns : List Notice) (rest next : List ℕ) → meets_lines (n ∷ ns) rest ≡ true → Begins rest (notice_line n ++ next) → (meets_lines ns (drop (length (notice_line n)) rest) ≡ true) × Begins (drop (length (notice_line n)) rest) next
past n ns rest next h b =
    let x = after_front (notice_line n) next rest b in
    (sym (ap (λ (c : Bool). cond c (meets_lines ns (drop (length (notice_line n)) rest)) (differs_plainly n rest)) x.0) ∙ h, x.1)

no_message : (before after : List Notice) (m : ℕ) (s : Sent) (rest : List ℕ) → meets_lines (before ++ notice.Fault m ∷ after) rest ≡ true → Begins rest (flat_map notice_line before ++ notice_line (notice.Message s)) → ⊥
no_message [] after m s rest h b = fault_then m s rest (begins (notice_line (notice.Fault m)) rest) (meets_lines after (drop (length (notice_line (notice.Fault m))) rest)) refl h b
no_message (n ∷ before) after m s rest h b =
    let b' : Begins rest (notice_line n ++ (flat_map notice_line before ++ notice_line (notice.Message s))) = (b.0, b.1 ∙ ap (λ (ys : List ℕ). ys ++ b.0) (append_assoc (notice_line n) (flat_map notice_line before) (notice_line (notice.Message s)))) in
    let x = past n (before ++ notice.Fault m ∷ after) rest (flat_map notice_line before ++ notice_line (notice.Message s)) h b' in
    no_message before after m s (drop (length (notice_line n)) rest) x.0 x.1

no_failure : (before after : List Notice) (m : ℕ) (k : ℕ) (r : Reply) (lost : Bool) (rest : List ℕ) → meets_lines (before ++ reply_line k m r lost ∷ after) rest ≡ true → Begins rest (flat_map notice_line before ++ notice_line (notice.Fault m)) → ⊥
no_failure [] after m k r lost rest h b = message_then m k r lost rest (begins (notice_line (reply_line k m r lost)) rest) (meets_lines after (drop (length (notice_line (reply_line k m r lost))) rest)) refl h b
no_failure (n ∷ before) after m k r lost rest h b =
    let b' : Begins rest (notice_line n ++ (flat_map notice_line before ++ notice_line (notice.Fault m))) = (b.0, b.1 ∙ ap (λ (ys : List ℕ). ys ++ b.0) (append_assoc (notice_line n) (flat_map notice_line before) (notice_line (notice.Fault m)))) in
    let x = past n (before ++ reply_line k m r lost ∷ after) rest (flat_map notice_line before ++ notice_line (notice.Fault m)) h b' in
    no_failure before after m k r lost (drop (length (notice_line n)) rest) x.0 x.1

-- results

same_so : (a b : Bool) → same_flag a b ≡ true → a ≡ b
same_so true b h = sym h
same_so false true h = let z : false ≡ true = h in absurd cc
same_so false false h = refl

told_result : (a b : Shown) (rest : List ℕ) → is_fault a ≡ begins fault_line_of_peer rest → is_of_peer b ≡ true → Begins rest (result_line b) → (fault : Bool) → is_fault b ≡ fault → is_fault a ≡ is_fault b
told_result a b rest same of h true is =
    same ∙ begins_is fault_line_of_peer rest (subst (λ (x : Shown). Begins rest (result_line x)) (the_fault b is) h) ∙ sym is
told_result a b rest same of h false is = by (begins fault_line_of_peer rest) refl
  where
    by : (here : Bool) → begins fault_line_of_peer rest ≡ here → is_fault a ≡ is_fault b
    by true e = absurd (fault_alone b of is (rest, begins_so fault_line_of_peer rest e, h))
    by false e = same ∙ e ∙ sym is

result_so : (a b : Answer) (rest : List ℕ) → meets_result a rest ≡ true → is_of_peer b.shown ≡ true → Begins rest (flat_map notice_line a.notes ++ result_line b.shown) → is_fault a.shown ≡ is_fault b.shown
result_so a b rest h of begun =
    let lines : List ℕ = flat_map notice_line a.notes in
    let x = after_front lines (result_line b.shown) rest begun in
    let test : same_flag (is_fault a.shown) (begins fault_line_of_peer (drop (length lines) rest)) ≡ true = sym (ap (λ (c : Bool). cond c (same_flag (is_fault a.shown) (begins fault_line_of_peer (drop (length lines) rest))) true) x.0) ∙ h in
    told_result a.shown b.shown (drop (length lines) rest) (same_so (is_fault a.shown) (begins fault_line_of_peer (drop (length lines) rest)) test) of x.1 (is_fault b.shown) refl

-- an answer that passes the test meets the faults that the report tells
pub meets_so : (a : Answer) (rest : List ℕ) → meets_lines a.notes rest ≡ true → MeetsFaults a rest
meets_so a rest h = record {
  no_reply = λ before after m n r lost is b. no_message before after m (record { message = n; frame = frame.Reply m r; lost = lost }) rest (subst (λ (ns : List Notice). meets_lines ns rest ≡ true) is h) b;
  no_fault = λ before after m n r lost is b. no_failure before after m n r lost rest (subst (λ (ns : List Notice). meets_lines ns rest ≡ true) is h) b;
}

not_one : (x y : Bool) → x ≡ y → ((x ≡ true) × (y ≡ false)) ⊎ ((y ≡ true) × (x ≡ false)) → ⊥
not_one x y e (inl h) = let z : true ≡ false = sym h.0 ∙ e ∙ h.1 in absurd cc
not_one x y e (inr h) = let z : true ≡ false = sym h.0 ∙ sym e ∙ h.1 in absurd cc

-- the result is tested, or the event asks nothing
pub alone_so : (s : State) (e : Event) (a : Answer) (rest : List ℕ) → meets_result a rest ≡ true → MeetsResult s e a rest
alone_so s e a rest h peer o b u alike step same begun one =
    not_one (is_fault a.shown) (is_fault b.shown) (result_so a b rest h one.1 (subst (λ (ns : List Notice). Begins rest (flat_map notice_line ns ++ result_line b.shown)) (sym same) begun)) one.2

pub alone_unasked : (s : State) (e : PeerEvent) (a : Answer) (t : State) (rest : List ℕ) → on_event (record { stop = None; forks = []; tellings = Faults ∷ [] }) s (event.Peer e) ≡ (t, a) → is_fault a.shown ≡ false → MeetsResult s (event.Peer e) a rest
alone_unasked s e a t rest is no_fault peer o b u alike step same begun one =
    let first : is_fault (on_event (record { stop = None; forks = []; tellings = Faults ∷ [] }) s (event.Peer e)).1.shown ≡ false = ap (λ (z : State × Answer). is_fault z.1.shown) is ∙ no_fault in
    not_one (is_fault a.shown) (is_fault b.shown) (no_fault ∙ sym (never_asks mode.Replay e s o alike first b u step)) one.2

-- the line of a restart that resumed

or_second : (a b : Bool) → b ≡ true → (a || b) ≡ true
or_second true b h = refl
or_second false b h = h

digit_is : (d : ℕ) → d < 10 → is_ascii_digit (48 + d) ≡ true
digit_is d lt = rw (le-leb 48 (48 + d) (omega arith)) (le-leb (48 + d) 57 (omega (arith, lt)))

digit_ends : (d : ℕ) (after : List ℕ) → d < 10 → ends_in_digits after ≡ true → ends_in_digits ((48 + d) ∷ after) ≡ true
digit_ends d after lt h = or_second ((48 + d) == 10) (is_ascii_digit (48 + d) && ends_in_digits after) (rw (digit_is d lt) h)

digits_end : (k n : ℕ) (after more : List ℕ) → ends_in_digits (after ++ more) ≡ true → ends_in_digits (digits k n after ++ more) ≡ true
digits_end zero n after more h = h
digits_end (suc k) n after more h = by (n / 10) refl (λ front. digits_end k front ((48 + n % 10) ∷ after) more one)
  where
    one : ends_in_digits ((48 + n % 10) ∷ (after ++ more)) ≡ true
    one = digit_ends (n % 10) (after ++ more) (omega arith) h

    by : (front : ℕ) → n / 10 ≡ front → ((m : ℕ) → ends_in_digits (digits k m ((48 + n % 10) ∷ after) ++ more) ≡ true) → ends_in_digits (digits (suc k) n after ++ more) ≡ true
    by zero e rest = ap (λ (xs : List ℕ). ends_in_digits (xs ++ more)) (last_digit k n after e) ∙ one
    by (suc front) e rest = ap (λ (xs : List ℕ). ends_in_digits (xs ++ more)) (more_digits k n front after e) ∙ rest (suc front)

resumes_line : (n : ℕ) (opened : OpenedBook) (more : List ℕ) → resumes_next (result_line (shown.Resumed n opened) ++ more) ≡ true
resumes_line n opened more =
    ap ends_in_digits (ap (λ (xs : List ℕ). (xs ++ 10 ∷ []) ++ more) (append-nil (decimal n)) ∙ append_assoc (decimal n) (10 ∷ []) more)
    ∙ digits_end (n + 1) n [] (10 ∷ more) refl

pub resumes_so : (n : ℕ) (opened : OpenedBook) (rest : List ℕ) → Begins rest (result_line (shown.Resumed n opened)) → resumes_next rest ≡ true
resumes_so n opened rest b = ap resumes_next b.1 ∙ resumes_line n opened b.0

-- whether an answer is that of a device that failed

pub stopped_so : (a : Answer) → is_device a.shown ≡ true → IsStopped a
stopped_so a h = the_device a.shown h
  where
    the_device : (s : Shown) → is_device s ≡ true → s ≡ shown.Refused code.Device
    the_device (shown.Refused code.Device) h = refl
    the_device _ h = let z : false ≡ true = h in absurd cc

pub not_stopped : (a : Answer) → is_device a.shown ≡ false → IsStopped a → ⊥
not_stopped a h is = let z : true ≡ false = sym (ap is_device is) ∙ h in absurd cc
