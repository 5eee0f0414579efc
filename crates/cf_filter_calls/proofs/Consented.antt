-- Consent to a dehydration.
use Rattle.std.proofs.Common.{◌≡◌, ◌≤◌, ℕ, Bool, true, false, cond, not, List, [], ◌∷◌, refl, sym, ◌∙◌, ap, subst, arith, Option, Some, None}
use Rattle.std.proofs.lemmas.Bool.{and_parts, eqb-true}
use Rattle.std.specs.Prelude.{Result, Ok, Err, find, ◌==◌, ◌||◌}
use Rattle.cf_base.specs.declared.answers.AuxRecord.{AuxRecord}
use Rattle.cf_base.specs.declared.answers.Shown.{Shown}
use Rattle.cf_base.specs.declared.answers.Shown.TheVariants as shown
use Rattle.cf_base.specs.declared.changes.Change.{Change}
use Rattle.cf_base.specs.declared.changes.Change.TheVariants as change
use Rattle.cf_base.specs.declared.codes.Code.{Code}
use Rattle.cf_base.specs.declared.codes.Code.TheVariants as code
use Rattle.cf_base.specs.declared.codes.CallError.{CallError}
use Rattle.cf_base.specs.declared.ids.ItemId.{ItemId}
use Rattle.cf_base.specs.declared.ids.Key.{Key}
use Rattle.cf_base.specs.declared.operations.Operation.TheVariants as operation
use Rattle.cf_base.specs.declared.waits.Ask.{Ask}
use Rattle.cf_base.specs.declared.waits.AskKind.{AskKind}
use Rattle.cf_base.specs.declared.waits.AskKind.TheVariants as ask_kind
use Rattle.cf_base.specs.declared.waits.Cause.TheVariants as cause
use Rattle.cf_filter_calls.specs.Consenting.{IsConsent, MayConsent, MayLeave, consent_room, consented, emptied_then, finished_by, finished_now, used_beside}
use Rattle.cf_filter_calls.specs.Emptying.{verdict_there}
use Rattle.cf_filter_calls.specs.Moved.{lacks_place}
use Rattle.cf_filter_calls.specs.Operating.{IsLiveFor, tests_on}
use Rattle.cf_model.specs.Arrows.{Arrow, unless}
use Rattle.cf_model.specs.Books.{Book}
use Rattle.cf_model.specs.Changes.{changes, no_places}
use Rattle.cf_model.specs.Items.{Item, item_of}
use Rattle.cf_model.specs.Operations.{ack_dehydrate, checked, consent_by, second_verdict}
use Rattle.cf_model.specs.Requests.{Live, Waiting, is_busy_beside, is_dehydrate, live_of}
use Rattle.cf_model.specs.Numbers.{same_key}
use Rattle.cf_model.specs.Soundness.{Each}
use Rattle.cf_model.specs.State.{Filter}
use Rattle.cf_model.specs.Trees.{Does}
use Rattle.cf_model.specs.Verdicts.{verdict}
use Rattle.cf_model.specs.Words.{first_of, part}
use Rattle.cf_waits.specs.Told.{is_busy_but}
use Rattle.cf_filter_steps.specs.Answering.{After, Answers, Any, Reads, Sense}
use Rattle.cf_filter_steps.specs.Good.{IsGood}
use Rattle.cf_filter_steps.specs.Readings.{has_handle, waiting_of}
use Rattle.cf_filter_steps.specs.Suiting.{ReadyAll}
use Rattle.cf_filter_steps.proofs.Laws.{stops_first, then_on}
use Rattle.cf_filter_calls.proofs.Dehydrated.{ends_synced, is_clear}
use Rattle.cf_filter_calls.proofs.EndEmptied.{EndsSynced, empty_room}
use Rattle.cf_filter_calls.proofs.Suited.{first_none, not_false}
use Rattle.cf_filter_calls.proofs.Transferred.{Goes, past}

-- the live ask

live_key : (asks : List Live) (key : Key) (a : Live) → live_of asks key ≡ Some a → a.ask.key ≡ key
live_key [] key a e = let z : ◌≡◌ {A = Option Live} None (Some a) = e in absurd cc
live_key (x ∷ xs) key a e = two (same_key x.ask.key key) refl e (live_key xs key a) where
  two : (b : Bool) → same_key x.ask.key key ≡ b → cond b (Some x) (find (λ (y : Live). same_key y.ask.key key) xs) ≡ Some a → (live_of xs key ≡ Some a → a.ask.key ≡ key) → a.ask.key ≡ key
  two true q z rest =
      let same : x ≡ a = cc in
      let p = and_parts (x.ask.key.epoch == key.epoch) (x.ask.key.number == key.number) q in
      let k : x.ask.key ≡ key = λ j. record { epoch = eqb-true x.ask.key.epoch key.epoch p.0 j; number = eqb-true x.ask.key.number key.number p.1 j } in
      subst (λ (y : Live). y.ask.key ≡ key) same k
  two false q z rest = rest z

pub consent_of : (f : Book → Book) (key : Key) (good : Bool) (ask : Ask) (records : List AuxRecord) (a : Live) (s : Filter) → IsLiveFor f (operation.AckDehydrate key good) ask records a s → IsConsent ask a s
consent_of f key good ask records a s h = record {
  live = subst (λ (k : Key). live_of s.waiting.asks k ≡ Some a) (sym (live_key s.waiting.asks key a h.live) ∙ ap (λ (q : Ask). q.key) h.same) h.live;
  same = h.same;
  kind = not_false (is_dehydrate a.ask.kind) (first_none (not (is_dehydrate a.ask.kind)) code.WrongKind [] h.passes).0;
}

kind_is : (k : AskKind) → is_dehydrate k ≡ true → k ≡ ask_kind.Dehydrate
kind_is ask_kind.Dehydrate e = refl
kind_is ask_kind.Fetch e = let z : false ≡ true = e in absurd cc
kind_is ask_kind.Validate e = let z : false ≡ true = e in absurd cc
kind_is ask_kind.List e = let z : false ≡ true = e in absurd cc

-- what uses its file

pub beside_open : {X : Type 0} (S : Sense X) (x : X) (ask : Ask) (b : Bool) → Reads S Any (has_handle ask.item) x b → b ≡ true → (a : Live) → Reads S (IsConsent ask a) (used_beside a) x true
beside_open S x ask b reads e a = record {
  is = λ s h p.
      let used : has_handle ask.item s ≡ true = sym (reads.is s h (record {})) ∙ e in
      sym (ap (λ (c : Bool). c || is_busy_beside a.ask.item a.wait s.waiting) (ap (λ (q : Ask). has_handle q.item s) p.same ∙ used));
}

busy_is : (ask : Ask) (a : Live) (s : Filter) → IsConsent ask a s → is_busy_but (live_of s.waiting.asks ask.key) ask.item s.waiting ≡ is_busy_beside a.ask.item a.wait s.waiting
busy_is ask a s p =
    ap (λ (o : Option Live). is_busy_but o ask.item s.waiting) p.live ∙ ap (λ (q : Ask). is_busy_but (Some a) q.item s.waiting) (sym p.same)
    ∙ ap (λ (k : AskKind). is_busy_but (Some (record a { ask = record a.ask { kind = k } })) a.ask.item s.waiting) (kind_is a.ask.kind p.kind)

pub beside_else : {X : Type 0} (S : Sense X) (x : X) (ask : Ask) (b busy : Bool) (w : Waiting) → Reads S Any (has_handle ask.item) x b → b ≡ false → Reads S Any waiting_of x w → busy ≡ is_busy_but (live_of w.asks ask.key) ask.item w
    → (a : Live) → Reads S (IsConsent ask a) (used_beside a) x busy
beside_else S x ask b busy w reads e waits q a = record {
  is = λ s h p.
      let shut : has_handle a.ask.item s ≡ false = ap (λ (r : Ask). has_handle r.item s) p.same ∙ sym (reads.is s h (record {})) ∙ e in
      q ∙ ap (λ (u : Waiting). is_busy_but (live_of u.asks ask.key) ask.item u) (waits.is s h (record {})) ∙ busy_is ask a s p
      ∙ sym (ap (λ (c : Bool). c || is_busy_beside a.ask.item a.wait s.waiting) shut);
}

-- no change

-- with so many numbers, or without
room_by : {X : Type 0} (S : Sense X) (P Q : Filter → Type 0) (n : ℕ) (b c : Bool) (f : Arrow Filter Shown) (x new : X) (r : Result Shown CallError) → Reads S Any (λ s. no_places s.volume n) x b → b ≡ c
    → ((s : Filter) → S.means x s → P s → no_places s.volume n ≡ c → (t : Filter) × Does (unless shown.Refused (first_of ((c, code.Exhausted) ∷ [])) f s) r t × S.moved x new s t × After S x r new t)
    → Answers S P (checked (consent_room n) f) x r new
room_by S P Q n b c f x new r reads e go = record {
  leads = λ s h p.
      let q : no_places s.volume n ≡ c = sym (reads.is s h (record {})) ∙ e in
      subst (λ (d : Bool). Goes S x r new s (unless shown.Refused (first_of ((d, code.Exhausted) ∷ [])) f s)) (sym q) (go s h p q);
}

pub full_on : {X : Type 0} (S : Sense X) (P Q : Filter → Type 0) (n : ℕ) (b : Bool) (f : Arrow Filter Shown) (x new : X) (r : Result Shown CallError) → Reads S Any (λ s. no_places s.volume n) x b → b ≡ false
    → ((s : Filter) → S.means x s → P s → no_places s.volume n ≡ false → Q s) → Answers S Q f x r new → Answers S P (checked (consent_room n) f) x r new
full_on S P Q n b f x new r reads e w a = room_by S P Q n b false f x new r reads e (λ s h p q. a.leads s h (w s h p q))

-- the change

each_gone : (P : Item → Type 0) (id : ItemId) (items : List Item) → item_of items id ≡ None → Each id P items
each_gone P id [] e = record {}
each_gone P id (x ∷ xs) e = two (x.id.0 == id.0) refl e (each_gone P id xs) where
  two : (b : Bool) → (x.id.0 == id.0) ≡ b → cond b (Some x) (item_of xs id) ≡ None → (item_of xs id ≡ None → Each id P xs) → Each id P (x ∷ xs)
  two true q z rest = let y : ◌≡◌ {A = Option Item} (Some x) None = z in absurd cc
  two false q z rest = ((λ t. let y : true ≡ false = sym t ∙ q in cc), rest z)

ends_clear : (s : Filter) (id : ItemId) (start len : ℕ) (used : Bool) → IsGood s → verdict_there id start len used s ≡ None → Each id (EndsSynced start len) s.volume.items
ends_clear s id start len used good e = two (item_of s.volume.items id) refl e where
  two : (o : Option Item) → item_of s.volume.items id ≡ o → part (λ (i : Item). verdict s.policy i start len used) None o ≡ None → Each id (EndsSynced start len) s.volume.items
  two None at z = each_gone (EndsSynced start len) id s.volume.items at
  two (Some i) at z = let clear = is_clear s.policy i start len used z in ends_synced s id start len i good at clear.synced clear.end

may_leave : (ask : Ask) (a : Live) (s : Filter) → IsGood s → (ask.span.start ≤ 549755813888) × (ask.span.len ≤ 549755813888) → MayConsent ask a s → lacks_place s ≡ false → MayLeave ask s
may_leave ask a s good near h left =
    let clear : verdict_there ask.item ask.span.start ask.span.len (used_beside a s) s ≡ None = subst (λ (q : Ask). verdict_there q.item q.span.start q.span.len (used_beside a s) s ≡ None) h.consent.same h.clear in
    let ends = ends_clear s ask.item ask.span.start ask.span.len (used_beside a s) good clear in (
      record {
        room = empty_room ask.item ask.span.start ask.span.len s.volume ends good.volume.few good.volume.short left;
        suits = record { fits = λ k d j q. omega (arith, near.0, near.1); needs = record {}; plants = record {}; lasts = record {} };
      },
      record {},
    )

-- the change, and then the end of the wait

pub left_then : {X : Type 0} (S : Sense X) (x mid new : X) (ask : Ask) (cs : List Change) (u : Unit {0}) (r : Result Shown CallError) → cs ≡ change.Emptied ask.item ask.span.start ask.span.len ∷ [] → Answers S (λ s. ReadyAll cs s) (changes cs) x (Ok u) mid
    → Answers S Any (finished_now ask cause.Emptied) mid r new → Answers S (MayLeave ask) (emptied_then ask) x r new
left_then S x mid new ask cs u r e a b =
    let c : Change = change.Emptied ask.item ask.span.start ask.span.len in
    then_on S (MayLeave ask) Any (changes (c ∷ [])) (finished_now ask cause.Emptied) x mid new u r (λ s t p q. record {}) (subst (λ (l : List Change). Answers S (λ s. ReadyAll l s) (changes l) x (Ok u) mid) e a) b

pub left_not : {X : Type 0} (S : Sense X) (x new : X) (ask : Ask) (cs : List Change) (f : CallError) → cs ≡ change.Emptied ask.item ask.span.start ask.span.len ∷ [] → Answers S (λ s. ReadyAll cs s) (changes cs) x (Err f) new
    → Answers S (MayLeave ask) (emptied_then ask) x (Err f) new
left_not S x new ask cs f e a =
    let c : Change = change.Emptied ask.item ask.span.start ask.span.len in
    stops_first S (MayLeave ask) (changes (c ∷ [])) (finished_now ask cause.Emptied) x new f (subst (λ (l : List Change). Answers S (λ s. ReadyAll l s) (changes l) x (Err f) new) e a)

pub consent_on : {X : Type 0} (S : Sense X) (ask : Ask) (b : Bool) (x new : X) (r : Result Shown CallError) → (ask.span.start ≤ 549755813888) × (ask.span.len ≤ 549755813888) → Reads S Any lacks_place x b → b ≡ false
    → Answers S (MayLeave ask) (emptied_then ask) x r new → (a : Live) → Answers S (MayConsent ask a) (consented ask) x r new
consent_on S ask b x new r near reads e ans a = full_on S (MayConsent ask a) (MayLeave ask) 1 b (emptied_then ask) x new r reads e (λ s h p q. may_leave ask a s (S.good x s h) near p q) ans

-- the operation

pub declined : {X : Type 0} (S : Sense X) (ask : Ask) (x new : X) (r : Result Shown CallError) → Answers S Any (finished_by ask (cause.Failed 1)) x r new
    → (key : Key) (f : Book → Book) (records : List AuxRecord) (a : Live) → Answers S (IsLiveFor f (operation.AckDehydrate key false) ask records a) (ack_dehydrate a false) x r new
declined S ask x new r ans key f records a = record {
  leads = λ s m p.
      let z = subst (λ (q : Ask). Goes S x r new s (finished_by q (cause.Failed 1) s)) (sym p.same) (ans.leads s m (record {})) in
      past S x new r s (tests_on (operation.AckDehydrate key false) a s) (consent_room 0 s) (finished_now a.ask (cause.Failed 1)) p.passes z;
}

-- by the verdict
verdict_by : {X : Type 0} (S : Sense X) (ask : Ask) (o : Option Code) (x new : X) (r : Result Shown CallError) (s : Filter) (key : Key) (f : Book → Book) (records : List AuxRecord) (a : Live)
    → ((b : Live) → Reads S (IsConsent ask b) (second_verdict b) x o) → S.means x s → IsLiveFor f (operation.AckDehydrate key true) ask records a s → (second_verdict a s ≡ o → Goes S x r new s (consent_by a true o s)) → Goes S x r new s (ack_dehydrate a true s)
verdict_by S ask o x new r s key f records a reads m p go =
    let e : o ≡ second_verdict a s = (reads a).is s m (consent_of f key true ask records a s p) in
    subst (λ (q : Option Code). Goes S x r new s (consent_by a true q s)) e (go (sym e))

pub verdict_off : {X : Type 0} (S : Sense X) (ask : Ask) (o : Option Code) (c : Code) (x new : X) (r : Result Shown CallError) → ((b : Live) → Reads S (IsConsent ask b) (second_verdict b) x o) → o ≡ Some c → Answers S Any (finished_by ask (cause.Refused c)) x r new
    → (key : Key) (f : Book → Book) (records : List AuxRecord) (a : Live) → Answers S (IsLiveFor f (operation.AckDehydrate key true) ask records a) (ack_dehydrate a true) x r new
verdict_off S ask o c x new r reads e ans key f records a = record {
  leads = λ s m p.
      let z = subst (λ (q : Ask). Goes S x r new s (finished_by q (cause.Refused c) s)) (sym p.same) (ans.leads s m (record {})) in
      let g : Goes S x r new s (consent_by a true (Some c) s) = past S x new r s (tests_on (operation.AckDehydrate key true) a s) (consent_room 0 s) (finished_now a.ask (cause.Refused c)) p.passes z in
      verdict_by S ask (Some c) x new r s key f records a (subst (λ (q : Option Code). (b : Live) → Reads S (IsConsent ask b) (second_verdict b) x q) e reads) m p (λ q. g);
}

pub verdict_on : {X : Type 0} (S : Sense X) (ask : Ask) (o : Option Code) (x new : X) (r : Result Shown CallError) → ((b : Live) → Reads S (IsConsent ask b) (second_verdict b) x o) → o ≡ None → ((a : Live) → Answers S (MayConsent ask a) (consented ask) x r new)
    → (key : Key) (f : Book → Book) (records : List AuxRecord) (a : Live) → Answers S (IsLiveFor f (operation.AckDehydrate key true) ask records a) (ack_dehydrate a true) x r new
verdict_on S ask o x new r reads e ans key f records a = record {
  leads = λ s m p.
      verdict_by S ask None x new r s key f records a (subst (λ (q : Option Code). (b : Live) → Reads S (IsConsent ask b) (second_verdict b) x q) e reads) m p (λ clear.
      let z = (ans a).leads s m (record { consent = consent_of f key true ask records a s p; clear = clear }) in
      past S x new r s (tests_on (operation.AckDehydrate key true) a s) (consent_room 1 s) (emptied_then a.ask) p.passes (subst (λ (q : Ask). Goes S x r new s (consented q s)) (sym p.same) z));
}
