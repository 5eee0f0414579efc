-- Replies that come too late, and those that an upload was not done.
use Rattle.std.proofs.Common.{◌≡◌, ◌<◌, ◌+◌, ℕ, Bool, true, false, List, [], ◌∷◌, zero, suc, refl, sym, ◌∙◌, ap, subst, inl, inr, arith}
use Rattle.std.specs.Prelude.{Option, Some, None, is_some, not, ◌==◌, ◌≢◌, ◌&&◌, ◌||◌}
use Rattle.std.specs.List.{list_any}
use Rattle.std.proofs.lemmas.Bool.{eqb-true}
use Rattle.cf_base.specs.declared.answers.Answer.{Answer}
use Rattle.cf_base.specs.declared.answers.Shown.{Shown}
use Rattle.cf_base.specs.declared.answers.Shown.TheVariants as shown
use Rattle.cf_base.specs.declared.codes.Code.{Code}
use Rattle.cf_base.specs.declared.codes.Code.TheVariants as code
use Rattle.cf_base.specs.declared.events.EngineEvent.TheVariants as engine
use Rattle.cf_base.specs.declared.events.Event.{Event}
use Rattle.cf_base.specs.declared.events.Event.TheVariants as event
use Rattle.cf_base.specs.declared.ids.Key.{Key}
use Rattle.cf_base.specs.declared.ids.Rid.{Rid}
use Rattle.cf_base.specs.declared.ids.Token.{Token}
use Rattle.cf_base.specs.declared.ids.Version.{Version}
use Rattle.cf_base.specs.declared.messages.Reply.{Reply}
use Rattle.cf_base.specs.declared.messages.Reply.TheVariants as reply
use Rattle.cf_base.specs.declared.messages.Request.{Request}
use Rattle.cf_base.specs.declared.messages.Request.TheVariants as request
use Rattle.cf_base.specs.declared.messages.Why.{Why}
use Rattle.cf_base.specs.declared.notices.Frame.{Frame}
use Rattle.cf_base.specs.declared.notices.Frame.TheVariants as frame
use Rattle.cf_base.specs.declared.policies.Mode.{Mode}
use Rattle.cf_base.specs.declared.policies.Mode.TheVariants as mode
use Rattle.cf_base.specs.declared.waits.Ask.{Ask}
use Rattle.cf_model.specs.Asks.{step_of, with_keys}
use Rattle.cf_model.specs.Arrows.{ret, then_do}
use Rattle.cf_model.specs.Books.{QueueEntry}
use Rattle.cf_model.specs.Callbacks.{drain}
use Rattle.cf_model.specs.Events.{begun, no_volume}
use Rattle.cf_model.specs.Fits.{Known, fits}
use Rattle.cf_model.specs.Lawful.{IsStep, Runs}
use Rattle.cf_model.specs.Messages.{act_on, entry_live, is_old, is_stale, known_now, message_at, settled_rid}
use Rattle.cf_model.specs.Missing.{View}
use Rattle.cf_model.specs.Numbers.{same_key}
use Rattle.cf_model.specs.Passes.{deliver_frame, deliver_now, deliver_reply, deliver_unless, showing, unless_down}
use Rattle.cf_model.specs.PushReplies.{is_new_entry}
use Rattle.cf_model.specs.Requests.{Deed, Live, Waiting, aged, live_of}
use Rattle.cf_model.specs.State.{Power, State, book_now, start}
use Rattle.cf_model.specs.Store.{Held}
use Rattle.cf_model.specs.Trees.{Ends, Stops}
use Rattle.cf_model.proofs.EpochLaws.{started_in_epoch}
use Rattle.cf_model_laws.specs.Invariant.{All, IsMessageRight, IsSound, TellsBytes, TellsTruth, message_in}
use Rattle.cf_model_laws.specs.Premises.{IsFair, IsFresh}
use Rattle.cf_model_laws.proofs.ContentLaws.{run_sound}
use Rattle.cf_model_laws.proofs.Gathered.{all_append, all_found, all_map}
use Rattle.cf_model_laws.proofs.Leading.{Leads, leads_any, leads_bind}
use Rattle.cf_model_laws.proofs.OutboxFacts.{BoxingRuns}
use Rattle.cf_model_laws.proofs.OutboxRuns.{run_holds}
use Rattle.cf_model_laws.proofs.OwnAsks.{kept_all}
use Rattle.cf_model_laws.proofs.PassesGuarded.{one_message}
use Rattle.cf_model_laws.proofs.RightItems.{no_way}
use Rattle.cf_model_headline.specs.Reports.{OfEach, Report}
use Rattle.cf_model_headline.specs.Stale.{Delivers, IsLate, IsNotDone, LateIsStale, NotDoneIsTaken}
use Rattle.cf_model_headline.proofs.ReadsAtOnceLaws.{led_ends}
use Rattle.cf_model_laws.proofs.FairBefore.{fair_before}
use Rattle.cf_model_headline.proofs.StepCases.{IsCase, IsOver, step_case}

-- each live ask is of the epoch of the waits

abbrev OfEpoch : ℕ → Ask → Type 0
OfEpoch epoch a = a.key.epoch ≡ epoch

abbrev InEpoch : List Ask → Waiting → Type 0
InEpoch o w = All (λ a. OfEpoch w.epoch a.ask) w.asks

made_in : (epoch n : ℕ) (asks : List Live) → All (λ a. OfEpoch epoch a.ask) (with_keys epoch n asks)
made_in epoch n [] = tt
made_in epoch n (a ∷ as') = (refl, made_in epoch (n + 1) as')

steps_in : (o : List Ask) (w : Waiting) (item : _) (v : View) (d : Deed) → InEpoch o w → InEpoch o (step_of item v d w).1
steps_in o w item v d h = all_append (λ a. OfEpoch w.epoch a.ask) _ _ (kept_all w item v d (OfEpoch w.epoch) h) (made_in w.epoch w.key_count _)

epoch_runs : BoxingRuns InEpoch
epoch_runs = record {
  boxing = record {
    steps = λ o w item v d h. (steps_in o w item v d h, steps_in o w item v d h);
    begins = λ o w ws h. h;
    downs = λ o w h. tt;
    ticks = λ o w n h. all_map (λ a. OfEpoch w.epoch a.ask) (λ a. OfEpoch w.epoch a.ask) (aged n) (λ a k. k) w.asks h;
    pops = λ a o w h. h;
  };
  crashes = λ o w h. tt;
  opens = λ epoch. tt;
}

none_live : (epoch : ℕ) (asks : List Live) (key : Key) → All (λ a. OfEpoch epoch a.ask) asks → key.epoch < epoch → live_of asks key ≡ None
none_live epoch asks key h less = by (live_of asks key) refl where
  apart : (a b c : ℕ) → a ≡ b → b ≡ c → c < a → ⊥
  apart a b c h k l = omega (arith, h, k, l)

  first : (a b : Bool) → (a && b) ≡ true → a ≡ true
  first true b e = refl
  first false b e = e

  by : (o : Option Live) → live_of asks key ≡ o → o ≡ None
  by None e = refl
  by (Some a) e =
      let x = all_found (λ b. OfEpoch epoch b.ask) (λ b. same_key b.ask.key key) asks a e h in
      absurd (apart epoch a.ask.key.epoch key.epoch (sym x.0) (eqb-true a.ask.key.epoch key.epoch (first (a.ask.key.epoch == key.epoch) (a.ask.key.number == key.number) x.1)) less)

-- such a reply is old

or_right : (a b : Bool) → b ≡ true → (a || b) ≡ true
or_right true b h = refl
or_right false b h = h

apart_eq : (a b : ℕ) → a < b → (a == b) ≡ false
apart_eq a b h = by (a == b) refl where
  same : a ≡ b → ⊥
  same e = omega (arith, e, h)

  by : (c : Bool) → (a == b) ≡ c → c ≡ false
  by false e = refl
  by true e = absurd (same (eqb-true a b e))

old_one : (s : State) (r : Reply) → s.filter.waiting.epoch ≡ s.filter.volume.epoch → All (λ a. OfEpoch s.filter.waiting.epoch a.ask) s.filter.waiting.asks → IsLate s r → is_old s r ≡ true
old_one s r same asks h = by r h where
  none : (key : Key) → key.epoch < s.filter.volume.epoch → not (is_some (live_of s.filter.waiting.asks key)) ≡ true
  none key less = ap (λ (o : Option Live). not (is_some o)) (none_live s.filter.waiting.epoch s.filter.waiting.asks key asks (subst (λ (e : ℕ). key.epoch < e) (sym same) less))

  gone : (token : Token) → entry_live s token ≡ None → not (is_some (entry_live s token)) ≡ true
  gone token k = ap (λ (o : Option QueueEntry). not (is_some o)) k

  or_left : (a b : Bool) → a ≡ true → (a || b) ≡ true
  or_left true b k = refl
  or_left false b k = no_way k

  by : (r : Reply) → IsLate s r → is_old s r ≡ true
  by (reply.Feed round clock es) less = rw (apart_eq round.0.epoch s.filter.volume.epoch less) refl
  by (reply.Listing key es) less = or_left (not (is_some (live_of s.filter.waiting.asks key))) (list_any is_new_entry (book_now s).entries) (none key less)
  by (reply.Bytes key start bytes) less = none key less
  by (reply.Missing key) less = none key less
  by (reply.Gone key) less = none key less
  by (reply.Done token rid version) less = gone token less
  by (reply.Void token) less = gone token less
  by (reply.Refused token w version) less = gone token less

-- so it is refused

answers_stale : (s : State) (r : Reply) (f : Option Frame) (q : Shown) (t : State) → is_old s r ≡ true → Ends (deliver_reply r f s) q t → q ≡ shown.Refused code.Stale
answers_stale s r (Some (frame.Request p)) q t old e = by (is_stale p r s) (or_right (not (fits (known_now s) (settled_rid s p) p r)) (is_old s r) old) e where
  by : (b : Bool) → b ≡ true → Ends (deliver_unless r b s) q t → q ≡ shown.Refused code.Stale
  by true z k = k.0
  by false z k = no_way z
answers_stale s r (Some (frame.Reply answers other)) q t old e = e.0
answers_stale s r None q t old e = e.0

never_stops : (s : State) (r : Reply) (f : Option Frame) (t : State) → is_old s r ≡ true → Stops (deliver_reply r f s) t → ⊥
never_stops s r (Some (frame.Request p)) t old e = by (is_stale p r s) (or_right (not (fits (known_now s) (settled_rid s p) p r)) (is_old s r) old) e where
  by : (b : Bool) → b ≡ true → Stops (deliver_unless r b s) t → ⊥
  by true z k = k
  by false z k = no_way z
never_stops s r (Some (frame.Reply answers other)) t old e = e
never_stops s r None t old e = e

pub late_is_stale : (m : Mode) (remote : Held) (clusters : ℕ) (before : Report) (s : State) (e : Event) (a : Answer) (t : State) → IsFresh remote → Runs m (start m remote clusters) before s → IsStep m s e a t → LateIsStale s e a
late_is_stale m remote clusters before s e a t fresh runs is r (number, answers, same, sent, on, linked) less =
    by (step_case m s (event.Engine (engine.Deliver number)) a t (subst (λ (x : Event). IsStep m s x a t) same is)) where
      asks : All (λ l. OfEpoch s.filter.waiting.epoch l.ask) s.filter.waiting.asks
      asks = run_holds InEpoch epoch_runs m remote clusters before s runs fresh

      old : is_old (begun s) r ≡ true
      old = old_one (begun s) r (started_in_epoch m remote clusters before s runs) asks less

      nothing : (c : Code) → no_volume true s.power ≡ Some c → a.shown ≡ shown.Refused code.Stale
      nothing c z = let y : ◌≡◌ {A = Option Code} None (Some c) = sym (ap (λ (p : Power). no_volume true p) on) ∙ z in cc

      ends : (b : Bool) → b ≡ true → (q : Shown) (u : State) → Ends (unless_down (deliver_now number) (not b) (begun s)) q u → q ≡ shown.Refused code.Stale
      ends false z q u k = no_way z
      ends true z q u k = answers_stale (begun s) r (message_at (begun s) answers) q u old (subst (λ (h : Option Frame). Ends (deliver_frame h (begun s)) q u) sent k)

      stops : (b : Bool) → b ≡ true → (u : State) → Stops (unless_down (deliver_now number) (not b) (begun s)) u → ⊥
      stops false z u k = no_way z
      stops true z u k = never_stops (begun s) r (message_at (begun s) answers) u old (subst (λ (h : Option Frame). Stops (deliver_frame h (begun s)) u) sent k)

      over : IsOver s (event.Engine (engine.Deliver number)) (t, a) → a.shown ≡ shown.Refused code.Stale
      over (inl h) = ap (λ (x : Answer). x.shown) h.2 ∙ ends s.filter.connected linked h.0 t h.1
      over (inr h) = absurd (stops s.filter.connected linked h.0 h.1)

      by : IsCase s (event.Engine (engine.Deliver number)) (t, a) → a.shown ≡ shown.Refused code.Stale
      by (inl h) = nothing h.0 h.1
      by (inr h) = over h.1

-- a reply that an upload was not done fits its request

right_now : (a : Bool) → a ≡ true → not a ≡ false
right_now true h = refl
right_now false h = no_way h

fits_void : (ks : List Known) (st : Rid) (held : Held) (q : Request) (token : Token) → TellsBytes held q (reply.Void token) → fits ks st q (reply.Void token) ≡ true
fits_void ks st held (request.Feed round after) token h = absurd h
fits_void ks st held (request.List key rid) token h = absurd h
fits_void ks st held (request.Fetch key rid version start len) token h = absurd h
fits_void ks st held (request.Put t rid expect parent name bytes) token h = h
fits_void ks st held (request.MakeDir t parent name) token h = h
fits_void ks st held (request.Move t rid parent name) token h = h
fits_void ks st held (request.Remove t rid expect) token h = h
fits_void ks st held (request.Settle t) token h = h
fits_void ks st held (request.Keep t count) token h = h

fits_refused : (ks : List Known) (st : Rid) (held : Held) (q : Request) (token : Token) (w : Why) (version : Version) → TellsBytes held q (reply.Refused token w version) → fits ks st q (reply.Refused token w version) ≡ true
fits_refused ks st held (request.Feed round after) token w version h = absurd h
fits_refused ks st held (request.List key rid) token w version h = absurd h
fits_refused ks st held (request.Fetch key rid v start len) token w version h = absurd h
fits_refused ks st held (request.Put t rid expect parent name bytes) token w version h = h
fits_refused ks st held (request.MakeDir t parent name) token w version h = h
fits_refused ks st held (request.Move t rid parent name) token w version h = h
fits_refused ks st held (request.Remove t rid expect) token w version h = h
fits_refused ks st held (request.Settle t) token w version h = h
fits_refused ks st held (request.Keep t count) token w version h = h

is_there : (o : Option QueueEntry) → o ≢ None → is_some o ≡ true
is_there None h = absurd (h refl)
is_there (Some e) h = refl

-- so nothing of it is stale
not_stale : (s : State) (held : Held) (q : Request) (r : Reply) → TellsBytes held q r → IsNotDone s r → is_stale q r s ≡ false
not_stale s held q (reply.Void token) tells live = ap (λ (b : Bool). b || not (is_some (entry_live s token))) (right_now (fits (known_now s) (settled_rid s q) q (reply.Void token)) (fits_void (known_now s) (settled_rid s q) held q token tells)) ∙ right_now (is_some (entry_live s token)) (is_there (entry_live s token) live)
not_stale s held q (reply.Refused token w version) tells live = ap (λ (b : Bool). b || not (is_some (entry_live s token))) (right_now (fits (known_now s) (settled_rid s q) q (reply.Refused token w version)) (fits_refused (known_now s) (settled_rid s q) held q token w version tells)) ∙ right_now (is_some (entry_live s token)) (is_there (entry_live s token) live)
not_stale s held q (reply.Feed round clock es) tells live = absurd live
not_stale s held q (reply.Listing key es) tells live = absurd live
not_stale s held q (reply.Bytes key start bytes) tells live = absurd live
not_stale s held q (reply.Missing key) tells live = absurd live
not_stale s held q (reply.Gone key) tells live = absurd live
not_stale s held q (reply.Done token rid version) tells live = absurd live

-- and it is taken

abbrev Any : {S : Type 0} → S → Type 0
Any s = Unit {0}

abbrev IsShownDone : Shown → State → Type 0
IsShownDone q t = q ≡ shown.Done

takes : (r : Reply) (s : State) → Leads Any IsShownDone (deliver_unless r false s)
takes r s =
    leads_bind Any (λ u t. Unit {0}) IsShownDone (act_on r (showing s)) (λ _ t. then_do drain (ret shown.Done) t)
    (leads_any (λ u t. Unit {0}) (act_on r (showing s)) (λ u t. tt))
    (λ u t j. leads_bind Any (λ v w. Unit {0}) IsShownDone (drain t) (λ _ w. ret shown.Done w) (leads_any (λ v w. Unit {0}) (drain t) (λ v w. tt)) (λ v w k. refl))

answers_taken : (s : State) (r : Reply) (q : Request) (p : Shown) (t : State) → is_stale q r s ≡ false → Ends (deliver_reply r (Some (frame.Request q)) s) p t → p ≡ shown.Done
answers_taken s r q p t not_old e = by (is_stale q r s) not_old e where
  by : (b : Bool) → b ≡ false → Ends (deliver_unless r b s) p t → p ≡ shown.Done
  by true z k = no_way (sym z)
  by false z k = led_ends IsShownDone (deliver_unless r false s) p t (takes r s) k

-- the request that a reply answers
asked_by : (s : State) (m answers : ℕ) (r : Reply) → IsSound s.link s.volatile.tokens s.filter → message_in s.link.messages m ≡ Some (frame.Reply answers r) → IsMessageRight s.link.remote s.link.messages s.filter.volume.epoch s.filter.waiting.key_count s.volatile.tokens (Some (frame.Reply answers r))
asked_by s m answers r sound at = one_message (IsMessageRight s.link.remote s.link.messages s.filter.volume.epoch s.filter.waiting.key_count s.volatile.tokens) s.link.messages m (frame.Reply answers r) sound.messages at

message_same : (s : State) (m : ℕ) → message_at s m ≡ message_in s.link.messages m
message_same s zero = refl
message_same s (suc n) = refl

-- no reply of this kind is stale
abbrev pub IsNeverStale : (State → Reply → Type 0) → Type 0
IsNeverStale K =
    (s : State) (answers : ℕ) (q : Request) (r : Reply) → IsSound s.link s.volatile.tokens s.filter → message_in s.link.messages answers ≡ Some (frame.Request q) → TellsTruth s.link.remote r → TellsBytes s.link.remote q r → K s r
    → is_stale q r s ≡ false

pub taken_where : (K : State → Reply → Type 0) → IsNeverStale K → (remote : Held) (clusters : ℕ) (report : Report) (last : State) → IsFresh remote → IsFair last.link → Runs mode.Replay (start mode.Replay remote clusters) report last
    → OfEach mode.Replay remote clusters report last (λ before s e a t. (r : Reply) → Delivers s e r → K s r → a.shown ≢ shown.Refused code.Stale)
taken_where K never remote clusters report last fresh fair all before rest s e a t parts runs is on r (number, answers, same, sent, power, linked) kind stale =
    by (step_case mode.Replay s (event.Engine (engine.Deliver number)) a t (subst (λ (x : Event). IsStep mode.Replay s x a t) same is)) stale where
      sound : IsSound s.link s.volatile.tokens s.filter
      sound = (run_sound remote clusters before s runs fresh).1 (fair_before s ((e, a) ∷ rest) last (run_sound remote clusters before s runs fresh) (t, is, on) fair)

      right : TellsTruth s.link.remote r × (q : Request) × (message_in s.link.messages answers ≡ Some (frame.Request q)) × TellsBytes s.link.remote q r
      right = asked_by s number answers r sound (sym (message_same s number) ∙ sent)

      asked : message_at s answers ≡ Some (frame.Request right.1)
      asked = message_same s answers ∙ right.2

      done : a.shown ≡ shown.Done → a.shown ≡ shown.Refused code.Stale → ⊥
      done d z = let y : ◌≡◌ {A = Shown} shown.Done (shown.Refused code.Stale) = sym d ∙ z in cc

      nothing : (c : Code) → no_volume true s.power ≡ Some c → ⊥
      nothing c z = let y : ◌≡◌ {A = Option Code} None (Some c) = sym (ap (λ (p : Power). no_volume true p) power) ∙ z in cc

      ends : (b : Bool) → b ≡ true → (q : Shown) (u : State) → Ends (unless_down (deliver_now number) (not b) (begun s)) q u → q ≡ shown.Done
      ends false z q u k = no_way z
      ends true z q u k =
          answers_taken (begun s) r right.1 q u (never s answers right.1 r sound right.2 right.0 right.3 kind)
          (subst (λ (f : Option Frame). Ends (deliver_reply r f (begun s)) q u) asked (subst (λ (h : Option Frame). Ends (deliver_frame h (begun s)) q u) sent k))

      other : a.shown ≡ shown.Refused code.Device → a.shown ≡ shown.Refused code.Stale → ⊥
      other d z = let y : ◌≡◌ {A = Shown} (shown.Refused code.Device) (shown.Refused code.Stale) = sym d ∙ z in differ y where
        differ : ◌≡◌ {A = Shown} (shown.Refused code.Device) (shown.Refused code.Stale) → ⊥
        differ y = let w : ◌≡◌ {A = Code} code.Device code.Stale = cc in cc

      over : IsOver s (event.Engine (engine.Deliver number)) (t, a) → a.shown ≡ shown.Refused code.Stale → ⊥
      over (inl h) = done (ap (λ (x : Answer). x.shown) h.2 ∙ ends s.filter.connected linked h.0 t h.1)
      over (inr h) = other (ap (λ (x : Answer). x.shown) h.3)

      by : IsCase s (event.Engine (engine.Deliver number)) (t, a) → a.shown ≡ shown.Refused code.Stale → ⊥
      by (inl h) = λ z. nothing h.0 h.1
      by (inr h) = over h.1

pub not_done_is_taken : (remote : Held) (clusters : ℕ) (report : Report) (last : State) → IsFresh remote → IsFair last.link → Runs mode.Replay (start mode.Replay remote clusters) report last
    → OfEach mode.Replay remote clusters report last (λ before s e a t. NotDoneIsTaken s e a)
not_done_is_taken = taken_where IsNotDone (λ s answers q r sound sent truth tells live. not_stale s s.link.remote q r tells live)
