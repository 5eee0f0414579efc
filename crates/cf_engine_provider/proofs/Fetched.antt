-- Replies to a request for bytes.
use Rattle.std.proofs.Common.{◌≡◌, ℕ, Bool, true, false, not, List, [], ◌||◌, ◌&&◌, ◌==◌, length, refl, sym, ◌∙◌, ap, subst}
use Rattle.std.specs.Prelude.{Option, Some, None, Result, is_some, option_map}
use Rattle.std.proofs.lemmas.Bool.{and_parts, eqb-true}
use Rattle.cf_engine_provider.specs.Agencies.{Agency, Any, Performs, Plays}
use Rattle.cf_engine_provider.specs.Answering.{IsLive}
use Rattle.cf_engine_provider.specs.Parts.{IsFetch, fetched, refuse_ask, refuse_by}
use Rattle.cf_engine_provider.proofs.Played.{as_well, nothing}
use Rattle.cf_base.specs.Codes.{number_of}
use Rattle.cf_base.specs.declared.codes.Code.TheVariants as code
use Rattle.cf_base.specs.declared.ids.Key.{Key}
use Rattle.cf_base.specs.declared.ids.Rid.{Rid}
use Rattle.cf_base.specs.declared.memory.OutOfMemory.{OutOfMemory as NoMemory}
use Rattle.cf_base.specs.declared.messages.Reply.{Reply}
use Rattle.cf_base.specs.declared.messages.Reply.TheVariants as reply
use Rattle.cf_base.specs.declared.messages.Request.{Request}
use Rattle.cf_base.specs.declared.messages.Request.TheVariants as request
use Rattle.cf_base.specs.declared.waits.Ask.{Ask}
use Rattle.cf_base.specs.declared.waits.AskKind.{AskKind}
use Rattle.cf_base.specs.declared.waits.AskKind.TheVariants as ask_kind
use Rattle.cf_model.specs.Arrows.{Arrow, ret, unit}
use Rattle.cf_model.specs.Fetching.{live_ask, refuse_by_kind, refuse_live}
use Rattle.cf_model.specs.Fits.{Known, fits}
use Rattle.cf_model.specs.Messages.{act_unless, is_old, known_now, settled_rid, take_reply}
use Rattle.cf_model.specs.Numbers.{same_key}
use Rattle.cf_model.specs.Ports.{Act}
use Rattle.cf_model.specs.Requests.{Live}
use Rattle.cf_model.specs.State.{State}
use Rattle.cf_model.specs.Trees.{Tree}
use Rattle.cf_remote.specs.Told.{Told}

pub same_is : (a b : Key) → same_key a b ≡ true → a ≡ b
same_is a b h = λ i. record { epoch = eqb-true a.epoch b.epoch (and_parts (a.epoch == b.epoch) (a.number == b.number) h).0 i; number = eqb-true a.number b.number (and_parts (a.epoch == b.epoch) (a.number == b.number) h).1 i }

-- Whether a reply fits such a request hangs on nothing that is here.
fits_anywhere : (ks other : List Known) (a b : Rid) (key : Key) (q : Request) (r : Reply) → IsFetch key q → fits ks a q r ≡ fits other b q r
fits_anywhere ks other a b key (request.Fetch own rid version start len) (reply.Feed round clock es) is = refl
fits_anywhere ks other a b key (request.Fetch own rid version start len) (reply.Listing k es) is = refl
fits_anywhere ks other a b key (request.Fetch own rid version start len) (reply.Bytes k at bytes) is = refl
fits_anywhere ks other a b key (request.Fetch own rid version start len) (reply.Missing k) is = refl
fits_anywhere ks other a b key (request.Fetch own rid version start len) (reply.Done token r v) is = refl
fits_anywhere ks other a b key (request.Fetch own rid version start len) (reply.Void token) is = refl
fits_anywhere ks other a b key (request.Fetch own rid version start len) (reply.Refused token w v) is = refl
fits_anywhere ks other a b key (request.Fetch own rid version start len) (reply.Gone k) is = refl
fits_anywhere ks other a b key (request.Feed a1 a2) r is = absurd is
fits_anywhere ks other a b key (request.List a1 a2) r is = absurd is
fits_anywhere ks other a b key (request.Put a1 a2 a3 a4 a5 a6) r is = absurd is
fits_anywhere ks other a b key (request.MakeDir a1 a2 a3) r is = absurd is
fits_anywhere ks other a b key (request.Move a1 a2 a3 a4) r is = absurd is
fits_anywhere ks other a b key (request.Remove a1 a2 a3) r is = absurd is
fits_anywhere ks other a b key (request.Settle a1) r is = absurd is
fits_anywhere ks other a b key (request.Keep a1 a2) r is = absurd is

-- a reply that fits is one of three, and has the key
abbrev pub Fitting : Key → Reply → Type 0
Fitting key (reply.Bytes k at bytes) = k ≡ key
Fitting key (reply.Missing k) = k ≡ key
Fitting key (reply.Gone k) = k ≡ key
Fitting key _ = ⊥

pub no_fit : {A : Type 0} → false ≡ true → A
no_fit e = let bad : ⊥ = cc in absurd bad

fitting : (key : Key) (ks : List Known) (a : Rid) (q : Request) (r : Reply) → IsFetch key q → fits ks a q r ≡ true → Fitting key r
fitting key ks a (request.Fetch own rid version start len) (reply.Feed round clock es) is h = no_fit h
fitting key ks a (request.Fetch own rid version start len) (reply.Listing k es) is h = no_fit h
fitting key ks a (request.Fetch own rid version start len) (reply.Bytes k at bytes) is h = sym (same_is own k (and_parts (same_key own k) (at == start) (and_parts (same_key own k && (at == start)) (length bytes == len) h).0).0) ∙ is
fitting key ks a (request.Fetch own rid version start len) (reply.Missing k) is h = sym (same_is own k h) ∙ is
fitting key ks a (request.Fetch own rid version start len) (reply.Done token r v) is h = no_fit h
fitting key ks a (request.Fetch own rid version start len) (reply.Void token) is h = no_fit h
fitting key ks a (request.Fetch own rid version start len) (reply.Refused token w v) is h = no_fit h
fitting key ks a (request.Fetch own rid version start len) (reply.Gone k) is h = sym (same_is own k h) ∙ is
fitting key ks a (request.Feed a1 a2) r is h = absurd is
fitting key ks a (request.List a1 a2) r is h = absurd is
fitting key ks a (request.Put a1 a2 a3 a4 a5 a6) r is h = absurd is
fitting key ks a (request.MakeDir a1 a2 a3) r is h = absurd is
fitting key ks a (request.Move a1 a2 a3 a4) r is h = absurd is
fitting key ks a (request.Remove a1 a2 a3) r is h = absurd is
fitting key ks a (request.Settle a1) r is h = absurd is
fitting key ks a (request.Keep a1 a2) r is h = absurd is

by_ask : (k : AskKind) (a : Live) (status : ℕ) (z : State) → refuse_by_kind k a status z ≡ refuse_by k status a.ask z
by_ask ask_kind.Fetch a status z = refl
by_ask ask_kind.Validate a status z = refl
by_ask ask_kind.List a status z = refl
by_ask ask_kind.Dehydrate a status z = refl

-- bytes that do not come
abbrev refused : ℕ → State → Bool → Option Live → Tree State (Unit {0})
refused status z true x = ret unit z
refused status z false x = refuse_live status x z

refused_is : (status : ℕ) (z : State) (o x : Option Live) → x ≡ o → (f : Option Ask → Arrow State (Unit {0})) → ret unit z ≡ f None z → ((a : Live) → refuse_ask status a.ask z ≡ f (Some a.ask) z) → refused status z (not (is_some x)) x ≡ f (option_map (λ a. a.ask) o) z
refused_is status z o x is f none some = ap (λ (y : Option Live). refused status z (not (is_some y)) y) is ∙ by o where
  by : (y : Option Live) → refused status z (not (is_some y)) y ≡ f (option_map (λ a. a.ask) y) z
  by None = none
  by (Some a) = by_ask a.ask.kind a status z ∙ some a

-- a reply that fits, where the ask is live or not
pub by_live : (r : Reply) (key : Key) (z : State) (o : Option Live) → live_ask z key ≡ o → Fitting key r → act_unless r (is_old z r) z ≡ fetched (option_map (λ a. a.ask) o) r z
by_live (reply.Bytes k at bytes) key z o is same =
    ap (λ (x : Option Live). act_unless (reply.Bytes k at bytes) (not (is_some x)) z) (ap (λ (l : Key). live_ask z l) same ∙ is) ∙ by o where
      by : (x : Option Live) → act_unless (reply.Bytes k at bytes) (not (is_some x)) z ≡ fetched (option_map (λ a. a.ask) x) (reply.Bytes k at bytes) z
      by None = refl
      by (Some a) = refl
by_live (reply.Missing k) key z o is same =
    way (not (is_some (live_ask z k))) ∙ refused_is 2 z o (live_ask z k) (ap (λ (l : Key). live_ask z l) same ∙ is) (λ x. fetched x (reply.Missing k)) refl (λ a. refl) where
      way : (b : Bool) → act_unless (reply.Missing k) b z ≡ refused 2 z b (live_ask z k)
      way true = refl
      way false = refl
by_live (reply.Gone k) key z o is same =
    way (not (is_some (live_ask z k))) ∙ refused_is (number_of code.VersionGone) z o (live_ask z k) (ap (λ (l : Key). live_ask z l) same ∙ is) (λ x. fetched x (reply.Gone k)) refl (λ a. refl) where
      way : (b : Bool) → act_unless (reply.Gone k) b z ≡ refused (number_of code.VersionGone) z b (live_ask z k)
      way true = refl
      way false = refl
by_live (reply.Feed round clock es) key z o is same = absurd same
by_live (reply.Listing k es) key z o is same = absurd same
by_live (reply.Done token r v) key z o is same = absurd same
by_live (reply.Void token) key z o is same = absurd same
by_live (reply.Refused token w v) key z o is same = absurd same

module _ {R : Type 0} (told : R → Told) (key : Key) (live : Option Ask) (q : Request) (r : Reply) (own : IsFetch key q) where
  -- a reply that does not fit
  pub unfit : (b : Bool) (p : Agency R) → b ≡ fits [] (record { 0 = 0 }) q r → b ≡ false → Plays told (IsLive key live) (take_reply q r) p [] p
  unfit b p is miss = as_well told (IsLive key live) (ret unit) (take_reply q r) p p [] (λ z h.
      sym (ap (λ (x : Bool). act_unless r (not x || is_old z r) z) (fits_anywhere (known_now z) [] (settled_rid z q) (record { 0 = 0 }) key q r own ∙ sym is ∙ miss))) (nothing told Any p)

  pub fit : (b : Bool) (p n : Agency R) (acts : List Act) → b ≡ fits [] (record { 0 = 0 }) q r → b ≡ true → Plays told Any (fetched live r) p acts n → Plays told (IsLive key live) (take_reply q r) p acts n
  fit b p n acts is hit h = as_well told (IsLive key live) (fetched live r) (take_reply q r) p n acts (λ z there.
      let whole : fits (known_now z) (settled_rid z q) q r ≡ true = fits_anywhere (known_now z) [] (settled_rid z q) (record { 0 = 0 }) key q r own ∙ sym is ∙ hit in
      sym (ap (λ (x : Bool). act_unless r (not x || is_old z r) z) whole ∙ by_live r key z (live_ask z key) refl (fitting key (known_now z) (settled_rid z q) q r own whole)
      ∙ ap (λ (x : Option Ask). fetched x r z) there)) h

  module _ {X : Type 0} (goes : X → List Act → X → Type 0) where
    pub did_not_fit : (b : Bool) (p : Agency R) (x : X) (res : Result (Unit {0}) NoMemory) → b ≡ fits [] (record { 0 = 0 }) q r → b ≡ false → goes x [] x → Performs goes (λ acts. Plays told (IsLive key live) (take_reply q r) p acts p) x res x
    did_not_fit b p x res is miss stays = ([], stays, λ ok. unfit b p is miss)

    pub did_fit : (b : Bool) (ask : Ask) (p n : Agency R) (old new : X) (res : Result (Unit {0}) NoMemory) → b ≡ fits [] (record { 0 = 0 }) q r → b ≡ true → live ≡ Some ask → Performs goes (λ acts. Plays told Any (fetched (Some ask) r) p acts n) old res new
        → Performs goes (λ acts. Plays told (IsLive key live) (take_reply q r) p acts n) old res new
    did_fit b ask p n old new res is hit some h = (h.0, h.1, λ ok. fit b p n h.0 is hit (subst (λ (x : Option Ask). Plays told Any (fetched x r) p h.0 n) (sym some) (h.2 ok)))

    pub was_dead : (b : Bool) (p : Agency R) (x : X) (res : Result (Unit {0}) NoMemory) → b ≡ fits [] (record { 0 = 0 }) q r → b ≡ true → live ≡ None → goes x [] x → Performs goes (λ acts. Plays told (IsLive key live) (take_reply q r) p acts p) x res x
    was_dead b p x res is hit none stays = ([], stays, λ ok. fit b p p [] is hit (subst (λ (y : Option Ask). Plays told Any (fetched y r) p [] p) (sym none) (nothing told Any p)))
