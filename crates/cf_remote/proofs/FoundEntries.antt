-- What a reply to a List has under a name.
use Rattle.std.proofs.Common.{◌≡◌, inl, inr, ℕ, Bool, true, false, cond, List, refl, sym, ap, ◌∙◌, subst}
use Rattle.std.specs.Prelude.{Option, Result, Ok, Err}
use Rattle.std.specs.Result.{IsErrAnd}
use Rattle.std.proofs.lemmas.Result.{err_from_is_err_and}
use Rattle.cf_base.specs.declared.ids.Key.{Key}
use Rattle.cf_base.specs.declared.ids.Rid.{Rid}
use Rattle.cf_base.specs.declared.messages.Entry.{Entry}
use Rattle.cf_base.specs.declared.messages.Reply.{Reply}
use Rattle.cf_base.specs.declared.messages.Reply.TheVariants as reply
use Rattle.cf_model.specs.Peers.{is_fit, list_of, named}
use Rattle.cf_remote.specs.Entries.{FindsEntry, IsFoundIn, IsListed, found_in}
use Rattle.cf_remote.specs.Told.{Answers, Asks, Told}
use Rattle.cf_remote.specs.Stops.{find_error_of}
use Rattle.cf_remote.specs.declared.ask_errors.AskError.{AskError}
use Rattle.cf_remote.specs.declared.ask_errors.AskError.TheVariants as ask
use Rattle.cf_remote.specs.declared.find_errors.FindError.{FindError}
use Rattle.cf_remote.specs.declared.find_errors.FindError.TheVariants.{Fault, OutOfMemory, Stray}

-- a reply that does not fit
pub found_unfit : (rid : Rid) (name : List ℕ) (r : Reply) → is_fit (list_of rid) r ≡ false → Err (Stray r) ≡ found_in rid name r
found_unfit rid name (reply.Listing key es) h = sym (ap (λ (b : Bool). cond b (Ok (named name es)) (Err (Stray (reply.Listing key es)))) h)
found_unfit rid name (reply.Feed round clock es) h = refl
found_unfit rid name (reply.Bytes key start bytes) h = refl
found_unfit rid name (reply.Missing key) h = refl
found_unfit rid name (reply.Done token r version) h = refl
found_unfit rid name (reply.Void token) h = refl
found_unfit rid name (reply.Refused token w version) h = refl
found_unfit rid name (reply.Gone key) h = refl

-- a listing that fits
pub found_fit : (rid : Rid) (name : List ℕ) (key : Key) (es : List Entry) → is_fit (list_of rid) (reply.Listing key es) ≡ true → Ok (named name es) ≡ found_in rid name (reply.Listing key es)
found_fit rid name key es h = sym (ap (λ (b : Bool). cond b (Ok (named name es)) (Err (Stray (reply.Listing key es)))) h)

pub found_listed : (rid : Rid) (name : List ℕ) (r : Reply) (es : List Entry) (o : Option Entry) → is_fit (list_of rid) r ≡ true → IsListed r (Ok es) → o ≡ named name es → Ok o ≡ found_in rid name r
found_listed rid name r es o fit h e =
    ap (λ (x : Option Entry). Ok x) e ∙ found_fit rid name h.0 es (sym (ap (is_fit (list_of rid)) h.1) ∙ fit) ∙ ap (found_in rid name) (sym h.1)

-- the stray reply is the one that came
pub stray_is : (rid : Rid) (name : List ℕ) (r s : Reply) → Err (Stray s) ≡ found_in rid name r → s ≡ r
stray_is rid name (reply.Listing key es) s h = by (is_fit (list_of rid) (reply.Listing key es)) h where
  by : (b : Bool) → Err (Stray s) ≡ cond b (Ok (named name es)) (Err (Stray (reply.Listing key es))) → s ≡ reply.Listing key es
  by true e = cc
  by false e = cc
stray_is rid name (reply.Feed round clock es) s h = cc
stray_is rid name (reply.Bytes key start bytes) s h = cc
stray_is rid name (reply.Missing key) s h = cc
stray_is rid name (reply.Done token r version) s h = cc
stray_is rid name (reply.Void token) s h = cc
stray_is rid name (reply.Refused token w version) s h = cc
stray_is rid name (reply.Gone key) s h = cc

-- by an ask
pub found_asked : (rid : Rid) (name : List ℕ) (r : Reply) (old new : Told) (result : Result (Option Entry) FindError) → Answers (list_of rid) r old new → IsFoundIn rid name r result → FindsEntry rid name old result new
found_asked rid name r old new (Ok o) a h = (r, a, h)
found_asked rid name r old new (Err (Stray s)) a h =
    let same : s ≡ r = stray_is rid name r s h in
    (subst (λ (x : Reply). Answers (list_of rid) x old new) (sym same) a, subst (λ (x : Reply). Err (Stray s) ≡ found_in rid name x) (sym same) h)
found_asked rid name r old new (Err Fault) a h = absurd h
found_asked rid name r old new (Err OutOfMemory) a h = inr (r, a)

-- at an exit by `?`
pub with_find : {A : Type 0} (P : Result A FindError → Type 0) (r : Result A FindError) (e : FindError) → IsErrAnd r (λ y. y ≡ e) → P (Err e) → P r
with_find P r e is h = let p = err_from_is_err_and r is in subst P (sym (p.1 ∙ ap (λ (y : FindError). Err y) p.2)) h

pub asked_in_vain : (rid : Rid) (name : List ℕ) (old new : Told) (e : AskError) → Asks (list_of rid) old (Err e) new → FindsEntry rid name old (Err (find_error_of e)) new
asked_in_vain rid name old new ask.Fault h = h
asked_in_vain rid name old new ask.OutOfMemory h = inl h
