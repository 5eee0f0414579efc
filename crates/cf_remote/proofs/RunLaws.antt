-- What no requests take from a remote, and what a token makes.
use Rattle.std.proofs.Common.{◌≡◌, ℕ, ◌+◌, Bool, true, false, cond, List, [], ◌∷◌, map, refl, sym, ap, ◌∙◌, subst, ◌==◌}
use Rattle.std.specs.Prelude.{Option, Some, None, Result, Ok, Err, option_map}
use Rattle.cf_base.specs.declared.ids.Rid.{Rid}
use Rattle.cf_base.specs.declared.ids.Token.{Token}
use Rattle.cf_base.specs.declared.ids.Version.{Version}
use Rattle.cf_base.specs.declared.messages.Reply.{Reply}
use Rattle.cf_base.specs.declared.messages.Request.{Request}
use Rattle.cf_base.specs.declared.messages.Request.TheVariants as request
use Rattle.cf_base.specs.declared.messages.Why.{Why}
use Rattle.cf_model.specs.Store.{Held, Mutation, Recorded, Stored, as_recorded, keep_last, make_dir, move_to, mutate, put_new, put_version, recorded_at, remote_step, remove_at, settle, stored_at, versions_held}
use Rattle.cf_model.proofs.StoreLaws.{extends-self, extends-then, step_extends}
use Rattle.cf_remote.specs.Runs.{HasToken, HoldsMore, Runs}
use Rattle.cf_remote.specs.Told.{Asks, Replies, Told}
use Rattle.cf_remote.specs.declared.ask_errors.AskError.{AskError}
use Rattle.cf_remote.specs.declared.ask_errors.AskError.TheVariants.{Fault, OutOfMemory}

ask_holds : (q : Request) (old : Told) (result : Result Reply AskError) (new : Told) (held : Held) → Asks q old result new → old.held ≡ Some held → HoldsMore held new.held
ask_holds q old (Ok r) new held a e =
    let told = subst (λ (h : Option Held). Replies q r h new.held) e a.replies in
    ((remote_step held q).1, told.1, step_extends held q)
ask_holds q old (Err Fault) new held f e = (held, f.held ∙ e, extends-self held)
ask_holds q old (Err OutOfMemory) new held same e = (held, ap (λ (t : Told). t.held) same ∙ e, extends-self held)

pub runs_hold : (old : Told) (asks : List (Request × Result Reply AskError)) (new : Told) (held : Held) → Runs old asks new → old.held ≡ Some held → HoldsMore held new.held
runs_hold old [] new held same e = (held, ap (λ (t : Told). t.held) same ∙ e, extends-self held)
runs_hold old (a ∷ as') new held h e =
    let first = ask_holds a.0 old a.1 h.0 held h.1 e in
    let rest = runs_hold h.0 as' new first.0 h.2 first.1 in
    (rest.0, rest.1, extends-then held first.0 rest.0 first.2 rest.2)

put_again : (held : Held) (rid : Rid) (expect : Version) (parent : Rid) (name bytes : List ℕ) (token : Token) (r : Recorded) → recorded_at held.tokens token ≡ Some r
    → (new : Bool) → mutate held token (elim new as (λ _. Mutation) [ true ↦ put_new held parent name bytes | false ↦ put_version held rid expect bytes ]) (recorded_at held.tokens token) ≡ (as_recorded token r, held)
put_again held rid expect parent name bytes token r e true = ap (mutate held token (put_new held parent name bytes)) e
put_again held rid expect parent name bytes token r e false = ap (mutate held token (put_version held rid expect bytes)) e

pub asked_again : (held : Held) (q : Request) (token : Token) (r : Recorded) → HasToken q token → recorded_at held.tokens token ≡ Some r → remote_step held q ≡ (as_recorded token r, held)
asked_again held (request.Feed round after) token r h e = absurd h
asked_again held (request.List key rid) token r h e = absurd h
asked_again held (request.Fetch key rid version start len) token r h e = absurd h
asked_again held (request.Put t rid expect parent name bytes) token r h e =
    subst (λ (x : Token). ◌≡◌ {A = Reply × Held} (remote_step held (request.Put x rid expect parent name bytes)) (as_recorded token r, held)) (sym h) (put_again held rid expect parent name bytes token r e (rid.0 == 0))
asked_again held (request.MakeDir t parent name) token r h e =
    subst (λ (x : Token). ◌≡◌ {A = Reply × Held} (remote_step held (request.MakeDir x parent name)) (as_recorded token r, held)) (sym h) (ap (mutate held token (make_dir held parent name)) e)
asked_again held (request.Move t rid parent name) token r h e =
    subst (λ (x : Token). ◌≡◌ {A = Reply × Held} (remote_step held (request.Move x rid parent name)) (as_recorded token r, held)) (sym h) (ap (mutate held token (move_to held rid parent name)) e)
asked_again held (request.Remove t rid expect) token r h e =
    subst (λ (x : Token). ◌≡◌ {A = Reply × Held} (remote_step held (request.Remove x rid expect)) (as_recorded token r, held)) (sym h) (ap (mutate held token (remove_at held rid expect)) e)
asked_again held (request.Settle t) token r h e =
    subst (λ (x : Token). ◌≡◌ {A = Reply × Held} (remote_step held (request.Settle x)) (as_recorded token r, held)) (sym h) (ap (settle held token) e)
asked_again held (request.Keep t count) token r h e =
    subst (λ (x : Token). ◌≡◌ {A = Reply × Held} (remote_step held (request.Keep x count)) (as_recorded token r, held)) (sym h) (ap (keep_last held token count) e)

-- a change of items that keeps their rids and what is held of them
held_map : (f : Stored → Stored) → ((s : Stored) → (f s).rid ≡ s.rid) → ((s : Stored) → versions_held (f s) ≡ versions_held s) → (ss : List Stored) (at : Rid)
    → option_map versions_held (stored_at (map f ss) at) ≡ option_map versions_held (stored_at ss at)
held_map f rids keeps [] at = refl
held_map f rids keeps (s ∷ ss) at =
    subst (λ (x : Rid). option_map versions_held (cond (x.0 == at.0) (Some (f s)) (stored_at (map f ss) at)) ≡ option_map versions_held (cond (s.rid.0 == at.0) (Some s) (stored_at ss at))) (sym (rids s))
    (one (s.rid.0 == at.0) (held_map f rids keeps ss at)) where
      one : (b : Bool) → option_map versions_held (stored_at (map f ss) at) ≡ option_map versions_held (stored_at ss at)
          → option_map versions_held (cond b (Some (f s)) (stored_at (map f ss) at)) ≡ option_map versions_held (cond b (Some s) (stored_at ss at))
      one true rest = ap (λ (vs : List (List ℕ)). Some vs) (keeps s)
      one false rest = rest

abbrev dead : ℕ → Stored → Stored
dead clock s = record s { live = false; changed = clock }

one_rid : (rid : Rid) (clock : ℕ) (s : Stored) (b : Bool) → (cond b (dead clock s) s).rid ≡ s.rid
one_rid rid clock s true = refl
one_rid rid clock s false = refl

one_held : (rid : Rid) (clock : ℕ) (s : Stored) (b : Bool) → versions_held (cond b (dead clock s) s) ≡ versions_held s
one_held rid clock s true = refl
one_held rid clock s false = refl

removed_by : (held : Held) (token : Token) (rid : Rid) (expect : Version) (at : Rid) (o : Option Recorded) (why : Option Why)
    → option_map versions_held (stored_at (mutate held token (record (remove_at held rid expect) { refusal = why }) o).1.items at) ≡ option_map versions_held (stored_at held.items at)
removed_by held token rid expect at (Some r) why = refl
removed_by held token rid expect at None (Some w) = refl
removed_by held token rid expect at None None =
    held_map (λ s. cond (s.rid.0 == rid.0) (dead (held.clock + 1) s) s) (λ s. one_rid rid (held.clock + 1) s (s.rid.0 == rid.0)) (λ s. one_held rid (held.clock + 1) s (s.rid.0 == rid.0)) held.items at

pub removal_holds : (held : Held) (token : Token) (rid : Rid) (expect : Version) (at : Rid)
    → option_map versions_held (stored_at (remote_step held (request.Remove token rid expect)).1.items at) ≡ option_map versions_held (stored_at held.items at)
removal_holds held token rid expect at = removed_by held token rid expect at (recorded_at held.tokens token) (remove_at held rid expect).refusal
