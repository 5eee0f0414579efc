-- What a Done that fits names: neither the root nor what has no number.
use Rattle.std.proofs.Common.{◌≡◌, ℕ, Bool, true, false, List, refl, sym, ◌∙◌, ap, subst, arith, ◌⊎◌, inl, inr}
use Rattle.std.specs.Prelude.{Option, Some, cond, not, nat_lt, ◌&&◌, ◌==◌}
use Rattle.std.proofs.lemmas.Bool.{eqb-true}
use Rattle.cf_base.specs.declared.ids.Rid.{Rid}
use Rattle.cf_base.specs.declared.ids.Token.{Token}
use Rattle.cf_base.specs.declared.ids.Version.{Version}
use Rattle.cf_base.specs.declared.messages.Reply.TheVariants as reply
use Rattle.cf_base.specs.declared.messages.Request.{Request}
use Rattle.cf_base.specs.declared.messages.Request.TheVariants as request
use Rattle.cf_base.specs.declared.notices.Frame.{Frame}
use Rattle.cf_model.specs.Books.{Action, MakeDir, MoveItem, PutFile, QueueEntry, RemoveItem}
use Rattle.cf_model.specs.Fits.{Known, fits, done_fits, is_known}
use Rattle.cf_model.specs.Messages.{entry_live, known_now, settled_rid}
use Rattle.cf_model.specs.Numbers.{same_key, no_rid}
use Rattle.cf_model.specs.State.{State, book_now}
use Rattle.cf_model.specs.Store.{Held}
use Rattle.cf_model.specs.Words.{part}
use Rattle.cf_model_laws.specs.Invariant.{Asks, IsAskedFor}
use Rattle.cf_model_laws.proofs.Gathered.{all_any, all_found}
use Rattle.cf_model_laws.proofs.RemoteSteps.{same_token}
use Rattle.cf_model_laws.proofs.RightItems.{no_way}
use Rattle.cf_model_laws.proofs.SoundSettles.{left_true, right_true}
use Rattle.std.proofs.lemmas.Bool.Decides.{nat_tests}

own_key : (s : State) (t token : Token) (e : QueueEntry) → entry_live s token ≡ Some e → same_key t.0 token.0 ≡ true → same_key t.0 e.token.0 ≡ true
own_key s t token e live k =
    let same : e.token ≡ token = same_token e.token token (all_found (λ q. Unit {0}) (λ q. same_key q.token.0 token.0) (book_now s).entries e live (all_any (λ q. Unit {0}) (λ q. tt) (book_now s).entries)).1 in
    subst (λ (x : Token). same_key t.0 x.0 ≡ true) (sym same) k

low_told : (ks : List Known) (asked told : Rid) → done_fits ks asked told ≡ true → (asked.0 ≡ 1 → ⊥) → told.0 ≡ 1 → ⊥
low_told ks asked told e low z = by (asked.0 == 0) e where
  small : (n : ℕ) → n ≡ 1 → nat_lt 1 n ≡ true → ⊥
  small n z e = grind (arith, nat_tests, z, e)

  by : (b : Bool) → cond b (nat_lt 1 told.0 && not (is_known ks told)) (asked.0 == told.0) ≡ true → ⊥
  by true k = small told.0 z (left_true (nat_lt 1 told.0) (not (is_known ks told)) k)
  by false k = low (eqb-true asked.0 told.0 k ∙ z)

zero_low : (n : ℕ) → n ≡ 0 → n ≡ 1 → ⊥
zero_low n a b = omega (arith, a, b)

entry_rid_low : (r : Held) (ms : List (Option Frame)) (e : QueueEntry) → IsAskedFor r ms e → (e.action ≡ PutFile) ⊎ (e.action ≡ MakeDir) → e.rid.0 ≡ 1 → ⊥
entry_rid_low r ms e asked (inl is) z = asked.low is z
entry_rid_low r ms e asked (inr is) z = zero_low e.rid.0 (asked.new is) z

no_move_up : (a : Action) → (a ≡ PutFile) ⊎ (a ≡ MakeDir) → a ≡ MoveItem → ⊥
no_move_up a (inl is) z = let y : ◌≡◌ {A = Action} PutFile MoveItem = sym is ∙ z in cc
no_move_up a (inr is) z = let y : ◌≡◌ {A = Action} MakeDir MoveItem = sym is ∙ z in cc

no_removal_up : (a : Action) → (a ≡ PutFile) ⊎ (a ≡ MakeDir) → a ≡ RemoveItem → ⊥
no_removal_up a (inl is) z = let y : ◌≡◌ {A = Action} PutFile RemoveItem = sym is ∙ z in cc
no_removal_up a (inr is) z = let y : ◌≡◌ {A = Action} MakeDir RemoveItem = sym is ∙ z in cc

pub done_low : (s : State) (q : Request) (token : Token) (rid : Rid) (version : Version) (e : QueueEntry) → fits (known_now s) (settled_rid s q) q (reply.Done token rid version) ≡ true → entry_live s token ≡ Some e → Asks e q → IsAskedFor s.link.remote s.link.messages e
    → (e.action ≡ PutFile) ⊎ (e.action ≡ MakeDir) → rid.0 ≡ 1 → ⊥
done_low s (request.Feed round after) token rid version e fit live asks asked is = no_way fit
done_low s (request.List key r) token rid version e fit live asks asked is = no_way fit
done_low s (request.Fetch key r v start len) token rid version e fit live asks asked is = no_way fit
done_low s (request.Put t r expect parent name bytes) token rid version e fit live asks asked is =
    let own : same_key t.0 e.token.0 ≡ true = own_key s t token e live (left_true (same_key t.0 token.0) (done_fits (known_now s) r rid) fit) in
    low_told (known_now s) r rid (right_true (same_key t.0 token.0) (done_fits (known_now s) r rid) fit) (λ z. entry_rid_low s.link.remote s.link.messages e asked is (sym (asks own).1 ∙ z))
done_low s (request.MakeDir t parent name) token rid version e fit live asks asked is =
    low_told (known_now s) (record { 0 = 0 }) rid (right_true (same_key t.0 token.0) (done_fits (known_now s) (record { 0 = 0 }) rid) fit) (λ z. zero_low 0 refl z)
done_low s (request.Move t r parent name) token rid version e fit live asks asked is =
    absurd (no_move_up e.action is (asks (own_key s t token e live (left_true (same_key t.0 token.0) (done_fits (known_now s) r rid) fit))).0)
done_low s (request.Remove t r expect) token rid version e fit live asks asked is =
    absurd (no_removal_up e.action is (asks (own_key s t token e live (left_true (same_key t.0 token.0) (done_fits (known_now s) r rid) fit))).0)
done_low s (request.Keep t count) token rid version e fit live asks asked is =
    no_way (sym asks ∙ own_key s t token e live (left_true (same_key t.0 token.0) (done_fits (known_now s) (record { 0 = 1 }) rid) fit))
done_low s (request.Settle t) token rid version e fit live asks asked is =
    low_told (known_now s) (part (λ q. q.rid) no_rid (entry_live s t)) rid (right_true (same_key t.0 token.0) (done_fits (known_now s) (part (λ q. q.rid) no_rid (entry_live s t)) rid) fit)
    (λ z. entry_rid_low s.link.remote s.link.messages e asked is
    (sym (ap (λ (o : Option QueueEntry). (part (λ q. q.rid) no_rid o).0) (ap (entry_live s) (same_token t token (left_true (same_key t.0 token.0) (done_fits (known_now s) (part (λ q. q.rid) no_rid (entry_live s t)) rid) fit)) ∙ live)) ∙ z))
