-- An ask of the remote as a way through the tree.
use Rattle.std.proofs.Common.{◌≡◌, inl, inr, true, false, ℕ, ◌+◌, ◌-◌, ◌^◌, refl, sym, ap, ◌∙◌, subst, arith, min}
use Rattle.std.specs.Prelude.{Option, Some, None, is_some, option_map}
use Rattle.std.proofs.lemmas.Bool.{cases_lt}
use Rattle.std.proofs.Math.Nat.{min-eq_left, min-eq_right}
use Rattle.cf_base.specs.declared.answers.Shown.{Shown}
use Rattle.cf_base.specs.declared.messages.Reply.{Reply}
use Rattle.cf_base.specs.declared.messages.Request.{Request}
use Rattle.cf_model.specs.Arrows.{Arrow, seq}
use Rattle.cf_model.specs.Messages as messages
use Rattle.cf_model.specs.Messages.{after_ask, ask, distrusted, with_remote}
use Rattle.cf_model.specs.State.{State}
use Rattle.cf_model.specs.Store.{Held, remote_step}
use Rattle.cf_model.specs.Trees as trees
use Rattle.cf_model.specs.Trees.{AsItKeeps, Asked, Fork, Ret, Step, Telling, Tells, Tree, bind}
use Rattle.cf_remote.specs.Peers.{Begins, IsCount, IsHeld, IsTelling, Leads, Stands}
use Rattle.cf_remote.specs.Told.{Answers, Faults, Replies, Told, counted}

-- counts

count_of : (n most : ℕ) → min (min n most + 1) most ≡ min (n + 1) most
count_of n most = elim (cases_lt n most) [
  | inl less ↦ ap (λ (k : ℕ). min (k + 1) most) (min-eq_left (omega arith))
  | inr more ↦ ap (λ (k : ℕ). min (k + 1) most) (min-eq_right more) ∙ min-eq_right (omega arith) ∙ sym (min-eq_right (omega arith))
]

count_on : (old new : Option ℕ) (asks : ℕ) → IsCount old asks → new ≡ option_map counted old → IsCount new (asks + 1)
count_on None new asks h e = subst (λ (o : Option ℕ). IsCount o (asks + 1)) (sym e) tt
count_on (Some n) new asks h e = subst (λ (o : Option ℕ). IsCount o (asks + 1)) (sym e) (ap counted h ∙ count_of asks (2 ^ 64 - 1))

-- what the remote did, and the state after it
pub record After (q : Request) (r : Option Reply) (next : ℕ) (s : State) (old new : Told) : Type 0 where
  pub does : Telling
  pub state : State
  pub is : IsTelling does old new
  pub there : after_ask (remote_step s.link.remote q) s does ≡ Ret r state
  pub stands : Stands next new state
  pub running : state.running ≡ s.running

pub after_reply : (q : Request) (r : Reply) (next : ℕ) (s : State) (old new : Told) → Stands next old s → Answers q r old new → After q (Some r) next s old new
after_reply q r next s old new st a = one old.held refl where
  asks : IsCount new.asks (s.link.remote_asks + 1)
  asks = count_on old.asks new.asks s.link.remote_asks st.asks a.counts.asks

  one : (held : Option Held) → old.held ≡ held → After q (Some r) next s old new
  one None e = record {
    does = Tells r;
    state = distrusted (with_remote (remote_step s.link.remote q).1 (messages.counted s));
    is = (a.counts, a.never_falls, e, subst (λ (h : Option Held). Replies q r h new.held) e a.replies);
    there = refl;
    stands = record {
      token = st.token;
      held = subst (λ (h : Option Held). IsHeld h (remote_step s.link.remote q).1) (sym (subst (λ (h : Option Held). Replies q r h new.held) e a.replies)) tt;
      asks = asks;
      honest = λ tells. let z : false ≡ true = sym (ap (λ (h : Option Held). is_some h) (subst (λ (h : Option Held). Replies q r h new.held) e a.replies)) ∙ tells in absurd cc;
    };
    running = refl;
  }
  one (Some held) e =
      let same : s.link.remote ≡ held = subst (λ (h : Option Held). IsHeld h s.link.remote) e st.held in
      let told : (r ≡ (remote_step held q).0) × (new.held ≡ Some (remote_step held q).1) = subst (λ (h : Option Held). Replies q r h new.held) e a.replies in
      record {
        does = AsItKeeps;
        state = with_remote (remote_step s.link.remote q).1 (messages.counted s);
        is = (a.counts, a.never_falls, ap (λ (h : Option Held). is_some h) told.1 ∙ sym (ap (λ (h : Option Held). is_some h) e));
        there = ap {B = Tree State (Option Reply)} (λ (x : Reply). Ret (Some x) (with_remote (remote_step s.link.remote q).1 (messages.counted s)))
            (ap (λ (h : Held). (remote_step h q).0) same ∙ sym told.0);
        stands = record {
          token = st.token;
          held = subst (λ (h : Option Held). IsHeld h (remote_step s.link.remote q).1) (sym told.1) (ap (λ (h : Held). (remote_step h q).1) same);
          asks = asks;
          honest = λ tells. st.honest (ap (λ (h : Option Held). is_some h) e);
        };
        running = refl;
      }

pub after_fault : (q : Request) (next : ℕ) (s : State) (old new : Told) → Stands next old s → Faults old new → After q None next s old new
after_fault q next s old new st f = record {
  does = trees.Faults;
  state = messages.counted s;
  is = (f.counts, f.rose, f.held);
  there = refl;
  stands = record {
    token = st.token;
    held = subst (λ (h : Option Held). IsHeld h s.link.remote) (sym f.held) st.held;
    asks = count_on old.asks new.asks s.link.remote_asks st.asks f.counts.asks;
    honest = λ tells. st.honest (sym (ap (λ (h : Option Held). is_some h) f.held) ∙ tells);
  };
  running = refl;
}

-- what follows the ask leads on
pub leads_ask : (q : Request) (r : Option Reply) (next : ℕ) (s : State) (old mid : Told) (g : Option Reply → Arrow State Shown) (a : After q r next s old mid)
    (b : Shown) (u : State) (last : Told) → Leads (g r a.state) mid b u last → Leads (seq (ask q) g s) old b u last
leads_ask q r next s old mid g a b u last l = (a.does, mid, a.is, subst (λ (p : Tree State (Option Reply)). Leads (bind p g) mid b u last) (sym a.there) l)

-- what follows the ask is begun
pub begins_ask : (q : Request) (r : Option Reply) (next : ℕ) (s : State) (old mid : Told) (g : Option Reply → Arrow State Shown) (a : After q r next s old mid)
    (last : Told) → Begins (g r a.state) mid last → Begins (seq (ask q) g s) old last
begins_ask q r next s old mid g a last l = inr (a.does, mid, a.is, subst (λ (p : Tree State (Option Reply)). Begins (bind p g) mid last) (sym a.there) l)

-- nothing of it is done yet
pub begins_here : {S A : Type 0} (p : Tree S A) (told : Told) → Begins p told told
begins_here (Ret a s) told = refl
begins_here (Step s p) told = begins_here p told
begins_here (Fork p q) told = inl (begins_here p told)
begins_here (Asked k) told = inl refl
