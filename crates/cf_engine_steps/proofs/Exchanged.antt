-- A request that is sent, as a part of the whole: its message has the number of the last.
use Rattle.std.proofs.Common.{◌≡◌, ℕ, suc, Bool, true, false, List, [], ◌∷◌, length, refl, sym, ◌∙◌, ap, subst}
use Rattle.std.specs.Prelude.{Result, Ok, Option, None}
use Rattle.cf_base.specs.declared.codes.CallError.{CallError}
use Rattle.cf_base.specs.declared.messages.Reply.{Reply}
use Rattle.cf_base.specs.declared.messages.Request.{Request}
use Rattle.cf_base.specs.declared.notices.Frame.{Frame}
use Rattle.cf_base.specs.declared.notices.Frame.TheVariants as frame
use Rattle.cf_engine_steps.specs.Answering.{After, Answers, Any, Whole}
use Rattle.cf_engine_steps.specs.Exchanges.{after_sent, come_last_if, exchange}
use Rattle.cf_engine_steps.specs.States.{Own, whole}
use Rattle.cf_engine_steps.proofs.Laws.{after_on, goes_any, reads_on, returned}
use Rattle.cf_engine_steps.proofs.Linking.{inline_read}
use Rattle.cf_link.specs.Linked.{IsLink, Linked, Posts}
use Rattle.cf_link.specs.declared.posts.Posted.{Posted}
use Rattle.cf_model.specs.Arrows.{Arrow, seq}
use Rattle.cf_model.specs.Messages.{come, is_inline, post}
use Rattle.cf_model.specs.State as model
use Rattle.cf_model.specs.State.{State}
use Rattle.cf_model.specs.Trees.{Does}
use Rattle.cf_model.proofs.TreeLaws as trees
use Rattle.cf_remote.specs.Told.{Told}
use Rattle.cf_wire.specs.Sending.{AreKept}
use Rattle.cf_wire.specs.declared.messages.Message.{Message}
use Rattle.cf_filter_steps.specs.Answering as steps

-- what stands for two states in between is known of the second
goes_known : {X A B : Type 0} (W : Whole X) (Q : State → Type 0) (f : Arrow State A) (g : A → Arrow State B) (old mid new : X) (a : A) (r : Result B CallError)
    → ((s t : State) → W.means old s → W.means mid t → Q t) → Answers W Any f old (Ok a) mid → Answers W Q (g a) mid r new → Answers W Any (seq f g) old r new
goes_known W Q f g old mid new a r q h k = record {
  leads = λ s i p.
      let x = h.leads s i p in let y = k.leads x.0 x.3.0 (q s x.0 i x.3.0) in
      (y.0, trees.goes_on (f s) g a x.0 r y.0 x.1 y.1, W.goes_on old mid new s x.0 y.0 x.2 y.2, after_on W old mid new s x.0 y.0 r x.2 x.3.1 y.3);
}

as_many : (ms : List (Option Message)) (fs : List (Option Frame)) → AreKept ms fs → length ms ≡ length fs
as_many [] [] h = refl
as_many (m ∷ ms) (f ∷ fs) h = ap suc (as_many ms fs h.1)
as_many [] (f ∷ fs) h = absurd h
as_many (m ∷ ms) [] h = absurd h

same_count : {R : Type 0} (told : R → Told) (l : Linked R) (a b : model.Link) → IsLink told l a → IsLink told l b → length a.messages ≡ length b.messages
same_count told l a b h k = sym (as_many l.net.messages a.messages h.net.messages) ∙ as_many l.net.messages b.messages k.net.messages

module _ {X R : Type 0} (S : steps.Sense X) (told : R → Told) (q : Request) (x y : X) (e g : Own R) (p : Posted) (kept : Answers (whole S told) Any (post (frame.Request q)) (x, e) (Ok p.kept) (y, g)) where
  pub sent_lost : p.kept ≡ false → Answers (whole S told) Any (exchange q) (x, e) (Ok None) (y, g)
  sent_lost miss = goes_any (whole S told) Any (post (frame.Request q)) (after_sent q) (x, e) (y, g) (y, g) false (Ok None) (subst (λ (b : Bool). Answers (whole S told) Any (post (frame.Request q)) (x, e) (Ok b) (y, g)) miss kept) (returned (whole S told) Any None (y, g))

  at_once : p.kept ≡ true → Answers (whole S told) Any (post (frame.Request q)) (x, e) (Ok true) (y, g)
  at_once sure = subst (λ (b : Bool). Answers (whole S told) Any (post (frame.Request q)) (x, e) (Ok b) (y, g)) sure kept

  pub sent_later : p.kept ≡ true → (b : Bool) → b ≡ g.agent.link.inline → b ≡ false → Answers (whole S told) Any (exchange q) (x, e) (Ok None) (y, g)
  sent_later sure b is miss = goes_any (whole S told) Any (post (frame.Request q)) (after_sent q) (x, e) (y, g) (y, g) true (Ok None) (at_once sure)
      (reads_on (whole S told) Any is_inline (come_last_if q) (y, g) (y, g) false (Ok None) (inline_read S told y g false (sym miss ∙ is)) (returned (whole S told) Any None (y, g)))

  pub sent_now : (z : X) (h : Own R) (r : Result (Option Reply) CallError) → p.kept ≡ true → (b : Bool) → b ≡ g.agent.link.inline → b ≡ true → Posts told (frame.Request q) e.agent.link p g.agent.link
      → Answers (whole S told) Any (come p.number q) (y, g) r (z, h) → Answers (whole S told) Any (exchange q) (x, e) r (z, h)
  sent_now z h r sure b is hit posts k =
      goes_known (whole S told) (λ t. length t.link.messages ≡ p.number) (post (frame.Request q)) (after_sent q) (x, e) (y, g) (z, h) true r
      (λ s t i j. let n = posts.ends s i.sees.link in sym (n.1 sure ∙ same_count told g.agent.link n.0.link t.link n.0.stands j.sees.link))
      (at_once sure)
      (reads_on (whole S told) (λ t. length t.link.messages ≡ p.number) is_inline (come_last_if q) (y, g) (z, h) true r (record { is = λ s i w. sym hit ∙ is ∙ i.sees.link.inline })
      (record {
        leads = λ s i w.
            subst (λ (m : ℕ). (t : State) × Does (come m q s) r t × (whole S told).moved (y, g) (z, h) s t × After (whole S told) (y, g) r (z, h) s t) (sym w) (k.leads s i (record {}));
      }))
