-- What is kept of the link while the machine goes on in `replay`: messages never become fewer, and a remote that did not keep its rules
-- stays one.
use Rattle.std.proofs.Common.{◌≡◌, ◌≤◌, ◌+◌, ℕ, Bool, true, false, [], ◌∷◌, ◌++◌, arith, length}
use Rattle.std.specs.Prelude.{Option, Some, None}
use Rattle.std.proofs.lemmas.List.{length-append}
use Rattle.cf_base.specs.declared.codes.Code.{Code}
use Rattle.cf_base.specs.declared.messages.Request.{Request}
use Rattle.cf_base.specs.declared.notices.Frame.{Frame}
use Rattle.cf_model.specs.Arrows.{reading, then_do}
use Rattle.cf_model.specs.Changes.{change_with}
use Rattle.cf_model.specs.Operations.{done}
use Rattle.cf_model.specs.Points.{commit}
use Rattle.cf_model.specs.Settling.{settle, tell}
use Rattle.cf_model.specs.Skips.{skip_line}
use Rattle.cf_model.specs.State.{Filter, Link, State, in_volume, with_filter}
use Rattle.cf_model.specs.Store.{Held, remote_step}
use Rattle.cf_model.specs.Trees.{Asked, Fork, Keeps, Ret, Step, Tree}
use Rattle.cf_model.specs.Waits.{all_down, begin_now, begun}
use Rattle.cf_model_laws.proofs.Guarded.{Entering, Guarded, GuardedFilter}
use Rattle.cf_model_laws.proofs.SkipsGuarded.{keeps_both}
use Rattle.cf_model_laws.proofs.SinceKept.{moved_weaker, on_filter_weaker, record_weaker}
use Rattle.cf_model_laws.specs.Taken.{Knowledge}

always : {S A : Type 0} (C : Type 0) → C → (p : Tree S A) → Keeps (λ s. C) p
always C h (Ret a s) = h
always C h (Step s p) = (h, always C h p)
always C h (Fork p q) = (always C h p, always C h q)
always C h (Asked k) = λ x. always C h (k x)

-- what does not speak of the filter
pub filter_beside : {On : Knowledge} (l : Link) (tokens : ℕ) (C : Type 0) (P : Filter → Type 0) → C → GuardedFilter On l tokens P → GuardedFilter On l tokens (λ x. P x × C)
filter_beside l tokens C P c closed = record {
  sound = λ x h fair. closed.sound x h.0 fair;
  change = λ f d x keeps seen free fit known h. keeps_both P (λ x. C) (change_with f d x) (closed.change f d x keeps seen free fit known h.0) (always C c (change_with f d x));
  touch = λ f d item e x quiet keeps seen on fit known h. keeps_both P (λ x. C) (then_do (change_with f d) (then_do (settle item e) done) x) (closed.touch f d item e x quiet keeps seen on fit known h.0) (always C c (then_do (change_with f d) (then_do (settle item e) done) x));
  commits = record { keeps = λ x h. keeps_both P (λ x. C) (in_volume commit x) (closed.commits.keeps x h.0) (always C c (in_volume commit x)) };
  settled = λ item d x others h. keeps_both P (λ x. C) (settle item d x) (closed.settled item d x others h.0) (always C c (settle item d x));
  begins = λ n x plain fit unmet h. keeps_both P (λ x. C) (reading (begun n) (begin_now n) x) (closed.begins n x plain fit unmet h.0) (always C c (reading (begun n) (begin_now n) x));
  downs = record { keeps = λ x h. keeps_both P (λ x. C) (reading all_down tell x) (closed.downs.keeps x h.0) (always C c (reading all_down tell x)) };
  keeps_accessed = λ item x h. (closed.keeps_accessed item x h.0, c);
  keeps_accessed_now = λ n x h. (closed.keeps_accessed_now n x h.0, c);
  keeps_as_it_is = λ x h. (closed.keeps_as_it_is x h.0, c);
  keeps_begin_call = λ x h. (closed.keeps_begin_call x h.0, c);
  keeps_connected_again = λ x h. (closed.keeps_connected_again x h.0, c);
  keeps_with_handle = λ item x fit h. (closed.keeps_with_handle item x fit h.0, c);
  keeps_with_time = λ n x h. (closed.keeps_with_time n x h.0, c);
  keeps_without_handle = λ handle x h. (closed.keeps_without_handle handle x h.0, c);
}

-- what keeps it, of the link
pub record OfLink (C : Link → Type 0) : Type 0 where
  pub counts : (l : Link) → C l → C (record l { remote_asks = l.remote_asks + 1 })
  pub asks : (l : Link) (q : Request) → C l → C (record l { remote_asks = l.remote_asks + 1; remote = (remote_step l.remote q).1 })
  pub distrusts : (l : Link) (r : Held) → C l → C (record l { remote_asks = l.remote_asks + 1; remote = r; honest = false })
  pub posts : (l : Link) (f : Option Frame) (n : ℕ) → C l → C (record l { messages = l.messages ++ f ∷ []; kept_bytes = n })

module _ (C : Link → Type 0) (of : OfLink C) where
  abbrev Kept : State → Type 0
  Kept s = C s.link

  line_linked : (b : Bool) (c : Code) (s : State) → Kept s → Kept (skip_line b c s)
  line_linked true c s h = h
  line_linked false c s h = h

  pub guarded_link : (P : State → Type 0) → Guarded P → Guarded (λ s. P s × C s.link)
  guarded_link P closed = record {
    replay = λ s h. closed.replay s h.0;
    on_filter = λ s h. filter_beside s.link s.volatile.tokens (C s.link) (λ x. P (with_filter x s)) h.1 (on_filter_weaker P (λ t. P t × C t.link) (λ t k. k.0) s _ (closed.on_filter s h.0));
    keeps_counted = λ s h. (closed.keeps_counted s h.0, of.counts s.link h.1);
    asked = λ q s well h. (closed.asked q s well h.0, of.asks s.link q h.1);
    told = λ held s h. (closed.told held s h.0, of.distrusts s.link held h.1);
    posts = λ f s other well now h. (closed.posts f s other well now h.0, of.posts s.link (Some f) _ h.1);
    loses = λ f s h. (closed.loses f s h.0, of.posts s.link None s.link.kept_bytes h.1);
    books = λ f s keeps placed known h. (closed.books f s keeps placed (λ fair. record_weaker P (λ t. P t × C t.link) (λ t k. k.0) f s (known fair)) h.0, h.1);
    moved = λ e s is live known h. (closed.moved e s is live (λ fair. moved_weaker P (λ t. P t × C t.link) (λ t k. k.0) e s (known fair)) h.0, h.1);
    leaves = λ token s h. (closed.leaves token s h.0, h.1);
    keeps_fault_line = λ m s h. (closed.keeps_fault_line m s h.0, h.1);
    keeps_showing = λ s h. (closed.keeps_showing s h.0, h.1);
    keeps_skipped = λ c s h. (closed.keeps_skipped c s h.0, line_linked s.running.shows_skips c (record s { running = record s.running { skips = s.running.skips + 1 } }) h.1);
    keeps_volatile_all_released = λ s h. (closed.keeps_volatile_all_released s h.0, h.1);
    keeps_volatile_held_and_closed = λ e s h. (closed.keeps_volatile_held_and_closed e s h.0, h.1);
    keeps_volatile_not_in_row = λ e s h. (closed.keeps_volatile_not_in_row e s h.0, h.1);
    keeps_volatile_round_closed = λ s h. (closed.keeps_volatile_round_closed s h.0, h.1);
    keeps_volatile_taken_from_row = λ e s h. (closed.keeps_volatile_taken_from_row e s h.0, h.1);
    keeps_volatile_with_not_empty = λ n s h. (closed.keeps_volatile_with_not_empty n s h.0, h.1);
    keeps_volatile_with_round = λ s h. (closed.keeps_volatile_with_round s h.0, h.1);
    keeps_volatile_with_taken_name = λ item s h. (closed.keeps_volatile_with_taken_name item s h.0, h.1);
    keeps_volatile_with_token = λ s h. (closed.keeps_volatile_with_token s h.0, h.1);
    keeps_with_clock_seen = λ clock s h. (closed.keeps_with_clock_seen clock s h.0, h.1);
    keeps_with_done = λ s h. (closed.keeps_with_done s h.0, h.1);
    keeps_with_outbox = λ a rest s e h. (closed.keeps_with_outbox a rest s e h.0, h.1);
    keeps_with_stray = λ r s h. (closed.keeps_with_stray r s h.0, h.1);
    keeps_with_token_used = λ s h. (closed.keeps_with_token_used s h.0, h.1);
    keeps_without_done = λ s h. (closed.keeps_without_done s h.0, h.1);
  }

  pub entering_link : (P : State → Type 0) → Entering P → Entering (λ s. P s × C s.link)
  entering_link P entering = record { uploads = record { enters = λ e s well h. (entering.uploads.enters e s well h.0, h.1) }; feeds = λ f s well now h. (entering.feeds f s well now h.0, of.posts s.link (Some f) _ h.1) }

-- the number of messages

abbrev pub Many : ℕ → Link → Type 0
Many n l = n ≤ length l.messages

pub many_of : (n : ℕ) → OfLink (Many n)
many_of n = record {
  counts = λ l h. h;
  asks = λ l q h. h;
  distrusts = λ l r h. h;
  posts = λ l f k h. more n (length l.messages) (length (l.messages ++ f ∷ [])) h (length-append l.messages (f ∷ []));
}
  where
    more : (a b c : ℕ) → a ≤ b → c ≡ b + 1 → a ≤ c
    more a b c h e = omega (arith, h, e)
