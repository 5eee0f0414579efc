-- Two properties that are kept are kept together.
use Rattle.cf_model.specs.Arrows.{reading, then_do}
use Rattle.cf_model.specs.Changes.{change_with}
use Rattle.cf_model.specs.Operations.{done}
use Rattle.cf_model.specs.Points.{commit}
use Rattle.cf_model.specs.Settling.{settle, tell}
use Rattle.cf_model.specs.State.{Filter, Link, State, in_volume, with_filter}
use Rattle.cf_model.specs.Waits.{all_down, begin_now, begun}
use Rattle.std.specs.Prelude.{ℕ}
use Rattle.cf_model_laws.proofs.Guarded.{Entering, Guarded, GuardedFilter, Uploading}
use Rattle.cf_model_laws.proofs.SinceKept.{moved_weaker, on_filter_weaker, record_weaker}
use Rattle.cf_model_laws.proofs.SkipsGuarded.{keeps_both}
use Rattle.cf_model_laws.specs.Taken.{Knowledge}

filter_both : {On : Knowledge} (l : Link) (tokens : ℕ) (P Q : Filter → Type 0) → GuardedFilter On l tokens P → GuardedFilter On l tokens Q → GuardedFilter On l tokens (λ x. P x × Q x)
filter_both l tokens P Q p q = record {
  sound = λ x h fair. p.sound x h.0 fair;
  change = λ f c x keeps seen free fit known h. keeps_both P Q (change_with f c x) (p.change f c x keeps seen free fit known h.0) (q.change f c x keeps seen free fit known h.1);
  touch = λ f c item d x quiet keeps seen on fit known h. keeps_both P Q (then_do (change_with f c) (then_do (settle item d) done) x) (p.touch f c item d x quiet keeps seen on fit known h.0) (q.touch f c item d x quiet keeps seen on fit known h.1);
  commits = record { keeps = λ x h. keeps_both P Q (in_volume commit x) (p.commits.keeps x h.0) (q.commits.keeps x h.1) };
  settled = λ item d x ends h. keeps_both P Q (settle item d x) (p.settled item d x ends h.0) (q.settled item d x ends h.1);
  begins = λ n x plain fit unmet h. keeps_both P Q (reading (begun n) (begin_now n) x) (p.begins n x plain fit unmet h.0) (q.begins n x plain fit unmet h.1);
  downs = record { keeps = λ x h. keeps_both P Q (reading all_down tell x) (p.downs.keeps x h.0) (q.downs.keeps x h.1) };
  keeps_accessed = λ item x h. (p.keeps_accessed item x h.0, q.keeps_accessed item x h.1);
  keeps_accessed_now = λ n x h. (p.keeps_accessed_now n x h.0, q.keeps_accessed_now n x h.1);
  keeps_as_it_is = λ x h. (p.keeps_as_it_is x h.0, q.keeps_as_it_is x h.1);
  keeps_begin_call = λ x h. (p.keeps_begin_call x h.0, q.keeps_begin_call x h.1);
  keeps_connected_again = λ x h. (p.keeps_connected_again x h.0, q.keeps_connected_again x h.1);
  keeps_with_handle = λ item x fit h. (p.keeps_with_handle item x fit h.0, q.keeps_with_handle item x fit h.1);
  keeps_with_time = λ n x h. (p.keeps_with_time n x h.0, q.keeps_with_time n x h.1);
  keeps_without_handle = λ handle x h. (p.keeps_without_handle handle x h.0, q.keeps_without_handle handle x h.1);
}

module _ (P Q : State → Type 0) where
  abbrev pub Both : State → Type 0
  Both s = P s × Q s

  first : (t : State) → Both t → P t
  first t h = h.0

  second : (t : State) → Both t → Q t
  second t h = h.1

  pub guarded_both : Guarded P → Guarded Q → Guarded Both
  guarded_both p q = record {
    replay = λ s h. p.replay s h.0;
    on_filter = λ s h. filter_both s.link s.volatile.tokens (λ x. P (with_filter x s)) (λ x. Q (with_filter x s)) (on_filter_weaker P Both first s _ (p.on_filter s h.0)) (on_filter_weaker Q Both second s _ (q.on_filter s h.1));
    keeps_counted = λ s h. (p.keeps_counted s h.0, q.keeps_counted s h.1);
    asked = λ r s well h. (p.asked r s well h.0, q.asked r s well h.1);
    told = λ held s h. (p.told held s h.0, q.told held s h.1);
    posts = λ f s other well now h. (p.posts f s other well now h.0, q.posts f s other well now h.1);
    loses = λ f s h. (p.loses f s h.0, q.loses f s h.1);
    books = λ f s keeps placed known h. (p.books f s keeps placed (λ fair. record_weaker P Both first f s (known fair)) h.0, q.books f s keeps placed (λ fair. record_weaker Q Both second f s (known fair)) h.1);
    moved = λ e s is live known h. (p.moved e s is live (λ fair. moved_weaker P Both first e s (known fair)) h.0, q.moved e s is live (λ fair. moved_weaker Q Both second e s (known fair)) h.1);
    leaves = λ token s h. (p.leaves token s h.0, q.leaves token s h.1);
    keeps_fault_line = λ m s h. (p.keeps_fault_line m s h.0, q.keeps_fault_line m s h.1);
    keeps_showing = λ s h. (p.keeps_showing s h.0, q.keeps_showing s h.1);
    keeps_skipped = λ c s h. (p.keeps_skipped c s h.0, q.keeps_skipped c s h.1);
    keeps_volatile_all_released = λ s h. (p.keeps_volatile_all_released s h.0, q.keeps_volatile_all_released s h.1);
    keeps_volatile_held_and_closed = λ e s h. (p.keeps_volatile_held_and_closed e s h.0, q.keeps_volatile_held_and_closed e s h.1);
    keeps_volatile_not_in_row = λ e s h. (p.keeps_volatile_not_in_row e s h.0, q.keeps_volatile_not_in_row e s h.1);
    keeps_volatile_round_closed = λ s h. (p.keeps_volatile_round_closed s h.0, q.keeps_volatile_round_closed s h.1);
    keeps_volatile_taken_from_row = λ e s h. (p.keeps_volatile_taken_from_row e s h.0, q.keeps_volatile_taken_from_row e s h.1);
    keeps_volatile_with_not_empty = λ n s h. (p.keeps_volatile_with_not_empty n s h.0, q.keeps_volatile_with_not_empty n s h.1);
    keeps_volatile_with_round = λ s h. (p.keeps_volatile_with_round s h.0, q.keeps_volatile_with_round s h.1);
    keeps_volatile_with_taken_name = λ item s h. (p.keeps_volatile_with_taken_name item s h.0, q.keeps_volatile_with_taken_name item s h.1);
    keeps_volatile_with_token = λ s h. (p.keeps_volatile_with_token s h.0, q.keeps_volatile_with_token s h.1);
    keeps_with_clock_seen = λ clock s h. (p.keeps_with_clock_seen clock s h.0, q.keeps_with_clock_seen clock s h.1);
    keeps_with_done = λ s h. (p.keeps_with_done s h.0, q.keeps_with_done s h.1);
    keeps_with_outbox = λ a rest s e h. (p.keeps_with_outbox a rest s e h.0, q.keeps_with_outbox a rest s e h.1);
    keeps_with_stray = λ r s h. (p.keeps_with_stray r s h.0, q.keeps_with_stray r s h.1);
    keeps_with_token_used = λ s h. (p.keeps_with_token_used s h.0, q.keeps_with_token_used s h.1);
    keeps_without_done = λ s h. (p.keeps_without_done s h.0, q.keeps_without_done s h.1);
  }

  pub uploading_both : Uploading P → Uploading Q → Uploading Both
  uploading_both p q = record { enters = λ e s well h. (p.enters e s well h.0, q.enters e s well h.1) }

  pub entering_both : Entering P → Entering Q → Entering Both
  entering_both p q = record { uploads = uploading_both p.uploads q.uploads; feeds = λ f s well now h. (p.feeds f s well now h.0, q.feeds f s well now h.1) }
