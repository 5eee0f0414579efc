-- The reply to the feed of an open round is not stale.
use Rattle.std.proofs.Common.{◌≡◌, ◌≤◌, ℕ, Bool, true, false, List, refl, ap, arith, eq-eqb}
use Rattle.std.specs.Prelude.{Some, filter, not, nat_le, ◌&&◌, ◌||◌, ◌==◌}
use Rattle.std.proofs.lemmas.Bool.Decides.{nat_tests}
use Rattle.cf_model.specs.Books.{QueueEntry}
use Rattle.cf_model.specs.Fits.{are_entries}
use Rattle.cf_model.specs.Identities.{is_untargeted}
use Rattle.cf_model.specs.Messages.{is_stale, known_now, known_of}
use Rattle.cf_model.specs.Passes.{feed_of}
use Rattle.cf_model.specs.Store as store
use Rattle.cf_model.specs.Store.{Stored, remote_step, stored_at}
use Rattle.cf_model.specs.State.{State, book_now, items_now}
use Rattle.cf_model.specs.Words.{is_empty}
use Rattle.cf_model_laws.proofs.Gathered.{all_filter, all_map}
use Rattle.cf_model_laws.proofs.RightItems.{no_way}
use Rattle.cf_model_convergence.specs.Feeds.{AreKindsOf}
use Rattle.cf_model_convergence.specs.Resting.{IsTargetOf}
use Rattle.cf_model_convergence.specs.Rounds.{AwaitsFeed}
use Rattle.cf_model_convergence.proofs.FeedsTold.{fits_known}

kinds_known : (s : State) → AwaitsFeed s → AreKindsOf s.link.remote (known_now s)
kinds_known s h =
    all_map (λ i. (r : Stored) → IsTargetOf s i r → r.directory ≡ i.directory) (λ k. (r : Stored) → stored_at s.link.remote.items k.rid ≡ Some r → r.directory ≡ k.directory) known_of (λ i k. k) (filter (λ i. not (is_untargeted i)) (items_now s))
    (all_filter (λ i. (r : Stored) → IsTargetOf s i r → r.directory ≡ i.directory) (λ i. not (is_untargeted i)) (items_now s) h.kinds)

pub reply_taken : (s : State) → AwaitsFeed s → is_stale (feed_of s) (remote_step s.link.remote (feed_of s)).0 s ≡ false
reply_taken s h =
    by (s.filter.volume.epoch == s.filter.volume.epoch) (s.volatile.rounds == s.volatile.rounds) (are_entries (known_now s) (store.feed_of s.link.remote (book_now s).cursor)) s.volatile.round_open (nat_le (book_now s).cursor s.link.remote.clock) (is_empty (book_now s).entries)
    (eq-eqb s.filter.volume.epoch s.filter.volume.epoch refl) (eq-eqb s.volatile.rounds s.volatile.rounds refl) (fits_known s.link.remote (book_now s).cursor (known_now s) h.tidy (kinds_known s h)) h.awaited (is_le (book_now s).cursor s.link.remote.clock h.cursor) (ap (λ (es : List QueueEntry). is_empty es) h.none)
  where
    is_le : (n m : ℕ) → n ≤ m → nat_le n m ≡ true
    is_le n m e = grind (arith, nat_tests, e)

    by : (a b c d e f : Bool) → a ≡ true → b ≡ true → c ≡ true → d ≡ true → e ≡ true → f ≡ true → (not (a && b && c) || not (a && b && d && e && f)) ≡ false
    by true true true true true true g i j k l m = refl
    by false b c d e f g i j k l m = no_way g
    by true false c d e f g i j k l m = no_way i
    by true true false d e f g i j k l m = no_way j
    by true true true false e f g i j k l m = no_way k
    by true true true true false f g i j k l m = no_way l
    by true true true true true false g i j k l m = no_way m
