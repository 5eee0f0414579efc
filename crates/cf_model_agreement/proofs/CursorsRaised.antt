-- Where the cursor comes to be a feed's clock, all of its entries were done, and it told what was changed since the cursor.
use Rattle.cf_model_laws.proofs.TombstonesGuarded.{IsShut, shut_frame}
use Rattle.std.proofs.Common.{◌≡◌, ℕ, true, false, [], refl, sym, ◌∙◌, ap, subst}
use Rattle.std.specs.Prelude.{nat_le, not, ◌&&◌, ◌==◌}
use Rattle.std.specs.List.{list_all}
use Rattle.std.proofs.lemmas.Bool.{eqb-true}
use Rattle.cf_base.specs.declared.messages.Entry.{Entry}
use Rattle.cf_base.specs.declared.messages.Reply.TheVariants as reply
use Rattle.cf_model.specs.Feeds.{is_listing}
use Rattle.cf_model.specs.Fits.{are_distinct, are_entries, fits, is_entry}
use Rattle.cf_model.specs.Messages.{is_latest_round, is_old, known_now, settled_rid}
use Rattle.cf_model.specs.PushReplies.{round_closed}
use Rattle.cf_model.specs.Skips.{with_volatile}
use Rattle.cf_model.specs.State.{Link, State, book_now}
use Rattle.cf_model.specs.Words.{is_empty}
use Rattle.cf_model_laws.specs.Invariant.{All, Among}
use Rattle.cf_model_laws.specs.Premises.{IsFair}
use Rattle.cf_model_laws.specs.Taken.{Heard, Since}
use Rattle.cf_model_laws.proofs.EventsGuarded.{Whole}
use Rattle.cf_model_laws.proofs.FeedFrames.{Feeding, IsTold, feeding}
use Rattle.cf_model_laws.proofs.Gathered.{all_in, all_weaker}
use Rattle.cf_model_laws.proofs.Guarded.{IsFedTo}
use Rattle.cf_model_laws.proofs.MessagesGuarded.{feed_fits, is_nothing, told_all}
use Rattle.cf_model_laws.proofs.SkipsGuarded.{heard_skipping, both_frames}
use Rattle.cf_model_laws.proofs.SoundSettles.{left_true, not_false, not_true, right_true}
use Rattle.cf_model_convergence.specs.Lasting.{AreTargetsAlone, HoldsIn}
use Rattle.cf_model_convergence.specs.Passed.{TellsBetween}
use Rattle.cf_model_convergence.proofs.ApartTargets.{alone_lasting}
use Rattle.cf_model_convergence.proofs.FeedsTold.{all_among}
use Rattle.cf_model_convergence.proofs.LastingGuarded.{whole_lasting}
use Rattle.cf_model_agreement.specs.Known.{AreKnown}
use Rattle.cf_model_agreement.specs.Turned.{AreTurnedTo}
use Rattle.cf_model_agreement.proofs.EntriesHeard.{counts_both, feed_told, plain_entry}
use Rattle.cf_model_agreement.proofs.FeedsDone.{Turning, turns_done}
use Rattle.cf_model_agreement.proofs.RunsTrue.{IsTrueIn, true_whole}

-- beside targets that are apart
abbrev pub IsApartIn : State → Type 0
IsApartIn s = IsTrueIn s × HoldsIn AreTargetsAlone s

pub apart_whole : Whole IsApartIn
apart_whole = whole_lasting AreTargetsAlone alone_lasting IsTrueIn true_whole (λ s h. h.0.0.0)

abbrev pub IsKnownIn : State → Type 0
IsKnownIn s = IsApartIn s × HoldsIn AreKnown s

module _ (clock : ℕ) (s : State) (fed : IsFedTo IsKnownIn clock s) (fair : IsFair s.link) where
  abbrev First : State
  First = fed.first

  first_fair : IsFair First.link
  first_fair = subst IsFair fed.link fair

  counts : (fits (known_now First) (settled_rid First fed.request) fed.request (reply.Feed fed.round clock fed.entries) ≡ true) × (is_old First (reply.Feed fed.round clock fed.entries) ≡ false)
  counts = counts_both (fits (known_now First) (settled_rid First fed.request) fed.request (reply.Feed fed.round clock fed.entries)) (is_old First (reply.Feed fed.round clock fed.entries)) fed.counts

  pub told : TellsBetween s.link.remote (book_now s).cursor clock fed.entries
  told =
      subst (λ (l : Link). TellsBetween l.remote (book_now s).cursor clock fed.entries) (sym fed.link)
      (subst (λ (n : ℕ). TellsBetween First.link.remote n clock fed.entries) (sym fed.cursor)
      (feed_told First fed.kept.0.0 ((fed.kept.1 first_fair).0.1) first_fair fed.message fed.request fed.round clock fed.entries fed.counts fed.told fed.posted).tells)

  abbrev Of : Entry → Type 0
  Of e = Heard true First e × Among e fed.entries

  abbrev Start : State
  Start = with_volatile round_closed First

  entries_fit : are_entries (known_now First) fed.entries ≡ true
  entries_fit = feed_fits (known_now First) (settled_rid First fed.request) fed.request fed.round clock fed.entries counts.0

  all_of : All Of fed.entries
  all_of = all_weaker (λ e. Among e fed.entries) Of (λ e a. ((fed.message, fed.request, reply.Feed fed.round clock fed.entries, fed.counts, fed.told, fed.posted, a), a)) fed.entries (all_in fed.entries)

  all_told : All (IsTold Of First.link) fed.entries
  all_told = told_all Of First.link (known_now First) fed.entries all_of (λ f. (fed.told f).1.1) (left_true (list_all (is_entry (known_now First)) fed.entries) (are_distinct fed.entries) entries_fit)

  nothing : (book_now First).entries ≡ []
  nothing = is_nothing (book_now First).entries (right_true (is_latest_round First fed.round.0 && First.volatile.round_open && nat_le (book_now First).cursor clock) (is_empty (book_now First).entries) (not_false (is_latest_round First fed.round.0 && First.volatile.round_open && nat_le (book_now First).cursor clock && is_empty (book_now First).entries) counts.1))

  abbrev Frame : State → Type 0
  Frame t = Feeding First.link First.filter [] t × IsShut t

  abbrev In : State → Type 0
  In t = IsApartIn t × Frame t

  known : (On : Entry → Type 0) → ((e : Entry) → On e → Of e) → (t : State) → IsApartIn t → Frame t → (e : Entry) → On e → Since IsApartIn t.link true (book_now t).cursor e
  known On less t j k e on = (First, fed.kept.0, (less e on).0, k.0.link, k.0.cursor)

  turning : Turning Of First.link First.filter In
  turning = record {
    fair = first_fair;
    told = λ e on. all_among (IsTold Of First.link) fed.entries e on.1 all_told;
    plain = λ e on. let k : IsTold Of First.link e = all_among (IsTold Of First.link) fed.entries e on.1 all_told in plain_entry First.link.remote e first_fair.1 (k.has first_fair) k.dir;
    steps = λ On less. heard_skipping IsApartIn Frame On apart_whole.closed (both_frames (Feeding First.link First.filter []) IsShut (feeding First.link First.filter []) shut_frame) (known On less) (λ t k. k.1);
    fed = λ t h. h.1.0;
    alone = λ t h. (h.0.1 (subst IsFair (sym h.1.0.link) first_fair)).0;
  }

  whole : (not fed.fed.postponed && (s.running.skips == First.running.skips)) ≡ true
  whole = left_true (not fed.fed.postponed && (s.running.skips == First.running.skips)) (not (is_listing s)) fed.whole

  pub turned : All (λ e. AreTurnedTo e s) fed.entries
  turned =
      subst (λ (t : State). All (λ e. AreTurnedTo e t) fed.entries) (sym fed.same)
      (turns_done Of First.link First.filter In turning fed.entries Start fed.fed fed.turned
      (apart_whole.closed.keeps_volatile_round_closed First fed.kept.0, (record { link = refl; waiting = refl; handles = refl; entries = nothing; cursor = refl }, refl)) all_of
      (right_true (list_all (is_entry (known_now First)) fed.entries) (are_distinct fed.entries) entries_fit) fed.ends
      (not_true fed.fed.postponed (left_true (not fed.fed.postponed) (s.running.skips == First.running.skips) whole))
      (ap (λ (t : State). t.running.skips) (sym fed.same) ∙ eqb-true s.running.skips First.running.skips (right_true (not fed.fed.postponed) (s.running.skips == First.running.skips) whole)))
