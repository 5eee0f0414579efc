-- What every run over a fresh remote has, and the bytes of its files.
use Rattle.std.proofs.Common.{◌≡◌, ◌<◌, ◌≤◌, ◌+◌, ℕ, true, false, List, [], ◌∷◌, refl, sym, subst, inl, arith}
use Rattle.std.specs.Prelude.{◌==◌}
use Rattle.cf_base.specs.declared.answers.Answer.{Answer}
use Rattle.cf_base.specs.declared.events.Event.{Event}
use Rattle.cf_base.specs.declared.policies.Mode.TheVariants as mode
use Rattle.cf_model.specs.Contents.{IsTrueTo}
use Rattle.cf_model.specs.Events.{begun, is_of, tree_of}
use Rattle.cf_model.specs.Items.{root}
use Rattle.cf_model.specs.Lawful.{Runs}
use Rattle.cf_model.specs.Numbers.{usn_after}
use Rattle.cf_model.specs.Restarts.{crashed, epoch_after}
use Rattle.cf_model.specs.State.{State, items_now, start}
use Rattle.cf_model.specs.Store.{Held}
use Rattle.cf_model.specs.Trees.{Asked, Fork, Keeps, Ret, Step, Tree}
use Rattle.cf_model_laws.specs.Contents.{AreFilesRight, AreReadsRight, IsFileRight}
use Rattle.cf_model_laws.specs.GivenOnce.{WasGiven}
use Rattle.cf_model_laws.specs.Invariant.{All, Invariant, IsDurable, IsRight, IsSound, NoItem}
use Rattle.cf_model_laws.specs.Premises.{IsFresh}
use Rattle.cf_model_laws.proofs.EventsGuarded.{Whole, event_now_keeps, runs_keep}
use Rattle.cf_model_laws.proofs.Gathered.{all_found, all_weaker}
use Rattle.cf_model_laws.proofs.ReadLaws.{read_right, true_right}
use Rattle.cf_model_laws.proofs.RightItems.{no_way_back}
use Rattle.cf_model_laws.proofs.SoundBooks.{opened_sound}
use Rattle.cf_model_laws.proofs.SoundStates.{sound_commands, sound_deletes, sound_enters, sound_guarded}
use Rattle.cf_model_laws.proofs.SoundFilters.{policy_sound}

pub next_epoch : (epoch skipped : ℕ) → epoch < epoch + 1 + skipped
next_epoch epoch skipped = omega arith

crashed_sound : (s : State) → IsSound s.link s.volatile.tokens s.filter → IsSound s.link s.volatile.tokens (crashed s).filter
crashed_sound s h = record {
  counted = h.counted;
  recorded = h.recorded;
  messages = h.messages;
  old = h.old;
  of_log = h.of_log;
  now = h.now;
  kept = h.kept;
  one_epoch = h.one_epoch;
  lives = tt;
  lack = tt;
  boxed = tt;
  numbered = tt;
  unvalidated = h.unvalidated;
}

pub sound_whole : Whole Invariant
sound_whole = record {
  closed = sound_guarded;
  entering = sound_enters;
  deleting = sound_deletes;
  commanding = sound_commands;
  ruling = record { rules = λ p s v h. (h.0, λ fair. policy_sound s.link s.volatile.tokens s.filter p.validate v (h.1 fair)) };
  begins = λ s h. h;
  breaks = λ s h. h;
  crashes = λ s h. (h.0, λ fair. crashed_sound s (h.1 fair));
  fails = λ s h. h;
  opens = λ p skipped s is h. (
    h.0,
    λ fair.
        opened_sound NoItem s.link.remote s.link.messages s.volatile.tokens s.filter.volume.epoch s.filter.volume.place s.filter.volume.log s.filter.volume.items s.filter.volume.next_item.0 s.filter.volume.points s.filter.volume.book.entries
        s.filter.waiting.epoch s.filter.waiting.waits s.filter.waiting.asks s.filter.waiting.key_count s.filter.outbox s.filter.policy.validate p (epoch_after skipped s) (next_epoch s.filter.volume.epoch skipped) is (h.1 fair),
  );
}

-- at the start

root_right : (r : Held) → IsRight r (usn_after 1 0) root
root_right r = record { based = inl refl; aimed = inl refl; rises = tt; last = tt; early = refl; clean = λ e. refl; bare = λ e. (refl, refl); plain = λ e. no_way_back e; top = λ e. refl }

first_durable : (r : Held) → IsDurable r [] 1 0 (usn_after 1 0) 2 (root ∷ []) []
first_durable r = record { contents = ((λ e. no_way_back e), tt); right = (root_right r, tt); order = (low, high); more = two; fit = tt; given = tt; asked = tt; apart = tt; made = record { there = tt; unknown = (tt, tt); named = tt; apart = tt }; targets = tt } where
  low : 0 < 1
  low = omega arith

  high : 1 < 2
  high = omega arith

  two : 2 ≤ 2
  two = omega arith

pub start_sound : (remote : Held) (clusters : ℕ) → IsFresh remote → Invariant (start mode.Replay remote clusters)
start_sound remote clusters fresh = (
  refl,
  λ fair. record {
    counted = fresh.0;
    recorded = subst (All (λ t. WasGiven 1 0 t.0.0)) (sym fresh.1) tt;
    messages = tt;
    old = one;
    of_log = (refl, refl);
    now = first_durable remote;
    kept = ((none, first_durable remote), tt);
    one_epoch = refl;
    lives = tt;
    lack = tt;
    boxed = tt;
    numbered = tt;
    unvalidated = refl;
  },
)
  where
    one : 1 ≤ 1
    one = omega arith

    none : 0 ≤ 0
    none = omega arith

-- the laws

pub run_sound : (remote : Held) (clusters : ℕ) (trace : List (Event × Answer)) (s : State) → Runs mode.Replay (start mode.Replay remote clusters) trace s → IsFresh remote → Invariant s
run_sound remote clusters trace s runs fresh = runs_keep Invariant sound_whole (start mode.Replay remote clusters) trace s runs (start_sound remote clusters fresh)

sound_files : (s : State) → Invariant s → AreFilesRight s
sound_files s h fair = all_weaker (λ i. i.directory ≡ false → IsTrueTo s.link.remote i) (λ i. i.directory ≡ false → IsFileRight s.link.remote i) (λ i k d. true_right s.link.remote i (k d)) (items_now s) (h.1 fair).now.contents

pub sound_reads : (s : State) → Invariant s → AreReadsRight s
sound_reads s h fair w i kind there file met =
    read_right s.link.remote s.filter w i (h.1 fair).unvalidated ((all_found (λ x. x.directory ≡ false → IsTrueTo s.link.remote x) (λ x. x.id.0 == w.item.0) (items_now s) i there (h.1 fair).now.contents).0 file) kind there met

pub keeps_weaker : {S A : Type 0} (P Q : S → Type 0) → ((s : S) → P s → Q s) → (p : Tree S A) → Keeps P p → Keeps Q p
keeps_weaker P Q k (Ret a s) h = k s h
keeps_weaker P Q k (Step s p) h = (k s h.0, keeps_weaker P Q k p h.1)
keeps_weaker P Q k (Fork p q) h = (keeps_weaker P Q k p h.0, keeps_weaker P Q k q h.1)
keeps_weaker P Q k (Asked g) h = λ x. keeps_weaker P Q k (g x) (h x)

pub files_right : (remote : Held) (clusters : ℕ) (trace : List (Event × Answer)) (s : State) → Runs mode.Replay (start mode.Replay remote clusters) trace s → IsFresh remote → AreFilesRight s
files_right remote clusters trace s runs fresh = sound_files s (run_sound remote clusters trace s runs fresh)

pub files_stay_right : (remote : Held) (clusters : ℕ) (trace : List (Event × Answer)) (s : State) (e : Event) → Runs mode.Replay (start mode.Replay remote clusters) trace s → IsFresh remote → is_of mode.Replay e ≡ true → Keeps AreFilesRight (tree_of e s)
files_stay_right remote clusters trace s e runs fresh is = keeps_weaker Invariant AreFilesRight sound_files (tree_of e s) ((event_now_keeps Invariant sound_whole e is).keeps (begun s) (run_sound remote clusters trace s runs fresh))

pub reads_right : (remote : Held) (clusters : ℕ) (trace : List (Event × Answer)) (s : State) (e : Event) → Runs mode.Replay (start mode.Replay remote clusters) trace s → IsFresh remote → is_of mode.Replay e ≡ true → Keeps AreReadsRight (tree_of e s)
reads_right remote clusters trace s e runs fresh is = keeps_weaker Invariant AreReadsRight sound_reads (tree_of e s) ((event_now_keeps Invariant sound_whole e is).keeps (begun s) (run_sound remote clusters trace s runs fresh))
