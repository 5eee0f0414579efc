-- Whether a reply is stale, by what is read of the filter and of the engine's own.
use Rattle.std.proofs.Common.{◌≡◌, ◌<◌, ℕ, Bool, true, false, not, List, [], ◌&&◌, ◌||◌, ◌==◌, refl, sym, ◌∙◌, ap, subst}
use Rattle.std.specs.Prelude.{All, Result, Ok, Err, IfOk, Option, Some, None, is_some, nat_le, option_map}
use Rattle.cf_base.specs.declared.ids.ItemId.{ItemId}
use Rattle.cf_base.specs.declared.ids.Key.{Key}
use Rattle.cf_base.specs.declared.ids.Rid.{Rid}
use Rattle.cf_base.specs.declared.ids.Round.{Round}
use Rattle.cf_base.specs.declared.ids.Token.{Token}
use Rattle.cf_base.specs.declared.memory.OutOfMemory.{OutOfMemory as NoMemory}
use Rattle.cf_base.specs.declared.messages.Entry.{Entry}
use Rattle.cf_base.specs.declared.messages.Reply.{Reply}
use Rattle.cf_base.specs.declared.messages.Reply.TheVariants as reply
use Rattle.cf_base.specs.declared.messages.Request.{Request}
use Rattle.cf_base.specs.declared.messages.Request.TheVariants as request
use Rattle.cf_base.specs.declared.waits.Ask.{Ask}
use Rattle.cf_engine_feed.specs.Targets.{IsFirst}
use Rattle.cf_engine_host.specs.Readings.{epoch_of}
use Rattle.cf_engine_messages.specs.Staleness.{fits_in, fits_with, has_entries, is_feed_over, is_here, is_idle_in, is_old_now, is_one_of, made_item, rid_under, settled_token}
use Rattle.cf_engine_messages.proofs.KnownItems.{above_unknown, found_is_known}
use Rattle.cf_engine_messages.proofs.Unread.{unread}
use Rattle.cf_engine_provider.specs.Listings.{AreAlike, known_in}
use Rattle.cf_engine_provider.proofs.FitsAlike.{fits_alike}
use Rattle.cf_engine_steps.specs.Answering.{Any, Reads}
use Rattle.cf_engine_steps.specs.BookReads.{cursor_in, has_entries_in}
use Rattle.cf_engine_steps.specs.States.{Own, whole}
use Rattle.cf_model.specs.Fits.{Known, fits}
use Rattle.cf_model.specs.Identities.{has_target, target_of}
use Rattle.cf_model.specs.Items.{Item}
use Rattle.cf_model.specs.Messages.{is_old, is_stale, known_now, settled_rid}
use Rattle.cf_model.specs.Requests.{Live, Waiting, live_of}
use Rattle.cf_model.specs.State.{Filter, State, Volatile}
use Rattle.cf_model.specs.Words.{is_empty}
use Rattle.cf_remote.specs.Told.{Told}
use Rattle.cf_table.specs.Tables.{MeansAll, Table}
use Rattle.cf_filter_steps.specs.Answering as steps
use Rattle.cf_filter_steps.specs.Finding.{HasRows}
use Rattle.cf_filter_steps.specs.Readings.{waiting_of}

-- what a Settle is about

pub settled_is : (q : Request) (s : State) → rid_under (settled_token q) s.filter ≡ settled_rid s q
settled_is (request.Settle token) s = refl
settled_is (request.Feed a b) s = refl
settled_is (request.List a b) s = refl
settled_is (request.Fetch a b c d e) s = refl
settled_is (request.Put a b c d e f) s = refl
settled_is (request.MakeDir a b c) s = refl
settled_is (request.Move a b c d) s = refl
settled_is (request.Remove a b c) s = refl
settled_is (request.Keep a b) s = refl

module _ {X : Type 0} (S : steps.Sense X) (x : X) where
  pub fits_here : (t : Table) (l : List Known) (rid : Rid) (q : Request) (r : Reply) (b : Bool) → HasRows S x t → ((items : List Item) → MeansAll t.rows items → AreAlike l (known_in items)) → b ≡ fits l rid q r → steps.Reads S steps.Any (fits_with rid q r) x b
  fits_here t l rid q r b rows alike fit = record { is = λ s m a. fit ∙ fits_alike l (known_in s.volume.items) rid q r (alike s.volume.items (rows.rows s m)) }

  module _ (o : Option Token) (rid : Rid) (q : Request) (r : Reply) (b : Bool) (settled : steps.Reads S steps.Any (rid_under o) x rid) (is : o ≡ settled_token q) where
    about : (s : Filter) → S.means x s → fits_with rid q r s ≡ fits_in q r s
    about s m = ap (λ (n : Rid). fits_with n q r s) (settled.is s m (record {}) ∙ ap (λ (p : Option Token). rid_under p s) is)

    pub by_items : steps.Reads S steps.Any (fits_with rid q r) x b → steps.Reads S steps.Any (fits_in q r) x b
    by_items reads = record { is = λ s m a. reads.is s m a ∙ about s m }

  -- replies without entries

  pub here_some : (t : Table) (made : Option Rid) (rid : Rid) (found : Option ItemId) (b : Bool) → HasRows S x t → IsFirst (λ i. has_target i rid) t.rows found → b ≡ is_some found → made ≡ Some rid → steps.Reads S steps.Any (is_here made) x b
  here_some t made rid found b rows first told is = record {
    is = λ s m a. told ∙ ap is_some (first s.volume.items (rows.rows s m)) ∙ found_is_known s.volume.items rid ∙ ap (is_one_of (known_in s.volume.items)) (sym is);
  }

  pub here_above : (t : Table) (made : Option Rid) (rid : Rid) → HasRows S x t → ((items : List Item) → MeansAll t.rows items → All (λ i. (target_of i).0 < rid.0) items) → made ≡ Some rid → steps.Reads S steps.Any (is_here made) x false
  here_above t made rid rows above is = record {
    is = λ s m a. sym (above_unknown s.volume.items rid (above s.volume.items (rows.rows s m))) ∙ ap (is_one_of (known_in s.volume.items)) (sym is);
  }

  module _ (rid : Rid) (q : Request) (r : Reply) (b : Bool) (bare : has_entries r ≡ false) (fit : b ≡ fits [] rid q r) where
    pub unfit_too : b ≡ false → steps.Reads S steps.Any (fits_with rid q r) x false
    unfit_too miss = record { is = λ s m a. sym (unread (known_in s.volume.items) rid q r bare ∙ ap (λ (c : Bool). c && not (is_here (made_item q rid r) s)) (sym fit ∙ miss)) }

    pub fits_unless : (made : Option Rid) (here : Bool) → b ≡ true → made ≡ made_item q rid r → steps.Reads S steps.Any (is_here made) x here → steps.Reads S steps.Any (fits_with rid q r) x (not here)
    fits_unless made here hit is reads = record {
      is = λ s m a. ap not (reads.is s m a ∙ ap (λ (o : Option Rid). is_here o s) is) ∙ sym (unread (known_in s.volume.items) rid q r bare ∙ ap (λ (c : Bool). c && not (is_here (made_item q rid r) s)) (sym fit ∙ hit));
    }

  -- asks and uploads

  turned : (a b : Bool) → a ≡ not b → b ≡ not a
  turned a true h = ap not (sym h)
  turned a false h = ap not (sym h)

  idle_is : {A B : Type 0} (f : A → B) (o : Option A) → is_some (option_map f o) ≡ is_some o
  idle_is f None = refl
  idle_is f (Some a) = refl

  pub idle_by : (key : Key) (w : Waiting) (o : Option Ask) (b : Bool) → steps.Reads S steps.Any waiting_of x w → o ≡ option_map (λ (a : Live). a.ask) (live_of w.asks key) → is_some o ≡ not b → steps.Reads S steps.Any (is_idle_in key) x b
  idle_by key w o b h asked is = record {
    is = λ s m a.
        turned (is_some o) b is
        ∙ ap not (ap is_some (asked ∙ ap (λ (v : Waiting). option_map (λ (l : Live). l.ask) (live_of v.asks key)) (h.is s m a)) ∙ idle_is (λ (l : Live). l.ask) (live_of s.waiting.asks key));
  }

  -- on the whole state

  module _ {R : Type 0} (told : R → Told) (e : Own R) where
    none_sent : {A : Type 0} (es : List A) (sends none : Bool) → sends ≡ not (is_empty es) → none ≡ not sends → none ≡ is_empty es
    none_sent es sends none h k = k ∙ ap not h ∙ twice (is_empty es)
      where
        twice : (b : Bool) → not (not b) ≡ b
        twice true = refl
        twice false = refl

    pub feed_by : (round : Round) (clock : ℕ) (es : List Entry) (epoch rounds cursor : ℕ) (counts sends none b : Bool) → steps.Reads S steps.Any epoch_of x epoch → rounds ≡ e.volatile.rounds → counts ≡ e.volatile.round_open
        → steps.Reads S steps.Any cursor_in x cursor → steps.Reads S steps.Any has_entries_in x sends → none ≡ not sends
        → b ≡ is_feed_over round.0 (record { epoch = epoch; number = rounds }) counts cursor clock none → Reads (whole S told) Any (is_old_now (reply.Feed round clock es)) (x, e) b
    feed_by round clock es epoch rounds cursor counts sends none b epochs latest is_open cursors entries flip is = record {
      is = λ s i any.
          is
          ∙ (λ j. not ((round.0.epoch == epochs.is s.filter i.filter (record {}) j) && (round.0.number == (latest ∙ ap (λ (v : Volatile). v.rounds) i.volatile) j) && (is_open ∙ ap (λ (v : Volatile). v.round_open) i.volatile) j
          && nat_le (cursors.is s.filter i.filter (record {}) j) clock && none_sent s.filter.volume.book.entries sends none (entries.is s.filter i.filter (record {})) flip j));
    }

    pub old_by : (r : Reply) (v : Filter → Bool) (b : Bool) → steps.Reads S steps.Any v x b → ((s : State) → v s.filter ≡ is_old s r) → Reads (whole S told) Any (is_old_now r) (x, e) b
    old_by r v b h same = record { is = λ s i any. h.is s.filter i.filter (record {}) ∙ same s }

    pub old_if : (r : Reply) (v : Filter → Bool) (o : Result Bool NoMemory) → IfOk o (λ b. steps.Reads S steps.Any v x b) → ((s : State) → v s.filter ≡ is_old s r) → IfOk o (λ b. Reads (whole S told) Any (is_old_now r) (x, e) b)
    old_if r v (Ok b) h same = old_by r v b h same
    old_if r v (Err f) h same = tt

    pub old_feed : (r : Reply) (round : Round) (clock : ℕ) (es : List Entry) (o : Result Bool NoMemory) → r ≡ reply.Feed round clock es → IfOk o (λ b. Reads (whole S told) Any (is_old_now (reply.Feed round clock es)) (x, e) b)
        → IfOk o (λ b. Reads (whole S told) Any (is_old_now r) (x, e) b)
    old_feed r round clock es o is h = subst (λ (p : Reply). IfOk o (λ b. Reads (whole S told) Any (is_old_now p) (x, e) b)) (sym is) h

    pub stale_by : (q : Request) (r : Reply) (fit old b : Bool) → steps.Reads S steps.Any (fits_in q r) x fit → Reads (whole S told) Any (is_old_now r) (x, e) old → b ≡ (not fit || old) → Reads (whole S told) Any (is_stale q r) (x, e) b
    stale_by q r fit old b h k is = record {
      is = λ s i any. is ∙ (λ j. not ((h.is s.filter i.filter (record {}) ∙ ap (λ (n : Rid). fits (known_now s) n q r) (settled_is q s)) j) || k.is s i any j);
    }
