-- A request that was sent, with its lines on the port.
use Rattle.std.proofs.Common.{◌≡◌, ℕ, ◌+◌, List, [], ◌∷◌, ◌++◌, sym, subst, arith}
use Rattle.std.specs.Prelude.{Option, Some, None}
use Rattle.cf_engine_provider.specs.Agencies.{Agency, Sees, faults_among}
use Rattle.cf_engine_provider.specs.Answering.{Suits}
use Rattle.cf_engine_provider.specs.Parts.{Carries, Exchanges, Sends, exchanged, noted}
use Rattle.cf_engine_provider.specs.declared.exchanges.Exchange.{Exchange}
use Rattle.cf_base.specs.declared.messages.Request.{Request}
use Rattle.cf_base.specs.declared.notices.Notice.{Notice}
use Rattle.cf_provider.specs.Sights.{Sight}
use Rattle.cf_provider.specs.declared.outcomes.Callback.{Callback}
use Rattle.cf_link.specs.Faults.{AsksFailed, faults_in}
use Rattle.cf_link.specs.Linked.{Linked, lines_of, with_line}
use Rattle.cf_link.proofs.FaultCounts.{failed_both}
use Rattle.cf_model.specs.Ports.{Act, Acts, HasFailed}
use Rattle.cf_model.specs.State.{Filter, State, with_link, with_notes}
use Rattle.cf_remote.specs.Told.{Told}

suits_noted : (sight : Sight) (call : Callback) (f : Filter) (ns : List Notice) → Suits sight call f → Suits sight call (with_notes ns f)
suits_noted sight call f ns h = record {
  shows = record { rows = h.shows.rows; next = h.shows.next; waiting = h.shows.waiting; records = h.shows.records };
  is = h.is;
  book = h.book;
}

-- lines change nothing else

suits_line : (sight : Sight) (call : Callback) (line : Option Notice) (s : State) → Suits sight call s.filter → Suits sight call (with_line line s).filter
suits_line sight call None s h = h
suits_line sight call (Some n) s h = suits_noted sight call s.filter (n ∷ []) h

module _ {R : Type 0} (told : R → Told) where
  sees_line : (p : Agency R) (line : Option Notice) (s : State) → Sees told p s → Sees told p (with_line line s)
  sees_line p None s h = h
  sees_line p (Some n) s h = record { replays = h.replays; link = h.link; shows_skips = h.shows_skips; skips = h.skips }

  acts_line : (line : Option Notice) (s : State) (more : List Act) (g : Filter) → Acts s.filter (noted line ++ more) g → Acts (with_line line s).filter more g
  acts_line None s more g h = h
  acts_line (Some n) s more g h = h

  not_failed : (line : Option Notice) (more : List Act) → HasFailed (noted line ++ more) → HasFailed more
  not_failed None more h = h
  not_failed (Some n) more h = h

  has_failed : (line : Option Notice) (more : List Act) → HasFailed more → HasFailed (noted line ++ more)
  has_failed None more h = h
  has_failed (Some n) more h = h

  -- the faults that lines report
  line_noted : (line : Option Notice) (more : List Act) → faults_among (noted line ++ more) ≡ faults_in (lines_of line) + faults_among more
  line_noted None more = omega arith
  line_noted (Some n) more = omega arith

  both_noted : (first second : Option Notice) (more : List Act) → faults_among (noted first ++ (noted second ++ more)) ≡ faults_in (lines_of first) + faults_in (lines_of second) + faults_among more
  both_noted first second more =
      let a : faults_among (noted first ++ (noted second ++ more)) ≡ faults_in (lines_of first) + faults_among (noted second ++ more) = line_noted first (noted second ++ more) in
      let b : faults_among (noted second ++ more) ≡ faults_in (lines_of second) + faults_among more = line_noted second more in
      omega (arith, a, b)

  module _ (sight : Sight) (call : Callback) (q : Request) (p : Agency R) (e : Exchange) (k : Linked R) (is : Exchanges told q p.link e k) where
    module _ (z : State) (sees : Sees told p z) where
      abbrev way : Sends told q z e k
      way = is.sends z sees.link

      sees_after : Sees told (record p { link = k }) (exchanged e way.link z)
      sees_after =
          sees_line (record p { link = k }) e.second (with_line e.first (with_link way.link z)) (sees_line (record p { link = k }) e.first (with_link way.link z) (record {
            replays = sees.replays;
            link = way.stands;
            shows_skips = sees.shows_skips;
            skips = sees.skips;
          }))

      suits_after : Suits sight call z.filter → Suits sight call (exchanged e way.link z).filter
      suits_after h = suits_line sight call e.second (with_line e.first (with_link way.link z)) (suits_line sight call e.first (with_link way.link z) h)

      acts_after : (more : List Act) (g : Filter) → Acts z.filter (noted e.first ++ (noted e.second ++ more)) g → Acts (exchanged e way.link z).filter more g
      acts_after more g h = acts_line e.second (with_line e.first (with_link way.link z)) more g (acts_line e.first (with_link way.link z) (noted e.second ++ more) g h)

    pub carried : (acts : List Act) → ((more : List Act) → acts ++ more ≡ noted e.first ++ (noted e.second ++ more)) → Carries told (Suits sight call) q p e.reply acts (record p { link = k })
    carried acts lines = record {
      plays = λ more n h. record {
        ends = λ z g sees holds does fine.
            let l = h.ends (exchanged e (way z sees).link z) g (sees_after z sees) (suits_after z sees holds) (acts_after z sees more g (subst (λ (x : List Act). Acts z.filter x g) (lines more) does))
            (λ failed. fine (subst HasFailed (sym (lines more)) (has_failed e.first (noted e.second ++ more) (has_failed e.second more failed)))) in
            record { state = l.state; is = (way z sees).ends l.state l.is; filter = l.filter; sees = l.sees };
        stops = λ z g sees holds does failed.
            let l = h.stops (exchanged e (way z sees).link z) g (sees_after z sees) (suits_after z sees holds) (acts_after z sees more g (subst (λ (x : List Act). Acts z.filter x g) (lines more) does))
            (not_failed e.second more (not_failed e.first (noted e.second ++ more) (subst HasFailed (lines more) failed))) in
            record { state = l.state; is = (way z sees).stops l.state l.is; filter = l.filter; sees = l.sees };
        faults = subst (λ (x : List Act). AsksFailed (faults_among x) (told p.link.remote) (told n.link.remote)) (sym (lines more))
            (subst (λ (m : ℕ). AsksFailed m (told p.link.remote) (told n.link.remote)) (sym (both_noted e.first e.second more))
            (failed_both (faults_in (lines_of e.first) + faults_in (lines_of e.second)) (faults_among more) (told p.link.remote) (told k.remote) (told n.link.remote) is.faults h.faults));
      };
    }
