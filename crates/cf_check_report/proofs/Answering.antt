-- An answer of the followed run that passes its tests is the only one.
use Rattle.std.proofs.Common.{◌≡◌, ◌⊎◌, ◌≤◌, ◌<◌, ◌+◌, ◌^◌, ◌&&◌, ◌||◌, not, ℕ, Bool, true, false, List, [], ◌∷◌, length, map, refl, sym, ◌∙◌, ap, arith, inl, inr, length-append}
use Rattle.std.specs.Prelude.{cond, drop}
use Rattle.std.specs.List.{flat_map}
use Rattle.cf_base.specs.declared.answers.Answer.{Answer}
use Rattle.cf_base.specs.declared.events.DeviceEvent.TheVariants as device
use Rattle.cf_base.specs.declared.events.Event.{Event}
use Rattle.cf_base.specs.declared.events.Event.TheVariants as event
use Rattle.cf_base.specs.declared.events.PeerEvent.{PeerEvent}
use Rattle.cf_base.specs.declared.notices.Notice.{Notice}
use Rattle.cf_base.specs.declared.policies.Mode.TheVariants as mode
use Rattle.cf_check_compare.proofs.Alone.{never_fails}
use Rattle.cf_check_compare.specs.Alone.{asks_none}
use Rattle.cf_check_compare.specs.Passed.{is_passed, meets_peer, plainly}
use Rattle.cf_check_judge.proofs.Following.{line_not}
use Rattle.cf_check_judge.specs.Judge.{first_result, is_line}
use Rattle.cf_check_judge.specs.Settled.{IsAt}
use Rattle.cf_check_model.specs.Judging.{answer_of}
use Rattle.cf_check_model.specs.Reports.{device_line}
use Rattle.cf_check_text.proofs.Lines.{notices_fit}
use Rattle.cf_check_text.specs.Clean.{is_clean}
use Rattle.cf_check_traces.proofs.Accepting.{few_messages, numbered}
use Rattle.cf_check_traces.proofs.Testing.{alone_so, meets_so, not_stopped}
use Rattle.cf_check_traces.specs.Decided.{MeetsResult}
use Rattle.cf_check_traces.specs.Followed.{IsNext, ResumesAsAccepted}
use Rattle.cf_check_traces.specs.Tests.{begins, fault_line_of_peer, is_device, meets_lines, same_flag}
use Rattle.cf_check_ways.proofs.StepsSure.{step_count}
use Rattle.cf_check_ways.specs.Ways.{is_fault}
use Rattle.cf_model.specs.Lawful.{IsStep}
use Rattle.cf_model.specs.Numbers.{most}
use Rattle.cf_model.specs.State.{State, start}
use Rattle.cf_model.specs.Store.{empty_remote}
use Rattle.cf_model.specs.Words.{is_empty}
use Rattle.cf_report.specs.Texts.{notice_line, text, texts}

pub both : (a b : Bool) → (a && b) ≡ true → (a ≡ true) × (b ≡ true)
both true b e = (refl, e)
both false b e = let z : false ≡ true = e in absurd cc

unless : (b : Bool) → not b ≡ true → b ≡ false
unless true h = let z : false ≡ true = h in absurd cc
unless false h = refl

-- no other answer parts from it by RemoteFault

plain_result : (ns : List Notice) (fault : Bool) (rest : List ℕ) → is_empty ns ≡ true → same_flag fault (begins fault_line_of_peer rest) ≡ true
    → cond (begins (flat_map notice_line ns) rest) (same_flag fault (begins fault_line_of_peer (drop (length (flat_map notice_line ns)) rest))) true ≡ true
plain_result [] fault rest none h = h
plain_result (n ∷ ns) fault rest none h = let z : false ≡ true = none in absurd cc

never_one : (s : State) (p : PeerEvent) (a : Answer) (t : State) (rest : List ℕ) → asks_none p ≡ true → IsStep mode.Replay s (event.Peer p) a t → MeetsResult s (event.Peer p) a rest
never_one s p a t rest none step peer o b u alike other same begun one = by one.2
  where
    mine : is_fault a.shown ≡ false
    mine = never_fails mode.Replay p s a t none step

    its : is_fault b.shown ≡ false
    its = never_fails mode.Replay p o b u none other

    by : ((is_fault a.shown ≡ true) × (is_fault b.shown ≡ false)) ⊎ ((is_fault b.shown ≡ true) × (is_fault a.shown ≡ false)) → ⊥
    by (inl x) = let z : true ≡ false = sym x.0 ∙ mine in absurd cc
    by (inr x) = let z : true ≡ false = sym x.0 ∙ its in absurd cc

peer_alone : (s : State) (p : PeerEvent) (a : Answer) (t : State) (rest : List ℕ) → IsStep mode.Replay s (event.Peer p) a t → (plain : Bool) → plainly a rest ≡ plain → (plain || asks_none p) ≡ true → MeetsResult s (event.Peer p) a rest
peer_alone s p a t rest step true is h =
    let x = both (is_empty a.notes) (same_flag (is_fault a.shown) (begins fault_line_of_peer rest)) is in
    alone_so s (event.Peer p) a rest (plain_result a.notes (is_fault a.shown) rest x.0 x.1)
peer_alone s p a t rest step false is h = never_one s p a t rest h step

alone : (s : State) (e : Event) (a : Answer) (t : State) (rest : List ℕ) → IsStep mode.Replay s e a t → meets_peer e a rest ≡ true → MeetsResult s e a rest
alone s (event.Peer p) a t rest step h = peer_alone s p a t rest step (plainly a rest) refl h
alone s (event.Call c) a t rest step h = λ peer. let z : false ≡ true = peer in absurd cc
alone s (event.Device d) a t rest step h = λ peer. let z : false ≡ true = peer in absurd cc
alone s (event.Engine g) a t rest step h = λ peer. let z : false ≡ true = peer in absurd cc
alone s (event.Provider p) a t rest step h = λ peer. let z : false ≡ true = peer in absurd cc

-- an answer that passes is not that of a device that failed
pub runs_on : (e : Event) (a : Answer) (rest : List ℕ) → is_passed e a rest ≡ true → is_device a.shown ≡ false
runs_on e a rest passed =
    let w = both (not (is_device a.shown) && is_clean a && meets_peer e a rest) (meets_lines a.notes rest) passed in
    let x = both (not (is_device a.shown) && is_clean a) (meets_peer e a rest) w.0 in
    unless (is_device a.shown) (both (not (is_device a.shown)) (is_clean a) x.0).0

-- the answer is that of a next event

module _ (events : List Event) (report : List ℕ) (clusters : ℕ) (short : length report < 2 ^ 31) where
  pub next_of : (done : ℕ) (e : Event) (es : List Event) (trace : List (Event × Answer)) (s : State) (rest : List ℕ) → IsAt events report clusters done (e ∷ es) trace s rest → is_line device_line (first_result rest) ≡ false → (a : Answer) (t : State) → IsStep mode.Replay s e a t → t.link.honest ≡ true
      → is_passed e a rest ≡ true → length (text a) < 2 ^ 31 → (e ≡ event.Device device.Restart → ResumesAsAccepted events report clusters done a) → IsNext events report clusters done s e a t rest
  next_of done e es trace s rest at line a t step honest passed few counts =
      let w = both (not (is_device a.shown) && is_clean a && meets_peer e a rest) (meets_lines a.notes rest) passed in
      let x = both (not (is_device a.shown) && is_clean a) (meets_peer e a rest) w.0 in
      let y = both (not (is_device a.shown)) (is_clean a) x.0 in
      let runs = not_stopped a (unless (is_device a.shown) y.0) in
      let before : length s.link.messages ≤ 0 + length (texts (map answer_of trace)) = few_messages (start mode.Replay empty_remote clusters) trace s at.run.lawful at.run.none in
      let more : length t.link.messages ≤ length s.link.messages + length a.notes = step_count mode.Replay s e a t step runs in
      let fit : length a.notes ≤ length (text a) = notices_fit a in
      let whole : length report ≡ length (texts (map answer_of trace)) + length rest = ap (λ (xs : List ℕ). length xs) at.run.text_is ∙ length-append (texts (map answer_of trace)) rest in
      let lt : length t.link.messages < most = omega (arith, before, more, fit, whole, short, few) in
      record {
        step = step;
        good = numbered t.link.honest (length t.link.messages) most honest lt;
        runs = runs;
        clean = y.1;
        meets = meets_so a rest w.1;
        alone = alone s e a t rest step x.1;
        result = line_not device_line (first_result rest) line;
        counts = counts;
      }
