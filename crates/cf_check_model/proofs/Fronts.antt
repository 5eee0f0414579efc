-- Fewer events are accepted too.
use Rattle.std.proofs.Common.{◌≡◌, ◌≤◌, ℕ, zero, suc, List, [], ◌∷◌, ◌++◌, length, map, take, drop, refl, sym, ◌∙◌, ap, subst, arith, append_assoc}
use Rattle.std.proofs.lemmas.List.{map-append, take-append-drop, take-map}
use Rattle.std.specs.List.{flat_map}
use Rattle.std.proofs.lemmas.Grind.{flat_map-append}
use Rattle.cf_base.specs.declared.answers.Answer.{Answer}
use Rattle.cf_base.specs.declared.events.Event.{Event}
use Rattle.cf_base.specs.declared.policies.Mode.TheVariants as mode
use Rattle.cf_model.specs.Lawful.{Runs}
use Rattle.cf_model.specs.State.{start}
use Rattle.cf_model.specs.Store.{empty_remote}
use Rattle.cf_model.proofs.TraceLaws.{runs_split}
use Rattle.cf_report.specs.Texts.{text, texts}
use Rattle.cf_check_model.specs.Judging.{accepts, answer_of, event_of}
use Rattle.cf_check_model.specs.Reports.{Begins}
use Rattle.cf_check_model.proofs.Kept.{kept_before}

take_fewer : {X : Type 0} (n : ℕ) (xs : List X) → take n (take (suc n) xs) ≡ take n xs
take_fewer zero xs = refl
take_fewer (suc n) [] = refl
take_fewer (suc n) (x ∷ xs) = ap (λ (ys : List _). x ∷ ys) (take_fewer n xs)

pub texts_join : (xs ys : List (Event × Answer)) → texts (map answer_of (xs ++ ys)) ≡ texts (map answer_of xs) ++ texts (map answer_of ys)
texts_join xs ys = ap (λ (as' : List Answer). flat_map text as') (map-append answer_of xs ys) ∙ flat_map-append text (map answer_of xs) (map answer_of ys)

begins_less : (report front more whole : List ℕ) → whole ≡ front ++ more → Begins report whole → Begins report front
begins_less report front more whole is (rest, e) = (more ++ rest, e ∙ ap (λ (xs : List ℕ). xs ++ rest) is ∙ append_assoc front more rest)

pub accepts_less : (events : List Event) (report : List ℕ) (clusters n : ℕ) → accepts events report clusters (suc n) → accepts events report clusters n
accepts_less events report clusters n (trace, after, a) =
    let front : List (Event × Answer) = take n trace in
    let back : List (Event × Answer) = drop n trace in
    let parts : front ++ back ≡ trace = take-append-drop n trace in
    let runs = runs_split mode.Replay (start mode.Replay empty_remote clusters) after front back (subst (λ (xs : List (Event × Answer)). Runs mode.Replay (start mode.Replay empty_remote clusters) xs after) (sym parts) a.lawful) in
    let there : suc n ≤ length events = a.there in (
      front,
      runs.0,
      record {
        there = omega (arith, there);
        events_are = sym (take-map event_of n trace) ∙ ap (take n) a.events_are ∙ take_fewer n events;
        lawful = runs.1;
        kept = kept_before mode.Replay runs.0 back after runs.2 a.kept;
        front = begins_less report (texts (map answer_of front)) (texts (map answer_of back)) (texts (map answer_of trace)) (ap (λ (xs : List (Event × Answer)). texts (map answer_of xs)) (sym parts) ∙ texts_join front back) a.front;
        whole = λ e. absurd (omega (arith, there, e));
      },
    )
