-- Events that are done one after the other, and what was written of them.
use Rattle.std.proofs.Common.{◌≡◌, ℕ, ◌<◌, Bool, true, false, length, get_or, append_assoc, List, [], ◌∷◌, ◌++◌, sym, ap, subst, ◌∙◌, inl, inr}
use Rattle.std.specs.Prelude.{Option, IsTrue}
use Rattle.std.specs.List.{list_all}
use Rattle.std.proofs.lemmas.Bool.{and_parts, cases_Bool}
use Rattle.std.proofs.lemmas.List.{append-nil, map-append}
use Rattle.std.proofs.lemmas.List.Folds.{list_all_at}
use Rattle.cf_base.specs.declared.answers.Answer.{Answer}
use Rattle.cf_base.specs.declared.events.Event.{Event}
use Rattle.cf_disk.specs.Disk.{State as Disk}
use Rattle.cf_gen.specs.Summaries.{counts_of}
use Rattle.cf_gen.specs.declared.summaries.Counts.{Counts}
use Rattle.cf_io.specs.Moves.{AddsFront}
use Rattle.cf_volume_points.specs.Standing.{clusters_for}
use Rattle.cf_report.specs.Texts.{texts, text}
use Rattle.cf_world_plays.proofs.Drafted.{drafted_front, drafted_stops_here}
use Rattle.cf_world_plays.proofs.WorldRuns.{run_lawful}
use Rattle.cf_world_plays.specs.Led.{HasRunOn}
use Rattle.cf_world_plays.specs.Runs.{PlaysFront, answers_of, events_of}
use Rattle.cf_world_plays.specs.Steps.{AddFails, IsDrafted, IsLawfulFrom, SomePlayed}
use Rattle.cf_world_plays.specs.declared.play_errors.PlayError.{PlayError}
use Rattle.cf_world_plays.specs.declared.play_errors.PlayError.TheVariants.{OutOfMemory, SinkFault, TooLong}
use Rattle.cf_filter_events.specs.Actors.{Acts}
use Rattle.cf_filter_events.specs.declared.places.Acting.{Acting}

texts-push : (answers : List Answer) (a : Answer) → texts (answers ++ a ∷ []) ≡ texts answers ++ text a
texts-push [] a = append-nil (text a)
texts-push (b ∷ bs) a = ap (λ t. text b ++ t) (texts-push bs a) ∙ sym (append_assoc (text b) (texts bs) (text a))

pub all_there : {X : Type 0} (p : X → Bool) (xs : List X) (i : ℕ) (x : X) → IsTrue (list_all p xs) → i < length xs → x ≡ get_or xs i x → IsTrue (p x)
all_there p xs i x all lt at = elim (cases_Bool (p x)) [
  | inl hit ↦ hit
  | inr miss ↦ let z : true ≡ false = sym all ∙ list_all_at p xs i x lt (ap p (sym at) ∙ miss) in absurd cc
]

-- the first of what is left, and the rest of it
pub all_left : {X : Type 0} (p : X → Bool) (left rest : List X) (x : X) → IsTrue (list_all p left) → left ≡ x ∷ rest → IsTrue (p x) × IsTrue (list_all p rest)
all_left p left rest x all parts = and_parts (p x) (list_all p rest) (subst (λ (xs : List _). IsTrue (list_all p xs)) parts all)

-- one more event was done
pub next_event : (all left rest : List Event) (trace : List (Event × Answer)) (event : Event) (a : Answer) → left ≡ event ∷ rest → events_of trace ++ left ≡ all → events_of (trace ++ (event, a) ∷ []) ++ rest ≡ all
next_event all left rest trace event a first parts =
    let whole = rw first at parts in
    let events : events_of (trace ++ (event, a) ∷ []) ≡ events_of trace ++ event ∷ [] = map-append _ trace ((event, a) ∷ []) in
    ap (λ x. x ++ rest) events ∙ append_assoc (events_of trace) (event ∷ []) rest ∙ whole

-- and has its text
pub next_texts : (trace : List (Event × Answer)) (event : Event) (a : Answer) → texts (answers_of (trace ++ (event, a) ∷ [])) ≡ texts (answers_of trace) ++ text a
next_texts trace event a =
    let answers : answers_of (trace ++ (event, a) ∷ []) ≡ answers_of trace ++ a ∷ [] = map-append _ trace ((event, a) ∷ []) in
    ap texts answers ∙ texts-push (answers_of trace) a

front_at : (Said : List (Event × Answer) → Type 0) (all rest : List Event) (trace : List (Event × Answer)) (old new : Option (List ℕ)) → events_of trace ++ rest ≡ all → Said trace → AddsFront old new (texts (answers_of trace))
    → PlaysFront Said all old new
front_at Said all rest trace old new parts said written = record { trace = trace; more = rest; first = parts; said = said; written = written }

-- the run ends before an event
pub played_front : (Said : List (Event × Answer) → Type 0) (all rest : List Event) (trace : List (Event × Answer)) (made : ℕ) (waiting : List ℕ) (old now : Option (List ℕ)) → events_of trace ++ rest ≡ all → Said trace
    → IsDrafted (texts (answers_of trace)) waiting made old now → PlaysFront Said all old now
played_front Said all rest trace made waiting old now parts said h = front_at Said all rest trace old now parts said (drafted_front (texts (answers_of trace)) waiting made old now h)

-- the run ends where what waited is not all written
pub played_stops : (Said : List (Event × Answer) → Type 0) (all rest : List Event) (trace : List (Event × Answer)) (made : ℕ) (waiting : List ℕ) (old now new : Option (List ℕ)) → events_of trace ++ rest ≡ all → Said trace
    → IsDrafted (texts (answers_of trace)) waiting made old now → AddsFront now new waiting → PlaysFront Said all old new
played_stops Said all rest trace made waiting old now new parts said h k =
    front_at Said all rest trace old new parts said (drafted_stops_here (texts (answers_of trace)) waiting made old now new h k)

-- the text of an event that was done is not added
pub played_early : {D A : Type 0} (state : D → Disk) (W : Acts A) (disk : D) (first : A) (all left rest : List Event) (trace : List (Event × Answer)) (w : Option (Acting D A)) (event : Event) (a : Answer) (old new : Option (List ℕ)) (e : PlayError) → left ≡ event ∷ rest
    → events_of trace ++ left ≡ all → HasRunOn state W disk first (trace ++ (event, a) ∷ []) w → AddFails (texts (answers_of trace)) (text a) old new e → SomePlayed state W disk first all old new w e
played_early state W disk first all left rest trace w event a old new SinkFault one parts run h =
    front_at (λ ps. HasRunOn state W disk first ps w) all rest (trace ++ (event, a) ∷ []) old new (next_event all left rest trace event a one parts) run (subst (λ x. AddsFront old new x) (sym (next_texts trace event a)) h)
played_early state W disk first all left rest trace w event a old new OutOfMemory one parts run h =
    front_at (IsLawfulFrom W (clusters_for (state disk)) first) all rest (trace ++ (event, a) ∷ []) old new (next_event all left rest trace event a one parts) (run_lawful state W disk first (trace ++ (event, a) ∷ []) w run)
    (subst (λ x. AddsFront old new x) (sym (next_texts trace event a)) h)
played_early state W disk first all left rest trace w event a old new TooLong one parts run h = record {
  trace = trace;
  event = event;
  answer = a;
  more = rest;
  first = rw one at parts;
  said = run;
  written = h.1;
  passes = h.0;
}

-- and is counted
pub counted_next : (trace : List (Event × Answer)) (event : Event) (a : Answer) (new : Counts) → new ≡ counts_of (answers_of trace ++ a ∷ []) → new ≡ counts_of (answers_of (trace ++ (event, a) ∷ []))
counted_next trace event a new h = subst (λ (l : List Answer). new ≡ counts_of l) (sym (map-append _ trace ((event, a) ∷ []))) h

-- all events are done
pub played_all : (all rest : List Event) (trace : List (Event × Answer)) → events_of trace ++ rest ≡ all → rest ≡ [] → events_of trace ≡ all
played_all all rest trace parts none = sym (append-nil (events_of trace)) ∙ ap (λ x. events_of trace ++ x) (sym none) ∙ parts

-- the text of one more event waits, or is written
pub drafted_next : (trace next : List (Event × Answer)) (event : Event) (a : Answer) (piece waiting : List ℕ) (made : ℕ) (old now : Option (List ℕ)) → next ≡ trace ++ (event, a) ∷ [] → piece ≡ text a
    → IsDrafted (texts (answers_of trace) ++ piece) waiting made old now → IsDrafted (texts (answers_of next)) waiting made old now
drafted_next trace next event a piece waiting made old now more is h =
    let whole : texts (answers_of trace) ++ piece ≡ texts (answers_of next) = ap (λ x. texts (answers_of trace) ++ x) is ∙ sym (next_texts trace event a) ∙ ap (λ (ps : List (Event × Answer)). texts (answers_of ps)) (sym more) in
    subst (λ x. IsDrafted x waiting made old now) whole h
