-- What was flushed is kept, by the report.
use Rattle.std.proofs.Common.{◌≡◌, ◌⊎◌, ℕ, Bool, true, false, List, [], ◌∷◌, ◌++◌, refl, sym, ◌∙◌, ap, subst, inl, inr, length, take}
use Rattle.std.specs.Prelude.{Option, Some, None, not, slice_get, ◌&&◌, ◌||◌, ◌==◌}
use Rattle.std.specs.List.{list_any}
use Rattle.std.proofs.lemmas.Bool.{eqb-true}
use Rattle.std.proofs.lemmas.List.{append_assoc, take-append-drop}
use Rattle.cf_base.specs.declared.answers.Answer.{Answer}
use Rattle.cf_base.specs.declared.answers.Shown.TheVariants as shown
use Rattle.cf_base.specs.declared.changes.Change.{Change}
use Rattle.cf_base.specs.declared.changes.Change.TheVariants as change
use Rattle.cf_base.specs.declared.ids.ItemId.{ItemId}
use Rattle.cf_base.specs.declared.ids.Usn.{Usn}
use Rattle.cf_base.specs.declared.policies.Mode.{Mode}
use Rattle.cf_base.specs.declared.policies.Mode.TheVariants as mode
use Rattle.cf_model.specs.Contents.{base_named}
use Rattle.cf_model.specs.Effects.{effect}
use Rattle.cf_model.specs.Items.{Item}
use Rattle.cf_model.specs.Kept.{dropped_by, dropped_from, has_id, heirs_of, lists_at, made_with, with_copies, with_copy}
use Rattle.cf_model.specs.Lawful.{Runs}
use Rattle.cf_model.specs.Logs.{items_of}
use Rattle.cf_model.specs.Numbers.{above}
use Rattle.cf_model.specs.State.{State, start}
use Rattle.cf_model.specs.Store.{Held}
use Rattle.cf_model.specs.Words.{says, when}
use Rattle.cf_model.proofs.FlushedLaws.{flushed_is_front}
use Rattle.cf_model_laws.specs.History.{IsInOrder}
use Rattle.cf_model_laws.specs.Locals.{AreSparing, IsWritten}
use Rattle.cf_model_laws.specs.Logged.{EachMade}
use Rattle.cf_model_laws.specs.Premises.{IsFair, IsFresh}
use Rattle.cf_model_laws.proofs.Heirs.{Sub, copies_both, copies_more, copies_sub, copy_more}
use Rattle.cf_model_laws.proofs.KeptLocals.{all_at}
use Rattle.cf_model_laws.proofs.LocalLaws.{Keeping, keeping}
use Rattle.cf_model_laws.proofs.LocalSteps.{HasLister, HoldsAt, HoldsIn}
use Rattle.cf_model_laws.proofs.LoggedGuarded.{run_logged}
use Rattle.cf_model_laws.proofs.RightItems.{no_way}
use Rattle.cf_model_laws.proofs.SparedBytes.{held_is}
use Rattle.cf_model_headline.specs.KeptBytes.{FlushedIsKept, Gave, IsKept, IsSpared, IsUploaded, later_than}
use Rattle.cf_model_headline.specs.Reports.{IsAnswered, Report, standing}
use Rattle.cf_model_headline.specs.Resumed.{flushing}
use Rattle.cf_model_headline.proofs.ResumedLaws.{flush_counts, flush_ends}
use Rattle.cf_model_headline.proofs.StandingLaws.{shows_all}
use Rattle.cf_model_headline.proofs.StepCases.{moment}

abbrev Log : Type 0
Log = List (Usn × Change)

-- where an upload took the write in

either_part : {A : Type 0} (f : A → Bool) (xs ys : List A) → list_any f (xs ++ ys) ≡ true → (list_any f xs ≡ true) ⊎ (list_any f ys ≡ true)
either_part f [] ys e = inr e
either_part f (x ∷ xs) ys e = by (f x) e (either_part f xs ys) where
  by : (b : Bool) → (b || list_any f (xs ++ ys)) ≡ true → (list_any f (xs ++ ys) ≡ true → (list_any f xs ≡ true) ⊎ (list_any f ys ≡ true)) → ((b || list_any f xs) ≡ true) ⊎ (list_any f ys ≡ true)
  by true e k = inl refl
  by false e k = k e

first_of_both : (a b : Bool) → (a && b) ≡ true → (a ≡ true) × (b ≡ true)
first_of_both true b e = (refl, e)
first_of_both false b e = no_way e

not_false : (a : Bool) → not a ≡ true → a ≡ false
not_false true e = no_way e
not_false false e = refl

module _ (r : Held) (n : Usn) (p b : ℕ) where
  -- one of these changes is an upload of one of the files that took the write in
  abbrev Took : Log → List ItemId → Type 0
  Took log ids = (item : ItemId) × (has_id ids item ≡ true) × IsUploaded r log item n p b

  byte_of : (bytes : List ℕ) → says (λ x. x == b) (slice_get bytes p) ≡ true → slice_get bytes p ≡ Some b
  byte_of bytes e = by (slice_get bytes p) e where
    by : (o : Option ℕ) → says (λ x. x == b) o ≡ true → o ≡ Some b
    by None e = no_way e
    by (Some x) e = ap (λ (k : ℕ). Some k) (eqb-true x b e)

  rebased_here : (items : List Item) (ids : List ItemId) (front cs : Log) (own : Usn) (item : ItemId) (identity : List ℕ) (len : ℕ) (at : Usn)
      → (t : Bool) → (has_id ids item && lists_at items item n && not (above n at)) ≡ t → list_any (made_with r p b) (when t (identity ∷ [])) ≡ true → Took (front ++ (own, change.Rebase item identity len at) ∷ cs) ids
  rebased_here items ids front cs own item identity len at true e h =
      let one = first_of_both (has_id ids item && lists_at items item n) (not (above n at)) e in
      let two = first_of_both (has_id ids item) (lists_at items item n) one.0 in
      (item, two.0, record { before = front; own = own; identity = identity; len = len; at = at; after = cs; parts = refl; taken = not_false (above n at) one.1; byte = byte_of (base_named r identity) (only (made_with r p b identity) h) })
    where
      only : (x : Bool) → (x || false) ≡ true → x ≡ true
      only true z = refl
      only false z = no_way z
  rebased_here items ids front cs own item identity len at false e h = no_way h

  taken_here : (items : List Item) (ids : List ItemId) (front cs : Log) (own : Usn) (c : Change) → list_any (made_with r p b) (dropped_by items ids n c) ≡ true → Took (front ++ (own, c) ∷ cs) ids
  taken_here items ids front cs own (change.Rebase item identity len at) h = rebased_here items ids front cs own item identity len at (has_id ids item && lists_at items item n && not (above n at)) refl h
  taken_here items ids front cs own c h = no_way h

  taken_in : (items : List Item) (ids : List ItemId) (front cs : Log) → list_any (made_with r p b) (dropped_from items ids n cs) ≡ true → Took (front ++ cs) (with_copies cs ids)
  taken_in items ids front [] h = no_way h
  taken_in items ids front (c ∷ cs) h =
      by (either_part (made_with r p b) (dropped_by items ids n c.1) (dropped_from (effect items c.1 c.0) (with_copy c.1 ids) n cs) h) (taken_in (effect items c.1 c.0) (with_copy c.1 ids) (front ++ c ∷ []) cs)
    where
      by : (list_any (made_with r p b) (dropped_by items ids n c.1) ≡ true) ⊎ (list_any (made_with r p b) (dropped_from (effect items c.1 c.0) (with_copy c.1 ids) n cs) ≡ true)
          → (list_any (made_with r p b) (dropped_from (effect items c.1 c.0) (with_copy c.1 ids) n cs) ≡ true → Took (front ++ c ∷ [] ++ cs) (with_copies cs (with_copy c.1 ids)))
          → Took (front ++ c ∷ cs) (with_copies cs (with_copy c.1 ids))
      by (inl e) g = let t = taken_here items ids front cs c.0 c.1 e in (t.0, copies_more cs (with_copy c.1 ids) t.0 (copy_more c.1 ids t.0 t.1), t.2)
      by (inr e) g = subst (λ (l : Log). Took l (with_copies cs (with_copy c.1 ids))) (append_assoc front (c ∷ []) cs) (g e)

  -- of a log of the machine
  pub written_is_kept : (before : Log) (write : Change) (after : Log) (file : ItemId) → EachMade (IsInOrder r) [] (before ++ (n, write) ∷ after) → IsWritten (items_of before) write file p b → AreSparing (effect (items_of before) write n) (file ∷ []) n p after
      → IsKept r (before ++ (n, write) ∷ after) file n p b
  written_is_kept before write after file made written spared = by k.some where
    whole : Log
    whole = before ++ (n, write) ∷ after

    k : Keeping r n p b (before ++ (n, write) ∷ after) (with_copies after (file ∷ [])) (dropped_from (effect (items_of before) write n) (file ∷ []) n after)
    k = keeping r n p b before write after file made written spared

    sub : Sub (file ∷ []) (with_copy write (with_copies before (file ∷ [])))
    sub x e = copy_more write (with_copies before (file ∷ [])) x (copies_more before (file ∷ []) x e)

    heirs : (x : ItemId) → has_id (with_copies after (file ∷ [])) x ≡ true → has_id (heirs_of (before ++ (n, write) ∷ after) file) x ≡ true
    heirs x e = subst (λ (ids : List ItemId). has_id ids x ≡ true) (sym (copies_both before ((n, write) ∷ after) (file ∷ []))) (copies_sub after (file ∷ []) (with_copy write (with_copies before (file ∷ []))) sub x e)

    by : HasLister r n p b (items_of (before ++ (n, write) ∷ after)) (with_copies after (file ∷ [])) ⊎ (list_any (made_with r p b) (dropped_from (effect (items_of before) write n) (file ∷ []) n after) ≡ true) → IsKept r (before ++ (n, write) ∷ after) file n p b
    by (inl (x, among, i, found, listed)) =
        let holds : HoldsIn r n p b i = all_at (HoldsAt r n p b (items_of (before ++ (n, write) ∷ after))) (with_copies after (file ∷ [])) x among k.held i found listed in
        record { item = x; heir = heirs x among; where_it_is = inl (record { file = i; found = found; byte = held_is b i.held p holds.here }) }
    by (inr e) =
        let t : Took (before ++ (n, write) ∷ [] ++ after) (with_copies after (file ∷ [])) = taken_in (effect (items_of before) write n) (file ∷ []) (before ++ (n, write) ∷ []) after e in
        record { item = t.0; heir = heirs t.0 t.1; where_it_is = inr (subst (λ (l : Log). IsUploaded r l t.0 n p b) (append_assoc before ((n, write) ∷ []) after) t.2) }

-- the report

flushed_stands : (m : Mode) (remote : Held) (clusters : ℕ) (report : Report) (last : State) → IsFresh remote → Runs m (start m remote clusters) report last
    → (early : Report) (a : Answer) (k : ℕ) → IsAnswered report early flushing a → a.shown ≡ shown.Count k → standing early ++ later_than early report ≡ standing report
flushed_stands m remote clusters report last fresh runs early a k is counted =
    let x = moment m remote clusters report last early flushing a runs is in
    let ends = flush_ends m x.old a x.new k x.step counted in
    let c = flush_counts x.old x.new k ends in
    let old : x.new.filter.volume.log ≡ standing early = c.1 ∙ shows_all m remote clusters early x.old fresh x.runs in
    let now : last.filter.volume.log ≡ standing report = shows_all m remote clusters report last fresh runs in
    let front : take (length (standing early)) (standing report) ≡ standing early =
    ap (λ (log : Log). take (length (standing early)) log) (sym now)
    ∙ ap (λ (log : Log). take (length log) last.filter.volume.log) (sym old)
    ∙ flushed_is_front m x.old (shown.Count k) x.new is.0 last ends x.on ∙ old in
    ap (λ (log : Log). log ++ later_than early report) (sym front) ∙ take-append-drop (length (standing early)) (standing report)

flushed_kept : (remote : Held) (clusters : ℕ) (report : Report) (last : State) → IsFresh remote → IsFair last.link → Runs mode.Replay (start mode.Replay remote clusters) report last
    → (early : Report) (a : Answer) (k : ℕ) (file : ItemId) (n : Usn) (p b : ℕ) → IsAnswered report early flushing a → a.shown ≡ shown.Count k
    → (g : Gave (standing early) file n p b) → IsSpared g (later_than early report) → IsKept last.link.remote (standing report) file n p b
flushed_kept remote clusters report last fresh fair runs early a k file n p b is counted g spared =
    let now : last.filter.volume.log ≡ standing report = shows_all mode.Replay remote clusters report last fresh runs in
    let parts : standing report ≡ g.before ++ (n, g.write) ∷ (g.after ++ later_than early report) =
    sym (flushed_stands mode.Replay remote clusters report last fresh runs early a k is counted) ∙ ap (λ (log : Log). log ++ later_than early report) g.parts
    ∙ append_assoc g.before ((n, g.write) ∷ g.after) (later_than early report) in
    let made : EachMade (IsInOrder last.link.remote) [] (standing report) = subst (λ (log : Log). EachMade (IsInOrder last.link.remote) [] log) now ((run_logged remote clusters report last runs fresh).1 fair) in
    subst (λ (log : Log). IsKept last.link.remote log file n p b) (sym parts)
    (written_is_kept last.link.remote n p b g.before g.write (g.after ++ later_than early report) file (subst (λ (log : Log). EachMade (IsInOrder last.link.remote) [] log) parts made) g.written spared)

pub flushed_is_kept : (remote : Held) (clusters : ℕ) (report : Report) (last : State) → IsFresh remote → IsFair last.link → Runs mode.Replay (start mode.Replay remote clusters) report last → FlushedIsKept report last.link.remote
flushed_is_kept remote clusters report last fresh fair runs = record {
  stands = flushed_stands mode.Replay remote clusters report last fresh runs;
  kept = flushed_kept remote clusters report last fresh fair runs;
}
