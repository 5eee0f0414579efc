-- The damages of a state that is spelled and is none of a volume.
use Rattle.std.proofs.Common.{◌≡◌, ℕ, false, List, [], sym, ap, subst, ◌∙◌}
use Rattle.std.specs.Prelude.{IfOk, Result, Ok, Err}
use Rattle.cf_journal.specs.Content.{Content, Stands}
use Rattle.cf_journal.specs.Places.{IsFound}
use Rattle.cf_journal.specs.declared.found.Found.{Found}
use Rattle.cf_model.specs.Formats.{Image}
use Rattle.cf_scrub.specs.Judgements.{IsState}
use Rattle.cf_scrub.specs.States.{damages}
use Rattle.cf_scrub.specs.declared.damages.Damage.{Damage}
use Rattle.cf_volume_commit.specs.Loaded.{IsNoVolume}
use Rattle.cf_volume_image.specs.Sound.{IsSoundIn}
use Rattle.cf_volume_image.specs.States.{TellsIn}
use Rattle.cf_volume_points.specs.Standing.{clusters_on}

abbrev pub content_of : Found → Content
content_of f = record { format = f.format; image = f.image; payloads = f.payloads }

pub stands_for : (f : Found) (disk : List ℕ) → IsFound f disk → f.overruns ≡ false → Stands disk (content_of f)
stands_for f disk h whole = (f.side, f.generation, record { chosen = h.chosen; image = h.image; payloads = h.whole whole })

pub is_state : (f : Found) (disk : List ℕ) (i : Image) (list : List Damage) (n : ℕ) → IsFound f disk → f.overruns ≡ false → TellsIn f.format f.image f.payloads i → n ≡ clusters_on disk → list ≡ damages f.format n i → IsState disk list
is_state f disk i list n h whole told same is = record {
  found = f;
  is = h;
  whole = whole;
  state = i;
  told = told;
  damages = is ∙ ap (λ (k : ℕ). damages f.format k i) same;
}

pub is_some : (f : Found) (disk : List ℕ) (i : Image) (list : List Damage) (n : ℕ) → IsFound f disk → f.overruns ≡ false → TellsIn f.format f.image f.payloads i → n ≡ clusters_on disk → list ≡ damages f.format n i
    → (damages f.format n i ≡ [] → IsSoundIn f.format n i) → IsNoVolume disk → list ≡ [] → ⊥
is_some f disk i list n h whole told same is sound none empty =
    none i (record { content = content_of f; holds = stands_for f disk h whole; told = record { told = told; sound = subst (λ (k : ℕ). IsSoundIn f.format k i) same (sound (sym is ∙ empty)) } })

pub if_ok : {T E : Type 0} {P Q : T → Type 0} (r : Result T E) → ((x : T) → P x → Q x) → IfOk r P → IfOk r Q
if_ok (Ok x) f h = f x h
if_ok (Err e) f h = tt
