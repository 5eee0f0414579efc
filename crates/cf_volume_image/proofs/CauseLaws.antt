-- What a fault of a text says of an image and its payloads, and that a known cause shows that they tell no volume.
use Rattle.std.proofs.Common.{◌≡◌, ℕ, zero, suc, ◌+◌, ◌<◌, List, [], ◌∷◌, ◌++◌, length, take, get_or, refl, sym, ap, subst, ◌∙◌, arith, Option, Some, None}
use Rattle.std.specs.Prelude.{slice_get}
use Rattle.std.proofs.Math.Seq.{take-suc}
use Rattle.std.proofs.lemmas.Option.{slice_get-get_or}
use Rattle.cf_codec.specs.declared.formats.Format.{Format}
use Rattle.cf_model.specs.Formats.{Image, Payload}
use Rattle.cf_table.specs.declared.failures.RowError.{RowError}
use Rattle.cf_table.specs.declared.failures.RowError.TheVariants as field
use Rattle.cf_table.specs.Faults.{IsTold}
use Rattle.cf_volume_image.specs.Causes.{BeginsAt, IsCause, IsFirstFault, IsKnown, IsPayloadFault, IsUnspelled, image_error, payload_error}
use Rattle.cf_volume_image.specs.Faults.{AtImage, AtPayload}
use Rattle.cf_volume_image.specs.Sound.{IsSoundIn}
use Rattle.cf_volume_image.specs.Spelled.{AreSpelledIn, IsPayloadIn, spell_payload_in}
use Rattle.cf_volume_image.specs.States.{IsContentsIn, TellsIn}
use Rattle.cf_volume_image.specs.declared.failures.ImageError.{ImageError}
use Rattle.cf_volume_image.specs.declared.failures.ImageError.TheVariants as image
use Rattle.cf_volume_image.proofs.NoImage.{image_misses, no_payload}
use Rattle.cf_volume_image.proofs.Told.{one_told}

pub image_cause : (f : Format) (text : List ℕ) (payloads : List (List ℕ)) (e : RowError) → AtImage f (record { place = 0; rest = text }) e → IsUnspelled f text payloads (image_error e)
image_cause f text payloads (field.Short place) h = (field.Short place, h, refl)
image_cause f text payloads (field.BadField place) h = (field.BadField place, h, refl)
image_cause f text payloads field.OutOfMemory h = tt

first_fault : (f : Format) (image payload : List ℕ) (payloads : List (List ℕ)) (number place : ℕ) (i : Image) → TellsIn f image (take number payloads) i → slice_get payloads number ≡ Some payload → IsPayloadFault f payload place → IsFirstFault f image payloads number place
first_fault f image payload payloads number place i t there fault = record {
  value = t.value;
  changes = t.changes;
  is_image = t.is_image;
  image_is = t.image_is;
  before = t.payloads_are;
  text = payload;
  there = there;
  fault = fault;
}

pub payload_cause : (f : Format) (text payload : List ℕ) (payloads : List (List ℕ)) (number : ℕ) (i : Image) (e : RowError) → TellsIn f text (take number payloads) i → slice_get payloads number ≡ Some payload
    → AtPayload f (record { place = 0; rest = payload }) e → IsUnspelled f text payloads (payload_error number e)
payload_cause f text payload payloads number i (field.Short place) t there h = first_fault f text payload payloads number place i t there (field.Short place, h, refl)
payload_cause f text payload payloads number i (field.BadField place) t there h = first_fault f text payload payloads number place i t there (field.BadField place, h, refl)
payload_cause f text payload payloads number i field.OutOfMemory t there h = tt

pub as_cause : (f : Format) (text : List ℕ) (payloads : List (List ℕ)) (clusters : ℕ) (e : ImageError) → IsUnspelled f text payloads e → IsCause f text payloads clusters e
as_cause f text payloads clusters (image.Image place) h = h
as_cause f text payloads clusters (image.Payload number place) h = h
as_cause f text payloads clusters image.Unsound h = absurd h
as_cause f text payloads clusters image.OutOfMemory h = tt

-- the texts before the next one, and the next one

pub next_text : (payloads : List (List ℕ)) (n : ℕ) (payload : List ℕ) → n < length payloads → payload ≡ get_or payloads n payload → take (n + 1) payloads ≡ take n payloads ++ payload ∷ []
next_text payloads n payload lt is =
    let next : n + 1 ≡ suc n = omega arith in
    ap (λ (m : ℕ). take m payloads) next ∙ take-suc payloads n payload lt ∙ ap (λ (p : List ℕ). take n payloads ++ p ∷ []) (sym is)

pub text_there : (payloads : List (List ℕ)) (n : ℕ) (payload : List ℕ) → n < length payloads → payload ≡ get_or payloads n payload → slice_get payloads n ≡ Some payload
text_there payloads n payload lt is = slice_get-get_or payloads n payload lt ∙ ap Some (sym is)

-- no volume

begins_told : (e : RowError) (place : ℕ) → BeginsAt place e → IsTold e
begins_told (field.Short at) place h = tt
begins_told (field.BadField at) place h = tt
begins_told field.OutOfMemory place h = h

spelled_at : (f : Format) (ts : List (List ℕ)) (ps : List Payload) (n : ℕ) (text : List ℕ) → AreSpelledIn f ts ps → slice_get ts n ≡ Some text → (p : Payload) × IsPayloadIn f p × (text ≡ spell_payload_in f p)
spelled_at f [] [] n text h is = let z : ◌≡◌ {A = Option (List ℕ)} None (Some text) = is in absurd cc
spelled_at f [] (p ∷ ps) n text h is = absurd h
spelled_at f (t ∷ ts) [] n text h is = absurd h
spelled_at f (t ∷ ts) (p ∷ ps) zero text h is = let same : ◌≡◌ {A = Option (List ℕ)} (Some t) (Some text) = is in (p, h.0, some_same t text same ∙ h.1) where
  some_same : (a b : List ℕ) → ◌≡◌ {A = Option (List ℕ)} (Some a) (Some b) → b ≡ a
  some_same a b e = cc
spelled_at f (t ∷ ts) (p ∷ ps) (suc n) text h is = spelled_at f ts ps n text h.2 is

pub shows_none : (f : Format) (text : List ℕ) (payloads : List (List ℕ)) (clusters : ℕ) (e : ImageError) → IsCause f text payloads clusters e → IsKnown e → (state : Image) → IsContentsIn f text payloads clusters state → ⊥
shows_none f text payloads clusters (image.Image place) h known state s =
    image_misses f (record { place = 0; rest = text }) h.0 (begins_told h.0 place h.2) h.1 s.told.value s.told.is_image s.told.image_is
shows_none f text payloads clusters (image.Payload number place) h known state s =
    let at = spelled_at f payloads s.told.changes number h.text s.told.payloads_are h.there in
    no_payload f h.text h.fault.0 h.fault.1 (begins_told h.fault.0 place h.fault.2) at.0 at.1 at.2
shows_none f text payloads clusters image.Unsound h known state s =
    h.unsound (subst (λ (i : Image). IsSoundIn f clusters i) (one_told f text payloads state h.state s.told h.told) s.sound)
shows_none f text payloads clusters image.OutOfMemory h known state s = known
