-- What an image and payloads tell, payload by payload.
use Rattle.std.proofs.Common.{◌≡◌, ℕ, ◌+◌, List, [], ◌∷◌, ◌++◌, refl, sym, ap, subst, ◌∙◌}
use Rattle.cf_codec.specs.declared.formats.Format.{Format}
use Rattle.cf_codec.specs.declared.formats.Format.TheVariants.{Second}
use Rattle.cf_model.specs.Formats.{Image, Payload, after_payload, after_payloads}
use Rattle.cf_volume_image.specs.Spelled.{AreSpelledIn, IsImageIn, IsPayloadIn, spell_image_in, spell_payload_in}
use Rattle.cf_volume_image.specs.States.{IsAfterIn, IsContents, IsContentsIn, TellsIn}
use Rattle.cf_volume_image.proofs.OneImage.{alone, one_image, one_list_of_payloads}

pub told_first : (f : Format) (image : List ℕ) (i : Image) → IsImageIn f i → image ≡ spell_image_in f i → TellsIn f image [] i
told_first f image i fits is = record { value = i; changes = []; is_image = fits; image_is = is; payloads_are = tt; state_is = refl }

spelled_more : (f : Format) (ts : List (List ℕ)) (ps : List Payload) (t : List ℕ) (p : Payload) → AreSpelledIn f ts ps → IsPayloadIn f p → t ≡ spell_payload_in f p → AreSpelledIn f (ts ++ t ∷ []) (ps ++ p ∷ [])
spelled_more f [] [] t p h fits is = (fits, is, tt)
spelled_more f [] (q ∷ qs) t p h fits is = absurd h
spelled_more f (s ∷ ts) [] t p h fits is = absurd h
spelled_more f (s ∷ ts) (q ∷ qs) t p h fits is = (h.0, h.1, spelled_more f ts qs t p h.2 fits is)

after_more : (i : Image) (ps : List Payload) (p : Payload) → after_payloads i (ps ++ p ∷ []) ≡ after_payload (after_payloads i ps) p
after_more i [] p = refl
after_more i (q ∷ qs) p = after_more (after_payload i q) qs p

-- one payload more
pub told_more : (f : Format) (image : List ℕ) (before after : List (List ℕ)) (text : List ℕ) (i j : Image) → after ≡ before ++ text ∷ [] → TellsIn f image before i → IsAfterIn f text i j → TellsIn f image after j
told_more f image before after text i j is t h = record {
  value = t.value;
  changes = t.changes ++ h.value ∷ [];
  is_image = t.is_image;
  image_is = t.image_is;
  payloads_are = subst (λ (l : List (List ℕ)). AreSpelledIn f l (t.changes ++ h.value ∷ [])) (sym is) (spelled_more f before t.changes text h.value t.payloads_are h.is_payload h.text_is);
  state_is = h.new_is ∙ ap (λ v. after_payload v h.value) t.state_is ∙ sym (after_more t.value t.changes h.value);
}

pub one_told : (f : Format) (image : List ℕ) (payloads : List (List ℕ)) (s t : Image) → TellsIn f image payloads s → TellsIn f image payloads t → s ≡ t
one_told f image payloads s t h k =
    h.state_is
    ∙ ap (λ v. after_payloads v h.changes) (alone (IsImageIn f) (spell_image_in f) (one_image f) h.value k.value h.is_image k.is_image (sym h.image_is ∙ k.image_is))
    ∙ ap (after_payloads k.value) (one_list_of_payloads f payloads h.changes k.changes h.payloads_are k.payloads_are) ∙ sym k.state_is

pub one_state_in : (f : Format) (image : List ℕ) (payloads : List (List ℕ)) (clusters : ℕ) (s t : Image) → IsContentsIn f image payloads clusters s → IsContentsIn f image payloads clusters t → s ≡ t
one_state_in f image payloads clusters s t h k = one_told f image payloads s t h.told k.told

pub one_state : (image : List ℕ) (payloads : List (List ℕ)) (clusters : ℕ) (s t : Image) → IsContents image payloads clusters s → IsContents image payloads clusters t → s ≡ t
one_state = one_state_in Second
