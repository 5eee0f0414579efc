-- The parts of an image or of a payload, taken one after the other up to the end, are its text.
use Rattle.std.proofs.Common.{◌≡◌, ℕ, List, [], ◌∷◌, ◌++◌, sym, ap, subst, ◌∙◌, append-nil}
use Rattle.cf_codec.specs.declared.formats.Format.{Format}
use Rattle.cf_codec.specs.Left.{Left, Takes}
use Rattle.cf_model.specs.Formats.{Header, Image, Payload, spell_records}
use Rattle.cf_table.specs.Spelling.{spell_rows_in}
use Rattle.cf_volume_image.specs.Spelled.{format_byte, ids_bytes, keys_bytes, spell_header_in, spell_image_in, spell_payload_in}
use Rattle.cf_volume_image.proofs.OneImage.{image_parts, payload_parts}

in_front : (text : List ℕ) (old new : Left) (rest : List ℕ) → Takes text old new → new.rest ≡ rest → old.rest ≡ text ++ rest
in_front text old new rest h is = h.parts ∙ ap (λ t. text ++ t) is

pub image_taken : (f : Format) (i : Image) (h : Header) (start a b c d : Left) → i.header ≡ h → Takes (format_byte f ∷ []) start a → Takes (spell_header_in f h) a b → Takes (spell_rows_in f i.rows) b c → Takes (spell_records i.records) c d → d.rest ≡ []
    → start.rest ≡ spell_image_in f i
image_taken f i h start a b c d same byte header rows records end =
    in_front (format_byte f ∷ []) start a _ byte
    (in_front (spell_header_in f i.header) a b _ (subst (λ (x : Header). Takes (spell_header_in f x) a b) (sym same) header)
    (in_front (spell_rows_in f i.rows) b c _ rows (in_front (spell_records i.records) c d [] records end)))
    ∙ sym (image_parts f i []) ∙ append-nil (spell_image_in f i)

pub payload_taken : (f : Format) (p : Payload) (start a b c d e : Left) → Takes (spell_header_in f p.header) start a → Takes (ids_bytes p.removed) a b → Takes (spell_rows_in f p.rows) b c → Takes (keys_bytes p.removed_keys) c d
    → Takes (spell_records p.records) d e → e.rest ≡ [] → start.rest ≡ spell_payload_in f p
payload_taken f p start a b c d e header removed rows keys records end =
    in_front (spell_header_in f p.header) start a _ header
    (in_front (ids_bytes p.removed) a b _ removed
    (in_front (spell_rows_in f p.rows) b c _ rows (in_front (keys_bytes p.removed_keys) c d _ keys (in_front (spell_records p.records) d e [] records end))))
    ∙ sym (payload_parts f p []) ∙ append-nil (spell_payload_in f p)
