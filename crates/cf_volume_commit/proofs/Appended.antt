-- What a content tells with one more payload, and with an image in place of all.
use Rattle.std.proofs.Common.{◌≡◌, inl, inr, ⊎_elim, ℕ, ◌+◌, Bool, true, false, cond, List, [], ◌∷◌, ◌++◌, length, Option, Some, None, refl, sym, ◌∙◌, ap, subst, arith}
use Rattle.std.specs.Prelude.{OnOk, Result, Ok, Err}
use Rattle.cf_volume_commit.specs.Leading.{Follows, LeadsTo, is_full, text_in}
use Rattle.cf_codec.specs.declared.formats.Format.{Format}
use Rattle.cf_codec.specs.declared.formats.Format.TheVariants.{Second}
use Rattle.cf_disk.specs.Disk.{Leaves, State, size_of}
use Rattle.cf_disk.specs.Leaving.{leaves_weaker}
use Rattle.cf_volume_image.specs.Contents.{image_of}
use Rattle.cf_volume_image.specs.Spelled.{AreSpelled, IsImage, IsPayload}
use Rattle.cf_volume_image.specs.States.{IsAfter, Tells, TellsIn}
use Rattle.cf_volume_image.specs.declared.contents.Contents.{Contents}
use Rattle.cf_journal.specs.Content.{Content, IsBeforeOrAfter, appended}
use Rattle.cf_journal.specs.Halves.{settled_image}
use Rattle.cf_journal.specs.Settled.{Settled}
use Rattle.cf_journal.specs.declared.journals.Journal.{Journal}
use Rattle.cf_model.specs.Formats.{Image, Payload, after_payload, after_payloads, spell_image, spell_payload}
use Rattle.cf_volume_points.specs.Saving.{IsSaving}

spelled_more : (texts : List (List ℕ)) (ps : List Payload) (t : List ℕ) (p : Payload) → AreSpelled texts ps → IsPayload p → t ≡ spell_payload p → AreSpelled (texts ++ t ∷ []) (ps ++ p ∷ [])
spelled_more [] [] t p h is e = (is, e, tt)
spelled_more [] (q ∷ qs) t p h is e = absurd h
spelled_more (u ∷ us) [] t p h is e = absurd h
spelled_more (u ∷ us) (q ∷ qs) t p h is e = (h.0, h.1, spelled_more us qs t p h.2 is e)

after_more : (i : Image) (ps : List Payload) (p : Payload) → after_payloads i (ps ++ p ∷ []) ≡ after_payload (after_payloads i ps) p
after_more i [] p = refl
after_more i (q ∷ qs) p = after_more (after_payload i q) qs p

pub tells_appended : (x : Content) (t : List ℕ) (i j : Image) → Tells x.image x.payloads i → IsAfter t i j → Tells x.image (x.payloads ++ t ∷ []) j
tells_appended x t i j h after = record {
  value = h.value;
  changes = h.changes ++ after.value ∷ [];
  is_image = h.is_image;
  image_is = h.image_is;
  payloads_are = spelled_more x.payloads h.changes t after.value h.payloads_are after.is_payload after.text_is;
  state_is = after.new_is ∙ ap (λ (k : Image). after_payload k after.value) h.state_is ∙ sym (after_more h.value h.changes after.value);
}

pub tells_rewritten : (text : List ℕ) (i : Image) → IsImage i → text ≡ spell_image i → Tells text [] i
tells_rewritten text i is e = record { value = i; changes = []; is_image = is; image_is = e; payloads_are = tt; state_is = refl }

-- a journal's content before or after is one within a commit
pub saving : (old new : State) (x y : Content) (i : Image) → y.format ≡ Second → Tells y.image y.payloads i → Leaves old new (IsBeforeOrAfter old x y) → Leaves old new (IsSaving old x i)
saving old new x y i second told leaves = leaves_weaker old new (IsBeforeOrAfter old x y) (IsSaving old x i) leaves
    (λ c h. ⊎_elim (λ before. inl before) (λ after. inr (y, after.0, second, told, after.1)) h)

-- a call that does not come to the disk
pub untouched : (s : State) (j : Journal) (x : Content) (i : Image) → ((c : List ℕ) → s.may_leave c → length c ≡ size_of s) → Settled j s x → Leaves s s (IsSaving s x i)
untouched s j x i size settled = record {
  later = omega arith;
  now = λ c left. inl ((j.side, j.generation, settled_image j s x settled c left (size c left)), (c, left, refl));
  since = λ t c le left. inl left;
}

-- both for a text that leads on, and for none
pub follows_leads : (x : Content) (text : Option (List ℕ)) (t : List ℕ) (i : Image) (c : Contents) → x.format ≡ Second → text ≡ Some t → Follows x text i c → Tells (appended x t).image (appended x t).payloads (image_of c)
follows_leads x text t i c second is f = tells_appended x t i (image_of c) (subst (λ (g : Format). TellsIn g x.image x.payloads i) second f.told) (subst (λ (o : Option (List ℕ)). LeadsTo o i (image_of c)) is f.leads)

-- the text that has room is the one that leads on

pub in_text : (j : Journal) (text : Option (List ℕ)) (t : List ℕ) → Some t ≡ text_in j text → text ≡ Some t
in_text j None t e = let z : None ≡ Some t = sym e in cc
in_text j (Some u) t e = by (is_full j.format (j.end + (6 + length u))) e
  where
    by : (b : Bool) → Some t ≡ cond b None (Some u) → Some u ≡ Some t
    by true h = let z : None ≡ Some t = sym h in cc
    by false h = sym h

pub on_ok_map : {T E P Q : Type 0} (r : Result T E) → (P → Q) → OnOk r P → OnOk r Q
on_ok_map (Ok t) f h = f h
on_ok_map (Err e) f h = h
