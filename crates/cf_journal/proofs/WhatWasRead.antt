-- What was read is what the disk stands for.
use Rattle.std.proofs.Common.{◌≡◌, ℕ, zero, suc, ◌+◌, ◌<◌, ◌≤◌, true, false, List, [], ◌∷◌, length, take, sym, ◌∙◌, ap, subst, arith, Option, Some, None}
use Rattle.std.specs.Prelude.{IfSome, IfNone}
use Rattle.cf_codec.specs.declared.formats.Format.{Format}
use Rattle.cf_codec.specs.declared.formats.Format.TheVariants.{First, Second}
use Rattle.cf_disk.specs.Disk.{State, part, Only, size_of}
use Rattle.cf_disk.specs.Parts.{length-part}
use Rattle.cf_journal.specs.declared.sides.Side.{Side}
use Rattle.cf_journal.specs.Format.{base, journal_at, journal_len, Chosen, Overruns, Spells, size_of_records}
use Rattle.cf_journal.specs.Content.{Content, StandsAt, Stands}
use Rattle.cf_journal.specs.Settled.{Ready, Settled, IsFitSize}
use Rattle.cf_journal.proofs.Choosing.{one_chosen}
use Rattle.cf_journal.specs.Halves.{base_low, image_room, journal_ends}
use Rattle.cf_journal.specs.Places.{IsFound, IsOpened, journal_of}
use Rattle.cf_journal.specs.declared.found.Found.{Found}
use Rattle.cf_journal.specs.declared.journals.Opened.{Opened}
use Rattle.cf_journal.proofs.Reading.{overruns_none}

pub at_some : {X : Type 0} (o : Option X) (x : X) (P : X → Type 0) → o ≡ Some x → IfSome o P → P x
at_some o x P is h = subst (λ u. IfSome u P) is h

pub at_none : {X : Type 0} (o : Option X) (P : Type 0) → o ≡ None → IfNone o P → P
at_none o P is h = subst (λ u. IfNone u P) is h

module _ (xs : List ℕ) (side : Side) (f : Format) (g len b : ℕ) (chosen : Chosen f xs side g len) (b_is : b ≡ base side) (size : 3145728 ≤ length xs) (image : List ℕ) (image_is : image ≡ part (b + 4096) len xs) where
  at_base : image ≡ part (base side + 4096) len xs
  at_base = image_is ∙ ap (λ (k : ℕ). part (k + 4096) len xs) b_is

  same_length : len ≡ length image
  same_length = sym (ap length at_base ∙ length-part (base side + 4096) len xs (omega (arith, image_room f len chosen.slot.short, base_low side)))

  pub image_chosen : Chosen f xs side g (length image)
  image_chosen = subst (λ (n : ℕ). Chosen f xs side g n) same_length chosen

  pub image_read : image ≡ part (base side + 4096) (length image) xs
  image_read = at_base ∙ ap (λ (n : ℕ). part (base side + 4096) n xs) same_length

-- the image and the journal stand on the disk
pub image_stands : (side : Side) (f : Format) (g len b : ℕ) (xs ys : List ℕ) → Chosen f xs side g len → b ≡ base side → 3145728 ≤ length xs → ys ≡ xs → b + 4096 + len ≤ length ys
image_stands side f g len b xs ys chosen b_is size same = omega (arith, image_room f len chosen.slot.short, base_low side, b_is, size, ap length same)

pub journal_stands : (side : Side) (f : Format) (b at n : ℕ) → b ≡ base side → at ≡ journal_at f → n ≡ journal_len f → b + at + n ≤ 3145728
journal_stands side f b at n b_is at_is n_is = omega (arith, journal_ends f, base_low side, b_is, at_is, n_is)

pub journal_read : (xs : List ℕ) (side : Side) (f : Format) (b at n : ℕ) (bytes : List ℕ) → bytes ≡ part (b + at) n xs → b ≡ base side → at ≡ journal_at f → n ≡ journal_len f → bytes ≡ part (base side + journal_at f) (journal_len f) xs
journal_read xs side f b at n bytes is b_is at_is n_is = is ∙ (λ i. part (b_is i + at_is i) (n_is i) xs)

pub found_is : (f : Found) (xs : List ℕ) → Chosen f.format xs f.side f.generation (length f.image) → f.image ≡ part (base f.side + 4096) (length f.image) xs → (bytes : List ℕ) → bytes ≡ journal_of f xs → (ps : List (List ℕ)) → f.payloads ≡ ps
    → (f.overruns ≡ false → Spells ps bytes) → (f.overruns ≡ true → Overruns ps bytes) → f.end ≡ size_of_records ps → f.end < journal_len f.format → IsFound f xs
found_is f xs chosen image bytes is ps same whole torn end short = record {
  chosen = chosen;
  image = image;
  whole = λ w. subst (λ (l : List ℕ). Spells f.payloads l) is (subst (λ (qs : List (List ℕ)). Spells qs bytes) (sym same) (whole w));
  torn = λ w. subst (λ (l : List ℕ). Overruns f.payloads l) is (subst (λ (qs : List (List ℕ)). Overruns qs bytes) (sym same) (torn w));
  end = end ∙ ap size_of_records (sym same);
  short = let e = ap size_of_records same in omega (arith, end, short, e);
}

-- what was found is the content, where each record fits

pub found_stands : (f : Found) (xs : List ℕ) → IsFound f xs → f.overruns ≡ false → StandsAt xs f.side f.generation (record { format = f.format; image = f.image; payloads = f.payloads })
found_stands f xs is whole = record { chosen = is.chosen; image = is.image; payloads = is.whole whole }

pub found_none : (f : Found) (xs : List ℕ) → IsFound f xs → f.overruns ≡ true → (x : Content) → Stands xs x → ⊥
found_none f xs is torn x stands =
    let same = one_chosen xs stands.0 f.side x.format f.format stands.1 (length x.image) f.generation (length f.image) stands.2.chosen is.chosen in
    let here : Spells x.payloads (journal_of f xs) =
    subst (λ (s : Side). Spells x.payloads (part (base s + journal_at f.format) (journal_len f.format) xs)) same.0 (subst (λ (e : Format). Spells x.payloads (part (base stands.0 + journal_at e) (journal_len e) xs)) same.1 stands.2.payloads) in
    overruns_none f.payloads (journal_of f xs) (is.torn torn) x.payloads here

pub read_ready : (old new : State) (side : Side) (g : ℕ) (x : Content) → new.seen ≡ old.seen → Only old.seen new → IsFitSize (size_of old) → StandsAt old.seen side g x → Ready new side g x
read_ready old new side g x seen only size stands = record {
  stands = subst (λ (l : List ℕ). StandsAt l side g x) (sym seen) stands;
  durable = λ d left. ap (λ (l : List ℕ). take 3145728 l) (only d left ∙ sym seen);
  size = subst (λ (l : List ℕ). IsFitSize (length l)) (sym seen) size;
}

-- records at the front of the payloads of a journal

journal_most : (f : Format) → journal_len f ≤ 524288
journal_most First = omega arith
journal_most Second = omega arith

fewer : (n : ℕ) (ps : List (List ℕ)) → size_of_records (take n ps) ≤ size_of_records ps
fewer zero ps = omega arith
fewer (suc n) [] = omega arith
fewer (suc n) (p ∷ ps) = omega (arith, fewer n ps)

pub front_short : (n : ℕ) (ps qs : List (List ℕ)) (f : Format) → ps ≡ qs → size_of_records qs < journal_len f → size_of_records (take n ps) ≤ 524288
front_short n ps qs f same short = omega (arith, fewer n ps, ap size_of_records same, short, journal_most f)

pub front_ends : (n : ℕ) (ps qs : List (List ℕ)) (f : Format) (side : Side) (b at size : ℕ) → ps ≡ qs → size_of_records qs < journal_len f → b ≡ base side → at ≡ journal_at f → size ≡ size_of_records (take n ps) → b + at + size + 1 ≤ 3145728
front_ends n ps qs f side b at size same short b_is at_is size_is = omega (arith, fewer n ps, ap size_of_records same, short, b_is, at_is, size_is, journal_ends f, base_low side)

-- what is opened, where each record fits
pub opened_settled : (f : Found) (o : Opened) (old new : State) → IsFound f old.seen → f.overruns ≡ false → IsOpened f o → new.seen ≡ old.seen → Only old.seen new → IsFitSize (size_of old) → Settled o.journal new (record { format = o.format; image = o.image; payloads = o.payloads })
opened_settled f o old new found whole is seen only size = record {
  usable = is.usable;
  ready = let ready = read_ready old new f.side f.generation (record { format = f.format; image = f.image; payloads = f.payloads }) seen only size (found_stands f old.seen found whole) in
      subst (λ (x : Content). Ready new o.journal.side o.journal.generation x) (λ i. record { format = sym is.format i; image = sym is.image i; payloads = sym is.payloads i })
      (subst (λ (g : ℕ). Ready new o.journal.side g (record { format = f.format; image = f.image; payloads = f.payloads })) (sym is.generation)
      (subst (λ (s : Side). Ready new s f.generation (record { format = f.format; image = f.image; payloads = f.payloads })) (sym is.side) ready));
  format = is.journal_format ∙ sym is.format;
  end = is.end ∙ found.end ∙ ap size_of_records (sym is.payloads);
}
