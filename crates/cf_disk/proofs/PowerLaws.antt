-- How a book of power cuts goes on, by the parts in which it lies.
use Rattle.std.proofs.Common.{◌≡◌, ℕ, suc, ◌+◌, ◌<◌, ◌≤◌, Bool, false, List, [], ◌∷◌, ◌++◌, length, sym, ◌∙◌, ap, arith}
use Rattle.std.proofs.Math.Nat.{suc-mul}
use Rattle.std.proofs.lemmas.Nat.{mul-le}
use Rattle.std.proofs.lemmas.Bool.{lt-ltb, le-ltb}
use Rattle.std.proofs.lemmas.List.{length-append}
use Rattle.cf_base.specs.declared.policies.Choice.{Choice}
use Rattle.cf_disk.specs.Cuts.{cut_up}
use Rattle.cf_disk.specs.PowerBooks.{PowerBook, AreImages, added}
use Rattle.cf_disk.proofs.CutLaws.{length-cut_up, total-push, cut_up-push, total_same}

module _ (choices : List Choice) (images : List ℕ) (size most room image_room : ℕ) (told : Bool) (parts : AreImages choices images size most room image_room)
    (p : PowerBook) (is : record { kept = cut_up (λ (c : Choice). size) choices images; size = size; most = most; told = told } ≡ p) where
  kept_are : length p.kept ≡ length choices
  kept_are = ap (λ (q : PowerBook). length q.kept) (sym is) ∙ length-cut_up (λ (c : Choice). size) choices images

  most_is : p.most ≡ most
  most_is = ap (λ (q : PowerBook). q.most) (sym is)

  pub size_is : p.size ≡ size
  size_is = ap (λ (q : PowerBook). q.size) (sym is)

  -- one more image has room
  pub image_fits : length choices < most → length images + size ≤ image_room
  image_fits lt = omega (arith, parts.whole, parts.image_room_is, total_same size choices, suc-mul (length choices) size, mul-le (suc (length choices)) size most size (omega (arith, lt)) (omega arith))

  pub images_added : (choice : Choice) (image : List ℕ) (cs : List Choice) (b : List ℕ) (r br : ℕ) → length choices < most → length image ≡ size
      → cs ≡ choices ++ choice ∷ [] → b ≡ images ++ image → room ≤ r → image_room ≤ br → AreImages cs b size most r br
  images_added choice image cs b r br lt len cs_is b_is rs brs = rw (cs_is, b_is) (record {
    whole = omega (arith, total-push (λ (c : Choice). size) choices choice, length-append images image, parts.whole, len);
    fit = omega (arith, length-append choices (choice ∷ []), lt);
    room_is = omega (arith, parts.room_is, rs);
    image_room_is = omega (arith, parts.image_room_is, brs);
  })

  pub book_added : (choice : Choice) (image : List ℕ) (cs : List Choice) (b : List ℕ) → length choices < most → length image ≡ size → cs ≡ choices ++ choice ∷ [] → b ≡ images ++ image
      → ◌≡◌ {A = PowerBook} (record { kept = cut_up (λ (c : Choice). size) cs b; size = size; most = most; told = told }) (added choice image p)
  book_added choice image cs b lt len cs_is b_is =
      rw (cs_is, b_is, cut_up-push (λ (c : Choice). size) choices choice images image parts.whole (sym len), lt-ltb (length p.kept) p.most (omega (arith, kept_are, most_is, lt)))
      (ap (λ (q : PowerBook). record { kept = q.kept ++ (choice, image) ∷ []; size = q.size; most = q.most; told = q.told }) is)

  pub book_full : (choice : Choice) (image : List ℕ) → most ≤ length choices
      → ◌≡◌ {A = PowerBook} (record { kept = cut_up (λ (c : Choice). size) choices images; size = size; most = most; told = false }) (added choice image p)
  book_full choice image le =
      rw (le-ltb (length p.kept) p.most (omega (arith, kept_are, most_is, le)))
      (ap (λ (q : PowerBook). record { kept = q.kept; size = q.size; most = q.most; told = false }) is)
