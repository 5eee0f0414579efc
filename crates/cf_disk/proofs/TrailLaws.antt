-- How a trail goes on, by the parts in which it lies.
use Rattle.std.proofs.Common.{◌≡◌, ℕ, ◌+◌, ◌-◌, ◌<◌, ◌≤◌, List, [], ◌∷◌, ◌++◌, length, sym, ◌∙◌, ap, arith}
use Rattle.std.proofs.lemmas.List.{length-append}
use Rattle.cf_disk.specs.Cuts.{total, cut_up}
use Rattle.cf_disk.specs.Trails.{Trail, HasRoom, size_of_call}
use Rattle.cf_disk.specs.TrailParts.{len_of, AreParts}
use Rattle.cf_disk.specs.declared.trails.Head.{Head}
use Rattle.cf_disk.proofs.CutLaws.{length-cut_up, total-push, cut_up-push, total-cut_up}

module _ (heads : List Head) (bytes : List ℕ) (most most_bytes room bytes_room : ℕ) (parts : AreParts heads bytes most most_bytes room bytes_room)
    (t : Trail) (is : record { calls = cut_up len_of heads bytes; most = most; most_bytes = most_bytes } ≡ t) where
  pub calls_are : length t.calls ≡ length heads
  calls_are = ap (λ (u : Trail). length u.calls) (sym is) ∙ length-cut_up len_of heads bytes

  bytes_are : total size_of_call t.calls ≡ length bytes
  bytes_are = ap (λ (u : Trail). total size_of_call u.calls) (sym is) ∙ total-cut_up len_of heads bytes parts.whole

  most_is : t.most ≡ most
  most_is = ap (λ (u : Trail). u.most) (sym is)

  most_bytes_is : t.most_bytes ≡ most_bytes
  most_bytes_is = ap (λ (u : Trail). u.most_bytes) (sym is)

  pub gives_room : (n : ℕ) → length heads < most → n ≤ most_bytes - length bytes → HasRoom n t
  gives_room n a b = record { calls = omega (arith, a, calls_are, most_is); bytes = omega (arith, b, bytes_are, most_bytes_is, parts.bytes_fit) }

  pub room_calls : (n : ℕ) → HasRoom n t → length heads < most
  room_calls n r = omega (arith, r.calls, calls_are, most_is)

  pub room_bytes : (n : ℕ) → HasRoom n t → length bytes + n ≤ most_bytes
  room_bytes n r = omega (arith, r.bytes, bytes_are, most_bytes_is)

  pub parts_pushed : (head : Head) (new : List ℕ) (h : List Head) (b : List ℕ) (r br : ℕ) → HasRoom (length new) t → head.len ≡ length new
      → h ≡ heads ++ head ∷ [] → b ≡ bytes ++ new → room ≤ r → bytes_room ≤ br → AreParts h b most most_bytes r br
  parts_pushed head new h b r br has len h_is b_is rs brs = rw (h_is, b_is) (record {
    whole = omega (arith, total-push len_of heads head, length-append bytes new, parts.whole, len);
    calls_fit = omega (arith, length-append heads (head ∷ []), room_calls (length new) has);
    bytes_fit = omega (arith, length-append bytes new, room_bytes (length new) has);
    room_is = omega (arith, parts.room_is, rs);
    bytes_room_is = omega (arith, parts.bytes_room_is, brs);
  })

  pub trail_pushed : (head : Head) (new : List ℕ) (h : List Head) (b : List ℕ) → head.len ≡ length new → h ≡ heads ++ head ∷ [] → b ≡ bytes ++ new
      → ◌≡◌ {A = Trail} (record { calls = cut_up len_of h b; most = most; most_bytes = most_bytes }) (record { calls = t.calls ++ (head, new) ∷ []; most = t.most; most_bytes = t.most_bytes })
  trail_pushed head new h b len h_is b_is = rw (h_is, b_is, cut_up-push len_of heads head bytes new parts.whole len)
      (ap (λ (u : Trail). record { calls = u.calls ++ (head, new) ∷ []; most = u.most; most_bytes = u.most_bytes }) is)
