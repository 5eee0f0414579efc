-- Three writes and a sync.
use Rattle.std.proofs.Common.{◌≡◌, inl, ℕ, ◌+◌, ◌≤◌, List, [], ◌∷◌, ◌++◌, length, sym, ◌∙◌, ap, arith}
use Rattle.std.specs.Int.{w32, to_be_bytes}
use Rattle.cf_disk.specs.Disk.{State, part, SameBut, Holds, Near, Follows, Goes, Leaves}
use Rattle.cf_disk.specs.Leaving.{leaves_weaker, leaves_write, near_on, near_wider}
use Rattle.cf_disk.specs.Parts.{part_same, part-append, same_wider, same_then, holds_same, holds_part}
use Rattle.cf_journal.specs.Steps.{Records, Stages, body}

-- three writes in a range
pub third : (a b c d : State) (at n k1 n1 k2 n2 k3 n3 : ℕ) → Follows k1 n1 a b → Goes a b → Follows k2 n2 b c → Goes b c → Follows k3 n3 c d → Goes c d
    → at ≤ k1 → k1 + n1 ≤ at + n → at ≤ k2 → k2 + n2 ≤ at + n → at ≤ k3 → k3 + n3 ≤ at + n → Leaves a d (Near a at n)
third a b c d at n k1 n1 k2 n2 k3 n3 f1 g1 f2 g2 f3 g3 l1 h1 l2 h2 l3 h3 =
    let one : Leaves a b (Near a at n) = leaves_weaker a b (Near a k1 n1) (Near a at n) (leaves_write a b k1 n1 f1 g1) (near_wider a at n k1 n1 l1 h1) in
    near_on a c d at n k3 n3 (near_on a b c at n k2 n2 one f2 g2 l2 h2) f3 g3 l3 h3

pub records : (at : ℕ) (b p s0 s1 s2 s3 s4 : List ℕ) → at + (5 + length p) ≤ length s0 → b ≡ to_be_bytes w32 (length p) → Holds at b s0 s1 → Holds (at + 4) p s1 s2 → Holds (at + 4 + length p) (0 ∷ []) s2 s3 → s4 ≡ s3 → Records at p s0 s4
unfolding body
records at b p s0 s1 s2 s3 s4 room b-is h1 h2 h3 same4 =
    let n = 5 + length p in
    let four : length b ≡ 4 = ap length b-is in
    let q1 : SameBut at (length b) s0 s1 = holds_same at b s0 s1 (omega arith) h1 in
    let r1 : at + 4 + length p ≤ length s1 = omega (arith, q1.size) in
    let q2 : SameBut (at + 4) (length p) s1 s2 = holds_same (at + 4) p s1 s2 r1 h2 in
    let r2 : at + 4 + length p + 1 ≤ length s2 = omega (arith, q1.size, q2.size) in
    let q3 : SameBut (at + 4 + length p) 1 s2 s3 = holds_same (at + 4 + length p) (0 ∷ []) s2 s3 r2 h3 in
    let a1 : part at 4 s3 ≡ to_be_bytes w32 (length p) = part_same _ _ _ _ q3 at 4 (inl (omega arith)) ∙ part_same _ _ _ _ q2 at 4 (inl (omega arith)) ∙ ap (λ (k : ℕ). part at k s1) (sym four) ∙ holds_part at b s0 s1 (omega arith) h1 ∙ b-is in
    let a2 : part (at + 4) (length p) s3 ≡ p = part_same _ _ _ _ q3 (at + 4) (length p) (inl (omega arith)) ∙ holds_part (at + 4) p s1 s2 r1 h2 in
    let a3 : part (at + 4 + length p) 1 s3 ≡ 0 ∷ [] = holds_part (at + 4 + length p) (0 ∷ []) s2 s3 r2 h3 in
    let count : 5 + length p ≡ 4 + (length p + 1) = omega arith in
    record {
      body_is = ap (λ (l : List ℕ). part at (5 + length p) l) same4
          ∙ ap (λ (k : ℕ). part at k s3) count ∙ part-append at 4 (length p + 1) s3 ∙ (λ i. a1 i ++ (part-append (at + 4) (length p) 1 s3 ∙ (λ j. a2 j ++ a3 j)) i);
      same = ap' same4 (same_then at n s0 s2 s3 (same_then at n s0 s1 s2 (same_wider at n at (length b) s0 s1 q1 (omega arith) (omega arith)) (same_wider at n (at + 4) (length p) s1 s2 q2 (omega arith) (omega arith))) (same_wider at n (at + 4 + length p) 1 s2 s3 q3 (omega arith) (omega arith)));
    }
  where
    ap' : s4 ≡ s3 → SameBut at (5 + length p) s0 s3 → SameBut at (5 + length p) s0 s4
    ap' is same = rw is same

pub stages : (at : ℕ) (h image s0 s1 s2 s3 s4 : List ℕ) → at + 1572864 ≤ length s0 → length h ≡ 27 → length image ≤ 1306624 → Holds (at + 1) h s0 s1 → Holds (at + 4096) image s1 s2 → Holds (at + 1310720) (0 ∷ []) s2 s3 → s4 ≡ s3 → Stages at h image s0 s4
stages at h image s0 s1 s2 s3 s4 room len short h1 h2 h3 same4 =
    let n : ℕ = 1572863 in
    let q1 : SameBut (at + 1) (length h) s0 s1 = holds_same (at + 1) h s0 s1 (omega arith) h1 in
    let r1 : at + 4096 + length image ≤ length s1 = omega (arith, q1.size) in
    let q2 : SameBut (at + 4096) (length image) s1 s2 = holds_same (at + 4096) image s1 s2 r1 h2 in
    let r2 : at + 1310720 + 1 ≤ length s2 = omega (arith, q1.size, q2.size) in
    let q3 : SameBut (at + 1310720) 1 s2 s3 = holds_same (at + 1310720) (0 ∷ []) s2 s3 r2 h3 in
    let done : Stages at h image s0 s3 = record {
      header_is = part_same _ _ _ _ q3 (at + 1) 27 (inl (omega arith)) ∙ part_same _ _ _ _ q2 (at + 1) 27 (inl (omega arith))
          ∙ ap (λ (k : ℕ). part (at + 1) k s1) (sym len) ∙ holds_part (at + 1) h s0 s1 (omega arith) h1;
      image_is = part_same _ _ _ _ q3 (at + 4096) (length image) (inl (omega arith)) ∙ holds_part (at + 4096) image s1 s2 r1 h2;
      gate_is = holds_part (at + 1310720) (0 ∷ []) s2 s3 r2 h3;
      same = same_then (at + 1) n s0 s2 s3 (same_then (at + 1) n s0 s1 s2 (same_wider (at + 1) n (at + 1) (length h) s0 s1 q1 (omega arith) (omega arith)) (same_wider (at + 1) n (at + 4096) (length image) s1 s2 q2 (omega arith) (omega arith))) (same_wider (at + 1) n (at + 1310720) 1 s2 s3 q3 (omega arith) (omega arith));
    } in
    rw same4 done
